-- How an item is added to a list.
use Rattle.std.specs.Prelude.{◌≡◌, List, [], ◌∷◌, ◌++◌}
use Rattle.sig_lists.specs.declared.pushed.Pushed.{Pushed}
use Rattle.sig_lists.specs.declared.pushed.Pushed.TheVariants.{Added, Memory}

-- the item is at the end, or it comes back and the list is as before
abbrev pub IsPushed : {T : Type 0} → List T → List T → T → Pushed T → Type 0
IsPushed before after item Added = after ≡ before ++ item ∷ []
IsPushed before after item (Memory back) = (after ≡ before) × (back ≡ item)
