-- The outer value after a put, a fetch, a removal, and a buffer that is emptied.
use Rattle.std.specs.Prelude.{ℕ, Bool, true, false, List, [], ◌∷◌, ◌++◌}
use Rattle.sig_kinds.specs.declared.signal.Signal.{Signal}
use Rattle.sig_layout.specs.declared.entry.Entry.{Entry}
use Rattle.sig_layout.specs.declared.entry.Entry.TheVariants.{Direct, Fetch, Install, Remove}
use Rattle.sig_layout.specs.declared.outer.Outer.{Outer}

-- the entry of a put, and that of an install where the put switched the mode on
abbrev pub put_entries : Bool → Bool → List Entry
put_entries refused true = Direct refused ∷ Install ∷ []
put_entries refused false = Direct refused ∷ []

abbrev pub added : Outer → Signal → Bool → Bool → Outer
added o x refused switched = record { signals = o.signals ++ x ∷ []; journal = o.journal ++ put_entries refused switched }

abbrev pub emptied : Outer → ℕ → Outer
emptied o moved = record { signals = []; journal = o.journal ++ Fetch moved ∷ [] }

abbrev pub removed : Outer → Outer
removed o = record { signals = o.signals; journal = o.journal ++ Remove ∷ [] }

abbrev pub behind : Outer → List Signal → Outer
behind o l = record { signals = o.signals ++ l; journal = o.journal }
