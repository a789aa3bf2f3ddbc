use Rattle.std.proofs.Common.{◌≡◌, ◌++◌, drop, take, length, map}
use Rattle.std.specs.List.{concat}
use Rattle.sig_terms.specs.TermText.{after_comma, joined}
use Rattle.sig_canon.specs.ScriptText.{names_of, pattern_written}
use Rattle.sig_canon.proofs.pattern_text.+pattern.Given as goal

-- with the texts that are left, it is the whole; what was there stands in front
abbrev pub invariant-put_elements-loop-item : goal.invariant-put_elements-loop-item
invariant-put_elements-loop-item l =
    (l.into.items ++ concat (map after_comma (map (λ w. w.whole) (map (pattern_written (names_of l.procs)) (drop l.item-index l.rest)))) ≡ l.fn.into.items ++ joined (map (λ w. w.whole) (map (pattern_written (names_of l.procs)) l.items)))
    × (take (length l.fn.into.items) l.into.items ≡ l.fn.into.items)
