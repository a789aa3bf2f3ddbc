use Rattle.std.proofs.Common.{◌≡◌, ◌++◌, drop, take, length, map}
use Rattle.std.specs.List.{concat, list_all}
use Rattle.sig_terms.specs.TermText.{term_text, after_comma, joined}
use Rattle.sig_terms.specs.Readable.{is_term}
use Rattle.sig_terms.proofs.term.+append.Given as goal

-- with the texts that are left, it is the whole; what was there stands in front; the terms so far are terms
abbrev pub invariant-append_all-loop-item : goal.invariant-append_all-loop-item
invariant-append_all-loop-item l =
    (l.into.items ++ concat (map after_comma (map term_text (drop l.item-index l.rest))) ≡ l.fn.into.items ++ joined (map term_text l.items))
    × (take (length l.fn.into.items) l.into.items ≡ l.fn.into.items)
    × (list_all (λ b. b) (map is_term (drop l.item-index l.rest)) ≡ list_all (λ b. b) (map is_term l.items))
