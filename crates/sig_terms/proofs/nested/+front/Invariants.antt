use Rattle.std.proofs.Common.{◌≡◌, ◌+◌, ◌*◌, ◌-◌}
use Rattle.sig_terms.specs.Fronts.{term_at, elements_at}
use Rattle.sig_terms.proofs.nested.+front.Given as goal

-- what is left goes on from the elements so far
abbrev pub invariant-elements-loop : goal.invariant-elements-loop
invariant-elements-loop l =
    elements_at (term_at l.depth) l.close (l.nodes - l.counter) l.left l.items l.rest ≡ elements_at (term_at l.depth) l.close l.nodes l.nodes l.fn.items l.bytes

abbrev pub decreases-front : goal.decreases-front
decreases-front l = 5 * l.depth

abbrev pub decreases-elements : goal.decreases-elements
decreases-elements l = 5 * l.depth + 1

abbrev pub decreases-inside : goal.decreases-inside
decreases-inside l = 5 * l.depth + 2

abbrev pub decreases-compound : goal.decreases-compound
decreases-compound l = 5 * l.depth + 3

abbrev pub decreases-node : goal.decreases-node
decreases-node l = 5 * l.depth + 4
