use Rattle.sig_search.specs.Growing.{Grows}
use Rattle.test_calls.proofs.search.graph.meet_all.Given as goal

abbrev pub invariant-loop-i : goal.invariant-loop-i
invariant-loop-i l = Grows l.fn.nodes l.nodes
