-- How far an event moves the counts of a process.
use Rattle.std.proofs.Common.{ℕ, zero, suc, ◌+◌, ◌≤◌, ◌<◌, IfSome, arith}
use Rattle.std.specs.Prelude.{slice_index, replicate}
use Rattle.std.proofs.lemmas.Option.{IfSome_then}
use Rattle.sig_kinds.specs.declared.signal.Signal.{Signal}
use Rattle.sig_program.specs.Scripts.{Declared, IsWithin}
use Rattle.sig_model.specs.declared.event.Did.{Did}
use Rattle.sig_model.specs.ProcessState.{ProcessState, opening_state, downs_due}
use Rattle.sig_model.specs.Bodies.{Body}
use Rattle.sig_model.specs.Executing.{executing}
use Rattle.sig_model.specs.Handling.{handling}
use Rattle.sig_model.specs.Finishing.{numbers_after, finished}
use Rattle.sig_model.specs.Bounds.{IsBounded, IsBoundedBody, posts_to}
use Rattle.sig_model.proofs.AnyNames.{Any, any_signal, any_script}
use Rattle.sig_model.proofs.TableLemmas.{any_tables}
use Rattle.sig_model.proofs.PostCounts.{numbers_grow}
use Rattle.sig_model.proofs.ExecutingLemmas.{executing_kept}
use Rattle.sig_model.proofs.HandlingLemmas.{handling_kept}

module _ (p : Declared) (s : ProcessState) (k : IsBounded p s) where
  -- what the next instruction does, where it can be executed
  pub executing_bounded : IsWithin p → IfSome (executing p s) (IsBoundedBody p s)
  executing_bounded w = IfSome_then (executing p s) (executing_kept Any (Unit {0}) p s (any_tables s.tables) (λ j. k) (λ j. w) (any_script p)) (λ b h. (h (λ n. tt)).bounds tt)

  -- what the process does with a signal
  pub handling_bounded : (pid : ℕ) (x : Signal) → IsBoundedBody p s (handling pid s x)
  handling_bounded pid x = (handling_kept Any (Unit {0}) p s (any_tables s.tables) (λ j. k) pid x (any_signal x)).bounds tt

  -- with the stamp and the numbers
  pub finished_bounded : (pid executed stamp : ℕ) (what : Did) (b : Body) → IsBoundedBody p s b → s.counts.stamp < stamp
      → IsBounded p (finished pid s executed stamp what b).state
  finished_bounded pid executed stamp what b h later = record {
    first = h.first;
    within = h.within;
    arrivals = omega (arith, h.arrivals, k.arrivals, later);
    ids = omega (arith, h.ids, k.ids, later);
    serials = omega (arith, h.serials, k.serials, later);
    numbers = λ peer.
        let grown : slice_index (numbers_after s.counts.next_numbers b.posts) peer ≤ slice_index s.counts.next_numbers peer + posts_to peer b.posts =
        numbers_grow s.counts.next_numbers b.posts peer in
        let before : slice_index s.counts.next_numbers peer + downs_due s.tables ≤ s.counts.stamp + 1 = k.numbers peer in
        let sent : posts_to peer b.posts + downs_due b.state.tables ≤ downs_due s.tables + 1 = h.posts peer in
        omega (arith, grown, before, sent, later);
  }

-- the process as the script opens it
ones : (count peer : ℕ) → slice_index (replicate count 1) peer ≤ 1
ones zero peer = omega arith
ones (suc count) zero = omega arith
ones (suc count) (suc peer) = ones count peer

pub bounded_opening : (p : Declared) (pid count : ℕ) → IsBounded p (opening_state pid count)
bounded_opening p pid count = record {
  first = omega arith;
  within = omega arith;
  arrivals = omega arith;
  ids = omega arith;
  serials = omega arith;
  numbers = λ peer. let one : slice_index (replicate count 1) peer ≤ 1 = ones count peer in omega (arith, one);
}
