-- Each event keeps the sizes of terms, and they are right at the opening.
use Rattle.std.proofs.Common.{◌≡◌, ℕ, zero, suc, ◌+◌, max, List, [], ◌∷◌, length, Option, Some, None, slice_get, subst}
use Rattle.std.proofs.lemmas.List.Elements.{All-nil}
use Rattle.std.proofs.lemmas.Option.{MatchOption-at_some, same_Some, none-some}
use Rattle.sig_terms.specs.declared.term.Term.{Term}
use Rattle.sig_kinds.specs.declared.signal.Signal.{Signal}
use Rattle.sig_runs.specs.Rules.{Effect}
use Rattle.sig_runs.specs.Machine.{Machine, At, IsRun}
use Rattle.sig_runs.specs.Crew.{opening_machine}
use Rattle.sig_runs.specs.Everywhere.{HoldEverywhere, HoldAfter, EventKeeps}
use Rattle.sig_runs.proofs.Everywhere.{run_keeps_facts}
use Rattle.sig_program.specs.Scripts.{Declared, Program}
use Rattle.sig_model.specs.declared.event.Event.{Event}
use Rattle.sig_model.specs.declared.event.Did.{Did}
use Rattle.sig_model.specs.declared.event.Did.TheVariants as did
use Rattle.sig_model.specs.ProcessState.{ProcessState, opening_state}
use Rattle.sig_model.specs.Bodies.{Body}
use Rattle.sig_model.specs.Executing.{executing}
use Rattle.sig_model.specs.Handling.{handling}
use Rattle.sig_model.specs.Finishing.{finished, finished_exec}
use Rattle.sig_model.specs.Machine.{execution_of, rules_with, rules_of, opening_from, opening_of}
use Rattle.sig_model.specs.TermSizes.{IsKeptTerm, KindSizes, TableSizes, PostSizes, BodySizes, term_sizes}
use Rattle.sig_model.proofs.Lookups.{mapped_tells}
use Rattle.sig_model.proofs.MatchParts.{empty_values}
use Rattle.sig_model.proofs.StampLemmas.{numbered_all}
use Rattle.sig_model.proofs.ExecutingLemmas.{executing_sizes}
use Rattle.sig_model.proofs.HandlingLemmas.{handling_sizes}

-- the event of a body
finished_sizes : (pid : ℕ) (s : ProcessState) (executed stamp : ℕ) (what : Did) (body : Body) → BodySizes body → HoldAfter term_sizes pid (finished pid s executed stamp what body)
finished_sizes pid s executed stamp what body b =
    (b.tables, numbered_all pid stamp (λ (x : Signal). KindSizes x.kind) PostSizes (λ q n h. h) s.counts.next_numbers body.posts b.posts)

exec_sizes : (pid : ℕ) (o : Option Declared) (s : ProcessState) (effect : Effect ProcessState Signal Event) → execution_of pid o s ≡ Some effect → TableSizes s.tables
    → HoldAfter term_sizes pid effect
exec_sizes pid None s effect e k = cc
exec_sizes pid (Some p) s effect e k =
    let w : (body : Body) × (executing p s ≡ Some body) × (finished_exec pid s body ≡ effect) = mapped_tells (finished_exec pid s) (executing p s) effect e in
    subst (λ (x : Effect ProcessState Signal Event). HoldAfter term_sizes pid x) w.2
    (finished_sizes pid s (s.counts.executed + 1) (s.counts.stamp + 1) (did.Exec s.counts.place) w.0 (MatchOption-at_some (Unit {0}) BodySizes w.0 w.1 (executing_sizes p s k)))

-- each event keeps them
sizes_keep : (turns : ℕ) (part : ℕ → Option Declared) → EventKeeps term_sizes (rules_with turns part)
unfolding rules_with
sizes_keep turns part = record {
  executed = λ pid s effect e k. exec_sizes pid (part pid) s effect e k;
  handled = λ pid s x k h. finished_sizes pid s s.counts.executed (max s.counts.stamp x.stamp + 1) (did.From x.from x.number) (handling pid s x) (handling_sizes pid s x k h);
}

-- they are right in each opening state
from_opening : (pid count : ℕ) (ps : List Declared) (p : ℕ) (s : ProcessState) → slice_get (opening_from pid count ps) p ≡ Some s → TableSizes s.tables
from_opening pid count [] p s e = absurd (none-some s e)
from_opening pid count (d ∷ ps) zero s e =
    subst (λ (z : ProcessState). TableSizes z.tables) (same_Some (opening_state pid count) s e)
    (record { env = empty_values IsKeptTerm; messages = All-nil (λ (m : ℕ × Term). IsKeptTerm m.1); end = tt })
from_opening pid count (d ∷ ps) (suc p) s e = from_opening (pid + 1) count ps p s e

-- they hold at the end of each run
pub sizes_everywhere : (script : Program) (events : List (At Event)) (end : Machine ProcessState Signal) →
    IsRun (rules_of script) (opening_machine (opening_of script)) events end → HoldEverywhere term_sizes end
sizes_everywhere script events end run =
    run_keeps_facts (rules_of script) term_sizes (sizes_keep script.turns (slice_get script.procs)) events (opening_machine (opening_of script)) end
    (record { states = λ p s e. from_opening 0 (length script.procs) script.procs p s e; signals = λ s t. All-nil (λ (x : Signal). KindSizes x.kind) }) run
