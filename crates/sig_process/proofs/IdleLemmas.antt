-- A process that has nothing to do.
use Rattle.std.proofs.Common.{◌≡◌, ℕ, ◌-◌, ◌≤◌, List, length, drop, true, Option, Some, None, refl, sym, ap, ◌∙◌, arith}
use Rattle.std.specs.Prelude.{is_none, slice_get}
use Rattle.std.specs.Option.{option_map}
use Rattle.std.proofs.lemmas.List.{take_all, length-drop, length-map}
use Rattle.sig_terms.specs.declared.term.Term.{Term}
use Rattle.sig_patterns.specs.Inbox.{terms_of, start_of}
use Rattle.sig_patterns.specs.Scanning.{Hit, places_of, hit, scan}
use Rattle.sig_inner.specs.InnerQueue.{InnerQueue}
use Rattle.sig_inner.specs.Receiving.{passed}
use Rattle.sig_program.specs.declared.instruction.After.{After}
use Rattle.sig_program.specs.declared.instruction.Instr.{Instr}
use Rattle.sig_program.specs.declared.instruction.Instr.TheVariants as instr
use Rattle.sig_program.specs.Scripts.{Declared}
use Rattle.sig_model.specs.Executing.{using_ref, IsWaiting}
use Rattle.sig_process.specs.declared.progress.Progress.{Progress}
use Rattle.sig_process.specs.Idling.{is_bare_receive}
use Rattle.sig_process.specs.Progressing.{state_of}
use Rattle.sig_process.specs.Soundness.{IsSaved}

no_hit : (o : Option Hit) → option_map places_of o ≡ None → o ≡ None
no_hit None e = refl
no_hit (Some h) e = cc

no_after : (o : Option After) → is_none o ≡ true → o ≡ None
no_after None e = refl
no_after (Some after) e = cc

-- a receive without `after` that has looked at all messages waits
pub looked_waits : (proc : Declared) (p : Progress) (i : Option Instr) → slice_get proc.instrs (p.counts.place - 1) ≡ i → is_bare_receive i ≡ true → IsSaved i p →
    length p.tables.inner.queue.inbox.messages ≤ passed p.tables.inner.queue.last → IsWaiting proc (state_of p)
looked_waits proc p (Some (instr.Receive r)) at bare saved le =
    let q : InnerQueue = p.tables.inner.queue in
    let start : ℕ = start_of q.inbox (using_ref p.tables.env r.using) in
    let terms : List Term = terms_of q.inbox.messages in
    let ahead : List Term = drop start terms in
    let few : length ahead ≤ passed q.last - start = omega (arith, le, length-drop start terms, length-map q.inbox.messages (λ (m : ℕ × Term). m.1)) in
    record {
      receive = r;
      at = at;
      bare = no_after r.after bare;
      none = no_hit (hit r.clauses p.tables.env ahead) (ap (scan r.clauses p.tables.env) (sym (take_all (passed q.last - start) ahead few)) ∙ saved.none);
    }
looked_waits proc p _ at bare saved le = cc
