-- An instruction can't be executed exactly where it is a receive without `after` for which the scan finds no message.
use Rattle.std.proofs.Common.{◌≡◌, ℕ, ◌-◌, Option, Some, None, slice_get, refl, ap, ◌∙◌}
use Rattle.std.specs.Prelude.{◌↔◌, IsSome}
use Rattle.sig_patterns.specs.Scanning.{Hit}
use Rattle.sig_program.specs.declared.instruction.Instr.{Instr}
use Rattle.sig_program.specs.declared.instruction.Instr.TheVariants as instr
use Rattle.sig_program.specs.declared.instruction.After.{After}
use Rattle.sig_program.specs.Scripts.{Declared}
use Rattle.sig_model.specs.ProcessState.{ProcessState}
use Rattle.sig_model.specs.Executing.{marked_start, from_mark, hit_from, receiving, exec_body, executing, IsWaiting}

-- what is something is not nothing
some_none : {A C : Type 0} (o : Option A) → o ≡ None → IsSome o → C
some_none (Some x) e some = cc
some_none None e some = cc

module _ (p : Declared) (s : ProcessState) where
  -- a receive can't go on
  abbrev IsStuck : Option After → Option Hit → Type 0
  IsStuck after found = (after ≡ None) × (found ≡ None)

  stuck : (after : Option After) (start from : ℕ) (found : Option Hit) → receiving p s after start from found ≡ None → IsStuck after found
  stuck after start from (Some h) e = some_none (receiving p s after start from (Some h)) e refl
  stuck (Some after) start from None e = some_none (receiving p s (Some after) start from None) e refl
  stuck None start from None e = (refl, refl)

  waits : (o : Option Instr) → slice_get p.instrs (s.counts.place - 1) ≡ o → exec_body from_mark p s o ≡ None → IsWaiting p s
  waits (Some (instr.Receive r)) at e =
      let start : ℕ = marked_start s r.using in
      let w : IsStuck r.after (hit_from start r.clauses s) = stuck r.after start start (hit_from start r.clauses s) e in
      record { receive = r; at = at; bare = w.0; none = w.1 }
  waits o at e = some_none (exec_body from_mark p s o) e refl

  blocked : IsWaiting p s → executing p s ≡ None
  unfolding executing
  blocked w =
      let start : ℕ = marked_start s w.receive.using in
      let found : Option Hit = hit_from start w.receive.clauses s in
      ap (exec_body from_mark p s) w.at ∙ ap (λ after. receiving p s after start start found) w.bare ∙ ap (receiving p s None start start) w.none

  waiting : executing p s ≡ None → IsWaiting p s
  unfolding executing
  waiting = waits (slice_get p.instrs (s.counts.place - 1)) refl

  pub waiting_iff : executing p s ≡ None ↔ IsWaiting p s
  waiting_iff = (waiting, blocked)
