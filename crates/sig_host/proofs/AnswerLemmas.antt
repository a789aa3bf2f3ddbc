-- What the words and the run that they ask for make of an answer.
use Rattle.std.proofs.Common.{◌≡◌, ◌⊎◌, ◌∙◌, ℕ, List, Option, Some, None, Result, Ok, Err, inl, inr, refl, ap, sym, subst}
use Rattle.std.specs.Prelude.{IfSome}
use Rattle.sig_program.specs.Scripts.{Program}
use Rattle.sig_tokens.specs.Faults.{Fault}
use Rattle.sig_reader.specs.Grammar.{script_of}
use Rattle.sig_tokens.specs.declared.fault.FaultKind.{FaultKind}
use Rattle.sig_base.specs.Flow.{Rose}
use Rattle.sig_base.proofs.Faults.{risen}
use Rattle.sig_host.specs.declared.settings.Settings.{Settings}
use Rattle.sig_host.specs.declared.status.Status.{Status}
use Rattle.sig_host.specs.declared.status.Status.TheVariants.{Done, BadScript, Usage, ReadFault, WriteFault, Memory}
use Rattle.sig_host.specs.Words.{AreSettings}
use Rattle.sig_edge.specs.Streams.{IsFine, IsRefused, IsUnread, IsUnwritten, Reading, Writing}
use Rattle.sig_host.specs.Answers.{AskForWork, HasScript, IsAnswer, IsRun, IsWellGiven}
use Rattle.sig_host.proofs.PlainLemmas.{plain_kept, plain_only}

module _ (r : Reading) (w : Writing) (summary : Option (List ℕ)) where
  no_usage : (n : ℕ) (g : Option ℕ) → IsRun n g r w Usage summary → ⊥
  no_usage n (Some calls) h = h.1
  no_usage n None h = h

  short_of_memory : (n : ℕ) (g : Option ℕ) → IsRun n g r w Memory summary → IsFine r × IsUnwritten w
  short_of_memory n (Some calls) h = (h.0.1, h.1)
  short_of_memory n None h = h

  -- generated work doesn't read the source
  unread : (status : Status) (n : ℕ) (g : Option ℕ) (calls : ℕ) → g ≡ Some calls → IsRun n g r w status summary → IsUnread r
  unread status n (Some c) calls e h = h.0
  unread status n None calls e h = cc

  asked : (words : List (List ℕ)) (s : Settings) (ask : AskForWork words) → AreSettings words s → s.generate ≡ Some ask.1
  unfolding AreSettings
  asked words s ask are = let same : Some s ≡ Some ask.0 = sym are.1 ∙ ask.2 in let one : s ≡ ask.0 = cc in ap (λ (t : Settings). t.generate) one ∙ ask.3

  -- a run that the settings of the words ask for
  pub answered : (words : List (List ℕ)) (s : Settings) (status : Status) → AreSettings words s → IsRun s.workers s.generate r w status summary
      → IsAnswer words r w status summary
  answered words s Done are run = (s, are, run)
  answered words s (BadScript line kind) are run = (s, are, run)
  answered words s ReadFault are run = (s, are, run)
  answered words s WriteFault are run = (s, are, run)
  answered words s Usage are run = absurd (no_usage s.workers s.generate run)
  answered words s Memory are run =
      let short = short_of_memory s.workers s.generate run in
      (short.0, short.1, (λ ask. unread Memory s.workers s.generate ask.1 (asked words s ask are) run))

  no_read_fault : (n : ℕ) (g : Option ℕ) → IsRun n g r w ReadFault summary → Rose r.before r.after
  no_read_fault n (Some calls) h = absurd h.1
  no_read_fault n None h = risen r.before r.after h.0

  no_write_fault : (n : ℕ) (g : Option ℕ) → IsRun n g r w WriteFault summary → Rose w.before w.after
  no_write_fault n (Some calls) h = risen w.before w.after h.1.0
  no_write_fault n None h = risen w.before w.after h.1

  not_refused : (line : ℕ) (kind : FaultKind) (bytes : List ℕ) (script : Program) (left : Option (List ℕ)) → left ≡ Some bytes → script_of bytes ≡ Ok script
      → IfSome left (IsRefused line kind) → ⊥
  not_refused line kind bytes script None e ok h = cc
  not_refused line kind bytes script (Some other) e ok h =
      let same : other ≡ bytes = cc in
      let bad : ◌≡◌ {A = Result Program Fault} (Err (record { line = line; kind = kind })) (Ok script) = sym h ∙ ap script_of same ∙ ok in
      cc

  no_refusal : (n : ℕ) (g : Option ℕ) (line : ℕ) (kind : FaultKind) → HasScript g r → IsRun n g r w (BadScript line kind) summary → ⊥
  no_refusal n (Some calls) line kind has h = h.1
  no_refusal n None line kind has h = not_refused line kind has.0 has.1 r.left has.2 has.3 h.0

  -- with plain words, a script, and no fault, it is done or there is no memory
  pub complete : (words : List (List ℕ)) (status : Status) → IsAnswer words r w status summary → IsWellGiven words r w
      → (status ≡ Done) ⊎ (status ≡ Memory)
  complete words Done h given = inl refl
  complete words Memory h given = inr refl
  complete words Usage h given = absurd (plain_kept words given.settings given.plain h.0)
  complete words ReadFault h given = absurd (given.source (no_read_fault h.0.workers h.0.generate h.2))
  complete words WriteFault h given = absurd (given.out (no_write_fault h.0.workers h.0.generate h.2))
  complete words (BadScript line kind) h given =
      let same = plain_only words given.settings h.0 given.plain h.1 in
      absurd (no_refusal given.settings.workers given.settings.generate line kind given.script
      (subst (λ (s : Settings). IsRun s.workers s.generate r w (BadScript line kind) summary) same h.2))
