-- No process's part has a pid of more than 32 bits.
use Rattle.std.proofs.Common.{◌≡◌, ℕ, ◌^◌, ◌≤◌, List, length, Option, Some, None, Err, refl, arith}
use Rattle.std.specs.Prelude.{IfSome, ◌==◌, true}
use Rattle.std.proofs.lemmas.Bool.Decides.{Decides-eqb}
use Rattle.sig_record.specs.RecordText.{head_text}
use Rattle.sig_record.specs.Phrases.{IsNarrow}
use Rattle.sig_record.specs.RecordFronts.{is_process_name, head_front}
use Rattle.sig_record.specs.RecordLines.{report_lines}
use Rattle.sig_record.proofs.ReaderLaws.{IsReadAs}
use Rattle.sig_record.proofs.LineLaws.{head_law}

too_wide : (pid : ℕ) (o : Option ((ℕ × List ℕ) × List ℕ)) (bytes : List ℕ) → 2 ^ 32 ≤ pid
    → IfSome o (IsReadAs (λ (x : ℕ × List ℕ). head_text x.0 x.1) (λ (x : ℕ × List ℕ). (IsNarrow x.0 × (is_process_name x.1 ≡ true)) × ((x.0 == pid) ≡ true)) bytes) → o ≡ None
too_wide pid None bytes wide h = refl
too_wide pid (Some x) bytes wide h = absurd (omega (arith, wide, h.0.0.0, (Decides-eqb x.0.0 pid).0 h.0.1))

-- its first line can't stand
pub wide_is_err : (pid : ℕ) (bytes : List ℕ) → 2 ^ 32 ≤ pid → report_lines pid bytes ≡ Err (length bytes)
unfolding report_lines
wide_is_err pid bytes wide = rw (too_wide pid (head_front pid bytes) bytes wide ((head_law pid).found bytes)) refl
