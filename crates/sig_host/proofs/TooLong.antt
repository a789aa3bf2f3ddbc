-- A source that has more bytes than a script may have spells none.
use Rattle.std.proofs.Common.{◌≡◌, ℕ, ◌<◌, List, length, length-append, false, Option, Some, None, refl, ap, arith}
use Rattle.std.specs.Prelude.{nat_le, IfSome}
use Rattle.std.proofs.lemmas.Bool.Decides.{nat_tests}
use Rattle.sig_base.specs.Flow.{Took}
use Rattle.sig_tokens.specs.declared.fault.FaultKind.TheVariants.{TooLong}
use Rattle.sig_reader.specs.declared.reader.TheConstants.{MOST_BYTES}
use Rattle.sig_reader.specs.Grammar.{script_of}
use Rattle.sig_edge.specs.Streams.{IsRefused}

above : (n : ℕ) → MOST_BYTES < n → nat_le n MOST_BYTES ≡ false
above n h = grind (arith, nat_tests)

refused : (bytes : List ℕ) → MOST_BYTES < length bytes → IsRefused 0 TooLong bytes
unfolding script_of
refused bytes h = rw (above (length bytes) h) refl

pub too_long : (left after : Option (List ℕ)) (into : List ℕ) → Took left after into → MOST_BYTES < length into → IfSome left (IsRefused 0 TooLong)
too_long None after into took h = tt
too_long (Some bytes) after into took h =
    refused bytes (omega (arith, ap length took.1, length-append {A = ℕ}))
