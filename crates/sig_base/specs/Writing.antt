-- How writing all of some bytes ended.
use Rattle.std.specs.Prelude.{◌≡◌, ℕ, ◌<◌, List, length, take, Option}
use Rattle.sig_base.specs.Flow.{one_more, Adds}
use Rattle.sig_base.specs.declared.writing.Written.{Written}
use Rattle.sig_base.specs.declared.writing.Written.TheVariants.{Whole, WriteFault}

-- The whole of the bytes was added, and no write failed; or one did, and only the first of them were.
abbrev pub IsWritten : Option (List ℕ) → Option (List ℕ) → ℕ → ℕ → List ℕ → Written → Type 0
IsWritten before after faults_before faults_after bytes Whole = Adds before after bytes × (faults_after ≡ faults_before)
IsWritten before after faults_before faults_after bytes (WriteFault written) =
    (faults_after ≡ one_more faults_before) × (written < length bytes) × Adds before after (take written bytes)
