-- How reading all of a source ended.
use Rattle.std.specs.Prelude.{◌≡◌, ℕ, ◌+◌, ◌≤◌, List, ◌++◌, length, Option, IfSome}
use Rattle.sig_base.specs.Flow.{one_more, Took}
use Rattle.sig_base.specs.declared.reading.ReadAll.{ReadAll}
use Rattle.sig_base.specs.declared.reading.ReadAll.TheVariants.{Whole, TooLong, ReadFault, Memory}

-- What was taken from the source, how much of it stands in into, and what each answer says beside that. One read failed, or none did.
abbrev pub IsRead : Option (List ℕ) → Option (List ℕ) → ℕ → ℕ → ℕ → List ℕ → ReadAll → Type 0
IsRead before after faults_before faults_after limit into Whole =
    Took before after into × (length into ≤ limit) × IfSome before (λ all. into ≡ all) × (faults_after ≡ faults_before)
IsRead before after faults_before faults_after limit into TooLong =
    Took before after into × (length into ≡ limit + 1) × (faults_after ≡ faults_before)
IsRead before after faults_before faults_after limit into ReadFault =
    Took before after into × (length into ≤ limit) × (faults_after ≡ one_more faults_before)
IsRead before after faults_before faults_after limit into Memory =
    (lost : List ℕ) × Took before after (into ++ lost) × (length (into ++ lost) ≤ limit + 1) × (faults_after ≡ faults_before)
