-- A reader of lines that refuses a line tells how many bytes are left.
use Rattle.std.proofs.Common.{◌≡◌, ℕ, Result, Err, ap, ◌∙◌}
use Rattle.sig_record.specs.declared.refusal.Refusal.{Refusal}
use Rattle.sig_record.specs.declared.refusal.Refusal.TheVariants as refused
use Rattle.sig_record.specs.LineReaders.{go_on}
use Rattle.sig_record.specs.Refusing.{Refuses}

left_in : Refusal → ℕ
left_in (refused.Bad left) = left
left_in refused.Memory = 0

pub bad_is_err : {Y : Type 0} (e : Refusal) (left : ℕ) (read : Result Y ℕ) → Refuses e read → e ≡ refused.Bad left → read ≡ Err left
unfolding left_in
bad_is_err (refused.Bad n) left read h is = h ∙ ap (λ m. Err m) (ap left_in is)
bad_is_err refused.Memory left read h is = absurd cc

-- what goes on from there is refused there
pub refused_on : {A B : Type 0} (e : Refusal) (read : Result A ℕ) (next : A → Result B ℕ) → Refuses e read → Refuses e (go_on read next)
refused_on (refused.Bad left) read next h = ap (λ r. go_on r next) h
refused_on refused.Memory read next h = tt
