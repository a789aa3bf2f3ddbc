-- What a seat knows that has learned a note.
use Rattle.std.proofs.Common.{◌≡◌, ℕ, ◌+◌, ◌++◌, ◌||◌, bit_or, Bool, true, false, if◌then◌else◌, List, ◌∷◌, [], length, ap, ◌∙◌, refl, arith, append-nil}
use Rattle.std.proofs.lemmas.Nat.Bits.{bit_at_or, bit_at-zero, same_from_bits}
use Rattle.sig_layout.specs.declared.knows.Knows.{Knows}
use Rattle.sig_layout.specs.Sets.{no_senders, plus}
use Rattle.sig_layout.specs.Views.{joined}
use Rattle.sig_queue.specs.Tied.{Held}
use Rattle.sig_queue.specs.Seats.{IsNote}

or_zero : (n : ℕ) → bit_or n 0 ≡ n
or_zero n = same_from_bits (bit_or n 0) n (λ i. let or = bit_at_or n 0 i in let none = bit_at-zero i in omega (arith, or, none))

plus_none : (set : List ℕ) → length set ≡ 4 → plus set no_senders ≡ set
plus_none [] four = absurd (omega (arith, four))
plus_none (a ∷ []) four = absurd (omega (arith, four))
plus_none (a ∷ b ∷ []) four = absurd (omega (arith, four))
plus_none (a ∷ b ∷ c ∷ []) four = absurd (omega (arith, four))
plus_none (a ∷ b ∷ c ∷ d ∷ []) four = λ i. or_zero a i ∷ or_zero b i ∷ or_zero c i ∷ or_zero d i ∷ []
plus_none (a ∷ b ∷ c ∷ d ∷ e ∷ more) four = absurd (omega (arith, four))

or_no : (b : Bool) → (b || false) ≡ b
or_no true = refl
or_no false = refl

else_no : (b : Bool) → (if b then true else false) ≡ b
else_no true = refl
else_no false = refl

behind_none : {X : Type 0} (xs ys : List X) → ys ≡ [] → xs ++ ys ≡ xs
behind_none {X} xs ys none = ap (λ (l : List X). xs ++ l) none ∙ append-nil xs

plus_zero : (n k : ℕ) → k ≡ 0 → n + k ≡ n
plus_zero n k none = omega (arith, none)

pub learned : (v : Knows) (me : Held) → length v.senders ≡ 4 → IsNote me → joined v me.0 ≡ record v { told = v.told ++ me.0.told }
learned v me four note = λ i. record v {
  senders = (ap (plus v.senders) note.nobody ∙ plus_none v.senders four) i;
  role = (ap (λ (b : Bool). if v.role then true else b) note.no_role ∙ else_no v.role) i;
  due = (ap (λ (b : Bool). v.due || b) note.not_due ∙ or_no v.due) i;
  put = behind_none v.put me.0.put note.nothing_put i;
  told = v.told ++ me.0.told;
  taken = behind_none v.taken me.0.taken note.nothing_taken i;
  fetches = plus_zero v.fetches me.0.fetches note.no_fetches i;
  bits = plus_zero v.bits me.0.bits note.no_bits i;
  emptied = behind_none v.emptied me.0.emptied note.nothing_emptied i;
  refused = plus_zero v.refused me.0.refused note.unrefused i;
  tries = behind_none v.tries me.0.tries note.no_tries i;
  loads = behind_none v.loads me.0.loads note.no_loads i;
}
