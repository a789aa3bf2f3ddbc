-- Steps that may be refused.
use Rattle.std.specs.Prelude.{◌≡◌, ℕ, Result, Ok, Err}
use Rattle.sig_tokens.specs.declared.fault.Stop.{Stop}
use Rattle.sig_tokens.specs.declared.fault.Stop.TheVariants as stop
use Rattle.sig_tokens.specs.declared.fault.FaultKind.{FaultKind}

-- a line that is refused, and why; it is 0 where the text is refused as a whole
pub record Fault : Type 0 where
  pub line : ℕ
  pub kind : FaultKind

-- the next step where the first wasn't refused, else the first's refusal
infixl 10 ◌>>=◌
abbrev pub ◌>>=◌ : {A B E : Type 0} → Result A E → (A → Result B E) → Result B E
(Ok x) >>= f = f x
(Err e) >>= f = Err e

-- the same with a last step that is never refused
abbrev pub on_ok : {A B E : Type 0} → (A → B) → Result A E → Result B E
on_ok f (Ok x) = Ok (f x)
on_ok f (Err e) = Err e

-- What a reader returned, seen by view, is what is said, unless memory ran out.
abbrev pub Stops : {Y : Type 0} → Stop → Result Y FaultKind → Type 0
Stops (stop.Fault kind) said = said ≡ Err kind
Stops stop.Memory said = Unit {0}

abbrev pub Gives : {X Y : Type 0} → (X → Y) → Result X Stop → Result Y FaultKind → Type 0
Gives view (Ok x) said = said ≡ Ok (view x)
Gives view (Err e) said = Stops e said
