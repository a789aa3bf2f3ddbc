-- What lies in a buffer is of its own senders.
use Rattle.std.proofs.Common.{◌≡◌, ◌≢◌, ℕ, Bool, true, false, if◌then◌else◌, ◌==◌, List, [], ◌∷◌, refl, sym, ◌∙◌}
use Rattle.std.proofs.lemmas.List.Elements.{All-nil, All-cons}
use mathlib.Core.Logic.{dite}
use native.Mathlib.Decide.{ℕ_discrete}
use Rattle.sig_kinds.specs.declared.signal.Signal.{Signal}
use Rattle.sig_layout.specs.Sent.{sender, of}
use Rattle.sig_layout.specs.Core.{buffer_of}
use Rattle.sig_layout.proofs.Sending.{of_own}
use Rattle.sig_queue.specs.Parts.{OfBuffer}

others_none : (my_word : Bool) (x : Signal) (l : List Signal) → (if my_word then x ∷ l else l) ≡ [] → l ≡ []
others_none true x l e = absurd cc
others_none false x l e = e

-- what has nothing of senders of other buffers has its own alone
pub own_alone : (b : ℕ) (l : List Signal) → ((s : ℕ) → b ≢ buffer_of s → of sender s l ≡ []) → OfBuffer b l
own_alone b [] none = All-nil (λ (x : Signal). buffer_of x.from.0 ≡ b)
own_alone b (x ∷ l) none = All-cons (λ (y : Signal). buffer_of y.from.0 ≡ b) x l
    (dite (ℕ_discrete (buffer_of x.from.0) b) (λ e. e) (λ n. let e : x ∷ of sender x.from.0 l ≡ [] = sym (of_own sender x.from.0 x l refl) ∙ none x.from.0 (λ e. n (sym e)) in absurd cc))
    (own_alone b l (λ s n. others_none (sender x == s) x (of sender s l) (none s n)))
