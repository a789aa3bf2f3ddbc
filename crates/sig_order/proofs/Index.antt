-- Looking up the event that sent a signal.
use Rattle.std.proofs.Common.{◌≡◌, ◌≢◌, ℕ, zero, suc, ◌+◌, ◌<◌, Bool, true, false, cond, ◌&&◌, List, [], ◌∷◌, ◌++◌, Option, Some, None, refl, sym, ap, subst, ◌∙◌, inl, inr, ◌⊎◌, arith}
use Rattle.std.specs.Prelude.{◌==◌}
use Rattle.std.specs.List.{Contains}
use Rattle.std.specs.Option.{option_or}
use Rattle.std.specs.Map.{lookup}
use Rattle.std.specs.BTreeMap.{is_at}
use Rattle.std.specs.Cmp.{both_tied, unsigned_ties}
use Rattle.std.specs.Ordering.{eq_by_cmp}
use Rattle.std.proofs.lemmas.Bool.{eq-eqb}
use Rattle.std.proofs.lemmas.Bool.Decides.{Decides-and, Decides-eqb, eqb_tells}
use Rattle.std.proofs.lemmas.Option.{same_Some}
use Rattle.sig_terms.specs.declared.pid.Pid.{Pid}
use Rattle.sig_model.specs.declared.event.Did.{Did}
use Rattle.sig_model.specs.declared.event.Did.TheVariants.{Exec, From}
use Rattle.sig_record.specs.declared.report.Report.{Report}
use Rattle.sig_order.specs.declared.at.At.{At}
use Rattle.sig_model.specs.declared.origin.Origin.{Origin}
use Rattle.sig_order.specs.declared.senders.SignalKey.{SignalKey}
use Rattle.sig_order.specs.Senders.{signal_cmp, key_of, told, IsIndex, sender_told, sender_of}
use Rattle.sig_order.specs.Happening.{handled_by, handled_at, IsSentTo, IsTraced}
use Rattle.sig_order.proofs.Ats.{same_at, or_none}

key_ties : (a b : SignalKey) → ((a.from == b.from) && ((a.to == b.to) && (a.number == b.number))) ≡ eq_by_cmp signal_cmp a b
key_ties a b =
    both_tied (a.from == b.from) ((a.to == b.to) && (a.number == b.number)) _ _ (unsigned_ties a.from b.from)
    (both_tied (a.to == b.to) (a.number == b.number) _ _ (unsigned_ties a.to b.to) (unsigned_ties a.number b.number))

record IsSameKey (a b : SignalKey) : Type 0 where
  from : a.from ≡ b.from
  to : a.to ≡ b.to
  number : a.number ≡ b.number

key_is : (a b : SignalKey) → is_at (signal_cmp a) b ≡ true → IsSameKey a b
key_is a b h =
    let parts = (Decides-and _ _ (Decides-eqb a.from b.from) (Decides-and _ _ (Decides-eqb a.to b.to) (Decides-eqb a.number b.number))).0 (key_ties a b ∙ h) in
    record { from = parts.0; to = parts.1.0; number = parts.1.1 }

key_itself : (a : SignalKey) → is_at (signal_cmp a) a ≡ true
key_itself a =
    sym (key_ties a a)
    ∙ ap (λ (c : Bool). c && ((a.to == a.to) && (a.number == a.number))) (eq-eqb a.from a.from refl)
    ∙ ap (λ (c : Bool). c && (a.number == a.number)) (eq-eqb a.to a.to refl)
    ∙ eq-eqb a.number a.number refl

-- one origin more at the end
pub told_push : (os : List Origin) (o : Origin) (q : SignalKey) → told (os ++ o ∷ []) q ≡ cond (is_at (signal_cmp (key_of o)) q) (Some o.event) (told os q)
told_push [] o q = refl
told_push (x ∷ os) o q = ap (λ z. option_or z first) (told_push os o q) ∙ by (is_at (signal_cmp (key_of o)) q)
  where
    first : Option ℕ
    first = cond (is_at (signal_cmp (key_of x)) q) (Some x.event) None

    by : (b : Bool) → option_or (cond b (Some o.event) (told os q)) first ≡ cond b (Some o.event) (option_or (told os q) first)
    by true = refl
    by false = refl

-- the signal of a key, sent by this event
abbrev origin_of : SignalKey → ℕ → Origin
origin_of q event = record { from = record { 0 = q.from }; to = record { 0 = q.to }; number = q.number; event = event }

further : (o x : Origin) (os : List Origin) → Contains os x → Contains (o ∷ os) x
further o x os h = (suc h.0, omega (arith, h.1), h.2)

told_sound : (os : List Origin) (q : SignalKey) (event : ℕ) → told os q ≡ Some event → Contains os (origin_of q event)
told_sound [] q event h = absurd cc
told_sound (o ∷ os) q event h = by (told_sound os q event) (told os q) refl h
  where
    here : (b : Bool) → is_at (signal_cmp (key_of o)) q ≡ b → cond b (Some o.event) None ≡ Some event → Contains (o ∷ os) (origin_of q event)
    here false e g = absurd cc
    here true e g =
        let k : IsSameKey (key_of o) q = key_is (key_of o) q e in
        let n : o.event ≡ event = same_Some o.event event g in
        (0, omega arith, λ i. record { from = record { 0 = k.from i }; to = record { 0 = k.to i }; number = k.number i; event = n i })

    by : (told os q ≡ Some event → Contains os (origin_of q event)) → (t : Option ℕ) → told os q ≡ t → option_or t (cond (is_at (signal_cmp (key_of o)) q) (Some o.event) None) ≡ Some event → Contains (o ∷ os) (origin_of q event)
    by rest None e g = here (is_at (signal_cmp (key_of o)) q) refl g
    by rest (Some n) e g = further o (origin_of q event) os (rest (e ∙ g))

-- of a signal that an origin names something is told
told_some : (os : List Origin) (x : Origin) → Contains os x → (event : ℕ) × (told os (key_of x) ≡ Some event)
told_some [] x h = absurd (omega (arith, h.1))
told_some (o ∷ os) x (zero, lt, e) = by (told os (key_of x))
  where
    same : is_at (signal_cmp (key_of o)) (key_of x) ≡ true
    same = subst (λ (z : Origin). is_at (signal_cmp (key_of o)) (key_of z) ≡ true) e (key_itself (key_of o))

    by : (t : Option ℕ) → (event : ℕ) × (option_or t (cond (is_at (signal_cmp (key_of o)) (key_of x)) (Some o.event) None) ≡ Some event)
    by None = (o.event, ap (λ (b : Bool). cond b (Some o.event) None) same)
    by (Some n) = (n, refl)
told_some (o ∷ os) x (suc k, lt, e) =
    let rest : (event : ℕ) × (told os (key_of x) ≡ Some event) = told_some os x (k, omega (arith, lt), e) in
    (rest.0, ap (λ z. option_or z (cond (is_at (signal_cmp (key_of o)) (key_of x)) (Some o.event) None)) rest.1)

module _ (reports : List Report) (origins : List Origin) (traced : IsTraced reports origins) (entries : List (SignalKey × ℕ)) (index : IsIndex origins entries) (f : At) where
  module _ (sender : Pid) (number : ℕ) (e : handled_at reports f ≡ Some (sender.0, number)) where
    abbrev key : SignalKey
    key = record { from = sender.0; to = f.pid; number = number }

    -- the event that sent the signal is the one that is told
    told_one : (g : At) → IsSentTo reports origins g f → g ≡ or_none f.pid (sender_told sender.0 (lookup (is_at (signal_cmp key)) entries))
    told_one g h =
        let pair : (sender.0, number) ≡ (g.pid, h.0) = same_Some (sender.0, number) (g.pid, h.0) (sym e ∙ h.1) in
        let from : sender.0 ≡ g.pid = ap (λ (z : ℕ × ℕ). z.0) pair in
        let named : number ≡ h.0 = ap (λ (z : ℕ × ℕ). z.1) pair in
        let is : Contains origins (origin_of key g.event) = subst (λ (o : Origin). Contains origins o) (λ i. record { from = record { 0 = sym from i }; to = record { 0 = f.pid }; number = sym named i; event = g.event }) h.2 in
        let some : (event : ℕ) × (told origins key ≡ Some event) = told_some origins (origin_of key g.event) is in
        let same : g.event ≡ some.0 = traced.one (origin_of key g.event) (origin_of key some.0) is (told_sound origins key some.0 some.1) refl refl refl in
        same_at g (record { pid = sender.0; event = some.0 }) (sym from) same
        ∙ sym (ap (λ (o : Option ℕ). or_none f.pid (sender_told sender.0 o)) (index key ∙ some.1))

    told_sent : (t : Option ℕ) → lookup (is_at (signal_cmp key)) entries ≡ t → 0 < (or_none f.pid (sender_told sender.0 t)).event → IsSentTo reports origins (or_none f.pid (sender_told sender.0 t)) f
    told_sent None q g = absurd (omega (arith, g))
    told_sent (Some n) q g = (number, e, told_sound origins key n (sym (index key) ∙ q))

    abbrev tells : Bool → At
    tells b = or_none f.pid (cond b None (sender_told sender.0 (lookup (is_at (signal_cmp key)) entries)))

    known_by : (((sender.0 == f.pid) ≡ true) × (sender.0 ≡ f.pid)) ⊎ (((sender.0 == f.pid) ≡ false) × (sender.0 ≢ f.pid)) → (g : At) → IsSentTo reports origins g f
        → (g.pid ≡ f.pid) ⊎ (g ≡ tells (sender.0 == f.pid))
    known_by (inl own) g h =
        let pair : (sender.0, number) ≡ (g.pid, h.0) = same_Some (sender.0, number) (g.pid, h.0) (sym e ∙ h.1) in
        inl (sym (ap (λ (z : ℕ × ℕ). z.0) pair) ∙ own.1)
    known_by (inr other) g h = inr (told_one g h ∙ sym (ap tells other.0))

    says_by : (b : Bool) → 0 < (tells b).event → IsSentTo reports origins (tells b) f
    says_by true g = absurd (omega (arith, g))
    says_by false g = told_sent (lookup (is_at (signal_cmp key)) entries) refl g

  -- an event that sent the signal which f handled is one of the same process, or the sender that is looked up
  pub sender_known : (did : Did) → handled_at reports f ≡ handled_by did → (g : At) → IsSentTo reports origins g f → (g.pid ≡ f.pid) ⊎ (g ≡ or_none f.pid (sender_of entries f.pid did))
  sender_known (Exec place) e g h = absurd (let w : None ≡ Some (g.pid, h.0) = sym e ∙ h.1 in cc)
  sender_known (From sender number) e g h = known_by sender number e (eqb_tells sender.0 f.pid) g h

  -- and that one sent it
  pub sender_says : (did : Did) → handled_at reports f ≡ handled_by did → 0 < (or_none f.pid (sender_of entries f.pid did)).event → IsSentTo reports origins (or_none f.pid (sender_of entries f.pid did)) f
  sender_says (Exec place) e h = absurd (omega (arith, h))
  sender_says (From sender number) e h = says_by sender number e (sender.0 == f.pid) h
