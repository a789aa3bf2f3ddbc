-- The origins of a list of events, one event more at its front or at its end.
use Rattle.std.proofs.Common.{◌≡◌, ℕ, ◌+◌, List, [], ◌∷◌, ◌++◌, length, Some, refl, sym, ap, ◌∙◌, subst, append_assoc}
use Rattle.std.proofs.Math.Path.{ap₂}
use Rattle.std.proofs.lemmas.List.{append-nil}
use Rattle.sig_kinds.specs.declared.signal.Signal.{Signal}
use Rattle.sig_program.specs.Scripts.{Program}
use Rattle.sig_runs.specs.Rules.{Rules}
use Rattle.sig_runs.specs.Machine.{Machine, Choice, At, Applied, IsRun, apply, choice}
use Rattle.sig_runs.specs.Order.{events_by}
use Rattle.sig_model.specs.declared.event.Event.{Event}
use Rattle.sig_model.specs.declared.origin.Origin.{Origin}
use Rattle.sig_model.specs.ProcessState.{ProcessState}
use Rattle.sig_model.specs.Machine.{acted_at, rules_with, rules_of}
use Rattle.sig_choices.specs.Origins.{sent_at, origins_in, origins_after}

abbrev pub ModelRules : Type 0
ModelRules = Rules ProcessState Signal Event

abbrev pub ModelMachine : Type 0
ModelMachine = Machine ProcessState Signal

-- the choice that an event tells
abbrev pub choice_of : At Event → Choice
choice_of a = choice a.pid (acted_at a.event.did)

-- the origins of one event, after those before it
abbrev pub origins_at : ModelRules → List (At Event) → ModelMachine → At Event → List Origin
origins_at rules before m a = origins_in a.pid (length (events_by a.pid before) + 1) (sent_at rules m (choice_of a))

-- the choices of these events are possible, and lead to `end`
abbrev pub Leads : ModelRules → ModelMachine → List (At Event) → ModelMachine → Type 0
Leads rules m [] end = m ≡ end
Leads rules m (a ∷ later) end = (next : Applied ProcessState Signal Event) × (apply rules m (choice_of a) ≡ Some next) × Leads rules next.machine later end

-- the events of a run do
pub run_leads : (script : Program) (es : List (At Event)) (m end : ModelMachine) → IsRun (rules_of script) m es end → Leads (rules_of script) m es end
unfolding rules_with
run_leads script [] m end h = h
run_leads script (a ∷ es) m end h = (record { machine = h.0; event = a.event }, h.1, run_leads script es h.0 end h.2)

pub origins_step : (rules : ModelRules) (before : List (At Event)) (m : ModelMachine) (a : At Event) (later : List (At Event)) (next : Applied ProcessState Signal Event) → apply rules m (choice_of a) ≡ Some next →
    origins_after rules before m (a ∷ later) ≡ origins_at rules before m a ++ origins_after rules (before ++ a ∷ []) next.machine later
origins_step rules before m a later next e = rw (e, origins_after) refl

-- one event more
pub origins_push : (rules : ModelRules) (es : List (At Event)) (a : At Event) (before : List (At Event)) (m mid : ModelMachine) (next : Applied ProcessState Signal Event) → Leads rules m es mid →
    apply rules mid (choice_of a) ≡ Some next → origins_after rules before m (es ++ a ∷ []) ≡ origins_after rules before m es ++ origins_at rules (before ++ es) mid a
origins_push rules [] a before m mid next h step =
    origins_step rules before m a [] next (subst (λ z. apply rules z (choice_of a) ≡ Some next) (sym h) step)
    ∙ append-nil (origins_at rules before m a)
    ∙ ap₂ (λ z xs. origins_at rules xs z a) h (sym (append-nil before))
origins_push rules (b ∷ es) a before m mid next h step =
    origins_step rules before m b (es ++ a ∷ []) h.0 h.1
    ∙ ap (λ os. origins_at rules before m b ++ os) (origins_push rules es a (before ++ b ∷ []) h.0.machine mid next h.2 step)
    ∙ sym (append_assoc (origins_at rules before m b) (origins_after rules (before ++ b ∷ []) h.0.machine es) (origins_at rules ((before ++ b ∷ []) ++ es) mid a))
    ∙ ap₂ (λ os xs. os ++ origins_at rules xs mid a) (sym (origins_step rules before m b es h.0 h.1)) (append_assoc before (b ∷ []) es)
