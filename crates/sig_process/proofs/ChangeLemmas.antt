-- What a change in the tables leaves of a process.
use Rattle.std.proofs.Common.{◌≡◌, refl, ap, ◌∙◌}
use Rattle.sig_kinds.specs.WatchRules.{WatchState}
use Rattle.sig_patterns.specs.Inbox.{Inbox}
use Rattle.sig_inner.specs.InnerQueue.{InnerQueue}
use Rattle.sig_model.specs.ProcessState.{ProcessState}
use Rattle.sig_process.specs.declared.changing.Change.{Change}
use Rattle.sig_process.specs.declared.changing.Change.TheVariants as change
use Rattle.sig_process.specs.declared.progress.Progress.{Progress}
use Rattle.sig_process.specs.declared.progress.Tables.{Tables}
use Rattle.sig_process.specs.Committing.{KeepsRest, queue_after}
use Rattle.sig_process.specs.Plans.{changed}
use Rattle.sig_process.specs.Progressing.{state_of}

pub changed_owner : (q : InnerQueue) (c : Change) → (queue_after q c).owner ≡ q.owner
changed_owner q (change.Append message) = refl
changed_owner q (change.ThroughAlias reference message) = refl
changed_owner q (change.ToldDown reference message) = refl
changed_owner q (change.End reason) = refl
changed_owner q _ = refl

-- what `Progress::change` says of its change
abbrev pub HasChanged : Change → Progress → Progress → Type 0
HasChanged c before after = record {
  state : state_of after ≡ changed (state_of before) c;
  queue : after.tables.inner.queue ≡ queue_after before.tables.inner.queue c;
  owner : after.tables.inner.queue.owner ≡ before.tables.inner.queue.owner;
  rest : KeepsRest before after;
}

-- the state with these messages, monitors and aliases
abbrev told_in : ProcessState → Inbox → WatchState → ProcessState
told_in s inbox watch = record s { tables = record s.tables { inbox = inbox; watch = watch } }

pub told_so : (s : ProcessState) (q r : InnerQueue) (v w : WatchState) → q ≡ r → v ≡ w → told_in s q.inbox v ≡ told_in s r.inbox w
told_so s q r v w inner watch = ap (λ (q : InnerQueue). told_in s q.inbox v) inner ∙ ap (told_in s r.inbox) watch

module _ (p : Progress) (t u : Tables) (same : t ≡ u) (env : u.env ≡ p.tables.env) where
  -- the tables t, which u says field by field
  pub tables_changed : (c : Change) → state_of (record p { tables = u }) ≡ changed (state_of p) c → u.inner.queue ≡ queue_after p.tables.inner.queue c → HasChanged c p (record p { tables = t })
  tables_changed c state queue =
      let is : t.inner.queue ≡ queue_after p.tables.inner.queue c = ap (λ (t : Tables). t.inner.queue) same ∙ queue in
      record {
        state = ap (λ (t : Tables). state_of (record p { tables = t })) same ∙ state;
        queue = is;
        owner = ap (λ (q : InnerQueue). q.owner) is ∙ changed_owner p.tables.inner.queue c;
        rest = record { env = ap (λ (t : Tables). t.env) same ∙ env; counts = refl; events = refl; handled = refl; own = refl; taken_in = refl; outbox = refl };
      }
