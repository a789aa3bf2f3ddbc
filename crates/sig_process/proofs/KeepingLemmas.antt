-- A message that is moved from its signal is handled as the table of handling says.
use Rattle.std.proofs.Common.{◌≡◌, ℕ, ◌+◌, max, [], ◌∷◌, ◌++◌, Option, Some, None, refl, sym, ap, ◌∙◌, subst}
use Rattle.std.specs.Prelude.{IsSome, IfSome, MatchResult, Result, Ok, Err, is_some, option_and_then, if◌then◌else◌}
use Rattle.std.specs.Option.{unwrap_or}
use Rattle.std.proofs.lemmas.Bool.{true≢false}
use Rattle.std.proofs.lemmas.List.{append-nil}
use Rattle.sig_terms.specs.declared.term.Term.{Term}
use Rattle.sig_kinds.specs.declared.signal.Kind.{Kind}
use Rattle.sig_kinds.specs.declared.signal.Kind.TheVariants as kind
use Rattle.sig_kinds.specs.declared.signal.Signal.{Signal}
use Rattle.sig_patterns.specs.Inbox.{Inbox}
use Rattle.sig_inner.specs.InnerQueue.{InnerQueue}
use Rattle.sig_inner.specs.Receiving.{passed}
use Rattle.sig_model.specs.ProcessState.{ProcessState}
use Rattle.sig_model.specs.Bodies.{Body, appending}
use Rattle.sig_model.specs.Finishing.{finished_handle}
use Rattle.sig_model.specs.Handling.{live_body, ended_body, handling}
use Rattle.sig_model.specs.Machine.{handling_of}
use Rattle.sig_model.specs.Running.{next_of, to_itself, to_others}
use Rattle.sig_process.specs.declared.changing.Change.TheVariants as change
use Rattle.sig_process.specs.declared.progress.Progress.{Progress}
use Rattle.sig_process.specs.Committing.{HasHandled, behind_first}
use Rattle.sig_process.specs.Executions.{KeepsSaved, HasHandledNext, IsPlacedWithin}
use Rattle.sig_process.specs.KeptMessage.{message_of, kept_message, HasKept}
use Rattle.sig_process.specs.Progressing.{state_of, IsSameButRoom}
use Rattle.sig_process.proofs.HandleLemmas.{handled_keeps}

-- nothing is no message
no_message : {A : Type 0} (t : Term) → None ≡ Some t → A
no_message t e = absurd (true≢false (sym (ap (λ (o : Option Term). is_some o) e)))

alive : (end o : Option Term) (t : Term) → (if is_some end then None else o) ≡ Some t → (end ≡ None) × (o ≡ Some t)
alive None o t e = (refl, e)
alive (Some reason) o t e = no_message t e

live_kept : (pid : ℕ) (s : ProcessState) (sender : ℕ) (k : Kind) (t : Term) → message_of k ≡ Some t → live_body pid s sender k ≡ appending s t
live_kept pid s sender (kind.Message term) t e = ap (appending s) (ap (λ (o : Option Term). unwrap_or o t) e)
live_kept pid s sender _ t e = no_message t e

handling_kept : (pid : ℕ) (s : ProcessState) (x : Signal) (t : Term) → s.tables.end ≡ None → message_of x.kind ≡ Some t → handling pid s x ≡ appending s t
unfolding handling
handling_kept pid s x t none e =
    ap (λ (end : Option Term). if is_some end then ended_body s x.from.0 x.kind else live_body pid s x.from.0 x.kind) none ∙ live_kept pid s x.from.0 x.kind t e

module _ (p q : Progress) (t : Term) (message : kept_message p ≡ Some t) where
  abbrev next : Option Signal
  next = next_of p.own.items p.taken_in.items

  lives : (p.tables.end ≡ None) × (option_and_then (λ (x : Signal). message_of x.kind) next ≡ Some t)
  lives = alive p.tables.end (option_and_then (λ (x : Signal). message_of x.kind) next) t message

  module _ (pid : ℕ) (x : Signal) (is : next ≡ Some x) (k : HasKept p q x t) where
    abbrev s : ProcessState
    s = state_of p

    body_is : handling pid s x ≡ appending s t
    body_is = handling_kept pid s x t lives.0 (subst (λ (o : Option Signal). option_and_then (λ (y : Signal). message_of y.kind) o ≡ Some t) is lives.1)

    abbrev with_inbox : Inbox → ProcessState
    with_inbox inbox = record s { tables = record s.tables { inbox = inbox }; counts = record s.counts { stamp = max p.counts.stamp x.stamp + 1 } }

    handled_so : HasHandled pid p q x (handling_of pid s x)
    handled_so = record {
      next = is;
      state =
          ap state_of k.rest
          ∙ ap with_inbox (ap (λ (r : InnerQueue). r.inbox) k.queue)
          ∙ ap (λ (b : Body). (finished_handle pid s x b).state) (sym body_is);
      events = ap (λ (z : Progress). z.events) k.rest ∙ ap (λ (b : Body). p.events ++ (finished_handle pid s x b).event ∷ []) (sym body_is);
      handled = k.handled;
      own = k.own ∙ sym (append-nil (behind_first p.own.items)) ∙ ap (λ (b : Body). behind_first p.own.items ++ to_itself pid (finished_handle pid s x b).sends) (sym body_is);
      taken_in = k.taken_in;
      outbox = ap (λ (z : Progress). z.outbox.items) k.rest ∙ sym (append-nil p.outbox.items) ∙ ap (λ (b : Body). p.outbox.items ++ to_others pid (finished_handle pid s x b).sends) (sym body_is);
    }

  handled_next : (pid : ℕ) (n : Option Signal) → next ≡ n → IfSome n (λ x. HasKept p q x t) → IfSome n (λ x. HasHandled pid p q x (handling_of pid (state_of p) x))
  handled_next pid None is k = tt
  handled_next pid (Some x) is k = handled_so pid x is k

  module _ (placed : IsPlacedWithin p.tables.inner.queue) (ended : IsSome p.tables.end → passed p.tables.inner.queue.last ≡ 0) where
    keeps_next : (n : Option Signal) → next ≡ n → IfSome n (λ x. HasKept p q x t) → KeepsSaved p q
    keeps_next None is k = no_message t (subst (λ (o : Option Signal). option_and_then (λ (y : Signal). message_of y.kind) o ≡ Some t) is lives.1)
    keeps_next (Some x) is k =
        handled_keeps p q None (change.Append t)
        (ap (λ (z : Progress). z.tables.env) k.rest, ap (λ (z : Progress). z.counts.place) k.rest)
        (ap (λ (z : Progress). z.tables.end) k.rest) k.queue placed.within placed.early ended

    pub kept_handled : {T E : Type 0} (o : Result T E) (pid : ℕ) → MatchResult o (λ _. IfSome next (λ x. HasKept p q x t)) (λ _. IsSameButRoom p q)
        → MatchResult o (λ _. HasHandledNext pid p q) (λ _. IsSameButRoom p q)
    kept_handled (Ok _) pid h = record { handled = handled_next pid next refl h; saved = keeps_next next refl h }
    kept_handled (Err _) pid h = h
