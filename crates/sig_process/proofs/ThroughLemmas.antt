-- A message through an active alias, which is moved from its signal, is handled as the table of handling says.
use Rattle.std.proofs.Common.{◌≡◌, ℕ, Option, Some, None, refl, sym, ap, ◌∙◌}
use Rattle.std.specs.Prelude.{IsSome, IfSome, is_some, option_and_then, if◌then◌else◌}
use Rattle.std.specs.Option.{unwrap_or, option_map}
use Rattle.std.proofs.lemmas.Bool.{true≢false}
use Rattle.sig_terms.specs.declared.reference.Ref.{Ref}
use Rattle.sig_terms.specs.declared.term.Term.{Term}
use Rattle.sig_kinds.specs.declared.alias_mode.AliasMode.{AliasMode}
use Rattle.sig_kinds.specs.declared.signal.Kind.{Kind}
use Rattle.sig_kinds.specs.declared.signal.Kind.TheVariants as kind
use Rattle.sig_kinds.specs.declared.signal.Signal.{Signal}
use Rattle.sig_kinds.specs.WatchRules.{WatchState, mode_of, by_mode}
use Rattle.sig_model.specs.ProcessState.{ProcessState}
use Rattle.sig_model.specs.Bodies.{Body}
use Rattle.sig_model.specs.Handling.{through_alias, live_body, ended_body, handling}
use Rattle.sig_model.specs.Running.{next_of}
use Rattle.sig_process.specs.declared.plan.Posts.{Posts}
use Rattle.sig_process.specs.declared.progress.Progress.{Progress}
use Rattle.sig_process.specs.KeptMessage.{alias_message_of, next_alias_message, alias_of, next_alias, through_plan}
use Rattle.sig_process.specs.Plans.{body_of}
use Rattle.sig_process.specs.Progressing.{state_of}

none_there : {A B : Type 0} (x : A) → None ≡ Some x → B
none_there x e = absurd (true≢false (sym (ap is_some e)))

alive : {A : Type 0} (end : Option Term) (o : Option A) (x : A) → (if is_some end then None else o) ≡ Some x → (end ≡ None) × (o ≡ Some x)
alive None o x e = (refl, e)
alive (Some reason) o x e = none_there x e

mode_there : (o : Option AliasMode) (its r : Ref) (m : AliasMode) → option_map {U = Ref × AliasMode} (λ mode. (its, mode)) o ≡ Some (r, m) → (its ≡ r) × (o ≡ Some m)
mode_there (Some mode) its r m e =
    (ap (λ (x : Option (Ref × AliasMode)). (unwrap_or x (r, m)).0) e, ap (λ (x : Option (Ref × AliasMode)). Some (unwrap_or x (r, m)).1) e)
mode_there None its r m e = none_there (r, m) e

module _ (w : WatchState) (r : Ref) (m : AliasMode) where
  mode_at : (its : Ref) → option_map {U = Ref × AliasMode} (λ mode. (its, mode)) (mode_of w its) ≡ Some (r, m) → mode_of w r ≡ Some m
  mode_at its e = let there = mode_there (mode_of w its) its r m e in sym (ap (mode_of w) there.0) ∙ there.1

  kind_mode : (k : Kind) → alias_of w k ≡ Some (r, m) → mode_of w r ≡ Some m
  kind_mode (kind.AliasMessage its term) e = mode_at its e
  kind_mode _ e = none_there (r, m) e

  kind_message : (k : Kind) → alias_of w k ≡ Some (r, m) → IsSome (alias_message_of k)
  kind_message (kind.AliasMessage its term) e = refl
  kind_message _ e = none_there (r, m) e

module _ (pid : ℕ) (s : ProcessState) (r : Ref) (m : AliasMode) (t : Term) (b : Body) (through : through_alias s r t (by_mode s.tables.watch r (Some m)) ≡ b) where
  live_through : (sender : ℕ) (k : Kind) → alias_of s.tables.watch k ≡ Some (r, m) → alias_message_of k ≡ Some t → live_body pid s sender k ≡ b
  live_through sender (kind.AliasMessage its term) e f =
      let there = mode_there (mode_of s.tables.watch its) its r m e in
      let message : term ≡ t = ap (λ (o : Option Term). unwrap_or o t) f in
      ap (λ (x : Term). through_alias s its x (by_mode s.tables.watch its (mode_of s.tables.watch its))) message
      ∙ ap (λ (x : Ref). through_alias s x t (by_mode s.tables.watch x (mode_of s.tables.watch x))) there.0
      ∙ ap (λ (o : Option AliasMode). through_alias s r t (by_mode s.tables.watch r o)) (mode_at s.tables.watch r m its e)
      ∙ through
  live_through sender _ e f = none_there (r, m) e

  handling_through : (x : Signal) → s.tables.end ≡ None → alias_of s.tables.watch x.kind ≡ Some (r, m) → alias_message_of x.kind ≡ Some t → handling pid s x ≡ b
  unfolding handling
  handling_through x none e f =
      ap (λ (end : Option Term). if is_some end then ended_body s x.from.0 x.kind else live_body pid s x.from.0 x.kind) none ∙ live_through x.from.0 x.kind e f

-- the next signal came through this active alias
module _ (p : Progress) (r : Ref) (m : AliasMode) (alias : next_alias p ≡ Some (r, m)) where
  abbrev next : Option Signal
  next = next_of p.own.items p.taken_in.items

  abbrev alias_in : Option Signal → Option (Ref × AliasMode)
  alias_in n = option_and_then (λ (x : Signal). alias_of p.tables.watch.watch x.kind) n

  abbrev message_in : Option Signal → Option Term
  message_in n = option_and_then (λ (x : Signal). alias_message_of x.kind) n

  lives : (p.tables.end ≡ None) × (alias_in next ≡ Some (r, m))
  lives = alive p.tables.end (alias_in next) (r, m) alias

  mode_in : (n : Option Signal) → alias_in n ≡ Some (r, m) → mode_of p.tables.watch.watch r ≡ Some m
  mode_in None e = none_there (r, m) e
  mode_in (Some x) e = kind_mode p.tables.watch.watch r m x.kind e

  pub alias_mode : mode_of p.tables.watch.watch r ≡ Some m
  alias_mode = mode_in next lives.1

  some_message : (n : Option Signal) → alias_in n ≡ Some (r, m) → IsSome (message_in n)
  some_message None e = none_there (r, m) e
  some_message (Some x) e = kind_message p.tables.watch.watch r m x.kind e

  pub alias_message : IsSome (next_alias_message p)
  alias_message = some_message next lives.1

  module _ (pid : ℕ) (t : Term) (posts : Posts) (message : next_alias_message p ≡ Some t)
      (through : through_alias (state_of p) r t (by_mode p.tables.watch.watch r (Some m)) ≡ body_of (state_of p) (through_plan r t posts)) where
    through_in : (n : Option Signal) → alias_in n ≡ Some (r, m) → message_in n ≡ Some t → IfSome n (λ x. handling pid (state_of p) x ≡ body_of (state_of p) (through_plan r t posts))
    through_in None e f = tt
    through_in (Some x) e f = handling_through pid (state_of p) r m t (body_of (state_of p) (through_plan r t posts)) through x lives.0 e f

    pub next_through : IfSome next (λ x. handling pid (state_of p) x ≡ body_of (state_of p) (through_plan r t posts))
    next_through = through_in next lives.1 message
