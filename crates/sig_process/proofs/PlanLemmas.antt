-- What a plan does: the end of a process at its next instruction, and a message through an alias.
use Rattle.std.proofs.Common.{◌≡◌, ap, Option}
use Rattle.sig_terms.specs.declared.pid.Pid.{Pid}
use Rattle.sig_terms.specs.declared.reference.Ref.{Ref}
use Rattle.sig_terms.specs.declared.term.Term.{Term}
use Rattle.sig_kinds.specs.declared.alias_answer.AliasAnswer.{AliasAnswer}
use Rattle.sig_kinds.specs.declared.alias_answer.AliasAnswer.TheVariants.{Dropped, Kept}
use Rattle.sig_kinds.specs.WatchRules.{WatchState}
use Rattle.sig_model.specs.declared.event.Outcome.TheVariants as outcome
use Rattle.sig_model.specs.ProcessState.{ProcessState, rewatched}
use Rattle.sig_model.specs.Bodies.{Body, ending, appending}
use Rattle.sig_model.specs.Executing.{demonitor_posts}
use Rattle.sig_model.specs.Handling.{through_alias}
use Rattle.sig_process.specs.Plans.{placed}

-- it stays at its place
pub ends_there : (s : ProcessState) (reason : Term) (b : Body) → ending s reason ≡ b → ending s reason ≡ placed b s.counts.place
ends_there s reason b e = ap (λ (x : Body). placed x s.counts.place) e

-- a message through an alias is kept, and this process is told
pub through_kept : (s : ProcessState) (r : Ref) (t : Term) (a : AliasAnswer × WatchState) (tell : Option Pid) → a.0 ≡ Kept tell →
    through_alias s r t a ≡ record { state = (appending (rewatched s a.1) t).state; outcome = outcome.Kept t; posts = demonitor_posts r tell }
through_kept s r t (Kept told, watch) tell e = cc
through_kept s r t (Dropped, watch) tell e = cc
