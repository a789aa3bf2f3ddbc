use Rattle.std.proofs.Common.{map, ap, ◌∙◌, arith}
use Rattle.sig_model.specs.Bodies.{Body}
use Rattle.sig_process.proofs.DueLemmas.{committable, serials_left}
use Rattle.sig_process.specs.declared.plan.Execution.{Execution}
use Rattle.sig_process.specs.Progressing.{state_of}
use Rattle.sig_process.specs.Plans.{outgoing_of, post_of}
use Rattle.sig_process.proofs.progress.Progress.go_by.Goals as goal

pub commit_exec-requires-clause-committable : goal.commit_exec-requires-clause-committable
commit_exec-requires-clause-committable c =
    let p = c.args.self.now in
    let none = ap (λ (x : Execution). map post_of (outgoing_of x.plan.posts)) c.going.ensures ∙ ap (λ (b : Body). b.posts) (c.silent-plan.ensures (state_of p)) in
    committable c.args.proc.now p (outgoing_of c.going.result.plan.posts) c.requires.bounds c.requires.stamp (λ peer. rw none (omega arith))

pub commit_exec-requires-clause-serials : goal.commit_exec-requires-clause-serials
commit_exec-requires-clause-serials c = serials_left c.args.proc.now c.args.self.now c.requires.bounds c.requires.stamp
