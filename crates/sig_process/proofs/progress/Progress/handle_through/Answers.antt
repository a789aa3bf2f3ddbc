use Rattle.sig_process.proofs.DueLemmas.{plan_committable}
use Rattle.sig_process.proofs.HandleLemmas.{planned_handled}
use Rattle.sig_process.proofs.ThroughLemmas.{alias_mode, alias_message, next_through}
use Rattle.sig_process.specs.KeptMessage.{through_plan}
use Rattle.sig_process.proofs.progress.Progress.handle_through.Goals as goal

pub copy_alias_message-requires : goal.copy_alias_message-requires
copy_alias_message-requires c = alias_message c.args.self.now c.args.reference c.args.mode c.requires.alias

pub alias_posts-posts-requires : goal.alias_posts-posts-requires
alias_posts-posts-requires c = alias_mode c.args.self.now c.args.reference c.args.mode c.requires.alias

pub commit_alias_message-requires-clause-committable : goal.commit_alias_message-requires-clause-committable
commit_alias_message-requires-clause-committable c =
    let p = c.args.self.now in
    let t = c.in_ok-told.told in
    let posts = c.alias_posts-posts.result in
    let done = next_through p c.args.reference c.args.mode c.requires.alias c.args.pid.0 t posts c.in_ok-told.ensures (c.alias_posts-posts.ensures t) in
    plan_committable c.args.proc.now p (through_plan c.args.reference t posts) c.args.pid.0 c.requires.due done

pub returns : goal.returns
returns c =
    let p = c.args.self.now in
    let t = c.in_ok-told.told in
    let posts = c.alias_posts-posts.result in
    let planned = next_through p c.args.reference c.args.mode c.requires.alias c.args.pid.0 t posts c.in_ok-told.ensures (c.alias_posts-posts.ensures t) in
    let done = c.commit_alias_message.ensures in
    planned_handled c.args.pid.0 p c.commit_alias_message.new.self (through_plan c.args.reference t posts) c.requires.placed c.requires.due.saved.ended c.commit_alias_message.result planned done.event done.steady done.end done.queue
