use Rattle.std.proofs.Common.{◌∙◌}
use Rattle.sig_process.proofs.CommitLemmas.{taken_beside}
use Rattle.sig_process.proofs.progress.Progress.commit_take.Goals as goal

pub returns : goal.returns
returns c =
    taken_beside c.take_into-taken.result c.args.place c.args.clause c.args.looked c.args.pattern.now c.args.self.now c.take_into-taken.new.self _ _ _ _ c.take_into-taken.ensures
    (c.into_vec-events.ensures ∙ c.replace.ensures.value) c.from_vec.ensures
