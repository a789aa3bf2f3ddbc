use Rattle.std.proofs.Common.{◌∙◌}
use Rattle.sig_process.proofs.CommitLemmas.{begun_beside}
use Rattle.sig_process.proofs.progress.Progress.begin_exec.Goals as goal

pub returns : goal.returns
returns c =
    begun_beside c.begin_into-begun.result c.args.posts c.args.grows c.args.binding c.args.outcome c.args.self.now c.begin_into-begun.new.self _ _ _ _ c.begin_into-begun.ensures
    (c.into_vec-events.ensures ∙ c.replace.ensures.value) c.from_vec.ensures
