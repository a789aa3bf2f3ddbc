use Rattle.std.proofs.Common.{refl, ap}
use Rattle.sig_model.specs.ProcessState.{relinked, rewatched}
use Rattle.sig_process.specs.declared.changing.Change.TheVariants.{Links, Watch, Append, ThroughAlias, ToldDown}
use Rattle.sig_process.specs.Progressing.{state_of}
use Rattle.sig_process.proofs.ChangeLemmas.{tables_changed, told_so}
use Rattle.sig_process.proofs.progress.Progress.change.Goals as goal

pub returns-in-Links : goal.returns-in-Links
returns-in-Links c =
    let done = c.change_links.ensures in
    rw c.in-Links.is (tables_changed c.args.self.now _ _ done.rest refl (Links c.in-Links.change) (ap (relinked (state_of c.args.self.now)) done.links) refl)

pub returns-in-Watch : goal.returns-in-Watch
returns-in-Watch c =
    let done = c.change_watch.ensures in
    rw c.in-Watch.is (tables_changed c.args.self.now _ _ done.rest refl (Watch c.in-Watch.change) (ap (rewatched (state_of c.args.self.now)) done.watch) refl)

pub returns-in-Append : goal.returns-in-Append
returns-in-Append c =
    let done = c.append.ensures in
    rw c.in-Append.is (tables_changed c.args.self.now _ _ done.rest refl (Append c.in-Append.message) (told_so (state_of c.args.self.now) _ _ _ _ done.inner refl) done.inner)

pub returns-in-ThroughAlias : goal.returns-in-ThroughAlias
returns-in-ThroughAlias c =
    let done = c.append_through.ensures in
    rw c.in-ThroughAlias.is (tables_changed c.args.self.now _ _ done.rest refl (ThroughAlias c.in-ThroughAlias.reference c.in-ThroughAlias.message) (told_so (state_of c.args.self.now) _ _ _ _ done.inner done.watch) done.inner)

pub returns-in-ToldDown : goal.returns-in-ToldDown
returns-in-ToldDown c =
    let done = c.append_down.ensures in
    rw c.in-ToldDown.is (tables_changed c.args.self.now _ _ done.rest refl (ToldDown c.in-ToldDown.reference c.in-ToldDown.message) (told_so (state_of c.args.self.now) _ _ _ _ done.inner done.watch) done.inner)
