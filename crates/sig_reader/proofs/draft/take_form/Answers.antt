use Rattle.sig_reader.proofs.FitLemmas.{open_fits}
use Rattle.sig_reader.proofs.draft.take_form.Goals as goal

pub place_label-requires : goal.place_label-requires
place_label-requires c = open_fits c.args.n c.args.draft.now.procs c.args.draft.now.section c.requires.few c.requires.fit.small
