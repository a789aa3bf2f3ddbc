use Rattle.sig_choices.proofs.Reordering.{reordered_lawful, reordered_still}
use Rattle.sig_choices.proofs.laws.order_between_senders_is_free.Goals as goal

pub returns-clause-lawful : goal.returns-clause-lawful
returns-clause-lawful c = λ script crew p r xs law there alike arriving. reordered_lawful script crew law p r there xs alike arriving

pub returns-clause-still : goal.returns-clause-still
returns-clause-still c = λ script crew p r xs law there alike arriving. reordered_still script crew law p r there xs alike arriving
