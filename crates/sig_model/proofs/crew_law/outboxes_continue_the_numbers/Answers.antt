use Rattle.sig_model.proofs.OutboxNumbers.{left_continues}
use Rattle.sig_model.proofs.crew_law.outboxes_continue_the_numbers.Goals as goal

pub returns : goal.returns
returns c = λ script crew s t u law ne at. left_continues script crew law s t u ne at
