use Rattle.test_calls.proofs.Comings.{executed_same}
use Rattle.test_calls.proofs.processes.execute.Goals as goal

pub returns : goal.returns
returns g c = executed_same c.args.process.now c.exec.new.self c.in_ok-answer.answer c.in_ok-answer.ensures.exec
