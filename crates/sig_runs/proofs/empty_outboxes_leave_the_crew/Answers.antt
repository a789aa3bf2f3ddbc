use Rattle.sig_runs.proofs.Delivery.{lawful_at_rest, lawful_from_rest, machine_at_rest}
use Rattle.sig_runs.proofs.empty_outboxes_leave_the_crew.Goals as goal

pub returns-clause-lawful : goal.returns-clause-lawful
returns-clause-lawful g c = λ rules opening work empty lawful. lawful_at_rest rules opening work.crew work.outbox empty lawful

pub returns-clause-at_work : goal.returns-clause-at_work
returns-clause-at_work g c = λ rules opening work empty lawful. lawful_from_rest rules opening work.crew work.outbox empty lawful

pub returns-clause-machine : goal.returns-clause-machine
returns-clause-machine g c = λ rules work empty. machine_at_rest rules work.crew work.outbox empty
