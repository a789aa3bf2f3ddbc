use Rattle.sig_workers.proofs.Going.{goes_refl}
use Rattle.sig_workers.proofs.fetching.fetch_rung.Goals as goal

-- the bell is quiet
pub returns-then-not-rings-clause-goes : goal.returns-then-not-rings-clause-goes
returns-then-not-rings-clause-goes g c = goes_refl c.args.shared.now.queues.now c.args.me.pid c.args.process.now.running c.args.seats.now.items c.requires.ready
