use Rattle.sig_patterns.proofs.PinLemmas.{older_skipped, older_scanned}
use Rattle.sig_patterns.proofs.laws.older_messages_are_skipped.Goals as goal

pub returns-clause-found : goal.returns-clause-found
returns-clause-found c = λ clauses env r older rest asked without. older_skipped r env clauses older rest asked without

pub returns-clause-places : goal.returns-clause-places
returns-clause-places c = λ clauses env r older rest asked without. older_scanned r env clauses older rest asked without
