use Rattle.std.proofs.Common.{sym, ap, ◌∙◌}
use Rattle.std.specs.Prelude.{option_copied}
use Rattle.sig_process.proofs.ReceiveLemmas.{clause_there, chosen_matches, taken_found}
use Rattle.sig_process.proofs.progress.Progress.take_found.Goals as goal

pub unreachable-requires : goal.unreachable-requires
unreachable-requires c =
    let found = c.requires.found in
    clause_there c.args.clauses.now c.args.self.now c.args.clause c.args.looked found.0 found.1 found.2 (sym c.get.ensures.value ∙ ap option_copied c.in_default.is)

pub commit_take-requires-clause-found : goal.commit_take-requires-clause-found
commit_take-requires-clause-found c =
    let found = c.requires.found in
    chosen_matches c.args.clauses.now c.args.self.now c.args.clause c.args.looked found.0 found.1 found.2 c.in-Some.chosen.now (sym c.in-Some.ensures.value)

pub returns-clause-taken : goal.returns-clause-taken
returns-clause-taken c = λ start h is.
    taken_found c.args.clauses.now c.args.self.now c.args.clause c.args.looked start h is c.in-Some.chosen.now (sym c.in-Some.ensures.value)
    c.args.pid.0 c.place_after-place.result c.args.proc.now c.commit_take.new.self c.place_after-place.ensures c.commit_take.result c.commit_take.ensures
