use Rattle.std.proofs.Common.{◌<◌, ◌↔◌, ℕ, List, rules, sym, subst}
use Rattle.std.specs.List.{All, Contains, AllPairs}
use Rattle.sig_model.specs.Running.{Running}
use Rattle.sig_process.specs.Standing.{runnings_of}
use Rattle.sig_linklaw.specs.declared.pair.Pair.{Pair}
use Rattle.sig_linklaw.specs.LinkReport.{pair, IsLinked, HasLowFirst, IsLower}
use Rattle.sig_linklaw.proofs.CrewLemmas.{crew_of_one_mind}
use Rattle.sig_linklaw.proofs.OrderLemmas.{pairs_ascend, pairs_have_low_first}
use Rattle.sig_linklaw.proofs.ReportLemmas.{listed_first, listed_second}
use Rattle.sig_linklaw.proofs.reporting.report.Goals as goal

pub returns-clause-pairs : goal.returns-clause-pairs
returns-clause-pairs c = search rules

pub returns-in_err-pairs-clause-law : goal.returns-in_err-pairs-clause-law
returns-in_err-pairs-clause-law c = crew_of_one_mind c.requires.rest.0 (runnings_of c.args.crew.now) c.requires.rest.1

pub returns-clause-law : goal.returns-clause-law
returns-clause-law c = crew_of_one_mind c.requires.rest.0 (runnings_of c.args.crew.now) c.requires.rest.1

pub returns-clause-first : goal.returns-clause-first
returns-clause-first c =
    let crew : List Running = runnings_of c.args.crew.now in
    subst (λ (pairs : List Pair). (p q : ℕ) → p < q → Contains pairs (pair p q) ↔ IsLinked crew p q) (sym (returns-clause-pairs c)) (listed_first c.requires.rest.0 crew c.requires.rest.1)

pub returns-clause-second : goal.returns-clause-second
returns-clause-second c =
    let crew : List Running = runnings_of c.args.crew.now in
    subst (λ (pairs : List Pair). (p q : ℕ) → p < q → Contains pairs (pair p q) ↔ IsLinked crew q p) (sym (returns-clause-pairs c)) (listed_second c.requires.rest.0 crew c.requires.rest.1)

pub returns-clause-low : goal.returns-clause-low
returns-clause-low c =
    let crew : List Running = runnings_of c.args.crew.now in
    subst (All HasLowFirst) (sym (returns-clause-pairs c)) (pairs_have_low_first crew)

pub returns-clause-ascending : goal.returns-clause-ascending
returns-clause-ascending c =
    let crew : List Running = runnings_of c.args.crew.now in
    subst (AllPairs IsLower) (sym (returns-clause-pairs c)) (pairs_ascend crew (λ p r at. (c.requires.rest.1.lawful.placed p r at).0))
