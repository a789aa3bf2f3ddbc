use Rattle.std.proofs.Common.{◌≤◌, length, arith}
use Rattle.sig_reader.specs.declared.reader.TheConstants.{MOST_BYTES}
use Rattle.sig_call.proofs.ExpansionLemmas.{err_gives, expansion_read, expansion_stops, too_long}
use Rattle.sig_call.proofs.ScriptLaw.{all_once}
use Rattle.sig_call.proofs.expanding.expand.Goals as goal

pub returns-in_err-expanded-clause-expansion : goal.returns-in_err-expanded-clause-expansion
returns-in_err-expanded-clause-expansion c =
    let short : length c.args.bytes.now ≤ MOST_BYTES = omega arith in
    err_gives _ c.from_residual-in_err-expanded.result c.in_err-expanded.field-0.0 _ c.from_residual-in_err-expanded.ensures.1
    (expansion_stops c.args.bytes.now c.in_ok-version.version c.in_err-expanded.field-0.0 short c.in_ok-version.ensures c.in_err-expanded.ensures.lines)

pub returns-in_err-expanded-clause-law : goal.returns-in_err-expanded-clause-law
returns-in_err-expanded-clause-law c = all_once c.from_residual-in_err-expanded.result

pub returns-clause-expansion : goal.returns-clause-expansion
returns-clause-expansion c =
    let short : length c.args.bytes.now ≤ MOST_BYTES = omega arith in
    let read = expansion_read c.args.bytes.now c.in_ok-version.version c.in_ok-expanded.expanded c.in_ok-expanded.behind short c.in_ok-version.ensures c.in_ok-expanded.ensures.lines c.in_ok-expanded.ensures.count in
    rw read (rw (c.close.ensures, c.ends_in_feed.ensures) at c.read_expanded.ensures)

pub returns-clause-law : goal.returns-clause-law
returns-clause-law c = all_once c.read_expanded.result

pub returns-then-bytes-gt-MOST_BYTES-clause-expansion : goal.returns-then-bytes-gt-MOST_BYTES-clause-expansion
returns-then-bytes-gt-MOST_BYTES-clause-expansion c = too_long c.args.bytes.now c.if-bytes-gt-MOST_BYTES.true
