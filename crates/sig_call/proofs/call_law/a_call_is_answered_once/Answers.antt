use Rattle.sig_call.proofs.CallRuns.{calls_once, marked_calls_once}
use Rattle.sig_call.proofs.call_law.a_call_is_answered_once.Goals as goal

pub returns-clause-whole : goal.returns-clause-whole
returns-clause-whole c = calls_once

pub returns-clause-marked : goal.returns-clause-marked
returns-clause-marked c = marked_calls_once
