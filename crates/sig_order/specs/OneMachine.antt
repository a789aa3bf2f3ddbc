-- The machine whose receives look from the saved place is the one whose receives look at all messages (Erlang Reference Manual,
-- Expressions, Receive). The saved place is this project's own.
use Rattle.std.specs.Prelude.{◌≡◌}
use Rattle.sig_kinds.specs.declared.signal.Signal.{Signal}
use Rattle.sig_program.specs.Scripts.{Program}
use Rattle.sig_runs.specs.Machine.{Machine, Choice, apply}
use Rattle.sig_model.specs.ProcessState.{ProcessState}
use Rattle.sig_model.specs.Machine.{rules_of}
use Rattle.sig_choices.specs.Origins.{sent_at}
use Rattle.sig_record.specs.RunRecord.{whole_rules}

-- At this machine both rules of the script allow the same choices, each with the same event, the same machine behind it, and the same
-- signals sent.
pub record AllowTheSame (script : Program) (m : Machine ProcessState Signal) : Type 0 where
  pub possible : (c : Choice) → apply (rules_of script) m c ≡ apply (whole_rules script) m c
  pub sent : (c : Choice) → sent_at (rules_of script) m c ≡ sent_at (whole_rules script) m c
