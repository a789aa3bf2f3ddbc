use Rattle.std.proofs.Common.{◌≡◌, ◌++◌, map, length, None}
use Rattle.sig_kinds.specs.LinkRules.{active_after}
use Rattle.sig_model.specs.ProcessState.{exits_to}
use Rattle.sig_process.specs.Plans.{post_of}
use Rattle.sig_process.proofs.ExitLemmas.{others}
use Rattle.sig_process.proofs.progress.Progress.exits.Given as goal

-- those that were told and those that are left are all that are told
abbrev pub invariant-loop-peer : goal.invariant-loop-peer
invariant-loop-peer l =
    map post_of l.exits.items ++ exits_to (others l.obeyed (active_after l.self.tables.links.links l.after)) l.reason
    ≡ exits_to (others l.obeyed (active_after l.self.tables.links.links None)) l.reason

abbrev pub decreases-loop-peer : goal.decreases-loop-peer
decreases-loop-peer l = length (active_after l.self.tables.links.links l.after)
