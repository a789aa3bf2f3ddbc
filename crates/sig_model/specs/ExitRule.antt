-- What an exit signal does to a live process (Erlang Reference Manual, Processes, Receiving Exit Signals). Processes are told by
-- their pids.
use Rattle.std.specs.Prelude.{ℕ, [], ◌∷◌, ◌&&◌, not, ◌==◌, if◌then◌else◌, codes}
use Rattle.sig_terms.specs.declared.term.Term.{Term}
use Rattle.sig_terms.specs.declared.term.Term.TheVariants as term
use Rattle.sig_terms.specs.TermTest.{same_term}
use Rattle.sig_kinds.specs.LinkRules.{is_active, deactivated}
use Rattle.sig_model.specs.ProcessState.{ProcessState, relinked}
use Rattle.sig_model.specs.Bodies.{Body, appending, dropping, ending, normal, kill, killed}

-- the message of an exit signal of this sender: `{'EXIT',Sender,Reason}`
abbrev pub exit_message : ℕ → Term → Term
exit_message sender reason = term.Tuple (term.Atom (codes "EXIT") ∷ term.Pid (record { 0 = sender }) ∷ reason ∷ [])

-- The exit rule. A process that traps exits gets a message. One that doesn't ignores the reason `normal` of another process, and
-- else ends with the reason.
abbrev pub exit_rule : ℕ → ProcessState → ℕ → Term → Body
exit_rule pid s sender reason =
    if s.traps then appending s (exit_message sender reason)
    else if same_term reason normal && not (sender == pid) then dropping s
    else ending s reason

-- An exit signal of no link (Processes, Sending Exit Signals). The reason `kill` ends the process with the reason `killed`,
-- whether it traps exits or not; any other one acts by the exit rule.
abbrev pub plain_exit : ℕ → ProcessState → ℕ → Term → Body
plain_exit pid s sender reason = if same_term reason kill then ending s killed else exit_rule pid s sender reason

-- An exit signal of a link (Processes, Links). Where the link is active, it ends, and the exit rule applies, to the reason `kill` too.
-- Else the signal has no effect.
abbrev pub linked_exit : ℕ → ProcessState → ℕ → Term → Body
linked_exit pid s sender reason =
    if is_active s.tables.links sender then exit_rule pid (relinked s (deactivated s.tables.links sender)) sender reason
    else dropping s
