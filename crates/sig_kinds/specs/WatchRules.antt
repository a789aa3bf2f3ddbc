-- The monitor and alias rules: what the calls, the signals and the messages through aliases do to the monitors and the aliases
-- of one process (Erlang Reference Manual, Processes, Monitors and Process Aliases).
use Rattle.std.specs.Prelude.{ℕ, Bool, true, false, not, ◌==◌, if◌then◌else◌, List, [], ◌∷◌, ◌++◌, filter, Option, Some, None}
use Rattle.std.specs.List.{list_any}
use Rattle.std.specs.Option.{option_map_or}
use Rattle.std.specs.FinMap as map
use Rattle.sig_terms.specs.declared.pid.Pid.{Pid}
use Rattle.sig_terms.specs.declared.reference.Ref.{Ref}
use Rattle.sig_terms.specs.Nodes.{same_ref}
use Rattle.sig_terms.specs.References.{ref_cmp}
use Rattle.sig_kinds.specs.declared.alias_mode.AliasMode.{AliasMode}
use Rattle.sig_kinds.specs.declared.alias_mode.AliasMode.TheVariants.{Explicit, Reply, Demonitor, ReplyDemonitor}
use Rattle.sig_kinds.specs.declared.alias_answer.AliasAnswer.{AliasAnswer}
use Rattle.sig_kinds.specs.declared.alias_answer.AliasAnswer.TheVariants.{Dropped, Kept}

-- The monitors and the aliases of one process. It, its targets and its watchers are told by their pids.
pub record WatchState : Type 0 where
  pub owner : ℕ
  -- the monitors that it holds, with their targets
  pub held : map.FinMap ref_cmp ℕ
  -- those that it bears, with their watchers, in the order of their arrival
  pub borne : List (Ref × ℕ)
  -- the active aliases
  pub aliases : map.FinMap ref_cmp AliasMode

-- no monitor and no alias, of this process
abbrev pub unwatched : ℕ → WatchState
unwatched owner = record { owner = owner; held = map.empty; borne = []; aliases = map.empty }

-- the target of the monitor of this reference
abbrev pub target_of : WatchState → Ref → Option ℕ
target_of watch r = map.get watch.held r

abbrev pub is_held : WatchState → Ref → Bool
is_held watch r = map.contains_key watch.held r

-- the mode of the active alias of this reference
abbrev pub mode_of : WatchState → Ref → Option AliasMode
mode_of watch r = map.get watch.aliases r

abbrev pub is_alias : WatchState → Ref → Bool
is_alias watch r = map.contains_key watch.aliases r

-- whether a monitor of this reference is among those that are borne
abbrev pub bears : List (Ref × ℕ) → Ref → Bool
bears borne r = list_any (λ b. same_ref r b.0) borne

-- those of the monitors that have another reference, in the same order
abbrev pub without : List (Ref × ℕ) → Ref → List (Ref × ℕ)
without borne r = filter (λ b. not (same_ref r b.0)) borne

-- a monitor of this target is held
abbrev pub monitored : WatchState → Ref → ℕ → WatchState
monitored watch r target = record watch { held = map.insert watch.held r target }

-- the reference is an alias; where a mode is given; no more
abbrev pub aliased : WatchState → Ref → AliasMode → WatchState
aliased watch r mode = record watch { aliases = map.insert watch.aliases r mode }

abbrev pub aliased_by : WatchState → Ref → Option AliasMode → WatchState
aliased_by watch r None = watch
aliased_by watch r (Some mode) = aliased watch r mode

abbrev pub unaliased : WatchState → Ref → WatchState
unaliased watch r = record watch { aliases = map.remove watch.aliases r }

-- Whether an alias of this mode ends with the monitor of its reference (module `erlang`, `monitor/3`).
abbrev pub ends_with_monitor : AliasMode → Bool
ends_with_monitor Explicit = false
ends_with_monitor Reply = false
ends_with_monitor Demonitor = true
ends_with_monitor ReplyDemonitor = true

-- The monitor of a reference has ended, and its alias with it where the mode says so. Where none is held, nothing happens.
abbrev pub unmonitored : WatchState → Ref → WatchState
unmonitored watch r =
    let rest = record watch { held = map.remove watch.held r } in
    let alias_ends = option_map_or ends_with_monitor (mode_of watch r) false in
    if is_held watch r then (if alias_ends then unaliased rest r else rest) else watch

-- The process to which a demonitor signal goes: the target, unless that is the owner.
abbrev pub other_process : ℕ → Option ℕ → Option Pid
other_process owner None = None
other_process owner (Some target) = if target == owner then None else Some (record { 0 = target })

abbrev pub told_of : WatchState → Ref → Option Pid
told_of watch r = other_process watch.owner (target_of watch r)

-- Each rule gives the answer, where there is one, and the monitors and aliases after it.

-- The call `monitor` (Processes, Monitors; module `erlang`, `monitor/2` and `monitor/3`): the monitor is held, and its reference
-- is an alias where a mode is given. A monitor signal is sent, but to oneself.
abbrev pub monitor : WatchState → Ref → ℕ → Option AliasMode → Bool × WatchState
monitor watch r target mode = (not (target == watch.owner), aliased_by (monitored watch r target) r mode)

-- The call `demonitor` (Processes, Monitors; module `erlang`, `demonitor/1`): the monitor ends. The answer is who is told.
abbrev pub demonitor : WatchState → Ref → Option Pid × WatchState
demonitor watch r = (told_of watch r, unmonitored watch r)

-- The call `alias` (Processes, Process Aliases; module `erlang`, `alias/1`), with or without `reply`.
abbrev pub alias : WatchState → Ref → Bool → WatchState
alias watch r reply = aliased watch r (if reply then Reply else Explicit)

-- The call `unalias` (Processes, Process Aliases; module `erlang`, `unalias/1`): the alias ends, whatever its mode, and the
-- monitor stays. The answer is whether the alias was active.
abbrev pub unalias : WatchState → Ref → Bool × WatchState
unalias watch r = (is_alias watch r, unaliased watch r)

-- A message through an alias (Processes, Process Aliases) is kept where the alias is active when the message is handled, and
-- else dropped. By its mode the alias ends with the message, and the monitor with it (module `erlang`, `monitor/3`, `alias/1`).
abbrev pub by_mode : WatchState → Ref → Option AliasMode → AliasAnswer × WatchState
by_mode watch r None = (Dropped, watch)
by_mode watch r (Some Explicit) = (Kept None, watch)
by_mode watch r (Some Demonitor) = (Kept None, watch)
by_mode watch r (Some Reply) = (Kept None, unaliased watch r)
by_mode watch r (Some ReplyDemonitor) = (Kept (told_of watch r), unaliased (unmonitored watch r) r)

abbrev pub on_alias_message : WatchState → Ref → AliasAnswer × WatchState
on_alias_message watch r = by_mode watch r (mode_of watch r)

-- A monitor signal (Processes, Monitors): the monitor is borne behind the others, once.
abbrev pub on_monitor : WatchState → Ref → ℕ → WatchState
on_monitor watch r from = if bears watch.borne r then watch else record watch { borne = watch.borne ++ (r, from) ∷ [] }

-- A demonitor signal (Processes, Monitors): the monitor is borne no more. The answer is whether it was.
abbrev pub on_demonitor : WatchState → Ref → Bool × WatchState
on_demonitor watch r = (bears watch.borne r, record watch { borne = without watch.borne r })

-- A down signal (Processes, Monitors) counts where its monitor is held, and ends it. The answer is whether it counts.
abbrev pub on_down : WatchState → Ref → Bool × WatchState
on_down watch r = (is_held watch r, unmonitored watch r)

-- A process that ends (Processes, Process Termination) holds no monitor, bears none and has no alias. Nothing is sent for
-- those that it held.
abbrev pub watch_ending : WatchState → WatchState
watch_ending watch = record watch { held = map.empty; borne = []; aliases = map.empty }
