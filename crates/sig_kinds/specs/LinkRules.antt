-- The link rules: what the calls and the signals of links do to the links of one process (Erlang Reference Manual, Processes,
-- Links). Of the manual is that there is at most one link between two processes, and that after `unlink` the link has no effect
-- on the caller until it is set up again. How that is kept is this project's own: each unlink has an id, its receiver acknowledges
-- it with that id, and a link signal from a peer whose acknowledgement is awaited has no effect.
use Rattle.std.specs.Prelude.{ℕ, ◌+◌, Bool, true, false, ◌||◌, ◌==◌, if◌then◌else◌, nat_eq, nat_lt, List, Option, Some, None, is_some, filter}
use Rattle.std.specs.Option.{option_eq}
use Rattle.std.specs.Ordering.{nat_cmp}
use Rattle.std.specs.FinMap as map
use Rattle.sig_terms.specs.declared.pid.Pid.{Pid}

-- The links of one process. It and its peers are told by their pids.
pub record LinkState : Type 0 where
  pub owner : ℕ
  -- the peers of active links, as the keys of a map, which are in ascending order
  pub active : map.FinMap nat_cmp (Unit {0})
  -- for each peer that has not acknowledged an unlink, the id of the last one
  pub awaited : map.FinMap nat_cmp ℕ
  -- the id that the next unlink will have
  pub next_id : ℕ

-- no link; the first unlink will have the id 1
abbrev pub unlinked : ℕ → LinkState
unlinked owner = record { owner = owner; active = map.empty; awaited = map.empty; next_id = 1 }

abbrev pub is_active : LinkState → ℕ → Bool
is_active links peer = map.contains_key links.active peer

-- the id of the unlink that the peer has to acknowledge
abbrev pub awaited_from : LinkState → ℕ → Option ℕ
awaited_from links peer = map.get links.awaited peer

abbrev pub activated : LinkState → ℕ → LinkState
activated links peer = record links { active = map.insert links.active peer tt }

abbrev pub deactivated : LinkState → ℕ → LinkState
deactivated links peer = record links { active = map.remove links.active peer }

-- Each rule gives the answer, and the links after it.

-- The call `link` (Processes, Links; module `erlang`, `link/1`): a link signal is sent, but to oneself or where the link is active.
-- An awaited id stays.
abbrev pub link : LinkState → ℕ → Bool × LinkState
link links peer = if peer == links.owner || is_active links peer then (false, links) else (true, activated links peer)

-- The call `unlink` (Processes, Links; module `erlang`, `unlink/1`): an unlink signal is sent where the link was active. Its id is
-- awaited back.
abbrev pub unlink : LinkState → ℕ → Option ℕ × LinkState
unlink links peer =
    if is_active links peer
    then (Some links.next_id, record (deactivated links peer) { awaited = map.insert links.awaited peer links.next_id; next_id = links.next_id + 1 })
    else (None, links)

-- A link signal (Processes, Links) sets up the link. It has no effect where there is one, nor while an id is awaited: the peer may
-- have sent it before it got the unlink.
abbrev pub on_link : LinkState → ℕ → Bool × LinkState
on_link links peer = if is_some (awaited_from links peer) || is_active links peer then (false, links) else (true, activated links peer)

-- An unlink signal (Processes, Links) ends the link. The answer is whether there was one; the signal is acknowledged in both cases.
abbrev pub on_unlink : LinkState → ℕ → Bool × LinkState
on_unlink links peer = (is_active links peer, deactivated links peer)

-- An acknowledgement counts where its id is the awaited one (this project's own). Then none is awaited.
abbrev pub on_ack : LinkState → ℕ → ℕ → Bool × LinkState
on_ack links peer id =
    if option_eq nat_eq (awaited_from links peer) (Some id)
    then (true, record links { awaited = map.remove links.awaited peer })
    else (false, links)

-- An exit signal of a link (Processes, Receiving Exit Signals) is obeyed where the link is active, and ends it.
abbrev pub on_exit : LinkState → ℕ → Bool × LinkState
on_exit links peer = (is_active links peer, deactivated links peer)

-- A process that ends (Processes, Process Termination) has no link and awaits no id. The ids go on.
abbrev pub ending : LinkState → LinkState
ending links = record links { active = map.empty; awaited = map.empty }

-- the active peers behind a pid, or all of them, in ascending order
abbrev pub active_after : LinkState → Option Pid → List ℕ
active_after links None = map.keys links.active
active_after links (Some after) = filter (λ peer. nat_lt after.0 peer) (map.keys links.active)
