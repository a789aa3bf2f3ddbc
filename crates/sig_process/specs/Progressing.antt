-- What the fields of a process mean.
use Rattle.std.specs.Prelude.{◌≡◌, ℕ, ◌<◌, ◌++◌, [], ◌∷◌}
use Rattle.sig_kinds.specs.declared.signal.Signal.{Signal}
use Rattle.sig_program.specs.Scripts.{Declared}
use Rattle.sig_runs.specs.Rules.{Effect}
use Rattle.sig_model.specs.declared.event.Event.{Event}
use Rattle.sig_model.specs.ProcessState.{Tables, ProcessState}
use Rattle.sig_inner.specs.Receiving.{passed}
use Rattle.sig_model.specs.Running.{Running, to_itself, to_others}
use Rattle.sig_process.specs.declared.changing.Growing.{Growing}
use Rattle.sig_process.specs.declared.changing.Growing.TheVariants.{Nothing, Messages, Links, Monitors}
use Rattle.sig_process.specs.declared.progress.Progress.{Progress}
use Rattle.sig_process.specs.declared.progress.Tables.{Tables as Kept}
use Rattle.sig_process.specs.Standing.{Standing}

-- what it holds
abbrev pub tables_of : Kept → Tables
tables_of t = record {
  env = t.env;
  inbox = t.inner.queue.inbox;
  links = t.links.links;
  watch = t.watch.watch;
  end = t.end;
}

-- there is room in the table that grows for what one event may add
abbrev pub HaveRoom : Growing → Kept → Type 0
HaveRoom Nothing t = Unit {0}
HaveRoom Messages t = 0 < t.inner.spare
HaveRoom Links t = 0 < t.links.spare
HaveRoom Monitors t = 0 < t.watch.spare

-- the state of the process
abbrev pub state_of : Progress → ProcessState
state_of p = record {
  tables = tables_of p.tables;
  traps = p.traps;
  counts = record {
    place = p.counts.place;
    executed = p.counts.executed;
    stamp = p.counts.stamp;
    next_serial = p.counts.next_serial;
    next_numbers = p.counts.next_numbers;
  };
}

-- the process of this pid, one of so many, with this bound on its turns and this part of the script
abbrev pub running_of : ℕ → ℕ → ℕ → Declared → Progress → Running
running_of pid count turns proc p = record {
  pid = pid;
  count = count;
  turns = turns;
  proc = proc;
  state = state_of p;
  events = p.events;
  handled = p.handled.items;
  own = p.own.items;
  taken_in = p.taken_in.items;
  outbox = p.outbox.items;
}

-- how it stands
abbrev pub standing_of : ℕ → ℕ → ℕ → Declared → Progress → Standing
standing_of pid count turns proc p = record { running = running_of pid count turns proc p; saved = passed p.tables.inner.queue.last }

-- all but the room is as before
pub record IsSameButRoom (before after : Progress) : Type 0 where
  pub state : state_of after ≡ state_of before
  pub queue : after.tables.inner.queue ≡ before.tables.inner.queue
  pub events : after.events ≡ before.events
  pub handled : after.handled.items ≡ before.handled.items
  pub own : after.own.items ≡ before.own.items
  pub taken_in : after.taken_in.items ≡ before.taken_in.items
  pub outbox : after.outbox.items ≡ before.outbox.items

-- the process pid has gone on by an event with this effect, and nothing is left of a scan
pub record HasAdvanced (pid : ℕ) (before after : Progress) (e : Effect ProcessState Signal Event) : Type 0 where
  pub state : state_of after ≡ e.state
  pub owner : after.tables.inner.queue.owner ≡ before.tables.inner.queue.owner
  pub events : after.events ≡ before.events ++ e.event ∷ []
  pub handled : after.handled.items ≡ before.handled.items
  pub own : after.own.items ≡ before.own.items ++ to_itself pid e.sends
  pub taken_in : after.taken_in.items ≡ before.taken_in.items
  pub outbox : after.outbox.items ≡ before.outbox.items ++ to_others pid e.sends
