-- What a process has sent, and what has come to it, as the lists that it keeps tell (Erlang Reference Manual, Processes,
-- Delivery of Signals: signals of one process to another arrive in the order in which they were sent). That they are numbered
-- is this project's own.
use Rattle.std.specs.Prelude.{◌≡◌, ℕ, ◌+◌, ◌<◌, ◌==◌, List, ◌++◌, length, slice_index}
use Rattle.std.specs.List.{filter}
use Rattle.sig_kinds.specs.declared.signal.Signal.{Signal}
use Rattle.sig_kinds.specs.Counting.{IsCounting}
use Rattle.sig_runs.specs.Replay.{sent}
use Rattle.sig_model.specs.Running.{Running}
use Rattle.sig_model.specs.Keeping.{own_rules, opening_local}

-- all that it sent, as its local run tells
unfoldable pub sent_by : Running → List Signal
sent_by r = sent (own_rules r) r.pid (opening_local r) r.events r.handled

-- of these signals, those to p, and those of s
abbrev pub bound_for : ℕ → List Signal → List Signal
bound_for p signals = filter (λ (x : Signal). x.to.0 == p) signals

abbrev pub coming_from : ℕ → List Signal → List Signal
coming_from s signals = filter (λ (x : Signal). x.from.0 == s) signals

-- the signals that it sent to p
abbrev pub went : ℕ → Running → List Signal
went p r = bound_for p (sent_by r)

-- the signals of s that came to it: those that it handled, and then those that wait
abbrev pub came : ℕ → Running → List Signal
came s r = coming_from s (r.handled ++ r.taken_in)

-- the numbers of its signals to each process are 1, 2, 3 and so on, and its next number is the one after them
pub record IsNumbered (r : Running) : Type 0 where
  pub many : length r.state.counts.next_numbers ≡ r.count
  pub counted : (p : ℕ) → p < r.count → IsCounting 1 (went p r)
  pub next : (p : ℕ) → p < r.count → slice_index r.state.counts.next_numbers p ≡ length (went p r) + 1

-- these signals continue the numbers of those of each sender that came to it before
abbrev pub Continues : Running → List Signal → Type 0
Continues r signals = (s : ℕ) → IsCounting (length (came s r) + 1) (coming_from s signals)
