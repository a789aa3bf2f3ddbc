-- How far the counts of a process go. The bounds are this project's own; stamps are Lamport's logical clocks.
use Rattle.std.specs.Prelude.{ℕ, ◌+◌, ◌≤◌, ◌==◌, List, length, slice_index}
use Rattle.std.specs.List.{filter}
use Rattle.sig_program.specs.Scripts.{Declared}
use Rattle.sig_model.specs.ProcessState.{ProcessState, Post, downs_due}
use Rattle.sig_model.specs.Bodies.{Body}

-- No place lies past the one after the last instruction. An event appends at most one message, begins at most one unlink and makes
-- at most one reference. It sends at most one signal to a peer, but for a process that ends, which sends the downs that are due too:
-- so for each peer the next number and these together are at most one above the last stamp.
pub record IsBounded (p : Declared) (s : ProcessState) : Type 0 where
  pub first : 1 ≤ s.counts.place
  pub within : s.counts.place ≤ length p.instrs + 1
  pub arrivals : s.tables.inbox.next_arrival ≤ s.counts.stamp + 1
  pub ids : s.tables.links.next_id ≤ s.counts.stamp + 1
  pub serials : s.counts.next_serial ≤ s.counts.stamp + 1
  pub numbers : (peer : ℕ) → slice_index s.counts.next_numbers peer + downs_due s.tables ≤ s.counts.stamp + 1

-- how many of the signals to be sent are to this peer
abbrev pub posts_to : ℕ → List Post → ℕ
posts_to peer posts = length (filter (λ (q : Post). q.to == peer) posts)

-- what one event adds to the counts, before its stamp and the numbers are put in
pub record IsBoundedBody (p : Declared) (s : ProcessState) (b : Body) : Type 0 where
  pub first : 1 ≤ b.state.counts.place
  pub within : b.state.counts.place ≤ length p.instrs + 1
  pub arrivals : b.state.tables.inbox.next_arrival ≤ s.tables.inbox.next_arrival + 1
  pub ids : b.state.tables.links.next_id ≤ s.tables.links.next_id + 1
  pub serials : b.state.counts.next_serial ≤ s.counts.next_serial + 1
  pub posts : (peer : ℕ) → posts_to peer b.posts + downs_due b.state.tables ≤ downs_due s.tables + 1
