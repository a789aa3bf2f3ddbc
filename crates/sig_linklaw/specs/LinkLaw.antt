-- The link law: two processes agree on their link, in every run (Erlang Reference Manual, Processes, Links: a link is bidirectional,
-- and there is at most one between two processes).
use Rattle.std.specs.Prelude.{◌≡◌, ℕ, ◌<◌, true, false, List, [], ◌∷◌, ◌++◌, None, Some, slice_get}
use Rattle.std.specs.List.{Contains}
use Rattle.sig_kinds.specs.declared.signal.Signal.{Signal}
use Rattle.sig_kinds.specs.LinkRules.{LinkState, is_active, awaited_from}
use Rattle.sig_runs.specs.Machine.{Machine}
use Rattle.sig_runs.specs.PairFacts.{PairFacts}
use Rattle.sig_model.specs.declared.state.TheConstants.{LAST_STAMP}
use Rattle.sig_model.specs.ProcessState.{ProcessState, is_cut}
use Rattle.sig_model.specs.LinkPair.{Word, side_of, AreAgreed}
use Rattle.sig_model.specs.Handling.{words_if}

-- what these signals, of one process to another, tell of the link between the two, in their order
abbrev pub words_of : List Signal → List Word
words_of [] = []
words_of (x ∷ xs) = words_if true x.kind ++ words_of xs

-- The processes p and q, with the signals on their way from p to q and back: where neither has ended, they agree on their link.
abbrev pub IsOneLink : (p q : ℕ) (s t : ProcessState) (out back : List Signal) → Type 0
IsOneLink p q s t out back =
    s.tables.end ≡ None → t.tables.end ≡ None →
    AreAgreed (side_of s.tables.links q) (side_of t.tables.links p) s.tables.links.next_id t.tables.links.next_id (words_of out) (words_of back)

-- so it is of each two processes
abbrev pub one_link : PairFacts ProcessState Signal
one_link = record { of_pair = IsOneLink }

-- the process p is there, and it is neither ended, nor cut, nor late
pub record IsGoing (turns : ℕ) (m : Machine ProcessState Signal) (p : ℕ) (s : ProcessState) : Type 0 where
  pub there : slice_get m.procs p ≡ Some s
  pub alive : s.tables.end ≡ None
  pub uncut : is_cut turns s ≡ false
  pub in_time : (f : ℕ) (x : Signal) → Contains (m.queued f p) x → x.stamp < LAST_STAMP

-- each of the processes p and q has the other as an active peer or neither has, and neither awaits an acknowledgement of the other
pub record AreOfOneMind (p q : ℕ) (s t : LinkState) : Type 0 where
  pub active : is_active s q ≡ is_active t p
  pub first : awaited_from s q ≡ None
  pub second : awaited_from t p ≡ None
