-- The link between two processes, as the two of them and the signals on their way between them have it (Erlang Reference Manual,
-- Processes, Links; the ids and the acknowledgements of unlinks are this project's own).
use Rattle.std.specs.Prelude.{◌≡◌, ◌≢◌, ℕ, ◌+◌, ◌≤◌, Bool, false, ◌||◌, nat_eq, List, [], ◌∷◌, ◌++◌, All, Option, Some, None, is_none, if◌then◌else◌}
use Rattle.std.specs.Option.{option_eq}
use Rattle.sig_kinds.specs.LinkRules.{LinkState, is_active, awaited_from}

-- what a process tells another of the link between them
pub data Word : Type 0 where
  -- it is set up
  Links : Word
  -- it has ended, by the unlink with this id
  Unlinks : (id : ℕ) → Word
  -- the unlink with this id has come
  Acks : (id : ℕ) → Word
  -- it has ended with the process
  Exits : Word

-- what a process has of its link to one peer: whether it is active, and the id that it awaits from there
pub record Side : Type 0 where
  pub active : Bool
  pub awaited : Option ℕ

abbrev pub side_of : LinkState → ℕ → Side
side_of links peer = record { active = is_active links peer; awaited = awaited_from links peer }

-- the awaited id, after an acknowledgement with this id
abbrev pub acked : Option ℕ → ℕ → Option ℕ
acked awaited id = if option_eq nat_eq awaited (Some id) then None else awaited

-- by the link rules, the side after a word of the peer, and what goes back
abbrev pub heard : Side → Word → Side
heard a Links = record a { active = a.active || is_none a.awaited }
heard a (Unlinks id) = record a { active = false }
heard a (Acks id) = record a { awaited = acked a.awaited id }
heard a Exits = record a { active = false }

abbrev pub answer : Word → List Word
answer (Unlinks id) = Acks id ∷ []
answer _ = []

-- after several words, and all that goes back
abbrev pub heard_all : Side → List Word → Side
heard_all a [] = a
heard_all a (w ∷ ws) = heard_all (heard a w) ws

abbrev pub answers : List Word → List Word
answers [] = []
answers (w ∷ ws) = answer w ++ answers ws

-- the ids of the unlinks, and of the acknowledgements
abbrev pub unlink_ids : List Word → List ℕ
unlink_ids [] = []
unlink_ids (Unlinks id ∷ ws) = id ∷ unlink_ids ws
unlink_ids (_ ∷ ws) = unlink_ids ws

abbrev pub ack_ids : List Word → List ℕ
ack_ids [] = []
ack_ids (Acks id ∷ ws) = id ∷ ack_ids ws
ack_ids (_ ∷ ws) = ack_ids ws

-- The ids of one process's unlinks that are open, the oldest first: their acknowledgements are on the way back, or they are on
-- the way out.
abbrev pub open_ids : (out back : List Word) → List ℕ
open_ids out back = ack_ids back ++ unlink_ids out

-- the ids rise, from this number on, and the next id lies above them
abbrev pub AreRising : ℕ → List ℕ → ℕ → Type 0
AreRising low [] next = low ≤ next
AreRising low (id ∷ ids) next = (low ≤ id) × AreRising (id + 1) ids next

-- the last of them; where there is none, this one
abbrev pub last_of : Option ℕ → List ℕ → Option ℕ
last_of last [] = last
last_of last (id ∷ ids) = last_of (Some id) ids

-- the awaited id is that of the last open unlink; where none is open, no id is awaited
pub record IsAwaiting (awaited : Option ℕ) (next : ℕ) (ids : List ℕ) : Type 0 where
  pub rising : AreRising 0 ids next
  pub last : awaited ≡ last_of None ids

-- none tells of the end of a process
abbrev pub NoExits : List Word → Type 0
NoExits words = All (λ word. word ≢ Exits) words

-- The sides a and b, whose next ids are m and n, with the words that are on their way from a and back to it. Each awaits its last
-- open unlink; once each has heard all that is on its way to it, the link is active on both sides or on none; and no word tells of
-- the end of a process, since neither has ended.
pub record AreAgreed (a b : Side) (m n : ℕ) (out back : List Word) : Type 0 where
  pub first : IsAwaiting a.awaited m (open_ids out back)
  pub second : IsAwaiting b.awaited n (open_ids back out)
  pub alike : (heard_all b out).active ≡ (heard_all a back).active
  pub none_out : NoExits out
  pub none_back : NoExits back
