-- What is shown of each event of a process, in one bundle: what holds of every name in the process holds of every name in what the
-- event does, the counts go no further than they may, terms stay as small as they should be, what holds of the messages and marks is
-- kept, and the links go on by their rules. Here are the bodies that executions and handlings share; each instruction and each kind of
-- signal has one case above them.
use Rattle.std.proofs.Common.{◌≡◌, ℕ, ◌+◌, ◌≤◌, List, [], ◌∷◌, ◌++◌, length, Bool, true, false, cond, ◌||◌, ◌==◌, is_some, All, IfSome, Option, Some, None, refl, ap, arith}
use Rattle.std.specs.Prelude.{nat_eq}
use Rattle.std.specs.Option.{option_eq}
use Rattle.std.proofs.lemmas.List.Elements.{All-nil, All-cons}
use Rattle.sig_terms.specs.declared.pid.Pid.{Pid}
use Rattle.sig_terms.specs.declared.reference.Ref.{Ref}
use Rattle.sig_terms.specs.declared.term.Term.{Term}
use Rattle.sig_terms.specs.declared.term.Term.TheVariants as term
use Rattle.sig_terms.specs.Names.{Named, process}
use Rattle.sig_terms.proofs.NameLemmas.{atom_names}
use Rattle.sig_kinds.specs.declared.signal.Kind.{Kind}
use Rattle.sig_kinds.specs.declared.signal.Kind.TheVariants as kind
use Rattle.sig_kinds.specs.LinkRules.{LinkState, is_active, awaited_from, link, unlink, on_link, on_ack}
use Rattle.sig_kinds.specs.WatchRules.{WatchState, unaliased, unmonitored, watch_ending}
use Rattle.sig_kinds.specs.SignalNames.{names_of_kind, LinkNames}
use Rattle.sig_patterns.specs.Inbox.{Inbox, emptied_inbox}
use Rattle.sig_program.specs.Scripts.{Declared}
use Rattle.sig_model.specs.declared.event.Outcome.{Outcome}
use Rattle.sig_model.specs.ProcessState.{ProcessState, owner_of, relinked, Post, downs_due}
use Rattle.sig_model.specs.Bodies.{Body, dropping, ending}
use Rattle.sig_model.specs.Bounds.{IsBoundedBody, posts_to}
use Rattle.sig_model.specs.Executing.{demonitor_posts}
use Rattle.sig_model.specs.LinkPair.{Word, side_of}
use Rattle.sig_model.specs.Handling.{words_if}
use Rattle.sig_model.specs.Names.{PostNames, BodyNames}
use Rattle.sig_model.specs.TermSizes.{KindSizes, PostSizes, OutcomeSizes, BodySizes}
use Rattle.sig_model.proofs.PostCounts.{one_post_to}
use Rattle.sig_model.proofs.TableLemmas.{OfRef, OwesAlike, told_names, told_sizes, told_few, Shown, IsBuilt, AreKept, linked, ended}
use Rattle.sig_model.proofs.TermSizeLemmas.{small_kept, atom_small}
use Rattle.sig_model.proofs.LinkMoves.{words_to, LinkMoves, IsIdle, idle_moves}

-- the ids of unlinks, after each of the link rules
either_id : {A : Type 0} (n : ℕ) (b : Bool) (x y : A × LinkState) → x.1.next_id ≤ n + 1 → y.1.next_id ≤ n + 1 → (cond b x y).1.next_id ≤ n + 1
either_id n true x y h g = h
either_id n false x y h g = g

module _ (links : LinkState) (peer : ℕ) where
  pub link_id : (link links peer).1.next_id ≤ links.next_id + 1
  link_id = either_id _ (peer == links.owner || is_active links peer) _ _ (omega arith) (omega arith)

  pub unlink_id : (unlink links peer).1.next_id ≤ links.next_id + 1
  unlink_id = either_id _ (is_active links peer) _ _ (omega arith) (omega arith)

  pub on_link_id : (on_link links peer).1.next_id ≤ links.next_id + 1
  on_link_id = either_id _ (is_some (awaited_from links peer) || is_active links peer) _ _ (omega arith) (omega arith)

  pub on_ack_id : (id : ℕ) → (on_ack links peer id).1.next_id ≤ links.next_id + 1
  on_ack_id id = either_id _ (option_eq nat_eq (awaited_from links peer) (Some id)) _ _ (omega arith) (omega arith)

some_none : {A C : Type 0} (x : A) → Some x ≡ None → C
some_none x e = cc

-- the place of an instruction, or the one behind the last
abbrev pub IsAt : Declared → ℕ → Type 0
IsAt p place = (1 ≤ place) × (place ≤ length p.instrs + 1)

-- what an event at s sends and leaves names only this, and its counts go no further than they may where H holds
pub record IsKeptBody (P : Named → Type 0) (H : Type 0) (p : Declared) (s : ProcessState) (b : Body) : Type 0 where
  pub names : BodyNames P b
  pub bounds : H → IsBoundedBody p s b
  -- the process makes references of its own
  pub owner : owner_of b.state.tables ≡ owner_of s.tables

-- I holds of the messages and marks after the event, and the next serial has not fallen
pub record IsMoved (I : Inbox → Type 0) (s : ProcessState) (b : Body) : Type 0 where
  pub inbox : I b.state.tables.inbox
  pub serial : s.counts.next_serial ≤ b.state.counts.next_serial

-- whatever the messages and marks are
abbrev pub AnyInbox : Inbox → Type 0
AnyInbox inbox = Unit {0}

-- whatever the next serial is, and the monitors and aliases
abbrev pub AnyWatch : ℕ → WatchState → Type 0
AnyWatch next watch = Unit {0}

-- I holds of the next serial, and of the monitors and aliases, after the event
abbrev pub IsWatching : (ℕ → WatchState → Type 0) → Body → Type 0
IsWatching I b = I b.state.counts.next_serial b.state.tables.watch

-- What may be made of the monitors and aliases by a signal, or by an instruction that makes no reference: a monitor of the process or
-- an alias ends, or both, it bears others, or it ends.
pub record IsRewatched (I : ℕ → WatchState → Type 0) (next : ℕ) (watch : WatchState) : Type 0 where
  pub same : I next watch
  pub demonitored : (r : Ref) → I next (unmonitored watch r)
  pub dealiased : (r : Ref) → I next (unaliased watch r)
  pub replied : (r : Ref) → I next (unaliased (unmonitored watch r) r)
  pub bearing : (borne : List (Ref × ℕ)) → I next (record watch { borne = borne })
  pub ended : I next (watch_ending watch)

pub any_rewatched : (next : ℕ) (watch : WatchState) → IsRewatched AnyWatch next watch
any_rewatched next watch = record { same = tt; demonitored = λ r. tt; dealiased = λ r. tt; replied = λ r. tt; bearing = λ borne. tt; ended = tt }

-- how far an event moves the counts: one arrival, one id and one serial at most, and the next serial doesn't fall
pub record IsNear (before after : ProcessState) : Type 0 where
  pub arrivals : after.tables.inbox.next_arrival ≤ before.tables.inbox.next_arrival + 1
  pub ids : after.tables.links.next_id ≤ before.tables.links.next_id + 1
  pub serials : after.counts.next_serial ≤ before.counts.next_serial + 1
  pub rises : before.counts.next_serial ≤ after.counts.next_serial

pub near : (before after : ProcessState) → after.tables.inbox.next_arrival ≡ before.tables.inbox.next_arrival → after.tables.links.next_id ≡ before.tables.links.next_id
    → after.counts.next_serial ≡ before.counts.next_serial → IsNear before after
near before after arrivals ids serial = record { arrivals = omega (arith, arrivals); ids = omega (arith, ids); serials = omega (arith, serial); rises = omega (arith, serial) }

-- the signal that an event handles: its sender, and what it says
pub record Came : Type 0 where
  pub sender : ℕ
  pub kind : Kind

-- what an event hears of a link from each process; an execution handles no signal
abbrev pub heard_from : Option Came → ℕ → List Word
heard_from None q = []
heard_from (Some x) q = words_if (x.sender == q) x.kind

-- The part of the links: where the process goes on after the event, they go on by their rules.
abbrev pub LinkPart : Option Came → ProcessState → Body → Type 0
LinkPart x s b = b.state.tables.end ≡ None → LinkMoves (heard_from x) s.tables.links b.state.tables.links b.posts

-- what is heard changes nothing, and asks for no answer
abbrev pub HearsNothing : Option Came → ProcessState → Type 0
HearsNothing x s = (q : ℕ) → IsIdle (side_of s.tables.links q) (heard_from x q)

module _ (L : Shown) where
  -- an atom that is built
  pub atom_built : (a : List ℕ) → IsBuilt L (term.Atom a)
  atom_built a = record { names = atom_names L.name a; size = λ z. atom_small a }

  -- what an event tells of
  abbrev pub IsTold : Outcome → Type 0
  IsTold how = L.sized → OutcomeSizes how

  -- the signals that an event sends, of which at most one is to a peer
  pub record AreSent (posts : List Post) : Type 0 where
    pub names : All (PostNames L.name) posts
    pub sizes : L.sized → All PostSizes posts
    pub few : (peer : ℕ) → posts_to peer posts ≤ 1

  pub none_sent : AreSent []
  none_sent = record { names = All-nil (PostNames L.name); sizes = λ z. All-nil PostSizes; few = λ peer. omega arith }

  pub one_sent : (q : Post) → L.name (process q.to) → All L.name (names_of_kind q.kind) → (L.sized → KindSizes q.kind) → AreSent (q ∷ [])
  one_sent q to names sizes = record {
    names = All-cons (PostNames L.name) q [] (record { to = to; kind = names }) (All-nil (PostNames L.name));
    sizes = λ z. All-cons PostSizes q [] (sizes z) (All-nil PostSizes);
    few = λ peer. one_post_to peer q;
  }

  -- and which tell nothing of a link
  pub record ArePosts (posts : List Post) : Type 0 where
    pub sent : AreSent posts
    pub silent : (peer : ℕ) → words_to peer posts ≡ []

  pub no_posts : ArePosts []
  no_posts = record { sent = none_sent; silent = λ peer. refl }

  pub one_post : (q : Post) → L.name (process q.to) → All L.name (names_of_kind q.kind) → (L.sized → KindSizes q.kind) → ((b : Bool) → words_if b q.kind ≡ []) → ArePosts (q ∷ [])
  one_post q to names sizes silent = record { sent = one_sent q to names sizes; silent = λ peer. ap (λ ws. ws ++ []) (silent (q.to == peer)) }

  pub demonitor_sent : (r : Ref) (tell : Option Pid) → OfRef L.name r → IfSome tell (λ (q : Pid). L.name (process q.0)) → ArePosts (demonitor_posts r tell)
  demonitor_sent r None h g = no_posts
  demonitor_sent r (Some target) h g = one_post (record { to = target.0; kind = kind.Demonitor r }) g h (λ z. tt) (λ b. refl)

  -- the bundle: all that is shown of one thing that a process does, where it handles this signal, or none
  pub record IsRow (x : Option Came) (p : Declared) (s : ProcessState) (b : Body) : Type 0 where
    pub kept : IsKeptBody L.name L.bounded p s b
    pub sizes : L.sized → BodySizes b
    pub moved : IsMoved L.inbox s b
    pub links : LinkPart x s b
    pub watch : IsWatching L.watch b

  -- the process before the event: what it holds, its place, what is left of its messages and marks where it ends, and what may be made
  -- of its monitors and aliases
  pub record IsBefore (p : Declared) (s : ProcessState) : Type 0 where
    pub tables : AreKept L s.tables
    pub here : L.bounded → IsAt p s.counts.place
    pub emptied : L.inbox (emptied_inbox s.tables.inbox)
    pub watch : IsRewatched L.watch s.counts.next_serial s.tables.watch

  module _ (x : Option Came) (p : Declared) (s : ProcessState) where
    -- it sends these signals, to each peer at most one more than there are downs fewer to be told
    pub row : (b : Body) → AreKept L b.state.tables → (L.bounded → IsAt p b.state.counts.place) → IsNear s b.state → owner_of b.state.tables ≡ owner_of s.tables
        → All (PostNames L.name) b.posts → (L.sized → All PostSizes b.posts) → ((peer : ℕ) → posts_to peer b.posts + downs_due b.state.tables ≤ downs_due s.tables + 1)
        → IsTold b.outcome → LinkPart x s b → IsWatching L.watch b → IsRow x p s b
    row b tables at counts owner names sizes few told links watch = record {
      kept = record {
        names = record { tables = tables.names; posts = names };
        bounds = λ h. record { first = (at h).0; within = (at h).1; arrivals = counts.arrivals; ids = counts.ids; serials = counts.serials; posts = few };
        owner = owner;
      };
      sizes = λ z. record { tables = tables.sizes z; posts = sizes z; outcome = told z };
      moved = record { inbox = tables.inbox; serial = counts.rises };
      links = links;
      watch = watch;
    }

    -- it sends at most one signal to a peer, and owes as many downs
    pub sending : (b : Body) → AreKept L b.state.tables → (L.bounded → IsAt p b.state.counts.place) → IsNear s b.state → OwesAlike s.tables b.state.tables
        → AreSent b.posts → IsTold b.outcome → LinkPart x s b → IsWatching L.watch b → IsRow x p s b
    sending b tables at counts alike posts told links watch =
        row b tables at counts alike.owner posts.names posts.sizes (λ peer. let one : posts_to peer b.posts ≤ 1 = posts.few peer in omega (arith, one, alike.due)) told links watch

    -- and leaves the links
    pub few_row : (b : Body) → AreKept L b.state.tables → (L.bounded → IsAt p b.state.counts.place) → IsNear s b.state → b.state.tables.links ≡ s.tables.links → HearsNothing x s
        → OwesAlike s.tables b.state.tables → ArePosts b.posts → IsTold b.outcome → IsWatching L.watch b → IsRow x p s b
    few_row b tables at counts same idle alike posts told watch =
        sending b tables at counts alike posts.sent told (λ alive. idle_moves (heard_from x) s.tables.links b.state.tables.links b.posts same idle posts.silent) watch

    -- it leaves the counts of the other tables too
    pub moving : (b : Body) → AreKept L b.state.tables → (L.bounded → IsAt p b.state.counts.place) → b.state.tables.inbox.next_arrival ≡ s.tables.inbox.next_arrival
        → b.state.tables.links ≡ s.tables.links → HearsNothing x s → owner_of b.state.tables ≡ owner_of s.tables → downs_due b.state.tables ≡ downs_due s.tables
        → b.state.counts.next_serial ≡ s.counts.next_serial → ArePosts b.posts → IsTold b.outcome → IsWatching L.watch b → IsRow x p s b
    moving b tables at arrivals same idle owner due serial posts told watch =
        few_row b tables at (near s b.state arrivals (ap (λ (l : LinkState). l.next_id) same) serial) same idle (record { owner = owner; due = due }) posts told watch

    module _ (k : IsBefore p s) where
      -- it changes the links, and goes on at this place
      pub relinking : (place : ℕ) (links : LinkState) (how : Outcome) (posts : List Post) → (L.bounded → IsAt p place) → LinkNames L.name links
          → links.next_id ≤ s.tables.links.next_id + 1 → LinkMoves (heard_from x) s.tables.links links posts → AreSent posts → IsTold how
          → IsRow x p s (record { state = record (relinked s links) { counts = record s.counts { place = place } }; outcome = how; posts = posts })
      relinking place links how posts at h ids moves sent told =
          sending _ (linked L s.tables k.tables links h) at (record { arrivals = omega arith; ids = ids; serials = omega arith; rises = omega arith }) (record { owner = refl; due = refl }) sent told
          (λ alive. moves) k.watch.same

      pub dropping_row : HearsNothing x s → IsRow x p s (dropping s)
      dropping_row idle = moving (dropping s) k.tables k.here refl refl idle refl refl refl no_posts (λ z. tt) k.watch.same

      pub ending_row : (reason : Term) → IsBuilt L reason → IsRow x p s (ending s reason)
      ending_row reason h =
          row (ending s reason) (ended L s.tables k.tables reason h k.emptied) k.here (near s _ refl refl refl) refl (told_names L.name reason h.names s.tables k.tables.names)
          (λ z. told_sizes s.tables reason (h.size z)) (told_few s.tables reason) (λ z. small_kept reason (h.size z)) (λ alive. some_none reason alive) k.watch.ended

      -- the reason is an atom
      pub ending_atom : (a : List ℕ) → IsRow x p s (ending s (term.Atom a))
      ending_atom a = ending_row (term.Atom a) (atom_built a)
