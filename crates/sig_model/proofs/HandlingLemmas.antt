-- What is shown of each signal that a process handles: one case for each cell of the table of handling, and for the exit rule, gives
-- the whole bundle, of names, bounds, sizes, marks, monitors and links. The laws of each are parts of it, so that a new kind of signal
-- has its case here alone.
use Rattle.std.proofs.Common.{◌≡◌, ℕ, ◌+◌, ◌≤◌, List, [], ◌∷◌, ◌++◌, length, Bool, true, false, cond, ◌&&◌, not, ◌==◌, is_some, codes, All, IfSome, Option, Some, None, refl, sym, ap, ◌∙◌, arith}
use Rattle.std.proofs.lemmas.Bool.{cond_both}
use Rattle.std.proofs.lemmas.List.{length-append, append-nil}
use Rattle.std.proofs.lemmas.List.Elements.{All-nil, All-cons, All-append, All-push}
use Rattle.sig_terms.specs.declared.pid.Pid.{Pid}
use Rattle.sig_terms.specs.declared.reference.Ref.{Ref}
use Rattle.sig_terms.specs.declared.term.Term.{Term}
use Rattle.sig_terms.specs.declared.term.Term.TheVariants as term
use Rattle.sig_terms.specs.Nodes.{same_ref}
use Rattle.sig_terms.specs.TermTest.{same_term}
use Rattle.sig_terms.specs.Names.{Named, process, reference, names_of_ref, names_of, AllNames}
use Rattle.sig_terms.proofs.NameLemmas.{all_before, all_behind, ref_of_all, atom_names, pid_names, ref_names, tuple_names}
use Rattle.sig_kinds.specs.declared.alias_answer.AliasAnswer.{AliasAnswer}
use Rattle.sig_kinds.specs.declared.alias_answer.AliasAnswer.TheVariants as alias_answer
use Rattle.sig_kinds.specs.declared.alias_mode.AliasMode.{AliasMode}
use Rattle.sig_kinds.specs.declared.alias_mode.AliasMode.TheVariants as alias_mode
use Rattle.sig_kinds.specs.declared.signal.Kind.{Kind}
use Rattle.sig_kinds.specs.declared.signal.Kind.TheVariants.{Message, AliasMessage, Link, Unlink, UnlinkAck, Monitor, Demonitor, Exit, Down}
use Rattle.sig_kinds.specs.declared.signal.Signal.{Signal}
use Rattle.sig_kinds.specs.LinkRules.{LinkState, is_active, deactivated, on_link, on_unlink, on_ack}
use Rattle.sig_kinds.specs.WatchRules.{WatchState, is_held, bears, without, unmonitored, by_mode, on_alias_message, on_monitor, on_demonitor, on_down, mode_of}
use Rattle.sig_kinds.specs.SignalNames.{names_of_kind, LinkNames, WatchNames, SignalNames}
use Rattle.sig_kinds.proofs.LinkNameLemmas.{deactivated_names, on_link_names, on_unlink_names, on_ack_names}
use Rattle.sig_kinds.proofs.WatchNameLemmas.{unmonitored_names, told_names, on_alias_message_names, on_monitor_names, on_demonitor_names}
use Rattle.sig_patterns.specs.Inbox.{Inbox, arrived_in, emptied_inbox}
use Rattle.sig_program.specs.Scripts.{Declared}
use Rattle.sig_model.specs.declared.event.Outcome.{Outcome}
use Rattle.sig_model.specs.declared.event.Outcome.TheVariants as outcome
use Rattle.sig_model.specs.ProcessState.{ProcessState, owner_of, Post, relinked, rewatched, TableNames}
use Rattle.sig_model.specs.LinkPair.{side_of}
use Rattle.sig_model.specs.LinkPair.Word.{Links, Unlinks, Acks, Exits}
use Rattle.sig_model.specs.Bodies.{Body, appending, dropping, normal, kill}
use Rattle.sig_model.specs.ExitRule.{exit_message, exit_rule, plain_exit, linked_exit}
use Rattle.sig_model.specs.Executing.{demonitor_posts}
use Rattle.sig_model.specs.Handling.{linking_up, unlinking_from, acknowledging, through_alias, watching, unwatching, down_message, told_down, answering_noproc, live_body, ended_body, handling, words_if}
use Rattle.sig_model.specs.Bounds.{IsBounded, IsBoundedBody}
use Rattle.sig_model.specs.Stampless.{plain_state}
use Rattle.sig_model.specs.TermSizes.{IsKeptTerm, KindSizes, OutcomeSizes, TableSizes, BodySizes}
use Rattle.sig_model.proofs.AnyNames.{Any, any_signal, no_part}
use Rattle.sig_model.proofs.TermSizeLemmas.{atom_small, exit_kept, down_kept}
use Rattle.sig_model.proofs.TableLemmas.{OfRef, any_tables, BearsAlike, same_watch, owes_alike, Shown, IsBuilt, IsHeld, held, linked, watched, messaged}
use Rattle.sig_model.proofs.LinkMoves.{LinkMoves, said_by, IsIdle, nothing_idle, idle_moves, on_link_moves, on_unlink_moves, on_ack_moves, exit_idle, left_inactive, exited_moves}
use Rattle.sig_model.proofs.BodyLemmas.{IsAt, IsKeptBody, IsMoved, AnyInbox, AnyWatch, IsWatching, IsRewatched, any_rewatched, near, Came, heard_from, LinkPart, HearsNothing, AreSent, none_sent, one_sent, ArePosts, no_posts, demonitor_sent, IsRow, IsBefore, row, sending, few_row, relinking, dropping_row, ending_row, ending_atom, on_link_id, on_ack_id}
use Rattle.sig_model.proofs.ExecutingLemmas.{unmonitored_alike, bare, cond_bare}

-- what the rules for the signals do to the monitors that are borne
fewer : {X : Type 0} (b : Bool) (x : X) (xs : List X) (n : ℕ) → length xs ≤ n → length (cond b (x ∷ xs) xs) ≤ n + 1
fewer true x xs n h = omega (arith, h)
fewer false x xs n h = omega (arith, h)

kept_few : (borne : List (Ref × ℕ)) (r : Ref) → length (without borne r) ≤ length borne
kept_few [] r = omega arith
kept_few (b ∷ bs) r =
    let most : length (without (b ∷ bs) r) ≤ length bs + 1 = fewer (not (same_ref r b.0)) b (without bs r) (length bs) (kept_few bs r) in omega (arith, most)

by_mode_alike : (watch : WatchState) (r : Ref) (mode : Option AliasMode) → BearsAlike watch (by_mode watch r mode).1
by_mode_alike watch r None = same_watch watch
by_mode_alike watch r (Some alias_mode.Explicit) = same_watch watch
by_mode_alike watch r (Some alias_mode.Demonitor) = same_watch watch
by_mode_alike watch r (Some alias_mode.Reply) = record { owner = refl; borne = refl }
by_mode_alike watch r (Some alias_mode.ReplyDemonitor) = let ended : BearsAlike watch (unmonitored watch r) = unmonitored_alike watch r in record { owner = ended.owner; borne = ended.borne }

one_borne : (watch : WatchState) (r : Ref) (from : ℕ) → length (on_monitor watch r from).borne ≤ length watch.borne + 1
one_borne watch r from =
    cond_both (bears watch.borne r) watch _ (λ (w : WatchState). length w.borne ≤ length watch.borne + 1) (λ e. omega arith)
    (λ e. omega (arith, length-append watch.borne ((r, from) ∷ [])))

same_owner : (watch : WatchState) (r : Ref) (from : ℕ) → (on_monitor watch r from).owner ≡ watch.owner
same_owner watch r from = cond_both (bears watch.borne r) watch _ (λ (w : WatchState). w.owner ≡ watch.owner) (λ e. refl) (λ e. refl)

by_mode_watch : (I : ℕ → WatchState → Type 0) (next : ℕ) (watch : WatchState) → IsRewatched I next watch → (r : Ref) (mode : Option AliasMode) → I next (by_mode watch r mode).1
by_mode_watch I next watch c r None = c.same
by_mode_watch I next watch c r (Some alias_mode.Explicit) = c.same
by_mode_watch I next watch c r (Some alias_mode.Demonitor) = c.same
by_mode_watch I next watch c r (Some alias_mode.Reply) = c.dealiased r
by_mode_watch I next watch c r (Some alias_mode.ReplyDemonitor) = c.replied r

-- the process that is told when a message through an alias ends a monitor
module _ (P : Named → Type 0) where
  abbrev TellNames : AliasAnswer → Type 0
  TellNames alias_answer.Dropped = Unit {0}
  TellNames (alias_answer.Kept tell) = IfSome tell (λ (q : Pid). P (process q.0))

  by_mode_tells : (watch : WatchState) → WatchNames P watch → (r : Ref) (mode : Option AliasMode) → TellNames (by_mode watch r mode).0
  by_mode_tells watch k r None = tt
  by_mode_tells watch k r (Some alias_mode.Explicit) = tt
  by_mode_tells watch k r (Some alias_mode.Demonitor) = tt
  by_mode_tells watch k r (Some alias_mode.Reply) = tt
  by_mode_tells watch k r (Some alias_mode.ReplyDemonitor) = told_names P watch k r

-- what may be made of the messages and marks of a process by a signal
pub record IsHandled (I : Inbox → Type 0) (s : ProcessState) : Type 0 where
  pub same : I s.tables.inbox
  pub arrived : (message : Term) → I (arrived_in s.tables.inbox message)
  pub emptied : I (emptied_inbox s.tables.inbox)

pub any_handled : (s : ProcessState) → IsHandled AnyInbox s
any_handled s = record { same = tt; arrived = λ message. tt; emptied = tt }

-- by the answer of a rule, it tells one or the other
either_told : (b : Bool) (x y : Outcome) → OutcomeSizes x → OutcomeSizes y → OutcomeSizes (cond b x y)
either_told true x y h g = h
either_told false x y h g = g

module _ (L : Shown) (p : Declared) (pid sender : ℕ) (from : L.name (process sender)) where
  -- the messages of an exit signal and of a down
  exit_message_held : (reason : Term) → IsBuilt L reason → IsHeld L (exit_message sender reason)
  exit_message_held reason h =
      let all : Term → Type 0 = AllNames L.name in
      let named : Term = term.Pid (record { 0 = sender }) in
      record {
        names = tuple_names L.name (term.Atom (codes "EXIT") ∷ named ∷ reason ∷ [])
            (All-cons all (term.Atom (codes "EXIT")) (named ∷ reason ∷ []) (atom_names L.name (codes "EXIT"))
            (All-cons all named (reason ∷ []) (pid_names L.name (record { 0 = sender }) from) (All-cons all reason [] h.names (All-nil all))));
        size = λ z. exit_kept sender reason (h.size z);
      }

  down_message_held : (r : Ref) (reason : Term) → OfRef L.name r → IsBuilt L reason → IsHeld L (down_message r sender reason)
  down_message_held r reason h g =
      let all : Term → Type 0 = AllNames L.name in
      let made : L.name (reference r) × L.name (process r.owner.0) = ref_of_all L.name r h in
      let named : Term = term.Pid (record { 0 = sender }) in
      let last : List Term = term.Atom (codes "process") ∷ named ∷ reason ∷ [] in
      record {
        names = tuple_names L.name (term.Atom (codes "DOWN") ∷ term.Ref r ∷ last)
            (All-cons all (term.Atom (codes "DOWN")) (term.Ref r ∷ last) (atom_names L.name (codes "DOWN"))
            (All-cons all (term.Ref r) last (ref_names L.name r made.0 made.1)
            (All-cons all (term.Atom (codes "process")) (named ∷ reason ∷ []) (atom_names L.name (codes "process"))
            (All-cons all named (reason ∷ []) (pid_names L.name (record { 0 = sender }) from) (All-cons all reason [] g.names (All-nil all))))));
        size = λ z. down_kept sender reason (g.size z) r;
      }

  -- it handles a signal that says this
  abbrev came : Kind → Option Came
  came what = Some (record { sender = sender; kind = what })

  module _ (what : Kind) (s : ProcessState) (idle : HearsNothing (came what) s) (k : IsBefore L p s) (arrived : (message : Term) → L.inbox (arrived_in s.tables.inbox message)) where
    -- a message comes, and the monitors and aliases change
    kept_message : (watch : WatchState) (message : Term) (posts : List Post) → WatchNames L.name watch → BearsAlike s.tables.watch watch → IsHeld L message → ArePosts L posts
        → L.watch s.counts.next_serial watch → IsRow L (came what) p s (record { state = (appending (rewatched s watch) message).state; outcome = outcome.Kept message; posts = posts })
    kept_message watch message posts h alike g sent left =
        let inbox : Inbox = s.tables.inbox in
        few_row L (came what) p s _
        (messaged L (record s.tables { watch = watch }) (watched L s.tables k.tables watch h) (arrived_in inbox message)
        (record { messages = All-push (λ (m : ℕ × Term). AllNames L.name m.1) inbox.messages (inbox.next_arrival, message) k.tables.names.inbox.messages g.names; marks = k.tables.names.inbox.marks })
        (λ z. All-push (λ (m : ℕ × Term). IsKeptTerm m.1) inbox.messages (inbox.next_arrival, message) (k.tables.sizes z).messages (g.size z)) (arrived message))
        k.here (record { arrivals = omega arith; ids = omega arith; serials = omega arith; rises = omega arith }) refl idle (owes_alike s.tables _ _ _ alike) sent g.size left

    appending_row : (message : Term) → IsHeld L message → IsRow L (came what) p s (appending s message)
    appending_row message h = kept_message s.tables.watch message [] k.tables.names.watch (same_watch s.tables.watch) h (no_posts L) k.watch.same

    exit_rule_row : (reason : Term) → IsBuilt L reason → IsRow L (came what) p s (exit_rule pid s sender reason)
    exit_rule_row reason h =
        cond_both s.traps _ _ (IsRow L (came what) p s) (λ e. appending_row (exit_message sender reason) (exit_message_held reason h))
        (λ e. cond_both (same_term reason normal && not (sender == pid)) _ _ (IsRow L (came what) p s) (λ f. dropping_row L (came what) p s k idle) (λ f. ending_row L (came what) p s k reason h))

    plain_exit_row : (reason : Term) → IsBuilt L reason → IsRow L (came what) p s (plain_exit pid s sender reason)
    plain_exit_row reason h = cond_both (same_term reason kill) _ _ (IsRow L (came what) p s) (λ e. ending_atom L (came what) p s k (codes "killed")) (λ e. exit_rule_row reason h)

  -- where the link has ended before
  unlinked_row : (reason : Term) (s : ProcessState) (b : Body) → IsRow L (came (Exit reason true)) p (relinked s (deactivated s.tables.links sender)) b → IsRow L (came (Exit reason true)) p s b
  unlinked_row reason s b h = record {
    kept = record {
      names = h.kept.names;
      bounds = λ j. let e : IsBoundedBody p (relinked s (deactivated s.tables.links sender)) b = h.kept.bounds j in
          record { first = e.first; within = e.within; arrivals = e.arrivals; ids = e.ids; serials = e.serials; posts = e.posts };
      owner = h.kept.owner;
    };
    sizes = h.sizes;
    moved = record { inbox = h.moved.inbox; serial = h.moved.serial };
    links = λ alive. exited_moves s.tables.links b.state.tables.links sender b.posts (h.links alive);
    watch = h.watch;
  }

  module _ (s : ProcessState) (k : IsBefore L p s) (arrived : (message : Term) → L.inbox (arrived_in s.tables.inbox message)) where
    linked_exit_row : (reason : Term) → IsBuilt L reason → IsRow L (came (Exit reason true)) p s (linked_exit pid s sender reason)
    linked_exit_row reason h =
        let after : LinkState = deactivated s.tables.links sender in
        let before : IsBefore L p (relinked s after) =
        record { tables = linked L s.tables k.tables after (deactivated_names L.name s.tables.links k.tables.names.links sender); here = k.here; emptied = k.emptied; watch = k.watch } in
        cond_both (is_active s.tables.links sender) (exit_rule pid (relinked s after) sender reason) (dropping s) (IsRow L (came (Exit reason true)) p s)
        (λ e. unlinked_row reason s _ (exit_rule_row (Exit reason true) (relinked s after) (exit_idle after sender (left_inactive s.tables.links sender)) before arrived reason h))
        (λ e. dropping_row L (came (Exit reason true)) p s k (exit_idle s.tables.links sender e))

    linking_up_row : (answer : Bool × LinkState) → LinkNames L.name answer.1 → answer.1.next_id ≤ s.tables.links.next_id + 1
        → LinkMoves (said_by sender Links) s.tables.links answer.1 [] → IsRow L (came Link) p s (linking_up s answer)
    linking_up_row (is, links) h ids moves =
        relinking L (came Link) p s k s.counts.place links _ [] k.here h ids moves (none_sent L) (λ z. either_told is outcome.Linked outcome.Dropped tt tt)

    unlinking_from_row : (id : ℕ) (answer : Bool × LinkState) → LinkNames L.name answer.1 → answer.1.next_id ≤ s.tables.links.next_id + 1
        → LinkMoves (said_by sender (Unlinks id)) s.tables.links answer.1 (record { to = sender; kind = UnlinkAck id } ∷ []) → IsRow L (came (Unlink id)) p s (unlinking_from s sender id answer)
    unlinking_from_row id (ended, links) h ids moves =
        relinking L (came (Unlink id)) p s k s.counts.place links _ _ k.here h ids moves (one_sent L (record { to = sender; kind = UnlinkAck id }) from (All-nil L.name) (λ z. tt)) (λ z. tt)

    acknowledging_row : (id : ℕ) (answer : Bool × LinkState) → LinkNames L.name answer.1 → answer.1.next_id ≤ s.tables.links.next_id + 1
        → LinkMoves (said_by sender (Acks id)) s.tables.links answer.1 [] → IsRow L (came (UnlinkAck id)) p s (acknowledging s answer)
    acknowledging_row id (awaited, links) h ids moves =
        relinking L (came (UnlinkAck id)) p s k s.counts.place links _ [] k.here h ids moves (none_sent L) (λ z. either_told awaited outcome.Acked outcome.Dropped tt tt)

    -- of a signal that tells nothing of a link
    unheard : (q : ℕ) → IsIdle (side_of s.tables.links q) []
    unheard q = nothing_idle (side_of s.tables.links q)

    through_alias_by : (r : Ref) (message : Term) (answer : AliasAnswer × WatchState) → OfRef L.name r → IsBuilt L message → WatchNames L.name answer.1
        → BearsAlike s.tables.watch answer.1 → TellNames L.name answer.0 → L.watch s.counts.next_serial answer.1 → IsRow L (came (AliasMessage r message)) p s (through_alias s r message answer)
    through_alias_by r message (alias_answer.Dropped, watch) h g w alike told left = dropping_row L (came (AliasMessage r message)) p s k unheard
    through_alias_by r message (alias_answer.Kept tell, watch) h g w alike told left =
        kept_message (AliasMessage r message) s unheard k arrived watch message (demonitor_posts r tell) w alike (held L message g) (demonitor_sent L r tell h told) left

    through_alias_row : (r : Ref) (message : Term) → OfRef L.name r → IsBuilt L message → IsRow L (came (AliasMessage r message)) p s (through_alias s r message (on_alias_message s.tables.watch r))
    through_alias_row r message h g =
        let watch : WatchState = s.tables.watch in
        let names : WatchNames L.name watch = k.tables.names.watch in
        through_alias_by r message (on_alias_message watch r) h g (on_alias_message_names L.name watch names r) (by_mode_alike watch r (mode_of watch r))
        (by_mode_tells L.name watch names r (mode_of watch r)) (by_mode_watch L.watch s.counts.next_serial watch k.watch r (mode_of watch r))

    -- the monitors and aliases change, and no signal is sent
    rewatching_row : (what : Kind) (watch : WatchState) (how : Outcome) → HearsNothing (came what) s → WatchNames L.name watch → owner_of (record s.tables { watch = watch }) ≡ owner_of s.tables
        → length watch.borne ≤ length s.tables.watch.borne + 1 → OutcomeSizes how → L.watch s.counts.next_serial watch → IsRow L (came what) p s (record { state = rewatched s watch; outcome = how; posts = [] })
    rewatching_row what watch how idle h owner few told left =
        row L (came what) p s _ (watched L s.tables k.tables watch h) k.here (near s _ refl refl refl) owner (none_sent L).names (none_sent L).sizes (λ peer. omega (arith, few)) (λ z. told)
        (λ alive. idle_moves (heard_from (came what)) s.tables.links s.tables.links [] refl idle (λ q. refl)) left

    watching_row : (r : Ref) → OfRef L.name r → IsRow L (came (Monitor r)) p s (watching s (on_monitor s.tables.watch r sender))
    watching_row r h =
        let watch : WatchState = s.tables.watch in
        rewatching_row (Monitor r) (on_monitor watch r sender) _ unheard (on_monitor_names L.name watch k.tables.names.watch r sender h from) (same_owner watch r sender) (one_borne watch r sender) tt
        (cond_both (bears watch.borne r) watch (record watch { borne = watch.borne ++ (r, sender) ∷ [] }) (L.watch s.counts.next_serial) (λ e. k.watch.same) (λ e. k.watch.bearing _))

    unwatching_row : (r : Ref) → IsRow L (came (Demonitor r)) p s (unwatching s (on_demonitor s.tables.watch r))
    unwatching_row r =
        let watch : WatchState = s.tables.watch in
        let fewer : length (without watch.borne r) ≤ length watch.borne = kept_few watch.borne r in
        rewatching_row (Demonitor r) (on_demonitor watch r).1 _ unheard (on_demonitor_names L.name watch k.tables.names.watch r) refl (omega (arith, fewer))
        (either_told (on_demonitor watch r).0 outcome.Unwatched outcome.Dropped tt tt) (k.watch.bearing _)

    told_down_row : (r : Ref) (reason : Term) → OfRef L.name r → IsBuilt L reason → IsRow L (came (Down r reason)) p s (told_down s r sender reason (on_down s.tables.watch r))
    told_down_row r reason h g =
        let watch : WatchState = s.tables.watch in
        cond_both (is_held watch r) _ (dropping s) (IsRow L (came (Down r reason)) p s)
        (λ e. kept_message (Down r reason) s unheard k arrived (unmonitored watch r) (down_message r sender reason) [] (unmonitored_names L.name watch k.tables.names.watch r) (unmonitored_alike watch r)
        (down_message_held r reason h g) (no_posts L) (k.watch.demonitored r))
        (λ e. dropping_row L (came (Down r reason)) p s k unheard)

    -- a reference, and the term behind it
    front : (r : Ref) (t : Term) → All L.name (names_of_ref r ++ names_of t) → OfRef L.name r
    front r t h = all_before L.name (names_of_ref r) (names_of t) h

    term_behind : (r : Ref) (t : Term) → All L.name (names_of_ref r ++ names_of t) → (L.sized → KindSizes (Message t)) → IsBuilt L t
    term_behind r t h size = record { names = all_behind L.name (names_of_ref r) (names_of t) h; size = size }

    -- one case for each kind, at a live process
    live_row : (what : Kind) → All L.name (names_of_kind what) → (L.sized → KindSizes what) → IsRow L (came what) p s (live_body pid s sender what)
    live_row (Message message) h g = appending_row (Message message) s unheard k arrived message (held L message (record { names = h; size = g }))
    live_row (AliasMessage r message) h g = through_alias_row r message (front r message h) (term_behind r message h g)
    live_row Link h g =
        linking_up_row (on_link s.tables.links sender) (on_link_names L.name s.tables.links k.tables.names.links sender from) (on_link_id s.tables.links sender) (on_link_moves s.tables.links sender)
    live_row (Unlink id) h g =
        unlinking_from_row id (on_unlink s.tables.links sender) (on_unlink_names L.name s.tables.links k.tables.names.links sender) (omega arith)
        (on_unlink_moves s.tables.links sender id (record { to = sender; kind = UnlinkAck id } ∷ []) (λ q. append-nil (said_by sender (Acks id) q)))
    live_row (UnlinkAck id) h g =
        acknowledging_row id (on_ack s.tables.links sender id) (on_ack_names L.name s.tables.links k.tables.names.links sender id) (on_ack_id s.tables.links sender id)
        (on_ack_moves s.tables.links sender id)
    live_row (Monitor r) h g = watching_row r h
    live_row (Demonitor r) h g = unwatching_row r
    live_row (Exit reason true) h g = linked_exit_row reason (record { names = h; size = g })
    live_row (Exit reason false) h g = plain_exit_row (Exit reason false) s unheard k arrived reason (record { names = h; size = g })
    live_row (Down r reason) h g = told_down_row r reason (front r reason h) (term_behind r reason h g)

    -- and at a process that has ended, which stays as it is
    module _ (over : s.tables.end ≡ None → ⊥) where
      standing_row : (what : Kind) (how : Outcome) (posts : List Post) → AreSent L posts → OutcomeSizes how → IsRow L (came what) p s (record { state = s; outcome = how; posts = posts })
      standing_row what how posts sent told = sending L (came what) p s _ k.tables k.here (near s _ refl refl refl) (record { owner = refl; due = refl }) sent (λ z. told) (λ alive. absurd (over alive)) k.watch.same

      answering_row : (what answer : Kind) → All L.name (names_of_kind answer) → (L.sized → KindSizes answer) → IsRow L (came what) p s (answering_noproc s sender answer)
      answering_row what answer names size = standing_row what outcome.NoProc _ (one_sent L (record { to = sender; kind = answer }) from names size) tt

      ended_row : (what : Kind) → All L.name (names_of_kind what) → IsRow L (came what) p s (ended_body s sender what)
      ended_row Link h = answering_row Link _ (atom_names L.name (codes "noproc")) (λ z. atom_small (codes "noproc"))
      ended_row (Monitor r) h = answering_row (Monitor r) _ (All-append L.name (names_of_ref r) _ h (atom_names L.name (codes "noproc"))) (λ z. atom_small (codes "noproc"))
      ended_row what h = standing_row what outcome.Dropped [] (none_sent L) tt

-- a process that has ended stays so
over_still : {A : Type 0} (o : Option A) → is_some o ≡ true → o ≡ None → ⊥
over_still None h e = cc
over_still (Some x) h e = cc

pub alive_still : {A : Type 0} (o : Option A) → is_some o ≡ false → o ≡ None
alive_still None h = refl
alive_still (Some x) h = cc

-- what a process does with a signal
handling_row : (L : Shown) (p : Declared) (pid : ℕ) (s : ProcessState) (x : Signal) → TableNames L.name s.tables → (L.sized → TableSizes s.tables) → (L.bounded → IsAt p s.counts.place)
    → IsHandled L.inbox s → IsRewatched L.watch s.counts.next_serial s.tables.watch → SignalNames L.name x → (L.sized → KindSizes x.kind) → IsRow L (Some (record { sender = x.from.0; kind = x.kind })) p s (handling pid s x)
unfolding handling
handling_row L p pid s x names sizes here c watch h g =
    let k : IsBefore L p s = record { tables = record { names = names; sizes = sizes; inbox = c.same }; here = here; emptied = c.emptied; watch = watch } in
    cond_both (is_some s.tables.end) _ _ (IsRow L (Some (record { sender = x.from.0; kind = x.kind })) p s)
    (λ e. ended_row L p pid x.from.0 h.from s k c.arrived (over_still s.tables.end e) x.kind h.kind)
    (λ e. live_row L p pid x.from.0 h.from s k c.arrived x.kind h.kind g)

-- the bundle's parts, each a law of its own: names and bounds, messages and marks, sizes, monitors and aliases, and links
pub handling_kept : (P : Named → Type 0) (H : Type 0) (p : Declared) (s : ProcessState) → TableNames P s.tables → (H → IsBounded p s) → (pid : ℕ) (x : Signal)
    → SignalNames P x → IsKeptBody P H p s (handling pid s x)
handling_kept P H p s k b pid x h =
    let L : Shown = record { name = P; bounded = H; sized = ⊥; inbox = AnyInbox; watch = AnyWatch } in
    (handling_row L p pid s x k (λ z. absurd z) (λ j. ((b j).first, (b j).within)) (any_handled s) (any_rewatched _ _) h (λ z. absurd z)).kept

pub handling_moved : (I : Inbox → Type 0) (pid : ℕ) (s : ProcessState) → IsHandled I s → (x : Signal) → IsMoved I s (handling pid s x)
handling_moved I pid s c x =
    let L : Shown = record { name = Any; bounded = ⊥; sized = ⊥; inbox = I; watch = AnyWatch } in
    (handling_row L no_part pid s x (any_tables s.tables) (λ z. absurd z) (λ j. absurd j) c (any_rewatched _ _) (any_signal x) (λ z. absurd z)).moved

pub handling_sizes : (pid : ℕ) (s : ProcessState) (x : Signal) → TableSizes s.tables → KindSizes x.kind → BodySizes (handling pid s x)
handling_sizes pid s x k h =
    let L : Shown = record { name = Any; bounded = ⊥; sized = Unit {0}; inbox = AnyInbox; watch = AnyWatch } in
    (handling_row L no_part pid s x (any_tables s.tables) (λ z. k) (λ j. absurd j) (any_handled s) (any_rewatched _ _) (any_signal x) (λ z. h)).sizes tt

pub handling_watch : (I : ℕ → WatchState → Type 0) (pid : ℕ) (s : ProcessState) → IsRewatched I s.counts.next_serial s.tables.watch → (x : Signal) → IsWatching I (handling pid s x)
handling_watch I pid s c x =
    let L : Shown = record { name = Any; bounded = ⊥; sized = ⊥; inbox = AnyInbox; watch = I } in
    (handling_row L no_part pid s x (any_tables s.tables) (λ z. absurd z) (λ j. absurd j) (any_handled s) c (any_signal x) (λ z. absurd z)).watch

pub handling_links : (pid : ℕ) (s : ProcessState) (x : Signal) → LinkPart (Some (record { sender = x.from.0; kind = x.kind })) s (handling pid s x)
handling_links pid s x =
    let L : Shown = record { name = Any; bounded = ⊥; sized = ⊥; inbox = AnyInbox; watch = AnyWatch } in
    (handling_row L no_part pid s x (any_tables s.tables) (λ z. absurd z) (λ j. absurd j) (any_handled s) (any_rewatched _ _) (any_signal x) (λ z. absurd z)).links

-- a process that goes on after a signal had not ended before it
ended_stays : (s : ProcessState) (sender : ℕ) (what : Kind) → (ended_body s sender what).state ≡ s
ended_stays s sender Link = refl
ended_stays s sender (Monitor r) = refl
ended_stays s sender _ = refl

pub handling_alive : (pid : ℕ) (s : ProcessState) (x : Signal) → (handling pid s x).state.tables.end ≡ None → s.tables.end ≡ None
unfolding handling
handling_alive pid s x =
    cond_both (is_some s.tables.end) (ended_body s x.from.0 x.kind) (live_body pid s x.from.0 x.kind) (λ (b : Body). b.state.tables.end ≡ None → s.tables.end ≡ None)
    (λ e alive. ap (λ (z : ProcessState). z.tables.end) (sym (ended_stays s x.from.0 x.kind)) ∙ alive)
    (λ e alive. alive_still s.tables.end e)

-- a word goes to the receiver alone
pub words_to_others : (what : Kind) → words_if false what ≡ []
words_to_others Link = refl
words_to_others (Unlink id) = refl
words_to_others (UnlinkAck id) = refl
words_to_others (Exit reason true) = refl
words_to_others _ = refl

rule_bare : (pid : ℕ) (s : ProcessState) (sender : ℕ) (reason : Term) → exit_rule pid (plain_state s) sender reason ≡ bare (exit_rule pid s sender reason)
rule_bare pid s sender reason = cond_bare s.traps _ _ _ _ refl (cond_bare (same_term reason normal && not (sender == pid)) _ _ _ _ refl refl)

alias_bare : (s : ProcessState) (r : Ref) (message : Term) (answer : AliasAnswer) (watch : WatchState) → through_alias (plain_state s) r message (answer, watch) ≡ bare (through_alias s r message (answer, watch))
alias_bare s r message alias_answer.Dropped watch = refl
alias_bare s r message (alias_answer.Kept tell) watch = refl

-- A cell that asks for nothing computes to the same.
pub live_bare : (pid : ℕ) (s : ProcessState) (sender : ℕ) (k : Kind) → live_body pid (plain_state s) sender k ≡ bare (live_body pid s sender k)
live_bare pid s sender (AliasMessage r message) = alias_bare s r message (on_alias_message s.tables.watch r).0 (on_alias_message s.tables.watch r).1
live_bare pid s sender (Exit reason true) = cond_bare (is_active s.tables.links sender) _ _ _ _ (rule_bare pid (relinked s (deactivated s.tables.links sender)) sender reason) refl
live_bare pid s sender (Exit reason false) = cond_bare (same_term reason kill) _ _ _ _ refl (rule_bare pid s sender reason)
live_bare pid s sender (Down r reason) = cond_bare (on_down s.tables.watch r).0 _ _ _ _ refl refl
live_bare pid s sender _ = refl

pub ended_bare : (s : ProcessState) (sender : ℕ) (k : Kind) → ended_body (plain_state s) sender k ≡ bare (ended_body s sender k)
ended_bare s sender Link = refl
ended_bare s sender (Monitor r) = refl
ended_bare s sender _ = refl
