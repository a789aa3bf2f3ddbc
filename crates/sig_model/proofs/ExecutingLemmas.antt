-- What is shown of each instruction: one case for each row of the table of instructions gives the whole bundle, of names, bounds,
-- sizes, marks, monitors and links. The laws of each are parts of it, so that a new instruction has its case here alone.
use Rattle.std.proofs.Common.{◌≡◌, ℕ, suc, ◌+◌, ◌-◌, ◌≤◌, ◌<◌, List, [], ◌∷◌, length, drop, Bool, true, false, cond, All, IfSome, Option, Some, None, slice_get, codes, refl, sym, ap, subst, arith}
use Rattle.std.specs.Prelude.{remove, if◌then◌else◌}
use Rattle.std.specs.Option.{option_map, option_map_or}
use Rattle.std.specs.FinMap.{insert}
use Rattle.std.proofs.lemmas.Bool.{cond_both}
use Rattle.std.proofs.lemmas.List.Elements.{All-nil, All-head, All-tail, All-append, All-push, All-take, All-drop, All-filter, All-map, All-weaker}
use Rattle.std.proofs.lemmas.Option.{slice_get_within, IfSome_then}
use Rattle.sig_terms.specs.declared.pid.Pid.{Pid}
use Rattle.sig_terms.specs.declared.reading.TheConstants.{READ_DEPTH, READ_NODES}
use Rattle.sig_terms.specs.declared.reference.Ref.{Ref}
use Rattle.sig_terms.specs.declared.term.Term.{Term}
use Rattle.sig_terms.specs.declared.term.Term.TheVariants as term
use Rattle.sig_terms.specs.Names.{Named, process, reference, names_of_ref, names_of, AllNames, IsNameBelow}
use Rattle.sig_terms.proofs.NameLemmas.{all_of_ref, pid_tells, ref_names, ref_tells}
use Rattle.sig_kinds.specs.declared.alias_mode.AliasMode.{AliasMode}
use Rattle.sig_kinds.specs.declared.signal.Kind.TheVariants as kind
use Rattle.sig_kinds.specs.LinkRules.{LinkState, link, unlink}
use Rattle.sig_kinds.specs.SignalNames.{LinkNames, WatchNames}
use Rattle.sig_kinds.specs.WatchRules.{WatchState, is_held, told_of, ends_with_monitor, monitor, alias, unaliased, unmonitored, mode_of}
use Rattle.sig_kinds.proofs.LinkNameLemmas.{link_names, unlink_names}
use Rattle.sig_kinds.proofs.WatchNameLemmas.{monitor_names, alias_names, unaliased_names, unmonitored_names, told_names}
use Rattle.sig_patterns.specs.declared.clause.Clause.{Clause}
use Rattle.sig_patterns.specs.declared.expression.Expr.{Expr}
use Rattle.sig_patterns.specs.declared.mark.Reserve.{Reserve}
use Rattle.sig_patterns.specs.declared.mark.Mark.{Mark}
use Rattle.sig_patterns.specs.declared.var.Var.{Var}
use Rattle.sig_patterns.specs.Environment.{value_of_var}
use Rattle.sig_patterns.specs.Building.{value_of, is_small}
use Rattle.sig_patterns.specs.Inbox.{Inbox, terms_of, without_message, down_place, emptied_inbox, reserved, without_mark, is_made_since, bound_by, bound_in, cleared_in}
use Rattle.sig_patterns.specs.Scanning.{Hit}
use Rattle.sig_program.specs.declared.label.Label.{Label}
use Rattle.sig_program.specs.declared.instruction.Instr.{Instr}
use Rattle.sig_program.specs.declared.instruction.Instr.TheVariants as instr
use Rattle.sig_program.specs.declared.instruction.After.{After}
use Rattle.sig_program.specs.Parts.{exprs_of}
use Rattle.sig_program.specs.Scripts.{Declared, IsInstrBelow, IsProcBelow, IsPlace, IsWithin}
use Rattle.sig_model.specs.declared.event.Outcome.{Outcome}
use Rattle.sig_model.specs.declared.event.Outcome.TheVariants as outcome
use Rattle.sig_model.specs.declared.target.Target.{Target}
use Rattle.sig_model.specs.declared.target.Target.TheVariants as target
use Rattle.sig_model.specs.ProcessState.{ProcessState, owner_of, Post, rewatched, InboxNames, TableNames}
use Rattle.sig_model.specs.Bodies.{Body, at_next, place_after, going_on, ending, system_limit}
use Rattle.sig_model.specs.Executing.{built, with_value, with_pid, with_ref, with_target, sending, setting, linked_by, unlink_posts, unlinked_by, new_ref, making, monitored_by, monitoring, aliasing, flushed_into, demonitoring, unaliasing, reserving, ref_in, ref_of_var, marked_by, at_marker, binding, clearing, marked_start, from_mark, hit_from, receiving, exec_body, executing}
use Rattle.sig_model.specs.LinkPair.{side_of}
use Rattle.sig_model.specs.Stampless.{plain_state}
use Rattle.sig_model.specs.Bounds.{IsBounded}
use Rattle.sig_model.specs.Names.{ScriptNames}
use Rattle.sig_model.specs.TermSizes.{IsKeptTerm, TableSizes, BodySizes}
use Rattle.sig_model.proofs.AnyNames.{Any, any_script}
use Rattle.sig_model.proofs.Lookups.{at_place}
use Rattle.sig_model.proofs.ValueNames.{ExprNames, var_names, value_names}
use Rattle.sig_model.proofs.TermSizeLemmas.{AreWithin, small_tells, small_kept, ref_small}
use Rattle.sig_model.proofs.MatchParts.{HitValues, hit_values, name_parts, size_parts}
use Rattle.sig_model.proofs.TableLemmas.{OfRef, AllMessages, any_tables, BearsAlike, same_watch, owes_alike, Shown, IsBuilt, held, rebound, valued, watched, messaged}
use Rattle.sig_model.proofs.LinkMoves.{LinkMoves, silence, nothing_idle, link_moves, unlink_moves}
use Rattle.sig_model.proofs.BodyLemmas.{IsAt, IsKeptBody, IsMoved, AnyInbox, AnyWatch, IsWatching, IsRewatched, any_rewatched, near, LinkPart, HearsNothing, IsTold, AreSent, none_sent, one_sent, ArePosts, no_posts, one_post, demonitor_sent, IsRow, IsBefore, few_row, moving, relinking, ending_row, ending_atom, link_id, unlink_id}

-- the rules for the calls leave the monitors that are borne
monitor_alike : (watch : WatchState) (r : Ref) (target : ℕ) (mode : Option AliasMode) → BearsAlike watch (monitor watch r target mode).1
monitor_alike watch r target None = record { owner = refl; borne = refl }
monitor_alike watch r target (Some mode) = record { owner = refl; borne = refl }

pub unmonitored_alike : (watch : WatchState) (r : Ref) → BearsAlike watch (unmonitored watch r)
unmonitored_alike watch r =
    cond_both (is_held watch r) _ _ (BearsAlike watch)
    (λ e. cond_both (option_map_or ends_with_monitor (mode_of watch r) false) _ _ (BearsAlike watch) (λ f. record { owner = refl; borne = refl }) (λ f. record { owner = refl; borne = refl }))
    (λ e. same_watch watch)

module _ (P : Named → Type 0) where
  left_names : (inbox : Inbox) → InboxNames P inbox → (at : ℕ) → InboxNames P (without_message inbox at)
  left_names inbox k at = record {
    messages = All-append (λ (m : ℕ × Term). AllNames P m.1) _ _ (All-take (λ (m : ℕ × Term). AllNames P m.1) at inbox.messages k.messages) (All-drop (λ (m : ℕ × Term). AllNames P m.1) (suc at) inbox.messages k.messages);
    marks = k.marks;
  }

  -- the reference that a value is
  ref_in_names : (t : Term) → AllNames P t → IfSome (ref_in t) (OfRef P)
  ref_in_names (term.Ref r) h = let names : P (reference r) × P (process r.owner.0) = ref_tells P r h in all_of_ref P r names.0 names.1
  ref_in_names _ h = tt

  -- by the rules for marks
  abbrev OfMark : Mark → Type 0
  OfMark m = OfRef P m.reference

  without_names : (marks : List Mark) (r : Ref) → All OfMark marks → All OfMark (without_mark marks r)
  without_names marks r k = All-filter _ OfMark marks k

  bound_names : (owner : ℕ) (inbox : Inbox) → InboxNames P inbox → (r : Ref) → OfRef P r → (reserve : Option Reserve)
      → InboxNames P (option_map_or {U = Bool × Inbox} (bound_by owner inbox r) reserve (false, inbox)).1
  bound_names owner inbox k r h None = k
  bound_names owner inbox k r h (Some reserve) =
      let mark : Mark = record { reference = r; arrival = reserve.arrival } in
      cond_both (is_made_since owner reserve r) _ _ (λ (answer : Bool × Inbox). InboxNames P answer.1)
      (λ e. record { messages = k.messages; marks = All-drop OfMark _ _ (All-push OfMark (without_mark inbox.marks r) mark (without_names inbox.marks r k.marks) h) })
      (λ e. k)

  cleared_names : (inbox : Inbox) → InboxNames P inbox → (r : Ref) → InboxNames P (cleared_in inbox r).1
  cleared_names inbox k r = record { messages = k.messages; marks = without_names inbox.marks r k.marks }

  -- the expressions of an instruction
  abbrev InstrNames : Instr → Type 0
  InstrNames i = All (ExprNames P) (exprs_of i)

  only : (e : Expr) → All (ExprNames P) (e ∷ []) → ExprNames P e
  only e h = All-head (ExprNames P) e [] h

  first : (d e : Expr) → All (ExprNames P) (d ∷ e ∷ []) → ExprNames P d
  first d e h = All-head (ExprNames P) d (e ∷ []) h

  second : (d e : Expr) → All (ExprNames P) (d ∷ e ∷ []) → ExprNames P e
  second d e h = only e (All-tail (ExprNames P) d (e ∷ []) h)

  -- what an instruction does at s; where it makes a reference, P has to hold of that too
  abbrev pub IsKeptMade : (H : Type 0) → Declared → ProcessState → Body → Type 0
  IsKeptMade H p s b = (s.counts.next_serial < b.state.counts.next_serial → P (reference (new_ref s))) → IsKeptBody P H p s b

-- the messages that are left, and the arrival numbers
left_messages : (messages : List (ℕ × Term)) (at : ℕ) → AllMessages messages → AllMessages (remove messages at)
left_messages messages at h =
    All-append (λ (m : ℕ × Term). IsKeptTerm m.1) _ _ (All-take (λ (m : ℕ × Term). IsKeptTerm m.1) at messages h) (All-drop (λ (m : ℕ × Term). IsKeptTerm m.1) (suc at) messages h)

-- only the marks differ
record OnlyMarks (before after : Inbox) : Type 0 where
  pub messages : after.messages ≡ before.messages
  pub arrivals : after.next_arrival ≡ before.next_arrival

bound_marks : (owner : ℕ) (inbox : Inbox) (r : Ref) (reserve : Option Reserve) → OnlyMarks inbox (option_map_or {U = Bool × Inbox} (bound_by owner inbox r) reserve (false, inbox)).1
bound_marks owner inbox r None = record { messages = refl; arrivals = refl }
bound_marks owner inbox r (Some reserve) =
    cond_both (is_made_since owner reserve r) _ _ (λ (answer : Bool × Inbox). OnlyMarks inbox answer.1) (λ e. record { messages = refl; arrivals = refl }) (λ e. record { messages = refl; arrivals = refl })

-- the next instruction, where the scan of a receive begins so
abbrev pub next_body : (ℕ → ℕ) → Declared → ProcessState → Option Body
next_body begin p s = exec_body begin p s (slice_get p.instrs (s.counts.place - 1))

-- what may be made of the messages and marks by an instruction
pub record IsExecuted (I : Inbox → Type 0) (s : ProcessState) : Type 0 where
  pub same : I s.tables.inbox
  pub without : (at : ℕ) → I (without_message s.tables.inbox at)
  pub emptied : I (emptied_inbox s.tables.inbox)
  pub reserve : I (reserved s.tables.inbox s.counts.next_serial)
  pub bound : (r : Ref) → I (bound_in (owner_of s.tables) s.tables.inbox r).1
  pub cleared : (r : Ref) → I (cleared_in s.tables.inbox r).1

pub any_executed : (s : ProcessState) → IsExecuted AnyInbox s
any_executed s = record { same = tt; without = λ at. tt; emptied = tt; reserve = tt; bound = λ r. tt; cleared = λ r. tt }

-- what is made of the monitors and aliases, and of the next serial, by an instruction that makes a reference
pub record IsMaking (I : ℕ → WatchState → Type 0) (s : ProcessState) : Type 0 where
  pub alone : I (s.counts.next_serial + 1) s.tables.watch
  pub monitored : (target : ℕ) (mode : Option AliasMode) → I (s.counts.next_serial + 1) (monitor s.tables.watch (new_ref s) target mode).1
  pub aliased : (reply : Bool) → I (s.counts.next_serial + 1) (alias s.tables.watch (new_ref s) reply)

pub any_making : (s : ProcessState) → IsMaking AnyWatch s
any_making s = record { alone = tt; monitored = λ target mode. tt; aliased = λ reply. tt }

module _ (L : Shown) (p : Declared) (s : ProcessState) (k : IsBefore L p s) (c : IsExecuted L.inbox s) (m : IsMaking L.watch s) where
  -- the bundle of a row; where it makes a reference, what holds of every name has to hold of that too
  abbrev Row : Body → Type 0
  Row b = (s.counts.next_serial < b.state.counts.next_serial → L.name (reference (new_ref s))) → IsRow L None p s b

  names : TableNames L.name s.tables
  names = k.tables.names

  sizes : L.sized → TableSizes s.tables
  sizes = k.tables.sizes

  -- an execution hears nothing
  idle : HearsNothing None s
  idle q = nothing_idle (side_of s.tables.links q)

  ended : (a : List ℕ) → Row (ending s (term.Atom a))
  ended a n = ending_atom L None p s k a

  -- rows begin with values of expressions
  with_value_row : (e : Expr) (go : Term → Body) → ExprNames L.name e → ((t : Term) → IsBuilt L t → Row (go t)) → Row (with_value s e go)
  with_value_row e go h goes =
      let v : Term = value_of s.tables.env e in
      cond_both (is_small v) (Some v) None (λ o. Row (option_map_or go o (ending s system_limit)))
      (λ b. goes v (record { names = value_names L.name s.tables.env names.env e h; size = λ z. small_tells v b })) (λ b. ended (codes "system_limit"))

  with_pid_row : (t : Term) (go : Pid → Body) → IsBuilt L t → ((q : Pid) → L.name (process q.0) → Row (go q)) → Row (with_pid s t go)
  with_pid_row (term.Pid q) go h goes = goes q (pid_tells L.name q h.names)
  with_pid_row _ go h goes = ended (codes "badarg")

  with_ref_row : (t : Term) (go : Ref → Body) → IsBuilt L t → ((r : Ref) → OfRef L.name r → Row (go r)) → Row (with_ref s t go)
  with_ref_row (term.Ref r) go h goes = let tells : L.name (reference r) × L.name (process r.owner.0) = ref_tells L.name r h.names in goes r (all_of_ref L.name r tells.0 tells.1)
  with_ref_row _ go h goes = ended (codes "badarg")

  -- with the process, or the reference, that the value of an expression is
  with_peer_row : (e : Expr) (go : Pid → Body) → ExprNames L.name e → ((q : Pid) → L.name (process q.0) → Row (go q)) → Row (with_value s e (λ t. with_pid s t go))
  with_peer_row e go h goes = with_value_row e (λ t. with_pid s t go) h (λ t g. with_pid_row t go g goes)

  with_reference_row : (e : Expr) (go : Ref → Body) → ExprNames L.name e → ((r : Ref) → OfRef L.name r → Row (go r)) → Row (with_value s e (λ t. with_ref s t go))
  with_reference_row e go h goes = with_value_row e (λ t. with_ref s t go) h (λ t g. with_ref_row t go g goes)

  -- where the process goes on behind an instruction
  module _ (w : L.bounded → IsWithin p) (inside : L.bounded → s.counts.place ≤ length p.instrs) where
    behind : L.bounded → IsAt p (s.counts.place + 1)
    behind h = (omega arith, omega (arith, inside h))

    label_place : (o : Option Label) → (L.bounded → IfSome o (IsPlace (length p.instrs))) → L.bounded → IsAt p (option_map_or (λ l. l.place) o (s.counts.place + 1))
    label_place None g = behind
    label_place (Some label) g = g

    target_place : (target : Option ℕ) → L.bounded → IsAt p (place_after p.labels target s.counts.place)
    target_place None = behind
    target_place (Some label) = label_place (slice_get p.labels label) (λ h. at_place (IsPlace (length p.instrs)) p.labels label (w h).places)

    -- a row that leaves the tables: it goes on behind with these signals, or at a place
    stepping : (traps : Bool) (how : Outcome) (posts : List Post) → ArePosts L posts → IsTold L how → Row (record { state = record (at_next s) { traps = traps }; outcome = how; posts = posts })
    stepping traps how posts sent told n = moving L None p s _ k.tables behind refl refl idle refl refl refl sent told k.watch.same

    going_row : (place : ℕ) (how : Outcome) → (L.bounded → IsAt p place) → IsTold L how → Row (going_on s place how)
    going_row place how at told n = moving L None p s _ k.tables at refl refl idle refl refl refl (no_posts L) told k.watch.same

    sending_row : (t message : Term) → IsBuilt L t → IsBuilt L message → Row (with_target s t (sending s message))
    sending_row (term.Pid q) message g h =
        stepping _ _ _ (one_post L _ (pid_tells L.name q g.names) h.names h.size (λ b. refl)) (λ z. (small_kept (term.Pid q) (g.size z), small_kept message (h.size z)))
    sending_row (term.Ref r) message g h =
        let tells : L.name (reference r) × L.name (process r.owner.0) = ref_tells L.name r g.names in
        stepping _ _ _ (one_post L _ tells.1 (All-append L.name (names_of_ref r) (names_of message) (all_of_ref L.name r tells.0 tells.1) h.names) h.size (λ b. refl))
        (λ z. (small_kept (term.Ref r) (g.size z), small_kept message (h.size z)))
    sending_row _ message g h = ended (codes "badarg")

    setting_row : (var : List ℕ) (value : Term) → IsBuilt L value → Row (setting s var value)
    setting_row var value h n =
        moving L None p s _ (valued L s.tables k.tables var value (held L value h)) behind refl refl idle refl refl refl (no_posts L) (λ z. small_kept value (h.size z)) k.watch.same

    linked_by_row : (peer : Pid) (answer : Bool × LinkState) → L.name (process peer.0) → LinkNames L.name answer.1
        → answer.1.next_id ≤ s.tables.links.next_id + 1 → LinkMoves silence s.tables.links answer.1 (cond answer.0 (record { to = peer.0; kind = kind.Link } ∷ []) []) → Row (linked_by s peer answer)
    linked_by_row peer (sends, links) g h ids moves n =
        relinking L None p s k _ links _ _ behind h ids moves
        (cond_both sends (record { to = peer.0; kind = kind.Link } ∷ []) [] (AreSent L) (λ e. one_sent L _ g (All-nil L.name) (λ z. tt)) (λ e. none_sent L)) (λ z. tt)

    unlink_sent : (peer : Pid) (id : Option ℕ) → L.name (process peer.0) → AreSent L (unlink_posts peer id)
    unlink_sent peer None g = none_sent L
    unlink_sent peer (Some id) g = one_sent L (record { to = peer.0; kind = kind.Unlink id }) g (All-nil L.name) (λ z. tt)

    unlinked_by_row : (peer : Pid) (answer : Option ℕ × LinkState) → L.name (process peer.0) → LinkNames L.name answer.1
        → answer.1.next_id ≤ s.tables.links.next_id + 1 → LinkMoves silence s.tables.links answer.1 (unlink_posts peer answer.0) → Row (unlinked_by s peer answer)
    unlinked_by_row peer (id, links) g h ids moves n = relinking L None p s k _ links _ _ behind h ids moves (unlink_sent peer id g) (λ z. tt)

    -- a row that makes a reference
    making_row : (var : List ℕ) (watch : WatchState) (posts : List Post) → (OfRef L.name (new_ref s) → WatchNames L.name watch) → BearsAlike s.tables.watch watch
        → (OfRef L.name (new_ref s) → ArePosts L posts) → L.watch (s.counts.next_serial + 1) watch → Row (making s var watch posts)
    making_row var watch posts h alike sent made_watch n =
        let r : Ref = new_ref s in
        let fresh : L.name (reference r) = n (omega arith) in
        let made : OfRef L.name r = all_of_ref L.name r fresh names.watch.owner in
        let value : IsBuilt L (term.Ref r) = record { names = ref_names L.name r fresh names.watch.owner; size = λ z. ref_small r } in
        few_row L None p s _
        (watched L (record s.tables { env = insert s.tables.env var (term.Ref r) }) (valued L s.tables k.tables var (term.Ref r) (held L (term.Ref r) value)) watch (h made))
        behind (record { arrivals = omega arith; ids = omega arith; serials = omega arith; rises = omega arith }) refl idle (owes_alike s.tables _ _ _ alike) (sent made) (λ z. small_kept (term.Ref r) (value.size z)) made_watch

    monitored_row : (var : List ℕ) (target : Pid) (answer : Bool × WatchState) → L.name (process target.0) → (OfRef L.name (new_ref s) → WatchNames L.name answer.1)
        → BearsAlike s.tables.watch answer.1 → L.watch (s.counts.next_serial + 1) answer.1 → Row (monitored_by s var target answer)
    monitored_row var target (sends, watch) g h alike made =
        making_row var watch _ h alike
        (λ r. cond_both sends (record { to = target.0; kind = kind.Monitor (new_ref s) } ∷ []) [] (ArePosts L) (λ e. one_post L _ g r (λ z. tt) (λ b. refl)) (λ e. no_posts L)) made

    monitoring_row : (var : List ℕ) (mode : Option AliasMode) (target : Pid) → L.name (process target.0) → Row (monitoring s var mode target)
    monitoring_row var mode target g =
        monitored_row var target (monitor s.tables.watch (new_ref s) target.0 mode) g (λ r. monitor_names L.name s.tables.watch names.watch (new_ref s) target.0 mode r g)
        (monitor_alike s.tables.watch (new_ref s) target.0 mode) (m.monitored target.0 mode)

    aliasing_row : (var : List ℕ) (reply : Bool) → Row (aliasing s var reply)
    aliasing_row var reply =
        making_row var (alias s.tables.watch (new_ref s) reply) [] (λ r. alias_names L.name s.tables.watch names.watch (new_ref s) reply r) (record { owner = refl; borne = refl }) (λ r. no_posts L) (m.aliased reply)

    -- a row that changes the monitors and aliases: it ends a monitor, or an alias
    rewatching : (watch : WatchState) (how : Outcome) (posts : List Post) → WatchNames L.name watch → BearsAlike s.tables.watch watch → ArePosts L posts → IsTold L how
        → L.watch s.counts.next_serial watch → IsRow L None p s (record { state = rewatched (at_next s) watch; outcome = how; posts = posts })
    rewatching watch how posts h alike sent told left =
        few_row L None p s _ (watched L s.tables k.tables watch h) behind (near s _ refl refl refl) refl idle (owes_alike s.tables _ _ _ alike) sent told left

    flushing_row : (watch : WatchState) (posts : List Post) (at : Option ℕ) → WatchNames L.name watch → BearsAlike s.tables.watch watch → ArePosts L posts
        → L.watch s.counts.next_serial watch → Row (flushed_into (record { state = rewatched (at_next s) watch; outcome = outcome.Done; posts = posts }) (option_map_or {U = Bool × Inbox} (λ (i : ℕ). (true, without_message s.tables.inbox i)) at (false, s.tables.inbox)))
    flushing_row watch posts None h alike sent left n = rewatching watch _ posts h alike sent (λ z. tt) left
    flushing_row watch posts (Some i) h alike sent left n =
        few_row L None p s _
        (messaged L (record s.tables { watch = watch }) (watched L s.tables k.tables watch h) (without_message s.tables.inbox i) (left_names L.name s.tables.inbox names.inbox i)
        (λ z. left_messages s.tables.inbox.messages i (sizes z).messages) (c.without i))
        behind (near s _ refl refl refl) refl idle (owes_alike s.tables _ _ _ alike) sent (λ z. tt) left

    demonitoring_row : (flush : Bool) (r : Ref) → OfRef L.name r → Row (demonitoring s flush r)
    demonitoring_row false r h n =
        let watch : WatchState = s.tables.watch in
        rewatching (unmonitored watch r) _ _ (unmonitored_names L.name watch names.watch r) (unmonitored_alike watch r)
        (demonitor_sent L r (told_of watch r) h (told_names L.name watch names.watch r)) (λ z. tt) (k.watch.demonitored r)
    demonitoring_row true r h n =
        let watch : WatchState = s.tables.watch in
        flushing_row (unmonitored watch r) _ (down_place s.tables.inbox r) (unmonitored_names L.name watch names.watch r) (unmonitored_alike watch r)
        (demonitor_sent L r (told_of watch r) h (told_names L.name watch names.watch r)) (k.watch.demonitored r) n

    unaliasing_row : (r : Ref) → Row (unaliasing s r)
    unaliasing_row r n =
        rewatching (unaliased s.tables.watch r) _ [] (unaliased_names L.name s.tables.watch names.watch r) (record { owner = refl; borne = refl }) (no_posts L) (λ z. tt) (k.watch.dealiased r)

    -- a row that changes the reserve and the marks
    marked_row : (answer : Bool × Inbox) → InboxNames L.name answer.1 → OnlyMarks s.tables.inbox answer.1 → L.inbox answer.1 → Row (marked_by s answer)
    marked_row (is, inbox) h only moved n =
        moving L None p s _ (messaged L s.tables k.tables inbox h (λ z. subst AllMessages (sym only.messages) (sizes z).messages) moved) behind only.arrivals refl idle refl refl refl (no_posts L) (λ z. tt) k.watch.same

    marking_row : (rule : Ref → Bool × Inbox) → ((r : Ref) → OfRef L.name r → InboxNames L.name (rule r).1) → ((r : Ref) → OnlyMarks s.tables.inbox (rule r).1) → ((r : Ref) → L.inbox (rule r).1)
        → (o : Option Ref) → IfSome o (OfRef L.name) → Row (at_marker s rule o)
    marking_row rule h only moved None named = marked_row (false, s.tables.inbox) names.inbox (record { messages = refl; arrivals = refl }) c.same
    marking_row rule h only moved (Some r) named = marked_row (rule r) (h r named) (only r) (moved r)

    reserving_row : Row (reserving s)
    reserving_row n =
        moving L None p s _
        (messaged L s.tables k.tables (reserved s.tables.inbox s.counts.next_serial) (record { messages = names.inbox.messages; marks = names.inbox.marks }) (λ z. (sizes z).messages) c.reserve)
        behind refl refl idle refl refl refl (no_posts L) (λ z. tt) k.watch.same

    named_by : (x : Var) → IfSome (ref_of_var s.tables.env x) (OfRef L.name)
    named_by x = ref_in_names L.name (value_of_var s.tables.env x.0) (var_names L.name s.tables.env names.env x.0)

    binding_row : (x : Var) → Row (binding s x)
    binding_row x =
        let inbox : Inbox = s.tables.inbox in
        let owner : ℕ = owner_of s.tables in
        marking_row (bound_in owner inbox) (λ r h. bound_names L.name owner inbox names.inbox r h inbox.reserve) (λ r. bound_marks owner inbox r inbox.reserve) c.bound
        (ref_of_var s.tables.env x) (named_by x)

    clearing_row : (x : Var) → Row (clearing s x)
    clearing_row x =
        marking_row (cleared_in s.tables.inbox) (λ r h. cleared_names L.name s.tables.inbox names.inbox r) (λ r. record { messages = refl; arrivals = refl }) c.cleared
        (ref_of_var s.tables.env x) (named_by x)

    -- a receive, where the scan finds this
    receiving_row : (after : Option After) (start from : ℕ) (o : Option Hit) → IfSome o (HitValues (AllNames L.name)) → (L.sized → IfSome o (HitValues IsKeptTerm))
        → IfSome (receiving p s after start from o) Row
    receiving_row after start from (Some h) g small = λ n.
        moving L None p s _
        (messaged L (record s.tables { env = h.env }) (rebound L s.tables k.tables h.env g.env (λ z. (small z).env)) (without_message s.tables.inbox (from + h.at))
        (left_names L.name s.tables.inbox names.inbox (from + h.at)) (λ z. left_messages s.tables.inbox.messages (from + h.at) (sizes z).messages) (c.without (from + h.at)))
        (target_place h.target) refl refl idle refl refl refl (no_posts L) (λ z. (small z).message) k.watch.same
    receiving_row (Some after) start from None g small = going_row _ _ (target_place after.target) (λ z. tt)
    receiving_row None start from None g small = tt

    scanning_row : (after : Option After) (start from : ℕ) (clauses : List Clause) → IfSome (receiving p s after start from (hit_from from clauses s)) Row
    scanning_row after start from clauses =
        let messages : List (ℕ × Term) = s.tables.inbox.messages in
        receiving_row after start from (hit_from from clauses s)
        (hit_values (AllNames L.name) (All (AllNames L.name)) (name_parts L.name) s.tables.env names.env clauses (drop from (terms_of messages))
        (All-drop (AllNames L.name) from (terms_of messages) (All-map (AllNames L.name) (λ (m : ℕ × Term). m.1) messages names.inbox.messages)))
        (λ z. hit_values IsKeptTerm (AreWithin READ_NODES READ_DEPTH) size_parts s.tables.env (sizes z).env clauses (drop from (terms_of messages))
        (All-drop IsKeptTerm from (terms_of messages) (All-map IsKeptTerm (λ (m : ℕ × Term). m.1) messages (sizes z).messages)))

    -- one case for each instruction, wherever the scan of a receive begins
    instr_row : (begin : ℕ → ℕ) (i : Instr) → InstrNames L.name i → IfSome (exec_body begin p s (Some i)) Row
    instr_row begin (instr.Send to message) h =
        with_value_row to _ (first L.name to message h) (λ t g. with_value_row message _ (second L.name to message h) (λ m f. sending_row t m g f))
    instr_row begin (instr.Set var value) h = with_value_row value _ (only L.name value h) (setting_row var.0)
    instr_row begin (instr.MakeRef var) h = making_row var.0 s.tables.watch [] (λ r. names.watch) (same_watch s.tables.watch) (λ r. no_posts L) m.alone
    instr_row begin (instr.Link peer) h =
        with_peer_row peer _ (only L.name peer h) (λ q g. linked_by_row q (link s.tables.links q.0) g (link_names L.name s.tables.links names.links q.0 g) (link_id s.tables.links q.0) (link_moves s.tables.links q.0))
    instr_row begin (instr.Unlink peer) h =
        with_peer_row peer _ (only L.name peer h) (λ q g. unlinked_by_row q (unlink s.tables.links q.0) g (unlink_names L.name s.tables.links names.links q.0 g) (unlink_id s.tables.links q.0) (unlink_moves s.tables.links q))
    instr_row begin (instr.Monitor var target mode) h = with_peer_row target _ (only L.name target h) (monitoring_row var.0 mode)
    instr_row begin (instr.Demonitor e flush) h = with_reference_row e _ (only L.name e h) (demonitoring_row flush)
    instr_row begin (instr.Alias var reply) h = aliasing_row var.0 reply
    instr_row begin (instr.Unalias e) h = with_reference_row e _ (only L.name e h) (λ r named. unaliasing_row r)
    instr_row begin (instr.Exit reason) h = with_value_row reason _ (only L.name reason h) (λ t g n. ending_row L None p s k t g)
    instr_row begin (instr.ExitTo target reason) h =
        with_value_row target _ (first L.name target reason h) (λ t g. with_value_row reason _ (second L.name target reason h)
        (λ r f. with_pid_row t _ g (λ q e. stepping _ _ _ (one_post L _ e f.names f.size (λ b. refl)) (λ z. tt))))
    instr_row begin (instr.Trap on) h = stepping on _ [] (no_posts L) (λ z. tt)
    instr_row begin (instr.Goto label) h = going_row _ _ (target_place (Some label)) (λ z. tt)
    instr_row begin instr.Stop h = ended (codes "normal")
    instr_row begin instr.Reserve h = reserving_row
    instr_row begin (instr.Bind var) h = binding_row var
    instr_row begin (instr.Clear var) h = clearing_row var
    instr_row begin (instr.Receive r) h = scanning_row r.after (marked_start s r.using) (begin (marked_start s r.using)) r.clauses

  body_row : (begin : ℕ → ℕ) → (L.bounded → IsWithin p) → (o : Option Instr) → slice_get p.instrs (s.counts.place - 1) ≡ o → IfSome o (InstrNames L.name) → IfSome (exec_body begin p s o) Row
  body_row begin w None e h = ended (codes "normal")
  body_row begin w (Some i) e h =
      let lt : s.counts.place - 1 < length p.instrs = slice_get_within p.instrs (s.counts.place - 1) i e in instr_row w (λ j. omega (arith, lt, (k.here j).0)) begin i h

  -- what the next instruction does, where it can be executed
  next_row : (begin : ℕ → ℕ) → (L.bounded → IsWithin p) → ScriptNames L.name p → IfSome (next_body begin p s) Row
  next_row begin w h = body_row begin w (slice_get p.instrs (s.counts.place - 1)) refl (at_place (InstrNames L.name) p.instrs (s.counts.place - 1) h)

  executing_row : (L.bounded → IsWithin p) → ScriptNames L.name p → IfSome (executing p s) Row
  unfolding executing
  executing_row w h = next_row from_mark w h

-- the bundle's parts, each a law of its own: names and bounds, messages and marks, sizes, monitors and aliases, and links
pub executing_kept : (P : Named → Type 0) (H : Type 0) (p : Declared) (s : ProcessState) → TableNames P s.tables → (H → IsBounded p s) → (H → IsWithin p) → ScriptNames P p
    → IfSome (executing p s) (IsKeptMade P H p s)
executing_kept P H p s k b w h =
    let L : Shown = record { name = P; bounded = H; sized = ⊥; inbox = AnyInbox; watch = AnyWatch } in
    let before : IsBefore L p s =
    record { tables = record { names = k; sizes = λ z. absurd z; inbox = tt }; here = λ j. ((b j).first, (b j).within); emptied = tt; watch = any_rewatched _ _ } in
    IfSome_then (executing p s) (executing_row L p s before (any_executed s) (any_making s) w h) (λ body g n. (g n).kept)

pub executing_moved : (I : Inbox → Type 0) (p : Declared) (s : ProcessState) → IsExecuted I s → IfSome (executing p s) (IsMoved I s)
executing_moved I p s c =
    let L : Shown = record { name = Any; bounded = ⊥; sized = ⊥; inbox = I; watch = AnyWatch } in
    let before : IsBefore L p s =
    record { tables = record { names = any_tables s.tables; sizes = λ z. absurd z; inbox = c.same }; here = λ j. absurd j; emptied = c.emptied; watch = any_rewatched _ _ } in
    IfSome_then (executing p s) (executing_row L p s before c (any_making s) (λ j. absurd j) (any_script p)) (λ body g. (g (λ n. tt)).moved)

pub executing_sizes : (p : Declared) (s : ProcessState) → TableSizes s.tables → IfSome (executing p s) BodySizes
executing_sizes p s k =
    let L : Shown = record { name = Any; bounded = ⊥; sized = Unit {0}; inbox = AnyInbox; watch = AnyWatch } in
    let before : IsBefore L p s =
    record { tables = record { names = any_tables s.tables; sizes = λ z. k; inbox = tt }; here = λ j. absurd j; emptied = tt; watch = any_rewatched _ _ } in
    IfSome_then (executing p s) (executing_row L p s before (any_executed s) (any_making s) (λ j. absurd j) (any_script p)) (λ body g. (g (λ n. tt)).sizes tt)

pub next_watch : (I : ℕ → WatchState → Type 0) (begin : ℕ → ℕ) (p : Declared) (s : ProcessState) → IsRewatched I s.counts.next_serial s.tables.watch → IsMaking I s → IfSome (next_body begin p s) (IsWatching I)
next_watch I begin p s c m =
    let L : Shown = record { name = Any; bounded = ⊥; sized = ⊥; inbox = AnyInbox; watch = I } in
    let before : IsBefore L p s =
    record { tables = record { names = any_tables s.tables; sizes = λ z. absurd z; inbox = tt }; here = λ j. absurd j; emptied = tt; watch = c } in
    IfSome_then (next_body begin p s) (next_row L p s before (any_executed s) m begin (λ j. absurd j) (any_script p)) (λ body g. (g (λ n. tt)).watch)

pub next_links : (begin : ℕ → ℕ) (p : Declared) (s : ProcessState) → IfSome (next_body begin p s) (LinkPart None s)
next_links begin p s =
    let L : Shown = record { name = Any; bounded = ⊥; sized = ⊥; inbox = AnyInbox; watch = AnyWatch } in
    let before : IsBefore L p s =
    record { tables = record { names = any_tables s.tables; sizes = λ z. absurd z; inbox = tt }; here = λ j. absurd j; emptied = tt; watch = any_rewatched _ _ } in
    IfSome_then (next_body begin p s) (next_row L p s before (any_executed s) (any_making s) begin (λ j. absurd j) (any_script p)) (λ body g. (g (λ n. tt)).links)

-- a script that names processes of the script alone
pub script_names : (count : ℕ) (p : Declared) → IsProcBelow count p → ScriptNames (IsNameBelow count) p
script_names count p h = All-weaker (IsInstrBelow count) (InstrNames (IsNameBelow count)) (λ i g. g.0) p.instrs h

-- what a row does, with stamps and numbers forgotten in the state
abbrev pub bare : Body → Body
bare b = record b { state = plain_state b.state }

pub cond_bare : (c : Bool) (x y z w : Body) → x ≡ bare z → y ≡ bare w → (if c then x else y) ≡ bare (if c then z else w)
cond_bare true x y z w e g = e
cond_bare false x y z w e g = g

value_bare : (s : ProcessState) (e : Expr) (go go' : Term → Body) → ((t : Term) → go' t ≡ bare (go t)) → with_value (plain_state s) e go' ≡ bare (with_value s e go)
value_bare s e go go' h = by_option (built s.tables.env e)
  where
    by_option : (o : Option Term) → option_map_or go' o (ending (plain_state s) system_limit) ≡ bare (option_map_or go o (ending s system_limit))
    by_option None = refl
    by_option (Some t) = h t

pid_bare : (s : ProcessState) (t : Term) (go go' : Pid → Body) → ((p : Pid) → go' p ≡ bare (go p)) → with_pid (plain_state s) t go' ≡ bare (with_pid s t go)
pid_bare s (term.Pid p) go go' h = h p
pid_bare s _ go go' h = refl

ref_bare : (s : ProcessState) (t : Term) (go go' : Ref → Body) → ((r : Ref) → go' r ≡ bare (go r)) → with_ref (plain_state s) t go' ≡ bare (with_ref s t go)
ref_bare s (term.Ref r) go go' h = h r
ref_bare s _ go go' h = refl

target_bare : (s : ProcessState) (t : Term) (go go' : Target → Body) → ((r : Target) → go' r ≡ bare (go r)) → with_target (plain_state s) t go' ≡ bare (with_target s t go)
target_bare s (term.Pid p) go go' h = h (target.Process p)
target_bare s (term.Ref r) go go' h = h (target.Alias r)
target_bare s _ go go' h = refl

send_bare : (s : ProcessState) (m : Term) (t : Target) → sending (plain_state s) m t ≡ bare (sending s m t)
send_bare s m (target.Process p) = refl
send_bare s m (target.Alias r) = refl

flush_bare : (s : ProcessState) (flush : Bool) (r : Ref) → demonitoring (plain_state s) flush r ≡ bare (demonitoring s flush r)
flush_bare s true r = refl
flush_bare s false r = refl

receive_bare : (p : Declared) (s : ProcessState) (after : Option After) (start from : ℕ) (h : Option Hit) → receiving p (plain_state s) after start from h ≡ option_map bare (receiving p s after start from h)
receive_bare p s after start from (Some h) = refl
receive_bare p s (Some after) start from None = refl
receive_bare p s None start from None = refl

-- A row that builds no value computes to the same.
pub exec_bare : (begin : ℕ → ℕ) (p : Declared) (s : ProcessState) (o : Option Instr) → exec_body begin p (plain_state s) o ≡ option_map bare (exec_body begin p s o)
exec_bare begin p s None = refl
exec_bare begin p s (Some (instr.Send to message)) = ap Some (value_bare s to _ _ (λ t. value_bare s message _ _ (λ m. target_bare s t _ _ (λ r. send_bare s m r))))
exec_bare begin p s (Some (instr.Set var value)) = ap Some (value_bare s value _ _ (λ t. refl))
exec_bare begin p s (Some (instr.Link peer)) = ap Some (value_bare s peer _ _ (λ t. pid_bare s t _ _ (λ q. refl)))
exec_bare begin p s (Some (instr.Unlink peer)) = ap Some (value_bare s peer _ _ (λ t. pid_bare s t _ _ (λ q. refl)))
exec_bare begin p s (Some (instr.Monitor var to mode)) = ap Some (value_bare s to _ _ (λ t. pid_bare s t _ _ (λ q. refl)))
exec_bare begin p s (Some (instr.Demonitor which flush)) = ap Some (value_bare s which _ _ (λ t. ref_bare s t _ _ (λ r. flush_bare s flush r)))
exec_bare begin p s (Some (instr.Unalias which)) = ap Some (value_bare s which _ _ (λ t. ref_bare s t _ _ (λ r. refl)))
exec_bare begin p s (Some (instr.Exit reason)) = ap Some (value_bare s reason _ _ (λ t. refl))
exec_bare begin p s (Some (instr.ExitTo to reason)) = ap Some (value_bare s to _ _ (λ t. value_bare s reason _ _ (λ r. pid_bare s t _ _ (λ q. refl))))
exec_bare begin p s (Some (instr.Receive r)) =
    receive_bare p s r.after (marked_start s r.using) (begin (marked_start s r.using)) (hit_from (begin (marked_start s r.using)) r.clauses s)
exec_bare begin p s (Some _) = refl
