-- Each atomic step of the table is a step of the core.
use Rattle.std.proofs.Common.{◌≡◌, ◌≢◌, ℕ, zero, suc, ◌+◌, ◌*◌, ◌%◌, ◌^◌, ◌<◌, ◌==◌, bit_or, subst, Bool, true, false, List, [], ◌∷◌, ◌++◌, All, get_or, set, sym, refl, ap, ◌∙◌, arith, eq-eqb, ne_eqb, inl, inr, ⊎_elim, Option, Some, None}
use Rattle.std.proofs.lemmas.List.Elements.{All-nil, All-cons}
use mathlib.Core.Logic.{dite}
use mathlib.Core.Option as maybe
use mathlib.Core.Option.{none, some}
use native.Mathlib.Decide.{ℕ_discrete}
use lib.ListN.{get_elem?}
use prog.Atomic.{either}
use Rattle.atomic_table.specs.Table.{State, step, Act, keeps, takes, gives, stepped, carried_after, Valid, Allows, Splits, Joins, rest}
use Rattle.atomic_table.proofs.Lists.{set_again, set_else}
use Rattle.sig_kinds.specs.declared.signal.Signal.{Signal}
use Rattle.sig_layout.specs.declared.entry.Entry.TheVariants.{Direct}
use Rattle.sig_layout.specs.declared.setup.Setup.{Setup}
use Rattle.sig_layout.specs.declared.item.Item.{Item}
use Rattle.sig_layout.specs.declared.outer.Outer.{Outer}
use Rattle.sig_layout.specs.Sets.{has}
use Rattle.sig_layout.specs.Sent.{sender, of, signals, Prefix, AllWithin}
use Rattle.sig_layout.specs.Core.{some_refused}
use Rattle.sig_layout.proofs.Sending.{prefix_through, prefix_signals}
use Rattle.sig_layout.proofs.Members.{has_below, least_has}
use Rattle.sig_queue.specs.declared.slot.Slot.{Slot}
use Rattle.sig_queue.specs.declared.slot.Slot.TheVariants as slot
use Rattle.sig_layout.specs.declared.held_buffer.HeldBuffer.{HeldBuffer}
use Rattle.sig_layout.specs.declared.knows.Knows.{Knows}
use Rattle.sig_layout.specs.declared.policy.Policy.{Policy}
use Rattle.sig_layout.specs.Policies.{IsPolicy, AllowsMode}
use Rattle.sig_layout.specs.Summaries.{due_at, is_install, is_remove}
use Rattle.sig_layout.specs.Openings.{IsNext}
use Rattle.sig_layout.specs.Views.{number, IsSomebody, table_from, mode_word, flag, filled_at, signals_of, holding, turned_away, after_put, after_same, with_bits, after_fetch, switched_on, switched_off, after_remove, saw, counted, gains, turned_away_at, saw_under, marked, given_back, loses, put_to_buffer, took_part, passed, left_of, right_of, note_of, joined, spent}
use Rattle.sig_layout.specs.Outers.{added, emptied, removed, behind}
use Rattle.sig_layout.specs.Core as core
use Rattle.sig_layout.specs.Core.{Cell, QState, put, buffer_of, Idle, Begins, Unmasked, Reached, by_take_outer, by_refuse_outer, by_put, by_leave, by_take_bits, by_fetch, by_mode_on, by_mode_off, by_remove, by_load_mode, by_load_filled, by_take_buffer, by_refuse_buffer, by_set_back, by_load_under, by_set_bit, by_put_to_buffer, by_leave_buffer, by_take_part, by_pass, by_split, by_note, by_join}
use Rattle.sig_layout.specs.Agree.{Apart, Among, HeldBy, HoldsAll, Turn, HasOuter, HasBuffer, Agrees}
use Rattle.sig_layout.specs.Lists.{Lists}
use Rattle.sig_layout.specs.Law.{Law}
use Rattle.sig_layout.proofs.Putting.{put_here, put_else, get_table, at_table, same_table, mapped_table}
use Rattle.sig_layout.proofs.Agreeing.{same_view, agrees}
use Rattle.sig_layout.proofs.Listing.{lists}
use Rattle.sig_layout.proofs.Lawful.{lawful, fetched_all, mod_small}
use Rattle.sig_queue.specs.Parts.{OfBuffer}
use Rattle.sig_queue.proofs.Owning.{own_alone}
use Rattle.sig_queue.proofs.Taking.{took_carried}
use Rattle.sig_layout.proofs.Carrying.{carried}
use Rattle.sig_layout.proofs.Stepping.{same_setup}
use Rattle.sig_layout.proofs.Steadying.{steady}
use Rattle.sig_queue.specs.Tied.{HasTaken, FoundOuter, apart, home, cell_home, words_of, homes_of, shown, Tied, Held, Foreign, tried_outer, tried_buffer, loaded_mode, loaded_under, loaded_filled, bit_set, bits_taken, bit_back, stored_on, stored_off, left_put, left_same, left_fetch, left_remove, left_buffer_put, left_buffer, left_part, left_passed, looked_only}

-- a list whose place is set to what was found there
set_found : (xs : List ℕ) (i : ℕ) → set xs i (get_or xs i 0) ≡ xs
set_found [] i = refl
set_found (x ∷ xs) zero = refl
set_found (x ∷ xs) (suc i) = ap (λ (l : List ℕ). x ∷ l) (set_found xs i)

-- where one cell changes, and nothing that a table shows of it
same_put : {X : Type 0} (g : Cell → X) (cells : ℕ → Cell) (c : ℕ) (x : Cell) → g (cells c) ≡ g x → table_from 0 64 (λ d. g (cells d)) ≡ table_from 0 64 (λ d. g (put cells c x d))
same_put g cells c x e = same_table 0 64 (λ d. g (cells d)) (λ d. g (put cells c x d)) (λ d _. dite (ℕ_discrete d c)
    (λ h. ap (λ (z : ℕ). g (cells z)) h ∙ (e ∙ (sym (ap g (put_here cells c x)) ∙ ap (λ (z : ℕ). g (put cells c x z)) (sym h))))
    (λ n. sym (ap g (put_else cells c d x n))))

-- the words that stand apart
apart_at : (ws : List ℕ) (k : ℕ) → get_or (apart ws) (8 * k) 0 ≡ get_or ws k 0
apart_at [] k = refl
apart_at (w ∷ ws) zero = refl
apart_at (w ∷ ws) (suc k) = let e : 8 * suc k ≡ suc (suc (suc (suc (suc (suc (suc (suc (8 * k)))))))) = omega arith in ap (λ (z : ℕ). get_or (apart (w ∷ ws)) z 0) e ∙ apart_at ws k

apart_set : (ws : List ℕ) (k x : ℕ) → set (apart ws) (8 * k) x ≡ apart (set ws k x)
apart_set [] k x = refl
apart_set (w ∷ ws) zero x = refl
apart_set (w ∷ ws) (suc k) x = let e : 8 * suc k ≡ suc (suc (suc (suc (suc (suc (suc (suc (8 * k)))))))) = omega arith in
    ap (λ (z : ℕ). set (apart (w ∷ ws)) z x) e ∙ ap (λ (l : List ℕ). w ∷ 0 ∷ 0 ∷ 0 ∷ 0 ∷ 0 ∷ 0 ∷ 0 ∷ l) (apart_set ws k x)

abbrev T : ℕ → ℕ → ℕ → List ℕ → List ℕ
T a b c ts = apart (a ∷ b ∷ c ∷ ts)

module _ (a m f : ℕ) (cells : ℕ → Cell) (b : ℕ) (low : b < 64) where
  word_at : (i : ℕ) → i ≡ 8 * (b + 3) → get_or (T a m f (table_from 0 64 (λ c. (cells c).word))) i 0 ≡ (cells b).word
  word_at i is = let j : i ≡ 8 * suc (suc (suc b)) = omega arith in
      ap (λ (z : ℕ). get_or (T a m f (table_from 0 64 (λ c. (cells c).word))) z 0) j ∙ (apart_at (a ∷ m ∷ f ∷ table_from 0 64 (λ c. (cells c).word)) (suc (suc (suc b))) ∙ (get_table 0 64 b (λ c. (cells c).word) 0 low ∙ ap (λ (z : ℕ). (cells z).word) (omega arith)))

  words_put : (i : ℕ) (x : Cell) → i ≡ 8 * (b + 3) → set (T a m f (table_from 0 64 (λ c. (cells c).word))) i x.word ≡ T a m f (table_from 0 64 (λ c. (put cells b x c).word))
  words_put i x is = let j : i ≡ 8 * suc (suc (suc b)) = omega arith in
      ap (λ (z : ℕ). set (T a m f (table_from 0 64 (λ c. (cells c).word))) z x.word) j ∙ (apart_set (a ∷ m ∷ f ∷ table_from 0 64 (λ c. (cells c).word)) (suc (suc (suc b))) x.word ∙ ap (T a m f) (mapped_table (λ (z : Cell). z.word) cells b x low))

module _ (h : maybe.Option Slot) (cells : ℕ → Cell) (b : ℕ) (low : b < 64) where
  homes_put : (i : ℕ) (x : Cell) (hm : maybe.Option Slot) → i ≡ b + 1 → hm ≡ cell_home x → set (h ∷ table_from 0 64 (λ c. cell_home (cells c))) i hm ≡ h ∷ table_from 0 64 (λ c. cell_home (put cells b x c))
  homes_put i x hm is here = let j : i ≡ suc b = omega arith in
      ap (λ (z : maybe.Option Slot). set (h ∷ table_from 0 64 (λ c. cell_home (cells c))) i z) here ∙ (ap (λ (z : ℕ). set (h ∷ table_from 0 64 (λ c. cell_home (cells c))) z (cell_home x)) j
      ∙ ap (λ (hs : List (maybe.Option Slot)). h ∷ hs) (mapped_table cell_home cells b x low))

  home_at : (i : ℕ) → i ≡ b + 1 → get_elem? (h ∷ table_from 0 64 (λ c. cell_home (cells c))) i ≡ some (cell_home (cells b))
  home_at i is = let j : i ≡ suc b = omega arith in
      ap (λ (z : ℕ). get_elem? (h ∷ table_from 0 64 (λ c. cell_home (cells c))) z) j ∙ (at_table 0 64 b (λ c. cell_home (cells c)) low ∙ ap (λ (z : ℕ). some (cell_home (cells z))) (omega arith))

-- a value that is out shows nothing
home_out : (n k : ℕ) (x y : Slot) → n ≡ suc k → home n x ≡ home n y
home_out n k x y e = ap (λ (z : ℕ). home z x) e ∙ sym (ap (λ (z : ℕ). home z y) e)

-- all that was told is among what was put when the bits were taken, so of a sender of which all that is here, all that was told is
all_taken_of : (told : List (List Item)) (base : List Item) (v : Knows) (s : ℕ) → AllWithin told base → HasTaken v s base → All (HasTaken v s) told
all_taken_of [] base v s h t = All-nil (HasTaken v s)
all_taken_of (xs ∷ more) base v s h t = All-cons (HasTaken v s) xs more (prefix_through _ _ _ (prefix_signals s xs base (h.0 s)) t) (all_taken_of more base v s h.1 t)

-- who holds a turn that the seat doesn't hold is another, and its number is not one of this seat's
pub foreign : (q : QState) → Lists q → (id : ℕ) (v : Knows) → get_elem? q.seats id ≡ some v → (word : ℕ) (holder : Option ℕ) (Has : Knows → Type 0) → Turn q.seats word holder Has → (Has v → ⊥) → word ≢ 0 → Foreign v word
foreign q law id v at word holder Has (inl f) idle n = absurd (n f.zero)
foreign q law id v at word holder Has (inr h) idle n = let ok = law.each id v at in let its = law.each h.by h.view h.here in
    let apart : h.by ≢ id = (λ e. idle (subst Has (same_view q.seats id h.by v h.view e at h.here) h.has)) in record {
      taken = n;
      other = λ s has_s is. let num : number h.view ≡ s = (let w = h.word_is in omega arith) in
          let low : s < 256 = has_below v.senders s has_s in
          apart (sym (its.owns s (ap (has h.view.senders) (sym num) ∙ least_has h.view.senders (λ e. omega arith))) ∙ ok.owns s has_s);
      not_role = λ role is. let num : number h.view ≡ 256 = (let w = h.word_is in omega arith) in
          apart (sym (its.reads (h.somebody num)) ∙ ok.reads role);
    }

pub among_not : (c : ℕ) (ps : List HeldBuffer) → Apart c ps → Among c ps → ⊥
among_not c [] a m = m
among_not c (p ∷ ps) a m = ⊎_elim (λ (e : p.number ≡ c). a.0 e) (λ (k : Among c ps). among_not c ps a.1 k) m

pub not_outer : (v : Knows) → v.held ≡ None → HasOuter v → ⊥
not_outer v idle h = let e : None ≡ Some h.0 = sym idle ∙ h.1 in absurd cc

-- where a seat has a turn, the turn's word isn't 0
taken_word : (seats : List Knows) (word i : ℕ) (holder : Option ℕ) (Has : Knows → Type 0) → Turn seats word holder Has → holder ≡ Some i → (k : ℕ) × (word ≡ suc k)
taken_word seats word i holder Has (inl f) e = let z : None ≡ Some i = sym f.none ∙ e in absurd cc
taken_word seats word i holder Has (inr h) e = (number h.view, h.word_is)

abbrev front : HeldBuffer → List HeldBuffer → HeldBuffer
front d [] = d
front d (p ∷ ps) = p

heads : (p p' : HeldBuffer) (ps ps' : List HeldBuffer) → p ∷ ps ≡ p' ∷ ps' → p ≡ p'
heads p p' ps ps' e = ap (front p) e

first_is : (p p' : HeldBuffer) → p ∷ [] ≡ p' ∷ [] → p ≡ p'
first_is p p' e = ap (front p) e

module _ (z : Setup) where
  -- what is asked of a step, at a table that shows a state of the core
  abbrev Steps : ℕ → Held → ℕ → (ℕ → ℕ) → (ℕ → Held → Type 0) → State Slot Knows → Type 0
  Steps id me i f told s = get_elem? s.views id ≡ some me.0 → (w : Knows) × (a : Act Slot) × Valid s.homes me.1 a × Tied z (stepped s i (f (get_or s.words i 0)) id me.1 w a) × told (get_or s.words i 0) (w, carried_after me.1 a)

  pub record Stands (q : QState) : Type 0 where
    pub reached : Reached z q
    pub proper : IsPolicy z.policy
    pub agrees : Agrees q
    pub lists : Lists q
    pub law : Law q

  stands : (q : QState) → Reached z q → IsPolicy z.policy → Stands q
  stands q r proper = record { reached = r; proper = proper; agrees = agrees z q r; lists = lists z q r; law = lawful z q r }

  -- so a step need be looked at only where the table shows a lawful state of the core
  allows : (slots id : ℕ) (me : Held) (i : ℕ) (f : ℕ → ℕ) (told : ℕ → Held → Type 0) → ((q : QState) → Stands q → Steps id me i f told (shown q)) → Allows (Tied z) slots id me i f told
  allows slots id me i f told each s tied len at lt = subst (Steps id me i f told) (sym tied.is) (each tied.core (stands tied.core tied.reached tied.proper)) at

  -- the same for a seat whose slots are x and others
  allows_with : (slots id : ℕ) (me : Held) (x : ℕ × Slot) (i : ℕ) (f : ℕ → ℕ) (told : Held → ℕ → Held → Type 0) → me.1 ≡ x ∷ rest me.1 → ((xs : List (ℕ × Slot)) (q : QState) → Stands q → Steps id (me.0, x ∷ xs) i f (told (me.0, x ∷ xs)) (shown q)) → Allows (Tied z) slots id me i f (told me)
  allows_with slots id me x i f told out each = subst (λ (c : List (ℕ × Slot)). Allows (Tied z) slots id (me.0, c) i f (told (me.0, c))) (sym out)
      (allows slots id (me.0, x ∷ rest me.1) i f (told (me.0, x ∷ rest me.1)) (each (rest me.1)))

  -- the outer turn
  pub takes_outer : (slots id my_word : ℕ) (me : Held) (y : Setup) → y ≡ z → me.0.held ≡ None → IsSomebody me.0 → my_word ≡ number me.0 + 1
      → Allows (Tied z) slots id me 0 (λ n. either (n == 0) my_word n) (tried_outer y (step slots 0 0 my_word none) me)
  takes_outer slots id my_word me y picked idle somebody is = allows slots id me 0 (λ n. either (n == 0) my_word n) (tried_outer y (step slots 0 0 my_word none) me) (λ q st at. let v : Knows = me.0 in dite (ℕ_discrete q.turn 0)
      (λ free. let word : either (q.turn == 0) my_word q.turn ≡ suc (number v) = ap (λ (b : Bool). either b my_word q.turn) (eq-eqb q.turn 0 free) ∙ (omega arith) in let q' : QState = core.take_outer q id v in (
        holding v q.outer,
        takes 0 (slot.Outer q.outer),
        ap (λ (n : ℕ). some (home n (slot.Outer q.outer))) free,
        record {
          core = q';
          reached = by_take_outer q id v (record { at = at; free = free; idle = idle; somebody = somebody }) st.reached;
          is = λ k. record { words = T (word k) (mode_word q.mode) q.filled (table_from 0 64 (λ c. (q.cells c).word)); homes = homes_of q'; views = q'.seats };
          proper = st.proper;
        },
        (
          (λ e. (q.outer, refl)),
          (λ n. absurd (n free)),
          (λ e. subst (λ (x : Setup). FoundOuter x v q.outer) (sym picked) (record { core = q; reached = st.reached; seat = id; seen = at; free = free; outer_is = refl })),
        ),
      ))
      (λ n. let word : either (q.turn == 0) my_word q.turn ≡ q.turn = ap (λ (b : Bool). either b my_word q.turn) (ne_eqb q.turn 0 n) in let q' : QState = core.refuse_outer q id v in (
        turned_away v q.turn,
        keeps,
        tt,
        record {
          core = q';
          reached = by_refuse_outer q id v (record { at = at; busy = n }) st.reached;
          is = λ k. record { words = T (word k) (mode_word q.mode) q.filled (table_from 0 64 (λ c. (q.cells c).word)); homes = homes_of q'; views = q'.seats };
          proper = st.proper;
        },
        (
          (λ e. absurd (n e)),
          (λ _. (refl, foreign q st.lists id v at q.turn q.holder HasOuter st.agrees.turn (not_outer v idle) n)),
          (λ e. absurd (n e)),
        ),
      )))

  pub puts : (slots id : ℕ) (me : Held) (o : Outer) (x : Signal) → me.0.held ≡ Some o → me.0.fetching ≡ false → me.0.removing ≡ false → me.0.switched ≡ is_install (due_at z.policy (o.journal ++ Direct (some_refused me.0.refused) ∷ [])) → me.0.saw_off ≡ true → has me.0.senders x.from.0 ≡ true → IsNext z me.0.put x
      → me.1 ≡ (0, slot.Outer (added o x (some_refused me.0.refused) me.0.switched)) ∷ rest me.1
      → Allows (Tied z) slots id me 0 (λ _. 0) (λ _. left_put (step slots 0 0 0 none) me 0)
  puts slots id me o x held nf nr due off from next out = let v : Knows = me.0 in let o' : Outer = added o x (some_refused v.refused) v.switched in
      allows_with slots id me (0, slot.Outer o') 0 (λ _. 0) (λ m _. left_put (step slots 0 0 0 none) m 0) out (λ xs q st at. let q' : QState = core.leave_put q id v o x in (
        after_put v o',
        gives,
        tt,
        record {
          core = q';
          reached = by_put q id v o x (record { at = at; held = held; fetching = nf; removing = nr; installs = due ∙ ap (λ (y : Setup). is_install (due_at y.policy (o.journal ++ Direct (some_refused v.refused) ∷ []))) (sym (same_setup z q st.reached)); off = off; from = from; next = subst (λ (y : Setup). IsNext y v.put x) (sym (same_setup z q st.reached)) next }) st.reached;
          is = refl;
          proper = st.proper;
        },
        refl,
      ))

  -- a step of the seat that holds the outer turn, on that turn's word, which leaves it
  pub leaves : (slots id : ℕ) (me : Held) (o : Outer) → me.0.held ≡ Some o → me.0.removing ≡ false → me.0.switched ≡ false → (me.0.fetching ≡ true → Unmasked me.0) → me.1 ≡ (0, slot.Outer o) ∷ rest me.1
      → Allows (Tied z) slots id me 0 (λ _. 0) (λ _. left_same (step slots 0 0 0 none) me 0)
  leaves slots id me o held nr ns unmasked out = let v : Knows = me.0 in
      allows_with slots id me (0, slot.Outer o) 0 (λ _. 0) (λ m _. left_same (step slots 0 0 0 none) m 0) out (λ xs q st at. let q' : QState = core.leave_same q id v in let value = ((st.agrees.each id v at).outer o held).value in (
        after_same v,
        gives,
        tt,
        record {
          core = q';
          reached = by_leave q id v o (record { at = at; held = held; removing = nr; switched = ns; unmasked = unmasked }) st.reached;
          is = λ k. record { words = words_of q'; homes = some (slot.Outer (sym value k)) ∷ table_from 0 64 (λ c. cell_home (q.cells c)); views = q'.seats };
          proper = st.proper;
        },
        refl,
      ))

  pub fetches : (slots id : ℕ) (me : Held) (o : Outer) (due : Bool) (y : Setup) → y ≡ z → me.0.held ≡ Some o → me.0.fetching ≡ true → me.0.removing ≡ false → me.0.switched ≡ false → Unmasked me.0 → me.0.role ≡ true → me.0.due ≡ false
      → due ≡ is_remove (due_at z.policy (emptied o me.0.moved).journal) → me.1 ≡ (0, slot.Outer (emptied o me.0.moved)) ∷ rest me.1
      → Allows (Tied z) slots id me 0 (λ _. 0) (λ _. left_fetch y due (step slots 0 0 0 none) me 0)
  fetches slots id me o due y same held f nr ns unmasked role not_due due_is out = let v : Knows = me.0 in let o' : Outer = emptied o v.moved in
      allows_with slots id me (0, slot.Outer o') 0 (λ _. 0) (λ m _. left_fetch y due (step slots 0 0 0 none) m 0) out (λ xs q st at. let q' : QState = core.leave_fetch q id v o in let doing = (st.agrees.each id v at).outer o held in let ok = st.lists.each id v at in
      let same_due : core.makes_due q id v o ≡ due = ap (λ (y : Setup). is_remove (due_at y.policy o'.journal)) (same_setup z q st.reached) ∙ sym due_is in
      let all_taken : q.taken ++ q.outer.signals ≡ v.taken ++ signals_of v.held = ap (λ (l : List Signal). l ++ q.outer.signals) (sym (ok.took role)) ∙ ap (λ (l : List Signal). v.taken ++ l) (ap (λ (y : Outer). y.signals) doing.value ∙ sym (ap signals_of held)) in
      let base_taken : (s : ℕ) → filled_at v.back (buffer_of s) ≡ false → HasTaken (after_fetch v due) s q.base = (λ s clear. subst (λ (l : List Signal). Prefix (of sender s (signals q.base)) (of sender s l)) all_taken
      (fetched_all mod_small q st.law (doing.fetch ∙ f) (λ d low. doing.masks (doing.fetch ∙ f) d low ∙ unmasked d low) s (ap (λ (n : ℕ). filled_at n (buffer_of s)) (doing.given (doing.fetch ∙ f)) ∙ clear))) in
      let based = ok.based f in (
        after_fetch v due,
        gives,
        tt,
        record {
          core = q';
          reached = by_fetch q id v o (record { at = at; held = held; fetching = f; removing = nr; switched = ns; unmasked = unmasked; role = role; not_due = not_due }) st.reached;
          is = λ k. record { words = words_of q'; homes = homes_of q'; views = set q.seats id (after_fetch v (sym same_due k)) };
          proper = st.proper;
        },
        (
          refl,
          record {
            own = λ s clear. prefix_through _ _ _ (prefix_signals s v.put q.base (based.0 s)) (base_taken s clear);
            told = λ s clear. all_taken_of v.told q.base (after_fetch v due) s based.1 (base_taken s clear);
          },
          took_carried y q (same_setup z q st.reached ∙ sym same) st.law (carried z q st.reached) (after_fetch v due) all_taken,
        ),
      ))

  pub removes : (slots id : ℕ) (me : Held) (o : Outer) → me.0.held ≡ Some o → me.0.fetching ≡ false → me.0.removing ≡ true → me.0.switched ≡ false → me.0.role ≡ true → me.0.due ≡ true → me.0.progress ≡ 64 → me.1 ≡ (0, slot.Outer (removed o)) ∷ rest me.1
      → Allows (Tied z) slots id me 0 (λ _. 0) (λ _. left_remove (step slots 0 0 0 none) me 0)
  removes slots id me o held nf r ns role is_due whole out = let v : Knows = me.0 in
      allows_with slots id me (0, slot.Outer (removed o)) 0 (λ _. 0) (λ m _. left_remove (step slots 0 0 0 none) m 0) out (λ xs q st at. let q' : QState = core.leave_remove q id v o in (
        after_remove v,
        gives,
        tt,
        record {
          core = q';
          reached = by_remove q id v o (record { at = at; held = held; fetching = nf; removing = r; switched = ns; role = role; is_due = is_due; whole = whole }) st.reached;
          is = refl;
          proper = st.proper;
        },
        refl,
      ))

  -- the bits
  pub takes_bits : (slots id : ℕ) (me : Held) (o : Outer) → Begins me.0 o → Allows (Tied z) slots id me 16 (λ _. 0) (bits_taken (step slots 16 0 0 none) me)
  takes_bits slots id me o begins = let v : Knows = me.0 in allows slots id me 16 (λ _. 0) (bits_taken (step slots 16 0 0 none) me) (λ q st at. let q' : QState = core.take_bits q id v in (
    with_bits v q.filled,
    keeps,
    tt,
    record { core = q'; reached = by_take_bits q id v o (record { at = at; begins = begins }) st.reached; is = refl; proper = st.proper },
    refl,
  ))

  pub sets_back : (slots id c k : ℕ) (me : Held) (o : Outer) → c < 64 → k ≡ 1 * 2 ^ c % 2 ^ 64 → me.0.held ≡ Some o → me.0.fetching ≡ true → flag me.0.mask c ≡ true → Allows (Tied z) slots id me 16 (λ n. bit_or n k) (bit_back c (step slots 16 k 0 none) me)
  sets_back slots id c k me o low is held f masked = let v : Knows = me.0 in allows slots id me 16 (λ n. bit_or n k) (bit_back c (step slots 16 k 0 none) me) (λ q st at. let q' : QState = core.set_back q id v c in let x : Cell = record (q.cells c) { mask = false } in (
    given_back v c,
    keeps,
    tt,
    record {
      core = q';
      reached = by_set_back q id v c o (record { at = at; low = low; held = held; fetching = f; masked = masked }) st.reached;
      is = λ j. record {
        words = T q.turn (mode_word q.mode) (bit_or q.filled (is j)) (same_put (λ (y : Cell). y.word) q.cells c x refl j);
        homes = home q.turn (slot.Outer q.outer) ∷ same_put cell_home q.cells c x refl j;
        views = q'.seats;
      };
      proper = st.proper;
    },
    refl,
  ))

  pub sets_bit : (slots id k : ℕ) (me : Held) (p : HeldBuffer) → k ≡ 1 * 2 ^ p.number % 2 ^ 64 → me.0.parts ≡ p ∷ [] → p.number < 64 → p.sure ≡ true → Allows (Tied z) slots id me 16 (λ n. bit_or n k) (bit_set (step slots 16 k 0 none) me)
  sets_bit slots id k me p is one low sure = let v : Knows = me.0 in allows slots id me 16 (λ n. bit_or n k) (bit_set (step slots 16 k 0 none) me) (λ q st at. let q' : QState = core.set_bit q id v p in let c : ℕ = p.number in let x : Cell = record (q.cells c) { set = true } in (
    marked v p,
    keeps,
    tt,
    record {
      core = q';
      reached = by_set_bit q id v p (record { at = at; one = one; low = low; sure = sure }) st.reached;
      is = λ j. record {
        words = T q.turn (mode_word q.mode) (bit_or q.filled (is j)) (same_put (λ (y : Cell). y.word) q.cells c x refl j);
        homes = home q.turn (slot.Outer q.outer) ∷ same_put cell_home q.cells c x refl j;
        views = q'.seats;
      };
      proper = st.proper;
    },
    (λ p' one'. ap (λ (r : HeldBuffer). let m : Held = (marked v r, me.1) in m) (first_is p p' (sym one ∙ one'))),
  ))

  -- the mode
  allowed : (policy : Policy) → policy ≡ z.policy → (q : QState) → Stands q → AllowsMode policy q.mode
  allowed policy same q st = subst (λ (y : Policy). AllowsMode y q.mode) (ap (λ (y : Setup). y.policy) (same_setup z q st.reached) ∙ sym same) (steady z st.proper q st.reached).allowed

  pub loads_mode : (slots id : ℕ) (me : Held) (policy : Policy) → policy ≡ z.policy → me.0.held ≡ None → Allows (Tied z) slots id me 8 (λ n. n) (loaded_mode policy (step slots 8 0 0 none) me)
  loads_mode slots id me policy same idle = let v : Knows = me.0 in allows slots id me 8 (λ n. n) (loaded_mode policy (step slots 8 0 0 none) me) (λ q st at. let q' : QState = core.load_mode q id v in (
    saw v q.mode,
    keeps,
    tt,
    record { core = q'; reached = by_load_mode q id v (record { at = at; idle = idle }) st.reached; is = refl; proper = st.proper },
    (q.mode, refl, refl, allowed policy same q st),
  ))

  pub loads_under : (slots id : ℕ) (me : Held) (p : HeldBuffer) (policy : Policy) → policy ≡ z.policy → me.0.held ≡ None → me.0.parts ≡ p ∷ [] → p.number < 64 → Allows (Tied z) slots id me 8 (λ n. n) (loaded_under policy (step slots 8 0 0 none) me)
  loads_under slots id me p policy same idle one low = let v : Knows = me.0 in allows slots id me 8 (λ n. n) (loaded_under policy (step slots 8 0 0 none) me) (λ q st at. let q' : QState = core.load_under q id v p in let c : ℕ = p.number in let x : Cell = record (q.cells c) { sure = q.mode } in (
    saw_under v p q.mode,
    keeps,
    tt,
    record {
      core = q';
      reached = by_load_under q id v p (record { at = at; one = one; low = low; idle = idle }) st.reached;
      is = λ j. record {
        words = T q.turn (mode_word q.mode) q.filled (same_put (λ (y : Cell). y.word) q.cells c x refl j);
        homes = home q.turn (slot.Outer q.outer) ∷ same_put cell_home q.cells c x refl j;
        views = q'.seats;
      };
      proper = st.proper;
    },
    (λ p' one'. (q.mode, refl, ap (λ (r : HeldBuffer). let m : Held = (saw_under v r q.mode, me.1) in m) (first_is p p' (sym one ∙ one')), allowed policy same q st)),
  ))

  pub loads_filled : (slots id : ℕ) (me : Held) → Allows (Tied z) slots id me 16 (λ n. n) (loaded_filled (step slots 16 0 0 none) me)
  loads_filled slots id me = let v : Knows = me.0 in allows slots id me 16 (λ n. n) (loaded_filled (step slots 16 0 0 none) me) (λ q st at. let q' : QState = core.load_filled q id v in (
    counted v q.filled,
    keeps,
    tt,
    record { core = q'; reached = by_load_filled q id v at st.reached; is = refl; proper = st.proper },
    refl,
  ))

  pub stores_on : (slots id : ℕ) (me : Held) (o : Outer) → Begins me.0 o → is_install (due_at z.policy (o.journal ++ Direct (some_refused me.0.refused) ∷ [])) ≡ true → Allows (Tied z) slots id me 8 (λ _. 1) (λ _. stored_on (step slots 8 1 0 none) me 1)
  stores_on slots id me o begins due = let v : Knows = me.0 in allows slots id me 8 (λ _. 1) (λ _. stored_on (step slots 8 1 0 none) me 1) (λ q st at. let q' : QState = core.mode_on q id v in (
    switched_on v,
    keeps,
    tt,
    record { core = q'; reached = by_mode_on q id v o (record { at = at; begins = begins; is_due = ap (λ (y : Setup). is_install (due_at y.policy (o.journal ++ Direct (some_refused v.refused) ∷ []))) (same_setup z q st.reached) ∙ due }) st.reached; is = refl; proper = st.proper },
    refl,
  ))

  pub stores_off : (slots id : ℕ) (me : Held) (o : Outer) → Begins me.0 o → me.0.saw_off ≡ false → me.0.role ≡ true → me.0.due ≡ true → Allows (Tied z) slots id me 8 (λ _. 0) (λ _. stored_off (step slots 8 0 0 none) me 0)
  stores_off slots id me o begins blind role is_due = let v : Knows = me.0 in allows slots id me 8 (λ _. 0) (λ _. stored_off (step slots 8 0 0 none) me 0) (λ q st at. let q' : QState = core.mode_off q id v in (
    switched_off v,
    keeps,
    tt,
    record { core = q'; reached = by_mode_off q id v o (record { at = at; begins = begins; blind = blind; role = role; is_due = is_due }) st.reached; is = refl; proper = st.proper },
    refl,
  ))

  -- the turn of buffer b
  pub takes_buffer : (slots id b i my_word : ℕ) (me : Held) → b < 64 → i ≡ 8 * (b + 3) → Apart b me.0.parts → IsSomebody me.0 → my_word ≡ number me.0 + 1 → Allows (Tied z) slots id me i (λ n. either (n == 0) my_word n) (tried_buffer (step slots i 0 my_word none) me)
  takes_buffer slots id b i my_word me low is apart somebody mine_is = allows slots id me i (λ n. either (n == 0) my_word n) (tried_buffer (step slots i 0 my_word none) me) (λ q st at. let v : Knows = me.0 in let x : Cell = q.cells b in
      let found : get_or (words_of q) i 0 ≡ x.word = word_at q.turn (mode_word q.mode) q.filled q.cells b low i is in
      let word : ℕ = get_or (words_of q) i 0 in dite (ℕ_discrete word 0)
      (λ free. let free_cell : x.word ≡ 0 = sym found ∙ free in
      let y : Cell = record x { word = suc (number v); holder = Some id; set = false; sure = false } in
      let new : either (word == 0) my_word word ≡ y.word = ap (λ (c : Bool). either c my_word word) (eq-eqb word 0 free) ∙ (omega arith) in let q' : QState = core.take_buffer q id v b in (
        gains v b x.list,
        takes (b + 1) (slot.List x.list),
        home_at (home q.turn (slot.Outer q.outer)) q.cells b low (b + 1) refl ∙ ap (λ (n : ℕ). some (home n (slot.List x.list))) free_cell,
        record {
          core = q';
          reached = by_take_buffer q id v b (record { at = at; low = low; free = free_cell; somebody = somebody }) st.reached;
          is = λ k. record {
            words = (ap (λ (n : ℕ). set (words_of q) i n) new ∙ words_put q.turn (mode_word q.mode) q.filled q.cells b low i y is) k;
            homes = homes_put (home q.turn (slot.Outer q.outer)) q.cells b low (b + 1) y none refl refl k;
            views = q'.seats;
          };
          proper = st.proper;
        },
        (λ c e. let same : b ≡ c = omega arith in ((λ _. (x.list, ap (λ (r : ℕ). let m : Held = (gains v r x.list, (r + 1, slot.List x.list) ∷ me.1) in m) same, subst (λ (r : ℕ). OfBuffer r x.list) same (own_alone b x.list (λ s other. (st.law.each b).near s (λ e. other (sym e)))))), (λ n. absurd (n free)))),
      ))
      (λ n. let new : either (word == 0) my_word word ≡ word = ap (λ (c : Bool). either c my_word word) (ne_eqb word 0 n) in let q' : QState = core.refuse_buffer q id v b in (
        turned_away_at v (b + 3) x.word,
        keeps,
        tt,
        record {
          core = q';
          reached = by_refuse_buffer q id v b (record { at = at; low = low; busy = λ e. n (found ∙ e) }) st.reached;
          is = λ k. record { words = (ap (λ (m : ℕ). set (words_of q) i m) new ∙ set_found (words_of q) i) k; homes = homes_of q; views = q'.seats };
          proper = st.proper;
        },
        (λ c e. let same : b ≡ c = omega arith in (
          (λ e. absurd (n e)),
          (λ _. (
            (λ k. (turned_away_at v (same k + 3) (sym found k), me.1)),
            subst (Foreign v) (sym found) (foreign q st.lists id v at x.word x.holder (HasBuffer b) (st.agrees.cells b) (among_not b v.parts apart) (λ e. n (found ∙ e))),
          )),
        )),
      )))

  -- the buffer that the seat took first is left, and its cell becomes y
  module _ (slots id i : ℕ) (me : Held) (p : HeldBuffer) (ps : List HeldBuffer) (low : p.number < 64) (is : i ≡ 8 * (p.number + 3)) (first : me.0.parts ≡ p ∷ ps) where
    held_part : (q : QState) → Agrees q → get_elem? q.seats id ≡ some me.0 → HeldBy id p (q.cells p.number)
    held_part q agree at = (subst (HoldsAll q.cells id) first (agree.each id me.0 at).parts).0

    pub leaves_buffer : me.1 ≡ (p.number + 1, slot.List p.list) ∷ rest me.1 → Allows (Tied z) slots id me i (λ _. 0) (λ _. left_buffer (step slots i 0 0 none) me 0)
    leaves_buffer out = let v : Knows = me.0 in allows_with slots id me (p.number + 1, slot.List p.list) i (λ _. 0) (λ m _. left_buffer (step slots i 0 0 none) m 0) out (λ xs q st at. let q' : QState = core.buffer_same q id v p ps in let h = held_part q st.agrees at in
        let y : Cell = record (q.cells p.number) { word = 0; holder = None; set = false; sure = false } in (
          loses v,
          gives,
          tt,
          record {
            core = q';
            reached = by_leave_buffer q id v p ps (record { at = at; first = first }) st.reached;
            is = λ k. record {
              words = words_put q.turn (mode_word q.mode) q.filled q.cells p.number low i y is k;
              homes = homes_put (home q.turn (slot.Outer q.outer)) q.cells p.number low (p.number + 1) y (some (slot.List p.list)) refl (ap (λ (l : List Signal). some (slot.List l)) (sym h.list)) k;
              views = q'.seats;
            };
            proper = st.proper;
          },
          refl,
        ))

    -- where the seat has the outer turn too, whose word isn't 0, so that the outer value may change
    outer_moves : (q : QState) → Stands q → (o : Outer) → me.0.held ≡ Some o → get_elem? q.seats id ≡ some me.0 → (x : Outer) → home q.turn (slot.Outer q.outer) ≡ home q.turn (slot.Outer x)
    outer_moves q st o held at x = let w = taken_word q.seats q.turn id q.holder HasOuter st.agrees.turn ((st.agrees.each id me.0 at).outer o held).mine in home_out q.turn w.0 (slot.Outer q.outer) (slot.Outer x) w.1

    same_first : (p' : HeldBuffer) (ps' : List HeldBuffer) (o o' : Outer) → me.0.held ≡ Some o → me.0.parts ≡ p' ∷ ps' → me.0.held ≡ Some o' → (p ≡ p') × (o ≡ o')
    same_first p' ps' o o' held first' held' = (heads p p' ps ps' (sym first ∙ first'), (let e : Some o ≡ Some o' = sym held ∙ held' in cc))

    pub takes_part : (o : Outer) → me.0.held ≡ Some o → me.0.fetching ≡ true → flag me.0.mask p.number ≡ true → me.1 ≡ (p.number + 1, slot.List []) ∷ rest me.1 → Allows (Tied z) slots id me i (λ _. 0) (λ _. left_part (step slots i 0 0 none) me 0)
    takes_part o held f masked out = let v : Knows = me.0 in allows_with slots id me (p.number + 1, slot.List []) i (λ _. 0) (λ m _. left_part (step slots i 0 0 none) m 0) out (λ xs q st at. let q' : QState = core.buffer_fetched q id v p ps o in
        let y : Cell = record (q.cells p.number) { list = []; word = 0; holder = None; set = false; sure = false; mask = false } in (
          took_part v o p,
          gives,
          tt,
          record {
            core = q';
            reached = by_take_part q id v p ps o (record { at = at; first = first; held = held; fetching = f; masked = masked }) st.reached;
            is = λ k. record {
              words = words_put q.turn (mode_word q.mode) q.filled q.cells p.number low i y is k;
              homes = (homes_put (home q.turn (slot.Outer q.outer)) q.cells p.number low (p.number + 1) y (some (slot.List [])) refl refl ∙ ap (λ (h : maybe.Option Slot). h ∷ table_from 0 64 (λ c. cell_home (put q.cells p.number y c))) (outer_moves q st o held at (behind o p.list))) k;
              views = q'.seats;
            };
            proper = st.proper;
          },
          (λ p' ps' o' first' held'. let same = same_first p' ps' o o' held first' held' in λ k. (took_part v (same.1 k) (same.0 k), xs)),
        ))

    pub passes : (o : Outer) → me.0.held ≡ Some o → me.0.fetching ≡ false → me.0.removing ≡ true → me.0.progress ≡ p.number → me.1 ≡ (p.number + 1, slot.List []) ∷ rest me.1 → Allows (Tied z) slots id me i (λ _. 0) (λ _. left_passed (step slots i 0 0 none) me 0)
    passes o held nf r next out = let v : Knows = me.0 in allows_with slots id me (p.number + 1, slot.List []) i (λ _. 0) (λ m _. left_passed (step slots i 0 0 none) m 0) out (λ xs q st at. let q' : QState = core.buffer_passed q id v p ps o in
        let y : Cell = record (q.cells p.number) { list = []; word = 0; holder = None; set = false; sure = false } in (
          passed v o p,
          gives,
          tt,
          record {
            core = q';
            reached = by_pass q id v p ps o (record { at = at; first = first; held = held; fetching = nf; removing = r; next = next }) st.reached;
            is = λ k. record {
              words = words_put q.turn (mode_word q.mode) q.filled q.cells p.number low i y is k;
              homes = (homes_put (home q.turn (slot.Outer q.outer)) q.cells p.number low (p.number + 1) y (some (slot.List [])) refl refl ∙ ap (λ (h : maybe.Option Slot). h ∷ table_from 0 64 (λ c. cell_home (put q.cells p.number y c))) (outer_moves q st o held at (behind o p.list))) k;
              views = q'.seats;
            };
            proper = st.proper;
          },
          (λ p' ps' o' first' held'. let same = same_first p' ps' o o' held first' held' in λ k. (passed v (same.1 k) (same.0 k), xs)),
        ))

  pub puts_to_buffer : (slots id i : ℕ) (me : Held) (p : HeldBuffer) (x : Signal) → p.number < 64 → i ≡ 8 * (p.number + 3) → me.0.parts ≡ p ∷ [] → me.0.held ≡ None → p.sure ≡ true → p.set ≡ true → me.0.saw_off ≡ false → has me.0.senders x.from.0 ≡ true → IsNext z me.0.put x → buffer_of x.from.0 ≡ p.number
      → me.1 ≡ (p.number + 1, slot.List (p.list ++ x ∷ [])) ∷ rest me.1 → Allows (Tied z) slots id me i (λ _. 0) (λ _. left_buffer_put (step slots i 0 0 none) me 0)
  puts_to_buffer slots id i me p x low is one idle sure is_set blind from next here out = let v : Knows = me.0 in allows_with slots id me (p.number + 1, slot.List (p.list ++ x ∷ [])) i (λ _. 0) (λ m _. left_buffer_put (step slots i 0 0 none) m 0) out (λ xs q st at. let q' : QState = core.buffer_put q id v p x in
      let h = held_part slots id i me p [] low is one q st.agrees at in
      let y : Cell = record (q.cells p.number) { list = (q.cells p.number).list ++ x ∷ []; word = 0; holder = None; set = false; sure = false } in (
        put_to_buffer v (p.list ++ x ∷ []),
        gives,
        tt,
        record {
          core = q';
          reached = by_put_to_buffer q id v p x (record { at = at; one = one; idle = idle; sure = sure; is_set = is_set; blind = blind; from = from; next = subst (λ (y : Setup). IsNext y v.put x) (sym (same_setup z q st.reached)) next; home = here }) st.reached;
          is = λ k. record {
            words = words_put q.turn (mode_word q.mode) q.filled q.cells p.number low i y is k;
            homes = homes_put (home q.turn (slot.Outer q.outer)) q.cells p.number low (p.number + 1) y (some (slot.List (p.list ++ x ∷ []))) refl (ap (λ (l : List Signal). some (slot.List (l ++ x ∷ []))) (sym h.list)) k;
            views = q'.seats;
          };
          proper = st.proper;
        },
        refl,
      ))

  -- seats
  pub splits : (id : ℕ) (v : Knows) (given : List ℕ) (role : Bool) → Idle v → ((s : ℕ) → has given s ≡ true → has v.senders s ≡ true) → (role ≡ true → v.role ≡ true)
      → Splits (Tied z) id v (left_of v given role) (right_of v given role)
  splits id v given role idle some_of role_of s tied at = let q : QState = tied.core in let e = tied.is in record {
    core = core.split q id v given role;
    reached = by_split q id v given role (record { at = ap (λ (y : State Slot Knows). get_elem? y.views id) (sym e) ∙ at; idle = idle; some_of = some_of; role_of = role_of }) tied.reached;
    is = λ k. record { words = (e k).words; homes = (e k).homes; views = set (e k).views id (left_of v given role) ++ right_of v given role ∷ [] };
    proper = tied.proper;
  }

  pub notes : (id : ℕ) (v : Knows) → Splits (Tied z) id v v (note_of v)
  notes id v s tied at = let q : QState = tied.core in let e = tied.is in record {
    core = core.note q id v;
    reached = by_note q id v (ap (λ (y : State Slot Knows). get_elem? y.views id) (sym e) ∙ at) tied.reached;
    is = (λ k. record { words = s.words; homes = s.homes; views = set_again s.views id v at k ++ note_of v ∷ [] }) ∙ (λ k. record { words = (e k).words; homes = (e k).homes; views = (e k).views ++ note_of v ∷ [] });
    proper = tied.proper;
  }

  pub joins : (id : ℕ) (v : Knows) (other : ℕ) (w : Knows) → Idle v → Idle w → Joins (Tied z) id v other w (joined v w) spent
  joins id v other w idle still s tied at apart there = let q : QState = tied.core in let e = tied.is in record {
    core = core.join q id v other w;
    reached = by_join q id v other w (record { at = ap (λ (y : State Slot Knows). get_elem? y.views id) (sym e) ∙ at; apart = apart; there = ap (λ (y : State Slot Knows). get_elem? y.views other) (sym e) ∙ (sym (set_else s.views id other (joined v w) apart) ∙ there); idle = idle; still = still }) tied.reached;
    is = λ k. record { words = (e k).words; homes = (e k).homes; views = set (set (e k).views id (joined v w)) other spent };
    proper = tied.proper;
  }

  pub looks_only : (slots id : ℕ) (me : Held) → Allows (Tied z) slots id me 0 (λ n. n) (looked_only (step slots 0 0 0 none) me)
  looks_only slots id me = let v : Knows = me.0 in allows slots id me 0 (λ n. n) (looked_only (step slots 0 0 0 none) me) (λ q st at. (
    v,
    keeps,
    tt,
    record { core = q; reached = st.reached; is = λ k. record { words = words_of q; homes = homes_of q; views = set_again q.seats id v at k }; proper = st.proper },
    refl,
  ))

-- where the word of a buffer stands
pub word_is : {a : ℕ} (b : ℕ) → a ≡ b → 24 + b * 8 ≡ 8 * (a + 3)
word_is b e = omega (arith, e)

-- the word of the mode is 1 exactly where the mode is on
pub word_on : (on : Bool) (n : ℕ) → n ≡ mode_word on → on ≡ (n == 1)
word_on true n e = ap (λ (k : ℕ). k == 1) (sym e)
word_on false n e = ap (λ (k : ℕ). k == 1) (sym e)
