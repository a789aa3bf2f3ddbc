-- Each step keeps what seats put, took and were told.
use Rattle.std.proofs.Common.{◌≡◌, ◌≢◌, ◌⊎◌, ℕ, ◌+◌, ◌==◌, ◌&&◌, ◌||◌, subst, Bool, true, false, not, if◌then◌else◌, List, [], ◌∷◌, ◌++◌, length, length-set, drop, set, sym, refl, ap, ◌∙◌, eq-eqb, ne_eqb, append-nil, inl, inr, ⊎_elim, Option, Some, None}
use mathlib.Core.Option.{some}
use lib.ListN.{get_elem?}
use Rattle.sig_kinds.specs.declared.signal.Signal.{Signal}
use Rattle.sig_layout.specs.declared.setup.Setup.{Setup}
use Rattle.sig_layout.specs.declared.via.Via.TheVariants as via
use Rattle.sig_layout.specs.declared.item.Item.{Item}
use Rattle.sig_layout.specs.declared.outer.Outer.{Outer}
use Rattle.sig_layout.specs.Sets.{has}
use Rattle.sig_layout.specs.Sent.{putter, of, Within}
use Rattle.sig_layout.proofs.Sending.{not_both, drop_front, bool_cases, and_left, and_right, not_true, or_cases, or_neither, prefix_of_same, prefix_of_none, of-append, of_other, keep_all, keep_none, all_longer, all_joined}
use Rattle.sig_layout.proofs.Members.{not_none, has_minus, has_plus}
use Rattle.sig_layout.specs.declared.held_buffer.HeldBuffer.{HeldBuffer}
use Rattle.sig_layout.specs.declared.knows.Knows.{Knows}
use Rattle.sig_layout.specs.Views.{signals_of, first_list, buffer_in, put_by, holding, turned_away, after_put, after_same, with_bits, after_fetch, switched_on, switched_off, after_remove, saw, counted, gains, turned_away_at, saw_under, marked, given_back, loses, put_to_buffer, took_part, passed, left_of, right_of, note_of, joined, spent, first_seat}
use Rattle.sig_layout.specs.Outers.{added}
use Rattle.sig_layout.specs.Core.{QState, opened_with, refused, take_bits, CanFetch, leave_fetch, makes_due, CanSplit, split, note, CanJoin, join, Reached, opened, by_take_outer, by_refuse_outer, by_put, by_leave, by_take_bits, by_fetch, by_mode_on, by_mode_off, by_remove, by_load_mode, by_load_filled, by_take_buffer, by_refuse_buffer, by_set_back, by_load_under, by_set_bit, by_put_to_buffer, by_leave_buffer, by_take_part, by_pass, by_split, by_note, by_join}
use Rattle.sig_layout.specs.Agree.{Agrees}
use Rattle.sig_layout.specs.Lists.{SeatListsAs, SeatLists, Lists}
use Rattle.sig_layout.proofs.Agreeing.{other_seat, seat_set, seat_more, one_seat, agrees}

pub held_cases : (h : Option Outer) → (h ≡ None) ⊎ ((o : Outer) × (h ≡ Some o))
held_cases None = inl refl
held_cases (Some o) = inr (o, refl)

if_or : (a b : Bool) → (a || b) ≡ (if a then true else b)
if_or true b = refl
if_or false b = refl

-- what the holder of the outer turn puts is what it found, and x behind it
pub gained : (v : Knows) (o : Outer) (x : Signal) → v.held ≡ Some o → drop (length (signals_of v.held)) (o.signals ++ x ∷ []) ≡ x ∷ []
gained v o x is = ap (λ (h : Option Outer). drop (length (signals_of h)) (o.signals ++ x ∷ [])) is ∙ drop_front o.signals (x ∷ [])

pub gained_to_buffer : (v : Knows) (p : HeldBuffer) (ps : List HeldBuffer) (x : Signal) → v.parts ≡ p ∷ ps
    → drop (length (first_list v.parts)) (p.list ++ x ∷ []) ≡ x ∷ []
gained_to_buffer v p ps x is = ap (λ (h : List HeldBuffer). drop (length (first_list h)) (p.list ++ x ∷ [])) is ∙ drop_front p.list (x ∷ [])

pub put_there : (v : Knows) (p : HeldBuffer) (ps : List HeldBuffer) (x : Signal) → v.parts ≡ p ∷ ps
    → (put_to_buffer v (p.list ++ x ∷ [])).put ≡ v.put ++ record { signal = x; via = via.Buffer p.number } ∷ []
put_there v p ps x is = ap (λ (l : List Signal). v.put ++ put_by (via.Buffer (buffer_in v.parts)) l) (gained_to_buffer v p ps x is)
    ∙ ap (λ (h : List HeldBuffer). v.put ++ record { signal = x; via = via.Buffer (buffer_in h) } ∷ []) is

module _ (q : QState) (law : Lists q) where
  -- what seats put and were told is within what was put
  pub within_log : (i : ℕ) (v : Knows) → get_elem? q.seats i ≡ some v → Within v.put q.log
  within_log i v at s = let ok = law.each i v at in
      ⊎_elim (λ (h : has v.senders s ≡ true). prefix_of_same (of putter s v.put) (of putter s q.log) (ok.own s h))
      (λ (h : has v.senders s ≡ false). prefix_of_none (of putter s v.put) (of putter s q.log) (ok.only s h))
      (bool_cases (has v.senders s))

  lists_more : (x : Knows) → SeatLists q (length q.seats) x → Lists (record q { seats = q.seats ++ x ∷ [] })
  lists_more x new = record { each = seat_more (SeatLists q) q.seats x new law.each; strange = law.strange }

  module _ (i : ℕ) (v : Knows) (at : get_elem? q.seats i ≡ some v) where
    abbrev ok : SeatLists q i v
    ok = law.each i v at

    lists_set : (w : Knows) → SeatLists q i w → Lists (record q { seats = set q.seats i w })
    lists_set w mine = record { each = seat_set (SeatLists q) q.seats i w mine (λ j d _ at'. law.each j d at'); strange = law.strange }

    -- the same where it no longer fetches
    unfetched : SeatListsAs q.setup.senders q.owner q.reader q.log q.taken q.base i v.senders v.role v.put v.told v.taken false
    unfetched = record {
      known = ok.known;
      owns = ok.owns;
      reads = ok.reads;
      own = ok.own;
      only = ok.only;
      told = ok.told;
      took = ok.took;
      took_none = ok.took_none;
      based = λ h. not_both false h refl;
    }

    -- one more signal of a sender of the seat, which fetches nothing
    lists_put : (w : Knows) (x : Item) → has v.senders (putter x) ≡ true → w.senders ≡ v.senders → w.role ≡ v.role
        → w.put ≡ v.put ++ x ∷ [] → w.told ≡ v.told → w.taken ≡ v.taken → w.fetching ≡ false
        → Lists (record q { log = q.log ++ x ∷ []; seats = set q.seats i w })
    lists_put w x from senders role put told taken no_fetch = record {
      each = seat_set (SeatLists (record q { log = q.log ++ x ∷ [] })) q.seats i w
          (subst (λ (z : List ℕ × Bool × List (List Item) × List Signal). SeatListsAs q.setup.senders q.owner q.reader
          (q.log ++ x ∷ []) q.taken q.base i z.0 z.1 w.put z.2 z.3 w.fetching)
          (λ k. (sym senders k, sym role k, sym told k, sym taken k)) record {
            known = ok.known;
            owns = ok.owns;
            reads = ok.reads;
            own = λ s h. ap (of putter s) put ∙ (of-append putter s v.put (x ∷ [])
                ∙ (ap (λ (l : List Item). l ++ of putter s (x ∷ [])) (ok.own s h) ∙ sym (of-append putter s q.log (x ∷ []))));
            only = λ s h. ap (of putter s) put ∙ (of-append putter s v.put (x ∷ [])
                ∙ (ap (λ (l : List Item). l ++ of putter s (x ∷ [])) (ok.only s h)
                ∙ of_other putter s x [] (λ e. not_both true refl (sym from ∙ (ap (λ (z : ℕ). has v.senders z) e ∙ h)))));
            told = all_longer v.told q.log (x ∷ []) ok.told;
            took = ok.took;
            took_none = ok.took_none;
            based = λ f. not_both w.fetching f no_fetch;
          })
          (λ j d n at'. let other = law.each j d at' in record {
            known = other.known;
            owns = other.owns;
            reads = other.reads;
            own = λ s h. other.own s h ∙ (sym (append-nil (of putter s q.log))
                ∙ (ap (λ (l : List Item). of putter s q.log ++ l)
                (sym (of_other putter s x [] (λ e. n (sym (other.owns s h)
                ∙ ok.owns s (ap (λ (z : ℕ). has v.senders z) (sym e) ∙ from))))) ∙ sym (of-append putter s q.log (x ∷ []))));
            only = other.only;
            told = all_longer d.told q.log (x ∷ []) other.told;
            took = other.took;
            took_none = other.took_none;
            based = other.based;
          });
      strange = λ s h. of-append putter s q.log (x ∷ [])
          ∙ (ap (λ (l : List Item). l ++ of putter s (x ∷ [])) (law.strange s h)
          ∙ of_other putter s x [] (λ e. not_both true refl (sym (ok.known (putter x) from) ∙ (ap (has q.setup.senders) e ∙ h))));
    }

    lists_fetch : (o : Outer) → CanFetch q i v o → Lists (leave_fetch q i v o)
    lists_fetch o can = let found : signals_of v.held ≡ o.signals = ap signals_of can.held in
        let w : Knows = after_fetch v (makes_due q i v o) in record {
          each = seat_set (SeatLists (record q { taken = q.taken ++ o.signals })) q.seats i w
              (record {
                known = ok.known;
                owns = ok.owns;
                reads = ok.reads;
                own = ok.own;
                only = ok.only;
                told = ok.told;
                took = λ r. ap (λ (l : List Signal). l ++ signals_of v.held) (ok.took r) ∙ ap (λ (l : List Signal). q.taken ++ l) found;
                took_none = λ r. not_both v.role can.role r;
                based = λ h. not_both false h refl;
              })
              (λ j d n at'. let other = law.each j d at' in record {
                known = other.known;
                owns = other.owns;
                reads = other.reads;
                own = other.own;
                only = other.only;
                told = other.told;
                took = λ r. absurd (n (sym (other.reads r) ∙ ok.reads can.role));
                took_none = other.took_none;
                based = other.based;
              });
          strange = law.strange;
        }

    -- a fetch takes the bits, and no other seat fetches
    lists_bits : Agrees q → (o : Outer) → v.held ≡ Some o → Lists (take_bits q i v)
    lists_bits agree o held = let mine = ((agree.each i v at).outer o held).mine in record {
      each = seat_set (SeatLists (record q { base = q.log })) q.seats i (with_bits v q.filled)
          (record {
            known = ok.known;
            owns = ok.owns;
            reads = ok.reads;
            own = ok.own;
            only = ok.only;
            told = ok.told;
            took = ok.took;
            took_none = ok.took_none;
            based = λ _. (within_log i v at, ok.told);
          })
          (λ j d n at'. let other = law.each j d at' in let its = agree.each j d at' in record {
            known = other.known;
            owns = other.owns;
            reads = other.reads;
            own = other.own;
            only = other.only;
            told = other.told;
            took = other.took;
            took_none = other.took_none;
            based = λ f. ⊎_elim (λ (e : d.held ≡ None). not_both d.fetching f (its.rest e).0)
                (λ (e : (p : Outer) × (d.held ≡ Some p)). other_seat i j q.holder mine n (its.outer e.0 e.1).mine) (held_cases d.held);
          });
      strange = law.strange;
    }

    lists_note : Lists (note q i v)
    lists_note = lists_more (note_of v) record {
      known = λ s h. absurd (not_none s h);
      owns = λ s h. absurd (not_none s h);
      reads = λ h. not_both false h refl;
      own = λ s h. absurd (not_none s h);
      only = λ s h. refl;
      told = (within_log i v at, ok.told);
      took = λ h. not_both false h refl;
      took_none = λ h. refl;
      based = λ h. not_both false h refl;
    }

  lists_split : (i : ℕ) (v : Knows) (given : List ℕ) (role : Bool) → CanSplit q i v given role → v.fetching ≡ false
      → Lists (split q i v given role)
  lists_split i v given role can no_fetch = let ok = law.each i v can.at in let l : Knows = left_of v given role in
      let r : Knows = right_of v given role in
      let n : ℕ = length q.seats in
      let len : length (set q.seats i l) ≡ n = length-set q.seats i l in
      let q' : QState = split q i v given role in
      let owner' : ℕ → ℕ = q'.owner in
      let left_has : (s : ℕ) → has l.senders s ≡ true
      → (has v.senders s ≡ true) × (has given s ≡ false) = (λ s h. let e = sym (has_minus v.senders given s) ∙ h in (
        and_left (has v.senders s) (not (has given s)) e,
        not_true (has given s)
            (and_right (has v.senders s) (not (has given s)) e),
      )) in
      let owner_not : (s : ℕ) → has given s ≡ false
      → owner' s ≡ q.owner s = (λ s h. ap (λ (b : Bool). if b then n else q.owner s) h) in
      let owner_is : (s : ℕ) → has given s ≡ true → owner' s ≡ n = (λ s h. ap (λ (b : Bool). if b then n else q.owner s) h) in
      record {
        strange = law.strange;
        each = seat_more (SeatLists q') (set q.seats i l) r
            (record {
              known = λ s h. ok.known s (can.some_of s h);
              owns = λ s h. owner_is s h ∙ sym len;
              reads = λ h. ap (λ (b : Bool). if b then n else q.reader) h ∙ sym len;
              own = λ s h. keep_all putter (has given) s v.put h ∙ ok.own s (can.some_of s h);
              only = λ s h. keep_none putter (has given) s v.put h;
              told = ok.told;
              took = λ h. ap (λ (b : Bool). if b then v.taken else []) h ∙ ok.took (can.role_of h);
              took_none = λ h. ap (λ (b : Bool). if b then v.taken else []) h;
              based = λ h. not_both false h refl;
            })
            (seat_set (SeatLists q') q.seats i l
            (record {
              known = λ s h. ok.known s (left_has s h).0;
              owns = λ s h. let both = left_has s h in owner_not s both.1 ∙ ok.owns s both.0;
              reads = λ h. let both = and_left v.role (not role) h in let no = not_true role (and_right v.role (not role) h) in
                  ap (λ (b : Bool). if b then n else q.reader) no ∙ ok.reads both;
              own = λ s h. let both = left_has s h in
                  keep_all putter (λ z. not (has given z)) s v.put (ap not both.1) ∙ ok.own s both.0;
              only = λ s h. ⊎_elim (λ (g : has given s ≡ true). keep_none putter (λ z. not (has given z)) s v.put (ap not g))
                  (λ (g : has given s ≡ false). keep_all putter (λ z. not (has given z)) s v.put (ap not g) ∙ ⊎_elim
                  (λ (k : has v.senders s ≡ true). not_both true refl (ap (λ (b : Bool). true && not b) (sym g)
                  ∙ (ap (λ (b : Bool). b && not (has given s)) (sym k) ∙ (sym (has_minus v.senders given s) ∙ h))))
                  (λ (k : has v.senders s ≡ false). ok.only s k) (bool_cases (has v.senders s))) (bool_cases (has given s));
              told = ok.told;
              took = λ h. let both = and_left v.role (not role) h in let no = not_true role (and_right v.role (not role) h) in
                  ap (λ (b : Bool). if b then [] else v.taken) no ∙ ok.took both;
              took_none = λ h. ⊎_elim (λ (g : role ≡ true). ap (λ (b : Bool). if b then [] else v.taken) g)
                  (λ (g : role ≡ false). ap (λ (b : Bool). if b then [] else v.taken) g ∙ ⊎_elim
                  (λ (k : v.role ≡ true). not_both true refl (ap (λ (b : Bool). true && not b) (sym g)
                  ∙ (ap (λ (b : Bool). b && not role) (sym k) ∙ h)))
                  (λ (k : v.role ≡ false). ok.took_none k) (bool_cases v.role)) (bool_cases role);
              based = λ f. not_both v.fetching f no_fetch;
            })
            (λ j d other at. let its = law.each j d at in record {
              known = its.known;
              owns = λ s h. ⊎_elim (λ (g : has given s ≡ true). absurd (other (sym (its.owns s h) ∙ ok.owns s (can.some_of s g))))
                  (λ (g : has given s ≡ false). owner_not s g ∙ its.owns s h) (bool_cases (has given s));
              reads = λ h. ⊎_elim (λ (g : role ≡ true). absurd (other (sym (its.reads h) ∙ ok.reads (can.role_of g))))
                  (λ (g : role ≡ false). ap (λ (b : Bool). if b then n else q.reader) g ∙ its.reads h) (bool_cases role);
              own = its.own;
              only = its.only;
              told = its.told;
              took = its.took;
              took_none = its.took_none;
              based = its.based;
            }));
      }

  lists_join : (i : ℕ) (v : Knows) (j : ℕ) (w : Knows) → CanJoin q i v j w → v.fetching ≡ false → Lists (join q i v j w)
  lists_join i v j w can no_fetch = let ok = law.each i v can.at in let its = law.each j w can.there in let b : Knows = joined v w in
      let q' : QState = join q i v j w in
      let to_i : (k : ℕ) → k ≡ j → (if k == j then i else k) ≡ i = (λ k e. ap (λ (z : Bool). if z then i else k) (eq-eqb k j e)) in
      let stays : (k : ℕ) → k ≢ j → (if k == j then i else k) ≡ k = (λ k n. ap (λ (z : Bool). if z then i else k) (ne_eqb k j n)) in
      let apart : i ≢ j = (λ e. can.apart (sym e)) in
      let not_w : (s : ℕ) → has v.senders s ≡ true
      → has w.senders s ≡ false = (λ s h. ⊎_elim
      (λ (k : has w.senders s ≡ true). absurd (apart (sym (ok.owns s h) ∙ its.owns s k))) (λ (k : has w.senders s ≡ false). k)
      (bool_cases (has w.senders s))) in
      let not_v : (s : ℕ) → has w.senders s ≡ true
      → has v.senders s ≡ false = (λ s h. ⊎_elim
      (λ (k : has v.senders s ≡ true). absurd (apart (sym (ok.owns s k) ∙ its.owns s h))) (λ (k : has v.senders s ≡ false). k)
      (bool_cases (has v.senders s))) in
      let has_b : (s : ℕ) → has b.senders s ≡ true
      → (has v.senders s ≡ true) ⊎ (has w.senders s ≡ true) =
      (λ s h. or_cases (has v.senders s) (has w.senders s) (sym (has_plus v.senders w.senders s) ∙ h)) in
      let has_no : (s : ℕ) → has b.senders s ≡ false
      → (has v.senders s ≡ false) × (has w.senders s ≡ false) =
      (λ s h. or_neither (has v.senders s) (has w.senders s) (sym (has_plus v.senders w.senders s) ∙ h)) in
      let puts : (s : ℕ) → of putter s b.put ≡ of putter s v.put ++ of putter s w.put = (λ s. of-append putter s v.put w.put) in
      record {
        strange = law.strange;
        each = seat_set (SeatLists q') (set q.seats i b) j spent
            (record {
              known = λ s h. absurd (not_none s h);
              owns = λ s h. absurd (not_none s h);
              reads = λ h. not_both false h refl;
              own = λ s h. absurd (not_none s h);
              only = λ s h. refl;
              told = tt;
              took = λ h. not_both false h refl;
              took_none = λ h. refl;
              based = λ h. not_both false h refl;
            })
            (λ k d not_j at'. seat_set (λ k d. k ≢ j → SeatLists q' k d) q.seats i b
            (λ _. record {
              known = λ s h. ⊎_elim (λ (g : has v.senders s ≡ true). ok.known s g) (λ (g : has w.senders s ≡ true). its.known s g)
                  (has_b s h);
              owns = λ s h. ⊎_elim (λ (g : has v.senders s ≡ true). stays (q.owner s) (λ e. apart (sym (ok.owns s g) ∙ e))
                  ∙ ok.owns s g) (λ (g : has w.senders s ≡ true). to_i (q.owner s) (its.owns s g)) (has_b s h);
              reads = λ h. ⊎_elim (λ (g : v.role ≡ true). stays q.reader (λ e. apart (sym (ok.reads g) ∙ e)) ∙ ok.reads g)
                  (λ (g : v.role ≡ false). to_i q.reader (its.reads (sym (ap (λ (z : Bool). if z then true else w.role) g) ∙ h)))
                  (bool_cases v.role);
              own = λ s h. puts s ∙ ⊎_elim
                  (λ (g : has v.senders s ≡ true). ap (λ (l : List Item). of putter s v.put ++ l) (its.only s (not_w s g))
                  ∙ (append-nil (of putter s v.put) ∙ ok.own s g))
                  (λ (g : has w.senders s ≡ true). ap (λ (l : List Item). l ++ of putter s w.put) (ok.only s (not_v s g))
                  ∙ its.own s g) (has_b s h);
              only = λ s h. let no = has_no s h in
                  puts s ∙ (ap (λ (l : List Item). l ++ of putter s w.put) (ok.only s no.0) ∙ its.only s no.1);
              told = all_joined v.told w.told q.log ok.told its.told;
              took = λ h. ⊎_elim
                  (λ (g : v.role ≡ true). let no : w.role ≡ false = ⊎_elim
                  (λ (k : w.role ≡ true). absurd (apart (sym (ok.reads g) ∙ its.reads k))) (λ (k : w.role ≡ false). k)
                  (bool_cases w.role) in
                  ap (λ (l : List Signal). v.taken ++ l) (its.took_none no) ∙ (append-nil v.taken ∙ ok.took g))
                  (λ (g : v.role ≡ false). ap (λ (l : List Signal). l ++ w.taken) (ok.took_none g)
                  ∙ its.took (sym (ap (λ (z : Bool). if z then true else w.role) g) ∙ h)) (bool_cases v.role);
              took_none = λ h. let no = or_neither v.role w.role (if_or v.role w.role ∙ h) in
                  ap (λ (l : List Signal). l ++ w.taken) (ok.took_none no.0) ∙ its.took_none no.1;
              based = λ f. not_both v.fetching f no_fetch;
            })
            (λ k d not_i at not_j. let other = law.each k d at in record {
              known = other.known;
              owns = λ s h. stays (q.owner s) (λ e. not_j (sym (other.owns s h) ∙ e)) ∙ other.owns s h;
              reads = λ h. stays q.reader (λ e. not_j (sym (other.reads h) ∙ e)) ∙ other.reads h;
              own = other.own;
              only = other.only;
              told = other.told;
              took = other.took;
              took_none = other.took_none;
              based = other.based;
            }) k d at' not_j);
      }

module _ (z : Setup) where
  lists_opened : Lists (opened_with z)
  lists_opened = record {
    each = λ i v at. one_seat (SeatLists (opened_with z)) (first_seat z.senders) (record {
      known = λ s h. h;
      owns = λ s h. refl;
      reads = λ h. refl;
      own = λ s h. refl;
      only = λ s h. refl;
      told = tt;
      took = λ h. refl;
      took_none = λ h. refl;
      based = λ h. not_both false h refl;
    }) i v at;
    strange = λ s h. refl;
  }

  pub lists : (q : QState) → Reached z q → Lists q
  lists _ opened = lists_opened
  lists _ (by_take_outer q i v can r) = let l = lists q r in lists_set q l i v can.at (holding v q.outer) (l.each i v can.at)
  lists _ (by_refuse_outer q i v can r) = let l = lists q r in lists_set q l i v can.at (turned_away v q.turn) (l.each i v can.at)
  lists _ (by_put q i v o x can r) = lists_put q (lists q r) i v can.at (after_put v (added o x (refused q i v) v.switched))
      (record { signal = x; via = via.Outer }) can.from refl refl
      (ap (λ (l : List Signal). v.put ++ put_by via.Outer l) (gained v o x can.held)) refl refl can.fetching
  lists _ (by_leave q i v o can r) = let l = lists q r in lists_set q l i v can.at (after_same v) (unfetched q l i v can.at)
  lists _ (by_take_bits q i v o can r) = lists_bits q (lists q r) i v can.at (agrees z q r) o can.begins.held
  lists _ (by_fetch q i v o can r) = lists_fetch q (lists q r) i v can.at o can
  lists _ (by_mode_on q i v o can r) = let l = lists q r in lists_set q l i v can.at (switched_on v) (l.each i v can.at)
  lists _ (by_mode_off q i v o can r) = let l = lists q r in lists_set q l i v can.at (switched_off v) (l.each i v can.at)
  lists _ (by_remove q i v o can r) = let l = lists q r in lists_set q l i v can.at (after_remove v) (l.each i v can.at)
  lists _ (by_load_mode q i v can r) = let l = lists q r in lists_set q l i v can.at (saw v q.mode) (l.each i v can.at)
  lists _ (by_load_filled q i v at r) = let l = lists q r in lists_set q l i v at (counted v q.filled) (l.each i v at)
  lists _ (by_take_buffer q i v c can r) = let l = lists q r in
      lists_set q l i v can.at (gains v c (q.cells c).list) (l.each i v can.at)
  lists _ (by_refuse_buffer q i v c can r) = let l = lists q r in
      lists_set q l i v can.at (turned_away_at v (c + 3) (q.cells c).word) (l.each i v can.at)
  lists _ (by_set_back q i v c o can r) = let l = lists q r in lists_set q l i v can.at (given_back v c) (l.each i v can.at)
  lists _ (by_load_under q i v p can r) = let l = lists q r in lists_set q l i v can.at (saw_under v p q.mode) (l.each i v can.at)
  lists _ (by_set_bit q i v p can r) = let l = lists q r in lists_set q l i v can.at (marked v p) (l.each i v can.at)
  lists _ (by_put_to_buffer q i v p x can r) = lists_put q (lists q r) i v can.at (put_to_buffer v (p.list ++ x ∷ [])) (record {
    signal = x;
    via = via.Buffer p.number;
  }) can.from refl refl (put_there v p [] x can.one) refl refl
      (((agrees z q r).each i v can.at).rest can.idle).0
  lists _ (by_leave_buffer q i v p ps can r) = let l = lists q r in lists_set q l i v can.at (loses v) (l.each i v can.at)
  lists _ (by_take_part q i v p ps o can r) = let l = lists q r in lists_set q l i v can.at (took_part v o p) (l.each i v can.at)
  lists _ (by_pass q i v p ps o can r) = let l = lists q r in lists_set q l i v can.at (passed v o p) (l.each i v can.at)
  lists _ (by_split q i v given role can r) = lists_split q (lists q r) i v given role can
      (((agrees z q r).each i v can.at).rest can.idle.held).0
  lists _ (by_note q i v at r) = lists_note q (lists q r) i v at
  lists _ (by_join q i v j w can r) = lists_join q (lists q r) i v j w can (((agrees z q r).each i v can.at).rest can.idle.held).0
