-- Lists of held buffers, their slots and their bits.
use Rattle.std.proofs.Common.{◌≡◌, ◌⊎◌, ℕ, zero, suc, ◌+◌, ◌-◌, ◌<◌, ◌≤◌, ◌&&◌, subst, Bool, true, false, not, if◌then◌else◌, List, [], ◌∷◌, ◌++◌, length, take, drop, get_or, set, get_or-set_other, sym, refl, ap, ◌∙◌, arith, append-nil, append_assoc, inl, inr, ⊎_elim, Option, Some, None}
use Rattle.std.proofs.Math.Seq.{drop-cons}
use Rattle.std.proofs.lemmas.List.{length-append, take_more}
use Rattle.std.proofs.lemmas.List.Elements.{All-nil, All-cons, All-append}
use Rattle.std.specs.Prelude.{IfSome}
use mathlib.Core.Logic.{dite}
use native.Mathlib.Decide.{ℕ_discrete}
use Rattle.atomic_table.specs.Table.{rest, turned}
use Rattle.sig_kinds.specs.declared.signal.Signal.{Signal}
use Rattle.sig_layout.specs.declared.outer.Outer.{Outer}
use Rattle.sig_layout.specs.Outers.{behind}
use Rattle.sig_queue.specs.declared.slot.Slot.{Slot}
use Rattle.sig_queue.specs.declared.slot.Slot.TheVariants as slot
use Rattle.sig_layout.specs.declared.held_buffer.HeldBuffer.{HeldBuffer}
use Rattle.sig_layout.specs.declared.knows.Knows.{Knows}
use Rattle.sig_layout.specs.Views.{filled_at, with_bit, flag, flags_of, tail, part, with_bits, gains, turned_away_at, given_back, took_part, loses}
use Rattle.sig_layout.specs.Core.{put}
use Rattle.sig_layout.specs.Agree.{Apart}
use Rattle.sig_layout.proofs.Putting.{put_here, put_else, get_table}
use Rattle.sig_layout.proofs.Sending.{not_both}
use Rattle.sig_layout.proofs.Lawful.{bit_now, bit_else, no_bit}
use Rattle.sig_queue.specs.declared.fetch_find.Caught.{Caught}
use Rattle.sig_queue.specs.Tied.{Held, Foreign}
use Rattle.sig_queue.specs.Parts.{first_part, held_or, IsFirst, OfBuffer}
use Rattle.sig_queue.specs.Fetching.{picked, same_number, numbers, all_of, slots_of, outer_out, each_try, EachOwn, kept_of, Finding, Standing, Emptying, Leaving}
use Rattle.sig_queue.proofs.Offering.{foreign_as}

module _ {X : Type 0} where
  pub picked_yes : (f : ℕ → X) (p : ℕ → Bool) (k n : ℕ) → p (k + n) ≡ true → picked f p k (suc n) ≡ picked f p k n ++ f (k + n) ∷ []
  unfolding picked
  picked_yes f p k zero h = let e : k + 0 ≡ k = omega arith in ap (λ (b : Bool). if b then f k ∷ [] else []) (ap p (sym e) ∙ h) ∙ ap (λ (z : ℕ). f z ∷ []) (sym e)
  picked_yes f p k (suc n) h = let e : k + suc n ≡ suc k + n = omega arith in let r = picked_yes f p (suc k) n (ap p (sym e) ∙ h) ∙ ap (λ (z : ℕ). picked f p (suc k) n ++ f z ∷ []) (sym e) in
      elim (p k) as (λ b. (if b then f k ∷ picked f p (suc k) (suc n) else picked f p (suc k) (suc n)) ≡ (if b then f k ∷ picked f p (suc k) n else picked f p (suc k) n) ++ f (k + suc n) ∷ [])
      [ true ↦ ap (λ (l : List X). f k ∷ l) r | false ↦ r ]

  pub picked_no : (f : ℕ → X) (p : ℕ → Bool) (k n : ℕ) → p (k + n) ≡ false → picked f p k (suc n) ≡ picked f p k n
  unfolding picked
  picked_no f p k zero h = let e : k + 0 ≡ k = omega arith in ap (λ (b : Bool). if b then f k ∷ [] else []) (ap p (sym e) ∙ h)
  picked_no f p k (suc n) h = let e : k + suc n ≡ suc k + n = omega arith in let r = picked_no f p (suc k) n (ap p (sym e) ∙ h) in
      elim (p k) as (λ b. (if b then f k ∷ picked f p (suc k) (suc n) else picked f p (suc k) (suc n)) ≡ (if b then f k ∷ picked f p (suc k) n else picked f p (suc k) n))
      [ true ↦ ap (λ (l : List X). f k ∷ l) r | false ↦ r ]

  pub picked_same : (f g : ℕ → X) (p q : ℕ → Bool) (k n : ℕ) → ((c : ℕ) → c < k + n → f c ≡ g c) → ((c : ℕ) → c < k + n → p c ≡ q c) → picked f p k n ≡ picked g q k n
  unfolding picked
  picked_same f g p q k zero e h = refl
  picked_same f g p q k (suc n) e h = let r = picked_same f g p q (suc k) n (λ c l. e c (omega arith)) (λ c l. h c (omega arith)) in
      ap (λ (b : Bool). if b then f k ∷ picked f p (suc k) n else picked f p (suc k) n) (h k (omega arith))
      ∙ (ap (λ (l : List X). if q k then f k ∷ l else l) r ∙ ap (λ (x : X). if q k then x ∷ picked g q (suc k) n else picked g q (suc k) n) (e k (omega arith)))

  pub picked_first : (f : ℕ → X) (p : ℕ → Bool) (k n : ℕ) → p k ≡ true → picked f p k (suc n) ≡ f k ∷ picked f p (suc k) n
  unfolding picked
  picked_first f p k n h = ap (λ (b : Bool). if b then f k ∷ picked f p (suc k) n else picked f p (suc k) n) h

  pub picked_rest : (f : ℕ → X) (p : ℕ → Bool) (k n : ℕ) → p k ≡ false → picked f p k (suc n) ≡ picked f p (suc k) n
  unfolding picked
  picked_rest f p k n h = ap (λ (b : Bool). if b then f k ∷ picked f p (suc k) n else picked f p (suc k) n) h

  pub picked_none : (f : ℕ → X) (p : ℕ → Bool) (k : ℕ) → picked f p k 0 ≡ []
  unfolding picked
  picked_none f p k = refl

  pub picked_few : (f : ℕ → X) (p : ℕ → Bool) (k n : ℕ) → length (picked f p k n) ≤ n
  unfolding picked
  picked_few f p k zero = omega arith
  picked_few f p k (suc n) = let r = picked_few f p (suc k) n in elim (p k) as (λ b. length (if b then f k ∷ picked f p (suc k) n else picked f p (suc k) n) ≤ suc n) [ true ↦ omega arith | false ↦ omega arith ]

abbrev Below : ℕ → List ℕ → Type 0
Below b [] = Unit {0}
Below b (x ∷ xs) = (x < b) × Below b xs

picked_below : (p : ℕ → Bool) (k n b : ℕ) → k + n ≤ b → Below b (picked same_number p k n)
unfolding picked
picked_below p k zero b h = tt
picked_below p k (suc n) b h = let r = picked_below p (suc k) n b (omega arith) in elim (p k) as (λ c. Below b (if c then k ∷ picked same_number p (suc k) n else picked same_number p (suc k) n)) [ true ↦ (omega arith, r) | false ↦ r ]

apart_below : (ps : List HeldBuffer) (b c : ℕ) → b ≤ c → Below b (numbers ps) → Apart c ps
apart_below [] b c h l = tt
apart_below (p ∷ ps) b c h l = let x = l.0 in ((λ e. omega arith), apart_below ps b c h l.1)

numbers_more : (ps : List HeldBuffer) (p : HeldBuffer) → numbers (ps ++ p ∷ []) ≡ numbers ps ++ p.number ∷ []
numbers_more [] p = refl
numbers_more (q ∷ ps) p = ap (λ (l : List ℕ). q.number ∷ l) (numbers_more ps p)

numbers_length : (ps : List HeldBuffer) → length (numbers ps) ≡ length ps
numbers_length [] = refl
numbers_length (p ∷ ps) = ap suc (numbers_length ps)

slots_more : (ps : List HeldBuffer) (p : HeldBuffer) → slots_of (ps ++ p ∷ []) ≡ (p.number + 1, slot.List p.list) ∷ slots_of ps
slots_more [] p = refl
slots_more (q ∷ ps) p = ap (λ (l : List (ℕ × Slot)). l ++ (q.number + 1, slot.List q.list) ∷ []) (slots_more ps p)

pub slots_length : (ps : List HeldBuffer) → length (slots_of ps) ≡ length ps
slots_length [] = refl
slots_length (p ∷ ps) = length-append (slots_of ps) ((p.number + 1, slot.List p.list) ∷ []) ∙ (let e = slots_length ps in omega arith)

all_more : (ps : List HeldBuffer) (p : HeldBuffer) → length (all_of (ps ++ p ∷ [])) ≡ length (all_of ps) + length p.list
all_more [] p = let e = ap length (append-nil p.list) in omega arith
all_more (q ∷ ps) p = length-append q.list (all_of (ps ++ p ∷ [])) ∙ (let e = all_more ps p in let f = length-append q.list (all_of ps) in omega arith)

drop_whole : {X : Type 0} (xs ys : List X) → drop (length xs) (xs ++ ys) ≡ ys
drop_whole [] ys = refl
drop_whole (x ∷ xs) ys = drop_whole xs ys

take_whole : {X : Type 0} (xs ys : List X) → take (length xs) (xs ++ ys) ≡ xs
take_whole [] ys = refl
take_whole {X = X} (x ∷ xs) ys = ap (λ (z : List X). x ∷ z) (take_whole xs ys)

-- so many turns bring what stands behind them to the front
pub rounds : {X : Type 0} (xs ys zs : List X) (n : ℕ) → zs ≡ xs ++ ys → n ≡ length xs → drop n zs ++ take n zs ≡ ys ++ xs
rounds {X = X} xs ys zs n is len = ap (λ (z : List X). drop n z ++ take n z) is ∙ (ap (λ (k : ℕ). drop k (xs ++ ys) ++ take k (xs ++ ys)) len
    ∙ (ap (λ (z : List X). z ++ take (length xs) (xs ++ ys)) (drop_whole xs ys) ∙ ap (λ (z : List X). ys ++ z) (take_whole xs ys)))

-- the flags of the bits
pub flag_of_bits : (n c : ℕ) → c < 64 → flag (flags_of n) c ≡ filled_at n c
flag_of_bits n c h = get_table 0 64 c (filled_at n) false h ∙ ap (filled_at n) (omega arith)

pub flag_dropped : (fs : List Bool) (c : ℕ) → flag (set fs c false) c ≡ false
flag_dropped [] c = refl
flag_dropped (x ∷ xs) zero = refl
flag_dropped (x ∷ xs) (suc c) = flag_dropped xs c

-- the first buffer
pub finding_starts : (v : Knows) (n : ℕ) (me : Held) (z : Caught) → me ≡ (with_bits v n, outer_out ∷ []) → v.parts ≡ [] → z.held ≡ 0 → z.skipped ≡ 0 → z.count ≡ 0 → z.total ≡ Some 0 → Finding (with_bits v n) n 0 me z
finding_starts v n me z is no_parts none_held none_skipped none_counted no_total = let w : Knows = with_bits v n in subst (λ (m : Held). Finding w n 0 m z) (sym is) record {
  view = refl;
  slots = ap (λ (ps : List HeldBuffer). slots_of ps ++ outer_out ∷ []) (sym no_parts);
  numbers_are = ap numbers no_parts ∙ sym (picked_none same_number (filled_at z.held) 0);
  count = none_counted ∙ ap length (sym no_parts);
  to_come = λ c low _. flag_of_bits n c low;
  kept = λ c h. absurd (omega arith);
  back = sym none_skipped;
  values = λ _. 0;
  tries = sym (append-nil v.tries) ∙ ap (λ (l : List (ℕ × ℕ)). v.tries ++ l) (sym (picked_none (λ c. (c + 3, 0)) (filled_at n) 0));
  others = λ c h. not_both (filled_at z.skipped c) h (ap (λ (k : ℕ). filled_at k c) none_skipped ∙ no_bit c);
  free = λ c _. refl;
  none_held = λ c _. ap (λ (k : ℕ). filled_at k c) none_held ∙ no_bit c;
  none_skipped = λ c _. ap (λ (k : ℕ). filled_at k c) none_skipped ∙ no_bit c;
  total = subst (λ (t : Option ℕ). IfSome t (λ t. t ≡ length (all_of v.parts))) (sym no_total) (ap (λ (ps : List HeldBuffer). length (all_of ps)) (sym no_parts));
  own = subst EachOwn (sym no_parts) (All-nil (λ (p : HeldBuffer). OfBuffer p.number p.list));
  parted = λ c h. absurd (omega arith);
  had = λ c h. not_both (filled_at z.skipped c) h (ap (λ (k : ℕ). filled_at k c) none_skipped ∙ no_bit c);
}

module _ (v : Knows) (n k : ℕ) (me : Held) (z : Caught) (f : Finding v n k me z) (low : k < 64) where
  below_next : (c : ℕ) → c < k + 1 → (c < k) ⊎ (c ≡ k)
  below_next c h = dite (ℕ_discrete c k) (λ e. inr e) (λ e. inl (omega arith))

  pub finding_apart : Apart k me.0.parts
  finding_apart = apart_below me.0.parts k k (omega arith) (subst (Below k) (sym f.numbers_are) (picked_below (filled_at z.held) 0 k k (omega arith)))

  pub finding_few : z.count ≤ k
  finding_few = let e = numbers_length me.0.parts in let g = ap length f.numbers_are in let h = picked_few same_number (filled_at z.held) 0 k in let c = f.count in omega arith

  next_is : 0 + k ≡ k
  next_is = omega arith

  one_more : suc k ≡ k + 1
  one_more = omega arith

  -- a buffer that has no bit is passed by
  pub finding_past : filled_at n k ≡ false → Finding v n (k + 1) me z
  finding_past none = record {
    view = f.view;
    slots = f.slots;
    numbers_are = f.numbers_are ∙ (sym (picked_no same_number (filled_at z.held) 0 k (ap (filled_at z.held) next_is ∙ f.none_held k (omega arith))) ∙ ap (picked same_number (filled_at z.held) 0) one_more);
    count = f.count;
    to_come = λ c l h. f.to_come c l (omega arith);
    kept = λ c h. ⊎_elim (λ (l : c < k). f.kept c l) (λ (e : c ≡ k). subst (λ (d : ℕ). flag me.0.mask d ≡ filled_at z.held d) (sym e) (f.to_come k low (omega arith) ∙ (none ∙ sym (f.none_held k (omega arith))))) (below_next c h);
    back = f.back;
    values = f.values;
    tries = f.tries ∙ ap (λ (l : List (ℕ × ℕ)). v.tries ++ l) (sym (picked_no (λ c. (c + 3, f.values c)) (filled_at n) 0 k (ap (filled_at n) next_is ∙ none)) ∙ ap (each_try f.values n) one_more);
    others = f.others;
    free = f.free;
    none_held = λ c h. f.none_held c (omega arith);
    none_skipped = λ c h. f.none_skipped c (omega arith);
    total = f.total;
    own = f.own;
    parted = λ c h. ⊎_elim (λ (l : c < k). f.parted c l)
        (λ (e : c ≡ k). subst (λ (d : ℕ). filled_at z.held d ≡ kept_of n z.skipped d) (sym e) (f.none_held k (omega arith) ∙ ap (λ (b : Bool). b && not (filled_at z.skipped k)) (sym none))) (below_next c h);
    had = f.had;
  }

  bit_on : (m : ℕ) → (c : ℕ) → c < k → filled_at (with_bit m k) c ≡ filled_at m c
  bit_on m c h = bit_else m k c low (λ e. omega arith)

  -- one try more, of a buffer that has its bit
  tries_next : (x : ℕ) (values : ℕ → ℕ) → filled_at n k ≡ true → values k ≡ x → ((c : ℕ) → c < k → f.values c ≡ values c) → me.0.tries ++ (k + 3, x) ∷ [] ≡ v.tries ++ each_try values n (k + 1)
  tries_next x values bit is same =
      ap (λ (r : List (ℕ × ℕ)). r ++ (k + 3, x) ∷ []) (f.tries ∙ ap (λ (r : List (ℕ × ℕ)). v.tries ++ r) (picked_same (λ c. (c + 3, f.values c)) (λ c. (c + 3, values c)) (filled_at n) (filled_at n) 0 k
      (λ c h. ap (λ (y : ℕ). let r : ℕ × ℕ = (c + 3, y) in r) (same c (omega (arith, h)))) (λ c h. refl)))
      ∙ (append_assoc v.tries (each_try values n k) ((k + 3, x) ∷ []) ∙ ap (λ (r : List (ℕ × ℕ)). v.tries ++ r)
      (ap (λ (y : ℕ × ℕ). each_try values n k ++ y ∷ []) (λ j. (k + 3, sym is j)) ∙ (ap (λ (c : ℕ). each_try values n k ++ (c + 3, values c) ∷ []) (sym next_is)
      ∙ (sym (picked_yes (λ c. (c + 3, values c)) (filled_at n) 0 k (ap (filled_at n) next_is ∙ bit)) ∙ ap (each_try values n) one_more))))

  -- its turn was free, and is held now
  pub finding_held : (l : List Signal) (me' : Held) (z' : Caught) → filled_at n k ≡ true → me' ≡ (gains me.0 k l, (k + 1, slot.List l) ∷ me.1) → z'.held ≡ with_bit z.held k → z'.skipped ≡ z.skipped → z'.count ≡ z.count + 1
      → IfSome z'.total (λ t. t ≡ length (all_of me.0.parts) + length l) → OfBuffer k l → Finding v n (k + 1) me' z'
  finding_held l me' z' bit is held skipped count total my_word = let ps : List HeldBuffer = me.0.parts ++ part k l ∷ [] in let held' : ℕ = with_bit z.held k in
      subst (λ (m : Held). Finding v n (k + 1) m z') (sym is) record {
        view = ap (λ (w : Knows). record w { parts = ps; tries = me.0.tries ++ (k + 3, 0) ∷ [] }) f.view;
        slots = ap (λ (s : List (ℕ × Slot)). (k + 1, slot.List l) ∷ s) f.slots ∙ ap (λ (s : List (ℕ × Slot)). s ++ outer_out ∷ []) (sym (slots_more me.0.parts (part k l)));
        numbers_are = numbers_more me.0.parts (part k l) ∙ (ap (λ (xs : List ℕ). xs ++ k ∷ []) (f.numbers_are ∙ picked_same same_number same_number (filled_at z.held) (filled_at held') 0 k (λ c _. refl) (λ c h. sym (bit_on z.held c (omega arith))))
            ∙ (ap (λ (c : ℕ). picked same_number (filled_at held') 0 k ++ c ∷ []) (sym next_is) ∙ (sym (picked_yes same_number (filled_at held') 0 k (ap (filled_at held') next_is ∙ bit_now z.held k low))
            ∙ (ap (picked same_number (filled_at held') 0) one_more ∙ ap (λ (m : ℕ). picked same_number (filled_at m) 0 (k + 1)) (sym held)))));
        count = let e = length-append me.0.parts (part k l ∷ []) in let c = f.count in omega arith;
        to_come = λ c low' h. f.to_come c low' (omega arith);
        kept = λ c h. ⊎_elim (λ (b : c < k). f.kept c b ∙ (sym (bit_on z.held c b) ∙ ap (λ (m : ℕ). filled_at m c) (sym held)))
            (λ (e : c ≡ k). subst (λ (d : ℕ). flag me.0.mask d ≡ filled_at z'.held d) (sym e) (f.to_come k low (omega arith) ∙ (bit ∙ (sym (bit_now z.held k low) ∙ ap (λ (m : ℕ). filled_at m k) (sym held))))) (below_next c h);
        back = f.back ∙ sym skipped;
        values = f.values;
        tries = tries_next 0 f.values bit (f.free k (f.none_skipped k (omega arith))) (λ c _. refl);
        others = λ c h. f.others c (ap (λ (m : ℕ). filled_at m c) (sym skipped) ∙ h);
        free = λ c h. f.free c (ap (λ (m : ℕ). filled_at m c) (sym skipped) ∙ h);
        none_held = λ c h. ap (λ (m : ℕ). filled_at m c) held ∙ (bit_else z.held k c low (λ e. omega arith) ∙ f.none_held c (omega arith));
        none_skipped = λ c h. ap (λ (m : ℕ). filled_at m c) skipped ∙ f.none_skipped c (omega arith);
        total = subst (λ (t : ℕ). IfSome z'.total (λ s. s ≡ t)) (sym (all_more me.0.parts (part k l))) total;
        own = All-append (λ (p : HeldBuffer). OfBuffer p.number p.list) me.0.parts (part k l ∷ []) f.own (All-cons (λ (p : HeldBuffer). OfBuffer p.number p.list) (part k l) [] my_word (All-nil (λ (p : HeldBuffer). OfBuffer p.number p.list)));
        parted = λ c h. ⊎_elim (λ (b : c < k). ap (λ (m : ℕ). filled_at m c) held ∙ (bit_on z.held c b ∙ (f.parted c b ∙ ap (λ (m : ℕ). kept_of n m c) (sym skipped))))
            (λ (e : c ≡ k). subst (λ (d : ℕ). filled_at z'.held d ≡ kept_of n z'.skipped d) (sym e)
            (ap (λ (m : ℕ). filled_at m k) held ∙ (bit_now z.held k low ∙ sym (λ i. bit i && not ((ap (λ (m : ℕ). filled_at m k) skipped ∙ f.none_skipped k (omega arith)) i))))) (below_next c h);
        had = λ c h. f.had c (ap (λ (m : ℕ). filled_at m c) (sym skipped) ∙ h);
      }

  -- its turn is another's, and its bit is set again
  pub finding_skipped : (x : ℕ) (me' : Held) (z' : Caught) → me' ≡ (given_back (turned_away_at me.0 (k + 3) x) k, me.1) → Foreign me.0 x → v.saw_off ≡ false → z'.held ≡ z.held → z'.skipped ≡ with_bit z.skipped k → z'.count ≡ z.count → z'.total ≡ z.total → filled_at n k ≡ true → Finding v n (k + 1) me' z'
  finding_skipped x me' z' is other blind held skipped count total bit = let skipped' : ℕ = with_bit z.skipped k in let values' : ℕ → ℕ = put f.values k x in
      subst (λ (m : Held). Finding v n (k + 1) m z') (sym is) record {
        view = ap (λ (w : Knows). given_back (turned_away_at w (k + 3) x) k) f.view ∙ (λ j. record v { parts = me.0.parts; mask = set me.0.mask k false; back = with_bit me.0.back k; tries = me.0.tries ++ (k + 3, x) ∷ []; saw_off = sym blind j });
        slots = f.slots;
        numbers_are = f.numbers_are ∙ (sym (picked_no same_number (filled_at z.held) 0 k (ap (filled_at z.held) next_is ∙ f.none_held k (omega arith))) ∙ (ap (picked same_number (filled_at z.held) 0) one_more ∙ ap (λ (m : ℕ). picked same_number (filled_at m) 0 (k + 1)) (sym held)));
        count = count ∙ f.count;
        to_come = λ c low' h. get_or-set_other me.0.mask k c false false (λ e. omega arith) ∙ f.to_come c low' (omega arith);
        kept = λ c h. ⊎_elim (λ (b : c < k). get_or-set_other me.0.mask k c false false (λ e. omega arith) ∙ (f.kept c b ∙ ap (λ (m : ℕ). filled_at m c) (sym held)))
            (λ (e : c ≡ k). subst (λ (d : ℕ). flag (set me.0.mask k false) d ≡ filled_at z'.held d) (sym e) (flag_dropped me.0.mask k ∙ (sym (f.none_held k (omega arith)) ∙ ap (λ (m : ℕ). filled_at m k) (sym held)))) (below_next c h);
        back = ap (λ (n : ℕ). with_bit n k) f.back ∙ sym skipped;
        values = values';
        tries = tries_next x values' bit (put_here f.values k x) (λ c h. sym (put_else f.values k c x (λ e. omega arith)));
        others = λ c h. dite (ℕ_discrete c k)
            (λ e. subst (Foreign v) (sym (ap values' e ∙ put_here f.values k x)) (foreign_as me.0 v x (sym (ap (λ (w : Knows). w.senders) f.view)) (sym (ap (λ (w : Knows). w.role) f.view)) other))
            (λ e. subst (Foreign v) (sym (put_else f.values k c x e)) (f.others c (sym (bit_else z.skipped k c low e) ∙ (ap (λ (m : ℕ). filled_at m c) (sym skipped) ∙ h))));
        free = λ c h. dite (ℕ_discrete c k)
            (λ e. not_both (filled_at z'.skipped c) (ap (λ (m : ℕ). filled_at m c) skipped ∙ (ap (filled_at skipped') e ∙ bit_now z.skipped k low)) h)
            (λ e. put_else f.values k c x e ∙ f.free c (sym (bit_else z.skipped k c low e) ∙ (ap (λ (m : ℕ). filled_at m c) (sym skipped) ∙ h)));
        none_held = λ c h. ap (λ (m : ℕ). filled_at m c) held ∙ f.none_held c (omega arith);
        none_skipped = λ c h. ap (λ (m : ℕ). filled_at m c) skipped ∙ (bit_else z.skipped k c low (λ e. omega arith) ∙ f.none_skipped c (omega arith));
        total = subst (λ (t : Option ℕ). IfSome t (λ s. s ≡ length (all_of me.0.parts))) (sym total) f.total;
        own = f.own;
        parted = λ c h. ⊎_elim (λ (b : c < k). ap (λ (m : ℕ). filled_at m c) held ∙ (f.parted c b ∙ ap (λ (d : Bool). filled_at n c && not d) (sym (bit_on z.skipped c b) ∙ ap (λ (m : ℕ). filled_at m c) (sym skipped))))
            (λ (e : c ≡ k). subst (λ (d : ℕ). filled_at z'.held d ≡ kept_of n z'.skipped d) (sym e)
            (ap (λ (m : ℕ). filled_at m k) held ∙ (f.none_held k (omega arith) ∙ sym (λ i. bit i && not ((ap (λ (m : ℕ). filled_at m k) skipped ∙ bit_now z.skipped k low) i))))) (below_next c h);
        had = λ c h. dite (ℕ_discrete c k) (λ e. ap (filled_at n) e ∙ bit) (λ e. f.had c (sym (bit_else z.skipped k c low e) ∙ (ap (λ (m : ℕ). filled_at m c) (sym skipped) ∙ h)));
      }

-- one turn further round
pub turn_on : (xs : List (ℕ × Slot)) (j : ℕ) → j < length xs → turned (drop j xs ++ take j xs) ≡ drop (j + 1) xs ++ take (j + 1) xs
turn_on xs j h = let x : ℕ × Slot = get_or xs j outer_out in let next : suc j ≡ j + 1 = omega arith in
    ap (λ (z : List (ℕ × Slot)). turned (z ++ take j xs)) (drop-cons xs j outer_out h)
    ∙ (append_assoc (drop (suc j) xs) (take j xs) (x ∷ []) ∙ (ap (λ (z : List (ℕ × Slot)). drop (suc j) xs ++ z) (sym (take_more xs j outer_out h)) ∙ ap (λ (n : ℕ). drop n xs ++ take (j + 1) xs) next))

-- what the first of the slots is
abbrev front : List (ℕ × Slot) → List Signal
front [] = []
front (x ∷ xs) = Rattle.sig_queue.specs.Tied.list_or x.1

pub same_front : (k : ℕ) (a b : List Signal) (xs ys zs : List (ℕ × Slot)) → zs ≡ (k, slot.List a) ∷ xs → zs ≡ (k, slot.List b) ∷ ys → a ≡ b
same_front k a b xs ys zs e g = ap front (sym e ∙ g)

pub total_more : (total result : Option ℕ) (n before : ℕ) → IfSome result (λ t. (u : ℕ) × (total ≡ Some u) × (t ≡ u + n)) → IfSome total (λ t. t ≡ before) → IfSome result (λ t. t ≡ before + n)
total_more total None n before h k = tt
total_more total (Some t) n before h k = let u : h.0 ≡ before = subst (λ (z : Option ℕ). IfSome z (λ t. t ≡ before)) h.1 k in let g = h.2 in omega arith

front_parts : (ps : List HeldBuffer) (k : ℕ) (xs : List ℕ) → numbers ps ≡ k ∷ xs → (ps ≡ first_part ps ∷ tail ps) × ((first_part ps).number ≡ k) × (numbers (tail ps) ≡ xs)
front_parts [] k xs e = absurd cc
front_parts (p ∷ ps) k xs e = (refl, (let a : p.number ≡ k = cc in a), (let b : numbers ps ≡ xs = cc in b))

no_parts : (ps : List HeldBuffer) → numbers ps ≡ [] → ps ≡ []
no_parts [] e = refl
no_parts (p ∷ ps) e = absurd cc

-- the buffer that is to be left next
pub record Front (k : ℕ) (me : Held) (count : ℕ) : Type 0 where
  pub first : IsFirst me.0.parts k
  pub counted : count ≡ suc (length (tail me.0.parts))
  pub round : drop count me.1 ++ take count me.1 ≡ (k + 1, slot.List (first_part me.0.parts).list) ∷ outer_out ∷ slots_of (tail me.0.parts)
  pub within : count < length me.1

module _ (held k : ℕ) (me : Held) (count : ℕ) (s : Standing held k me count) (low : k < 64) where
  next_k : suc k ≡ k + 1
  next_k = omega arith

  front_numbers : filled_at held k ≡ true → numbers me.0.parts ≡ k ∷ picked same_number (filled_at held) (suc k) (63 - k)
  front_numbers bit = s.numbers_are (suc (63 - k)) (omega arith) ∙ picked_first same_number (filled_at held) k (63 - k) bit

  pub front_of : filled_at held k ≡ true → Front k me count
  front_of bit = let f = front_parts me.0.parts k (picked same_number (filled_at held) (suc k) (63 - k)) (front_numbers bit) in let p : HeldBuffer = first_part me.0.parts in let ps : List HeldBuffer = tail me.0.parts in
      let long : length me.0.parts ≡ suc (length ps) = ap length f.0 in let c = s.counted in
      let slots : me.1 ≡ (outer_out ∷ slots_of ps) ++ (p.number + 1, slot.List p.list) ∷ [] = s.slots ∙ ap (λ (z : List HeldBuffer). outer_out ∷ slots_of z) f.0 in let size = slots_length ps in record {
        first = (f.0, f.1);
        counted = omega arith;
        round = rounds (outer_out ∷ slots_of ps) ((p.number + 1, slot.List p.list) ∷ []) me.1 count slots (omega arith) ∙ ap (λ (n : ℕ). (n + 1, slot.List p.list) ∷ outer_out ∷ slots_of ps) f.1;
        within = let e = ap length s.slots in let g = slots_length me.0.parts in omega arith;
      }

  pub standing_next : (me' : Held) → filled_at held k ≡ true → me'.0.parts ≡ tail me.0.parts → me'.0.mask ≡ set me.0.mask k false → me'.1 ≡ outer_out ∷ slots_of (tail me.0.parts) → Standing held (k + 1) me' (count - 1)
  standing_next me' bit parts mask slots = let f = front_parts me.0.parts k (picked same_number (filled_at held) (suc k) (63 - k)) (front_numbers bit) in let g = front_of bit in record {
    slots = slots ∙ ap (λ (z : List HeldBuffer). outer_out ∷ slots_of z) (sym parts);
    numbers_are = λ m e. let n : 63 - k ≡ m = omega arith in ap numbers parts ∙ (f.2 ∙ (ap (picked same_number (filled_at held) (suc k)) n ∙ ap (λ (c : ℕ). picked same_number (filled_at held) c m) next_k));
    counted = let c = g.counted in let e = ap length parts in omega arith;
    masks = λ c l h. ap (λ (fs : List Bool). flag fs c) mask ∙ (get_or-set_other me.0.mask k c false false (λ e. omega arith) ∙ s.masks c l (omega arith));
    dropped = λ c h. ap (λ (fs : List Bool). flag fs c) mask ∙ dite (ℕ_discrete c k) (λ e. ap (λ (z : ℕ). flag (set me.0.mask k false) z) e ∙ flag_dropped me.0.mask k) (λ n. get_or-set_other me.0.mask k c false false n ∙ s.dropped c (omega arith));
  }

  pub standing_past : filled_at held k ≡ false → Standing held (k + 1) me count
  standing_past none = record {
    slots = s.slots;
    numbers_are = λ m e. s.numbers_are (suc m) (omega arith) ∙ (picked_rest same_number (filled_at held) k m none ∙ ap (λ (c : ℕ). picked same_number (filled_at held) c m) next_k);
    counted = s.counted;
    masks = λ c l h. s.masks c l (omega arith);
    dropped = λ c h. dite (ℕ_discrete c k) (λ e. ap (flag me.0.mask) e ∙ (s.masks k low (omega arith) ∙ none)) (λ n. s.dropped c (omega arith));
  }

pub standing_starts : (v : Knows) (n : ℕ) (me me' : Held) (z : Caught) → Finding v n 64 me z → me'.0 ≡ me.0 → me'.1 ≡ drop z.count me.1 ++ take z.count me.1 → Standing z.held 0 me' z.count
standing_starts v n me me' z f view round = let size = slots_length me.0.parts in let c = f.count in subst (λ (m : Held). Standing z.held 0 m z.count) (λ i. (sym view i, me'.1)) record {
  slots = round ∙ rounds (slots_of me.0.parts) (outer_out ∷ []) me.1 z.count f.slots (omega arith);
  numbers_are = λ m e. f.numbers_are ∙ ap (picked same_number (filled_at z.held) 0) (omega arith);
  counted = f.count;
  masks = λ c l _. f.kept c l;
  dropped = λ c h. absurd (omega arith);
}

-- the outer slot comes to the front by so many turns
pub outer_within : (v : Knows) (n : ℕ) (me : Held) (z : Caught) → Finding v n 64 me z → z.count < length me.1
outer_within v n me z f = let e = ap length f.slots in let g = length-append (slots_of me.0.parts) (outer_out ∷ []) in let s = slots_length me.0.parts in let c = f.count in omega arith

pub standing_ends : (held : ℕ) (me : Held) (count : ℕ) → Standing held 64 me count → (me.0.parts ≡ []) × (me.1 ≡ outer_out ∷ [])
standing_ends held me count s = let none = no_parts me.0.parts (s.numbers_are 0 refl ∙ picked_none same_number (filled_at held) 64) in (none, s.slots ∙ ap (λ (z : List HeldBuffer). outer_out ∷ slots_of z) none)

-- the first list comes behind the outer list
pub emptying_next : (u : Knows) (me me' : Held) (k : ℕ) → Emptying u me → IsFirst me.0.parts k → me'.0 ≡ took_part me.0 (held_or me.0.held) (first_part me.0.parts) → Emptying u me'
emptying_next u me me' k e first is = let p : HeldBuffer = first_part me.0.parts in let ps : List HeldBuffer = tail me.0.parts in let x : Knows = took_part me.0 (held_or me.0.held) p in
    let o_is : held_or me.0.held ≡ e.outer = ap held_or e.holds in
    let all : all_of me.0.parts ≡ p.list ++ all_of ps = ap all_of first.0 in
    subst (λ (w : Knows). Emptying u (w, me'.1)) (sym is) record {
      view = ap (λ (w : Knows). record w { parts = x.parts; mask = x.mask; held = x.held; moved = x.moved; emptied = x.emptied }) e.view;
      outer = behind (held_or me.0.held) p.list;
      holds = refl;
      signals = ap (λ (o : Outer). (o.signals ++ p.list) ++ all_of ps) o_is ∙ (append_assoc e.outer.signals p.list (all_of ps) ∙ (ap (λ (l : List Signal). e.outer.signals ++ l) (sym all) ∙ e.signals));
      journal = ap (λ (o : Outer). o.journal) o_is ∙ e.journal;
      moved = let g = ap length all ∙ length-append p.list (all_of ps) in let m = e.moved in omega arith;
      emptied = append_assoc me.0.emptied (p ∷ []) ps ∙ (ap (λ (z : List HeldBuffer). me.0.emptied ++ z) (sym first.0) ∙ e.emptied);
    }

pub leaving_next : (u : Knows) (me : Held) (w : Knows) (xs : List (ℕ × Slot)) (k : ℕ) → Leaving u me → w ≡ given_back (loses me.0) k → Leaving u (w, xs)
leaving_next u me w xs k e is = let x : Knows = given_back (loses me.0) k in subst (λ (w : Knows). Leaving u (w, xs)) (sym is) record { view = ap (λ (w : Knows). record w { parts = x.parts; mask = x.mask; back = x.back }) e.view }

-- after the slot of the first buffer came to the front
module _ (me m : Held) (k count : ℕ) (f : Front k me count) (is : m ≡ (me.0, drop count me.1 ++ take count me.1)) where
  pub same_seat : m.0 ≡ me.0
  same_seat = ap (λ (x : Held). x.0) is

  pub slots_now : m.1 ≡ (k + 1, slot.List (first_part me.0.parts).list) ∷ outer_out ∷ slots_of (tail me.0.parts)
  slots_now = ap (λ (x : Held). x.1) is ∙ f.round

  pub first_now : IsFirst m.0.parts k
  first_now = subst (λ (v : Knows). IsFirst v.parts k) (sym same_seat) f.first

  pub out_now : m.1 ≡ (k + 1, slot.List (first_part m.0.parts).list) ∷ rest m.1
  out_now = slots_now ∙ (λ i. (k + 1, slot.List (first_part (sym same_seat i).parts).list) ∷ sym (ap rest slots_now) i)

  pub list_found : (l : List Signal) → m.1 ≡ (k + 1, slot.List l) ∷ rest m.1 → l ≡ (first_part me.0.parts).list
  list_found l e = same_front (k + 1) l (first_part me.0.parts).list (rest m.1) (outer_out ∷ slots_of (tail me.0.parts)) m.1 e slots_now

  pub left_same_one : (m2 m3 : Held) → m2 ≡ (loses m.0, rest m.1) → m3 ≡ (given_back m2.0 k, m2.1) → m3 ≡ (given_back (loses me.0) k, outer_out ∷ slots_of (tail me.0.parts))
  left_same_one m2 m3 left back = back ∙ (ap (λ (x : Held). let w : Held = (given_back x.0 k, x.1) in w) left ∙ (λ i. (given_back (loses (same_seat i)) k, rest (slots_now i))))

  pub left_part_one : (m2 m3 m4 : Held) (l : List Signal) → m2 ≡ (m.0, (k + 1, slot.Out) ∷ rest m.1) → m3 ≡ (m2.0, (k + 1, slot.List l) ∷ rest m2.1) → m4 ≡ (took_part m3.0 (held_or m3.0.held) (first_part m3.0.parts), rest m3.1) → m4 ≡ (took_part me.0 (held_or me.0.held) (first_part me.0.parts), outer_out ∷ slots_of (tail me.0.parts))
  left_part_one m2 m3 m4 l out back left = let seat : m3.0 ≡ me.0 = ap (λ (x : Held). x.0) back ∙ (ap (λ (x : Held). x.0) out ∙ same_seat) in
      let slots : rest m3.1 ≡ outer_out ∷ slots_of (tail me.0.parts) = ap (λ (x : Held). rest x.1) back ∙ (ap (λ (x : Held). rest x.1) out ∙ ap rest slots_now) in
      left ∙ (λ i. (took_part (seat i) (held_or (seat i).held) (first_part (seat i).parts), slots i))

  pub all_parted : all_of me.0.parts ≡ (first_part me.0.parts).list ++ all_of (tail me.0.parts)
  all_parted = ap all_of f.first.0

  pub counted_one : (l : List Signal) → l ≡ (first_part me.0.parts).list → length (all_of me.0.parts) ≡ length l + length (all_of (tail me.0.parts))
  counted_one l e = ap length all_parted ∙ (length-append (first_part me.0.parts).list (all_of (tail me.0.parts)) ∙ ap (λ (z : List Signal). length z + length (all_of (tail me.0.parts))) (sym e))

  pub moved_one : (l : List Signal) (ps : List HeldBuffer) (into : List Signal) → l ≡ (first_part me.0.parts).list → ps ≡ tail me.0.parts → (into ++ l) ++ all_of ps ≡ into ++ all_of me.0.parts
  moved_one l ps into e t = append_assoc into l (all_of ps) ∙ ap (λ (z : List Signal). into ++ z) ((λ i. e i ++ all_of (t i)) ∙ sym all_parted)
