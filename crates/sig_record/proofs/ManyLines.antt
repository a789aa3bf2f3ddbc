-- Items of whole lines that stand one behind the other: where an item's line can't stand, it can't behind those before it.
use Rattle.std.proofs.Common.{◌≡◌, ℕ, zero, suc, ◌≤◌, Bool, true, false, cond, List, [], ◌∷◌, ◌++◌, length, Ok, Err, refl, sym, ap, ◌∙◌, inl, append_assoc, arith, length-append}
use Rattle.std.specs.List.{flat_map}
use Rattle.std.proofs.lemmas.List.{append-nil}
use Rattle.sig_record.specs.FaultLine.{AreWhole}
use Rattle.sig_record.specs.Readers.{Reader, many}
use Rattle.sig_record.specs.LineReaders.{Lines, lines_on, many_lines}
use Rattle.sig_record.proofs.ReaderLaws.{IsReadAs, Law, Anything}
use Rattle.sig_record.proofs.TermFronts.{if_some_at}
use Rattle.sig_record.proofs.ManyLaws.{Fits, many_law, many_none, begins_not_empty}
use Rattle.sig_record.proofs.FirstLines.{IsByFirstLine}
use Rattle.sig_record.proofs.Forgetting.{ok_of, IsSame, ok_parts, err_parts, same_ok, ok_no_err, lines_same}
use Rattle.sig_record.proofs.LinesLaws.{Passes, Stops, LinesLaw, by_cases, whole_on}

-- the test's answer, with what follows from each
split : {C : Type 0} (b : Bool) → (b ≡ true → C) → (b ≡ false → C) → C
split true f g = f refl
split false f g = g refl

by_yes : {X : Type 0} (b : Bool) (x y z : X) → b ≡ true → cond b x y ≡ z → x ≡ z
by_yes true x y z h e = e
by_yes false x y z h e = absurd cc

by_no : {X : Type 0} (b : Bool) (x y z : X) → b ≡ false → cond b x y ≡ z → y ≡ z
by_no true x y z h e = absurd cc
by_no false x y z h e = e

-- behind these items one begins that can't be read
record Walked {X : Type 0} (begins : List ℕ → Bool) (read : List X → Lines X) (text : X → List ℕ) (ok : List X → X → Type 0) (items : List X) (bytes : List ℕ) (left : ℕ) : Type 0 where
  others : List X
  rest : List ℕ
  fits : Fits ok items others
  is : bytes ≡ flat_map text others ++ rest
  begun : begins rest ≡ true
  fails : read (items ++ others) rest ≡ Err left

module _ {X : Type 0} (begins : List ℕ → Bool) (read : List X → Lines X) (front : List X → Reader X) (text : X → List ℕ) (ok : List X → X → Type 0) (Item : List X → List ℕ → Type 0) (Before : List ℕ → Type 0)
    (lines : (items : List X) → LinesLaw text (ok items) (front items) (Item items) (read items)) (laws : (items : List X) → Law Anything text (ok items) (front items))
    (none : begins [] ≡ false) (starts : (items : List X) (x : X) (rest : List ℕ) → ok items x → begins (text x ++ rest) ≡ true) (first : IsByFirstLine begins)
    (before : (xs : List X) (s : List ℕ) → Fits ok [] xs → Item xs s → Before (flat_map text xs ++ s)) where
  at_once : (items : List X) (bytes : List ℕ) (left : ℕ) → begins bytes ≡ true → read items bytes ≡ Err left → Walked begins read text ok items bytes left
  at_once items bytes left begun e = record {
    others = [];
    rest = bytes;
    fits = tt;
    is = refl;
    begun = begun;
    fails = ap (λ (ys : List X). read ys bytes) (append-nil items) ∙ e;
  }

  behind_one : (items : List X) (bytes : List ℕ) (left : ℕ) (x : X × List ℕ) → Passes (front items) text (ok items) bytes x → Walked begins read text ok (items ++ x.0 ∷ []) x.1 left → Walked begins read text ok items bytes left
  behind_one items bytes left x r w = record {
    others = x.0 ∷ w.others;
    rest = w.rest;
    fits = (r.good, w.fits);
    is = r.is ∙ ap (λ (t : List ℕ). text x.0 ++ t) w.is ∙ sym (append_assoc (text x.0) (flat_map text w.others) w.rest);
    begun = w.begun;
    fails = ap (λ (ys : List X). read ys w.rest) (sym (append_assoc items (x.0 ∷ []) w.others)) ∙ w.fails;
  }

  shorter : (items : List X) (bytes : List ℕ) (room : ℕ) (x : X × List ℕ) → Passes (front items) text (ok items) bytes x → length bytes ≤ suc room → length x.1 ≤ room
  shorter items bytes room x r le =
      let some = begins_not_empty begins (text x.0 ++ []) none (starts items x.0 [] r.good) in
      omega (arith, some, le, ap length r.is, length-append (text x.0) x.1, length-append (text x.0) [])

  walk : (room : ℕ) (items : List X) (bytes : List ℕ) (left : ℕ) → length bytes ≤ room → lines_on begins read room items bytes ≡ Err left → Walked begins read text ok items bytes left
  unfolding lines_on
  walk zero items [] left le e = absurd (ok_no_err (items, []) left (by_no (begins []) (Err 0) (Ok (items, [])) (Err left) none e))
  walk zero items (b ∷ bs) left le e = absurd (omega arith)
  walk (suc room) items bytes left le e =
      split (begins bytes)
      (λ h. by_cases (err_parts (read items bytes) (λ x. lines_on begins read room (items ++ x.0 ∷ []) x.1) left (by_yes (begins bytes) _ _ _ h e))
      (λ fails. at_once items bytes left h fails)
      (λ x. let r = (lines items).passes bytes x.0 x.1 in
      behind_one items bytes left x.0 r (walk room (items ++ x.0.0 ∷ []) x.0.1 left (shorter items bytes room x.0 r le) x.2)))
      (λ h. absurd (ok_no_err (items, bytes) left (by_no (begins bytes) _ _ _ h e)))

  -- no item begins behind those that were read
  stopped : (room : ℕ) (items : List X) (bytes : List ℕ) (y : List X × List ℕ) → lines_on begins read room items bytes ≡ Ok y → begins y.1 ≡ false
  unfolding lines_on
  stopped zero items bytes y e =
      split (begins bytes) (λ h. absurd (ok_no_err y (length bytes) (sym (by_yes (begins bytes) _ _ _ h e))))
      (λ h. ap (λ (z : List X × List ℕ). begins z.1) (sym (same_ok (items, bytes) y (by_no (begins bytes) _ _ _ h e))) ∙ h)
  stopped (suc room) items bytes y e =
      split (begins bytes)
      (λ h. let x = ok_parts (read items bytes) (λ x. lines_on begins read room (items ++ x.0 ∷ []) x.1) y (by_yes (begins bytes) _ _ _ h e) in
      stopped room (items ++ x.0.0 ∷ []) x.0.1 y x.2)
      (λ h. ap (λ (z : List X × List ℕ). begins z.1) (sym (same_ok (items, bytes) y (by_no (begins bytes) _ _ _ h e))) ∙ h)

  whole_items : (items xs : List X) → Fits ok items xs → AreWhole (flat_map text xs)
  whole_items items [] fits = inl refl
  whole_items items (x ∷ xs) fits = whole_on (text x) (flat_map text xs) ((lines items).whole x fits.0) (whole_items (items ++ x ∷ []) xs fits.1)

  same_many : IsSame (many_lines begins read) (many begins front)
  same_many bytes = lines_same begins read front (λ items. (lines items).same) (length bytes) [] bytes

  many_pass : (bytes : List ℕ) (x : List X × List ℕ) → many_lines begins read bytes ≡ Ok x → Passes (many begins front) (flat_map text) (Fits ok []) bytes x
  many_pass bytes x e =
      let law = many_law begins front text ok laws none starts in
      let r : IsReadAs (flat_map text) (Fits ok []) bytes x = if_some_at (IsReadAs (flat_map text) (Fits ok []) bytes) (many begins front bytes) x (sym (same_many bytes) ∙ ap ok_of e) (law.found bytes) in
      let stop : begins x.1 ≡ false = stopped (length bytes) [] bytes x e in
      record { good = r.0; is = r.1; again = λ line more other is. law.again x.0 (line ++ 10 ∷ other) r.0 (first line other more ∙ ap begins (sym is) ∙ stop) }

  many_stop : (bytes : List ℕ) (left : ℕ) (w : Walked begins read text ok [] bytes left) → Stops (front w.others) (Item w.others) w.rest left → Stops (many begins front) Before bytes left
  many_stop bytes left w s = record {
    before = flat_map text w.others ++ s.before;
    rest = s.rest;
    is = w.is ∙ ap (λ (t : List ℕ). flat_map text w.others ++ t) s.is ∙ sym (append_assoc (flat_map text w.others) s.before s.rest);
    count = s.count;
    whole = whole_on (flat_map text w.others) s.before (whole_items [] w.others w.fits) s.whole;
    begun = before w.others s.before w.fits s.begun;
    never = λ line more other clean is.
        let assoc : (s.before ++ line) ++ 10 ∷ more ≡ w.rest = append_assoc s.before line (10 ∷ more) ∙ ap (λ (t : List ℕ). s.before ++ t) (sym is) ∙ sym s.is in
        let starts_too : begins (s.before ++ (line ++ 10 ∷ other)) ≡ true =
        ap begins (sym (append_assoc s.before line (10 ∷ other))) ∙ first (s.before ++ line) other more ∙ ap begins assoc ∙ w.begun in
        ap (many begins front) (append_assoc (flat_map text w.others) s.before (line ++ 10 ∷ other))
        ∙ many_none begins front text ok laws none starts w.others (s.before ++ (line ++ 10 ∷ other)) w.fits starts_too (s.never line more other clean is);
  }

  pub many_lines_law : LinesLaw (flat_map text) (Fits ok []) (many begins front) Before (many_lines begins read)
  many_lines_law = record {
    same = same_many;
    whole = λ xs fits. whole_items [] xs fits;
    passes = many_pass;
    stops = λ bytes left e.
        let w = walk (length bytes) [] bytes left (omega arith) e in
        many_stop bytes left w ((lines w.others).stops w.rest left w.fails);
  }
