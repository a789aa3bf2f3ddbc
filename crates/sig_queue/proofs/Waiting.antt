-- Tries of a turn until it is free.
use Rattle.std.proofs.Common.{◌≡◌, ℕ, ◌+◌, true, not, All, List, [], ◌∷◌, ◌++◌, length, sym, ap, ◌∙◌, append_assoc, append-nil, arith}
use Rattle.std.proofs.lemmas.Bool.{ne_eqb}
use Rattle.std.proofs.lemmas.List.{map-append, length-append}
use Rattle.std.proofs.lemmas.List.Elements.{All-nil, All-push, All-weaker}
use Rattle.sig_layout.specs.declared.layout.TheConstants.{BUFFERS}
use Rattle.sig_layout.specs.declared.knows.Knows.{Knows}
use Rattle.sig_layout.specs.Core.{some_refused}
use Rattle.sig_layout.specs.Views.{turned_away}
use Rattle.sig_queue.specs.Tied.{Foreign}
use Rattle.sig_queue.specs.Removing.{refusals, until_free, WaitedFor, WaitedForOuter, OneByOne, none, next, WaitedOneByOne, WaitedForAll}
use Rattle.sig_queue.proofs.Offering.{foreign_as}

-- so far each try of the turn of this word found the number of another seat
pub record Refused (word : ℕ) (v w : Knows) : Type 0 where
  pub found : List ℕ
  pub others : All (Foreign v) found
  pub tries : w.tries ≡ v.tries ++ refusals word found

pub refused_none : (word : ℕ) (v : Knows) → Refused word v v
refused_none word v = record { found = []; others = All-nil (Foreign v); tries = sym (append-nil v.tries) }

pub refused_more : (word : ℕ) (v u w : Knows) (n : ℕ) → Refused word v u → u.senders ≡ v.senders → u.role ≡ v.role → w.tries ≡ u.tries ++ (word, n) ∷ [] → Foreign u n → Refused word v w
refused_more word v u w n r senders role e f = record {
  found = r.found ++ n ∷ [];
  others = All-push (Foreign v) r.found n r.others (foreign_as u v n (sym senders) (sym role) f);
  tries = e ∙ (ap (λ (l : List (ℕ × ℕ)). l ++ (word, n) ∷ []) r.tries ∙ (append_assoc v.tries (refusals word r.found) ((word, n) ∷ []) ∙ ap (λ (l : List (ℕ × ℕ)). v.tries ++ l) (sym (map-append (λ (k : ℕ). (word, k)) r.found (n ∷ [])))));
}

free_at : (word : ℕ) (v u w : Knows) (r : Refused word v u) → w.tries ≡ u.tries ++ (word, 0) ∷ [] → w.tries ≡ v.tries ++ until_free word r.found
free_at word v u w r e = e ∙ (ap (λ (l : List (ℕ × ℕ)). l ++ (word, 0) ∷ []) r.tries ∙ append_assoc v.tries (refusals word r.found) ((word, 0) ∷ []))

pub then_free : (word : ℕ) (v u w : Knows) → Refused word v u → w.tries ≡ u.tries ++ (word, 0) ∷ [] → WaitedFor word v w
then_free word v u w r e = record { found = r.found; others = r.others; tries = free_at word v u w r e }

-- the same of the outer turn, with the count of refusals
abbrev pub RefusedOuter : Knows → Knows → Type 0
RefusedOuter v w = (r : Refused 0 v w) × (w.refused ≡ v.refused + length r.found)

pub outer_none : (v : Knows) → RefusedOuter v v
unfolding refused_none
outer_none v = let same : v.refused ≡ v.refused + 0 = omega arith in (refused_none 0 v, same)

pub outer_more : (v u w : Knows) (n : ℕ) → RefusedOuter v u → u.senders ≡ v.senders → u.role ≡ v.role → w ≡ turned_away u n → Foreign u n → RefusedOuter v w
unfolding refused_more
outer_more v u w n r senders role e f = (
  refused_more 0 v u w n r.0 senders role (ap (λ (z : Knows). z.tries) e) f,
  (let one : w.refused ≡ u.refused + 1 = ap (λ (z : Knows). z.refused) e in let long = length-append r.0.found (n ∷ []) in let more : w.refused ≡ v.refused + length (r.0.found ++ n ∷ []) = omega (arith, one, r.1, long) in more),
)

pub outer_free : (v u w : Knows) → RefusedOuter v u → w.tries ≡ u.tries ++ (0, 0) ∷ [] → w.refused ≡ u.refused → WaitedForOuter v w
outer_free v u w r e same = record { found = r.0.found; others = r.0.others; tries = free_at 0 v u w r.0 e; refused = same ∙ r.1 }

pub some_more : (n k : ℕ) → k ≡ n + 1 → true ≡ some_refused k
some_more n k e = sym (ap not (ne_eqb k 0 (λ z. omega (arith, e, z))))

-- one buffer after another
pub none_yet : (v : Knows) → WaitedOneByOne 0 v v
none_yet v = ([], none, sym (append-nil v.tries))

pub one_more : (k : ℕ) (v u w : Knows) → WaitedOneByOne k v u → u.senders ≡ v.senders → u.role ≡ v.role → WaitedFor (k + 3) u w → WaitedOneByOne (k + 1) v w
one_more k v u w before senders role f = (
  before.0 ++ until_free (k + 3) f.found,
  next k before.0 f.found before.1 (All-weaker (Foreign u) (Foreign v) (λ n. foreign_as u v n (sym senders) (sym role)) f.found f.others),
  f.tries ∙ (ap (λ (l : List (ℕ × ℕ)). l ++ until_free (k + 3) f.found) before.2 ∙ append_assoc v.tries before.0 (until_free (k + 3) f.found)),
)

-- the tries of the one view and of the other are told by what is the same of both
pub each_as : (v u : Knows) (k : ℕ) (ts : List (ℕ × ℕ)) → u.senders ≡ v.senders → u.role ≡ v.role → OneByOne u k ts → OneByOne v k ts
each_as v u _ _ senders role none = none
each_as v u _ _ senders role (next k ts found before others) = next k ts found (each_as v u k ts senders role before) (All-weaker (Foreign u) (Foreign v) (λ n. foreign_as u v n (sym senders) (sym role)) found others)

pub each_same : (k : ℕ) (v v' u w : Knows) → WaitedOneByOne k v' u → v'.senders ≡ v.senders → v'.role ≡ v.role → v'.tries ≡ v.tries → w.tries ≡ u.tries → WaitedOneByOne k v w
each_same k v v' u w t senders role before after = (t.0, each_as v v' k t.0 senders role t.1, after ∙ (t.2 ∙ ap (λ (l : List (ℕ × ℕ)). l ++ t.0) before))

-- the outer turn, and then all buffers
pub all_waited : (v u w : Knows) → WaitedForOuter v u → u.senders ≡ v.senders → u.role ≡ v.role → WaitedOneByOne BUFFERS u w → w.refused ≡ u.refused → WaitedForAll v w
all_waited v u w first senders role rest same = record {
  found = first.found;
  others = first.others;
  later = rest.0;
  each = each_as v u BUFFERS rest.0 senders role rest.1;
  tries = rest.2 ∙ ap (λ (l : List (ℕ × ℕ)). l ++ rest.0) first.tries;
  refused = same ∙ first.refused;
}
