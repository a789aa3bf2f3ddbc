-- Lists from a place on, and the processes of a crew.
use Rattle.std.proofs.Common.{◌≡◌, ℕ, zero, suc, ◌+◌, ◌<◌, ◌≤◌, List, [], ◌∷◌, ◌++◌, length, drop, Option, Some, None, refl, sym, ◌∙◌, ap, subst, append_assoc, Bool, ◌||◌, arith}
use Rattle.std.specs.Prelude.{All, slice_get, IfSome, MatchOption}
use Rattle.std.specs.List.{IsItemAtMut}
use Rattle.std.specs.Borrow.{MutBor}
use Rattle.std.specs.List.{list_any}
use Rattle.std.proofs.lemmas.List.{append-nil, drop_more, drop_all, length-append, map-append}
use Rattle.std.proofs.lemmas.List.Elements.{All-push}
use Rattle.std.proofs.lemmas.Option.{slice_get_within, get_or_from_slice_get, slice_get-get_or}
use Rattle.sig_program.specs.Scripts.{Declared}
use Rattle.sig_model.specs.Running.{Running, opened}
use Rattle.sig_model.specs.Keeping.{IsKeeping}
use Rattle.sig_model.specs.OneWorker.{opened_from}
use Rattle.sig_process.specs.Standing.{Standing, runnings_of}

-- what stands at a place, and what follows it
pub drop_at : {A : Type 0} (xs : List A) (i : ℕ) (x : A) → slice_get xs i ≡ Some x → drop i xs ≡ x ∷ drop (i + 1) xs
drop_at xs i x e = drop_more xs i x (slice_get_within xs i x e) ∙ ap (λ y. y ∷ drop (i + 1) xs) (get_or_from_slice_get xs i x x e)

pub any_at : {A : Type 0} (p : A → Bool) (xs : List A) (i : ℕ) (x : A) → slice_get xs i ≡ Some x →
    list_any p (drop i xs) ≡ (p x || list_any p (drop (i + 1) xs))
any_at p xs i x e = ap (list_any p) (drop_at xs i x e)

-- the process that is lent
pub standing_lent : (xs : List Standing) (i : ℕ) (o : Option (MutBor Standing)) → IsItemAtMut xs i o → MatchOption o (length xs ≤ i) (λ p. slice_get xs i ≡ Some p.now)
standing_lent xs i None e = e.3
standing_lent xs i (Some p) e = slice_get-get_or xs i p.now e.3.0 ∙ ap Some (sym e.1)

opened_at : (procs : List Declared) (pid count turns : ℕ) (o : Option Declared) (d : Declared) (p : Running) (before : List Running) →
    o ≡ Some d → slice_get procs pid ≡ o → IfSome o (λ d. p ≡ opened pid count turns d) →
    (before ++ p ∷ []) ++ opened_from (pid + 1) count turns (drop (pid + 1) procs) ≡ before ++ opened_from pid count turns (drop pid procs)
opened_at procs pid count turns (Some x) d p before e g is =
    append_assoc before (p ∷ []) (opened_from (pid + 1) count turns (drop (pid + 1) procs))
    ∙ ap (λ (q : Running). before ++ q ∷ opened_from (pid + 1) count turns (drop (pid + 1) procs)) is
    ∙ ap (λ (ds : List Declared). before ++ opened_from pid count turns ds) (sym (drop_at procs pid x g))
opened_at procs pid count turns _ d p before e g is = cc

-- one more process is opened
pub opened_more : (procs : List Declared) (pid count turns : ℕ) (d : Declared) (p : Standing) (before : List Standing) →
    pid < length procs → IfSome (slice_get procs pid) (λ d. p.running ≡ opened pid count turns d) →
    runnings_of (before ++ p ∷ []) ++ opened_from (pid + 1) count turns (drop (pid + 1) procs) ≡ runnings_of before ++ opened_from pid count turns (drop pid procs)
opened_more procs pid count turns d p before lt is =
    ap (λ rs. rs ++ opened_from (pid + 1) count turns (drop (pid + 1) procs)) (map-append (λ (q : Standing). q.running) before (p ∷ []))
    ∙ opened_at procs pid count turns (slice_get procs pid) _ p.running (runnings_of before) (slice_get-get_or procs pid d lt) refl is

-- one more process is opened, and one part of the script less is left
pub started_more : (count turns pid n t : ℕ) (d : Declared) (left whole : List Declared) (p : Standing) (before after : List Standing) (all : List Running) →
    p.running ≡ opened pid n t d → pid ≡ length before → n ≡ count → t ≡ turns → after ≡ before ++ p ∷ [] → whole ≡ d ∷ left →
    runnings_of before ++ opened_from (length before) count turns whole ≡ all → runnings_of after ++ opened_from (length after) count turns left ≡ all
started_more count turns pid n t d left whole p before after all is at same turned grown step e =
    let len : length after ≡ length before + 1 = ap length grown ∙ length-append before (p ∷ []) in
    ap (λ k. runnings_of after ++ opened_from k count turns left) len
    ∙ ap (λ (ps : List Standing). runnings_of ps ++ opened_from (length before + 1) count turns left) grown
    ∙ ap (λ rs. rs ++ opened_from (length before + 1) count turns left) (map-append (λ (q : Standing). q.running) before (p ∷ []))
    ∙ append_assoc (runnings_of before) (p.running ∷ []) (opened_from (length before + 1) count turns left)
    ∙ ap (λ (q : Running). runnings_of before ++ q ∷ opened_from (length before + 1) count turns left)
    (is ∙ ap (λ k. opened k n t d) at ∙ ap (λ k. opened (length before) k t d) same ∙ ap (λ k. opened (length before) count k d) turned)
    ∙ ap (λ (ds : List Declared). runnings_of before ++ opened_from (length before) count turns ds) (sym step)
    ∙ e

pub keeping_more : (before : List Standing) (p : Standing) → All IsKeeping (runnings_of before) → IsKeeping p.running → All IsKeeping (runnings_of (before ++ p ∷ []))
keeping_more before p h k =
    subst (λ rs. All IsKeeping rs) (sym (map-append (λ (q : Standing). q.running) before (p ∷ []))) (All-push IsKeeping (runnings_of before) p.running h k)

-- all processes are opened
pub all_opened : (procs : List Declared) (pid turns : ℕ) (so_far : List Running) → length procs ≤ pid →
    so_far ++ opened_from pid (length procs) turns (drop pid procs) ≡ opened_from 0 (length procs) turns procs → so_far ≡ opened_from 0 (length procs) turns procs
all_opened procs pid turns so_far le e =
    sym (append-nil so_far) ∙ ap (λ (ds : List Declared). so_far ++ opened_from pid (length procs) turns ds) (sym (drop_all pid procs le)) ∙ e

-- an element of what lies behind a place
pub slice_get-drop : {X : Type 0} (xs : List X) (n i : ℕ) → slice_get xs (n + i) ≡ slice_get (drop n xs) i
slice_get-drop xs zero i = let e : zero + i ≡ i = omega arith in ap (slice_get xs) e
slice_get-drop [] (suc n) i = refl
slice_get-drop (x ∷ xs) (suc n) i = let e : suc n + i ≡ suc (n + i) = omega arith in ap (slice_get (x ∷ xs)) e ∙ slice_get-drop xs n i
