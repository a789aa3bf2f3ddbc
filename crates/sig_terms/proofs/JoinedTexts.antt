-- A loop over terms that puts a comma and a text for each, step by step.
use Rattle.std.proofs.Common.{◌≡◌, ℕ, suc, ◌+◌, ◌-◌, ◌<◌, ◌≤◌, List, [], ◌∷◌, ◌++◌, Bool, true, ◌&&◌, map, length, get_or, take, drop, drop-cons, add-one, sym, ap, ◌∙◌, append_assoc, arith}
use Rattle.std.proofs.lemmas.List.{take_all, drop_all, append-nil}
use Rattle.std.specs.List.{concat, list_all}
use Rattle.sig_terms.specs.declared.term.Term.{Term}
use Rattle.sig_terms.specs.TermText.{term_text, after_comma, joined}
use Rattle.sig_terms.specs.Readable.{is_term, IsTerm}

-- what is left, by its first term
pub next_of : (ts : List Term) (k : ℕ) (t : Term) → k < length ts → t ≡ get_or ts k t → drop k ts ≡ t ∷ drop (k + 1) ts
next_of ts k t lt is = rw add-one (drop-cons ts k t lt ∙ ap (λ (u : Term). u ∷ drop (suc k) ts) (sym is))

pub text_goes_on : (a b total : List ℕ) (ts : List Term) (k : ℕ) (t : Term) → k < length ts → t ≡ get_or ts k t → b ≡ a ++ after_comma (term_text t)
    → a ++ concat (map after_comma (map term_text (drop k ts))) ≡ total → b ++ concat (map after_comma (map term_text (drop (k + 1) ts))) ≡ total
text_goes_on a b total ts k t lt is put so_far =
    let left : List ℕ = concat (map after_comma (map term_text (drop (k + 1) ts))) in
    let all : a ++ (after_comma (term_text t) ++ left) ≡ total = rw (next_of ts k t lt is) at so_far in
    ap (λ (text : List ℕ). text ++ left) put ∙ append_assoc a (after_comma (term_text t)) left ∙ all

pub terms_go_on : (total : Bool) (ts : List Term) (k : ℕ) (t : Term) → k < length ts → t ≡ get_or ts k t → IsTerm t → list_all (λ b. b) (map is_term (drop k ts)) ≡ total → list_all (λ b. b) (map is_term (drop (k + 1) ts)) ≡ total
terms_go_on total ts k t lt is term so_far = rw (next_of ts k t lt is, term) at so_far

-- a list that is not empty, by its first term and the rest
first_and_rest : (ts : List Term) (t : Term) → 1 ≤ length ts → t ≡ get_or ts 0 t → ts ≡ t ∷ take (length ts - 1) (drop 1 ts)
first_and_rest [] t h is = absurd (omega arith)
first_and_rest (u ∷ us) t h is =
    let rest : List Term = take (suc (length us) - 1) us in
    ap (λ (vs : List Term). u ∷ vs) (sym (take_all (suc (length us) - 1) us (omega arith))) ∙ ap (λ (v : Term). v ∷ rest) (sym is)

pub text_begins : (a b : List ℕ) (ts : List Term) (t : Term) → 1 ≤ length ts → t ≡ get_or ts 0 t → b ≡ a ++ term_text t
    → b ++ concat (map after_comma (map term_text (take (length ts - 1) (drop 1 ts)))) ≡ a ++ joined (map term_text ts)
text_begins a b ts t long is put =
    let rest : List Term = take (length ts - 1) (drop 1 ts) in
    let left : List ℕ = concat (map after_comma (map term_text rest)) in
    ap (λ (text : List ℕ). text ++ left) put ∙ append_assoc a (term_text t) left ∙ ap (λ (us : List Term). a ++ joined (map term_text us)) (sym (first_and_rest ts t long is))

pub terms_begin : (ts : List Term) (t : Term) → 1 ≤ length ts → t ≡ get_or ts 0 t → IsTerm t → list_all (λ b. b) (map is_term (take (length ts - 1) (drop 1 ts))) ≡ list_all (λ b. b) (map is_term ts)
terms_begin ts t long is term =
    let rest : List Bool = map is_term (take (length ts - 1) (drop 1 ts)) in
    sym (ap (λ (us : List Term). list_all (λ b. b) (map is_term us)) (first_and_rest ts t long is) ∙ ap (λ b. b && list_all (λ b. b) rest) term)

pub text_ends : (a total : List ℕ) (ts : List Term) (k : ℕ) → length ts ≤ k → a ++ concat (map after_comma (map term_text (drop k ts))) ≡ total → a ≡ total
text_ends a total ts k past so_far = sym (append-nil a) ∙ (rw (drop_all k ts past) at so_far)

pub terms_end : (total : Bool) (ts : List Term) (k : ℕ) → length ts ≤ k → list_all (λ b. b) (map is_term (drop k ts)) ≡ total → total ≡ true
terms_end total ts k past so_far = sym (rw (drop_all k ts past) at so_far)

pub text_between : (a b c d body : List ℕ) (opening closing : ℕ) → b ≡ a ++ opening ∷ [] → c ≡ b ++ body → d ≡ c ++ closing ∷ [] → d ≡ a ++ opening ∷ (body ++ closing ∷ [])
text_between a b c d body opening closing p q r =
    r ∙ ap (λ (text : List ℕ). text ++ closing ∷ []) (q ∙ ap (λ (text : List ℕ). text ++ body) p ∙ append_assoc a (opening ∷ []) body) ∙ append_assoc a (opening ∷ body) (closing ∷ [])
