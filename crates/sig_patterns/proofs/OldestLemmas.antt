-- No clause takes a message that is older than a hit's, and no earlier clause takes the hit's.
use Rattle.std.proofs.Common.{◌≡◌, List, [], ◌∷◌, take, refl, sym, subst, Option, Some, None, add-one}
use Rattle.std.specs.List.{All}
use Rattle.std.specs.Option.{option_map, option_or}
use Rattle.std.proofs.lemmas.List.Elements.{All-nil, All-cons}
use Rattle.sig_terms.specs.declared.term.Term.{Term}
use Rattle.sig_patterns.specs.declared.clause.Clause.{Clause}
use Rattle.sig_patterns.specs.Environment.{Environment}
use Rattle.sig_patterns.specs.Scanning.{Hit, takes, NoneMatches, hit_by, behind_clause, behind_message, hit_here, hit}

-- what comes before a hit takes nothing
abbrev IsFirstHere : List Clause → Environment → Term → Hit → Type 0
IsFirstHere clauses env message h = (h.at ≡ 0) × (h.message ≡ message) × NoneMatches (take h.clause clauses) env message

abbrev IsOldest : List Clause → Environment → List Term → Hit → Type 0
IsOldest clauses env messages h = All (NoneMatches clauses env) (take h.at messages) × NoneMatches (take h.clause clauses) env h.message

-- what an answer tells of the clauses, where it is a hit and where it is none
abbrev Tells : {A : Type 0} → Type 0 → (A → Type 0) → Option A → Type 0
Tells P Q None = P
Tells P Q (Some a) = Q a

module _ (env : Environment) where
  here_by : (message : Term) (c : Clause) (clauses : List Clause) (o : Option Environment) (later : Option Hit) → takes c env message ≡ o
      → Tells (NoneMatches clauses env message) (IsFirstHere clauses env message) later
      → Tells (NoneMatches (c ∷ clauses) env message) (IsFirstHere (c ∷ clauses) env message) (option_or (option_map (hit_by c message) o) (option_map behind_clause later))
  here_by message c clauses (Some after) later e is = (refl, refl, All-nil (λ (c : Clause). takes c env message ≡ None))
  here_by message c clauses None None e is = All-cons (λ (c : Clause). takes c env message ≡ None) c clauses e is
  here_by message c clauses None (Some h) e is =
      (is.0, is.1, rw add-one (All-cons (λ (c : Clause). takes c env message ≡ None) c (take h.clause clauses) e is.2))

  here : (message : Term) (clauses : List Clause) → Tells (NoneMatches clauses env message) (IsFirstHere clauses env message) (hit_here clauses env message)
  here message [] = All-nil (λ (c : Clause). takes c env message ≡ None)
  here message (c ∷ clauses) = here_by message c clauses (takes c env message) (hit_here clauses env message) refl (here message clauses)

  module _ (clauses : List Clause) where
    next_by : (message : Term) (messages : List Term) (first later : Option Hit) → Tells (NoneMatches clauses env message) (IsFirstHere clauses env message) first
        → Tells (All (NoneMatches clauses env) messages) (IsOldest clauses env messages) later
        → Tells (All (NoneMatches clauses env) (message ∷ messages)) (IsOldest clauses env (message ∷ messages)) (option_or first (option_map behind_message later))
    next_by message messages (Some h) later is more = (
      subst (λ n. All (NoneMatches clauses env) (take n (message ∷ messages))) (sym is.0) (All-nil (NoneMatches clauses env)),
      subst (λ (m : Term). NoneMatches (take h.clause clauses) env m) (sym is.1) is.2,
    )
    next_by message messages None None is more = All-cons (NoneMatches clauses env) message messages is more
    next_by message messages None (Some h) is more = (rw add-one (All-cons (NoneMatches clauses env) message (take h.at messages) is more.0), more.1)

    tells : (messages : List Term) → Tells (All (NoneMatches clauses env) messages) (IsOldest clauses env messages) (hit clauses env messages)
    unfolding hit
    tells [] = All-nil (NoneMatches clauses env)
    tells (message ∷ messages) = next_by message messages (hit_here clauses env message) (hit clauses env messages) (here message clauses) (tells messages)

    abbrev Told : List Term → Option Hit → Type 0
    Told messages o = Tells (All (NoneMatches clauses env) messages) (IsOldest clauses env messages) o

    pub oldest_hit : (messages : List Term) (h : Hit) → hit clauses env messages ≡ Some h → All (NoneMatches clauses env) (take h.at messages)
    oldest_hit messages h e = let both : Told messages (Some h) = subst (Told messages) e (tells messages) in both.0

    pub first_hit : (messages : List Term) (h : Hit) → hit clauses env messages ≡ Some h → NoneMatches (take h.clause clauses) env h.message
    first_hit messages h e = let both : Told messages (Some h) = subst (Told messages) e (tells messages) in both.1

    pub no_hit : (messages : List Term) → hit clauses env messages ≡ None → All (NoneMatches clauses env) messages
    no_hit messages e = subst (Told messages) e (tells messages)
