-- The scan of a receive (Erlang Reference Manual, Expressions, Receive): the oldest message that some clause takes, and the
-- first clause that takes it.
use Rattle.std.specs.Prelude.{◌≡◌, ℕ, ◌+◌, List, [], ◌∷◌, length, if◌then◌else◌, Option, Some, None, is_some, option_and_then, position}
use Rattle.std.specs.List.{All}
use Rattle.std.specs.Option.{option_map, option_map_or, option_or}
use Rattle.sig_terms.specs.declared.term.Term.{Term}
use Rattle.sig_patterns.specs.declared.clause.Clause.{Clause}
use Rattle.sig_patterns.specs.declared.found.Found.{Found}
use Rattle.sig_patterns.specs.Environment.{Environment, value_of_var}
use Rattle.sig_patterns.specs.Matching.{match_of}
use Rattle.sig_patterns.specs.Guarding.{guard_holds}

-- What a clause makes of a message: the environment after the match of its pattern, where its guard is true in that environment;
-- else none, and it doesn't take the message (Erlang Reference Manual, Expressions, Receive).
abbrev pub takes : Clause → Environment → Term → Option Environment
takes clause env message =
    option_and_then (λ after. if guard_holds (value_of_var after) clause.guard then Some after else None) (match_of clause.pattern env message)

-- what a scan found: the place of the message, from 0; the clause, from 0; the message; where the clause goes on; and the
-- environment after the match
pub record Hit : Type 0 where
  pub at : ℕ
  pub clause : ℕ
  pub message : Term
  pub target : Option ℕ
  pub env : Environment

-- the hit of a clause that takes the message, both at the front
abbrev pub hit_by : Clause → Term → Environment → Hit
hit_by clause message env = record { at = 0; clause = 0; message = message; target = clause.target; env = env }

-- the same hit, with one more clause before its clause
abbrev pub behind_clause : Hit → Hit
behind_clause h = record h { clause = h.clause + 1 }

-- the same hit, with one more message before its message
abbrev pub behind_message : Hit → Hit
behind_message h = record h { at = h.at + 1 }

-- the same hit, and the same places, with some more messages before its message
abbrev pub behind_messages : ℕ → Hit → Hit
behind_messages older h = record h { at = h.at + older }

abbrev pub found_behind : ℕ → Found → Found
found_behind older f = record f { at = f.at + older }

-- no clause takes the message
abbrev pub NoneMatches : List Clause → Environment → Term → Type 0
NoneMatches clauses env message = All (λ (c : Clause). takes c env message ≡ None) clauses

-- the first clause that takes the message
abbrev pub hit_here : List Clause → Environment → Term → Option Hit
hit_here [] env message = None
hit_here (clause ∷ clauses) env message =
    option_or (option_map (hit_by clause message) (takes clause env message)) (option_map behind_clause (hit_here clauses env message))

-- the oldest message that some clause takes, and the first such clause
unfoldable pub hit : List Clause → Environment → List Term → Option Hit
hit clauses env [] = None
hit clauses env (message ∷ messages) = option_or (hit_here clauses env message) (option_map behind_message (hit clauses env messages))

-- the places alone of a hit
abbrev pub places_of : Hit → Found
places_of h = record { at = h.at; clause = h.clause }

-- the oldest message that some clause takes, and the first such clause, by their places
abbrev pub scan : List Clause → Environment → List Term → Option Found
scan clauses env messages = option_map places_of (hit clauses env messages)

-- the first clause that takes the message, from 0
abbrev pub first_clause : List Clause → Environment → Term → Option ℕ
first_clause clauses env message = position (λ c. is_some (takes c env message)) clauses

-- how many clauses are tested on a message: up to the first that takes it, or all
abbrev pub tested : List Clause → Option ℕ → ℕ
tested clauses first = option_map_or (λ at. at + 1) first (length clauses)

-- how many messages a scan of the whole list looks at: up to the one that it finds, or all
abbrev pub looked : List Term → Option Found → ℕ
looked messages found = option_map_or (λ f. f.at + 1) found (length messages)
