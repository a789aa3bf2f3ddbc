-- What a clause takes, its pattern matches. What its pattern doesn't match, it doesn't take. Without a guard it takes what its
-- pattern matches.
use Rattle.std.proofs.Common.{◌≡◌, Bool, true, cond, refl, sym, ap, ◌∙◌, Option, Some, None, option_and_then}
use Rattle.std.proofs.lemmas.Option.{none-some, cond_some}
use Rattle.sig_terms.specs.declared.term.Term.{Term}
use Rattle.sig_patterns.specs.declared.clause.Clause.{Clause}
use Rattle.sig_patterns.specs.declared.guard.Guard.{Guard}
use Rattle.sig_patterns.specs.Environment.{Environment, value_of_var}
use Rattle.sig_patterns.specs.Matching.{match_of}
use Rattle.sig_patterns.specs.Guarding.{guard_holds}
use Rattle.sig_patterns.specs.Scanning.{takes}

-- what is left of the environment after a match, where the guard is true in it
abbrev pub guarded : Option Guard → Option Environment → Option Environment
guarded guard matched = option_and_then (λ after. cond (guard_holds (value_of_var after) guard) (Some after) None) matched

guarded_some : (guard : Option Guard) (matched : Option Environment) (after : Environment) → guarded guard matched ≡ Some after → matched ≡ Some after
guarded_some guard None after h = absurd (none-some after h)
guarded_some guard (Some e) after h = ap Some (cond_some (guard_holds (value_of_var e) guard) e after h).1

true_if : (v : Environment → Bool) (e after : Environment) → cond (v e) (Some e) None ≡ Some after → v after ≡ true
true_if v e after h =
    let parts = cond_some (v e) e after h in
    ap v (sym parts.1) ∙ parts.0

guarded_true : (guard : Option Guard) (matched : Option Environment) (after : Environment) → guarded guard matched ≡ Some after → guard_holds (value_of_var after) guard ≡ true
guarded_true guard None after h = absurd (none-some after h)
guarded_true guard (Some e) after h = true_if (λ (d : Environment). guard_holds (value_of_var d) guard) e after h

unguarded : (matched : Option Environment) → guarded None matched ≡ matched
unguarded None = refl
unguarded (Some e) = refl

module _ (c : Clause) (env : Environment) (message : Term) where
  pub takes_match : (after : Environment) → takes c env message ≡ Some after → match_of c.pattern env message ≡ Some after
  takes_match after h = guarded_some c.guard (match_of c.pattern env message) after h

  pub takes_none : match_of c.pattern env message ≡ None → takes c env message ≡ None
  takes_none h = ap (guarded c.guard) h

  -- the guard is true in the environment after what is taken
  pub takes_guard : (after : Environment) → takes c env message ≡ Some after → guard_holds (value_of_var after) c.guard ≡ true
  takes_guard after h = guarded_true c.guard (match_of c.pattern env message) after h

  -- what the pattern matches is taken, where the guard is true
  pub takes_where : (after : Environment) → match_of c.pattern env message ≡ Some after → guard_holds (value_of_var after) c.guard ≡ true → takes c env message ≡ Some after
  takes_where after is holds = ap (guarded c.guard) is ∙ ap (λ (b : Bool). cond b (Some after) None) holds

  pub takes_plain : c.guard ≡ None → takes c env message ≡ match_of c.pattern env message
  takes_plain h = ap (λ (guard : Option Guard). guarded guard (match_of c.pattern env message)) h ∙ unguarded (match_of c.pattern env message)
