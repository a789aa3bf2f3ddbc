-- The value of a variable after a match is what the variable meets at its first place, else its value before. So a guard is true
-- in the environment after the match where it is true of these values, and a clause takes what fits it and its guard.
use Rattle.std.proofs.Common.{◌≡◌, ℕ, Bool, true, false, ◌&&◌, cond, List, [], refl, sym, ap, ◌∙◌, Option, Some, None, is_some}
use Rattle.std.proofs.lemmas.Option.{none-some, same_Some}
use Rattle.std.specs.Option.{option_map, option_or, unwrap_or}
use Rattle.std.specs.FinMap.{get}
use Rattle.sig_terms.specs.declared.term.Term.{Term}
use Rattle.sig_patterns.specs.declared.clause.Clause.{Clause}
use Rattle.sig_patterns.specs.declared.guard.Guard.{Guard}
use Rattle.sig_patterns.specs.declared.pattern.Pattern.{Pattern}
use Rattle.sig_patterns.specs.Environment.{Environment, undefined, value_of_var}
use Rattle.sig_patterns.specs.Matching.{Bindings, matching, overlaid, match_of}
use Rattle.sig_patterns.specs.Guarding.{Values, guard_holds}
use Rattle.sig_patterns.specs.Fitting.{first_in, fits, values_met}
use Rattle.sig_patterns.specs.Scanning.{takes}
use Rattle.sig_patterns.proofs.Bindings.{Goes}
use Rattle.sig_patterns.proofs.Walks.{whole_walk, is_some-match_of}
use Rattle.sig_patterns.proofs.Placing.{get-overlaid}
use Rattle.sig_patterns.proofs.Taking.{guarded}

or_else : (o p : Option Term) (t : Term) → unwrap_or (option_or o p) t ≡ unwrap_or o (unwrap_or p t)
or_else None p t = refl
or_else (Some u) p t = refl

module _ (env : Environment) (p : Pattern) (t : Term) where
  value_goes : (o : Option Bindings) (b : Bool) (after : Environment) → Goes o [] (first_in p t) b → option_map (overlaid env) o ≡ Some after
      → (x : List ℕ) → value_of_var after x ≡ values_met (first_in p t) env x
  value_goes None b after h is x = absurd (none-some after is)
  value_goes (Some bound) b after h is x =
      ap (λ (e : Environment). value_of_var e x) (sym (same_Some (overlaid env bound) after is))
      ∙ ap (λ (o : Option Term). unwrap_or o undefined) (get-overlaid env bound x ∙ ap (λ (o : Option Term). option_or o (get env x)) (h.1 x))
      ∙ or_else (first_in p t x) (get env x) undefined

  pub value_after : (after : Environment) → match_of p env t ≡ Some after → (x : List ℕ) → value_of_var after x ≡ values_met (first_in p t) env x
  value_after after is x = value_goes (matching env p t []) (fits env (first_in p t) p t) after (whole_walk env p t) is x

kept_if : (b : Bool) (e : Environment) → is_some (cond b (Some e) None) ≡ b
kept_if true e = refl
kept_if false e = refl

guarded_by : (guard : Option Guard) (matched : Option Environment) (values : Values) → ((after : Environment) → matched ≡ Some after → (x : List ℕ) → value_of_var after x ≡ values x)
    → is_some (guarded guard matched) ≡ (is_some matched && guard_holds values guard)
guarded_by guard None values same = refl
guarded_by guard (Some after) values same =
    let are : value_of_var after ≡ values = λ i x. same after refl x i in
    kept_if (guard_holds (value_of_var after) guard) after ∙ ap (λ (v : Values). guard_holds v guard) are

-- a clause takes what its pattern fits, where its guard is true of the values met
pub takes_where_fits : (c : Clause) (env : Environment) (t : Term)
    → is_some (takes c env t) ≡ (fits env (first_in c.pattern t) c.pattern t && guard_holds (values_met (first_in c.pattern t) env) c.guard)
takes_where_fits c env t =
    guarded_by c.guard (match_of c.pattern env t) (values_met (first_in c.pattern t) env) (value_after env c.pattern t)
    ∙ ap (λ (b : Bool). b && guard_holds (values_met (first_in c.pattern t) env) c.guard) (is_some-match_of env c.pattern t)

pub unfit : (c : Clause) (env : Environment) (t : Term) → fits env (first_in c.pattern t) c.pattern t ≡ false → is_some (takes c env t) ≡ false
unfit c env t h = takes_where_fits c env t ∙ ap (λ (b : Bool). b && guard_holds (values_met (first_in c.pattern t) env) c.guard) h
