-- A run leaves no signal in an outbox.
use Rattle.std.proofs.Common.{◌≡◌, ℕ, List, [], ◌∷◌, Option, Some, None, refl, subst, sym, slice_get, set}
use Rattle.std.proofs.lemmas.List.Elements.{All-set}
use Rattle.std.proofs.lemmas.Option.{MatchOption-at_some}
use Rattle.sig_kinds.specs.declared.signal.Signal.{Signal}
use Rattle.sig_model.specs.Running.{Running}
use Rattle.sig_model.specs.OneWorker.{IsClear, arrived, deliver_to, deliver_all, visited, visit_at, visit}
use Rattle.sig_model.proofs.Lookups.{at_place}

abbrev HasNone : Running → Type 0
HasNone r = r.outbox ≡ []

pub clear_at : (xs : List Running) (i : ℕ) (r : Running) → slice_get xs i ≡ Some r → IsClear xs → HasNone r
clear_at xs i r e clear = MatchOption-at_some (Unit {0}) HasNone r e (at_place HasNone xs i clear)

one_clear : (o : Option Running) (x : Signal) (xs : List Running) → slice_get xs x.to.0 ≡ o → IsClear xs → IsClear (deliver_to o x xs)
one_clear None x xs e clear = clear
one_clear (Some r) x xs e clear = All-set HasNone xs x.to.0 (arrived r x) (clear_at xs x.to.0 r e clear) clear

all_clear : (signals : List Signal) (xs : List Running) → IsClear xs → IsClear (deliver_all signals xs)
unfolding deliver_all
all_clear [] xs clear = clear
all_clear (x ∷ signals) xs clear =
    all_clear signals (deliver_to (slice_get xs x.to.0) x xs) (one_clear (slice_get xs x.to.0) x xs refl clear)

visit_case : (i : ℕ) (o : Option Running) (xs : List Running) → IsClear xs → IsClear (visit_at i o xs)
visit_case i None xs clear = clear
visit_case i (Some r) xs clear =
    let v : Running = visited r in
    all_clear v.outbox (set xs i (record v { outbox = [] })) (All-set HasNone xs i (record v { outbox = [] }) refl clear)

pub visit_clear : (i : ℕ) (xs : List Running) → IsClear xs → IsClear (visit i xs)
unfolding visit
visit_clear i xs clear = visit_case i (slice_get xs i) xs clear

pub one_visit_clear : (i : ℕ) (before after : List Running) → after ≡ visit i before → IsClear before → IsClear after
one_visit_clear i before after e clear = subst IsClear (sym e) (visit_clear i before clear)
