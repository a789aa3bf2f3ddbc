-- How many events a process of a crew has had.
use Rattle.std.proofs.Common.{◌≡◌, ℕ, zero, suc, List, [], ◌∷◌, length, Option, Some, None, refl, sym, ap, ◌∙◌, slice_get, set}
use Rattle.sig_kinds.specs.declared.signal.Signal.{Signal}
use Rattle.sig_model.specs.Running.{Running}
use Rattle.sig_model.specs.OneWorker.{arrived, deliver_to, deliver_all, event_count}

events_set : (xs : List Running) (i : ℕ) (r x : Running) (at : ℕ) → slice_get xs i ≡ Some r → length r.events ≡ length x.events → event_count at (set xs i x) ≡ event_count at xs
events_set [] i r x at e h = cc
events_set (y ∷ ys) zero r x zero e h = let same : r ≡ y = cc in sym h ∙ ap (λ (z : Running). length z.events) same
events_set (y ∷ ys) zero r x (suc at) e h = refl
events_set (y ∷ ys) (suc i) r x zero e h = refl
events_set (y ∷ ys) (suc i) r x (suc at) e h = events_set ys i r x at e h

pub events_get : (xs : List Running) (i : ℕ) (r : Running) → slice_get xs i ≡ Some r → event_count i xs ≡ length r.events
events_get [] i r e = cc
events_get (y ∷ ys) zero r e = let same : y ≡ r = cc in ap (λ (z : Running). length z.events) same
events_get (y ∷ ys) (suc i) r e = events_get ys i r e

one_events : (o : Option Running) (x : Signal) (xs : List Running) (at : ℕ) → slice_get xs x.to.0 ≡ o → event_count at (deliver_to o x xs) ≡ event_count at xs
one_events None x xs at e = refl
one_events (Some r) x xs at e = events_set xs x.to.0 r (arrived r x) at e refl

-- a delivery adds no event
pub delivered_events : (signals : List Signal) (xs : List Running) (at : ℕ) → event_count at (deliver_all signals xs) ≡ event_count at xs
unfolding deliver_all
delivered_events [] xs at = refl
delivered_events (x ∷ signals) xs at =
    delivered_events signals (deliver_to (slice_get xs x.to.0) x xs) at ∙ one_events (slice_get xs x.to.0) x xs at refl
