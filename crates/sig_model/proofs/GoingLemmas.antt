-- Steps of one process, one after another: a visit is such.
use Rattle.std.proofs.Common.{◌≡◌, ℕ, zero, suc, Option, Some, None, refl, inl, inr, length}
use Rattle.std.specs.Prelude.{unwrap_or}
use Rattle.sig_model.specs.Running.{Running, exec_next, handle_next}
use Rattle.sig_model.specs.OneWorker.{or_stay, handle_all, exec_or_stay, visited}
use Rattle.sig_model.proofs.EventLemmas.{IsStep}

-- one step after another
pub data Goes : Running → Running → Type 0 where
  stays : (r : Running) → Goes r r
  on : (r u t : Running) → IsStep r u → Goes u t → Goes r t

handle_or_stay : (o : Option Running) (r : Running) → handle_next r ≡ o → (go : Running → Running) → ((t : Running) → Goes t (go t)) → Goes r (or_stay o r go)
handle_or_stay None r e go later = stays r
handle_or_stay (Some t) r e go later = on r t (go t) (inl e) (later t)

exec_or_stays : (o : Option Running) (r : Running) → exec_next r ≡ o → Goes r (unwrap_or o r)
exec_or_stays None r e = stays r
exec_or_stays (Some t) r e = on r t t (inr e) (stays t)

pub goes_trans : (r u t : Running) → Goes r u → Goes u t → Goes r t
goes_trans r _ t (stays _) later = later
goes_trans r _ t (on _ v u step more) later = on r v t step (goes_trans v u t more later)

pub goes_handle : (n : ℕ) (r : Running) → Goes r (handle_all n r)
unfolding handle_all
goes_handle zero r = stays r
goes_handle (suc n) r = handle_or_stay (handle_next r) r refl (λ t. handle_all n t) (λ t. goes_handle n t)

pub goes_exec : (r : Running) → Goes r (exec_or_stay r)
goes_exec r = exec_or_stays (exec_next r) r refl

pub goes_visited : (r : Running) → Goes r (visited r)
unfolding visited
goes_visited r =
    let one : Running = handle_all (length r.own) r in
    let two : Running = handle_all (length r.taken_in) one in
    goes_trans r one (exec_or_stay two) (goes_handle (length r.own) r) (goes_trans one two (exec_or_stay two) (goes_handle (length r.taken_in) one) (goes_exec two))
