-- The active peers one after another, in ascending order.
use Rattle.std.specs.Prelude.{◌≡◌, ℕ, ◌<◌, ◌≤◌, true, false, [], ◌∷◌, List, Option, Some, None, filter, nat_lt}
use Rattle.sig_terms.specs.declared.pid.Pid.{Pid}
use Rattle.sig_kinds.specs.LinkRules.{LinkState, is_active, active_after}

-- The answer is the first of the active peers behind `after`, and the others are those behind the answer; or there is none.
abbrev pub IsNextActive : LinkState → Option Pid → Option Pid → Type 0
IsNextActive links after None = active_after links after ≡ []
IsNextActive links after (Some peer) = active_after links after ≡ peer.0 ∷ active_after links (Some peer)

-- those of the peers that are above a pid, or all of them
abbrev pub peers_above : Option Pid → List ℕ → List ℕ
peers_above None peers = peers
peers_above (Some after) peers = filter (λ peer. nat_lt after.0 peer) peers

-- every pid is above none
abbrev pub IsAbove : Option Pid → ℕ → Type 0
IsAbove None peer = Unit {0}
IsAbove (Some after) peer = after.0 < peer

-- The answer is active and above `after`, and no lower pid is; or no pid is.
abbrev pub IsLeastActive : LinkState → Option Pid → Option Pid → Type 0
IsLeastActive links after None = (peer : ℕ) → IsAbove after peer → is_active links peer ≡ false
IsLeastActive links after (Some least) =
    IsAbove after least.0 × (is_active links least.0 ≡ true) × ((peer : ℕ) → IsAbove after peer → is_active links peer ≡ true → least.0 ≤ peer)
