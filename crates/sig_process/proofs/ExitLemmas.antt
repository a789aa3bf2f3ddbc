-- The peers that are told of an end: those of the active links, but for a link that an exit signal ended.
use Rattle.std.proofs.Common.{◌≡◌, ℕ, Bool, true, false, cond, not, nat_eq, arith, List, [], ◌∷◌, ◌++◌, map, refl, sym, ap, ◌∙◌, Option, Some, None}
use mathlib.Core.List.{map-map}
use Rattle.std.proofs.lemmas.Bool.{true≢false}
use Rattle.std.proofs.lemmas.Bool.Decides.{nat_tests}
use Rattle.std.specs.List.{filter}
use Rattle.std.specs.Option.{option_eq}
use Rattle.std.specs.Ordering.{nat_cmp, eq_by_cmp}
use Rattle.std.proofs.lemmas.List.{map-append, append-nil, append_assoc}
use Rattle.sig_terms.specs.contracts.pid.PidPartialEq.TheImpl.{eq-value as same_pid}
use Rattle.sig_terms.specs.declared.pid.Pid.{Pid}
use Rattle.sig_terms.specs.declared.term.Term.{Term}
use Rattle.sig_kinds.specs.declared.signal.Kind.TheVariants as kind
use Rattle.sig_kinds.specs.LinkRules.{active_after}
use Rattle.sig_links.proofs.Remaining.{other_than, left_active}
use Rattle.sig_model.specs.ProcessState.{ProcessState, Post, exits_to}
use Rattle.sig_process.specs.declared.plan.Outgoing.{Outgoing}
use Rattle.sig_process.specs.Plans.{after_obeying, post_of}

-- these peers without the one whose exit signal is obeyed
abbrev pub others : Option Pid → List ℕ → List ℕ
others None peers = peers
others (Some obeyed) peers = filter (other_than obeyed.0) peers

-- the peers that are told
pub others_active : (s : ProcessState) (obeyed : Option Pid) → others obeyed (active_after s.tables.links None) ≡ active_after (after_obeying s obeyed).tables.links None
others_active s None = refl
others_active s (Some obeyed) = sym (left_active s.tables.links obeyed.0)

others_none : (obeyed : Option Pid) → others obeyed [] ≡ []
others_none None = refl
others_none (Some obeyed) = refl

-- the peers that were told are all of them
pub all_told : (s : ProcessState) (obeyed : Option Pid) (rest : List ℕ) (reason : Term) (told : List Post) → rest ≡ [] →
    told ++ exits_to (others obeyed rest) reason ≡ exits_to (others obeyed (active_after s.tables.links None)) reason →
    told ≡ exits_to (active_after (after_obeying s obeyed).tables.links None) reason
all_told s obeyed rest reason told none is =
    sym (append-nil told)
    ∙ ap (λ (peers : List ℕ). told ++ exits_to peers reason) (sym (ap (others obeyed) none ∙ others_none obeyed))
    ∙ is
    ∙ ap (λ (peers : List ℕ). exits_to peers reason) (others_active s obeyed)

-- whether a peer is told that this process ends
abbrev pub is_told : Option Pid → Pid → Bool
is_told obeyed peer = not (option_eq same_pid.it obeyed (Some peer))

same_number : (a b : ℕ) → eq_by_cmp nat_cmp a b ≡ nat_eq a b
same_number a b = grind (arith, nat_tests)

-- the peer whose exit signal is obeyed isn't
pub told_not : (obeyed : Option Pid) (peer : Pid) (rest : List ℕ) → is_told obeyed peer ≡ false → others obeyed (peer.0 ∷ rest) ≡ others obeyed rest
told_not None peer rest e = absurd (true≢false e)
told_not (Some other) peer rest e = ap (λ (b : Bool). cond b (peer.0 ∷ filter (other_than other.0) rest) (filter (other_than other.0) rest)) (ap not (same_number other.0 peer.0) ∙ e)

pub told_too : (obeyed : Option Pid) (peer : Pid) (rest : List ℕ) → is_told obeyed peer ≡ true → others obeyed (peer.0 ∷ rest) ≡ peer.0 ∷ others obeyed rest
told_too None peer rest e = refl
told_too (Some other) peer rest e = ap (λ (b : Bool). cond b (peer.0 ∷ filter (other_than other.0) rest) (filter (other_than other.0) rest)) (ap not (same_number other.0 peer.0) ∙ e)

-- one more is told
abbrev pub exit_post : Pid → Term → Outgoing
exit_post peer reason = record { to = peer; kind = kind.Exit reason true }

module _ (peer : Pid) (rest : List ℕ) (reason : Term) (told : List Outgoing) where
  pub one_told : (obeyed : Option Pid) → others obeyed (peer.0 ∷ rest) ≡ peer.0 ∷ others obeyed rest →
      map post_of (told ++ exit_post peer reason ∷ []) ++ exits_to (others obeyed rest) reason ≡ map post_of told ++ exits_to (others obeyed (peer.0 ∷ rest)) reason
  one_told obeyed is =
      ap (λ (posts : List Post). posts ++ exits_to (others obeyed rest) reason) (map-append post_of told (exit_post peer reason ∷ []))
      ∙ append_assoc (map post_of told) (post_of (exit_post peer reason) ∷ []) (exits_to (others obeyed rest) reason)
      ∙ ap (λ (peers : List ℕ). map post_of told ++ exits_to peers reason) (sym is)

-- what those are told whom a table lists: of a list that is made of another, what each of the other is told
pub ruleset told_of_each = map-map
