-- What is shown of a process's tables one by one: what holds of every name in them and of the terms, as they are opened, where one
-- of them changes, and at the end; and what the process tells then. A new table has its lines here.
use Rattle.std.proofs.Common.{◌≡◌, ℕ, ◌+◌, ◌≤◌, List, [], ◌∷◌, length, true, cond, ◌==◌, All, None, refl, ap, ◌∙◌, arith}
use Rattle.std.specs.FinMap.{get, insert}
use Rattle.std.proofs.lemmas.List.{length-append}
use Rattle.std.proofs.lemmas.List.Elements.{All-nil, All-append, All-map, All-weaker, filter-append}
use Rattle.sig_terms.specs.declared.reference.Ref.{Ref}
use Rattle.sig_terms.specs.declared.term.Term.{Term}
use Rattle.sig_terms.specs.Names.{Named, process, names_of_ref, names_of, AllNames}
use Rattle.sig_kinds.specs.declared.signal.Kind.TheVariants as kind
use Rattle.sig_kinds.specs.LinkRules.{LinkState, active_after}
use Rattle.sig_kinds.specs.WatchRules.{WatchState}
use Rattle.sig_kinds.specs.SignalNames.{LinkNames, WatchNames}
use Rattle.sig_kinds.proofs.LinkNameLemmas.{unlinked_names, peers_names}
use Rattle.sig_kinds.proofs.LinkNameLemmas.{ending_names as links_ending_names}
use Rattle.sig_kinds.proofs.WatchNameLemmas.{unwatched_names, watch_ending_names}
use Rattle.sig_patterns.specs.declared.mark.Mark.{Mark}
use Rattle.sig_patterns.specs.Environment.{Environment}
use Rattle.sig_patterns.specs.Inbox.{Inbox, emptied_inbox}
use Rattle.sig_model.specs.ProcessState.{Tables, opening_tables, owner_of, ended_tables, Post, exits_to, downs_to, told_at_end, downs_due, EnvironmentNames, InboxNames, TableNames}
use Rattle.sig_model.specs.Bounds.{posts_to}
use Rattle.sig_model.specs.Names.{PostNames}
use Rattle.sig_model.specs.TermSizes.{IsSmallTerm, IsKeptTerm, AllValues, TableSizes, PostSizes}
use Rattle.sig_model.proofs.AnyNames.{Any}
use Rattle.sig_model.proofs.Lookups.{some_any}
use Rattle.sig_model.proofs.MatchParts.{empty_values, insert_values}
use Rattle.sig_model.proofs.PostCounts.{posts_to-cons, at_most_one, peers_told_once}
use Rattle.sig_model.proofs.TermSizeLemmas.{small_kept}

-- the names of a reference
abbrev pub OfRef : (Named → Type 0) → Ref → Type 0
OfRef P r = All P (names_of_ref r)

-- the messages, each with its number
abbrev pub AllMessages : List (ℕ × Term) → Type 0
AllMessages messages = All (λ (m : ℕ × Term). IsKeptTerm m.1) messages

-- as they are opened
empty_inbox : (P : Named → Type 0) (next : ℕ) → InboxNames P (record { messages = []; next_arrival = next; reserve = None; marks = [] })
empty_inbox P next = record { messages = All-nil (λ (m : ℕ × Term). AllNames P m.1); marks = All-nil (λ (m : Mark). All P (names_of_ref m.reference)) }

pub opening_names : (P : Named → Type 0) (pid : ℕ) → P (process pid) → TableNames P (opening_tables pid)
opening_names P pid own = record { env = empty_values (AllNames P); inbox = empty_inbox P 1; links = unlinked_names P pid own; watch = unwatched_names P pid own; end = tt }

-- where nothing is asked of a name
pub any_tables : (t : Tables) → TableNames Any t
any_tables t = record {
  env = λ var. some_any (AllNames Any) (get t.env var) (λ x i d lt. tt);
  inbox = record { messages = λ i d lt j e l. tt; marks = λ i d lt j e l. tt };
  links = record { owner = tt; active = λ peer h. tt; awaited = λ peer h. tt };
  watch = record {
    owner = tt;
    held = λ r. some_any (λ (target : ℕ). All Any (names_of_ref r) × Any (process target)) (get t.watch.held r) (λ target. ((λ i d lt. tt), tt));
    borne = λ i d lt. ((λ j e l. tt), tt);
    aliases = λ r h i d lt. tt;
  };
  end = some_any (AllNames Any) t.end (λ x i d lt. tt);
}

-- the monitors and aliases of the same process, with the same monitors borne
pub record BearsAlike (before after : WatchState) : Type 0 where
  pub owner : after.owner ≡ before.owner
  pub borne : after.borne ≡ before.borne

pub same_watch : (watch : WatchState) → BearsAlike watch watch
same_watch watch = record { owner = refl; borne = refl }

-- the tables of the same process, which has as many downs to tell
pub record OwesAlike (before after : Tables) : Type 0 where
  pub owner : owner_of after ≡ owner_of before
  pub due : downs_due after ≡ downs_due before

-- other values, messages, monitors and aliases, where the monitors that are borne are the same
pub owes_alike : (t : Tables) (env : Environment) (inbox : Inbox) (watch : WatchState) → BearsAlike t.watch watch → OwesAlike t (record t { env = env; inbox = inbox; watch = watch })
owes_alike t env inbox watch h = record { owner = h.owner; due = ap length h.borne }

-- What a process that ends tells: an exit to each linked peer, and a down for each monitor that it bears.
module _ (P : Named → Type 0) (reason : Term) (k : AllNames P reason) where
  exits : (peers : List ℕ) → All (λ (peer : ℕ). P (process peer)) peers → All (PostNames P) (exits_to peers reason)
  exits peers h =
      All-map (PostNames P) (λ (peer : ℕ). record { to = peer; kind = kind.Exit reason true }) peers
      (All-weaker (λ (peer : ℕ). P (process peer)) (λ (peer : ℕ). PostNames P (record { to = peer; kind = kind.Exit reason true })) (λ peer g. record { to = g; kind = k }) peers h)

  downs : (borne : List (Ref × ℕ)) → All (λ (b : Ref × ℕ). OfRef P b.0 × P (process b.1)) borne → All (PostNames P) (downs_to borne reason)
  downs borne h =
      All-map (PostNames P) (λ (b : Ref × ℕ). record { to = b.1; kind = kind.Down b.0 reason }) borne
      (All-weaker (λ (b : Ref × ℕ). OfRef P b.0 × P (process b.1)) (λ (b : Ref × ℕ). PostNames P (record { to = b.1; kind = kind.Down b.0 reason }))
      (λ b g. record { to = g.1; kind = All-append P (names_of_ref b.0) (names_of reason) g.0 k }) borne h)

  pub told_names : (t : Tables) → TableNames P t → All (PostNames P) (told_at_end t reason)
  told_names t h = All-append (PostNames P) _ _ (exits (active_after t.links None) (peers_names P t.links h.links)) (downs t.watch.borne h.watch.borne)

-- at most one down more for each monitor
downs_few : (borne : List (Ref × ℕ)) (reason : Term) (peer : ℕ) → posts_to peer (downs_to borne reason) ≤ length borne
downs_few [] reason peer = omega arith
downs_few (b ∷ bs) reason peer =
    let all : posts_to peer (downs_to (b ∷ bs) reason) ≡ cond (b.1 == peer) 1 0 + posts_to peer (downs_to bs reason) = posts_to-cons peer (record { to = b.1; kind = kind.Down b.0 reason }) (downs_to bs reason) in
    omega (arith, all, downs_few bs reason peer, at_most_one (b.1 == peer) 0 refl)

module _ (t : Tables) (reason : Term) where
  pub told_sizes : IsSmallTerm reason → All PostSizes (told_at_end t reason)
  told_sizes h =
      All-append PostSizes _ _ (All-map PostSizes (λ (peer : ℕ). record { to = peer; kind = kind.Exit reason true }) (active_after t.links None) (λ i d lt. h))
      (All-map PostSizes (λ (b : Ref × ℕ). record { to = b.1; kind = kind.Down b.0 reason }) t.watch.borne (λ i d lt. h))

  -- to each peer once of the link, and once for each monitor, of which none is left
  pub told_few : (peer : ℕ) → posts_to peer (told_at_end t reason) + downs_due (ended_tables t reason) ≤ downs_due t + 1
  told_few peer =
      let both : posts_to peer (told_at_end t reason) ≡ posts_to peer (exits_to (active_after t.links None) reason) + posts_to peer (downs_to t.watch.borne reason) =
      ap length (filter-append (λ (q : Post). q.to == peer) (exits_to (active_after t.links None) reason) (downs_to t.watch.borne reason)) ∙ length-append _ _ in
      omega (arith, both, peers_told_once t.links reason peer, downs_few t.watch.borne reason peer)

-- What is to be shown: this of every name; bounds, where this holds; sizes, where this holds; this of the messages and marks; and this
-- of the next serial with the monitors and aliases.
pub record Shown : Type 1 where
  pub name : Named → Type 0
  pub bounded : Type 0
  pub sized : Type 0
  pub inbox : Inbox → Type 0
  pub watch : ℕ → WatchState → Type 0

module _ (L : Shown) where
  -- a term that was built, as those in signals were, and one that a process holds
  pub record IsBuilt (t : Term) : Type 0 where
    pub names : AllNames L.name t
    pub size : L.sized → IsSmallTerm t

  pub record IsHeld (t : Term) : Type 0 where
    pub names : AllNames L.name t
    pub size : L.sized → IsKeptTerm t

  pub held : (t : Term) → IsBuilt t → IsHeld t
  held t h = record { names = h.names; size = λ z. small_kept t (h.size z) }

  -- what a process holds
  pub record AreKept (t : Tables) : Type 0 where
    pub names : TableNames L.name t
    pub sizes : L.sized → TableSizes t
    pub inbox : L.inbox t.inbox

  -- it holds the same but for the values, or one of them, the links, the monitors and aliases, or the messages and marks
  module _ (t : Tables) (k : AreKept t) where
    pub rebound : (env : Environment) → EnvironmentNames L.name env → (L.sized → AllValues IsKeptTerm env) → AreKept (record t { env = env })
    rebound env names sizes = record {
      names = record { env = names; inbox = k.names.inbox; links = k.names.links; watch = k.names.watch; end = k.names.end };
      sizes = λ z. record { env = sizes z; messages = (k.sizes z).messages; end = (k.sizes z).end };
      inbox = k.inbox;
    }

    pub valued : (var : List ℕ) (value : Term) → IsHeld value → AreKept (record t { env = insert t.env var value })
    valued var value h =
        rebound (insert t.env var value) (insert_values (AllNames L.name) t.env var value k.names.env h.names)
        (λ z. insert_values IsKeptTerm t.env var value (k.sizes z).env (h.size z))

    pub linked : (links : LinkState) → LinkNames L.name links → AreKept (record t { links = links })
    linked links h = record {
      names = record { env = k.names.env; inbox = k.names.inbox; links = h; watch = k.names.watch; end = k.names.end };
      sizes = λ z. record { env = (k.sizes z).env; messages = (k.sizes z).messages; end = (k.sizes z).end };
      inbox = k.inbox;
    }

    pub watched : (watch : WatchState) → WatchNames L.name watch → AreKept (record t { watch = watch })
    watched watch h = record {
      names = record { env = k.names.env; inbox = k.names.inbox; links = k.names.links; watch = h; end = k.names.end };
      sizes = λ z. record { env = (k.sizes z).env; messages = (k.sizes z).messages; end = (k.sizes z).end };
      inbox = k.inbox;
    }

    pub messaged : (inbox : Inbox) → InboxNames L.name inbox → (L.sized → AllMessages inbox.messages) → L.inbox inbox → AreKept (record t { inbox = inbox })
    messaged inbox names sizes moved = record {
      names = record { env = k.names.env; inbox = names; links = k.names.links; watch = k.names.watch; end = k.names.end };
      sizes = λ z. record { env = (k.sizes z).env; messages = sizes z; end = (k.sizes z).end };
      inbox = moved;
    }

    -- it has ended with this reason
    pub ended : (reason : Term) → IsBuilt reason → L.inbox (emptied_inbox t.inbox) → AreKept (ended_tables t reason)
    ended reason h emptied = record {
      names = record {
        env = k.names.env;
        inbox = empty_inbox L.name t.inbox.next_arrival;
        links = links_ending_names L.name t.links k.names.links;
        watch = watch_ending_names L.name t.watch k.names.watch;
        end = h.names;
      };
      sizes = λ z. record { env = (k.sizes z).env; messages = All-nil (λ (m : ℕ × Term). IsKeptTerm m.1); end = h.size z };
      inbox = emptied;
    }
