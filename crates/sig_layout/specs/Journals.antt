-- The journal is in order, and the seat with the role knows what it says.
use Rattle.std.specs.Prelude.{◌≡◌, ℕ, Bool, true, false, List}
use mathlib.Core.Option.{some}
use lib.ListN.{get_elem?}
use Rattle.sig_layout.specs.declared.policy.Policy.{Policy}
use Rattle.sig_layout.specs.declared.entry.Entry.{Entry}
use Rattle.sig_layout.specs.declared.knows.Knows.{Knows}
use Rattle.sig_layout.specs.Summaries.{summed, due_at, is_remove, IsAllowed}
use Rattle.sig_layout.specs.Policies.{fetch_count}
use Rattle.sig_layout.specs.Core.{QState}

-- the seat with the role knows whether a removal is due and how many fetches there were, and no other seat thinks so
pub record Owes (p : Policy) (j : List Entry) (role due : Bool) (fetches : ℕ) : Type 0 where
  pub reader : role ≡ true → due ≡ is_remove (due_at p j)
  pub others : role ≡ false → due ≡ false
  pub made : role ≡ true → fetches ≡ fetch_count j
  pub unmade : role ≡ false → fetches ≡ 0

pub record JournalAs (p : Policy) (j : List Entry) (mode removing switched : Bool) (seats : List Knows) : Type 0 where
  pub allowed : IsAllowed p j
  -- the mode is on exactly where the journal is in the installed state, but while the holder of the outer turn switches it
  pub moded : switched ≡ false → removing ≡ false → mode ≡ (summed j).installed
  pub on : switched ≡ true → mode ≡ true
  pub owes : (i : ℕ) (v : Knows) → get_elem? seats i ≡ some v → Owes p j v.role v.due v.fetches

abbrev pub Journals : QState → Type 0
Journals q = JournalAs q.setup.policy q.outer.journal q.mode q.removing q.switched q.seats
