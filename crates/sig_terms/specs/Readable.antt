-- The terms that the types allow, and those of them that a reader takes (the bounds are this project's own).
use Rattle.std.specs.Prelude.{◌≡◌, ◌≤◌, ℕ, List, ◌++◌, ◌^◌, IsTrue, Bool, ◌&&◌, nat_lt, ℤ, pos, negsuc}
use Rattle.std.specs.List.{list_all}
use Rattle.sig_terms.specs.Words.{is_atom}
use Rattle.sig_terms.specs.TermText.{term_text}
use Rattle.sig_terms.specs.Nodes.{node_count, depth_of}
use Rattle.sig_terms.specs.declared.term.Term.{Term}
use Rattle.sig_terms.specs.declared.term.Term.TheOpen.{Term-F}
use Rattle.sig_terms.specs.declared.term.Term.TheOpen as layer
use Rattle.sig_terms.specs.declared.term.Term.TheFolds.{fold-Term}
use Rattle.sig_terms.specs.declared.reading.TheConstants.{READ_DEPTH, READ_NODES}

-- an integer of 64 bits, signed
abbrev pub is_wide : ℤ → Bool
is_wide (pos n) = nat_lt n (2 ^ 63)
is_wide (negsuc n) = nat_lt n (2 ^ 63)

abbrev pub is_term_step : Term-F Bool → Bool
is_term_step (layer.Int z) = is_wide z
is_term_step (layer.Atom bytes) = is_atom bytes
is_term_step (layer.Pid p) = nat_lt p.0 (2 ^ 32)
is_term_step (layer.Ref r) = nat_lt r.owner.0 (2 ^ 32) && nat_lt r.serial (2 ^ 64)
is_term_step (layer.Tuple each) = list_all (λ b. b) each
is_term_step (layer.List each) = list_all (λ b. b) each

-- integers of 64 bits, pids and owners of 32, serials of 64, and atoms that are atoms
abbrev pub is_term : Term → Bool
is_term = fold-Term Bool is_term_step

-- a term that can lie in memory
abbrev pub IsTerm : Term → Type 0
IsTerm t = IsTrue (is_term t)

-- such a term of at most READ_NODES nodes and depth READ_DEPTH
pub record IsReadable (t : Term) : Type 0 where
  pub term : IsTerm t
  pub nodes : node_count t ≤ READ_NODES
  pub depth : depth_of t ≤ READ_DEPTH

-- the text of the term stands at the front of the bytes
abbrev pub Begins : List ℕ → Term → Type 0
Begins bytes t = (rest : List ℕ) × (bytes ≡ term_text t ++ rest)
