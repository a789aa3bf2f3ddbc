-- The term at the front of bytes, within a depth and a number of nodes; with it the nodes that are left, and the bytes
-- behind it.
use Rattle.std.specs.Prelude.{◌≡◌, ℕ, zero, suc, List, [], ◌∷◌, ◌++◌, ◌||◌, ◌==◌, if◌then◌else◌, Option, Some, None, Result, Ok, Err}
use Rattle.sig_terms.specs.Words.{is_lower, is_digit}
use Rattle.sig_terms.specs.Tokens.{◌>>=◌, int_at, name_at, quoted_at, pid_at, serial_at, reference_at}
use Rattle.sig_terms.specs.declared.pid.Pid.{Pid}
use Rattle.sig_terms.specs.declared.term.Term.{Term}
use Rattle.sig_terms.specs.declared.term.Term.TheVariants as term
use Rattle.sig_terms.specs.declared.refusal.ReadTerm.{ReadTerm}
use Rattle.sig_terms.specs.declared.refusal.ReadTerm.TheVariants as refusal

-- What a reader returned, seen by view, is what stands there, unless memory ran out.
abbrev pub Fails : {Y : Type 0} → ReadTerm → Option Y → Type 0
Fails refusal.BadTerm read = read ≡ None
Fails refusal.Memory read = Unit {0}

abbrev pub Gives : {X Y : Type 0} → (X → Y) → Result X ReadTerm → Option Y → Type 0
Gives view (Ok x) read = read ≡ Some (view x)
Gives view (Err e) read = Fails e read

-- the readers of what has no elements, as readers of terms
abbrev pub int_term_at : List ℕ → Option (Term × List ℕ)
int_term_at bytes = int_at bytes >>= λ x. Some (term.Int x.0, x.1)

abbrev pub name_term_at : List ℕ → Option (Term × List ℕ)
name_term_at bytes = name_at bytes >>= λ x. Some (term.Atom x.0, x.1)

abbrev pub quoted_term_at : List ℕ → Option (Term × List ℕ)
quoted_term_at bytes = quoted_at bytes >>= λ x. Some (term.Atom x.0, x.1)

abbrev pub pid_term_at : List ℕ → Option (Term × List ℕ)
pid_term_at bytes = pid_at bytes >>= λ x. Some (term.Pid x.0, x.1)

abbrev pub serial_term_at : Pid → List ℕ → Option (Term × List ℕ)
serial_term_at owner bytes = serial_at owner bytes >>= λ x. Some (term.Ref x.0, x.1)

abbrev pub reference_term_at : List ℕ → Option (Term × List ℕ)
reference_term_at bytes = reference_at bytes >>= λ x. Some (term.Ref x.0, x.1)

-- a term behind a mark: `'`, `<` or `#`
abbrev pub marked_at : ℕ → List ℕ → Option (Term × List ℕ)
marked_at b bs =
    if b == 39 then quoted_term_at bs
    else if b == 60 then pid_term_at bs
    else if b == 35 then reference_term_at bs
    else None

-- a term without elements
unfoldable pub leaf_at : List ℕ → Option (Term × List ℕ)
leaf_at [] = None
leaf_at (b ∷ bs) =
    if b == 45 || is_digit b then int_term_at (b ∷ bs)
    else if is_lower b then name_term_at (b ∷ bs)
    else marked_at b bs

-- behind an element: a comma and more, or the end
abbrev pub next_at : ℕ → (ℕ → List Term → List ℕ → Option (List Term × ℕ × List ℕ)) → ℕ → List Term → List ℕ → Option (List Term × ℕ × List ℕ)
next_at close more nodes items [] = None
next_at close more nodes items (b ∷ bs) = if b == 44 then more nodes items bs else if b == close then Some (items, nodes, bs) else None

-- at most room elements behind items, each by read, up to the end
unfoldable pub elements_at : (ℕ → List ℕ → Option (Term × ℕ × List ℕ)) → ℕ → ℕ → ℕ → List Term → List ℕ → Option (List Term × ℕ × List ℕ)
elements_at read close zero nodes items bytes = None
elements_at read close (suc room) nodes items bytes =
    read nodes bytes >>= λ x. next_at close (elements_at read close room) x.1 (items ++ x.0 ∷ []) x.2

-- the elements behind a bracket
unfoldable pub items_at : (ℕ → List ℕ → Option (Term × ℕ × List ℕ)) → ℕ → ℕ → List ℕ → Option (List Term × ℕ × List ℕ)
items_at read close nodes [] = None
items_at read close nodes (b ∷ bs) = if b == close then Some ([], nodes, bs) else elements_at read close nodes nodes [] (b ∷ bs)

-- the term of these elements, by the byte that ends it
abbrev pub enclosed : ℕ → List Term → Term
enclosed close ts = if close == 125 then term.Tuple ts else term.List ts

-- the tuple or the list behind a bracket
abbrev pub compound_at : (ℕ → List ℕ → Option (Term × ℕ × List ℕ)) → ℕ → ℕ → List ℕ → Option (Term × ℕ × List ℕ)
compound_at read close nodes bytes = items_at read close nodes bytes >>= λ x. Some (enclosed close x.0, x.1, x.2)

-- a term without elements leaves all the nodes
abbrev pub lone_at : ℕ → List ℕ → Option (Term × ℕ × List ℕ)
lone_at nodes bytes = leaf_at bytes >>= λ x. Some (x.0, nodes, x.1)

-- a term whose elements are read by read
unfoldable pub node_at : (ℕ → List ℕ → Option (Term × ℕ × List ℕ)) → ℕ → List ℕ → Option (Term × ℕ × List ℕ)
node_at read nodes [] = None
node_at read nodes (b ∷ bs) =
    if b == 123 then (items_at read 125 nodes bs >>= λ x. Some (term.Tuple x.0, x.1, x.2))
    else if b == 91 then (items_at read 93 nodes bs >>= λ x. Some (term.List x.0, x.1, x.2))
    else (leaf_at (b ∷ bs) >>= λ x. Some (x.0, nodes, x.1))

unfoldable pub front_by : (ℕ → List ℕ → Option (Term × ℕ × List ℕ)) → ℕ → List ℕ → Option (Term × ℕ × List ℕ)
front_by read zero bytes = None
front_by read (suc nodes) bytes = node_at read nodes bytes

unfoldable pub term_at : ℕ → ℕ → List ℕ → Option (Term × ℕ × List ℕ)
term_at zero nodes bytes = None
term_at (suc depth) nodes bytes = front_by (term_at depth) nodes bytes
