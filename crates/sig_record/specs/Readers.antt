-- Readers of what stands at the front of bytes, made of smaller ones (this project's own). Each gives what it has read, and the
-- bytes behind it.
use Rattle.std.specs.Prelude.{ℕ, zero, suc, List, [], ◌∷◌, ◌++◌, length, Bool, if◌then◌else◌, Option, Some, None, codes}
use Rattle.sig_terms.specs.Tokens.{◌>>=◌, after_text}

abbrev pub Reader : Type 0 → Type 0
Reader X = List ℕ → Option (X × List ℕ)

-- what is read, made into another value
abbrev pub read_as : {X Y : Type 0} → (X → Y) → Reader X → Reader Y
read_as make read bytes = read bytes >>= λ x. Some (make x.0, x.1)

-- what is read, where it passes the test
abbrev pub passing : {X : Type 0} → (X → Bool) → Reader X → Reader X
passing test read bytes = read bytes >>= λ x. if test x.0 then Some x else None

-- one behind the other
abbrev pub joined : {X Y : Type 0} → Reader X → Reader Y → Reader (X × Y)
joined first second bytes = first bytes >>= λ x. second x.1 >>= λ y. Some ((x.0, y.0), y.1)

-- with the text behind it
abbrev pub closed : {X : Type 0} → List ℕ → Option (X × List ℕ) → Option (X × List ℕ)
closed text front = front >>= λ x. after_text text x.1 >>= λ rest. Some (x.0, rest)

abbrev pub ended : {X : Type 0} → List ℕ → Reader X → Reader X
ended text read bytes = closed text (read bytes)

-- with the text before it
abbrev pub behind : {X : Type 0} → List ℕ → Reader X → Reader X
behind text read bytes = after_text text bytes >>= read

-- with a space between the two
abbrev pub spaced : {X Y : Type 0} → Reader X → Reader Y → Reader (X × Y)
spaced first second = joined first (behind (codes " ") second)

-- what is behind a text by read, and where there is none the other
abbrev pub or_else : {X : Type 0} → Option (List ℕ) → (List ℕ → Option X) → Option X → Option X
or_else None read other = other
or_else (Some rest) read other = read rest

-- at most room items behind those that were read, as long as the bytes begin so, each by what was read before it
unfoldable pub items_on : {X : Type 0} → (List ℕ → Bool) → (List X → Reader X) → ℕ → List X → Reader (List X)
items_on begins read zero items bytes = if begins bytes then None else Some (items, bytes)
items_on begins read (suc room) items bytes =
    if begins bytes then (read items bytes >>= λ x. items_on begins read room (items ++ x.0 ∷ []) x.1) else Some (items, bytes)

-- the items at the front
abbrev pub many : {X : Type 0} → (List ℕ → Bool) → (List X → Reader X) → Reader (List X)
many begins read bytes = items_on begins read (length bytes) [] bytes
