-- Phrases are read back from their texts: those of one word, and those in brackets.
use Rattle.std.proofs.Common.{◌≡◌, ℕ, zero, suc, ◌+◌, ◌≤◌, true, false, List, [], ◌∷◌, ◌++◌, length, map, sum, drop, refl, sym, ap, subst, ◌∙◌, arith, append_assoc, length-append, append-nil}
use Rattle.std.specs.Prelude.{Ok, max}
use Rattle.std.specs.List.{concat}
use Rattle.std.proofs.lemmas.List.Sums.{sum_by-cons}
use Rattle.sig_terms.specs.Nodes.{greatest}
use Rattle.sig_terms.specs.TermText.{joined, after_comma}
use Rattle.sig_terms.specs.Words.{is_name_byte}
use Rattle.sig_terms.proofs.TokenReads.{Stops}
use Rattle.sig_tokens.specs.declared.known.Known.{Known}
use Rattle.sig_tokens.specs.declared.token.Sign as signs
use Rattle.sig_tokens.specs.declared.token.Sign.TheVariants as sign
use Rattle.sig_tokens.specs.declared.token.TokenKind.{TokenKind}
use Rattle.sig_tokens.specs.declared.token.TokenKind.TheVariants.{Sign}
use Rattle.sig_tokens.specs.declared.token.Token.{Token}
use Rattle.sig_tokens.specs.Faults.{◌>>=◌}
use Rattle.sig_tokens.specs.Signs.{is_comma, closes}
use Rattle.sig_tokens.specs.Phrases.{Spelling, Read, behind, elements, closed, is_before_tail, ending, bracketed, phrase_by, phrase_front, phrase_at}
use Rattle.sig_canon.proofs.WordTexts.{Anything, IsWord, when_true, comma, bar, close_bracket}
use Rattle.sig_canon.proofs.CutTexts.{tokens_at, token_at, token_text, word_tokens, IsCut, word_is_cut, cut_on, behind_text, Opens, word_opens}
use Rattle.sig_program.specs.declared.version.Version.{Version}

-- The phrase x is read from this text, whatever follows that ends it; it takes so many nodes and so much depth.
pub record IsRead (version : Version) {A : Type 0} (s : Spelling A) (known : Known) (a : List ℕ) (x : A) (nodes depth : ℕ) : Type 0 where
  pub cut : IsCut version Stops a
  pub opens : (rest : List ℕ) (at : ℕ) → Stops rest → Opens (tokens_at version at (a ++ rest))
  pub again : (line rest : List ℕ) (at end : ℕ) → drop at line ≡ a ++ rest → end ≡ at + length a → Stops rest → (deep left all : ℕ) → depth ≤ deep → all ≡ nodes + left →
      phrase_at s known line deep all (tokens_at version at (a ++ rest)) ≡ Ok (x, left, tokens_at version end rest)

-- a word at the front
pub word_step : (version : Version) {A : Type 0} (s : Spelling A) (known : Known) {Ends : List ℕ → Type 0} {kind : TokenKind} (word : List ℕ) → IsWord version Ends kind word →
    (line rest : List ℕ) (at end : ℕ) → drop at line ≡ word ++ rest → end ≡ at + length word → Ends rest → (deep left all : ℕ) → all ≡ suc left →
    phrase_at s known line (suc deep) all (tokens_at version at (word ++ rest)) ≡ phrase_by s known line (phrase_at s known line deep) kind word left (tokens_at version end rest)
unfolding phrase_at phrase_front
word_step version s known {Ends} {kind} word w line rest at end here e ends deep left all count =
    ap (phrase_at s known line (suc deep) all) (word_tokens version word rest at end w ends e)
    ∙ ap (λ (n : ℕ). phrase_at s known line (suc deep) n (token_at kind at word ∷ tokens_at version end rest)) count
    ∙ ap (λ (bytes : List ℕ). phrase_by s known line (phrase_at s known line deep) kind bytes left (tokens_at version end rest)) (token_text line word rest kind at here)

-- what is read from one word
one_word : (version : Version) {A : Type 0} (s : Spelling A) (known : Known) {Ends : List ℕ → Type 0} {kind : TokenKind} (word : List ℕ) (x : A) → IsWord version Ends kind word → ((rest : List ℕ) → Stops rest → Ends rest) →
    ((line : List ℕ) (read : ℕ → List Token → Read A) (nodes : ℕ) (ts : List Token) → phrase_by s known line read kind word nodes ts ≡ Ok (x, nodes, ts)) →
    (line rest : List ℕ) (at end : ℕ) → drop at line ≡ word ++ rest → end ≡ at + length word → Stops rest → (deep left all : ℕ) → 1 ≤ deep → all ≡ 1 + left →
    phrase_at s known line deep all (tokens_at version at (word ++ rest)) ≡ Ok (x, left, tokens_at version end rest)
one_word version s known word x w ends by line rest at end here e stops zero left all deep count = absurd (omega arith)
one_word version s known word x w ends by line rest at end here e stops (suc d) left all deep count =
    word_step version s known word w line rest at end here e (ends rest stops) d left all (omega arith) ∙ by line (phrase_at s known line d) left (tokens_at version end rest)

pub ends_sooner : (version : Version) {E F : List ℕ → Type 0} {a : List ℕ} → IsCut version E a → ((rest : List ℕ) → F rest → E rest) → IsCut version F a
ends_sooner version c f = record {
  whole = λ line rest at end here e stops. c.whole line rest at end here e (f rest stops);
  fewer = λ rest at end e stops. c.fewer rest at end e (f rest stops);
  clean = c.clean;
}

pub word_read : (version : Version) {A : Type 0} (s : Spelling A) (known : Known) {Ends : List ℕ → Type 0} {kind : TokenKind} (word : List ℕ) (x : A) → IsWord version Ends kind word → ((rest : List ℕ) → Stops rest → Ends rest) →
    ((close : signs.Sign) → closes close kind ≡ false) →
    ((line : List ℕ) (read : ℕ → List Token → Read A) (nodes : ℕ) (ts : List Token) → phrase_by s known line read kind word nodes ts ≡ Ok (x, nodes, ts)) → IsRead version s known word x 1 1
word_read version s known word x w ends none by = record {
  cut = ends_sooner version (word_is_cut version word w) ends;
  opens = λ rest at stops. word_opens version word rest at w (ends rest stops) none;
  again = one_word version s known word x w ends by;
}

-- the same phrase, by other names
pub read_as : (version : Version) {A : Type 0} {s : Spelling A} {known : Known} {a b : List ℕ} {x y : A} {n m d e : ℕ} → IsRead version s known a x n d → a ≡ b → x ≡ y → n ≡ m → d ≡ e → IsRead version s known b y m e
read_as version {A} {s} {known} {a} {b} {x} {y} {n} {m} {d} {e} r p q k l =
    subst (λ (z : List ℕ). IsRead version s known z y m e) p (subst (λ (z : A). IsRead version s known a z m e) q (subst (λ (z : ℕ). IsRead version s known a x z e) k (subst (λ (z : ℕ). IsRead version s known a x n z) l r)))

-- ---- brackets

-- The rest of elements in brackets is read from this text, up to the sign that closes them: with the elements before it, it makes
-- this phrase.
pub record IsTail (version : Version) {A : Type 0} (s : Spelling A) (known : Known) (close : signs.Sign) (a : List ℕ) (result : List A → A) (nodes depth : ℕ) : Type 0 where
  pub cut : IsCut version Anything a
  pub stops : (rest : List ℕ) → Stops (a ++ rest)
  pub again : (line rest : List ℕ) (at end : ℕ) → drop at line ≡ a ++ rest → end ≡ at + length a → (deep left all room : ℕ) (done : List A) → depth ≤ deep → all ≡ nodes + left →
      length (tokens_at version at (a ++ rest)) ≤ room →
      behind (elements (phrase_at s known line deep) (ending s close (phrase_at s known line deep)) room) (ending s close (phrase_at s known line deep)) all done (tokens_at version at (a ++ rest))
      ≡ Ok (result done, left, tokens_at version end rest)

pub tail_as : (version : Version) {A : Type 0} {s : Spelling A} {known : Known} {close : signs.Sign} {a b : List ℕ} {f g : List A → A} {n m d e : ℕ} → IsTail version s known close a f n d → a ≡ b → ((done : List A) → f done ≡ g done) →
    n ≡ m → d ≡ e → IsTail version s known close b g m e
tail_as version {A} {s} {known} {close} {a} {b} {f} {g} {n} {m} {d} {e} r p q k l =
    subst (λ (z : List ℕ). IsTail version s known close z g m e) p (subst (λ (z : ℕ). IsTail version s known close a g z e) k (subst (λ (z : ℕ). IsTail version s known close a g n z) l (record {
      cut = r.cut;
      stops = r.stops;
      again = λ line rest at end here e deep left all room done le count few. r.again line rest at end here e deep left all room done le count few ∙ ap (λ (x : A). Ok (x, left, tokens_at version end rest)) (q done);
    })))

-- the byte that closes elements
pub record Closing (version : Version) {A : Type 0} (s : Spelling A) (close : signs.Sign) (kind : TokenKind) (closer : ℕ) : Type 0 where
  pub word : IsWord version Anything kind (closer ∷ [])
  pub stops : is_name_byte closer ≡ false
  pub no_comma : is_comma kind ≡ false
  pub no_tail : is_before_tail s close kind ≡ false
  pub closes : closes close kind ≡ true

-- the byte that opens them
pub record Opening (version : Version) {A : Type 0} (s : Spelling A) (close : signs.Sign) (kind : TokenKind) (opener : ℕ) : Type 0 where
  pub word : IsWord version Anything kind (opener ∷ [])
  pub none : (c : signs.Sign) → closes c kind ≡ false
  pub by : (known : Known) (line : List ℕ) (read : ℕ → List Token → Read A) (bytes : List ℕ) (nodes : ℕ) (ts : List Token) → phrase_by s known line read kind bytes nodes ts ≡ bracketed s close read nodes ts

pub tail_end : (version : Version) {A : Type 0} (s : Spelling A) (known : Known) (close : signs.Sign) {kind : TokenKind} {closer : ℕ} → Closing version s close kind closer → IsTail version s known close (closer ∷ []) (s.enclosing close) 0 0
tail_end version {A} s known close {kind} {closer} c = record {
  cut = word_is_cut version (closer ∷ []) c.word;
  stops = λ rest. c.stops;
  again = λ line rest at end here e deep left all room done le count few.
      let read : ℕ → List Token → Read A = phrase_at s known line deep in
      ap (behind (elements read (ending s close read) room) (ending s close read) all done) (word_tokens version (closer ∷ []) rest at end c.word tt e)
      ∙ rw (c.no_comma, c.no_tail, c.closes) (ap (λ (n : ℕ). Ok (s.enclosing close done, n, tokens_at version end rest)) (count ∙ omega arith));
}

-- an element, and the rest behind it
element_step : (version : Version) {A : Type 0} (s : Spelling A) (known : Known) (close : signs.Sign) (a b : List ℕ) (x : A) (result : List A → A) (n m d e : ℕ) → IsRead version s known a x n d → IsTail version s known close b result m e →
    (line rest : List ℕ) (at end : ℕ) → drop at line ≡ a ++ (b ++ rest) → end ≡ at + length a + length b → (deep left all room : ℕ) (done : List A) → d ≤ deep → e ≤ deep → all ≡ n + (m + left) →
    length (tokens_at version at (a ++ (b ++ rest))) ≤ room →
    elements (phrase_at s known line deep) (ending s close (phrase_at s known line deep)) room all done (tokens_at version at (a ++ (b ++ rest))) ≡ Ok (result (done ++ x ∷ []), left, tokens_at version end rest)
unfolding elements
element_step version s known close a b x result n m d e r t line rest at end here place deep left all zero done le1 le2 count few =
    absurd (omega (arith, few, r.cut.fewer (b ++ rest) at (at + length a) refl (t.stops rest)))
element_step version {A} s known close a b x result n m d e r t line rest at end here place deep left all (suc room) done le1 le2 count few =
    let read : ℕ → List Token → Read A = phrase_at s known line deep in
    let finish : List A → ℕ → List Token → Read A = ending s close read in
    let mid : ℕ = at + length a in
    let shorter = r.cut.fewer (b ++ rest) at mid refl (t.stops rest) in
    ap (λ (o : Read A). o >>= λ y. behind (elements read finish room) finish y.1 (done ++ y.0 ∷ []) y.2) (r.again line (b ++ rest) at mid here refl (t.stops rest) deep (m + left) all le1 count)
    ∙ t.again line rest mid end (behind_text line a (b ++ rest) at mid here refl) place deep left (m + left) room (done ++ x ∷ []) le2 refl (omega (arith, shorter, few))

pub byte_on : (version : Version) {kind : TokenKind} (b : ℕ) (a : List ℕ) {F : List ℕ → Type 0} → IsWord version Anything kind (b ∷ []) → IsCut version F a → IsCut version F (b ∷ a)
byte_on version b a w c = cut_on version (b ∷ []) a (word_is_cut version (b ∷ []) w) c (λ rest stops. tt)

pub tail_item : (version : Version) {A : Type 0} (s : Spelling A) (known : Known) (close : signs.Sign) (a b : List ℕ) (x : A) (result : List A → A) (n m d e : ℕ) → IsRead version s known a x n d → IsTail version s known close b result m e →
    IsTail version s known close (44 ∷ (a ++ b)) (λ done. result (done ++ x ∷ [])) (n + m) (max d e)
tail_item version {A} s known close a b x result n m d e r t = record {
  cut = byte_on version 44 (a ++ b) (comma version) (cut_on version a b r.cut t.cut (λ rest _. t.stops rest));
  stops = λ rest. refl;
  again = λ line rest at end here place deep left all room done le count few.
      let read : ℕ → List Token → Read A = phrase_at s known line deep in
      let finish : List A → ℕ → List Token → Read A = ending s close read in
      let split : 44 ∷ ((a ++ b) ++ rest) ≡ (44 ∷ []) ++ (a ++ (b ++ rest)) = ap (λ (bytes : List ℕ). 44 ∷ bytes) (append_assoc a b rest) in
      let there : drop (at + 1) line ≡ a ++ (b ++ rest) = behind_text line (44 ∷ []) (a ++ (b ++ rest)) at (at + 1) (here ∙ split) refl in
      let front : tokens_at version at (44 ∷ ((a ++ b) ++ rest)) ≡ token_at (Sign sign.Comma) at (44 ∷ []) ∷ tokens_at version (at + 1) (a ++ (b ++ rest)) = ap (tokens_at version at) split ∙ word_tokens version (44 ∷ []) (a ++ (b ++ rest)) at (at + 1) (comma version) tt refl in
      ap (behind (elements read finish room) finish all done) front
      ∙ element_step version s known close a b x result n m d e r t line rest (at + 1) end there (omega (arith, place, length-append a b)) deep left all room done (omega (arith, le)) (omega (arith, le)) (omega (arith, count)) (omega (arith, few, ap length front));
}

-- no element is there
brackets_open : {A : Type 0} (s : Spelling A) (close : signs.Sign) (read : ℕ → List Token → Read A) (nodes : ℕ) (ts : List Token) → Opens ts → bracketed s close read nodes ts ≡ elements read (ending s close read) (length ts) nodes [] ts
unfolding bracketed
brackets_open s close read nodes [] opens = absurd opens
brackets_open s close read nodes (t ∷ ts) opens = rw (opens close) refl

brackets_empty : {A : Type 0} (s : Spelling A) (close : signs.Sign) (read : ℕ → List Token → Read A) (nodes : ℕ) (t : Token) (ts : List Token) → closes close t.kind ≡ true → bracketed s close read nodes (t ∷ ts) ≡ Ok (s.enclosing close [], nodes, ts)
unfolding bracketed
brackets_empty s close read nodes t ts shut = rw shut refl

empty_again : (version : Version) {A : Type 0} (s : Spelling A) (known : Known) (close : signs.Sign) {first last : TokenKind} (opener closer : ℕ) → Opening version s close first opener → Closing version s close last closer →
    (line rest : List ℕ) (at end : ℕ) → drop at line ≡ opener ∷ closer ∷ rest → end ≡ at + 2 → (deep left all : ℕ) → 1 ≤ deep → all ≡ 1 + left →
    phrase_at s known line deep all (tokens_at version at (opener ∷ closer ∷ rest)) ≡ Ok (s.enclosing close [], left, tokens_at version end rest)
empty_again version s known close opener closer o c line rest at end here e zero left all le count = absurd (omega arith)
empty_again version s known close {first} {last} opener closer o c line rest at end here e (suc deep) left all le count =
    word_step version s known (opener ∷ []) o.word line (closer ∷ rest) at (at + 1) here refl tt deep left all (omega (arith, count))
    ∙ o.by known line (phrase_at s known line deep) (opener ∷ []) left (tokens_at version (at + 1) (closer ∷ rest))
    ∙ ap (bracketed s close (phrase_at s known line deep) left) (word_tokens version (closer ∷ []) rest (at + 1) end c.word tt (omega (arith, e)))
    ∙ brackets_empty s close (phrase_at s known line deep) left (token_at last (at + 1) (closer ∷ [])) (tokens_at version end rest) c.closes

pub empty_read : (version : Version) {A : Type 0} (s : Spelling A) (known : Known) (close : signs.Sign) {first last : TokenKind} (opener closer : ℕ) → Opening version s close first opener → Closing version s close last closer →
    IsRead version s known (opener ∷ closer ∷ []) (s.enclosing close []) 1 1
empty_read version s known close opener closer o c = record {
  cut = byte_on version opener (closer ∷ []) o.word (ends_sooner version (word_is_cut version (closer ∷ []) c.word) (λ rest stops. tt));
  opens = λ rest at stops. word_opens version (opener ∷ []) (closer ∷ rest) at o.word tt o.none;
  again = λ line rest at end here e stops. empty_again version s known close opener closer o c line rest at end here e;
}

some_again : (version : Version) {A : Type 0} (s : Spelling A) (known : Known) (close : signs.Sign) {first : TokenKind} (opener : ℕ) → Opening version s close first opener →
    (a b : List ℕ) (x : A) (result : List A → A) (n m d e : ℕ) → IsRead version s known a x n d → IsTail version s known close b result m e →
    (line rest : List ℕ) (at end : ℕ) → drop at line ≡ opener ∷ (a ++ (b ++ rest)) → end ≡ at + 1 + length a + length b → (deep left all : ℕ) → 1 + max d e ≤ deep → all ≡ 1 + (n + m) + left →
    phrase_at s known line deep all (tokens_at version at (opener ∷ (a ++ (b ++ rest)))) ≡ Ok (result (x ∷ []), left, tokens_at version end rest)
some_again version s known close opener o a b x result n m d e r t line rest at end here place zero left all le count = absurd (omega arith)
some_again version {A} s known close opener o a b x result n m d e r t line rest at end here place (suc deep) left all le count =
    let read : ℕ → List Token → Read A = phrase_at s known line deep in
    let ts : List Token = tokens_at version (at + 1) (a ++ (b ++ rest)) in
    word_step version s known (opener ∷ []) o.word line (a ++ (b ++ rest)) at (at + 1) here refl tt deep (n + (m + left)) all (omega (arith, count))
    ∙ o.by known line read (opener ∷ []) (n + (m + left)) ts
    ∙ brackets_open s close read (n + (m + left)) ts (r.opens (b ++ rest) (at + 1) (t.stops rest))
    ∙ element_step version s known close a b x result n m d e r t line rest (at + 1) end (behind_text line (opener ∷ []) (a ++ (b ++ rest)) at (at + 1) here refl) place deep left (n + (m + left)) (length ts) [] (omega (arith, le)) (omega (arith, le)) refl (omega arith)

pub some_read : (version : Version) {A : Type 0} (s : Spelling A) (known : Known) (close : signs.Sign) {first : TokenKind} (opener : ℕ) → Opening version s close first opener →
    (a b : List ℕ) (x : A) (result : List A → A) (n m d e : ℕ) → IsRead version s known a x n d → IsTail version s known close b result m e →
    IsRead version s known (opener ∷ (a ++ b)) (result (x ∷ [])) (1 + (n + m)) (1 + max d e)
some_read version s known close opener o a b x result n m d e r t = record {
  cut = byte_on version opener (a ++ b) o.word (cut_on version a b r.cut (ends_sooner version t.cut (λ rest stops. tt)) (λ rest _. t.stops rest));
  opens = λ rest at stops. word_opens version (opener ∷ []) ((a ++ b) ++ rest) at o.word tt o.none;
  again = λ line rest at end here place stops deep left all le count.
      let split : opener ∷ ((a ++ b) ++ rest) ≡ opener ∷ (a ++ (b ++ rest)) = ap (λ (bytes : List ℕ). opener ∷ bytes) (append_assoc a b rest) in
      ap (λ (bytes : List ℕ). phrase_at s known line deep all (tokens_at version at bytes)) split
      ∙ some_again version s known close opener o a b x result n m d e r t line rest at end (here ∙ split) (omega (arith, place, length-append a b)) deep left all le count;
}

-- elements, by their texts
pub data AreRead (version : Version) {A : Type 0} (s : Spelling A) (known : Known) : List (List ℕ) → List A → List ℕ → List ℕ → Type 0 where
  none : AreRead version s known [] [] [] []
  more : {a : List ℕ} {x : A} {n d : ℕ} {bs : List (List ℕ)} {xs : List A} {ns ds : List ℕ} → IsRead version s known a x n d → AreRead version s known bs xs ns ds → AreRead version s known (a ∷ bs) (x ∷ xs) (n ∷ ns) (d ∷ ds)

elements_tail : (version : Version) {A : Type 0} (s : Spelling A) (known : Known) (close : signs.Sign) {last : TokenKind} (closer : ℕ) → Closing version s close last closer →
    {bs : List (List ℕ)} {xs : List A} {ns ds : List ℕ} → AreRead version s known bs xs ns ds →
    IsTail version s known close (concat (map after_comma bs) ++ closer ∷ []) (λ done. s.enclosing close (done ++ xs)) (sum ns) (greatest ds)
elements_tail version s known close closer c none = tail_as version (tail_end version s known close c) refl (λ done. ap (s.enclosing close) (sym (append-nil done))) refl refl
elements_tail version s known close closer c (more {a = a} {x = x} {n = n} {d = d} {bs = bs} {xs = xs} {ns = ns} {ds = ds} r rs) =
    tail_as version (tail_item version s known close a (concat (map after_comma bs) ++ closer ∷ []) x (λ done. s.enclosing close (done ++ xs)) n (sum ns) d (greatest ds) r (elements_tail version s known close closer c rs))
    (ap (λ (bytes : List ℕ). 44 ∷ bytes) (sym (append_assoc a (concat (map after_comma bs)) (closer ∷ []))))
    (λ done. ap (s.enclosing close) (append_assoc done (x ∷ []) xs))
    (sym (sum_by-cons (λ k. k) n ns)) refl

-- elements in brackets
pub elements_read : (version : Version) {A : Type 0} (s : Spelling A) (known : Known) (close : signs.Sign) {first last : TokenKind} (opener closer : ℕ) → Opening version s close first opener → Closing version s close last closer →
    {bs : List (List ℕ)} {xs : List A} {ns ds : List ℕ} → AreRead version s known bs xs ns ds →
    IsRead version s known (opener ∷ (joined bs ++ closer ∷ [])) (s.enclosing close xs) (1 + sum ns) (1 + greatest ds)
elements_read version s known close opener closer o c none = empty_read version s known close opener closer o c
elements_read version s known close opener closer o c (more {a = a} {x = x} {n = n} {d = d} {bs = bs} {xs = xs} {ns = ns} {ds = ds} r rs) =
    read_as version (some_read version s known close opener o a (concat (map after_comma bs) ++ closer ∷ []) x (λ done. s.enclosing close (done ++ xs)) n (sum ns) d (greatest ds) r (elements_tail version s known close closer c rs))
    (ap (λ (bytes : List ℕ). opener ∷ bytes) (sym (append_assoc a (concat (map after_comma bs)) (closer ∷ []))))
    refl
    (ap (λ (k : ℕ). 1 + k) (sym (sum_by-cons (λ k. k) n ns))) refl

-- a bar, the tail of a list, and its end
pub bar_tail : (version : Version) {A : Type 0} (s : Spelling A) (known : Known) (a : List ℕ) (x : A) (n d : ℕ) → s.has_tails ≡ true → IsRead version s known a x n d →
    IsTail version s known sign.CloseBracket (124 ∷ (a ++ 93 ∷ [])) (λ done. s.nested done x) n d
bar_tail version {A} s known a x n d tails r = record {
  cut = byte_on version 124 (a ++ 93 ∷ []) (bar version) (cut_on version a (93 ∷ []) r.cut (word_is_cut version (93 ∷ []) (close_bracket version)) (λ rest _. refl));
  stops = λ rest. refl;
  again = λ line rest at end here place deep left all room done le count few.
      let read : ℕ → List Token → Read A = phrase_at s known line deep in
      let finish : List A → ℕ → List Token → Read A = ending s sign.CloseBracket read in
      let split : 124 ∷ ((a ++ 93 ∷ []) ++ rest) ≡ (124 ∷ []) ++ (a ++ (93 ∷ rest)) = ap (λ (bytes : List ℕ). 124 ∷ bytes) (append_assoc a (93 ∷ []) rest) in
      let there : drop (at + 1) line ≡ a ++ (93 ∷ rest) = behind_text line (124 ∷ []) (a ++ (93 ∷ rest)) at (at + 1) (here ∙ split) refl in
      let front : tokens_at version at (124 ∷ ((a ++ 93 ∷ []) ++ rest)) ≡ token_at (Sign sign.Bar) at (124 ∷ []) ∷ tokens_at version (at + 1) (a ++ (93 ∷ rest)) = ap (tokens_at version at) split ∙ word_tokens version (124 ∷ []) (a ++ (93 ∷ rest)) at (at + 1) (bar version) tt refl in
      let mid : ℕ = at + 1 + length a in
      let found : read all (tokens_at version (at + 1) (a ++ (93 ∷ rest))) ≡ Ok (x, left, token_at (Sign sign.CloseBracket) mid (93 ∷ []) ∷ tokens_at version end rest) =
      r.again line (93 ∷ rest) (at + 1) mid there refl refl deep left all le count
      ∙ ap (λ (ts : List Token). Ok (x, left, ts)) (word_tokens version (93 ∷ []) rest mid end (close_bracket version) tt (omega (arith, place, length-append a (93 ∷ [])))) in
      let before : is_before_tail s sign.CloseBracket (Sign sign.Bar) ≡ true = rw tails refl in
      ap (behind (elements read finish room) finish all done) front
      ∙ when_true (is_before_tail s sign.CloseBracket (Sign sign.Bar)) _ _ before
      ∙ ap (λ (o : Read A). o >>= λ y. closed (closes sign.CloseBracket) (s.nested done y.0) y.1 y.2) found;
}
