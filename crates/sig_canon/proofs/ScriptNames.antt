-- Scripts that were read, and generated ones: the names of their processes are name tokens.
use Rattle.std.proofs.Common.{◌≡◌, ℕ, List, [], ◌∷◌, map, All, Ok, true, codes, refl}
use Rattle.std.proofs.lemmas.List.Elements.{All-nil, All-cons}
use Rattle.sig_terms.specs.Words.{is_name}
use Rattle.sig_program.specs.Scripts.{Declared, Program}
use Rattle.sig_program.specs.ScriptNames.{AreNames}
use Rattle.sig_reader.specs.Grammar.{script_of}
use Rattle.sig_canon.specs.Generated.{hub, client, client_names, generated}
use Rattle.sig_canon.proofs.ReadableLemmas.{readable}

pub read_names : (bytes : List ℕ) (s : Program) → script_of bytes ≡ Ok s → AreNames s
read_names bytes s e i d lt = ((readable bytes s e).procs i d lt).name.1

abbrev IsNamed : Declared → Type 0
IsNamed d = is_name d.name ≡ true

hub-named : IsNamed hub
unfolding hub
hub-named = refl

-- a client more, of this name
more : (n : ℕ) (name : List ℕ) (names : List (List ℕ)) → is_name name ≡ true → All IsNamed (map (client n) names) → All IsNamed (map (client n) (name ∷ names))
unfolding client
more n name names e h = All-cons IsNamed (client n name) (map (client n) names) e h

pub generated_names : (n : ℕ) → AreNames (generated n)
unfolding generated
generated_names n =
    let from-7 = more n (codes "c7") [] refl (All-nil IsNamed) in
    let from-6 = more n (codes "c6") (codes "c7" ∷ []) refl from-7 in
    let from-5 = more n (codes "c5") (codes "c6" ∷ codes "c7" ∷ []) refl from-6 in
    let from-4 = more n (codes "c4") (codes "c5" ∷ codes "c6" ∷ codes "c7" ∷ []) refl from-5 in
    let from-3 = more n (codes "c3") (codes "c4" ∷ codes "c5" ∷ codes "c6" ∷ codes "c7" ∷ []) refl from-4 in
    let from-2 = more n (codes "c2") (codes "c3" ∷ codes "c4" ∷ codes "c5" ∷ codes "c6" ∷ codes "c7" ∷ []) refl from-3 in
    let from-1 = more n (codes "c1") (codes "c2" ∷ codes "c3" ∷ codes "c4" ∷ codes "c5" ∷ codes "c6" ∷ codes "c7" ∷ []) refl from-2 in
    let from-0 = more n (codes "c0") (codes "c1" ∷ codes "c2" ∷ codes "c3" ∷ codes "c4" ∷ codes "c5" ∷ codes "c6" ∷ codes "c7" ∷ []) refl from-1 in
    All-cons IsNamed hub (map (client n) client_names) hub-named from-0
