-- The words that ask for a command are those that the code takes for it.
use Rattle.std.proofs.Common.{◌≡◌, ◌≢◌, ◌⊎◌, inl, inr, ℕ, ◌-◌, ◌^◌, ◌<◌, ◌≤◌, Bool, true, false, ◌&&◌, List, [], ◌∷◌, ◌++◌, length, map, Option, Some, None, refl, sym, ap, ap₂, ◌∙◌, subst, arith}
use Rattle.std.specs.Prelude.{codes, if◌then◌else◌, nat_lt, nat_le, option_and_then}
use Rattle.std.specs.Str.{bytes_eq}
use Rattle.std.proofs.lemmas.Slice.Eq.{bytes_eq-Decides}
use Rattle.std.proofs.lemmas.Bool.Decides.{nat_tests}
use Rattle.sig_order.specs.declared.at.At.{At}
use Rattle.sig_view.specs.declared.command.Command.{Command}
use Rattle.sig_view.specs.declared.command.Command.TheVariants.{Chart, Concurrent, Outcomes, OutcomeRecord}
use Rattle.sig_tool.specs.Numbers.{event_named, number_in}
use Rattle.sig_view.specs.Commands.{AreOption, AreStates, AskFor, IsAsked, allowed, chart_of, chart_with, concurrent_of, concurrent_with, option_of, outcomes_of, outcomes_with, record_of, record_with, states_in, states_option}

abbrev Words : Type 0
Words = List (List ℕ)

-- ---- what the code takes

-- of one word: `outcomes` or `chart`
abbrev of_one : List ℕ → Option Command
of_one word = if bytes_eq word (codes "outcomes") then Some (Outcomes 200000) else chart_of word (Some 0) (Some (2 ^ 64 - 1))

-- of three words: `chart` or `outcomes` with one option, or `concurrent` with a pid and an event
abbrev of_three : List ℕ → List ℕ → List ℕ → Option Command
of_three word second third =
    if bytes_eq second (codes "--from") then chart_of word (number_in third) (Some (2 ^ 64 - 1))
    else (if bytes_eq second (codes "--to") then chart_of word (Some 0) (number_in third)
    else (if bytes_eq second (codes "--states") then outcomes_of word (states_in third)
    else (if bytes_eq second (codes "--record") then record_of word (Some 200000) (number_in third) else concurrent_of word (event_named second third))))

-- of five words: `outcomes` with two options in either order, or `chart` with two in their order
abbrev of_five : List ℕ → List ℕ → List ℕ → List ℕ → List ℕ → Option Command
of_five word first one second other =
    if bytes_eq first (codes "--states") then record_of word (states_in one) (option_of (codes "--record") second other)
    else (if bytes_eq first (codes "--record") then record_of word (states_option second other) (number_in one)
    else chart_of word (option_of (codes "--from") first one) (option_of (codes "--to") second other))

-- the command that these words are
abbrev command_of : List (List ℕ) → Option Command
command_of (word ∷ []) = of_one word
command_of (word ∷ second ∷ third ∷ []) = of_three word second third
command_of (word ∷ first ∷ one ∷ second ∷ other ∷ []) = of_five word first one second other
command_of _ = None

-- ---- that is asked for

chosen : {A : Type 0} (b : Bool) (x y z : A) → (if b then x else y) ≡ z → ((b ≡ true) × (x ≡ z)) ⊎ (y ≡ z)
chosen true x y z h = inl (refl, h)
chosen false x y z h = inr h

met : {A : Type 0} (b : Bool) (o : Option A) (x : A) → (if b then o else None) ≡ Some x → (b ≡ true) × (o ≡ Some x)
met true o x h = (refl, h)
met false o x h = absurd (cc)

same : (a b : List ℕ) → bytes_eq a b ≡ true → a ≡ b
same a b h = (bytes_eq-Decides a b).0 h

-- the option stands there
named_option : (name word text : List ℕ) (default number : ℕ) → bytes_eq word name ≡ true → number_in text ≡ Some number → AreOption name default number (word ∷ text ∷ [])
named_option name word text default number t h = inr (text, ap (λ (w : List ℕ). w ∷ text ∷ []) (same word name t), h)

no_option : (name : List ℕ) (default number : ℕ) → Some default ≡ Some number → AreOption name default number []
no_option name default number h = inl (refl, cc)

option_met : (name word text : List ℕ) (default number : ℕ) → option_of name word text ≡ Some number → AreOption name default number (word ∷ text ∷ [])
option_met name word text default number h =
    let m = met (bytes_eq word name) (number_in text) number h in named_option name word text default number m.0 m.1

allowed_so : (o : Option ℕ) (states : ℕ) → option_and_then allowed o ≡ Some states → (o ≡ Some states) × (0 < states) × (states ≤ 10000000)
allowed_so None states h = absurd (cc)
allowed_so (Some n) states h =
    let m = met (nat_lt 0 n && nat_le n 10000000) (Some n) states h in
    let is : n ≡ states = (let e = m.1 in cc) in
    (m.1, grind (arith, nat_tests, m.0, is), grind (arith, nat_tests, m.0, is))

states_met : (word text : List ℕ) (states : ℕ) → bytes_eq word (codes "--states") ≡ true → states_in text ≡ Some states → AreStates states (word ∷ text ∷ [])
states_met word text states t h =
    let a = allowed_so (number_in text) states h in (named_option (codes "--states") word text 200000 states t a.0, a.1, a.2)

no_states : (states : ℕ) → Some 200000 ≡ Some states → AreStates states []
no_states states h = let is : 200000 ≡ states = cc in (no_option (codes "--states") 200000 states h, omega (arith, is), omega (arith, is))

chart_made : (from to : Option ℕ) (c : Command) → chart_with from to ≡ Some c
    → (s : ℕ) × (t : ℕ) × (from ≡ Some s) × (to ≡ Some t) × (Chart (record { from = s; to = t }) ≡ c)
chart_made (Some s) (Some t) c h = (s, t, refl, refl, cc)
chart_made (Some s) None c h = absurd (cc)
chart_made None to c h = absurd (cc)

record_made : (states number : Option ℕ) (c : Command) → record_with states number ≡ Some c
    → (s : ℕ) × (k : ℕ) × (states ≡ Some s) × (number ≡ Some k) × (OutcomeRecord s k ≡ c)
record_made (Some s) (Some k) c h = (s, k, refl, refl, cc)
record_made (Some s) None c h = absurd (cc)
record_made None number c h = absurd (cc)

module _ (word : List ℕ) (c : Command) where
  chart_asked : (first second : Words) (from to : Option ℕ) → ((n : ℕ) → from ≡ Some n → AreOption (codes "--from") 0 n first)
      → ((n : ℕ) → to ≡ Some n → AreOption (codes "--to") (2 ^ 64 - 1) n second) → chart_of word from to ≡ Some c → AskFor (word ∷ (first ++ second)) c
  chart_asked first second from to one other h =
      let m = met (bytes_eq word (codes "chart")) (chart_with from to) c h in
      let made = chart_made from to c m.1 in
      subst (λ (d : Command). AskFor (word ∷ (first ++ second)) d) made.4
      (first, second, ap (λ (w : List ℕ). w ∷ (first ++ second)) (same word (codes "chart") m.0), one made.0 made.2, other made.1 made.3)

  outcomes_asked : (option : Words) (states : Option ℕ) → ((n : ℕ) → states ≡ Some n → AreStates n option) → outcomes_of word states ≡ Some c → AskFor (word ∷ option) c
  outcomes_asked option None are h = let m = met (bytes_eq word (codes "outcomes")) None c h in let e = m.1 in absurd (cc)
  outcomes_asked option (Some s) are h =
      let m = met (bytes_eq word (codes "outcomes")) (Some (Outcomes s)) c h in
      let is : Outcomes s ≡ c = (let e = m.1 in cc) in
      subst (λ (d : Command). AskFor (word ∷ option) d) is (option, ap (λ (w : List ℕ). w ∷ option) (same word (codes "outcomes") m.0), are s refl)

  record_asked : (option rest : Words) (text : List ℕ) (states number : Option ℕ) → ((n : ℕ) → states ≡ Some n → AreStates n option)
      → ((n : ℕ) → number ≡ Some n → (number_in text ≡ Some n) × ((rest ≡ option ++ codes "--record" ∷ text ∷ []) ⊎ (rest ≡ codes "--record" ∷ text ∷ option)))
      → record_of word states number ≡ Some c → AskFor (word ∷ rest) c
  record_asked option rest text states number are is h =
      let m = met (bytes_eq word (codes "outcomes")) (record_with states number) c h in
      let made = record_made states number c m.1 in
      let named : word ≡ codes "outcomes" = same word (codes "outcomes") m.0 in
      let so = is made.1 made.3 in
      subst (λ (d : Command). AskFor (word ∷ rest) d) made.4 (
        option,
        text,
        are made.0 made.2,
        so.0,
        elim so.1 [
          | inl e ↦ inl (ap₂ (λ (w : List ℕ) (ws : Words). w ∷ ws) named e)
          | inr e ↦ inr (ap₂ (λ (w : List ℕ) (ws : Words). w ∷ ws) named e)
        ],
      )

  concurrent_asked : (p i : List ℕ) (event : Option At) → event ≡ event_named p i → concurrent_of word event ≡ Some c → AskFor (word ∷ p ∷ i ∷ []) c
  concurrent_asked p i None is h = let m = met (bytes_eq word (codes "concurrent")) None c h in let e = m.1 in absurd (cc)
  concurrent_asked p i (Some event) is h =
      let m = met (bytes_eq word (codes "concurrent")) (Some (Concurrent event)) c h in
      let one : Concurrent event ≡ c = (let e = m.1 in cc) in
      subst (λ (d : Command). AskFor (word ∷ p ∷ i ∷ []) d) one
      (p, i, ap (λ (w : List ℕ). w ∷ p ∷ i ∷ []) (same word (codes "concurrent") m.0), sym is)

  one_asked : of_one word ≡ Some c → AskFor (word ∷ []) c
  one_asked h = elim (chosen (bytes_eq word (codes "outcomes")) _ _ _ h) [
    | inl t ↦ let is : Outcomes 200000 ≡ c = (let e = t.1 in cc) in subst (λ (d : Command). AskFor (word ∷ []) d) is ([], ap (λ (w : List ℕ). w ∷ []) (same word (codes "outcomes") t.0), no_states 200000 refl)
    | inr e ↦ chart_asked [] [] (Some 0) (Some (2 ^ 64 - 1)) (no_option (codes "--from") 0) (no_option (codes "--to") (2 ^ 64 - 1)) e
  ]

  record_alone : (second third : List ℕ) → bytes_eq second (codes "--record") ≡ true → record_of word (Some 200000) (number_in third) ≡ Some c → AskFor (word ∷ second ∷ third ∷ []) c
  record_alone second third t h =
      record_asked [] (second ∷ third ∷ []) third (Some 200000) (number_in third) no_states
      (λ n e. (e, inl (ap (λ (w : List ℕ). w ∷ third ∷ []) (same second (codes "--record") t)))) h

  three_asked : (second third : List ℕ) → of_three word second third ≡ Some c → AskFor (word ∷ second ∷ third ∷ []) c
  three_asked second third h = elim (chosen (bytes_eq second (codes "--from")) _ _ _ h) [
    | inl t ↦ chart_asked (second ∷ third ∷ []) [] (number_in third) (Some (2 ^ 64 - 1)) (λ n e. named_option (codes "--from") second third 0 n t.0 e) (no_option (codes "--to") (2 ^ 64 - 1)) t.1
    | inr h ↦ elim (chosen (bytes_eq second (codes "--to")) _ _ _ h) [
      | inl t ↦ chart_asked [] (second ∷ third ∷ []) (Some 0) (number_in third) (no_option (codes "--from") 0) (λ n e. named_option (codes "--to") second third (2 ^ 64 - 1) n t.0 e) t.1
      | inr h ↦ elim (chosen (bytes_eq second (codes "--states")) _ _ _ h) [
        | inl t ↦ outcomes_asked (second ∷ third ∷ []) (states_in third) (λ n e. states_met second third n t.0 e) t.1
        | inr h ↦ elim (chosen (bytes_eq second (codes "--record")) _ _ _ h) [
          | inl t ↦ record_alone second third t.0 t.1
          | inr h ↦ concurrent_asked second third (event_named second third) refl h
        ]
      ]
    ]
  ]

  five_asked : (first one second other : List ℕ) → of_five word first one second other ≡ Some c → AskFor (word ∷ first ∷ one ∷ second ∷ other ∷ []) c
  five_asked first one second other h = elim (chosen (bytes_eq first (codes "--states")) _ _ _ h) [
    | inl t ↦ record_asked (first ∷ one ∷ []) (first ∷ one ∷ second ∷ other ∷ []) other (states_in one) (option_of (codes "--record") second other)
        (λ n e. states_met first one n t.0 e)
        (λ n e. let m = met (bytes_eq second (codes "--record")) (number_in other) n e in
        (m.1, inl (ap (λ (w : List ℕ). first ∷ one ∷ w ∷ other ∷ []) (same second (codes "--record") m.0)))) t.1
    | inr h ↦ elim (chosen (bytes_eq first (codes "--record")) _ _ _ h) [
      | inl t ↦ record_asked (second ∷ other ∷ []) (first ∷ one ∷ second ∷ other ∷ []) one (states_option second other) (number_in one)
          (λ n e. let m = met (bytes_eq second (codes "--states")) (states_in other) n e in states_met second other n m.0 m.1)
          (λ n e. (e, inr (ap (λ (w : List ℕ). w ∷ one ∷ second ∷ other ∷ []) (same first (codes "--record") t.0)))) t.1
      | inr h ↦ chart_asked (first ∷ one ∷ []) (second ∷ other ∷ []) (option_of (codes "--from") first one) (option_of (codes "--to") second other)
          (λ n e. option_met (codes "--from") first one 0 n e) (λ n e. option_met (codes "--to") second other (2 ^ 64 - 1) n e) h
    ]
  ]

-- ---- and what is asked for is taken

chart_taken : (words first second : Words) (from to : ℕ) → words ≡ codes "chart" ∷ (first ++ second) → AreOption (codes "--from") 0 from first
    → AreOption (codes "--to") (2 ^ 64 - 1) to second → command_of words ≡ Some (Chart (record { from = from; to = to }))
chart_taken words first second from to e (inl a) (inl b) =
    ap command_of (e ∙ ap₂ (λ (x y : Words). codes "chart" ∷ (x ++ y)) a.0 b.0) ∙ ap₂ (λ (x y : ℕ). chart_with (Some x) (Some y)) (sym a.1) (sym b.1)
chart_taken words first second from to e (inl a) (inr b) =
    ap command_of (e ∙ ap₂ (λ (x y : Words). codes "chart" ∷ (x ++ y)) a.0 b.1) ∙ ap₂ (λ (x : ℕ) (y : Option ℕ). chart_with (Some x) y) (sym a.1) b.2
chart_taken words first second from to e (inr a) (inl b) =
    ap command_of (e ∙ ap₂ (λ (x y : Words). codes "chart" ∷ (x ++ y)) a.1 b.0) ∙ ap₂ (λ (x : Option ℕ) (y : ℕ). chart_with x (Some y)) a.2 (sym b.1)
chart_taken words first second from to e (inr a) (inr b) =
    ap command_of (e ∙ ap₂ (λ (x y : Words). codes "chart" ∷ (x ++ y)) a.1 b.1) ∙ ap₂ chart_with a.2 b.2

-- a number of states that a search may visit
is_allowed : (states : ℕ) → 0 < states → states ≤ 10000000 → allowed states ≡ Some states
is_allowed states low high = grind (arith, nat_tests)

allowed_in : (text : List ℕ) (states : ℕ) → number_in text ≡ Some states → 0 < states → states ≤ 10000000 → states_in text ≡ Some states
allowed_in text states h low high = ap (option_and_then allowed) h ∙ is_allowed states low high

outcomes_taken : (words option : Words) (states : ℕ) → words ≡ codes "outcomes" ∷ option → AreStates states option → command_of words ≡ Some (Outcomes states)
outcomes_taken words option states e (inl a, low, high) =
    ap command_of (e ∙ ap (λ (x : Words). codes "outcomes" ∷ x) a.0) ∙ ap (λ (x : ℕ). Some (Outcomes x)) (sym a.1)
outcomes_taken words option states e (inr a, low, high) =
    ap command_of (e ∙ ap (λ (x : Words). codes "outcomes" ∷ x) a.1) ∙ ap outcomes_with (allowed_in a.0 states a.2 low high)

-- with an option of the record behind the other or before it
record_last : (words option : Words) (text : List ℕ) (states number : ℕ) → words ≡ codes "outcomes" ∷ (option ++ codes "--record" ∷ text ∷ []) → AreStates states option
    → number_in text ≡ Some number → command_of words ≡ Some (OutcomeRecord states number)
record_last words option text states number e (inl a, low, high) h =
    ap command_of (e ∙ ap (λ (x : Words). codes "outcomes" ∷ (x ++ codes "--record" ∷ text ∷ [])) a.0) ∙ ap₂ (λ (x : ℕ) (y : Option ℕ). record_with (Some x) y) (sym a.1) h
record_last words option text states number e (inr a, low, high) h =
    ap command_of (e ∙ ap (λ (x : Words). codes "outcomes" ∷ (x ++ codes "--record" ∷ text ∷ [])) a.1) ∙ ap₂ record_with (allowed_in a.0 states a.2 low high) h

record_first : (words option : Words) (text : List ℕ) (states number : ℕ) → words ≡ codes "outcomes" ∷ codes "--record" ∷ text ∷ option → AreStates states option
    → number_in text ≡ Some number → command_of words ≡ Some (OutcomeRecord states number)
record_first words option text states number e (inl a, low, high) h =
    ap command_of (e ∙ ap (λ (x : Words). codes "outcomes" ∷ codes "--record" ∷ text ∷ x) a.0) ∙ ap₂ (λ (x : ℕ) (y : Option ℕ). record_with (Some x) y) (sym a.1) h
record_first words option text states number e (inr a, low, high) h =
    ap command_of (e ∙ ap (λ (x : Words). codes "outcomes" ∷ codes "--record" ∷ text ∷ x) a.1) ∙ ap₂ record_with (allowed_in a.0 states a.2 low high) h

-- an option is no pid
no_option_name : (name p i : List ℕ) (event : At) (b : Bool) → bytes_eq p name ≡ b → event_named name i ≡ None → event_named p i ≡ Some event → b ≡ false
no_option_name name p i event false t none h = refl
no_option_name name p i event true t none h =
    let e : Some event ≡ None = sym h ∙ ap (λ (w : List ℕ). event_named w i) (same p name t) ∙ none in absurd (cc)

concurrent_taken : (p i : List ℕ) (event : At) → event_named p i ≡ Some event → of_three (codes "concurrent") p i ≡ Some (Concurrent event)
concurrent_taken p i event h =
    let from = no_option_name (codes "--from") p i event _ refl refl h in
    let to = no_option_name (codes "--to") p i event _ refl refl h in
    let states = no_option_name (codes "--states") p i event _ refl refl h in
    let number = no_option_name (codes "--record") p i event _ refl refl h in
    rw (from, to, states, number) (ap concurrent_with h)

taken : (words : Words) (c : Command) → AskFor words c → command_of words ≡ Some c
taken words (Chart window) h = chart_taken words h.0 h.1 window.from window.to h.2 h.3 h.4
taken words (Concurrent event) h = ap command_of h.2 ∙ concurrent_taken h.0 h.1 event h.3
taken words (Outcomes states) h = outcomes_taken words h.0 states h.1 h.2
taken words (OutcomeRecord states number) h = elim h.4 [
  | inl e ↦ record_last words h.0 h.1 states number e h.2 h.3
  | inr e ↦ record_first words h.0 h.1 states number e h.2 h.3
]

-- ---- both

asked_for : (words : Words) (c : Command) → command_of words ≡ Some c → AskFor words c
asked_for [] c h = absurd (cc)
asked_for (word ∷ []) c h = one_asked word c h
asked_for (word ∷ a ∷ []) c h = absurd (cc)
asked_for (word ∷ a ∷ b ∷ []) c h = three_asked word c a b h
asked_for (word ∷ a ∷ b ∷ d ∷ []) c h = absurd (cc)
asked_for (word ∷ a ∷ b ∷ d ∷ e ∷ []) c h = five_asked word c a b d e h
asked_for (word ∷ a ∷ b ∷ d ∷ e ∷ f ∷ rest) c h = absurd (cc)

asked : (words : Words) (o : Option Command) → o ≡ command_of words → IsAsked words o
asked words (Some c) h = asked_for words c (sym h)
asked words None h = λ c ask. let e : Some c ≡ None = sym (taken words c ask) ∙ sym h in cc

pub asked_by_one : (word : List ℕ) (o : Option Command) → o ≡ of_one word → IsAsked (word ∷ []) o
asked_by_one word o h = asked (word ∷ []) o h

pub asked_by_three : (word second third : List ℕ) (o : Option Command) → o ≡ of_three word second third → IsAsked (word ∷ second ∷ third ∷ []) o
asked_by_three word second third o h = asked (word ∷ second ∷ third ∷ []) o h

pub asked_by_five : (word first one second other : List ℕ) (o : Option Command) → o ≡ of_five word first one second other → IsAsked (word ∷ first ∷ one ∷ second ∷ other ∷ []) o
asked_by_five word first one second other o h = asked (word ∷ first ∷ one ∷ second ∷ other ∷ []) o h

-- no command has so many words
pub other_count : {X : Type 0} (f : X → List ℕ) (xs : List X) → length xs ≢ 1 → length xs ≢ 3 → length xs ≢ 5 → IsAsked (map f xs) None
other_count f [] p q r = asked [] None refl
other_count f (a ∷ []) p q r = absurd (p refl)
other_count f (a ∷ b ∷ []) p q r = asked (f a ∷ f b ∷ []) None refl
other_count f (a ∷ b ∷ c ∷ []) p q r = absurd (q refl)
other_count f (a ∷ b ∷ c ∷ d ∷ []) p q r = asked (f a ∷ f b ∷ f c ∷ f d ∷ []) None refl
other_count f (a ∷ b ∷ c ∷ d ∷ e ∷ []) p q r = absurd (r refl)
other_count f (a ∷ b ∷ c ∷ d ∷ e ∷ g ∷ xs) p q r = asked (f a ∷ f b ∷ f c ∷ f d ∷ f e ∷ f g ∷ map f xs) None refl

-- the words ask for one command
pub one_command : (words : Words) (c : Command) (o : Option Command) → AskFor words c → IsAsked words o → o ≡ Some c
one_command words c (Some d) ask h = sym (taken words d h) ∙ taken words c ask
one_command words c None ask h = absurd (h c ask)
