-- What clap makes of the words of the command.
use Rattle.std.proofs.Common.{◌≡◌, ◌≢◌, ◌⊎◌, ◌∙◌, ℕ, Bool, true, false, List, [], Option, Some, None, Ok, Err, inl, inr, refl, ap, sym, subst, codes}
use Rattle.clap.specs.Words.{App, HasMatchesOf, IsAmong, Kinds, Text, fault_of, first_of, first_value, found_of, is_simple, is_simple_and_free, matches_of, rows_of, takes}
use Rattle.clap.specs.declared.error.kind.ErrorKind.{ErrorKind}
use Rattle.clap.specs.declared.error.kind.ErrorKind.TheVariants.{OutOfMemory}
use Rattle.clap.specs.declared.parser.matches.ArgMatches.{ArgMatches}
use Rattle.clap.specs.declared.parser.matches.Found.{Found}
use Rattle.clap.proofs.OnLiterals.{clap_on_literals}
use Rattle.clap.proofs.WalkLemmas.{first_value-rows}
use Rattle.sig_layout.specs.declared.policy.Policy.{Policy}
use Rattle.sig_layout.specs.declared.policy.Policy.TheVariants.{Auto}
use Rattle.sig_host.specs.declared.settings.Settings.{Settings}
use Rattle.sig_host.specs.declared.words_error.WordsError.{WordsError}
use Rattle.sig_host.specs.declared.words_error.WordsError.TheVariants.{Usage, Memory}
use Rattle.sig_host.specs.Words.{IsWordsAnswer, AreRefused, AreSettings, command, generate_of, policy_of, quota_of, setting_or, settings_by, settings_in, settings_with, workers_of}

-- the settings of a parse, by the values of its options
pub settings_are : (f : Found) (w q : Option ℕ) (p : Option Policy) (g : Option (Option ℕ))
    → w ≡ setting_or 1 workers_of (first_value f (codes "workers")) → q ≡ setting_or 64 quota_of (first_value f (codes "quota"))
    → p ≡ setting_or Auto policy_of (first_value f (codes "buffers")) → g ≡ setting_or None generate_of (first_value f (codes "generate"))
    → settings_with w q p g ≡ settings_by (rows_of f)
settings_are f w q p g a b c d =
    ap (λ x. settings_with x q p g) (a ∙ ap (setting_or 1 workers_of) (first_value-rows f (codes "workers")))
    ∙ ap (λ x. settings_with (setting_or 1 workers_of (first_of (codes "workers") (rows_of f))) x p g)
    (b ∙ ap (setting_or 64 quota_of) (first_value-rows f (codes "quota")))
    ∙ ap (λ x. settings_with (setting_or 1 workers_of (first_of (codes "workers") (rows_of f))) (setting_or 64 quota_of (first_of (codes "quota") (rows_of f))) x g)
    (c ∙ ap (setting_or Auto policy_of) (first_value-rows f (codes "buffers")))
    ∙ ap (λ x. settings_with (setting_or 1 workers_of (first_of (codes "workers") (rows_of f))) (setting_or 64 quota_of (first_of (codes "quota") (rows_of f)))
    (setting_or Auto policy_of (first_of (codes "buffers") (rows_of f))) x)
    (d ∙ ap (setting_or None generate_of) (first_value-rows f (codes "generate")))

pub simple : is_simple command ≡ true
unfolding clap_on_literals
simple = refl

free : is_simple_and_free command ≡ true
unfolding clap_on_literals
free = refl

-- the matches of a parse are those of the words
settings_found : (a : App) (words : List Text) (m : ArgMatches) → a ≡ command → HasMatchesOf a words m → settings_by (rows_of (found_of m)) ≡ settings_in words
unfolding settings_in
settings_found a words m is has = ap settings_by ((has (ap is_simple is ∙ simple)).0 ∙ ap (λ x. matches_of x words) is)

taken : (a : App) (words : List Text) → a ≡ command → (is_simple_and_free a ≡ true → fault_of a words ≡ []) → fault_of command words ≡ []
taken a words is kinds = ap (λ x. fault_of x words) (sym is) ∙ kinds (ap is_simple_and_free is ∙ free)

-- what the settings of a parse say of the words, and what it says that there are none
pub parsed : (a : App) (words : List Text) (m : ArgMatches) (s : Settings) → a ≡ command → HasMatchesOf a words m
    → (is_simple_and_free a ≡ true → fault_of a words ≡ []) → Some s ≡ settings_by (rows_of (found_of m)) → IsWordsAnswer words (Ok s)
unfolding AreSettings
parsed a words m s is has kinds some = (taken a words is kinds, sym (settings_found a words m is has) ∙ sym some)

pub parsed_none : (a : App) (words : List Text) (m : ArgMatches) → a ≡ command → HasMatchesOf a words m
    → (is_simple_and_free a ≡ true → fault_of a words ≡ []) → None ≡ settings_by (rows_of (found_of m)) → IsWordsAnswer words (Err Usage)
unfolding AreRefused
parsed_none a words m is has kinds none = inr (taken a words is kinds, sym (settings_found a words m is has) ∙ sym none)

among_some : (k : ErrorKind) (kinds : Kinds) → IsAmong k kinds → kinds ≢ []
among_some k kinds h e = subst (IsAmong k) e h

-- what the error of a parse says of them
pub refused : (a : App) (words : List Text) (k : ErrorKind) (e : WordsError) → a ≡ command → (takes a words ≡ true → k ≡ OutOfMemory)
    → (is_simple_and_free a ≡ true → (k ≡ OutOfMemory) ⊎ IsAmong k (fault_of a words))
    → (k ≡ OutOfMemory → e ≡ Memory) → IsWordsAnswer words (Err e)
unfolding AreRefused
refused a words k Memory is passes kinds memory = tt
refused a words k Usage is passes kinds memory = go (takes command words) refl
  where
    other : k ≡ OutOfMemory → ⊥
    other h = let bad : Usage ≡ Memory = memory h in cc

    go : (b : Bool) → takes command words ≡ b → AreRefused words
    go true t = absurd (other (passes (ap (λ x. takes x words) is ∙ t)))
    go false t = inl (
      t,
      elim (kinds (ap is_simple_and_free is ∙ free)) [
        | inl h ↦ absurd (other h)
        | inr h ↦ among_some k _ (subst (λ x. IsAmong k (fault_of x words)) is h)
      ],
    )
