-- The command takes words in the plain form.
use Rattle.std.proofs.Common.{◌≡◌, ◌⊎◌, ◌∙◌, ◌&&◌, Bool, true, false, List, [], ◌∷◌, Option, Some, None, Result, Ok, Err, inl, inr, refl, ap, ap₂, sym, subst, true≢false, is_some, codes}
use Rattle.std.specs.Prelude.{IfSome, fold, option_map, option_and_then}
use Rattle.std.specs.List.{list_all}
use Rattle.clap.specs.Words.{Row, Text, takes}
use Rattle.clap.specs.Walk.{Held, Walk, finished, settled, walked, with_default}
use Rattle.clap.specs.Simple.{built, entered}
use Rattle.clap.specs.Takes.{default_passes, entered_passes, is_valid, settle_passes, walk_passes}
use Rattle.sig_host.specs.declared.settings.Settings.{Settings}
use Rattle.sig_host.specs.declared.words_error.WordsError.{WordsError}
use Rattle.sig_host.specs.declared.words_error.WordsError.TheVariants.{Usage, Memory}
use Rattle.sig_host.specs.Words.{Given, IsWordsAnswer, AreRefused, AreSettings, command, given_from, nothing_given, plain_settings, settings_by, settings_in, with_defaults, with_option}
use Rattle.sig_host.proofs.PairLemmas.{Pairs, built_option, no_default}
use Rattle.sig_host.proofs.OptionLemmas.{IsReady, all_of, first_turn, held_at, rules, second_turn, settle_at, settled_at, shape, walk_at, walked_pair}
use Rattle.sig_host.proofs.GivenLemmas.{Agrees, next_option, nothing_agrees, settings_told}
use Rattle.sig_host.proofs.WordsLemmas.{simple}

-- ---- the walk over all words

-- the walk passes, and has kept what is given in the end
record Ends (last : Given) (words : List Text) (w : Walk) : Type 0 where
  ps : Pairs
  p : Option (Text × Text)
  ready : IsReady ps p
  agrees : Agrees last (all_of ps p)
  passes : walk_passes shape [] w words ≡ true
  is : fold (walked rules []) w words ≡ walk_at ps p

ends : (words : List Text) (g last : Given) (ps : Pairs) (p : Option (Text × Text)) → IsReady ps p → Agrees g (all_of ps p) → given_from g words ≡ Some last
    → Ends last words (walk_at ps p)
unfolding walk_passes
ends [] g last ps p ready agrees e =
    let same : g ≡ last = cc in
    record { ps = ps; p = p; ready = ready; agrees = subst (λ (h : Given). Agrees h (all_of ps p)) same agrees; passes = refl; is = refl }
ends (word ∷ []) g last ps p ready agrees e = cc
ends (word ∷ value ∷ rest) g last ps p ready agrees e = go (with_option g word value) refl e (ends rest)
  where
    go : (o : Option Given) → with_option g word value ≡ o → option_and_then (λ next. given_from next rest) o ≡ Some last
        → ((g last : Given) (ps : Pairs) (p : Option (Text × Text)) → IsReady ps p → Agrees g (all_of ps p) → given_from g rest ≡ Some last → Ends last rest (walk_at ps p))
        → Ends last (word ∷ value ∷ rest) (walk_at ps p)
    go None t h later = cc
    go (Some next) t h later =
        let n = next_option g (all_of ps p) agrees next word value t in
        let here = walked_pair ps p ready n.name word value n.opt n.is n.plain in
        let more = later next last (all_of ps p) (Some (n.name, value)) (n.opt, n.fresh) n.agrees h in
        record {
          ps = more.ps;
          p = more.p;
          ready = more.ready;
          agrees = more.agrees;
          passes = ap₂ (λ (a b : Bool). a && b) (first_turn ps p ready n.name word value n.opt n.is n.plain)
              (ap₂ (λ (a b : Bool). a && b) (second_turn ps p ready n.name word value n.opt n.is n.plain)
              (ap (λ (w : Walk). walk_passes shape [] w rest) here ∙ more.passes));
          is = ap (λ (w : Walk). fold (walked rules []) w rest) here ∙ more.is;
        }

-- ---- what clap makes of it

finished_is : (h : Held) → finished rules h ≡ (settled rules h).rows
finished_is h =
    ap (λ (rs : List Row). with_default (with_default (with_default rs (built_option (codes "quota"))) (built_option (codes "buffers"))) (built_option (codes "generate")))
    (no_default (settled rules h).rows (codes "workers"))
    ∙ ap (λ (rs : List Row). with_default (with_default rs (built_option (codes "buffers"))) (built_option (codes "generate"))) (no_default (settled rules h).rows (codes "quota"))
    ∙ ap (λ (rs : List Row). with_default rs (built_option (codes "generate"))) (no_default (settled rules h).rows (codes "buffers"))
    ∙ no_default (settled rules h).rows (codes "generate")

-- whether clap takes words on which its walk ends so, and passes or not
abbrev taken_by : Walk → Bool → Bool
taken_by w passes =
    entered_passes (built command) w.stopped
    && (passes && (settle_passes rules false w.held && (list_all default_passes rules && is_valid shape (finished rules w.held) (is_some (entered (built command) w.stopped)))))

-- clap takes the words, and these are the settings in its matches
IsFound : List Text → Settings → Type 0
IsFound words s = (takes command words ≡ true) × (settings_in words ≡ Some s)

found : (words : List Text) (last : Given) → Ends last words (walk_at [] None) → IsFound words (with_defaults last)
unfolding IsFound settings_in
found words last end = (
  ap₂ (λ (a b : Bool). a && b) simple
      (ap₂ taken_by end.is end.passes ∙ ap (λ (b : Bool). b && true) (settle_at end.ps end.p end.ready)),
  ap (λ (w : Walk). settings_by (finished rules w.held)) end.is
      ∙ ap settings_by (finished_is (held_at end.ps end.p) ∙ ap (λ (h : Held). h.rows) (settled_at end.ps end.p end.ready))
      ∙ settings_told last (all_of end.ps end.p) end.agrees,
)

plain_found : (words : List Text) (s : Settings) → plain_settings words ≡ Some s → IsFound words s
unfolding plain_settings
plain_found words s e = go (given_from nothing_given words) refl e
  where
    go : (o : Option Given) → given_from nothing_given words ≡ o → option_map with_defaults o ≡ Some s → IsFound words s
    go None t h = cc
    go (Some last) t h =
        let same : with_defaults last ≡ s = cc in
        subst (IsFound words) same (found words last (ends words nothing_given last [] None tt nothing_agrees t))

agrees : (words : List Text) (s : Settings) (r : Result Settings WordsError) → IsFound words s → IsWordsAnswer words r → (r ≡ Ok s) ⊎ (r ≡ Err Memory)
unfolding IsFound AreSettings AreRefused
agrees words s (Ok u) found h = let same : u ≡ s = cc in inl (ap Ok same)
agrees words s (Err Usage) found (inl h) = absurd (true≢false (sym found.0 ∙ h.0))
agrees words s (Err Usage) found (inr h) = let bad : Some s ≡ None = sym found.1 ∙ h.1 in cc
agrees words s (Err Memory) found h = inr refl

-- so they have their settings, if there is memory
pub plain_answer : (words : List Text) (r : Result Settings WordsError) → IsWordsAnswer words r → IfSome (plain_settings words) (λ s. (r ≡ Ok s) ⊎ (r ≡ Err Memory))
plain_answer words r h = go (plain_settings words) refl
  where
    go : (o : Option Settings) → plain_settings words ≡ o → IfSome o (λ s. (r ≡ Ok s) ⊎ (r ≡ Err Memory))
    go None e = tt
    go (Some s) e = agrees words s r (plain_found words s e) h

-- and they are never refused
pub plain_kept : (words : List Text) (s : Settings) → plain_settings words ≡ Some s → AreRefused words → ⊥
unfolding IsFound AreRefused
plain_kept words s e (inl h) = true≢false (sym (plain_found words s e).0 ∙ h.0)
plain_kept words s e (inr h) = let bad : Some s ≡ None = sym (plain_found words s e).1 ∙ h.1 in cc

pub plain_only : (words : List Text) (s t : Settings) → plain_settings words ≡ Some s → AreSettings words t → t ≡ s
unfolding IsFound AreSettings
plain_only words s t e h = let both : Some t ≡ Some s = sym h.1 ∙ (plain_found words s e).1 in cc
