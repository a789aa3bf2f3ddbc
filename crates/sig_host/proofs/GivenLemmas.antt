-- What is given by options that clap has walked over.
use Rattle.std.proofs.Common.{◌≡◌, ◌∙◌, ℕ, ◌==◌, Bool, true, false, [], ◌∷◌, length, Option, Some, None, refl, ap, sym, subst, arith, codes, lt-ltb}
use Rattle.std.proofs.lemmas.Bool.Decides.{nat_tests}
use Rattle.std.proofs.lemmas.Slice.Eq.{bytes_eq-Decides}
use Rattle.std.specs.Prelude.{if◌then◌else◌, nat_lt, option_map, option_and_then, take, unwrap_or, ⊤}
use Rattle.std.specs.Char.{is_ascii_digit}
use Rattle.std.specs.Str.{bytes_eq}
use Rattle.clap.specs.Words.{Text}
use Rattle.clap.specs.Walk.{first_of}
use Rattle.sig_layout.specs.declared.policy.Policy.{Policy}
use Rattle.sig_layout.specs.declared.policy.Policy.TheVariants.{Auto, Churn}
use Rattle.sig_host.specs.Words.{Given, after_churn, calls_of, generate_of, nothing_given, number_within, once, policy_of, quota_of, setting_or, settings_by, settings_with, with_defaults, with_option, workers_of}
use Rattle.sig_host.specs.declared.settings.TheConstants.{MOST_CHURN}
use Rattle.sig_host.proofs.PairLemmas.{Pairs, first_row, rows_for, value_added, value_kept, value_of, with_pair}
use Rattle.sig_host.proofs.OptionLemmas.{IsNameOf, IsOption, IsPlainWord}

-- what an option gave, by its value; neither where it doesn't stand there
abbrev pub Tells : {X : Type 0} → (Text → Option X) → Option X → Option Text → Type 0
Tells read None None = ⊤
Tells read None (Some text) = ⊥
Tells read (Some x) None = ⊥
Tells read (Some x) (Some text) = read text ≡ Some x

pub record Agrees (g : Given) (ps : Pairs) : Type 0 where
  pub workers : Tells workers_of g.workers (value_of (codes "workers") ps)
  pub quota : Tells quota_of g.quota (value_of (codes "quota") ps)
  pub policy : Tells policy_of g.policy (value_of (codes "buffers") ps)
  pub generate : Tells calls_of g.generate (value_of (codes "generate") ps)

pub nothing_agrees : Agrees nothing_given []
nothing_agrees = record { workers = tt; quota = tt; policy = tt; generate = tt }

none_told : {X : Type 0} (read : Text → Option X) (o : Option X) (t : Option Text) → o ≡ None → Tells read o t → t ≡ None
none_told read None None e h = refl
none_told read None (Some text) e h = absurd h
none_told read (Some x) t e h = cc

once_is : {X : Type 0} (read : Text → Option X) (o : Option X) (value : Text) (x : X) → once read o value ≡ Some x → (o ≡ None) × (read value ≡ Some x)
once_is read None value x e = (refl, e)
once_is read (Some y) value x e = cc

-- the setting that holds then
setting_told : {X : Type 0} (default : X) (read : Text → Option X) (o : Option X) (t : Option Text) → Tells read o t → setting_or default read t ≡ Some (unwrap_or o default)
setting_told default read None None h = refl
setting_told default read None (Some text) h = absurd h
setting_told default read (Some x) None h = absurd h
setting_told default read (Some x) (Some text) h = h

generate_told : (o : Option ℕ) (t : Option Text) → Tells calls_of o t → setting_or None generate_of t ≡ Some o
generate_told None None h = refl
generate_told None (Some text) h = absurd h
generate_told (Some n) None h = absurd h
generate_told (Some n) (Some text) h = ap (option_map Some) h

pub settings_told : (g : Given) (ps : Pairs) → Agrees g ps → settings_by (rows_for ps) ≡ Some (with_defaults g)
settings_told g ps a =
    ap (λ x. settings_with x (setting_or 64 quota_of (first_of (codes "quota") (rows_for ps))) (setting_or Auto policy_of (first_of (codes "buffers") (rows_for ps)))
    (setting_or None generate_of (first_of (codes "generate") (rows_for ps))))
    (ap (setting_or 1 workers_of) (first_row (codes "workers") ps) ∙ setting_told 1 workers_of g.workers _ a.workers)
    ∙ ap (λ x. settings_with (Some (unwrap_or g.workers 1)) x (setting_or Auto policy_of (first_of (codes "buffers") (rows_for ps)))
    (setting_or None generate_of (first_of (codes "generate") (rows_for ps))))
    (ap (setting_or 64 quota_of) (first_row (codes "quota") ps) ∙ setting_told 64 quota_of g.quota _ a.quota)
    ∙ ap (λ x. settings_with (Some (unwrap_or g.workers 1)) (Some (unwrap_or g.quota 64)) x (setting_or None generate_of (first_of (codes "generate") (rows_for ps))))
    (ap (setting_or Auto policy_of) (first_row (codes "buffers") ps) ∙ setting_told Auto policy_of g.policy _ a.policy)
    ∙ ap (λ x. settings_with (Some (unwrap_or g.workers 1)) (Some (unwrap_or g.quota 64)) (Some (unwrap_or g.policy Auto)) x)
    (ap (setting_or None generate_of) (first_row (codes "generate") ps) ∙ generate_told g.generate _ a.generate)

-- ---- values begin with no hyphen

other_first : (d : ℕ) (ds : Text) → (d == 45) ≡ false → IsPlainWord (d ∷ ds)
other_first d ds e = record { long = rw e refl; short = rw e refl; other = rw e refl }

-- a number begins with a digit
number_word : (least most : ℕ) (value : Text) (n : ℕ) → number_within least most value ≡ Some n → IsPlainWord value
number_word least most [] n e = cc
number_word least most (d ∷ ds) n e = go (is_ascii_digit d) refl
  where
    some : nat_lt 0 (length (d ∷ ds)) ≡ true
    some = lt-ltb 0 (length (d ∷ ds)) (omega arith)

    go : (b : Bool) → is_ascii_digit d ≡ b → IsPlainWord (d ∷ ds)
    go false t = let bad : None ≡ Some n = rw (t, some) at e in cc
    go true t = other_first d ds (grind (arith, nat_tests, t))

first_is : (value : Text) (c : ℕ) (cs : Text) → (c == 45) ≡ false → value ≡ c ∷ cs → IsPlainWord value
first_is value c cs e is = subst IsPlainWord (sym is) (other_first c cs e)

churn_first : (value : Text) → take 6 value ≡ codes "churn:" → IsPlainWord value
churn_first [] e = cc
churn_first (d ∷ ds) e = let same : d ≡ 99 = cc in other_first d ds (rw same refl)

policy_word : (value : Text) (p : Policy) → policy_of value ≡ Some p → IsPlainWord value
policy_word value p e = never (bytes_eq value (codes "never")) refl e
  where
    churn : (b : Bool) → bytes_eq (take 6 value) (codes "churn:") ≡ b → option_map Churn (option_and_then (number_within 1 MOST_CHURN) (after_churn value)) ≡ Some p → IsPlainWord value
    churn true t h = churn_first value ((bytes_eq-Decides _ _).0 t)
    churn false t h = let bad : None ≡ Some p = rw t at h in cc

    auto : (b : Bool) → bytes_eq value (codes "auto") ≡ b → (if b then Some Auto else option_map Churn (option_and_then (number_within 1 MOST_CHURN) (after_churn value))) ≡ Some p → IsPlainWord value
    auto true t h = first_is value 97 _ refl ((bytes_eq-Decides _ _).0 t)
    auto false t h = churn _ refl h

    always : (b : Bool) → bytes_eq value (codes "always") ≡ b → policy_of value ≡ Some p → bytes_eq value (codes "never") ≡ false → IsPlainWord value
    always true t h n = first_is value 97 _ refl ((bytes_eq-Decides _ _).0 t)
    always false t h n = auto _ refl (rw (n, t) at h)

    never : (b : Bool) → bytes_eq value (codes "never") ≡ b → policy_of value ≡ Some p → IsPlainWord value
    never true t h = first_is value 110 _ refl ((bytes_eq-Decides _ _).0 t)
    never false t h = always _ refl h t

-- ---- the next option

workers_option : IsOption (codes "workers")
workers_option = record { by_long = refl; by_id = refl; same = refl }

quota_option : IsOption (codes "quota")
quota_option = record { by_long = refl; by_id = refl; same = refl }

buffers_option : IsOption (codes "buffers")
buffers_option = record { by_long = refl; by_id = refl; same = refl }

generate_option : IsOption (codes "generate")
generate_option = record { by_long = refl; by_id = refl; same = refl }

-- the two words are an option that is new, and its value; more is given by them
pub record IsNextGiven (ps : Pairs) (next : Given) (word value : Text) : Type 0 where
  pub name : Text
  pub opt : IsOption name
  pub is : IsNameOf name word
  pub plain : IsPlainWord value
  pub fresh : value_of name ps ≡ None
  pub agrees : Agrees next (with_pair ps name value)

module _ (g : Given) (ps : Pairs) (a : Agrees g ps) (next : Given) (word value : Text) where
  -- an option that was given before tells the same
  kept : {X : Type 0} (read : Text → Option X) (o : Option X) (other name : Text) → bytes_eq name other ≡ false → Tells read o (value_of other ps)
      → Tells read o (value_of other (with_pair ps name value))
  kept read o other name e h = subst (Tells read o) (sym (value_kept other name value ps e)) h

  added : {X : Type 0} (read : Text → Option X) (x : X) (name : Text) → bytes_eq name name ≡ true → value_of name ps ≡ None → read value ≡ Some x
      → Tells read (Some x) (value_of name (with_pair ps name value))
  added read x name same none h = subst (Tells read (Some x)) (sym (value_added name value ps same none)) h

  -- the option of this name is the next one: its value is read so, and what is given with it agrees
  next_of : {X : Type 0} (name : Text) → IsOption name → IsNameOf name word → (read : Text → Option X) (o : Option X) (given : X → Given) → Tells read o (value_of name ps)
      → ((x : X) → read value ≡ Some x → IsPlainWord value) → ((x : X) → value_of name ps ≡ None → read value ≡ Some x → Agrees (given x) (with_pair ps name value))
      → (found : Option X) → once read o value ≡ found → option_map given found ≡ Some next → IsNextGiven ps next word value
  next_of name opt is read o given told plain agrees None once e = cc
  next_of name opt is read o given told plain agrees (Some x) once e =
      let new = once_is read o value x once in
      let none = none_told read o _ new.0 told in
      let same : given x ≡ next = cc in
      record {
        name = name;
        opt = opt;
        is = is;
        plain = plain x new.1;
        fresh = none;
        agrees = subst (λ (h : Given). Agrees h (with_pair ps name value)) same (agrees x none new.1);
      }

  next_workers : word ≡ codes "--workers" → (o : Option ℕ) → once workers_of g.workers value ≡ o → option_map (λ n. record g { workers = Some n }) o ≡ Some next → IsNextGiven ps next word value
  next_workers is =
      next_of (codes "workers") workers_option (subst (IsNameOf (codes "workers")) (sym is) (record { long = refl; other = refl })) workers_of g.workers (λ n. record g { workers = Some n }) a.workers
      (λ n told. number_word _ _ value n told) (λ n none told. record {
        workers = added workers_of n (codes "workers") refl none told;
        quota = kept quota_of g.quota (codes "quota") (codes "workers") refl a.quota;
        policy = kept policy_of g.policy (codes "buffers") (codes "workers") refl a.policy;
        generate = kept calls_of g.generate (codes "generate") (codes "workers") refl a.generate;
      })

  next_quota : word ≡ codes "--quota" → (o : Option ℕ) → once quota_of g.quota value ≡ o → option_map (λ n. record g { quota = Some n }) o ≡ Some next → IsNextGiven ps next word value
  next_quota is =
      next_of (codes "quota") quota_option (subst (IsNameOf (codes "quota")) (sym is) (record { long = refl; other = refl })) quota_of g.quota (λ n. record g { quota = Some n }) a.quota
      (λ n told. number_word _ _ value n told) (λ n none told. record {
        workers = kept workers_of g.workers (codes "workers") (codes "quota") refl a.workers;
        quota = added quota_of n (codes "quota") refl none told;
        policy = kept policy_of g.policy (codes "buffers") (codes "quota") refl a.policy;
        generate = kept calls_of g.generate (codes "generate") (codes "quota") refl a.generate;
      })

  next_buffers : word ≡ codes "--buffers" → (o : Option Policy) → once policy_of g.policy value ≡ o → option_map (λ p. record g { policy = Some p }) o ≡ Some next → IsNextGiven ps next word value
  next_buffers is =
      next_of (codes "buffers") buffers_option (subst (IsNameOf (codes "buffers")) (sym is) (record { long = refl; other = refl })) policy_of g.policy (λ p. record g { policy = Some p }) a.policy
      (λ p told. policy_word value p told) (λ p none told. record {
        workers = kept workers_of g.workers (codes "workers") (codes "buffers") refl a.workers;
        quota = kept quota_of g.quota (codes "quota") (codes "buffers") refl a.quota;
        policy = added policy_of p (codes "buffers") refl none told;
        generate = kept calls_of g.generate (codes "generate") (codes "buffers") refl a.generate;
      })

  next_generate : word ≡ codes "--generate" → (o : Option ℕ) → once calls_of g.generate value ≡ o → option_map (λ n. record g { generate = Some n }) o ≡ Some next → IsNextGiven ps next word value
  next_generate is =
      next_of (codes "generate") generate_option (subst (IsNameOf (codes "generate")) (sym is) (record { long = refl; other = refl })) calls_of g.generate (λ n. record g { generate = Some n }) a.generate
      (λ n told. number_word _ _ value n told) (λ n none told. record {
        workers = kept workers_of g.workers (codes "workers") (codes "generate") refl a.workers;
        quota = kept quota_of g.quota (codes "quota") (codes "generate") refl a.quota;
        policy = kept policy_of g.policy (codes "buffers") (codes "generate") refl a.policy;
        generate = added calls_of n (codes "generate") refl none told;
      })

  pub next_option : with_option g word value ≡ Some next → IsNextGiven ps next word value
  next_option e = first (bytes_eq word (codes "--workers")) refl
    where
      fourth : (b : Bool) → bytes_eq word (codes "--generate") ≡ b → bytes_eq word (codes "--workers") ≡ false → bytes_eq word (codes "--quota") ≡ false
          → bytes_eq word (codes "--buffers") ≡ false → IsNextGiven ps next word value
      fourth true t x y z = next_generate ((bytes_eq-Decides _ _).0 t) _ refl (rw (x, y, z, t) at e)
      fourth false t x y z = let bad : None ≡ Some next = rw (x, y, z, t) at e in cc

      third : (b : Bool) → bytes_eq word (codes "--buffers") ≡ b → bytes_eq word (codes "--workers") ≡ false → bytes_eq word (codes "--quota") ≡ false → IsNextGiven ps next word value
      third true t x y = next_buffers ((bytes_eq-Decides _ _).0 t) _ refl (rw (x, y, t) at e)
      third false t x y = fourth _ refl x y t

      second : (b : Bool) → bytes_eq word (codes "--quota") ≡ b → bytes_eq word (codes "--workers") ≡ false → IsNextGiven ps next word value
      second true t x = next_quota ((bytes_eq-Decides _ _).0 t) _ refl (rw (x, t) at e)
      second false t x = third _ refl x t

      first : (b : Bool) → bytes_eq word (codes "--workers") ≡ b → IsNextGiven ps next word value
      first true t = next_workers ((bytes_eq-Decides _ _).0 t) _ refl (rw t at e)
      first false t = second _ refl t
