-- The arguments that the command takes, and the settings that they give.
use Rattle.std.specs.Prelude.{◌≡◌, ◌≢◌, ◌≤◌, ◌⊎◌, ◌&&◌, ℕ, true, false, List, [], ◌∷◌, length, Option, Some, None, IfSome, option_map, option_and_then, take, drop, if◌then◌else◌, nat_lt, nat_le, unwrap_or, codes, Result, Ok, Err, ⊤}
use Rattle.std.specs.Char.{is_ascii_digit}
use Rattle.std.specs.List.{list_all}
use Rattle.std.specs.Str.{bytes_eq}
use Rattle.std.specs.Str.Parse.{digits_value}
use Rattle.clap.specs.Words.{App, Row, Rule, Text, first_of, fault_of, matches_of, new_rule, takes, with_rule}
use Rattle.clap.specs.Simple.{new_shape}
use Rattle.clap.specs.declared.builder.action.ArgAction.TheVariants.{Set}
use Rattle.sig_layout.specs.declared.policy.Policy.{Policy}
use Rattle.sig_layout.specs.declared.policy.Policy.TheVariants.{Never, Always, Churn, Auto}
use Rattle.sig_host.specs.declared.settings.Settings.{Settings}
use Rattle.sig_host.specs.declared.settings.TheConstants.{MOST_WORKERS, MOST_QUOTA, MOST_CHURN}
use Rattle.sig_canon.specs.declared.generating.TheConstants.{MOST_CALLS}
use Rattle.sig_host.specs.declared.words_error.WordsError.{WordsError}
use Rattle.sig_host.specs.declared.words_error.WordsError.TheVariants.{Usage, Memory}

-- an option of this long name, which has one value
abbrev pub option_named : Text → Rule
option_named name = record (new_rule name) { long = Some name; action = Some Set }

-- the command without options: its words don't begin with the program's name, and it has no help
abbrev pub bare_command : App
bare_command = record { top = record (new_shape (codes "sigrun")) { no_binary_name = true; disable_help_flag = true }; subs = [] }

-- the command, as clap's own definitions see it
abbrev pub command : App
command =
    with_rule (with_rule (with_rule (with_rule bare_command (option_named (codes "workers")))
    (option_named (codes "quota"))) (option_named (codes "buffers"))) (option_named (codes "generate"))

-- the policy of buffers is one, and its number lies in its range
abbrev pub IsPolicyInRange : Policy → Type 0
IsPolicyInRange (Churn n) = (1 ≤ n) × (n ≤ MOST_CHURN)
IsPolicyInRange _ = ⊤

-- each setting lies in its range
pub record IsInRange (s : Settings) : Type 0 where
  pub least_workers : 1 ≤ s.workers
  pub most_workers : s.workers ≤ MOST_WORKERS
  pub least_quota : 1 ≤ s.quota
  pub most_quota : s.quota ≤ MOST_QUOTA
  pub policy : IsPolicyInRange s.policy
  pub generate : IfSome s.generate (λ calls. (1 ≤ calls) × (calls ≤ MOST_CALLS))

-- the number, where it lies between these two
abbrev pub within : ℕ → ℕ → ℕ → Option ℕ
within least most n = if nat_le least n && nat_le n most then Some n else None

-- the number that one decimal digit or more spell, where it lies between these two; leading zeros count for nothing
abbrev pub number_within : ℕ → ℕ → Text → Option ℕ
number_within least most text =
    if nat_lt 0 (length text) && list_all is_ascii_digit text then within least most (digits_value 10 text) else None

-- what follows `churn:` in the text; none where it doesn't begin so
abbrev pub after_churn : Text → Option Text
after_churn text = if bytes_eq (take 6 text) (codes "churn:") then Some (drop 6 text) else None

-- What the value of each option asks for; none where it is refused.

-- the workers, of `--workers`
abbrev pub workers_of : Text → Option ℕ
workers_of = number_within 1 MOST_WORKERS

-- the events that a worker makes in a round, of `--quota`
abbrev pub quota_of : Text → Option ℕ
quota_of = number_within 1 MOST_QUOTA

-- the policy, of `--buffers`: `never`, `always`, `auto` or `churn:N`
abbrev pub policy_of : Text → Option Policy
policy_of text =
    if bytes_eq text (codes "never") then Some Never
    else (if bytes_eq text (codes "always") then Some Always
    else (if bytes_eq text (codes "auto") then Some Auto
    else option_map Churn (option_and_then (number_within 1 MOST_CHURN) (after_churn text))))

-- the calls of each client, of `--generate`
abbrev pub calls_of : Text → Option ℕ
calls_of = number_within 1 MOST_CALLS

abbrev pub generate_of : Text → Option (Option ℕ)
generate_of text = option_map Some (calls_of text)

-- the setting of an option: this one without a value; none where the value is refused
abbrev pub setting_or : {X : Type 0} → X → (Text → Option X) → Option Text → Option X
setting_or default read None = Some default
setting_or default read (Some text) = read text

-- the settings, where each is there
abbrev pub settings_with : Option ℕ → Option ℕ → Option Policy → Option (Option ℕ) → Option Settings
settings_with workers quota policy generate =
    option_and_then (λ w. option_and_then (λ q. option_and_then (λ p. option_map (λ g. record { workers = w; quota = q; policy = p; generate = g })
    generate) policy) quota) workers

-- the settings that clap's matches give; there are none where a value is refused
abbrev pub settings_by : List Row → Option Settings
settings_by rows =
    settings_with (setting_or 1 workers_of (first_of (codes "workers") rows)) (setting_or 64 quota_of (first_of (codes "quota") rows))
    (setting_or Auto policy_of (first_of (codes "buffers") rows)) (setting_or None generate_of (first_of (codes "generate") rows))

-- the settings in the matches that clap defines for these words
unfoldable pub settings_in : List Text → Option Settings
settings_in words = settings_by (matches_of command words)

-- clap takes these words, and they give these settings
unfoldable pub AreSettings : List Text → Settings → Type 0
AreSettings words s = (fault_of command words ≡ []) × (settings_in words ≡ Some s)

-- clap doesn't take these words, or a value in its matches is refused
unfoldable pub AreRefused : List Text → Type 0
AreRefused words =
    ((takes command words ≡ false) × (fault_of command words ≢ []))
    ⊎ ((fault_of command words ≡ []) × (settings_in words ≡ None))

-- what the answer says of the words
abbrev pub IsWordsAnswer : List Text → Result Settings WordsError → Type 0
IsWordsAnswer words (Ok s) = AreSettings words s
IsWordsAnswer words (Err Usage) = AreRefused words
IsWordsAnswer words (Err Memory) = ⊤

-- The plain form: each option at most once, as two words, with a value in its range.

-- what the options give that stand there
pub record Given : Type 0 where
  pub workers : Option ℕ
  pub quota : Option ℕ
  pub policy : Option Policy
  pub generate : Option ℕ

abbrev pub nothing_given : Given
nothing_given = record { workers = None; quota = None; policy = None; generate = None }

-- what a value asks for, where the option doesn't stand there already
abbrev pub once : {X : Type 0} → (Text → Option X) → Option X → Text → Option X
once read None value = read value
once read (Some x) value = None

-- what is given with the option that these two words give; there is nothing where it isn't an option, is there already, or its value
-- isn't in range
abbrev pub with_option : Given → Text → Text → Option Given
with_option g name value =
    if bytes_eq name (codes "--workers") then option_map (λ n. record g { workers = Some n }) (once workers_of g.workers value)
    else (if bytes_eq name (codes "--quota") then option_map (λ n. record g { quota = Some n }) (once quota_of g.quota value)
    else (if bytes_eq name (codes "--buffers") then option_map (λ p. record g { policy = Some p }) (once policy_of g.policy value)
    else (if bytes_eq name (codes "--generate") then option_map (λ n. record g { generate = Some n }) (once calls_of g.generate value)
    else None)))

abbrev pub given_from : Given → List Text → Option Given
given_from g [] = Some g
given_from g (word ∷ []) = None
given_from g (name ∷ value ∷ rest) = option_and_then (λ next. given_from next rest) (with_option g name value)

-- the settings, with those that hold where no option says otherwise
abbrev pub with_defaults : Given → Settings
with_defaults g = record {
  workers = unwrap_or g.workers 1;
  quota = unwrap_or g.quota 64;
  policy = unwrap_or g.policy Auto;
  generate = g.generate;
}

-- the settings of words in the plain form; there are none for other words
unfoldable pub plain_settings : List Text → Option Settings
plain_settings words = option_map with_defaults (given_from nothing_given words)
