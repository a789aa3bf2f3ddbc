-- The commands, what each writes, and of what record it refuses to (this project's own).
use Rattle.std.specs.Prelude.{◌≡◌, ◌&&◌, ◌-◌, ◌^◌, ◌<◌, ◌≤◌, ◌⊎◌, ℕ, true, false, List, [], ◌∷◌, ◌++◌, codes, if◌then◌else◌, Option, Some, None, option_and_then, nat_le, nat_lt}
use Rattle.std.specs.Str.{bytes_eq}
use Rattle.sig_program.specs.Scripts.{Program}
use Rattle.sig_record.specs.declared.report.Report.{Report}
use Rattle.sig_chart.specs.Drawn.{AreTooMany}
use Rattle.sig_order.specs.declared.at.At.{At}
use Rattle.sig_order.specs.Happening.{is_there}
use Rattle.sig_tool.specs.Numbers.{event_named, number_in}
use Rattle.sig_view.specs.declared.command.Command.{Command}
use Rattle.sig_view.specs.declared.command.Command.TheVariants.{Chart, Concurrent, Outcomes, OutcomeRecord}
use Rattle.sig_view.specs.declared.status.ViewStatus.{ViewStatus}
use Rattle.sig_view.specs.declared.status.ViewStatus.TheVariants.{NoEvent, TooManyEvents}
use Rattle.sig_view.specs.Charts.{HasFew, IsChartText}
use Rattle.sig_view.specs.Ranges.{IsConcurrentText}

-- ---- which words ask for which command

-- the words are this option and a text of the number; or there are none, and the number is the default
abbrev pub AreOption : List ℕ → ℕ → ℕ → List (List ℕ) → Type 0
AreOption name default number words =
    ((words ≡ []) × (number ≡ default)) ⊎ ((text : List ℕ) × (words ≡ name ∷ text ∷ []) × (number_in text ≡ Some number))

-- the words are the option of how many states a search may visit, which are so many, or there are none
abbrev pub AreStates : ℕ → List (List ℕ) → Type 0
AreStates states words = AreOption (codes "--states") 200000 states words × (0 < states) × (states ≤ 10000000)

-- `chart [--from S] [--to T]`, `concurrent P I`, `outcomes [--states N]`, and this with `--record K` behind the option or before it
abbrev pub AskFor : List (List ℕ) → Command → Type 0
AskFor words (Chart window) =
    (from : List (List ℕ)) × (to : List (List ℕ)) × (words ≡ codes "chart" ∷ (from ++ to))
    × AreOption (codes "--from") 0 window.from from × AreOption (codes "--to") (2 ^ 64 - 1) window.to to
AskFor words (Concurrent event) = (p : List ℕ) × (i : List ℕ) × (words ≡ codes "concurrent" ∷ p ∷ i ∷ []) × (event_named p i ≡ Some event)
AskFor words (Outcomes states) = (option : List (List ℕ)) × (words ≡ codes "outcomes" ∷ option) × AreStates states option
AskFor words (OutcomeRecord states number) =
    (option : List (List ℕ)) × (text : List ℕ) × AreStates states option × (number_in text ≡ Some number)
    × ((words ≡ codes "outcomes" ∷ (option ++ codes "--record" ∷ text ∷ [])) ⊎ (words ≡ codes "outcomes" ∷ codes "--record" ∷ text ∷ option))

-- the command for which the words ask; or none, where they ask for none
abbrev pub IsAsked : List (List ℕ) → Option Command → Type 0
IsAsked words (Some command) = AskFor words command
IsAsked words None = (command : Command) → AskFor words command → ⊥

-- ---- commands of what was read of the words

-- the command `chart` of two stamps, where the word is its name
abbrev pub chart_with : Option ℕ → Option ℕ → Option Command
chart_with (Some from) (Some to) = Some (Chart (record { from = from; to = to }))
chart_with _ _ = None

abbrev pub chart_of : List ℕ → Option ℕ → Option ℕ → Option Command
chart_of word from to = if bytes_eq word (codes "chart") then chart_with from to else None

-- the command `concurrent` of an event, where the word is its name
abbrev pub concurrent_with : Option At → Option Command
concurrent_with (Some event) = Some (Concurrent event)
concurrent_with None = None

abbrev pub concurrent_of : List ℕ → Option At → Option Command
concurrent_of word event = if bytes_eq word (codes "concurrent") then concurrent_with event else None

-- the number of states, where a search may visit so many
abbrev pub allowed : ℕ → Option ℕ
allowed states = if nat_lt 0 states && nat_le states 10000000 then Some states else None

abbrev pub states_in : List ℕ → Option ℕ
states_in text = option_and_then allowed (number_in text)

-- the command `outcomes` of so many states, where the word is its name
abbrev pub outcomes_with : Option ℕ → Option Command
outcomes_with (Some states) = Some (Outcomes states)
outcomes_with None = None

abbrev pub outcomes_of : List ℕ → Option ℕ → Option Command
outcomes_of word states = if bytes_eq word (codes "outcomes") then outcomes_with states else None

-- the same with the number of an outcome, whose record it writes
abbrev pub record_with : Option ℕ → Option ℕ → Option Command
record_with (Some states) (Some number) = Some (OutcomeRecord states number)
record_with _ _ = None

abbrev pub record_of : List ℕ → Option ℕ → Option ℕ → Option Command
record_of word states number = if bytes_eq word (codes "outcomes") then record_with states number else None

-- the number behind an option with this name
abbrev pub option_of : List ℕ → List ℕ → List ℕ → Option ℕ
option_of name word value = if bytes_eq word name then number_in value else None

-- the number of states behind the option `--states`
abbrev pub states_option : List ℕ → List ℕ → Option ℕ
states_option word value = if bytes_eq word (codes "--states") then states_in value else None

-- ---- what is written

-- the text that a command of records writes, of a script and the record of a settled run of it
abbrev pub IsTextOf : Command → Program → List Report → List ℕ → Type 0
IsTextOf (Chart window) script reports text = IsChartText script reports window text
IsTextOf (Concurrent event) script reports text = IsConcurrentText script reports event text
IsTextOf _ script reports text = ⊥

-- the command has something to write of this record
abbrev pub IsFit : Command → List Report → Type 0
IsFit (Chart window) reports = HasFew reports window
IsFit (Concurrent event) reports = is_there reports event ≡ true
IsFit _ reports = ⊥

-- the record lacks the event of which the command asks, or has more events than the command draws
abbrev pub LacksEvent : Command → List Report → Type 0
LacksEvent (Concurrent event) reports = is_there reports event ≡ false
LacksEvent _ reports = ⊥

abbrev pub HasTooMany : Command → List Report → Type 0
HasTooMany (Chart window) reports = AreTooMany reports window
HasTooMany _ reports = ⊥

-- so it is refused with this status
abbrev pub IsRefusal : Command → List Report → ViewStatus → Type 0
IsRefusal command reports NoEvent = LacksEvent command reports
IsRefusal command reports TooManyEvents = HasTooMany command reports
IsRefusal command reports _ = ⊥
