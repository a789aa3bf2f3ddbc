-- The commands, and what each writes (this project's own).
use Rattle.std.specs.Prelude.{◌≡◌, ℕ, List, [], ◌∷◌, codes, if◌then◌else◌, Option, Some, None}
use Rattle.std.specs.Str.{bytes_eq}
use Rattle.sig_program.specs.Scripts.{Program}
use Rattle.sig_record.specs.declared.report.Report.{Report}
use Rattle.sig_record.specs.RecordText.{record_text}
use Rattle.sig_tool.specs.declared.command.Command.{Command}
use Rattle.sig_tool.specs.declared.command.Command.TheVariants.{Check, Replay, Links, Before, Expand}
use Rattle.sig_order.specs.declared.at.At.{At}
use Rattle.sig_tool.specs.Linking.{IsLinksText}
use Rattle.sig_tool.specs.Numbers.{event_named}
use Rattle.sig_tool.specs.Ordering.{HasBoth, LacksOne, IsBeforeText}

-- the command of this name
abbrev pub named : List ℕ → Option Command
named word =
    if bytes_eq word (codes "check") then Some Check
    else (if bytes_eq word (codes "replay") then Some Replay
    else (if bytes_eq word (codes "links") then Some Links else (if bytes_eq word (codes "expand") then Some Expand else None)))

-- of two events the command `before`, where this is its name
abbrev pub before_with : Option At → Option At → Option Command
before_with (Some first) (Some second) = Some (Before first second)
before_with _ _ = None

abbrev pub before_of : List ℕ → Option At → Option At → Option Command
before_of word first second = if bytes_eq word (codes "before") then before_with first second else None

-- the command that these words are: one word, or `before` with four numbers
abbrev pub command_of : List (List ℕ) → Option Command
command_of (word ∷ []) = named word
command_of (word ∷ p ∷ i ∷ q ∷ j ∷ []) = before_of word (event_named p i) (event_named q j)
command_of _ = None

-- the text that a command of records writes, of a script and the record of a settled run of it
abbrev pub IsTextOf : Command → Program → List Report → List ℕ → Type 0
IsTextOf Check script reports text = text ≡ codes "yes\n"
IsTextOf Replay script reports text = text ≡ record_text reports
IsTextOf Links script reports text = IsLinksText script reports text
IsTextOf (Before first second) script reports text = IsBeforeText script reports first second text
IsTextOf Expand script reports text = ⊥

-- the record has the events of which the command asks, or lacks one
abbrev pub HasEvents : Command → List Report → Type 0
HasEvents (Before first second) reports = HasBoth reports first second
HasEvents _ reports = Unit {0}

abbrev pub LacksEvent : Command → List Report → Type 0
LacksEvent (Before first second) reports = LacksOne reports first second
LacksEvent _ reports = ⊥
