-- What a record says of an event, what the process did and how it went, and of how a process stands (this project's own): words, and
-- the fields behind them.
use Rattle.std.specs.Prelude.{ℕ, List, [], ◌∷◌, codes}
use Rattle.sig_terms.specs.declared.pid.Pid.{Pid}
use Rattle.sig_model.specs.declared.event.Did.{Did}
use Rattle.sig_model.specs.declared.event.Did.TheVariants as did
use Rattle.sig_model.specs.declared.event.Outcome.{Outcome}
use Rattle.sig_model.specs.declared.event.Outcome.TheVariants as outcome
use Rattle.sig_model.specs.declared.state.State.{State}
use Rattle.sig_model.specs.declared.state.State.TheVariants as state
use Rattle.sig_record.specs.Readers.{Reader}
use Rattle.sig_record.specs.Phrases.{a_narrow, a_wide, a_term, a_truth, Row, Phrase, says, phrase_text, rows_front}

-- ---- what a process did

abbrev pub pid_of : ℕ → Pid
pid_of n = record { 0 = n }

abbrev pub exec : Row Did
exec = record { word = codes "exec"; fields = a_narrow ∷ []; make = λ x. did.Exec x.0 }

abbrev pub from : Row Did
from = record { word = codes "from"; fields = a_narrow ∷ a_wide ∷ []; make = λ x. did.From (pid_of x.0) x.1.0 }

abbrev pub did_phrase : Did → Phrase
did_phrase (did.Exec place) = says exec (place, tt)
did_phrase (did.From p number) = says from (p.0, (number, tt))

abbrev pub did_text : Did → List ℕ
did_text d = phrase_text (did_phrase d)

abbrev pub did_rows : List (Row Did)
did_rows = exec ∷ from ∷ []

unfoldable pub did_front : Reader Did
did_front = rows_front did_rows

-- ---- how it went

abbrev pub sent : Row Outcome
sent = record { word = codes "sent"; fields = a_term ∷ a_term ∷ []; make = λ x. outcome.Sent x.0 x.1.0 }

abbrev pub set : Row Outcome
set = record { word = codes "set"; fields = a_term ∷ []; make = λ x. outcome.Set x.0 }

abbrev pub done : Row Outcome
done = record { word = codes "done"; fields = []; make = λ x. outcome.Done }

abbrev pub answered : Row Outcome
answered = record { word = codes "answered"; fields = a_truth ∷ []; make = λ x. outcome.Answered x.0 }

abbrev pub took : Row Outcome
took = record { word = codes "took"; fields = a_narrow ∷ a_wide ∷ a_term ∷ []; make = λ x. outcome.Took x.0 x.1.0 x.1.1.0 }

abbrev pub after : Row Outcome
after = record { word = codes "after"; fields = a_wide ∷ []; make = λ x. outcome.After x.0 }

abbrev pub ended : Row Outcome
ended = record { word = codes "ended"; fields = a_term ∷ []; make = λ x. outcome.Ended x.0 }

abbrev pub kept : Row Outcome
kept = record { word = codes "kept"; fields = a_term ∷ []; make = λ x. outcome.Kept x.0 }

-- of signals that were handled
abbrev pub dropped : Row Outcome
dropped = record { word = codes "dropped"; fields = []; make = λ x. outcome.Dropped }

abbrev pub linked : Row Outcome
linked = record { word = codes "linked"; fields = []; make = λ x. outcome.Linked }

abbrev pub unlinked : Row Outcome
unlinked = record { word = codes "unlinked"; fields = []; make = λ x. outcome.Unlinked }

abbrev pub acked : Row Outcome
acked = record { word = codes "acked"; fields = []; make = λ x. outcome.Acked }

abbrev pub watched : Row Outcome
watched = record { word = codes "watched"; fields = []; make = λ x. outcome.Watched }

abbrev pub unwatched : Row Outcome
unwatched = record { word = codes "unwatched"; fields = []; make = λ x. outcome.Unwatched }

abbrev pub noproc : Row Outcome
noproc = record { word = codes "noproc"; fields = []; make = λ x. outcome.NoProc }

abbrev pub outcome_phrase : Outcome → Phrase
outcome_phrase (outcome.Sent to message) = says sent (to, (message, tt))
outcome_phrase (outcome.Set value) = says set (value, tt)
outcome_phrase outcome.Done = says done tt
outcome_phrase (outcome.Answered value) = says answered (value, tt)
outcome_phrase (outcome.Took clause looked message) = says took (clause, (looked, (message, tt)))
outcome_phrase (outcome.After looked) = says after (looked, tt)
outcome_phrase (outcome.Ended reason) = says ended (reason, tt)
outcome_phrase (outcome.Kept message) = says kept (message, tt)
outcome_phrase outcome.Dropped = says dropped tt
outcome_phrase outcome.Linked = says linked tt
outcome_phrase outcome.Unlinked = says unlinked tt
outcome_phrase outcome.Acked = says acked tt
outcome_phrase outcome.Watched = says watched tt
outcome_phrase outcome.Unwatched = says unwatched tt
outcome_phrase outcome.NoProc = says noproc tt

abbrev pub outcome_text : Outcome → List ℕ
outcome_text o = phrase_text (outcome_phrase o)

-- the outcomes of signals that are words alone
abbrev pub word_rows : List (Row Outcome)
word_rows = dropped ∷ linked ∷ unlinked ∷ acked ∷ watched ∷ unwatched ∷ noproc ∷ []

abbrev pub outcome_rows : List (Row Outcome)
outcome_rows = sent ∷ set ∷ done ∷ answered ∷ took ∷ after ∷ ended ∷ kept ∷ word_rows

unfoldable pub outcome_front : Reader Outcome
outcome_front = rows_front outcome_rows

-- ---- how a process stands

abbrev pub has_ended : Row State
has_ended = record { word = codes "state ended"; fields = a_term ∷ []; make = λ x. state.Ended x.0 }

abbrev pub waiting : Row State
waiting = record { word = codes "state waiting"; fields = []; make = λ x. state.Waiting }

abbrev pub cut : Row State
cut = record { word = codes "state cut"; fields = []; make = λ x. state.Cut }

abbrev pub state_phrase : State → Phrase
state_phrase (state.Ended reason) = says has_ended (reason, tt)
state_phrase state.Waiting = says waiting tt
state_phrase state.Cut = says cut tt

abbrev pub state_rows : List (Row State)
state_rows = has_ended ∷ waiting ∷ cut ∷ []

unfoldable pub standing_front : Reader State
standing_front = rows_front state_rows
