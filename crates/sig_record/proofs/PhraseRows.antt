-- The tables of a record: what a row makes is said by that row, and each value's row is the first whose word its text begins with.
use Rattle.std.proofs.Common.{arith, rules}
use Rattle.sig_terms.proofs.TokenReads.{Stops}
use Rattle.sig_kinds.specs.declared.signal.Kind.{Kind}
use Rattle.sig_model.specs.declared.event.Did.{Did}
use Rattle.sig_model.specs.declared.event.Outcome.{Outcome}
use Rattle.sig_model.specs.declared.state.State.{State}
use Rattle.sig_model.specs.TermSizes.{KindSizes, OutcomeSizes}
use Rattle.sig_model.proofs.TermSizeLemmas.{small_kept}
use Rattle.sig_record.specs.EventRows.{did_phrase, did_text, did_rows, did_front, outcome_phrase, outcome_text, outcome_rows, outcome_front, state_phrase, state_rows, standing_front}
use Rattle.sig_record.specs.FaultLine.{IsInline}
use Rattle.sig_record.specs.KindRows.{kind_phrase, kind_text, kind_rows, kind_front}
use Rattle.sig_record.specs.SizedRecord.{IsSizedPhrase, IsSizedOutcome, IsSizedKind}
use Rattle.sig_record.proofs.ReaderLaws.{Law}
use Rattle.sig_record.proofs.PhraseLaws.{text, ok, AreSaid, IsFound, rows_law}

-- ---- what a process did

dids_said : AreSaid did_phrase did_rows
dids_said = search rules

did_found : (d : Did) → IsFound did_phrase did_rows d
did_found d = search rules

pub did_law : Law Stops did_text (ok did_phrase) did_front
unfolding did_front
did_law = rows_law did_phrase did_rows dids_said did_found

pub did_sized : (d : Did) → IsSizedPhrase (did_phrase d)
did_sized d = search rules

-- ---- how it went

outcomes_said : AreSaid outcome_phrase outcome_rows
outcomes_said = search rules

outcome_found : (o : Outcome) → IsFound outcome_phrase outcome_rows o
outcome_found o = search rules

pub outcome_law : Law Stops outcome_text (ok outcome_phrase) outcome_front
unfolding outcome_front
outcome_law = rows_law outcome_phrase outcome_rows outcomes_said outcome_found

-- the machine's law on sizes speaks of the same terms
pub told_outcome : (o : Outcome) → OutcomeSizes o → IsSizedOutcome o
told_outcome o h = grind arith

-- ---- what a signal says

kinds_said : AreSaid kind_phrase kind_rows
kinds_said = search rules

kind_found : (k : Kind) → IsFound kind_phrase kind_rows k
kind_found k = search rules

pub kind_law : Law Stops kind_text (ok kind_phrase) kind_front
unfolding kind_front
kind_law = rows_law kind_phrase kind_rows kinds_said kind_found

-- small terms are no larger than what is read
pub small_kind : (k : Kind) → KindSizes k → IsSizedKind k
small_kind k h = grind (arith, small_kept)

-- ---- how a process stands

states_said : AreSaid state_phrase state_rows
states_said = search rules

state_found : (s : State) → IsFound state_phrase state_rows s
state_found s = search rules

pub standing_law : Law Stops (text state_phrase) (ok state_phrase) standing_front
unfolding standing_front
standing_law = rows_law state_phrase state_rows states_said state_found

-- ---- words without a line feed

pub did_word : (d : Did) → IsInline (did_phrase d).word
did_word d = search rules

pub outcome_word : (o : Outcome) → IsInline (outcome_phrase o).word
outcome_word o = search rules

pub kind_word : (k : Kind) → IsInline (kind_phrase k).word
kind_word k = search rules

pub state_word : (s : State) → IsInline (state_phrase s).word
state_word s = search rules
