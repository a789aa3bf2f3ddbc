-- A text of calls gives one answer: its script, or why it has none.
use Rattle.std.proofs.Common.{◌≡◌, ℕ, ◌+◌, ◌≤◌, Bool, true, false, cond, List, [], ◌∷◌, ◌++◌, length, map, nat_le, Option, Result, Ok, Err, sym, ap, ◌∙◌, arith}
use Rattle.std.proofs.lemmas.Bool.Decides.{nat_tests}
use Rattle.sig_program.specs.Scripts.{Program}
use Rattle.sig_program.specs.declared.version.Version.{Version}
use Rattle.sig_tokens.specs.Faults.{Fault, ◌>>=◌, on_ok}
use Rattle.sig_tokens.specs.Lines.{lines_of}
use Rattle.sig_reader.specs.Grammar.{script_of}
use Rattle.sig_reader.specs.declared.reader.TheConstants.{MOST_BYTES}
use Rattle.sig_canon.specs.ScriptText.{script_text}
use Rattle.sig_canon.proofs.ReadableLemmas.{readable}
use Rattle.sig_canon.proofs.WalkBack.{reads_back}
use Rattle.sig_call.specs.declared.fault.CallFault.{CallFault}
use Rattle.sig_call.specs.declared.fault.CallError.{CallError}
use Rattle.sig_call.specs.declared.fault.CallError.TheVariants as calls
use Rattle.sig_call.specs.CallLine.{CallLine, said_of}
use Rattle.sig_call.specs.Expansion.{Line, Stops, at_given, at_line, ends_in_feed, expanded, expansion, expansion_of, fed, first_line, given_line, lines_for, next_call, script_in, text_of, version_of}
use Rattle.sig_call.proofs.ExpansionLemmas.{too_long}
use Rattle.sig_tool.specs.declared.status.ToolStatus.{ToolStatus}
use Rattle.sig_tool.specs.declared.status.ToolStatus.TheVariants.{Done, BadScript, Usage, ReadFault, WriteFault, Memory, No, BadRecord, TooLong, NoEvent, BadCall}
use Rattle.sig_tool.specs.Expanding.{IsCallsDue, IsExpandedOf}
use Rattle.sig_tool.specs.Statuses.{of_call_error}

-- ---- only a text with too many bytes is told to be too long

-- it isn't this that is wrong
abbrev IsOther : {A : Type 0} → Result A CallError → Type 0
IsOther x = x ≡ Err calls.TooLong → ⊥

other_step : {A B : Type 0} (x : Result A CallError) (f : A → Result B CallError) → IsOther x → ((a : A) → IsOther (f a)) → IsOther (x >>= f)
other_step (Ok a) f p q h = q a h
other_step (Err e) f p q h = let same : e ≡ calls.TooLong = grind arith in p (ap (λ (y : CallError). Err y) same)

other_last : {A B : Type 0} (x : Result A CallError) (f : A → B) → IsOther x → IsOther (on_ok f x)
other_last (Ok a) f p h = absurd cc
other_last (Err e) f p h = let same : e ≡ calls.TooLong = grind arith in p (ap (λ (y : CallError). Err y) same)

other_given : (given : ℕ → ℕ) (x : Result Program Fault) → IsOther (at_given given x)
other_given given (Ok script) h = absurd cc
other_given given (Err fault) h = absurd cc

other_script : (feed : Bool) (behind : ℕ) (lines : List Line) → IsOther (script_in feed behind lines)
other_script feed behind lines =
    other_given (given_line (map (λ (l : Line). l.from) lines) behind) (script_of (text_of feed (fed (map (λ (l : Line). l.bytes) lines))))

abbrev numbered : ℕ → List ℕ → Line
numbered n line = record { from = n; bytes = line }

other_line : (version : Version) (n k : ℕ) (line : List ℕ) (lines : List (List ℕ)) (r : Result (Option CallLine) CallFault) →
    ((j : ℕ) → IsOther (expanded version (n + 1) j lines)) →
    IsOther (at_line n r >>= λ said. on_ok (λ more. map (numbered n) (lines_for k line said) ++ more) (expanded version (n + 1) (next_call k said) lines))
other_line version n k line lines (Err kind) rest h = absurd cc
other_line version n k line lines (Ok said) rest h =
    other_last (expanded version (n + 1) (next_call k said) lines) (λ (more : List Line). map (numbered n) (lines_for k line said) ++ more) (rest (next_call k said)) h

other_lines : (version : Version) (n k : ℕ) (lines : List (List ℕ)) → IsOther (expanded version n k lines)
unfolding expanded
other_lines version n k [] h = absurd cc
other_lines version n k (line ∷ lines) h = other_line version n k line lines (said_of version line) (λ j. other_lines version (n + 1) j lines) h

within : (bytes : List ℕ) → length bytes ≤ MOST_BYTES → nat_le (length bytes) MOST_BYTES ≡ true
within bytes h = grind (arith, nat_tests)

by_test : (b : Bool) (x : Result Program CallError) → b ≡ true → IsOther x → IsOther (cond b x (Err calls.TooLong))
by_test true x is p h = p h
by_test false x is p h = absurd cc

short_enough : (bytes : List ℕ) → length bytes ≤ MOST_BYTES → IsOther (expansion bytes)
unfolding expansion
short_enough bytes h =
    let read : List Line → Result Program CallError = script_in (ends_in_feed bytes) (length (lines_of bytes) + 1) in
    by_test (nat_le (length bytes) MOST_BYTES) (expansion_of bytes >>= read) (within bytes h)
    (other_step (expansion_of bytes) read (other_lines (version_of (first_line bytes)) 1 1 (lines_of bytes)) (other_script (ends_in_feed bytes) (length (lines_of bytes) + 1)))

-- ---- what is told

-- the error that was returned is told
pub told_so : (bytes : List ℕ) (e : CallError) → length bytes ≤ MOST_BYTES → Stops e (expansion bytes) → IsExpandedOf bytes (Err (of_call_error e))
told_so bytes calls.TooLong short h = absurd (short_enough bytes short h)
told_so bytes (calls.Call line kind) short h = h
told_so bytes (calls.Script line kind) short h = h
told_so bytes calls.Memory short h = tt

-- ---- what is due

-- the status that says what a text of calls gives
abbrev answer_of : Result Program CallError → ToolStatus
answer_of (Ok script) = Done
answer_of (Err e) = of_call_error e

its_answer : (bytes : List ℕ) (status : ToolStatus) → IsCallsDue bytes status → answer_of (expansion bytes) ≡ status
its_answer bytes Done h = ap answer_of h.1
its_answer bytes (BadScript line kind) h = ap answer_of h
its_answer bytes Usage h = absurd h
its_answer bytes ReadFault h = absurd h
its_answer bytes WriteFault h = absurd h
its_answer bytes Memory h = absurd h
its_answer bytes (No event) h = absurd h
its_answer bytes (BadRecord line) h = absurd h
its_answer bytes TooLong h = ap answer_of (too_long bytes h)
its_answer bytes NoEvent h = absurd h
its_answer bytes (BadCall line kind) h = ap answer_of h

pub one_calls_due : (bytes : List ℕ) (a b : ToolStatus) → IsCallsDue bytes a → IsCallsDue bytes b → a ≡ b
one_calls_due bytes a b p q = sym (its_answer bytes a p) ∙ its_answer bytes b q

-- ---- the text of the script

-- what the steps gave in the end they gave at each
step_ok : {A B : Type 0} (x : Result A CallError) (f : A → Result B CallError) (y : B) → (x >>= f) ≡ Ok y → (a : A) × (f a ≡ Ok y)
step_ok (Ok a) f y h = (a, h)
step_ok (Err e) f y h = absurd cc

given_ok : (given : ℕ → ℕ) (x : Result Program Fault) (script : Program) → at_given given x ≡ Ok script → x ≡ Ok script
given_ok given (Ok s) script h = let same : s ≡ script = grind arith in ap (λ (p : Program). Ok p) same
given_ok given (Err fault) script h = absurd cc

test_ok : (b : Bool) (x : Result Program CallError) (script : Program) → cond b x (Err calls.TooLong) ≡ Ok script → x ≡ Ok script
test_ok true x script h = h
test_ok false x script h = absurd cc

-- the script is that of a text
spelled : (bytes : List ℕ) (script : Program) → expansion bytes ≡ Ok script → (text : List ℕ) × (script_of text ≡ Ok script)
unfolding expansion
spelled bytes script h =
    let feed : Bool = ends_in_feed bytes in
    let read : List Line → Result Program CallError = script_in feed (length (lines_of bytes) + 1) in
    let so = step_ok (expansion_of bytes) read script (test_ok (nat_le (length bytes) MOST_BYTES) (expansion_of bytes >>= read) script h) in
    let text : List ℕ = text_of feed (fed (map (λ (l : Line). l.bytes) so.0)) in
    (text, given_ok (given_line (map (λ (l : Line). l.from) so.0) (length (lines_of bytes) + 1)) (script_of text) script so.1)

pub read_back : (bytes : List ℕ) (script : Program) → expansion bytes ≡ Ok script → length (script_text script) ≤ MOST_BYTES → script_of (script_text script) ≡ Ok script
read_back bytes script is short =
    let text = spelled bytes script is in
    reads_back script (readable text.0 script text.1) short
