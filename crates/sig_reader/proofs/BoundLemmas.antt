-- The bounds that hold while a text is walked, and of the scripts that the walks give.
use Rattle.std.proofs.Common.{◌≡◌, ℕ, suc, ◌+◌, ◌<◌, ◌≤◌, List, [], ◌∷◌, ◌++◌, length, All, Bool, true, false, if◌then◌else◌, ◌==◌, nat_le, Option, Some, None, Result, Ok, Err, refl, sym, ◌∙◌, ap, subst, arith, length-append, ◌^◌, le_refl, map, zero, get_or, IfSome}
use Rattle.std.specs.Option.{option_map_or}
use Rattle.std.specs.Prelude.{filter_map, option_to_list, OnOk}
use Rattle.std.specs.List.{list_any, cons_option}
use Rattle.std.specs.Str.{bytes_eq}
use Rattle.std.proofs.lemmas.Bool.Decides.{nat_tests}
use Rattle.std.proofs.lemmas.List.{map-append, length-map}
use Rattle.std.proofs.lemmas.List.Elements.{All-nil, All-cons, All-head, All-tail, All-append, All-push, All-weaker}
use Rattle.sig_kinds.specs.declared.queue_data.QueueData.{QueueData}
use Rattle.sig_patterns.specs.declared.clause.Clause.{Clause}
use Rattle.sig_patterns.specs.declared.var.Var.{Var}
use Rattle.sig_patterns.specs.Pinning.{pins}
use Rattle.sig_program.specs.declared.version.Version.{Version}
use Rattle.sig_program.specs.declared.version.Version.TheVariants.{One, Two}
use Rattle.sig_program.specs.declared.label.Label.{Label}
use Rattle.sig_program.specs.declared.instruction.After.{After}
use Rattle.sig_program.specs.declared.instruction.Instr.{Instr}
use Rattle.sig_tokens.specs.declared.fault.FaultKind.{FaultKind}
use Rattle.sig_tokens.specs.declared.token.Token.{Token}
use Rattle.sig_reader.specs.declared.keyword.Keyword.{Keyword}
use Rattle.sig_reader.specs.declared.keyword.Keyword.TheVariants as keyword
use Rattle.sig_tokens.specs.declared.known.Known.{Known}
use Rattle.sig_tokens.specs.declared.known.Known.TheVariants.{Any, Among}
use Rattle.sig_reader.specs.declared.draft.Section.{Section}
use Rattle.sig_reader.specs.declared.draft.Section.TheVariants.{Before, Outside, Inside}
use Rattle.sig_reader.specs.declared.draft.Draft.{Draft}
use Rattle.sig_reader.specs.declared.form.Form.{Form}
use Rattle.sig_reader.specs.declared.form.Form.TheVariants as form
use Rattle.sig_program.specs.Scripts.{Declared, Program, AreMarked, IsInstrWithin, IsPlace, AreRising, IsWithin, IsExprBelow, IsPatternBelow, IsInstrBelow, IsScriptWithin, most_processes}
use Rattle.sig_program.specs.Parts.{targets_of}
use Rattle.sig_tokens.specs.declared.fault.Stop.{Stop}
use Rattle.sig_tokens.specs.Faults.{Fault, ◌>>=◌, on_ok, Gives}
use Rattle.sig_tokens.specs.Lines.{lines_of, onto_first}
use Rattle.sig_tokens.specs.Tokens.{text, tokens_of}
use Rattle.sig_tokens.specs.Names.{labels_at}
use Rattle.sig_tokens.specs.PatternTexts.{pattern_of}
use Rattle.sig_reader.specs.Forms.{keyword_of, may_stand, ends, arrow_of, count_from, turns_of, whole_name, queue_data_at, marker_of, behind_pattern, on_of, instr_of, form_of, form_behind, said_by, said}
use Rattle.sig_reader.specs.Drafts.{blank, open_proc, all_procs, program_of, bare_proc, begun, may_tell, labelled, with_instr, is_marked, may_guard, with_clause, taken_at}
use Rattle.sig_reader.specs.Grammar.{located, finished, taken_if, line_taken, body, walk}
use Rattle.sig_reader.specs.Fitting.{IsSmall, IsFit}
use Rattle.sig_reader.proofs.FitLemmas.{all-last}
use Rattle.sig_reader.proofs.BoundTermLemmas.{Holds, anything, holds-of, holds-if, holds-on_ok, holds-then, holds-ends, IsTarget, IsMeantForm, no-mode, said-meant}
use Rattle.sig_program.specs.declared.script.TheConstants.{DEFAULT_TURNS, MOST_TURNS}
use Rattle.sig_program.specs.declared.instruction.Receiving.{Receiving}
use Rattle.sig_program.specs.declared.instruction.Instr.TheVariants as instr

-- each item but the last
pub all-front : {A : Type 0} (P : A → Type 0) (xs : List A) (x : A) → All P (xs ++ x ∷ []) → All P xs
all-front P [] x h = All-nil P
all-front P (y ∷ ys) x h = All-cons P y ys (All-head P y (ys ++ x ∷ []) h) (all-front P ys x (All-tail P y (ys ++ x ∷ []) h))

-- one line more
small_later : (n : ℕ) (p : Declared) → IsSmall n p → IsSmall (n + 1) p
small_later n p h = record { instrs = omega (arith, h.instrs); labels = omega (arith, h.labels) }

all-later : (n : ℕ) (ps : List Declared) → All (IsSmall n) ps → All (IsSmall (n + 1)) ps
all-later n ps h = All-weaker (IsSmall n) (IsSmall (n + 1)) (small_later n) ps h

pub fit_later : (n : ℕ) (d : Draft) → IsFit n d → IsFit (n + 1) d
fit_later n d h = record { few = h.few; small = all-later n (all_procs d) h.small }

none_many : (v : Version) → 0 ≤ most_processes v
none_many One = omega arith
none_many Two = omega arith

pub fit_blank : (n : ℕ) (v : Version) → IsFit n (blank v)
fit_blank n v = record { few = none_many v; small = All-nil (IsSmall n) }

-- another last process
same-length : {A : Type 0} (xs : List A) (x y : A) → length (xs ++ x ∷ []) ≡ length (xs ++ y ∷ [])
same-length xs x y = length-append xs (x ∷ []) ∙ sym (length-append xs (y ∷ []))

fit_last : (n : ℕ) (d : Draft) (p q : Declared) →
    IsFit n (record d { section = Outside p }) → IsSmall (n + 1) q → IsFit (n + 1) (record d { section = Outside q })
fit_last n d p q h s = record {
  few = omega (arith, h.few, same-length d.procs p q);
  small = All-push (IsSmall (n + 1)) d.procs q (all-later n d.procs (all-front (IsSmall n) d.procs p h.small)) s;
}

-- messages kept elsewhere
small_again : (n : ℕ) (p : Declared) (queue_data : QueueData) → IsSmall n p → IsSmall n (record p { queue_data = queue_data })
small_again n p queue_data h = record { instrs = h.instrs; labels = h.labels }

-- where it was told
fit_told : (n : ℕ) (d : Draft) (p q : Declared) →
    IsFit n (record d { section = Outside p }) → IsSmall (n + 1) q → IsFit (n + 1) (record d { section = Outside q; told = true })
fit_told n d p q h s = let k = fit_last n d p q h s in record { few = k.few; small = k.small }

small_instr : (n : ℕ) (p : Declared) (i : Instr) → IsSmall n p → IsSmall (n + 1) (with_instr p i)
small_instr n p i h = record { instrs = omega (arith, h.instrs, length-append p.instrs (i ∷ [])); labels = omega (arith, h.labels) }

small_label : (n : ℕ) (p : Declared) (l : Label) → IsSmall n p → IsSmall (n + 1) (record p { labels = p.labels ++ l ∷ [] })
small_label n p l h = record { instrs = omega (arith, h.instrs); labels = omega (arith, h.labels, length-append p.labels (l ∷ [])) }

small_labelled : (n : ℕ) (p : Declared) (name : List ℕ) → IsSmall n p → Holds (IsSmall (n + 1)) (labelled p name)
small_labelled n p name h =
    holds-if (IsSmall (n + 1)) (list_any (λ (l : Label). bytes_eq l.name name) p.labels) _ _ (λ _. tt)
    (λ _. small_label n p (record { name = name; place = length p.instrs + 1 }) h)

room_for_one : (most n m : ℕ) → nat_le most n ≡ false → m ≡ n + 1 → m ≤ most
room_for_one most n m room e = grind (arith, nat_tests)

fit_begun : (n : ℕ) (d : Draft) (name : List ℕ) → IsFit n d → Holds (IsFit (n + 1)) (begun d name)
fit_begun n d name h =
    let p : Declared = bare_proc d.version name in
    let small : IsSmall (n + 1) p = record { instrs = omega arith; labels = omega arith } in
    holds-if (IsFit (n + 1)) (list_any (λ (p : Declared). bytes_eq p.name name) (all_procs d)) _ _ (λ _. tt)
    (λ _. holds-if (IsFit (n + 1)) (nat_le (most_processes d.version) (length (all_procs d))) _ _ (λ _. tt)
    (λ room. record {
      few = room_for_one (most_processes d.version) (length (all_procs d)) (length (all_procs d ++ p ∷ [])) room (length-append (all_procs d) (p ∷ []));
      small = All-push (IsSmall (n + 1)) (all_procs d) p (all-later n (all_procs d) h.small) small;
    }))

fit_at : (n : ℕ) (d : Draft) (section : Section) (f : Form) →
    IsFit n (record d { section = section }) → Holds (IsFit (n + 1)) (taken_at (record d { section = section }) section f)
fit_at n d Before (form.Turns m) h =
    holds-if (IsFit (n + 1)) (nat_le m MOST_TURNS) _ _ (λ _. fit_later n (record d { turns = Some m; section = Before }) (record { few = h.few; small = h.small })) (λ _. tt)
fit_at n d Before (form.Process name) h = fit_begun n (record d { section = Before }) name h
fit_at n d Before _ h = tt
fit_at n d (Outside p) (form.Process name) h = fit_begun n (record d { section = Outside p }) name h
fit_at n d (Outside p) (form.QueueData queue_data) h =
    let q : Declared = record p { queue_data = queue_data } in
    holds-if (IsFit (n + 1)) (may_tell d.version d.told p) _ _ (λ _. fit_told n d p q h (small_later n q (small_again n p queue_data (all-last (IsSmall n) d.procs p h.small)))) (λ _. tt)
fit_at n d (Outside p) (form.Label name) h =
    holds-on_ok (IsSmall (n + 1)) (IsFit (n + 1)) (λ q. record d { section = Outside q }) (labelled p name)
    (small_labelled n p name (all-last (IsSmall n) d.procs p h.small)) (λ q s. fit_last n d p q h s)
fit_at n d (Outside p) (form.Do i) h = fit_last n d p (with_instr p i) h (small_instr n p i (all-last (IsSmall n) d.procs p h.small))
fit_at n d (Outside p) (form.Receive using) h = record { few = h.few; small = all-later n (d.procs ++ p ∷ []) h.small }
fit_at n d (Outside p) _ h = tt
fit_at n d (Inside p r) (form.On c) h =
    holds-on_ok (λ _. Unit {0}) (IsFit (n + 1)) (λ more. record d { section = Inside p (record r { clauses = more }) }) (with_clause d.version r.using r.clauses c)
    (anything (with_clause d.version r.using r.clauses c)) (λ more _. record { few = h.few; small = all-later n (d.procs ++ p ∷ []) h.small })
fit_at n d (Inside p r) (form.After next) h = record { few = h.few; small = all-later n (d.procs ++ p ∷ []) h.small }
fit_at n d (Inside p r) form.End h =
    fit_last n d p (with_instr p (instr.Receive r)) (record { few = h.few; small = h.small })
    (small_instr n p (instr.Receive r) (all-last (IsSmall n) d.procs p h.small))
fit_at n d (Inside p r) _ h = tt

fit_said : (n : ℕ) (d : Draft) (said : Option Form) → IsFit n d → Holds (IsFit (n + 1)) (taken_if d said)
fit_said n d None h = fit_later n d h
fit_said n d (Some f) h = fit_at n d d.section f h

fit_line : (known : Known) (n : ℕ) (d : Draft) (line : List ℕ) → IsFit n d → Holds (IsFit (n + 1)) (line_taken known d line)
fit_line known n d line h = holds-then (λ _. Unit {0}) (IsFit (n + 1)) (taken_if d) (said known d line) (anything (said known d line)) (λ s _. fit_said n d s h)

pub fit_taken : (known : Known) (n : ℕ) (d e : Draft) (line : List ℕ) → IsFit n d → line_taken known d line ≡ Ok e → IsFit (n + 1) e
fit_taken known n d e line h taken =
    holds-of (IsFit (n + 1)) (line_taken known d line) e (fit_line known n d line h) taken

-- the same where a reader has read the line
pub fit_read : (known : Known) (n : ℕ) (d e : Draft) (line : List ℕ) (r : Result (Unit {0}) Stop) → IsFit n d → Gives (λ _. e) r (line_taken known d line) → OnOk r (IsFit (n + 1) e)
fit_read known n d e line (Ok u) h taken = fit_taken known n d e line h taken
fit_read known n d e line (Err stop) h taken = tt

-- bodies: what holds before each line, and of the script behind the last
pub holds-located : {A B : Type 0} (P : A → Type 0) (Q : B → Type 0) (n : ℕ) (f : A → Result B Fault) (r : Result A FaultKind) →
    Holds P r → ((x : A) → P x → Holds Q (f x)) → Holds Q (located n r >>= f)
holds-located P Q n f (Ok x) h k = k x h
holds-located P Q n f (Err e) h k = tt

pub holds-finished : (Q : Program → Type 0) (n : ℕ) (d : Draft) (section : Section) → Q (program_of d) → Holds Q (finished n d section)
holds-finished Q n d Before h = h
holds-finished Q n d (Outside p) h = h
holds-finished Q n d (Inside p r) h = tt

module _ (known : Known) (P : ℕ → Draft → Type 0) (Q : Program → Type 0) (m : ℕ)
    (step : (n : ℕ) (d : Draft) (line : List ℕ) → n < m → P n d → Holds (P (n + 1)) (line_taken known d line))
    (last : (n : ℕ) (d : Draft) → n ≤ m → P n d → Q (program_of d)) where
  pub body-holds : (n : ℕ) (d : Draft) (lines : List (List ℕ)) → n + length lines ≤ m → P n d → Holds Q (body known n d lines)
  unfolding body
  body-holds n d [] le h = holds-finished Q n d d.section (last n d (omega (arith, le)) h)
  body-holds n d (line ∷ lines) le h =
      holds-located (P (n + 1)) Q n (λ e. body known (n + 1) e lines) (line_taken known d line) (step n d line (omega (arith, le)) h)
      (λ e k. body-holds (n + 1) e lines (omega (arith, le)) k)

-- few processes, and few instructions and labels in each
abbrev IsFew : ℕ → Program → Type 0
IsFew m s = (length s.procs ≤ most_processes s.version) × All (IsSmall m) s.procs

small_more : (n m : ℕ) (p : Declared) → n ≤ m → IsSmall n p → IsSmall m p
small_more n m p le h = record { instrs = omega (arith, h.instrs); labels = omega (arith, h.labels) }

few-more : (n m : ℕ) (ps : List Declared) → n ≤ m → All (IsSmall n) ps → All (IsSmall m) ps
few-more n m ps le h = All-weaker (IsSmall n) (IsSmall m) (λ p k. small_more n m p le k) ps h

few_walked : (v : Version) (known : Known) (lines : List (List ℕ)) (s : Program) → walk v known lines ≡ Ok s → IsFew (2 + length lines) s
few_walked v known lines s e =
    holds-of (IsFew (2 + length lines)) (walk v known lines) s
    (body-holds known IsFit (IsFew (2 + length lines)) (2 + length lines) (λ n d line _ h. fit_line known n d line h)
    (λ n d le h. (h.few, few-more n (2 + length lines) (all_procs d) le h.small)) 2 (blank v) lines (le_refl (2 + length lines)) (fit_blank 2 v)) e

-- a text has no more lines than bytes
few-if : (v : Bool) (n : ℕ) (x y : List (List ℕ)) → length x ≤ n → length y ≤ n → length (if v then x else y) ≤ n
few-if true n x y h k = h
few-if false n x y h k = k

few-onto : (b n : ℕ) (lines : List (List ℕ)) → length lines ≤ n → length (onto_first b lines) ≤ suc n
few-onto b n [] h = omega arith
few-onto b n (line ∷ lines) h = omega (arith, h)

pub few_lines : (bytes : List ℕ) → length (lines_of bytes) ≤ length bytes
few_lines [] = omega arith
few_lines (b ∷ bs) =
    let first : length ([] ∷ lines_of bs) ≤ length (b ∷ bs) = omega (arith, few_lines bs) in
    few-if (b == 10) (length (b ∷ bs)) ([] ∷ lines_of bs) (onto_first b (lines_of bs)) first (few-onto b (length bs) (lines_of bs) (few_lines bs))

-- how many labels each process has: told by the words of the lines alone
abbrev pub counts : List Declared → List ℕ
counts ps = map (λ (p : Declared). length p.labels) ps

-- one label more in the last process
abbrev one_more : List ℕ → List ℕ
one_more [] = []
one_more (c ∷ []) = (c + 1) ∷ []
one_more (c ∷ d ∷ ds) = c ∷ one_more (d ∷ ds)

abbrev counted_word : Keyword → List ℕ → List ℕ
counted_word keyword.Process cs = cs ++ 0 ∷ []
counted_word keyword.Label cs = one_more cs
counted_word _ cs = cs

abbrev counted_form : Form → List ℕ → List ℕ
counted_form (form.Process name) cs = cs ++ 0 ∷ []
counted_form (form.Label name) cs = one_more cs
counted_form _ cs = cs

abbrev counted_said : Option Form → List ℕ → List ℕ
counted_said None cs = cs
counted_said (Some f) cs = counted_form f cs

abbrev counted_by : Option Keyword → List ℕ → List ℕ
counted_by None cs = cs
counted_by (Some word) cs = counted_word word cs

abbrev counted_in : List ℕ → Result (List Token) FaultKind → List ℕ → List ℕ
counted_in line (Err k) cs = cs
counted_in line (Ok []) cs = cs
counted_in line (Ok (w ∷ ts)) cs = counted_by (keyword_of (text line w)) cs

counted : Version → List ℕ → List ℕ → List ℕ
counted v line cs = counted_in line (tokens_of v line) cs

abbrev counted_all : Version → List (List ℕ) → List ℕ → List ℕ
counted_all v [] cs = cs
counted_all v (line ∷ lines) cs = counted_all v lines (counted v line cs)

abbrev SaysAs : Keyword → Form → Type 0
SaysAs word f = (cs : List ℕ) → counted_form f cs ≡ counted_word word cs

turns-counted : (line : List ℕ) (ts : List Token) → Holds (SaysAs keyword.Turns) (turns_of line ts)
turns-counted line [] = tt
turns-counted line (t ∷ ts) =
    holds-then (λ _. Unit {0}) (SaysAs keyword.Turns) (λ n. ends (form.Turns n) ts) (count_from t.kind (text line t)) (anything (count_from t.kind (text line t)))
    (λ n _. holds-ends (SaysAs keyword.Turns) (form.Turns n) ts (λ cs. refl))

on-counted : (known : Known) (here : ℕ) (line : List ℕ) (ts : List Token) → Holds (SaysAs keyword.On) (on_of known here line ts)
on-counted known here line ts =
    holds-then (λ _. Unit {0}) (SaysAs keyword.On) (λ x. on_ok (λ y. form.On (record { pattern = x.0; guard = y.0; target = y.1 })) (behind_pattern known here line x.1))
    (pattern_of known line ts) (anything (pattern_of known line ts))
    (λ x _. holds-on_ok (λ _. Unit {0}) (SaysAs keyword.On) (λ y. form.On (record { pattern = x.0; guard = y.0; target = y.1 })) (behind_pattern known here line x.1)
    (anything (behind_pattern known here line x.1)) (λ o _ cs. refl))

form-counted : (known : Known) (here : ℕ) (word : Keyword) (line : List ℕ) (ts : List Token) → Holds (SaysAs word) (form_of known here word line ts)
unfolding form_of
form-counted known here keyword.Turns line ts = turns-counted line ts
form-counted known here keyword.Process line ts =
    holds-on_ok (λ _. Unit {0}) (SaysAs keyword.Process) form.Process (whole_name line ts) (anything (whole_name line ts)) (λ n _ cs. refl)
form-counted known here keyword.QueueData line ts =
    holds-on_ok (λ _. Unit {0}) (SaysAs keyword.QueueData) form.QueueData (queue_data_at line ts) (anything (queue_data_at line ts)) (λ q _ cs. refl)
form-counted known here keyword.Label line ts =
    holds-on_ok (λ _. Unit {0}) (SaysAs keyword.Label) form.Label (whole_name line ts) (anything (whole_name line ts)) (λ n _ cs. refl)
form-counted known here keyword.Receive line ts =
    holds-on_ok (λ _. Unit {0}) (SaysAs keyword.Receive) form.Receive (marker_of line ts) (anything (marker_of line ts)) (λ u _ cs. refl)
form-counted known here keyword.On line ts = on-counted known here line ts
form-counted known here keyword.After line ts =
    holds-on_ok (λ _. Unit {0}) (SaysAs keyword.After) (λ target. form.After (record { target = target })) (arrow_of known here line ts) (anything (arrow_of known here line ts)) (λ o _ cs. refl)
form-counted known here keyword.End line ts = holds-ends (SaysAs keyword.End) form.End ts (λ cs. refl)
form-counted known here (keyword.Do v) line ts =
    holds-on_ok (λ _. Unit {0}) (SaysAs (keyword.Do v)) form.Do (instr_of known here v line ts) (anything (instr_of known here v line ts)) (λ i _ cs. refl)

form_behind-counted : (known : Known) (d : Draft) (word : Option Keyword) (line : List ℕ) (ts : List Token) →
    Holds (λ f. (cs : List ℕ) → counted_form f cs ≡ counted_by word cs) (form_behind known d word line ts)
form_behind-counted known d None line ts = tt
form_behind-counted known d (Some word) line ts =
    holds-if (SaysAs word) (may_stand d word) _ _ (λ _. form-counted known (length d.procs) word line ts) (λ _. tt)

said_by-counted : (known : Known) (d : Draft) (line : List ℕ) (ts : List Token) →
    Holds (λ o. (cs : List ℕ) → counted_said o cs ≡ counted_in line (Ok ts) cs) (said_by known d line ts)
unfolding said_by
said_by-counted known d line [] = λ cs. refl
said_by-counted known d line (w ∷ ts) =
    holds-on_ok (λ f. (cs : List ℕ) → counted_form f cs ≡ counted_by (keyword_of (text line w)) cs) (λ o. (cs : List ℕ) → counted_said o cs ≡ counted_by (keyword_of (text line w)) cs) Some
    (form_behind known d (keyword_of (text line w)) line ts) (form_behind-counted known d (keyword_of (text line w)) line ts) (λ f h. h)

said_in-counted : (known : Known) (d : Draft) (line : List ℕ) (r : Result (List Token) FaultKind) →
    Holds (λ o. (cs : List ℕ) → counted_said o cs ≡ counted_in line r cs) (r >>= said_by known d line)
said_in-counted known d line (Ok ts) = said_by-counted known d line ts
said_in-counted known d line (Err k) = tt

said-counted : (known : Known) (d : Draft) (line : List ℕ) → Holds (λ o. (cs : List ℕ) → counted_said o cs ≡ counted d.version line cs) (said known d line)
unfolding said counted
said-counted known d line = said_in-counted known d line (tokens_of d.version line)

-- a form more
counts-push : (ps : List Declared) (p : Declared) → counts (ps ++ p ∷ []) ≡ counts ps ++ length p.labels ∷ []
counts-push ps p = map-append (λ (q : Declared). length q.labels) ps (p ∷ [])

counts-last : (ps : List Declared) (p q : Declared) → length q.labels ≡ length p.labels → counts (ps ++ q ∷ []) ≡ counts (ps ++ p ∷ [])
counts-last ps p q e = counts-push ps q ∙ ap (λ (n : ℕ). counts ps ++ n ∷ []) e ∙ sym (counts-push ps p)

one_more-last : (cs : List ℕ) (c : ℕ) → one_more (cs ++ c ∷ []) ≡ cs ++ (c + 1) ∷ []
one_more-last [] c = refl
one_more-last (d ∷ []) c = refl
one_more-last (d ∷ e ∷ es) c = ap (λ (xs : List ℕ). d ∷ xs) (one_more-last (e ∷ es) c)

counts-more : (ps : List Declared) (p q : Declared) → length q.labels ≡ length p.labels + 1 → counts (ps ++ q ∷ []) ≡ one_more (counts (ps ++ p ∷ []))
counts-more ps p q e =
    counts-push ps q ∙ ap (λ (n : ℕ). counts ps ++ n ∷ []) e ∙ sym (one_more-last (counts ps) (length p.labels)) ∙ ap one_more (sym (counts-push ps p))

-- so many labels, in a script of the same version
abbrev CountedAs : Version → List ℕ → Draft → Type 0
CountedAs v cs e = (counts (all_procs e) ≡ cs) × (e.version ≡ v)

begun-counted : (d : Draft) (name : List ℕ) → Holds (CountedAs d.version (counts (all_procs d) ++ 0 ∷ [])) (begun d name)
begun-counted d name =
    let P : Draft → Type 0 = CountedAs d.version (counts (all_procs d) ++ 0 ∷ []) in
    holds-if P (list_any (λ (p : Declared). bytes_eq p.name name) (all_procs d)) _ _ (λ _. tt)
    (λ _. holds-if P (nat_le (most_processes d.version) (length (all_procs d))) _ _ (λ _. tt) (λ _. (counts-push (all_procs d) (bare_proc d.version name), refl)))

labelled-counted : (p : Declared) (name : List ℕ) → Holds (λ q. length q.labels ≡ length p.labels + 1) (labelled p name)
labelled-counted p name =
    holds-if (λ (q : Declared). length q.labels ≡ length p.labels + 1) (list_any (λ (l : Label). bytes_eq l.name name) p.labels) _ _ (λ _. tt)
    (λ _. length-append p.labels (record { name = name; place = length p.instrs + 1 } ∷ []))

taken_at-counted : (d : Draft) (section : Section) (f : Form) →
    Holds (CountedAs d.version (counted_form f (counts (d.procs ++ open_proc section)))) (taken_at (record d { section = section }) section f)
taken_at-counted d Before (form.Turns m) = holds-if (CountedAs d.version (counts (d.procs ++ []))) (nat_le m MOST_TURNS) _ _ (λ _. (refl, refl)) (λ _. tt)
taken_at-counted d Before (form.Process name) = begun-counted (record d { section = Before }) name
taken_at-counted d Before _ = tt
taken_at-counted d (Outside p) (form.Process name) = begun-counted (record d { section = Outside p }) name
taken_at-counted d (Outside p) (form.QueueData q) =
    holds-if (CountedAs d.version (counts (d.procs ++ p ∷ []))) (may_tell d.version d.told p) _ _ (λ _. (counts-last d.procs p (record p { queue_data = q }) refl, refl)) (λ _. tt)
taken_at-counted d (Outside p) (form.Label name) =
    holds-on_ok (λ q. length q.labels ≡ length p.labels + 1) (CountedAs d.version (one_more (counts (d.procs ++ p ∷ [])))) (λ q. record d { section = Outside q })
    (labelled p name) (labelled-counted p name) (λ q h. (counts-more d.procs p q h, refl))
taken_at-counted d (Outside p) (form.Do i) = (counts-last d.procs p (with_instr p i) refl, refl)
taken_at-counted d (Outside p) (form.Receive using) = (refl, refl)
taken_at-counted d (Outside p) _ = tt
taken_at-counted d (Inside p r) (form.On c) =
    holds-on_ok (λ _. Unit {0}) (CountedAs d.version (counts (d.procs ++ p ∷ []))) (λ more. record d { section = Inside p (record r { clauses = more }) })
    (with_clause d.version r.using r.clauses c) (anything (with_clause d.version r.using r.clauses c)) (λ more _. (refl, refl))
taken_at-counted d (Inside p r) (form.After next) = (refl, refl)
taken_at-counted d (Inside p r) form.End = (counts-last d.procs p (with_instr p (instr.Receive r)) refl, refl)
taken_at-counted d (Inside p r) _ = tt

taken_if-counted : (d : Draft) (o : Option Form) → Holds (CountedAs d.version (counted_said o (counts (all_procs d)))) (taken_if d o)
taken_if-counted d None = (refl, refl)
taken_if-counted d (Some f) = taken_at-counted d d.section f

line-counted : (known : Known) (d : Draft) (line : List ℕ) → Holds (CountedAs d.version (counted d.version line (counts (all_procs d)))) (line_taken known d line)
line-counted known d line =
    holds-then (λ o. (cs : List ℕ) → counted_said o cs ≡ counted d.version line cs) (CountedAs d.version (counted d.version line (counts (all_procs d)))) (taken_if d) (said known d line) (said-counted known d line)
    (λ o h. subst (λ cs. Holds (CountedAs d.version cs) (taken_if d o)) (h (counts (all_procs d))) (taken_if-counted d o))

body-counted : (known : Known) (n : ℕ) (d : Draft) (lines : List (List ℕ)) → Holds (λ s. counts s.procs ≡ counted_all d.version lines (counts (all_procs d))) (body known n d lines)
unfolding body
body-counted known n d [] = holds-finished (λ s. counts s.procs ≡ counts (all_procs d)) n d d.section refl
body-counted known n d (line ∷ lines) =
    holds-located (CountedAs d.version (counted d.version line (counts (all_procs d)))) (λ s. counts s.procs ≡ counted_all d.version lines (counted d.version line (counts (all_procs d)))) n
    (λ e. body known (n + 1) e lines) (line_taken known d line) (line-counted known d line)
    (λ e h. subst (λ cs. Holds (λ s. counts s.procs ≡ counted_all d.version lines cs) (body known (n + 1) e lines)) h.0
    (subst (λ v. Holds (λ s. counts s.procs ≡ counted_all v lines (counts (all_procs e))) (body known (n + 1) e lines)) h.1 (body-counted known (n + 1) e lines)))

walk-counted : (v : Version) (known : Known) (lines : List (List ℕ)) (s : Program) → walk v known lines ≡ Ok s → counts s.procs ≡ counted_all v lines []
walk-counted v known lines s e = holds-of (λ (s : Program). counts s.procs ≡ counted_all v lines []) (walk v known lines) s (body-counted known 2 (blank v) lines) e

-- two walks find as many processes, and in each as many labels
pub same_counts : (v : Version) (known other : Known) (lines : List (List ℕ)) (first s : Program) → walk v known lines ≡ Ok first → walk v other lines ≡ Ok s → counts first.procs ≡ counts s.procs
same_counts v known other lines first s e k = walk-counted v known lines first e ∙ sym (walk-counted v other lines s k)

-- what holds of each process and its place among the processes
abbrev Each : (ℕ → Declared → Type 0) → ℕ → List Declared → Type 0
Each P i [] = Unit {0}
Each P i (p ∷ ps) = P i p × Each P (i + 1) ps

each-push : (P : ℕ → Declared → Type 0) (i j : ℕ) (ps : List Declared) (q : Declared) → j ≡ i + length ps → Each P i ps → P j q → Each P i (ps ++ q ∷ [])
each-push P i j [] q e h k = let same : j ≡ i = omega (arith, e) in (subst (λ n. P n q) same k, tt)
each-push P i j (p ∷ ps) q e h k = let next : j ≡ i + 1 + length ps = omega (arith, e) in (h.0, each-push P (i + 1) j ps q next h.1 k)

each-front : (P : ℕ → Declared → Type 0) (i : ℕ) (ps : List Declared) (q : Declared) → Each P i (ps ++ q ∷ []) → Each P i ps
each-front P i [] q h = tt
each-front P i (p ∷ ps) q h = (h.0, each-front P (i + 1) ps q h.1)

each-last : (P : ℕ → Declared → Type 0) (i j : ℕ) (ps : List Declared) (q : Declared) → j ≡ i + length ps → Each P i (ps ++ q ∷ []) → P j q
each-last P i j [] q e h = let same : i ≡ j = omega (arith, e) in subst (λ n. P n q) same h.0
each-last P i j (p ∷ ps) q e h = let next : j ≡ i + 1 + length ps = omega (arith, e) in each-last P (i + 1) j ps q next h.1

each-at : (P : ℕ → Declared → Type 0) (i j k : ℕ) (ps : List Declared) (d : Declared) → j ≡ i + k → k < length ps → Each P i ps → P j (get_or ps k d)
each-at P i j k [] d e lt h = absurd (omega (arith, lt))
each-at P i j zero (p ∷ ps) d e lt h = let same : i ≡ j = omega (arith, e) in subst (λ n. P n p) same h.0
each-at P i j (suc k) (p ∷ ps) d e lt h =
    let next : j ≡ i + 1 + k = omega (arith, e) in
    let less : k < length ps = omega (arith, lt) in
    each-at P (i + 1) j k ps d next less h.1

-- the process at a place, where the names are those of a script
record IsMeant (s : Program) (here : ℕ) (p : Declared) : Type 0 where
  places : All (IsPlace (length p.instrs)) p.labels
  rising : AreRising p.labels
  lawful : All (IsInstrWithin (length (labels_at here s.procs))) p.instrs
  below : All (IsInstrBelow (length s.procs)) p.instrs

-- the same of an open receive before line n
abbrev IsOpen : Program → ℕ → ℕ → Section → Type 0
IsOpen s n here Before = Unit {0}
IsOpen s n here (Outside p) = Unit {0}
IsOpen s n here (Inside p r) =
    (length r.clauses ≤ n) × All (λ (c : Clause). IsTarget (length (labels_at here s.procs)) c.target) r.clauses
    × All (λ (c : Clause). IsPatternBelow (length s.procs) c.pattern) r.clauses × IfSome r.after (λ (a : After). IsTarget (length (labels_at here s.procs)) a.target)
    × AreMarked r.using r.clauses

record IsMeantDraft (s : Program) (n : ℕ) (d : Draft) : Type 0 where
  turns : IfSome d.turns (λ t. t ≤ MOST_TURNS)
  procs : Each (IsMeant s) 0 (all_procs d)
  receive : IsOpen s n (length d.procs) d.section

-- a label at the end whose place is none below the others'
rising-push : (ls : List Label) (l : Label) → AreRising ls → All (λ (other : Label). other.place ≤ l.place) ls → AreRising (ls ++ l ∷ [])
rising-push [] l h below = AreRising.more (All-nil (λ (other : Label). l.place ≤ other.place)) AreRising.none
rising-push (first ∷ ls) l (AreRising.more least rest) below =
    AreRising.more (All-push (λ (other : Label). first.place ≤ other.place) ls l least (All-head (λ (other : Label). other.place ≤ l.place) first ls below))
    (rising-push ls l rest (All-tail (λ (other : Label). other.place ≤ l.place) first ls below))

empty-meant : (s : Program) (here : ℕ) (v : Version) (name : List ℕ) → IsMeant s here (bare_proc v name)
empty-meant s here v name = record {
  places = All-nil (IsPlace 0);
  rising = AreRising.none;
  lawful = All-nil (IsInstrWithin (length (labels_at here s.procs)));
  below = All-nil (IsInstrBelow (length s.procs));
}

place-later : (n m : ℕ) (l : Label) → n ≤ m → IsPlace n l → IsPlace m l
place-later n m l le h = (h.0, omega (arith, h.1))

instr-more : (s : Program) (here : ℕ) (p : Declared) (i : Instr) → IsInstrWithin (length (labels_at here s.procs)) i → IsInstrBelow (length s.procs) i → IsMeant s here p → IsMeant s here (with_instr p i)
instr-more s here p i l b h =
    let le : length p.instrs ≤ length (p.instrs ++ i ∷ []) = omega (arith, length-append p.instrs (i ∷ [])) in
    record {
      places = All-weaker (IsPlace (length p.instrs)) (IsPlace (length (p.instrs ++ i ∷ []))) (λ l k. place-later (length p.instrs) (length (p.instrs ++ i ∷ [])) l le k) p.labels h.places;
      rising = h.rising;
      lawful = All-push (IsInstrWithin (length (labels_at here s.procs))) p.instrs i h.lawful l;
      below = All-push (IsInstrBelow (length s.procs)) p.instrs i h.below b;
    }

label-more : (s : Program) (here : ℕ) (p : Declared) (name : List ℕ) → IsMeant s here p → Holds (IsMeant s here) (labelled p name)
label-more s here p name h =
    let first : 1 ≤ length p.instrs + 1 = omega arith in
    holds-if (IsMeant s here) (list_any (λ (l : Label). bytes_eq l.name name) p.labels) _ _ (λ _. tt)
    (λ _. record {
      places = All-push (IsPlace (length p.instrs)) p.labels (record { name = name; place = length p.instrs + 1 }) h.places (first, le_refl (length p.instrs + 1));
      rising = rising-push p.labels (record { name = name; place = length p.instrs + 1 }) h.rising (All-weaker (IsPlace (length p.instrs)) (λ (l : Label). l.place ≤ length p.instrs + 1) (λ l k. k.1) p.labels h.places);
      lawful = h.lawful;
      below = h.below;
    })

-- one line more
open-later : (s : Program) (n here : ℕ) (section : Section) → IsOpen s n here section → IsOpen s (n + 1) here section
open-later s n here Before h = tt
open-later s n here (Outside p) h = tt
open-later s n here (Inside p r) h = (omega (arith, h.0), h.1, h.2, h.3, h.4)

few-turns : (n : ℕ) → nat_le n MOST_TURNS ≡ true → n ≤ MOST_TURNS
few-turns n h = grind (arith, nat_tests)

begun-meant : (s : Program) (n : ℕ) (d : Draft) (name : List ℕ) → IsMeantDraft s n d → Holds (IsMeantDraft s (n + 1)) (begun d name)
begun-meant s n d name h =
    let p : Declared = bare_proc d.version name in
    let place : length (all_procs d) ≡ 0 + length (all_procs d) = omega arith in
    holds-if (IsMeantDraft s (n + 1)) (list_any (λ (p : Declared). bytes_eq p.name name) (all_procs d)) _ _ (λ _. tt)
    (λ _. holds-if (IsMeantDraft s (n + 1)) (nat_le (most_processes d.version) (length (all_procs d))) _ _ (λ _. tt)
    (λ _. record {
      turns = h.turns;
      procs = each-push (IsMeant s) 0 (length (all_procs d)) (all_procs d) p place h.procs (empty-meant s (length (all_procs d)) d.version name);
      receive = tt;
    }))

-- what is given of the elements
given-front : (P : ℕ → Type 0) (o : Option ℕ) (xs : List ℕ) → IfSome o P → All P xs → All P (cons_option o xs)
given-front P None xs h k = k
given-front P (Some x) xs h k = All-cons P x xs h k

all-given : {A : Type 0} (P : ℕ → Type 0) (f : A → Option ℕ) (xs : List A) → All (λ x. IfSome (f x) P) xs → All P (filter_map f xs)
all-given P f [] h = All-nil P
all-given P f (x ∷ xs) h = given-front P (f x) (filter_map f xs) (All-head (λ y. IfSome (f y) P) x xs h) (all-given P f xs (All-tail (λ y. IfSome (f y) P) x xs h))

all-kept : {A : Type 0} (P : A → Type 0) (o : Option A) → IfSome o P → All P (option_to_list o)
all-kept P None h = All-nil P
all-kept P (Some x) h = All-cons P x [] h (All-nil P)

-- the targets of a receive are those of its clauses and that of its `after`
receive-targets : (labels : ℕ) (r : Receiving) → All (λ (c : Clause). IsTarget labels c.target) r.clauses →
    IfSome r.after (λ (a : After). IsTarget labels a.target) → All (λ t. t < labels) (targets_of (instr.Receive r))
receive-targets labels r h k =
    let target : Clause → Option ℕ = λ c. c.target in
    let behind : After → Option ℕ = λ a. a.target in
    All-append (λ t. t < labels) (filter_map target r.clauses) (filter_map behind (option_to_list r.after)) (all-given (λ t. t < labels) target r.clauses h)
    (all-given (λ t. t < labels) behind (option_to_list r.after) (all-kept (λ a. IsTarget labels a.target) r.after k))

-- the clauses of a receive pin the variable of its marker
none-marked : (using : Option Var) → AreMarked using []
none-marked None = tt
none-marked (Some x) = All-nil (λ (c : Clause). pins c.pattern x ≡ true)

marked-more : (using : Option Var) (clauses : List Clause) (c : Clause) → is_marked using c.pattern ≡ true → AreMarked using clauses → AreMarked using (clauses ++ c ∷ [])
marked-more None clauses c e h = tt
marked-more (Some x) clauses c e h = All-push (λ (c : Clause). pins c.pattern x ≡ true) clauses c h e

-- from here on the names are those of a script, and n is a line of a text that isn't too long
module _ (s : Program) (n : ℕ) (d : Draft) (bounded : IfSome d.turns (λ t. t ≤ MOST_TURNS)) where
  here-is : length d.procs ≡ 0 + length d.procs
  here-is = omega arith

  current : (p : Declared) → Each (IsMeant s) 0 (d.procs ++ p ∷ []) → IsMeant s (length d.procs) p
  current p h = each-last (IsMeant s) 0 (length d.procs) d.procs p here-is h

  changed : (p q : Declared) → Each (IsMeant s) 0 (d.procs ++ p ∷ []) → IsMeant s (length d.procs) q → IsMeantDraft s (n + 1) (record d { section = Outside q })
  changed p q h k = record {
    turns = bounded;
    procs = each-push (IsMeant s) 0 (length d.procs) d.procs q here-is (each-front (IsMeant s) 0 d.procs p h) k;
    receive = tt;
  }

  told-meant : (p : Declared) (queue_data : QueueData) → Each (IsMeant s) 0 (d.procs ++ p ∷ []) →
      IsMeantDraft s (n + 1) (record d { section = Outside (record p { queue_data = queue_data }); told = true })
  told-meant p queue_data h =
      let k : IsMeant s (length d.procs) p = current p h in
      let m = changed p (record p { queue_data = queue_data }) h (record { places = k.places; rising = k.rising; lawful = k.lawful; below = k.below }) in
      record { turns = m.turns; procs = m.procs; receive = tt }

  clause-more : (p : Declared) (r : Receiving) (c : Clause) → IsOpen s n (length d.procs) (Inside p r) →
      IsPatternBelow (length s.procs) c.pattern → IsTarget (length (labels_at (length d.procs) s.procs)) c.target → is_marked r.using c.pattern ≡ true →
      IsOpen s (n + 1) (length d.procs) (Inside p (record r { clauses = r.clauses ++ c ∷ [] }))
  clause-more p r c h b t m = (
    omega (arith, h.0, length-append r.clauses (c ∷ [])),
    All-push (λ (c : Clause). IsTarget (length (labels_at (length d.procs) s.procs)) c.target) r.clauses c h.1 t,
    All-push (λ (c : Clause). IsPatternBelow (length s.procs) c.pattern) r.clauses c h.2 b,
    h.3,
    marked-more r.using r.clauses c m h.4,
  )

  with_clause-meant : (p : Declared) (r : Receiving) (c : Clause) →
      IsOpen s n (length d.procs) (Inside p r) → IsPatternBelow (length s.procs) c.pattern → IsTarget (length (labels_at (length d.procs) s.procs)) c.target →
      Holds (λ more. IsOpen s (n + 1) (length d.procs) (Inside p (record r { clauses = more }))) (with_clause d.version r.using r.clauses c)
  with_clause-meant p r c h b t =
      let IsNext : List Clause → Type 0 = λ more. IsOpen s (n + 1) (length d.procs) (Inside p (record r { clauses = more })) in
      holds-if IsNext (may_guard d.version c.guard) _ _
      (λ _. holds-if IsNext (is_marked r.using c.pattern) _ _ (λ m. clause-more p r c h b t m) (λ _. tt)) (λ _. tt)

  receive-more : (p : Declared) (r : Receiving) → n < 2 ^ 32 → IsOpen s n (length d.procs) (Inside p r) →
      IsMeant s (length d.procs) p → IsMeant s (length d.procs) (with_instr p (instr.Receive r))
  receive-more p r lt h k =
      let few : length r.clauses < 2 ^ 32 = omega (arith, lt, h.0) in
      let targets : All (λ t. t < length (labels_at (length d.procs) s.procs)) (targets_of (instr.Receive r)) =
      receive-targets (length (labels_at (length d.procs) s.procs)) r h.1 h.3 in
      instr-more s (length d.procs) p (instr.Receive r) (few, targets, no-mode, h.4) (All-nil (IsExprBelow (length s.procs)), h.2) k

  taken_at-meant : (section : Section) (f : Form) → n < 2 ^ 32 → Each (IsMeant s) 0 (d.procs ++ open_proc section) → IsOpen s n (length d.procs) section →
      IsMeantForm (length s.procs) (length (labels_at (length d.procs) s.procs)) f →
      Holds (IsMeantDraft s (n + 1)) (taken_at (record d { section = section }) section f)
  taken_at-meant Before (form.Turns m) lt h o k =
      holds-if (IsMeantDraft s (n + 1)) (nat_le m MOST_TURNS) _ _ (λ e. record { turns = few-turns m e; procs = h; receive = tt }) (λ _. tt)
  taken_at-meant Before (form.Process name) lt h o k =
      begun-meant s n (record d { section = Before }) name (record { turns = bounded; procs = h; receive = tt })
  taken_at-meant Before _ lt h o k = tt
  taken_at-meant (Outside p) (form.Process name) lt h o k =
      begun-meant s n (record d { section = Outside p }) name (record { turns = bounded; procs = h; receive = tt })
  taken_at-meant (Outside p) (form.QueueData queue_data) lt h o k =
      holds-if (IsMeantDraft s (n + 1)) (may_tell d.version d.told p) _ _ (λ _. told-meant p queue_data h) (λ _. tt)
  taken_at-meant (Outside p) (form.Label name) lt h o k =
      holds-on_ok (IsMeant s (length d.procs)) (IsMeantDraft s (n + 1)) (λ q. record d { section = Outside q })
      (labelled p name) (label-more s (length d.procs) p name (current p h)) (λ q m. changed p q h m)
  taken_at-meant (Outside p) (form.Do i) lt h o k = changed p (with_instr p i) h (instr-more s (length d.procs) p i k.0 k.1 (current p h))
  taken_at-meant (Outside p) (form.Receive using) lt h o k = record {
    turns = bounded;
    procs = h;
    receive = (
      omega arith,
      All-nil (λ (c : Clause). IsTarget (length (labels_at (length d.procs) s.procs)) c.target),
      All-nil (λ (c : Clause). IsPatternBelow (length s.procs) c.pattern),
      tt,
      none-marked using,
    );
  }
  taken_at-meant (Outside p) _ lt h o k = tt
  taken_at-meant (Inside p r) (form.On c) lt h o k =
      holds-on_ok (λ (more : List Clause). IsOpen s (n + 1) (length d.procs) (Inside p (record r { clauses = more }))) (IsMeantDraft s (n + 1))
      (λ more. record d { section = Inside p (record r { clauses = more }) }) (with_clause d.version r.using r.clauses c)
      (with_clause-meant p r c o k.0 k.1) (λ more m. record { turns = bounded; procs = h; receive = m })
  taken_at-meant (Inside p r) (form.After next) lt h o k = record { turns = bounded; procs = h; receive = (omega (arith, o.0), o.1, o.2, k, o.4) }
  taken_at-meant (Inside p r) form.End lt h o k =
      changed p (with_instr p (instr.Receive r)) h (receive-more p r lt o (current p h))
  taken_at-meant (Inside p r) _ lt h o k = tt

taken_if-meant : (s : Program) (n : ℕ) (d : Draft) (o : Option Form) → n < 2 ^ 32 → IsMeantDraft s n d →
    IfSome o (IsMeantForm (length s.procs) (length (labels_at (length d.procs) s.procs))) → Holds (IsMeantDraft s (n + 1)) (taken_if d o)
taken_if-meant s n d None lt h k = record { turns = h.turns; procs = h.procs; receive = open-later s n (length d.procs) d.section h.receive }
taken_if-meant s n d (Some f) lt h k = taken_at-meant s n d h.turns d.section f lt h.procs h.receive k

line-meant : (s : Program) (n : ℕ) (d : Draft) (line : List ℕ) → n < 2 ^ 32 → IsMeantDraft s n d → Holds (IsMeantDraft s (n + 1)) (line_taken (Among s) d line)
line-meant s n d line lt h =
    holds-then (λ o. IfSome o (IsMeantForm (length s.procs) (length (labels_at (length d.procs) s.procs)))) (IsMeantDraft s (n + 1)) (taken_if d) (said (Among s) d line) (said-meant s d line)
    (λ o k. taken_if-meant s n d o lt h k)

-- the second walk
abbrev IsMeantScript : Program → Program → Type 0
IsMeantScript first s = (s.turns ≤ MOST_TURNS) × Each (IsMeant first) 0 s.procs

turns-or : (o : Option ℕ) → IfSome o (λ t. t ≤ MOST_TURNS) → option_map_or (λ n. n) o DEFAULT_TURNS ≤ MOST_TURNS
turns-or None h = omega arith
turns-or (Some n) h = h

walk-meant : (v : Version) (first : Program) (lines : List (List ℕ)) (s : Program) → length lines ≤ 2 ^ 30 → walk v (Among first) lines ≡ Ok s → IsMeantScript first s
walk-meant v first lines s le e =
    let blank-meant : IsMeantDraft first 2 (blank v) = record { turns = tt; procs = tt; receive = tt } in
    holds-of (IsMeantScript first) (walk v (Among first) lines) s
    (body-holds (Among first) (IsMeantDraft first) (IsMeantScript first) (2 + length lines) (λ n d line lt h. line-meant first n d line (omega (arith, lt, le)) h)
    (λ n d _ h. (turns-or d.turns h.turns, h.procs)) 2 (blank v) lines (le_refl (2 + length lines)) blank-meant) e

-- the labels of a process are as many as those of the process at the same place that the first walk found
labels-counted : (k : ℕ) (ps : List Declared) → length (labels_at k ps) ≡ get_or (counts ps) k 0
labels-counted k [] = refl
labels-counted zero (p ∷ ps) = refl
labels-counted (suc k) (p ∷ ps) = labels-counted k ps

counted-at : (k : ℕ) (ps : List Declared) (d : Declared) → k < length ps → get_or (counts ps) k 0 ≡ length (get_or ps k d).labels
counted-at k [] d lt = absurd (omega (arith, lt))
counted-at zero (p ∷ ps) d lt = refl
counted-at (suc k) (p ∷ ps) d lt = let less : k < length ps = omega (arith, lt) in counted-at k ps d less

same-labels : (k : ℕ) (ps qs : List Declared) (d : Declared) → counts ps ≡ counts qs → k < length qs → length (labels_at k ps) ≡ length (get_or qs k d).labels
same-labels k ps qs d e lt = labels-counted k ps ∙ ap (λ (cs : List ℕ). get_or cs k 0) e ∙ counted-at k qs d lt

pub same-number : (ps qs : List Declared) → counts ps ≡ counts qs → length ps ≡ length qs
same-number ps qs e = sym (length-map ps (λ (p : Declared). length p.labels)) ∙ ap length e ∙ length-map qs (λ (p : Declared). length p.labels)

proc-within : (first : Program) (here m : ℕ) (p : Declared) → m < 2 ^ 31 → IsSmall m p → length (labels_at here first.procs) ≡ length p.labels → IsMeant first here p → IsWithin p
proc-within first here m p lt small e h = record {
  few_instrs = omega (arith, lt, small.instrs);
  few_labels = omega (arith, lt, small.labels);
  places = h.places;
  rising = h.rising;
  lawful = subst (λ (n : ℕ). All (IsInstrWithin n) p.instrs) e h.lawful;
}

pub procs_within : (v : Version) (lines : List (List ℕ)) (first s : Program) → walk v Any lines ≡ Ok first → walk v (Among first) lines ≡ Ok s → length lines ≤ 2 ^ 30 → All IsWithin s.procs
procs_within v lines first s e k le =
    let few = few_walked v (Among first) lines s k in
    let meant = walk-meant v first lines s le k in
    let same = same_counts v Any (Among first) lines first s e k in
    λ i d lt. proc-within first i (2 + length lines) (get_or s.procs i d) (omega (arith, le)) (few.1 i d lt) (same-labels i first.procs s.procs d same lt)
    (each-at (IsMeant first) 0 i i s.procs d (omega arith) lt meant.1)

pub script_sound : (v : Version) (lines : List (List ℕ)) (first s : Program) → walk v Any lines ≡ Ok first → walk v (Among first) lines ≡ Ok s → length lines ≤ 2 ^ 30 → IsScriptWithin s
script_sound v lines first s e k le =
    let few = few_walked v (Among first) lines s k in
    let meant = walk-meant v first lines s le k in
    let same = same-number first.procs s.procs (same_counts v Any (Among first) lines first s e k) in
    record {
      few = few.0;
      turns = meant.0;
      pids = λ i d lt. subst (λ (n : ℕ). All (IsInstrBelow n) (get_or s.procs i d).instrs) same (each-at (IsMeant first) 0 i i s.procs d (omega arith) lt meant.1).below;
    }
