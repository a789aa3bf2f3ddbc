-- A script that was read is readable.
use Rattle.std.proofs.Common.{◌≡◌, ℕ, ◌+◌, ◌≤◌, ◌^◌, List, [], ◌∷◌, ◌++◌, length, All, IfSome, Bool, true, false, if◌then◌else◌, nat_le, Option, Some, None, Result, Ok, Err, refl, sym, ◌∙◌, ap, subst, arith, map, le_refl}
use Rattle.std.specs.List.{list_any}
use Rattle.std.specs.Str.{bytes_eq}
use Rattle.std.proofs.lemmas.Bool.Decides.{nat_tests}
use Rattle.std.proofs.lemmas.List.{map-append}
use Rattle.std.proofs.lemmas.List.Elements.{All-nil, All-push}
use Rattle.sig_kinds.specs.declared.queue_data.QueueData.{QueueData}
use Rattle.sig_patterns.specs.declared.clause.Clause.{Clause}
use Rattle.sig_patterns.specs.declared.var.Var.{Var}
use Rattle.sig_program.specs.declared.label.Label.{Label}
use Rattle.sig_program.specs.declared.instruction.Instr.{Instr}
use Rattle.sig_tokens.specs.declared.known.Known.TheVariants.{Any, Among}
use Rattle.sig_reader.specs.declared.draft.Section.{Section}
use Rattle.sig_reader.specs.declared.draft.Section.TheVariants.{Before, Outside, Inside}
use Rattle.sig_reader.specs.declared.draft.Draft.{Draft}
use Rattle.sig_program.specs.declared.version.Version.{Version}
use Rattle.sig_program.specs.declared.version.Version.TheVariants.{One, Two}
use Rattle.sig_reader.specs.declared.form.Form.{Form}
use Rattle.sig_reader.specs.declared.form.Form.TheVariants as form
use Rattle.sig_program.specs.Scripts.{Declared, Program, most_processes}
use Rattle.sig_tokens.specs.Faults.{Fault, ◌>>=◌}
use Rattle.sig_tokens.specs.Lines.{lines_of}
use Rattle.sig_reader.specs.Forms.{said}
use Rattle.sig_reader.specs.Drafts.{blank, open_proc, all_procs, kept_in, bare_proc, begun, may_tell, labelled, with_instr, is_marked, may_guard, with_clause, taken_at}
use Rattle.sig_reader.specs.Grammar.{taken_if, line_taken, walk, header_of, script_behind, script_of_lines, script_of}
use Rattle.sig_canon.specs.ReadableScript.{IsReadablePattern, IsReadableGuard, IsReadableClause, IsReadableInstr, AreDistinct, MayKeep, IsReadableScript}
use Rattle.sig_program.specs.declared.script.TheConstants.{MOST_TURNS}
use Rattle.sig_program.specs.declared.instruction.Receiving.{Receiving}
use Rattle.sig_program.specs.declared.instruction.Instr.TheVariants as instr
use Rattle.sig_reader.specs.declared.reader.TheConstants.{MOST_BYTES}
use Rattle.sig_reader.proofs.FitLemmas.{all-last}
use Rattle.sig_reader.proofs.BoundTermLemmas.{Holds, holds-of, holds-if, holds-on_ok, holds-then}
use Rattle.sig_reader.proofs.BoundLemmas.{all-front, body-holds, few_lines, same_counts, same-number, procs_within, script_sound}
use Rattle.sig_canon.proofs.DistinctLemmas.{distinct-push, free_name}
use Rattle.sig_canon.proofs.ReadableForms.{IsReadableForm, said-read}
use Rattle.sig_tokens.specs.Tokens.{tokens_of, IsNameToken, IsVariableToken}

-- the process that is read, and the others
record IsGood (v : Version) (count : ℕ) (p : Declared) : Type 0 where
  name : IsNameToken p.name
  messages : MayKeep v p.queue_data
  labels : All (λ (l : Label). IsNameToken l.name) p.labels
  distinct : AreDistinct (map (λ (l : Label). l.name) p.labels)
  instrs : All (IsReadableInstr v count) p.instrs

-- the receive that is read
abbrev IsGoodReceive : Version → ℕ → Section → Type 0
IsGoodReceive v count (Inside p r) = All (IsReadableClause v count) r.clauses × IfSome r.using (λ x. IsVariableToken x.0)
IsGoodReceive v count _ = Unit {0}

abbrev names : List Declared → List (List ℕ)
names ps = map (λ (p : Declared). p.name) ps

record IsGoodDraft (count : ℕ) (d : Draft) : Type 0 where
  names : AreDistinct (names (all_procs d))
  procs : All (IsGood d.version count) (all_procs d)
  receive : IsGoodReceive d.version count d.section

names-last : (ps : List Declared) (p q : Declared) → q.name ≡ p.name → names (ps ++ p ∷ []) ≡ names (ps ++ q ∷ [])
names-last ps p q e =
    map-append (λ (p : Declared). p.name) ps (p ∷ []) ∙ ap (λ (name : List ℕ). names ps ++ name ∷ []) (sym e) ∙ sym (map-append (λ (p : Declared). p.name) ps (q ∷ []))

-- where messages are kept that no line tells of
kept_may : (v : Version) → MayKeep v (kept_in v)
kept_may One = refl
kept_may Two = tt

-- a line tells it in version 2 alone
told_may : (v : Version) (told : Bool) (p : Declared) (queue_data : QueueData) → may_tell v told p ≡ true → MayKeep v queue_data
told_may One told p queue_data h = absurd cc
told_may Two told p queue_data h = tt

empty-good : (v : Version) (count : ℕ) (name : List ℕ) → IsNameToken name → IsGood v count (bare_proc v name)
empty-good v count name h = record {
  name = h;
  messages = kept_may v;
  labels = All-nil (λ (l : Label). IsNameToken l.name);
  distinct = AreDistinct.none;
  instrs = All-nil (IsReadableInstr v count);
}

begun-good : (count : ℕ) (d : Draft) (name : List ℕ) → IsNameToken name → IsGoodDraft count d → Holds (IsGoodDraft count) (begun d name)
begun-good count d name named h =
    let p : Declared = bare_proc d.version name in
    holds-if (IsGoodDraft count) (list_any (λ (p : Declared). bytes_eq p.name name) (all_procs d)) _ _ (λ _. tt)
    (λ free. holds-if (IsGoodDraft count) (nat_le (most_processes d.version) (length (all_procs d))) _ _ (λ _. tt)
    (λ _. record {
      names = subst AreDistinct (sym (map-append (λ (p : Declared). p.name) (all_procs d) (p ∷ [])))
          (distinct-push (names (all_procs d)) name h.names (free_name (λ (p : Declared). p.name) (all_procs d) name free));
      procs = All-push (IsGood d.version count) (all_procs d) p h.procs (empty-good d.version count name named);
      receive = tt;
    }))

instr-good : (v : Version) (count : ℕ) (p : Declared) (i : Instr) → IsReadableInstr v count i → IsGood v count p → IsGood v count (with_instr p i)
instr-good v count p i k h = record {
  name = h.name;
  messages = h.messages;
  labels = h.labels;
  distinct = h.distinct;
  instrs = All-push (IsReadableInstr v count) p.instrs i h.instrs k;
}

-- a label more, and the process has the same name
labelled-good : (v : Version) (count : ℕ) (p : Declared) (name : List ℕ) → IsNameToken name → IsGood v count p → Holds (λ q. IsGood v count q × (q.name ≡ p.name)) (labelled p name)
labelled-good v count p name named h =
    let l : Label = record { name = name; place = length p.instrs + 1 } in
    holds-if (λ (q : Declared). IsGood v count q × (q.name ≡ p.name)) (list_any (λ (l : Label). bytes_eq l.name name) p.labels) _ _ (λ _. tt)
    (λ free. (
      record {
        name = h.name;
        messages = h.messages;
        labels = All-push (λ (l : Label). IsNameToken l.name) p.labels l h.labels named;
        distinct = subst AreDistinct (sym (map-append (λ (l : Label). l.name) p.labels (l ∷ [])))
            (distinct-push (map (λ (l : Label). l.name) p.labels) name h.distinct (free_name (λ (l : Label). l.name) p.labels name free));
        instrs = h.instrs;
      },
      refl,
    ))

module _ (count : ℕ) (draft : Draft) where
  abbrev IsGoodHere : Declared → Type 0
  IsGoodHere p = IsGood draft.version count p

  changed : (p q : Declared) → AreDistinct (names (draft.procs ++ p ∷ [])) → All IsGoodHere (draft.procs ++ p ∷ []) → q.name ≡ p.name → IsGoodHere q →
      IsGoodDraft count (record draft { section = Outside q })
  changed p q d h e k = record {
    names = subst AreDistinct (names-last draft.procs p q e) d;
    procs = All-push IsGoodHere draft.procs q (all-front IsGoodHere draft.procs p h) k;
    receive = tt;
  }

  abbrev AreGoodHere : List Clause → Type 0
  AreGoodHere clauses = All (IsReadableClause draft.version count) clauses

  told-good : (p : Declared) (queue_data : QueueData) → AreDistinct (names (draft.procs ++ p ∷ [])) → All IsGoodHere (draft.procs ++ p ∷ []) → MayKeep draft.version queue_data →
      IsGoodDraft count (record draft { section = Outside (record p { queue_data = queue_data }); told = true })
  told-good p queue_data d h may =
      let k : IsGoodHere p = all-last IsGoodHere draft.procs p h in
      let m = changed p (record p { queue_data = queue_data }) d h refl (record { name = k.name; messages = may; labels = k.labels; distinct = k.distinct; instrs = k.instrs }) in
      record { names = m.names; procs = m.procs; receive = tt }

  with_clause-good : (using : Option Var) (clauses : List Clause) (c : Clause) → IsReadablePattern count c.pattern → IfSome c.guard IsReadableGuard → AreGoodHere clauses →
      Holds AreGoodHere (with_clause draft.version using clauses c)
  with_clause-good using clauses c k g h =
      holds-if AreGoodHere (may_guard draft.version c.guard) _ _
      (λ may. holds-if AreGoodHere (is_marked using c.pattern) _ _
      (λ _. All-push (IsReadableClause draft.version count) clauses c h (record { pattern = k; guard = g; allowed = may })) (λ _. tt)) (λ _. tt)

  receive-good : (r : Receiving) → All (IsReadableClause draft.version count) r.clauses → IfSome r.using (λ x. IsVariableToken x.0) → IsReadableInstr draft.version count (instr.Receive r)
  receive-good r h k = record { exprs = All-nil _; clauses = h; vars = All-nil IsVariableToken; using = k }

  taken_at-good : (section : Section) (f : Form) → AreDistinct (names (draft.procs ++ open_proc section)) → All IsGoodHere (draft.procs ++ open_proc section) → IsGoodReceive draft.version count section →
      IsReadableForm draft.version count f → Holds (IsGoodDraft count) (taken_at (record draft { section = section }) section f)
  taken_at-good Before (form.Turns m) d h o k = holds-if (IsGoodDraft count) (nat_le m MOST_TURNS) _ _ (λ _. record { names = d; procs = h; receive = tt }) (λ _. tt)
  taken_at-good Before (form.Process name) d h o k = begun-good count (record draft { section = Before }) name k (record { names = d; procs = h; receive = tt })
  taken_at-good Before _ d h o k = tt
  taken_at-good (Outside p) (form.Process name) d h o k = begun-good count (record draft { section = Outside p }) name k (record { names = d; procs = h; receive = tt })
  taken_at-good (Outside p) (form.QueueData queue_data) d h o k =
      holds-if (IsGoodDraft count) (may_tell draft.version draft.told p) _ _ (λ e. told-good p queue_data d h (told_may draft.version draft.told p queue_data e)) (λ _. tt)
  taken_at-good (Outside p) (form.Label name) d h o k =
      holds-on_ok (λ q. IsGoodHere q × (q.name ≡ p.name)) (IsGoodDraft count) (λ q. record draft { section = Outside q })
      (labelled p name) (labelled-good draft.version count p name k (all-last IsGoodHere draft.procs p h)) (λ q m. changed p q d h m.1 m.0)
  taken_at-good (Outside p) (form.Do i) d h o k = changed p (with_instr p i) d h refl (instr-good draft.version count p i k (all-last IsGoodHere draft.procs p h))
  taken_at-good (Outside p) (form.Receive using) d h o k = record { names = d; procs = h; receive = (All-nil (IsReadableClause draft.version count), k) }
  taken_at-good (Outside p) _ d h o k = tt
  taken_at-good (Inside p r) (form.On c) d h o k =
      holds-on_ok AreGoodHere (IsGoodDraft count)
      (λ more. record draft { section = Inside p (record r { clauses = more }) }) (with_clause draft.version r.using r.clauses c)
      (with_clause-good r.using r.clauses c k.0 k.1 o.0) (λ more m. record { names = d; procs = h; receive = (m, o.1) })
  taken_at-good (Inside p r) (form.After next) d h o k = record { names = d; procs = h; receive = o }
  taken_at-good (Inside p r) form.End d h o k =
      changed p (with_instr p (instr.Receive r)) d h refl
      (instr-good draft.version count p (instr.Receive r) (receive-good r o.0 o.1) (all-last IsGoodHere draft.procs p h))
  taken_at-good (Inside p r) _ d h o k = tt

taken_if-good : (count : ℕ) (d : Draft) (o : Option Form) → IsGoodDraft count d → IfSome o (IsReadableForm d.version count) → Holds (IsGoodDraft count) (taken_if d o)
taken_if-good count d None h k = h
taken_if-good count d (Some f) h k = taken_at-good count d d.section f h.names h.procs h.receive k

line-good : (first : Program) (d : Draft) (line : List ℕ) → IsGoodDraft (length first.procs) d → Holds (IsGoodDraft (length first.procs)) (line_taken (Among first) d line)
line-good first d line h =
    holds-then (λ o. IfSome o (IsReadableForm d.version (length first.procs))) (IsGoodDraft (length first.procs)) (taken_if d) (said (Among first) d line) (said-read first d line)
    (λ o k. taken_if-good (length first.procs) d o h k)

abbrev IsGoodScript : ℕ → Program → Type 0
IsGoodScript count s = AreDistinct (names s.procs) × All (IsGood s.version count) s.procs

blank-good : (v : Version) (count : ℕ) → IsGoodDraft count (blank v)
blank-good v count = record { names = AreDistinct.none; procs = All-nil (IsGood v count); receive = tt }

walk-good : (v : Version) (first : Program) (lines : List (List ℕ)) (s : Program) → walk v (Among first) lines ≡ Ok s → IsGoodScript (length first.procs) s
walk-good v first lines s e =
    holds-of (IsGoodScript (length first.procs)) (walk v (Among first) lines) s
    (body-holds (Among first) (λ n d. IsGoodDraft (length first.procs) d) (IsGoodScript (length first.procs)) (2 + length lines) (λ n d line _ h. line-good first d line h)
    (λ n d _ h. (h.names, h.procs)) 2 (blank v) lines (le_refl (2 + length lines)) (blank-good v (length first.procs))) e

-- both walks
walked : (v : Version) (lines : List (List ℕ)) (first s : Program) → length lines ≤ 2 ^ 30 → walk v Any lines ≡ Ok first → walk v (Among first) lines ≡ Ok s → IsReadableScript s
walked v lines first s le e k =
    let good = walk-good v first lines s k in
    let within = procs_within v lines first s e k le in
    let same : length first.procs ≡ length s.procs = same-number first.procs s.procs (same_counts v Any (Among first) lines first s e k) in
    let each : All (IsGood s.version (length s.procs)) s.procs = subst (λ (n : ℕ). All (IsGood s.version n) s.procs) same good.1 in
    record {
      sound = script_sound v lines first s e k le;
      names = good.0;
      procs = λ i d lt.
          let h = each i d lt in
          record { name = h.name; messages = h.messages; labels = h.labels; distinct = h.distinct; within = within i d lt; instrs = h.instrs };
    }

walked_twice : (v : Version) (lines : List (List ℕ)) (s : Program) (r : Result Program Fault) → length lines ≤ 2 ^ 30 → walk v Any lines ≡ r → (r >>= λ first. walk v (Among first) lines) ≡ Ok s → IsReadableScript s
walked_twice v lines s (Ok first) le e k = walked v lines first s le e k
walked_twice v lines s (Err f) le e k = absurd cc

-- only behind a header there is a script
behind-header : (version : Option Version) (lines : List (List ℕ)) (s : Program) → length lines ≤ 2 ^ 30 → script_behind version lines ≡ Ok s → IsReadableScript s
behind-header None lines s le e = absurd cc
behind-header (Some v) lines s le e = walked_twice v lines s (walk v Any lines) le refl e

chosen : {A : Type 0} (v : Bool) (r : Result A Fault) (f : Fault) (x : A) → (if v then r else Err f) ≡ Ok x → r ≡ Ok x
chosen true r f x e = e
chosen false r f x e = absurd cc

chosen-test : {A : Type 0} (v : Bool) (r : Result A Fault) (f : Fault) (x : A) → (if v then r else Err f) ≡ Ok x → v ≡ true
chosen-test true r f x e = refl
chosen-test false r f x e = absurd cc

lines-readable : (lines : List (List ℕ)) (s : Program) → length lines ≤ 2 ^ 30 → script_of_lines lines ≡ Ok s → IsReadableScript s
unfolding script_of_lines
lines-readable [] s le e = absurd cc
lines-readable (first ∷ lines) s le e =
    behind-header (header_of (tokens_of One first) first) lines s (omega (arith, le)) e

few-bytes : (n : ℕ) → nat_le n MOST_BYTES ≡ true → n ≤ 2 ^ 30
few-bytes n h = grind (arith, nat_tests)

-- a script that was read is readable
pub readable : (bytes : List ℕ) (s : Program) → script_of bytes ≡ Ok s → IsReadableScript s
unfolding script_of
readable bytes s e =
    let few : length bytes ≤ 2 ^ 30 = few-bytes (length bytes) (chosen-test (nat_le (length bytes) MOST_BYTES) (script_of_lines (lines_of bytes)) _ s e) in
    lines-readable (lines_of bytes) s (omega (arith, few, few_lines bytes)) (chosen (nat_le (length bytes) MOST_BYTES) (script_of_lines (lines_of bytes)) _ s e)
