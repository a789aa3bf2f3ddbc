-- A text that is walked where the names are known is walked too where the same names have other pids and other places; so a
-- script that one walk gives among its own names is the one that both walks give.
use Rattle.std.proofs.Common.{◌≡◌, ℕ, zero, suc, ◌+◌, ◌≤◌, ◌^◌, All, List, [], ◌∷◌, ◌++◌, length, map, position, slice_get, Bool, false, true, ◌||◌, cond, nat_le, if◌then◌else◌, Option, Some, None, Result, Ok, Err, refl, sym, ◌∙◌, ap, subst, ok_or}
use Rattle.std.specs.Option.{option_map, option_map_or}
use Rattle.std.specs.List.{list_any}
use Rattle.std.specs.Str.{bytes_eq}
use Rattle.std.proofs.lemmas.List.{map-append, length-map}
use Rattle.sig_patterns.specs.declared.clause.Clause.{Clause}
use Rattle.sig_patterns.specs.declared.pattern.Pattern.{Pattern}
use Rattle.sig_patterns.specs.declared.var.Var.{Var}
use Rattle.sig_program.specs.declared.version.Version.{Version}
use Rattle.sig_program.specs.declared.version.Version.TheVariants.{One, Two}
use Rattle.sig_program.specs.declared.label.Label.{Label}
use Rattle.sig_program.specs.declared.instruction.Instr.{Instr}
use Rattle.sig_tokens.specs.declared.fault.FaultKind.{FaultKind}
use Rattle.sig_tokens.specs.declared.fault.FaultKind.TheVariants.{DuplicateName, TooManyProcesses, UnknownProcess, UnknownLabel}
use Rattle.sig_tokens.specs.declared.known.Known.{Known}
use Rattle.sig_tokens.specs.declared.known.Known.TheVariants.{Any, Among}
use Rattle.sig_reader.specs.declared.draft.Section.{Section}
use Rattle.sig_reader.specs.declared.draft.Section.TheVariants.{Before, Outside, Inside}
use Rattle.sig_reader.specs.declared.draft.Draft.{Draft}
use Rattle.sig_reader.specs.declared.form.Form.{Form}
use Rattle.sig_reader.specs.declared.form.Form.TheVariants as form
use Rattle.sig_program.specs.declared.script.TheConstants.{MOST_TURNS}
use Rattle.sig_program.specs.Scripts.{Declared, Program, IsWithin, IsScriptWithin, most_processes}
use Rattle.sig_program.specs.declared.instruction.Instr.TheVariants as instr
use Rattle.sig_tokens.specs.Faults.{Fault, ◌>>=◌}
use Rattle.sig_tokens.specs.Names.{pid_of, labels_at, label_of}
use Rattle.sig_reader.specs.Forms.{said}
use Rattle.sig_reader.specs.Drafts.{blank, open_proc, all_procs, program_of, bare_proc, begun, may_tell, labelled, with_instr, is_marked, may_guard, with_clause, taken_at}
use Rattle.sig_reader.specs.Grammar.{located, finished, taken_if, line_taken, body, walk, walk_twice}
use Rattle.sig_reader.proofs.BoundLemmas.{procs_within, script_sound}
use Rattle.sig_tokens.proofs.PlaceLemmas.{next, position-cons}
use Rattle.sig_reader.proofs.Seen.{kept, zeroed, pattern_seen, clause_seen, receiving_seen, instr_seen}
use Rattle.sig_reader.proofs.SeenLemmas.{instr_kept, pins_seen}
use Rattle.sig_reader.proofs.OtherPhrases.{Sees, sees-of, sees-same, sees-if, sees-on_ok, sees-then}
use Rattle.sig_reader.proofs.OtherForms.{AreSeen, form_seen, proc_seen, section_seen, draft_seen, said-sees}
use Rattle.sig_reader.specs.SameNames.{label_names, Named, named, names_within, AreItsNames}

abbrev program_seen : (ℕ → ℕ) → (ℕ → ℕ) → Program → Program
program_seen f g s = record s { procs = map (proc_seen f g) s.procs }

-- ---- names

any-same : (f g : ℕ → ℕ) (name : List ℕ) (ps : List Declared) →
    list_any (λ (p : Declared). bytes_eq p.name name) (map (proc_seen f g) ps) ≡ list_any (λ (p : Declared). bytes_eq p.name name) ps
any-same f g name [] = refl
any-same f g name (p ∷ ps) = ap (λ (b : Bool). bytes_eq p.name name || b) (any-same f g name ps)

names-same : (f g : ℕ → ℕ) (ps : List Declared) → names_within (map (proc_seen f g) ps) ≡ names_within ps
names-same f g [] = refl
names-same f g (p ∷ ps) = ap (λ (ns : List Named). named p ∷ ns) (names-same f g ps)

-- a place is found by what is looked at alone
position-seen : {A B : Type 0} (h : A → B) (test : B → Bool) (xs : List A) → position (λ x. test (h x)) xs ≡ position test (map h xs)
position-seen h test [] = refl
position-seen h test (x ∷ xs) =
    position-cons (λ y. test (h y)) x xs ∙ ap (λ (o : Option ℕ). cond (test (h x)) (Some 0) (option_map next o)) (position-seen h test xs) ∙ sym (position-cons test (h x) (map h xs))

-- the names of the labels of the process at a place
abbrev labels_named : ℕ → List Named → List (List ℕ)
labels_named here names = option_map_or (λ (n : Named). n.labels) (slice_get names here) []

labels-named : (here : ℕ) (ps : List Declared) → label_names (labels_at here ps) ≡ labels_named here (names_within ps)
labels-named here [] = refl
labels-named zero (p ∷ ps) = refl
labels-named (suc here) (p ∷ ps) = labels-named here ps

pid-by : (name : List ℕ) (ps : List Declared) → position (λ (p : Declared). bytes_eq p.name name) ps ≡ position (λ (n : Named). bytes_eq n.name name) (names_within ps)
pid-by name ps = position-seen named (λ (n : Named). bytes_eq n.name name) ps

label-by : (here : ℕ) (name : List ℕ) (ps : List Declared) →
    position (λ (l : Label). bytes_eq l.name name) (labels_at here ps) ≡ position (λ (n : List ℕ). bytes_eq n name) (labels_named here (names_within ps))
label-by here name ps =
    position-seen (λ (l : Label). l.name) (λ (n : List ℕ). bytes_eq n name) (labels_at here ps) ∙ ap (position (λ (n : List ℕ). bytes_eq n name)) (labels-named here ps)

sees-equal : {E : Type 0} (r q : Result ℕ E) → r ≡ q → Sees kept r q
sees-equal r q e = subst (λ z. Sees kept r z) e (sees-same kept r (λ x. refl))

-- among the same names
same-names : (s t : Program) → names_within s.procs ≡ names_within t.procs → AreSeen kept kept (Among s) (Among t)
same-names s t e = record {
  pids = λ name. sees-equal (pid_of (Among s) name) (pid_of (Among t) name) (ap (λ (o : Option ℕ). ok_or o UnknownProcess)
      (pid-by name s.procs ∙ ap (position (λ (n : Named). bytes_eq n.name name)) e ∙ sym (pid-by name t.procs)));
  places = λ here name. sees-equal (label_of (Among s) here name) (label_of (Among t) here name) (ap (λ (o : Option ℕ). ok_or o UnknownLabel)
      (label-by here name s.procs ∙ ap (λ (ns : List Named). position (λ (n : List ℕ). bytes_eq n name) (labels_named here ns)) e ∙ sym (label-by here name t.procs)));
}

-- any name
sees-any : {E : Type 0} (r : Result ℕ E) → Sees zeroed r (Ok 0)
sees-any (Ok n) = refl
sees-any (Err e) = tt

any-names : (known : Known) → AreSeen zeroed zeroed known Any
any-names known = record { pids = λ name. sees-any (pid_of known name); places = λ here name. sees-any (label_of known here name) }

-- ---- what was read so far, with a form more

module _ (f g : ℕ → ℕ) where
  all-seen : (procs : List Declared) (section : Section) → map (proc_seen f g) procs ++ open_proc (section_seen f g section) ≡ map (proc_seen f g) (procs ++ open_proc section)
  all-seen procs Before = sym (map-append (proc_seen f g) procs [])
  all-seen procs (Outside p) = sym (map-append (proc_seen f g) procs (p ∷ []))
  all-seen procs (Inside p r) = sym (map-append (proc_seen f g) procs (p ∷ []))

  begun-sees : (d : Draft) (name : List ℕ) → Sees (draft_seen f g) (begun d name) (begun (draft_seen f g d) name)
  begun-sees d name =
      let seen : Declared → Declared = proc_seen f g in
      let next : List Declared → Result Draft FaultKind = λ ps.
      if list_any (λ (p : Declared). bytes_eq p.name name) ps then Err DuplicateName
      else if nat_le (most_processes d.version) (length ps) then Err TooManyProcesses
      else Ok (record d { procs = ps; section = Outside (bare_proc d.version name); told = false }) in
      let here : Sees (draft_seen f g) (begun d name) (next (map seen (all_procs d))) =
      rw (any-same f g name (all_procs d), length-map (all_procs d) seen)
      (sees-if (draft_seen f g) (list_any (λ (p : Declared). bytes_eq p.name name) (all_procs d)) _ _ _ _ tt
      (sees-if (draft_seen f g) (nat_le (most_processes d.version) (length (all_procs d))) _ _ _ _ tt refl)) in
      subst (λ ps. Sees (draft_seen f g) (begun d name) (next ps)) (sym (all-seen d.procs d.section)) here

  labelled-sees : (p : Declared) (name : List ℕ) → Sees (proc_seen f g) (labelled p name) (labelled (proc_seen f g p) name)
  labelled-sees p name =
      sees-if (proc_seen f g) (list_any (λ (l : Label). bytes_eq l.name name) p.labels) _ _ _ _ tt
      (ap (λ (n : ℕ). Ok (record (proc_seen f g p) { labels = p.labels ++ record { name = name; place = n + 1 } ∷ [] })) (length-map p.instrs (instr_seen f g)))

  instr-more : (p : Declared) (i : Instr) → with_instr (proc_seen f g p) (instr_seen f g i) ≡ proc_seen f g (with_instr p i)
  instr-more p i = ap (λ (is : List Instr). record p { instrs = is }) (sym (map-append (instr_seen f g) p.instrs (i ∷ [])))

  marked-same : (using : Option Var) (p : Pattern) → is_marked using (pattern_seen f p) ≡ is_marked using p
  marked-same None p = refl
  marked-same (Some x) p = pins_seen f p x

  clause-sees : (v : Version) (using : Option Var) (clauses : List Clause) (c : Clause) →
      Sees (map (clause_seen f g)) (with_clause v using clauses c) (with_clause v using (map (clause_seen f g) clauses) (clause_seen f g c))
  clause-sees v using clauses c =
      rw (marked-same using c.pattern) (sees-if (map (clause_seen f g)) (may_guard v c.guard) _ _ _ _ (sees-if (map (clause_seen f g)) (is_marked using c.pattern) _ _ _ _
      (ap (λ (cs : List Clause). Ok cs) (sym (map-append (clause_seen f g) clauses (c ∷ [])))) tt) tt)

  may_tell-same : (v : Version) (told : Bool) (p : Declared) → may_tell v told (proc_seen f g p) ≡ may_tell v told p
  may_tell-same One told p = refl
  may_tell-same Two told p = rw (length-map p.instrs (instr_seen f g)) refl

  taken_at-sees : (d : Draft) (section : Section) (said : Form) →
      let e : Draft = record d { section = section } in Sees (draft_seen f g) (taken_at e section said) (taken_at (draft_seen f g e) (section_seen f g section) (form_seen f g said))
  taken_at-sees d Before (form.Turns n) = sees-if (draft_seen f g) (nat_le n MOST_TURNS) _ _ _ _ refl tt
  taken_at-sees d Before (form.Process name) = begun-sees (record d { section = Before }) name
  taken_at-sees d Before _ = tt
  taken_at-sees d (Outside p) (form.Process name) = begun-sees (record d { section = Outside p }) name
  taken_at-sees d (Outside p) (form.QueueData q) =
      rw (may_tell-same d.version d.told p) (sees-if (draft_seen f g) (may_tell d.version d.told p) _ _ _ _ refl tt)
  taken_at-sees d (Outside p) (form.Label name) =
      sees-on_ok (proc_seen f g) (draft_seen f g) (λ q. record d { section = Outside q }) (λ q. record (draft_seen f g d) { section = Outside q })
      (labelled p name) (labelled (proc_seen f g p) name) (labelled-sees p name) (λ q. refl)
  taken_at-sees d (Outside p) (form.Do i) =
      ap (λ (q : Declared). Ok (record (draft_seen f g d) { section = Outside q })) (instr-more p i)
  taken_at-sees d (Outside p) (form.Receive using) = refl
  taken_at-sees d (Outside p) _ = tt
  taken_at-sees d (Inside p r) (form.On c) =
      sees-on_ok (map (clause_seen f g)) (draft_seen f g) (λ more. record d { section = Inside p (record r { clauses = more }) })
      (λ more. record (draft_seen f g d) { section = Inside (proc_seen f g p) (record (receiving_seen f g r) { clauses = more }) })
      (with_clause d.version r.using r.clauses c) (with_clause d.version r.using (map (clause_seen f g) r.clauses) (clause_seen f g c)) (clause-sees d.version r.using r.clauses c) (λ more. refl)
  taken_at-sees d (Inside p r) (form.After next) = refl
  taken_at-sees d (Inside p r) form.End =
      ap (λ (q : Declared). Ok (record (draft_seen f g d) { section = Outside q })) (instr-more p (instr.Receive r))
  taken_at-sees d (Inside p r) _ = tt

  taken_if-sees : (d : Draft) (o : Option Form) → Sees (draft_seen f g) (taken_if d o) (taken_if (draft_seen f g d) (option_map (form_seen f g) o))
  taken_if-sees d None = refl
  taken_if-sees d (Some said) = taken_at-sees d d.section said

  finished-sees : (n : ℕ) (d : Draft) (section : Section) → Sees (program_seen f g) (finished n d section) (finished n (draft_seen f g d) (section_seen f g section))
  finished-sees n d Before = ap (λ (ps : List Declared). Ok (record (program_of d) { procs = ps })) (all-seen d.procs d.section)
  finished-sees n d (Outside p) = ap (λ (ps : List Declared). Ok (record (program_of d) { procs = ps })) (all-seen d.procs d.section)
  finished-sees n d (Inside p r) = tt

-- ---- walks

located-sees : {A B C D : Type 0} (m : A → B) (k : C → D) (n : ℕ) (f : A → Result C Fault) (g : B → Result D Fault) (r : Result A FaultKind) (q : Result B FaultKind) →
    Sees m r q → ((x : A) → Sees k (f x) (g (m x))) → Sees k (located n r >>= f) (located n q >>= g)
located-sees m k n f g (Ok x) q h e = subst (λ z. Sees k (f x) (located n z >>= g)) (sym h) (e x)
located-sees m k n f g (Err e) q h _ = tt

module _ (f g : ℕ → ℕ) (known other : Known) (seen : AreSeen f g known other) where
  line-sees : (d : Draft) (line : List ℕ) → Sees (draft_seen f g) (line_taken known d line) (line_taken other (draft_seen f g d) line)
  line-sees d line =
      sees-then (option_map (form_seen f g)) (draft_seen f g) (taken_if d) (taken_if (draft_seen f g d)) (said known d line) (said other (draft_seen f g d) line)
      (said-sees f g known other seen line d) (λ o. taken_if-sees f g d o)

  body-sees : (n : ℕ) (d : Draft) (lines : List (List ℕ)) → Sees (program_seen f g) (body known n d lines) (body other n (draft_seen f g d) lines)
  unfolding body
  body-sees n d [] = finished-sees f g n d d.section
  body-sees n d (line ∷ lines) =
      located-sees (draft_seen f g) (program_seen f g) n (λ e. body known (n + 1) e lines) (λ e. body other (n + 1) e lines)
      (line_taken known d line) (line_taken other (draft_seen f g d) line) (line-sees d line) (λ e. body-sees (n + 1) e lines)

  walk-sees : (v : Version) (lines : List (List ℕ)) (s : Program) → walk v known lines ≡ Ok s → walk v other lines ≡ Ok (program_seen f g s)
  walk-sees v lines s e = sees-of (program_seen f g) (walk v known lines) (walk v other lines) s (body-sees 2 (blank v) lines) e

-- nothing changes where each number is as it was
instrs-kept : (is : List Instr) → map (instr_seen kept kept) is ≡ is
instrs-kept [] = refl
instrs-kept (i ∷ is) = rw (instr_kept i) (ap (λ (js : List Instr). i ∷ js) (instrs-kept is))

procs-kept : (ps : List Declared) → map (proc_seen kept kept) ps ≡ ps
procs-kept [] = refl
procs-kept (p ∷ ps) =
    let first : proc_seen kept kept p ≡ p = ap (λ (is : List Instr). record p { instrs = is }) (instrs-kept p.instrs) in
    rw first (ap (λ (qs : List Declared). p ∷ qs) (procs-kept ps))

-- what the first of both walks finds, where one walk among these names gives a script
abbrev found_first : Program → Program
found_first s = program_seen zeroed zeroed s

first_walk : (v : Version) (lines : List (List ℕ)) (guess s : Program) → walk v (Among guess) lines ≡ Ok s → walk v Any lines ≡ Ok (found_first s)
first_walk v lines guess s e = walk-sees zeroed zeroed (Among guess) Any (any-names (Among guess)) v lines s e

second_walk : (v : Version) (lines : List (List ℕ)) (guess s : Program) → names_within guess.procs ≡ names_within s.procs → walk v (Among guess) lines ≡ Ok s → walk v (Among (found_first s)) lines ≡ Ok s
second_walk v lines guess s same e =
    let names : names_within guess.procs ≡ names_within (found_first s).procs = same ∙ sym (names-same zeroed zeroed s.procs) in
    walk-sees kept kept (Among guess) (Among (found_first s)) (same-names guess (found_first s) names) v lines s e
    ∙ ap (λ (ps : List Declared). Ok (record s { procs = ps })) (procs-kept s.procs)

-- one walk among the names of the script that it gives is as good as both walks
module _ (v : Version) (known : Known) (lines : List (List ℕ)) (s : Program) (e : walk v known lines ≡ Ok s) (its : AreItsNames known s) where
  among-its : walk v (Among its.0) lines ≡ Ok s
  among-its = subst (λ (k : Known). walk v k lines ≡ Ok s) its.1 e

  first-is : walk v Any lines ≡ Ok (found_first s)
  first-is = first_walk v lines its.0 s among-its

  second-is : walk v (Among (found_first s)) lines ≡ Ok s
  second-is = second_walk v lines its.0 s its.2 among-its

  pub once_read : walk_twice v lines ≡ Ok s
  once_read = ap (λ (r : Result Program Fault). r >>= λ first. walk v (Among first) lines) first-is ∙ second-is

  pub once_within : length lines ≤ 2 ^ 30 → All IsWithin s.procs
  once_within le = procs_within v lines (found_first s) s first-is second-is le

  pub once_sound : length lines ≤ 2 ^ 30 → IsScriptWithin s
  once_sound le = script_sound v lines (found_first s) s first-is second-is le
