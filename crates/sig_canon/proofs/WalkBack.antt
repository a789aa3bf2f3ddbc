-- The walks over the lines of the canonical text give the script back.
use Rattle.std.proofs.Common.{◌≡◌, ◌≢◌, ℕ, ◌<◌, ◌≤◌, codes, List, [], ◌∷◌, ◌++◌, length, map, All, Bool, true, false, nat_le, Option, Some, Result, Ok, refl, sym, ◌∙◌, ap, subst, arith, append_assoc, length-append}
use Rattle.std.specs.List.{list_any, flat_map}
use Rattle.std.specs.Str.{bytes_eq}
use Rattle.std.specs.Option.{option_map_or}
use Rattle.std.proofs.lemmas.Bool.Decides.{nat_tests}
use Rattle.std.proofs.lemmas.List.{append-nil, map-append, length-map}
use Rattle.std.proofs.lemmas.List.Elements.{All-head, All-map}
use Rattle.sig_kinds.specs.declared.queue_data.QueueData.{QueueData}
use Rattle.sig_program.specs.declared.label.Label.{Label}
use Rattle.sig_program.specs.declared.instruction.Instr.{Instr}
use Rattle.sig_reader.specs.declared.keyword.Keyword.TheVariants as keyword
use Rattle.sig_tokens.specs.declared.known.Known.{Known}
use Rattle.sig_tokens.specs.declared.known.Known.TheVariants.{Any, Among}
use Rattle.sig_reader.specs.declared.draft.Section.{Section}
use Rattle.sig_reader.specs.declared.draft.Section.TheVariants.{Before, Outside, Inside}
use Rattle.sig_reader.specs.declared.draft.Draft.{Draft}
use Rattle.sig_program.specs.declared.version.Version.{Version}
use Rattle.sig_program.specs.declared.version.Version.TheVariants.{One, Two}
use Rattle.sig_reader.specs.declared.form.Form.TheVariants as form
use Rattle.sig_program.specs.declared.script.TheConstants.{DEFAULT_TURNS, MOST_TURNS}
use Rattle.sig_reader.specs.declared.reader.TheConstants.{MOST_BYTES}
use Rattle.sig_program.specs.Scripts.{Declared, Program, IsInstrWithin, bare_process, most_processes}
use Rattle.sig_tokens.specs.Faults.{Fault, ◌>>=◌}
use Rattle.sig_tokens.specs.Names.{labels_at}
use Rattle.sig_reader.specs.Forms.{may_stand_at}
use Rattle.sig_reader.specs.Drafts.{blank, all_procs, program_of, bare_proc, begun, taken_at, taken}
use Rattle.sig_reader.specs.Grammar.{finished, body, walk, header_of, script_behind, script_of_lines, script_of}
use Rattle.sig_canon.specs.ScriptText.{spaced, data_lines, placed_lines, process_lines, names_of, procs_lines, turns_line, header_line, script_lines, script_text}
use Rattle.sig_canon.specs.ReadableScript.{IsReadableInstr, AreDistinct, MayKeep, IsReadableProc, IsReadableScript}
use Rattle.sig_canon.proofs.DistinctLemmas.{all_after, name_free, distinct-before}
use Rattle.sig_canon.proofs.WalkSteps.{Leads, no_lines, one_line, lines_joined, same_lines, one_more}
use Rattle.sig_canon.proofs.ProcessBack.{process-leads, is_told, told_in, told-lead}
use Rattle.sig_reader.proofs.Seen.{kept, zeroed, instr_seen}
use Rattle.sig_canon.proofs.LineReads.{Reads, label_names, any_reads, among_reads, instr_kept, turns_said, process_said, lines_again}
use Rattle.sig_tokens.specs.Tokens.{cut_of, tokens_of, IsNameToken}
use Rattle.sig_tokens.specs.Numbers.{number_after}

-- a process, and a script, of which pids and targets are given as other numbers
abbrev pub proc_seen : (ℕ → ℕ) → (ℕ → ℕ) → Declared → Declared
proc_seen f g p = record p { instrs = map (instr_seen f g) p.instrs }

abbrev pub program_seen : (ℕ → ℕ) → (ℕ → ℕ) → Program → Program
program_seen f g s = record s { procs = map (proc_seen f g) s.procs }

names-seen : (f g : ℕ → ℕ) (ps : List Declared) → names_of (map (proc_seen f g) ps) ≡ names_of ps
names-seen f g [] = refl
names-seen f g (p ∷ ps) = ap (λ (names : List (List ℕ)). p.name ∷ names) (names-seen f g ps)

-- a draft in which no receive is open
abbrev is_closed : Section → Bool
is_closed (Inside p r) = false
is_closed _ = true

stands : (d : Draft) (section : Section) → is_closed section ≡ true → may_stand_at d section keyword.Process ≡ true
stands d Before h = refl
stands d (Outside p) h = refl
stands d (Inside p r) h = absurd cc

takes-process : (d : Draft) (section : Section) (name : List ℕ) → is_closed section ≡ true → taken_at d section (form.Process name) ≡ begun d name
takes-process d Before name h = refl
takes-process d (Outside p) name h = refl
takes-process d (Inside p r) name h = absurd cc

ends-well : (n : ℕ) (d : Draft) (section : Section) → is_closed section ≡ true → finished n d section ≡ Ok (program_of d)
ends-well n d Before h = refl
ends-well n d (Outside p) h = refl
ends-well n d (Inside p r) h = absurd cc

abbrev begun_as : Draft → List ℕ → Draft
begun_as d name = record d { procs = all_procs d; section = Outside (bare_proc d.version name); told = false }

begun-again : (d : Draft) (name : List ℕ) → list_any (λ (p : Declared). bytes_eq p.name name) (all_procs d) ≡ false → nat_le (most_processes d.version) (length (all_procs d)) ≡ false →
    begun d name ≡ Ok (begun_as d name)
begun-again d name free room = rw (free, room) refl

has-room : (most n m : ℕ) → n < m → m ≤ most → nat_le most n ≡ false
has-room most n m lt le = grind (arith, nat_tests)

-- a process among the others
length-behind : (done ps : List Declared) (p : Declared) → length done < length (done ++ p ∷ ps)
length-behind done ps p = omega (arith, length-append done (p ∷ ps))

module _ (known : Known) (f g : ℕ → ℕ) (s : Program) (readable : IsReadableScript s)
    (reads : (done : List Declared) (p : Declared) (ps : List Declared) → s.procs ≡ done ++ p ∷ ps → Reads known (length done) (names_of s.procs) (label_names p.labels) f g) where
  abbrev names : List (List ℕ)
  names = names_of s.procs

  abbrev seen : Declared → Declared
  seen p = proc_seen f g p

  -- so many processes were read
  record IsAt (done : List Declared) (d : Draft) : Type 0 where
    version : d.version ≡ s.version
    turns : d.turns ≡ Some s.turns
    procs : all_procs d ≡ map seen done
    closed : is_closed d.section ≡ true

  abbrev next : Draft → Declared → Draft
  next d p = record d { procs = all_procs d; section = Outside (seen p); told = is_told d.version p.queue_data }

  next-at : (done : List Declared) (p : Declared) (d : Draft) → IsAt done d → IsAt (done ++ p ∷ []) (next d p)
  next-at done p d h = record {
    version = h.version;
    turns = h.turns;
    procs = ap (λ (ps : List Declared). ps ++ seen p ∷ []) h.procs ∙ sym (map-append seen done (p ∷ []));
    closed = refl;
  }

  so-many : (done : List Declared) (d : Draft) → IsAt done d → length done ≡ length (all_procs d)
  so-many done d h = sym (ap length h.procs ∙ length-map done seen)

  -- the process at hand
  at-hand : (done ps : List Declared) (p : Declared) → s.procs ≡ done ++ p ∷ ps → IsReadableProc s.version (length s.procs) p
  at-hand done ps p is =
      All-head (IsReadableProc s.version (length s.procs)) p ps (all_after (IsReadableProc s.version (length s.procs)) done (p ∷ ps) (subst (λ (qs : List Declared). All (IsReadableProc s.version (length s.procs)) qs) is readable.procs))

  new-name : (done ps : List Declared) (p : Declared) (d : Draft) → s.procs ≡ done ++ p ∷ ps → IsAt done d → list_any (λ (q : Declared). bytes_eq q.name p.name) (all_procs d) ≡ false
  new-name done ps p d is h =
      let apart : AreDistinct (names_of done ++ p.name ∷ names_of ps) = subst AreDistinct (ap names_of is ∙ map-append (λ (q : Declared). q.name) done (p ∷ ps)) readable.names in
      let same : names_of done ≡ names_of (all_procs d) = sym (ap names_of h.procs ∙ names-seen f g done) in
      name_free (λ (q : Declared). q.name) (all_procs d) p.name (subst (λ (ns : List (List ℕ)). All (λ other. other ≢ p.name) ns) same (distinct-before (names_of done) p.name (names_of ps) apart))

  process-lead : (done ps : List Declared) (p : Declared) (d : Draft) → s.procs ≡ done ++ p ∷ ps → IsAt done d → Leads known d (process_lines s.version names p) (next d p)
  unfolding process_lines
  process-lead done ps p d is h =
      let good = at-hand done ps p is in
      let few : length s.procs ≤ most_processes d.version = subst (λ (v : Version). length s.procs ≤ most_processes v) (sym h.version) readable.sound.few in
      let room : nat_le (most_processes d.version) (length (all_procs d)) ≡ false =
      has-room (most_processes d.version) (length (all_procs d)) (length s.procs) (omega (arith, so-many done d h, ap length is, length-behind done ps p)) few in
      let takes : taken d (form.Process p.name) ≡ Ok (begun_as d p.name) = takes-process d d.section p.name h.closed ∙ begun-again d p.name (new-name done ps p d is h) room in
      let first = one_line known d (begun_as d p.name) (spaced (codes "process") (p.name ∷ [])) (form.Process p.name) (process_said known d p.name (stands d d.section h.closed) good.name) takes in
      let known_here : Reads known (length (all_procs d)) names (label_names p.labels) f g = subst (λ (n : ℕ). Reads known n names (label_names p.labels) f g) (so-many done d h) (reads done p ps is) in
      let count : length s.procs ≡ length names = sym (length-map s.procs (λ (q : Declared). q.name)) in
      let tags : length p.labels ≡ length (label_names p.labels) = sym (length-map p.labels (λ (l : Label). l.name)) in
      let here : All (IsReadableInstr s.version (length names)) p.instrs = subst (λ (n : ℕ). All (IsReadableInstr s.version n) p.instrs) count good.instrs in
      let fine : All (IsReadableInstr d.version (length names)) p.instrs = subst (λ (v : Version). All (IsReadableInstr v (length names)) p.instrs) (sym h.version) here in
      let lawful : All (IsInstrWithin (length (label_names p.labels))) p.instrs = subst (λ (n : ℕ). All (IsInstrWithin n) p.instrs) tags good.within.lawful in
      let may : MayKeep d.version p.queue_data = subst (λ (v : Version). MayKeep v p.queue_data) (sym h.version) good.messages in
      let told : Draft = told_in (record d { procs = all_procs d }) p.name d.version p.queue_data in
      let telling = told-lead known (record d { procs = all_procs d }) p.name d.version p.queue_data may in
      let rest = process-leads known names f g told p.labels known_here good.labels good.distinct p.queue_data p.name p.instrs good.within.rising good.within.places (λ i e lt. (fine i e lt, lawful i e lt)) in
      let line : List ℕ = spaced (codes "process") (p.name ∷ []) in
      let placed : List (List ℕ) = placed_lines names p.labels 1 p.instrs in
      let front = one_more known d (begun_as d p.name) told line (data_lines d.version p.queue_data) first telling in
      same_lines known d (next d p) (process_lines s.version names p) ((line ∷ data_lines d.version p.queue_data) ++ placed)
      (ap (λ (v : Version). (line ∷ data_lines v p.queue_data) ++ placed) (sym h.version))
      (lines_joined known d told (next d p) (line ∷ data_lines d.version p.queue_data) placed front rest)

  -- all processes
  record IsEnd (d : Draft) (lines : List (List ℕ)) : Type 0 where
    end : Draft
    at : IsAt s.procs end
    leads : Leads known d lines end

  procs-lead : (ps done : List Declared) (d : Draft) → s.procs ≡ done ++ ps → IsAt done d → IsEnd d (flat_map (process_lines s.version names) ps)
  procs-lead [] done d is h = record { end = d; at = subst (λ (qs : List Declared). IsAt qs d) (sym (is ∙ append-nil done)) h; leads = no_lines known d }
  procs-lead (p ∷ ps) done d is h =
      let first = process-lead done ps p d is h in
      let rest = procs-lead ps (done ++ p ∷ []) (next d p) (is ∙ sym (append_assoc done (p ∷ []) ps)) (next-at done p d h) in
      record { end = rest.end; at = rest.at; leads = lines_joined known d (next d p) rest.end (process_lines s.version names p) (flat_map (process_lines s.version names) ps) first rest.leads }

  few-turns : (n : ℕ) → n ≤ MOST_TURNS → nat_le n MOST_TURNS ≡ true
  few-turns n h = grind (arith, nat_tests)

  abbrev start : Draft
  start = blank s.version

  abbrev begin : Draft
  begin = record start { turns = Some s.turns }

  all-lead : IsEnd start (turns_line s.turns ∷ procs_lines s.version s.procs)
  all-lead =
      let few : nat_le s.turns MOST_TURNS ≡ true = few-turns s.turns readable.sound.turns in
      let takes : taken start (form.Turns s.turns) ≡ Ok begin = rw few refl in
      let first = one_line known start begin (turns_line s.turns) (form.Turns s.turns) (turns_said known start s.turns refl readable.sound.turns) takes in
      let rest = procs-lead s.procs [] begin refl (record { version = refl; turns = refl; procs = refl; closed = refl }) in
      record { end = rest.end; at = rest.at; leads = one_more known start begin rest.end (turns_line s.turns) (procs_lines s.version s.procs) first rest.leads }

  said-at-end : (d : Draft) → IsAt s.procs d → program_of d ≡ program_seen f g s
  said-at-end d h =
      let made : Version → Option ℕ → List Declared → Program = λ version turns procs. record { version = version; turns = option_map_or (λ n. n) turns DEFAULT_TURNS; procs = procs } in
      ap (λ (version : Version). made version d.turns (all_procs d)) h.version ∙ ap (λ (turns : Option ℕ). made s.version turns (all_procs d)) h.turns ∙ ap (made s.version (Some s.turns)) h.procs

  pub walk_back : walk s.version known (turns_line s.turns ∷ procs_lines s.version s.procs) ≡ Ok (program_seen f g s)
  unfolding body
  walk_back =
      let lines : List (List ℕ) = turns_line s.turns ∷ procs_lines s.version s.procs in
      let whole = all-lead in
      let n : ℕ = whole.leads.number 2 in
      ap (body known 2 start) (sym (append-nil lines)) ∙ whole.leads.goes_on 2 [] ∙ ends-well n whole.end whole.end.section whole.at.closed
      ∙ ap (λ (t : Program). Ok t) (said-at-end whole.end whole.at)

-- the first line tells the version
header_again : (v : Version) → header_of (tokens_of One (header_line v)) (header_line v) ≡ Some v
unfolding cut_of number_after
header_again One = refl
header_again Two = refl

-- ---- both walks

module _ (s : Program) (readable : IsReadableScript s) where
  abbrev behind_header : List (List ℕ)
  behind_header = turns_line s.turns ∷ procs_lines s.version s.procs

  one-readable : (done ps : List Declared) (p : Declared) → s.procs ≡ done ++ p ∷ ps → IsReadableProc s.version (length s.procs) p
  one-readable done ps p is =
      All-head (IsReadableProc s.version (length s.procs)) p ps (all_after (IsReadableProc s.version (length s.procs)) done (p ∷ ps) (subst (λ (qs : List Declared). All (IsReadableProc s.version (length s.procs)) qs) is readable.procs))

  names-named : All IsNameToken (names_of s.procs)
  names-named = All-map IsNameToken (λ (p : Declared). p.name) s.procs (λ i d lt. (readable.procs i d lt).name)

  tags-named : (labels : List Label) → All (λ (l : Label). IsNameToken l.name) labels → All IsNameToken (label_names labels)
  tags-named labels h = All-map IsNameToken (λ (l : Label). l.name) labels h

  -- the first walk
  abbrev first : Program
  first = program_seen zeroed zeroed s

  first-walk : walk s.version Any behind_header ≡ Ok first
  first-walk =
      walk_back Any zeroed zeroed s readable
      (λ done p ps is. any_reads (length done) (names_of s.procs) (label_names p.labels) names-named (tags-named p.labels (one-readable done ps p is).labels))

  -- the second walk
  labels-there : (before : List Declared) (p : Declared) (after : List Declared) → labels_at (length before) (before ++ p ∷ after) ≡ p.labels
  labels-there [] p after = refl
  labels-there (q ∷ before) p after = labels-there before p after

  labels-seen : (done : List Declared) (p : Declared) (ps : List Declared) → s.procs ≡ done ++ p ∷ ps → labels_at (length done) first.procs ≡ p.labels
  labels-seen done p ps is =
      let seen : Declared → Declared = proc_seen zeroed zeroed in
      let parts : first.procs ≡ map seen done ++ seen p ∷ map seen ps = ap (map seen) is ∙ map-append seen done (p ∷ ps) in
      ap (λ (n : ℕ). labels_at n first.procs) (sym (length-map done seen)) ∙ ap (labels_at (length (map seen done))) parts ∙ labels-there (map seen done) (seen p) (map seen ps)

  second-reads : (done : List Declared) (p : Declared) (ps : List Declared) → s.procs ≡ done ++ p ∷ ps → Reads (Among first) (length done) (names_of s.procs) (label_names p.labels) kept kept
  second-reads done p ps is =
      let same : names_of first.procs ≡ names_of s.procs = names-seen zeroed zeroed s.procs in
      let good = one-readable done ps p is in
      subst (λ (ns : List (List ℕ)). Reads (Among first) (length done) ns (label_names p.labels) kept kept) same
      (among_reads first (length done) p.labels (subst (λ (ns : List (List ℕ)). All IsNameToken ns) (sym same) names-named) (subst AreDistinct (sym same) readable.names)
      (labels-seen done p ps is) (tags-named p.labels good.labels) good.distinct)

  instrs-kept : (is : List Instr) → map (instr_seen kept kept) is ≡ is
  instrs-kept [] = refl
  instrs-kept (i ∷ is) = rw (instr_kept i, instrs-kept is) refl

  procs-kept : (ps : List Declared) → map (proc_seen kept kept) ps ≡ ps
  procs-kept [] = refl
  procs-kept (p ∷ ps) =
      ap (λ (is : List Instr). record p { instrs = is } ∷ map (proc_seen kept kept) ps) (instrs-kept p.instrs) ∙ ap (λ (qs : List Declared). p ∷ qs) (procs-kept ps)

  second-walk : walk s.version (Among first) behind_header ≡ Ok s
  second-walk = walk_back (Among first) kept kept s readable second-reads ∙ ap (λ (ps : List Declared). Ok (record s { procs = ps })) (procs-kept s.procs)

  lines-back : script_of_lines (script_lines s) ≡ Ok s
  unfolding script_of_lines script_lines
  lines-back =
      ap (λ (version : Option Version). script_behind version behind_header) (header_again s.version)
      ∙ ap (λ (r : Result Program Fault). r >>= λ script. walk s.version (Among script) behind_header) first-walk ∙ second-walk

few-bytes : (n : ℕ) → n ≤ MOST_BYTES → nat_le n MOST_BYTES ≡ true
few-bytes n h = grind (arith, nat_tests)

-- the canonical text of a readable script is read back
pub reads_back : (s : Program) → IsReadableScript s → length (script_text s) ≤ MOST_BYTES → script_of (script_text s) ≡ Ok s
unfolding script_of
reads_back s readable short =
    let yes : nat_le (length (script_text s)) MOST_BYTES ≡ true = few-bytes (length (script_text s)) short in
    rw yes (ap script_of_lines (lines_again s readable) ∙ lines-back s readable)
