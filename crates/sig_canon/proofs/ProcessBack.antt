-- The lines of a process are read back.
use Rattle.std.proofs.Common.{◌≡◌, ℕ, suc, ◌+◌, ◌<◌, ◌≤◌, List, [], ◌∷◌, ◌++◌, length, map, All, IfSome, Bool, true, false, Option, Some, None, Ok, refl, sym, ◌∙◌, ap, subst, arith, append_assoc, length-append, codes}
use Rattle.std.specs.Prelude.{option_map, option_to_list, filter_map}
use Rattle.std.specs.List.{cons_option}
use Rattle.std.proofs.lemmas.List.{append-nil, map-append}
use Rattle.std.proofs.lemmas.List.Elements.{All-nil, All-cons, All-head, All-tail, All-append, All-weaker}
use Rattle.sig_kinds.specs.declared.queue_data.QueueData.{QueueData}
use Rattle.sig_kinds.specs.declared.queue_data.QueueData.TheVariants.{OnHeap, OffHeap}
use Rattle.sig_patterns.specs.declared.clause.Clause.{Clause}
use Rattle.sig_patterns.specs.declared.var.Var.{Var}
use Rattle.sig_program.specs.declared.version.Version.{Version}
use Rattle.sig_program.specs.declared.version.Version.TheVariants.{One, Two}
use Rattle.sig_program.specs.declared.label.Label.{Label}
use Rattle.sig_program.specs.declared.instruction.After.{After}
use Rattle.sig_program.specs.declared.instruction.Instr.{Instr}
use Rattle.sig_program.specs.declared.instruction.Instr.TheVariants as instr
use Rattle.sig_tokens.specs.declared.known.Known.{Known}
use Rattle.sig_reader.specs.declared.draft.Section.TheVariants.{Outside, Inside}
use Rattle.sig_reader.specs.declared.draft.Draft.{Draft}
use Rattle.sig_reader.specs.declared.form.Form.TheVariants as form
use Rattle.sig_program.specs.Scripts.{Declared, AreMarked, IsInstrWithin, IsPlace, AreRising, bare_process}
use Rattle.sig_program.specs.declared.instruction.Receiving.{Receiving}
use Rattle.sig_reader.specs.Drafts.{bare_proc, with_instr, is_marked, taken}
use Rattle.sig_canon.specs.ScriptText.{spaced, marker_text, target_text, clause_line, after_lines, instr_lines, label_line, labels_there, data_lines, placed_lines}
use Rattle.sig_canon.specs.ReadableScript.{IsReadableClause, IsReadableInstr, AreDistinct, MayKeep}
use Rattle.sig_canon.proofs.DistinctLemmas.{all_before, all_after, name_free, distinct-before, distinct-front}
use Rattle.sig_canon.proofs.LabelOrder.{StandAt, StandFrom, StandBefore, IsCut, cut_at, found_there, none_later}
use Rattle.sig_canon.proofs.WalkSteps.{Leads, no_lines, one_line, lines_joined, same_lines, same_end, one_more}
use Rattle.sig_reader.proofs.Seen.{pattern_seen, clause_seen, after_seen, receiving_seen, instr_seen}
use Rattle.sig_canon.proofs.LineReads.{Reads, label_names, IsSaid, pins_seen, data_said, label_said, instr_said, receive_said, clause_said, after_said, end_said}
use Rattle.sig_tokens.specs.Tokens.{IsNameToken}

-- the target of a clause, and that of an `after`, are labels
abbrev IsTarget : ℕ → Option ℕ → Type 0
IsTarget labels target = IfSome target (λ n. n < labels)

first-given : (P : ℕ → Type 0) (o : Option ℕ) (xs : List ℕ) → All P (cons_option o xs) → IfSome o P
first-given P None xs h = tt
first-given P (Some x) xs h = All-head P x xs h

given-behind : (P : ℕ → Type 0) (o : Option ℕ) (xs ys : List ℕ) → All P (cons_option o xs ++ ys) → IfSome o P × All P (xs ++ ys)
given-behind P None xs ys h = (tt, h)
given-behind P (Some x) xs ys h = (All-head P x (xs ++ ys) h, All-tail P x (xs ++ ys) h)

each-given : {A : Type 0} (P : ℕ → Type 0) (f : A → Option ℕ) (xs : List A) (ys : List ℕ) → All P (filter_map f xs ++ ys) → All (λ x. IfSome (f x) P) xs × All P ys
each-given P f [] ys h = (All-nil _, h)
each-given P f (x ∷ xs) ys h =
    let behind = given-behind P (f x) (filter_map f xs) ys h in
    let rest = each-given P f xs ys behind.1 in
    (All-cons (λ x. IfSome (f x) P) x xs behind.0 rest.0, rest.1)

-- a list that the marker allows, and its first
abbrev Pinned : Option Var → Clause → Type 0
Pinned using c = is_marked using c.pattern ≡ true

pinned : (using : Option Var) (clauses : List Clause) → AreMarked using clauses → All (Pinned using) clauses
pinned None clauses h = λ i d lt. refl
pinned (Some x) clauses h = h

module _ (known : Known) (names : List (List ℕ)) (f g : ℕ → ℕ) (e : Draft) (labels : List Label) (reads : Reads known (length e.procs) names (label_names labels) f g) where
  abbrev outside : Declared → Draft
  outside p = record e { section = Outside p }

  abbrev inside : Declared → Option Var → List Clause → Option After → Draft
  inside p using clauses after = record e { section = Inside p (record { using = using; clauses = clauses; after = after }) }

  abbrev tags : List (List ℕ)
  tags = label_names labels

  abbrev seen : Instr → Instr
  seen i = instr_seen f g i

  -- the clauses of a receive
  clauses-lead : (p : Declared) (using : Option Var) (before clauses : List Clause) → All (IsReadableClause e.version (length names)) clauses →
      All (λ (c : Clause). IsTarget (length tags) c.target) clauses → All (Pinned using) clauses →
      Leads known (inside p using before None) (map (clause_line names tags) clauses) (inside p using (before ++ map (clause_seen f g) clauses) None)
  clauses-lead p using before [] readable within marked =
      same_end known (inside p using before None) (inside p using before None) (inside p using (before ++ []) None) [] (ap (λ (cs : List Clause). inside p using cs None) (sym (append-nil before)))
      (no_lines known (inside p using before None))
  clauses-lead p using before (c ∷ clauses) readable within marked =
      let d : Draft = inside p using before None in
      let more : List Clause = before ++ clause_seen f g c ∷ [] in
      let good : IsReadableClause e.version (length names) c = All-head (IsReadableClause e.version (length names)) c clauses readable in
      let says = clause_said known d names tags f g reads refl c good (All-head (λ (c : Clause). IsTarget (length tags) c.target) c clauses within) in
      let allowed : is_marked using (pattern_seen f c.pattern) ≡ true = still-marked using c (All-head (Pinned using) c clauses marked) in
      let takes : taken d (form.On (clause_seen f g c)) ≡ Ok (inside p using more None) = rw (good.allowed, allowed) refl in
      let first = one_line known d (inside p using more None) (clause_line names tags c) (form.On (clause_seen f g c)) says takes in
      let rest = clauses-lead p using more clauses (All-tail (IsReadableClause e.version (length names)) c clauses readable) (All-tail (λ (c : Clause). IsTarget (length tags) c.target) c clauses within) (All-tail (Pinned using) c clauses marked) in
      same_end known d (inside p using (more ++ map (clause_seen f g) clauses) None) (inside p using (before ++ map (clause_seen f g) (c ∷ clauses)) None) (map (clause_line names tags) (c ∷ clauses))
      (ap (λ (cs : List Clause). inside p using cs None) (append_assoc before (clause_seen f g c ∷ []) (map (clause_seen f g) clauses)))
      (one_more known d (inside p using more None) (inside p using (more ++ map (clause_seen f g) clauses) None) (clause_line names tags c) (map (clause_line names tags) clauses) first rest)
    where
      still-marked : (using : Option Var) (c : Clause) → Pinned using c → is_marked using (pattern_seen f c.pattern) ≡ true
      still-marked None c h = refl
      still-marked (Some x) c h = pins_seen f c.pattern x ∙ h

  -- its `after`
  after-leads : (p : Declared) (using : Option Var) (clauses : List Clause) (after : Option After) → IfSome after (λ (a : After). IsTarget (length tags) a.target) →
      Leads known (inside p using clauses None) (after_lines tags after) (inside p using clauses (option_map (after_seen g) after))
  after-leads p using clauses None within = no_lines known (inside p using clauses None)
  after-leads p using clauses (Some a) within =
      let d : Draft = inside p using clauses None in
      one_line known d (inside p using clauses (Some (after_seen g a))) (spaced (codes "after") (target_text tags a.target)) (form.After (after_seen g a)) (after_said known d names tags f g reads refl a within) refl

  -- an instruction
  abbrev IsFine : Instr → Type 0
  IsFine i = IsReadableInstr e.version (length names) i × IsInstrWithin (length tags) i

  one-leads : (p : Declared) (i : Instr) (lines : List (List ℕ)) → IsSaid known (outside p) lines (form.Do (seen i)) → Leads known (outside p) lines (outside (with_instr p (seen i)))
  one-leads p i lines h =
      same_lines known (outside p) (outside (with_instr p (seen i))) lines (h.line ∷ []) h.is (one_line known (outside p) (outside (with_instr p (seen i))) h.line (form.Do (seen i)) h.said refl)

  receive-leads : (p : Declared) (r : Receiving) → IsFine (instr.Receive r) →
      Leads known (outside p) (instr_lines names tags (instr.Receive r)) (outside (with_instr p (seen (instr.Receive r))))
  unfolding instr_lines
  receive-leads p r h =
      let targets = each-given (λ n. n < length tags) (λ (c : Clause). c.target) r.clauses (filter_map (λ (a : After). a.target) (option_to_list r.after)) h.1.1 in
      let all : List Clause = map (clause_seen f g) r.clauses in
      let last : Option After = option_map (after_seen g) r.after in
      let whole : Draft = outside (with_instr p (instr.Receive (receiving_seen f g r))) in
      let first = one_line known (outside p) (inside p r.using [] None) (spaced (codes "receive") (marker_text r.using)) (form.Receive r.using) (receive_said known (outside p) r.using refl h.0.using) refl in
      let middle = clauses-lead p r.using [] r.clauses h.0.clauses targets.0 (pinned r.using r.clauses h.1.3) in
      let next = after-leads p r.using all r.after (only r.after targets.1) in
      let end = one_line known (inside p r.using all last) whole (codes "end") form.End (end_said known (inside p r.using all last) refl) refl in
      one_more known (outside p) (inside p r.using [] None) whole (spaced (codes "receive") (marker_text r.using)) _ first
      (lines_joined known (inside p r.using [] None) (inside p r.using all last) whole (map (clause_line names tags) r.clauses ++ after_lines tags r.after) (codes "end" ∷ [])
      (lines_joined known (inside p r.using [] None) (inside p r.using all None) (inside p r.using all last) (map (clause_line names tags) r.clauses) (after_lines tags r.after) middle next) end)
    where
      only : (after : Option After) → All (λ n. n < length tags) (filter_map (λ (a : After). a.target) (option_to_list after)) → IfSome after (λ (a : After). IsTarget (length tags) a.target)
      only None h = tt
      only (Some a) h = first-given (λ n. n < length tags) a.target [] h

  instr-leads : (p : Declared) (i : Instr) → IsFine i → Leads known (outside p) (instr_lines names tags i) (outside (with_instr p (seen i)))
  instr-leads p (instr.Receive r) h = receive-leads p r h
  instr-leads p i h = one-leads p i (instr_lines names tags i) (instr_said known (outside p) names tags f g reads p refl i refl h.0 h.1)

  -- labels at one place
  labels-lead : (p : Declared) (ls : List Label) → All (λ (l : Label). IsNameToken l.name) ls → StandAt (length p.instrs + 1) ls → AreDistinct (label_names (p.labels ++ ls)) →
      Leads known (outside p) (map label_line ls) (outside (record p { labels = p.labels ++ ls }))
  labels-lead p [] named there distinct =
      same_end known (outside p) (outside p) (outside (record p { labels = p.labels ++ [] })) [] (ap (λ (ls : List Label). outside (record p { labels = ls })) (sym (append-nil p.labels))) (no_lines known (outside p))
  labels-lead p (l ∷ ls) named there distinct =
      let q : Declared = record p { labels = p.labels ++ l ∷ [] } in
      let apart : AreDistinct (label_names p.labels ++ l.name ∷ label_names ls) = subst AreDistinct (map-append (λ (l : Label). l.name) p.labels (l ∷ ls)) distinct in
      let free = name_free (λ (l : Label). l.name) p.labels l.name (distinct-before (label_names p.labels) l.name (label_names ls) apart) in
      let made : ℕ → Draft = λ n. outside (record p { labels = p.labels ++ record { name = l.name; place = n } ∷ [] }) in
      let takes : taken (outside p) (form.Label l.name) ≡ Ok (made (length p.instrs + 1)) = rw free refl in
      let same : made (length p.instrs + 1) ≡ outside q = ap made (sym (All-head (λ (l : Label). l.place ≡ length p.instrs + 1) l ls there)) in
      let first = one_line known (outside p) (outside q) (label_line l) (form.Label l.name) (label_said known (outside p) l refl (All-head (λ (l : Label). IsNameToken l.name) l ls named)) (takes ∙ ap (λ (d : Draft). Ok d) same) in
      let rest = labels-lead q ls (All-tail (λ (l : Label). IsNameToken l.name) l ls named) (All-tail (λ (l : Label). l.place ≡ length p.instrs + 1) l ls there)
      (subst (λ (ms : List Label). AreDistinct (label_names ms)) (sym (append_assoc p.labels (l ∷ []) ls)) distinct) in
      same_end known (outside p) (outside (record q { labels = q.labels ++ ls })) (outside (record p { labels = p.labels ++ l ∷ ls })) (map label_line (l ∷ ls))
      (ap (λ (ms : List Label). outside (record p { labels = ms })) (append_assoc p.labels (l ∷ []) ls))
      (one_more known (outside p) (outside q) (outside (record q { labels = q.labels ++ ls })) (label_line l) (map label_line ls) first rest)

  -- the instructions from a place on, each behind the labels at its place
  record IsPlaced (p : Declared) (is : List Instr) (rest : List Label) : Type 0 where
    all : labels ≡ p.labels ++ rest
    before : StandBefore (length p.instrs + 1) p.labels
    from : StandFrom (length p.instrs + 1) rest
    within : All (λ (l : Label). l.place ≤ length p.instrs + length is + 1) rest
    rising : AreRising rest

  placed-next : (p : Declared) (i : Instr) (is : List Instr) (rest : List Label) → IsPlaced p (i ∷ is) rest → (c : IsCut (length p.instrs + 1) rest) →
      IsPlaced (with_instr (record p { labels = p.labels ++ c.here }) (seen i)) is c.later
  placed-next p i is rest h c =
      let next : length (p.instrs ++ seen i ∷ []) ≡ length p.instrs + 1 = length-append p.instrs (seen i ∷ []) in
      let n : ℕ = length (p.instrs ++ seen i ∷ []) in
      let within : All (λ (l : Label). l.place ≤ length p.instrs + suc (length is) + 1) c.later =
      all_after (λ (l : Label). l.place ≤ length p.instrs + suc (length is) + 1) c.here c.later (subst (λ (ls : List Label). All (λ (l : Label). l.place ≤ length p.instrs + suc (length is) + 1) ls) c.is h.within) in
      record {
        all = h.all ∙ ap (λ (ls : List Label). p.labels ++ ls) c.is ∙ sym (append_assoc p.labels c.here c.later);
        before = All-append (λ (l : Label). l.place < n + 1) p.labels c.here
            (All-weaker (λ (l : Label). l.place < length p.instrs + 1) (λ (l : Label). l.place < n + 1) (λ l k. omega (arith, k, next)) p.labels h.before)
            (All-weaker (λ (l : Label). l.place ≡ length p.instrs + 1) (λ (l : Label). l.place < n + 1) (λ l k. omega (arith, k, next)) c.here c.at);
        from = All-weaker (λ (l : Label). length p.instrs + 1 + 1 ≤ l.place) (λ (l : Label). n + 1 ≤ l.place) (λ l k. omega (arith, k, next)) c.later c.from;
        within = All-weaker (λ (l : Label). l.place ≤ length p.instrs + suc (length is) + 1) (λ (l : Label). l.place ≤ n + length is + 1) (λ l k. omega (arith, k, next)) c.later within;
        rising = c.rising;
      }

  module _ (named : All (λ (l : Label). IsNameToken l.name) labels) (distinct : AreDistinct (label_names labels)) where
    abbrev IsNamed : Label → Type 0
    IsNamed l = IsNameToken l.name

    -- the labels at the place are read
    there-lead : (p : Declared) (rest : List Label) → labels ≡ p.labels ++ rest → StandBefore (length p.instrs + 1) p.labels → (c : IsCut (length p.instrs + 1) rest) →
        Leads known (outside p) (labels_there labels (length p.instrs + 1)) (outside (record p { labels = p.labels ++ c.here }))
    there-lead p rest all before c =
        let place : ℕ = length p.instrs + 1 in
        let parts : labels ≡ p.labels ++ (c.here ++ c.later) = all ∙ ap (λ (ls : List Label). p.labels ++ ls) c.is in
        let found : labels_there labels place ≡ map label_line c.here =
        ap (λ (ls : List Label). labels_there ls place) parts ∙ ap (map label_line) (found_there place p.labels c.here c.later before c.at c.from) in
        let each : All IsNamed (p.labels ++ (c.here ++ c.later)) = subst (λ (ls : List Label). All IsNamed ls) parts named in
        let apart : AreDistinct (label_names (p.labels ++ (c.here ++ c.later))) = subst (λ (ls : List Label). AreDistinct (label_names ls)) parts distinct in
        let whole : AreDistinct (label_names (p.labels ++ c.here) ++ label_names c.later) =
        subst AreDistinct (ap label_names (sym (append_assoc p.labels c.here c.later)) ∙ map-append (λ (l : Label). l.name) (p.labels ++ c.here) c.later) apart in
        same_lines known (outside p) (outside (record p { labels = p.labels ++ c.here })) (labels_there labels place) (map label_line c.here) found
        (labels-lead p c.here (all_before IsNamed c.here c.later (all_after IsNamed p.labels (c.here ++ c.later) each)) c.at (distinct-front (label_names (p.labels ++ c.here)) (label_names c.later) whole))

    placed-lead : (is : List Instr) (p : Declared) (rest : List Label) → IsPlaced p is rest → All IsFine is →
        Leads known (outside p) (placed_lines names labels (length p.instrs + 1) is) (outside (record p { labels = labels; instrs = p.instrs ++ map seen is }))
    unfolding placed_lines
    placed-lead [] p rest h fine =
        let place : ℕ = length p.instrs + 1 in
        let c : IsCut place rest = cut_at place rest h.rising h.from in
        let low : All (λ (l : Label). l.place ≤ length p.instrs + 0 + 1) c.later = all_after (λ (l : Label). l.place ≤ length p.instrs + 0 + 1) c.here c.later (subst (λ (ls : List Label). All (λ (l : Label). l.place ≤ length p.instrs + 0 + 1) ls) c.is h.within) in
        let none : c.later ≡ [] = none_later place c.later c.from (All-weaker (λ (l : Label). l.place ≤ length p.instrs + 0 + 1) (λ (l : Label). l.place ≤ place) (λ l k. omega (arith, k)) c.later low) in
        let all : labels ≡ p.labels ++ c.here = h.all ∙ ap (λ (ls : List Label). p.labels ++ ls) (c.is ∙ ap (λ (ls : List Label). c.here ++ ls) none ∙ append-nil c.here) in
        same_end known (outside p) (outside (record p { labels = p.labels ++ c.here })) (outside (record p { labels = labels; instrs = p.instrs ++ [] })) (labels_there labels place)
        (ap (λ (ls : List Label). outside (record p { labels = ls })) (sym all) ∙ ap (λ (is : List Instr). outside (record p { labels = labels; instrs = is })) (sym (append-nil p.instrs)))
        (there-lead p rest h.all h.before c)
    placed-lead (i ∷ is) p rest h fine =
        let place : ℕ = length p.instrs + 1 in
        let c : IsCut place rest = cut_at place rest h.rising h.from in
        let q : Declared = record p { labels = p.labels ++ c.here } in
        let r : Declared = with_instr q (seen i) in
        let next : length r.instrs ≡ place = length-append p.instrs (seen i ∷ []) in
        let placed : IsPlaced r is c.later = placed-next p i is rest h c in
        let first = there-lead p rest h.all h.before c in
        let second = instr-leads q i (All-head IsFine i is fine) in
        let third = placed-lead is r c.later placed (All-tail IsFine i is fine) in
        let lines : List (List ℕ) = placed_lines names labels (place + 1) is in
        let end : Draft = outside (record p { labels = labels; instrs = p.instrs ++ map seen (i ∷ is) }) in
        lines_joined known (outside p) (outside r) end (labels_there labels place ++ instr_lines names tags i) lines
        (lines_joined known (outside p) (outside q) (outside r) (labels_there labels place) (instr_lines names tags i) first second)
        (same_lines known (outside r) end lines (placed_lines names labels (length r.instrs + 1) is) (ap (λ (n : ℕ). placed_lines names labels (n + 1) is) (sym next))
        (same_end known (outside r) (outside (record r { labels = labels; instrs = r.instrs ++ map seen is })) end (placed_lines names labels (length r.instrs + 1) is)
        (ap (λ (js : List Instr). outside (record p { labels = labels; instrs = js })) (append_assoc p.instrs (seen i ∷ []) (map seen is))) third))

    -- the lines of a process behind its first and that of where it keeps its messages
    pub process-leads : (queue_data : QueueData) (name : List ℕ) (is : List Instr) → AreRising labels → All (IsPlace (length is)) labels → All IsFine is →
        Leads known (outside (bare_process queue_data name)) (placed_lines names labels 1 is) (outside (record (bare_process queue_data name) { labels = labels; instrs = map seen is }))
    process-leads queue_data name is rising places fine =
        placed-lead is (bare_process queue_data name) labels
        (record {
          all = refl;
          before = All-nil (λ (l : Label). l.place < 0 + 1);
          from = All-weaker (IsPlace (length is)) (λ (l : Label). 0 + 1 ≤ l.place) (λ l k. omega (arith, k.0)) labels places;
          within = All-weaker (IsPlace (length is)) (λ (l : Label). l.place ≤ 0 + length is + 1) (λ l k. omega (arith, k.1)) labels places;
          rising = rising;
        }) fine

-- where a process keeps its messages, and whether a line has told it
abbrev pub is_told : Version → QueueData → Bool
is_told Two OffHeap = true
is_told Two OnHeap = false
is_told One queue_data = false

-- a process begins, and the line of where it keeps its messages was read or there is none
abbrev pub begun_in : Draft → List ℕ → Version → Draft
begun_in d name v = record d { version = v; section = Outside (bare_proc v name); told = false }

abbrev pub told_in : Draft → List ℕ → Version → QueueData → Draft
told_in d name v queue_data = record d { version = v; section = Outside (bare_process queue_data name); told = is_told v queue_data }

pub told-lead : (known : Known) (d : Draft) (name : List ℕ) (v : Version) (queue_data : QueueData) → MayKeep v queue_data → Leads known (begun_in d name v) (data_lines v queue_data) (told_in d name v queue_data)
told-lead known d name One OffHeap h = no_lines known (begun_in d name One)
told-lead known d name One OnHeap h = absurd cc
told-lead known d name Two OnHeap h = no_lines known (begun_in d name Two)
told-lead known d name Two OffHeap h =
    one_line known (begun_in d name Two) (told_in d name Two OffHeap) (spaced (codes "message_queue_data") (codes "off_heap" ∷ [])) (form.QueueData OffHeap) (data_said known (begun_in d name Two) refl) refl
