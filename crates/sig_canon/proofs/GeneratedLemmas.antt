-- The generated script keeps the bounds of scripts.
use Rattle.std.proofs.Common.{◌≡◌, ℕ, zero, suc, ◌+◌, ◌*◌, ◌<◌, ◌≤◌, ◌^◌, List, [], ◌∷◌, ◌++◌, length, map, get_or, All, Bool, true, false, Some, codes, pos, refl, sym, subst, ap, ◌∙◌, arith, append_assoc, length-append}
use Rattle.std.specs.List.{flat_map, range_with_len, concat, list_any}
use Rattle.std.specs.Str.{bytes_eq}
use Rattle.std.proofs.lemmas.List.FromFn.{length-range_with_len}
use Rattle.std.proofs.lemmas.List.Elements.{All-nil, All-cons, All-head, All-tail, All-append, All-map}
use Rattle.sig_kinds.specs.declared.alias_mode.AliasMode.TheVariants as alias_mode
use Rattle.sig_kinds.specs.declared.queue_data.QueueData.TheVariants.{OffHeap}
use Rattle.sig_patterns.specs.declared.clause.Clause.{Clause}
use Rattle.sig_patterns.specs.declared.expression.Expr.{Expr}
use Rattle.sig_patterns.specs.declared.expression.Expr.TheVariants as expr
use Rattle.sig_patterns.specs.declared.var.Var.{Var}
use Rattle.sig_patterns.specs.declared.pattern.Pattern.{Pattern, roll-Pattern, map-Pattern}
use Rattle.sig_patterns.specs.declared.pattern.Pattern.TheVariants as pat
use Rattle.sig_patterns.specs.declared.pattern.Pattern.TheOpen.{Pattern-F}
use Rattle.sig_patterns.specs.declared.pattern.Pattern.TheOpen as pattern
use Rattle.sig_patterns.specs.declared.pattern.Pattern.TheFolds.{fold-roll-Pattern}
use Rattle.sig_patterns.specs.Pinning.{pins, pins_step}
use Rattle.sig_program.specs.declared.label.Label.{Label}
use Rattle.sig_program.specs.declared.instruction.Instr.{Instr}
use Rattle.sig_program.specs.declared.instruction.Instr.TheVariants as instr
use Rattle.sig_program.specs.declared.script.TheConstants.{MOST_TURNS}
use Rattle.sig_program.specs.declared.version.Version.TheVariants.{One}
use Rattle.sig_program.specs.Parts.{pids_of, pids_of_pattern}
use Rattle.sig_program.specs.Scripts.{Declared, IsInstrWithin, IsPlace, AreRising, IsWithin, IsExprBelow, IsPatternBelow, IsInstrBelow, IsProcBelow, IsScriptWithin}
use Rattle.sig_canon.specs.Generated.{var_named, call_clause, hub_receive, hub_answer, hub, to_hub, watch_hub, bind_mark, send_call, answer_clause, down_clause, await_answer, call, client, client_names, generated}
use Rattle.sig_patterns.proofs.PidLemmas.{pids_of-Int, pids_of-Atom, pids_of-Var, pids_of-Pid, pids_of-Tuple, pids_of_pattern-Any, pids_of_pattern-Bind, pids_of_pattern-Pin, pids_of_pattern-Atom, pids_of_pattern-Tuple}
use Rattle.sig_reader.proofs.BoundTermLemmas.{no-mode, IsMonitorMode}

-- one call more
calls-more : (n a k : ℕ) → a + n ≡ k → flat_map call (range_with_len a (suc n)) ≡ flat_map call (range_with_len a n) ++ call k
calls-more zero a k e = let same : a ≡ k = omega (arith, e) in ap call same
calls-more (suc n) a k e =
    let next : a + 1 + n ≡ k = omega (arith, e) in
    ap (λ (is : List Instr). call a ++ is) (calls-more n (a + 1) k next) ∙ sym (append_assoc (call a) (flat_map call (range_with_len (a + 1) n)) (call k))

pub call_more : (n : ℕ) (before after : List Instr) → before ≡ flat_map call (range_with_len 1 n) → after ≡ before ++ call (n + 1) → after ≡ flat_map call (range_with_len 1 (n + 1))
call_more n before after p q =
    let k : 1 + n ≡ n + 1 = omega arith in
    let one : n + 1 ≡ suc n = omega arith in
    q ∙ ap (λ (is : List Instr). is ++ call (n + 1)) p ∙ sym (calls-more n 1 (n + 1) k) ∙ ap (λ (m : ℕ). flat_map call (range_with_len 1 m)) (sym one)

-- what holds of each call's instructions holds of all
all-calls : (P : Instr → Type 0) → ((k : ℕ) → All P (call k)) → (ks : List ℕ) → All P (flat_map call ks)
all-calls P h [] = All-nil P
all-calls P h (k ∷ ks) = All-append P (call k) (flat_map call ks) (h k) (all-calls P h ks)

calls-length : (ks : List ℕ) → length (flat_map call ks) ≡ 5 * length ks
calls-length [] = refl
calls-length (k ∷ ks) = omega (arith, length-append (call k) (flat_map call ks), calls-length ks)

two : {A : Type 0} (P : A → Type 0) (x y : A) → P x → P y → All P (x ∷ y ∷ [])
two P x y p q = All-cons P x (y ∷ []) p (All-cons P y [] q (All-nil P))

one : {A : Type 0} (P : A → Type 0) (x : A) → P x → All P (x ∷ [])
one P x p = All-cons P x [] p (All-nil P)

-- the five instructions of a call
each-of : (P : Instr → Type 0) (k : ℕ) → P instr.Reserve → P watch_hub → P bind_mark → P (send_call k) → P await_answer → All P (call k)
each-of P k a b c d e =
    All-cons P instr.Reserve (watch_hub ∷ bind_mark ∷ send_call k ∷ await_answer ∷ []) a
    (All-cons P watch_hub (bind_mark ∷ send_call k ∷ await_answer ∷ []) b (All-cons P bind_mark (send_call k ∷ await_answer ∷ []) c (two P (send_call k) await_answer d e)))

few : 0 < 2 ^ 32
few = omega arith

reply-demonitor : IsMonitorMode (Some alias_mode.ReplyDemonitor)
reply-demonitor e = cc

-- a pattern's pins, a layer at a time
pins-roll : (x : Var) (p : Pattern-F Pattern) → pins (roll-Pattern p) x ≡ pins_step x (map-Pattern Pattern Bool (λ q. pins q x) p)
pins-roll x p = fold-roll-Pattern Bool (pins_step x) p

pins-Pin : (x v : Var) → pins (pat.Pin v) x ≡ bytes_eq v.0 x.0
pins-Pin x v = ap (λ (p : Pattern). pins p x) (sym (pat.rolls-Pin v)) ∙ pins-roll x (pattern.Pin v)

pins-Atom : (x : Var) (a : List ℕ) → pins (pat.Atom a) x ≡ false
pins-Atom x a = ap (λ (p : Pattern). pins p x) (sym (pat.rolls-Atom a)) ∙ pins-roll x (pattern.Atom a)

pins-Tuple : (x : Var) (ps : List Pattern) → pins (pat.Tuple ps) x ≡ list_any (λ b. b) (map (λ q. pins q x) ps)
pins-Tuple x ps = ap (λ (p : Pattern). pins p x) (sym (pat.rolls-Tuple ps)) ∙ pins-roll x (pattern.Tuple ps)

answer-pins : pins answer_clause.pattern (var_named (codes "M")) ≡ true
answer-pins = pins-Tuple (var_named (codes "M")) _ ∙ rw (pins-Pin (var_named (codes "M")) (var_named (codes "M"))) refl

down-pins : pins down_clause.pattern (var_named (codes "M")) ≡ true
down-pins = pins-Tuple (var_named (codes "M")) _ ∙ rw (pins-Atom (var_named (codes "M")) (codes "DOWN"), pins-Pin (var_named (codes "M")) (var_named (codes "M"))) refl

call-lawful : (k : ℕ) → All (IsInstrWithin 0) (call k)
call-lawful k =
    let none = All-nil (λ (target : ℕ). target < 0) in
    let marked = two (λ (c : Clause). pins c.pattern (var_named (codes "M")) ≡ true) answer_clause down_clause answer-pins down-pins in
    each-of (IsInstrWithin 0) k (few, none, no-mode, tt) (few, none, reply-demonitor, tt) (few, none, no-mode, tt) (few, none, no-mode, tt) (omega arith, none, no-mode, marked)

pub client_within : (n : ℕ) (name : List ℕ) → n ≤ 800 → IsWithin (client n name)
unfolding client
client_within n name le = record {
  few_instrs = omega (arith, le, calls-length (range_with_len 1 n), length-range_with_len 1 n);
  few_labels = omega arith;
  places = All-nil (IsPlace (length (flat_map call (range_with_len 1 n))));
  rising = AreRising.none;
  lawful = all-calls (IsInstrWithin 0) call-lawful (range_with_len 1 n);
}

pub hub_within : IsWithin hub
unfolding hub
hub_within =
    let first : Label = record { name = codes "loop"; place = 1 } in
    let second : Label = record { name = codes "answer"; place = 2 } in
    let none = All-nil (λ (target : ℕ). target < 2) in
    let some = one (λ (target : ℕ). target < 2) in
    record {
      few_instrs = omega arith;
      few_labels = omega arith;
      places = two (IsPlace 3) first second (omega arith, omega arith) (omega arith, omega arith);
      rising = AreRising.more (one (λ (other : Label). 1 ≤ other.place) second (omega arith)) (AreRising.more (All-nil (λ (other : Label). 2 ≤ other.place)) AreRising.none);
      lawful = All-cons (IsInstrWithin 2) hub_receive (hub_answer ∷ instr.Goto 0 ∷ []) (omega arith, some 1 (omega arith), no-mode, tt)
          (two (IsInstrWithin 2) hub_answer (instr.Goto 0) (few, none, no-mode, tt) (few, some 0 (omega arith), no-mode, tt));
    }

-- no pid stands in a tuple of parts without pids
no-pids : (es : List Expr) → All (λ (e : Expr). pids_of e ≡ []) es → concat (map pids_of es) ≡ []
no-pids [] h = refl
no-pids (e ∷ es) h = rw (All-head (λ (x : Expr). pids_of x ≡ []) e es h) (no-pids es (All-tail (λ (x : Expr). pids_of x ≡ []) e es h))

tuple-below : (es : List Expr) → All (λ (e : Expr). pids_of e ≡ []) es → IsExprBelow 9 (expr.Tuple es)
tuple-below es h = rw (pids_of-Tuple es ∙ no-pids es h) (All-nil (λ (pid : ℕ). pid < 9))

no-pattern-pids : (ps : List Pattern) → All (λ (p : Pattern). pids_of_pattern p ≡ []) ps → concat (map pids_of_pattern ps) ≡ []
no-pattern-pids [] h = refl
no-pattern-pids (p ∷ ps) h = rw (All-head (λ (x : Pattern). pids_of_pattern x ≡ []) p ps h) (no-pattern-pids ps (All-tail (λ (x : Pattern). pids_of_pattern x ≡ []) p ps h))

pattern-below : (ps : List Pattern) → All (λ (p : Pattern). pids_of_pattern p ≡ []) ps → IsPatternBelow 9 (pat.Tuple ps)
pattern-below ps h = rw (pids_of_pattern-Tuple ps ∙ no-pattern-pids ps h) (All-nil (λ (pid : ℕ). pid < 9))

hub-below : IsExprBelow 9 to_hub
hub-below = rw (pids_of-Pid 0) (one (λ (pid : ℕ). pid < 9) 0 (omega arith))

var-below : (x : Var) → IsExprBelow 9 (expr.Var x)
var-below x = rw (pids_of-Var x) (All-nil (λ (pid : ℕ). pid < 9))

call-message-below : (k : ℕ) → IsExprBelow 9 (expr.Tuple (expr.Atom (codes "call") ∷ expr.Var (var_named (codes "M")) ∷ expr.Int (pos k) ∷ []))
call-message-below k =
    let P : Expr → Type 0 = λ e. pids_of e ≡ [] in
    let rest : List Expr = expr.Var (var_named (codes "M")) ∷ expr.Int (pos k) ∷ [] in
    tuple-below (expr.Atom (codes "call") ∷ rest)
    (All-cons P (expr.Atom (codes "call")) rest (pids_of-Atom (codes "call")) (two P (expr.Var (var_named (codes "M"))) (expr.Int (pos k)) (pids_of-Var (var_named (codes "M"))) (pids_of-Int (pos k))))

answer-message-below : IsExprBelow 9 (expr.Tuple (expr.Var (var_named (codes "R")) ∷ expr.Var (var_named (codes "V")) ∷ []))
answer-message-below =
    let r : Var = var_named (codes "R") in
    let v : Var = var_named (codes "V") in
    tuple-below (expr.Var r ∷ expr.Var v ∷ []) (two (λ (e : Expr). pids_of e ≡ []) (expr.Var r) (expr.Var v) (pids_of-Var r) (pids_of-Var v))

call-clause-below : IsPatternBelow 9 call_clause.pattern
call-clause-below =
    let P : Pattern → Type 0 = λ p. pids_of_pattern p ≡ [] in
    let r : Var = var_named (codes "R") in
    let v : Var = var_named (codes "V") in
    pattern-below (pat.Atom (codes "call") ∷ pat.Bind r ∷ pat.Bind v ∷ [])
    (All-cons P (pat.Atom (codes "call")) (pat.Bind r ∷ pat.Bind v ∷ []) (pids_of_pattern-Atom (codes "call")) (two P (pat.Bind r) (pat.Bind v) (pids_of_pattern-Bind r) (pids_of_pattern-Bind v)))

answer-clause-below : IsPatternBelow 9 answer_clause.pattern
answer-clause-below =
    let m : Var = var_named (codes "M") in
    let v : Var = var_named (codes "V") in
    pattern-below (pat.Pin m ∷ pat.Bind v ∷ []) (two (λ (p : Pattern). pids_of_pattern p ≡ []) (pat.Pin m) (pat.Bind v) (pids_of_pattern-Pin m) (pids_of_pattern-Bind v))

down-clause-below : IsPatternBelow 9 down_clause.pattern
down-clause-below =
    let P : Pattern → Type 0 = λ p. pids_of_pattern p ≡ [] in
    let m : Var = var_named (codes "M") in
    let v : Var = var_named (codes "V") in
    let last : List Pattern = pat.Any ∷ pat.Bind v ∷ [] in
    let rest : List Pattern = pat.Pin m ∷ pat.Atom (codes "process") ∷ last in
    pattern-below (pat.Atom (codes "DOWN") ∷ rest)
    (All-cons P (pat.Atom (codes "DOWN")) rest (pids_of_pattern-Atom (codes "DOWN"))
    (All-cons P (pat.Pin m) (pat.Atom (codes "process") ∷ last) (pids_of_pattern-Pin m)
    (All-cons P (pat.Atom (codes "process")) last (pids_of_pattern-Atom (codes "process")) (two P pat.Any (pat.Bind v) pids_of_pattern-Any (pids_of_pattern-Bind v)))))

call-below : (k : ℕ) → All (IsInstrBelow 9) (call k)
call-below k =
    let no-exprs = All-nil (IsExprBelow 9) in
    let no-clauses = All-nil (λ (c : Clause). IsPatternBelow 9 c.pattern) in
    each-of (IsInstrBelow 9) k
    (no-exprs, no-clauses)
    (one (IsExprBelow 9) to_hub hub-below, no-clauses)
    (no-exprs, no-clauses)
    (two (IsExprBelow 9) to_hub (expr.Tuple (expr.Atom (codes "call") ∷ expr.Var (var_named (codes "M")) ∷ expr.Int (pos k) ∷ [])) hub-below (call-message-below k), no-clauses)
    (no-exprs, two (λ (c : Clause). IsPatternBelow 9 c.pattern) answer_clause down_clause answer-clause-below down-clause-below)

client-below : (n : ℕ) (name : List ℕ) → IsProcBelow 9 (client n name)
unfolding client
client-below n name = all-calls (IsInstrBelow 9) call-below (range_with_len 1 n)

hub-all-below : IsProcBelow 9 hub
unfolding hub
hub-all-below =
    let no-exprs = All-nil (IsExprBelow 9) in
    let no-clauses = All-nil (λ (c : Clause). IsPatternBelow 9 c.pattern) in
    let to : Expr = expr.Var (var_named (codes "R")) in
    let message : Expr = expr.Tuple (expr.Var (var_named (codes "R")) ∷ expr.Var (var_named (codes "V")) ∷ []) in
    All-cons (IsInstrBelow 9) hub_receive (hub_answer ∷ instr.Goto 0 ∷ []) (no-exprs, one (λ (c : Clause). IsPatternBelow 9 c.pattern) call_clause call-clause-below)
    (two (IsInstrBelow 9) hub_answer (instr.Goto 0) (two (IsExprBelow 9) to message (var-below (var_named (codes "R"))) answer-message-below, no-clauses) (no-exprs, no-clauses))

-- the hub and each client
each-proc : (P : Declared → Type 0) (n : ℕ) → P hub → ((name : List ℕ) → P (client n name)) → All P (generated n).procs
unfolding generated
each-proc P n h c =
    All-cons P hub (map (client n) client_names) h (All-map P (client n) client_names (λ i d lt. c (get_or client_names i d)))

pub generated_sound : (n : ℕ) → IsScriptWithin (generated n)
unfolding generated
generated_sound n = record {
  few = omega arith;
  turns = omega arith;
  pids = each-proc (IsProcBelow 9) n hub-all-below (client-below n);
}

pub client_is : (n : ℕ) (name own : List ℕ) (labels : List Label) (is : List Instr) → own ≡ name → labels ≡ [] → is ≡ flat_map call (range_with_len 1 n) →
    record { name = own; queue_data = OffHeap; labels = labels; instrs = is } ≡ client n name
unfolding client
client_is n name own labels is e f g = cc

pub sound_with : (n : ℕ) (procs : List Declared) → procs ≡ (generated n).procs → IsScriptWithin (record { version = One; turns = MOST_TURNS; procs = procs })
unfolding generated
sound_with n procs e = subst (λ (ps : List Declared). IsScriptWithin (record { version = One; turns = MOST_TURNS; procs = ps })) (sym e) (generated_sound n)
