-- Lines of ranges, and a range more.
use Rattle.std.proofs.Common.{◌≡◌, ℕ, ◌+◌, ◌<◌, ◌≤◌, List, [], ◌∷◌, ◌++◌, length, get_or, drop, Option, Some, None, sym, ap, ◌∙◌, append_assoc, drop-cons, add-one, subst, inl, inr, ◌⊎◌, arith}
use Rattle.std.specs.Prelude.{slice_get}
use Rattle.std.proofs.lemmas.Bool.{cases_lt}
use Rattle.std.proofs.lemmas.Option.{slice_get-get_or}
use Rattle.std.proofs.lemmas.List.{length_push, get_or_push, get_or_append_left}
use Rattle.sig_model.specs.declared.origin.Origin.{Origin}
use Rattle.sig_record.specs.declared.report.Report.{Report}
use Rattle.sig_record.specs.Records.{IsRecord}
use Rattle.sig_order.specs.declared.at.At.{At}
use Rattle.sig_order.specs.declared.span.Span.{Span}
use Rattle.sig_order.specs.Concurrent.{IsRange}
use Rattle.sig_view.specs.Ranges.{range_line, range_lines}

-- the lines from a process on are its own and those from the next one on
pub lines_on : (ranges : List (Option Span)) (pid : ℕ) → pid < length ranges
    → range_lines pid (drop pid ranges) ≡ range_line pid (get_or ranges pid None) ++ range_lines (pid + 1) (drop (pid + 1) ranges)
lines_on ranges pid h =
    ap (range_lines pid) (drop-cons ranges pid None h) ∙ ap (λ k. range_line pid (get_or ranges pid None) ++ range_lines (pid + 1) (drop k ranges)) (sym (add-one pid))

-- with the line of a process the text has the lines so far
pub lines_more : (ranges : List (Option Span)) (pid : ℕ) (all old new : List ℕ) → pid < length ranges → old ++ range_lines pid (drop pid ranges) ≡ all
    → new ≡ old ++ range_line pid (get_or ranges pid None) → new ++ range_lines (pid + 1) (drop (pid + 1) ranges) ≡ all
lines_more ranges pid all old new h so is =
    ap (λ (t : List ℕ). t ++ range_lines (pid + 1) (drop (pid + 1) ranges)) is
    ∙ append_assoc old (range_line pid (get_or ranges pid None)) (range_lines (pid + 1) (drop (pid + 1) ranges))
    ∙ ap (λ (t : List ℕ). old ++ t) (sym (lines_on ranges pid h))
    ∙ so

-- the range of the report at a place is that of the process with this pid
pub range_at : (reports ordered given : List Report) (origins : List Origin) (event : At) (range : Option Span) (n : ℕ) (r : Report) → ordered ≡ reports → given ≡ reports
    → IsRecord given → n < length given → r ≡ get_or given n r → IsRange ordered origins event r.pid.0 range → IsRange reports origins event n range
range_at reports ordered given origins event range n r same is kept lt at h =
    let there : slice_get given n ≡ Some r = slice_get-get_or given n r lt ∙ ap (λ (x : Report). Some x) (sym at) in
    subst (λ k. IsRange reports origins event k range) (kept n r there).process (subst (λ (rs : List Report). IsRange rs origins event r.pid.0 range) same h)

-- the ranges so far, and one more
module _ (reports : List Report) (origins : List Origin) (event : At) where
  abbrev pub Each : ℕ → List (Option Span) → Type 0
  Each n ranges = (pid : ℕ) → pid < n → IsRange reports origins event pid (get_or ranges pid None)

  pub each_more : (old new : List (Option Span)) (n : ℕ) (range : Option Span) → new ≡ old ++ range ∷ [] → length old ≡ n → Each n old
      → IsRange reports origins event n range → (length new ≡ n + 1) × Each (n + 1) new
  each_more old new n range is many each its = (ap length is ∙ length_push old range ∙ ap (λ k. k + 1) many, λ pid h. by pid h (cases_lt pid n))
    where
      by : (pid : ℕ) → pid < n + 1 → (pid < n) ⊎ (n ≤ pid) → IsRange reports origins event pid (get_or new pid None)
      by pid h (inl less) =
          subst (λ (o : Option Span). IsRange reports origins event pid o)
          (sym (ap (λ (rs : List (Option Span)). get_or rs pid None) is ∙ get_or_append_left old (range ∷ []) None pid (omega (arith, less, many)))) (each pid less)
      by pid h (inr more) =
          let same : n ≡ pid = omega (arith, more, h) in
          subst (λ (o : Option Span). IsRange reports origins event pid o)
          (sym (ap (λ (rs : List (Option Span)). get_or rs pid None) is ∙ get_or_push old range None pid (omega (arith, many, same))))
          (subst (λ k. IsRange reports origins event k range) same its)
