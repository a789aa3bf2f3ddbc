-- In each process one span of events is concurrent with a given one, or none.
use Rattle.std.proofs.Common.{◌≡◌, ℕ, List, Option, Some, None, refl, arith}
use Rattle.sig_model.specs.declared.origin.Origin.{Origin}
use Rattle.sig_record.specs.declared.report.Report.{Report}
use Rattle.sig_order.specs.declared.at.At.{At}
use Rattle.sig_order.specs.declared.span.Span.{Span}
use Rattle.sig_order.specs.Concurrent.{IsOf, IsRange}

module _ (reports : List Report) (origins : List Origin) (e : At) (pid : ℕ) where
  -- a span has events, so where there are none it is no range
  none_or_some : (s : Span) → IsRange reports origins e pid None → IsRange reports origins e pid (Some s) → ⊥
  none_or_some s h g = h s.first ((g.1 s.first).1 (omega arith, g.0))

  within : (s t : Span) (n : ℕ) → IsRange reports origins e pid (Some s) → IsRange reports origins e pid (Some t) → IsOf s n → IsOf t n
  within s t n h g is = (g.1 n).0 ((h.1 n).1 is)

  same_first : (s t : Span) → IsRange reports origins e pid (Some s) → IsRange reports origins e pid (Some t) → s.first ≡ t.first
  same_first s t h g =
      let there : IsOf t s.first = within s t s.first h g (omega arith, h.0) in
      let here : IsOf s t.first = within t s t.first g h (omega arith, g.0) in
      omega (arith, there.0, here.0)

  same_last : (s t : Span) → IsRange reports origins e pid (Some s) → IsRange reports origins e pid (Some t) → s.last ≡ t.last
  same_last s t h g =
      let there : IsOf t s.last = within s t s.last h g (h.0, omega arith) in
      let here : IsOf s t.last = within t s t.last g h (g.0, omega arith) in
      omega (arith, there.1, here.1)

  pub one_span : (a b : Option Span) → IsRange reports origins e pid a → IsRange reports origins e pid b → a ≡ b
  one_span None None h g = refl
  one_span None (Some t) h g = absurd (none_or_some t h g)
  one_span (Some s) None h g = absurd (none_or_some s g h)
  one_span (Some s) (Some t) h g = λ i. Some (record { first = same_first s t h g i; last = same_last s t h g i })
