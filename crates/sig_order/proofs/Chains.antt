-- Chains of steps: one step more at the end, and what grows along a chain.
use Rattle.std.proofs.Common.{ℕ, zero, suc, ◌<◌, List, arith}
use Rattle.sig_record.specs.declared.report.Report.{Report}
use Rattle.sig_order.specs.declared.at.At.{At}
use Rattle.sig_model.specs.declared.origin.Origin.{Origin}
use Rattle.sig_order.specs.Happening.{IsStep, Chain, HappenedBefore, IsTraced, stamp_of}

module _ (reports : List Report) (origins : List Origin) where
  pub chain_end : (n : ℕ) (e g f : At) → Chain reports origins n e g → IsStep reports origins g f → Chain reports origins (suc n) e f
  chain_end zero e g f h step = (g, h, step)
  chain_end (suc n) e g f h step = (h.0, h.1, chain_end n h.0 g f h.2 step)

  pub then_step : (e g f : At) → HappenedBefore reports origins e g → IsStep reports origins g f → HappenedBefore reports origins e f
  then_step e g f h step = (suc h.0, chain_end h.0 e g f h.1 step)

  pub one_step : (e f : At) → IsStep reports origins e f → HappenedBefore reports origins e f
  one_step e f step = (zero, step)

  -- stamps rise along a chain
  chain_rises : (traced : IsTraced reports origins) (n : ℕ) (e f : At) → Chain reports origins n e f → stamp_of reports e < stamp_of reports f
  chain_rises traced zero e f h = traced.rises e f h
  chain_rises traced (suc n) e f h = omega (arith, traced.rises e h.0 h.1, chain_rises traced n h.0 f h.2)

  pub before_rises : (traced : IsTraced reports origins) (e f : At) → HappenedBefore reports origins e f → stamp_of reports e < stamp_of reports f
  before_rises traced e f h = chain_rises traced h.0 e f h.1
