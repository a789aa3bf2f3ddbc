use Rattle.std.proofs.Common.{sym, ap, ◌∙◌, refl}
use Rattle.sig_inner.specs.InnerQueue.{found_message, taken}
use Rattle.sig_process.specs.declared.progress.Progress.{Progress}
use Rattle.sig_process.proofs.progress.Progress.take_into.Goals as goal

pub returns : goal.returns
returns c =
    let bound = c.in_ok-bind_found.ensures in
    record {
      message = c.take-message.result;
      found = ap (λ (p : Progress). found_message p.tables.inner.queue) (sym bound.rest) ∙ sym c.take-message.ensures.message;
      bound = bound.env;
      queue = c.take-message.ensures.rest ∙ ap (λ (p : Progress). taken p.tables.inner.queue) bound.rest;
      rest = rw (c.push_reserved.ensures.items, c.in_ok-reserve.ensures.items, bound.rest) refl;
    }
