-- How the reads of a source stand to its end.
use Rattle.std.proofs.Common.{◌≡◌, ◌≢◌, ℕ, Bool, false, ap, ◌∙◌, ne_eqb}
use Rattle.std.specs.Prelude.{◌==◌}
use Rattle.sig_base.specs.declared.end.End.{End}
use Rattle.sig_base.specs.declared.end.End.TheVariants.{Ahead}
use Rattle.sig_base.specs.Flow.{end_after}

-- after a read that gave bytes it is ahead as before
pub still_ahead : (before after : End) (n : ℕ) → n ≢ 0 → after ≡ end_after (n == 0) before → before ≡ Ahead → after ≡ Ahead
still_ahead before after n some e h =
    e ∙ ap (λ (last : Bool). end_after last before) (ne_eqb n 0 some) ∙ ap (end_after false) h
