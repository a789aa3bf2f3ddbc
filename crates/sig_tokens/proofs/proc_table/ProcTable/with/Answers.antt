use Rattle.std.proofs.Common.{◌≡◌, ℕ, List, position, sym, ap, ◌∙◌}
use Rattle.std.specs.List.{list_any}
use Rattle.std.specs.Str.{bytes_eq}
use Rattle.sig_program.specs.Scripts.{Declared}
use Rattle.sig_tokens.proofs.proc_table.ProcTable.with.Goals as goal

pub with_known-requires : goal.with_known-requires
with_known-requires c =
    let name : c.bytes.result.now ≡ c.args.proc.name = c.bytes.ensures.bytes ∙ ap (λ (p : Declared). p.name) c.proc.view_is in
    ap (λ (n : List ℕ). list_any (λ (p : Declared). bytes_eq p.name n) c.args.self) (sym name) ∙ sym c.has.ensures.any ∙ c.if-has.true

pub with_new-requires : goal.with_new-requires
with_new-requires c =
    let name : c.bytes.result.now ≡ c.args.proc.name = c.bytes.ensures.bytes ∙ ap (λ (p : Declared). p.name) c.proc.view_is in
    ap (λ (n : List ℕ). position (λ (p : Declared). bytes_eq p.name n) c.args.self) (sym name) ∙ c.has.ensures.none c.if-has.false
