use Rattle.std.proofs.Common.{◌≡◌, length, position, ap, ◌∙◌}
use Rattle.std.specs.Ordering.{nat_cmp}
use Rattle.std.specs.Cmp.Lexicographic.{slice_cmp}
use Rattle.std.specs.BTreeMap.{insert_entry}
use Rattle.std.specs.Str.{bytes_eq}
use Rattle.sig_program.specs.Scripts.{Declared}
use Rattle.sig_tokens.proofs.PlaceLemmas.{indexed_more}
use Rattle.sig_tokens.proofs.proc_table.ProcTable.with_new.Goals as goal

pub invariant_of-result : goal.invariant_of-result
invariant_of-result c =
    let entries : c.insert.new.self.entries ≡ insert_entry (λ x y. slice_cmp nat_cmp x.items y.items) c.self.inside.places.entries c.in_ok-key.key (length c.self.inside.procs) =
    c.in_ok-insert.ensures.entries ∙ ap (insert_entry (λ x y. slice_cmp nat_cmp x.items y.items) c.self.inside.places.entries c.in_ok-key.key) c.len.ensures in
    let key : c.in_ok-key.key.items ≡ c.args.proc.name = c.in_ok-key.ensures.items ∙ c.bytes.ensures.bytes ∙ ap (λ (p : Declared). p.name) c.proc.view_is in
    rw (entries, c.in_ok-add.ensures)
    (indexed_more (λ (p : Declared). p.name) c.self.inside.procs c.args.proc c.in_ok-key.key c.self.inside.places.entries key
    (ap (position (λ (p : Declared). bytes_eq p.name c.args.proc.name)) c.self.view_is ∙ c.requires) c.self.invariant)
