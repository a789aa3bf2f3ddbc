use Rattle.std.proofs.Common.{◌≡◌, length, position, ap, ◌∙◌}
use Rattle.std.specs.Ordering.{nat_cmp}
use Rattle.std.specs.Cmp.Lexicographic.{slice_cmp}
use Rattle.std.specs.BTreeMap.{insert_entry}
use Rattle.std.specs.Str.{bytes_eq}
use Rattle.sig_program.specs.declared.label.Label.{Label}
use Rattle.sig_tokens.proofs.PlaceLemmas.{indexed_more}
use Rattle.sig_tokens.proofs.label_table.LabelTable.with.Goals as goal

pub invariant_of-result : goal.invariant_of-result
invariant_of-result c =
    let entries : c.insert.new.self.entries ≡ insert_entry (λ x y. slice_cmp nat_cmp x.items y.items) c.self.inside.places.entries c.in_ok-key.key (length c.self.inside.labels) =
    c.in_ok-insert.ensures.entries ∙ ap (insert_entry (λ x y. slice_cmp nat_cmp x.items y.items) c.self.inside.places.entries c.in_ok-key.key) c.len.ensures in
    rw (entries, c.in_ok-add.ensures)
    (indexed_more (λ (l : Label). l.name) c.self.inside.labels c.args.label c.in_ok-key.key c.self.inside.places.entries (c.in_ok-key.ensures.items ∙ c.bytes.ensures.bytes)
    (ap (position (λ (l : Label). bytes_eq l.name c.args.label.name)) c.self.view_is ∙ c.requires.new) c.self.invariant)
