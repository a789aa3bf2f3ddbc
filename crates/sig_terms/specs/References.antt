-- The order of references: by owner, and then by serial (this project's own).
use Rattle.std.specs.declared.cmp.Ordering.{Ordering}
use Rattle.std.specs.Ordering.{nat_cmp, ordering_then}
use Rattle.sig_terms.specs.declared.reference.Ref.{Ref}

abbrev pub ref_cmp : Ref → Ref → Ordering
ref_cmp a b = ordering_then (nat_cmp a.owner.0 b.owner.0) (nat_cmp a.serial b.serial)
