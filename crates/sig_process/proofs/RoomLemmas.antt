-- The room for a change stays where a link ends.
use Rattle.std.proofs.Common.{◌≡◌, ◌≤◌, sym, subst, arith}
use Rattle.sig_process.specs.declared.changing.Growing.{Growing}
use Rattle.sig_process.specs.declared.changing.Growing.TheVariants.{Links}
use Rattle.sig_process.specs.declared.progress.Progress.{Progress}
use Rattle.sig_process.specs.Progressing.{HaveRoom}

pub room_obeyed : (g : Growing) (p q : Progress) → q ≡ record p { tables = record p.tables { links = q.tables.links } } → p.tables.links.spare ≤ q.tables.links.spare →
    HaveRoom g p.tables → HaveRoom g q.tables
room_obeyed Links p q same more h = omega (arith, h, more)
-- the other tables are as before
room_obeyed grows p q same more h = subst (λ (z : Progress). HaveRoom grows z.tables) (sym same) h
