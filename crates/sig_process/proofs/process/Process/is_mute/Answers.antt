use Rattle.std.proofs.Common.{◌≢◌, ◌↔◌, IsTrue, Some, subst}
use Rattle.sig_terms.specs.declared.reference.Ref.{Ref}
use Rattle.sig_kinds.specs.declared.alias_mode.AliasMode.TheVariants.{ReplyDemonitor}
use Rattle.sig_kinds.specs.WatchRules.{mode_of}
use Rattle.sig_process.specs.Standing.{Standing}
use Rattle.sig_process.proofs.process.Process.is_mute.Goals as goal

pub returns : goal.returns
returns c = subst (λ (p : Standing). IsTrue c.is_mute.result ↔ ((r : Ref) → mode_of p.running.state.tables.watch r ≢ Some ReplyDemonitor)) c.self.view_is c.is_mute.ensures
