use Rattle.std.proofs.Common.{◌≡◌, Some, sym, ap, ◌∙◌, arith}
use Rattle.std.specs.Prelude.{option_copied}
use Rattle.sig_process.specs.Executions.{IsPlacedWithin}
use Rattle.sig_process.specs.KeptMessage.{kept_message}
use Rattle.sig_process.proofs.KeepingLemmas.{kept_handled}
use Rattle.sig_process.proofs.progress.Progress.handle.Goals as goal

pub handle_other-requires-clause-placed : goal.handle_other-requires-clause-placed
handle_other-requires-clause-placed c = record { within = omega (arith, c.passed.ensures.count, c.passed.ensures.within); early = c.next_arrival.ensures.marks }

pub returns : goal.returns
returns c =
    let p = c.args.self.now in
    let placed : IsPlacedWithin p.tables.inner.queue = record { within = omega (arith, c.passed.ensures.count, c.passed.ensures.within); early = c.next_arrival.ensures.marks } in
    let message : kept_message p ≡ Some c.in_ok-told.told = sym c.kept_message.ensures ∙ ap option_copied c.in-Some.is ∙ ap Some (sym c.in_ok-told.ensures) in
    kept_handled p c.commit_message.new.self c.in_ok-told.told message placed c.requires.due.saved.ended c.commit_message.result c.args.pid.0 c.commit_message.ensures
