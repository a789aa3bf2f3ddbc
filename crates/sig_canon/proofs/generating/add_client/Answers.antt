use Rattle.std.proofs.Common.{sym, subst}
use Rattle.sig_program.specs.Scripts.{IsWithin}
use Rattle.sig_canon.proofs.GeneratedLemmas.{client_within, client_is}
use Rattle.sig_canon.proofs.generating.add_client.Goals as goal

pub invariant_of-client : goal.invariant_of-client
invariant_of-client c =
    let is = client_is c.args.n c.args.name.now c.in_ok-name.name c.new.result c.in_ok-instrs.instrs c.in_ok-name.ensures c.new.ensures c.in_ok-instrs.ensures in
    subst IsWithin (sym is) (client_within c.args.n c.args.name.now c.requires.few)
