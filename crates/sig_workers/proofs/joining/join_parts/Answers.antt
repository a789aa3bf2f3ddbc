use Rattle.std.proofs.Common.{◌++◌, refl, ap}
use Rattle.sig_process.specs.Standing.{runnings_of}
use Rattle.sig_workers.specs.declared.part.Part.{Part}
use Rattle.sig_workers.specs.Parts.{IsPart, HasJoined}
use Rattle.sig_workers.proofs.JoinLemmas.{joined_part, both_procs, when_ok}
use Rattle.sig_workers.proofs.joining.join_parts.Goals as goal

pub returns-clause-part : goal.returns-clause-part
returns-clause-part c =
    let later : Part = record { worker = c.args.part.now.worker; first = c.args.part.now.first; procs = c.append.new.self; seats = c.join_seats.new.seats; base = c.args.part.now.base } in
    when_ok (IsPart c.args.queues.now later) c.append.new.self.items (c.args.part.now.procs.items ++ c.args.other.procs.items) c.args.part.now.procs.items c.append.result c.append.ensures.items
    (λ procs. joined_part c.args.queues.now c.args.part.now c.args.other later c.requires.part c.requires.other c.requires.next (ap (λ z. runnings_of z) c.requires.base) c.join_seats.ensures refl refl (both_procs c.args.part.now.procs.items c.args.other.procs.items c.append.new.self.items procs))

pub returns-clause-joined : goal.returns-clause-joined
returns-clause-joined c =
    let later : Part = record { worker = c.args.part.now.worker; first = c.args.part.now.first; procs = c.append.new.self; seats = c.join_seats.new.seats; base = c.args.part.now.base } in
    when_ok (HasJoined c.args.part.now c.args.other later) c.append.new.self.items (c.args.part.now.procs.items ++ c.args.other.procs.items) c.args.part.now.procs.items c.append.result c.append.ensures.items
    (λ procs. record { first = refl; base = refl; procs = procs })
