-- What goes from thread to thread, and what threads share.
pub use denote.Param.Send.{IsSend, IsSync, sendable, view_send, view_sync}
pub use denote.Param.SendFields.{variants_send, variants_sync, declared_send, declared_sync, as_row_send, as_row_sync}
pub use Rattle.std.proofs.Crossing.{crosses}
pub use Rattle.atomic_table.specs.contracts.shared.Seat as seat
pub use Rattle.atomic_table.proofs.shared.Seat.TheSendSync as seat_sent
pub use Rattle.sig_terms.proofs.term.Term.TheLaws.TheKnot as knot
pub use Rattle.sig_terms.specs.contracts.term.Term as term
pub use Rattle.sig_kinds.specs.contracts.signal.Signal as signal
pub use Rattle.sig_layout.specs.contracts.batch.Batch as batch
pub use Rattle.sig_kinds.specs.contracts.signal.Kind as kind
pub use Rattle.sig_kinds.specs.contracts.signals.Signals as signals
pub use Rattle.sig_layout.specs.contracts.pieces.Pieces as pieces
pub use Rattle.sig_queue.specs.contracts.outer_box.OuterBox as outer_box
pub use Rattle.sig_layout.specs.contracts.outer.Outer as outer
pub use Rattle.sig_layout.specs.contracts.knows.Knows as knows
pub use Rattle.sig_layout.proofs.entry.Entry.TheSendSync as entry_sent
pub use Rattle.sig_layout.proofs.summary.Summary.TheSendSync as summary_sent
pub use Rattle.sig_layout.proofs.journal.Journal.TheSendSync as journal_sent
pub use Rattle.sig_layout.proofs.senders.Senders.TheSendSync as senders_sent
pub use Rattle.sig_terms.proofs.pid.Pid.TheSendSync as pid_sent
pub use Rattle.sig_terms.proofs.reference.Ref.TheSendSync as ref_sent
pub use Rattle.sig_terms.proofs.atom.Atom.TheSendSync as atom_sent
pub use Rattle.sig_lists.proofs.sequence.Sequence.TheSendSync as list_sent
pub use Rattle.sig_queue.specs.contracts.slot.Slot as slot
pub use Rattle.sig_queue.specs.contracts.qseat.QSeat as qseat
pub use Rattle.sig_queue.specs.contracts.note.Note as note
pub use Rattle.sig_queue.specs.contracts.words.Words as words
pub use Rattle.sig_queue.specs.contracts.sig_queue.SigQueue as queue
pub use Rattle.atomic_table.proofs.owned.Table.TheSendSync as table_sent
pub use Rattle.sig_layout.proofs.policy.Policy.TheSendSync as policy_sent

pub ruleset parts = (sendable, crosses, knot.crosses, entry_sent.the_field_send, entry_sent.the_send, journal_sent.the_send, summary_sent.the_field_send, summary_sent.the_send, senders_sent.the_send, list_sent.the_send, atom_sent.the_send, pid_sent.the_field_send, pid_sent.the_send, ref_sent.the_field_send, ref_sent.the_send)

term_send : IsSend (term.the_field).row
term_send = knot.send-Term (search parts depth 9) (search parts depth 9) (search parts depth 9) (search parts depth 9) (λ h s. search (parts, s) depth 9)

kind_send : IsSend kind.the_row
kind_send = variants_send kind.enum (search (parts, as_row_send, term_send) depth 9)

signal_send : IsSend signal.the_row
signal_send = declared_send signal.the_type (search (parts, as_row_send, kind_send) depth 9)

signals_send : IsSend signals.the_row
signals_send = search (parts, signal_send) depth 9

batch_send : IsSend batch.the_row
batch_send = search (parts, signals_send) depth 9

pieces_send : IsSend pieces.the_row
pieces_send = search (parts, batch_send) depth 9

outer_send : IsSend outer.the_row
outer_send = search (parts, pieces_send) depth 9

box_send : IsSend outer_box.the_row
box_send = search (parts, outer_send) depth 9

slot_send : IsSend slot.the_row
slot_send = search (parts, box_send, batch_send) depth 9

place_send : IsSend (seat.the_row slot.the_row knows.the_row)
place_send = seat_sent.the_send slot.the_row knows.the_row slot_send

pub seat_send : IsSend qseat.the_row
seat_send = view_send _ _ _ _ _ (declared_send qseat.TheInside.the_type (as_row_send (seat.the_field slot.the_row knows.the_row) place_send, search parts depth 20))

pub note_send : IsSend note.the_row
note_send = view_send _ _ _ _ _ (declared_send note.TheInside.the_type (as_row_send (seat.the_field slot.the_row knows.the_row) place_send, tt))

pub ruleset shared_parts = (sendable, crosses, knot.crosses, entry_sent.the_field_sync, entry_sent.the_sync, journal_sent.the_sync, summary_sent.the_field_sync, summary_sent.the_sync, senders_sent.the_sync, list_sent.the_sync, atom_sent.the_sync, pid_sent.the_field_sync, pid_sent.the_sync, ref_sent.the_field_sync, ref_sent.the_sync)

term_sync : IsSync (term.the_field).row
term_sync = knot.sync-Term (search shared_parts depth 9) (search shared_parts depth 9) (search shared_parts depth 9) (search shared_parts depth 9) (λ h s. search (shared_parts, s) depth 9)

kind_sync : IsSync kind.the_row
kind_sync = variants_sync kind.enum (search (shared_parts, as_row_sync, term_sync) depth 9)

signal_sync : IsSync signal.the_row
signal_sync = declared_sync signal.the_type (search (shared_parts, as_row_sync, kind_sync) depth 9)

signals_sync : IsSync signals.the_row
signals_sync = search (shared_parts, signal_sync) depth 9

batch_sync : IsSync batch.the_row
batch_sync = search (shared_parts, signals_sync) depth 9

words_sync : IsSync words.the_row
words_sync = declared_sync words.the_type (search (parts, shared_parts, as_row_sync, table_sent.the_sync, slot_send) depth 12)

pub queue_sync : IsSync queue.the_row
queue_sync = view_sync _ _ _ _ _ (declared_sync queue.TheInside.the_type (search (parts, shared_parts, as_row_sync, words_sync, policy_sent.the_sync, batch_sync) depth 12))

-- both for `search`
pub ruleset crossing = (parts, shared_parts, seat_send, note_send, queue_sync)
