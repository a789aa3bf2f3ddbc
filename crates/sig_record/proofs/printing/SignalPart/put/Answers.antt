use Rattle.std.proofs.Common.{ℕ, List, ◌++◌, refl}
use Rattle.std.specs.Prelude.{codes, decimal}
use Rattle.sig_kinds.specs.declared.signal.Signal.{Signal}
use Rattle.sig_record.specs.KindRows.{kind_text}
use Rattle.sig_record.specs.RecordText.{queued_text}
use Rattle.sig_record.proofs.Fronts.{two_put, put_behind}
use Rattle.sig_record.proofs.Stored.{if_ok}
use Rattle.sig_record.proofs.printing.SignalPart.put.Goals as goal

pub returns-clause-stored : goal.returns-clause-stored
returns-clause-stored c =
    if_ok c.put_byte.result (((c.put_signal_numbers.ensures.from, c.in_ok-put_signal_numbers.ensures.number), c.in_ok-put_signal_numbers.ensures.stamp), c.in_ok-put_spaced_kind.ensures.stored)

pub returns-clause-text : goal.returns-clause-text
unfolding queued_text
returns-clause-text c =
    let old : List ℕ = c.args.into.now.items in
    let now : List ℕ = c.put_spaced_kind.new.into.items in
    let s : Signal = c.args.self.now in
    let first : List ℕ = codes "queued " ++ decimal s.from.0 ++ codes " " ++ decimal s.number ++ codes " " ++ decimal s.stamp in
    let more : List ℕ = kind_text s.kind in
    put_behind c.put_byte.result old now c.put_byte.new.into.items (first ++ codes " " ++ more) (codes "\n") (queued_text s)
    (two_put old c.put_signal_numbers.new.into.items now first (codes " ") more c.in_ok-put_signal_numbers.ensures.text.0 c.in_ok-put_spaced_kind.ensures.text.0)
    c.put_byte.ensures refl
