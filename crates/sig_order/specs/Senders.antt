-- The event that sent a signal, looked up by the signal (this project's own).
use Rattle.std.specs.Prelude.{◌≡◌, ℕ, ◌==◌, List, [], ◌∷◌, Option, Some, None, cond, if◌then◌else◌}
use Rattle.std.specs.declared.cmp.Ordering.{Ordering}
use Rattle.std.specs.Ordering.{nat_cmp, ordering_then}
use Rattle.std.specs.Option.{option_or}
use Rattle.std.specs.Map.{lookup}
use Rattle.std.specs.BTreeMap.{is_at}
use Rattle.sig_model.specs.declared.event.Did.{Did}
use Rattle.sig_model.specs.declared.event.Did.TheVariants.{Exec, From}
use Rattle.sig_model.specs.declared.origin.Origin.{Origin}
use Rattle.sig_order.specs.declared.at.At.{At}
use Rattle.sig_order.specs.declared.senders.SignalKey.{SignalKey}

-- by sender, then receiver, then number
abbrev pub signal_cmp : SignalKey → SignalKey → Ordering
signal_cmp a b = ordering_then (nat_cmp a.from b.from) (ordering_then (nat_cmp a.to b.to) (nat_cmp a.number b.number))

abbrev pub key_of : Origin → SignalKey
key_of o = record { from = o.from.0; to = o.to.0; number = o.number }

-- the event that the last of these origins tells which is of the signal
abbrev pub told : List Origin → SignalKey → Option ℕ
told [] q = None
told (o ∷ os) q = option_or (told os q) (cond (is_at (signal_cmp (key_of o)) q) (Some o.event) None)

-- the entries give for each signal what the origins tell
abbrev pub IsIndex : List Origin → List (SignalKey × ℕ) → Type 0
IsIndex origins entries = (q : SignalKey) → lookup (is_at (signal_cmp q)) entries ≡ told origins q

-- the event of the sender, where it is known
abbrev pub sender_told : ℕ → Option ℕ → Option At
sender_told from None = None
sender_told from (Some event) = Some (record { pid = from; event = event })

-- the event that sent the signal which an event of the process `to` handled, where it was one of another process
abbrev pub sender_of : List (SignalKey × ℕ) → ℕ → Did → Option At
sender_of entries to (Exec place) = None
sender_of entries to (From sender number) =
    if sender.0 == to then None else sender_told sender.0 (lookup (is_at (signal_cmp (record { from = sender.0; to = to; number = number }))) entries)
