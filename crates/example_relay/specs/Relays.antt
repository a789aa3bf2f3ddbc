-- What two threads do with a queue.
use Rattle.std.specs.Prelude.{◌≡◌, ℕ, ◌<◌, Bool, true, false, List, [], ◌∷◌, suc, Option, Some, None}
use Rattle.sig_terms.specs.declared.pid.Pid.{Pid}
use Rattle.sig_terms.specs.declared.term.Term.TheVariants.{Ref}
use Rattle.sig_kinds.specs.declared.signal.Kind.TheVariants.{Message}
use Rattle.sig_kinds.specs.declared.signal.Signal.{Signal}
use Rattle.sig_layout.specs.declared.setup.Setup.{Setup}
use Rattle.sig_layout.specs.declared.knows.Knows.{Knows}
use Rattle.sig_layout.specs.Sets.{has}
use Rattle.sig_layout.specs.Sent.{signals}
use Rattle.sig_layout.specs.Openings.{first_of}
use Rattle.sig_queue.specs.declared.offer.Offer.{Offer}
use Rattle.sig_queue.specs.declared.offer.Offer.TheVariants as offer
use Rattle.example_relay.specs.declared.relaying.Line.{Line}

-- a message that is a reference of its sender
abbrev pub message : Pid → Pid → ℕ → ℕ → Signal
message from to n x = record { from = from; to = to; number = n; stamp = 0; kind = Message (Ref (record { owner = from; serial = x })) }

-- a message for each serial, numbered from n on
abbrev pub messages : Pid → Pid → ℕ → List ℕ → List Signal
messages from to n [] = []
messages from to n (x ∷ xs) = message from to n x ∷ messages from to (suc n) xs

-- a sender of a queue, with the receiver and its first number
pub record Sender (z : Setup) (l : Line) : Type 0 where
  pub known : has z.senders l.from.0 ≡ true
  pub below : l.from.0 < z.opening.count
  pub receiver : l.to ≡ z.opening.receiver
  pub receiver_below : l.to.0 < z.opening.count
  pub first_is : l.first ≡ first_of z l.from.0

-- the seat of all senders, which has put messages with these serials
pub record Sends (z : Setup) (from : Pid) (serials : List ℕ) (v : Knows) : Type 0 where
  pub senders : v.senders ≡ z.senders
  pub can : has v.senders from.0 ≡ true
  pub put_is : signals v.put ≡ messages from z.opening.receiver (first_of z from.0) serials
  pub no_role : v.role ≡ false
  pub none_taken : v.taken ≡ []

-- the receiver's seat, which has taken these
pub record Receives (taken : List Signal) (v : Knows) : Type 0 where
  pub role : v.role ≡ true
  pub none_put : v.put ≡ []
  pub taken_is : v.taken ≡ taken

-- whether the offer put its signal, where memory was not wanting
abbrev pub put_by : Offer → Option Bool
put_by (offer.Put way) = Some true
put_by (offer.Busy y n) = Some false
put_by (offer.Memory y) = None
