-- What the shapes of a chart keep.
use Rattle.std.specs.Prelude.{◌≡◌, ℕ, ◌+◌, ◌<◌, None, Some, slice_get}
use Rattle.std.specs.List.{Contains}
use Rattle.sig_kinds.specs.declared.signal.Signal.{Signal}
use Rattle.sig_model.specs.declared.event.Did.TheVariants.{From}
use Rattle.sig_model.specs.declared.event.Event.{Event}
use Rattle.sig_model.specs.declared.origin.Origin.{Origin}
use Rattle.sig_record.specs.declared.merging.MergedAt.{MergedAt}
use Rattle.sig_record.specs.Merging.{event_at}
use Rattle.sig_svg.specs.declared.shape.Mark.{Mark}
use Rattle.sig_svg.specs.declared.shape.Arrow.{Arrow}
use Rattle.sig_chart.specs.Finding.{event_of, sent_by}
use Rattle.sig_chart.specs.Shapes.{Ground, mark}

-- a stands above b
abbrev pub IsAbove : Mark → Mark → Type 0
IsAbove a b = a.row < b.row

-- the mark is that of the event that is shown in its row
abbrev pub IsOfItsRow : Ground → Mark → Type 0
IsOfItsRow g m =
    (at : MergedAt) × (e : Event) × (slice_get g.shown m.row ≡ Some at) × (event_at g.reports at ≡ Some e) × (m ≡ mark m.row at.pid.0 e)

-- where a mark stands: its lane and its row
abbrev pub spot_of : Mark → ℕ × ℕ
spot_of m = (m.pid, m.row)

-- where an arrow ends
abbrev pub end_of : Arrow → ℕ × ℕ
end_of a = (a.to, a.end)

-- the event that is shown where the arrow ends is one of the arrow's receiver, and handled the signal with the arrow's number of its sender
abbrev pub EndsAtHandling : Ground → Arrow → Type 0
EndsAtHandling g a =
    (m : MergedAt) × (e : Event) × (slice_get g.shown a.end ≡ Some m) × (m.pid.0 ≡ a.to) × (event_at g.reports m ≡ Some e) ×
    (e.did ≡ From (record { 0 = a.from }) a.number)

-- the origin of the signal of an arrow, sent by its sender's event with this number
abbrev pub origin_of : Arrow → ℕ → Origin
origin_of a event = record { from = record { 0 = a.from }; to = record { 0 = a.to }; number = a.number; event = event }

-- where the arrow begins in a row, this is the row of the event that sent the signal, as one of the origins tells
abbrev pub BeginsAtSender : Ground → Arrow → Type 0
BeginsAtSender g a =
    (row : ℕ) → a.start ≡ Some row →
    (m : MergedAt) × (slice_get g.shown row ≡ Some m) × (m.pid.0 ≡ a.from) × Contains g.origins (origin_of a (m.place + 1))

-- the signal of the arrow has one origin at most
abbrev pub HasOneOrigin : Ground → Arrow → Type 0
HasOneOrigin g a = (n k : ℕ) → Contains g.origins (origin_of a n) → Contains g.origins (origin_of a k) → n ≡ k

-- where the arrow begins in no row, none of the events that are shown sent the signal, as far as the origins tell
abbrev pub BeginsAbove : Ground → Arrow → Type 0
BeginsAbove g a =
    a.start ≡ None → (m : MergedAt) → Contains g.shown m → m.pid.0 ≡ a.from → Contains g.origins (origin_of a (m.place + 1)) → ⊥

-- the event that sent the signal, where one is told, has the signal's stamp
abbrev pub HasItsStamp : Ground → Signal → Type 0
HasItsStamp g s =
    (e : Event) → event_of g.reports s.from.0 (sent_by g.origins s.from.0 s.to.0 s.number) ≡ Some e → e.stamp ≡ s.stamp
