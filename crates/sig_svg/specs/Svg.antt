-- The text of a chart (Scalable Vector Graphics 1.1): pieces, each of which is one of the texts of src/markup.rt, a number, or bytes of
-- the script or the record, which are escaped.
use Rattle.std.specs.Prelude.{◌≡◌, ℕ, ◌+◌, ◌-◌, ◌/◌, Bool, true, false, List, [], ◌∷◌, ◌++◌, take, length, max, nat_le, nat_lt, decimal, if◌then◌else◌}
use Rattle.std.specs.List.{flat_map}
use Rattle.sig_svg.specs.declared.sort.Sort.{Sort}
use Rattle.sig_svg.specs.declared.markup.Markup.{Markup}
use Rattle.sig_svg.specs.declared.markup.Markup.TheVariants as markup
use Rattle.sig_svg.specs.declared.shape.Lane.{Lane}
use Rattle.sig_svg.specs.declared.shape.Mark.{Mark}
use Rattle.sig_svg.specs.declared.shape.Arrow.{Arrow}
use Rattle.sig_svg.specs.declared.shape.Stub.{Stub}
use Rattle.sig_svg.specs.declared.shape.Chart.{Chart}
use Rattle.sig_svg.specs.Escape.{escape}
use Rattle.sig_svg.specs.Markups.{markup_text}
use Rattle.sig_svg.specs.Places.{lane_x, row_y, start_y, bend_x, toward}

pub data Piece : Type 0 where
  Fixed : Markup → Piece
  Number : ℕ → Piece
  Given : List ℕ → Piece

abbrev pub piece_text : Piece → List ℕ
piece_text (Fixed m) = markup_text m
piece_text (Number n) = decimal n
piece_text (Given bytes) = escape bytes

-- the text of pieces, one behind the other
abbrev pub text_of : List Piece → List ℕ
text_of [] = []
text_of (p ∷ []) = piece_text p
text_of (p ∷ q ∷ ps) = piece_text p ++ text_of (q ∷ ps)

-- how many bytes are shown of what an event says, and of a name or a state
abbrev pub event_bytes : ℕ
event_bytes = 40

abbrev pub lane_bytes : ℕ
lane_bytes = 20

-- the width that the legend needs
abbrev pub legend_width : ℕ
legend_width = 760

-- the bytes, or where they are more than so many the first of them, and dots
abbrev pub short : ℕ → List ℕ → List Piece
short most bytes = if nat_le (length bytes) most then Given bytes ∷ [] else Given (take (most - 3) bytes) ∷ Fixed markup.Dots ∷ []

-- ---- processes: the line of the lane, down to below so many rows, with name and pid above it and the state below

abbrev pub line_pieces : ℕ → ℕ → List Piece
line_pieces rows pid =
    Fixed markup.LaneX ∷ Number (lane_x pid) ∷ Fixed markup.X2 ∷ Number (lane_x pid) ∷ Fixed markup.Y2 ∷ Number (row_y rows) ∷ Fixed markup.Close ∷ []

abbrev pub line_text : ℕ → ℕ → List ℕ
line_text rows pid = text_of (line_pieces rows pid)

-- a group with a title, up to what it shows, and its end behind a text
abbrev pub title_pieces : List ℕ → List Piece
title_pieces bytes = Fixed markup.Title ∷ Given bytes ∷ Fixed markup.TitleEnd ∷ []

abbrev pub titled : List ℕ → List ℕ
titled bytes = text_of (title_pieces bytes)

abbrev pub end_pieces : List Piece
end_pieces = Fixed markup.TextEnd ∷ Fixed markup.GroupEnd ∷ []

abbrev pub name_front : ℕ → List Piece
name_front pid = Fixed markup.NameX ∷ Number (lane_x pid) ∷ Fixed markup.Body ∷ []

abbrev pub state_front : ℕ → ℕ → List Piece
state_front rows pid = Fixed markup.MiddleX ∷ Number (lane_x pid) ∷ Fixed markup.Y ∷ Number (row_y rows + 16) ∷ Fixed markup.Body ∷ []

abbrev pub name_text : ℕ → List ℕ → List ℕ
name_text pid name = titled name ++ text_of (name_front pid) ++ text_of (short lane_bytes name) ++ text_of end_pieces

abbrev pub pid_pieces : ℕ → List Piece
pid_pieces pid =
    Fixed markup.PidX ∷ Number (lane_x pid) ∷ Fixed markup.Body ∷ Fixed markup.Less ∷ Number pid ∷ Fixed markup.Greater ∷ Fixed markup.TextEnd ∷ []

abbrev pub pid_text : ℕ → List ℕ
pid_text pid = text_of (pid_pieces pid)

abbrev pub state_text : ℕ → ℕ → List ℕ → List ℕ
state_text rows pid state = titled state ++ text_of (state_front rows pid) ++ text_of (short lane_bytes state) ++ text_of end_pieces

abbrev pub lane_text : ℕ → Lane → List ℕ
lane_text rows lane = line_text rows lane.pid ++ name_text lane.pid lane.name ++ pid_text lane.pid ++ state_text rows lane.pid lane.state

-- ---- events: a line through the row with the stamp before it; a sign, with its text beside it

abbrev pub row_pieces : Mark → List Piece
row_pieces m =
    Fixed markup.RowY ∷ Number (row_y m.row) ∷ Fixed markup.Y2 ∷ Number (row_y m.row) ∷ Fixed markup.Close ∷ Fixed markup.StampY ∷ Number (row_y m.row + 4) ∷ Fixed markup.Body ∷ Number m.stamp ∷ Fixed markup.TextEnd ∷ []

abbrev pub row_text : Mark → List ℕ
row_text m = text_of (row_pieces m)

abbrev pub sign_of : Bool → Markup
sign_of true = markup.HandledX
sign_of false = markup.ExecutedX

-- an execution has its text above its row's line, and a handling below
abbrev pub label_y : Bool → ℕ → ℕ
label_y true row = row_y row + 15
label_y false row = row_y row - 6

abbrev pub event_title_pieces : Mark → List Piece
event_title_pieces m = Fixed markup.Title ∷ Number m.stamp ∷ Fixed markup.Space ∷ Given m.text ∷ Fixed markup.TitleEnd ∷ []

abbrev pub event_title : Mark → List ℕ
event_title m = text_of (event_title_pieces m)

abbrev pub sign_pieces : Mark → List Piece
sign_pieces m = Fixed (sign_of m.handled) ∷ Number (lane_x m.pid) ∷ Fixed markup.Y ∷ Number (row_y m.row) ∷ Fixed markup.Close ∷ []

abbrev pub sign_text : Mark → List ℕ
sign_text m = text_of (sign_pieces m)

abbrev pub label_front : Mark → List Piece
label_front m = Fixed markup.LabelX ∷ Number (lane_x m.pid + 8) ∷ Fixed markup.Y ∷ Number (label_y m.handled m.row) ∷ Fixed markup.Body ∷ []

abbrev pub label_text : Mark → List ℕ
label_text m = text_of (label_front m) ++ text_of (short event_bytes m.text) ++ text_of end_pieces

abbrev pub mark_text : Mark → List ℕ
mark_text m = event_title m ++ sign_text m ++ label_text m

-- ---- signals that were handled: an arrow, whose stroke tells the kind, with a word before its end

abbrev pub middle : ℕ → ℕ → ℕ
middle a b = (a + b) / 2

abbrev pub about_pieces : Arrow → List Piece
about_pieces a =
    Fixed markup.Title ∷ Fixed (markup.Class a.sort) ∷ Fixed markup.Space ∷ Number a.number ∷ Fixed markup.Sender ∷ Number a.from ∷ Fixed markup.Receiver ∷ Number a.to ∷ Fixed markup.TitleEnd ∷ []

abbrev pub about_text : Arrow → List ℕ
about_text a = text_of (about_pieces a)

abbrev pub start_pieces : Arrow → List Piece
start_pieces a =
    Fixed markup.ArrowClass ∷ Fixed (markup.Class a.sort) ∷ Fixed markup.From ∷ Number (lane_x a.from) ∷ Fixed markup.Space ∷ Number (start_y a.start) ∷ []

abbrev pub start_text : Arrow → List ℕ
start_text a = text_of (start_pieces a)

abbrev pub way_pieces : Arrow → List Piece
way_pieces a =
    Fixed markup.Bend ∷ Number (bend_x a.from a.to) ∷ Fixed markup.Space ∷ Number (middle (start_y a.start) (row_y a.end))
    ∷ Fixed markup.Space ∷ Number (lane_x a.to) ∷ Fixed markup.Space ∷ Number (row_y a.end) ∷ Fixed markup.Close ∷ []

abbrev pub way_text : Arrow → List ℕ
way_text a = text_of (way_pieces a)

abbrev pub word_pieces : Arrow → List Piece
word_pieces a =
    Fixed markup.WordX ∷ Number (lane_x a.to - 10) ∷ Fixed markup.Y ∷ Number (row_y a.end + 15) ∷ Fixed markup.Body ∷ Fixed (markup.Word a.sort) ∷ Fixed markup.TextEnd ∷ Fixed markup.GroupEnd ∷ []

abbrev pub word_text : Arrow → List ℕ
word_text a = text_of (word_pieces a)

abbrev pub arrow_text : Arrow → List ℕ
arrow_text a = about_text a ++ start_text a ++ way_text a ++ word_text a

-- ---- signals that are queued: a short arrow with a ring at its end, and the receiver beside it

abbrev pub queued_title_pieces : List ℕ → List Piece
queued_title_pieces bytes = Fixed markup.QueuedTitle ∷ Given bytes ∷ Fixed markup.TitleEnd ∷ []

abbrev pub queued_title : List ℕ → List ℕ
queued_title bytes = text_of (queued_title_pieces bytes)

abbrev pub stub_start_pieces : Stub → List Piece
stub_start_pieces s =
    Fixed markup.QueuedClass ∷ Fixed (markup.Class s.sort) ∷ Fixed markup.From ∷ Number (lane_x s.from) ∷ Fixed markup.Space ∷ Number (row_y s.start) ∷ []

abbrev pub stub_start_text : Stub → List ℕ
stub_start_text s = text_of (stub_start_pieces s)

abbrev pub stub_way_pieces : Stub → List Piece
stub_way_pieces s = Fixed markup.Line ∷ Number (toward s.from s.to) ∷ Fixed markup.Space ∷ Number (row_y s.start + 18) ∷ Fixed markup.Close ∷ []

abbrev pub stub_way_text : Stub → List ℕ
stub_way_text s = text_of (stub_way_pieces s)

-- before the ring, where the arrow leads to the left, and else behind it
abbrev pub whom_side : ℕ → ℕ → Markup
whom_side from to = if nat_lt from to then markup.LabelX else markup.WordX

abbrev pub whom_x : ℕ → ℕ → ℕ
whom_x from to = if nat_lt from to then toward from to + 8 else toward from to - 8

abbrev pub whom_at_pieces : Stub → List Piece
whom_at_pieces s = Fixed (whom_side s.from s.to) ∷ Number (whom_x s.from s.to) ∷ Fixed markup.Y ∷ Number (row_y s.start + 22) ∷ Fixed markup.Body ∷ []

abbrev pub whom_at : Stub → List ℕ
whom_at s = text_of (whom_at_pieces s)

abbrev pub whom_pieces : Stub → List Piece
whom_pieces s = Fixed (markup.Word s.sort) ∷ Fixed markup.Receiver ∷ Number s.to ∷ Fixed markup.TextEnd ∷ Fixed markup.GroupEnd ∷ []

abbrev pub whom_text : Stub → List ℕ
whom_text s = text_of (whom_pieces s)

abbrev pub stub_text : Stub → List ℕ
stub_text s = queued_title s.text ++ stub_start_text s ++ stub_way_text s ++ whom_at s ++ whom_text s

-- ---- all

-- the size of the picture, with room for the text of the last lane's events, and for the legend
abbrev pub head_pieces : ℕ → ℕ → List Piece
head_pieces count rows =
    Fixed markup.SvgWidth ∷ Number (max (lane_x count + 250) legend_width) ∷ Fixed markup.SvgHeight ∷ Number (row_y rows + 250) ∷ Fixed markup.SvgHead ∷ []

abbrev pub head_text : ℕ → ℕ → List ℕ
head_text count rows = text_of (head_pieces count rows)

abbrev pub foot_pieces : ℕ → List Piece
foot_pieces rows =
    Fixed markup.LegendAt ∷ Number (row_y rows + 50) ∷ Fixed markup.Legend ∷ Fixed markup.SvgFoot ∷ []

abbrev pub foot_text : ℕ → List ℕ
foot_text rows = text_of (foot_pieces rows)

-- what is drawn later lies above
abbrev pub chart_text : Chart → List ℕ
chart_text c =
    head_text c.count c.rows ++ flat_map row_text c.marks ++ flat_map (lane_text c.rows) c.lanes ++ flat_map arrow_text c.arrows
    ++ flat_map stub_text c.stubs ++ flat_map mark_text c.marks ++ foot_text c.rows

-- ---- the pieces of all of this, in the order in which they stand

abbrev pub name_pieces : ℕ → List ℕ → List Piece
name_pieces pid name = title_pieces name ++ name_front pid ++ short lane_bytes name ++ end_pieces

abbrev pub state_pieces : ℕ → ℕ → List ℕ → List Piece
state_pieces rows pid state = title_pieces state ++ state_front rows pid ++ short lane_bytes state ++ end_pieces

abbrev pub lane_pieces : ℕ → Lane → List Piece
lane_pieces rows l = line_pieces rows l.pid ++ name_pieces l.pid l.name ++ pid_pieces l.pid ++ state_pieces rows l.pid l.state

abbrev pub label_pieces : Mark → List Piece
label_pieces m = label_front m ++ short event_bytes m.text ++ end_pieces

abbrev pub mark_pieces : Mark → List Piece
mark_pieces m = event_title_pieces m ++ sign_pieces m ++ label_pieces m

abbrev pub arrow_pieces : Arrow → List Piece
arrow_pieces a = about_pieces a ++ start_pieces a ++ way_pieces a ++ word_pieces a

abbrev pub stub_pieces : Stub → List Piece
stub_pieces s = queued_title_pieces s.text ++ stub_start_pieces s ++ stub_way_pieces s ++ whom_at_pieces s ++ whom_pieces s

-- of each event the line through its row, each process's lane, each signal's arrow, and of each event its sign and its text
abbrev pub chart_pieces : Chart → List Piece
chart_pieces c =
    head_pieces c.count c.rows ++ flat_map row_pieces c.marks ++ flat_map (lane_pieces c.rows) c.lanes ++ flat_map arrow_pieces c.arrows
    ++ flat_map stub_pieces c.stubs ++ flat_map mark_pieces c.marks ++ foot_pieces c.rows
