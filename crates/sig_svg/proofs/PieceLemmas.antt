-- The text of a chart is that of its pieces.
use Rattle.std.proofs.Common.{◌≡◌, ℕ, List, [], ◌∷◌, ◌++◌, refl, sym, ap, ◌∙◌, append_assoc}
use Rattle.std.specs.List.{flat_map}
use Rattle.std.proofs.lemmas.List.{append-nil}
use Rattle.sig_svg.specs.declared.shape.Lane.{Lane}
use Rattle.sig_svg.specs.declared.shape.Mark.{Mark}
use Rattle.sig_svg.specs.declared.shape.Arrow.{Arrow}
use Rattle.sig_svg.specs.declared.shape.Stub.{Stub}
use Rattle.sig_svg.specs.declared.shape.Chart.{Chart}
use Rattle.sig_svg.specs.Svg.{Piece, piece_text, text_of, event_bytes, lane_bytes, short, title_pieces, end_pieces, name_front, state_front, line_pieces, line_text, name_text, pid_pieces, pid_text, state_text, lane_text, row_pieces, row_text, event_title, event_title_pieces, sign_pieces, sign_text, label_front, label_text, mark_text, about_pieces, start_pieces, way_pieces, word_pieces, arrow_text, queued_title_pieces, stub_start_pieces, stub_way_pieces, whom_at_pieces, whom_pieces, stub_text, head_pieces, head_text, foot_pieces, foot_text, chart_text}
use Rattle.sig_svg.specs.Svg.{name_pieces, state_pieces, lane_pieces, label_pieces, mark_pieces, arrow_pieces, stub_pieces, chart_pieces}

text_of-append : (ps qs : List Piece) → text_of (ps ++ qs) ≡ text_of ps ++ text_of qs
text_of-append [] qs = refl
text_of-append (p ∷ []) [] = sym (append-nil (piece_text p))
text_of-append (p ∷ []) (q ∷ qs) = refl
text_of-append (p ∷ r ∷ ps) qs =
    ap (λ (t : List ℕ). piece_text p ++ t) (text_of-append (r ∷ ps) qs) ∙ sym (append_assoc (piece_text p) (text_of (r ∷ ps)) (text_of qs))

-- a text of pieces, and one behind it
joined : (a b : List ℕ) (ps qs : List Piece) → a ≡ text_of ps → b ≡ text_of qs → a ++ b ≡ text_of (ps ++ qs)
joined a b ps qs h k = ap (λ (t : List ℕ). t ++ b) h ∙ ap (λ (t : List ℕ). text_of ps ++ t) k ∙ sym (text_of-append ps qs)

each : {X : Type 0} (text : X → List ℕ) (pieces : X → List Piece) → ((x : X) → text x ≡ text_of (pieces x)) → (xs : List X)
    → flat_map text xs ≡ text_of (flat_map pieces xs)
each text pieces h [] = refl
each text pieces h (x ∷ xs) = joined (text x) (flat_map text xs) (pieces x) (flat_map pieces xs) (h x) (each text pieces h xs)

-- several, one behind the other
three : (ps qs rs : List Piece) → text_of ps ++ text_of qs ++ text_of rs ≡ text_of (ps ++ qs ++ rs)
three ps qs rs = joined (text_of ps ++ text_of qs) (text_of rs) (ps ++ qs) rs (sym (text_of-append ps qs)) refl

four : (ps qs rs ss : List Piece) → text_of ps ++ text_of qs ++ text_of rs ++ text_of ss ≡ text_of (ps ++ qs ++ rs ++ ss)
four ps qs rs ss = joined (text_of ps ++ text_of qs ++ text_of rs) (text_of ss) (ps ++ qs ++ rs) ss (three ps qs rs) refl

five : (ps qs rs ss us : List Piece) → text_of ps ++ text_of qs ++ text_of rs ++ text_of ss ++ text_of us ≡ text_of (ps ++ qs ++ rs ++ ss ++ us)
five ps qs rs ss us = joined (text_of ps ++ text_of qs ++ text_of rs ++ text_of ss) (text_of us) (ps ++ qs ++ rs ++ ss) us (four ps qs rs ss) refl

lane_is : (rows : ℕ) (l : Lane) → lane_text rows l ≡ text_of (lane_pieces rows l)
lane_is rows l =
    let line : List Piece = line_pieces rows l.pid in
    let name : List Piece = name_pieces l.pid l.name in
    let pid : List Piece = pid_pieces l.pid in
    joined (line_text rows l.pid ++ name_text l.pid l.name ++ pid_text l.pid) (state_text rows l.pid l.state) (line ++ name ++ pid) (state_pieces rows l.pid l.state)
    (joined (line_text rows l.pid ++ name_text l.pid l.name) (pid_text l.pid) (line ++ name) pid
    (joined (line_text rows l.pid) (name_text l.pid l.name) line name refl (four (title_pieces l.name) (name_front l.pid) (short lane_bytes l.name) end_pieces)) refl)
    (four (title_pieces l.state) (state_front rows l.pid) (short lane_bytes l.state) end_pieces)

mark_is : (m : Mark) → mark_text m ≡ text_of (mark_pieces m)
mark_is m =
    joined (event_title m ++ sign_text m) (label_text m) (event_title_pieces m ++ sign_pieces m) (label_pieces m) (sym (text_of-append (event_title_pieces m) (sign_pieces m)))
    (three (label_front m) (short event_bytes m.text) end_pieces)

arrow_is : (a : Arrow) → arrow_text a ≡ text_of (arrow_pieces a)
arrow_is a = four (about_pieces a) (start_pieces a) (way_pieces a) (word_pieces a)

stub_is : (s : Stub) → stub_text s ≡ text_of (stub_pieces s)
stub_is s = five (queued_title_pieces s.text) (stub_start_pieces s) (stub_way_pieces s) (whom_at_pieces s) (whom_pieces s)

pub chart_is : (c : Chart) → chart_text c ≡ text_of (chart_pieces c)
chart_is c =
    let head : List ℕ = head_text c.count c.rows in
    let rows : List ℕ = flat_map row_text c.marks in
    let lanes : List ℕ = flat_map (lane_text c.rows) c.lanes in
    let arrows : List ℕ = flat_map arrow_text c.arrows in
    let stubs : List ℕ = flat_map stub_text c.stubs in
    let marks : List ℕ = flat_map mark_text c.marks in
    let of_head : List Piece = head_pieces c.count c.rows in
    let of_rows : List Piece = flat_map row_pieces c.marks in
    let of_lanes : List Piece = flat_map (lane_pieces c.rows) c.lanes in
    let of_arrows : List Piece = flat_map arrow_pieces c.arrows in
    let of_stubs : List Piece = flat_map stub_pieces c.stubs in
    let of_marks : List Piece = flat_map mark_pieces c.marks in
    joined (head ++ rows ++ lanes ++ arrows ++ stubs ++ marks) (foot_text c.rows) (of_head ++ of_rows ++ of_lanes ++ of_arrows ++ of_stubs ++ of_marks) (foot_pieces c.rows)
    (joined (head ++ rows ++ lanes ++ arrows ++ stubs) marks (of_head ++ of_rows ++ of_lanes ++ of_arrows ++ of_stubs) of_marks
    (joined (head ++ rows ++ lanes ++ arrows) stubs (of_head ++ of_rows ++ of_lanes ++ of_arrows) of_stubs
    (joined (head ++ rows ++ lanes) arrows (of_head ++ of_rows ++ of_lanes) of_arrows
    (joined (head ++ rows) lanes (of_head ++ of_rows) of_lanes
    (joined head rows of_head of_rows refl (each row_text row_pieces (λ m. refl) c.marks))
    (each (lane_text c.rows) (lane_pieces c.rows) (lane_is c.rows) c.lanes))
    (each arrow_text arrow_pieces arrow_is c.arrows))
    (each stub_text stub_pieces stub_is c.stubs))
    (each mark_text mark_pieces mark_is c.marks))
    refl
