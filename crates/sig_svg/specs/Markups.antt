-- The texts of an SVG that don't depend on what is drawn (Scalable Vector Graphics 1.1).
use Rattle.std.specs.Prelude.{ℕ, List, ◌++◌, codes}
use Rattle.sig_svg.specs.declared.sort.Sort.{Sort}
use Rattle.sig_svg.specs.declared.sort.Sort.TheVariants as sort
use Rattle.sig_svg.specs.declared.markup.Markup.{Markup}
use Rattle.sig_svg.specs.declared.markup.Markup.TheVariants as markup

-- the class of an arrow, by which its stroke is chosen
abbrev pub class_of : Sort → List ℕ
class_of sort.Message = codes "message"
class_of sort.Alias = codes "alias"
class_of sort.Link = codes "link"
class_of sort.Unlink = codes "unlink"
class_of sort.Ack = codes "unlink_ack"
class_of sort.Monitor = codes "monitor"
class_of sort.Demonitor = codes "demonitor"
class_of sort.Exit = codes "exit"
class_of sort.Down = codes "down"
class_of sort.ExitOrDown = codes "either"

-- the word beside an arrow: none beside that of a message
abbrev pub word_of : Sort → List ℕ
word_of sort.Message = codes ""
word_of sort.Alias = codes "alias"
word_of sort.Link = codes "link"
word_of sort.Unlink = codes "unlink"
word_of sort.Ack = codes "ack"
word_of sort.Monitor = codes "monitor"
word_of sort.Demonitor = codes "demonitor"
word_of sort.Exit = codes "exit"
word_of sort.Down = codes "down"
word_of sort.ExitOrDown = codes "exit or down"

-- the styles and the signs: what stands before the first shape
unfoldable pub svg_head : List ℕ
svg_head =
    codes "'>\n<style>text{font:11px monospace;fill:#000;stroke:none}.label{paint-order:stroke;stroke:#fff;"
    ++ codes "stroke-width:4px;stroke-linejoin:round}.name{font:bold 12px monospace;text-anchor:middle}"
    ++ codes ".middle{text-anchor:middle}.word{font:italic 10px sans-serif;text-anchor:end;paint-order:stroke;"
    ++ codes "stroke:#fff;stroke-width:4px}.stamp{fill:#555}.lane{stroke:#888;stroke-width:1.5}.row{stroke:#e4e4e4}"
    ++ codes "path{fill:none;stroke:#000;stroke-width:1.2;marker-end:url(#head)}.link{stroke-dasharray:9 3}"
    ++ codes ".unlink{stroke-dasharray:9 3 2 3}.unlink_ack{stroke-dasharray:9 3 2 3 2 3}.monitor{stroke-dasharray:2 3}"
    ++ codes ".demonitor{stroke-dasharray:2 3 2 9}.alias,.exit,.down,.either{stroke-width:2.6}.exit{stroke-dasharray:9 3}"
    ++ codes ".down{stroke-dasharray:2 3}.either{stroke-dasharray:9 3 2 3}.queued{marker-end:url(#end)}"
    ++ codes "</style>\n<defs>"
    ++ codes "<marker id='head' markerUnits='userSpaceOnUse' markerWidth='12' markerHeight='10' refX='16' refY='5' orient='auto'>"
    ++ codes "<polygon points='0,1 10,5 0,9'/></marker>"
    ++ codes "<marker id='end' markerUnits='userSpaceOnUse' markerWidth='10' markerHeight='10' refX='5' refY='5'>"
    ++ codes "<circle cx='5' cy='5' r='3.5' fill='#fff' stroke='#000'/></marker><circle id='executed' r='5'/>"
    ++ codes "<rect id='handled' x='-5' y='-5' width='10' height='10' fill='#fff' stroke='#000' stroke-width='2'/>"
    ++ codes "</defs>\n<rect width='100%' height='100%' fill='#fff'/>\n"

-- the legend
unfoldable pub legend : List ℕ
legend =
    codes ")'>\n"
    ++ codes "<path class='message' d='M0 10H90'/><use href='#handled' x='90' y='10'/><text x='105' y='14'>a message</text>\n"
    ++ codes "<path class='alias' d='M0 28H90'/><use href='#handled' x='90' y='28'/><text x='105' y='32'>"
    ++ codes "a message through an alias</text>\n"
    ++ codes "<path class='link' d='M0 46H90'/><use href='#handled' x='90' y='46'/><text x='105' y='50'>link</text>\n"
    ++ codes "<path class='unlink' d='M0 64H90'/><use href='#handled' x='90' y='64'/><text x='105' y='68'>unlink</text>\n"
    ++ codes "<path class='unlink_ack' d='M0 82H90'/><use href='#handled' x='90' y='82'/><text x='105' y='86'>"
    ++ codes "the acknowledgement of an unlink</text>\n"
    ++ codes "<path class='monitor' d='M0 100H90'/><use href='#handled' x='90' y='100'/><text x='105' y='104'>monitor</text>\n"
    ++ codes "<path class='demonitor' d='M0 118H90'/><use href='#handled' x='90' y='118'/><text x='105' y='122'>demonitor</text>\n"
    ++ codes "<path class='exit' d='M0 136H90'/><use href='#handled' x='90' y='136'/><text x='105' y='140'>exit signal</text>\n"
    ++ codes "<path class='down' d='M0 154H90'/><use href='#handled' x='90' y='154'/><text x='105' y='158'>"
    ++ codes "down: a monitored process has ended</text>\n"
    ++ codes "<path class='either' d='M0 172H90'/><use href='#handled' x='90' y='172'/><text x='105' y='176'>"
    ++ codes "exit signal or down, without effect</text>\n"
    ++ codes "<use href='#executed' x='395' y='10'/><text x='410' y='14'>the process executed an instruction</text>\n"
    ++ codes "<use href='#handled' x='395' y='28'/><text x='410' y='32'>it handled a signal</text>\n"
    ++ codes "<path class='queued' d='M370 46H395'/><text x='410' y='50'>a signal that is still queued</text>\n"
    ++ codes "<text x='390' y='68'>an arrow from above all rows: of an earlier event</text>\n"

-- each text
unfoldable pub markup_text : Markup → List ℕ
markup_text markup.SvgWidth = codes "<svg xmlns='http://www.w3.org/2000/svg' width='"
markup_text markup.SvgHeight = codes "' height='"
markup_text markup.SvgHead = svg_head
markup_text markup.SvgFoot = codes "</g>\n</svg>\n"
markup_text markup.LegendAt = codes "<g transform='translate(20 "
markup_text markup.Legend = legend
markup_text markup.Title = codes "<g><title>"
markup_text markup.QueuedTitle = codes "<g><title>still queued: "
markup_text markup.TitleEnd = codes "</title>\n"
markup_text markup.GroupEnd = codes "</g>\n"
markup_text markup.LaneX = codes "<line class='lane' y1='48' x1='"
markup_text markup.X2 = codes "' x2='"
markup_text markup.Y2 = codes "' y2='"
markup_text markup.RowY = codes "<line class='row' x1='60' x2='100%' y1='"
markup_text markup.Close = codes "'/>\n"
markup_text markup.NameX = codes "<text class='name' y='24' x='"
markup_text markup.PidX = codes "<text class='middle' y='42' x='"
markup_text markup.MiddleX = codes "<text class='middle' x='"
markup_text markup.StampY = codes "<text class='stamp' x='8' y='"
markup_text markup.LabelX = codes "<text class='label' x='"
markup_text markup.WordX = codes "<text class='word' x='"
markup_text markup.Y = codes "' y='"
markup_text markup.Body = codes "'>"
markup_text markup.TextEnd = codes "</text>\n"
markup_text markup.Less = codes "&lt;"
markup_text markup.Greater = codes "&gt;"
markup_text markup.ExecutedX = codes "<use href='#executed' x='"
markup_text markup.HandledX = codes "<use href='#handled' x='"
markup_text markup.ArrowClass = codes "<path class='"
markup_text markup.QueuedClass = codes "<path class='queued "
markup_text markup.From = codes "' d='M"
markup_text markup.Bend = codes " Q"
markup_text markup.Line = codes " L"
markup_text markup.Space = codes " "
markup_text markup.Dots = codes "..."
markup_text markup.Sender = codes " from "
markup_text markup.Receiver = codes " to "
markup_text (markup.Class s) = class_of s
markup_text (markup.Word s) = word_of s
