use Rattle.std.proofs.Common.{◌≡◌, ap, subst}
use Rattle.sig_program.specs.declared.version.Version.{Version}
use Rattle.sig_tokens.specs.Lines.{lines_of}
use Rattle.sig_reader.specs.declared.draft.Draft.{Draft}
use Rattle.sig_reader.specs.Grammar.{walk}
use Rattle.sig_reader.specs.Reading.{IsReading}
use Rattle.sig_reader.proofs.reader.read_lines.Goals as goal

pub returns-in-Ok : goal.returns-in-Ok
returns-in-Ok c =
    let same : c.new-draft.result.version ≡ c.args.version = ap (λ (d : Draft). d.version) c.new-draft.ensures in
    subst (λ (v : Version). IsReading (walk v c.args.known.now (lines_of c.args.bytes.now)) c.finish.result) same (rw c.in-Ok.ensures.walked at c.finish.ensures)
