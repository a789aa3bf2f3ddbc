use Rattle.std.proofs.Common.{◌≡◌, ℕ, List, Some, None, sym, ◌∙◌, ap}
use Rattle.sig_tokens.specs.Lines.{lines_of}
use Rattle.sig_reader.specs.Grammar.{walk_twice, script_of_lines}
use Rattle.sig_reader.proofs.ReaderLemmas.{no_line, behind_header}
use Rattle.sig_reader.proofs.reader.read_text.Goals as goal

pub returns-then-is_empty : goal.returns-then-is_empty
returns-then-is_empty c = no_line c.args.bytes.now (sym c.if-is_empty.ensures)

pub returns-in-Some : goal.returns-in-Some
returns-in-Some c =
    let rest : script_of_lines (lines_of c.args.bytes.now) ≡ walk_twice c.in-Some.version (lines_of c.behind_line.result.now) =
    behind_header c.args.bytes.now c.first_line-first.result.now (Some c.in-Some.version) (sym c.if-is_empty.ensures) c.first_line-first.ensures.line (sym c.in-Some.is ∙ c.in_ok-version.ensures)
    ∙ ap (λ (xs : List ℕ). walk_twice c.in-Some.version (lines_of xs)) (sym c.behind_line.ensures) in
    rw rest c.read_body.ensures

pub returns-in-None : goal.returns-in-None
returns-in-None c =
    behind_header c.args.bytes.now c.first_line-first.result.now None (sym c.if-is_empty.ensures) c.first_line-first.ensures.line (sym c.in-None.is ∙ c.in_ok-version.ensures)
