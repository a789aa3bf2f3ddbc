use Rattle.std.proofs.Common.{ℕ, List, ◌++◌, ap, ◌∙◌, refl}
use Rattle.std.specs.Prelude.{codes, decimal}
use Rattle.sig_record.specs.RecordText.{head_text}
use Rattle.sig_record.proofs.Fronts.{put_again, put_behind}
use Rattle.sig_record.proofs.printing.put_head.Goals as goal

pub returns-clause-text : goal.returns-clause-text
returns-clause-text c =
    let old : List ℕ = c.args.into.now.items in
    let spaced : List ℕ = c.put_byte.new.into.items in
    let now : List ℕ = c.put.new.into.items in
    let pid : List ℕ = codes "process " ++ decimal c.args.pid.0 in
    let name : List ℕ = c.args.name.now in
    put_behind c.put_byte-2.result old now c.put_byte-2.new.into.items (pid ++ codes " " ++ name) (codes "\n") (head_text c.args.pid.0 name)
    (c.in_ok-put.ensures.0 ∙ ap (λ (bytes : List ℕ). spaced ++ bytes) c.bytes.ensures.bytes
    ∙ put_again old c.put_pid.new.into.items spaced pid (codes " ") name c.in_ok-put_pid.ensures.text.0 c.in_ok-put_byte.ensures.0)
    c.put_byte-2.ensures refl
