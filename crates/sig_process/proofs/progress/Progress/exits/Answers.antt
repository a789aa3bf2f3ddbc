use Rattle.std.proofs.Common.{◌≡◌, ◌++◌, ◌∷◌, [], Some, List, ℕ, map, sym, ap, ◌∙◌}
use Rattle.sig_model.specs.ProcessState.{exits_to}
use Rattle.sig_kinds.specs.LinkRules.{active_after}
use Rattle.sig_process.specs.declared.plan.Outgoing.{Outgoing}
use Rattle.sig_process.specs.Plans.{post_of}
use Rattle.sig_process.specs.Progressing.{state_of}
use Rattle.sig_process.proofs.ExitLemmas.{all_told, others, one_told, told_not, told_too}
use Rattle.sig_process.proofs.progress.Progress.exits.Goals as goal

pub returns : goal.returns
returns c = all_told (state_of c.args.self.now) c.args.obeyed _ c.args.reason.now _ c.in_default.ensures.next c.loop-peer.invariant

pub loop-peer-preserved : goal.loop-peer-preserved
loop-peer-preserved c =
    let links = c.args.self.now.tables.links.links in
    let rest : List ℕ = active_after links (Some c.in-Some.peer) in
    ap (λ (peers : List ℕ). map post_of c.loop-peer.exits.items ++ exits_to peers c.args.reason.now)
    (sym (ap (others c.args.obeyed) c.in-Some.ensures.next ∙ told_not c.args.obeyed c.in-Some.peer rest (sym c.ne.ensures ∙ c.if-ne.false)))
    ∙ c.loop-peer.invariant

pub loop-peer-preserved-in_ok-push : goal.loop-peer-preserved-in_ok-push
loop-peer-preserved-in_ok-push c =
    let links = c.args.self.now.tables.links.links in
    let before = c.loop-peer.exits.items in
    let rest : List ℕ = active_after links (Some c.in-Some.peer) in
    let told : others c.args.obeyed (c.in-Some.peer.0 ∷ rest) ≡ c.in-Some.peer.0 ∷ others c.args.obeyed rest = told_too c.args.obeyed c.in-Some.peer rest (sym c.ne.ensures ∙ c.if-ne.true) in
    ap (λ (posts : List Outgoing). map post_of posts ++ exits_to (others c.args.obeyed rest) c.args.reason.now)
    (c.in_ok-push.ensures.items ∙ ap (λ (exit : Outgoing). before ++ exit ∷ []) c.in_ok-exit.ensures)
    ∙ one_told c.in-Some.peer rest c.args.reason.now before c.args.obeyed told
    ∙ ap (λ (peers : List ℕ). map post_of before ++ exits_to (others c.args.obeyed peers) c.args.reason.now) (sym c.in-Some.ensures.next)
    ∙ c.loop-peer.invariant
