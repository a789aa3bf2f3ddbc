use Rattle.std.proofs.Common.{◌<◌, ◌-◌, List, map, length, take, drop, ap, ◌∙◌, rules}
use Rattle.sig_terms.specs.declared.term.Term.{Term}
use Rattle.sig_terms.specs.TermText.{term_text, after_comma, joined}
use Rattle.sig_terms.proofs.KeptFronts.{front_on, behind, kept_behind, kept_put, lost_behind}
use Rattle.sig_terms.proofs.JoinedTexts.{text_begins, text_goes_on, text_ends, text_between, terms_begin, terms_go_on, terms_end}
use Rattle.sig_terms.proofs.term.+append.Goals as goal

pub append_next-returns-clause-front : goal.append_next-returns-clause-front
append_next-returns-clause-front t c =
    lost_behind c.append.result c.args.into.now.items c.push.new.self.items c.append.new.into.items _ c.in_ok-push.ensures.items c.append.ensures.front

pub append_all-loop-item-init : goal.append_all-loop-item-init
append_all-loop-item-init t c =
    let put = c.in_ok-append-in-len1-up.ensures in (
      text_begins c.args.into.now.items c.append.new.into.items c.args.items.now c.first-item.result c.in-len1-up.len_at_least c.first-item.is put.text,
      kept_put c.args.into.now.items c.append.new.into.items _ put.text,
      terms_begin c.args.items.now c.first-item.result c.in-len1-up.len_at_least c.first-item.is put.term,
    )

pub append_all-loop-item-preserved : goal.append_all-loop-item-preserved
append_all-loop-item-preserved t c =
    let rest : List Term = take (length c.args.items.now - 1) (drop 1 c.args.items.now) in
    let put = c.in_ok-append_next-in-len1-up.ensures in
    let within : c.loop-item.item-index < length rest = c.loop-item-test.true in
    let text = after_comma (term_text c.item-item.result) in (
      text_goes_on c.loop-item.into.items c.append_next.new.into.items _ rest c.loop-item.item-index c.item-item.result within c.item-item.is put.text c.loop-item.invariant.0,
      kept_behind c.args.into.now.items c.loop-item.into.items c.append_next.new.into.items text c.loop-item.invariant.1 put.text,
      terms_go_on _ rest c.loop-item.item-index c.item-item.result within c.item-item.is put.term c.loop-item.invariant.2,
    )

pub append_all-returns-in_err-append_next-in-len1-up-clause-front : goal.append_all-returns-in_err-append_next-in-len1-up-clause-front
append_all-returns-in_err-append_next-in-len1-up-clause-front t c =
    let kept = front_on c.args.into.now.items c.loop-item.into.items c.append_next.new.into.items c.loop-item.invariant.1 c.in_err-append_next-in-len1-up.ensures.front in
    search (rules, kept)

pub append_all-returns-after-loop-item-clause-text : goal.append_all-returns-after-loop-item-clause-text
append_all-returns-after-loop-item-clause-text t c =
    let rest : List Term = take (length c.args.items.now - 1) (drop 1 c.args.items.now) in
    text_ends c.loop-item.into.items _ rest c.loop-item.item-index c.loop-item-test.false c.loop-item.invariant.0

pub append_all-returns-after-loop-item-clause-terms : goal.append_all-returns-after-loop-item-clause-terms
append_all-returns-after-loop-item-clause-terms t c =
    let rest : List Term = take (length c.args.items.now - 1) (drop 1 c.args.items.now) in
    terms_end _ rest c.loop-item.item-index c.loop-item-test.false c.loop-item.invariant.2

pub append_between-returns-in_err-append_all-clause-front : goal.append_between-returns-in_err-append_all-clause-front
append_between-returns-in_err-append_all-clause-front t c =
    let kept = behind c.args.into.now.items c.push.new.self.items c.append_all.new.into.items _ c.in_ok-push.ensures.items c.in_err-append_all.ensures.front in
    search (rules, kept)

pub append_between-returns-in_err-push-2-clause-front : goal.append_between-returns-in_err-push-2-clause-front
append_between-returns-in_err-push-2-clause-front t c =
    let opened = kept_put c.args.into.now.items c.push.new.self.items _ c.in_ok-push.ensures.items in
    let whole = kept_behind c.args.into.now.items c.push.new.self.items c.append_all.new.into.items _ opened c.in_ok-append_all.ensures.text in
    let kept = ap (take (length c.args.into.now.items)) c.in_err-push-2.ensures.items ∙ whole in
    search (rules, kept)

pub append_between-returns-clause-text : goal.append_between-returns-clause-text
append_between-returns-clause-text t c =
    text_between c.args.into.now.items c.push.new.self.items c.append_all.new.into.items c.push-2.new.self.items (joined (map term_text c.args.items.now)) c.args.opening c.args.closing c.in_ok-push.ensures.items c.in_ok-append_all.ensures.text c.in_ok-push-2.ensures.items
