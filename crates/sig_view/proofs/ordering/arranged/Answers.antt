use Rattle.std.proofs.Common.{◌≡◌, List, map, sym, subst}
use Rattle.std.specs.Prelude.{All}
use Rattle.std.specs.List.Sorted.{IsPermutation}
use Rattle.std.proofs.lemmas.List.Elements.{All-map}
use Rattle.std.proofs.lemmas.List.Sorted.{All-permutation, IsPermutation-map}
use Rattle.std.proofs.lemmas.Result.{IfOk-weaker}
use Rattle.sig_record.specs.EndText.{ends_text}
use Rattle.sig_record.specs.StoredEnds.{AreStoredEnds}
use Rattle.sig_view.specs.OutcomeText.{AreEndingsInTextOrder, IsNotBehind}
use Rattle.sig_record.specs.declared.report.Report.{Report}
use Rattle.sig_view.specs.declared.ordering.Listed.{Listed}
use Rattle.sig_view.proofs.OrderLemmas.{elements_ascend}
use Rattle.sig_view.proofs.ordering.arranged.Goals as goal

pub returns-clause-same : goal.returns-clause-same
returns-clause-same c =
    let moved = IsPermutation-map (λ (l : Listed). l.ending) _ _ c.sort.ensures.same in
    let from : IsPermutation c.args.endings.items (map (λ (l : Listed). l.ending) c.sort.new.listed.items) =
    subst (λ (es : List (List Report)). IsPermutation es (map (λ (l : Listed). l.ending) c.sort.new.listed.items)) c.in_ok-listed.ensures.endings moved in
    IfOk-weaker c.endings_of.result _ _ (λ new is. subst (IsPermutation c.args.endings.items) (sym is) from) c.endings_of.ensures

pub returns-clause-ascending : goal.returns-clause-ascending
returns-clause-ascending c =
    let texts : All (λ (l : Listed). l.text.items ≡ ends_text l.ending) c.sort.new.listed.items =
    All-permutation (λ (l : Listed). l.text.items ≡ ends_text l.ending) _ _ c.sort.ensures.same c.in_ok-listed.ensures.texts in
    let ascend = elements_ascend IsNotBehind (λ (l : Listed). l.ending) (λ (l : Listed). l.text.items) ends_text _ texts c.sort.ensures.ascending in
    IfOk-weaker c.endings_of.result _ _ (λ new is. subst AreEndingsInTextOrder (sym is) ascend) c.endings_of.ensures

pub returns-clause-stored : goal.returns-clause-stored
returns-clause-stored c =
    let stored : All (λ (l : Listed). AreStoredEnds l.ending) c.sort.new.listed.items =
    All-permutation (λ (l : Listed). AreStoredEnds l.ending) _ _ c.sort.ensures.same c.in_ok-listed.ensures.stored in
    IfOk-weaker c.endings_of.result _ _ (λ new is. subst (All AreStoredEnds) (sym is) (All-map AreStoredEnds (λ (l : Listed). l.ending) _ stored)) c.endings_of.ensures
