use Rattle.std.proofs.Common.{◌≡◌, List, [], ◌∷◌, ◌++◌, map, ap, sym, subst, ◌∙◌, append_assoc, rules}
use Rattle.std.specs.Prelude.{All}
use Rattle.std.proofs.lemmas.List.{map-append}
use Rattle.std.proofs.lemmas.List.Elements.{All-push}
use Rattle.sig_record.specs.EndText.{ends_text}
use Rattle.sig_record.specs.StoredEnds.{AreStoredEnds}
use Rattle.sig_record.specs.declared.report.Report.{Report}
use Rattle.sig_view.specs.declared.ordering.Listed.{Listed}
use Rattle.sig_view.proofs.ordering.with_texts.Goals as goal

pub loop-ending-preserved : goal.loop-ending-preserved
loop-ending-preserved c =
    let old : List Listed = c.loop-ending.listed.items in
    let one : Listed = c.in_ok-with_text.field-0 in
    let more : c.push.new.self.items ≡ old ++ one ∷ [] = search rules in
    record {
      those = ap (map (λ (x : Listed). x.ending)) more ∙ map-append (λ (x : Listed). x.ending) old (one ∷ [])
          ∙ ap (λ (es : List (List Report)). es ++ one.ending ∷ []) c.loop-ending.invariant.those ∙ ap (λ (e : List Report). c.loop-ending.yielded ++ e ∷ []) c.in_ok-with_text.ensures.text.0;
      texts = subst (All (λ (x : Listed). x.text.items ≡ ends_text x.ending)) (sym more)
          (All-push (λ (x : Listed). x.text.items ≡ ends_text x.ending) old one c.loop-ending.invariant.texts
          (c.in_ok-with_text.ensures.text.1 ∙ ap ends_text (sym c.in_ok-with_text.ensures.text.0)));
      stored = subst (All (λ (x : Listed). AreStoredEnds x.ending)) (sym more)
          (All-push (λ (x : Listed). AreStoredEnds x.ending) old one c.loop-ending.invariant.stored (subst AreStoredEnds (sym c.in_ok-with_text.ensures.text.0) c.in_ok-with_text.ensures.stored));
      whole = append_assoc c.loop-ending.yielded (c.in-Some.ending ∷ []) _ ∙ ap (λ (es : List (List Report)). c.loop-ending.yielded ++ es) (sym (c.in-Some.ensures.steps).0)
          ∙ c.loop-ending.invariant.whole;
    }
