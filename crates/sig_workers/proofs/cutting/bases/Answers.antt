use Rattle.std.proofs.Common.{◌≡◌, ◌+◌, [], ◌∷◌, List, All, length, sym, ap, ◌∙◌, subst, length-append}
use Rattle.std.proofs.lemmas.List.Elements.{All-push}
use Rattle.sig_workers.specs.declared.part.Base.{Base}
use Rattle.sig_workers.proofs.cutting.bases.Goals as goal

pub loop-at-preserved : goal.loop-at-preserved
loop-at-preserved c =
    let inv = c.loop-at.invariant in
    record {
      many = ap (λ (z : List Base). length z) c.in_ok-push.ensures.items ∙ length-append c.loop-at.all.items (c.keep_base.result ∷ []) ∙ ap (λ z. z + 1) inv.many;
      all = subst (All (λ (b : Base). b.crew.value.items ≡ c.args.procs.now.items)) (sym c.in_ok-push.ensures.items)
          (All-push (λ (b : Base). b.crew.value.items ≡ c.args.procs.now.items) c.loop-at.all.items c.keep_base.result inv.all c.keep_base.ensures);
    }
