use Rattle.std.proofs.Common.{rules, arith, ◌<◌, ◌^◌, ◌≡◌, ◌++◌, ◌∷◌, [], length, ap, sym, ◌∙◌, List}
use Rattle.sig_layout.specs.declared.entry.Entry.{Entry}
use Rattle.sig_layout.specs.declared.entry.Entry.TheVariants.{Direct, Install}
use Rattle.sig_layout.specs.declared.summary.Summary.{Summary}
use Rattle.sig_layout.specs.declared.decision.Due.TheVariants as due
use Rattle.sig_layout.specs.Summaries.{summed, due_of, due_at, is_install}
use Rattle.sig_layout.proofs.Summing.{small, goes_on, summed_more}
use Rattle.sig_layout.proofs.journal.Journal.add_put.Goals as goal

pub after-summary-requires : goal.after-summary-requires
after-summary-requires c = let l = c.len.ensures in let t = c.if-len-ge-MOST_ENTRIES.false in let short : length c.self.inside.entries.items < 2 ^ 62 = omega arith in small _ _ c.self.inside.is_summed short

pub invariant_of-self-inside-2 : goal.invariant_of-self-inside-2
invariant_of-self-inside-2 c = let before : List Entry = c.self.inside.entries.items in let items : c.push_reserved.new.self.items ≡ before ++ Direct c.args.refused ∷ [] = search rules in
    (goes_on c.self.inside.summary c.after-summary.result before (Direct c.args.refused) c.self.inside.is_summed c.after-summary.ensures ∙ ap summed (sym items), tt)

pub invariant_of-self-inside-in-Install : goal.invariant_of-self-inside-in-Install
invariant_of-self-inside-in-Install c = let items : c.push_reserved-in-Install.new.self.items ≡ c.push_reserved.new.self.items ++ Install ∷ [] = search rules in
    (c.fresh-self-inside.ensures ∙ (sym (summed_more c.push_reserved.new.self.items Install) ∙ ap summed (sym items)), tt)

pub returns-in-Install-clause-due : goal.returns-in-Install-clause-due
returns-in-Install-clause-due c = let before : List Entry = c.self.inside.entries.items in let s = goes_on c.self.inside.summary c.after-summary.result before (Direct c.args.refused) c.self.inside.is_summed c.after-summary.ensures in
    let view : c.args.self.now ≡ before = search rules in
    let d : due_of c.args.policy c.after-summary.result ≡ due.Install = search rules in
    sym (ap (λ (j : List Entry). is_install (due_at c.args.policy (j ++ Direct c.args.refused ∷ []))) view ∙ (ap (λ (z : Summary). is_install (due_of c.args.policy z)) (sym s) ∙ ap is_install d))
