use Rattle.std.proofs.Common.{rules, arith, ◌<◌, ◌^◌, ◌≡◌, ◌++◌, ◌∷◌, [], length, ap, sym, ◌∙◌, List}
use Rattle.sig_layout.specs.declared.entry.Entry.{Entry}
use Rattle.sig_layout.specs.Summaries.{summed}
use Rattle.sig_layout.proofs.Summing.{small, goes_on}
use Rattle.sig_layout.proofs.journal.Journal.push.Goals as goal

pub after-self-inside-requires : goal.after-self-inside-requires
after-self-inside-requires c = let l = c.len.ensures in let t = c.if-len-ge-MOST_ENTRIES.false in let short : length c.self.inside.entries.items < 2 ^ 62 = omega arith in small _ _ c.self.inside.is_summed short

pub invariant_of-self-inside-2 : goal.invariant_of-self-inside-2
invariant_of-self-inside-2 c = let before : List Entry = c.self.inside.entries.items in let items : c.push_reserved.new.self.items ≡ before ++ c.args.entry ∷ [] = search rules in
    (goes_on c.self.inside.summary c.after-self-inside.result before c.args.entry c.self.inside.is_summed c.after-self-inside.ensures ∙ ap summed (sym items), tt)
