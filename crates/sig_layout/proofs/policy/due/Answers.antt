use Rattle.std.proofs.Common.{ap, sym, ◌∙◌}
use Rattle.sig_layout.specs.declared.policy.Policy.{Policy}
use Rattle.sig_layout.specs.Policies.{ruled}
use Rattle.sig_layout.specs.Summaries.{due_at}
use Rattle.sig_layout.proofs.Wording.{due_so}
use Rattle.sig_layout.proofs.policy.due.Goals as goal

pub returns-clause-table : goal.returns-clause-table
returns-clause-table c = let j = c.args.journal.now in
    due_so (ruled c.args.policy c.args.queue_data) j c.due.result (sym (c.due.ensures ∙ ap (λ (p : Policy). due_at p j) c.ruled.ensures))

pub returns-clause-on_heap : goal.returns-clause-on_heap
returns-clause-on_heap c = λ h. c.due.ensures ∙ ap (λ (p : Policy). due_at p c.args.journal.now) (c.ruled.ensures ∙ ap (ruled c.args.policy) h)

pub returns-clause-same : goal.returns-clause-same
returns-clause-same c = c.due.ensures ∙ ap (λ (p : Policy). due_at p c.args.journal.now) c.ruled.ensures
