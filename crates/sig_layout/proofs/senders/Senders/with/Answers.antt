use Rattle.std.proofs.Common.{◌≡◌, rules, ap, ◌∙◌, ◌||◌, ◌==◌, List, ℕ, length}
use Rattle.sig_layout.specs.Sets.{has}
use Rattle.sig_layout.proofs.Members.{has_with}
use Rattle.sig_layout.proofs.senders.Senders.with.Goals as goal

pub returns : goal.returns
returns c s = let view : c.self.inside.0 ≡ c.args.self = search rules in let four : length c.self.inside.0 ≡ 4 = search rules in
    has_with c.self.inside.0 c.args.pid.0 s four c.requires ∙ ap (λ (z : List ℕ). has z s || (s == c.args.pid.0)) view
