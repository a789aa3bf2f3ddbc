use Rattle.std.proofs.Common.{◌≡◌, ◌∙◌, ◌+◌, ◌-◌, ◌++◌, ℕ, List, length, replicate, ap, arith}
use Rattle.sig_layout.specs.Runs.{listed}
use Rattle.sig_layout.proofs.Numbering.{ones_within, listed_ones, padded_len}
use Rattle.sig_layout.proofs.numbers.Numbers.pad.Goals as goal

pub overflow_add-self : goal.overflow_add-self
overflow_add-self c =
    let within = ones_within c.self.inside.runs.items c.self.inside.ones in
    let same : c.self.inside.len ≡ length c.args.self.now = c.self.invariant.0 ∙ ap (λ (z : List ℕ). length z) c.self.view_is in
    omega (arith, within, c.self.invariant.0, same, c.requires, c.ranges.len.fits)

pub invariant_of-self : goal.invariant_of-self
invariant_of-self c =
    let same : c.self.inside.len ≡ length c.args.self.now = c.self.invariant.0 ∙ ap (λ (z : List ℕ). length z) c.self.view_is in
    let more : ℕ = c.args.len - c.self.inside.len in
    let is : listed c.self.inside.runs.items (c.self.inside.ones + more) ≡ c.args.self.now ++ replicate (c.args.len - length c.args.self.now) 1 =
    listed_ones c.self.inside.runs.items c.self.inside.ones more ∙ ap (λ (z : List ℕ). z ++ replicate more 1) c.self.view_is
    ∙ ap (λ (k : ℕ). c.args.self.now ++ replicate (c.args.len - k) 1) same in
    (padded_len c.args.self.now _ c.self.inside.len c.args.len is same c.requires, c.self.invariant.1)

pub returns : goal.returns
returns c =
    let same : c.self.inside.len ≡ length c.args.self.now = c.self.invariant.0 ∙ ap (λ (z : List ℕ). length z) c.self.view_is in
    let more : ℕ = c.args.len - c.self.inside.len in
    listed_ones c.self.inside.runs.items c.self.inside.ones more ∙ ap (λ (z : List ℕ). z ++ replicate more 1) c.self.view_is
    ∙ ap (λ (k : ℕ). c.args.self.now ++ replicate (c.args.len - k) 1) same
