use Rattle.std.proofs.Common.{◌≡◌, ◌-◌, get_or, Some, refl, arith}
use Rattle.std.specs.Prelude.{slice_get}
use Rattle.std.proofs.lemmas.Option.{slice_get-get_or}
use Rattle.sig_tokens.specs.declared.token.Token.{Token}
use Rattle.sig_tokens.specs.declared.token.TokenKind.TheVariants.{Name}
use Rattle.sig_call.proofs.CallLineLemmas.{begins_before, ends_within}
use Rattle.sig_call.proofs.call_line.spanned.Goals as goal

pub slice_bounds-result-count : goal.slice_bounds-result-count
slice_bounds-result-count c =
    begins_before c.args.line.now c.args.tokens.now c.args.first (c.args.last - 1) _ c.requires.known c.requires.rising
    (omega (arith, c.requires.within.0)) (omega (arith, c.requires.within.0, c.requires.within.1))

pub slice_bounds-result-start : goal.slice_bounds-result-start
slice_bounds-result-start c =
    begins_before c.args.line.now c.args.tokens.now c.args.first (c.args.last - 1) _ c.requires.known c.requires.rising
    (omega (arith, c.requires.within.0)) (omega (arith, c.requires.within.0, c.requires.within.1))

pub slice_bounds-result-end : goal.slice_bounds-result-end
slice_bounds-result-end c =
    ends_within c.args.line.now c.args.tokens.now (c.args.last - 1) _ c.requires.known (omega (arith, c.requires.within.0, c.requires.within.1))

pub returns : goal.returns
returns c =
    let none : Token = record { kind = Name; start = 0; end = 0 } in
    let first : slice_get c.args.tokens.now c.args.first ≡ Some (get_or c.args.tokens.now c.args.first none) =
    slice_get-get_or c.args.tokens.now c.args.first none (omega (arith, c.requires.within.0, c.requires.within.1)) in
    let last : slice_get c.args.tokens.now (c.args.last - 1) ≡ Some (get_or c.args.tokens.now (c.args.last - 1) none) =
    slice_get-get_or c.args.tokens.now (c.args.last - 1) none (omega (arith, c.requires.within.0, c.requires.within.1)) in
    rw (first, last) refl
