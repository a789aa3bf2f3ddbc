use Rattle.std.proofs.Common.{◌≡◌, ◌+◌, ◌*◌, ◌-◌, ◌≤◌, List, [], length}
use Rattle.sig_patterns.specs.declared.expression.Expr.{Expr}
use Rattle.sig_tokens.specs.declared.known.Known.TheVariants.{Any}
use Rattle.sig_tokens.specs.Expressions.{expr_spelling}
use Rattle.sig_tokens.specs.Phrases.{elements, ending, phrase_at}
use Rattle.sig_tokens.proofs.skipping.+skip.Given as goal

-- what is left goes on from some elements so far
abbrev pub invariant-skip_elements-loop : goal.invariant-skip_elements-loop
invariant-skip_elements-loop l =
    let read = phrase_at expr_spelling Any l.line l.depth in
    record {
      within : length l.rest ≤ length l.tokens;
      whole : (items : List Expr) × (elements read (ending expr_spelling l.close read) (length l.tokens - l.counter) l.left items l.rest
          ≡ elements read (ending expr_spelling l.close read) (length l.tokens) l.nodes [] l.tokens);
    }

abbrev pub decreases-skip : goal.decreases-skip
decreases-skip l = 3 * l.depth

abbrev pub decreases-skip_elements : goal.decreases-skip_elements
decreases-skip_elements l = 3 * l.depth + 1

abbrev pub decreases-skip_bracket : goal.decreases-skip_bracket
decreases-skip_bracket l = 3 * l.depth + 2
