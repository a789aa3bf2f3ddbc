-- Lines that lead from what was read so far to what was read with them.
use Rattle.std.proofs.Common.{◌≡◌, ℕ, ◌+◌, List, [], ◌∷◌, ◌++◌, Option, Some, Result, Ok, refl, sym, ◌∙◌, ap, subst, append_assoc}
use Rattle.sig_tokens.specs.declared.fault.FaultKind.{FaultKind}
use Rattle.sig_tokens.specs.declared.known.Known.{Known}
use Rattle.sig_reader.specs.declared.draft.Draft.{Draft}
use Rattle.sig_reader.specs.declared.form.Form.{Form}
use Rattle.sig_tokens.specs.Faults.{◌>>=◌}
use Rattle.sig_reader.specs.Forms.{said}
use Rattle.sig_reader.specs.Drafts.{taken}
use Rattle.sig_reader.specs.Grammar.{taken_if, line_taken, body}

-- the lines behind these are read behind e
pub record Leads (known : Known) (d : Draft) (lines : List (List ℕ)) (e : Draft) : Type 0 where
  pub number : ℕ → ℕ
  pub goes_on : (n : ℕ) (rest : List (List ℕ)) → body known n d (lines ++ rest) ≡ body known (number n) e rest

pub no_lines : (known : Known) (d : Draft) → Leads known d [] d
no_lines known d = record { number = λ n. n; goes_on = λ n rest. refl }

taken-step : (known : Known) (n : ℕ) (d e : Draft) (line : List ℕ) (rest : List (List ℕ)) → line_taken known d line ≡ Ok e → body known n d (line ∷ rest) ≡ body known (n + 1) e rest
unfolding body
taken-step known n d e line rest taken = rw taken refl

one_taken : (known : Known) (d e : Draft) (line : List ℕ) → line_taken known d line ≡ Ok e → Leads known d (line ∷ []) e
one_taken known d e line taken = record { number = λ n. n + 1; goes_on = λ n rest. taken-step known n d e line rest taken }

-- a line that says a form which is taken
pub one_line : (known : Known) (d e : Draft) (line : List ℕ) (f : Form) → said known d line ≡ Ok (Some f) → taken d f ≡ Ok e → Leads known d (line ∷ []) e
one_line known d e line f says takes = one_taken known d e line (ap (λ (r : Result (Option Form) FaultKind). r >>= taken_if d) says ∙ takes)

pub lines_joined : (known : Known) (d e g : Draft) (before after : List (List ℕ)) → Leads known d before e → Leads known e after g → Leads known d (before ++ after) g
lines_joined known d e g before after h k = record {
  number = λ n. k.number (h.number n);
  goes_on = λ n rest. ap (body known n d) (append_assoc before after rest) ∙ h.goes_on n (after ++ rest) ∙ k.goes_on (h.number n) rest;
}

pub same_lines : (known : Known) (d e : Draft) (lines others : List (List ℕ)) → lines ≡ others → Leads known d others e → Leads known d lines e
same_lines known d e lines others is h = subst (λ (ls : List (List ℕ)). Leads known d ls e) (sym is) h

pub same_end : (known : Known) (d e g : Draft) (lines : List (List ℕ)) → e ≡ g → Leads known d lines e → Leads known d lines g
same_end known d e g lines is h = subst (λ (x : Draft). Leads known d lines x) is h

pub one_more : (known : Known) (d e g : Draft) (line : List ℕ) (lines : List (List ℕ)) → Leads known d (line ∷ []) e → Leads known e lines g → Leads known d (line ∷ lines) g
one_more known d e g line lines h k = lines_joined known d e g (line ∷ []) lines h k
