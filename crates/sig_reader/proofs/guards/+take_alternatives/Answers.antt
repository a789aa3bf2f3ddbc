use Rattle.std.proofs.Common.{◌≡◌, ◌∙◌, ◌++◌, ◌∷◌, [], Ok, refl}
use Rattle.sig_reader.proofs.GuardLemmas.{one_value, no_test_left, test_stops, and_on, or_on, ends_on}
use Rattle.sig_reader.proofs.guards.+take_alternatives.Goals as goal

pub returns-then-room-eq0-clause-value : goal.returns-then-room-eq0-clause-value
returns-then-room-eq0-clause-value t c =
    rw c.refusal.ensures (no_test_left c.args.line.now.text c.args.room c.args.done c.args.tests c.args.line.now.tokens c.if-room-eq0.true)

pub returns-in_err-test-clause-value : goal.returns-in_err-test-clause-value
returns-in_err-test-clause-value t c =
    test_stops c.args.line.now.text c.args.room c.args.done c.args.tests c.args.line.now.tokens _ c.from_residual.result c.in_err-test.field-0.0 c.if-room-eq0.false c.from_residual.ensures.1 c.in_err-test.ensures.value

pub returns-in-Some-And-default-clause-value : goal.returns-in-Some-And-default-clause-value
returns-in-Some-And-default-clause-value t c =
    let same : c.in_ok-test.behind.text ≡ c.args.line.now.text = c.in_ok-test.ensures.line in
    let there : c.in-Some-And-default.rest.text ≡ c.args.line.now.text = c.in-Some-And-default.ensures.line ∙ same in
    let made = one_value c.in_ok-tests.tests (c.args.tests ++ c.in_ok-test.test ∷ []) (Ok (c.args.tests ++ c.in_ok-test.test ∷ [])) c.in_ok-tests.ensures refl in
    rw (and_on c.args.line.now.text c.args.room c.args.done c.args.tests c.args.line.now.tokens c.if-room-eq0.false c.in_ok-test.test c.in_ok-test.behind.tokens c.in_ok-test.ensures.value
    c.in_ok-tests.tests made c.in-Some-And-default.field-0-0 c.in-Some-And-default.rest.tokens c.in-Some-And-default.field-0-0-is (rw same at c.in-Some-And-default.ensures.join))
    (rw there at c.take_alternatives.ensures.value)

pub returns-in_ok-done-in-Some-Or-default-clause-value : goal.returns-in_ok-done-in-Some-Or-default-clause-value
returns-in_ok-done-in-Some-Or-default-clause-value t c =
    let same : c.in_ok-test.behind.text ≡ c.args.line.now.text = c.in_ok-test.ensures.line in
    let there : c.in-Some-Or-default.rest.text ≡ c.args.line.now.text = c.in-Some-Or-default.ensures.line ∙ same in
    let made = one_value c.in_ok-tests.tests (c.args.tests ++ c.in_ok-test.test ∷ []) (Ok (c.args.tests ++ c.in_ok-test.test ∷ [])) c.in_ok-tests.ensures refl in
    let added = one_value c.in_ok-done-in-Some-Or-default.done (c.args.done ++ c.in_ok-tests.tests ∷ []) (Ok (c.args.done ++ c.in_ok-tests.tests ∷ [])) c.in_ok-done-in-Some-Or-default.ensures refl in
    rw (or_on c.args.line.now.text c.args.room c.args.done c.args.tests c.args.line.now.tokens c.if-room-eq0.false c.in_ok-test.test c.in_ok-test.behind.tokens c.in_ok-test.ensures.value
    c.in_ok-tests.tests made c.in-Some-Or-default.field-0-0 c.in-Some-Or-default.rest.tokens c.in_ok-done-in-Some-Or-default.done c.new.result c.in-Some-Or-default.field-0-0-is
    (rw same at c.in-Some-Or-default.ensures.join) added c.new.ensures)
    (rw there at c.take_alternatives-in-Some-Or-default.ensures.value)

pub returns-in_ok-with_alternative-in-None-clause-value : goal.returns-in_ok-with_alternative-in-None-clause-value
returns-in_ok-with_alternative-in-None-clause-value t c =
    let same : c.in_ok-test.behind.text ≡ c.args.line.now.text = c.in_ok-test.ensures.line in
    let made = one_value c.in_ok-tests.tests (c.args.tests ++ c.in_ok-test.test ∷ []) (Ok (c.args.tests ++ c.in_ok-test.test ∷ [])) c.in_ok-tests.ensures refl in
    let added = one_value c.in_ok-with_alternative-in-None.field-0 (c.args.done ++ c.in_ok-tests.tests ∷ []) (Ok (c.args.done ++ c.in_ok-tests.tests ∷ [])) c.in_ok-with_alternative-in-None.ensures refl in
    ends_on c.args.line.now.text c.args.room c.args.done c.args.tests c.args.line.now.tokens c.if-room-eq0.false c.in_ok-test.test c.in_ok-test.behind.tokens c.in_ok-test.ensures.value
    c.in_ok-tests.tests made c.in_ok-with_alternative-in-None.field-0 (rw same at c.in-None.ensures.join) added
