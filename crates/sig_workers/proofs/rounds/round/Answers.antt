use Rattle.std.proofs.Common.{All, ◌≡◌, ◌≤◌, ◌∙◌, length, sym, subst, arith}
use Rattle.std.proofs.lemmas.Grind.{common_steps}
use Rattle.sig_model.specs.Keeping.{IsPlaced}
use Rattle.sig_model.specs.CrewLaw.{IsLawfulCrew}
use Rattle.sig_process.specs.Standing.{runnings_of}
use Rattle.sig_workers.specs.Rounds.{IsRound}
use Rattle.sig_workers.specs.Opening.{AreNumbered, AreFresh}
use Rattle.sig_workers.specs.Parts.{procs_of, IsPart, HaveWorked}
use Rattle.sig_workers.specs.Rows.{DoneRow}
use Rattle.sig_workers.proofs.PartLemmas.{many_running}
use Rattle.sig_workers.proofs.RowLemmas.{row_done}
use Rattle.sig_workers.proofs.RoundLemmas.{crew_numbered, parts_ready, can_close, is_round}
use Rattle.sig_workers.proofs.Begins.{begun, has_queues, row_of, whole_of}
use Rattle.sig_workers.proofs.rounds.round.Goals as goal

pub open_all-requires-clause-few : goal.open_all-requires-clause-few
open_all-requires-clause-few g c =
    let start = c.crew.inside.procs.items in
    let b = begun c.requires.lawful.0 start c.args.crew c.crew.view_is c.requires.lawful.1 c.requires.lawful.2 c.requires.clear in
    subst (λ z. length z ≤ 256) (sym c.as_slice.ensures.value) b.few_procs

pub open_all-requires-clause-placed : goal.open_all-requires-clause-placed
open_all-requires-clause-placed g c =
    let start = c.crew.inside.procs.items in
    let b = begun c.requires.lawful.0 start c.args.crew c.crew.view_is c.requires.lawful.1 c.requires.lawful.2 c.requires.clear in
    subst (λ z. IsPlaced (runnings_of z)) (sym c.as_slice.ensures.value) b.law.placed

pub open_all-requires-clause-numbered : goal.open_all-requires-clause-numbered
open_all-requires-clause-numbered g c =
    let start = c.crew.inside.procs.items in
    let b = begun c.requires.lawful.0 start c.args.crew c.crew.view_is c.requires.lawful.1 c.requires.lawful.2 c.requires.clear in
    subst (λ z. AreNumbered (runnings_of z)) (sym c.as_slice.ensures.value) (crew_numbered c.requires.lawful.0 (runnings_of start) b.law)

pub make_parts-requires-clause-few : goal.make_parts-requires-clause-few
make_parts-requires-clause-few g c =
    let b = begun c.requires.lawful.0 c.crew.inside.procs.items c.args.crew c.crew.view_is c.requires.lawful.1 c.requires.lawful.2 c.requires.clear in
    omega (arith, b.few_procs, c.crew.inside.procs.ok.0)

pub make_parts-requires-clause-queues : goal.make_parts-requires-clause-queues
make_parts-requires-clause-queues g c =
    let start = c.crew.inside.procs.items in
    let queues = c.in_ok-queues.queues.items in
    let b = begun c.requires.lawful.0 start c.args.crew c.crew.view_is c.requires.lawful.1 c.requires.lawful.2 c.requires.clear in
    let many : length queues ≡ length c.as_slice.result.now = omega (arith, c.in_ok-queues.ensures.many, c.in_ok-queues.queues.ok.0) in
    let q = has_queues c.requires.lawful.0 c.args.policy start b c.as_slice.result.now queues c.in_ok-queues.seats.items c.as_slice.ensures.value c.in_ok-queues.ensures.opened many in
    let le : length queues ≤ 256 = omega (arith, b.few, q.same) in
    subst (λ z. length z ≤ 256) (sym c.as_slice-2.ensures.value) le

pub make_parts-requires-clause-fresh : goal.make_parts-requires-clause-fresh
make_parts-requires-clause-fresh g c =
    let start = c.crew.inside.procs.items in
    let queues = c.in_ok-queues.queues.items in
    let b = begun c.requires.lawful.0 start c.args.crew c.crew.view_is c.requires.lawful.1 c.requires.lawful.2 c.requires.clear in
    let many : length queues ≡ length c.as_slice.result.now = omega (arith, c.in_ok-queues.ensures.many, c.in_ok-queues.queues.ok.0) in
    let q = has_queues c.requires.lawful.0 c.args.policy start b c.as_slice.result.now queues c.in_ok-queues.seats.items c.as_slice.ensures.value c.in_ok-queues.ensures.opened many in
    subst (λ z. AreFresh z 0 (length start) c.in_ok-queues.seats.items) (sym c.as_slice-2.ensures.value) q.fresh

pub work_all-requires-clause-parts : goal.work_all-requires-clause-parts
work_all-requires-clause-parts g c κs within =
    let start = c.crew.inside.procs.items in
    let queues = c.in_ok-queues.queues.items in
    let seats = c.in_ok-queues.seats.items in
    let parts = c.in_ok-parts.parts.items in
    let b = begun c.requires.lawful.0 start c.args.crew c.crew.view_is c.requires.lawful.1 c.requires.lawful.2 c.requires.clear in
    let many : length queues ≡ length c.as_slice.result.now = omega (arith, c.in_ok-queues.ensures.many, c.in_ok-queues.queues.ok.0) in
    let q = has_queues c.requires.lawful.0 c.args.policy start b c.as_slice.result.now queues seats c.as_slice.ensures.value c.in_ok-queues.ensures.opened many in
    let row = row_of queues c.as_slice-2.result.now start parts c.as_slice-2.ensures.value c.in_ok-parts.ensures.row in
    subst (λ z. All (IsPart z) parts) (sym c.as_slice-3.ensures.value) (parts_ready c.requires.lawful.0 c.args.policy start b.law b.few b.clear queues seats q.opened q.same parts row)

pub join_all-requires-clause-row : goal.join_all-requires-clause-row
join_all-requires-clause-row g c =
    let start = c.crew.inside.procs.items in
    let crew = runnings_of c.crew.inside.procs.items in
    let queues = c.in_ok-queues.queues.items in
    let parts = c.in_ok-parts.parts.items in
    let done = c.in_ok-done.done.items in
    let row = row_of queues c.as_slice-2.result.now start parts c.as_slice-2.ensures.value c.in_ok-parts.ensures.row in
    let worked : HaveWorked queues parts done = subst (λ z. HaveWorked z parts done) c.as_slice-3.ensures.value c.in_ok-done.ensures.each in
    let many : length done ≡ length parts = grind (arith, common_steps, c.in_ok-done.ensures.len) in
    subst (λ z. DoneRow c.as_slice-4.result.now z 0 (length z) done) (sym c.keep_base-base.ensures)
    (subst (λ z. DoneRow z start 0 (length start) done) (sym c.as_slice-4.ensures.value) (subst (λ n. DoneRow queues start 0 n done) (many_running start) (row_done queues start 0 (length crew) parts done row many worked)))

pub close_all-requires-clause-can : goal.close_all-requires-clause-can
close_all-requires-clause-can g c =
    let start = c.crew.inside.procs.items in
    let queues = c.in_ok-queues.queues.items in
    let seats = c.in_ok-queues.seats.items in
    let w = c.in_ok-part.field-0 in
    let b = begun c.requires.lawful.0 start c.args.crew c.crew.view_is c.requires.lawful.1 c.requires.lawful.2 c.requires.clear in
    let many : length queues ≡ length c.as_slice.result.now = omega (arith, c.in_ok-queues.ensures.many, c.in_ok-queues.queues.ok.0) in
    let q = has_queues c.requires.lawful.0 c.args.policy start b c.as_slice.result.now queues seats c.as_slice.ensures.value c.in_ok-queues.ensures.opened many in
    can_close c.requires.lawful.0 c.args.policy start b.law b.few b.clear queues seats q.opened q.same w
    (whole_of queues c.as_slice-4.result.now start c.keep_base-base.result.crew.value.items w c.as_slice-4.ensures.value c.keep_base-base.ensures c.in_ok-part.ensures)

pub returns : goal.returns
returns g c script law_is =
    let start = c.crew.inside.procs.items in
    let crew = runnings_of c.crew.inside.procs.items in
    let queues = c.in_ok-queues.queues.items in
    let seats = c.in_ok-queues.seats.items in
    let w = c.in_ok-part.field-0 in
    let later = runnings_of c.close_all.new.procs.items in
    let receipts = c.in_ok-receipts.receipts in
    let law : IsLawfulCrew script crew = subst (λ z. IsLawfulCrew script (runnings_of z)) (sym c.crew.view_is) law_is in
    let b = begun c.requires.lawful.0 start c.args.crew c.crew.view_is c.requires.lawful.1 c.requires.lawful.2 c.requires.clear in
    let opened : length queues ≡ length c.as_slice.result.now = omega (arith, c.in_ok-queues.ensures.many, c.in_ok-queues.queues.ok.0) in
    let q = has_queues c.requires.lawful.0 c.args.policy start b c.as_slice.result.now queues seats c.as_slice.ensures.value c.in_ok-queues.ensures.opened opened in
    let whole = whole_of queues c.as_slice-4.result.now start c.keep_base-base.result.crew.value.items w c.as_slice-4.ensures.value c.keep_base-base.ensures c.in_ok-part.ensures in
    let count : length receipts ≡ length queues = grind (arith, common_steps, c.in_ok-receipts.ensures.count) in
    let as_before : length c.close_all.new.procs.items ≡ length w.part.procs.items = grind (arith, common_steps, c.in_ok-receipts.ensures.procs) in
    let many : length later ≡ length (procs_of w.part) = many_running c.close_all.new.procs.items ∙ as_before ∙ sym (many_running w.part.procs.items) in
    subst (λ z. IsRound script c.args.policy z c.close_all.new.procs.items receipts w.moved) c.crew.view_is
    (is_round script c.args.policy start law b.few b.clear queues seats q.opened q.same w whole c.close_all.new.procs.items receipts count many c.in_ok-receipts.ensures.closed c.in_ok-receipts.ensures.kept)
