use Rattle.std.proofs.Common.{◌≡◌, ◌&&◌, not, ◌<◌, length, subst, sym, ap, ◌∙◌, Result, Ok, Err}
use Rattle.std.specs.Prelude.{IfOk}
use Rattle.std.proofs.lemmas.Option.{same_Some}
use Rattle.sig_model.specs.Running.{Running}
use Rattle.sig_layout.specs.declared.setup.Setup.{Setup}
use Rattle.sig_layout.specs.Views.{first_seat}
use Rattle.std.specs.Prelude.{◌==◌}
use Rattle.sig_process.specs.Standing.{runnings_of}
use Rattle.sig_layout.specs.Sets.{has}
use Rattle.sig_workers.specs.Parts.{is_in}
use Rattle.sig_workers.proofs.PartLemmas.{many_running, running_at}
use Rattle.sig_workers.proofs.OpenLemmas.{first_setup, part_but}
use Rattle.sig_workers.proofs.opening.open_one.Goals as goal

pub open-requires : goal.open-requires
open-requires c =
    let many : length (runnings_of c.args.procs.now) ≡ length c.args.procs.now = many_running c.args.procs.now in
    first_setup c.args.policy c.queue_data.result c.senders_but-senders.result (runnings_of c.args.procs.now) c.args.at _ c.requires.policy c.requires.numbered (subst (λ n. c.args.at < n) (sym many) c.requires.within) (sym many) c.requires.first
    (λ s. subst (λ n. has c.senders_but-senders.result s ≡ (is_in 0 n s && not (s == c.args.at))) (sym many) (part_but c.args.everyone 0 (length c.args.procs.now) c.args.at s (has c.senders_but-senders.result s) (c.requires.everyone s) (c.senders_but-senders.ensures s)))

-- what both clauses on a result say of its value
both : {A E : Type 0} (x : Result A E) (P Q W : A → Type 0) → ((a : A) → P a → Q a → W a) → IfOk x P → IfOk x Q → IfOk x W
both (Ok a) P Q W f p q = f a p q
both (Err e) P Q W f p q = tt

pub returns : goal.returns
returns c =
    let many : length (runnings_of c.args.procs.now) ≡ length c.args.procs.now = many_running c.args.procs.now in
    both c.open.result _ _ _
    (λ r own first. (
      record {
        policy_is = ap (λ (z : Setup). z.given) own.1;
        queue_data_is = λ r at_r. ap (λ (z : Setup). z.queue_data) own.1 ∙ c.queue_data.ensures
            ∙ ap (λ (x : Running). x.proc.queue_data) (same_Some c.index-procs-place.result.running r (sym (running_at c.args.procs.now c.args.at c.index-procs-place.result c.requires.within c.index-procs-place.is) ∙ at_r));
        receiver = ap (λ (z : Setup). z.opening.receiver.0) own.1;
        count = ap (λ (z : Setup). z.opening.count) own.1 ∙ sym many;
        senders = λ s. ap (λ (z : Setup). has z.senders s) own.1 ∙ subst (λ n. has c.senders_but-senders.result s ≡ (is_in 0 n s && not (s == c.args.at))) (sym many) (part_but c.args.everyone 0 (length c.args.procs.now) c.args.at s (has c.senders_but-senders.result s) (c.requires.everyone s) (c.senders_but-senders.ensures s));
        first = ap (λ (z : Setup). z.opening.first) own.1 ∙ c.requires.first;
      },
      (λ k. record { queue = own.0 k; knows = (first ∙ ap (λ (z : Setup). first_seat z.senders) (sym own.1)) k }),
    )) c.open.ensures.own c.open.ensures.first
