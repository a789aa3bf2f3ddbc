use Rattle.std.proofs.Common.{rules, ◌≡◌, ◌∙◌, ap, sym, refl, Some, None}
use Rattle.clap.specs.Words.{found_of}
use Rattle.sig_layout.specs.declared.policy.Policy.TheVariants.{Auto}
use Rattle.sig_host.specs.Words.{generate_of, policy_of, quota_of, setting_or, workers_of}
use Rattle.sig_host.proofs.WordsLemmas.{settings_are}
use Rattle.sig_host.proofs.command_line.settings_of.Goals as goal

pub returns-in_err-workers-clause-settings : goal.returns-in_err-workers-clause-settings
returns-in_err-workers-clause-settings c =
    let none : c.number_or.result ≡ None = search rules in
    let out : c.from_residual.result ≡ None = search rules in
    out ∙ settings_are (found_of c.args.matches.now) None _ _ _
    (sym none ∙ (c.number_or.ensures.number ∙ ap (setting_or 1 workers_of) c.get_str.ensures))
    refl
    refl
    refl

pub returns-in_err-quota-clause-settings : goal.returns-in_err-quota-clause-settings
returns-in_err-quota-clause-settings c =
    let workers : c.number_or.result ≡ Some c.in_ok-workers.workers = search rules in
    let none : c.number_or-2.result ≡ None = search rules in
    let out : c.from_residual-in_err-quota.result ≡ None = search rules in
    out ∙ settings_are (found_of c.args.matches.now) (Some c.in_ok-workers.workers) None _ _
    (sym workers ∙ (c.number_or.ensures.number ∙ ap (setting_or 1 workers_of) c.get_str.ensures))
    (sym none ∙ (c.number_or-2.ensures.number ∙ ap (setting_or 64 quota_of) c.get_str-2.ensures))
    refl
    refl

pub returns-in_err-policy-clause-settings : goal.returns-in_err-policy-clause-settings
returns-in_err-policy-clause-settings c =
    let workers : c.number_or.result ≡ Some c.in_ok-workers.workers = search rules in
    let quota : c.number_or-2.result ≡ Some c.in_ok-quota.quota = search rules in
    let none : c.policy_or_auto.result ≡ None = search rules in
    let out : c.from_residual-in_err-policy.result ≡ None = search rules in
    out ∙ settings_are (found_of c.args.matches.now) (Some c.in_ok-workers.workers) (Some c.in_ok-quota.quota) None _
    (sym workers ∙ (c.number_or.ensures.number ∙ ap (setting_or 1 workers_of) c.get_str.ensures))
    (sym quota ∙ (c.number_or-2.ensures.number ∙ ap (setting_or 64 quota_of) c.get_str-2.ensures))
    (sym none ∙ (c.policy_or_auto.ensures.policy ∙ ap (setting_or Auto policy_of) c.get_str-3.ensures))
    refl

pub returns-in_err-generate-clause-settings : goal.returns-in_err-generate-clause-settings
returns-in_err-generate-clause-settings c =
    let workers : c.number_or.result ≡ Some c.in_ok-workers.workers = search rules in
    let quota : c.number_or-2.result ≡ Some c.in_ok-quota.quota = search rules in
    let policy : c.policy_or_auto.result ≡ Some c.in_ok-policy.policy = search rules in
    let none : c.calls_or_none.result ≡ None = search rules in
    let out : c.from_residual-in_err-generate.result ≡ None = search rules in
    out ∙ settings_are (found_of c.args.matches.now) (Some c.in_ok-workers.workers) (Some c.in_ok-quota.quota) (Some c.in_ok-policy.policy) None
    (sym workers ∙ (c.number_or.ensures.number ∙ ap (setting_or 1 workers_of) c.get_str.ensures))
    (sym quota ∙ (c.number_or-2.ensures.number ∙ ap (setting_or 64 quota_of) c.get_str-2.ensures))
    (sym policy ∙ (c.policy_or_auto.ensures.policy ∙ ap (setting_or Auto policy_of) c.get_str-3.ensures))
    (sym none ∙ (c.calls_or_none.ensures.calls ∙ ap (setting_or None generate_of) c.get_str-4.ensures))

pub returns-clause-settings : goal.returns-clause-settings
returns-clause-settings c =
    let workers : c.number_or.result ≡ Some c.in_ok-workers.workers = search rules in
    let quota : c.number_or-2.result ≡ Some c.in_ok-quota.quota = search rules in
    let policy : c.policy_or_auto.result ≡ Some c.in_ok-policy.policy = search rules in
    let generate : c.calls_or_none.result ≡ Some c.in_ok-generate.generate = search rules in
    settings_are (found_of c.args.matches.now) (Some c.in_ok-workers.workers) (Some c.in_ok-quota.quota) (Some c.in_ok-policy.policy) (Some c.in_ok-generate.generate)
    (sym workers ∙ (c.number_or.ensures.number ∙ ap (setting_or 1 workers_of) c.get_str.ensures))
    (sym quota ∙ (c.number_or-2.ensures.number ∙ ap (setting_or 64 quota_of) c.get_str-2.ensures))
    (sym policy ∙ (c.policy_or_auto.ensures.policy ∙ ap (setting_or Auto policy_of) c.get_str-3.ensures))
    (sym generate ∙ (c.calls_or_none.ensures.calls ∙ ap (setting_or None generate_of) c.get_str-4.ensures))
