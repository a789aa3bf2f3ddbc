-- What holds of every name in the watches of a process, after each of the monitor and alias rules.
use Rattle.std.proofs.Common.{◌≡◌, ◌==◌, ℕ, Bool, true, false, cond, not, [], ◌∷◌, ◌++◌, All, IfSome, Option, Some, None, is_some, sym, ap, subst, ◌∙◌}
use Rattle.std.specs.Option.{option_map_or}
use Rattle.std.specs.Ordering.{eq_by_cmp}
use Rattle.std.specs.FinMap.{FinMap, empty, get, contains_key, insert, remove, get-empty, get-insert, get-remove}
use Rattle.std.proofs.lemmas.List.Elements.{All-nil, All-push, All-filter}
use Rattle.sig_terms.specs.declared.pid.Pid.{Pid}
use Rattle.sig_terms.specs.declared.reference.Ref.{Ref}
use Rattle.sig_terms.specs.Nodes.{same_ref}
use Rattle.sig_terms.specs.References.{ref_cmp}
use Rattle.sig_terms.specs.Names.{Named, process, names_of_ref}
use Rattle.sig_terms.proofs.ReferenceLemmas.{ref_cmp_total, ref_ties, same_ref-is}
use Rattle.sig_kinds.specs.declared.alias_mode.AliasMode.{AliasMode}
use Rattle.sig_kinds.specs.declared.alias_mode.AliasMode.TheVariants.{Explicit, Reply, Demonitor, ReplyDemonitor}
use Rattle.sig_kinds.specs.WatchRules.{WatchState, unwatched, target_of, mode_of, is_held, bears, aliased, unaliased, ends_with_monitor, unmonitored, other_process, told_of, monitor, alias, by_mode, on_alias_message, on_monitor, on_demonitor, watch_ending}
use Rattle.sig_kinds.specs.SignalNames.{WatchNames}
use Rattle.sig_kinds.proofs.LinkNameLemmas.{no_key}

module _ (P : Named → Type 0) where
  abbrev OfRef : Ref → Type 0
  OfRef r = All P (names_of_ref r)

  -- it holds of each monitor with its target, of each monitor with its watcher, and of each alias
  abbrev OfTargets : FinMap ref_cmp ℕ → Type 0
  OfTargets held = (r : Ref) → IfSome (get held r) (λ target. OfRef r × P (process target))

  abbrev OfWatcher : Ref × ℕ → Type 0
  OfWatcher b = OfRef b.0 × P (process b.1)

  abbrev OfAliases : FinMap ref_cmp AliasMode → Type 0
  OfAliases aliases = (r : Ref) → contains_key aliases r ≡ true → OfRef r

  no_targets : OfTargets empty
  no_targets r = subst (λ o. IfSome o (λ (target : ℕ). OfRef r × P (process target))) (sym (get-empty ref_cmp r)) tt

  no_aliases : OfAliases empty
  no_aliases r h = absurd (no_key AliasMode ref_cmp r h)

  more_targets : (held : FinMap ref_cmp ℕ) (r : Ref) (target : ℕ) → OfRef r → P (process target) → OfTargets held → OfTargets (insert held r target)
  more_targets held r target named told old q =
      subst (λ o. IfSome o (λ (t : ℕ). OfRef q × P (process t))) (sym (get-insert ref_cmp_total held r target q)) (by (eq_by_cmp ref_cmp q r) (ref_ties q r))
    where
      by : (b : Bool) → same_ref q r ≡ b → IfSome (cond b (Some target) (get held q)) (λ (t : ℕ). OfRef q × P (process t))
      by true same = (subst OfRef (sym (same_ref-is q r same)) named, told)
      by false other = old q

  fewer_targets : (held : FinMap ref_cmp ℕ) (r : Ref) → OfTargets held → OfTargets (remove held r)
  fewer_targets held r old q =
      subst (λ o. IfSome o (λ (t : ℕ). OfRef q × P (process t))) (sym (get-remove ref_cmp_total held r q)) (by (eq_by_cmp ref_cmp q r))
    where
      by : (b : Bool) → IfSome (cond b None (get held q)) (λ (t : ℕ). OfRef q × P (process t))
      by true = tt
      by false = old q

  more_aliases : (aliases : FinMap ref_cmp AliasMode) (r : Ref) (mode : AliasMode) → OfRef r → OfAliases aliases → OfAliases (insert aliases r mode)
  more_aliases aliases r mode named old q h = by (eq_by_cmp ref_cmp q r) (ref_ties q r) (ap (λ o. is_some o) (sym (get-insert ref_cmp_total aliases r mode q)) ∙ h)
    where
      by : (b : Bool) → same_ref q r ≡ b → is_some (cond b (Some mode) (get aliases q)) ≡ true → OfRef q
      by true same is = subst OfRef (sym (same_ref-is q r same)) named
      by false other is = old q is

  fewer_aliases : (aliases : FinMap ref_cmp AliasMode) (r : Ref) → OfAliases aliases → OfAliases (remove aliases r)
  fewer_aliases aliases r old q h = by (eq_by_cmp ref_cmp q r) (ap (λ o. is_some o) (sym (get-remove ref_cmp_total aliases r q)) ∙ h)
    where
      by : (b : Bool) → is_some (cond b None (get aliases q)) ≡ true → OfRef q
      by true is = cc
      by false is = old q is

  pub unwatched_names : (owner : ℕ) → P (process owner) → WatchNames P (unwatched owner)
  unwatched_names owner h = record { owner = h; held = no_targets; borne = All-nil OfWatcher; aliases = no_aliases }

  module _ (watch : WatchState) (k : WatchNames P watch) where
    pub watch_ending_names : WatchNames P (watch_ending watch)
    watch_ending_names = unwatched_names watch.owner k.owner

    pub aliased_names : (r : Ref) (mode : AliasMode) → OfRef r → WatchNames P (aliased watch r mode)
    aliased_names r mode named = record { owner = k.owner; held = k.held; borne = k.borne; aliases = more_aliases watch.aliases r mode named k.aliases }

    pub unaliased_names : (r : Ref) → WatchNames P (unaliased watch r)
    unaliased_names r = record { owner = k.owner; held = k.held; borne = k.borne; aliases = fewer_aliases watch.aliases r k.aliases }

    -- the monitors and aliases without those of a reference
    ended_names : (r : Ref) (held alias : Bool) → WatchNames P (
        let rest = record watch { held = remove watch.held r } in
        cond held (cond alias (unaliased rest r) rest) watch)
    ended_names r true true = record { owner = k.owner; held = fewer_targets watch.held r k.held; borne = k.borne; aliases = fewer_aliases watch.aliases r k.aliases }
    ended_names r true false = record { owner = k.owner; held = fewer_targets watch.held r k.held; borne = k.borne; aliases = k.aliases }
    ended_names r false alias = k

    pub unmonitored_names : (r : Ref) → WatchNames P (unmonitored watch r)
    unmonitored_names r = ended_names r (is_held watch r) (option_map_or ends_with_monitor (mode_of watch r) false)

    -- who is told that a monitor ends
    pub told_names : (r : Ref) → IfSome (told_of watch r) (λ (p : Pid). P (process p.0))
    told_names r = by (target_of watch r) (k.held r)
      where
        other : (b : Bool) (target : ℕ) → P (process target) → IfSome (cond b None (Some (record { 0 = target }))) (λ (p : Pid). P (process p.0))
        other true target h = tt
        other false target h = h

        by : (o : Option ℕ) → IfSome o (λ (target : ℕ). OfRef r × P (process target)) → IfSome (other_process watch.owner o) (λ (p : Pid). P (process p.0))
        by None h = tt
        by (Some target) h = other (target == watch.owner) target h.1

    -- the calls
    pub monitor_names : (r : Ref) (target : ℕ) (mode : Option AliasMode) → OfRef r → P (process target) → WatchNames P (monitor watch r target mode).1
    monitor_names r target None named told =
        record { owner = k.owner; held = more_targets watch.held r target named told k.held; borne = k.borne; aliases = k.aliases }
    monitor_names r target (Some mode) named told =
        record { owner = k.owner; held = more_targets watch.held r target named told k.held; borne = k.borne; aliases = more_aliases watch.aliases r mode named k.aliases }

    pub alias_names : (r : Ref) (reply : Bool) → OfRef r → WatchNames P (alias watch r reply)
    alias_names r reply named = aliased_names r _ named

    -- the signals
    pub on_monitor_names : (r : Ref) (from : ℕ) → OfRef r → P (process from) → WatchNames P (on_monitor watch r from)
    on_monitor_names r from named told = by (bears watch.borne r)
      where
        by : (b : Bool) → WatchNames P (cond b watch (record watch { borne = watch.borne ++ (r, from) ∷ [] }))
        by true = k
        by false = record { owner = k.owner; held = k.held; borne = All-push OfWatcher watch.borne (r, from) k.borne (named, told); aliases = k.aliases }

    pub on_demonitor_names : (r : Ref) → WatchNames P (on_demonitor watch r).1
    on_demonitor_names r = record {
      owner = k.owner;
      held = k.held;
      borne = All-filter (λ b. not (same_ref r b.0)) OfWatcher watch.borne k.borne;
      aliases = k.aliases;
    }

  -- a message through an alias
  pub on_alias_message_names : (watch : WatchState) → WatchNames P watch → (r : Ref) → WatchNames P (on_alias_message watch r).1
  on_alias_message_names watch k r = by (mode_of watch r)
    where
      by : (mode : Option AliasMode) → WatchNames P (by_mode watch r mode).1
      by None = k
      by (Some Explicit) = k
      by (Some Demonitor) = k
      by (Some Reply) = unaliased_names watch k r
      by (Some ReplyDemonitor) = unaliased_names (unmonitored watch r) (unmonitored_names watch k r) r
