-- The phases of a round, one after another.
use Rattle.std.proofs.Common.{◌≡◌, ℕ, ◌+◌, ◌<◌, ◌≤◌, List, length, Bool, true, false, Some, refl, sym, ap, ◌∙◌, subst, inl, inr, ◌⊎◌, arith}
use Rattle.std.specs.Prelude.{slice_get, All, slice_index}
use Rattle.std.proofs.lemmas.Option.{same_Some, slice_get_within}
use Rattle.sig_program.specs.Scripts.{Program, IsScriptWithin}
use Rattle.sig_program.proofs.ProcessCounts.{most_of_all}
use Rattle.sig_model.specs.declared.event.Event.{Event}
use Rattle.sig_model.specs.Running.{Running}
use Rattle.sig_model.specs.OneWorker.{IsClear}
use Rattle.sig_model.specs.Still.{IsStill}
use Rattle.sig_model.specs.Accounts.{went}
use Rattle.sig_model.specs.CrewLaw.{IsLawfulCrew}
use Rattle.sig_model.proofs.LawfulRunLemmas.{still_settled}
use Rattle.sig_layout.specs.declared.policy.Policy.{Policy}
use Rattle.sig_queue.specs.declared.account.Account.{Account}
use Rattle.sig_queue.specs.Seats.{Queue, Seated}
use Rattle.sig_workers.specs.declared.part.Part.{Part}
use Rattle.sig_workers.specs.declared.part.Worked.{Worked}
use Rattle.sig_workers.specs.Parts.{procs_of, base_of, is_in, IsPart, AreSeats, HasPlace}
use Rattle.sig_workers.specs.Rounds.{IsPassFlag, IsFlag, IsRound, HasSettled}
use Rattle.sig_process.specs.Standing.{Standing, runnings_of}
use Rattle.sig_workers.specs.Acting.{HasActed, KeepEvents}
use Rattle.sig_workers.specs.Closing.{CanClose, IsClosedAt}
use Rattle.sig_workers.specs.Opening.{AreNumbered, first_seated, IsQueueOf, AreOpened, IsFreshSeat, AreFresh}
use Rattle.sig_workers.specs.Rows.{FreshRow, HasGrownBy, IsWhole}
use Rattle.sig_workers.proofs.PartLemmas.{in_part}
use Rattle.sig_workers.proofs.OpenLemmas.{some_at}
use Rattle.sig_workers.proofs.RowLemmas.{row_parts, there_running}
use Rattle.sig_workers.proofs.StillBefore.{still_before}
use Rattle.sig_workers.proofs.RoundLaw.{all_clear, round_lawful, round_begins, round_stamp}
use Rattle.sig_workers.proofs.EndLemmas.{may_close, ends, strange_none, end_receipt, end_flag}

-- a sound script has few processes
pub crew_few : (script : Program) (crew : List Running) → IsScriptWithin script → IsLawfulCrew script crew → length crew ≤ 256
crew_few script crew sound law = omega (arith, sound.few, law.many, most_of_all script.version)

-- the next numbers of a lawful crew
pub crew_numbered : (script : Program) (crew : List Running) → IsLawfulCrew script crew → AreNumbered crew
crew_numbered script crew law p s r at lt =
    let e : slice_index r.state.counts.next_numbers p ≡ length (went p r) + 1 = (law.numbered s r at).next p (subst (λ n. p < n) (sym (law.placed s r at).1) lt) in
    (omega (arith, e), omega (arith, (law.keeping s r at).bounds.numbers p, (law.keeping s r at).low))

module _ (script : Program) (policy : Policy) (stands : List Standing) (law : IsLawfulCrew script (runnings_of stands)) (few : length (runnings_of stands) ≤ 256) (clear : IsClear (runnings_of stands)) (queues : List Queue) (seats : List Seated) (o : AreOpened policy (runnings_of stands) queues seats) (same : length queues ≡ length (runnings_of stands)) where
  abbrev crew : List Running
  crew = runnings_of stands

  each : (p : ℕ) (q : Queue) → slice_get queues p ≡ Some q → IsQueueOf policy crew p q
  each p q at = (o.each p q at).0

  fresh_at : (p : ℕ) (q : Queue) → slice_get queues p ≡ Some q → IsFreshSeat q 0 (length crew) p (first_seated q)
  fresh_at p q at =
      let lt : p < length crew = (let w : p < length queues = slice_get_within queues p q at in omega (arith, w, same)) in
      record {
        queue = refl;
        senders = (each p q at).senders;
        role = sym (let e : 0 + p ≡ p = omega arith in subst (λ z. is_in 0 (length crew) z ≡ true) e (in_part 0 (length crew) p lt));
        put = refl;
        taken = refl;
      }

  pub opened_fresh : AreFresh queues 0 (length crew) seats
  opened_fresh = record {
    many = o.many;
    each = λ p v at.
        let w : (q : Queue) × (slice_get queues p ≡ Some q) = some_at queues p (let z : p < length seats = slice_get_within seats p v at in omega (arith, z, o.many)) in
        (w.0, w.1, subst (IsFreshSeat w.0 0 (length crew) p) (same_Some (first_seated w.0) v (sym (o.each p w.0 w.1).1 ∙ at)) (fresh_at p w.0 w.1));
  }

  pub parts_ready : (parts : List Part) → FreshRow queues stands 0 (length crew) parts → All (IsPart queues) parts
  parts_ready parts row = row_parts script policy stands queues law few clear same each 0 parts row

  -- the parts are joined
  module _ (w : Worked) (whole : IsWhole queues stands (length crew) w) where
    procs_at : (p : ℕ) (r : Running) → slice_get (procs_of w.part) p ≡ Some r → HasPlace queues crew w.part.seats.items p r
    procs_at p r at =
        subst (λ z. HasPlace queues (runnings_of z) w.part.seats.items p r) whole.base
        (subst (λ z. HasPlace queues (base_of w.part) w.part.seats.items z r) (ap (λ z. z + p) whole.first ∙ (let e : 0 + p ≡ p = omega arith in e)) (whole.is_part.procs p r at))

    all_seats : AreSeats queues 0 (length (procs_of w.part)) w.part.seats.items
    all_seats = subst (λ z. AreSeats queues z (length (procs_of w.part)) w.part.seats.items) whole.first whole.is_part.seats

    pub can_close : (p : ℕ) (q : Queue) (v : Seated) (r : Running) → slice_get queues p ≡ Some q → slice_get w.part.seats.items p ≡ Some v → slice_get (procs_of w.part) p ≡ Some r → CanClose q v r
    can_close = may_close script policy crew queues law clear same each w.part.seats.items (procs_of w.part) whole.count_is all_seats procs_at

    passed_case : (b : Bool) → HasGrownBy crew 0 (procs_of w.part) b → IsPassFlag crew (procs_of w.part) b
    passed_case true h = (h.0, h.1, h.2, subst (λ z. slice_get crew z ≡ Some h.1) (let e : 0 + h.0 ≡ h.0 = omega arith in e) h.3, h.4, h.5)
    passed_case false h = λ p t at.
        let k : (r : Running) × (slice_get crew (0 + p) ≡ Some r) × (length t.events ≡ length r.events) × IsStill t = h p t at in
        (k.0, subst (λ z. slice_get crew z ≡ Some k.0) (let e : 0 + p ≡ p = omega arith in e) k.1, k.2, k.3)

    module _ (last : List Standing) (accounts : List Account) (count : length accounts ≡ length queues) (many : length (runnings_of last) ≡ length (procs_of w.part))
        (closed : (p : ℕ) (x : Account) (t : Running) → slice_get accounts p ≡ Some x → slice_get (runnings_of last) p ≡ Some t → IsClosedAt queues w.part.seats.items (procs_of w.part) p x t)
        (kept : KeepEvents w.part.procs.items last) where
      abbrev later : List Running
      later = runnings_of last

      abbrev seats_now : List Seated
      seats_now = w.part.seats.items

      abbrev procs_now : List Running
      procs_now = procs_of w.part

      lawful_end : IsLawfulCrew script later
      lawful_end =
          round_lawful script queues crew later seats_now law clear (many ∙ whole.count_is) (all_seats.many ∙ same)
          (strange_none script policy crew queues law clear same each seats_now procs_now whole.count_is all_seats procs_at later accounts count many closed)
          (ends script policy crew queues law clear same each seats_now procs_now whole.count_is all_seats procs_at later accounts count many closed)

      clear_end : IsClear later
      clear_end =
          all_clear script queues crew later seats_now law clear (many ∙ whole.count_is) (all_seats.many ∙ same)
          (strange_none script policy crew queues law clear same each seats_now procs_now whole.count_is all_seats procs_at later accounts count many closed)
          (ends script policy crew queues law clear same each seats_now procs_now whole.count_is all_seats procs_at later accounts count many closed)

      flag_end : IsFlag crew later w.moved
      flag_end = end_flag script policy crew queues law clear same each seats_now procs_now whole.count_is all_seats procs_at later accounts count many closed w.moved (passed_case w.moved whole.grown)

      settled_case : (b : Bool) → IsFlag crew later b → b ≡ false → HasSettled script later
      settled_case true f e = cc
      settled_case false f e = still_settled script later lawful_end clear_end f.1

      -- what each process has done
      has_acted : (p : ℕ) (s t : Standing) → slice_get stands p ≡ Some s → slice_get last p ≡ Some t →
          (u : Standing) × (slice_get w.part.procs.items p ≡ Some u) × (t.running.events ≡ u.running.events) × (t.saved ≡ u.saved) × HasActed s u
      has_acted p s t at_s at_t =
          let k : (u : Standing) × (slice_get w.part.procs.items p ≡ Some u) × (t.running.events ≡ u.running.events) × (t.saved ≡ u.saved) = kept p t at_t in
          let a : (q : Standing) × (slice_get stands (0 + p) ≡ Some q) × HasActed q k.0 = whole.acted p k.0 k.1 in
          let same : a.0 ≡ s = same_Some a.0 s (sym a.1 ∙ ap (λ n. slice_get stands n) (let e : 0 + p ≡ p = omega arith in e) ∙ at_s) in
          (k.0, k.1, k.2, k.3, subst (λ q. HasActed q k.0) same a.2)

      acted_end : (p : ℕ) (s t : Standing) → slice_get stands p ≡ Some s → slice_get last p ≡ Some t → IsStill s.running ⊎ (length s.running.events < length t.running.events)
      acted_end p s t at_s at_t =
          let h : (u : Standing) × (slice_get w.part.procs.items p ≡ Some u) × (t.running.events ≡ u.running.events) × (t.saved ≡ u.saved) × HasActed s u = has_acted p s t at_s at_t in
          let place : HasPlace queues crew w.part.seats.items p h.0.running = procs_at p h.0.running (there_running w.part.procs.items p h.0 h.1) in
          let was : place.was ≡ s.running = same_Some place.was s.running (sym place.there ∙ there_running stands p s at_s) in
          let many : length t.running.events ≡ length h.0.running.events = ap (λ (z : List Event). length z) h.2 in
          elim h.4 [
            | inl more ↦ inr (omega (arith, many, more))
            | inr none ↦ inl (subst IsStill was (still_before p place.was h.0.running w.part.seats.items place.gone (none.0 ∙ ap (λ (z : Running). length z.events) (sym was)) none.1))
          ]

      saved_end : (p : ℕ) (s t : Standing) → slice_get stands p ≡ Some s → slice_get last p ≡ Some t → length t.running.events ≡ length s.running.events → s.saved ≤ t.saved
      saved_end p s t at_s at_t same =
          let h : (u : Standing) × (slice_get w.part.procs.items p ≡ Some u) × (t.running.events ≡ u.running.events) × (t.saved ≡ u.saved) × HasActed s u = has_acted p s t at_s at_t in
          let many : length t.running.events ≡ length h.0.running.events = ap (λ (z : List Event). length z) h.2 in
          elim h.4 [
            | inl more ↦ absurd (let f : ⊥ = omega (arith, many, more, same) in f)
            | inr none ↦ omega (arith, none.2, h.3)
          ]

      pub is_round : IsRound script policy stands last accounts w.moved
      is_round = record {
        lawful = lawful_end;
        clear = clear_end;
        begin =
            round_begins script queues crew later seats_now law clear (many ∙ whole.count_is) (all_seats.many ∙ same)
            (strange_none script policy crew queues law clear same each seats_now procs_now whole.count_is all_seats procs_at later accounts count many closed)
            (ends script policy crew queues law clear same each seats_now procs_now whole.count_is all_seats procs_at later accounts count many closed);
        count = count ∙ same;
        receipt = end_receipt script policy crew queues law clear same each seats_now procs_now whole.count_is all_seats procs_at later accounts count many closed;
        flag = flag_end;
        acted = acted_end;
        saved = saved_end;
        stamp =
            round_stamp script queues crew later seats_now law clear (many ∙ whole.count_is) (all_seats.many ∙ same)
            (strange_none script policy crew queues law clear same each seats_now procs_now whole.count_is all_seats procs_at later accounts count many closed)
            (ends script policy crew queues law clear same each seats_now procs_now whole.count_is all_seats procs_at later accounts count many closed);
        settled = settled_case w.moved flag_end;
      }
