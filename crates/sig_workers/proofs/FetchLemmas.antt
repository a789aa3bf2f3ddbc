-- What was put for a process is taken in.
use Rattle.std.proofs.Common.{◌≡◌, ℕ, ◌+◌, List, [], ◌∷◌, ◌++◌, length, Bool, true, false, cond, Some, refl, sym, ap, ◌∙◌, subst, arith}
use Rattle.std.specs.Prelude.{All, ◌==◌, slice_get, slice_set, Result, Ok, Err, OnOk, MatchResult}
use Rattle.std.proofs.lemmas.Bool.{ne_eqb}
use Rattle.std.proofs.lemmas.List.{append-nil}
use Rattle.std.proofs.lemmas.List.Elements.{All-head, All-tail, All-nil, All-weaker, All-append, filter-append}
use Rattle.std.proofs.lemmas.Option.{same_Some}
use Rattle.sig_kinds.specs.declared.signal.Signal.{Signal}
use Rattle.sig_kinds.specs.SignalNames.{IsSignalBelow}
use Rattle.sig_kinds.specs.Counting.{IsCounting}
use Rattle.sig_model.specs.Running.{Running}
use Rattle.sig_model.specs.Keeping.{IsKeeping, IsArriving}
use Rattle.sig_model.specs.Accounts.{came, coming_from, Continues}
use Rattle.sig_model.proofs.OutboxNumbers.{counting-rest}
use Rattle.sig_process.specs.Standing.{Standing}
use Rattle.sig_layout.specs.declared.knows.Knows.{Knows}
use Rattle.sig_layout.specs.Sets.{has}
use Rattle.sig_layout.specs.Openings.{first_of, IsCarried}
use Rattle.sig_queue.specs.Seats.{Queue, Seated}
use Rattle.sig_queue.specs.Calls.{FetchedAs, Fetched}
use Rattle.sig_queue.specs.Parts.{tried}
use Rattle.sig_queue.specs.declared.fetch.Fetch.{Fetch}
use Rattle.sig_queue.specs.declared.fetch.Fetch.TheVariants as fetch
use Rattle.sig_workers.specs.Gone.{Continued, TakesFor, IsReady, IsSameSeat, Goes}
use Rattle.sig_workers.specs.Visits.{IsRemoved, IsFetched}
use Rattle.sig_workers.proofs.SeatLists.{of_is}
use Rattle.sig_workers.proofs.Going.{goes_take}

All-end : (P : Signal → Type 0) (xs ys : List Signal) → All P (xs ++ ys) → All P ys
All-end P [] ys h = h
All-end P (x ∷ xs) ys h = All-end P xs ys (All-tail P x (xs ++ ys) h)

pub removed_fetched : (q : Queue) (v u w : Seated) (now : List Signal) → IsRemoved v u → IsFetched q u now w → IsFetched q v now w
removed_fetched q v u w now e f = record {
  queue = f.queue ∙ e.queue;
  senders = f.senders ∙ e.senders;
  role = f.role ∙ e.role;
  put = f.put ∙ e.put;
  taken = f.taken ∙ ap (λ z. z ++ now) e.taken;
  carried = f.carried;
  counted = λ s asks. subst (λ (z : List Signal). IsCounting (first_of q.setup s + length (coming_from s z)) (coming_from s now)) e.taken (f.counted s asks);
}

took_fetched : (q : Queue) (v w : Seated) (before now outer : List Signal) (count : ℕ) (due : Bool) (skipped : ℕ) → before ≡ [] → w.queue ≡ v.queue → FetchedAs q.setup before now (tried v.knows 0 0) outer count due skipped w.knows → IsFetched q v now w
took_fetched q v w before now outer count due skipped empty own h =
    let new : List Signal = h.0 in
    let same : now ≡ new = h.2 ∙ ap (λ z. z ++ new) empty in
    let taken : w.knows.taken ≡ v.knows.taken ++ new = ap (λ (z : Knows). z.taken) h.4 in
    record {
      queue = own;
      senders = ap (λ (z : Knows). z.senders) h.4;
      role = ap (λ (z : Knows). z.role) h.4;
      put = ap (λ (z : Knows). z.put) h.4;
      taken = taken ∙ ap (λ z. v.knows.taken ++ z) (sym same);
      carried = subst (All (IsCarried q.setup)) (sym same) (All-end (IsCarried q.setup) v.knows.taken new (subst (All (IsCarried q.setup)) taken h.7.all));
      counted = λ s asks.
          subst (λ z. IsCounting (first_of q.setup s + length (coming_from s v.knows.taken)) (coming_from s z)) (sym same)
          (counting-rest (first_of q.setup s) (coming_from s v.knows.taken) (coming_from s new)
          (subst (IsCounting (first_of q.setup s)) (of_is s w.knows.taken ∙ ap (coming_from s) taken ∙ filter-append (λ (x : Signal). x.from.0 == s) v.knows.taken new) (h.7.counted s asks)));
    }

busy_fetched : (q : Queue) (v w : Seated) (found : ℕ) (before now : List Signal) → before ≡ [] → w.queue ≡ v.queue → Fetched q.setup before now v.knows (fetch.Busy found) w.knows → IsFetched q v now w
busy_fetched q v w found before now empty own h =
    let none : now ≡ [] = h.0 ∙ empty in
    record {
      queue = own;
      senders = ap (λ (z : Knows). z.senders) h.1;
      role = ap (λ (z : Knows). z.role) h.1;
      put = ap (λ (z : Knows). z.put) h.1;
      taken = ap (λ (z : Knows). z.taken) h.1 ∙ sym (append-nil v.knows.taken) ∙ ap (λ z. v.knows.taken ++ z) (sym none);
      carried = subst (All (IsCarried q.setup)) (sym none) (All-nil (IsCarried q.setup));
      counted = λ s asks. subst (λ z. IsCounting (first_of q.setup s + length (coming_from s v.knows.taken)) (coming_from s z)) (sym none) tt;
    }

pub any_fetched : (q : Queue) (v u w : Seated) (before now : List Signal) (f : Fetch) → IsRemoved v u → before ≡ [] → w.queue ≡ u.queue → Fetched q.setup before now u.knows f w.knows → (f ≡ fetch.Memory → ⊥) → IsFetched q v now w
any_fetched q v u w before now (fetch.Took count due skipped) e empty own h not_memory = removed_fetched q v u w now e (took_fetched q u w before now h.outer.signals count due skipped empty own h.fetched)
any_fetched q v u w before now (fetch.Busy found) e empty own h not_memory = removed_fetched q v u w now e (busy_fetched q u w found before now empty own h)
any_fetched q v u w before now fetch.Memory e empty own h not_memory = absurd (not_memory refl)

-- of a sender that is none of theirs
pub none_strange : (s : ℕ) (q : Queue) (xs : List Signal) → has q.setup.senders s ≡ false → All (IsCarried q.setup) xs → coming_from s xs ≡ []
none_strange s q [] out h = refl
none_strange s q (x ∷ xs) out h =
    let a : IsCarried q.setup x = All-head (IsCarried q.setup) x xs h in
    ap (λ c. cond c (x ∷ coming_from s xs) (coming_from s xs)) (ne_eqb x.from.0 s (λ e. (let f : false ≡ true = sym out ∙ ap (λ z. has q.setup.senders z) (sym e) ∙ a.from in absurd cc)))
    ∙ none_strange s q xs out (All-tail (IsCarried q.setup) x xs h)

-- the signals of a queue may arrive at its receiver, and go on with the numbers of those that came before
pub may_arrive : (q : Queue) (r : Running) (xs : List Signal) → q.setup.opening.receiver.0 ≡ r.pid → q.setup.opening.count ≡ r.count → has q.setup.senders r.pid ≡ false → All (IsCarried q.setup) xs → All (IsArriving r.pid r.count) xs
may_arrive q r xs receiver count strange h =
    All-weaker (IsCarried q.setup) (IsArriving r.pid r.count) (λ x a. record {
      from = λ e. (let no : false ≡ true = sym strange ∙ ap (λ z. has q.setup.senders z) (sym e) ∙ a.from in absurd cc);
      to = ap (λ z. z.0) a.to ∙ receiver;
      below = subst (λ n. IsSignalBelow n x) count a.below;
      stamp = omega (arith, a.early);
    }) xs h

pub go_on : (q : Queue) (v : Seated) (r : Running) (xs : List Signal) → Continued q r v → All (IsCarried q.setup) xs → ((s : ℕ) → has q.setup.senders s ≡ true → IsCounting (first_of q.setup s + length (coming_from s v.knows.taken)) (coming_from s xs)) → Continues r xs
go_on q v r xs continued carried counted s = go (has q.setup.senders s) refl
  where
    go : (b : Bool) → has q.setup.senders s ≡ b → IsCounting (length (came s r) + 1) (coming_from s xs)
    go true asks = subst (λ n. IsCounting n (coming_from s xs)) (sym (continued s asks)) (counted s asks)
    go false out = subst (IsCounting (length (came s r) + 1)) (sym (none_strange s q xs out carried)) tt

-- signals that arrive keep what a process keeps
pub arrivals_keep : (r : Running) (xs : List Signal) → IsKeeping r → All (IsArriving r.pid r.count) xs → IsKeeping (record r { taken_in = r.taken_in ++ xs })
arrivals_keep r xs k h =
    let all : All (IsArriving r.pid r.count) (r.taken_in ++ xs) = All-append (IsArriving r.pid r.count) r.taken_in xs k.taken_in h in
    record {
      below = record {
        pid = k.below.pid;
        proc = k.below.proc;
        tables = k.below.tables;
        handled = k.below.handled;
        own = k.below.own;
        taken_in = All-weaker (IsArriving r.pid r.count) (IsSignalBelow r.count) (λ x a. a.below) (r.taken_in ++ xs) all;
        outbox = k.below.outbox;
      };
      ran = k.ran;
      owner = k.owner;
      within = k.within;
      bounds = k.bounds;
      low = k.low;
      own = k.own;
      taken_in = all;
      outbox = k.outbox;
    }

-- what was fetched is taken in
module _ (queues : List Queue) (pid : ℕ) (r : Running) (seats : List Seated) (h : IsReady queues pid r seats) (v w : Seated) (there : slice_get seats pid ≡ Some v) (q : Queue) (own : slice_get queues pid ≡ Some q) (xs : List Signal) (f : IsFetched q v xs w) where
  abbrev takes : TakesFor queues pid r v
  takes = h.takes v there

  same_queue : takes.queue ≡ q
  same_queue = same_Some takes.queue q (sym takes.here ∙ own)

  pub fetched_arriving : All (IsArriving r.pid r.count) xs
  fetched_arriving =
      may_arrive q r xs (ap (λ (z : Queue). z.setup.opening.receiver.0) (sym same_queue) ∙ takes.receiver ∙ sym h.pid_is) (ap (λ (z : Queue). z.setup.opening.count) (sym same_queue) ∙ takes.count)
      (ap (λ z. has q.setup.senders z) h.pid_is ∙ ap (λ (z : Queue). has z.setup.senders pid) (sym same_queue) ∙ takes.strange) f.carried

  pub fetched_continues : Continues r xs
  fetched_continues = go_on q v r xs (subst (λ (z : Queue). Continued z r v) same_queue takes.continued) f.carried f.counted

  fetched_goes : (t : Running) → t ≡ record r { taken_in = r.taken_in ++ xs } → Goes queues pid r seats t (slice_set seats pid w)
  fetched_goes t e =
      let same : IsSameSeat v w = record { queue = f.queue; senders = f.senders; role = f.role } in
      subst (λ z. Goes queues pid r seats z (slice_set seats pid w)) (sym e)
      (goes_take queues pid r seats h v w there same xs f.put f.taken (arrivals_keep r xs h.keeping fetched_arriving))

  pub fetch_goes : {T E : Type 0} (t : Running) (o : Result T E) → OnOk o (t ≡ record r { taken_in = r.taken_in ++ xs }) → OnOk o (Goes queues pid r seats t (slice_set seats pid w))
  fetch_goes t (Ok u) e = fetched_goes t e
  fetch_goes t (Err u) e = tt

-- the queue and the seat of a fetch
pub fetch_own : (queues : List Queue) (pid : ℕ) (r : Running) (seats : List Seated) (v : Seated) (q : Queue) → IsReady queues pid r seats → slice_get seats pid ≡ Some v → slice_get queues pid ≡ Some q → v.queue ≡ q.id
fetch_own queues pid r seats v q h there own =
    let k : TakesFor queues pid r v = h.takes v there in
    k.own ∙ ap (λ (z : Queue). z.id) (same_Some k.queue q (sym k.here ∙ own))

pub taken_ok : {E : Type 0} (p q : Standing) (xs ys : List Signal) (o : Result (Unit {0}) E) →
    MatchResult o (λ _. (q ≡ record p { running = record p.running { taken_in = p.running.taken_in ++ xs } }) × (ys ≡ [])) (λ _. (q ≡ p) × (ys ≡ xs)) → OnOk o (q.running ≡ record p.running { taken_in = p.running.taken_in ++ xs })
taken_ok p q xs ys (Ok u) h = ap (λ (z : Standing). z.running) h.0
taken_ok p q xs ys (Err u) h = tt
