-- What one event of a process gives: its stamp, and the signals that it sends, with their numbers.
use Rattle.std.proofs.Common.{◌≡◌, ℕ, ◌+◌, ◌<◌, ◌≤◌, max, List, [], ◌∷◌, length, All, Option, Some, None, refl, sym, ap, subst, inl, inr, ◌⊎◌, arith, length-set}
use Rattle.std.specs.Prelude.{slice_index}
use Rattle.std.proofs.lemmas.Bool.{cases_eq, cases_lt}
use Rattle.std.proofs.lemmas.List.{get_or-set_same, get_or-set_other, set_past}
use Rattle.std.proofs.lemmas.List.Elements.{All-nil, All-cons, All-weaker}
use Rattle.std.proofs.lemmas.Option.{none-some}
use Rattle.sig_kinds.specs.declared.signal.Signal.{Signal}
use Rattle.sig_program.specs.Scripts.{Declared}
use Rattle.sig_runs.specs.Rules.{Effect}
use Rattle.sig_model.specs.declared.event.Event.{Event}
use Rattle.sig_model.specs.declared.event.Did.{Did}
use Rattle.sig_model.specs.declared.event.Did.TheVariants as did
use Rattle.sig_model.specs.ProcessState.{ProcessState, Post}
use Rattle.sig_model.specs.Bodies.{Body}
use Rattle.sig_model.specs.Executing.{executing}
use Rattle.sig_model.specs.Handling.{handling}
use Rattle.sig_model.specs.Finishing.{drawn, numbers_after, numbered, finished, finished_exec}
use Rattle.sig_model.specs.Machine.{execution_of, handling_of}
use Rattle.sig_model.proofs.Lookups.{mapped_tells}
use Rattle.sig_model.proofs.StampLemmas.{numbered_sent}
use Rattle.sig_model.proofs.NumberLemmas.{length_numbers}

-- next numbers don't fall
drawn_more : (numbers : List ℕ) (to t : ℕ) → slice_index numbers t ≤ slice_index (drawn numbers to) t
drawn_more numbers to t = by (cases_eq t to) (cases_lt to (length numbers))
  where
    by : (t ≡ to) ⊎ (t ≡ to → ⊥) → (to < length numbers) ⊎ (length numbers ≤ to) → slice_index numbers t ≤ slice_index (drawn numbers to) t
    by (inl e) (inl lt) =
        let here : slice_index (drawn numbers to) to ≡ slice_index numbers to + 1 = get_or-set_same numbers to (slice_index numbers to + 1) 0 lt in
        subst (λ z. slice_index numbers z ≤ slice_index (drawn numbers to) z) (sym e) (omega (arith, here))
    by (inl e) (inr past) =
        let same : slice_index (drawn numbers to) t ≡ slice_index numbers t = ap (λ (xs : List ℕ). slice_index xs t) (set_past numbers to (slice_index numbers to + 1) past) in
        omega (arith, same)
    by (inr n) c = let same : slice_index (drawn numbers to) t ≡ slice_index numbers t = get_or-set_other numbers to t (slice_index numbers to + 1) 0 n in omega (arith, same)

after_more : (posts : List Post) (numbers : List ℕ) (t : ℕ) → slice_index numbers t ≤ slice_index (numbers_after numbers posts) t
after_more [] numbers t = omega arith
after_more (q ∷ posts) numbers t =
    let first : slice_index numbers t ≤ slice_index (drawn numbers q.to) t = drawn_more numbers q.to t in
    let rest : slice_index (drawn numbers q.to) t ≤ slice_index (numbers_after (drawn numbers q.to) posts) t = after_more posts (drawn numbers q.to) t in
    omega (arith, first, rest)

-- the signal's number is no lower than the next number before, and below the one after
abbrev pub IsDrawn : List ℕ → List ℕ → Signal → Type 0
IsDrawn numbers after x = (slice_index numbers x.to.0 ≤ x.number) × (x.to.0 < length numbers → x.number < slice_index after x.to.0)

sent_drawn : (pid stamp : ℕ) (posts : List Post) (numbers : List ℕ) → All (IsDrawn numbers (numbers_after numbers posts)) (numbered pid stamp numbers posts)
sent_drawn pid stamp [] numbers = All-nil (IsDrawn numbers numbers)
sent_drawn pid stamp (q ∷ posts) numbers =
    All-cons (IsDrawn numbers after)
    (record { from = record { 0 = pid }; to = record { 0 = q.to }; number = slice_index numbers q.to; stamp = stamp; kind = q.kind })
    (numbered pid stamp next posts)
    (omega arith, λ lt. here lt)
    (All-weaker (IsDrawn next after) (IsDrawn numbers after) weaker (numbered pid stamp next posts) (sent_drawn pid stamp posts next))
  where
    next : List ℕ
    next = drawn numbers q.to

    after : List ℕ
    after = numbers_after next posts

    here : q.to < length numbers → slice_index numbers q.to < slice_index after q.to
    here lt =
        let drew : slice_index next q.to ≡ slice_index numbers q.to + 1 = get_or-set_same numbers q.to (slice_index numbers q.to + 1) 0 lt in
        let more : slice_index next q.to ≤ slice_index after q.to = after_more posts next q.to in
        omega (arith, drew, more)

    weaker : (x : Signal) → IsDrawn next after x → IsDrawn numbers after x
    weaker x h =
        let more : slice_index numbers x.to.0 ≤ slice_index next x.to.0 = drawn_more numbers q.to x.to.0 in
        let many : length next ≡ length numbers = length-set numbers q.to (slice_index numbers q.to + 1) in
        (omega (arith, more, h.0), λ lt. h.1 (omega (arith, lt, many)))

-- An event of the process p at the state s: its stamp is later than the last one, what it sends has its stamp, and the numbers go on.
pub record IsEventOf (p : ℕ) (s : ProcessState) (effect : Effect ProcessState Signal Event) : Type 0 where
  pub later : s.counts.stamp < effect.event.stamp
  pub last : effect.state.counts.stamp ≡ effect.event.stamp
  pub sends : All (λ (x : Signal). (x.from.0 ≡ p) × (x.stamp ≡ effect.event.stamp)) effect.sends
  pub many : length effect.state.counts.next_numbers ≡ length s.counts.next_numbers
  pub more : (t : ℕ) → slice_index s.counts.next_numbers t ≤ slice_index effect.state.counts.next_numbers t
  pub drawn : All (IsDrawn s.counts.next_numbers effect.state.counts.next_numbers) effect.sends

finished_event : (p : ℕ) (s : ProcessState) (executed stamp : ℕ) (what : Did) (body : Body) → s.counts.stamp < stamp → IsEventOf p s (finished p s executed stamp what body)
finished_event p s executed stamp what body h = record {
  later = h;
  last = refl;
  sends = numbered_sent p stamp s.counts.next_numbers body.posts;
  many = length_numbers s.counts.next_numbers body.posts;
  more = after_more body.posts s.counts.next_numbers;
  drawn = sent_drawn p stamp body.posts s.counts.next_numbers;
}

-- an execution
abbrev pub IsExecutionOf : ℕ → ProcessState → Effect ProcessState Signal Event → Type 0
IsExecutionOf p s effect = IsEventOf p s effect × (effect.event.did ≡ did.Exec s.counts.place)

pub executed_event : (p : ℕ) (s : ProcessState) (o : Option Declared) (effect : Effect ProcessState Signal Event) → execution_of p o s ≡ Some effect → IsExecutionOf p s effect
executed_event p s None effect e = absurd (none-some effect e)
executed_event p s (Some d) effect e =
    let w : (body : Body) × (executing d s ≡ Some body) × (finished_exec p s body ≡ effect) = mapped_tells (finished_exec p s) (executing d s) effect e in
    subst (IsExecutionOf p s) w.2
    (finished_event p s (s.counts.executed + 1) (s.counts.stamp + 1) (did.Exec s.counts.place) w.0 (omega arith), refl)

-- the handling of a signal, whose stamp is lower
pub handled_event : (p : ℕ) (s : ProcessState) (x : Signal) → IsEventOf p s (handling_of p s x)
handled_event p s x =
    finished_event p s s.counts.executed (max s.counts.stamp x.stamp + 1) (did.From x.from x.number) (handling p s x) (let lt : s.counts.stamp < max s.counts.stamp x.stamp + 1 = omega arith in lt)

pub handled_later : (p : ℕ) (s : ProcessState) (x : Signal) → x.stamp < (handling_of p s x).event.stamp
handled_later p s x = let lt : x.stamp < max s.counts.stamp x.stamp + 1 = omega arith in lt
