-- A round begins: of the crew, of its queues, and of its parts.
use Rattle.std.proofs.Common.{◌≡◌, ◌≤◌, List, length, sym, ap, ◌∙◌, subst, arith}
use Rattle.sig_program.specs.Scripts.{Program, IsScriptWithin}
use Rattle.sig_model.specs.OneWorker.{IsClear}
use Rattle.sig_model.specs.CrewLaw.{IsLawfulCrew}
use Rattle.sig_process.specs.Standing.{Standing, runnings_of}
use Rattle.sig_layout.specs.declared.policy.Policy.{Policy}
use Rattle.sig_queue.specs.Seats.{Queue, Seated}
use Rattle.sig_workers.specs.declared.part.Part.{Part}
use Rattle.sig_workers.specs.declared.part.Worked.{Worked}
use Rattle.sig_workers.specs.Opening.{AreOpened, AreFresh}
use Rattle.sig_workers.specs.Rows.{FreshRow, IsWhole}
use Rattle.sig_workers.proofs.PartLemmas.{many_running}
use Rattle.sig_workers.proofs.RoundLemmas.{crew_few, opened_fresh}

-- these processes are a lawful crew of the script with empty outboxes, and they are few
pub record IsBegun (script : Program) (start : List Standing) : Type 0 where
  pub law : IsLawfulCrew script (runnings_of start)
  pub clear : IsClear (runnings_of start)
  pub few : length (runnings_of start) ≤ 256
  pub few_procs : length start ≤ 256

pub begun : (script : Program) (start crew : List Standing) → start ≡ crew → IsScriptWithin script → IsLawfulCrew script (runnings_of crew) → IsClear (runnings_of crew) → IsBegun script start
begun script start crew view sound lawful clear =
    let law : IsLawfulCrew script (runnings_of start) = subst (λ z. IsLawfulCrew script (runnings_of z)) (sym view) lawful in
    let few : length (runnings_of start) ≤ 256 = crew_few script (runnings_of start) sound law in
    record { law = law; clear = subst (λ z. IsClear (runnings_of z)) (sym view) clear; few = few; few_procs = omega (arith, few, many_running start) }

-- these are their queues
pub record HasQueues (policy : Policy) (start : List Standing) (queues : List Queue) (seats : List Seated) : Type 0 where
  pub opened : AreOpened policy (runnings_of start) queues seats
  pub same : length queues ≡ length (runnings_of start)
  pub fresh : AreFresh queues 0 (length start) seats

module _ (script : Program) (policy : Policy) (start : List Standing) (b : IsBegun script start) where
  pub has_queues : (slice : List Standing) (queues : List Queue) (seats : List Seated) → slice ≡ start → AreOpened policy (runnings_of slice) queues seats → length queues ≡ length slice
      → HasQueues policy start queues seats
  has_queues slice queues seats is opened many =
      let o : AreOpened policy (runnings_of start) queues seats = subst (λ (z : List Standing). AreOpened policy (runnings_of z) queues seats) is opened in
      let same : length queues ≡ length (runnings_of start) = many ∙ ap (λ (z : List Standing). length z) is ∙ sym (many_running start) in
      record {
        opened = o;
        same = same;
        fresh = subst (λ n. AreFresh queues 0 n seats) (many_running start) (opened_fresh script policy start b.law b.few b.clear queues seats o same);
      }

-- what is said of so many processes, of so many states
pub row_of : (queues slice : List Queue) (start : List Standing) (parts : List Part) → slice ≡ queues → FreshRow slice start 0 (length start) parts
    → FreshRow queues start 0 (length (runnings_of start)) parts
row_of queues slice start parts is row =
    subst (λ n. FreshRow queues start 0 n parts) (sym (many_running start)) (subst (λ z. FreshRow z start 0 (length start) parts) is row)

pub whole_of : (queues slice : List Queue) (start kept : List Standing) (w : Worked) → slice ≡ queues → kept ≡ start → IsWhole slice kept (length kept) w
    → IsWhole queues start (length (runnings_of start)) w
whole_of queues slice start kept w is same whole =
    subst (λ n. IsWhole queues start n w) (sym (many_running start))
    (subst (λ z. IsWhole z start (length start) w) is (subst (λ z. IsWhole slice z (length z) w) same whole))
