-- The origins of a replay are those of the run of which the record is, so the order of its events can be told.
use Rattle.std.proofs.Common.{◌≡◌, ℕ, Bool, true, false, List, Result, Ok, Err, IfOk, refl, sym, ap, ◌∙◌, subst, inl, inr}
use Rattle.std.specs.Prelude.{Vec, IsTrue}
use Rattle.std.specs.Global.{Global}
use Rattle.std.proofs.lemmas.Bool.{false≢true}
use Rattle.sig_edge.specs.Streams.{Reading}
use Rattle.sig_program.specs.Scripts.{Program, IsScriptWithin}
use Rattle.sig_model.specs.declared.origin.Origin.{Origin}
use Rattle.sig_model.specs.Running.{Running}
use Rattle.sig_choices.specs.Origins.{origins_of}
use Rattle.sig_record.specs.declared.report.Report.{Report}
use Rattle.sig_record.specs.declared.merging.MergedAt.{MergedAt}
use Rattle.sig_record.specs.RunRecord.{events_listed, IsOfSettledRun}
use Rattle.sig_record.proofs.RunLemmas.{all_within}
use Rattle.sig_check.specs.Replays.{IsReplayed}
use Rattle.sig_check.proofs.Orders.{one_order}
use Rattle.sig_order.specs.declared.at.At.{At}
use Rattle.sig_order.specs.Happening.{is_there, HappenedBefore, IsTraced}
use Rattle.sig_order.specs.Told.{Told}
use Rattle.sig_order.proofs.OriginsTraced.{traced}
use Rattle.sig_tool.specs.declared.command.Command.TheVariants.{Before}
use Rattle.sig_tool.specs.declared.status.ToolStatus.{ToolStatus}
use Rattle.sig_tool.specs.declared.status.ToolStatus.TheVariants.{Done, BadScript, Usage, ReadFault, WriteFault, Memory, No, BadRecord, TooLong, NoEvent, BadCall}
use Rattle.sig_tool.specs.Ordering.{HasBoth, LacksOne, said, SaysWhether, IsOrderOf, IsBeforeText, IsAnswered}
use Rattle.sig_tool.specs.Origins.{AreOrigins}
use Rattle.sig_tool.specs.Inputs.{IsSettledPair}
use Rattle.sig_tool.specs.Texts.{IsTextRead}

module _ (script : Program) (reports : List Report) (crew : List Running) (origins : List Origin) (sound : IsScriptWithin script) (settled : IsOfSettledRun script reports) (replayed : IsReplayed script reports crew origins) where
  pub replay_traced : IsTraced reports origins
  replay_traced =
      let same : replayed.order ≡ settled.run.order = one_order reports replayed.order settled.run.order replayed.merged settled.run.merged in
      subst (λ os. IsTraced reports os) (sym (replayed.told ∙ ap (λ (o : List MergedAt). origins_of script (events_listed reports o)) same))
      (traced script settled.machine reports sound (all_within script crew replayed.retraced.lawful) settled.run)

-- of these origins
pub order_so : {E : Type 0} (script : Program) (reports : List Report) (origins : List Origin) → AreOrigins script reports origins → (result : Result Told E) →
    IfOk result (λ h. (h.reports ≡ reports) × (h.origins ≡ origins)) → IfOk result (IsOrderOf script reports)
order_so script reports origins are (Ok told) h = record { same = h.0; order = are.order; merged = are.merged; origins = h.1 ∙ are.told }
order_so script reports origins are (Err e) h = h

-- one of the events isn't there
pub lacks_first : (reports : List Report) (first second : At) → is_there reports first ≡ false → LacksOne reports first second
lacks_first reports first second e h = false≢true (sym e ∙ h.first_there)

pub lacks_second : (reports : List Report) (first second : At) → is_there reports second ≡ false → LacksOne reports first second
lacks_second reports first second e h = false≢true (sym e ∙ h.second_there)

pub says_so : (P : Type 0) (so : Bool) (text : List ℕ) → (IsTrue so → P) → (P → IsTrue so) → text ≡ said so → SaysWhether P text
says_so P true text there back e = inl (e, there refl)
says_so P false text there back e = inr (e, λ p. false≢true (back p))

-- what is answered of the order is what is asked of the record
module _ (script : Program) (reports : List Report) (told : Told) (order : IsOrderOf script reports told) (first second : At) where
  pub answer_text : (text : List ℕ) → HasBoth told.reports first second → SaysWhether (HappenedBefore told.reports told.origins first second) text → IsBeforeText script reports first second text
  answer_text text both says = record {
    both = subst (λ (rs : List Report). HasBoth rs first second) order.same both;
    order = order.order;
    merged = order.merged;
    says =
        subst (λ (os : List Origin). SaysWhether (HappenedBefore reports os first second) text) order.origins
        (subst (λ (rs : List Report). SaysWhether (HappenedBefore rs told.origins first second) text) order.same says);
  }

  pub answer_lacks : LacksOne told.reports first second → LacksOne reports first second
  answer_lacks h = subst (λ (rs : List Report). LacksOne rs first second) order.same h

  pub text_so : (r : Reading) → IsSettledPair r script reports → (result : Result (Vec ℕ Global) ToolStatus) → IsAnswered told first second result → IsTextRead (Before first second) r result
  text_so r pair (Ok text) h = (script, reports, pair, answer_text text.items h.0 h.1)
  text_so r pair (Err Done) h = absurd h
  text_so r pair (Err (BadScript line kind)) h = absurd h
  text_so r pair (Err Usage) h = absurd h
  text_so r pair (Err ReadFault) h = absurd h
  text_so r pair (Err WriteFault) h = absurd h
  text_so r pair (Err Memory) h = pair.whole.fine
  text_so r pair (Err (No event)) h = absurd h
  text_so r pair (Err (BadRecord line)) h = absurd h
  text_so r pair (Err TooLong) h = absurd h
  text_so r pair (Err NoEvent) h = (script, reports, pair, answer_lacks h)
  text_so r pair (Err (BadCall line kind)) h = absurd h
