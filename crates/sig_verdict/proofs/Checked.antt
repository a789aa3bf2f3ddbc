-- What a run wrote is the text of a record that can be read, of a settled run of the script that its input spells.
use Rattle.std.proofs.Common.{◌≡◌, ◌++◌, ◌≤◌, ℕ, List, [], codes, length, Option, Some, None, Ok, refl, sym, subst}
use Rattle.sig_edge.specs.Streams.{Reading, Writing}
use Rattle.sig_reader.specs.Grammar.{script_of}
use Rattle.sig_host.specs.Answers.{IsAnswer}
use Rattle.sig_host.specs.ReadBack.{IsScriptOf, IsReadBack}
use Rattle.sig_host.specs.Words.{AreSettings}
use Rattle.sig_host.specs.declared.settings.Settings.{Settings}
use Rattle.sig_host.specs.declared.status.Status.TheVariants.{Done}
use Rattle.sig_host.proofs.RecordLemmas.{read_back}
use Rattle.sig_tool.specs.Answers.{IsDue}
use Rattle.sig_tool.specs.declared.command.Command.TheVariants.{Check, Expand}
use Rattle.sig_tool.specs.declared.given.TheConstants.{MOST_INPUT}
use Rattle.sig_tool.specs.declared.status.ToolStatus.TheVariants.{Done as Yes}
use Rattle.sig_tool.proofs.ScriptLines.{whole_due}

check_expands_nothing : Check ≡ Expand → ⊥
check_expands_nothing e = absurd cc

pub checked : (words : List (List ℕ)) (r : Reading) (w : Writing) (summary : Option (List ℕ)) (front output : List ℕ) → IsAnswer words r w Done summary →
    ((settings : Settings) → AreSettings words settings → settings.generate ≡ None) → r.left ≡ Some (front ++ codes "\n") → w.held ≡ Some [] → w.new ≡ Some output →
    length ((front ++ codes "\n") ++ output) ≤ MOST_INPUT → IsDue Check ((front ++ codes "\n") ++ output) Yes
checked words r w summary front output answer read left held new few =
    let back : IsReadBack words (front ++ codes "\n") output = read_back (front ++ codes "\n") output summary words r w left held new answer in
    let spelled : script_of (front ++ codes "\n") ≡ Ok back.script = subst (λ generate. IsScriptOf generate (front ++ codes "\n") back.script) (read back.settings back.asked) back.spelled in
    subst (λ text. IsDue Check ((front ++ codes "\n") ++ text) Yes) (sym back.printed)
    (whole_due (front ++ codes "\n") front back.script back.reports refl spelled back.run.readable back.run.run (subst (λ text. length ((front ++ codes "\n") ++ text) ≤ MOST_INPUT) back.printed few) Check check_expands_nothing tt)
