-- Which arguments need several workers, and what a run with one worker says of its own.
use Rattle.std.specs.Prelude.{◌≡◌, ◌≤◌, ◌⊎◌, ℕ, List}
use Rattle.sig_edge.specs.Streams.{IsUnread, Reading}
use Rattle.sig_host.specs.declared.settings.Settings.{Settings}
use Rattle.sig_host.specs.declared.status.Status.{Status}
use Rattle.sig_host.specs.declared.status.Status.TheVariants.{Memory}
use Rattle.sig_host.specs.Words.{AreSettings}

-- the words have settings that ask for two workers or more
abbrev pub AskForSeveral : List (List ℕ) → Type 0
AskForSeveral words = (settings : Settings) × AreSettings words settings × (2 ≤ settings.workers)

-- settings of the words ask for one worker, but where there was no memory to read the words: then the source wasn't read
abbrev pub IsOfOne : List (List ℕ) → Reading → Status → Type 0
IsOfOne words r status = (settings : Settings) → AreSettings words settings → (settings.workers ≡ 1) ⊎ ((status ≡ Memory) × IsUnread r)
