-- Where an output goes, as a sink: that of its file, or what is kept of what goes nowhere, which has no name and never fails.
use Rattle.std.specs.Prelude.{ℕ, Bool, false, List, length, Option, Some, None}
use Rattle.ff_host.specs.declared.sink.Sink.{Ghosts as SinkGhosts}
use Rattle.ff_files.specs.declared.target.Target.{Target}
use Rattle.ff_files.specs.declared.target.Target.TheVariants.{File, Nowhere}

module _ {K : Type 0} {S : SinkGhosts K} where
  abbrev pub target_holds : Target K S → Option (List ℕ)
  target_holds (File file) = S.holds file.snk
  target_holds (Nowhere all) = Some all.items

  abbrev pub target_written : Target K S → ℕ
  target_written (File file) = S.written file.snk
  target_written (Nowhere all) = length all.items

  abbrev pub target_faults : Target K S → ℕ
  target_faults (File file) = S.faults file.snk
  target_faults (Nowhere all) = 0

  abbrev pub target_failed : Target K S → Bool
  target_failed (File file) = S.failed file.snk
  target_failed (Nowhere all) = false

  abbrev pub target_name : Target K S → Option (List ℕ)
  target_name (File file) = S.name file.snk
  target_name (Nowhere all) = None
