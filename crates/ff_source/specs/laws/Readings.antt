-- What a source filter is by its arguments, which are read in order first.
use Rattle.std.specs.Prelude.{◌≡◌, false, List, Result, Ok, Err}
use Rattle.ff_frame.specs.declared.config.ConfigError.{ConfigError}
use Rattle.ff_lang.specs.declared.graph.Arg.{Arg}
use Rattle.ff_filter.specs.Options.{Manual, AreRead}

-- what the settings make, where no argument was at fault
abbrev pub AfterRead : {S X : Type 0} → (S → Result X ConfigError → Type 0) → Result X ConfigError → Result S ConfigError → Type 0
AfterRead makes r (Ok s) = makes s r
AfterRead makes r (Err e) = r ≡ Err e

-- what arguments make, from these settings on
abbrev pub IsMadeBy : {S X : Type 0} → Manual S → S → (S → Result X ConfigError → Type 0) → List Arg → Result X ConfigError → Type 0
IsMadeBy {S} manual s makes args r = (read : Result S ConfigError) × AreRead manual false 0 s args read × AfterRead makes r read
