-- What `concat` is by its arguments and the heads of its inputs, as a function.
use Rattle.std.specs.Prelude.{ℕ, ◌==◌, cond, List, length, take, Result, Ok, Err}
use Rattle.ff_frame.specs.declared.config.ConfigError.{ConfigError}
use Rattle.ff_frame.specs.declared.config.ConfigError.TheVariants.{Pads, Kind, Mismatch}
use Rattle.ff_frame.specs.declared.head.StreamHead.{StreamHead}
use Rattle.ff_lang.specs.declared.graph.Arg.{Arg}
use Rattle.ff_concat.specs.declared.settings.Asked.{Asked}
use Rattle.ff_concat.specs.declared.settings.ConcatSettings.{ConcatSettings}
use Rattle.ff_concat.specs.Arguments.{asked, streams_of}
use Rattle.ff_concat.specs.ConcatOptions.{are_of_kinds}
use Rattle.ff_concat.specs.Heads.{all_alike}
use Rattle.ff_concat.specs.Pads.{inputs_of}

-- the heads of a segment, and how many segments there are; refused where the heads of two segments differ
abbrev pub joined_as : Asked → List StreamHead → Result (List StreamHead × ℕ) ConfigError
joined_as a heads = cond (all_alike (streams_of a) heads) (Ok (take (streams_of a) heads, a.segments)) (Err Mismatch)

-- this, unless reading the arguments failed
abbrev pub after_read : {X : Type 0} → Result X ConfigError → Result ConcatSettings ConfigError → Result X ConfigError
after_read r (Ok s) = r
after_read r (Err e) = Err e

-- First the number of inputs and their kinds decide, then how the arguments were read, then whether the heads differ.
abbrev pub concat_by : Result ConcatSettings ConfigError → List Arg → List StreamHead → Result (List StreamHead × ℕ) ConfigError
concat_by read args heads =
    cond (length heads == inputs_of (asked args)) (cond (are_of_kinds (asked args) heads) (after_read (joined_as (asked args) heads) read) (Err Kind)) (Err Pads)
