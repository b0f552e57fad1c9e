-- What each filter is by its arguments and the heads of its inputs.
use Rattle.std.specs.Prelude.{Option, Some, None, List, Result, Ok}
use Rattle.ff_frame.specs.declared.config.ConfigError.{ConfigError}
use Rattle.ff_frame.specs.declared.head.StreamHead.{StreamHead}
use Rattle.ff_lang.specs.declared.graph.Arg.{Arg}
use Rattle.ff_filter.specs.Views.{View}
use Rattle.ff_source.specs.declared.made.Made.{Made}
use Rattle.ff_filters.specs.declared.name.FilterName.{FilterName}
use Rattle.ff_filters.specs.Configured.{Filtered}
use Rattle.ff_filters.specs.Definitions.{definition_of, relation_of}
use Rattle.ff_filters.specs.ReadBy.{and_then}

-- a filter of this name with these arguments, on streams of these heads: how it is seen before anything was fed, and the heads
-- of its outputs
abbrev pub Makes : FilterName → List Arg → List StreamHead → View → List StreamHead → Type 0
Makes name args heads v outs = (relation_of name).Makes args heads v outs

-- there was no memory, or the filter refuses the arguments and heads so
abbrev pub Refuses : FilterName → List Arg → List StreamHead → ConfigError → Type 0
Refuses name args heads e = (relation_of name).Refuses args heads e

-- the same as a function
abbrev pub configured_as : FilterName → List Arg → List StreamHead → Result Filtered ConfigError
configured_as name args heads = (definition_of name).by args heads

abbrev pub some_of : Result Made ConfigError → Result (Option Made) ConfigError
some_of r = and_then (λ made. Ok (Some made)) r

abbrev pub source_by : Option (List Arg → Result Made ConfigError) → List Arg → Result (Option Made) ConfigError
source_by None args = Ok None
source_by (Some makes) args = some_of (makes args)

-- what a source filter makes by its arguments alone, or why they are refused; None of another filter
abbrev pub made_as : FilterName → List Arg → Result (Option Made) ConfigError
made_as name args = source_by (definition_of name).source args
