-- Source filters in a graph: what each makes by its arguments alone.
use Rattle.std.specs.Prelude.{Bool, false, Option, Some, None, List, Result, Ok, Err}
use Rattle.ff_frame.specs.declared.config.ConfigError.{ConfigError}
use Rattle.ff_lang.specs.declared.graph.Arg.{Arg}
use Rattle.ff_lang.specs.declared.graph.Filter.{Filter}
use Rattle.ff_source.specs.declared.made.Made.{Made}
use Rattle.ff_filters.specs.declared.name.FilterName.{FilterName}
use Rattle.ff_filters.specs.Names.{filter_named}
use Rattle.ff_filters.specs.Makes.{made_as}
use Rattle.ff_filters.specs.Pads.{is_source}

abbrev pub is_source_as : Option FilterName → Bool
is_source_as None = false
is_source_as (Some name) = is_source name

-- it is a source filter
abbrev pub is_source_filter : Filter → Bool
is_source_filter f = is_source_as (filter_named f.name)

abbrev pub made_by_name : Option FilterName → List Arg → Result (Option Made) ConfigError
made_by_name None args = Ok None
made_by_name (Some name) args = made_as name args

-- what a source filter makes, or why its arguments are refused; None of another filter
abbrev pub made_in : Filter → Result (Option Made) ConfigError
made_in f = made_by_name (filter_named f.name) f.args

abbrev pub if_made : Result (Option Made) ConfigError → Option Made
if_made (Ok made) = made
if_made (Err e) = None
