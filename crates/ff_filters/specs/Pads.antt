-- How many pads a filter has by its arguments, and of which kind (ffmpeg-filters).
use Rattle.std.specs.Prelude.{ℕ, Bool, is_some, List}
use Rattle.ff_lang.specs.declared.graph.Arg.{Arg}
use Rattle.ff_filters.specs.declared.name.FilterName.{FilterName}
use Rattle.ff_filters.specs.Definitions.{definition_of}

-- how many input pads it has
abbrev pub inputs_of : FilterName → List Arg → ℕ
inputs_of name args = (definition_of name).inputs args

-- how many output pads it has that may be linked without a label
abbrev pub outputs_of : FilterName → List Arg → ℕ
outputs_of name args = (definition_of name).outputs args

-- its output pads are as many as its input has channels, and are linked by labels alone
abbrev pub is_apart : FilterName → Bool
is_apart name = (definition_of name).is_apart

-- it is a source filter, whose arguments alone say the stream that comes to its only input pad
abbrev pub is_source : FilterName → Bool
is_source name = is_some (definition_of name).source

-- its input pad of this number takes sound; else it takes pictures
abbrev pub takes_sound : FilterName → List Arg → ℕ → Bool
takes_sound name args pad = (definition_of name).takes_sound args pad
