-- What pads `concat` has by what is asked for.
use Rattle.std.specs.Prelude.{ℕ, ◌*◌, ◌%◌, ◌==◌, ◌&&◌, ◌||◌, Bool, not}
use Rattle.ff_concat.specs.declared.settings.Asked.{Asked}
use Rattle.ff_concat.specs.Arguments.{streams_of}

-- how many inputs are asked for
abbrev pub inputs_of : Asked → ℕ
inputs_of a = a.segments * streams_of a

-- The pad of this number, of the inputs or of the outputs, takes audio. Of both kinds, video stands first in each segment.
abbrev pub takes_audio : Asked → ℕ → Bool
takes_audio a p = a.audio && (not a.video || p % 2 == 1)
