-- Reading on past a part of the grammar whose value nobody keeps.
use Rattle.ff_bits.specs.Reading.{Reader, ◌>>=◌, give}
use Rattle.ff_flac_frame.specs.Frame.{Header, Frame}

abbrev pub passed : {A : Type 0} → Reader A → Reader (Unit {0})
passed r = r >>= λ _. give tt

-- all of a frame but its header
abbrev pub header_alone : Reader Frame → Reader Header
header_alone r = r >>= λ f. give f.header
