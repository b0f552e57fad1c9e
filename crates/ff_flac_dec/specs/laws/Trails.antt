-- Which bytes may go on to tags behind the last frame, and what it is to.
use Rattle.std.specs.Prelude.{◌≡◌, ◌⊎◌, ◌&&◌, ◌||◌, nat_lt, nat_le, Bool, true, ℕ, List, length, drop}
use Rattle.ff_reader.specs.Walks.{agrees}
use Rattle.ff_flac_frame.specs.declared.stream.FlacStream.{FlacStream}
use Rattle.ff_flac_dec.specs.declared.front.Front.TheVariants.{Wait, Other}
use Rattle.ff_flac_dec.specs.Packets.{unit}
use Rattle.ff_flac_dec.specs.Trailers.{id3_magic, ape_magic, ape_size}

-- an ID3v1 tag, or some bytes more make one
abbrev pub may_be_id3 : List ℕ → Bool
may_be_id3 bs = agrees id3_magic bs && nat_le (length bs) 128

-- and so of an APEv2 tag, and of an ID3v1 tag behind it
abbrev pub may_be_ape : List ℕ → Bool
may_be_ape bs = agrees ape_magic bs && (nat_lt (length bs) 32 || nat_le (length bs) (ape_size bs) || may_be_id3 (drop (ape_size bs) bs))

abbrev pub may_be_tags : List ℕ → Bool
may_be_tags bs = may_be_id3 bs || may_be_ape bs

-- what waits behind the last frame may be the beginning of a frame, and is no whole one; or of tags, and is of no frame
abbrev pub MayGoOn : FlacStream → List ℕ → Type 0
MayGoOn s bs = (unit s bs ≡ Wait) ⊎ ((unit s bs ≡ Other) × (may_be_tags bs ≡ true))
