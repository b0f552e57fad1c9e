-- The tags that may stand behind the last frame. From there to the end of the input goes an APEv2 tag, an ID3v1 tag, or the first and then
-- the second.
use Rattle.std.specs.Prelude.{ℕ, ◌+◌, ◌*◌, ◌==◌, ◌&&◌, ◌||◌, nat_le, Bool, codes, List, map, length, drop, slice_index, Option, Some}
use Rattle.ff_reader.specs.Walks.{agrees}

-- an ID3v1 tag is 128 bytes that begin with `TAG`
abbrev pub id3_magic : List (Option ℕ)
id3_magic = map Some (codes "TAG")

abbrev pub is_id3 : List ℕ → Bool
is_id3 bs = agrees id3_magic bs && (length bs == 128)

-- An APEv2 tag is 32 bytes that begin with `APETAGEX`, and as many more as four of them say, the lowest byte first.
abbrev pub ape_magic : List (Option ℕ)
ape_magic = map Some (codes "APETAGEX")

abbrev pub ape_size : List ℕ → ℕ
ape_size bs = 32 + slice_index bs 12 + 256 * slice_index bs 13 + 65536 * slice_index bs 14 + 16777216 * slice_index bs 15

abbrev pub is_ape : List ℕ → Bool
is_ape bs = agrees ape_magic bs && nat_le 32 (length bs) && (length bs == ape_size bs || nat_le (ape_size bs) (length bs) && is_id3 (drop (ape_size bs) bs))

-- these bytes are tags, and nothing more
abbrev pub are_tags : List ℕ → Bool
are_tags bs = is_id3 bs || is_ape bs
