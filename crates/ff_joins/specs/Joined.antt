-- Streams of sound side by side, sample by sample.
use Rattle.std.specs.Prelude.{ℕ, zero, suc, ◌+◌, ◌*◌, ◌/◌, ◌==◌, Bool, true, false, ◌||◌, ◌&&◌, cond, nat_lt, nat_le, ℤ, pos, ◌+ℤ◌, List, []}
use Rattle.std.specs.Prelude.{◌∷◌, ◌++◌, length, take, drop}
use Rattle.ff_frame.specs.Frame.{audio_frame}
use Rattle.ff_stream.specs.declared.item.Item.{Item}
use Rattle.ff_stream.specs.declared.item.Item.TheVariants.{Audio, Video, Packet, Trailer, End, Broken}
use Rattle.ff_stream.specs.Stream.{Mark, still_open, whole, broken, Stream, is_whole, is_broken}
use Rattle.ff_stream.specs.Times.{start_of}
use Rattle.ff_filter.specs.Joins.{Flow, Ports}
use Rattle.ff_joins.specs.Tests.{all_to, any_to}

-- the samples of all channels at one place
abbrev pub Row : Type 0
Row = List ℤ

-- so many rows of c samples each
abbrev pub split_rows : ℕ → ℕ → List ℤ → List Row
split_rows c zero xs = []
split_rows c (suc n) xs = take c xs ∷ split_rows c n (drop c xs)

-- the rows of a frame of c channels; another item has none
abbrev pub rows_of : ℕ → Item → List Row
rows_of c (Audio f) = cond (f.channels == c) (split_rows c (length f.samples / c) f.samples) []
rows_of c (Video f) = []
rows_of c (Packet p) = []
rows_of c (Trailer t) = []
rows_of c End = []
rows_of c Broken = []

abbrev pub all_rows_of : ℕ → List Item → List Row
all_rows_of c [] = []
all_rows_of c (x ∷ xs) = rows_of c x ++ all_rows_of c xs

abbrev pub row_stream : ℕ → Flow → Stream Row
row_stream c s = record { items = all_rows_of c s.items; mark = s.mark }

-- the rows of one and of another side by side, as far as both go
abbrev pub side_by_side : List Row → List Row → List Row
side_by_side [] ys = []
side_by_side (x ∷ xs) [] = []
side_by_side (x ∷ xs) (y ∷ ys) = (x ++ y) ∷ side_by_side xs ys

-- the same of the inputs from the first to that of this number
abbrev pub rows_to : ℕ → (ℕ → Stream Row) → List Row
rows_to zero ss = (ss 0).items
rows_to (suc n) ss = side_by_side (rows_to n ss) (ss (suc n)).items

abbrev pub rows_in : (ℕ → Stream Row) → ℕ → ℕ
rows_in ss p = length (ss p).items

-- input p is whole, and each other has at least as many rows
abbrev pub ends_at : ℕ → (ℕ → Stream Row) → ℕ → Bool
ends_at n ss p = is_whole (ss p).mark && all_to (suc n) (λ q. nat_le (rows_in ss p) (rows_in ss q))

-- input p broke off, and each other has more rows, or broke off with at least as many
abbrev pub lost_at : ℕ → (ℕ → Stream Row) → ℕ → Bool
lost_at n ss p = is_broken (ss p).mark && all_to (suc n)
    (λ q. nat_lt (rows_in ss p) (rows_in ss q) || (is_broken (ss q).mark && nat_le (rows_in ss p) (rows_in ss q)))

abbrev pub mark_by : Bool → Bool → Mark
mark_by true lost = whole
mark_by false true = broken
mark_by false false = still_open

-- whole where some input is, and each other has as many rows; else broken where nothing further can come
abbrev pub join_mark : ℕ → (ℕ → Stream Row) → Mark
join_mark n ss = mark_by (any_to (suc n) (ends_at n ss)) (any_to (suc n) (lost_at n ss))

-- how many frames so many rows make: frames of 1,024, and of a whole stream the rest
abbrev pub frames_in : Mark → ℕ → ℕ
frames_in still_open m = m / 1024
frames_in whole m = (m + 1023) / 1024
frames_in broken m = m / 1024

-- frame number i of these rows, where `make i` makes one of rows
abbrev pub frame_at : (ℕ → List Row → Item) → List Row → ℕ → Item
frame_at make rows i = make i (take 1024 (drop (1024 * i) rows))

-- the first so many frames
abbrev pub frames_to : (ℕ → List Row → Item) → List Row → ℕ → List Item
frames_to make rows zero = []
frames_to make rows (suc k) = frames_to make rows k ++ frame_at make rows k ∷ []

-- the frames of the rows that all inputs have, of inputs 0 to n
abbrev pub joined_rows : ℕ → (ℕ → List Row → Item) → (ℕ → Stream Row) → Flow
joined_rows n make ss = record {
  items = frames_to make (rows_to n ss) (frames_in (join_mark n ss) (length (rows_to n ss)));
  mark = join_mark n ss;
}

abbrev pub flattened : List Row → List ℤ
flattened [] = []
flattened (x ∷ xs) = x ++ flattened xs

-- the start of the first item
abbrev pub first_start : List Item → ℤ
first_start [] = pos 0
first_start (x ∷ xs) = start_of x

-- the frame that starts so many frames of 1,024 behind the first
abbrev pub sound_frame : ℤ → ℕ → ℕ → ℕ → ℕ → List Row → Item
sound_frame first rate bits channels i rows = Audio (audio_frame (first +ℤ pos (1024 * i)) rate bits channels (flattened rows))

-- `join` of inputs 0 to n, of which each has so many channels: of this rate, these bits, and so many channels in all
abbrev pub side_to_side : ℕ → (ℕ → ℕ) → ℕ → ℕ → ℕ → Ports → Flow
side_to_side n channels rate bits all ss = joined_rows n (sound_frame (first_start (ss 0).items) rate bits all) (λ p. row_stream (channels p) (ss p))
