-- The packets of several streams in one order: by time, then by stream, then by position.
use Rattle.std.specs.Prelude.{ℕ, zero, suc, ◌==◌, Bool, true, false, ◌||◌, ◌&&◌, cond, List, [], ◌∷◌}
use Rattle.std.specs.Ordering.{is_lt}
use Rattle.ff_time.specs.Fraction.{Fraction}
use Rattle.ff_time.specs.Rescale.{order_of}
use Rattle.ff_frame.specs.declared.packet.Pkt.{Pkt}
use Rattle.ff_stream.specs.declared.item.Item.{Item}
use Rattle.ff_stream.specs.declared.item.Item.TheVariants.{Audio, Video, Packet, Trailer, End, Broken}
use Rattle.ff_stream.specs.Stream.{Mark, still_open, whole, broken, Stream, is_whole}

-- the packets among these items
abbrev pub packets_of : List Item → List Pkt
packets_of [] = []
packets_of (Audio f ∷ xs) = packets_of xs
packets_of (Video f ∷ xs) = packets_of xs
packets_of (Packet p ∷ xs) = p ∷ packets_of xs
packets_of (Trailer t ∷ xs) = packets_of xs
packets_of (End ∷ xs) = packets_of xs
packets_of (Broken ∷ xs) = packets_of xs

abbrev pub packets_in : Stream Item → Stream Pkt
packets_in s = record { items = packets_of s.items; mark = s.mark }

-- a packet of the stream of this number
abbrev pub Placed : Type 0
Placed = ℕ × Pkt

abbrev pub is_some : {A : Type 0} → List A → Bool
is_some [] = false
is_some (x ∷ xs) = true

-- the packets of stream n, each with its number
abbrev pub placed : ℕ → List Pkt → List Placed
placed n [] = []
placed n (p ∷ ps) = (n, p) ∷ placed n ps

-- stream q has a packet among these
abbrev pub has : ℕ → List Placed → Bool
has q [] = false
has q (x ∷ xs) = (x.0 == q) || has q xs

-- `base n` is the time base of stream n
module _ (base : ℕ → Fraction) where
  -- x is decoded at an earlier time than y, as exact fractions of a second
  abbrev pub is_sooner : Placed → Placed → Bool
  is_sooner x y = is_lt (order_of x.1.dts (base x.0) y.1.dts (base y.0))

  -- x among ys, behind those that are sooner; what `rest` makes of the others stands behind it
  abbrev pub put_among : Placed → (List Placed → List Placed) → List Placed → List Placed
  put_among x rest [] = x ∷ rest []
  put_among x rest (y ∷ ys) = cond (is_sooner y x) (y ∷ put_among x rest ys) (x ∷ rest (y ∷ ys))

  -- two lists in one, by time; of two packets at one time the one of the first list goes first
  abbrev pub merged : List Placed → List Placed → List Placed
  merged [] ys = ys
  merged (x ∷ xs) ys = put_among x (merged xs) ys

  -- all packets of the first n streams, by time, then by stream, then by position
  abbrev pub merge_to : ℕ → (ℕ → Stream Pkt) → List Placed
  merge_to zero ss = []
  merge_to (suc n) ss = merged (merge_to n ss) (placed n (ss n).items)

-- each of the first n streams but p is whole, or has a packet among these
abbrev pub others_go_on : ℕ → (ℕ → Stream Pkt) → ℕ → List Placed → Bool
others_go_on zero ss p xs = true
others_go_on (suc n) ss p xs = others_go_on n ss p xs && ((n == p) || (is_whole (ss n).mark || has n xs))

-- The first packets of a merge of n streams, as far as each is decided: behind it each other stream that isn't whole has one.
abbrev pub decided : ℕ → (ℕ → Stream Pkt) → List Placed → List Placed
decided n ss [] = []
decided n ss (x ∷ xs) = cond (others_go_on n ss x.0 xs) (x ∷ decided n ss xs) []

-- what of n streams is decided, in the order of their merge
abbrev pub interleaved : ℕ → (ℕ → Fraction) → (ℕ → Stream Pkt) → List Placed
interleaved n base ss = decided n ss (merge_to base n ss)
