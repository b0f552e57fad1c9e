-- The streams that a map names, and the choice without one, over whole lists of heads.
use Rattle.std.specs.Prelude.{◌≡◌, ℕ, ◌+◌, ◌*◌, ◌<◌, ◌≤◌, Bool, true, false, Option, Some, None, List, ◌∷◌, [], ◌++◌, take, drop, map, unwrap_or}
use Rattle.std.specs.Prelude.{slice_get, if◌then◌else◌, option_to_list}
use Rattle.std.specs.List.{AllByRecursion}
use Rattle.std.specs.declared.alloc.Global.{Global}
use Rattle.std.specs.declared.vec.Vec.{Vec}
use Rattle.ff_frame.specs.declared.head.StreamHead.{StreamHead}
use Rattle.ff_frame.specs.declared.head.StreamHead.TheVariants as head
use Rattle.ff_words.specs.declared.maps.map.Kind.{Kind}
use Rattle.ff_words.specs.declared.maps.map.Kind.TheVariants as kind
use Rattle.ff_words.specs.declared.maps.map.Pick.{Pick}
use Rattle.ff_words.specs.declared.maps.map.Pick.TheVariants as pick
use Rattle.ff_words.specs.declared.maps.map.MapFrom.{MapFrom}
use Rattle.ff_words.specs.declared.maps.map.MapFrom.TheVariants.{Input, Label}
use Rattle.ff_words.specs.declared.maps.streams.StreamRef.{StreamRef}
use Rattle.ff_words.specs.declared.maps.streams.Stream.{Stream}

-- the heads of each input
abbrev pub lists : List (Vec StreamHead Global) → List (List StreamHead)
lists heads = map (λ (v : Vec StreamHead Global). v.items) heads

-- the stream with this head at a place
abbrev pub stream_at : ℕ → ℕ → StreamHead → Stream
stream_at input n h = record { at = record { input = input; stream = n }; head = h }

-- the streams of an input from a number on
abbrev pub numbered : ℕ → ℕ → List StreamHead → List Stream
numbered input n [] = []
numbered input n (h ∷ hs) = stream_at input n h ∷ numbered input (n + 1) hs

abbrev pub streams_of : ℕ → List StreamHead → List Stream
streams_of input heads = numbered input 0 heads

-- all streams from an input on, by input and then by stream
abbrev pub streams_from : ℕ → List (List StreamHead) → List Stream
streams_from input [] = []
streams_from input (hs ∷ rest) = streams_of input hs ++ streams_from (input + 1) rest

abbrev pub all_streams : List (List StreamHead) → List Stream
all_streams heads = streams_from 0 heads

abbrev pub has_kind : Kind → StreamHead → Bool
has_kind kind.Audio (head.Audio tb rate bits channels codec) = true
has_kind kind.Audio (head.Video tb format width height sar_num sar_den) = false
has_kind kind.Video (head.Audio tb rate bits channels codec) = false
has_kind kind.Video (head.Video tb format width height sar_num sar_den) = true

-- those of a kind, in their order
abbrev pub of_kind : Kind → List Stream → List Stream
of_kind k [] = []
of_kind k (s ∷ ss) = if has_kind k s.head then s ∷ of_kind k ss else of_kind k ss

-- the one at a number, or none
abbrev pub at_number : ℕ → List Stream → List Stream
at_number n ss = take 1 (drop n ss)

abbrev pub picked : Pick → List Stream → List Stream
picked pick.All ss = ss
picked (pick.Index n) ss = at_number n ss
picked (pick.Kind k) ss = of_kind k ss
picked (pick.Nth k n) ss = at_number n (of_kind k ss)

abbrev pub places : List Stream → List StreamRef
places ss = map (λ (s : Stream). s.at) ss

-- the streams that a map names; a label names none of an input's
abbrev pub selected : MapFrom → List (List StreamHead) → List StreamRef
selected (Input file p) heads = places (picked p (streams_of file (unwrap_or (slice_get heads file) [])))
selected (Label label) heads = []

-- how large a stream is: the samples of a picture, the channels of sound
abbrev pub size : StreamHead → ℕ
size (head.Audio tb rate bits channels codec) = channels
size (head.Video tb format width height sar_num sar_den) = width * height

-- The largest of the streams of a kind: none of them is larger, and none before it is as large. Where there is none of the
-- kind, none is it.
abbrev pub IsLargest : Kind → List Stream → Option Stream → Type 0
IsLargest k ss None = of_kind k ss ≡ []
IsLargest k ss (Some best) =
    (before : List Stream) × (behind : List Stream) × (of_kind k ss ≡ before ++ best ∷ behind)
    × AllByRecursion (λ (s : Stream). size s.head < size best.head) before × AllByRecursion (λ (s : Stream). size s.head ≤ size best.head) behind

-- the choice of a kind, where it is wanted
abbrev pub IsChoice : Bool → Kind → List Stream → Option Stream → Type 0
IsChoice true k ss chosen = IsLargest k ss chosen
IsChoice false k ss chosen = chosen ≡ None

-- the largest video stream and then the audio stream with the most channels, of the kinds that are wanted
abbrev pub AreBest : Bool → Bool → List (List StreamHead) → List StreamRef → Type 0
AreBest video audio heads refs =
    (v : Option Stream) × (a : Option Stream) × IsChoice video kind.Video (all_streams heads) v × IsChoice audio kind.Audio (all_streams heads) a
    × (refs ≡ places (option_to_list v ++ option_to_list a))
