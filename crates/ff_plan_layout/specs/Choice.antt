-- The streams behind their places, and the automatic choice as a function. Which streams a map names, and which are the best
-- of their kind, is said in ff_words.
use Rattle.std.specs.Prelude.{nat_lt, Bool, true, false, cond, if◌then◌else◌, List, [], ◌∷◌, ◌++◌, Option, Some, None, slice_get, unwrap_or, option_to_list}
use Rattle.std.specs.List.{filter_map}
use Rattle.ff_frame.specs.declared.head.StreamHead.{StreamHead}
use Rattle.ff_frame.specs.declared.head.StreamHead.TheVariants as stream_head
use Rattle.ff_words.specs.declared.maps.map.Kind.{Kind}
use Rattle.ff_words.specs.declared.maps.map.Kind.TheVariants as kind
use Rattle.ff_words.specs.declared.maps.streams.Stream.{Stream}
use Rattle.ff_words.specs.declared.maps.streams.StreamRef.{StreamRef}
use Rattle.ff_words.specs.maps.Choice.{all_streams, of_kind, places, size}

abbrev pub kind_of : StreamHead → Kind
kind_of (stream_head.Audio tb rate bits channels codec) = kind.Audio
kind_of (stream_head.Video tb format width height sar_num sar_den) = kind.Video

abbrev pub same_kind : Kind → Kind → Bool
same_kind kind.Audio kind.Audio = true
same_kind kind.Video kind.Video = true
same_kind kind.Audio kind.Video = false
same_kind kind.Video kind.Audio = false

-- the head of the stream at a place
abbrev pub head_at : List (List StreamHead) → StreamRef → Option StreamHead
head_at heads at = slice_get (unwrap_or (slice_get heads at.input) []) at.stream

abbrev pub stream_with : StreamRef → Option StreamHead → Option Stream
stream_with at None = None
stream_with at (Some head) = Some (record { at = at; head = head })

-- the streams at these places
abbrev pub known : List (List StreamHead) → List StreamRef → List Stream
known heads refs = filter_map (λ at. stream_with at (head_at heads at)) refs

-- the first of the heaviest
abbrev pub heaviest_from : Stream → List Stream → Stream
heaviest_from best [] = best
heaviest_from best (s ∷ ss) = heaviest_from (if nat_lt (size best.head) (size s.head) then s else best) ss

abbrev pub heaviest : List Stream → Option Stream
heaviest [] = None
heaviest (s ∷ ss) = Some (heaviest_from s ss)

-- the automatic choice of one kind
abbrev pub best_of_kind : List (List StreamHead) → Kind → Bool → Option Stream
best_of_kind heads k wanted = cond wanted (heaviest (of_kind k (all_streams heads))) None

-- the only list of places that is the best choice of ff_words
abbrev pub best : List (List StreamHead) → Bool → Bool → List StreamRef
best heads video audio = places (option_to_list (best_of_kind heads kind.Video video) ++ option_to_list (best_of_kind heads kind.Audio audio))
