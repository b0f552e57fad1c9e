-- What a plan is made of, before its nodes are numbered.
use Rattle.std.specs.Prelude.{◌≡◌, ◌⊎◌, ℕ, ◌+◌, ◌<◌, ◌==◌, ◌&&◌, Bool, false, List, [], ◌∷◌, ◌++◌, length, map}
use Rattle.std.specs.List.{filter, flat_map, list_any, position_or_len, range_with_len, IsDistinct}
use Rattle.ff_frame.specs.declared.head.StreamHead.{StreamHead}
use Rattle.ff_words.specs.declared.maps.streams.Stream.{Stream}
use Rattle.ff_words.specs.declared.maps.streams.StreamRef.{StreamRef}
use Rattle.ff_words.specs.maps.Choice.{all_streams}
use Rattle.ff_source.specs.declared.made.Made.{Made}
use Rattle.ff_plan_layout.specs.Sources.{source_streams}
pub use Rattle.ff_plan_layout.specs.declared.layout.Laid.{Laid}
use Rattle.ff_plan_layout.specs.declared.layout.Origin.{Origin}
use Rattle.ff_plan_layout.specs.declared.layout.Origin.TheVariants as origin
use Rattle.ff_plan_layout.specs.declared.layout.InPad.{InPad}
use Rattle.ff_plan_layout.specs.declared.layout.OutStream.{OutStream}
use Rattle.ff_plan_layout.specs.declared.layout.Placed.{Placed}
use Rattle.ff_plan_layout.specs.declared.layout.GraphText.{GraphText}

abbrev pub IsAmong : {X : Type 0} → X → List X → Type 0
IsAmong x [] = ⊥
IsAmong x (y ∷ ys) = (y ≡ x) ⊎ IsAmong x ys

-- each number below the length, once
pub record EachOnce (ps : List ℕ) : Type 0 where
  pub all : (q : ℕ) → q < length ps → IsAmong q ps
  pub below : (q : ℕ) → IsAmong q ps → q < length ps
  pub distinct : IsDistinct (λ p q. p == q) ps

-- Heads by input and stream; what source filters make; graphs in the order of their nodes; streams by output; by number where
-- the text of each graph stands.
pub record Layout : Type 0 where
  pub heads : List (List StreamHead)
  pub made : List Made
  pub graphs : List Laid
  pub outputs : List (List OutStream)
  pub texts : List GraphText

abbrev pub same_ref : StreamRef → StreamRef → Bool
same_ref a b = (a.input == b.input) && (a.stream == b.stream)

-- the streams of an output in their places, over all outputs and within it
abbrev pub place_row : ℕ → ℕ → ℕ → List OutStream → List Placed
place_row number output stream [] = []
place_row number output stream (s ∷ ss) =
    record { number = number; output = output; stream = stream; what = s } ∷ place_row (number + 1) output (stream + 1) ss

abbrev pub place_from : ℕ → ℕ → List (List OutStream) → List Placed
place_from number output [] = []
place_from number output (row ∷ rows) = place_row number output 0 row ++ place_from (number + length row) (output + 1) rows

abbrev pub placed : Layout → List Placed
placed l = place_from 0 0 l.outputs

-- where all inputs of graphs and all streams of outputs come from
abbrev pub origins : Layout → List Origin
origins l = flat_map (λ g. map (λ i. i.source) g.ins) l.graphs ++ map (λ p. p.what.source) (placed l)

abbrev pub shows : StreamRef → Origin → Bool
shows s (origin.Stream r) = same_ref s r
shows s (origin.Pad g p) = false

-- the streams of source filters, then those of inputs, by input and stream
abbrev pub streams : Layout → List Stream
streams l = source_streams (length l.heads) l.made ++ all_streams l.heads

abbrev pub is_shown : Layout → Stream → Bool
is_shown l s = list_any (shows s.at) (origins l)

-- those that are used
abbrev pub used : Layout → List Stream
used l = filter (is_shown l) (streams l)

-- those of inputs that are used
abbrev pub read : Layout → List Stream
read l = filter (is_shown l) (all_streams l.heads)

abbrev pub is_used : Layout → ℕ → Bool
is_used l i = list_any (λ s. s.at.input == i) (read l)

-- the inputs that are used
abbrev pub used_inputs : Layout → List ℕ
used_inputs l = filter (is_used l) (range_with_len 0 (length l.heads))

-- the origin is there: a stream of an input or of a source filter, a graph before this one in the order of nodes
abbrev pub IsThere : Layout → ℕ → Origin → Type 0
IsThere l before (origin.Stream s) = (k : Stream) × IsAmong k (streams l) × (k.at ≡ s)
IsThere l before (origin.Pad g p) = position_or_len (λ x. x.graph == g) l.graphs < before

-- a layout whose origins are all there, each graph after those that feed it
pub record IsLaid (l : Layout) : Type 0 where
  pub graphs : (g : Laid) (i : InPad) → IsAmong g l.graphs → IsAmong i g.ins → IsThere l (position_or_len (λ x. x.graph == g.graph) l.graphs) i.source
  pub streams : (p : Placed) → IsAmong p (placed l) → IsThere l (length l.graphs) p.what.source
