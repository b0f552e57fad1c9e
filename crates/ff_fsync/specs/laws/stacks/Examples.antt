-- The streams of the worked examples.
use Rattle.std.specs.Prelude.{ℕ, zero, suc, false, pos, List, [], ◌∷◌}
use Rattle.ff_frame.specs.declared.head.StreamHead.{StreamHead}
use Rattle.ff_frame.specs.declared.head.StreamHead.TheVariants.{Video as VideoHead}
use Rattle.ff_frame.specs.declared.video.Format.TheVariants.{Mono}
use Rattle.ff_frame.specs.Frame.{video_frame}
use Rattle.ff_stream.specs.declared.item.Item.{Item}
use Rattle.ff_stream.specs.declared.item.Item.TheVariants.{Video}
use Rattle.ff_stream.specs.Stream.{whole}
use Rattle.ff_filter.specs.Joins.{Flow, Ports}
use Rattle.ff_fsync.specs.declared.stacks.shape.Direction.{Direction}
use Rattle.ff_fsync.specs.stacks.Stacks.{StackOf}

-- a picture without colour that starts at a time and lasts for so many ticks
abbrev pub grey : ℕ → ℕ → ℕ → ℕ → List ℕ → Item
grey start lasts width height planes = Video (video_frame (pos start) (pos lasts) Mono width height planes)

abbrev pub whole_of : List Item → Flow
whole_of xs = record { items = xs; mark = whole }

-- one pixel for two ticks; beside it one pixel for each tick
abbrev pub two_streams : Ports
two_streams zero = whole_of (grey 0 2 1 1 (10 ∷ []) ∷ [])
two_streams (suc p) = whole_of (grey 0 1 1 1 (20 ∷ []) ∷ grey 1 1 1 1 (30 ∷ []) ∷ [])

abbrev pub grey_head : ℕ → ℕ → StreamHead
grey_head width height = VideoHead (record { num = 1; den = 25 }) Mono width height 1 1

-- a stack of two pictures of one pixel, of this size
abbrev pub grey_stack : Direction → ℕ → ℕ → StackOf
grey_stack d width height = record { direction = d; heads = grey_head 1 1 ∷ grey_head 1 1 ∷ []; shortest = false; head = grey_head width height }
