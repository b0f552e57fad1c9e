-- Which streams can be stacked, and the head of the stack.
use Rattle.std.specs.Prelude.{ℕ, ◌+◌, ◌%◌, Bool, true, false, ◌&&◌, nat_eq, cond, Option, Some, None, List, [], ◌∷◌, length}
use Rattle.ff_frame.specs.declared.config.ConfigError.{ConfigError}
use Rattle.ff_frame.specs.Sizes.{is_side}
use Rattle.ff_frame.specs.declared.config.ConfigError.TheVariants.{Pads, Kind, Mismatch, BadSize}
use Rattle.ff_frame.specs.declared.head.StreamHead.{StreamHead}
use Rattle.ff_frame.specs.declared.head.StreamHead.TheVariants.{Audio, Video}
use Rattle.ff_frame.specs.declared.video.Format.{Format}
use Rattle.ff_frame.specs.declared.video.Format.TheVariants.{C420, C422, C444, Mono}
use Rattle.ff_fsync.specs.Synced.{each_of}
use Rattle.ff_fsync.specs.declared.stacks.shape.Direction.{Direction}
use Rattle.ff_fsync.specs.declared.stacks.shape.Direction.TheVariants.{Beside, Below}
use Rattle.ff_fsync.specs.stacks.Bases.{has_common}
use Rattle.ff_fsync.specs.stacks.Shapes.{same_format}

-- how long pictures are in the direction of stacking, and in the other
abbrev pub size_along : Direction → StreamHead → ℕ
size_along d (Audio tb rate bits channels codec) = 0
size_along Beside (Video tb format width height sar_num sar_den) = width
size_along Below (Video tb format width height sar_num sar_den) = height

abbrev pub size_across : Direction → StreamHead → ℕ
size_across d (Audio tb rate bits channels codec) = 0
size_across Beside (Video tb format width height sar_num sar_den) = height
size_across Below (Video tb format width height sar_num sar_den) = width

-- one format; side by side one height, one below the other one width
abbrev pub are_alike : Direction → StreamHead → StreamHead → Bool
are_alike d (Audio tb rate bits channels codec) k = false
are_alike d (Video tb format width height sar_num sar_den) (Audio tb' rate bits channels codec) = false
are_alike d (Video tb format width height sar_num sar_den) (Video tb' format' width' height' sar_num' sar_den') =
    same_format format format'
    && nat_eq (size_across d (Video tb format width height sar_num sar_den)) (size_across d (Video tb' format' width' height' sar_num' sar_den'))

-- so many columns, or rows, of Y are whole ones of Cb and of Cr
abbrev pub on_grid : Direction → Format → ℕ → Bool
on_grid d C420 n = nat_eq (n % 2) 0
on_grid Beside C422 n = nat_eq (n % 2) 0
on_grid Below C422 n = true
on_grid d C444 n = true
on_grid d Mono n = true

abbrev pub head_on_grid : Direction → StreamHead → Bool
head_on_grid d (Audio tb rate bits channels codec) = true
head_on_grid d (Video tb format width height sar_num sar_den) = on_grid d format (size_along d (Video tb format width height sar_num sar_den))

-- those of all streams but the last are
abbrev pub all_on_grid : Direction → List StreamHead → Bool
all_on_grid d [] = true
all_on_grid d (h ∷ []) = true
all_on_grid d (h ∷ k ∷ hs) = head_on_grid d h && all_on_grid d (k ∷ hs)

-- how long all are together
abbrev pub total : Direction → List StreamHead → ℕ
total d [] = 0
total d (h ∷ hs) = size_along d h + total d hs

-- the stack has a size, and each picture but the last lies on the grid of Cb and Cr
abbrev pub has_size : Direction → StreamHead → List StreamHead → Bool
has_size d h hs = (is_side (total d hs) && is_side (size_across d h)) && all_on_grid d hs

-- the head with so many columns, or rows
abbrev pub with_length : Direction → ℕ → StreamHead → StreamHead
with_length d n (Audio tb rate bits channels codec) = Audio tb rate bits channels codec
with_length Beside n (Video tb format width height sar_num sar_den) = Video tb format n height sar_num sar_den
with_length Below n (Video tb format width height sar_num sar_den) = Video tb format width n sar_num sar_den

-- what is wrong with the number and the kinds of the inputs, where there are to be so many
abbrev pub input_fault : ℕ → (StreamHead → Bool) → List StreamHead → Option ConfigError
input_fault n wanted heads = cond (nat_eq (length heads) n) (cond (each_of wanted heads) None (Some Kind)) (Some Pads)

-- what is wrong with the inputs of a stack, of which this is the first
abbrev pub stack_fault : Direction → StreamHead → List StreamHead → Option ConfigError
stack_fault d h heads = cond (has_common heads && each_of (are_alike d h) heads) (cond (has_size d h heads) None (Some BadSize)) (Some Mismatch)
