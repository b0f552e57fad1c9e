-- Streams of which all but the last lie on the grid, one after the other.
use Rattle.std.specs.Prelude.{◌≡◌, ℕ, zero, suc, ◌+◌, ◌<◌, true, ◌&&◌, List, [], ◌∷◌, length, refl}
use Rattle.std.proofs.Common.{ap, sym, arith, get_or, drop}
use Rattle.ff_frame.specs.declared.head.StreamHead.{StreamHead}
use Rattle.ff_fsync.specs.declared.stacks.shape.Direction.{Direction}
use Rattle.ff_fsync.specs.stacks.Heads.{head_on_grid, all_on_grid}

-- one that another stands behind
pub grid_step : (d : Direction) (hs : List StreamHead) (j : ℕ) (h : StreamHead) → suc j < length hs → h ≡ get_or hs j h
    → all_on_grid d (drop j hs) ≡ (head_on_grid d h && all_on_grid d (drop (suc j) hs))
grid_step d [] j h lt e = absurd (omega (arith, lt))
grid_step d (x ∷ []) j h lt e = absurd (omega (arith, lt))
grid_step d (x ∷ y ∷ hs) zero h lt e = ap (λ k. head_on_grid d k && all_on_grid d (y ∷ hs)) (sym e)
grid_step d (x ∷ y ∷ hs) (suc j) h lt e = grid_step d (y ∷ hs) j h (omega (arith, lt)) e

-- the last one
pub grid_last : (d : Direction) (hs : List StreamHead) (j : ℕ) → j + 1 ≡ length hs → all_on_grid d (drop j hs) ≡ true
grid_last d [] j e = absurd (omega (arith, e))
grid_last d (x ∷ []) zero e = refl
grid_last d (x ∷ []) (suc j) e = absurd (omega (arith, e))
grid_last d (x ∷ y ∷ hs) zero e = absurd (omega (arith, e))
grid_last d (x ∷ y ∷ hs) (suc j) e = grid_last d (y ∷ hs) j (omega (arith, e))
