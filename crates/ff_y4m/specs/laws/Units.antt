-- What may still come of some bytes.
use Rattle.std.specs.Prelude.{◌≡◌, ℕ, ◌+◌, ◌≤◌, ◌<◌, ◌↔◌, true, List, ◌++◌, length, Some}
use Rattle.ff_y4m.specs.declared.frame.Front.TheVariants.{Wait, Other, Frame}
use Rattle.ff_y4m.specs.Lines.{begins, line_end, longest_line}
use Rattle.ff_y4m.specs.Packets.{frame_word, unit}

-- They begin with a whole frame: the word, a line that isn't too long, and behind it the planes.
pub record IsFrame (size line : ℕ) (bs : List ℕ) : Type 0 where
  pub word : begins frame_word bs ≡ true
  pub ends : line_end longest_line bs ≡ Some line
  pub short : line < longest_line
  pub planes : line + 1 + size ≤ length bs

-- A frame is found exactly where one begins, none exactly where whatever follows makes none, and more bytes are wanted exactly
-- where none is there and some further bytes make one.
pub record IsDecided (size : ℕ) (bs : List ℕ) : Type 0 where
  pub whole : (line : ℕ) → (unit size bs ≡ Frame line) ↔ IsFrame size line bs
  pub never : (unit size bs ≡ Other) ↔ ((more : List ℕ) (line : ℕ) → IsFrame size line (bs ++ more) → ⊥)
  pub waits : (unit size bs ≡ Wait) ↔ (((line : ℕ) → IsFrame size line bs → ⊥) × ((more : List ℕ) × (line : ℕ) × IsFrame size line (bs ++ more)))
