-- The one function from the cell's words to the state.
use Rattle.std.specs.Prelude.{ℕ, ◌+◌, Option, Some, None, List, map, take, slice_index, nat_eq, if◌then◌else◌}
use Rattle.ff_sched.specs.Bits.{upto, mark_at, four_at}
use Rattle.ff_sched.specs.State.{State}

-- all ones mean that nothing was sent
abbrev pub last_of : ℕ → Option ℕ
last_of n = if nat_eq n 18446744073709551615 then None else Some n

unfoldable pub state_of : List ℕ → State
state_of words = record {
  last = map last_of (take 16 words);
  finished = map (mark_at (slice_index words 16)) (upto 0 16);
  exited = map (λ k. mark_at (slice_index words 16) (16 + k)) (upto 0 16);
  best = map (four_at (slice_index words 17)) (upto 0 16);
  count = slice_index words 18;
}
