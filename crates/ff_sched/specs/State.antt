-- What a contract sees of the scheduler's state.
use Rattle.std.specs.Prelude.{ℕ, Bool, true, false, Option, None, List, [], replicate, slice_index_or, map}
use Rattle.ff_sched.specs.Bits.{mark_at, upto}

-- of 16 output streams the last dts in microseconds and whether each has finished, of 16 sources whether each has exited,
-- of 16 graphs the best input, and how many events there were
pub record State : Type 0 where
  pub last : List (Option ℕ)
  pub finished : List Bool
  pub exited : List Bool
  pub best : List ℕ
  pub count : ℕ

abbrev pub last_at : State → ℕ → Option ℕ
last_at s j = slice_index_or s.last j None

abbrev pub finished_at : State → ℕ → Bool
finished_at s j = slice_index_or s.finished j true

abbrev pub exited_at : State → ℕ → Bool
exited_at s k = slice_index_or s.exited k true

abbrev pub best_at : State → ℕ → ℕ
best_at s g = slice_index_or s.best g 0

-- nothing was sent and nothing has finished, and exactly the sources with a bit here have exited
abbrev pub opening_of : ℕ → State
opening_of unused = record {
  last = replicate 16 None;
  finished = replicate 16 false;
  exited = map (mark_at unused) (upto 0 16);
  best = replicate 16 0;
  count = 0;
}

-- the state of no cell
abbrev pub nothing : State
nothing = record { last = []; finished = []; exited = []; best = []; count = 0 }
