-- When an output of segments has closed.
use Rattle.std.specs.Prelude.{ℕ, zero, suc, ◌+◌, ◌*◌, Bool, true, false, ◌&&◌}
use Rattle.ff_stream.specs.Stream.{Mark, still_open, whole, broken}
use Rattle.ff_filter.specs.Joins.{Flow}
use Rattle.ff_concat.specs.Tails.{Tail, together}
use Rattle.ff_concat.specs.Concats.{is_lost}

-- The output of segments, of which the first stream of its own stands so, and the streams of that segment so, has closed:
-- `lost` says that of the segments behind nothing can come, and `behind` that the output of those has closed.
abbrev pub closes_at : Mark → Mark → Bool → Bool → Bool
closes_at still_open segment lost behind = false
closes_at broken segment lost behind = true
closes_at whole broken lost behind = true
closes_at whole still_open lost behind = lost
closes_at whole whole lost behind = behind

-- the output of n segments of w streams from segment k on has closed
abbrev pub is_closed : ℕ → Bool → ℕ → ℕ → (ℕ → Flow) → (ℕ → Tail) → Bool
is_closed w video zero k own tails = true
is_closed w video (suc n) k own tails =
    closes_at (own k).mark (together w (k * w) tails) (video && is_lost w n (k + 1) own tails) (is_closed w video n (k + 1) own tails)
