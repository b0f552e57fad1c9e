-- Segments of one stream.
use Rattle.std.specs.Prelude.{ℕ, zero, suc, ◌+◌, [], map}
use Rattle.ff_stream.specs.Stream.{whole, map_stream}
use Rattle.ff_filter.specs.Joins.{Flow, Ports}
use Rattle.ff_concat.specs.Following.{followed}
use Rattle.ff_concat.specs.Tails.{last_end}
use Rattle.ff_concat.specs.Concats.{later}

-- So many segments from port p on, one after another: the items of each are later by the end of the last item before them,
-- which for the first of these segments is e.
abbrev pub one_by_one : ℕ → ℕ → ℕ → Ports → Flow
one_by_one zero p e ss = record { items = []; mark = whole }
one_by_one (suc n) p e ss = followed (map_stream (later e) (ss p)) (one_by_one n (p + 1) (last_end e (map (later e) (ss p).items)) ss)
