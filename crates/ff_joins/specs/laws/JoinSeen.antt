-- How the machine of streams side by side is seen, and when an input is spent.
use Rattle.std.specs.Prelude.{ℕ, Bool, ◌||◌, map}
use Rattle.ff_stream.specs.Stream.{Mark, has_closed}
use Rattle.ff_filter.specs.Joins.{silence}
use Rattle.ff_filter.specs.Made.{is_over}
use Rattle.ff_filter.specs.Views.{View}
use Rattle.ff_joins.specs.declared.join.Join.{Join}
use Rattle.ff_joins.specs.laws.Lots.{lots, lane_of, last_port, lots_view, still_joined}

abbrev pub join_seen : Join → View
join_seen m = lots_view (map lane_of m.inlets.items) m.head (last_port m.inlets.items) m.first m.given (lots m.inlets.items) m.ended m.stopped m.after

-- what still comes where nothing more is fed
abbrev pub fed_mark : Join → Mark
fed_mark m = (still_joined m.head (last_port m.inlets.items) m.first m.given (lots m.inlets.items) silence).mark

-- the output is closed by what was fed
abbrev pub is_decided : Join → Bool
is_decided m = is_over m.after || has_closed (fed_mark m)

-- nothing more of input p can matter: it has closed, or the output isn't wanted or is closed by what was fed
abbrev pub join_spent : Join → ℕ → Bool
join_spent m p = is_over (lots m.inlets.items p).after || (m.stopped || (m.ended || is_decided m))
