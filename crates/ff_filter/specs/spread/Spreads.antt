-- How a machine is seen that gives on each output what it gets of each item.
use Rattle.std.specs.Prelude.{ℕ, nat_lt, Bool, false, ◌||◌, ◌&&◌, cond, List, [], ◌∷◌, length}
use Rattle.ff_stream.specs.declared.item.Item.{Item}
use Rattle.ff_stream.specs.declared.item.Lane.{Lane}
use Rattle.ff_stream.specs.Stream.{map_stream}
use Rattle.ff_stream.specs.Ports.{nothing}
use Rattle.ff_filter.specs.declared.after.After.{After}
use Rattle.ff_filter.specs.declared.outlet.Outlet.{Outlet}
use Rattle.ff_filter.specs.Joins.{Flow}
use Rattle.ff_filter.specs.Views.{View}
use Rattle.ff_filter.specs.Made.{left, is_over}
use Rattle.ff_filter.specs.laws.spread.Lines.{Line, all_done}

-- a stream on an output that is there, where there are n
abbrev pub on_output : ℕ → ℕ → Flow → Flow
on_output n q s = cond (nat_lt q n) s nothing

-- behind what waits on an output comes what it gets of each item that still comes
abbrev pub spread_view : Lane → List Lane → (ℕ → Item → Item) → (ℕ → Line) → After → View
spread_view lane_in lanes_out shared ls after = record {
  ins = lane_in ∷ [];
  outs = lanes_out;
  rest = λ ext q. on_output (length lanes_out) q (left (ls q).queue (ls q).ended after (map_stream (shared q) (ext 0)));
  shut = λ p. is_over after;
  ended = λ q. (ls q).ended;
  stopped = λ q. (ls q).stopped;
}

-- the same before anything was fed
abbrev pub spread_start : Lane → List Lane → (ℕ → Item → Item) → View
spread_start lane_in lanes_out shared = record {
  ins = lane_in ∷ [];
  outs = lanes_out;
  rest = λ ext q. on_output (length lanes_out) q (map_stream (shared q) (ext 0));
  shut = λ p. false;
  ended = λ q. false;
  stopped = λ q. false;
}

-- the input has closed, or there are outputs and nothing more is to be put on any
abbrev pub spread_spent : After → List Outlet → Bool
spread_spent after os = is_over after || (nat_lt 0 (length os) && all_done os)
