use Rattle.std.proofs.Common.{◌≡◌, ◌<◌, false, length}
use Rattle.ff_filter.specs.Views.{Same}
use Rattle.ff_trim.specs.laws.Taps.{ways_of, way_at, cut_view, to_go}
use Rattle.ff_trim.proofs.cutting.CuttingFilter.pull.Given as goal

abbrev pub invariant-loop-error : goal.invariant-loop-error
invariant-loop-error g l = record {
  same : Same (cut_view (g.F.Filter.view l.fn.self.filter) l.fn.self.taps.items) (cut_view (g.F.Filter.view l.self.filter) l.self.taps.items);
  going : (way_at (ways_of l.self.taps.items) l.port).ended ≡ false;
  there : l.port < length l.self.taps.items;
}

abbrev pub decreases-loop-error : goal.decreases-loop-error
decreases-loop-error g l = to_go (g.F.Filter.view l.self.filter) (way_at (ways_of l.self.taps.items) l.port) l.port
