use Rattle.std.proofs.Common.{◌≡◌, drop}
use Rattle.ff_filter.specs.Made.{mark_after}
use Rattle.ff_node_sync.specs.Shortened.{kept_by}
use Rattle.ff_node_sync.specs.Lines.{lines_of, line_at, fate_now, mark_now}
use Rattle.ff_node_sync.proofs.shortest.Shortest.mark.Given as goal

abbrev pub invariant-items : goal.invariant-items
invariant-items l = mark_now (lines_of l.self.sides.items) l.p ≡ (kept_by (fate_now (lines_of l.self.sides.items) l.p)
    (drop l.i (line_at (lines_of l.self.sides.items) l.p).waits) (mark_after (line_at (lines_of l.self.sides.items) l.p).after)).mark
