use Rattle.std.proofs.Common.{◌≡◌, ◌*◌, ◌≤◌, length}
use Rattle.std.specs.List.{All, AllByRecursion}
use Rattle.ff_flac_subframe.specs.rice.Rice.{parts_of}
use Rattle.ff_flac_subframe.proofs.RiceLemmas.PartLemmas.{Front}
use Rattle.ff_flac_subframe.proofs.RiceLemmas.SpanLemmas.{Served}
use Rattle.ff_flac_subframe.proofs.rice.span.span_of.Given as goal

abbrev pub invariant-loop-left : goal.invariant-loop-left
invariant-loop-left l = record {
  rest : length l.rest ≡ l.left * l.size;
  most : All (λ u. u ≤ l.most) l.rest;
  short : length l.rest ≤ length l.us;
  served : Front (AllByRecursion (Served (length l.first) l.total l.size l.low_total l.high_total)) l.left l.size l.rest (parts_of l.order l.partition_order l.us);
}

abbrev pub decreases-loop-left : goal.decreases-loop-left
decreases-loop-left l = l.left
