use Rattle.std.proofs.Common.{◌≡◌, drop, length}
use Rattle.ff_filters.specs.contracts.any.AnyFilterFilter.TheImpl.{ghosts}
use Rattle.ff_graph_links.specs.pads.Links.{all_seen}
use Rattle.ff_graph.specs.Configured.{make_from, none_made}
use Rattle.ff_graph.specs.laws.Pads.{made_by}
use Rattle.ff_graph.proofs.making.make_all.Given as goal

abbrev pub invariant-order : goal.invariant-order
invariant-order l = record {
  so_far : make_from (all_seen l.drawn) l.given (made_by ghosts.view l.filters l.heads) (drop l.at l.order)
      ≡ make_from (all_seen l.drawn) l.given (none_made (all_seen l.drawn)) l.order;
  size : length l.heads.items ≡ length l.drawn;
}
