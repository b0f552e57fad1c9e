use Rattle.std.proofs.Common.{◌<◌, ◌∙◌, sym, ap, arith, length}
use Rattle.std.proofs.lemmas.List.{length-map}
use Rattle.ff_filter.specs.Made.{is_over}
use Rattle.ff_joins.specs.laws.Lots.{Lot, lane_of}
use Rattle.ff_joins.proofs.Framing.{lots_there}
use Rattle.ff_joins.proofs.join_filter.JoinFilter.is_shut.Goals as goal

pub returns : goal.returns
returns c =
    let is = c.args.self.now.inlets.items in
    let e = length-map is lane_of in
    let lt : c.args.port < length is = omega (arith, e, c.requires) in
    c.is_over.ensures ∙ ap (λ (l : Lot). is_over l.after) (sym (lots_there is c.args.port c.index.result.now lt c.index.ensures))
