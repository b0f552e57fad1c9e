use Rattle.std.proofs.Common.{◌<◌, length, false, sym, ◌∙◌, arith}
use Rattle.ff_graph_dag.specs.laws.Over.{true_all, not_all}
use Rattle.ff_graph_dag.specs.laws.Readings.{at_is}
use Rattle.ff_graph_dag.proofs.dag.are_true.Goals as goal

pub returns-then-not-index : goal.returns-then-not-index
returns-then-not-index c =
    let bs = c.args.flags.now.items in
    let lt : c.flags.index < length bs = omega arith in
    sym (not_all bs c.flags.index lt (at_is bs c.flags.index _ false c.index.result.now lt c.index.ensures ∙ c.if-not-index.true))

pub returns : goal.returns
returns c =
    let bs = c.args.flags.now.items in
    sym (true_all bs (λ q lt. c.flags.invariant q (omega (arith, lt))))
