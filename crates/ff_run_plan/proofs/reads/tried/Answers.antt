use Rattle.std.proofs.Common.{◌≡◌, ◌<◌, length, slice_get, Some, sym, ap, ◌∙◌, arith}
use Rattle.std.proofs.lemmas.Bool.{ltb-true}
use Rattle.std.proofs.lemmas.Option.{slice_get-get_or}
use Rattle.ff_plan.specs.declared.planned.PlanNode.{PlanNode}
use Rattle.ff_run_plan.proofs.Numbers.{there}
use Rattle.ff_run_plan.proofs.Trying.{tried_next, tried_all}
use Rattle.ff_run_plan.proofs.reads.tried.Goals as goal

pub loop-number-preserved : goal.loop-number-preserved
loop-number-preserved g c =
    let nodes = c.args.nodes.now in
    let parts = c.args.parts.now in
    let k = c.loop-number.number in
    let found = c.in-Some.ensures.lookup in
    let lt : k < length nodes = ltb-true k (length nodes) (sym found.0) in
    let at : slice_get nodes k ≡ Some c.in-Some.node.now = slice_get-get_or nodes k _ lt ∙ ap (λ (n : PlanNode). Some n) (sym found.1) in
    let here = there parts k c.loop-number-test.true in
    tried_next g.M.Machine.view c.args.source nodes parts k c.in-Some.node.now here.0 at here.1 (sym c.reads.ensures ∙ c.if-reads.false) ∙ c.loop-number.invariant

pub returns-after-loop-number : goal.returns-after-loop-number
returns-after-loop-number g c =
    let view = g.M.Machine.view in
    let nodes = c.args.nodes.now in
    let parts = c.args.parts.now in
    let k = c.loop-number.number in
    let over = c.loop-number-test.false in
    sym (tried_all view c.args.source nodes parts k (omega (arith, over))) ∙ c.loop-number.invariant
