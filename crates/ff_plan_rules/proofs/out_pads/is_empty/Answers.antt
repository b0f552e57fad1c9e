use Rattle.std.proofs.Common.{◌≡◌, ◌<◌, ◌≤◌, List, length, sym, subst, arith}
use Rattle.std.specs.Prelude.{slice_index_or}
use Rattle.ff_lang.specs.declared.graph.Chain.{Chain}
use Rattle.ff_lang.specs.declared.graph.Filter.{Filter}
use Rattle.ff_plan_rules.proofs.SomeFilters.{not_empty}
use Rattle.ff_plan_rules.proofs.out_pads.is_empty.Goals as goal

pub returns-then-as_slice-gt0 : goal.returns-then-as_slice-gt0
returns-then-as_slice-gt0 c =
    let chains = c.args.graph.now.chains in
    let own = c.chain-item.result in
    let low = subst (λ (cs : List Chain). c.loop-chain.chain-index < length cs) c.as_slice-chain-items.ensures c.loop-chain-test.true in
    let is = subst (λ (cs : List Chain). own ≡ slice_index_or cs c.loop-chain.chain-index own) c.as_slice-chain-items.ensures c.chain-item.is in
    let some = subst (λ (fs : List Filter). 1 ≤ length fs) c.as_slice.ensures (omega (arith, c.if-as_slice-gt0.true)) in
    sym (not_empty chains c.loop-chain.chain-index own low is some)
