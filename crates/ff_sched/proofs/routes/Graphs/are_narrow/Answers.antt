use Rattle.std.proofs.Common.{◌∙◌, List, All, subst, arith}
use Rattle.ff_sched.specs.declared.routes.Way.{Way}
use Rattle.ff_sched.proofs.Ranges.{narrow_more, narrow_all, IsNarrow}
use Rattle.ff_sched.proofs.routes.Graphs.are_narrow.Goals as goal

pub loop-ways-preserved : goal.loop-ways-preserved
loop-ways-preserved c =
    let items = c.deref-ways-items.result.now in let k = c.loop-ways.ways-index in let ways : List Way = c.ways-item.result in
    record {
      narrow = narrow_more items k ways (let a = c.loop-ways-test.true in let b = c.loop-ways.auto.ways-index-end in omega arith) c.loop-ways.invariant.narrow
          (subst IsNarrow c.ways-item.is (let a = c.if-len-gt-MOST.false in let b = c.len.ensures in omega arith));
    }

pub returns-clause-yes : goal.returns-clause-yes
returns-clause-yes c = λ yes. subst (All IsNarrow) (c.deref-ways-items.ensures.value ∙ c.self.view_is)
    (narrow_all c.deref-ways-items.result.now c.loop-ways.ways-index (let a = c.loop-ways-test.false in let b = c.loop-ways.auto.ways-index-end in omega arith) c.loop-ways.invariant.narrow)
