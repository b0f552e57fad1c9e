use Rattle.std.proofs.Common.{◌≡◌, ◌∙◌, ◌-◌, ap, arith}
use Rattle.std.proofs.lemmas.List.{map_push}
use Rattle.ff_flac_subframe.specs.rice.Rice.{parts_of}
use Rattle.ff_flac_subframe.specs.laws.rice.Columns.{columns, items_of}
use Rattle.ff_flac_subframe.proofs.RiceLemmas.ColumnLemmas.{columns_none, columns_push}
use Rattle.ff_flac_subframe.proofs.rice.column.columns_of.Goals as goal

pub loop-k-init : goal.loop-k-init
loop-k-init c = record {
  from = omega arith;
  is = columns_none c.args.span.low (parts_of c.args.order c.args.partition_order c.args.us.now) _ (ap items_of c.in_ok-columns.ensures.items);
}

pub loop-k-preserved : goal.loop-k-preserved
loop-k-preserved c = record {
  from = omega (arith, c.loop-k.invariant.from);
  is = columns_push c.args.span.low c.loop-k.k (parts_of c.args.order c.args.partition_order c.args.us.now) (items_of c.loop-k.columns.items) _ _ c.loop-k.invariant.from
      (ap items_of c.in_ok-push.ensures.items ∙ map_push _ c.loop-k.columns.items _) c.loop-k.invariant.is c.in_ok-column_of.ensures;
}

pub returns : goal.returns
returns c =
    let e : c.loop-k.k ≡ c.args.span.high = omega arith in
    c.loop-k.invariant.is ∙ ap (λ k. columns c.args.span.low (k - c.args.span.low) (parts_of c.args.order c.args.partition_order c.args.us.now)) e
