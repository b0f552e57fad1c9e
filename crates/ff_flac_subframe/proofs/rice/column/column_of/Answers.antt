use Rattle.std.proofs.Common.{◌≡◌, ◌^◌, sym, arith}
use Rattle.std.proofs.lemmas.Nat.{one_shl}
use Rattle.ff_flac_subframe.proofs.RiceLemmas.ColumnLemmas.{column_filled}
use Rattle.ff_flac_subframe.proofs.rice.column.column_of.Goals as goal

pub returns : goal.returns
returns c =
    let len : c.in_ok-costs.costs.len ≡ 2 ^ c.args.partition_order = omega (arith, c.in_ok-costs.ensures.len, one_shl c.args.partition_order 64 (omega arith)) in
    let zeros = c.in_ok-costs.costs in
    column_filled c.args.k c.args.order c.args.partition_order c.args.us.now c.split_at.result.0.now c.split_at.result.1.now
    zeros.items c.deref_mut.result.now c.fill.new.costs zeros.len c.cost_of.result (sym zeros.ok.0) len
    c.cost_of.ensures.is c.split_at.ensures.front c.split_at.ensures.back c.deref_mut.ensures.value c.fill.ensures
