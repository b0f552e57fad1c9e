use Rattle.std.proofs.Common.{◌∙◌, ℕ, ◌/◌, ◌≤◌, ◌^◌, length, length-set, arith}
use Rattle.ff_flac_subframe.proofs.RiceLemmas.ColumnLemmas.{two_small, halve_step, halve_small, halve_end}
use Rattle.ff_flac_subframe.proofs.rice.column.add_neighbours.Goals as goal

pub overflow_add-costs-in-loop-i : goal.overflow_add-costs-in-loop-i
overflow_add-costs-in-loop-i c = omega (arith, two_small c.loop-i.costs c.loop-i.i (omega (arith, c.loop-i.invariant.len, c.loop-i-test.true)) c.loop-i.invariant.small)

pub loop-i-preserved : goal.loop-i-preserved
loop-i-preserved c =
    let i : ℕ = c.loop-i.i in
    let xs = c.loop-i.costs in
    record {
      len = length-set xs i _ ∙ c.loop-i.invariant.len;
      small = halve_small (λ cost. cost ≤ 2 ^ 48) xs i _ c.loop-i.invariant.small;
      is = halve_step xs i (omega (arith, c.loop-i.invariant.len, c.loop-i-test.true)) ∙ c.loop-i.invariant.is;
    }

pub returns-clause-sums : goal.returns-clause-sums
returns-clause-sums c =
    halve_end c.loop-i.costs _ c.loop-i.i (length c.args.costs.now / 2) (omega (arith, c.loop-i-test.false))
    (omega (arith, c.loop-i.invariant.len, c.loop-i-test.false)) c.loop-i.invariant.is
