use Rattle.std.proofs.Common.{◌≡◌, ◌+◌, length, ◌∙◌, arith, subst, true}
use Rattle.ff_flac_subframe.specs.rice.Rice.{is_allowed}
use Rattle.ff_flac_subframe.proofs.Plans.{first_small, magnitudes, count_us, fixed_bits}
use Rattle.ff_flac_subframe.proofs.subframe.write_fixed.Goals as goal

pub zigzags_by-requires-clause-small : goal.zigzags_by-requires-clause-small
zigzags_by-requires-clause-small c = magnitudes c.args.samples.now (first_small c.args.depth c.args.samples.now c.requires.within c.requires.fits)

pub write_residual-requires-clause-len : goal.write_residual-requires-clause-len
write_residual-requires-clause-len c =
    omega (arith, count_us c.args.order c.args.samples.now c.deref.result.now (c.deref.ensures.value ∙ c.in_ok-us.ensures), c.requires.len)

pub write_residual-requires-clause-allowed : goal.write_residual-requires-clause-allowed
write_residual-requires-clause-allowed c =
    let n : length c.args.samples.now ≡ length c.deref.result.now + c.args.order =
    omega (arith, count_us c.args.order c.args.samples.now c.deref.result.now (c.deref.ensures.value ∙ c.in_ok-us.ensures), c.requires.plan.0) in
    subst (λ m. is_allowed m c.args.order c.args.partition_order ≡ true) n c.requires.plan.4

pub returns : goal.returns
returns c =
    fixed_bits c.args.depth c.args.order c.args.method c.args.partition_order c.args.samples.now c.deref.result.now c.args.out.now c.put.new.self
    c.put_samples.new.out c.write_residual.new.out c.in_ok-put.ensures.ok c.in_ok-put_samples.ensures
    c.in_ok-write_residual.ensures (c.deref.ensures.value ∙ c.in_ok-us.ensures)
