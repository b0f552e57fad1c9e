use Rattle.std.proofs.Common.{◌<◌, ◌^◌, ◌-◌, arith}
use Rattle.std.proofs.lemmas.Result.{err_from_is_err_and}
use Rattle.ff_bits.proofs.NumberReads.{six_goes_on, six_fails, sixes_done, six_below, sixes_fit}
use Rattle.ff_bits.proofs.OneByte.{further_range}
use Rattle.ff_bits.proofs.reader.BitReader.sixes.Goals as goal

pub returns-in_err-byte : goal.returns-in_err-byte
returns-in_err-byte c =
    let p = err_from_is_err_and c.from_residual.result c.from_residual.ensures.1 in
    rw (p.1, p.2) (six_fails c.args.count c.loop-i._i c.loop-i.value c.loop-i.self c.byte_within.new.self _ c.loop-i.invariant.reads c.loop-i-test.true c.in_err-byte.field-0.0 c.in_err-byte.ensures.reads c.byte_within.new.self)

pub overflow_mul-value : goal.overflow_mul-value
overflow_mul-value c =
    let f : c.loop-i.value < 2 ^ 43 = sixes_fit c.loop-i.value c.loop-i._i (omega arith) c.loop-i.invariant.small in
    omega arith

pub overflow_add-value : goal.overflow_add-value
overflow_add-value c =
    let f : c.loop-i.value < 2 ^ 43 = sixes_fit c.loop-i.value c.loop-i._i (omega arith) c.loop-i.invariant.small in
    let r = further_range c.in_ok-byte.byte c.in_ok-byte.ensures.within in
    omega arith

pub loop-i-preserved : goal.loop-i-preserved
loop-i-preserved c =
    let r = further_range c.in_ok-byte.byte c.in_ok-byte.ensures.within in
    record {
      reads = six_goes_on c.args.count c.loop-i._i c.loop-i.value c.loop-i.self c.byte_within.new.self _ c.loop-i.invariant.reads c.loop-i-test.true c.in_ok-byte.byte c.in_ok-byte.ensures.reads;
      small = six_below c.loop-i.value c.loop-i._i (c.in_ok-byte.byte - 128) c.loop-i.invariant.small (omega arith);
    }

pub returns : goal.returns
returns c = sixes_done c.args.count c.loop-i._i c.loop-i.value c.loop-i.self c.loop-i.self _ c.loop-i.invariant.reads c.loop-i-test.false
