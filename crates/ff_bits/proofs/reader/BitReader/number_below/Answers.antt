use Rattle.std.proofs.lemmas.Result.{err_from_is_err_and}
use Rattle.ff_bits.proofs.NumberReads.{below_goes_on, below_fails}
use Rattle.ff_bits.proofs.reader.BitReader.number_below.Goals as goal

pub returns-in_err-byte : goal.returns-in_err-byte
returns-in_err-byte c =
    let p = err_from_is_err_and c.from_residual.result c.from_residual.ensures.1 in
    rw (p.1, p.2) (below_fails c.args.end c.args.self.now c.in_err-byte.field-0.0 c.byte_within.new.self c.byte_within.new.self c.in_err-byte.ensures.reads)

pub returns : goal.returns
returns c =
    let e = below_goes_on c.args.end c.args.self.now c.byte_within.new.self c.in_ok-byte.byte c.parts_of_first-count.result.0 c.parts_of_first-count.result.1 c.in_ok-byte.ensures.reads c.parts_of_first-count.ensures.count c.parts_of_first-count.ensures.value in
    rw e c.sixes.ensures
