use Rattle.std.proofs.Common.{◌≡◌, ◌+◌, ◌*◌, length, arith}
use Rattle.ff_bits.proofs.BitsLemmas.{left_is}
use Rattle.ff_bits.proofs.reader.BitReader.left.Goals as goal

pub overflow_mul-result : goal.overflow_mul-result
overflow_mul-result c =
    let r = c.self.inside in
    let e : length c.args.self.now + r.used ≡ 8 * length r.bytes.now = rw (← c.self.view_is) (left_is r.used r.bytes.now c.self.invariant.1) in
    omega arith

pub returns : goal.returns
returns c =
    let r = c.self.inside in
    let e : length c.args.self.now + r.used ≡ 8 * length r.bytes.now = rw (← c.self.view_is) (left_is r.used r.bytes.now c.self.invariant.1) in
    omega arith
