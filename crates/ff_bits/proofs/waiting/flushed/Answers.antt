use Rattle.std.proofs.Common.{◌≡◌, ◌-◌, ◌*◌, ◌/◌, ◌^◌, suc, arith, ℕ}
use Rattle.std.specs.Prelude.{bit_and}
use Rattle.std.proofs.lemmas.Nat.{and_mask}
use Rattle.ff_bits.proofs.WriterLemmas.{flush_step, flush_end}
use Rattle.ff_bits.proofs.waiting.flushed.Goals as goal

pub loop-left-preserved : goal.loop-left-preserved
loop-left-preserved c =
    let m : ℕ = c.loop-left.left - 1 in
    let e : c.loop-left.left ≡ suc m = omega arith in
    record {
      few = omega (arith, c.loop-left.invariant.few);
      room = λ h. omega (arith, c.loop-left.invariant.room, c.in-Ok.ensures.len, c.in-Ok.ensures.capacity);
      bits = flush_step c.loop-left.bytes.items c.push.new.self.items c.loop-left.left m c.args.word (bit_and (c.args.word / 2 ^ (8 * m)) 255) _ e
          (and_mask (c.args.word / 2 ^ (8 * m)) 8) c.in-Ok.ensures.items c.loop-left.invariant.bits;
    }

pub returns : goal.returns
returns c =
    let none : c.loop-left.left ≡ 0 = omega arith in
    flush_end c.loop-left.bytes.items c.loop-left.left c.args.word _ none c.loop-left.invariant.bits
