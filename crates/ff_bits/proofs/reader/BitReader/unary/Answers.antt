use Rattle.std.proofs.Common.{◌∷◌, ◌++◌, true, List, Bool, false, length, sym, ap, ◌∙◌, arith, length-drop}
use Rattle.std.specs.Prelude.{replicate}
use Rattle.ff_bits.proofs.Zeros.{further_zeros}
use Rattle.ff_bits.proofs.reader.BitReader.unary.Goals as goal

pub returns-in-Ended-clause-counted : goal.returns-in-Ended-clause-counted
returns-in-Ended-clause-counted c =
    let m = c.in-Ended.more in
    let now = c.loop-self.self in
    further_zeros c.loop-self.zeros m c.args.self.now now (true ∷ c.skip.new.self) c.loop-self.invariant.past
    (c.in-Ended.ensures.2 ∙ ap (λ (ys : List Bool). replicate m false ++ true ∷ ys) (sym c.skip.ensures))

pub loop-self-preserved : goal.loop-self-preserved
loop-self-preserved c =
    let m = c.in-Zeros.more in
    let now = c.loop-self.self in
    let e = c.skip-in-Zeros.ensures in
    record {
      past = further_zeros c.loop-self.zeros m c.args.self.now now c.skip-in-Zeros.new.self c.loop-self.invariant.past
          (c.in-Zeros.ensures.3 ∙ ap (λ (ys : List Bool). replicate m false ++ ys) (sym e));
      count = omega (arith, ap length e, length-drop m now, c.in-Zeros.ensures.2, c.loop-self.invariant.count);
    }
