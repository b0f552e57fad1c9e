use Rattle.std.proofs.Common.{List, Bool, true, false, ◌∷◌, ◌++◌, ◌∙◌, sym, ap, arith}
use Rattle.std.specs.Prelude.{replicate}
use Rattle.std.proofs.lemmas.Bool.{lt-ltb, le-ltb}
use Rattle.ff_bits.proofs.LimitedZeros.{zeros_moved, zeros_ended, zeros_too_many, zeros_end}
use Rattle.ff_bits.proofs.reader.BitReader.zeros.Goals as goal

pub returns-then-count-limit-clause-reads : goal.returns-then-count-limit-clause-reads
returns-then-count-limit-clause-reads c =
    let m = c.in-Ended.more in
    let e = c.in-Ended.ensures.2 ∙ ap (λ (ys : List Bool). replicate m false ++ true ∷ ys) (sym c.skip.ensures) in
    zeros_ended c.args.limit c.loop-count.count m c.loop-count.self c.skip.new.self _ c.loop-count-test.true e c.loop-count.invariant.past (lt-ltb _ _ c.if-count-limit.true)

pub returns-else-count-limit-clause-reads : goal.returns-else-count-limit-clause-reads
returns-else-count-limit-clause-reads c =
    let m = c.in-Ended.more in
    let e = c.in-Ended.ensures.2 ∙ ap (λ (ys : List Bool). replicate m false ++ true ∷ ys) (sym c.skip.ensures) in
    zeros_too_many c.args.limit c.loop-count.count m c.loop-count.self c.skip.new.self _ c.loop-count-test.true e c.loop-count.invariant.past (le-ltb _ _ c.if-count-limit.false)

pub loop-count-preserved : goal.loop-count-preserved
loop-count-preserved c =
    let m = c.in-Zeros.more in
    let e = c.in-Zeros.ensures.3 ∙ ap (λ (ys : List Bool). replicate m false ++ ys) (sym c.skip-in-Zeros.ensures) in
    record {
      past = zeros_moved c.args.limit c.loop-count.count m c.loop-count.self c.skip-in-Zeros.new.self _ c.loop-count-test.true e c.loop-count.invariant.past;
      few = omega (arith, c.in-Zeros.ensures.1);
    }

pub returns-clause-reads : goal.returns-clause-reads
returns-clause-reads c = zeros_end c.args.limit c.loop-count.count c.loop-count.self _ c.loop-count-test.false c.loop-count.invariant.past
