use Rattle.std.proofs.Common.{◌≤◌, ◌<◌, ℕ, Bool, cond, length, ap, ◌∙◌, arith}
use Rattle.std.proofs.lemmas.Bool.{iff_false}
use Rattle.ff_bits.specs.Reading.{Answer, More, Bad}
use Rattle.ff_bits.proofs.OneByte.{part_read}
use Rattle.ff_bits.proofs.reader.BitReader.byte_within.Goals as goal

pub returns-then-touches-clause-reads : goal.returns-then-touches-clause-reads
returns-then-touches-clause-reads c =
    let no : 8 ≤ length c.args.self.now → ⊥ = iff_false c.has.ensures c.if-has.false in
    let few : length c.args.self.now < 8 = omega arith in
    part_read c.args.low c.args.from c.args.to c.args.self.now c.left-there.result c.in_ok-value.value c.touches.result c.requires.order few c.left-there.ensures c.in_ok-value.ensures.taken.value c.in_ok-value.ensures.below c.touches.ensures
    ∙ ap (λ (b : Bool). cond {A = Answer ℕ} b More Bad) c.if-touches.true

pub returns-else-touches-clause-reads : goal.returns-else-touches-clause-reads
returns-else-touches-clause-reads c =
    let no : 8 ≤ length c.args.self.now → ⊥ = iff_false c.has.ensures c.if-has.false in
    let few : length c.args.self.now < 8 = omega arith in
    part_read c.args.low c.args.from c.args.to c.args.self.now c.left-there.result c.in_ok-value.value c.touches.result c.requires.order few c.left-there.ensures c.in_ok-value.ensures.taken.value c.in_ok-value.ensures.below c.touches.ensures
    ∙ ap (λ (b : Bool). cond {A = Answer ℕ} b More Bad) c.if-touches.false
