use Rattle.std.proofs.Common.{◌≡◌, ◌+◌, ◌-◌, ◌*◌, ◌<◌, ◌^◌, ℕ, sym, ap, subst, length, arith, length-drop}
use Rattle.ff_bits.specs.laws.Reads.{IsTaken}
use Rattle.ff_bits.proofs.Peek.{taken_twice, halves, halves_below}
use Rattle.ff_bits.proofs.reader.BitReader.take.Goals as goal

pub returns-clause-taken : goal.returns-clause-taken
returns-clause-taken c =
    let n : ℕ = c.args.n in
    let high : ℕ = c.take_of_word-high.result in
    let low : ℕ = c.take_of_word-low.result in
    let parts : n - 32 + 32 ≡ n = omega arith in
    let both = taken_twice (n - 32) 32 c.args.self.now c.take_of_word-high.new.self c.take_of_word-low.new.self high low c.take_of_word-high.ensures.taken c.take_of_word-low.ensures.taken in
    let whole = halves high low (n - 32) c.take_of_word-high.ensures.below (omega arith) c.take_of_word-low.ensures.below in
    subst (λ (v : ℕ). IsTaken n c.args.self.now v c.take_of_word-low.new.self) (sym whole) (subst (λ (m : ℕ). IsTaken m c.args.self.now (high * 2 ^ 32 + low) c.take_of_word-low.new.self) parts both)

pub returns-clause-below : goal.returns-clause-below
returns-clause-below c =
    let n : ℕ = c.args.n in
    let high : ℕ = c.take_of_word-high.result in
    let low : ℕ = c.take_of_word-low.result in
    let parts : n - 32 + 32 ≡ n = omega arith in
    let whole = halves high low (n - 32) c.take_of_word-high.ensures.below (omega arith) c.take_of_word-low.ensures.below in
    subst (λ (v : ℕ). v < 2 ^ n) (sym whole) (subst (λ (m : ℕ). high * 2 ^ 32 + low < 2 ^ m) parts (halves_below high low (n - 32) c.take_of_word-high.ensures.below c.take_of_word-low.ensures.below))

pub returns-clause-shorter : goal.returns-clause-shorter
returns-clause-shorter c =
    let n : ℕ = c.args.n in
    let both = taken_twice (n - 32) 32 c.args.self.now c.take_of_word-high.new.self c.take_of_word-low.new.self c.take_of_word-high.result c.take_of_word-low.result c.take_of_word-high.ensures.taken c.take_of_word-low.ensures.taken in
    omega (arith, ap length both.left, length-drop (n - 32 + 32) c.args.self.now)
