use Rattle.std.proofs.Common.{◌≡◌, ◌+◌, ◌-◌, ◌/◌, ◌^◌, ◌++◌, ap, ◌∙◌, sym, arith}
use Rattle.std.proofs.lemmas.List.{append-nil}
use Rattle.ff_bits.specs.Bits.{bits_of}
use Rattle.ff_bits.proofs.BitsOf.{bits_of-zero}
use Rattle.ff_bits.proofs.WriterLemmas.{high_below, joined_fits, filled_bits, low_part}
use Rattle.ff_bits.proofs.waiting.filled.Goals as goal

pub returns-then-count-eq0-clause-bits : goal.returns-then-count-eq0-clause-bits
returns-then-count-eq0-clause-bits c =
    let zero_left : c.args.count + c.args.n - 64 ≡ 0 = omega arith in
    let sixty_four : 64 ≡ c.args.n = omega arith in
    ap (λ m. bits_of 64 c.args.value ++ bits_of m 0) zero_left
    ∙ ap (λ l. bits_of 64 c.args.value ++ l) (bits_of-zero 0)
    ∙ append-nil (bits_of 64 c.args.value)
    ∙ ap (λ m. bits_of m c.args.value) sixty_four
    ∙ sym (ap (λ l. l ++ bits_of c.args.n c.args.value) (ap (λ m. bits_of m c.args.word) c.if-count-eq0.true ∙ bits_of-zero c.args.word))

pub joined-requires-clause-low : goal.joined-requires-clause-low
joined-requires-clause-low c =
    high_below c.args.value (64 - c.args.count) (c.args.count + c.args.n - 64) c.args.n c.requires.value (omega arith)

pub joined-requires-clause-fits : goal.joined-requires-clause-fits
joined-requires-clause-fits c =
    joined_fits c.args.word c.args.count (c.args.value / 2 ^ (c.args.count + c.args.n - 64)) (64 - c.args.count) c.requires.word
    (high_below c.args.value (64 - c.args.count) (c.args.count + c.args.n - 64) c.args.n c.requires.value (omega arith)) (omega arith)

pub returns-clause-bits : goal.returns-clause-bits
returns-clause-bits c =
    filled_bits c.args.word c.args.count c.args.value c.args.n (64 - c.args.count) (c.args.count + c.args.n - 64) c.joined.result _ (omega arith) (omega arith)
    (high_below c.args.value (64 - c.args.count) (c.args.count + c.args.n - 64) c.args.n c.requires.value (omega arith))
    c.joined.ensures (low_part c.args.value (c.args.count + c.args.n - 64) c.ranges.value.fits)
