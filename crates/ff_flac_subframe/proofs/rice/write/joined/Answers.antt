use Rattle.std.proofs.Common.{ℕ, ◌+◌, ap, ◌∙◌, arith}
use Rattle.std.specs.Prelude.{bit_or}
use Rattle.std.proofs.lemmas.Nat.{or_shifted}
use Rattle.std.proofs.Math.Nat.{mod-eq_of_lt}
use Rattle.ff_bits.specs.Bits.{bits_of}
use Rattle.ff_bits.proofs.BitsOf.{bits_of-add}
use Rattle.ff_bits.proofs.WriterLemmas.{joined_below, joined_fits}
use Rattle.ff_flac_subframe.proofs.rice.write.joined.Goals as goal

pub returns-clause-below : goal.returns-clause-below
returns-clause-below c =
    let high : ℕ = c.args.high in
    let low : ℕ = c.args.low in
    rw (mod-eq_of_lt (joined_fits high c.args.m low c.args.n c.requires.high c.requires.low (omega arith)), or_shifted high c.args.n low c.requires.low)
    (joined_below high c.args.m low c.args.n c.requires.high c.requires.low)

pub returns-clause-bits : goal.returns-clause-bits
returns-clause-bits c =
    let high : ℕ = c.args.high in
    let low : ℕ = c.args.low in
    ap (λ v. bits_of (c.args.m + c.args.n) (bit_or v low)) (mod-eq_of_lt (joined_fits high c.args.m low c.args.n c.requires.high c.requires.low (omega arith)))
    ∙ ap (bits_of (c.args.m + c.args.n)) (or_shifted high c.args.n low c.requires.low)
    ∙ bits_of-add c.args.m c.args.n high low c.requires.low
