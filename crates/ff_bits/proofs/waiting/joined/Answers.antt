use Rattle.std.proofs.Common.{ap, ◌∙◌}
use Rattle.std.specs.Prelude.{bit_or}
use Rattle.std.proofs.lemmas.Nat.{or_shifted}
use Rattle.std.proofs.Math.Nat.{mod-eq_of_lt}
use Rattle.ff_bits.proofs.waiting.joined.Goals as goal

pub returns : goal.returns
returns c = ap (λ k. bit_or k c.args.low) (mod-eq_of_lt c.requires.fits) ∙ or_shifted c.args.high c.args.count c.args.low c.requires.low
