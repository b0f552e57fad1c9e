use Rattle.std.proofs.Common.{◌≡◌, ◌++◌, ◌*ℤ◌, map, drop}
use Rattle.ff_flac_dec.proofs.channel.raise_all.Given as goal

abbrev pub invariant-loop-sample : goal.invariant-loop-sample
invariant-loop-sample l = l.out.items ++ map (λ x. x *ℤ l.factor) (drop l.sample-index l.samples) ≡ map (λ x. x *ℤ l.factor) l.samples
