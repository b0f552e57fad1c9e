-- The samples before the index are those of the bytes.
use Rattle.std.proofs.Common.{◌≡◌, ℕ, ◌<◌, pos, get_or}
use Rattle.ff_pcm.specs.Samples.{sample_in}
use Rattle.ff_pcm.proofs.decode.decode_all.Given as goal

abbrev pub invariant-loop-i : goal.invariant-loop-i
invariant-loop-i g l = (k : ℕ) → k < l.i → get_or l.samples k (pos 0) ≡ sample_in g.S.Sample.bits g.S.Sample.sign g.E.Endian.order l.bytes k
