use Rattle.std.proofs.Common.{◌≡◌, ◌++◌, take}
use Rattle.ff_flac_enc.specs.Totals.{samples_bytes}
use Rattle.ff_flac_enc.proofs.counter.push_1.Given as goal

abbrev pub invariant-loop-sample : goal.invariant-loop-sample
invariant-loop-sample l = l.out.items ≡ l.initial.out.items ++ samples_bytes 1 (take l.sample-index l.samples)
