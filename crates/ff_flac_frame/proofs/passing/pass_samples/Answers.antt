use Rattle.std.proofs.Common.{◌≡◌, suc, ◌+◌, ◌-◌, ◌∷◌, ap, refl, arith}
use Rattle.ff_bits.specs.Reading.{◌>>=◌, give, times}
use Rattle.ff_flac_frame.specs.Frame.{sample}
use Rattle.ff_flac_frame.proofs.PassedLemmas.{past, past_one}
use Rattle.ff_flac_frame.proofs.passing.pass_samples.Goals as goal

pub loop-i-preserved : goal.loop-i-preserved
loop-i-preserved c =
    let l = c.loop-i in
    let r = sample c.args.depth in
    let others = times (c.args.count - (l.i + 1)) r in
    let k : c.args.count - l.i ≡ suc (c.args.count - (l.i + 1)) = omega (arith, c.loop-i-test.true) in
    let in_turn : times (c.args.count - l.i) r l.reader ≡ (r >>= λ x. others >>= λ xs. give (x ∷ xs)) l.reader = rw k refl in
    past_one (λ x xs. x ∷ xs) (r l.reader) others (times (c.args.count - l.i) r l.reader) _ in_turn l.invariant _ (ap past c.in_ok-read_sample.ensures.reads)
