use Rattle.std.proofs.Common.{◌≡◌, ℕ, suc, ◌+◌, ◌-◌, ◌<◌, List, Bool, ◌++◌, refl, sym, arith}
use Rattle.std.proofs.lemmas.Result.{err_from_is_err_and}
use Rattle.ff_bits.specs.Reading.{◌>>=◌, give}
use Rattle.ff_flac_frame.specs.Frame.{partition, partitions}
use Rattle.ff_flac_frame.proofs.PassedLemmas.{past_one, one_fails}
use Rattle.ff_flac_frame.proofs.passing.pass_partitions.Goals as goal

-- the first of those that are left, and the others
in_turn : (n i w count : ℕ) (bits : List Bool) → i < n → partitions (n - i) w count bits ≡ (partition w count >>= λ first. partitions (n - (i + 1)) w count >>= λ others. give (first ++ others)) bits
unfolding partitions
in_turn n i w count bits lt = let k : n - i ≡ suc (n - (i + 1)) = omega arith in rw k refl

pub returns-in_err-pass_partition : goal.returns-in_err-pass_partition
returns-in_err-pass_partition c =
    let p = err_from_is_err_and c.from_residual.result c.from_residual.ensures.1 in
    let l = c.loop-i in
    let w = c.args.w in
    let count = c.args.count in
    let e = c.in_err-pass_partition in
    rw (p.1, p.2) (one_fails (λ xs ys. xs ++ ys) (partition w count l.reader) (partitions (c.args.n - (l.i + 1)) w count) (partitions (c.args.n - l.i) w count l.reader) _ (in_turn c.args.n l.i w count l.reader c.loop-i-test.true) l.invariant e.field-0.0 e.ensures)

pub loop-i-preserved : goal.loop-i-preserved
loop-i-preserved c =
    let l = c.loop-i in
    let w = c.args.w in
    let count = c.args.count in
    past_one (λ xs ys. xs ++ ys) (partition w count l.reader) (partitions (c.args.n - (l.i + 1)) w count) (partitions (c.args.n - l.i) w count l.reader) _ (in_turn c.args.n l.i w count l.reader c.loop-i-test.true) l.invariant _ c.in_ok-pass_partition.ensures

pub returns : goal.returns
unfolding partitions
returns c = let k : c.args.n - c.loop-i.i ≡ 0 = omega (arith, c.loop-i-test.false) in sym (rw k at c.loop-i.invariant)
