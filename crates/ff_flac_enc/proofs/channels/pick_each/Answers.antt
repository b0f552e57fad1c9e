use Rattle.std.proofs.Common.{◌≡◌, ◌∙◌, sym, length, arith, rules, ℤ, w32}
use Rattle.std.specs.Prelude.{FitsSigned}
use Rattle.std.proofs.lemmas.Int.{to_z-of_z}
use Rattle.std.proofs.lemmas.List.{length-set}
use Rattle.ff_flac_enc.proofs.Apart.{sample_at, next_sample, all_picked}
use Rattle.ff_flac_enc.proofs.channels.pick_each.Goals as goal

pub loop-t-preserved : goal.loop-t-preserved
loop-t-preserved c =
    let x : ℤ = sample_at c.args.n c.args.samples.now c.args.c c.loop-t.t in
    let fits : FitsSigned w32 x = search rules in
    let same : length c.loop-t.out ≡ length c.args.out.now = c.loop-t.invariant.len ∙ sym c.requires.len in
    let n = c.args.n in
    record {
      len = length-set c.loop-t.out c.loop-t.t _ ∙ c.loop-t.invariant.len;
      is = next_sample n c.args.c c.args.samples.now c.loop-t.out c.loop-t.t _ (omega (arith, same, c.loop-t-test.true)) (to_z-of_z w32 x fits) c.loop-t.invariant.is;
    }

pub returns : goal.returns
returns c = all_picked c.args.n c.args.c c.args.samples.now c.loop-t.out c.loop-t.t c.loop-t.invariant.len (omega arith) c.loop-t.invariant.is
