use Rattle.std.proofs.Common.{◌<◌, ◌≢◌, inl, inr, ℕ, pos, get_or, sym, ◌∙◌, arith, rules}
use Rattle.std.specs.Int.{w32}
use Rattle.std.specs.Int.RustNames.{FitsSigned}
use Rattle.std.proofs.lemmas.Int.{to_z-of_z}
use Rattle.ff_pcm.proofs.NumberLaws.{here_or_before}
use Rattle.ff_pcm.proofs.encode.encode_all.Goals as goal

apart : (k i : ℕ) → k < i → k ≢ i
apart k i lt e = omega (arith, lt, e)

pub loop-i-preserved : goal.loop-i-preserved
loop-i-preserved g c =
    let fits : FitsSigned w32 (get_or c.args.samples.now c.loop-i.i (pos 0)) = search rules in
    λ k lt. elim (here_or_before k c.loop-i.i lt) [
      | inl e ↦ rw e (sym (c.write.ensures.here ∙ to_z-of_z w32 (get_or c.args.samples.now c.loop-i.i (pos 0)) fits))
      | inr less ↦ c.loop-i.invariant k less ∙ sym (c.write.ensures.others k (apart k c.loop-i.i less))
    ]
