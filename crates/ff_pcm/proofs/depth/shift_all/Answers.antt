use Rattle.std.proofs.Common.{◌≡◌, ℕ, map, ℤ, ◌*ℤ◌, ◌∙◌, sym, subst, arith, rules, get_or}
use Rattle.std.specs.Int.{w32}
use Rattle.std.specs.Int.RustNames.{FitsSigned}
use Rattle.std.proofs.lemmas.Int.{to_z-of_z}
use Rattle.ff_pcm.specs.Depth.{shifted}
use Rattle.ff_pcm.proofs.DepthLaws.{raised_signed, all_same}
use Rattle.ff_pcm.proofs.depth.shift_all.Goals as goal

pub raise_all-requires : goal.raise_all-requires
raise_all-requires c =
    let fits : FitsSigned w32 c.power.result = search rules in
    record {
      fits = λ k d lt.
          let P : ℤ → Type 0 = λ z. FitsSigned w32 (get_or c.args.samples.now k d *ℤ z) in
          subst P (sym (to_z-of_z w32 c.power.result fits ∙ c.power.ensures)) (raised_signed c.args.from c.args.to (get_or c.args.samples.now k d) (omega arith) (omega arith) (omega arith) (c.requires.fits k d lt));
    }

pub returns-then-from-to : goal.returns-then-from-to
returns-then-from-to c =
    let same : c.args.from ≡ c.args.to = omega (arith, c.if-from-to.true) in
    subst (λ (n : ℕ). c.args.samples.now ≡ map (shifted c.args.from n) c.args.samples.now) same (sym (all_same c.args.from c.args.samples.now))
