use Rattle.std.proofs.Common.{◌≡◌, true, ℤ, pos, get_or, take, sym, subst, arith, rules, w32}
use Rattle.std.specs.Prelude.{FitsSigned}
use Rattle.std.proofs.lemmas.Int.{to_z-of_z}
use Rattle.std.proofs.lemmas.List.{take_all}
use Rattle.std.proofs.lemmas.List.Elements.{All-more, All-same}
use Rattle.ff_frame.specs.Audio.{FitsBits}
use Rattle.ff_rows_calls.proofs.residuals.all_fit.Goals as goal

pub loop-x-preserved : goal.loop-x-preserved
loop-x-preserved c =
    let P : ℤ → Type 0 = FitsBits c.args.depth in
    let t : c.fits.result ≡ true = search rules in
    let x : ℤ = get_or c.args.samples.now c.loop-x.x-index (pos 0) in
    let fx : FitsSigned w32 x = search rules in
    let fit : P x = subst P (to_z-of_z w32 x fx) (c.fits.ensures t) in
    All-more P c.args.samples.now c.loop-x.x-index (pos 0) (omega arith) c.loop-x.invariant fit

pub returns : goal.returns
returns c =
    λ t. All-same (FitsBits c.args.depth) c.args.samples.now (take c.loop-x.x-index c.args.samples.now) (sym (take_all c.loop-x.x-index c.args.samples.now (omega arith))) c.loop-x.invariant
