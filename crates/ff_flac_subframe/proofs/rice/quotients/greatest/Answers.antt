use Rattle.std.proofs.Common.{ℕ, ◌≤◌, take, sym, arith}
use Rattle.std.proofs.lemmas.List.{take_all}
use Rattle.std.proofs.lemmas.List.Elements.{All-more, All-weaker, All-same}
use Rattle.ff_flac_subframe.proofs.rice.quotients.greatest.Goals as goal

pub loop-u-preserved : goal.loop-u-preserved
loop-u-preserved c =
    let m : ℕ = c.max-most.result in
    All-more (λ u. u ≤ m) c.args.part.now c.loop-u.u-index 0 (omega arith)
    (All-weaker (λ u. u ≤ c.loop-u.most) (λ u. u ≤ m) (λ u h. omega (arith, h, c.max-most.ensures)) (take c.loop-u.u-index c.args.part.now) c.loop-u.invariant)
    (omega (arith, c.max-most.ensures))

pub returns : goal.returns
returns c =
    All-same (λ u. u ≤ c.loop-u.most) c.args.part.now (take c.loop-u.u-index c.args.part.now) (sym (take_all c.loop-u.u-index c.args.part.now (omega arith))) c.loop-u.invariant
