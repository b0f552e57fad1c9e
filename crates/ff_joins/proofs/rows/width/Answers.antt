use Rattle.std.proofs.Common.{◌≡◌, ◌<◌, ◌+◌, ℕ, suc, length, arith, ap, sym, ◌∙◌}
use Rattle.ff_joins.specs.declared.sound_inlet.SoundInlet.{SoundInlet}
use Rattle.ff_joins.specs.JoinOptions.{channels_of}
use Rattle.ff_joins.specs.laws.JoinCuts.{width_to}
use Rattle.ff_joins.specs.laws.Lots.{Lot, lots}
use Rattle.ff_joins.proofs.Framing.{lots_there}
use Rattle.ff_joins.proofs.rows.width.Goals as goal

pub each-preserved : goal.each-preserved
each-preserved c =
    let is = c.args.inlets.now in
    let p = c.each.p in
    let lt : p < length is = omega arith in
    let n : suc p ≡ p + 1 = omega arith in
    let here : (lots is p).channels ≡ c.channels.result = ap (λ (l : Lot). l.channels) (lots_there is p c.index-inlets-p.result lt c.index-inlets-p.is) ∙ (ap (λ
    (j : SoundInlet). channels_of j.head) c.index-inlets-p.is ∙ sym c.channels.ensures) in
    let next : width_to (lots is) (p + 1) ≡ width_to (lots is) p + (lots is p).channels = ap (λ (k : ℕ). width_to (lots is) k) (sym n) in
    record {
      total = let a = c.each.invariant.total in omega (arith, a, here, next);
      few = let a = c.each.invariant.few in omega (arith, a);
    }
