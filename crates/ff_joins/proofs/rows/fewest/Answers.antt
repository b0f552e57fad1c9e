use Rattle.std.proofs.Common.{◌≡◌, ◌<◌, ◌≤◌, ℕ, inl, inr, length, slice_index_or, arith, ap, sym, ◌∙◌, subst}
use Rattle.std.proofs.lemmas.Bool.{cases_lt}
use Rattle.ff_joins.specs.declared.sound_inlet.SoundInlet.{SoundInlet}
use Rattle.ff_joins.specs.laws.Lots.{Lot, lots}
use Rattle.ff_joins.proofs.Framing.{lots_there}
use Rattle.ff_joins.proofs.rows.fewest.Goals as goal

pub each-preserved : goal.each-preserved
each-preserved c =
    let is = c.args.inlets.now in
    let p = c.each.p in
    let lt : p < length is = omega arith in
    let i = c.index-inlets-p.result in
    let e : (lots is p).count ≡ (slice_index_or is p i).count = ap (λ (l : Lot). l.count) (lots_there is p i lt c.index-inlets-p.is) ∙ ap (λ
    (j : SoundInlet). j.count) c.index-inlets-p.is in
    let left = c.lesser-least.ensures.left in
    let right = c.lesser-least.ensures.right in
    record {
      least = λ q l. elim (cases_lt q p) as (λ _. c.lesser-least.result ≤ (lots is q).count) [
        | inl less ↦ (let h = c.each.invariant.least q less in omega (arith, h, right))
        | inr le ↦ (let f : p ≡ q = omega (arith, l, le) in subst (λ (r : ℕ). c.lesser-least.result ≤ (lots is r).count) f (omega (arith, e, left)))
      ];
      there = elim c.lesser-least.ensures.either as (λ _. (q : ℕ) × (q < length is) × ((lots is q).count ≡ c.lesser-least.result)) [
        | inl h ↦ (p, lt, e ∙ sym h)
        | inr h ↦ (c.each.invariant.there.0, c.each.invariant.there.1, c.each.invariant.there.2 ∙ sym h)
      ];
    }
