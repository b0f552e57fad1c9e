use Rattle.std.proofs.Common.{◌≡◌, ◌<◌, ℕ, inl, inr, length, arith, ap, sym, ◌∙◌}
use Rattle.std.proofs.lemmas.Bool.{cases_lt}
use Rattle.ff_joins.specs.laws.Lots.{Lot, lots}
use Rattle.ff_joins.proofs.Framing.{lots_there}
use Rattle.ff_joins.proofs.rows.any_stands.Goals as goal

pub returns-then-stands_so-clause-yes : goal.returns-then-stands_so-clause-yes
returns-then-stands_so-clause-yes c e =
    let is = c.args.inlets.now in
    let p = c.each.p in
    let lt : p < length is = omega arith in
    let there = lots_there is p c.index-inlets-p.result lt c.index-inlets-p.is in
    let so = c.stands_so.ensures.yes c.if-stands_so.true in
    (p, lt, ap (λ (l : Lot). l.count) there ∙ so.0, ap (λ (l : Lot). l.after) there ∙ so.1)

pub each-preserved : goal.each-preserved
each-preserved c q l e f =
    let is = c.args.inlets.now in
    let p = c.each.p in
    let lt : p < length is = omega arith in
    let there = lots_there is p c.index-inlets-p.result lt c.index-inlets-p.is in
    elim (cases_lt q p) as (λ _. ⊥) [
      | inl less ↦ c.each.invariant q less e f
      | inr le ↦ (
          let same : q ≡ p = omega (arith, l, le) in
          c.stands_so.ensures.no c.if-stands_so.false
          (sym (ap (λ (l : Lot). l.count) there) ∙ (ap (λ (r : ℕ). (lots is r).count) (sym same) ∙ e))
          (sym (ap (λ (l : Lot). l.after) there) ∙ (ap (λ (r : ℕ). (lots is r).after) (sym same) ∙ f))
          )
    ]
