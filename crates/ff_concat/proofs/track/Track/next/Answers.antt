use Rattle.std.proofs.Common.{◌≡◌, ◌-◌, ◌∙◌, ℕ, refl, ap, sym, inl, inr, length, subst}
use Rattle.ff_stream.specs.declared.item.Item.{Item}
use Rattle.ff_stream.specs.declared.item.Lane.TheVariants.{Frames}
use Rattle.ff_stream.specs.Within.{passes_limits}
use Rattle.ff_filter.specs.declared.after.After.{After}
use Rattle.ff_filter.specs.Joins.{before}
use Rattle.ff_filter.specs.laws.Limits.{limited}
use Rattle.ff_concat.specs.Concats.{in_order, later}
use Rattle.ff_concat.specs.laws.Tracks.{own, tails, output_of}
use Rattle.ff_concat.specs.laws.Standing.{StandsAs}
use Rattle.ff_concat.specs.laws.Moves.{Gave, Told, Waits}
use Rattle.ff_concat.proofs.Same.{unchanged_goes_on, alike_by, alike_filled, alike_inside}
use Rattle.ff_concat.proofs.CutSteps.{late_gave}
use Rattle.ff_concat.proofs.Draws.{told_gave, item_made, broke_gave, more_waits, passed_back}
use Rattle.ff_concat.proofs.track.Track.next.Goals as goal

pub returns-then-is_next_late-clause-gives : goal.returns-then-is_next_late-clause-gives
returns-then-is_next_late-clause-gives c x e =
    late_gave c.args.ticks.now c.args.number c.args.self.now _ c.args.reaches.now c.requires.open c.requires.there c.requires.no_zeros
    (sym c.is_next_late.ensures ∙ c.if-is_next_late.true) refl refl refl refl x (cc (e))

pub returns-in-Some-clause-gives : goal.returns-in-Some-clause-gives
returns-in-Some-clause-gives c x e =
    let t = c.args.self.now in
    let z = c.take_next.new.self in
    let rs = c.args.reaches.now in
    let ts = c.args.ticks.now in
    let q = c.args.number in
    let taken = c.in-Some.ensures.some in
    let told : Told z c.give.new.self c.later-item.result c.give.result = c.give.ensures.told in
    let same : later t.by c.in-Some.item ≡ c.later-item.result = sym (c.later-item.ensures ∙ ap (λ (n : ℕ). later n c.in-Some.item) (alike_by t z taken.alike)) in
    subst (λ (y : Item). Gave t c.give.new.self ts q rs y) (cc (e))
    (told_gave ts q t z c.give.new.self rs c.later-item.result c.give.result c.requires.open taken.alike.head taken.alike.backlogs taken.alike.stopped told
    (λ ext. item_made ts q t rs c.requires.there z c.in-Some.item taken c.requires.no_zeros ext
    ∙ ap (λ (y : Item). limited (passes_limits (Frames z.head)) z.before (before y (in_order ts (output_of z.head z.tick q) (length z.backlogs.items - z.current) z.current z.begin z.end
    (own z.backlogs.items rs (length ts) q ext) (tails rs ext)))) same))

pub returns-in-Broke-clause-gives : goal.returns-in-Broke-clause-gives
returns-in-Broke-clause-gives c x e =
    let t = c.args.self.now in
    let z = c.take_next.new.self in
    let p = c.in-None.ensures.none refl in
    broke_gave c.args.ticks.now c.args.number t z _ c.args.reaches.now c.requires.stream c.requires.open p.0 (alike_inside t z p.0.alike c.requires.there)
    (alike_filled t z p.0.alike ∙ c.requires.no_zeros) p.1 c.in-Broke.ensures refl refl refl refl x (cc (e))

pub returns-in-More : goal.returns-in-More
returns-in-More c =
    let t = c.args.self.now in
    let z = c.take_next.new.self in
    let rs = c.args.reaches.now in
    let ts = c.args.ticks.now in
    let q = c.args.number in
    let p = c.in-None.ensures.none refl in
    let s = c.standing.ensures in
    record {
      gives = λ x e. cc;
      waits = λ e. elim c.in-More.is as (λ _. Waits t z ts q rs) [
        | inl m ↦ more_waits ts q t z rs c.requires.open p.0 (unchanged_goes_on ts q t z rs p.0) (alike_inside t z p.0.alike c.requires.there)
            (alike_filled t z p.0.alike ∙ c.requires.no_zeros) p.1 (subst (λ (a : After). StandsAs a z rs (length ts) q) m s)
        | inr w ↦ absurd (c.requires.not (passed_back t z rs (length ts) q p.0 c.requires.no_zeros p.1 (subst (λ (a : After). StandsAs a z rs (length ts) q) w s)))
      ];
    }
