use Rattle.std.proofs.Common.{◌≡◌, ◌<◌, ◌+◌, ◌*◌, [], length, true, false, inl, inr, sym, ◌∙◌, arith}
use Rattle.ff_filter.specs.declared.after.After.TheVariants.{More, Whole, Broke}
use Rattle.ff_concat.specs.laws.Queues.{queue_at}
use Rattle.ff_concat.proofs.Lookups.{queue_read, after_get}
use Rattle.ff_concat.proofs.Losing.{lost_not, lost_bare, lost_on, lost_break}
use Rattle.ff_concat.proofs.standing.is_lost.Goals as goal
use Rattle.ff_concat.specs.laws.TrackLaws.{port_there}

pub returns-then-not-is_empty : goal.returns-then-not-is_empty
returns-then-not-is_empty c =
    let bs = c.args.backlogs.now.items in
    let k = c.segments.segment in
    let lt : k < length bs = omega arith in
    sym (sym c.segments.invariant ∙ lost_not bs c.args.reaches.now c.args.width c.args.number k lt
    (λ e. let clash : true ≡ false = sym (c.is_empty.ensures.some (sym (queue_read bs k c.index.result.now lt c.index.ensures) ∙ e)) ∙ c.if-not-is_empty.true in cc))

pub returns-in-More : goal.returns-in-More
returns-in-More c =
    let bs = c.args.backlogs.now.items in
    let k = c.segments.segment in
    let lt : k < length bs = omega arith in
    let inputs = c.requires.inputs in
    let there = port_there c.args.width k c.args.number (length bs) lt c.requires.stream in
    let none : queue_at bs k ≡ [] = queue_read bs k c.index.result.now lt c.index.ensures ∙ c.is_empty.ensures.empty c.if-not-is_empty.false in
    sym (sym c.segments.invariant ∙ lost_bare bs c.args.reaches.now c.args.width c.args.number k lt none _ (after_get c.args.reaches.now (k * c.args.width + c.args.number) _ (omega (arith, there, inputs)) ∙ c.in-More.is))

pub returns-in-Broke : goal.returns-in-Broke
returns-in-Broke c =
    let bs = c.args.backlogs.now.items in
    let k = c.segments.segment in
    let lt : k < length bs = omega arith in
    let inputs = c.requires.inputs in
    let there = port_there c.args.width k c.args.number (length bs) lt c.requires.stream in
    let none : queue_at bs k ≡ [] = queue_read bs k c.index.result.now lt c.index.ensures ∙ c.is_empty.ensures.empty c.if-not-is_empty.false in
    sym (sym c.segments.invariant ∙ lost_bare bs c.args.reaches.now c.args.width c.args.number k lt none _ (after_get c.args.reaches.now (k * c.args.width + c.args.number) _ (omega (arith, there, inputs)) ∙ c.in-Broke.is))

pub returns-in-Broke-together : goal.returns-in-Broke-together
returns-in-Broke-together c =
    let bs = c.args.backlogs.now.items in
    let k = c.segments.segment in
    let lt : k < length bs = omega arith in
    let inputs = c.requires.inputs in
    let there = port_there c.args.width k c.args.number (length bs) lt c.requires.stream in
    let none : queue_at bs k ≡ [] = queue_read bs k c.index.result.now lt c.index.ensures ∙ c.is_empty.ensures.empty c.if-not-is_empty.false in
    sym (sym c.segments.invariant ∙ lost_break bs c.args.reaches.now c.args.width c.args.number k lt none (after_get c.args.reaches.now (k * c.args.width + c.args.number) _ (omega (arith, there, inputs)) ∙ c.in-Whole.is) c.in-Broke-together.ensures)

pub segments-preserved : goal.segments-preserved
segments-preserved c =
    let bs = c.args.backlogs.now.items in
    let k = c.segments.segment in
    let lt : k < length bs = omega arith in
    let inputs = c.requires.inputs in
    let there = port_there c.args.width k c.args.number (length bs) lt c.requires.stream in
    let none : queue_at bs k ≡ [] = queue_read bs k c.index.result.now lt c.index.ensures ∙ c.is_empty.ensures.empty c.if-not-is_empty.false in
    lost_on bs c.args.reaches.now c.args.width c.args.number k lt none (after_get c.args.reaches.now (k * c.args.width + c.args.number) _ (omega (arith, there, inputs)) ∙ c.in-Whole.is) c.together.result c.together.ensures
    (λ b. elim c.in-Whole-together.is as (λ _. ⊥) [ inl e ↦ (let clash : Whole ≡ Broke = sym e ∙ b in cc) | inr e ↦ (let clash : More ≡ Broke = sym e ∙ b in cc) ])
    ∙ c.segments.invariant
