use Rattle.std.proofs.Common.{◌≡◌, ℕ, ◌+◌, ◌≤◌, List, take, length, sym, ap, ◌∙◌, ◌++◌, arith}
use Rattle.std.proofs.lemmas.List.{length-take-le}
use Rattle.std.specs.Prelude.{Ok}
use Rattle.ff_plan_layout.specs.declared.layout.InPad.{InPad}
use Rattle.ff_plan_layout.specs.laws.Picking.{inside_of, used_before, used_by}
use Rattle.ff_plan_layout.specs.Streams.{mapped, all_mapped, front_with}
use Rattle.ff_plan_layout.proofs.Picked.{map_at, map_next, from_map}
use Rattle.ff_plan_layout.proofs.picking.all_mapped.Goals as goal

pub loop-number-preserved : goal.loop-number-preserved
loop-number-preserved c =
    let inside = inside_of c.args.ready.now in
    let graphs = c.args.ready.now.graphs.now in
    let earlier = c.args.earlier.now in
    let out = c.args.out.now in
    let o = length earlier in
    let maps = c.as_slice-maps.result.now in
    let n = c.loop-number.number in
    let spec = c.index-maps-number.result in
    let more = c.in_ok-more.more.items in
    let le : n ≤ length maps = (let t = c.loop-number-test.true in omega (arith, t)) in
    let made : map_at inside graphs earlier out o maps n spec ≡ Ok more =
    ap (λ (k : ℕ). mapped inside out o k (used_by graphs earlier (take n maps)) spec.optional spec.from) (sym (length-take-le n maps le)) ∙ c.in_ok-more.ensures.made in
    map_next inside graphs earlier out o maps n spec c.loop-number.pads.items more (all_mapped inside out o 0 (used_before graphs earlier) out.maps) c.loop-number-test.true c.index-maps-number.is made c.loop-number.invariant
    ∙ ap (λ (l : List InPad). front_with l (from_map inside graphs earlier out o maps (n + 1)))
    (ap (λ (l : List InPad). c.loop-number.pads.items ++ l) (sym c.as_slice.ensures.value) ∙ sym c.in_ok-extend_from_slice.ensures.items)
