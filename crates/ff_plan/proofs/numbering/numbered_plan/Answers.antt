use Rattle.std.proofs.Common.{◌≡◌, ◌≤◌, IfOk, List, length, vec_len, sym, ap, ◌∙◌, subst, arith}
use Rattle.std.specs.List.{AllByRecursion}
use Rattle.std.specs.declared.alloc.Global.{Global}
use Rattle.std.specs.declared.vec.Vec.{Vec}
use Rattle.ff_words.specs.maps.Choice.{lists}
use Rattle.ff_plan_layout.specs.declared.layout.OutStream.{OutStream}
use Rattle.ff_plan_layout.specs.declared.layout.Placed.{Placed}
use Rattle.ff_plan.specs.declared.planned.Plan.{Plan}
use Rattle.ff_plan_layout.specs.Layout.{place_from}
use Rattle.ff_plan_layout.specs.laws.Rows.{rows}
use Rattle.ff_plan_layout.specs.laws.Limits.{IsSmall}
use Rattle.ff_plan.proofs.ByRows.{rows_few, plan_by}
use Rattle.ff_plan_layout.proofs.Sizes.{map_length}
use Rattle.ff_plan_layout.proofs.Bounds.{small_places}
use Rattle.ff_plan.proofs.numbering.numbered_plan.Goals as goal

pub place-requires-clause-few : goal.place-requires-clause-few
place-requires-clause-few c =
    subst (λ (all : List (Vec OutStream Global)). AllByRecursion (λ v. vec_len v ≤ 16) all) (sym c.as_slice.ensures.value) (rows_few 0 0 c.args.laying.outputs.items c.requires.few)

pub plan_placed-requires-clause-small : goal.plan_placed-requires-clause-small
plan_placed-requires-clause-small c =
    let all = c.args.laying.outputs.items in
    let places = c.as_slice-3.ensures.value ∙ (c.in_ok-placed.ensures ∙ ap (λ (l : List (Vec OutStream Global)). place_from 0 0 (rows l)) c.as_slice.ensures.value) in
    let long : length (rows all) ≤ 16 = (let a = map_length (λ (v : Vec OutStream Global). v.items) all in let h = c.requires.outputs in omega (arith, a, h)) in
    subst (λ (ps : List Placed). AllByRecursion IsSmall ps) (sym places) (small_places (rows all) c.requires.few long)

pub returns : goal.returns
returns c =
    let all = c.args.laying.outputs.items in
    let places = c.as_slice-3.ensures.value ∙ (c.in_ok-placed.ensures ∙ ap (λ (l : List (Vec OutStream Global)). place_from 0 0 (rows l)) c.as_slice.ensures.value) in
    let long : c.len.result ≡ length (rows all) = (let a = c.len.ensures in let b = c.args.laying.outputs.ok.0 in let d = map_length (λ (v : Vec OutStream Global). v.items) all in omega (arith, a, b, d)) in
    subst (λ (q : Plan). IfOk c.plan_placed.result (λ p. p ≡ q))
    (plan_by (lists c.args.heads.now) c.args.laying.made.items c.args.laying.graphs.items (rows all) c.args.laying.texts.items c.as_slice-2.result.now c.as_slice-3.result.now c.len.result c.as_slice-2.ensures.value places long)
    c.plan_placed.ensures
