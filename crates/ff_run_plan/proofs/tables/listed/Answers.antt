use Rattle.std.proofs.Common.{◌≡◌, List, [], ◌∷◌, ◌++◌, map, Option, Some, None, ap, sym, ◌∙◌, arith}
use Rattle.std.specs.Vec.Iter.{into_iter_items}
use Rattle.ff_run_plan.proofs.Places.{no_empty, all_full, no_length}
use Rattle.ff_run_plan.proofs.tables.listed.Goals as goal

pub unreachable-requires : goal.unreachable-requires
unreachable-requires g c =
    let items = c.loop-place.items.items in
    let left = into_iter_items c.next.new.self in
    let steps : into_iter_items c.loop-place.place-iterator ≡ None ∷ left = c.in-Some.ensures.steps.0 ∙ ap (λ (p : Option g.row.T.Denot). p ∷ left) c.in-None-place.is in
    no_empty items c.requires.full.0 left (ap (λ (zs : List (Option g.row.T.Denot)). map Some items ++ zs) (sym steps) ∙ (c.loop-place.invariant.parts ∙ c.requires.full.1))

pub returns : goal.returns
returns g c = λ all e.
    let items = c.loop-place.items.items in
    let steps : into_iter_items c.loop-place.place-iterator ≡ [] = no_length (into_iter_items c.loop-place.place-iterator) (let ok = c.loop-place.place-iterator.rest.ok.0 in let none = c.in-None.ensures.steps.0 in omega (arith, ok, none)) in
    all_full items all (ap (λ (zs : List (Option g.row.T.Denot)). map Some items ++ zs) (sym steps) ∙ (c.loop-place.invariant.parts ∙ e))
