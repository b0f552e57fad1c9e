use Rattle.std.proofs.Common.{◌≡◌, List, [], map, sym, ap, ◌∙◌, subst}
use Rattle.std.proofs.lemmas.Option.{slice_get-get_or, slice_get_past}
use Rattle.std.specs.Prelude.{Option, Some, IfErr, slice_get}
use Rattle.std.specs.List.{filter_map}
use Rattle.ff_lang.specs.declared.graph.Graph.{Graph}
use Rattle.ff_plan_layout.specs.declared.layout.InPad.{InPad}
use Rattle.ff_plan_layout.specs.Pads.{Made, Want, configure, made_of, pad_in, head_in}
use Rattle.ff_plan_layout.specs.laws.Refusals.{IsRefused}
use Rattle.ff_plan_layout.specs.Rules.{OpenOut, Planned}
use Rattle.ff_plan_layout.proofs.Fronts.{fine}
use Rattle.ff_plan_layout.proofs.making.configure.Goals as goal

pub returns-in-Some-clause-refused : goal.returns-in-Some-clause-refused
returns-in-Some-clause-refused g c =
    let rules = g.F.Filtering.rules c.args.filtering.now in
    let made = c.args.made.now in
    let graphs = c.args.graphs.now in
    let n = c.args.number in
    let graph = c.in-Some.graph.now in
    let row = c.row_of.result.now in
    let there : slice_get graphs n ≡ Some graph = slice_get-get_or graphs n graph c.in-Some.ensures.lookup.3.0 ∙ ap (λ (x : Graph). Some x) (sym c.in-Some.ensures.lookup.1) in
    let same : configure rules made c.args.wants.now n (slice_get graphs n) ≡ made_of n (filter_map (pad_in made) row) (rules.configured graph (map (λ (w : Want). head_in (pad_in made w)) row)) =
    ap (λ (o : Option Graph). configure rules made c.args.wants.now n o) there
    ∙ ap (λ (r : List Want). made_of n (filter_map (pad_in made) r) (rules.configured graph (map (λ (w : Want). head_in (pad_in made w)) r))) (sym c.row_of.ensures.row) in
    subst (λ (r : Planned Made). IfErr c.made_with.result (IsRefused r)) (sym same) c.made_with.ensures.refused

pub returns-in-None-clause-made : goal.returns-in-None-clause-made
returns-in-None-clause-made g c =
    let rules = g.F.Filtering.rules c.args.filtering.now in
    let made = c.args.made.now in
    let graphs = c.args.graphs.now in
    let n = c.args.number in
    ap (λ (o : Option Graph). configure rules made c.args.wants.now n o) (slice_get_past graphs n c.in-None.ensures.lookup.3)
    ∙ (ap (λ (ins : List InPad). fine {X = Made} (record { laid = record { graph = n; ins = ins }; outs = [] })) (sym c.new.ensures)
    ∙ ap (λ (outs : List OpenOut). fine {X = Made} (record { laid = record { graph = n; ins = c.new.result }; outs = outs })) (sym c.new-in-None.ensures))
