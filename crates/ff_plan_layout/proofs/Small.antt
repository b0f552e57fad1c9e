-- A plan has at most 16 streams.
use Rattle.std.proofs.Common.{◌≡◌, ℕ, ◌+◌, ◌≤◌, Bool, true, false, List, [], ◌∷◌, map, length, Option, Some, None, refl, subst, arith}
use Rattle.std.specs.Prelude.{Ok, nat_lt}
use Rattle.std.specs.List.{flat_map}
use Rattle.std.proofs.lemmas.Bool.Decides.{nat_tests}
use Rattle.ff_frame.specs.declared.head.StreamHead.{StreamHead}
use Rattle.ff_words.specs.declared.job.Job.{Job}
use Rattle.ff_plan_layout.specs.declared.error.PlanError.{PlanError}
use Rattle.ff_plan_layout.specs.declared.error.PlanError.TheVariants as fault
use Rattle.ff_plan_layout.specs.Labels.{taken_labels, labels_fault}
use Rattle.ff_plan_layout.specs.Layout.{Layout, placed, place_row, place_from}
use Rattle.ff_plan_layout.specs.Order.{numbers, loop_fault}
use Rattle.ff_plan_layout.specs.Pads.{Made, make_all, unlabelled}
use Rattle.ff_plan_layout.specs.LaidOut.{outputs_from, layout_of, limited, laid_out, unused_label, simple_graphs}
use Rattle.ff_plan_layout.specs.Rules.{Rules, Planned, behind, unless, where_so}
use Rattle.ff_plan_layout.specs.Sources.{sources_of, sources_fault}
use Rattle.ff_plan_layout.specs.Streams.{Inside, Passed}
use Rattle.ff_plan_layout.proofs.Sizes.{joined_length, row_length, map_length}
use Rattle.ff_plan_layout.proofs.Results.{not_ok, same_ok, behind_ok, unless_ok}

unless_none : {Y : Type 0} (o : Option PlanError) (r : Planned Y) (y : Y) → unless o r ≡ Ok y → o ≡ None
unless_none None r y h = refl
unless_none (Some e) r y h = absurd (not_ok e y h)

abbrev IsRefusal : Option PlanError → Type 0
IsRefusal None = ⊥
IsRefusal (Some e) = Unit {0}

where_step : (n : ℕ) (e : PlanError) (b : Bool) → nat_lt 16 n ≡ b → where_so b e ≡ None → n ≤ 16
where_step n e false t h = grind (arith, nat_tests)
where_step n e true t h = absurd (subst IsRefusal h tt)

where_none : (n : ℕ) (e : PlanError) → where_so (nat_lt 16 n) e ≡ None → n ≤ 16
where_none n e h = where_step n e (nat_lt 16 n) refl h

pub as_many : (n o : ℕ) (outs : List (List Passed)) → length (place_from n o (map (λ ps. map (λ p. p.what) ps) outs)) ≡ length (flat_map (λ ps. ps) outs)
as_many n o [] = refl
as_many n o (ps ∷ outs) =
    let row = map (λ (p : Passed). p.what) ps in
    let rest = map (λ (ps : List Passed). map (λ (p : Passed). p.what) ps) outs in
    let a = joined_length (place_row n o 0 row) (place_from (n + length row) (o + 1) rest) in
    let b = row_length n o 0 row in
    let m = map_length (λ (p : Passed). p.what) ps in
    let e = joined_length ps (flat_map (λ (ps : List Passed). ps) outs) in
    let r = as_many (n + length row) (o + 1) outs in
    omega (arith, a, b, m, e, r)

pub few : (rules : Rules) (job : Job) (heads : List (List StreamHead)) (l : Layout) → laid_out rules job heads ≡ Ok l → length (placed l) ≤ 16
few rules job heads l h =
    let inside : List Made → Inside = λ made. record { heads = heads; graphs = job.graphs; made = made } in
    let outs_of : List Made → Planned (List (List Passed)) = λ made. outputs_from rules (record { heads = heads; graphs = job.graphs; made = made }) 0 (length job.graphs) (taken_labels job.graphs) (unlabelled made (numbers job.graphs)) job.outputs in
    let last : Planned Layout = behind (make_all rules heads job.graphs) (λ made. behind (outs_of made) (λ outs. limited rules job heads made outs)) in
    let sound : Planned Layout = unless (sources_fault rules 0 job.graphs) last in
    let next : Planned Layout = unless (loop_fault rules job.graphs) sound in
    let named = unless_ok (labels_fault rules heads job.graphs) next l h in
    let unlooped = unless_ok (loop_fault rules job.graphs) sound l named in
    let m = behind_ok (make_all rules heads job.graphs) (λ made. behind (outs_of made) (λ outs. limited rules job heads made outs)) l (unless_ok (sources_fault rules 0 job.graphs) last l unlooped) in
    let o = behind_ok (outs_of m.0) (λ outs. limited rules job heads m.0 outs) l m.2 in
    let count = length (flat_map (λ (ps : List Passed). ps) o.0) in
    let streams = where_so (nat_lt 16 count) fault.TooManyStreams in
    let wide = where_so (nat_lt 16 (length job.graphs + simple_graphs o.0)) fault.TooManyGraphs in
    let deep = where_so (nat_lt 16 (length heads + length (sources_of rules job.graphs))) fault.TooManySources in
    let done : Planned Layout = Ok (layout_of rules job heads m.0 o.0) in
    let shallow : Planned Layout = unless deep done in
    let narrow : Planned Layout = unless wide shallow in
    let at = unless_ok (unused_label job) (unless streams narrow) l o.2 in
    let small : count ≤ 16 = where_none count fault.TooManyStreams (unless_none streams narrow l at) in
    let is = unless_ok deep done l (unless_ok wide shallow l (unless_ok streams narrow l at)) in
    let many = as_many 0 0 o.0 in
    subst (λ (l : Layout). length (placed l) ≤ 16) (same_ok (layout_of rules job heads m.0 o.0) l is) (omega (arith, many, small))
