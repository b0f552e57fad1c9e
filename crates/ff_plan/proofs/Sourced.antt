-- The sources of any plan: what the source filters of its complex graphs give, and few with the inputs.
use Rattle.std.proofs.Common.{◌≡◌, ℕ, ◌+◌, ◌≤◌, false, List, length, sym, ap, ◌∙◌, subst, arith}
use Rattle.std.specs.Prelude.{Ok, nat_lt}
use Rattle.std.specs.List.{flat_map}
use Rattle.std.proofs.lemmas.Bool.Decides.{nat_tests}
use Rattle.ff_frame.specs.declared.head.StreamHead.{StreamHead}
use Rattle.ff_source.specs.declared.made.Made.{Made as SourceMade}
use Rattle.ff_words.specs.declared.job.Job.{Job}
use Rattle.ff_plan.specs.declared.planned.Plan.{Plan}
use Rattle.ff_plan_layout.specs.declared.error.PlanError.TheVariants as fault
use Rattle.ff_plan_layout.specs.Labels.{taken_labels, labels_fault}
use Rattle.ff_plan_layout.specs.LaidOut.{outputs_from, layout_of, limited, laid_out, unused_label, simple_graphs}
use Rattle.ff_plan_layout.specs.Layout.{Layout}
use Rattle.ff_plan_layout.specs.Order.{numbers, loop_fault}
use Rattle.ff_plan_layout.specs.declared.layout.Made.{Made}
use Rattle.ff_plan_layout.specs.declared.layout.Passed.{Passed}
use Rattle.ff_plan_layout.specs.Pads.{make_all, unlabelled}
use Rattle.ff_plan_layout.specs.Rules.{Rules, Planned, behind, where_so}
use Rattle.ff_plan_layout.specs.Sources.{sources_of, sources_fault}
use Rattle.ff_plan_layout.proofs.Results.{same_ok, behind_ok, unless_ok, unless_none, not_so}
use Rattle.ff_plan.specs.Nodes.{plan_of}
use Rattle.ff_plan.specs.Planned.{planned}

-- there are few, and these are they
pub are_few : (rules : Rules) (job : Job) (heads : List (List StreamHead)) (l : Layout) → laid_out rules job heads ≡ Ok l → (l.made ≡ sources_of rules job.graphs) × (length heads + length l.made ≤ 16)
are_few rules job heads l h =
    let outs_of : List Made → Planned (List (List Passed)) = λ made. outputs_from rules (record { heads = heads; graphs = job.graphs; made = made }) 0 (length job.graphs) (taken_labels job.graphs) (unlabelled made (numbers job.graphs)) job.outputs in
    let m = behind_ok (make_all rules heads job.graphs) (λ made. behind (outs_of made) (λ outs. limited rules job heads made outs)) l
    (unless_ok (sources_fault rules 0 job.graphs) _ l (unless_ok (loop_fault rules job.graphs) _ l (unless_ok (labels_fault rules heads job.graphs) _ l h))) in
    let o = behind_ok (outs_of m.0) (λ outs. limited rules job heads m.0 outs) l m.2 in
    let streams = where_so (nat_lt 16 (length (flat_map (λ (ps : List Passed). ps) o.0))) fault.TooManyStreams in
    let graphs = where_so (nat_lt 16 (length job.graphs + simple_graphs o.0)) fault.TooManyGraphs in
    let count = length heads + length (sources_of rules job.graphs) in
    let sources = where_so (nat_lt 16 count) fault.TooManySources in
    let whole = layout_of rules job heads m.0 o.0 in
    let at = unless_ok graphs _ l (unless_ok streams _ l (unless_ok (unused_label job) _ l o.2)) in
    let off : nat_lt 16 count ≡ false = not_so (nat_lt 16 count) fault.TooManySources (unless_none sources (Ok whole) l at) in
    let small : count ≤ 16 = grind (arith, nat_tests, off) in
    let same = ap (λ (x : Layout). x.made) (same_ok whole l (unless_ok sources (Ok whole) l at)) in
    (sym same, subst (λ (ms : List SourceMade). length heads + length ms ≤ 16) same small)

pub are_asked : (rules : Rules) (job : Job) (heads : List (List StreamHead)) (p : Plan) → planned rules job heads ≡ Ok p → p.made ≡ sources_of rules job.graphs
are_asked rules job heads p h =
    let at = behind_ok (laid_out rules job heads) (λ l. Ok (plan_of l)) p h in
    sym (ap (λ (q : Plan). q.made) (same_ok (plan_of at.0) p at.2)) ∙ (are_few rules job heads at.0 at.1).0
