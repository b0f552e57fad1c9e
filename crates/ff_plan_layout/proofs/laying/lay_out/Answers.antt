use Rattle.std.proofs.Common.{◌≡◌, ℕ, ◌+◌, ◌^◌, ◌<◌, ◌≤◌, None, List, [], ◌∷◌, ◌++◌, map, length, vec_len, sym, ap, ◌∙◌, subst, arith}
use Rattle.std.specs.Prelude.{Ok, Option}
use Rattle.std.specs.List.{AllByRecursion, range_with_len}
use Rattle.std.specs.declared.alloc.Global.{Global}
use Rattle.std.specs.declared.vec.Vec.{Vec}
use Rattle.ff_frame.specs.declared.head.StreamHead.{StreamHead}
use Rattle.ff_source.specs.declared.made.Made.{Made as SourceMade}
use Rattle.ff_words.specs.declared.job.OutputJob.{OutputJob}
use Rattle.ff_words.specs.maps.Choice.{lists}
use Rattle.ff_graph_links.specs.labels.Order.{feeds}
use Rattle.ff_plan_layout.specs.declared.layout.OutStream.{OutStream}
use Rattle.ff_plan_layout.specs.declared.layout.GraphText.TheVariants as text
use Rattle.ff_plan_layout.specs.declared.error.PlanError.{PlanError}
use Rattle.ff_plan_layout.specs.Labels.{taken_labels}
use Rattle.ff_plan_layout.specs.Layout.{Laid}
use Rattle.ff_plan_layout.specs.laws.Limits.{HasFewIns}
use Rattle.ff_plan_layout.specs.Order.{numbers}
use Rattle.ff_plan_layout.specs.Pads.{Made, unlabelled}
use Rattle.ff_plan_layout.specs.laws.Passing.{count_fault, source_count_fault, laid_by, rows_behind, streams_by}
use Rattle.ff_plan_layout.specs.laws.Rows.{rows, layout_in}
use Rattle.ff_plan_layout.specs.laws.Refusals.{IsRefused, IsFault}
use Rattle.ff_plan_layout.specs.LaidOut.{laid_out}
use Rattle.ff_plan_layout.specs.Rules.{Planned}
use Rattle.ff_plan_layout.specs.Streams.{Passed}
use Rattle.ff_plan_layout.specs.Texts.{texts_from}
use Rattle.ff_plan_layout.proofs.Among.{all_joined}
use Rattle.ff_plan_layout.proofs.FewIns.{simple_few}
use Rattle.ff_plan_layout.proofs.LaidOut.{handed_on, refused_loops, refused_sources, refused_graphs, refused_rows, refused_unused, refused_counts, refused_source_count, laid_in}
use Rattle.ff_plan_layout.proofs.Sizes.{map_length}
use Rattle.ff_plan_layout.proofs.Bounds.{all_imply, below_word, few_in_lists, lists_length}
use Rattle.ff_plan_layout.proofs.GraphNumbers.{few_laid}
use Rattle.ff_plan_layout.proofs.Small.{few}
use Rattle.ff_plan_layout.proofs.laying.lay_out.Goals as goal

narrow : (heads : List (Vec StreamHead Global)) → AllByRecursion (λ hs. length hs ≤ 16) (lists heads) → AllByRecursion (λ (v : Vec StreamHead Global). vec_len v < 2 ^ 32) heads
narrow heads few_streams = all_imply (λ (v : Vec StreamHead Global). vec_len v ≤ 16) (λ (v : Vec StreamHead Global). vec_len v < 2 ^ 32) heads (λ v h. below_word (vec_len v) h) (few_in_lists heads few_streams)

-- the count of inputs and sources, as the code has it
count_as : (vs : List (Vec StreamHead Global)) (now made : List SourceMade) → now ≡ made → source_count_fault (length vs) (length now) ≡ source_count_fault (length (lists vs)) (length made)
count_as vs now made e = ap (λ (n : ℕ). source_count_fault n (length now)) (sym (lists_length vs)) ∙ ap (λ (s : List SourceMade). source_count_fault (length (lists vs)) (length s)) e

pub check_graphs-requires-clause-streams : goal.check_graphs-requires-clause-streams
check_graphs-requires-clause-streams g c = narrow c.args.heads.now c.requires.limits.streams

pub make_all-requires-clause-streams : goal.make_all-requires-clause-streams
make_all-requires-clause-streams g c = narrow c.args.heads.now c.requires.limits.streams

pub rows_behind-requires-clause-streams : goal.rows_behind-requires-clause-streams
rows_behind-requires-clause-streams g c = narrow c.args.heads.now c.requires.limits.streams

pub returns-in_err-check_loops-clause-refused : goal.returns-in_err-check_loops-clause-refused
returns-in_err-check_loops-clause-refused g c =
    let rules = g.F.Filtering.rules c.args.filtering.now in
    let job = c.args.job.now in
    let heads = lists c.args.heads.now in
    handed_on c.from_residual-in_err-check_loops.result (laid_out rules job heads) c.in_err-check_loops.field-0.0 c.from_residual-in_err-check_loops.ensures.1
    (refused_loops rules job heads c.as_slice-graphs.result.now c.as_slice-outs.result.now c.as_slice-graphs.ensures c.as_slice-outs.ensures c.in_err-check_loops.field-0.0
    c.in_ok-check_graphs.ensures.fine c.in_err-check_loops.ensures.fault)

pub returns-in_err-check_sources-clause-refused : goal.returns-in_err-check_sources-clause-refused
returns-in_err-check_sources-clause-refused g c =
    let rules = g.F.Filtering.rules c.args.filtering.now in
    let job = c.args.job.now in
    let heads = lists c.args.heads.now in
    handed_on c.from_residual-in_err-check_sources.result (laid_out rules job heads) c.in_err-check_sources.field-0.0 c.from_residual-in_err-check_sources.ensures.1
    (refused_sources rules job heads c.as_slice-graphs.result.now c.as_slice-outs.result.now c.as_slice-graphs.ensures c.as_slice-outs.ensures c.in_err-check_sources.field-0.0
    c.in_ok-check_graphs.ensures.fine c.in_ok-check_loops.ensures.fine c.in_err-check_sources.ensures.fault)

pub returns-in_err-made-clause-refused : goal.returns-in_err-made-clause-refused
returns-in_err-made-clause-refused g c =
    let rules = g.F.Filtering.rules c.args.filtering.now in
    let job = c.args.job.now in
    let heads = lists c.args.heads.now in
    handed_on c.from_residual-in_err-made.result (laid_out rules job heads) c.in_err-made.field-0.0 c.from_residual-in_err-made.ensures.1
    (refused_graphs rules job heads c.as_slice-graphs.result.now c.as_slice-outs.result.now c.as_slice-graphs.ensures c.as_slice-outs.ensures c.in_err-made.field-0.0
    c.in_ok-check_graphs.ensures.fine c.in_ok-check_loops.ensures.fine c.in_ok-check_sources.ensures.fine c.in_err-made.ensures.refused)

pub returns-in_err-rows-clause-refused : goal.returns-in_err-rows-clause-refused
returns-in_err-rows-clause-refused g c =
    let rules = g.F.Filtering.rules c.args.filtering.now in
    let job = c.args.job.now in
    let heads = lists c.args.heads.now in
    let gs = c.as_slice-graphs.result.now in
    let os = c.as_slice-outs.result.now in
    let e = c.in_err-rows.field-0.0 in
    handed_on c.from_residual-in_err-rows.result (laid_out rules job heads) e c.from_residual-in_err-rows.ensures.1
    (refused_rows rules job heads gs os c.as_slice-graphs.ensures c.as_slice-outs.ensures c.in_ok-made.made.items e
    c.in_ok-check_graphs.ensures.fine c.in_ok-check_loops.ensures.fine c.in_ok-check_sources.ensures.fine c.in_ok-made.ensures.made
    (subst (λ (m : List Made). IsRefused (rows_behind rules heads gs m os) e) c.as_slice-2.ensures.value c.in_err-rows.ensures.refused))

pub returns-in_err-check_unused-clause-refused : goal.returns-in_err-check_unused-clause-refused
returns-in_err-check_unused-clause-refused g c =
    let rules = g.F.Filtering.rules c.args.filtering.now in
    let job = c.args.job.now in
    let heads = lists c.args.heads.now in
    let gs = c.as_slice-graphs.result.now in
    let os = c.as_slice-outs.result.now in
    let e = c.in_err-check_unused.field-0.0 in
    let rows_are : rows_behind rules heads gs c.in_ok-made.made.items os ≡ Ok c.in_ok-rows.rows.items =
    ap (λ (m : List Made). rows_behind rules heads gs m os) (sym c.as_slice-2.ensures.value) ∙ c.in_ok-rows.ensures.made in
    handed_on c.from_residual-in_err-check_unused.result (laid_out rules job heads) e c.from_residual-in_err-check_unused.ensures.1
    (refused_unused rules job heads gs os c.as_slice-graphs.ensures c.as_slice-outs.ensures c.in_ok-made.made.items c.in_ok-rows.rows.items
    c.in_ok-check_graphs.ensures.fine c.in_ok-check_loops.ensures.fine c.in_ok-check_sources.ensures.fine c.in_ok-made.ensures.made rows_are e c.in_err-check_unused.ensures.fault)

pub returns-in_err-check_counts-clause-refused : goal.returns-in_err-check_counts-clause-refused
returns-in_err-check_counts-clause-refused g c =
    let rules = g.F.Filtering.rules c.args.filtering.now in
    let job = c.args.job.now in
    let heads = lists c.args.heads.now in
    let gs = c.as_slice-graphs.result.now in
    let os = c.as_slice-outs.result.now in
    let e = c.in_err-check_counts.field-0.0 in
    let rows_are : rows_behind rules heads gs c.in_ok-made.made.items os ≡ Ok c.in_ok-rows.rows.items =
    ap (λ (m : List Made). rows_behind rules heads gs m os) (sym c.as_slice-2.ensures.value) ∙ c.in_ok-rows.ensures.made in
    handed_on c.from_residual-in_err-check_counts.result (laid_out rules job heads) e c.from_residual-in_err-check_counts.ensures.1
    (refused_counts rules job heads gs os c.as_slice-graphs.ensures c.as_slice-outs.ensures c.in_ok-made.made.items c.in_ok-rows.rows.items
    c.in_ok-check_graphs.ensures.fine c.in_ok-check_loops.ensures.fine c.in_ok-check_sources.ensures.fine c.in_ok-made.ensures.made rows_are e c.in_ok-check_unused.ensures.fine
    (subst (λ (rs : List (List Passed)). IsFault (count_fault (length gs) rs) e) c.as_slice-3.ensures.value c.in_err-check_counts.ensures.fault))

pub returns-in_err-check_source_count-clause-refused : goal.returns-in_err-check_source_count-clause-refused
returns-in_err-check_source_count-clause-refused g c =
    let rules = g.F.Filtering.rules c.args.filtering.now in
    let job = c.args.job.now in
    let heads = lists c.args.heads.now in
    let gs = c.as_slice-graphs.result.now in
    let os = c.as_slice-outs.result.now in
    let outs = c.in_ok-rows.rows.items in
    let e = c.in_err-check_source_count.field-0.0 in
    let rows_are : rows_behind rules heads gs c.in_ok-made.made.items os ≡ Ok outs =
    ap (λ (m : List Made). rows_behind rules heads gs m os) (sym c.as_slice-2.ensures.value) ∙ c.in_ok-rows.ensures.made in
    let counts : count_fault (length gs) outs ≡ None = subst (λ (rs : List (List Passed)). count_fault (length gs) rs ≡ None) c.as_slice-3.ensures.value c.in_ok-check_counts.ensures.fine in
    handed_on c.from_residual-in_err-check_source_count.result (laid_out rules job heads) e c.from_residual-in_err-check_source_count.ensures.1
    (refused_source_count rules job heads gs os c.as_slice-graphs.ensures c.as_slice-outs.ensures c.in_ok-made.made.items outs
    c.in_ok-check_graphs.ensures.fine c.in_ok-check_loops.ensures.fine c.in_ok-check_sources.ensures.fine c.in_ok-made.ensures.made rows_are c.in_ok-sources.sources.items c.in_ok-sources.ensures.made e
    c.in_ok-check_unused.ensures.fine counts
    (subst (λ (f : Option PlanError). IsFault f e) (count_as c.args.heads.now c.as_slice-4.result.now c.in_ok-sources.sources.items c.as_slice-4.ensures.value) c.in_err-check_source_count.ensures.fault))

pub returns-clause-made : goal.returns-clause-made
returns-clause-made g c =
    let rules = g.F.Filtering.rules c.args.filtering.now in
    let job = c.args.job.now in
    let heads = lists c.args.heads.now in
    let gs = c.as_slice-graphs.result.now in
    let os = c.as_slice-outs.result.now in
    let outs = c.in_ok-rows.rows.items in
    let rows_are : rows_behind rules heads gs c.in_ok-made.made.items os ≡ Ok outs =
    ap (λ (m : List Made). rows_behind rules heads gs m os) (sym c.as_slice-2.ensures.value) ∙ c.in_ok-rows.ensures.made in
    let counts : count_fault (length gs) outs ≡ None = subst (λ (rs : List (List Passed)). count_fault (length gs) rs ≡ None) c.as_slice-3.ensures.value c.in_ok-check_counts.ensures.fine in
    let texts : c.in_ok-laid_apart.field-0.texts.items ≡ map text.Complex (range_with_len 0 (length gs)) ++ texts_from 0 os outs =
    c.in_ok-laid_apart.ensures.texts ∙ (c.in_ok-texts.ensures ∙ ap (λ (rs : List (List Passed)). map text.Complex (range_with_len 0 (length gs)) ++ texts_from 0 os rs) c.as_slice-5.ensures.value) in
    laid_in rules job heads gs os c.as_slice-graphs.ensures c.as_slice-outs.ensures c.in_ok-made.made.items outs
    c.in_ok-check_graphs.ensures.fine c.in_ok-check_loops.ensures.fine c.in_ok-check_sources.ensures.fine c.in_ok-made.ensures.made rows_are c.in_ok-sources.sources.items c.in_ok-sources.ensures.made
    c.in_ok-laid_apart.field-0 c.in_ok-check_unused.ensures.fine counts
    (sym (count_as c.args.heads.now c.as_slice-4.result.now c.in_ok-sources.sources.items c.as_slice-4.ensures.value) ∙ c.in_ok-check_source_count.ensures.fine) c.in_ok-laid_apart.ensures.made
    c.in_ok-laid_apart.ensures.graphs c.in_ok-laid_apart.ensures.outputs texts

pub returns-clause-streams : goal.returns-clause-streams
returns-clause-streams g c =
    let rules = g.F.Filtering.rules c.args.filtering.now in
    let heads = lists c.args.heads.now in
    few rules c.args.job.now heads (layout_in heads c.in_ok-laid_apart.field-0) (returns-clause-made g c)

pub returns-clause-graphs : goal.returns-clause-graphs
returns-clause-graphs g c =
    let rules = g.F.Filtering.rules c.args.filtering.now in
    let heads = lists c.args.heads.now in
    let graphs = c.args.job.now.graphs in
    few_laid rules c.args.job.now heads (layout_in heads c.in_ok-laid_apart.field-0) (c.orders_go_upward.ensures (feeds graphs) (length graphs))
    (λ none q lt. c.orders_are_whole.ensures (feeds graphs) (length graphs) q none lt) (returns-clause-made g c)

pub returns-clause-outputs : goal.returns-clause-outputs
returns-clause-outputs g c =
    let l = c.in_ok-laid_apart.field-0 in
    let outs = c.in_ok-rows.rows.items in
    let a = map_length (λ (v : Vec OutStream Global). v.items) l.outputs.items in
    let b = ap (λ (rs : List (List OutStream)). length rs) c.in_ok-laid_apart.ensures.outputs in
    let d = map_length (λ (ps : List Passed). map (λ (p : Passed). p.what) ps) outs in
    let same = c.in_ok-rows.ensures.same in
    let ok : c.in_ok-rows.rows.len ≡ length outs = c.in_ok-rows.rows.ok.0 in
    let os = ap (λ (o : List OutputJob). length o) c.as_slice-outs.ensures in
    omega (arith, a, b, d, same, ok, os)

laid_few : (ms : List Made) → AllByRecursion (λ (m : Made). HasFewIns m.laid) ms → AllByRecursion HasFewIns (map (λ (m : Made). m.laid) ms)
laid_few [] all = tt
laid_few (m ∷ ms) all = (all.0, laid_few ms all.1)

pub returns-clause-ins : goal.returns-clause-ins
returns-clause-ins g c =
    let rules = g.F.Filtering.rules c.args.filtering.now in
    let heads = lists c.args.heads.now in
    let gs = c.as_slice-graphs.result.now in
    let os = c.as_slice-outs.result.now in
    let made = c.in_ok-made.made.items in
    let outs = c.in_ok-rows.rows.items in
    let rows_are : rows_behind rules heads gs made os ≡ Ok outs = ap (λ (m : List Made). rows_behind rules heads gs m os) (sym c.as_slice-2.ensures.value) ∙ c.in_ok-rows.ensures.made in
    subst (λ (xs : List Laid). AllByRecursion HasFewIns xs) (sym c.in_ok-laid_apart.ensures.graphs)
    (all_joined HasFewIns (map (λ (m : Made). m.laid) made) (laid_by outs) (laid_few made c.in_ok-made.ensures.ins)
    (simple_few rules (record { heads = heads; graphs = gs; made = made }) 0 (length gs) (taken_labels gs) (unlabelled made (numbers gs)) os outs rows_are))
