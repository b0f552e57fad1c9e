use Rattle.std.proofs.Common.{◌≡◌, ◌<◌, ◌≤◌, length, slice_get, slice_index_or, Some, sym, ap, ◌∙◌, arith}
use Rattle.std.proofs.lemmas.Option.{slice_get-get_or, slice_get_within}
use Rattle.std.specs.Vec.Iter.{into_iter_items}
use Rattle.ff_plan.specs.declared.planned.PlanNode.{PlanNode}
use Rattle.ff_plan.specs.declared.planned.PlanNode.TheVariants as node
use Rattle.ff_run_plan.specs.Kinds.{IsEndOf, IsSinkOf}
use Rattle.ff_run_plan.proofs.Places.{no_length}
use Rattle.ff_run_plan.proofs.Gathering.{next_left, none_left, demux_once, mux_once, back_next, others_next}
use Rattle.ff_run_plan.proofs.gather.gather.Goals.{else-loop-number-test, then-loop-number-test+in_default}
use Rattle.ff_run_plan.proofs.gather.gather.Goals as goal

pub put_back-requires-clause-ends : goal.put_back-requires-clause-ends
put_back-requires-clause-ends g c κs within =
    let n = c.loop-number.number in
    let nodes = c.args.nodes.now in
    let parts = c.args.parts.items in
    let left = next_left parts n c.in-Some.part (into_iter_items c.next.new.self) (sym c.loop-number.invariant.left ∙ c.in-Some.ensures.items) in
    let lt : n < length nodes = (let w = slice_get_within parts n c.in-Some.part left.0 in let few = c.requires.few in omega (arith, w, few)) in
    c.requires.ends n (slice_index_or nodes n (node.Demux 0)) c.in-Some.part (slice_get-get_or nodes n (node.Demux 0) lt) left.0

pub put_back-requires-clause-source : goal.put_back-requires-clause-source
put_back-requires-clause-source g c κs within = λ i e.
    let n = c.loop-number.number in
    let nodes = c.args.nodes.now in
    let parts = c.args.parts.items in
    let left = next_left parts n c.in-Some.part (into_iter_items c.next.new.self) (sym c.loop-number.invariant.left ∙ c.in-Some.ensures.items) in
    let lt : n < length nodes = (let w = slice_get_within parts n c.in-Some.part left.0 in let few = c.requires.few in omega (arith, w, few)) in
    let below = c.requires.ordered.inputs_there n i (slice_get-get_or nodes n (node.Demux 0) lt ∙ ap (λ (z : PlanNode). Some z) e) in
    let count = c.loop-number.invariant.src_count in
    omega (arith, below, count)

pub put_back-requires-clause-sink : goal.put_back-requires-clause-sink
put_back-requires-clause-sink g c κs within = λ o e.
    let n = c.loop-number.number in
    let nodes = c.args.nodes.now in
    let parts = c.args.parts.items in
    let left = next_left parts n c.in-Some.part (into_iter_items c.next.new.self) (sym c.loop-number.invariant.left ∙ c.in-Some.ensures.items) in
    let lt : n < length nodes = (let w = slice_get_within parts n c.in-Some.part left.0 in let few = c.requires.few in omega (arith, w, few)) in
    let below = c.requires.ordered.outputs_there n o (slice_get-get_or nodes n (node.Demux 0) lt ∙ ap (λ (z : PlanNode). Some z) e) in
    let count = c.loop-number.invariant.snk_count in
    omega (arith, below, count)

pub loop-number-preserved : goal.loop-number-preserved
loop-number-preserved g c =
    let was = c.loop-number.invariant in
    let n = c.loop-number.number in
    let nodes = c.args.nodes.now in
    let parts = c.args.parts.items in
    let part = c.in-Some.part in
    let view = g.M.Machine.view in
    let S = g.Src.Source in
    let K = g.Snk.Sink in
    let old = c.loop-number.places in
    let new = c.put_back.new.places in
    let first = c.args.places.now in
    let x = slice_index_or nodes n (node.Demux 0) in
    let left = next_left parts n part (into_iter_items c.next.new.self) (sym was.left ∙ c.in-Some.ensures.items) in
    let lt : n < length nodes = (let w = slice_get_within parts n part left.0 in let few = c.requires.few in omega (arith, w, few)) in
    let at : slice_get nodes n ≡ Some x = slice_get-get_or nodes n (node.Demux 0) lt in
    let back = c.put_back.ensures in record {
      left = sym left.1;
      src_count = back.src_count ∙ was.src_count;
      snk_count = back.snk_count ∙ was.snk_count;
      sources = back_next (λ y s. IsEndOf S.name S.faults (view y) s) node.Demux nodes parts old.srcs.items new.srcs.items n x part at left.0 back.srcs_kept
          (demux_once (length first.srcs.items) (length first.snks.items) nodes c.requires.ordered) was.sources back.source;
      sinks = back_next (λ y s. IsSinkOf g.K.Kinds.is K.holds K.name K.faults (view y) s) node.Mux nodes parts old.snks.items new.snks.items n x part at left.0 back.snks_kept
          (mux_once (length first.srcs.items) (length first.snks.items) nodes c.requires.ordered) was.sinks back.sink;
      other_srcs = others_next (λ y s. IsEndOf S.name S.faults (view y) s) node.Demux nodes parts old.srcs.items new.srcs.items n x part at left.0 back.srcs_kept first.srcs.items was.other_srcs;
      other_snks = others_next (λ y s. IsSinkOf g.K.Kinds.is K.holds K.name K.faults (view y) s) node.Mux nodes parts old.snks.items new.snks.items n x part at left.0 back.snks_kept first.snks.items was.other_snks;
    }

pub returns-clause-sources : goal.returns-clause-sources
returns-clause-sources g c = λ k i m nk pk.
    let parts = c.args.parts.items in
    let n = c.loop-number.number in
    let done : length parts ≤ n = elim c.loop-number-test.branch [
      | else-loop-number-test w ↦ (let over = w.loop-number-test.false in let is = c.len-count.ensures in let ok = c.args.parts.ok.0 in omega (arith, over, is, ok))
      | then-loop-number-test+in_default w ↦ none_left parts n (sym c.loop-number.invariant.left ∙ no_length (into_iter_items c.loop-number.left) (let ok = c.loop-number.left.rest.ok.0 in let none = w.in_default.ensures.cases.0 in omega (arith, ok, none)))
    ] in
    let lt = slice_get_within parts k m pk in
    c.loop-number.invariant.sources k i m (omega (arith, lt, done)) nk pk

pub returns-clause-sinks : goal.returns-clause-sinks
returns-clause-sinks g c = λ k o m nk pk.
    let parts = c.args.parts.items in
    let n = c.loop-number.number in
    let done : length parts ≤ n = elim c.loop-number-test.branch [
      | else-loop-number-test w ↦ (let over = w.loop-number-test.false in let is = c.len-count.ensures in let ok = c.args.parts.ok.0 in omega (arith, over, is, ok))
      | then-loop-number-test+in_default w ↦ none_left parts n (sym c.loop-number.invariant.left ∙ no_length (into_iter_items c.loop-number.left) (let ok = c.loop-number.left.rest.ok.0 in let none = w.in_default.ensures.cases.0 in omega (arith, ok, none)))
    ] in
    let lt = slice_get_within parts k m pk in
    c.loop-number.invariant.sinks k o m (omega (arith, lt, done)) nk pk
