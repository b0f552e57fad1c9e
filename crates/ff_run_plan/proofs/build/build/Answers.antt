use Rattle.std.proofs.Common.{◌≡◌, ℕ, length, slice_get, slice_index_or, Some, refl, sym, ap, ◌∙◌, subst, arith}
use Rattle.std.proofs.lemmas.Option.{slice_get-get_or}
use Rattle.std.proofs.lemmas.Grind.{common_steps}
use Rattle.ff_plan.specs.declared.planned.PlanNode.{PlanNode}
use Rattle.ff_plan.specs.declared.planned.PlanNode.TheVariants as node
use Rattle.ff_stream.specs.edges.Ports.{lanes_into, lanes_out_of}
use Rattle.ff_run_plan.specs.Asked.{asked_of}
use Rattle.ff_run_plan.specs.Parts.{AreOrdered, IsPart}
use Rattle.ff_run_plan.specs.Tasks.{first_at, cuts_at}
use Rattle.ff_run_plan.proofs.Numbers.{same_some}
use Rattle.ff_run_plan.proofs.Building.{same_places, source_there, sink_there, next_part}
use Rattle.ff_run_plan.proofs.build.build.Goals as goal

pub part_of-requires-clause-source : goal.part_of-requires-clause-source
part_of-requires-clause-source g c κs within = λ i at.
    let S = g.Src.Source in
    let K = g.Snk.Sink in
    let was = c.loop-number.invariant in
    let aside = c.requires.aside in
    let made = was.made aside.0 aside.1 aside.2 aside.3 in
    let parts = c.loop-number.parts.items in
    let count : length parts ≡ c.loop-number.number = sym c.loop-number.parts.ok.0 ∙ was.count in
    let order : AreOrdered (length aside.0) (length aside.1) c.args.nodes.now = subst (λ (n : ℕ). AreOrdered n (length aside.1) c.args.nodes.now) aside.2.count (subst (λ (n : ℕ). AreOrdered (length c.args.places.now.srcs.items) n c.args.nodes.now) aside.3.count c.requires.ordered) in
    let found = source_there g.K.Kinds.is S.left S.name S.faults K.holds K.name K.faults g.M.Machine.view (asked_of c.args.job.now c.args.texts.now c.args.made.now c.args.nodes.now) c.args.heads.now c.args.edges.now c.args.nodes.now aside.0 aside.1
    parts c.loop-number.places.srcs.items c.loop-number.places.snks.items i order made (subst (λ (n : ℕ). slice_get c.args.nodes.now n ≡ Some (node.Demux i)) (sym count) at) in
    (found.0, found.2)

pub part_of-requires-clause-sink : goal.part_of-requires-clause-sink
part_of-requires-clause-sink g c κs within = λ o at.
    let S = g.Src.Source in
    let K = g.Snk.Sink in
    let was = c.loop-number.invariant in
    let aside = c.requires.aside in
    let made = was.made aside.0 aside.1 aside.2 aside.3 in
    let parts = c.loop-number.parts.items in
    let count : length parts ≡ c.loop-number.number = sym c.loop-number.parts.ok.0 ∙ was.count in
    let order : AreOrdered (length aside.0) (length aside.1) c.args.nodes.now = subst (λ (n : ℕ). AreOrdered n (length aside.1) c.args.nodes.now) aside.2.count (subst (λ (n : ℕ). AreOrdered (length c.args.places.now.srcs.items) n c.args.nodes.now) aside.3.count c.requires.ordered) in
    let found = sink_there g.K.Kinds.is S.left S.name S.faults K.holds K.name K.faults g.M.Machine.view (asked_of c.args.job.now c.args.texts.now c.args.made.now c.args.nodes.now) c.args.heads.now c.args.edges.now c.args.nodes.now aside.0 aside.1
    parts c.loop-number.places.srcs.items c.loop-number.places.snks.items o order made (subst (λ (n : ℕ). slice_get c.args.nodes.now n ≡ Some (node.Mux o)) (sym count) at) in
    (found.0, found.2)

pub returns-in-None-clause-err : goal.returns-in-None-clause-err
returns-in-None-clause-err g c = λ srcs snks a b.
    let S = g.Src.Source in
    let K = g.Snk.Sink in
    same_places g.K.Kinds.is S.left S.name S.faults K.holds K.name K.faults g.M.Machine.view (asked_of c.args.job.now c.args.texts.now c.args.made.now c.args.nodes.now) c.args.heads.now c.args.edges.now c.args.nodes.now srcs snks
    c.loop-number.parts.items c.loop-number.places.srcs.items c.part_of.new.places.srcs.items c.loop-number.places.snks.items c.part_of.new.places.snks.items
    (c.in-None.ensures.srcs_back refl) (c.in-None.ensures.snks_back refl) c.part_of.ensures.src_count c.part_of.ensures.snk_count (c.loop-number.invariant.made srcs snks a b)

pub loop-number-preserved : goal.loop-number-preserved
loop-number-preserved g c =
    let S = g.Src.Source in
    let K = g.Snk.Sink in
    let was = c.loop-number.invariant in
    let nodes = c.args.nodes.now in
    let n = c.loop-number.number in
    let parts = c.loop-number.parts.items in
    let m = c.in-Some.part in
    let x = slice_index_or nodes n (node.Demux 0) in
    let at : slice_get nodes n ≡ Some x = slice_get-get_or nodes n (node.Demux 0) c.loop-number-test.true in
    let count : length parts ≡ n = sym c.loop-number.parts.ok.0 ∙ was.count in record {
      count = (let len = c.push_reserved.ensures.len in let e = was.count in omega (arith, len, e));
      room = grind (arith, common_steps);
      src_count = c.part_of.ensures.src_count ∙ was.src_count;
      snk_count = c.part_of.ensures.snk_count ∙ was.snk_count;
      made = λ srcs snks a b.
          let is = g.K.Kinds.is in
          let view = g.M.Machine.view in
          let asked = (asked_of c.args.job.now c.args.texts.now c.args.made.now c.args.nodes.now) in
          let heads = c.args.heads.now in
          let edges = c.args.edges.now in
          let old = c.loop-number.places in
          let new = c.part_of.new.places in
          let before = was.made srcs snks a b in
          let order : AreOrdered (length srcs) (length snks) nodes = subst (λ (k : ℕ). AreOrdered k (length snks) nodes) a.count (subst (λ (k : ℕ). AreOrdered (length c.args.places.now.srcs.items) k nodes) b.count c.requires.ordered) in
          let here : slice_get nodes (length parts) ≡ Some x = subst (λ (k : ℕ). slice_get nodes k ≡ Some x) (sym count) at in
          let part = c.in-Some.ensures.made x at srcs snks
          (λ i e. source_there is S.left S.name S.faults K.holds K.name K.faults view asked heads edges nodes srcs snks parts old.srcs.items old.snks.items i order before (here ∙ ap (λ (z : PlanNode). Some z) e))
          (λ o e. sink_there is S.left S.name S.faults K.holds K.name K.faults view asked heads edges nodes srcs snks parts old.srcs.items old.snks.items o order before (here ∙ ap (λ (z : PlanNode). Some z) e)) in
          next_part is S.left S.name S.faults K.holds K.name K.faults view asked heads edges nodes srcs snks parts c.push_reserved.new.self.items old.srcs.items new.srcs.items old.snks.items new.snks.items x m here c.push_reserved.ensures.items
          (subst (λ (k : ℕ). IsPart is S.left S.name S.faults K.holds K.name K.faults asked heads srcs snks (first_at asked nodes edges k) (cuts_at asked nodes edges k) (lanes_into edges k) (lanes_out_of edges k) x (view m)) (sym count) part)
          (λ w out. c.part_of.ensures.srcs_kept w (λ e. out (same_some (slice_get nodes n) x (node.Demux w) at e)))
          (λ w out. c.part_of.ensures.snks_kept w (λ e. out (same_some (slice_get nodes n) x (node.Mux w) at e)))
          c.part_of.ensures.src_count c.part_of.ensures.snk_count before;
    }
