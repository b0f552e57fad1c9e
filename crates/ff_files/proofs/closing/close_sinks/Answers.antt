use Rattle.std.proofs.Common.{◌≡◌, ◌<◌, ◌≤◌, ◌+◌, ◌-◌, ℕ, suc, List, length, vec_items, get_or, Option, arith, sym, ap, ◌∙◌, subst}
use Rattle.std.specs.Prelude.{IfSome}
use Rattle.std.specs.Vec.Iter.{into_iter_len}
use Rattle.ff_files.specs.Names.{Name, files_of, name_at, named_before, one_named, KeepsBeside, HoldsUnder}
use Rattle.ff_files.specs.laws.Targets.{target_holds, target_faults, target_name}
use Rattle.ff_files.specs.Counts.{RoseUnder, SameUnder, SameBeside}
use Rattle.ff_files.specs.Outputs.{FailsAt, AreClosed, first_failed}
use Rattle.ff_files.proofs.Lists.{rest_next, first_next, one_more, files_len}
use Rattle.ff_files.proofs.Steps.{some_still, but_more, but_others, named_more, put_on, put_here, later_on, later_now, under_on, fails_on, counts_on, closed_before, closed_here}
use Rattle.ff_files.proofs.closing.close_sinks.Goals as goal

pub file_at-requires : goal.file_at-requires
file_at-requires g c =
    let step = c.in-Some.ensures.steps in
    let left = c.loop-snk.invariant.left in
    let one = step.1 in
    let ok = c.args.snks.ok.0 in
    let few = c.requires.own.few in
    let len = files_len g.N.OutputFile.file_name c.args.outputs.now in
    omega (arith, left, one, ok, few, len)

pub close_output-failed-requires-clause-own : goal.close_output-failed-requires-clause-own
close_output-failed-requires-clause-own g c κs within =
    let was = c.loop-snk.invariant in
    let step = c.in-Some.ensures.steps in
    let k = c.loop-snk.k in
    let some : 0 < into_iter_len c.loop-snk.snk-iterator = let one = step.1 in omega arith in
    let next : c.in-Some.snk ≡ get_or (vec_items c.args.snks) k c.in-Some.snk = first_next _ _ (vec_items c.args.snks) c.in-Some.snk c.in-Some.snk k step.0 (was.rest 0 c.in-Some.snk some) in
    let there : k < length c.args.snks.items = let left = was.left in let one = step.1 in let ok = c.args.snks.ok.0 in omega arith in
    ap (λ b. target_name b) next ∙ (c.requires.own.own k c.in-Some.snk there ∙ sym c.file_at.ensures)

pub close_output-failed-requires-clause-created : goal.close_output-failed-requires-clause-created
close_output-failed-requires-clause-created g c κs within =
    let H = g.H.Host in
    let was = c.loop-snk.invariant in
    let step = c.in-Some.ensures.steps in
    let k = c.loop-snk.k in
    let there : k < length c.args.snks.items = let left = was.left in let one = step.1 in let ok = c.args.snks.ok.0 in omega arith in
    subst (λ (n : Name). IfSome n (H.created c.loop-snk.host)) (sym c.file_at.ensures)
    (some_still H.created c.args.host.now c.loop-snk.host (name_at (files_of g.N.OutputFile.file_name c.args.outputs.now) k) was.later.still_created (c.requires.own.may_close k there))

pub loop-snk-preserved : goal.loop-snk-preserved
loop-snk-preserved g c =
    let H = g.H.Host in
    let was = c.loop-snk.invariant in
    let step = c.in-Some.ensures.steps in
    let k = c.loop-snk.k in
    let names = files_of g.N.OutputFile.file_name c.args.outputs.now in
    let old = c.args.host.now in
    let mid = c.loop-snk.host in
    let new = c.close_output-failed.new.host in
    let made = c.close_output-failed.ensures in
    let named = c.file_at.ensures in
    let some : 0 < into_iter_len c.loop-snk.snk-iterator = let one = step.1 in omega arith in
    let here : k < length c.args.snks.items = let left = was.left in let one = step.1 in let ok = c.args.snks.ok.0 in omega arith in
    let there : k < length names = let few = c.requires.own.few in omega (arith, here, few) in
    let next : (d : _) → c.in-Some.snk ≡ get_or (vec_items c.args.snks) k d = λ d. first_next _ _ (vec_items c.args.snks) c.in-Some.snk d k step.0 (was.rest 0 d some) in
    let others : KeepsBeside (H.files mid) (H.files new) (name_at names k) = subst (λ (n : Name). KeepsBeside (H.files mid) (H.files new) n) named made.files in
    let elsewhere : SameBeside (name_at names k) (H.out_faults mid) (H.out_faults new) = subst (λ (n : Name). SameBeside n (H.out_faults mid) (H.out_faults new)) named made.out_others in
    let counted_on : (i : ℕ) → RoseUnder (H.out_faults old) (H.out_faults mid) (name_at names i) → RoseUnder (H.out_faults old) (H.out_faults new) (name_at names i) = λ i r.
    under_on (H.out_faults old) (H.out_faults old) (H.out_faults mid) (H.out_faults new) (name_at names i) (later_now (H.out_faults old)) made.later.outs_later r in
    let counted_now : RoseUnder (H.out_faults mid) (H.out_faults new) (name_at names k) → RoseUnder (H.out_faults old) (H.out_faults new) (name_at names k) = λ r.
    under_on (H.out_faults old) (H.out_faults mid) (H.out_faults new) (H.out_faults new) (name_at names k) was.later.outs_later (later_now (H.out_faults new)) r in
    let risen : (n : Name) → n ≡ name_at names k → RoseUnder (H.out_faults mid) (H.out_faults new) n → RoseUnder (H.out_faults old) (H.out_faults new) (name_at names k) = λ n is r.
    counted_now (subst (λ (m : Name). RoseUnder (H.out_faults mid) (H.out_faults new) m) is r) in
    record {
      left = let left = was.left in let one = step.1 in omega arith;
      rest = λ j d below.
          let more : suc j < into_iter_len c.loop-snk.snk-iterator = let one = step.1 in omega arith in
          rest_next _ _ (vec_items c.args.snks) c.in-Some.snk d k j step.0 (was.rest (suc j) d more);
      later = later_on H.in_faults H.out_faults H.opened H.created old mid new was.later made.later;
      files = but_more (H.files old) (H.files mid) (H.files new) names k was.files others;
      put = λ j d below. one_more (λ i. HoldsUnder (H.files old) (H.files new) (name_at names i) (target_holds (get_or (vec_items c.args.snks) i d))) k
          (λ i lt. put_on (H.files old) (H.files mid) (H.files new) names k (name_at names i) (name_at names k) (target_holds (get_or (vec_items c.args.snks) i d)) was.files others
          (λ is_some same. let equal : i ≡ k = c.requires.apart i k (omega (arith, lt, there)) there is_some same in omega (arith, lt, equal)) (was.put i d lt))
          (let put : HoldsUnder (H.files mid) (H.files new) (name_at names k) (target_holds c.in-Some.snk) = subst (λ (n : Name). HoldsUnder (H.files mid) (H.files new) n (target_holds c.in-Some.snk)) named made.put in
          put_here (H.files old) (H.files mid) (H.files new) names k (name_at names k) (target_holds (get_or (vec_items c.args.snks) k d)) was.files (subst (λ b. HoldsUnder (H.files mid) (H.files new) (name_at names k) (target_holds b)) (next d) put)) j below;
      counted = λ j d below. one_more (λ i. 1 ≤ target_faults (get_or (vec_items c.args.snks) i d) → RoseUnder (H.out_faults old) (H.out_faults new) (name_at names i)) k
          (λ i lt failed. counted_on i (was.counted i d lt failed))
          (λ failed. risen _ named (made.counted (subst (λ b. 1 ≤ target_faults b) (sym (next d)) failed))) j below;
      counts = λ count closed unfailed.
          let closed_now : AreClosed (first_failed c.loop-snk.first c.close_output-failed.result k) count = subst (λ (f : Option ℕ). AreClosed f count) c.first_of-first.ensures closed in
          counts_on (H.out_faults old) (H.out_faults mid) (H.out_faults new) names k count there (was.counts count (closed_before c.loop-snk.first c.close_output-failed.result k count closed_now) unfailed) elsewhere
          (λ below. subst (λ (n : Name). SameUnder (H.out_faults mid) (H.out_faults new) n) named
          (made.none (closed_here (H.out_faults old) (H.out_faults mid) names c.loop-snk.first c.close_output-failed.result k count was.failed closed_now below)
          (subst (λ b. target_faults b ≡ 0) (sym (next c.in-Some.snk)) (unfailed k c.in-Some.snk here below))));
      others = but_others (H.out_faults old) (H.out_faults mid) (H.out_faults new) names k was.others elsewhere;
      failed = subst (λ (f : _). FailsAt (H.out_faults old) (H.out_faults new) names (k + 1) f) (sym c.first_of-first.ensures)
          (fails_on (H.out_faults old) (H.out_faults mid) (H.out_faults new) names k c.loop-snk.first c.close_output-failed.result counted_on was.failed (λ f. risen _ named (made.failed f)));
      ins = λ name. made.ins name ∙ was.ins name;
      sources = (let before = was.sources in let same = made.open_sources in omega (arith, before, same));
      sinks =
          (let before = was.sinks in
          let one : H.open_sinks new ≡ H.open_sinks mid - one_named (name_at names k) = subst (λ (n : Name). H.open_sinks new ≡ H.open_sinks mid - one_named n) named made.open_sinks in
          let more : named_before names (k + 1) ≡ named_before names k + one_named (name_at names k) = named_more names k in
          omega (arith, before, one, more));
    }
