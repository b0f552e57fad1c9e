use Rattle.std.proofs.Common.{◌≡◌, ◌<◌, ◌≤◌, ℕ, suc, List, length, vec_items, get_or, Some, arith, sym, ap, ◌∙◌, subst}
use Rattle.std.specs.Vec.Iter.{into_iter_len}
use Rattle.ff_host.specs.Causes.{Rose}
use Rattle.ff_host.specs.declared.begun.Begun.{Begun}
use Rattle.ff_files.specs.Names.{Name, names_of, name_at}
use Rattle.ff_files.specs.Counts.{RoseUnder, SameUnder, SameBeside}
use Rattle.ff_files.specs.laws.Inputs.{begun_name, begun_faults}
use Rattle.ff_files.proofs.Lists.{rest_next, first_next, one_more, names_len}
use Rattle.ff_files.proofs.Steps.{files_on, later_on, under_on, later_now, counts_on}
use Rattle.ff_files.proofs.closing.close_sources.Goals as goal

pub name_at-requires : goal.name_at-requires
name_at-requires g c =
    let step = c.in-Some.ensures.steps in
    let left = c.loop-src.invariant.left in
    let one = step.1 in
    let ok = c.args.srcs.ok.0 in
    let few = c.requires.few in
    let len = names_len g.N.Named.name_text c.args.inputs.now in
    omega (arith, left, one, ok, few, len)

pub close_input-requires-clause-own : goal.close_input-requires-clause-own
close_input-requires-clause-own g c κs within =
    let S = g.H.Src.Source in
    let was = c.loop-src.invariant in
    let step = c.in-Some.ensures.steps in
    let k = c.loop-src.k in
    let some : 0 < into_iter_len c.loop-src.src-iterator = let one = step.1 in omega arith in
    let next : c.in-Some.src ≡ get_or (vec_items c.args.srcs) k c.in-Some.src = first_next _ _ (vec_items c.args.srcs) c.in-Some.src c.in-Some.src k step.0 (was.rest 0 c.in-Some.src some) in
    let there : k < length c.args.srcs.items = let left = was.left in let one = step.1 in let ok = c.args.srcs.ok.0 in omega arith in
    ap (λ (b : Begun g.row.H-Src.Denot). begun_name S.name b) next ∙ (c.requires.own k c.in-Some.src there ∙ c.name_at.ensures)

pub loop-src-preserved : goal.loop-src-preserved
loop-src-preserved g c =
    let H = g.H.Host in
    let S = g.H.Src.Source in
    let was = c.loop-src.invariant in
    let step = c.in-Some.ensures.steps in
    let k = c.loop-src.k in
    let names = names_of g.N.Named.name_text c.args.inputs.now in
    let some : 0 < into_iter_len c.loop-src.src-iterator = let one = step.1 in omega arith in
    let there : k < length c.args.srcs.items = let left = was.left in let one = step.1 in let ok = c.args.srcs.ok.0 in omega arith in
    let lt : k < length names = let few = c.requires.few in omega (arith, there, few) in
    let next : (d : _) → c.in-Some.src ≡ get_or (vec_items c.args.srcs) k d = λ d. first_next _ _ (vec_items c.args.srcs) c.in-Some.src d k step.0 (was.rest 0 d some) in
    let others : SameBeside (name_at names k) (H.in_faults c.loop-src.host) (H.in_faults c.close_input.new.host) = subst (λ (n : Name). SameBeside n (H.in_faults c.loop-src.host) (H.in_faults c.close_input.new.host)) (sym c.name_at.ensures) c.close_input.ensures.in_others in
    record {
      left = let left = was.left in let one = step.1 in omega arith;
      rest = λ j d below.
          let more : suc j < into_iter_len c.loop-src.src-iterator = let one = step.1 in omega arith in
          rest_next _ _ (vec_items c.args.srcs) c.in-Some.src d k j step.0 (was.rest (suc j) d more);
      later = later_on H.in_faults H.out_faults H.opened H.created c.args.host.now c.loop-src.host c.close_input.new.host was.later c.close_input.ensures.later;
      files = files_on (H.files c.args.host.now) (H.files c.loop-src.host) (H.files c.close_input.new.host) was.files c.close_input.ensures.files;
      counted = λ j d below. one_more (λ i. 1 ≤ begun_faults S.faults (get_or (vec_items c.args.srcs) i d) → RoseUnder (H.in_faults c.args.host.now) (H.in_faults c.close_input.new.host) (name_at names i)) k
          (λ i lt failed. under_on (H.in_faults c.args.host.now) (H.in_faults c.args.host.now) (H.in_faults c.loop-src.host) (H.in_faults c.close_input.new.host) (name_at names i) (later_now (H.in_faults c.args.host.now)) c.close_input.ensures.later.ins_later (was.counted i d lt failed))
          (λ failed.
          let here : Rose (H.in_faults c.loop-src.host c.name_at.result.now) (H.in_faults c.close_input.new.host c.name_at.result.now) = c.close_input.ensures.counted (subst (λ (b : Begun g.row.H-Src.Denot). 1 ≤ begun_faults S.faults b) (sym (next d)) failed) in
          let named : RoseUnder (H.in_faults c.loop-src.host) (H.in_faults c.close_input.new.host) (name_at names k) = subst (λ (n : Name). RoseUnder (H.in_faults c.loop-src.host) (H.in_faults c.close_input.new.host) n) (sym c.name_at.ensures) here in
          under_on (H.in_faults c.args.host.now) (H.in_faults c.loop-src.host) (H.in_faults c.close_input.new.host) (H.in_faults c.close_input.new.host) (name_at names k) was.later.ins_later (later_now (H.in_faults c.close_input.new.host)) named) j below;
      counts = λ count unfailed. counts_on (H.in_faults c.args.host.now) (H.in_faults c.loop-src.host) (H.in_faults c.close_input.new.host) names k count lt (was.counts count unfailed) others
          (λ below. subst (λ (n : Name). SameUnder (H.in_faults c.loop-src.host) (H.in_faults c.close_input.new.host) n) (sym c.name_at.ensures)
          (c.close_input.ensures.none (subst (λ (b : Begun g.row.H-Src.Denot). begun_faults S.faults b ≡ 0) (sym (next c.in-Some.src)) (unfailed k c.in-Some.src there below))));
      outs = λ name. c.close_input.ensures.outs name ∙ was.outs name;
      sources = (let before = was.sources in let one = c.close_input.ensures.open_sources in omega (arith, before, one));
      sinks = (let before = was.sinks in let same = c.close_input.ensures.open_sinks in omega (arith, before, same));
    }
