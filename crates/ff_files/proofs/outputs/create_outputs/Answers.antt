use Rattle.std.proofs.Common.{◌≡◌, ◌<◌, ◌+◌, ℕ, length, arith, ◌∙◌, subst}
use Rattle.std.specs.Prelude.{IfSome}
use Rattle.std.proofs.lemmas.Grind.{common_steps}
use Rattle.ff_host.specs.Files.{HoldsNothing}
use Rattle.ff_files.specs.Names.{Name, files_of, name_at, named_before, one_named, KeepsBeside}
use Rattle.ff_files.specs.laws.Targets.{target_holds, target_faults, target_name}
use Rattle.ff_files.proofs.Lists.{files_len, each_pushed, pushed_len}
use Rattle.ff_files.proofs.Steps.{but_more, later_on, named_more, open_more}
use Rattle.ff_files.proofs.Wholes.{empty_but}
use Rattle.ff_files.proofs.outputs.create_outputs.Goals as goal

pub loop-k-preserved : goal.loop-k-preserved
loop-k-preserved g c =
    let H = g.H.Host in
    let was = c.loop-k.invariant in
    let names = files_of g.N.OutputFile.file_name c.args.outputs.now in
    let k = c.loop-k.k in
    let old = c.args.host.now in
    let mid = c.loop-k.host in
    let new = c.create_output.new.host in
    let made = c.in-Ok.ensures in
    let snk = c.in-Ok.snk in
    let before = c.loop-k.snks.items in
    let snks = c.push_reserved.new.self.items in
    let named = c.file_at.ensures in
    let lt : k < length c.args.outputs.now = let test = c.loop-k-test.true in omega (arith, test) in
    let below : k < length names = let len = files_len g.N.OutputFile.file_name c.args.outputs.now in omega (arith, lt, len) in
    let long : length before ≡ k = (let count = was.count in let ok = c.loop-k.snks.ok.0 in omega arith) in
    let more = pushed_len before snks snk k c.push_reserved.ensures.items long in
    record {
      count = (let count = was.count in let len = c.push_reserved.ensures.len in omega arith);
      room = grind (arith, common_steps);
      later = later_on H.in_faults H.out_faults H.opened H.created old mid new was.later c.create_output.ensures.later;
      files = but_more (H.files old) (H.files mid) (H.files new) names k was.files (subst (λ (n : Name). KeepsBeside (H.files mid) (H.files new) n) named made.ok);
      own = open_more H.created target_name mid new names before snks snk k (λ n may. c.create_output.ensures.later.still_created n may) was.own c.push_reserved.ensures.items long below
          (made.name ∙ named) (subst (λ (n : Name). IfSome n (H.created new)) named made.created);
      outs = λ n. made.ok_counts n ∙ was.outs n;
      ins = λ n. c.create_output.ensures.ins n ∙ was.ins n;
      sources = (let was_sources = was.sources in let same = c.create_output.ensures.open_sources in omega (arith, was_sources, same));
      sinks =
          (let was_sinks = was.sinks in
          let one : H.open_sinks new ≡ H.open_sinks mid + one_named (name_at names k) = subst (λ (n : Name). H.open_sinks new ≡ H.open_sinks mid + one_named n) named made.open_sinks in
          let next : named_before names (k + 1) ≡ named_before names k + one_named (name_at names k) = named_more names k in
          omega (arith, was_sinks, one, next));
      empty = λ j d there. each_pushed (λ i x. HoldsNothing (H.files old) (target_holds x)) before snks snk k c.push_reserved.ensures.items long
          (λ i e l. was.empty i e (omega (arith, l, long))) (empty_but (H.files old) (H.files mid) names k (target_holds snk) was.files made.empty) j d (omega (arith, there, more));
      unfailed = λ j d there all. each_pushed (λ i x. i < length c.args.outputs.now → target_faults x ≡ 0) before snks snk k c.push_reserved.ensures.items long
          (λ i e l a. was.unfailed i e (omega (arith, l, long)) a) (λ a. made.unfailed) j d (omega (arith, there, more)) all;
    }
