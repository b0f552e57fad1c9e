use Rattle.std.proofs.Common.{◌≡◌, ◌<◌, ◌≤◌, inl, inr, ℕ, length, vec_len, arith, sym, ◌∙◌, subst}
use Rattle.ff_files.specs.laws.Targets.{target_holds, target_name, target_faults}
use Rattle.ff_files.specs.Names.{names_of, files_of, name_at, KeepsAllBut}
use Rattle.ff_files.specs.Counts.{counted, KeepsCounts}
use Rattle.ff_files.specs.laws.Inputs.{begun_left, begun_name, begun_faults}
use Rattle.ff_files.specs.Outputs.{FailsAt}
use Rattle.ff_files.specs.Works.{AreTold, FailNoMore, GainTexts, HoldTrace, command_of, sound_sources, told_bytes}
use Rattle.ff_files.proofs.Tracing.{if_some_more}
use Rattle.ff_files.specs.Ends.{Ends, sound_inputs, sound_outputs}
use Rattle.ff_files.proofs.Lists.{names_len, files_len}
use Rattle.ff_files.proofs.Steps.{open_still, some_still}
use Rattle.ff_files.proofs.Wholes.{meant, fronts, none_written, traced, told_of, all_told, kept_open, still_unfailed, counts_all, counts_twice}
use Rattle.ff_files.proofs.EndLaws.{ends_closed, ends_uncreated, fine_only, sources_sound, sinks_sound, closed_sound, uncreated_sound, closed_none, counts_zero}
use Rattle.ff_files.proofs.Creations.{uncreated}
use Rattle.ff_files.proofs.whole.write_outputs.Goals as goal

pub returns-in-Err-clause-created : goal.returns-in-Err-clause-created
returns-in-Err-clause-created g c =
    let H = g.H.Host in
    let names = files_of g.N.OutputFile.file_name c.args.outputs.now in
    let refusal = c.in-Err.field-0 in
    inr (inr (
      refusal.output,
      refusal.end,
      uncreated names (H.files c.args.host.now) (H.files c.create_outputs.new.host) (H.files c.close_all.new.host)
          (H.out_faults c.args.host.now) (H.out_faults c.create_outputs.new.host) (H.out_faults c.close_all.new.host) (vec_len c.create_outputs.new.snks) refusal.output refusal.end
          c.requires.apart c.in-Err.ensures.first c.in-Err.ensures.refused c.close_all.ensures.others c.in-Err.ensures.files c.close_all.ensures.files,
      c.end_of_output.ensures,
    ))

pub returns-in-Ok-clause-created : goal.returns-in-Ok-clause-created
returns-in-Ok-clause-created g c =
    let names = files_of g.N.OutputFile.file_name c.args.outputs.now in
    let len = files_len g.N.OutputFile.file_name c.args.outputs.now in
    inr (inl (λ k lt.
    let there : k < length c.create_outputs.new.snks.items = (let b = c.create_outputs.new.snks.ok.0 in let all = c.in-Ok.ensures.all in omega (arith, lt, b, all, len)) in
    some_still g.H.Host.created c.create_outputs.new.host c.close_all-unclosed.new.host (name_at names k) c.close_all-unclosed.ensures.later.still_created (c.in-Ok.ensures.own.may_close k there)))

pub returns-in-Err-clause-front : goal.returns-in-Err-clause-front
returns-in-Err-clause-front g c = λ before keeps begun.
    let H = g.H.Host in
    let means = g.W.Work.means c.args.work.now in
    let cmd = command_of g.I.Named.name_text g.I.InputFile.head g.N.OutputFile.file_name c.args.inputs.now c.args.outputs.now c.args.count means in
    let f1 = H.files c.args.host.now in
    let f2 = H.files c.create_outputs.new.host in
    let f3 = H.files c.close_all.new.host in
    let outs = files_of g.N.OutputFile.file_name c.args.outputs.now in
    let heads = c.args.heads.now in
    let snks = c.create_outputs.new.snks.items in
    let n = c.create_outputs.new.snks.ok.0 in
    fronts cmd (begun_left g.H.Src.Source.left) target_holds c.args.srcs.items heads before f1 f2 f3 snks snks keeps begun c.requires.planned c.in-Err.ensures.empty
    (subst (λ (m : ℕ). KeepsAllBut f1 f2 outs m) n c.in-Err.ensures.files) (subst (λ (m : ℕ). KeepsAllBut f2 f3 outs m) n c.close_all.ensures.files) c.close_all.ensures.put c.requires.apart c.in-Err.ensures.own.few
    (let most = c.requires.count.0 in let len = files_len g.N.OutputFile.file_name c.args.outputs.now in omega (arith, most, len))
    (λ bytes told. none_written c.args.count target_holds (means.text heads bytes) (means.file heads bytes) snks told.empty)

pub returns-in-Err-clause-ends : goal.returns-in-Err-clause-ends
returns-in-Err-clause-ends g c = λ before keeps begun.
    let H = g.H.Host in
    let cmd = command_of g.I.Named.name_text g.I.InputFile.head g.N.OutputFile.file_name c.args.inputs.now c.args.outputs.now c.args.count (g.W.Work.means c.args.work.now) in
    let ins = counted H.in_faults c.args.host.now c.close_all.new.host in
    let outs = counted H.out_faults c.args.host.now c.close_all.new.host in
    subst (λ (e : _). Ends cmd before ins outs e) (sym c.end_of_output.ensures)
    (ends_uncreated cmd (begun_left g.H.Src.Source.left) before ins outs c.args.srcs.items c.args.heads.now (H.out_faults c.create_outputs.new.host) c.in-Err.field-0.output c.in-Err.field-0.end
    c.in-Err.ensures.refused (λ n. c.close_all.ensures.later.outs_later n) begun c.requires.planned)

pub returns-in-Err-clause-in_counts : goal.returns-in-Err-clause-in_counts
returns-in-Err-clause-in_counts g c =
    let H = g.H.Host in
    let cmd = command_of g.I.Named.name_text g.I.InputFile.head g.N.OutputFile.file_name c.args.inputs.now c.args.outputs.now c.args.count (g.W.Work.means c.args.work.now) in
    let names = names_of g.I.Named.name_text c.args.inputs.now in
    let n = length c.args.inputs.now in
    counts_all (H.in_faults c.args.host.now) (H.in_faults c.close_all.new.host) names n (sound_inputs cmd c.end_of_output.result) (let len = names_len g.I.Named.name_text c.args.inputs.now in omega (arith, len))
    (λ name below. c.close_all.ensures.in_counts n c.requires.unfailed name below ∙ c.create_outputs.ensures.ins name)

pub returns-in-Err-clause-out_counts : goal.returns-in-Err-clause-out_counts
returns-in-Err-clause-out_counts g c =
    let H = g.H.Host in
    let cmd = command_of g.I.Named.name_text g.I.InputFile.head g.N.OutputFile.file_name c.args.inputs.now c.args.outputs.now c.args.count (g.W.Work.means c.args.work.now) in
    let names = files_of g.N.OutputFile.file_name c.args.outputs.now in
    let old = H.out_faults c.args.host.now in
    let mid = H.out_faults c.create_outputs.new.host in
    let new = H.out_faults c.close_all.new.host in
    subst (λ (e : _). KeepsCounts old new names (sound_outputs cmd e)) (sym c.end_of_output.ensures)
    (subst (λ (k : ℕ). KeepsCounts old new names k) (sym (uncreated_sound cmd c.in-Err.field-0.output c.in-Err.field-0.end))
    (counts_twice old mid new names 0 (counts_zero old mid names c.in-Err.field-0.output c.in-Err.ensures.counts) (c.close_all.ensures.out_counts 0 (closed_none c.close_all.result) (λ k d lt below. absurd (omega (arith, below))))))

pub close_all-unclosed-requires-clause-srcs : goal.close_all-unclosed-requires-clause-srcs
close_all-unclosed-requires-clause-srcs g c κs within =
    let H = g.H.Host in
    let S = g.H.Src.Source in
    kept_open H.opened (begun_name S.name) c.create_outputs.new.host (names_of g.I.Named.name_text c.args.inputs.now) c.args.srcs.items c.run_traced-end.result.srcs.items
    (open_still H.opened (begun_name S.name) c.args.host.now c.create_outputs.new.host (names_of g.I.Named.name_text c.args.inputs.now) c.args.srcs.items (λ n o. c.in-Ok.ensures.later.still_opened n o) c.requires.own) c.run_traced-end.ensures.srcs_kept

pub close_all-unclosed-requires-clause-snks : goal.close_all-unclosed-requires-clause-snks
close_all-unclosed-requires-clause-snks g c κs within =
    let H = g.H.Host in
    kept_open H.created target_name c.create_outputs.new.host (files_of g.N.OutputFile.file_name c.args.outputs.now) c.create_outputs.new.snks.items c.run_traced-end.result.snks.items c.in-Ok.ensures.own c.run_traced-end.ensures.snks_kept

pub returns-in-Ok-clause-bytes : goal.returns-in-Ok-clause-bytes
returns-in-Ok-clause-bytes g c = λ fine before keeps begun.
    let H = g.H.Host in
    let means = g.W.Work.means c.args.work.now in
    let cmd = command_of g.I.Named.name_text g.I.InputFile.head g.N.OutputFile.file_name c.args.inputs.now c.args.outputs.now c.args.count means in
    let outs = files_of g.N.OutputFile.file_name c.args.outputs.now in
    let f1 = H.files c.args.host.now in
    let f2 = H.files c.create_outputs.new.host in
    let snks = c.create_outputs.new.snks.items in
    let snks' = c.run_traced-end.result.snks.items in
    let len = files_len g.N.OutputFile.file_name c.args.outputs.now in
    let many : c.args.count ≤ length snks' = (let a = c.run_traced-end.ensures.snks_kept.as_many in let b = c.create_outputs.new.snks.ok.0 in let all = c.in-Ok.ensures.all in let most = c.requires.count.0 in omega (arith, a, b, all, most)) in
    let made : vec_len c.create_outputs.new.snks ≡ length outs = (let all = c.in-Ok.ensures.all in omega (arith, all, len)) in
    meant cmd (begun_left g.H.Src.Source.left) target_holds c.args.srcs.items c.args.heads.now before f1 f2 (H.files c.close_all-unclosed.new.host) snks snks' keeps begun c.requires.planned c.in-Ok.ensures.empty
    (subst (λ (m : ℕ). KeepsAllBut f1 f2 outs m) made c.in-Ok.ensures.files) c.close_all-unclosed.ensures.put many
    (λ bytes told. c.run_traced-end.ensures.fine (fine_only c.run_traced-end.result.end c.close_all-unclosed.result (sym c.end_with.ensures ∙ fine)) bytes told)

pub returns-in-Ok-clause-front : goal.returns-in-Ok-clause-front
returns-in-Ok-clause-front g c = λ before keeps begun.
    let H = g.H.Host in
    let means = g.W.Work.means c.args.work.now in
    let cmd = command_of g.I.Named.name_text g.I.InputFile.head g.N.OutputFile.file_name c.args.inputs.now c.args.outputs.now c.args.count means in
    let f1 = H.files c.args.host.now in
    let f2 = H.files c.create_outputs.new.host in
    let f3 = H.files c.close_all-unclosed.new.host in
    let outs = files_of g.N.OutputFile.file_name c.args.outputs.now in
    let snks = c.create_outputs.new.snks.items in
    let snks' = c.run_traced-end.result.snks.items in
    let made : vec_len c.create_outputs.new.snks ≡ length snks' = (let a = c.run_traced-end.ensures.snks_kept.as_many in let b = c.create_outputs.new.snks.ok.0 in omega (arith, a, b)) in
    fronts cmd (begun_left g.H.Src.Source.left) target_holds c.args.srcs.items c.args.heads.now before f1 f2 f3 snks snks' keeps begun c.requires.planned c.in-Ok.ensures.empty
    (subst (λ (m : ℕ). KeepsAllBut f1 f2 outs m) made c.in-Ok.ensures.files) (subst (λ (m : ℕ). KeepsAllBut f2 f3 outs m) c.run_traced-end.result.snks.ok.0 c.close_all-unclosed.ensures.files) c.close_all-unclosed.ensures.put c.requires.apart
    (let few = c.in-Ok.ensures.own.few in let a = c.run_traced-end.ensures.snks_kept.as_many in omega (arith, few, a))
    (let most = c.requires.count.0 in let len = files_len g.N.OutputFile.file_name c.args.outputs.now in omega (arith, most, len)) c.run_traced-end.ensures.parts

pub returns-in-Ok-clause-ends : goal.returns-in-Ok-clause-ends
returns-in-Ok-clause-ends g c = λ before keeps begun.
    let H = g.H.Host in
    let S = g.H.Src.Source in
    let means = g.W.Work.means c.args.work.now in
    let cmd = command_of g.I.Named.name_text g.I.InputFile.head g.N.OutputFile.file_name c.args.inputs.now c.args.outputs.now c.args.count means in
    let left = begun_left S.left in
    let outputs = files_of g.N.OutputFile.file_name c.args.outputs.now in
    let ins = counted H.in_faults c.args.host.now c.close_all-unclosed.new.host in
    let outs = counted H.out_faults c.args.host.now c.close_all-unclosed.new.host in
    let in_mid = H.in_faults c.create_outputs.new.host in
    let out_mid = H.out_faults c.create_outputs.new.host in
    let done = c.close_all-unclosed.ensures in
    let srcs = c.args.srcs.items in
    let snks = c.create_outputs.new.snks.items in
    let heads = c.args.heads.now in
    subst (λ (e : _). Ends cmd before ins outs e) (sym c.end_with.ensures)
    (ends_closed cmd left before ins outs srcs heads (begun_faults S.faults) target_faults in_mid out_mid (AreTold left target_holds srcs snks) c.run_traced-end.result.end c.close_all-unclosed.result c.run_traced-end.result.srcs.items snks c.run_traced-end.result.snks.items
    c.run_traced-end.ensures.ends c.run_traced-end.ensures.srcs_kept.as_many c.run_traced-end.ensures.snks_kept.as_many (let many = c.requires.many in omega (arith, many)) c.in-Ok.ensures.own.few (names_len g.I.Named.name_text c.args.inputs.now) done.in_counted done.out_counted
    (subst (λ (m : ℕ). FailsAt out_mid outs.after outputs m c.close_all-unclosed.result) c.run_traced-end.result.snks.ok.0 done.first) (λ n. c.in-Ok.ensures.later.ins_later n) (λ n. c.in-Ok.ensures.later.outs_later n) begun c.requires.planned
    (λ files is. told_of cmd left target_holds srcs heads before (H.files c.args.host.now) files snks is keeps begun c.in-Ok.ensures.empty))

pub returns-in-Ok-clause-in_counts : goal.returns-in-Ok-clause-in_counts
returns-in-Ok-clause-in_counts g c =
    let H = g.H.Host in
    let S = g.H.Src.Source in
    let means = g.W.Work.means c.args.work.now in
    let cmd = command_of g.I.Named.name_text g.I.InputFile.head g.N.OutputFile.file_name c.args.inputs.now c.args.outputs.now c.args.count means in
    let names = names_of g.I.Named.name_text c.args.inputs.now in
    let old = H.in_faults c.args.host.now in
    let new = H.in_faults c.close_all-unclosed.new.host in
    let n = length c.args.inputs.now in
    let end = c.run_traced-end.result.end in
    let srcs = c.args.srcs.items in
    let srcs' = c.run_traced-end.result.srcs.items in
    let count = sound_sources means end n in
    let fails : FailNoMore (begun_faults S.faults) srcs srcs' count = subst (λ (m : ℕ). FailNoMore (begun_faults S.faults) srcs srcs' (sound_sources means end m)) c.requires.many c.run_traced-end.ensures.sound_srcs in
    subst (λ (e : _). KeepsCounts old new names (sound_inputs cmd e)) (sym c.end_with.ensures)
    (subst (λ (m : ℕ). KeepsCounts old new names m) (sym (sources_sound cmd end c.close_all-unclosed.result))
    (λ name below. c.close_all-unclosed.ensures.in_counts count (still_unfailed (begun_faults S.faults) srcs srcs' n count c.run_traced-end.ensures.srcs_kept.as_many (let many = c.requires.many in omega (arith, many)) c.requires.unfailed fails) name below
    ∙ c.create_outputs.ensures.ins name))

pub returns-in-Ok-clause-out_counts : goal.returns-in-Ok-clause-out_counts
returns-in-Ok-clause-out_counts g c =
    let H = g.H.Host in
    let means = g.W.Work.means c.args.work.now in
    let cmd = command_of g.I.Named.name_text g.I.InputFile.head g.N.OutputFile.file_name c.args.inputs.now c.args.outputs.now c.args.count means in
    let names = files_of g.N.OutputFile.file_name c.args.outputs.now in
    let old = H.out_faults c.args.host.now in
    let mid = H.out_faults c.create_outputs.new.host in
    let new = H.out_faults c.close_all-unclosed.new.host in
    let m = length c.args.outputs.now in
    let end = c.run_traced-end.result.end in
    let unclosed = c.close_all-unclosed.result in
    let snks = c.create_outputs.new.snks.items in
    let snks' = c.run_traced-end.result.snks.items in
    let len = files_len g.N.OutputFile.file_name c.args.outputs.now in
    let few : length snks ≤ m = (let few = c.in-Ok.ensures.own.few in omega (arith, few, len)) in
    subst (λ (e : _). KeepsCounts old new names (sound_outputs cmd e)) (sym c.end_with.ensures)
    (let count = sound_outputs cmd c.end_with.result in
    subst (λ (e : _). KeepsCounts old new names (sound_outputs cmd e)) c.end_with.ensures
    (counts_twice old mid new names count (counts_all old mid names m count (omega (arith, len)) c.in-Ok.ensures.counts)
    (c.close_all-unclosed.ensures.out_counts count (subst (λ (e : _). Rattle.ff_files.specs.Outputs.AreClosed unclosed (sound_outputs cmd e)) (sym c.end_with.ensures) (closed_sound cmd end unclosed))
    (still_unfailed target_faults snks snks' m count c.run_traced-end.ensures.snks_kept.as_many few c.in-Ok.ensures.unfailed (subst (λ (e : _). FailNoMore target_faults snks snks' (sound_outputs cmd e)) (sym c.end_with.ensures) (sinks_sound cmd target_faults snks snks' end unclosed c.run_traced-end.ensures.sound_snks))))))

pub returns-in-Ok-clause-logged : goal.returns-in-Ok-clause-logged
returns-in-Ok-clause-logged g c = λ fine before keeps begun.
    let means = g.W.Work.means c.args.work.now in
    let cmd = command_of g.I.Named.name_text g.I.InputFile.head g.N.OutputFile.file_name c.args.inputs.now c.args.outputs.now c.args.count means in
    c.run_traced-end.ensures.logged (fine_only c.run_traced-end.result.end c.close_all-unclosed.result (sym c.end_with.ensures ∙ fine)) (told_bytes cmd before)
    (all_told cmd (begun_left g.H.Src.Source.left) target_holds c.args.srcs.items c.args.heads.now before (g.H.Host.files c.args.host.now) c.create_outputs.new.snks.items keeps begun c.in-Ok.ensures.empty)

pub returns-in-Ok-clause-traced : goal.returns-in-Ok-clause-traced
returns-in-Ok-clause-traced g c = λ fine before keeps.
    let H = g.H.Host in
    let means = g.W.Work.means c.args.work.now in
    let cmd = command_of g.I.Named.name_text g.I.InputFile.head g.N.OutputFile.file_name c.args.inputs.now c.args.outputs.now c.args.count means in
    let outs = files_of g.N.OutputFile.file_name c.args.outputs.now in
    let f1 = H.files c.args.host.now in
    let f2 = H.files c.create_outputs.new.host in
    let f3 = H.files c.close_all-unclosed.new.host in
    let snks = c.create_outputs.new.snks.items in
    let snks' = c.run_traced-end.result.snks.items in
    let log = c.run_traced-end.result.log in
    let printed = g.W.Work.printed in
    let len = files_len g.N.OutputFile.file_name c.args.outputs.now in
    let made : vec_len c.create_outputs.new.snks ≡ length outs = (let all = c.in-Ok.ensures.all in omega (arith, all, len)) in
    let many : length snks ≡ length outs = (let b = c.create_outputs.new.snks.ok.0 in omega (arith, b, made)) in
    let many' : length snks' ≡ length outs = (let a = c.run_traced-end.ensures.snks_kept.as_many in omega (arith, a, many)) in
    if_some_more (λ l. GainTexts c.args.count target_holds (printed l) snks snks') (λ l. HoldTrace cmd (printed l) before f3) log
    (λ l gain. traced cmd target_holds (printed l) before f1 f2 f3 snks snks' keeps (subst (λ (m : ℕ). KeepsAllBut f1 f2 outs m) made c.in-Ok.ensures.files) c.in-Ok.ensures.empty c.close_all-unclosed.ensures.put many many' gain)
    (c.run_traced-end.ensures.traced (fine_only c.run_traced-end.result.end c.close_all-unclosed.result (sym c.end_with.ensures ∙ fine)))
