use Rattle.std.proofs.Common.{◌≡◌, inl, List, length, arith, sym, ◌∙◌, subst}
use Rattle.ff_files.specs.laws.Targets.{target_name, target_faults}
use Rattle.ff_files.specs.Names.{names_of, files_of}
use Rattle.ff_files.specs.Counts.{counted, KeepsCounts}
use Rattle.ff_files.specs.laws.Inputs.{AreBegun, begun_left, begun_faults, sound_before}
use Rattle.ff_files.specs.Works.{command_of, told_bytes, HasLog, HoldMeaning, HoldWritten}
use Rattle.ff_files.specs.Ends.{Ends, end_of_output, sound_inputs}
use Rattle.ff_files.proofs.Lists.{names_len, files_len}
use Rattle.ff_files.proofs.Wholes.{counts_all, counts_twice, has_more, heads_in}
use Rattle.ff_files.proofs.EndLaws.{ends_headless, ends_earlier, headless_sound}
use Rattle.ff_files.proofs.Steps.{files_on}
use Rattle.ff_files.proofs.Creations.{creates_since}
use Rattle.ff_files.proofs.whole.run_files.Goals as goal

pub returns-in-Err-clause-ends : goal.returns-in-Err-clause-ends
returns-in-Err-clause-ends g c =
    let H = g.H.Host in
    let cmd = command_of g.I.Named.name_text g.I.InputFile.head g.N.OutputFile.file_name c.args.inputs.now c.args.outputs.now c.args.count (g.W.Work.means c.args.work.now) in
    let ins = counted H.in_faults c.args.host.now c.close_sources.new.host in
    let outs = counted H.out_faults c.args.host.now c.close_sources.new.host in
    subst (λ (e : _). Ends cmd (H.files c.args.host.now) ins outs e) (sym c.end_of.ensures)
    (ends_headless cmd (H.files c.args.host.now) ins outs (begun_faults g.H.Src.Source.faults) (H.in_faults c.open_inputs.new.host) c.open_inputs.new.srcs.items c.in-Err.field-0.input c.in-Err.field-0.end
    c.in-Err.ensures.refused (names_len g.I.Named.name_text c.args.inputs.now) (λ n. c.close_sources.ensures.later.ins_later n) (λ n. c.in-Err.ensures.later.ins_later n) c.close_sources.ensures.counted)

pub returns-in-Err-clause-in_counts : goal.returns-in-Err-clause-in_counts
returns-in-Err-clause-in_counts g c =
    let H = g.H.Host in
    let cmd = command_of g.I.Named.name_text g.I.InputFile.head g.N.OutputFile.file_name c.args.inputs.now c.args.outputs.now c.args.count (g.W.Work.means c.args.work.now) in
    let names = names_of g.I.Named.name_text c.args.inputs.now in
    let old = H.in_faults c.args.host.now in
    let mid = H.in_faults c.open_inputs.new.host in
    let new = H.in_faults c.close_sources.new.host in
    let count = sound_before c.in-Err.field-0.end c.in-Err.field-0.input (length c.args.inputs.now) in
    subst (λ (e : _). KeepsCounts old new names (sound_inputs cmd e)) (sym c.end_of.ensures)
    (headless_sound cmd old new names c.in-Err.field-0.input c.in-Err.field-0.end (let len = names_len g.I.Named.name_text c.args.inputs.now in omega (arith, len))
    (counts_twice old mid new names count c.in-Err.ensures.counts (c.close_sources.ensures.counts count c.in-Err.ensures.unfailed)))

pub returns-clause-bytes : goal.returns-clause-bytes
returns-clause-bytes g c = λ fine.
    let H = g.H.Host in
    let cmd = command_of g.I.Named.name_text g.I.InputFile.head g.N.OutputFile.file_name c.args.inputs.now c.args.outputs.now c.args.count (g.W.Work.means c.args.work.now) in
    let old = H.files c.args.host.now in
    let srcs = c.open_inputs.new.srcs.items in
    subst (λ (hs : List g.row.I-Head.Denot). AreBegun g.I.Named.name_text g.I.InputFile.head (begun_left g.H.Src.Source.left) old c.args.inputs.now srcs hs → HoldMeaning cmd old (H.files c.plan_outputs.new.host)) c.deref.ensures.value
    (c.plan_outputs.ensures.bytes fine old c.in-Ok-open_inputs.ensures.files) c.in-Ok-open_inputs.ensures.begun

pub returns-clause-front : goal.returns-clause-front
returns-clause-front g c =
    let H = g.H.Host in
    let cmd = command_of g.I.Named.name_text g.I.InputFile.head g.N.OutputFile.file_name c.args.inputs.now c.args.outputs.now c.args.count (g.W.Work.means c.args.work.now) in
    let old = H.files c.args.host.now in
    let srcs = c.open_inputs.new.srcs.items in
    subst (λ (hs : List g.row.I-Head.Denot). AreBegun g.I.Named.name_text g.I.InputFile.head (begun_left g.H.Src.Source.left) old c.args.inputs.now srcs hs → HoldWritten cmd old (H.files c.plan_outputs.new.host)) c.deref.ensures.value
    (c.plan_outputs.ensures.front old c.in-Ok-open_inputs.ensures.files) c.in-Ok-open_inputs.ensures.begun

pub returns-clause-ends : goal.returns-clause-ends
returns-clause-ends g c =
    let H = g.H.Host in
    let cmd = command_of g.I.Named.name_text g.I.InputFile.head g.N.OutputFile.file_name c.args.inputs.now c.args.outputs.now c.args.count (g.W.Work.means c.args.work.now) in
    let old = c.args.host.now in
    let mid = c.open_inputs.new.host in
    let new = c.plan_outputs.new.host in
    let srcs = c.open_inputs.new.srcs.items in
    let ins = counted H.in_faults mid new in
    let outs = counted H.out_faults mid new in
    let later = c.in-Ok-open_inputs.ensures.later in
    ends_earlier cmd (H.files old) (H.in_faults old) (H.in_faults new) (H.out_faults old) (H.out_faults new) (H.in_faults mid) (H.out_faults mid) c.plan_outputs.result.end (λ n. later.ins_later n) (λ n. later.outs_later n)
    (subst (λ (hs : List g.row.I-Head.Denot). AreBegun g.I.Named.name_text g.I.InputFile.head (begun_left g.H.Src.Source.left) (H.files old) c.args.inputs.now srcs hs → Ends cmd (H.files old) ins outs c.plan_outputs.result.end) c.deref.ensures.value
    (c.plan_outputs.ensures.ends (H.files old) c.in-Ok-open_inputs.ensures.files) c.in-Ok-open_inputs.ensures.begun)

pub returns-clause-in_counts : goal.returns-clause-in_counts
returns-clause-in_counts g c =
    let H = g.H.Host in
    let cmd = command_of g.I.Named.name_text g.I.InputFile.head g.N.OutputFile.file_name c.args.inputs.now c.args.outputs.now c.args.count (g.W.Work.means c.args.work.now) in
    let names = names_of g.I.Named.name_text c.args.inputs.now in
    let old = H.in_faults c.args.host.now in
    let mid = H.in_faults c.open_inputs.new.host in
    let n = length c.args.inputs.now in
    let count = sound_inputs cmd c.plan_outputs.result.end in
    counts_twice old mid (H.in_faults c.plan_outputs.new.host) names count (counts_all old mid names n count (let len = names_len g.I.Named.name_text c.args.inputs.now in omega (arith, len)) c.in-Ok-open_inputs.ensures.counts) c.plan_outputs.ensures.in_counts

pub returns-clause-logged : goal.returns-clause-logged
returns-clause-logged g c = λ fine.
    let H = g.H.Host in
    let W = g.W.Work in
    let work = c.args.work.now in
    let cmd = command_of g.I.Named.name_text g.I.InputFile.head g.N.OutputFile.file_name c.args.inputs.now c.args.outputs.now c.args.count (W.means work) in
    let old = H.files c.args.host.now in
    let left = begun_left g.H.Src.Source.left in
    let srcs = c.open_inputs.new.srcs.items in
    let begun = c.in-Ok-open_inputs.ensures.begun in
    let heads = c.open_inputs.new.heads.items in
    has_more (W.tells work heads (told_bytes cmd old)) _ c.plan_outputs.result.log (λ log told. (heads, heads_in cmd left g.H.Snk.Sink.holds srcs heads old begun, told))
    (subst (λ (hs : List g.row.I-Head.Denot). AreBegun g.I.Named.name_text g.I.InputFile.head left old c.args.inputs.now srcs hs → HasLog (W.tells work hs (told_bytes cmd old)) c.plan_outputs.result.log) c.deref.ensures.value
    (c.plan_outputs.ensures.logged fine old c.in-Ok-open_inputs.ensures.files) begun)

pub returns-in-Err-clause-created : goal.returns-in-Err-clause-created
returns-in-Err-clause-created g c =
    let H = g.H.Host in
    inl (
      files_on (H.files c.args.host.now) (H.files c.open_inputs.new.host) (H.files c.close_sources.new.host) c.in-Err.ensures.files c.close_sources.ensures.files,
      λ n. c.close_sources.ensures.outs n ∙ c.in-Err.ensures.outs n,
    )

pub returns-clause-created : goal.returns-clause-created
returns-clause-created g c =
    let H = g.H.Host in
    let old = c.args.host.now in
    let mid = c.open_inputs.new.host in
    let new = c.plan_outputs.new.host in
    creates_since (files_of g.N.OutputFile.file_name c.args.outputs.now) (H.created new) (λ k why. c.plan_outputs.result.end ≡ end_of_output k why) (H.files old) (H.files mid) (H.files new) (H.out_faults old) (H.out_faults mid) (H.out_faults new)
    c.in-Ok-open_inputs.ensures.files c.in-Ok-open_inputs.ensures.outs c.plan_outputs.ensures.created
