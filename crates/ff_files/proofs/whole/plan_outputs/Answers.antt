use Rattle.std.proofs.Common.{inl, length, arith}
use Rattle.ff_files.specs.Names.{names_of, files_of}
use Rattle.ff_files.specs.Works.{command_of}
use Rattle.ff_files.specs.Ends.{sound_inputs}
use Rattle.ff_files.proofs.Lists.{names_len, files_len}
use Rattle.ff_files.proofs.Wholes.{counts_all}
use Rattle.ff_files.proofs.whole.plan_outputs.Goals as goal

pub returns-in-Err-clause-in_counts : goal.returns-in-Err-clause-in_counts
returns-in-Err-clause-in_counts g c =
    let H = g.H.Host in
    let cmd = command_of g.I.Named.name_text g.I.InputFile.head g.N.OutputFile.file_name c.args.inputs.now c.args.outputs.now c.args.count (g.W.Work.means c.args.work.now) in
    let n = length c.args.inputs.now in
    counts_all (H.in_faults c.args.host.now) (H.in_faults c.close_sources.new.host) (names_of g.I.Named.name_text c.args.inputs.now) n (sound_inputs cmd c.end_of_plan.result) (let len = names_len g.I.Named.name_text c.args.inputs.now in omega (arith, len))
    (c.close_sources.ensures.counts n c.requires.unfailed)

pub returns-in-Err-clause-created : goal.returns-in-Err-clause-created
returns-in-Err-clause-created g c = inl (c.close_sources.ensures.files, c.close_sources.ensures.outs)
