use Rattle.ff_files.specs.Counts.{counted}
use Rattle.ff_files.specs.Works.{command_of}
use Rattle.ff_files.proofs.EndLaws.{refused, no_plan, complete}
use Rattle.ff_files.proofs.whole.over_files.Goals as goal

pub returns-clause-refused : goal.returns-clause-refused
returns-clause-refused g c = λ k why first none.
    let H = g.H.Host in
    let cmd = command_of g.I.Named.name_text g.I.InputFile.head g.N.OutputFile.file_name c.args.inputs.now c.args.outputs.now c.args.count (g.W.Work.means c.args.work.now) in
    let ins = counted H.in_faults c.args.host.now c.run_files.new.host in
    let outs = counted H.out_faults c.args.host.now c.run_files.new.host in
    refused cmd ins outs (H.files c.args.host.now) c.run_files.result.end k why c.run_files.ensures.ends first none

pub returns-clause-no_plan : goal.returns-clause-no_plan
returns-clause-no_plan g c = λ why has_none none.
    let H = g.H.Host in
    let cmd = command_of g.I.Named.name_text g.I.InputFile.head g.N.OutputFile.file_name c.args.inputs.now c.args.outputs.now c.args.count (g.W.Work.means c.args.work.now) in
    let ins = counted H.in_faults c.args.host.now c.run_files.new.host in
    let outs = counted H.out_faults c.args.host.now c.run_files.new.host in
    no_plan cmd ins outs (H.files c.args.host.now) c.run_files.result.end why c.run_files.ensures.ends has_none none

pub returns-clause-complete : goal.returns-clause-complete
returns-clause-complete g c = λ can none no_more.
    let H = g.H.Host in
    let cmd = command_of g.I.Named.name_text g.I.InputFile.head g.N.OutputFile.file_name c.args.inputs.now c.args.outputs.now c.args.count (g.W.Work.means c.args.work.now) in
    let ins = counted H.in_faults c.args.host.now c.run_files.new.host in
    let outs = counted H.out_faults c.args.host.now c.run_files.new.host in
    complete cmd ins outs (H.files c.args.host.now) c.run_files.result.end c.run_files.ensures.ends can none no_more
