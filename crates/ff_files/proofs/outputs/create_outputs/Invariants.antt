use Rattle.std.proofs.Common.{◌≡◌, ◌≤◌, ◌+◌, length, vec_len, vec_capacity}
use Rattle.ff_host.specs.Causes.{SameCounts}
use Rattle.ff_files.specs.Names.{files_of, named_before, KeepsAllBut}
use Rattle.ff_files.specs.laws.Targets.{target_holds, target_faults, target_name}
use Rattle.ff_files.specs.Counts.{AreUnfailed}
use Rattle.ff_files.specs.laws.Hosts.{Later, AreOpen}
use Rattle.ff_files.specs.Outputs.{AreEmpty}
use Rattle.ff_files.proofs.outputs.create_outputs.Given as goal

abbrev pub invariant-loop-k : goal.invariant-loop-k
invariant-loop-k g l =
    let H = g.H.Host in
    let names = files_of g.N.OutputFile.file_name l.outputs in
    record {
      count : vec_len l.snks ≡ l.k;
      room : length l.outputs ≤ vec_capacity l.snks;
      later : Later H.in_faults H.out_faults H.opened H.created l.fn.host l.host;
      files : KeepsAllBut (H.files l.fn.host) (H.files l.host) names l.k;
      own : AreOpen H.created target_name l.host names l.snks.items;
      outs : SameCounts (H.out_faults l.fn.host) (H.out_faults l.host);
      ins : SameCounts (H.in_faults l.fn.host) (H.in_faults l.host);
      sources : H.open_sources l.host ≡ H.open_sources l.fn.host;
      sinks : H.open_sinks l.host ≡ H.open_sinks l.fn.host + named_before names l.k;
      empty : AreEmpty target_holds (H.files l.fn.host) l.snks.items;
      unfailed : AreUnfailed target_faults l.snks.items (length l.outputs);
    }
