use Rattle.std.proofs.Common.{◌≡◌, ◌≤◌, ◌+◌, ◌-◌, ◌<◌, ℕ, vec_len, vec_items, get_or}
use Rattle.std.specs.Vec.Iter.{into_iter_items, into_iter_len}
use Rattle.ff_host.specs.Causes.{SameCounts}
use Rattle.ff_files.specs.Names.{files_of, name_at, named_before, KeepsAllBut, HoldsUnder}
use Rattle.ff_files.specs.laws.Targets.{target_holds, target_faults}
use Rattle.ff_files.specs.Counts.{KeepsCounts, KeepsCountsBut, AreUnfailed, RoseUnder}
use Rattle.ff_files.specs.laws.Hosts.{Later}
use Rattle.ff_files.specs.Outputs.{FailsAt, AreClosed}
use Rattle.ff_files.proofs.closing.close_sinks.Given as goal

abbrev pub invariant-loop-snk : goal.invariant-loop-snk
invariant-loop-snk g l =
    let H = g.H.Host in
    let rest = l.snk-iterator in
    let names = files_of g.N.OutputFile.file_name l.fn.outputs in
    record {
      left : l.k + into_iter_len rest ≡ vec_len l.fn.snks;
      rest : (j : ℕ) (d : _) → j < into_iter_len rest → get_or (into_iter_items rest) j d ≡ get_or (vec_items l.fn.snks) (l.k + j) d;
      later : Later H.in_faults H.out_faults H.opened H.created l.fn.host l.host;
      files : KeepsAllBut (H.files l.fn.host) (H.files l.host) names l.k;
      put : (j : ℕ) (d : _) → j < l.k → HoldsUnder (H.files l.fn.host) (H.files l.host) (name_at names j) (target_holds (get_or (vec_items l.fn.snks) j d));
      counted : (j : ℕ) (d : _) → j < l.k → 1 ≤ target_faults (get_or (vec_items l.fn.snks) j d) → RoseUnder (H.out_faults l.fn.host) (H.out_faults l.host) (name_at names j);
      counts : (count : ℕ) → AreClosed l.first count → AreUnfailed target_faults (vec_items l.fn.snks) count → KeepsCounts (H.out_faults l.fn.host) (H.out_faults l.host) names count;
      others : KeepsCountsBut (H.out_faults l.fn.host) (H.out_faults l.host) names l.k;
      failed : FailsAt (H.out_faults l.fn.host) (H.out_faults l.host) names l.k l.first;
      ins : SameCounts (H.in_faults l.fn.host) (H.in_faults l.host);
      sources : H.open_sources l.host ≡ H.open_sources l.fn.host;
      sinks : H.open_sinks l.host ≡ H.open_sinks l.fn.host - named_before names l.k;
    }
