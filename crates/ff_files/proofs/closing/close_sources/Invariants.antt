use Rattle.std.proofs.Common.{◌≡◌, ◌≤◌, ◌+◌, ◌-◌, ◌<◌, ℕ, vec_len, vec_items, get_or}
use Rattle.std.specs.Vec.Iter.{into_iter_items, into_iter_len}
use Rattle.ff_host.specs.Causes.{SameCounts}
use Rattle.ff_host.specs.Files.{KeepsFiles}
use Rattle.ff_files.specs.Names.{names_of, name_at}
use Rattle.ff_files.specs.Counts.{KeepsCounts, AreUnfailed, RoseUnder}
use Rattle.ff_files.specs.laws.Hosts.{Later}
use Rattle.ff_files.specs.laws.Inputs.{begun_faults}
use Rattle.ff_files.proofs.closing.close_sources.Given as goal

abbrev pub invariant-loop-src : goal.invariant-loop-src
invariant-loop-src g l =
    let H = g.H.Host in
    let rest = l.src-iterator in
    let names = names_of g.N.Named.name_text l.fn.inputs in
    record {
      left : l.k + into_iter_len rest ≡ vec_len l.fn.srcs;
      rest : (j : ℕ) (d : _) → j < into_iter_len rest → get_or (into_iter_items rest) j d ≡ get_or (vec_items l.fn.srcs) (l.k + j) d;
      later : Later H.in_faults H.out_faults H.opened H.created l.fn.host l.host;
      files : KeepsFiles (H.files l.fn.host) (H.files l.host);
      counted : (j : ℕ) (d : _) → j < l.k → 1 ≤ begun_faults g.H.Src.Source.faults (get_or (vec_items l.fn.srcs) j d) → RoseUnder (H.in_faults l.fn.host) (H.in_faults l.host) (name_at names j);
      counts : (count : ℕ) → AreUnfailed (begun_faults g.H.Src.Source.faults) (vec_items l.fn.srcs) count → KeepsCounts (H.in_faults l.fn.host) (H.in_faults l.host) names count;
      outs : SameCounts (H.out_faults l.fn.host) (H.out_faults l.host);
      sources : H.open_sources l.host ≡ H.open_sources l.fn.host - l.k;
      sinks : H.open_sinks l.host ≡ H.open_sinks l.fn.host;
    }
