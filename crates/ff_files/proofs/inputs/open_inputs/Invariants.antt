use Rattle.std.proofs.Common.{◌≡◌, ◌≤◌, ◌+◌, ◌<◌, ℕ, length, vec_len, vec_capacity, take, slice_index_or, Some, Ok}
use Rattle.std.specs.List.{All}
use Rattle.ff_host.specs.Causes.{SameCounts}
use Rattle.ff_host.specs.Files.{Files, KeepsFiles, bytes_at}
use Rattle.ff_files.specs.Names.{names_of}
use Rattle.ff_files.specs.Counts.{AreUnfailed}
use Rattle.ff_files.specs.Heads.{heads_of}
use Rattle.ff_files.specs.laws.Hosts.{Later, AreOpen}
use Rattle.ff_files.specs.laws.Inputs.{begun_left, begun_name, begun_faults}
use Rattle.ff_files.proofs.inputs.open_inputs.Given as goal

abbrev pub invariant-loop-k : goal.invariant-loop-k
invariant-loop-k g l =
    let H = g.H.Host in
    let I = g.I.InputFile in
    let S = g.H.Src.Source in
    let name = g.I.Named.name_text in
    let names = names_of name l.inputs in
    record {
      count : vec_len l.srcs ≡ l.k;
      count_heads : vec_len l.heads ≡ l.k;
      room : length l.inputs ≤ vec_capacity l.srcs;
      room_heads : length l.inputs ≤ vec_capacity l.heads;
      later : Later H.in_faults H.out_faults H.opened H.created l.fn.host l.host;
      files : KeepsFiles (H.files l.fn.host) (H.files l.host);
      own : AreOpen H.opened (begun_name S.name) l.host names l.srcs.items;
      ins : SameCounts (H.in_faults l.fn.host) (H.in_faults l.host);
      outs : SameCounts (H.out_faults l.fn.host) (H.out_faults l.host);
      sources : H.open_sources l.host ≡ H.open_sources l.fn.host + l.k;
      sinks : H.open_sinks l.host ≡ H.open_sinks l.fn.host;
      unfailed : AreUnfailed (begun_faults S.faults) l.srcs.items (length l.inputs);
      sound : All I.is_sound l.heads.items;
      told_heads : (told : Files) → H.files l.fn.host ≡ Some told → heads_of name I.head told (take l.k l.inputs) ≡ Ok l.heads.items;
      told_bytes : (told : Files) → H.files l.fn.host ≡ Some told → (j : ℕ) (i : _) (d : _) → j < l.k → begun_left S.left (slice_index_or l.srcs.items j d) ≡ Some (bytes_at told (name (slice_index_or l.inputs j i)));
    }
