use Rattle.std.proofs.Common.{◌≡◌, ◌<◌, ◌≤◌, ◌-◌, ◌^◌, length}
use Rattle.std.specs.Io.KnownBytes.{Consumes}
use Rattle.ff_files.proofs.head.read_pieces.Given as goal

abbrev pub invariant-pieces : goal.invariant-pieces
invariant-pieces g l =
    let S = g.S.Source in
    record {
      bytes : Consumes (S.left l.fn.src) (S.left l.src) l.bytes.items;
      reached : g.I.InputFile.reached l.input l.walk l.bytes.items;
      short : length l.bytes.items ≤ 2 ^ 28;
      room : length l.buffer ≡ 4096;
      unfailed : S.faults l.src ≡ S.faults l.fn.src;
      name : S.name l.src ≡ S.name l.fn.src;
    }

abbrev pub decreases-pieces : goal.decreases-pieces
decreases-pieces g l = 2 ^ 28 - length l.bytes.items
