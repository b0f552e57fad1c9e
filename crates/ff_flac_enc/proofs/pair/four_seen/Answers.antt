use Rattle.std.proofs.Common.{◌+◌}
use Rattle.ff_flac_enc.proofs.pair.four_seen.Goals as goal

pub returns : goal.returns
returns c bits left right mid side h = record {
  left = c.seen.ensures bits left h.left;
  right = c.seen-2.ensures bits right h.right;
  mid = c.seen-3.ensures bits mid h.mid;
  side = c.seen-4.ensures (bits + 1) side h.side;
}
