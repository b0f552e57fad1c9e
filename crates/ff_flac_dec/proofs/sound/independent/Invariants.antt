use Rattle.std.proofs.Common.{◌≡◌, ◌++◌, map, drop}
use Rattle.std.specs.List.{AllByRecursion}
use Rattle.ff_flac_frame.specs.laws.Facts.{IsPart}
use Rattle.ff_flac_frame.specs.laws.Parts.{part_of}
use Rattle.ff_flac_dec.specs.Values.{channel_samples}
use Rattle.ff_flac_dec.specs.Channels.{AllChannels, IsCoded}
use Rattle.ff_flac_dec.specs.laws.Joins.{items_of}
use Rattle.ff_flac_dec.proofs.sound.independent.Given as goal

abbrev pub invariant-loop-subframe : goal.invariant-loop-subframe
invariant-loop-subframe l = record {
  parts : AllByRecursion (IsPart l.block l.depth) (map part_of (drop l.subframe-index l.subframes));
  total : items_of l.channels.items ++ map (channel_samples l.block) (map part_of (drop l.subframe-index l.subframes)) ≡ map (channel_samples l.block) (map part_of l.subframes);
  coded : AllByRecursion (IsCoded l.block l.depth) (map part_of (drop l.subframe-index l.subframes)) → AllByRecursion (IsCoded l.block l.depth) (map part_of l.subframes);
  left : AllByRecursion (IsCoded l.block l.depth) (map part_of l.subframes) → AllByRecursion (IsCoded l.block l.depth) (map part_of (drop l.subframe-index l.subframes));
  within : AllChannels l.depth (items_of l.channels.items);
}
