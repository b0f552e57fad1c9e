use Rattle.std.proofs.Common.{length, drop, ◌-◌, ◌≡◌}
use Rattle.ff_flac_dec.specs.Tags.{named_from}
use Rattle.ff_flac_dec.proofs.tag.is_named.Given as goal

abbrev pub invariant-tags : goal.invariant-tags
invariant-tags l = named_from 0 (drop l.at l.bytes) ≡ named_from 0 l.bytes

abbrev pub decreases-tags : goal.decreases-tags
decreases-tags l = length l.bytes - l.at
