use Rattle.std.proofs.Common.{◌≡◌, min, take, length}
use Rattle.std.specs.List.{fold}
use lib.Lanes.{zip2}
use Rattle.ff_flac_subframe.specs.laws.rice.Columns.{items_of}
use Rattle.ff_flac_subframe.proofs.rice.level.lower_by.Given as goal

abbrev pub invariant-loop-costs : goal.invariant-loop-costs
invariant-loop-costs l = record {
  len : length l.least ≡ length l.initial.least;
  is : l.least ≡ fold (zip2 min) l.initial.least (items_of (take l.costs-index l.columns));
}
