use Rattle.std.proofs.Common.{◌≡◌, ◌++◌, map, Ok, vec_items}
use Rattle.std.specs.Vec.Iter.{into_iter_items}
use Rattle.ff_flac_enc.proofs.at_once.all_of.Given as goal

abbrev pub invariant-loop-one : goal.invariant-loop-one
invariant-loop-one l = l.fn.each.items ≡ map Ok (vec_items l.all) ++ into_iter_items l.one-iterator
