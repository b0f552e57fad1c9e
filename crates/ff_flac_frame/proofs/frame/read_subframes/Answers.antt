use Rattle.std.proofs.Common.{◌≡◌, ◌++◌, ◌∷◌, [], map, arith}
use Rattle.std.proofs.lemmas.Result.{err_from_is_err_and}
use Rattle.std.proofs.lemmas.List.{map_push}
use Rattle.ff_flac_frame.specs.laws.Parts.{part_of}
use Rattle.ff_flac_frame.proofs.Seals.{subframes_goes_on, subframes_fails, subframes_done}
use Rattle.ff_flac_frame.proofs.frame.read_subframes.Goals as goal

pub returns-in_err-part : goal.returns-in_err-part
returns-in_err-part c =
    let p = err_from_is_err_and c.from_residual.result c.from_residual.ensures.1 in
    rw (p.1, p.2) (subframes_fails c.args.block (map part_of c.loop-depth.parts.items) c.args.depths.now c.loop-depth.depth-index c.loop-depth.reader _ c.in_err-part.field-0.0 (omega arith) c.in_err-part.ensures c.loop-depth.invariant)

pub loop-depth-preserved : goal.loop-depth-preserved
loop-depth-preserved c =
    let e : map part_of c.push.new.self.items ≡ map part_of c.loop-depth.parts.items ++ part_of c.in_ok-part.part ∷ [] = rw c.in_ok-push.ensures.items (map_push _ c.loop-depth.parts.items c.in_ok-part.part) in
    rw e (subframes_goes_on c.args.block (map part_of c.loop-depth.parts.items) c.args.depths.now c.loop-depth.depth-index c.loop-depth.reader _ (omega arith) (part_of c.in_ok-part.part) _ c.in_ok-part.ensures c.loop-depth.invariant)

pub returns : goal.returns
returns c = subframes_done c.args.block (map part_of c.loop-depth.parts.items) c.args.depths.now c.loop-depth.depth-index c.loop-depth.reader _ (omega arith) c.loop-depth.invariant
