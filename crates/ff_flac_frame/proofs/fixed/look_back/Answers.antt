use Rattle.std.proofs.Common.{◌-◌, ◌<◌, ℤ, pos, length, sym, subst, arith}
use Rattle.std.specs.Prelude.{slice_index_or}
use Rattle.ff_flac_frame.specs.laws.Bounds.{IsSmall}
use Rattle.ff_flac_frame.proofs.PredictionLemmas.{IsSmall-in_depth, small_same}
use Rattle.ff_flac_frame.proofs.fixed.look_back.Goals as goal

pub returns-clause-small : goal.returns-clause-small
returns-clause-small c =
    let xs = c.args.xs.now in
    let lt : length xs - c.args.k < length xs = omega arith in
    let s = IsSmall-in_depth c.args.depth (slice_index_or xs (length xs - c.args.k) (pos 0)) c.requires.depth (c.requires.within (length xs - c.args.k) lt) in
    subst (λ (x : ℤ). IsSmall x) (sym (small_same (slice_index_or xs (length xs - c.args.k) (pos 0)) s)) s
