use Rattle.std.proofs.Common.{◌≡◌, ℕ, ◌+◌, ◌<◌, List, [], Bool, ◌∷◌, get_or, drop, length, refl, sym}
use Rattle.std.proofs.lemmas.List.{drop_more, drop_all}
use Rattle.std.proofs.lemmas.Result.{err_from_is_err_and}
use Rattle.ff_bits.specs.Reading.{◌>>=◌, give}
use Rattle.ff_flac_frame.specs.Frame.{subframe, subframes}
use Rattle.ff_flac_frame.proofs.PassedLemmas.{past_one, one_fails}
use Rattle.ff_flac_frame.proofs.size.pass_subframes.Goals as goal

-- the first of those that are left, and the others
in_turn : (block : ℕ) (ds : List ℕ) (i : ℕ) (bits : List Bool) → i < length ds → subframes block (drop i ds) bits ≡ (subframe block (get_or ds i 0) >>= λ first. subframes block (drop (i + 1) ds) >>= λ others. give (first ∷ others)) bits
unfolding subframes
in_turn block ds i bits lt = let k : drop i ds ≡ get_or ds i 0 ∷ drop (i + 1) ds = drop_more ds i 0 lt in rw k refl

pub returns-in_err-pass_subframe : goal.returns-in_err-pass_subframe
returns-in_err-pass_subframe c =
    let p = err_from_is_err_and c.from_residual.result c.from_residual.ensures.1 in
    let l = c.loop-depth in
    let block = c.args.block in
    let ds = c.args.depths.now in
    let e = c.in_err-pass_subframe in
    rw (p.1, p.2) (one_fails (λ x xs. x ∷ xs) (subframe block (get_or ds l.depth-index 0) l.reader) (subframes block (drop (l.depth-index + 1) ds)) (subframes block (drop l.depth-index ds) l.reader) _ (in_turn block ds l.depth-index l.reader c.loop-depth-test.true) l.invariant e.field-0.0 e.ensures)

pub loop-depth-preserved : goal.loop-depth-preserved
loop-depth-preserved c =
    let l = c.loop-depth in
    let block = c.args.block in
    let ds = c.args.depths.now in
    past_one (λ x xs. x ∷ xs) (subframe block (get_or ds l.depth-index 0) l.reader) (subframes block (drop (l.depth-index + 1) ds)) (subframes block (drop l.depth-index ds) l.reader) _ (in_turn block ds l.depth-index l.reader c.loop-depth-test.true) l.invariant _ c.in_ok-pass_subframe.ensures

pub returns : goal.returns
unfolding subframes
returns c = let k : drop c.loop-depth.depth-index c.args.depths.now ≡ [] = drop_all c.loop-depth.depth-index c.args.depths.now c.loop-depth-test.false in sym (rw k at c.loop-depth.invariant)
