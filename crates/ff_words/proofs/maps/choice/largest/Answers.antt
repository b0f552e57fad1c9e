use Rattle.std.proofs.Common.{ℕ, ◌^◌, get_or, List, ◌≡◌, ◌<◌, ◌++◌, length, take, sym, subst, arith}
use Rattle.std.specs.List.{AllByRecursion}
use Rattle.std.specs.Vec.{vec_len}
use Rattle.std.specs.declared.alloc.Global.{Global}
use Rattle.std.specs.declared.vec.Vec.{Vec}
use Rattle.ff_frame.specs.declared.head.StreamHead.{StreamHead}
use Rattle.ff_words.specs.maps.Choice.{IsLargest, lists, all_streams, streams_of}
use Rattle.ff_words.proofs.MapsLemmas.Largest.{input-step}
use Rattle.ff_words.proofs.MapsLemmas.Numbered.{all-at}
use Rattle.ff_words.proofs.maps.choice.largest.Goals as goal

pub loop-input-preserved : goal.loop-input-preserved
loop-input-preserved c =
    input-step c.args.kind c.loop-input.input c.args.heads.now c.index-heads-input.result c.largest_with-best.result c.loop-input-test.true c.index-heads-input.is
    (subst (λ t. IsLargest c.args.kind (all_streams (lists (take c.loop-input.input c.args.heads.now)) ++ streams_of c.loop-input.input t) c.largest_with-best.result) c.as_slice.ensures.value
    (c.largest_with-best.ensures (all_streams (lists (take c.loop-input.input c.args.heads.now))) c.loop-input.invariant))

short : (vs : List (Vec StreamHead Global)) (i : ℕ) (v : Vec StreamHead Global) → i < length vs → v ≡ get_or vs i v → AllByRecursion (λ (w : Vec StreamHead Global). vec_len w < 2 ^ 32) vs → vec_len v < 2 ^ 32
short vs i v lt is all = subst (λ w. vec_len w < 2 ^ 32) (sym is) (all-at (λ w. vec_len w < 2 ^ 32) vs i v lt all)

pub largest_with-best-requires : goal.largest_with-best-requires
largest_with-best-requires c =
    let below : vec_len c.index-heads-input.result < 2 ^ 32 = short c.args.heads.now c.loop-input.input c.index-heads-input.result c.loop-input-test.true c.index-heads-input.is c.requires.streams in
    omega (arith, c.as_slice.ensures.len, below)
