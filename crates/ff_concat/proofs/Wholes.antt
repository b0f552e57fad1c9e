-- Of valid inputs each output is valid.
use Rattle.std.proofs.Common.{◌≡◌, ℕ, zero, suc, ◌+◌, ◌*◌, ◌<◌, List, [], ◌∷◌, map, length, get_or, sym, ap, subst, arith}
use Rattle.std.specs.Prelude.{slice_index}
use Rattle.std.specs.List.{AllByRecursion}
use Rattle.ff_frame.specs.declared.head.StreamHead.{StreamHead}
use Rattle.ff_frame.specs.Heads.{base_of_head}
use Rattle.ff_stream.specs.declared.item.Lane.TheVariants.{Frames}
use Rattle.ff_stream.specs.Lanes.{IsValid}
use Rattle.ff_filter.specs.Joins.{Ports}
use Rattle.ff_concat.specs.Tails.{tail_of}
use Rattle.ff_concat.specs.Concats.{product, ticks_by, ticks_of, concatenated}
use Rattle.ff_concat.specs.ConcatOptions.{start_view}
use Rattle.ff_concat.specs.laws.Fed.{CanFollow, AreFed}
use Rattle.ff_concat.specs.laws.StartLaws.{ticks-length, whole_is}
use Rattle.ff_concat.proofs.Later.{mul_up}
use Rattle.ff_concat.proofs.SegmentShapes.{segments_fine, fine_valid}

some_times : (a b : ℕ) → 0 < a → 0 < b → 0 < a * b
some_times a b some more = let m = mul_up a b more in omega (arith, some, m)

some_product : (hs : List StreamHead) → AllByRecursion CanFollow hs → 0 < product (map base_of_head hs)
some_product [] all = omega arith
some_product (h ∷ hs) all = some_times (base_of_head h).den (product (map base_of_head hs)) all.0.base.den_positive (some_product hs all.1)

-- a tick of each stream is some units
some_tick : (s : ℕ) (hs : List StreamHead) (q : ℕ) → 0 < s → AllByRecursion CanFollow hs → q < length hs → 0 < slice_index (ticks_by s (map base_of_head hs)) q
some_tick s [] q some all lt = absurd (omega (arith, lt))
some_tick s (h ∷ hs) zero some all lt =
    some_times (base_of_head h).num (s * product (map base_of_head hs)) all.0.base.num_positive
    (some_times s (product (map base_of_head hs)) some (some_product hs all.1))
some_tick s (h ∷ hs) (suc q) some all lt =
    some_tick (s * (base_of_head h).den) hs q (some_times s (base_of_head h).den some all.0.base.den_positive) all.1 (omega (arith, lt))

each_can : (hs : List StreamHead) (q : ℕ) (d : StreamHead) → AllByRecursion CanFollow hs → q < length hs → CanFollow (get_or hs q d)
each_can [] q d all lt = absurd (omega (arith, lt))
each_can (h ∷ hs) zero d all lt = all.0
each_can (h ∷ hs) (suc q) d all lt = each_can hs q d all.1 (omega (arith, lt))

-- of valid inputs each output is valid
pub wholes_valid : (heads : List StreamHead) (n q : ℕ) (d : StreamHead) (ss : Ports) → AllByRecursion CanFollow heads → AreFed heads n ss → q < length heads
    → IsValid (Frames (get_or heads q d)) ((start_view (heads, n)).rest ss q)
wholes_valid heads n q d ss all fed lt =
    let h = get_or heads q d in
    let w = length heads in
    let ts = ticks_of heads in
    let long : length ts ≡ w = ticks-length heads in
    let can = each_can heads q d all lt in
    let some : 0 < slice_index ts q = some_tick 1 heads q (omega arith) all lt in
    let there : q < length ts = omega (arith, long, lt) in
    let fine = segments_fine h can ts q there some (λ k. ss (k * w + q)) (λ p. tail_of (ss p)) n (λ k less. fed k q d less lt)
    (λ k less. ap (λ (v : ℕ). (tail_of (ss (k * v + q))).end) long) n 0 0 0 0 (omega arith) (omega arith) in
    subst (λ s. IsValid (Frames h) s) (sym (whole_is heads n q d ss lt)) (fine_valid h can (concatenated heads h q n ss) 0 fine)
