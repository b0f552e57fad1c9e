-- The laws of segments one after another within the limits.
use Rattle.std.specs.Prelude.{◌≡◌, ℕ, zero, suc, ◌+◌, ◌*◌, ◌<◌, List, [], ◌∷◌, length, map, slice_index, slice_index_or, refl}
use Rattle.std.proofs.Common.{ap, sym, ◌∙◌, arith}
use Rattle.std.proofs.lemmas.List.{length-map}
use Rattle.ff_time.specs.Fraction.{Fraction}
use Rattle.ff_frame.specs.declared.head.StreamHead.{StreamHead}
use Rattle.ff_frame.specs.Heads.{base_of_head}
use Rattle.ff_stream.specs.declared.item.Lane.TheVariants.{Frames}
use Rattle.ff_stream.specs.Stream.{LiesBelow, opened}
use Rattle.ff_stream.specs.Ports.{nothing}
use Rattle.ff_stream.specs.Within.{within, passes_limits}
use Rattle.ff_stream.specs.laws.Order.{below_self, below_trans}
use Rattle.ff_stream.specs.laws.WithinLaws.{within_monotone, within_calm}
use Rattle.ff_filter.specs.declared.after.After.TheVariants.{More}
use Rattle.ff_filter.specs.Joins.{Flow, Ports, EachBelow, all_opened, Grows, HidesBreaks}
use Rattle.ff_filter.specs.Views.{IsNew}
use Rattle.ff_concat.specs.Tails.{tail_of}
use Rattle.ff_concat.specs.Concats.{ticks_by, ticks_of, Output, concatenated}
use Rattle.ff_concat.specs.ConcatOptions.{whole_at, start_view}
use Rattle.ff_concat.specs.laws.ConcatLaws.{in_order-keeps, in_order-calm}
use Rattle.ff_concat.specs.laws.TrackLaws.{tail_keeps, tail_calm}

by-length : (s : ℕ) (bs : List Fraction) → length (ticks_by s bs) ≡ length bs
by-length s [] = refl
by-length s (b ∷ bs) = ap (λ (n : ℕ). suc n) (by-length (s * b.den) bs)

pub ticks-length : (heads : List StreamHead) → length (ticks_of heads) ≡ length heads
ticks-length heads = by-length 1 (map base_of_head heads) ∙ length-map heads base_of_head

whole_at-is : (all : List StreamHead) (n q : ℕ) (hs : List StreamHead) (i : ℕ) (d : StreamHead) (ss : Ports) → i < length hs
    → whole_at all n q hs i ss ≡ within (passes_limits (Frames (slice_index_or hs i d))) (concatenated all (slice_index_or hs i d) q n ss)
whole_at-is all n q [] i d ss lt = absurd (omega (arith, lt))
whole_at-is all n q (h ∷ hs) zero d ss lt = refl
whole_at-is all n q (h ∷ hs) (suc i) d ss lt = whole_at-is all n q hs i d ss (omega (arith, lt))

-- an output is its segments one after another within the limits of its head
pub whole_is : (heads : List StreamHead) (n q : ℕ) (d : StreamHead) (ss : Ports) → q < length heads
    → (start_view (heads, n)).rest ss q ≡ within (passes_limits (Frames (slice_index_or heads q d))) (concatenated heads (slice_index_or heads q d) q n ss)
whole_is heads n q d ss lt = whole_at-is heads n q heads q d ss lt

-- the segments on output i, which is output q of all, without limits
abbrev pub uncut_at : List StreamHead → ℕ → ℕ → List StreamHead → ℕ → Ports → Flow
uncut_at all n q [] i ss = nothing
uncut_at all n q (h ∷ hs) zero ss = concatenated all h q n ss
uncut_at all n q (h ∷ hs) (suc i) ss = uncut_at all n q hs i ss

-- what n segments would give without limits
abbrev pub start_free : List StreamHead × ℕ → Ports → Ports
start_free m ss q = uncut_at m.0 m.1 q m.0 q ss

uncut_at-is : (all : List StreamHead) (n q : ℕ) (hs : List StreamHead) (i : ℕ) (d : StreamHead) (ss : Ports) → i < length hs
    → uncut_at all n q hs i ss ≡ concatenated all (slice_index_or hs i d) q n ss
uncut_at-is all n q [] i d ss lt = absurd (omega (arith, lt))
uncut_at-is all n q (h ∷ hs) zero d ss lt = refl
uncut_at-is all n q (h ∷ hs) (suc i) d ss lt = uncut_at-is all n q hs i d ss (omega (arith, lt))

-- that is its segments one after another
pub free_is : (heads : List StreamHead) (n q : ℕ) (d : StreamHead) (ss : Ports) → q < length heads
    → start_free (heads, n) ss q ≡ concatenated heads (slice_index_or heads q d) q n ss
free_is heads n q d ss lt = uncut_at-is heads n q heads q d ss lt

-- an output is that within the limits of its head
pub whole_free : (heads : List StreamHead) (n q : ℕ) (d : StreamHead) (ss : Ports) → q < length heads
    → (start_view (heads, n)).rest ss q ≡ within (passes_limits (Frames (slice_index_or heads q d))) (start_free (heads, n) ss q)
whole_free heads n q d ss lt =
    let h = slice_index_or heads q d in
    whole_is heads n q d ss lt ∙ sym (ap (λ (s : Flow). within (passes_limits (Frames h)) s) (free_is heads n q d ss lt))

abbrev output_at : List StreamHead → StreamHead → ℕ → Output
output_at all head q = record { head = head; tick = slice_index (ticks_of all) q; number = q }

there : (all : List StreamHead) (q : ℕ) → q < length all → q < length (ticks_of all)
there all q lt = let e = ticks-length all in omega (arith, e, lt)

whole_at-keeps : (all : List StreamHead) (n q : ℕ) (hs : List StreamHead) (i : ℕ) → (i < length hs → q < length all) → (rs ss : Ports) → EachBelow rs ss
    → LiesBelow (whole_at all n q hs i rs) (whole_at all n q hs i ss)
whole_at-keeps all n q [] i less rs ss h = below_self nothing
whole_at-keeps all n q (x ∷ hs) zero less rs ss h =
    within_monotone (passes_limits (Frames x)) (concatenated all x q n rs) (concatenated all x q n ss)
    (in_order-keeps (ticks_of all) (output_at all x q) (there all q (less (omega arith))) n 0 0 0 (λ k. rs (k * length all + q)) (λ k. ss (k * length all + q))
    (λ p. tail_of (rs p)) (λ p. tail_of (ss p)) (λ k. h (k * length all + q)) (λ p. tail_keeps 0 More (rs p) (ss p) (h p)))
whole_at-keeps all n q (x ∷ hs) (suc i) less rs ss h = whole_at-keeps all n q hs i (λ lt. less (omega (arith, lt))) rs ss h

whole_at-calm : (all : List StreamHead) (n q : ℕ) (hs : List StreamHead) (i : ℕ) → (i < length hs → q < length all) → (rs : Ports)
    → LiesBelow (opened (whole_at all n q hs i rs)) (whole_at all n q hs i (all_opened rs))
whole_at-calm all n q [] i less rs = below_self nothing
whole_at-calm all n q (x ∷ hs) zero less rs =
    let passes = passes_limits (Frames x) in
    let r = concatenated all x q n rs in
    let s = concatenated all x q n (all_opened rs) in
    below_trans (opened (within passes r)) (within passes (opened r)) (within passes s) (within_calm passes r)
    (within_monotone passes (opened r) s
    (in_order-calm (ticks_of all) (output_at all x q) (there all q (less (omega arith))) n 0 0 0 (λ k. rs (k * length all + q))
    (λ k. opened (rs (k * length all + q))) (λ p. tail_of (rs p)) (λ p. tail_of (opened (rs p))) (λ k. below_self (opened (rs (k * length all + q))))
    (λ p. tail_calm 0 More (rs p))))
whole_at-calm all n q (x ∷ hs) (suc i) less rs = whole_at-calm all n q hs i (λ lt. less (omega (arith, lt))) rs

-- streams further on give streams further on
pub start-grows : (m : List StreamHead × ℕ) → Grows (start_view m).rest
start-grows m rs ss h q = whole_at-keeps m.0 m.1 q m.0 q (λ lt. lt) rs ss h

-- whoever isn't told of the breaks gets no less
pub start-hides : (m : List StreamHead × ℕ) → HidesBreaks (start_view m).rest
start-hides m rs q = whole_at-calm m.0 m.1 q m.0 q (λ lt. lt) rs

-- nothing was fed, given or stopped
pub start-new : (m : List StreamHead × ℕ) → IsNew (start_view m)
start-new m = record { shut = λ p. refl; ended = λ q. refl; stopped = λ q. refl }
