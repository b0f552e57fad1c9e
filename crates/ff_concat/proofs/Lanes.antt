-- The lanes of the inputs of segments are those of all heads.
use Rattle.std.proofs.Common.{◌≡◌, ℕ, zero, suc, ◌+◌, ◌*◌, ◌<◌, ◌≤◌, List, [], ◌∷◌, ◌++◌, map, length, get_or, take, drop, refl, sym, ap, subst, ◌∙◌, arith}
use Rattle.std.specs.List.{AllByRecursion}
use Rattle.std.proofs.lemmas.List.{length-drop, length-map, length-take-le, take-append-drop, map-append, get_or-take, get_or-drop, get_or-append-add, get_or_append_left}
use Rattle.std.proofs.lemmas.List.{drop_all, ext_get_or}
use Rattle.ff_frame.specs.declared.head.StreamHead.{StreamHead}
use Rattle.ff_stream.specs.declared.item.Lane.{Lane}
use Rattle.ff_stream.specs.declared.item.Lane.TheVariants.{Frames}
use Rattle.ff_stream.specs.Lanes.{IsValid}
use Rattle.ff_filter.specs.Joins.{Ports}
use Rattle.ff_concat.specs.ConcatOptions.{AreAlike, repeated, start_view}
use Rattle.ff_concat.specs.laws.Fed.{AreFed}
use Rattle.ff_concat.specs.laws.TrackLaws.{repeated-length, port_there}

empty : {X : Type 0} (xs : List X) → length xs ≡ 0 → xs ≡ []
empty [] e = refl
empty (x ∷ xs) e = absurd (omega (arith, e))

-- segments without the first are alike
alike_rest : (w : ℕ) (all : List StreamHead) → AreAlike w all → AreAlike w (drop w all)
alike_rest w all a i d lt =
    let long = length-drop w all in
    let at : w + (i + w) ≡ w + i + w = omega arith in
    get_or-drop w all (i + w) d ∙ (ap (λ (k : ℕ). get_or all k d) at ∙ (a (w + i) d (omega (arith, long, lt)) ∙ sym (get_or-drop w all i d)))

-- the first two segments have the same heads
first_same : (w : ℕ) (all : List StreamHead) → w + w ≤ length all → AreAlike w all → take w (drop w all) ≡ take w all
first_same w [] le a = ap (λ (hs : List StreamHead). take w hs) (drop_all w [] (omega arith))
first_same w (x ∷ xs) le a =
    let all = x ∷ xs in
    let rest = length-drop w all in
    let one = length-take-le w all (omega (arith, le)) in
    let two = length-take-le w (drop w all) (omega (arith, le, rest)) in
    ext_get_or x (take w (drop w all)) (take w all) (two ∙ sym one)
    (λ i lt.
    let less : i < w = omega (arith, lt, two) in
    let at : w + i ≡ i + w = omega arith in
    get_or-take w (drop w all) i x less
    ∙ (get_or-drop w all i x ∙ (ap (λ (k : ℕ). get_or all k x) at ∙ (a i x (omega (arith, le, less)) ∙ sym (get_or-take w all i x less)))))

-- a segment's heads and those behind it are all heads
in_two : (w : ℕ) (all : List StreamHead) (ls : List Lane) → ls ≡ map Frames (drop w all) → map Frames (take w all) ++ ls ≡ map Frames all
in_two w all ls e =
    ap (λ (ms : List Lane). map Frames (take w all) ++ ms) e
    ∙ (sym (map-append Frames (take w all) (drop w all)) ∙ ap (λ (hs : List StreamHead). map Frames hs) (take-append-drop w all))

-- the heads of one segment so many times are all heads
pub all_lanes : (n w : ℕ) (all : List StreamHead) → AreAlike w all → length all ≡ n * w → repeated n (map Frames (take w all)) ≡ map Frames all
all_lanes zero w all a long = sym (ap (λ (hs : List StreamHead). map Frames hs) (empty all (none (length all) long)))
  where
    none : (l : ℕ) → l ≡ 0 * w → l ≡ 0
    none l e = omega (arith, e)
all_lanes (suc zero) w all a long =
    let rest : length (drop w all) ≡ 0 = (let l = length-drop w all in omega (arith, l, long)) in
    in_two w all [] (ap (λ (hs : List StreamHead). map Frames hs) (sym (empty (drop w all) rest)))
all_lanes (suc (suc n)) w all a long =
    let le : w + w ≤ length all = (let m = more_than_one n w in omega (arith, m, long)) in
    let rest : length (drop w all) ≡ suc n * w = (let l = length-drop w all in omega (arith, l, long)) in
    in_two w all (repeated (suc n) (map Frames (take w all)))
    (ap (λ (hs : List StreamHead). repeated (suc n) (map Frames hs)) (sym (first_same w all le a)) ∙ all_lanes (suc n) w (drop w all) (alike_rest w all a) rest)
  where
    more_than_one : (m v : ℕ) → v + v ≤ suc (suc m) * v
    more_than_one m v = omega arith

-- the lane of stream q of segment k is that of stream q
pub repeated-at : (n : ℕ) (lanes : List Lane) (k q : ℕ) (d : Lane) → k < n → q < length lanes → get_or (repeated n lanes) (k * length lanes + q) d ≡ get_or lanes q d
repeated-at zero lanes k q d lt there = absurd (omega (arith, lt))
repeated-at (suc n) lanes zero q d lt there =
    let at : 0 * length lanes + q ≡ q = omega arith in
    ap (λ (i : ℕ). get_or (lanes ++ repeated n lanes) i d) at ∙ get_or_append_left lanes (repeated n lanes) d q there
repeated-at (suc n) lanes (suc k) q d lt there =
    let w = length lanes in
    let at : suc k * w + q ≡ w + (k * w + q) = omega arith in
    ap (λ (i : ℕ). get_or (lanes ++ repeated n lanes) i d) at
    ∙ (get_or-append-add lanes (repeated n lanes) (k * w + q) d ∙ repeated-at n lanes k q d (omega (arith, lt)) there)

lane_of : (hs : List StreamHead) (q : ℕ) (d : StreamHead) → q < length hs → get_or (map Frames hs) q (Frames d) ≡ Frames (get_or hs q d)
lane_of [] q d lt = absurd (omega (arith, lt))
lane_of (h ∷ hs) zero d lt = refl
lane_of (h ∷ hs) (suc q) d lt = lane_of hs q d (omega (arith, lt))

-- inputs that are valid for their lanes are fit
pub fed_by : (heads : List StreamHead) (n : ℕ) (ss : Ports)
    → ((p : ℕ) (d : Lane) → p < length (start_view (heads, n)).ins → IsValid (get_or (start_view (heads, n)).ins p d) (ss p)) → AreFed heads n ss
fed_by heads n ss v k q d lt there =
    let lanes : List Lane = map Frames heads in
    let w : length lanes ≡ length heads = length-map heads Frames in
    let long = repeated-length n lanes in
    let port : k * length lanes + q < n * length lanes = port_there (length lanes) k q n lt (omega (arith, w, there)) in
    subst (λ (v : ℕ). IsValid (Frames (get_or heads q d)) (ss (k * v + q))) w
    (subst (λ (l : Lane). IsValid l (ss (k * length lanes + q))) (repeated-at n lanes k q (Frames d) lt (omega (arith, w, there)) ∙ lane_of heads q d there)
    (v (k * length lanes + q) (Frames d) (omega (arith, port, long))))

-- what is so of all heads is so of those of the first segment
pub front_all : {X : Type 0} (P : X → Type 0) (n : ℕ) (xs : List X) → AllByRecursion P xs → AllByRecursion P (take n xs)
front_all P zero xs all = tt
front_all P (suc n) [] all = tt
front_all P (suc n) (x ∷ xs) all = (all.0, front_all P n xs all.1)
