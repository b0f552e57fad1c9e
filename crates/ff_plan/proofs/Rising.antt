-- Numbers that rise, and the heads of streams by their places.
use Rattle.std.proofs.Common.{◌≡◌, ℕ, zero, suc, ◌+◌, ◌<◌, ◌≤◌, inl, inr, Bool, true, false, cond, List, [], ◌∷◌, Some, sym, ap, subst, arith}
use Rattle.std.specs.Prelude.{slice_get, unwrap_or}
use Rattle.std.specs.List.{filter, range_with_len}
use Rattle.ff_frame.specs.declared.head.StreamHead.{StreamHead}
use Rattle.ff_words.specs.maps.Choice.{numbered, streams_from, all_streams}
use Rattle.ff_words.specs.declared.maps.streams.Stream.{Stream}
use Rattle.ff_plan_layout.specs.Choice.{head_at}
use Rattle.ff_plan_layout.specs.Layout.{IsAmong}
use Rattle.ff_plan_layout.proofs.Among.{among_either}
use Rattle.ff_plan_layout.proofs.Kept.{nothing, same_some}

-- ---- numbers that rise

abbrev pub Rises : ℕ → List ℕ → Type 0
Rises n [] = Unit {0}
Rises n (x ∷ xs) = (n ≤ x) × Rises (suc x) xs

pub rises_lower : (m n : ℕ) (xs : List ℕ) → m ≤ n → Rises n xs → Rises m xs
rises_lower m n [] le r = tt
rises_lower m n (x ∷ xs) le r = ((let h = r.0 in omega (arith, le, h)), r.1)

pub rises_above : (n : ℕ) (xs : List ℕ) (i x : ℕ) → Rises n xs → slice_get xs i ≡ Some x → n ≤ x
rises_above n [] i x r at = absurd (nothing x at)
rises_above n (y ∷ ys) zero x r at = (let e = same_some y x at in let h = r.0 in omega (arith, e, h))
rises_above n (y ∷ ys) (suc i) x r at = (let h = r.0 in let g = rises_above (suc y) ys i x r.1 at in omega (arith, h, g))

pub rises_less : (n : ℕ) (xs : List ℕ) (i j x y : ℕ) → Rises n xs → i < j → slice_get xs i ≡ Some x → slice_get xs j ≡ Some y → x < y
rises_less n [] i j x y r lt at after = absurd (nothing x at)
rises_less n (z ∷ zs) zero zero x y r lt at after = absurd (omega (arith, lt))
rises_less n (z ∷ zs) (suc i) zero x y r lt at after = absurd (omega (arith, lt))
rises_less n (z ∷ zs) zero (suc j) x y r lt at after = (let e = same_some z x at in let g = rises_above (suc z) zs j y r.1 after in omega (arith, e, g))
rises_less n (z ∷ zs) (suc i) (suc j) x y r lt at after = rises_less (suc z) zs i j x y r.1 (omega (arith, lt)) at after

range_step : (p : ℕ → Bool) (a : ℕ) (xs : List ℕ) (b : Bool) → Rises (a + 1) xs → Rises a (cond b (a ∷ xs) xs)
range_step p a xs true r = (omega arith, rises_lower (suc a) (a + 1) xs (omega arith) r)
range_step p a xs false r = rises_lower a (a + 1) xs (omega arith) r

pub range_rises : (p : ℕ → Bool) (a n : ℕ) → Rises a (filter p (range_with_len a n))
range_rises p a zero = tt
range_rises p a (suc n) = range_step p a (filter p (range_with_len (a + 1) n)) (p a) (range_rises p (a + 1) n)

-- ---- numbers of a range

pub number_at : (a n i o : ℕ) → slice_get (range_with_len a n) i ≡ Some o → a + i ≡ o
number_at a zero i o at = absurd (nothing o at)
number_at a (suc n) zero o at = (let e = same_some a o at in omega (arith, e))
number_at a (suc n) (suc i) o at = (let e = number_at (a + 1) n i o at in omega (arith, e))

-- ---- the heads of streams

row_at : (n k : ℕ) (hs : List StreamHead) (s : Stream) → IsAmong s (numbered n k hs) → (t : ℕ) × (s.at.stream ≡ k + t) × (s.at.input ≡ n) × (slice_get hs t ≡ Some s.head)
row_at n k [] s i = absurd i
row_at n k (h ∷ hs) s (inl e) =
    (0, (let f = ap (λ (q : Stream). q.at.stream) e in omega (arith, f)), sym (ap (λ (q : Stream). q.at.input) e), ap (λ (q : Stream). Some q.head) e)
row_at n k (h ∷ hs) s (inr i) = (let r = row_at n (k + 1) hs s i in let e = r.1 in (suc r.0, omega (arith, e), r.2, r.3))

rows_at : (n : ℕ) (rows : List (List StreamHead)) (s : Stream) → IsAmong s (streams_from n rows)
    → (j : ℕ) × (s.at.input ≡ n + j) × (slice_get (unwrap_or (slice_get rows j) []) s.at.stream ≡ Some s.head)
rows_at n [] s i = absurd i
rows_at n (row ∷ rows) s i = elim (among_either s (numbered n 0 row) (streams_from (n + 1) rows) i) [
  | inl here ↦ (let r = row_at n 0 row s here in let e = r.1 in let f = r.2 in
      (0, omega (arith, f), subst (λ (t : ℕ). slice_get row t ≡ Some s.head) (let g : r.0 ≡ s.at.stream = omega (arith, e) in g) r.3))
  | inr behind ↦ (let r = rows_at (n + 1) rows s behind in let e = r.1 in (suc r.0, omega (arith, e), r.2))
]

pub head_is : (heads : List (List StreamHead)) (s : Stream) → IsAmong s (all_streams heads) → head_at heads s.at ≡ Some s.head
head_is heads s i =
    let r = rows_at 0 heads s i in
    subst (λ (j : ℕ). slice_get (unwrap_or (slice_get heads j) []) s.at.stream ≡ Some s.head) (let e = r.1 in let g : r.0 ≡ s.at.input = omega (arith, e) in g) r.2
