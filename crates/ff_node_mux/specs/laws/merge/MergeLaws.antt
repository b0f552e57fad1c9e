-- What a merge has of each stream, and what its decided part goes by.
use Rattle.std.proofs.Common.{◌≡◌, ◌≢◌, ℕ, zero, suc, ◌<◌, ◌≤◌, inl, inr, Bool, true, false, cond, ◌==◌, List, [], ◌∷◌, refl, ap, sym, ◌∙◌, arith}
use Rattle.std.specs.Prelude.{◌||◌, ◌&&◌}
use Rattle.std.proofs.lemmas.Bool.{cases_eq, eq-eqb, ne_eqb, and_from, and_left, and_right, or_left, or_from}
use Rattle.ff_time.specs.Fraction.{Fraction}
use Rattle.ff_frame.specs.declared.packet.Pkt.{Pkt}
use Rattle.ff_stream.specs.Stream.{Stream, is_whole}
use Rattle.ff_node_mux.specs.merge.Merges.{Placed, is_sooner, is_some, placed, has, put_among, merged, merge_to, others_go_on, decided}

or_behind : (x a : Bool) → (x || a) ≡ ((x || a) || false)
or_behind true a = refl
or_behind false true = refl
or_behind false false = refl

or_move : (y x a b : Bool) → (y || ((x || a) || b)) ≡ ((x || a) || (y || b))
or_move true true a b = refl
or_move true false true b = refl
or_move true false false b = refl
or_move false true a b = refl
or_move false false true b = refl
or_move false false false b = refl

or_assoc : (x a b : Bool) → (x || (a || b)) ≡ ((x || a) || b)
or_assoc true a b = refl
or_assoc false a b = refl

has_by : (b : Bool) (q : ℕ) (xs ys : List Placed) (c : Bool) → has q xs ≡ c → has q ys ≡ c → has q (cond b xs ys) ≡ c
has_by true q xs ys c h k = h
has_by false q xs ys c h k = k

module _ (base : ℕ → Fraction) where
  has_put : (q : ℕ) (x : Placed) (rest : List Placed → List Placed) (a : Bool) (ys : List Placed) → ((zs : List Placed) → has q (rest zs) ≡ (a || has q zs))
      → has q (put_among base x rest ys) ≡ (((x.0 == q) || a) || has q ys)
  has_put q x rest a [] h = ap (λ (b : Bool). (x.0 == q) || b) (h []) ∙ or_assoc (x.0 == q) a false
  has_put q x rest a (y ∷ ys) h = has_by (is_sooner base y x) q (y ∷ put_among base x rest ys) (x ∷ rest (y ∷ ys)) (((x.0 == q) || a) || has q (y ∷ ys))
      (ap (λ (b : Bool). (y.0 == q) || b) (has_put q x rest a ys h) ∙ or_move (y.0 == q) (x.0 == q) a (has q ys))
      (ap (λ (b : Bool). (x.0 == q) || b) (h (y ∷ ys)) ∙ or_assoc (x.0 == q) a (has q (y ∷ ys)))

  pub has-merged : (q : ℕ) (xs ys : List Placed) → has q (merged base xs ys) ≡ (has q xs || has q ys)
  has-merged q [] ys = refl
  has-merged q (x ∷ xs) ys = has_put q x (merged base xs) (has q xs) ys (λ zs. has-merged q xs zs)

  has_placed : (q n : ℕ) (ps : List Pkt) (b : Bool) → (n == q) ≡ b → has q (placed n ps) ≡ (b && is_some ps)
  has_placed q n [] true e = refl
  has_placed q n [] false e = refl
  has_placed q n (p ∷ ps) true e = or_left (n == q) (has q (placed n ps)) e
  has_placed q n (p ∷ ps) false e = or_from (n == q) (has q (placed n ps)) e (has_placed q n ps false e)

  pub has-above : (n q : ℕ) (ss : ℕ → Stream Pkt) → n ≤ q → has q (merge_to base n ss) ≡ false
  has-above zero q ss le = refl
  has-above (suc n) q ss le = has-merged q (merge_to base n ss) (placed n (ss n).items)
      ∙ or_from (has q (merge_to base n ss)) (has q (placed n (ss n).items)) (has-above n q ss (omega (arith, le)))
      (has_placed q n (ss n).items false (ne_eqb n q (λ s. omega (arith, s, le))))

  -- a stream has a packet in the merge just where it has one
  pub has-below : (n q : ℕ) (ss : ℕ → Stream Pkt) → q < n → has q (merge_to base n ss) ≡ is_some (ss q).items
  has-below zero q ss lt = absurd (omega (arith, lt))
  has-below (suc n) q ss lt = has-merged q (merge_to base n ss) (placed n (ss n).items)
      ∙ (elim (cases_eq n q) as (λ _. (has q (merge_to base n ss) || has q (placed n (ss n).items)) ≡ is_some (ss q).items) [
        | inl same ↦ (ap (λ (b : Bool). b || has q (placed n (ss n).items)) (has-above n q ss (omega (arith, same)))
            ∙ (has_placed q n (ss n).items true (eq-eqb n q same) ∙ ap (λ p. is_some (ss p).items) same))
        | inr ne ↦ (ap (λ (b : Bool). has q (merge_to base n ss) || b) (has_placed q n (ss n).items false (ne_eqb n q ne))
            ∙ (or_false (has q (merge_to base n ss)) ∙ has-below n q ss (omega (arith, lt, ne))))
      ])
    where
      or_false : (b : Bool) → (b || false) ≡ b
      or_false true = refl
      or_false false = refl

-- the others go on where each does
pub go_on_from : (n : ℕ) (ss : ℕ → Stream Pkt) (p : ℕ) (xs : List Placed) → ((q : ℕ) → q < n → q ≢ p → (is_whole (ss q).mark || has q xs) ≡ true)
    → others_go_on n ss p xs ≡ true
go_on_from zero ss p xs h = refl
go_on_from (suc n) ss p xs h = and_from (others_go_on n ss p xs) ((n == p) || (is_whole (ss n).mark || has n xs))
    (go_on_from n ss p xs (λ q lt ne. h q (omega (arith, lt)) ne)) (elim (cases_eq n p) as (λ _. ((n == p) || (is_whole (ss n).mark || has n xs)) ≡ true) [
      | inl same ↦ or_left (n == p) (is_whole (ss n).mark || has n xs) (eq-eqb n p same)
      | inr ne ↦ (ap (λ (b : Bool). b || (is_whole (ss n).mark || has n xs)) (ne_eqb n p ne) ∙ h n (omega arith) ne)
    ])

-- and don't where one doesn't
pub go_on_not : (n : ℕ) (ss : ℕ → Stream Pkt) (p : ℕ) (xs : List Placed) (q : ℕ) → q < n → q ≢ p → (is_whole (ss q).mark || has q xs) ≡ false
    → others_go_on n ss p xs ≡ false
go_on_not zero ss p xs q lt ne e = absurd (omega (arith, lt))
go_on_not (suc n) ss p xs q lt ne e = elim (cases_eq q n) as (λ _. others_go_on (suc n) ss p xs ≡ false) [
  | inl same ↦ and_right (others_go_on n ss p xs) ((n == p) || (is_whole (ss n).mark || has n xs))
      (or_from (n == p) (is_whole (ss n).mark || has n xs) (ne_eqb n p (λ s. ne (same ∙ s))) (ap (λ r. is_whole (ss r).mark || has r xs) (sym same) ∙ e))
  | inr other ↦ and_left (others_go_on n ss p xs) ((n == p) || (is_whole (ss n).mark || has n xs)) (go_on_not n ss p xs q (omega (arith, lt, other)) ne e)
]

go_on_marks : (n : ℕ) (rs ss : ℕ → Stream Pkt) (p : ℕ) (xs : List Placed) → ((q : ℕ) → q < n → (rs q).mark ≡ (ss q).mark)
    → others_go_on n rs p xs ≡ others_go_on n ss p xs
go_on_marks zero rs ss p xs h = refl
go_on_marks (suc n) rs ss p xs h = rw (go_on_marks n rs ss p xs (λ q lt. h q (omega (arith, lt))), h n (omega arith)) refl

-- of the streams themselves the decided part goes by their marks alone
pub decided-marks : (n : ℕ) (rs ss : ℕ → Stream Pkt) (xs : List Placed) → ((q : ℕ) → q < n → (rs q).mark ≡ (ss q).mark) → decided n rs xs ≡ decided n ss xs
decided-marks n rs ss [] h = refl
decided-marks n rs ss (x ∷ xs) h = rw (go_on_marks n rs ss x.0 xs h, decided-marks n rs ss xs h) refl
