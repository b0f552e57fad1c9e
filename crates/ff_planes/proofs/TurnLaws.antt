-- A plane whose rows change places two by two, from outside to inside.
use Rattle.std.proofs.Common.{◌≡◌, ◌≢◌, ℕ, ◌+◌, ◌-◌, ◌*◌, ◌/◌, ◌<◌, ◌≤◌, List, ◌++◌, take, drop, length, refl, sym, ap, ◌∙◌, subst, arith, inl, inr}
use borrow.Rule.Slice.PartMut.{put_mid}
use Rattle.std.proofs.lemmas.List.{length-append, append_assoc, take-append-drop, length-take-le, length-drop, drop-drop, take_at, drop_at, drop-append-le, take-append-le}
use Rattle.std.proofs.lemmas.Slice.{drop-put_mid, drop-append-drop}
use Rattle.std.proofs.lemmas.Nat.{row_fits}
use Rattle.std.proofs.lemmas.Bool.{cases_lt, cases_eq}
use Rattle.ff_planes.specs.Grid.{line, row_of, sample}
use Rattle.ff_planes.specs.Flips.{turned_over}
use Rattle.ff_planes.proofs.RowLaws.{lines-same, lines_of_plane, line_is_row}

pub record IsTurnedSoFar (columns rows done : ℕ) (old now : List ℕ) : Type 0 where
  pub few : done ≤ rows / 2
  pub upper : (r : ℕ) → r < done → line columns now r ≡ line columns old (rows - 1 - r)
  pub lower : (r : ℕ) → r < done → line columns now (rows - 1 - r) ≡ line columns old r
  pub middle : (r : ℕ) → done ≤ r → r + done < rows → line columns now r ≡ line columns old r

-- row number r, once all pairs have changed places
turned_line : (columns rows : ℕ) (old now : List ℕ) → IsTurnedSoFar columns rows (rows / 2) old now → (r : ℕ) → r < rows → line columns now r ≡ line columns old (rows - 1 - r)
turned_line columns rows old now t r lt =
    elim (cases_lt r (rows / 2)) [
      | inl above ↦ t.upper r above
      | inr h ↦ elim (cases_lt (rows - 1 - r) (rows / 2)) [
        | inl below ↦
            let back : rows - 1 - (rows - 1 - r) ≡ r = omega arith in
            ap (line columns now) (sym back) ∙ t.lower (rows - 1 - r) below
        | inr g ↦
            let same : r ≡ rows - 1 - r = omega arith in
            t.middle r h (omega arith) ∙ ap (line columns old) same
      ]
    ]

pub all_turned : (columns rows done : ℕ) (old now : List ℕ) → length old ≡ rows * columns → length now ≡ rows * columns → rows / 2 ≤ done → IsTurnedSoFar columns rows done old now →
    now ≡ turned_over columns rows old
all_turned columns rows done old now long also many so_far =
    let all : done ≡ rows / 2 = omega (arith, so_far.few) in
    let t : IsTurnedSoFar columns rows (rows / 2) old now = subst (λ n. IsTurnedSoFar columns rows n old now) all so_far in
    sym (lines_of_plane columns rows now also)
    ∙ lines-same rows (line columns now) (λ r. row_of columns (sample columns old (rows - 1 - r)))
    (λ r lt. turned_line columns rows old now t r lt ∙ line_is_row columns rows (rows - 1 - r) old long (omega arith))

pub none_turned : (columns rows : ℕ) (old : List ℕ) → IsTurnedSoFar columns rows 0 old old
none_turned columns rows old = record { few = omega arith; upper = λ r lt. absurd (omega arith); lower = λ r lt. absurd (omega arith); middle = λ r h lt. refl }

pub one_more_turned : (columns rows done : ℕ) (old now new : List ℕ) → done < rows / 2 → IsTurnedSoFar columns rows done old now →
    line columns new done ≡ line columns now (rows - 1 - done) → line columns new (rows - 1 - done) ≡ line columns now done →
    ((r : ℕ) → r < rows → r ≢ done → r ≢ rows - 1 - done → line columns new r ≡ line columns now r) →
    IsTurnedSoFar columns rows (done + 1) old new
one_more_turned columns rows done old now new lt t up low others = record {
  few = omega arith;
  upper = λ r less. elim (cases_eq r done) [
    | inl here ↦ ap (line columns new) here ∙ up ∙ t.middle (rows - 1 - done) (omega arith) (omega arith) ∙ ap (λ m. line columns old (rows - 1 - m)) (sym here)
    | inr away ↦ others r (omega arith) away (λ e. absurd (omega arith)) ∙ t.upper r (omega arith)
  ];
  lower = λ r less. elim (cases_eq r done) [
    | inl here ↦ ap (λ m. line columns new (rows - 1 - m)) here ∙ low ∙ t.middle done (omega arith) (omega arith) ∙ ap (line columns old) (sym here)
    | inr away ↦ others (rows - 1 - r) (omega arith) (λ e. absurd (omega arith)) (λ e. absurd (omega arith)) ∙ t.lower r (omega arith)
  ];
  middle = λ r h less. others r (omega arith) (λ e. absurd (omega arith)) (λ e. absurd (omega arith)) ∙ t.middle r (omega arith) (omega arith);
}

-- ---- what two rows that change places leave: `front` has the rows before the lower one, `back` the others

front_line : (c r : ℕ) (xs ys : List ℕ) → r * c + c ≤ length xs → line c (xs ++ ys) r ≡ line c xs r
front_line c r xs ys room =
    let within : r * c ≤ length xs = omega arith in
    ap (take c) (drop-append-le (r * c) xs ys within) ∙ take-append-le c (drop (r * c) xs) ys (omega (arith, length-drop (r * c) xs))

length-put : (a k : ℕ) (xs ys : List ℕ) → a + k ≤ length xs → length ys ≡ k → length (put_mid a k xs ys) ≡ length xs
length-put a k xs ys room wide =
    length-append (take a xs) (ys ++ drop k (drop a xs))
    ∙ omega (arith, length-append ys (drop k (drop a xs)), length-take-le a xs (omega arith), length-drop k (drop a xs), length-drop a xs)

pub swapped_upper : (c u l k : ℕ) (front back x y old : List ℕ) → u * c ≤ length front → length x ≡ c → x ≡ take c back → back ≡ drop (l * c) old →
    line c (put_mid (u * c) k front x ++ (y ++ drop c back)) u ≡ line c old l
swapped_upper c u l k front back x y old room wide e f =
    let rest : List ℕ = drop k (drop (u * c) front) in
    let tail : List ℕ = y ++ drop c back in
    ap (λ xs. take c (drop (u * c) xs)) (append_assoc (take (u * c) front) (x ++ rest) tail)
    ∙ ap (take c) (drop_at (take (u * c) front) ((x ++ rest) ++ tail) (u * c) (length-take-le (u * c) front room))
    ∙ ap (take c) (append_assoc x rest tail)
    ∙ take_at x (rest ++ tail) c wide
    ∙ e ∙ ap (take c) f

pub swapped_others : (c n u l k r : ℕ) (front back x y old : List ℕ) → k ≡ c → length old ≡ n * c → l < n → u < l → length front ≡ l * c → length x ≡ c → length y ≡ c → old ≡ front ++ back → back ≡ drop (l * c) old →
    r < n → r ≢ u → r ≢ l → line c (put_mid (u * c) k front x ++ (y ++ drop c back)) r ≡ line c old r
swapped_others c n u l k r front back x y old same size there order long wide also whole behind lt not_u not_l =
    let p : List ℕ = put_mid (u * c) k front x in
    let upper : u * c + c ≤ l * c = row_fits u c l c order (omega arith) in
    let kept : length p ≡ length front = length-put (u * c) k front x (omega arith) (omega arith) in
    elim (cases_lt r l) [
      | inl before ↦
          let room : r * c + c ≤ l * c = row_fits r c l c before (omega arith) in
          front_line c r p (y ++ drop c back) (omega arith)
          ∙ elim (cases_lt r u) [
            | inl above ↦
                let far : r * c + c ≤ u * c = row_fits r c u c above (omega arith) in
                let room_u : r * c + c ≤ length (take (u * c) front) = omega (arith, length-take-le (u * c) front (omega arith)) in
                front_line c r (take (u * c) front) (x ++ drop k (drop (u * c) front)) room_u
                ∙ sym (front_line c r (take (u * c) front) (drop (u * c) front) room_u)
                ∙ ap (λ xs. line c xs r) (take-append-drop (u * c) front)
            | inr below ↦
                let far : u * c + c ≤ r * c = row_fits u c r c (omega arith) (omega arith) in
                ap (take c) (drop-put_mid (u * c) k front x (r * c) (omega arith) (omega arith) (omega arith))
          ]
          ∙ sym (front_line c r front back (omega arith))
          ∙ ap (λ xs. line c xs r) (sym whole)
      | inr h ↦
          let after : l * c + c ≤ r * c = row_fits l c r c (omega arith) (omega arith) in
          let tail : drop c back ≡ drop (l * c + c) old = ap (drop c) behind ∙ drop-drop c (l * c) old in
          ap (λ xs. line c xs r) (sym (append_assoc p y (drop c back)) ∙ ap (λ zs. (p ++ y) ++ zs) tail)
          ∙ ap (take c) (drop-append-drop (l * c + c) old (p ++ y) (r * c) after (length-append p y ∙ omega arith))
    ]
