-- Streams of sound side by side, a frame at a time.
use Rattle.std.proofs.Common.{◌≡◌, ◌≢◌, ℕ, zero, suc, ℤ, ◌+◌, ◌-◌, ◌*◌, ◌/◌, ◌<◌, ◌≤◌, ◌⊎◌, inl, inr, Bool, ◌||◌, List, []}
use Rattle.std.proofs.Common.{◌∷◌, ◌++◌, length, take, drop, refl, ap, sym, ◌∙◌, arith, append-nil}
use Rattle.std.specs.Prelude.{◌&&◌, nat_le, nat_lt}
use Rattle.std.proofs.lemmas.Bool.{cases_lt, le-leb, lt-leb, lt-ltb, le-ltb}
use Rattle.std.proofs.lemmas.List.{take-append-le, drop-append-le, length-drop, drop-drop, length-append}
use Rattle.std.proofs.Math.Nat.{add-div_right}
use Rattle.ff_stream.specs.declared.item.Item.{Item}
use Rattle.ff_stream.specs.Ports.{nothing}
use Rattle.ff_stream.specs.Stream.{Mark, still_open, whole, broken, Stream, is_whole, is_broken}
use Rattle.ff_filter.specs.declared.after.After.{After}
use Rattle.ff_filter.specs.declared.after.After.TheVariants.{More, Whole, Broke}
use Rattle.ff_filter.specs.Joins.{Flow, Ports, silence}
use Rattle.ff_joins.specs.Tests.{all_to, any_to}
use Rattle.ff_joins.specs.Joined.{Row, row_stream, side_by_side, rows_to, rows_in, ends_at, lost_at, mark_by, join_mark, frames_in, frame_at}
use Rattle.ff_joins.specs.Joined.{frames_to, joined_rows, flattened}
use Rattle.ff_joins.specs.laws.JoinedLaws.{rows_many}
use Rattle.ff_joins.specs.laws.JoinBreaks.{lasts}
use Rattle.ff_joins.specs.laws.Lots.{Lot, rows_kept, row_then, all_come, skipped, cell, row_to, cells_to}
use Rattle.ff_joins.proofs.Framing.{rows_skipped, rows_long, row_at}

-- rows side by side -----------------------------------------------------------------------------------------------------

side_nil : (xs : List Row) → side_by_side xs [] ≡ []
side_nil [] = refl
side_nil (x ∷ xs) = refl

side_drop : (k : ℕ) (xs ys : List Row) → side_by_side (drop k xs) (drop k ys) ≡ drop k (side_by_side xs ys)
side_drop zero xs ys = refl
side_drop (suc k) [] ys = refl
side_drop (suc k) (x ∷ xs) [] = side_nil (drop k xs)
side_drop (suc k) (x ∷ xs) (y ∷ ys) = side_drop k xs ys

side_take : (k : ℕ) (xs ys : List Row) → side_by_side (take k xs) (take k ys) ≡ take k (side_by_side xs ys)
side_take zero xs ys = refl
side_take (suc k) [] ys = refl
side_take (suc k) (x ∷ xs) [] = refl
side_take (suc k) (x ∷ xs) (y ∷ ys) = ap (λ (rs : List Row). (x ++ y) ∷ rs) (side_take k xs ys)

abbrev pub dropped_rows : ℕ → (ℕ → Stream Row) → ℕ → Stream Row
dropped_rows k ss p = record { items = drop k (ss p).items; mark = (ss p).mark }

abbrev pub taken_rows : ℕ → (ℕ → Stream Row) → ℕ → Stream Row
taken_rows k ss p = record { items = take k (ss p).items; mark = (ss p).mark }

pub rows_drop : (n k : ℕ) (ss : ℕ → Stream Row) → rows_to n (dropped_rows k ss) ≡ drop k (rows_to n ss)
rows_drop zero k ss = refl
rows_drop (suc n) k ss = ap (λ (rs : List Row). side_by_side rs (drop k (ss (suc n)).items)) (rows_drop n k ss) ∙ side_drop k (rows_to n ss) (ss (suc n)).items

rows_take : (n k : ℕ) (ss : ℕ → Stream Row) → rows_to n (taken_rows k ss) ≡ take k (rows_to n ss)
rows_take zero k ss = refl
rows_take (suc n) k ss = ap (λ (rs : List Row). side_by_side rs (take k (ss (suc n)).items)) (rows_take n k ss) ∙ side_take k (rows_to n ss) (ss (suc n)).items

pub rows_same : (n : ℕ) (ss ts : ℕ → Stream Row) → ((p : ℕ) → p < suc n → (ss p).items ≡ (ts p).items) → rows_to n ss ≡ rows_to n ts
rows_same zero ss ts h = h 0 (omega arith)
rows_same (suc n) ss ts h =
    ap (λ (rs : List Row). side_by_side rs (ss (suc n)).items) (rows_same n ss ts (λ p lt. h p (omega (arith, lt))))
    ∙ ap (λ (rs : List Row). side_by_side (rows_to n ts) rs) (h (suc n) (omega arith))

-- marks -------------------------------------------------------------------------------------------------------------------

all_same : (n : ℕ) (f g : ℕ → Bool) → ((p : ℕ) → p < n → f p ≡ g p) → all_to n f ≡ all_to n g
all_same zero f g h = refl
all_same (suc n) f g h = ap (λ (b : Bool). b && f n) (all_same n f g (λ p lt. h p (omega (arith, lt)))) ∙ ap (λ (b : Bool). all_to n g && b) (h n (omega arith))

any_same : (n : ℕ) (f g : ℕ → Bool) → ((p : ℕ) → p < n → f p ≡ g p) → any_to n f ≡ any_to n g
any_same zero f g h = refl
any_same (suc n) f g h = ap (λ (b : Bool). b || f n) (any_same n f g (λ p lt. h p (omega (arith, lt)))) ∙ ap (λ (b : Bool). any_to n g || b) (h n (omega arith))

-- the inputs stand alike: each closed as the other, and by as many rows as each other
record StandAlike (n : ℕ) (ss ts : ℕ → Stream Row) : Type 0 where
  mark : (p : ℕ) → p < suc n → (ss p).mark ≡ (ts p).mark
  le : (p q : ℕ) → p < suc n → q < suc n → nat_le (rows_in ss p) (rows_in ss q) ≡ nat_le (rows_in ts p) (rows_in ts q)
  lt : (p q : ℕ) → p < suc n → q < suc n → nat_lt (rows_in ss p) (rows_in ss q) ≡ nat_lt (rows_in ts p) (rows_in ts q)

mark_alike : (n : ℕ) (ss ts : ℕ → Stream Row) → StandAlike n ss ts → join_mark n ss ≡ join_mark n ts
mark_alike n ss ts a =
    ap (λ (b : Bool). mark_by b (any_to (suc n) (lost_at n ss))) (any_same (suc n) (ends_at n ss) (ends_at n ts) ends)
    ∙ ap (λ (b : Bool). mark_by (any_to (suc n) (ends_at n ts)) b) (any_same (suc n) (lost_at n ss) (lost_at n ts) lost)
  where
    ends : (p : ℕ) → p < suc n → ends_at n ss p ≡ ends_at n ts p
    ends p l =
        ap (λ (m : Mark). is_whole m && all_to (suc n) (λ q. nat_le (rows_in ss p) (rows_in ss q))) (a.mark p l)
        ∙ ap (λ (b : Bool). is_whole (ts p).mark && b) (all_same (suc n) (λ q. nat_le (rows_in ss p) (rows_in ss q)) (λ q. nat_le (rows_in ts p) (rows_in ts q))
        (λ q k. a.le p q l k))

    lasts_same : (p q : ℕ) → p < suc n → q < suc n → lasts ss p q ≡ lasts ts p q
    lasts_same p q l k =
        ap (λ (b : Bool). b || (is_broken (ss q).mark && nat_le (rows_in ss p) (rows_in ss q))) (a.lt p q l k)
        ∙ (ap (λ (m : Mark). nat_lt (rows_in ts p) (rows_in ts q) || (is_broken m && nat_le (rows_in ss p) (rows_in ss q))) (a.mark q k)
        ∙ ap (λ (b : Bool). nat_lt (rows_in ts p) (rows_in ts q) || (is_broken (ts q).mark && b)) (a.le p q l k))

    lost : (p : ℕ) → p < suc n → lost_at n ss p ≡ lost_at n ts p
    lost p l =
        ap (λ (m : Mark). is_broken m && all_to (suc n) (lasts ss p)) (a.mark p l)
        ∙ ap (λ (b : Bool). is_broken (ts p).mark && b) (all_same (suc n) (lasts ss p) (lasts ts p) (λ q k. lasts_same p q l k))

le_less : (k a b : ℕ) → k ≤ a → k ≤ b → nat_le (a - k) (b - k) ≡ nat_le a b
le_less k a b p q = elim (cases_lt b a) as (λ _. nat_le (a - k) (b - k) ≡ nat_le a b) [
  | inl l ↦ lt-leb (a - k) (b - k) (omega (arith, l, p, q)) ∙ sym (lt-leb a b l)
  | inr le ↦ le-leb (a - k) (b - k) (omega (arith, le, p, q)) ∙ sym (le-leb a b le)
]

lt_less : (k a b : ℕ) → k ≤ a → k ≤ b → nat_lt (a - k) (b - k) ≡ nat_lt a b
lt_less k a b p q = elim (cases_lt a b) as (λ _. nat_lt (a - k) (b - k) ≡ nat_lt a b) [
  | inl l ↦ lt-ltb (a - k) (b - k) (omega (arith, l, p, q)) ∙ sym (lt-ltb a b l)
  | inr le ↦ le-ltb (a - k) (b - k) (omega (arith, le, p, q)) ∙ sym (le-ltb a b le)
]

mark_drop : (n k : ℕ) (ss : ℕ → Stream Row) → ((p : ℕ) → p < suc n → k ≤ rows_in ss p) → join_mark n (dropped_rows k ss) ≡ join_mark n ss
mark_drop n k ss many = mark_alike n (dropped_rows k ss) ss (record {
  mark = λ p l. refl;
  le = λ p q l m.
      ap (λ (a : ℕ). nat_le a (length (drop k (ss q).items))) (length-drop k (ss p).items)
      ∙ (ap (λ (b : ℕ). nat_le (rows_in ss p - k) b) (length-drop k (ss q).items) ∙ le_less k (rows_in ss p) (rows_in ss q) (many p l) (many q m));
  lt = λ p q l m.
      ap (λ (a : ℕ). nat_lt a (length (drop k (ss q).items))) (length-drop k (ss p).items)
      ∙ (ap (λ (b : ℕ). nat_lt (rows_in ss p - k) b) (length-drop k (ss q).items) ∙ lt_less k (rows_in ss p) (rows_in ss q) (many p l) (many q m));
})

mark_same : (n : ℕ) (ss ts : ℕ → Stream Row) → ((p : ℕ) → p < suc n → ss p ≡ ts p) → join_mark n ss ≡ join_mark n ts
mark_same n ss ts h = mark_alike n ss ts (record {
  mark = λ p l. ap (λ (s : Stream Row). s.mark) (h p l);
  le = λ p q l m. ap (λ (s : Stream Row). nat_le (length s.items) (rows_in ss q)) (h p l) ∙ ap (λ (s : Stream Row). nat_le (rows_in ts p) (length s.items)) (h q m);
  lt = λ p q l m. ap (λ (s : Stream Row). nat_lt (length s.items) (rows_in ss q)) (h p l) ∙ ap (λ (s : Stream Row). nat_lt (rows_in ts p) (length s.items)) (h q m);
})

abbrev framed : (ℕ → List Row → Item) → List Row → Mark → Flow
framed make rows m = record { items = frames_to make rows (frames_in m (length rows)); mark = m }

pub joined_same : (n : ℕ) (make : ℕ → List Row → Item) (ss ts : ℕ → Stream Row) → ((p : ℕ) → p < suc n → ss p ≡ ts p) → joined_rows n make ss ≡ joined_rows n make ts
joined_same n make ss ts h =
    ap (λ (rows : List Row). framed make rows (join_mark n ss)) (rows_same n ss ts (λ p l. ap (λ (s : Stream Row). s.items) (h p l)))
    ∙ ap (λ (m : Mark). framed make (rows_to n ts) m) (mark_same n ss ts h)

-- frames ------------------------------------------------------------------------------------------------------------------

frames_shift : (make : ℕ → List Row → Item) (rows : List Row) (k : ℕ) → frames_to make rows (suc k) ≡ make 0 (take 1024 rows) ∷ frames_to (λ i. make (suc i))
    (drop 1024 rows) k
frames_shift make rows zero = refl
frames_shift make rows (suc k) =
    let e : 1024 * suc k ≡ 1024 + 1024 * k = omega arith in
    let here : frame_at make rows (suc k) ≡ frame_at (λ i. make (suc i)) (drop 1024 rows) k =
    ap (λ (j : ℕ). make (suc k) (take 1024 (drop j rows))) e ∙ ap (λ (zs : List Row). make (suc k) (take 1024 zs)) (sym (drop-drop (1024 * k) 1024 rows)) in
    ap (λ (ys : List Item). ys ++ frame_at make rows (suc k) ∷ []) (frames_shift make rows k)
    ∙ ap (λ (y : Item). make 0 (take 1024 rows) ∷ (frames_to (λ i. make (suc i)) (drop 1024 rows) k ++ y ∷ [])) here

div_more : (k : ℕ) → (k + 1024) / 1024 ≡ suc (k / 1024)
div_more k = let h : (k + 1024) / 1024 ≡ k / 1024 + 1 = add-div_right k (omega arith) in let e : k / 1024 + 1 ≡ suc (k / 1024) = omega arith in h ∙ e

more_frames : (m : Mark) (k : ℕ) → frames_in m (k + 1024) ≡ suc (frames_in m k)
more_frames still_open k = div_more k
more_frames broken k = div_more k
more_frames whole k = let a : k + 1024 + 1023 ≡ k + 1023 + 1024 = omega arith in ap (λ (j : ℕ). j / 1024) a ∙ div_more (k + 1023)

-- a frame of 1,024 rows comes first, where all have so many
pub whole_first : (n : ℕ) (make : ℕ → List Row → Item) (ss : ℕ → Stream Row) → ((p : ℕ) → p < suc n → 1024 ≤ rows_in ss p)
    → joined_rows n make ss ≡ (let r : Flow = record {
      items = make 0 (take 1024 (rows_to n ss)) ∷ (joined_rows n (λ i. make (suc i))
          (dropped_rows 1024 ss)).items;
      mark = join_mark n (dropped_rows 1024 ss);
    } in r)
whole_first n make ss many =
    let rows = rows_to n ss in
    let m = join_mark n ss in
    let enough : 1024 ≤ length rows = rows_many n ss 1024 many in
    let l = length-drop 1024 rows in
    let long : length rows ≡ length (drop 1024 rows) + 1024 = omega (arith, l, enough) in
    let counted : frames_in m (length rows) ≡ suc (frames_in m (length (drop 1024 rows))) = ap (λ (k : ℕ). frames_in m k) long ∙ more_frames m (length
    (drop 1024 rows)) in
    let made : List Item → Mark → Flow = λ xs k. record { items = xs; mark = k } in
    ap (λ (k : ℕ). made (frames_to make rows k) m) counted
    ∙ (ap (λ (xs : List Item). made xs m) (frames_shift make rows (frames_in m (length (drop 1024 rows))))
    ∙ (ap (λ (rs : List Row). made (make 0 (take 1024 rows) ∷ frames_to (λ i. make (suc i)) rs (frames_in m (length rs))) m) (sym (rows_drop n 1024 ss))
    ∙ ap (λ (k : Mark). made (make 0 (take 1024 rows) ∷ frames_to (λ i. make (suc i)) (rows_to n (dropped_rows 1024 ss)) (frames_in k (length (rows_to n
    (dropped_rows 1024 ss))))) k)
    (sym (mark_drop n 1024 ss many))))

-- fewer than 1,024 rows make no frame, but the last
pub few_open : (m : Mark) (make : ℕ → List Row → Item) (rows : List Row) → m ≢ whole → length rows < 1024 → frames_to make rows (frames_in m (length rows)) ≡ []
few_open still_open make rows n lt = ap (λ (k : ℕ). frames_to make rows k) (small (length rows) lt)
  where
    small : (k : ℕ) → k < 1024 → k / 1024 ≡ 0
    small k l = omega (arith, l)
few_open whole make rows n lt = absurd (n refl)
few_open broken make rows n lt = ap (λ (k : ℕ). frames_to make rows k) (small (length rows) lt)
  where
    small : (k : ℕ) → k < 1024 → k / 1024 ≡ 0
    small k l = omega (arith, l)

pub last_one : (make : ℕ → List Row → Item) (rows : List Row) → 0 < length rows → length rows < 1024 → frames_to make rows (frames_in whole (length rows)) ≡ make 0
    (take 1024 rows) ∷ []
last_one make rows some lt = ap (λ (k : ℕ). frames_to make rows k) (at (length rows) some lt)
  where
    at : (k : ℕ) → 0 < k → k < 1024 → (k + 1023) / 1024 ≡ 1
    at k s l = omega (arith, s, l)

pub none_left : (make : ℕ → List Row → Item) (rows : List Row) → length rows ≡ 0 → frames_to make rows (frames_in whole (length rows)) ≡ []
none_left make rows z = ap (λ (k : ℕ). frames_to make rows ((k + 1023) / 1024)) z

pub take_all : (rows : List Row) (k : ℕ) → length rows ≤ k → take k rows ≡ rows
take_all [] zero le = refl
take_all [] (suc k) le = refl
take_all (r ∷ rs) zero le = absurd (omega (arith, le))
take_all (r ∷ rs) (suc k) le = ap (λ (xs : List Row). r ∷ xs) (take_all rs k (omega (arith, le)))

-- of what waits ------------------------------------------------------------------------------------------------------------

module _ (ls : ℕ → Lot) where
  then_items : (rows : List Row) (a : After) (s : Stream Row) (k : ℕ) → k ≤ length rows → take k (row_then rows a s).items ≡ take k rows
  then_items rows More s k le = take-append-le k rows s.items le
  then_items rows Whole s k le = refl
  then_items rows Broke s k le = refl

  then_drop : (rows : List Row) (a : After) (s : Stream Row) (k : ℕ) → k ≤ length rows
      → row_then (drop k rows) a s ≡ (let r : Stream Row = record { items = drop k (row_then rows a s).items; mark = (row_then rows a s).mark } in r)
  then_drop rows More s k le = ap (λ (rs : List Row). let r : Stream Row = record { items = rs; mark = s.mark } in r) (sym (drop-append-le k rows s.items le))
  then_drop rows Whole s k le = refl
  then_drop rows Broke s k le = refl

  pub come_skipped : (k : ℕ) (ext : Ports) (p : ℕ) → k ≤ (ls p).count → all_come (λ q. skipped k (ls q)) ext p ≡ dropped_rows k (all_come ls ext) p
  come_skipped k ext p le =
      let s = row_stream (ls p).channels (ext p) in
      ap (λ (rs : List Row). row_then rs (ls p).after s) (rows_skipped k (ls p))
      ∙ then_drop (rows_kept (ls p)) (ls p).after s k (let l = rows_long (ls p) in omega (arith, l, le))

  -- as many rows come as wait, at least
  pub come_many : (ext : Ports) (p : ℕ) → (ls p).count ≤ rows_in (all_come ls ext) p
  come_many ext p = at (ls p).after
    where
      at : (a : After) → (ls p).count ≤ length (row_then (rows_kept (ls p)) a (row_stream (ls p).channels (ext p))).items
      at More = let a = length-append (rows_kept (ls p)) (row_stream (ls p).channels (ext p)).items in let l = rows_long (ls p) in omega (arith, a, l)
      at Whole = let l = rows_long (ls p) in omega (arith, l)
      at Broke = let l = rows_long (ls p) in omega (arith, l)

  -- and as many where it has closed
  pub come_closed : (ext : Ports) (p : ℕ) → ((ls p).after ≡ Whole) ⊎ ((ls p).after ≡ Broke) → rows_in (all_come ls ext) p ≡ (ls p).count
  come_closed ext p (inl e) = ap (λ (a : After). length (row_then (rows_kept (ls p)) a (row_stream (ls p).channels (ext p))).items) e ∙ rows_long (ls p)
  come_closed ext p (inr e) = ap (λ (a : After). length (row_then (rows_kept (ls p)) a (row_stream (ls p).channels (ext p))).items) e ∙ rows_long (ls p)

  -- and where nothing comes
  pub come_silent : (p : ℕ) → rows_in (all_come ls silence) p ≡ (ls p).count
  come_silent p = at (ls p).after
    where
      at : (a : After) → length (row_then (rows_kept (ls p)) a (row_stream (ls p).channels nothing)).items ≡ (ls p).count
      at More = ap (λ (rs : List Row). length rs) (append-nil (rows_kept (ls p))) ∙ rows_long (ls p)
      at Whole = rows_long (ls p)
      at Broke = rows_long (ls p)

  abbrev kept : ℕ → Stream Row
  kept p = record { items = rows_kept (ls p); mark = still_open }

  -- the first rows are those that wait
  pub first_kept : (n k : ℕ) (ext : Ports) → ((p : ℕ) → p < suc n → k ≤ (ls p).count) → take k (rows_to n (all_come ls ext)) ≡ take k (rows_to n kept)
  first_kept n k ext many =
      sym (rows_take n k (all_come ls ext))
      ∙ (rows_same n (taken_rows k (all_come ls ext)) (taken_rows k kept) (λ p lt. then_items (rows_kept (ls p)) (ls p).after (row_stream (ls p).channels (ext p)) k
      (let l = rows_long (ls p) in let m = many p lt in omega (arith, l, m)))
      ∙ rows_take n k kept)

  -- one row of each
  one_row : (n r : ℕ) (ss : ℕ → Stream Row) → ((p : ℕ) → p < suc n → (ss p).items ≡ cell (ls p) r ∷ []) → rows_to n ss ≡ row_to ls (suc n) r ∷ []
  one_row zero r ss h = h 0 (omega arith)
  one_row (suc n) r ss h =
      ap (λ (rs : List Row). side_by_side rs (ss (suc n)).items) (one_row n r ss (λ p lt. h p (omega (arith, lt))))
      ∙ ap (λ (rs : List Row). side_by_side (row_to ls (suc n) r ∷ []) rs) (h (suc n) (omega arith))

  flat_append : (xs ys : List Row) → flattened (xs ++ ys) ≡ flattened xs ++ flattened ys
  flat_append [] ys = refl
  flat_append (x ∷ xs) ys = ap (λ (zs : List ℤ). x ++ zs) (flat_append xs ys) ∙ sym (again x (flattened xs) (flattened ys))
    where
      again : (a b c : List ℤ) → (a ++ b) ++ c ≡ a ++ (b ++ c)
      again [] b c = refl
      again (z ∷ a) b c = ap (λ (zs : List ℤ). z ∷ zs) (again a b c)

  take_one : (k : ℕ) (rs : List Row) → take (suc k) rs ≡ take k rs ++ take 1 (drop k rs)
  take_one zero rs = refl
  take_one (suc k) [] = refl
  take_one (suc k) (r ∷ rs) = ap (λ (xs : List Row). r ∷ xs) (take_one k rs)

  -- the samples of the first rows
  pub cells_are : (n k : ℕ) → ((p : ℕ) → p < suc n → k ≤ (ls p).count) → flattened (take k (rows_to n kept)) ≡ cells_to ls (suc n) k
  cells_are n zero many = refl
  cells_are n (suc k) many =
      let next : take 1 (drop k (rows_to n kept)) ≡ row_to ls (suc n) k ∷ [] =
      ap (λ (rs : List Row). take 1 rs) (sym (rows_drop n k kept))
      ∙ (sym (rows_take n 1 (dropped_rows k kept))
      ∙ one_row n k (taken_rows 1 (dropped_rows k kept)) (λ p lt. row_at (ls p) k (let m = many p lt in omega (arith, m)))) in
      ap flattened (take_one k (rows_to n kept))
      ∙ (flat_append (take k (rows_to n kept)) (take 1 (drop k (rows_to n kept)))
      ∙ (ap (λ (zs : List ℤ). zs ++ flattened (take 1 (drop k (rows_to n kept)))) (cells_are n k (λ p lt. let m = many p lt in omega (arith, m)))
      ∙ (ap (λ (rs : List Row). cells_to ls (suc n) k ++ flattened rs) next
      ∙ ap (λ (zs : List ℤ). cells_to ls (suc n) k ++ zs) (append-nil (row_to ls (suc n) k)))))
