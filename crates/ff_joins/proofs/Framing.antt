-- Sample frames that wait on inputs.
use Rattle.std.proofs.Common.{◌≡◌, ◌≢◌, ℕ, zero, suc, ℤ, ◌+◌, ◌-◌, ◌*◌, ◌<◌, ◌≤◌, true, Option, Some, None, List, [], ◌∷◌, ◌++◌, length, take}
use Rattle.std.proofs.Common.{drop, map, get_or, set, refl, ap, sym, ◌∙◌, arith, append-nil}
use Rattle.std.proofs.lemmas.List.{take-append-drop, take-append-le, drop-append-le, length-drop, length-take-le, drop-drop}
use Rattle.std.proofs.Math.Nat.{mul-le-mul_right}
use Rattle.std.proofs.Math.Seq.{drop-nil}
use Rattle.ff_filter.specs.declared.after.After.TheVariants.{More}
use Rattle.ff_stream.specs.declared.item.Lane.{Lane}
use Rattle.ff_stream.specs.declared.item.Lane.TheVariants.{Frames}
use Rattle.ff_joins.specs.declared.sound_inlet.SoundInlet.{SoundInlet}
use Rattle.ff_joins.specs.Joined.{Row, split_rows}
use Rattle.ff_joins.specs.laws.Lots.{Lot, lots, lot_of, lane_of, rows_kept, skipped, cell, no_rows, has_started}

pub few_samples : (count channels most : ℕ) → count * channels ≤ most → count * channels ≤ most
few_samples count channels most le = le

-- rows -------------------------------------------------------------------------------------------------------------------

none_long : {A : Type 0} (xs : List A) → length xs ≡ 0 → xs ≡ []
none_long [] e = refl
none_long (x ∷ xs) e = absurd (omega (arith, e))

pub split_append : (c a b : ℕ) (xs ys : List ℤ) → length xs ≡ a * c → split_rows c (a + b) (xs ++ ys) ≡ split_rows c a xs ++ split_rows c b ys
split_append c zero b xs ys e =
    let n : zero + b ≡ b = omega arith in
    ap (λ (zs : List ℤ). split_rows c (zero + b) (zs ++ ys)) (none_long xs (let z : zero * c ≡ 0 = omega arith in e ∙ z)) ∙ ap (λ (k : ℕ). split_rows c k ys) n
split_append c (suc a) b xs ys e =
    let n : suc a + b ≡ suc (a + b) = omega arith in
    let m : suc a * c ≡ c + a * c = omega arith in
    let le : c ≤ length xs = omega (arith, e, m) in
    let l = length-drop c xs in
    let left : length (drop c xs) ≡ a * c = omega (arith, l, e, m) in
    ap (λ (k : ℕ). split_rows c k (xs ++ ys)) n
    ∙ (ap (λ (r : Row). r ∷ split_rows c (a + b) (drop c (xs ++ ys))) (take-append-le c xs ys le)
    ∙ (ap (λ (zs : List ℤ). take c xs ∷ split_rows c (a + b) zs) (drop-append-le c xs ys le)
    ∙ ap (λ (rs : List Row). take c xs ∷ rs) (split_append c a b (drop c xs) ys left)))

-- samples behind the rows don't matter
pub split_front : (c b : ℕ) (ys : List ℤ) → b * c ≤ length ys → split_rows c b (take (b * c) ys) ≡ split_rows c b ys
split_front c b ys le =
    let long : length (take (b * c) ys) ≡ b * c = length-take-le (b * c) ys le in
    let n : b + 0 ≡ b = omega arith in
    sym (append-nil (split_rows c b (take (b * c) ys)))
    ∙ (sym (split_append c b 0 (take (b * c) ys) (drop (b * c) ys) long)
    ∙ (ap (λ (k : ℕ). split_rows c k (take (b * c) ys ++ drop (b * c) ys)) n ∙ ap (λ (zs : List ℤ). split_rows c b zs) (take-append-drop (b * c) ys)))

-- the rows of more samples
pub split_more : (c a b : ℕ) (xs ys : List ℤ) → length xs ≡ a * c → b * c ≤ length ys → split_rows c (a + b) (xs ++ take (b * c) ys)
    ≡ split_rows c a xs ++ split_rows c b ys
split_more c a b xs ys e le = split_append c a b xs (take (b * c) ys) e ∙ ap (λ (rs : List Row). split_rows c a xs ++ rs) (split_front c b ys le)

pub split_long : (c n : ℕ) (xs : List ℤ) → length (split_rows c n xs) ≡ n
split_long c zero xs = refl
split_long c (suc n) xs = let h = split_long c n (drop c xs) in omega (arith, h)

pub split_drop : (c k n : ℕ) (xs : List ℤ) → drop k (split_rows c n xs) ≡ split_rows c (n - k) (drop (k * c) xs)
split_drop c zero n xs =
    let z : zero * c ≡ 0 = omega arith in
    let m : n - zero ≡ n = omega arith in
    sym (ap (λ (j : ℕ). split_rows c (n - zero) (drop j xs)) z ∙ ap (λ (j : ℕ). split_rows c j xs) m)
split_drop c (suc k) zero xs =
    let m : zero - suc k ≡ 0 = omega arith in
    sym (ap (λ (j : ℕ). split_rows c j (drop (suc k * c) xs)) m)
split_drop c (suc k) (suc n) xs =
    let m : suc n - suc k ≡ n - k = omega arith in
    let e : suc k * c ≡ c + k * c = omega arith in
    split_drop c k n (drop c xs)
    ∙ (ap (λ (ys : List ℤ). split_rows c (n - k) ys) (drop-drop (k * c) c xs)
    ∙ (ap (λ (j : ℕ). split_rows c (n - k) (drop j xs)) (sym e) ∙ ap (λ (j : ℕ). split_rows c j (drop (suc k * c) xs)) (sym m)))

pub rows_skipped : (k : ℕ) (l : Lot) → rows_kept (skipped k l) ≡ drop k (rows_kept l)
rows_skipped k l = sym (split_drop l.channels k l.count l.samples)

pub rows_long : (l : Lot) → length (rows_kept l) ≡ l.count
rows_long l = split_long l.channels l.count l.samples

-- the row at one place
pub row_at : (l : Lot) (r : ℕ) → r < l.count → take 1 (drop r (rows_kept l)) ≡ cell l r ∷ []
row_at l r lt = ap (λ (rs : List Row). take 1 rs) (split_drop l.channels r l.count l.samples) ∙ at (l.count - r) (omega (arith, lt))
  where
    at : (n : ℕ) → 0 < n → take 1 (split_rows l.channels n (drop (r * l.channels) l.samples)) ≡ cell l r ∷ []
    at zero z = absurd (omega (arith, z))
    at (suc n) z = refl

-- what was kept
pub skip_fits : (k count c size : ℕ) → k ≤ count → size ≡ count * c → k * c ≤ size
skip_fits k count c size le e = let h : k * c ≤ count * c = mul-le-mul_right c le in omega (arith, h, e)

pub skip_long : (k count c : ℕ) (xs : List ℤ) → k ≤ count → length xs ≡ count * c → length (drop (k * c) xs) ≡ (count - k) * c
skip_long k count c xs le e =
    let l = length-drop (k * c) xs in
    let h = gap count k le in
    let m : count * c ≡ (count - k) * c + k * c = ap (λ (j : ℕ). j * c) h ∙ spread (count - k) k c in
    omega (arith, l, e, m)
  where
    gap : (n k : ℕ) → k ≤ n → n ≡ (n - k) + k
    gap n k l = omega (arith, l)

    spread : (a b c : ℕ) → (a + b) * c ≡ a * c + b * c
    spread a b c = omega arith

pub keep_long : (a b c total : ℕ) (xs ys : List ℤ) → total ≡ a + b → length xs ≡ a * c → length ys ≡ b * c → length (xs ++ ys) ≡ total * c
keep_long a b c total xs ys t e f =
    let h : length (xs ++ ys) ≡ length xs + length ys = at xs in
    let m : total * c ≡ a * c + b * c = ap (λ (j : ℕ). j * c) t ∙ spread a b in
    omega (arith, h, e, f, m)
  where
    at : (zs : List ℤ) → length (zs ++ ys) ≡ length zs + length ys
    at [] = omega arith
    at (z ∷ zs) = let r = at zs in omega (arith, r)

    spread : (a b : ℕ) → (a + b) * c ≡ a * c + b * c
    spread a b = omega arith

-- inputs by their number ------------------------------------------------------------------------------------------------------

pub lots_there : (is : List SoundInlet) (p : ℕ) (i : SoundInlet) → p < length is → i ≡ get_or is p i → lots is p ≡ lot_of i
lots_there [] p i lt e = absurd (omega (arith, lt))
lots_there (j ∷ is) zero i lt e = ap lot_of (sym e)
lots_there (j ∷ is) (suc p) i lt e = lots_there is p i (omega (arith, lt)) e

pub lots_here : (is : List SoundInlet) (p : ℕ) (i : SoundInlet) → p < length is → lots (set is p i) p ≡ lot_of i
lots_here [] p i lt = absurd (omega (arith, lt))
lots_here (j ∷ is) zero i lt = refl
lots_here (j ∷ is) (suc p) i lt = lots_here is p i (omega (arith, lt))

pub lots_others : (is : List SoundInlet) (p q : ℕ) (i : SoundInlet) → q ≢ p → lots (set is p i) q ≡ lots is q
lots_others [] p q i n = refl
lots_others (j ∷ is) zero zero i n = absurd (n refl)
lots_others (j ∷ is) zero (suc q) i n = refl
lots_others (j ∷ is) (suc p) zero i n = refl
lots_others (j ∷ is) (suc p) (suc q) i n = lots_others is p q i (λ e. n (ap suc e))

-- where the same stands in the place of one, nothing changed
pub lots_same : (is : List SoundInlet) (p q : ℕ) (i j : SoundInlet) → j ≡ get_or is p j → lot_of i ≡ lot_of j → lots (set is p i) q ≡ lots is q
lots_same [] p q i j e h = refl
lots_same (k ∷ is) zero zero i j e h = h ∙ ap lot_of e
lots_same (k ∷ is) zero (suc q) i j e h = refl
lots_same (k ∷ is) (suc p) zero i j e h = refl
lots_same (k ∷ is) (suc p) (suc q) i j e h = lots_same is p q i j e h

pub lanes_same : (is : List SoundInlet) (p : ℕ) (i j : SoundInlet) → j ≡ get_or is p j → i.head ≡ j.head → map lane_of (set is p i) ≡ map lane_of is
lanes_same [] p i j e h = refl
lanes_same (k ∷ is) zero i j e h = ap (λ (l : Lane). l ∷ map lane_of is) (ap (λ h. Frames h) h ∙ ap lane_of e)
lanes_same (k ∷ is) (suc p) i j e h = ap (λ (ls : List Lane). lane_of k ∷ ls) (lanes_same is p i j e h)

abbrev pub no_lot : Lot
no_lot = record { channels = 0; count = 0; samples = []; after = More }

pub lots_beyond : (is : List SoundInlet) (p : ℕ) → length is ≤ p → lots is p ≡ no_lot
lots_beyond [] p le = refl
lots_beyond (i ∷ is) zero le = absurd (omega (arith, le))
lots_beyond (i ∷ is) (suc p) le = lots_beyond is p (omega (arith, le))

pub none_skipped : (k : ℕ) → skipped k no_lot ≡ no_lot
none_skipped k =
    let m : 0 - k ≡ 0 = omega arith in
    let made : ℕ → List ℤ → Lot = λ n xs. record { channels = 0; count = n; samples = xs; after = More } in
    ap (λ (n : ℕ). made n (drop (k * 0) [])) m ∙ ap (λ (xs : List ℤ). made 0 xs) (drop-nil (k * 0))

pub started_skipped : (first : Option ℤ) (k : ℕ) (l l' : Lot) → has_started first l ≡ true → l' ≡ skipped k l → has_started first l' ≡ true
started_skipped (Some z) k l l' s e = refl
started_skipped None k l l' s e = ap (λ (m : Lot). no_rows (rows_kept m)) e ∙ (ap no_rows (rows_skipped k l) ∙ at (rows_kept l) s)
  where
    at : (rows : List Row) → no_rows rows ≡ true → no_rows (drop k rows) ≡ true
    at [] n = ap no_rows (drop-nil k)
    at (r ∷ rs) n = cc
