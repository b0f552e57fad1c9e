-- Rows that are written input by input.
use Rattle.std.proofs.Common.{◌≡◌, ◌<◌, ◌≤◌, ◌+◌, ◌-◌, ◌*◌, ◌++◌, ◌∷◌, [], ℕ, zero, suc, ℤ, pos, List, length, take, drop, get_or, set, refl, arith, ap, sym, ◌∙◌, append_assoc}
use Rattle.std.proofs.lemmas.List.{take-append-le, drop-append-le, drop-take, take-take, take_at, take_all, length-take-le, length-drop}
use Rattle.std.proofs.lemmas.List.{length-append, drop-drop, set_split, drop_more}
use Rattle.std.proofs.lemmas.Slice.{drop-append-drop}
use Rattle.std.proofs.Math.Nat.{mul-le-mul_right}
use Rattle.std.proofs.Math.Seq.{take-add}
use Rattle.ff_joins.specs.declared.sound_inlet.SoundInlet.{SoundInlet}
use Rattle.ff_joins.specs.JoinOptions.{channels_of}
use Rattle.ff_joins.specs.laws.JoinCuts.{width_to}
use Rattle.ff_joins.specs.laws.Lots.{Lot, lot_of, cell, row_to, cells_to}

-- samples over those that stand from an index on ------------------------------------------------------------------------------

module _ (xs ys : List ℤ) (at : ℕ) (fits : at + length ys ≤ length xs) where
  abbrev rest : List ℤ
  rest = drop (at + length ys) xs

  abbrev pub patch : List ℤ
  patch = take at xs ++ ys ++ rest

  split : patch ≡ take at xs ++ (ys ++ rest)
  split = append_assoc (take at xs) ys rest

  front_long : length (take at xs) ≡ at
  front_long = length-take-le at xs (omega (arith, fits))

  front : (m : ℕ) → m ≤ at → drop m (take at xs) ≡ take (at - m) (drop m xs)
  front m le =
      let e : at ≡ m + (at - m) = omega (arith, le) in
      ap (λ (k : ℕ). drop m (take k xs)) e ∙ drop-take m (at - m) xs

  pub patch_long : length patch ≡ length xs
  patch_long =
      let a = length-append (take at xs ++ ys) rest in
      let b = length-append (take at xs) ys in
      let d = length-drop (at + length ys) xs in
      omega (arith, a, b, d, front_long, fits)

  -- a part before them
  pub patch_below : (m l : ℕ) → m + l ≤ at → take l (drop m patch) ≡ take l (drop m xs)
  patch_below m l le =
      let d = length-drop m (take at xs) in
      ap (λ (zs : List ℤ). take l (drop m zs)) split
      ∙ (ap (λ (zs : List ℤ). take l zs) (drop-append-le m (take at xs) (ys ++ rest) (omega (arith, le, front_long)))
      ∙ (take-append-le l (drop m (take at xs)) (ys ++ rest) (omega (arith, le, d, front_long))
      ∙ (ap (λ (zs : List ℤ). take l zs) (front m (omega (arith, le))) ∙ take-take l (at - m) (drop m xs) (omega (arith, le)))))

  -- a part that ends with them
  pub patch_here : (m a : ℕ) → at ≡ m + a → take (a + length ys) (drop m patch) ≡ take a (drop m xs) ++ ys
  patch_here m a e =
      let n : at - m ≡ a = omega (arith, e) in
      let d = length-drop m xs in
      let long : length (take a (drop m xs)) ≡ a = length-take-le a (drop m xs) (omega (arith, e, d, fits)) in
      let b = length-append (take a (drop m xs)) ys in
      ap (λ (zs : List ℤ). take (a + length ys) (drop m zs)) split
      ∙ (ap (λ (zs : List ℤ). take (a + length ys) zs) (drop-append-le m (take at xs) (ys ++ rest) (omega (arith, e, front_long)))
      ∙ (ap (λ (zs : List ℤ). take (a + length ys) (zs ++ (ys ++ rest))) (front m (omega (arith, e)) ∙ ap (λ (k : ℕ). take k (drop m xs)) n)
      ∙ (ap (λ (zs : List ℤ). take (a + length ys) zs) (sym (append_assoc (take a (drop m xs)) ys rest))
      ∙ take_at (take a (drop m xs) ++ ys) rest (a + length ys) (omega (arith, b, long)))))

  -- what stands behind them
  pub patch_above : (m : ℕ) → at + length ys ≤ m → drop m patch ≡ drop m xs
  patch_above m le =
      let b = length-append (take at xs) ys in
      drop-append-drop (at + length ys) xs (take at xs ++ ys) m le (omega (arith, b, front_long))

-- one sample over another
pub patch_one : (xs ys : List ℤ) (at : ℕ) → length ys ≡ 1 → at < length xs → set xs at (get_or ys 0 (pos 0)) ≡ take at xs ++ ys ++ drop (at + length ys) xs
patch_one xs [] at e lt = absurd (omega (arith, e))
patch_one xs (y ∷ z ∷ ys) at e lt = absurd (omega (arith, e))
patch_one xs (y ∷ []) at e lt =
    let n : suc at ≡ at + 1 = omega arith in
    set_split xs at y lt
    ∙ (ap (λ (k : ℕ). take at xs ++ y ∷ drop k xs) n ∙ sym (append_assoc (take at xs) (y ∷ []) (drop (at + 1) xs)))

-- one sample of a list
pub one_of : (xs : List ℤ) (m : ℕ) → m < length xs → take 1 (drop m xs) ≡ get_or xs m (pos 0) ∷ []
one_of xs m lt = ap (λ (zs : List ℤ). take 1 zs) (drop_more xs m (pos 0) lt)

-- rows -------------------------------------------------------------------------------------------------------------------

next_row : (r k wide : ℕ) → r < k → r * wide + wide ≤ k * wide
next_row r k wide lt =
    let h : (r + 1) * wide ≤ k * wide = mul-le-mul_right wide (omega (arith, lt)) in
    let e : (r + 1) * wide ≡ r * wide + wide = omega arith in
    omega (arith, h, e)

-- a place of a row is in one of so many rows
pub row_there : (r count wide column n size : ℕ) → r < count → column + n ≤ wide → size ≡ count * wide → r * wide + column + n ≤ size
row_there r count wide column n size lt fits e = let h = next_row r count wide lt in omega (arith, h, fits, e)

-- a place that is there has a sample of each channel
pub cell_long : (l : Lot) (r : ℕ) → length l.samples ≡ l.count * l.channels → r < l.count → length (cell l r) ≡ l.channels
cell_long l r is lt =
    let h = next_row r l.count l.channels lt in
    let d = length-drop (r * l.channels) l.samples in
    length-take-le l.channels (drop (r * l.channels) l.samples) (omega (arith, h, d, is))

-- of one channel a sample waits for each sample frame, and that is the cell
pub one_there : (ls : ℕ → Lot) (p k count : ℕ) (i : SoundInlet) (xs : List ℤ) → ls p ≡ lot_of i → (ls p).channels ≡ 1 → count ≤ (ls p).count → k < count → xs ≡ i.samples
    → k < length xs
one_there ls p k count i xs at one there lt e =
    let known : channels_of i.head ≡ 1 = sym (ap (λ (l : Lot). l.channels) at) ∙ one in
    let product : i.count * channels_of i.head ≡ i.count * 1 = ap (λ (m : ℕ). i.count * m) known in
    let size : length xs ≡ length i.samples = ap (λ (zs : List ℤ). length zs) e in
    let number = ap (λ (l : Lot). l.count) at in
    let rows = i.rows in
    omega (arith, product, size, number, rows, there, lt)

pub one_cell : (l : Lot) (xs : List ℤ) (r : ℕ) → l.channels ≡ 1 → xs ≡ l.samples → r < length xs → cell l r ≡ get_or xs r (pos 0) ∷ []
one_cell l xs r one e lt =
    let n : r * 1 ≡ r = omega arith in
    ap (λ (m : ℕ). take m (drop (r * m) l.samples)) one
    ∙ (ap (λ (m : ℕ). take 1 (drop m l.samples)) n
    ∙ (ap (λ (zs : List ℤ). take 1 (drop r zs)) (sym e) ∙ one_of xs r lt))

module _ (old out ys : List ℤ) (k wide column : ℕ) (fits : k * wide + column + length ys ≤ length out) (narrow : column + length ys ≤ wide)
    (left : drop (k * wide) out ≡ drop (k * wide) old) where
  pub row_before : (r : ℕ) → r < k → take (column + length ys) (drop (r * wide) (patch out ys (k * wide + column) fits)) ≡ take (column + length ys) (drop (r * wide) out)
  row_before r lt =
      let h = next_row r k wide lt in
      patch_below out ys (k * wide + column) fits (r * wide) (column + length ys) (omega (arith, h, narrow))

  pub row_here : take (column + length ys) (drop (k * wide) (patch out ys (k * wide + column) fits)) ≡ take column (drop (k * wide) old) ++ ys
  row_here = patch_here out ys (k * wide + column) fits (k * wide) column refl ∙ ap (λ (zs : List ℤ). take column zs ++ ys) left

  pub rows_left : drop ((k + 1) * wide) (patch out ys (k * wide + column) fits) ≡ drop ((k + 1) * wide) old
  rows_left =
      let e : (k + 1) * wide ≡ k * wide + wide = omega arith in
      patch_above out ys (k * wide + column) fits ((k + 1) * wide) (omega (arith, e, narrow))
      ∙ (ap (λ (m : ℕ). drop m out) e
      ∙ (sym (drop-drop wide (k * wide) out)
      ∙ (ap (λ (zs : List ℤ). drop wide zs) left ∙ (drop-drop wide (k * wide) old ∙ ap (λ (m : ℕ). drop m old) (sym e)))))

-- all inputs ---------------------------------------------------------------------------------------------------------------

pub width_grows : (ls : ℕ → Lot) (p more : ℕ) → width_to ls p ≤ width_to ls (more + p)
width_grows ls p zero =
    let e : zero + p ≡ p = omega arith in
    let w : width_to ls (zero + p) ≡ width_to ls p = ap (λ (k : ℕ). width_to ls k) e in
    omega (arith, w)
width_grows ls p (suc more) =
    let h = width_grows ls p more in
    let e : suc more + p ≡ suc (more + p) = omega arith in
    let w : width_to ls (suc more + p) ≡ width_to ls (more + p) + (ls (more + p)).channels = ap (λ (k : ℕ). width_to ls k) e in
    omega (arith, h, w)

pub width_there : (ls : ℕ → Lot) (p n : ℕ) → p < n → width_to ls p + (ls p).channels ≤ width_to ls n
width_there ls p n lt =
    let e : (n - suc p) + suc p ≡ n = omega (arith, lt) in
    let h = width_grows ls (suc p) (n - suc p) in
    let w : width_to ls ((n - suc p) + suc p) ≡ width_to ls n = ap (λ (k : ℕ). width_to ls k) e in
    omega (arith, h, w)

module _ (ls : ℕ → Lot) (n count wide : ℕ) (out : List ℤ) (rows : (r : ℕ) → r < count → take wide (drop (r * wide) out) ≡ row_to ls n r) where
  first_cells : (k : ℕ) → k ≤ count → take (k * wide) out ≡ cells_to ls n k
  first_cells zero le = let e : zero * wide ≡ 0 = omega arith in ap (λ (m : ℕ). take m out) e
  first_cells (suc k) le =
      let e : suc k * wide ≡ k * wide + wide = omega arith in
      ap (λ (m : ℕ). take m out) e
      ∙ (take-add (k * wide) wide out
      ∙ (ap (λ (zs : List ℤ). zs ++ take wide (drop (k * wide) out)) (first_cells k (omega (arith, le)))
      ∙ ap (λ (zs : List ℤ). cells_to ls n k ++ zs) (rows k (omega (arith, le)))))

  pub all_cells : length out ≡ count * wide → out ≡ cells_to ls n count
  all_cells long = sym (take_all (count * wide) out (omega (arith, long))) ∙ first_cells count (omega arith)
