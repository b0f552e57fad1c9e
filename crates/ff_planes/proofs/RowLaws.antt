-- Rows one below the other.
use Rattle.std.proofs.Common.{◌≡◌, ℕ, zero, suc, ◌+◌, ◌-◌, ◌*◌, ◌<◌, ◌≤◌, List, [], ◌∷◌, ◌++◌, take, drop, length, get_or, refl, sym, ap, ◌∙◌, arith, add-one, zero-mul, suc-mul, zero-add, add-zero, replicate}
use Rattle.std.proofs.lemmas.List.{length-append, append_assoc, append-nil, take-append-drop, get_or-take, get_or-drop, length-take-le, length-drop, drop-drop, take_all, take-take, drop-take, length-reverse, get_or-reverse, take_at, drop_at, ext_get_or, length-replicate, get_or-replicate}
use Rattle.std.proofs.lemmas.Nat.{row_fits}
use Rattle.std.proofs.lemmas.List.FromFn.{fill_by_all, length-map-range_with_len, get_or-map-range_with_len, map-range_with_len_more}
use mathlib.Core.List.{reverse}
use borrow.Rule.Slice.PartMut.{put_mid}
use Rattle.ff_planes.specs.Grid.{line, lines, row_of, plane_of, sample}

pub lines-more : (n : ℕ) (f : ℕ → List ℕ) → lines (n + 1) f ≡ lines n f ++ f n
lines-more n f = rw add-one refl

pub length-lines : (n w : ℕ) (f : ℕ → List ℕ) → ((r : ℕ) → r < n → length (f r) ≡ w) → length (lines n f) ≡ n * w
length-lines zero w f h = sym (zero-mul w)
length-lines (suc n) w f h =
    let before : length (lines n f) ≡ n * w = length-lines n w f (λ r lt. h r (omega arith)) in
    let here : length (f n) ≡ w = h n (omega arith) in
    length-append (lines n f) (f n) ∙ omega (arith, suc-mul n w)

pub lines-same : (n : ℕ) (f g : ℕ → List ℕ) → ((r : ℕ) → r < n → f r ≡ g r) → lines n f ≡ lines n g
lines-same zero f g h = refl
lines-same (suc n) f g h =
    let before : lines n f ≡ lines n g = lines-same n f g (λ r lt. h r (omega arith)) in
    let here : f n ≡ g n = h n (omega arith) in
    cc

pub length-plane_of : (w h : ℕ) (f : ℕ → ℕ → ℕ) → length (plane_of w h f) ≡ h * w
length-plane_of w h f = length-lines h w (λ r. row_of w (f r)) (λ r lt. length-map-range_with_len (f r) 0 w)

pub length-slice : (from n : ℕ) (xs : List ℕ) → from + n ≤ length xs → length (take n (drop from xs)) ≡ n
length-slice from n xs room = length-take-le n (drop from xs) (omega (arith, length-drop from xs))

pub take_add : (m n : ℕ) (xs : List ℕ) → take m xs ++ take n (drop m xs) ≡ take (m + n) xs
take_add m n xs = ap (λ ys. take m xs ++ ys) (sym (drop-take m n xs)) ∙ ap (λ ys. ys ++ drop m (take (m + n) xs)) (sym (take-take m (m + n) xs (omega arith))) ∙ take-append-drop m (take (m + n) xs)

-- a part of a list, element by element
pub part_is_row : (from n : ℕ) (xs : List ℕ) → from + n ≤ length xs → take n (drop from xs) ≡ row_of n (λ c. get_or xs (from + c) 0)
part_is_row from n xs room =
    fill_by_all (λ c. get_or xs (from + c) 0) (take n (drop from xs)) n 0 (length-slice from n xs room)
    (λ k lt. get_or-take n (drop from xs) k 0 lt ∙ get_or-drop from xs k 0)

abbrev pub mirrored_row : ℕ → List ℕ → ℕ → List ℕ
mirrored_row columns bytes r = row_of columns (λ c. sample columns bytes r (columns - 1 - c))

pub part_reversed : (from n : ℕ) (xs : List ℕ) → from + n ≤ length xs → reverse (take n (drop from xs)) ≡ row_of n (λ c. get_or xs (from + (n - 1 - c)) 0)
part_reversed from n xs room =
    let part : List ℕ = take n (drop from xs) in
    let long : length part ≡ n = length-slice from n xs room in
    fill_by_all (λ c. get_or xs (from + (n - 1 - c)) 0) (reverse part) n 0 (length-reverse part ∙ long)
    (λ k lt. get_or-reverse part k 0 (omega arith)
    ∙ ap (λ m. get_or part (m - 1 - k) 0) long
    ∙ get_or-take n (drop from xs) (n - 1 - k) 0 (omega arith)
    ∙ get_or-drop from xs (n - 1 - k) 0)

-- the first rows of a plane are done, and the next one too
pub one_more_line : (columns r k : ℕ) (f : ℕ → List ℕ) (old now new : List ℕ) → ((i : ℕ) → i < r → length (f i) ≡ columns) → k ≡ columns →
    now ≡ lines r f ++ drop (r * columns) old → new ≡ f r → put_mid (r * columns) k now new ≡ lines (r + 1) f ++ drop ((r + 1) * columns) old
one_more_line columns r k f old now new wide same e n =
    let long : length (lines r f) ≡ r * columns = length-lines r columns f wide in
    let front : take (r * columns) now ≡ lines r f = ap (take (r * columns)) e ∙ take_at (lines r f) (drop (r * columns) old) (r * columns) long in
    let back : drop (r * columns) now ≡ drop (r * columns) old = ap (drop (r * columns)) e ∙ drop_at (lines r f) (drop (r * columns) old) (r * columns) long in
    let grown : (r + 1) * columns ≡ r * columns + columns = ap (λ m. m * columns) (add-one r) ∙ suc-mul r columns in
    let there : r * columns + k ≡ (r + 1) * columns = omega (arith, grown) in
    let rest : drop k (drop (r * columns) now) ≡ drop ((r + 1) * columns) old = ap (drop k) back ∙ drop-drop k (r * columns) old ∙ ap (λ m. drop m old) there in
    let more : lines (r + 1) f ≡ lines r f ++ f r = lines-more r f in
    ap (λ xs. xs ++ (new ++ drop k (drop (r * columns) now))) front
    ∙ ap (λ xs. lines r f ++ (xs ++ drop k (drop (r * columns) now))) n
    ∙ ap (λ xs. lines r f ++ (f r ++ xs)) rest
    ∙ sym (append_assoc (lines r f) (f r) (drop ((r + 1) * columns) old))
    ∙ ap (λ xs. xs ++ drop ((r + 1) * columns) old) (sym more)

-- what is left where the first rows are done
pub lines_left : (columns r : ℕ) (f : ℕ → List ℕ) (old now : List ℕ) → ((i : ℕ) → i < r → length (f i) ≡ columns) →
    now ≡ lines r f ++ drop (r * columns) old → drop (r * columns) now ≡ drop (r * columns) old
lines_left columns r f old now wide e = ap (drop (r * columns)) e ∙ drop_at (lines r f) (drop (r * columns) old) (r * columns) (length-lines r columns f wide)

pub one_more_mirrored : (columns rows r k : ℕ) (old now new : List ℕ) → r < rows → length old ≡ rows * columns → k ≡ columns →
    now ≡ lines r (mirrored_row columns old) ++ drop (r * columns) old → new ≡ reverse (take k (drop (r * columns) now)) →
    put_mid (r * columns) k now new ≡ lines (r + 1) (mirrored_row columns old) ++ drop ((r + 1) * columns) old
one_more_mirrored columns rows r k old now new lt long same e n =
    let wide : (i : ℕ) → i < r → length (mirrored_row columns old i) ≡ columns = λ i il. length-map-range_with_len (λ c. sample columns old i (columns - 1 - c)) 0 columns in
    let room : r * columns + columns ≤ length old = omega (arith, row_fits r columns rows columns lt (omega arith)) in
    let row : new ≡ mirrored_row columns old r =
    n ∙ ap (λ xs. reverse (take k xs)) (lines_left columns r (mirrored_row columns old) old now wide e) ∙ ap (λ m. reverse (take m (drop (r * columns) old))) same ∙ part_reversed (r * columns) columns old room in
    one_more_line columns r k (mirrored_row columns old) old now new wide same e row

-- ---- a plane by its rows

pub line_same : (c r s : ℕ) (xs ys : List ℕ) → r * c + c ≤ length xs → s * c + c ≤ length ys → ((k : ℕ) → k < c → get_or xs (r * c + k) 0 ≡ get_or ys (s * c + k) 0) → line c xs r ≡ line c ys s
line_same c r s xs ys room also same =
    ext_get_or 0 (line c xs r) (line c ys s) (length-slice (r * c) c xs room ∙ sym (length-slice (s * c) c ys also))
    (λ k lt. let below : k < c = omega (arith, length-slice (r * c) c xs room) in
    get_or-take c (drop (r * c) xs) k 0 below ∙ get_or-drop (r * c) xs k 0 ∙ same k below
    ∙ sym (get_or-take c (drop (s * c) ys) k 0 below ∙ get_or-drop (s * c) ys k 0))

front_lines : (c n : ℕ) (xs : List ℕ) → n * c ≤ length xs → lines n (line c xs) ≡ take (n * c) xs
front_lines c zero xs room = ap (λ m. take m xs) (sym (zero-mul c))
front_lines c (suc n) xs room =
    let grown : suc n * c ≡ n * c + c = suc-mul n c in
    let before : lines n (line c xs) ≡ take (n * c) xs = front_lines c n xs (omega (arith, grown)) in
    ap (λ ys. ys ++ line c xs n) before ∙ take_add (n * c) c xs ∙ ap (λ m. take m xs) (sym grown)

pub lines_of_plane : (c n : ℕ) (xs : List ℕ) → length xs ≡ n * c → lines n (line c xs) ≡ xs
lines_of_plane c n xs long = front_lines c n xs (omega arith) ∙ take_all (n * c) xs (omega arith)

pub line_is_row : (c n r : ℕ) (xs : List ℕ) → length xs ≡ n * c → r < n → line c xs r ≡ row_of c (sample c xs r)
line_is_row c n r xs long lt = part_is_row (r * c) c xs (omega (arith, row_fits r c n c lt (omega arith)))

-- ---- rows and lines in parts

pub row-same : (n : ℕ) (f g : ℕ → ℕ) → ((k : ℕ) → k < n → f k ≡ g k) → row_of n f ≡ row_of n g
row-same n f g same =
    fill_by_all g (row_of n f) n 0 (length-map-range_with_len f 0 n) (λ k lt. get_or-map-range_with_len f 0 n k k 0 lt (zero-add k) ∙ same k lt)

pub row-add : (m n : ℕ) (f : ℕ → ℕ) → row_of (m + n) f ≡ row_of m f ++ row_of n (λ k. f (m + k))
row-add m zero f = ap (λ k. row_of k f) (add-zero m) ∙ sym (append-nil (row_of m f))
row-add m (suc n) f =
    let last : row_of (m + n + 1) f ≡ row_of (m + n) f ++ f (m + n) ∷ [] = map-range_with_len_more f 0 (m + n) (m + n) (zero-add (m + n)) in
    let also : row_of (n + 1) (λ k. f (m + k)) ≡ row_of n (λ k. f (m + k)) ++ f (m + n) ∷ [] = map-range_with_len_more (λ k. f (m + k)) 0 n n (zero-add n) in
    let size : m + suc n ≡ m + n + 1 = omega arith in
    let less : n + 1 ≡ suc n = omega arith in
    ap (λ k. row_of k f) size ∙ last ∙ ap (λ xs. xs ++ f (m + n) ∷ []) (row-add m n f)
    ∙ append_assoc (row_of m f) (row_of n (λ k. f (m + k))) (f (m + n) ∷ [])
    ∙ ap (λ xs. row_of m f ++ xs) (sym also) ∙ ap (λ j. row_of m f ++ row_of j (λ k. f (m + k))) less

pub row_is_one_value : (n v : ℕ) → row_of n (λ k. v) ≡ replicate n v
row_is_one_value n v = sym (fill_by_all (λ k. v) (replicate n v) n 0 (length-replicate n v) (λ k lt. get_or-replicate n k v 0 lt))

pub lines-add : (m n : ℕ) (f : ℕ → List ℕ) → lines (m + n) f ≡ lines m f ++ lines n (λ r. f (m + r))
lines-add m zero f = ap (λ k. lines k f) (add-zero m) ∙ sym (append-nil (lines m f))
lines-add m (suc n) f =
    let size : m + suc n ≡ m + n + 1 = omega arith in
    ap (λ k. lines k f) size ∙ lines-more (m + n) f ∙ ap (λ xs. xs ++ f (m + n)) (lines-add m n f)
    ∙ append_assoc (lines m f) (lines n (λ r. f (m + r))) (f (m + n))
