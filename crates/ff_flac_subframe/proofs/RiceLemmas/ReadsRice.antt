-- A residual that was written is read back.
use Rattle.std.proofs.Common.{◌≡◌, ℕ, zero, suc, ◌+◌, ◌-◌, ◌*◌, ◌/◌, ◌%◌, ◌^◌, ◌<◌, ◌≤◌, Bool, true, false, cond, eqb, ltb, ℤ, pos, negsuc, List, [], ◌∷◌, ◌++◌, length, map, take, drop, refl, sym, ap, subst, ◌∙◌, arith, append_assoc}
use Rattle.std.specs.Prelude.{replicate, ◌≤ℤ◌, neg_ℤ}
use Rattle.std.specs.List.{flat_map, AllByRecursion, range_with_len, filter}
use Rattle.std.proofs.lemmas.Int.{ints}
use Rattle.std.proofs.lemmas.Bool.{lt-ltb, le-leb, ne_eqb, eq-eqb, and_from}
use Rattle.std.proofs.lemmas.List.{length-map, nil_from_length, map-append, take-append-drop, length-take, length-drop}
use Rattle.std.proofs.lemmas.List.Elements.{All-from_recursion, recursion_from_All, All-take, All-drop}
use Rattle.std.proofs.lemmas.Nat.{shr_split, pow_pos, mod_below}
use Rattle.std.proofs.Math.Nat.{le-div_iff_mul-le}
use Rattle.ff_bits.specs.Bits.{bits_of}
use Rattle.ff_bits.specs.Reading.{Reader, Done, ◌>>=◌, give, field, zeros, times}
use Rattle.ff_bits.proofs.BitsOf.{bits_of-mod}
use Rattle.ff_flac_frame.specs.Codes.{any, below, order_fits}
use Rattle.ff_flac_frame.specs.Frame.{sample, zigzag, residual_limit, quotient_limit, rice, partition, partitions, residual}
use Rattle.ff_flac_frame.specs.laws.Facts.{IsResidual}
use Rattle.ff_flac_subframe.specs.laws.rice.Spells.{Reads}
use Rattle.ff_flac_subframe.specs.rice.Rice.{zigzagged, rice_bits, partition_bits, partitions_bits, pieces, parts_of, Coding, residual_bits, count_of, parameters, choices, is_allowed, orders, codings_at, codings_by, codings}
use Rattle.ff_flac_subframe.proofs.RiceLemmas.ReadsBack.{reads-then, reads-map, reads-bits, reads-value, reads-if_false, reads-field, reads-zeros, reads-times}
use Rattle.ff_flac_subframe.proofs.RiceLemmas.Orders.{allowed_parts}
use Rattle.ff_flac_subframe.proofs.RiceLemmas.PartLemmas.{range_below, parts_of-is}

abbrev pub IsSmall : ℕ → Type 0
IsSmall u = u < residual_limit

quotient_below : (k u : ℕ) → IsSmall u → u / 2 ^ k < quotient_limit k
unfolding quotient_limit
quotient_below k u h =
    let low : u / 2 ^ k * 2 ^ k ≤ residual_limit - 1 = omega (arith, shr_split u k, h) in
    let le : u / 2 ^ k ≤ (residual_limit - 1) / 2 ^ k = (le-div_iff_mul-le (pow_pos k)).1 low in
    omega arith

pub reads-rice : (k u : ℕ) → IsSmall u → Reads (rice k) (rice_bits k u) (zigzag u)
unfolding rice rice_bits
reads-rice k u h =
    let q : ℕ = u / 2 ^ k in
    let r : ℕ = u % 2 ^ k in
    let split : q * 2 ^ k + r ≡ u = shr_split u k in
    let p : ℕ → Bool = below (residual_limit - q * 2 ^ k) in
    let passes : p r ≡ true = lt-ltb r (residual_limit - q * 2 ^ k) (omega (arith, split, h)) in
    let low : Reads (field k p) (bits_of k r) r = reads-field k p r (mod_below u (2 ^ k) (pow_pos k)) passes in
    let ending : ℕ → Reader ℤ = λ q. field k (below (residual_limit - q * 2 ^ k)) >>= λ low. give (zigzag (q * 2 ^ k + low)) in
    let rest : Reads (ending q) (bits_of k u) (zigzag u) =
    reads-value (ending q) (bits_of k u) (zigzag (q * 2 ^ k + r)) (zigzag u) (ap (λ (m : ℕ). zigzag m) split)
    (reads-bits (ending q) (bits_of k r) (bits_of k u) (zigzag (q * 2 ^ k + r)) (bits_of-mod k u) (reads-map (field k p) (λ low. zigzag (q * 2 ^ k + low)) (bits_of k r) r low)) in
    reads-bits (zeros (quotient_limit k) >>= ending) ((replicate q false ++ (true ∷ [])) ++ bits_of k u) (replicate q false ++ (true ∷ bits_of k u)) (zigzag u) (sym (append_assoc (replicate q false) (true ∷ []) (bits_of k u)))
    (reads-then (zeros (quotient_limit k)) ending (replicate q false ++ (true ∷ [])) (bits_of k u) q (zigzag u) (reads-zeros (quotient_limit k) q (quotient_below k u h)) rest)

reads-rices : (k : ℕ) (us : List ℕ) → AllByRecursion IsSmall us → AllByRecursion (λ u. Reads (rice k) (rice_bits k u) (zigzag u)) us
reads-rices k [] h = tt
reads-rices k (u ∷ us) h = (reads-rice k u h.0, reads-rices k us h.1)

pub reads-partition : (w k : ℕ) (us : List ℕ) → k < 2 ^ w - 1 → AllByRecursion IsSmall us → Reads (partition w (length us)) (partition_bits w k us) (map (λ u. zigzag u) us)
unfolding partition partition_bits
reads-partition w k us lt h =
    let test : eqb k (2 ^ w - 1) ≡ false = ne_eqb k (2 ^ w - 1) (λ e. omega (arith, lt, e)) in
    let below_it : k < 2 ^ w = omega (arith, lt) in
    let count : ℕ = length us in
    let escaped : Reader (List ℤ) = field 5 any >>= λ width. times count (sample width) in
    let by : ℕ → Reader (List ℤ) = λ k. cond (eqb k (2 ^ w - 1)) escaped (times count (rice k)) in
    reads-then (field w any) by (bits_of w k) (flat_map (rice_bits k) us) k (map (λ u. zigzag u) us) (reads-field w any k below_it refl)
    (reads-if_false (eqb k (2 ^ w - 1)) escaped (times count (rice k)) (flat_map (rice_bits k) us) (map (λ u. zigzag u) us) test
    (reads-times (rice k) (rice_bits k) (λ u. zigzag u) us (reads-rices k us h)))

small_take : (n : ℕ) (us : List ℕ) → AllByRecursion IsSmall us → AllByRecursion IsSmall (take n us)
small_take n us h = recursion_from_All IsSmall (take n us) (All-take IsSmall n us (All-from_recursion IsSmall us h))

small_drop : (n : ℕ) (us : List ℕ) → AllByRecursion IsSmall us → AllByRecursion IsSmall (drop n us)
small_drop n us h = recursion_from_All IsSmall (drop n us) (All-drop IsSmall n us (All-from_recursion IsSmall us h))

pub two_maps : (n : ℕ) (us : List ℕ) → map (λ u. zigzag u) (take n us) ++ map (λ u. zigzag u) (drop n us) ≡ map (λ u. zigzag u) us
two_maps n us = sym (map-append (λ u. zigzag u) (take n us) (drop n us)) ∙ ap (map (λ u. zigzag u)) (take-append-drop n us)

abbrev pub IsParameter : ℕ → ℕ → Type 0
IsParameter w k = k < 2 ^ w - 1

pub reads-partitions : (w size : ℕ) (ks us : List ℕ) → AllByRecursion (IsParameter w) ks → length us ≡ length ks * size → AllByRecursion IsSmall us
    → Reads (partitions (length ks) w size) (partitions_bits w ks (pieces (length ks) size us)) (map (λ u. zigzag u) us)
unfolding partitions partitions_bits pieces
reads-partitions w size [] us p l h = λ rest. ap (λ (xs : List ℕ). Done (map (λ u. zigzag u) xs) rest) (sym (nil_from_length us (omega arith)))
reads-partitions w size (k ∷ ks) us p l h =
    let n : ℕ = length ks in
    let total : length us ≡ size + n * size = omega (arith, l) in
    let first : List ℕ = take size us in
    let after : List ℕ = drop size us in
    let lf : length first ≡ size = omega (arith, length-take size us, total) in
    let la : length after ≡ n * size = omega (arith, length-drop size us, total) in
    let head : Reads (partition w size) (partition_bits w k first) (map (λ u. zigzag u) first) =
    subst (λ (m : ℕ). Reads (partition w m) (partition_bits w k first) (map (λ u. zigzag u) first)) lf (reads-partition w k first p.0 (small_take size us h)) in
    let tail = reads-partitions w size ks after p.1 la (small_drop size us h) in
    let both : Reader (List ℤ) = partition w size >>= λ a. partitions n w size >>= λ others. give (a ++ others) in
    reads-value both (partition_bits w k first ++ partitions_bits w ks (pieces n size after)) (map (λ u. zigzag u) first ++ map (λ u. zigzag u) after) (map (λ u. zigzag u) us) (two_maps size us)
    (reads-then (partition w size) (λ a. partitions n w size >>= λ others. give (a ++ others)) (partition_bits w k first) (partitions_bits w ks (pieces n size after))
    (map (λ u. zigzag u) first) (map (λ u. zigzag u) first ++ map (λ u. zigzag u) after) head
    (reads-map (partitions n w size) (λ others. map (λ u. zigzag u) first ++ others) (partitions_bits w ks (pieces n size after)) (map (λ u. zigzag u) after) tail))

-- ---- a whole residual

-- a coding of a block of n samples
pub record IsCoding (n order : ℕ) (c : Coding) : Type 0 where
  pub method : c.method ≤ 1
  pub partition_order : c.partition_order ≤ 8
  pub allowed : is_allowed n order c.partition_order ≡ true
  pub count : length c.ks ≡ 2 ^ c.partition_order
  pub parameters : AllByRecursion (λ k. k < count_of c.method) c.ks

parameter_is : (method : ℕ) → method ≤ 1 → count_of method ≡ 2 ^ (method + 4) - 1
parameter_is zero h = omega arith
parameter_is (suc zero) h = omega arith
parameter_is (suc (suc m)) h = absurd (omega arith)

order_fits-from : (n order p : ℕ) → p ≤ 8 → is_allowed n order p ≡ true → order_fits n order p ≡ true
unfolding order_fits
order_fits-from n order p h a =
    let parts = allowed_parts n order p a in
    and_from (ltb p 16) _ (lt-ltb p 16 (omega arith)) (and_from (eqb (n % 2 ^ p) 0) _ (eq-eqb (n % 2 ^ p) 0 parts.0) (le-leb order (n / 2 ^ p) (omega (arith, parts.1))))

parts_bits : (order m p k : ℕ) (ks us : List ℕ) (size : ℕ) → (length us + order) / 2 ^ p ≡ size → 2 ^ p - 1 ≡ length ks
    → partitions_bits (4 + m) (k ∷ ks) (parts_of order p us) ≡ partition_bits (m + 4) k (take (size - order) us) ++ partitions_bits (m + 4) ks (pieces (length ks) size (drop (size - order) us))
unfolding partitions_bits
parts_bits order m p k ks us size e n =
    let width : 4 + m ≡ m + 4 = omega arith in
    ap (λ (w : ℕ). partitions_bits w (k ∷ ks) (parts_of order p us)) width
    ∙ ap (partitions_bits (m + 4) (k ∷ ks)) (parts_of-is order p us size e)
    ∙ ap (λ (c : ℕ). partition_bits (m + 4) k (take (size - order) us) ++ partitions_bits (m + 4) ks (pieces c size (drop (size - order) us))) n

pub reads-residual_of : (order m p k : ℕ) (ks us : List ℕ) → m ≤ 1 → p ≤ 8 → is_allowed (length us + order) order p ≡ true → suc (length ks) ≡ 2 ^ p
    → AllByRecursion (IsParameter (m + 4)) (k ∷ ks) → AllByRecursion IsSmall us
    → Reads (residual (length us + order) order) (residual_bits order (record { method = m; partition_order = p; ks = k ∷ ks }) us) (map (λ u. zigzag u) us)
unfolding residual residual_bits
reads-residual_of order m p k ks us hm hp a n ps h =
    let block : ℕ = length us + order in
    let size : ℕ = block / 2 ^ p in
    let parts = allowed_parts block order p a in
    let count : 2 ^ p - 1 ≡ length ks = omega (arith, n) in
    let width : m + 4 ≡ 4 + m = omega arith in
    let whole : size * 2 ^ p ≡ block = omega (arith, shr_split block p, parts.0) in
    let long : size * 2 ^ p ≡ size + length ks * size = ap (λ (q : ℕ). size * q) (sym n) ∙ omega arith in
    let total : size - order + length ks * size ≡ length us = omega (arith, whole, long, parts.1) in
    let first : List ℕ = take (size - order) us in
    let after : List ℕ = drop (size - order) us in
    let lf : length first ≡ size - order = omega (arith, length-take (size - order) us, total) in
    let la : length after ≡ length ks * size = omega (arith, length-drop (size - order) us, total) in
    let Z : List ℕ → List ℤ = map (λ u. zigzag u) in
    let A : List Bool = partition_bits (m + 4) k first in
    let B : List Bool = partitions_bits (m + 4) ks (pieces (length ks) size after) in
    let body : List Bool = partitions_bits (4 + m) (k ∷ ks) (parts_of order p us) in
    let is : body ≡ A ++ B = parts_bits order m p k ks us size refl count in
    let head : Reads (partition (m + 4) (size - order)) A (Z first) =
    subst (λ (c : ℕ). Reads (partition (m + 4) c) A (Z first)) lf (reads-partition (m + 4) k first ps.0 (small_take (size - order) us h)) in
    let tail : Reads (partitions (2 ^ p - 1) (m + 4) size) B (Z after) =
    subst (λ (c : ℕ). Reads (partitions c (m + 4) size) B (Z after)) (sym count) (reads-partitions (m + 4) size ks after ps.1 la (small_drop (size - order) us h)) in
    let last : ℕ → ℕ → List ℤ → Reader (List ℤ) = λ method p a. partitions (2 ^ p - 1) (method + 4) (block / 2 ^ p) >>= λ others. give (a ++ others) in
    let middle : ℕ → ℕ → Reader (List ℤ) = λ method p. partition (method + 4) (block / 2 ^ p - order) >>= last method p in
    let second : ℕ → Reader (List ℤ) = λ method. field 4 (order_fits block order) >>= middle method in
    let all : Reader (List ℤ) = field 2 (below 2) >>= second in
    let bits : List Bool = bits_of 2 m ++ (bits_of 4 p ++ (A ++ B)) in
    let bits-is : bits_of 2 m ++ bits_of 4 p ++ body ≡ bits = append_assoc (bits_of 2 m) (bits_of 4 p) body ∙ ap (λ (l : List Bool). bits_of 2 m ++ (bits_of 4 p ++ l)) is in
    let p16 : p < 2 ^ 4 = omega arith in
    let m4 : m < 2 ^ 2 = omega arith in
    let m2 : below 2 m ≡ true = lt-ltb m 2 (omega arith) in
    reads-bits all bits (bits_of 2 m ++ bits_of 4 p ++ body) (Z us) bits-is
    (reads-then (field 2 (below 2)) second (bits_of 2 m) (bits_of 4 p ++ (A ++ B)) m (Z us) (reads-field 2 (below 2) m m4 m2)
    (reads-then (field 4 (order_fits block order)) (middle m) (bits_of 4 p) (A ++ B) p (Z us) (reads-field 4 (order_fits block order) p p16 (order_fits-from block order p hp a))
    (reads-value (middle m p) (A ++ B) (Z first ++ Z after) (Z us) (two_maps (size - order) us)
    (reads-then (partition (m + 4) (size - order)) (last m p) A B (Z first) (Z first ++ Z after) head
    (reads-map (partitions (2 ^ p - 1) (m + 4) size) (λ others. Z first ++ others) B (Z after) tail)))))

-- ---- each of the list is a coding

all-append : {A : Type 0} (P : A → Type 0) (xs ys : List A) → AllByRecursion P xs → AllByRecursion P ys → AllByRecursion P (xs ++ ys)
all-append P [] ys h g = g
all-append P (x ∷ xs) ys h g = (h.0, all-append P xs ys h.1 g)

pub all-map : {A B : Type 0} (P : B → Type 0) (f : A → B) (xs : List A) → AllByRecursion (λ a. P (f a)) xs → AllByRecursion P (map f xs)
all-map P f [] h = tt
all-map P f (x ∷ xs) h = (h.0, all-map P f xs h.1)

pub all-flat_map : {A B : Type 0} (P : B → Type 0) (f : A → List B) (xs : List A) → AllByRecursion (λ a. AllByRecursion P (f a)) xs → AllByRecursion P (flat_map f xs)
all-flat_map P f [] h = tt
all-flat_map P f (x ∷ xs) h = all-append P (f x) (flat_map f xs) h.0 (all-flat_map P f xs h.1)

pub all-weaker : {A : Type 0} (P Q : A → Type 0) → ((a : A) → P a → Q a) → (xs : List A) → AllByRecursion P xs → AllByRecursion Q xs
all-weaker P Q k [] h = tt
all-weaker P Q k (x ∷ xs) h = (k x h.0, all-weaker P Q k xs h.1)

pub all-filter : (t : ℕ → Bool) (P : ℕ → Type 0) (xs : List ℕ) → AllByRecursion P xs → AllByRecursion (λ x. (t x ≡ true) × P x) (filter t xs)
all-filter t P [] h = tt
all-filter t P (x ∷ xs) h =
    let Q : ℕ → Type 0 = λ x. (t x ≡ true) × P x in
    let others : AllByRecursion Q (filter t xs) = all-filter t P xs h.1 in
    elim (t x) as (λ b. t x ≡ b → AllByRecursion Q (cond b (x ∷ filter t xs) (filter t xs))) [
      | true ↦ λ e. ((e, h.0), others)
      | false ↦ λ e. others
    ] refl

all-choices : (P : ℕ → Type 0) (count : ℕ) (ks : List ℕ) → AllByRecursion P ks → AllByRecursion (λ cs. (length cs ≡ count) × AllByRecursion P cs) (choices count ks)
unfolding choices
all-choices P zero ks h = ((refl, tt), tt)
all-choices P (suc count) ks h =
    let Q : List ℕ → Type 0 = λ cs. (length cs ≡ suc count) × AllByRecursion P cs in
    let R : List ℕ → Type 0 = λ cs. (length cs ≡ count) × AllByRecursion P cs in
    let others : AllByRecursion R (choices count ks) = all-choices P count ks h in
    all-flat_map Q (λ k. map (λ rest. k ∷ rest) (choices count ks)) ks
    (all-weaker P (λ k. AllByRecursion Q (map (λ rest. k ∷ rest) (choices count ks)))
    (λ k p. all-map Q (λ rest. k ∷ rest) (choices count ks) (all-weaker R (λ rest. Q (k ∷ rest)) (λ rest r. (ap suc r.0, (p, r.1))) (choices count ks) others)) ks h)

all-codings_at : (n order method p : ℕ) → method ≤ 1 → p ≤ 8 → is_allowed n order p ≡ true → AllByRecursion (IsCoding n order) (codings_at method p)
unfolding codings_at parameters
all-codings_at n order method p hm hp a =
    let P : ℕ → Type 0 = λ k. k < count_of method in
    all-map (IsCoding n order) (λ ks. record { method = method; partition_order = p; ks = ks }) (choices (2 ^ p) (range_with_len 0 (count_of method)))
    (all-weaker (λ cs. (length cs ≡ 2 ^ p) × AllByRecursion P cs) (λ cs. IsCoding n order (record { method = method; partition_order = p; ks = cs }))
    (λ cs r. record { method = hm; partition_order = hp; allowed = a; count = r.0; parameters = r.1 })
    (choices (2 ^ p) (range_with_len 0 (count_of method)))
    (all-choices P (2 ^ p) (range_with_len 0 (count_of method)) (range_below P 0 (count_of method) (λ k h. omega (arith, h)))))

all-codings_by : (n order method : ℕ) → method ≤ 1 → AllByRecursion (IsCoding n order) (codings_by (orders n order) method)
unfolding codings_by orders
all-codings_by n order method hm =
    all-flat_map (IsCoding n order) (codings_at method) (filter (is_allowed n order) (range_with_len 0 9))
    (all-weaker (λ p. (is_allowed n order p ≡ true) × (p ≤ 8)) (λ p. AllByRecursion (IsCoding n order) (codings_at method p))
    (λ p r. all-codings_at n order method p hm r.1 r.0)
    (filter (is_allowed n order) (range_with_len 0 9))
    (all-filter (is_allowed n order) (λ p. p ≤ 8) (range_with_len 0 9) (range_below (λ p. p ≤ 8) 0 9 (λ p h. omega (arith, h)))))

pub all-codings : (n order : ℕ) → AllByRecursion (IsCoding n order) (codings n order)
unfolding codings
all-codings n order =
    all-append (IsCoding n order) (codings_by (orders n order) 0) (codings_by (orders n order) 1) (all-codings_by n order 0 (omega arith)) (all-codings_by n order 1 (omega arith))

-- ---- and is read back

reads-coding_of : (order m p : ℕ) (ks us : List ℕ) → IsCoding (length us + order) order (record { method = m; partition_order = p; ks = ks }) → AllByRecursion IsSmall us
    → Reads (residual (length us + order) order) (residual_bits order (record { method = m; partition_order = p; ks = ks }) us) (map (λ u. zigzag u) us)
reads-coding_of order m p [] us c h = absurd (omega (arith, c.count, pow_pos p))
reads-coding_of order m p (k ∷ ks) us c h =
    let ps : AllByRecursion (IsParameter (m + 4)) (k ∷ ks) =
    subst (λ (n : ℕ). AllByRecursion (λ j. j < n) (k ∷ ks)) (parameter_is m c.method) c.parameters in
    reads-residual_of order m p k ks us c.method c.partition_order c.allowed c.count ps h

pub reads-coding : (order : ℕ) (c : Coding) (us : List ℕ) → IsCoding (length us + order) order c → AllByRecursion IsSmall us
    → Reads (residual (length us + order) order) (residual_bits order c us) (map (λ u. zigzag u) us)
reads-coding order c us h g = reads-coding_of order c.method c.partition_order c.ks us h g

-- the numbers of residuals
zigzag-zigzagged : (x : ℤ) → zigzag (zigzagged x) ≡ x
zigzag-zigzagged (pos n) =
    let r : (2 * n) % 2 ≡ 0 = omega arith in
    let q : 2 * n / 2 ≡ n = omega arith in
    ap (λ b. cond b (pos (2 * n / 2)) (neg_ℤ (pos (2 * n / 2 + 1)))) (eq-eqb ((2 * n) % 2) 0 r) ∙ ap (λ (m : ℕ). pos m) q
zigzag-zigzagged (negsuc n) =
    let r : (2 * n + 1) % 2 ≡ 0 → ⊥ = λ e. omega arith in
    let q : (2 * n + 1) / 2 + 1 ≡ suc n = omega arith in
    ap (λ b. cond b (pos ((2 * n + 1) / 2)) (neg_ℤ (pos ((2 * n + 1) / 2 + 1)))) (ne_eqb ((2 * n + 1) % 2) 0 r) ∙ ap (λ (m : ℕ). neg_ℤ (pos m)) q

zigzags_back : (xs : List ℤ) → map (λ u. zigzag u) (map zigzagged xs) ≡ xs
zigzags_back [] = refl
zigzags_back (x ∷ xs) = ap (λ y. y ∷ map (λ u. zigzag u) (map zigzagged xs)) (zigzag-zigzagged x) ∙ ap (λ ys. x ∷ ys) (zigzags_back xs)

zigzagged_small : (x : ℤ) → IsResidual x → IsSmall (zigzagged x)
zigzagged_small (pos n) h =
    let high : pos n ≤ℤ pos 2147483647 = h.high in
    omega (arith, ints, high)
zigzagged_small (negsuc n) h =
    let low : neg_ℤ (pos 2147483647) ≤ℤ negsuc n = h.low in
    omega (arith, ints, low)

pub codings_read : (order : ℕ) (xs : List ℤ) → AllByRecursion IsResidual xs
    → AllByRecursion (λ c. Reads (residual (length xs + order) order) (residual_bits order c (map zigzagged xs)) xs) (codings (length xs + order) order)
codings_read order xs h =
    let us : List ℕ = map zigzagged xs in
    let n : length us ≡ length xs = length-map xs zigzagged in
    let small : AllByRecursion IsSmall us = all-map IsSmall zigzagged xs (all-weaker IsResidual (λ x. IsSmall (zigzagged x)) zigzagged_small xs h) in
    all-weaker (IsCoding (length xs + order) order) (λ c. Reads (residual (length xs + order) order) (residual_bits order c us) xs)
    (λ c r. reads-value (residual (length xs + order) order) (residual_bits order c us) (map (λ u. zigzag u) us) xs (zigzags_back xs)
    (subst (λ (m : ℕ). Reads (residual (m + order) order) (residual_bits order c us) (map (λ u. zigzag u) us)) n
    (reads-coding order c us (subst (λ (m : ℕ). IsCoding (m + order) order c) (sym n) r) small)))
    (codings (length xs + order) order) (all-codings (length xs + order) order)
