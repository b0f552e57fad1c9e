-- The Adler-32 sum by runs, each with its sums reduced.
use Rattle.std.proofs.Common.{◌≡◌, ℕ, ◌+◌, ◌%◌, List, [], ◌∷◌, ◌++◌, drop, refl, sym, ap, ◌∙◌, arith}
use Rattle.std.specs.List.{slice_range}
use Rattle.std.proofs.Math.Nat.{add-mod-mod, mod-add-mod, mod-mod}
use Rattle.std.proofs.lemmas.List.Folds.{drop_split}
use Rattle.ff_mux.specs.Adler.{byte_sum, sum_of_sums}
use Rattle.ff_mux.specs.laws.Hashers.{AreSums}
use Rattle.ff_mux.specs.declared.adler.Sums.{Sums}

plus : (a c d : ℕ) → a % 65521 ≡ c % 65521 → (a + d) % 65521 ≡ (c + d) % 65521
plus a c d e = sym (mod-add-mod a 65521 d) ∙ (ap (λ n. (n + d) % 65521) e ∙ mod-add-mod c 65521 d)

both : (a c b d : ℕ) → a % 65521 ≡ c % 65521 → b % 65521 ≡ d % 65521 → (b + a) % 65521 ≡ (d + c) % 65521
both a c b d e f = plus b d a f ∙ (sym (add-mod-mod d a 65521) ∙ (ap (λ n. (d + n) % 65521) e ∙ add-mod-mod d c 65521))

-- sums that are the same modulo 65,521 stay so
bytes-same : (xs : List ℕ) (a c : ℕ) → a % 65521 ≡ c % 65521 → byte_sum a xs % 65521 ≡ byte_sum c xs % 65521
bytes-same [] a c e = e
bytes-same (x ∷ xs) a c e = bytes-same xs (a + x) (c + x) (plus a c x e)

sums-same : (xs : List ℕ) (a c b d : ℕ) → a % 65521 ≡ c % 65521 → b % 65521 ≡ d % 65521 → sum_of_sums a b xs % 65521 ≡ sum_of_sums c d xs % 65521
sums-same [] a c b d e f = f
sums-same (x ∷ xs) a c b d e f =
    sums-same xs (a + x) (c + x) (b + (a + x)) (d + (c + x)) (plus a c x e) (both (a + x) (c + x) b d (plus a c x e) f)

bytes-append : (xs ys : List ℕ) (a : ℕ) → byte_sum a (xs ++ ys) ≡ byte_sum (byte_sum a xs) ys
bytes-append [] ys a = refl
bytes-append (x ∷ xs) ys a = bytes-append xs ys (a + x)

sums-append : (xs ys : List ℕ) (a b : ℕ) → sum_of_sums a b (xs ++ ys) ≡ sum_of_sums (byte_sum a xs) (sum_of_sums a b xs) ys
sums-append [] ys a b = refl
sums-append (x ∷ xs) ys a b = sums-append xs ys (a + x) (b + (a + x))

-- a run, and then the others from the reduced sums on
pub bytes-on : (xs ys : List ℕ) (a : ℕ) → byte_sum (byte_sum a xs % 65521) ys % 65521 ≡ byte_sum a (xs ++ ys) % 65521
bytes-on xs ys a =
    bytes-same ys (byte_sum a xs % 65521) (byte_sum a xs) (mod-mod (byte_sum a xs) 65521) ∙ ap (λ n. n % 65521) (sym (bytes-append xs ys a))

pub sums-on : (xs ys : List ℕ) (a b : ℕ)
    → sum_of_sums (byte_sum a xs % 65521) (sum_of_sums a b xs % 65521) ys % 65521 ≡ sum_of_sums a b (xs ++ ys) % 65521
sums-on xs ys a b =
    sums-same ys (byte_sum a xs % 65521) (byte_sum a xs) (sum_of_sums a b xs % 65521) (sum_of_sums a b xs) (mod-mod (byte_sum a xs) 65521) (mod-mod (sum_of_sums a b xs) 65521)
    ∙ ap (λ n. n % 65521) (sym (sums-append xs ys a b))

-- the sums of what is left, a run on
pub bytes-next : (xs : List ℕ) (at n a total : ℕ) → byte_sum a (drop at xs) % 65521 ≡ total
    → byte_sum (byte_sum a (slice_range xs at (at + n)) % 65521) (drop (at + n) xs) % 65521 ≡ total
bytes-next xs at n a total h =
    bytes-on (slice_range xs at (at + n)) (drop (at + n) xs) a
    ∙ (ap (λ ys. byte_sum a ys % 65521) (sym (drop_split xs at (at + n) (omega arith))) ∙ h)

pub sums-next : (xs : List ℕ) (at n a b total : ℕ) → sum_of_sums a b (drop at xs) % 65521 ≡ total
    → sum_of_sums (byte_sum a (slice_range xs at (at + n)) % 65521) (sum_of_sums a b (slice_range xs at (at + n)) % 65521) (drop (at + n) xs) % 65521 ≡ total
sums-next xs at n a b total h =
    sums-on (slice_range xs at (at + n)) (drop (at + n) xs) a b
    ∙ (ap (λ ys. sum_of_sums a b ys % 65521) (sym (drop_split xs at (at + n) (omega arith))) ∙ h)

-- the sums of bytes and then of others
pub sums-more : (s t : Sums) (xs ys : List ℕ) → AreSums s xs → t.bytes ≡ byte_sum s.bytes ys % 65521
    → t.sums ≡ sum_of_sums s.bytes s.sums ys % 65521 → AreSums t (xs ++ ys)
sums-more s t xs ys h bytes sums = (
  bytes ∙ (ap (λ n. byte_sum n ys % 65521) h.0 ∙ bytes-on xs ys 1),
  sums
      ∙ (ap (λ n. sum_of_sums n s.sums ys % 65521) h.0
      ∙ (ap (λ n. sum_of_sums (byte_sum 1 xs % 65521) n ys % 65521) h.1 ∙ sums-on xs ys 1 0)),
)
