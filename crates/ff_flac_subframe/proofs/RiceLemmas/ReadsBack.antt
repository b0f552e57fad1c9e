-- A reader of the grammar takes what was written, one piece after the other.
use Rattle.std.proofs.Common.{◌≡◌, ℕ, ◌+◌, ◌^◌, ◌<◌, ◌≤◌, Bool, true, false, cond, List, [], ◌∷◌, ◌++◌, length, map, take, drop, refl, sym, ap, subst, ◌∙◌, arith, length-append, append_assoc}
use Rattle.std.specs.Prelude.{replicate}
use Rattle.std.specs.List.{flat_map, AllByRecursion}
use Rattle.std.proofs.lemmas.Bool.{lt-ltb}
use Rattle.std.proofs.lemmas.List.{take_at, drop_at}
use Rattle.std.proofs.Math.Nat.{mod-eq_of_lt}
use Rattle.ff_bits.specs.Bits.{bits_of, value_of}
use Rattle.ff_bits.specs.Reading.{Reader, Done, Bad, ◌>>=◌, on, give, field, zeros, zeros_from, times}
use Rattle.ff_bits.proofs.BitsLemmas.{length-bits_of}
use Rattle.ff_bits.proofs.Words.{value_of-bits_of}
use Rattle.ff_bits.proofs.LimitedZeros.{zeros_past}
use Rattle.ff_flac_frame.proofs.FieldLemmas.{took}
use Rattle.ff_flac_subframe.specs.laws.rice.Spells.{Reads}

pub reads-give : {A : Type 0} (a : A) → Reads (give a) [] a
reads-give a rest = refl

pub reads-then : {A B : Type 0} (r : Reader A) (f : A → Reader B) (xs ys : List Bool) (a : A) (b : B) → Reads r xs a → Reads (f a) ys b → Reads (r >>= f) (xs ++ ys) b
reads-then r f xs ys a b h g rest =
    ap (λ (l : List Bool). (r >>= f) l) (append_assoc xs ys rest) ∙ ap (λ an. on an f) (h (ys ++ rest)) ∙ g rest

pub reads-map : {A B : Type 0} (r : Reader A) (f : A → B) (xs : List Bool) (a : A) → Reads r xs a → Reads (r >>= λ x. give (f x)) xs (f a)
reads-map r f xs a h rest = ap (λ an. on an (λ x. give (f x))) (h rest)

-- other names of the same
pub reads-bits : {A : Type 0} (r : Reader A) (xs ys : List Bool) (a : A) → ys ≡ xs → Reads r xs a → Reads r ys a
reads-bits r xs ys a e h = subst (λ l. Reads r l a) (sym e) h

pub reads-value : {A : Type 0} (r : Reader A) (xs : List Bool) (a b : A) → a ≡ b → Reads r xs a → Reads r xs b
reads-value r xs a b e h = subst (Reads r xs) e h

pub reads-if_false : {A : Type 0} (b : Bool) (r s : Reader A) (xs : List Bool) (a : A) → b ≡ false → Reads s xs a → Reads (cond b r s) xs a
reads-if_false b r s xs a e h = subst (λ c. Reads (cond c r s) xs a) (sym e) h

pub reads-if_true : {A : Type 0} (b : Bool) (r s : Reader A) (xs : List Bool) (a : A) → b ≡ true → Reads r xs a → Reads (cond b r s) xs a
reads-if_true b r s xs a e h = subst (λ c. Reads (cond c r s) xs a) (sym e) h

pub reads-field : (n : ℕ) (p : ℕ → Bool) (v : ℕ) → v < 2 ^ n → p v ≡ true → Reads (field n p) (bits_of n v) v
reads-field n p v lt h rest =
    let bs : List Bool = bits_of n v ++ rest in
    let t : take n bs ≡ bits_of n v = take_at (bits_of n v) rest n (length-bits_of n v) in
    let d : drop n bs ≡ rest = drop_at (bits_of n v) rest n (length-bits_of n v) in
    let le : n ≤ length bs = omega (arith, length-append (bits_of n v) rest, length-bits_of n v) in
    let v-is : v ≡ value_of (take n bs) = sym (ap value_of t ∙ value_of-bits_of n v ∙ mod-eq_of_lt lt) in
    took n p bs v rest le v-is (sym d) h

pub reads-zeros : (limit q : ℕ) → q < limit → Reads (zeros limit) (replicate q false ++ (true ∷ [])) q
reads-zeros limit q h rest =
    let e : 0 + q ≡ q = omega arith in
    ap (zeros limit) (append_assoc (replicate q false) (true ∷ []) rest)
    ∙ zeros_past limit 0 q (true ∷ rest) (omega arith)
    ∙ ap (λ (k : ℕ). zeros_from limit k (true ∷ rest)) e
    ∙ ap (λ b. cond b (Done q rest) Bad) (lt-ltb q limit h)

pub reads-times : {A B : Type 0} (r : Reader B) (code : A → List Bool) (value : A → B) (xs : List A)
    → AllByRecursion (λ x. Reads r (code x) (value x)) xs → Reads (times (length xs) r) (flat_map code xs) (map value xs)
reads-times r code value [] h = λ rest. refl
reads-times {A} {B} r code value (x ∷ xs) h =
    reads-then r (λ a. times (length xs) r >>= λ others. give (a ∷ others)) (code x) (flat_map code xs) (value x) (value x ∷ map value xs) h.0
    (reads-map (times (length xs) r) (λ others. value x ∷ others) (flat_map code xs) (map value xs) (reads-times r code value xs h.1))
