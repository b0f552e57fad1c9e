-- Numbers of so many bytes, in both orders.
use Rattle.std.proofs.Common.{◌≡◌, ℕ, zero, suc, ◌+◌, ◌*◌, ◌/◌, ◌%◌, ◌^◌, ◌<◌, ◌⊎◌, inl, inr, List, [], ◌∷◌, ◌++◌, length, get_or, refl, ap, ◌∙◌, append_assoc, arith, length-append, All}
use Rattle.std.proofs.lemmas.List.{get_or-append-add}
use Rattle.std.proofs.lemmas.List.Elements.{All-append, All-cons, All-nil}
use Rattle.std.proofs.lemmas.Nat.{div_below}
use Rattle.ff_frame.specs.Codecs.{depth_bytes}
use Rattle.ff_frame.specs.declared.coding.ByteOrder.{ByteOrder}
use Rattle.ff_frame.specs.declared.coding.ByteOrder.TheVariants.{LittleEndian, BigEndian}
use Rattle.ff_frame.specs.declared.coding.PcmDepth.{PcmDepth}
use Rattle.ff_frame.specs.declared.coding.PcmDepth.TheVariants.{Bits8, Bits16, Bits24, Bits32}
use Rattle.ff_bits.specs.Integers.{number_bytes}
use Rattle.ff_pcm.specs.Bytes.{high_bytes, bytes_in}
use Rattle.ff_pcm.specs.Samples.{number, high_number, number_in}

abbrev pub AreBytes : List ℕ → Type 0
AreBytes bytes = (i : ℕ) → get_or bytes i 0 < 256

-- so many bytes count as far as so many bits
pub same_powers : (bits : PcmDepth) → 256 ^ depth_bytes bits ≡ 2 ^ (8 * depth_bytes bits)
same_powers Bits8 = omega arith
same_powers Bits16 = omega arith
same_powers Bits24 = omega arith
same_powers Bits32 = omega arith

-- ---- how far they count

low_below : (count place : ℕ) (bs : List ℕ) → AreBytes bs → number count place bs < 256 ^ count
low_below zero place bs s = omega arith
low_below (suc count) place bs s = omega (arith, s place, low_below count (place + 1) bs s)

high_below : (count place : ℕ) (bs : List ℕ) → AreBytes bs → high_number count place bs < 256 ^ count
high_below zero place bs s = omega arith
high_below (suc count) place bs s = omega (arith, s (place + count), high_below count place bs s)

pub number_below : (order : ByteOrder) (count place : ℕ) (bs : List ℕ) → AreBytes bs → number_in order count place bs < 256 ^ count
number_below LittleEndian count place bs s = low_below count place bs s
number_below BigEndian count place bs s = high_below count place bs s

-- ---- they tell their bytes

digit_apart : (x y m n : ℕ) → x < 256 → y < 256 → x + 256 * m ≡ y + 256 * n → (x ≡ y) × (m ≡ n)
digit_apart x y m n lx ly e = (omega arith, omega arith)

low_apart : (count place : ℕ) (a b : List ℕ) → AreBytes a → AreBytes b → number count place a ≡ number count place b → (r : ℕ) → r < count → get_or a (place + r) 0 ≡ get_or b (place + r) 0
low_apart zero place a b sa sb e r lt = absurd (omega arith)
low_apart (suc count) place a b sa sb e zero lt =
    let f : place + 0 ≡ place = omega arith in
    rw f ((digit_apart (get_or a place 0) (get_or b place 0) (number count (place + 1) a) (number count (place + 1) b) (sa place) (sb place) e).0)
low_apart (suc count) place a b sa sb e (suc r) lt =
    let f : place + suc r ≡ (place + 1) + r = omega arith in
    let g = (digit_apart (get_or a place 0) (get_or b place 0) (number count (place + 1) a) (number count (place + 1) b) (sa place) (sb place) e).1 in
    rw f (low_apart count (place + 1) a b sa sb g r (omega arith))

pub here_or_before : (k i : ℕ) → k < i + 1 → (k ≡ i) ⊎ (k < i)
here_or_before zero zero lt = inl refl
here_or_before zero (suc i) lt = inr (omega arith)
here_or_before (suc k) zero lt = absurd (omega arith)
here_or_before (suc k) (suc i) lt = elim (here_or_before k i (omega (arith, lt))) [ inl e ↦ inl (ap suc e) | inr less ↦ inr (omega (arith, less)) ]

high_apart : (count place : ℕ) (a b : List ℕ) → AreBytes a → AreBytes b → high_number count place a ≡ high_number count place b → (r : ℕ) → r < count → get_or a (place + r) 0 ≡ get_or b (place + r) 0
high_apart zero place a b sa sb e r lt = absurd (omega arith)
high_apart (suc count) place a b sa sb e r lt =
    let two = digit_apart (get_or a (place + count) 0) (get_or b (place + count) 0) (high_number count place a) (high_number count place b) (sa (place + count)) (sb (place + count)) (omega (arith, e)) in
    elim (here_or_before r count (omega (arith, lt))) [ inl s ↦ rw s (two.0) | inr s ↦ high_apart count place a b sa sb two.1 r s ]

pub number_apart : (order : ByteOrder) (count place : ℕ) (a b : List ℕ) → AreBytes a → AreBytes b → number_in order count place a ≡ number_in order count place b → (r : ℕ) → r < count → get_or a (place + r) 0 ≡ get_or b (place + r) 0
number_apart LittleEndian count place a b sa sb e r lt = low_apart count place a b sa sb e r lt
number_apart BigEndian count place a b sa sb e r lt = high_apart count place a b sa sb e r lt

-- ---- behind other bytes they are the same

low_skip : (ys bs : List ℕ) (count place : ℕ) → number count (length ys + place) (ys ++ bs) ≡ number count place bs
low_skip ys bs zero place = refl
low_skip ys bs (suc count) place =
    let here : get_or (ys ++ bs) (length ys + place) 0 ≡ get_or bs place 0 = get_or-append-add ys bs place 0 in
    let e : (length ys + place) + 1 ≡ length ys + (place + 1) = omega arith in
    let there : number count ((length ys + place) + 1) (ys ++ bs) ≡ number count (place + 1) bs = ap (λ (n : ℕ). number count n (ys ++ bs)) e ∙ low_skip ys bs count (place + 1) in
    omega (arith, here, there)

high_skip : (ys bs : List ℕ) (count place : ℕ) → high_number count (length ys + place) (ys ++ bs) ≡ high_number count place bs
high_skip ys bs zero place = refl
high_skip ys bs (suc count) place =
    let e : (length ys + place) + count ≡ length ys + (place + count) = omega arith in
    let here : get_or (ys ++ bs) ((length ys + place) + count) 0 ≡ get_or bs (place + count) 0 = ap (λ (n : ℕ). get_or (ys ++ bs) n 0) e ∙ get_or-append-add ys bs (place + count) 0 in
    let there = high_skip ys bs count place in
    omega (arith, here, there)

pub number_skip : (order : ByteOrder) (ys bs : List ℕ) (count place : ℕ) → number_in order count (length ys + place) (ys ++ bs) ≡ number_in order count place bs
number_skip LittleEndian ys bs count place = low_skip ys bs count place
number_skip BigEndian ys bs count place = high_skip ys bs count place

-- ---- the bytes of a number

low_length : (count n : ℕ) → length (number_bytes count n) ≡ count
low_length zero n = refl
low_length (suc count) n = omega (arith, low_length count (n / 256))

high_length : (count n : ℕ) → length (high_bytes count n) ≡ count
high_length zero n = refl
high_length (suc count) n = length-append (high_bytes count (n / 256)) (n % 256 ∷ []) ∙ omega (arith, high_length count (n / 256))

pub number_length : (order : ByteOrder) (count n : ℕ) → length (bytes_in order count n) ≡ count
number_length LittleEndian count n = low_length count n
number_length BigEndian count n = high_length count n

low_are_bytes : (count n : ℕ) → All (λ b. b < 256) (number_bytes count n)
low_are_bytes zero n = All-nil (λ b. b < 256)
low_are_bytes (suc count) n = All-cons (λ b. b < 256) (n % 256) (number_bytes count (n / 256)) (omega arith) (low_are_bytes count (n / 256))

high_are_bytes : (count n : ℕ) → All (λ b. b < 256) (high_bytes count n)
high_are_bytes zero n = All-nil (λ b. b < 256)
high_are_bytes (suc count) n =
    All-append (λ b. b < 256) (high_bytes count (n / 256)) (n % 256 ∷ []) (high_are_bytes count (n / 256)) (All-cons (λ b. b < 256) (n % 256) [] (omega arith) (All-nil (λ b. b < 256)))

pub number_are_bytes : (order : ByteOrder) (count n : ℕ) → All (λ b. b < 256) (bytes_in order count n)
number_are_bytes LittleEndian count n = low_are_bytes count n
number_are_bytes BigEndian count n = high_are_bytes count n

low_front : (count n : ℕ) (bs : List ℕ) → n < 256 ^ count → number count 0 (number_bytes count n ++ bs) ≡ n
low_front zero n bs lt = omega (arith, lt)
low_front (suc count) n bs lt =
    let below : n / 256 < 256 ^ count = div_below n 256 (256 ^ count) (omega arith) (omega (arith, lt)) in
    let rest : number count 1 (n % 256 ∷ (number_bytes count (n / 256) ++ bs)) ≡ n / 256 =
    low_skip (n % 256 ∷ []) (number_bytes count (n / 256) ++ bs) count 0 ∙ low_front count (n / 256) bs below in
    omega (arith, rest)

high_front : (count n : ℕ) (bs : List ℕ) → n < 256 ^ count → high_number count 0 (high_bytes count n ++ bs) ≡ n
high_front zero n bs lt = omega (arith, lt)
high_front (suc count) n bs lt =
    let below : n / 256 < 256 ^ count = div_below n 256 (256 ^ count) (omega arith) (omega (arith, lt)) in
    let front : List ℕ = high_bytes count (n / 256) in
    let same : (front ++ (n % 256 ∷ [])) ++ bs ≡ front ++ (n % 256 ∷ bs) = append_assoc front (n % 256 ∷ []) bs in
    let e : 0 + count ≡ length front + 0 = omega (arith, high_length count (n / 256)) in
    let last : get_or ((front ++ (n % 256 ∷ [])) ++ bs) (0 + count) 0 ≡ n % 256 =
    ap (λ (l : List ℕ). get_or l (0 + count) 0) same ∙ (ap (λ (k : ℕ). get_or (front ++ (n % 256 ∷ bs)) k 0) e ∙ get_or-append-add front (n % 256 ∷ bs) 0 0) in
    let rest : high_number count 0 ((front ++ (n % 256 ∷ [])) ++ bs) ≡ n / 256 = ap (λ (l : List ℕ). high_number count 0 l) same ∙ high_front count (n / 256) (n % 256 ∷ bs) below in
    omega (arith, last, rest)

-- they write it
pub number_front : (order : ByteOrder) (count n : ℕ) (bs : List ℕ) → n < 256 ^ count → number_in order count 0 (bytes_in order count n ++ bs) ≡ n
number_front LittleEndian count n bs lt = low_front count n bs lt
number_front BigEndian count n bs lt = high_front count n bs lt
