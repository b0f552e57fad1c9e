use Rattle.std.proofs.Common.{◌≡◌, ℕ, suc, ◌+◌, ◌-◌, ◌*◌, ◌/◌, ◌%◌, ◌^◌, ◌<◌, ◌≤◌, Bool, true, false, List, [], ◌∷◌, ◌++◌, length, map, take, drop, get_or, replicate, refl, sym, ap, ◌∙◌, arith}
use Rattle.std.specs.List.{flat_map}
use Rattle.std.proofs.lemmas.List.{append_assoc, append-nil, replicate-append-replicate}
use Rattle.std.proofs.lemmas.Nat.{pow_pos, pow-add, mul-le, mod_below}
use Rattle.ff_bits.specs.Bits.{bits_of}
use Rattle.ff_bits.proofs.BitsOf.{bits_of-add, bits_of-zeros, bits_of-mod}
use Rattle.ff_flac_subframe.specs.rice.Rice.{rice_bits, rice_length, partition_bits, partitions_bits, best_k, best_at, residual_bits, parts_of, pieces}
use Rattle.ff_flac_subframe.proofs.RiceLemmas.PartLemmas.{pieces-suc, parts_of-is}

bit_one : bits_of 1 1 ≡ true ∷ []
unfolding bits_of
bit_one = refl

unary : (q : ℕ) → bits_of (q + 1) 1 ≡ replicate q false ++ (true ∷ [])
unary q =
    let e : 0 * 2 ^ 1 + 1 ≡ 1 = omega arith in
    let l : 1 < 2 ^ 1 = omega arith in
    ap (bits_of (q + 1)) (sym e) ∙ bits_of-add q 1 0 1 l ∙ ap (λ b. b ++ bits_of 1 1) (bits_of-zeros q) ∙ ap (λ b. replicate q false ++ b) bit_one

-- a value under a parameter is one number
rice-is : (k u : ℕ) → rice_bits k u ≡ bits_of (u / 2 ^ k + (1 + k)) (2 ^ k + u % 2 ^ k)
unfolding rice_bits
rice-is k u =
    let q : ℕ = u / 2 ^ k in
    let r : ℕ = u % 2 ^ k in
    let below : r < 2 ^ k = mod_below u (2 ^ k) (pow_pos k) in
    let width : q + 1 + k ≡ q + (1 + k) = omega arith in
    let value : 1 * 2 ^ k + r ≡ 2 ^ k + r = omega arith in
    sym (ap (λ n. bits_of n (2 ^ k + r)) (sym width)
    ∙ ap (bits_of (q + 1 + k)) (sym value)
    ∙ bits_of-add (q + 1) k 1 r below
    ∙ ap (λ b. b ++ bits_of k r) (unary q)
    ∙ append_assoc (replicate q false) (true ∷ []) (bits_of k r)
    ∙ ap (λ b. replicate q false ++ (true ∷ b)) (sym (bits_of-mod k u)))

-- its two parts
rice-parts : (k u : ℕ) → rice_bits k u ≡ replicate (u / 2 ^ k) false ++ bits_of (1 + k) (2 ^ k + u % 2 ^ k)
unfolding rice_bits
rice-parts k u =
    let r : ℕ = u % 2 ^ k in
    let below : r < 2 ^ k = mod_below u (2 ^ k) (pow_pos k) in
    let value : 1 * 2 ^ k + r ≡ 2 ^ k + r = omega arith in
    ap (λ b. replicate (u / 2 ^ k) false ++ b)
    (sym (ap (bits_of (1 + k)) (sym value) ∙ bits_of-add 1 k 1 r below ∙ ap (λ b. b ++ bits_of k r) bit_one ∙ ap (λ b. true ∷ b) (sym (bits_of-mod k u))))

pub ending_below : (q k r : ℕ) → r < 2 ^ k → 2 ^ k + r < 2 ^ (q + (1 + k))
ending_below q k r h =
    let one : 1 ≤ 2 ^ q = pow_pos q in
    let more : 1 * 2 ^ (1 + k) ≤ 2 ^ q * 2 ^ (1 + k) = mul-le 1 (2 ^ (1 + k)) (2 ^ q) (2 ^ (1 + k)) one (omega arith) in
    omega (arith, h, more, pow-add 2 q (1 + k), pow-add 2 1 k)

-- a number that is a value's, of so many bits
pub code_below : (k u ending count : ℕ) → ending ≡ 2 ^ k + u % 2 ^ k → count ≡ rice_length k u → ending < 2 ^ count
code_below k u ending count e n = rw (e, n) (ending_below (u / 2 ^ k) k (u % 2 ^ k) (mod_below u (2 ^ k) (pow_pos k)))

pub code-is : (k u ending count : ℕ) → ending ≡ 2 ^ k + u % 2 ^ k → count ≡ rice_length k u → bits_of count ending ≡ rice_bits k u
code-is k u ending count e n = ap (bits_of count) e ∙ ap (λ m. bits_of m (2 ^ k + u % 2 ^ k)) n ∙ sym (rice-is k u)

pub code_end : (k u ending count : ℕ) (out next : List Bool) → ending ≡ 2 ^ k + u % 2 ^ k → count ≡ rice_length k u
    → next ≡ out ++ bits_of count ending → next ≡ out ++ rice_bits k u
code_end k u ending count out next e n h = h ∙ ap (λ b. out ++ b) (code-is k u ending count e n)

pub both-are : (k a b first m second n value : ℕ) → first ≡ 2 ^ k + a % 2 ^ k → m ≡ rice_length k a → second ≡ 2 ^ k + b % 2 ^ k → n ≡ rice_length k b
    → bits_of (m + n) value ≡ bits_of m first ++ bits_of n second → bits_of (rice_length k a + rice_length k b) value ≡ rice_bits k a ++ rice_bits k b
both-are k a b first m second n value e p f q h =
    let width : rice_length k a + rice_length k b ≡ m + n = omega (arith, p, q) in
    ap (λ w. bits_of w value) width ∙ h ∙ ap (λ l. l ++ bits_of n second) (code-is k a first m e p) ∙ ap (λ l. rice_bits k a ++ l) (code-is k b second n f q)

pub long_end : (k u ending : ℕ) (out zeros next : List Bool) → ending ≡ 2 ^ k + u % 2 ^ k → zeros ≡ out ++ replicate (u / 2 ^ k) false
    → next ≡ zeros ++ bits_of (1 + k) ending → next ≡ out ++ rice_bits k u
long_end k u ending out zeros next e z h =
    h ∙ ap (λ l. l ++ bits_of (1 + k) ending) z
    ∙ ap (λ v. (out ++ replicate (u / 2 ^ k) false) ++ bits_of (1 + k) v) e
    ∙ append_assoc out (replicate (u / 2 ^ k) false) (bits_of (1 + k) (2 ^ k + u % 2 ^ k))
    ∙ ap (λ l. out ++ l) (sym (rice-parts k u))

pub zeros_step : (out next end : List Bool) (some left rest : ℕ) → some + rest ≡ left → next ≡ out ++ bits_of some 0 → out ++ replicate left false ≡ end → next ++ replicate rest false ≡ end
zeros_step out next end some left rest e n h =
    ap (λ b. b ++ replicate rest false) (n ∙ ap (λ b. out ++ b) (bits_of-zeros some))
    ∙ append_assoc out (replicate some false) (replicate rest false)
    ∙ ap (λ b. out ++ b) (replicate-append-replicate some rest false ∙ ap (λ m. replicate m false) e)
    ∙ h

-- four values of the rest
pub four_step : (k : ℕ) (rest four after : List ℕ) (out next end : List Bool) → 4 ≤ length rest → four ≡ take 4 rest → after ≡ drop 4 rest
    → next ≡ out ++ rice_bits k (get_or four 0 0) ++ rice_bits k (get_or four 1 0) ++ rice_bits k (get_or four 2 0) ++ rice_bits k (get_or four 3 0)
    → out ++ flat_map (rice_bits k) rest ≡ end → next ++ flat_map (rice_bits k) after ≡ end
four_step k [] four after out next end h f g n e = absurd (omega (arith, h))
four_step k (a ∷ []) four after out next end h f g n e = absurd (omega (arith, h))
four_step k (a ∷ b ∷ []) four after out next end h f g n e = absurd (omega (arith, h))
four_step k (a ∷ b ∷ c ∷ []) four after out next end h f g n e = absurd (omega (arith, h))
four_step k (a ∷ b ∷ c ∷ d ∷ more) four after out next end h f g n e =
    let R : ℕ → List Bool = rice_bits k in
    let F : List Bool = flat_map R more in
    ap (λ l. l ++ flat_map R after) (n ∙ ap (λ l. out ++ R (get_or l 0 0) ++ R (get_or l 1 0) ++ R (get_or l 2 0) ++ R (get_or l 3 0)) f)
    ∙ ap (λ l. (out ++ R a ++ R b ++ R c ++ R d) ++ flat_map R l) g
    ∙ append_assoc (out ++ R a ++ R b ++ R c) (R d) F
    ∙ append_assoc (out ++ R a ++ R b) (R c) (R d ++ F)
    ∙ append_assoc (out ++ R a) (R b) (R c ++ (R d ++ F))
    ∙ append_assoc out (R a) (R b ++ (R c ++ (R d ++ F)))
    ∙ e

abbrev pub part_bits : ℕ → List ℕ → List Bool
part_bits method part = partition_bits (4 + method) (best_k method part) part

pub partitions-best : (method : ℕ) (parts : List (List ℕ)) → partitions_bits (4 + method) (map (best_k method) parts) parts ≡ flat_map (part_bits method) parts
unfolding partitions_bits
partitions-best method [] = refl
partitions-best method (part ∷ parts) = ap (λ b. part_bits method part ++ b) (partitions-best method parts)

pub partition-is : (width k : ℕ) (us : List ℕ) → partition_bits width k us ≡ bits_of width k ++ flat_map (rice_bits k) us
unfolding partition_bits
partition-is width k us = refl

pub residual-is : (order method partition_order : ℕ) (us : List ℕ)
    → residual_bits order (best_at order method partition_order us) us ≡ bits_of 2 method ++ bits_of 4 partition_order ++ flat_map (part_bits method) (parts_of order partition_order us)
unfolding residual_bits
residual-is order method partition_order us = ap (λ b. bits_of 2 method ++ bits_of 4 partition_order ++ b) (partitions-best method (parts_of order partition_order us))

-- the loop over the partitions
pub parts_start : (order method partition_order : ℕ) (us first rest : List ℕ) (out a b c : List Bool)
    → first ≡ take ((length us + order) / 2 ^ partition_order - order) us → rest ≡ drop ((length us + order) / 2 ^ partition_order - order) us
    → a ≡ out ++ bits_of 2 method → b ≡ a ++ bits_of 4 partition_order → c ≡ b ++ part_bits method first
    → c ++ flat_map (part_bits method) (pieces (2 ^ partition_order - 1) ((length us + order) / 2 ^ partition_order) rest) ≡ out ++ residual_bits order (best_at order method partition_order us) us
parts_start order method partition_order us first rest out a b c f r ea eb ec =
    let size : ℕ = (length us + order) / 2 ^ partition_order in
    let F : List ℕ → List Bool = part_bits method in
    let tail : List Bool = flat_map F (pieces (2 ^ partition_order - 1) size (drop (size - order) us)) in
    let head : List Bool = F (take (size - order) us) in
    let two : List Bool = bits_of 2 method in
    let four : List Bool = bits_of 4 partition_order in
    ap (λ l. c ++ flat_map F (pieces (2 ^ partition_order - 1) size l)) r
    ∙ ap (λ l. l ++ tail) (ec ∙ ap (λ l. l ++ F first) (eb ∙ ap (λ l. l ++ four) ea) ∙ ap (λ l. ((out ++ two) ++ four) ++ F l) f)
    ∙ append_assoc ((out ++ two) ++ four) head tail
    ∙ ap (λ l. l ++ (head ++ tail)) (append_assoc out two four)
    ∙ append_assoc out (two ++ four) (head ++ tail)
    ∙ ap (λ l. out ++ l) (sym (residual-is order method partition_order us ∙ ap (λ l. (two ++ four) ++ flat_map F l) (parts_of-is order partition_order us size refl)))

pub parts_step : (method size left m : ℕ) (rest part after : List ℕ) (out more end : List Bool) → left ≡ suc m → part ≡ take size rest → after ≡ drop size rest
    → more ≡ out ++ part_bits method part → out ++ flat_map (part_bits method) (pieces left size rest) ≡ end → more ++ flat_map (part_bits method) (pieces m size after) ≡ end
parts_step method size left m rest part after out more end e p a g h =
    let F : List ℕ → List Bool = part_bits method in
    ap (λ l. l ++ flat_map F (pieces m size after)) g
    ∙ append_assoc out (F part) (flat_map F (pieces m size after))
    ∙ ap (λ l. out ++ (F l ++ flat_map F (pieces m size after))) p
    ∙ ap (λ l. out ++ (F (take size rest) ++ flat_map F (pieces m size l))) a
    ∙ ap (λ l. out ++ flat_map F l) (sym (ap (λ n. pieces n size rest) e ∙ pieces-suc m size rest))
    ∙ h

pub parts_end : (method size left : ℕ) (rest : List ℕ) (out end : List Bool) → left ≡ 0 → out ++ flat_map (part_bits method) (pieces left size rest) ≡ end → out ≡ end
unfolding pieces
parts_end method size left rest out end e h =
    sym (append-nil out) ∙ ap (λ n. out ++ flat_map (part_bits method) (pieces n size rest)) (sym e) ∙ h

pub part_end : (out next last : List Bool) (method k : ℕ) (part : List ℕ) → k ≡ best_k method part
    → next ≡ out ++ bits_of (4 + method) k → last ≡ next ++ flat_map (rice_bits k) part → last ≡ out ++ part_bits method part
part_end out next last method k part e a b =
    b ∙ ap (λ bits. bits ++ flat_map (rice_bits k) part) a
    ∙ append_assoc out (bits_of (4 + method) k) (flat_map (rice_bits k) part)
    ∙ ap (λ bits. out ++ bits) (sym (partition-is (4 + method) k part))
    ∙ ap (λ m. out ++ partition_bits (4 + method) m part) e
