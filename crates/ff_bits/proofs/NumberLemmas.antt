-- The coded numbers that are read byte by byte are the coded numbers.
use Rattle.std.proofs.Common.{◌≡◌, ℕ, zero, suc, ◌+◌, ◌-◌, ◌*◌, ◌/◌, ◌%◌, ◌^◌, ◌<◌, ◌≤◌, Bool, true, false, ltb, leb, ◌&&◌, List, [], ◌∷◌, ◌++◌, refl, sym, ap, subst, ◌∙◌, append_assoc, inl, inr, arith}
use Rattle.std.proofs.lemmas.Nat.{pow-add, shr-shr, mod_below, shr_split, pow_pos, mul-add-lt}
use Rattle.std.proofs.lemmas.Bool.{ltb-true, lt-ltb, le-leb, leb-true, or_cases, and_parts, or_right, and_from}
use Rattle.ff_bits.specs.Bits.{bits_of}
use Rattle.ff_bits.specs.Number.{further_bytes, capacity, code_with}
use Rattle.ff_bits.specs.Reading.{Answer, Done, on}
use Rattle.ff_bits.specs.NumberGrammar.{is_within, follow, opened, first, further, sixes, coded}
use Rattle.ff_bits.proofs.BitsOf.{bits_of-mod}
use Rattle.ff_bits.proofs.Sound.{IsSound, IsSound-give, IsSound-chain, IsSound-field, done_of}
use Rattle.ff_bits.proofs.OneByte.{some-within, field-byte, byte-field}
use Rattle.ff_bits.proofs.FirstByte.{mark, room, IsOpening, opening, first_is, written_as, first_bits, high_part, room-capacity, opened_by}

-- ---- the further bytes

pub six : (w : ℕ) → true ∷ false ∷ bits_of 6 w ≡ bits_of 8 (128 + w % 64)
unfolding bits_of
six w =
    let small : w % 64 < 2 ^ 6 = omega arith in
    let e : 128 + w % 64 ≡ 2 * 2 ^ 6 + w % 64 = omega arith in
    let low : bits_of 6 w ≡ bits_of 6 (w % 64) = bits_of-mod 6 w in
    ap (λ (ys : List Bool). true ∷ false ∷ ys) low ∙ written_as 2 6 2 (w % 64) (128 + w % 64) (true ∷ false ∷ []) small e refl

pub high_part-suc : (k v : ℕ) → high_part (suc k) v ≡ high_part k v / 64
high_part-suc k v = let e : 6 * suc k ≡ 6 * k + 6 = omega arith in ap (λ (j : ℕ). v / 2 ^ j) e ∙ sym (shr-shr v (6 * k) 6)

sixes-forward : (k v : ℕ) (rest : List Bool) → sixes k (high_part k v) (further_bytes k v ++ rest) ≡ Done v rest
unfolding sixes further_bytes
sixes-forward zero v rest = let e : v / 2 ^ (6 * 0) ≡ v = omega arith in ap (λ (x : ℕ). Done x rest) e
sixes-forward (suc k) v rest =
    let w : ℕ = high_part k v in
    let b : ℕ = 128 + w % 64 in
    let more : List Bool = further_bytes k v ++ rest in
    let text : further_bytes (suc k) v ++ rest ≡ bits_of 8 b ++ more = ap (λ (ys : List Bool). (ys ++ further_bytes k v) ++ rest) (six w) ∙ append_assoc (bits_of 8 b) (further_bytes k v) rest in
    let pass : is_within 0 128 192 b ≡ true = or_right (ltb b 0) (ltb b 192 && leb 128 b) (and_from (ltb b 192) (leb 128 b) (lt-ltb b 192 (omega arith)) (le-leb 128 b (omega arith))) in
    let got = field-byte (is_within 0 128 192) b more (omega arith) pass in
    let next : high_part (suc k) v * 64 + (b - 128) ≡ w = let e = high_part-suc k v in omega arith in
    ap (λ (xs : List Bool). on (further xs) (λ byte. sixes k (high_part (suc k) v * 64 + (byte - 128)))) text
    ∙ ap (λ (a : Answer ℕ). on a (λ byte. sixes k (high_part (suc k) v * 64 + (byte - 128)))) got
    ∙ ap (λ (x : ℕ). sixes k x more) next ∙ sixes-forward k v rest

sixes-backward : (k u v : ℕ) (xs rest : List Bool) → sixes k u xs ≡ Done v rest → (xs ≡ further_bytes k v ++ rest) × (high_part k v ≡ u)
unfolding sixes further_bytes
sixes-backward zero u v xs rest e = (cc, (let k : v / 2 ^ (6 * 0) ≡ v = omega arith in k ∙ cc))
sixes-backward (suc k) u v xs rest e =
    let d = done_of further (λ byte. sixes k (u * 64 + (byte - 128))) xs v rest e in
    let b : ℕ = d.0 in
    let f = byte-field (is_within 0 128 192) xs b d.1 d.2 in
    let p = elim (or_cases (ltb b 0) (ltb b 192 && leb 128 b) f.1) as (λ _. (b < 192) × (128 ≤ b)) [
      | inl h ↦ absurd (let l : b < 0 = ltb-true b 0 h in omega arith)
      | inr h ↦ let q = and_parts (ltb b 192) (leb 128 b) h in (ltb-true b 192 q.0, leb-true 128 b q.1)
    ] in
    let below = p.0 in
    let above = p.1 in
    let i = sixes-backward k (u * 64 + (b - 128)) v d.1 rest d.3 in
    let w : ℕ = high_part k v in
    let w-is : w ≡ u * 64 + (b - 128) = i.1 in
    let b-is : 128 + w % 64 ≡ b = omega arith in
    let top : high_part (suc k) v ≡ u = high_part-suc k v ∙ omega arith in
    let text : true ∷ false ∷ bits_of 6 w ≡ bits_of 8 b = six w ∙ ap (bits_of 8) b-is in
    (f.0 ∙ ap (λ (ys : List Bool). bits_of 8 b ++ ys) i.0 ∙ sym (ap (λ (ys : List Bool). (ys ++ further_bytes k v) ++ rest) text ∙ append_assoc (bits_of 8 b) (further_bytes k v) rest), top)

pub coded-forward : (k v : ℕ) (rest : List Bool) → k ≤ 6 → v < 2 ^ capacity k → coded (code_with k v ++ rest) ≡ Done v rest
unfolding coded
coded-forward k v rest h l =
    let b : ℕ = mark k + high_part k v in
    let o = opened_by k v h l in
    let f = first_is b k (high_part k v) o in
    let more : List Bool = further_bytes k v ++ rest in
    let text : code_with k v ++ rest ≡ bits_of 8 b ++ more = ap (λ (ys : List Bool). (ys ++ further_bytes k v) ++ rest) (first_bits b k v o) ∙ append_assoc (bits_of 8 b) (further_bytes k v) rest in
    let got = field-byte (is_within 0x80 0xc0 0xff) b more f.1 f.0 in
    ap (λ (xs : List Bool). on (first xs) (λ byte. sixes (follow byte) (opened byte))) text
    ∙ ap (λ (a : Answer ℕ). on a (λ byte. sixes (follow byte) (opened byte))) got
    ∙ ap (λ (j : ℕ). sixes j (opened b) more) f.2 ∙ ap (λ (x : ℕ). sixes k x more) f.3 ∙ sixes-forward k v rest

-- a value behind its first byte
pub value_small : (b v : ℕ) (ys rest : List Bool) → is_within 0x80 0xc0 0xff b ≡ true → sixes (follow b) (opened b) ys ≡ Done v rest → v < 2 ^ capacity (follow b)
value_small b v ys rest p e =
    let o = opening b p in
    let k : ℕ = follow b in
    let i = sixes-backward k (opened b) v ys rest e in
    let o2 : IsOpening b k (high_part k v) = subst (λ (x : ℕ). IsOpening b k x) (sym i.1) o in
    subst (λ (j : ℕ). v < 2 ^ j) (sym (room-capacity k o.few)) (from_high_part v (room k) (6 * k) o2.small)
  where
    from_high_part : (v a b : ℕ) → v / 2 ^ b < 2 ^ a → v < 2 ^ (a + b)
    from_high_part v a b h = let s = shr_split v b in let l = mod_below v (2 ^ b) (pow_pos b) in let e = pow-add 2 a b in let m = mul-add-lt (v / 2 ^ b) (2 ^ b) (v % 2 ^ b) (2 ^ a) h l in omega arith

pub coded-backward : (v : ℕ) (xs rest : List Bool) → coded xs ≡ Done v rest → (k : ℕ) × (k ≤ 6) × (v < 2 ^ capacity k) × (xs ≡ code_with k v ++ rest)
unfolding coded
coded-backward v xs rest e =
    let d = done_of first (λ byte. sixes (follow byte) (opened byte)) xs v rest e in
    let b : ℕ = d.0 in
    let f = byte-field (is_within 0x80 0xc0 0xff) xs b d.1 d.2 in
    let o = opening b f.1 in
    let k : ℕ = follow b in
    let i = sixes-backward k (opened b) v d.1 rest d.3 in
    let o2 : IsOpening b k (high_part k v) = subst (λ (x : ℕ). IsOpening b k x) (sym i.1) o in
    let small : v < 2 ^ capacity k = value_small b v d.1 rest f.1 d.3 in
    (k, o.few, small, f.0 ∙ ap (λ (ys : List Bool). bits_of 8 b ++ ys) i.0 ∙ sym (append_assoc (bits_of 8 b) (further_bytes k v) rest) ∙ ap (λ (ys : List Bool). (ys ++ further_bytes k v) ++ rest) (sym (first_bits b k v o2)))

-- ---- and its reader keeps the laws of readers

abbrev pub AnyValue : ℕ → Type 0
AnyValue v = Unit {0}

IsSound-sixes : (k v : ℕ) → IsSound AnyValue (sixes k v)
unfolding sixes
IsSound-sixes zero v = IsSound-give AnyValue v tt
IsSound-sixes (suc k) v =
    IsSound-chain (λ (b : ℕ). is_within 0 128 192 b ≡ true) AnyValue further (λ (b : ℕ). sixes k (v * 64 + (b - 128))) (IsSound-field 8 (is_within 0 128 192) (some-within 0 128 192 8 0 (omega arith)))
    (λ (b : ℕ) h. IsSound-sixes k (v * 64 + (b - 128)))

pub IsSound-coded : IsSound AnyValue coded
unfolding coded
IsSound-coded =
    IsSound-chain (λ (b : ℕ). is_within 0x80 0xc0 0xff b ≡ true) AnyValue first (λ (b : ℕ). sixes (follow b) (opened b)) (IsSound-field 8 (is_within 0x80 0xc0 0xff) (some-within 0x80 0xc0 0xff 8 0 (omega arith)))
    (λ (b : ℕ) h. IsSound-sixes (follow b) (opened b))
