-- What a cut gives is what the whole input gives.
use Rattle.std.proofs.Common.{◌≡◌, ℕ, zero, suc, ◌+◌, ◌-◌, ◌*◌, ◌/◌, ◌<◌, ◌≤◌, ◌⊎◌, inl, inr, min, Bool, true, false, List, ◌++◌, take, drop, length, map, Option, Some, None, pos, refl, sym, ap, ◌∙◌, arith, length-append, append-nil}
use Rattle.std.specs.List.{range_with_len}
use Rattle.std.specs.Prelude.{slice_get, ◌↔◌, ◌||◌}
use Rattle.std.proofs.lemmas.List.{length-take, take-append-le, take-take, drop-take}
use Rattle.std.proofs.lemmas.List.FromFn.{length-map-range_with_len}
use Rattle.std.proofs.lemmas.Nat.{le-div, div_below}
use Rattle.std.proofs.Math.Nat.{mul-add-div_right, div-mul-le_self}
use Rattle.ff_frame.specs.declared.packet.Pkt.{Pkt}
use Rattle.ff_frame.specs.Packet.{packet_at as packet_from}
use Rattle.ff_reader.specs.Cutters.{IsRest}
use Rattle.ff_pcm.specs.body.Packets.{body, frames, packet_at, packet_count, packets_of}
use Rattle.ff_pcm.specs.body.Cuts.{ReachesLen, IsBodyEnded}
use Rattle.ff_reader.proofs.ReadingLaws.{take-append}

-- ---- the body, as bytes come

pub body-append : (len : Option ℕ) (fed more : List ℕ) → (rest : List ℕ) × (body len (fed ++ more) ≡ body len fed ++ rest)
body-append None fed more = (more, refl)
body-append (Some l) fed more = (take (l - length fed) more, take-append l fed more)

pub body_ended : (len : Option ℕ) (ended : Bool) (fed more : List ℕ) → IsBodyEnded len ended fed → IsRest ended more → body len (fed ++ more) ≡ body len fed
body_ended len ended fed more (inl e) r = ap (λ xs. body len (fed ++ xs)) (r e) ∙ ap (body len) (append-nil fed)
body_ended None ended fed more (inr h) r = absurd h
body_ended (Some l) ended fed more (inr h) r = take-append-le l fed more h

pub body_length : (len : Option ℕ) (fed : List ℕ) → length (body len fed) ≤ length fed
body_length None fed = omega arith
body_length (Some l) fed = omega (arith, length-take l fed)

body_prefix : (len : Option ℕ) (fed : List ℕ) (k : ℕ) → k ≤ length (body len fed) → take k (body len fed) ≡ take k fed
body_prefix None fed k le = refl
body_prefix (Some l) fed k le = take-take k l fed (omega (arith, length-take l fed))

-- how many of the bytes that wait belong to the body
pub usable_is : (len : Option ℕ) (fed : List ℕ) (used waiting usable : ℕ) (reached : Bool) → (len ≡ None → (usable ≡ waiting) × (reached ≡ false)) → ((n : ℕ) → len ≡ Some n → (usable ≡ min waiting (n - used)) × ((reached ≡ true) ↔ (n - used ≤ waiting)))
    → waiting ≡ length fed - used → used ≤ length (body len fed) → used + usable ≡ length (body len fed)
usable_is None fed used waiting usable reached none some w le = let u = (none refl).0 in omega arith
usable_is (Some l) fed used waiting usable reached none some w le = let u = (some l refl).0 in omega (arith, length-take l fed)

pub reached_is : (len : Option ℕ) (fed : List ℕ) (used waiting usable : ℕ) (reached : Bool) → (len ≡ None → (usable ≡ waiting) × (reached ≡ false)) → ((n : ℕ) → len ≡ Some n → (usable ≡ min waiting (n - used)) × ((reached ≡ true) ↔ (n - used ≤ waiting)))
    → waiting ≡ length fed - used → used ≤ length fed → reached ≡ true → ReachesLen len fed
reached_is None fed used waiting usable reached none some w le t = let f = (none refl).1 in cc
reached_is (Some l) fed used waiting usable reached none some w le t = let r = (some l refl).1.0 t in omega (arith, r)

pub unreached_is : (len : Option ℕ) (fed : List ℕ) (used waiting usable : ℕ) (reached : Bool) → (len ≡ None → (usable ≡ waiting) × (reached ≡ false)) → ((n : ℕ) → len ≡ Some n → (usable ≡ min waiting (n - used)) × ((reached ≡ true) ↔ (n - used ≤ waiting)))
    → waiting ≡ length fed - used → reached ≡ false → ReachesLen len fed → ⊥
unreached_is None fed used waiting usable reached none some w f r = r
unreached_is (Some l) fed used waiting usable reached none some w f r = let le : l - used ≤ waiting = omega (arith, r) in let t = (some l refl).1.1 le in cc

-- ---- packets

pub piece : (u p : ℕ) (xs ys : List ℕ) → take (p + u) xs ≡ take (p + u) ys → take u (drop p xs) ≡ take u (drop p ys)
piece u p xs ys e = sym (drop-take p u xs) ∙ (ap (drop p) e ∙ drop-take p u ys)

-- a piece of the body is that piece of what was fed
body_piece : (len : Option ℕ) (fed : List ℕ) (u p : ℕ) → p + u ≤ length (body len fed) → take u (drop p (body len fed)) ≡ take u (drop p fed)
body_piece len fed u p le = piece u p (body len fed) fed (body_prefix len fed (p + u) le)

body_piece_append : (len : Option ℕ) (fed more : List ℕ) (u p : ℕ) → p + u ≤ length (body len fed) → take u (drop p (body len (fed ++ more))) ≡ take u (drop p fed)
body_piece_append len fed more u p le =
    let b = body-append len fed more in
    piece u p (body len (fed ++ more)) (body len fed) (ap (take (p + u)) b.1 ∙ take-append-le (p + u) (body len fed) b.0 le) ∙ body_piece len fed u p le

abbrev pub made : ℕ → ℕ → ℕ → ℕ → List ℕ → Pkt
made start block first count bytes = packet_from (pos first) (pos count) (start + first * block) bytes

pub packet_is : (start block : ℕ) (xs : List ℕ) (first count : ℕ) → min 1024 (frames block xs - first) ≡ count → packet_at start block xs first ≡ made start block first count (take (count * block) (drop (first * block) xs))
unfolding packet_at
packet_is start block xs first count e = ap (λ c. made start block first c (take (c * block) (drop (first * block) xs))) e

enough : (block first : ℕ) (xs : List ℕ) → 0 < block → first * block + 1024 * block ≤ length xs → first + 1024 ≤ frames block xs
enough block first xs lt le = let e : (first + 1024) * block ≤ length xs = omega (arith, le) in le-div (first + 1024) (length xs) block lt e

-- a packet that is whole, whatever follows
pub full_packet : (start block first : ℕ) (len : Option ℕ) (fed more : List ℕ) → 0 < block → first * block + 1024 * block ≤ length (body len fed)
    → packet_at start block (body len (fed ++ more)) first ≡ made start block first 1024 (take (1024 * block) (drop (first * block) fed))
full_packet start block first len fed more lt le =
    let b = body-append len fed more in
    let long : first * block + 1024 * block ≤ length (body len (fed ++ more)) = omega (arith, le, ap length b.1, length-append (body len fed) b.0) in
    let many = enough block first (body len (fed ++ more)) lt long in
    packet_is start block (body len (fed ++ more)) first 1024 (omega (arith, many)) ∙ ap (λ xs. made start block first 1024 xs) (body_piece_append len fed more (1024 * block) (first * block) le)

pub full_count : (block first : ℕ) (len : Option ℕ) (fed more : List ℕ) (n : ℕ) → 0 < block → first ≡ 1024 * n → first * block + 1024 * block ≤ length (body len fed) → n < packet_count block (body len (fed ++ more))
full_count block first len fed more n lt at le =
    let b = body-append len fed more in
    let long : first * block + 1024 * block ≤ length (body len (fed ++ more)) = omega (arith, le, ap length b.1, length-append (body len fed) b.0) in
    let many = enough block first (body len (fed ++ more)) lt long in
    omega (arith, many, at)

-- the frames of the last packet
rest_frames : (block first usable : ℕ) (xs : List ℕ) → 0 < block → first * block + usable ≡ length xs → frames block xs ≡ first + usable / block
rest_frames block first usable xs lt e = ap (λ n. n / block) (sym e) ∙ mul-add-div_right lt first usable

few_frames : (block usable : ℕ) → 0 < block → usable < 1024 * block → usable / block < 1024
few_frames block usable lt le = div_below usable block 1024 lt le

pub last_packet : (start block first usable : ℕ) (xs : List ℕ) → 0 < block → first * block + usable ≡ length xs → usable < 1024 * block
    → packet_at start block xs first ≡ made start block first (usable / block) (take (usable / block * block) (drop (first * block) xs))
last_packet start block first usable xs lt e few =
    let f = rest_frames block first usable xs lt e in
    let c = few_frames block usable lt few in
    packet_is start block xs first (usable / block) (omega (arith, f, c))

pub last_piece : (block first usable : ℕ) (len : Option ℕ) (fed : List ℕ) → first * block + usable ≡ length (body len fed)
    → take (usable / block * block) (drop (first * block) (body len fed)) ≡ take (usable / block * block) (drop (first * block) fed)
last_piece block first usable len fed e =
    let d = div-mul-le_self usable block in
    body_piece len fed (usable / block * block) (first * block) (omega (arith, d, e))

pub last_count : (block first usable n : ℕ) (xs : List ℕ) → 0 < block → first * block + usable ≡ length xs → usable < 1024 * block → first ≡ 1024 * n → 0 < usable / block → packet_count block xs ≡ n + 1
last_count block first usable n xs lt e few at some =
    let f = rest_frames block first usable xs lt e in
    let c = few_frames block usable lt few in
    omega (arith, f, c, at, some)

pub no_count : (block first usable n : ℕ) (xs : List ℕ) → 0 < block → first * block + usable ≡ length xs → first ≡ 1024 * n → usable / block ≡ 0 → packet_count block xs ≡ n
no_count block first usable n xs lt e at none =
    let f = rest_frames block first usable xs lt e in
    omega (arith, f, at, none)

-- ---- the list of packets

get_range : (f : ℕ → Pkt) (a c n : ℕ) → n < c → slice_get (map f (range_with_len a c)) n ≡ Some (f (a + n))
get_range f a zero n lt = absurd (omega arith)
get_range f a (suc c) zero lt = let e : a + 0 ≡ a = omega arith in rw e refl
get_range f a (suc c) (suc n) lt = let e : (a + 1) + n ≡ a + suc n = omega arith in get_range f (a + 1) c n (omega arith) ∙ ap (λ k. Some (f k)) e

pub packets_get : (start block : ℕ) (xs : List ℕ) (n first : ℕ) → n < packet_count block xs → first ≡ 1024 * n → slice_get (packets_of start block xs) n ≡ Some (packet_at start block xs first)
packets_get start block xs n first lt e =
    let z : 0 + n ≡ n = omega arith in
    get_range (λ k. packet_at start block xs (1024 * k)) 0 (packet_count block xs) n lt ∙ (ap (λ k. Some (packet_at start block xs (1024 * k))) z ∙ ap (λ k. Some (packet_at start block xs k)) (sym e))

pub packets_length : (start block : ℕ) (xs : List ℕ) → length (packets_of start block xs) ≡ packet_count block xs
packets_length start block xs = length-map-range_with_len (λ k. packet_at start block xs (1024 * k)) 0 (packet_count block xs)

or_false : (a b : Bool) → (a || b) ≡ false → (a ≡ false) × (b ≡ false)
or_false true b e = cc
or_false false b e = (refl, e)

or_true : (a b : Bool) → (a || b) ≡ true → (a ≡ true) ⊎ (b ≡ true)
or_true true b e = inl refl
or_true false b e = inr e
