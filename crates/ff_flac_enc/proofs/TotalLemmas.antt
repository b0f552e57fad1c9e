-- What one frame more adds to the totals.
use Rattle.std.proofs.Common.{◌≡◌, ◌≢◌, ℕ, ◌+◌, ◌-◌, ◌*◌, ◌/◌, ◌^◌, ◌<◌, ◌≤◌, min, max, ℤ, pos, negsuc, List, [], ◌∷◌, ◌++◌, length, get_or, set, take, Option, Some, None, refl, sym, ap, ◌∙◌, subst, arith, length-append, append-nil, append_assoc}
use Rattle.std.specs.List.{All, sum_by}
use Rattle.std.proofs.lemmas.List.{map-append, length-set, take_more, take_more_set}
use Rattle.std.proofs.lemmas.List.Concat.{flat_map-append}
use Rattle.std.proofs.lemmas.List.Sums.{sum_by-append}
use Rattle.std.proofs.lemmas.List.Elements.{All-weaker}
use Rattle.std.proofs.Math.Pow.{pow_mono}
use Rattle.std.specs.Prelude.{unwrap_or}
use Rattle.md5.specs.Md5.{md5, Holds}
use Rattle.ff_frame.specs.Audio.{FitsBits}
use Rattle.ff_frame.specs.declared.audio.AFrame.{AFrame}
use Rattle.ff_frame.specs.declared.totals.Totals.{Totals}
use Rattle.ff_flac_enc.specs.declared.counter.Counter.{Counter}
use Rattle.ff_flac_enc.specs.declared.counter.Sizes.{Sizes}
use Rattle.ff_flac_enc.specs.Totals.{Added, added, sample_frames, sample_bytes, samples_bytes, frame_bytes, least_of, greatest_of, lens, frames_bytes, HaveSizes, Counts, totals_of}

least_push : (xs : List ℕ) (x : ℕ) → length xs ≢ 0 → least_of (xs ++ x ∷ []) ≡ min (least_of xs) x
least_push [] x some = absurd (some refl)
least_push (y ∷ []) x some = refl
least_push (y ∷ z ∷ zs) x some =
    let e : least_of ((z ∷ zs) ++ x ∷ []) ≡ min (least_of (z ∷ zs)) x = least_push (z ∷ zs) x (λ n. absurd (omega arith)) in
    ap (λ n. min y n) e ∙ omega arith

greatest_push : (xs : List ℕ) (x : ℕ) → greatest_of (xs ++ x ∷ []) ≡ max (greatest_of xs) x
greatest_push [] x = omega arith
greatest_push (y ∷ ys) x = ap (λ n. max y n) (greatest_push ys x) ∙ omega arith

some_more : (xs : List ℕ) (x : ℕ) → length (xs ++ x ∷ []) ≢ 0
some_more xs x e = omega (arith, length-append xs (x ∷ []))

sizes_push : (s : Option Sizes) (t : Sizes) (xs : List ℕ) (x : ℕ) → (s ≡ None → (t.least ≡ x) × (t.greatest ≡ x)) → ((u : Sizes) → s ≡ Some u → (t.least ≡ min u.least x) × (t.greatest ≡ max u.greatest x))
    → HaveSizes s xs → HaveSizes (Some t) (xs ++ x ∷ [])
sizes_push None t xs x none some h =
    let n = none refl in
    let e : x ∷ [] ≡ xs ++ x ∷ [] = ap (λ ys. ys ++ x ∷ []) (sym h) in
    let top : max x 0 ≡ x = omega arith in
    (some_more xs x, n.0 ∙ ap least_of e, n.1 ∙ (sym top ∙ ap greatest_of e))
sizes_push (Some u) t xs x none some h =
    let m = some u refl in
    (some_more xs x, m.0 ∙ (ap (λ n. min n x) h.1 ∙ sym (least_push xs x h.0)), m.1 ∙ (ap (λ n. max n x) h.2 ∙ sym (greatest_push xs x)))

-- one frame more
pub counts_push : (c d : Counter) (all : List Added) (f : AFrame) (len : ℕ) (t : Sizes)
    → (c.sizes ≡ None → (t.least ≡ len) × (t.greatest ≡ len)) → ((u : Sizes) → c.sizes ≡ Some u → (t.least ≡ min u.least len) × (t.greatest ≡ max u.greatest len))
    → d.sizes ≡ Some t → d.samples ≡ c.samples + sample_frames f → Holds d.hasher (frames_bytes all ++ frame_bytes f) → Counts c all → Counts d (all ++ added f len ∷ [])
counts_push c d all f len t none some sizes samples message h = record {
  sizes = subst (λ (o : Option Sizes). HaveSizes o (lens (all ++ added f len ∷ []))) (sym sizes)
      (subst (λ (xs : List ℕ). HaveSizes (Some t) xs) (sym (map-append (λ (a : Added). a.len) all (added f len ∷ []))) (sizes_push c.sizes t (lens all) len none some h.sizes));
  samples = samples ∙ (ap (λ n. n + sample_frames f) h.samples ∙ one_more);
  message = subst (λ (xs : List ℕ). Holds d.hasher xs) more message;
}
  where
    one_more : sum_by (λ (a : Added). sample_frames a.frame) all + sample_frames f ≡ sum_by (λ (a : Added). sample_frames a.frame) (all ++ added f len ∷ [])
    one_more = omega (arith, sum_by-append (λ (a : Added). sample_frames a.frame) all (added f len ∷ []))

    more : frames_bytes all ++ frame_bytes f ≡ frames_bytes (all ++ added f len ∷ [])
    more = sym (flat_map-append (λ (a : Added). frame_bytes a.frame) all (added f len ∷ []) ∙ ap (λ (xs : List ℕ). frames_bytes all ++ xs) (append-nil (frame_bytes f)))

-- a sample is one of more bits
wider : (b c : ℕ) (z : ℤ) → b ≤ c → FitsBits b z → FitsBits c z
wider b c (pos n) le h = let p : 2 ^ (b - 1) ≤ 2 ^ (c - 1) = pow_mono {i = b - 1} {j = c - 1} (omega arith) in omega (arith, h, p)
wider b c (negsuc n) le h = let p : 2 ^ (b - 1) ≤ 2 ^ (c - 1) = pow_mono {i = b - 1} {j = c - 1} (omega arith) in omega (arith, h, p)

pub all_wider : (b : ℕ) (xs : List ℤ) → All (FitsBits b) xs → All (FitsBits (8 * ((b + 7) / 8))) xs
all_wider b xs h = All-weaker (FitsBits b) (FitsBits (8 * ((b + 7) / 8))) (λ z. wider b (8 * ((b + 7) / 8)) z (omega arith)) xs h

-- ---- two bytes more

two_items : (xs : List ℕ) → length xs ≡ 2 → xs ≡ get_or xs 0 0 ∷ get_or xs 1 0 ∷ []
two_items [] h = absurd (omega (arith, h))
two_items (x ∷ []) h = absurd (omega (arith, h))
two_items (x ∷ y ∷ []) h = refl
two_items (x ∷ y ∷ z ∷ zs) h = absurd (omega (arith, h))

pub two_more : (out bytes : List ℕ) (samples : List ℤ) (i : ℕ) → 2 * i + 1 < length out → i < length samples → length bytes ≡ 2 → bytes ≡ sample_bytes 2 (get_or samples i (pos 0))
    → take (2 * i) out ≡ samples_bytes 2 (take i samples) → take (2 * (i + 1)) (set (set out (2 * i) (get_or bytes 0 0)) (2 * i + 1) (get_or bytes 1 0)) ≡ samples_bytes 2 (take (i + 1) samples)
two_more out bytes samples i l m n e h =
    let a : ℕ = get_or bytes 0 0 in
    let b : ℕ = get_or bytes 1 0 in
    let z : ℤ = get_or samples i (pos 0) in
    let once : List ℕ = set out (2 * i) a in
    let reach : 2 * (i + 1) ≡ 2 * i + 1 + 1 = omega arith in
    ap (λ m. take m (set once (2 * i + 1) b)) reach
    ∙ take_more_set once (2 * i + 1) b (omega (arith, l, length-set out (2 * i) a))
    ∙ ap (λ xs. xs ++ (b ∷ [])) (take_more_set out (2 * i) a (omega (arith, l)))
    ∙ append_assoc (take (2 * i) out) (a ∷ []) (b ∷ [])
    ∙ ap (λ xs. xs ++ (a ∷ b ∷ [])) h
    ∙ ap (λ xs. samples_bytes 2 (take i samples) ++ xs) (sym (two_items bytes n) ∙ e ∙ sym (append-nil (sample_bytes 2 z)))
    ∙ sym (ap (samples_bytes 2) (take_more samples i (pos 0) m) ∙ flat_map-append (sample_bytes 2) (take i samples) (z ∷ []))

-- ---- three bytes more

three_items : (xs : List ℕ) → length xs ≡ 3 → xs ≡ get_or xs 0 0 ∷ get_or xs 1 0 ∷ get_or xs 2 0 ∷ []
three_items [] h = absurd (omega (arith, h))
three_items (x ∷ []) h = absurd (omega (arith, h))
three_items (x ∷ y ∷ []) h = absurd (omega (arith, h))
three_items (x ∷ y ∷ z ∷ []) h = refl
three_items (x ∷ y ∷ z ∷ w ∷ ws) h = absurd (omega (arith, h))

pub three_more : (out bytes : List ℕ) (samples : List ℤ) (i : ℕ) → 3 * i + 2 < length out → i < length samples → length bytes ≡ 3
    → bytes ≡ sample_bytes 3 (get_or samples i (pos 0))
    → take (3 * i) out ≡ samples_bytes 3 (take i samples)
    → take (3 * (i + 1)) (set (set (set out (3 * i) (get_or bytes 0 0)) (3 * i + 1) (get_or bytes 1 0)) (3 * i + 2) (get_or bytes 2 0))
    ≡ samples_bytes 3 (take (i + 1) samples)
three_more out bytes samples i l m n e h =
    let a : ℕ = get_or bytes 0 0 in
    let b : ℕ = get_or bytes 1 0 in
    let c : ℕ = get_or bytes 2 0 in
    let z : ℤ = get_or samples i (pos 0) in
    let once : List ℕ = set out (3 * i) a in
    let twice : List ℕ = set once (3 * i + 1) b in
    let reach : 3 * (i + 1) ≡ 3 * i + 2 + 1 = omega arith in
    let second : 3 * i + 2 ≡ 3 * i + 1 + 1 = omega arith in
    let long : length once ≡ length out = length-set out (3 * i) a in
    let longer : length twice ≡ length once = length-set once (3 * i + 1) b in
    ap (λ m. take m (set twice (3 * i + 2) c)) reach
    ∙ take_more_set twice (3 * i + 2) c (omega (arith, l, long, longer))
    ∙ ap (λ m. take m twice ++ (c ∷ [])) second
    ∙ ap (λ xs. xs ++ (c ∷ [])) (take_more_set once (3 * i + 1) b (omega (arith, l, long)))
    ∙ ap (λ xs. (xs ++ (b ∷ [])) ++ (c ∷ [])) (take_more_set out (3 * i) a (omega (arith, l)))
    ∙ append_assoc (take (3 * i) out ++ (a ∷ [])) (b ∷ []) (c ∷ [])
    ∙ append_assoc (take (3 * i) out) (a ∷ []) (b ∷ c ∷ [])
    ∙ ap (λ xs. xs ++ (a ∷ b ∷ c ∷ [])) h
    ∙ ap (λ xs. samples_bytes 3 (take i samples) ++ xs) (sym (three_items bytes n) ∙ e ∙ sym (append-nil (sample_bytes 3 z)))
    ∙ sym (ap (samples_bytes 3) (take_more samples i (pos 0) m) ∙ flat_map-append (sample_bytes 3) (take i samples) (z ∷ []))

-- ---- the totals

abbrev pub none : Sizes
none = record { least = 0; greatest = 0 }

sizes_are : (s : Option Sizes) (xs : List ℕ) → HaveSizes s xs → ((unwrap_or s none).least ≡ least_of xs) × ((unwrap_or s none).greatest ≡ greatest_of xs)
sizes_are None xs h = (sym (ap least_of h), sym (ap greatest_of h))
sizes_are (Some s) xs h = (h.1, h.2)

abbrev pub totals : ℕ → ℕ → ℕ → List ℕ → Totals
totals least greatest samples digest = record { min_frame = least; max_frame = greatest; samples = samples; md5 = digest }

pub totals_are : (c : Counter) (all : List Added) (s : Sizes) (digest : List ℕ) → Counts c all → s ≡ unwrap_or c.sizes none → digest ≡ md5 (frames_bytes all) → totals s.least s.greatest c.samples digest ≡ totals_of all
unfolding totals_of
totals_are c all s digest h e d =
    let z = sizes_are c.sizes (lens all) h.sizes in
    ap (λ n. totals n s.greatest c.samples digest) (ap (λ (t : Sizes). t.least) e ∙ z.0)
    ∙ (ap (λ n. totals (least_of (lens all)) n c.samples digest) (ap (λ (t : Sizes). t.greatest) e ∙ z.1)
    ∙ (ap (λ n. totals (least_of (lens all)) (greatest_of (lens all)) n digest) h.samples
    ∙ ap (λ xs. totals (least_of (lens all)) (greatest_of (lens all)) (sum_by (λ (a : Added). sample_frames a.frame) all) xs) d))
