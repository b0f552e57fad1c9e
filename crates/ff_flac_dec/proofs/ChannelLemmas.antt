-- Lists of samples and their depth.
use Rattle.std.proofs.Common.{◌≡◌, ℕ, zero, suc, ◌+◌, ◌-◌, ◌*◌, ◌^◌, ◌<◌, ◌≤◌, List, [], ◌∷◌, ◌++◌, length, map, drop, get_or, refl, sym, ap, subst, ◌∙◌, append_assoc, arith, length-append}
use Rattle.std.proofs.Common.{ℤ, pos, negsuc, neg_ℤ, ◌+ℤ◌, ◌*ℤ◌}
use Rattle.std.specs.Prelude.{replicate}
use Rattle.std.proofs.Math.Nat.{mul-le-mul_right, mul-lt-mul_of_pos_right}
use Rattle.std.proofs.lemmas.Nat.{pow_pos, pow-add}
use Rattle.std.specs.List.{AllByRecursion}
use Rattle.std.proofs.lemmas.Int.{ints}
use Rattle.std.proofs.lemmas.List.{drop_more, drop_all, append-nil}
use Rattle.std.proofs.Common.{to_z, of_z}
use Rattle.std.specs.Prelude.{slice_index_or}
use Rattle.std.specs.Int.{w32}
use Rattle.std.specs.Int.RustNames.{FitsSigned}
use Rattle.std.proofs.lemmas.Int.{to_z-of_z}
use Rattle.std.proofs.lemmas.List.{length-map, length-replicate}
use Rattle.std.proofs.Math.Nat.{pow-le-pow_right}
use Rattle.ff_flac_frame.specs.declared.subframe.SubKind.{SubKind}
use Rattle.ff_flac_frame.specs.declared.subframe.SubKind.TheVariants.{Constant, Verbatim, Fixed, Lpc}
use Rattle.ff_flac_frame.specs.Frame.{Part}
use Rattle.ff_frame.specs.Audio.{FitsBits}
use Rattle.ff_flac_frame.specs.laws.Facts.{HasShape, IsPart}
use Rattle.ff_flac_frame.specs.Prediction.{fixed, linear, restored, AllInDepth}
use Rattle.ff_flac_frame.specs.Restored.{IsRestored}
use Rattle.ff_flac_dec.specs.Values.{samples_as, coded_samples, channel_samples}

pub all_from : (depth : ℕ) (xs : List ℤ) → AllByRecursion (FitsBits depth) xs → AllInDepth depth xs
all_from depth [] h k lt = absurd (omega arith)
all_from depth (x ∷ xs) h zero lt = h.0
all_from depth (x ∷ xs) h (suc k) lt = all_from depth xs h.1 k (omega arith)

pub all_replicate : (depth n : ℕ) (x : ℤ) → FitsBits depth x → AllInDepth depth (replicate n x)
all_replicate depth zero x h k lt = absurd (omega arith)
all_replicate depth (suc n) x h zero lt = h
all_replicate depth (suc n) x h (suc k) lt = all_replicate depth n x h k (omega arith)

pub length-restored : (f : List ℤ → ℤ) (xs rest : List ℤ) → length (restored f xs rest) ≡ length xs + length rest
length-restored f xs [] = omega arith
length-restored f xs (r ∷ rest) = length-restored f (xs ++ (f xs +ℤ r) ∷ []) rest ∙ (let e : length (xs ++ (f xs +ℤ r) ∷ []) + length rest ≡ length xs + suc (length rest) = omega (arith, length-append xs ((f xs +ℤ r) ∷ [])) in e)

-- ---- a list made one by one

pub map_goes_on : {A B : Type 0} (f : A → B) (d : A) (out : List B) (xs : List A) (i : ℕ) (y : B) (total : List B) → i < length xs → y ≡ f (get_or xs i d) → out ++ map f (drop i xs) ≡ total → (out ++ y ∷ []) ++ map f (drop (i + 1) xs) ≡ total
map_goes_on f d out xs i y total lt e so_far =
    let k : drop i xs ≡ get_or xs i d ∷ drop (i + 1) xs = drop_more xs i d lt in
    append_assoc out (y ∷ []) (map f (drop (i + 1) xs)) ∙ ap (λ (z : _). out ++ (z ∷ map f (drop (i + 1) xs))) e ∙ ap (λ (ys : _). out ++ map f ys) (sym k) ∙ so_far

pub map_ends : {A B : Type 0} (f : A → B) (out : List B) (xs : List A) (i : ℕ) (total : List B) → length xs ≤ i → out ++ map f (drop i xs) ≡ total → out ≡ total
map_ends f out xs i total le so_far = sym (append-nil out) ∙ ap (λ (ys : _). out ++ map f ys) (sym (drop_all i xs le)) ∙ so_far

-- ---- zeros behind each sample

-- from -h to h - 1
abbrev pub Within : ℕ → ℤ → Type 0
Within h (pos n) = n < h
Within h (negsuc n) = n < h

pub within_from : (d : ℕ) (x : ℤ) → FitsBits d x → Within (2 ^ (d - 1)) x
within_from d (pos n) h = h
within_from d (negsuc n) h = h

pub in_from : (d : ℕ) (x : ℤ) → Within (2 ^ (d - 1)) x → FitsBits d x
in_from d (pos n) h = h
in_from d (negsuc n) h = h

suc_le : (n h : ℕ) → n < h → suc n ≤ h
suc_le n h lt = omega arith

within_negative : (h m : ℕ) → 0 < m → m ≤ h → Within h (neg_ℤ (pos m))
within_negative h zero some le = absurd (omega arith)
within_negative h (suc m) some le = omega arith

some_product : (n p : ℕ) → 0 < p → 0 < suc n * p
some_product n p some = omega (arith, mul-le-mul_right p (suc_le 0 (suc n) (omega arith)))

pub within_times : (h p : ℕ) (z : ℤ) → 0 < p → Within h z → Within (h * p) (z *ℤ pos p)
within_times h p (pos n) some lt = mul-lt-mul_of_pos_right lt some
within_times h p (negsuc n) some lt = within_negative (h * p) (suc n * p) (omega (arith, some_product n p some)) (mul-le-mul_right p (suc_le n h lt))

-- a sample of fewer bits, with so many zeros behind it
pub raised_in : (depth w : ℕ) (x : ℤ) → w < depth → FitsBits (depth - w) x → FitsBits depth (x *ℤ pos (2 ^ w))
raised_in depth w x lt h =
    let t = within_times (2 ^ (depth - w - 1)) (2 ^ w) x (pow_pos w) (within_from (depth - w) x h) in
    let k : depth - 1 ≡ (depth - w - 1) + w = omega arith in
    let p : 2 ^ (depth - 1) ≡ 2 ^ (depth - w - 1) * 2 ^ w = ap (λ (n : ℕ). 2 ^ n) k ∙ pow-add 2 (depth - w - 1) w in
    in_from depth (x *ℤ pos (2 ^ w)) (subst (λ (n : ℕ). Within n (x *ℤ pos (2 ^ w))) (sym p) t)

any_default : (xs : List ℤ) (k : ℕ) (d e : ℤ) → k < length xs → get_or xs k d ≡ get_or xs k e
any_default [] k d e lt = absurd (omega arith)
any_default (x ∷ xs) zero d e lt = refl
any_default (x ∷ xs) (suc k) d e lt = any_default xs k d e (omega arith)

within_signed : (z : ℤ) → Within (2 ^ 24) z → FitsSigned w32 z
within_signed (pos n) lt = record { sfits = omega (arith, lt) }
within_signed (negsuc n) lt = record { sfits = omega (arith, lt) }

pub power_fits : (w : ℕ) → w ≤ 24 → to_z w32 (of_z w32 (pos (2 ^ w))) ≡ pos (2 ^ w)
power_fits w le =
    let two : 0 < 2 = omega arith in
    let m : 2 ^ w ≤ 2 ^ 24 = pow-le-pow_right two le in
    to_z-of_z w32 (pos (2 ^ w)) (record { sfits = omega arith })

-- what the products with a power of 2 fit
pub fits_raised : (w : ℕ) (xs ys : List ℤ) (factor : ℤ) → w ≤ 24 → AllInDepth (25 - w) xs → ys ≡ xs → factor ≡ pos (2 ^ w) → (k : ℕ) → (d : ℤ) → k < length ys → FitsSigned w32 (slice_index_or ys k d *ℤ to_z w32 (of_z w32 factor))
fits_raised w xs ys factor le h same e k d lt =
    let here : k < length xs = subst (λ (zs : List ℤ). k < length zs) same lt in
    let x : ℤ = slice_index_or xs k (pos 0) in
    let c : slice_index_or ys k d ≡ x = ap (λ (zs : List ℤ). slice_index_or zs k d) same ∙ any_default xs k d (pos 0) here in
    let f : to_z w32 (of_z w32 factor) ≡ pos (2 ^ w) = ap (λ (z : ℤ). to_z w32 (of_z w32 z)) e ∙ power_fits w le in
    let t = within_times (2 ^ (25 - w - 1)) (2 ^ w) x (pow_pos w) (within_from (25 - w) x (h k here)) in
    let n : 24 ≡ (25 - w - 1) + w = omega arith in
    let p : 2 ^ 24 ≡ 2 ^ (25 - w - 1) * 2 ^ w = ap (λ (m : ℕ). 2 ^ m) n ∙ pow-add 2 (25 - w - 1) w in
    rw (c, f) (within_signed (x *ℤ pos (2 ^ w)) (subst (λ (m : ℕ). Within m (x *ℤ pos (2 ^ w))) (sym p) t))

-- no zeros behind each
pub map_once : (w : ℕ) (xs : List ℤ) → w ≡ 0 → xs ≡ map (λ x. x *ℤ pos (2 ^ w)) xs
map_once w [] e = refl
map_once w (x ∷ xs) e =
    let one : 2 ^ w ≡ 1 = ap (λ (n : ℕ). 2 ^ n) e in
    let same : x ≡ x *ℤ pos 1 = omega (arith, ints) in
    let here : x ≡ x *ℤ pos (2 ^ w) = same ∙ ap (λ (n : ℕ). x *ℤ pos n) (sym one) in
    ap (λ (y : ℤ). y ∷ xs) here ∙ ap (λ (ys : List ℤ). (x *ℤ pos (2 ^ w)) ∷ ys) (map_once w xs e)

pub all_raised : (depth w : ℕ) (xs : List ℤ) → w < depth → AllInDepth (depth - w) xs → AllInDepth depth (map (λ x. x *ℤ pos (2 ^ w)) xs)
all_raised depth w [] lt h k l = absurd (omega arith)
all_raised depth w (x ∷ xs) lt h zero l = raised_in depth w x lt (h 0 (omega arith))
all_raised depth w (x ∷ xs) lt h (suc k) l = all_raised depth w xs lt (λ j m. h (suc j) (omega arith)) k (omega arith)

-- ---- as many samples as the block has

length_as : (block : ℕ) (p : Part) (kind : SubKind) → HasShape block p kind → length (samples_as block p kind) ≡ block
length_as block p Constant h = length-replicate block (slice_index_or p.warm 0 (pos 0))
length_as block p Verbatim h = h
length_as block p Fixed h = length-restored (fixed p.order) p.warm p.rest ∙ (let e : length p.warm + length p.rest ≡ block = omega (arith, h.1, h.2, h.3) in e)
length_as block p Lpc h = length-restored (linear p.coefs p.shift) p.warm p.rest ∙ (let e : length p.warm + length p.rest ≡ block = omega (arith, h.2, h.4, h.5) in e)

pub length-coded : (block depth : ℕ) (p : Part) → IsPart block depth p → length (coded_samples block p) ≡ block
unfolding coded_samples
length-coded block depth p h = length_as block p p.kind h.shape

pub raised_channel : (block depth : ℕ) (p : Part) → IsPart block depth p → AllInDepth (depth - p.wasted) (coded_samples block p) → AllInDepth depth (map (λ x. x *ℤ pos (2 ^ p.wasted)) (coded_samples block p))
raised_channel block depth p h a = all_raised depth p.wasted (coded_samples block p) h.wasted a

pub raised_length : (block depth : ℕ) (p : Part) → IsPart block depth p → length (map (λ x. x *ℤ pos (2 ^ p.wasted)) (coded_samples block p)) ≡ block
raised_length block depth p h = length-map (coded_samples block p) (λ x. x *ℤ pos (2 ^ p.wasted)) ∙ length-coded block depth p h

-- ---- restored as the subframe was read

restored_as : (block : ℕ) (p : Part) (kind : SubKind) (xs : List ℤ) → IsRestored kind p.order p.coefs p.shift p.warm p.rest xs → xs ≡ samples_as block p kind
restored_as block p Constant xs h = absurd h
restored_as block p Verbatim xs h = absurd h
restored_as block p Fixed xs h = h
restored_as block p Lpc xs h = h

-- where no bits were wasted these are the samples
pub kept_channel : (block : ℕ) (p : Part) (xs : List ℤ) → p.wasted ≡ 0 → IsRestored p.kind p.order p.coefs p.shift p.warm p.rest xs → xs ≡ channel_samples block p
unfolding coded_samples channel_samples
kept_channel block p xs none h = restored_as block p p.kind xs h ∙ map_once p.wasted (coded_samples block p) none

pub length-channel : (block depth : ℕ) (p : Part) → IsPart block depth p → length (channel_samples block p) ≡ block
unfolding channel_samples
length-channel block depth p h = raised_length block depth p h
