-- What a metadata block does is the same whatever follows, unless it waits.
use Rattle.std.proofs.Common.{◌≡◌, ℕ, zero, suc, ◌+◌, ◌<◌, ◌≤◌, ◌⊎◌, inl, inr, Bool, true, false, cond, List, [], ◌∷◌, ◌++◌, length, Option, Some, None, Ok}
use Rattle.std.proofs.Common.{Err, refl, sym, ap, subst, arith, length-append}
use Rattle.std.specs.Prelude.{slice_index, nat_lt, nat_le, ◌==◌, ◌/◌, ◌%◌, ◌^◌, ◌&&◌, not}
use Rattle.std.proofs.lemmas.Bool.Decides.{nat_tests}
use Rattle.ff_frame.specs.declared.head.StreamHead.{StreamHead}
use Rattle.ff_reader.specs.declared.fault.HeadFault.TheVariants.{Damaged, Unsupported}
use Rattle.ff_flac_dec.specs.declared.head.FlacHead.{FlacHead}
use Rattle.ff_flac_dec.specs.declared.head.HeadState.TheVariants.{Blocks}
use Rattle.ff_reader.specs.declared.step.Step.TheVariants.{Wait, Decide, Skip}
use Rattle.ff_flac_dec.specs.Blocks.{BlockStep, number_24, kind_of, is_last, rate_in, channels_in, bits_in, sound_of, closes, info, other, after, block}

-- the first waits, or is the second
abbrev pub Settles : BlockStep → BlockStep → Type 0
Settles s t = (s ≡ Wait) ⊎ (s ≡ t)

pub settles_if : (b c : Bool) (s t s' t' : BlockStep) → b ≡ c → Settles s s' → Settles t t' → Settles (cond b s t) (cond c s' t')
settles_if true true s t s' t' e p q = p
settles_if false false s t s' t' e p q = q
settles_if true false s t s' t' e p q = cc
settles_if false true s t s' t' e p q = cc

pub settles_decided : (b c : Bool) (s t t' : BlockStep) → b ≡ c → Settles t t' → Settles (cond b s t) (cond c s t')
settles_decided b c s t t' e q = settles_if b c s t s t' e (inr refl) q

settles_wait_at : (b c : Bool) (t t' : BlockStep) → (b ≡ false → (c ≡ false) × Settles t t') → Settles (cond b Wait t) (cond c Wait t')
settles_wait_at true c t t' h = inl refl
settles_wait_at false c t t' h = let r = h refl in settles_if false c Wait t Wait t' (sym r.0) (inl refl) r.1

pub not_less : (m n : ℕ) → nat_lt m n ≡ false → n ≤ m
not_less m n e = grind (arith, nat_tests)

not_less_yet : (m n : ℕ) → n ≤ m → nat_lt m n ≡ false
not_less_yet m n e = grind (arith, nat_tests)

-- a step that waits for so many bytes
pub settles_wait : (bs more : List ℕ) (k : ℕ) (t t' : BlockStep) → (k ≤ length bs → Settles t t')
    → Settles (cond (nat_lt (length bs) k) Wait t) (cond (nat_lt (length (bs ++ more)) k) Wait t')
settles_wait bs more k t t' h = settles_wait_at (nat_lt (length bs) k) (nat_lt (length (bs ++ more)) k) t t'
    (λ e. let le : k ≤ length bs = not_less (length bs) k e in
    (not_less_yet (length (bs ++ more)) k (omega (arith, length-append bs more)), h le))

pub index_front : (bs more : List ℕ) (i : ℕ) → i < length bs → slice_index (bs ++ more) i ≡ slice_index bs i
index_front [] more i lt = absurd (omega arith)
index_front (b ∷ bs) more zero lt = refl
index_front (b ∷ bs) more (suc i) lt = index_front bs more i (omega arith)

front_24 : (bs more : List ℕ) (i : ℕ) → i + 3 ≤ length bs → number_24 i (bs ++ more) ≡ number_24 i bs
front_24 bs more i le = rw (index_front bs more i (omega arith), index_front bs more (i + 1) (omega arith), index_front bs more (i + 2) (omega arith)) refl

closes_settles : (size : ℕ) (head : StreamHead) (at : ℕ) (bs more : List ℕ) → 1 ≤ length bs → Settles (closes size head at bs) (closes size head at (bs ++ more))
closes_settles size head at bs more le =
    settles_decided _ _ _ _ _ (ap (λ n. not (nat_le 128 n)) (sym (index_front bs more 0 le))) (settles_wait bs more (4 + size) _ _ (λ long. inr refl))

info_head : (bs more : List ℕ) → 18 ≤ length bs
    → sound_of (rate_in bs) (bits_in bs) (channels_in bs) ≡ sound_of (rate_in (bs ++ more)) (bits_in (bs ++ more)) (channels_in (bs ++ more))
info_head bs more le =
    let rate = front_24 bs more 14 (omega arith) in
    let low = index_front bs more 16 (omega arith) in
    let high = index_front bs more 17 (omega arith) in
    cc

info_settles : (at : ℕ) (bs more : List ℕ) → 4 ≤ length bs → Settles (info at bs) (info at (bs ++ more))
unfolding info
info_settles at bs more le =
    let first = index_front bs more 0 (omega arith) in
    let size = front_24 bs more 1 (omega arith) in
    let named : not (kind_of bs == 0 && number_24 1 bs == 34) ≡ not (kind_of (bs ++ more) == 0 && number_24 1 (bs ++ more) == 34) = rw (first, size) refl in
    settles_decided _ _ _ _ _ named
    (settles_wait bs more 38 _ _ (λ long. let rate = front_24 bs more 14 (omega arith) in
    settles_decided _ _ _ _ _ (ap (λ n. n / 16 % 2 ^ 20 == 0) (sym rate))
    (let low = index_front bs more 16 (omega arith) in let high = index_front bs more 17 (omega arith) in
    let same : bits_in bs ≡ bits_in (bs ++ more) = cc in
    settles_decided _ _ _ _ _ (ap (λ n. not (nat_le 4 n && nat_le n 24)) same)
    (subst (λ (h : StreamHead). Settles (closes 34 (sound_of (rate_in bs) (bits_in bs) (channels_in bs)) at bs) (closes 34 h at (bs ++ more))) (info_head bs more (omega (arith, long)))
    (closes_settles 34 (sound_of (rate_in bs) (bits_in bs) (channels_in bs)) at bs more (omega (arith, le)))))))

other_settles : (head : StreamHead) (at : ℕ) (bs more : List ℕ) → 4 ≤ length bs → Settles (other head at bs) (other head at (bs ++ more))
unfolding other
other_settles head at bs more le =
    let first = sym (index_front bs more 0 (omega arith)) in
    settles_decided _ _ _ _ _ (ap (λ n. n % 128 == 0) first)
    (settles_decided _ _ _ _ _ (ap (λ n. n % 128 == 127) first)
    (subst (λ (n : ℕ). Settles (closes (number_24 1 bs) head at bs) (closes n head at (bs ++ more))) (sym (front_24 bs more 1 (omega arith))) (closes_settles (number_24 1 bs) head at bs more (omega arith))))

after_settles : (f : Option StreamHead) (at : ℕ) (bs more : List ℕ) → 4 ≤ length bs → Settles (after f at bs) (after f at (bs ++ more))
after_settles None at bs more le = info_settles at bs more le
after_settles (Some head) at bs more le = other_settles head at bs more le

pub block_settles : (f : Option StreamHead) (at : ℕ) (bs more : List ℕ) → Settles (block f at bs) (block f at (bs ++ more))
unfolding block
block_settles f at bs more = settles_wait bs more 4 _ _ (λ le. after_settles f at bs more le)

-- ---- a damage is at the block

abbrev pub IsHere : ℕ → BlockStep → Type 0
IsHere at s = (p : ℕ) → s ≡ Decide (Err (Damaged p)) → p ≡ at

either : (at : ℕ) (b : Bool) (s t : BlockStep) → IsHere at s → IsHere at t → IsHere at (cond b s t)
either at true s t p q = p
either at false s t p q = q

here_wait : (at : ℕ) → IsHere at Wait
here_wait at p e = cc

here_skip : (at n : ℕ) (h : StreamHead) → IsHere at (Skip (3 + n) (Blocks (Some h)))
here_skip at n h p e = cc

here_damaged : (at : ℕ) → IsHere at (Decide (Err (Damaged at)))
here_damaged at p e = cc

here_unsupported : (at q : ℕ) → IsHere at (Decide (Err (Unsupported q)))
here_unsupported at q p e = cc

here_ok : (at : ℕ) (h : FlacHead) → IsHere at (Decide (Ok h))
here_ok at h p e = cc

closes_here : (size : ℕ) (head : StreamHead) (at : ℕ) (bs : List ℕ) → IsHere at (closes size head at bs)
closes_here size head at bs = either at (not (is_last bs)) _ _ (here_skip at size head) (either at (nat_lt (length bs) (4 + size)) _ _ (here_wait at) (here_ok at _))

info_here : (at : ℕ) (bs : List ℕ) → IsHere at (info at bs)
unfolding info
info_here at bs =
    either at (not (kind_of bs == 0 && number_24 1 bs == 34)) _ _ (here_damaged at)
    (either at (nat_lt (length bs) 38) _ _ (here_wait at) (either at (rate_in bs == 0) _ _ (here_unsupported at (at + 14))
    (either at (not (nat_le 4 (bits_in bs) && nat_le (bits_in bs) 24)) _ _ (here_unsupported at (at + 16))
    (closes_here 34 (sound_of (rate_in bs) (bits_in bs) (channels_in bs)) at bs))))

other_here : (head : StreamHead) (at : ℕ) (bs : List ℕ) → IsHere at (other head at bs)
unfolding other
other_here head at bs =
    either at (kind_of bs == 0) _ _ (here_damaged at) (either at (kind_of bs == 127) _ _ (here_damaged at)
    (closes_here (number_24 1 bs) head at bs))

after_here : (f : Option StreamHead) (at : ℕ) (bs : List ℕ) → IsHere at (after f at bs)
after_here None at bs = info_here at bs
after_here (Some head) at bs = other_here head at bs

pub block_damaged : (f : Option StreamHead) (at : ℕ) (bs : List ℕ) → IsHere at (block f at bs)
unfolding block
block_damaged f at bs = either at _ _ _ (here_wait at) (after_here f at bs)

waits_short : (b : Bool) (t : BlockStep) (p : ℕ) → cond b Wait t ≡ Decide (Err (Damaged p)) → b ≡ false
waits_short true t p e = cc
waits_short false t p e = refl

-- whose type and length are there
pub block_there : (f : Option StreamHead) (at : ℕ) (bs : List ℕ) (p : ℕ) → block f at bs ≡ Decide (Err (Damaged p)) → 4 ≤ length bs
unfolding block
block_there f at bs p e = not_less (length bs) 4 (waits_short (nat_lt (length bs) 4) (after f at bs) p e)
