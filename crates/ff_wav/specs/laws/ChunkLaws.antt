-- A step that a chunk decides is decided whatever follows.
use Rattle.std.proofs.Common.{◌≡◌, ℕ, zero, suc, ◌+◌, ◌<◌, ◌≤◌, ◌⊎◌, inl, inr, Bool, true, false, cond, List, [], ◌∷◌, ◌++◌, take, length, Option, Some, None, Result, Ok, Err, refl, sym, ap, ◌∙◌, arith, length-append}
use Rattle.std.specs.Prelude.{slice_index, nat_lt, codes, ◌==◌, ◌||◌, ◌%◌, not}
use Rattle.std.specs.Str.{bytes_eq}
use Rattle.std.proofs.lemmas.List.{take-append-le}
use Rattle.std.proofs.lemmas.Bool.Decides.{nat_tests}
use Rattle.ff_frame.specs.declared.head.StreamHead.{StreamHead}
use Rattle.ff_reader.specs.declared.fault.HeadFault.{HeadFault}
use Rattle.ff_reader.specs.declared.fault.HeadFault.TheVariants.{Damaged, Unsupported}
use Rattle.ff_reader.specs.declared.step.Step.TheVariants.{Wait, Decide, Skip}
use Rattle.ff_wav.specs.Chunks.{WavState, ChunkStep, WavStep, passed, number_16, number_32, number_64, format_of, step_of, fields, tagged, format_chunk, data_chunk, chunk, body_len, large_len, sizes_chunk, known, unit}

-- the first waits, or is the second
abbrev pub Settles : ChunkStep → ChunkStep → Type 0
Settles s t = (s ≡ Wait) ⊎ (s ≡ t)

settles_if : (b c : Bool) (s t s' t' : ChunkStep) → b ≡ c → Settles s s' → Settles t t' → Settles (cond b s t) (cond c s' t')
settles_if true true s t s' t' e p q = p
settles_if false false s t s' t' e p q = q
settles_if true false s t s' t' e p q = cc
settles_if false true s t s' t' e p q = cc

settles_decided : (b c : Bool) (s t t' : ChunkStep) → b ≡ c → Settles t t' → Settles (cond b s t) (cond c s t')
settles_decided b c s t t' e q = settles_if b c s t s t' e (inr refl) q

settles_wait_at : (b c : Bool) (t t' : ChunkStep) → (b ≡ false → (c ≡ false) × Settles t t') → Settles (cond b Wait t) (cond c Wait t')
settles_wait_at true c t t' h = inl refl
settles_wait_at false c t t' h = let r = h refl in settles_if false c Wait t Wait t' (sym r.0) (inl refl) r.1

not_less : (m n : ℕ) → nat_lt m n ≡ false → n ≤ m
not_less m n e = grind (arith, nat_tests)

not_less_yet : (m n : ℕ) → n ≤ m → nat_lt m n ≡ false
not_less_yet m n e = grind (arith, nat_tests)

-- a step that waits for so many bytes
settles_wait : (bs more : List ℕ) (k : ℕ) (t t' : ChunkStep) → (k ≤ length bs → Settles t t') → Settles (cond (nat_lt (length bs) k) Wait t) (cond (nat_lt (length (bs ++ more)) k) Wait t')
settles_wait bs more k t t' h = settles_wait_at (nat_lt (length bs) k) (nat_lt (length (bs ++ more)) k) t t'
    (λ e. let le : k ≤ length bs = not_less (length bs) k e in
    (not_less_yet (length (bs ++ more)) k (omega (arith, length-append bs more)), h le))

pub index_front : (bs more : List ℕ) (i : ℕ) → i < length bs → slice_index (bs ++ more) i ≡ slice_index bs i
index_front [] more i lt = absurd (omega arith)
index_front (b ∷ bs) more zero lt = refl
index_front (b ∷ bs) more (suc i) lt = index_front bs more i (omega arith)

front_16 : (bs more : List ℕ) (i : ℕ) → i + 2 ≤ length bs → number_16 i (bs ++ more) ≡ number_16 i bs
front_16 bs more i le = rw (index_front bs more i (omega arith), index_front bs more (i + 1) (omega arith)) refl

pub front_32 : (bs more : List ℕ) (i : ℕ) → i + 4 ≤ length bs → number_32 i (bs ++ more) ≡ number_32 i bs
front_32 bs more i le = let a = front_16 bs more i (omega arith) in let b = front_16 bs more (i + 2) (omega arith) in cc

fields_same : (at : ℕ) (bs more : List ℕ) → 24 ≤ length bs → fields at bs ≡ fields at (bs ++ more)
fields_same at bs more le =
    let size = front_32 bs more 4 (omega arith) in
    let channels = front_16 bs more 10 (omega arith) in
    let rate = front_32 bs more 12 (omega arith) in
    let block = front_16 bs more 20 (omega arith) in
    let bits = front_16 bs more 22 (omega arith) in
    cc

tagged_settles : (at : ℕ) (bs more : List ℕ) → 24 ≤ length bs → Settles (tagged at bs) (tagged at (bs ++ more))
unfolding tagged
tagged_settles at bs more le =
    let tag = sym (front_16 bs more 8 (omega arith)) in
    let size = sym (front_32 bs more 4 (omega arith)) in
    let same = fields_same at bs more le in
    settles_if _ _ _ _ _ _ (ap (λ n. n == 0xFFFE) tag)
    (settles_decided _ _ _ _ _ (ap (λ n. nat_lt n 40) size)
    (settles_wait bs more 48 _ _ (λ long. settles_decided _ _ _ _ _ (ap (λ n. not (n == 1)) (sym (front_16 bs more 32 (omega arith)))) (inr same))))
    (settles_decided _ _ _ _ _ (ap (λ n. not (n == 1)) tag) (inr same))

pub format_settles : (format : Option StreamHead) (at : ℕ) (bs more : List ℕ) → 8 ≤ length bs → Settles (format_chunk format at bs) (format_chunk format at (bs ++ more))
unfolding format_chunk
format_settles (Some format) at bs more le = inr (ap (λ n. passed n (Some format)) (sym (front_32 bs more 4 (omega arith))))
format_settles None at bs more le =
    settles_decided _ _ _ _ _ (ap (λ n. nat_lt n 16) (sym (front_32 bs more 4 (omega arith)))) (settles_wait bs more 24 _ _ (λ long. tagged_settles at bs more long))

data_same : (large : Option ℕ) (format : Option StreamHead) (at : ℕ) (bs more : List ℕ) → 8 ≤ length bs → data_chunk large format at bs ≡ data_chunk large format at (bs ++ more)
data_same large None at bs more le = refl
data_same large (Some format) at bs more le = ap (λ n. Decide (Ok (record { head = format; start = at + 8; len = body_len large n }))) (sym (front_32 bs more 4 (omega arith)))

-- what a chunk does is the same whatever follows, unless it waits
chunk_settles : (large : Option ℕ) (format : Option StreamHead) (at : ℕ) (bs more : List ℕ) → Settles (chunk large format at bs) (chunk large format at (bs ++ more))
unfolding chunk
chunk_settles large format at bs more = settles_wait bs more 8 _ _ (λ le.
    let id = sym (take-append-le 4 bs more (omega arith)) in
    settles_if _ _ _ _ _ _ (ap (λ w. bytes_eq w (codes "data")) id) (inr (data_same large format at bs more le))
    (settles_if _ _ _ _ _ _ (ap (λ w. bytes_eq w (codes "fmt ")) id) (format_settles format at bs more le)
    (inr (ap (λ n. passed n format) (sym (front_32 bs more 4 (omega arith)))))))

-- a damage is at the chunk
abbrev pub IsHere : ℕ → ChunkStep → Type 0
IsHere at s = (p : ℕ) → s ≡ Decide (Err (Damaged p)) → p ≡ at

either : (at : ℕ) (b : Bool) (s t : ChunkStep) → IsHere at s → IsHere at t → IsHere at (cond b s t)
either at true s t p q = p
either at false s t p q = q

here_wait : (at : ℕ) → IsHere at Wait
here_wait at p e = cc

here_skip : (at n : ℕ) (f : Option StreamHead) → IsHere at (passed n f)
here_skip at n f p e = cc

here_damaged : (at : ℕ) → IsHere at (Decide (Err (Damaged at)))
here_damaged at p e = cc

here_unsupported : (at q : ℕ) → IsHere at (Decide (Err (Unsupported q)))
here_unsupported at q p e = cc

step_here : (at size : ℕ) (r : Result StreamHead HeadFault) → ((p : ℕ) → r ≡ Err (Damaged p) → ⊥) → IsHere at (step_of size r)
step_here at size (Ok format) n p e = cc
step_here at size (Err end) n p e = absurd (n p (cc))

format_unsupported : (at channels rate block bits : ℕ) (p : ℕ) → format_of at channels rate block bits ≡ Err (Damaged p) → ⊥
unfolding format_of
format_unsupported at channels rate block bits p e = grind arith

fields_here : (at : ℕ) (bs : List ℕ) → IsHere at (fields at bs)
fields_here at bs = step_here at (number_32 4 bs) (format_of at (number_16 10 bs) (number_32 12 bs) (number_16 20 bs) (number_16 22 bs)) (format_unsupported at (number_16 10 bs) (number_32 12 bs) (number_16 20 bs) (number_16 22 bs))

tagged_here : (at : ℕ) (bs : List ℕ) → IsHere at (tagged at bs)
unfolding tagged
tagged_here at bs = either at _ _ _
    (either at _ _ _ (here_damaged at) (either at _ _ _ (here_wait at) (either at _ _ _ (here_unsupported at (at + 32)) (fields_here at bs))))
    (either at _ _ _ (here_unsupported at (at + 8)) (fields_here at bs))

pub format_here : (format : Option StreamHead) (at : ℕ) (bs : List ℕ) → IsHere at (format_chunk format at bs)
unfolding format_chunk
format_here (Some format) at bs = here_skip at _ _
format_here None at bs = either at _ _ _ (here_damaged at) (either at _ _ _ (here_wait at) (tagged_here at bs))

data_here : (large : Option ℕ) (format : Option StreamHead) (at : ℕ) (bs : List ℕ) → IsHere at (data_chunk large format at bs)
data_here large None at bs p e = here_damaged at p e
data_here large (Some format) at bs p e = cc

waits_short : (b : Bool) (t : ChunkStep) (p : ℕ) → cond b Wait t ≡ Decide (Err (Damaged p)) → (b ≡ false) × (t ≡ Decide (Err (Damaged p)))
waits_short true t p e = cc
waits_short false t p e = (refl, e)

-- a damage is at the chunk, whose id and size are there
chunk_damaged : (large : Option ℕ) (format : Option StreamHead) (at : ℕ) (bs : List ℕ) (p : ℕ) → chunk large format at bs ≡ Decide (Err (Damaged p)) → (p ≡ at) × (8 ≤ length bs)
unfolding chunk
chunk_damaged large format at bs p e =
    let r = waits_short (nat_lt (length bs) 8) _ p e in (
      either at (bytes_eq (take 4 bs) (codes "data")) _ _ (data_here large format at bs)
          (either at (bytes_eq (take 4 bs) (codes "fmt ")) _ _ (format_here format at bs) (here_skip at (number_32 4 bs) format)) p r.1,
      not_less (length bs) 8 r.0,
    )

-- ---- where sizes of 64 bits may be known

-- the first waits, or is the second
abbrev pub WavSettles : WavStep → WavStep → Type 0
WavSettles s t = (s ≡ Wait) ⊎ (s ≡ t)

known_settles : (large : Option ℕ) (s t : ChunkStep) → Settles s t → WavSettles (known large s) (known large t)
known_settles large s t (inl w) = inl (ap (known large) w)
known_settles large s t (inr e) = inr (ap (known large) e)

large_settles : (b c : Bool) (t t' : WavStep) → (b ≡ false → (c ≡ false) × WavSettles t t') → WavSettles (cond b Wait t) (cond c Wait t')
large_settles true c t t' h = inl refl
large_settles false c t t' h = let r = h refl in rw r.0 r.1

large_decides : (b c : Bool) (s t t' : WavStep) → b ≡ c → WavSettles t t' → WavSettles (cond b s t) (cond c s t')
large_decides true c s t t' e h = rw (sym e) (inr refl)
large_decides false c s t t' e h = rw (sym e) h

large_waits : (bs more : List ℕ) (k : ℕ) (t t' : WavStep) → (k ≤ length bs → WavSettles t t') → WavSettles (cond (nat_lt (length bs) k) Wait t) (cond (nat_lt (length (bs ++ more)) k) Wait t')
large_waits bs more k t t' h = large_settles (nat_lt (length bs) k) (nat_lt (length (bs ++ more)) k) t t'
    (λ e. let le : k ≤ length bs = not_less (length bs) k e in
    (not_less_yet (length (bs ++ more)) k (omega (arith, length-append bs more)), h le))

front_64 : (bs more : List ℕ) (i : ℕ) → i + 8 ≤ length bs → number_64 i (bs ++ more) ≡ number_64 i bs
front_64 bs more i le = let a = front_32 bs more i (omega arith) in let b = front_32 bs more (i + 4) (omega arith) in cc

abbrev sizes_known : ℕ → ℕ → WavStep
sizes_known size large = Skip (7 + size + size % 2) (Some (large_len large, None))

sizes_settles : (at : ℕ) (bs more : List ℕ) → WavSettles (sizes_chunk at bs) (sizes_chunk at (bs ++ more))
unfolding sizes_chunk
sizes_settles at bs more = large_waits bs more 8 _ _ (λ le.
    let id = sym (take-append-le 4 bs more (omega arith)) in
    let size = sym (front_32 bs more 4 (omega arith)) in
    large_decides _ _ _ _ _ (ap (λ w. not (bytes_eq w (codes "ds64")) || nat_lt (number_32 4 bs) 28) id ∙ ap (λ n. not (bytes_eq (take 4 (bs ++ more)) (codes "ds64")) || nat_lt n 28) size)
    (large_waits bs more 24 _ _ (λ long. inr (ap (λ n. sizes_known n (number_64 16 bs)) size ∙ ap (λ n. sizes_known (number_32 4 (bs ++ more)) n) (sym (front_64 bs more 16 (omega arith)))))))

-- what a chunk does is the same whatever follows, unless it waits
pub unit_settles : (state : WavState) (at : ℕ) (bs more : List ℕ) → WavSettles (unit state at bs) (unit state at (bs ++ more))
unit_settles None at bs more = sizes_settles at bs more
unit_settles (Some (large, format)) at bs more = known_settles large _ _ (chunk_settles large format at bs more)

known_damaged : (large : Option ℕ) (s : ChunkStep) (p : ℕ) → known large s ≡ Decide (Err (Damaged p)) → s ≡ Decide (Err (Damaged p))
known_damaged large Wait p e = cc
known_damaged large (Decide found) p e = cc
known_damaged large (Skip size format) p e = cc

sizes_damaged : (at : ℕ) (bs : List ℕ) (p : ℕ) → sizes_chunk at bs ≡ Decide (Err (Damaged p)) → (p ≡ at) × (8 ≤ length bs)
unfolding sizes_chunk
sizes_damaged at bs p e = pick (nat_lt (length bs) 8) _ (nat_lt (length bs) 24) refl e
  where
    pick : (a b c : Bool) → nat_lt (length bs) 8 ≡ a
        → cond a Wait (cond b (Decide (Err (Damaged at))) (cond c Wait (sizes_known (number_32 4 bs) (number_64 16 bs)))) ≡ Decide (Err (Damaged p)) → (p ≡ at) × (8 ≤ length bs)
    pick true b c a h = cc
    pick false true c a h = (cc, not_less (length bs) 8 a)
    pick false false true a h = cc
    pick false false false a h = cc

-- a damage is at the chunk, whose id and size are there
pub unit_damaged : (state : WavState) (at : ℕ) (bs : List ℕ) (p : ℕ) → unit state at bs ≡ Decide (Err (Damaged p)) → (p ≡ at) × (8 ≤ length bs)
unit_damaged None at bs p e = sizes_damaged at bs p e
unit_damaged (Some (large, format)) at bs p e = chunk_damaged large format at bs p (known_damaged large (chunk large format at bs) p e)
