-- What the list of a stream says, it says whatever follows.
use Rattle.std.proofs.Common.{◌≡◌, ℕ, ◌+◌, ◌≤◌, ◌⊎◌, inl, inr, Bool, true, false, cond, List, ◌++◌, take, drop, length, Some, None, Result, Ok, Err, refl, sym, ap}
use Rattle.std.proofs.Common.{◌∙◌, arith, length-append, length-drop}
use Rattle.std.specs.Prelude.{nat_lt, codes, ◌||◌, ◌&&◌, not}
use Rattle.std.specs.Str.{bytes_eq}
use Rattle.std.proofs.lemmas.List.{take-append-le, drop-append-le}
use Rattle.std.proofs.lemmas.Bool.Decides.{nat_tests}
use Rattle.ff_time.specs.Fraction.{Fraction}
use Rattle.ff_frame.specs.declared.head.StreamHead.{StreamHead}
use Rattle.ff_reader.specs.declared.fault.HeadFault.{HeadFault}
use Rattle.ff_reader.specs.declared.fault.HeadFault.TheVariants.{Damaged, Unsupported}
use Rattle.ff_reader.specs.declared.step.Step.TheVariants.{Wait, Decide, Skip}
use Rattle.ff_wav.specs.Chunks.{ChunkStep, number_32, format_chunk}
use Rattle.ff_wav.specs.laws.ChunkLaws.{front_32, format_settles, format_here}
use Rattle.ff_avi.specs.declared.head.AviState.{AviState}
use Rattle.ff_avi.specs.declared.kind.StreamKind.{StreamKind}
use Rattle.ff_avi.specs.declared.kind.StreamKind.TheVariants.{Video, Audio}
use Rattle.ff_avi.specs.Streams.{word, has_pictures, has_sound, base_in, video_kind, header_of, Told, pictures_of, pictures_in, told_by, format_in, format_place}
use Rattle.ff_avi.specs.Streams.{behind_header, stream_in}
use Rattle.ff_avi.specs.laws.BaseLaws.{base_undamaged}

-- the first waits, or is the second
abbrev pub Settles : {A : Type 0} → A → A → A → Type 0
Settles wait s t = (s ≡ wait) ⊎ (s ≡ t)

pub settles_decided : {A : Type 0} (wait : A) (b c : Bool) (s t t' : A) → b ≡ c → Settles wait t t' → Settles wait (cond b s t) (cond c s t')
settles_decided wait true true s t t' e q = inr refl
settles_decided wait false false s t t' e q = q
settles_decided wait true false s t t' e q = cc
settles_decided wait false true s t t' e q = cc

pub settles_if : {A : Type 0} (wait : A) (b c : Bool) (s t s' t' : A) → b ≡ c → Settles wait s s' → Settles wait t t' → Settles wait (cond b s t) (cond c s' t')
settles_if wait true true s t s' t' e p q = p
settles_if wait false false s t s' t' e p q = q
settles_if wait true false s t s' t' e p q = cc
settles_if wait false true s t s' t' e p q = cc

settles_later : {A : Type 0} (wait : A) (b c : Bool) (t t' : A) → (b ≡ false → (c ≡ false) × Settles wait t t') → Settles wait (cond b wait t) (cond c wait t')
settles_later wait true c t t' h = inl refl
settles_later wait false c t t' h = let r = h refl in rw r.0 r.1

pub not_less : (m n : ℕ) → nat_lt m n ≡ false → n ≤ m
not_less m n e = grind (arith, nat_tests)

not_less_yet : (m n : ℕ) → n ≤ m → nat_lt m n ≡ false
not_less_yet m n e = grind (arith, nat_tests)

-- what waits for so many bytes
pub settles_wait : {A : Type 0} (wait : A) (bs more : List ℕ) (k : ℕ) (t t' : A) → (k ≤ length bs → Settles wait t t')
    → Settles wait (cond (nat_lt (length bs) k) wait t) (cond (nat_lt (length (bs ++ more)) k) wait t')
settles_wait wait bs more k t t' h = settles_later wait (nat_lt (length bs) k) (nat_lt (length (bs ++ more)) k) t t'
    (λ e. let le : k ≤ length bs = not_less (length bs) k e in
    (not_less_yet (length (bs ++ more)) k (omega (arith, length-append bs more)), h le))

pub front_word : (place : ℕ) (bs more : List ℕ) → place + 4 ≤ length bs → word place bs ≡ word place (bs ++ more)
front_word place bs more le =
    let front = drop-append-le place bs more (omega arith) in
    let all = take-append-le 4 (drop place bs) more (omega (arith, length-drop place bs)) in
    sym (ap (take 4) front ∙ all)

-- ---- the format

pictures_settle : (at : ℕ) (base : Fraction) (bs more : List ℕ) → 8 ≤ length bs → Settles None (pictures_in at base bs) (pictures_in at base (bs ++ more))
unfolding pictures_in
pictures_settle at base bs more le = settles_decided None _ _ _ _ _ (ap (λ n. nat_lt n 40) (sym (front_32 bs more 4 (omega arith))))
    (settles_wait None bs more 48 _ _ (λ long.
    let width = sym (front_32 bs more 12 (omega arith)) in
    let height = sym (front_32 bs more 16 (omega arith)) in
    let code = front_word 24 bs more (omega arith) in
    inr (ap Some (ap (λ n. pictures_of at base n (number_32 16 bs) (word 24 bs)) width
    ∙ (ap (λ n. pictures_of at base (number_32 12 (bs ++ more)) n (word 24 bs)) height
    ∙ ap (λ w. pictures_of at base (number_32 12 (bs ++ more)) (number_32 16 (bs ++ more)) w) code)))))

told_settles : (s t : ChunkStep) → Settles Wait s t → Settles None (told_by s) (told_by t)
told_settles s t (inl e) = inl (ap told_by e)
told_settles s t (inr e) = inr (ap told_by e)

format_settle : (at : ℕ) (kind : StreamKind) (bs more : List ℕ) → 8 ≤ length bs → Settles None (format_in at kind bs) (format_in at kind (bs ++ more))
format_settle at (Video base) bs more le = pictures_settle at base bs more le
format_settle at Audio bs more le = told_settles _ _ (format_settles None at bs more le)

-- ---- the list

behind_settles : (at place : ℕ) (found : Result StreamKind HeadFault) (bs more : List ℕ) → 8 ≤ length bs
    → Settles None (behind_header at place found bs) (behind_header at place found (bs ++ more))
behind_settles at place (Err fault) bs more le = inr refl
behind_settles at place (Ok kind) bs more le = settles_decided None _ _ _ _ _ (ap (λ n. nat_lt n place) (sym (front_32 bs more 4 (omega arith))))
    (settles_wait None bs more (place + 8) _ _ (λ long.
    settles_decided None _ _ _ _ _ (ap (λ w. not (bytes_eq w (codes "strf"))) (front_word place bs more (omega arith)))
    (let front = drop-append-le place bs more (omega arith) in
    rw front (format_settle (at + place) kind (drop place bs) more (omega (arith, length-drop place bs))))))

header_same : (known : AviState) (at : ℕ) (bs more : List ℕ) → 76 ≤ length bs → header_of known at bs ≡ header_of known at (bs ++ more)
unfolding header_of
header_same known at bs more le =
    let kind = front_word 20 bs more (omega arith) in
    let scale = front_32 bs more 40 (omega arith) in
    let rate = front_32 bs more 44 (omega arith) in
    rw (kind, scale, rate) refl

pub stream_settles : (known : AviState) (at : ℕ) (bs more : List ℕ) → 12 ≤ length bs → Settles None (stream_in known at bs) (stream_in known at (bs ++ more))
unfolding stream_in
stream_settles known at bs more le = settles_decided None _ _ _ _ _ (ap (λ n. nat_lt n 12) (sym (front_32 bs more 4 (omega arith))))
    (settles_wait None bs more 20 _ _ (λ longer. settles_decided None _ _ _ _ _
    (ap (λ w. not (bytes_eq w (codes "strh")) || nat_lt (number_32 16 bs) 56) (front_word 12 bs more (omega arith))
    ∙ ap (λ n. not (bytes_eq (word 12 (bs ++ more)) (codes "strh")) || nat_lt n 56) (sym (front_32 bs more 16 (omega arith))))
    (settles_wait None bs more 76 _ _ (λ long.
    let place = sym (front_32 bs more 16 (omega arith)) in
    let same = header_same known at bs more long in
    rw (sym place, sym same) (behind_settles at (format_place bs) (header_of known at bs) bs more (omega arith))))))

-- ---- a damage is 8 bytes before the end of what is there, or further before it

unfoldable pub IsNear : ℕ → Told → Type 0
IsNear end told = (p : ℕ) → told ≡ Some (Err (Damaged p)) → p + 8 ≤ end

near_if : (end : ℕ) (b : Bool) (s t : Told) → IsNear end s → IsNear end t → IsNear end (cond b s t)
near_if end true s t p q = p
near_if end false s t p q = q

near_none : (end : ℕ) → IsNear end None
unfolding IsNear
near_none end p e = cc

near_wait : (end : ℕ) (bs : List ℕ) (k : ℕ) (t : Told) → (k ≤ length bs → IsNear end t) → IsNear end (cond (nat_lt (length bs) k) None t)
near_wait end bs k t h = pick (nat_lt (length bs) k) refl
  where
    pick : (b : Bool) → nat_lt (length bs) k ≡ b → IsNear end (cond b None t)
    pick true e = near_none end
    pick false e = h (not_less (length bs) k e)

near_damaged : (end at : ℕ) → at + 8 ≤ end → IsNear end (Some (Err (Damaged at)))
unfolding IsNear
near_damaged end at le p e = let same : at ≡ p = cc in omega arith

near_found : (end : ℕ) (found : Result StreamHead HeadFault) → ((p : ℕ) → found ≡ Err (Damaged p) → ⊥) → IsNear end (Some found)
unfolding IsNear
near_found end found never p e = absurd (never p (cc))

pictures_undamaged : (at : ℕ) (base : Fraction) (width height : ℕ) (code : List ℕ) (p : ℕ) → pictures_of at base width height code ≡ Err (Damaged p) → ⊥
unfolding pictures_of
pictures_undamaged at base width height code p e = grind arith

pictures_near : (end at : ℕ) (base : Fraction) (bs : List ℕ) → at + 8 ≤ end → IsNear end (pictures_in at base bs)
unfolding pictures_in
pictures_near end at base bs le = near_if end _ _ _ (near_damaged end at le) (near_wait end bs 48 _ (λ long.
    near_found end _ (pictures_undamaged at base (number_32 12 bs) (number_32 16 bs) (word 24 bs))))

told_near : (end at : ℕ) (step : ChunkStep) → ((p : ℕ) → step ≡ Decide (Err (Damaged p)) → p ≡ at) → at + 8 ≤ end → IsNear end (told_by step)
unfolding IsNear
told_near end at Wait h le p e = cc
told_near end at (Decide (Ok found)) h le p e = cc
told_near end at (Decide (Err fault)) h le p e = let same : p ≡ at = h p (cc) in omega arith
told_near end at (Skip size None) h le p e = cc
told_near end at (Skip size (Some head)) h le p e = cc

format_near : (end at : ℕ) (kind : StreamKind) (bs : List ℕ) → at + 8 ≤ end → IsNear end (format_in at kind bs)
format_near end at (Video base) bs le = pictures_near end at base bs le
format_near end at Audio bs le = told_near end at (format_chunk None at bs) (format_here None at bs) le

header_undamaged : (known : AviState) (at : ℕ) (bs : List ℕ) (p : ℕ) → header_of known at bs ≡ Err (Damaged p) → ⊥
unfolding header_of
header_undamaged known at bs p e =
    pick (bytes_eq (word 20 bs) (codes "vids") && not (has_pictures known)) (bytes_eq (word 20 bs) (codes "auds") && not (has_sound known))
    (base_in at (number_32 40 bs) (number_32 44 bs)) (λ q. base_undamaged at (number_32 40 bs) (number_32 44 bs) q) e
  where
    video : (r : Result Fraction HeadFault) → ((q : ℕ) → r ≡ Err (Damaged q) → ⊥) → video_kind r ≡ Err (Damaged p) → ⊥
    video (Ok base) h f = cc
    video (Err fault) h f = h p (cc)

    pick : (a b : Bool) (r : Result Fraction HeadFault) → ((q : ℕ) → r ≡ Err (Damaged q) → ⊥)
        → cond a (video_kind r) (cond b (Ok Audio) (Err (Unsupported (at + 20)))) ≡ Err (Damaged p) → ⊥
    pick true b r h f = video r h f
    pick false true r h f = cc
    pick false false r h f = cc

behind_near : (at place : ℕ) (found : Result StreamKind HeadFault) (bs : List ℕ) → ((p : ℕ) → found ≡ Err (Damaged p) → ⊥) → 8 ≤ length bs
    → IsNear (at + length bs) (behind_header at place found bs)
behind_near at place (Err fault) bs h le = near_found (at + length bs) (Err fault) (λ p e. h p (cc))
behind_near at place (Ok kind) bs h le =
    let end : ℕ = at + length bs in
    near_if end _ _ _ (near_damaged end at (omega arith)) (near_wait end bs (place + 8) _ (λ long.
    near_if end _ _ _ (near_damaged end at (omega arith)) (format_near end (at + place) kind (drop place bs) (omega arith))))

pub stream_near : (known : AviState) (at : ℕ) (bs : List ℕ) → 12 ≤ length bs → IsNear (at + length bs) (stream_in known at bs)
unfolding stream_in
stream_near known at bs le =
    let end : ℕ = at + length bs in
    let here : IsNear end (Some (Err (Damaged at))) = near_damaged end at (omega arith) in
    near_if end _ _ _ here (near_wait end bs 20 _ (λ longer. near_if end _ _ _ here (near_wait end bs 76 _ (λ long.
    behind_near at (format_place bs) (header_of known at bs) bs (header_undamaged known at bs) (omega arith)))))
