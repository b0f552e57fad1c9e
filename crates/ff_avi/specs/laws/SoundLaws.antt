-- What is read is a sound head, and what is known is kept.
use Rattle.std.proofs.Common.{◌≡◌, ℕ, ◌+◌, ◌-◌, ◌≤◌, Bool, true, false, cond, List, drop, length, Option, Some, None, Result, Ok, Err, refl, arith}
use Rattle.std.specs.Prelude.{nat_lt, codes, ◌==◌, ◌&&◌, ◌||◌, not, IfSome}
use Rattle.std.specs.Str.{bytes_eq}
use Rattle.std.proofs.lemmas.Bool.Decides.{nat_tests}
use Rattle.ff_time.specs.Fraction.{Fraction, IsBase}
use Rattle.ff_frame.specs.Video.{IsSide}
use Rattle.ff_frame.specs.Sizes.{is_side}
use Rattle.ff_frame.specs.declared.head.StreamHead.{StreamHead}
use Rattle.ff_frame.specs.declared.head.StreamHead.TheVariants as head
use Rattle.ff_frame.specs.declared.video.Format.TheVariants.{C420}
use Rattle.ff_pcm.specs.body.Packets.{IsHead as IsPcmHead, IsStream as IsPcmStream}
use Rattle.ff_reader.specs.declared.fault.HeadFault.{HeadFault}
use Rattle.ff_reader.specs.declared.fault.HeadFault.TheVariants.{Damaged, Unsupported}
use Rattle.ff_reader.specs.declared.step.Step.TheVariants.{Wait, Decide, Skip}
use Rattle.ff_reader.specs.Walks.{head_limit, IsKept, Keeps}
use Rattle.ff_wav.specs.Chunks.{ChunkStep, number_32, format_chunk}
use Rattle.ff_wav.specs.laws.SoundLaws.{format_fine}
use Rattle.ff_avi.specs.declared.head.AviState.{AviState}
use Rattle.ff_avi.specs.declared.kind.StreamKind.{StreamKind}
use Rattle.ff_avi.specs.declared.kind.StreamKind.TheVariants.{Video, Audio}
use Rattle.ff_avi.specs.Streams.{padded, word, is_pictures, is_sound, has_pictures, has_sound, base_in, video_kind, header_of, Told, pictures_of, pictures_in}
use Rattle.ff_avi.specs.Streams.{told_by, format_in, format_place, behind_header, stream_in}
use Rattle.ff_avi.specs.Lists.{AviStep, rest_of, passed, with_stream, after_stream, data_list, outer_list, inner_list, unit}
use Rattle.ff_avi.specs.Sound.{IsStream, AreApart, IsHead, IsKnown}
use Rattle.ff_avi.specs.laws.BaseLaws.{base_sound}
use Rattle.ff_avi.specs.laws.StreamLaws.{not_less}

-- ---- the list of a stream tells a sound one, of a kind that isn't known

-- this kind may follow what is known of the first stream
Follows : Option StreamHead → StreamKind → Type 0
Follows first (Video base) = IsBase base × (is_pictures first ≡ false)
Follows first Audio = is_sound first ≡ false

-- a sound stream of another kind than the first
record Fits (first : Option StreamHead) (stream : StreamHead) : Type 0 where
  sound : IsStream stream
  apart : IfSome first (λ one. is_pictures (Some one) ≡ not (is_pictures (Some stream)))

AllFit : Option StreamHead → Told → Type 0
AllFit first told = (stream : StreamHead) → told ≡ Some (Ok stream) → Fits first stream

abbrev told : Result StreamHead HeadFault → Told
told found = Some found

fit_if : (first : Option StreamHead) (b : Bool) (s t : Told) → AllFit first s → AllFit first t → AllFit first (cond b s t)
fit_if first true s t p q = p
fit_if first false s t p q = q

fit_none : (first : Option StreamHead) → AllFit first None
unfolding AllFit
fit_none first stream e = cc

fit_wait : (first : Option StreamHead) (bs : List ℕ) (k : ℕ) (t : Told) → (k ≤ length bs → AllFit first t) → AllFit first (cond (nat_lt (length bs) k) None t)
fit_wait first bs k t h = pick (nat_lt (length bs) k) refl
  where
    pick : (b : Bool) → nat_lt (length bs) k ≡ b → AllFit first (cond b None t)
    pick true e = fit_none first
    pick false e = h (not_less (length bs) k e)

fit_fault : (first : Option StreamHead) (fault : HeadFault) → AllFit first (Some (Err fault))
unfolding AllFit
fit_fault first fault stream e = cc

side_good : (n : ℕ) → not (is_side n) ≡ false → IsSide n
side_good n e = (grind (arith, nat_tests), grind (arith, nat_tests))

not_pictures : (first : Option StreamHead) → is_pictures first ≡ false → IfSome first (λ one. is_pictures (Some one) ≡ false)
not_pictures None e = tt
not_pictures (Some one) e = e

not_sound : (first : Option StreamHead) → is_sound first ≡ false → IfSome first (λ one. is_pictures (Some one) ≡ true)
not_sound None e = tt
not_sound (Some (head.Audio base rate bits channels codec)) e = cc
not_sound (Some (head.Video base format width height sar_num sar_den)) e = refl

pictures_fit : (first : Option StreamHead) (at : ℕ) (base : Fraction) (width height : ℕ) (code : List ℕ) → IsBase base → is_pictures first ≡ false
    → AllFit first (Some (pictures_of at base width height code))
unfolding AllFit pictures_of
pictures_fit first at base width height code sound new stream =
    pick (not (is_side width)) (not (is_side height)) (not (bytes_eq code (codes "I420") || bytes_eq code (codes "IYUV"))) refl refl
  where
    pick : (a b c : Bool) → not (is_side width) ≡ a → not (is_side height) ≡ b
        → told (cond a (Err (Unsupported (at + 12))) (cond b (Err (Unsupported (at + 16)))
        (cond c (Err (Unsupported (at + 24))) (Ok (head.Video base C420 width height 0 0)))))
        ≡ Some (Ok stream) → Fits first stream
    pick true b c ea eb e = cc
    pick false true c ea eb e = cc
    pick false false true ea eb e = cc
    pick false false false ea eb e =
        let same : head.Video base C420 width height 0 0 ≡ stream = cc in
        rw (← same) record { sound = record { ticks = sound; form = refl; columns = side_good width ea; rows = side_good height eb }; apart = not_pictures first new }

video_fits : (first : Option StreamHead) (at : ℕ) (base : Fraction) (bs : List ℕ) → IsBase base → is_pictures first ≡ false → AllFit first (pictures_in at base bs)
unfolding pictures_in
video_fits first at base bs sound new = fit_if first _ _ _ (fit_fault first (Damaged at)) (fit_wait first bs 48 _
    (λ long. pictures_fit first at base (number_32 12 bs) (number_32 16 bs) (word 24 bs) sound new))

sound_fits : (first : Option StreamHead) (stream : StreamHead) → IsPcmStream stream → is_sound first ≡ false → Fits first stream
sound_fits first (head.Audio base rate bits channels codec) sound new = record { sound = sound; apart = not_sound first new }
sound_fits first (head.Video base format width height sar_num sar_den) sound new = absurd sound

told_fits : (first : Option StreamHead) (step : ChunkStep) → IsKept (λ f. IfSome f IsPcmStream) IsPcmHead step → is_sound first ≡ false → AllFit first (told_by step)
unfolding AllFit
told_fits first Wait kept new stream e = cc
told_fits first (Decide (Ok found)) kept new stream e = let same : found.head ≡ stream = cc in rw (← same) (sound_fits first found.head kept.stream new)
told_fits first (Decide (Err fault)) kept new stream e = cc
told_fits first (Skip size None) kept new stream e = cc
told_fits first (Skip size (Some one)) kept new stream e = let same : one ≡ stream = cc in rw (← same) (sound_fits first one kept new)

format_fits : (first : Option StreamHead) (at : ℕ) (kind : StreamKind) (bs : List ℕ) → Follows first kind → at ≤ head_limit → AllFit first (format_in at kind bs)
unfolding Follows
format_fits first at (Video base) bs follows le = video_fits first at base bs follows.0 follows.1
format_fits first at Audio bs follows le = told_fits first (format_chunk None at bs) (format_fine None at bs tt le) follows

or_first : (a b : Bool) → not (a || b) ≡ true → a ≡ false
or_first true b e = cc
or_first false b e = refl

and_second : (a b : Bool) → (a && b) ≡ true → b ≡ true
and_second true b e = e
and_second false b e = cc

header_follows : (known : AviState) (at : ℕ) (bs : List ℕ) (kind : StreamKind) → header_of known at bs ≡ Ok kind → Follows known.first kind
unfolding header_of Follows
header_follows known at bs kind =
    pick (bytes_eq (word 20 bs) (codes "vids") && not (has_pictures known)) (bytes_eq (word 20 bs) (codes "auds") && not (has_sound known)) refl refl
    (base_in at (number_32 40 bs) (number_32 44 bs)) (base_sound at (number_32 40 bs) (number_32 44 bs))
  where
    video : (r : Result Fraction HeadFault) → ((base : Fraction) → r ≡ Ok base → IsBase base)
        → is_pictures known.first ≡ false → video_kind r ≡ Ok kind → Follows known.first kind
    video (Ok base) sound new e = let same : Video base ≡ kind = cc in rw (← same) (sound base refl, new)
    video (Err fault) sound new e = cc

    pick : (a b : Bool) → (bytes_eq (word 20 bs) (codes "vids") && not (has_pictures known)) ≡ a → (bytes_eq (word 20 bs) (codes "auds") && not (has_sound known)) ≡ b
        → (r : Result Fraction HeadFault) → ((base : Fraction) → r ≡ Ok base → IsBase base)
        → cond a (video_kind r) (cond b (Ok Audio) (Err (Unsupported (at + 20)))) ≡ Ok kind → Follows known.first kind
    pick true b ea eb r sound e = video r sound (or_first (is_pictures known.first) (is_pictures known.second) (and_second _ _ ea)) e
    pick false true ea eb r sound e =
        let same : Audio ≡ kind = cc in
        rw (← same) (or_first (is_sound known.first) (is_sound known.second) (and_second _ _ eb))
    pick false false ea eb r sound e = cc

behind_fits : (first : Option StreamHead) (at place : ℕ) (found : Result StreamKind HeadFault) (bs : List ℕ)
    → ((kind : StreamKind) → found ≡ Ok kind → Follows first kind)
    → at + length bs ≤ head_limit → AllFit first (behind_header at place found bs)
behind_fits first at place (Err fault) bs follows le = fit_fault first fault
behind_fits first at place (Ok kind) bs follows le = fit_if first _ _ _ (fit_fault first (Damaged at)) (fit_wait first bs (place + 8) _ (λ long.
    fit_if first _ _ _ (fit_fault first (Damaged at)) (format_fits first (at + place) kind (drop place bs) (follows kind refl) (omega arith))))

stream_fits : (known : AviState) (at : ℕ) (bs : List ℕ) → at + length bs ≤ head_limit → AllFit known.first (stream_in known at bs)
unfolding stream_in
stream_fits known at bs le =
    let here : AllFit known.first (Some (Err (Damaged at))) = fit_fault known.first (Damaged at) in
    fit_if known.first _ _ _ here (fit_wait known.first bs 20 _ (λ longer. fit_if known.first _ _ _ here (fit_wait known.first bs 76 _ (λ long.
    behind_fits known.first at (format_place bs) (header_of known at bs) bs (header_follows known at bs) le))))

-- ---- what is known is kept

Kept : AviStep → Type 0
Kept step = IsKept IsKnown IsHead step

kept_if : (b : Bool) (s t : AviStep) → Kept s → Kept t → Kept (cond b s t)
kept_if true s t p q = p
kept_if false s t p q = q

kept_none : Kept Wait
unfolding Kept
kept_none = tt

kept_wait : (bs : List ℕ) (k : ℕ) (t : AviStep) → (k ≤ length bs → Kept t) → Kept (cond (nat_lt (length bs) k) Wait t)
kept_wait bs k t h = pick (nat_lt (length bs) k) refl
  where
    pick : (b : Bool) → nat_lt (length bs) k ≡ b → Kept (cond b Wait t)
    pick true e = kept_none
    pick false e = h (not_less (length bs) k e)

kept_fault : (fault : HeadFault) → Kept (Decide (Err fault))
unfolding Kept
kept_fault fault = tt

kept_skip : (size left : ℕ) (known : AviState) → IsKnown known → Kept (Skip size (record known { left = left }))
unfolding Kept
kept_skip size left known k = record { first = k.first; second = k.second; apart = k.apart; order = k.order }

kept_on : (size : ℕ) (known : AviState) → IsKnown known → Kept (Skip size known)
unfolding Kept
kept_on size known k = k

passed_kept : (known : AviState) (rest : ℕ) → IsKnown known → Kept (passed known rest)
unfolding passed
passed_kept known rest k = pick (known.left == 0) (nat_lt (rest + 1) known.left)
  where
    pick : (a b : Bool) → Kept (cond a (Skip rest known)
        (cond b (Skip rest (record known { left = known.left - (rest + 1) })) (Skip (padded known.left - 1) (record known { left = 0 }))))
    pick true b = kept_on rest known k
    pick false true = kept_skip _ _ known k
    pick false false = kept_skip _ _ known k

with_known : (known : AviState) (stream : StreamHead) (first : Option StreamHead) → known.first ≡ first
    → IsKnown known → Fits first stream → IsKnown (with_stream known first stream)
with_known known stream None e k fits = record { first = fits.sound; second = k.second; apart = apart known.second (rw e at k.order); order = tt }
  where
    apart : (second : Option StreamHead) → second ≡ None → AreApart (Some stream) second
    apart None n = tt
    apart (Some one) n = cc
with_known known stream (Some one) e k fits =
    record { first = k.first; second = fits.sound; apart = rw e fits.apart; order = rw e tt }

after_kept : (known : AviState) (rest : ℕ) (told : Told) → IsKnown known → AllFit known.first told → Kept (after_stream known rest told)
unfolding AllFit
after_kept known rest None k fits = kept_none
after_kept known rest (Some (Err fault)) k fits = kept_fault fault
after_kept known rest (Some (Ok stream)) k fits = passed_kept (with_stream known known.first stream) rest (with_known known stream known.first refl k (fits stream refl))

data_kept : (at : ℕ) (known : AviState) (first : Option StreamHead) → known.first ≡ first → IsKnown known → at + 12 ≤ head_limit → Kept (data_list first known.second at)
unfolding Kept
data_kept at known None e k le = tt
data_kept at known (Some first) e k le = record { first = rw e at k.first; second = k.second; apart = rw e at k.apart; start = le }

outer_kept : (known : AviState) (at : ℕ) (bs : List ℕ) → IsKnown known → at + length bs ≤ head_limit → 12 ≤ length bs → Kept (outer_list known at bs)
unfolding outer_list
outer_kept known at bs k le long =
    kept_if _ _ _ (data_kept at known known.first refl k (omega arith)) (kept_if _ _ _ (kept_skip _ _ known k) (passed_kept known (rest_of bs) k))

inner_kept : (known : AviState) (at : ℕ) (bs : List ℕ) → IsKnown known → at + length bs ≤ head_limit → Kept (inner_list known at bs)
unfolding inner_list
inner_kept known at bs k le = kept_if _ _ _ (after_kept known (rest_of bs) _ k (stream_fits known at bs le)) (passed_kept known (rest_of bs) k)

steps_kept : (known : AviState) (at : ℕ) (bs : List ℕ) → IsKnown known → at + length bs ≤ head_limit → Kept (unit known at bs)
unfolding unit
steps_kept known at bs k le =
    let on : Kept (passed known (rest_of bs)) = passed_kept known (rest_of bs) k in
    kept_wait bs 8 _ (λ short. kept_if _ _ _ on (kept_if _ _ _ on (kept_wait bs 12 _ (λ long.
    kept_if _ _ _ (outer_kept known at bs k le long) (inner_kept known at bs k le)))))

-- behind what is known a chunk or list gives a sound head, or goes on with what is known
pub is_kept : Keeps IsKnown IsHead unit
unfolding Kept
is_kept = steps_kept
