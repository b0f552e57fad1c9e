-- What the first bytes decide, in either form of WAV.
use Rattle.std.proofs.Common.{◌≡◌, ℕ, subst, ◌+◌, ◌<◌, ◌≤◌, ◌⊎◌, inl, inr, Bool, true, false, cond, List, [], ◌∷◌, Result, ◌++◌, take, drop, length, Some, None, Ok, Err, refl, sym, ap, ◌∙◌, arith, append-nil, append_assoc, length-append, lit≤}
use Rattle.std.specs.Prelude.{◌↔◌, ◌==◌, ◌&&◌, IfOk, unwrap_or}
use Rattle.std.proofs.lemmas.Bool.Decides.{nat_tests}
use Rattle.std.proofs.lemmas.List.{length-drop, take_all, drop_all}
use Rattle.std.proofs.lemmas.List.Elements.{All-nil, All-drop}
use Rattle.ff_frame.specs.declared.cut.HeadEnd.{HeadEnd}
use Rattle.ff_frame.specs.declared.cut.HeadEnd.TheVariants as end
use Rattle.ff_reader.specs.Heads.{IsOpen, Stays, Opens, answered, answered_or, head as head_of, answer as answer_of}
use Rattle.ff_reader.specs.Walks.{Grammar, agrees, walk, walked, within, head_limit, reading as read_within, Reached, IsReached as IsReachedBy, answer_by, head_by}
use Rattle.ff_reader.proofs.AgreeLaws.{bool_cases, agrees-append, agrees_long, agrees_complete, filled, filled_bytes, length_filled}
use Rattle.ff_reader.proofs.AnswerLaws.{head_none, early_long, early_short, answer_not_yet as not_yet_by, answer_decided as decided_by, answer_stays as stays_by, answer_sound as sound_by}
use Rattle.ff_reader.proofs.ReadingLaws.{reading_at, reading_stays as stays_within, reading_opens as opens_within, reading_sound as sound_within, early_sound, within_short}
use Rattle.ff_reader.proofs.WalkLaws.{walk-drop}
use Rattle.ff_pcm.specs.body.Packets.{IsHead}
use Rattle.ff_pcm.specs.declared.body.head.PcmHead.{PcmHead as WavHead}
use Rattle.ff_wav.specs.Chunks.{unit}
use Rattle.ff_wav.specs.Heads.{WavWalk, Found, riff_grammar, rf64_grammar, riff_magic, rf64_magic, fork, is_rf64, reading, early, head, answer, IsReached}
use Rattle.ff_wav.specs.laws.HeadLaws.{riff_lawful, rf64_lawful}
use Rattle.ff_wav.specs.laws.SoundLaws.{IsKnown, is_kept}

-- by the form that the first bytes tell
pub reading_rf64 : (bs : List ℕ) → is_rf64 bs ≡ true → reading bs ≡ read_within rf64_grammar head_limit bs
reading_rf64 bs e = ap (λ b. cond b (read_within rf64_grammar head_limit bs) (read_within riff_grammar head_limit bs)) e

pub reading_riff : (bs : List ℕ) → is_rf64 bs ≡ false → reading bs ≡ read_within riff_grammar head_limit bs
reading_riff bs e = ap (λ b. cond b (read_within rf64_grammar head_limit bs) (read_within riff_grammar head_limit bs)) e

-- two bytes that tell it tell it whatever follows
told_long : (bs more : List ℕ) → 2 ≤ length bs → is_rf64 (bs ++ more) ≡ is_rf64 bs
told_long bs more le = agrees_long fork bs more le

-- whole first words tell it
pub magic_told : (bs : List ℕ) → agrees rf64_magic bs ≡ true → is_rf64 bs ≡ true
magic_told [] e = refl
magic_told (b ∷ []) e = e
magic_told (b ∷ c ∷ bs) e = both (b == 82) (c == 70) (agrees (drop 2 rf64_magic) bs) e
  where
    both : (x y z : Bool) → (x && (y && z)) ≡ true → (x && (y && true)) ≡ true
    both true true z e = refl
    both true false z e = cc
    both false y z e = cc

pub riff_told : (bs : List ℕ) → 2 ≤ length bs → agrees riff_magic bs ≡ true → is_rf64 bs ≡ false
riff_told [] le e = absurd (omega (arith, le))
riff_told (b ∷ []) le e = absurd (omega (arith, le))
riff_told (b ∷ c ∷ bs) le e = other (b == 82) (c == 73) (c == 70) (agrees (drop 2 riff_magic) bs) e (λ one. not_both c one)
  where
    other : (x y w z : Bool) → (x && (y && z)) ≡ true → (y ≡ true → w ≡ false) → (x && (w && true)) ≡ false
    other true true w z e h = rw (h refl) refl
    other true false w z e h = cc
    other false y w z e h = cc

    not_both : (c : ℕ) → (c == 73) ≡ true → (c == 70) ≡ false
    not_both c one = grind (arith, nat_tests)

-- fewer don't decide
magic_short : (bs : List ℕ) → is_rf64 bs ≡ true → length bs < 2 → agrees rf64_magic bs ≡ true
magic_short [] e lt = refl
magic_short (b ∷ []) e lt = e
magic_short (b ∷ c ∷ bs) e lt = absurd (omega (arith, lt))

walked_few : (bs : List ℕ) → length bs ≤ 12 → walked rf64_grammar bs ≡ None
walked_few bs le = walk-drop unit bs 12 None 0 ∙ ap (λ xs. walk unit 0 None (0 + 12) xs) (drop_all 12 bs le)

few_none : (bs : List ℕ) → agrees rf64_magic bs ≡ true → length bs ≤ 12 → reading bs ≡ None
few_none bs a le =
    let lt : length bs < head_limit = omega (arith, le) in
    let all : take head_limit bs ≡ bs = take_all head_limit bs (omega (arith, le)) in
    reading_rf64 bs (magic_told bs a)
    ∙ (reading_at rf64_grammar head_limit bs a
    ∙ (ap (λ o. within head_limit bs o) (ap (λ xs. walked rf64_grammar xs) all ∙ walked_few bs le) ∙ within_short head_limit bs lt))

few_or_long : (bs : List ℕ) → (length bs < 2) ⊎ (2 ≤ length bs)
few_or_long [] = inl (omega arith)
few_or_long (b ∷ []) = inl (omega arith)
few_or_long (b ∷ c ∷ bs) = inr (omega arith)

-- ---- whatever follows

pub reading_stays : Stays reading
reading_stays bs more found e = elim (bool_cases (is_rf64 bs)) [
  | inr other ↦ reading_riff (bs ++ more) (agrees-append fork bs more other) ∙ stays_within riff_grammar riff_lawful bs more found (sym (reading_riff bs other) ∙ e)
  | inl told ↦ elim (few_or_long bs) [
    | inl few ↦ let clash = sym (few_none bs (magic_short bs told few) (omega (arith, few))) ∙ e in cc
    | inr long ↦ reading_rf64 (bs ++ more) (told_long bs more long ∙ told) ∙ stays_within rf64_grammar rf64_lawful bs more found (sym (reading_rf64 bs told) ∙ e)
  ]
]

pub head_riff : (bs : List ℕ) → is_rf64 bs ≡ false → head bs ≡ head_by riff_grammar bs
unfolding head_of
head_riff bs other = ap (λ o. unwrap_or o (early bs)) (reading_riff bs other)

pub head_rf64 : (bs : List ℕ) → is_rf64 bs ≡ true → head bs ≡ head_by rf64_grammar bs
unfolding head_of
head_rf64 bs told = ap (λ o. unwrap_or o (early bs)) (reading_rf64 bs told)

open_as : (one : List ℕ → Found) (bs : List ℕ) → ((more : List ℕ) → head (bs ++ more) ≡ one (bs ++ more)) → IsOpen one bs → IsOpen head bs
open_as one bs same h = (h.0, h.1, h.2, h.3, λ e. h.4 (sym (same h.0) ∙ (e ∙ same h.1)))

-- less than two bytes of `RF64` may go on to it, or not
open_few : (bs : List ℕ) → is_rf64 bs ≡ true → length bs < 2 → IsOpen head bs
open_few bs told lt =
    let a = magic_short bs told lt in
    let rest = drop (length bs) (filled rf64_magic) in
    let size : length (bs ++ rest) ≡ 12 = omega (arith, lt, length-append bs rest, length-drop (length bs) (filled rf64_magic), length_filled rf64_magic) in
    let one = ap head (append-nil bs) ∙ (head_none reading early bs (few_none bs a (omega (arith, lt))) ∙ early_short 12 bs (omega (arith, lt))) in
    let two = head_none reading early (bs ++ rest) (few_none (bs ++ rest) (agrees_complete rf64_magic bs a) (omega (arith, size))) ∙ early_long 12 (bs ++ rest) (omega (arith, size)) in (
      [],
      rest,
      All-nil (λ b. b < 256),
      All-drop (λ b. b < 256) (length bs) (filled rf64_magic) (filled_bytes rf64_magic rf64_lawful.bytes),
      λ same. let clash = sym one ∙ (same ∙ two) in cc,
    )

pub reading_opens : Opens reading early
reading_opens bs e = elim (bool_cases (is_rf64 bs)) [
  | inr other ↦ open_as (head_by riff_grammar) bs (λ more. head_riff (bs ++ more) (agrees-append fork bs more other)) (opens_within riff_grammar riff_lawful bs (sym (reading_riff bs other) ∙ e))
  | inl told ↦ elim (few_or_long bs) [
    | inl few ↦ open_few bs told few
    | inr long ↦ open_as (head_by rf64_grammar) bs (λ more. head_rf64 (bs ++ more) (told_long bs more long ∙ told)) (opens_within rf64_grammar rf64_lawful bs (sym (reading_rf64 bs told) ∙ e))
  ]
]

reading_sound : (bs : List ℕ) (h : WavHead) → reading bs ≡ Some (Ok h) → IsHead h
reading_sound bs h e = elim (bool_cases (is_rf64 bs)) [
  | inr other ↦ sound_within riff_grammar IsKnown IsHead tt is_kept bs h (sym (reading_riff bs other) ∙ e)
  | inl told ↦ sound_within rf64_grammar IsKnown IsHead tt is_kept bs h (sym (reading_rf64 bs told) ∙ e)
]

-- ---- answers

pub answer_not_yet : (whole : Bool) (bs : List ℕ) → (answer whole bs ≡ Err end.NotYet) ↔ ((whole ≡ false) × IsOpen head bs)
answer_not_yet whole bs = not_yet_by reading early reading_stays reading_opens whole bs

pub answer_decided : (whole : Bool) (bs : List ℕ) → (answer whole bs ≡ Err end.NotYet → ⊥) → answer whole bs ≡ answered (head bs)
answer_decided whole bs n = decided_by reading early whole bs n

pub answer_stays : (whole : Bool) (bs : List ℕ) → (answer whole bs ≡ Err end.NotYet → ⊥) → whole ≡ false → (more : List ℕ) → head (bs ++ more) ≡ head bs
answer_stays whole bs n w = stays_by reading early reading_stays bs (λ e. n (ap (λ b. answer b bs) w ∙ e))

pub answer_sound : (whole : Bool) (bs : List ℕ) → IfOk (answer whole bs) IsHead
answer_sound whole bs = sound_by reading early IsHead reading_sound (λ xs h e. early_sound IsHead 12 xs h e) whole bs

-- so of a result that is the answer
pub told_not_yet : (whole : Bool) (bs : List ℕ) (r : Result WavHead HeadEnd) → r ≡ answer whole bs → (r ≡ Err end.NotYet) ↔ ((whole ≡ false) × IsOpen head bs)
told_not_yet whole bs r e = subst (λ x. (x ≡ Err end.NotYet) ↔ ((whole ≡ false) × IsOpen head bs)) (sym e) (answer_not_yet whole bs)

pub told_decided : (whole : Bool) (bs : List ℕ) (r : Result WavHead HeadEnd) → r ≡ answer whole bs → (r ≡ Err end.NotYet → ⊥) → r ≡ answered (head bs)
told_decided whole bs r e n = e ∙ answer_decided whole bs (λ k. n (e ∙ k))

pub told_stays : (whole : Bool) (bs : List ℕ) (r : Result WavHead HeadEnd) → r ≡ answer whole bs → (r ≡ Err end.NotYet → ⊥) → whole ≡ false
    → (more : List ℕ) → head (bs ++ more) ≡ head bs
told_stays whole bs r e n w = answer_stays whole bs (λ k. n (e ∙ k)) w

pub told_sound : (whole : Bool) (bs : List ℕ) (r : Result WavHead HeadEnd) → r ≡ answer whole bs → IfOk r IsHead
told_sound whole bs r e = subst (λ x. IfOk x IsHead) (sym e) (answer_sound whole bs)

-- ---- by a walk of one form

pub answer_riff : (whole : Bool) (bs : List ℕ) → is_rf64 bs ≡ false → answer_by riff_grammar whole bs ≡ answer whole bs
unfolding answer_of
answer_riff whole bs other = ap (λ o. answered_or o (cond whole (answered (early bs)) (Err end.NotYet))) (sym (reading_riff bs other))

pub answer_rf64 : (whole : Bool) (bs : List ℕ) → is_rf64 bs ≡ true → answer_by rf64_grammar whole bs ≡ answer whole bs
unfolding answer_of
answer_rf64 whole bs told = ap (λ o. answered_or o (cond whole (answered (early bs)) (Err end.NotYet))) (sym (reading_rf64 bs told))

pub exact_riff : (walk : WavWalk) (whole : Bool) (bs : List ℕ) (r : Result WavHead HeadEnd) → is_rf64 bs ≡ false
    → (IsReachedBy riff_grammar walk.riff.at walk.riff.state bs → r ≡ answer_by riff_grammar whole bs) → IsReached walk bs → r ≡ answer whole bs
exact_riff walk whole bs r other exact h = exact h.0 ∙ answer_riff whole bs other

pub exact_rf64 : (walk : WavWalk) (whole : Bool) (bs : List ℕ) (r : Result WavHead HeadEnd) → is_rf64 bs ≡ true
    → (IsReachedBy rf64_grammar walk.rf64.at walk.rf64.state bs → r ≡ answer_by rf64_grammar whole bs) → IsReached walk bs → r ≡ answer whole bs
exact_rf64 walk whole bs r told exact h = exact h.1 ∙ answer_rf64 whole bs told

-- a walk that has read all of these bytes has read a front of them
pub reached_here : {H S : Type 0} (g : Grammar H S) (at : ℕ) (s : S) (bs : List ℕ) → length bs ≤ head_limit → Reached g at s bs → IsReachedBy g at s bs
reached_here g at s bs le r = (bs, [], sym (append-nil bs), le, r)

-- the empty front
pub reached_start : {H S : Type 0} (g : Grammar H S) (at : ℕ) (s : S) → Reached g at s [] → IsReachedBy g at s []
reached_start g at s r = ([], [], refl, lit≤ tt, r)

-- and of what goes on
pub reached_on : (walk : WavWalk) (bs more : List ℕ) → IsReached walk bs → IsReached walk (bs ++ more)
reached_on walk bs more h = (
  (h.0.0, h.0.1 ++ more, ap (λ xs. xs ++ more) h.0.2 ∙ append_assoc h.0.0 h.0.1 more, h.0.3, h.0.4),
  (h.1.0, h.1.1 ++ more, ap (λ xs. xs ++ more) h.1.2 ∙ append_assoc h.1.0 h.1.1 more, h.1.3, h.1.4),
)
