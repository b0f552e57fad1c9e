-- What an answer says of the head of a FLAC input.
use Rattle.std.proofs.Common.{◌≡◌, ◌≢◌, ℕ, ◌<◌, inl, inr, Bool, true, false, cond, List, [], ◌++◌, take, drop, length, Option, Some, None, Result, Ok, Err}
use Rattle.std.proofs.Common.{refl, sym, ap, ◌∙◌, subst, arith, take-append-drop, append-nil, append_assoc}
use Rattle.std.specs.Prelude.{◌↔◌, nat_le, IfOk, codes}
use Rattle.std.proofs.lemmas.List.{take_all}
use Rattle.std.proofs.lemmas.List.Elements.{All-nil}
use Rattle.std.proofs.lemmas.Bool.Decides.{nat_tests}
use Rattle.ff_frame.specs.declared.cut.HeadEnd.{HeadEnd}
use Rattle.ff_frame.specs.declared.cut.HeadEnd.TheVariants as end
use Rattle.ff_reader.specs.declared.fault.HeadFault.TheVariants.{Damaged, Unsupported}
use Rattle.ff_reader.specs.Heads as heads
use Rattle.ff_reader.specs.Heads.{Opens}
use Rattle.ff_reader.specs.Walks.{walk, walked, within, head_limit, head_by, answer_by}
use Rattle.ff_reader.proofs.AgreeLaws.{bool_cases}
use Rattle.ff_reader.proofs.AnswerLaws as answers
use Rattle.ff_reader.proofs.AnswerLaws.{head_none, head_some, early_long, answer_none, answer_some}
use Rattle.ff_reader.proofs.ReadingLaws.{reading_at, reading_stays, reading_opens, reading_sound}
use Rattle.ff_reader.proofs.WalkLaws.{walk-append}
use Rattle.ff_flac_dec.specs.declared.head.FlacHead.{FlacHead}
use Rattle.ff_flac_dec.specs.declared.head.HeadState.TheVariants.{Tags}
use Rattle.ff_flac_dec.specs.Heads.{FlacWalk, Found, unit, grammar, IsKnown, reading, early, head, answered, answer, IsOpen, IsReached}
use Rattle.ff_flac_dec.specs.Streams.{IsHead}
use Rattle.ff_flac_dec.specs.Tags.{tag, is_named}
use Rattle.ff_flac_dec.specs.laws.HeadLaws.{is_lawful}
use Rattle.ff_flac_dec.specs.laws.SoundLaws.{is_kept}
use Rattle.ff_flac_dec.proofs.NamedLaws.{tag_rest, Opened, opened, named-append}

named_early : (bs : List ℕ) → is_named bs ≡ true → early bs ≡ Err (Damaged (length bs))
named_early bs e = ap (λ b. cond b (Err (Damaged (length bs))) (Err (Unsupported 0))) e

unnamed_early : (bs : List ℕ) → is_named bs ≡ false → early bs ≡ Err (Unsupported 0)
unnamed_early bs e = ap (λ b. cond b (Err (Damaged (length bs))) (Err (Unsupported 0))) e

-- ---- where `fLaC` is there

named_head_by : (bs : List ℕ) (o : Option Found) → reading bs ≡ o → is_named bs ≡ true → head bs ≡ head_by grammar bs
named_head_by bs (Some r) e n = head_some reading early bs r e ∙ sym (head_some reading _ bs r e)
named_head_by bs None e n = head_none reading early bs e ∙ (named_early bs n ∙ (sym (early_long 0 bs (omega arith)) ∙ sym (head_none reading _ bs e)))

named_open : (bs : List ℕ) → reading bs ≡ None → is_named bs ≡ true → IsOpen bs
named_open bs e n =
    let o = reading_opens grammar is_lawful bs e in
    let same : (more : List ℕ) → head (bs ++ more) ≡ head_by grammar (bs ++ more) =
    λ more. named_head_by (bs ++ more) (reading (bs ++ more)) refl (named-append bs more 0 n) in
    (o.0, o.1, o.2, o.3, λ k. o.4 (sym (same o.0) ∙ (k ∙ same o.1)))

-- ---- where it isn't

none_parts : (bs : List ℕ) (o : Option Found) → within head_limit bs o ≡ None → (o ≡ None) × (length bs < head_limit)
none_parts bs None e = (refl, grind (arith, nat_tests))
none_parts bs (Some found) e = cc

limit_found : (bs : List ℕ) → within {H = FlacHead} head_limit bs None ≡ Some (Err (Unsupported 0)) → ⊥
limit_found bs e = elim (bool_cases (nat_le head_limit (length bs))) [
  | inl a ↦ let clash : Some (Err (Unsupported head_limit)) ≡ Some (Err (Unsupported 0)) = sym (ap (λ b. cond b (Some (Err (Unsupported head_limit))) None) a) ∙ e in cc
  | inr a ↦ let clash : None ≡ Some (Err (Unsupported 0)) = sym (ap (λ b. cond b (Some (Err (Unsupported head_limit))) None) a) ∙ e in cc
]

-- what a front decides, the whole does
not_decided : (bs : List ℕ) → walk unit 0 Tags 0 bs ≡ None → (o : Option Found) → walked grammar (take head_limit bs) ≡ o
    → within head_limit bs o ≡ Some (Err (Unsupported 0)) → ⊥
not_decided bs w None e is = limit_found bs is
not_decided bs w (Some found) e is =
    let all : walk unit 0 Tags 0 (take head_limit bs ++ drop head_limit bs) ≡ Some found =
    walk-append unit is_lawful.settles (take head_limit bs) (drop head_limit bs) 0 Tags 0 found e in
    let clash : None ≡ Some found = sym w ∙ (ap (walk unit 0 Tags 0) (sym (take-append-drop head_limit bs)) ∙ all) in cc

named_head : (bs : List ℕ) (o : Option Found) → reading bs ≡ o → walk unit 0 Tags 0 bs ≡ None → is_named bs ≡ true → head bs ≢ Err (Unsupported 0)
named_head bs None e w n is = let clash : Err (Damaged (length bs)) ≡ Err (Unsupported 0) = sym (head_none reading early bs e ∙ named_early bs n) ∙ is in cc
named_head bs (Some r) e w n is =
    let r_is : r ≡ Err (Unsupported 0) = sym (head_some reading early bs r e) ∙ is in
    not_decided bs w (walked grammar (take head_limit bs)) refl (sym (reading_at grammar head_limit bs refl) ∙ (e ∙ ap Some r_is))

-- `fLaC`, and an empty tag with `fLaC` behind it, are of no other kind
pub own_name : head (codes "fLaC") ≢ Err (Unsupported 0)
unfolding tag
own_name = named_head (codes "fLaC") (reading (codes "fLaC")) refl refl refl

pub own_tag : head (codes "ID3" ++ tag_rest) ≢ Err (Unsupported 0)
unfolding tag
own_tag = named_head (codes "ID3" ++ tag_rest) (reading (codes "ID3" ++ tag_rest)) refl refl refl

unnamed_open : (bs : List ℕ) → reading bs ≡ None → is_named bs ≡ false → IsOpen bs
unnamed_open bs e n =
    let parts = none_parts bs (walked grammar (take head_limit bs)) (sym (reading_at grammar head_limit bs refl) ∙ e) in
    let all : take head_limit bs ≡ bs = take_all head_limit bs (omega (arith, parts.1)) in
    let o : Opened 0 0 bs = opened bs 0 0 (ap (walk unit 0 Tags 0) (sym all) ∙ parts.0) n in
    let here : head (bs ++ []) ≡ Err (Unsupported 0) = ap head (append-nil bs) ∙ (head_none reading early bs e ∙ unnamed_early bs n) in (
      [],
      o.more,
      All-nil (λ b. b < 256),
      o.bytes,
      λ same. named_head (bs ++ o.more) (reading (bs ++ o.more)) refl o.undecided o.named (sym same ∙ here),
    )

-- where the bytes decide nothing, some bytes after them decide otherwise than others
opens : Opens reading early
opens bs e = elim (bool_cases (is_named bs)) [ inl n ↦ named_open bs e n | inr n ↦ unnamed_open bs e n ]

early_never : (bs : List ℕ) (h : FlacHead) → early bs ≡ Ok h → IsHead h
early_never bs h e = elim (bool_cases (is_named bs)) [
  | inl n ↦ let clash = sym (named_early bs n) ∙ e in absurd cc
  | inr n ↦ let clash = sym (unnamed_early bs n) ∙ e in absurd cc
]

-- ---- what was answered

module _ (whole : Bool) (bs : List ℕ) (r : Result FlacHead HeadEnd) (is : r ≡ answer whole bs) where
  pub told_not_yet : (r ≡ Err end.NotYet) ↔ ((whole ≡ false) × IsOpen bs)
  told_not_yet =
      subst (λ x. (x ≡ Err end.NotYet) ↔ ((whole ≡ false) × IsOpen bs)) (sym is) (answers.answer_not_yet reading early (reading_stays grammar is_lawful) opens whole bs)

  pub told_decided : (r ≡ Err end.NotYet → ⊥) → r ≡ answered (head bs)
  told_decided n = is ∙ answers.answer_decided reading early whole bs (λ k. n (is ∙ k))

  pub told_stays : (r ≡ Err end.NotYet → ⊥) → whole ≡ false → (more : List ℕ) → head (bs ++ more) ≡ head bs
  told_stays n w = answers.answer_stays reading early (reading_stays grammar is_lawful) bs (λ k. n (is ∙ (ap (λ b. answer b bs) w ∙ k)))

  pub told_sound : IfOk r IsHead
  told_sound = subst (λ x. IfOk x IsHead) (sym is) (answers.answer_sound reading early IsHead (reading_sound grammar IsKnown IsHead tt is_kept) early_never whole bs)

-- ---- by the walk over tags and blocks

-- of an input that goes on
pub exact_on : (whole : Bool) (bs : List ℕ) (r : Result FlacHead HeadEnd) → whole ≡ false → r ≡ answer_by grammar false bs → r ≡ answer whole bs
unfolding heads.answer
exact_on whole bs r w e = e ∙ ap (λ b. answer b bs) (sym w)

-- of one that ends, and whose head is decided before
decided_at : (bs : List ℕ) (r : Result FlacHead HeadEnd) (o : Option Found) → reading bs ≡ o → r ≡ answer_by grammar false bs → (r ≡ Err end.NotYet → ⊥)
    → r ≡ answer true bs
decided_at bs r None e is n = absurd (n (is ∙ answer_none reading _ false bs e))
decided_at bs r (Some found) e is n = is ∙ (answer_some reading _ false bs found e ∙ sym (answer_some reading early true bs found e))

pub exact_found : (whole : Bool) (bs : List ℕ) (r : Result FlacHead HeadEnd) → whole ≡ true → r ≡ answer_by grammar false bs → (r ≡ Err end.NotYet → ⊥)
    → r ≡ answer whole bs
exact_found whole bs r w is n = decided_at bs r (reading bs) refl is n ∙ ap (λ b. answer b bs) (sym w)

-- and is not
never_not_yet : (found : Found) → answered found ≡ Err end.NotYet → ⊥
never_not_yet (Ok x) e = cc
never_not_yet (Err (Damaged p)) e = cc
never_not_yet (Err (Unsupported p)) e = cc

over_at : (bs : List ℕ) (r : Result FlacHead HeadEnd) (o : Option Found) → reading bs ≡ o → r ≡ answer_by grammar false bs → r ≡ Err end.NotYet
    → answered (early bs) ≡ answer true bs
over_at bs r None e is n = sym (answer_none reading early true bs e)
over_at bs r (Some found) e is n = absurd (never_not_yet found (sym (answer_some reading _ false bs found e) ∙ (sym is ∙ n)))

pub exact_over : (whole : Bool) (bs : List ℕ) (r : Result FlacHead HeadEnd) → whole ≡ true → r ≡ answer_by grammar false bs → r ≡ Err end.NotYet
    → answered (early bs) ≡ answer whole bs
exact_over whole bs r w is n = over_at bs r (reading bs) refl is n ∙ ap (λ b. answer b bs) (sym w)

pub never_yet : (e : HeadEnd) (bs : List ℕ) → Err e ≡ answered (early bs) → ◌≡◌ {A = Result FlacHead HeadEnd} (Err e) (Err end.NotYet) → ⊥
never_yet e bs is n = never_not_yet (early bs) (sym is ∙ n)

-- ---- how far a walk has read

-- a walk that has read nothing has read a front of any bytes
pub reached_on : (walk : FlacWalk) (bs : List ℕ) → IsReached walk [] → IsReached walk bs
reached_on walk bs h = (h.0, h.1 ++ bs, ap (λ xs. xs ++ bs) h.2 ∙ append_assoc h.0 h.1 bs, h.3, h.4)
