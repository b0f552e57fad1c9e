-- What an answer says of the head of a whole input.
use Rattle.std.proofs.Common.{◌≡◌, ℕ, ◌<◌, ◌≤◌, Bool, true, false, cond, List, ◌++◌, length, Option, Some, None, Ok, Err, refl, sym, ap, ◌∙◌, subst, arith}
use Rattle.std.specs.Prelude.{nat_lt, ◌↔◌, IfOk, IfSome}
use Rattle.std.proofs.lemmas.Bool.Decides.{nat_tests}
use Rattle.ff_frame.specs.declared.cut.HeadEnd.TheVariants as end
use Rattle.ff_reader.specs.declared.fault.HeadFault.TheVariants.{Damaged, Unsupported}
use Rattle.ff_reader.specs.Heads.{Found, early, head, answered, answered_or, answer, IsOpen, Stays, Opens}

pub head_none : {H : Type 0} (reading : List ℕ → Option (Found H)) (short : List ℕ → Found H) (bs : List ℕ) → reading bs ≡ None → head reading short bs ≡ short bs
unfolding head
head_none reading short bs e = rw e refl

pub head_some : {H : Type 0} (reading : List ℕ → Option (Found H)) (short : List ℕ → Found H) (bs : List ℕ) (r : Found H) → reading bs ≡ Some r → head reading short bs ≡ r
unfolding head
head_some reading short bs r e = rw e refl

pub early_long : {H : Type 0} (few : ℕ) (bs : List ℕ) → few ≤ length bs → early {H = H} few bs ≡ Err (Damaged (length bs))
early_long few bs le = let e : nat_lt (length bs) few ≡ false = grind (arith, nat_tests) in rw e refl

pub early_short : {H : Type 0} (few : ℕ) (bs : List ℕ) → length bs < few → early {H = H} few bs ≡ Err (Unsupported 0)
early_short few bs lt = let e : nat_lt (length bs) few ≡ true = grind (arith, nat_tests) in rw e refl

answered_not : {H : Type 0} (found : Found H) → answered found ≡ Err end.NotYet → ⊥
answered_not (Ok x) e = cc
answered_not (Err (Damaged p)) e = cc
answered_not (Err (Unsupported p)) e = cc

pub answer_none : {H : Type 0} (reading : List ℕ → Option (Found H)) (short : List ℕ → Found H) (whole : Bool) (bs : List ℕ) → reading bs ≡ None
    → answer reading short whole bs ≡ cond whole (answered (short bs)) (Err end.NotYet)
unfolding answer
answer_none reading short whole bs e = rw e refl

pub answer_some : {H : Type 0} (reading : List ℕ → Option (Found H)) (short : List ℕ → Found H) (whole : Bool) (bs : List ℕ) (r : Found H) → reading bs ≡ Some r
    → answer reading short whole bs ≡ answered r
unfolding answer
answer_some reading short whole bs r e = rw e refl

-- the answer that is made of what the bytes decide
pub answer_is : {H : Type 0} (reading : List ℕ → Option (Found H)) (short : List ℕ → Found H) (whole : Bool) (bs : List ℕ) (o : Option (Found H)) → o ≡ reading bs
    → answered_or o (cond whole (answered (short bs)) (Err end.NotYet)) ≡ answer reading short whole bs
unfolding answer
answer_is reading short whole bs o e = ap (λ x. answered_or x (cond whole (answered (short bs)) (Err end.NotYet))) e

-- ---- not yet

not_yet_at : {H : Type 0} (reading : List ℕ → Option (Found H)) (short : List ℕ → Found H) → Opens reading short → (whole : Bool) (bs : List ℕ) (o : Option (Found H)) → reading bs ≡ o
    → answer reading short whole bs ≡ Err end.NotYet → (whole ≡ false) × IsOpen (head reading short) bs
not_yet_at reading short opens true bs None e is = absurd (answered_not (short bs) (sym (answer_none reading short true bs e) ∙ is))
not_yet_at reading short opens false bs None e is = (refl, opens bs e)
not_yet_at reading short opens whole bs (Some r) e is = absurd (answered_not r (sym (answer_some reading short whole bs r e) ∙ is))

-- the head is the same whatever follows
pub head_stays : {H : Type 0} (reading : List ℕ → Option (Found H)) (short : List ℕ → Found H) → Stays reading → (bs more : List ℕ) (r : Found H) → reading bs ≡ Some r
    → head reading short (bs ++ more) ≡ r
head_stays reading short stays bs more r e = head_some reading short (bs ++ more) r (stays bs more r e)

open_at : {H : Type 0} (reading : List ℕ → Option (Found H)) (short : List ℕ → Found H) → Stays reading → (bs : List ℕ) (o : Option (Found H)) → reading bs ≡ o
    → IsOpen (head reading short) bs → answer reading short false bs ≡ Err end.NotYet
open_at reading short stays bs None e h = answer_none reading short false bs e
open_at reading short stays bs (Some r) e h = absurd (h.4 (head_stays reading short stays bs h.0 r e ∙ sym (head_stays reading short stays bs h.1 r e)))

-- not yet exactly where the input goes on, and some bytes decide otherwise than others
pub answer_not_yet : {H : Type 0} (reading : List ℕ → Option (Found H)) (short : List ℕ → Found H) → Stays reading → Opens reading short → (whole : Bool) (bs : List ℕ)
    → (answer reading short whole bs ≡ Err end.NotYet) ↔ ((whole ≡ false) × IsOpen (head reading short) bs)
answer_not_yet reading short stays opens whole bs = (
  λ is. not_yet_at reading short opens whole bs (reading bs) refl is,
  λ h. subst (λ w. answer reading short w bs ≡ Err end.NotYet) (sym h.0) (open_at reading short stays bs (reading bs) refl h.1),
)

-- ---- decided

decided_at : {H : Type 0} (reading : List ℕ → Option (Found H)) (short : List ℕ → Found H) (whole : Bool) (bs : List ℕ) (o : Option (Found H)) → reading bs ≡ o
    → (answer reading short whole bs ≡ Err end.NotYet → ⊥) → answer reading short whole bs ≡ answered (head reading short bs)
decided_at reading short true bs None e n = answer_none reading short true bs e ∙ ap answered (sym (head_none reading short bs e))
decided_at reading short false bs None e n = absurd (n (answer_none reading short false bs e))
decided_at reading short whole bs (Some r) e n = answer_some reading short whole bs r e ∙ ap answered (sym (head_some reading short bs r e))

pub answer_decided : {H : Type 0} (reading : List ℕ → Option (Found H)) (short : List ℕ → Found H) (whole : Bool) (bs : List ℕ)
    → (answer reading short whole bs ≡ Err end.NotYet → ⊥) → answer reading short whole bs ≡ answered (head reading short bs)
answer_decided reading short whole bs n = decided_at reading short whole bs (reading bs) refl n

stays_at : {H : Type 0} (reading : List ℕ → Option (Found H)) (short : List ℕ → Found H) → Stays reading → (bs : List ℕ) (o : Option (Found H)) → reading bs ≡ o
    → (answer reading short false bs ≡ Err end.NotYet → ⊥) → (more : List ℕ) → head reading short (bs ++ more) ≡ head reading short bs
stays_at reading short stays bs None e n more = absurd (n (answer_none reading short false bs e))
stays_at reading short stays bs (Some r) e n more = head_stays reading short stays bs more r e ∙ sym (head_some reading short bs r e)

pub answer_stays : {H : Type 0} (reading : List ℕ → Option (Found H)) (short : List ℕ → Found H) → Stays reading → (bs : List ℕ)
    → (answer reading short false bs ≡ Err end.NotYet → ⊥) → (more : List ℕ) → head reading short (bs ++ more) ≡ head reading short bs
answer_stays reading short stays bs n = stays_at reading short stays bs (reading bs) refl n

-- ---- sound

sound_found : {H : Type 0} (is_sound : H → Type 0) (found : Found H) → ((h : H) → found ≡ Ok h → is_sound h) → IfOk (answered found) is_sound
sound_found is_sound (Ok h) s = s h refl
sound_found is_sound (Err (Damaged p)) s = tt
sound_found is_sound (Err (Unsupported p)) s = tt

sound_at : {H : Type 0} (reading : List ℕ → Option (Found H)) (short : List ℕ → Found H) (is_sound : H → Type 0) → ((bs : List ℕ) (h : H) → reading bs ≡ Some (Ok h) → is_sound h)
    → ((bs : List ℕ) (h : H) → short bs ≡ Ok h → is_sound h) → (whole : Bool) (bs : List ℕ) (o : Option (Found H)) → reading bs ≡ o
    → IfOk (answered_or o (cond whole (answered (short bs)) (Err end.NotYet))) is_sound
sound_at reading short is_sound s t whole bs (Some r) e = sound_found is_sound r (λ h i. s bs h (e ∙ ap Some i))
sound_at reading short is_sound s t true bs None e = sound_found is_sound (short bs) (λ h i. t bs h i)
sound_at reading short is_sound s t false bs None e = tt

pub answer_sound : {H : Type 0} (reading : List ℕ → Option (Found H)) (short : List ℕ → Found H) (is_sound : H → Type 0) → ((bs : List ℕ) (h : H) → reading bs ≡ Some (Ok h) → is_sound h)
    → ((bs : List ℕ) (h : H) → short bs ≡ Ok h → is_sound h) → (whole : Bool) (bs : List ℕ) → IfOk (answer reading short whole bs) is_sound
unfolding answer
answer_sound reading short is_sound s t whole bs = sound_at reading short is_sound s t whole bs (reading bs) refl

-- of what is decided alone
pub answered_sound : {H : Type 0} (is_sound : H → Type 0) (o : Option (Found H)) (few : ℕ) (whole : Bool) (bs : List ℕ) → IfSome o (λ found. IfOk found is_sound)
    → IfOk (answered_or o (cond whole (answered (early few bs)) (Err end.NotYet))) is_sound
answered_sound is_sound (Some (Ok h)) few whole bs s = s
answered_sound is_sound (Some (Err (Damaged p))) few whole bs s = tt
answered_sound is_sound (Some (Err (Unsupported p))) few whole bs s = tt
answered_sound is_sound None few true bs s = early_at (nat_lt (length bs) few) (length bs)
  where
    early_at : (b : Bool) (n : ℕ) → IfOk (answered (cond b (Err (Unsupported 0)) (Err (Damaged n)))) is_sound
    early_at true n = tt
    early_at false n = tt
answered_sound is_sound None few false bs s = tt
