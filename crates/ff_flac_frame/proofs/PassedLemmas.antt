-- Parts that are read on past, one after the other.
use Rattle.std.proofs.Common.{◌≡◌, ℕ, ◌-◌, ◌≤◌, List, [], ◌++◌, Bool, refl, sym, ap, subst, ◌∙◌}
use Rattle.ff_bits.specs.Reading.{Answer, Done, More, Bad, Reader, on, give, times}
use Rattle.ff_flac_frame.specs.declared.end.FrameEnd.{FrameEnd}
use Rattle.ff_flac_frame.specs.declared.end.FrameEnd.TheVariants.{NotYet, Never, NoMemory}
use Rattle.ff_flac_frame.specs.laws.Gives.{Fails}
use Rattle.ff_flac_frame.specs.laws.Front.{with_front}
use Rattle.ff_flac_frame.specs.Frame.{Header, Frame}
use Rattle.ff_flac_frame.proofs.Loops.{times_go_on}

abbrev pub past : {A : Type 0} → Answer A → Answer (Unit {0})
past v = on v (λ _. give tt)

-- a failure stays one, whatever would have followed
pub fails_on : {A B : Type 0} (e : FrameEnd) (v : Answer A) (f : A → Reader B) → Fails e v → Fails e (on v f)
fails_on NotYet v f h = ap (λ (w : Answer _). on w f) h
fails_on Never v f h = ap (λ (w : Answer _). on w f) h
fails_on NoMemory v f h = tt

-- and it isn't the value that was let go
pub fails_of : {A B : Type 0} (e : FrameEnd) (v : Answer A) (f : A → B) → Fails e (on v (λ a. give (f a))) → Fails e v
fails_of NotYet (Done a rest) f h = absurd cc
fails_of NotYet More f h = refl
fails_of NotYet Bad f h = absurd cc
fails_of Never (Done a rest) f h = absurd cc
fails_of Never More f h = absurd cc
fails_of Never Bad f h = refl
fails_of NoMemory v f h = tt

-- a frame of which the header alone was kept
pub frame_behind : (v : Answer Frame) (h : Header) (rest : List Bool) → on v (λ f. give f.header) ≡ Done h rest → (f : Frame) × (v ≡ Done f rest) × (f.header ≡ h)
frame_behind (Done f mid) h rest e = let same : mid ≡ rest = cc in (f, ap (λ (xs : List Bool). Done f xs) same, cc)
frame_behind More h rest e = absurd cc
frame_behind Bad h rest e = absurd cc

value_past : {A B : Type 0} (f : A → B) (v : Answer A) → past (on v (λ a. give (f a))) ≡ past v
value_past f (Done a rest) = refl
value_past f More = refl
value_past f Bad = refl

both_past : {A B C : Type 0} (f : A → B → C) (v : Answer A) (r : Reader B) → past (on v (λ a. λ rest. on (r rest) (λ b. give (f a b)))) ≡ on (past v) (λ _. λ rest. past (r rest))
both_past f (Done a rest) r = value_past (f a) (r rest)
both_past f More r = refl
both_past f Bad r = refl

-- one part and then the others
module _ {A B C : Type 0} (f : A → B → C) (v : Answer A) (r : Reader B) (all : Answer C) (total : Answer (Unit {0})) (in_turn : all ≡ on v (λ a. λ rest. on (r rest) (λ b. give (f a b)))) (so_far : past all ≡ total) where
  turned : on (past v) (λ _. λ rest. past (r rest)) ≡ total
  turned = sym (both_past f v r) ∙ (ap past (sym in_turn) ∙ so_far)

  pub past_one : (after : List Bool) → past v ≡ Done tt after → past (r after) ≡ total
  past_one after h = ap (λ (w : Answer (Unit {0})). on w (λ _. λ rest. past (r rest))) (sym h) ∙ turned

  pub one_fails : (e : FrameEnd) → Fails e (past v) → Fails e total
  one_fails e h = subst (λ (w : Answer (Unit {0})). Fails e w) turned (fails_on e (past v) (λ _. λ rest. past (r rest)) h)

-- some values at once, and the others behind them
front_past : {A : Type 0} (front : List A) (v : Answer (List A)) → past (with_front front v) ≡ past v
front_past front v = value_past (λ xs. front ++ xs) v

pub past_some : {A : Type 0} (r : Reader A) (n left : ℕ) (bits : List Bool) (total : Answer (Unit {0})) (xs : List A) (after : List Bool)
    → n ≤ left → times n r bits ≡ Done xs after → past (times left r bits) ≡ total → past (times (left - n) r after) ≡ total
past_some r n left bits total xs after le h so_far =
    let one : with_front xs (times (left - n) r after) ≡ with_front [] (times left r bits) = times_go_on r n left [] bits _ xs after le h refl in
    sym (front_past xs (times (left - n) r after)) ∙ ap past one ∙ front_past [] (times left r bits) ∙ so_far
