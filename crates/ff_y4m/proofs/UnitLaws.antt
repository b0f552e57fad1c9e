-- What begins with a frame does so whatever follows, and the chain of frames step by step.
use Rattle.std.proofs.Common.{◌≡◌, ◌≢◌, ℕ, zero, suc, ◌+◌, ◌<◌, ◌≤◌, ◌⊎◌, inl, inr, Bool, true, false, cond, List, [], ◌∷◌, ◌++◌, drop, length, Option, Some, None, refl, sym, ap, ◌∙◌, arith, length-append, add-zero}
use Rattle.std.specs.Prelude.{nat_lt}
use Rattle.std.proofs.lemmas.Bool.Decides.{nat_tests}
use Rattle.ff_frame.specs.declared.packet.Pkt.{Pkt}
use Rattle.ff_y4m.specs.declared.frame.Front.{Front}
use Rattle.ff_y4m.specs.declared.frame.Front.TheVariants.{Wait, Other, Frame}
use Rattle.ff_y4m.specs.Lines.{begins, line_end, longest_line}
use Rattle.ff_y4m.specs.Packets.{frame_word, line_unit, unit, packet_in, packets_from, broken_from}
use Rattle.ff_y4m.proofs.LineLaws.{bool_cases, begins-append, begins_long, NoFeed, line_longer, line_end-append, line_end_none}

-- ---- one unit

pub unit_at : (size : ℕ) (bs : List ℕ) → begins frame_word bs ≡ true → unit size bs ≡ line_unit size (length bs) (line_end longest_line bs)
unfolding unit
unit_at size bs e = rw e refl

pub unit_else : (size : ℕ) (bs : List ℕ) → begins frame_word bs ≡ false → unit size bs ≡ Other
unfolding unit
unit_else size bs e = rw e refl

frame_is : (size count : ℕ) (o : Option ℕ) (k : ℕ) → line_unit size count o ≡ Frame k → (o ≡ Some k) × (k < 1024) × (k + 1 + size ≤ count)
frame_is size count None k e = cc
frame_is size count (Some n) k e = pick (nat_lt n longest_line) refl (nat_lt count (n + 1 + size)) refl e
  where
    pick : (a : Bool) → nat_lt n longest_line ≡ a → (b : Bool) → nat_lt count (n + 1 + size) ≡ b → cond a (cond b Wait (Frame n)) Other ≡ Frame k → (Some n ≡ Some k) × (k < 1024) × (k + 1 + size ≤ count)
    pick false p b q e = cc
    pick true p true q e = cc
    pick true p false q e =
        let same : n ≡ k = cc (e) in
        let low : n < 1024 = grind (arith, nat_tests) in
        let long : n + 1 + size ≤ count = grind (arith, nat_tests) in (ap Some same, omega (arith, same, low), omega (arith, same, long))

pub frame_made : (size count k : ℕ) → k < 1024 → k + 1 + size ≤ count → line_unit size count (Some k) ≡ Frame k
frame_made size count k lt le =
    let a : nat_lt k longest_line ≡ true = grind (arith, nat_tests) in
    let b : nat_lt count (k + 1 + size) ≡ false = grind (arith, nat_tests) in
    ap (λ t. cond t (cond (nat_lt count (k + 1 + size)) Wait (Frame k)) Other) a ∙ ap (λ t. cond t Wait (Frame k)) b

other_is : (size count : ℕ) (o : Option ℕ) → line_unit size count o ≡ Other → (n : ℕ) × (o ≡ Some n) × (1024 ≤ n)
other_is size count None e = cc
other_is size count (Some n) e = pick (nat_lt n longest_line) refl (nat_lt count (n + 1 + size)) e
  where
    pick : (a : Bool) → nat_lt n longest_line ≡ a → (b : Bool) → cond a (cond b Wait (Frame n)) Other ≡ Other → (m : ℕ) × (Some n ≡ Some m) × (1024 ≤ m)
    pick true p true e = cc
    pick true p false e = cc
    pick false p b e = (n, refl, grind (arith, nat_tests))

other_made : (size count n : ℕ) → 1024 ≤ n → line_unit size count (Some n) ≡ Other
other_made size count n le =
    let a : nat_lt n longest_line ≡ false = grind (arith, nat_tests) in
    ap (λ t. cond t (cond (nat_lt count (n + 1 + size)) Wait (Frame n)) Other) a

-- the line goes on, or it has ended and planes are lacking
pub wait_line : (size count : ℕ) (o : Option ℕ) → line_unit size count o ≡ Wait → (o ≡ None) ⊎ ((n : ℕ) × (o ≡ Some n) × (n < 1024))
wait_line size count None e = inl refl
wait_line size count (Some n) e = inr (n, refl, pick (nat_lt n longest_line) refl (nat_lt count (n + 1 + size)) e)
  where
    pick : (a : Bool) → nat_lt n longest_line ≡ a → (b : Bool) → cond a (cond b Wait (Frame n)) Other ≡ Wait → n < 1024
    pick false p b e = cc
    pick true p b e = grind (arith, nat_tests)

wait_is : (size count : ℕ) (o : Option ℕ) → line_unit size count o ≡ Wait → (o ≡ None) ⊎ (count < 1024 + size)
wait_is size count None e = inl refl
wait_is size count (Some n) e = inr (pick (nat_lt n longest_line) refl (nat_lt count (n + 1 + size)) refl e)
  where
    pick : (a : Bool) → nat_lt n longest_line ≡ a → (b : Bool) → nat_lt count (n + 1 + size) ≡ b → cond a (cond b Wait (Frame n)) Other ≡ Wait → count < 1024 + size
    pick false p b q e = cc
    pick true p true q e =
        let low : n < 1024 = grind (arith, nat_tests) in
        let few : count < n + 1 + size = grind (arith, nat_tests) in omega (arith, low, few)
    pick true p false q e = cc

word_plain : NoFeed frame_word
word_plain = (refl, (refl, (refl, (refl, (refl, tt)))))

-- what a frame is at the beginning of some bytes
pub frame_at : (size k : ℕ) (bs : List ℕ) → unit size bs ≡ Frame k → (begins frame_word bs ≡ true) × (line_end longest_line bs ≡ Some k) × (k < 1024) × (k + 1 + size ≤ length bs)
frame_at size k bs e = elim (bool_cases (begins frame_word bs)) [
  | inl a ↦ let f = frame_is size (length bs) (line_end longest_line bs) k (sym (unit_at size bs a) ∙ e) in (a, f.0, f.1, f.2)
  | inr a ↦ let clash = sym (unit_else size bs a) ∙ e in cc
]

pub five : (bs : List ℕ) (n : ℕ) → begins frame_word bs ≡ true → line_end longest_line bs ≡ Some n → length frame_word < length bs
five bs n a l = line_longer frame_word bs longest_line n word_plain (omega arith) a l

pub frame-append : (size k : ℕ) (bs more : List ℕ) → unit size bs ≡ Frame k → unit size (bs ++ more) ≡ Frame k
frame-append size k bs more e =
    let f = frame_at size k bs e in
    let a : begins frame_word (bs ++ more) ≡ true = begins_long frame_word bs more (five bs k f.0 f.1) ∙ f.0 in
    unit_at size (bs ++ more) a ∙ (ap (line_unit size (length (bs ++ more))) (line_end-append longest_line k bs more f.1) ∙ frame_made size (length (bs ++ more)) k f.2 (omega (arith, f.3, length-append bs more)))

pub other-append : (size : ℕ) (bs more : List ℕ) → unit size bs ≡ Other → unit size (bs ++ more) ≡ Other
other-append size bs more e = elim (bool_cases (begins frame_word bs)) [
  | inl a ↦ let o = other_is size (length bs) (line_end longest_line bs) (sym (unit_at size bs a) ∙ e) in
      let b : begins frame_word (bs ++ more) ≡ true = begins_long frame_word bs more (five bs o.0 a o.1) ∙ a in
      unit_at size (bs ++ more) b ∙ (ap (line_unit size (length (bs ++ more))) (line_end-append longest_line o.0 bs more o.1) ∙ other_made size (length (bs ++ more)) o.0 o.2)
  | inr a ↦ unit_else size (bs ++ more) (begins-append frame_word bs more a)
]

-- what waits is less than a frame with the longest line
pub wait_few : (size : ℕ) (bs : List ℕ) → unit size bs ≡ Wait → length bs < 1024 + size
wait_few size bs e = elim (bool_cases (begins frame_word bs)) [
  | inl a ↦ elim (wait_is size (length bs) (line_end longest_line bs) (sym (unit_at size bs a) ∙ e)) [
    | inl n ↦ let few = line_end_none longest_line bs n in omega (arith, few)
    | inr few ↦ few
  ]
  | inr a ↦ let clash = sym (unit_else size bs a) ∙ e in cc
]

pub other_some : (size : ℕ) (bs : List ℕ) → unit size bs ≡ Other → bs ≢ []
other_some size [] e n = let w : unit size [] ≡ Wait = unit_at size [] refl in let clash = sym w ∙ e in cc
other_some size (b ∷ bs) e n = cc

-- ---- the chain

pub packets-drop : (size : ℕ) (bs : List ℕ) (skip at n : ℕ) → packets_from size skip at n bs ≡ packets_from size 0 (at + skip) n (drop skip bs)
packets-drop size [] zero at n = refl
packets-drop size [] (suc skip) at n = refl
packets-drop size (b ∷ bs) zero at n = ap (λ k. packets_from size 0 k n (b ∷ bs)) (sym (add-zero at))
packets-drop size (b ∷ bs) (suc skip) at n = let e : at + 1 + skip ≡ at + suc skip = omega arith in packets-drop size bs skip (at + 1) n ∙ ap (λ k. packets_from size 0 k n (drop skip bs)) e

pub broken-drop : (size : ℕ) (bs : List ℕ) (skip at : ℕ) → broken_from size skip at bs ≡ broken_from size 0 (at + skip) (drop skip bs)
broken-drop size [] zero at = refl
broken-drop size [] (suc skip) at = refl
broken-drop size (b ∷ bs) zero at = ap (λ k. broken_from size 0 k (b ∷ bs)) (sym (add-zero at))
broken-drop size (b ∷ bs) (suc skip) at = let e : at + 1 + skip ≡ at + suc skip = omega arith in broken-drop size bs skip (at + 1) ∙ ap (λ k. broken_from size 0 k (drop skip bs)) e

-- what follows from what the bytes begin with
abbrev pub packets_step : Front → ℕ → ℕ → ℕ → ℕ → List ℕ → List Pkt
packets_step front size at n b bs = elim front [ Wait ↦ [] | Other ↦ [] | Frame line ↦ packet_in size at n line (b ∷ bs) ∷ packets_from size (line + size) (at + 1) (n + 1) bs ]

abbrev pub broken_step : Front → ℕ → ℕ → List ℕ → Option ℕ
broken_step front size at bs = elim front [ Wait ↦ Some at | Other ↦ Some at | Frame line ↦ broken_from size (line + size) (at + 1) bs ]

-- a frame, and then the others
pub packets_frame : (size at n k : ℕ) (bs : List ℕ) → unit size bs ≡ Frame k → packets_from size 0 at n bs ≡ packet_in size at n k bs ∷ packets_from size 0 (at + (k + 1 + size)) (n + 1) (drop (k + 1 + size) bs)
packets_frame size at n k [] e = let f = frame_at size k [] e in absurd (omega (arith, f.3))
packets_frame size at n k (b ∷ bs) e =
    let s : suc (k + size) ≡ k + 1 + size = omega arith in
    let place : at + 1 + (k + size) ≡ at + (k + 1 + size) = omega arith in
    let tail : packets_from size (k + size) (at + 1) (n + 1) bs ≡ packets_from size 0 (at + (k + 1 + size)) (n + 1) (drop (k + 1 + size) (b ∷ bs)) =
    packets-drop size bs (k + size) (at + 1) (n + 1) ∙ (ap (λ p. packets_from size 0 p (n + 1) (drop (k + size) bs)) place ∙ ap (λ j. packets_from size 0 (at + (k + 1 + size)) (n + 1) (drop j (b ∷ bs))) s) in
    ap (λ u. packets_step u size at n b bs) e ∙ ap (λ ps. packet_in size at n k (b ∷ bs) ∷ ps) tail

pub broken_frame : (size at k : ℕ) (bs : List ℕ) → unit size bs ≡ Frame k → broken_from size 0 at bs ≡ broken_from size 0 (at + (k + 1 + size)) (drop (k + 1 + size) bs)
broken_frame size at k [] e = let f = frame_at size k [] e in absurd (omega (arith, f.3))
broken_frame size at k (b ∷ bs) e =
    let s : suc (k + size) ≡ k + 1 + size = omega arith in
    let place : at + 1 + (k + size) ≡ at + (k + 1 + size) = omega arith in
    ap (λ u. broken_step u size at bs) e ∙ (broken-drop size bs (k + size) (at + 1) ∙ (ap (λ p. broken_from size 0 p (drop (k + size) bs)) place ∙ ap (λ j. broken_from size 0 (at + (k + 1 + size)) (drop j (b ∷ bs))) s))

-- no frame, or none that is whole
pub packets_none : (size at n : ℕ) (bs : List ℕ) → (unit size bs ≡ Wait) ⊎ (unit size bs ≡ Other) → packets_from size 0 at n bs ≡ []
packets_none size at n [] h = refl
packets_none size at n (b ∷ bs) (inl e) = ap (λ u. packets_step u size at n b bs) e
packets_none size at n (b ∷ bs) (inr e) = ap (λ u. packets_step u size at n b bs) e

pub broken_here : (size at : ℕ) (bs : List ℕ) → bs ≢ [] → (unit size bs ≡ Wait) ⊎ (unit size bs ≡ Other) → broken_from size 0 at bs ≡ Some at
broken_here size at [] some h = absurd (some refl)
broken_here size at (b ∷ bs) some (inl e) = ap (λ u. broken_step u size at bs) e
broken_here size at (b ∷ bs) some (inr e) = ap (λ u. broken_step u size at bs) e
