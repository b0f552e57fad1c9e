-- Parameters, one after the other.
use Rattle.std.proofs.Common.{◌≡◌, ◌≢◌, ℕ, zero, suc, ◌+◌, ◌<◌, ◌≤◌, true, false, cond, List, [], ◌∷◌, take, drop, length, Result, Ok, Err, refl, sym, ap, ◌∙◌, arith, get_or, add-zero}
use Rattle.std.specs.Prelude.{◌==◌}
use Rattle.std.proofs.lemmas.List.{drop-drop, drop_all}
use Rattle.std.proofs.lemmas.Bool.Decides.{nat_tests}
use Rattle.ff_reader.specs.declared.fault.HeadFault.{HeadFault}
use Rattle.ff_y4m.specs.declared.parameters.Parameters.{Parameters}
use Rattle.ff_y4m.specs.Parameters.{lettered}
use Rattle.ff_y4m.specs.Heads.{word_len, parameters}

pub parameters-drop : (bs : List ℕ) (skip at : ℕ) (p : Parameters) → parameters skip at p bs ≡ parameters 0 (at + skip) p (drop skip bs)
parameters-drop [] zero at p = refl
parameters-drop [] (suc skip) at p = refl
parameters-drop (b ∷ bs) zero at p = ap (λ k. parameters 0 k p (b ∷ bs)) (sym (add-zero at))
parameters-drop (b ∷ bs) (suc skip) at p = let e : at + 1 + skip ≡ at + suc skip = omega arith in parameters-drop bs skip (at + 1) p ∙ ap (λ k. parameters 0 k p (drop skip bs)) e

first_drop : (bs : List ℕ) (i : ℕ) → i < length bs → drop i bs ≡ get_or bs i 0 ∷ drop (i + 1) bs
first_drop [] i lt = absurd (omega arith)
first_drop (b ∷ bs) zero lt = refl
first_drop (b ∷ bs) (suc i) lt = let e : suc i + 1 ≡ suc (i + 1) = omega arith in first_drop bs i (omega arith) ∙ ap (λ k. get_or bs i 0 ∷ drop k (b ∷ bs)) (sym e)

-- what a parameter makes of those behind it
abbrev pub after : Result Parameters HeadFault → ℕ → List ℕ → Result Parameters HeadFault
after r at bs = elim r [ Ok next ↦ parameters (word_len bs) (at + 1) next bs | Err e ↦ Err e ]

pub at_byte : (b at : ℕ) (p : Parameters) (bs : List ℕ) → parameters 0 at p (b ∷ bs) ≡ cond (b == 32) (parameters 0 (at + 1) p bs) (after (lettered at b (take (word_len bs) bs) p) at bs)
at_byte b at p bs = refl

-- a space
pub space_step : (line : List ℕ) (at : ℕ) (p : Parameters) → at < length line → get_or line at 0 ≡ 32 → parameters 0 at p (drop at line) ≡ parameters 0 (at + 1) p (drop (at + 1) line)
space_step line at p lt e =
    let t : (get_or line at 0 == 32) ≡ true = grind (arith, nat_tests) in
    ap (parameters 0 at p) (first_drop line at lt) ∙ ap (λ x. cond x (parameters 0 (at + 1) p (drop (at + 1) line)) (after (lettered at (get_or line at 0) (take (word_len (drop (at + 1) line)) (drop (at + 1) line)) p) at (drop (at + 1) line))) t

letter_step : (line : List ℕ) (at : ℕ) (p : Parameters) → at < length line → get_or line at 0 ≢ 32
    → parameters 0 at p (drop at line) ≡ after (lettered at (get_or line at 0) (take (word_len (drop (at + 1) line)) (drop (at + 1) line)) p) at (drop (at + 1) line)
letter_step line at p lt n =
    let t : (get_or line at 0 == 32) ≡ false = grind (arith, nat_tests) in
    ap (parameters 0 at p) (first_drop line at lt) ∙ ap (λ x. cond x (parameters 0 (at + 1) p (drop (at + 1) line)) (after (lettered at (get_or line at 0) (take (word_len (drop (at + 1) line)) (drop (at + 1) line)) p) at (drop (at + 1) line))) t

-- a parameter
pub good_step : (line rest value : List ℕ) (at n : ℕ) (p next : Parameters) → at < length line → get_or line at 0 ≢ 32 → rest ≡ drop (at + 1) line → n ≡ word_len rest → value ≡ take n rest
    → Ok next ≡ lettered at (get_or line at 0) value p → parameters 0 at p (drop at line) ≡ parameters 0 (at + 1 + n) next (drop (at + 1 + n) line)
good_step line rest value at n p next lt ne er en ev e =
    let r = drop (at + 1) line in
    let n_is : n ≡ word_len r = en ∙ ap word_len er in
    let v_is : value ≡ take (word_len r) r = ev ∙ (ap (λ k. take k rest) n_is ∙ ap (take (word_len r)) er) in
    let l_is : lettered at (get_or line at 0) (take (word_len r) r) p ≡ Ok next = ap (λ v. lettered at (get_or line at 0) v p) (sym v_is) ∙ sym e in
    letter_step line at p lt ne ∙ (ap (λ x. after x at r) l_is ∙ (parameters-drop r (word_len r) (at + 1) next
    ∙ (ap (λ k. parameters 0 (at + 1 + k) next (drop k r)) (sym n_is) ∙ ap (parameters 0 (at + 1 + n) next) (drop-drop n (at + 1) line))))

-- a fault
pub bad_step : (line rest value : List ℕ) (at n : ℕ) (p : Parameters) (f : HeadFault) → at < length line → get_or line at 0 ≢ 32 → rest ≡ drop (at + 1) line → n ≡ word_len rest → value ≡ take n rest
    → Err f ≡ lettered at (get_or line at 0) value p → parameters 0 at p (drop at line) ≡ Err f
bad_step line rest value at n p f lt ne er en ev e =
    let r = drop (at + 1) line in
    let n_is : n ≡ word_len r = en ∙ ap word_len er in
    let v_is : value ≡ take (word_len r) r = ev ∙ (ap (λ k. take k rest) n_is ∙ ap (take (word_len r)) er) in
    let l_is : lettered at (get_or line at 0) (take (word_len r) r) p ≡ Err f = ap (λ v. lettered at (get_or line at 0) v p) (sym v_is) ∙ sym e in
    letter_step line at p lt ne ∙ ap (λ x. after x at r) l_is

-- all were read
pub all_read : (line : List ℕ) (at : ℕ) (p : Parameters) → length line ≤ at → parameters 0 at p (drop at line) ≡ Ok p
all_read line at p le = ap (parameters 0 at p) (drop_all at line le)
