-- What a tag does is the same whatever follows, unless it waits.
use Rattle.std.proofs.Common.{◌≡◌, ℕ, zero, suc, ◌+◌, ◌<◌, ◌≤◌, inl, inr, Bool, true, false, cond, List, [], ◌∷◌, ◌++◌, length, None, Err, refl, sym, ap, ◌∙◌, arith}
use Rattle.std.specs.Prelude.{slice_index, nat_lt, ◌&&◌, not}
use Rattle.std.proofs.lemmas.Bool.Decides.{nat_tests}
use Rattle.ff_reader.specs.Walks.{agrees}
use Rattle.ff_reader.specs.declared.fault.HeadFault.TheVariants.{Damaged, Unsupported}
use Rattle.ff_reader.specs.declared.step.Step.TheVariants.{Wait, Decide, Skip}
use Rattle.ff_reader.proofs.AgreeLaws.{bool_cases, agrees-append, agrees_long}
use Rattle.ff_flac_dec.specs.declared.head.HeadState.TheVariants.{Tags, Blocks}
use Rattle.ff_flac_dec.specs.Blocks.{BlockStep}
use Rattle.ff_flac_dec.specs.Tags.{magic, tag_start, is_low, are_low, size_in, footer_in, tag}
use Rattle.ff_flac_dec.specs.laws.BlockLaws.{Settles, settles_if, settles_decided, settles_wait, not_less, index_front}

-- ---- the bytes of the size

past : (bs : List ℕ) (i : ℕ) → length bs ≤ i → slice_index bs i ≡ 0
past [] i le = refl
past (b ∷ bs) zero le = absurd (omega (arith, le))
past (b ∷ bs) (suc i) le = past bs i (omega (arith, le))

high_there : (bs : List ℕ) (i : ℕ) → is_low i bs ≡ false → i < length bs
high_there bs i e = elim (bool_cases (nat_lt i (length bs))) [
  | inl a ↦ grind (arith, nat_tests)
  | inr a ↦ let zero_there : slice_index bs i ≡ 0 = past bs i (not_less i (length bs) a) in let clash : true ≡ false = sym (ap (λ n. nat_lt n 128) zero_there) ∙ e in cc
]

high_stays : (bs more : List ℕ) (i : ℕ) → is_low i bs ≡ false → is_low i (bs ++ more) ≡ false
high_stays bs more i e = ap (λ n. nat_lt n 128) (index_front bs more i (high_there bs i e)) ∙ e

pub and_false : (x y z w : Bool) → (x ≡ false → z ≡ false) → (y ≡ false → w ≡ false) → (x && y) ≡ false → (z && w) ≡ false
and_false true y true w p q e = q e
and_false true y false w p q e = refl
and_false false y true w p q e = let clash : true ≡ false = p refl in cc
and_false false y false w p q e = refl

are_high : (bs more : List ℕ) → are_low bs ≡ false → are_low (bs ++ more) ≡ false
are_high bs more e =
    and_false _ _ _ _ (and_false _ _ _ _ (and_false _ _ _ _ (high_stays bs more 6) (high_stays bs more 7)) (high_stays bs more 8)) (high_stays bs more 9) e

low_same : (bs more : List ℕ) → 10 ≤ length bs → are_low (bs ++ more) ≡ are_low bs
low_same bs more le =
    let six = index_front bs more 6 (omega (arith, le)) in
    let seven = index_front bs more 7 (omega (arith, le)) in
    let eight = index_front bs more 8 (omega (arith, le)) in
    let nine = index_front bs more 9 (omega (arith, le)) in
    rw (six, seven, eight, nine) refl

size_same : (bs more : List ℕ) → 10 ≤ length bs → 9 + size_in (bs ++ more) + footer_in (bs ++ more) ≡ 9 + size_in bs + footer_in bs
size_same bs more le =
    let five = index_front bs more 5 (omega (arith, le)) in
    let six = index_front bs more 6 (omega (arith, le)) in
    let seven = index_front bs more 7 (omega (arith, le)) in
    let eight = index_front bs more 8 (omega (arith, le)) in
    let nine = index_front bs more 9 (omega (arith, le)) in
    rw (five, six, seven, eight, nine) refl

-- ---- a tag, and then `fLaC`

-- no tag begins here
abbrev no_tag : List ℕ → Bool
no_tag bs = not (agrees tag_start bs && are_low bs)

abbrev there : List ℕ → BlockStep
there bs = cond (nat_lt (length bs) 10) Wait (Skip (9 + size_in bs + footer_in bs) Tags)

abbrev tag_or_none : List ℕ → BlockStep
tag_or_none bs = cond (no_tag bs) (Decide (Err (Unsupported 0))) (there bs)

abbrev name_there : List ℕ → BlockStep
name_there bs = cond (nat_lt (length bs) 4) Wait (Skip 3 (Blocks None))

no_tag_stays : (bs more : List ℕ) → no_tag bs ≡ true → no_tag (bs ++ more) ≡ true
no_tag_stays bs more e = ap not (and_false _ _ _ _ (agrees-append tag_start bs more) (are_high bs more) (turned (agrees tag_start bs && are_low bs) e))
  where
    turned : (b : Bool) → not b ≡ true → b ≡ false
    turned true e = cc
    turned false e = refl

tag_settles_at : (bs more : List ℕ) (b : Bool) → no_tag bs ≡ b → Settles (tag_or_none bs) (tag_or_none (bs ++ more))
tag_settles_at bs more true e = inr (none_there bs e ∙ sym (none_there (bs ++ more) (no_tag_stays bs more e)))
  where
    none_there : (xs : List ℕ) → no_tag xs ≡ true → tag_or_none xs ≡ Decide (Err (Unsupported 0))
    none_there xs n = ap (λ t. cond t (Decide (Err (Unsupported 0))) (there xs)) n
tag_settles_at bs more false e = elim (bool_cases (nat_lt (length bs) 10)) [
  | inl w ↦ inl (ap (λ t. cond t (Decide (Err (Unsupported 0))) (there bs)) e ∙ ap (λ t. cond t Wait (Skip (9 + size_in bs + footer_in bs) Tags)) w)
  | inr w ↦
      let le = not_less (length bs) 10 w in
      let same : no_tag (bs ++ more) ≡ no_tag bs = rw (agrees_long tag_start bs more le, low_same bs more le) refl in
      settles_decided _ _ _ _ _ (sym same) (settles_wait bs more 10 _ _ (λ long. inr (ap (λ n. Skip n Tags) (sym (size_same bs more le)))))
]

name_settles : (bs more : List ℕ) → Settles (name_there bs) (name_there (bs ++ more))
name_settles bs more = settles_wait bs more 4 _ _ (λ long. inr refl)

pub tag_settles : (bs more : List ℕ) → Settles (tag bs) (tag (bs ++ more))
unfolding tag
tag_settles bs more = elim (bool_cases (agrees magic bs)) [
  | inl a ↦ elim (bool_cases (nat_lt (length bs) 4)) [
    | inl w ↦ inl (ap (λ t. cond t (name_there bs) (tag_or_none bs)) a ∙ ap (λ t. cond t Wait (Skip 3 (Blocks None))) w)
    | inr w ↦
        let same = sym (agrees_long magic bs more (not_less (length bs) 4 w)) in
        settles_if _ _ _ _ _ _ same (name_settles bs more) (tag_settles_at bs more (no_tag bs) refl)
  ]
  | inr a ↦ settles_if _ _ _ _ _ _ (a ∙ sym (agrees-append magic bs more a)) (name_settles bs more) (tag_settles_at bs more (no_tag bs) refl)
]

-- ---- nothing is damaged here

never_if : (p : ℕ) (b : Bool) (s t : BlockStep) → (s ≡ Decide (Err (Damaged p)) → ⊥) → (t ≡ Decide (Err (Damaged p)) → ⊥) → cond b s t ≡ Decide (Err (Damaged p)) → ⊥
never_if p true s t one other e = one e
never_if p false s t one other e = other e

pub tag_undamaged : (bs : List ℕ) (p : ℕ) → tag bs ≡ Decide (Err (Damaged p)) → ⊥
unfolding tag
tag_undamaged bs p =
    never_if p (agrees magic bs) _ _
    (never_if p (nat_lt (length bs) 4) _ _ (λ e. cc) (λ e. cc))
    (never_if p (no_tag bs) _ _ (λ e. cc) (never_if p (nat_lt (length bs) 10) _ _ (λ e. cc) (λ e. cc)))
