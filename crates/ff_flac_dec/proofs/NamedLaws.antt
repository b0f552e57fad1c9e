-- Where `fLaC` is there, behind tags that are whole; and which bytes make it so where it isn't decided.
use Rattle.std.proofs.Common.{◌≡◌, ℕ, zero, suc, ◌+◌, ◌<◌, ◌≤◌, ◌⊎◌, inl, inr, Bool, true, false, cond, List, [], ◌∷◌, ◌++◌, drop, length, Option, Some, None}
use Rattle.std.proofs.Common.{Err, refl, sym, ap, ◌∙◌, subst, arith, append-nil, append_assoc, length-append, lit<}
use Rattle.std.specs.Prelude.{slice_index, nat_lt, ◌==◌, ◌&&◌, All, not, codes}
use Rattle.std.proofs.lemmas.List.{length-drop, drop_all, drop-drop, drop_at}
use Rattle.std.proofs.lemmas.List.Elements.{All-nil, All-cons, All-drop, All-append}
use Rattle.std.proofs.lemmas.Bool.Decides.{nat_tests}
use Rattle.ff_reader.specs.declared.fault.HeadFault.TheVariants.{Unsupported}
use Rattle.ff_reader.specs.declared.step.Step.TheVariants.{Wait, Decide, Skip}
use Rattle.ff_reader.specs.Walks.{agrees, walk}
use Rattle.ff_reader.proofs.AgreeLaws.{agrees-append, agrees_complete, filled, filled_bytes, length_filled}
use Rattle.ff_reader.proofs.WalkLaws.{stepped, walk-drop}
use Rattle.ff_reader.proofs.ReachLaws.{walk_skip}
use Rattle.ff_flac_dec.specs.declared.head.HeadState.TheVariants.{Tags, Blocks}
use Rattle.ff_flac_dec.specs.Blocks.{BlockStep}
use Rattle.ff_flac_dec.specs.Heads.{unit}
use Rattle.ff_flac_dec.specs.Tags.{magic, tag_start, is_low, are_low, size_in, footer_in, tag, named_from}
use Rattle.ff_flac_dec.specs.laws.TagLaws.{tag_settles}

-- what follows a step
abbrev named_after : BlockStep → List ℕ → Bool
named_after x bs = elim x [ Wait ↦ false | Decide found ↦ false | Skip size Tags ↦ named_from size bs | Skip size (Blocks format) ↦ true ]

named_drop : (bs : List ℕ) (k : ℕ) → named_from k bs ≡ named_from 0 (drop k bs)
named_drop [] zero = refl
named_drop [] (suc k) = refl
named_drop (b ∷ bs) zero = refl
named_drop (b ∷ bs) (suc k) = named_drop bs k

named_unit : (bs : List ℕ) (x : BlockStep) → 0 < length bs → tag bs ≡ x → (r : Bool) → ((b : ℕ) (rest : List ℕ) → bs ≡ b ∷ rest → named_after x rest ≡ r)
    → named_from 0 bs ≡ r
named_unit [] x lt e r h = absurd (omega (arith, lt))
named_unit (b ∷ bs) x lt e r h = ap (λ y. named_after y bs) e ∙ h b bs refl

pub named_skip : (bs : List ℕ) (size : ℕ) → 0 < length bs → tag bs ≡ Skip size Tags → named_from 0 bs ≡ named_from 0 (drop (suc size) bs)
named_skip bs size lt e = named_unit bs (Skip size Tags) lt e (named_from 0 (drop (suc size) bs)) (λ b rest i. rw i (named_drop rest size))

pub named_start : (bs : List ℕ) (size : ℕ) (format : _) → 0 < length bs → tag bs ≡ Skip size (Blocks format) → named_from 0 bs ≡ true
named_start bs size format lt e = named_unit bs (Skip size (Blocks format)) lt e true (λ b rest i. refl)

pub named_wait : (bs : List ℕ) → 0 < length bs → tag bs ≡ Wait → named_from 0 bs ≡ false
named_wait bs lt e = named_unit bs Wait lt e false (λ b rest i. refl)

pub named_decide : (bs : List ℕ) (found : _) → 0 < length bs → tag bs ≡ Decide found → named_from 0 bs ≡ false
named_decide bs found lt e = named_unit bs (Decide found) lt e false (λ b rest i. refl)

-- ---- what follows

step_named : (x y : BlockStep) (bs more : List ℕ) → (x ≡ Wait) ⊎ (x ≡ y) → ((k : ℕ) → named_from k bs ≡ true → named_from k (bs ++ more) ≡ true)
    → named_after x bs ≡ true → named_after y (bs ++ more) ≡ true
step_named Wait y bs more h go e = cc
step_named (Decide found) y bs more h go e = cc
step_named (Skip size Tags) y bs more (inl w) go e = cc
step_named (Skip size Tags) y bs more (inr w) go e = subst (λ x. named_after x (bs ++ more) ≡ true) w (go size e)
step_named (Skip size (Blocks format)) y bs more (inl w) go e = cc
step_named (Skip size (Blocks format)) y bs more (inr w) go e = subst (λ x. named_after x (bs ++ more) ≡ true) w refl

pub named-append : (bs more : List ℕ) (k : ℕ) → named_from k bs ≡ true → named_from k (bs ++ more) ≡ true
named-append [] more k e = cc
named-append (b ∷ bs) more (suc k) e = named-append bs more k e
named-append (b ∷ bs) more zero e = step_named (tag (b ∷ bs)) (tag (b ∷ bs ++ more)) bs more (tag_settles (b ∷ bs) more) (named-append bs more) e

-- ---- bytes that make it so

pub zeros : ℕ → List ℕ
zeros zero = []
zeros (suc n) = 0 ∷ zeros n

pub length_zeros : (n : ℕ) → length (zeros n) ≡ n
unfolding zeros
length_zeros zero = refl
length_zeros (suc n) = ap suc (length_zeros n)

abbrev name : List ℕ
name = codes "fLaC"

name_bytes : All (λ b. b < 256) name
name_bytes =
    All-cons (λ b. b < 256) 102 (76 ∷ 97 ∷ 67 ∷ []) (lit< tt) (All-cons (λ b. b < 256) 76 (97 ∷ 67 ∷ []) (lit< tt)
    (All-cons (λ b. b < 256) 97 (67 ∷ []) (lit< tt) (All-cons (λ b. b < 256) 67 [] (lit< tt) (All-nil (λ b. b < 256)))))

behind_bytes : (n : ℕ) → All (λ b. b < 256) (zeros n ++ name)
unfolding zeros
behind_bytes zero = name_bytes
behind_bytes (suc n) = All-cons (λ b. b < 256) 0 (zeros n ++ name) (lit< tt) (behind_bytes n)

-- what an empty tag has behind `ID3`, and `fLaC`
abbrev pub tag_rest : List ℕ
tag_rest = 0 ∷ 0 ∷ 0 ∷ 0 ∷ 0 ∷ 0 ∷ 0 ∷ name

pub tag_rest_bytes : All (λ b. b < 256) tag_rest
unfolding zeros
tag_rest_bytes = behind_bytes 7

-- these bytes more go on to it, and nothing else is decided
pub record Opened (skip at : ℕ) (bs : List ℕ) : Type 0 where
  pub more : List ℕ
  pub bytes : All (λ b. b < 256) more
  pub named : named_from skip (bs ++ more) ≡ true
  pub undecided : walk unit skip Tags at (bs ++ more) ≡ None

named_behind : (n : ℕ) → named_from n (zeros n ++ name) ≡ true
unfolding zeros tag
named_behind zero = refl
named_behind (suc n) = named_behind n

walk_behind : (n at : ℕ) → walk unit n Tags at (zeros n ++ name) ≡ None
unfolding zeros tag
walk_behind zero at = refl
walk_behind (suc n) at = walk_behind n (at + 1)

opened_end : (skip at : ℕ) → Opened skip at []
opened_end skip at = record { more = zeros skip ++ name; bytes = behind_bytes skip; named = named_behind skip; undecided = walk_behind skip at }

-- ---- a tag that isn't whole

wait_by : (a l n m : Bool) (size : ℕ)
    → ◌≡◌ {A = BlockStep} (cond a (cond l Wait (Skip 3 (Blocks None))) (cond n (Decide (Err (Unsupported 0))) (cond m Wait (Skip size Tags)))) Wait
    → ((a ≡ true) × (l ≡ true)) ⊎ ((a ≡ false) × (n ≡ false) × (m ≡ true))
wait_by true true n m size e = inl (refl, refl)
wait_by true false n m size e = cc
wait_by false l true m size e = cc
wait_by false l false true size e = inr (refl, refl, refl)
wait_by false l false false size e = cc

waits : (bs : List ℕ) → tag bs ≡ Wait
    → ((agrees magic bs ≡ true) × (nat_lt (length bs) 4 ≡ true))
    ⊎ ((agrees magic bs ≡ false) × (not (agrees tag_start bs && are_low bs) ≡ false) × (nat_lt (length bs) 10 ≡ true))
unfolding tag
waits bs e = wait_by (agrees magic bs) (nat_lt (length bs) 4) (not (agrees tag_start bs && are_low bs)) (nat_lt (length bs) 10) (9 + size_in bs + footer_in bs) e

named_is : (bs : List ℕ) → agrees magic bs ≡ true → 4 ≤ length bs → tag bs ≡ Skip 3 (Blocks None)
unfolding tag
named_is bs a le =
    let long : nat_lt (length bs) 4 ≡ false = grind (arith, nat_tests) in
    rw (a, long) refl

tag_is : (bs : List ℕ) → agrees magic bs ≡ false → agrees tag_start bs ≡ true → are_low bs ≡ true → 10 ≤ length bs → tag bs ≡ Skip (9 + size_in bs + footer_in bs) Tags
unfolding tag
tag_is bs a t low le =
    let long : nat_lt (length bs) 10 ≡ false = grind (arith, nat_tests) in
    rw (a, t, low, long) refl

-- behind `fLaC` the blocks begin
pub walk_named : (bs : List ℕ) → agrees magic bs ≡ true → 4 ≤ length bs → walk unit 0 Tags 0 bs ≡ walk unit 0 (Blocks None) 4 (drop 4 bs)
walk_named bs a le = walk_skip unit Tags (Blocks None) 0 3 bs (omega (arith, le)) (named_is bs a le)

opened_name : (at : ℕ) (bs : List ℕ) → agrees magic bs ≡ true → length bs < 4 → Opened 0 at bs
opened_name at bs a lt =
    let rest = drop (length bs) (filled magic) in
    let size : length (bs ++ rest) ≡ 4 = omega (arith, lt, length-append bs rest, length-drop (length bs) (filled magic), length_filled magic) in
    let step = named_is (bs ++ rest) (agrees_complete magic bs a) (omega (arith, size)) in
    record {
      more = rest;
      bytes = All-drop (λ b. b < 256) (length bs) (filled magic) (filled_bytes magic (lit< tt, (lit< tt, (lit< tt, (lit< tt, tt)))));
      named = named_start (bs ++ rest) 3 None (omega (arith, size)) step;
      undecided = walk_skip unit Tags (Blocks None) at 3 (bs ++ rest) (omega (arith, size)) step
          ∙ ap (λ xs. walk unit 0 (Blocks None) (at + 1 + 3) xs) (drop_all 4 (bs ++ rest) (omega (arith, size)));
    }

-- a byte of what was there, or of what makes it whole
filled_at : (bs fs : List ℕ) (i : ℕ) → (slice_index (bs ++ drop (length bs) fs) i ≡ slice_index bs i) ⊎ (slice_index (bs ++ drop (length bs) fs) i ≡ slice_index fs i)
filled_at [] fs i = inr refl
filled_at (b ∷ bs) [] i = inl (ap (λ xs. slice_index (b ∷ xs) i) (append-nil bs))
filled_at (b ∷ bs) (f ∷ fs) zero = inl refl
filled_at (b ∷ bs) (f ∷ fs) (suc i) = filled_at bs fs i

low_filled : (bs fs : List ℕ) (i : ℕ) → is_low i bs ≡ true → is_low i fs ≡ true → is_low i (bs ++ drop (length bs) fs) ≡ true
low_filled bs fs i one other = elim (filled_at bs fs i) [
  | inl e ↦ ap (λ n. nat_lt n 128) e ∙ one
  | inr e ↦ ap (λ n. nat_lt n 128) e ∙ other
]

both : (x y : Bool) → (x && y) ≡ true → (x ≡ true) × (y ≡ true)
both true y e = (refl, e)
both false y e = cc

all_low_filled : (bs fs : List ℕ) → are_low bs ≡ true → are_low fs ≡ true → are_low (bs ++ drop (length bs) fs) ≡ true
all_low_filled bs fs one other =
    let a = both (is_low 6 bs && is_low 7 bs && is_low 8 bs) (is_low 9 bs) one in
    let b = both (is_low 6 bs && is_low 7 bs) (is_low 8 bs) a.0 in
    let c = both (is_low 6 bs) (is_low 7 bs) b.0 in
    let d = both (is_low 6 fs && is_low 7 fs && is_low 8 fs) (is_low 9 fs) other in
    let e = both (is_low 6 fs && is_low 7 fs) (is_low 8 fs) d.0 in
    let f = both (is_low 6 fs) (is_low 7 fs) e.0 in
    rw (low_filled bs fs 6 c.0 f.0, low_filled bs fs 7 c.1 f.1, low_filled bs fs 8 b.1 e.1, low_filled bs fs 9 a.1 d.1) refl

-- an empty tag's
abbrev filler : List ℕ
filler = codes "ID3" ++ 0 ∷ 0 ∷ 0 ∷ 0 ∷ 0 ∷ 0 ∷ 0 ∷ []

zero_bytes : (n : ℕ) → All (λ b. b < 256) (zeros n)
unfolding zeros
zero_bytes zero = All-nil (λ b. b < 256)
zero_bytes (suc n) = All-cons (λ b. b < 256) 0 (zeros n) (lit< tt) (zero_bytes n)

filler_bytes : All (λ b. b < 256) filler
unfolding zeros
filler_bytes =
    All-cons (λ b. b < 256) 73 (68 ∷ 51 ∷ zeros 7) (lit< tt) (All-cons (λ b. b < 256) 68 (51 ∷ zeros 7) (lit< tt)
    (All-cons (λ b. b < 256) 51 (zeros 7) (lit< tt) (zero_bytes 7)))

both_true : (x y : Bool) → x ≡ true → y ≡ true → (x && y) ≡ true
both_true true y e f = f
both_true false y e f = cc

pub agrees_filled : (ws : List (Option ℕ)) (fs bs : List ℕ) → agrees ws fs ≡ true → agrees ws bs ≡ true → agrees ws (bs ++ drop (length bs) fs) ≡ true
agrees_filled [] fs bs a e = refl
agrees_filled (w ∷ ws) fs [] a e = a
agrees_filled (w ∷ ws) [] (b ∷ bs) a e = ap (agrees (w ∷ ws)) (append-nil (b ∷ bs)) ∙ e
agrees_filled (Some n ∷ ws) (f ∷ fs) (b ∷ bs) a e =
    let one = both (f == n) (agrees ws fs) a in
    let other = both (b == n) (agrees ws bs) e in
    both_true (b == n) (agrees ws (bs ++ drop (length bs) fs)) other.0 (agrees_filled ws fs bs one.1 other.1)
agrees_filled (None ∷ ws) (f ∷ fs) (b ∷ bs) a e = agrees_filled ws fs bs a e

settled : (bs more : List ℕ) (size : ℕ) → tag bs ≡ Skip size Tags → tag (bs ++ more) ≡ Skip size Tags
settled bs more size e = elim (tag_settles bs more) [ inl w ↦ absurd (let clash : Skip size Tags ≡ Wait = sym e ∙ w in cc) | inr same ↦ sym same ∙ e ]

behind_tag : (xs : List ℕ) (size k : ℕ) → length xs ≡ 10 → size ≡ 9 + k → drop (suc size) (xs ++ (zeros k ++ name)) ≡ drop k (zeros k ++ name)
behind_tag xs size k long e =
    let n : suc size ≡ 10 + k = omega (arith, e) in
    ap (λ m. drop m (xs ++ (zeros k ++ name))) n
    ∙ (sym (drop-drop k 10 (xs ++ (zeros k ++ name))) ∙ ap (drop k) (drop_at xs (zeros k ++ name) 10 long))

opened_tag : (at : ℕ) (bs : List ℕ) → agrees magic bs ≡ false → agrees tag_start bs ≡ true → are_low bs ≡ true → length bs < 10 → Opened 0 at bs
opened_tag at bs a t low lt =
    let first = drop (length bs) filler in
    let xs = bs ++ first in
    let long : length xs ≡ 10 = omega (arith, lt, length-append bs first, length-drop (length bs) filler) in
    let step = tag_is xs (agrees-append magic bs first a) (agrees_filled tag_start filler bs refl t) (all_low_filled bs filler low refl) (omega (arith, long)) in
    let k = size_in xs + footer_in xs in
    let size = 9 + size_in xs + footer_in xs in
    let rest = zeros k ++ name in
    let same : bs ++ (first ++ rest) ≡ xs ++ rest = sym (append_assoc bs first rest) in
    let some : 0 < length (xs ++ rest) = omega (arith, long, length-append xs rest) in
    let seam = behind_tag xs size k long (omega arith) in
    let on = settled xs rest size step in
    record {
      more = first ++ rest;
      bytes = All-append (λ b. b < 256) first rest (All-drop (λ b. b < 256) (length bs) filler filler_bytes) (behind_bytes k);
      named = ap (named_from 0) same ∙ (named_skip (xs ++ rest) size some on ∙ (ap (named_from 0) seam ∙ (sym (named_drop rest k) ∙ named_behind k)));
      undecided = ap (λ ys. walk unit 0 Tags at ys) same
          ∙ (walk_skip unit Tags Tags at size (xs ++ rest) some on
          ∙ (ap (λ ys. walk unit 0 Tags (at + 1 + size) ys) seam
          ∙ (ap (λ n. walk unit 0 Tags n (drop k rest)) (omega arith) ∙ (sym (walk-drop unit rest k Tags (at + 10)) ∙ walk_behind k (at + 10)))));
    }

-- ---- where nothing is decided, and `fLaC` isn't there

less : (m n : ℕ) → nat_lt m n ≡ true → m < n
less m n e = grind (arith, nat_tests)

opened_wait : (at : ℕ) (bs : List ℕ) → tag bs ≡ Wait → Opened 0 at bs
opened_wait at bs e = elim (waits bs e) [
  | inl h ↦ opened_name at bs h.0 (less (length bs) 4 h.1)
  | inr h ↦ let parts =
      both (agrees tag_start bs) (are_low bs) (turned (agrees tag_start bs && are_low bs) h.1) in opened_tag at bs h.0 parts.0 parts.1 (less (length bs) 10 h.2)
]
  where
    turned : (b : Bool) → not b ≡ false → b ≡ true
    turned true e = refl
    turned false e = cc

opened_step : (x : BlockStep) (at b : ℕ) (bs : List ℕ) → tag (b ∷ bs) ≡ x → stepped unit x at bs ≡ None → named_after x bs ≡ false
    → ((k : ℕ) → walk unit k Tags (at + 1) bs ≡ None → named_from k bs ≡ false → Opened k (at + 1) bs) → Opened 0 at (b ∷ bs)
opened_step Wait at b bs is w n go = opened_wait at (b ∷ bs) is
opened_step (Decide found) at b bs is w n go = absurd cc
opened_step (Skip size (Blocks format)) at b bs is w n go = absurd cc
opened_step (Skip size Tags) at b bs is w n go =
    let o = go size w n in
    let on = settled (b ∷ bs) o.more size is in
    record {
      more = o.more;
      bytes = o.bytes;
      named = ap (λ y. named_after y (bs ++ o.more)) on ∙ o.named;
      undecided = ap (λ y. stepped unit y at (bs ++ o.more)) on ∙ o.undecided;
    }

pub opened : (bs : List ℕ) (skip at : ℕ) → walk unit skip Tags at bs ≡ None → named_from skip bs ≡ false → Opened skip at bs
opened [] skip at w n = opened_end skip at
opened (b ∷ bs) (suc skip) at w n = let o = opened bs skip (at + 1) w n in record { more = o.more; bytes = o.bytes; named = o.named; undecided = o.undecided }
opened (b ∷ bs) zero at w n = opened_step (tag (b ∷ bs)) at b bs refl w n (λ k. opened bs k (at + 1))
