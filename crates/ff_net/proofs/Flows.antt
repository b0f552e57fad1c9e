-- Streams by port, and what is due.
use Rattle.std.proofs.Common.{◌≡◌, ◌≢◌, ℕ, zero, suc, ◌<◌, ◌≤◌, ◌==◌, ◌⊎◌, inl, inr, Bool, true, false, cond, List, [], ◌∷◌, map, length, take, nat_le, refl, ap, sym, ◌∙◌, subst, arith, Option, None, Some, is_some}
use Rattle.std.proofs.lemmas.Bool.Decides.{nat_tests}
use mathlib.Core.List.{IsPrefix}
use Rattle.ff_stream.specs.declared.item.Item.{Item}
use Rattle.ff_stream.specs.declared.item.Lane.{Lane}
use Rattle.ff_stream.specs.Stream.{still_open, LiesBelow}
use Rattle.ff_stream.specs.Items.{with_item}
use Rattle.ff_stream.specs.laws.Order.{below_self, below_both, nothing_below, with_item_above, all_trans, prefix_self}
use Rattle.ff_stream.specs.Ports.{nothing, stream_at, AllBelow}
use Rattle.ff_stream.specs.laws.LaneLaws.{valid_below, valid_front}
use Rattle.ff_net.specs.Ways.{Flow, lane_at, IsValidOn, AreValid, with_item_at}
use Rattle.ff_net.specs.Pasts.{Past, Units, units_of, due, due_by, cut_to, fed}

pub stream_at-with_item_same : (ss : List Flow) (p : ℕ) (x : Item) → stream_at (with_item_at ss p x) p ≡ with_item (stream_at ss p) x
stream_at-with_item_same [] zero x = refl
stream_at-with_item_same [] (suc p) x = stream_at-with_item_same [] p x
stream_at-with_item_same (s ∷ ss) zero x = refl
stream_at-with_item_same (s ∷ ss) (suc p) x = stream_at-with_item_same ss p x

pub stream_at-with_item_other : (ss : List Flow) (p q : ℕ) (x : Item) → q ≢ p → stream_at (with_item_at ss p x) q ≡ stream_at ss q
stream_at-with_item_other [] zero zero x n = absurd (n refl)
stream_at-with_item_other [] zero (suc q) x n = refl
stream_at-with_item_other [] (suc p) zero x n = refl
stream_at-with_item_other [] (suc p) (suc q) x n = stream_at-with_item_other [] p q x (λ e. n (ap suc e))
stream_at-with_item_other (s ∷ ss) zero zero x n = absurd (n refl)
stream_at-with_item_other (s ∷ ss) zero (suc q) x n = refl
stream_at-with_item_other (s ∷ ss) (suc p) zero x n = refl
stream_at-with_item_other (s ∷ ss) (suc p) (suc q) x n = stream_at-with_item_other ss p q x (λ e. n (ap suc e))

pub same_or_not : (v w : ℕ) → (v ≡ w) ⊎ (v ≢ w)
same_or_not v w = pick (v == w) refl
  where
    pick : (b : Bool) → (v == w) ≡ b → (v ≡ w) ⊎ (v ≢ w)
    pick true e = let same : v ≡ w = grind (arith, nat_tests) in inl same
    pick false e = let other : v ≢ w = grind (arith, nat_tests) in inr other

-- what lies below what is valid there is valid
pub valid_on_below : (lane : Option Lane) (r s : Flow) → LiesBelow r s → IsValidOn lane s → IsValidOn lane r
valid_on_below None r s b v = below_both r nothing (subst (λ (t : Flow). LiesBelow r t) v b) (nothing_below r)
valid_on_below (Some l) r s b v = valid_below l r s b v

pub all_valid_below : (lanes : List Lane) (rs ss : List Flow) → AllBelow rs ss → AreValid lanes ss → AreValid lanes rs
all_valid_below lanes rs ss b v p = valid_on_below (lane_at lanes p) (stream_at rs p) (stream_at ss p) (b p) (v p)

-- a closing item takes nothing away from what is valid
pub broken_valid_on : (lanes : List Lane) (p : ℕ) (s t : Flow) → p < length lanes → t.items ≡ s.items → IsValidOn (lane_at lanes p) s → IsValidOn (lane_at lanes p) t
broken_valid_on [] p s t lt e v = absurd (omega arith)
broken_valid_on (l ∷ ls) zero s t lt e v = valid_front l t s (subst (λ (xs : List Item). IsPrefix t.items xs) e (prefix_self t.items)) v
broken_valid_on (l ∷ ls) (suc p) s t lt e v = broken_valid_on ls p s t (omega arith) e v

pub take_front : (n : ℕ) (xs : List Item) → IsPrefix (take n xs) xs
take_front zero xs = (xs, refl)
take_front (suc n) [] = ([], refl)
take_front (suc n) (x ∷ xs) = let r = take_front n xs in (r.0, ap (λ (ys : List Item). x ∷ ys) r.1)

pub take_whole : (n : ℕ) (xs : List Item) → length xs ≤ n → take n xs ≡ xs
take_whole zero [] le = refl
take_whole (suc n) [] le = refl
take_whole zero (x ∷ xs) le = absurd (omega arith)
take_whole (suc n) (x ∷ xs) le = ap (λ (ys : List Item). x ∷ ys) (take_whole n xs (omega arith))

pub cut_below : (n : ℕ) (s : Flow) → LiesBelow (cut_to n s) s
cut_below n s = pick (nat_le n (length s.items)) refl
  where
    pick : (b : Bool) → nat_le n (length s.items) ≡ b → LiesBelow (record { items = take n s.items; mark = cond b still_open s.mark }) s
    pick true e = inr (refl, take_front n s.items)
    pick false e =
        let le : length s.items ≤ n = grind (arith, nat_tests) in
        let with_items : List Item → Flow = λ xs. record { items = xs; mark = s.mark } in
        inl (ap with_items (take_whole n s.items le))

-- the units of a stream, as far as so many, are of it
pub units_below : (s : Flow) (n : ℕ) (ss : List Flow) → AllBelow ((units_of s).upto n) (s ∷ ss)
units_below s n ss zero = cut_below n s
units_below s n ss (suc p) = nothing_below (stream_at ss p)

-- what a source may give at any time is of what it means
abbrev pub AreUnits : Past → Type 0
AreUnits past = (units : Units) → past.task.source ≡ Some units → (n : ℕ) → AllBelow (units.upto n) (past.task.means past.got)

-- what is no source has none
pub no_units : (past : Past) → past.task.source ≡ None → AreUnits past
no_units past none units e n = (let clash : None ≡ Some units = sym none ∙ e in cc)

pub is_none : (o : Option Units) → o ≡ None → is_some o ≡ false
is_none o e = ap (λ (p : Option Units). is_some p) e

pub none_is : (o : Option Units) → is_some o ≡ false → o ≡ None
none_is None e = refl
none_is (Some units) e = cc

pub due_below : (past : Past) → AreUnits past → AllBelow (due past) (past.task.means past.got)
due_below past are = at past.task.source refl
  where
    at : (o : Option Units) → past.task.source ≡ o → AllBelow (due_by o (length past.allowed) (past.task.means past.got)) (past.task.means past.got)
    at None e = λ p. below_self (stream_at (past.task.means past.got) p)
    at (Some units) e = are units e (length past.allowed)

pub given_below : (past : Past) → AreUnits past → AllBelow past.gave (due past) → AllBelow past.gave (past.task.means past.got)
given_below past are g = all_trans past.gave (due past) (past.task.means past.got) g (due_below past are)

-- of no source all that is meant is due
pub due_meant : (past : Past) → past.task.source ≡ None → due past ≡ past.task.means past.got
due_meant past e = ap (λ (o : Option Units). due_by o (length past.allowed) (past.task.means past.got)) e

pub due_same : (past since : Past) → since.task ≡ past.task → since.got ≡ past.got → since.allowed ≡ past.allowed → due since ≡ due past
due_same past since t g a = cc (t, g, a)

pub fed_valid : (lanes : List Lane) (past : Past) (p : ℕ) (x : Item) → AreValid lanes past.got → IsValidOn (lane_at lanes p) (with_item (stream_at past.got p) x) → AreValid lanes (fed past p x).got
fed_valid lanes past p x v here q =
    elim (same_or_not q p) [
      | inl e ↦ subst (λ (r : ℕ). IsValidOn (lane_at lanes r) (stream_at (fed past p x).got r)) (sym e) (subst (λ (s : Flow). IsValidOn (lane_at lanes p) s) (sym (stream_at-with_item_same past.got p x)) here)
      | inr n ↦ subst (λ (s : Flow). IsValidOn (lane_at lanes q) s) (sym (stream_at-with_item_other past.got p q x n)) (v q)
    ]

pub fed_above : (past : Past) (p : ℕ) (x : Item) → (stream_at past.got p).mark ≡ still_open → AllBelow past.got (fed past p x).got
fed_above past p x o q =
    elim (same_or_not q p) [
      | inl e ↦ subst (λ (r : ℕ). LiesBelow (stream_at past.got r) (stream_at (fed past p x).got r)) (sym e) (subst (λ (s : Flow). LiesBelow (stream_at past.got p) s) (sym (stream_at-with_item_same past.got p x)) (with_item_above (stream_at past.got p) x o))
      | inr n ↦ subst (λ (s : Flow). LiesBelow (stream_at past.got q) s) (sym (stream_at-with_item_other past.got p q x n)) (below_self (stream_at past.got q))
    ]

-- a port has a lane
pub lane_there : (lanes : List Lane) (p : ℕ) → p < length lanes → (l : Lane) × (lane_at lanes p ≡ Some l)
lane_there [] p lt = absurd (omega arith)
lane_there (l ∷ ls) zero lt = (l, refl)
lane_there (l ∷ ls) (suc p) lt = lane_there ls p (omega arith)

pub there_lane : (lanes : List Lane) (p : ℕ) (l : Lane) → lane_at lanes p ≡ Some l → p < length lanes
there_lane [] p l e = cc
there_lane (m ∷ ms) zero l e = omega arith
there_lane (m ∷ ms) (suc p) l e = let lt : p < length ms = there_lane ms p l e in omega (arith, lt)
