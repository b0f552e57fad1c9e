-- Items of a stream with some left out.
use Rattle.std.proofs.Common.{◌≡◌, zero, suc, ◌⊎◌, inl, inr, List, [], ◌∷◌, sym, subst, arith, All, ℤ, ◌<ℤ◌, ◌≤ℤ◌}
use Rattle.ff_frame.specs.declared.head.StreamHead.{StreamHead}
use Rattle.ff_frame.specs.declared.head.StreamHead.TheVariants.{Audio as AudioHead, Video as VideoHead}
use Rattle.ff_stream.specs.declared.item.Item.{Item}
use Rattle.ff_stream.specs.declared.item.Lane.{Lane}
use Rattle.ff_stream.specs.Times.{end_of}
use Rattle.ff_stream.specs.Lanes.{head_of, StartsAfter, Follows, InOrder, IsItemFor, AreInShape}

-- ys are items of xs in their order
abbrev pub IsPart : List Item → List Item → Type 0
IsPart [] xs = Unit {0}
IsPart (y ∷ ys) [] = ⊥
IsPart (y ∷ ys) (x ∷ xs) = ((y ≡ x) × IsPart ys xs) ⊎ IsPart (y ∷ ys) xs

pub part_later : (x : Item) (ys xs : List Item) → IsPart ys xs → IsPart ys (x ∷ xs)
part_later x [] xs p = tt
part_later x (y ∷ ys) xs p = inr p

le_trans : {a b c : ℤ} → a ≤ℤ b → b ≤ℤ c → a ≤ℤ c
le_trans {a} {b} {c} h k = grind (arith)

lt_trans : {a b c : ℤ} → a <ℤ b → b <ℤ c → a <ℤ c
lt_trans {a} {b} {c} h k = grind (arith)

after_that : (head : StreamHead) (x y z : Item) → end_of x ≤ℤ end_of y → StartsAfter head y z → StartsAfter head x z
after_that (AudioHead tb rate bits channels codec) x y z h k = le_trans h k
after_that (VideoHead tb format width height sar_num sar_den) x y z h k = tt

follows_that : (lane : Lane) (x y z : Item) → Follows lane x y → Follows lane y z → Follows lane x z
follows_that lane x y z a b = record {
  timed = a.timed;
  starts = λ t. lt_trans (a.starts b.timed) (b.starts t);
  ends = λ t. le_trans (a.ends b.timed) (b.ends t);
  apart = λ t. after_that (head_of lane) x y z (a.ends b.timed) (b.apart t);
}

without : (lane : Lane) (x y : Item) (xs : List Item) → InOrder lane (x ∷ y ∷ xs) → InOrder lane (x ∷ xs)
without lane x y [] o = tt
without lane x y (z ∷ xs) o = (follows_that lane x y z o.0 o.1.0, o.1.1)

behind_that : (lane : Lane) (x : Item) (ys xs : List Item) → IsPart ys xs → InOrder lane (x ∷ xs) → InOrder lane (x ∷ ys)
behind_that lane x [] xs p o = tt
behind_that lane x (y ∷ ys) [] p o = absurd p
behind_that lane x (y ∷ ys) (z ∷ xs) (inl h) o = subst (λ (w : Item). InOrder lane (x ∷ w ∷ ys)) (sym h.0) (o.0, behind_that lane z ys xs h.1 o.1)
behind_that lane x (y ∷ ys) (z ∷ xs) (inr p) o = behind_that lane x (y ∷ ys) xs p (without lane x z xs o)

order_part : (lane : Lane) (ys xs : List Item) → IsPart ys xs → InOrder lane xs → InOrder lane ys
order_part lane [] xs p o = tt
order_part lane (y ∷ ys) [] p o = absurd p
order_part lane (y ∷ ys) (x ∷ xs) (inl h) o = subst (λ (w : Item). InOrder lane (w ∷ ys)) (sym h.0) (behind_that lane x ys xs h.1 o)
order_part lane (y ∷ ys) (x ∷ []) (inr p) o = absurd p
order_part lane (y ∷ ys) (x ∷ z ∷ xs) (inr p) o = order_part lane (y ∷ ys) (z ∷ xs) p o.1

each_part : (lane : Lane) (ys xs : List Item) → IsPart ys xs → All (IsItemFor lane) xs → All (IsItemFor lane) ys
each_part lane [] xs p a k d lt = absurd (omega arith)
each_part lane (y ∷ ys) [] p a k d lt = absurd p
each_part lane (y ∷ ys) (x ∷ xs) (inr p) a k d lt = each_part lane (y ∷ ys) xs p (λ j e less. a (suc j) e (omega arith)) k d lt
each_part lane (y ∷ ys) (x ∷ xs) (inl h) a zero d lt = subst (λ (w : Item). IsItemFor lane w) (sym h.0) (a zero x (omega arith))
each_part lane (y ∷ ys) (x ∷ xs) (inl h) a (suc k) d lt = each_part lane ys xs h.1 (λ j e less. a (suc j) e (omega arith)) k d (omega arith)

-- they are in shape where xs are
pub shape_part : (lane : Lane) (ys xs : List Item) → IsPart ys xs → AreInShape lane xs → AreInShape lane ys
shape_part lane ys xs p s = record { each = each_part lane ys xs p s.each; in_order = order_part lane ys xs p s.in_order }
