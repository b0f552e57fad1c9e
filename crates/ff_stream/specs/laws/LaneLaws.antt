-- What lies below a valid stream is valid.
use Rattle.std.specs.Prelude.{◌≡◌, ℕ, zero, suc, ◌≤◌, List, [], ◌∷◌, ◌++◌, length, All}
use Rattle.std.proofs.Common.{subst, sym, ap, arith, length-append, lit≤}
use mathlib.Core.List.{IsPrefix}
use Rattle.ff_stream.specs.declared.item.Item.{Item}
use Rattle.ff_stream.specs.declared.item.Lane.{Lane}
use Rattle.ff_stream.specs.Stream.{Stream, LiesBelow, opened}
use Rattle.ff_stream.specs.Lanes.{InOrder, AreInShape, IsItemFor, IsValid, EndsInTime}
use Rattle.ff_stream.specs.laws.Order.{below_items, opened_below}
use Rattle.ff_stream.specs.Ports.{nothing}

all_front : {A : Type 0} (P : A → Type 0) (xs ys : List A) → All P (xs ++ ys) → All P xs
all_front P [] ys a k d lt = absurd (omega arith)
all_front P (x ∷ xs) ys a zero d lt = a zero d (omega arith)
all_front P (x ∷ xs) ys a (suc k) d lt = all_front P xs ys (λ j e less. a (suc j) e (omega arith)) k d (omega arith)

order_front : (lane : Lane) (xs ys : List Item) → InOrder lane (xs ++ ys) → InOrder lane xs
order_front lane [] ys o = tt
order_front lane (x ∷ []) ys o = tt
order_front lane (x ∷ y ∷ xs) ys o = (o.0, order_front lane (y ∷ xs) ys o.1)

-- of items in shape each first part is in shape
pub shape_front : (lane : Lane) (xs ys : List Item) → IsPrefix xs ys → AreInShape lane ys → AreInShape lane xs
shape_front lane xs ys p s = record {
  each = all_front (IsItemFor lane) xs p.0 (subst (λ (zs : List Item). All (IsItemFor lane) zs) (sym p.1) s.each);
  in_order = order_front lane xs p.0 (subst (λ (zs : List Item). InOrder lane zs) (sym p.1) s.in_order);
}

length_front : (xs ys zs : List Item) (n : ℕ) → xs ++ zs ≡ ys → length ys ≤ n → length xs ≤ n
length_front xs ys zs n e le = omega (arith, simp length-append at (ap length e))

-- each stream whose items begin a valid one is valid
pub valid_front : (lane : Lane) (r s : Stream Item) → IsPrefix r.items s.items → IsValid lane s → IsValid lane r
valid_front lane r s p v = record {
  shape = shape_front lane r.items s.items p v.shape;
  few = length_front r.items s.items p.0 _ p.1 v.few;
  in_time = all_front (EndsInTime lane) r.items p.0 (subst (λ (zs : List Item). All (EndsInTime lane) zs) (sym p.1) v.in_time);
}

pub valid_below : (lane : Lane) (r s : Stream Item) → LiesBelow r s → IsValid lane s → IsValid lane r
valid_below lane r s b v = valid_front lane r s (below_items r s b) v

pub valid_opened : (lane : Lane) (s : Stream Item) → IsValid lane s → IsValid lane (opened s)
valid_opened lane s v = valid_below lane (opened s) s (opened_below s) v

pub nothing_valid : (lane : Lane) → IsValid lane nothing
nothing_valid lane = record { shape = record { each = λ k d lt. absurd (omega arith); in_order = tt }; few = lit≤ tt; in_time = λ k d lt. absurd (omega arith) }
