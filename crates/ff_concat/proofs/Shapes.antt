-- Items in shape, the first of which starts at a time or later.
use Rattle.std.proofs.Common.{◌≡◌, ℕ, ◌+◌, ◌≤◌, ℤ, pos, negsuc, ◌<ℤ◌, ◌≤ℤ◌, Bool, true, false, cond, List, [], ◌∷◌, ◌++◌, length, All, refl, sym, subst, arith}
use Rattle.std.proofs.lemmas.Int.{ints}
use Rattle.std.proofs.lemmas.List.Elements.{All-nil, All-cons, All-head, All-tail}
use Rattle.ff_frame.specs.declared.head.StreamHead.{StreamHead}
use Rattle.ff_frame.specs.declared.head.StreamHead.TheVariants.{Audio as AudioHead, Video as VideoHead}
use Rattle.ff_stream.specs.declared.item.Item.{Item}
use Rattle.ff_stream.specs.declared.item.Lane.TheVariants.{Frames}
use Rattle.ff_stream.specs.Times.{start_of, end_of, ticks, end_ticks}
use Rattle.ff_stream.specs.Lanes.{StartsAfter, IsItemFor, InOrder}
use Rattle.ff_stream.specs.Within.{some_pass, before_pass}
use Rattle.ff_concat.specs.Tails.{last_end}
use Rattle.ff_concat.proofs.Later.{frame_of, timed_so}

le_ticks : (s : ℤ) → s ≤ℤ pos (ticks s)
le_ticks (pos n) = omega (arith, ints)
le_ticks (negsuc n) = omega (arith, ints)

lt_le_le : (a b c d : ℤ) → a <ℤ b → b ≤ℤ c → c ≤ℤ d → a <ℤ d
lt_le_le a b c d h k l = omega (arith, ints, h, k, l)

le_le_lt : (a b c d : ℤ) → a ≤ℤ b → b ≤ℤ c → c <ℤ d → a ≤ℤ d
le_le_lt a b c d h k l = omega (arith, ints, h, k, l)

le_le : (a b c : ℤ) → a ≤ℤ b → b ≤ℤ c → a ≤ℤ c
le_le a b c h k = omega (arith, ints, h, k)

from_less : (a b : ℕ) (s : ℤ) → a ≤ b → pos b ≤ℤ s → pos a ≤ℤ s
from_less a b s le h = omega (arith, ints, le, h)

module _ (h : StreamHead) where
  abbrev pub StartsFrom : ℕ → List Item → Type 0
  StartsFrom e [] = Unit {0}
  StartsFrom e (y ∷ ys) = pos e ≤ℤ start_of y

  pub record IsFine (e : ℕ) (ys : List Item) : Type 0 where
    pub each : All (IsItemFor (Frames h)) ys
    pub order : InOrder (Frames h) ys
    pub from : StartsFrom e ys

  pub none_fine : (e : ℕ) → IsFine e []
  none_fine e = record { each = All-nil (IsItemFor (Frames h)); order = tt; from = tt }

  pub one_fine : (e : ℕ) (y : Item) → IsItemFor (Frames h) y → pos e ≤ℤ start_of y → IsFine e (y ∷ [])
  one_fine e y i s = record { each = All-cons (IsItemFor (Frames h)) y [] i (All-nil (IsItemFor (Frames h))); order = tt; from = s }

  -- what starts at a time or later starts at an earlier time or later
  pub fine_from : (d e : ℕ) (ys : List Item) → d ≤ e → IsFine e ys → IsFine d ys
  fine_from d e ys le f = record { each = f.each; order = f.order; from = at ys f.from }
    where
      at : (zs : List Item) → StartsFrom e zs → StartsFrom d zs
      at [] s = tt
      at (z ∷ zs) s = from_less d e (start_of z) le s

  apart_so : (k : StreamHead) (y z : Item) → end_of y ≤ℤ start_of z → StartsAfter k y z
  apart_so (AudioHead tb rate bits channels codec) y z le = le
  apart_so (VideoHead tb format width height num den) y z le = tt

  -- an item stands before those that start at its end or later
  pub turn_fine : (e : ℕ) (y : Item) (zs : List Item) → IsItemFor (Frames h) y → pos e ≤ℤ start_of y → IsFine (end_ticks y) zs → IsFine e (y ∷ zs)
  turn_fine e y [] i s f = one_fine e y i s
  turn_fine e y (z ∷ zs) i s f =
      let t = timed_so y (frame_of h y i.fits) in
      let j = All-head (IsItemFor (Frames h)) z zs f.each in
      let le : end_of y ≤ℤ start_of z = le_le (end_of y) (pos (ticks (end_of y))) (start_of z) (le_ticks (end_of y)) f.from in
      record {
        each = All-cons (IsItemFor (Frames h)) y (z ∷ zs) i f.each;
        order = (
          record {
            timed = t;
            starts = λ k. lt_le_le (start_of y) (end_of y) (pos (ticks (end_of y))) (start_of z) (i.lasts t) (le_ticks (end_of y)) f.from;
            ends = λ k. le_le_lt (end_of y) (pos (ticks (end_of y))) (start_of z) (end_of z) (le_ticks (end_of y)) f.from (j.lasts k);
            apart = λ k. apart_so h y z le;
          },
          f.order,
        );
        from = s;
      }

  -- an item stands before those that it stood before, whatever comes behind them
  pub next_fine : (e : ℕ) (y z : Item) (zs us : List Item) → IsFine e (y ∷ z ∷ us) → IsFine 0 (z ∷ zs) → IsFine e (y ∷ z ∷ zs)
  next_fine e y z zs us f g = record {
    each = All-cons (IsItemFor (Frames h)) y (z ∷ zs) (All-head (IsItemFor (Frames h)) y (z ∷ us) f.each) g.each;
    order = (f.order.0, g.order);
    from = f.from;
  }

  -- the others are in shape too
  pub tail_fine : (e : ℕ) (y : Item) (ys : List Item) → IsFine e (y ∷ ys) → IsFine 0 ys
  tail_fine e y [] f = none_fine 0
  tail_fine e y (z ∷ zs) f =
      let each = All-tail (IsItemFor (Frames h)) y (z ∷ zs) f.each in
      record { each = each; order = f.order.1; from = (All-head (IsItemFor (Frames h)) z zs each).not_negative }

  module _ (passes : ℕ → Item → Bool) where
    -- items and others behind them, both up to a limit: where none of the items passes one, the others start at their end or later
    pub append_fine : (e g : ℕ) (ys zs : List Item) → IsFine e (before_pass passes g ys)
        → (some_pass passes g ys ≡ false → IsFine (last_end e ys) (before_pass passes (g + length ys) zs)) → IsFine e (before_pass passes g (ys ++ zs))
    append_fine e g [] zs f more = let n : g + 0 ≡ g = omega arith in subst (λ (k : ℕ). IsFine e (before_pass passes k zs)) n (more refl)
    append_fine e g (y ∷ []) zs f more = at (passes g y) refl f
      where
        at : (b : Bool) → passes g y ≡ b → IsFine e (cond b [] (y ∷ [])) → IsFine e (cond b [] (y ∷ before_pass passes (g + 1) zs))
        at true p f = none_fine e
        at false p f = turn_fine e y (before_pass passes (g + 1) zs) (All-head (IsItemFor (Frames h)) y [] f.each) f.from
            (more (subst (λ (b : Bool). cond b true false ≡ false) (sym p) refl))
    append_fine e g (y ∷ x ∷ ys) zs f more =
        at (passes g y) (passes (g + 1) x) refl refl f
        (λ p t. append_fine 0 (g + 1) (x ∷ ys) zs t
        (λ none.
        let n : g + length (y ∷ x ∷ ys) ≡ g + 1 + length (x ∷ ys) = omega arith in
        subst (λ (k : ℕ). IsFine (last_end 0 (x ∷ ys)) (before_pass passes k zs)) n
        (more (subst (λ (b : Bool). cond b true (some_pass passes (g + 1) (x ∷ ys)) ≡ false) (sym p) none))))
      where
        at : (b c : Bool) → passes g y ≡ b → passes (g + 1) x ≡ c → IsFine e (cond b [] (y ∷ cond c [] (x ∷ before_pass passes (g + 1 + 1) ys)))
            → (passes g y ≡ false → IsFine 0 (cond c [] (x ∷ before_pass passes (g + 1 + 1) ys)) → IsFine 0 (cond c [] (x ∷ before_pass passes (g + 1 + 1) (ys ++ zs))))
            → IsFine e (cond b [] (y ∷ cond c [] (x ∷ before_pass passes (g + 1 + 1) (ys ++ zs))))
        at true c p q f rest = none_fine e
        at false true p q f rest = f
        at false false p q f rest = next_fine e y x (before_pass passes (g + 1 + 1) (ys ++ zs)) (before_pass passes (g + 1 + 1) ys) f
            (rest p (tail_fine e y (x ∷ before_pass passes (g + 1 + 1) ys) f))
