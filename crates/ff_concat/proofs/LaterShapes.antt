-- Items in shape that are moved to a later time are in shape.
use Rattle.std.proofs.Common.{◌≡◌, ℕ, ◌+◌, ◌≤◌, ℤ, pos, ◌≤ℤ◌, Bool, true, false, cond, List, [], ◌∷◌, map, All}
use Rattle.std.proofs.Common.{refl, inl, inr, sym, subst, arith}
use Rattle.std.proofs.lemmas.List.Elements.{All-cons, All-head, All-tail}
use Rattle.ff_time.specs.Fraction.{IsBase}
use Rattle.ff_frame.specs.declared.head.StreamHead.{StreamHead}
use Rattle.ff_frame.specs.Heads.{base_of_head}
use Rattle.ff_stream.specs.declared.item.Item.{Item}
use Rattle.ff_stream.specs.declared.item.Lane.TheVariants.{Frames}
use Rattle.ff_stream.specs.Times.{start_of, end_ticks}
use Rattle.ff_stream.specs.Lanes.{IsItemFor, InOrder}
use Rattle.ff_stream.specs.Within.{some_pass, before_pass, passes_limits}
use Rattle.ff_concat.specs.Tails.{last_end}
use Rattle.ff_concat.specs.Concats.{later}
use Rattle.ff_concat.proofs.Later.{timed_so, frame_of, up_from, ends_early, later_so, fits_later, item_later, follows_later}
use Rattle.ff_concat.proofs.OneKinds.{last_or}
use Rattle.ff_concat.proofs.Shapes.{IsFine, none_fine, one_fine}

never_both : (b : Bool) → b ≡ true → b ≡ false → ⊥
never_both true e f = cc
never_both false e f = cc

-- items, all later by as much
abbrev pub shifted : ℕ → List Item → List Item
shifted e xs = map (later e) xs

module _ (h : StreamHead) (base : IsBase (base_of_head h)) where
  abbrev passes : ℕ → Item → Bool
  passes = passes_limits (Frames h)

  one_later : (e g : ℕ) (x : Item) → IsItemFor (Frames h) x → passes g (later e x) ≡ false → IsFine h e (later e x ∷ [])
  one_later e g x i p =
      let l = later_so h base g e x i p in
      one_fine h e (later e x) (item_later h base e x (later e x) i (fits_later h base e x i.fits) l)
      (subst (λ (z : ℤ). pos e ≤ℤ z) (sym l.start) (up_from (start_of x) e i.not_negative))

  -- items in shape, all later by as much, are in shape up to a limit
  pub later_fine : (e g : ℕ) (xs : List Item) → All (IsItemFor (Frames h)) xs → InOrder (Frames h) xs → IsFine h e (before_pass passes g (shifted e xs))
  later_fine e g [] a o = none_fine h e
  later_fine e g (x ∷ []) a o = at (passes g (later e x)) refl
    where
      at : (b : Bool) → passes g (later e x) ≡ b → IsFine h e (cond b [] (later e x ∷ []))
      at true p = none_fine h e
      at false p = one_later e g x (All-head (IsItemFor (Frames h)) x [] a) p
  later_fine e g (x ∷ y ∷ ys) a o = at (passes g (later e x)) (passes (g + 1) (later e y)) refl refl (later_fine e (g + 1) (y ∷ ys) others o.1)
    where
      here : IsItemFor (Frames h) x
      here = All-head (IsItemFor (Frames h)) x (y ∷ ys) a

      others : All (IsItemFor (Frames h)) (y ∷ ys)
      others = All-tail (IsItemFor (Frames h)) x (y ∷ ys) a

      next : IsItemFor (Frames h) y
      next = All-head (IsItemFor (Frames h)) y ys others

      at : (b c : Bool) → passes g (later e x) ≡ b → passes (g + 1) (later e y) ≡ c → IsFine h e (cond c [] (later e y ∷ before_pass passes (g + 1 + 1) (shifted e ys)))
          → IsFine h e (cond b [] (later e x ∷ cond c [] (later e y ∷ before_pass passes (g + 1 + 1) (shifted e ys))))
      at true c p q f = none_fine h e
      at false true p q f = one_later e g x here p
      at false false p q f =
          let one = one_later e g x here p in
          let item = All-head (IsItemFor (Frames h)) (later e x) [] one.each in
          record {
            each = All-cons (IsItemFor (Frames h)) (later e x) (later e y ∷ before_pass passes (g + 1 + 1) (shifted e ys)) item f.each;
            order = (
              follows_later h base e x y (later e x) (later e y) (timed_so y (frame_of h y next.fits)) (timed_so (later e x) (frame_of h (later e x) item.fits))
                  (later_so h base g e x here p) (later_so h base (g + 1) e y next q) o.0,
              f.order,
            );
            from = one.from;
          }

  -- what passes no limit ends early
  pub last_early : (e g : ℕ) (ys : List Item) → e ≤ 9223372036854775807 → some_pass passes g ys ≡ false → last_end e ys ≤ 9223372036854775807
  last_early e g [] le none = le
  last_early e g (y ∷ ys) le none =
      at (passes g y) refl none (λ p n. let early = ends_early h base g y p in last_early (end_ticks y) (g + 1) ys (omega (arith, early)) n)
    where
      at : (b : Bool) → passes g y ≡ b → cond b true (some_pass passes (g + 1) ys) ≡ false
          → (passes g y ≡ false → some_pass passes (g + 1) ys ≡ false → last_end (end_ticks y) ys ≤ 9223372036854775807)
          → last_end (end_ticks y) ys ≤ 9223372036854775807
      at true p n more = cc
      at false p n more = more p n

  -- the last one ends so much later
  pub last_later : (e g : ℕ) (xs : List Item) → All (IsItemFor (Frames h)) xs → some_pass passes g (shifted e xs) ≡ false → last_end e (shifted e xs) ≡ e + last_end 0 xs
  last_later e g xs a none = elim (last_or h base e g xs a) as (λ _. last_end e (shifted e xs) ≡ e + last_end 0 xs) [
    | inl same ↦ same
    | inr past ↦ absurd (never_both (some_pass passes g (shifted e xs)) past none)
  ]
