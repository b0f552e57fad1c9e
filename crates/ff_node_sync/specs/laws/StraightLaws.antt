-- The laws of the machine that gives streams as they are.
use Rattle.std.specs.Prelude.{◌≡◌, ◌≢◌, ℕ, zero, suc, ◌<◌, ◌⊎◌, Bool, true, false, ◌||◌, cond, List, ◌++◌, length, refl}
use Rattle.std.proofs.Common.{inl, inr, ap, sym, ◌∙◌, subst, arith}
use Rattle.std.proofs.lemmas.Bool.{cases_Bool, cases_eq, and_from, and_parts, or_cases, or_left, or_right}
use Rattle.ff_stream.specs.declared.item.Item.{Item}
use Rattle.ff_stream.specs.declared.item.Lane.{Lane}
use Rattle.ff_stream.specs.Stream.{still_open, LiesBelow, opened}
use Rattle.ff_stream.specs.Ports.{nothing, IsClosed}
use Rattle.ff_filter.specs.declared.after.After.{After}
use Rattle.ff_filter.specs.declared.after.After.TheVariants.{More, Whole, Broke}
use Rattle.ff_filter.specs.Joins.{Flow, Ports, Grows, HidesBreaks}
use Rattle.ff_filter.specs.Made.{behind, is_over, mark_after}
use Rattle.ff_filter.specs.Views.{Settles, IsSpent, AllDone}
use Rattle.ff_node_sync.specs.declared.side.Side.{Side}
use Rattle.ff_node_sync.specs.Lines.{Line, line_at, lines_of, lanes_of, came}
use Rattle.ff_node_sync.specs.laws.ShortLaws.{SofterFlow, behind_below, waits_below, ended_below, soft_below, mark_softer}
use Rattle.ff_node_sync.specs.laws.ShortLaws.{items_opened, ended_softer, behind_over, silent_mark, lanes_long}
use Rattle.ff_node_sync.specs.laws.Straights.{still_came, straight_view, straight_of, is_through, through_to, straight_spent}

still_below : (l : Line) (s t : Flow) → LiesBelow s t → LiesBelow (still_came l s) (still_came l t)
still_below l s t h = ended_below l.ended (came l s) (came l t) (waits_below l.waits (behind l.after s) (behind l.after t) (behind_below l.after s t h))

softer : (l : Line) (s : Flow) → SofterFlow (came l s) (came l (opened s))
softer l s = (ap (λ (xs : List Item). l.waits ++ xs) (sym (items_opened l.after s)), mark_softer l.after s)

still_calm : (l : Line) (s : Flow) → LiesBelow (opened (still_came l s)) (still_came l (opened s))
still_calm l s = ended_softer l.ended (came l s) (came l (opened s)) (soft_below (came l s) (came l (opened s)) (softer l s))

over_closes : (a : After) → is_over a ≡ true → mark_after a ≢ still_open
over_closes More e = cc
over_closes Whole e = λ o. cc
over_closes Broke e = λ o. cc

closes_over : (a : After) → mark_after a ≢ still_open → is_over a ≡ true
closes_over More n = absurd (n refl)
closes_over Whole n = refl
closes_over Broke n = refl

through_at : (ls : List Line) (n p : ℕ) → through_to ls n ≡ true → p < n → is_through ls p ≡ true
through_at ls zero p d lt = absurd (omega (arith, lt))
through_at ls (suc n) p d lt = let b = and_parts (through_to ls n) (is_through ls n) d in
    elim (cases_eq p n) as (λ _. is_through ls p ≡ true) [
      | inl same ↦ subst (λ q. is_through ls q ≡ true) (sym same) b.1
      | inr ne ↦ through_at ls n p b.0 (omega (arith, lt, ne))
    ]

through_from : (ls : List Line) (n : ℕ) → ((p : ℕ) → p < n → is_through ls p ≡ true) → through_to ls n ≡ true
through_from ls zero h = refl
through_from ls (suc n) h = and_from (through_to ls n) (is_through ls n) (through_from ls n (λ p lt. h p (omega (arith, lt)))) (h n (omega arith))

module _ (lanes : List Lane) (ls : List Line) where
  pub straight-grows : Grows (straight_view lanes ls).rest
  straight-grows rs ss h q = still_below (line_at ls q) (rs q) (ss q) (h q)

  pub straight-hides : HidesBreaks (straight_view lanes ls).rest
  straight-hides rs q = still_calm (line_at ls q) (rs q)

  pub straight-quiet : (q : ℕ) → (line_at ls q).ended ≡ true → (ext : Ports) → still_came (line_at ls q) (ext q) ≡ nothing
  straight-quiet q e ext = rw e refl

  settles_if : length lanes ≡ length ls → Settles (straight_view lanes ls)
  settles_if l ext h q lt on = at (line_at ls q).ended
    where
      at : (b : Bool) → (b ≡ true) ⊎ IsClosed (cond b nothing (came (line_at ls q) (ext q)))
      at true = inl refl
      at false = inr (behind_over (line_at ls q).after (ext q) (h q lt))

  -- an output is over just where it was closed or is closed by what came
  over_of : (b : Bool) (q : ℕ) → (b || is_over (line_at ls q).after) ≡ true → (b ≡ true) ⊎ IsClosed (cond b nothing (came (line_at ls q) nothing))
  over_of true q e = inl refl
  over_of false q e = inr (λ o. over_closes (line_at ls q).after e (sym (silent_mark (line_at ls q).after) ∙ o))

  over_is : (b : Bool) (q : ℕ) → (b ≡ true) ⊎ IsClosed (cond b nothing (came (line_at ls q) nothing)) → (b || is_over (line_at ls q).after) ≡ true
  over_is true q h = refl
  over_is false q (inl e) = cc
  over_is false q (inr c) = closes_over (line_at ls q).after (λ o. c (silent_mark (line_at ls q).after ∙ o))

  spent_if : length lanes ≡ length ls → (p : ℕ) → p < length lanes → straight_spent ls p ≡ true → IsSpent (straight_view lanes ls) p
  spent_if l p lt e = elim (or_cases (is_over (line_at ls p).after) (through_to ls (length ls)) e) as (λ _. IsSpent (straight_view lanes ls) p) [
    | inl s ↦ inl s
    | inr d ↦ inr (
      omega (arith, lt),
      λ q less on.
          let done : ((line_at ls q).ended || is_over (line_at ls q).after) ≡ true = ap (λ b. b || ((line_at ls q).ended || is_over (line_at ls q).after)) (sym on)
          ∙ through_at ls (length ls) q d (omega (arith, less, l)) in
          over_of (line_at ls q).ended q done,
    )
  ]

  spent_from : length lanes ≡ length ls → (p : ℕ) → IsSpent (straight_view lanes ls) p → straight_spent ls p ≡ true
  spent_from l p (inl s) = or_left (is_over (line_at ls p).after) (through_to ls (length ls)) s
  spent_from l p (inr h) = or_right (is_over (line_at ls p).after) (through_to ls (length ls)) (through_from ls (length ls) (λ q less.
      elim (cases_Bool (line_at ls q).stopped) as (λ _. is_through ls q ≡ true) [
        | inl t ↦ or_left (line_at ls q).stopped ((line_at ls q).ended || is_over (line_at ls q).after) t
        | inr f ↦ or_right (line_at ls q).stopped ((line_at ls q).ended || is_over (line_at ls q).after)
            (over_is (line_at ls q).ended q (h.1 q (omega (arith, less, l)) f))
      ]))

  pub straight-shut_spent : (p : ℕ) → is_over (line_at ls p).after ≡ true → straight_spent ls p ≡ true
  straight-shut_spent p e = or_left (is_over (line_at ls p).after) (through_to ls (length ls)) e

  done_spent_if : length lanes ≡ length ls → (p : ℕ) → AllDone (straight_view lanes ls) → straight_spent ls p ≡ true
  done_spent_if l p d = or_right (is_over (line_at ls p).after) (through_to ls (length ls)) (through_from ls (length ls) (λ q less.
      elim (d q (omega (arith, less, l))) as (λ _. is_through ls q ≡ true) [
        | inl e ↦ or_right (line_at ls q).stopped ((line_at ls q).ended || is_over (line_at ls q).after) (or_left (line_at ls q).ended (is_over (line_at ls q).after) e)
        | inr s ↦ or_left (line_at ls q).stopped ((line_at ls q).ended || is_over (line_at ls q).after) s
      ]))

pub straight-settles : (ss : List Side) → Settles (straight_of ss)
straight-settles ss = settles_if (lanes_of ss) (lines_of ss) (lanes_long ss)

pub straight-spent_only : (ss : List Side) (p : ℕ) → p < length (lanes_of ss) → straight_spent (lines_of ss) p ≡ true → IsSpent (straight_of ss) p
straight-spent_only ss p lt e = spent_if (lanes_of ss) (lines_of ss) (lanes_long ss) p lt e

pub straight-spent_from : (ss : List Side) (p : ℕ) → IsSpent (straight_of ss) p → straight_spent (lines_of ss) p ≡ true
straight-spent_from ss p s = spent_from (lanes_of ss) (lines_of ss) (lanes_long ss) p s

pub straight-done_spent : (ss : List Side) (p : ℕ) → AllDone (straight_of ss) → straight_spent (lines_of ss) p ≡ true
straight-done_spent ss p d = done_spent_if (lanes_of ss) (lines_of ss) (lanes_long ss) p d
