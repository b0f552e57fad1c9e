-- The laws of a machine that gives on each output what it gets of each item.
use Rattle.std.specs.Prelude.{◌≡◌, ℕ, ◌<◌, ◌⊎◌, ◌↔◌, nat_lt, Bool, true, false, ◌||◌, ◌&&◌, cond, List, length, refl}
use Rattle.std.proofs.Common.{inl, inr, ap, sym, ◌∙◌, subst, arith}
use Rattle.std.proofs.lemmas.Bool.Decides.{nat_tests}
use Rattle.ff_stream.specs.declared.item.Item.{Item}
use Rattle.ff_stream.specs.declared.item.Lane.{Lane}
use Rattle.ff_stream.specs.Stream.{LiesBelow, opened, map_stream}
use Rattle.ff_stream.specs.Ports.{nothing, IsClosed}
use Rattle.ff_stream.specs.laws.Order.{below_self}
use Rattle.ff_stream.specs.laws.BreakLaws.{map_stream_monotone}
use Rattle.ff_filter.specs.declared.after.After.{After}
use Rattle.ff_filter.specs.declared.outlet.Outlet.{Outlet}
use Rattle.ff_filter.specs.Joins.{Flow, Ports, Grows, HidesBreaks}
use Rattle.ff_filter.specs.Views.{IsSpent, IsOver, AllDone, Settles}
use Rattle.ff_filter.specs.Made.{left, is_over}
use Rattle.ff_filter.specs.laws.StepperLaws.{left_keeps, left_calm, left_closed, over_left, or_left, or_right, or_one}
use Rattle.ff_filter.specs.laws.spread.Lines.{Line, lines, is_done, all_done}
use Rattle.ff_filter.specs.laws.spread.LineLaws.{lines_open, done_at, all_of, all_or_one}
use Rattle.ff_filter.specs.spread.Spreads.{on_output, spread_view, spread_spent}

keeps_if : (b : Bool) (r s : Flow) → LiesBelow r s → LiesBelow (cond b r nothing) (cond b s nothing)
keeps_if true r s h = h
keeps_if false r s h = below_self nothing

calm_if : (b : Bool) (r s : Flow) → LiesBelow (opened r) s → LiesBelow (opened (cond b r nothing)) (cond b s nothing)
calm_if true r s h = h
calm_if false r s h = below_self nothing

nothing_if : (b : Bool) (s : Flow) → s ≡ nothing → cond b s nothing ≡ nothing
nothing_if true s e = e
nothing_if false s e = refl

pub there : (q n : ℕ) → q < n → nat_lt q n ≡ true
there q n lt = grind (arith, nat_tests)

pub below_by : (q n : ℕ) → nat_lt q n ≡ true → q < n
below_by q n e = grind (arith, nat_tests)

-- on an output that is there it is the stream
pub on_there : (n q : ℕ) (s : Flow) → q < n → on_output n q s ≡ s
on_there n q s lt = ap (λ (b : Bool). cond b s nothing) (there q n lt)

ended_quiet : (queue : List Item) (ended : Bool) (after : After) (t : Flow) → ended ≡ true → left queue ended after t ≡ nothing
ended_quiet queue true after t e = refl
ended_quiet queue false after t e = cc

both : (a b : Bool) → (a && b) ≡ true → (a ≡ true) × (b ≡ true)
both true b e = (refl, e)
both false b e = cc

and_both : (a b : Bool) → a ≡ true → b ≡ true → (a && b) ≡ true
and_both true b e f = f
and_both false b e f = cc

none_holds : (a b : Bool) → (a || b) ≡ false → (a ≡ false) × (b ≡ false)
none_holds true b e = cc
none_holds false b e = (refl, e)

module _ (lane_in : Lane) (lanes_out : List Lane) (shared : ℕ → Item → Item) (ls : ℕ → Line) (after : After) where
  pub spread-grows : Grows (spread_view lane_in lanes_out shared ls after).rest
  spread-grows rs ss h q = keeps_if (nat_lt q (length lanes_out)) (left (ls q).queue (ls q).ended after (map_stream (shared q) (rs 0)))
      (left (ls q).queue (ls q).ended after (map_stream (shared q) (ss 0)))
      (left_keeps (ls q).queue (ls q).ended after (map_stream (shared q) (rs 0)) (map_stream (shared q) (ss 0)) (map_stream_monotone (shared q) (rs 0) (ss 0) (h 0)))

  pub spread-hides : HidesBreaks (spread_view lane_in lanes_out shared ls after).rest
  spread-hides rs q = calm_if (nat_lt q (length lanes_out)) (left (ls q).queue (ls q).ended after (map_stream (shared q) (rs 0)))
      (left (ls q).queue (ls q).ended after (map_stream (shared q) (opened (rs 0))))
      (left_calm (ls q).queue (ls q).ended after (map_stream (shared q) (rs 0)) (map_stream (shared q) (opened (rs 0)))
      (below_self (map_stream (shared q) (opened (rs 0)))))

  pub spread-settles : Settles (spread_view lane_in lanes_out shared ls after)
  spread-settles ext h q lt on = subst (λ (t : Flow). ((ls q).ended ≡ true) ⊎ IsClosed t)
      (sym (on_there (length lanes_out) q (left (ls q).queue (ls q).ended after (map_stream (shared q) (ext 0))) lt))
      (left_closed (ls q).queue (ls q).ended after (map_stream (shared q) (ext 0)) (h 0 (omega arith)))

  pub spread-quiet : (q : ℕ) → (ls q).ended ≡ true → (ext : Ports) → (spread_view lane_in lanes_out shared ls after).rest ext q ≡ nothing
  spread-quiet q e ext = nothing_if (nat_lt q (length lanes_out)) (left (ls q).queue (ls q).ended after (map_stream (shared q) (ext 0)))
      (ended_quiet (ls q).queue (ls q).ended after (map_stream (shared q) (ext 0)) e)

module _ (lane_in : Lane) (lanes_out : List Lane) (shared : ℕ → Item → Item) (os : List Outlet) (after : After) (count : length lanes_out ≡ length os) where
  some_there : (nat_lt 0 (length os)) ≡ true → 0 < length lanes_out
  some_there e = let lt = below_by 0 (length os) e in omega (arith, lt, count)

  there_too : (q : ℕ) → q < length lanes_out → q < length os
  there_too q lt = omega (arith, lt, count)

  over_at : (q : ℕ) → is_done (lines os q) ≡ true → (lines os q).stopped ≡ false → IsOver (spread_view lane_in lanes_out shared (lines os) after) q
  over_at q d on = elim (or_one (lines os q).stopped (lines os q).ended d) as (λ _. IsOver (spread_view lane_in lanes_out shared (lines os) after) q) [
    | inl s ↦ (let clash : true ≡ false = sym s ∙ on in cc)
    | inr e ↦ inl e
  ]

  pub spread-spent_only : (p : ℕ) → spread_spent after os ≡ true → IsSpent (spread_view lane_in lanes_out shared (lines os) after) p
  spread-spent_only p e = elim (or_one (is_over after) (nat_lt 0 (length os) && all_done os) e)
      as (λ _. IsSpent (spread_view lane_in lanes_out shared (lines os) after) p) [
        | inl s ↦ inl s
        | inr d ↦ (let k = both (nat_lt 0 (length os)) (all_done os) d in inr (some_there k.0, λ q lt on. over_at q (done_at os q (there_too q lt) k.1) on))
      ]

  pub spread-shut_spent : is_over after ≡ true → spread_spent after os ≡ true
  spread-shut_spent e = or_left (is_over after) (nat_lt 0 (length os) && all_done os) e

  spent_by : 0 < length lanes_out → all_done os ≡ true → spread_spent after os ≡ true
  spent_by z d =
      let lt : 0 < length os = omega (arith, z, count) in
      or_right (is_over after) (nat_lt 0 (length os) && all_done os) (and_both (nat_lt 0 (length os)) (all_done os) (there 0 (length os) lt) d)

  pub spread-done_spent : 0 < length lanes_out → AllDone (spread_view lane_in lanes_out shared (lines os) after) → spread_spent after os ≡ true
  spread-done_spent z d = spent_by z (all_of os (λ q lt. elim (d q (omega (arith, lt, count))) as (λ _. is_done (lines os q) ≡ true) [
    | inl e ↦ or_right (lines os q).stopped (lines os q).ended e
    | inr s ↦ or_left (lines os q).stopped (lines os q).ended s
  ]))

  -- it says so exactly where the input has closed, or each output that is wanted is over
  pub spread-exact : (p : ℕ) → (spread_spent after os ≡ true) ↔ IsSpent (spread_view lane_in lanes_out shared (lines os) after) p
  spread-exact p = (spread-spent_only p, back)
    where
      one_open : (q : ℕ) → q < length os → (lines os q).stopped ≡ false → (lines os q).ended ≡ false → IsOver (spread_view lane_in lanes_out shared (lines os) after) q
          → is_over after ≡ true
      one_open q lt s e (inl d) = let clash : true ≡ false = sym d ∙ e in cc
      one_open q lt s e (inr c) = over_left (lines os q).queue (lines os q).ended after (lines_open os q)
          (subst (λ (t : Flow). IsClosed t) (on_there (length lanes_out) q (left (lines os q).queue (lines os q).ended after nothing) (omega (arith, lt, count))) c)

      back : IsSpent (spread_view lane_in lanes_out shared (lines os) after) p → spread_spent after os ≡ true
      back (inl e) = spread-shut_spent e
      back (inr h) = elim (all_or_one os) as (λ _. spread_spent after os ≡ true) [
        | inl d ↦ spent_by h.0 d
        | inr s ↦ (
            let n = none_holds (lines os s.0).stopped (lines os s.0).ended s.2 in
            spread-shut_spent (one_open s.0 s.1 n.0 n.1 (h.1 s.0 (let lt = s.1 in omega (arith, lt, count)) n.0))
            )
      ]
