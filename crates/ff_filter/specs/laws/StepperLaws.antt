-- The laws of a machine that steps.
use Rattle.std.specs.Prelude.{◌≡◌, ℕ, ◌⊎◌, ◌||◌, not, Bool, true, false, List, [], ◌∷◌, refl}
use Rattle.std.proofs.Common.{inl, inr, sym, ◌∙◌, arith}
use Rattle.ff_stream.specs.declared.item.Item.{Item}
use Rattle.ff_stream.specs.declared.item.Item.TheVariants.{Audio, Video, Packet, Trailer, End, Broken}
use Rattle.ff_stream.specs.declared.item.Lane.{Lane}
use Rattle.ff_stream.specs.Stream.{LiesBelow, opened}
use Rattle.ff_stream.specs.Ports.{nothing, IsClosed}
use Rattle.ff_stream.specs.laws.Order.{below_self, nothing_below}
use Rattle.ff_filter.specs.declared.after.After.{After}
use Rattle.ff_filter.specs.declared.after.After.TheVariants.{More, Whole, Broke}
use Rattle.ff_filter.specs.Joins.{Flow, Ports, one, before_all, before_all-keeps, before_all-opened, before_all-closed, Grows, HidesBreaks}
use Rattle.ff_filter.specs.Views.{closes, none_closes, Settles, IsSpent, IsOver, AllDone}
use Rattle.ff_filter.specs.Made.{behind, is_over, left, stepper_view, steps_spent}

behind_keeps : (after : After) (r s : Flow) → LiesBelow r s → LiesBelow (behind after r) (behind after s)
behind_keeps More r s h = h
behind_keeps Whole r s h = below_self (one End)
behind_keeps Broke r s h = below_self (one Broken)

pub left_keeps : (queue : List Item) (ended : Bool) (after : After) (r s : Flow) → LiesBelow r s → LiesBelow (left queue ended after r) (left queue ended after s)
left_keeps queue true after r s h = below_self nothing
left_keeps queue false after r s h = before_all-keeps queue (behind after r) (behind after s) (behind_keeps after r s h)

behind_calm : (after : After) (r s : Flow) → LiesBelow (opened r) s → LiesBelow (opened (behind after r)) (behind after s)
behind_calm More r s h = h
behind_calm Whole r s h = below_self (one End)
behind_calm Broke r s h = nothing_below (one Broken)

pub left_calm : (queue : List Item) (ended : Bool) (after : After) (r s : Flow) → LiesBelow (opened r) s
    → LiesBelow (opened (left queue ended after r)) (left queue ended after s)
left_calm queue true after r s h = below_self nothing
left_calm queue false after r s h = before_all-opened queue (behind after r) (behind after s) (behind_calm after r s h)

pub behind_closed : (after : After) (t : Flow) → (is_over after ≡ true) ⊎ IsClosed t → IsClosed (behind after t)
behind_closed More t (inl e) = cc
behind_closed More t (inr c) = c
behind_closed Whole t h = λ e. cc
behind_closed Broke t h = λ e. cc

-- an output closes where the stream behind it does
pub left_closed : (queue : List Item) (ended : Bool) (after : After) (t : Flow) → (is_over after ≡ true) ⊎ IsClosed t
    → (ended ≡ true) ⊎ IsClosed (left queue ended after t)
left_closed queue true after t h = inl refl
left_closed queue false after t h = inr (before_all-closed queue (behind after t) (behind_closed after t h))

closed_data : (x : Item) (xs : List Item) (t : Flow) → closes x ≡ false → IsClosed (before_all (x ∷ xs) t) → IsClosed (before_all xs t)
closed_data (Audio f) xs t e c = c
closed_data (Video f) xs t e c = c
closed_data (Packet p) xs t e c = c
closed_data (Trailer p) xs t e c = c
closed_data End xs t e c = cc
closed_data Broken xs t e c = cc

first_open : (x : Item) (xs : List Item) → none_closes (x ∷ xs) ≡ true → (closes x ≡ false) × (none_closes xs ≡ true)
first_open (Audio f) xs e = (refl, e)
first_open (Video f) xs e = (refl, e)
first_open (Packet p) xs e = (refl, e)
first_open (Trailer p) xs e = (refl, e)
first_open End xs e = cc
first_open Broken xs e = cc

-- where no item that waits closes anything, the stream is closed by what stands behind them
waiting_closed : (queue : List Item) (t : Flow) → none_closes queue ≡ true → IsClosed (before_all queue t) → IsClosed t
waiting_closed [] t e c = c
waiting_closed (x ∷ xs) t e c = let f = first_open x xs e in waiting_closed xs t f.1 (closed_data x xs t f.0 c)

over_behind : (after : After) → IsClosed (behind after nothing) → is_over after ≡ true
over_behind More c = absurd (c refl)
over_behind Whole c = refl
over_behind Broke c = refl

pub over_left : (queue : List Item) (ended : Bool) (after : After) → none_closes queue ≡ true → IsClosed (left queue ended after nothing) → is_over after ≡ true
over_left queue true after e c = absurd (c refl)
over_left queue false after e c = over_behind after (waiting_closed queue (behind after nothing) e c)

pub or_right : (a b : Bool) → b ≡ true → (a || b) ≡ true
or_right true b e = refl
or_right false b e = e

pub or_left : (a b : Bool) → a ≡ true → (a || b) ≡ true
or_left true b e = refl
or_left false b e = cc

pub or_one : (a b : Bool) → (a || b) ≡ true → (a ≡ true) ⊎ (b ≡ true)
or_one true b e = inl refl
or_one false b e = inr e

-- where the input has closed, the output is over
pub over_by : (shut : Bool) (after : After) → (not shut || is_over after) ≡ true → shut ≡ true → is_over after ≡ true
over_by true after e s = e
over_by false after e s = cc

module _ (lane_in lane_out : Lane) (runs : Flow → Flow) (queue : List Item) (ended stopped : Bool) (after : After) (shut : Bool) where
  pub stepper-grows : ((r s : Flow) → LiesBelow r s → LiesBelow (runs r) (runs s)) → Grows (stepper_view lane_in lane_out runs queue ended stopped after shut).rest
  stepper-grows below rs ss h q = left_keeps queue ended after (runs (rs 0)) (runs (ss 0)) (below (rs 0) (ss 0) (h 0))

  pub stepper-hides : ((r : Flow) → LiesBelow (opened (runs r)) (runs (opened r))) → HidesBreaks (stepper_view lane_in lane_out runs queue ended stopped after shut).rest
  stepper-hides calm rs q = left_calm queue ended after (runs (rs 0)) (runs (opened (rs 0))) (calm (rs 0))

  pub stepper-settles : (not shut || is_over after) ≡ true → ((r : Flow) → IsClosed r → IsClosed (runs r))
      → Settles (stepper_view lane_in lane_out runs queue ended stopped after shut)
  stepper-settles tied settles ext h q lt on = left_closed queue ended after (runs (ext 0))
      (elim (h 0 (omega arith)) as (λ _. (is_over after ≡ true) ⊎ IsClosed (runs (ext 0))) [ inl e ↦ inl (over_by shut after tied e) | inr c ↦ inr (settles (ext 0) c) ])

  pub stepper-spent : (p : ℕ) → steps_spent after ended stopped ≡ true → IsSpent (stepper_view lane_in lane_out runs queue ended stopped after shut) p
  stepper-spent p e = inr (
    omega arith,
    λ q lt on. elim (or_one stopped (ended || is_over after) e) as (λ _. IsOver (stepper_view lane_in lane_out runs queue ended stopped after shut) q) [
      | inl s ↦ (let clash : true ≡ false = sym s ∙ on in cc)
      | inr m ↦ elim (or_one ended (is_over after) m) as (λ _. IsOver (stepper_view lane_in lane_out runs queue ended stopped after shut) q) [
        | inl d ↦ inl d
        | inr o ↦ left_closed queue ended after (runs nothing) (inl o)
      ]
    ],
  )

  pub stepper-done : AllDone (stepper_view lane_in lane_out runs queue ended stopped after shut) → steps_spent after ended stopped ≡ true
  stepper-done d = elim (d 0 (omega arith)) [
    | inl e ↦ or_right stopped (ended || is_over after) (or_left ended (is_over after) e)
    | inr e ↦ or_left stopped (ended || is_over after) e
  ]

pub stepper-shut : (after : After) (ended stopped shut : Bool) → (not shut || is_over after) ≡ true → shut ≡ true → steps_spent after ended stopped ≡ true
stepper-shut after ended stopped shut tied e = or_right stopped (ended || is_over after) (or_right ended (is_over after) (over_by shut after tied e))

pub stepper-quiet : (runs : Flow → Flow) (queue : List Item) (ended : Bool) (after : After) → ended ≡ true → (ext : Ports)
    → left queue ended after (runs (ext 0)) ≡ nothing
stepper-quiet runs queue true after e ext = refl
stepper-quiet runs queue false after e ext = cc
