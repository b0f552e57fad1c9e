-- The laws of the machine of streams side by side.
use Rattle.std.specs.Prelude.{◌≡◌, ◌≢◌, ℕ, ◌⊎◌, [], Bool, true, false, ◌||◌, map, refl}
use Rattle.std.proofs.Common.{inl, inr, sym, ◌∙◌, arith}
use Rattle.std.proofs.lemmas.Bool.{or_cases, or_left, or_right}
use Rattle.std.proofs.lemmas.List.{length-map}
use Rattle.ff_stream.specs.Ports.{nothing, IsClosed}
use Rattle.ff_filter.specs.laws.StepperLaws.{left_closed}
use Rattle.ff_stream.specs.Stream.{Mark, still_open, whole, broken, has_closed}
use Rattle.ff_filter.specs.Joins.{Flow, Ports, silence, Grows, HidesBreaks}
use Rattle.ff_filter.specs.declared.after.After.{After}
use Rattle.ff_filter.specs.declared.after.After.TheVariants.{More, Whole, Broke}
use Rattle.ff_filter.specs.Made.{is_over, left}
use Rattle.ff_filter.specs.Views.{Settles, IsSpent, IsOver, AllDone}
use Rattle.ff_joins.specs.declared.join.Join.{Join}
use Rattle.ff_joins.specs.laws.Lots.{lots, lane_of, last_port, still_joined}
use Rattle.ff_joins.specs.laws.LotLaws.{lots-grows, lots-hides, lots-settles, lots-quiet}
use Rattle.ff_joins.specs.laws.JoinSeen.{join_seen, join_spent, is_decided, fed_mark}

closed_is : (m : Mark) → has_closed m ≡ true → m ≢ still_open
closed_is still_open e o = cc
closed_is whole e o = cc
closed_is broken e o = cc

module _ (m : Join) where
  pub join-grows : Grows (join_seen m).rest
  join-grows = let s = m.started in lots-grows (map lane_of m.inlets.items) m.head (last_port m.inlets.items) m.first m.given
      (lots m.inlets.items) m.ended m.stopped m.after s

  pub join-hides : HidesBreaks (join_seen m).rest
  join-hides = let s = m.started in lots-hides (map lane_of m.inlets.items) m.head (last_port m.inlets.items) m.first m.given
      (lots m.inlets.items) m.ended m.stopped m.after s

  pub join-settles : Settles (join_seen m)
  join-settles = let s = m.started in lots-settles (map lane_of m.inlets.items) m.head (last_port m.inlets.items) m.first m.given
      (lots m.inlets.items) m.ended m.stopped m.after s
      (let l = length-map m.inlets.items lane_of in let t = m.there in omega (arith, l, t))

  pub join-quiet : m.ended ≡ true → (ext : Ports) → (join_seen m).rest ext 0 ≡ nothing
  join-quiet e ext = let s = m.started in lots-quiet (map lane_of m.inlets.items) m.head (last_port m.inlets.items) m.first m.given
      (lots m.inlets.items) m.ended m.stopped m.after s e ext

is_closed : (m : Mark) → m ≢ still_open → has_closed m ≡ true
is_closed still_open c = absurd (c refl)
is_closed whole c = refl
is_closed broken c = refl

module _ (m : Join) (p : ℕ) where
  abbrev shut_here : Bool
  shut_here = is_over (lots m.inlets.items p).after

  abbrev done : Bool
  done = m.stopped || (m.ended || is_decided m)

  decided_over : is_decided m ≡ true → (m.ended ≡ true) ⊎ IsClosed ((join_seen m).rest silence 0)
  decided_over e = left_closed [] m.ended m.after
      (still_joined m.head (last_port m.inlets.items) m.first m.given (lots m.inlets.items) silence)
      (elim (or_cases (is_over m.after) (has_closed (fed_mark m)) e) as
      (λ _. (is_over m.after ≡ true) ⊎ IsClosed (still_joined m.head (last_port m.inlets.items) m.first m.given (lots m.inlets.items) silence)) [
        | inl o ↦ inl o
        | inr c ↦ inr (closed_is (fed_mark m) c)
      ])

  pub join-spent_only : join_spent m p ≡ true → IsSpent (join_seen m) p
  join-spent_only e = elim (or_cases shut_here done e) as (λ _. IsSpent (join_seen m) p) [
    | inl s ↦ inl s
    | inr s ↦ inr (
      omega arith,
      λ q lt on. elim (or_cases m.stopped (m.ended || is_decided m) s) as (λ _. IsOver (join_seen m) q) [
        | inl t ↦ (let clash : true ≡ false = sym t ∙ on in cc)
        | inr o ↦ elim (or_cases m.ended (is_decided m) o) as (λ _. IsOver (join_seen m) q) [
          | inl d ↦ inl d
          | inr c ↦ decided_over c
        ]
      ],
    )
  ]

  over_decided : (b : Bool) (a : After) (t : Flow) → IsClosed (left [] b a t) → (b ≡ true) ⊎ ((is_over a || has_closed t.mark) ≡ true)
  over_decided true a t c = inl refl
  over_decided false More t c = inr (is_closed t.mark c)
  over_decided false Whole t c = inr refl
  over_decided false Broke t c = inr refl

  over_spent : IsOver (join_seen m) 0 → done ≡ true
  over_spent (inl e) = or_right m.stopped _ (or_left m.ended _ e)
  over_spent (inr c) = elim (over_decided m.ended m.after
      (still_joined m.head (last_port m.inlets.items) m.first m.given (lots m.inlets.items) silence) c) as (λ _. done ≡ true) [
        | inl e ↦ or_right m.stopped _ (or_left m.ended _ e)
        | inr d ↦ or_right m.stopped _ (or_right m.ended (is_decided m) d)
      ]

  -- spent exactly where nothing more can matter
  pub join-spent_if : IsSpent (join_seen m) p → join_spent m p ≡ true
  join-spent_if (inl s) = or_left shut_here done s
  join-spent_if (inr o) = at m.stopped refl
    where
      at : (b : Bool) → m.stopped ≡ b → join_spent m p ≡ true
      at true e = or_right shut_here done (or_left m.stopped _ e)
      at false e = or_right shut_here done (over_spent (o.1 0 (omega arith) e))

  pub join-shut_spent : shut_here ≡ true → join_spent m p ≡ true
  join-shut_spent e = or_left shut_here done e

  pub join-done_spent : AllDone (join_seen m) → join_spent m p ≡ true
  join-done_spent d = or_right shut_here done (elim (d 0 (omega arith)) [
    | inl e ↦ or_right m.stopped _ (or_left m.ended _ e)
    | inr e ↦ or_left m.stopped _ e
  ])
