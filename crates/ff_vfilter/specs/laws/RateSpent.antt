-- When the machine of an even rate calls its input spent: exactly where nothing more of it can matter.
use Rattle.std.specs.Prelude.{◌≡◌, ◌≢◌, ℕ, ◌⊎◌, Bool, true, false, ◌||◌, cond, refl}
use Rattle.std.proofs.Common.{inl, inr, sym, ◌∙◌, arith}
use Rattle.std.proofs.lemmas.Bool.{or_cases, or_left, or_right}
use Rattle.ff_stream.specs.declared.item.Lane.TheVariants.{Frames}
use Rattle.ff_stream.specs.Ports.{nothing, IsClosed}
use Rattle.ff_stream.specs.Stream.{Mark, still_open, whole, broken, has_closed}
use Rattle.ff_stream.specs.Within.{passes_limits}
use Rattle.ff_filter.specs.Joins.{Flow}
use Rattle.ff_filter.specs.laws.Limits.{limited}
use Rattle.ff_filter.specs.Made.{waiting, is_over}
use Rattle.ff_filter.specs.Views.{IsSpent, IsOver, AllDone}
use Rattle.ff_vfilter.specs.declared.rate.Rate.{Rate}
use Rattle.ff_vfilter.specs.laws.RateSeen.{seen, fed_mark, rate_spent}
use Rattle.ff_vfilter.specs.laws.RateViews.{still_shown}

closed_is : (m : Mark) → has_closed m ≡ true → m ≢ still_open
closed_is still_open e o = cc
closed_is whole e o = cc
closed_is broken e o = cc

is_closed : (m : Mark) → m ≢ still_open → has_closed m ≡ true
is_closed still_open c = absurd (c refl)
is_closed whole c = refl
is_closed broken c = refl

over_of : (b : Bool) (t : Flow) → (b || has_closed t.mark) ≡ true → (b ≡ true) ⊎ IsClosed (cond b nothing t)
over_of true t e = inl refl
over_of false t e = inr (closed_is t.mark e)

over_is : (b : Bool) (t : Flow) → (b ≡ true) ⊎ IsClosed (cond b nothing t) → (b || has_closed t.mark) ≡ true
over_is true t h = refl
over_is false t (inl e) = cc
over_is false t (inr c) = is_closed t.mark c

module _ (m : Rate) where
  abbrev left_now : Flow
  left_now = limited (passes_limits (Frames m.given)) m.showing.before (still_shown m.showing (waiting m.input.queue.items m.input.after nothing))

  abbrev shut : Bool
  shut = is_over m.input.after

  abbrev done : Bool
  done = m.stopped || (m.ended || has_closed (fed_mark m))

  pub rate-spent_only : (p : ℕ) → rate_spent m ≡ true → IsSpent (seen m) p
  rate-spent_only p e = elim (or_cases shut done e) as (λ _. IsSpent (seen m) p) [
    | inl s ↦ inl s
    | inr o ↦ inr (
      omega arith,
      λ q lt on. elim (or_cases m.stopped (m.ended || has_closed (fed_mark m)) o) as (λ _. IsOver (seen m) q) [
        | inl t ↦ (let clash : true ≡ false = sym t ∙ on in cc)
        | inr d ↦ over_of m.ended left_now d
      ],
    )
  ]

  pub rate-spent_if : (p : ℕ) → IsSpent (seen m) p → rate_spent m ≡ true
  rate-spent_if p (inl s) = or_left shut done s
  rate-spent_if p (inr o) = at m.stopped refl
    where
      at : (b : Bool) → m.stopped ≡ b → rate_spent m ≡ true
      at true e = or_right shut done (or_left m.stopped _ e)
      at false e = or_right shut done (or_right m.stopped _ (over_is m.ended left_now (o.1 0 (omega arith) e)))

  pub rate-shut_spent : is_over m.input.after ≡ true → rate_spent m ≡ true
  rate-shut_spent e = or_left shut done e

  pub rate-done_spent : AllDone (seen m) → rate_spent m ≡ true
  rate-done_spent d = or_right shut done (elim (d 0 (omega arith)) as (λ _. done ≡ true) [
    | inl e ↦ or_right m.stopped _ (or_left m.ended _ e)
    | inr e ↦ or_left m.stopped _ e
  ])
