-- A filter of one output, with the limits of every stream behind it.
use Rattle.std.specs.Prelude.{◌≡◌, ℕ, ◌⊎◌, ◌*◌, ◌+◌, ◌^◌, ◌||◌, nat_lt, Bool, true}
use Rattle.std.proofs.Common.{inl, inr, ap}
use Rattle.ff_frame.specs.declared.head.StreamHead.{StreamHead}
use Rattle.ff_frame.specs.Heads.{base_of_head}
use Rattle.ff_stream.specs.declared.item.Lane.{Lane}
use Rattle.ff_stream.specs.Stream.{opened}
use Rattle.ff_stream.specs.Ports.{nothing, IsClosed}
use Rattle.ff_stream.specs.laws.Order.{below_trans}
use Rattle.ff_stream.specs.Within.{passes_limits}
use Rattle.ff_filter.specs.Joins.{Flow, Ports, all_opened, Grows, HidesBreaks}
use Rattle.ff_filter.specs.laws.Limits.{limited, limit_step}
use Rattle.ff_filter.specs.laws.Runs.{no_more, run_below, run_calm, run_settles}
use Rattle.ff_filter.specs.Views.{View, Settles, IsSpent}

-- what it still gives, within the limits of its output, of which so many items were given
abbrev pub limits_view : Lane → ℕ → View → View
limits_view lane before v = record v { rest = λ ext q. limited (passes_limits lane) before (v.rest ext q) }

-- an item that ends at so many ticks passes a limit, where so many came before it
abbrev pub long_at : StreamHead → ℕ → ℕ → Bool
long_at head before end = nat_lt (2 ^ 40) (before + 1) || nat_lt (1000000000 * (base_of_head head).den) (end * (base_of_head head).num)

module _ (lane : Lane) (before : ℕ) (v : View) where
  pub limits-grows : Grows v.rest → Grows (limits_view lane before v).rest
  limits-grows g rs ss h q = run_below (limit_step (passes_limits lane)) no_more before (v.rest rs q) (v.rest ss q) (g rs ss h q)

  pub limits-hides : HidesBreaks v.rest → HidesBreaks (limits_view lane before v).rest
  limits-hides c rs q =
      below_trans (opened (limited (passes_limits lane) before (v.rest rs q)))
      (limited (passes_limits lane) before (opened (v.rest rs q)))
      (limited (passes_limits lane) before (v.rest (all_opened rs) q))
      (run_calm (limit_step (passes_limits lane)) no_more before (v.rest rs q))
      (run_below (limit_step (passes_limits lane)) no_more before (opened (v.rest rs q)) (v.rest (all_opened rs) q) (c rs q))

  pub limits-closes : (s : Flow) → IsClosed s → IsClosed (limited (passes_limits lane) before s)
  limits-closes s c = run_settles (limit_step (passes_limits lane)) no_more before s c

  over_or : (q : ℕ) (s : Flow) → (v.ended q ≡ true) ⊎ IsClosed s → (v.ended q ≡ true) ⊎ IsClosed (limited (passes_limits lane) before s)
  over_or q s (inl e) = inl e
  over_or q s (inr c) = inr (limits-closes s c)

  pub limits-settles : Settles v → Settles (limits_view lane before v)
  limits-settles s ext h q lt on = over_or q (v.rest ext q) (s ext h q lt on)

  pub limits-quiet : (q : ℕ) (ext : Ports) → v.rest ext q ≡ nothing → (limits_view lane before v).rest ext q ≡ nothing
  limits-quiet q ext e = ap (λ (s : Flow). limited (passes_limits lane) before s) e

  spent_or : (p : ℕ) → IsSpent v p → IsSpent (limits_view lane before v) p
  spent_or p (inl s) = inl s
  spent_or p (inr o) = inr (o.0, λ q lt on. over_or q _ (o.1 q lt on))

  -- what is spent without the limits is spent
  pub limits-spent : (p : ℕ) → IsSpent v p → IsSpent (limits_view lane before v) p
  limits-spent p h = spent_or p h
