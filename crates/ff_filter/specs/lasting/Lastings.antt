-- A range of times that lasts from the first item kept on.
use Rattle.std.specs.Prelude.{◌≡◌, ℕ, zero, suc, ◌+◌, ◌<◌, ◌^◌, max, Option, Some, None, List, [], ◌∷◌, codes}
use Rattle.std.proofs.Common.{ap, subst}
use Rattle.std.proofs.Props.{props}
use Rattle.ff_filter.specs.declared.range.Range.{Range}
use Rattle.ff_filter.specs.Options.{Manual, IsTime}
use Rattle.ff_filter.specs.Ranges.{SetsRange}
use Rattle.ff_filter.specs.declared.lasting.settings.TrimSettings.{TrimSettings}

-- start, stop or duration in microseconds
abbrev pub SetsTrim : TrimSettings → ℕ → List ℕ → TrimSettings → Type 0
SetsTrim s zero value t = SetsRange s.range 0 value t.range × (t.lasting ≡ s.lasting)
SetsTrim s (suc zero) value t = SetsRange s.range 1 value t.range × (t.lasting ≡ s.lasting)
SetsTrim s (suc (suc option)) value t = (t.range ≡ s.range) × IsTime value t.lasting

-- the options `start` and `end`, in this order of places, and `duration` by its name alone
abbrev pub trim_manual : Manual TrimSettings
trim_manual = record {
  names = (codes "start", 0) ∷ (codes "end", 1) ∷ (codes "duration", 2) ∷ [];
  places = 2;
  Sets = SetsTrim;
}

-- the later of a stop, where there is one, and a time
abbrev pub later_of : Option ℕ → ℕ → ℕ
later_of None t = t
later_of (Some stop) t = max stop t

-- The stop that counts: without a duration that of the range. With one of so many ticks from the first item kept on it is the
-- later of both, and none until that item came.
abbrev pub stop_that_counts : Option ℕ → ℕ → Option ℕ → Option ℕ
stop_that_counts stop zero first = stop
stop_that_counts stop (suc ticks) None = None
stop_that_counts stop (suc ticks) (Some first) = Some (later_of stop (first + suc ticks))

-- the range that counts
abbrev pub lasting : Range → ℕ → Option ℕ → Range
lasting range ticks first = record range { stop = stop_that_counts range.stop ticks first }

pub near_one : (n : ℕ) (p q : n < 2 ^ 63) → p ≡ q
near_one n p q = (let one : IsProp (n < 2 ^ 63) = hlevel props in one p q)

range_at : (n : ℕ) (stop : Option ℕ) (p q : n < 2 ^ 63) → (let m : Range = record { start = n; stop = stop; near = p } in m) ≡ record { start = n; stop = stop; near = q }
range_at n stop p q = ap (λ (b : n < 2 ^ 63). let m : Range = record { start = n; stop = stop; near = b } in m) (near_one n p q)

-- a range is what its start and its stop are
pub range_same : (r : Range) (n : ℕ) (stop : Option ℕ) (q : n < 2 ^ 63) → r.start ≡ n → r.stop ≡ stop → r ≡ record { start = n; stop = stop; near = q }
range_same r n stop q e f =
    subst (λ k. (q : k < 2 ^ 63) → r ≡ record { start = k; stop = stop; near = q }) e
    (λ q. subst (λ (x : Option ℕ). r ≡ record { start = r.start; stop = x; near = q }) f (range_at r.start r.stop r.near q)) q
