-- A machine that repeats its input on its outputs, and ends after so many items.
use Rattle.std.specs.Prelude.{◌≡◌, ◌↔◌, ℕ, ◌-◌, ◌<◌, ◌≤◌, ◌⊎◌, Bool, true, false, cond, nat_le, List, [], ◌∷◌, ◌++◌, length, take, drop, replicate, slice_index_or, Option, None}
use Rattle.ff_stream.specs.declared.item.Item.{Item}
use Rattle.ff_stream.specs.declared.item.Item.TheVariants.{End}
use Rattle.ff_stream.specs.declared.item.Lane.{Lane}
use Rattle.ff_stream.specs.Stream.{Mark, still_open, whole, broken}
use Rattle.ff_stream.specs.Items.{Leads}
use Rattle.ff_stream.specs.Lanes.{IsValid}
use Rattle.ff_stream.specs.Ports.{nothing, stream_at}
use Rattle.ff_net.specs.declared.fault.Fault.{Fault}
use Rattle.ff_net.specs.Ways.{Flow}
use Rattle.ff_net.specs.Pasts.{Past, IsIn}
use Rattle.ff_net.specs.laws.Laws.{IsSilent}
use Rattle.ff_test_machines.specs.declared.relay.Out.{Out}

-- the first n items, whole where so many are there
abbrev pub stopped_at : ℕ → Flow → Flow
stopped_at n s = record { items = take n s.items; mark = cond (nat_le n (length s.items)) whole s.mark }

abbrev pub relay : ℕ → ℕ → List Flow → List Flow
relay limit outs ss = replicate outs (stopped_at limit (stream_at ss 0))

abbrev pub no_cause : List Flow → Option Fault
no_cause ss = None

abbrev pub closed_mark : Mark → Bool
closed_mark still_open = false
closed_mark whole = true
closed_mark broken = true

abbrev pub out_of : List Out → ℕ → Out
out_of outs q = slice_index_or outs q (record { next = 0; stopped = false })

-- what was given, with the end where no more is let through
abbrev pub with_end : List Item → ℕ → List Item
with_end given left = given ++ cond (nat_le left 0) (End ∷ []) []

abbrev pub outs_stopped : List Out → Bool
outs_stopped [] = true
outs_stopped (o ∷ os) = cond o.stopped (outs_stopped os) false

abbrev pub is_spent_relay : ℕ → Bool → List Out → ℕ → Type 0
is_spent_relay left closed outs p = (p < 1) × ((closed ≡ true) ⊎ ((0 < length outs) × ((left ≡ 0) ⊎ (outs_stopped outs ≡ true))))

pub record Relays (lane : Lane) (limit left : ℕ) (closed : Bool) (given : List Item) (outs : List Out) (past : Past) : Type 0 where
  pub means : past.task.means ≡ relay limit (length outs)
  pub silent : IsSilent past
  pub cause : past.task.cause ≡ no_cause
  pub plain : past.task.source ≡ None
  pub others : (p : ℕ) → 1 ≤ p → stream_at past.got p ≡ nothing
  pub valid : IsValid lane (stream_at past.got 0)
  pub left_is : left ≡ limit - length (stream_at past.got 0).items
  pub closed_is : closed ≡ closed_mark (stream_at past.got 0).mark
  pub gave : (q : ℕ) → q < length outs → Leads (stream_at past.gave q) (drop (out_of outs q).next (with_end given left)) (stopped_at limit (stream_at past.got 0))
  pub in_range : (q : ℕ) → q < length outs → (out_of outs q).next ≤ length (with_end given left)
  pub beyond : (q : ℕ) → length outs ≤ q → stream_at past.gave q ≡ nothing
  pub stops : (q : ℕ) → q < length outs → (out_of outs q).stopped ≡ true ↔ IsIn q past.stopped
