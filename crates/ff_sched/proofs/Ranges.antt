-- Routes within their limits, and the events in their range.
use Rattle.std.proofs.Common.{ℕ, ◌+◌, ◌<◌, ◌≤◌, List, [], All, length, take, get_or, slice_index_or, sym, subst, arith}
use Rattle.std.proofs.lemmas.List.{take_more, take_all}
use Rattle.std.proofs.lemmas.List.Elements.{All-get_or, All-push}
use Rattle.ff_frame.specs.declared.event.Event.{Event}
use Rattle.ff_frame.specs.declared.event.Event.TheVariants.{Grant, Sent, Finished, Best, Exited}
use Rattle.ff_sched.specs.declared.routes.Way.{Way}
use Rattle.ff_sched.specs.declared.routes.Routes.{Routes}
use Rattle.ff_sched.specs.laws.Routes.{AreRoutes}
use Rattle.ff_sched.specs.Events.{IsSmall, IsInRange}

pub small_in : (r : Routes) (e : Event) → AreRoutes r → IsInRange r e → IsSmall e
small_in r (Grant k) a i = let s = a.sources in omega arith
small_in r (Sent j t) a i = (let s = a.streams in let x = i.0 in omega arith, i.1)
small_in r (Finished j) a i = let s = a.streams in omega arith
small_in r (Best g i) a x = (
  let s = a.graphs in let y = x.0 in omega arith,
  let z : length (slice_index_or r.graphs g []) ≤ 16 = All-get_or (λ (ways : List Way). length ways ≤ 16) r.graphs g [] x.0 a.inputs in let y = x.1 in omega arith,
)
small_in r (Exited k) a i = let s = a.sources in omega arith

abbrev pub IsNarrow : List Way → Type 0
IsNarrow ways = length ways ≤ 16

-- one graph more has no more inputs than there may be
pub narrow_more : (graphs : List (List Way)) (i : ℕ) (d : List Way) → i < length graphs → All IsNarrow (take i graphs) → IsNarrow (get_or graphs i d) → All IsNarrow (take (i + 1) graphs)
narrow_more graphs i d lt front here = subst (All IsNarrow) (sym (take_more graphs i d lt)) (All-push IsNarrow (take i graphs) (get_or graphs i d) front here)

pub narrow_all : (graphs : List (List Way)) (i : ℕ) → length graphs ≤ i → All IsNarrow (take i graphs) → All IsNarrow graphs
narrow_all graphs i le front = subst (All IsNarrow) (take_all i graphs le) front
