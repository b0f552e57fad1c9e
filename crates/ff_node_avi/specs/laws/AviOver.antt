-- When the demuxer of an AVI gives nothing more.
use Rattle.std.specs.Prelude.{◌≡◌, ℕ, zero, suc, ◌<◌, ◌≤◌, ◌⊎◌, ◌||◌, ◌&&◌, not, Bool, true, false, cond, List, map, length, Option, None, Some, is_some, refl, [], ◌∷◌, IsSome}
use Rattle.std.proofs.Common.{sym, ap, inl, inr, ◌∙◌, arith}
use Rattle.ff_frame.specs.declared.packet.Pkt.{Pkt}
use Rattle.ff_frame.specs.declared.head.StreamHead.{StreamHead}
use Rattle.ff_stream.specs.declared.item.Lane.TheVariants.{Packets}
use Rattle.ff_stream.specs.Stream.{still_open}
use Rattle.ff_net.specs.declared.fault.Fault.{Fault}
use Rattle.ff_net.specs.laws.Laws.{IsPending}
use Rattle.ff_net.specs.Pasts.{Past, IsIn}
use Rattle.ff_avi.specs.declared.cut.AviCut.{AviCut}
use Rattle.ff_avi.specs.Sound.{streams_with}
use Rattle.ff_node_avi.specs.declared.ports.AviPorts.{AviPorts}
use Rattle.ff_node_avi.specs.declared.demux.Port.{Port}
use Rattle.ff_node_avi.specs.Demuxing.{ports_of, heads_of, number_of, DemuxStands, mark_of}
use Rattle.ff_node_avi.specs.laws.AviPorts.{of_two, is_past, is_over}
use Rattle.ff_stream.specs.Ports.{stream_at, IsClosed}
use Rattle.ff_net.proofs.Flows.{same_or_not}

pub number_map : (ports : AviPorts) → length (map Packets (heads_of ports)) ≡ number_of ports
number_map ports = of_streams ports.first ports.second
  where
    of_streams : (first : StreamHead) (second : Option StreamHead) → length (map Packets (streams_with first second)) ≡ length (streams_with first second)
    of_streams first None = refl
    of_streams first (Some second) = refl

-- there are one or two ports
pub few_ports : (ports : AviPorts) → number_of ports ≤ 2
few_ports ports = of_streams ports.first ports.second
  where
    of_streams : (first : StreamHead) (second : Option StreamHead) → length (streams_with first second) ≤ 2
    of_streams first None = omega arith
    of_streams first (Some second) = omega arith

-- and so a lane at least
pub some_lanes : (ports : AviPorts) → map Packets (heads_of ports) ≡ [] → ⊥
some_lanes ports = of_streams ports.first ports.second
  where
    of_streams : (first : StreamHead) (second : Option StreamHead) → map Packets (streams_with first second) ≡ [] → ⊥
    of_streams first None e = cc
    of_streams first (Some second) e = cc

-- whether it gives nothing more: a fault is there, or each port was stopped or has closed
abbrev pub IsOver : AviPorts → Option Fault → Past → Type 0
IsOver ports fault past = IsSome fault ⊎ ((q : ℕ) → q < number_of ports → IsIn q past.stopped ⊎ IsClosed (stream_at past.gave q))

in_or_not : (q : ℕ) (xs : List ℕ) → IsIn q xs ⊎ (IsIn q xs → ⊥)
in_or_not q [] = inr (λ i. i)
in_or_not q (x ∷ xs) = elim (same_or_not x q) [
  | inl e ↦ inl (inl e)
  | inr n ↦ elim (in_or_not q xs) [ inl i ↦ inl (inr i) | inr m ↦ inr (λ i. elim i [ inl e ↦ n e | inr j ↦ m j ]) ]
]

past_so : (closed going : Bool) → (closed || not going) ≡ true → (closed ≡ true) ⊎ (going ≡ false)
past_so true going e = inl refl
past_so false true e = cc
past_so false false e = inr refl

both_so : (a b : Bool) → (a && b) ≡ true → (a ≡ true) × (b ≡ true)
both_so true true e = (refl, refl)
both_so true false e = cc
both_so false b e = cc

not_past : (closed going : Bool) → (closed || not going) ≡ false → (closed ≡ false) × (going ≡ true)
not_past true going e = cc
not_past false true e = (refl, refl)
not_past false false e = cc

over_so : (fault : Option Fault) (b : Bool) → fault ≡ None → (is_some fault || b) ≡ true → b ≡ true
over_so None b n e = e
over_so (Some f) b n e = cc

not_over : (fault : Option Fault) (a b : Bool) → (is_some fault || (a && b)) ≡ false → (fault ≡ None) × ((a ≡ false) ⊎ (b ≡ false))
not_over None true true e = cc
not_over None true false e = (refl, inr refl)
not_over None false b e = (refl, inl refl)
not_over (Some f) a b e = cc

module _ (left : Option (List ℕ)) (cut : AviCut) (skip : ℕ) (ports : AviPorts) (given : ℕ) (ended ticket : Bool) (waiting : Option (ℕ × Pkt)) (first second : Port) (fault : Option Fault) (past : Past)
    (d : DemuxStands left cut skip ports given ended ticket waiting (of_two first.going second.going) (of_two first.closed second.closed) fault past) where
  past_at : is_over first second fault ≡ true → fault ≡ None → (q : ℕ) → q < 2 → (of_two first.closed second.closed q ≡ true) ⊎ (of_two first.going second.going q ≡ false)
  past_at o none zero lt = past_so first.closed first.going (both_so (is_past first) (is_past second) (over_so fault (is_past first && is_past second) none o)).0
  past_at o none (suc zero) lt = past_so second.closed second.going (both_so (is_past first) (is_past second) (over_so fault (is_past first && is_past second) none o)).1
  past_at o none (suc (suc q)) lt = absurd (omega (arith, lt))

  -- then no port is pending
  pub over_pending : is_over first second fault ≡ true → fault ≡ None → (q : ℕ) → IsPending (length (map Packets (heads_of ports))) past q → ⊥
  over_pending o none q p =
      let same : number_of ports ≡ number_of (ports_of d.0 d.1) = ap (λ (x : AviPorts). number_of x) d.3.ports_are in
      let there = p.there in
      let few = few_ports ports in
      let lt : q < 2 = omega (arith, there, few, number_map ports) in
      let go : of_two first.going second.going q ≡ true = d.3.gives.goes q (omega (arith, there, number_map ports, same)) p.goes_on in
      elim (past_at o none q lt) [
        | inl c ↦ (let g = d.3.gives.gave q go in
            d.3.gives.closes (sym (g.mark ∙ ap (λ (b : Bool). cond b (mark_of d.0 d.1 d.2) still_open) c) ∙ p.unclosed))
        | inr f ↦ cc
      ]

  pending_at : (q : ℕ) → (of_two first.closed second.closed q ≡ false) × (of_two first.going second.going q ≡ true) → IsPending (length (map Packets (heads_of ports))) past q
  pending_at q (c, go) =
      let there = d.3.gives.stopped q go in
      let lt = there.0 in
      let same : number_of ports ≡ number_of (ports_of d.0 d.1) = ap (λ (x : AviPorts). number_of x) d.3.ports_are in
      record {
        there = omega (arith, lt, same, number_map ports);
        goes_on = there.1;
        unclosed = (d.3.gives.gave q go).mark ∙ ap (λ (b : Bool). cond b (mark_of d.0 d.1 d.2) still_open) c;
      }

  -- else one is, and there is no fault
  pub goes_on_pending : is_over first second fault ≡ false → (fault ≡ None) × ((q : ℕ) × IsPending (length (map Packets (heads_of ports))) past q)
  goes_on_pending o =
      let n = not_over fault (is_past first) (is_past second) o in (
        n.0,
        elim n.1 [
          | inl a ↦ (0, pending_at 0 (not_past first.closed first.going a))
          | inr b ↦ (1, pending_at 1 (not_past second.closed second.going b))
        ],
      )

  -- that can be seen of its past
  past_seen : (q : ℕ) → q < number_of ports → (of_two first.closed second.closed q ≡ true) ⊎ (of_two first.going second.going q ≡ false)
      → IsIn q past.stopped ⊎ IsClosed (stream_at past.gave q)
  past_seen q lt so =
      let same : number_of ports ≡ number_of (ports_of d.0 d.1) = ap (λ (x : AviPorts). number_of x) d.3.ports_are in
      elim (in_or_not q past.stopped) [
        | inl i ↦ inl i
        | inr n ↦ (let go : of_two first.going second.going q ≡ true = d.3.gives.goes q (omega (arith, lt, same)) n in elim so [
          | inl c ↦ inr (λ o. d.3.gives.closes (sym ((d.3.gives.gave q go).mark ∙ ap (λ (b : Bool). cond b (mark_of d.0 d.1 d.2) still_open) c) ∙ o))
          | inr f ↦ cc
        ])
      ]

  pub over_seen : is_over first second fault ≡ true → IsOver ports fault past
  over_seen o = pick fault refl
    where
      pick : (f : Option Fault) → fault ≡ f → IsOver ports fault past
      pick None e = inr (λ q lt. past_seen q lt (past_at o e q (let few = few_ports ports in omega (arith, lt, few))))
      pick (Some f) e = inl (ap (λ (x : Option Fault). is_some x) e)
