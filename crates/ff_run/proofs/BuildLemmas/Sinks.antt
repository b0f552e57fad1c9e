-- What the sink of a muxer holds, and what was told, by the heads of the output's streams.
use Rattle.std.proofs.Common.{◌≡◌, ℕ, zero, suc, ◌+◌, ◌<◌, Bool, cond, List, [], ◌∷◌, filter, length, map, slice_get, Option, Some, refl, sym, ap, ◌∙◌, arith}
use Rattle.std.specs.List.{range_with_len}
use Rattle.ff_frame.specs.Heads.{base_of_head}
use Rattle.ff_frame.specs.declared.event.Event.{Event}
use Rattle.ff_frame.specs.declared.event.Event.TheVariants.{Grant, Sent, Finished, Best, Exited}
use Rattle.ff_frame.specs.declared.head.StreamHead.{StreamHead}
use Rattle.ff_frame.specs.declared.totals.Totals.{Totals}
use Rattle.ff_stream.specs.Ports.{stream_at}
use Rattle.ff_node_mux.specs.merge.Queues.{base_at}
use Rattle.ff_node_mux.specs.laws.Mixing.{bases_long, mixed_alike, totals_alike}
use Rattle.ff_node_mux.specs.Muxing.{file, file_for, head_bases, mixed, text_for, totals_in, unpatched}
use Rattle.ff_node_mux.specs.StreamEvents.{events_of, is_event_of}
use Rattle.ff_net.specs.Ways.{Flow}
use Rattle.ff_run_plan.specs.Kinds.{first_streams, is_of_stream}
use Rattle.ff_format.specs.Layouts.{Layout}

-- ---- the first so many streams

at_port : (got : List Flow) (a n p : ℕ) → p < n → stream_at (map (λ q. stream_at got q) (range_with_len a n)) p ≡ stream_at got (a + p)
at_port got a zero p lt = absurd (omega (arith, lt))
at_port got a (suc n) zero lt = let here : a ≡ a + 0 = omega arith in ap (λ (q : ℕ). stream_at got q) here
at_port got a (suc n) (suc p) lt =
    let next : (a + 1) + p ≡ a + suc p = omega arith in
    at_port got (a + 1) n p (omega (arith, lt)) ∙ ap (λ (q : ℕ). stream_at got q) next

at_first : (got : List Flow) (n p : ℕ) → p < n → stream_at got p ≡ stream_at (first_streams n got) p
at_first got n p lt = let none : 0 + p ≡ p = omega arith in sym (at_port got 0 n p lt ∙ ap (λ (q : ℕ). stream_at got q) none)

-- what is written of streams goes by as many as there are heads
module _ (layout : Layout) (heads : List StreamHead) (got : List Flow) where
  at_bases : (q : ℕ) → q < length (head_bases heads) → stream_at got q ≡ stream_at (first_streams (length heads) got) q
  at_bases q lt = at_first got (length heads) q (let long = bases_long heads in omega (arith, lt, long))

  mixed_first : mixed (head_bases heads) got ≡ mixed (head_bases heads) (first_streams (length heads) got)
  mixed_first = mixed_alike (head_bases heads) got (first_streams (length heads) got) at_bases

  pub text_first : unpatched layout (head_bases heads) got ≡ unpatched layout (head_bases heads) (first_streams (length heads) got)
  text_first = ap (text_for layout) mixed_first

  pub file_first : file layout (head_bases heads) got ≡ file layout (head_bases heads) (first_streams (length heads) got)
  file_first =
      ap (λ (o : Option Totals). file_for layout o (mixed (head_bases heads) got)) (totals_alike (head_bases heads) got (first_streams (length heads) got) at_bases)
      ∙ ap (file_for layout (totals_in (head_bases heads) (first_streams (length heads) got))) mixed_first

-- ---- what is told

same_test : (n : ℕ) (e : Event) → is_of_stream n e ≡ is_event_of n e
same_test n (Grant s) = refl
same_test n (Sent j t) = refl
same_test n (Finished j) = refl
same_test n (Best g i) = refl
same_test n (Exited s) = refl

pub same_events : (n : ℕ) (es : List Event) → filter (is_of_stream n) es ≡ events_of n es
same_events n [] = refl
same_events n (e ∷ es) =
    ap (λ (b : Bool). cond b (e ∷ filter (is_of_stream n) es) (filter (is_of_stream n) es)) (same_test n e)
    ∙ ap (λ (xs : List Event). cond (is_event_of n e) (e ∷ xs) xs) (same_events n es)

same_head : (c head : StreamHead) → Some c ≡ Some head → c ≡ head
same_head c head e = cc

-- a stream with a head has that head's base
pub head_there : (heads : List StreamHead) (p : ℕ) (head : StreamHead) → slice_get heads p ≡ Some head
    → (p < length (head_bases heads)) × (base_at (head_bases heads) p ≡ base_of_head head)
head_there [] p head at = absurd cc
head_there (h ∷ hs) zero head at = (omega arith, ap base_of_head (same_head h head at))
head_there (h ∷ hs) (suc p) head at = let rest = head_there hs p head at in (let lt = rest.0 in omega (arith, lt), rest.1)
