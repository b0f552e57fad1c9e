-- The numbers of output streams, and the streams at the inputs of a Mux node.
use Rattle.std.proofs.Common.{◌≡◌, inr, ℕ, zero, suc, ◌+◌, ◌<◌, ◌≤◌, ◌==◌, ◌&&◌, nat_le, nat_lt, Bool, true, false, cond, List, [], ◌∷◌, length, map, slice_index_or, Option, Some, None, refl, sym, ap, ◌∙◌, subst, arith}
use Rattle.std.specs.List.{cons_option, filter_map, range_with_len}
use Rattle.std.proofs.lemmas.Bool.Decides.{nat_tests}
use Rattle.std.proofs.lemmas.List.{length-map}
use Rattle.ff_frame.specs.declared.head.StreamHead.{StreamHead}
use Rattle.ff_stream.specs.Stream.{LiesBelow, opened}
use Rattle.ff_stream.specs.Ports.{stream_at, AllBelow}
use Rattle.ff_stream.specs.declared.item.Lane.{Lane}
use Rattle.ff_stream.specs.declared.item.Lane.TheVariants.{Frames, Packets}
use Rattle.ff_stream.specs.declared.edges.edge.Edge.{Edge}
use Rattle.ff_stream.specs.edges.Ports.{tally, edge_to, edges_to, lane_of, lanes_into, shape_of}
use Rattle.ff_net.specs.Ways.{Flow}
use Rattle.ff_net_threads.proofs.NetworkLemmas.Fitting.{count_ports}
use Rattle.ff_plan.specs.Numbers.{leads_between, streams_between}
use Rattle.ff_run_plan.specs.Kinds.{first_streams}
use Rattle.ff_run_plan.specs.Meaning.{edges_into}
use Rattle.ff_run_plan.specs.Tasks.{heads_on}

-- ---- numbers

wider : (low j k t : ℕ) → j < k → (nat_le low t && nat_lt t j) ≡ true → (nat_le low t && nat_lt t k) ≡ true
wider low j k t lt e = grind (arith, nat_tests)

inside : (low j k t : ℕ) → low ≤ j → j < k → (t == j) ≡ true → (nat_le low t && nat_lt t k) ≡ true
inside low j k t le lt e = grind (arith, nat_tests)

apart : (low j t : ℕ) → (nat_le low t && nat_lt t j) ≡ true → (t == j) ≡ true → ⊥
apart low j t e f = grind (arith, nat_tests)

not_true : false ≡ true → ⊥
not_true e = cc

add_step : (a b c : ℕ) (p q r : Bool) → a + b ≤ c → (p ≡ true → r ≡ true) → (q ≡ true → r ≡ true) → (p ≡ true → q ≡ true → ⊥) → cond p (suc a) a + cond q (suc b) b ≤ cond r (suc c) c
add_step a b c true true r le f g h = absurd (h refl refl)
add_step a b c true false true le f g h = omega (arith, le)
add_step a b c true false false le f g h = absurd (not_true (f refl))
add_step a b c false true true le f g h = omega (arith, le)
add_step a b c false true false le f g h = absurd (not_true (g refl))
add_step a b c false false true le f g h = omega (arith, le)
add_step a b c false false false le f g h = le

both_tallies : (low j k : ℕ) → low ≤ j → j < k → (edges : List Edge) → tally (leads_between low j) edges + tally (λ (e : Edge). e.to == j) edges ≤ tally (leads_between low k) edges
both_tallies low j k le lt [] = omega arith
both_tallies low j k le lt (e ∷ es) =
    add_step (tally (leads_between low j) es) (tally (λ (e : Edge). e.to == j) es) (tally (leads_between low k) es) (leads_between low j e) (e.to == j) (leads_between low k e)
    (both_tallies low j k le lt es) (wider low j k e.to lt) (inside low j k e.to le lt) (apart low j e.to)

fewer_step : (o : Option Lane) (ls : List Lane) (n : ℕ) → length ls ≤ n → length (cons_option o ls) ≤ suc n
fewer_step None ls n le = omega (arith, le)
fewer_step (Some l) ls n le = omega (arith, le)

fewer_lanes : (f : ℕ → Option Lane) (ws : List ℕ) → length (filter_map f ws) ≤ length ws
fewer_lanes f [] = omega arith
fewer_lanes f (w ∷ ws) = fewer_step (f w) (filter_map f ws) (length ws) (fewer_lanes f ws)

-- the streams at a node are numbered before those at a later one
pub numbers_apart : (edges : List Edge) (low j k : ℕ) → low ≤ j → j < k → streams_between low j edges + length (lanes_into edges j) ≤ streams_between low k edges
numbers_apart edges low j k le lt =
    let both = both_tallies low j k le lt edges in
    let fewer = fewer_lanes (lane_of edges) (edges_to (shape_of edges) edges j) in
    let count = count_ports (edge_to edges j) (tally (λ (e : Edge). e.to == j) edges) in
    omega (arith, both, fewer, count)

pub one_past : (edges : List Edge) (low k : ℕ) → low ≤ k → streams_between low k edges + length (lanes_into edges k) ≤ streams_between low (suc k) edges
one_past edges low k le = numbers_apart edges low k (suc k) le (omega arith)

-- ---- the lanes and the edges of streams with these heads

pub heads_back : (coded : List StreamHead) → heads_on (map (λ (head : StreamHead). Packets head) coded) ≡ coded
heads_back [] = refl
heads_back (c ∷ cs) = ap (λ (xs : List StreamHead). c ∷ xs) (heads_back cs)

-- and of frames
frames_back : (heads : List StreamHead) → heads_on (map (λ (head : StreamHead). Frames head) heads) ≡ heads
frames_back [] = refl
frames_back (h ∷ hs) = ap (λ (xs : List StreamHead). h ∷ xs) (frames_back hs)

pub framed_is : (lanes : List Lane) (heads : List StreamHead) → lanes ≡ map (λ (head : StreamHead). Frames head) heads → heads_on lanes ≡ heads
framed_is lanes heads e = ap (λ (ls : List Lane). heads_on ls) e ∙ frames_back heads

pub coded_is : (lanes : List Lane) (coded : List StreamHead) → lanes ≡ map (λ (head : StreamHead). Packets head) coded → heads_on lanes ≡ coded
coded_is lanes coded e = ap (λ (ls : List Lane). heads_on ls) e ∙ heads_back coded

pub lane_count : (lanes : List Lane) (coded : List StreamHead) → lanes ≡ map (λ (head : StreamHead). Packets head) coded → length lanes ≡ length coded
lane_count lanes coded e = ap (λ (ls : List Lane). length ls) e ∙ length-map coded (λ (head : StreamHead). Packets head)

pub edge_count : (edges : List Edge) (k : ℕ) (coded : List StreamHead) → lanes_into edges k ≡ map (λ (head : StreamHead). Packets head) coded → length (edges_into edges k) ≡ length coded
edge_count edges k coded e = count_ports (edge_to edges k) (length (lanes_into edges k)) ∙ lane_count (lanes_into edges k) coded e

-- ---- streams by port

pub at_streams : (streams : ℕ → Flow) (ws : List ℕ) (p : ℕ) → p < length ws → stream_at (map (λ w. streams w) ws) p ≡ streams (slice_index_or ws p 0)
at_streams streams [] p lt = absurd (omega (arith, lt))
at_streams streams (w ∷ ws) zero lt = refl
at_streams streams (w ∷ ws) (suc p) lt = at_streams streams ws p (omega (arith, lt))

module _ (got : List Flow) (streams : ℕ → Flow) where
  abbrev from_port : ℕ → ℕ → List Flow
  from_port a n = map (λ p. stream_at got p) (range_with_len a n)

  same_from : (a n : ℕ) (ws : List ℕ) → length ws ≡ n → ((p : ℕ) → p < n → stream_at got (a + p) ≡ streams (slice_index_or ws p 0)) → from_port a n ≡ map (λ w. streams w) ws
  same_from a zero [] e each = refl
  same_from a zero (w ∷ ws) e each = absurd (omega (arith, e))
  same_from a (suc n) [] e each = absurd (omega (arith, e))
  same_from a (suc n) (w ∷ ws) e each =
      let here : a + 0 ≡ a = omega arith in
      ap (λ (s : Flow). s ∷ from_port (a + 1) n) (ap (λ (q : ℕ). stream_at got q) (sym here) ∙ each 0 (omega arith))
      ∙ ap (λ (ss : List Flow). streams w ∷ ss) (same_from (a + 1) n ws (omega (arith, e)) (λ p lt.
      let next : (a + 1) + p ≡ a + suc p = omega arith in ap (λ (q : ℕ). stream_at got q) next ∙ each (suc p) (omega (arith, lt))))

  -- what was fed on the first so many inputs is what is on their edges
  pub same_streams : (n : ℕ) (ws : List ℕ) → length ws ≡ n → ((p : ℕ) → p < length ws → stream_at got p ≡ streams (slice_index_or ws p 0)) → first_streams n got ≡ map (λ w. streams w) ws
  same_streams n ws e each = same_from 0 n ws e (λ p lt.
      let none : 0 + p ≡ p = omega arith in ap (λ (q : ℕ). stream_at got q) none ∙ each p (omega (arith, lt, e)))

  below_from : (a n : ℕ) (ws : List ℕ) → length ws ≡ n → ((p : ℕ) → p < n → LiesBelow (opened (stream_at got (a + p))) (streams (slice_index_or ws p 0)))
      → AllBelow (map (λ (s : Flow). opened s) (from_port a n)) (map (λ w. streams w) ws)
  below_from a zero [] e each p = inr (refl, ([], refl))
  below_from a zero (w ∷ ws) e each p = absurd (omega (arith, e))
  below_from a (suc n) [] e each p = absurd (omega (arith, e))
  below_from a (suc n) (w ∷ ws) e each zero =
      let here : a + 0 ≡ a = omega arith in subst (λ (q : ℕ). LiesBelow (opened (stream_at got q)) (streams w)) here (each 0 (omega arith))
  below_from a (suc n) (w ∷ ws) e each (suc p) =
      below_from (a + 1) n ws (omega (arith, e)) (λ q lt.
      let next : a + suc q ≡ (a + 1) + q = omega arith in
      subst (λ (r : ℕ). LiesBelow (opened (stream_at got r)) (streams (slice_index_or ws q 0))) next (each (suc q) (omega (arith, lt)))) p

  -- or lies below it
  pub below_streams : (n : ℕ) (ws : List ℕ) → length ws ≡ n → ((p : ℕ) → p < length ws → LiesBelow (opened (stream_at got p)) (streams (slice_index_or ws p 0)))
      → AllBelow (map opened (first_streams n got)) (map (λ w. streams w) ws)
  below_streams n ws e each = below_from 0 n ws e (λ p lt.
      let none : p ≡ 0 + p = omega arith in
      subst (λ (q : ℕ). LiesBelow (opened (stream_at got q)) (streams (slice_index_or ws p 0))) none (each p (omega (arith, lt, e))))
