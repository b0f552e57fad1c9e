-- What each move along an edge does to the streams on all edges.
use Rattle.std.proofs.Common.{not, inl, inr, subst, true≢false, Result, Ok, Err, OnErr, ◌≡◌, ◌≢◌, ℕ, zero, suc, ◌<◌, ◌==◌, ◌||◌, is_some, if◌then◌else◌, Bool, true, false, cond, List, [], ◌∷◌}
use Rattle.std.proofs.Common.{length, Option, None, Some, slice_index_or, slice_set, refl, ap, sym, ◌∙◌, arith}
use Rattle.std.proofs.lemmas.Bool.{cases_eq}
use Rattle.std.proofs.lemmas.Bool.Decides.{nat_tests}
use Rattle.std.specs.declared.alloc.AllocError.{AllocError}
use Rattle.ff_stream.specs.declared.item.Item.{Item}
use Rattle.ff_stream.specs.declared.item.Item.TheVariants.{Audio, Video, Packet, Trailer, End, Broken}
use Rattle.ff_stream.specs.declared.item.Lane.{Lane}
use Rattle.ff_stream.specs.laws.Order.{nothing_below}
use Rattle.ff_stream.specs.Ports.{nothing, IsClosed}
use Rattle.ff_filter.specs.Joins.{Flow}
use Rattle.ff_net.specs.Nets.{put_all}
use Rattle.ff_filter.specs.Joins.{Ports, Grows, silence, before, before_if, before_at, closed_above}
use Rattle.ff_filter.specs.Views.{View, SamePorts, Same, Fed, Gave, Stopped, IsSpent, closes}
use Rattle.ff_filter.specs.laws.Held.{after_held, held_closes}
use Rattle.ff_graph_dag.specs.declared.graph.Node.{Node}
use Rattle.ff_graph_dag.specs.laws.Dags.{Spot, held_at, spot_shut, reads, comes, gives, after, solve_spots, Free, StandsAt, Untouched, AllUntouched, Reads, Leaves, Leads}
use Rattle.ff_graph_dag.specs.laws.Dags.{Kept, Delivered, Stored, Pulled, IsDecided}
use Rattle.ff_graph_dag.specs.laws.Readings.{is_other, is_same}

suc_zero : (p : ℕ) → (suc p == 0) ≡ false
suc_zero p = grind (arith, nat_tests)

zero_suc : (p : ℕ) → (0 == suc p) ≡ false
zero_suc p = grind (arith, nat_tests)

suc_suc_at : (p i : ℕ) (b : Bool) → (p == i) ≡ b → (suc p == suc i) ≡ b
suc_suc_at p i true e = grind (arith, nat_tests)
suc_suc_at p i false e = grind (arith, nat_tests)

suc_suc : (p i : ℕ) → (suc p == suc i) ≡ (p == i)
suc_suc p i = suc_suc_at p i (p == i) refl

-- what isn't read makes no difference
pub reads_free : (ws : List ℕ) (w : ℕ) (x : Item) (σ : Ports) → Free w ws → (i : ℕ) → reads ws (before_at w x σ) i ≡ reads ws σ i
reads_free [] w x σ f i = refl
reads_free (u ∷ us) w x σ f zero = ap (λ (b : Bool). before_if b x (σ u)) (is_other u w f.0)
reads_free (u ∷ us) w x σ f (suc i) = reads_free us w x σ f.1 i

-- an item on an edge is one at the input that the edge leads to
pub reads_at : (ws : List ℕ) (w i : ℕ) (x : Item) (σ : Ports) → StandsAt w i ws → (p : ℕ) → reads ws (before_at w x σ) p ≡ before_at i x (reads ws σ) p
reads_at [] w i x σ f p = absurd f
reads_at (u ∷ us) w zero x σ f zero = ap (λ (b : Bool). before_if b x (σ u)) (is_same u w f.0)
reads_at (u ∷ us) w zero x σ f (suc p) = reads_free us w x σ f.1 p ∙ ap (λ (b : Bool). before_if b x (reads us σ p)) (sym (suc_zero p))
reads_at (u ∷ us) w (suc i) x σ f zero = ap (λ (b : Bool). before_if b x (σ u)) (is_other u w f.0 ∙ sym (zero_suc i))
reads_at (u ∷ us) w (suc i) x σ f (suc p) = reads_at us w i x σ f.1 p ∙ ap (λ (b : Bool). before_if b x (reads us σ p)) (sym (suc_suc p i))

-- an output that gave an item: it stood first on its edge
puts_gave : (os : List ℕ) (w q : ℕ) (x : Item) (g h σ : Ports) → StandsAt w q os → g q ≡ before x (h q) → ((o : ℕ) → o < length os → o ≢ q → g o ≡ h o) → (u : ℕ)
    → put_all os g σ u ≡ before_at w x (put_all os h σ) u
puts_gave [] w q x g h σ f e n u = absurd f
puts_gave (o ∷ os) w zero x g h σ f e n u = at (o == u) refl
  where
    rests : (os : List ℕ) (g h : Ports) → ((p : ℕ) → p < length os → g p ≡ h p) → put_all os g σ u ≡ put_all os h σ u
    rests [] g h n = refl
    rests (o ∷ os) g h n = ap (λ (s : Flow). if o == u then s else put_all os (λ p. g (suc p)) σ u) (n 0 (omega arith)) ∙ ap (λ (s : Flow). if o == u then h 0 else s)
        (rests os (λ p. g (suc p)) (λ p. h (suc p)) (λ p lt. n (suc p) (omega arith)))

    at : (b : Bool) → (o == u) ≡ b → (if b then g 0 else put_all os (λ p. g (suc p)) σ u) ≡ before_if (u == w) x (if b then h 0 else put_all os (λ p. h (suc p)) σ u)
    at true is = let here : (u == w) ≡ true = grind (arith, nat_tests, f.0) in e ∙ ap (λ (b : Bool). before_if b x (h 0)) (sym here)
    at false is = let there : (u == w) ≡ false = grind (arith, nat_tests, f.0) in rests os (λ p. g (suc p)) (λ p. h (suc p))
        (λ p lt. n (suc p) (omega arith) (omega arith)) ∙ ap (λ (b : Bool). before_if b x (put_all os (λ p. h (suc p)) σ u)) (sym there)
puts_gave (o ∷ os) w (suc q) x g h σ f e n u = at (puts_gave os w q x (λ p. g (suc p)) (λ p. h (suc p)) σ f.1 e (λ p lt m. n (suc p) (omega arith) (omega (arith, m)))
    u) (o == u) refl
  where
    at : put_all os (λ p. g (suc p)) σ u ≡ before_at w x (put_all os (λ p. h (suc p)) σ) u → (b : Bool) → (o == u) ≡ b
        → (if b then g 0 else put_all os (λ p. g (suc p)) σ u) ≡ before_if (u == w) x (if b then h 0 else put_all os (λ p. h (suc p)) σ u)
    at r true is = let there : (u == w) ≡ false = grind (arith, nat_tests, f.0) in n 0 (omega arith) (omega arith) ∙ ap (λ (b : Bool). before_if b x (h 0)) (sym there)
    at r false is = r

-- an item on an edge that doesn't leave the filter
puts_free : (os : List ℕ) (w : ℕ) (x : Item) (g σ : Ports) → Free w os → (u : ℕ) → put_all os g (before_at w x σ) u ≡ before_at w x (put_all os g σ) u
puts_free [] w x g σ f u = refl
puts_free (o ∷ os) w x g σ f u = at (puts_free os w x (λ p. g (suc p)) σ f.1 u) (o == u) refl
  where
    at : put_all os (λ p. g (suc p)) (before_at w x σ) u ≡ before_at w x (put_all os (λ p. g (suc p)) σ) u → (b : Bool) → (o == u) ≡ b
        → (if b then g 0 else put_all os (λ p. g (suc p)) (before_at w x σ) u) ≡ before_if (u == w) x (if b then g 0 else put_all os (λ p. g (suc p)) σ u)
    at r true is = let there : (u == w) ≡ false = grind (arith, nat_tests, f.0) in ap (λ (b : Bool). before_if b x (g 0)) (sym there)
    at r false is = r

-- what it gives where no input brings anything else
pub gives_by : (s : Spot) (n : Node) (σ τ : Ports) → ((i : ℕ) → comes s n σ i ≡ comes s n τ i) → (q : ℕ) → gives s n σ q ≡ gives s n τ q
gives_by s n σ τ h q = let e : comes s n σ ≡ comes s n τ = λ j i. h i j in ap (λ (c : Ports). cond (s.view.stopped q) nothing (s.view.rest c q)) e

-- a filter that has nothing to do with an edge on which an item stands
pub after_untouched : (s : Spot) (n : Node) (w : ℕ) (x : Item) (σ : Ports) → Untouched w n → after s n (before_at w x σ) ≡ before_at w x (after s n σ)
after_untouched s n w x σ f =
    let c : (i : ℕ) → comes s n (before_at w x σ) i ≡ comes s n σ i = λ i. ap (λ (t : Flow). after_held (held_at s.held i) t) (reads_free n.ins.items w x σ f.0 i) in
    let g : gives s n (before_at w x σ) ≡ gives s n σ = λ j q. gives_by s n (before_at w x σ) σ c q j in
    ap (λ (g : Ports). put_all n.outs.items g (before_at w x σ)) g ∙ (λ j u. puts_free n.outs.items w x (gives s n σ) σ f.1 u j)

pub solve_untouched : (ss : List Spot) (ns : List Node) (w : ℕ) (x : Item) (σ : Ports) → AllUntouched w ns → solve_spots (before_at w x σ) ss ns ≡ before_at w x
    (solve_spots σ ss ns)
solve_untouched [] ns w x σ f = refl
solve_untouched (s ∷ ss) [] w x σ f = refl
solve_untouched (s ∷ ss) (n ∷ ns) w x σ f = ap (λ (τ : Ports). solve_spots τ ss ns) (after_untouched s n w x σ f.0) ∙ solve_untouched ss ns w x (after s n σ) f.1

-- a filter that gives the same leaves every edge
pub solve_same : (ss : List Spot) (ns : List Node) (k : ℕ) (d s : Spot) → k < length ss → ((n : Node) (σ : Ports) (q : ℕ) → gives s n σ q ≡ gives
    (slice_index_or ss k d) n σ q) → (σ : Ports) → solve_spots σ (slice_set ss k s) ns ≡ solve_spots σ ss ns
solve_same [] ns k d s lt g σ = absurd (omega arith)
solve_same (t ∷ ss) [] zero d s lt g σ = refl
solve_same (t ∷ ss) [] (suc k) d s lt g σ = refl
solve_same (t ∷ ss) (n ∷ ns) zero d s lt g σ = ap (λ (h : Ports). solve_spots (put_all n.outs.items h σ) ss ns)
    (let e : gives s n σ ≡ gives t n σ = λ j q. g n σ q j in e)
solve_same (t ∷ ss) (n ∷ ns) (suc k) d s lt g σ = solve_same ss ns k d s (omega arith) g (after t n σ)

-- an item that stood on an edge stands before the input that the edge leads to
pub solve_stored : (ss : List Spot) (ns : List Node) (k i : ℕ) (d s : Spot) (w : ℕ) (x : Item) → k < length ss → Reads w k i ns → Stored (slice_index_or ss k d) s i x
    → (σ : Ports) → solve_spots (before_at w x σ) ss ns ≡ before_at w x (solve_spots σ (slice_set ss k s) ns)
solve_stored [] ns k i d s w x lt f g σ = absurd (omega arith)
solve_stored (t ∷ ss) [] k i d s w x lt f g σ = absurd f
solve_stored (t ∷ ss) (n ∷ ns) zero i d s w x lt f g σ = ap (λ (τ : Ports). solve_spots τ ss ns) (g.after_is n w f.0 f.1 σ) ∙ solve_untouched ss ns w x
    (after s n σ) f.2
solve_stored (t ∷ ss) (n ∷ ns) (suc k) i d s w x lt f g σ = ap (λ (τ : Ports). solve_spots τ ss ns) (after_untouched t n w x σ f.0) ∙ solve_stored ss ns k i d s w x
    (omega arith) f.1 g (after t n σ)

-- as many outputs as edges that leave it
abbrev pub OutsFit : Spot → Node → Type 0
OutsFit s n = length n.outs.items ≡ length s.view.outs

-- an output gave an item, on an edge that no filter reads
pub solve_gave : (ss : List Spot) (ns : List Node) (j q : ℕ) (d s : Spot) (m : Node) (w : ℕ) (x : Item) → j < length ss → Leaves w j q ns
    → OutsFit (slice_index_or ss j d) (slice_index_or ns j m) → Pulled (slice_index_or ss j d) s q x
    → (σ : Ports) → solve_spots σ ss ns ≡ before_at w x (solve_spots σ (slice_set ss j s) ns)
solve_gave [] ns j q d s m w x lt f l g σ = absurd (omega arith)
solve_gave (t ∷ ss) [] j q d s m w x lt f l g σ = absurd f
solve_gave (t ∷ ss) (n ∷ ns) zero q d s m w x lt f l g σ = ap (λ (τ : Ports). solve_spots τ ss ns) (g.after_is n w f.0 l σ) ∙ solve_untouched ss ns w x
    (after s n σ) f.2
solve_gave (t ∷ ss) (n ∷ ns) (suc j) q d s m w x lt f l g σ = solve_gave ss ns j q d s m w x (omega arith) f.1 l g (after t n σ)

-- an item goes from an output to before the input that its edge leads to
pub solve_drawn : (ss : List Spot) (ns : List Node) (j q k i : ℕ) (d s e t : Spot) (m : Node) (w : ℕ) (x : Item) → k < length ss → Leads w j q k i ns
    → OutsFit (slice_index_or ss j d) (slice_index_or ns j m) → Pulled (slice_index_or ss j d) s q x → Stored (slice_index_or ss k e) t i x
    → (σ : Ports) → solve_spots σ ss ns ≡ before_at w x (solve_spots σ (slice_set (slice_set ss j s) k t) ns)
solve_drawn [] ns j q k i d s e t m w x lt f l g h σ = absurd (omega arith)
solve_drawn (r ∷ ss) [] j q k i d s e t m w x lt f l g h σ = absurd f
solve_drawn (r ∷ ss) (n ∷ ns) j q zero i d s e t m w x lt f l g h σ = absurd f
solve_drawn (r ∷ ss) (n ∷ ns) zero q (suc k) i d s e t m w x lt f l g h σ = ap (λ (τ : Ports). solve_spots τ ss ns) (g.after_is n w f.1 l σ)
    ∙ solve_stored ss ns k i e t w x (omega arith) f.2 h (after s n σ)
solve_drawn (r ∷ ss) (n ∷ ns) (suc j) q (suc k) i d s e t m w x lt f l g h σ = solve_drawn ss ns j q k i d s e t m w x (omega arith) f.1 l g h (after r n σ)

-- what is decided stays so ---------------------------------------------------------------------------------------

closed_behind : (x : Item) (t : Flow) → closes x ≡ false → IsClosed (before x t) → IsClosed t
closed_behind (Audio f) t e c = c
closed_behind (Video f) t e c = c
closed_behind (Packet f) t e c = c
closed_behind (Trailer f) t e c = c
closed_behind End t e c = cc
closed_behind Broken t e c = cc

there_before : (u v : View) (q : ℕ) → SamePorts u v → q < length v.outs → q < length u.outs
there_before u v q p lt = subst (λ (ls : List Lane). q < length ls) p.outs lt

decided_same : (u v : View) → Same u v → IsDecided u → IsDecided v
decided_same u v s d ext q lt on going =
    subst IsClosed (sym (s.rest ext q (sym (s.stopped q) ∙ on))) (d ext q (there_before u v q s.ports lt) (sym (s.stopped q) ∙ on) (sym (s.ended q) ∙ going))

decided_fed : (u v : View) (p : ℕ) (x : Item) → Fed u v p x → IsDecided u → IsDecided v
decided_fed u v p x s d ext q lt on going =
    subst IsClosed (sym (s.rest ext q (sym (s.stopped q) ∙ on)))
    (d (before_at p x ext) q (there_before u v q s.ports lt) (sym (s.stopped q) ∙ on) (sym (s.ended q) ∙ going))

decided_gave : (u v : View) (q : ℕ) (x : Item) → Gave u v q x → IsDecided u → IsDecided v
decided_gave u v q x g d ext o lt on going = elim (cases_eq o q) as (λ _. IsClosed (v.rest ext o)) [
  | inl same ↦ (
      let more : closes x ≡ false = sym g.ended_here ∙ (ap v.ended (sym same) ∙ going) in
      let all : IsClosed (u.rest ext q) = d ext q (there_before u v q g.ports (subst (λ (n : ℕ). n < length v.outs) same lt))
      (sym (g.stopped q) ∙ (ap v.stopped (sym same) ∙ on)) g.open_before in
      subst (λ (n : ℕ). IsClosed (v.rest ext n)) (sym same) (closed_behind x (v.rest ext q) more (subst IsClosed (g.rest_here ext) all))
      )
  | inr other ↦ (
      let olt = there_before u v o g.ports lt in
      let want : u.stopped o ≡ false = sym (g.stopped o) ∙ on in
      subst IsClosed (sym (g.rest_others ext o olt other want)) (d ext o olt want (sym (g.ended_others o olt other) ∙ going))
      )
]

pub decided_stopped : (u v : View) (q : ℕ) → Stopped u v q → IsDecided u → IsDecided v
decided_stopped u v q g d ext o lt on going = elim (cases_eq o q) as (λ _. IsClosed (v.rest ext o)) [
  | inl same ↦ absurd (true≢false (sym g.stopped_here ∙ (ap v.stopped (sym same) ∙ on)))
  | inr other ↦ (
      let olt = there_before u v o g.ports lt in
      let want : u.stopped o ≡ false = sym (g.stopped_others o olt other) ∙ on in
      subst IsClosed (sym (g.rest_others ext o olt other want)) (d ext o olt want (sym (g.ended o) ∙ going))
      )
]

pub not_false : (b : Bool) → not b ≡ false → b ≡ true
not_false true e = refl
not_false false e = cc

pub decided_spent : (v : View) (p : ℕ) → Grows v.rest → v.shut p ≡ false → IsSpent v p → IsDecided v
decided_spent v p gr unshut (inl e) = absurd (true≢false (sym e ∙ unshut))
decided_spent v p gr unshut (inr h) = λ ext q lt on going. elim (h.1 q lt on) as (λ _. IsClosed (v.rest ext q)) [
  | inl e ↦ absurd (true≢false (sym e ∙ going))
  | inr c ↦ closed_above (v.rest silence q) (v.rest ext q) (gr silence ext (λ i. nothing_below (ext i)) q) c
]

-- what each call does to a filter in its place ------------------------------------------------------------------

or_none : (b : Bool) → (b || false) ≡ b
or_none true = refl
or_none false = refl

pub held_set : (hs : List (Option Item)) (i : ℕ) (h : Option Item) → i < length hs → held_at (slice_set hs i h) i ≡ h
held_set [] i h lt = absurd (omega arith)
held_set (k ∷ hs) zero h lt = refl
held_set (k ∷ hs) (suc i) h lt = held_set hs i h (omega arith)

pub held_kept : (hs : List (Option Item)) (i : ℕ) (h : Option Item) (p : ℕ) → p ≢ i → held_at (slice_set hs i h) p ≡ held_at hs p
held_kept [] i h p n = refl
held_kept (k ∷ hs) zero h zero n = absurd (n refl)
held_kept (k ∷ hs) zero h (suc p) n = refl
held_kept (k ∷ hs) (suc i) h zero n = refl
held_kept (k ∷ hs) (suc i) h (suc p) n = held_kept hs i h p (λ e. n (ap (λ (m : ℕ). suc m) e))

pub held_size : (hs : List (Option Item)) (i : ℕ) (h : Option Item) → length (slice_set hs i h) ≡ length hs
held_size [] i h = refl
held_size (k ∷ hs) zero h = refl
held_size (k ∷ hs) (suc i) h = ap (λ (m : ℕ). suc m) (held_size hs i h)

-- what waits at one input, and what comes behind it
held_first : (hs ks : List (Option Item)) (i : ℕ) (x : Item) (r : Ports) → held_at hs i ≡ Some x → held_at ks i ≡ None → ((p : ℕ) → p ≢ i → held_at ks p ≡ held_at hs p)
    → (p : ℕ) → before_at i x (λ p. after_held (held_at ks p) (r p)) p ≡ after_held (held_at hs p) (r p)
held_first hs ks i x r h k o p = at (p == i) refl
  where
    at : (b : Bool) → (p == i) ≡ b → before_if b x (after_held (held_at ks p) (r p)) ≡ after_held (held_at hs p) (r p)
    at true e = let same : p ≡ i = grind (arith, nat_tests) in rw (same, h, k) refl
    at false e = let other : p ≢ i = grind (arith, nat_tests) in ap (λ (m : Option Item). after_held m (r p)) (o p other)

-- an item is fed that waited there
pub delivered : (s : Spot) (v : View) (hs : List (Option Item)) (i : ℕ) (x : Item) → held_at s.held i ≡ Some x → s.view.shut i ≡ false → held_at hs i ≡ None
    → length hs ≡ length s.held → ((p : ℕ) → p ≢ i → held_at hs p ≡ held_at s.held p)
    → Fed s.view v i x → Delivered s (record { view = v; held = hs }) i
delivered s v hs i x h open_before k z o f = record {
  alike = record {
    ports = f.ports;
    size = z;
    gives_is = same;
    shut = λ p lt. shuts p lt (p == i) refl;
    ended = f.ended;
    stopped = f.stopped;
    decided = decided_fed s.view v i x f;
  };
  held_here = k;
  held_others = o;
  fed_others = f.shut_others;
}
  where
    same : (n : Node) (σ : Ports) (q : ℕ) → gives (record { view = v; held = hs }) n σ q ≡ gives s n σ q
    same n σ q = at (s.view.stopped q) refl
      where
        at : (b : Bool) → s.view.stopped q ≡ b → gives (record { view = v; held = hs }) n σ q ≡ gives s n σ q
        at true e = rw (f.stopped q, e) refl
        at false e =
            let c : before_at i x (λ p. after_held (held_at hs p) (reads n.ins.items σ p)) ≡ comes s n σ = λ j p. held_first s.held hs i x (reads n.ins.items σ) h k o p
            j in
            rw (f.stopped q, e) (f.rest (λ p. after_held (held_at hs p) (reads n.ins.items σ p)) q e ∙ ap (λ (r : Ports). s.view.rest r q) c)

    shuts : (p : ℕ) → p < length s.view.ins → (b : Bool) → (p == i) ≡ b → spot_shut (record { view = v; held = hs }) p ≡ spot_shut s p
    shuts p lt true e = let is : p ≡ i = grind (arith, nat_tests) in rw (is, h, k, f.shut_here, open_before) (or_none (closes x))
    shuts p lt false e = let other : p ≢ i = grind (arith, nat_tests) in rw (f.shut_others p lt other, o p other) refl

-- the same waits, and the filter is as it was
pub kept : (s : Spot) (v : View) (hs : List (Option Item)) → Same s.view v → length hs ≡ length s.held → ((p : ℕ) → held_at hs p ≡ held_at s.held p)
    → Kept s (record { view = v; held = hs })
kept s v hs e z h = record {
  alike = record { ports = e.ports; size = z; gives_is = same; shut = λ p lt. shuts p; ended = e.ended; stopped = e.stopped; decided = decided_same s.view v e };
  held = h;
  rest = e.rest;
  fed = e.shut;
}
  where
    shuts : (p : ℕ) → spot_shut (record { view = v; held = hs }) p ≡ spot_shut s p
    shuts p = ap (λ (b : Bool). b || held_closes (held_at hs p)) (e.shut p) ∙ ap (λ (m : Option Item). s.view.shut p || held_closes m) (h p)

    same : (n : Node) (σ : Ports) (q : ℕ) → gives (record { view = v; held = hs }) n σ q ≡ gives s n σ q
    same n σ q = at (s.view.stopped q) refl
      where
        at : (b : Bool) → s.view.stopped q ≡ b → gives (record { view = v; held = hs }) n σ q ≡ gives s n σ q
        at true o = rw (e.stopped q, o) refl
        at false o =
            let c : (λ (p : ℕ). after_held (held_at hs p) (reads n.ins.items σ p)) ≡ comes s n σ = λ j p. after_held (h p j) (reads n.ins.items σ p) in
            rw (e.stopped q, o) (e.rest (λ p. after_held (held_at hs p) (reads n.ins.items σ p)) q o ∙ ap (λ (r : Ports). s.view.rest r q) c)

pub kept_empty : (s t : Spot) (i : ℕ) → held_at s.held i ≡ None → Kept s t → Delivered s t i
kept_empty s t i e k = record { alike = k.alike; held_here = k.held i ∙ e; held_others = λ p n. k.held p; fed_others = λ p lt n. k.fed p }

pub kept_self : (s : Spot) → Kept s s
kept_self s = record {
  alike = record {
    ports = record { ins = refl; outs = refl };
    size = refl;
    gives_is = λ n σ q. refl;
    shut = λ p lt. refl;
    ended = λ q. refl;
    stopped = λ q. refl;
    decided = λ d. d;
  };
  held = λ p. refl;
  rest = λ ext q o. refl;
  fed = λ p. refl;
}

-- an item is put before an input
pub stored : (s : Spot) (i : ℕ) (x : Item) → i < length s.held → held_at s.held i ≡ None → Stored s (record { view = s.view; held = slice_set s.held i (Some x) }) i x
stored s i x lt e = record {
  ports = record { ins = refl; outs = refl };
  size = held_size s.held i (Some x);
  after_is = there;
  shut_here = rw (held_set s.held i (Some x) lt, e, or_none (s.view.shut i)) refl;
  shut_others = λ p n. rw (held_kept s.held i (Some x) p n) refl;
  held_here = held_set s.held i (Some x) lt;
  held_others = held_kept s.held i (Some x);
  view = refl;
}
  where
    comes_at : (n : Node) (w : ℕ) (σ : Ports) → StandsAt w i n.ins.items → (p : ℕ) → comes s n (before_at w x σ) p ≡ after_held
        (held_at (slice_set s.held i (Some x)) p) (reads n.ins.items σ p)
    comes_at n w σ f p = ap (λ (r : Flow). after_held (held_at s.held p) r) (reads_at n.ins.items w i x σ f p) ∙ at (p == i) refl
      where
        at : (b : Bool) → (p == i) ≡ b → after_held (held_at s.held p) (before_if (p == i) x (reads n.ins.items σ p)) ≡ after_held
            (held_at (slice_set s.held i (Some x)) p) (reads n.ins.items σ p)
        at true b = let is : p ≡ i = grind (arith, nat_tests) in rw (b, is, held_set s.held i (Some x) lt, e) refl
        at false b = let other : p ≢ i = grind (arith, nat_tests) in rw (b, held_kept s.held i (Some x) p other) refl

    there : (n : Node) (w : ℕ) → StandsAt w i n.ins.items → Free w n.outs.items → (σ : Ports) → after s n (before_at w x σ) ≡ before_at w x
        (after (record { view = s.view; held = slice_set s.held i (Some x) }) n σ)
    there n w f o σ =
        let c : comes s n (before_at w x σ) ≡ comes (record { view = s.view; held = slice_set s.held i (Some x) }) n σ = λ j p. comes_at n w σ f p j in
        let g : gives s n (before_at w x σ) ≡ gives (record { view = s.view; held = slice_set s.held i (Some x) }) n σ = λ j q. cond (s.view.stopped q) nothing
        (s.view.rest (c j) q) in
        ap (λ (g : Ports). put_all n.outs.items g (before_at w x σ)) g
        ∙ (λ j u. puts_free n.outs.items w x (gives (record { view = s.view; held = slice_set s.held i (Some x) }) n σ) σ o u j)

-- an item is given
pub pulled : (s : Spot) (v : View) (q : ℕ) (x : Item) → s.view.stopped q ≡ false → Gave s.view v q x → Pulled s (record { view = v; held = s.held }) q x
pulled s v q x w g = record {
  ports = g.ports;
  held = refl;
  after_is = there;
  fed = g.shut;
  open_before = g.open_before;
  ended_here = g.ended_here;
  ended_others = g.ended_others;
  stopped = g.stopped;
  decided = decided_gave s.view v q x g;
}
  where
    others : (n : Node) (σ : Ports) (o : ℕ) → o < length s.view.outs → o ≢ q → (b : Bool) → s.view.stopped o ≡ b → gives s n σ o ≡ gives
        (record { view = v; held = s.held }) n σ o
    others n σ o lt m true e = rw (g.stopped o, e) refl
    others n σ o lt m false e = rw (g.stopped o, e) (sym (g.rest_others (comes s n σ) o lt m e))

    there : (n : Node) (u : ℕ) → StandsAt u q n.outs.items → length n.outs.items ≡ length s.view.outs → (σ : Ports) → after s n σ ≡ before_at u x
        (after (record { view = v; held = s.held }) n σ)
    there n u f z σ =
        let here : gives s n σ q ≡ before x (gives (record { view = v; held = s.held }) n σ q) = rw (g.stopped q, w) (g.rest_here (comes s n σ)) in
        λ j e. puts_gave n.outs.items u q x (gives s n σ) (gives (record { view = v; held = s.held }) n σ) σ f here (λ o lt m. others n σ o (omega (arith, z, lt)) m
        (s.view.stopped o) refl) e j

-- what waits at an input, read from the vector
pub held_is : (hs : List (Option Item)) (i : ℕ) (d h : Option Item) → i < length hs → h ≡ slice_index_or hs i d → held_at hs i ≡ h
held_is [] i d h lt e = absurd (omega arith)
held_is (k ∷ hs) zero d h lt e = sym e
held_is (k ∷ hs) (suc i) d h lt e = held_is hs i d h (omega arith) e

pub none_of : (h : Option Item) → is_some h ≡ false → h ≡ None
none_of None e = refl
none_of (Some x) e = cc

-- an input where nothing waited
pub let_go : (hs : List (Option Item)) (i : ℕ) (h : Option Item) → i < length hs → held_at hs i ≡ None → h ≡ None → (p : ℕ) → held_at (slice_set hs i h) p ≡ held_at hs
    p
let_go hs i h lt e n p = at (p == i) refl
  where
    at : (b : Bool) → (p == i) ≡ b → held_at (slice_set hs i h) p ≡ held_at hs p
    at true b = let is : p ≡ i = grind (arith, nat_tests) in rw (is, held_set hs i h lt, e) n
    at false b = let other : p ≢ i = grind (arith, nat_tests) in held_kept hs i h p other

-- what was taken comes back
pub put_back : (hs : List (Option Item)) (i : ℕ) (h k : Option Item) → i < length hs → held_at hs i ≡ k → (p : ℕ) → held_at (slice_set (slice_set hs i h) i k) p ≡
    held_at hs p
put_back hs i h k lt e p = at (p == i) refl
  where
    at : (b : Bool) → (p == i) ≡ b → held_at (slice_set (slice_set hs i h) i k) p ≡ held_at hs p
    at true b = let is : p ≡ i = grind (arith, nat_tests) in rw is (held_set (slice_set hs i h) i k (omega (arith, held_size hs i h, lt)) ∙ sym e)
    at false b = let other : p ≢ i = grind (arith, nat_tests) in held_kept (slice_set hs i h) i k p other ∙ held_kept hs i h p other

pub kept_or : (s : Spot) (v : View) (r : Result (Option Item) AllocError) → OnErr r (Same s.view v) → OnErr r (Kept s (record { view = v; held = s.held }))
kept_or s v (Ok x) e = tt
kept_or s v (Err x) e = kept s v s.held e refl (λ p. refl)

-- filters that give the same
pub solve_alike : (ss ts : List Spot) (ns : List Node) → length ts ≡ length ss → ((k : ℕ) (d e : Spot) → k < length ss → (n : Node) (σ : Ports) (q : ℕ)
    → gives (slice_index_or ts k e) n σ q ≡ gives (slice_index_or ss k d) n σ q) → (σ : Ports) → solve_spots σ ts ns ≡ solve_spots σ ss ns
solve_alike [] [] ns z h σ = refl
solve_alike [] (t ∷ ts) ns z h σ = absurd (omega (arith, z))
solve_alike (s ∷ ss) [] ns z h σ = absurd (omega (arith, z))
solve_alike (s ∷ ss) (t ∷ ts) [] z h σ = refl
solve_alike (s ∷ ss) (t ∷ ts) (n ∷ ns) z h σ =
    let g : gives t n σ ≡ gives s n σ = λ j q. h 0 s t (omega arith) n σ q j in
    ap (λ (g : Ports). solve_spots (put_all n.outs.items g σ) ts ns) g ∙ solve_alike ss ts ns (omega (arith, z)) (λ k d e lt. h (suc k) d e (omega arith)) (after s n σ)
