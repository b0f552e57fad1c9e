-- The trailing time, stream by stream, and for whom the streams ask.
use Rattle.std.proofs.Common.{◌≡◌, ◌≢◌, ℕ, zero, suc, ◌+◌, ◌-◌, ◌*◌, ◌%◌, ◌^◌, ◌<◌, ◌≤◌, ◌⊎◌, inl, inr, ⊎_elim, Bool, true, false, true≢false, not, ◌||◌, List, [], ◌∷◌, length, Option, Some, None, IfSome, IsNone, slice_get, nat_eq, bit_or, w16, if◌then◌else◌, nat_lt, sym, refl, ap, ◌∙◌, subst, arith}
use borrow.Author.Tests.{ltb-true, lt-ltb, eqb-true, eqb-false}
use Rattle.std.proofs.lemmas.Nat.Bits.{bit_at_set_same, bit_at_set_other, bit_at-zero}
use Rattle.ff_sched.specs.Bits.{mark_at}
use Rattle.std.proofs.lemmas.Bool.Decides.{nat_tests}
use Rattle.ff_sched.specs.declared.routes.Way.{Way}
use Rattle.ff_sched.specs.declared.routes.Way.TheVariants.{Source, Graph}
use Rattle.ff_sched.specs.declared.routes.Routes.{Routes}
use Rattle.ff_sched.specs.State.{State, last_at, finished_at, exited_at, best_at}
use Rattle.ff_sched.specs.laws.Routes.{AreRoutes}
use Rattle.ff_sched.specs.Ways.{way_in}
use Rattle.ff_sched.specs.Unchoked.{GoesOn, IsTrailing, Asks, AsksFor, IsAskedFor, NoneIsLeft, Unchokes, asks_by, asks_with, is_behind, source_within, if_there, asked_in}

the_some : {X : Type 0} → X → Option X → X
the_some d None = d
the_some d (Some z) = z

is_nothing : {X : Type 0} → Option X → Bool
is_nothing None = true
is_nothing (Some z) = false

pub some_is : {X : Type 0} (x y : X) → Some x ≡ Some y → x ≡ y
unfolding the_some
some_is x y e = ap (the_some x) e

pub none_some : {X : Type 0} (x : X) → None ≡ Some x → ⊥
unfolding is_nothing
none_some x e = true≢false (ap is_nothing e)

lt_true : (a b : ℕ) → nat_lt a b ≡ true → a < b
lt_true a b e = ltb-true a b e

true_lt : (a b : ℕ) → a < b → nat_lt a b ≡ true
true_lt a b lt = lt-ltb a b lt

false_lt : (a b : ℕ) → nat_lt a b ≡ false → b ≤ a
false_lt a b e = grind (arith, nat_tests, e)

pub get_past : {X : Type 0} (xs : List X) (i : ℕ) → length xs ≤ i → slice_get xs i ≡ None
get_past [] i le = refl
get_past (x ∷ xs) zero le = absurd (omega arith)
get_past (x ∷ xs) (suc i) le = get_past xs i (omega arith)

-- of the streams below n, the least last time of those that go on, all of which have one
abbrev pub LeastBelow : Routes → State → ℕ → Option ℕ → Type 0
LeastBelow r s n None = (j : ℕ) → j < n → GoesOn r s j → ⊥
LeastBelow r s n (Some t) = ((j : ℕ) × (j < n) × GoesOn r s j × (last_at s j ≡ Some t)) × ((j : ℕ) → j < n → GoesOn r s j → (u : ℕ) × (last_at s j ≡ Some u) × (t ≤ u))

below_next : (j n : ℕ) → j < n + 1 → (j < n) ⊎ (j ≡ n)
below_next j n lt = split (nat_lt j n) refl
  where
    split : (b : Bool) → nat_lt j n ≡ b → (j < n) ⊎ (j ≡ n)
    split true e = inl (lt_true j n e)
    split false e = inr (let le = false_lt j n e in omega arith)

pub least_none : (r : Routes) (s : State) → LeastBelow r s 0 None
least_none r s j lt on = omega arith

pub least_skips : (r : Routes) (s : State) (n : ℕ) (o : Option ℕ) → LeastBelow r s n o → finished_at s n ≡ true → LeastBelow r s (n + 1) o
least_skips r s n None l f = λ j lt on. ⊎_elim (λ b. l j b on) (λ e. true≢false (sym f ∙ ap (finished_at s) (sym e) ∙ on.1)) (below_next j n lt)
least_skips r s n (Some t) l f = (
  (l.0.0, omega arith, l.0.2, l.0.3),
  λ j lt on. ⊎_elim (λ b. l.1 j b on) (λ e. absurd (true≢false (sym f ∙ ap (finished_at s) (sym e) ∙ on.1))) (below_next j n lt),
)

-- one more stream that goes on and has a time
pub least_adds : (r : Routes) (s : State) (n : ℕ) (o : Option ℕ) (t v : ℕ) → LeastBelow r s n o → GoesOn r s n → last_at s n ≡ Some t
    → ((u : ℕ) → o ≡ Some u → (v ≤ u) × (v ≤ t) × ((v ≡ u) ⊎ (v ≡ t))) → (o ≡ None → v ≡ t) → LeastBelow r s (n + 1) (Some v)
least_adds r s n None t v l on at some none = let e = none refl in (
  (n, omega arith, on, at ∙ ap Some (sym e)),
  λ j lt on'. ⊎_elim (λ b. absurd (l j b on')) (λ q. (t, ap (last_at s) q ∙ at, omega (arith, e))) (below_next j n lt),
)
least_adds r s n (Some u) t v l on at some none = let w = some u refl in (
  ⊎_elim (λ e. (l.0.0, omega arith, l.0.2, l.0.3 ∙ ap Some (sym e))) (λ e. (n, omega arith, on, at ∙ ap Some (sym e))) w.2,
  λ j lt on'. ⊎_elim (λ b. let k = l.1 j b on' in (k.0, k.1, omega (arith, w.0, k.2))) (λ q. (t, ap (last_at s) q ∙ at, w.1)) (below_next j n lt),
)

pub least_is : (r : Routes) (s : State) (n t : ℕ) → n ≡ length r.streams → LeastBelow r s n (Some t) → IsTrailing r s t
least_is r s n t e l = record { stream = l.0.0; goes_on = l.0.2; last_is = l.0.3; least = λ j on. l.1 j (omega (arith, e, on.0)) on }

pub none_is : (r : Routes) (s : State) (n : ℕ) → n ≡ length r.streams → LeastBelow r s n None → (t : ℕ) → IsTrailing r s t → ⊥
none_is r s n e l t is = l is.stream (omega (arith, e, is.goes_on.0)) is.goes_on

pub unsent_none : (r : Routes) (s : State) (j : ℕ) → GoesOn r s j → last_at s j ≡ None → (t : ℕ) → IsTrailing r s t → ⊥
unsent_none r s j on at t is = let l = is.least j on in none_some l.0 (sym at ∙ l.1)

-- the trailing time, or that there is none
pub record IsFound (r : Routes) (s : State) (found : Option ℕ) : Type 0 where
  pub some : (t : ℕ) → found ≡ Some t → IsTrailing r s t
  pub none : found ≡ None → (t : ℕ) → IsTrailing r s t → ⊥

same_trailing : (r : Routes) (s : State) (t u : ℕ) → IsTrailing r s t → IsTrailing r s u → t ≤ u
same_trailing r s t u a b = let l = a.least b.stream b.goes_on in let e = some_is l.0 u (sym l.1 ∙ b.last_is) in omega (arith, l.2, e)

behind_sound : (r : Routes) (s : State) (found : Option ℕ) (j u : ℕ) → IsFound r s found → GoesOn r s j → last_at s j ≡ Some u → is_behind found u ≡ true → Asks r s j
behind_sound r s None j u f on at e = absurd (true≢false (sym e))
behind_sound r s (Some t) j u f on at e = (on, inr (t, u, f.some t refl, at, lt_true u (t + 100000) e))

behind_complete : (r : Routes) (s : State) (found : Option ℕ) (t u : ℕ) → IsFound r s found → IsTrailing r s t → u < t + 100000 → is_behind found u ≡ true
behind_complete r s None t u f is lt = absurd (f.none refl t is)
behind_complete r s (Some v) t u f is lt = let a = same_trailing r s t v is (f.some v refl) in true_lt u (v + 100000) (omega (arith, a, lt))

asks_last : (r : Routes) (s : State) (found : Option ℕ) (j : ℕ) (o : Option ℕ) → IsFound r s found → GoesOn r s j → last_at s j ≡ o → asks_with found o ≡ true → Asks r s j
asks_last r s found j None f on at e = (on, inl at)
asks_last r s found j (Some u) f on at e = behind_sound r s found j u f on at e

pub asks_sound : (r : Routes) (s : State) (found : Option ℕ) (j : ℕ) → IsFound r s found → j < length r.streams → asks_by s found j ≡ true → Asks r s j
asks_sound r s found j f lt e = split (finished_at s j) refl e
  where
    split : (b : Bool) → finished_at s j ≡ b → (if b then false else asks_with found (last_at s j)) ≡ true → Asks r s j
    split true is q = absurd (true≢false (sym q))
    split false is q = asks_last r s found j (last_at s j) f (lt, is) refl q

pub asks_complete : (r : Routes) (s : State) (found : Option ℕ) (j : ℕ) → IsFound r s found → Asks r s j → asks_by s found j ≡ true
asks_complete r s found j f a = ap (λ b. if b then false else asks_with found (last_at s j)) a.0.1
    ∙ ⊎_elim (λ e. ap (asks_with found) e) (λ (x : (t : ℕ) × (u : ℕ) × IsTrailing r s t × (last_at s j ≡ Some u) × (u < t + 100000)). ap (asks_with found) x.3 ∙ behind_complete r s found x.0 x.1 f x.2 x.4) a.1

pub asked_sound : (r : Routes) (s : State) (found : Option ℕ) (j k : ℕ) → IsFound r s found → j < length r.streams → asked_in r s found j ≡ Some k → AsksFor r s j k
asked_sound r s found j k f lt e = split (asks_by s found j) refl e
  where
    split : (b : Bool) → asks_by s found j ≡ b → (if b then if_there (source_within r s 16) (slice_get r.streams j) else None) ≡ Some k → AsksFor r s j k
    split true is q = (asks_sound r s found j f lt is, q)
    split false is q = absurd (none_some k q)

pub asked_complete : (r : Routes) (s : State) (found : Option ℕ) (j k : ℕ) → IsFound r s found → AsksFor r s j k → asked_in r s found j ≡ Some k
asked_complete r s found j k f a = ap (λ b. if b then if_there (source_within r s 16) (slice_get r.streams j) else None) (asks_complete r s found j f a.0) ∙ a.1

-- of the streams below n none asks for this source, and whether one asks for another that hasn't exited
pub record Sought (r : Routes) (s : State) (source n : ℕ) (another : Bool) : Type 0 where
  pub not_this : (j : ℕ) → j < n → AsksFor r s j source → ⊥
  pub some : another ≡ true → (k : ℕ) × IsAskedFor r s k × (exited_at s k ≡ false)
  pub none : another ≡ false → (j k : ℕ) → j < n → AsksFor r s j k → exited_at s k ≡ true

pub sought_none : (r : Routes) (s : State) (source : ℕ) → Sought r s source 0 false
sought_none r s source = record { not_this = λ j lt a. omega arith; some = λ e. absurd (true≢false (sym e)); none = λ e j k lt a. absurd (omega arith) }

-- one more stream, which asks for none
pub sought_skips : (r : Routes) (s : State) (found : Option ℕ) (source n : ℕ) (another : Bool) → IsFound r s found → asked_in r s found n ≡ None → Sought r s source n another → Sought r s source (n + 1) another
sought_skips r s found source n another f e w = record {
  not_this = λ j lt a. ⊎_elim (λ b. w.not_this j b a) (λ q. none_some source (sym e ∙ ap (asked_in r s found) (sym q) ∙ asked_complete r s found j source f a)) (below_next j n lt);
  some = w.some;
  none = λ x j k lt a. ⊎_elim (λ b. w.none x j k b a) (λ q. absurd (none_some k (sym e ∙ ap (asked_in r s found) (sym q) ∙ asked_complete r s found j k f a))) (below_next j n lt);
}

or_true : (a b : Bool) → (a || b) ≡ true → (a ≡ true) ⊎ (b ≡ true)
or_true true b e = inl refl
or_true false b e = inr e

or_left : (a b : Bool) → (a || b) ≡ false → a ≡ false
or_left true b e = absurd (true≢false e)
or_left false b e = refl

or_right : (a b : Bool) → (a || b) ≡ false → b ≡ false
or_right true b e = absurd (true≢false e)
or_right false b e = e

not_true : (a : Bool) → not a ≡ true → a ≡ false
not_true true e = absurd (true≢false (sym e))
not_true false e = refl

not_false : (a : Bool) → not a ≡ false → a ≡ true
not_false true e = refl
not_false false e = absurd (true≢false e)

-- one more stream, which asks for another source
pub sought_adds : (r : Routes) (s : State) (found : Option ℕ) (source n k : ℕ) (another : Bool) → IsFound r s found → n < length r.streams → asked_in r s found n ≡ Some k → k ≢ source → Sought r s source n another
    → Sought r s source (n + 1) (another || not (exited_at s k))
sought_adds r s found source n k another f lt e ne w =
    let mine = asked_sound r s found n k f lt e in
    let only : (j i : ℕ) → j ≡ n → AsksFor r s j i → k ≡ i = λ j i q a. some_is k i (sym e ∙ ap (asked_in r s found) (sym q) ∙ asked_complete r s found j i f a) in record {
      not_this = λ j lt' a. ⊎_elim (λ b. w.not_this j b a) (λ q. ne (only j source q a)) (below_next j n lt');
      some = λ x. ⊎_elim w.some (λ y. (k, (n, mine), not_true (exited_at s k) y)) (or_true another (not (exited_at s k)) x);
      none = λ x j i lt' a. ⊎_elim (λ b. w.none (or_left another (not (exited_at s k)) x) j i b a) (λ q. ap (exited_at s) (sym (only j i q a)) ∙ not_false (exited_at s k) (or_right another (not (exited_at s k)) x)) (below_next j n lt');
    }

pub not_asked : (r : Routes) (s : State) (source n : ℕ) (another : Bool) → n ≡ length r.streams → Sought r s source n another → IsAskedFor r s source → ⊥
not_asked r s source n another e w a = w.not_this a.0 (omega (arith, e, a.1.0.0.0)) a.1

pub some_left : (r : Routes) (s : State) (source n : ℕ) → Sought r s source n true → NoneIsLeft r s → ⊥
some_left r s source n w none = let k = w.some refl in true≢false (sym (none k.0 k.1) ∙ k.2)

pub none_left : (r : Routes) (s : State) (source n : ℕ) → n ≡ length r.streams → Sought r s source n false → NoneIsLeft r s
none_left r s source n e w k a = w.none refl a.0 k (omega (arith, e, a.1.0.0.0)) a.1

-- a walk from a way has come to another through n graphs, and nothing is lost
pub record Walks (r : Routes) (s : State) (start : Way) (n : ℕ) (way : Way) : Type 0 where
  pub leads : n ≤ 16 → source_within r s 16 start ≡ source_within r s (16 - n) way
  pub ends : 17 ≤ n → source_within r s 16 start ≡ None

pub walk_begins : (r : Routes) (s : State) (start : Way) → Walks r s start 0 start
walk_begins r s start = record { leads = λ le. refl; ends = λ le. absurd (omega arith) }

through : (r : Routes) (s : State) (m k g : ℕ) (o : Option Way) → m ≡ suc k → way_in r.graphs g (best_at s g) ≡ o → source_within r s m (Graph g) ≡ if_there (source_within r s k) o
through r s m k g o e w = ap (λ x. source_within r s x (Graph g)) e ∙ ap (if_there (source_within r s k)) w

stops : (r : Routes) (s : State) (m g : ℕ) → m ≡ 0 → source_within r s m (Graph g) ≡ None
stops r s m g e = ap (λ x. source_within r s x (Graph g)) e

pub walk_on : (r : Routes) (s : State) (start : Way) (n g : ℕ) (next : Way) → n < 17 → Walks r s start n (Graph g) → way_in r.graphs g (best_at s g) ≡ Some next → Walks r s start (n + 1) next
walk_on r s start n g next lt w e = record {
  leads = λ le. w.leads (omega arith) ∙ through r s (16 - n) (16 - (n + 1)) g (Some next) (omega arith) e;
  ends = λ le. w.leads (omega arith) ∙ stops r s (16 - n) g (omega arith);
}

pub walk_ends : (r : Routes) (s : State) (start : Way) (n g : ℕ) → n < 17 → Walks r s start n (Graph g) → way_in r.graphs g (best_at s g) ≡ None → source_within r s 16 start ≡ None
walk_ends r s start n g lt w e = w.leads (omega arith) ∙ split (nat_lt n 16) refl
  where
    split : (b : Bool) → nat_lt n 16 ≡ b → source_within r s (16 - n) (Graph g) ≡ None
    split true q = through r s (16 - n) (16 - (n + 1)) g None (let b = lt_true n 16 q in omega arith) e
    split false q = stops r s (16 - n) g (let b = false_lt n 16 q in omega arith)

at_source : (r : Routes) (s : State) (n k : ℕ) → source_within r s n (Source k) ≡ (if nat_lt k r.sources then Some k else None)
at_source r s zero k = refl
at_source r s (suc n) k = refl

pub walk_source : (r : Routes) (s : State) (start : Way) (n k : ℕ) → n < 17 → Walks r s start n (Source k) → source_within r s 16 start ≡ (if nat_lt k r.sources then Some k else None)
walk_source r s start n k lt w = w.leads (omega arith) ∙ at_source r s (16 - n) k

if_range : (m k i : ℕ) → (if nat_lt k m then Some k else None) ≡ Some i → i < m
if_range m k i e = split (nat_lt k m) refl e
  where
    split : (b : Bool) → nat_lt k m ≡ b → (if b then Some k else None) ≡ Some i → i < m
    split true is q = let a = some_is k i q in let b = lt_true k m is in omega arith
    split false is q = absurd (none_some i q)

if_there_range : (r : Routes) (s : State) (n k : ℕ) → ((w : Way) → source_within r s n w ≡ Some k → k < r.sources) → (o : Option Way) → if_there (source_within r s n) o ≡ Some k → k < r.sources
if_there_range r s n k h None q = absurd (none_some k q)
if_there_range r s n k h (Some w) q = h w q

pub way_range : (r : Routes) (s : State) (n : ℕ) (way : Way) (k : ℕ) → source_within r s n way ≡ Some k → k < r.sources
way_range r s zero (Source i) k e = if_range r.sources i k e
way_range r s (suc n) (Source i) k e = if_range r.sources i k e
way_range r s zero (Graph g) k e = absurd (none_some k e)
way_range r s (suc n) (Graph g) k e = if_there_range r s n k (λ w q. way_range r s n w k q) (way_in r.graphs g (best_at s g)) e

pub in_range : (r : Routes) (s : State) (found : Option ℕ) (j k : ℕ) → asked_in r s found j ≡ Some k → k < r.sources
in_range r s found j k e = split (asks_by s found j) e
  where
    split : (b : Bool) → (if b then if_there (source_within r s 16) (slice_get r.streams j) else None) ≡ Some k → k < r.sources
    split true q = if_there_range r s 16 k (λ w x. way_range r s 16 w k x) (slice_get r.streams j) q
    split false q = absurd (none_some k q)

pub some_range : (r : Routes) (s : State) (way : Way) (o : Option ℕ) → AreRoutes r → o ≡ source_within r s 16 way → IfSome o (λ k. k < 16)
some_range r s way None are e = tt
some_range r s way (Some k) are e = let a = way_range r s 16 way k (sym e) in let b = are.sources in omega arith

pub found_some : (r : Routes) (s : State) (n : ℕ) (o : Option ℕ) → n ≡ length r.streams → LeastBelow r s n o → IfSome o (IsTrailing r s)
found_some r s n None e l = tt
found_some r s n (Some t) e l = least_is r s n t e l

pub found_none : (r : Routes) (s : State) (n : ℕ) (o : Option ℕ) → n ≡ length r.streams → LeastBelow r s n o → IsNone o → (t : ℕ) → IsTrailing r s t → ⊥
found_none r s n None e l none = none_is r s n e l
found_none r s n (Some t) e l none = absurd (true≢false none)

pub found_of : (r : Routes) (s : State) (o : Option ℕ) → IfSome o (IsTrailing r s) → (IsNone o → (t : ℕ) → IsTrailing r s t → ⊥) → IsFound r s o
found_of r s None some none = record { some = λ t e. absurd (none_some t e); none = λ e. none refl }
found_of r s (Some u) some none = record { some = λ t e. subst (IsTrailing r s) (some_is u t e) some; none = λ e. absurd (none_some u (sym e)) }

-- the sources below k that the state unchokes have their bits, and no others
pub record Marks (r : Routes) (s : State) (k bits : ℕ) : Type 0 where
  pub yes : (i : ℕ) → i < 16 → mark_at bits i ≡ true → Unchokes r s i
  pub no : (i : ℕ) → i < k → Unchokes r s i → mark_at bits i ≡ true

pub marks_none : (r : Routes) (s : State) → Marks r s 0 0
marks_none r s = record { yes = λ i lt e. absurd (true≢false (sym e ∙ ap (λ x. nat_eq x 1) (bit_at-zero i))); no = λ i lt u. absurd (omega arith) }

pub marks_skip : (r : Routes) (s : State) (k bits : ℕ) → Marks r s k bits → (Unchokes r s k → ⊥) → Marks r s (k + 1) bits
marks_skip r s k bits m choked = record { yes = m.yes; no = λ i lt u. ⊎_elim (λ b. m.no i b u) (λ e. absurd (choked (subst (Unchokes r s) e u))) (below_next i k lt) }

pub marks_add : (r : Routes) (s : State) (k bits : ℕ) → k < 16 → Marks r s k bits → Unchokes r s k → Marks r s (k + 1) (bit_or bits (1 * 2 ^ k % 2 ^ 16))
marks_add r s k bits lt m u =
    let new = bit_or bits (1 * 2 ^ k % 2 ^ 16) in
    let here : mark_at new k ≡ true = ap (λ x. nat_eq x 1) (bit_at_set_same w16 bits k lt) in
    let there : (i : ℕ) → i ≢ k → mark_at new i ≡ mark_at bits i = λ i ne. ap (λ x. nat_eq x 1) (bit_at_set_other w16 bits k lt i ne) in record {
      yes = λ i small e. split i (nat_eq i k) refl small e there;
      no = λ i b v. ⊎_elim (λ x. there i (λ q. omega arith) ∙ m.no i x v) (λ q. ap (mark_at new) q ∙ here) (below_next i k b);
    }
  where
    split : (i : ℕ) (b : Bool) → nat_eq i k ≡ b → i < 16 → mark_at (bit_or bits (1 * 2 ^ k % 2 ^ 16)) i ≡ true → ((j : ℕ) → j ≢ k → mark_at (bit_or bits (1 * 2 ^ k % 2 ^ 16)) j ≡ mark_at bits j) → Unchokes r s i
    split i true e small on others = subst (Unchokes r s) (sym (eqb-true i k e)) u
    split i false e small on others = m.yes i small (sym (others i (eqb-false i k e)) ∙ on)

pub marks_all : (r : Routes) (s : State) (k bits : ℕ) → AreRoutes r → k ≡ r.sources → Marks r s k bits → (i : ℕ) → i < 16 → (mark_at bits i ≡ true → Unchokes r s i) × (Unchokes r s i → mark_at bits i ≡ true)
marks_all r s k bits are e m i lt = (m.yes i lt, λ u. m.no i (let a = u.there in omega arith) u)
