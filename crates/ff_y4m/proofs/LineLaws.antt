-- First words and the ends of lines: what is decided is decided whatever follows.
use Rattle.std.proofs.Common.{◌≡◌, ◌≢◌, ℕ, zero, suc, ◌+◌, ◌-◌, ◌<◌, ◌≤◌, ◌⊎◌, inl, inr, Bool, true, false, cond, List, [], ◌∷◌, ◌++◌, drop, length, Option, Some, None, refl, sym, ap, ◌∙◌, subst, arith, get_or}
use Rattle.std.specs.Prelude.{◌==◌, ◌&&◌}
use Rattle.std.specs.Option.{option_map}
use Rattle.std.proofs.lemmas.List.{drop_all}
use Rattle.std.proofs.lemmas.Bool.Decides.{nat_tests}
use Rattle.ff_y4m.specs.Lines.{begins, line_end}

pub bool_cases : (b : Bool) → (b ≡ true) ⊎ (b ≡ false)
bool_cases true = inl refl
bool_cases false = inr refl

pub option_cases : {A : Type 0} (o : Option A) → (o ≡ None) ⊎ ((x : A) × (o ≡ Some x))
option_cases None = inl refl
option_cases (Some x) = inr (x, refl)

-- ---- words

and_false : (x y z : Bool) → (y ≡ false → z ≡ false) → (x && y) ≡ false → (x && z) ≡ false
and_false true y z h e = h e
and_false false y z h e = refl

pub and_parts : (x y : Bool) → (x && y) ≡ true → (x ≡ true) × (y ≡ true)
and_parts true y e = (refl, e)
and_parts false y e = cc

pub begins-append : (ws bs more : List ℕ) → begins ws bs ≡ false → begins ws (bs ++ more) ≡ false
begins-append [] [] more e = cc
begins-append [] (b ∷ bs) more e = e
begins-append (w ∷ ws) [] more e = cc
begins-append (w ∷ ws) (b ∷ bs) more e = and_false (b == w) (begins ws bs) (begins ws (bs ++ more)) (begins-append ws bs more) e

pub begins_long : (ws bs more : List ℕ) → length ws < length bs → begins ws (bs ++ more) ≡ begins ws bs
begins_long [] [] more lt = absurd (omega arith)
begins_long [] (b ∷ bs) more lt = refl
begins_long (w ∷ ws) [] more lt = absurd (omega arith)
begins_long (w ∷ ws) (b ∷ bs) more lt = ap (λ x. (b == w) && x) (begins_long ws bs more (omega arith))

begins_nil : (ws : List ℕ) → begins ws [] ≡ true
begins_nil [] = refl
begins_nil (w ∷ ws) = refl

begins_step : (ws bs : List ℕ) (i : ℕ) → i < length ws → i < length bs → begins (drop i ws) (drop i bs) ≡ ((get_or bs i 0 == get_or ws i 0) && begins (drop (suc i) ws) (drop (suc i) bs))
begins_step [] bs i lt le = absurd (omega arith)
begins_step (w ∷ ws) [] i lt le = absurd (omega arith)
begins_step (w ∷ ws) (b ∷ bs) zero lt le = refl
begins_step (w ∷ ws) (b ∷ bs) (suc i) lt le = begins_step ws bs i (omega arith) (omega arith)

equal_test : (a b : ℕ) → a ≡ b → (a == b) ≡ true
equal_test a b e = grind (arith, nat_tests)

unequal_test : (a b : ℕ) → a ≢ b → (a == b) ≡ false
unequal_test a b n = grind (arith, nat_tests)

pub test_equal : (a b : ℕ) → (a == b) ≡ true → a ≡ b
test_equal a b e = grind (arith, nat_tests)

-- one byte more is the word's
pub more_begins : (ws bs : List ℕ) (i : ℕ) → i < length ws → i < length bs → get_or bs i 0 ≡ get_or ws i 0
    → begins (drop i ws) (drop i bs) ≡ begins ws bs → begins (drop (i + 1) ws) (drop (i + 1) bs) ≡ begins ws bs
more_begins ws bs i lt le one h =
    let k : i + 1 ≡ suc i = omega arith in
    rw k (sym (begins_step ws bs i lt le ∙ ap (λ b. b && begins (drop (suc i) ws) (drop (suc i) bs)) (equal_test (get_or bs i 0) (get_or ws i 0) one)) ∙ h)

-- a byte that isn't
pub less_begins : (ws bs : List ℕ) (i : ℕ) → i < length ws → i < length bs → get_or bs i 0 ≢ get_or ws i 0
    → begins (drop i ws) (drop i bs) ≡ begins ws bs → false ≡ begins ws bs
less_begins ws bs i lt le one h = sym (begins_step ws bs i lt le ∙ ap (λ b. b && begins (drop (suc i) ws) (drop (suc i) bs)) (unequal_test (get_or bs i 0) (get_or ws i 0) one)) ∙ h

-- the bytes ended
pub all_begins : (ws bs : List ℕ) (i : ℕ) → length bs ≤ i → begins (drop i ws) (drop i bs) ≡ begins ws bs → true ≡ begins ws bs
all_begins ws bs i le h = sym (ap (λ x. begins (drop i ws) x) (drop_all i bs le) ∙ begins_nil (drop i ws)) ∙ h

first_drop : (bs : List ℕ) (i : ℕ) → i < length bs → drop i bs ≡ get_or bs i 0 ∷ drop (suc i) bs
first_drop [] i lt = absurd (omega arith)
first_drop (b ∷ bs) zero lt = refl
first_drop (b ∷ bs) (suc i) lt = first_drop bs i (omega arith)

-- the word ended
pub word_begins : (ws bs : List ℕ) (i : ℕ) → i ≡ length ws → length ws < length bs → begins (drop i ws) (drop i bs) ≡ begins ws bs → begins [] (get_or bs (length ws) 0 ∷ []) ≡ begins ws bs
word_begins ws bs i e lt h =
    let at : begins (drop (length ws) ws) (drop (length ws) bs) ≡ begins ws bs = subst (λ k. begins (drop k ws) (drop k bs) ≡ begins ws bs) e h in
    sym (ap (λ x. begins x (drop (length ws) bs)) (drop_all (length ws) ws (omega arith)) ∙ ap (λ x. begins [] x) (first_drop bs (length ws) lt)) ∙ at

-- ---- ends of lines

in_line : (t : Bool) (o : Option ℕ) (n : ℕ) → t ≡ false → cond t (Some 0) (option_map suc o) ≡ Some n → (m : ℕ) × (o ≡ Some m)
in_line true o n f e = cc
in_line false None n f e = cc
in_line false (Some m) n f e = (m, refl)

-- a word without a line feed
abbrev pub NoFeed : List ℕ → Type 0
NoFeed [] = Unit {0}
NoFeed (w ∷ ws) = ((w == 10) ≡ false) × NoFeed ws

same_test : (a b : ℕ) → (a == b) ≡ true → (b == 10) ≡ false → (a == 10) ≡ false
same_test a b e f = ap (λ x. x == 10) (test_equal a b e) ∙ f

-- a line that begins with it ends behind it
pub line_longer : (ws bs : List ℕ) (room n : ℕ) → NoFeed ws → length ws < room → begins ws bs ≡ true → line_end room bs ≡ Some n → length ws < length bs
line_longer ws bs zero n f lt e l = absurd (omega arith)
line_longer [] [] (suc room) n f lt e l = cc
line_longer [] (b ∷ bs) (suc room) n f lt e l = omega arith
line_longer (w ∷ ws) [] (suc room) n f lt e l = cc
line_longer (w ∷ ws) (b ∷ bs) (suc room) n f lt e l =
    let parts = and_parts (b == w) (begins ws bs) e in
    let rest = in_line (b == 10) (line_end room bs) n (same_test b w parts.0 f.0) l in
    let h = line_longer ws bs room rest.0 f.1 (omega arith) parts.1 rest.1 in
    omega (arith, h)

more_line : (t : Bool) (o p : Option ℕ) (n : ℕ) → ((m : ℕ) → o ≡ Some m → p ≡ Some m) → cond t (Some 0) (option_map suc o) ≡ Some n → cond t (Some 0) (option_map suc p) ≡ Some n
more_line true o p n h e = e
more_line false None p n h e = cc
more_line false (Some m) p n h e = ap (option_map suc) (h m refl) ∙ e

pub line_end-append : (room n : ℕ) (bs more : List ℕ) → line_end room bs ≡ Some n → line_end room (bs ++ more) ≡ Some n
line_end-append zero n bs more e = e
line_end-append (suc room) n [] more e = cc
line_end-append (suc room) n (b ∷ bs) more e = more_line (b == 10) (line_end room bs) (line_end room (bs ++ more)) n (λ m. line_end-append room m bs more) e

pub line_end_none : (room : ℕ) (bs : List ℕ) → line_end room bs ≡ None → length bs < room
line_end_none zero bs e = cc
line_end_none (suc room) [] e = omega arith
line_end_none (suc room) (b ∷ bs) e = pick (b == 10) (line_end room bs) (λ h. line_end_none room bs h) e
  where
    pick : (t : Bool) (o : Option ℕ) → (o ≡ None → length bs < room) → cond t (Some 0) (option_map suc o) ≡ None → length (b ∷ bs) < suc room
    pick true o h e = cc
    pick false None h e = let l = h refl in omega (arith, l)
    pick false (Some m) h e = cc

-- where it lies
pub line_end_some : (room : ℕ) (bs : List ℕ) (n : ℕ) → line_end room bs ≡ Some n → (n ≤ room) × (n ≤ length bs) × (n < room → n < length bs)
line_end_some zero bs n e = let z : 0 ≡ n = cc (e) in (omega arith, omega arith, λ lt. absurd (omega arith))
line_end_some (suc room) [] n e = cc
line_end_some (suc room) (b ∷ bs) n e = pick (b == 10) (line_end room bs) (λ m. line_end_some room bs m) e
  where
    pick : (t : Bool) (o : Option ℕ) → ((m : ℕ) → o ≡ Some m → (m ≤ room) × (m ≤ length bs) × (m < room → m < length bs)) → cond t (Some 0) (option_map suc o) ≡ Some n
        → (n ≤ suc room) × (n ≤ length (b ∷ bs)) × (n < suc room → n < length (b ∷ bs))
    pick true o h e = let z : 0 ≡ n = cc (e) in (omega arith, omega arith, λ lt. omega arith)
    pick false None h e = cc
    pick false (Some m) h e =
        let z : suc m ≡ n = cc (e) in
        let l = h m refl in (omega (arith, l.0, z), omega (arith, l.1, z), λ lt. let k : m < length bs = l.2 (omega (arith, z, lt)) in omega (arith, k, z))

feed_step : (room i : ℕ) (bs : List ℕ) → i < length bs → line_end (suc room) (drop i bs) ≡ cond (get_or bs i 0 == 10) (Some 0) (option_map suc (line_end room (drop (suc i) bs)))
feed_step room i [] lt = absurd (omega arith)
feed_step room zero (b ∷ bs) lt = refl
feed_step room (suc i) (b ∷ bs) lt = feed_step room i bs (omega arith)

-- so many bytes further on
abbrev pub moved : ℕ → Option ℕ → Option ℕ
moved i None = None
moved i (Some n) = Some (i + n)

moved_suc : (i : ℕ) (o : Option ℕ) → moved i (option_map suc o) ≡ moved (i + 1) o
moved_suc i None = refl
moved_suc i (Some n) = ap Some (omega arith)

-- one byte that is no line feed
pub more_feed : (room i : ℕ) (bs : List ℕ) → i < room → i < length bs → get_or bs i 0 ≢ 10
    → moved i (line_end (room - i) (drop i bs)) ≡ line_end room bs → moved (i + 1) (line_end (room - (i + 1)) (drop (i + 1) bs)) ≡ line_end room bs
more_feed room i bs lt le ne h =
    let e : room - i ≡ suc (room - (i + 1)) = omega arith in
    let k : i + 1 ≡ suc i = omega arith in
    let left = room - (i + 1) in
    let step : line_end (room - i) (drop i bs) ≡ option_map suc (line_end left (drop (suc i) bs)) =
    ap (λ r. line_end r (drop i bs)) e ∙ (feed_step left i bs le ∙ ap (λ t. cond t (Some 0) (option_map suc (line_end left (drop (suc i) bs)))) (unequal_test (get_or bs i 0) 10 ne)) in
    subst (λ j. moved (i + 1) (line_end left (drop j bs)) ≡ line_end room bs) (sym k) (sym (moved_suc i (line_end left (drop (suc i) bs))) ∙ (ap (moved i) (sym step) ∙ h))

-- a line feed
pub at_feed : (room i : ℕ) (bs : List ℕ) → i < room → i < length bs → get_or bs i 0 ≡ 10 → moved i (line_end (room - i) (drop i bs)) ≡ line_end room bs → Some i ≡ line_end room bs
at_feed room i bs lt le e10 h =
    let e : room - i ≡ suc (room - (i + 1)) = omega arith in
    let left = room - (i + 1) in
    let step : line_end (room - i) (drop i bs) ≡ Some 0 =
    ap (λ r. line_end r (drop i bs)) e ∙ (feed_step left i bs le ∙ ap (λ t. cond t (Some 0) (option_map suc (line_end left (drop (suc i) bs)))) (equal_test (get_or bs i 0) 10 e10)) in
    let z : i + 0 ≡ i = omega arith in
    ap Some (sym z) ∙ (ap (moved i) (sym step) ∙ h)

-- the bytes ended
pub no_feed : (room i : ℕ) (bs : List ℕ) → length bs ≤ i → i < room → moved i (line_end (room - i) (drop i bs)) ≡ line_end room bs → None ≡ line_end room bs
no_feed room i bs le lt h =
    let e : room - i ≡ suc (room - (i + 1)) = omega arith in
    let step : line_end (room - i) (drop i bs) ≡ None = ap (λ r. line_end r (drop i bs)) e ∙ ap (line_end (suc (room - (i + 1)))) (drop_all i bs le) in
    ap (moved i) (sym step) ∙ h

-- the room ended
pub long_line : (room i : ℕ) (bs : List ℕ) → i ≡ room → moved i (line_end (room - i) (drop i bs)) ≡ line_end room bs → Some room ≡ line_end room bs
long_line room i bs e h =
    let z : room - i ≡ 0 = omega arith in
    let step : line_end (room - i) (drop i bs) ≡ Some 0 = ap (λ r. line_end r (drop i bs)) z in
    let s : i + 0 ≡ room = omega arith in
    ap Some (sym s) ∙ (ap (moved i) (sym step) ∙ h)
