use Rattle.std.proofs.Common.{◌≡◌, ℕ, zero, suc, ◌+◌, ◌-◌, ◌<◌, ◌≤◌, leb, cond, true, false, List, [], ◌∷◌, ◌++◌, map, Option, Some, None, refl, sym, ap, ◌∙◌, subst, arith, inl, inr}
use Rattle.std.proofs.Math.Path.{fun_ext}
use Rattle.std.proofs.lemmas.Bool.Decides.{nat_tests}
use Rattle.std.proofs.lemmas.Bool.{cases_lt}
use Rattle.std.proofs.lemmas.List.{map-id}
use Rattle.std.proofs.lemmas.List.FromFn.{map-range_with_len_more}
use Rattle.std.specs.Option.{option_map, unwrap_or, IfSome}
use Rattle.std.specs.List.{flat_map, range_with_len, AllByRecursion}
use Rattle.ff_flac_subframe.specs.rice.Least.{choose, least, IsFirstLeast}

pub least-nil : {A : Type 0} (f : A → ℕ) → least f [] ≡ None
unfolding least
least-nil f = refl

pub least-cons : {A : Type 0} (f : A → ℕ) (x : A) (xs : List A) → least f (x ∷ xs) ≡ choose f (Some x) (least f xs)
unfolding least
least-cons f x xs = refl

-- which of two is chosen
pub choose_first : {A : Type 0} (f : A → ℕ) (a b : A) → f a ≤ f b → choose f (Some a) (Some b) ≡ Some a
choose_first f a b h = grind (arith, nat_tests)

pub choose_second : {A : Type 0} (f : A → ℕ) (a b : A) → f b < f a → choose f (Some a) (Some b) ≡ Some b
choose_second f a b h = grind (arith, nat_tests)

choose_assoc_of : {A : Type 0} (f : A → ℕ) (a b c : A) → choose f (choose f (Some a) (Some b)) (Some c) ≡ choose f (Some a) (choose f (Some b) (Some c))
choose_assoc_of f a b c = grind (arith, nat_tests)

choose_none_right : {A : Type 0} (f : A → ℕ) (o : Option A) → choose f o None ≡ o
choose_none_right f None = refl
choose_none_right f (Some a) = refl

pub choose_assoc : {A : Type 0} (f : A → ℕ) (o p q : Option A) → choose f (choose f o p) q ≡ choose f o (choose f p q)
choose_assoc f None p q = refl
choose_assoc f (Some a) None q = refl
choose_assoc f (Some a) (Some b) None = choose_none_right f (choose f (Some a) (Some b))
choose_assoc f (Some a) (Some b) (Some c) = choose_assoc_of f a b c

pub least-append : {A : Type 0} (f : A → ℕ) (xs ys : List A) → least f (xs ++ ys) ≡ choose f (least f xs) (least f ys)
least-append f [] ys = ap (λ o. choose f o (least f ys)) (sym (least-nil f))
least-append f (x ∷ xs) ys =
    least-cons f x (xs ++ ys)
    ∙ ap (choose f (Some x)) (least-append f xs ys)
    ∙ sym (choose_assoc f (Some x) (least f xs) (least f ys))
    ∙ ap (λ o. choose f o (least f ys)) (sym (least-cons f x xs))

pub choose-map : {A B : Type 0} (f : B → ℕ) (g : A → B) (o p : Option A) → choose f (option_map g o) (option_map g p) ≡ option_map g (choose (λ x. f (g x)) o p)
choose-map f g None p = refl
choose-map f g (Some a) None = refl
choose-map f g (Some a) (Some b) = elim (leb (f (g a)) (f (g b))) as (λ t. cond t (Some (g a)) (Some (g b)) ≡ option_map g (cond t (Some a) (Some b))) [ true ↦ refl | false ↦ refl ]

pub least-map : {A B : Type 0} (f : B → ℕ) (g : A → B) (xs : List A) → least f (map g xs) ≡ option_map g (least (λ x. f (g x)) xs)
least-map f g [] = least-nil f ∙ ap (option_map g) (sym (least-nil (λ x. f (g x))))
least-map f g (x ∷ xs) =
    least-cons f (g x) (map g xs)
    ∙ ap (choose f (Some (g x))) (least-map f g xs)
    ∙ choose-map f g (Some x) (least (λ x. f (g x)) xs)
    ∙ ap (option_map g) (sym (least-cons (λ x. f (g x)) x xs))

-- a cost may be replaced by an equal one
pub least-same : {A : Type 0} (f g : A → ℕ) (xs : List A) → ((x : A) → f x ≡ g x) → least f xs ≡ least g xs
least-same f g xs h = ap (λ c. least c xs) (fun_ext h)

-- what all have in common doesn't count
choose-shift : {A : Type 0} (n : ℕ) (g : A → ℕ) (o p : Option A) → choose (λ x. n + g x) o p ≡ choose g o p
choose-shift n g None p = refl
choose-shift n g (Some a) None = refl
choose-shift n g (Some a) (Some b) = grind (arith, nat_tests)

pub least-shift : {A : Type 0} (n : ℕ) (g : A → ℕ) (xs : List A) → least (λ x. n + g x) xs ≡ least g xs
least-shift n g [] = least-nil (λ x. n + g x) ∙ sym (least-nil g)
least-shift n g (x ∷ xs) =
    least-cons (λ x. n + g x) x xs
    ∙ ap (choose (λ x. n + g x) (Some x)) (least-shift n g xs)
    ∙ choose-shift n g (Some x) (least g xs)
    ∙ sym (least-cons g x xs)

pub least-shift_right : {A : Type 0} (n : ℕ) (g : A → ℕ) (xs : List A) → least (λ x. g x + n) xs ≡ least g xs
least-shift_right n g xs =
    let e : (x : _) → g x + n ≡ n + g x = λ x. omega arith in
    least-same (λ x. g x + n) (λ x. n + g x) xs e ∙ least-shift n g xs

-- groups, of each of which the first of the least is known
pub least-flat_map : {A B : Type 0} (f : B → ℕ) (h : A → List B) (pick : A → B) (xs : List A) → ((x : A) → least f (h x) ≡ Some (pick x))
    → least f (flat_map h xs) ≡ option_map pick (least (λ x. f (pick x)) xs)
least-flat_map f h pick [] each = least-nil f ∙ ap (option_map pick) (sym (least-nil (λ x. f (pick x))))
least-flat_map f h pick (x ∷ xs) each =
    least-append f (h x) (flat_map h xs)
    ∙ ap (λ o. choose f o (least f (flat_map h xs))) (each x)
    ∙ ap (choose f (Some (pick x))) (least-flat_map f h pick xs each)
    ∙ choose-map f pick (Some x) (least (λ x. f (pick x)) xs)
    ∙ ap (option_map pick) (sym (least-cons (λ x. f (pick x)) x xs))

-- the least of pairs is the pair of the least, where the costs add
pub least-pairs : {A B C : Type 0} (c : C → ℕ) (pair : A → B → C) (f : A → ℕ) (g : B → ℕ) (xs : List A) (ys : List B) (y : B)
    → ((a : A) (b : B) → c (pair a b) ≡ f a + g b) → least g ys ≡ Some y
    → least c (flat_map (λ a. map (pair a) ys) xs) ≡ option_map (λ a. pair a y) (least f xs)
least-pairs c pair f g xs ys y adds best =
    least-flat_map c (λ a. map (pair a) ys) (λ a. pair a y) xs
    (λ a. least-map c (pair a) ys ∙ ap (option_map (pair a)) (least-same (λ b. c (pair a b)) (λ b. f a + g b) ys (adds a) ∙ least-shift (f a) g ys ∙ best))
    ∙ ap (option_map (λ a. pair a y)) (least-same (λ a. c (pair a y)) (λ a. f a + g y) xs (λ a. adds a y) ∙ least-shift_right (g y) f xs)

-- one of them is the least, where there is one
choose_some : {A : Type 0} (f : A → ℕ) (x a : A) → (b : A) × (choose f (Some x) (Some a) ≡ Some b)
choose_some {A} f x a = elim (leb (f x) (f a)) as (λ t. (b : A) × (cond t (Some x) (Some a) ≡ Some b)) [ true ↦ (x, refl) | false ↦ (a, refl) ]

pub least_exists : {A : Type 0} (f : A → ℕ) (x : A) (xs : List A) → (a : A) × (least f (x ∷ xs) ≡ Some a)
least_exists f x [] = (x, least-cons f x [] ∙ ap (choose f (Some x)) (least-nil f))
least_exists f x (y ∷ ys) =
    let found = least_exists f y ys in
    let chosen = choose_some f x found.0 in
    (chosen.0, least-cons f x (y ∷ ys) ∙ ap (choose f (Some x)) found.1 ∙ chosen.1)

-- the value of the least
pub least_is : {A : Type 0} (f : A → ℕ) (xs : List A) (d a : A) → least f xs ≡ Some a → unwrap_or (least f xs) d ≡ a
least_is f xs d a h = ap (λ o. unwrap_or o d) h

pub pick_is : {A : Type 0} (f : A → ℕ) (xs : List A) (x : A) (rest : List A) (d : A) → xs ≡ x ∷ rest → least f xs ≡ Some (unwrap_or (least f xs) d)
pick_is f xs x rest d e =
    let found = least_exists f x rest in
    let is = ap (least f) e ∙ found.1 in
    is ∙ ap (λ a. Some a) (sym (least_is f xs d found.0 is))

-- ---- 0, 1, 2 ..

below_range : (P : ℕ → Type 0) (a n : ℕ) → ((k : ℕ) → k < a + n → P k) → AllByRecursion P (range_with_len a n)
below_range P a zero h = tt
below_range P a (suc n) h = (h a (omega arith), below_range P (a + 1) n (λ k l. h k (omega arith)))

pub range_more : (k : ℕ) → range_with_len 0 (k + 1) ≡ range_with_len 0 k ++ (k ∷ [])
range_more k =
    sym (map-id (range_with_len 0 (k + 1))) ∙ map-range_with_len_more (λ (x : ℕ). x) 0 k k (omega arith) ∙ ap (λ l. l ++ (k ∷ [])) (map-id (range_with_len 0 k))

pub least_one : {A : Type 0} (f : A → ℕ) (x : A) → least f (x ∷ []) ≡ Some x
least_one f x = least-cons f x [] ∙ ap (choose f (Some x)) (least-nil f)

least_more : (f : ℕ → ℕ) (k b : ℕ) → least f (range_with_len 0 k) ≡ Some b → least f (range_with_len 0 (k + 1)) ≡ choose f (Some b) (Some k)
least_more f k b h =
    ap (least f) (range_more k) ∙ least-append f (range_with_len 0 k) (k ∷ []) ∙ ap (λ o. choose f o (least f (k ∷ []))) h ∙ ap (choose f (Some b)) (least_one f k)

pub best_keeps : (f : ℕ → ℕ) (k b : ℕ) → least f (range_with_len 0 k) ≡ Some b → f b ≤ f k → least f (range_with_len 0 (k + 1)) ≡ Some b
best_keeps f k b h le = least_more f k b h ∙ choose_first f b k le

pub best_takes : (f : ℕ → ℕ) (k b : ℕ) → least f (range_with_len 0 k) ≡ Some b → f k < f b → least f (range_with_len 0 (k + 1)) ≡ Some k
best_takes f k b h lt = least_more f k b h ∙ choose_second f b k lt

-- ---- what holds of all candidates holds of the least

choose_holds : {A : Type 0} (P : A → Type 0) (f : A → ℕ) (x : A) (o : Option A) → P x → IfSome o P → IfSome (choose f (Some x) o) P
choose_holds P f x None p q = p
choose_holds P f x (Some a) p q = elim (leb (f x) (f a)) as (λ t. IfSome (cond t (Some x) (Some a)) P) [ true ↦ p | false ↦ q ]

pub least_holds : {A : Type 0} (P : A → Type 0) (f : A → ℕ) (xs : List A) → AllByRecursion P xs → IfSome (least f xs) P
least_holds P f [] h = subst (λ o. IfSome o P) (sym (least-nil f)) tt
least_holds P f (x ∷ xs) h = subst (λ o. IfSome o P) (sym (least-cons f x xs)) (choose_holds P f x (least f xs) h.0 (least_holds P f xs h.1))

pub choose_same : {A : Type 0} (f g : A → ℕ) (x : A) (o : Option A) → f x ≡ g x → IfSome o (λ a. f a ≡ g a) → choose f (Some x) o ≡ choose g (Some x) o
choose_same f g x None e h = refl
choose_same f g x (Some a) e h =
    ap (λ n. cond (leb n (f a)) (Some x) (Some a)) e ∙ ap (λ n. cond (leb (g x) n) (Some x) (Some a)) h

-- as `least-same`, for costs that agree on the candidates alone
pub least-same_on : {A : Type 0} (f g : A → ℕ) (xs : List A) → AllByRecursion (λ x. f x ≡ g x) xs → least f xs ≡ least g xs
least-same_on f g [] h = least-nil f ∙ sym (least-nil g)
least-same_on {A} f g (x ∷ xs) h =
    let P : A → Type 0 = λ a. f a ≡ g a in
    least-cons f x xs
    ∙ ap (choose f (Some x)) (least-same_on f g xs h.1)
    ∙ choose_same f g x (least g xs) h.0 (least_holds P g xs h.1)
    ∙ sym (least-cons g x xs)

-- each before it is higher, and none behind it is lower
takes_first : (f : ℕ → ℕ) (b : ℕ) → ((j : ℕ) → j < b → f b < f j) → least f (range_with_len 0 (b + 1)) ≡ Some b
takes_first f zero h = least_one f 0
takes_first f (suc b) h =
    let found = least_exists f 0 (range_with_len 1 b) in
    let P : ℕ → Type 0 = λ a. a < suc b in
    let within : IfSome (least f (range_with_len 0 (suc b))) P = least_holds P f (range_with_len 0 (suc b)) (below_range P 0 (suc b) (λ j l. omega (arith, l))) in
    let low : found.0 < suc b = subst (λ o. IfSome o P) found.1 within in
    best_takes f (suc b) found.0 found.1 (h found.0 low)

best_stays : (f : ℕ → ℕ) (k b n : ℕ) → least f (range_with_len 0 k) ≡ Some b → ((j : ℕ) → k ≤ j → j < k + n → f b ≤ f j) → least f (range_with_len 0 (k + n)) ≡ Some b
best_stays f k b zero h above =
    let e : k ≡ k + 0 = omega arith in
    sym (ap (λ m. least f (range_with_len 0 m)) e) ∙ h
best_stays f k b (suc n) h above =
    let e : k + n + 1 ≡ k + suc n = omega arith in
    sym (ap (λ m. least f (range_with_len 0 m)) e) ∙ best_keeps f (k + n) b (best_stays f k b n h (λ j g l. above j g (omega (arith, l)))) (above (k + n) (omega arith) (omega arith))

pub first_is_least : (f : ℕ → ℕ) (b count : ℕ) → b < count → ((j : ℕ) → j < b → f b < f j) → ((j : ℕ) → b ≤ j → j < count → f b ≤ f j) → least f (range_with_len 0 count) ≡ Some b
first_is_least f b count within before behind =
    let reach : b + 1 + (count - (b + 1)) ≡ count = omega (arith, within) in
    sym (ap (λ m. least f (range_with_len 0 m)) reach)
    ∙ best_stays f (b + 1) b (count - (b + 1)) (takes_first f b before) (λ j g l. behind j (omega (arith, g)) (omega (arith, l, reach)))

-- ---- the least is at most each candidate

lower_all : {A : Type 0} (f : A → ℕ) (m n : ℕ) (xs : List A) → n ≤ m → AllByRecursion (λ z. m ≤ f z) xs → AllByRecursion (λ z. n ≤ f z) xs
lower_all f m n [] l h = tt
lower_all f m n (x ∷ xs) l h = (omega (arith, l, h.0), lower_all f m n xs l h.1)

lowest_with : {A : Type 0} (f : A → ℕ) (x a : A) (xs : List A) → AllByRecursion (λ z. f a ≤ f z) xs
    → IfSome (choose f (Some x) (Some a)) (λ b. AllByRecursion (λ z. f b ≤ f z) (x ∷ xs))
lowest_with {A} f x a xs h =
    let P : A → Type 0 = λ b. AllByRecursion (λ z. f b ≤ f z) (x ∷ xs) in
    elim (cases_lt (f a) (f x)) [
      | inl lt ↦ subst (λ o. IfSome o P) (sym (choose_second f x a lt)) (omega (arith, lt), h)
      | inr le ↦ subst (λ o. IfSome o P) (sym (choose_first f x a le)) (omega arith, lower_all f (f a) (f x) xs le h)
    ]

pub least_is_lowest : {A : Type 0} (f : A → ℕ) (xs : List A) → IfSome (least f xs) (λ a. AllByRecursion (λ z. f a ≤ f z) xs)
least_is_lowest {A} f [] = subst (λ o. IfSome o (λ (a : A). AllByRecursion (λ z. f a ≤ f z) [])) (sym (least-nil f)) tt
least_is_lowest {A} f (x ∷ []) = subst (λ o. IfSome o (λ (a : A). AllByRecursion (λ z. f a ≤ f z) (x ∷ []))) (sym (least_one f x)) (omega arith, tt)
least_is_lowest {A} f (x ∷ y ∷ ys) =
    let found = least_exists f y ys in
    let low : AllByRecursion (λ z. f found.0 ≤ f z) (y ∷ ys) = subst (λ o. IfSome o (λ (a : A). AllByRecursion (λ z. f a ≤ f z) (y ∷ ys))) found.1 (least_is_lowest f (y ∷ ys)) in
    subst (λ o. IfSome o (λ (a : A). AllByRecursion (λ z. f a ≤ f z) (x ∷ y ∷ ys)))
    (sym (least-cons f x (y ∷ ys) ∙ ap (choose f (Some x)) found.1)) (lowest_with f x found.0 (y ∷ ys) low)

-- ---- it is the first of the lowest

first_of : {A : Type 0} (f : A → ℕ) (x : A) (xs : List A) (a : A) → AllByRecursion (λ b. f x ≤ f b) xs → Some x ≡ Some a → IsFirstLeast f (x ∷ xs) a
first_of f x xs a h e =
    let is : x ≡ a = ap (λ o. unwrap_or o x) e in
    subst (IsFirstLeast f (x ∷ xs)) is ([], xs, refl, tt, h)

pub first_least : {A : Type 0} (f : A → ℕ) (xs : List A) (a : A) → least f xs ≡ Some a → IsFirstLeast f xs a
first_least f [] a h = absurd (cc (sym (least-nil f) ∙ h))
first_least f (x ∷ []) a h = first_of f x [] a tt (sym (least_one f x) ∙ h)
first_least {A} f (x ∷ y ∷ ys) a h =
    let found = least_exists f y ys in
    let b : A = found.0 in
    let chosen : choose f (Some x) (Some b) ≡ Some a = sym (least-cons f x (y ∷ ys) ∙ ap (choose f (Some x)) found.1) ∙ h in
    let others = first_least f (y ∷ ys) b found.1 in
    let low : AllByRecursion (λ z. f b ≤ f z) (y ∷ ys) = subst (λ o. IfSome o (λ (a : A). AllByRecursion (λ z. f a ≤ f z) (y ∷ ys))) found.1 (least_is_lowest f (y ∷ ys)) in
    elim (cases_lt (f b) (f x)) [
      | inl lt ↦
          let is : b ≡ a = ap (λ o. unwrap_or o b) (sym (choose_second f x b lt) ∙ chosen) in
          subst (IsFirstLeast f (x ∷ y ∷ ys)) is (x ∷ others.0, others.1, ap (λ l. x ∷ l) others.2, (lt, others.3), others.4)
      | inr le ↦ first_of f x (y ∷ ys) a (lower_all f (f b) (f x) (y ∷ ys) le low) (sym (choose_first f x b le) ∙ chosen)
    ]
