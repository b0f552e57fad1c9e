-- Lists that grow by one, and what an iterator has left.
use Rattle.std.proofs.Common.{◌≡◌, ◌≢◌, ◌⊎◌, inl, inr, ℕ, zero, suc, ◌+◌, ◌<◌, List, [], ◌∷◌, ◌++◌, length, get_or, Bool, true, false, Option, Some, None, refl, sym, ap, ◌∙◌, subst, arith}
use Rattle.std.proofs.lemmas.List.{length-map}
use Rattle.std.specs.Prelude.{IfSome}
use Rattle.std.specs.Bool.{Decides}
use Rattle.std.specs.Str.{bytes_eq}
use Rattle.std.proofs.lemmas.Slice.Eq.{bytes_eq-Decides}
use Rattle.ff_files.specs.Names.{Name, names_of, files_of, name_at}

-- what holds of each element, and of one more
pub each_snoc : {A : Type 0} (P : ℕ → A → Type 0) (xs : List A) (y d : A) → ((k : ℕ) → k < length xs → P k (get_or xs k d)) → P (length xs) y → (k : ℕ) → k < length xs + 1 → P k (get_or (xs ++ y ∷ []) k d)
each_snoc P [] y d h here zero lt = here
each_snoc P [] y d h here (suc k) lt = absurd (omega arith)
each_snoc P (x ∷ xs) y d h here zero lt = h 0 (omega arith)
each_snoc P (x ∷ xs) y d h here (suc k) lt = each_snoc (λ n. P (suc n)) xs y d (λ j l. h (suc j) (omega arith)) here k (omega arith)

-- what holds of each number below this one, and of this one
pub one_more : (P : ℕ → Type 0) (n : ℕ) → ((k : ℕ) → k < n → P k) → P n → (k : ℕ) → k < n + 1 → P k
one_more P zero h here zero lt = here
one_more P zero h here (suc k) lt = absurd (omega arith)
one_more P (suc n) h here zero lt = h 0 (omega arith)
one_more P (suc n) h here (suc k) lt = one_more (λ j. P (suc j)) n (λ j l. h (suc j) (omega arith)) here k (omega arith)

pub length_snoc : {A : Type 0} (xs : List A) (y : A) → length (xs ++ y ∷ []) ≡ length xs + 1
length_snoc [] y = refl
length_snoc (x ∷ xs) y = (let more = length_snoc xs y in omega (arith, more))

-- the same of a list that has so many elements, and of the list with one more
pub each_pushed : {A : Type 0} (P : ℕ → A → Type 0) (xs ys : List A) (y : A) (n : ℕ) → ys ≡ xs ++ y ∷ [] → length xs ≡ n → ((k : ℕ) (d : A) → k < n → P k (get_or xs k d)) → P n y → (k : ℕ) (d : A) → k < n + 1 → P k (get_or ys k d)
each_pushed P xs ys y n is long h here k d lt =
    subst (λ zs. P k (get_or zs k d)) (sym is)
    (each_snoc P xs y d (λ j l. h j d (omega (arith, l, long))) (subst (λ (m : ℕ). P m y) (sym long) here) k (omega (arith, lt, long)))

at_end : {A : Type 0} (xs : List A) (y d : A) → get_or (xs ++ y ∷ []) (length xs) d ≡ y
at_end [] y d = refl
at_end (x ∷ xs) y d = at_end xs y d

pub at_pushed : {A : Type 0} (xs ys : List A) (y : A) (k : ℕ) (d : A) → ys ≡ xs ++ y ∷ [] → length xs ≡ k → get_or ys k d ≡ y
at_pushed xs ys y k d is long = ap (λ zs. get_or zs k d) is ∙ (ap (λ (n : ℕ). get_or (xs ++ y ∷ []) n d) (sym long) ∙ at_end xs y d)

pub pushed_len : {A : Type 0} (xs ys : List A) (y : A) (k : ℕ) → ys ≡ xs ++ y ∷ [] → length xs ≡ k → length ys ≡ k + 1
pushed_len xs ys y k is long = ap (λ (l : List _). length l) is ∙ (length_snoc xs y ∙ ap (λ (n : ℕ). n + 1) long)

-- an element that is there
pub some_of : {A : Type 0} (xs : List A) (k : ℕ) → k < length xs → A
some_of [] k lt = absurd (omega (arith, lt))
some_of (x ∷ xs) zero lt = x
some_of (x ∷ xs) (suc k) lt = some_of xs k (omega (arith, lt))

-- the rest of an iterator's items, by their places in the whole
pub rest_next : {A : Type 0} (xs ys items : List A) (x d : A) (n k : ℕ) → xs ≡ x ∷ ys → get_or xs (suc k) d ≡ get_or items (n + suc k) d → get_or ys k d ≡ get_or items (n + 1 + k) d
rest_next xs ys items x d n k e h =
    let place : n + suc k ≡ n + 1 + k = omega arith in
    sym (ap (λ zs. get_or zs (suc k) d) e) ∙ (h ∙ ap (λ m. get_or items m d) place)

pub first_next : {A : Type 0} (xs ys items : List A) (x d : A) (n : ℕ) → xs ≡ x ∷ ys → get_or xs 0 d ≡ get_or items (n + 0) d → x ≡ get_or items n d
first_next xs ys items x d n e h =
    let place : n + 0 ≡ n = omega arith in
    sym (ap (λ zs. get_or zs 0 d) e) ∙ (h ∙ ap (λ m. get_or items m d) place)

-- there are as many names as files
pub names_len : {N : Type 0} (name : N → List ℕ) (files : List N) → length (names_of name files) ≡ length files
names_len {N} name files = length-map files (λ (file : N). Some (name file))

-- there are as many of outputs
pub files_len : {N : Type 0} (file : N → Name) (outputs : List N) → length (files_of file outputs) ≡ length outputs
files_len file outputs = length-map outputs file

-- the name of a file that is there
pub name_here : {N : Type 0} (name : N → List ℕ) (files : List N) (k : ℕ) (d : N) → k < length files → name_at (names_of name files) k ≡ Some (name (get_or files k d))
name_here name [] k d lt = absurd (omega (arith, lt))
name_here name (f ∷ fs) zero d lt = refl
name_here name (f ∷ fs) (suc k) d lt = name_here name fs k d (omega (arith, lt))

-- two names are the same, or not
pub same_or_not : (a b : List ℕ) → (a ≡ b) ⊎ (a ≢ b)
same_or_not a b = by_test (bytes_eq a b) (bytes_eq-Decides a b)
  where
    by_test : (t : Bool) → Decides t (a ≡ b) → (a ≡ b) ⊎ (a ≢ b)
    by_test true same = inl (same.0 refl)
    by_test false same = inr (λ e. let no : false ≡ true = same.1 e in cc (no))

-- so are two where there may be none
pub name_or_not : (a b : Name) → (a ≡ b) ⊎ (a ≢ b)
name_or_not None None = inl refl
name_or_not None (Some b) = inr (λ e. cc)
name_or_not (Some a) None = inr (λ e. cc)
name_or_not (Some a) (Some b) = elim (same_or_not a b) [ inl same ↦ inl (ap (λ (n : List ℕ). Some n) same) | inr other ↦ inr (λ e. other (some_same a b e)) ]
  where
    some_same : (x y : List ℕ) → Some x ≡ Some y → x ≡ y
    some_same x y e = cc

-- what is so of the name that there is
pub if_is : (P : List ℕ → Type 0) (name : Name) → ((n : List ℕ) → name ≡ Some n → P n) → IfSome name P
if_is P None f = tt
if_is P (Some n) f = f n refl

-- and in other words
pub if_named : (P Q : List ℕ → Type 0) (name : Name) → ((n : List ℕ) → P n → Q n) → IfSome name P → IfSome name Q
if_named P Q None f p = tt
if_named P Q (Some n) f p = f n p
