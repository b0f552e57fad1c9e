-- The names of the files that a job writes that words ask for differ.
use Rattle.std.proofs.Common.{◌≡◌, ℕ, zero, suc, ◌+◌, ◌<◌, ◌≤◌, ◌^◌, Bool, true, false, ◌||◌, List, [], ◌∷◌, ◌++◌, length, map, drop, get_or, Option, None, Some, refl, sym, ap, ◌∙◌, subst, append-nil, append_assoc, arith}
use Rattle.std.specs.Prelude.{IsSome, flat_map, option_to_list}
use Rattle.std.proofs.Math.Seq.{drop-cons}
use Rattle.std.proofs.lemmas.List.{drop_all}
use Rattle.std.specs.List.{list_any}
use Rattle.std.specs.Str.{bytes_eq}
use Rattle.std.proofs.lemmas.List.Folds.{list_any-append}
use Rattle.std.proofs.lemmas.Slice.Eq.{bytes_eq-Decides}
use Rattle.ff_files.specs.Names.{Name, AreApart, name_at}
use Rattle.ff_words.specs.declared.job.Job.{Job}
use Rattle.ff_words.specs.declared.job.OutputJob.{OutputJob}
use Rattle.ff_words.specs.Words.{output_file, file_names, written, repeats, read_names, same_name}

neither : (a b : Bool) → (a || b) ≡ false → (a ≡ false) × (b ≡ false)
neither true b e = absurd cc
neither false b e = (refl, e)

-- those that there are
abbrev somes : List Name → List (List ℕ)
somes names = flat_map (λ (name : Name). option_to_list name) names

-- a name that stands in a list is found there
found-in : (n : List ℕ) (ns : List Name) (k : ℕ) → k < length ns → name_at ns k ≡ Some n → list_any (λ m. bytes_eq m n) (somes ns) ≡ true
found-in n [] k below is = absurd (omega (arith, below))
found-in n (None ∷ ns) zero below is = absurd cc
found-in n (Some m ∷ ns) zero below is = (let same : Some m ≡ Some n = is in let equal : m ≡ n = cc in ap (λ b. b || list_any (λ x. bytes_eq x n) (somes ns)) ((bytes_eq-Decides m n).1 equal))
found-in n (None ∷ ns) (suc k) below is = found-in n ns k (omega (arith, below)) is
found-in n (Some m ∷ ns) (suc k) below is = or-true (bytes_eq m n) (list_any (λ x. bytes_eq x n) (somes ns)) (found-in n ns k (omega (arith, below)) is)
  where
    or-true : (a b : Bool) → b ≡ true → (a || b) ≡ true
    or-true true b e = refl
    or-true false b e = e

found : (n : List ℕ) (ns : List Name) (more others : List (List ℕ)) (k : ℕ) → k < length ns → name_at ns k ≡ Some n → list_any (λ m. bytes_eq m n) ((somes ns ++ more) ++ others) ≡ true
found n ns more others k below is =
    list_any-append (λ m. bytes_eq m n) (somes ns ++ more) others
    ∙ ap (λ b. b || list_any (λ m. bytes_eq m n) others)
    (list_any-append (λ m. bytes_eq m n) (somes ns) more
    ∙ ap (λ b. b || list_any (λ m. bytes_eq m n) more) (found-in n ns k below is))

apart : (ns : List Name) (more others : List (List ℕ)) → repeats (somes ns ++ more) others ≡ false → AreApart ns
apart [] more others e j k lj lk some is = absurd (omega (arith, lj))
apart (n ∷ ns) more others e zero zero lj lk some is = refl
apart (None ∷ ns) more others e zero (suc k) lj lk some is = absurd cc
apart (None ∷ ns) more others e (suc j) zero lj lk some is = absurd (let none : name_at ns j ≡ None = is in let there = subst (λ (m : Name). IsSome m) none some in cc)
apart (None ∷ ns) more others e (suc j) (suc k) lj lk some is = ap suc (apart ns more others e j k (omega (arith, lj)) (omega (arith, lk)) some is)
apart (Some n ∷ ns) more others e zero (suc k) lj lk some is =
    absurd (let once = (neither (list_any (λ m. bytes_eq m n) ((somes ns ++ more) ++ others)) (repeats (somes ns ++ more) others) e).0 in (let twice = found n ns more others k (omega (arith, lk)) (sym is) in cc))
apart (Some n ∷ ns) more others e (suc j) zero lj lk some is =
    absurd (let once = (neither (list_any (λ m. bytes_eq m n) ((somes ns ++ more) ++ others)) (repeats (somes ns ++ more) others) e).0 in (let twice = found n ns more others j (omega (arith, lj)) is in cc))
apart (Some n ∷ ns) more others e (suc j) (suc k) lj lk some is =
    ap suc (apart ns more others (neither (list_any (λ m. bytes_eq m n) ((somes ns ++ more) ++ others)) (repeats (somes ns ++ more) others) e).1 j k (omega (arith, lj)) (omega (arith, lk)) some is)

-- those that there are of what a job writes
somes-are : (outputs : List OutputJob) (trace : Option (List ℕ)) → somes (map output_file outputs ++ map (λ (name : List ℕ). Some name) (option_to_list trace)) ≡ file_names outputs ++ option_to_list trace
somes-are [] None = refl
somes-are [] (Some t) = refl
somes-are (o ∷ outputs) trace =
    ap (λ l. option_to_list (output_file o) ++ l) (somes-are outputs trace)
    ∙ sym (append_assoc (option_to_list (output_file o)) (file_names outputs) (option_to_list trace))

pub names-apart : (job : Job) → same_name job ≡ false → AreApart (written job)
names-apart job e =
    apart (written job) [] (read_names job)
    (subst (λ ns. repeats ns (read_names job) ≡ false) (sym (append-nil (somes (written job)) ∙ somes-are job.outputs job.trace)) e)

pub few-files : (n : ℕ) → n ≤ 16 → n < 2 ^ 32
few-files n few = omega (arith, few)

-- ---- the names of a list that is made element by element

map_snoc : {W : Type 0} (f : W → Name) (ws : List W) (w : W) → map f (ws ++ w ∷ []) ≡ map f ws ++ f w ∷ []
map_snoc f [] w = refl
map_snoc f (x ∷ xs) w = ap (λ l. f x ∷ l) (map_snoc f xs w)

snoc_cons : (xs : List Name) (y : Name) (ys : List Name) → (xs ++ y ∷ []) ++ ys ≡ xs ++ y ∷ ys
snoc_cons [] y ys = refl
snoc_cons (x ∷ xs) y ys = ap (λ l. x ∷ l) (snoc_cons xs y ys)

pub next_name : {W O : Type 0} (f : W → Name) (g : O → Name) (ws ws' : List W) (w : W) (os : List O) (k : ℕ) (d : O) → k < length os → ws' ≡ ws ++ w ∷ [] → f w ≡ g (get_or os k d)
    → map f ws ++ map g (drop k os) ≡ map g os → map f ws' ++ map g (drop (k + 1) os) ≡ map g os
next_name f g ws ws' w os k d lt is own h =
    let next : suc k ≡ k + 1 = omega arith in
    subst (λ n. map f ws' ++ map g (drop n os) ≡ map g os) next
    (ap (λ l. map f l ++ map g (drop (suc k) os)) is
    ∙ (ap (λ l. l ++ map g (drop (suc k) os)) (map_snoc f ws w)
    ∙ (snoc_cons (map f ws) (f w) (map g (drop (suc k) os))
    ∙ (ap (λ n. map f ws ++ n ∷ map g (drop (suc k) os)) own ∙ (sym (ap (λ l. map f ws ++ map g l) (drop-cons os k d lt)) ∙ h)))))

pub all_names : {O : Type 0} (g : O → Name) (xs : List Name) (os : List O) (k : ℕ) → length os ≤ k → xs ++ map g (drop k os) ≡ map g os → xs ≡ map g os
all_names g xs os k le h = sym (append-nil xs) ∙ (ap (λ l. xs ++ map g l) (sym (drop_all k os le)) ∙ h)

abbrev traced : Option (List ℕ) → List Name
traced trace = map (λ (name : List ℕ). Some name) (option_to_list trace)

-- and of one with the trace behind the outputs
pub with_trace : {W : Type 0} (f : W → Name) (ws ws' : List W) (w : W) (names : List Name) (t : Option (List ℕ)) (name : List ℕ) → ws' ≡ ws ++ w ∷ [] → f w ≡ Some name → t ≡ Some name → map f ws ≡ names
    → map f ws' ≡ names ++ traced t
with_trace f ws ws' w names t name is own some h =
    ap (λ l. map f l) is ∙ (map_snoc f ws w ∙ (ap (λ n. map f ws ++ n ∷ []) own ∙ (ap (λ l. l ++ Some name ∷ []) h ∙ ap (λ o. names ++ traced o) (sym some))))

pub without_trace : (names all : List Name) (t : Option (List ℕ)) → t ≡ None → all ≡ names → all ≡ names ++ traced t
without_trace names all t none h = h ∙ (sym (append-nil names) ∙ ap (λ o. names ++ traced o) (sym none))
