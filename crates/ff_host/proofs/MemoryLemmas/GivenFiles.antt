-- A map of files, filled from the last one on.
use Rattle.std.proofs.Common.{◌≡◌, ℕ, List, [], ◌∷◌, ◌++◌, Option, Some, None, Bool, true, false, String, string_bytes, Vec, sym, ◌∙◌, refl, ap, Global}
use Rattle.std.specs.Str.{bytes_eq}
use Rattle.std.specs.Option.{option_map}
use Rattle.std.specs.BTreeMap.{BTreeMap, get_by_text, UpdatesBy}
use Rattle.std.specs.String.{string_cmp}
use Rattle.std.specs.Cmp.Lexicographic.{slice_cmp}
use Rattle.std.specs.Ordering.{nat_cmp}
use Rattle.std.proofs.lemmas.Map.Text.{btree_map_updates_text}
use mathlib.Core.Bool.{cond}
use Rattle.ff_host.specs.laws.memory.Given.{given}
use Rattle.ff_host.specs.laws.memory.Contents.{file_at}

-- the first, and else the second
abbrev pub either : Option (List ℕ) → Option (List ℕ) → Option (List ℕ)
either None y = y
either (Some x) y = Some x

pub either-None : (x : Option (List ℕ)) → either x None ≡ x
either-None None = refl
either-None (Some x) = refl

either_assoc : (x y z : Option (List ℕ)) → either (either x y) z ≡ either x (either y z)
either_assoc None y z = refl
either_assoc (Some x) y z = refl

given-append : (xs : List (String Global × Vec ℕ Global)) (e : String Global × Vec ℕ Global) (n : List ℕ)
    → given (xs ++ e ∷ []) n ≡ either (given xs n) (cond (bytes_eq (string_bytes e.0) n) (Some e.1.items) None)
given-append [] e n = refl
given-append (x ∷ xs) e n = by_test (bytes_eq (string_bytes x.0) n) (given-append xs e n)
  where
    by_test : (b : Bool) → given (xs ++ e ∷ []) n ≡ either (given xs n) (cond (bytes_eq (string_bytes e.0) n) (Some e.1.items) None)
        → cond b (Some x.1.items) (given (xs ++ e ∷ []) n) ≡ either (cond b (Some x.1.items) (given xs n)) (cond (bytes_eq (string_bytes e.0) n) (Some e.1.items) None)
    by_test true rest = refl
    by_test false rest = rest

put_either : (b : Bool) (v : Vec ℕ Global) (old : Option (Vec ℕ Global))
    → either (cond b (Some v.items) None) (option_map (λ w. w.items) old) ≡ option_map (λ w. w.items) (cond b (Some v) old)
put_either true v old = refl
put_either false v old = refl

-- one more file, from the end of those that are left
pub filled : (all : Option (List ℕ)) (left rest : List (String Global × Vec ℕ Global)) (e : String Global × Vec ℕ Global) (m n : BTreeMap (String Global) (Vec ℕ Global)) (name : List ℕ)
    → left ≡ rest ++ e ∷ [] → UpdatesBy string_cmp (λ k. slice_cmp nat_cmp (string_bytes e.0) (string_bytes k)) m n (Some e.1)
    → all ≡ either (given left name) (file_at m name) → all ≡ either (given rest name) (file_at n name)
filled all left rest e m n name split u before =
    let set = ap (option_map (λ (w : Vec ℕ Global). w.items)) (btree_map_updates_text (string_bytes e.0) m n (Some e.1) u name) in
    before ∙ ap (λ l. either (given l name) (file_at m name)) split ∙ ap (λ x. either x (file_at m name)) (given-append rest e name)
    ∙ either_assoc (given rest name) (cond (bytes_eq (string_bytes e.0) name) (Some e.1.items) None) (file_at m name)
    ∙ ap (either (given rest name)) (put_either (bytes_eq (string_bytes e.0) name) e.1 (get_by_text m name) ∙ sym set)
