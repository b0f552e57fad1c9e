-- A table of marks says which graph feeds which, and what comes behind in steps.
use Rattle.std.proofs.Common.{◌≡◌, ◌⊎◌, ℕ, zero, suc, ◌+◌, ◌-◌, ◌<◌, ◌≤◌, ◌==◌, ◌&&◌, ◌||◌, inl, inr, Bool, true, false, not, cond, get_or, Option, Some, None, List, [], ◌∷◌, ◌++◌, map, length, refl, sym, ap, ◌∙◌, arith}
use Rattle.std.proofs.Math.Path.{fun_ext}
use Rattle.std.proofs.lemmas.Bool.{cases_lt}
use Rattle.std.proofs.lemmas.List.{append-nil, get_or_past, length-map, map_push}
use Rattle.std.proofs.lemmas.List.Elements.{filter-append}
use Rattle.std.proofs.lemmas.List.FromFn.{get_or-map-range_with_len, length-map-range_with_len, map-range_with_len_more}
use Rattle.std.proofs.lemmas.Option.{slice_get_past}
use Rattle.std.specs.Prelude.{slice_get}
use Rattle.std.specs.List.{filter, find, list_any, range_with_len}
use Rattle.std.specs.declared.alloc.Global.{Global}
use Rattle.std.specs.declared.vec.Vec.{Vec}
use Rattle.ff_lang.specs.declared.graph.Graph.{Graph}
use Rattle.ff_graph_links.specs.labels.Order.{below, gives_to, feeds, comes_behind, first_on_loop, on_loop, order_by, graph_order, cell, reaches}
use Rattle.ff_graph_links.specs.laws.labels.Tables.{marks}

pub range_next : (a n : ℕ) → a < n → range_with_len a (n - a) ≡ a ∷ range_with_len (a + 1) (n - (a + 1))
range_next a n lt = (let e : n - a ≡ suc (n - (a + 1)) = omega arith in ap (λ (k : ℕ). range_with_len a k) e)

pub range_over : (a n : ℕ) → n ≤ a → range_with_len a (n - a) ≡ []
range_over a n le = (let e : n - a ≡ 0 = omega arith in ap (λ (k : ℕ). range_with_len a k) e)

-- one more of a list made by a function
pub pushed : {X : Type 0} (f : ℕ → X) (items now : List X) (n : ℕ) (v : X) → items ≡ map f (range_with_len 0 n) → now ≡ items ++ v ∷ [] → v ≡ f n → now ≡ map f (range_with_len 0 (n + 1))
pushed {X} f items now n v was push is =
    push ∙ (ap (λ (l : List X). l ++ v ∷ []) was ∙ (ap (λ (x : X). map f (range_with_len 0 n) ++ x ∷ []) is ∙ sym (map-range_with_len_more f 0 n n (omega arith))))

-- a search and a test of all, one number on
pub found_on : (p : ℕ → Bool) (a n : ℕ) (whole : Option ℕ) → a < n → p a ≡ false → find p (range_with_len a (n - a)) ≡ whole → find p (range_with_len (a + 1) (n - (a + 1))) ≡ whole
found_on p a n whole lt off h =
    let rest = find p (range_with_len (a + 1) (n - (a + 1))) in
    sym (ap (λ (r : List ℕ). find p r) (range_next a n lt) ∙ ap (λ (b : Bool). cond b (Some a) rest) off) ∙ h

pub found_here : (p : ℕ → Bool) (a n : ℕ) (whole : Option ℕ) → a < n → p a ≡ true → find p (range_with_len a (n - a)) ≡ whole → Some a ≡ whole
found_here p a n whole lt on h =
    let rest = find p (range_with_len (a + 1) (n - (a + 1))) in
    sym (ap (λ (r : List ℕ). find p r) (range_next a n lt) ∙ ap (λ (b : Bool). cond b (Some a) rest) on) ∙ h

range_more : (a n : ℕ) → range_with_len a (suc n) ≡ range_with_len a n ++ (a + n) ∷ []
range_more a zero = (let e : a ≡ a + 0 = omega arith in ap (λ (k : ℕ). k ∷ []) e)
range_more a (suc n) = (let e : (a + 1) + n ≡ a + suc n = omega arith in
    ap (λ (l : List ℕ). a ∷ l) (range_more (a + 1) n) ∙ ap (λ (k : ℕ). a ∷ range_with_len (a + 1) n ++ k ∷ []) e)

one_more : (p : ℕ → Bool) (n : ℕ) → filter p (range_with_len 0 (n + 1)) ≡ filter p (range_with_len 0 n) ++ cond (p n) (n ∷ []) []
one_more p n =
    (let e : n + 1 ≡ suc n = omega arith in ap (λ (k : ℕ). filter p (range_with_len 0 k)) e)
    ∙ (ap (λ (l : List ℕ). filter p l) (range_more 0 n ∙ (let e : 0 + n ≡ n = omega arith in ap (λ (k : ℕ). range_with_len 0 n ++ k ∷ []) e))
    ∙ filter-append p (range_with_len 0 n) (n ∷ []))

-- one more of the numbers that pass a test
pub kept : (p : ℕ → Bool) (items now : List ℕ) (n : ℕ) → p n ≡ true → items ≡ filter p (range_with_len 0 n) → now ≡ items ++ n ∷ [] → now ≡ filter p (range_with_len 0 (n + 1))
kept p items now n on was push =
    push ∙ (ap (λ (l : List ℕ). l ++ n ∷ []) was ∙ sym (one_more p n ∙ ap (λ (b : Bool). filter p (range_with_len 0 n) ++ cond b (n ∷ []) []) on))

pub left_out : (p : ℕ → Bool) (items : List ℕ) (n : ℕ) → p n ≡ false → items ≡ filter p (range_with_len 0 n) → items ≡ filter p (range_with_len 0 (n + 1))
left_out p items n off was =
    was ∙ sym (one_more p n ∙ (ap (λ (b : Bool). filter p (range_with_len 0 n) ++ cond b (n ∷ []) []) off ∙ append-nil (filter p (range_with_len 0 n))))

and_false : (b : Bool) → (b && false) ≡ false
and_false true = refl
and_false false = refl

no_giver : (graphs : List Graph) (b : ℕ) → gives_to None (slice_get graphs b) ≡ false
no_giver graphs b = refl

module _ (graphs : List Graph) where
  abbrev count : ℕ
  count = length graphs

  abbrev pub whole_table : List (List Bool)
  whole_table = map (λ (a : ℕ). map (feeds graphs a) (below count)) (below count)

  feeds_from : (a b : ℕ) → count ≤ a → feeds graphs a b ≡ false
  feeds_from a b le = ap (λ o. not (a == b) && gives_to o (slice_get graphs b)) (slice_get_past graphs a le) ∙ and_false (not (a == b))

  to_none : (o : _) → gives_to o None ≡ false
  to_none None = refl
  to_none (Some g) = refl

  feeds_to : (a b : ℕ) → count ≤ b → feeds graphs a b ≡ false
  feeds_to a b le =
      ap (λ o. not (a == b) && gives_to (slice_get graphs a) o) (slice_get_past graphs b le)
      ∙ (ap (λ t. not (a == b) && t) (to_none (slice_get graphs a)) ∙ and_false (not (a == b)))

  row_is : (a : ℕ) → a < count → get_or whole_table a [] ≡ map (feeds graphs a) (below count)
  row_is a lt = get_or-map-range_with_len (λ (a : ℕ). map (feeds graphs a) (below count)) 0 count a a [] lt (omega arith)

  cell_is : (a b : ℕ) → cell whole_table a b ≡ feeds graphs a b
  cell_is a b = elim (cases_lt a count) [
    | inl lt ↦ ap (λ (row : List Bool). get_or row b false) (row_is a lt) ∙ in_row a b (cases_lt b count)
    | inr le ↦ ap (λ (row : List Bool). get_or row b false)
        (get_or_past whole_table a [] (let long = length-map-range_with_len (λ (a : ℕ). map (feeds graphs a) (below count)) 0 count in omega (arith, long, le)))
        ∙ sym (feeds_from a b le)
  ] where
    in_row : (a b : ℕ) → (b < count) ⊎ (count ≤ b) → get_or (map (feeds graphs a) (below count)) b false ≡ feeds graphs a b
    in_row a b (inl lt) = get_or-map-range_with_len (feeds graphs a) 0 count b b false lt (omega arith)
    in_row a b (inr le) =
        get_or_past (map (feeds graphs a) (below count)) b false (let long = length-map-range_with_len (feeds graphs a) 0 count in omega (arith, long, le))
        ∙ sym (feeds_to a b le)

  pub cells_are : cell whole_table ≡ feeds graphs
  cells_are = fun_ext (λ a. fun_ext (λ b. cell_is a b))

module _ (rows : List (List Bool)) where
  pub reaches_is : (f : ℕ → Bool) (to a k : ℕ) → reaches rows to a (map f (range_with_len a k)) ≡ list_any (λ c. f c && cell rows c to) (range_with_len a k)
  reaches_is f to a zero = refl
  reaches_is f to a (suc k) = ap (λ (b : Bool). (f a && cell rows a to) || b) (reaches_is f to (a + 1) k)

  next_suc : (n from k : ℕ)
      → map (λ (to : ℕ). cell rows from to || reaches rows to 0 (map (comes_behind (cell rows) n k from) (below n))) (below n) ≡ map (comes_behind (cell rows) n (suc k) from) (below n)
  next_suc n from k = ap (λ (f : ℕ → Bool). map f (below n)) (fun_ext (λ to. ap (λ (b : Bool). cell rows from to || b) (reaches_is (comes_behind (cell rows) n k from) to 0 n)))

  pub next_step : (n from k : ℕ)
      → map (λ (to : ℕ). cell rows from to || reaches rows to 0 (map (comes_behind (cell rows) n k from) (below n))) (below n) ≡ map (comes_behind (cell rows) n (k + 1) from) (below n)
  next_step n from k = next_suc n from k ∙ (let e : suc k ≡ k + 1 = omega arith in ap (λ (j : ℕ). map (comes_behind (cell rows) n j from) (below n)) e)

-- the table of the code
pub table_length : (rows : List (Vec Bool Global)) (graphs : List Graph) → marks rows ≡ whole_table graphs → length rows ≡ length graphs
table_length rows graphs e =
    sym (length-map rows (λ (v : Vec Bool Global). v.items))
    ∙ (ap (λ (l : List (List Bool)). length l) e ∙ length-map-range_with_len (λ (a : ℕ). map (feeds graphs a) (below (length graphs))) 0 (length graphs))

pub table_cells : (rows : List (Vec Bool Global)) (graphs : List Graph) → marks rows ≡ whole_table graphs → cell (marks rows) ≡ feeds graphs
table_cells rows graphs e = ap (λ (l : List (List Bool)). cell l) e ∙ cells_are graphs

loop_same : (rows : List (Vec Bool Global)) (graphs : List Graph) (own : List Bool) → marks rows ≡ whole_table graphs → first_on_loop (cell (marks rows)) (length rows) own ≡ on_loop own graphs
loop_same rows graphs own e =
    ap (λ (f : ℕ → ℕ → Bool). first_on_loop f (length rows) own) (table_cells rows graphs e) ∙ ap (λ (n : ℕ). first_on_loop (feeds graphs) n own) (table_length rows graphs e)

order_same : (rows : List (Vec Bool Global)) (graphs : List Graph) → marks rows ≡ whole_table graphs → order_by (cell (marks rows)) (length rows) ≡ graph_order graphs
order_same rows graphs e =
    ap (λ (f : ℕ → ℕ → Bool). order_by f (length rows)) (table_cells rows graphs e) ∙ ap (λ (n : ℕ). order_by (feeds graphs) n) (table_length rows graphs e)

pub loop_by : (given : List (Vec Bool Global)) (rows : List (Vec Bool Global)) (graphs : List Graph) (own : List Bool) → given ≡ rows → marks rows ≡ whole_table graphs
    → first_on_loop (cell (marks given)) (length given) own ≡ on_loop own graphs
loop_by given rows graphs own same e = ap (λ (l : List (Vec Bool Global)). first_on_loop (cell (marks l)) (length l) own) same ∙ loop_same rows graphs own e

pub order_by_table : (given : List (Vec Bool Global)) (rows : List (Vec Bool Global)) (graphs : List Graph) → given ≡ rows → marks rows ≡ whole_table graphs → order_by (cell (marks given)) (length given) ≡ graph_order graphs
order_by_table given rows graphs same e = ap (λ (l : List (Vec Bool Global)). order_by (cell (marks l)) (length l)) same ∙ order_same rows graphs e

pub row_pushed : {X : Type 0} (f : ℕ → List X) (items now : List (Vec X Global)) (n : ℕ) (v : Vec X Global) → map (λ (v : Vec X Global). v.items) items ≡ map f (range_with_len 0 n) → now ≡ items ++ v ∷ []
    → v.items ≡ f n → map (λ (v : Vec X Global). v.items) now ≡ map f (range_with_len 0 (n + 1))
row_pushed {X} f items now n v was push is =
    pushed f (map (λ (v : Vec X Global). v.items) items) (map (λ (v : Vec X Global). v.items) now) n v.items was
    (ap (λ (l : List (Vec X Global)). map (λ (v : Vec X Global). v.items) l) push ∙ map_push (λ (v : Vec X Global). v.items) items v) is

pub back_is : (rows : List (List Bool)) (n steps g : ℕ) (all behind : List Bool) → all ≡ behind → behind ≡ map (comes_behind (cell rows) n steps g) (below n) → steps ≡ n → g < n
    → get_or all g false ≡ comes_behind (cell rows) n n g g
back_is rows n steps g all behind same is end lt =
    ap (λ (l : List Bool). get_or l g false) (same ∙ (is ∙ ap (λ (k : ℕ). map (comes_behind (cell rows) n k g) (below n)) end))
    ∙ get_or-map-range_with_len (comes_behind (cell rows) n n g) 0 n g g false lt (omega arith)
