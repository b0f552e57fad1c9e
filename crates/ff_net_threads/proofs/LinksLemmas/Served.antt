-- Lists of workers and what they give back.
use Rattle.std.proofs.Common.{◌≡◌, ◌≢◌, ℕ, zero, suc, ◌+◌, ◌<◌, List, [], ◌∷◌, ◌++◌, length, set, get_or, take, drop, sym, refl, ap, ◌∙◌, subst, arith}
use Rattle.std.proofs.lemmas.List.{get_or-set_same, get_or-set_other}
use Rattle.std.proofs.Math.ListN.{length-set}
use native.Mathlib.Decide.{ℕ_discrete}
use mathlib.Core.Logic.{dite}
use Rattle.ff_net.specs.laws.Views.{View}
use Rattle.ff_net_threads.specs.declared.links.linked.Linked.{Linked}
use Rattle.ff_net_threads.specs.declared.links.worker.Worker.{Worker}
use Rattle.ff_net.specs.laws.Nodes.{IsOf}
use Rattle.ff_sched.specs.laws.Passing.{Scheduler}
use Rattle.ff_net_threads.specs.laws.links.Nodes.{node_of}
use Rattle.ff_net_threads.specs.laws.links.Runs.{AllOf}
use Rattle.ff_net_threads.specs.laws.links.Workers.{Serves, AllServe}

pub each_snoc : {A : Type 0} (P : ℕ → A → Type 0) (xs : List A) (y d : A) → ((k : ℕ) → k < length xs → P k (get_or xs k d)) → P (length xs) y → (k : ℕ) → k < length xs + 1 → P k (get_or (xs ++ y ∷ []) k d)
each_snoc P [] y d h here zero lt = here
each_snoc P [] y d h here (suc k) lt = absurd (omega arith)
each_snoc P (x ∷ xs) y d h here zero lt = h 0 (omega arith)
each_snoc P (x ∷ xs) y d h here (suc k) lt = each_snoc (λ n. P (suc n)) xs y d (λ j l. h (suc j) (omega arith)) here k (omega arith)

module _ {M : Type 0} (view : M → View) where
  -- a worker that changes serves whom it served
  pub serve_set : (ms : List (Linked M)) (ws : List (Worker M)) (j : ℕ) (w w' : Worker M) → AllServe view ms ws → w ≡ get_or ws j w → ((m : Linked M) → Serves view m w → Serves view m w') → AllServe view ms (set ws j w')
  serve_set ms ws j w w' all here keeps = (
    length-set ws j w' ∙ all.0,
    λ i d e lt. dite (ℕ_discrete i j)
        (λ (same : i ≡ j). let long : j < length ws = let l = all.0 in omega arith in
        let now : w' ≡ get_or (set ws j w') i e = sym (ap (λ k. get_or (set ws j w') k e) same ∙ get_or-set_same ws j w' e long) in
        let was : get_or ws i w ≡ w = ap (λ k. get_or ws k w) same ∙ sym here in
        subst (Serves view (get_or ms i d)) now (keeps (get_or ms i d) (subst (Serves view (get_or ms i d)) was (all.1 i d w lt))))
        (λ (other : i ≢ j). subst (Serves view (get_or ms i d)) (sym (get_or-set_other ws j i w' e other)) (all.1 i d e lt)),
  )

-- what is written through a slice of a whole vector is what the vector then has
pub written_back : {A : Type 0} (xs ys : List A) (n : ℕ) → n ≡ length ys → length xs ≡ length ys → take n (xs ++ drop (length xs) ys) ≡ xs
written_back [] [] zero e f = refl
written_back [] [] (suc n) e f = absurd (omega arith)
written_back [] (y ∷ ys) n e f = absurd (omega arith)
written_back (x ∷ xs) [] n e f = absurd (omega arith)
written_back (x ∷ xs) (y ∷ ys) zero e f = absurd (omega arith)
written_back (x ∷ xs) (y ∷ ys) (suc n) e f = λ i. x ∷ written_back xs ys n (omega arith) (omega arith) i

-- the rest of an iterator's items, by their places in the whole
pub rest_next : {A : Type 0} (xs ys items : List A) (x d : A) (n k : ℕ) → xs ≡ x ∷ ys → get_or xs (suc k) d ≡ get_or items (n + suc k) d → get_or ys k d ≡ get_or items (n + 1 + k) d
rest_next xs ys items x d n k e h =
    let place : n + suc k ≡ n + 1 + k = omega arith in
    sym (ap (λ zs. get_or zs (suc k) d) e) ∙ (h ∙ ap (λ m. get_or items m d) place)

pub first_next : {A : Type 0} (xs ys items : List A) (x d : A) (n : ℕ) → xs ≡ x ∷ ys → get_or xs 0 d ≡ get_or items (n + 0) d → x ≡ get_or items n d
first_next xs ys items x d n e h =
    let place : n + 0 ≡ n = omega arith in
    sym (ap (λ zs. get_or zs 0 d) e) ∙ (h ∙ ap (λ m. get_or items m d) place)

-- an item that is there
pub nth_of : {A : Type 0} (xs : List A) (i : ℕ) → i < length xs → A
nth_of [] i lt = absurd (omega arith)
nth_of (x ∷ xs) zero lt = x
nth_of (x ∷ xs) (suc i) lt = nth_of xs i (omega arith)

-- whom a worker serves
module _ {M : Type 0} (view : M → View) where
  pub someone : (cell : Scheduler) (ns : List (Linked M)) (ws : List (Worker M)) (i : ℕ) (w : Worker M) → AllServe view ns ws → AllOf view cell ns → i < length ws → w ≡ get_or ws i w → (n : Linked M) × Serves view n w × IsOf view cell (node_of n)
  someone cell ns ws i w all of lt is =
      let there : i < length ns = let same = all.0 in omega arith in
      let d : Linked M = nth_of ns i there in
      (get_or ns i d, subst (λ (v : Worker M). Serves view (get_or ns i d) v) (sym is) (all.1 i d w there), of.each i d there)

pub rest_first : {A : Type 0} (xs items : List A) (n k : ℕ) (d : A) → xs ≡ items → n ≡ 0 → get_or xs k d ≡ get_or items (n + k) d
rest_first xs items n k d e z =
    let place : k ≡ n + k = omega arith in
    ap (λ zs. get_or zs k d) e ∙ ap (λ m. get_or items m d) place
