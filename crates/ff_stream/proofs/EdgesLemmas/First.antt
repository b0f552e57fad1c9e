-- The first edge that passes.
use Rattle.std.proofs.Common.{◌≡◌, ℕ, ◌<◌, ◌≤◌, Bool, true, false, List, [], ◌∷◌, length, get_or, refl, sym, ap, ◌∙◌, arith}
use Rattle.std.specs.List.{position_or_len}
use Rattle.std.proofs.lemmas.List.Sums.{position_or_len_is}
use Rattle.ff_stream.specs.declared.edges.edge.Edge.{Edge}

-- none before it passes, and it does
pub first_is : (p : Edge → Bool) (edges : List Edge) (k : ℕ) (e : Edge) → k < length edges → e ≡ get_or edges k e → p e ≡ true → ((j : ℕ) (d : Edge) → j < k → p (get_or edges j d) ≡ false) → k ≡ position_or_len p edges
first_is p edges k e lt is passes before = sym (position_or_len_is p edges k e (omega (arith, lt)) (λ j l. before j e l) (λ l. ap p (sym is) ∙ passes))

-- none passes
pub none_is : (p : Edge → Bool) (edges : List Edge) (k : ℕ) → length edges ≤ k → ((j : ℕ) (d : Edge) → j < k → p (get_or edges j d) ≡ false) → length edges ≡ position_or_len p edges
none_is p [] k le none = refl
none_is p (e ∷ es) k le none = sym (position_or_len_is p (e ∷ es) (length (e ∷ es)) e (omega arith) (λ j l. none j e (omega (arith, l, le))) (λ l. absurd (omega (arith, l))))
