-- The place that a reading has reached.
use Rattle.std.proofs.Common.{◌≡◌, ℕ, suc, ◌+◌, ◌-◌, ◌<◌, ◌≤◌, inl, inr, List, [], ◌∷◌, ◌++◌, take, drop, length, Option, Some, None, refl, sym, ap, ◌∙◌, subst, arith, append_assoc, append-nil, length-append}
use Rattle.std.proofs.lemmas.List.{drop-append-le, drop-drop, drop_all, take_all, length-drop}
use Rattle.ff_reader.specs.declared.step.Step.{Step}
use Rattle.ff_reader.specs.declared.step.Step.TheVariants.{Wait, Decide, Skip}
use Rattle.ff_reader.specs.Heads.{Found}
use Rattle.ff_reader.specs.Walks.{Reading, Grammar, walk, walked, head_limit, Reached, IsReached, IsGrammar, Settles}
use Rattle.ff_reader.proofs.WalkLaws.{stepped, walk-drop}
use Rattle.ff_reader.proofs.ReadingLaws.{take-append}

pub Reached-start : {H S : Type 0} (g : Grammar H S) → Reached g (length g.magic) g.start []
Reached-start g more =
    let e : 0 + length g.magic ≡ length g.magic = omega arith in
    walk-drop g.unit more (length g.magic) g.start 0 ∙ ap (λ n. walk g.unit 0 g.start n (drop (length g.magic) more)) e

Reached-append : {H S : Type 0} (g : Grammar H S) (at : ℕ) (s : S) (front rest : List ℕ) → Reached g at s front → Reached g at s (front ++ rest)
Reached-append g at s front rest h more =
    let e = append_assoc front rest more in
    subst (λ xs. walked g xs ≡ walk g.unit 0 s at (drop at xs)) (sym e) (h (rest ++ more))

-- ---- a unit

walk_unit : {H S : Type 0} (unit : Reading H S) (s : S) (at : ℕ) (bs : List ℕ) (x : Step H S) → 0 < length bs → unit s at bs ≡ x → (r : Option (Found H))
    → ((b : ℕ) (rest : List ℕ) → bs ≡ b ∷ rest → stepped unit x at rest ≡ r) → walk unit 0 s at bs ≡ r
walk_unit unit s at [] x lt e r h = absurd (omega arith)
walk_unit unit s at (b ∷ bs) x lt e r h = ap (λ y. stepped unit y at bs) e ∙ h b bs refl

walk_wait : {H S : Type 0} (unit : Reading H S) (s : S) (at : ℕ) (bs : List ℕ) → 0 < length bs → unit s at bs ≡ Wait → walk unit 0 s at bs ≡ None
walk_wait unit s at bs lt e = walk_unit unit s at bs Wait lt e None (λ b rest i. refl)

pub walk_decide : {H S : Type 0} (unit : Reading H S) (s : S) (at : ℕ) (bs : List ℕ) (found : Found H) → 0 < length bs → unit s at bs ≡ Decide found → walk unit 0 s at bs ≡ Some found
walk_decide unit s at bs found lt e = walk_unit unit s at bs (Decide found) lt e (Some found) (λ b rest i. refl)

pub walk_skip : {H S : Type 0} (unit : Reading H S) (s next : S) (at size : ℕ) (bs : List ℕ) → 0 < length bs → unit s at bs ≡ Skip size next
    → walk unit 0 s at bs ≡ walk unit 0 next (at + 1 + size) (drop (suc size) bs)
walk_skip unit s next at size bs lt e = walk_unit unit s at bs (Skip size next) lt e (walk unit 0 next (at + 1 + size) (drop (suc size) bs))
    (λ b rest i. rw i (walk-drop unit rest size next (at + 1)))

settled : {H S : Type 0} (unit : Reading H S) → Settles unit → (s : S) (at : ℕ) (bs more : List ℕ) (x : Step H S) → unit s at bs ≡ x → (x ≡ Wait → ⊥) → unit s at (bs ++ more) ≡ x
settled unit settles s at bs more x e n = elim (settles s at bs more) [ inl w ↦ absurd (n (sym e ∙ w)) | inr same ↦ sym same ∙ e ]

-- ---- a place

some_left : (at : ℕ) (bs : List ℕ) → at < length bs → 0 < length (drop at bs)
some_left at bs lt = omega (arith, lt, length-drop at bs)

pub Reached-skip : {H S : Type 0} (g : Grammar H S) → IsGrammar g → (at size : ℕ) (s next : S) (bs : List ℕ) → at < length bs → g.unit s at (drop at bs) ≡ Skip size next
    → Reached g at s bs → Reached g (at + 1 + size) next bs
Reached-skip g law at size s next bs lt e h more =
    let seam = drop-append-le at bs more (omega (arith, lt)) in
    let now : g.unit s at (drop at (bs ++ more)) ≡ Skip size next = ap (g.unit s at) seam ∙ settled g.unit law.settles s at (drop at bs) more (Skip size next) e (λ i. cc) in
    let some : 0 < length (drop at (bs ++ more)) = omega (arith, ap length seam, length-append (drop at bs) more, some_left at bs lt) in
    let n : at + suc size ≡ at + 1 + size = omega arith in
    h more ∙ (walk_skip g.unit s next at size (drop at (bs ++ more)) some now
    ∙ ap (λ xs. walk g.unit 0 next (at + 1 + size) xs) (drop-drop (suc size) at (bs ++ more) ∙ ap (λ k. drop k (bs ++ more)) n))

here : {H S : Type 0} (g : Grammar H S) (at : ℕ) (s : S) (bs : List ℕ) → Reached g at s bs → walked g bs ≡ walk g.unit 0 s at (drop at bs)
here g at s bs h = subst (λ xs. walked g xs ≡ walk g.unit 0 s at (drop at xs)) (append-nil bs) (h [])

pub Reached-decide : {H S : Type 0} (g : Grammar H S) (at : ℕ) (s : S) (bs : List ℕ) (found : Found H) → at < length bs → g.unit s at (drop at bs) ≡ Decide found
    → Reached g at s bs → walked g bs ≡ Some found
Reached-decide g at s bs found lt e h = here g at s bs h ∙ walk_decide g.unit s at (drop at bs) found (some_left at bs lt) e

pub Reached-wait : {H S : Type 0} (g : Grammar H S) (at : ℕ) (s : S) (bs : List ℕ) → at < length bs → g.unit s at (drop at bs) ≡ Wait → Reached g at s bs → walked g bs ≡ None
Reached-wait g at s bs lt e h = here g at s bs h ∙ walk_wait g.unit s at (drop at bs) (some_left at bs lt) e

pub Reached-end : {H S : Type 0} (g : Grammar H S) (at : ℕ) (s : S) (bs : List ℕ) → length bs ≤ at → Reached g at s bs → walked g bs ≡ None
Reached-end g at s bs le h = here g at s bs h ∙ ap (λ xs. walk g.unit 0 s at xs) (drop_all at bs le)

-- the bytes within the limit go on from the front
near_at : {H S : Type 0} (g : Grammar H S) (limit at : ℕ) (s : S) (front rest bs : List ℕ) → bs ≡ front ++ rest → length front ≤ limit → Reached g at s front → Reached g at s (take limit bs)
near_at g limit at s front rest bs e le h =
    let near : take limit bs ≡ front ++ take (limit - length front) rest = ap (take limit) e ∙ (take-append limit front rest ∙ ap (λ x. x ++ take (limit - length front) rest) (take_all limit front le)) in
    subst (λ xs. Reached g at s xs) (sym near) (Reached-append g at s front (take (limit - length front) rest) h)

pub Reached-near : {H S : Type 0} (g : Grammar H S) (at : ℕ) (s : S) (bs : List ℕ) → IsReached g at s bs → Reached g at s (take head_limit bs)
Reached-near g at s bs h = near_at g head_limit at s h.0 h.1 bs h.2 h.3 h.4
