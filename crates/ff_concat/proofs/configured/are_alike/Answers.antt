use Rattle.std.proofs.Common.{◌≡◌, ◌<◌, ◌≤◌, ◌+◌, ◌-◌, ◌∙◌, ℕ, List, get_or, length, sym, ap, inl, inr, arith}
use Rattle.std.proofs.lemmas.Bool.{cases_eq}
use Rattle.ff_frame.specs.declared.head.StreamHead.{StreamHead}
use Rattle.ff_concat.proofs.Configuring.{get_same}
use Rattle.ff_concat.proofs.configured.are_alike.Goals as goal

-- one place more
more : (hs : List StreamHead) (w p : ℕ) (a b : StreamHead) → w ≤ p → p < length hs → a ≡ get_or hs p a → b ≡ get_or hs (p - w) b → a ≡ b
    → ((i : ℕ) (d : StreamHead) → i + w < p → get_or hs (i + w) d ≡ get_or hs i d) → (i : ℕ) (d : StreamHead) → i + w < p + 1 → get_or hs (i + w) d ≡ get_or hs i d
more hs w p a b le lt e f same h i d l = elim (cases_eq (i + w) p) as (λ _. get_or hs (i + w) d ≡ get_or hs i d) [
  | inl g ↦ (
      let back : p - w ≡ i = omega (arith, g) in
      ap (λ (k : ℕ). get_or hs k d) g ∙ (get_same hs p d a lt e ∙ (same ∙ (sym (get_same hs (p - w) d b (omega (arith, lt)) f) ∙ ap (λ (k : ℕ). get_or hs k d) back)))
      )
  | inr n ↦ h i d (omega (arith, l, n))
]

pub heads-preserved : goal.heads-preserved
heads-preserved c =
    let low = c.heads.auto.p in
    more c.args.heads.now c.args.width c.heads.p c.index-heads-p.result c.index-heads-p-in-heads.result (omega (arith, low)) (omega arith) c.index-heads-p.is c.index-heads-p-in-heads.is
    (c.differ.ensures.same c.if-differ.false) c.heads.invariant
