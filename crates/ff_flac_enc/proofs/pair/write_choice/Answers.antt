use Rattle.std.proofs.Common.{ℕ, ℤ, ◌+◌, ◌++◌, List, [], ◌∷◌, ap, ◌∙◌, subst}
use Rattle.ff_flac_enc.specs.laws.Choice.{fewest}
use Rattle.ff_flac_enc.specs.Head.{opened}
use Rattle.ff_flac_enc.specs.Layout.{body, mid_of}
use Rattle.ff_flac_enc.specs.laws.Shape.{Chooses, pair_layout}
use Rattle.ff_flac_enc.proofs.Forms.{best_form}
use Rattle.ff_flac_enc.proofs.pair.write_choice.Goals as goal

pub returns : goal.returns
returns c =
    let bits : ℕ = c.args.bits in
    let l : List ℤ = c.args.left.now in
    let r : List ℤ = c.args.right.now in
    let shape = c.args.choice.now.shape in
    let chosen : Chooses (fewest bits l) (fewest bits r) (fewest bits (mid_of l r)) (fewest (bits + 1) c.args.side.now) shape =
    subst (λ m. Chooses (fewest bits l) (fewest bits r) (fewest bits m) (fewest (bits + 1) c.args.side.now) shape) c.requires.mid_is c.requires.choice.shape in
    let b = body bits (l ∷ r ∷ []) (pair_layout bits l r shape) in (
      pair_layout bits l r shape,
      best_form bits l r shape (subst (λ s. Chooses (fewest bits l) (fewest bits r) (fewest bits (mid_of l r)) (fewest (bits + 1) s) shape) c.requires.side_is chosen),
      c.in_ok-write_both.ensures ∙ ap (λ o. o ++ b) c.in_ok-out.ensures ∙ ap (λ f. opened c.args.head.now f ++ b) c.code_of.ensures.is,
    )
