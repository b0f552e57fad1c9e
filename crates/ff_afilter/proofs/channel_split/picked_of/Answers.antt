use Rattle.std.proofs.Common.{rules, ◌≡◌, ◌+◌, ◌*◌, ℕ, ℤ, pos, to_z, of_z, w32, List, [], ◌∷◌, ◌++◌, slice_index_or, arith, ap, ◌∙◌, sym}
use Rattle.std.proofs.lemmas.List.FromFn.{map-range_with_len_more}
use Rattle.ff_afilter.proofs.channel_split.picked_of.Goals as goal

pub picked-preserved : goal.picked-preserved
picked-preserved c =
    let xs = c.args.samples.now in
    let f : ℕ → ℤ = λ k. slice_index_or xs (k * c.args.channels + c.args.channel) (pos 0) in
    let stored : to_z w32 (of_z w32 (f c.picked.k)) ≡ f c.picked.k = search rules in
    record {
      items = c.push_reserved.ensures.items
          ∙ (ap (λ (v : ℤ). c.picked.out.items ++ v ∷ []) stored
          ∙ (ap (λ (ys : List ℤ). ys ++ f c.picked.k ∷ []) c.picked.invariant.items ∙ sym (map-range_with_len_more f 0 c.picked.k c.picked.k (omega arith))));
      count = search rules;
      room = search rules;
    }
