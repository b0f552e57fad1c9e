use Rattle.std.proofs.Common.{rules, ◌≡◌, ◌<◌, ◌+◌, ◌++◌, ◌∷◌, [], ℕ, suc, ℤ, pos, List, slice_index_or, to_z, of_z, w32, arith, ap, sym, ◌∙◌, append_assoc}
use Rattle.ff_joins.specs.declared.sound_inlet.SoundInlet.{SoundInlet}
use Rattle.ff_joins.specs.laws.Lots.{Lot, lots, lot_of, cell, row_to, cells_to}
use Rattle.ff_joins.proofs.Framing.{lots_there}
use Rattle.ff_joins.proofs.RowSteps.{one_there, one_cell}
use Rattle.ff_joins.proofs.interleaving.paired.Goals as goal

pub bounds-left-row : goal.bounds-left-row
bounds-left-row c =
    let is = c.args.inlets.now in
    let i = c.index-inlets-0.result in
    let two = c.requires.two in
    one_there (lots is) 0 c.rows.row c.args.count i c.as_slice-left.result.now (lots_there is 0 i (omega (arith, two)) c.index-inlets-0.is)
    (c.requires.one 0 (omega arith)) (c.requires.there 0 (omega (arith, two))) (omega arith)
    (c.as_slice-left.ensures ∙ sym (ap (λ (s : SoundInlet). s.samples) c.index-inlets-0.is))

pub bounds-right-row : goal.bounds-right-row
bounds-right-row c =
    let is = c.args.inlets.now in
    let i = c.index-inlets-1.result in
    let two = c.requires.two in
    one_there (lots is) 1 c.rows.row c.args.count i c.as_slice-right.result.now (lots_there is 1 i (omega (arith, two)) c.index-inlets-1.is)
    (c.requires.one 1 (omega arith)) (c.requires.there 1 (omega (arith, two))) (omega arith)
    (c.as_slice-right.ensures ∙ sym (ap (λ (s : SoundInlet). s.samples) c.index-inlets-1.is))

pub rows-preserved : goal.rows-preserved
rows-preserved c =
    let is = c.args.inlets.now in
    let i = c.index-inlets-0.result in
    let j = c.index-inlets-1.result in
    let two = c.requires.two in
    let k = c.rows.row in
    let lt : k < c.args.count = omega arith in
    let items = c.rows.out.items in
    let xs = c.as_slice-left.result.now in
    let ys = c.as_slice-right.result.now in
    let x = slice_index_or xs k (pos 0) in
    let y = slice_index_or ys k (pos 0) in
    let mono = c.requires.one 0 (omega arith) in
    let beside = c.requires.one 1 (omega arith) in
    let first : lots is 0 ≡ lot_of i = lots_there is 0 i (omega (arith, two)) c.index-inlets-0.is in
    let second : lots is 1 ≡ lot_of j = lots_there is 1 j (omega (arith, two)) c.index-inlets-1.is in
    let same : xs ≡ i.samples = c.as_slice-left.ensures ∙ sym (ap (λ (s : SoundInlet). s.samples) c.index-inlets-0.is) in
    let other : ys ≡ j.samples = c.as_slice-right.ensures ∙ sym (ap (λ (s : SoundInlet). s.samples) c.index-inlets-1.is) in
    let left : cell (lots is 0) k ≡ x ∷ [] = one_cell (lots is 0) xs k mono (same ∙ sym (ap (λ (l : Lot). l.samples) first))
    (one_there (lots is) 0 k c.args.count i xs first mono (c.requires.there 0 (omega (arith, two))) lt same) in
    let right : cell (lots is 1) k ≡ y ∷ [] = one_cell (lots is 1) ys k beside (other ∙ sym (ap (λ (l : Lot). l.samples) second))
    (one_there (lots is) 1 k c.args.count j ys second beside (c.requires.there 1 (omega (arith, two))) lt other) in
    let row : row_to (lots is) 2 k ≡ x ∷ y ∷ [] = ap (λ (zs : List ℤ). zs ++ cell (lots is 1) k) left ∙ ap (λ (zs : List ℤ). x ∷ zs) right in
    let stored : to_z w32 (of_z w32 x) ≡ x = search rules in
    let stands : to_z w32 (of_z w32 y) ≡ y = search rules in
    let n : suc k ≡ k + 1 = omega arith in
    record {
      items = c.push_reserved-in-rows.ensures.items
          ∙ (ap (λ (v : ℤ). c.push_reserved.new.self.items ++ v ∷ []) stands
          ∙ (ap (λ (zs : List ℤ). zs ++ y ∷ []) (c.push_reserved.ensures.items ∙ ap (λ (v : ℤ). items ++ v ∷ []) stored)
          ∙ (append_assoc items (x ∷ []) (y ∷ [])
          ∙ (ap (λ (zs : List ℤ). zs ++ x ∷ y ∷ []) c.rows.invariant.items
          ∙ (ap (λ (zs : List ℤ). cells_to (lots is) 2 k ++ zs) (sym row) ∙ ap (λ (m : ℕ). cells_to (lots is) 2 m) n)))));
      long = search rules;
      space = search rules;
    }
