use Rattle.std.proofs.Common.{◌≡◌, ◌≢◌, ◌∙◌, ◌+◌, ℕ, List, [], get_or, get_or-set_other, length, take, ap, arith}
use lib.Lanes.{pair_sums}
use Rattle.std.proofs.lemmas.List.{length-map, map-set}
use Rattle.ff_flac_subframe.specs.laws.rice.Columns.{items_of}
use Rattle.ff_flac_subframe.proofs.RiceLemmas.ColumnLemmas.{item_at, columns_more}
use Rattle.ff_flac_subframe.proofs.rice.column.halve.Goals as goal

pub loop-i-preserved : goal.loop-i-preserved
loop-i-preserved c =
    let i : ℕ = c.loop-i.i in
    let columns = c.loop-i.columns.items in
    let old : List (List ℕ) = items_of columns in
    let new = c.halve_column.new.costs in
    let len : length old ≡ length columns = length-map columns (λ v. v.items) in
    let len_before : length (items_of c.args.columns.now.items) ≡ length c.args.columns.now.items = length-map c.args.columns.now.items (λ v. v.items) in
    let set_in = map-set (λ v. v.items) columns i new in
    let here = item_at columns i c.index_mut.result.now (omega (arith, c.loop-i-test.true, c.loop-i.columns.ok, c.loop-i.invariant.len)) c.index_mut.ensures.value in
    record {
      len = c.loop-i.invariant.len;
      is = ap (take (i + 1)) set_in
          ∙ columns_more old (items_of c.args.columns.now.items) i new.items
          (omega (arith, c.loop-i-test.true, c.loop-i.columns.ok, c.loop-i.invariant.len, len))
          (omega (arith, c.loop-i.columns.ok, c.args.columns.now.ok, c.loop-i.invariant.len, len, len_before))
          (c.loop-i.invariant.rest i (omega arith)) (c.halve_column.ensures ∙ ap pair_sums here) c.loop-i.invariant.is;
      rest = λ j h.
          let ne : j ≢ i = omega (arith, h) in
          ap (λ l. get_or l j []) set_in ∙ get_or-set_other old i j new.items [] ne ∙ c.loop-i.invariant.rest j (omega (arith, h));
    }
