use Rattle.std.proofs.Common.{◌∙◌, ◌≡◌, ◌≤◌, ap, arith, length, ◌+◌, ◌*◌}
use Rattle.std.proofs.lemmas.List.{length-take-le}
use Rattle.std.proofs.lemmas.Nat.{row_fits}
use Rattle.ff_planes.proofs.TurnLaws.{swapped_upper, swapped_others}
use Rattle.ff_planes.proofs.flips.swap_rows.Goals as goal

pub returns-clause-upper : goal.returns-clause-upper
returns-clause-upper c =
    let above : c.args.upper * c.args.columns + c.args.columns ≤ c.args.lower * c.args.columns = row_fits c.args.upper c.args.columns c.args.lower c.args.columns c.requires.order (omega arith) in
    let below : c.args.lower * c.args.columns + c.args.columns ≤ c.args.rows * c.args.columns = row_fits c.args.lower c.args.columns c.args.rows c.args.columns c.requires.there (omega arith) in
    let wide : length c.swap_with_slice.new.self ≡ c.args.columns =
    ap length c.swap_with_slice.ensures.after ∙ length-take-le c.args.columns c.split_at_mut-front.result.1.now (omega (arith, c.split_at_mut-front.ensures.back_len, c.requires.size)) in
    swapped_upper c.args.columns c.args.upper c.args.lower _ _ _ _ _ c.args.bytes.now (omega (arith, c.split_at_mut-front.ensures.front_len)) wide c.swap_with_slice.ensures.after c.split_at_mut-front.ensures.back

pub returns-clause-others : goal.returns-clause-others
returns-clause-others c row lt not_upper not_lower =
    let below : c.args.lower * c.args.columns + c.args.columns ≤ c.args.rows * c.args.columns = row_fits c.args.lower c.args.columns c.args.rows c.args.columns c.requires.there (omega arith) in
    let fits : c.args.columns ≤ length c.split_at_mut-front.result.1.now = omega (arith, c.split_at_mut-front.ensures.back_len, c.requires.size) in
    let wide : length c.swap_with_slice.new.self ≡ c.args.columns = ap length c.swap_with_slice.ensures.after ∙ length-take-le c.args.columns c.split_at_mut-front.result.1.now fits in
    let also : length c.swap_with_slice.new.other ≡ c.args.columns = c.swap_with_slice.ensures.other_len ∙ length-take-le c.args.columns c.split_at_mut-front.result.1.now fits in
    swapped_others c.args.columns c.args.rows c.args.upper c.args.lower _ row _ _ _ _ c.args.bytes.now (omega arith) c.requires.size c.requires.there c.requires.order c.split_at_mut-front.ensures.front_len wide also c.split_at_mut-front.ensures.value c.split_at_mut-front.ensures.back lt not_upper not_lower
