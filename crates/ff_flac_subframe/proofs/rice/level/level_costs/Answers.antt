use Rattle.std.proofs.Common.{◌≡◌, ◌∙◌, ◌≤◌, ◌^◌, length, arith, ap, sym}
use Rattle.std.specs.List.{All, sum}
use Rattle.std.proofs.lemmas.List.Elements.{All-weaker}
use Rattle.ff_flac_subframe.specs.laws.rice.Columns.{items_of, least_each}
use Rattle.ff_flac_subframe.proofs.RiceLemmas.ColumnLemmas.{items_front, items_back, least_small, least_all_of}
use Rattle.ff_flac_subframe.proofs.rice.level.level_costs.Goals as goal

pub put_least-requires-clause-same : goal.put_least-requires-clause-same
put_least-requires-clause-same c =
    items_front (λ costs. length costs ≡ length c.args.least.now) c.args.columns.now c.split_at.result.0.now _ c.split_at.ensures.front c.requires.same

pub total-requires : goal.total-requires
total-requires c =
    let front = c.split_at.result.0.now in
    let small : sum (least_each (items_of front)) ≤ 2 ^ 56 = least_small (length c.args.least.now) (items_of front) c.requires.few
    (items_front (λ costs. length costs ≡ length c.args.least.now) c.args.columns.now front _ c.split_at.ensures.front c.requires.same)
    (items_front (All (λ cost. cost ≤ 2 ^ 48)) c.args.columns.now front _ c.split_at.ensures.front c.requires.small) in
    omega (arith, ap sum c.put_least.ensures.least, small)

pub overflow_add-first : goal.overflow_add-first
overflow_add-first c = omega (arith, c.total.ensures.small, c.requires.few)

pub overflow_add-result : goal.overflow_add-result
overflow_add-result c = omega (arith, c.total.ensures.small, c.requires.few)

pub returns-then-is_empty-clause-first_small : goal.returns-then-is_empty-clause-first_small
returns-then-is_empty-clause-first_small c = omega (arith, c.total.ensures.small, c.requires.few)

pub returns-then-is_empty-clause-second_small : goal.returns-then-is_empty-clause-second_small
returns-then-is_empty-clause-second_small c = omega (arith, c.total.ensures.small, c.requires.few)

pub lower_by-requires : goal.lower_by-requires
lower_by-requires c =
    All-weaker (λ costs. length costs ≡ length c.args.least.now) (λ costs. length costs ≡ length c.put_least.new.least) (λ costs e. e ∙ sym c.put_least.ensures.len) _
    (items_back (λ costs. length costs ≡ length c.args.least.now) c.args.columns.now c.split_at.result.1.now _ c.split_at.ensures.back c.requires.same)

pub total-requires-2 : goal.total-requires-2
total-requires-2 c =
    let split = c.split_at in
    let all = least_all_of c.args.columns.now split.result.0.now split.result.1.now _ c.put_least.new.least c.lower_by.new.least split.ensures.front split.ensures.back
    (omega (arith, split.ensures.front_len, c.min.ensures, c.requires.span.first, c.requires.span.some_parameter))
    c.put_least.ensures.least c.lower_by.ensures.least in
    omega (arith, ap sum all, least_small (length c.args.least.now) (items_of c.args.columns.now) c.requires.few c.requires.same c.requires.small)

pub returns-clause-second : goal.returns-clause-second
returns-clause-second c =
    let split = c.split_at in
    let all = least_all_of c.args.columns.now split.result.0.now split.result.1.now _ c.put_least.new.least c.lower_by.new.least split.ensures.front split.ensures.back
    (omega (arith, split.ensures.front_len, c.min.ensures, c.requires.span.first, c.requires.span.some_parameter))
    c.put_least.ensures.least c.lower_by.ensures.least in
    omega (arith, c.total-2.ensures.is, ap sum all)
