use Rattle.std.proofs.Common.{◌<◌, length, slice_set, arith, refl, ap, ◌∙◌}
use Rattle.ff_filter.specs.laws.spread.Lines.{Line, lines}
use Rattle.ff_filter.specs.laws.spread.LineLaws.{lines_read}
use Rattle.ff_filter.proofs.SpreadLemmas.Putting.{line_same, lines_kept, put_more, put_all, unwanted}
use Rattle.ff_filter.proofs.spread.outlets.+spread.Goals as goal

pub returns-then-index-clause-put : goal.returns-then-index-clause-put
returns-then-index-clause-put g t c =
    let os = c.args.outlets.now.items in
    let lt : c.args.port < length os = omega arith in
    let o = c.index.result.now in
    put_more c.spread.result os c.spread.new.outlets.items c.args.port o (λ q. g.S.Share.shared c.args.share.now q c.args.item) lt
    (ap (λ (l : Line). l.stopped) (lines_read os c.args.port o o lt c.index.ensures) ∙ c.if-index.true) c.spread.ensures.count c.spread.ensures.front c.spread.ensures.put

pub returns-then-is_err-clause-unchanged : goal.returns-then-is_err-clause-unchanged
returns-then-is_err-clause-unchanged g t c q =
    let os = c.args.outlets.now.items in
    let lt : c.args.port < length os = omega arith in
    lines_kept os c.args.port c.index_mut.result.now c.reserve.new.self lt c.index_mut.ensures.value
    (line_same c.reserve.new.self c.index_mut.result.now c.reserve.ensures.queue c.reserve.ensures.ended c.reserve.ensures.stopped) q

pub returns-then-not-is_wanted-clause-put : goal.returns-then-not-is_wanted-clause-put
returns-then-not-is_wanted-clause-put g t c =
    let os = c.args.outlets.now.items in
    let lt : c.args.port < length os = omega arith in
    let made = slice_set os c.args.port c.reserve.new.self in
    put_all os made c.args.port c.index_mut.result.now c.reserve.new.self c.index_mut-then-not-is_wanted.result.now c.put.new.self c.turn-item.result (λ q. g.S.Share.shared c.args.share.now q c.args.item) lt c.index_mut.ensures.value
    (line_same c.reserve.new.self c.index_mut.result.now c.reserve.ensures.queue c.reserve.ensures.ended c.reserve.ensures.stopped) refl (λ q d less. refl) c.index_mut-then-not-is_wanted.ensures.value
    c.turn-item.ensures.is c.put.ensures.put c.put.ensures.ended c.put.ensures.stopped
    (λ q le there. unwanted (lines made q) (lines made q) (g.S.Share.shared c.args.share.now q c.args.item) refl (c.is_wanted.ensures c.if-not-is_wanted.true q le there))

pub returns-in-Err-clause-unchanged : goal.returns-in-Err-clause-unchanged
returns-in-Err-clause-unchanged g t c q =
    let os = c.args.outlets.now.items in
    let lt : c.args.port < length os = omega arith in
    lines_kept os c.args.port c.index_mut.result.now c.reserve.new.self lt c.index_mut.ensures.value
    (line_same c.reserve.new.self c.index_mut.result.now c.reserve.ensures.queue c.reserve.ensures.ended c.reserve.ensures.stopped) q

pub returns-in-Err-spread-clause-unchanged : goal.returns-in-Err-spread-clause-unchanged
returns-in-Err-spread-clause-unchanged g t c q =
    let os = c.args.outlets.now.items in
    let lt : c.args.port < length os = omega arith in
    c.in-Err-spread.ensures.unchanged q
    ∙ lines_kept os c.args.port c.index_mut.result.now c.reserve.new.self lt c.index_mut.ensures.value
    (line_same c.reserve.new.self c.index_mut.result.now c.reserve.ensures.queue c.reserve.ensures.ended c.reserve.ensures.stopped) q

pub returns-in-Ok-spread-clause-put : goal.returns-in-Ok-spread-clause-put
returns-in-Ok-spread-clause-put g t c =
    let os = c.args.outlets.now.items in
    let lt : c.args.port < length os = omega arith in
    put_all os c.spread-in-Ok.new.outlets.items c.args.port c.index_mut.result.now c.reserve.new.self c.index_mut-in-Ok-spread.result.now c.put-in-Ok-spread.new.self c.in-Ok.copy (λ q. g.S.Share.shared c.args.share.now q c.args.item) lt c.index_mut.ensures.value
    (line_same c.reserve.new.self c.index_mut.result.now c.reserve.ensures.queue c.reserve.ensures.ended c.reserve.ensures.stopped) c.in-Ok-spread.ensures.count c.in-Ok-spread.ensures.front c.index_mut-in-Ok-spread.ensures.value
    c.in-Ok.ensures.is c.put-in-Ok-spread.ensures.put c.put-in-Ok-spread.ensures.ended c.put-in-Ok-spread.ensures.stopped c.in-Ok-spread.ensures.put
