use Rattle.std.proofs.Common.{◌++◌}
use Rattle.std.specs.Prelude.{Some, None}
use Rattle.std.specs.List.{find}
use Rattle.ff_words.specs.maps.Choice.{lists, all_streams}
use Rattle.ff_plan_layout.specs.Pads.{is_free}
use Rattle.ff_plan_layout.specs.laws.Rows.{flat}
use Rattle.ff_plan_layout.proofs.Wants.{streams_next}
use Rattle.ff_plan_layout.proofs.wanting.free_stream.Goals as goal

pub returns-in-Some : goal.returns-in-Some
returns-in-Some c =
    let p = is_free c.args.kind (flat c.args.rows.now ++ c.args.row.now) in
    let heads = c.args.heads.now in
    streams_next p heads c.loop-input.input c.index-heads-input.result c.as_slice.result.now (Some c.in-Some.found) (find p (all_streams (lists heads))) c.loop-input-test.true c.index-heads-input.is
    c.as_slice.ensures.value c.in-Some.ensures c.loop-input.invariant

pub loop-input-preserved : goal.loop-input-preserved
loop-input-preserved c =
    let p = is_free c.args.kind (flat c.args.rows.now ++ c.args.row.now) in
    let heads = c.args.heads.now in
    streams_next p heads c.loop-input.input c.index-heads-input.result c.as_slice.result.now None (find p (all_streams (lists heads))) c.loop-input-test.true c.index-heads-input.is
    c.as_slice.ensures.value c.in_default.ensures c.loop-input.invariant
