use Rattle.std.proofs.Common.{◌≡◌, Bool, List, map, IfOk, sym, ap, ◌∙◌, subst}
use Rattle.ff_words.specs.declared.maps.map.Kind.TheVariants as kind
use Rattle.ff_words.specs.declared.maps.streams.StreamRef.{StreamRef}
use Rattle.ff_words.specs.maps.Choice.{lists}
use Rattle.ff_plan_layout.specs.Choice.{known, best}
use Rattle.ff_plan_layout.specs.Streams.{as_pad, is_wanted}
use Rattle.ff_plan_layout.proofs.Best.{best_is}
use Rattle.ff_plan_layout.proofs.picking.automatic.Goals as goal

pub returns : goal.returns
returns c =
    let heads = lists c.args.ready.now.heads.now in
    let out = c.args.out.now in
    let before = c.args.before.now in
    let refs : c.as_slice.result.now ≡ best heads (is_wanted out before kind.Video) (is_wanted out before kind.Audio) =
    c.as_slice.ensures.value ∙ (sym (best_is c.looks_for-video.result c.looks_for-audio.result heads c.in_ok-refs.refs.items c.in_ok-refs.ensures)
    ∙ (ap (λ (b : Bool). best heads b c.looks_for-audio.result) c.looks_for-video.ensures ∙ ap (λ (b : Bool). best heads (is_wanted out before kind.Video) b) c.looks_for-audio.ensures)) in
    subst (λ (l : List StreamRef). IfOk c.shown.result (λ pads. pads.items ≡ map as_pad (known heads l))) refs c.shown.ensures
