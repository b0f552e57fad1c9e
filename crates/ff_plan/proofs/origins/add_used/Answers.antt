use Rattle.std.proofs.Common.{◌≡◌, ◌+◌, ◌<◌, List, [], ◌∷◌, ◌++◌, drop, length, sym, ap, ◌∙◌}
use Rattle.std.specs.List.{filter, list_any}
use Rattle.ff_frame.specs.declared.head.StreamHead.{StreamHead}
use Rattle.ff_words.specs.declared.maps.streams.Stream.{Stream}
use Rattle.ff_words.specs.maps.Choice.{stream_at, numbered}
use Rattle.ff_plan_layout.specs.Layout.{shows}
use Rattle.ff_plan_layout.proofs.Filters.{filter_next}
use Rattle.ff_plan_layout.proofs.Fronts.{drop_next}
use Rattle.ff_plan.proofs.origins.add_used.Goals as goal

pub loop-number-preserved : goal.loop-number-preserved
loop-number-preserved c =
    let origins = c.args.origins.now in
    let input = c.args.input in
    let heads = c.args.heads.now in
    let n = c.loop-number.number in
    let x = c.index-heads-number.result in
    let front = c.loop-number.used.items in
    let rest = drop (n + 1) heads in
    let lt : n < length heads = c.loop-number-test.true in
    let here : drop n heads ≡ x ∷ rest = drop_next heads n x lt ∙ ap (λ (y : StreamHead). y ∷ rest) (sym c.index-heads-number.is) in
    let e : c.add_shown.new.used.items ≡ front ++ filter (λ (s : Stream). list_any (shows s.at) origins) (stream_at input n x ∷ []) =
    c.in_ok-add_shown.ensures ∙ ap (λ (s : Stream). front ++ filter (λ (s : Stream). list_any (shows s.at) origins) (s ∷ [])) c.stream_at-stream.ensures in
    filter_next (λ (s : Stream). list_any (shows s.at) origins) front c.add_shown.new.used.items (stream_at input n x) (numbered input (n + 1) rest)
    (c.args.used.now.items ++ filter (λ (s : Stream). list_any (shows s.at) origins) (numbered input 0 heads)) e
    (ap (λ (hs : List StreamHead). front ++ filter (λ (s : Stream). list_any (shows s.at) origins) (numbered input n hs)) (sym here) ∙ c.loop-number.invariant)
