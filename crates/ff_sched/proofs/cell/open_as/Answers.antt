use Rattle.std.proofs.Common.{rules, ◌≡◌, sym, ap, ◌∙◌, slice_index}
use Rattle.crossbeam_utils.specs.Seq.{cell_view}
use Rattle.ff_sched.specs.State.{State}
use Rattle.ff_sched.proofs.Histories.{begins, opens}
use Rattle.ff_sched.proofs.Steps.{count_is}
use Rattle.ff_sched.proofs.cell.open_as.Goals as goal

pub ruled-requires : goal.ruled-requires
ruled-requires g c =
    let start : slice_index c.state.inside.words 18 ≡ 0 = sym (count_is c.state.inside.words) ∙ ap (λ (s : State). s.count) c.state.view_is ∙ c.requires.count in
    (search rules, (search rules, begins c.state.inside.words start))

pub swap_as-requires : goal.swap_as-requires
swap_as-requires g c =
    let start : slice_index c.state.inside.words 18 ≡ 0 = sym (count_is c.state.inside.words) ∙ ap (λ (s : State). s.count) c.state.view_is ∙ c.requires.count in
    let v = c.in_ok-cell.ensures.1 in
    (search rules, (search rules, (c.in_ok-cell.ensures.0, opens _ (cell_view c.in_ok-cell.seat) g.F.Routed.routes c.state.inside.words (ap (λ v. v.share) v) (ap (λ v. v.mine) v) (ap (λ v. v.seen) v) start)))
