use Rattle.std.proofs.Common.{rules, None}
use Rattle.ff_filter.specs.Options.{is_sound}
use Rattle.ff_filter.specs.Plain.{IsRebase, rebase_view, expr_manual}
use Rattle.ff_filter.proofs.Configuring.{configured, made_of_both}
use Rattle.ff_afilter.proofs.aset_pts.ASetPts.configure.Goals as goal

pub returns-else-not-settings-clause-made : goal.returns-else-not-settings-clause-made
returns-else-not-settings-clause-made c =
    let args = c.args.args.now in
    let heads = c.args.heads.now in
    made_of_both (IsRebase is_sound args heads) rebase_view (λ m. m.head) (record { head = c.in-Ok.head; first = None }) c.machine_of.result _ _
    (configured is_sound expr_manual _ _ args heads c.sound_settings.result c.in-Ok.head c.in-Ok.settings _ c.sound_settings.ensures c.in-Ok.is (search rules)) c.machine_of.ensures.view c.machine_of.ensures.heads
