-- What a node that is done has told.
use Rattle.std.proofs.Common.{◌≡◌, ℕ, false, inl, inr, length, sym, ◌∙◌}
use Rattle.ff_net.specs.declared.node.Node.{Node}
use Rattle.ff_net.specs.laws.Logs.{told_in}
use Rattle.ff_net.specs.laws.Nodes.{IsDone, NodeStands}
use Rattle.ff_net.specs.Pasts.{Past}
use Rattle.ff_net.specs.laws.Views.{View}
use Rattle.ff_net.specs.laws.Worlds.{Wire}
use Rattle.ff_net.proofs.Changes.{true_not_false}
use Rattle.ff_net.proofs.Readying.{pending_busy}

-- of a node that is done and was refused no memory, the log has each event that was due by what was fed
pub done_told : {M : Type 0} (view : M → View) (node : Node M) (world : ℕ → Wire) (past : Past) → NodeStands view node world past → node.refused ≡ false → length node.outs.items ≡ length (view node.machine).out_lanes → IsDone node → told_in node.pass.log ≡ past.task.tells past.feeds
done_told view node world past was ok count done =
    elim done.told [
      | inl quiet ↦ elim (was.log.quiet quiet) [
        | inl all ↦ was.log.all_told ok ∙ all
        | inr reading ↦
            let b = pending_busy view node world past (length (view node.machine).out_lanes) reading.port was (ok, reading.sound) count reading.pending in
            absurd (true_not_false (sym (done.outs reading.port b.0) ∙ b.1))
      ]
      | inr refused ↦ absurd (true_not_false (sym refused ∙ ok))
    ]
