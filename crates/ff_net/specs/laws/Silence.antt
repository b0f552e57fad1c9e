-- Machines that tell nothing.
use Rattle.std.proofs.Common.{◌≡◌, List, ap, sym, ◌∙◌, subst}
use mathlib.Core.List.{IsPrefix}
use Rattle.ff_stream.specs.laws.Order.{prefix_self}
use Rattle.ff_frame.specs.declared.event.Event.{Event}
use Rattle.ff_net.specs.Pasts.{Past, Feed}
use Rattle.ff_net.specs.laws.Laws.{IsSilent}

-- all that is due was told
pub silent_told : (past : Past) → IsSilent past → past.told ≡ past.task.tells past.feeds
silent_told past s = s.1 ∙ sym (ap (λ (f : List Feed → List Event). f past.feeds) s.0)

pub silent_front : (past : Past) → IsSilent past → IsPrefix past.told (past.task.tells past.feeds)
silent_front past s = subst (λ (es : List Event). IsPrefix past.told es) (silent_told past s) (prefix_self past.told)
