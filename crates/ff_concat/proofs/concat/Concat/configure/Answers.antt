use Rattle.std.proofs.Common.{◌∙◌, ℕ, List, Result, Ok, length, false, sym, subst, eq-eqb}
use Rattle.ff_frame.specs.declared.config.ConfigError.{ConfigError}
use Rattle.ff_frame.specs.declared.head.StreamHead.{StreamHead}
use Rattle.ff_filter.specs.Options.{AreRead}
use Rattle.ff_concat.specs.declared.settings.ConcatSettings.{ConcatSettings}
use Rattle.ff_concat.specs.Arguments.{concat_manual}
use Rattle.ff_concat.specs.ConcatOptions.{AreJoined, IsConcat}
use Rattle.ff_concat.specs.Pads.{inputs_of}
use Rattle.ff_concat.specs.laws.Tracks.{concat_view}
use Rattle.ff_concat.proofs.Configuring.{joined_is, made_by, refused_by}
use Rattle.ff_concat.proofs.concat.Concat.configure.Goals as goal

joined : (c : goal.After-of_heads) (r : Result (List StreamHead × ℕ) ConfigError) → AreJoined c.by-asked.result c.args.heads.now r → IsConcat c.args.args.now c.args.heads.now r
joined c r h =
    let a = c.by-asked.result in
    let hs = c.args.heads.now in
    joined_is c.args.args.now hs a c.in-Ok._settings r c.by-asked.ensures.is
    (eq-eqb (length hs) (inputs_of a) (c.if-heads-inputs.false ∙ c.inputs.ensures))
    (sym c.are_of_kinds.ensures ∙ c.if-not-are_of_kinds.false)
    (subst (λ (s : ConcatSettings). AreRead concat_manual false 0 s c.args.args.now (Ok c.in-Ok._settings)) c.start.ensures c.in-Ok.ensures.read) h

pub returns-in-Ok-clause-made : goal.returns-in-Ok-clause-made
returns-in-Ok-clause-made c =
    made_by (AreJoined c.by-asked.result c.args.heads.now) (IsConcat c.args.args.now c.args.heads.now) (joined c) (λ r. concat_view r.0) (λ r. r.1.items) c.of_heads.result
    c.of_heads.ensures.made

pub returns-in-Ok-clause-refused : goal.returns-in-Ok-clause-refused
returns-in-Ok-clause-refused c =
    refused_by (AreJoined c.by-asked.result c.args.heads.now) (IsConcat c.args.args.now c.args.heads.now) (joined c) c.of_heads.result c.of_heads.ensures.refused
