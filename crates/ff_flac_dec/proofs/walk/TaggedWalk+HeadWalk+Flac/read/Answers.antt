use Rattle.std.proofs.Common.{◌∙◌, sym}
use Rattle.ff_flac_dec.proofs.HeadLemmas.{exact_on, exact_found, exact_over}
use Rattle.ff_flac_dec.proofs.walk.TaggedWalk+HeadWalk+Flac.read.Goals as goal
use Rattle.ff_flac_dec.proofs.walk.TaggedWalk+HeadWalk+Flac.read.Goals.{else-whole-via-then-whole+else-is_open, else-whole-via-else-whole}

pub returns-then-is_open-clause-exact : goal.returns-then-is_open-clause-exact
returns-then-is_open-clause-exact c = λ h.
    c.ended.ensures ∙ exact_over c.args.whole c.args.bytes.now c.read-found.result c.if-whole.true (c.read-found.ensures.exact h) (c.is_open.ensures.0 c.if-is_open.true)

pub returns-clause-exact : goal.returns-clause-exact
returns-clause-exact c = λ h. elim c.else-whole.branch [
  | else-whole-via-then-whole+else-is_open w ↦
      exact_found c.args.whole c.args.bytes.now c.read-found.result w.if-whole.true (c.read-found.ensures.exact h)
      (λ e. let clash = sym w.if-is_open.false ∙ w.is_open.ensures.1 e in cc)
  | else-whole-via-else-whole w ↦ exact_on c.args.whole c.args.bytes.now c.read-found.result w.if-whole.false (c.read-found.ensures.exact h)
]
