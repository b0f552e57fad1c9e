use Rattle.std.proofs.Common.{ℕ, sym, subst}
use Rattle.ff_flac_frame.specs.laws.Gives.{Gives}
use Rattle.ff_flac_frame.specs.Frame.{rate_of}
use Rattle.ff_flac_frame.proofs.header.read_rate.Goals as goal

pub returns-then-code-eq13 : goal.returns-then-code-eq13
unfolding rate_of
returns-then-code-eq13 c =
    subst (λ (k : ℕ). Gives (λ v. v) c.read_field-then-code-eq13.result (rate_of c.args.rate k c.args.reader.now) c.read_field-then-code-eq13.new.reader) (sym c.if-code-eq13.true) c.read_field-then-code-eq13.ensures.reads

pub returns-then-code-eq14 : goal.returns-then-code-eq14
unfolding rate_of
returns-then-code-eq14 c =
    subst (λ (k : ℕ). Gives (λ v. v) c.read_field-then-code-eq14.result (rate_of c.args.rate k c.args.reader.now) c.read_field-then-code-eq14.new.reader) (sym c.if-code-eq14.true) c.read_field-then-code-eq14.ensures.reads
