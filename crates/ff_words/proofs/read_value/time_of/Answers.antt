use Rattle.std.proofs.Common.{inl, refl, ap, subst, Err, sym}
use Rattle.ff_time.specs.Duration.{IsDuration, IsBadAt}
use Rattle.ff_words.proofs.read_value.time_of.Goals as goal

pub micros-requires : goal.micros-requires
micros-requires c = ((c.in-Ok.ensures.ok c.in-Ok.us).0 refl).1

pub returns-in-Ok : goal.returns-in-Ok
returns-in-Ok c =
    subst (λ t. IsDuration t c.micros.result.us) c.as_bytes.ensures.value
    (subst (λ u. IsDuration c.as_bytes.result.now u) (sym c.micros.ensures) ((c.in-Ok.ensures.ok c.in-Ok.us).0 refl).0)

pub returns-in-Err-BadTime : goal.returns-in-Err-BadTime
returns-in-Err-BadTime c = inl (c.in-Err-BadTime.at, subst (λ t. IsBadAt t c.in-Err-BadTime.at) c.as_bytes.ensures.value ((c.in-Err-BadTime.ensures.bad_time c.in-Err-BadTime.at).0 (ap Err c.in-Err-BadTime.field-0-is)), refl)
