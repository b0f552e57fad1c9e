use Rattle.std.proofs.Common.{List, ℕ, subst, sym, refl}
use Rattle.ff_filter.specs.Options.{IsTime}
use Rattle.ff_filter.proofs.options.read_time.Goals as goal

pub returns-in-Ok : goal.returns-in-Ok
returns-in-Ok c =
    let text = c.as_bytes.ensures.value in
    record {
      value = λ us. (λ e. subst (λ (xs : List ℕ). IsTime xs us) text ((c.in-Ok.ensures.ok us).0 (cc (e))), λ t. cc ((c.in-Ok.ensures.ok us).1 (subst (λ (xs : List ℕ). IsTime xs us) (sym text) t)));
      near = (((c.in-Ok.ensures.ok c.in-Ok.us).0 refl).1);
    }

pub returns-in-Err-clause-value : goal.returns-in-Err-clause-value
returns-in-Err-clause-value c = λ us. (λ e. cc (e), λ t. cc ((c.in-Err.ensures.ok us).1 (subst (λ (xs : List ℕ). IsTime xs us) (sym c.as_bytes.ensures.value) t)))
