-- The laws of a filter as a machine, from those of the filter.
use Rattle.std.specs.Prelude.{◌≡◌, ℕ, ◌<◌, Bool, true, false, length, Some, refl}
use Rattle.std.proofs.Common.{◌∙◌, arith, ap}
use Rattle.ff_net.proofs.Flows.{is_none, no_units}
use Rattle.ff_net.specs.declared.fault.Fault.{Fault}
use Rattle.ff_net.specs.declared.fault.Fault.TheVariants.{Device}
use Rattle.ff_net.specs.laws.Views.{IsSameShape}
use Rattle.ff_net.specs.laws.Laws.{FaultStep, Laws}
use Rattle.ff_net.specs.laws.Silence.{silent_front}
use Rattle.ff_net.proofs.Matters.{may_spend}
use Rattle.ff_filter.specs.Views.{View, SamePorts, IsSpent, AllDone}
use Rattle.ff_node_filter.specs.laws.Alones.{fault_by, alone_view, not_too_long, fault_caused}
use Rattle.ff_node_filter.specs.laws.StandLaws.{task_keeps, task_monotone, task_calm, task_settles, given, spent_only, all_done}

pub same_shape : (v w : View) (s t : ℕ → Bool) (hurt hurt' long long' : Bool) → SamePorts v w → IsSameShape (alone_view v s hurt long) (alone_view w t hurt' long')
same_shape v w s t hurt hurt' long long' p = record { in_lanes = p.ins; out_lanes = p.outs; source = refl }

fault_stays : (long long' : Bool) → (long ≡ true → long' ≡ true) → (c : Fault) → fault_by long ≡ Some c → fault_by long' ≡ Some c
fault_stays true long' h c e = ap fault_by (h refl) ∙ e
fault_stays false long' h c e = cc

no_source : false ≡ true → ⊥
no_source e = cc

no_device : (long : Bool) → fault_by long ≡ Some Device → ⊥
no_device true e = cc
no_device false e = cc

-- a fault that is there stays, and none is a device's
pub fares : (v w : View) (s t : ℕ → Bool) (hurt hurt' long long' : Bool) → (long ≡ true → long' ≡ true) → FaultStep (alone_view v s hurt long) (alone_view w t hurt' long')
fares v w s t hurt hurt' long long' h = record {
  device_same = refl;
  later = omega arith;
  stays = fault_stays long long' h;
  failed = λ e d. absurd (no_device long' d);
  unfailed = λ n. refl;
  behind = λ c e. refl;
}

pub alone_laws : (v : View) (spends : ℕ → Bool) (hurt long : Bool)
    → ((p : ℕ) → p < length v.ins → spends p ≡ true → IsSpent v p)
    → ((p : ℕ) → p < length v.ins → v.shut p ≡ true → spends p ≡ true)
    → ((p : ℕ) → p < length v.ins → 0 < length v.outs → AllDone v → spends p ≡ true)
    → Laws (alone_view v spends hurt long)
alone_laws v spends hurt long only shut done = record {
  is_source = λ past s. is_none past.task.source s.plain;
  units_below = λ past s. no_units past s.plain;
  valid = λ past s. s.valid;
  keeps = λ past s. task_keeps v hurt long past s;
  monotone = λ past s. task_monotone v hurt long past s;
  cause_stays = λ past s. s.lawful.cause_stays;
  calm = λ past s. task_calm v hurt long past s;
  given = λ past s. given v hurt long past s;
  unbroken = λ past s f u. s.unbroken (not_too_long long f) (s.hurt_is.1 u);
  caused = λ past c s f i. fault_caused long c (past.task.cause past.got) s.long_is f;
  spent_only = λ past p s h. may_spend v.ins past (length v.outs) p s.valid (task_monotone v hurt long past s) (spent_only v hurt long past s p h.0 (only p h.0 h.1));
  closed_spent = λ past p s lt c. (lt, shut p lt ((s.shut_is p lt).1 c));
  done_spent = λ past p s lt z c a. (lt, done p lt z (all_done v hurt long past s c a));
  settles = λ past s n ss a c q lt. task_settles v hurt long past s ss c q lt;
  told = λ past s. silent_front past s.silent;
  ticket_used = λ past q s i f p a h. h;
  tried_allowed = λ past s. omega arith;
  tried_units = λ past s i. absurd (no_source i);
}
