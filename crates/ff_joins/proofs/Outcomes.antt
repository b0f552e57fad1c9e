-- A result that is no error.
use Rattle.std.proofs.Common.{◌≡◌, false, Result, Ok, Err}
use Rattle.std.specs.Prelude.{OnOk, is_err}

pub on_ok : {U E : Type 0} (r : Result U E) (P : Type 0) → is_err r ≡ false → OnOk r P → P
on_ok (Ok u) P n h = h
on_ok (Err e) P n h = cc
