-- What `concat` answers is what the function says.
use Rattle.std.proofs.Common.{◌≡◌, ℕ, Bool, true, false, cond, List, length, take, Result, Ok, Err, refl, inl, inr, sym, ap, ◌∙◌, arith}
use Rattle.std.specs.Prelude.{IfErr, ◌==◌}
use Rattle.std.proofs.lemmas.Bool.Decides.{nat_tests}
use Rattle.ff_frame.specs.declared.config.ConfigError.{ConfigError}
use Rattle.ff_frame.specs.declared.config.ConfigError.TheVariants.{Pads, Kind, Mismatch}
use Rattle.ff_frame.specs.declared.head.StreamHead.{StreamHead}
use Rattle.ff_lang.specs.declared.graph.Arg.{Arg}
use Rattle.ff_filter.specs.Options.{AreRead, Checked}
use Rattle.ff_concat.specs.declared.settings.Asked.{Asked}
use Rattle.ff_concat.specs.declared.settings.ConcatSettings.{ConcatSettings}
use Rattle.ff_concat.specs.Arguments.{asked, streams_of, concat_manual, concat_start}
use Rattle.ff_concat.specs.ConcatOptions.{are_of_kinds, AreAlike, AreJoined, AfterRead, IsConcat}
use Rattle.ff_concat.specs.Heads.{all_alike}
use Rattle.ff_concat.specs.Pads.{inputs_of}
use Rattle.ff_concat.specs.Configured.{joined_as, after_read, concat_by}
use Rattle.ff_concat.proofs.SameHeads.{alike_so, unlike_so}

checked_is : {X : Type 0} (c : Bool) (e : ConfigError) (q r : Result X ConfigError) (next : Result X ConfigError → Type 0) → (next r → q ≡ r) → Checked c e next r
    → cond c q (Err e) ≡ r
checked_is true e q r next same h = same h
checked_is false e q r next same h = sym h

read_is : {X : Type 0} (read : Result ConcatSettings ConfigError) (q r : Result X ConfigError) (next : Result X ConfigError → Type 0) → (next r → q ≡ r)
    → AfterRead next read r → after_read q read ≡ r
read_is (Ok s) q r next same h = same h
read_is (Err e) q r next same h = sym h

-- what is made of alike segments, or why they are refused
pub joined_is : (a : Asked) (heads : List StreamHead) (r : Result (List StreamHead × ℕ) ConfigError) → AreJoined a heads r → joined_as a heads ≡ r
joined_is a heads r j = at (all_alike (streams_of a) heads) refl j
  where
    at : (b : Bool) → all_alike (streams_of a) heads ≡ b → AreJoined a heads r → cond b (Ok (take (streams_of a) heads, a.segments)) (Err Mismatch) ≡ r
    at true e (inl h) = sym h.1
    at true e (inr h) = absurd (h.0 (alike_so (streams_of a) heads e))
    at false e (inl h) = absurd (unlike_so (streams_of a) heads e h.0)
    at false e (inr h) = sym h.1

-- an answer is that of the function, where `read` is how the arguments are read
pub concat_is : (args : List Arg) (heads : List StreamHead) (read : Result ConcatSettings ConfigError) (r : Result (List StreamHead × ℕ) ConfigError)
    → ((q : Result ConcatSettings ConfigError) → AreRead concat_manual false 0 (concat_start args) args q → read ≡ q) → IsConcat args heads r
    → concat_by read args heads ≡ r
concat_is args heads read r so is =
    checked_is (length heads == inputs_of (asked args)) Pads (cond (are_of_kinds (asked args) heads) (after_read (joined_as (asked args) heads) read) (Err Kind)) r
    (λ q. Checked (are_of_kinds (asked args) heads) Kind Next q)
    (λ k. checked_is (are_of_kinds (asked args) heads) Kind (after_read (joined_as (asked args) heads) read) r Next
    (λ n. ap (λ (q : Result ConcatSettings ConfigError). after_read (joined_as (asked args) heads) q) (so n.0 n.1)
    ∙ read_is n.0 (joined_as (asked args) heads) r (AreJoined (asked args) heads) (λ j. joined_is (asked args) heads r j) n.2) k) is
  where
    Next : Result (List StreamHead × ℕ) ConfigError → Type 0
    Next u = (q : Result ConcatSettings ConfigError) × AreRead concat_manual false 0 (concat_start args) args q × AfterRead (AreJoined (asked args) heads) q u

refused : {X : Type 0} (P : ConfigError → Type 0) (c : Bool) (e : ConfigError) (r : Result X ConfigError) → P e → IfErr r P → IfErr (cond c r (Err e)) P
refused P true e r p h = h
refused P false e r p h = p

unread : {X : Type 0} (P : ConfigError → Type 0) (r : Result X ConfigError) (read : Result ConcatSettings ConfigError) → IfErr r P → IfErr read P
    → IfErr (after_read r read) P
unread P r (Ok s) h k = h
unread P r (Err e) h k = k

joined-so : (P : ConfigError → Type 0) (a : Asked) (heads : List StreamHead) → P Mismatch → IfErr (joined_as a heads) P
joined-so P a heads m = refused P (all_alike (streams_of a) heads) Mismatch (Ok (take (streams_of a) heads, a.segments)) m tt

-- why the function refuses: the arguments, or one of these reasons
pub concat-so : (P : ConfigError → Type 0) (args : List Arg) (heads : List StreamHead) (read : Result ConcatSettings ConfigError) → P Pads → P Kind → P Mismatch
    → IfErr read P → IfErr (concat_by read args heads) P
concat-so P args heads read p k m h =
    refused P (length heads == inputs_of (asked args)) Pads (cond (are_of_kinds (asked args) heads) (after_read (joined_as (asked args) heads) read) (Err Kind)) p
    (refused P (are_of_kinds (asked args) heads) Kind (after_read (joined_as (asked args) heads) read) k
    (unread P (joined_as (asked args) heads) read (joined-so P (asked args) heads m) h))

-- what was made of the heads of all inputs
pub record IsMadeOf (a : Asked) (heads : List StreamHead) (m : List StreamHead × ℕ) : Type 0 where
  pub count : length heads ≡ inputs_of a
  pub kinds : are_of_kinds a heads ≡ true
  pub alike : AreAlike (streams_of a) heads
  pub made : m ≡ (take (streams_of a) heads, a.segments)

passed : {X : Type 0} (c : Bool) (e : ConfigError) (r : Result X ConfigError) (x : X) → cond c r (Err e) ≡ Ok x → (c ≡ true) × (r ≡ Ok x)
passed true e r x h = (refl, h)
passed false e r x h = cc

was_read : {X : Type 0} (r : Result X ConfigError) (read : Result ConcatSettings ConfigError) (x : X) → after_read r read ≡ Ok x → r ≡ Ok x
was_read r (Ok s) x h = h
was_read r (Err e) x h = cc

-- what the function makes
pub concat_made : (args : List Arg) (heads : List StreamHead) (read : Result ConcatSettings ConfigError) (m : List StreamHead × ℕ) → concat_by read args heads ≡ Ok m
    → IsMadeOf (asked args) heads m
concat_made args heads read m h =
    let a = asked args in
    let first = passed (length heads == inputs_of a) Pads (cond (are_of_kinds a heads) (after_read (joined_as a heads) read) (Err Kind)) m h in
    let second = passed (are_of_kinds a heads) Kind (after_read (joined_as a heads) read) m first.1 in
    let third = passed (all_alike (streams_of a) heads) Mismatch (Ok (take (streams_of a) heads, a.segments)) m (was_read (joined_as a heads) read m second.1) in
    record {
      count = same (length heads) (inputs_of a) first.0;
      kinds = second.0;
      alike = alike_so (streams_of a) heads third.0;
      made = (let e = third.1 in cc);
    }
  where
    same : (x y : ℕ) → (x == y) ≡ true → x ≡ y
    same x y e = grind (arith, nat_tests)
