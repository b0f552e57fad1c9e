-- What a chunk or list does, it does whatever follows.
use Rattle.std.proofs.Common.{◌≡◌, ℕ, ◌+◌, ◌-◌, ◌≤◌, inl, inr, Bool, true, false, cond, List, ◌++◌, length, Option, Some, None, Ok, Err, refl, sym, ap, ◌∙◌, arith}
use Rattle.std.specs.Prelude.{nat_lt, nat_le, codes, ◌==◌, ◌&&◌, not}
use Rattle.std.specs.Str.{bytes_eq}
use Rattle.ff_frame.specs.declared.head.StreamHead.{StreamHead}
use Rattle.ff_reader.specs.declared.fault.HeadFault.TheVariants.{Damaged}
use Rattle.ff_reader.specs.declared.step.Step.TheVariants.{Wait, Decide, Skip}
use Rattle.ff_wav.specs.Chunks.{number_32}
use Rattle.ff_wav.specs.laws.ChunkLaws.{front_32}
use Rattle.ff_avi.specs.declared.head.AviState.{AviState}
use Rattle.ff_avi.specs.Streams.{padded, word, Told}
use Rattle.ff_avi.specs.Lists.{AviStep, rest_of, passed, with_stream, after_stream, data_list, outer_list, inner_list, unit}
use Rattle.ff_avi.specs.laws.StreamLaws.{Settles, settles_decided, settles_if, settles_wait, front_word, not_less, stream_settles, IsNear, stream_near}

rest_same : (bs more : List ℕ) → 8 ≤ length bs → rest_of bs ≡ rest_of (bs ++ more)
rest_same bs more le = ap (λ n. 7 + padded n) (sym (front_32 bs more 4 (omega arith)))

passed_settles : (known : AviState) (bs more : List ℕ) → 8 ≤ length bs → Settles Wait (passed known (rest_of bs)) (passed known (rest_of (bs ++ more)))
passed_settles known bs more le = inr (ap (passed known) (rest_same bs more le))

after_settles : (known : AviState) (bs more : List ℕ) (s t : Told) → 8 ≤ length bs → Settles None s t
    → Settles Wait (after_stream known (rest_of bs) s) (after_stream known (rest_of (bs ++ more)) t)
after_settles known bs more s t le (inl e) = inl (ap (after_stream known (rest_of bs)) e)
after_settles known bs more s t le (inr e) = inr (ap (λ n. after_stream known n s) (rest_same bs more le) ∙ ap (after_stream known (rest_of (bs ++ more))) e)

outer_settles : (known : AviState) (at : ℕ) (bs more : List ℕ) → 12 ≤ length bs → Settles Wait (outer_list known at bs) (outer_list known at (bs ++ more))
unfolding outer_list
outer_settles known at bs more le =
    let name = front_word 8 bs more (omega arith) in
    let size = sym (front_32 bs more 4 (omega arith)) in
    settles_decided Wait _ _ _ _ _ (ap (λ w. bytes_eq w (codes "movi")) name)
    (settles_if Wait _ _ _ _ _ _
    (ap (λ w. bytes_eq w (codes "hdrl") && nat_le 4 (number_32 4 bs)) name ∙ ap (λ n. bytes_eq (word 8 (bs ++ more)) (codes "hdrl") && nat_le 4 n) size)
    (inr (ap (λ n. Skip 11 (record known { left = n - 4 })) size))
    (passed_settles known bs more (omega arith)))

inner_settles : (known : AviState) (at : ℕ) (bs more : List ℕ) → 12 ≤ length bs → Settles Wait (inner_list known at bs) (inner_list known at (bs ++ more))
unfolding inner_list
inner_settles known at bs more le = settles_if Wait _ _ _ _ _ _ (ap (λ w. bytes_eq w (codes "strl")) (front_word 8 bs more (omega arith)))
    (after_settles known bs more _ _ (omega arith) (stream_settles known at bs more le)) (passed_settles known bs more (omega arith))

-- what a chunk or list does is the same whatever follows, unless it waits
pub unit_settles : (known : AviState) (at : ℕ) (bs more : List ℕ) → Settles Wait (unit known at bs) (unit known at (bs ++ more))
unfolding unit
unit_settles known at bs more = settles_wait Wait bs more 8 _ _ (λ short.
    settles_if Wait _ _ _ _ _ _ (ap (λ w. not (bytes_eq w (codes "LIST"))) (front_word 0 bs more (omega arith))) (passed_settles known bs more short)
    (settles_if Wait _ _ _ _ _ _ (ap (λ n. nat_lt 0 known.left && nat_lt n 4) (sym (front_32 bs more 4 (omega arith)))) (passed_settles known bs more short)
    (settles_wait Wait bs more 12 _ _ (λ long.
    settles_if Wait (known.left == 0) (known.left == 0) _ _ _ _ refl (outer_settles known at bs more long) (inner_settles known at bs more long)))))

-- ---- a damage is 8 bytes before the end of what is there, or further before it

IsNearStep : ℕ → AviStep → Type 0
IsNearStep end step = (p : ℕ) → step ≡ Decide (Err (Damaged p)) → p + 8 ≤ end

near_if : (end : ℕ) (b : Bool) (s t : AviStep) → IsNearStep end s → IsNearStep end t → IsNearStep end (cond b s t)
near_if end true s t p q = p
near_if end false s t p q = q

near_none : (end : ℕ) → IsNearStep end Wait
unfolding IsNearStep
near_none end p e = cc

near_wait : (end : ℕ) (bs : List ℕ) (k : ℕ) (t : AviStep) → (k ≤ length bs → IsNearStep end t) → IsNearStep end (cond (nat_lt (length bs) k) Wait t)
near_wait end bs k t h = pick (nat_lt (length bs) k) refl
  where
    pick : (b : Bool) → nat_lt (length bs) k ≡ b → IsNearStep end (cond b Wait t)
    pick true e = near_none end
    pick false e = h (not_less (length bs) k e)

near_skip : (end size : ℕ) (next : AviState) → IsNearStep end (Skip size next)
unfolding IsNearStep
near_skip end size next p e = cc

passed_near : (end : ℕ) (known : AviState) (rest : ℕ) → IsNearStep end (passed known rest)
unfolding passed
passed_near end known rest = pick (known.left == 0) (nat_lt (rest + 1) known.left)
  where
    pick : (a b : Bool) → IsNearStep end (cond a (Skip rest known)
        (cond b (Skip rest (record known { left = known.left - (rest + 1) })) (Skip (padded known.left - 1) (record known { left = 0 }))))
    pick true b = near_skip end _ _
    pick false true = near_skip end _ _
    pick false false = near_skip end _ _

after_near : (end : ℕ) (known : AviState) (rest : ℕ) (told : Told) → IsNear end told → IsNearStep end (after_stream known rest told)
unfolding IsNear IsNearStep
after_near end known rest None h p e = cc
after_near end known rest (Some (Err fault)) h p e = h p (cc)
after_near end known rest (Some (Ok head)) h p e = passed_near end (with_stream known known.first head) rest p e

data_near : (end at : ℕ) (first second : Option StreamHead) → at + 8 ≤ end → IsNearStep end (data_list first second at)
unfolding IsNearStep
data_near end at None second le p e = let same : at ≡ p = cc in omega arith
data_near end at (Some first) second le p e = cc

outer_near : (end : ℕ) (known : AviState) (at : ℕ) (bs : List ℕ) → at + 8 ≤ end → IsNearStep end (outer_list known at bs)
unfolding outer_list
outer_near end known at bs le =
    near_if end _ _ _ (data_near end at known.first known.second le) (near_if end _ _ _ (near_skip end _ _) (passed_near end known (rest_of bs)))

inner_near : (known : AviState) (at : ℕ) (bs : List ℕ) → 12 ≤ length bs → IsNearStep (at + length bs) (inner_list known at bs)
unfolding inner_list
inner_near known at bs le =
    let end : ℕ = at + length bs in
    near_if end _ _ _ (after_near end known (rest_of bs) _ (stream_near known at bs le)) (passed_near end known (rest_of bs))

steps_near : (known : AviState) (at : ℕ) (bs : List ℕ) → IsNearStep (at + length bs) (unit known at bs)
unfolding unit
steps_near known at bs =
    let end : ℕ = at + length bs in
    let on : IsNearStep end (passed known (rest_of bs)) = passed_near end known (rest_of bs) in
    near_wait end bs 8 _ (λ short. near_if end _ _ _ on (near_if end _ _ _ on (near_wait end bs 12 _ (λ long.
    near_if end _ _ _ (outer_near end known at bs (omega arith)) (inner_near known at bs long)))))

pub unit_near : (known : AviState) (at : ℕ) (bs : List ℕ) (p : ℕ) → unit known at bs ≡ Decide (Err (Damaged p)) → p + 8 ≤ at + length bs
unfolding IsNearStep
unit_near known at bs = steps_near known at bs
