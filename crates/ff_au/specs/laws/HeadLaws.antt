-- What the fields owe to the reading of heads.
use Rattle.std.proofs.Common.{◌≡◌, ℕ, zero, suc, ◌+◌, ◌^◌, ◌<◌, ◌≤◌, ◌⊎◌, inl, inr, Bool, true, false, cond, List, [], ◌∷◌, ◌++◌, length, Result, Ok, Err, refl, sym, arith, length-append, lit<}
use Rattle.std.specs.Prelude.{slice_index, ◌==◌, ◌&&◌, nat_le, nat_lt, not, ⊤}
use Rattle.std.proofs.lemmas.Bool.Decides.{nat_tests}
use Rattle.ff_frame.specs.Codecs.{IsPcmCodec}
use Rattle.ff_frame.specs.declared.head.Codec.TheVariants.{PcmS8, PcmS16be, PcmS24be, PcmS32be}
use Rattle.ff_pcm.specs.declared.body.head.PcmHead.{PcmHead as AuHead}
use Rattle.ff_pcm.specs.body.Packets.{IsHead}
use Rattle.ff_reader.specs.declared.fault.HeadFault.{HeadFault}
use Rattle.ff_reader.specs.declared.fault.HeadFault.TheVariants.{Damaged, Unsupported}
use Rattle.ff_reader.specs.declared.step.Step.TheVariants.{Wait, Decide}
use Rattle.ff_reader.specs.Walks.{IsGrammar, DamagesBefore, Settles, Keeps, IsKept}
use Rattle.ff_au.specs.Fields.{FieldsStep, number_16, number_32, codec_of, stream_of, body_len, head_of, told_at, fields}
use Rattle.ff_au.specs.Heads.{grammar}

-- ---- what the fields do, they do whatever follows

index_front : (bs more : List ℕ) (i : ℕ) → i < length bs → slice_index (bs ++ more) i ≡ slice_index bs i
index_front [] more i lt = absurd (omega arith)
index_front (b ∷ bs) more zero lt = refl
index_front (b ∷ bs) more (suc i) lt = index_front bs more i (omega arith)

front_16 : (bs more : List ℕ) (i : ℕ) → i + 2 ≤ length bs → number_16 i (bs ++ more) ≡ number_16 i bs
front_16 bs more i le = rw (index_front bs more i (omega arith), index_front bs more (i + 1) (omega arith)) refl

front_32 : (bs more : List ℕ) (i : ℕ) → i + 4 ≤ length bs → number_32 i (bs ++ more) ≡ number_32 i bs
front_32 bs more i le = let a = front_16 bs more i (omega arith) in let b = front_16 bs more (i + 2) (omega arith) in cc

-- what the fields say that begin the bytes
abbrev found_at : ℕ → List ℕ → Result AuHead HeadFault
found_at at bs = head_of at (number_32 0 bs) (number_32 4 bs) (number_32 8 bs) (number_32 12 bs) (number_32 16 bs)

same_found : (at : ℕ) (bs more : List ℕ) → 20 ≤ length bs → found_at at bs ≡ found_at at (bs ++ more)
same_found at bs more le =
    let start = front_32 bs more 0 (omega arith) in
    let size = front_32 bs more 4 (omega arith) in
    let coding = front_32 bs more 8 (omega arith) in
    let rate = front_32 bs more 12 (omega arith) in
    let channels = front_32 bs more 16 (omega arith) in
    cc

told_settles : (m n : ℕ) (found : Result AuHead HeadFault) → m ≤ n → (told_at m found ≡ Wait) ⊎ (told_at m found ≡ told_at n found)
told_settles m n (Err fault) le = inr refl
told_settles m n (Ok head) le = elim (cases (nat_lt m head.start)) [ inl early ↦ inl (rw early refl) | inr there ↦ inr (let late : nat_lt n head.start ≡ false = grind (arith, nat_tests) in rw (there, late) refl) ]
  where
    cases : (b : Bool) → (b ≡ true) ⊎ (b ≡ false)
    cases true = inl refl
    cases false = inr refl

settles_at : (at : ℕ) (bs more : List ℕ) (short long : Bool) → nat_lt (length bs) 20 ≡ short → nat_lt (length (bs ++ more)) 20 ≡ long
    → (cond short Wait (told_at (at + length bs) (found_at at bs)) ≡ Wait)
    ⊎ (cond short Wait (told_at (at + length bs) (found_at at bs)) ≡ cond long Wait (told_at (at + length (bs ++ more)) (found_at at (bs ++ more))))
settles_at at bs more true long es el = inl refl
settles_at at bs more false true es el = absurd (grind (arith, nat_tests, length-append bs more))
settles_at at bs more false false es el =
    let there : 20 ≤ length bs = grind (arith, nat_tests) in
    let same = same_found at bs more there in
    rw (sym same) (told_settles (at + length bs) (at + length (bs ++ more)) (found_at at bs) (omega (arith, length-append bs more)))

settles : Settles fields
unfolding fields
settles known at bs more = settles_at at bs more (nat_lt (length bs) 20) (nat_lt (length (bs ++ more)) 20) refl refl

-- ---- a damage is at the data offset

found_damaged : (at start size coding rate channels p : ℕ) → head_of at start size coding rate channels ≡ Err (Damaged p) → p ≡ at
unfolding head_of
found_damaged at start size coding rate channels p e = grind arith

not_damaged : (b : Bool) (head : AuHead) (p : ℕ) → cond {A = FieldsStep} b Wait (Decide (Ok head)) ≡ Decide (Err (Damaged p)) → ⊥
not_damaged true head p e = cc
not_damaged false head p e = cc

told_damaged : (n p : ℕ) (found : Result AuHead HeadFault) → told_at n found ≡ Decide (Err (Damaged p)) → found ≡ Err (Damaged p)
told_damaged n p (Err fault) e = cc
told_damaged n p (Ok head) e = absurd (not_damaged (nat_lt n head.start) head p e)

damaged_at : (at p : ℕ) (bs : List ℕ) (short : Bool) → nat_lt (length bs) 20 ≡ short → cond short Wait (told_at (at + length bs) (found_at at bs)) ≡ Decide (Err (Damaged p))
    → (p ≡ at) × (20 ≤ length bs)
damaged_at at p bs true es e = cc
damaged_at at p bs false es e =
    (found_damaged at (number_32 0 bs) (number_32 4 bs) (number_32 8 bs) (number_32 12 bs) (number_32 16 bs) p (told_damaged (at + length bs) p (found_at at bs) e), grind (arith, nat_tests))

damaged_before : DamagesBefore fields
unfolding fields
damaged_before known at p bs e =
    let r = damaged_at at p (bs ++ 0 ∷ []) (nat_lt (length (bs ++ 0 ∷ [])) 20) refl e in
    omega (arith, r.0, r.1, length-append bs (0 ∷ []))

pub is_lawful : IsGrammar grammar
is_lawful = record {
  bytes = (lit< tt, (lit< tt, (lit< tt, (lit< tt, tt))));
  few = lit< tt;
  settles = settles;
  damages = damaged_before;
}

-- ---- a head is a sound one

Good : Result AuHead HeadFault → Type 0
Good (Ok head) = IsHead head
Good (Err fault) = Unit {0}

fault_good : (fault : HeadFault) → Good (Err fault)
unfolding Good
fault_good fault = tt

-- a head is a sound one where the tests before it are passed
chain : (a b c d e : Bool) (p q r s t : HeadFault) (found : Result AuHead HeadFault) → (b ≡ false → d ≡ false → e ≡ false → Good found)
    → Good (cond a (Err p) (cond b (Err q) (cond c (Err r) (cond d (Err s) (cond e (Err t) found)))))
chain true b c d e p q r s t found next = fault_good p
chain false true c d e p q r s t found next = fault_good q
chain false false true d e p q r s t found next = fault_good r
chain false false false true e p q r s t found next = fault_good s
chain false false false false true p q r s t found next = fault_good t
chain false false false false false p q r s t found next = next refl refl refl

rate_good : (n : ℕ) → not (nat_le 1 n && nat_lt n (2 ^ 31)) ≡ false → (1 ≤ n) × (n < 2 ^ 31)
rate_good n e = (grind (arith, nat_tests), grind (arith, nat_tests))

channels_good : (n : ℕ) → not (nat_le 1 n && nat_le n 8) ≡ false → (1 ≤ n) × (n ≤ 8)
channels_good n e = (grind (arith, nat_tests), grind (arith, nat_tests))

pcm_at : (p q r : Bool) → IsPcmCodec (cond p PcmS8 (cond q PcmS16be (cond r PcmS24be PcmS32be)))
pcm_at true q r = tt
pcm_at false true r = tt
pcm_at false false true = tt
pcm_at false false false = tt

good_head : (start size coding rate channels : ℕ) → nat_lt (2 ^ 28) start ≡ false → not (nat_le 1 rate && nat_lt rate (2 ^ 31)) ≡ false → not (nat_le 1 channels && nat_le channels 8) ≡ false
    → Good (Ok (record { head = stream_of (codec_of coding) rate channels; start = start; len = body_len size }))
unfolding Good
good_head start size coding rate channels near r c =
    let ticks = rate_good rate r in
    let few = channels_good channels c in
    let place : start ≤ 2 ^ 28 = grind (arith, nat_tests) in
    let coded = pcm_at (coding == 2) (coding == 3) (coding == 4) in
    record {
      stream = record { some_channels = few.0; few_channels = few.1; coded = coded; depth = refl; some_rate = ticks.0; small_rate = ticks.1; ticks = refl };
      start = omega (arith, place);
    }

found_good : (at start size coding rate channels : ℕ) → Good (head_of at start size coding rate channels)
unfolding head_of
found_good at start size coding rate channels =
    chain (nat_lt start 24) (nat_lt (2 ^ 28) start) (not (nat_le 2 coding && nat_le coding 5)) (not (nat_le 1 rate && nat_lt rate (2 ^ 31))) (not (nat_le 1 channels && nat_le channels 8))
    (Damaged at) (Unsupported at) (Unsupported (at + 8)) (Unsupported (at + 12)) (Unsupported (at + 16))
    (Ok (record { head = stream_of (codec_of coding) rate channels; start = start; len = body_len size })) (good_head start size coding rate channels)

either_kept : (b : Bool) (head : AuHead) → IsHead head → IsKept {H = AuHead} {S = ⊤} (λ known. ⊤) IsHead (cond b Wait (Decide (Ok head)))
either_kept true head good = tt
either_kept false head good = good

told_kept : (n : ℕ) (found : Result AuHead HeadFault) → Good found → IsKept (λ known. ⊤) IsHead (told_at n found)
unfolding Good
told_kept n (Err fault) good = tt
told_kept n (Ok head) good = either_kept (nat_lt n head.start) head good

kept_at : (at : ℕ) (bs : List ℕ) (short : Bool) → IsKept (λ known. ⊤) IsHead (cond short Wait (told_at (at + length bs) (found_at at bs)))
kept_at at bs true = tt
kept_at at bs false = told_kept (at + length bs) (found_at at bs) (found_good at (number_32 0 bs) (number_32 4 bs) (number_32 8 bs) (number_32 12 bs) (number_32 16 bs))

pub is_kept : Keeps (λ known. ⊤) IsHead fields
unfolding fields
is_kept known at bs known_before le = kept_at at bs (nat_lt (length bs) 20)
