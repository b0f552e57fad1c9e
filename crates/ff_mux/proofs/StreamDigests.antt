-- The digests of streams, with one packet more.
use Rattle.std.proofs.Common.{◌≡◌, ◌≢◌, ℕ, zero, suc, ◌+◌, ◌<◌, ◌≤◌, Bool, if◌then◌else◌, List, [], ◌∷◌, ◌++◌, length, set, get_or}
use Rattle.std.proofs.Common.{refl, sym, ap, ◌∙◌, subst, arith, append-nil}
use Rattle.std.proofs.lemmas.Bool.{eq-eqb, ne_eqb}
use Rattle.std.proofs.lemmas.List.Elements.{filter-append}
use Rattle.ff_format.specs.laws.Bodies.{bytes_then}
use Rattle.ff_format.specs.Layouts.{bytes_in}
use Rattle.ff_frame.specs.declared.hash.HashKind.{HashKind}
use Rattle.ff_frame.specs.declared.packet.Pkt.{Pkt}
use Rattle.ff_mux.specs.DigestTexts.{is_of, packets_of}
use Rattle.ff_mux.specs.laws.Hashers.{hasher_kind, HasTaken, AllTaken, AreOfKind}
use Rattle.ff_mux.specs.declared.digest.Hasher.{Hasher}

-- ---- the packets of a stream

mine : (ps : List (ℕ × Pkt)) (i : ℕ) (p : Pkt) → packets_of i (ps ++ (i, p) ∷ []) ≡ packets_of i ps ++ (i, p) ∷ []
mine ps i p =
    filter-append (is_of i) ps ((i, p) ∷ [])
    ∙ ap (λ (b : Bool). packets_of i ps ++ (if b then (i, p) ∷ [] else [])) (eq-eqb i i refl)

other : (ps : List (ℕ × Pkt)) (i stream : ℕ) (p : Pkt) → stream ≢ i → packets_of i (ps ++ (stream, p) ∷ []) ≡ packets_of i ps
other ps i stream p ne =
    filter-append (is_of i) ps ((stream, p) ∷ [])
    ∙ (ap (λ (b : Bool). packets_of i ps ++ (if b then (stream, p) ∷ [] else [])) (ne_eqb stream i ne) ∙ append-nil (packets_of i ps))

bytes_mine : (ps : List (ℕ × Pkt)) (i : ℕ) (p : Pkt) → bytes_in (packets_of i (ps ++ (i, p) ∷ [])) ≡ bytes_in (packets_of i ps) ++ p.bytes
bytes_mine ps i p = ap (λ (qs : List (ℕ × Pkt)). bytes_in qs) (mine ps i p) ∙ bytes_then (packets_of i ps) i p

-- ---- what each digest took

same_taken : (h : Hasher) (ps : List (ℕ × Pkt)) (i stream : ℕ) (p : Pkt) → stream ≢ i → HasTaken h (bytes_in (packets_of i ps))
    → HasTaken h (bytes_in (packets_of i (ps ++ (stream, p) ∷ [])))
same_taken h ps i stream p ne t = subst (λ (qs : List (ℕ × Pkt)). HasTaken h (bytes_in qs)) (sym (other ps i stream p ne)) t

-- a packet of none of these streams
pub untouched : (hs : List Hasher) (i : ℕ) (ps : List (ℕ × Pkt)) (stream : ℕ) (p : Pkt) → ((q : ℕ) → i ≤ q → q < i + length hs → stream ≢ q)
    → AllTaken i hs ps → AllTaken i hs (ps ++ (stream, p) ∷ [])
untouched [] i ps stream p ne t = tt
untouched (h ∷ hs) i ps stream p ne t = (
  same_taken h ps i stream p (ne i (omega arith) (omega arith)) t.0,
  untouched hs (suc i) ps stream p (λ q le lt. ne q (omega (arith, le)) (omega (arith, lt))) t.1,
)

-- a packet of one of them, whose digest takes its bytes
pub touched : (hs : List Hasher) (k i : ℕ) (ps : List (ℕ × Pkt)) (stream : ℕ) (p : Pkt) (old new : Hasher) → k < length hs → stream ≡ i + k
    → old ≡ get_or hs k old → ((all : List ℕ) → HasTaken old all → HasTaken new (all ++ p.bytes))
    → AllTaken i hs ps → AllTaken i (set hs k new) (ps ++ (stream, p) ∷ [])
touched [] k i ps stream p old new lt e is more t = absurd (omega (arith, lt))
touched (h ∷ hs) zero i ps stream p old new lt e is more t =
    let same : stream ≡ i = omega (arith, e) in
    let before : HasTaken old (bytes_in (packets_of i ps)) = subst (λ (g : Hasher). HasTaken g (bytes_in (packets_of i ps))) (sym is) t.0 in
    let after : HasTaken new (bytes_in (packets_of i (ps ++ (i, p) ∷ []))) =
    subst (λ (xs : List ℕ). HasTaken new xs) (sym (bytes_mine ps i p)) (more (bytes_in (packets_of i ps)) before) in (
      subst (λ (s : ℕ). HasTaken new (bytes_in (packets_of i (ps ++ (s, p) ∷ [])))) (sym same) after,
      untouched hs (suc i) ps stream p (λ q le lt' clash. absurd (omega (arith, le, clash, same))) t.1,
    )
touched (h ∷ hs) (suc k) i ps stream p old new lt e is more t = (
  same_taken h ps i stream p (λ clash. absurd (omega (arith, clash, e))) t.0,
  touched hs k (suc i) ps stream p old new (omega (arith, lt)) (omega (arith, e)) is more t.1,
)

-- of its kind
pub kind_set : (kind : HashKind) (hs : List Hasher) (k : ℕ) (old new : Hasher) → k < length hs → old ≡ get_or hs k old
    → hasher_kind new ≡ hasher_kind old → AreOfKind kind hs → AreOfKind kind (set hs k new)
kind_set kind [] k old new lt is same a = absurd (omega (arith, lt))
kind_set kind (h ∷ hs) zero old new lt is same a = (same ∙ (ap hasher_kind is ∙ a.0), a.1)
kind_set kind (h ∷ hs) (suc k) old new lt is same a = (a.0, kind_set kind hs k old new (omega (arith, lt)) is same a.1)

-- ---- one of them

pub taken_at : (hs : List Hasher) (k i : ℕ) (ps : List (ℕ × Pkt)) (h : Hasher) → k < length hs → h ≡ get_or hs k h
    → AllTaken i hs ps → HasTaken h (bytes_in (packets_of (i + k) ps))
taken_at [] k i ps h lt is t = absurd (omega (arith, lt))
taken_at (g ∷ hs) zero i ps h lt is t =
    let same : i ≡ i + 0 = omega arith in
    subst (λ (j : ℕ). HasTaken h (bytes_in (packets_of j ps))) same (subst (λ (f : Hasher). HasTaken f (bytes_in (packets_of i ps))) (sym is) t.0)
taken_at (g ∷ hs) (suc k) i ps h lt is t =
    let same : suc i + k ≡ i + suc k = omega arith in
    subst (λ (j : ℕ). HasTaken h (bytes_in (packets_of j ps))) same (taken_at hs k (suc i) ps h (omega (arith, lt)) is t.1)

pub kind_at : (kind : HashKind) (hs : List Hasher) (k : ℕ) (h : Hasher) → k < length hs → h ≡ get_or hs k h → AreOfKind kind hs → hasher_kind h ≡ kind
kind_at kind [] k h lt is a = absurd (omega (arith, lt))
kind_at kind (g ∷ hs) zero h lt is a = ap hasher_kind is ∙ a.0
kind_at kind (g ∷ hs) (suc k) h lt is a = kind_at kind hs k h (omega (arith, lt)) is a.1

-- ---- one more of them

pub none_more : (hs : List Hasher) (i : ℕ) (h : Hasher) → HasTaken h [] → AllTaken i hs [] → AllTaken i (hs ++ h ∷ []) []
none_more [] i h t a = (t, tt)
none_more (g ∷ hs) i h t a = (a.0, none_more hs (suc i) h t a.1)

pub kind_more : (kind : HashKind) (hs : List Hasher) (h : Hasher) → hasher_kind h ≡ kind → AreOfKind kind hs → AreOfKind kind (hs ++ h ∷ [])
kind_more kind [] h e a = (e, tt)
kind_more kind (g ∷ hs) h e a = (a.0, kind_more kind hs h e a.1)
