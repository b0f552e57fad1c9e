-- The state of a cut, tied to what it was fed and gave.
use Rattle.std.proofs.Common.{◌≡◌, ◌≢◌, ℕ, ◌+◌, ◌-◌, ◌<◌, ◌≤◌, ◌⊎◌, inl, inr, true, List, [], ◌∷◌, ◌++◌, drop, length, Option, Some, None, refl, sym, ap, ◌∙◌, subst, arith, length-append, length-drop, length-take, append-nil}
use Rattle.std.specs.Prelude.{slice_get, Result, Ok, Err, OnErr}
use Rattle.std.specs.declared.alloc.AllocError.{AllocError}
use Rattle.std.proofs.lemmas.List.{drop-append-le}
use Rattle.ff_frame.specs.declared.packet.Pkt.{Pkt}
use Rattle.ff_frame.specs.declared.cut.Cut.{Cut}
use Rattle.ff_frame.specs.declared.cut.Cut.TheVariants.{NotYet, End, Broken as BrokenAt, Pkt as Packet}
use Rattle.ff_reader.specs.Cutters.{IsRest}
use Rattle.ff_avi.specs.declared.lane.Lanes.{Lanes}
use Rattle.ff_avi.specs.declared.data.DataState.{DataState}
use Rattle.ff_avi.specs.declared.data.DataUnit.{DataUnit}
use Rattle.ff_avi.specs.declared.data.Turn.TheVariants.{Broken, Pass, Give}
use Rattle.ff_avi.specs.declared.cut.AviCut.{AviCut}
use Rattle.ff_avi.specs.Data.{turn, packet_of}
use Rattle.ff_avi.specs.Chains.{Chain, packets_in, broken_at, chain_from, units}
use Rattle.ff_avi.specs.Chains.Chain.{broken, gives}
use Rattle.ff_avi.specs.laws.Cuts.{has_ended, first_of, behind, rest_of, Goes, KeepsCut, GivesUnit, GaveAll, IsPart, Tells, IsPassed}
use Rattle.ff_avi.proofs.TurnLaws.{turn_stays, packet_same}
use Rattle.ff_avi.proofs.ChainLaws.{over_left, over_pad, at_pass, at_give, at_wait, ended_over, ended_within, ended_whole, packets_behind, broken_behind, behind_one, next_behind}

-- where a cut stands
pub record IsAt (cut : AviCut) (lanes : Lanes) (first from left pad : ℕ) (known : DataState) (place : ℕ) (bytes : List ℕ) : Type 0 where
  pub of_lanes : cut.lanes ≡ lanes
  pub of_first : cut.first ≡ first
  pub of_from : cut.from ≡ from
  pub of_left : cut.left ≡ left
  pub of_pad : cut.pad ≡ pad
  pub of_known : cut.known ≡ known
  pub of_place : cut.place ≡ place
  pub of_bytes : cut.held.bytes ≡ bytes

rest_is : (cut : AviCut) (lanes : Lanes) (first from left pad : ℕ) (known : DataState) (place : ℕ) (bytes more : List ℕ) → IsAt cut lanes first from left pad known place bytes
    → chain_from lanes from left pad known place (bytes ++ more) ≡ rest_of cut more
rest_is cut lanes first from left pad known place bytes more at =
    sym (ap (λ x. chain_from x cut.from cut.left cut.pad cut.known cut.place (cut.held.bytes ++ more)) at.of_lanes
    ∙ (ap (λ x. chain_from lanes x cut.left cut.pad cut.known cut.place (cut.held.bytes ++ more)) at.of_from
    ∙ (ap (λ x. chain_from lanes from x cut.pad cut.known cut.place (cut.held.bytes ++ more)) at.of_left
    ∙ (ap (λ x. chain_from lanes from left x cut.known cut.place (cut.held.bytes ++ more)) at.of_pad
    ∙ (ap (λ x. chain_from lanes from left pad x cut.place (cut.held.bytes ++ more)) at.of_known
    ∙ (ap (λ x. chain_from lanes from left pad known x (cut.held.bytes ++ more)) at.of_place
    ∙ ap (λ x. chain_from lanes from left pad known place (x ++ more)) at.of_bytes))))))

-- what goes on goes on as another chain that is the same
same_goes : (chain rest other : Chain) (n : ℕ) → rest ≡ other → Goes chain rest n → Goes chain other n
same_goes chain rest other n e g = record { given = g.given; number = g.number; all = g.all ∙ ap (behind g.given) e }

-- a cut that goes on as before
kept_so : (old new : AviCut) → new.first ≡ old.first → new.place + length new.held.bytes ≡ old.place + length old.held.bytes
    → ((more : List ℕ) → rest_of old more ≡ rest_of new more) → KeepsCut old new
kept_so old new f place same head used fed n c = record {
  of_first = c.of_first ∙ ap Some (sym f);
  of_place = place ∙ c.of_place;
  goes = λ more. same_goes (units head used (fed ++ more)) (rest_of old more) (rest_of new more) n (same more) (c.goes more);
}

-- ---- what is passed over

pub left_passed : (old new : AviCut) (k : ℕ) → k ≤ old.left → k ≤ length old.held.bytes
    → IsAt new old.lanes old.first old.from (old.left - k) old.pad old.known (old.place + k) (drop k old.held.bytes) → KeepsCut old new
left_passed old new k le there at = kept_so old new at.of_first
    (let p = at.of_place in let b = ap length at.of_bytes ∙ length-drop k old.held.bytes in omega (arith, p, b, there))
    (λ more. over_left old.lanes old.from old.left old.pad k old.known old.place (old.held.bytes ++ more) le (omega (arith, there, length-append old.held.bytes more))
    ∙ (ap (chain_from old.lanes old.from (old.left - k) old.pad old.known (old.place + k)) (drop-append-le k old.held.bytes more there)
    ∙ rest_is new old.lanes old.first old.from (old.left - k) old.pad old.known (old.place + k) (drop k old.held.bytes) more at))

pub pad_passed : (old new : AviCut) (k : ℕ) → old.left ≡ 0 → k ≤ old.pad → k ≤ length old.held.bytes
    → IsAt new old.lanes old.first old.from 0 (old.pad - k) old.known (old.place + k) (drop k old.held.bytes) → KeepsCut old new
pad_passed old new k none le there at = kept_so old new at.of_first
    (let p = at.of_place in let b = ap length at.of_bytes ∙ length-drop k old.held.bytes in omega (arith, p, b, there))
    (λ more. ap (λ l. chain_from old.lanes old.from l old.pad old.known old.place (old.held.bytes ++ more)) none
    ∙ (over_pad old.lanes old.from old.pad k old.known old.place (old.held.bytes ++ more) le (omega (arith, there, length-append old.held.bytes more))
    ∙ (ap (chain_from old.lanes old.from 0 (old.pad - k) old.known (old.place + k)) (drop-append-le k old.held.bytes more there)
    ∙ rest_is new old.lanes old.first old.from 0 (old.pad - k) old.known (old.place + k) (drop k old.held.bytes) more at)))

-- ---- a unit that is passed over

some_more : (xs more : List ℕ) → xs ≢ [] → xs ++ more ≢ []
some_more [] more some e = some refl
some_more (x ∷ xs) more some e = cc

at_unit : (cut : AviCut) (more : List ℕ) → cut.left ≡ 0 → cut.pad ≡ 0 → rest_of cut more ≡ chain_from cut.lanes cut.from 0 0 cut.known cut.place (cut.held.bytes ++ more)
at_unit cut more l p =
    ap (λ x. chain_from cut.lanes cut.from x cut.pad cut.known cut.place (cut.held.bytes ++ more)) l
    ∙ ap (λ x. chain_from cut.lanes cut.from 0 x cut.known cut.place (cut.held.bytes ++ more)) p

pub unit_begun : (old new : AviCut) (rest pad : ℕ) (next : DataState) → old.left ≡ 0 → old.pad ≡ 0 → old.held.bytes ≢ []
    → turn old.lanes old.known old.place old.held.bytes ≡ Pass rest pad next
    → IsAt new old.lanes old.first old.place (rest + 1) pad next old.place old.held.bytes → KeepsCut old new
unit_begun old new rest pad next l p some e at = kept_so old new at.of_first
    (let q = at.of_place in let b = ap length at.of_bytes in omega (arith, q, b))
    (λ more. at_unit old more l p
    ∙ (at_pass old.lanes old.from rest pad old.known next old.place (old.held.bytes ++ more) (some_more old.held.bytes more some)
    (turn_stays old.lanes old.known old.place old.held.bytes more (Pass rest pad next) e (λ w. cc))
    ∙ rest_is new old.lanes old.first old.place (rest + 1) pad next old.place old.held.bytes more at))

-- ---- a unit that is given

not_empty : (xs : List ℕ) (k : ℕ) → 1 ≤ k → k ≤ length xs → xs ≢ []
not_empty [] k one le e = absurd (omega (arith, one, le))
not_empty (x ∷ xs) k one le e = cc

given_chain : (cut : AviCut) (unit : DataUnit) (pad : ℕ) (next : DataState) (more : List ℕ) → cut.left ≡ 0 → cut.pad ≡ 0
    → turn cut.lanes cut.known cut.place cut.held.bytes ≡ Give unit pad next → 1 ≤ unit.size → unit.skip + unit.size ≤ length cut.held.bytes
    → rest_of cut more ≡ gives unit.stream (packet_of unit cut.place cut.held.bytes)
    (chain_from cut.lanes cut.place 0 pad next (cut.place + (unit.skip + unit.size)) (drop (unit.skip + unit.size) cut.held.bytes ++ more))
given_chain cut unit pad next more l p e one there =
    let size : ℕ = unit.skip + unit.size in
    let all : List ℕ = cut.held.bytes ++ more in
    let zero_left : size - size ≡ 0 = omega arith in
    at_unit cut more l p
    ∙ (at_give cut.lanes cut.from pad unit cut.known next cut.place all (omega (arith, one)) (some_more cut.held.bytes more (not_empty cut.held.bytes size (omega (arith, one)) there))
    (turn_stays cut.lanes cut.known cut.place cut.held.bytes more (Give unit pad next) e (λ w. cc))
    ∙ (ap (λ q. gives unit.stream q (chain_from cut.lanes cut.place size pad next cut.place all)) (packet_same unit cut.place cut.held.bytes more there)
    ∙ ap (gives unit.stream (packet_of unit cut.place cut.held.bytes))
    (over_left cut.lanes cut.place size pad size next cut.place all (omega arith) (omega (arith, there, length-append cut.held.bytes more))
    ∙ (ap (λ m. chain_from cut.lanes cut.place m pad next (cut.place + size) (drop size all)) zero_left
    ∙ ap (chain_from cut.lanes cut.place 0 pad next (cut.place + size)) (drop-append-le size cut.held.bytes more there)))))

one_goes : (chain rest : Chain) (stream n : ℕ) (packet : Pkt) → Goes chain (gives stream packet rest) n → Goes chain rest (n + 1)
one_goes chain rest stream n packet g = record {
  given = g.given ++ (stream, packet) ∷ [];
  number = let m = g.number in omega (arith, m, length-append g.given ((stream, packet) ∷ []));
  all = g.all ∙ behind_one g.given stream packet rest;
}

pub unit_given : (old new : AviCut) (unit : DataUnit) (pad : ℕ) (next : DataState) (q : Pkt) → old.left ≡ 0 → old.pad ≡ 0
    → turn old.lanes old.known old.place old.held.bytes ≡ Give unit pad next → 1 ≤ unit.size → unit.skip + unit.size ≤ length old.held.bytes
    → q ≡ packet_of unit old.place old.held.bytes
    → IsAt new old.lanes old.first old.place 0 pad next (old.place + (unit.skip + unit.size)) (drop (unit.skip + unit.size) old.held.bytes)
    → GivesUnit old new unit.stream q
unit_given old new unit pad next q l p e one there same at head used fed n c =
    let size : ℕ = unit.skip + unit.size in
    let goes : (more : List ℕ) → Goes (units head used (fed ++ more)) (gives unit.stream q (rest_of new more)) n =
    λ more. same_goes (units head used (fed ++ more)) (rest_of old more) (gives unit.stream q (rest_of new more)) n
    (given_chain old unit pad next more l p e one there
    ∙ (ap (λ x. gives unit.stream x (chain_from old.lanes old.place 0 pad next (old.place + size) (drop size old.held.bytes ++ more))) (sym same)
    ∙ ap (gives unit.stream q) (rest_is new old.lanes old.first old.place 0 pad next (old.place + size) (drop size old.held.bytes) more at))) (c.goes more) in (
      record {
        of_first = c.of_first ∙ ap Some (sym at.of_first);
        of_place = let w = c.of_place in let z = at.of_place in let d = ap length at.of_bytes ∙ length-drop size old.held.bytes in omega (arith, w, z, d, there);
        goes = λ more. one_goes (units head used (fed ++ more)) (rest_of new more) unit.stream n q (goes more);
      },
      λ more r. ap (λ x. slice_get (packets_in x) n) (goes more).all ∙ next_behind (goes more).given unit.stream n q (rest_of new more) (goes more).number,
    )

-- a packet ends where its unit does
pub packet_near : (unit : DataUnit) (at most : ℕ) (bs : List ℕ) (q : Pkt) → q ≡ packet_of unit at bs → at + (unit.skip + unit.size) ≤ most → q.pos + length q.bytes ≤ most
packet_near unit at most bs q e le = rw e (omega (arith, le, length-take unit.size (drop unit.skip bs)))

-- ---- nothing is given

ends_so : (chain rest : Chain) (n : ℕ) (place : Option ℕ) → Goes chain rest n → packets_in rest ≡ [] → broken_at rest ≡ place → (length (packets_in chain) ≡ n) × (broken_at chain ≡ place)
ends_so chain rest n place g none e = (
  ap (λ x. length (packets_in x)) g.all ∙ (ap length (packets_behind g.given rest ∙ ap (λ xs. g.given ++ xs) none ∙ append-nil g.given) ∙ g.number),
  ap broken_at g.all ∙ (broken_behind g.given rest ∙ e),
)

breaks_so : (cut : AviCut) (place : ℕ) → ((more : List ℕ) → IsRest (has_ended cut) more → rest_of cut more ≡ broken place) → GaveAll cut (Some place)
breaks_so cut place h head used fed n c more r = let e = h more r in ends_so (units head used (fed ++ more)) (rest_of cut more) n (Some place) (c.goes more) (ap packets_in e) (ap broken_at e)

-- no unit begins here
pub broken_here : (cut : AviCut) → cut.left ≡ 0 → cut.pad ≡ 0 → cut.held.bytes ≢ [] → turn cut.lanes cut.known cut.place cut.held.bytes ≡ Broken → GaveAll cut (Some cut.place)
broken_here cut l p some e = breaks_so cut cut.place (λ more r. at_unit cut more l p ∙ at_wait cut.lanes cut.from cut.known cut.place (cut.held.bytes ++ more) (some_more cut.held.bytes more some)
    (inr (turn_stays cut.lanes cut.known cut.place cut.held.bytes more Broken e (λ w. cc))))

all_there : (cut : AviCut) (more : List ℕ) → cut.ended ≡ true → IsRest (has_ended cut) more → rest_of cut more ≡ chain_from cut.lanes cut.from cut.left cut.pad cut.known cut.place cut.held.bytes
all_there cut more e r = ap (λ xs. chain_from cut.lanes cut.from cut.left cut.pad cut.known cut.place (cut.held.bytes ++ xs)) (r e) ∙ ap (chain_from cut.lanes cut.from cut.left cut.pad cut.known cut.place) (append-nil cut.held.bytes)

none_held : (cut : AviCut) (more : List ℕ) → cut.ended ≡ true → IsRest (has_ended cut) more → cut.held.bytes ≡ [] → rest_of cut more ≡ chain_from cut.lanes cut.from cut.left cut.pad cut.known cut.place []
none_held cut more e r h = all_there cut more e r ∙ ap (chain_from cut.lanes cut.from cut.left cut.pad cut.known cut.place) h

-- the input ended within what is passed over
pub stops_over : (cut : AviCut) → IsPart cut → cut.ended ≡ true → 0 < cut.left → GaveAll cut (Some cut.from)
stops_over cut (inl h) e lt = breaks_so cut cut.from (λ more r. none_held cut more e r h ∙ ended_over cut.lanes cut.from cut.left cut.pad cut.known cut.place lt)
stops_over cut (inr w) e lt = let z = w.0 in absurd (omega (arith, z, lt))

-- within a chunk of sound, or where part of a unit waits
pub stops_within : (cut : AviCut) → IsPart cut → cut.ended ≡ true → cut.left ≡ 0 → (0 < cut.known.left) ⊎ (0 < length cut.held.bytes) → GaveAll cut (Some cut.place)
stops_within cut (inl h) e l (inl lt) = breaks_so cut cut.place (λ more r. none_held cut more e r h ∙ ended_within cut.lanes cut.from cut.left cut.pad cut.known cut.place l lt)
stops_within cut (inl h) e l (inr lt) = let z = ap length h in absurd (omega (arith, z, lt))
stops_within cut (inr w) e l how = some_held cut.held.bytes refl
  where
    stop : cut.held.bytes ≢ [] → GaveAll cut (Some cut.place)
    stop some = breaks_so cut cut.place (λ more r. all_there cut more e r ∙ (ap (λ k. chain_from cut.lanes cut.from k cut.pad cut.known cut.place cut.held.bytes) w.0
        ∙ (ap (λ k. chain_from cut.lanes cut.from 0 k cut.known cut.place cut.held.bytes) w.1 ∙ at_wait cut.lanes cut.from cut.known cut.place cut.held.bytes some (inl w.2))))

    some_held : (xs : List ℕ) → xs ≡ cut.held.bytes → GaveAll cut (Some cut.place)
    some_held (x ∷ xs) same = stop (λ none. let clash = same ∙ none in cc)
    some_held [] same = none_within how
      where
        none_within : (0 < cut.known.left) ⊎ (0 < length cut.held.bytes) → GaveAll cut (Some cut.place)
        none_within (inl lt) = breaks_so cut cut.place (λ more r. none_held cut more e r (sym same) ∙ ended_within cut.lanes cut.from cut.left cut.pad cut.known cut.place l lt)
        none_within (inr lt) = let z = ap length same in absurd (omega (arith, z, lt))

-- behind a whole chunk
pub stops_whole : (cut : AviCut) → cut.ended ≡ true → cut.left ≡ 0 → cut.known.left ≡ 0 → length cut.held.bytes ≡ 0 → GaveAll cut None
stops_whole cut e l k h head used fed n c more r =
    let same = none_held cut more e r (nil cut.held.bytes h) ∙ ended_whole cut.lanes cut.from cut.left cut.pad cut.known cut.place l k in
    ends_so (units head used (fed ++ more)) (rest_of cut more) n None (c.goes more) (ap packets_in same) (ap broken_at same)
  where
    nil : (xs : List ℕ) → length xs ≡ 0 → xs ≡ []
    nil [] z = refl
    nil (x ∷ xs) z = absurd (omega (arith, z))

-- ---- one after the other

pub then_tells : (one two three : AviCut) (stream : ℕ) (told : Cut) → KeepsCut one two → has_ended two ≡ has_ended one → first_of two ≡ first_of one → Tells two three stream told → Tells one three stream told
then_tells one two three stream (Packet p) keeps e f t =
    (λ head used fed n c. let g = t.0 head used fed n (keeps head used fed n c) in (g.0, λ more r. g.1 more (λ ended. r (sym e ∙ ended))), t.1)
then_tells one two three stream NotYet keeps e f t = (λ head used fed n c. t.0 head used fed n (keeps head used fed n c), t.1, t.2 ∙ f)
then_tells one two three stream End keeps e f t = (λ head used fed n c. t.0 head used fed n (keeps head used fed n c), t.1, t.2 ∙ f)
then_tells one two three stream (BrokenAt place) keeps e f t = (λ head used fed n c. t.0 head used fed n (keeps head used fed n c), t.1, t.2 ∙ f)

-- a cut that stands where another does
pub stays : (old new : AviCut) → IsAt new old.lanes old.first old.from old.left old.pad old.known old.place old.held.bytes → KeepsCut old new
stays old new at = kept_so old new at.of_first (let p = at.of_place in let b = ap length at.of_bytes in omega (arith, p, b))
    (λ more. rest_is new old.lanes old.first old.from old.left old.pad old.known old.place old.held.bytes more at)

-- so of an answer that is known
abbrev pub Answer : Type 0
Answer = Result (Option (ℕ × Cut)) AllocError

abbrev pub answered : ℕ → Cut → Answer
answered stream told = Ok (Some (stream, told))

pub told_so : (old new : AviCut) (first stream : ℕ) (one told : Cut) → answered first one ≡ answered stream told → Tells old new first one → Tells old new stream told
told_so old new first stream one told e t =
    let one_answer : ◌≡◌ {A = ℕ × Cut} (first, one) (stream, told) = cc in
    subst (λ (answer : ℕ × Cut). Tells old new answer.0 answer.1) one_answer t

pub on_err : {A : Type 0} (r : Result A AllocError) (P : Type 0) → P → OnErr r P
on_err (Ok x) P p = tt
on_err (Err e) P p = p

-- nothing is passed over where something waits
pub passed_at : (cut : AviCut) → IsPassed cut → (length cut.held.bytes ≡ 0 → ⊥) → (cut.left ≡ 0) × (cut.pad ≡ 0) × (cut.held.bytes ≢ [])
passed_at cut passed some = let there : cut.held.bytes ≢ [] = λ none. some (ap length none) in let z = passed there in (z.0, z.1, there)
