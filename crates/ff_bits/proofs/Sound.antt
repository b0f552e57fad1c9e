-- What holds of every reader of a grammar.
use Rattle.std.proofs.Common.{◌≡◌, ℕ, zero, suc, ◌+◌, ◌-◌, ◌*◌, ◌<◌, ◌≤◌, Bool, true, false, cond, ltb, ◌||◌, ◌⊎◌, List, [], ◌∷◌, ◌++◌, length, take, refl, sym, ap, subst, ◌∙◌, append_assoc, arith, inl, inr, length-append}
use Rattle.std.proofs.lemmas.List.{take_at}
use Rattle.std.proofs.lemmas.Bool.{ltb-true, ltb-false}
use Rattle.ff_bits.specs.Bits.{digit}
use Rattle.ff_bits.specs.Reading.{Answer, Done, More, Bad, Reader, on, ◌>>=◌, give, some, field_from, field, zeros_from, zeros}

-- P holds of each value. More bits change no answer but More, which some bits complete with nothing left; what was taken is enough for
-- its value; and nothing is refused before its first bit.
pub record IsSound {A : Type 0} (P : A → Type 0) (r : Reader A) : Type 0 where
  pub gives : (bits : List Bool) (a : A) (rest : List Bool) → r bits ≡ Done a rest → P a
  pub takes : (bits : List Bool) (a : A) (rest : List Bool) → r bits ≡ Done a rest → (text : List Bool) × (bits ≡ text ++ rest)
  pub stays : (bits more : List Bool) (a : A) (rest : List Bool) → r bits ≡ Done a rest → r (bits ++ more) ≡ Done a (rest ++ more)
  pub stays_bad : (bits more : List Bool) → r bits ≡ Bad → r (bits ++ more) ≡ Bad
  pub enough : (text rest : List Bool) (a : A) → r (text ++ rest) ≡ Done a rest → r text ≡ Done a []
  pub completes : (bits : List Bool) → r bits ≡ More → (more : List Bool) × (a : A) × (r (bits ++ more) ≡ Done a [])
  pub opens : r [] ≡ Bad → ⊥

-- ---- nothing left

nil_left : (text rest : List Bool) → [] ≡ text ++ rest → rest ≡ []
nil_left [] rest e = sym e
nil_left (x ∷ text) rest e = absurd cc

pub done_same : {A : Type 0} (a b : A) (s t : List Bool) → Done a s ≡ Done b t → (a ≡ b) × (s ≡ t)
done_same a b s t e = (cc, cc)

-- ---- what stands before a rest

pub take_text : (bits text rest : List Bool) → bits ≡ text ++ rest → take (length bits - length rest) bits ≡ text
take_text bits text rest e =
    let len : length bits - length rest ≡ length text = omega (arith, ap length e, length-append text rest) in
    rw (len, e) (take_at text rest (length text) refl)

pub same_text : (text other rest : List Bool) → text ++ rest ≡ other ++ rest → text ≡ other
same_text text other rest e = sym (take_text (text ++ rest) text rest refl) ∙ take_text (text ++ rest) other rest e

-- ---- give

pub IsSound-give : {A : Type 0} (P : A → Type 0) (a : A) → P a → IsSound P (give a)
IsSound-give P a h = record {
  gives = λ bits b rest e. subst P (done_same a b bits rest e).0 h;
  takes = λ bits b rest e. ([], (done_same a b bits rest e).1);
  stays = λ bits more b rest e. let p = done_same a b bits rest e in rw (p.0, p.1) refl;
  stays_bad = λ bits more e. absurd cc;
  enough = λ text rest b e. let p = done_same a b (text ++ rest) rest e in rw (p.0, same_text text [] rest p.1) refl;
  completes = λ bits e. absurd cc;
  opens = λ e. cc;
}

-- ---- one reader and then another

module _ {A B : Type 0} (P : A → Type 0) (Q : B → Type 0) (r : Reader A) (f : A → Reader B) (first : IsSound P r) (second : (a : A) → P a → IsSound Q (f a)) where
  -- what is known of an answer of the first
  on_gives : (bits : List Bool) (v : Answer A) → r bits ≡ v → (b : B) (rest : List Bool) → on v f ≡ Done b rest → Q b
  on_gives bits (Done a mid) h b rest e = (second a (first.gives bits a mid h)).gives mid b rest e
  on_gives bits More h b rest e = absurd cc
  on_gives bits Bad h b rest e = absurd cc

  on_takes : (bits : List Bool) (v : Answer A) → r bits ≡ v → (b : B) (rest : List Bool) → on v f ≡ Done b rest → (text : List Bool) × (bits ≡ text ++ rest)
  on_takes bits (Done a mid) h b rest e =
      let s = first.takes bits a mid h in
      let t = (second a (first.gives bits a mid h)).takes mid b rest e in
      (s.0 ++ t.0, s.1 ∙ ap (λ (m : List Bool). s.0 ++ m) t.1 ∙ sym (append_assoc s.0 t.0 rest))
  on_takes bits More h b rest e = absurd cc
  on_takes bits Bad h b rest e = absurd cc

  on_stays : (bits more : List Bool) (v : Answer A) → r bits ≡ v → (b : B) (rest : List Bool) → on v f ≡ Done b rest → on (r (bits ++ more)) f ≡ Done b (rest ++ more)
  on_stays bits more (Done a mid) h b rest e =
      rw (first.stays bits more a mid h) ((second a (first.gives bits a mid h)).stays mid more b rest e)
  on_stays bits more More h b rest e = absurd cc
  on_stays bits more Bad h b rest e = absurd cc

  on_stays_bad : (bits more : List Bool) (v : Answer A) → r bits ≡ v → on v f ≡ Bad → on (r (bits ++ more)) f ≡ Bad
  on_stays_bad bits more (Done a mid) h e =
      rw (first.stays bits more a mid h) ((second a (first.gives bits a mid h)).stays_bad mid more e)
  on_stays_bad bits more More h e = absurd cc
  on_stays_bad bits more Bad h e = rw (first.stays_bad bits more h) refl

  on_enough : (text rest : List Bool) (v : Answer A) → r (text ++ rest) ≡ v → (b : B) → on v f ≡ Done b rest → on (r text) f ≡ Done b []
  on_enough text rest (Done a mid) h b e =
      let p = first.gives (text ++ rest) a mid h in
      let s = first.takes (text ++ rest) a mid h in
      let t = (second a p).takes mid b rest e in
      let split : text ++ rest ≡ (s.0 ++ t.0) ++ rest = s.1 ∙ ap (λ (m : List Bool). s.0 ++ m) t.1 ∙ sym (append_assoc s.0 t.0 rest) in
      let alone : r s.0 ≡ Done a [] = first.enough s.0 mid a (subst (λ (m : List Bool). r m ≡ Done a mid) s.1 h) in
      let before : r text ≡ Done a t.0 = ap r (same_text text (s.0 ++ t.0) rest split) ∙ first.stays s.0 t.0 a [] alone in
      rw before ((second a p).enough t.0 rest b (subst (λ (m : List Bool). f a m ≡ Done b rest) t.1 e))
  on_enough text rest More h b e = absurd cc
  on_enough text rest Bad h b e = absurd cc

  -- where the first is done with nothing left
  from_nothing : (bits : List Bool) (a : A) → r bits ≡ Done a [] → (v : Answer B) → f a [] ≡ v → (more : List Bool) × (b : B) × (on (r (bits ++ more)) f ≡ Done b [])
  from_nothing bits a h (Done b rest) e =
      let t = (second a (first.gives bits a [] h)).takes [] b rest e in
      let nil : rest ≡ [] = nil_left t.0 rest t.1 in
      ([], b, rw (first.stays bits [] a [] h) (e ∙ ap (λ (m : List Bool). Done b m) nil))
  from_nothing bits a h More e =
      let t = (second a (first.gives bits a [] h)).completes [] e in
      (t.0, t.1, rw (first.stays bits t.0 a [] h) t.2)
  from_nothing bits a h Bad e = absurd ((second a (first.gives bits a [] h)).opens e)

  on_completes : (bits : List Bool) (v : Answer A) → r bits ≡ v → on v f ≡ More → (more : List Bool) × (b : B) × (on (r (bits ++ more)) f ≡ Done b [])
  on_completes bits (Done a mid) h e =
      let t = (second a (first.gives bits a mid h)).completes mid e in
      (t.0, t.1, rw (first.stays bits t.0 a mid h) t.2)
  on_completes bits More h e =
      let s = first.completes bits h in
      let t = from_nothing (bits ++ s.0) s.1 s.2 (f s.1 []) refl in
      (s.0 ++ t.0, t.1, rw (← append_assoc bits s.0 t.0) t.2)
  on_completes bits Bad h e = absurd cc

  on_opens : (v : Answer A) → r [] ≡ v → on v f ≡ Bad → ⊥
  on_opens (Done a mid) h e =
      let s = first.takes [] a mid h in
      let nil : mid ≡ [] = nil_left s.0 mid s.1 in
      (second a (first.gives [] a mid h)).opens (subst (λ (m : List Bool). f a m ≡ Bad) nil e)
  on_opens More h e = cc
  on_opens Bad h e = first.opens h

  pub IsSound-chain : IsSound Q (r >>= f)
  IsSound-chain = record {
    gives = λ bits b rest e. on_gives bits (r bits) refl b rest e;
    takes = λ bits b rest e. on_takes bits (r bits) refl b rest e;
    stays = λ bits more b rest e. on_stays bits more (r bits) refl b rest e;
    stays_bad = λ bits more e. on_stays_bad bits more (r bits) refl e;
    enough = λ text rest b e. on_enough text rest (r (text ++ rest)) refl b e;
    completes = λ bits e. on_completes bits (r bits) refl e;
    opens = λ e. on_opens (r []) refl e;
  }

-- ---- a choice, and less known of the value

pub IsSound-weaker : {A : Type 0} (P Q : A → Type 0) (r : Reader A) → ((a : A) → P a → Q a) → IsSound P r → IsSound Q r
IsSound-weaker P Q r w h = record {
  gives = λ bits a rest e. w a (h.gives bits a rest e);
  takes = h.takes;
  stays = h.stays;
  stays_bad = h.stays_bad;
  enough = h.enough;
  completes = h.completes;
  opens = h.opens;
}

pub IsSound-cond : {A : Type 0} (P : A → Type 0) (b : Bool) (r s : Reader A) → (b ≡ true → IsSound P r) → (b ≡ false → IsSound P s) → IsSound P (λ bits. cond b (r bits) (s bits))
IsSound-cond P true r s h k = h refl
IsSound-cond P false r s h k = k refl

-- ---- a field

or_true : (a b : Bool) → (a || b) ≡ true → (a ≡ true) ⊎ (b ≡ true)
or_true true b e = inl refl
or_true false b e = inr e

or_false : (a b : Bool) → (a || b) ≡ false → (a ≡ false) × (b ≡ false)
or_false true b e = absurd cc
or_false false b e = (refl, e)

or_left : (a b : Bool) → a ≡ true → (a || b) ≡ true
or_left a b e = rw e refl

or_right : (a b : Bool) → b ≡ true → (a || b) ≡ true
or_right true b e = refl
or_right false b e = e

-- a test that passed, and one that did not
pub cond_done : {A : Type 0} (b : Bool) (v a : A) (s t : List Bool) → cond b (Done v s) Bad ≡ Done a t → (b ≡ true) × (v ≡ a) × (s ≡ t)
cond_done true v a s t e = (refl, cc, cc)
cond_done false v a s t e = absurd cc

cond_more : {A : Type 0} (b : Bool) → ◌≡◌ {A = Answer A} (cond b More Bad) More → b ≡ true
cond_more true e = refl
cond_more false e = absurd cc

cond_more_bad : {A : Type 0} (b : Bool) → ◌≡◌ {A = Answer A} (cond b More Bad) Bad → b ≡ false
cond_more_bad true e = absurd cc
cond_more_bad false e = refl

cond_done_bad : {A : Type 0} (b : Bool) (v : A) (s : List Bool) → cond b (Done v s) Bad ≡ Bad → b ≡ false
cond_done_bad true v s e = absurd cc
cond_done_bad false v s e = refl

cond_done_more : {A : Type 0} (b : Bool) (v : A) (s : List Bool) → cond b (Done v s) Bad ≡ More → ⊥
cond_done_more true v s e = cc
cond_done_more false v s e = cc

pub cond_more_done : {A : Type 0} (b : Bool) (a : A) (t : List Bool) → ◌≡◌ {A = Answer A} (cond b More Bad) (Done a t) → ⊥
cond_more_done true a t e = cc
cond_more_done false a t e = cc

pub field-none : (n : ℕ) (p : ℕ → Bool) (v : ℕ) (bits : List Bool) → some n p v ≡ false → field_from n p v bits ≡ Bad
field-none zero p v bits e = rw e refl
field-none (suc n) p v [] e = rw e refl
field-none (suc n) p v (true ∷ bits) e = field-none n p (2 * v + 1) bits (or_false (some n p (2 * v)) (some n p (2 * v + 1)) e).1
field-none (suc n) p v (false ∷ bits) e =
    let k : 2 * v ≡ 2 * v + 0 = omega arith in
    field-none n p (2 * v + 0) bits (subst (λ (w : ℕ). some n p w ≡ false) k (or_false (some n p (2 * v)) (some n p (2 * v + 1)) e).0)

pub field-some : (n : ℕ) (p : ℕ → Bool) (v : ℕ) → some n p v ≡ true → (more : List Bool) × (a : ℕ) × (field_from n p v more ≡ Done a [])
field-some zero p v e = ([], v, rw e refl)
field-some (suc n) p v e =
    elim (or_true (some n p (2 * v)) (some n p (2 * v + 1)) e) [
      | inl h ↦
          let k : 2 * v ≡ 2 * v + 0 = omega arith in
          let t = field-some n p (2 * v + 0) (subst (λ (w : ℕ). some n p w ≡ true) k h) in
          (false ∷ t.0, t.1, t.2)
      | inr h ↦ let t = field-some n p (2 * v + 1) h in (true ∷ t.0, t.1, t.2)
    ]

field_gives : (n : ℕ) (p : ℕ → Bool) (v : ℕ) (bits : List Bool) (a : ℕ) (rest : List Bool) → field_from n p v bits ≡ Done a rest → p a ≡ true
field_gives zero p v bits a rest e = let c = cond_done (p v) v a bits rest e in subst (λ (w : ℕ). p w ≡ true) c.1 c.0
field_gives (suc n) p v [] a rest e = absurd (cond_more_done (some (suc n) p v) a rest e)
field_gives (suc n) p v (b ∷ bits) a rest e = field_gives n p (2 * v + digit b) bits a rest e

field_takes : (n : ℕ) (p : ℕ → Bool) (v : ℕ) (bits : List Bool) (a : ℕ) (rest : List Bool) → field_from n p v bits ≡ Done a rest → (text : List Bool) × (bits ≡ text ++ rest)
field_takes zero p v bits a rest e = ([], (cond_done (p v) v a bits rest e).2)
field_takes (suc n) p v [] a rest e = absurd (cond_more_done (some (suc n) p v) a rest e)
field_takes (suc n) p v (b ∷ bits) a rest e = let t = field_takes n p (2 * v + digit b) bits a rest e in (b ∷ t.0, ap (λ (s : List Bool). b ∷ s) t.1)

field_stays : (n : ℕ) (p : ℕ → Bool) (v : ℕ) (bits more : List Bool) (a : ℕ) (rest : List Bool) → field_from n p v bits ≡ Done a rest → field_from n p v (bits ++ more) ≡ Done a (rest ++ more)
field_stays zero p v bits more a rest e = let c = cond_done (p v) v a bits rest e in rw (c.0, c.1, c.2) refl
field_stays (suc n) p v [] more a rest e = absurd (cond_more_done (some (suc n) p v) a rest e)
field_stays (suc n) p v (b ∷ bits) more a rest e = field_stays n p (2 * v + digit b) bits more a rest e

field_stays_bad : (n : ℕ) (p : ℕ → Bool) (v : ℕ) (bits more : List Bool) → field_from n p v bits ≡ Bad → field_from n p v (bits ++ more) ≡ Bad
field_stays_bad zero p v bits more e = rw (cond_done_bad (p v) v bits e) refl
field_stays_bad (suc n) p v [] more e = field-none (suc n) p v more (cond_more_bad (some (suc n) p v) e)
field_stays_bad (suc n) p v (b ∷ bits) more e = field_stays_bad n p (2 * v + digit b) bits more e

-- how long a field is
pub field_length : (n : ℕ) (p : ℕ → Bool) (v : ℕ) (bits : List Bool) (a : ℕ) (rest : List Bool) → field_from n p v bits ≡ Done a rest → length bits ≡ n + length rest
field_length zero p v bits a rest e = ap length (cond_done (p v) v a bits rest e).2 ∙ (let z : length rest ≡ 0 + length rest = omega arith in z)
field_length (suc n) p v [] a rest e = absurd (cond_more_done (some (suc n) p v) a rest e)
field_length (suc n) p v (b ∷ bits) a rest e = let t = field_length n p (2 * v + digit b) bits a rest e in omega arith

field_enough : (n : ℕ) (p : ℕ → Bool) (v : ℕ) (text rest : List Bool) (a : ℕ) → field_from n p v (text ++ rest) ≡ Done a rest → field_from n p v text ≡ Done a []
field_enough zero p v text rest a e = let c = cond_done (p v) v a (text ++ rest) rest e in rw (c.0, c.1, same_text text [] rest c.2) refl
field_enough (suc n) p v [] rest a e = let l : length rest ≡ suc n + length rest = field_length (suc n) p v rest a rest e in absurd (omega (arith, l))
field_enough (suc n) p v (b ∷ text) rest a e = field_enough n p (2 * v + digit b) text rest a e

field_completes : (n : ℕ) (p : ℕ → Bool) (v : ℕ) (bits : List Bool) → field_from n p v bits ≡ More → (more : List Bool) × (a : ℕ) × (field_from n p v (bits ++ more) ≡ Done a [])
field_completes zero p v bits e = absurd (cond_done_more (p v) v bits e)
field_completes (suc n) p v [] e = field-some (suc n) p v (cond_more (some (suc n) p v) e)
field_completes (suc n) p v (b ∷ bits) e = field_completes n p (2 * v + digit b) bits e

field_opens : (n : ℕ) (p : ℕ → Bool) (v : ℕ) → some n p v ≡ true → field_from n p v [] ≡ Bad → ⊥
field_opens zero p v h e = let f : p v ≡ false = cond_done_bad (p v) v [] e in cc
field_opens (suc n) p v h e = let f : some (suc n) p v ≡ false = cond_more_bad (some (suc n) p v) e in cc

pub IsSound-field : (n : ℕ) (p : ℕ → Bool) → some n p 0 ≡ true → IsSound (λ v. p v ≡ true) (field n p)
IsSound-field n p h = record {
  gives = field_gives n p 0;
  takes = field_takes n p 0;
  stays = field_stays n p 0;
  stays_bad = field_stays_bad n p 0;
  enough = field_enough n p 0;
  completes = field_completes n p 0;
  opens = field_opens n p 0 h;
}

-- ---- zeros before a one

zeros_gives : (limit z : ℕ) (bits : List Bool) (a : ℕ) (rest : List Bool) → zeros_from limit z bits ≡ Done a rest → a < limit
zeros_gives limit z [] a rest e = absurd (cond_more_done (ltb z limit) a rest e)
zeros_gives limit z (true ∷ bits) a rest e =
    let c = cond_done (ltb z limit) z a bits rest e in
    subst (λ (w : ℕ). w < limit) c.1 (ltb-true z limit c.0)
zeros_gives limit z (false ∷ bits) a rest e =
    elim (ltb z limit) as (λ b. cond b (zeros_from limit (z + 1) bits) Bad ≡ Done a rest → a < limit) [
      | true ↦ λ k. zeros_gives limit (z + 1) bits a rest k
      | false ↦ λ k. absurd cc
    ] e

zeros_takes : (limit z : ℕ) (bits : List Bool) (a : ℕ) (rest : List Bool) → zeros_from limit z bits ≡ Done a rest → (text : List Bool) × (bits ≡ text ++ rest)
zeros_takes limit z [] a rest e = absurd (cond_more_done (ltb z limit) a rest e)
zeros_takes limit z (true ∷ bits) a rest e = (true ∷ [], ap (λ (s : List Bool). true ∷ s) (cond_done (ltb z limit) z a bits rest e).2)
zeros_takes limit z (false ∷ bits) a rest e =
    elim (ltb z limit) as (λ b. cond b (zeros_from limit (z + 1) bits) Bad ≡ Done a rest → (text : List Bool) × (false ∷ bits ≡ text ++ rest)) [
      | true ↦ λ k. let t = zeros_takes limit (z + 1) bits a rest k in (false ∷ t.0, ap (λ (s : List Bool). false ∷ s) t.1)
      | false ↦ λ k. absurd cc
    ] e

zeros_stays : (limit z : ℕ) (bits more : List Bool) (a : ℕ) (rest : List Bool) → zeros_from limit z bits ≡ Done a rest → zeros_from limit z (bits ++ more) ≡ Done a (rest ++ more)
zeros_stays limit z [] more a rest e = absurd (cond_more_done (ltb z limit) a rest e)
zeros_stays limit z (true ∷ bits) more a rest e = let c = cond_done (ltb z limit) z a bits rest e in rw (c.0, c.1, c.2) refl
zeros_stays limit z (false ∷ bits) more a rest e =
    elim (ltb z limit) as (λ b. cond b (zeros_from limit (z + 1) bits) Bad ≡ Done a rest → cond b (zeros_from limit (z + 1) (bits ++ more)) Bad ≡ Done a (rest ++ more)) [
      | true ↦ λ k. zeros_stays limit (z + 1) bits more a rest k
      | false ↦ λ k. absurd cc
    ] e

pub zeros-none : (limit z : ℕ) (bits : List Bool) → ltb z limit ≡ false → zeros_from limit z bits ≡ Bad
zeros-none limit z [] e = rw e refl
zeros-none limit z (true ∷ bits) e = rw e refl
zeros-none limit z (false ∷ bits) e = rw e refl

zeros_stays_bad : (limit z : ℕ) (bits more : List Bool) → zeros_from limit z bits ≡ Bad → zeros_from limit z (bits ++ more) ≡ Bad
zeros_stays_bad limit z [] more e = zeros-none limit z more (cond_more_bad (ltb z limit) e)
zeros_stays_bad limit z (true ∷ bits) more e = rw (cond_done_bad (ltb z limit) z bits e) refl
zeros_stays_bad limit z (false ∷ bits) more e =
    elim (ltb z limit) as (λ b. cond b (zeros_from limit (z + 1) bits) Bad ≡ Bad → cond b (zeros_from limit (z + 1) (bits ++ more)) Bad ≡ Bad) [
      | true ↦ λ k. zeros_stays_bad limit (z + 1) bits more k
      | false ↦ λ k. refl
    ] e

zeros_shorter : (limit z : ℕ) (bits : List Bool) (a : ℕ) (rest : List Bool) → zeros_from limit z bits ≡ Done a rest → length rest < length bits
zeros_shorter limit z [] a rest e = absurd (cond_more_done (ltb z limit) a rest e)
zeros_shorter limit z (true ∷ bits) a rest e = let l : length bits ≡ length rest = ap length (cond_done (ltb z limit) z a bits rest e).2 in omega (arith, l)
zeros_shorter limit z (false ∷ bits) a rest e =
    elim (ltb z limit) as (λ b. cond b (zeros_from limit (z + 1) bits) Bad ≡ Done a rest → length rest < length (false ∷ bits)) [
      | true ↦ λ k. let l : length rest < length bits = zeros_shorter limit (z + 1) bits a rest k in omega (arith, l)
      | false ↦ λ k. absurd cc
    ] e

zeros_enough : (limit z : ℕ) (text rest : List Bool) (a : ℕ) → zeros_from limit z (text ++ rest) ≡ Done a rest → zeros_from limit z text ≡ Done a []
zeros_enough limit z [] rest a e = let l : length rest < length rest = zeros_shorter limit z rest a rest e in absurd (omega (arith, l))
zeros_enough limit z (true ∷ text) rest a e = let c = cond_done (ltb z limit) z a (text ++ rest) rest e in rw (c.0, c.1, same_text text [] rest c.2) refl
zeros_enough limit z (false ∷ text) rest a e =
    elim (ltb z limit) as (λ b. cond b (zeros_from limit (z + 1) (text ++ rest)) Bad ≡ Done a rest → cond b (zeros_from limit (z + 1) text) Bad ≡ Done a []) [
      | true ↦ λ k. zeros_enough limit (z + 1) text rest a k
      | false ↦ λ k. absurd cc
    ] e

zeros_completes : (limit z : ℕ) (bits : List Bool) → zeros_from limit z bits ≡ More → (more : List Bool) × (a : ℕ) × (zeros_from limit z (bits ++ more) ≡ Done a [])
zeros_completes limit z [] e = let h = cond_more (ltb z limit) e in (true ∷ [], z, rw h refl)
zeros_completes limit z (true ∷ bits) e = absurd (cond_done_more (ltb z limit) z bits e)
zeros_completes limit z (false ∷ bits) e =
    elim (ltb z limit) as (λ b. cond b (zeros_from limit (z + 1) bits) Bad ≡ More → (more : List Bool) × (a : ℕ) × (cond b (zeros_from limit (z + 1) (bits ++ more)) Bad ≡ Done a [])) [
      | true ↦ λ k. zeros_completes limit (z + 1) bits k
      | false ↦ λ k. absurd cc
    ] e

pub IsSound-zeros : (limit : ℕ) → 0 < limit → IsSound (λ z. z < limit) (zeros limit)
IsSound-zeros limit h = record {
  gives = zeros_gives limit 0;
  takes = zeros_takes limit 0;
  stays = zeros_stays limit 0;
  stays_bad = zeros_stays_bad limit 0;
  enough = zeros_enough limit 0;
  completes = zeros_completes limit 0;
  opens = λ e. let f : ltb 0 limit ≡ false = cond_more_bad (ltb 0 limit) e in let g : limit ≤ 0 = ltb-false 0 limit f in omega arith;
}

-- a value that two readers gave
pub done_of : {A B : Type 0} (r : Reader A) (f : A → Reader B) (bits : List Bool) (b : B) (rest : List Bool) → (r >>= f) bits ≡ Done b rest → (a : A) × (mid : List Bool) × (r bits ≡ Done a mid) × (f a mid ≡ Done b rest)
done_of r f bits b rest e = done_by (r bits) f b rest e
  where
    done_by : {A B : Type 0} (v : Answer A) (f : A → Reader B) (b : B) (rest : List Bool) → on v f ≡ Done b rest → (a : A) × (mid : List Bool) × (v ≡ Done a mid) × (f a mid ≡ Done b rest)
    done_by (Done a mid) f b rest e = (a, mid, refl, e)
    done_by More f b rest e = absurd cc
    done_by Bad f b rest e = absurd cc
