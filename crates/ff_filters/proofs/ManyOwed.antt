-- What each filter of several inputs or outputs owes.
use Rattle.std.proofs.Common.{◌≡◌, ℕ, zero, suc, ◌*◌, ◌≤◌, take, nat_le, ◌==◌, Bool, false, true, Ok, List, [], ◌∷◌, length, map, refl, sym, ap, subst, ◌∙◌, arith}
use Rattle.std.specs.Prelude.{replicate}
use Rattle.std.specs.List.{AllByRecursion, Contains}
use Rattle.std.proofs.Math.Nat.{mul-le-mul_right}
use Rattle.std.proofs.lemmas.List.{length-replicate, length-take-le}
use Rattle.ff_frame.specs.declared.config.ConfigError.TheVariants.{Pads, Kind, Mismatch, BadSize}
use Rattle.ff_frame.specs.declared.head.StreamHead.{StreamHead}
use Rattle.ff_stream.specs.declared.item.Lane.{Lane}
use Rattle.ff_stream.specs.declared.item.Lane.TheVariants.{Frames}
use Rattle.ff_lang.specs.declared.graph.Arg.{Arg}
use Rattle.ff_filter.specs.Options.{is_sound, is_video}
use Rattle.ff_filter.specs.Plain.{no_manual}
use Rattle.ff_filter.specs.spread.Splits.{split_manual, IsSplit, split_view, split_heads}
use Rattle.ff_afilter.specs.Channels.{IsChannelSplit, mono_head, channels_in, channels_view, mono_heads}
use Rattle.ff_fsync.specs.declared.stacks.options.StackSettings.{StackSettings}
use Rattle.ff_fsync.specs.declared.stacks.shape.Direction.{Direction}
use Rattle.ff_fsync.specs.stacks.Heads.{input_fault, stack_fault, total}
use Rattle.ff_fsync.specs.stacks.Options.{stack_manual, counted}
use Rattle.ff_fsync.specs.stacks.Stacks.{StackOf, stack_on, IsStack, stack_view, head_of}
use Rattle.ff_joins.specs.Arguments.{each_head, last_number}
use Rattle.ff_concat.specs.Arguments.{asked, streams_of, concat_manual, concat_set, concat_start}
use Rattle.ff_concat.specs.ConcatOptions.{IsConcat, start_view, start_heads}
use Rattle.ff_concat.specs.Pads.{inputs_of, takes_audio}
use Rattle.ff_concat.specs.laws.Fed.{CanFollow}
use Rattle.ff_concat.specs.laws.StartLaws.{start-new}
use Rattle.ff_concat.proofs.Agreeing.{concat_made}
use Rattle.ff_concat.proofs.Lanes.{all_lanes, front_all}
use Rattle.ff_concat.proofs.PadCounts.{asked_fit, streams_few}
use Rattle.ff_joins.specs.JoinOptions.{join_manual, IsJoin, inputs_said, is_like, channels_in as all_channels, with_channels}
use Rattle.ff_joins.specs.JoinView.{join_view, head_itself}
use Rattle.ff_filters.specs.declared.name.FilterName.TheVariants as filter
use Rattle.ff_filters.specs.ReadBy.{read_by}
use Rattle.ff_filters.specs.SetBy.{set_none, set_split, set_stack, set_join}
use Rattle.ff_filters.specs.Configured.{plain_by, copied_as, split_by, stacked_as, stack_by}
use Rattle.ff_filters.specs.Configured.{concat_by, joined_as, join_by}
use Rattle.ff_filters.specs.Definitions.{merging, sharing, definition_of, one, several, relation_of}
use Rattle.ff_filters.proofs.Agreeing.{plain_is, split_is, stack_is, concat_is, join_is}
use Rattle.ff_filters.proofs.Refusing.{configured-so, stack-so, concat-so, join-so}
use Rattle.ff_filters.proofs.Parting.{if_ok, then_ok, unless_ok, parts_of}
use Rattle.ff_filters.proofs.Settings.{same_ok, split_read, counted_few, last_few, last_least}
use Rattle.ff_filters.proofs.Owing.{Becomes, among, itself, mono, longer, joined, Gives, GivesOne, Owed, joining_owed, merging_owed, sharing_owed}
use Rattle.ff_filters.proofs.LimitedLemmas.Ones.{split_owes, channels_owes}
use Rattle.ff_filters.proofs.LimitedLemmas.Manies.{stack_owes, join_owes}
use Rattle.ff_filters.proofs.LimitedLemmas.Segments.{concat_owes}

-- ---- of several outputs

copied_lanes : (n : ℕ) (h : StreamHead) → replicate n (Frames h) ≡ map Frames (replicate n h)
copied_lanes zero h = refl
copied_lanes (suc n) h = ap (λ (ls : List Lane). Frames h ∷ ls) (copied_lanes n h)

copied_heads : (n : ℕ) (h k : StreamHead) → Becomes (h ∷ []) k → AllByRecursion (λ j. Becomes (h ∷ []) j) (replicate n k)
copied_heads zero h k is = tt
copied_heads (suc n) h k is = (is, copied_heads n h k is)

pub split_owed : (takes_sound : Bool) (wanted : StreamHead → Bool)
    → Owed (sharing (last_number split_manual 0 1 16 2) false takes_sound (split_by wanted) split_view split_heads)
    (several (IsSplit wanted) (λ heads. split_view) split_heads)
split_owed takes_sound wanted =
    sharing_owed (IsSplit wanted) (split_by wanted) (split_is wanted)
    (λ args heads. configured-so wanted split_manual set_split (record { outputs = 2 }) copied_as args heads (λ h u. tt))
    (last_number split_manual 0 1 16 2) false takes_sound split_view split_heads
    (λ args. (last_least split_manual 0 1 16 2 false 0 2 args (omega arith) (omega arith), last_few split_manual 0 1 16 2 false 0 2 args (omega arith) (omega arith)))
    (λ args heads m e.
    let p = parts_of wanted split_manual set_split (record { outputs = 2 }) copied_as args heads m e in
    let n = p.settings.outputs in
    subst (λ (x : StreamHead × ℕ). Gives
    (sharing (last_number split_manual 0 1 16 2) false takes_sound (split_by wanted) split_view split_heads) args heads
    (record { view = split_view x; outs = split_heads x }))
    (same_ok (p.head, n) m p.made_is)
    (record {
      first = p.head;
      others = [];
      fed = p.only;
      ins = ap (map Frames) (sym p.only);
      outs = copied_lanes n p.head;
      new = record { shut = λ q. refl; ended = λ q. refl; stopped = λ q. refl };
      owes = λ timed. split_owes (p.head, n);
      become = copied_heads n p.head p.head (itself p.head []);
      count = length-replicate n p.head ∙ split_read false 0 (record { outputs = 2 }) args p.settings p.read;
    }))

pub channelsplit_owed : Owed (definition_of filter.ChannelSplit) (relation_of filter.ChannelSplit)
channelsplit_owed =
    sharing_owed IsChannelSplit (plain_by is_sound (λ h. h)) (plain_is is_sound (λ h. h))
    (λ args heads. configured-so is_sound no_manual set_none (record {}) (λ h u. Ok h) args heads (λ h u. tt))
    (λ args. 0) true true channels_view mono_heads (λ args. refl)
    (λ args heads m e.
    let p = parts_of is_sound no_manual set_none (record {}) (λ h u. Ok h) args heads m e in
    subst (λ (x : StreamHead). Gives (definition_of filter.ChannelSplit) args heads (record { view = channels_view x; outs = mono_heads x }))
    (same_ok p.head m p.made_is)
    (record {
      first = p.head;
      others = [];
      fed = p.only;
      ins = ap (map Frames) (sym p.only);
      outs = copied_lanes (channels_in p.head) (mono_head p.head);
      new = record { shut = λ q. refl; ended = λ q. refl; stopped = λ q. refl };
      owes = λ timed. channels_owes p.head p.kind;
      become = copied_heads (channels_in p.head) p.head (mono_head p.head) (mono p.head []);
      count = (refl, p.kind, length-replicate (channels_in p.head) (mono_head p.head), refl);
    }))

-- ---- of several inputs

stacked_gives : (d : Direction) (heads : List StreamHead) (s : StackSettings) (m : StackOf) → stacked_as d heads s ≡ Ok m → GivesOne heads (stack_view m) (head_of m)
stacked_gives d [] s m e = cc
stacked_gives d (h ∷ hs) s m e =
    let k = unless_ok (stack_fault d h (h ∷ hs)) (Ok (stack_on d h (h ∷ hs) s.shortest)) m e in
    let same = same_ok (stack_on d h (h ∷ hs) s.shortest) m k.1 in
    record {
      first = h;
      others = hs;
      fed = refl;
      ins = ap (λ (x : StackOf). map Frames x.heads) (sym same);
      outs = refl;
      new = record { shut = λ p. refl; ended = λ q. refl; stopped = λ q. refl };
      owes = λ timed. stack_owes d (h ∷ hs) s m timed e;
      becomes = subst (λ (x : StackOf). Becomes (h ∷ hs) (head_of x)) same (longer h hs d (total d (h ∷ hs)));
    }

pub stack_owed : (d : Direction) → Owed (merging (counted false 0 2) (λ args pad. false) (stack_by d) (λ heads. stack_view) head_of)
    (one (IsStack d) (λ heads. stack_view) head_of)
stack_owed d = merging_owed (IsStack d) (stack_by d) (stack_is d) (stack-so d) (counted false 0 2) (λ args pad. false) (λ heads. stack_view) head_of
    (λ args. counted_few false 0 2 args (omega arith))
    (λ args heads m e.
    let first = unless_ok (input_fault (counted false 0 2 args) is_video heads) _ m e in
    let second = then_ok (stacked_as d heads) (read_by stack_manual set_stack false 0 (record { inputs = 2; shortest = false }) args) m first.1 in
    stacked_gives d heads second.0 m second.2)

taken_among : (n : ℕ) (hs : List StreamHead) (all : List StreamHead) → ((h : StreamHead) → Contains hs h → Contains all h)
    → AllByRecursion (λ k. Becomes all k) (take n hs)
taken_among zero hs all inside = tt
taken_among (suc n) [] all inside = tt
taken_among (suc n) (h ∷ hs) all inside =
    (among all h (inside h (0, omega arith, refl)), taken_among n hs all (λ k there. inside k (suc there.0, (let lt = there.1 in omega (arith, lt)), there.2)))

segments_give : (args : List Arg) (heads : List StreamHead) (m : List StreamHead × ℕ) → concat_by args heads ≡ Ok m
    → Gives (definition_of filter.Concat) args heads (record { view = start_view m; outs = start_heads m })
segments_give args [] m e = absurd (
    let is = concat_made args [] (read_by concat_manual concat_set false 0 (concat_start args) args) m e in
    let fit = asked_fit args in
    let one = (streams_few (asked args) fit.kinds).0 in
    let count = is.count in
    let some = fit.some in
    let product : 2 * streams_of (asked args) ≤ (asked args).segments * streams_of (asked args) = mul-le-mul_right (streams_of (asked args)) some in
    omega (arith, count, product, one)
    )
segments_give args (h ∷ hs) m e =
    let a = asked args in
    let is = concat_made args (h ∷ hs) (read_by concat_manual concat_set false 0 (concat_start args) args) m e in
    subst (λ (x : List StreamHead × ℕ). Gives (definition_of filter.Concat) args (h ∷ hs) (record { view = start_view x; outs = start_heads x })) (sym is.made)
    (record {
      first = h;
      others = hs;
      fed = refl;
      ins = all_lanes a.segments (streams_of a) (h ∷ hs) is.alike is.count;
      outs = refl;
      new = start-new (take (streams_of a) (h ∷ hs), a.segments);
      owes = λ heads_so. concat_owes (take (streams_of a) (h ∷ hs)) a.segments (front_all CanFollow (streams_of a) (h ∷ hs) heads_so);
      become = taken_among (streams_of a) (h ∷ hs) (h ∷ hs) (λ k there. there);
      count = length-take-le (streams_of a) (h ∷ hs) (
          let fit = asked_fit args in
          let some = fit.some in
          let long = is.count in
          let more : 1 * streams_of a ≤ a.segments * streams_of a = mul-le-mul_right (streams_of a) (let one : 1 ≤ a.segments = omega (arith, some) in one) in
          omega (arith, long, more)
          );
    })

pub concat_owed : Owed (definition_of filter.Concat) (relation_of filter.Concat)
concat_owed = joining_owed IsConcat concat_by concat_is concat-so (λ args. inputs_of (asked args)) (λ args. streams_of (asked args)) false (λ args. takes_audio (asked args))
    (λ heads. start_view) start_heads (λ args. (asked_fit args).inputs)
    (λ args. let few = streams_few (asked args) (asked_fit args).kinds in let most = few.1 in (few.0, omega (arith, most)))
    segments_give

joined_gives : (heads : List StreamHead) (m : StreamHead) → each_head is_sound heads ≡ true → joined_as heads ≡ Ok m → GivesOne heads (join_view heads m) m
joined_gives [] m sounds e = cc
joined_gives (h ∷ hs) m sounds e =
    let first = if_ok (each_head (is_like h) hs) _ Mismatch m e in
    let second = if_ok (nat_le (all_channels (h ∷ hs)) 8) (Ok (with_channels h (all_channels (h ∷ hs)))) BadSize m first.1 in
    record {
      first = h;
      others = hs;
      fed = refl;
      ins = refl;
      outs = refl;
      new = record { shut = λ p. refl; ended = λ q. refl; stopped = λ q. refl };
      owes = λ timed. join_owes (h ∷ hs) m sounds e;
      becomes = subst (λ (x : StreamHead). Becomes (h ∷ hs) x) (same_ok (with_channels h (all_channels (h ∷ hs))) m second.1) (joined h hs second.0);
    }

join_few : (args : List Arg) → inputs_said args ≤ 16
join_few args = (let few = last_few join_manual 0 2 8 2 false 0 2 args (omega arith) (omega arith) in omega (arith, few))

pub join_owed : Owed (definition_of filter.Join) (relation_of filter.Join)
join_owed = merging_owed IsJoin join_by join_is join-so inputs_said (λ args pad. true) join_view head_itself join_few
    (λ args heads m e.
    let first = if_ok (length heads == inputs_said args) _ Pads m e in
    let second = if_ok (each_head is_sound heads) _ Kind m first.1 in
    let third = then_ok (λ s. joined_as heads) (read_by join_manual set_join false 0 (record { inputs = 2 }) args) m second.1 in
    joined_gives heads m second.0 third.2)
