-- What holds of the nodes after a run, by what held before.
use Rattle.std.proofs.Common.{◌≡◌, ℕ, zero, suc, ◌<◌, inl, inr, List, [], ◌∷◌, length, slice_index_or, refl, ap, sym, ◌∙◌, subst, arith, Option, None, Some}
use Rattle.ff_stream.specs.declared.item.Lane.{Lane}
use Rattle.ff_link.specs.laws.Views.{Link}
use Rattle.ff_net.specs.Pasts.{Task, IsIn}
use Rattle.ff_net.specs.laws.Views.{View}
use Rattle.ff_net_threads.specs.declared.links.ends.InEnd.{InEnd}
use Rattle.ff_net_threads.specs.declared.links.ends.OutEnd.{OutEnd}
use Rattle.ff_net_threads.specs.declared.links.linked.Linked.{Linked}
use Rattle.ff_net_threads.specs.laws.links.Ends.{in_link, out_link, in_end_at}
use Rattle.ff_net_threads.specs.laws.links.Nodes.{in_ends_links, Behind, Follows, ins_of, outs_of}
use Rattle.ff_net_threads.specs.laws.links.Runs.{AllRan}
use Rattle.ff_net_threads.specs.laws.links.Settling.{AllBehind, AllEnded, AreLinked, AreJoined, AreMeeting, IsInOf, IsOutOf}
use Rattle.ff_net_threads.proofs.LinksLemmas.Linking.{in_nth, out_nth, out_link_nth, count_map}

link_nth : (ends : List InEnd) (p : ℕ) → slice_index_or (in_ends_links ends) p None ≡ in_link (in_end_at ends p)
link_nth [] p = refl
link_nth (e ∷ es) zero = refl
link_nth (e ∷ es) (suc p) = link_nth es p

module _ {M : Type 0} (view : M → View) where
  abbrev Run : List (Linked M) → List (Linked M) → Type 0
  Run olds news = AllRan view olds news

  run_rest : (o n : Linked M) (os ns : List (Linked M)) → Run (o ∷ os) (n ∷ ns) → Run os ns
  run_rest o n os ns r = (let same = r.0 in omega arith, λ i d lt. r.1 (suc i) d (omega arith))

  pub ended_after : (olds news : List (Linked M)) → Run olds news → AllEnded news
  ended_after olds news r = record { each = λ k d lt. (r.1 k d (subst (λ (n : ℕ). k < n) r.0 lt)).1 }

  pub behind_after : (tasks : ℕ → Task) (olds news : List (Linked M)) → ((k : ℕ) (d : Linked M) → k < length olds → Behind view (tasks k) (slice_index_or olds k d)) → Run olds news → AllBehind view tasks news
  behind_after tasks olds [] h r = tt
  behind_after tasks [] (n ∷ ns) h r = absurd (let same = r.0 in omega arith)
  behind_after tasks (o ∷ os) (n ∷ ns) h r = (
    (r.1 zero o (omega arith)).0.goes (tasks zero) (h zero o (omega arith)),
    behind_after (λ k. tasks (suc k)) os ns (λ k d lt. h (suc k) d (omega arith)) (run_rest o n os ns r),
  )

  in_link_after : (links : ℕ → Link) (old new : Linked M) → Follows view old new → ((p : ℕ) → p < length (ins_of old) → in_link (in_end_at (ins_of old) p) ≡ Some (links (in_end_at (ins_of old) p).wire))
      → (p : ℕ) → p < length (ins_of new) → in_link (in_end_at (ins_of new) p) ≡ Some (links (in_end_at (ins_of new) p).wire)
  in_link_after links old new f h p lt =
      let count : length (ins_of new) ≡ length (ins_of old) = sym (count_map (λ (e : InEnd). e.wire) (ins_of new)) ∙ (ap length f.in_ends_same ∙ count_map (λ (e : InEnd). e.wire) (ins_of old)) in
      let link : in_link (in_end_at (ins_of new) p) ≡ in_link (in_end_at (ins_of old) p) = sym (link_nth (ins_of new) p) ∙ (ap (λ (ls : List (Option Link)). slice_index_or ls p None) f.in_links_same ∙ link_nth (ins_of old) p) in
      let wire : (in_end_at (ins_of new) p).wire ≡ (in_end_at (ins_of old) p).wire = sym (in_nth (ins_of new) p) ∙ (ap (λ (ws : List ℕ). slice_index_or ws p 0) f.in_ends_same ∙ in_nth (ins_of old) p) in
      link ∙ (h p (subst (λ (n : ℕ). p < n) count lt) ∙ ap (λ (w : ℕ). Some (links w)) (sym wire))

  out_link_after : (links : ℕ → Link) (old new : Linked M) → Follows view old new → ((q : ℕ) (e : OutEnd) → q < length (outs_of old) → out_link (slice_index_or (outs_of old) q e) ≡ Some (links (slice_index_or (outs_of old) q e).wire))
      → (q : ℕ) (e : OutEnd) → q < length (outs_of new) → out_link (slice_index_or (outs_of new) q e) ≡ Some (links (slice_index_or (outs_of new) q e).wire)
  out_link_after links old new f h q e lt =
      let count : length (outs_of new) ≡ length (outs_of old) = sym (count_map (λ (x : OutEnd). x.wire) (outs_of new)) ∙ (ap length f.out_ends_same ∙ count_map (λ (x : OutEnd). x.wire) (outs_of old)) in
      let lt' : q < length (outs_of old) = subst (λ (n : ℕ). q < n) count lt in
      let link : out_link (slice_index_or (outs_of new) q e) ≡ out_link (slice_index_or (outs_of old) q e) = sym (out_link_nth (outs_of new) q e lt) ∙ (ap (λ (ls : List (Option Link)). slice_index_or ls q None) f.out_links_same ∙ out_link_nth (outs_of old) q e lt') in
      let wire : (slice_index_or (outs_of new) q e).wire ≡ (slice_index_or (outs_of old) q e).wire = sym (out_nth (outs_of new) q e lt) ∙ (ap (λ (ws : List ℕ). slice_index_or ws q 0) f.out_ends_same ∙ out_nth (outs_of old) q e lt') in
      link ∙ (h q e lt' ∙ ap (λ (w : ℕ). Some (links w)) (sym wire))

  pub linked_after : (links : ℕ → Link) (olds news : List (Linked M)) → AreLinked links olds → Run olds news → AreLinked links news
  linked_after links olds news al r = record {
    ins = λ k p d klt plt. let lt = subst (λ (n : ℕ). k < n) r.0 klt in in_link_after links (slice_index_or olds k d) (slice_index_or news k d) (r.1 k d lt).0 (λ p' lt'. al.ins k p' d lt lt') p plt;
    outs = λ k q d e klt qlt. let lt = subst (λ (n : ℕ). k < n) r.0 klt in out_link_after links (slice_index_or olds k d) (slice_index_or news k d) (r.1 k d lt).0 (λ q' e' lt'. al.outs k q' d e' lt lt') q e qlt;
  }

  was_out : (olds news : List (Linked M)) (w : ℕ) → Run olds news → IsOutOf news w → IsOutOf olds w
  was_out olds [] w r i = absurd i
  was_out [] (n ∷ ns) w r i = absurd (let same = r.0 in omega arith)
  was_out (o ∷ os) (n ∷ ns) w r (inl i) = inl (subst (λ (ws : List ℕ). IsIn w ws) (r.1 zero o (omega arith)).0.outs_same i)
  was_out (o ∷ os) (n ∷ ns) w r (inr i) = inr (was_out os ns w (run_rest o n os ns r) i)

  was_in : (olds news : List (Linked M)) (w : ℕ) → Run olds news → IsInOf news w → IsInOf olds w
  was_in olds [] w r i = absurd i
  was_in [] (n ∷ ns) w r i = absurd (let same = r.0 in omega arith)
  was_in (o ∷ os) (n ∷ ns) w r (inl i) = inl (subst (λ (ws : List ℕ). IsIn w ws) (r.1 zero o (omega arith)).0.ins_same i)
  was_in (o ∷ os) (n ∷ ns) w r (inr i) = inr (was_in os ns w (run_rest o n os ns r) i)

  pub meeting_after : (lanes : List Lane) (olds news : List (Linked M)) → AreJoined lanes olds → Run olds news → AreMeeting lanes news
  meeting_after lanes olds [] j r = tt
  meeting_after lanes [] (n ∷ ns) j r = absurd (let same = r.0 in omega arith)
  meeting_after lanes (o ∷ os) (n ∷ ns) j r =
      let first = r.1 zero o (omega arith) in
      let rest = run_rest o n os ns r in (
        first.1,
        first.0.lanes_same ∙ j.0,
        λ w a b. j.1 w (subst (λ (ws : List ℕ). IsIn w ws) first.0.outs_same a) (was_out os ns w rest b),
        λ w a b. j.2 w (subst (λ (ws : List ℕ). IsIn w ws) first.0.ins_same a) (was_in os ns w rest b),
        meeting_after lanes os ns j.3 rest,
      )
