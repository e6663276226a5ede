-- What stands when a path was forgotten.
use Rattle.std.proofs.Common.{◌≡◌, ◌⊎◌, inl, inr, Bool, true, false, ◌&&◌, ◌||◌, List, [], ◌∷◌, ◌++◌, refl, sym, ap, subst, ◌∙◌, bytes_eq, None}
use Rattle.std.specs.Prelude.{if◌then◌else◌, is_some}
use Rattle.std.proofs.Math.Bool.{and-false}
use Rattle.smk_keep_lock.proofs.Releasing.{going_none}
use Rattle.smk_base.specs.Path.{is_at_or_under}
use Rattle.smk_base.specs.Place.{record_place, mark_place, note_place, records_folder, marks_folder, notes_folder}
use Rattle.smk_base.proofs.Apart.{record-record, record-mark, record-note, mark-mark, mark-note, note-note}
use Rattle.smk_base.proofs.Places.{place_itself}
use Rattle.smk_base.proofs.Under.{at_itself, never_both}
use Rattle.smk_world.specs.declared.event.Event.{Event}
use Rattle.smk_world.specs.declared.event.NodeState.{NodeState}
use Rattle.smk_world.specs.Calls.{Lets, failed}
use Rattle.smk_world.specs.Requests.{Request, request, HasDone}
use Rattle.smk_world.specs.Requests.Request.{Remove, Settle}
use Rattle.smk_world.specs.Runs.{Follows}
use Rattle.smk_world.specs.Trees.{Path, Act, IsIn, Each, is_path_text}
use Rattle.smk_world.specs.World.{World, after, run, reading, going, standing, node_after, is_within}
use Rattle.smk_world.proofs.Devices.{looks_nodes}
use Rattle.smk_world.proofs.Runs.{run_append}
use Rattle.smk_record.specs.Reading.{record_in}
use Rattle.smk_store.specs.Forgetting.{forget_requests, forget_if, LooksThen}
use Rattle.smk_store.specs.Images.{is_known, kept_by, stands}
use Rattle.smk_store.specs.declared.store.Kept.TheVariants.{Absent}
use Rattle.smk_keep_lock.proofs.Named.{removed_call}
use Rattle.smk_keep_lock.proofs.Staying.{KeepsTo, call_stays, carried_keep, changes_only}
use Rattle.smk_keep_forget.specs.Seen.{seen}
use Rattle.smk_keep_forget.proofs.Stores.{IsWithout}

-- events after others are lets by the world that these lead to
pub follows_rest : (act : Act) (es fs : List Event) (w : World) → Follows act w (es ++ fs) → Follows act (run w es) fs
follows_rest act [] fs w h = h
follows_rest act (e ∷ es) fs w h = follows_rest act es fs (after w e) h.1

-- ## What is removed reads nothing

-- a removal, or a settling
abbrev IsRemoval : Request → Type 0
IsRemoval r = ((x : Path) × (r ≡ Remove x)) ⊎ ((xs : List Path) × (r ≡ Settle xs))

module _ (act : Act) (x : Path) where
  reads_if : (b : Bool) (s : NodeState) → (b ≡ true) ⊎ (reading s ≡ None) → reading (if b then going None s else s) ≡ None
  reads_if true s h = going_none s
  reads_if false s (inl e) = absurd (never_both false e refl)
  reads_if false s (inr e) = e

  -- what was removed is gone, and what is gone stays so
  removed_node : (w : World) (e : Event) (y : Path) → Lets act w e.call e.left → request e.call ≡ Remove y → failed e.call ≡ false → (is_at_or_under x y ≡ true) ⊎ (reading (w.nodes x) ≡ None)
      → reading ((after w e).nodes x) ≡ None
  removed_node w e y lets is quiet h =
      let call = removed_call e.call y is quiet in
      let left = subst (λ c. Lets act w c e.left) call lets in
      ap reading (ap (λ c. node_after c e.left w.children x (w.nodes x)) call ∙ ap (λ l. if is_at_or_under x y then going (standing l x) (w.nodes x) else w.nodes x) left) ∙ reads_if (is_at_or_under x y) (w.nodes x) h

  settled_node : (w : World) (e : Event) (ys : List Path) → request e.call ≡ Settle ys → reading (w.nodes x) ≡ None → reading ((after w e).nodes x) ≡ None
  settled_node w e ys is h = sym (call_stays [] [] e.left w.children x (w.nodes x) refl refl e.call (subst (KeepsTo [] []) (sym is) tt)).0 ∙ h

  same_removed : (y z : Path) → Remove y ≡ Remove z → y ≡ z
  same_removed y z is = cc

  no_settling : (y : Path) (zs : List Path) → Remove y ≡ Settle zs → ⊥
  no_settling y zs is = cc

  abbrev WillBeGone : List Request → World → Type 0
  WillBeGone rs w = IsIn rs (Remove x) ⊎ (reading (w.nodes x) ≡ None)

  -- one call: what it removes is gone, or is still to be removed
  one_gone : (r : Request) (rs : List Request) (w : World) (e : Event) → Lets act w e.call e.left → request e.call ≡ r → failed e.call ≡ false → IsRemoval r → WillBeGone (r ∷ rs) w → WillBeGone rs (after w e)
  one_gone r rs w e lets is quiet (inl (y, to)) (inl (inl this)) =
      inr (removed_node w e y lets (is ∙ to) quiet (inl (subst (λ z. is_at_or_under x z ≡ true) (same_removed x y (this ∙ to)) (at_itself x))))
  one_gone r rs w e lets is quiet (inl (y, to)) (inl (inr i)) = inl i
  one_gone r rs w e lets is quiet (inl (y, to)) (inr none) = inr (removed_node w e y lets (is ∙ to) quiet (inr none))
  one_gone r rs w e lets is quiet (inr (ys, to)) (inl (inl this)) = absurd (no_settling x ys (this ∙ to))
  one_gone r rs w e lets is quiet (inr (ys, to)) (inl (inr i)) = inl i
  one_gone r rs w e lets is quiet (inr (ys, to)) (inr none) = inr (settled_node w e ys (is ∙ to) none)

  gone_of : (rs : List Request) (w : World) (es : List Event) → Each IsRemoval rs → Follows act w es → HasDone rs es → WillBeGone rs w → reading ((run w es).nodes x) ≡ None
  gone_of [] w [] each follows done (inl i) = absurd i
  gone_of [] w [] each follows done (inr h) = h
  gone_of [] w (e ∷ es) each follows done h = absurd done
  gone_of (r ∷ rs) w [] each follows done h = absurd done
  gone_of (r ∷ rs) w (e ∷ es) each follows done h = gone_of rs (after w e) es each.1 follows.1 done.2 (one_gone r rs w e follows.0.lets done.0 done.1 each.0 h)

-- ## The calls on one path

-- the path's own places
abbrev pub own_of : Path → List Path
own_of p = record_place p ∷ note_place p ∷ mark_place p ∷ []

pub requests_keep : (p : Path) → Each (KeepsTo (own_of p) []) (forget_requests p)
requests_keep p = (tt, (inl refl, (inr (inl refl), (tt, (inr (inr (inl refl)), (tt, tt))))))

each_removal : (p : Path) → Each IsRemoval (forget_requests p)
each_removal p = (
  inr (p ∷ records_folder ∷ marks_folder ∷ notes_folder ∷ [], refl),
  (inl (record_place p, refl), (inl (note_place p, refl), (inr (record_place p ∷ note_place p ∷ [], refl), (inl (mark_place p, refl), (inr (mark_place p ∷ [], refl), tt))))),
)

no_record : (b : Bool) (p : Path) → stands (if b then kept_by record_in p None else Absent) ≡ false
no_record true p = refl
no_record false p = refl

-- nothing is known of a path at whose places nothing reads
pub unknown : (w : World) (p : Path) → reading (w.nodes (record_place p)) ≡ None → reading (w.nodes (mark_place p)) ≡ None → reading (w.nodes (note_place p)) ≡ None → is_known (seen w) p ≡ false
unknown w p r m n =
    let text = is_path_text p in
    ap (λ k. stands (if text then kept_by record_in p k else Absent) || ((text && is_some (reading (w.nodes (mark_place p)))) || (text && is_some (reading (w.nodes (note_place p)))))) r
    ∙ ap (λ b. b || ((text && is_some (reading (w.nodes (mark_place p)))) || (text && is_some (reading (w.nodes (note_place p)))))) (no_record text p)
    ∙ ap (λ k. (text && is_some k) || (text && is_some (reading (w.nodes (note_place p))))) m
    ∙ ap (λ b. b || (text && is_some (reading (w.nodes (note_place p))))) (and-false text)
    ∙ ap (λ k. text && is_some k) n
    ∙ and-false text

within_none : (q p : Path) → is_at_or_under q (record_place p) ≡ false → is_at_or_under q (note_place p) ≡ false → is_at_or_under q (mark_place p) ≡ false → is_within q (own_of p) ≡ false
within_none q p r n m =
    ap (λ b. b || (is_at_or_under q (note_place p) || (is_at_or_under q (mark_place p) || false))) r
    ∙ ap (λ b. b || (is_at_or_under q (mark_place p) || false)) n
    ∙ ap (λ b. b || false) m

module _ (w : World) (p : Path) where
  not_same : (q : Path) → bytes_eq q p ≡ false → q ≡ p → ⊥
  not_same q off same = never_both (bytes_eq q p) (subst (λ x. bytes_eq q x ≡ true) same (place_itself q)) off

  -- other paths are known as before, where nothing but the path's own places changed
  others : (v : World) → ((q : Path) → is_within q (own_of p) ≡ false → reading (v.nodes q) ≡ reading (w.nodes q)) → is_known (seen v) p ≡ false → IsWithout p (seen w) (seen v)
  others v same none =
      record {
        none = none;
        kept = λ q off. ap (λ n. if is_path_text q then kept_by record_in q n else Absent)
            (same (record_place q) (within_none (record_place q) p (record-record q p (not_same q off)).at_or_under (record-note q p).at_or_under (record-mark q p).at_or_under));
        marked = λ q off. ap (λ n. is_path_text q && is_some n)
            (same (mark_place q) (within_none (mark_place q) p (record-mark p q).at_or_over (mark-note q p).at_or_under (mark-mark q p (not_same q off)).at_or_under));
        noted = λ q off. ap (λ n. is_path_text q && is_some n)
            (same (note_place q) (within_none (note_place q) p (record-note p q).at_or_over (note-note q p (not_same q off)).at_or_under (mark-note p q).at_or_over));
      }

  -- all calls by which it is forgotten
  calls_forget : (act : Act) (v : World) (es : List Event) → Follows act v es → HasDone (forget_requests p) es → v.nodes ≡ w.nodes → IsWithout p (seen w) (seen (run v es))
  calls_forget act v es follows done same =
      let x = run v es in
      others x (λ q off. sym (changes_only (own_of p) [] v es (carried_keep (own_of p) [] (forget_requests p) true es (requests_keep p) done) q off refl).0 ∙ ap (λ ns. reading (ns q)) same)
      (unknown x p (gone_of act (record_place p) (forget_requests p) v es (each_removal p) follows done (inl (inr (inl refl))))
      (gone_of act (mark_place p) (forget_requests p) v es (each_removal p) follows done (inl (inr (inr (inr (inr (inl refl)))))))
      (gone_of act (note_place p) (forget_requests p) v es (each_removal p) follows done (inl (inr (inr (inl refl))))))

  -- or none of them, where nothing was known of it
  none_forget : (v : World) (es : List Event) → HasDone [] es → v.nodes ≡ w.nodes → is_known (seen w) p ≡ false → IsWithout p (seen w) (seen (run v es))
  none_forget v [] done same none =
      others v (λ q off. ap (λ ns. reading (ns q)) same) (known_nodes v same ∙ none)
    where
      known_nodes : (v : World) → v.nodes ≡ w.nodes → is_known (seen v) p ≡ is_known (seen w) p
      known_nodes v same = ap (λ (ns : Path → NodeState). is_known (seen (record v { nodes = ns })) p) same
  none_forget v (e ∷ es) done same none = absurd done

  -- looks came before
  pub forgotten_now : (act : Act) (was_known : Bool) (es : List Event) → Follows act w es → was_known ≡ is_known (seen w) p → LooksThen (λ calls. HasDone (forget_if was_known p) calls) es → IsWithout p (seen w) (seen (run w es))
  forgotten_now act was_known es follows is (looks, calls, split, look, done) =
      let all : Follows act w (looks ++ calls) = subst (Follows act w) split follows in
      subst (λ l. IsWithout p (seen w) (seen (run w l))) (sym split)
      (subst (λ v. IsWithout p (seen w) (seen v)) (sym (run_append w looks calls))
      (by was_known is (run w looks) calls (follows_rest act looks calls w all) done (looks_nodes false w looks look)))
    where
      by : (k : Bool) → k ≡ is_known (seen w) p → (v : World) (calls : List Event) → Follows act v calls → HasDone (forget_if k p) calls → v.nodes ≡ w.nodes → IsWithout p (seen w) (seen (run v calls))
      by true e v calls follows done same = calls_forget act v calls follows done same
      by false e v calls follows done same = none_forget v calls done same (sym e)
