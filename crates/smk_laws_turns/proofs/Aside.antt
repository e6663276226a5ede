-- Once a child was waited for and its job closed, all that is off its places and logs stands as it did, and so do files aside from its outputs and logs.
use Rattle.std.proofs.Common.{◌≡◌, ◌⊎◌, inl, inr, Bool, true, false, ◌&&◌, List, [], ◌∷◌, ◌++◌, map, Option, None, is_some, refl, sym, ap, subst, ◌∙◌}
use Rattle.std.specs.Prelude.{if◌then◌else◌}
use Rattle.std.proofs.lemmas.Bool.{or_from}
use Rattle.smk_base.specs.Path.{is_at_or_under, is_path, overlaps, own_folder}
use Rattle.smk_base.specs.Place.{mark_place, note_place, record_place}
use Rattle.smk_base.proofs.Apart.{IsApart, apart_unless, mark-note, outside-own, path-note, record-note}
use Rattle.smk_base.proofs.Under.{at_itself, false_of_not, never_both}
use Rattle.smk_world.specs.declared.event.Event.{Event}
use Rattle.smk_world.specs.declared.event.Node.{Node}
use Rattle.smk_world.specs.declared.event.NodeState.{NodeState}
use Rattle.smk_world.specs.Trees.{Each, IsIn, Path, among, is_path_text}
use Rattle.smk_world.specs.World.{World, is_within, out_paths, owned_paths, reading, run}
use Rattle.smk_flow.specs.declared.job.Job.{Job}
use Rattle.smk_store.specs.declared.store.Kept.TheVariants.{Absent}
use Rattle.smk_store.specs.Images.{content_of, file_at, is_outside, kept_by}
use Rattle.smk_laws_plan.proofs.CurrentLists.{in_either, in_left, in_right, map_in}
use Rattle.smk_laws_protocol.proofs.Basics.{each_in}
use Rattle.smk_run.proofs.Calls.{EachCall}
use Rattle.smk_drive.specs.Moments.{Rules, seen}
use Rattle.smk_laws_moments.proofs.Spots.{overlaps_above}
use Rattle.smk_laws_moments.specs.Owning.{sites}
use Rattle.smk_laws_turns.specs.Off.{IsOff}
use Rattle.smk_laws_turns.specs.Places.{IsSameUnder}
use Rattle.smk_laws_turns.proofs.Off.{signs_are_off}
use Rattle.smk_laws_turns.proofs.ClosedCalls.{IsFree, IsOf, all_content, all_keep, content, none_within, within_of}
use Rattle.smk_laws_turns.proofs.Touched.{touched}

within_none : (ps : List Path) (q : Path) → ((p : Path) → IsIn ps p → is_at_or_under q p ≡ false) → is_within q ps ≡ false
within_none [] q none = refl
within_none (p ∷ ps) q none = or_from (is_at_or_under q p) (is_within q ps) (none p (inl refl)) (within_none ps q (λ x i. none x (inr i)))

module _
    (rules : Rules) (j : Job) (paths : Each (λ p. is_path p ≡ true) (owned_paths j.recipe j.logs)) (w u : World)
    (still : (q : Path) → is_within q (owned_paths j.recipe j.logs) ≡ false → u.nodes q ≡ w.nodes q) (es : List Event)
    (of : EachCall (IsOf (touched (out_paths j.recipe))) es) where
  abbrev v : World
  v = run u es

  abbrev outs : List Path
  outs = out_paths j.recipe

  abbrev records : List Path
  records = map record_place outs

  abbrev marks : List Path
  marks = map mark_place outs

  abbrev owned : List Path
  owned = owned_paths j.recipe j.logs

  abbrev own_files : List Path
  own_files = marks ++ (records ++ map note_place j.logs)

  path_of : (p : Path) → IsIn owned p → is_path p ≡ true
  path_of p i = each_in (λ q. is_path q ≡ true) owned p paths i

  -- ## Places off the job's

  out_site : (p : Path) → IsIn outs p → IsIn (sites j) p
  out_site p i = in_left p (outs ++ own_files) j.logs (in_left p outs own_files i)

  mark_site : (p : Path) → IsIn marks p → IsIn (sites j) p
  mark_site p i = in_left p (outs ++ own_files) j.logs (in_right p outs own_files (in_left p marks (records ++ map note_place j.logs) i))

  record_site : (p : Path) → IsIn records p → IsIn (sites j) p
  record_site p i =
      in_left p (outs ++ own_files) j.logs
      (in_right p outs own_files (in_right p marks (records ++ map note_place j.logs) (in_left p records (map note_place j.logs) i)))

  touched_site : (p : Path) → IsIn (touched outs) p → IsIn (sites j) p
  touched_site p i = go (in_either p outs (records ++ marks) i)
    where
      more : IsIn records p ⊎ IsIn marks p → IsIn (sites j) p
      more (inl k) = record_site p k
      more (inr k) = mark_site p k

      go : IsIn outs p ⊎ IsIn (records ++ marks) p → IsIn (sites j) p
      go (inl k) = out_site p k
      go (inr k) = more (in_either p records marks k)

  owned_site : (p : Path) → IsIn owned p → IsIn (sites j) p
  owned_site p i = go (in_either p outs j.logs i)
    where
      go : IsIn outs p ⊎ IsIn j.logs p → IsIn (sites j) p
      go (inl k) = out_site p k
      go (inr k) = in_right p (outs ++ own_files) j.logs k

  apart : (p q x : Path) → IsOff j p → is_at_or_under q p ≡ true → IsIn (sites j) x → IsApart x q
  apart p q x off at i =
      apart_unless x q (λ t. never_both (overlaps x p) (overlaps_above x q p at t) (each_in (λ s. overlaps s p ≡ false) (sites j) x off i))

  pub nodes_off : (p q : Path) → IsOff j p → is_at_or_under q p ≡ true → v.nodes q ≡ w.nodes q
  nodes_off p q off at =
      all_keep (touched outs) q (λ x i. apart p q x off at (touched_site x i)) u es of
      ∙ still q (none_within owned q (λ x i. apart p q x off at (owned_site x i)))

  pub elsewhere : (p : Path) → IsOff j p → IsSameUnder w v p
  elsewhere p off q at = ap reading (nodes_off p q off at)

  -- ## Signs

  pub mark_still : (p : Path) → among outs p ≡ false → v.nodes (mark_place p) ≡ w.nodes (mark_place p)
  mark_still p out = nodes_off (mark_place p) (mark_place p) (signs_are_off j p paths out).0 (at_itself (mark_place p))

  pub marked_same : (p : Path) → among outs p ≡ false → (seen rules v).marked p ≡ (seen rules w).marked p
  marked_same p out = ap (λ (s : NodeState). is_path_text p && is_some (reading s)) (mark_still p out)

  pub kept_same : (p : Path) → among outs p ≡ false → (seen rules v).kept p ≡ (seen rules w).kept p
  kept_same p out =
      ap (λ (s : NodeState). if is_path_text p then kept_by rules.read p (reading s) else Absent)
      (nodes_off (record_place p) (record_place p) (signs_are_off j p paths out).1 (at_itself (record_place p)))

  note_free : (q : Path) → IsFree (touched outs) (note_place q)
  note_free q x i = go (in_either x outs (records ++ marks) i)
    where
      more : IsIn records x ⊎ IsIn marks x → IsApart x (note_place q)
      more (inl k) = let m = map_in record_place outs x k in subst (λ y. IsApart y (note_place q)) (sym m.2) (record-note m.0 q)
      more (inr k) = let m = map_in mark_place outs x k in subst (λ y. IsApart y (note_place q)) (sym m.2) (mark-note m.0 q)

      go : IsIn outs x ⊎ IsIn (records ++ marks) x → IsApart x (note_place q)
      go (inl k) = path-note x q (path_of x (in_left x outs j.logs k))
      go (inr k) = more (in_either x records marks k)

  pub note_still : (q : Path) → v.nodes (note_place q) ≡ w.nodes (note_place q)
  note_still q =
      all_keep (touched outs) (note_place q) (note_free q) u es of
      ∙ still (note_place q) (none_within owned (note_place q) (λ x i. path-note x q (path_of x i)))

  pub noted_same : (q : Path) → (seen rules v).noted q ≡ (seen rules w).noted q
  noted_same q = ap (λ (s : NodeState). is_path_text q && is_some (reading s)) (note_still q)

  -- ## Files

  off_touched : (q : Path) → is_within q owned ≡ false → is_at_or_under q own_folder ≡ false → is_within q (touched outs) ≡ false
  off_touched q none outside = within_none (touched outs) q at
    where
      at : (p : Path) → IsIn (touched outs) p → is_at_or_under q p ≡ false
      at p i = go (in_either p outs (records ++ marks) i)
        where
          more : IsIn records p ⊎ IsIn marks p → is_at_or_under q p ≡ false
          more (inl k) = let m = map_in record_place outs p k in ap (is_at_or_under q) m.2 ∙ (outside-own q (record_place m.0) outside refl).at_or_under
          more (inr k) = let m = map_in mark_place outs p k in ap (is_at_or_under q) m.2 ∙ (outside-own q (mark_place m.0) outside refl).at_or_under

          go : IsIn outs p ⊎ IsIn (records ++ marks) p → is_at_or_under q p ≡ false
          go (inl k) = within_of owned p q (in_left p outs j.logs k) none
          go (inr k) = more (in_either p records marks k)

  pub files_still : (q : Path) → is_within q owned ≡ false → file_at (seen rules v) q ≡ file_at (seen rules w) q
  files_still q none = go (is_outside q) refl
    where
      node : Bool → World → Option Node
      node b x = if b then reading (x.nodes q) else None

      go : (b : Bool) → is_outside q ≡ b → content_of (node b v) ≡ content_of (node b w)
      go true outside =
          all_content (touched outs) q (off_touched q none (false_of_not (is_at_or_under q own_folder) outside)) u es of ∙ ap content (still q none)
      go false inside = refl
