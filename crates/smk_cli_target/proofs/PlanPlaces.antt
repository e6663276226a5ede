-- The places of a plan's jobs: outputs and logs are paths, none lies under an output, and none of the engine's own files lies under another.
use Rattle.std.proofs.Common.{◌≡◌, ◌⊎◌, Bool, true, false, ◌&&◌, not, List, [], ◌∷◌, ◌++◌, map, filter, flat_map, refl, sym, ap, subst, ◌∙◌, inl, inr}
use Rattle.std.proofs.lemmas.List.{map-append}
use Rattle.std.specs.List.{list_all}
use Rattle.smk_base.specs.Path.{is_path, is_under, overlaps}
use Rattle.smk_base.specs.Place.{record_place, mark_place, note_place, lock_place}
use Rattle.smk_base.specs.declared.tree.Pair.{Pair}
use Rattle.smk_base.proofs.Apart.{mark-lock, mark-note, mark_under_mark, note-lock, note_under_note, path-mark, path-note, path-own, path-record, record-lock, record-mark, record-note, record_under_record}
use Rattle.smk_base.proofs.Under.{at_when_under, never_both, never_under_itself, overlaps_at, overlaps_over}
use Rattle.smk_world.specs.declared.recipe.Out.{Out}
use Rattle.smk_world.specs.declared.recipe.OutItem.{OutItem}
use Rattle.smk_world.specs.World.{out_paths}
use Rattle.smk_world.specs.Trees.{Path, IsIn}
use Rattle.smk_pattern.specs.Reading.{fill}
use Rattle.smk_flow.specs.declared.job.Job.{Job}
use Rattle.smk_flow.specs.declared.rule.FlaggedText.{FlaggedText}
use Rattle.smk_flow.specs.declared.rule.Flag.{Flag}
use Rattle.smk_flow.specs.declared.rule.Flag.TheVariants.{Protected, Temp}
use Rattle.smk_flow.specs.declared.rule.OutPart.{OutPart}
use Rattle.smk_flow.specs.Flows.{Candidate, Flow, logs, outputs, outs}
use Rattle.smk_flow.specs.Jobs.{filled_out, filled_outs, flagged, is_flagged}
use Rattle.smk_store.specs.Images.{Image, holds_source}
use Rattle.smk_chain.specs.Derive.{Derived, Listings, derivation, distinct, job, same_candidate, sources_of, spots, walk}
use Rattle.smk_drive.specs.Moments.{places}
use Rattle.smk_laws_plan.specs.Current.{IsComplete}
use Rattle.smk_laws_plan.proofs.CurrentLists.{In, all_in, and_left, and_right, distinct_in, filter_in, flat_in, in_either, in_flat, in_left, in_map, in_right, map_in, not_true}
use Rattle.smk_laws_plan.proofs.CurrentApart.{SpotsApart, output_spot, spots_apart}
use Rattle.smk_laws_plan.proofs.CurrentChosen.{chosen_candidate}
use Rattle.smk_laws_plan.proofs.CurrentWalked.{walked_chosen}
use Rattle.smk_laws_plan.proofs.PlanOne.{derived, derived_clear}

-- ## What a rule makes

pub paths_filled : (b : List Pair) (outs : List FlaggedText) → map (λ (o : Out). o.path) (map (filled_out b) outs) ≡ map (λ (o : FlaggedText). fill b o.text) outs
paths_filled b [] = refl
paths_filled b (o ∷ outs) = ap (λ ps. fill b o.text ∷ ps) (paths_filled b outs)

pub items_filled :
    (b : List Pair) (items : List OutPart) →
    flat_map (λ (i : OutItem). map (λ (o : Out). o.path) i.outs) (map (filled_outs b) items)
    ≡ map (λ (o : FlaggedText). fill b o.text) (flat_map (λ (o : OutPart). o.outs) items)
items_filled b [] = refl
items_filled b (i ∷ items) =
    (λ n. paths_filled b i.outs n ++ items_filled b items n)
    ∙ sym (map-append (λ (o : FlaggedText). fill b o.text) i.outs (flat_map (λ (o : OutPart). o.outs) items))

-- ## Spots

abbrev output : Path → Path × Bool
output p = (p, true)

abbrev log : Path → Path × Bool
log p = (p, false)

-- spots of which one lies at or under the other are one
one_spot :
    (ss : List (Path × Bool)) (s u : Path × Bool) → SpotsApart ss → IsIn ss s → IsIn ss u → overlaps s.0 u.0 ≡ true → overlaps u.0 s.0 ≡ true → s ≡ u
one_spot [] s u apart i k over under = absurd i
one_spot (x ∷ ss) s u apart (inl e) (inl d) over under = e ∙ sym d
one_spot (x ∷ ss) s u apart (inl e) (inr k) over under =
    absurd (never_both (overlaps u.0 s.0) under (ap (λ (y : Path × Bool). overlaps u.0 y.0) e ∙ apart.0 u k))
one_spot (x ∷ ss) s u apart (inr i) (inl d) over under =
    absurd (never_both (overlaps s.0 u.0) over (ap (λ (y : Path × Bool). overlaps s.0 y.0) d ∙ apart.0 s i))
one_spot (x ∷ ss) s u apart (inr i) (inr k) over under = one_spot ss s u apart.1 i k over under

-- ## The jobs of a derivation

module _ (flow : Flow) (image : Image) (L : Listings) (targets : List Path) (js : List Job) (complete : IsComplete image) (is : derivation flow image L targets ≡ Derived js) where
  -- it is the job of a rule whose outputs and logs are paths
  record IsOfRule (k : Job) : Type 0 where
    pub candidate : Candidate
    pub is_job : k ≡ job flow L candidate
    pub free : list_all (λ q. is_path q && not (holds_source image q)) (outputs flow candidate ++ logs flow candidate) ≡ true

  of_rule : (k : Job) → IsIn js k → IsOfRule k
  of_rule k ik =
      let all = flat_map (walk flow (sources_of image) L 200) targets in
      let c = map_in (job flow L) (distinct same_candidate all) k (subst (λ xs. IsIn xs k) (sym (derived flow image L targets js complete is).1) ik) in
      let w = flat_in (walk flow (sources_of image) L 200) targets c.0 (distinct_in same_candidate all c.0 c.1) in
      let q = walked_chosen flow (sources_of image) L 200 w.0 c.0 w.2 in
      record { candidate = c.0; is_job = c.2; free = (chosen_candidate flow (sources_of image) q.0 c.0 q.1).1 }

  outs_are : (c : Candidate) → out_paths (job flow L c).recipe ≡ outputs flow c
  outs_are c = items_filled c.binding c.part.outputs

  output_of : (k : Job) (p : Path) (r : IsOfRule k) → IsIn (out_paths k.recipe) p → IsIn (outputs flow r.candidate) p
  output_of k p r o = subst (λ ps. IsIn ps p) (outs_are r.candidate) (subst (λ (j : Job). IsIn (out_paths j.recipe) p) r.is_job o)

  is_path_of : (k : Job) (p : Path) (r : IsOfRule k) → IsIn (outputs flow r.candidate ++ logs flow r.candidate) p → is_path p ≡ true
  is_path_of k p r i =
      and_left (is_path p) (not (holds_source image p))
      (all_in (λ q. is_path q && not (holds_source image q)) (outputs flow r.candidate ++ logs flow r.candidate) p r.free i)

  -- no source lies at, under or above an output
  pub out_holds_none : (k : Job) (p : Path) → IsIn js k → IsIn (out_paths k.recipe) p → holds_source image p ≡ false
  out_holds_none k p ik o =
      let r = of_rule k ik in
      let i = in_left p (outputs flow r.candidate) (logs flow r.candidate) (output_of k p r o) in
      not_true (holds_source image p)
      (and_right (is_path p) (not (holds_source image p))
      (all_in (λ q. is_path q && not (holds_source image q)) (outputs flow r.candidate ++ logs flow r.candidate) p r.free i))

  pub out_is_path : (k : Job) (p : Path) → IsIn js k → IsIn (out_paths k.recipe) p → is_path p ≡ true
  out_is_path k p ik o =
      let r = of_rule k ik in is_path_of k p r (in_left p (outputs flow r.candidate) (logs flow r.candidate) (output_of k p r o))

  pub log_is_path : (k : Job) (p : Path) → IsIn js k → IsIn k.logs p → is_path p ≡ true
  log_is_path k p ik l =
      let r = of_rule k ik in
      is_path_of k p r (in_right p (outputs flow r.candidate) (logs flow r.candidate) (subst (λ (j : Job). IsIn j.logs p) r.is_job l))

  -- what has a flag is an output
  flagged_is_out : (flag : Flag) (k : Job) (p : Path) (r : IsOfRule k) → IsIn (flagged r.candidate.binding flag (outs r.candidate.part)) p → IsIn (out_paths k.recipe) p
  flagged_is_out flag k p r i =
      let c = r.candidate in
      let text = λ (o : FlaggedText). fill c.binding o.text in
      let o = map_in text (filter (is_flagged flag) (outs c.part)) p i in
      let made = subst (λ q. IsIn (outputs flow c) q) (sym o.2) (in_map text (outs c.part) o.0 (filter_in (is_flagged flag) (outs c.part) o.0 o.1).0) in
      subst (λ (j : Job). IsIn (out_paths j.recipe) p) (sym r.is_job) (subst (λ ps. IsIn ps p) (sym (outs_are c)) made)

  pub temp_is_out : (k : Job) (p : Path) → IsIn js k → IsIn k.temps p → IsIn (out_paths k.recipe) p
  temp_is_out k p ik t = let r = of_rule k ik in flagged_is_out Temp k p r (subst (λ (j : Job). IsIn j.temps p) r.is_job t)

  pub guard_is_out : (k : Job) (p : Path) → IsIn js k → IsIn k.guards p → IsIn (out_paths k.recipe) p
  guard_is_out k p ik g = let r = of_rule k ik in flagged_is_out Protected k p r (subst (λ (j : Job). IsIn j.guards p) r.is_job g)

  spot_is_path : (k : Job) (r : Path) (b : Bool) → IsIn js k → IsIn (spots k) (r, b) → is_path r ≡ true
  spot_is_path k r b ik s = go (in_either (r, b) (map output (out_paths k.recipe)) (map log k.logs) s)
    where
      spot : Path × Bool
      spot = (r, b)

      go : In spot (map output (out_paths k.recipe)) ⊎ In spot (map log k.logs) → is_path r ≡ true
      go (inl o) =
          let p = map_in output (out_paths k.recipe) spot o in
          subst (λ x. is_path x ≡ true) (sym (ap (λ (s : Path × Bool). s.0) p.2)) (out_is_path k p.0 ik p.1)
      go (inr l) =
          let p = map_in log k.logs spot l in
          subst (λ x. is_path x ≡ true) (sym (ap (λ (s : Path × Bool). s.0) p.2)) (log_is_path k p.0 ik p.1)

  none_under_output :
      (k : Job) (p : Path) (j : Job) (r : Path) (b : Bool) →
      IsIn js k → IsIn (out_paths k.recipe) p → IsIn js j → IsIn (spots j) (r, b) → is_under r p ≡ true → ⊥
  none_under_output k p j r b ik o ij s u =
      let apart = spots_apart image [] (flat_map spots js) (derived_clear flow image L targets js complete is) in
      let same =
      one_spot (flat_map spots js) (p, true) (r, b) apart (in_flat spots js k (p, true) ik (output_spot k p o)) (in_flat spots js j (r, b) ij s)
      (overlaps_over p r u) (overlaps_at r p (at_when_under r p u)) in
      never_both (is_under r r) (subst (λ x. is_under r x ≡ true) (ap (λ (t : Path × Bool). t.0) same) u) (never_under_itself r)

  -- ## Places

  -- the lock; the engine's file of a path; or an output or a log of one of the jobs
  pub data Place : Path → Type 0 where
    Lock : Place lock_place
    Mark : (p : Path) → Place (mark_place p)
    Kept : (p : Path) → Place (record_place p)
    Note : (p : Path) → Place (note_place p)
    Spot : (k : Job) (r : Path) (b : Bool) → IsIn js k → IsIn (spots k) (r, b) → Place r

  pub at_lock : Place lock_place
  at_lock = Lock

  out_place : (k : Job) (r : Path) → IsIn js k → IsIn (out_paths k.recipe) r → Place r
  out_place k r ik o = Spot k r true ik (output_spot k r o)

  log_place : (k : Job) (r : Path) → IsIn js k → IsIn k.logs r → Place r
  log_place k r ik l =
      Spot k r false ik (in_right (r, false) (map output (out_paths k.recipe)) (map log k.logs) (in_map log k.logs r l))

  named_by : (of : Path → Path) → ((p : Path) → Place (of p)) → (ps : List Path) (r : Path) → IsIn (map of ps) r → Place r
  named_by of each ps r i = let p = map_in of ps r i in subst Place (sym p.2) (each p.0)

  -- so is each of a job's places and logs
  pub place_of : (k : Job) (r : Path) → IsIn js k → IsIn (places k ++ k.logs) r → Place r
  place_of k r ik i = go (in_either r (places k) k.logs i)
    where
      last : IsIn (map record_place (out_paths k.recipe)) r ⊎ IsIn (map note_place k.logs) r → Place r
      last (inl m) = named_by record_place Kept (out_paths k.recipe) r m
      last (inr n) = named_by note_place Note k.logs r n

      later : IsIn (map mark_place (out_paths k.recipe)) r ⊎ IsIn (map record_place (out_paths k.recipe) ++ map note_place k.logs) r → Place r
      later (inl m) = named_by mark_place Mark (out_paths k.recipe) r m
      later (inr n) = last (in_either r (map record_place (out_paths k.recipe)) (map note_place k.logs) n)

      first : IsIn (out_paths k.recipe) r ⊎ IsIn (map mark_place (out_paths k.recipe) ++ (map record_place (out_paths k.recipe) ++ map note_place k.logs)) r → Place r
      first (inl o) = out_place k r ik o
      first (inr n) = later (in_either r (map mark_place (out_paths k.recipe)) (map record_place (out_paths k.recipe) ++ map note_place k.logs) n)

      go : IsIn (places k) r ⊎ IsIn k.logs r → Place r
      go (inl p) = first (in_either r (out_paths k.recipe) (map mark_place (out_paths k.recipe) ++ (map record_place (out_paths k.recipe) ++ map note_place k.logs)) p)
      go (inr l) = log_place k r ik l

  -- none lies under a record, a mark, a note or an output
  pub none_under_record : (p r : Path) → Place r → is_under r (record_place p) ≡ true → ⊥
  none_under_record p _ Lock u = never_both _ u (record-lock p).over
  none_under_record p _ (Mark q) u = never_both _ u (record-mark p q).over
  none_under_record p _ (Kept q) u = never_both _ u (record_under_record q p)
  none_under_record p _ (Note q) u = never_both _ u (record-note p q).over
  none_under_record p _ (Spot k r b ik s) u = never_both _ u (path-record r p (spot_is_path k r b ik s)).under

  pub none_under_mark : (p r : Path) → Place r → is_under r (mark_place p) ≡ true → ⊥
  none_under_mark p _ Lock u = never_both _ u (mark-lock p).over
  none_under_mark p _ (Mark q) u = never_both _ u (mark_under_mark q p)
  none_under_mark p _ (Kept q) u = never_both _ u (record-mark q p).under
  none_under_mark p _ (Note q) u = never_both _ u (mark-note p q).over
  none_under_mark p _ (Spot k r b ik s) u = never_both _ u (path-mark r p (spot_is_path k r b ik s)).under

  pub none_under_note : (p r : Path) → Place r → is_under r (note_place p) ≡ true → ⊥
  none_under_note p _ Lock u = never_both _ u (note-lock p).over
  none_under_note p _ (Mark q) u = never_both _ u (mark-note q p).under
  none_under_note p _ (Kept q) u = never_both _ u (record-note q p).under
  none_under_note p _ (Note q) u = never_both _ u (note_under_note q p)
  none_under_note p _ (Spot k r b ik s) u = never_both _ u (path-note r p (spot_is_path k r b ik s)).under

  pub none_under_out : (k : Job) (p r : Path) → IsIn js k → IsIn (out_paths k.recipe) p → Place r → is_under r p ≡ true → ⊥
  none_under_out k p _ ik o Lock u = never_both _ u (path-own p lock_place (out_is_path k p ik o) refl).over
  none_under_out k p _ ik o (Mark q) u = never_both _ u (path-mark p q (out_is_path k p ik o)).over
  none_under_out k p _ ik o (Kept q) u = never_both _ u (path-record p q (out_is_path k p ik o)).over
  none_under_out k p _ ik o (Note q) u = never_both _ u (path-note p q (out_is_path k p ik o)).over
  none_under_out k p _ ik o (Spot j r b ij s) u = none_under_output k p j r b ik o ij s u
