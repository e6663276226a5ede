-- The sites of two jobs of a derivation are apart.
use Rattle.std.proofs.Common.{◌≡◌, ◌⊎◌, Bool, true, false, ◌&&◌, ◌||◌, not, List, [], ◌∷◌, ◌++◌, map, flat_map, refl, sym, ap, subst, ◌∙◌, inl, inr, true≢false}
use Rattle.std.proofs.lemmas.List.{map-append}
use Rattle.std.specs.List.{list_all}
use Rattle.std.proofs.lemmas.Slice.Eq.{bytes_eq-Decides}
use Rattle.std.specs.Prelude.{bytes_eq}
use Rattle.smk_base.specs.Path.{is_path, is_under, overlaps}
use Rattle.smk_base.specs.Place.{record_place, mark_place, note_place}
use Rattle.smk_base.specs.declared.tree.Pair.{Pair}
use Rattle.smk_base.proofs.Apart.{IsApart, apart_flipped, apart_unless, mark-mark, mark-note, note-note, path-mark, path-note, path-record, record-mark, record-note, record-record}
use Rattle.smk_base.proofs.Under.{at_itself, at_when_under, or_cases, overlaps_at, overlaps_over}
use Rattle.smk_world.specs.declared.recipe.Out.{Out}
use Rattle.smk_world.specs.declared.recipe.OutItem.{OutItem}
use Rattle.smk_world.specs.World.{out_paths}
use Rattle.smk_world.specs.Trees.{Path, IsIn}
use Rattle.smk_pattern.specs.Reading.{fill}
use Rattle.smk_flow.specs.declared.job.Job.{Job}
use Rattle.smk_flow.specs.declared.rule.FlaggedText.{FlaggedText}
use Rattle.smk_flow.specs.declared.rule.OutPart.{OutPart}
use Rattle.smk_flow.specs.Flows.{Candidate, Flow, logs, outputs}
use Rattle.smk_flow.specs.Jobs.{filled_out, filled_outs}
use Rattle.smk_store.specs.Images.{Image, holds_source}
use Rattle.smk_chain.specs.Derive.{Derived, Listings, derivation, distinct, job, same_candidate, sources_of, spots, walk}
use Rattle.smk_plan.specs.States.{job_path}
use Rattle.smk_drive.specs.Moments.{places}
use Rattle.smk_laws_plan.specs.Current.{IsComplete}
use Rattle.smk_laws_plan.proofs.CurrentLists.{all_in, and_left, distinct_in, flat_in, in_either, in_flat, in_left, in_map, in_right, map_in}
use Rattle.smk_laws_plan.proofs.CurrentApart.{SpotsApart, spots_append, spots_apart}
use Rattle.smk_laws_plan.proofs.CurrentChosen.{chosen_candidate}
use Rattle.smk_laws_plan.proofs.CurrentWalked.{walked_chosen}
use Rattle.smk_laws_plan.proofs.PlanOne.{derived, derived_clear}
use Rattle.smk_laws_moments.specs.Owning.{sites}

-- ## Two jobs

differ : (a b : Path) (o : Bool) → o ≡ true → o ≡ false → ⊥
differ a b true h k = true≢false k
differ a b false h k = true≢false (sym h)

-- overlapping goes both ways
turned : (a b : Path) → overlaps a b ≡ true → overlaps b a ≡ true
turned a b h = go (or_cases (bytes_eq a b) (is_under a b || is_under b a) h)
  where
    go : (bytes_eq a b ≡ true) ⊎ ((is_under a b || is_under b a) ≡ true) → overlaps b a ≡ true
    go (inl e) = subst (λ x. overlaps x a ≡ true) ((bytes_eq-Decides a b).0 e) (overlaps_at a a (at_itself a))
    go (inr under) = elim (or_cases (is_under a b) (is_under b a) under) [ inl one ↦ overlaps_over b a one | inr two ↦ overlaps_at b a (at_when_under b a two) ]

-- spots of two jobs of which neither is the other are apart
cross :
    (js : List Job) (j k : Job) (s u : Path × Bool) → SpotsApart (flat_map spots js) → IsIn js j → IsIn js k → ¬ (job_path j ≡ job_path k) → IsIn (spots j) s → IsIn (spots k) u →
    overlaps s.0 u.0 ≡ true → overlaps u.0 s.0 ≡ true → ⊥
cross [] j k s u apart ij ik other is iu over under = absurd ij
cross (x ∷ js) j k s u apart (inl a) (inl b) other is iu over under = other (ap job_path a ∙ sym (ap job_path b))
cross (x ∷ js) j k s u apart (inl a) (inr ik) other is iu over under =
    let r = spots_append (spots x) (flat_map spots js) apart in
    differ s.0 u.0 (overlaps u.0 s.0) under (r.2 s u (subst (λ (z : Job). IsIn (spots z) s) a is) (in_flat spots js k u ik iu))
cross (x ∷ js) j k s u apart (inr ij) (inl b) other is iu over under =
    let r = spots_append (spots x) (flat_map spots js) apart in
    differ s.0 u.0 (overlaps s.0 u.0) over (r.2 u s (subst (λ (z : Job). IsIn (spots z) u) b iu) (in_flat spots js j s ij is))
cross (x ∷ js) j k s u apart (inr ij) (inr ik) other is iu over under =
    cross js j k s u (spots_append (spots x) (flat_map spots js) apart).1 ij ik other is iu over under

-- ## What a rule makes

paths_filled : (b : List Pair) (outs : List FlaggedText) → map (λ (o : Out). o.path) (map (filled_out b) outs) ≡ map (λ (o : FlaggedText). fill b o.text) outs
paths_filled b [] = refl
paths_filled b (o ∷ outs) = ap (λ ps. fill b o.text ∷ ps) (paths_filled b outs)

items_filled :
    (b : List Pair) (items : List OutPart) →
    flat_map (λ (i : OutItem). map (λ (o : Out). o.path) i.outs) (map (filled_outs b) items)
    ≡ map (λ (o : FlaggedText). fill b o.text) (flat_map (λ (o : OutPart). o.outs) items)
items_filled b [] = refl
items_filled b (i ∷ items) =
    (λ n. paths_filled b i.outs n ++ items_filled b items n)
    ∙ sym (map-append (λ (o : FlaggedText). fill b o.text) i.outs (flat_map (λ (o : OutPart). o.outs) items))

abbrev output : Path → Path × Bool
output p = (p, true)

abbrev log : Path → Path × Bool
log p = (p, false)

output_spot : (k : Job) (p : Path) → IsIn (out_paths k.recipe) p → IsIn (spots k) (p, true)
output_spot k p o = in_left (p, true) (map output (out_paths k.recipe)) (map log k.logs) (in_map output (out_paths k.recipe) p o)

log_spot : (k : Job) (p : Path) → IsIn k.logs p → IsIn (spots k) (p, false)
log_spot k p l = in_right (p, false) (map output (out_paths k.recipe)) (map log k.logs) (in_map log k.logs p l)

-- what stands where: an output or a log, or the engine's file of one
pub data Site (k : Job) : Path → Type 0 where
  Spot : (r : Path) (b : Bool) → IsIn (spots k) (r, b) → Site k r
  Mark : (p : Path) → IsIn (out_paths k.recipe) p → Site k (mark_place p)
  Kept : (p : Path) → IsIn (out_paths k.recipe) p → Site k (record_place p)
  Note : (p : Path) → IsIn k.logs p → Site k (note_place p)

named_by : (k : Job) (of : Path → Path) (ps : List Path) → ((p : Path) → IsIn ps p → Site k (of p)) → (r : Path) → IsIn (map of ps) r → Site k r
named_by k of ps each r i = let p = map_in of ps r i in subst (Site k) (sym p.2) (each p.0 p.1)

pub site_of : (k : Job) (r : Path) → IsIn (sites k) r → Site k r
site_of k r i = go (in_either r (places k) k.logs i)
  where
    last : IsIn (map record_place (out_paths k.recipe)) r ⊎ IsIn (map note_place k.logs) r → Site k r
    last (inl m) = named_by k record_place (out_paths k.recipe) Kept r m
    last (inr n) = named_by k note_place k.logs Note r n

    later : IsIn (map mark_place (out_paths k.recipe)) r ⊎ IsIn (map record_place (out_paths k.recipe) ++ map note_place k.logs) r → Site k r
    later (inl m) = named_by k mark_place (out_paths k.recipe) Mark r m
    later (inr n) = last (in_either r (map record_place (out_paths k.recipe)) (map note_place k.logs) n)

    first : IsIn (out_paths k.recipe) r ⊎ IsIn (map mark_place (out_paths k.recipe) ++ (map record_place (out_paths k.recipe) ++ map note_place k.logs)) r → Site k r
    first (inl o) = Spot r true (output_spot k r o)
    first (inr n) = later (in_either r (map mark_place (out_paths k.recipe)) (map record_place (out_paths k.recipe) ++ map note_place k.logs) n)

    go : IsIn (places k) r ⊎ IsIn k.logs r → Site k r
    go (inl p) = first (in_either r (out_paths k.recipe) (map mark_place (out_paths k.recipe) ++ (map record_place (out_paths k.recipe) ++ map note_place k.logs)) p)
    go (inr l) = Spot r false (log_spot k r l)

-- ## The jobs of a derivation

module _ (flow : Flow) (image : Image) (L : Listings) (targets : List Path) (js : List Job) (complete : IsComplete image) (is : derivation flow image L targets ≡ Derived js) where
  -- it is the job of a rule whose outputs and logs are paths
  pub record IsOfRule (k : Job) : Type 0 where
    pub candidate : Candidate
    pub is_job : k ≡ job flow L candidate
    pub free : list_all (λ q. is_path q && not (holds_source image q)) (outputs flow candidate ++ logs flow candidate) ≡ true

  pub of_rule : (k : Job) → IsIn js k → IsOfRule k
  of_rule k ik =
      let all = flat_map (walk flow (sources_of image) L 200) targets in
      let c = map_in (job flow L) (distinct same_candidate all) k (subst (λ xs. IsIn xs k) (sym (derived flow image L targets js complete is).1) ik) in
      let w = flat_in (walk flow (sources_of image) L 200) targets c.0 (distinct_in same_candidate all c.0 c.1) in
      let q = walked_chosen flow (sources_of image) L 200 w.0 c.0 w.2 in
      record { candidate = c.0; is_job = c.2; free = (chosen_candidate flow (sources_of image) q.0 c.0 q.1).1 }

  pub outs_are : (c : Candidate) → out_paths (job flow L c).recipe ≡ outputs flow c
  outs_are c = items_filled c.binding c.part.outputs

  output_of : (k : Job) (p : Path) (r : IsOfRule k) → IsIn (out_paths k.recipe) p → IsIn (outputs flow r.candidate) p
  output_of k p r o = subst (λ ps. IsIn ps p) (outs_are r.candidate) (subst (λ (j : Job). IsIn (out_paths j.recipe) p) r.is_job o)

  is_path_of : (k : Job) (p : Path) (r : IsOfRule k) → IsIn (outputs flow r.candidate ++ logs flow r.candidate) p → is_path p ≡ true
  is_path_of k p r i =
      and_left (is_path p) (not (holds_source image p))
      (all_in (λ q. is_path q && not (holds_source image q)) (outputs flow r.candidate ++ logs flow r.candidate) p r.free i)

  out_is_path : (k : Job) (p : Path) → IsIn js k → IsIn (out_paths k.recipe) p → is_path p ≡ true
  out_is_path k p ik o =
      let r = of_rule k ik in is_path_of k p r (in_left p (outputs flow r.candidate) (logs flow r.candidate) (output_of k p r o))

  log_is_path : (k : Job) (p : Path) → IsIn js k → IsIn k.logs p → is_path p ≡ true
  log_is_path k p ik l =
      let r = of_rule k ik in
      is_path_of k p r (in_right p (outputs flow r.candidate) (logs flow r.candidate) (subst (λ (j : Job). IsIn j.logs p) r.is_job l))

  spot_is_path : (k : Job) (r : Path) (b : Bool) → IsIn js k → IsIn (spots k) (r, b) → is_path r ≡ true
  spot_is_path k r b ik s = go (in_either (r, b) (map output (out_paths k.recipe)) (map log k.logs) s)
    where
      go : IsIn (map output (out_paths k.recipe)) (r, b) ⊎ IsIn (map log k.logs) (r, b) → is_path r ≡ true
      go (inl o) =
          let p = map_in output (out_paths k.recipe) (r, b) o in
          subst (λ x. is_path x ≡ true) (sym (ap (λ (s : Path × Bool). s.0) p.2)) (out_is_path k p.0 ik p.1)
      go (inr l) =
          let p = map_in log k.logs (r, b) l in
          subst (λ x. is_path x ≡ true) (sym (ap (λ (s : Path × Bool). s.0) p.2)) (log_is_path k p.0 ik p.1)

  module _ (j k : Job) (ij : IsIn js j) (ik : IsIn js k) (other : ¬ (job_path j ≡ job_path k)) where
    spots_are_apart : (s u : Path × Bool) → IsIn (spots j) s → IsIn (spots k) u → IsApart s.0 u.0
    spots_are_apart s u in_j in_k =
        apart_unless s.0 u.0 (λ over.
        cross js j k s u (spots_apart image [] (flat_map spots js) (derived_clear flow image L targets js complete is)) ij ik other in_j in_k over (turned s.0 u.0 over))

    -- a site of the one and a site of the other
    pub sites_are_apart : (p q : Path) → Site j p → Site k q → IsApart p q
    sites_are_apart _ _ (Spot p b i) (Spot q c h) = spots_are_apart (p, b) (q, c) i h
    sites_are_apart _ _ (Spot p b i) (Mark q h) = path-mark p q (spot_is_path j p b ij i)
    sites_are_apart _ _ (Spot p b i) (Kept q h) = path-record p q (spot_is_path j p b ij i)
    sites_are_apart _ _ (Spot p b i) (Note q h) = path-note p q (spot_is_path j p b ij i)
    sites_are_apart _ _ (Mark p i) (Spot q c h) = apart_flipped q (mark_place p) (path-mark q p (spot_is_path k q c ik h))
    sites_are_apart _ _ (Mark p i) (Mark q h) = mark-mark p q (spots_are_apart (p, true) (q, true) (output_spot j p i) (output_spot k q h)).never
    sites_are_apart _ _ (Mark p i) (Kept q h) = apart_flipped (record_place q) (mark_place p) (record-mark q p)
    sites_are_apart _ _ (Mark p i) (Note q h) = mark-note p q
    sites_are_apart _ _ (Kept p i) (Spot q c h) = apart_flipped q (record_place p) (path-record q p (spot_is_path k q c ik h))
    sites_are_apart _ _ (Kept p i) (Mark q h) = record-mark p q
    sites_are_apart _ _ (Kept p i) (Kept q h) = record-record p q (spots_are_apart (p, true) (q, true) (output_spot j p i) (output_spot k q h)).never
    sites_are_apart _ _ (Kept p i) (Note q h) = record-note p q
    sites_are_apart _ _ (Note p i) (Spot q c h) = apart_flipped q (note_place p) (path-note q p (spot_is_path k q c ik h))
    sites_are_apart _ _ (Note p i) (Mark q h) = apart_flipped (mark_place q) (note_place p) (mark-note q p)
    sites_are_apart _ _ (Note p i) (Kept q h) = apart_flipped (record_place q) (note_place p) (record-note q p)
    sites_are_apart _ _ (Note p i) (Note q h) = note-note p q (spots_are_apart (p, false) (q, false) (log_spot j p i) (log_spot k q h)).never
