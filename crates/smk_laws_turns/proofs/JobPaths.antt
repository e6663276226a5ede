-- The outputs and logs of derived jobs lie apart, and what is apart from them is off a job's places.
use Rattle.std.proofs.Common.{◌≡◌, ◌⊎◌, inl, inr, Bool, true, false, ◌&&◌, not, List, [], ◌∷◌, map, flat_map, sym, ap, subst, ◌∙◌, true≢false}
use Rattle.smk_base.specs.Path.{is_path, overlaps}
use Rattle.smk_base.specs.Place.{note_place}
use Rattle.smk_base.proofs.Apart.{IsApart, mark-note, note-note, path-note, record-note}
use Rattle.smk_base.proofs.Places.{and_first}
use Rattle.smk_base.proofs.Under.{never_both}
use Rattle.smk_world.specs.Trees.{Each, IsIn, Path, among, is_path_text, is_text}
use Rattle.smk_world.specs.World.{out_paths, owned_paths}
use Rattle.smk_flow.specs.declared.job.Job.{Job}
use Rattle.smk_flow.specs.Flows.{Flow}
use Rattle.smk_store.specs.Images.{Image, is_covered, is_file, is_source}
use Rattle.smk_chain.specs.Derive.{Derived, Listings, derivation, spots}
use Rattle.smk_laws_plan.specs.Current.{IsComplete}
use Rattle.smk_laws_plan.proofs.CurrentApart.{SpotsApart, spots_apart}
use Rattle.smk_laws_plan.proofs.CurrentLists.{flat_in, in_either, in_flat, in_left, in_map, in_right, map_in}
use Rattle.smk_laws_plan.proofs.CurrentPaths.{in_among}
use Rattle.smk_laws_plan.proofs.PlanOne.{derived_clear}
use Rattle.smk_laws_protocol.proofs.Basics.{each_of, none_of}
use Rattle.smk_laws_moments.proofs.Spots.{flipped, no_source}
use Rattle.smk_cli_target.proofs.PlanPlaces.{log_is_path, out_is_path}
use Rattle.smk_laws_moments.specs.Owning.{sites}
use Rattle.smk_laws_moments.proofs.OwnSites.{Kept, Mark, Note, Site, Spot, site_of}
use Rattle.smk_laws_turns.specs.Off.{IsOff}
use Rattle.smk_laws_turns.proofs.Off.{paths_are_off}

abbrev pub owned : Job → List Path
owned j = owned_paths j.recipe j.logs

-- ## Spots

abbrev output : Path → Path × Bool
output p = (p, true)

abbrev log : Path → Path × Bool
log p = (p, false)

two_apart :
    (ss : List (Path × Bool)) → SpotsApart ss → (s u : Path × Bool) → IsIn ss s → IsIn ss u → (s ≡ u → ⊥) → overlaps s.0 u.0 ≡ false
two_apart [] h s u i k other = absurd i
two_apart (x ∷ ss) h s u (inl e) (inl f) other = absurd (other (e ∙ sym f))
two_apart (x ∷ ss) h s u (inl e) (inr k) other = subst (λ (z : Path × Bool). overlaps z.0 u.0 ≡ false) (sym e) (flipped u.0 x.0 (h.0 u k))
two_apart (x ∷ ss) h s u (inr i) (inl f) other = subst (λ (z : Path × Bool). overlaps s.0 z.0 ≡ false) (sym f) (h.0 s i)
two_apart (x ∷ ss) h s u (inr i) (inr k) other = two_apart ss h.1 s u i k other

pub output_spot : (js : List Job) (j : Job) (p : Path) → IsIn js j → IsIn (out_paths j.recipe) p → IsIn (flat_map spots js) (p, true)
output_spot js j p ij i =
    in_flat spots js j (p, true) ij (in_left (p, true) (map output (out_paths j.recipe)) (map log j.logs) (in_map output (out_paths j.recipe) p i))

pub log_spot : (js : List Job) (j : Job) (p : Path) → IsIn js j → IsIn j.logs p → IsIn (flat_map spots js) (p, false)
log_spot js j p ij i = in_flat spots js j (p, false) ij (in_right (p, false) (map output (out_paths j.recipe)) (map log j.logs) (in_map log j.logs p i))

-- whose spot it is
pub record IsOwnedBy (js : List Job) (s : Path × Bool) : Type 0 where
  pub job : Job
  pub member : IsIn js job
  pub owns : IsIn (owned job) s.0

pub owner_of : (js : List Job) (s : Path × Bool) → IsIn (flat_map spots js) s → IsOwnedBy js s
owner_of js s i =
    let f = flat_in spots js s i in
    record { job = f.0; member = f.1; owns = go f.0 (in_either s (map output (out_paths f.0.recipe)) (map log f.0.logs) f.2) }
  where
    go : (j : Job) → IsIn (map output (out_paths j.recipe)) s ⊎ IsIn (map log j.logs) s → IsIn (owned j) s.0
    go j (inl o) =
        let p = map_in output (out_paths j.recipe) s o in
        subst (IsIn (owned j)) (sym (ap (λ (x : Path × Bool). x.0) p.2)) (in_left p.0 (out_paths j.recipe) j.logs p.1)
    go j (inr l) =
        let p = map_in log j.logs s l in
        subst (IsIn (owned j)) (sym (ap (λ (x : Path × Bool). x.0) p.2)) (in_right p.0 (out_paths j.recipe) j.logs p.1)

module _
    (flow : Flow) (image : Image) (L : Listings) (targets : List Path) (js : List Job) (complete : IsComplete image)
    (is : derivation flow image L targets ≡ Derived js) where
  pub spots_differ : (s u : Path × Bool) → IsIn (flat_map spots js) s → IsIn (flat_map spots js) u → (s ≡ u → ⊥) → overlaps s.0 u.0 ≡ false
  spots_differ s u i k other =
      two_apart (flat_map spots js) (spots_apart image [] (flat_map spots js) (derived_clear flow image L targets js complete is)) s u i k other

  pub owned_path : (j : Job) (p : Path) → IsIn js j → IsIn (owned j) p → is_path p ≡ true
  owned_path j p ij i = go (in_either p (out_paths j.recipe) j.logs i)
    where
      go : IsIn (out_paths j.recipe) p ⊎ IsIn j.logs p → is_path p ≡ true
      go (inl o) = out_is_path flow image L targets js complete is j p ij o
      go (inr l) = log_is_path flow image L targets js complete is j p ij l

  pub owned_paths_are : (j : Job) → IsIn js j → Each (λ p. is_path p ≡ true) (owned j)
  owned_paths_are j ij = each_of (λ p. is_path p ≡ true) (owned j) (λ p i. owned_path j p ij i)

  pub spot_path : (s : Path × Bool) → IsIn (flat_map spots js) s → is_path s.0 ≡ true
  spot_path s i = let o = owner_of js s i in owned_path o.job s.0 o.member o.owns

  -- no source overlaps an output or a log
  pub owned_no_source : (j : Job) (p q : Path) → IsIn js j → IsIn (owned j) p → is_source image q ≡ true → overlaps p q ≡ false
  owned_no_source j p q ij i source = flipped q p (none_of (overlaps q) (owned j) p (no_source flow image L targets js complete is j q ij source) i)

  pub spot_no_source : (s : Path × Bool) (q : Path) → IsIn (flat_map spots js) s → is_source image q ≡ true → overlaps s.0 q ≡ false
  spot_no_source s q i source = let o = owner_of js s i in owned_no_source o.job s.0 q o.member o.owns source

  -- ## What is off

  pub other_apart :
      (j : Job) (p s : Path) → IsIn js j → IsIn (flat_map spots js) (p, true) → among (out_paths j.recipe) p ≡ false → IsIn (owned j) s →
      overlaps s p ≡ false
  other_apart j p s ij ip out i = go (in_either s (out_paths j.recipe) j.logs i)
    where
      go : IsIn (out_paths j.recipe) s ⊎ IsIn j.logs s → overlaps s p ≡ false
      go (inl o) =
          spots_differ (s, true) (p, true) (output_spot js j s ij o) ip
          (λ e. never_both (among (out_paths j.recipe) p)
          (subst (λ x. among (out_paths j.recipe) x ≡ true) (ap (λ (x : Path × Bool). x.0) e) (in_among (out_paths j.recipe) s o)) out)
      go (inr l) = spots_differ (s, false) (p, true) (log_spot js j s ij l) ip (λ e. true≢false (sym (ap (λ (x : Path × Bool). x.1) e)))

  -- each output of a job that is none of these
  pub output_off : (j : Job) (p : Path) → IsIn js j → IsIn (flat_map spots js) (p, true) → among (out_paths j.recipe) p ≡ false → IsOff j p
  output_off j p ij ip out =
      paths_are_off j p (spot_path (p, true) ip) (each_of (λ s. overlaps s p ≡ false) (owned j) (λ s i. other_apart j p s ij ip out i))

  -- each source
  pub source_off : (j : Job) (q : Path) → IsIn js j → is_source image q ≡ true → IsOff j q
  source_off j q ij source =
      paths_are_off j q (and_first (is_path q) (is_text q) (and_first (is_path_text q) (is_file image q && not (is_covered image q)) source))
      (each_of (λ s. overlaps s q ≡ false) (owned j) (λ s i. owned_no_source j s q ij i source))

  -- and the note of each path that is none of its logs
  pub note_off : (j : Job) (p : Path) → IsIn js j → among j.logs p ≡ false → IsOff j (note_place p)
  note_off j p ij out = each_of (λ s. overlaps s (note_place p) ≡ false) (sites j) (λ s i. (at s (site_of j s i)).overlap)
    where
      another : (q : Path) → IsIn j.logs q → q ≡ p → ⊥
      another q i same = never_both (among j.logs p) (subst (λ x. among j.logs x ≡ true) same (in_among j.logs q i)) out

      at : (s : Path) → Site j s → IsApart s (note_place p)
      at _ (Spot r b i) = path-note r p (spot_path (r, b) (in_flat spots js j (r, b) ij i))
      at _ (Mark q i) = mark-note q p
      at _ (Kept q i) = record-note q p
      at _ (Note q i) = note-note q p (another q i)
