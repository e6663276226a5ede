-- What a path means where some fields of commands have no value it means where all have one.
use Rattle.std.proofs.Common.{◌≡◌, ◌⊎◌, inl, inr, ℕ, zero, suc, Bool, true, false, List, map, refl, sym, ap, ◌∙◌, Option, Some, None, is_some}
use Rattle.smk_base.specs.Path.{is_path}
use Rattle.smk_base.specs.declared.tree.Tree.{Tree}
use Rattle.std.specs.List.{list_all}
use Rattle.smk_world.specs.World.{in_paths, out_paths}
use Rattle.smk_world.specs.Trees.{Act, IsIn, Path, all_of, part_at, value_at}
use Rattle.smk_flow.specs.declared.job.Job.{Job}
use Rattle.smk_flow.specs.Flows.{Candidate, Flow, gathered_folders}
use Rattle.smk_choose.specs.Choose.{Make, Source, choose}
use Rattle.smk_store.specs.Images.{Image}
use Rattle.smk_chain.specs.Derive.{Listings, job, recipe, wants}
use Rattle.smk_chain.specs.Mean.{Setting, is_runnable, listings_of, mean, setting_of}
use Rattle.smk_laws_plan.proofs.CurrentApart.{Apart}
use Rattle.smk_laws_plan.proofs.CurrentLists.{and_both, and_left, and_right, none_some}
use Rattle.smk_laws_plan.proofs.CurrentPaths.{Above}
use Rattle.smk_laws_plan.proofs.CurrentValues.{gathers_by, mean_by, mean_make, runs}
use Rattle.smk_laws_complete.proofs.Meanings.{all_more, choice_of, made_by}
use Rattle.smk_laws_complete.proofs.Parts.{value_in}
use Rattle.smk_laws_complete.specs.Listed.{all_known, made}

module _ (flow : Flow) (act : Act) (has_fields : Job → Bool) (image : Image) where
  abbrev pub F : Setting
  F = setting_of flow act has_fields image

  abbrev pub S : Setting
  S = setting_of flow act all_known image

  runnable_known : (c : Candidate) (K : Listings) → is_runnable F c K ≡ true → is_runnable S c K ≡ true
  runnable_known c K h =
      and_both (is_some c.part.command) (list_all is_path (wants flow K c)) (and_left (is_some c.part.command) _ h)
      (and_right (has_fields (job flow K c)) (list_all is_path (wants flow K c)) (and_right (is_some c.part.command) _ h))

  step :
      (n : ℕ) (p : Path) (t : Tree) → ((q : Path) (s : Tree) → mean F n q ≡ Some s → mean S n q ≡ Some s) → mean F (suc n) p ≡ Some t →
      (choose flow F.sources p ≡ Source) ⊎ ((c : Candidate) × (choose flow F.sources p ≡ Make c)) → mean S (suc n) p ≡ Some t
  step n p t again h (inl e) = ap (mean_by S n p) e ∙ (sym (ap (mean_by F n p) e) ∙ h)
  step n p t again h (inr (c, e)) =
      let m = made_by F n p t c e h in
      let K = listings_of (gathered_folders flow c) m.trees in
      mean_make S n p c m.trees e (all_more (mean F n) (mean S n) (gathered_folders flow c) m.trees again m.folders) (runnable_known c K m.runnable)
      ∙ (ap (value_at act (recipe flow K c) p) (all_more (mean F n) (mean S n) (in_paths (recipe flow K c)) m.contents again m.inputs) ∙ m.value)

  pub mean_known : (n : ℕ) (p : Path) (t : Tree) → mean F n p ≡ Some t → mean S n p ≡ Some t
  mean_known zero p t h = h
  mean_known (suc n) p t h = step n p t (λ q s k. mean_known n q s k) h (choice_of F n p t h)

-- what a path means is what the job makes there that is chosen for it
pub made_of :
    (S : Setting) (n : ℕ) (p : Path) (c : Candidate) (t : Tree) → choose S.flow S.sources p ≡ Make c → mean S (suc n) p ≡ Some t → made S n c p ≡ Some t
made_of S n p c t e v = sym (ap (mean_by S n p) e) ∙ v

-- What a job makes at or under one of its outputs is in what it makes at that output.
module _ (S : Setting) (n : ℕ) (c : Candidate) (h q : Path) (t x : Tree) (L : Listings) (apart : Apart (out_paths (recipe S.flow L c)))
    (out : IsIn (out_paths (recipe S.flow L c)) h) (above : Above q h) where
  by_inputs :
      (K : Listings) (o : Option (List Tree)) → value_at S.act (recipe S.flow K c) h o ≡ Some t → value_at S.act (recipe S.flow K c) q o ≡ Some x →
      part_at h q t ≡ Some x
  by_inputs K None e f = absurd (none_some None t refl e)
  by_inputs K (Some vs) e f = value_in S.act (recipe S.flow K c) h q vs t x apart out above e f

  by_runs : (K : Listings) (b : Bool) → runs S n h c K b ≡ Some t → runs S n q c K b ≡ Some x → part_at h q t ≡ Some x
  by_runs K true e f = by_inputs K (all_of (map (mean S n) (in_paths (recipe S.flow K c)))) e f
  by_runs K false e f = absurd (none_some None t refl e)

  by_trees : (o : Option (List Tree)) → gathers_by S n h c o ≡ Some t → gathers_by S n q c o ≡ Some x → part_at h q t ≡ Some x
  by_trees None e f = absurd (none_some None t refl e)
  by_trees (Some trees) e f =
      let K = listings_of (gathered_folders S.flow c) trees in by_runs K (is_runnable S c K) e f

  pub part_made : made S n c h ≡ Some t → made S n c q ≡ Some x → part_at h q t ≡ Some x
  part_made e f = by_trees (all_of (map (mean S n) (gathered_folders S.flow c))) e f
