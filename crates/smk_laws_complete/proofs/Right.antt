-- Listings that are meant are right for the jobs that are derived with them.
use Rattle.std.proofs.Common.{◌≡◌, ◌⊎◌, inl, inr, ℕ, zero, suc, ◌≤◌, arith, Bool, true, List, [], ◌++◌, map, flat_map, refl, sym, ap, subst, ◌∙◌, Some, append-nil}
use Rattle.smk_base.specs.Path.{is_under}
use Rattle.smk_base.specs.declared.tree.Tree.{Tree}
use Rattle.smk_world.specs.Calls.{in_folder}
use Rattle.smk_world.specs.World.{out_paths}
use Rattle.smk_world.specs.Trees.{Act, IsIn, Path, among, files_of, folder_over, folders_of}
use Rattle.smk_flow.specs.declared.job.Job.{Job}
use Rattle.smk_flow.specs.Flows.{Candidate, Flow, gathered_folders}
use Rattle.smk_choose.specs.Choose.{Make, Source, Sources, choose}
use Rattle.smk_store.specs.Images.{Image}
use Rattle.smk_chain.specs.Derive.{Listings, chosen, job, jobs, listing, recipe, sources_of, spots, walk}
use Rattle.smk_chain.specs.Mean.{Setting, clean_value, setting_of}
use Rattle.smk_pick.specs.declared.settings.Settings.{Settings}
use Rattle.smk_plan.specs.States.{IsPlan, Plan, Progress, makes}
use Rattle.smk_laws_plan.specs.Current.{IsComplete}
use Rattle.smk_laws_plan.proofs.CurrentApart.{JobsApart, jobs_apart, makes_above, own_apart, spots_apart}
use Rattle.smk_laws_plan.proofs.CurrentChosen.{folders_paths}
use Rattle.smk_laws_plan.proofs.CurrentLists.{clash_of, find_in, flat_in, in_flat, in_map, or_first, some_inj}
use Rattle.smk_laws_plan.proofs.CurrentMeaning.{source_chosen}
use Rattle.smk_laws_plan.proofs.CurrentPaths.{Touch, above_touch, in_among}
use Rattle.smk_laws_plan.proofs.CurrentReach.{Reached, choice_known, reached_own, reached_step, reached_zero}
use Rattle.smk_laws_plan.proofs.CurrentRecipes.{folders_wanted}
use Rattle.smk_laws_plan.proofs.CurrentWalked.{walked_chosen}
use Rattle.smk_laws_plan.proofs.PlanOne.{derived, derived_apart, derived_reached, job_makes}
use Rattle.smk_laws_plan.proofs.PlanOrder.{source_unmade, walked_reached}
use Rattle.smk_laws_history.proofs.MoreListings.{walk_more}
use Rattle.smk_laws_complete.specs.Derived.{AreRight, HasValue, IsServed}
use Rattle.smk_laws_complete.proofs.Came.{one_of}
use Rattle.smk_laws_complete.proofs.Goods.{derived_jobs_are_good}
use Rattle.smk_laws_complete.proofs.Parts.{part_listed}
use Rattle.smk_laws_complete.proofs.Walked.{walked_derived}
use Rattle.smk_laws_complete.specs.Listed.{IsMeant, MakesFiles, all_known, made}
use Rattle.smk_laws_complete.proofs.Made.{made_deeper}
use Rattle.smk_laws_complete.specs.Valued.{AreMeantBy, MeantAreRight, MeantJobsAreGood, MoreAreRight}
use Rattle.smk_laws_complete.proofs.Known.{made_of, mean_known, part_made}

module _ (flow : Flow) (act : Act) (has_fields : Job → Bool) (image : Image) (settings : Settings) (progress : Progress) (plan : Plan)
    (complete : IsComplete image) (is : IsPlan flow image settings progress plan) (more : Listings) (all : AreMeantBy flow act image settings plan more)
    (apart : JobsApart (jobs flow (sources_of image) (plan.lists ++ more) settings.targets)) where
  abbrev F : Setting
  F = setting_of flow act has_fields image

  abbrev S : Setting
  S = setting_of flow act all_known image

  abbrev srcs : Sources
  srcs = sources_of image

  abbrev L : Listings
  L = plan.lists

  abbrev M : Listings
  M = plan.lists ++ more

  abbrev walked : List Candidate
  walked = flat_map (walk flow srcs L 200) settings.targets

  abbrev derived_now : List Candidate
  derived_now = chosen flow srcs M settings.targets

  -- what was walked is derived still
  goes_on : (c : Candidate) → IsIn walked c → IsIn derived_now c
  goes_on c i =
      let t = flat_in (walk flow srcs L 200) settings.targets c i in
      walked_derived flow srcs M settings.targets c (in_flat (walk flow srcs M 200) settings.targets t.0 c t.1 (walk_more flow srcs L more 200 t.0 c t.2))

  one_job :
      (c d : Candidate) → IsIn derived_now c → IsIn derived_now d → (p q : Path) → IsIn (out_paths (recipe flow M c)) p → IsIn (out_paths (recipe flow M d)) q →
      Touch q p → c ≡ d
  one_job c d i k p q ip iq t = one_of flow M derived_now apart c d i k p q ip iq t

  chosen_for : (c : Candidate) → IsIn walked c → (p : Path) × (choose flow srcs p ≡ Make c)
  chosen_for c i = let t = flat_in (walk flow srcs L 200) settings.targets c i in walked_chosen flow srcs L 200 t.0 c t.2

  -- an output of a job isn't a source
  no_source : (p f : Path) (c : Candidate) → choose flow srcs p ≡ Make c → IsIn (out_paths (recipe flow M c)) f → choose flow srcs f ≡ Source → ⊥
  no_source p f c e out s =
      clash_of (makes (job flow M c) f) (or_first _ _ (in_among (out_paths (recipe flow M c)) f out))
      (source_unmade flow image M complete p f c e (source_chosen flow srcs f s))

  -- a derived job is chosen for its output, if another derived one would be
  same_maker : (f : Path) (c d : Candidate) → IsIn derived_now c → IsIn derived_now d → IsIn (out_paths (recipe flow M c)) f → choose flow srcs f ≡ Make d →
      choose flow srcs f ≡ Make c
  same_maker f c d i k out e =
      let m = makes_above (job flow M d) f (job_makes flow srcs M f d e) in
      e ∙ ap Make (one_job d c k i m.0 f m.1 out (above_touch f f m.0 (inl refl) m.2))

  -- The walk comes to a directory from which a job gathers that it comes to.
  abbrev Comes : ℕ → Path → Type 0
  Comes n p = Reached flow srcs L walked n p

  comes_to : (r : Candidate) (f : Path) → IsIn walked r → IsIn (gathered_folders flow r) f → (n : ℕ) × Comes n f
  comes_to r f i g =
      let t = flat_in (walk flow srcs L 200) settings.targets r i in
      let w =
      walked_reached flow srcs L walked 200 t.0 r (derived_reached flow image L settings.targets plan.jobs complete is.derived t.0 t.1) t.2 in
      (w.0, reached_step flow srcs L walked w.0 w.1 r f w.2 w.3 (folders_wanted flow r L f g))

  -- ## What a job makes at its directory

  as_value : (f : Path) (c : Candidate) (files : List Path) (tree : Tree) → choose flow srcs f ≡ Make c → clean_value S f ≡ Some tree → files ≡ files_of tree →
      MakesFiles S c f files
  as_value f c files tree e v same = (199, (let top : 200 ≤ 200 = omega arith in top), tree, made_of S 199 f c tree e v, same)

  told_made : (p f : Path) (c : Candidate) (files : List Path) → choose flow srcs p ≡ Make c → IsIn derived_now c → IsIn (out_paths (recipe flow M c)) f →
      IsMeant S L settings.targets f files → MakesFiles S c f files
  told_made p f c files e i out (inr o) =
      subst (λ x. MakesFiles S x f files) (one_job o.maker c (goes_on o.maker o.walked) i f f o.is_output out (inl refl)) o.makes
  told_made p f c files e i out (inl g) = let w = comes_to g.reader f g.walked g.gathers in go w.0 w.1 (choice_known flow srcs L w.0 f (w.1).calm)
    where
      by_chosen : (n : ℕ) → Comes n f → (d : Candidate) → choose flow srcs f ≡ Make d → MakesFiles S c f files
      by_chosen zero h d s = absurd (reached_zero flow srcs L walked f d h s)
      by_chosen (suc n) h d s =
          as_value f c files (g.told).0 (same_maker f c d i (goes_on d (reached_own flow srcs L walked n f d h s)) out s) (g.told).1 (g.told).2

      go : (n : ℕ) → Comes n f → (choose flow srcs f ≡ Source) ⊎ ((d : Candidate) × (choose flow srcs f ≡ Make d)) → MakesFiles S c f files
      go n h (inl s) = absurd (no_source p f c e out s)
      go n h (inr (d, s)) = by_chosen n h d s

  -- at the greatest depth
  at_top : (c : Candidate) (f : Path) (files : List Path) → MakesFiles S c f files → (t : Tree) × (made S 199 c f ≡ Some t) × (files ≡ files_of t)
  at_top c f files m = (m.2, made_deeper S m.0 199 (let low = m.1 in omega arith) c f m.2 m.3, m.4)

  -- ## They are right

  members_there : (c : Candidate) (p f : Path) (files : List Path) → IsIn derived_now c → choose flow srcs p ≡ Make c → folder_over (recipe flow M c) p ≡ Some f →
      listing M f ≡ Some files → HasValue F p → among (map (in_folder f) files) p ≡ true
  members_there c p f files i e over known v =
      let r = find_in (is_under p) (folders_of (recipe flow M c)) f over in
      let out = folders_paths (recipe flow M c) f r.0 in
      let m = at_top c f files (told_made p f c files e i out (all f files known)) in
      let here : made S 199 c p ≡ Some v.0 = made_of S 199 p c v.0 e (mean_known flow act has_fields image 200 p v.0 v.1) in
      let part =
      part_made S 199 c f p m.0 v.0 M (own_apart (jobs flow srcs M settings.targets) (job flow M c) apart (in_map (job flow M) derived_now c i)) out (inr r.1) m.1
      here in
      subst (λ fs. among (map (in_folder f) fs) p ≡ true) (sym m.2) (part_listed f p m.0 v.0 r.1 part)

  gathered_so : (c : Candidate) (f : Path) (files : List Path) (tree : Tree) → IsServed F M settings.targets f → listing M f ≡ Some files →
      clean_value F f ≡ Some tree → files ≡ files_of tree
  gathered_so c f files tree served known v = told (all f files known)
    where
      here : clean_value S f ≡ Some tree
      here = mean_known flow act has_fields image 200 f tree v

      told : IsMeant S L settings.targets f files → files ≡ files_of tree
      told (inl g) = (g.told).2 ∙ ap files_of (some_inj (g.told).0 tree (sym (g.told).1 ∙ here))
      told (inr o) = pick served
        where
          pick : IsServed F M settings.targets f → files ≡ files_of tree
          pick (inl s) = let p = chosen_for o.maker o.walked in absurd (no_source p.0 f o.maker p.1 o.is_output s)
          pick (inr (d, e, k)) =
              let m = at_top o.maker f files o.makes in
              let chosen_so = same_maker f o.maker d (goes_on o.maker o.walked) k o.is_output e in
              m.2 ∙ ap files_of (some_inj m.0 tree (sym m.1 ∙ made_of S 199 f o.maker tree chosen_so here))

  pub right : AreRight F M settings.targets
  right =
      record {
        gathered = λ c f files tree i g served known v. gathered_so c f files tree served known v;
        members = λ c p f files i e over known v. members_there c p f files i e over known v;
      }

-- Listings that a plan means are meant by more of them.
module _ (S : Setting) (L M : Listings) (targets : List Path) where
  walked_still : (c : Candidate) → IsIn (flat_map (walk S.flow S.sources L 200) targets) c → IsIn (flat_map (walk S.flow S.sources (L ++ M) 200) targets) c
  walked_still c i =
      let t = flat_in (walk S.flow S.sources L 200) targets c i in
      in_flat (walk S.flow S.sources (L ++ M) 200) targets t.0 c t.1 (walk_more S.flow S.sources L M 200 t.0 c t.2)

  pub meant_still : (f : Path) (files : List Path) → IsMeant S L targets f files → IsMeant S (L ++ M) targets f files
  meant_still f files (inl g) =
      inl (record { reader = g.reader; walked = walked_still g.reader g.walked; gathers = g.gathers; told = g.told })
  meant_still f files (inr o) =
      inr (record { maker = o.maker; walked = walked_still o.maker o.walked; is_output = o.is_output; makes = o.makes })

pub more_are_right : MoreAreRight
more_are_right flow act image settings progress plan m has_fields more other all clear =
    right flow act has_fields image settings progress plan m.complete m.is_plan more all
    (jobs_apart (jobs flow (sources_of image) (plan.lists ++ more) settings.targets)
    (spots_apart other [] (flat_map spots (jobs flow (sources_of image) (plan.lists ++ more) settings.targets)) clear))

pub meant_are_right : MeantAreRight
meant_are_right flow act image settings progress plan m has_fields =
    let same = append-nil plan.lists in
    let are = (derived flow image plan.lists settings.targets plan.jobs m.complete (m.is_plan).derived).1 in
    subst (λ K. AreRight (setting_of flow act has_fields image) K settings.targets) same
    (right flow act has_fields image settings progress plan m.complete m.is_plan []
    (λ f files e. m.meant f files (subst (λ K. listing K f ≡ Some files) same e))
    (subst (λ K. JobsApart (jobs flow (sources_of image) K settings.targets)) (sym same)
    (subst JobsApart (sym are) (derived_apart flow image plan.lists settings.targets plan.jobs m.complete (m.is_plan).derived))))

pub meant_jobs_are_good : MeantJobsAreGood
meant_jobs_are_good flow act image settings progress plan m has_fields c alone values derived_here has =
    derived_jobs_are_good (setting_of flow act has_fields image) plan.lists settings.targets alone values
    (meant_are_right flow act image settings progress plan m has_fields) c derived_here has
