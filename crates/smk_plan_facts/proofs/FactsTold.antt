-- The facts of jobs by a store and sights are those of the image, and what forces a job is told by sets.
use Rattle.std.proofs.Common.{◌≡◌, Bool, true, false, cond, ◌&&◌, ◌||◌, not, List, [], ◌∷◌, ◌++◌, map, Some, refl, sym, ap, ap₂, subst, ◌∙◌, bytes_eq, arith}
use Rattle.std.specs.Prelude.{is_some}
use Rattle.std.specs.List.{list_any, list_all, find, filter, flat_map, AllZip}
use Rattle.std.proofs.lemmas.List.{map-append}
use Rattle.smk_choose.proofs.Listed.{map_map, map_same}
use Rattle.smk_base.specs.Path.{is_under}
use Rattle.smk_base.proofs.Places.{same_flipped}
use Rattle.smk_world.specs.declared.recipe.Item.{Item}
use Rattle.smk_world.specs.declared.recipe.Out.{Out}
use Rattle.smk_world.specs.declared.recipe.OutItem.{OutItem}
use Rattle.smk_world.specs.World.{in_paths, out_paths}
use Rattle.smk_world.specs.Trees.{Path, Each, among, is_path_text, is_folder_kind, outs_of, folders_of}
use Rattle.smk_flow.specs.declared.job.Job.{Job}
use Rattle.smk_store.specs.Images.{Image, is_source}
use Rattle.smk_store.specs.Loading.{IsStoreOf}
use Rattle.smk_store.specs.Stores.{Known, entry_of}
use Rattle.smk_chain.specs.declared.jobs.Jobs.{Jobs}
use Rattle.smk_chain.specs.declared.jobs.Maker.{Maker}
use Rattle.smk_pick.specs.declared.settings.Settings.{Settings}
use Rattle.smk_plan.specs.declared.seen.Sight.{Sight}
use Rattle.smk_plan.specs.States.{Plan, job_path, by_force, makes}
use Rattle.smk_plan.specs.Sights.{IsSeenOf, IsSeenAs}
use Rattle.smk_plan.specs.Summed.{records_by, AreSummed, IsSummed}
use Rattle.smk_plan_facts.specs.declared.forced.Forcing.{Forcing}
use Rattle.smk_plan_facts.specs.Facts.{told_sources, AreFactsOf, HasOwnRecords, IsToldAs, TellSources}
use Rattle.smk_plan_facts.specs.Laws.{FactsAreSo}
use Rattle.smk_plan_facts.specs.Telling.{kept_of, mark_of, copied, stamp_in, facts_in, forced_by, forced_in, has_path_texts, is_aimed, aims_at, Tells}
use Rattle.smk_plan_facts.proofs.Tests.{each_two, each_tested, paths_of_outs}
use Rattle.smk_plan_facts.proofs.Outs.{any_items}
use Rattle.smk_plan_facts.proofs.Stamped.{mark_is, copy_is, stamp_told, source_seen}

-- ## Items

items_of_outs : {A : Type 0} (f : Path → A) (outputs : List OutItem) → flat_map (λ (item : OutItem). map (λ (o : Out). f o.path) item.outs) outputs ≡ map f (flat_map (λ (item : OutItem). map (λ (o : Out). o.path) item.outs) outputs)
items_of_outs f [] = refl
items_of_outs f (item ∷ outputs) =
    ap₂ ◌++◌ (sym (map_map f (λ (o : Out). o.path) item.outs)) (items_of_outs f outputs)
    ∙ sym (map-append f (map (λ (o : Out). o.path) item.outs) (flat_map (λ (i : OutItem). map (λ (o : Out). o.path) i.outs) outputs))

items_of_paths : {A : Type 0} (f : Path → A) (inputs : List Item) → flat_map (λ (item : Item). map f item.paths) inputs ≡ map f (flat_map (λ (item : Item). item.paths) inputs)
items_of_paths f [] = refl
items_of_paths f (item ∷ inputs) =
    ap (λ xs. map f item.paths ++ xs) (items_of_paths f inputs)
    ∙ sym (map-append f item.paths (flat_map (λ (i : Item). i.paths) inputs))

-- ## Facts

zip_each : {A B : Type 0} (R : A → B → Type 0) (f : A → B) (xs : List A) → Each (λ x. R x (f x)) xs → AllZip R xs (map f xs)
zip_each R f [] h = tt
zip_each R f (x ∷ xs) h = (h.0, zip_each R f xs h.1)

module _ (image : Image) (store : List Known) (sights : List Sight) (makers : List Maker) (settings : Settings) (ran : List Path) (plan : Plan) where
  abbrev told : Path → Bool
  told q = among (told_sources makers) q

  abbrev IsTold : Path → Type 0
  IsTold q = is_source image q ≡ true → told q ≡ true

  job_is : (j : Job) → IsStoreOf image store → HasOwnRecords image → ((q : Path) → told q ≡ true → IsSeenAs image sights q) → Each IsTold (in_paths j.recipe) →
      Each (IsSummed image sights j) (in_paths j.recipe) → has_path_texts j ≡ true →
      AreFactsOf image settings ran plan j (facts_in store sights told (forced_by settings ran) j)
  job_is j is own seen sources summed texts =
      record {
        recipe = refl;
        kept = kept_same;
        marked = marks_same;
        stamps = stamps_as;
        forced = refl;
      }
    where
      kept_same : flat_map (λ (item : OutItem). map (λ (o : Out). copied (kept_of (entry_of store o.path))) item.outs) j.recipe.outputs ≡ map image.kept (out_paths j.recipe)
      kept_same =
          items_of_outs (λ p. copied (kept_of (entry_of store p))) j.recipe.outputs
          ∙ map_same (λ p. copied (kept_of (entry_of store p))) image.kept (copy_is image store is own) (out_paths j.recipe)

      marks_same : flat_map (λ (item : OutItem). map (λ (o : Out). mark_of (entry_of store o.path)) item.outs) j.recipe.outputs ≡ map image.marked (out_paths j.recipe)
      marks_same =
          items_of_outs (λ p. mark_of (entry_of store p)) j.recipe.outputs
          ∙ map_same (λ p. mark_of (entry_of store p)) image.marked (mark_is image store is) (out_paths j.recipe)

      stamps_as : AllZip (IsToldAs image (records_by image.kept j)) (in_paths j.recipe) (flat_map (λ (item : Item). map (stamp_in store sights told) item.paths) j.recipe.inputs)
      stamps_as =
          subst (AllZip (IsToldAs image (records_by image.kept j)) (in_paths j.recipe)) (sym (items_of_paths (stamp_in store sights told) j.recipe.inputs))
          (zip_each (IsToldAs image (records_by image.kept j)) (stamp_in store sights told) (in_paths j.recipe)
          (each_two (λ q. is_path_text q ≡ true) (λ q. IsTold q × IsSummed image sights j q) (λ q. IsToldAs image (records_by image.kept j) q (stamp_in store sights told q))
          (λ q text at. stamp_told image store sights (told_sources makers) (records_by image.kept j) q is text (seen q) at.0 at.1)
          (in_paths j.recipe) (each_tested is_path_text (in_paths j.recipe) texts)
          (each_two IsTold (IsSummed image sights j) (λ q. IsTold q × IsSummed image sights j q) (λ q source sum. (source, sum)) (in_paths j.recipe) sources summed)))

-- the facts of all jobs
pub facts_are : (image : Image) (store : List Known) (sights : List Sight) (made : Jobs) (settings : Settings) (ran : List Path) (plan : Plan) →
    IsStoreOf image store → IsSeenOf image made sights → AreSummed image made sights → HasOwnRecords image → TellSources image made → list_all has_path_texts made.jobs ≡ true →
    AllZip (AreFactsOf image settings ran plan) made.jobs (map (facts_in store sights (among (told_sources made.makers)) (forced_by settings ran)) made.jobs)
facts_are image store sights made settings ran plan is seen summed own sources texts =
    zip_each (AreFactsOf image settings ran plan) (facts_in store sights (among (told_sources made.makers)) (forced_by settings ran)) made.jobs
    (each_two IsReady (λ (j : Job). has_path_texts j ≡ true)
    (λ (j : Job). AreFactsOf image settings ran plan j (facts_in store sights (among (told_sources made.makers)) (forced_by settings ran) j))
    (λ j ready text. job_is image store sights made.makers settings ran plan j is own (λ q at. source_seen image sights made.makers q seen.sources at) ready.0 ready.1 text)
    made.jobs
    (each_two (λ (j : Job). Each (IsTold image store sights made.makers settings ran plan) (in_paths j.recipe)) (λ (j : Job). Each (IsSummed image sights j) (in_paths j.recipe))
    IsReady (λ j source sum. (source, sum)) made.jobs sources summed)
    (each_tested has_path_texts made.jobs texts))
  where
    -- each input is told of as a source where it is one, and was digested where that is needed
    IsReady : Job → Type 0
    IsReady j = Each (IsTold image store sights made.makers settings ran plan) (in_paths j.recipe) × Each (IsSummed image sights j) (in_paths j.recipe)

pub facts_so : FactsAreSo
facts_so image settings ran plan made known seen is at summed own sources texts = facts_are image known seen made settings ran plan is at summed own sources texts

-- ## What forces a job

any_both : {A : Type 0} (P Q : A → Bool) (xs : List A) → list_any (λ x. P x || Q x) xs ≡ (list_any P xs || list_any Q xs)
any_both P Q [] = refl
any_both P Q (x ∷ xs) = ap (λ b. (P x || Q x) || b) (any_both P Q xs) ∙ mixed (P x) (Q x) (list_any P xs) (list_any Q xs)
  where
    mixed : (a b c d : Bool) → ((a || b) || (c || d)) ≡ ((a || c) || (b || d))
    mixed a b c d = grind arith

any_none : {A : Type 0} (xs : List A) → list_any (λ x. false) xs ≡ false
any_none [] = refl
any_none (x ∷ xs) = any_none xs

-- one of the targets is made where one of the outputs is made of the targets
any_swapped : {A B : Type 0} (R : A → B → Bool) (xs : List A) (ys : List B) → list_any (λ x. list_any (R x) ys) xs ≡ list_any (λ y. list_any (λ x. R x y) xs) ys
any_swapped R [] ys = sym (any_none ys)
any_swapped R (x ∷ xs) ys = ap (λ b. list_any (R x) ys || b) (any_swapped R xs ys) ∙ sym (any_both (R x) (λ y. list_any (λ z. R z y) xs) ys)

any_same : {A : Type 0} (P Q : A → Bool) → ((x : A) → P x ≡ Q x) → (xs : List A) → list_any P xs ≡ list_any Q xs
any_same P Q same [] = refl
any_same P Q same (x ∷ xs) = ap₂ ◌||◌ (same x) (any_same P Q same xs)

any_and : {A : Type 0} (b : Bool) (P : A → Bool) (xs : List A) → list_any (λ x. b && P x) xs ≡ (b && list_any P xs)
any_and true P xs = refl
any_and false P xs = any_none xs

-- the output is the path, or a directory above it
abbrev reaches : Path → Out → Bool
reaches q o = bytes_eq q o.path || (is_folder_kind o.kind && is_under q o.path)

among_outs : (q : Path) (outs : List Out) → among (map (λ (o : Out). o.path) outs) q ≡ list_any (λ (o : Out). bytes_eq q o.path) outs
among_outs q [] = refl
among_outs q (o ∷ outs) = ap (λ b. bytes_eq q o.path || b) (among_outs q outs)

found_any : {A : Type 0} (test : A → Bool) (xs : List A) → is_some (find test xs) ≡ list_any test xs
found_any test [] = refl
found_any test (x ∷ xs) = go (test x) (found_any test xs)
  where
    go : (b : Bool) → is_some (find test xs) ≡ list_any test xs → is_some (cond b (Some x) (find test xs)) ≡ (b || list_any test xs)
    go true more = refl
    go false more = more

over_outs : (q : Path) (outs : List Out) → list_any (is_under q) (map (λ (o : Out). o.path) (filter (λ (o : Out). is_folder_kind o.kind) outs)) ≡ list_any (λ (o : Out). is_folder_kind o.kind && is_under q o.path) outs
over_outs q [] = refl
over_outs q (o ∷ outs) = go (is_folder_kind o.kind) (over_outs q outs)
  where
    go : (b : Bool) → list_any (is_under q) (map (λ (x : Out). x.path) (filter (λ (x : Out). is_folder_kind x.kind) outs)) ≡ list_any (λ (x : Out). is_folder_kind x.kind && is_under q x.path) outs →
        list_any (is_under q) (map (λ (x : Out). x.path) (cond b (o ∷ filter (λ (x : Out). is_folder_kind x.kind) outs) (filter (λ (x : Out). is_folder_kind x.kind) outs)))
        ≡ ((b && is_under q o.path) || list_any (λ (x : Out). is_folder_kind x.kind && is_under q x.path) outs)
    go true more = ap (λ b. is_under q o.path || b) more
    go false more = more

-- a job makes what one of its outputs reaches
pub makes_by : (j : Job) (q : Path) → makes j q ≡ list_any (reaches q) (outs_of j.recipe)
makes_by j q =
    ap₂ ◌||◌ (ap (λ ps. among ps q) (paths_of_outs j.recipe.outputs) ∙ among_outs q (outs_of j.recipe))
    (found_any (is_under q) (folders_of j.recipe) ∙ over_outs q (outs_of j.recipe))
    ∙ sym (any_both (λ (o : Out). bytes_eq q o.path) (λ (o : Out). is_folder_kind o.kind && is_under q o.path) (outs_of j.recipe))

among_any : (targets : List Path) (p : Path) → among targets p ≡ list_any (λ t. bytes_eq t p) targets
among_any [] p = refl
among_any (t ∷ targets) p = ap₂ ◌||◌ (same_flipped p t) (among_any targets p)

module _ (settings : Settings) (ran : List Path) (f : Forcing) (tells : Tells settings ran f) where
  aimed : (o : Out) → is_aimed f o ≡ list_any (λ t. reaches t o) settings.targets
  aimed o =
      ap₂ (λ a b. a || (is_folder_kind o.kind && b)) (tells.targets o.path ∙ among_any settings.targets o.path) (tells.above o.path)
      ∙ ap (λ b. list_any (λ t. bytes_eq t o.path) settings.targets || b) (sym (any_and (is_folder_kind o.kind) (λ t. is_under t o.path) settings.targets))
      ∙ sym (any_both (λ t. bytes_eq t o.path) (λ t. is_folder_kind o.kind && is_under t o.path) settings.targets)

  meant : (j : Job) → list_any (aims_at f) j.recipe.outputs ≡ list_any (makes j) settings.targets
  meant j =
      any_items (is_aimed f) j.recipe.outputs
      ∙ any_same (is_aimed f) (λ (o : Out). list_any (λ t. reaches t o) settings.targets) aimed (outs_of j.recipe)
      ∙ sym (any_swapped reaches settings.targets (outs_of j.recipe))
      ∙ any_same (λ t. list_any (reaches t) (outs_of j.recipe)) (makes j) (λ t. sym (makes_by j t)) settings.targets

  pub forced_is : (j : Job) → forced_in f j ≡ forced_by settings ran j
  forced_is j =
      ap₂ (λ a b. not a && b) (tells.begun (job_path j))
      (ap₂ by_force tells.force (meant j))

-- facts by other tests that tell the same
pub same_facts : (store : List Known) (sights : List Sight) (told told2 : Path → Bool) (forced forced2 : Job → Bool) → ((q : Path) → told q ≡ told2 q) → ((j : Job) → forced j ≡ forced2 j) → (js : List Job) →
    map (facts_in store sights told forced) js ≡ map (facts_in store sights told2 forced2) js
same_facts store sights told told2 forced forced2 t h js = λ i. map (facts_in store sights (λ q. t q i) (λ j. h j i)) js
