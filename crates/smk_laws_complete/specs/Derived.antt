-- Where each target has a clean value: what derivation refuses, and what the derived jobs give.
use Rattle.std.specs.Prelude.{◌≡◌, ◌⊎◌, true, List, [], map, Some, is_some, IsTrue}
use Rattle.std.specs.List.{flat_map}
use Rattle.smk_base.specs.declared.tree.Tree.{Tree}
use Rattle.smk_world.specs.Calls.{in_folder}
use Rattle.smk_world.specs.World.{in_paths, out_paths}
use Rattle.smk_world.specs.Trees.{Path, IsIn, all_of, among, are_good, files_of, folder_over, outs_of, value_at}
use Rattle.smk_flow.specs.declared.rule.InPart.{InPart}
use Rattle.smk_flow.specs.declared.rule.RulePart.{RulePart}
use Rattle.smk_flow.specs.Flows.{Flow, Candidate, gathered_folders}
use Rattle.smk_choose.specs.Choose.{choose, Source, Make}
use Rattle.smk_store.specs.Images.{Image, tree_now}
use Rattle.smk_chain.specs.Derive.{Listings, listing, job, jobs, recipe, chosen, clashes, spots, job_refusals}
use Rattle.smk_chain.specs.Mean.{Setting, clean_value}
use Rattle.smk_report.specs.Lines.{Good}
use Rattle.smk_drive.specs.Moments.{ending}

-- an item of inputs that gathers has no texts written out besides
abbrev pub GathersAlone : Flow → Type 0
GathersAlone flow =
    (part : RulePart) (i : InPart) → IsIn flow.rules part → IsIn part.inputs i → is_some i.gather ≡ true → i.texts ≡ []

-- a clean run from the sources gives a tree there
abbrev pub HasValue : Setting → Path → Type 0
HasValue S p = (tree : Tree) × (clean_value S p ≡ Some tree)

abbrev pub AllHaveValues : Setting → List Path → Type 0
AllHaveValues S ps = (p : Path) → IsIn ps p → HasValue S p

-- a source, or its job is derived
abbrev pub IsServed : Setting → Listings → List Path → Path → Type 0
IsServed S L targets p =
    (choose S.flow S.sources p ≡ Source)
    ⊎ ((c : Candidate) × (choose S.flow S.sources p ≡ Make c) × IsIn (chosen S.flow S.sources L targets) c)

-- The listings are right for the jobs that are derived with them: a directory from which a job gathers, and whose own job is derived too, has
-- the files of its clean value; and a directory that a job makes has each file that has a clean value and for which this job is chosen.
pub record AreRight (S : Setting) (L : Listings) (targets : List Path) : Type 0 where
  pub gathered :
      (c : Candidate) (f : Path) (files : List Path) (tree : Tree) →
      IsIn (chosen S.flow S.sources L targets) c →
      IsIn (gathered_folders S.flow c) f →
      IsServed S L targets f → listing L f ≡ Some files → clean_value S f ≡ Some tree → files ≡ files_of tree
  pub members :
      (c : Candidate) (p f : Path) (files : List Path) →
      IsIn (chosen S.flow S.sources L targets) c →
      choose S.flow S.sources p ≡ Make c →
      folder_over (recipe S.flow L c) p ≡ Some f →
      listing L f ≡ Some files → HasValue S p → IsTrue (among (map (in_folder f) files) p)

abbrev pub NoListingIsRight : Type 0
NoListingIsRight = (S : Setting) (targets : List Path) → AreRight S [] targets

-- For targets that have clean values, and listings that are right, nothing is refused of the jobs but outputs and logs that clash.
abbrev pub CleanTargetsAreDerived : Type 0
CleanTargetsAreDerived =
    (S : Setting) (image : Image) (L : Listings) (targets : List Path) →
    GathersAlone S.flow →
    AllHaveValues S targets →
    AreRight S L targets →
    job_refusals S.flow S.sources image L targets ≡ clashes image [] (flat_map spots (jobs S.flow S.sources L targets))

-- each directory from which the job gathers is a source, or its listing is known
abbrev pub HasListings : Setting → Listings → Candidate → Type 0
HasListings S L c = (f : Path) → IsIn (gathered_folders S.flow c) f → IsTrue (S.sources.is f) ⊎ IsTrue (is_some (listing L f))

-- A job that can't fail on clean inputs: each field of its command has a value, its inputs have clean values, and of these its command makes
-- all its outputs, each of its kind and within the limits, with status 0. That is the clean value of each path for which the job is chosen.
pub record IsGoodJob (S : Setting) (L : Listings) (c : Candidate) : Type 0 where
  pub command : is_some c.part.command ≡ true
  pub fields : S.has_fields (job S.flow L c) ≡ true
  pub inputs : List Tree
  pub clean : all_of (map (clean_value S) (in_paths (recipe S.flow L c))) ≡ Some inputs
  pub status : (S.act (recipe S.flow L c) inputs).status ≡ 0
  pub good : are_good (outs_of (recipe S.flow L c)) (S.act (recipe S.flow L c) inputs).outputs ≡ true
  pub outputs : (p : Path) → choose S.flow S.sources p ≡ Make c → clean_value S p ≡ value_at S.act (recipe S.flow L c) p (Some inputs)

-- For targets that have clean values each derived job whose listings are known is good.
abbrev pub DerivedJobsAreGood : Type 0
DerivedJobsAreGood =
    (S : Setting) (L : Listings) (targets : List Path) →
    GathersAlone S.flow →
    AllHaveValues S targets →
    AreRight S L targets →
    (c : Candidate) → IsIn (chosen S.flow S.sources L targets) c → HasListings S L c → IsGoodJob S L c

-- A good job ends well where its command does with its inputs' clean values what such commands do: with its status, and what it
-- makes at the outputs.
abbrev pub GoodJobsEndWell : Type 0
GoodJobsEndWell =
    (S : Setting) (L : Listings) (c : Candidate) (image : Image) →
    (good : IsGoodJob S L c) →
    map (tree_now image) (out_paths (recipe S.flow L c)) ≡ (S.act (recipe S.flow L c) good.inputs).outputs →
    ending image (job S.flow L c) (S.act (recipe S.flow L c) good.inputs).status ≡ Good
