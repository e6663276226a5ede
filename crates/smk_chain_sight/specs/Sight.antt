-- What is told of sources for some targets.
use Rattle.std.specs.Prelude.{◌≡◌, ◌<◌, ◌≤◌, ℕ, Bool, true, false, List, ◌++◌, length, Result, Ok, Err}
use Rattle.std.specs.List.{AllByRecursion}
use Rattle.smk_base.specs.Path.{is_path}
use Rattle.smk_world.specs.Trees.{Path}
use Rattle.smk_pattern.specs.Shapes.{Text}
use Rattle.smk_flow.specs.Flows.{Flow, Candidate, outputs, logs}
use Rattle.smk_choose.specs.Choose.{Sources, as_member, as_output, or_else}
use Rattle.smk_store.specs.Images.{Image}
use Rattle.smk_chain.specs.declared.fault.SightFault.{SightFault}
use Rattle.smk_chain.specs.declared.fault.SightFault.TheVariants.{TooManyPaths, Device, OutOfMemory}
use Rattle.smk_chain.specs.Derive.{Listings, reach, jobs, job_refusals, outcome}

-- the device failed
abbrev pub sight_failed : {A : Type 0} → Result A SightFault → Bool
sight_failed (Ok a) = false
sight_failed (Err (TooManyPaths count)) = false
sight_failed (Err Device) = true
sight_failed (Err OutOfMemory) = false

-- the jobs that fit the path by name, whatever their outputs and logs hold
abbrev pub fitting : Flow → Path → List Candidate
fitting flow p = or_else (as_member flow p) (as_output flow p)

-- where a job writes
abbrev pub places : Flow → Candidate → List Text
places flow c = outputs flow c ++ logs flow c

-- the two say the same of the path: whether it is a source, and whether it holds one
abbrev pub SameAt : Sources → Sources → Path → Type 0
SameAt S T p = (T.is p ≡ S.is p) × (T.holds p ≡ S.holds p)

-- so they do of the path, and, where that is no source, of each output and log of the jobs that fit it by name
abbrev pub SameAround : Flow → Sources → Sources → Path → Type 0
SameAround flow S T p =
    SameAt S T p × (S.is p ≡ false → AllByRecursion (λ (c : Candidate). AllByRecursion (λ (q : Text). is_path q ≡ true → SameAt S T q) (places flow c)) (fitting flow p))

-- so they do of each path of the reach of these targets
abbrev pub SameOnReach : Flow → Sources → Listings → List Path → Sources → Type 0
SameOnReach flow S L targets T = AllByRecursion (SameAround flow S T) (reach flow S L 400 targets)

-- the reach has more than 100,000 paths, or no more
pub record IsLarge (flow : Flow) (S : Sources) (L : Listings) (targets : List Path) : Type 0 where
  pub more : 100000 < length (reach flow S L 400 targets)

pub record IsSmall (flow : Flow) (S : Sources) (L : Listings) (targets : List Path) : Type 0 where
  pub less : length (reach flow S L 400 targets) ≤ 100000

-- What T tells is what S does wherever it matters for these targets: on their reach, which is no larger than it may be. The reach is the same by it, and so is the derivation: the jobs,
-- or the first of what is refused of them.
pub record Suffices (flow : Flow) (S : Sources) (L : Listings) (targets : List Path) (T : Sources) : Type 0 where
  pub few : IsSmall flow S L targets
  pub same : SameOnReach flow S L targets T
  pub same_reach : reach flow T L 400 targets ≡ reach flow S L 400 targets
  pub same_derivation : (image : Image) → outcome (job_refusals flow T image L targets) (jobs flow T L targets) ≡ outcome (job_refusals flow S image L targets) (jobs flow S L targets)

-- Where so many paths are the reach, or more than it may have: which of the two, and in the one case what is told of it.
pub record TellsReach (flow : Flow) (S : Sources) (L : Listings) (targets : List Path) (T : Sources) (count : ℕ) : Type 0 where
  pub small : count ≤ 100000 → SameOnReach flow S L targets T × IsSmall flow S L targets
  pub large : 100000 < count → IsLarge flow S L targets
