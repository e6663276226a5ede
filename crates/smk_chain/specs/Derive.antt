-- Derivation: the inputs of a job under listings, the jobs of some targets in plan order, and what is refused on the way.
use Rattle.std.specs.Prelude.{ℕ, zero, suc, Bool, true, false, ◌&&◌, ◌||◌, not, List, [], ◌∷◌, ◌++◌, map, filter, length, max, ◌+◌, ◌==◌, nat_lt, bytes_eq, if◌then◌else◌, Option, Some, None, option_map, is_some, is_none}
use Rattle.std.specs.List.{find, fold, flat_map, filter_map}
use lib.Pointwise.{pointwise}
use Rattle.smk_base.specs.Path.{is_path, overlaps}
use Rattle.smk_world.specs.declared.recipe.Item.{Item}
use Rattle.smk_world.specs.declared.recipe.Recipe.{Recipe}
use Rattle.smk_world.specs.World.{out_paths}
use Rattle.smk_world.specs.Calls.{in_folder}
use Rattle.smk_world.specs.Trees.{Path, among, folder_over}
use Rattle.smk_pattern.specs.Shapes.{Text}
use Rattle.smk_pattern.specs.Reading.{fill}
use Rattle.smk_pattern.specs.Bound.{binding_of}
use Rattle.smk_flow.specs.declared.rule.InPart.{InPart}
use Rattle.smk_flow.specs.declared.rule.GatherPart.{GatherPart}
use Rattle.smk_flow.specs.declared.job.Job.{Job}
use Rattle.smk_flow.specs.Flows.{Flow, Candidate, gathered_folders, declared_inputs, folder_from}
use Rattle.smk_flow.specs.Jobs.{recipe_with, job_with}
use Rattle.smk_choose.specs.Choose.{Sources, Choice, choose, maker, candidates, Source, Make, Nothing, Ambiguous, Lack}
use Rattle.smk_record.specs.Records.{same_pair}
use Rattle.smk_store.specs.Images.{Image, stands, is_source, holds_source}
use Rattle.smk_chain.specs.declared.jobs.Known.{Known}

abbrev pub sources_of : Image → Sources
sources_of image = record { is = is_source image; holds = holds_source image }

-- ## Inputs

abbrev pub Listings : Type 0
Listings = List Known

-- the files of the folder, where they are known
abbrev pub listing : Listings → Path → Option (List Path)
listing L folder = option_map (λ (k : Known). k.files) (find (λ (k : Known). bytes_eq k.folder folder) L)

abbrev pub or_none : Option (List Path) → List Path
or_none None = []
or_none (Some files) = files

-- the wanted text, filled by each listed file that fits, in byte order, repeats kept
abbrev pub gathered : Listings → Candidate → Path → GatherPart → List Text
gathered L c folder g =
    filter_map (λ file. option_map (λ b. fill (b ++ c.binding) g.wanted) (binding_of c.part.limits g.listed file)) (or_none (listing L folder))

-- the inputs of an item: the texts that are written out, or what is gathered
abbrev pub item_paths : Flow → Listings → Candidate → List Text → Option GatherPart → List Text
item_paths flow L c texts None = map (fill c.binding) texts
item_paths flow L c texts (Some g) = gathered L c (folder_from flow c.binding g.checkpoint) g

abbrev pub gathered_in : Flow → Listings → Candidate → Option GatherPart → List Text
gathered_in flow L c None = []
gathered_in flow L c (Some g) = gathered L c (folder_from flow c.binding g.checkpoint) g

module _ (flow : Flow) (L : Listings) (c : Candidate) where
  -- its inputs item by item, with the gathered files in their items' places
  abbrev pub items : List Item
  items = map (λ (i : InPart). record { name = i.name; paths = item_paths flow L c i.texts i.gather }) c.part.inputs

  abbrev pub gathered_files : List Text
  gathered_files = flat_map (λ (i : InPart). gathered_in flow L c i.gather) c.part.inputs

  -- its inputs, then the directories that it gathers from, then the files that it gathers
  abbrev pub wants : List Text
  wants = declared_inputs flow c ++ (gathered_folders flow c ++ gathered_files)

  abbrev pub recipe : Recipe
  recipe = recipe_with c items

  abbrev pub job : Job
  job = job_with flow c items

-- ## Jobs in plan order

abbrev pub same_candidate : Candidate → Candidate → Bool
same_candidate a b = a.rule == b.rule && pointwise same_pair a.binding b.binding

-- each once, where it comes first
abbrev pub distinct : {A : Type 0} → (A → A → Bool) → List A → List A
distinct same [] = []
distinct same (x ∷ xs) = x ∷ filter (λ y. not (same x y)) (distinct same xs)

-- for a path, the jobs of what its job wants, in order, and then its own job; to depth n
abbrev pub walk : Flow → Sources → Listings → ℕ → Path → List Candidate
walk flow sources L zero p = []
walk flow sources L (suc n) p =
    elim (maker (choose flow sources p)) as (λ _. List Candidate) [
      | None ↦ []
      | Some c ↦ flat_map (walk flow sources L n) (wants flow L c) ++ c ∷ []
    ]

-- what a job wants, but for the texts that are no paths
abbrev pub wanted_paths : Flow → Listings → Candidate → List Path
wanted_paths flow L c = filter is_path (wants flow L c)

-- the longest chain of jobs from a path, each wanting something of the next, counted up to n
abbrev pub height : Flow → Sources → Listings → ℕ → Path → ℕ
height flow sources L zero p = 0
height flow sources L (suc n) p =
    elim (maker (choose flow sources p)) as (λ _. ℕ) [
      | None ↦ 0
      | Some c ↦ 1 + fold max 0 (map (height flow sources L n) (wanted_paths flow L c))
    ]

module _ (flow : Flow) (sources : Sources) (L : Listings) where
  -- the chosen jobs of the targets and of all that they want, each once: first what a job wants, then the job
  abbrev pub chosen : List Path → List Candidate
  chosen targets = distinct same_candidate (flat_map (walk flow sources L 200) targets)

  abbrev pub jobs : List Path → List Job
  jobs targets = map (job flow L) (chosen targets)

-- ## Refusals

pub data Refusal : Type 0 where
  TooManyPaths : Refusal
  Deep : Path → Refusal
  NoRule : Path → Refusal
  NoInput : Path → ℕ → Text → Refusal
  TwoJobs : Path → ℕ → ℕ → Refusal
  MissingMember : Path → Refusal
  NoCommand : ℕ → Refusal
  Clash : Path → Path → Refusal

abbrev pub lacking : Path → Option Lack → Refusal
lacking p None = NoRule p
lacking p (Some l) = NoInput p l.rule l.wanted

-- the directory of which it is a member has a known listing, and it isn't there
abbrev pub is_missing : Listings → Path → Option Path → Bool
is_missing L p None = false
is_missing L p (Some folder) = is_some (listing L folder) && not (among (map (in_folder folder) (or_none (listing L folder))) p)

abbrev pub refused_if : Bool → Refusal → List Refusal
refused_if b r = if b then r ∷ [] else []

-- what is refused at a path itself
abbrev pub refused_at : Flow → Listings → Path → Choice → List Refusal
refused_at flow L p Source = []
refused_at flow L p (Nothing lack) = lacking p lack ∷ []
refused_at flow L p (Ambiguous a b) = TwoJobs p a b ∷ []
refused_at flow L p (Make c) =
    refused_if (is_missing L p (folder_over (recipe flow L c) p)) (MissingMember p) ++ refused_if (is_none c.part.command) (NoCommand c.rule)

-- what is refused at a path, and then at what its job wants, in order; a want that isn't a path is no input; to depth n
abbrev pub refused : Flow → Sources → Listings → ℕ → Path → List Refusal
refused flow sources L zero p = []
refused flow sources L (suc n) p =
    let choice = choose flow sources p in
    refused_at flow L p choice
    ++ elim (maker choice) as (λ _. List Refusal) [
      | None ↦ []
      | Some c ↦
          flat_map
          (λ w. elim (is_path w) as (λ _. List Refusal) [ true ↦ refused flow sources L n w | false ↦ NoInput p c.rule w ∷ [] ])
          (wants flow L c)
    ]

-- one step down: the inputs, gathered directories and known gathered files of all candidates
abbrev pub next : Flow → Sources → Listings → Path → List Path
next flow sources L p = if sources.is p then [] else filter is_path (flat_map (wants flow L) (candidates flow sources p))

-- the paths that are looked at for these targets, n levels deep
abbrev pub reach : Flow → Sources → Listings → ℕ → List Path → List Path
reach flow sources L zero targets = distinct bytes_eq targets
reach flow sources L (suc n) targets =
    let nearer = reach flow sources L n targets in distinct bytes_eq (nearer ++ flat_map (next flow sources L) nearer)

abbrev pub has_record_or_mark : Image → Path → Bool
has_record_or_mark image q = stands (image.kept q) || image.marked q

-- What is known of q is in the way of an output at p: a note, or a record or mark of another path. In the way of a log: a record
-- or mark, or a note of another path.
abbrev pub hinders : Image → Path × Bool → Path → Bool
hinders image (p, true) q = overlaps p q && (image.noted q || (has_record_or_mark image q && not (bytes_eq p q)))
hinders image (p, false) q = overlaps p q && (has_record_or_mark image q || (image.noted q && not (bytes_eq p q)))

-- the outputs, then the logs, of a job; true for an output
abbrev pub spots : Job → List (Path × Bool)
spots j = map (λ p. (p, true)) (out_paths j.recipe) ++ map (λ p. (p, false)) j.logs

-- each spot with the earlier ones that it overlaps, and then with what is known, in byte order
abbrev pub clashes : Image → List Path → List (Path × Bool) → List Refusal
clashes image earlier [] = []
clashes image earlier (spot ∷ rest) =
    map (Clash spot.0) (filter (overlaps spot.0) earlier ++ filter (hinders image spot) image.known)
    ++ clashes image (earlier ++ spot.0 ∷ []) rest

module _ (flow : Flow) (sources : Sources) (image : Image) (L : Listings) (targets : List Path) where
  -- a chain of 201 jobs leads from it
  abbrev pub is_deep : Path → Bool
  is_deep p = height flow sources L 201 p == 201

  -- all that is refused of the jobs, in the order in which it is looked for
  abbrev pub job_refusals : List Refusal
  job_refusals =
      map Deep (filter is_deep targets)
      ++ (flat_map (refused flow sources L 201) targets
      ++ clashes image [] (flat_map spots (jobs flow sources L targets)))

  -- all that is refused, in the order in which it is looked for: the first is the answer
  abbrev pub refusals : List Refusal
  refusals = refused_if (nat_lt 100000 (length (reach flow sources L 400 targets))) TooManyPaths ++ job_refusals

-- a derivation gives its jobs in plan order, or is refused
pub data Derivation : Type 0 where
  Derived : List Job → Derivation
  Refused : Refusal → Derivation

abbrev pub outcome : List Refusal → List Job → Derivation
outcome [] jobs = Derived jobs
outcome (r ∷ rest) jobs = Refused r

-- the derivation from an image, with these listings
abbrev pub derivation : Flow → Image → Listings → List Path → Derivation
derivation flow image L targets =
    outcome (refusals flow (sources_of image) image L targets) (jobs flow (sources_of image) L targets)
