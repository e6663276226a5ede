-- What is seen of the outputs and sources of jobs, and which outputs and wanted paths are whole.
use Rattle.std.specs.Prelude.{◌≡◌, ℕ, zero, suc, Bool, true, ◌&&◌, not, ◌==◌, List, [], ◌∷◌, map, bytes_eq, if◌then◌else◌, Option, Some, None}
use Rattle.std.specs.List.{find, list_any}
use Rattle.std.specs.Option.{option_and_then}
use Rattle.smk_base.specs.Path.{is_at_or_under}
use Rattle.smk_base.specs.declared.sum.Sum.{Sum as Digest}
use Rattle.smk_world.specs.declared.recipe.Out.{Out}
use Rattle.smk_world.specs.Calls.{stat_of}
use Rattle.smk_world.specs.Trees.{Path, Each, outs_of, is_text}
use Rattle.smk_record.specs.declared.record.Member.{Member}
use Rattle.smk_record.specs.Records.{are_rising, are_valid_members}
use Rattle.smk_flow.specs.declared.job.Job.{Job}
use Rattle.smk_store.specs.Images.{Image, Content, file_at, is_folder, is_whole, members_under}
use Rattle.smk_store.specs.Trust.{is_summed, sum_of}
use Rattle.smk_chain.specs.declared.jobs.Jobs.{Jobs}
use Rattle.smk_chain.specs.declared.jobs.Maker.{Maker}
use Rattle.smk_plan.specs.declared.seen.Sight.{Sight}
use Rattle.smk_plan.specs.declared.wholes.Wholes.{Wholes}
use Rattle.smk_plan.specs.States.{stands_whole, test_some}

-- ## Sights

-- the paths rise
abbrev pub AreRising : List Sight → Type 0
AreRising sights = are_rising (map (λ (s : Sight). s.path) sights) ≡ true

-- what was seen at the path
abbrev pub sight_at : List Sight → Path → Option Sight
sight_at sights p = find (λ (s : Sight). bytes_eq s.path p) sights

-- a place that listings and looks can tell: a text without a line feed
abbrev pub is_tellable : Path → Bool
is_tellable q = is_text q && not (list_any (λ b. b == 10) q)

-- a read-only file stands at or under the path
abbrev pub is_guarded : Image → Path → Bool
is_guarded image p =
    list_any (λ q. is_at_or_under q p && (is_tellable q && test_some (λ (f : Content). f.read_only) (file_at image q))) image.names

-- what is listed at a path: of a folder all that is under it, where a record may have it
abbrev pub members_seen : Image → Path → Option (List Member)
members_seen image p =
    if is_folder image p && are_valid_members p (members_under image p) then Some (members_under image p) else None

-- what is seen at a path, without a digest
abbrev pub sight_of : Image → Path → Sight
sight_of image p =
    record { path = p; stat = stat_of (image.node p); members = members_seen image p; guarded = is_guarded image p; sum = None }

-- the digest, if any, is the SHA-256 of the file at the path
abbrev pub HasSum : Image → Path → Option Digest → Type 0
HasSum image p None = Unit {0}
HasSum image p (Some d) = (f : Content) × (file_at image p ≡ Some f) × (is_summed f.bytes ≡ true) × (sum_of f.bytes ≡ d)

-- a sight tells what stands at the path, with a digest or without one
abbrev pub IsSeenAs : Image → List Sight → Path → Type 0
IsSeenAs image sights p =
    (d : Option Digest) × (sight_at sights p ≡ Some (record (sight_of image p) { sum = d })) × HasSum image p d

-- a source among the makers is seen as it stands
abbrev pub IsSourceSeen : Image → List Sight → Maker → Type 0
IsSourceSeen image sights m = m.job ≡ None → IsSeenAs image sights m.path

-- Each output of these jobs is seen as it stands in the image, and so is each source.
pub record IsSeenOf (image : Image) (jobs : Jobs) (sights : List Sight) : Type 0 where
  pub outputs : Each (λ (j : Job). Each (λ (o : Out). IsSeenAs image sights o.path) (outs_of j.recipe)) jobs.jobs
  pub sources : Each (IsSourceSeen image sights) jobs.makers

-- ## What is whole

-- which outputs of the job are whole
abbrev pub whole_outputs : Image → Job → List Bool
whole_outputs image j = map (λ (o : Out). is_whole image o.path o.kind) (outs_of j.recipe)

-- the job of a number
abbrev pub job_at : List Job → ℕ → Option Job
job_at [] n = None
job_at (j ∷ js) zero = Some j
job_at (j ∷ js) (suc n) = job_at js n

-- the path is whole as what the job of its number makes there; a source isn't
abbrev pub is_whole_made : Image → List Job → Maker → Bool
is_whole_made image jobs m = test_some (stands_whole image m.path) (option_and_then (job_at jobs) m.job)

-- which outputs and which wanted paths are whole
abbrev pub wholes_of : Image → Jobs → Wholes
wholes_of image jobs =
    record { outputs = map (whole_outputs image) jobs.jobs; makers = map (is_whole_made image jobs.jobs) jobs.makers }
