-- What looks at a path tell of it.
use Rattle.std.specs.Prelude.{◌≡◌, Bool, true, false, List, map, filter, Option, Some, None, is_none, Result, Ok, Err}
use Rattle.smk_base.specs.Path.{is_at_or_under}
use Rattle.smk_world.specs.declared.recipe.Out.{Out}
use Rattle.smk_world.specs.declared.event.Stat.{Stat}
use Rattle.smk_world.specs.declared.event.Stat.TheVariants.{Nothing as NoStat, File as FileStat, Folder as FolderStat}
use Rattle.smk_world.specs.declared.event.WorkFault.{WorkFault}
use Rattle.smk_world.specs.declared.event.WorkFault.TheVariants.{Failed, OutOfMemory}
use Rattle.smk_world.specs.World.{World, in_paths, reading, reads_folder}
use Rattle.smk_world.specs.Calls.{stat_of}
use Rattle.smk_world.specs.Trees.{Path, Each, among, is_path_text, outs_of}
use Rattle.smk_record.specs.declared.record.Member.{Member}
use Rattle.smk_store.specs.Images.{Image, Content, content_of}
use Rattle.smk_store.specs.Unowned.{IsUnownedUnder}
use Rattle.smk_store_members.specs.declared.listed.Listed.{Listed}
use Rattle.smk_store_members.specs.declared.listed.Listed.TheVariants.{Members, BadMember}
use Rattle.smk_store_members.specs.Members.{Nodes, AreMembers, HasNoMembers}
use Rattle.smk_digest.specs.declared.fault.SumFault.{SumFault}
use Rattle.smk_digest.specs.declared.fault.SumFault.TheVariants.{Device as NoDevice, OutOfMemory as NoSpace}
use Rattle.smk_flow.specs.declared.job.Job.{Job}
use Rattle.smk_chain.specs.declared.jobs.Jobs.{Jobs}
use Rattle.smk_chain.specs.declared.jobs.Maker.{Maker}
use Rattle.smk_plan.specs.declared.seen.Sight.{Sight}
use Rattle.smk_plan.specs.declared.fault.LookFault.{LookFault}
use Rattle.smk_plan.specs.declared.fault.LookFault.TheVariants.{Device, OutOfMemory as NoMemory}
use Rattle.smk_plan.specs.States.{test_some}
use Rattle.smk_plan.specs.Sights.{is_tellable, sight_at, sight_of, IsSeenAs}
use Rattle.smk_plan.specs.Summed.{IsSummed}
use Rattle.smk_plan_look.specs.Gathering.{wanted}

abbrev pub is_read_only : Stat → Bool
is_read_only NoStat = false
is_read_only (FileStat time read_only) = read_only
is_read_only FolderStat = false

abbrev pub is_folder_stat : Stat → Bool
is_folder_stat NoStat = false
is_folder_stat (FileStat time read_only) = false
is_folder_stat FolderStat = true

-- a read-only file that looks can tell
pub record IsGuard (nodes : Nodes) (q : Path) : Type 0 where
  pub tellable : is_tellable q ≡ true
  pub read_only : test_some (λ (f : Content). f.read_only) (content_of (reading (nodes q))) ≡ true

-- one stands at the path or under it
pub record HasGuard (nodes : Nodes) (p : Path) : Type 0 where
  pub place : Path
  pub inside : is_at_or_under place p ≡ true
  pub guards : IsGuard nodes place

-- whether one does
pub record TellsGuard (nodes : Nodes) (p : Path) (found : Bool) : Type 0 where
  pub some : found ≡ true → HasGuard nodes p
  pub none : found ≡ false → ¬ (HasGuard nodes p)

-- the members, or that there are none which a record may have
abbrev pub IsListedAs : Nodes → Path → Option (List Member) → Type 0
IsListedAs nodes p (Some members) = AreMembers nodes p members
IsListedAs nodes p None = HasNoMembers nodes p

abbrev pub members_in : Listed → Option (List Member)
members_in (Members members) = Some members
members_in BadMember = None

-- what is seen of the path is so
pub record IsSightOf (nodes : Nodes) (p : Path) (s : Sight) : Type 0 where
  pub path : s.path ≡ p
  pub stat : s.stat ≡ stat_of (reading (nodes p))
  pub folder : reads_folder (nodes p) ≡ true → IsListedAs nodes p s.members
  pub plain : reads_folder (nodes p) ≡ false → s.members ≡ None
  pub guarded : TellsGuard nodes p s.guarded
  pub unsummed : s.sum ≡ None

-- the path is seen as it stands, with no digest, where no running child owns it or anything under it
pub record IsPlain (w : World) (image : Image) (sights : List Sight) (p : Path) : Type 0 where
  pub path : is_path_text p ≡ true
  pub seen : IsUnownedUnder w.nodes p → sight_at sights p ≡ Some (sight_of image p)

-- so is each output of these jobs, and each source
abbrev pub ArePlain : World → Image → Jobs → List Sight → Type 0
ArePlain w image jobs sights = Each (IsPlain w image sights) (wanted jobs)

-- the path is seen as it stands, where no running child owns it or anything under it
abbrev pub IsSeenUnowned : World → Image → List Sight → Path → Type 0
IsSeenUnowned w image sights p = IsUnownedUnder w.nodes p → IsSeenAs image sights p

-- So is each output of these jobs, and each source.
pub record AreSeenUnowned (w : World) (image : Image) (jobs : Jobs) (sights : List Sight) : Type 0 where
  pub outputs : Each (λ (j : Job). Each (λ (o : Out). IsSeenUnowned w image sights o.path) (outs_of j.recipe)) jobs.jobs
  pub sources : Each (λ (m : Maker). m.job ≡ None → IsSeenUnowned w image sights m.path) jobs.makers

-- The input of the job, where it is told as a source and no running child owns it or anything under it, was seen with its SHA-256, if that is needed.
abbrev pub IsSummedUnowned : World → Image → Jobs → List Sight → Job → Path → Type 0
IsSummedUnowned w image jobs sights j q =
    IsUnownedUnder w.nodes q → among (map (λ (m : Maker). m.path) (filter (λ (m : Maker). is_none m.job) jobs.makers)) q ≡ true → IsSummed image sights j q

-- so was each input of these jobs
abbrev pub AreSummedUnowned : World → Image → Jobs → List Sight → Type 0
AreSummedUnowned w image jobs sights = Each (λ (j : Job). Each (IsSummedUnowned w image jobs sights j) (in_paths j.recipe)) jobs.jobs

-- the paths of which something is seen
abbrev pub are_paths : List Sight → List Path
are_paths sights = map (λ (s : Sight). s.path) sights

-- the fault of digesting, as that of a call
abbrev pub work_fault : SumFault → WorkFault
work_fault NoDevice = Failed
work_fault NoSpace = OutOfMemory

-- the fault of a call, as that of looking
abbrev pub look_fault : WorkFault → LookFault
look_fault Failed = Device
look_fault OutOfMemory = NoMemory

-- the device failed
abbrev pub look_failed : {T : Type 0} → Result T LookFault → Bool
look_failed (Ok t) = false
look_failed (Err Device) = true
look_failed (Err NoMemory) = false
