-- Which outputs are spent and may go, by what is told of paths and jobs.
use Rattle.std.specs.Prelude.{◌≡◌, ℕ, Bool, true, false, ◌&&◌, not, List, [], ◌∷◌, filter, zip, bytes_eq, slice_set, if◌then◌else◌, Option, Some, None, option_map}
use Rattle.std.specs.List.{flat_map, list_all, list_any}
use Rattle.std.specs.Option.{option_and_then}
use Rattle.smk_world.specs.declared.event.Stat.{Stat}
use Rattle.smk_world.specs.declared.event.Stat.TheVariants.{Nothing, File, Folder}
use Rattle.smk_world.specs.Trees.{Path}
use Rattle.smk_record.specs.declared.record.Member.{Member}
use Rattle.smk_record.specs.Records.{members_of, same_flag, same_member}
use Rattle.smk_flow.specs.declared.job.Job.{Job}
use Rattle.smk_store.specs.declared.store.Entry.{Entry}
use Rattle.smk_store.specs.declared.store.Kept.{Kept}
use Rattle.smk_store.specs.Images.{readable}
use Rattle.smk_store.specs.Stores.{entry_of}
use Rattle.smk_trigger.specs.declared.reason.State.{State}
use Rattle.smk_plan.specs.declared.seen.Sight.{Sight}
use Rattle.smk_plan.specs.declared.wholes.Wholes.{Wholes}
use Rattle.smk_plan.specs.Sights.{sight_at}
use Rattle.smk_plan.specs.States.{is_spent, staged, test_some}
use Rattle.smk_plan_states.specs.declared.lines.Input.{Input}
use Rattle.smk_plan_states.specs.declared.lines.Line.{Line}
use Rattle.smk_plan_states.specs.declared.lines.Temp.{Temp}
use Rattle.smk_plan_states.specs.declared.ranks.Rank.{Rank}
use Rattle.smk_plan_states.specs.declared.ranks.Rank.TheVariants.{Open as AtOpen, Dirty as AtDirty, Restore as AtRestore, Clean as AtClean}
use Rattle.smk_plan_states.specs.Judged.{Judging, any_held_back}
use Rattle.smk_plan_states.specs.Ranks.{is_clean_rank}
use Rattle.smk_plan_live.specs.Live.{LivePlan}
use Rattle.smk_plan_live.specs.Lives.{AreWhole, IsLive}
use Rattle.smk_plan_live.specs.Now.{known_now, seen_now}
use Rattle.smk_drive_pick.specs.Told.{has_flag}
use Rattle.smk_drive_pick.specs.Picking.{AreToldOf, plan_of}

-- ## What stands at a path

-- each of these members is listed
abbrev pub are_listed : List Member → List Member → Bool
are_listed listed members = list_all (λ (m : Member). list_any (same_member m) listed) members

abbrev pub were_listed : List Member → Option (List Member) → Bool
were_listed listed members = test_some (are_listed listed) members

-- a file; or a folder in which nothing is but what is listed
abbrev pub is_loose : List Member → Option (List Member) → Stat → Bool
is_loose listed members Nothing = false
is_loose listed members (File time read_only) = true
is_loose listed members Folder = were_listed listed members

-- what the record of a directory lists
abbrev pub listed_by : Option Kept → List Member
listed_by kept = members_of (option_and_then readable kept)

-- so it was seen, beside what is kept of the path
abbrev pub was_loose : Option Kept → Option Sight → Bool
was_loose kept seen = test_some (λ (s : Sight). is_loose (listed_by kept) s.members s.stat) seen

-- something stands there, and nothing under it but what its record lists, by what is known and was seen now
abbrev pub may_go : LivePlan → Path → Bool
may_go live p = was_loose (option_map (λ (e : Entry). e.kept) (entry_of (known_now live.base) p)) (sight_at (seen_now live.base) p)

-- the outputs that are spent by the kept plan and may go, in plan order
abbrev pub spent_now : Judging → LivePlan → List Path
spent_now at live =
    flat_map
    (λ (e : Job × State). filter (λ p. is_spent at.image at.settings at.progress (plan_of live) e p && may_go live p) e.0.temps)
    (staged (plan_of live))

-- These are the outputs that are spent and may go, where it is told rightly whether a job is held back.
abbrev pub AreSpentIn : LivePlan → Wholes → List Path → Type 0
AreSpentIn live wholes found =
    (at : Judging) → AreToldOf at live wholes → live.held ≡ any_held_back at live.base.jobs live.plan.states → found ≡ spent_now at live

-- So they are by what is whole now.
pub record AreSpentNow (live : LivePlan) (found : List Path) : Type 0 where
  pub wholes : Wholes
  pub whole : AreWhole live.base wholes
  pub spent : AreSpentIn live wholes found

-- the member of this name, a folder or a file
abbrev pub is_named_member : Bool → Path → Member → Bool
is_named_member folder q m = same_flag folder m.folder && bytes_eq q m.name

-- a folder or a file that passes the test of its kind
abbrev pub is_listed_in : (Path → Bool) → (Path → Bool) → Member → Bool
is_listed_in folders files m = if m.folder then folders m.name else files m.name

-- ## Spent outputs

-- a rank of a job that doesn't keep all others from being spent
abbrev pub is_done_with : Rank → Bool
is_done_with AtOpen = false
is_done_with AtDirty = true
is_done_with AtRestore = false
is_done_with AtClean = true

-- ## What is needed

-- the path of the link is
abbrev pub with_need : List Bool → Option ℕ → List Bool
with_need flags None = flags
with_need flags (Some n) = slice_set flags n true

-- the inputs are
abbrev pub need_each : List Bool → List Input → List Bool
need_each flags [] = flags
need_each flags (i ∷ inputs) = need_each (with_need flags i.link) inputs

-- those of the job are, unless it is Clean
abbrev pub need_of : List Bool → Line × Rank → List Bool
need_of flags e = if is_clean_rank e.1 then flags else need_each flags e.0.inputs

abbrev pub need_all : List Bool → List (Line × Rank) → List Bool
need_all flags [] = flags
need_all flags (e ∷ es) = need_all (need_of flags e) es

-- ## What is spent

module _ (live : LivePlan) (needed : List Bool) where
  -- the output is neither a target nor needed, and may go
  abbrev pub is_ripe : Path × Temp → Bool
  is_ripe e = not e.1.target && (not (has_flag needed e.1.link) && may_go live e.0)

  abbrev pub ripe_of : Path × Temp → List Path
  ripe_of e = if is_ripe e then e.0 ∷ [] else []

  abbrev pub ripe_paths : List (Path × Temp) → List Path
  ripe_paths es = flat_map ripe_of es

  -- the outputs of the job that are spent, where nothing else keeps them
  abbrev pub ripe_by : Job × (Line × Rank) → List Path
  ripe_by e = if is_clean_rank e.1.1 && not e.1.0.feeds then ripe_paths (zip e.0.temps e.1.0.temps) else []

  abbrev pub ripe_in : List (Job × (Line × Rank)) → List Path
  ripe_in es = flat_map ripe_by es

-- These are the outputs that are spent and may go, where nothing keeps all of them.
abbrev pub AreRipeOf : LivePlan → List Path → Type 0
AreRipeOf live found =
    IsLive live → list_all is_done_with live.ranking.last.items ≡ true → live.held ≡ false → (wholes : Wholes) → AreSpentIn live wholes found
