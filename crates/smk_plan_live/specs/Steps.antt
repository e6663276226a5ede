-- What is told anew of a base: of all jobs, or once what is known and seen has changed at the outputs of one.
use Rattle.std.specs.Prelude.{◌≡◌, ◌==◌, Bool, true, false, ℕ, List, [], map, length, slice_set, Option, Some, None}
use Rattle.std.specs.List.{list_all, slice_get}
use Rattle.smk_world.specs.Trees.{Path, outs_of}
use Rattle.smk_world.specs.World.{out_paths}
use Rattle.smk_flow.specs.declared.job.Job.{Job}
use Rattle.smk_store.specs.declared.store.Entry.{Entry}
use Rattle.smk_trigger.specs.declared.reason.State.{State}
use Rattle.smk_pick.specs.declared.settings.Settings.{Settings}
use Rattle.smk_plan.specs.declared.seen.Sight.{Sight}
use Rattle.smk_plan_facts.specs.Telling.{flags_but, forced_by, has_path_texts, is_made_of, outputs_in}
use Rattle.smk_plan.specs.declared.plan.Plan.{Plan}
use Rattle.smk_plan_states.specs.declared.standing.Last.{Last}
use Rattle.smk_plan_states.specs.declared.standing.Ranking.{Ranking}
use Rattle.smk_plan_states.specs.Rows.{FitOwn}
use Rattle.smk_plan_states.specs.Served.{AreServed}
use Rattle.smk_plan_states.specs.Standing.{StandsBy}
use Rattle.smk_plan_states.specs.Stays.{Told as TellsRows}
use Rattle.smk_plan_states.specs.Tables.{IsTableOf}
use Rattle.smk_plan_table.specs.declared.planning.Ranked.{Ranked}
use Rattle.smk_plan_table.specs.declared.suspects.Suspect.{Suspect}
use Rattle.smk_plan_table.specs.Parts.{IsSuspectOf}
use Rattle.smk_plan_table.specs.Plans.{plan_by}
use Rattle.smk_plan_live.specs.declared.base.Base.{Base}
use Rattle.smk_plan_live.specs.declared.beginning.Start.{Start}
use Rattle.smk_plan_live.specs.Live.{LivePlan}
use Rattle.smk_plan_live.specs.declared.new.Kept.{Kept}
use Rattle.smk_plan_live.specs.declared.new.Told.{Told}
use Rattle.smk_plan_live.specs.declared.next.Change.{Change}
use Rattle.smk_plan_live.specs.declared.next.Next.{Next}
use Rattle.smk_plan_live.specs.declared.spending.Loss.{Loss}
use Rattle.smk_plan_live.specs.declared.phase.Phase.{Phase}
use Rattle.smk_plan_live.specs.declared.phase.Phase.TheVariants.{Running}
use Rattle.smk_plan_live.specs.Now.{known_now, seen_now}
use Rattle.smk_plan_live.specs.Same.{AreSameBut, readers_of}
use Rattle.smk_plan_live.specs.Carried.{begun_entries, gone_sights, has_name, sight_but}
use Rattle.smk_plan_live.specs.Kept.{own_now, told_by_flags}
use Rattle.smk_plan_live.specs.Making.{AreMadeBy}
use Rattle.smk_plan_live.specs.Lives.{AreFlagsNow, AreNamed, AreRanked, IsLive, IsNow, IsSound}
use Rattle.smk_plan_live.specs.Phases.{begun_in}

-- ## All jobs

-- This is what is kept of all jobs: how their paths hang together, what is so of them as flags, and which makers name them.
pub record IsKept (settings : Settings) (b : Base) (kept : Kept) : Type 0 where
  pub texts : list_all has_path_texts b.jobs.jobs ≡ true
  pub table : IsTableOf b.jobs settings.targets kept.table
  pub flags : AreFlagsNow settings b kept.flags
  pub made : AreMadeBy b.jobs.jobs b.jobs.makers kept.flags.made
  pub readers : IsSound b → AreServed b.jobs settings.targets → kept.readers.items ≡ readers_of b.jobs.jobs

-- the ranks are those by what is kept
abbrev pub StandsKept : Base → Kept → Ranking → Type 0
StandsKept b kept ranking = StandsBy kept.table (told_by_flags b kept.flags.outputs kept.flags.makers kept.flags.forced) ranking

-- the plan by them
abbrev pub plan_with : Base → Kept → Ranked → Plan
plan_with b kept ranked = plan_by kept.table (told_by_flags b kept.flags.outputs kept.flags.makers kept.flags.forced) ranked

-- The same, and the plan by it.
pub record IsToldAnew (settings : Settings) (b : Base) (told : Told) : Type 0 where
  pub kept : IsKept settings b told.kept
  pub targets : length told.ranked.current ≡ length settings.targets
  pub now : IsNow settings b (plan_with b told.kept told.ranked) told.held
  pub standing : AreServed b.jobs settings.targets → StandsKept b told.kept told.ranked.ranking
  pub ranked : AreRanked settings b told.ranked.ranking (plan_with b told.kept told.ranked)

-- ## One job

-- The base has changed at the outputs of the job of the number n alone, which is forced or not from now on; other jobs are as forced as they were.
pub record IsChanged (settings : Settings) (old new : Base) (n : ℕ) (forced : Bool) : Type 0 where
  pub sound : IsSound new
  pub named : AreNamed new
  pub same : (j : Job) → slice_get new.jobs.jobs n ≡ Some j → AreSameBut (outs_of j.recipe) (known_now old) (known_now new) (seen_now old) (seen_now new)
  pub its : AreServed new.jobs settings.targets → (j : Job) → slice_get new.jobs.jobs n ≡ Some j → forced_by settings (begun_in new.jobs.jobs new.phases) j ≡ forced
  pub others :
      AreServed new.jobs settings.targets → (m : ℕ) (k : Job) → (m ≡ n → ⊥) → slice_get new.jobs.jobs m ≡ Some k →
      forced_by settings (begun_in new.jobs.jobs new.phases) k ≡ forced_by settings (begun_in old.jobs.jobs old.phases) k
  -- no other job runs, or with another state at its beginning, than before
  pub running : (m : ℕ) → (m == n) ≡ false → slice_get new.began m ≡ slice_get old.began m

-- the jobs have come so far, and this is what is known and was seen of their outputs
abbrev pub moved : List Phase → List (Option State) → List (Option (List (Option Entry))) → List (Option (List (Option Sight))) → Base → Base
moved phases began entries sights b = record b { phases = phases; began = began; entries = entries; sights = sights }

-- The base of the plan has changed so already, and all else that it keeps is as it was before that, when this was its plan.
pub record IsAhead (p : LivePlan) (n : ℕ) (forced : Bool) : Type 0 where
  pub phases : List Phase
  pub began : List (Option State)
  pub entries : List (Option (List (Option Entry)))
  pub sights : List (Option (List (Option Sight)))
  pub plan : Plan
  pub live : IsLive (record p { base = moved phases began entries sights p.base; plan = plan })
  pub changed : IsChanged p.settings (moved phases began entries sights p.base) p.base n forced

abbrev pub or_no_numbers : Option (List ℕ) → List ℕ
or_no_numbers None = []
or_no_numbers (Some row) = row

-- the numbers of the readers of the job of the number n
abbrev pub readers_at : List (List ℕ) → ℕ → List ℕ
readers_at readers n = or_no_numbers (slice_get readers n)

-- This is told anew of the job of the number n, which is forced or not: what is so of it as flags.
pub record IsChangeOf (p : LivePlan) (n : ℕ) (forced : Bool) (change : Change) : Type 0 where
  pub number : change.number ≡ n
  pub job : Job
  pub is : slice_get p.base.jobs.jobs n ≡ Some job
  pub outputs : change.outputs ≡ outputs_in (known_now p.base) (seen_now p.base) job
  pub makers : change.makers ≡ flags_but (is_made_of (known_now p.base) (seen_now p.base) job) n p.base.jobs.makers p.flags.makers
  pub suspect : Suspect
  pub doubted : IsSuspectOf (known_now p.base) (seen_now p.base) p.settings.bounds job suspect
  pub suspects : change.suspects.items ≡ slice_set p.flags.suspects n suspect
  pub force : change.forced.items ≡ slice_set p.flags.forced n forced

-- This is what the plan keeps of its ranks before a step of the job of the number n.
pub record IsLast (p : LivePlan) (n : ℕ) (last : Last) : Type 0 where
  pub ranking : last.ranking.now ≡ p.ranking
  pub job : last.job ≡ n
  pub readers : last.readers.now ≡ readers_at p.readers.items n

-- what is told of the jobs by what the plan keeps and what is told anew of it
abbrev pub told_next : LivePlan → Change → TellsRows
told_next p change = told_by_flags p.base (slice_set p.flags.outputs change.number change.outputs) change.makers change.forced.items

-- the ranks are those by it
abbrev pub StandsNext : LivePlan → Change → Ranking → Type 0
StandsNext p change ranking = StandsBy p.table (told_next p change) ranking

-- the plan by it
abbrev pub plan_next : LivePlan → Change → Ranked → Plan
plan_next p change ranked = plan_by p.table (told_next p change) ranked

-- This is new where the base of the plan has changed at the outputs of the job of the number n, which is forced or not: what is told anew, and the plan by it.
pub record IsNext (p : LivePlan) (n : ℕ) (forced : Bool) (next : Next) : Type 0 where
  pub change : IsChangeOf p n forced next.change
  pub own : AreServed p.base.jobs p.settings.targets → FitOwn next.own.items (own_now p.settings p.base)
  pub targets : length next.ranked.current ≡ length p.settings.targets
  pub now : IsNow p.settings p.base (plan_next p next.change next.ranked) next.held
  pub standing : AreServed p.base.jobs p.settings.targets → StandsNext p next.change next.ranked.ranking
  pub ranked : AreRanked p.settings p.base next.ranked.ranking (plan_next p next.change next.ranked)

-- ## A job that is closed

-- the plan is sound, and the job, whose number is n, runs
pub record IsRunningIn (p : LivePlan) (n : ℕ) : Type 0 where
  pub live : IsLive p
  pub runs : slice_get p.base.phases n ≡ Some Running

-- one entry and one sight for each output of the job, in their order, each sight with its output's path
pub record AreOfOutputs (entries : List Entry) (sights : List Sight) (j : Job) : Type 0 where
  pub each : length entries ≡ length (out_paths j.recipe)
  pub seen : map (λ (s : Sight). s.path) sights ≡ out_paths j.recipe

-- ## A job that begins

-- The job of the number has an output to be named by, and begins with the state that it has; its outputs are marked then, and nothing stands at them.
pub record IsStart (b : Base) (states : List State) (n : ℕ) (start : Start) : Type 0 where
  pub job : Job
  pub is : slice_get b.jobs.jobs n ≡ Some job
  pub named : has_name job ≡ true
  pub had : slice_get states n ≡ Some start.state
  pub entries : start.rows.entries ≡ begun_entries b job
  pub sights : start.rows.sights ≡ gone_sights job

-- ## An output that is removed

-- What is lost with the output of the job of the number n: the job is as forced as it was, nothing is seen at the path any more, and elsewhere what was seen.
pub record IsLoss (gone : Path) (n : ℕ) (p : LivePlan) (loss : Loss) : Type 0 where
  pub number : loss.number ≡ n
  pub job : Job
  pub is : slice_get p.base.jobs.jobs n ≡ Some job
  pub forced : slice_get p.flags.forced n ≡ Some loss.forced
  pub sights : loss.sights ≡ map (sight_but p.base gone) (out_paths job.recipe)
