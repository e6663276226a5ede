-- A plan that is kept, as contracts see it.
use Rattle.std.specs.Prelude.{Bool, List, ℕ, Vec}
use Rattle.std.proofs.Common.{Global}
use Rattle.smk_chain.specs.Derive.{Listings}
use Rattle.smk_pick.specs.declared.settings.Settings.{Settings}
use Rattle.smk_plan.specs.declared.plan.Plan.{Plan}
use Rattle.smk_plan_states.specs.declared.standing.Ranking.{Ranking}
use Rattle.smk_plan_states.specs.declared.table.Table.{Table}
use Rattle.smk_plan_states.specs.Standing.{states_by}
use Rattle.smk_plan_live.specs.declared.base.Base.{Base}
use Rattle.smk_plan_live.specs.declared.flags.Flags.{Flags}
use Rattle.smk_plan_live.specs.declared.limits.Limits.{Limits}
use Rattle.smk_plan_live.specs.Kept.{told_by_flags}

-- The parts of the plan, and the plan itself: its states aren't kept, but come of the ranks.
pub record LivePlan : Type 0 where
  pub base : Base
  pub settings : Settings
  pub plan : Plan
  pub ranking : Ranking
  pub held : Bool
  pub table : Table
  pub flags : Flags
  pub readers : Vec (List ℕ) Global
  pub commanded : Bool
  pub limits : Limits

-- the plan by what is kept
abbrev pub plan_kept : Base → Ranking → List Bool → Listings → Table → Flags → Plan
plan_kept base ranking current known table flags =
    record { states = states_by table (told_by_flags base flags.outputs flags.makers flags.forced) ranking; current = current; known = known }

-- what is kept, as contracts see it
abbrev pub seen_as : Base → Settings → Ranking → List Bool → Listings → Bool → Table → Flags → Vec (List ℕ) Global → Bool → Limits → LivePlan
seen_as base settings ranking current known held table flags readers commanded limits =
    record {
      base = base;
      settings = settings;
      plan = plan_kept base ranking current known table flags;
      ranking = ranking;
      held = held;
      table = table;
      flags = flags;
      readers = readers;
      commanded = commanded;
      limits = limits;
    }

-- the same, were this its base
abbrev pub on_base : LivePlan → Base → LivePlan
on_base p base = record p { base = base; plan = plan_kept base p.ranking p.plan.current p.plan.known p.table p.flags }
