-- What a run keeps at a stand is kept at another one with the same children.
use Rattle.std.proofs.Common.{◌≡◌, ◌≢◌, true, false, List, map, sym, ap, subst, ◌∙◌, Option, None}
use Rattle.smk_world.specs.declared.event.Event.{Event}
use Rattle.smk_world.specs.World.{World}
use Rattle.smk_world.specs.Trees.{IsIn, Path, among}
use Rattle.smk_store.specs.Images.{is_source}
use Rattle.smk_chain.specs.declared.jobs.Jobs.{Jobs}
use Rattle.smk_chain.specs.Derive.{Derived, derivation}
use Rattle.smk_plan_facts.specs.Facts.{told_sources}
use Rattle.smk_job.specs.Jobs.{Underway}
use Rattle.smk_plan_live.specs.Lives.{IsLive}
use Rattle.smk_drive.specs.Moments.{Begun, Rules, seen}
use Rattle.smk_drive_step.specs.declared.children.Child.{Child}
use Rattle.smk_drive_course.specs.Stands.{Stand}
use Rattle.smk_drive_course.specs.Steps.{Deed}
use Rattle.smk_laws_moments.specs.Staying.{IsListed}
use Rattle.smk_laws_turns.specs.Hubs.{AreChildrenOf, AreSpaced, IsAt, IsCountOf, IsCrew, IsHome, IsKept, IsOurs, IsRecordable, Parts, child_of}

-- what is so of the jobs of a run
record AreRunJobs (rules : Rules) (entry : World) (jobs : Jobs) (begun : List Begun) (places : List (Option Child)) : Type 0 where
  derived : derivation rules.flow (seen rules entry) jobs.lists rules.settings.targets ≡ Derived jobs.jobs
  sourced : (p : Path) → among (told_sources jobs.makers) p ≡ true → is_source (seen rules entry) p ≡ true
  planned : (b : Begun) → IsIn begun b → IsIn jobs.jobs b.job
  listed : (b : Begun) → IsIn begun b → IsListed (seen rules entry) jobs.lists b.job
  theirs : AreChildrenOf jobs.jobs begun places

-- what is so of the children of a run
record AreRunChildren (rules : Rules) (entry w : World) (runs : List Underway) (places : List (Option Child)) : Type 0 where
  crew : IsCrew places runs
  spaced : AreSpaced runs
  underway : (g : Underway) → IsIn runs g → IsRecordable (seen rules entry) g
  children : w.children ≡ map child_of runs

-- The stand has the same children and the same plan's jobs.
pub record IsFollowed (k l : Parts) (s t : Stand) (w v : World) : Type 0 where
  pub alive : IsLive l.live
  pub settings : l.live.settings ≡ k.live.settings
  pub jobs : l.live.base.jobs ≡ k.live.base.jobs
  pub places : l.places ≡ k.places
  pub begun : t.begun ≡ s.begun
  pub runs : t.runs ≡ s.runs
  pub children : v.children ≡ w.children
  pub halted : l.halt.fault ≡ t.halted
  pub waits : l.halt.only_waits ≡ t.broken
  pub faulted : t.broken ≡ true → t.halted ≢ None

module _ (rules : Rules) (entry : World) (k l : Parts) (s t : Stand) (w v : World) (before after : List Event) (deeds : List Deed) where
  pub at_on :
      IsAt rules entry k s w before deeds →
      IsFollowed k l s t w v →
      IsHome entry v →
      (t.broken ≡ false → IsOurs rules entry k.live.base.jobs.jobs v) →
      (t.halted ≡ None → IsCountOf rules.flow deeds l.tally) →
      (t.halted ≡ None → IsKept rules entry l t v after) → IsAt rules entry l t v after deeds
  at_on at on home ours counted kept =
      let jobs : AreRunJobs rules entry l.live.base.jobs t.begun l.places =
      subst (λ js. AreRunJobs rules entry js t.begun l.places) (sym on.jobs)
      (subst (λ bs. AreRunJobs rules entry k.live.base.jobs bs l.places) (sym on.begun)
      (subst (AreRunJobs rules entry k.live.base.jobs s.begun) (sym on.places)
      (record { derived = at.derived; sourced = at.sourced; planned = at.planned; listed = at.listed; theirs = at.theirs }))) in
      let children : AreRunChildren rules entry v t.runs l.places =
      subst (λ rs. AreRunChildren rules entry v rs l.places) (sym on.runs)
      (subst (AreRunChildren rules entry v s.runs) (sym on.places)
      (record { crew = at.crew; spaced = at.spaced; underway = at.underway; children = on.children ∙ at.children })) in
      record {
        live = on.alive;
        settings = on.settings ∙ at.settings;
        derived = jobs.derived;
        home = home;
        ours = λ whole. subst (λ (js : Jobs). IsOurs rules entry js.jobs v) (sym on.jobs) (ours whole);
        sourced = jobs.sourced;
        planned = jobs.planned;
        listed = jobs.listed;
        crew = children.crew;
        spaced = children.spaced;
        underway = children.underway;
        children = children.children;
        theirs = jobs.theirs;
        halted = on.halted;
        waits = on.waits;
        starts = ap (λ (bs : List Begun). map (λ (b : Begun). b.job) bs) on.begun ∙ at.starts;
        counted = counted;
        faulted = on.faulted;
        kept = kept;
      }
