-- What was found, in the world before looks that led to where it was found.
use Rattle.std.proofs.Common.{◌≡◌, ◌⊎◌, inl, inr, ◌∙◌, ℕ, true, List, sym, subst, Option, None, Result, Ok, Err, map, filter}
use Rattle.std.specs.Prelude.{IfOk, is_none}
use Rattle.smk_world.specs.declared.event.NodeState.{NodeState}
use Rattle.smk_world.specs.declared.event.NodeState.TheVariants.{Owned}
use Rattle.smk_world.specs.declared.recipe.Out.{Out}
use Rattle.smk_world.specs.World.{World, in_paths}
use Rattle.smk_world.specs.Trees.{Each, Path, among, is_path_text, outs_of}
use Rattle.smk_record.specs.declared.record.Record.{Record}
use Rattle.smk_flow.specs.declared.job.Job.{Job}
use Rattle.smk_flow.specs.Flows.{Flow}
use Rattle.smk_store.specs.Images.{Image, is_source, seen}
use Rattle.smk_store.specs.Loading.{IsStoreOf}
use Rattle.smk_store.specs.Stores.{Known, is_covered_in}
use Rattle.smk_store.specs.Unowned.{IsUnownedUnder}
use Rattle.smk_chain.specs.declared.jobs.Jobs.{Jobs}
use Rattle.smk_chain.specs.declared.jobs.Maker.{Maker}
use Rattle.smk_chain.specs.Derive.{Listings}
use Rattle.smk_chain_sight.specs.Disk.{IsOwnedCovered}
use Rattle.smk_pick.specs.declared.settings.Settings.{Settings}
use Rattle.smk_plan.specs.declared.seen.Sight.{Sight}
use Rattle.smk_plan.specs.Sights.{IsSeenAs}
use Rattle.smk_plan.specs.Summed.{IsSummed}
use Rattle.smk_plan_facts.specs.Facts.{told_sources}
use Rattle.smk_plan_look.specs.Seeing.{AreSeenUnowned, AreSummedUnowned}
use Rattle.smk_plan_live.specs.Live.{LivePlan}
use Rattle.smk_plan_preview.specs.Rounds.{AreReady, HasTooMany, IsRefusedFirst}
use Rattle.smk_plan_preview.proofs.LookedAt.{IsSameFolder, seen_moved}
use Rattle.smk_report.specs.declared.fault.Fault.{Fault}
use Rattle.smk_laws_turns.specs.Growing.{IsMoreRefusal, Refuses, TooMany, are_held, lists_now}
use Rattle.smk_drive_more.specs.declared.looking.More.{More}
use Rattle.smk_drive_more.specs.Found.{HasFound, HasMore, IsFoundBy, IsRefusedWith}

-- ## What children own stays

pub covered_still : (w v : World) (store : List Known) → v.nodes ≡ w.nodes → IsOwnedCovered w store → IsOwnedCovered v store
covered_still w v store same covered =
    subst (λ (n : Path → NodeState). (q : Path) → is_path_text q ≡ true → n q ≡ Owned → is_covered_in store q ≡ true) (sym same) covered

seen_before : (w v : World) (image : Image) (jobs : Jobs) (sights : List Sight) → v.nodes ≡ w.nodes → AreSeenUnowned v image jobs sights → AreSeenUnowned w image jobs sights
seen_before w v image jobs sights same saw =
    record {
      outputs =
          subst (λ (n : Path → NodeState). Each (λ (j : Job). Each (λ (o : Out). IsUnownedUnder n o.path → IsSeenAs image sights o.path) (outs_of j.recipe)) jobs.jobs) same saw.outputs;
      sources = subst (λ (n : Path → NodeState). Each (λ (m : Maker). m.job ≡ None → IsUnownedUnder n m.path → IsSeenAs image sights m.path) jobs.makers) same saw.sources;
    }

summed_before :
    (w v : World) (image : Image) (jobs : Jobs) (sights : List Sight) → v.nodes ≡ w.nodes → AreSummedUnowned v image jobs sights → AreSummedUnowned w image jobs sights
summed_before w v image jobs sights same summed =
    subst
    (λ (n : Path → NodeState).
    Each
    (λ (j : Job).
    Each
    (λ (q : Path).
    IsUnownedUnder n q → among (map (λ (m : Maker). m.path) (filter (λ (m : Maker). is_none m.job) jobs.makers)) q ≡ true → IsSummed image sights j q)
    (in_paths j.recipe)) jobs.jobs)
    same summed

module _ (read : List ℕ → Option Record) (flow : Flow) (settings : Settings) where
  pub found_before : (w v : World) → IsSameFolder w v → (L : Listings) (r : Result More Fault) → HasFound read flow settings v L r → HasFound read flow settings w L r
  found_before w v same L (Ok m) found =
      let image = seen_moved read w v same in
      let at : IsFoundBy read flow settings v m = found in
      record {
        stored = subst (λ i. IsStoreOf i m.store) image at.stored;
        ready = subst (λ i. AreReady flow settings.targets m.jobs.lists i m.jobs) image at.ready;
        sourced = subst (λ (i : Image). (p : Path) → among (told_sources m.jobs.makers) p ≡ true → is_source i p ≡ true) image at.sourced;
        saw = seen_before w v (seen read w) m.jobs m.seen same.nodes (subst (λ i. AreSeenUnowned v i m.jobs m.seen) image at.saw);
        summed = summed_before w v (seen read w) m.jobs m.seen same.nodes (subst (λ i. AreSummedUnowned v i m.jobs m.seen) image at.summed);
      }
  found_before w v same L (Err f) found = λ told.
      subst (λ i. HasTooMany flow settings.targets L i f ⊎ IsRefusedFirst flow settings.targets L i f) (seen_moved read w v same) (found told)

  -- ## What the kept plan is to grow by

  pub more_of :
      (w : World) (live : LivePlan) (L : Listings) (r : Result More Fault) → L ≡ lists_now live → are_held live.base ≡ true → IfOk r (λ m. m.jobs.lists ≡ L) → HasFound read flow settings w L r →
      HasMore read flow settings w live r
  more_of w live L (Ok m) now held lists found =
      let at : IsFoundBy read flow settings w m = found in
      record { lists = lists ∙ now; stored = at.stored; ready = at.ready; sourced = at.sourced; held = held; saw = at.saw; summed = at.summed }
  more_of w live L (Err f) now held lists found = λ told. either (found told)
    where
      with_now : IsRefusedWith read flow settings w L f → IsRefusedWith read flow settings w (lists_now live) f
      with_now h = subst (λ (l : Listings). IsRefusedWith read flow settings w l f) now h

      either : IsRefusedWith read flow settings w L f → IsMoreRefusal read flow settings w live f
      either h = elim (with_now h) [
        | inl many ↦ TooMany many
        | inr first ↦ Refuses first
      ]

-- with the listings that were asked for
pub lists_of : (r : Result More Fault) (jobs : Jobs) (L : Listings) → jobs.lists ≡ L → IfOk r (λ m. m.jobs.lists ≡ jobs.lists) → IfOk r (λ m. m.jobs.lists ≡ L)
lists_of (Ok m) jobs L lists same = same ∙ lists
lists_of (Err f) jobs L lists same = tt
