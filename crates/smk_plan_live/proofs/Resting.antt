-- Where no child runs, what is known and seen of an image agrees with it at this moment.
use Rattle.std.proofs.Common.{◌≡◌, Bool, true, false, not, ◌&&◌, List, [], ◌∷◌, Some, None, refl, sym, ap, ◌∙◌}
use Rattle.std.specs.Prelude.{if◌then◌else◌}
use Rattle.std.proofs.Math.Bool.{and-true}
use Rattle.smk_base.proofs.Under.{never_both}
use Rattle.smk_world.specs.World.{in_paths}
use Rattle.smk_world.specs.Trees.{Path, Each, among, is_path_text}
use Rattle.smk_flow.specs.declared.job.Job.{Job}
use Rattle.smk_store.specs.declared.store.Entry.{Entry}
use Rattle.smk_store.specs.Images.{Image, is_covered, is_file, is_known, is_source}
use Rattle.smk_store.specs.Loading.{entry_at}
use Rattle.smk_store.specs.Stores.{is_covered_in}
use Rattle.smk_chain.specs.declared.jobs.Jobs.{Jobs}
use Rattle.smk_trigger.specs.declared.reason.State.{State}
use Rattle.smk_pick.specs.declared.settings.Settings.{Settings}
use Rattle.smk_plan.specs.States.{Progress, is_restored}
use Rattle.smk_plan_facts.specs.Facts.{told_sources}
use Rattle.smk_plan_facts.proofs.Stamped.{kept_is, mark_is}
use Rattle.smk_plan_facts.proofs.Tests.{each_of}
use Rattle.smk_plan_states.specs.Judged.{with_states}
use Rattle.smk_plan_states.proofs.Tests.{any_never}
use Rattle.smk_plan_live.specs.Agreeing.{AgreeAtRest, AreTold, is_source_by, note_of}

each_all : (P : Path → Type 0) → ((q : Path) → P q) → (qs : List Path) → Each P qs
each_all P h [] = tt
each_all P h (q ∷ qs) = (h q, each_all P h qs)

note_told : (b : Bool) (e : Entry) → note_of (if b then Some e else None) ≡ true → e.noted ≡ true
note_told true e h = h
note_told false e h = absurd (never_both false h refl)

module _ (image : Image) (settings : Settings) (jobs : Jobs) (q : Path) where
  abbrev restored_by : List Path → List (Path × State) → Bool
  restored_by begun running = is_restored image settings (record { begun = begun; running = running }) (with_states jobs []) q

  -- nothing is being restored
  none_restored : (progress : Progress) → progress.running ≡ [] → is_restored image settings progress (with_states jobs []) q ≡ false
  none_restored progress none = ap (restored_by progress.begun) none ∙ any_never jobs.jobs

pub agrees_at_rest : AgreeAtRest
agrees_at_rest image settings progress jobs known seen none a =
    record {
      named = a.named;
      recorded = a.recorded;
      kept = kept_is image known a.stored;
      marks = λ p.
          mark_is image known a.stored p ∙ sym (and-true (image.marked p))
          ∙ ap (λ b. image.marked p && not b) (sym (none_restored image settings jobs p progress none));
      notes = λ p noted. note_told (is_known image p) (entry_at image p) (sym (ap note_of (a.stored.entries p)) ∙ noted);
      covered = each_all (λ p. is_covered_in known p ≡ is_covered image p) a.stored.covered (told_sources jobs.makers);
      sighted = a.sighted;
      summed = a.summed;
      served = a.served;
      made = a.made;
      read =
          each_of (λ (j : Job). Each (λ q. is_source image q ≡ true → among (told_sources jobs.makers) q ≡ true) (in_paths j.recipe))
          (λ (j : Job). AreTold image jobs known (in_paths j.recipe))
          (λ j. each_of (λ q. is_source image q ≡ true → among (told_sources jobs.makers) q ≡ true)
          (λ q. is_source_by image known q ≡ true → among (told_sources jobs.makers) q ≡ true) by_known (in_paths j.recipe))
          jobs.jobs a.read;
      asked =
          each_of (λ q. is_source image q ≡ true → among (told_sources jobs.makers) q ≡ true)
          (λ q. is_source_by image known q ≡ true → among (told_sources jobs.makers) q ≡ true) by_known
          settings.targets a.asked;
    }
  where
    by_known :
        (q : Path) → (is_source image q ≡ true → among (told_sources jobs.makers) q ≡ true) → is_source_by image known q ≡ true →
        among (told_sources jobs.makers) q ≡ true
    by_known q told h = told (sym (ap (λ b. is_path_text q && (is_file image q && not b)) (a.stored.covered q)) ∙ h)
