-- Where no child runs no mark is left out.
use Rattle.std.proofs.Common.{◌≡◌, Bool, false, ◌&&◌, List, [], ◌∷◌, find, option_map, refl, ap, inl, inr, ◌∙◌}
use Rattle.std.specs.Prelude.{bytes_eq}
use Rattle.std.specs.List.{list_any}
use Rattle.smk_world.specs.World.{out_paths}
use Rattle.smk_world.specs.Trees.{Path, Act, among}
use Rattle.smk_record.specs.declared.record.Record.{Record}
use Rattle.smk_flow.specs.declared.job.Job.{Job}
use Rattle.smk_store.specs.Images.{Image}
use Rattle.smk_store.specs.Trust.{Versions, none_eased, any_source, Clear, Chain, Link}
use Rattle.smk_store.specs.Soundness.{Sound}
use Rattle.smk_trigger.specs.declared.reason.State.{State}
use Rattle.smk_trigger.specs.JobStates.{is_restore}
use Rattle.smk_pick.specs.declared.settings.Settings.{Settings}
use Rattle.smk_plan.specs.States.{Plan, Progress, is_restored, job_path, test_some}
use Rattle.smk_laws_plan.specs.Current.{eased_by}
use Rattle.smk_laws_plan.proofs.CurrentLists.{clash_of}

pub none_restored :
    (image : Image) (settings : Settings) (progress : Progress) (plan : Plan) → progress.running ≡ [] → (h : Path) →
    is_restored image settings progress plan h ≡ false
none_restored image settings progress plan rest h =
    ap (λ (r : List (Path × State)). list_any (λ (j : Job). test_some is_restore (option_map (λ (e : Path × State). e.1) (find (λ (e : Path × State). bytes_eq e.0 (job_path j)) r)) && among (out_paths j.recipe) h) plan.jobs) rest
    ∙ none plan.jobs
  where
    none : (js : List Job) → list_any (λ (j : Job). false) js ≡ false
    none [] = refl
    none (j ∷ js) = none js

module _ (image : Image) (left_out : Path → Bool) (none : (h : Path) → left_out h ≡ false) where
  clear_none : (h : Path) (r : Record) → Clear image (eased_by image left_out) h r → Clear image none_eased h r
  clear_none h r (reads, inl m) = (reads, inl m)
  clear_none h r (reads, inr e) = absurd (clash_of (left_out h) e.0 (none h))

  chain_none : (r : Record) → Chain image (eased_by image left_out) any_source r → Chain image none_eased any_source r
  chain_none r (Link s place by times speaks chains) =
      Link s place by times
      (λ q m i. let k = speaks q m i in
      (record { no_source = k.0.no_source; holder = k.0.holder; clear = clear_none (place q m) (by q m) k.0.clear }, k.1))
      (λ q m i. chain_none (by q m) (chains q m i))

  pub sound_none : (act : Act) (H : Versions) → Sound act H image none_eased → Sound act H image (eased_by image left_out)
  sound_none act H sound =
      record {
        has_sources = sound.has_sources;
        has_recorded = λ p r q s clear i. sound.has_recorded p r q s (clear_none p r clear) i;
        holds = λ p r reads unmarked chain whole. sound.holds p r reads unmarked (chain_none r chain) whole;
        none_nested = sound.none_nested;
      }
