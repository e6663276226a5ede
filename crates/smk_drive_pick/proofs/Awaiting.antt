-- The directories that are told to be awaited are those that jobs await.
use Rattle.std.proofs.Common.{◌≡◌, length, Bool, true, ◌||◌, List, [], ◌∷◌, ◌++◌, map, flat_map, find, refl, sym, ap, ◌∙◌, Option, Some, None}
use Rattle.std.proofs.Common.{option_map}
use Rattle.std.specs.Prelude.{bytes_eq}
use Rattle.std.specs.List.{list_any}
use Rattle.std.specs.Option.{option_and_then}
use Rattle.std.proofs.lemmas.List.Folds.{list_any-append}
use Rattle.std.proofs.Math.Bool.{or-false}
use Rattle.smk_choose.proofs.Preferred.{any_flat}
use Rattle.smk_base.proofs.Places.{same_place}
use Rattle.smk_world.specs.World.{in_paths, out_paths}
use Rattle.smk_world.specs.Trees.{Path, among, folder_over}
use Rattle.smk_flow.specs.declared.job.Job.{Job}
use Rattle.smk_store.specs.Images.{Image}
use Rattle.smk_chain.specs.declared.jobs.Jobs.{Jobs}
use Rattle.smk_chain.specs.declared.jobs.Maker.{Maker}
use Rattle.smk_trigger.specs.declared.reason.State.{State}
use Rattle.smk_pick.specs.declared.settings.Settings.{Settings}
use Rattle.smk_plan.specs.States.{Plan, Progress, awaited, awaits, directory_over, gathers_from, makes, makes_awaited, maker_of, none_or_one, test_some}
use Rattle.smk_plan.specs.Sights.{job_at}
use Rattle.smk_plan_states.specs.declared.lines.Awaited.{Awaited}
use Rattle.smk_plan_states.specs.Lines.{all_spots, awaited_paths, feeds, folder_told, gathered_spot, is_listed, job_of, job_spots, link_to, over_spots, tells_of}
use Rattle.smk_plan_states.specs.Served.{AreServed, IsToldOf}
use Rattle.smk_plan_states.specs.Judged.{with_states}
use Rattle.smk_plan_states.proofs.Tests.{among_append, among_flat, among_once, any_map}
use Rattle.smk_laws_plan.proofs.CurrentLists.{In, find_in, none_some, some_inj}
use Rattle.smk_laws_plan.proofs.PlanStates.{any_same}
use Rattle.smk_drive_pick.proofs.Owners.{each_in, first_found}
use Rattle.smk_drive_pick.proofs.AtHand.{reads_told}

among_one : (o : Option Path) (d : Path) → among (none_or_one o) d ≡ test_some (bytes_eq d) o
among_one None d = refl
among_one (Some x) d = or-false (bytes_eq d x)

pub named : (ps : List Path) (d : Path) → among ps d ≡ list_any (bytes_eq d) ps
named [] d = refl
named (p ∷ ps) d = ap (λ b. bytes_eq d p || b) (named ps d)

-- the directory is that of the spot
abbrev is_spot : Path → Awaited → Bool
is_spot d a = bytes_eq d a.path

module _ (settings : Settings) (J : Jobs) (ss : List State) (each : length ss ≡ length J.jobs) (served : AreServed J settings.targets) where
  abbrev P : Plan
  P = with_states J ss

  abbrev wants_of : Job → List Path
  wants_of j = in_paths j.recipe ++ gathers_from j

  abbrev over_by : Path → Option Path
  over_by q = option_and_then (λ (j : Job). folder_over j.recipe q) (find (λ j. makes j q) J.jobs)

  directory_now : (q : Path) → directory_over P q ≡ none_or_one (over_by q)
  directory_now q = go (maker_of P q) ∙ ap (λ o. none_or_one (option_and_then (λ (j : Job). folder_over j.recipe q) o)) (first_found J.jobs ss q each)
    where
      end : (o : Option Path) → none_or_one o ++ [] ≡ none_or_one o
      end None = refl
      end (Some f) = refl

      go :
          (o : Option (Job × State)) → flat_map (λ (e : Job × State). none_or_one (folder_over e.0.recipe q)) (none_or_one o)
          ≡ none_or_one (option_and_then (λ (j : Job). folder_over j.recipe q) (option_map (λ (e : Job × State). e.0) o))
      go None = refl
      go (Some e) = end (folder_over e.0.recipe q)

  -- the directory that is told to be over the path
  folder_is : (q : Path) → IsToldOf J q → folder_told J q ≡ over_by q
  folder_is q h = go (find (tells_of q) J.makers) refl h.told
    where
      go :
          (o : Option Maker) → find (tells_of q) J.makers ≡ o → option_map (λ (m : Maker). m.job) o ≡ Some h.number →
          option_and_then (λ (m : Maker). option_and_then (λ (j : Job). folder_over j.recipe m.path) (job_of J.jobs m)) o ≡ over_by q
      go None e b = absurd (none_some None h.number refl b)
      go (Some m) e b =
          ap (λ p. option_and_then (λ (j : Job). folder_over j.recipe p) (job_of J.jobs m)) (same_place m.path q (find_in (tells_of q) J.makers m e).1)
          ∙ ap (λ n. option_and_then (λ (j : Job). folder_over j.recipe q) (option_and_then (job_at J.jobs) n)) (some_inj m.job h.number b)
          ∙ sym (ap (λ o. option_and_then (λ (j : Job). folder_over j.recipe q) o) h.right)

  over_is : (d q : Path) → IsToldOf J q → list_any (is_spot d) (over_spots J q) ≡ among (directory_over P q) d
  over_is d q h = spots (folder_told J q) ∙ ap (test_some (bytes_eq d)) (folder_is q h) ∙ sym (ap (λ ps. among ps d) (directory_now q) ∙ among_one (over_by q) d)
    where
      spots :
          (o : Option Path) →
          list_any (is_spot d) (none_or_one (option_map (λ f. record { path = f; link = link_to J.makers q; over = true; listed = is_listed J f }) o))
          ≡ test_some (bytes_eq d) o
      spots None = refl
      spots (Some f) = or-false (bytes_eq d f)

  spots_are : (d : Path) (j : Job) → In j J.jobs → list_any (is_spot d) (job_spots J j) ≡ among (awaits P j) d
  spots_are d j here =
      list_any-append (is_spot d) (map (gathered_spot J) (gathers_from j)) (flat_map (over_spots J) (wants_of j))
      ∙ (λ i. (any_map (is_spot d) (gathered_spot J) (gathers_from j) ∙ sym (named (gathers_from j) d)) i
      || (any_flat (is_spot d) (over_spots J) (wants_of j)
      ∙ any_same (λ q. list_any (is_spot d) (over_spots J q)) (λ q. among (directory_over P q) d) (wants_of j)
      (λ q k. over_is d q (reads_told J 0 J.jobs j q served.reads here k))
      ∙ sym (among_flat (directory_over P) (wants_of j) d)) i)
      ∙ sym (among_append (gathers_from j) (flat_map (directory_over P) (wants_of j)) d)

  module _ (image : Image) (progress : Progress) where
    awaited_is : (d : Path) → among (awaited_paths J settings.targets) d ≡ among (awaited image settings progress P) d
    awaited_is d =
        named (awaited_paths J settings.targets) d
        ∙ any_map (bytes_eq d) (λ (a : Awaited). a.path) (all_spots J settings.targets)
        ∙ list_any-append (is_spot d) (flat_map (job_spots J) J.jobs) (flat_map (over_spots J) settings.targets)
        ∙ (λ i. (any_flat (is_spot d) (job_spots J) J.jobs
        ∙ any_same (λ j. list_any (is_spot d) (job_spots J j)) (λ j. among (awaits P j) d) J.jobs (spots_are d)
        ∙ sym (among_flat (awaits P) J.jobs d)) i
        || (any_flat (is_spot d) (over_spots J) settings.targets
        ∙ any_same (λ q. list_any (is_spot d) (over_spots J q)) (λ q. among (directory_over P q) d) settings.targets
        (λ q k. over_is d q (each_in (IsToldOf J) settings.targets q served.targets k))
        ∙ sym (among_flat (directory_over P) settings.targets d)) i)
        ∙ sym (among_append (flat_map (awaits P) J.jobs) (flat_map (directory_over P) settings.targets) d)
        ∙ sym (among_once (flat_map (awaits P) J.jobs ++ flat_map (directory_over P) settings.targets) d)

    pub feeds_is : (j : Job) → feeds J settings.targets j ≡ makes_awaited image settings progress P j
    feeds_is j = λ i. list_any (λ d. awaited_is d i) (out_paths j.recipe)
