-- A plan that is kept agrees with the folder once new jobs have come.
use Rattle.std.proofs.Common.{◌≡◌, ℕ, true, ◌&&◌, not, List, [], ◌∷◌, ◌++◌, Option, sym, ap, subst, ◌∙◌}
use Rattle.smk_world.specs.Trees.{Each, Path, among, is_path_text}
use Rattle.smk_world.specs.World.{World, in_paths}
use Rattle.smk_record.specs.declared.record.Record.{Record}
use Rattle.smk_flow.specs.declared.job.Job.{Job}
use Rattle.smk_flow.specs.Flows.{Flow}
use Rattle.smk_store.specs.Images.{is_covered, is_file, is_source, seen}
use Rattle.smk_store.specs.Stores.{Known, is_covered_in}
use Rattle.smk_chain.specs.declared.jobs.Jobs.{Jobs}
use Rattle.smk_chain.specs.Derive.{Derived, Listings, derivation}
use Rattle.smk_pick.specs.declared.settings.Settings.{Settings}
use Rattle.smk_plan.specs.declared.seen.Sight.{Sight}
use Rattle.smk_plan_facts.specs.Facts.{told_sources}
use Rattle.smk_plan_facts.proofs.Tests.{each_of}
use Rattle.smk_plan_live.specs.declared.base.Base.{Base}
use Rattle.smk_plan_live.specs.Live.{LivePlan}
use Rattle.smk_plan_live.specs.Agreeing.{AreTold, is_source_by}
use Rattle.smk_plan_live.specs.Changes.{IsGrown}
use Rattle.smk_plan_live.specs.Lives.{IsAgreed, IsSound}
use Rattle.smk_plan_live.specs.Now.{known_now}
use Rattle.smk_laws_plan.specs.Current.{IsComplete}
use Rattle.smk_laws_history.proofs.CurrentComplete.{seen_is_complete}
use Rattle.smk_laws_turns.specs.Growing.{IsMoreOf}
use Rattle.smk_laws_turns.specs.Grown.{AreFree, GrowthAgrees}
use Rattle.smk_laws_turns.proofs.Held.{held_known}
use Rattle.smk_laws_turns.proofs.Known.{covered_after, kept_after, marks_after, notes_after}
use Rattle.smk_laws_turns.proofs.Rows.{IsTold, told}
use Rattle.smk_laws_turns.proofs.Seen.{sighted_after, summed_after}
use Rattle.smk_laws_turns.proofs.Staying.{has_output, still, unmade, unnoted}

each_all : (P : Path → Type 0) → ((q : Path) → P q) → (qs : List Path) → Each P qs
each_all P h [] = tt
each_all P h (q ∷ qs) = (h q, each_all P h qs)

-- the new jobs are derived with the listings from before and those that have become known
pub is_now :
    (read : List ℕ → Option Record) (flow : Flow) (settings : Settings) (w : World) (live : LivePlan) (fresh : List Sight) (new : Base) →
    IsMoreOf read flow settings w live new.jobs new.store fresh →
    derivation flow (seen read w) (live.base.jobs.lists ++ live.plan.known) settings.targets ≡ Derived new.jobs.jobs
is_now read flow settings w live fresh new more =
    ap (λ (ls : Listings). derivation flow (seen read w) ls settings.targets) (sym more.lists) ∙ more.ready.derived

module _
    (read : List ℕ → Option Record) (flow : Flow) (settings : Settings) (w : World) (live : LivePlan) (fresh : List Sight) (new : Base)
    (complete : IsComplete (seen read w)) (sound : IsSound live.base) (sound' : IsSound new) (agreed : IsAgreed (seen read w) settings live.base)
    (was : derivation flow (seen read w) live.base.jobs.lists settings.targets ≡ Derived live.base.jobs.jobs)
    (more : IsMoreOf read flow settings w live new.jobs new.store fresh) (grown : IsGrown new.jobs new.store fresh live.base new) where
  is : derivation flow (seen read w) (live.base.jobs.lists ++ live.plan.known) settings.targets ≡ Derived new.jobs.jobs
  is = is_now read flow settings w live fresh new more

  pub told_now : (q : Path) → IsTold live.base new fresh q
  told_now =
      told live.base new fresh sound sound' agreed.served.apart more.ready.served.apart grown
      (still flow (seen read w) live.base.jobs.lists live.plan.known settings.targets live.base.jobs.jobs new.jobs.jobs complete was is)
      (has_output flow (seen read w) live.base.jobs.lists settings.targets live.base.jobs.jobs complete was)

  covered : (q : Path) → is_covered_in (known_now new) q ≡ is_covered (seen read w) q
  covered =
      covered_after (seen read w) settings live.base new fresh sound sound' more.ready.served.apart told_now agreed more.stored
      (unnoted flow (seen read w) (live.base.jobs.lists ++ live.plan.known) settings.targets new.jobs.jobs complete is)
      (held_known live.base sound more.held)

  all_told : (qs : List Path) → Each (λ q. is_source (seen read w) q ≡ true → among (told_sources new.jobs.makers) q ≡ true) qs →
      AreTold (seen read w) new.jobs (known_now new) qs
  all_told =
      each_of (λ q. is_source (seen read w) q ≡ true → among (told_sources new.jobs.makers) q ≡ true)
      (λ q. is_source_by (seen read w) (known_now new) q ≡ true → among (told_sources new.jobs.makers) q ≡ true)
      (λ q tells h. tells (ap (λ b. is_path_text q && (is_file (seen read w) q && not b)) (sym (covered q)) ∙ h))

  pub agrees_now : AreFree w live.base new.jobs → IsAgreed (seen read w) settings new
  agrees_now free =
      record {
        named = agreed.named;
        recorded = agreed.recorded;
        kept =
            kept_after (seen read w) settings live.base new fresh sound sound' more.ready.served.apart told_now agreed more.stored
            (unnoted flow (seen read w) (live.base.jobs.lists ++ live.plan.known) settings.targets new.jobs.jobs complete is)
            (held_known live.base sound more.held);
        marks =
            marks_after (seen read w) settings live.base new fresh sound sound' more.ready.served.apart told_now agreed more.stored
            (unnoted flow (seen read w) (live.base.jobs.lists ++ live.plan.known) settings.targets new.jobs.jobs complete is)
            (held_known live.base sound more.held);
        notes =
            notes_after (seen read w) settings live.base new fresh sound sound' more.ready.served.apart told_now agreed more.stored
            (unnoted flow (seen read w) (live.base.jobs.lists ++ live.plan.known) settings.targets new.jobs.jobs complete is)
            (held_known live.base sound more.held);
        covered = each_all (λ p. is_covered_in (known_now new) p ≡ is_covered (seen read w) p) covered (told_sources new.jobs.makers);
        sighted = sighted_after w (seen read w) settings live.base new fresh told_now agreed free more.saw;
        summed =
            summed_after w (seen read w) settings live.base new fresh told_now agreed free more.saw
            (unmade flow (seen read w) live.base.jobs.lists settings.targets live.base.jobs.jobs complete was) more.ready.read more.summed;
        served = more.ready.served;
        made = more.ready.built;
        read =
            each_of (λ (j : Job). Each (λ q. is_source (seen read w) q ≡ true → among (told_sources new.jobs.makers) q ≡ true) (in_paths j.recipe))
            (λ (j : Job). AreTold (seen read w) new.jobs (known_now new) (in_paths j.recipe)) (λ j. all_told (in_paths j.recipe)) new.jobs.jobs more.ready.read;
        asked = all_told settings.targets more.ready.asked;
      }

-- the jobs and the store are those of the base
pub own_grown : (jobs : Jobs) (store : List Known) (fresh : List Sight) (old new : Base) → IsGrown jobs store fresh old new → IsGrown new.jobs new.store fresh old new
own_grown jobs store fresh old new grown =
    subst (λ ks. IsGrown new.jobs ks fresh old new) (sym grown.stored) (subst (λ js. IsGrown js store fresh old new) (sym grown.now) grown)

pub own_more :
    (read : List ℕ → Option Record) (flow : Flow) (settings : Settings) (w : World) (live : LivePlan) (jobs : Jobs) (store : List Known) (fresh : List Sight)
    (new : Base) → IsGrown jobs store fresh live.base new → IsMoreOf read flow settings w live jobs store fresh →
    IsMoreOf read flow settings w live new.jobs new.store fresh
own_more read flow settings w live jobs store fresh new grown more =
    subst (λ ks. IsMoreOf read flow settings w live new.jobs ks fresh) (sym grown.stored)
    (subst (λ js. IsMoreOf read flow settings w live js store fresh) (sym grown.now) more)

pub growth_agrees : GrowthAgrees
growth_agrees read flow settings w live jobs store fresh base formed sound sound' agreed was more grown free =
    agrees_now read flow settings w live fresh base (seen_is_complete read w formed) sound sound' agreed was
    (own_more read flow settings w live jobs store fresh base grown more) (own_grown jobs store fresh live.base base grown)
    (subst (AreFree w live.base) (sym grown.now) free)
