-- A plan of which no job has begun.
use Rattle.std.proofs.Common.{◌≡◌, ℕ, zero, suc, Bool, true, false, ◌&&◌, ◌||◌, List, [], ◌∷◌, map, Option, Some, None, is_some, refl, sym, ap, subst, ◌∙◌}
use Rattle.std.specs.Prelude.{if◌then◌else◌}
use Rattle.std.specs.List.{list_any, slice_get}
use Rattle.std.specs.BTreeMap.{get_by_text}
use Rattle.std.proofs.Math.Bool.{and-true}
use Rattle.std.proofs.lemmas.Option.{none-some}
use Rattle.smk_base.proofs.Under.{never_both}
use Rattle.smk_world.specs.declared.recipe.Out.{Out}
use Rattle.smk_world.specs.World.{folders_above, in_paths}
use Rattle.smk_world.specs.Trees.{Path, Each, outs_of}
use Rattle.smk_flow.specs.declared.job.Job.{Job}
use Rattle.smk_store.specs.Images.{Image, is_known, stands}
use Rattle.smk_store.specs.Loading.{IsStoreOf, entry_at, entry_in}
use Rattle.smk_store.specs.Stores.{Known, entry_of}
use Rattle.smk_chain.specs.declared.jobs.Jobs.{Jobs}
use Rattle.smk_trigger.specs.JobStates.{is_restore}
use Rattle.smk_pick.specs.declared.settings.Settings.{Settings}
use Rattle.smk_plan.specs.declared.fault.PlanFault.{PlanFault}
use Rattle.smk_plan.specs.declared.seen.Sight.{Sight}
use Rattle.smk_plan.specs.Sights.{IsSeenOf, IsSeenAs, IsSourceSeen, sight_at}
use Rattle.smk_plan.specs.Summed.{AreSummed, IsSummed}
use Rattle.smk_plan.specs.States.{Progress, test_some}
use Rattle.smk_plan_facts.specs.Facts.{having_run}
use Rattle.smk_plan_facts.proofs.Tests.{each_of}
use Rattle.smk_plan_table.specs.Plans.{Agree, IsRefused, IsRefusedAt}
use Rattle.smk_plan_live.specs.declared.base.Base.{Base}
use Rattle.smk_plan_live.specs.declared.sites.Site.{Site}
use Rattle.smk_plan_live.specs.declared.phase.Phase.TheVariants.{Waiting}
use Rattle.smk_plan_live.specs.Phases.{begun_in, children_in, has_begun, named}
use Rattle.smk_plan_live.specs.Now.{joined, row_by, row_at, entry_now, own_sight, seen_before, restores_at, restored_now, settled, known_now, seen_now}
use Rattle.smk_plan_live.specs.Lives.{AreNamed, IsAgreed, IsRefusedNow, progress_of}
use Rattle.smk_plan_live.specs.Changes.{IsFirst}
use Rattle.smk_plan_live.proofs.Resting.{agrees_at_rest}
use Rattle.smk_plan_live.proofs.Tables.{known_is, seen_is, own_seen}

-- ## Rows of nothing

no_row : {A : Type 0} (js : List Job) (n : ℕ) → joined {A = A} (slice_get (map (λ (j : Job). None) js) n) ≡ None
no_row [] n = refl
no_row (j ∷ js) zero = refl
no_row (j ∷ js) (suc n) = no_row js n

no_rows : {A : Type 0} (js : List Job) (site : Option Site) (before : Option A) → row_at (map (λ (j : Job). None) js) site before ≡ before
no_rows js None before = refl
no_rows js (Some s) before = ap (λ r. row_by r s.place before) (no_row js s.job)

no_restore : (js : List Job) (site : Option Site) → restores_at (map (λ (j : Job). None) js) site ≡ false
no_restore js None = refl
no_restore js (Some s) = ap (test_some is_restore) (no_row js s.job)

none_begun : (js : List Job) → begun_in js (map (λ (j : Job). Waiting) js) ≡ []
none_begun [] = refl
none_begun (j ∷ js) = none_begun js

none_run : (js : List Job) → children_in js (map (λ (j : Job). None) js) ≡ []
none_run [] = refl
none_run (j ∷ js) = none_run js

never_begun : (js : List Job) (n : ℕ) → test_some has_begun (slice_get (map (λ (j : Job). Waiting) js) n) ≡ false
never_begun [] n = refl
never_begun (j ∷ js) zero = refl
never_begun (j ∷ js) (suc n) = never_begun js n

-- none has begun, so each that has is named
pub first_named : (b : Base) (jobs : Jobs) (store : List Known) (seen : List Sight) → IsFirst jobs store seen b → AreNamed b
first_named b jobs store seen f =
    record {
      begun = λ n j at begun.
          absurd
          (never_both (test_some has_begun (slice_get b.phases n)) begun
          (ap (λ phases. test_some has_begun (slice_get phases n)) f.phases ∙ never_begun jobs.jobs n));
      running = λ n j s at runs.
          absurd (none-some s (sym (no_row jobs.jobs n) ∙ ap (λ began. joined (slice_get began n)) (sym f.began) ∙ ap joined runs));
    }

-- ## What the image has

-- what an image has of a path is settled
settled_image : (image : Image) (q : Path) → settled false (entry_in image q) ≡ entry_in image q
settled_image image q = go (is_known image q) refl
  where
    same : entry_at image q ≡ record { kept = image.kept q; marked = image.marked q && true; noted = image.noted q }
    same = λ i. record { kept = image.kept q; marked = sym (and-true (image.marked q)) i; noted = image.noted q }

    go : (b : Bool) → is_known image q ≡ b → settled false (if b then Some (entry_at image q) else None) ≡ (if b then Some (entry_at image q) else None)
    go true e =
        ap (λ (b : Bool). if b then Some (record { kept = image.kept q; marked = image.marked q && true; noted = image.noted q }) else None)
        (ap (λ m. stands (image.kept q) || (m || image.noted q)) (and-true (image.marked q)) ∙ e)
        ∙ ap Some (sym same)
    go false e = refl

module _ (b : Base) (jobs : Jobs) (store : List Known) (seen : List Sight) (f : IsFirst jobs store seen b) (image : Image) where
  entry_first : (q : Path) → entry_now b q ≡ entry_of store q
  entry_first q =
      ap (λ rows. row_at rows (get_by_text b.sites q) (entry_of b.store q)) f.entries ∙ no_rows jobs.jobs (get_by_text b.sites q) (entry_of b.store q)
      ∙ ap (λ ks. entry_of ks q) f.stored

  restored_first : (q : Path) → restored_now b q ≡ false
  restored_first q = ap (λ began. restores_at began (get_by_text b.sites q)) f.began ∙ no_restore jobs.jobs (get_by_text b.sites q)

  stored_so : IsStoreOf image store → IsStoreOf image (known_now b)
  stored_so h =
      let each : (q : Path) → entry_of (known_now b) q ≡ entry_of store q = λ q.
      known_is b q ∙ (λ i. settled (restored_first q i) (entry_first q i)) ∙ ap (settled false) (h.entries q) ∙ settled_image image q ∙ sym (h.entries q)
      in record {
        entries = λ q. each q ∙ h.entries q;
        covered = λ q. (λ i. list_any (λ p. is_some (each p i)) (q ∷ folders_above q)) ∙ h.covered q;
      }

  sight_first : (q : Path) → sight_at (seen_now b) q ≡ sight_at seen q
  sight_first q =
      seen_is b q
      ∙ ap (λ rows. own_sight q (row_at rows (get_by_text b.sites q) (seen_before b q))) f.sights ∙ ap (own_sight q) (no_rows jobs.jobs (get_by_text b.sites q) (seen_before b q))
      ∙ ap (own_sight q) (f.saw q) ∙ own_seen seen q

  seen_so : IsSeenOf image jobs seen → IsSeenOf image b.jobs (seen_now b)
  seen_so h =
      subst (λ (js : Jobs). IsSeenOf image js (seen_now b)) (sym f.now)
      (record {
        outputs = each_of (λ (j : Job). Each (λ (o : Out). IsSeenAs image seen o.path) (outs_of j.recipe)) (λ (j : Job). Each (λ (o : Out). IsSeenAs image (seen_now b) o.path) (outs_of j.recipe))
            (λ j. each_of (λ (o : Out). IsSeenAs image seen o.path) (λ (o : Out). IsSeenAs image (seen_now b) o.path) (λ o e. (e.0, sight_first o.path ∙ e.1, e.2)) (outs_of j.recipe)) jobs.jobs h.outputs;
        sources = each_of (IsSourceSeen image seen) (IsSourceSeen image (seen_now b)) (λ m g none. let e = g none in (e.0, sight_first m.path ∙ e.1, e.2)) jobs.makers h.sources;
      })

  summed_so : AreSummed image jobs seen → AreSummed image jobs (seen_now b)
  summed_so h =
      each_of (λ (j : Job). Each (IsSummed image seen j) (in_paths j.recipe)) (λ (j : Job). Each (IsSummed image (seen_now b) j) (in_paths j.recipe))
      (λ j. each_of (IsSummed image seen j) (IsSummed image (seen_now b) j) (λ q told source at small needs. ap (test_some (λ (s : Sight). is_some s.sum)) (sight_first q) ∙ told source at small needs) (in_paths j.recipe)) jobs.jobs h

  idle : progress_of b ≡ having_run []
  idle =
      (λ i. record { begun = begun_in (f.now i).jobs (f.phases i); running = map named (children_in (f.now i).jobs (f.began i)) })
      ∙ (λ i. record { begun = none_begun jobs.jobs i; running = map named (none_run jobs.jobs i) })

  -- what agrees with the store and with what was seen agrees with the plan that begins
  pub agrees_first : (settings : Settings) → Agree image jobs store seen settings.targets → IsAgreed image settings b
  agrees_first settings a =
      agrees_at_rest image settings (progress_of b) b.jobs (known_now b) (seen_now b) (ap (λ (p : Progress). p.running) idle)
      (subst (λ (js : Jobs). Agree image js (known_now b) (seen_now b) settings.targets) (sym f.now)
      (record {
        named = a.named;
        recorded = a.recorded;
        stored = stored_so a.stored;
        sighted = subst (λ (js : Jobs). IsSeenOf image js (seen_now b)) f.now (seen_so a.sighted);
        summed = summed_so a.summed;
        served = a.served;
        made = a.made;
        read = a.read;
        asked = a.asked;
      }))

  -- and what is refused of it is refused where none has begun
  pub refused_first : (settings : Settings) (fault : PlanFault) → IsRefusedNow settings b fault → Agree image jobs store seen settings.targets → IsRefused image settings [] jobs fault
  refused_first settings fault refused a =
      coe 0 1 (i. IsRefusedAt (record { image = image; settings = settings; progress = idle i }) (f.now i) fault) (refused image (agrees_first settings a))
