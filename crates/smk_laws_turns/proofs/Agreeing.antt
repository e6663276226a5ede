-- A plan that is kept agrees with the folder once a job has begun or is closed, or an output was removed.
use Rattle.std.proofs.Common.{◌≡◌, ◌⊎◌, inl, inr, ℕ, zero, suc, ◌<◌, Bool, true, false, not, ◌&&◌, ◌||◌, List, [], ◌∷◌, map, length, Option, Some, None, refl, sym, ap, ap₂, subst, ◌∙◌, bytes_eq, arith}
use Rattle.std.specs.Prelude.{if◌then◌else◌, slice_set}
use Rattle.std.specs.List.{slice_get}
use Rattle.std.specs.BTreeMap.{get_by_text}
use Rattle.std.proofs.lemmas.Bool.{or_parts}
use Rattle.std.proofs.lemmas.Option.{same_Some, slice_get_within}
use Rattle.std.proofs.Math.Nat.{zero-add}
use Rattle.smk_base.proofs.Places.{same_place}
use Rattle.smk_base.proofs.Under.{never_both, or_cases}
use Rattle.smk_world.specs.World.{out_paths}
use Rattle.smk_world.specs.Trees.{Path, among, outs_of}
use Rattle.smk_flow.specs.declared.job.Job.{Job}
use Rattle.smk_record.specs.declared.record.Record.{Record}
use Rattle.smk_record.specs.Records.{is_valid}
use Rattle.smk_store.specs.declared.store.Entry.{Entry}
use Rattle.smk_store.specs.declared.store.Kept.{Kept}
use Rattle.smk_store.specs.declared.store.Kept.TheVariants.{Absent, Unreadable, Held}
use Rattle.smk_store.specs.Images.{Image, readable}
use Rattle.smk_store.specs.Stores.{entry_of}
use Rattle.smk_trigger.specs.declared.reason.State.{State}
use Rattle.smk_trigger.specs.JobStates.{is_restore}
use Rattle.smk_plan.specs.declared.seen.Sight.{Sight}
use Rattle.smk_plan.specs.Sights.{sight_of}
use Rattle.smk_plan.specs.States.{is_restored, test_some}
use Rattle.smk_plan_facts.specs.Telling.{copied, kept_of, mark_of}
use Rattle.smk_plan_states.specs.Judged.{with_states}
use Rattle.smk_plan_states.specs.Served.{AreApart, outputs_of}
use Rattle.smk_plan_live.specs.declared.base.Base.{Base}
use Rattle.smk_plan_live.specs.declared.sites.Site.{Site}
use Rattle.smk_plan_live.specs.declared.phase.Phase.TheVariants.{Running, Closed}
use Rattle.smk_plan_live.specs.Agreeing.{note_of}
use Rattle.smk_plan_live.specs.Carried.{advanced, begun, begun_entries, gone_sights, spent_at, turned}
use Rattle.smk_plan_live.specs.Effects.{IsBegunAt, IsClosedAt, IsOfOutputs, IsSpentOf}
use Rattle.smk_plan_live.specs.Lives.{IsAgreed, IsSound, progress_of}
use Rattle.smk_plan_live.specs.Now.{joined, known_now, restores_at, seen_now}
use Rattle.smk_plan_live.specs.Same.{paths_in}
use Rattle.smk_plan_live.specs.Sites.{site_in}
use Rattle.smk_plan_live.specs.Steps.{AreOfOutputs}
use Rattle.smk_plan_live.proofs.Changed.{filled_sound, get_other, turned_sound}
use Rattle.smk_plan_live.proofs.Effects.{begun_tells, closed_tells, restored_tells, spent_tells}
use Rattle.smk_plan_live.proofs.Putting.{mapped_at}
use Rattle.smk_plan_live.proofs.Restoring.{one_job, outs_are, site_found, site_has}
use Rattle.smk_drive_outcome.specs.Outcomes.{unmarked_entry}
use Rattle.smk_laws_turns.specs.Agreeing.{BeginAgrees, CloseAgrees, SpendAgrees}
use Rattle.smk_laws_turns.proofs.Carrying.{IsToldAt, agrees_after}

pub set_at : {A : Type 0} (xs : List A) (n : ℕ) (x : A) → n < length xs → slice_get (slice_set xs n x) n ≡ Some x
set_at [] n x h = absurd (omega (arith, h))
set_at (y ∷ xs) zero x h = refl
set_at (y ∷ xs) (suc n) x h = set_at xs n x (omega (arith, h))

copied_own : (k : Kept) → ((r : Record) → readable k ≡ Some r → is_valid r ≡ true) → copied k ≡ k
copied_own Absent valid = refl
copied_own Unreadable valid = refl
copied_own (Held r) valid = ap (λ (b : Bool). if b then Held r else Unreadable) (valid r refl)

-- ## Outputs of one job

module _ (b : Base) (sound : IsSound b) (apart : AreApart (outputs_of b.jobs.jobs)) (n : ℕ) (j : Job) (at : slice_get b.jobs.jobs n ≡ Some j) where
  within : n < length b.began
  within = subst (λ m. n < m) (sym sound.began) (slice_get_within b.jobs.jobs n j at)

  -- an output of the job is restored just where the job runs as a Restore
  restored_own : (x : Option State) (q : Path) → among (out_paths j.recipe) q ≡ true →
      restores_at (slice_set b.began n x) (get_by_text b.sites q) ≡ test_some is_restore x
  restored_own x q own =
      let t = site_found 0 b.jobs.jobs n j q at own in
      let s = site_has 0 b.jobs.jobs q t.0 t.1 in
      let same : (t.0).job ≡ n = s.2 ∙ zero-add (s.0) ∙ one_job b sound apart (s.0) n (s.1) j q s.3 at s.4 own in
      ap (restores_at (slice_set b.began n x)) (sound.sited q ∙ t.1)
      ∙ ap (λ m. test_some is_restore (joined (slice_get (slice_set b.began n x) m))) same
      ∙ ap (λ (o : Option (Option State)). test_some is_restore (joined o)) (set_at b.began n x within)

  -- any other path is restored where it was
  restored_other : (x : Option State) (q : Path) → among (out_paths j.recipe) q ≡ false →
      restores_at (slice_set b.began n x) (get_by_text b.sites q) ≡ restores_at b.began (get_by_text b.sites q)
  restored_other x q out = go (get_by_text b.sites q) refl
    where
      elsewhere : (s : Site) → get_by_text b.sites q ≡ Some s → s.job ≡ n → ⊥
      elsewhere s has same =
          let r = site_has 0 b.jobs.jobs q s (sym (sound.sited q) ∙ has) in
          let number : r.0 ≡ n = sym (zero-add (r.0)) ∙ sym r.2 ∙ same in
          let is : r.1 ≡ j = same_Some (r.1) j (sym r.3 ∙ ap (slice_get b.jobs.jobs) number ∙ at) in
          never_both (among (out_paths j.recipe) q) (subst (λ (k : Job). among (out_paths k.recipe) q ≡ true) is r.4) out

      go : (o : Option Site) → get_by_text b.sites q ≡ o → restores_at (slice_set b.began n x) o ≡ restores_at b.began o
      go None has = refl
      go (Some s) has = ap (λ r. test_some is_restore (joined r)) (get_other b.began n s.job x (elsewhere s has))

  outs_out : (q : Path) → among (out_paths j.recipe) q ≡ false → among (paths_in (outs_of j.recipe)) q ≡ false
  outs_out q out = ap (λ ps. among ps q) (sym (outs_are j.recipe)) ∙ out

-- ## A job has begun

pub begin_agrees : BeginAgrees
begin_agrees image later settings b n state j sound at agrees differs outs =
    agrees_after image later settings (progress_of b) (progress_of new) b.jobs (out_paths j.recipe) (known_now b) (known_now new) (seen_now b) (seen_now new)
    agrees differs
    (λ q out. tells.others.known q (outs_out b sound apart n j at q out))
    (λ q out. tells.others.seen q (outs_out b sound apart n j at q out))
    (λ q out. sym (restored_tells new later settings q new_sound apart) ∙ restored_other b sound apart n j at (Some state) q out
    ∙ restored_tells b image settings q sound apart)
    told
  where
    apart : AreApart (outputs_of b.jobs.jobs)
    apart = agrees.served.apart

    new : Base
    new = begun n state j b

    new_sound : IsSound (begun n state j b)
    new_sound =
        filled_sound (turned n Running (Some state) b) (turned_sound b sound n Running (Some state)) n (Some (begun_entries b j)) (Some (gone_sights j))

    tells : IsOfOutputs (IsBegunAt b (begun n state j b) state) b (begun n state j b) j
    tells = begun_tells b n state j sound apart at

    told : (q : Path) → among (out_paths j.recipe) q ≡ true →
        IsToldAt later (is_restored later settings (progress_of new) (with_states b.jobs [])) (known_now new) (seen_now new) q
    told q own =
        let here = tells.outputs q own in
        let output = outs q own in
        record {
          kept =
              here.kept ∙ ap copied (agrees.kept q) ∙ copied_own (image.kept q) (λ r reads. (agrees.recorded q r reads).1) ∙ sym output.hidden.kept;
          marks =
              here.marked
              ∙ ap₂ (λ m r. m && not r) (sym output.marked)
              (sym (restored_own b sound apart n j at (Some state) q own) ∙ restored_tells new later settings q new_sound apart);
          notes = λ h. differs.notes q (agrees.notes q (sym here.noted ∙ h));
          sight = here.sight ∙ ap Some (sym output.hidden.nothing);
        }

-- ## A job is closed

entries_each : (image : Image) (ps : List Path) → length (map (unmarked_entry image) ps) ≡ length ps
entries_each image [] = refl
entries_each image (p ∷ ps) = ap suc (entries_each image ps)

sights_each : (image : Image) (ps : List Path) → map (λ (s : Sight). s.path) (map (sight_of image) ps) ≡ ps
sights_each image [] = refl
sights_each image (p ∷ ps) = ap (λ qs. p ∷ qs) (sights_each image ps)

pub close_agrees : CloseAgrees
close_agrees image later settings b n j o sound at agrees differs unmarked outcomes =
    agrees_after image later settings (progress_of b) (progress_of new) b.jobs (out_paths j.recipe) (known_now b) (known_now new) (seen_now b) (seen_now new)
    agrees differs
    (λ q out. tells.others.known q (outs_out b sound apart n j at q out))
    (λ q out. tells.others.seen q (outs_out b sound apart n j at q out))
    (λ q out. sym (restored_tells new later settings q new_sound apart) ∙ restored_other b sound apart n j at None q out
    ∙ restored_tells b image settings q sound apart)
    told
  where
    apart : AreApart (outputs_of b.jobs.jobs)
    apart = agrees.served.apart

    new : Base
    new = advanced n Closed None (map Some o.entries) (map Some o.sights) b

    new_sound : IsSound (advanced n Closed None (map Some o.entries) (map Some o.sights) b)
    new_sound =
        filled_sound (turned n Closed None b) (turned_sound b sound n Closed None) n (Some (map Some o.entries)) (Some (map Some o.sights))

    are : AreOfOutputs o.entries o.sights j
    are =
        record {
          each = ap length outcomes.entries ∙ entries_each later (out_paths j.recipe);
          seen = ap (map (λ (s : Sight). s.path)) outcomes.sights ∙ sights_each later (out_paths j.recipe);
        }

    tells :
        IsOfOutputs (IsClosedAt (advanced n Closed None (map Some o.entries) (map Some o.sights) b) j o.entries o.sights) b
        (advanced n Closed None (map Some o.entries) (map Some o.sights) b) j
    tells = closed_tells b n j o.entries o.sights sound apart at are

    told : (q : Path) → among (out_paths j.recipe) q ≡ true →
        IsToldAt later (is_restored later settings (progress_of new) (with_states b.jobs [])) (known_now new) (seen_now new) q
    told q own =
        let here = tells.outputs q own in
        let entry : here.entry ≡ unmarked_entry later q =
        same_Some here.entry (unmarked_entry later q)
        (sym here.told ∙ ap (λ es. slice_get es here.place) outcomes.entries
        ∙ mapped_at (unmarked_entry later) (out_paths j.recipe) here.place q here.stands)
        in
        record {
          kept = here.kept ∙ ap (λ (e : Entry). e.kept) entry;
          marks =
              here.marked ∙ ap (λ (e : Entry). e.marked) entry
              ∙ ap (λ m. m && not (is_restored later settings (progress_of new) (with_states b.jobs []) q)) (sym (unmarked q own));
          notes = λ h. absurd (never_both (note_of (entry_of (known_now new) q)) h (here.noted ∙ ap (λ (e : Entry). e.noted) entry));
          sight =
              here.sight ∙ ap (λ ss. slice_get ss here.place) outcomes.sights
              ∙ mapped_at (sight_of later) (out_paths j.recipe) here.place q here.stands;
        }

-- ## An output was removed

pub spend_agrees : SpendAgrees
spend_agrees image later settings b n j gone sound at own agrees differs output =
    subst (λ o. IsAgreed later settings (spent_at o gone b)) (sym has) agreed
  where
    t : (s : Site) × (site_in 0 b.jobs.jobs gone ≡ Some s)
    t = site_found 0 b.jobs.jobs n j gone at own

    site : Site
    site = t.0

    has : get_by_text b.sites gone ≡ Some (t.0)
    has = sound.sited gone ∙ t.1

    new : Base
    new = spent_at (Some (t.0)) gone b

    tells : IsSpentOf b (spent_at (Some (t.0)) gone b) gone
    tells = subst (λ o. IsSpentOf b (spent_at o gone b) gone) has (spent_tells b gone sound)

    told_gone : IsToldAt later (is_restored later settings (progress_of b) (with_states b.jobs [])) (known_now new) (seen_now new) gone
    told_gone =
        record {
          kept = ap (λ ks. kept_of (entry_of ks gone)) tells.known ∙ agrees.kept gone ∙ sym output.hidden.kept;
          marks =
              ap (λ ks. mark_of (entry_of ks gone)) tells.known ∙ agrees.marks gone
              ∙ ap (λ m. m && not (is_restored later settings (progress_of b) (with_states b.jobs []) gone)) (sym output.marked);
          notes = λ h. differs.notes gone (agrees.notes gone (sym (ap (λ ks. note_of (entry_of ks gone)) tells.known) ∙ h));
          sight = tells.sight (t.0) has ∙ ap Some (sym output.hidden.nothing);
        }

    told : (q : Path) → (bytes_eq q gone || false) ≡ true →
        IsToldAt later (is_restored later settings (progress_of b) (with_states b.jobs [])) (known_now new) (seen_now new) q
    told q h = go (or_cases (bytes_eq q gone) false h)
      where
        go : (bytes_eq q gone ≡ true) ⊎ (false ≡ true) →
            IsToldAt later (is_restored later settings (progress_of b) (with_states b.jobs [])) (known_now new) (seen_now new) q
        go (inl e) =
            subst (λ p. IsToldAt later (is_restored later settings (progress_of b) (with_states b.jobs [])) (known_now new) (seen_now new) p)
            (sym (same_place q gone e)) told_gone
        go (inr e) = absurd (never_both false e refl)

    agreed : IsAgreed later settings (spent_at (Some (t.0)) gone b)
    agreed =
        agrees_after image later settings (progress_of b) (progress_of b) b.jobs (gone ∷ []) (known_now b) (known_now new) (seen_now b) (seen_now new)
        agrees differs
        (λ q out. ap (λ ks. entry_of ks q) tells.known)
        (λ q out. tells.others q (or_parts (bytes_eq q gone) false out).0)
        (λ q out. refl)
        told
