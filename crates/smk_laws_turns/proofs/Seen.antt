-- What was seen of outputs and sources once new jobs have come is so in the folder.
use Rattle.std.proofs.Common.{◌≡◌, inl, inr, Bool, true, false, List, [], ◌∷◌, map, Option, Some, None, is_some, refl, sym, ap, ◌∙◌, bytes_eq}
use Rattle.std.specs.Prelude.{if◌then◌else◌, filter, is_none}
use Rattle.std.specs.Option.{option_or}
use Rattle.smk_base.proofs.Places.{place_itself}
use Rattle.smk_base.proofs.Under.{never_both, or_first, or_second}
use Rattle.smk_world.specs.declared.recipe.Out.{Out}
use Rattle.smk_world.specs.World.{World, in_paths, out_paths}
use Rattle.smk_world.specs.Trees.{Each, IsIn, Path, among, outs_of}
use Rattle.smk_flow.specs.declared.job.Job.{Job}
use Rattle.smk_store.specs.Images.{Image, file_at, is_source}
use Rattle.smk_store.specs.Unowned.{IsUnownedUnder}
use Rattle.smk_chain.specs.declared.jobs.Maker.{Maker}
use Rattle.smk_pick.specs.declared.settings.Settings.{Settings}
use Rattle.smk_plan.specs.declared.seen.Sight.{Sight}
use Rattle.smk_plan.specs.Sights.{IsSeenAs, IsSeenOf, IsSourceSeen, sight_at, sight_of}
use Rattle.smk_plan.specs.States.{test_some}
use Rattle.smk_plan.specs.Summed.{AreSummed, IsSummed, is_seen_summed}
use Rattle.smk_plan_facts.specs.Facts.{TellSources, told_sources}
use Rattle.smk_plan_facts.proofs.Tests.{each_among, each_map, each_two, none_some}
use Rattle.smk_plan_look.specs.Seeing.{AreSeenUnowned, AreSummedUnowned, IsSeenUnowned, IsSummedUnowned}
use Rattle.smk_plan_live.specs.declared.base.Base.{Base}
use Rattle.smk_plan_live.specs.declared.phase.Phase.TheVariants.{Running, Waiting}
use Rattle.smk_plan_live.specs.Carried.{phase_from}
use Rattle.smk_plan_live.specs.Lives.{IsAgreed}
use Rattle.smk_plan_live.specs.Now.{own_sight, seen_before, seen_now, sight_now}
use Rattle.smk_plan_live.specs.Same.{paths_in}
use Rattle.smk_plan_live.proofs.Restoring.{outs_are}
use Rattle.smk_plan_live.proofs.Tables.{own_seen, seen_is}
use Rattle.smk_laws_protocol.proofs.Basics.{each_in}
use Rattle.smk_laws_plan.proofs.CurrentPaths.{in_among}
use Rattle.smk_laws_plan.proofs.CurrentChosen.{path_in}
use Rattle.smk_laws_turns.specs.Grown.{AreFree}
use Rattle.smk_laws_turns.proofs.Rows.{IsTold}
use Rattle.smk_laws_turns.proofs.Rows.IsTold.{Fresh, Still}

-- ## Lists

each_inside : {A : Type 0} (P Q : A → Type 0) (xs : List A) → ((x : A) → IsIn xs x → P x → Q x) → Each P xs → Each Q xs
each_inside P Q [] more h = tt
each_inside P Q (x ∷ xs) more h = (more x (inl refl) h.0, each_inside P Q xs (λ y at. more y (inr at)) h.1)

abbrev told_first : Bool → Maker → List Maker → List Path
told_first b m makers =
    map (λ (y : Maker). y.path) (if b then m ∷ filter (λ (y : Maker). is_none y.job) makers else filter (λ (y : Maker). is_none y.job) makers)

-- a path of which it is told that no job makes it is a told source
told_source : (makers : List Maker) (m : Maker) → IsIn makers m → m.job ≡ None → among (told_sources makers) m.path ≡ true
told_source [] m at none = absurd at
told_source (x ∷ makers) m (inl e) none = go (is_none x.job) (ap (λ (y : Maker). is_none y.job) (sym e) ∙ ap is_none none)
  where
    go : (b : Bool) → b ≡ true → among (told_first b x makers) m.path ≡ true
    go true h =
        or_first (bytes_eq m.path x.path) (among (told_sources makers) m.path)
        (ap (λ (y : Maker). bytes_eq m.path y.path) (sym e) ∙ place_itself m.path)
    go false h = absurd (never_both false h refl)
told_source (x ∷ makers) m (inr at) none = go (is_none x.job) (told_source makers m at none)
  where
    go : (b : Bool) → among (told_sources makers) m.path ≡ true → among (told_first b x makers) m.path ≡ true
    go true h = or_second (bytes_eq m.path x.path) (among (told_sources makers) m.path) h
    go false h = h

under_if : {A : Type 0} (b : Bool) (o : Option A) (x : A) → (if b then o else None) ≡ Some x → b ≡ true
under_if true o x h = refl
under_if false o x h = absurd (none_some x h)

own_here : (q : Path) (s : Sight) → s.path ≡ q → own_sight q (Some s) ≡ Some s
own_here q s is = ap (λ (b : Bool). if b then Some s else None) (ap (λ p. bytes_eq p q) is ∙ place_itself q)

module _
    (w : World) (image : Image) (settings : Settings) (old new : Base) (fresh : List Sight) (told : (q : Path) → IsTold old new fresh q)
    (agreed : IsAgreed image settings old) (free : AreFree w old new.jobs) (saw : AreSeenUnowned w image new.jobs fresh) where
  -- ## Sights

  -- what was seen now
  seen_by :
      (q : Path) → sight_now new q ≡ own_sight q (option_or (sight_at fresh q) (seen_before old q)) → IsSeenAs image fresh q → IsSeenAs image (seen_now new) q
  seen_by q is h = (
    h.0,
    seen_is new q ∙ is ∙ ap (λ o. own_sight q (option_or o (seen_before old q))) h.1 ∙ own_here q (record (sight_of image q) { sum = h.0 }) refl,
    h.2,
  )

  -- what was seen of outputs before
  seen_still : (q : Path) (j : Job) → IsIn old.jobs.jobs j → among (out_paths j.recipe) q ≡ true → sight_now new q ≡ sight_now old q → IsSeenAs image (seen_now new) q
  seen_still q j ij own same =
      let outs = each_in (λ (x : Job). Each (λ (o : Out). IsSeenAs image (seen_now old) o.path) (outs_of x.recipe)) old.jobs.jobs j agreed.sighted.outputs ij in
      let h =
      each_among (IsSeenAs image (seen_now old)) (paths_in (outs_of j.recipe)) q
      (each_map (IsSeenAs image (seen_now old)) (λ (o : Out). o.path) (outs_of j.recipe) outs) (ap (λ ps. among ps q) (sym (outs_are j.recipe)) ∙ own)
      in (h.0, seen_is new q ∙ same ∙ sym (seen_is old q) ∙ h.1, h.2)

  idle : (k : Job) (q : Path) → IsIn new.jobs.jobs k → among (out_paths k.recipe) q ≡ true → phase_from old k ≡ Waiting → IsUnownedUnder w.nodes q
  idle k q ik own waits = free.idle k ik (λ runs. other (sym waits ∙ runs)) q own
    where
      other : Waiting ≡ Running → ⊥
      other e = cc

  output_seen : (k : Job) → IsIn new.jobs.jobs k → (o : Out) → IsIn (outs_of k.recipe) o → IsSeenUnowned w image fresh o.path → IsSeenAs image (seen_now new) o.path
  output_seen k ik o io unowned = by (told o.path)
    where
      own : among (out_paths k.recipe) o.path ≡ true
      own = in_among (out_paths k.recipe) o.path (path_in k.recipe o io)

      by : IsTold old new fresh o.path → IsSeenAs image (seen_now new) o.path
      by (Fresh entry restored sight waits) = seen_by o.path sight (unowned (idle k o.path ik own (waits k ik own)))
      by (Still j x ij ix own_j own_x entry restored sight) = seen_still o.path j ij own_j sight

  source_seen : (m : Maker) → IsIn new.jobs.makers m → (m.job ≡ None → IsSeenUnowned w image fresh m.path) → IsSourceSeen image (seen_now new) m
  source_seen m im unowned none = by (told m.path)
    where
      by : IsTold old new fresh m.path → IsSeenAs image (seen_now new) m.path
      by (Fresh entry restored sight waits) = seen_by m.path sight (unowned none (free.sources m.path (told_source new.jobs.makers m im none)))
      by (Still j x ij ix own_j own_x entry restored sight) = seen_still m.path j ij own_j sight

  pub sighted_after : IsSeenOf image new.jobs (seen_now new)
  sighted_after =
      record {
        outputs =
            each_inside (λ (j : Job). Each (λ (o : Out). IsSeenUnowned w image fresh o.path) (outs_of j.recipe))
            (λ (j : Job). Each (λ (o : Out). IsSeenAs image (seen_now new) o.path) (outs_of j.recipe)) new.jobs.jobs
            (λ k ik. each_inside (λ (o : Out). IsSeenUnowned w image fresh o.path) (λ (o : Out). IsSeenAs image (seen_now new) o.path) (outs_of k.recipe)
            (output_seen k ik))
            saw.outputs;
        sources =
            each_inside (λ (m : Maker). m.job ≡ None → IsSeenUnowned w image fresh m.path) (IsSourceSeen image (seen_now new)) new.jobs.makers source_seen
            saw.sources;
      }

  -- ## Digests

  module _
      (unmade : (j : Job) (q : Path) → IsIn old.jobs.jobs j → among (out_paths j.recipe) q ≡ true → is_source image q ≡ true → ⊥)
      (read : TellSources image new.jobs) (summed : AreSummedUnowned w image new.jobs fresh) where
    kept_summed :
        (q : Path) → sight_now new q ≡ own_sight q (option_or (sight_at fresh q) (seen_before old q)) → is_seen_summed fresh q ≡ true →
        is_seen_summed (seen_now new) q ≡ true
    kept_summed q is h = go (sight_at fresh q) refl h
      where
        go : (o : Option Sight) → sight_at fresh q ≡ o → test_some (λ (s : Sight). is_some s.sum) o ≡ true → is_seen_summed (seen_now new) q ≡ true
        go None has t = absurd (never_both false t refl)
        go (Some s) has t =
            ap (test_some (λ (x : Sight). is_some x.sum))
            (seen_is new q ∙ is ∙ ap (λ o. own_sight q (option_or o (seen_before old q))) has ∙ sym (ap (own_sight q) has) ∙ own_seen fresh q ∙ has)
            ∙ t

    summed_one :
        (k : Job) (q : Path) → IsSummedUnowned w image new.jobs fresh k q → (is_source image q ≡ true → among (told_sources new.jobs.makers) q ≡ true) →
        IsSummed image (seen_now new) k q
    summed_one k q unowned tells f source small needs = by (told q)
      where
        is : is_source image q ≡ true
        is = under_if (is_source image q) (file_at image q) f source

        by : IsTold old new fresh q → is_seen_summed (seen_now new) q ≡ true
        by (Fresh entry restored sight waits) = kept_summed q sight (unowned (free.sources q (tells is)) (tells is) f source small needs)
        by (Still j x ij ix own_j own_x entry restored sight) = absurd (unmade j q ij own_j is)

    pub summed_after : AreSummed image new.jobs (seen_now new)
    summed_after =
        each_two (λ (j : Job). Each (IsSummedUnowned w image new.jobs fresh j) (in_paths j.recipe))
        (λ (j : Job). Each (λ q. is_source image q ≡ true → among (told_sources new.jobs.makers) q ≡ true) (in_paths j.recipe))
        (λ (j : Job). Each (IsSummed image (seen_now new) j) (in_paths j.recipe))
        (λ j.
        each_two (IsSummedUnowned w image new.jobs fresh j) (λ q. is_source image q ≡ true → among (told_sources new.jobs.makers) q ≡ true)
        (IsSummed image (seen_now new) j) (summed_one j) (in_paths j.recipe))
        new.jobs.jobs summed read
