-- A plan that is kept, once what is new was put in.
use Rattle.std.proofs.Common.{◌≡◌, ℕ, zero, suc, ◌+◌, ◌<◌, Bool, true, false, not, ◌&&◌, ◌==◌, List, [], ◌∷◌, map, length, Option, Some, None, option_map, refl, sym, ap, ap₂, subst, ◌∙◌, bytes_eq, arith}
use Rattle.std.specs.Prelude.{slice_index_or, slice_set}
use Rattle.std.specs.BTreeMap.{get_by_text}
use Rattle.std.specs.BTreeSet.{contains_text}
use Rattle.std.specs.List.{list_any, slice_get, AllZip}
use Rattle.std.proofs.lemmas.Bool.{eqb-true, eqb-false}
use Rattle.std.proofs.lemmas.Option.{same_Some}
use Rattle.smk_base.proofs.Under.{false_unless, never_both}
use Rattle.smk_world.specs.declared.recipe.Out.{Out}
use Rattle.smk_world.specs.World.{out_paths}
use Rattle.smk_world.specs.Trees.{Path, Each, among, outs_of}
use Rattle.smk_flow.specs.declared.job.Job.{Job}
use Rattle.smk_store.specs.declared.store.Entry.{Entry}
use Rattle.smk_trigger.specs.declared.reason.State.{State}
use Rattle.smk_trigger.specs.Reasons.{reasons_of}
use Rattle.smk_pick.specs.declared.settings.Settings.{Settings}
use Rattle.smk_plan.specs.declared.plan.Plan.{Plan as Told}
use Rattle.smk_plan.specs.declared.seen.Sight.{Sight}
use Rattle.smk_plan.specs.States.{by_force, job_path, makes, test_some}
use Rattle.smk_plan_facts.specs.Telling.{forced_by, is_made_of, outputs_in}
use Rattle.smk_plan_states.specs.declared.standing.Last.{Last}
use Rattle.smk_plan_states.specs.declared.rows.Own.{Own}
use Rattle.smk_plan_states.specs.declared.rows.Own.TheVariants.{Unknown}
use Rattle.smk_plan_states.specs.Rows.{FitOwn, FitsOwn}
use Rattle.smk_plan_states.specs.Served.{AreServed}
use Rattle.smk_plan_states.specs.Standing.{StandsBy, states_by}
use Rattle.smk_plan_states.specs.Stays.{AreRowsBut, Told as TellsRows, has_number}
use Rattle.smk_plan_states.proofs.Counts.{states_each}
use Rattle.smk_plan_table.specs.declared.planning.Ranked.{Ranked}
use Rattle.smk_plan_table.specs.declared.suspects.Suspect.{Suspect}
use Rattle.smk_plan_table.specs.Parts.{IsSuspectOf}
use Rattle.smk_plan_live.specs.declared.base.Base.{Base}
use Rattle.smk_plan_live.specs.Live.{LivePlan, plan_kept}
use Rattle.smk_plan_live.specs.declared.next.Change.{Change}
use Rattle.smk_plan_live.specs.declared.sites.Site.{Site}
use Rattle.smk_plan_live.specs.declared.spending.Loss.{Loss}
use Rattle.smk_plan_live.specs.declared.phase.Phase.{Phase}
use Rattle.smk_plan_live.specs.declared.phase.Phase.TheVariants.{Waiting, Running, Closed}
use Rattle.smk_plan_live.specs.Now.{known_now, seen_now}
use Rattle.smk_plan_live.specs.Phases.{begun_in, has_begun}
use Rattle.smk_plan_live.specs.Learning.{forgotten}
use Rattle.smk_plan_live.specs.Same.{paths_in, is_user, AreSameBut, users_from}
use Rattle.smk_plan_live.specs.Carried.{has_name, turned, filled, advanced, sighted, sight_but, spent, spent_at}
use Rattle.smk_plan_live.specs.Kept.{facts_if, facts_kept, forced_now, own_by, own_now, told_by_flags}
use Rattle.smk_plan_live.specs.Lives.{AreLentNow, AreMakersWhole, AreNamed, AreRanked, FollowsLent, IsLive, IsNow}
use Rattle.smk_plan_live.specs.Steps.{IsAhead, IsChanged, IsChangeOf, IsLast, IsLoss, StandsNext, moved, or_no_numbers, plan_next, readers_at, told_next}
use Rattle.smk_plan_live.proofs.Changed.{set_back, set_here, get_other, filled_but, sighted_but, turned_sound, filled_sound, sighted_sound, closed_begun, begun_here, begun_other, named_in}
use Rattle.smk_plan_live.proofs.Learned.{fits_but, fits_unset, forced_is, index_same, own_get, own_is, unequal}
use Rattle.smk_plan_live.proofs.Restoring.{at_same, one_name}
use Rattle.smk_plan_live.proofs.Same.{doubted_same, facts_same, is_other}
use Rattle.smk_plan_live.proofs.Settled.{outputs_are, makers_are, doubted_are, user_at}
use Rattle.smk_plan_live.proofs.Stepping.{flags_stay}
pub use Rattle.smk_plan_live.proofs.Putting.{mapped_at, put_one}

-- ## Numbers of jobs

pub got : {A : Type 0} (xs : List A) (n : ℕ) → n < length xs → (x : A) × (slice_get xs n ≡ Some x)
got [] n h = absurd (omega (arith, h))
got (x ∷ xs) zero h = (x, refl)
got (x ∷ xs) (suc n) h = got xs n (omega (arith, h))

-- ## What was changed is put back

pub turned_back :
    (b : Base) (n : ℕ) (phase before : Phase) (state was : Option State) → before ≡ slice_index_or b.phases n before → was ≡ slice_index_or b.began n was →
    turned n before was (turned n phase state b) ≡ b
turned_back b n phase before state was p s = λ i. record b { phases = set_back b.phases n phase before p i; began = set_back b.began n state was s i }

pub filled_back :
    (b : Base) (n : ℕ) (row before : Option (List (Option Entry))) (sights saw : Option (List (Option Sight))) → before ≡ slice_index_or b.entries n before →
    saw ≡ slice_index_or b.sights n saw →
    filled n before saw (filled n row sights b) ≡ b
filled_back b n row before sights saw r s = λ i. record b { entries = set_back b.entries n row before r i; sights = set_back b.sights n sights saw s i }

pub sighted_back :
    (b : Base) (n : ℕ) (sights saw : Option (List (Option Sight))) → saw ≡ slice_index_or b.sights n saw → sighted n saw (sighted n sights b) ≡ b
sighted_back b n sights saw s = λ i. record b { sights = set_back b.sights n sights saw s i }

-- ## What changes

not_forced : (settings : Settings) (j : Job) (ran : List Path) → among ran (job_path j) ≡ true → forced_by settings ran j ≡ false
not_forced settings j ran h = ap (λ x. not x && by_force settings.force (list_any (makes j) settings.targets)) h

-- jobs that have begun are named still, where the one that has turned is
turned_named :
    (b : Base) → AreNamed b → (n : ℕ) → ((k : Job) → slice_get b.jobs.jobs n ≡ Some k → has_name k ≡ true) → (phase : Phase) (state : Option State)
    (row : Option (List (Option Entry))) (sights : Option (List (Option Sight))) →
    AreNamed (filled n row sights (turned n phase state b))
turned_named b named n its phase state row sights =
    record {
      begun = λ m k at begun. of_begun m k at (m == n) refl begun;
      running = λ m k s at runs. of_running m k s at (m == n) refl runs;
    }
  where
    here : (m : ℕ) (k : Job) → slice_get b.jobs.jobs m ≡ Some k → (m == n) ≡ true → has_name k ≡ true
    here m k at e = its k (ap (slice_get b.jobs.jobs) (sym (eqb-true m n e)) ∙ at)

    of_begun :
        (m : ℕ) (k : Job) → slice_get b.jobs.jobs m ≡ Some k → (c : Bool) → (m == n) ≡ c → test_some has_begun (slice_get (slice_set b.phases n phase) m) ≡ true →
        has_name k ≡ true
    of_begun m k at true e begun = here m k at e
    of_begun m k at false e begun = named.begun m k at (ap (test_some has_begun) (sym (get_other b.phases n m phase (eqb-false m n e))) ∙ begun)

    of_running :
        (m : ℕ) (k : Job) (s : State) → slice_get b.jobs.jobs m ≡ Some k → (c : Bool) → (m == n) ≡ c → slice_get (slice_set b.began n state) m ≡ Some (Some s) →
        has_name k ≡ true
    of_running m k s at true e runs = here m k at e
    of_running m k s at false e runs = named.running m k s at (sym (get_other b.began n m state (eqb-false m n e)) ∙ runs)

pub begun_changed :
    (p : LivePlan) (live : IsLive p) (n : ℕ) (state : State) (found : Job) → slice_get p.base.jobs.jobs n ≡ Some found → has_name found ≡ true →
    slice_get p.base.phases n ≡ Some Waiting →
    (row : List (Option Entry)) (sights : List (Option Sight)) →
    IsChanged p.settings p.base (advanced n Running (Some state) row sights p.base) n false
begun_changed p live n state found is has waiting row sights =
    let b : Base = p.base in
    let phases : List Phase = slice_set p.base.phases n Running in
    record {
      sound = filled_sound (turned n Running (Some state) b) (turned_sound b live.sound n Running (Some state)) n (Some row) (Some sights);
      named = turned_named b live.named n (λ k at. subst (λ (x : Job). has_name x ≡ true) (same_Some found k (sym is ∙ at)) has) Running (Some state)
          (Some row) (Some sights);
      same = λ j at. filled_but b live.sound n j at Running (Some state) (Some row) (Some sights);
      its = λ served j at. not_forced p.settings j (begun_in b.jobs.jobs phases) (begun_here b.jobs.jobs phases n j Running at
          (set_here b.phases n Running Waiting waiting) refl);
      others = λ served m k other here.
          ap (λ x. not x && by_force p.settings.force (list_any (makes k) p.settings.targets))
          (begun_other b.jobs.jobs b.phases n found (job_path k) is
          (false_unless (bytes_eq (job_path k) (job_path found))
          (λ e. other (one_name b live.sound served.apart n found (job_path found) is (named_in (out_paths found.recipe) has) m k here e)))
          Running);
      running = λ m other. get_other b.began n m (Some state) (eqb-false m n other);
    }

pub closed_changed :
    (p : LivePlan) (live : IsLive p) (n : ℕ) → slice_get p.base.phases n ≡ Some Running → (row : List (Option Entry)) (sights : List (Option Sight)) →
    IsChanged p.settings p.base (advanced n Closed None row sights p.base) n false
closed_changed p live n runs row sights =
    let b : Base = p.base in
    let same : begun_in b.jobs.jobs (slice_set b.phases n Closed) ≡ begun_in b.jobs.jobs b.phases = closed_begun b.jobs.jobs b.phases n runs in
    record {
      sound = filled_sound (turned n Closed None b) (turned_sound b live.sound n Closed None) n (Some row) (Some sights);
      named = turned_named b live.named n (λ k at. live.named.begun n k at (ap (test_some has_begun) runs)) Closed None (Some row) (Some sights);
      same = λ j at. filled_but b live.sound n j at Closed None (Some row) (Some sights);
      its = λ served j at.
          ap (λ ran. forced_by p.settings ran j) same
          ∙ not_forced p.settings j (begun_in b.jobs.jobs b.phases) (begun_here b.jobs.jobs b.phases n j Running at runs refl);
      others = λ served m k other here. ap (λ ran. forced_by p.settings ran k) same;
      running = λ m other. get_other b.began n m None (eqb-false m n other);
    }

pub sighted_changed :
    (p : LivePlan) (live : IsLive p) (n : ℕ) (flag : Bool) → slice_get p.flags.forced n ≡ Some flag → (sights : Option (List (Option Sight))) →
    IsChanged p.settings p.base (sighted n sights p.base) n flag
sighted_changed p live n flag has sights =
    record {
      sound = sighted_sound p.base live.sound n sights;
      named = record { begun = live.named.begun; running = live.named.running };
      same = λ j at. sighted_but p.base live.sound n j at sights;
      its = λ served j at.
          let forced : Job → Bool = forced_by p.settings (begun_in p.base.jobs.jobs p.base.phases) in
          same_Some (forced j) flag
          (sym (mapped_at forced p.base.jobs.jobs n j at)
          ∙ sym (ap (λ (flags : List Bool). slice_get flags n) ((live.flags served).forced ∙ forced_is p.settings p.base)) ∙ has);
      others = λ served m k other here. refl;
      running = λ m other. refl;
    }

-- what is lost with an output is what changes as it is removed
pub loss_spent :
    (p : LivePlan) (gone : Path) (site : Site) (loss : Loss) → get_by_text p.base.sites gone ≡ Some site → IsLoss gone site.job p loss →
    sighted loss.number (Some loss.sights) p.base ≡ spent gone p.base
loss_spent p gone site loss has x =
    let b = p.base in
    (λ i. sighted (x.number i) (Some (x.sights i)) b)
    ∙ ap (λ row. sighted site.job row b) (sym (ap (option_map (λ (j : Job). map (sight_but b gone) (out_paths j.recipe))) x.is))
    ∙ ap (λ o. spent_at o gone b) (sym has)

-- ## What has changed already

-- the base is what it is as the job has come a step further
pub ahead_advanced :
    (p : LivePlan) → IsLive p → (n : ℕ) (phase : Phase) (state : Option State) (row : List (Option Entry)) (sights : List (Option Sight)) (forced : Bool) →
    IsChanged p.settings p.base (advanced n phase state row sights p.base) n forced → (plan : Told) →
    IsAhead (record p { base = advanced n phase state row sights p.base; plan = plan }) n forced
ahead_advanced p live n phase state row sights forced changed plan =
    record { phases = p.base.phases; began = p.base.began; entries = p.base.entries; sights = p.base.sights; plan = p.plan; live = live; changed = changed }

-- or once something else is seen at its outputs
pub ahead_sighted :
    (p : LivePlan) → IsLive p → (n : ℕ) (sights : Option (List (Option Sight))) (forced : Bool) → IsChanged p.settings p.base (sighted n sights p.base) n forced →
    (plan : Told) → IsAhead (record p { base = sighted n sights p.base; plan = plan }) n forced
ahead_sighted p live n sights forced changed plan =
    record { phases = p.base.phases; began = p.base.began; entries = p.base.entries; sights = p.base.sights; plan = p.plan; live = live; changed = changed }

-- ## What is kept then

module _ (p : LivePlan) (n : ℕ) (forced : Bool) (ahead : IsAhead p n forced) (change : Change) (is : IsChangeOf p n forced change) where
  abbrev before : Base
  before = moved ahead.phases ahead.began ahead.entries ahead.sights p.base

  abbrev jobs : List Job
  jobs = p.base.jobs.jobs

  abbrev outs : List Out
  outs = outs_of is.job.recipe

  same : AreSameBut outs (known_now before) (known_now p.base) (seen_now before) (seen_now p.base)
  same = ahead.changed.same is.job is.is

  module _ (served : AreServed p.base.jobs p.settings.targets) where
    other : (m : ℕ) (k : Job) → (m ≡ n → ⊥) → slice_get jobs m ≡ Some k → Each (λ q. among (paths_in outs) q ≡ false) (out_paths k.recipe)
    other m k apart here = is_other jobs m n k is.job served.apart apart (sym (at_same jobs m) ∙ here) (sym (at_same jobs n) ∙ is.is)

    readers_are : readers_at p.readers.items n ≡ users_from outs 0 jobs
    readers_are =
        ap (λ rows. readers_at rows n) (ahead.live.readers served)
        ∙ ap or_no_numbers (mapped_at (λ (k : Job). users_from (outs_of k.recipe) 0 jobs) jobs n is.job is.is)

    -- which jobs are forced
    force_then : change.forced.items ≡ forced_now p.settings p.base
    force_then =
        let was : Job → Bool = forced_by p.settings (begun_in jobs before.phases) in
        let now : Job → Bool = forced_by p.settings (begun_in jobs p.base.phases) in
        is.force ∙ ap (λ flags. slice_set flags n forced) ((ahead.live.flags served).forced ∙ forced_is p.settings before)
        ∙ put_one was now jobs n forced (λ m k apart here. sym (ahead.changed.others served m k apart here))
        (λ k here. sym (ahead.changed.its served k here))
        ∙ sym (forced_is p.settings p.base)

    outputs_then : slice_set p.flags.outputs n change.outputs ≡ map (outputs_in (known_now p.base) (seen_now p.base)) jobs
    outputs_then =
        ap₂ (λ rows row. slice_set rows n row) (ahead.live.flags served).outputs is.outputs
        ∙ outputs_are outs (known_now before) (known_now p.base) (seen_now before) (seen_now p.base) same n jobs is.job is.is other

    makers_then : AreMakersWhole p.base change.makers
    makers_then =
        subst (AreMakersWhole p.base) (sym is.makers)
        (makers_are outs (known_now before) (known_now p.base) (seen_now before) (seen_now p.base) same n jobs is.job is.is other p.base.jobs.makers
        p.flags.makers (ahead.live.flags served).makers)

    doubted_then : AllZip (IsSuspectOf (known_now p.base) (seen_now p.base) p.settings.bounds) jobs change.suspects.items
    doubted_then =
        subst (AllZip (IsSuspectOf (known_now p.base) (seen_now p.base) p.settings.bounds) jobs) (sym is.suspects)
        (doubted_are (IsSuspectOf (known_now before) (seen_now before) p.settings.bounds) (IsSuspectOf (known_now p.base) (seen_now p.base) p.settings.bounds)
        n jobs p.flags.suspects is.suspect
        (λ m k x apart here are. doubted_same outs (known_now before) (known_now p.base) (seen_now before) (seen_now p.base) same (contains_text p.base.sources) p.settings.bounds k x
        (other m k apart here) are)
        (λ k here. subst (λ (x : Job). IsSuspectOf (known_now p.base) (seen_now p.base) p.settings.bounds x is.suspect)
        (same_Some is.job k (sym is.is ∙ here)) is.doubted)
        (ahead.live.flags served).suspects)

    -- what another job that is no reader is judged by is as it was
    facts_stay :
        (m : ℕ) → (m == n) ≡ false → has_number m (readers_at p.readers.items n) ≡ false → facts_kept p.base change.forced.items m ≡ facts_kept before p.flags.forced m
    facts_stay m apart free =
        ap (facts_if p.base (slice_get jobs m)) (ap (λ flags. slice_get flags m) is.force ∙ get_other p.flags.forced n m forced (eqb-false m n apart))
        ∙ go (slice_get jobs m) refl (slice_get p.flags.forced m)
      where
        unread : (k : Job) → slice_get jobs m ≡ Some k → (b : Bool) → is_user outs k ≡ b → is_user outs k ≡ false
        unread k here true reads =
            let whole : 0 + m ≡ m = omega arith in
            absurd
            (never_both (has_number m (readers_at p.readers.items n))
            (ap (has_number m) readers_are
            ∙ subst (λ (s : ℕ). has_number s (users_from outs 0 jobs) ≡ true) whole (user_at outs 0 jobs m k here reads)) free)
        unread k here false free = free

        go : (o : Option Job) → slice_get jobs m ≡ o → (f : Option Bool) → facts_if p.base o f ≡ facts_if before o f
        go None here f = refl
        go (Some k) here None = refl
        go (Some k) here (Some f) =
            ap Some
            (facts_same outs (known_now before) (known_now p.base) (seen_now before) (seen_now p.base) same (contains_text p.base.sources) (λ x. f) k
            (unread k here (is_user outs k) refl) (other m k (eqb-false m n apart) here))

    -- and so are its reasons
    reasons_stay :
        (m : ℕ) → (m == n) ≡ false → has_number m (readers_at p.readers.items n) ≡ false →
        slice_get (own_by p.base jobs change.forced.items) m ≡ slice_get (own_by before jobs p.flags.forced) m
    reasons_stay m apart free =
        own_get p.base jobs change.forced.items m ∙ ap (option_map reasons_of) (facts_stay m apart free) ∙ sym (own_get before jobs p.flags.forced m)

    -- the flags of reasons fit still, once those of the job and of its readers are forgotten
    own_then : FitOwn (forgotten (slice_set p.flags.own n Unknown) (readers_at p.readers.items n)) (own_now p.settings p.base)
    own_then m =
        fits_but (slice_set p.flags.own n Unknown) (readers_at p.readers.items n) m (slice_index_or (own_now p.settings p.base) m [])
        (λ free. fits_unset p.flags.own n m (slice_index_or (own_now p.settings p.base) m [])
        (λ apart. subst (FitsOwn (slice_index_or p.flags.own m Unknown)) (sym (reasons_are m (unequal m n apart) free)) ((ahead.live.flags served).own m)))
      where
        reasons_are :
            (k : ℕ) → (k == n) ≡ false → has_number k (readers_at p.readers.items n) ≡ false →
            slice_index_or (own_now p.settings p.base) k [] ≡ slice_index_or (own_now p.settings before) k []
        reasons_are k apart free =
            ap (λ own. slice_index_or own k []) (sym (own_is p.settings p.base ahead.changed.sound change.forced.items force_then))
            ∙ index_same (own_by p.base jobs change.forced.items) (own_by before jobs p.flags.forced) k [] (reasons_stay k apart free)
            ∙ ap (λ own. slice_index_or own k []) (own_is p.settings before ahead.live.sound p.flags.forced (ahead.live.flags served).forced)

    -- of all other jobs what is told now is what the plan told, but for the reasons of the readers
    rows_but : AreRowsBut p.table.origins n (readers_at p.readers.items n) (told_by_flags before p.flags.outputs p.flags.makers p.flags.forced) (told_next p change)
    rows_but =
        record {
          outputs = λ m apart.
              ap (λ k. slice_get (slice_set p.flags.outputs k change.outputs) m) is.number ∙ get_other p.flags.outputs n m change.outputs (eqb-false m n apart);
          makers = λ m o at apart.
              ap (λ flags. slice_index_or flags m false) is.makers
              ∙ flags_stay (is_made_of (known_now p.base) (seen_now p.base) is.job) n jobs p.base.jobs.makers p.flags.makers m o
              (ap (λ os. slice_get os m) (sym ahead.live.table.origins) ∙ at) apart;
          reasons = reasons_stay;
          forced = λ m apart. ap (λ flags. slice_get flags m) is.force ∙ get_other p.flags.forced n m forced (eqb-false m n apart);
          running = ahead.changed.running;
        }

  -- what is lent with what is new
  pub lent_then :
      (rows : List (List Bool)) → rows ≡ slice_set p.flags.outputs change.number change.outputs → (makers : List Bool) → makers ≡ change.makers →
      (own : List Own) → (AreServed p.base.jobs p.settings.targets → FitOwn own (own_now p.settings p.base)) → (suspects : List Suspect) →
      suspects ≡ change.suspects.items → AreServed p.base.jobs p.settings.targets → AreLentNow p.settings p.base rows makers own suspects
  lent_then rows outputs makers whole own fits suspects doubts served =
      record {
        sound = ahead.changed.sound;
        named = ahead.changed.named;
        texts = ahead.live.texts;
        outputs = outputs ∙ ap (λ m. slice_set p.flags.outputs m change.outputs) is.number ∙ outputs_then served;
        whole = subst (AreMakersWhole p.base) (sym whole) (makers_then served);
        own = fits served;
        doubted = subst (AllZip (IsSuspectOf (known_now p.base) (seen_now p.base) p.settings.bounds) jobs) (sym doubts) (doubted_then served);
      }

  -- what is lent with what is new is told now
  pub lent_is :
      (rows : List (List Bool)) → rows ≡ slice_set p.flags.outputs change.number change.outputs → (makers flags : List Bool) → makers ≡ change.makers →
      flags ≡ change.forced.items → told_by_flags p.base rows makers flags ≡ told_next p change
  lent_is rows outputs makers flags whole force = λ i. told_by_flags p.base (outputs i) (whole i) (force i)

  -- it is told rightly which jobs are forced
  pub force_is : (flags : List Bool) → flags ≡ change.forced.items → AreServed p.base.jobs p.settings.targets → flags ≡ forced_now p.settings p.base
  force_is flags force served = force ∙ force_then served

  -- what is known of reasons fits
  pub own_fits :
      (own : List Own) → own ≡ forgotten (slice_set p.flags.own n Unknown) (readers_at p.readers.items n) → AreServed p.base.jobs p.settings.targets →
      FitOwn own (own_now p.settings p.base)
  own_fits own are served = subst (λ (flags : List Own). FitOwn flags (own_now p.settings p.base)) (sym are) (own_then served)

  -- what the plan keeps stood before the step
  pub follows_then :
      (l : Last) → IsLast p n l → (rows : List (List Bool)) (makers flags : List Bool) → told_by_flags p.base rows makers flags ≡ told_next p change →
      FollowsLent p.settings p.base p.table rows makers flags (Some l)
  follows_then l kept rows makers flags told_is served = (
    told_by_flags before p.flags.outputs p.flags.makers p.flags.forced,
    coe 1 0 (i. StandsBy p.table (told_by_flags before p.flags.outputs p.flags.makers p.flags.forced) (kept.ranking i)) (ahead.live.standing served),
    coe 1 0
        (i.
        AreRowsBut p.table.origins (kept.job i) (kept.readers i) (told_by_flags before p.flags.outputs p.flags.makers p.flags.forced) (told_is i))
        (rows_but served),
  )

  -- the plan with what is new
  pub installed :
      (new : LivePlan) (ranked : Ranked) (held : Bool) (own : List Own) → length ranked.current ≡ length p.settings.targets →
      IsNow p.settings p.base (plan_next p change ranked) held → (AreServed p.base.jobs p.settings.targets → StandsNext p change ranked.ranking) →
      AreRanked p.settings p.base ranked.ranking (plan_next p change ranked) →
      (AreServed p.base.jobs p.settings.targets → FitOwn own (own_now p.settings p.base)) → new.base ≡ p.base → new.settings ≡ p.settings →
      new.plan ≡ plan_kept new.base new.ranking ranked.current ranked.known new.table new.flags →
      new.ranking ≡ ranked.ranking → new.held ≡ held →
      new.flags.outputs ≡ slice_set p.flags.outputs change.number change.outputs → new.flags.makers ≡ change.makers →
      new.flags.suspects ≡ change.suspects.items → new.flags.made ≡ p.flags.made → new.flags.own ≡ own → new.flags.forced ≡ change.forced.items → new.table ≡ p.table →
      new.readers ≡ p.readers → new.commanded ≡ p.commanded → new.limits ≡ p.limits → IsLive new
  installed new ranked held flags targets now stands are fits base settings made ranks back outputs makers suspects kept own force table readers commanded limits =
      coe 1 0
      (i.
      IsLive
      (record new {
        base = base i;
        settings = settings i;
        plan = planned i;
        ranking = ranks i;
        held = back i;
        table = table i;
        readers = readers i;
        commanded = commanded i;
        limits = limits i;
        flags = record { outputs = its i; makers = makers i; suspects = suspects i; own = own i; forced = force i; made = kept i };
      }))
      (record {
        sound = ahead.changed.sound;
        texts = ahead.live.texts;
        each = states_each p.base.jobs p.settings.targets p.table (told_next p change) ranked.ranking ahead.live.table;
        targets = targets;
        now = now;
        table = ahead.live.table;
        flags = λ served.
            record {
              outputs = outputs_then served;
              makers = makers_then served;
              suspects = doubted_then served;
              own = fits served;
              forced = force_then served;
            };
        made = ahead.live.made;
        readers = ahead.live.readers;
        standing = λ served. subst (λ (rows : TellsRows). StandsBy p.table rows ranked.ranking) told_is (stands served);
        ranked = are;
        named = ahead.changed.named;
        limits = ahead.live.limits;
        commands = ahead.live.commands;
      })
    where
      told_is : told_next p change ≡ told_by_flags p.base (slice_set p.flags.outputs n change.outputs) change.makers change.forced.items
      told_is = ap (λ m. told_by_flags p.base (slice_set p.flags.outputs m change.outputs) change.makers change.forced.items) is.number

      told_new : told_by_flags new.base new.flags.outputs new.flags.makers new.flags.forced ≡ told_next p change
      told_new = λ i. told_by_flags (base i) (outputs i) (makers i) (force i)

      planned : new.plan ≡ plan_next p change ranked
      planned = made ∙ (λ i. record { states = states_by (table i) (told_new i) (ranks i); current = ranked.current; known = ranked.known })

      its : new.flags.outputs ≡ slice_set p.flags.outputs n change.outputs
      its = outputs ∙ ap (λ m. slice_set p.flags.outputs m change.outputs) is.number
