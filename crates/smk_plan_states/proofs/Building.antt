-- States by their ranks, with the reasons of those that are Dirty, are those of the table.
use Rattle.std.proofs.Common.{◌≡◌, ◌∙◌, ◌<◌, ◌≤◌, ◌+◌, ℕ, zero, suc, length, take, drop, get_or, add-one, Bool, true, false, not, cond, ◌&&◌, List, [], ◌∷◌, ◌++◌, map, find, refl, sym, ap, subst, Option, Some, None, option_map}
use Rattle.std.specs.Prelude.{bytes_eq}
use Rattle.std.specs.Option.{option_and_then}
use Rattle.std.specs.List.{slice_get}
use Rattle.std.proofs.lemmas.List.{map-append, take_all}
use Rattle.smk_world.specs.World.{in_paths}
use Rattle.smk_world.specs.Trees.{Path}
use Rattle.smk_flow.specs.declared.job.Job.{Job}
use Rattle.smk_chain.specs.declared.jobs.Jobs.{Jobs}
use Rattle.smk_chain.specs.Derive.{distinct}
use Rattle.smk_trigger.specs.declared.reason.Reason.{Reason}
use Rattle.smk_trigger.specs.declared.reason.Reason.TheVariants.{Upstream, Forced}
use Rattle.smk_trigger.specs.declared.reason.State.{State}
use Rattle.smk_trigger.specs.declared.reason.State.TheVariants.{Open, Dirty, Restore, Clean}
use Rattle.smk_trigger.specs.JobStates.{is_dirty}
use Rattle.smk_trigger.specs.Reasons.{when}
use Rattle.smk_plan.specs.States.{by_reasons, unless_clean, while_running, gathers_from, job_path, made_by, is_forced, is_open_now, is_read_now, is_to_restore, kept_state, makes, reasons, state_of, test_some}
use Rattle.smk_plan.specs.Sights.{job_at}
use Rattle.smk_plan_states.specs.declared.lines.Input.{Input}
use Rattle.smk_plan_states.specs.declared.lines.Line.{Line}
use Rattle.smk_plan_states.specs.declared.lines.Origin.{Origin}
use Rattle.smk_plan_states.specs.declared.ranks.Rank.{Rank}
use Rattle.smk_plan_states.specs.declared.ranks.Rank.TheVariants.{Open as AtOpen}
use Rattle.smk_plan_states.specs.declared.rows.Rows.{Rows}
use Rattle.smk_plan_states.specs.Shapes.{Site}
use Rattle.smk_plan_states.specs.Judged.{Judging, with_states}
use Rattle.smk_plan_states.specs.Paths.{site_at}
use Rattle.smk_plan_states.specs.Passes.{state_at, is_dirty_told}
use Rattle.smk_plan_states.specs.Lines.{origin_of, line_of}
use Rattle.smk_plan_states.specs.Rows.{forced_at, reasons_at}
use Rattle.smk_plan_states.specs.Moment.{IsMoment}
use Rattle.smk_plan_states.specs.Ranks.{rank_of, plain_state, state_by}
use Rattle.smk_plan_states.specs.Ranking.{upstream_paths}
use Rattle.smk_laws_plan.proofs.CurrentLists.{In, in_left, distinct_in}
use Rattle.smk_laws_plan.proofs.PlanStates.{filter_same}
use Rattle.smk_plan_states.proofs.Apart.{each_in}
use Rattle.smk_plan_states.proofs.Meaning.{maker_is}
use Rattle.smk_plan_states.proofs.Told.{IsReadOf, told_below, read_of}
use Rattle.smk_plan_states.proofs.FirstPass.{own_of, at_split}
use Rattle.smk_plan_states.proofs.Awaiting.{map_twice}
use Rattle.smk_plan_states.proofs.ByRank.{upstream_are, size, here, line_there, reasons_there, forced_there, running_there}
use Rattle.smk_plan_states.proofs.Flags.{split_at}

-- ## One state

plain_is : (opened : Bool) (rs : List Reason) (kept : Bool) → plain_state (rank_of (cond opened Open (by_reasons rs kept))) rs ≡ cond opened Open (by_reasons rs kept)
plain_is true rs kept = refl
plain_is false (r ∷ rs) kept = refl
plain_is false [] true = refl
plain_is false [] false = refl

plain_running : (opened : Bool) (rs : List Reason) (kept : Bool) → plain_state (rank_of (unless_clean (cond opened Open (by_reasons rs kept)))) rs ≡ unless_clean (cond opened Open (by_reasons rs kept))
plain_running true rs kept = refl
plain_running false (r ∷ rs) kept = refl
plain_running false [] true = refl
plain_running false [] false = refl

built :
    (o : Option State) (opened : Bool) (rs : List Reason) (kept : Bool) →
    state_by o (rank_of (while_running o (cond opened Open (by_reasons rs kept)))) rs ≡ while_running o (cond opened Open (by_reasons rs kept))
built None opened rs kept = plain_is opened rs kept
built (Some (Dirty own)) opened rs kept = refl
built (Some Open) opened rs kept = plain_running opened rs kept
built (Some Restore) opened rs kept = plain_running opened rs kept
built (Some Clean) opened rs kept = plain_running opened rs kept

state_there : (f : Job → State) (js : List Job) (number : Option ℕ) → state_at (map f js) number ≡ option_map f (option_and_then (job_at js) number)
state_there f js None = refl
state_there f js (Some n) = go js n
  where
    go : (js : List Job) (n : ℕ) → slice_get (map f js) n ≡ option_map f (job_at js n)
    go [] n = refl
    go (j ∷ js) zero = refl
    go (j ∷ js) (suc n) = go js n

-- ## The jobs

module _
    (at : Judging) (J : Jobs) (ss : List State) (lines : List Line) (origins : List Origin) (rows : Rows) (used : List Bool)
    (h : IsMoment at J ss lines origins rows used) where
  abbrev late : Job → State
  late = state_of at.image at.settings at.progress (with_states J ss)

  abbrev paired : Job → Job × State
  paired j = (j, late j)

  dirty_same : (k : Job) → In k J.jobs → (q : Path) → In q (in_paths k.recipe) → is_dirty_told ss (site_at at.image J) q ≡ made_by (with_states J ss) is_dirty q
  dirty_same k there q i =
      let r = read_of J 0 J.jobs k h.served.reads there in
      let t = told_below at.image J r.0 q (each_in (IsReadOf J r.0) (in_paths k.recipe ++ gathers_from k) q r.1 (in_left q (in_paths k.recipe) (gathers_from k) i)) in
      ap (test_some (λ (s : Site). test_some is_dirty (state_at ss s.job))) t.1.found
      ∙ ap (λ (xs : List State). test_some is_dirty (state_at xs t.0.job)) h.solved
      ∙ ap (test_some is_dirty) (state_there late J.jobs t.0.job ∙ ap (option_map late) (sym t.1.maker))
      ∙ go (find (λ j. makes j q) J.jobs)
      ∙ sym (ap (test_some (λ (e : Job × State). is_dirty e.1)) (maker_is at.image at.settings at.progress J ss h.solved q))
    where
      go : (o : Option Job) → test_some is_dirty (option_map late o) ≡ test_some (λ (e : Job × State). is_dirty e.1) (option_map paired o)
      go None = refl
      go (Some j) = refl

  module _ (k : Job) (there : In k J.jobs) where
    abbrev forced : Bool
    forced = is_forced at.image at.settings at.progress (with_states J []) k

    reasons_are :
        own_of at.image at.settings at.progress J k
        ++ (map Upstream (upstream_paths (map rank_of ss) (map (origin_of J.jobs) J.makers) (line_of J at.settings.targets k).inputs) ++ when forced Forced)
        ≡ reasons at.image at.settings at.progress (with_states J ss) k
    reasons_are =
        ap (λ (qs : List Path). own_of at.image at.settings at.progress J k ++ (map Upstream qs ++ when forced Forced))
        (upstream_are at.image J ss (job_path k) (in_paths k.recipe)
        ∙ filter_same (is_dirty_told ss (site_at at.image J)) (made_by (with_states J ss) is_dirty) (distinct bytes_eq (in_paths k.recipe))
        (λ q i. dirty_same k there q (distinct_in bytes_eq (in_paths k.recipe) q i)))

    pub state_here :
        state_by (kept_state at.image at.settings at.progress (with_states J []) k) (rank_of (late k))
        (own_of at.image at.settings at.progress J k
        ++ (map Upstream (upstream_paths (map rank_of ss) (map (origin_of J.jobs) J.makers) (line_of J at.settings.targets k).inputs) ++ when forced Forced))
        ≡ late k
    state_here =
        ap (state_by (kept_state at.image at.settings at.progress (with_states J []) k) (rank_of (late k))) reasons_are
        ∙ built (kept_state at.image at.settings at.progress (with_states J []) k) (is_open_now at.image at.settings at.progress (with_states J ss) k)
        (reasons at.image at.settings at.progress (with_states J ss) k)
        (is_to_restore at.image at.settings at.progress (with_states J ss) k && not (is_read_now at.image at.settings at.progress (with_states J ss) k))

  -- one state more
  pub build_step :
      (number : ℕ) (line : Line) (inputs : List Input) (force : Bool) (own : List Reason) (begun : Option State) (rank : Rank) (ranks : List Rank) (state : State) (found new : List State) →
      number < length lines → line ≡ get_or lines number line → inputs ≡ line.inputs → force ≡ get_or (forced_at at J) number false → own ≡ get_or (reasons_at at J) number [] →
      begun ≡ get_or rows.running.now number None → ranks ≡ map rank_of ss → rank ≡ get_or ranks number AtOpen →
      ((alone : List Reason) → own ≡ alone ++ when force Forced → state ≡ state_by begun rank (alone ++ (map Upstream (upstream_paths ranks origins inputs) ++ when force Forced))) →
      new ≡ found ++ state ∷ [] → found ≡ map late (take number J.jobs) → new ≡ map late (take (number + 1) J.jobs)
  build_step number line inputs force own begun rank ranks state found new lt l ins f o b rs r made n sofar =
      let within : number < length J.jobs = subst (λ (c : ℕ). number < c) (size at J ss lines origins rows used h) lt in
      let p = split_at J.jobs number within in
      let before = take number J.jobs in
      let after = drop (suc number) J.jobs in
      let k = p.0 in
      let there = sym p.2 in
      let line_is : line ≡ line_of J at.settings.targets k = l ∙ line_there at J ss lines origins rows used h before k after p.1 number there line in
      let forced_is = f ∙ forced_there at J ss lines origins rows used h before k after p.1 number there in
      let own_is = o ∙ reasons_there at J ss lines origins rows used h before k after p.1 number there in
      let begun_is = b ∙ running_there at J ss lines origins rows used h before k after p.1 number there in
      let rank_is : rank ≡ rank_of (late k) =
      r ∙ ap (λ (xs : List Rank). get_or xs number AtOpen) (rs ∙ ap (map rank_of) (h.solved ∙ ap (map late) p.1))
      ∙ got before k after there in
      let alone = own_of at.image at.settings at.progress J k in
      let is : state ≡ late k =
      made alone (own_is ∙ ap (λ (x : Bool). alone ++ when x Forced) (sym forced_is))
      ∙ (λ i. state_by (begun_is i) (rank_is i) (alone ++ (map Upstream (upstream_paths (rs i) (h.each_origin i) ((ins ∙ ap (λ (x : Line). x.inputs) line_is) i)) ++ when (forced_is i) Forced)))
      ∙ state_here k (here at J ss lines origins rows used h before k after p.1 number there) in
      n ∙ (λ i. sofar i ++ is i ∷ [])
      ∙ sym
      (ap (λ m. map late (take m J.jobs)) (add-one number)
      ∙ ap (map late) p.3
      ∙ map-append late before (k ∷ []))
    where
      got : (before : List Job) (k : Job) (after : List Job) → number ≡ length before → get_or (map rank_of (map late (before ++ k ∷ after))) number AtOpen ≡ rank_of (late k)
      got before k after e =
          ap (λ (xs : List Rank). get_or xs number AtOpen) (map_twice rank_of late (before ++ k ∷ after))
          ∙ at_split (λ j. rank_of (late j)) before k after number AtOpen e

  pub build_done : (number : ℕ) (found : List State) → length lines ≤ number → found ≡ map late (take number J.jobs) → found ≡ ss
  build_done number found done sofar =
      sofar ∙ ap (map late) (take_all number J.jobs (subst (λ (c : ℕ). c ≤ number) (size at J ss lines origins rows used h) done)) ∙ sym h.solved
