-- Jobs that rest or are done, with all that they need, are Clean at the exit.
use Rattle.std.proofs.Common.{◌≡◌, inl, inr, Bool, true, false, ◌&&◌, ◌||◌, not, cond, List, [], ◌∷◌, ◌++◌, map, filter, zip, find, refl, ap, sym, subst, ◌∙◌, bytes_eq, Some, None, true≢false}
use Rattle.std.specs.Prelude.{if◌then◌else◌}
use Rattle.std.specs.List.{list_any}
use Rattle.std.proofs.Math.Bool.{and-false}
use Rattle.smk_base.specs.Path.{is_under}
use Rattle.smk_world.specs.declared.event.Event.{Event}
use Rattle.smk_world.specs.World.{World, IsFormed, run, in_paths, out_paths}
use Rattle.smk_world.specs.Trees.{Path, Each, IsIn, among, folder_over, kind_in}
use Rattle.smk_flow.specs.declared.job.Job.{Job}
use Rattle.smk_flow.specs.Flows.{Flow}
use Rattle.smk_store.specs.Images.{Image, is_source, is_whole}
use Rattle.smk_store.specs.Soundness.{Outside}
use Rattle.smk_store.specs.Trust.{Versions}
use Rattle.smk_chain.specs.Derive.{Derived, derivation, distinct}
use Rattle.smk_laws_protocol.specs.Protocol.{now}
use Rattle.smk_laws_protocol.proofs.Basics.{any_by, each_in, none_by, some_of}
use Rattle.smk_trigger.specs.declared.reason.Reason.{Reason}
use Rattle.smk_trigger.specs.declared.reason.Reason.TheVariants.{Upstream, Forced}
use Rattle.smk_trigger.specs.declared.reason.State.{State}
use Rattle.smk_trigger.specs.declared.reason.State.TheVariants.{Open, Clean}
use Rattle.smk_trigger.specs.JobStates.{is_open, is_dirty, is_clean, is_to_run}
use Rattle.smk_trigger.specs.Reasons.{when}
use Rattle.smk_pick.specs.declared.settings.Force.{Force}
use Rattle.smk_pick.specs.declared.settings.Force.TheVariants.{No}
use Rattle.smk_pick.specs.declared.settings.Settings.{Settings}
use Rattle.smk_plan.specs.States.{Plan, IsPlan, by_force, by_reasons, is_input, job_path, is_current, is_open_now, is_read_now, is_restored, is_to_restore, is_wanted_back, is_whole_by, made_by, maker_of, makes, nothing_done, reasons, staged, stands_whole, state_of, test_some}
use Rattle.smk_laws_history.proofs.CurrentEased.{none_restored}
use Rattle.smk_laws_plan.proofs.CurrentLists.{distinct_in, and_left, or_second, zip_in}
use Rattle.smk_run.specs.Turns.{Turn, is_closed}
use Rattle.smk_safe.specs.Planned.{IsPlain}
use Rattle.smk_safe.proofs.Planned as by_plan
use Rattle.smk_safe.specs.Exit.{IsDueRun, IsKept, Kept, KeptJobsStayClean}
use Rattle.smk_safe.proofs.Left as at_exit
use Rattle.smk_safe.proofs.Base as base
use Rattle.smk_safe.proofs.Table as table

derived_inj : (xs ys : List Job) → Derived xs ≡ Derived ys → xs ≡ ys
derived_inj xs ys e = cc

open_by : (b : Bool) (rs : List Reason) (x : Bool) → is_open (if b then Open else by_reasons rs x) ≡ false → b ≡ false
open_by true rs x h = absurd (true≢false h)
open_by false rs x h = refl

none_forced : (b c : Bool) (force : Force) → force ≡ No → (b && by_force force c) ≡ false
none_forced b c force is = ap (λ x. b && by_force x c) is ∙ and-false b

filter_none : (f : Path → Bool) (xs : List Path) → ((x : Path) → IsIn xs x → f x ≡ false) → filter f xs ≡ []
filter_none f [] h = refl
filter_none f (x ∷ xs) h = ap (λ b. cond b (x ∷ filter f xs) (filter f xs)) (h x (inl refl)) ∙ filter_none f xs (λ y k. h y (inr k))

-- what no temporary output is wanted back by jobs to run is read
still_wanted : (a b r u v : Bool) → (u ≡ true → r ≡ true) → (a || (b || (r || u))) ≡ true → (a || (b || (r || v))) ≡ true
still_wanted true b r u v h k = refl
still_wanted false true r u v h k = refl
still_wanted false false true u v h k = refl
still_wanted false false false u v h k = absurd (true≢false (sym (h k)))

module _ (o : Outside) (entry : World) (H : Versions) (flow : Flow) (settings : Settings) (plan : Plan) (ts : List Turn) (es : List Event) (ran : IsDueRun o entry H flow settings plan ts es)
    (free : settings.force ≡ No) (temps : Each (λ (j : Job). j.temps ≡ []) plan.jobs) (closed : Each (λ (t : Turn). is_closed t.course ≡ true) ts) (later : Plan)
    (is_later : IsPlan flow (now o (run entry es)) settings nothing_done later) (lists : later.lists ≡ plan.lists) where
  abbrev exit : World
  exit = run entry es

  abbrev before : Image
  before = now o entry

  abbrev after_run : Image
  after_run = now o exit

  abbrev st : Job → State
  st j = state_of before settings nothing_done plan j

  abbrev f : Job → State
  f j = state_of after_run settings nothing_done later j

  jobs_same : later.jobs ≡ plan.jobs
  jobs_same = derived_inj later.jobs plan.jobs (sym is_later.derived ∙ ap (λ L. derivation flow after_run L settings.targets) lists ∙ at_exit.derived_after o entry H flow settings plan ts es ran closed)

  in_later : (j : Job) → IsIn plan.jobs j → IsIn later.jobs j
  in_later j i = subst (λ js. IsIn js j) (sym jobs_same) i

  plain_later : Each IsPlain later.jobs
  plain_later = subst (Each IsPlain) (sym jobs_same) ran.plain

  abbrev left_now : Path → Bool
  left_now p = is_restored after_run settings nothing_done later p

  left_none : (p : Path) → left_now p ≡ false
  left_none p = none_restored after_run settings nothing_done later refl p

  formed : IsFormed exit
  formed = (at_exit.sound_exit o entry H flow settings plan ts es ran closed).formed

  maker_later : (k : Job) (q : Path) → IsIn plan.jobs k → makes k q ≡ true → maker_of later q ≡ Some (k, f k)
  maker_later k q i m = by_plan.maker_known o exit flow settings later formed is_later plain_later k q (in_later k i) m

  maker_then : (k : Job) (q : Path) → IsIn plan.jobs k → makes k q ≡ true → maker_of plan q ≡ Some (k, st k)
  maker_then k q i m = by_plan.maker_known o entry flow settings plan ran.sound.formed ran.planned ran.plain k q i m

  -- ## Nothing is to be restored

  wanted_on : (j : Job) (p : Path) → IsIn plan.jobs j → is_wanted_back after_run settings nothing_done later j p ≡ true → is_wanted_back before settings nothing_done plan j p ≡ true
  wanted_on j p ij h =
      let read = list_any (λ (k : Job). among (in_paths k.recipe) p && true) plan.jobs in
      let run_later = is_input later (λ e. is_to_run e.1) p in
      let run_then = is_input plan (λ e. is_to_run e.1) p in
      let none = each_in (λ (k : Job). k.temps ≡ []) plan.jobs j temps ij in
      let makes_awaited = not (list_any (among []) (out_paths j.recipe)) in
      let read_later : is_input later (λ e. true) p ≡ read =
      table.read_is later f is_later.states plain_later p ∙ ap (list_any (λ (k : Job). among (in_paths k.recipe) p && true)) jobs_same in
      let is : is_wanted_back after_run settings nothing_done later j p ≡ (among settings.targets p || (among [] p || (read || run_later))) =
      table.wanted_is later f is_later.states plain_later after_run settings nothing_done j p
      ∙ (λ n. among settings.targets p || (among [] p || ((not (among (none n) p && makes_awaited) && read_later n) || run_later))) in
      let was : is_wanted_back before settings nothing_done plan j p ≡ (among settings.targets p || (among [] p || (read || run_then))) =
      table.wanted_is plan st ran.planned.states ran.plain before settings nothing_done j p
      ∙ (λ n. among settings.targets p || (among [] p || ((not (among (none n) p && makes_awaited) && table.read_is plan st ran.planned.states ran.plain p n) || run_then))) in
      was ∙ still_wanted (among settings.targets p) (among [] p) read run_later run_then (λ r. reads_it (sym (table.read_by_run_is later f is_later.states plain_later p) ∙ r)) (sym is ∙ h)
    where
      reads_it : list_any (λ (k : Job). among (in_paths k.recipe) p && is_to_run (f k)) later.jobs ≡ true → list_any (λ (k : Job). among (in_paths k.recipe) p && true) plan.jobs ≡ true
      reads_it r =
          let k = some_of (λ (k : Job). among (in_paths k.recipe) p && is_to_run (f k)) later.jobs r in
          any_by (λ (x : Job). among (in_paths x.recipe) p && true) plan.jobs k.0 (subst (λ js. IsIn js k.0) jobs_same k.1)
          (ap (λ b. b && true) (and_left (among (in_paths k.0.recipe) p) (is_to_run (f k.0)) k.2))

  -- ## One job

  shut_at : (j : Job) → IsIn plan.jobs j → is_open (f j) ≡ false
  shut_at j ij = by_plan.each_map (λ s. is_open s ≡ false) f later.jobs j (subst (Each (λ s. is_open s ≡ false)) is_later.states (by_plan.all_shut o exit flow settings later formed is_later plain_later)) (in_later j ij)

  clean_one : (j : Job) → IsIn plan.jobs j → base.HasDone o entry H flow settings plan ts es ran closed left_now left_none j → base.HaveDone o entry H flow settings plan ts es ran closed left_now left_none j → ((q : Path) (k : Job) → IsIn (in_paths j.recipe) q → IsIn plan.jobs k → makes k q ≡ true → f k ≡ Clean) → f j ≡ Clean
  clean_one j ij has have cleans =
      let shut = open_by (is_open_now after_run settings nothing_done later j) (reasons after_run settings nothing_done later j) (is_to_restore after_run settings nothing_done later j && not (is_read_now after_run settings nothing_done later j)) (shut_at j ij) in
      let own = base.own_clean o entry H flow settings plan ts es ran closed left_now left_none j ij has have in
      let upstream : filter (made_by later is_dirty) (distinct bytes_eq (in_paths j.recipe)) ≡ [] =
      filter_none (made_by later is_dirty) (distinct bytes_eq (in_paths j.recipe)) (λ q i. calm q (distinct_in bytes_eq (in_paths j.recipe) q i)) in
      let forced = none_forced (not (among [] (job_path j))) (list_any (makes j) settings.targets) settings.force free in
      let no_reasons : reasons after_run settings nothing_done later j ≡ [] = λ n. own n ++ (map Upstream (upstream n) ++ when (forced n) Forced) in
      let restored : is_to_restore after_run settings nothing_done later j ≡ false =
      none_by (λ p. not (is_whole after_run p (kind_in j.recipe p)) && is_wanted_back after_run settings nothing_done later j p) (out_paths j.recipe)
      (λ p ip. base.not_restored o entry H flow settings plan ts es ran closed left_now left_none j p (is_wanted_back after_run settings nothing_done later j p) ij has ip (wanted_on j p ij)) in
      λ n. if shut n then Open else by_reasons (no_reasons n) (restored n && not (is_read_now after_run settings nothing_done later j))
    where
      calm : (q : Path) → IsIn (in_paths j.recipe) q → made_by later is_dirty q ≡ false
      calm q iq = elim (base.maker_cases o entry H flow settings plan ts es ran closed left_now left_none q) [
        | inr none ↦ ap (test_some (λ (e : Job × State). is_dirty e.1)) (by_plan.no_maker o exit flow settings later formed is_later plain_later q (λ k i. none k (subst (λ js. IsIn js k) jobs_same i)))
        | inl h ↦ ap (test_some (λ (e : Job × State). is_dirty e.1)) (maker_later h.0 q h.1.0 h.1.1) ∙ ap is_dirty (cleans q h.0 iq h.1.0 h.1.1)
      ]

  -- ## All that are kept

  in_plan : (j : Job) → IsKept plan ts j → IsIn plan.jobs j
  in_plan j (Kept _ s i has more) = (zip_in st plan.jobs (j, s) (subst (λ ss. IsIn (zip plan.jobs ss) (j, s)) ran.planned.states i)).0

  has_done : (j : Job) → IsKept plan ts j → base.HasDone o entry H flow settings plan ts es ran closed left_now left_none j
  has_done j (Kept _ s i has more) run_now = has (ap is_to_run (zip_in st plan.jobs (j, s) (subst (λ ss. IsIn (zip plan.jobs ss) (j, s)) ran.planned.states i)).1 ∙ run_now)

  inputs_kept : (j : Job) → IsKept plan ts j → (q : Path) (k : Job) → IsIn (in_paths j.recipe) q → IsIn plan.jobs k → makes k q ≡ true → IsKept plan ts k
  inputs_kept j (Kept _ s i has more) q k iq ik m = more q k (st k) iq (maker_then k q ik m)

  clean_at : (j : Job) → IsKept plan ts j → f j ≡ Clean
  clean_at j (Kept _ s i has more) =
      let kept : IsKept plan ts j = Kept j s i has more in
      clean_one j (in_plan j kept) (has_done j kept) (λ q iq k h. has_done k (inputs_kept j kept q k iq h.0 h.1)) (λ q k iq ik m. clean_at k (more q k (st k) iq (maker_then k q ik m)))

  kept_clean : (j : Job) → IsKept plan ts j → IsIn (staged later) (j, Clean)
  kept_clean j kept =
      subst (λ ss. IsIn (zip later.jobs ss) (j, Clean)) (sym is_later.states)
      (subst (λ s. IsIn (zip later.jobs (map f later.jobs)) (j, s)) (clean_at j kept) (by_plan.zip_at f later.jobs j (in_later j (in_plan j kept))))

  kept_current : (j : Job) (p : Path) → IsKept plan ts j → IsIn (out_paths j.recipe) p → IsIn settings.targets p → is_current after_run settings nothing_done later p ≡ true
  kept_current j p kept ip target =
      let ij = in_plan j kept in
      let none : folder_over j.recipe p ≡ None = ap (find (is_under p)) (by_plan.no_folders j (each_in IsPlain plan.jobs j ran.plain ij)) in
      or_second (is_source after_run p) _
      (ap (test_some (λ (e : Job × State). is_clean e.1 && stands_whole after_run p e.0)) (maker_later j p ij (base.own_makes o entry H flow settings plan ts es ran closed left_now left_none j p ip))
      ∙ (λ n. is_clean (clean_at j kept n) && is_whole_by after_run p (base.kind_is o entry H flow settings plan ts es ran closed left_now left_none j p ij n) (none n)) ∙ base.target_whole o entry H flow settings plan ts es ran closed left_now left_none j p ij (has_done j kept) target ip)

pub kept_jobs_stay_clean : KeptJobsStayClean
kept_jobs_stay_clean o entry H flow settings plan ts es ran free temps closed later is_later lists = record {
  jobs = jobs_same o entry H flow settings plan ts es ran free temps closed later is_later lists;
  clean = kept_clean o entry H flow settings plan ts es ran free temps closed later is_later lists;
  current = kept_current o entry H flow settings plan ts es ran free temps closed later is_later lists;
}
