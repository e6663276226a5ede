-- What is refused by the parts of a plan is what is refused of the image with which they agree.
use Rattle.std.proofs.Common.{◌≡◌, Bool, true, false, not, cond, ◌&&◌, ◌||◌, List, [], ◌∷◌, ◌++◌, map, Some, None, refl, sym, ap, ◌∙◌, append_assoc}
use Rattle.std.specs.Prelude.{if◌then◌else◌, zip, nat_lt}
use Rattle.std.specs.List.{filter, flat_map}
use Rattle.std.proofs.lemmas.List.{map-append}
use Rattle.smk_plan_facts.proofs.Tests.{each_of, each_map}
use Rattle.smk_chain_walk.proofs.Depths.{front_nil, back_nil}
use Rattle.smk_choose.proofs.Listed.{map_map}
use Rattle.smk_base.specs.declared.tree.Amount.{Amount}
use Rattle.smk_world.specs.declared.recipe.Out.{Out}
use Rattle.smk_world.specs.declared.recipe.OutItem.{OutItem}
use Rattle.smk_world.specs.World.{out_paths}
use Rattle.smk_world.specs.Trees.{Path, Each, among, first, outs_of}
use Rattle.smk_flow.specs.Flows.{rule_name}
use Rattle.smk_flow.specs.declared.job.Job.{Job}
use Rattle.smk_store.specs.declared.store.Entry.{Entry}
use Rattle.smk_store.specs.declared.store.Kept.{Kept}
use Rattle.smk_store.specs.declared.store.Kept.TheVariants.{Absent, Unreadable, Held}
use Rattle.smk_store.specs.Images.{Image, stands}
use Rattle.smk_store.specs.Stores.{Known}
use Rattle.smk_store.specs.Loading.{IsStoreOf}
use Rattle.smk_trigger.specs.declared.reason.State.{State}
use Rattle.smk_pick.specs.Rooms.{amount}
use Rattle.smk_plan.specs.declared.fault.PlanFault.{PlanFault}
use Rattle.smk_plan.specs.declared.fault.PlanFault.TheVariants as refused
use Rattle.smk_plan.specs.declared.seen.Sight.{Sight}
use Rattle.smk_plan.specs.Sights.{IsSeenAs, is_guarded}
use Rattle.smk_plan.specs.States.{Plan, Progress, job_path, staged, test_some}
use Rattle.smk_report.specs.declared.fault.Fault.{Fault}
use Rattle.smk_report.specs.declared.fault.Fault.TheVariants as fault
use Rattle.smk_drive.specs.Moments.{Rules}
use Rattle.smk_drive.specs.Refusals.{unless_empty, incomplete, guarded, above_limit, is_ahead, ahead, of_command, refused_of}
use Rattle.smk_plan_states.specs.declared.ranks.Rank.{Rank}
use Rattle.smk_trigger.specs.JobStates.{is_to_run}
use Rattle.smk_plan_states.specs.Ranks.{rank_of}
use Rattle.smk_plan_states.proofs.ByState.{run_of}
use Rattle.smk_plan_table.specs.Parts.{is_marked_in, is_guarded_in, is_before, before_in, unless_none, marked_in, guarded_in, above_by, above_of, above_in, all_above, paths_in, outputs_of, refusals_in}
use Rattle.smk_plan_table.specs.Plans.{begun_at, idle_at, IsUnrefused, fault_in}
use Rattle.smk_plan_table.proofs.Lists.{each_join, each_front, each_back, filter_same, behind, none_there, each_flat, map_flat, tested}

-- ## Outputs

of_items : (Q : Path → Type 0) (items : List OutItem) → Each (λ (o : Out). Q o.path) (flat_map (λ (i : OutItem). i.outs) items) → Each Q (paths_in items)
of_items Q [] h = tt
of_items Q (i ∷ items) h =
    each_join Q (map (λ (o : Out). o.path) i.outs) (paths_in items)
    (each_map Q (λ (o : Out). o.path) i.outs (each_front (λ (o : Out). Q o.path) i.outs (flat_map (λ (i : OutItem). i.outs) items) h))
    (of_items Q items (each_back (λ (o : Out). Q o.path) i.outs (flat_map (λ (i : OutItem). i.outs) items) h))

-- what holds of the outputs of each job holds of all outputs
pub of_outputs : (Q : Path → Type 0) (jobs : List Job) → Each (λ (j : Job). Each (λ (o : Out). Q o.path) (outs_of j.recipe)) jobs → Each Q (outputs_of jobs)
of_outputs Q jobs h =
    each_flat (λ (j : Job). Each (λ (o : Out). Q o.path) (outs_of j.recipe)) Q (λ (j : Job). out_paths j.recipe) (λ (j : Job) k. of_items Q j.recipe.outputs k) jobs h

-- what holds of each job holds of those that are ahead
pub of_front : (P : Job → Type 0) (jobs : List Job) (states : List Rank) (flags : List Bool) → Each P jobs → Each P (before_in jobs states flags)
of_front P [] states flags h = tt
of_front P (j ∷ jobs) [] flags h = tt
of_front P (j ∷ jobs) (s ∷ states) [] h = tt
of_front P (j ∷ jobs) (s ∷ states) (b ∷ flags) h =
    each_join P (if is_before s b then j ∷ [] else []) (before_in jobs states flags) (maybe (is_before s b)) (of_front P jobs states flags h.1)
  where
    maybe : (v : Bool) → Each P (if v then j ∷ [] else [])
    maybe true = (h.0, tt)
    maybe false = tt

-- ## Marks and read-only files

marked_entry : (kept : Kept) (marked noted : Bool) →
    test_some (λ (e : Entry). e.marked) (if stands kept || (marked || noted) then Some (record { kept = kept; marked = marked; noted = noted }) else None) ≡ marked
marked_entry Absent true noted = refl
marked_entry Absent false true = refl
marked_entry Absent false false = refl
marked_entry Unreadable marked noted = refl
marked_entry (Held r) marked noted = refl

pub marked_same : (image : Image) (store : List Known) → IsStoreOf image store → (p : Path) → is_marked_in store p ≡ image.marked p
marked_same image store s p = ap (test_some (λ (e : Entry). e.marked)) (s.entries p) ∙ marked_entry (image.kept p) (image.marked p) (image.noted p)

each_path : (Q : Path → Type 0) → ((p : Path) → Q p) → (ps : List Path) → Each Q ps
each_path Q h [] = tt
each_path Q h (p ∷ ps) = (h p, each_path Q h ps)

guarded_same : (image : Image) (seen : List Sight) (p : Path) → IsSeenAs image seen p → is_guarded_in seen p ≡ is_guarded image p
guarded_same image seen p e = ap (test_some (λ (s : Sight). s.guarded)) e.1

-- ## Jobs that are ahead

abbrev pub front_of : Progress → Plan → List Job
front_of progress plan = before_in plan.jobs (map rank_of plan.states) (begun_at progress plan.jobs)

module _ (rules : Rules) (image : Image) (progress : Progress) (plan : Plan) where
  one_ahead : (b : Bool) (e : Job × State) (es : List (Job × State)) →
      (if b then e.0 ∷ [] else []) ++ map (λ (d : Job × State). d.0) es ≡ map (λ (d : Job × State). d.0) (cond b (e ∷ es) es)
  one_ahead true e es = refl
  one_ahead false e es = refl

  pub ahead_same : (jobs : List Job) (states : List State) →
      before_in jobs (map rank_of states) (begun_at progress jobs) ≡ map (λ (e : Job × State). e.0) (filter (is_ahead rules image progress plan) (zip jobs states))
  ahead_same [] states = refl
  ahead_same (j ∷ jobs) [] = refl
  ahead_same (j ∷ jobs) (s ∷ states) =
      (λ i. (if run_of s i && not (among progress.begun (job_path j)) then j ∷ [] else []) ++ ahead_same jobs states i)
      ∙ one_ahead (is_to_run s && not (among progress.begun (job_path j))) (j, s) (filter (is_ahead rules image progress plan) (zip jobs states))

  -- ## One kind after the other

  none_empty : (paths : List Path) → map (fault_in rules.flow) (unless_none paths) ≡ unless_empty paths
  none_empty [] = refl
  none_empty (p ∷ paths) = refl

  marked_told : (rerun : Bool) (found paths : List Path) → found ≡ paths → map (fault_in rules.flow) (if rerun then [] else unless_none found) ≡ (if rerun then [] else unless_empty paths)
  marked_told true found paths e = refl
  marked_told false found paths e = ap (λ ps. map (fault_in rules.flow) (unless_none ps)) e ∙ none_empty paths

  pub incomplete_same : (store : List Known) → IsStoreOf image store →
      map (fault_in rules.flow) (marked_in store rules.settings.rerun_incomplete (idle_at progress plan.jobs)) ≡ incomplete rules image progress plan
  incomplete_same store s =
      marked_told rules.settings.rerun_incomplete (filter (is_marked_in store) (outputs_of (idle_at progress plan.jobs)))
      (filter image.marked (outputs_of (idle_at progress plan.jobs)))
      (filter_same (is_marked_in store) image.marked (outputs_of (idle_at progress plan.jobs))
      (each_path (λ p. is_marked_in store p ≡ image.marked p) (marked_same image store s) (outputs_of (idle_at progress plan.jobs))))

  above_same : (j : Job) → map (fault_in rules.flow) (above_in rules.settings.bounds j) ≡ above_limit rules image progress plan j
  above_same j =
      map_flat (fault_in rules.flow) (above_of j) (λ (b : Amount). if is_above b then told b ∷ [] else []) (λ (b : Amount). one b (is_above b)) rules.settings.bounds
      ∙ tested is_above told rules.settings.bounds
    where
      is_above : Amount → Bool
      is_above b = nat_lt b.count (amount j.amounts b.name)

      told : Amount → Fault
      told b = fault.AboveLimit (rule_name rules.flow j.rule) (job_path j) b.name (amount j.amounts b.name) b.count

      one : (b : Amount) (v : Bool) → map (fault_in rules.flow) (if v then above_by j (amount j.amounts b.name) b ∷ [] else []) ≡ (if v then told b ∷ [] else [])
      one b true = refl
      one b false = refl

  guards_same : (seen : List Sight) (front : List Job) → Each (λ (j : Job). Each (λ (o : Out). IsSeenAs image seen o.path) (outs_of j.recipe)) front →
      map (fault_in rules.flow) (guarded_in seen front) ≡ map fault.Protected (filter (is_guarded image) (outputs_of front))
  guards_same seen front h =
      map_map (fault_in rules.flow) refused.Protected (filter (is_guarded_in seen) (outputs_of front))
      ∙ ap (map fault.Protected) (filter_same (is_guarded_in seen) (is_guarded image) (outputs_of front)
      (of_outputs (λ p. is_guarded_in seen p ≡ is_guarded image p) front
      (each_of (λ (j : Job). Each (λ (o : Out). IsSeenAs image seen o.path) (outs_of j.recipe))
      (λ (j : Job). Each (λ (o : Out). is_guarded_in seen o.path ≡ is_guarded image o.path) (outs_of j.recipe))
      (λ (j : Job). each_of (λ (o : Out). IsSeenAs image seen o.path) (λ (o : Out). is_guarded_in seen o.path ≡ is_guarded image o.path)
      (λ (o : Out). guarded_same image seen o.path) (outs_of j.recipe))
      front h)))

  -- all but the refusals of commands
  abbrev image_refusals : List Fault
  image_refusals =
      incomplete rules image progress plan
      ++ (guarded rules image progress plan
      ++ flat_map (above_limit rules image progress plan) (ahead rules image progress plan))

  abbrev of_commands : List Fault
  of_commands = flat_map (λ (e : Job × State). of_command rules image progress plan e (rules.missing e.0)) (staged plan)

  -- what is refused by the parts, as faults, is what is refused of the plan, but for commands
  refusals_same : (store : List Known) (seen : List Sight) → IsStoreOf image store →
      Each (λ (j : Job). Each (λ (o : Out). IsSeenAs image seen o.path) (outs_of j.recipe)) plan.jobs →
      map (fault_in rules.flow) (refusals_in store seen rules.settings (idle_at progress plan.jobs) (front_of progress plan)) ≡ image_refusals
  refusals_same store seen s h =
      let front = front_of progress plan in
      let turn = fault_in rules.flow in
      let same : front ≡ ahead rules image progress plan = ahead_same plan.jobs plan.states in
      map-append turn (marked_in store rules.settings.rerun_incomplete (idle_at progress plan.jobs)) (guarded_in seen front ++ all_above rules.settings.bounds front)
      ∙ ap (λ fs. fs ++ map turn (guarded_in seen front ++ all_above rules.settings.bounds front)) (incomplete_same store s)
      ∙ ap (λ fs. incomplete rules image progress plan ++ fs)
      (map-append turn (guarded_in seen front) (all_above rules.settings.bounds front)
      ∙ ap (λ fs. fs ++ map turn (all_above rules.settings.bounds front))
      (guards_same seen front (of_front (λ (j : Job). Each (λ (o : Out). IsSeenAs image seen o.path) (outs_of j.recipe)) plan.jobs (map rank_of plan.states) (begun_at progress plan.jobs) h))
      ∙ ap (λ fs. map fault.Protected (filter (is_guarded image) (outputs_of front)) ++ fs)
      (map_flat turn (above_in rules.settings.bounds) (above_limit rules image progress plan) above_same front)
      ∙ ap (λ ks. map fault.Protected (filter (is_guarded image) (outputs_of ks)) ++ flat_map (above_limit rules image progress plan) ks) same)

  -- the first of them is the first refusal of the plan
  pub refused_first : (store : List Known) (seen : List Sight) → IsStoreOf image store →
      Each (λ (j : Job). Each (λ (o : Out). IsSeenAs image seen o.path) (outs_of j.recipe)) plan.jobs →
      (f : PlanFault) → Some f ≡ first (refusals_in store seen rules.settings (idle_at progress plan.jobs) (front_of progress plan)) →
      (rest : List Fault) × (refused_of rules image progress plan ≡ fault_in rules.flow f ∷ rest)
  refused_first store seen s h f e =
      let turn = fault_in rules.flow in
      let split = behind f (refusals_in store seen rules.settings (idle_at progress plan.jobs) (front_of progress plan)) e in
      let A = incomplete rules image progress plan in
      let B = guarded rules image progress plan in
      let C = flat_map (above_limit rules image progress plan) (ahead rules image progress plan) in (
        map turn split.0 ++ of_commands,
        sym (append_assoc A (B ++ C) of_commands ∙ ap (λ fs. A ++ fs) (append_assoc B C of_commands))
            ∙ ap (λ fs. fs ++ of_commands) (sym (refusals_same store seen s h) ∙ ap (map turn) split.1),
      )

  -- where there is none, the plan isn't refused
  pub unrefused_all : (store : List Known) (seen : List Sight) → IsStoreOf image store →
      Each (λ (j : Job). Each (λ (o : Out). IsSeenAs image seen o.path) (outs_of j.recipe)) plan.jobs →
      None ≡ first (refusals_in store seen rules.settings (idle_at progress plan.jobs) (front_of progress plan)) → IsUnrefused rules image progress plan
  unrefused_all store seen s h e =
      let A = incomplete rules image progress plan in
      let B = guarded rules image progress plan in
      let C = flat_map (above_limit rules image progress plan) (ahead rules image progress plan) in
      let empty : A ++ (B ++ C) ≡ [] =
      sym (refusals_same store seen s h) ∙ ap (map (fault_in rules.flow)) (none_there (refusals_in store seen rules.settings (idle_at progress plan.jobs) (front_of progress plan)) e) in
      let later = back_nil A (B ++ C) empty in
      record { complete = front_nil A (B ++ C) empty; unguarded = front_nil B C later; within = back_nil B C later }
