-- What may be refused of a plan whose jobs have all fields of their commands.
use Rattle.std.proofs.Common.{◌≡◌, ◌⊎◌, ℕ, Bool, true, false, cond, List, [], ◌∷◌, ◌++◌, filter, flat_map, length, refl, sym, subst, inl, inr, not, Option, Some, None}
use Rattle.std.specs.Prelude.{nat_lt}
use Rattle.smk_base.specs.declared.tree.Amount.{Amount}
use Rattle.smk_world.specs.World.{out_paths}
use Rattle.smk_world.specs.Trees.{IsIn, Path}
use Rattle.smk_pattern.specs.Shapes.{Text}
use Rattle.smk_flow.specs.declared.job.Job.{Job}
use Rattle.smk_flow.specs.Flows.{rule_name}
use Rattle.smk_store.specs.Images.{Image}
use Rattle.smk_trigger.specs.declared.reason.State.{State}
use Rattle.smk_trigger.specs.JobStates.{is_open}
use Rattle.smk_pick.specs.Rooms.{amount, threads_in}
use Rattle.smk_plan.specs.States.{Plan, Progress, job_path, staged}
use Rattle.smk_plan.specs.Sights.{is_guarded}
use Rattle.smk_report.specs.declared.fault.Fault.{Fault}
use Rattle.smk_report.specs.declared.fault.Fault.TheVariants as fault
use Rattle.smk_drive.specs.Moments.{Rules}
use Rattle.smk_drive.specs.Refusals.{above_limit, ahead, guarded, has_nul, incomplete, is_ahead, is_running, of_command, refused_of, too_long, unless_empty}
use Rattle.smk_laws_plan.proofs.CurrentLists.{flat_in, in_either, map_in, none_some}
use Rattle.smk_laws_complete.specs.Planned.{AboveLimit, Incomplete, MayStop, Protected, TooLong}

module _ (rules : Rules) (first : Image) (since : Progress) where
  abbrev May : Fault → Type 0
  May f = MayStop rules first since f

  marked : (paths : List Path) (f : Fault) → IsIn (unless_empty paths) f → May f
  marked [] f h = absurd h
  marked (p ∷ paths) f (inl e) = subst May (sym e) (Incomplete (p ∷ paths))
  marked (p ∷ paths) f (inr h) = absurd h

  long : (rule text : Text) (f : Fault) → IsIn (too_long rule text) f → May f
  long rule text f h = go (has_nul text) h
    where
      one : (bytes : ℕ) → IsIn (fault.TooLong rule bytes ∷ []) f → May f
      one bytes (inl e) = subst May (sym e) (TooLong rule bytes)
      one bytes (inr k) = absurd k

      more : (b : Bool) → IsIn (cond b (fault.TooLong rule (length text) ∷ []) []) f → May f
      more true k = one (length text) k
      more false k = absurd k

      go : (b : Bool) → IsIn (cond b (fault.TooLong rule 0 ∷ []) (cond (nat_lt 120000 (length text)) (fault.TooLong rule (length text) ∷ []) [])) f → May f
      go true k = one 0 k
      go false k = more (nat_lt 120000 (length text)) k

  module _ (image : Image) (progress : Progress) (plan : Plan) where
    not_complete : (f : Fault) → IsIn (incomplete rules image progress plan) f → May f
    not_complete f h = go rules.settings.rerun_incomplete h
      where
        go :
            (b : Bool) →
            IsIn
            (cond b []
            (unless_empty
            (filter image.marked (flat_map (λ (j : Job). out_paths j.recipe) (filter (λ j. not (is_running rules image progress plan j)) plan.jobs)))))
            f → May f
        go true k = absurd k
        go false k = marked _ f k

    in_the_way : (f : Fault) → IsIn (guarded rules image progress plan) f → May f
    in_the_way f h =
        let r = map_in fault.Protected (filter (is_guarded image) (flat_map (λ (j : Job). out_paths j.recipe) (ahead rules image progress plan))) f h in
        subst May (sym r.2) (Protected r.0)

    too_much : (j : Job) (f : Fault) → IsIn (above_limit rules image progress plan j) f → May f
    too_much j f h =
        let r =
        map_in (λ (b : Amount). fault.AboveLimit (rule_name rules.flow j.rule) (job_path j) b.name (amount j.amounts b.name) b.count)
        (filter (λ (b : Amount). nat_lt b.count (amount j.amounts b.name)) rules.settings.bounds) f h in
        subst May (sym r.2) (AboveLimit (rule_name rules.flow j.rule) (job_path j) r.0.name (amount j.amounts r.0.name) r.0.count)

    commanded :
        (e : Job × State) (f : Fault) → (is_open e.1 ≡ false → rules.missing e.0 ≡ None) → IsIn (of_command rules image progress plan e (rules.missing e.0)) f →
        May f
    commanded e f known h = go (rules.missing e.0) refl h
      where
        text :
            (b : Bool) → IsIn (cond b (too_long (rule_name rules.flow e.0.rule) (rules.command e.0 (threads_in rules.settings.cores e.0.threads))) []) f →
            May f
        text true k = long (rule_name rules.flow e.0.rule) (rules.command e.0 (threads_in rules.settings.cores e.0.threads)) f k
        text false k = absurd k

        unknown :
            (b : Bool) (word : Text) → is_open e.1 ≡ b → rules.missing e.0 ≡ Some word →
            IsIn (cond b [] (fault.UnknownField (rule_name rules.flow e.0.rule) word ∷ [])) f → May f
        unknown true word s m k = absurd k
        unknown false word s m k = absurd (none_some (rules.missing e.0) word (known s) m)

        go : (o : Option Text) → rules.missing e.0 ≡ o → IsIn (of_command rules image progress plan e o) f → May f
        go (Some word) m k = unknown (is_open e.1) word refl m k
        go None m k = text (is_ahead rules image progress plan e) k

    abbrev of_commands : List Fault
    of_commands = flat_map (λ (e : Job × State). of_command rules image progress plan e (rules.missing e.0)) (staged plan)

    abbrev of_limits : List Fault
    of_limits = flat_map (above_limit rules image progress plan) (ahead rules image progress plan)

    -- Nothing is refused of it but for how the folder stands, or what the call allows.
    pub plan_stops :
        (f : Fault) → ((e : Job × State) → IsIn (staged plan) e → is_open e.1 ≡ false → rules.missing e.0 ≡ None) →
        IsIn (refused_of rules image progress plan) f → May f
    plan_stops f known h = first_part (in_either f (incomplete rules image progress plan) _ h)
      where
        last : IsIn of_commands f → May f
        last k =
            let r = flat_in (λ (e : Job × State). of_command rules image progress plan e (rules.missing e.0)) (staged plan) f k in
            commanded r.0 f (known r.0 r.1) r.2

        third : IsIn of_limits f ⊎ IsIn of_commands f → May f
        third (inl k) = let r = flat_in (above_limit rules image progress plan) (ahead rules image progress plan) f k in too_much r.0 f r.2
        third (inr k) = last k

        second : IsIn (guarded rules image progress plan) f ⊎ IsIn (of_limits ++ of_commands) f → May f
        second (inl k) = in_the_way f k
        second (inr k) = third (in_either f of_limits _ k)

        first_part : IsIn (incomplete rules image progress plan) f ⊎ IsIn (guarded rules image progress plan ++ (of_limits ++ of_commands)) f → May f
        first_part (inl k) = not_complete f k
        first_part (inr k) = second (in_either f (guarded rules image progress plan) _ k)
