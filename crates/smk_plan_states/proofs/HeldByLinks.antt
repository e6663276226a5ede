-- Which jobs are held back, by links and flags: it is what is told of it.
use Rattle.std.proofs.Common.{◌≡◌, ◌∙◌, ◌<◌, ℕ, length, get_or, Bool, false, ◌&&◌, ◌||◌, List, [], ◌∷◌, map, zip, refl, sym, ap, subst, Option, is_none}
use Rattle.std.specs.List.{list_any}
use Rattle.std.proofs.lemmas.List.{length-map}
use Rattle.smk_world.specs.Trees.{Path}
use Rattle.smk_flow.specs.declared.job.Job.{Job}
use Rattle.smk_chain.specs.declared.jobs.Jobs.{Jobs}
use Rattle.smk_trigger.specs.declared.reason.State.{State}
use Rattle.smk_trigger.specs.JobStates.{is_clean}
use Rattle.smk_plan.specs.States.{is_held_back, kept_state}
use Rattle.smk_plan.specs.Sights.{whole_outputs}
use Rattle.smk_plan_states.specs.declared.lines.Line.{Line}
use Rattle.smk_plan_states.specs.declared.lines.Origin.{Origin}
use Rattle.smk_plan_states.specs.declared.rows.Rows.{Rows}
use Rattle.smk_plan_states.specs.Judged.{Judging, any_held_back, with_states}
use Rattle.smk_plan_states.specs.Parts.{gone_outputs, parts_of}
use Rattle.smk_plan_states.specs.Held.{is_needed_by, needed_told}
use Rattle.smk_plan_states.specs.Lines.{origin_of, line_of}
use Rattle.smk_plan_states.specs.Moment.{IsMoment}
use Rattle.smk_plan_states.proofs.ByState.{run_state, needed_state, held_state}
use Rattle.smk_laws_plan.proofs.CurrentLists.{In}
use Rattle.smk_laws_plan.proofs.PlanStates.{any_same}
use Rattle.smk_plan_states.proofs.ReadOthers.{any_zipped}
use Rattle.smk_plan_states.proofs.HeldBack.{held_one}
use Rattle.smk_plan_states.proofs.ByRank.{kept_by_flags, told_paths, told_parts, is_solved, read_now, used_told}
use Rattle.smk_plan_states.proofs.Needing.{late, runs, read_by, linked_by, flags_needed}

any_five :
    {A B C D E F : Type 0} (f : B × (C × (D × (E × F))) → Bool) (b : A → B) (c : A → C) (d : A → D) (e : A → E) (g : A → F) (xs : List A) →
    list_any f (zip (map b xs) (zip (map c xs) (zip (map d xs) (zip (map e xs) (map g xs))))) ≡ list_any (λ x. f (b x, (c x, (d x, (e x, g x))))) xs
any_five f b c d e g [] = refl
any_five f b c d e g (x ∷ xs) = ap (λ t. f (b x, (c x, (d x, (e x, g x)))) || t) (any_five f b c d e g xs)

module _
    (at : Judging) (J : Jobs) (ss : List State) (lines : List Line) (origins : List Origin) (rows : Rows) (used : List Bool)
    (h : IsMoment at J ss lines origins rows used)
    (needed : List Bool) (told : (n : ℕ) → n < length origins → get_or needed n false ≡ needed_state lines ss n) where
  abbrev runs_now : Job → Bool
  runs_now = runs at J ss lines origins rows used h

  abbrev late_now : Job → State
  late_now = late at J ss lines origins rows used h

  abbrev kept_now : Job → Option State
  kept_now = kept_state at.image at.settings at.progress (with_states J [])

  linked : (n : ℕ) → n < length J.makers → get_or needed n false ≡ linked_by J h.served.reads runs_now J.jobs n
  linked n lt =
      told n (subst (λ (c : ℕ). n < c) (sym (ap length h.each_origin ∙ length-map J.makers (origin_of J.jobs))) lt)
      ∙ (λ i. list_any (run_state n) (zip (h.each_line i) (h.solved i)))
      ∙ any_zipped (run_state n) (line_of J at.settings.targets) late_now J.jobs

  needed_same : (q : Path) → needed_told (told_parts at J ss lines origins rows used h) ss q ≡ read_by J h.served.reads runs_now J.jobs q
  needed_same q =
      ap (λ (xs : List State). list_any (is_needed_by q) (zip (told_parts at J ss lines origins rows used h) xs)) h.solved
      ∙ any_zipped (is_needed_by q) (parts_of at.image) late_now J.jobs

  abbrev held : Job → Bool
  held k =
      held_state needed (line_of J at.settings.targets k, (late_now k, (kept_now k, (read_now at J ss lines origins rows used h k, whole_outputs at.image k))))

  held_same : (k : Job) → In k J.jobs → held k ≡ is_held_back at.image at.settings at.progress (with_states J ss) k
  held_same k there =
      let read = sym (used_told at J ss lines origins rows used h k there) in
      let wanted =
      flags_needed at J ss lines origins rows used h k J.jobs (λ j i. i) needed linked
      ∙ sym (any_same (needed_told (told_parts at J ss lines origins rows used h) ss) (read_by J h.served.reads runs_now J.jobs) (gone_outputs at.image k) (λ q i. needed_same q)) in
      let kept = kept_by_flags at.image J at.settings.targets k in
      let solved = is_solved at J ss lines origins rows used h in
      (λ i. (is_none (kept_now k) && is_clean (late_now k)) && (read i && (wanted i || kept i)))
      ∙ held_one at.image at.settings at.progress J at.settings.targets (told_paths at J ss lines origins rows used h) (told_parts at J ss lines origins rows used h) ss
      (map kept_now J.jobs) refl h.served h.solved solved.paths refl refl k there

  pub held_are : list_any (held_state needed) (zip lines (zip ss (zip rows.running.now (zip used rows.outputs.now)))) ≡ any_held_back at J ss
  held_are =
      (λ i. list_any (held_state needed) (zip (h.each_line i) (zip (h.solved i) (zip (h.told.running i) (zip (h.read i) (h.told.outputs i))))))
      ∙ any_five (held_state needed) (line_of J at.settings.targets) late_now kept_now (read_now at J ss lines origins rows used h) (whole_outputs at.image) J.jobs
      ∙ any_same held (is_held_back at.image at.settings at.progress (with_states J ss)) J.jobs held_same
