-- The jobs of a workflow without temporary outputs make nothing temporary.
use Rattle.std.proofs.Common.{◌≡◌, Bool, true, false, List, [], ◌∷◌, ap, sym, subst, ◌∙◌, refl, inl, inr, map, filter, flat_map, true≢false}
use Rattle.std.specs.Prelude.{if◌then◌else◌, ◌||◌}
use Rattle.std.specs.List.{list_any}
use Rattle.smk_world.specs.Trees.{Path, IsIn}
use Rattle.smk_base.specs.declared.tree.Pair.{Pair}
use Rattle.smk_flow.specs.declared.job.Job.{Job}
use Rattle.smk_flow.specs.declared.rule.RulePart.{RulePart}
use Rattle.smk_flow.specs.declared.rule.OutPart.{OutPart}
use Rattle.smk_flow.specs.declared.rule.FlaggedText.{FlaggedText}
use Rattle.smk_flow.specs.declared.rule.Flag.{Flag}
use Rattle.smk_flow.specs.declared.rule.Flag.TheVariants.{Temp, Protected, Folder}
use Rattle.smk_flow.specs.Flows.{Candidate, is_temp, outs}
use Rattle.smk_flow.specs.Jobs.{flagged, is_flagged}
use Rattle.smk_pattern.specs.Reading.{fill}
use Rattle.smk_choose.specs.Choose.{Sources, choose, Make}
use Rattle.smk_chain.specs.Derive.{Listings, distinct, job, same_candidate, sources_of, walk}
use Rattle.smk_laws_plan.proofs.CurrentChosen.{origin}
use Rattle.smk_laws_plan.proofs.CurrentLists.{any_none, distinct_in, flat_in, map_in}
use Rattle.smk_laws_plan.proofs.CurrentWalked.{walked_chosen}
use Rattle.smk_laws_plan.proofs.PlanOne.{derived}
use Rattle.smk_cli_calls.specs.OneByOne.{is_mark, is_marked, item_has_marks, part_has_marks}
use Rattle.smk_cli_calls.proofs.OneByOne.{none_marked}
use Rattle.smk_cli_calls.proofs.Plain.{each_from, numbered_in}
use Rattle.smk_laws_call.specs.Temps.{OneByOneHasNoTemps, PlansHaveNoTemps, is_for_now, item_has_temps, part_has_temps}

none_kept : {A : Type 0} (test : A → Bool) (xs : List A) → ((x : A) → IsIn xs x → test x ≡ false) → filter test xs ≡ []
none_kept test [] h = refl
none_kept test (x ∷ xs) h =
    ap (λ b. if b then x ∷ filter test xs else filter test xs) (h x (inl refl)) ∙ none_kept test xs (λ y i. h y (inr i))

-- no output of the rule is temporary
no_temp : (binding : List Pair) (part : RulePart) → part_has_temps part ≡ false → flagged binding Temp (outs part) ≡ []
no_temp binding part h =
    ap (map (λ (o : FlaggedText). fill binding o.text))
    (none_kept (is_flagged Temp) (outs part) (λ o i.
    let item = flat_in (λ (x : OutPart). x.outs) part.outputs o i in
    any_none is_for_now item.0.outs o (any_none item_has_temps part.outputs item.0 h item.1) item.2))

pub no_temps : PlansHaveNoTemps
no_temps flow image settings progress plan complete none is_plan = each_from (λ (j : Job). j.temps ≡ []) plan.jobs one
  where
    chosen : (L : Listings) (sources : Sources) (p : Path) (c : Candidate) → choose flow sources p ≡ Make c → (job flow L c).temps ≡ []
    chosen L sources p c e =
        no_temp c.binding c.part (any_none part_has_temps flow.rules c.part none (numbered_in flow.rules 0 c.rule c.part (origin flow p c sources e).listed))

    one : (j : Job) → IsIn plan.jobs j → j.temps ≡ []
    one j i =
        let L = plan.lists in
        let all = flat_map (walk flow (sources_of image) L 200) settings.targets in
        let is = derived flow image L settings.targets plan.jobs complete is_plan.derived in
        let m = map_in (job flow L) (distinct same_candidate all) j (subst (λ js. IsIn js j) (sym is.1) i) in
        let u = flat_in (walk flow (sources_of image) L 200) settings.targets m.0 (distinct_in same_candidate all m.0 m.1) in
        let p = walked_chosen flow (sources_of image) L 200 u.0 m.0 u.2 in
        ap (λ (x : Job). x.temps) m.2 ∙ chosen L (sources_of image) p.0 m.0 p.1

-- ## Runs that make their jobs one after another

-- where a test holds of none, one that holds of fewer does
none_of_fewer :
    {A : Type 0} (fewer more : A → Bool) (xs : List A) → ((x : A) → more x ≡ false → fewer x ≡ false) → list_any more xs ≡ false →
    list_any fewer xs ≡ false
none_of_fewer fewer more [] each h = refl
none_of_fewer fewer more (x ∷ xs) each h =
    let a = each x (left_false (more x) (list_any more xs) h) in
    let b = none_of_fewer fewer more xs each (right_false (more x) (list_any more xs) h) in λ i. a i || b i
  where
    left_false : (a b : Bool) → (a || b) ≡ false → a ≡ false
    left_false true b k = absurd (true≢false k)
    left_false false b k = refl

    right_false : (a b : Bool) → (a || b) ≡ false → b ≡ false
    right_false true b k = absurd (true≢false k)
    right_false false b k = k

unmarked_flag : (flag : Flag) → is_mark flag ≡ false → is_temp flag ≡ false
unmarked_flag Temp h = absurd (true≢false h)
unmarked_flag Protected h = absurd (true≢false h)
unmarked_flag Folder h = refl

pub one_by_one_has_no_temps : OneByOneHasNoTemps
one_by_one_has_no_temps flow words one =
    none_of_fewer part_has_temps part_has_marks flow.rules
    (λ part. none_of_fewer item_has_temps item_has_marks part.outputs
    (λ item. none_of_fewer is_for_now is_marked item.outs (λ out. none_of_fewer is_temp is_mark out.flags unmarked_flag)))
    (none_marked flow words one)
