-- By the map of makers it is told which jobs can be run again.
use Rattle.std.proofs.Common.{◌≡◌, ℕ, Bool, true, false, ◌&&◌, List, [], ◌∷◌, ◌++◌, Option, refl, sym, ap, ap₂, ◌∙◌}
use Rattle.std.specs.Prelude.{nat_le, String}
use Rattle.std.specs.Global.{Global}
use Rattle.std.specs.BTreeMap.{BTreeMap}
use Rattle.std.specs.List.{flat_map, list_all}
use Rattle.smk_world.specs.declared.recipe.Item.{Item}
use Rattle.smk_world.specs.Trees.{Path}
use Rattle.smk_flow.specs.declared.job.Job.{Job}
use Rattle.smk_chain.specs.declared.jobs.Maker.{Maker}
use Rattle.smk_plan.specs.declared.duty.Duty.{Duty}
use Rattle.smk_plan_duties.specs.Choosing.{is_able, is_input_below, is_job_below, is_old}
use Rattle.smk_plan_duties.specs.Numbers.{are_item_below, is_able_by, is_input_at, HasNumbers}

all_append : (f : Path → Bool) (xs ys : List Path) → list_all f (xs ++ ys) ≡ (list_all f xs && list_all f ys)
all_append f [] ys = refl
all_append f (x ∷ xs) ys = ap (λ b. f x && b) (all_append f xs ys) ∙ again (f x) (list_all f xs) (list_all f ys)
  where
    again : (a b c : Bool) → (a && (b && c)) ≡ ((a && b) && c)
    again true b c = refl
    again false b c = refl

all_same : (f g : Path → Bool) → ((p : Path) → f p ≡ g p) → (ps : List Path) → list_all f ps ≡ list_all g ps
all_same f g same [] = refl
all_same f g same (p ∷ ps) = ap₂ ◌&&◌ (same p) (all_same f g same ps)

module _ (makers : List Maker) (numbers : BTreeMap (String Global) (Option ℕ)) (has : HasNumbers makers numbers) (duties : List Duty) (made : ℕ) where
  items_same : (inputs : List Item) → list_all (are_item_below numbers duties made) inputs ≡ list_all (is_input_below makers duties made) (flat_map (λ (item : Item). item.paths) inputs)
  items_same [] = refl
  items_same (item ∷ inputs) =
      ap₂ ◌&&◌ (all_same (is_input_at numbers duties made) (is_input_below makers duties made) (λ p. ap (is_job_below duties made) (has p)) item.paths) (items_same inputs)
      ∙ sym (all_append (is_input_below makers duties made) item.paths (flat_map (λ (i : Item). i.paths) inputs))

pub same_able : (next : Option ℕ) (makers : List Maker) (numbers : BTreeMap (String Global) (Option ℕ)) → HasNumbers makers numbers → is_able_by next numbers ≡ is_able next makers
same_able next makers numbers has = λ i. λ (duties : List Duty). λ (j : Job). λ (made : ℕ). nat_le 1 made && (is_old next made && items_same makers numbers has duties made j.recipe.inputs i)
