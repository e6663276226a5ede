-- The number of the job that makes a path, by a map.
use Rattle.std.specs.Prelude.{◌≡◌, ℕ, Bool, ◌&&◌, List, nat_le, Option, String}
use Rattle.std.specs.Global.{Global}
use Rattle.std.specs.BTreeMap.{BTreeMap, get_by_text}
use Rattle.std.specs.List.{list_all}
use Rattle.std.specs.Option.{option_and_then}
use Rattle.smk_world.specs.declared.recipe.Item.{Item}
use Rattle.smk_world.specs.Trees.{Path}
use Rattle.smk_chain.specs.declared.jobs.Maker.{Maker}
use Rattle.smk_plan.specs.declared.duty.Duty.{Duty}
use Rattle.smk_plan.specs.Duties.{maker_in}
use Rattle.smk_plan_duties.specs.Choosing.{is_job_below, is_old, Able}

-- the number that the map has for the path
abbrev pub number_at : BTreeMap (String Global) (Option ℕ) → Path → Option ℕ
number_at numbers p = option_and_then (λ (n : Option ℕ). n) (get_by_text numbers p)

-- by the map: the serial of what is at the path is kept, and below this one
abbrev pub is_input_at : BTreeMap (String Global) (Option ℕ) → List Duty → ℕ → Path → Bool
is_input_at numbers duties made p = is_job_below duties made (number_at numbers p)

abbrev pub are_item_below : BTreeMap (String Global) (Option ℕ) → List Duty → ℕ → Item → Bool
are_item_below numbers duties made item = list_all (is_input_at numbers duties made) item.paths

-- by the map: the job can be run again
abbrev pub is_able_by : Option ℕ → BTreeMap (String Global) (Option ℕ) → Able
is_able_by next numbers duties j made = nat_le 1 made && (is_old next made && list_all (are_item_below numbers duties made) j.recipe.inputs)

-- the map has the numbers of the jobs by the paths that they make
abbrev pub HasNumbers : List Maker → BTreeMap (String Global) (Option ℕ) → Type 0
HasNumbers makers numbers = (q : Path) → number_at numbers q ≡ maker_in makers q
