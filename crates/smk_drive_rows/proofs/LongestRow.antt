-- A path that a pattern fits in two ways: the first wildcard has its longest value. A run whose child gets the shortest one isn't lawful.
use Rattle.std.proofs.Common.{◌≡◌, ℕ, Bool, false, List, [], ◌∷◌, ◌++◌, map, codes, bytes_eq, refl, ap, ◌∙◌, true≢false}
use Rattle.smk_base.specs.declared.tree.Pair.{Pair}
use Rattle.smk_world.specs.declared.event.Event.{Event}
use Rattle.smk_world.specs.declared.recipe.Recipe.{Recipe}
use Rattle.smk_world.specs.Trees.{Path}
use Rattle.smk_pattern.specs.Shapes.{Text}
use Rattle.smk_flow.specs.declared.job.Job.{Job}
use Rattle.smk_flow.specs.Flows.{Flow}
use Rattle.smk_drive.specs.Moments.{Rules, Begun}
use Rattle.smk_flow.proofs.Examples.{cat, flow_of, input, output, rule}
use Rattle.smk_chain.proofs.Folders.{jobs_in}
use Rattle.smk_plan.proofs.Plans.{before_copy, with_targets}
use Rattle.smk_drive.proofs.Turns.{reader}
use Rattle.smk_drive_course.specs.Lawful.{Lawful}
use Rattle.smk_drive_rows.proofs.Truth.{only}
use Rattle.smk_drive_rows.proofs.Logs.{IsSettled, last, last_is}
use Rattle.smk_drive_rows.proofs.Events.{rules_by, marking, start, of_job}
use Rattle.smk_drive_rows.proofs.CopyRow.{entry, formed}

abbrev pub flow : Flow
flow = flow_of (rule false (codes "pair") (input (codes "in.txt") ∷ []) (output [] (codes "{a}_{b}.txt")) cat ∷ [])

abbrev pub out : Path
out = codes "x_y_z.txt"

abbrev pub rules : Rules
rules = rules_by flow (with_targets (out ∷ [])) (reader [])

abbrev pub the_jobs : List Job
the_jobs = jobs_in flow before_copy [] (out ∷ [])

abbrev value : Pair → Text
value p = p.value

abbrev values : Recipe → List Text
values r = map value r.wildcards

pub its_values : map (λ (j : Job). values j.recipe) the_jobs ≡ (codes "x_y" ∷ codes "z" ∷ []) ∷ []
its_values = refl

-- ## A wrong run

abbrev shortest : List Pair
shortest = record { name = codes "a"; value = codes "x" } ∷ record { name = codes "b"; value = codes "y_z" } ∷ []

abbrev shorter : Job → Job
shorter j = record j { recipe = record j.recipe { wildcards = shortest } }

abbrev begun : List Event
begun = marking out

settled : IsSettled rules entry begun
settled = record { start = refl; rests = (refl, tt) }

abbrev first_is_short : List Text → Bool
first_is_short [] = false
first_is_short (text ∷ texts) = bytes_eq text (codes "x")

pub starts_shortest : (status : ℕ) → Lawful rules entry (begun ++ of_job the_jobs 0 (λ j. start 1 (shorter j) ∷ [])) status → ⊥
starts_shortest status l =
    let s = (l.each begun _ [] (last rules entry begun) refl (last_is rules entry formed begun settled)).starts in
    true≢false (ap (λ (r : Recipe). first_is_short (values r)) (s.2 ∙ ap (λ (b : Begun). b.job.recipe) (only _ s.0 s.1)))
