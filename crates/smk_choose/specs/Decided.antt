-- The choice among the jobs that may make a path, by what is known of paths by their numbers.
use Rattle.std.specs.Prelude.{ℕ, ◌+◌, Bool, true, false, ◌&&◌, ◌||◌, ◌==◌, not, List, [], ◌∷◌, get_or, slice_get, Option, Some, None, if◌then◌else◌}
use Rattle.std.specs.List.{list_all, find, flat_map}
use Rattle.smk_world.specs.Trees.{Path}
use Rattle.smk_pattern.specs.Shapes.{Text}
use Rattle.smk_flow.specs.declared.workflow.Rule.{Rule}
use Rattle.smk_flow.specs.Flows.{Flow}
use Rattle.smk_choose.specs.declared.nodes.Want.{Want}
use Rattle.smk_choose.specs.declared.nodes.Want.TheVariants as want
use Rattle.smk_choose.specs.declared.nodes.Way.{Way}
use Rattle.smk_choose.specs.declared.nodes.Node.{Node}
use Rattle.smk_choose.specs.declared.choice.Making.{Making}
use Rattle.smk_choose.specs.declared.choice.Lack.{Lack}
use Rattle.smk_choose.specs.declared.choice.Chosen.{Chosen}
use Rattle.smk_choose.specs.declared.choice.Chosen.TheVariants as told
use Rattle.smk_choose.specs.Choose.{precedes}
use Rattle.smk_choose.specs.Heights.{is_within, height_at, want_in}

-- ## Preference

-- the first rule precedes the second
abbrev pub precedes_in : Flow → Option Rule → Option Rule → Bool
precedes_in flow None b = false
precedes_in flow (Some a) None = false
precedes_in flow (Some a) (Some b) = precedes flow a.part b.part

-- so do the rules of two jobs
abbrev pub goes_before : Flow → List Rule → Making → Making → Bool
goes_before flow rules a b = precedes_in flow (slice_get rules a.rule) (slice_get rules b.rule)

module _ (before : Making → Making → Bool) where
  -- the job at this place goes before each other one of these, the first of which has this number
  abbrev pub leads_from : ℕ → Making → ℕ → List Making → Bool
  leads_from at m n [] = true
  leads_from at m n (d ∷ ds) = (at == n || before m d) && leads_from at m (n + 1) ds

  -- of these, the first of which has this number, the first one that goes before each other of all
  abbrev pub leader_from : List Making → ℕ → List Making → Option Making
  leader_from all n [] = None
  leader_from all n (m ∷ ms) = if leads_from n m 0 all then Some m else leader_from all (n + 1) ms

-- ## What is there

-- the height is no more than 199
abbrev pub is_deep_enough : List (Option ℕ) → ℕ → Bool
is_deep_enough heights q = is_within 199 (height_at heights q)

-- the job of a way, where all that it wants is among these paths
abbrev pub viable_way : (ℕ → Bool) → Way → List Making
viable_way these way = if list_all (want_in these) way.wants then way.making ∷ [] else []

abbrev pub viable_in : (ℕ → Bool) → List Way → List Making
viable_in these ways = flat_map (viable_way these) ways

abbrev pub text_of : List Path → Want → Text
text_of paths (want.Path q) = get_or paths q []
text_of paths (want.NoPath t) = t

abbrev pub lack_by : List Path → ℕ → Option Want → Option Lack
lack_by paths rule None = None
lack_by paths rule (Some w) = Some (record { rule = rule; wanted = text_of paths w })

-- the first want that isn't among these paths
abbrev pub first_missing : (ℕ → Bool) → List Want → Option Want
first_missing these wants = find (λ w. not (want_in these w)) wants

-- what the first way lacks
abbrev pub lack_in : (ℕ → Bool) → List Path → List Way → Option Lack
lack_in these paths [] = None
lack_in these paths (w ∷ ws) = lack_by paths w.making.rule (first_missing these w.wants)

-- ## The choice

abbrev pub choice_in : Option Making → List Making → Option Lack → Chosen
choice_in (Some m) viable lack = told.Make m
choice_in None (a ∷ b ∷ rest) lack = told.Ambiguous a.rule b.rule
choice_in None (a ∷ []) lack = told.Make a
choice_in None [] lack = told.Nothing lack

-- among jobs, all viable
abbrev pub choice_among : Flow → List Rule → List Making → Option Lack → Chosen
choice_among flow rules viable lack = choice_in (leader_from (goes_before flow rules) viable 0 viable) viable lack

-- of what is known of a path
abbrev pub chosen_by : Flow → List Rule → List Path → (ℕ → Bool) → Node → Chosen
chosen_by flow rules paths these node =
    if node.source then told.Source else choice_among flow rules (viable_in these node.ways) (lack_in these paths node.ways)
