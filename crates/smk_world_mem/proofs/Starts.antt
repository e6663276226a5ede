-- What the start of a child adds.
use Rattle.std.proofs.Common.{cond, ◌≡◌, ◌+◌, ℕ, zero, suc, Bool, true, false, List, [], ◌∷◌, ◌++◌, refl, ap, ◌∙◌, Option, Ok, Err, arith, not}
use Rattle.std.specs.Prelude.{if◌then◌else◌, nat_eq, Contains}
use Rattle.std.specs.List.{filter}
use Rattle.std.proofs.lemmas.Bool.{ne_eqb}
use Rattle.std.proofs.lemmas.List.{map-append}
use Rattle.smk_world.specs.declared.event.Node.{Node}
use Rattle.smk_world.specs.declared.event.NodeState.{NodeState}
use Rattle.smk_world.specs.declared.event.NodeState.TheVariants.{Owned}
use Rattle.smk_world.specs.declared.event.Call.TheVariants.{Started}
use Rattle.smk_world.specs.declared.event.Child.{Child}
use Rattle.smk_world.specs.declared.event.Failed.{Failed}
use Rattle.smk_world.specs.declared.recipe.Recipe.{Recipe}
use Rattle.smk_world.specs.World.{is_within, owned_paths, numbers, without_number}
use Rattle.smk_world.specs.Calls.{started_numbers, are_apart}
use Rattle.smk_world_mem.specs.Adds.{AddsIf}
use Rattle.smk_world_nodes.specs.Nodes.{node_at}
use Rattle.smk_world_nodes.specs.Steps.{seen, AllBelow, AllApart, AllOther, AllDistinct}
use Rattle.smk_world_nodes.specs.declared.nodes.Nodes.{Nodes}
use Rattle.smk_world_nodes.specs.declared.step.Step.{Step}
use Rattle.smk_world_nodes.specs.declared.step.Step.TheVariants.{Happened}

pub below_not : (n : ℕ) (ns : List ℕ) → AllBelow n ns → ¬ (Contains ns n)
below_not n [] all (k, lt, is) = absurd (omega arith)
below_not n (m ∷ ms) all (zero, lt, is) = absurd (omega arith)
below_not n (m ∷ ms) all (suc k, lt, is) = below_not n ms all.1 (k, omega arith, is)

pub below_more : (n : ℕ) (ns : List ℕ) → AllBelow n ns → AllBelow (n + 1) (ns ++ n ∷ [])
below_more n [] all = (omega arith, tt)
below_more n (m ∷ ms) all = (omega arith, below_more n ms all.1)

pub apart_more : (cs : List Child) (c : Child) → AllApart cs → are_apart (owned_paths c.recipe c.logs) ≡ true → AllApart (cs ++ c ∷ [])
apart_more [] c all h = (h, tt)
apart_more (d ∷ cs) c all h = (all.0, apart_more cs c all.1 h)

pub numbers_more : (cs : List Child) (c : Child) → numbers (cs ++ c ∷ []) ≡ numbers cs ++ c.number ∷ []
numbers_more cs c = map-append (λ d. d.number) cs (c ∷ [])

pub numbers_without : (number : ℕ) (cs : List Child) → numbers (filter (λ c. not (nat_eq c.number number)) cs) ≡ without_number number (numbers cs)
numbers_without number [] = refl
numbers_without number (c ∷ cs) = go (not (nat_eq c.number number)) (numbers_without number cs)
  where
    go : (b : Bool) → numbers (filter (λ c. not (nat_eq c.number number)) cs) ≡ without_number number (numbers cs)
        → numbers (cond b (c ∷ filter (λ c. not (nat_eq c.number number)) cs) (filter (λ c. not (nat_eq c.number number)) cs)) ≡ cond b (c.number ∷ without_number number (numbers cs)) (without_number number (numbers cs))
    go true ih = ap (λ ns. c.number ∷ ns) ih
    go false ih = ih

pub apart_less : (test : Child → Bool) (cs : List Child) → AllApart cs → AllApart (filter test cs)
apart_less test [] all = tt
apart_less test (c ∷ cs) all = go (test c) (apart_less test cs all.1)
  where
    go : (b : Bool) → AllApart (filter test cs) → AllApart (cond b (c ∷ filter test cs) (filter test cs))
    go true ih = (all.0, ih)
    go false ih = ih

pub below_less : (n : ℕ) (test : Child → Bool) (cs : List Child) → AllBelow n (numbers cs) → AllBelow n (numbers (filter test cs))
below_less n test [] all = tt
below_less n test (c ∷ cs) all = go (test c) (below_less n test cs all.1)
  where
    go : (b : Bool) → AllBelow n (numbers (filter test cs)) → AllBelow n (numbers (cond b (c ∷ filter test cs) (filter test cs)))
    go true ih = (all.0, ih)
    go false ih = ih

seen_owned : (b : Bool) (m : Option Node) (s : NodeState) → seen m s ≡ m → seen m (if b then Owned else s) ≡ m
seen_owned true m s a = refl
seen_owned false m s a = a

module _ (recipe : Recipe) (logs : List (List ℕ)) (command : List ℕ) (nodes : Nodes) (steps more : List Step) where
  pub started_adds : (number m : ℕ) → m ≡ number → more ≡ steps ++ Happened (record { call = Started recipe logs command (Ok m); left = [] }) ∷ []
      → AddsIf (λ w. AllBelow number (started_numbers w.log)) (Started recipe logs command (Ok number)) nodes nodes steps more
  started_adds number m same is = record {
    left = [];
    steps_are = is ∙ ap (λ k. steps ++ Happened (record { call = Started recipe logs command (Ok k); left = [] }) ∷ []) same;
    lets = λ w agrees below. (refl, below_not number (started_numbers w.log) below);
    nodes_are = λ w agrees below q. seen_owned (is_within q (owned_paths recipe logs)) (node_at nodes q) (w.nodes q) (agrees q);
  }

  pub not_started_adds : (e : Failed) → more ≡ steps ++ Happened (record { call = Started recipe logs command (Err e); left = [] }) ∷ []
      → AddsIf (λ w. Unit {0}) (Started recipe logs command (Err e)) nodes nodes steps more
  not_started_adds e is = record { left = []; steps_are = is; lets = λ w agrees p. refl; nodes_are = λ w agrees p. agrees }

-- ## Distinct numbers

other_more : (n number : ℕ) (ns : List ℕ) → AllOther number ns → nat_eq n number ≡ false → AllOther number (ns ++ n ∷ [])
other_more n number [] all h = (h, tt)
other_more n number (m ∷ ms) all h = (all.0, other_more n number ms all.1 h)

pub distinct_more : (n : ℕ) (ns : List ℕ) → AllDistinct ns → AllBelow n ns → AllDistinct (ns ++ n ∷ [])
distinct_more n [] distinct below = (tt, tt)
distinct_more n (m ∷ ms) distinct below = (other_more n m ms distinct.0 (ne_eqb n m (λ e. absurd (omega arith))), distinct_more n ms distinct.1 below.1)

other_less : (number : ℕ) (test : Child → Bool) (cs : List Child) → AllOther number (numbers cs) → AllOther number (numbers (filter test cs))
other_less number test [] all = tt
other_less number test (c ∷ cs) all = go (test c) (other_less number test cs all.1)
  where
    go : (b : Bool) → AllOther number (numbers (filter test cs)) → AllOther number (numbers (cond b (c ∷ filter test cs) (filter test cs)))
    go true ih = (all.0, ih)
    go false ih = ih

pub distinct_less : (test : Child → Bool) (cs : List Child) → AllDistinct (numbers cs) → AllDistinct (numbers (filter test cs))
distinct_less test [] distinct = tt
distinct_less test (c ∷ cs) distinct = go (test c) (distinct_less test cs distinct.1)
  where
    go : (b : Bool) → AllDistinct (numbers (filter test cs)) → AllDistinct (numbers (cond b (c ∷ filter test cs) (filter test cs)))
    go true ih = (other_less c.number test cs distinct.0, ih)
    go false ih = ih
