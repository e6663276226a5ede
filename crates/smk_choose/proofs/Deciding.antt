-- The choice by numbers is the choice of the definition.
use Rattle.std.proofs.Common.{◌≡◌, ℕ, ◌+◌, ◌&&◌, ◌||◌, ◌==◌, not, Bool, true, false, cond, List, [], ◌∷◌, ◌++◌, map, filter, Option, Some, None, option_map, refl, sym, ap, ap₂, ◌∙◌}
use Rattle.std.specs.List.{list_all, find, enumerate_from, AllByRecursion}
use Rattle.smk_world.specs.Trees.{Path}
use Rattle.smk_pattern.specs.Shapes.{Text}
use Rattle.smk_flow.specs.PatternsOf.{rule_of}
use Rattle.smk_flow.specs.Flows.{Flow, Candidate, first_wants}
use Rattle.smk_choose.specs.declared.nodes.Want.{Want}
use Rattle.smk_choose.specs.declared.nodes.Want.TheVariants as want
use Rattle.smk_choose.specs.declared.nodes.Way.{Way}
use Rattle.smk_choose.specs.declared.nodes.Node.{Node}
use Rattle.smk_choose.specs.declared.reach.Reach.{Reach}
use Rattle.smk_choose.specs.declared.choice.Making.{Making}
use Rattle.smk_choose.specs.declared.choice.Chosen.{Chosen}
use Rattle.smk_choose.specs.declared.choice.Chosen.TheVariants as told
use Rattle.smk_choose.specs.Choose.{Sources, Choice, Lack, candidates, avail, precedes, is_viable, viable, lack_of_first, leader, choice, choose, Source}
use Rattle.smk_choose.specs.Told.{making, lack_told, told_choice}
use Rattle.smk_choose.specs.Heights.{node_at}
use Rattle.smk_choose.specs.Reach.{path_at, AreWants, AreWays, AllPaths, Spans}
use Rattle.smk_choose.specs.Decided.{precedes_in, goes_before, leads_from, leader_from, viable_in, text_of, lack_by, first_missing, lack_in, choice_in, choice_among, chosen_by}
use Rattle.smk_choose.proofs.Deep.{no_path, wants_same, ways_each}
use Rattle.smk_choose.proofs.Listed.{Placed, at_rule, all_filter, candidates_placed}

-- ---- preference

same_order : (flow : Flow) (c d : Candidate) → Placed flow.rules c → Placed flow.rules d → goes_before flow (map rule_of flow.rules) (making c) (making d) ≡ precedes flow c.part d.part
same_order flow c d p q = ap₂ (precedes_in flow) (at_rule flow.rules c.rule c.part p) (at_rule flow.rules d.rule d.part q)

abbrev leads : Flow → List (ℕ × Candidate) → ℕ × Candidate → Bool
leads flow all c = list_all (λ (d : ℕ × Candidate). c.0 == d.0 || precedes flow c.1.part d.1.part) all

same_leads : (flow : Flow) (at : ℕ) (c : Candidate) → Placed flow.rules c → (n : ℕ) (ds : List Candidate) → AllByRecursion (Placed flow.rules) ds →
    leads_from (goes_before flow (map rule_of flow.rules)) at (making c) n (map making ds) ≡ leads flow (enumerate_from n ds) (at, c)
same_leads flow at c p n [] all = refl
same_leads flow at c p n (d ∷ ds) all =
    ap₂ ◌&&◌ (ap (λ b. at == n || b) (same_order flow c d p all.0)) (same_leads flow at c p (n + 1) ds all.1)

abbrev made_of : ℕ × Candidate → Making
made_of e = making e.1

same_leader : (flow : Flow) (all : List Candidate) → AllByRecursion (Placed flow.rules) all → (n : ℕ) (cs : List Candidate) → AllByRecursion (Placed flow.rules) cs →
    leader_from (goes_before flow (map rule_of flow.rules)) (map making all) n (map making cs)
    ≡ option_map made_of (find (leads flow (enumerate_from 0 all)) (enumerate_from n cs))
same_leader flow all placed n [] each = refl
same_leader flow all placed n (c ∷ cs) each =
    ap (λ b. cond b (Some (making c)) (leader_from (goes_before flow (map rule_of flow.rules)) (map making all) (n + 1) (map making cs))) (same_leads flow n c each.0 0 all placed)
    ∙ ap (λ o. cond (leads flow (enumerate_from 0 all) (n, c)) (Some (making c)) o) (same_leader flow all placed (n + 1) cs each.1)
    ∙ go (leads flow (enumerate_from 0 all) (n, c))
  where
    go : (b : Bool) → cond b (Some (making c)) (option_map made_of (find (leads flow (enumerate_from 0 all)) (enumerate_from (n + 1) cs)))
        ≡ option_map made_of (cond b (Some (n, c)) (find (leads flow (enumerate_from 0 all)) (enumerate_from (n + 1) cs)))
    go true = refl
    go false = refl

same_choice : (o : Option (ℕ × Candidate)) (cs : List Candidate) (l : Option Lack) →
    choice_in (option_map made_of o) (map making cs) (option_map lack_told l) ≡ told_choice (choice o cs l)
same_choice (Some c) cs l = refl
same_choice None [] l = refl
same_choice None (a ∷ []) l = refl
same_choice None (a ∷ b ∷ rest) l = refl

-- ---- what is there

same_viable : (flow : Flow) (sources : Sources) (these : ℕ → Bool) (paths : List Path) (ws : List Way) (cs : List Candidate) → AreWays flow paths ws cs →
    AllByRecursion (λ (w : Way). AllPaths (λ j. these j ≡ avail flow sources 199 (path_at paths j)) w.wants) ws →
    viable_in these ws ≡ map making (filter (is_viable flow sources) cs)
same_viable flow sources these paths [] [] are all = refl
same_viable flow sources these paths [] (c ∷ cs) are all = absurd are
same_viable flow sources these paths (w ∷ ws) [] are all = absurd are
same_viable flow sources these paths (w ∷ ws) (c ∷ cs) are all =
    ap (λ b. cond b (w.making ∷ []) [] ++ viable_in these ws) (wants_same flow sources 199 these paths w.wants (first_wants flow c) are.0.1 all.0)
    ∙ ap (λ (m : Making). cond (is_viable flow sources c) (m ∷ []) [] ++ viable_in these ws) are.0.0
    ∙ ap (λ ms. cond (is_viable flow sources c) (making c ∷ []) [] ++ ms) (same_viable flow sources these paths ws cs are.1 all.1)
    ∙ go (is_viable flow sources c)
  where
    go : (b : Bool) → cond b (making c ∷ []) [] ++ map making (filter (is_viable flow sources) cs) ≡ map making (cond b (c ∷ filter (is_viable flow sources) cs) (filter (is_viable flow sources) cs))
    go true = refl
    go false = refl

abbrev lack_at : ℕ → Text → Lack
lack_at rule t = record { rule = rule; wanted = t }

same_head : (paths : List Path) (rule : ℕ) (w : Want) (t : Text) (o : Option Want) (p : Option Text) → text_of paths w ≡ t → lack_by paths rule o ≡ option_map lack_told (option_map (lack_at rule) p) →
    (b : Bool) → lack_by paths rule (cond (not b) (Some w) o) ≡ option_map lack_told (option_map (lack_at rule) (cond (not b) (Some t) p))
same_head paths rule w t o p e more true = more
same_head paths rule w t o p e more false = ap (λ x. Some (lack_told (lack_at rule x))) e

same_missing : (flow : Flow) (sources : Sources) (these : ℕ → Bool) (paths : List Path) (rule : ℕ) (ws : List Want) (ts : List Text) → AreWants paths ws ts →
    AllPaths (λ j. these j ≡ avail flow sources 199 (path_at paths j)) ws →
    lack_by paths rule (first_missing these ws) ≡ option_map lack_told (option_map (lack_at rule) (find (λ t. not (avail flow sources 199 t)) ts))
same_missing flow sources these paths rule [] [] are all = refl
same_missing flow sources these paths rule [] (t ∷ ts) are all = absurd are
same_missing flow sources these paths rule (w ∷ ws) [] are all = absurd are
same_missing flow sources these paths rule (want.Path n ∷ ws) (t ∷ ts) are all =
    ap (λ b. lack_by paths rule (cond (not b) (Some (want.Path n)) (first_missing these ws))) (all.0 ∙ ap (avail flow sources 199) are.0.1)
    ∙ same_head paths rule (want.Path n) t (first_missing these ws) (find (λ t. not (avail flow sources 199 t)) ts) are.0.1
    (same_missing flow sources these paths rule ws ts are.1 all.1) (avail flow sources 199 t)
same_missing flow sources these paths rule (want.NoPath s ∷ ws) (t ∷ ts) are all =
    ap (λ b. lack_by paths rule (cond (not b) (Some (want.NoPath s)) (first_missing these ws))) (sym (no_path flow sources 199 t are.0.1))
    ∙ same_head paths rule (want.NoPath s) t (first_missing these ws) (find (λ t. not (avail flow sources 199 t)) ts) are.0.0
    (same_missing flow sources these paths rule ws ts are.1 all) (avail flow sources 199 t)

same_lack : (flow : Flow) (sources : Sources) (these : ℕ → Bool) (paths : List Path) (ws : List Way) (cs : List Candidate) → AreWays flow paths ws cs →
    AllByRecursion (λ (w : Way). AllPaths (λ j. these j ≡ avail flow sources 199 (path_at paths j)) w.wants) ws →
    lack_in these paths ws ≡ option_map lack_told (lack_of_first flow sources cs)
same_lack flow sources these paths [] [] are all = refl
same_lack flow sources these paths [] (c ∷ cs) are all = absurd are
same_lack flow sources these paths (w ∷ ws) [] are all = absurd are
same_lack flow sources these paths (w ∷ ws) (c ∷ cs) are all =
    ap (λ (m : Making). lack_by paths m.rule (first_missing these w.wants)) are.0.0
    ∙ same_missing flow sources these paths c.rule w.wants (first_wants flow c) are.0.1 all.0

-- ---- the choice

among_same : (flow : Flow) (sources : Sources) (these : ℕ → Bool) (paths : List Path) (p : Path) (ws : List Way) → AreWays flow paths ws (candidates flow sources p) →
    AllByRecursion (λ (w : Way). AllPaths (λ j. these j ≡ avail flow sources 199 (path_at paths j)) w.wants) ws →
    choice_among flow (map rule_of flow.rules) (viable_in these ws) (lack_in these paths ws)
    ≡ told_choice (choice (leader flow (enumerate_from 0 (viable flow sources p))) (viable flow sources p) (lack_of_first flow sources (candidates flow sources p)))
among_same flow sources these paths p ws are all =
    let vs = viable flow sources p in
    let placed = all_filter (Placed flow.rules) (is_viable flow sources) (candidates flow sources p) (candidates_placed flow sources p) in
    ap₂ (choice_among flow (map rule_of flow.rules)) (same_viable flow sources these paths ws (candidates flow sources p) are all) (same_lack flow sources these paths ws (candidates flow sources p) are all)
    ∙ ap (λ o. choice_in o (map making vs) (option_map lack_told (lack_of_first flow sources (candidates flow sources p)))) (same_leader flow vs placed 0 vs placed)
    ∙ same_choice (leader flow (enumerate_from 0 vs)) vs (lack_of_first flow sources (candidates flow sources p))

pub right_choice : (flow : Flow) (sources : Sources) (r : Reach) (these : ℕ → Bool) (n : ℕ) → Spans flow sources r 200 n →
    ((j : ℕ) → Spans flow sources r 199 j → these j ≡ avail flow sources 199 (path_at r.paths.items j)) →
    chosen_by flow (map rule_of flow.rules) r.paths.items these (node_at r.nodes.items n) ≡ told_choice (choose flow sources (path_at r.paths.items n))
right_choice flow sources r these n s right = go (sources.is p) refl
  where
    p : Path
    p = path_at r.paths.items n

    node : Node
    node = node_at r.nodes.items n

    others : Chosen
    others = choice_among flow (map rule_of flow.rules) (viable_in these node.ways) (lack_in these r.paths.items node.ways)

    best : Choice
    best = choice (leader flow (enumerate_from 0 (viable flow sources p))) (viable flow sources p) (lack_of_first flow sources (candidates flow sources p))

    go : (b : Bool) → sources.is p ≡ b → chosen_by flow (map rule_of flow.rules) r.paths.items these node ≡ told_choice (choose flow sources p)
    go true e =
        ap (λ b. cond b told.Source others) (s.1.0.0 ∙ e)
        ∙ sym (ap (λ b. told_choice (elim b as (λ _. Choice) [ true ↦ Source | false ↦ best ])) e)
    go false e =
        ap (λ b. cond b told.Source others) (s.1.0.0 ∙ e)
        ∙ among_same flow sources these r.paths.items p node.ways (s.1.0.1 e)
        (ways_each (Spans flow sources r 199) (λ j. these j ≡ avail flow sources 199 (path_at r.paths.items j)) right node.ways (s.1.1 e))
        ∙ sym (ap (λ b. told_choice (elim b as (λ _. Choice) [ true ↦ Source | false ↦ best ])) e)
