-- Depths over numbered paths are the depths of the definition, as far as levels are known.
use Rattle.std.proofs.Common.{◌≡◌, ℕ, zero, suc, ◌<◌, ◌≤◌, ◌&&◌, ◌||◌, Bool, true, false, List, [], ◌∷◌, length, refl, sym, ap, ap₂, ◌∙◌, arith}
use Rattle.std.specs.List.{list_any, list_all, AllByRecursion}
use Rattle.smk_base.specs.Path.{is_path}
use Rattle.smk_world.specs.Trees.{Path}
use Rattle.smk_pattern.specs.Shapes.{Text}
use Rattle.smk_flow.specs.Flows.{Flow, Candidate, first_wants}
use Rattle.smk_choose.specs.declared.nodes.Want.{Want}
use Rattle.smk_choose.specs.declared.nodes.Want.TheVariants as want
use Rattle.smk_choose.specs.declared.nodes.Way.{Way}
use Rattle.smk_choose.specs.declared.reach.Reach.{Reach}
use Rattle.smk_choose.specs.Choose.{Sources, candidates, avail}
use Rattle.smk_choose.specs.Heights.{want_in, reached, node_at}
use Rattle.smk_choose.specs.Reach.{path_at, AreWants, AreWays, AreNumbered, AllPaths, Spans}

pub no_path : (flow : Flow) (sources : Sources) (m : ℕ) (t : Text) → is_path t ≡ false → avail flow sources m t ≡ false
no_path flow sources zero t e = ap (λ b. b && sources.is t) e
no_path flow sources (suc m) t e = ap (λ b. elim b as (λ _. Bool) [
  | false ↦ false
  | true ↦ elim (sources.is t) as (λ _. Bool) [ true ↦ true | false ↦ list_any (λ c. list_all (avail flow sources m) (first_wants flow c)) (candidates flow sources t) ]
]) e

at_path : (flow : Flow) (sources : Sources) (m : ℕ) (p : Path) (s : Bool) → is_path p ≡ true → sources.is p ≡ s →
    avail flow sources (suc m) p
    ≡ elim s as (λ _. Bool) [ true ↦ true | false ↦ list_any (λ c. list_all (avail flow sources m) (first_wants flow c)) (candidates flow sources p) ]
at_path flow sources m p s e f =
    ap (λ b. elim b as (λ _. Bool) [
      | false ↦ false
      | true ↦ elim (sources.is p) as (λ _. Bool) [ true ↦ true | false ↦ list_any (λ c. list_all (avail flow sources m) (first_wants flow c)) (candidates flow sources p) ]
    ]) e
    ∙ ap (λ b. elim b as (λ _. Bool) [ true ↦ true | false ↦ list_any (λ c. list_all (avail flow sources m) (first_wants flow c)) (candidates flow sources p) ]) f

pub wants_same : (flow : Flow) (sources : Sources) (m : ℕ) (these : ℕ → Bool) (paths : List Path) (ws : List Want) (ts : List Text) → AreWants paths ws ts →
    AllPaths (λ j. these j ≡ avail flow sources m (path_at paths j)) ws → list_all (want_in these) ws ≡ list_all (avail flow sources m) ts
wants_same flow sources m these paths [] [] are all = refl
wants_same flow sources m these paths [] (t ∷ ts) are all = absurd are
wants_same flow sources m these paths (w ∷ ws) [] are all = absurd are
wants_same flow sources m these paths (want.Path n ∷ ws) (t ∷ ts) are all =
    ap₂ ◌&&◌ (all.0 ∙ ap (avail flow sources m) are.0.1) (wants_same flow sources m these paths ws ts are.1 all.1)
wants_same flow sources m these paths (want.NoPath s ∷ ws) (t ∷ ts) are all =
    ap (λ b. b && list_all (avail flow sources m) ts) (sym (no_path flow sources m t are.0.1))

ways_same : (flow : Flow) (sources : Sources) (m : ℕ) (these : ℕ → Bool) (paths : List Path) (ws : List Way) (cs : List Candidate) → AreWays flow paths ws cs →
    AllByRecursion (λ (w : Way). AllPaths (λ j. these j ≡ avail flow sources m (path_at paths j)) w.wants) ws →
    list_any (λ (w : Way). list_all (want_in these) w.wants) ws ≡ list_any (λ c. list_all (avail flow sources m) (first_wants flow c)) cs
ways_same flow sources m these paths [] [] are all = refl
ways_same flow sources m these paths [] (c ∷ cs) are all = absurd are
ways_same flow sources m these paths (w ∷ ws) [] are all = absurd are
ways_same flow sources m these paths (w ∷ ws) (c ∷ cs) are all =
    ap₂ ◌||◌ (wants_same flow sources m these paths w.wants (first_wants flow c) are.0.1 all.0) (ways_same flow sources m these paths ws cs are.1 all.1)

wants_each : (P Q : ℕ → Type 0) → ((j : ℕ) → P j → Q j) → (ws : List Want) → AllPaths P ws → AllPaths Q ws
wants_each P Q f [] all = tt
wants_each P Q f (want.Path n ∷ ws) all = (f n all.0, wants_each P Q f ws all.1)
wants_each P Q f (want.NoPath s ∷ ws) all = wants_each P Q f ws all

pub ways_each : (P Q : ℕ → Type 0) → ((j : ℕ) → P j → Q j) → (ws : List Way) → AllByRecursion (λ (w : Way). AllPaths P w.wants) ws → AllByRecursion (λ (w : Way). AllPaths Q w.wants) ws
ways_each P Q f [] all = tt
ways_each P Q f (w ∷ ws) all = (wants_each P Q f w.wants all.0, ways_each P Q f ws all.1)

flagged : (flow : Flow) (sources : Sources) (r : Reach) (k n : ℕ) → Spans flow sources r k n → (n < length r.paths.items) × ((node_at r.nodes.items n).source ≡ sources.is (path_at r.paths.items n))
flagged flow sources r zero n s = s
flagged flow sources r (suc k) n s = (s.0, s.1.0.0)

module _ (flow : Flow) (sources : Sources) (r : Reach) (known : AreNumbered r) where
  one_level : (m k n : ℕ) (b : Bool) → sources.is (path_at r.paths.items n) ≡ b → Spans flow sources r (suc k) n →
      ((j : ℕ) → Spans flow sources r k j → reached r.nodes.items m j ≡ avail flow sources m (path_at r.paths.items j)) →
      reached r.nodes.items (suc m) n ≡ avail flow sources (suc m) (path_at r.paths.items n)
  one_level m k n true e s more =
      let ways : Bool = list_any (λ (w : Way). list_all (want_in (reached r.nodes.items m)) w.wants) (node_at r.nodes.items n).ways in
      ap (λ b. b || ways) (s.1.0.0 ∙ e) ∙ sym (at_path flow sources m (path_at r.paths.items n) true (known.are n s.0) e)
  one_level m k n false e s more =
      let ways : List Way = (node_at r.nodes.items n).ways in
      ap (λ b. b || list_any (λ (w : Way). list_all (want_in (reached r.nodes.items m)) w.wants) ways) (s.1.0.0 ∙ e)
      ∙ ways_same flow sources m (reached r.nodes.items m) r.paths.items ways (candidates flow sources (path_at r.paths.items n)) (s.1.0.1 e)
      (ways_each (Spans flow sources r k) (λ j. reached r.nodes.items m j ≡ avail flow sources m (path_at r.paths.items j)) more ways (s.1.1 e))
      ∙ sym (at_path flow sources m (path_at r.paths.items n) false (known.are n s.0) e)

  pub depths_are_avail : (m k n : ℕ) → m ≤ k → Spans flow sources r k n → reached r.nodes.items m n ≡ avail flow sources m (path_at r.paths.items n)
  depths_are_avail zero k n le s =
      let flag = flagged flow sources r k n s in
      flag.1 ∙ sym (ap (λ b. b && sources.is (path_at r.paths.items n)) (known.are n flag.0))
  depths_are_avail (suc m) zero n le s = absurd (omega (arith, le))
  depths_are_avail (suc m) (suc k) n le s =
      one_level m k n (sources.is (path_at r.paths.items n)) refl s (λ j t. depths_are_avail m k j (omega (arith, le)) t)
