-- What a table of choices covers.
use Rattle.std.proofs.Common.{◌≡◌, ℕ, zero, suc, ◌+◌, ◌<◌, ◌≤◌, ⊎_elim, Bool, true, false, cond, List, [], ◌∷◌, length, bytes_eq, Option, Some, refl, sym, ap, subst, ◌∙◌, arith, true≢false}
use Rattle.std.specs.List.{AllByRecursion}
use Rattle.std.proofs.lemmas.Slice.Eq.{bytes_eq-Decides}
use Rattle.std.proofs.lemmas.Bool.{cases_lt}
use Rattle.smk_base.specs.Path.{is_path}
use Rattle.smk_world.specs.Trees.{Path}
use Rattle.smk_pattern.specs.Shapes.{Text}
use Rattle.smk_flow.specs.Flows.{Flow, Candidate, first_wants}
use Rattle.smk_choose.specs.declared.nodes.Want.{Want}
use Rattle.smk_choose.specs.declared.nodes.Want.TheVariants as want
use Rattle.smk_choose.specs.declared.nodes.Way.{Way}
use Rattle.smk_choose.specs.declared.reach.Reach.{Reach}
use Rattle.smk_choose.specs.declared.choice.Chosen.{Chosen}
use Rattle.smk_choose.specs.declared.table.Choices.{Choices}
use Rattle.smk_choose.specs.Choose.{Sources, candidates, choose}
use Rattle.smk_choose.specs.Told.{told_choice, choice_of, Covers, CoversAll}
use Rattle.smk_choose.specs.Heights.{node_at}
use Rattle.smk_choose.specs.Reach.{path_at, AreWants, AreWays, AllPaths, Spans, Within, HasNumber, Grows}
use Rattle.smk_choose.proofs.Deep.{ways_each}
use Rattle.smk_choose.proofs.Growing.{path_stays}

-- ---- one more choice is put

pub put_step : (paths : List Path) (right : Path → Chosen) (old new : Path → Option Chosen) (n : ℕ) (p : Path) (c : Chosen) → p ≡ path_at paths n → c ≡ right p →
    ((q : Path) → new q ≡ cond (bytes_eq p q) (Some c) (old q)) → ((i : ℕ) → i < n → old (path_at paths i) ≡ Some (right (path_at paths i))) →
    (i : ℕ) → i < n + 1 → new (path_at paths i) ≡ Some (right (path_at paths i))
put_step paths right old new n p c at is put before i lt = put (path_at paths i) ∙ go (bytes_eq p (path_at paths i)) refl
  where
    go : (b : Bool) → bytes_eq p (path_at paths i) ≡ b → cond b (Some c) (old (path_at paths i)) ≡ Some (right (path_at paths i))
    go true e = ap (λ (x : Chosen). Some x) (is ∙ ap right ((bytes_eq-Decides p (path_at paths i)).0 e))
    go false e = ⊎_elim
        (λ early. before i early)
        (λ late.
        let same : n ≡ i = omega (arith, lt, late) in
        absurd (true≢false (sym ((bytes_eq-Decides p (path_at paths i)).1 (at ∙ ap (path_at paths) same)) ∙ e)))
        (cases_lt i n)

-- all numbers before the end are within, where each one is
pub ends : (end n : ℕ) → ((i : ℕ) → i < end → i < n) → end ≤ n
ends zero n f = omega arith
ends (suc end) n f = f end (omega arith)

-- ---- what is wanted is covered

wants_covered : (P : Path → Type 0) (paths : List Path) (ws : List Want) (ts : List Text) → AreWants paths ws ts → AllPaths (λ j. P (path_at paths j)) ws →
    AllByRecursion (λ (t : Text). is_path t ≡ true → P t) ts
wants_covered P paths [] [] are all = tt
wants_covered P paths [] (t ∷ ts) are all = absurd are
wants_covered P paths (w ∷ ws) [] are all = absurd are
wants_covered P paths (want.Path n ∷ ws) (t ∷ ts) are all = (λ e. subst P are.0.1 all.0, wants_covered P paths ws ts are.1 all.1)
wants_covered P paths (want.NoPath s ∷ ws) (t ∷ ts) are all = (λ e. absurd (true≢false (sym e ∙ are.0.1)), wants_covered P paths ws ts are.1 all)

ways_covered : (flow : Flow) (P : Path → Type 0) (paths : List Path) (ws : List Way) (cs : List Candidate) → AreWays flow paths ws cs →
    AllByRecursion (λ (w : Way). AllPaths (λ j. P (path_at paths j)) w.wants) ws →
    AllByRecursion (λ (c : Candidate). AllByRecursion (λ (t : Text). is_path t ≡ true → P t) (first_wants flow c)) cs
ways_covered flow P paths [] [] are all = tt
ways_covered flow P paths [] (c ∷ cs) are all = absurd are
ways_covered flow P paths (w ∷ ws) [] are all = absurd are
ways_covered flow P paths (w ∷ ws) (c ∷ cs) are all =
    (wants_covered P paths w.wants (first_wants flow c) are.0.1 all.0, ways_covered flow P paths ws cs are.1 all.1)

each_all : {A : Type 0} (P : A → Type 0) → ((x : A) → P x) → (xs : List A) → AllByRecursion P xs
each_all P f [] = tt
each_all P f (x ∷ xs) = (f x, each_all P f xs)

module _ (flow : Flow) (sources : Sources) (r : Reach) (end : ℕ) (table : Choices) (spans : (n : ℕ) → n < end → Spans flow sources r 200 n)
    (right : (n : ℕ) → n < end → choice_of table (path_at r.paths.items n) ≡ Some (told_choice (choose flow sources (path_at r.paths.items n)))) where
  covered : (k n : ℕ) → Within sources r end k n → Covers flow sources table (suc k) (path_at r.paths.items n)
  covered zero n w = (
    right n w,
    λ e. each_all (λ (c : Candidate). AllByRecursion (λ (t : Text). is_path t ≡ true → Unit {0}) (first_wants flow c))
        (λ c. each_all (λ (t : Text). is_path t ≡ true → Unit {0}) (λ t f. tt) (first_wants flow c)) (candidates flow sources (path_at r.paths.items n)),
  )
  covered (suc k) n w =
      let ways : List Way = (node_at r.nodes.items n).ways in (
        right n w.0,
        λ e. ways_covered flow (Covers flow sources table (suc k)) r.paths.items ways (candidates flow sources (path_at r.paths.items n)) ((spans n w.0).1.0.1 e)
            (ways_each (Within sources r end k) (λ j. Covers flow sources table (suc k) (path_at r.paths.items j)) (λ j v. covered k j v) ways (w.1 e)),
      )

  pub all_covered : (old : Reach) → Grows old r → (k : ℕ) → ((n : ℕ) → n < length old.paths.items → Within sources r end k n) →
      (ps : List Path) → AllByRecursion (HasNumber old.paths.items) ps → CoversAll flow sources table (suc k) ps
  all_covered old g k within [] all = tt
  all_covered old g k within (p ∷ ps) all = (
    subst (Covers flow sources table (suc k)) (path_stays flow sources old r g all.0.0 all.0.1 ∙ all.0.2) (covered k all.0.0 (within all.0.0 all.0.1)),
    all_covered old g k within ps all.1,
  )
