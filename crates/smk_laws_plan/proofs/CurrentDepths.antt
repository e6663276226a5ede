-- A path means the same at every depth at which it means something.
use Rattle.std.proofs.Common.{◌≡◌, ℕ, zero, suc, ◌+◌, ◌-◌, ◌≤◌, Bool, true, false, cond, List, [], ◌∷◌, map, refl, sym, ap, subst, ◌∙◌, arith, Option, Some, None}
use Rattle.smk_base.specs.declared.tree.Tree.{Tree}
use Rattle.smk_world.specs.World.{in_paths}
use Rattle.smk_world.specs.Trees.{Path, all_of, value_at}
use Rattle.smk_flow.specs.Flows.{Candidate, gathered_folders}
use Rattle.smk_choose.specs.Choose.{Choice, Source, Make, Nothing, Ambiguous, choose}
use Rattle.smk_chain.specs.Derive.{recipe}
use Rattle.smk_chain.specs.Mean.{Setting, is_runnable, listings_of, mean, source_tree}
use Rattle.smk_laws_plan.proofs.CurrentLists.{none_some, some_inj}
use Rattle.smk_laws_plan.proofs.CurrentValues.{all_parts, all_make, value_given, gathers_by, mean_by, mean_source, runs}

all_up :
    (F G : Path → Option Tree) → ((p : Path) (t : Tree) → F p ≡ Some t → G p ≡ Some t) → (ps : List Path) (ts : List Tree) →
    all_of (map F ps) ≡ Some ts → all_of (map G ps) ≡ Some ts
all_up F G up [] ts h = h
all_up F G up (p ∷ ps) ts h =
    let r = all_parts (F p) (map F ps) ts h in all_make (G p) (map G ps) r.0 r.1 (up p r.0 r.2) (all_up F G up ps r.1 r.3) ∙ ap Some (sym r.4)

module _ (S : Setting) where
  above_zero : (p : Path) (t : Tree) (b : Bool) → S.sources.is p ≡ b → cond b (source_tree S p) None ≡ Some t → mean S 1 p ≡ Some t
  above_zero p t true e h = mean_source S 1 p e ∙ h
  above_zero p t false e h = absurd (none_some None t refl h)

  module _ (n : ℕ) (up : (p : Path) (t : Tree) → mean S n p ≡ Some t → mean S (suc n) p ≡ Some t) (p : Path) (t : Tree) where
    run_up :
        (c : Candidate) (trees : List Tree) (b : Bool) →
        runs S n p c (listings_of (gathered_folders S.flow c) trees) b ≡ Some t → runs S (suc n) p c (listings_of (gathered_folders S.flow c) trees) b ≡ Some t
    run_up c trees false h = h
    run_up c trees true h =
        let r = recipe S.flow (listings_of (gathered_folders S.flow c) trees) c in
        let given = value_given S.act r p (all_of (map (mean S n) (in_paths r))) t h in
        ap (value_at S.act r p) (all_up (mean S n) (mean S (suc n)) up (in_paths r) given.0 given.1) ∙ (sym (ap (value_at S.act r p) given.1) ∙ h)

    gather_up :
        (c : Candidate) (o : Option (List Tree)) → all_of (map (mean S n) (gathered_folders S.flow c)) ≡ o → gathers_by S n p c o ≡ Some t →
        gathers_by S (suc n) p c (all_of (map (mean S (suc n)) (gathered_folders S.flow c))) ≡ Some t
    gather_up c None e h = absurd (none_some None t refl h)
    gather_up c (Some trees) e h =
        ap (gathers_by S (suc n) p c) (all_up (mean S n) (mean S (suc n)) up (gathered_folders S.flow c) trees e)
        ∙ run_up c trees (is_runnable S c (listings_of (gathered_folders S.flow c) trees)) h

    choice_up : (ch : Choice) → mean_by S n p ch ≡ Some t → mean_by S (suc n) p ch ≡ Some t
    choice_up Source h = h
    choice_up (Nothing lack) h = h
    choice_up (Ambiguous a b) h = h
    choice_up (Make c) h = gather_up c (all_of (map (mean S n) (gathered_folders S.flow c))) refl h

  mean_up : (n : ℕ) (p : Path) (t : Tree) → mean S n p ≡ Some t → mean S (suc n) p ≡ Some t
  mean_up zero p t h = above_zero p t (S.sources.is p) refl h
  mean_up (suc n) p t h = choice_up n (mean_up n) p t (choose S.flow S.sources p) h

  mean_far : (k n : ℕ) (p : Path) (t : Tree) → mean S n p ≡ Some t → mean S (k + n) p ≡ Some t
  mean_far zero n p t h = let e : n ≡ zero + n = omega arith in subst (λ m. mean S m p ≡ Some t) e h
  mean_far (suc k) n p t h = let e : suc (k + n) ≡ suc k + n = omega arith in subst (λ m. mean S m p ≡ Some t) e (mean_up (k + n) p t (mean_far k n p t h))

  pub mean_deeper : (n m : ℕ) (p : Path) (t : Tree) → n ≤ m → mean S n p ≡ Some t → mean S m p ≡ Some t
  mean_deeper n m p t h e = let d : m - n + n ≡ m = omega arith in subst (λ m. mean S m p ≡ Some t) d (mean_far (m - n) n p t e)

  pub mean_one : (n m : ℕ) (p : Path) (t s : Tree) → mean S n p ≡ Some t → mean S m p ≡ Some s → t ≡ s
  mean_one n m p t s h k =
      let e : n + m ≡ m + n = omega arith in
      some_inj t s (sym (mean_far m n p t h) ∙ subst (λ d. mean S d p ≡ Some s) e (mean_far n m p s k))
