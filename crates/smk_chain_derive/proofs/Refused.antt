-- What is refused, in the order in which it is looked for.
use Rattle.std.proofs.Common.{◌≡◌, ◌==◌, Bool, true, false, cond, List, [], ◌∷◌, ◌++◌, map, filter, Some, None, option_map, refl, sym, ap, ◌∙◌}
use Rattle.std.specs.Prelude.{Result, Ok, Err, IfOk}
use Rattle.std.specs.List.{find, flat_map, AllByRecursion}
use Rattle.smk_chain_walk.proofs.Visiting.{first_more}
use Rattle.smk_world.specs.Trees.{Path, first}
use Rattle.smk_flow.specs.Flows.{Flow}
use Rattle.smk_choose.specs.Choose.{Sources}
use Rattle.smk_store.specs.Images.{Image}
use Rattle.smk_chain.specs.declared.fault.ChainFault.{ChainFault}
use Rattle.smk_chain.specs.declared.fault.ChainFault.TheVariants as told
use Rattle.smk_chain.specs.Derive.{Listings, Refusal, Deep, height, refused, jobs, spots, clashes, job_refusals}
use Rattle.smk_chain.specs.Told.{told_refusal, first_told, TellsFirst}

-- what three clauses say of an answer
pub if_three : {A E : Type 0} (r : Result A E) (P Q R S : A → Type 0) → ((x : A) → P x → Q x → R x → S x) → IfOk r P → IfOk r Q → IfOk r R → IfOk r S
if_three (Ok x) P Q R S f p q s = f x p q s
if_three (Err e) P Q R S f p q s = tt

-- ## The first of some refusals

pub told_of : (flow : Flow) (r : Refusal) (xs : List Refusal) → Some r ≡ first xs → first_told flow xs ≡ told_refusal flow r
told_of flow r [] e = absurd (cc)
told_of flow r (x ∷ xs) e = let same : r ≡ x = cc in ap (told_refusal flow) (sym same)

pub none_of : (xs : List Refusal) → None ≡ first xs → xs ≡ []
none_of [] e = refl
none_of (x ∷ xs) e = absurd (cc)

-- ## Targets that are too deep

pub none_found : {A : Type 0} (f : A → Bool) (xs : List A) → None ≡ find f xs → AllByRecursion (λ x. f x ≡ false) xs
none_found f [] e = tt
none_found f (x ∷ xs) e = go (f x) refl e (none_found f xs)
  where
    go : (b : Bool) → f x ≡ b → None ≡ cond b (Some x) (find f xs) → (None ≡ find f xs → AllByRecursion (λ x. f x ≡ false) xs) → AllByRecursion (λ x. f x ≡ false) (x ∷ xs)
    go true is e more = absurd (cc)
    go false is e more = (is, more e)

pub none_kept : {A : Type 0} (f : A → Bool) (xs : List A) → AllByRecursion (λ x. f x ≡ false) xs → filter f xs ≡ []
none_kept f [] all = refl
none_kept f (x ∷ xs) all = ap (λ (b : Bool). cond b (x ∷ filter f xs) (filter f xs)) all.0 ∙ none_kept f xs all.1

-- the first that is kept is the one that is found
pub first_kept : (f : Path → Bool) (xs : List Path) (x : Path) → Some x ≡ find f xs → Some (Deep x) ≡ first (map Deep (filter f xs))
first_kept f [] x e = absurd (cc)
first_kept f (y ∷ xs) x e = go (f y) e (first_kept f xs x)
  where
    go : (b : Bool) → Some x ≡ cond b (Some y) (find f xs) → (Some x ≡ find f xs → Some (Deep x) ≡ first (map Deep (filter f xs))) →
        Some (Deep x) ≡ first (map Deep (cond b (y ∷ filter f xs) (filter f xs)))
    go true e more = ap (option_map Deep) e
    go false e more = more e

module _ (flow : Flow) (sources : Sources) (image : Image) (L : Listings) (targets : List Path) where
  abbrev deep : Path → Bool
  deep p = height flow sources L 201 p == 201

  abbrev all_clashes : List Refusal
  all_clashes = clashes image [] (flat_map spots (jobs flow sources L targets))

  -- a chain that is too long is told first
  pub deep_told : (p : Path) → Some p ≡ find (λ (q : Path). height flow sources L 201 q == 201) targets →
      TellsFirst flow (job_refusals flow sources image L targets) (told.Deep p)
  deep_told p e = λ _.
      first_more flow (map Deep (filter deep targets)) (flat_map (refused flow sources L 201) targets ++ all_clashes) (told.Deep p)
      (told_of flow (Deep p) (map Deep (filter deep targets)) (first_kept deep targets p e))

  shallow_are : AllByRecursion (λ t. (height flow sources L 201 t == 201) ≡ false) targets →
      job_refusals flow sources image L targets ≡ flat_map (refused flow sources L 201) targets ++ all_clashes
  shallow_are all = ap (λ (ps : List Path). map Deep ps ++ (flat_map (refused flow sources L 201) targets ++ all_clashes)) (none_kept deep targets all)

  -- then what the walk comes to
  pub walk_told : (f : ChainFault) → AllByRecursion (λ t. (height flow sources L 201 t == 201) ≡ false) targets →
      TellsFirst flow (flat_map (refused flow sources L 201) targets) f → TellsFirst flow (job_refusals flow sources image L targets) f
  walk_told f all tells = λ not.
      ap (first_told flow) (shallow_are all) ∙ first_more flow (flat_map (refused flow sources L 201) targets) all_clashes f (tells not)

  walked_are : AllByRecursion (λ t. (height flow sources L 201 t == 201) ≡ false) targets → flat_map (refused flow sources L 201) targets ≡ [] →
      job_refusals flow sources image L targets ≡ all_clashes
  walked_are all none = shallow_are all ∙ ap (λ (rs : List Refusal). rs ++ all_clashes) none

  -- then what overlaps
  pub clash_told : (f : ChainFault) → AllByRecursion (λ t. (height flow sources L 201 t == 201) ≡ false) targets → flat_map (refused flow sources L 201) targets ≡ [] →
      TellsFirst flow all_clashes f → TellsFirst flow (job_refusals flow sources image L targets) f
  clash_told f all none tells = λ not. ap (first_told flow) (walked_are all none) ∙ tells not

  -- and otherwise nothing is refused
  pub none_refused : AllByRecursion (λ t. (height flow sources L 201 t == 201) ≡ false) targets → flat_map (refused flow sources L 201) targets ≡ [] →
      all_clashes ≡ [] → job_refusals flow sources image L targets ≡ []
  none_refused all none clear = walked_are all none ∙ clear
