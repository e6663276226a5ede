-- Of its listings a derivation sees only what they answer: with listings that answer alike it is the same.
use Rattle.std.specs.List.{fold}
use Rattle.std.specs.Prelude.{is_none, nat_lt, if◌then◌else◌}
use Rattle.std.proofs.Common.{◌≡◌, ℕ, zero, suc, true, false, ◌&&◌, not, List, [], ◌∷◌, ◌++◌, ◌+◌, ◌==◌, map, max, filter, flat_map, length, refl, ap, ◌∙◌, bytes_eq, Option, Some, None, is_some}
use Rattle.smk_base.specs.Path.{is_path}
use Rattle.smk_world.specs.Calls.{in_folder}
use Rattle.smk_world.specs.Trees.{Path, among, folder_over}
use Rattle.smk_flow.specs.Flows.{Candidate, Flow}
use Rattle.smk_choose.specs.Choose.{Ambiguous, Choice, Make, Nothing, Source, Sources, candidates, choose, maker}
use Rattle.smk_store.specs.Images.{Image}
use Rattle.smk_chain.specs.Derive.{Deep, Listings, MissingMember, NoCommand, NoInput, Refusal, TooManyPaths, clashes, derivation, distinct, height, is_missing, job, jobs, listing, next, or_none, outcome, reach, recipe, refused, refused_at, refused_if, same_candidate, sources_of, spots, walk, wants}
use Rattle.smk_laws_plan.proofs.CurrentRecipes.{job_same, recipe_same, wants_same}

module _ (flow : Flow) (A B : Listings) (same : (f : Path) → listing A f ≡ listing B f) where
  wants_are : (c : Candidate) → wants flow A c ≡ wants flow B c
  wants_are c = wants_same flow c A B (λ f i. ap or_none (same f))

  job_is : (c : Candidate) → job flow A c ≡ job flow B c
  job_is c = job_same flow c A B (λ f i. ap or_none (same f))

  recipe_is : (c : Candidate) → recipe flow A c ≡ recipe flow B c
  recipe_is c = recipe_same flow c A B (λ f i. ap or_none (same f))

  module _ (srcs : Sources) where
    abbrev walk_by : Listings → ℕ → Option Candidate → List Candidate
    walk_by L n m = elim m as (λ _. List Candidate) [ None ↦ [] | Some c ↦ flat_map (walk flow srcs L n) (wants flow L c) ++ c ∷ [] ]

    walks : (n : ℕ) (p : Path) → walk flow srcs A n p ≡ walk flow srcs B n p
    walks zero p = refl
    walks (suc n) p = go (maker (choose flow srcs p)) (λ q. walks n q)
      where
        go : (m : Option Candidate) → ((q : Path) → walk flow srcs A n q ≡ walk flow srcs B n q) → walk_by A n m ≡ walk_by B n m
        go None again = refl
        go (Some c) again = λ k. flat_map (λ q. again q k) (wants_are c k) ++ c ∷ []

    abbrev height_by : Listings → ℕ → Option Candidate → ℕ
    height_by L n m = elim m as (λ _. ℕ) [ None ↦ 0 | Some c ↦ 1 + fold max 0 (map (height flow srcs L n) (filter is_path (wants flow L c))) ]

    heights : (n : ℕ) (p : Path) → height flow srcs A n p ≡ height flow srcs B n p
    heights zero p = refl
    heights (suc n) p = go (maker (choose flow srcs p)) (λ q. heights n q)
      where
        go : (m : Option Candidate) → ((q : Path) → height flow srcs A n q ≡ height flow srcs B n q) → height_by A n m ≡ height_by B n m
        go None again = refl
        go (Some c) again = λ k. 1 + fold max 0 (map (λ q. again q k) (filter is_path (wants_are c k)))

    missing_is : (p : Path) (o : Option Path) → is_missing A p o ≡ is_missing B p o
    missing_is p None = refl
    missing_is p (Some folder) = ap (λ o. is_some o && not (among (map (in_folder folder) (or_none o)) p)) (same folder)

    refused_here : (p : Path) (choice : Choice) → refused_at flow A p choice ≡ refused_at flow B p choice
    refused_here p Source = refl
    refused_here p (Nothing lack) = refl
    refused_here p (Ambiguous a b) = refl
    refused_here p (Make c) =
        ap (λ b. refused_if b (MissingMember p) ++ refused_if (is_none c.part.command) (NoCommand c.rule))
        (ap (λ r. is_missing A p (folder_over r p)) (recipe_is c) ∙ missing_is p (folder_over (recipe flow B c) p))

    abbrev refused_by : Listings → ℕ → Path → Option Candidate → List Refusal
    refused_by L n p m =
        elim m as (λ _. List Refusal) [
          | None ↦ []
          | Some c ↦
              flat_map
              (λ w. elim (is_path w) as (λ _. List Refusal) [ true ↦ refused flow srcs L n w | false ↦ NoInput p c.rule w ∷ [] ])
              (wants flow L c)
        ]

    refusals_are : (n : ℕ) (p : Path) → refused flow srcs A n p ≡ refused flow srcs B n p
    refusals_are zero p = refl
    refusals_are (suc n) p = λ k. refused_here p (choose flow srcs p) k ++ go (maker (choose flow srcs p)) (λ q. refusals_are n q) k
      where
        go : (m : Option Candidate) → ((q : Path) → refused flow srcs A n q ≡ refused flow srcs B n q) → refused_by A n p m ≡ refused_by B n p m
        go None again = refl
        go (Some c) again =
            λ k.
            flat_map
            (λ w. elim (is_path w) as (λ _. List Refusal) [ true ↦ again w k | false ↦ NoInput p c.rule w ∷ [] ])
            (wants_are c k)

    next_is : (p : Path) → next flow srcs A p ≡ next flow srcs B p
    next_is p = λ k. if srcs.is p then [] else filter is_path (flat_map (λ c. wants_are c k) (candidates flow srcs p))

    reaches : (n : ℕ) (targets : List Path) → reach flow srcs A n targets ≡ reach flow srcs B n targets
    reaches zero targets = refl
    reaches (suc n) targets =
        let nearer = reaches n targets in λ k. distinct bytes_eq (nearer k ++ flat_map (λ q. next_is q k) (nearer k))

    jobs_are : (targets : List Path) → jobs flow srcs A targets ≡ jobs flow srcs B targets
    jobs_are targets = λ k. map (λ c. job_is c k) (distinct same_candidate (flat_map (λ q. walks 200 q k) targets))

  pub derivation_is : (image : Image) (targets : List Path) → derivation flow image A targets ≡ derivation flow image B targets
  derivation_is image targets =
      let srcs = sources_of image in
      λ k.
      outcome
      (refused_if (nat_lt 100000 (length (reaches srcs 400 targets k))) TooManyPaths
      ++ (map Deep (filter (λ p. heights srcs 201 p k == 201) targets)
      ++ (flat_map (λ p. refusals_are srcs 201 p k) targets ++ clashes image [] (flat_map spots (jobs_are srcs targets k)))))
      (jobs_are srcs targets k)
