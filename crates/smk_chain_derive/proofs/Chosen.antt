-- What holds of the jobs that are chosen for targets: each has an output, and a binding with no name twice.
use Rattle.std.proofs.Common.{◌≡◌, ℕ, zero, suc, List, [], ◌∷◌, ◌++◌, filter, Option, Some, None, option_map, refl, ap}
use Rattle.std.specs.List.{flat_map, filter_map, cons_option, AllByRecursion}
use Rattle.smk_chain_walk.proofs.Numbers.{all_distinct}
use Rattle.smk_base.specs.declared.tree.Pair.{Pair}
use Rattle.smk_world.specs.World.{folders_above}
use Rattle.smk_world.specs.Trees.{Path, first}
use Rattle.smk_pattern.specs.Bound.{binding_of}
use Rattle.smk_flow.specs.declared.rule.RulePart.{RulePart}
use Rattle.smk_flow.specs.declared.rule.FlaggedText.{FlaggedText}
use Rattle.smk_flow.specs.Flows.{Flow, Candidate, outs, makes_folder, numbered}
use Rattle.smk_choose.specs.Choose.{Sources, Choice, Source, Make, Nothing, Ambiguous, candidate, fit, as_member, as_output, or_else, is_apart, choose, maker}
use Rattle.smk_choose.proofs.Picked.{chosen_candidate}
use Rattle.smk_choose.proofs.Listed.{all_filter, all_append}
use Rattle.smk_chain.specs.Derive.{Listings, wants, walk, chosen, same_candidate}
use Rattle.smk_chain_derive.proofs.Lists.{OnSome, all_flat, all_found}
use Rattle.smk_chain_derive.proofs.Ordered.{NamesApart, binding_apart}

-- a binding by one of these outputs
abbrev ByOne : List FlaggedText → List Pair → Type 0
ByOne texts b = NamesApart b × (texts ≡ [] → ⊥)

fit_by_one : (part : RulePart) (texts : List FlaggedText) (p : Path) → OnSome (ByOne texts) (fit part texts p)
fit_by_one part [] p = tt
fit_by_one part (o ∷ texts) p = go (binding_of part.limits o.text p) (binding_apart part.limits o.text p) (fit part texts p) refl (fit_by_one part texts p)
  where
    filled : o ∷ texts ≡ [] → ⊥
    filled e = cc

    later : (r : Option (List Pair)) → OnSome (ByOne texts) r → OnSome (ByOne (o ∷ texts)) r
    later None h = tt
    later (Some b) h = (h.0, filled)

    go : (x : Option (List Pair)) → OnSome NamesApart x → (r : Option (List Pair)) → fit part texts p ≡ r → OnSome (ByOne texts) (fit part texts p) →
        OnSome (ByOne (o ∷ texts)) (first (cons_option x (filter_map (λ (t : FlaggedText). binding_of part.limits t.text p) texts)))
    go None n r e h = later (fit part texts p) h
    go (Some b) n r e h = (n, filled)

-- it has an output, and no name twice
abbrev pub IsBound : Candidate → Type 0
IsBound c = NamesApart c.binding × (outs c.part ≡ [] → ⊥)

made_bound : (r : ℕ × RulePart) (texts : List FlaggedText) (o : Option (List Pair)) → (outs r.1 ≡ [] → texts ≡ []) → OnSome (ByOne texts) o → OnSome IsBound (option_map (candidate r) o)
made_bound r texts None within h = tt
made_bound r texts (Some b) within h = (h.0, λ e. h.1 (within e))

members_bound : (flow : Flow) (p : Path) → AllByRecursion IsBound (as_member flow p)
members_bound flow p =
    all_flat IsBound (λ (r : ℕ × RulePart). filter_map (λ (f : Path). option_map (candidate r) (fit r.1 (filter makes_folder (outs r.1)) f)) (folders_above p))
    (λ r. all_found IsBound (λ (f : Path). option_map (candidate r) (fit r.1 (filter makes_folder (outs r.1)) f))
    (λ f. made_bound r (filter makes_folder (outs r.1)) (fit r.1 (filter makes_folder (outs r.1)) f) (λ e. ap (filter makes_folder) e) (fit_by_one r.1 (filter makes_folder (outs r.1)) f)) (folders_above p))
    (filter (λ (r : ℕ × RulePart). r.1.checkpoint) (numbered flow))

outputs_bound : (flow : Flow) (p : Path) → AllByRecursion IsBound (as_output flow p)
outputs_bound flow p =
    all_found IsBound (λ (r : ℕ × RulePart). option_map (candidate r) (fit r.1 (outs r.1) p))
    (λ r. made_bound r (outs r.1) (fit r.1 (outs r.1) p) (λ e. e) (fit_by_one r.1 (outs r.1) p)) (numbered flow)

either_bound : (a b : List Candidate) → AllByRecursion IsBound a → AllByRecursion IsBound b → AllByRecursion IsBound (or_else a b)
either_bound [] b h k = k
either_bound (c ∷ a) b h k = h

module _ (flow : Flow) (sources : Sources) where
  chosen_bound : (p : Path) (c : Candidate) → choose flow sources p ≡ Make c → IsBound c
  chosen_bound p c e =
      chosen_candidate flow sources p c IsBound
      (all_filter IsBound (is_apart flow sources) (or_else (as_member flow p) (as_output flow p)) (either_bound (as_member flow p) (as_output flow p) (members_bound flow p) (outputs_bound flow p))) e

  module _ (L : Listings) where
    abbrev walk_by : ℕ → Choice → List Candidate
    walk_by n ch =
        elim (maker ch) as (λ _. List Candidate) [
          | None ↦ []
          | Some c ↦ flat_map (walk flow sources L n) (wants flow L c) ++ c ∷ []
        ]

    walk_bound : (n : ℕ) (p : Path) → AllByRecursion IsBound (walk flow sources L n p)
    walk_bound zero p = tt
    walk_bound (suc n) p = go (walk_bound n) (choose flow sources p) refl
      where
        go : ((w : Path) → AllByRecursion IsBound (walk flow sources L n w)) → (ch : Choice) → choose flow sources p ≡ ch → AllByRecursion IsBound (walk_by n ch)
        go more Source e = tt
        go more (Make c) e =
            all_append IsBound (flat_map (walk flow sources L n) (wants flow L c)) (c ∷ []) (all_flat IsBound (walk flow sources L n) more (wants flow L c)) (chosen_bound p c e, tt)
        go more (Nothing lack) e = tt
        go more (Ambiguous a b) e = tt

    pub all_bound : (targets : List Path) → AllByRecursion IsBound (chosen flow sources L targets)
    all_bound targets =
        all_distinct IsBound same_candidate (flat_map (walk flow sources L 200) targets) (all_flat IsBound (walk flow sources L 200) (walk_bound 200) targets)
