-- The spots of jobs, one after another.
use Rattle.std.proofs.Common.{◌≡◌, ℕ, suc, ◌+◌, ◌<◌, Bool, true, ◌||◌, List, [], ◌∷◌, ◌++◌, map, length, get_or, take, drop, Some, None, refl, sym, ap, ◌∙◌, bytes_eq, add-one, append_assoc}
use Rattle.std.proofs.Math.Seq.{drop-cons}
use Rattle.std.proofs.lemmas.List.{take_more, map-append}
use Rattle.std.specs.List.{filter, flat_map}
use Rattle.smk_base.specs.Path.{overlaps}
use Rattle.smk_world.specs.declared.recipe.Out.{Out}
use Rattle.smk_world.specs.declared.recipe.OutItem.{OutItem}
use Rattle.smk_world.specs.Trees.{Path, among, first}
use Rattle.smk_flow.specs.declared.job.Job.{Job}
use Rattle.smk_store.specs.Stores.{Known}
use Rattle.smk_chain.specs.Derive.{spots, Clash}
use Rattle.smk_chain_derive.specs.Clashes.{output_of, log_of, spot_paths, paths_in, hinders_in, clashes_in, clash_of}
use Rattle.smk_chain_derive.proofs.Firsts.{first_mapped, none_mapped}
use Rattle.smk_chain_derive.proofs.Lookups.{among_last}

-- ## Of a job

abbrev outputs_in : List OutItem → List (Path × Bool)
outputs_in items = flat_map (λ (i : OutItem). map output_of i.outs) items

abbrev output_paths : List OutItem → List Path
output_paths items = flat_map (λ (i : OutItem). map (λ (o : Out). o.path) i.outs) items

abbrev as_output : Path → Path × Bool
as_output p = (p, true)

of_item : (outs : List Out) → map as_output (map (λ (o : Out). o.path) outs) ≡ map output_of outs
of_item [] = refl
of_item (o ∷ outs) = ap (λ l. output_of o ∷ l) (of_item outs)

outputs_are : (items : List OutItem) → outputs_in items ≡ map as_output (output_paths items)
outputs_are [] = refl
outputs_are (i ∷ items) =
    ap (λ l. map output_of i.outs ++ l) (outputs_are items) ∙ ap (λ l. l ++ map as_output (output_paths items)) (sym (of_item i.outs))
    ∙ sym (map-append as_output (map (λ (o : Out). o.path) i.outs) (output_paths items))

pub job_spots : (old mid new : List (Path × Bool)) (items : List OutItem) (logs : List Path) (job : Job) → mid ≡ old ++ outputs_in items → new ≡ mid ++ map log_of logs → items ≡ job.recipe.outputs → logs ≡ job.logs → new ≡ old ++ spots job
job_spots old mid new items logs job m n i l =
    n ∙ ap (λ x. x ++ map log_of logs) m ∙ append_assoc old (outputs_in items) (map log_of logs)
    ∙ ap (λ x. old ++ (x ++ map log_of logs)) (outputs_are items) ∙ ap (λ x. old ++ (map as_output (output_paths x) ++ map log_of logs)) i
    ∙ ap (λ x. old ++ (map as_output (output_paths job.recipe.outputs) ++ map log_of x)) l

-- ## One after another

next_paths : (spots : List (Path × Bool)) (i : ℕ) (spot : Path × Bool) → i < length spots → spot ≡ get_or spots i spot → spot_paths (take (i + 1) spots) ≡ spot_paths (take i spots) ++ spot.0 ∷ []
next_paths spots i spot lt is =
    ap spot_paths (take_more spots i spot lt) ∙ map-append (λ (s : Path × Bool). s.0) (take i spots) (get_or spots i spot ∷ [])
    ∙ ap (λ (s : Path × Bool). spot_paths (take i spots) ++ s.0 ∷ []) (sym is)

pub one_taken : (was now : Bool) (q p : Path) (spots : List (Path × Bool)) (i : ℕ) (spot : Path × Bool) → i < length spots → spot ≡ get_or spots i spot → p ≡ spot.0 → now ≡ (bytes_eq q p || was) → was ≡ among (spot_paths (take i spots)) q
    → now ≡ among (spot_paths (take (i + 1) spots)) q
one_taken was now q p spots i spot lt is same e before =
    e ∙ ap (λ b. bytes_eq q p || b) before ∙ ap (λ x. bytes_eq q x || among (spot_paths (take i spots)) q) same
    ∙ sym (among_last (spot_paths (take i spots)) spot.0 q) ∙ ap (λ l. among l q) (sym (next_paths spots i spot lt is))

abbrev others : List Known → List Path → Path × Bool → List Path
others store earlier spot = filter (overlaps spot.0) earlier ++ filter (hinders_in store spot) (paths_in store)

at_spot : (store : List Known) (spots : List (Path × Bool)) (i : ℕ) (spot : Path × Bool) → i < length spots → spot ≡ get_or spots i spot
    → clashes_in store (spot_paths (take i spots)) (drop i spots)
    ≡ map (Clash spot.0) (others store (spot_paths (take i spots)) spot) ++ clashes_in store (spot_paths (take i spots) ++ spot.0 ∷ []) (drop (suc i) spots)
at_spot store spots i spot lt is =
    ap (clashes_in store (spot_paths (take i spots))) (drop-cons spots i spot lt ∙ ap (λ s. s ∷ drop (suc i) spots) (sym is))

-- the first clash is here
pub told : (store : List Known) (spots : List (Path × Bool)) (i : ℕ) (spot : Path × Bool) (p q : Path) → i < length spots → spot ≡ get_or spots i spot → p ≡ spot.0
    → first (clashes_in store [] spots) ≡ first (clashes_in store (spot_paths (take i spots)) (drop i spots))
    → Some q ≡ first (others store (spot_paths (take i spots)) spot) → Some (clash_of (p, q)) ≡ first (clashes_in store [] spots)
told store spots i spot p q lt is same before found =
    ap (λ x. Some (Clash x q)) same
    ∙ first_mapped (Clash spot.0) q (others store (spot_paths (take i spots)) spot) (clashes_in store (spot_paths (take i spots) ++ spot.0 ∷ []) (drop (suc i) spots)) found
    ∙ sym (before ∙ ap first (at_spot store spots i spot lt is))

-- it is later
pub passed : (store : List Known) (spots : List (Path × Bool)) (i : ℕ) (spot : Path × Bool) → i < length spots → spot ≡ get_or spots i spot
    → first (clashes_in store [] spots) ≡ first (clashes_in store (spot_paths (take i spots)) (drop i spots))
    → None ≡ first (others store (spot_paths (take i spots)) spot)
    → first (clashes_in store [] spots) ≡ first (clashes_in store (spot_paths (take (i + 1) spots)) (drop (i + 1) spots))
passed store spots i spot lt is before none =
    before ∙ ap first (at_spot store spots i spot lt is
    ∙ none_mapped (Clash spot.0) (others store (spot_paths (take i spots)) spot) (clashes_in store (spot_paths (take i spots) ++ spot.0 ∷ []) (drop (suc i) spots)) none
    ∙ ap (λ l. clashes_in store l (drop (suc i) spots)) (sym (next_paths spots i spot lt is))
    ∙ ap (λ n. clashes_in store (spot_paths (take (i + 1) spots)) (drop n spots)) (sym (add-one i)))
