-- Where nothing clashes, what the jobs make and log lies apart.
use Rattle.std.proofs.Common.{◌≡◌, Bool, true, false, List, [], ◌∷◌, ◌++◌, map, refl, ap, ◌∙◌}
use Rattle.smk_base.specs.Path.{overlaps}
use Rattle.smk_base.proofs.Under.{never_both}
use Rattle.smk_base.proofs.Apart.{apart_unless}
use Rattle.smk_world.specs.World.{out_paths, owned_paths}
use Rattle.smk_world.specs.Trees.{Path}
use Rattle.smk_flow.specs.declared.job.Job.{Job}
use Rattle.smk_chain.specs.Derive.{spots}

-- ## Lists

pub flipped : (p q : Path) → overlaps p q ≡ false → overlaps q p ≡ false
flipped p q h = (apart_unless p q (λ t. never_both (overlaps p q) t h)).overlapped

-- ## Clashes

abbrev pub places : List (Path × Bool) → List Path
places ss = map (λ (s : Path × Bool). s.0) ss

pub places_append : (xs ys : List (Path × Bool)) → places (xs ++ ys) ≡ places xs ++ places ys
places_append [] ys = refl
places_append (x ∷ xs) ys = ap (λ l. x.0 ∷ l) (places_append xs ys)

-- ## Jobs

tagged : (b : Bool) (ps : List Path) → places (map (λ p. (p, b)) ps) ≡ ps
tagged b [] = refl
tagged b (p ∷ ps) = ap (λ l. p ∷ l) (tagged b ps)

pub spots_places : (j : Job) → places (spots j) ≡ owned_paths j.recipe j.logs
spots_places j =
    places_append (map (λ p. (p, true)) (out_paths j.recipe)) (map (λ p. (p, false)) j.logs)
    ∙ ap (λ l. l ++ places (map (λ p. (p, false)) j.logs)) (tagged true (out_paths j.recipe))
    ∙ ap (λ l. out_paths j.recipe ++ l) (tagged false j.logs)
