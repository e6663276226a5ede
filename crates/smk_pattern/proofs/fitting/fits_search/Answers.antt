use Rattle.std.proofs.Common.{◌≡◌, ℕ, List, [], ◌∷◌, length, map, Bool, true, false, Option, Bor, refl, sym, ap, ◌∙◌, suc}
use Rattle.std.proofs.lemmas.List.{length-map}
use Rattle.smk_pattern.specs.Shapes.{Part, Wildcard}
use Rattle.smk_pattern.specs.Fitting.{AllSuit}
use Rattle.smk_pattern.specs.Searching.{Searched, now_of}
use Rattle.smk_pattern.specs.declared.pattern.Wildcard as code
use Rattle.smk_pattern.specs.Pieces.{parts_of, wildcards_of, wildcard_of}
use Rattle.smk_pattern.proofs.Sound.{serves_new}
use Rattle.smk_pattern.proofs.fitting.fits_search.Goals as goal

all_len : (limits : List (Option (List ℕ))) (more : List (List ℕ)) → AllSuit limits more → length more ≡ length limits
all_len [] [] s = refl
all_len [] (v ∷ vs) s = absurd s
all_len (l ∷ ls) [] s = absurd s
all_len (l ∷ ls) (v ∷ vs) s = ap (λ n. suc n) (all_len ls vs s.2)

counted : (found : Bool) (ps : List Part) (limits : List (Option (List ℕ))) (known : List (List ℕ)) (rest : List ℕ) (now : List (List ℕ)) →
    found ≡ true → known ≡ [] → Searched found ps limits known rest now → length now ≡ length limits
counted false ps limits known rest now e nil s = absurd cc
counted true ps limits (x ∷ xs) rest now e nil s = absurd cc
counted true ps limits [] rest now e nil s = ap length s.1 ∙ all_len limits s.0 s.2.fits.suit

-- as many tests as wildcards
tests : (ts : List (Option (List ℕ))) (ws : List code.Wildcard) → ts ≡ map (λ w. w.limit) (wildcards_of ws) → length ts ≡ length ws
tests ts ws e = ap length e ∙ length-map (wildcards_of ws) (λ (w : Wildcard). w.limit) ∙ length-map ws wildcard_of

pub search-requires : goal.search-requires
search-requires c =
    let e : length c.deref_mut.result.now ≡ length c.args.wildcards.now = tests _ c.args.wildcards.now (c.deref_mut.ensures.value ∙ c.in_ok-testers.ensures) in
    let none : length (now_of c.new-values.result.items) ≡ 0 = ap (λ (vs : List (Bor (List ℕ))). length (now_of vs)) c.new-values.ensures.items in
    record {
      place = record {
        utf8 = c.utf8.path;
        numbered = rw (none, e) c.requires;
        places = rw c.deref.ensures.value c.in_ok-behind.ensures;
      };
      serves = serves_new (parts_of c.args.pieces.now) _ _ _ _ c.new-vain.ensures;
    }

pub pairs-requires : goal.pairs-requires
pairs-requires c =
    let e = tests _ c.args.wildcards.now (c.deref_mut.ensures.value ∙ c.in_ok-testers.ensures) in
    let k = counted c.in_ok-search.field-0 _ _ _ _ _ c.if-not-branch.false (ap now_of c.new-values.ensures.items) c.in_ok-search.ensures.found in
    sym e ∙ sym k ∙ length-map c.search.new.values.items (λ (b : Bor (List ℕ)). b.now) ∙ sym (ap length c.deref-2.ensures.value)
