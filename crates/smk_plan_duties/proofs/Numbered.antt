-- Which job makes a path, by a map that is filled from the end of a list of makers.
use Rattle.std.proofs.Common.{◌≡◌, ℕ, Bool, true, false, List, [], ◌∷◌, ◌++◌, refl, ap, sym, ◌∙◌, Option, Some, None, bytes_eq, length}
use Rattle.std.specs.Prelude.{if◌then◌else◌}
use Rattle.std.specs.List.{find}
use Rattle.std.specs.Option.{option_and_then}
use Rattle.smk_world.specs.Trees.{Path}
use Rattle.smk_chain.specs.declared.jobs.Maker.{Maker}
use Rattle.smk_plan.specs.Duties.{maker_in}

-- what the list has for the path, or else this
abbrev pub found_in : List Maker → Option (Option ℕ) → Path → Option (Option ℕ)
found_in [] d q = d
found_in (m ∷ ms) d q = if bytes_eq m.path q then Some m.job else found_in ms d q

found_last : (ms : List Maker) (m : Maker) (d : Option (Option ℕ)) (q : Path) → found_in (ms ++ m ∷ []) d q ≡ found_in ms (if bytes_eq m.path q then Some m.job else d) q
found_last [] m d q = refl
found_last (n ∷ ms) m d q = ap (λ x. if bytes_eq n.path q then Some n.job else x) (found_last ms m d q)

pub found_is : (ms : List Maker) (q : Path) → option_and_then (λ (n : Option ℕ). n) (found_in ms None q) ≡ maker_in ms q
found_is [] q = refl
found_is (m ∷ ms) q = go (bytes_eq m.path q) (found_is ms q)
  where
    go : (b : Bool) → option_and_then (λ (n : Option ℕ). n) (found_in ms None q) ≡ maker_in ms q
        → option_and_then (λ (n : Option ℕ). n) (if b then Some m.job else found_in ms None q)
        ≡ option_and_then (λ (x : Maker). x.job) (if b then Some m else find (λ (x : Maker). bytes_eq x.path q) ms)
    go true ih = refl
    go false ih = ih

pub found_step : (rest before : List Maker) (last : Maker) (old new : Option (Option ℕ)) (all : Option (Option ℕ)) (q : Path)
    → rest ≡ before ++ last ∷ [] → new ≡ (if bytes_eq last.path q then Some last.job else old) → found_in rest old q ≡ all → found_in before new q ≡ all
found_step rest before last old new all q is put h =
    ap (λ d. found_in before d q) put ∙ sym (found_last before last old q) ∙ ap (λ l. found_in l old q) (sym is) ∙ h

pub none_left : (ms : List Maker) → length ms ≡ 0 → ms ≡ []
none_left [] h = refl
none_left (m ∷ ms) h = cc
