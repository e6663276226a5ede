-- What a directory lacks.
use Rattle.std.proofs.Common.{◌≡◌, ◌∙◌, Bool, true, false, ◌&&◌, ◌||◌, not, List, ◌∷◌, map, Option, Some, None, option_map, refl, sym, ap, ap₂, cond}
use Rattle.std.specs.Prelude.{bytes_eq, is_some}
use Rattle.std.specs.List.{find}
use Rattle.std.proofs.lemmas.Slice.Eq.{bytes_eq-Decides}
use Rattle.smk_world.specs.Calls.{in_folder}
use Rattle.smk_world.specs.Trees.{Path, among}
use Rattle.smk_chain.specs.declared.jobs.Known.{Known}
use Rattle.smk_chain.specs.Derive.{Listings, is_missing, or_none}
use Rattle.smk_chain_walk.specs.Folders.{is_file}
use Rattle.smk_base.proofs.Places.{same_flipped}

-- whether a path is lacking, by whether it is among the files, where they are known
abbrev pub lacks_by : Option Bool → Bool
lacks_by None = false
lacks_by (Some b) = not b

lacks_of : (folder p : Path) (k : Option Known) →
    is_some (option_map (λ (x : Known). x.files) k) && not (among (map (in_folder folder) (or_none (option_map (λ (x : Known). x.files) k))) p) ≡ lacks_by (is_file folder p k)
lacks_of folder p None = refl
lacks_of folder p (Some k) = refl

pub lacks_is : (L : Listings) (folder p : Path) (b : Option Bool) → b ≡ is_file folder p (find (λ (k : Known). bytes_eq k.folder folder) L) → lacks_by b ≡ is_missing L p (Some folder)
lacks_is L folder p b e = ap lacks_by e ∙ sym (lacks_of folder p (find (λ (k : Known). bytes_eq k.folder folder) L))

-- one more listing before the others
pub file_step : (k : Known) (L : Listings) (S : Type 0) (has : S → Path → Bool) (set : S) (old new : Path → Option S) →
    ((q : Path) → has set q ≡ among (map (in_folder k.folder) k.files) q) →
    ((q : Path) → new q ≡ cond (bytes_eq k.folder q) (Some set) (old q)) →
    ((folder p : Path) → option_map (λ s. has s p) (old folder) ≡ is_file folder p (find (λ (x : Known). bytes_eq x.folder folder) L)) →
    (folder p : Path) → option_map (λ s. has s p) (new folder) ≡ is_file folder p (find (λ (x : Known). bytes_eq x.folder folder) (k ∷ L))
file_step k L S has set old new are put before folder p = ap (option_map (λ s. has s p)) (put folder) ∙ go (bytes_eq k.folder folder) refl
  where
    go : (b : Bool) → bytes_eq k.folder folder ≡ b →
        option_map (λ s. has s p) (cond b (Some set) (old folder)) ≡ is_file folder p (cond b (Some k) (find (λ (x : Known). bytes_eq x.folder folder) L))
    go true e = ap Some (are p ∙ ap (λ f. among (map (in_folder f) k.files) p) ((bytes_eq-Decides k.folder folder).0 e))
    go false e = before folder p

-- one more file before the others
pub path_step : (folder file : Path) (files : List Path) (old new : Path → Bool) → ((q : Path) → new q ≡ bytes_eq (in_folder folder file) q || old q) →
    ((q : Path) → old q ≡ among (map (in_folder folder) files) q) → (q : Path) → new q ≡ among (map (in_folder folder) (file ∷ files)) q
path_step folder file files old new put before q = put q ∙ ap₂ ◌||◌ (same_flipped (in_folder folder file) q) (before q)
