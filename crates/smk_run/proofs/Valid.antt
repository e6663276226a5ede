-- The records of a job's outputs are valid.
use Rattle.std.proofs.Common.{◌≡◌, ◌≤◌, ◌<◌, ◌^◌, ℕ, Bool, true, false, ◌&&◌, ◌==◌, List, [], ◌∷◌, length, map, refl, ap, ◌∙◌, inl, inr}
use Rattle.std.proofs.lemmas.Bool.{eq-eqb, le-leb, lt-ltb}
use Rattle.std.specs.Prelude.{nat_le, nat_lt, if◌then◌else◌}
use Rattle.std.specs.List.{list_all}
use Rattle.smk_base.specs.declared.tree.Pair.{Pair}
use Rattle.smk_world.specs.declared.recipe.Recipe.{Recipe}
use Rattle.smk_world.specs.World.{in_paths, out_paths}
use Rattle.smk_world.specs.Trees.{Path, Each, IsIn, among, folders_of, is_path_text, is_text}
use Rattle.smk_record.specs.declared.record.Stamp.{Stamp}
use Rattle.smk_record.specs.declared.record.Stamp.TheVariants.{Time, Sum, Made}
use Rattle.smk_record.specs.Records.{is_valid, record_of, is_earlier, is_format, is_in_format, are_rising, are_valid_members, are_none}
use Rattle.smk_record.specs.Spelling.{texts, is_writable}
use Rattle.smk_run.specs.Stamps.{is_small}
use Rattle.smk_job.proofs.Lists.{among_by}

and_true : (a b : Bool) → a ≡ true → b ≡ true → (a && b) ≡ true
and_true a b h k = ap (λ x. x && b) h ∙ k

no_members : (b : Bool) (p : Path) → (if b then are_valid_members p [] else are_none []) ≡ true
no_members true p = refl
no_members false p = refl

-- format 2 may have any stamp
each_in_two : (stamps : List Stamp) → list_all (is_in_format 2) stamps ≡ true
each_in_two [] = refl
each_in_two (Time t ∷ ss) = each_in_two ss
each_in_two (Sum t d ∷ ss) = each_in_two ss
each_in_two (Made m ∷ ss) = each_in_two ss

each_by : (P : Path → Type 0) (ps : List Path) → ((p : Path) → IsIn ps p → P p) → Each P ps
each_by P [] h = tt
each_by P (p ∷ ps) h = (h p (inl refl), each_by P ps (λ q i. h q (inr i)))

valid_one : (made : ℕ) (recipe : Recipe) (stamps : List Stamp) (p : Path)
    → length stamps ≡ length (in_paths recipe) → 1 ≤ made → list_all (is_earlier made) stamps ≡ true → are_rising (map (λ (w : Pair). w.name) recipe.wildcards) ≡ true
    → list_all is_path_text (in_paths recipe) ≡ true → list_all is_path_text (out_paths recipe) ≡ true → among (out_paths recipe) p ≡ true
    → is_valid (record_of p made recipe stamps []) ≡ true
valid_one made recipe stamps p each positive earlier rising ins outs one =
    and_true (length stamps == length (in_paths recipe)) _ (eq-eqb (length stamps) (length (in_paths recipe)) each)
    (and_true (among (out_paths recipe) p) _ one
    (and_true (nat_le 1 made) _ (le-leb 1 made positive)
    (and_true (list_all (is_earlier made) stamps) _ earlier
    (and_true (are_rising (map (λ (w : Pair). w.name) recipe.wildcards)) _ rising
    (and_true (list_all is_path_text (in_paths recipe)) _ ins
    (and_true (list_all is_path_text (out_paths recipe)) _ outs
    (and_true (if among (folders_of recipe) p then are_valid_members p [] else are_none []) _ (no_members (among (folders_of recipe) p) p)
    (and_true (is_format 2 && list_all (is_in_format 2) stamps) true (each_in_two stamps) refl))))))))

-- the records of all outputs
pub valid_each : (made : ℕ) (recipe : Recipe) (stamps : List Stamp)
    → length stamps ≡ length (in_paths recipe) → 1 ≤ made → list_all (is_earlier made) stamps ≡ true → are_rising (map (λ (w : Pair). w.name) recipe.wildcards) ≡ true
    → list_all is_path_text (in_paths recipe) ≡ true → list_all is_path_text (out_paths recipe) ≡ true
    → Each (λ p. is_valid (record_of p made recipe stamps []) ≡ true) (out_paths recipe)
valid_each made recipe stamps each positive earlier rising ins outs =
    each_by (λ p. is_valid (record_of p made recipe stamps []) ≡ true) (out_paths recipe)
    (λ p i. valid_one made recipe stamps p each positive earlier rising ins outs (among_by (out_paths recipe) p i))

-- and can be written
pub writable_each : (made : ℕ) (recipe : Recipe) (stamps : List Stamp)
    → made < 2 ^ 64 → list_all is_small stamps ≡ true → list_all is_text (texts recipe) ≡ true
    → Each (λ p. is_writable (record_of p made recipe stamps []) ≡ true) (out_paths recipe)
writable_each made recipe stamps lt small words =
    let one : is_writable (record_of [] made recipe stamps []) ≡ true
    = and_true (list_all is_text (texts recipe)) _ words (and_true (nat_lt made (2 ^ 64)) _ (lt-ltb made (2 ^ 64) lt) small) in
    each_by (λ p. is_writable (record_of p made recipe stamps []) ≡ true) (out_paths recipe) (λ p i. one)
