-- What a record without members tells of the job that it will be of.
use Rattle.std.proofs.Common.{◌≡◌, ℕ, Bool, true, false, ◌&&◌, ◌==◌, List, [], ◌∷◌, ◌++◌, length, refl, sym, subst, eqb-true}
use Rattle.smk_world.specs.declared.recipe.Recipe.{Recipe}
use Rattle.smk_world.specs.World.{in_paths, out_paths}
use Rattle.smk_world.specs.Trees.{Path, Each}
use Rattle.smk_record.specs.declared.record.Record.{Record}
use Rattle.smk_record.specs.declared.record.Member.{Member}
use Rattle.smk_record.specs.declared.record.Stamp.{Stamp}
use Rattle.smk_record.specs.Records.{is_valid, record_of}
use Rattle.rows_jobs.specs.Bare.{IsBare}

first_true : (a b : Bool) → (a && b) ≡ true → a ≡ true
first_true true b h = refl
first_true false b h = h

stamped_at : (kept : Record) → IsBare kept → length kept.stamps ≡ length (in_paths kept.recipe)
stamped_at kept bare = eqb-true (length kept.stamps) (length (in_paths kept.recipe)) (first_true (length kept.stamps == length (in_paths kept.recipe)) _ bare.valid)

valid_at : (kept : Record) → IsBare kept → Each (λ p. is_valid (record_of p kept.made kept.recipe kept.stamps []) ≡ true) (out_paths kept.recipe)
valid_at kept bare =
    subst (λ ps. Each (λ p. is_valid (record_of p kept.made kept.recipe kept.stamps []) ≡ true) ps) (sym bare.outs) (
      subst (λ ms. is_valid (record_of kept.path kept.made kept.recipe kept.stamps ms) ≡ true) bare.none
          (subst (λ n. is_valid (record kept { format = n }) ≡ true) bare.format bare.valid),
      tt,
    )

-- there is a stamp for each input
pub each_stamped : (kept : Record) (recipe : Recipe) (stamps : List Stamp) → IsBare kept → recipe ≡ kept.recipe → stamps ≡ kept.stamps
    → length stamps ≡ length (in_paths recipe)
each_stamped kept recipe stamps bare same_recipe same_stamps =
    subst (λ r. length stamps ≡ length (in_paths r)) (sym same_recipe) (subst (λ s. length s ≡ length (in_paths kept.recipe)) (sym same_stamps) (stamped_at kept bare))

-- the record of each output is valid
pub valid_each : (kept : Record) (recipe : Recipe) (stamps : List Stamp) (made : ℕ) → IsBare kept → recipe ≡ kept.recipe → stamps ≡ kept.stamps → made ≡ kept.made
    → Each (λ p. is_valid (record_of p made recipe stamps []) ≡ true) (out_paths recipe)
valid_each kept recipe stamps made bare same_recipe same_stamps same_made =
    subst (λ r. Each (λ p. is_valid (record_of p made r stamps []) ≡ true) (out_paths r)) (sym same_recipe)
    (subst (λ s. Each (λ p. is_valid (record_of p made kept.recipe s []) ≡ true) (out_paths kept.recipe)) (sym same_stamps)
    (subst (λ m. Each (λ p. is_valid (record_of p m kept.recipe kept.stamps []) ≡ true) (out_paths kept.recipe)) (sym same_made) (valid_at kept bare)))

-- it makes one output
pub one_output : (kept : Record) (recipe : Recipe) → IsBare kept → recipe ≡ kept.recipe → out_paths recipe ≡ kept.path ∷ []
one_output kept recipe bare same = subst (λ r. out_paths r ≡ kept.path ∷ []) (sym same) bare.outs

-- after something is added nothing is empty
pub some_run : (numbers : List ℕ) (old : List ℕ) (n : ℕ) → numbers ≡ old ++ n ∷ [] → numbers ≡ [] → ⊥
some_run numbers [] n e none = cc
some_run numbers (m ∷ old) n e none = cc

-- the record that was made of these parts
pub bare_of : (kept : Record) (path : Path) (made : ℕ) (recipe : Recipe) (stamps : List Stamp) (members : List Member)
    → is_valid (record_of path made recipe stamps members) ≡ true → kept ≡ record_of path made recipe stamps members → members ≡ [] → out_paths recipe ≡ path ∷ [] → IsBare kept
bare_of kept path made recipe stamps members good is none outs = subst IsBare (sym is) (record { valid = good; format = refl; none = none; outs = outs })
