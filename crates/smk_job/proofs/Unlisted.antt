-- A sight whose record isn't valid.
use Rattle.std.proofs.Common.{◌≡◌, Bool, true, false, refl, ap, ◌∙◌}
use Rattle.std.specs.Prelude.{if◌then◌else◌}
use Rattle.smk_job.specs.declared.folders.Sight.{Sight}
use Rattle.smk_job.specs.declared.folders.Sight.TheVariants.{Bad}
use Rattle.smk_job.specs.declared.sight.Wrong.TheVariants.{Unlisted}

-- where it isn't so, since it would be absurd, the other one is meant, also of what is the same
pub unless_so : (x : Sight) (so same : Bool) → (so ≡ true → ◌≡◌ {A = Bool} false true) → so ≡ same → Bad Unlisted ≡ (if same then x else Bad Unlisted)
unless_so x true same never equal = ap (λ (b : Bool). if b then x else Bad Unlisted) (never refl) ∙ ap (λ (b : Bool). if b then x else Bad Unlisted) equal
unless_so x false same never equal = ap (λ (b : Bool). if b then x else Bad Unlisted) equal
