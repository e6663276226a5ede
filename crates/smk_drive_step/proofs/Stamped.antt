-- From the digests of sources to the stamps of inputs.
use Rattle.std.proofs.Common.{◌≡◌, ℕ, ◌^◌, Bool, true, false, List, [], ◌∷◌, ◌++◌, length, refl, ap, sym, ◌∙◌, arith, Option, Some, None, Err}
use Rattle.std.specs.Prelude.{nat_lt}
use Rattle.std.specs.List.{list_all}
use Rattle.std.proofs.lemmas.Bool.{and_from}
use Rattle.smk_base.proofs.Places.{and_first, and_second}
use Rattle.smk_base.specs.declared.sum.Sum.{Sum as Digest}
use Rattle.smk_world.specs.declared.event.WorkFault.{WorkFault}
use Rattle.smk_world.specs.World.{World}
use Rattle.smk_world.specs.Calls.{device_failed}
use Rattle.smk_world.specs.Trees.{Path}
use Rattle.smk_record.specs.declared.record.Stamp.{Stamp}
use Rattle.smk_record.specs.declared.record.Stamp.TheVariants.{Time, Sum, Made}
use Rattle.smk_record.specs.Records.{is_earlier}
use Rattle.smk_record.specs.Spelling.{is_sum}
use Rattle.smk_digest.specs.declared.fault.SumFault.{SumFault}
use Rattle.smk_digest.specs.declared.fault.SumFault.TheVariants.{Device as NoDevice, OutOfMemory as NoMemory}
use Rattle.smk_digest.specs.Digests.{AreSums, sum_failed}
use Rattle.smk_run.specs.Digesting.{is_whole_sum, with_sum}
use Rattle.smk_run.specs.Stamps.{is_small}
use Rattle.smk_drive_step.specs.Stamping.{AreDigested, IsDigested, due_among, due_at, is_bare, sum_for, summed, sums_after, unsummed}

-- where each source that is due has its digest, the stamps with them are those of the inputs
pub digested_are :
    (w : World) (ps : List Path) (ks : List Stamp) (sums : List (Option Digest)) →
    length ks ≡ length ps → AreSums w (due_among ps ks) sums → AreDigested w ps ks (summed ks sums)
digested_are w [] [] sums len told = tt
digested_are w [] (k ∷ ks) sums len told = absurd (omega (arith, len))
digested_are w (p ∷ ps) [] sums len told = absurd (omega (arith, len))
digested_are w (p ∷ ps) (k ∷ ks) sums len told = go k sums told (λ sums. digested_are w ps ks sums (omega (arith, len)))
  where
    go :
        (k : Stamp) (sums : List (Option Digest)) → AreSums w (due_at p k ++ due_among ps ks) sums →
        ((sums : List (Option Digest)) → AreSums w (due_among ps ks) sums → AreDigested w ps ks (summed ks sums)) →
        IsDigested w p k (with_sum (sum_for (is_bare k) sums) k) × AreDigested w ps ks (summed ks (sums_after (is_bare k) sums))
    go (Time t) [] told more = absurd told
    go (Time t) (sum ∷ sums) told more = ((sum, told.0, refl), more sums told.1)
    go (Sum t d) sums told more = (refl, more sums told)
    go (Made n) sums told more = (refl, more sums told)

-- of the same digests
pub summed_as :
    (ks : List Stamp) (sums sums' : List (Option Digest)) (stamps : List Stamp) → sums' ≡ sums → stamps ≡ summed ks sums' → stamps ≡ summed ks sums
summed_as ks sums sums' stamps same is = is ∙ ap (summed ks) same

-- there is one for each
pub summed_each : (ks : List Stamp) (sums : List (Option Digest)) → length (summed ks sums) ≡ length ks
summed_each [] sums = refl
summed_each (k ∷ ks) sums =
    let rest : length (summed ks (sums_after (is_bare k) sums)) ≡ length ks = summed_each ks (sums_after (is_bare k) sums) in
    omega (arith, rest)

-- a digest changes no serial
earlier_same : (made : ℕ) (sum : Option Digest) (s : Stamp) → is_earlier made (with_sum sum s) ≡ is_earlier made s
earlier_same made None s = refl
earlier_same made (Some d) (Time t) = refl
earlier_same made (Some d) (Sum t e) = refl
earlier_same made (Some d) (Made m) = refl

pub summed_earlier :
    (made : ℕ) (ks : List Stamp) (sums : List (Option Digest)) →
    list_all (is_earlier made) ks ≡ true → list_all (is_earlier made) (summed ks sums) ≡ true
summed_earlier made [] sums h = refl
summed_earlier made (k ∷ ks) sums h =
    and_from (is_earlier made (with_sum (sum_for (is_bare k) sums) k)) _
    (earlier_same made (sum_for (is_bare k) sums) k ∙ and_first (is_earlier made k) (list_all (is_earlier made) ks) h)
    (summed_earlier made ks (sums_after (is_bare k) sums) (and_second (is_earlier made k) (list_all (is_earlier made) ks) h))

small_with : (sum : Option Digest) (s : Stamp) → is_whole_sum sum ≡ true → is_small s ≡ true → is_small (with_sum sum s) ≡ true
small_with None s whole h = h
small_with (Some d) (Time t) whole h = and_from (nat_lt t (2 ^ 64)) (is_sum d.0) h whole
small_with (Some d) (Sum t e) whole h = h
small_with (Some d) (Made m) whole h = h

whole_for : (due : Bool) (sums : List (Option Digest)) → list_all is_whole_sum sums ≡ true → is_whole_sum (sum_for due sums) ≡ true
whole_for false sums h = refl
whole_for true [] h = refl
whole_for true (sum ∷ sums) h = and_first (is_whole_sum sum) (list_all is_whole_sum sums) h

whole_after : (due : Bool) (sums : List (Option Digest)) → list_all is_whole_sum sums ≡ true → list_all is_whole_sum (sums_after due sums) ≡ true
whole_after false sums h = h
whole_after true [] h = refl
whole_after true (sum ∷ sums) h = and_second (is_whole_sum sum) (list_all is_whole_sum sums) h

-- a digest has 32 bytes
pub summed_small :
    (ks : List Stamp) (sums : List (Option Digest)) →
    list_all is_small ks ≡ true → list_all is_whole_sum sums ≡ true → list_all is_small (summed ks sums) ≡ true
summed_small [] sums h whole = refl
summed_small (k ∷ ks) sums h whole =
    and_from (is_small (with_sum (sum_for (is_bare k) sums) k)) _
    (small_with (sum_for (is_bare k) sums) k (whole_for (is_bare k) sums whole) (and_first (is_small k) (list_all is_small ks) h))
    (summed_small ks (sums_after (is_bare k) sums) (and_second (is_small k) (list_all is_small ks) h) (whole_after (is_bare k) sums whole))

-- the same fault
pub failed_as : (T U : Type 0) (x : SumFault) (f : WorkFault) → f ≡ unsummed x → sum_failed {T = T} (Err x) ≡ device_failed {T = U} (Err f)
failed_as T U NoDevice f is = sym (ap (λ (y : WorkFault). device_failed {T = U} (Err y)) is)
failed_as T U NoMemory f is = sym (ap (λ (y : WorkFault). device_failed {T = U} (Err y)) is)
