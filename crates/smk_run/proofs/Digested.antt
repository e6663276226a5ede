-- From the digests of sources to the stamps of inputs.
use Rattle.std.proofs.Common.{◌≡◌, ℕ, ◌^◌, true, List, [], ◌∷◌, ◌++◌, length, refl, ap, ◌∙◌, arith, Option, Some, None}
use Rattle.std.specs.Prelude.{nat_lt}
use Rattle.std.specs.List.{list_all}
use Rattle.std.proofs.lemmas.Bool.{and_from}
use Rattle.smk_base.proofs.Places.{and_first, and_second}
use Rattle.smk_base.specs.declared.sum.Sum.{Sum as Digest}
use Rattle.smk_world.specs.World.{World}
use Rattle.smk_world.specs.Trees.{Path}
use Rattle.smk_record.specs.declared.record.Stamp.{Stamp}
use Rattle.smk_record.specs.declared.record.Stamp.TheVariants.{Time, Sum, Made}
use Rattle.smk_record.specs.Records.{is_earlier}
use Rattle.smk_record.specs.Spelling.{is_sum}
use Rattle.smk_digest.specs.Digests.{AreSums}
use Rattle.smk_run.specs.Stamps.{Serials, is_small}
use Rattle.smk_run.specs.Digesting.{AreDigested, IsDigested, is_whole_sum, source_in, sources_among, sum_for, sums_after, summed, with_sum}

-- where each source has its digest, the stamps with them are those of the inputs
pub are_digested :
    (w : World) (made : Serials) (ps : List Path) (seen : List Stamp) (sums : List (Option Digest)) →
    length seen ≡ length ps → AreSums w (sources_among made ps) sums → AreDigested w made ps seen (summed made ps seen sums)
are_digested w made [] [] sums len told = tt
are_digested w made [] (s ∷ seen) sums len told = absurd (omega (arith, len))
are_digested w made (p ∷ ps) [] sums len told = absurd (omega (arith, len))
are_digested w made (p ∷ ps) (s ∷ seen) sums len told = go (made p) sums told (λ sums. are_digested w made ps seen sums (omega (arith, len)))
  where
    go :
        (m : Option ℕ) (sums : List (Option Digest)) → AreSums w (source_in m p ++ sources_among made ps) sums → ((sums : List (Option Digest)) → AreSums w (sources_among made ps) sums → AreDigested w made ps seen (summed made ps seen sums)) →
        IsDigested w m p s (with_sum (sum_for m sums) s) × AreDigested w made ps seen (summed made ps seen (sums_after m sums))
    go (Some serial) sums told more = (refl, more sums told)
    go None [] told more = absurd told
    go None (sum ∷ sums) told more = ((sum, told.0, refl), more sums told.1)

-- of the same stamps and digests
pub summed_as : (made : Serials) (ps : List Path) (seen seen' : List Stamp) (sums sums' : List (Option Digest)) (stamps : List Stamp) → seen ≡ seen' → sums ≡ sums' → stamps ≡ summed made ps seen sums → stamps ≡ summed made ps seen' sums'
summed_as made ps seen seen' sums sums' stamps same equal is = is ∙ ap (λ l. summed made ps l sums) same ∙ ap (λ l. summed made ps seen' l) equal

-- there is one for each
pub summed_each : (made : Serials) (ps : List Path) (seen : List Stamp) (sums : List (Option Digest)) → length seen ≡ length ps → length (summed made ps seen sums) ≡ length ps
summed_each made [] seen sums len = refl
summed_each made (p ∷ ps) [] sums len = absurd (omega (arith, len))
summed_each made (p ∷ ps) (s ∷ seen) sums len =
    let rest : length (summed made ps seen (sums_after (made p) sums)) ≡ length ps = summed_each made ps seen (sums_after (made p) sums) (omega (arith, len)) in
    omega (arith, rest)

-- a digest changes no serial
earlier_same : (made : ℕ) (sum : Option Digest) (s : Stamp) → is_earlier made (with_sum sum s) ≡ is_earlier made s
earlier_same made None s = refl
earlier_same made (Some d) (Time t) = refl
earlier_same made (Some d) (Sum t e) = refl
earlier_same made (Some d) (Made m) = refl

pub summed_earlier : (serial : ℕ) (made : Serials) (ps : List Path) (seen : List Stamp) (sums : List (Option Digest)) → list_all (is_earlier serial) seen ≡ true → list_all (is_earlier serial) (summed made ps seen sums) ≡ true
summed_earlier serial made [] seen sums h = refl
summed_earlier serial made (p ∷ ps) [] sums h = refl
summed_earlier serial made (p ∷ ps) (s ∷ seen) sums h =
    and_from (is_earlier serial (with_sum (sum_for (made p) sums) s)) _ (earlier_same serial (sum_for (made p) sums) s ∙ and_first (is_earlier serial s) (list_all (is_earlier serial) seen) h)
    (summed_earlier serial made ps seen (sums_after (made p) sums) (and_second (is_earlier serial s) (list_all (is_earlier serial) seen) h))

small_with : (sum : Option Digest) (s : Stamp) → is_whole_sum sum ≡ true → is_small s ≡ true → is_small (with_sum sum s) ≡ true
small_with None s whole h = h
small_with (Some d) (Time t) whole h = and_from (nat_lt t (2 ^ 64)) (is_sum d.0) h whole
small_with (Some d) (Sum t e) whole h = h
small_with (Some d) (Made m) whole h = h

whole_for : (m : Option ℕ) (sums : List (Option Digest)) → list_all is_whole_sum sums ≡ true → is_whole_sum (sum_for m sums) ≡ true
whole_for (Some serial) sums h = refl
whole_for None [] h = refl
whole_for None (sum ∷ sums) h = and_first (is_whole_sum sum) (list_all is_whole_sum sums) h

whole_after : (m : Option ℕ) (sums : List (Option Digest)) → list_all is_whole_sum sums ≡ true → list_all is_whole_sum (sums_after m sums) ≡ true
whole_after (Some serial) sums h = h
whole_after None [] h = refl
whole_after None (sum ∷ sums) h = and_second (is_whole_sum sum) (list_all is_whole_sum sums) h

-- a digest has 32 bytes
pub summed_small : (made : Serials) (ps : List Path) (seen : List Stamp) (sums : List (Option Digest)) → list_all is_small seen ≡ true → list_all is_whole_sum sums ≡ true → list_all is_small (summed made ps seen sums) ≡ true
summed_small made [] seen sums h whole = refl
summed_small made (p ∷ ps) [] sums h whole = refl
summed_small made (p ∷ ps) (s ∷ seen) sums h whole =
    and_from (is_small (with_sum (sum_for (made p) sums) s)) _ (small_with (sum_for (made p) sums) s (whole_for (made p) sums whole) (and_first (is_small s) (list_all is_small seen) h))
    (summed_small made ps seen (sums_after (made p) sums) (and_second (is_small s) (list_all is_small seen) h) (whole_after (made p) sums whole))
