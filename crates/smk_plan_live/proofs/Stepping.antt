-- What is told of jobs once one of them has come a step further: of others the same, but for the reasons of its readers.
use Rattle.std.proofs.Common.{◌≡◌, ℕ, zero, suc, Bool, false, List, [], ◌∷◌, map, Option, Some, None, refl, ap, ◌∙◌}
use Rattle.std.specs.Prelude.{if◌then◌else◌, slice_index_or}
use Rattle.std.specs.List.{slice_get}
use Rattle.std.proofs.lemmas.Option.{same_Some, none-some}
use Rattle.smk_flow.specs.declared.job.Job.{Job}
use Rattle.smk_chain.specs.declared.jobs.Maker.{Maker}
use Rattle.smk_plan_facts.specs.Telling.{flags_but, is_number}
use Rattle.smk_plan_states.specs.declared.lines.Origin.{Origin}
use Rattle.smk_plan_states.specs.Lines.{origin_of}
use Rattle.smk_plan_states.specs.Ranking.{is_link}

-- ## Flags of makers

number_link : (n : ℕ) (o : Option ℕ) → is_number n o ≡ is_link n o
number_link n None = refl
number_link n (Some k) = refl

-- the flag of a maker is as it was, unless the job is told to make its path
pub flags_stay :
    (fresh : Maker → Bool) (n : ℕ) (jobs : List Job) (makers : List Maker) (flags : List Bool) (m : ℕ) (o : Origin) →
    slice_get (map (origin_of jobs) makers) m ≡ Some o → is_link n o.job ≡ false → slice_index_or (flags_but fresh n makers flags) m false ≡ slice_index_or flags m false
flags_stay fresh n jobs [] flags m o at other = absurd (none-some o at)
flags_stay fresh n jobs (k ∷ makers) [] m o at other = refl
flags_stay fresh n jobs (k ∷ makers) (b ∷ flags) zero o at other =
    ap (λ (c : Bool). if c then fresh k else b) (number_link n k.job ∙ ap (λ (x : Origin). is_link n x.job) (same_Some (origin_of jobs k) o at) ∙ other)
flags_stay fresh n jobs (k ∷ makers) (b ∷ flags) (suc m) o at other = flags_stay fresh n jobs makers flags m o at other
