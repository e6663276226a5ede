-- Children whose jobs have new numbers.
use Rattle.std.proofs.Common.{◌≡◌, ◌<◌, inl, inr, ℕ, suc, ◌+◌, Bool, true, false, List, [], ◌∷◌, drop, get_or, length, map, refl, sym, ap, subst, ◌∙◌, Option, Some, None, Result, Ok, Err, arith}
use Rattle.std.specs.Prelude.{IfOk, bytes_eq, if◌then◌else◌, nat_eq}
use Rattle.std.specs.List.{slice_get}
use Rattle.std.proofs.lemmas.Bool.{eqb-true}
use Rattle.std.proofs.lemmas.Option.{none-some, same_Some, slice_get_past}
use Rattle.smk_base.proofs.Places.{and_first, and_second, same_place}
use Rattle.smk_world.specs.Trees.{IsIn}
use Rattle.smk_flow.specs.declared.job.Job.{Job}
use Rattle.smk_flow.specs.Flows.{Flow, rule_name}
use Rattle.smk_store.proofs.Seeing.{dropped}
use Rattle.smk_plan.specs.States.{job_path}
use Rattle.smk_plan_live.specs.Live.{LivePlan}
use Rattle.smk_report.specs.Lines.{done_line}
use Rattle.smk_drive.specs.Reports.{named_job}
use Rattle.smk_drive_step.specs.declared.children.Child.{Child}
use Rattle.smk_drive_step.specs.Crews.{goings, renumbered}
use Rattle.smk_laws_turns.specs.Hubs.{asks_in}
use Rattle.smk_laws_turns.specs.Moving.{is_like, moved, moved_child, new_number, number_like}
use Rattle.smk_laws_turns.specs.GrownIn.{HaveLines}
use Rattle.smk_drive_close.specs.Numbers.{place_number}

-- ## Numbers

-- by their new numbers the children have moved
pub renumbered_moved : (old new : List Job) (places : List (Option Child)) → renumbered (map (place_number old new) places) places ≡ moved old new places
renumbered_moved old new [] = refl
renumbered_moved old new (None ∷ places) = ap (λ ps. None ∷ ps) (renumbered_moved old new places)
renumbered_moved old new (Some c ∷ places) = ap (λ ps. Some (moved_child old new c) ∷ ps) (renumbered_moved old new places)

no_further : (i : ℕ) → i + 0 ≡ i
no_further i = omega arith

one_further : (i n : ℕ) → i + (1 + n) ≡ i + 1 + n
one_further i n = omega arith

-- the job of this place is like it, or it isn't
pub like_here :
    (jobs : List Job) (i : ℕ) (x j : Job) (whole : ℕ) → i < length jobs → x ≡ get_or jobs i x → is_like j x ≡ true → whole ≡ i + number_like (drop i jobs) j → i ≡ whole
like_here jobs i x j whole lt at like h =
    sym
    (h
    ∙ ap (λ js. i + number_like js j) (dropped jobs i x lt at)
    ∙ ap (λ b. i + (if b then 0 else 1 + number_like (drop (i + 1) jobs) j)) like
    ∙ no_further i)

pub like_later :
    (jobs : List Job) (i : ℕ) (x j : Job) (whole : ℕ) → i < length jobs → x ≡ get_or jobs i x → is_like j x ≡ false → whole ≡ i + number_like (drop i jobs) j →
    whole ≡ i + 1 + number_like (drop (i + 1) jobs) j
like_later jobs i x j whole lt at like h =
    h
    ∙ ap (λ js. i + number_like js j) (dropped jobs i x lt at)
    ∙ ap (λ b. i + (if b then 0 else 1 + number_like (drop (i + 1) jobs) j)) like
    ∙ one_further i (number_like (drop (i + 1) jobs) j)

-- the same by lists that are equal
pub numbers_as :
    {E : Type 0} {old olds new news : List Job} {places are : List (Option Child)} (r : Result (List ℕ) E) →
    old ≡ olds → new ≡ news → places ≡ are → IfOk r (λ ns. ns ≡ map (place_number old new) places) → IfOk r (λ ns. ns ≡ map (place_number olds news) are)
numbers_as (Ok ns) o n p h = h ∙ (λ i. map (place_number (o i) (n i)) (p i))
numbers_as (Err e) o n p h = h

-- ## What stays

pub moved_goings : (old new : List Job) (places : List (Option Child)) → goings (moved old new places) ≡ goings places
moved_goings old new [] = refl
moved_goings old new (None ∷ places) = moved_goings old new places
moved_goings old new (Some c ∷ places) = ap (λ gs. c.going ∷ gs) (moved_goings old new places)

pub moved_asks : (old new : List Job) (places : List (Option Child)) → asks_in (moved old new places) ≡ asks_in places
moved_asks old new [] = refl
moved_asks old new (None ∷ places) = moved_asks old new places
moved_asks old new (Some c ∷ places) = ap (λ asks. c.ask ∷ asks) (moved_asks old new places)

-- ## Lines

-- a child that has moved was in one of the places
in_moved : (old new : List Job) (places : List (Option Child)) (c : Child) → IsIn (moved old new places) (Some c) → (d : Child) × IsIn places (Some d) × (c ≡ moved_child old new d)
in_moved old new [] c i = absurd i
in_moved old new (None ∷ places) c (inl e) = absurd (none-some c (sym e))
in_moved old new (None ∷ places) c (inr i) = let d = in_moved old new places c i in (d.0, inr d.1, d.2)
in_moved old new (Some d ∷ places) c (inl e) = (d, inl refl, same_Some c (moved_child old new d) e)
in_moved old new (Some x ∷ places) c (inr i) = let d = in_moved old new places c i in (d.0, inr d.1, d.2)

one_up : (n : ℕ) → 1 + n ≡ suc n
one_up n = omega arith

-- the job with the new number is like the old one
found_like : (jobs : List Job) (old j : Job) → slice_get jobs (number_like jobs old) ≡ Some j → is_like old j ≡ true
found_like [] old j h = absurd (none-some j h)
found_like (k ∷ jobs) old j h = go (is_like old k) refl (found_like jobs old j) h
  where
    go :
        (b : Bool) → is_like old k ≡ b → (slice_get jobs (number_like jobs old) ≡ Some j → is_like old j ≡ true) →
        slice_get (k ∷ jobs) (if b then 0 else 1 + number_like jobs old) ≡ Some j → is_like old j ≡ true
    go true e again here = subst (λ x. is_like old x ≡ true) (same_Some k j here) e
    go false e again later = again (subst (λ n. slice_get (k ∷ jobs) n ≡ Some j) (one_up (number_like jobs old)) later)

same_name : (flow : Flow) (j k : Job) → is_like j k ≡ true → named_job flow j ≡ named_job flow k
same_name flow j k like =
    let rule = eqb-true j.rule k.rule (and_first (nat_eq j.rule k.rule) (bytes_eq (job_path j) (job_path k)) like) in
    let path = same_place (job_path j) (job_path k) (and_second (nat_eq j.rule k.rule) (bytes_eq (job_path j) (job_path k)) like) in
    λ i. record { rule = rule_name flow (rule i); path = path i }

pub moved_lines :
    (flow : Flow) (old new : LivePlan) (jobs : List Job) (places : List (Option Child)) →
    new.base.jobs.jobs ≡ jobs → HaveLines flow old places → HaveLines flow new (moved old.base.jobs.jobs jobs places)
moved_lines flow old new jobs places now lines c i j is =
    let d = in_moved old.base.jobs.jobs jobs places c i in
    ap (λ (x : Child). x.done) d.2
    ∙ go d.0 d.1 (slice_get old.base.jobs.jobs d.0.job) refl
    (ap (λ js. slice_get js (new_number jobs (slice_get old.base.jobs.jobs d.0.job))) (sym now) ∙ (ap (λ (x : Child). slice_get new.base.jobs.jobs x.job) (sym d.2) ∙ is))
  where
    go :
        (d : Child) → IsIn places (Some d) → (o : Option Job) → slice_get old.base.jobs.jobs d.job ≡ o →
        slice_get jobs (new_number jobs o) ≡ Some j → d.done ≡ done_line (named_job flow j)
    go d there None e h = absurd (none-some j (sym (slice_get_past jobs (length jobs) (omega arith)) ∙ h))
    go d there (Some k) e h = lines d there k e ∙ ap done_line (same_name flow k j (found_like jobs k j h))
