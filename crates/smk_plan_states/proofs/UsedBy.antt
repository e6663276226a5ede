-- Which jobs children read from, by links: it is what is told of it.
use Rattle.std.proofs.Common.{◌≡◌, ◌∙◌, ◌<◌, ℕ, zero, suc, length, get_or, arith, Bool, true, false, not, ◌&&◌, ◌||◌, ◌==◌, List, [], ◌∷◌, ◌++◌, map, find, refl, sym, ap, subst, Option, Some, None, option_map, is_some, eqb-true}
use Rattle.std.specs.Prelude.{bytes_eq}
use Rattle.std.specs.List.{list_any}
use Rattle.std.specs.Option.{option_and_then}
use Rattle.std.proofs.Math.Bool.{and-false}
use Rattle.std.proofs.lemmas.Bool.{eq-eqb}
use Rattle.std.proofs.lemmas.List.{ext_get_or, length-map}
use Rattle.smk_base.specs.Path.{overlaps}
use Rattle.smk_world.specs.World.{in_paths, out_paths}
use Rattle.smk_world.specs.Trees.{Path, first}
use Rattle.smk_pattern.specs.Reading.{or_empty}
use Rattle.smk_flow.specs.declared.job.Job.{Job}
use Rattle.smk_chain.specs.declared.jobs.Jobs.{Jobs}
use Rattle.smk_chain.specs.declared.jobs.Maker.{Maker}
use Rattle.smk_trigger.specs.declared.reason.State.{State}
use Rattle.smk_plan.specs.States.{makes, gathers_from, job_path, kept_state, is_read_now, test_some}
use Rattle.smk_plan.specs.Sights.{job_at}
use Rattle.smk_plan_states.specs.declared.lines.Input.{Input}
use Rattle.smk_plan_states.specs.declared.lines.Line.{Line}
use Rattle.smk_plan_states.specs.declared.lines.Origin.{Origin}
use Rattle.smk_plan_states.specs.Served.{AreServed}
use Rattle.smk_plan_states.specs.Judged.{Judging, began, with_states}
use Rattle.smk_plan_states.specs.Lines.{tells_of, link_to, job_of, origin_of, is_of_other, inputs_from, line_of}
use Rattle.smk_plan_states.specs.Spots.{maker_at}
use Rattle.smk_plan_states.specs.Ranking.{is_link, is_made_by_other, is_reader_of, is_read_by_child}
use Rattle.smk_laws_plan.proofs.CurrentLists.{In, in_left, find_in, none_some, some_inj, clash_of}
use Rattle.smk_laws_plan.proofs.CurrentPaths.{touch_overlaps, above_touch}
use Rattle.smk_laws_plan.proofs.CurrentApart.{JobsApart, makes_above}
use Rattle.smk_laws_plan.proofs.PlanStates.{any_same}
use Rattle.smk_plan_states.proofs.Apart.{each_in, jobs_apart_from}
use Rattle.smk_plan_states.proofs.Told.{IsReadOf, read_of}
use Rattle.smk_plan_states.proofs.ReadOthers.{found_one, find_none, any_zipped, any_and, unnamed}
use Rattle.smk_plan_states.proofs.ReadyNow.{job_there}
use Rattle.smk_plan_states.proofs.Numbers.{maker_is}

-- a test of the inputs of a job, path by path
pub inputs_any :
    (J : Jobs) (f : Bool → Option ℕ → Bool) (name : Path) (seen paths : List Path) →
    list_any (λ (i : Input). f i.other i.link) (inputs_from J name seen paths) ≡ list_any (λ q. f (is_of_other J name q) (link_to J.makers q)) paths
inputs_any J f name seen [] = refl
inputs_any J f name seen (q ∷ paths) = ap (λ b. f (is_of_other J name q) (link_to J.makers q) || b) (inputs_any J f name (q ∷ seen) paths)

-- jobs whose outputs lie apart stand in one place each
one_number : (js : List Job) (m n : ℕ) (j : Job) (q : Path) → JobsApart js → job_at js m ≡ Some j → job_at js n ≡ Some j → makes j q ≡ true → m ≡ n
one_number [] m n j q apart a b t = absurd (none_some None j refl a)
one_number (k ∷ js) zero zero j q apart a b t = refl
one_number (k ∷ js) zero (suc n) j q apart a b t = absurd (touching k js n j q apart a b t)
  where
    touching : (k : Job) (js : List Job) (n : ℕ) (j : Job) (q : Path) → JobsApart (k ∷ js) → Some k ≡ Some j → job_at js n ≡ Some j → makes j q ≡ true → ⊥
    touching k js n j q apart a b t =
        let x = makes_above k q (ap (λ (y : Job). makes y q) (some_inj k j a) ∙ t) in
        let y = makes_above j q t in
        clash_of (overlaps y.0 x.0) (touch_overlaps y.0 x.0 (above_touch q y.0 x.0 y.2 x.2)) (apart.0 j x.0 y.0 (job_there js n j b) x.1 y.1)
one_number (k ∷ js) (suc m) zero j q apart a b t = absurd (touching k js m j q apart b a t)
  where
    touching : (k : Job) (js : List Job) (n : ℕ) (j : Job) (q : Path) → JobsApart (k ∷ js) → Some k ≡ Some j → job_at js n ≡ Some j → makes j q ≡ true → ⊥
    touching k js n j q apart a b t =
        let x = makes_above k q (ap (λ (y : Job). makes y q) (some_inj k j a) ∙ t) in
        let y = makes_above j q t in
        clash_of (overlaps y.0 x.0) (touch_overlaps y.0 x.0 (above_touch q y.0 x.0 y.2 x.2)) (apart.0 j x.0 y.0 (job_there js n j b) x.1 y.1)
one_number (k ∷ js) (suc m) (suc n) j q apart a b t = ap suc (one_number js m n j q apart.2 a b t)

job_within : (js : List Job) (n : ℕ) → n < length js → (j : Job) × (job_at js n ≡ Some j)
job_within [] n h = absurd (omega arith)
job_within (j ∷ js) zero h = (j, refl)
job_within (j ∷ js) (suc n) h = job_within js n (omega arith)

map_at : {B : Type 0} (f : Job → B) (js : List Job) (n : ℕ) (j : Job) (d : B) → job_at js n ≡ Some j → get_or (map f js) n d ≡ f j
map_at f [] n j d e = absurd (none_some None j refl e)
map_at f (k ∷ js) zero j d e = ap f (some_inj k j e)
map_at f (k ∷ js) (suc n) j d e = map_at f js n j d e

module _ (J : Jobs) (asked : List Path) (served : AreServed J asked) where
  apart : JobsApart J.jobs
  apart = jobs_apart_from J.jobs served.apart

  abbrev origins : List Origin
  origins = map (origin_of J.jobs) J.makers

  abbrev named : Job → Option Path
  named i = first (out_paths i.recipe)

  module _ (n : ℕ) (j : Job) (is : job_at J.jobs n ≡ Some j) where
    here : In j J.jobs
    here = job_there J.jobs n j is

    -- another job than that of the name, which has this number, makes the path
    abbrev Other : Path → Path → Option ℕ → Bool
    Other name q number = test_some (λ p. not (bytes_eq p name)) (option_and_then named (option_and_then (job_at J.jobs) number)) && is_link n number

    by_number : (name q : Path) (number : Option ℕ) → find (λ j. makes j q) J.jobs ≡ option_and_then (job_at J.jobs) number → Other name q number ≡ (not (bytes_eq (job_path j) name) && makes j q)
    by_number name q None made =
        sym (ap (λ b. not (bytes_eq (job_path j) name) && b) (find_none (λ j. makes j q) J.jobs j made here) ∙ and-false (not (bytes_eq (job_path j) name)))
    by_number name q (Some m) made = go (m == n) refl
      where
        never : (makes j q ≡ true → ⊥) → makes j q ≡ false
        never h = by (makes j q) refl
          where
            by : (b : Bool) → makes j q ≡ b → makes j q ≡ false
            by false e = e
            by true e = absurd (h e)

        first_is :
            makes j q ≡ true → (o : Option Path) → first (out_paths j.recipe) ≡ o →
            (test_some (λ p. not (bytes_eq p name)) o && true) ≡ (not (bytes_eq (or_empty o) name) && true)
        first_is t (Some p) e = refl
        first_is t None e = absurd (clash_of (makes j q) t (unnamed J.jobs apart j here e q))

        go : (b : Bool) → (m == n) ≡ b → (test_some (λ p. not (bytes_eq p name)) (option_and_then named (job_at J.jobs m)) && (m == n)) ≡ (not (bytes_eq (job_path j) name) && makes j q)
        go true e =
            let number : m ≡ n = eqb-true m n e in
            let at_m : job_at J.jobs m ≡ Some j = ap (job_at J.jobs) number ∙ is in
            let t : makes j q ≡ true = (find_in (λ j. makes j q) J.jobs j (made ∙ at_m)).1 in
            (λ i. test_some (λ p. not (bytes_eq p name)) (option_and_then named (at_m i)) && e i)
            ∙ first_is t (named j) refl
            ∙ ap (λ b. not (bytes_eq (job_path j) name) && b) (sym t)
        go false e =
            ap (λ b. test_some (λ p. not (bytes_eq p name)) (option_and_then named (job_at J.jobs m)) && b) e
            ∙ and-false (test_some (λ p. not (bytes_eq p name)) (option_and_then named (job_at J.jobs m)))
            ∙ sym (ap (λ b. not (bytes_eq (job_path j) name) && b) (never other) ∙ and-false (not (bytes_eq (job_path j) name)))
          where
            other : makes j q ≡ true → ⊥
            other t =
                let found = sym made ∙ found_one J.jobs j q apart here t in
                clash_of (m == n) (eq-eqb m n (one_number J.jobs m n j q apart found is t)) e

    input_is :
        (k : Job) → In k J.jobs → (q : Path) → In q (in_paths k.recipe) →
        (is_of_other J (job_path k) q && is_link n (maker_at origins (link_to J.makers q))) ≡ (not (bytes_eq (job_path j) (job_path k)) && makes j q)
    input_is k there q i =
        let r = read_of J 0 J.jobs k served.reads there in
        let t = each_in (IsReadOf J r.0) (in_paths k.recipe ++ gathers_from k) q r.1 (in_left q (in_paths k.recipe) (gathers_from k) i) in
        go t.0.number t.0.right (find (tells_of q) J.makers) refl t.0.told
      where
        go :
            (number : Option ℕ) → find (λ j. makes j q) J.jobs ≡ option_and_then (job_at J.jobs) number →
            (o : Option Maker) → find (tells_of q) J.makers ≡ o → option_map (λ (m : Maker). m.job) o ≡ Some number →
            (is_of_other J (job_path k) q && is_link n (maker_at origins (link_to J.makers q))) ≡ (not (bytes_eq (job_path j) (job_path k)) && makes j q)
        go number right None e b = absurd (none_some None number refl b)
        go number right (Some m) e b =
            let made = maker_is J.jobs J.makers q ∙ ap (option_and_then (λ (m : Maker). m.job)) e in
            (λ i. test_some (λ p. not (bytes_eq p (job_path k))) (option_and_then named (option_and_then (job_of J.jobs) (e i))) && is_link n (made i))
            ∙ by_number (job_path k) q m.job (right ∙ ap (option_and_then (job_at J.jobs)) (sym (some_inj m.job number b)))

    -- the same of the children that run
    read_by_links :
        (kept : Job → Option State) →
        is_read_by_child (map (line_of J asked) J.jobs) origins (map kept J.jobs) n
        ≡ list_any (λ (k : Job). is_some (kept k) && (not (bytes_eq (job_path j) (job_path k)) && list_any (makes j) (in_paths k.recipe))) J.jobs
    read_by_links kept =
        any_zipped (is_reader_of origins n) (line_of J asked) kept J.jobs
        ∙ any_same (λ (k : Job). is_reader_of origins n (line_of J asked k, kept k)) (λ (k : Job). is_some (kept k) && (not (bytes_eq (job_path j) (job_path k)) && list_any (makes j) (in_paths k.recipe))) J.jobs
        (λ k i. ap (λ b. is_some (kept k) && b) (one k i))
      where
        one :
            (k : Job) → In k J.jobs →
            list_any (is_made_by_other origins n) (inputs_from J (job_path k) [] (in_paths k.recipe)) ≡ (not (bytes_eq (job_path j) (job_path k)) && list_any (makes j) (in_paths k.recipe))
        one k there =
            inputs_any J (λ other link. other && is_link n (maker_at origins link)) (job_path k) [] (in_paths k.recipe)
            ∙ any_same (λ q. is_of_other J (job_path k) q && is_link n (maker_at origins (link_to J.makers q))) (λ q. not (bytes_eq (job_path j) (job_path k)) && makes j q) (in_paths k.recipe) (input_is k there)
            ∙ any_and (not (bytes_eq (job_path j) (job_path k))) (makes j) (in_paths k.recipe)

-- for each job it is told rightly
pub used_are :
    (at : Judging) (J : Jobs) (asked : List Path) → AreServed J asked →
    (lines : List Line) (makers : List Origin) (running : List (Option State)) (used : List Bool) →
    lines ≡ map (line_of J asked) J.jobs → makers ≡ map (origin_of J.jobs) J.makers → running ≡ began at J → length used ≡ length lines →
    ((n : ℕ) → n < length lines → get_or used n false ≡ is_read_by_child lines makers running n) →
    used ≡ map (is_read_now at.image at.settings at.progress (with_states J [])) J.jobs
used_are at J asked served lines makers running used l o r each told =
    let count : length lines ≡ length J.jobs = ap length l ∙ length-map J.jobs (line_of J asked) in
    ext_get_or false used (map (is_read_now at.image at.settings at.progress (with_states J [])) J.jobs)
    (each ∙ count ∙ sym (length-map J.jobs (is_read_now at.image at.settings at.progress (with_states J []))))
    (λ n h.
    let within : n < length lines = subst (λ (c : ℕ). n < c) each h in
    let j = job_within J.jobs n (subst (λ (c : ℕ). n < c) count within) in
    told n within
    ∙ (λ i. is_read_by_child (l i) (o i) (r i) n)
    ∙ read_by_links J asked served n j.0 j.1 (kept_state at.image at.settings at.progress (with_states J []))
    ∙ sym (map_at (is_read_now at.image at.settings at.progress (with_states J [])) J.jobs n j.0 false j.1))
