-- What is noted to be needed is what jobs read that aren't Clean.
use Rattle.std.proofs.Common.{◌≡◌, ◌<◌, ℕ, length, Bool, true, false, not, cond, ◌&&◌, ◌||◌, List, [], ◌∷◌, map, find, zip, replicate, get_or, set, refl, sym, ap, subst, ◌∙◌, Option, Some, None}
use Rattle.std.proofs.Common.{option_map}
use Rattle.std.specs.Prelude.{bytes_eq, ◌==◌}
use Rattle.std.specs.Cmp.{both_ways}
use Rattle.std.specs.List.{list_any, slice_get}
use Rattle.std.proofs.lemmas.Bool.{eqb-true, eq-eqb}
use Rattle.std.proofs.lemmas.List.{get_or-set_same, get_or-set_other, get_or-replicate, length-replicate, length-set}
use Rattle.std.proofs.lemmas.Option.{slice_get_within}
use Rattle.std.proofs.Math.Bool.{and_comm, or-false, or-true}
use Rattle.smk_base.proofs.Places.{same_place, place_itself}
use Rattle.smk_world.specs.World.{in_paths}
use Rattle.smk_world.specs.Trees.{Path, among}
use Rattle.smk_flow.specs.declared.job.Job.{Job}
use Rattle.smk_chain.specs.declared.jobs.Jobs.{Jobs}
use Rattle.smk_chain.specs.declared.jobs.Maker.{Maker}
use Rattle.smk_trigger.specs.declared.reason.State.{State}
use Rattle.smk_trigger.specs.JobStates.{is_clean}
use Rattle.smk_plan.specs.States.{gathers_from, is_input, job_path, test_some}
use Rattle.smk_plan_states.specs.declared.lines.Input.{Input}
use Rattle.smk_plan_states.specs.declared.lines.Line.{Line}
use Rattle.smk_plan_states.specs.Judged.{with_states}
use Rattle.smk_plan_states.specs.Lines.{line_of, link_to, tells_of}
use Rattle.smk_plan_states.specs.Served.{IsToldOf, ReadEarlier}
use Rattle.smk_plan_states.proofs.Tests.{any_never}
use Rattle.smk_laws_plan.proofs.CurrentLists.{In, clash_of, in_left, none_some, some_inj, zip_first}
use Rattle.smk_laws_plan.proofs.PlanStates.{any_same}
use Rattle.smk_drive_pick.specs.Told.{has_flag}
use Rattle.smk_drive_pick.specs.Spending.{need_each, with_need}
use Rattle.smk_drive_pick.proofs.AtHand.{reads_told}
use Rattle.smk_drive_pick.proofs.Awaiting.{named}
use Rattle.smk_drive_pick.proofs.ByRank.{state_need_all as need_all, state_need_of as need_of}
use Rattle.smk_drive_pick.proofs.Links.{any_inputs, place_at, place_found}

-- ## Flags

abbrev flag : List Bool → ℕ → Bool
flag flags n = get_or flags n false

-- the link leads to the number
abbrev leads : ℕ → Option ℕ → Bool
leads n link = test_some (λ k. k == n) link

or_over : (a b c : Bool) → ((a || b) || c) ≡ (a || (b || c))
or_over true b c = refl
or_over false b c = refl

set_is : (flags : List Bool) (k n : ℕ) → n < length flags → flag (set flags k true) n ≡ (flag flags n || (k == n))
set_is flags k n h = go (k == n) refl
  where
    go : (b : Bool) → (k == n) ≡ b → flag (set flags k true) n ≡ (flag flags n || b)
    go true e =
        let same : k ≡ n = eqb-true k n e in
        ap (λ m. flag (set flags m true) n) same ∙ get_or-set_same flags n true false h ∙ sym (or-true (flag flags n))
    go false e =
        get_or-set_other flags k n true false (λ same. clash_of (k == n) (eq-eqb k n (sym same)) e) ∙ sym (or-false (flag flags n))

with_is : (flags : List Bool) (link : Option ℕ) (n : ℕ) → n < length flags → flag (with_need flags link) n ≡ (flag flags n || leads n link)
with_is flags None n h = sym (or-false (flag flags n))
with_is flags (Some k) n h = set_is flags k n h

with_long : (flags : List Bool) (link : Option ℕ) → length (with_need flags link) ≡ length flags
with_long flags None = refl
with_long flags (Some k) = length-set flags k true

each_is :
    (flags : List Bool) (inputs : List Input) (n : ℕ) → n < length flags →
    flag (need_each flags inputs) n ≡ (flag flags n || list_any (λ (i : Input). leads n i.link) inputs)
each_is flags [] n h = sym (or-false (flag flags n))
each_is flags (i ∷ inputs) n h =
    each_is (with_need flags i.link) inputs n (subst (λ m. n < m) (sym (with_long flags i.link)) h)
    ∙ ap (λ b. b || list_any (λ (i : Input). leads n i.link) inputs) (with_is flags i.link n h)
    ∙ or_over (flag flags n) (leads n i.link) (list_any (λ (i : Input). leads n i.link) inputs)

each_long : (flags : List Bool) (inputs : List Input) → length (need_each flags inputs) ≡ length flags
each_long flags [] = refl
each_long flags (i ∷ inputs) = each_long (with_need flags i.link) inputs ∙ with_long flags i.link

-- the job isn't Clean, and an input of it leads to the number
abbrev needs : ℕ → Line × State → Bool
needs n e = not (is_clean e.1) && list_any (λ (i : Input). leads n i.link) e.0.inputs

of_is : (flags : List Bool) (e : Line × State) (n : ℕ) → n < length flags → flag (need_of flags e) n ≡ (flag flags n || needs n e)
of_is flags e n h = go (is_clean e.1)
  where
    go :
        (b : Bool) → flag (cond b flags (need_each flags e.0.inputs)) n
        ≡ (flag flags n || (not b && list_any (λ (i : Input). leads n i.link) e.0.inputs))
    go true = sym (or-false (flag flags n))
    go false = each_is flags e.0.inputs n h

of_long : (flags : List Bool) (e : Line × State) → length (need_of flags e) ≡ length flags
of_long flags e = go (is_clean e.1)
  where
    go : (b : Bool) → length (cond b flags (need_each flags e.0.inputs)) ≡ length flags
    go true = refl
    go false = each_long flags e.0.inputs

all_is :
    (flags : List Bool) (es : List (Line × State)) (n : ℕ) → n < length flags → flag (need_all flags es) n ≡ (flag flags n || list_any (needs n) es)
all_is flags [] n h = sym (or-false (flag flags n))
all_is flags (e ∷ es) n h =
    all_is (need_of flags e) es n (subst (λ m. n < m) (sym (of_long flags e)) h)
    ∙ ap (λ b. b || list_any (needs n) es) (of_is flags e n h)
    ∙ or_over (flag flags n) (needs n e) (list_any (needs n) es)

-- where none was needed before
all_are : (count : ℕ) (es : List (Line × State)) (n : ℕ) → n < count → flag (need_all (replicate count false) es) n ≡ list_any (needs n) es
all_are count es n h =
    all_is (replicate count false) es n (subst (λ m. n < m) (sym (length-replicate count false)) h)
    ∙ ap (λ b. b || list_any (needs n) es) (get_or-replicate count n false false h)

-- ## Links and paths

any_zipped : {A B C : Type 0} (f : A → B) (test : B × C → Bool) (xs : List A) (ys : List C) →
    list_any test (zip (map f xs) ys) ≡ list_any (λ (e : A × C). test (f e.0, e.1)) (zip xs ys)
any_zipped f test [] ys = refl
any_zipped f test (x ∷ xs) [] = refl
any_zipped f test (x ∷ xs) (y ∷ ys) = ap (λ b. test (f x, y) || b) (any_zipped f test xs ys)

-- two paths have one link where they are one
one_link : (makers : List Maker) (p q : Path) (n : ℕ) → link_to makers p ≡ Some n → leads n (link_to makers q) ≡ bytes_eq p q
one_link makers p q n linked = both_ways (leads n (link_to makers q)) (bytes_eq p q) (forth (link_to makers q) refl) back
  where
    forth : (o : Option ℕ) → link_to makers q ≡ o → leads n o ≡ true → bytes_eq p q ≡ true
    forth None e h = absurd (clash_of (leads n None) h refl)
    forth (Some k) e h =
        let mine = place_at (tells_of p) makers n linked in
        let other = place_at (tells_of q) makers k e in
        let same : mine.0 ≡ other.0 = some_inj mine.0 other.0 (sym mine.1 ∙ ap (slice_get makers) (sym (eqb-true k n h)) ∙ other.1) in
        let path : p ≡ q = sym (same_place mine.0.path p mine.2) ∙ ap (λ (m : Maker). m.path) same ∙ same_place other.0.path q other.2 in
        subst (λ x. bytes_eq p x ≡ true) path (place_itself p)

    back : bytes_eq p q ≡ true → leads n (link_to makers q) ≡ true
    back h = ap (λ x. leads n (link_to makers x)) (sym (same_place p q h)) ∙ ap (leads n) linked ∙ eq-eqb n n refl

-- a path without a link isn't one of which something is told
unlinked : (J : Jobs) (p q : Path) → link_to J.makers p ≡ None → IsToldOf J q → bytes_eq p q ≡ false
unlinked J p q none h = go (bytes_eq p q) refl
  where
    found : (o : Option Maker) → find (tells_of q) J.makers ≡ o → option_map (λ (m : Maker). m.job) o ≡ Some h.number → link_to J.makers q ≡ None → ⊥
    found None e b k = none_some None h.number refl b
    found (Some m) e b k = let place = place_found (tells_of q) J.makers m e in none_some (link_to J.makers q) place.0 k place.1

    go : (b : Bool) → bytes_eq p q ≡ b → b ≡ false
    go false e = refl
    go true e = absurd (found (find (tells_of q) J.makers) refl h.told (ap (link_to J.makers) (sym (same_place p q e)) ∙ none))

-- ## One path

module _ (J : Jobs) (ss : List State) (reads : ReadEarlier J 0 J.jobs) (asked : List Path) where
  abbrev pub noted : List Bool
  noted = need_all (replicate (length J.makers) false) (zip (map (line_of J asked) J.jobs) ss)

  abbrev unclean : Job × State → Bool
  unclean e = not (is_clean e.1)

  pub needed_is : (p : Path) → has_flag noted (link_to J.makers p) ≡ is_input (with_states J ss) unclean p
  needed_is p = go (link_to J.makers p) refl
    where
      never : (e : Job × State) → In e (zip J.jobs ss) → link_to J.makers p ≡ None → (among (in_paths e.0.recipe) p && unclean e) ≡ false
      never e i none =
          ap (λ b. b && unclean e)
          (named (in_paths e.0.recipe) p
          ∙ any_same (bytes_eq p) (λ q. false) (in_paths e.0.recipe)
          (λ q k. unlinked J p q none (reads_told J 0 J.jobs e.0 q reads (zip_first J.jobs ss e.0 e.1 i) (in_left q (in_paths e.0.recipe) (gathers_from e.0) k)))
          ∙ any_never (in_paths e.0.recipe))

      one : (n : ℕ) → link_to J.makers p ≡ Some n → (e : Job × State) → needs n (line_of J asked e.0, e.1) ≡ (among (in_paths e.0.recipe) p && unclean e)
      one n linked e =
          ap (λ b. unclean e && b)
          (any_inputs J (job_path e.0) (leads n) [] (in_paths e.0.recipe)
          ∙ any_same (λ q. leads n (link_to J.makers q)) (bytes_eq p) (in_paths e.0.recipe) (λ q k. one_link J.makers p q n linked)
          ∙ sym (named (in_paths e.0.recipe) p))
          ∙ and_comm (unclean e) (among (in_paths e.0.recipe) p)

      go : (o : Option ℕ) → link_to J.makers p ≡ o → has_flag noted o ≡ is_input (with_states J ss) unclean p
      go None none =
          sym (any_same (λ (e : Job × State). among (in_paths e.0.recipe) p && unclean e) (λ e. false) (zip J.jobs ss) (λ e i. never e i none)
          ∙ any_never (zip J.jobs ss))
      go (Some n) linked =
          let place = place_at (tells_of p) J.makers n linked in
          all_are (length J.makers) (zip (map (line_of J asked) J.jobs) ss) n (slice_get_within J.makers n place.0 place.1)
          ∙ any_zipped (line_of J asked) (needs n) J.jobs ss
          ∙ any_same (λ (e : Job × State). needs n (line_of J asked e.0, e.1)) (λ (e : Job × State). among (in_paths e.0.recipe) p && unclean e) (zip J.jobs ss)
          (λ e i. one n linked e)
