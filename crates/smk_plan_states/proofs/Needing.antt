-- The last pass by ranks, links and flags gives the ranks of the states.
use Rattle.std.proofs.Common.{◌≡◌, ◌∙◌, ◌<◌, ◌≤◌, ℕ, zero, suc, length, take, drop, get_or, set, arith, Bool, true, false, not, ◌&&◌, ◌||◌, List, [], ◌∷◌, ◌++◌, map, find, refl, sym, ap, subst, inr, append_assoc, append-nil, Option, Some, None, option_map}
use Rattle.std.specs.Prelude.{bytes_eq}
use Rattle.std.specs.List.{list_any}
use Rattle.std.proofs.lemmas.List.{map-append, length-map, set_at, drop_all, take_all}
use Rattle.smk_world.specs.World.{in_paths, out_paths}
use Rattle.smk_world.specs.Trees.{Path, among}
use Rattle.smk_flow.specs.declared.job.Job.{Job}
use Rattle.smk_chain.specs.declared.jobs.Jobs.{Jobs}
use Rattle.smk_chain.specs.declared.jobs.Maker.{Maker}
use Rattle.smk_trigger.specs.declared.reason.State.{State}
use Rattle.smk_trigger.specs.declared.reason.State.TheVariants.{Open, Dirty, Restore, Clean}
use Rattle.smk_trigger.specs.JobStates.{is_to_run}
use Rattle.smk_plan.specs.States.{gathers_from, job_path, state_of}
use Rattle.smk_plan.specs.Sights.{whole_outputs}
use Rattle.smk_plan_states.specs.declared.lines.Input.{Input}
use Rattle.smk_plan_states.specs.declared.lines.Line.{Line}
use Rattle.smk_plan_states.specs.declared.lines.Origin.{Origin}
use Rattle.smk_plan_states.specs.declared.ranks.Rank.{Rank}
use Rattle.smk_plan_states.specs.declared.rows.Rows.{Rows}
use Rattle.smk_plan_states.specs.Served.{ReadEarlier}
use Rattle.smk_plan_states.specs.Judged.{Judging, with_states}
use Rattle.smk_plan_states.specs.Parts.{gone_outputs, parts_of}
use Rattle.smk_plan_states.specs.First.{first_states, unless_needed}
use Rattle.smk_plan_states.specs.InUse.{is_in_use_told}
use Rattle.smk_plan_states.specs.Lines.{tells_of, link_to, origin_of, inputs_from, output_of, line_of}
use Rattle.smk_plan_states.specs.Moment.{IsMoment}
use Rattle.smk_plan_states.specs.Ranks.{rank_of, is_to_run_rank, unless_needed_rank}
use Rattle.smk_plan_states.specs.Ranking.{is_link, has_link, is_needed_at, is_needed_output, is_needed_by_flags, last_rank}
use Rattle.smk_laws_plan.proofs.CurrentLists.{In, in_left, in_right, none_some}
use Rattle.smk_laws_plan.proofs.CurrentPaths.{among_in}
use Rattle.smk_laws_plan.proofs.PlanStates.{any_same}
use Rattle.smk_plan_states.proofs.Tests.{any_never}
use Rattle.smk_plan_states.proofs.Apart.{each_in}
use Rattle.smk_plan_states.proofs.Told.{IsReadOf, read_of}
use Rattle.smk_plan_states.proofs.LastPass.{last_here}
use Rattle.smk_plan_states.proofs.Numbers.{has_a_link, link_below, link_same}
use Rattle.smk_plan_states.proofs.UsedBy.{inputs_any}
use Rattle.smk_plan_states.proofs.ByRank.{gone_any, told_paths, told_parts, told_used, is_solved, early, used_told, size, here, line_there, used_there, outputs_there}
use Rattle.smk_plan_states.proofs.Flags.{split_at}

any_each : {A : Type 0} (f g : A → Bool) → ((x : A) → f x ≡ g x) → (xs : List A) → list_any f xs ≡ list_any g xs
any_each f g h xs = λ i. list_any (λ x. h x i) xs

among_any : (paths : List Path) (p : Path) → list_any (bytes_eq p) paths ≡ among paths p
among_any [] p = refl
among_any (q ∷ paths) p = ap (λ b. bytes_eq p q || b) (among_any paths p)

and_turned : (a b : Bool) → (a && b) ≡ (b && a)
and_turned true true = refl
and_turned true false = refl
and_turned false true = refl
and_turned false false = refl

or_turned : (a b : Bool) → (a || b) ≡ (b || a)
or_turned true true = refl
or_turned true false = refl
or_turned false true = refl
or_turned false false = refl

to_run_is : (s : State) → is_to_run_rank (rank_of s) ≡ is_to_run s
to_run_is Open = refl
to_run_is (Dirty reasons) = refl
to_run_is Restore = refl
to_run_is Clean = refl

needed_rank : (needed : Bool) (s : State) → unless_needed_rank needed (rank_of s) ≡ rank_of (unless_needed needed s)
needed_rank needed Open = refl
needed_rank needed (Dirty reasons) = refl
needed_rank needed Restore = refl
needed_rank true Clean = refl
needed_rank false Clean = refl

-- ## What is needed

module _ (J : Jobs) (reads : ReadEarlier J 0 J.jobs) where
  -- what a job reads has a link
  linked_read : (j : Job) → In j J.jobs → (q : Path) → In q (in_paths j.recipe) → link_to J.makers q ≡ None → ⊥
  linked_read j there q i e =
      let r = read_of J 0 J.jobs j reads there in
      let t = each_in (IsReadOf J r.0) (in_paths j.recipe ++ gathers_from j) q r.1 (in_left q (in_paths j.recipe) (gathers_from j) i) in
      go (find (tells_of q) J.makers) refl t.0.told
    where
      go : {number : Option ℕ} (o : Option Maker) → find (tells_of q) J.makers ≡ o → option_map (λ (m : Maker). m.job) o ≡ Some number → ⊥
      go {number} None f b = none_some None number refl b
      go (Some m) f b = has_a_link J.makers q m f e

  -- some job reads the path that passes
  abbrev pub read_by : (Job → Bool) → List Job → Path → Bool
  read_by test js p = list_any (λ (j : Job). among (in_paths j.recipe) p && test j) js

  -- the same by the link
  abbrev pub linked_by : (Job → Bool) → List Job → ℕ → Bool
  linked_by test js n = list_any (λ (j : Job). test j && list_any (has_link n) (inputs_from J (job_path j) [] (in_paths j.recipe))) js

  pub needed_is :
      (test : Job → Bool) (js : List Job) → ((j : Job) → In j js → In j J.jobs) →
      (needed : List Bool) → ((n : ℕ) → n < length J.makers → get_or needed n false ≡ linked_by test js n) →
      (p : Path) → is_needed_at needed (link_to J.makers p) ≡ read_by test js p
  needed_is test js within needed told p = go (link_to J.makers p) refl
    where
      never : link_to J.makers p ≡ None → (j : Job) → In j js → (among (in_paths j.recipe) p && test j) ≡ false
      never e j i = by (among (in_paths j.recipe) p) refl
        where
          by : (b : Bool) → among (in_paths j.recipe) p ≡ b → (b && test j) ≡ false
          by false t = refl
          by true t = absurd (linked_read j (within j i) p (among_in (in_paths j.recipe) p t) e)

      one : (n : ℕ) → link_to J.makers p ≡ Some n → (j : Job) → (test j && list_any (has_link n) (inputs_from J (job_path j) [] (in_paths j.recipe))) ≡ (among (in_paths j.recipe) p && test j)
      one n e j =
          ap (λ b. test j && b)
          (inputs_any J (λ other link. is_link n link) (job_path j) [] (in_paths j.recipe)
          ∙ any_each (λ q. is_link n (link_to J.makers q)) (bytes_eq p) (λ q. link_same J.makers p q n e) (in_paths j.recipe)
          ∙ among_any (in_paths j.recipe) p)
          ∙ and_turned (test j) (among (in_paths j.recipe) p)

      go : (o : Option ℕ) → link_to J.makers p ≡ o → is_needed_at needed o ≡ read_by test js p
      go None e = sym (any_same (λ (j : Job). among (in_paths j.recipe) p && test j) (λ j. false) js (never e) ∙ any_never js)
      go (Some n) e =
          told n (link_below J.makers p n e)
          ∙ any_each (λ (j : Job). test j && list_any (has_link n) (inputs_from J (job_path j) [] (in_paths j.recipe))) (λ (j : Job). among (in_paths j.recipe) p && test j) (one n e) js

-- ## The pass

module _
    (at : Judging) (J : Jobs) (ss : List State) (lines : List Line) (origins : List Origin) (rows : Rows) (used : List Bool)
    (h : IsMoment at J ss lines origins rows used) where
  abbrev pub late : Job → State
  late = state_of at.image at.settings at.progress (with_states J ss)

  abbrev pub first_of : Job → State
  first_of j = early at J ss lines origins rows used h j

  abbrev pub runs : Job → Bool
  runs j = is_to_run (late j)

  -- some output that isn't whole is needed
  pub flags_needed :
      (k : Job) (js : List Job) → ((j : Job) → In j js → In j J.jobs) →
      (needed : List Bool) → ((n : ℕ) → n < length J.makers → get_or needed n false ≡ linked_by J h.served.reads runs js n) →
      is_needed_by_flags needed (map (output_of J at.settings.targets k) (out_paths k.recipe)) (whole_outputs at.image k)
      ≡ list_any (read_by J h.served.reads runs js) (gone_outputs at.image k)
  flags_needed k js within needed told =
      gone_any at.image (is_needed_output needed) (output_of J at.settings.targets k) k
      ∙ any_each (λ p. is_needed_at needed (link_to J.makers p)) (read_by J h.served.reads runs js) (needed_is J h.served.reads runs js within needed told) (gone_outputs at.image k)

  -- So far: the jobs from the number on have their ranks, and what those of them that are to run read is needed.
  pub record IsDown (number : ℕ) (ranks : List Rank) (needed : List Bool) : Type 0 where
    pub made : ranks ≡ map rank_of (map first_of (take number J.jobs)) ++ map rank_of (map late (drop number J.jobs))
    pub reads : (n : ℕ) → n < length J.makers → get_or needed n false ≡ linked_by J h.served.reads runs (drop number J.jobs) n

  pub none_down :
      (number : ℕ) (ranks : List Rank) (needed : List Bool) → number ≡ length lines → ranks ≡ map rank_of (first_states at J ss) → ((n : ℕ) → get_or needed n false ≡ false) → IsDown number ranks needed
  none_down number ranks needed n r f =
      let within : length J.jobs ≤ number = subst (λ (c : ℕ). length J.jobs ≤ c) (sym n) (subst (λ (c : ℕ). length J.jobs ≤ c) (sym (size at J ss lines origins rows used h)) (omega arith)) in
      let none = drop_all number J.jobs within in
      let whole = take_all number J.jobs within in
      record {
        made = r ∙ ap (λ js. map rank_of (map first_of js)) (sym whole) ∙ sym (append-nil (map rank_of (map first_of (take number J.jobs))))
            ∙ ap (λ js. map rank_of (map first_of (take number J.jobs)) ++ map rank_of (map late js)) (sym none);
        reads = λ m lt. f m ∙ ap (λ js. linked_by J h.served.reads runs js m) (sym none);
      }

  got_there : {A : Type 0} (xs : List A) (x : A) (ys : List A) (n : ℕ) (d : A) → length xs ≡ n → get_or (xs ++ x ∷ ys) n d ≡ x
  got_there [] x ys zero d e = refl
  got_there [] x ys (suc n) d e = absurd (omega arith)
  got_there (z ∷ xs) x ys zero d e = absurd (omega arith)
  got_there (z ∷ xs) x ys (suc n) d e = got_there xs x ys n d (omega arith)

  pub more_down :
      (old_number number : ℕ) (line : Line) (u run : Bool) (inputs : List Input) (first rank : Rank) (ranks new : List Rank) (needed seen later : List Bool) →
      old_number ≡ suc number → number < length lines → line ≡ get_or lines number line → u ≡ get_or used number false → first ≡ get_or ranks number first → seen ≡ needed →
      rank ≡ last_rank seen rows line number u first → run ≡ is_to_run_rank rank → inputs ≡ line.inputs → new ≡ set ranks number rank → length needed ≡ length origins →
      ((n : ℕ) → n < length needed → get_or later n false ≡ (get_or needed n false || (run && list_any (has_link n) inputs))) →
      IsDown old_number ranks needed → IsDown number new later
  more_down old_number number line u run inputs first rank ranks new needed seen later step lt l e f s r runs_now ins n count grown up =
      let down : IsDown (suc number) ranks needed = subst (λ (m : ℕ). IsDown m ranks needed) step up in
      let within : number < length J.jobs = subst (λ (c : ℕ). number < c) (size at J ss lines origins rows used h) lt in
      let p = split_at J.jobs number within in
      let before = take number J.jobs in
      let after = drop (suc number) J.jobs in
      let k = p.0 in
      let there = sym p.2 in
      let front : map rank_of (map first_of (take (suc number) J.jobs)) ≡ map rank_of (map first_of before) ++ rank_of (first_of k) ∷ [] =
      ap (λ js. map rank_of (map first_of js)) p.3 ∙ ap (map rank_of) (map-append first_of before (k ∷ [])) ∙ map-append rank_of (map first_of before) (first_of k ∷ []) in
      let old : ranks ≡ map rank_of (map first_of before) ++ rank_of (first_of k) ∷ map rank_of (map late after) =
      down.made ∙ ap (λ rs. rs ++ map rank_of (map late after)) front
      ∙ append_assoc (map rank_of (map first_of before)) (rank_of (first_of k) ∷ []) (map rank_of (map late after)) in
      let long : length (map rank_of (map first_of before)) ≡ number = length-map (map first_of before) rank_of ∙ length-map before first_of ∙ p.2 in
      let was : first ≡ rank_of (first_of k) =
      f ∙ ap (λ (rs : List Rank). get_or rs number first) old ∙ got_there (map rank_of (map first_of before)) (rank_of (first_of k)) (map rank_of (map late after)) number first long in
      let line_is : line ≡ line_of J at.settings.targets k = l ∙ line_there at J ss lines origins rows used h before k after p.1 number there line in
      let read : u ≡ is_in_use_told (told_used at J ss lines origins rows used h) (parts_of at.image k) =
      e ∙ used_there at J ss lines origins rows used h before k after p.1 number there
      ∙ sym (used_told at J ss lines origins rows used h k (here at J ss lines origins rows used h before k after p.1 number there)) in
      let flags = outputs_there at J ss lines origins rows used h before k after p.1 number there in
      let wanted = flags_needed k after (λ j i. subst (In j) (sym p.1) (in_right j before (k ∷ after) (inr i))) seen (λ m q. ap (λ (fs : List Bool). get_or fs m false) s ∙ down.reads m q) in
      let is : rank ≡ rank_of (late k) =
      r
      ∙ (λ i. unless_needed_rank (is_needed_by_flags seen (line_is i).outputs (flags i) && not (read i)) (was i))
      ∙ ap (λ b. unless_needed_rank (b && not (is_in_use_told (told_used at J ss lines origins rows used h) (parts_of at.image k))) (rank_of (first_of k))) wanted
      ∙ needed_rank (list_any (read_by J h.served.reads runs after) (gone_outputs at.image k) && not (is_in_use_told (told_used at J ss lines origins rows used h) (parts_of at.image k))) (first_of k)
      ∙ ap rank_of
      (last_here at J ss (told_paths at J ss lines origins rows used h) (told_parts at J ss lines origins rows used h) (told_used at J ss lines origins rows used h) (is_solved at J ss lines origins rows used h)
      before k after p.1 (read_by J h.served.reads runs after) (λ q. refl)) in
      let run_is : run ≡ runs k = runs_now ∙ ap is_to_run_rank is ∙ to_run_is (late k) in
      let inputs_are : inputs ≡ inputs_from J (job_path k) [] (in_paths k.recipe) = ins ∙ ap (λ (x : Line). x.inputs) line_is in
      record {
        made = n ∙ ap (λ (rs : List Rank). set rs number rank) old
            ∙ set_at (map rank_of (map first_of before)) (rank_of (first_of k)) (map rank_of (map late after)) rank number long
            ∙ (λ i. map rank_of (map first_of before) ++ is i ∷ map rank_of (map late after))
            ∙ ap (λ js. map rank_of (map first_of before) ++ map rank_of (map late js)) (sym p.4);
        reads = λ m q.
            let below : m < length needed = subst (λ (c : ℕ). m < c) (sym (count ∙ ap length h.each_origin ∙ length-map J.makers (origin_of J.jobs))) q in
            grown m below
            ∙ (λ i. down.reads m q i || (run_is i && list_any (has_link m) (inputs_are i)))
            ∙ or_turned (linked_by J h.served.reads runs after m) (runs k && list_any (has_link m) (inputs_from J (job_path k) [] (in_paths k.recipe)))
            ∙ ap (λ js. linked_by J h.served.reads runs js m) (sym p.4);
      }

  pub all_down : (number : ℕ) (ranks : List Rank) (needed : List Bool) → number ≡ 0 → IsDown number ranks needed → ranks ≡ map rank_of ss
  all_down number ranks needed zero_now down =
      down.made
      ∙ ap (λ m. map rank_of (map first_of (take m J.jobs)) ++ map rank_of (map late (drop m J.jobs))) zero_now
      ∙ ap (map rank_of) (sym h.solved)
