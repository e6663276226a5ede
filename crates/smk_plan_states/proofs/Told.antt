-- What is told of paths is so: their makers, and what the passes find by the states of the jobs before.
use Rattle.std.proofs.Common.{◌≡◌, ℕ, zero, suc, ◌+◌, ◌<◌, length, arith, Bool, true, false, not, cond, ◌&&◌, ◌||◌, List, [], ◌∷◌, ◌++◌, map, flat_map, find, zip, refl, sym, ap, subst, inl, inr, ◌∙◌, Option, Some, None, option_map, is_some, is_none}
use Rattle.std.specs.Prelude.{bytes_eq}
use Rattle.std.specs.List.{list_any, slice_get}
use Rattle.std.specs.Option.{option_and_then}
use Rattle.std.proofs.lemmas.List.Folds.{list_any-append}
use Rattle.std.proofs.Math.Bool.{and-true, or-false}
use Rattle.smk_choose.proofs.Preferred.{any_flat}
use Rattle.smk_base.proofs.Places.{same_place, same_flipped}
use Rattle.smk_world.specs.declared.recipe.Kind.TheVariants.{Folder}
use Rattle.smk_world.specs.World.{in_paths, out_paths}
use Rattle.smk_world.specs.Trees.{Path, Each, among, folder_over}
use Rattle.smk_flow.specs.declared.job.Job.{Job}
use Rattle.smk_store.specs.Images.{Image, is_whole}
use Rattle.smk_chain.specs.declared.jobs.Jobs.{Jobs}
use Rattle.smk_chain.specs.declared.jobs.Known.{Known}
use Rattle.smk_chain.specs.declared.jobs.Maker.{Maker}
use Rattle.smk_chain.specs.Derive.{Listings, listing}
use Rattle.smk_trigger.specs.declared.reason.State.{State}
use Rattle.smk_trigger.specs.JobStates.{is_open, is_dirty, is_clean}
use Rattle.smk_pick.specs.declared.settings.Settings.{Settings}
use Rattle.smk_plan.specs.States.{Progress, HasStates, makes, gathers_from, stands_whole, test_some, none_or_one, made_by, directory_over, awaits, is_input, is_ready, is_at_hand, awaited, is_open_now}
use Rattle.smk_plan.specs.Sights.{job_at}
use Rattle.smk_plan_states.specs.Shapes.{Directory, Parts, Site}
use Rattle.smk_plan_states.specs.Served.{IsToldOf, IsBelow, ReadEarlier}
use Rattle.smk_plan_states.specs.Judged.{with_states}
use Rattle.smk_plan_states.specs.Parts.{directory_at, parts_of}
use Rattle.smk_plan_states.specs.Sites.{over_of, site_of}
use Rattle.smk_plan_states.specs.Paths.{over_told, over_paths, awaits_told, awaited_told, site_at}
use Rattle.smk_plan_states.specs.Passes.{state_at, over_opens, reading_opens, gathering_opens, opens, is_dirty_told, is_kept_told}
use Rattle.smk_plan_states.specs.First.{is_kept, is_always_wanted}
use Rattle.smk_laws_plan.proofs.CurrentLists.{In, none_some, in_left, in_right, find_in, clash_of, some_inj}
use Rattle.smk_laws_plan.proofs.CurrentApart.{Apart, JobsApart}
use Rattle.smk_laws_plan.proofs.PlanStates.{any_same, any_zip}
use Rattle.smk_laws_plan.proofs.CurrentRecipes.{flat_same}
use Rattle.smk_plan_states.proofs.Tests.{any_or, among_once}
use Rattle.smk_plan_states.proofs.Apart.{each_in}
use Rattle.smk_plan_states.proofs.Meaning.{final, first, opens_alike, dirties_alike, fed_alike, maker_is, directory_is, fed_over, fed_gathered, over_at_hand, gone_tests}

-- ## Numbers

-- the state by number is that of the job
pub state_below :
    (f : Job → State) (before rest : List Job) (number : Option ℕ) → IsBelow (length before) number →
    state_at (map f before) number ≡ option_map f (option_and_then (job_at (before ++ rest)) number)
state_below f before rest None h = refl
state_below f before rest (Some k) h = go before k h
  where
    go : (js : List Job) (k : ℕ) → k < length js → slice_get (map f js) k ≡ option_map f (job_at (js ++ rest) k)
    go [] k h = absurd (omega arith)
    go (j ∷ js) zero h = refl
    go (j ∷ js) (suc k) h = go js k (omega arith)

-- what is told of a path that a job reads
abbrev pub IsReadOf : Jobs → ℕ → Path → Type 0
IsReadOf J n q = (t : IsToldOf J q) × IsBelow n t.number

pub read_there :
    (J : Jobs) (n : ℕ) (before : List Job) (j : Job) (rest : List Job) → ReadEarlier J n (before ++ j ∷ rest) →
    (m : ℕ) → m ≡ n + length before → Each (IsReadOf J m) (in_paths j.recipe ++ gathers_from j)
read_there J n [] j rest h m e =
    let same : n ≡ m = omega arith in subst (λ k. Each (IsReadOf J k) (in_paths j.recipe ++ gathers_from j)) same h.0
read_there J n (b ∷ before) j rest h m e = read_there J (suc n) before j rest h.1 m (omega arith)

-- ## Sites

module _ (image : Image) (J : Jobs) where
  -- what is known of a path is so
  pub record IsTold (q : Path) (s : Site) : Type 0 where
    pub found : site_at image J q ≡ Some s
    pub maker : find (λ j. makes j q) J.jobs ≡ option_and_then (job_at J.jobs) s.job
    pub whole : s.whole ≡ test_some (stands_whole image q) (find (λ j. makes j q) J.jobs)
    pub over : s.over ≡ over_of image q (find (λ j. makes j q) J.jobs)

  pub told_some : (q : Path) → IsToldOf J q → (s : Site) × IsTold q s
  told_some q h = go (find (λ (m : Maker). bytes_eq m.path q) J.makers) refl h.told
    where
      go : (o : Option Maker) → find (λ (m : Maker). bytes_eq m.path q) J.makers ≡ o → option_map (λ (m : Maker). m.job) o ≡ Some h.number → (s : Site) × IsTold q s
      go None e b = absurd (none_some None h.number refl b)
      go (Some m) e b =
          let path = same_place m.path q (find_in (λ (m : Maker). bytes_eq m.path q) J.makers m e).1 in
          let made = h.right ∙ ap (option_and_then (job_at J.jobs)) (sym (some_inj m.job h.number b)) in (
            site_of image J.jobs m,
            record {
              found = ap (option_map (site_of image J.jobs)) e;
              maker = made;
              whole = ap (λ p. test_some (stands_whole image p) (option_and_then (job_at J.jobs) m.job)) path ∙ ap (test_some (stands_whole image q)) (sym made);
              over = ap (λ p. over_of image p (option_and_then (job_at J.jobs) m.job)) path ∙ ap (over_of image q) (sym made);
            },
          )

  pub told_below : (n : ℕ) (q : Path) → IsReadOf J n q → (s : Site) × IsTold q s × IsBelow n s.job
  told_below n q h =
      let t = told_some q h.0 in (t.0, t.1, subst (IsBelow n) (sym (number_of (find (λ (m : Maker). bytes_eq m.path q) J.makers) t.0 h.0.told t.1.found)) h.1)
    where
      number_of : (o : Option Maker) (s : Site) → option_map (λ (m : Maker). m.job) o ≡ Some h.0.number → option_map (site_of image J.jobs) o ≡ Some s → s.job ≡ h.0.number
      number_of None s e f = absurd (none_some None h.0.number refl e)
      number_of (Some m) s e f = sym (ap (λ (s : Site). s.job) (some_inj (site_of image J.jobs m) s f)) ∙ some_inj m.job h.0.number e

pub read_of :
    (J : Jobs) (n : ℕ) (js : List Job) (j : Job) → ReadEarlier J n js → In j js →
    (m : ℕ) × Each (IsReadOf J m) (in_paths j.recipe ++ gathers_from j)
read_of J n [] j h i = absurd i
read_of J n (k ∷ js) j h (inl e) = (n, subst (λ (x : Job). Each (IsReadOf J n) (in_paths x.recipe ++ gathers_from x)) (sym e) h.0)
read_of J n (k ∷ js) j h (inr i) = read_of J (suc n) js j h.1 i

-- ## Listings

pub listed_none : (L : Listings) (d : Path) → is_none (listing L d) ≡ not (among (map (λ (k : Known). k.folder) L) d)
listed_none [] d = refl
listed_none (k ∷ L) d = go (bytes_eq k.folder d) (bytes_eq d k.folder) (same_flipped k.folder d) (listed_none L d)
  where
    go : (a b : Bool) → a ≡ b → is_none (listing L d) ≡ not (among (map (λ (k : Known). k.folder) L) d) → is_none (option_map (λ (k : Known). k.files) (cond a (Some k) (find (λ (k : Known). bytes_eq k.folder d) L))) ≡ not (b || among (map (λ (k : Known). k.folder) L) d)
    go true true e ih = refl
    go false false e ih = ih
    go true false e ih = absurd (clash_of false (sym e) refl)
    go false true e ih = absurd (clash_of false e refl)

hand_listed : (c l n : Bool) → n ≡ not l → (not c || not l) ≡ (not c || (c && n))
hand_listed true l n e = sym e
hand_listed false l n e = refl

shuffle : (a f g b m : Bool) → ((a || (f || g)) || (b || m)) ≡ ((m || f) || (g || (a || b)))
shuffle true f g b true = refl
shuffle true true g b false = refl
shuffle true false true b false = refl
shuffle true false false b false = refl
shuffle false true g b true = refl
shuffle false true g b false = refl
shuffle false false true b true = refl
shuffle false false true b false = refl
shuffle false false false true true = refl
shuffle false false false true false = refl
shuffle false false false false true = refl
shuffle false false false false false = refl

-- what opens a job, path by path
open_split :
    (a b m : Path → Bool) (D : Path → List Path) (ins gs : List Path) →
    (list_any a (gs ++ flat_map D (ins ++ gs)) || (list_any b gs || list_any m ins))
    ≡ (list_any (λ q. m q || list_any a (D q)) ins || list_any (λ d. list_any a (D d) || (a d || b d)) gs)
open_split a b m D ins gs =
    let over = λ (q : Path). list_any a (D q) in
    ap (λ x. x || (list_any b gs || list_any m ins))
    (list_any-append a gs (flat_map D (ins ++ gs)) ∙ ap (λ x. list_any a gs || x) (any_flat a D (ins ++ gs) ∙ list_any-append over ins gs))
    ∙ shuffle (list_any a gs) (list_any over ins) (list_any over gs) (list_any b gs) (list_any m ins)
    ∙ sym (let x = any_or m over ins in let y = any_or over (λ d. a d || b d) gs ∙ ap (λ z. list_any over gs || z) (any_or a b gs) in λ i. x i || y i)

-- ## The first pass

module _
    (image : Image) (settings : Settings) (progress : Progress) (J : Jobs) (ss : List State)
    (solved : HasStates image settings progress (with_states J ss)) (apart : JobsApart J.jobs) where
  abbrev P : Rattle.smk_plan.specs.States.Plan
  P = with_states J ss

  abbrev early : Job → State
  early = first image settings progress J ss

  abbrev late : Job → State
  late = final image settings progress J ss

  abbrev paired : Job → Job × State
  paired j = (j, late j)

  abbrev by : Path → Option Job
  by q = find (λ j. makes j q) J.jobs

  abbrev away : Path → Bool
  away d = not (is_at_hand image settings progress P d)

  -- the directory over a path that is told of
  over_is_told : (q : Path) (s : Site) → IsTold image J q s → over_paths (site_at image J) q ≡ directory_over P q
  over_is_told q s t =
      ap over_told t.found
      ∙ ap (λ o. none_or_one (option_map (λ (d : Directory). d.path) o)) t.over
      ∙ ap none_or_one (go (option_and_then (λ (j : Job). folder_over j.recipe q) (by q)))
      ∙ sym (directory_is image settings progress J ss solved q)
    where
      go : (o : Option Path) → option_map (λ (d : Directory). d.path) (option_map (directory_at image) o) ≡ o
      go None = refl
      go (Some f) = refl

  module _ (asked : List Path) (targets : settings.targets ≡ asked) (told_targets : Each (IsToldOf J) asked) (reads : ReadEarlier J 0 J.jobs) where
    pub awaited_is : (q : Path) → among (awaited_told (site_at image J) (map (parts_of image) J.jobs) asked) q ≡ among (awaited image settings progress P) q
    awaited_is q =
        ap (λ xs. among xs q)
        (ap (λ xs. xs ++ flat_map (over_paths (site_at image J)) asked) (flat_over (awaits_told (site_at image J)) J.jobs ∙ flat_same (λ j. awaits_told (site_at image J) (parts_of image j)) (awaits P) J.jobs each)
        ∙ ap (λ xs. flat_map (awaits P) J.jobs ++ xs)
        (flat_same (over_paths (site_at image J)) (directory_over P) asked
        (λ t i. let s = told_some image J t (each_in (IsToldOf J) asked t told_targets i) in over_is_told t s.0 s.1)
        ∙ ap (flat_map (directory_over P)) (sym targets)))
        ∙ sym (among_once (flat_map (awaits P) J.jobs ++ flat_map (directory_over P) settings.targets) q)
      where
        flat_over : (f : Parts → List Path) (js : List Job) → flat_map f (map (parts_of image) js) ≡ flat_map (λ j. f (parts_of image j)) js
        flat_over f [] = refl
        flat_over f (j ∷ js) = ap (λ xs. f (parts_of image j) ++ xs) (flat_over f js)

        each : (j : Job) → In j J.jobs → awaits_told (site_at image J) (parts_of image j) ≡ awaits P j
        each j i =
            let r = read_of J 0 J.jobs j reads i in
            ap (λ xs. gathers_from j ++ xs)
            (flat_same (over_paths (site_at image J)) (directory_over P) (in_paths j.recipe ++ gathers_from j)
            (λ q k. let s = told_below image J r.0 q (each_in (IsReadOf J r.0) (in_paths j.recipe ++ gathers_from j) q r.1 k) in over_is_told q s.0 s.1))

    pub kept_is :
        (wanted waited read : Path → Bool) →
        ((q : Path) → wanted q ≡ among asked q) → ((q : Path) → waited q ≡ among (awaited_told (site_at image J) (map (parts_of image) J.jobs) asked) q) →
        ((q : Path) → read q ≡ list_any (λ (j : Job). among (in_paths j.recipe) q) J.jobs) →
        (k : Job) → Apart (out_paths k.recipe) → is_kept_told wanted waited read (parts_of image k) ≡ is_kept image settings progress P k
    kept_is wanted waited read a b c k own =
        let w : wanted ≡ among settings.targets = λ i. λ q. (a q ∙ ap (λ ts. among ts q) (sym targets)) i in
        let v : waited ≡ among (awaited image settings progress P) = λ i. λ q. (b q ∙ awaited_is q) i in
        let r : read ≡ is_input P (λ e. true) = λ i. λ q. (c q ∙ used q) i in
        (λ i. is_kept_told (w i) (v i) (r i) (parts_of image k)) ∙ sym (gone_tests k own image (is_always_wanted image settings progress P k))
      where
        used : (q : Path) → list_any (λ (j : Job). among (in_paths j.recipe) q) J.jobs ≡ is_input P (λ e. true) q
        used q =
            any_same (λ (j : Job). among (in_paths j.recipe) q) (λ (j : Job). among (in_paths j.recipe) q && true) J.jobs (λ j i. sym (and-true (among (in_paths j.recipe) q)))
            ∙ sym (any_zip late (λ (e : Job × State). among (in_paths e.0.recipe) q && true) J.jobs)
            ∙ ap (λ (xs : List State). list_any (λ (e : Job × State). among (in_paths e.0.recipe) q && true) (zip J.jobs xs)) (sym solved)

    module _ (before after : List Job) (k : Job) (is : J.jobs ≡ before ++ k ∷ after) where
      here : In k J.jobs
      here = subst (In k) (sym is) (in_right k before (k ∷ after) (inl refl))

      abbrev st : List State
      st = map early before

      told_read : (q : Path) → In q (in_paths k.recipe ++ gathers_from k) → (s : Site) × IsTold image J q s × IsBelow (length before) s.job
      told_read q i =
          let n = length before in
          told_below image J n q
          (each_in (IsReadOf J n) (in_paths k.recipe ++ gathers_from k) q (read_there J 0 before k after (subst (ReadEarlier J 0) is reads) n (omega arith)) i)

      state_told : (q : Path) (s : Site) → IsTold image J q s → IsBelow (length before) s.job → state_at st s.job ≡ option_map early (by q)
      state_told q s t b =
          state_below early before (k ∷ after) s.job b
          ∙ ap (λ js. option_map early (option_and_then (job_at js) s.job)) (sym is)
          ∙ ap (option_map early) (sym t.maker)

      over_same : (q : Path) (s : Site) → IsTold image J q s → IsBelow (length before) s.job → In q (in_paths k.recipe ++ gathers_from k) → over_opens st s ≡ list_any away (directory_over P q)
      over_same q s t b i =
          let state = state_told q s t b in
          let over = t.over in
          (λ i. test_some (λ (d : Directory). not (test_some is_clean (state i) && d.whole)) (over i))
          ∙ job (by q) refl ∙ ap (list_any away) (sym (directory_is image settings progress J ss solved q))
        where
          folder : (j : Job) → by q ≡ Some j → (p : Option Path) → folder_over j.recipe q ≡ p → test_some (λ (d : Directory). not (is_clean (early j) && d.whole)) (option_map (directory_at image) p) ≡ list_any away (none_or_one p)
          folder j m None e = refl
          folder j m (Some f) e =
              ap (λ s. not (is_clean s && is_whole image f Folder)) (fed_alike image settings progress J ss j (fed_over image settings progress J ss solved k j q f here i m e))
              ∙ ap not (sym (over_at_hand image settings progress J ss solved apart j q f m e))
              ∙ sym (or-false (away f))

          job : (o : Option Job) → by q ≡ o → test_some (λ (d : Directory). not (test_some is_clean (option_map early o) && d.whole)) (over_of image q o) ≡ list_any away (none_or_one (option_and_then (λ (j : Job). folder_over j.recipe q) o))
          job None m = refl
          job (Some j) m = folder j m (folder_over j.recipe q) refl

      made_same : (test : State → Bool) → ((j : Job) → test (early j) ≡ test (late j)) → (q : Path) (s : Site) → IsTold image J q s → IsBelow (length before) s.job → test_some test (state_at st s.job) ≡ made_by P test q
      made_same test same q s t b =
          ap (test_some test) (state_told q s t b) ∙ go (by q) ∙ sym (ap (test_some (λ (e : Job × State). test e.1)) (maker_is image settings progress J ss solved q))
        where
          go : (o : Option Job) → test_some test (option_map early o) ≡ test_some (λ (e : Job × State). test e.1) (option_map paired o)
          go None = refl
          go (Some j) = same j

      reading_same : (q : Path) → In q (in_paths k.recipe) → test_some (reading_opens st) (site_at image J q) ≡ (made_by P is_open q || list_any away (directory_over P q))
      reading_same q i =
          let j = in_left q (in_paths k.recipe) (gathers_from k) i in
          let s = told_read q j in
          let a = made_same is_open (opens_alike image settings progress J ss) q s.0 s.1 s.2 in
          let b = over_same q s.0 s.1 s.2 j in
          ap (test_some (reading_opens st)) s.1.found ∙ (λ i. a i || b i)

      pub dirty_same : (q : Path) → In q (in_paths k.recipe) → is_dirty_told st (site_at image J) q ≡ made_by P is_dirty q
      dirty_same q i =
          let s = told_read q (in_left q (in_paths k.recipe) (gathers_from k) i) in
          ap (test_some (λ (s : Site). test_some is_dirty (state_at st s.job))) s.1.found
          ∙ made_same is_dirty (dirties_alike image settings progress J ss) q s.0 s.1 s.2

      gathering_same :
          (listed : Path → Bool) → ((q : Path) → listed q ≡ among (map (λ (k : Known). k.folder) J.lists) q) →
          (d : Path) → In d (gathers_from k) →
          test_some (gathering_opens st (listed d)) (site_at image J d)
          ≡ (list_any away (directory_over P d) || (away d || (is_ready image settings progress P d && is_none (listing J.lists d))))
      gathering_same listed known d i =
          let j = in_right d (in_paths k.recipe) (gathers_from k) i in
          let s = told_read d j in
          let over = over_same d s.0 s.1 s.2 j in
          let state = state_told d s.0 s.1 s.2 in
          let whole = s.1.whole in
          ap (test_some (gathering_opens st (listed d))) s.1.found
          ∙ (λ i. over i || (is_some (state i) && (not (test_some is_clean (state i) && whole i) || not (listed d))))
          ∙ ap (λ b. list_any away (directory_over P d) || b) (job (by d) refl ∙ sym (ap (λ o. not (is_none o || test_some (λ (e : Job × State). is_clean e.1 && stands_whole image d e.0) o) || (test_some (λ (e : Job × State). is_clean e.1 && stands_whole image d e.0) o && is_none (listing J.lists d))) (maker_is image settings progress J ss solved d)))
        where
          job :
              (o : Option Job) → by d ≡ o →
              (is_some (option_map early o) && (not (test_some is_clean (option_map early o) && test_some (stands_whole image d) o) || not (listed d)))
              ≡ (not (is_none (option_map paired o) || test_some (λ (e : Job × State). is_clean e.1 && stands_whole image d e.0) (option_map paired o))
              || (test_some (λ (e : Job × State). is_clean e.1 && stands_whole image d e.0) (option_map paired o) && is_none (listing J.lists d)))
          job None m = refl
          job (Some j) m =
              ap (λ s. not (is_clean s && stands_whole image d j) || not (listed d)) (fed_alike image settings progress J ss j (fed_gathered image settings progress J ss solved k j d here i m))
              ∙ hand_listed (is_clean (late j) && stands_whole image d j) (listed d) (is_none (listing J.lists d)) (listed_none J.lists d ∙ ap not (sym (known d)))

      pub opens_is :
          (listed : Path → Bool) → ((q : Path) → listed q ≡ among (map (λ (k : Known). k.folder) J.lists) q) →
          opens st (site_at image J) listed (parts_of image k) ≡ is_open_now image settings progress P k
      opens_is listed known =
          let ins = in_paths k.recipe in
          let gs = gathers_from k in
          let a =
          any_same (λ q. test_some (reading_opens st) (site_at image J q)) (λ q. made_by P is_open q || list_any away (directory_over P q)) ins reading_same in
          let b =
          any_same (λ q. test_some (gathering_opens st (listed q)) (site_at image J q)) (λ d. list_any away (directory_over P d) || (away d || (is_ready image settings progress P d && is_none (listing J.lists d)))) gs (gathering_same listed known) in
          (λ i. a i || b i)
          ∙ sym (open_split away (λ d. is_ready image settings progress P d && is_none (listing J.lists d)) (made_by P is_open) (directory_over P) ins gs)
