-- The first pass by ranks, links and flags gives the ranks of the first states.
use Rattle.std.proofs.Common.{◌≡◌, ◌∙◌, ◌<◌, ◌≤◌, ◌+◌, ℕ, suc, length, take, drop, get_or, add-one, Bool, true, false, not, cond, ◌&&◌, ◌||◌, List, [], ◌∷◌, ◌++◌, map, filter, find, refl, sym, ap, subst, inl, Option, Some, None, option_map, is_some}
use Rattle.std.specs.Prelude.{bytes_eq, if◌then◌else◌}
use Rattle.std.specs.List.{list_any}
use Rattle.std.specs.Option.{option_and_then}
use Rattle.std.proofs.Math.Bool.{and-true, and-false}
use Rattle.std.proofs.lemmas.List.{map-append, length-map, take_all}
use Rattle.std.proofs.lemmas.Option.{slice_get-map}
use Rattle.smk_base.proofs.Places.{same_flipped}
use Rattle.smk_world.specs.declared.recipe.Out.{Out}
use Rattle.smk_world.specs.World.{in_paths, out_paths}
use Rattle.smk_world.specs.Trees.{Path, among, outs_of}
use Rattle.smk_flow.specs.declared.job.Job.{Job}
use Rattle.smk_store.specs.Images.{Image, is_whole}
use Rattle.smk_chain.specs.declared.jobs.Jobs.{Jobs}
use Rattle.smk_chain.specs.declared.jobs.Maker.{Maker}
use Rattle.smk_chain.specs.Derive.{distinct}
use Rattle.smk_trigger.specs.declared.reason.Reason.{Reason}
use Rattle.smk_trigger.specs.declared.reason.Reason.TheVariants.{Upstream, Forced}
use Rattle.smk_trigger.specs.declared.reason.State.{State}
use Rattle.smk_trigger.specs.declared.reason.State.TheVariants.{Open, Dirty, Restore, Clean}
use Rattle.smk_trigger.specs.JobStates.{is_open, is_dirty, is_clean}
use Rattle.smk_trigger.specs.Reasons.{when}
use Rattle.smk_plan.specs.States.{by_reasons, while_running, gathers_from, job_path, is_forced, is_read_now, kept_state, test_some}
use Rattle.smk_plan.specs.Sights.{whole_outputs}
use Rattle.smk_plan_states.specs.declared.lines.Input.{Input}
use Rattle.smk_plan_states.specs.declared.lines.Line.{Line}
use Rattle.smk_plan_states.specs.declared.lines.Origin.{Origin}
use Rattle.smk_plan_states.specs.declared.lines.Output.{Output}
use Rattle.smk_plan_states.specs.declared.ranks.Rank.{Rank}
use Rattle.smk_plan_states.specs.declared.ranks.Rank.TheVariants.{Open as AtOpen}
use Rattle.smk_plan_states.specs.declared.rows.Rows.{Rows}
use Rattle.smk_plan_states.specs.declared.spots.Spot.{Spot}
use Rattle.smk_plan_states.specs.Shapes.{Directory, Parts, Paths, Site}
use Rattle.smk_plan_states.specs.Judged.{Judging, began, reasons_now, with_states}
use Rattle.smk_plan_states.specs.Parts.{gone_outputs, parts_of}
use Rattle.smk_plan_states.specs.Sites.{site_of}
use Rattle.smk_plan_states.specs.Paths.{paths_of, site_at}
use Rattle.smk_plan_states.specs.Passes.{state_at, reading_opens, gathering_opens, opens, is_dirty_told}
use Rattle.smk_plan_states.specs.InUse.{in_use_told, is_in_use_told}
use Rattle.smk_plan_states.specs.First.{first_state, first_by_table, first_states, IsSolved}
use Rattle.smk_plan_states.specs.Held.{is_kept_in}
use Rattle.smk_plan_states.specs.Lines.{tells_of, link_to, origin_of, is_listed, is_read, inputs_from, gathered_of, output_of, line_of}
use Rattle.smk_plan_states.specs.Rows.{has_any, forced_at, reasons_at}
use Rattle.smk_plan_states.specs.Moment.{IsMoment}
use Rattle.smk_plan_states.specs.Ranks.{rank_of, rank_at, is_open_rank, is_dirty_rank, is_clean_rank, by_rank, unless_clean_rank, rank_while_running}
use Rattle.smk_plan_states.specs.Spots.{maker_at, spot_in}
use Rattle.smk_plan_states.specs.Ranking.{reading_opens_by, gathering_opens_by, gathered_opens, opens_by, is_upstream, dirties_by, upstream_paths, any_gone, is_kept_by, table_rank, first_rank}
use Rattle.smk_laws_plan.proofs.CurrentLists.{In, in_right}
use Rattle.smk_laws_plan.proofs.CurrentChosen.{paths_are}
use Rattle.smk_plan_states.proofs.Tests.{any_map}
use Rattle.smk_plan_states.proofs.FirstPass.{own_of, at_split, first_here}
use Rattle.smk_plan_states.proofs.ReadOthers.{read_is}
use Rattle.smk_plan_states.proofs.Numbers.{plain, AreSpots, maker_is}
use Rattle.smk_plan_states.proofs.Awaiting.{awaited_are, spots_of}
use Rattle.smk_plan_states.proofs.UsedBy.{inputs_any}
use Rattle.smk_plan_states.proofs.Flags.{filter_both, split_at}

any_each : {A : Type 0} (f g : A → Bool) → ((x : A) → f x ≡ g x) → (xs : List A) → list_any f xs ≡ list_any g xs
any_each f g h xs = λ i. list_any (λ x. h x i) xs

-- ## Ranks of states

pub rank_at_is : (ss : List State) (number : Option ℕ) → rank_at (map rank_of ss) number ≡ option_map rank_of (state_at ss number)
rank_at_is ss None = refl
rank_at_is ss (Some n) = slice_get-map rank_of ss n

open_is : (o : Option State) → test_some is_open_rank (option_map rank_of o) ≡ test_some is_open o
open_is None = refl
open_is (Some Open) = refl
open_is (Some (Dirty reasons)) = refl
open_is (Some Restore) = refl
open_is (Some Clean) = refl

dirty_is : (o : Option State) → test_some is_dirty_rank (option_map rank_of o) ≡ test_some is_dirty o
dirty_is None = refl
dirty_is (Some Open) = refl
dirty_is (Some (Dirty reasons)) = refl
dirty_is (Some Restore) = refl
dirty_is (Some Clean) = refl

clean_is : (o : Option State) → test_some is_clean_rank (option_map rank_of o) ≡ test_some is_clean o
clean_is None = refl
clean_is (Some Open) = refl
clean_is (Some (Dirty reasons)) = refl
clean_is (Some Restore) = refl
clean_is (Some Clean) = refl

some_is : (o : Option State) → is_some (option_map rank_of o) ≡ is_some o
some_is None = refl
some_is (Some s) = refl

unless_clean_is : (s : State) → rank_of (Rattle.smk_plan.specs.States.unless_clean s) ≡ unless_clean_rank (rank_of s)
unless_clean_is Open = refl
unless_clean_is (Dirty reasons) = refl
unless_clean_is Restore = refl
unless_clean_is Clean = refl

running_is : (o : Option State) (s : State) → rank_of (while_running o s) ≡ rank_while_running o (rank_of s)
running_is None s = refl
running_is (Some (Dirty reasons)) s = refl
running_is (Some Open) s = unless_clean_is s
running_is (Some Restore) s = unless_clean_is s
running_is (Some Clean) s = unless_clean_is s

reasons_rank : (rs : List Reason) (kept : Bool) → rank_of (by_reasons rs kept) ≡ by_rank (has_any rs) kept
reasons_rank (r ∷ rs) kept = refl
reasons_rank [] true = refl
reasons_rank [] false = refl

-- the table, by three tests
abbrev by_three : Bool → Bool → Bool → Rank
by_three opened dirty kept = if opened then AtOpen else by_rank dirty kept

three_is : (opened : Bool) (rs : List Reason) (kept : Bool) → by_three opened (has_any rs) kept ≡ rank_of (if opened then Open else by_reasons rs kept)
three_is true rs kept = refl
three_is false rs kept = sym (reasons_rank rs kept)

-- ## Lists

any_append : {A : Type 0} (xs ys : List A) → has_any (xs ++ ys) ≡ (has_any xs || has_any ys)
any_append [] ys = refl
any_append (x ∷ xs) ys = refl

any_mapped : {A B : Type 0} (f : A → B) (xs : List A) → has_any (map f xs) ≡ has_any xs
any_mapped f [] = refl
any_mapped f (x ∷ xs) = refl

any_filtered : {A : Type 0} (test : A → Bool) (xs : List A) → has_any (filter test xs) ≡ list_any test xs
any_filtered test [] = refl
any_filtered test (x ∷ xs) = go (test x) (any_filtered test xs)
  where
    go : (b : Bool) → has_any (filter test xs) ≡ list_any test xs → has_any (cond b (x ∷ filter test xs) (filter test xs)) ≡ (b || list_any test xs)
    go true ih = refl
    go false ih = ih

or_turned : (a u w : Bool) → (a || (u || w)) ≡ ((a || w) || u)
or_turned true u w = refl
or_turned false true true = refl
or_turned false true false = refl
or_turned false false true = refl
or_turned false false false = refl

any_reasons : (alone : List Reason) (ups : List Path) (forced : Bool) → has_any (alone ++ (map Upstream ups ++ when forced Forced)) ≡ (has_any (alone ++ when forced Forced) || has_any ups)
any_reasons alone ups forced =
    any_append alone (map Upstream ups ++ when forced Forced)
    ∙ ap (λ b. has_any alone || b) (any_append (map Upstream ups) (when forced Forced) ∙ ap (λ b. b || has_any (when forced Forced)) (any_mapped Upstream ups))
    ∙ or_turned (has_any alone) (has_any ups) (has_any (when forced Forced))
    ∙ ap (λ b. b || has_any ups) (sym (any_append alone (when forced Forced)))

-- ## Inputs, each once

once :
    (J : Jobs) (D : Option ℕ → Bool) (name : Path) (seen paths : List Path) →
    map (λ (i : Input). i.path) (filter (λ (i : Input). not i.again && D i.link) (inputs_from J name seen paths))
    ≡ filter (λ q. D (link_to J.makers q) && not (among seen q)) (distinct bytes_eq paths)
once J D name seen [] = refl
once J D name seen (x ∷ paths) = go (among seen x) (D (link_to J.makers x)) (once J D name (x ∷ seen) paths ∙ tail)
  where
    shuffled : (d e s : Bool) → (not e && (d && not s)) ≡ (d && not (e || s))
    shuffled true true true = refl
    shuffled true true false = refl
    shuffled true false s = refl
    shuffled false true s = refl
    shuffled false false s = refl

    one_test : (y : Path) → (not (bytes_eq x y) && (D (link_to J.makers y) && not (among seen y))) ≡ (D (link_to J.makers y) && not (bytes_eq y x || among seen y))
    one_test y =
        shuffled (D (link_to J.makers y)) (bytes_eq x y) (among seen y)
        ∙ ap (λ b. D (link_to J.makers y) && not (b || among seen y)) (same_flipped x y)

    tail :
        filter (λ q. D (link_to J.makers q) && not (among (x ∷ seen) q)) (distinct bytes_eq paths)
        ≡ filter (λ q. D (link_to J.makers q) && not (among seen q)) (filter (λ y. not (bytes_eq x y)) (distinct bytes_eq paths))
    tail =
        sym
        (filter_both (λ q. D (link_to J.makers q) && not (among seen q)) (λ y. not (bytes_eq x y)) (distinct bytes_eq paths)
        ∙ (λ i. filter (λ y. one_test y i) (distinct bytes_eq paths)))

    go :
        (s d : Bool) →
        map (λ (i : Input). i.path) (filter (λ (i : Input). not i.again && D i.link) (inputs_from J name (x ∷ seen) paths))
        ≡ filter (λ q. D (link_to J.makers q) && not (among seen q)) (filter (λ y. not (bytes_eq x y)) (distinct bytes_eq paths)) →
        map (λ (i : Input). i.path)
        (cond (not s && d)
        (record { path = x; link = link_to J.makers x; again = among seen x; other = Rattle.smk_plan_states.specs.Lines.is_of_other J name x } ∷ filter (λ (i : Input). not i.again && D i.link) (inputs_from J name (x ∷ seen) paths))
        (filter (λ (i : Input). not i.again && D i.link) (inputs_from J name (x ∷ seen) paths)))
        ≡ cond (d && not s)
        (x ∷ filter (λ q. D (link_to J.makers q) && not (among seen q)) (filter (λ y. not (bytes_eq x y)) (distinct bytes_eq paths)))
        (filter (λ q. D (link_to J.makers q) && not (among seen q)) (filter (λ y. not (bytes_eq x y)) (distinct bytes_eq paths)))
    go true true e = e
    go true false e = e
    go false true e = ap (λ ps. x ∷ ps) e
    go false false e = e

-- ## What is gone

pub gone_any :
    (image : Image) (F : Output → Bool) (g : Path → Output) (j : Job) →
    any_gone F (map g (out_paths j.recipe)) (whole_outputs image j) ≡ list_any (λ p. F (g p)) (gone_outputs image j)
gone_any image F g j = ap (λ ps. any_gone F (map g ps) (whole_outputs image j)) (paths_are j.recipe) ∙ go (outs_of j.recipe)
  where
    one :
        (o : Out) (os : List Out) (w : Bool) →
        any_gone F (map g (map (λ (o : Out). o.path) os)) (map (λ (o : Out). is_whole image o.path o.kind) os) ≡ list_any (λ p. F (g p)) (map (λ (o : Out). o.path) (filter (λ (o : Out). not (is_whole image o.path o.kind)) os)) →
        ((F (g o.path) && not w) || any_gone F (map g (map (λ (o : Out). o.path) os)) (map (λ (o : Out). is_whole image o.path o.kind) os))
        ≡ list_any (λ p. F (g p)) (map (λ (o : Out). o.path) (cond (not w) (o ∷ filter (λ (o : Out). not (is_whole image o.path o.kind)) os) (filter (λ (o : Out). not (is_whole image o.path o.kind)) os)))
    one o os true ih = ap (λ b. b || any_gone F (map g (map (λ (o : Out). o.path) os)) (map (λ (o : Out). is_whole image o.path o.kind) os)) (and-false (F (g o.path))) ∙ ih
    one o os false ih =
        ap (λ b. b || any_gone F (map g (map (λ (o : Out). o.path) os)) (map (λ (o : Out). is_whole image o.path o.kind) os)) (and-true (F (g o.path)))
        ∙ ap (λ b. F (g o.path) || b) ih

    go :
        (os : List Out) →
        any_gone F (map g (map (λ (o : Out). o.path) os)) (map (λ (o : Out). is_whole image o.path o.kind) os)
        ≡ list_any (λ p. F (g p)) (map (λ (o : Out). o.path) (filter (λ (o : Out). not (is_whole image o.path o.kind)) os))
    go [] = refl
    go (o ∷ os) = one o os (is_whole image o.path o.kind) (go os)

pub kept_by_flags : (image : Image) (J : Jobs) (asked : List Path) (j : Job) → is_kept_by (map (output_of J asked j) (out_paths j.recipe)) (whole_outputs image j) ≡ is_kept_in (paths_of image J asked) (parts_of image j)
kept_by_flags image J asked j =
    gone_any image (λ (o : Output). o.wanted) (output_of J asked j) j
    ∙ (λ i.
    list_any
    (λ p. among asked p
    || (among (awaited_are J asked image i) p
    || (not (among j.temps p && not (list_any (λ q. among (awaited_are J asked image i) q) (out_paths j.recipe))) && is_read J p)))
    (gone_outputs image j))

-- ## One job

module _ (image : Image) (J : Jobs) (ss : List State) where
  abbrev ranks : List Rank
  ranks = map rank_of ss

  clean_at : (number : Option ℕ) → test_some is_clean_rank (rank_at ranks number) ≡ test_some is_clean (state_at ss number)
  clean_at number = ap (test_some is_clean_rank) (rank_at_is ss number) ∙ clean_is (state_at ss number)

  over_same : (number : Option ℕ) (o : Option Directory) → test_some (λ w. not (test_some is_clean_rank (rank_at ranks number) && w)) (option_map (λ (d : Directory). d.whole) o) ≡ test_some (λ (d : Directory). not (test_some is_clean (state_at ss number) && d.whole)) o
  over_same number None = refl
  over_same number (Some d) = ap (λ b. not (b && d.whole)) (clean_at number)

  reading_same : (o : Option Site) → test_some (reading_opens_by ranks) (option_map plain o) ≡ test_some (reading_opens ss) o
  reading_same None = refl
  reading_same (Some s) =
      let a = ap (test_some is_open_rank) (rank_at_is ss s.job) ∙ open_is (state_at ss s.job) in
      let b = over_same s.job s.over in
      λ i. a i || b i

  gathering_same : (listed : Bool) (o : Option Site) → test_some (gathering_opens_by ranks listed) (option_map plain o) ≡ test_some (gathering_opens ss listed) o
  gathering_same listed None = refl
  gathering_same listed (Some s) =
      let a = ap is_some (rank_at_is ss s.job) ∙ some_is (state_at ss s.job) in
      let b = over_same s.job s.over in
      let c = clean_at s.job in
      λ i. b i || (a i && (not (c i && s.whole) || not listed))

  opens_same :
      (spots : Option ℕ → Option Spot) → AreSpots image J spots → (asked : List Path) (j : Job) →
      opens_by ranks spots (line_of J asked j) ≡ opens ss (site_at image J) (is_listed J) (parts_of image j)
  opens_same spots are asked j =
      let a =
      inputs_any J (λ other link. test_some (reading_opens_by ranks) (spots link)) (job_path j) [] (in_paths j.recipe)
      ∙ any_each (λ q. test_some (reading_opens_by ranks) (spots (link_to J.makers q))) (λ q. test_some (reading_opens ss) (site_at image J q))
      (λ q. ap (test_some (reading_opens_by ranks)) (are q) ∙ reading_same (site_at image J q)) (in_paths j.recipe) in
      let b =
      any_map (gathered_opens ranks spots) (gathered_of J) (gathers_from j)
      ∙ any_each (λ d. test_some (gathering_opens_by ranks (is_listed J d)) (spots (link_to J.makers d))) (λ d. test_some (gathering_opens ss (is_listed J d)) (site_at image J d))
      (λ d. ap (test_some (gathering_opens_by ranks (is_listed J d))) (are d) ∙ gathering_same (is_listed J d) (site_at image J d)) (gathers_from j) in
      λ i. a i || b i

  abbrev origins : List Origin
  origins = map (origin_of J.jobs) J.makers

  dirty_by : (q : Path) → test_some is_dirty_rank (rank_at ranks (maker_at origins (link_to J.makers q))) ≡ is_dirty_told ss (site_at image J) q
  dirty_by q = ap (λ n. test_some is_dirty_rank (rank_at ranks n)) (maker_is J.jobs J.makers q) ∙ go (find (tells_of q) J.makers)
    where
      go :
          (o : Option Maker) →
          test_some is_dirty_rank (rank_at ranks (option_and_then (λ (m : Maker). m.job) o)) ≡ test_some (λ (s : Site). test_some is_dirty (state_at ss s.job)) (option_map (site_of image J.jobs) o)
      go None = refl
      go (Some m) = ap (test_some is_dirty_rank) (rank_at_is ss m.job) ∙ dirty_is (state_at ss m.job)

  -- the inputs whose job is Dirty, each once
  pub upstream_are : (name : Path) (paths : List Path) → upstream_paths ranks origins (inputs_from J name [] paths) ≡ filter (is_dirty_told ss (site_at image J)) (distinct bytes_eq paths)
  upstream_are name paths =
      once J (λ link. test_some is_dirty_rank (rank_at ranks (maker_at origins link))) name [] paths
      ∙ (λ i. filter (λ q. (and-true (test_some is_dirty_rank (rank_at ranks (maker_at origins (link_to J.makers q)))) ∙ dirty_by q) i) (distinct bytes_eq paths))

  pub dirties_same :
      (name : Path) (paths : List Path) (alone : List Reason) (forced : Bool) →
      (has_any (alone ++ when forced Forced) || list_any (is_upstream ranks origins) (inputs_from J name [] paths))
      ≡ has_any (alone ++ (map Upstream (filter (is_dirty_told ss (site_at image J)) (distinct bytes_eq paths)) ++ when forced Forced))
  dirties_same name paths alone forced =
      ap (λ b. has_any (alone ++ when forced Forced) || b)
      (sym (any_filtered (is_upstream ranks origins) (inputs_from J name [] paths))
      ∙ sym (any_mapped (λ (i : Input). i.path) (filter (is_upstream ranks origins) (inputs_from J name [] paths)))
      ∙ ap has_any (upstream_are name paths))
      ∙ sym (any_reasons alone (filter (is_dirty_told ss (site_at image J)) (distinct bytes_eq paths)) forced)

-- ## The pass

module _
    (at : Judging) (J : Jobs) (ss : List State) (lines : List Line) (origins : List Origin) (rows : Rows) (used : List Bool)
    (h : IsMoment at J ss lines origins rows used) where
  abbrev pub told_paths : Paths
  told_paths = paths_of at.image J at.settings.targets

  abbrev pub told_parts : List Parts
  told_parts = map (parts_of at.image) J.jobs

  abbrev pub told_used : Path → Bool
  told_used name = in_use_told (site_at at.image J) told_parts (began at J) name

  pub is_solved : IsSolved at J ss told_paths told_parts told_used
  is_solved =
      record {
        served = h.served;
        solved = h.solved;
        paths = record { sites = λ q. refl; awaited = λ q. refl; targets = λ q. refl; read = λ q. refl; listed = λ q. refl };
        parts = refl;
        in_use = λ name. refl;
      }

  abbrev pub early : Job → State
  early = first_state at.image at.settings at.progress (with_states J ss)

  abbrev pub read_now : Job → Bool
  read_now = is_read_now at.image at.settings at.progress (with_states J [])

  pub used_told : (j : Job) → In j J.jobs → is_in_use_told told_used (parts_of at.image j) ≡ read_now j
  used_told j here = read_is at.image at.settings at.progress J ss at.settings.targets h.served.apart h.served.reads told_used (λ name. refl) j here

  pub size : length lines ≡ length J.jobs
  size = ap length h.each_line ∙ length-map J.jobs (line_of J at.settings.targets)

  -- ## What is told of one job

  module _ (before : List Job) (k : Job) (after : List Job) (all : J.jobs ≡ before ++ k ∷ after) (number : ℕ) (count : number ≡ length before) where
    pub here : In k J.jobs
    here = subst (In k) (sym all) (in_right k before (k ∷ after) (inl refl))

    pub line_there : (line : Line) → get_or lines number line ≡ line_of J at.settings.targets k
    line_there line = ap (λ ls. get_or ls number line) (h.each_line ∙ ap (map (line_of J at.settings.targets)) all) ∙ at_split (line_of J at.settings.targets) before k after number line count

    pub used_there : get_or used number false ≡ read_now k
    used_there = ap (λ fs. get_or fs number false) (h.read ∙ ap (map read_now) all) ∙ at_split read_now before k after number false count

    pub outputs_there : get_or rows.outputs.now number [] ≡ whole_outputs at.image k
    outputs_there =
        ap (λ (fs : List (List Bool)). get_or fs number []) (h.told.outputs ∙ ap (map (whole_outputs at.image)) all)
        ∙ at_split (whole_outputs at.image) before k after number [] count

    pub reasons_there : get_or (reasons_at at J) number [] ≡ reasons_now at.image at.settings at.progress J k
    reasons_there =
        ap (λ (rs : List (List Reason)). get_or rs number []) (ap (map (reasons_now at.image at.settings at.progress J)) all)
        ∙ at_split (reasons_now at.image at.settings at.progress J) before k after number [] count

    pub forced_there : get_or (forced_at at J) number false ≡ is_forced at.image at.settings at.progress (with_states J []) k
    forced_there =
        ap (λ fs. get_or fs number false) (ap (map (is_forced at.image at.settings at.progress (with_states J []))) all)
        ∙ at_split (is_forced at.image at.settings at.progress (with_states J [])) before k after number false count

    pub running_there : get_or rows.running.now number None ≡ kept_state at.image at.settings at.progress (with_states J []) k
    running_there =
        ap (λ (os : List (Option State)). get_or os number None) (h.told.running ∙ ap (map (kept_state at.image at.settings at.progress (with_states J []))) all)
        ∙ at_split (kept_state at.image at.settings at.progress (with_states J [])) before k after number None count

    table_is :
        (line : Line) (u : Bool) → line ≡ line_of J at.settings.targets k → u ≡ read_now k →
        table_rank (map rank_of (map early before)) origins rows (reasons_at at J) line number u ≡ rank_of (first_by_table at.image at.settings at.progress (with_states J ss) k)
    table_is line u l e =
        let states = map early before in
        let opened =
        ap (opens_by (map rank_of states) (spot_in origins rows)) l
        ∙ opens_same at.image J states (spot_in origins rows) (spots_of at J origins rows h.each_origin h.told) at.settings.targets k in
        let dirtied =
        (λ i. dirties_by (map rank_of states) (h.each_origin i) (reasons_there i) (l i))
        ∙ dirties_same at.image J states (job_path k) (in_paths k.recipe) (own_of at.image at.settings at.progress J k) (is_forced at.image at.settings at.progress (with_states J []) k) in
        let kept = (λ i. is_kept_by (l i).outputs (outputs_there i)) ∙ kept_by_flags at.image J at.settings.targets k in
        let read = e ∙ sym (used_told k here) in
        (λ i. by_three (opened i) (dirtied i) (kept i && not (read i)))
        ∙ three_is (opens states (site_at at.image J) (is_listed J) (parts_of at.image k))
        (own_of at.image at.settings at.progress J k
        ++ (map Upstream (filter (is_dirty_told states (site_at at.image J)) (distinct bytes_eq (in_paths k.recipe))) ++ when (is_forced at.image at.settings at.progress (with_states J []) k) Forced))
        (is_kept_in told_paths (parts_of at.image k) && not (is_in_use_told told_used (parts_of at.image k)))
        ∙ ap rank_of (first_here at J ss told_paths told_parts told_used is_solved before k after states (parts_of at.image k) (is_forced at.image at.settings at.progress (with_states J []) k) all refl refl refl)

    pub first_is :
        (line : Line) (u : Bool) → line ≡ line_of J at.settings.targets k → u ≡ read_now k →
        first_rank (map rank_of (map early before)) origins rows (reasons_at at J) line number u ≡ rank_of (early k)
    first_is line u l e =
        (λ i. rank_while_running (running_there i) (table_is line u l e i))
        ∙ sym (running_is (kept_state at.image at.settings at.progress (with_states J []) k) (first_by_table at.image at.settings at.progress (with_states J ss) k))

  -- ## The loop

  pub first_step :
      (number : ℕ) (line : Line) (u : Bool) (rank : Rank) (old seen new : List Rank) →
      number < length lines → line ≡ get_or lines number line → u ≡ get_or used number false → seen ≡ old → rank ≡ first_rank seen origins rows (reasons_at at J) line number u → new ≡ old ++ rank ∷ [] →
      old ≡ map rank_of (map early (take number J.jobs)) → new ≡ map rank_of (map early (take (number + 1) J.jobs))
  first_step number line u rank old seen new lt l e s r n made =
      let within : number < length J.jobs = subst (λ (c : ℕ). number < c) size lt in
      let p = split_at J.jobs number within in
      let is : rank ≡ rank_of (early p.0) =
      r ∙ ap (λ (rs : List Rank). first_rank rs origins rows (reasons_at at J) line number u) (s ∙ made)
      ∙ first_is (take number J.jobs) p.0 (drop (suc number) J.jobs) p.1 number (sym p.2) line u
      (l ∙ line_there (take number J.jobs) p.0 (drop (suc number) J.jobs) p.1 number (sym p.2) line)
      (e ∙ used_there (take number J.jobs) p.0 (drop (suc number) J.jobs) p.1 number (sym p.2)) in
      n ∙ (λ i. made i ++ is i ∷ [])
      ∙ sym
      (ap (λ m. map rank_of (map early (take m J.jobs))) (add-one number)
      ∙ ap (λ js. map rank_of (map early js)) p.3
      ∙ ap (map rank_of) (map-append early (take number J.jobs) (p.0 ∷ []))
      ∙ map-append rank_of (map early (take number J.jobs)) (early p.0 ∷ []))

  pub first_done : (number : ℕ) (old : List Rank) → length lines ≤ number → old ≡ map rank_of (map early (take number J.jobs)) → old ≡ map rank_of (first_states at J ss)
  first_done number old done made =
      made ∙ ap (λ js. map rank_of (map early js)) (take_all number J.jobs (subst (λ (c : ℕ). c ≤ number) size done))
