-- Directories that are awaited, by links: they are those of the jobs and targets, and the same of them are ready.
use Rattle.std.proofs.Common.{◌≡◌, ◌∙◌, ℕ, length, Bool, true, false, not, cond, ◌&&◌, List, [], ◌∷◌, ◌++◌, map, filter, flat_map, find, refl, sym, ap, inl, inr, Option, Some, None, option_map}
use Rattle.std.specs.Prelude.{bytes_eq, if◌then◌else◌}
use Rattle.std.specs.Option.{option_and_then}
use Rattle.std.proofs.lemmas.List.{map-append}
use Rattle.smk_world.specs.World.{in_paths}
use Rattle.smk_world.specs.Trees.{Path, folder_over}
use Rattle.smk_flow.specs.declared.job.Job.{Job}
use Rattle.smk_store.specs.Images.{Image}
use Rattle.smk_chain.specs.declared.jobs.Jobs.{Jobs}
use Rattle.smk_chain.specs.declared.jobs.Maker.{Maker}
use Rattle.smk_chain.specs.Derive.{distinct}
use Rattle.smk_trigger.specs.declared.reason.State.{State}
use Rattle.smk_trigger.specs.JobStates.{is_clean}
use Rattle.smk_plan.specs.States.{gathers_from, is_ready, awaits, directory_over, test_some, none_or_one}
use Rattle.smk_plan_states.specs.declared.lines.Awaited.{Awaited}
use Rattle.smk_plan_states.specs.declared.lines.Origin.{Origin}
use Rattle.smk_plan_states.specs.declared.lines.Target.{Target}
use Rattle.smk_plan_states.specs.declared.rows.Rows.{Rows}
use Rattle.smk_plan_states.specs.declared.spots.Spot.{Spot}
use Rattle.smk_plan_states.specs.declared.table.Table.{Table}
use Rattle.smk_plan_states.specs.Shapes.{Directory, Site, Wait}
use Rattle.smk_plan_states.specs.Judged.{Judging, with_states, targets_ready, new_directories, is_new}
use Rattle.smk_plan_states.specs.Parts.{directory_at, parts_of}
use Rattle.smk_plan_states.specs.Sites.{site_of}
use Rattle.smk_plan_states.specs.Paths.{over_paths, awaits_told, awaited_told, site_at}
use Rattle.smk_plan_states.specs.Passes.{state_at}
use Rattle.smk_plan_states.specs.Waits.{ready_told, waits_of, over_waits, part_waits, waits_told}
use Rattle.smk_plan_states.specs.Lines.{tells_of, link_to, job_of, origin_of, folder_told, is_listed, gathered_spot, over_spots, job_spots, all_spots, awaited_paths, target_of}
use Rattle.smk_plan_states.specs.Rows.{AreRowsAt}
use Rattle.smk_plan_states.specs.Tables.{IsTableAt, same_path}
use Rattle.smk_plan_states.specs.Spots.{spot_at, spot_in, is_ready_spot}
use Rattle.smk_plan_states.specs.Ranks.{rank_of}
use Rattle.smk_plan_states.specs.Ranking.{is_new_awaited}
use Rattle.smk_plan_states.specs.declared.ranks.Rank.{Rank}
use Rattle.smk_plan_states.proofs.ByState.{ready_state, over_state, new_state, ready_ranks, new_ranks}
use Rattle.smk_laws_plan.proofs.CurrentLists.{In, distinct_in}
use Rattle.smk_laws_plan.proofs.PlanStates.{filter_same}
use Rattle.smk_plan_states.proofs.Told.{listed_none}
use Rattle.smk_plan_states.proofs.ReadyNow.{waits_are, targets_are}
use Rattle.smk_plan_states.proofs.Numbers.{plain, AreSpots, spots_are}

-- ## Lists

pub map_twice : {A B C : Type 0} (g : B → C) (f : A → B) (xs : List A) → map g (map f xs) ≡ map (λ x. g (f x)) xs
map_twice g f [] = refl
map_twice g f (x ∷ xs) = ap (λ ys. g (f x) ∷ ys) (map_twice g f xs)

map_itself : {A : Type 0} (xs : List A) → map (λ x. x) xs ≡ xs
map_itself [] = refl
map_itself (x ∷ xs) = ap (λ ys. x ∷ ys) (map_itself xs)

map_each : {A B : Type 0} (f g : A → B) → ((x : A) → f x ≡ g x) → (xs : List A) → map f xs ≡ map g xs
map_each f g h xs = λ i. map (λ x. h x i) xs

flat_each : {A B : Type 0} (f g : A → List B) → ((x : A) → f x ≡ g x) → (xs : List A) → flat_map f xs ≡ flat_map g xs
flat_each f g h xs = λ i. flat_map (λ x. h x i) xs

map_flat : {A B C : Type 0} (f : B → C) (g : A → List B) (xs : List A) → map f (flat_map g xs) ≡ flat_map (λ x. map f (g x)) xs
map_flat f g [] = refl
map_flat f g (x ∷ xs) = map-append f (g x) (flat_map g xs) ∙ ap (λ ys. map f (g x) ++ ys) (map_flat f g xs)

flat_mapped : {A B C : Type 0} (f : B → List C) (g : A → B) (xs : List A) → flat_map f (map g xs) ≡ flat_map (λ x. f (g x)) xs
flat_mapped f g [] = refl
flat_mapped f g (x ∷ xs) = ap (λ ys. f (g x) ++ ys) (flat_mapped f g xs)

same_heads : {B : Type 0} (x y : B) (xs ys : List B) → x ∷ xs ≡ y ∷ ys → x ≡ y
same_heads x y xs ys e = cc

same_tails : {B : Type 0} (x y : B) (xs ys : List B) → x ∷ xs ≡ y ∷ ys → xs ≡ ys
same_tails x y xs ys e = cc

-- functions that map a list to one list agree on its members
same_at : {A B : Type 0} (f g : A → B) (xs : List A) (x : A) → map f xs ≡ map g xs → In x xs → f x ≡ g x
same_at f g [] x e i = absurd i
same_at f g (y ∷ ys) x e (inl s) = ap f s ∙ same_heads (f y) (g y) (map f ys) (map g ys) e ∙ ap g (sym s)
same_at f g (y ∷ ys) x e (inr i) = same_at f g ys x (same_tails (f y) (g y) (map f ys) (map g ys) e) i

abbrev path_of : Awaited → Path
path_of a = a.path

filter_mapped : (N : Path → Bool) (xs : List Awaited) → map path_of (filter (λ (a : Awaited). N a.path) xs) ≡ filter N (map path_of xs)
filter_mapped N [] = refl
filter_mapped N (x ∷ xs) = go (N x.path) (filter_mapped N xs)
  where
    go :
        (b : Bool) → map path_of (filter (λ (a : Awaited). N a.path) xs) ≡ filter N (map path_of xs) →
        map path_of (cond b (x ∷ filter (λ (a : Awaited). N a.path) xs) (filter (λ (a : Awaited). N a.path) xs)) ≡ cond b (x.path ∷ filter N (map path_of xs)) (filter N (map path_of xs))
    go true ih = ap (λ ps. x.path ∷ ps) ih
    go false ih = ih

distinct_mapped : (xs : List Awaited) → map path_of (distinct same_path xs) ≡ distinct bytes_eq (map path_of xs)
distinct_mapped [] = refl
distinct_mapped (x ∷ xs) =
    ap (λ ps. x.path ∷ ps)
    (filter_mapped (λ p. not (bytes_eq x.path p)) (distinct same_path xs)
    ∙ ap (filter (λ p. not (bytes_eq x.path p))) (distinct_mapped xs))

-- ## The awaited directories

module _ (J : Jobs) (asked : List Path) where
  -- what any function gives of them
  spots_mapped :
      {C : Type 0} (f : Awaited → C) (gathered : Path → C) (over : Path → List C) →
      ((d : Path) → f (gathered_spot J d) ≡ gathered d) → ((q : Path) → map f (over_spots J q) ≡ over q) →
      map f (all_spots J asked) ≡ flat_map (λ (j : Job). map gathered (gathers_from j) ++ flat_map over (in_paths j.recipe ++ gathers_from j)) J.jobs ++ flat_map over asked
  spots_mapped {C} f gathered over g o =
      map-append f (flat_map (job_spots J) J.jobs) (flat_map (over_spots J) asked)
      ∙ (let a = map_flat f (job_spots J) J.jobs ∙ flat_each (λ j. map f (job_spots J j)) (λ (j : Job). map gathered (gathers_from j) ++ flat_map over (in_paths j.recipe ++ gathers_from j)) one J.jobs in
      let b = map_flat f (over_spots J) asked ∙ flat_each (λ q. map f (over_spots J q)) over o asked in
      λ i. a i ++ b i)
    where
      one : (j : Job) → map f (job_spots J j) ≡ map gathered (gathers_from j) ++ flat_map over (in_paths j.recipe ++ gathers_from j)
      one j =
          let reads = in_paths j.recipe ++ gathers_from j in
          map-append f (map (gathered_spot J) (gathers_from j)) (flat_map (over_spots J) reads)
          ∙ (let a = map_twice f (gathered_spot J) (gathers_from j) ∙ map_each (λ d. f (gathered_spot J d)) gathered g (gathers_from j) in
          let b = map_flat f (over_spots J) reads ∙ flat_each (λ q. map f (over_spots J q)) over o reads in
          λ i. a i ++ b i)

  -- their listings are known where it is told so
  listed_is : (a : Awaited) → In a (all_spots J asked) → a.listed ≡ is_listed J a.path
  listed_is a i =
      same_at (λ (a : Awaited). a.listed) (λ (a : Awaited). is_listed J a.path) (all_spots J asked) a
      (spots_mapped (λ (a : Awaited). a.listed) (is_listed J) (λ q. map (λ (a : Awaited). is_listed J a.path) (over_spots J q)) (λ d. refl) (λ q. go q (folder_told J q))
      ∙ sym (spots_mapped (λ (a : Awaited). is_listed J a.path) (is_listed J) (λ q. map (λ (a : Awaited). is_listed J a.path) (over_spots J q)) (λ d. refl) (λ q. refl)))
      i
    where
      go :
          (q : Path) (o : Option Path) →
          map (λ (a : Awaited). a.listed) (none_or_one (option_map (λ d. record { path = d; link = link_to J.makers q; over = true; listed = is_listed J d }) o))
          ≡ map (λ (a : Awaited). is_listed J a.path) (none_or_one (option_map (λ d. record { path = d; link = link_to J.makers q; over = true; listed = is_listed J d }) o))
      go q None = refl
      go q (Some d) = refl

  module _ (image : Image) where
    over_is : (q : Path) → map path_of (over_spots J q) ≡ over_paths (site_at image J) q
    over_is q = go (find (tells_of q) J.makers)
      where
        folder :
            (o : Option Path) →
            map path_of (none_or_one (option_map (λ d. record { path = d; link = link_to J.makers q; over = true; listed = is_listed J d }) o))
            ≡ none_or_one (option_map (λ (d : Directory). d.path) (option_map (directory_at image) o))
        folder None = refl
        folder (Some d) = refl

        go :
            (o : Option Maker) →
            map path_of
            (none_or_one
            (option_map (λ d. record { path = d; link = link_to J.makers q; over = true; listed = is_listed J d })
            (option_and_then (λ (m : Maker). option_and_then (λ (j : Job). folder_over j.recipe m.path) (job_of J.jobs m)) o)))
            ≡ none_or_one (option_map (λ (d : Directory). d.path) (option_and_then (λ (s : Site). s.over) (option_map (site_of image J.jobs) o)))
        go None = refl
        go (Some m) = folder (option_and_then (λ (j : Job). folder_over j.recipe m.path) (job_of J.jobs m))

    -- they are those that are told of
    pub awaited_are : awaited_paths J asked ≡ awaited_told (site_at image J) (map (parts_of image) J.jobs) asked
    awaited_are =
        spots_mapped path_of (λ d. d) (over_paths (site_at image J)) (λ d. refl) over_is
        ∙ ap (λ xs. xs ++ flat_map (over_paths (site_at image J)) asked)
        (flat_each (λ (j : Job). map (λ (d : Path). d) (gathers_from j) ++ flat_map (over_paths (site_at image J)) (in_paths j.recipe ++ gathers_from j)) (λ j. awaits_told (site_at image J) (parts_of image j))
        (λ j. ap (λ xs. xs ++ flat_map (over_paths (site_at image J)) (in_paths j.recipe ++ gathers_from j)) (map_itself (gathers_from j))) J.jobs
        ∙ sym (flat_mapped (awaits_told (site_at image J)) (parts_of image) J.jobs))

    module _ (ss : List State) (spots : Option ℕ → Option Spot) (are : AreSpots image J spots) where
      pub ready_is : (q : Path) → test_some (ready_state ss) (spots (link_to J.makers q)) ≡ ready_told ss (site_at image J q)
      ready_is q = ap (test_some (ready_state ss)) (are q) ∙ go (site_at image J q)
        where
          go : (o : Option Site) → test_some (ready_state ss) (option_map plain o) ≡ ready_told ss o
          go None = refl
          go (Some s) = refl

      -- an awaited directory, and whether it is ready
      abbrev wait_of : Awaited → Wait
      wait_of a = record { path = a.path; ready = if a.over then test_some (over_state ss) (spots a.link) else test_some (ready_state ss) (spots a.link) }

      over_wait : (q : Path) → map wait_of (over_spots J q) ≡ over_waits ss (site_at image J q)
      over_wait q = go (find (tells_of q) J.makers) (are q)
        where
          folder :
              (job : Option ℕ) (whole : Bool) (o : Option Path) →
              spots (link_to J.makers q) ≡ Some (record { job = job; whole = whole; over = option_map (λ (d : Directory). d.whole) (option_map (directory_at image) o) }) →
              map wait_of (none_or_one (option_map (λ d. record { path = d; link = link_to J.makers q; over = true; listed = is_listed J d }) o))
              ≡ none_or_one (option_map (λ (d : Directory). record { path = d.path; ready = test_some is_clean (state_at ss job) && d.whole }) (option_map (directory_at image) o))
          folder job whole None e = refl
          folder job whole (Some d) e = λ i. record { path = d; ready = test_some (over_state ss) (e i) } ∷ []

          go :
              (o : Option Maker) → spots (link_to J.makers q) ≡ option_map plain (option_map (site_of image J.jobs) o) →
              map wait_of
              (none_or_one
              (option_map (λ d. record { path = d; link = link_to J.makers q; over = true; listed = is_listed J d })
              (option_and_then (λ (m : Maker). option_and_then (λ (j : Job). folder_over j.recipe m.path) (job_of J.jobs m)) o)))
              ≡ over_waits ss (option_map (site_of image J.jobs) o)
          go None e = refl
          go (Some m) e = folder m.job (site_of image J.jobs m).whole (option_and_then (λ (j : Job). folder_over j.recipe m.path) (job_of J.jobs m)) e

      waits_by_links : map wait_of (all_spots J asked) ≡ waits_told ss (site_at image J) (map (parts_of image) J.jobs) asked
      waits_by_links =
          spots_mapped wait_of (λ d. record { path = d; ready = ready_told ss (site_at image J d) }) (λ q. over_waits ss (site_at image J q))
          (λ d. let e = ready_is d in λ i. record { path = d; ready = e i }) over_wait
          ∙ ap (λ xs. xs ++ flat_map (λ q. over_waits ss (site_at image J q)) asked) (sym (flat_mapped (part_waits ss (site_at image J)) (parts_of image) J.jobs))

-- ## What is ready

-- what is lent tells of links
pub spots_of :
    (at : Judging) (J : Jobs) (origins : List Origin) (rows : Rows) → origins ≡ map (origin_of J.jobs) J.makers → AreRowsAt at J rows →
    AreSpots at.image J (spot_in origins rows)
spots_of at J origins rows o r = λ q. (λ i. spot_at (o i) (r.outputs i) (r.makers i) (link_to J.makers q)) ∙ spots_are at.image J q

module _
    (at : Judging) (J : Jobs) (table : Table) (rows : Rows) (ss : List State)
    (told : IsTableAt at J table) (lent : AreRowsAt at J rows) (each : length ss ≡ length J.jobs) (origins : List Origin) (same : origins ≡ table.origins) where
  are : AreSpots at.image J (spot_in origins rows)
  are = spots_of at J origins rows (same ∙ told.told.origins) lent

  pub targets_by_links :
      (targets : List Target) → targets ≡ table.targets →
      map (λ (t : Target). test_some (ready_state ss) (spot_in origins rows t.link)) targets ≡ targets_ready at J ss
  targets_by_links targets e =
      ap (map (λ (t : Target). test_some (ready_state ss) (spot_in origins rows t.link))) (e ∙ told.told.targets)
      ∙ map_twice (λ (t : Target). test_some (ready_state ss) (spot_in origins rows t.link)) (target_of J) at.settings.targets
      ∙ map_each (λ t. test_some (ready_state ss) (spot_in origins rows (link_to J.makers t))) (λ t. ready_told ss (site_at at.image J t))
      (ready_is J at.settings.targets at.image ss (spot_in origins rows) are) at.settings.targets
      ∙ targets_are at.image at.settings at.progress J at.settings.targets ss each told.served

  abbrev spots : List Awaited
  spots = all_spots J at.settings.targets

  abbrev ready : Path → Bool
  ready d = is_ready at.image at.settings at.progress (with_states J ss) d

  abbrev planned : List Path
  planned = flat_map (awaits (with_states J ss)) J.jobs ++ flat_map (directory_over (with_states J ss)) at.settings.targets

  abbrev wait_at : Awaited → Wait
  wait_at a = wait_of J at.settings.targets at.image ss (spot_in origins rows) are a

  waits_now : map wait_at spots ≡ waits_of ready planned
  waits_now =
      waits_by_links J at.settings.targets at.image ss (spot_in origins rows) are
      ∙ waits_are at.image at.settings at.progress J at.settings.targets ss each told.served refl

  paths_now : map path_of spots ≡ planned
  paths_now =
      sym (map_twice (λ (w : Wait). w.path) wait_at spots)
      ∙ ap (map (λ (w : Wait). w.path)) waits_now
      ∙ map_twice (λ (w : Wait). w.path) to_wait planned
      ∙ map_itself planned
    where
      to_wait : Path → Wait
      to_wait d = record { path = d; ready = ready d }

  new_is : (a : Awaited) → In a (distinct same_path spots) → new_state ss (spot_in origins rows) a ≡ is_new at J ss a.path
  new_is a i =
      let there = distinct_in same_path spots a i in
      let wait : wait_at a ≡ to_wait a.path =
      same_at wait_at (λ (a : Awaited). to_wait a.path) spots a
      (waits_now ∙ ap (map to_wait) (sym paths_now) ∙ map_twice to_wait path_of spots) there in
      let listed = listed_is J at.settings.targets a there in
      (λ i. (wait i).ready && not (listed i)) ∙ ap (λ b. ready a.path && b) (sym (listed_none J.lists a.path))
    where
      to_wait : Path → Wait
      to_wait d = record { path = d; ready = ready d }

  pub new_by_links :
      (awaited : List Awaited) → awaited ≡ table.awaited →
      map (λ (a : Awaited). a.path) (filter (new_state ss (spot_in origins rows)) awaited) ≡ new_directories at J ss
  new_by_links awaited e =
      ap (λ xs. map path_of (filter (new_state ss (spot_in origins rows)) xs)) (e ∙ told.told.awaited)
      ∙ ap (map path_of) (filter_same (new_state ss (spot_in origins rows)) (λ (a : Awaited). is_new at J ss a.path) (distinct same_path spots) new_is)
      ∙ filter_mapped (is_new at J ss) (distinct same_path spots)
      ∙ ap (filter (is_new at J ss)) (distinct_mapped spots ∙ ap (distinct bytes_eq) paths_now)

  -- so it is by their ranks
  module _ (ranks : List Rank) (ranked : ranks ≡ map rank_of ss) where
    pub targets_by_ranks :
        (targets : List Target) → targets ≡ table.targets →
        map (λ (t : Target). test_some (is_ready_spot ranks) (spot_in origins rows t.link)) targets ≡ targets_ready at J ss
    targets_by_ranks targets e =
        ap (λ (rs : List Rank). map (λ (t : Target). test_some (is_ready_spot rs) (spot_in origins rows t.link)) targets) ranked
        ∙ map_each (λ (t : Target). test_some (is_ready_spot (map rank_of ss)) (spot_in origins rows t.link))
        (λ (t : Target). test_some (ready_state ss) (spot_in origins rows t.link)) (λ (t : Target). ready_ranks ss (spot_in origins rows t.link)) targets
        ∙ targets_by_links targets e

    pub new_by_ranks :
        (awaited : List Awaited) → awaited ≡ table.awaited →
        map (λ (a : Awaited). a.path) (filter (is_new_awaited ranks (spot_in origins rows)) awaited) ≡ new_directories at J ss
    new_by_ranks awaited e =
        ap (λ (rs : List Rank). map path_of (filter (is_new_awaited rs (spot_in origins rows)) awaited)) ranked
        ∙ ap (map path_of)
        (filter_same (is_new_awaited (map rank_of ss) (spot_in origins rows)) (new_state ss (spot_in origins rows)) awaited
        (λ (a : Awaited) i. new_ranks ss (spot_in origins rows) a))
        ∙ new_by_links awaited e
