-- What is looked up while a table is made is what is told of paths.
use Rattle.std.proofs.Common.{◌≡◌, ◌∙◌, ◌<◌, ◌+◌, ℕ, zero, suc, length, get_or, drop, add-one, Bool, true, false, not, cond, ◌&&◌, ◌||◌, List, [], ◌∷◌, ◌++◌, map, filter, flat_map, find, refl, sym, ap, append_assoc, Option, Some, None, option_map}
use Rattle.std.specs.Prelude.{bytes_eq, if◌then◌else◌}
use Rattle.std.specs.Borrow.{Bor}
use Rattle.std.specs.BTreeSet.{contains_text}
use Rattle.std.specs.List.{slice_get, list_any}
use Rattle.std.specs.Option.{option_and_then}
use Rattle.std.proofs.Math.Seq.{drop-cons}
use Rattle.std.proofs.lemmas.Grind.{flat_map-append}
use Rattle.std.proofs.lemmas.List.{map-append}
use Rattle.std.proofs.lemmas.Option.{slice_get-map}
use Rattle.smk_base.specs.Path.{is_under}
use Rattle.smk_base.proofs.Places.{same_place, same_flipped}
use Rattle.smk_world.specs.declared.recipe.Item.{Item}
use Rattle.smk_world.specs.declared.recipe.OutItem.{OutItem}
use Rattle.smk_world.specs.declared.recipe.Kind.{Kind}
use Rattle.smk_world.specs.declared.recipe.Kind.TheVariants.{Plain, Folder as Directory}
use Rattle.smk_world.specs.declared.recipe.Out.{Out}
use Rattle.smk_world.specs.World.{in_paths, out_paths}
use Rattle.smk_world.specs.Trees.{Path, among, outs_of, is_folder_kind, folder_over}
use Rattle.smk_flow.specs.declared.job.Gather.{Gather}
use Rattle.smk_flow.specs.declared.job.Job.{Job}
use Rattle.smk_chain.specs.declared.jobs.Jobs.{Jobs}
use Rattle.smk_chain.specs.declared.jobs.Maker.{Maker}
use Rattle.smk_chain.specs.Derive.{distinct}
use Rattle.smk_plan.specs.States.{gathers_from}
use Rattle.smk_plan.specs.Sights.{job_at}
use Rattle.smk_plan_states.specs.declared.folders.Folder.{Folder}
use Rattle.smk_plan_states.specs.declared.lines.Awaited.{Awaited}
use Rattle.smk_plan_states.specs.declared.lines.Input.{Input}
use Rattle.smk_plan_states.specs.declared.making.Wants.{Wants}
use Rattle.smk_plan_states.specs.Keys.{has_key}
use Rattle.smk_plan_states.specs.Lines.{first_place, job_of, is_over, place_over, gathered_spot, over_spots, job_spots, inputs_from, is_of_other, is_wanted, link_to}
use Rattle.smk_plan_states.specs.Rows.{lent}
use Rattle.smk_plan_states.specs.Tables.{same_path}
use Rattle.smk_plan_states.specs.Ways.{placed_one, placed, folders_placed, first_over, folder_in, place_from, inputs_by, AreTemps, AreWants}
use Rattle.smk_laws_plan.proofs.CurrentChosen.{paths_are}
use Rattle.smk_choose.proofs.Preferred.{any_flat}
use Rattle.smk_plan_states.proofs.Tests.{any_map}
use Rattle.smk_plan_states.proofs.Flags.{filter_both}
use Rattle.smk_plan_states.proofs.Awaiting.{map_twice}

-- ## Places

place_later : {A : Type 0} (n : ℕ) (test : A → Bool) (xs : List A) → place_from (suc n) test xs ≡ option_map suc (place_from n test xs)
place_later n test [] = refl
place_later n test (x ∷ xs) = go (test x) (place_later (suc n) test xs)
  where
    go :
        (b : Bool) → place_from (suc (suc n)) test xs ≡ option_map suc (place_from (suc n) test xs) →
        cond b (Some (suc n)) (place_from (suc (suc n)) test xs) ≡ option_map suc (cond b (Some n) (place_from (suc n) test xs))
    go true e = refl
    go false e = e

pub place_is : {A : Type 0} (test : A → Bool) (xs : List A) → place_from 0 test xs ≡ first_place test xs
place_is test [] = refl
place_is test (x ∷ xs) = ap (λ o. cond (test x) (Some 0) o) (place_later 0 test xs ∙ ap (option_map suc) (place_is test xs))

-- ## Directory outputs

pub placed_more :
    (found new : List Folder) (outs : List (Bor Out)) (i : ℕ) (o : Bor Out) → i < length outs → o ≡ get_or outs i o → new ≡ found ++ placed_one i o.now →
    (whole : List Folder) → found ++ placed i (map (λ (o : Bor Out). o.now) (drop i outs)) ≡ whole → new ++ placed (i + 1) (map (λ (o : Bor Out). o.now) (drop (i + 1) outs)) ≡ whole
placed_more found new outs i o lt is made whole before =
    let next : drop i outs ≡ o ∷ drop (suc i) outs = drop-cons outs i o lt ∙ ap (λ y. y ∷ drop (suc i) outs) (sym is) in
    ap (λ n. new ++ placed n (map (λ (o : Bor Out). o.now) (drop n outs))) (add-one i)
    ∙ ap (λ l. l ++ placed (suc i) (map (λ (o : Bor Out). o.now) (drop (suc i) outs))) made
    ∙ append_assoc found (placed_one i o.now) (placed (suc i) (map (λ (o : Bor Out). o.now) (drop (suc i) outs)))
    ∙ ap (λ xs. found ++ placed i (map (λ (o : Bor Out). o.now) xs)) (sym next)
    ∙ before

over_path : (q : Path) (n : ℕ) (os : List Out) → option_map (λ (f : Folder). f.path) (first_over q (placed n os)) ≡ find (is_under q) (map (λ (o : Out). o.path) (filter (λ (o : Out). is_folder_kind o.kind) os))
over_path q n [] = refl
over_path q n (o ∷ os) = go o.path o.kind (over_path q (suc n) os)
  where
    under :
        (p : Path) (b : Bool) →
        option_map (λ (f : Folder). f.path) (first_over q (placed (suc n) os)) ≡ find (is_under q) (map (λ (o : Out). o.path) (filter (λ (o : Out). is_folder_kind o.kind) os)) →
        option_map (λ (f : Folder). f.path) (cond b (Some (record { place = n; path = p })) (first_over q (placed (suc n) os)))
        ≡ cond b (Some p) (find (is_under q) (map (λ (o : Out). o.path) (filter (λ (o : Out). is_folder_kind o.kind) os)))
    under p true e = refl
    under p false e = e

    go :
        (p : Path) (k : Kind) →
        option_map (λ (f : Folder). f.path) (first_over q (placed (suc n) os)) ≡ find (is_under q) (map (λ (o : Out). o.path) (filter (λ (o : Out). is_folder_kind o.kind) os)) →
        option_map (λ (f : Folder). f.path) (first_over q (placed_one n (record { path = p; kind = k }) ++ placed (suc n) os))
        ≡ find (is_under q) (map (λ (o : Out). o.path) (cond (is_folder_kind k) (record { path = p; kind = k } ∷ filter (λ (o : Out). is_folder_kind o.kind) os) (filter (λ (o : Out). is_folder_kind o.kind) os)))
    go p Plain e = e
    go p Directory e = under p (is_under q p) e

over_number : (q : Path) (n : ℕ) (os : List Out) → option_map (λ (f : Folder). f.place) (first_over q (placed n os)) ≡ place_from n (is_over q) os
over_number q n [] = refl
over_number q n (o ∷ os) = go o.path o.kind (over_number q (suc n) os)
  where
    under :
        (p : Path) (b : Bool) → option_map (λ (f : Folder). f.place) (first_over q (placed (suc n) os)) ≡ place_from (suc n) (is_over q) os →
        option_map (λ (f : Folder). f.place) (cond b (Some (record { place = n; path = p })) (first_over q (placed (suc n) os))) ≡ cond b (Some n) (place_from (suc n) (is_over q) os)
    under p true e = refl
    under p false e = e

    go :
        (p : Path) (k : Kind) → option_map (λ (f : Folder). f.place) (first_over q (placed (suc n) os)) ≡ place_from (suc n) (is_over q) os →
        option_map (λ (f : Folder). f.place) (first_over q (placed_one n (record { path = p; kind = k }) ++ placed (suc n) os))
        ≡ cond (is_folder_kind k && is_under q p) (Some n) (place_from (suc n) (is_over q) os)
    go p Plain e = e
    go p Directory e = under p (is_under q p) e

job_same : (js : List Job) (n : ℕ) → slice_get js n ≡ job_at js n
job_same [] n = refl
job_same (j ∷ js) zero = refl
job_same (j ∷ js) (suc n) = job_same js n

pub job_by_number : (js : List Job) (number : Option ℕ) → option_and_then (slice_get js) number ≡ option_and_then (job_at js) number
job_by_number js None = refl
job_by_number js (Some n) = job_same js n

pub job_by_maker : (js : List Job) (o : Option Maker) → option_and_then (λ (m : Maker). option_and_then (slice_get js) m.job) o ≡ option_and_then (job_of js) o
job_by_maker js None = refl
job_by_maker js (Some m) = job_by_number js m.job

folders_by_number : (js : List Job) (number : Option ℕ) → option_and_then (slice_get (map folders_placed js)) number ≡ option_map folders_placed (option_and_then (job_at js) number)
folders_by_number js None = refl
folders_by_number js (Some n) = slice_get-map folders_placed js n ∙ ap (option_map folders_placed) (job_same js n)

-- the place of the directory over a path
pub place_by_number : (js : List Job) (number : Option ℕ) (q : Path) → option_map (λ (f : Folder). f.place) (folder_in (map folders_placed js) number q) ≡ option_and_then (place_over q) (option_and_then (job_at js) number)
place_by_number js number q =
    ap (λ o. option_map (λ (f : Folder). f.place) (option_and_then (first_over q) o)) (folders_by_number js number)
    ∙ go (option_and_then (job_at js) number)
  where
    go : (o : Option Job) → option_map (λ (f : Folder). f.place) (option_and_then (first_over q) (option_map folders_placed o)) ≡ option_and_then (place_over q) o
    go None = refl
    go (Some j) = over_number q 0 (outs_of j.recipe) ∙ place_is (is_over q) (outs_of j.recipe)

path_by_number : (js : List Job) (number : Option ℕ) (q : Path) → option_map (λ (f : Folder). f.path) (folder_in (map folders_placed js) number q) ≡ option_and_then (λ (j : Job). folder_over j.recipe q) (option_and_then (job_at js) number)
path_by_number js number q =
    ap (λ o. option_map (λ (f : Folder). f.path) (option_and_then (first_over q) o)) (folders_by_number js number)
    ∙ go (option_and_then (job_at js) number)
  where
    go : (o : Option Job) → option_map (λ (f : Folder). f.path) (option_and_then (first_over q) (option_map folders_placed o)) ≡ option_and_then (λ (j : Job). folder_over j.recipe q) o
    go None = refl
    go (Some j) = over_path q 0 (outs_of j.recipe)

-- the directory over the path of a maker
pub folder_by_maker :
    (js : List Job) (o : Option Maker) →
    option_map (λ (f : Folder). f.path) (option_and_then (λ (m : Maker). folder_in (map folders_placed js) m.job m.path) o)
    ≡ option_and_then (λ (m : Maker). option_and_then (λ (j : Job). folder_over j.recipe m.path) (job_of js m)) o
folder_by_maker js None = refl
folder_by_maker js (Some m) = path_by_number js m.job m.path

pub option_twice : {A B C : Type 0} (g : B → C) (f : A → B) (o : Option A) → option_map g (option_map f o) ≡ option_map (λ x. g (f x)) o
option_twice g f None = refl
option_twice g f (Some x) = refl

-- ## Awaited directories

flat_flat : {A B C : Type 0} (f : B → List C) (g : A → List B) (xs : List A) → flat_map f (flat_map g xs) ≡ flat_map (λ x. flat_map f (g x)) xs
flat_flat f g [] = refl
flat_flat f g (x ∷ xs) = flat_map-append f (g x) (flat_map g xs) ∙ ap (λ ys. flat_map f (g x) ++ ys) (flat_flat f g xs)

flat_mapped : {A B C : Type 0} (f : B → List C) (g : A → B) (xs : List A) → flat_map f (map g xs) ≡ flat_map (λ x. f (g x)) xs
flat_mapped f g [] = refl
flat_mapped f g (x ∷ xs) = ap (λ ys. f (g x) ++ ys) (flat_mapped f g xs)

-- those of one job more
pub spots_more :
    (J : Jobs) (j : Job) (found a b c : List Awaited) →
    a ≡ found ++ map (λ (g : Gather). gathered_spot J g.folder) j.gathers → b ≡ a ++ flat_map (λ (item : Item). flat_map (over_spots J) item.paths) j.recipe.inputs →
    c ≡ b ++ flat_map (λ (g : Gather). over_spots J g.folder) j.gathers → c ≡ found ++ job_spots J j
spots_more J j found a b c ea eb ec =
    let gathered = map (λ (g : Gather). gathered_spot J g.folder) j.gathers in
    let inputs = flat_map (λ (item : Item). flat_map (over_spots J) item.paths) j.recipe.inputs in
    let overs = flat_map (λ (g : Gather). over_spots J g.folder) j.gathers in
    ec ∙ ap (λ xs. xs ++ overs) (eb ∙ ap (λ xs. xs ++ inputs) ea)
    ∙ append_assoc (found ++ gathered) inputs overs
    ∙ append_assoc found gathered (inputs ++ overs)
    ∙ ap (λ xs. found ++ xs)
    (sym
    ((λ i. map_twice (gathered_spot J) (λ (g : Gather). g.folder) j.gathers i ++ (flat_map-append (over_spots J) (in_paths j.recipe) (gathers_from j) ∙ shape) i)))
  where
    shape :
        flat_map (over_spots J) (in_paths j.recipe) ++ flat_map (over_spots J) (gathers_from j)
        ≡ flat_map (λ (item : Item). flat_map (over_spots J) item.paths) j.recipe.inputs ++ flat_map (λ (g : Gather). over_spots J g.folder) j.gathers
    shape = λ i. flat_flat (over_spots J) (λ (item : Item). item.paths) j.recipe.inputs i ++ flat_mapped (over_spots J) (λ (g : Gather). g.folder) j.gathers i

module _ (seen later : Path → Bool) (x : Awaited) (fresh : Bool) (is_fresh : fresh ≡ not (seen x.path)) (after : (q : Path) → later q ≡ (if fresh then bytes_eq q x.path || seen q else seen q)) where
  one_left : (p : Path) → (not (bytes_eq x.path p) && not (seen p)) ≡ not (later p)
  one_left p = go fresh refl
    where
      both : (e s : Bool) → (not e && not s) ≡ not (e || s)
      both true s = refl
      both false s = refl

      there : (b : Bool) → bytes_eq x.path p ≡ b → fresh ≡ false → (not b && not (seen p)) ≡ not (seen p)
      there false e f = refl
      there true e f = sym f ∙ is_fresh ∙ ap (λ q. not (seen q)) (same_place x.path p e)

      go : (b : Bool) → fresh ≡ b → (not (bytes_eq x.path p) && not (seen p)) ≡ not (later p)
      go true f =
          both (bytes_eq x.path p) (seen p)
          ∙ ap (λ b. not (b || seen p)) (same_flipped x.path p)
          ∙ ap not (sym (after p ∙ ap (λ b. if b then bytes_eq p x.path || seen p else seen p) f))
      go false f = there (bytes_eq x.path p) refl f ∙ ap not (sym (after p ∙ ap (λ b. if b then bytes_eq p x.path || seen p else seen p) f))

  once_more : (xs : List Awaited) → (if fresh then x ∷ [] else []) ++ filter (λ (a : Awaited). not (later a.path)) (distinct same_path xs) ≡ filter (λ (a : Awaited). not (seen a.path)) (distinct same_path (x ∷ xs))
  once_more xs = go fresh is_fresh same
    where
      same :
          filter (λ (a : Awaited). not (later a.path)) (distinct same_path xs)
          ≡ filter (λ (a : Awaited). not (seen a.path)) (filter (λ (y : Awaited). not (same_path x y)) (distinct same_path xs))
      same =
          sym
          (filter_both (λ (a : Awaited). not (seen a.path)) (λ (y : Awaited). not (same_path x y)) (distinct same_path xs)
          ∙ (λ i. filter (λ (y : Awaited). one_left y.path i) (distinct same_path xs)))

      go :
          (b : Bool) → b ≡ not (seen x.path) →
          filter (λ (a : Awaited). not (later a.path)) (distinct same_path xs) ≡ filter (λ (a : Awaited). not (seen a.path)) (filter (λ (y : Awaited). not (same_path x y)) (distinct same_path xs)) →
          (if b then x ∷ [] else []) ++ filter (λ (a : Awaited). not (later a.path)) (distinct same_path xs)
          ≡ cond (not (seen x.path)) (x ∷ filter (λ (a : Awaited). not (seen a.path)) (filter (λ (y : Awaited). not (same_path x y)) (distinct same_path xs))) (filter (λ (a : Awaited). not (seen a.path)) (filter (λ (y : Awaited). not (same_path x y)) (distinct same_path xs)))
      go true e s =
          ap (λ l. x ∷ l) s
          ∙ ap (λ b. cond b (x ∷ filter (λ (a : Awaited). not (seen a.path)) (filter (λ (y : Awaited). not (same_path x y)) (distinct same_path xs))) (filter (λ (a : Awaited). not (seen a.path)) (filter (λ (y : Awaited). not (same_path x y)) (distinct same_path xs)))) e
      go false e s =
          s
          ∙ ap (λ b. cond b (x ∷ filter (λ (a : Awaited). not (seen a.path)) (filter (λ (y : Awaited). not (same_path x y)) (distinct same_path xs))) (filter (λ (a : Awaited). not (seen a.path)) (filter (λ (y : Awaited). not (same_path x y)) (distinct same_path xs)))) e

  pub each_more :
      (found new spots : List Awaited) (i : ℕ) → i < length spots → x ≡ get_or spots i x → new ≡ found ++ (if fresh then x ∷ [] else []) →
      (whole : List Awaited) → found ++ filter (λ (a : Awaited). not (seen a.path)) (distinct same_path (drop i spots)) ≡ whole →
      new ++ filter (λ (a : Awaited). not (later a.path)) (distinct same_path (drop (i + 1) spots)) ≡ whole
  each_more found new spots i lt is made whole before =
      let next : drop i spots ≡ x ∷ drop (suc i) spots = drop-cons spots i x lt ∙ ap (λ y. y ∷ drop (suc i) spots) (sym is) in
      ap (λ n. new ++ filter (λ (a : Awaited). not (later a.path)) (distinct same_path (drop n spots))) (add-one i)
      ∙ ap (λ l. l ++ filter (λ (a : Awaited). not (later a.path)) (distinct same_path (drop (suc i) spots))) made
      ∙ append_assoc found (if fresh then x ∷ [] else []) (filter (λ (a : Awaited). not (later a.path)) (distinct same_path (drop (suc i) spots)))
      ∙ ap (λ l. found ++ l) (once_more (drop (suc i) spots))
      ∙ ap (λ xs. found ++ filter (λ (a : Awaited). not (seen a.path)) (distinct same_path xs)) (sym next)
      ∙ before

-- all of them are new where none was seen
pub all_new : (seen : Path → Bool) (xs : List Awaited) → ((q : Path) → seen q ≡ false) → filter (λ (a : Awaited). not (seen a.path)) xs ≡ xs
all_new seen xs none = (λ i. filter (λ (a : Awaited). not (none a.path i)) xs) ∙ go xs
  where
    go : (xs : List Awaited) → filter (λ (a : Awaited). true) xs ≡ xs
    go [] = refl
    go (x ∷ xs) = ap (λ ys. x ∷ ys) (go xs)

-- ## Inputs

pub inputs_are : (J : Jobs) (name : Path) (seen paths : List Path) → inputs_by J name (among seen) paths ≡ inputs_from J name seen paths
inputs_are J name seen [] = refl
inputs_are J name seen (q ∷ paths) = ap (λ is. record { path = q; link = link_to J.makers q; again = among seen q; other = is_of_other J name q } ∷ is) (inputs_are J name (q ∷ seen) paths)

pub inputs_more :
    (J : Jobs) (name : Path) (seen later : Path → Bool) (found new : List Input) (paths : List (Bor Path)) (i : ℕ) (x : Bor Path) (again : Bool) →
    i < length paths → x ≡ get_or paths i x → again ≡ seen x.now →
    new ≡ found ++ record { path = x.now; link = link_to J.makers x.now; again = again; other = is_of_other J name x.now } ∷ [] →
    ((q : Path) → later q ≡ (bytes_eq q x.now || seen q)) →
    (whole : List Input) → found ++ inputs_by J name seen (lent (drop i paths)) ≡ whole → new ++ inputs_by J name later (lent (drop (i + 1) paths)) ≡ whole
inputs_more J name seen later found new paths i x again lt is told made after whole before =
    let next : drop i paths ≡ x ∷ drop (suc i) paths = drop-cons paths i x lt ∙ ap (λ y. y ∷ drop (suc i) paths) (sym is) in
    let rest = lent (drop (suc i) paths) in
    ap (λ n. new ++ inputs_by J name later (lent (drop n paths))) (add-one i)
    ∙ (λ i. made i ++ inputs_by J name (λ q. after q i) rest)
    ∙ append_assoc found (record { path = x.now; link = link_to J.makers x.now; again = again; other = is_of_other J name x.now } ∷ []) (inputs_by J name (λ q. bytes_eq q x.now || seen q) rest)
    ∙ ap (λ (b : Bool). found ++ record { path = x.now; link = link_to J.makers x.now; again = b; other = is_of_other J name x.now } ∷ inputs_by J name (λ q. bytes_eq q x.now || seen q) rest) told
    ∙ ap (λ xs. found ++ inputs_by J name seen (lent xs)) (sym next)
    ∙ before

-- ## Outputs

-- what is wanted, by what is looked up
pub wanted_is :
    (J : Jobs) (asked : List Path) (j : Job) (wants : Wants) (temps : Path → Bool) (fed : Bool) (q : Path) → AreWants J asked wants → AreTemps J asked j temps fed →
    (contains_text wants.targets q || (contains_text wants.awaited q || (not (temps q && not fed) && has_key wants.read q))) ≡ is_wanted J asked j q
wanted_is J asked j wants temps fed q w t = λ i. w.targets q i || (w.awaited q i || (not (t.temps_are q i && not (t.fed_is i)) && w.read q i))

pub outputs_flat : {C : Type 0} (f : Path → C) (j : Job) → flat_map (λ (item : OutItem). map (λ (o : Out). f o.path) item.outs) j.recipe.outputs ≡ map f (out_paths j.recipe)
outputs_flat f j = go j.recipe.outputs ∙ sym (map_twice f (λ (o : Out). o.path) (outs_of j.recipe)) ∙ ap (map f) (sym (paths_are j.recipe))
  where
    go : (items : List OutItem) → flat_map (λ (item : OutItem). map (λ (o : Out). f o.path) item.outs) items ≡ map (λ (o : Out). f o.path) (flat_map (λ (item : OutItem). item.outs) items)
    go [] = refl
    go (item ∷ items) =
        ap (λ ys. map (λ (o : Out). f o.path) item.outs ++ ys) (go items)
        ∙ sym (map-append (λ (o : Out). f o.path) item.outs (flat_map (λ (item : OutItem). item.outs) items))

pub outputs_any : (f : Path → Bool) (j : Job) → list_any (λ (item : OutItem). list_any (λ (o : Out). f o.path) item.outs) j.recipe.outputs ≡ list_any f (out_paths j.recipe)
outputs_any f j =
    sym (any_flat (λ (o : Out). f o.path) (λ (item : OutItem). item.outs) j.recipe.outputs)
    ∙ sym (any_map f (λ (o : Out). o.path) (outs_of j.recipe))
    ∙ ap (list_any f) (sym (paths_are j.recipe))
