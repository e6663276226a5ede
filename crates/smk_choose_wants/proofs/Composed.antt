-- What a job wants, part by part.
use Rattle.std.proofs.Common.{◌≡◌, ℕ, ◌+◌, ◌&&◌, Bool, true, false, cond, List, [], ◌∷◌, ◌++◌, ◌<◌, get_or, length, take, map, filter, Option, Some, None, option_map, refl, sym, ap, ap₂, ◌∙◌}
use Rattle.std.specs.List.{flat_map, filter_map, cons_option, list_all}
use Rattle.std.proofs.lemmas.List.{map-append, append_assoc, take_more}
use Rattle.smk_base.specs.declared.tree.Pair.{Pair}
use Rattle.smk_base.specs.Path.{is_path}
use Rattle.smk_world.specs.declared.recipe.Item.{Item}
use Rattle.smk_world.specs.Trees.{Path}
use Rattle.smk_pattern.specs.Shapes.{Text}
use Rattle.smk_pattern.specs.Reading.{fill, shape_of}
use Rattle.smk_pattern.specs.Bound.{binding_of}
use Rattle.smk_pattern.proofs.FillPieces.{fill_is_filled}
use Rattle.smk_flow.specs.declared.job.Gather.{Gather}
use Rattle.smk_flow.specs.declared.job.Job.{Job}
use Rattle.smk_flow.specs.Jobs.{declared_job}
use Rattle.smk_flow.specs.declared.rule.InPart.{InPart}
use Rattle.smk_flow.specs.declared.rule.GatherPart.{GatherPart}
use Rattle.smk_flow.specs.Flows.{Flow, Candidate, first_wants, gather_at, gathers_from, folders_of, gathered_folders, declared_inputs}
use Rattle.smk_choose.specs.Readings.{filled_by}
use Rattle.smk_chain.specs.Derive.{Listings, gathered_in, gathered_files, wants, item_paths, items, job}
use Rattle.smk_choose_wants.specs.declared.wanted.Want.{Want}
use Rattle.smk_choose_wants.specs.declared.wanted.Want.TheVariants as want
use Rattle.smk_choose_wants.specs.Wants.{want_of, gathered_one, wanted_by, folder_in, item_with}

-- ## Texts

pub want_path : (t : Text) → is_path t ≡ true → want_of t ≡ want.Path t
want_path t e = ap (λ (b : Bool). elim b as (λ _. Want) [ true ↦ want.Path t | false ↦ want.NoPath t ]) e

pub want_none : (t : Text) → is_path t ≡ false → want_of t ≡ want.NoPath t
want_none t e = ap (λ (b : Bool). elim b as (λ _. Want) [ true ↦ want.Path t | false ↦ want.NoPath t ]) e

pub filled_text : (t : Text) (binding : List Pair) → filled_by binding (shape_of [] t) ≡ fill binding t
filled_text t binding = fill_is_filled [] t binding

-- ## Gathered files

filter_same : {A B : Type 0} (f g : A → Option B) → ((x : A) → f x ≡ g x) → (xs : List A) → filter_map f xs ≡ filter_map g xs
filter_same f g same [] = refl
filter_same f g same (x ∷ xs) = ap₂ cons_option (same x) (filter_same f g same xs)

option_same : {A B : Type 0} (f g : A → B) → ((x : A) → f x ≡ g x) → (o : Option A) → option_map f o ≡ option_map g o
option_same f g same None = refl
option_same f g same (Some x) = ap Some (same x)

abbrev by_shapes : Candidate → GatherPart → Path → Option Text
by_shapes c g = wanted_by c.binding (shape_of c.part.limits g.listed) (shape_of [] g.wanted)

one_same : (c : Candidate) (g : GatherPart) (f : Path) → by_shapes c g f ≡ gathered_one c g f
one_same c g f =
    option_same (λ (b : List Pair). filled_by (b ++ c.binding) (shape_of [] g.wanted)) (λ (b : List Pair). fill (b ++ c.binding) g.wanted)
    (λ b. filled_text g.wanted (b ++ c.binding)) (binding_of c.part.limits g.listed f)

-- what is gathered by the patterns is what is gathered by the texts
pub all_same : (c : Candidate) (g : GatherPart) (files : List Path) →
    filter_map (wanted_by c.binding (shape_of c.part.limits g.listed) (shape_of [] g.wanted)) files ≡ filter_map (gathered_one c g) files
all_same c g files = filter_same (by_shapes c g) (gathered_one c g) (one_same c g) files

filter_more : {A B : Type 0} (f : A → Option B) (xs : List A) (x : A) → filter_map f (xs ++ x ∷ []) ≡ filter_map f xs ++ filter_map f (x ∷ [])
filter_more {B = B} f [] x = refl
filter_more {B = B} f (y ∷ xs) x = go (f y) ∙ ap (λ zs. cons_option (f y) [] ++ zs) (filter_more f xs x) ∙ back (f y)
  where
    go : (o : Option B) → cons_option o (filter_map f (xs ++ x ∷ [])) ≡ cons_option o [] ++ filter_map f (xs ++ x ∷ [])
    go None = refl
    go (Some z) = refl

    back : (o : Option B) → cons_option o [] ++ (filter_map f xs ++ filter_map f (x ∷ [])) ≡ cons_option o (filter_map f xs) ++ filter_map f (x ∷ [])
    back None = refl
    back (Some z) = refl

-- one more file is gone through
pub files_step : (g : Path → Option Text) (files : List Path) (i : ℕ) (f : Path) (old new : List Text) → i < length files → f ≡ get_or files i f →
    old ≡ filter_map g (take i files) → new ≡ old ++ filter_map g (f ∷ []) → new ≡ filter_map g (take (i + 1) files)
files_step g files i f old new lt at was is =
    is
    ∙ ap (λ (ts : List Text). ts ++ filter_map g (f ∷ [])) was
    ∙ ap (λ (x : Path). filter_map g (take i files) ++ filter_map g (x ∷ [])) at
    ∙ sym (filter_more g (take i files) (get_or files i f))
    ∙ ap (filter_map g) (sym (take_more files i f lt))

-- ## Directories

folders_at : (flow : Flow) (c : Candidate) (n : ℕ) (o : Option GatherPart) (gathers : List Gather) →
    folders_of (gather_at flow c.part.limits c.binding n o ++ gathers) ≡ folder_in flow c o ++ folders_of gathers
folders_at flow c n None gathers = refl
folders_at flow c n (Some g) gathers = refl

folders_from : (flow : Flow) (c : Candidate) (n : ℕ) (inputs : List InPart) →
    folders_of (gathers_from flow c.part.limits c.binding n inputs) ≡ flat_map (λ (i : InPart). folder_in flow c i.gather) inputs
folders_from flow c n [] = refl
folders_from flow c n (i ∷ inputs) =
    folders_at flow c n i.gather (gathers_from flow c.part.limits c.binding (n + 1) inputs)
    ∙ ap (λ ts. folder_in flow c i.gather ++ ts) (folders_from flow c (n + 1) inputs)

-- ## Wants

-- its inputs and then the directories
pub first_are : (flow : Flow) (c : Candidate) (found : List Want) →
    found ≡ map want_of (declared_inputs flow c) ++ map want_of (flat_map (λ (i : InPart). folder_in flow c i.gather) c.part.inputs) →
    found ≡ map want_of (first_wants flow c)
first_are flow c found e =
    e
    ∙ ap (λ (ts : List Text). map want_of (declared_inputs flow c) ++ map want_of ts) (sym (folders_from flow c 0 c.part.inputs))
    ∙ sym (map-append want_of (declared_inputs flow c) (gathered_folders flow c))

-- and then the files
pub wants_are : (flow : Flow) (L : Listings) (c : Candidate) (found : List Want) →
    found ≡ map want_of (first_wants flow c) ++ map want_of (flat_map (λ (i : InPart). gathered_in flow L c i.gather) c.part.inputs) →
    found ≡ map want_of (wants flow L c)
wants_are flow L c found e =
    e
    ∙ sym (map-append want_of (first_wants flow c) (gathered_files flow L c))
    ∙ ap (map want_of) (append_assoc (declared_inputs flow c) (gathered_folders flow c) (gathered_files flow L c))

-- ## Items of paths

pub all_front : (f : Text → Bool) (xs ys : List Text) → list_all f (xs ++ ys) ≡ true → (list_all f xs ≡ true) × (list_all f ys ≡ true)
all_front f [] ys e = (refl, e)
all_front f (x ∷ xs) ys e = go (f x) e (all_front f xs ys)
  where
    go : (b : Bool) → (b && list_all f (xs ++ ys)) ≡ true → (list_all f (xs ++ ys) ≡ true → (list_all f xs ≡ true) × (list_all f ys ≡ true)) →
        ((b && list_all f xs) ≡ true) × (list_all f ys ≡ true)
    go true e more = more e
    go false e more = absurd (cc)

all_kept : (f : Text → Bool) (xs : List Text) → list_all f xs ≡ true → filter f xs ≡ xs
all_kept f [] e = refl
all_kept f (x ∷ xs) e = go (f x) e (all_kept f xs)
  where
    go : (b : Bool) → (b && list_all f xs) ≡ true → (list_all f xs ≡ true → filter f xs ≡ xs) → cond b (x ∷ filter f xs) (filter f xs) ≡ x ∷ xs
    go true e more = ap (λ ys. x ∷ ys) (more e)
    go false e more = absurd (cc)

item_kept : (flow : Flow) (L : Listings) (c : Candidate) (texts : List Text) (o : Option GatherPart) →
    list_all is_path (map (fill c.binding) texts) ≡ true → list_all is_path (gathered_in flow L c o) ≡ true →
    filter is_path (item_paths flow L c texts o) ≡ item_paths flow L c texts o
item_kept flow L c texts None p q = all_kept is_path (map (fill c.binding) texts) p
item_kept flow L c texts (Some g) p q = all_kept is_path (gathered_in flow L c (Some g)) q

items_kept : (flow : Flow) (L : Listings) (c : Candidate) (inputs : List InPart) →
    list_all is_path (flat_map (λ (i : InPart). map (fill c.binding) i.texts) inputs) ≡ true →
    list_all is_path (flat_map (λ (i : InPart). gathered_in flow L c i.gather) inputs) ≡ true →
    map (item_with flow L c) inputs ≡ map (λ (i : InPart). record { name = i.name; paths = item_paths flow L c i.texts i.gather }) inputs
items_kept flow L c [] p q = refl
items_kept flow L c (i ∷ inputs) p q =
    let texts = all_front is_path (map (fill c.binding) i.texts) (flat_map (λ (i : InPart). map (fill c.binding) i.texts) inputs) p in
    let files = all_front is_path (gathered_in flow L c i.gather) (flat_map (λ (i : InPart). gathered_in flow L c i.gather) inputs) q in
    ap₂ (λ (paths : List Path) (rest : List Item). record { name = i.name; paths = paths } ∷ rest) (item_kept flow L c i.texts i.gather texts.0 files.0)
    (items_kept flow L c inputs texts.1 files.1)

-- where all that is wanted are paths, no text is left out
pub items_are : (flow : Flow) (L : Listings) (c : Candidate) → list_all is_path (wants flow L c) ≡ true → map (item_with flow L c) c.part.inputs ≡ items flow L c
items_are flow L c e =
    let first = all_front is_path (declared_inputs flow c) (gathered_folders flow c ++ gathered_files flow L c) e in
    let second = all_front is_path (gathered_folders flow c) (gathered_files flow L c) first.1 in
    items_kept flow L c c.part.inputs first.0 second.1

-- ## The job

abbrev with_items : Job → List Item → Job
with_items made inputs =
    record {
      rule = made.rule;
      recipe = record {
        template = made.recipe.template;
        wildcards = made.recipe.wildcards;
        params = made.recipe.params;
        inputs = inputs;
        outputs = made.recipe.outputs;
      };
      gathers = made.gathers;
      logs = made.logs;
      threads = made.threads;
      amounts = made.amounts;
      words = made.words;
      priority = made.priority;
      temps = made.temps;
      guards = made.guards;
    }

-- the declared job with the items in their places
pub job_is : (flow : Flow) (L : Listings) (c : Candidate) (made : Job) (inputs : List Item) → made ≡ declared_job flow c → inputs ≡ items flow L c →
    with_items made inputs ≡ job flow L c
job_is flow L c made inputs e is = ap₂ with_items e is
