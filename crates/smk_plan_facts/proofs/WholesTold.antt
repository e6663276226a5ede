-- What a store and sights tell to be whole is whole in the image.
use Rattle.std.proofs.Common.{◌≡◌, ℕ, zero, suc, Bool, true, false, cond, ◌&&◌, ◌||◌, ◌==◌, List, [], ◌∷◌, ◌++◌, map, length, Option, Some, None, refl, sym, ap, ap₂, subst, ◌∙◌, bytes_eq, arith}
use Rattle.std.specs.Prelude.{if◌then◌else◌, option_map, is_some, nat_le}
use Rattle.std.specs.List.{list_all, find, filter, flat_map}
use Rattle.std.specs.Option.{option_and_then}
use Rattle.std.proofs.lemmas.List.Concat.{flat_map-append}
use Rattle.std.proofs.lemmas.List.{map-append}
use lib.Pointwise.{pointwise}
use Rattle.smk_base.specs.Path.{is_under}
use Rattle.smk_base.proofs.Places.{and_first, and_second, same_place}
use Rattle.smk_base.proofs.Under.{false_unless, never_both}
use Rattle.smk_world.specs.declared.event.Node.{Node}
use Rattle.smk_world.specs.declared.event.Node.TheVariants.{Regular, Directory as DirectoryNode}
use Rattle.smk_world.specs.declared.recipe.Kind.{Kind}
use Rattle.smk_world.specs.declared.recipe.Kind.TheVariants.{Plain, Folder as FolderKind}
use Rattle.smk_world.specs.declared.recipe.Out.{Out}
use Rattle.smk_world.specs.declared.recipe.OutItem.{OutItem}
use Rattle.smk_world.specs.World.{in_paths, out_paths}
use Rattle.smk_world.specs.Calls.{stat_of}
use Rattle.smk_world.specs.Trees.{Path, Each, among, below, outs_of, folders_of, folder_over, kind_in, is_folder_kind, are_members, is_path_text}
use Rattle.smk_record.specs.declared.record.Member.{Member}
use Rattle.smk_record.specs.declared.record.Record.{Record}
use Rattle.smk_record.specs.Records.{are_none, are_rising, are_valid_members, is_earlier, is_format, is_in_format, is_valid, members_of, same_flag, same_member}
use Rattle.smk_flow.specs.declared.job.Job.{Job}
use Rattle.smk_store.specs.Images.{Image, content_of, is_directory, is_file, is_folder, is_whole, members_under, readable, record_at}
use Rattle.smk_store.specs.Loading.{IsStoreOf}
use Rattle.smk_store.specs.Stores.{Known, entry_of}
use Rattle.smk_chain.specs.declared.jobs.Jobs.{Jobs}
use Rattle.smk_chain.specs.declared.jobs.Maker.{Maker}
use Rattle.smk_plan.specs.declared.seen.Sight.{Sight}
use Rattle.smk_plan.specs.States.{is_whole_by, makes, stands_whole, test_some}
use Rattle.smk_plan.specs.Sights.{IsSeenAs, IsSeenOf, is_whole_made, job_at, members_seen, sight_of, whole_outputs, wholes_of}
use Rattle.smk_plan_facts.specs.declared.directories.Directory.{Directory}
use Rattle.smk_plan_facts.specs.Facts.{AreMade, HasOwnRecords, IsMade, NamesAll}
use Rattle.smk_plan_facts.specs.Laws.{WholesAreSo}
use Rattle.smk_plan_facts.specs.Telling.{are_recorded, directories_of, directory_at, directory_in, is_file_member, is_file_stat, is_folder_stat, is_made_by, is_made_in, is_member_in, is_output_in, is_plain_in, is_told_whole, is_whole_in, is_whole_sight, kept_of, member_names, nth, or_no_members, outputs_in, whole_at, wholes_in, IsSorted}
use Rattle.smk_plan_facts.proofs.Tests.{each_among, each_map, each_of, each_found, find_map, find_passes, find_path, map_each, paths_of_outs}
use Rattle.smk_plan_facts.proofs.Stamped.{kept_is}
use Rattle.smk_plan_facts.proofs.Members.{file_among}

-- ## Valid members

same_by_flag : (a b : Bool) → same_flag a b ≡ true → a ≡ b
same_by_flag true b h = sym h
same_by_flag false true h = absurd (never_both false h refl)
same_by_flag false false h = refl

equal_members : (a b : Member) → same_member a b ≡ true → a ≡ b
equal_members a b h = λ i.
    record {
      folder = same_by_flag a.folder b.folder (and_first (same_flag a.folder b.folder) (bytes_eq a.name b.name) h) i;
      name = same_place a.name b.name (and_second (same_flag a.folder b.folder) (bytes_eq a.name b.name) h) i;
    }

all_equal : (xs ys : List Member) → pointwise same_member xs ys ≡ true → xs ≡ ys
all_equal [] [] h = refl
all_equal [] (y ∷ ys) h = absurd (never_both false h refl)
all_equal (x ∷ xs) [] h = absurd (never_both false h refl)
all_equal (x ∷ xs) (y ∷ ys) h = λ i.
    equal_members x y (and_first (same_member x y) (pointwise same_member xs ys) h) i ∷ all_equal xs ys (and_second (same_member x y) (pointwise same_member xs ys) h) i

eighth_true : (a b c d e f g h i : Bool) → list_all (λ (v : Bool). v) (a ∷ b ∷ c ∷ d ∷ e ∷ f ∷ g ∷ h ∷ i ∷ []) ≡ true → h ≡ true
eighth_true a b c d e f g true i k = refl
eighth_true a b c d e f g false i k = grind arith

none_left : (ms : List Member) → are_none ms ≡ true → ms ≡ []
none_left [] h = refl
none_left (m ∷ ms) h = absurd (never_both false h refl)

no_members_valid : (p : Path) → are_valid_members p [] ≡ true
no_members_valid p = refl

members_by : (p : Path) (ms : List Member) (b : Bool) → (if b then are_valid_members p ms else are_none ms) ≡ true → are_valid_members p ms ≡ true
members_by p ms true h = h
members_by p ms false h = ap (are_valid_members p) (none_left ms h) ∙ no_members_valid p

-- the members of a valid record are some that a record of its path may have
valid_members : (r : Record) → is_valid r ≡ true → are_valid_members r.path r.members ≡ true
valid_members r h =
    members_by r.path r.members (among (folders_of r.recipe) r.path)
    (eighth_true (length r.stamps == length (in_paths r.recipe)) (among (out_paths r.recipe) r.path) (nat_le 1 r.made) (list_all (is_earlier r.made) r.stamps) (are_rising (map (λ w. w.name) r.recipe.wildcards))
    (list_all is_path_text (in_paths r.recipe)) (list_all is_path_text (out_paths r.recipe))
    (if among (folders_of r.recipe) r.path then are_valid_members r.path r.members else are_none r.members) (is_format r.format && list_all (is_in_format r.format) r.stamps) h)

-- valid members rise
rise_by : (p : Path) (ms : List Member) → are_valid_members p ms ≡ true → are_rising (member_names ms) ≡ true
rise_by p ms h =
    and_first (are_rising (member_names ms)) _ (and_second (are_members p (member_names ms)) _ h)

-- ## Outputs

-- a file, by its node
pub file_by : (n : Option Node) → is_file_stat (stat_of n) ≡ is_some (content_of n)
file_by None = refl
file_by (Some DirectoryNode) = refl
file_by (Some (Regular bytes time read_only)) = refl

recorded_by : (r : Option Record) (p : Path) (ms : List Member) (valid : Bool) → are_valid_members p ms ≡ valid → ((s : Record) → r ≡ Some s → are_valid_members p s.members ≡ true) →
    are_recorded (if valid then Some ms else None) r ≡ (is_some r && pointwise same_member ms (members_of r))
recorded_by None p ms valid e own = refl
recorded_by (Some r) p ms true e own = refl
recorded_by (Some r) p ms false e own =
    sym (false_unless (pointwise same_member ms r.members) (λ same. never_both (are_valid_members p r.members) (own r refl) (ap (are_valid_members p) (sym (all_equal ms r.members same)) ∙ e)))

folder_by : (n : Option Node) (r : Option Record) (p : Path) (ms : List Member) → ((s : Record) → r ≡ Some s → are_valid_members p s.members ≡ true) →
    (is_folder_stat (stat_of n) && are_recorded (if is_directory n && are_valid_members p ms then Some ms else None) r) ≡ (is_directory n && (is_some r && pointwise same_member ms (members_of r)))
folder_by None r p ms own = refl
folder_by (Some (Regular bytes time read_only)) r p ms own = refl
folder_by (Some DirectoryNode) r p ms own = recorded_by r p ms (are_valid_members p ms) refl own

-- what is listed of a folder rises by name
listed_rise : (p : Path) (ms : List Member) (folder valid : Bool) → are_valid_members p ms ≡ valid → are_rising (member_names (or_no_members (if folder && valid then Some ms else None))) ≡ true
listed_rise p ms false valid e = refl
listed_rise p ms true false e = refl
listed_rise p ms true true e = rise_by p ms e

-- of a directory that is whole all that is under it is listed
listed_by : (r : Option Record) (p : Path) (ms : List Member) (folder valid : Bool) → are_valid_members p ms ≡ valid → ((s : Record) → r ≡ Some s → are_valid_members p s.members ≡ true) →
    (folder && (is_some r && pointwise same_member ms (members_of r))) ≡ true → or_no_members (if folder && valid then Some ms else None) ≡ ms
listed_by r p ms false valid e own h = absurd (never_both false h refl)
listed_by None p ms true valid e own h = absurd (never_both false h refl)
listed_by (Some r) p ms true true e own h = refl
listed_by (Some r) p ms true false e own h = absurd (never_both (are_valid_members p r.members) (own r refl) (ap (are_valid_members p) (sym (all_equal ms r.members h)) ∙ e))

module _ (image : Image) (store : List Known) (sights : List Sight) (is : IsStoreOf image store) (own : HasOwnRecords image) where
  owned : (p : Path) (s : Record) → record_at image p ≡ Some s → are_valid_members p s.members ≡ true
  owned p s e = let o = own p s e in subst (λ (x : Path). are_valid_members x s.members ≡ true) o.0 (valid_members s o.1)

  -- an output that is seen as it stands
  whole_is : (p : Path) (kind : Kind) → IsSeenAs image sights p → is_whole_in store sights p kind ≡ is_whole image p kind
  whole_is p Plain seen = ap (test_some (is_whole_sight (readable (kept_of (entry_of store p))) Plain)) seen.1 ∙ file_by (image.node p)
  whole_is p FolderKind seen =
      ap (test_some (is_whole_sight (readable (kept_of (entry_of store p))) FolderKind)) seen.1
      ∙ ap (λ k. is_whole_sight (readable k) FolderKind (sight_of image p)) (kept_is image store is p)
      ∙ folder_by (image.node p) (record_at image p) p (members_under image p) (owned p)

  -- a file in a directory
  member_is : NamesAll image → (f q : Path) → IsSeenAs image sights f → is_under q f ≡ true → is_member_in sights q (directory_in store sights f) ≡ (is_whole image f FolderKind && is_file image q)
  member_is all f q seen under =
      ap₂ (λ w ms. w && is_file_member ms (below f q)) (whole_is f FolderKind seen) (ap (λ (o : Option Sight). or_no_members (option_and_then (λ (s : Sight). s.members) o)) seen.1)
      ∙ go (is_whole image f FolderKind) refl
    where
      go : (b : Bool) → is_whole image f FolderKind ≡ b → (b && is_file_member (or_no_members (members_seen image f)) (below f q)) ≡ (b && is_file image q)
      go false e = refl
      go true e =
          ap (λ ms. is_file_member ms (below f q)) (listed_by (record_at image f) f (members_under image f) (is_folder image f) (are_valid_members f (members_under image f)) refl (owned f) e)
          ∙ file_among image all f q under

  plain_is : (q : Path) → IsSeenAs image sights q → is_plain_in sights q ≡ is_file image q
  plain_is q seen = ap (test_some (λ (s : Sight). is_file_stat s.stat)) seen.1 ∙ file_by (image.node q)

  -- the members that were seen of a directory rise
  sorted_is : (f : Path) → IsSeenAs image sights f → IsSorted sights (directory_in store sights f)
  sorted_is f seen = λ whole.
      ap (λ (o : Option Sight). are_rising (member_names (or_no_members (option_and_then (λ (s : Sight). s.members) o)))) seen.1
      ∙ listed_rise f (members_under image f) (is_folder image f) (are_valid_members f (members_under image f)) refl

-- ## Directories of a job

directories_by : (store : List Known) (sights : List Sight) (outs : List Out) →
    flat_map (directory_at store sights) outs ≡ map (directory_in store sights) (map (λ (o : Out). o.path) (filter (λ (o : Out). is_folder_kind o.kind) outs))
directories_by store sights [] = refl
directories_by store sights (o ∷ outs) = go (is_folder_kind o.kind) (directories_by store sights outs)
  where
    rest : List Out
    rest = filter (λ (x : Out). is_folder_kind x.kind) outs

    go : (b : Bool) → flat_map (directory_at store sights) outs ≡ map (directory_in store sights) (map (λ (x : Out). x.path) (filter (λ (x : Out). is_folder_kind x.kind) outs)) →
        (if b then directory_in store sights o.path ∷ [] else []) ++ flat_map (directory_at store sights) outs
        ≡ map (directory_in store sights) (map (λ (x : Out). x.path) (cond b (o ∷ filter (λ (x : Out). is_folder_kind x.kind) outs) (filter (λ (x : Out). is_folder_kind x.kind) outs)))
    go true more = ap (λ ds. directory_in store sights o.path ∷ ds) more
    go false more = more

flat_items : {B : Type 0} (f : Out → List B) (items : List OutItem) → flat_map (λ (item : OutItem). flat_map f item.outs) items ≡ flat_map f (flat_map (λ (item : OutItem). item.outs) items)
flat_items f [] = refl
flat_items f (item ∷ items) = ap (λ zs. flat_map f item.outs ++ zs) (flat_items f items) ∙ sym (flat_map-append f item.outs (flat_map (λ (i : OutItem). i.outs) items))

map_items : {B : Type 0} (f : Out → B) (items : List OutItem) → flat_map (λ (item : OutItem). map f item.outs) items ≡ map f (flat_map (λ (item : OutItem). item.outs) items)
map_items f [] = refl
map_items f (item ∷ items) = ap (λ zs. map f item.outs ++ zs) (map_items f items) ∙ sym (map-append f item.outs (flat_map (λ (i : OutItem). i.outs) items))

pub directories_are : (store : List Known) (sights : List Sight) (j : Job) → directories_of store sights j ≡ map (directory_in store sights) (folders_of j.recipe)
directories_are store sights j = flat_items (directory_at store sights) j.recipe.outputs ∙ directories_by store sights (outs_of j.recipe)

-- what holds of each output holds of each directory
pub each_filtered : {A : Type 0} (P : A → Type 0) (test : A → Bool) (xs : List A) → Each P xs → Each P (filter test xs)
each_filtered P test [] h = tt
each_filtered P test (x ∷ xs) h = go (test x) (each_filtered P test xs h.1)
  where
    go : (b : Bool) → Each P (filter test xs) → Each P (cond b (x ∷ filter test xs) (filter test xs))
    go true more = (h.0, more)
    go false more = more

module _ (image : Image) (store : List Known) (sights : List Sight) (is : IsStoreOf image store) (own : HasOwnRecords image) where
  abbrev IsSeenJob : Job → Type 0
  IsSeenJob j = Each (λ (o : Out). IsSeenAs image sights o.path) (outs_of j.recipe)

  folders_seen : (j : Job) → IsSeenJob j → Each (IsSeenAs image sights) (folders_of j.recipe)
  folders_seen j seen = each_map (IsSeenAs image sights) (λ (o : Out). o.path) (filter (λ (o : Out). is_folder_kind o.kind) (outs_of j.recipe)) (each_filtered (λ (o : Out). IsSeenAs image sights o.path) (λ (o : Out). is_folder_kind o.kind) (outs_of j.recipe) seen)

  output_seen : (j : Job) (q : Path) → IsSeenJob j → among (out_paths j.recipe) q ≡ true → IsSeenAs image sights q
  output_seen j q seen at =
      each_among (IsSeenAs image sights) (map (λ (o : Out). o.path) (outs_of j.recipe)) q (each_map (IsSeenAs image sights) (λ (o : Out). o.path) (outs_of j.recipe) seen)
      (sym (ap (λ ps. among ps q) (paths_of_outs j.recipe.outputs)) ∙ at)

  -- the outputs of a job
  outputs_are : (j : Job) → IsSeenJob j → outputs_in store sights j ≡ whole_outputs image j
  outputs_are j seen =
      map_items (whole_at store sights) j.recipe.outputs
      ∙ map_each (whole_at store sights) (λ (o : Out). is_whole image o.path o.kind) (outs_of j.recipe)
      (each_of (λ (o : Out). IsSeenAs image sights o.path) (λ (o : Out). whole_at store sights o ≡ is_whole image o.path o.kind) (λ o s. whole_is image store sights is own o.path o.kind s) (outs_of j.recipe) seen)

  sorted_of : (j : Job) → IsSeenJob j → Each (IsSorted sights) (directories_of store sights j)
  sorted_of j seen =
      subst (Each (IsSorted sights)) (sym (directories_are store sights j))
      (each_map (IsSorted sights) (directory_in store sights) (folders_of j.recipe)
      (each_of (IsSeenAs image sights) (λ (f : Path). IsSorted sights (directory_in store sights f)) (sorted_is image store sights is own) (folders_of j.recipe) (folders_seen j seen)))

  all_sorted : (js : List Job) → Each IsSeenJob js → Each (Each (IsSorted sights)) (map (directories_of store sights) js)
  all_sorted js seen = each_map (Each (IsSorted sights)) (directories_of store sights) js (each_of IsSeenJob (λ (j : Job). Each (IsSorted sights) (directories_of store sights j)) sorted_of js seen)

  -- at a path that is an output
  output_is : (j : Job) (q : Path) → IsSeenJob j → among (out_paths j.recipe) q ≡ true →
      is_output_in sights q (option_map (directory_in store sights) (find (λ (p : Path). bytes_eq p q) (folders_of j.recipe))) ≡ is_whole image q (kind_in j.recipe q)
  output_is j q seen at =
      ap (λ (o : Option Path). is_output_in sights q (option_map (directory_in store sights) o)) (find_path (folders_of j.recipe) q)
      ∙ go (among (folders_of j.recipe) q)
    where
      go : (b : Bool) → is_output_in sights q (option_map (directory_in store sights) (if b then Some q else None)) ≡ is_whole image q (if b then FolderKind else Plain)
      go true = whole_is image store sights is own q FolderKind (output_seen j q seen at)
      go false = plain_is image store sights is own q (output_seen j q seen at)

  -- what a job makes
  made_is : NamesAll image → (j : Job) (q : Path) → IsSeenJob j → makes j q ≡ true → is_made_in sights q (directories_of store sights j) ≡ stands_whole image q j
  made_is all j q seen made =
      ap (is_made_in sights q) (directories_are store sights j)
      ∙ ap₂ (is_made_by sights q) (find_map (λ (d : Directory). bytes_eq d.path q) (directory_in store sights) (folders_of j.recipe)) (find_map (λ (d : Directory). is_under q d.path) (directory_in store sights) (folders_of j.recipe))
      ∙ go (folder_over j.recipe q) refl
    where
      at : Option Directory
      at = option_map (directory_in store sights) (find (λ (p : Path). bytes_eq p q) (folders_of j.recipe))

      named : folder_over j.recipe q ≡ None → among (out_paths j.recipe) q ≡ true
      named e = left (among (out_paths j.recipe) q) (ap (λ (o : Option Path). among (out_paths j.recipe) q || is_some o) (sym e) ∙ made)
        where
          left : (b : Bool) → (b || false) ≡ true → b ≡ true
          left true h = refl
          left false h = h

      go : (o : Option Path) → folder_over j.recipe q ≡ o → is_made_by sights q at (option_map (directory_in store sights) o) ≡ is_whole_by image q (kind_in j.recipe q) o
      go None e = output_is j q seen (named e)
      go (Some f) e =
          member_is image store sights is own all f q (each_found (IsSeenAs image sights) (is_under q) (folders_of j.recipe) f (folders_seen j seen) e)
          (find_passes (is_under q) (folders_of j.recipe) f e)

-- ## Makers

pub nth_map : {B : Type 0} (f : Job → B) (js : List Job) (n : ℕ) → nth (map f js) n ≡ option_map f (job_at js n)
nth_map f [] n = refl
nth_map f (j ∷ js) zero = refl
nth_map f (j ∷ js) (suc n) = nth_map f js n

each_job : (P : Job → Type 0) (js : List Job) (n : ℕ) (j : Job) → Each P js → job_at js n ≡ Some j → P j
each_job P [] n j h e = absurd (none_there e)
  where
    none_there : None ≡ Some j → ⊥
    none_there k = cc
each_job P (k ∷ js) zero j h e = subst P (same e) h.0
  where
    same : Some k ≡ Some j → k ≡ j
    same s = cc
each_job P (k ∷ js) (suc n) j h e = each_job P js n j h.1 e

module _ (image : Image) (store : List Known) (sights : List Sight) (is : IsStoreOf image store) (own : HasOwnRecords image) (all : NamesAll image) (js : List Job) (seen : Each (IsSeenJob image store sights is own) js) where
  at_number : (q : Path) (n : ℕ) → ((j : Job) → job_at js n ≡ Some j → makes j q ≡ true) → test_some (is_made_in sights q) (nth (map (directories_of store sights) js) n) ≡ test_some (stands_whole image q) (job_at js n)
  at_number q n made = ap (test_some (is_made_in sights q)) (nth_map (directories_of store sights) js n) ∙ go (job_at js n) refl
    where
      go : (o : Option Job) → job_at js n ≡ o → test_some (is_made_in sights q) (option_map (directories_of store sights) o) ≡ test_some (stands_whole image q) o
      go None e = refl
      go (Some j) e = made_is image store sights is own all j q (each_job (IsSeenJob image store sights is own) js n j seen e) (made j e)

  maker_is : (m : Maker) → IsMade js m → is_told_whole sights (map (directories_of store sights) js) m ≡ is_whole_made image js m
  maker_is m made = go (m.job) refl
    where
      go : (o : Option ℕ) → m.job ≡ o → test_some (is_made_in sights m.path) (option_and_then (nth (map (directories_of store sights) js)) o) ≡ test_some (stands_whole image m.path) (option_and_then (job_at js) o)
      go None e = refl
      go (Some n) e = at_number m.path n (λ j at. made n j e at)

-- which outputs and makers are whole
pub wholes_are : (image : Image) (store : List Known) (sights : List Sight) (made : Jobs) → IsStoreOf image store → IsSeenOf image made sights → NamesAll image → HasOwnRecords image → AreMade made →
    wholes_in store sights made ≡ wholes_of image made
wholes_are image store sights made is seen all own makes = λ i.
    record {
      outputs = map_each (outputs_in store sights) (whole_outputs image) made.jobs (each_of (IsSeenJob image store sights is own) (λ (j : Job). outputs_in store sights j ≡ whole_outputs image j) (outputs_are image store sights is own) made.jobs seen.outputs) i;
      makers =
          map_each (is_told_whole sights (map (directories_of store sights) made.jobs)) (is_whole_made image made.jobs) made.makers
          (each_of (IsMade made.jobs) (λ (m : Maker). is_told_whole sights (map (directories_of store sights) made.jobs) m ≡ is_whole_made image made.jobs m) (maker_is image store sights is own all made.jobs seen.outputs) made.makers makes) i;
    }

-- the members of the directories of all jobs rise
pub sorted_all : (image : Image) (store : List Known) (sights : List Sight) (made : Jobs) → IsStoreOf image store → IsSeenOf image made sights → HasOwnRecords image → Each (Each (IsSorted sights)) (map (directories_of store sights) made.jobs)
sorted_all image store sights made is seen own = all_sorted image store sights is own made.jobs seen.outputs

pub wholes_so : WholesAreSo
wholes_so image made known seen is at all own makes = (sorted_all image known seen made is at own, wholes_are image known seen made is at all own makes)
