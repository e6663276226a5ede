-- What the states of a plan are made of: the makers of paths, awaited directories, and what is wanted back.
use Rattle.std.proofs.Common.{◌≡◌, ◌⊎◌, Bool, true, false, not, cond, ◌&&◌, ◌||◌, List, [], ◌∷◌, ◌++◌, map, filter, flat_map, find, zip, refl, sym, ap, subst, inl, inr, ◌∙◌, Option, Some, None, option_map, is_some, is_none}
use Rattle.std.specs.List.{list_any}
use Rattle.std.specs.Option.{option_and_then}
use Rattle.std.proofs.Math.Bool.{and-true, and-or_distrib_left}
use Rattle.smk_base.specs.Path.{is_under, overlaps}
use Rattle.smk_base.proofs.Under.{never_under_itself}
use Rattle.smk_world.specs.declared.recipe.Kind.{Kind}
use Rattle.smk_world.specs.declared.recipe.Kind.TheVariants.{Plain, Folder}
use Rattle.smk_world.specs.declared.recipe.Out.{Out}
use Rattle.smk_world.specs.World.{in_paths, out_paths}
use Rattle.smk_world.specs.Trees.{Path, among, outs_of, folders_of, folder_over, kind_in, is_folder_kind}
use Rattle.smk_flow.specs.declared.job.Job.{Job}
use Rattle.smk_store.specs.Images.{Image, is_whole}
use Rattle.smk_chain.specs.declared.jobs.Jobs.{Jobs}
use Rattle.smk_trigger.specs.declared.reason.Reason.{Reason}
use Rattle.smk_trigger.specs.declared.reason.State.{State}
use Rattle.smk_trigger.specs.declared.reason.State.TheVariants.{Open, Dirty, Restore, Clean}
use Rattle.smk_trigger.specs.JobStates.{is_open, is_dirty, is_clean, is_to_run}
use Rattle.smk_pick.specs.declared.settings.Settings.{Settings}
use Rattle.smk_plan.specs.States.{Plan, Progress, HasStates, makes, gathers_from, stands_whole, by_reasons, unless_clean, while_running, test_some, none_or_one, maker_of, directory_over, awaits, is_input, is_at_hand, awaited, is_open_now, reasons, makes_awaited, is_temporary, is_wanted_back, is_to_restore, kept_state, is_read_now, state_of}
use Rattle.smk_plan_states.specs.Judged.{with_states}
use Rattle.smk_plan_states.specs.Parts.{gone_outputs}
use Rattle.smk_plan_states.specs.First.{is_always_wanted, is_kept, first_state, unless_needed}
use Rattle.smk_laws_plan.proofs.CurrentLists.{In, in_left, in_right, in_flat, in_map, map_in, in_filter, filter_in, find_in, any_from, any_in, or_cases, or_first, clash_of}
use Rattle.smk_laws_plan.proofs.CurrentPaths.{among_in, in_among, touch_overlaps}
use Rattle.smk_laws_plan.proofs.CurrentApart.{Apart, JobsApart, maker_found, apart_same, own_apart}
use Rattle.smk_laws_plan.proofs.CurrentChosen.{paths_are, folders_paths}
use Rattle.smk_laws_plan.proofs.PlanStates.{any_same, table_open, table_dirty}
use Rattle.smk_plan_states.proofs.Tests.{any_or, any_map, any_filter, among_once}

-- ## Outputs of a job that lie apart

outs_same : (os : List Out) (a b : Out) → Apart (map (λ (o : Out). o.path) os) → In a os → In b os → a.path ≡ b.path → a ≡ b
outs_same [] a b h i k e = absurd i
outs_same (o ∷ os) a b h (inl p) (inl q) e = p ∙ sym q
outs_same (o ∷ os) a b h (inl p) (inr k) e =
    absurd (clash_of (overlaps b.path o.path) (touch_overlaps b.path o.path (inl (sym e ∙ ap (λ (x : Out). x.path) p))) (h.0 b.path (in_map (λ (o : Out). o.path) os b k)))
outs_same (o ∷ os) a b h (inr i) (inl q) e =
    absurd (clash_of (overlaps a.path o.path) (touch_overlaps a.path o.path (inl (e ∙ ap (λ (x : Out). x.path) q))) (h.0 a.path (in_map (λ (o : Out). o.path) os a i)))
outs_same (o ∷ os) a b h (inr i) (inr k) e = outs_same os a b h.1 i k e

module _ (j : Job) (apart : Apart (out_paths j.recipe)) where
  -- the kind of an output is that of the job's output at its path
  kind_is : (o : Out) → In o (outs_of j.recipe) → kind_in j.recipe o.path ≡ o.kind
  kind_is o i = go o.kind refl (among (folders_of j.recipe) o.path) refl
    where
      folder : o.kind ≡ Folder → among (folders_of j.recipe) o.path ≡ true
      folder e =
          in_among (folders_of j.recipe) o.path
          (in_map (λ (o : Out). o.path) (filter (λ (o : Out). is_folder_kind o.kind) (outs_of j.recipe)) o (in_filter (λ (o : Out). is_folder_kind o.kind) (outs_of j.recipe) o i (ap is_folder_kind e)))

      other : among (folders_of j.recipe) o.path ≡ true → is_folder_kind o.kind ≡ true
      other h =
          let f = map_in (λ (o : Out). o.path) (filter (λ (o : Out). is_folder_kind o.kind) (outs_of j.recipe)) o.path (among_in (folders_of j.recipe) o.path h) in
          let g = filter_in (λ (o : Out). is_folder_kind o.kind) (outs_of j.recipe) f.0 f.1 in
          ap (λ (x : Out). is_folder_kind x.kind) (outs_same (outs_of j.recipe) o f.0 (subst Apart (paths_are j.recipe) apart) i g.0 f.2) ∙ g.1

      go : (k : Kind) → o.kind ≡ k → (b : Bool) → among (folders_of j.recipe) o.path ≡ b → cond b Folder Plain ≡ k
      go Folder e true h = refl
      go Folder e false h = absurd (clash_of (among (folders_of j.recipe) o.path) (folder e) h)
      go Plain e true h = absurd (clash_of (is_folder_kind o.kind) (other h) (ap is_folder_kind e))
      go Plain e false h = refl

  -- tests of outputs that aren't whole are tests of those of them that are gone
  pub gone_tests :
      (image : Image) (W : Path → Bool) →
      list_any (λ p. not (is_whole image p (kind_in j.recipe p)) && W p) (out_paths j.recipe) ≡ list_any W (gone_outputs image j)
  gone_tests image W =
      ap (list_any (λ p. not (is_whole image p (kind_in j.recipe p)) && W p)) (paths_are j.recipe)
      ∙ (any_map (λ p. not (is_whole image p (kind_in j.recipe p)) && W p) (λ (o : Out). o.path) (outs_of j.recipe)
      ∙ (any_same (λ (o : Out). not (is_whole image o.path (kind_in j.recipe o.path)) && W o.path) (λ (o : Out). not (is_whole image o.path o.kind) && W o.path) (outs_of j.recipe) (λ o i. ap (λ k. not (is_whole image o.path k) && W o.path) (kind_is o i))
      ∙ sym (any_map W (λ (o : Out). o.path) (filter (λ (o : Out). not (is_whole image o.path o.kind)) (outs_of j.recipe))
      ∙ any_filter (λ (o : Out). W o.path) (λ (o : Out). not (is_whole image o.path o.kind)) (outs_of j.recipe))))

  -- a directory output is whole as one
  pub directory_whole : (image : Image) (q f : Path) → folder_over j.recipe q ≡ Some f → stands_whole image f j ≡ is_whole image f Folder
  directory_whole image q f e = go (folder_over j.recipe f) refl (among (folders_of j.recipe) f) (in_among (folders_of j.recipe) f here)
    where
      here : In f (folders_of j.recipe)
      here = (find_in (is_under q) (folders_of j.recipe) f e).0

      never : (g : Path) → folder_over j.recipe f ≡ Some g → ⊥
      never g k =
          let r = find_in (is_under f) (folders_of j.recipe) g k in
          let same = apart_same (out_paths j.recipe) f g apart (folders_paths j.recipe f here) (folders_paths j.recipe g r.0) (inr (inl r.1)) in
          clash_of (is_under f f) (subst (λ w. is_under f w ≡ true) (sym same) r.1) (never_under_itself f)

      go : (o : Option Path) → folder_over j.recipe f ≡ o → (b : Bool) → b ≡ true → Rattle.smk_plan.specs.States.is_whole_by image f (cond b Folder Plain) o ≡ is_whole image f Folder
      go (Some g) k b h = absurd (never g k)
      go None k b h = ap (λ c. is_whole image f (cond c Folder Plain)) h

-- ## Makers

pub found_with : {B : Type 0} (f : Job → B) (js : List Job) (q : Path) → find (λ (e : Job × B). makes e.0 q) (zip js (map f js)) ≡ option_map (λ j. (j, f j)) (find (λ j. makes j q) js)
found_with f [] q = refl
found_with {B} f (j ∷ js) q = go (makes j q) (found_with f js q)
  where
    go : (b : Bool) → find (λ (e : Job × B). makes e.0 q) (zip js (map f js)) ≡ option_map (λ j. (j, f j)) (find (λ j. makes j q) js) → cond b (Some (j, f j)) (find (λ (e : Job × B). makes e.0 q) (zip js (map f js))) ≡ option_map (λ j. (j, f j)) (cond b (Some j) (find (λ j. makes j q) js))
    go true e = refl
    go false e = e

-- ## One state

-- how a job that runs changes its state, where what is wanted back doesn't matter
running_clean : (b : Bool) (rs : List Reason) (x y : Bool) → unless_clean (cond b Open (by_reasons rs x)) ≡ unless_clean (cond b Open (by_reasons rs y))
running_clean true rs x y = refl
running_clean false (r ∷ rs) x y = refl
running_clean false [] true true = refl
running_clean false [] true false = refl
running_clean false [] false true = refl
running_clean false [] false false = refl

state_open : (o : Option State) (b : Bool) (rs : List Reason) (x y : Bool) → is_open (while_running o (cond b Open (by_reasons rs x))) ≡ is_open (while_running o (cond b Open (by_reasons rs y)))
state_open None b rs x y = table_open b rs x y
state_open (Some (Dirty own)) b rs x y = refl
state_open (Some Open) b rs x y = ap is_open (running_clean b rs x y)
state_open (Some Restore) b rs x y = ap is_open (running_clean b rs x y)
state_open (Some Clean) b rs x y = ap is_open (running_clean b rs x y)

state_dirty : (o : Option State) (b : Bool) (rs : List Reason) (x y : Bool) → is_dirty (while_running o (cond b Open (by_reasons rs x))) ≡ is_dirty (while_running o (cond b Open (by_reasons rs y)))
state_dirty None b rs x y = table_dirty b rs x y
state_dirty (Some (Dirty own)) b rs x y = refl
state_dirty (Some Open) b rs x y = ap is_dirty (running_clean b rs x y)
state_dirty (Some Restore) b rs x y = ap is_dirty (running_clean b rs x y)
state_dirty (Some Clean) b rs x y = ap is_dirty (running_clean b rs x y)

never_clean : (needed : Bool) (s : State) → unless_needed needed (unless_clean s) ≡ unless_clean s
never_clean needed Open = refl
never_clean needed (Dirty reasons) = refl
never_clean needed Restore = refl
never_clean needed Clean = refl

-- one Boolean after the other, so that each case computes
plain_needed : (kept needed read : Bool) → unless_needed (needed && not read) (by_reasons [] (kept && not read)) ≡ by_reasons [] ((kept || needed) && not read)
plain_needed true true true = refl
plain_needed true true false = refl
plain_needed true false true = refl
plain_needed true false false = refl
plain_needed false true true = refl
plain_needed false true false = refl
plain_needed false false true = refl
plain_needed false false false = refl

needed_plain :
    (b : Bool) (rs : List Reason) (kept needed read : Bool) →
    unless_needed (needed && not read) (cond b Open (by_reasons rs (kept && not read))) ≡ cond b Open (by_reasons rs ((kept || needed) && not read))
needed_plain true rs kept needed read = refl
needed_plain false (r ∷ rs) kept needed read = refl
needed_plain false [] kept needed read = plain_needed kept needed read

needed_state :
    (o : Option State) (b : Bool) (rs : List Reason) (kept needed read : Bool) →
    unless_needed (needed && not read) (while_running o (cond b Open (by_reasons rs (kept && not read))))
    ≡ while_running o (cond b Open (by_reasons rs ((kept || needed) && not read)))
needed_state None b rs kept needed read = needed_plain b rs kept needed read
needed_state (Some (Dirty own)) b rs kept needed read = refl
needed_state (Some Open) b rs kept needed read =
    never_clean (needed && not read) (cond b Open (by_reasons rs (kept && not read))) ∙ running_clean b rs (kept && not read) ((kept || needed) && not read)
needed_state (Some Restore) b rs kept needed read =
    never_clean (needed && not read) (cond b Open (by_reasons rs (kept && not read))) ∙ running_clean b rs (kept && not read) ((kept || needed) && not read)
needed_state (Some Clean) b rs kept needed read =
    never_clean (needed && not read) (cond b Open (by_reasons rs (kept && not read))) ∙ running_clean b rs (kept && not read) ((kept || needed) && not read)

wanted_split : (T A K R : Bool) → (T || (A || (K || R))) ≡ ((T || (A || K)) || R)
wanted_split true A K R = refl
wanted_split false true K R = refl
wanted_split false false K R = refl

-- where the job makes an awaited directory, what a job reads is wanted anyway
wanted_fed : (T A t m I R : Bool) → m ≡ true → (R ≡ true → I ≡ true) → ((T || (A || (not (t && not m) && I))) || R) ≡ (T || (A || (not (t && not m) && I)))
wanted_fed true A t m I R h k = refl
wanted_fed false true t m I R h k = refl
wanted_fed false false t false I R h k = absurd (clash_of false h refl)
wanted_fed false false true true true R h k = refl
wanted_fed false false false true true R h k = refl
wanted_fed false false true true false true h k = sym (k refl)
wanted_fed false false true true false false h k = refl
wanted_fed false false false true false true h k = sym (k refl)
wanted_fed false false false true false false h k = refl

module _ (image : Image) (settings : Settings) (progress : Progress) (J : Jobs) (ss : List State) where
  abbrev pub plan : Plan
  plan = with_states J ss

  abbrev pub final : Job → State
  final = state_of image settings progress plan

  abbrev pub first : Job → State
  first = first_state image settings progress plan

  abbrev pub maker : Path → Option Job
  maker q = find (λ j. makes j q) J.jobs

  abbrev pub feeds : Job → Bool
  feeds = makes_awaited image settings progress plan

  -- a job that is to run reads it
  abbrev pub needs : Path → Bool
  needs = is_input plan (λ e. is_to_run e.1)

  -- ## The two passes

  abbrev state_with : Job → Bool → State
  state_with j restores =
      while_running (kept_state image settings progress plan j)
      (cond (is_open_now image settings progress plan j) Open (by_reasons (reasons image settings progress plan j) (restores && not (is_read_now image settings progress plan j))))

  pub opens_alike : (j : Job) → is_open (first j) ≡ is_open (final j)
  opens_alike j =
      let read = not (is_read_now image settings progress plan j) in
      state_open (kept_state image settings progress plan j) (is_open_now image settings progress plan j) (reasons image settings progress plan j)
      (is_kept image settings progress plan j && read) (is_to_restore image settings progress plan j && read)

  pub dirties_alike : (j : Job) → is_dirty (first j) ≡ is_dirty (final j)
  dirties_alike j =
      let read = not (is_read_now image settings progress plan j) in
      state_dirty (kept_state image settings progress plan j) (is_open_now image settings progress plan j) (reasons image settings progress plan j)
      (is_kept image settings progress plan j && read) (is_to_restore image settings progress plan j && read)

  wanted_is : (j : Job) (p : Path) → is_wanted_back image settings progress plan j p ≡ (is_always_wanted image settings progress plan j p || needs p)
  wanted_is j p =
      wanted_split (among settings.targets p) (among (awaited image settings progress plan) p) (not (is_temporary image settings progress plan j p) && is_input plan (λ e. true) p) (needs p)

  -- where a job makes an awaited directory, its first state is its last one
  pub fed_alike : (j : Job) → feeds j ≡ true → first j ≡ final j
  fed_alike j h =
      ap (state_with j) (sym restores)
    where
      reads : (p : Path) → needs p ≡ true → is_input plan (λ e. true) p ≡ true
      reads p n =
          let r = any_in (λ (e : Job × State). among (in_paths e.0.recipe) p && is_to_run e.1) (zip J.jobs ss) n in
          any_from (λ (e : Job × State). among (in_paths e.0.recipe) p && true) (zip J.jobs ss) r.0 r.1
          (and-true (among (in_paths r.0.0.recipe) p) ∙ Rattle.smk_laws_plan.proofs.CurrentLists.and_left (among (in_paths r.0.0.recipe) p) (is_to_run r.0.1) r.2)

      restores : is_to_restore image settings progress plan j ≡ is_kept image settings progress plan j
      restores =
          any_same _ _ (out_paths j.recipe) (λ p i. ap (λ b. not (is_whole image p (kind_in j.recipe p)) && b)
          (wanted_is j p ∙ wanted_fed (among settings.targets p) (among (awaited image settings progress plan) p) (among j.temps p) (feeds j) (is_input plan (λ e. true) p) (needs p) h (reads p)))

  -- what is to be restored: where something is wanted back whatever jobs run, or where jobs that are to run need it
  pub restores_from :
      (j : Job) → Apart (out_paths j.recipe) →
      is_to_restore image settings progress plan j ≡ (is_kept image settings progress plan j || list_any needs (gone_outputs image j))
  restores_from j apart =
      any_same _ (λ p. (not (is_whole image p (kind_in j.recipe p)) && is_always_wanted image settings progress plan j p) || (not (is_whole image p (kind_in j.recipe p)) && needs p)) (out_paths j.recipe)
      (λ p i. ap (λ b. not (is_whole image p (kind_in j.recipe p)) && b) (wanted_is j p) ∙ and-or_distrib_left (not (is_whole image p (kind_in j.recipe p))) (is_always_wanted image settings progress plan j p) (needs p))
      ∙ any_or (λ p. not (is_whole image p (kind_in j.recipe p)) && is_always_wanted image settings progress plan j p) (λ p. not (is_whole image p (kind_in j.recipe p)) && needs p) (out_paths j.recipe)
      ∙ ap (λ b. is_kept image settings progress plan j || b) (gone_tests j apart image needs)

  -- the last state from the first
  pub final_from :
      (j : Job) (needed read : Bool) → Apart (out_paths j.recipe) → needed ≡ list_any needs (gone_outputs image j) → read ≡ is_read_now image settings progress plan j →
      unless_needed (needed && not read) (first j) ≡ final j
  final_from j needed read apart is now =
      ap (λ b. unless_needed (needed && not b) (first j)) now
      ∙ needed_state (kept_state image settings progress plan j) (is_open_now image settings progress plan j) (reasons image settings progress plan j)
      (is_kept image settings progress plan j) needed (is_read_now image settings progress plan j)
      ∙ ap (state_with j) (ap (λ b. is_kept image settings progress plan j || b) is ∙ sym (restores_from j apart))

  -- ## Directories over paths

  module _ (solved : HasStates image settings progress (with_states J ss)) where
    pub maker_is : (q : Path) → maker_of plan q ≡ option_map (λ j. (j, final j)) (maker q)
    maker_is q = ap (λ (xs : List State). find (λ (e : Job × State). makes e.0 q) (zip J.jobs xs)) solved ∙ found_with final J.jobs q

    pub directory_is : (q : Path) → directory_over plan q ≡ none_or_one (option_and_then (λ (j : Job). folder_over j.recipe q) (maker q))
    directory_is q = ap (λ o. flat_map (λ (e : Job × State). none_or_one (folder_over e.0.recipe q)) (none_or_one o)) (maker_is q) ∙ go (maker q)
      where
        end : (o : Option Path) → none_or_one o ++ [] ≡ none_or_one o
        end None = refl
        end (Some f) = refl

        go : (o : Option Job) → flat_map (λ (e : Job × State). none_or_one (folder_over e.0.recipe q)) (none_or_one (option_map (λ j. (j, final j)) o)) ≡ none_or_one (option_and_then (λ (j : Job). folder_over j.recipe q) o)
        go None = refl
        go (Some j) = end (folder_over j.recipe q)

    awaited_in : (k : Job) (d : Path) → In k J.jobs → In d (awaits plan k) → among (awaited image settings progress plan) d ≡ true
    awaited_in k d i h =
        among_once (flat_map (awaits plan) J.jobs ++ flat_map (directory_over plan) settings.targets) d
        ∙ in_among (flat_map (awaits plan) J.jobs ++ flat_map (directory_over plan) settings.targets) d
        (in_left d (flat_map (awaits plan) J.jobs) (flat_map (directory_over plan) settings.targets) (in_flat (awaits plan) J.jobs k d i h))

    pub fed_over : (k j : Job) (q f : Path) → In k J.jobs → In q (in_paths k.recipe ++ gathers_from k) → maker q ≡ Some j → folder_over j.recipe q ≡ Some f → feeds j ≡ true
    fed_over k j q f i h m e =
        any_from (among (awaited image settings progress plan)) (out_paths j.recipe) f (folders_paths j.recipe f (find_in (is_under q) (folders_of j.recipe) f e).0)
        (awaited_in k f i
        (in_right f (gathers_from k) (flat_map (directory_over plan) (in_paths k.recipe ++ gathers_from k))
        (in_flat (directory_over plan) (in_paths k.recipe ++ gathers_from k) q f h
        (subst (In f) (sym (directory_is q ∙ ap (λ o. none_or_one (option_and_then (λ (j : Job). folder_over j.recipe q) o)) m ∙ ap none_or_one e)) (inl refl)))))

    pub fed_gathered : (k j : Job) (d : Path) → In k J.jobs → In d (gathers_from k) → maker d ≡ Some j → feeds j ≡ true
    fed_gathered k j d i h m = go (or_cases (among (out_paths j.recipe) d) (is_some (folder_over j.recipe d)) (find_in (λ j. makes j d) J.jobs j m).1)
      where
        by : (o : Option Path) → folder_over j.recipe d ≡ o → is_some o ≡ true → feeds j ≡ true
        by None e s = absurd (clash_of false s refl)
        by (Some f) e s = fed_over k j d f i (in_right d (in_paths k.recipe) (gathers_from k) h) m e

        go : (among (out_paths j.recipe) d ≡ true) ⊎ (is_some (folder_over j.recipe d) ≡ true) → feeds j ≡ true
        go (inl o) =
            any_from (among (awaited image settings progress plan)) (out_paths j.recipe) d (among_in (out_paths j.recipe) d o)
            (awaited_in k d i (in_left d (gathers_from k) (flat_map (directory_over plan) (in_paths k.recipe ++ gathers_from k)) h))
        go (inr s) = by (folder_over j.recipe d) refl s

    -- a directory over a path is at hand where its job is Clean and it is whole
    pub over_at_hand : JobsApart J.jobs → (j : Job) (q f : Path) → maker q ≡ Some j → folder_over j.recipe q ≡ Some f → is_at_hand image settings progress plan f ≡ (is_clean (final j) && is_whole image f Folder)
    over_at_hand apart j q f m e =
        let here = (find_in (λ j. makes j q) J.jobs j m).0 in
        let own : makes j f ≡ true = or_first (among (out_paths j.recipe) f) (is_some (folder_over j.recipe f)) (in_among (out_paths j.recipe) f (folders_paths j.recipe f (find_in (is_under q) (folders_of j.recipe) f e).0)) in
        let made : maker_of plan f ≡ Some (j, final j) = ap (λ (xs : List State). find (λ (e : Job × State). makes e.0 f) (zip J.jobs xs)) solved ∙ maker_found final J.jobs j f apart here own in
        (λ i. is_none (made i) || test_some (λ (e : Job × State). is_clean e.1 && stands_whole image f e.0) (made i))
        ∙ ap (λ b. is_clean (final j) && b) (directory_whole j (own_apart J.jobs j apart here) image q f e)
