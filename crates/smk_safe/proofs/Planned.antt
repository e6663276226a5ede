-- Turns of the jobs that a plan has to run are ready.
use Rattle.std.proofs.Common.{◌≡◌, ◌≢◌, inl, inr, ℕ, suc, ◌≤◌, Bool, true, false, ◌&&◌, ◌||◌, not, cond, List, [], ◌∷◌, ◌++◌, map, zip, filter, flat_map, find, length, refl, ap, sym, subst, ◌∙◌, arith, Option, Some, None, IsTrue, true≢false}
use Rattle.std.specs.Prelude.{nat_lt, is_none, is_some, bytes_eq, if◌then◌else◌}
use Rattle.std.specs.List.{AllZip, list_any, list_all}
use Rattle.std.proofs.lemmas.Option.{same_Some}
use Rattle.std.specs.Option.{option_and_then}
use Rattle.std.proofs.lemmas.Bool.{cases_Bool}
use Rattle.smk_base.specs.Path.{is_path, own_folder, is_under, is_at_or_under, overlaps}
use Rattle.smk_base.proofs.Places.{same_place, place_itself}
use Rattle.smk_base.proofs.Apart.{path_outside}
use Rattle.smk_base.proofs.Under.{never_both, or_second, both_true}
use Rattle.smk_world.specs.declared.recipe.Kind.TheVariants.{Plain, Folder as FolderKind}
use Rattle.smk_world.specs.declared.recipe.Out.{Out}
use Rattle.smk_world.specs.declared.recipe.OutItem.{OutItem}
use Rattle.smk_world.specs.declared.recipe.Recipe.{Recipe}
use Rattle.smk_world.specs.World.{World, IsFormed, reading, in_paths, out_paths, owned_paths}
use Rattle.smk_world.specs.Calls.{are_apart}
use Rattle.smk_world.specs.Trees.{Path, Each, IsIn, among, outs_of, folders_of, folder_over, is_folder_kind, is_path_text, kind_in}
use Rattle.smk_record.specs.declared.record.Record.{Record}
use Rattle.smk_record.specs.declared.record.Stamp.{Stamp}
use Rattle.smk_record.specs.declared.record.Stamp.TheVariants.{Made}
use Rattle.smk_record.specs.Records.{agree, core, stamped}
use Rattle.smk_pattern.specs.Reading.{fill}
use Rattle.smk_pattern.proofs.Names.{numbered_all}
use Rattle.smk_flow.specs.declared.job.Job.{Job}
use Rattle.smk_flow.specs.declared.job.Gather.{Gather}
use Rattle.smk_flow.specs.declared.rule.FlaggedText.{FlaggedText}
use Rattle.smk_flow.specs.declared.rule.OutPart.{OutPart}
use Rattle.smk_flow.specs.Flows.{Flow, Candidate, logs, outputs, outs}
use Rattle.smk_flow.specs.Jobs.{filled_out, filled_outs}
use Rattle.smk_store.specs.Images.{Image, stands, is_source, is_whole, source_at, sources, record_at, core_at, holds_source}
use Rattle.smk_store.specs.Soundness.{Outside}
use Rattle.smk_store.specs.Trust.{holder, made_stamp, is_marked_but, unmarked_stamp_but, stamp_now_but, content_stamp, source_stamp}
use Rattle.smk_choose.specs.Choose.{choose, Make}
use Rattle.smk_chain.specs.Derive.{Listings, listing, distinct, hinders, has_record_or_mark, job, recipe, same_candidate, sources_of, spots, walk}
use Rattle.smk_laws_protocol.specs.Protocol.{IsProductAt, now}
use Rattle.smk_laws_protocol.specs.Midway.{IsTop}
use Rattle.smk_laws_protocol.proofs.Basics.{each_in, each_of, each_on, none_of, none_by, some_of, any_by}
use Rattle.smk_laws_protocol.proofs.SoundViews.{itself}
use Rattle.smk_trigger.specs.declared.reason.Reason.{Reason}
use Rattle.smk_trigger.specs.declared.reason.Reason.TheVariants.{Upstream}
use Rattle.smk_trigger.specs.declared.reason.State.{State}
use Rattle.smk_trigger.specs.declared.reason.State.TheVariants.{Open, Dirty, Restore, Clean}
use Rattle.smk_trigger.specs.JobStates.{is_open, is_dirty, is_to_run}
use Rattle.smk_trigger.specs.Reasons.{once, own_reasons}
use Rattle.smk_pick.specs.declared.settings.Settings.{Settings}
use Rattle.smk_plan.specs.States.{Plan, IsPlan, awaits, directory_over, is_at_hand, is_ready, none_or_one, nothing_done, makes, maker_of, made_by, staged, test_some, reasons, is_open_now, is_to_restore, is_read_now, is_wanted_back, is_input, awaited, is_restored, state_of, by_reasons, gathers_from}
use Rattle.smk_laws_plan.specs.Current.{IsComplete}
use Rattle.smk_laws_plan.proofs.CurrentApart.{SpotsApart, maker_found, same_trans, spot_free, spots_append, spots_apart}
use Rattle.smk_laws_plan.proofs.CurrentChosen.{chosen_candidate, paths_are}
use Rattle.smk_laws_history.proofs.CurrentComplete.{seen_is_complete}
use Rattle.smk_laws_history.proofs.CurrentEased.{none_restored}
use Rattle.smk_laws_plan.proofs.CurrentFills.{bound_fills_from}
use Rattle.smk_laws_plan.proofs.CurrentLists.{append_nil_left, append_nil_right, and_left, and_right, distinct_in, filter_nil, find_in, flat_in, in_distinct, in_either, in_filter, in_flat, in_left, in_map, in_right, map_in, map_nil, not_true, or_cases, zip_first, zip_in}
use Rattle.smk_laws_plan.proofs.CurrentMeaning.{source_chosen, source_file, source_reads, source_stamp_but}
use Rattle.smk_laws_plan.proofs.CurrentPaths.{among_in, in_among}
use Rattle.smk_laws_plan.proofs.CurrentProducts.{Planned, core_reads, each_stamped, in_plan_here}
use Rattle.smk_laws_plan.proofs.CurrentReach.{choice_known}
use Rattle.smk_laws_history.proofs.CurrentReads.{wanted_comes}
use Rattle.smk_laws_plan.proofs.CurrentSame.{own_calm, held_agrees, in_once_of, kept_record}
use Rattle.smk_laws_plan.proofs.CurrentWalked.{walked_chosen}
use Rattle.smk_laws_history.proofs.HistoryImages.{held_no_source}
use Rattle.smk_laws_plan.proofs.PlanOne.{derived, derived_apart, derived_clear, derived_order, chosen_makes}
use Rattle.smk_laws_plan.proofs.PlanOrder.{InOrder, Served, some_node}
use Rattle.smk_laws_history.proofs.Valid.{records_valid}
use Rattle.smk_run.specs.Stamps.{Serials}
use Rattle.smk_run.specs.Turns.{Turn}
use Rattle.smk_safe.specs.Leaving.{owned, AreInputsApart}
use Rattle.smk_safe.specs.Running.{AreArranged, IsOrderly, LeavesAlone}
use Rattle.smk_safe.proofs.Disjoint.{flipped, places, spots_places}
use Rattle.smk_safe.specs.Ready.{IsThere, FromSource, FromTurn, FromRest, stamp_of, IsRecordedSo, draws, greatest_after, HasItsSerial, IsReady, AreReadyFrom}
use Rattle.smk_safe.specs.Planned.{KeepsSerial, AreTurnsOf, TellsSerials, IsPlain, IsFit, PlannedTurnsAreReady}
use Rattle.smk_safe.proofs.Images.{holder_own}

-- ## Words on states

-- what is neither Open nor Dirty
pub table_calm : (b : Bool) (rs : List Reason) (x : Bool) → is_open (if b then Open else by_reasons rs x) ≡ false → is_dirty (if b then Open else by_reasons rs x) ≡ false → rs ≡ []
table_calm true rs x h k = absurd (true≢false h)
table_calm false [] x h k = refl
table_calm false (r ∷ rs) x h k = absurd (true≢false k)

-- what is to rest isn't to be restored
pub table_rests : (b : Bool) (rs : List Reason) (x : Bool) → is_open (if b then Open else by_reasons rs x) ≡ false → is_to_run (if b then Open else by_reasons rs x) ≡ false → x ≡ false
table_rests true rs x h k = absurd (true≢false h)
table_rests false [] true h k = absurd (true≢false k)
table_rests false [] false h k = refl
table_rests false (r ∷ rs) x h k = absurd (true≢false k)

pub run_or_rest : (s : State) → is_to_run s ≡ false → is_dirty s ≡ false
run_or_rest Open h = refl
run_or_rest (Dirty rs) h = h
run_or_rest Restore h = refl
run_or_rest Clean h = refl

pub none_now : (js : List Job) → list_any (λ (j : Job). false) js ≡ false
none_now [] = refl
none_now (j ∷ js) = none_now js

-- ## Lists

pub find_none : {A : Type 0} (f : A → Bool) (xs : List A) → ((x : A) → IsIn xs x → f x ≡ false) → find f xs ≡ None
find_none f [] h = refl
find_none f (x ∷ xs) h = ap (λ b. cond b (Some x) (find f xs)) (h x (inl refl)) ∙ find_none f xs (λ y i. h y (inr i))

pub zip_at : {A B : Type 0} (f : A → B) (xs : List A) (x : A) → IsIn xs x → IsIn (zip xs (map f xs)) (x, f x)
zip_at f [] x i = absurd i
zip_at f (y ∷ xs) x (inl e) = inl (ap (λ z. (z, f z)) e)
zip_at f (y ∷ xs) x (inr i) = inr (zip_at f xs x i)

pub each_map : {A B : Type 0} (P : B → Type 0) (f : A → B) (xs : List A) (x : A) → Each P (map f xs) → IsIn xs x → P (f x)
each_map P f [] x h i = absurd i
each_map P f (y ∷ xs) x h (inl e) = subst (λ z. P (f z)) (sym e) h.0
each_map P f (y ∷ xs) x h (inr i) = each_map P f xs x h.1 i

-- where each recorded stamp agrees with what its input has now, they agree with the stamps of now one by one
stamps_agree :
    (g : Path → Option Stamp) (ps : List Path) (ss xs : List Stamp) → length ss ≡ length ps → map Some xs ≡ map g ps →
    ((q : Path) (s x : Stamp) → IsIn (zip ps ss) (q, s) → g q ≡ Some x → agree s x ≡ true) → AllZip (λ (recorded now : Stamp). IsTrue (agree recorded now)) ss xs
stamps_agree g [] [] [] e now h = tt
stamps_agree g [] [] (x ∷ xs) e now h = cc
stamps_agree g [] (s ∷ ss) xs e now h = absurd (omega (arith, e))
stamps_agree g (p ∷ ps) [] xs e now h = absurd (omega (arith, e))
stamps_agree g (p ∷ ps) (s ∷ ss) [] e now h = cc
stamps_agree g (p ∷ ps) (s ∷ ss) (x ∷ xs) e now h =
    (h p s x (inl refl) (sym (first now)), stamps_agree g ps ss xs (omega (arith, e)) (rest now) (λ q t y k. h q t y (inr k)))
  where
    first : Some x ∷ map Some xs ≡ g p ∷ map g ps → Some x ≡ g p
    first k = cc

    rest : Some x ∷ map Some xs ≡ g p ∷ map g ps → map Some xs ≡ map g ps
    rest k = cc

-- ## Plain jobs

none_folders : (os : List Out) → Each (λ (out : Out). out.kind ≡ Plain) os → filter (λ (out : Out). is_folder_kind out.kind) os ≡ []
none_folders [] h = refl
none_folders (x ∷ os) h = ap (λ k. cond (is_folder_kind k) (x ∷ filter (λ (out : Out). is_folder_kind out.kind) os) (filter (λ (out : Out). is_folder_kind out.kind) os)) h.0 ∙ none_folders os h.1

pub no_folders : (j : Job) → IsPlain j → folders_of j.recipe ≡ []
no_folders j h = ap (map (λ (out : Out). out.path)) (none_folders (outs_of j.recipe) h.plain)

pub plain_makes : (j : Job) (q : Path) → IsPlain j → makes j q ≡ true → IsIn (out_paths j.recipe) q
plain_makes j q plain h = elim (or_cases (among (out_paths j.recipe) q) (is_some (folder_over j.recipe q)) h) [
  | inl k ↦ among_in (out_paths j.recipe) q k
  | inr k ↦ absurd (true≢false (sym k ∙ ap (λ fs. is_some (find (is_under q) fs)) (no_folders j plain)))
]

pub plain_kind : (r : Recipe) (p : Path) → folders_of r ≡ [] → kind_in r p ≡ Plain
plain_kind r p h = ap (λ fs. if among fs p then FolderKind else Plain) h

-- ## What the jobs make and log

pub all_in : (f : Path → Bool) (ps : List Path) (p : Path) → list_all f ps ≡ true → IsIn ps p → f p ≡ true
all_in f [] p h i = absurd i
all_in f (x ∷ ps) p h (inl e) = ap f e ∙ and_left (f x) (list_all f ps) h
all_in f (x ∷ ps) p h (inr i) = all_in f ps p (and_right (f x) (list_all f ps) h) i

module _ (flow : Flow) (image : Image) (L : Listings) where
  output_text : (c : Candidate) (o : Path) → IsIn (out_paths (recipe flow L c)) o → IsIn (outputs flow c) o
  output_text c o h =
      let a = map_in (λ (x : Out). x.path) (outs_of (recipe flow L c)) o (subst (λ ps. IsIn ps o) (paths_are (recipe flow L c)) h) in
      let b = flat_in (λ (i : OutItem). i.outs) (recipe flow L c).outputs a.0 a.1 in
      let d = map_in (filled_outs c.binding) c.part.outputs b.0 b.1 in
      let f = map_in (filled_out c.binding) d.0.outs a.0 (subst (λ (i : OutItem). IsIn i.outs a.0) d.2 b.2) in
      subst (λ p. IsIn (outputs flow c) p) (sym (a.2 ∙ ap (λ (x : Out). x.path) f.2))
      (in_map (λ (x : FlaggedText). fill c.binding x.text) (outs c.part) f.0 (in_flat (λ (x : OutPart). x.outs) c.part.outputs d.0 f.0 d.1 f.1))

  owned_text : (c : Candidate) (o : Path) → IsIn (out_paths (recipe flow L c) ++ logs flow c) o → IsIn (outputs flow c ++ logs flow c) o
  owned_text c o i = elim (in_either o (out_paths (recipe flow L c)) (logs flow c) i) [
    | inl k ↦ in_left o (outputs flow c) (logs flow c) (output_text c o k)
    | inr k ↦ in_right o (outputs flow c) (logs flow c) k
  ]

  -- what the job of a chosen candidate makes or logs holds no source
  unheld : (p : Path) (c : Candidate) (o : Path) → choose flow (sources_of image) p ≡ Make c → IsIn (out_paths (recipe flow L c) ++ logs flow c) o → holds_source image o ≡ false
  unheld p c o e i =
      not_true (holds_source image o) (and_right (is_path o) (not (holds_source image o))
      (all_in (λ q. is_path q && not (holds_source image q)) (outputs flow c ++ logs flow c) o (chosen_candidate flow (sources_of image) p c e).1 (owned_text c o i)))

-- ## Spots

pub output_in_spots : (j : Job) (p : Path) → IsIn (out_paths j.recipe) p → IsIn (spots j) (p, true)
output_in_spots j p i = in_left (p, true) (map (λ q. (q, true)) (out_paths j.recipe)) (map (λ q. (q, false)) j.logs) (in_map (λ q. (q, true)) (out_paths j.recipe) p i)

pub log_in_spots : (j : Job) (p : Path) → IsIn j.logs p → IsIn (spots j) (p, false)
log_in_spots j p i = in_right (p, false) (map (λ q. (q, true)) (out_paths j.recipe)) (map (λ q. (q, false)) j.logs) (in_map (λ q. (q, false)) j.logs p i)

-- what a job owns is a spot of it
spot_of : (j : Job) (p : Path) → IsIn (owned_paths j.recipe j.logs) p → (b : Bool) × IsIn (spots j) (p, b)
spot_of j p i = elim (in_either p (out_paths j.recipe) j.logs i) [
  | inl k ↦ (true, output_in_spots j p k)
  | inr k ↦ (false, log_in_spots j p k)
]

apart_spots : (ss : List (Path × Bool)) → SpotsApart ss → are_apart (places ss) ≡ true
apart_spots [] h = refl
apart_spots (s ∷ ss) h =
    both_true (not (list_any (overlaps s.0) (places ss))) (are_apart (places ss))
    (ap not (none_by (overlaps s.0) (places ss) (λ x ix. let t = map_in (λ (u : Path × Bool). u.0) ss x ix in subst (λ y. overlaps s.0 y ≡ false) (sym t.2) (flipped t.0.0 s.0 (h.0 t.0 t.1)))))
    (apart_spots ss h.1)

-- two jobs of which one is to run and the other isn't own nothing that overlaps
spots_between : (f : Job → Bool) (js : List Job) (j k : Job) (s u : Path × Bool) → SpotsApart (flat_map spots js) → IsIn js j → IsIn js k → f j ≡ true → f k ≡ false
    → IsIn (spots j) s → IsIn (spots k) u → overlaps u.0 s.0 ≡ false
spots_between f [] j k s u h i l a b x y = absurd i
spots_between f (z ∷ js) j k s u h i l a b x y = go i l (spots_append (spots z) (flat_map spots js) h) (λ r m n. spots_between f js j k s u r m n a b x y)
  where
    go : IsIn (z ∷ js) j → IsIn (z ∷ js) k
        → SpotsApart (spots z) × SpotsApart (flat_map spots js) × ((s t : Path × Bool) → IsIn (spots z) s → IsIn (flat_map spots js) t → overlaps t.0 s.0 ≡ false)
        → (SpotsApart (flat_map spots js) → IsIn js j → IsIn js k → overlaps u.0 s.0 ≡ false) → overlaps u.0 s.0 ≡ false
    go (inl e) (inl d) r again = absurd (true≢false (sym a ∙ ap f (e ∙ sym d) ∙ b))
    go (inl e) (inr n) r again = r.2 s u (subst (λ q. IsIn (spots q) s) e x) (in_flat spots js k u n y)
    go (inr m) (inl d) r again = flipped s.0 u.0 (r.2 u s (subst (λ q. IsIn (spots q) u) d y) (in_flat spots js j s m x))
    go (inr m) (inr n) r again = again r.1 m n

-- ## The plan

pub and_not : (a b : Bool) → b ≡ false → (a && not b) ≡ false → a ≡ false
and_not true b h k = absurd (true≢false (sym (ap not h) ∙ k))
and_not false b h k = refl

pub not_and : (a b : Bool) → b ≡ true → (not a && b) ≡ false → a ≡ true
not_and true b h k = refl
not_and false b h k = absurd (true≢false (sym h ∙ k))

overlaps_back : (p q : Path) → overlaps p q ≡ true → overlaps q p ≡ true
overlaps_back p q h = elim (cases_Bool (overlaps q p)) [ inl e ↦ e | inr e ↦ absurd (never_both (overlaps p q) h (flipped q p e)) ]

pub once_paths : (ps : List Path) (p : Path) → IsIn ps p → IsIn (distinct bytes_eq ps) p
once_paths ps p h = let d = in_distinct bytes_eq place_itself same_trans ps p h in subst (λ z. IsIn (distinct bytes_eq ps) z) (same_place d.0 p d.2) d.1

pub known_of : (a b c : Bool) → (a || b) ≡ true → (a || (b || c)) ≡ true
known_of true b c h = refl
known_of false true c h = refl
known_of false false c h = absurd (true≢false (sym h))

-- an output's spot lets no record or mark of another path be
own_spot : (over noted has same : Bool) → (over && (noted || (has && not same))) ≡ false → over ≡ true → has ≡ true → same ≡ true
own_spot over noted has true h k l = refl
own_spot true true has false h k l = absurd (true≢false h)
own_spot true false true false h k l = absurd (true≢false h)
own_spot true false false false h k l = absurd (true≢false (sym l))
own_spot false noted has false h k l = absurd (true≢false (sym k))

-- a log's spot lets none be
log_spot : (over noted has same : Bool) → (over && (has || (noted && not same))) ≡ false → over ≡ true → has ≡ true → ⊥
log_spot true noted true same h k l = true≢false h
log_spot true noted false same h k l = true≢false (sym l)
log_spot false noted has same h k l = true≢false (sym k)

below_drawn : (top greatest n : ℕ) → top ≤ greatest → n ≡ suc greatest → nat_lt top n ≡ true
below_drawn top greatest n le e = grind (arith, le, e)

not_drawn : (top n : ℕ) → n ≤ top → nat_lt top n ≡ false
not_drawn top n le = grind (arith, le)

-- ## No job is Open

table_shut : (b : Bool) (rs : List Reason) (x : Bool) → b ≡ false → is_open (if b then Open else by_reasons rs x) ≡ false
table_shut true rs x h = absurd (true≢false h)
table_shut false [] true h = refl
table_shut false [] false h = refl
table_shut false (r ∷ rs) x h = refl

or_none : (a b c : Bool) → a ≡ false → b ≡ false → c ≡ false → (a || (b || c)) ≡ false
or_none true b c h k l = absurd (true≢false h)
or_none false true c h k l = absurd (true≢false k)
or_none false false c h k l = l

pub flat_none : {A B : Type 0} (f : A → List B) (xs : List A) → ((x : A) → IsIn xs x → f x ≡ []) → flat_map f xs ≡ []
flat_none f [] h = refl
flat_none f (x ∷ xs) h = ap (λ l. l ++ flat_map f xs) (h x (inl refl)) ∙ flat_none f xs (λ y i. h y (inr i))

module _ (o : Outside) (w : World) (flow : Flow) (settings : Settings) (plan : Plan)
    (formed : IsFormed w) (is_plan : IsPlan flow (now o w) settings nothing_done plan) (plain : Each IsPlain plan.jobs) where
  abbrev state_at : Job → State
  state_at j = state_of (now o w) settings nothing_done plan j

  -- the job of the plan that makes a path
  pub maker_known : (k : Job) (q : Path) → IsIn plan.jobs k → makes k q ≡ true → maker_of plan q ≡ Some (k, state_at k)
  maker_known k q i m =
      ap (λ ss. find (λ (e : Job × State). makes e.0 q) (zip plan.jobs ss)) is_plan.states
      ∙ maker_found state_at plan.jobs k q (derived_apart flow (now o w) plan.lists settings.targets plan.jobs (seen_is_complete o.read w formed) is_plan.derived) i m

  pub no_maker : (q : Path) → ((k : Job) → IsIn plan.jobs k → makes k q ≡ false) → maker_of plan q ≡ None
  no_maker q none =
      ap (λ ss. find (λ (e : Job × State). makes e.0 q) (zip plan.jobs ss)) is_plan.states
      ∙ find_none (λ (e : Job × State). makes e.0 q) (zip plan.jobs (map state_at plan.jobs)) (λ e i. none e.0 (zip_in state_at plan.jobs e i).0)

  -- no plain job makes a directory
  pub no_directory : (q : Path) → directory_over plan q ≡ []
  no_directory q = go (maker_of plan q) refl
    where
      go : (m : Option (Job × State)) → maker_of plan q ≡ m → flat_map (λ (e : Job × State). none_or_one (folder_over e.0.recipe q)) (none_or_one m) ≡ []
      go None e = refl
      go (Some e) is =
          let found = find_in (λ (x : Job × State). makes x.0 q) (staged plan) e is in
          let there = zip_in state_at plan.jobs e (subst (λ ss. IsIn (zip plan.jobs ss) e) is_plan.states found.0) in
          ap (λ fs. none_or_one (find (is_under q) fs) ++ []) (no_folders e.0 (each_in IsPlain plan.jobs e.0 plain there.0))

  shut_now : (seen : List Job) (j : Job) → IsIn plan.jobs j → Served plan.jobs seen j → ((k : Job) → IsIn seen k → IsIn plan.jobs k × (is_open (state_at k) ≡ false)) → is_open (state_at j) ≡ false
  shut_now seen j ij served known =
      let none : gathers_from j ≡ [] = ap (map (λ (g : Gather). g.folder)) (each_in IsPlain plan.jobs j plain ij).gathers_none in
      let awaits_none : awaits plan j ≡ [] =
      ap (λ l. l ++ flat_map (directory_over plan) (in_paths j.recipe ++ gathers_from j)) none ∙ flat_none (directory_over plan) (in_paths j.recipe ++ gathers_from j) (λ q i. no_directory q) in
      table_shut (is_open_now (now o w) settings nothing_done plan j) (reasons (now o w) settings nothing_done plan j) (is_to_restore (now o w) settings nothing_done plan j && not (is_read_now (now o w) settings nothing_done plan j))
      (or_none (list_any (λ d. not (is_at_hand (now o w) settings nothing_done plan d)) (awaits plan j))
      (list_any (λ d. is_ready (now o w) settings nothing_done plan d && is_none (listing plan.lists d)) (gathers_from j))
      (list_any (made_by plan is_open) (in_paths j.recipe))
      (ap (list_any (λ d. not (is_at_hand (now o w) settings nothing_done plan d))) awaits_none)
      (ap (list_any (λ d. is_ready (now o w) settings nothing_done plan d && is_none (listing plan.lists d))) none)
      (none_by (made_by plan is_open) (in_paths j.recipe) (λ q iq. elim (served q (inl iq)) [
        | inl unmade ↦ ap (test_some (λ (e : Job × State). is_open e.1)) (no_maker q unmade)
        | inr h ↦ let k = known h.0 h.1 in ap (test_some (λ (e : Job × State). is_open e.1)) (maker_known h.0 q k.0 h.2) ∙ k.1
      ])))

  shut_from : (js seen : List Job) → InOrder plan.jobs seen js → ((j : Job) → IsIn js j → IsIn plan.jobs j) → ((k : Job) → IsIn seen k → IsIn plan.jobs k × (is_open (state_at k) ≡ false)) → Each (λ s. is_open s ≡ false) (map state_at js)
  shut_from [] seen order sub known = tt
  shut_from (j ∷ js) seen order sub known =
      let ij = sub j (inl refl) in
      let here = shut_now seen j ij order.0 known in (
        here,
        shut_from js (j ∷ seen) order.1 (λ k i. sub k (inr i)) (λ k i. elim i [
          | inl e ↦ (subst (IsIn plan.jobs) (sym e) ij, subst (λ z. is_open (state_at z) ≡ false) (sym e) here)
          | inr l ↦ known k l
        ]),
      )

  pub all_shut : Each (λ s. is_open s ≡ false) plan.states
  all_shut =
      subst (Each (λ s. is_open s ≡ false)) (sym is_plan.states)
      (shut_from plan.jobs [] (derived_order flow (now o w) plan.lists settings.targets plan.jobs (seen_is_complete o.read w formed) is_plan.derived) (λ j i. i) (λ k i. absurd i))

module _ (o : Outside) (w : World) (flow : Flow) (settings : Settings) (plan : Plan) (made : Serials) (top : ℕ) (all : List Turn)
    (formed : IsFormed w) (is_top : IsTop o w top) (is_plan : IsPlan flow (now o w) settings nothing_done plan) (plain : Each IsPlain plan.jobs)
    (fit : Each IsFit all) (tells : TellsSerials (now o w) plan all made) where
  abbrev image : Image
  image = now o w

  abbrev st : Job → State
  st j = state_of image settings nothing_done plan j

  abbrev left : Path → Bool
  left p = is_restored image settings nothing_done plan p

  complete : IsComplete image
  complete = seen_is_complete o.read w formed

  pub planned : Planned flow image settings nothing_done plan
  planned = record { complete = complete; valid = records_valid o.read w.names (λ q. reading (w.nodes q)); derived = is_plan }

  pub maker_is : (k : Job) (q : Path) → IsIn plan.jobs k → makes k q ≡ true → maker_of plan q ≡ Some (k, st k)
  maker_is k q i m = maker_known o w flow settings plan formed is_plan plain k q i m

  pub shut_at : (k : Job) → IsIn plan.jobs k → is_open (st k) ≡ false
  shut_at k i = each_map (λ s. is_open s ≡ false) st plan.jobs k (subst (Each (λ s. is_open s ≡ false)) is_plan.states (all_shut o w flow settings plan formed is_plan plain)) i

  pub none_reasons : (k : Job) → IsIn plan.jobs k → is_dirty (st k) ≡ false → reasons image settings nothing_done plan k ≡ []
  none_reasons k i dirty =
      table_calm (is_open_now image settings nothing_done plan k) (reasons image settings nothing_done plan k) (is_to_restore image settings nothing_done plan k && not (is_read_now image settings nothing_done plan k))
      (shut_at k i) dirty

  -- the record of an output of a job that isn't Dirty
  pub record HasRecord (k : Job) (p : Path) : Type 0 where
    pub r : Record
    pub reads : record_at image p ≡ Some r
    pub same : r.recipe ≡ k.recipe
    pub unmarked : image.marked p ≡ false
    pub steady : (q : Path) (s x : Stamp) → IsIn (in_paths k.recipe) q → stamp_now_but image left q ≡ Some x → IsIn (stamped r) (q, s) → agree s x ≡ true

  pub has_record : (k : Job) (p : Path) → IsIn plan.jobs k → is_dirty (st k) ≡ false → IsIn (out_paths k.recipe) p → HasRecord k p
  has_record k p i dirty ip =
      let kept = map image.kept (out_paths k.recipe) in
      let marked = map (is_marked_but image left) (out_paths k.recipe) in
      let stamps = map (λ q. (q, stamp_now_but image left q)) (in_paths k.recipe) in
      let calm = own_calm k.recipe kept marked stamps (append_nil_left (own_reasons k.recipe kept marked stamps) _ (none_reasons k i dirty)) in
      let found = kept_record image (out_paths k.recipe) p calm.present calm.readable ip in
      let agrees = held_agrees k.recipe kept marked stamps calm found.0 found.2 in
      record {
        r = found.0;
        reads = found.1;
        same = agrees.same;
        unmarked = and_not (image.marked p) (left p) (none_restored image settings nothing_done plan refl p)
            (none_of (λ b. b) marked (is_marked_but image left p) calm.unmarked (in_map (is_marked_but image left) (out_paths k.recipe) p ip));
        steady = λ q s x iq e h. agrees.steady q s x (subst (λ y. IsIn (once stamps) (q, y)) e (in_once_of (stamp_now_but image left) (in_paths k.recipe) q iq)) h;
      }

  pub core_is : (k : Job) (p : Path) (h : HasRecord k p) → core_at image p ≡ Some (core h.r)
  core_is k p h = core_reads image p h.r h.reads

  is_old : (k : Job) (p : Path) (h : HasRecord k p) → h.r.made ≤ top
  is_old k p h = is_top p (core h.r) h.r.made (core_is k p h, inl h.unmarked) (inl refl)

  product_at : (k : Job) (p : Path) (h : HasRecord k p) → IsPlain k → is_whole image p Plain ≡ true → (x : IsProductAt o image p (Made h.r.made)) × (x.speaker ≡ p)
  product_at k p h plain_k whole =
      let reads = core_is k p h in
      let speaks = holder_own image p (core h.r) reads in (
        record {
          speaker = p;
          by = core h.r;
          speaks = record { no_source = held_no_source image p p speaks; holder = speaks; clear = (reads, inl h.unmarked) };
          same = itself h.r.made h.r.made refl;
          whole = ap (is_whole image p) (plain_kind h.r.recipe p (ap folders_of h.same ∙ no_folders k plain_k)) ∙ whole;
          part = inl refl;
        },
        refl,
      )

  pub stamp_made : (k : Job) (p : Path) (h : HasRecord k p) → stamp_now_but image left p ≡ Some (Made h.r.made)
  stamp_made k p h =
      let reads = core_is k p h in
      let speaks = holder_own image p (core h.r) reads in
      ap (λ b. if b then source_stamp (source_at image p) else option_and_then (unmarked_stamp_but image left) (holder image p)) (held_no_source image p p speaks)
      ∙ ap (option_and_then (unmarked_stamp_but image left)) speaks
      ∙ ap (λ b. if b && not (left p) then None else made_stamp (core_at image p)) h.unmarked
      ∙ ap made_stamp reads

  -- an output of a job that rests is whole, where a job that is to run reads it
  pub whole_at : (k j : Job) (q : Path) → IsIn plan.jobs k → IsIn plan.jobs j → is_to_run (st k) ≡ false → is_to_run (st j) ≡ true → IsIn (out_paths k.recipe) q → IsIn (in_paths j.recipe) q
      → is_whole image q Plain ≡ true
  whole_at k j q ik ij rests runs iq reads =
      let quiet =
      table_rests (is_open_now image settings nothing_done plan k) (reasons image settings nothing_done plan k) (is_to_restore image settings nothing_done plan k && not (is_read_now image settings nothing_done plan k))
      (shut_at k ik) rests in
      let not_wanted = and_not (is_to_restore image settings nothing_done plan k) (is_read_now image settings nothing_done plan k) (none_now plan.jobs) quiet in
      let at = none_of (λ p. not (is_whole image p (kind_in k.recipe p)) && is_wanted_back image settings nothing_done plan k p) (out_paths k.recipe) q not_wanted iq in
      let staged_j : IsIn (staged plan) (j, st j) = subst (λ ss. IsIn (zip plan.jobs ss) (j, st j)) (sym is_plan.states) (zip_at st plan.jobs j ij) in
      let input : is_input plan (λ e. is_to_run e.1) q ≡ true =
      any_by (λ (e : Job × State). among (in_paths e.0.recipe) q && is_to_run e.1) (staged plan) (j, st j) staged_j (both_true (among (in_paths j.recipe) q) (is_to_run (st j)) (in_among (in_paths j.recipe) q reads) runs) in
      let wanted : is_wanted_back image settings nothing_done plan k q ≡ true =
      or_second (among settings.targets q) _ (or_second (among (awaited image settings nothing_done plan) q) _ (or_second _ (is_input plan (λ e. is_to_run e.1) q) input)) in
      ap (is_whole image q) (sym (plain_kind k.recipe q (no_folders k (each_in IsPlain plan.jobs k plain ik)))) ∙ not_and (is_whole image q (kind_in k.recipe q)) (is_wanted_back image settings nothing_done plan k q) wanted at

  -- what no job makes and a job reads is a source
  pub source_read : (j : Job) (q : Path) → IsIn plan.jobs j → IsIn (in_paths j.recipe) q → ((k : Job) → IsIn plan.jobs k → makes k q ≡ false) → is_source image q ≡ true
  source_read j q ij iq none =
      let reached = wanted_comes flow o.act (λ k. true) image (λ p t. None) settings nothing_done plan planned j q ij (in_left q (in_paths j.recipe) (gathers_from j) iq) in
      elim (choice_known flow (sources_of image) plan.lists reached.0 q reached.2.calm) [
        | inl e ↦ source_chosen flow (sources_of image) q e
        | inr h ↦ absurd (never_both (makes (job flow plan.lists h.0) q)
            (chosen_makes flow image plan.lists settings.targets plan.jobs complete is_plan.derived q h.0 h.1)
            (none (job flow plan.lists h.0) (in_plan_here flow o.act (λ k. true) image (λ p t. None) settings nothing_done plan (bound_fills_from numbered_all) planned reached.0 q h.0 reached.2 h.1)))
      ]

  -- ## Nothing is in the way

  candidate_of : (j : Job) → IsIn plan.jobs j → (c : Candidate) × (j ≡ job flow plan.lists c) × ((p : Path) × (choose flow (sources_of image) p ≡ Make c))
  candidate_of j i =
      let all_walked = flat_map (walk flow (sources_of image) plan.lists 200) settings.targets in
      let is = derived flow image plan.lists settings.targets plan.jobs complete is_plan.derived in
      let m = map_in (job flow plan.lists) (distinct same_candidate all_walked) j (subst (λ js. IsIn js j) (sym is.1) i) in
      let u = flat_in (walk flow (sources_of image) plan.lists 200) settings.targets m.0 (distinct_in same_candidate all_walked m.0 m.1) in
      (m.0, m.2, walked_chosen flow (sources_of image) plan.lists 200 u.0 m.0 u.2)

  pub no_source : (j : Job) (q : Path) → IsIn plan.jobs j → is_source image q ≡ true → list_any (overlaps q) (owned_paths j.recipe j.logs) ≡ false
  no_source j q i is =
      let c = candidate_of j i in
      let f = source_file image q is in
      let named = in_filter (is_source image) image.names q (among_in image.names q (complete.names q ∙ some_node (image.node q) f.0 f.1)) is in
      none_by (overlaps q) (owned_paths j.recipe j.logs)
      (λ x k. flipped x q (none_of (overlaps x) (sources image) q (unheld flow image plan.lists c.2.0 c.0 x c.2.1 (subst (λ (z : Job). IsIn (owned_paths z.recipe z.logs) x) c.1 k)) named))

  free_spot : (j : Job) (s : Path × Bool) (q : Path) → IsIn plan.jobs j → IsIn (spots j) s → (stands (image.kept q) || image.marked q) ≡ true → hinders image s q ≡ false
  free_spot j s q i k known =
      spot_free image [] (flat_map spots plan.jobs) (derived_clear flow image plan.lists settings.targets plan.jobs complete is_plan.derived) s q (in_flat spots plan.jobs j s i k)
      (among_in image.known q (complete.known q (known_of (stands (image.kept q)) (image.marked q) (image.noted q) known)))

  no_clash : (j : Job) (q : Path) → IsIn plan.jobs j → (stands (image.kept q) || image.marked q) ≡ true → list_any (overlaps q) (owned_paths j.recipe j.logs) ≡ true → IsIn (out_paths j.recipe) q
  no_clash j q i known over =
      let x = some_of (overlaps q) (owned_paths j.recipe j.logs) over in
      let back = overlaps_back q x.0 x.2 in
      elim (in_either x.0 (out_paths j.recipe) j.logs x.1) [
        | inl k ↦ subst (IsIn (out_paths j.recipe))
            (same_place x.0 q (own_spot (overlaps x.0 q) (image.noted q) (has_record_or_mark image q) (bytes_eq x.0 q) (free_spot j (x.0, true) q i (output_in_spots j x.0 k) known) back known)) k
        | inr k ↦ absurd (log_spot (overlaps x.0 q) (image.noted q) (has_record_or_mark image q) (bytes_eq x.0 q) (free_spot j (x.0, false) q i (log_in_spots j x.0 k) known) back known)
      ]

  -- ## One turn

  -- The jobs that came so far are of the plan; of each that is to run there is a turn, with the serial of its records where it isn't Dirty.
  abbrev HaveTurns : List Job → List Turn → Type 0
  HaveTurns seen before = (k : Job) → IsIn seen k
      → IsIn plan.jobs k × (is_to_run (st k) ≡ true → (t : Turn) × IsIn before t × (t.job ≡ k) × (is_dirty (st k) ≡ false → KeepsSerial image t))

  abbrev IsOfPlan : Turn → Type 0
  IsOfPlan t = IsIn plan.jobs t.job × (is_to_run (st t.job) ≡ true)

  module _ (of_plan : Each IsOfPlan all) where
    made_of : (k : Job) (q : Path) → IsIn plan.jobs k → makes k q ≡ true → IsIn (out_paths k.recipe) q
    made_of k q i m = plain_makes k q (each_in IsPlain plan.jobs k plain i) m

    pub clear_of : (k : Job) (q : Path) → IsIn plan.jobs k → is_to_run (st k) ≡ false → IsIn (out_paths k.recipe) q → Each (λ (u : Turn). list_any (overlaps q) (owned u) ≡ false) all
    clear_of k q i rests iq =
        each_of (λ (u : Turn). list_any (overlaps q) (owned u) ≡ false) all (λ u iu.
        let here = each_in IsOfPlan all u of_plan iu in
        none_by (overlaps q) (owned u) (λ x ix.
        let s = spot_of u.job x ix in
        spots_between (λ j. is_to_run (st j)) plan.jobs u.job k (x, s.0) (q, true)
        (spots_apart image [] (flat_map spots plan.jobs) (derived_clear flow image plan.lists settings.targets plan.jobs complete is_plan.derived))
        here.0 i here.1 rests s.1 (output_in_spots k q iq)))

    module _ (seen : List Job) (before : List Turn) (have : HaveTurns seen before) (among_all : (t : Turn) → IsIn before t → IsIn all t) where
      input_there : (j : Job) (q : Path) → IsIn plan.jobs j → is_to_run (st j) ≡ true → Served plan.jobs seen j → IsIn (in_paths j.recipe) q → IsThere o image made before all q
      input_there j q ij runs served iq = elim (served q (inl iq)) [
        | inl none ↦ FromSource (tells.source q (j, ij, iq) (no_maker o w flow settings plan formed is_plan plain q none)) (source_read j q ij iq none)
        | inr h ↦
            let k = h.0 in
            let known = have k h.1 in
            let out = made_of k q known.0 h.2 in
            elim (cases_Bool (is_to_run (st k))) [
              | inl run ↦
                  let t = known.1 run in
                  let in_t : IsIn (out_paths (t.0).job.recipe) q = subst (λ (z : Job). IsIn (out_paths z.recipe) q) (sym t.2) out in
                  FromTurn t.0 t.1 in_t (tells.runs t.0 q (j, ij, iq) (among_all t.0 t.1) in_t)
              | inr rests ↦
                  let hk = has_record k q known.0 (run_or_rest (st k) rests) out in
                  let product = product_at k q hk (each_in IsPlain plan.jobs k plain known.0) (whole_at k j q known.0 ij rests runs out iq) in
                  FromRest hk.r.made product.0 (tells.rests q (k, st k) (core hk.r) (j, ij, iq) (maker_is k q known.0 h.2) rests (core_is k q hk))
                  (subst (λ y. Each (λ (u : Turn). list_any (overlaps y) (owned u) ≡ false) all) (sym product.1) (clear_of k q known.0 rests out))
            ]
      ]

      -- the stamp of an input now, which is the one that the turn gives it
      record HasStampNow (q : Path) : Type 0 where
        pub stamp : Stamp
        pub here : stamp_now_but image left q ≡ Some stamp
        pub given : stamp_of (made q) (source_at image q) ≡ Some stamp

      input_stamp : (j : Job) (q : Path) → IsIn plan.jobs j → is_dirty (st j) ≡ false → Served plan.jobs seen j → IsIn (in_paths j.recipe) q → HasStampNow q
      input_stamp j q ij calm served iq = elim (served q (inl iq)) [
        | inl none ↦
            let is = source_read j q ij iq none in
            let f = source_file image q is in
            record {
              stamp = content_stamp f.0;
              here = source_stamp_but image left q f.0 is f.1;
              given = ap (λ m. stamp_of m (source_at image q)) (tells.source q (j, ij, iq) (no_maker o w flow settings plan formed is_plan plain q none)) ∙ ap source_stamp (source_reads image q f.0 is f.1);
            }
        | inr h ↦
            let k = h.0 in
            let known = have k h.1 in
            let out = made_of k q known.0 h.2 in
            let upstream = append_nil_left (map Upstream (filter (made_by plan is_dirty) (distinct bytes_eq (in_paths j.recipe)))) _ (append_nil_right (own_of j) _ (none_reasons j ij calm)) in
            let not_dirty : made_by plan is_dirty q ≡ false =
            filter_nil (made_by plan is_dirty) (distinct bytes_eq (in_paths j.recipe)) q (map_nil Upstream (filter (made_by plan is_dirty) (distinct bytes_eq (in_paths j.recipe))) upstream) (once_paths (in_paths j.recipe) q iq) in
            let calm_k : is_dirty (st k) ≡ false = sym (ap (test_some (λ (e : Job × State). is_dirty e.1)) (maker_is k q known.0 h.2)) ∙ not_dirty in
            let hk = has_record k q known.0 calm_k out in
            record {
              stamp = Made hk.r.made;
              here = stamp_made k q hk;
              given = ap (λ m. stamp_of m (source_at image q)) (elim (cases_Bool (is_to_run (st k))) [
                | inl run ↦
                    let t = known.1 run in
                    let in_t : IsIn (out_paths (t.0).job.recipe) q = subst (λ (z : Job). IsIn (out_paths z.recipe) q) (sym t.2) out in
                    tells.runs t.0 q (j, ij, iq) (among_all t.0 t.1) in_t ∙ ap Some (t.3 calm_k q (core hk.r) in_t (core_is k q hk))
                | inr rests ↦ tells.rests q (k, st k) (core hk.r) (j, ij, iq) (maker_is k q known.0 h.2) rests (core_is k q hk)
              ]);
            }
      ]
        where
          own_of : (j : Job) → List Reason
          own_of j = own_reasons j.recipe (map image.kept (out_paths j.recipe)) (map (is_marked_but image left) (out_paths j.recipe)) (map (λ q. (q, stamp_now_but image left q)) (in_paths j.recipe))

      recorded : (t : Turn) (p : Path) → IsIn plan.jobs t.job → is_dirty (st t.job) ≡ false → Served plan.jobs seen t.job → KeepsSerial image t → IsIn (out_paths t.job.recipe) p → IsRecordedSo image made t p
      recorded t p i calm served keeps ip =
          let h = has_record t.job p i calm ip in
          let serial : t.made ≡ h.r.made = keeps p (core h.r) ip (core_is t.job p h) in
          let valid = planned.valid p h.r h.reads in
          let own = valid.0 in
          let same = h.same in
          record {
            found = core h.r;
            stands = core_is t.job p h;
            unmarked = h.unmarked;
            again = λ stamps now. record {
              path = own;
              made = sym serial;
              recipe = same;
              members = refl;
              stamps = stamps_agree (λ q. stamp_of (made q) (source_at image q)) (in_paths t.job.recipe) h.r.stamps stamps (each_stamped h.r valid.1 ∙ ap (λ (x : Recipe). length (in_paths x)) same) now
                  (λ q s x k given.
                  let here = zip_first (in_paths t.job.recipe) h.r.stamps q s k in
                  let y = input_stamp t.job q i calm served here in
                  subst (λ z. agree s z ≡ true) (same_Some y.stamp x (sym y.given ∙ given))
                  (h.steady q s y.stamp here y.here (subst (λ (r : Recipe). IsIn (zip (in_paths r) h.r.stamps) (q, s)) (sym same) k)));
            };
          }

      ready_turn : (t : Turn) → IsIn all t → IsOfPlan t → Served plan.jobs seen t.job → IsReady o image made before all t
      ready_turn t it here served =
          let f = each_in IsFit all t fit it in
          record {
            makes = f.makes;
            paths = f.paths;
            no_source = λ q is. no_source t.job q here.0 is;
            no_clash = λ q known over. no_clash t.job q here.0 known over;
            inputs = each_of (IsThere o image made before all) (in_paths t.job.recipe) (λ q iq. input_there t.job q here.0 here.1 served iq);
            records = f.records;
          }

      -- the serials of a Restore, and of a job that draws one
      kept_serial : (t : Turn) (greatest : ℕ) → IsFit t → IsOfPlan t → is_dirty (st t.job) ≡ false → Served plan.jobs seen t.job → KeepsSerial image t
          → HasItsSerial image made top greatest t × (greatest_after top greatest t ≡ greatest)
      kept_serial t greatest f here calm served keeps =
          let old : draws top t ≡ false = first_old (out_paths t.job.recipe) (λ p i. i) f.makes in (
            record {
              drawn = λ d. absurd (true≢false (sym d ∙ old));
              kept = λ d. each_of (IsRecordedSo image made t) (out_paths t.job.recipe) (λ p ip. recorded t p here.0 calm served keeps ip);
            },
            ap (λ b. if b then t.made else greatest) old,
          )
        where
          first_old : (ps : List Path) → ((p : Path) → IsIn ps p → IsIn (out_paths t.job.recipe) p) → ps ≢ [] → draws top t ≡ false
          first_old [] sub some = absurd (some refl)
          first_old (p ∷ ps) sub some =
              let ip = sub p (inl refl) in
              let h = has_record t.job p here.0 calm ip in
              not_drawn top t.made (subst (λ n. n ≤ top) (sym (keeps p (core h.r) ip (core_is t.job p h))) (is_old t.job p h))

    drawn_serial : (t : Turn) (greatest : ℕ) → top ≤ greatest → t.made ≡ suc greatest → HasItsSerial image made top greatest t × (greatest_after top greatest t ≡ suc greatest)
    drawn_serial t greatest le next =
        let draw : draws top t ≡ true = below_drawn top greatest t.made le next in (
          record { drawn = λ d. next; kept = λ d. absurd (true≢false (sym draw ∙ d)) },
          ap (λ b. if b then t.made else greatest) draw ∙ next,
        )

    -- ## All turns

    more_turns : (seen : List Job) (before : List Turn) (j : Job) (t : Turn) → HaveTurns seen before → IsIn plan.jobs j → t.job ≡ j → (is_dirty (st j) ≡ false → KeepsSerial image t) → HaveTurns (j ∷ seen) (before ++ t ∷ [])
    more_turns seen before j t have ij same keeps k (inl e) = (
      subst (IsIn plan.jobs) (sym e) ij,
      λ run. (t, in_right t before (t ∷ []) (inl refl), same ∙ sym e, λ calm. keeps (subst (λ z. is_dirty (st z) ≡ false) e calm)),
    )
    more_turns seen before j t have ij same keeps k (inr i) =
        let h = have k i in
        (h.0, λ run. let u = h.1 run in (u.0, in_left u.0 before (t ∷ []) u.1, u.2, u.3))

    rest_turns : (seen : List Job) (before : List Turn) (j : Job) → HaveTurns seen before → IsIn plan.jobs j → is_to_run (st j) ≡ false → HaveTurns (j ∷ seen) before
    rest_turns seen before j have ij rests k (inl e) = (subst (IsIn plan.jobs) (sym e) ij, λ run. absurd (true≢false (sym run ∙ ap (λ z. is_to_run (st z)) e ∙ rests)))
    rest_turns seen before j have ij rests k (inr i) = have k i

    more_all : (before : List Turn) (t : Turn) → ((u : Turn) → IsIn before u → IsIn all u) → IsIn all t → (u : Turn) → IsIn (before ++ t ∷ []) u → IsIn all u
    more_all before t sub it u i = elim (in_either u before (t ∷ []) i) [
      | inl k ↦ sub u k
      | inr k ↦ elim k [ inl e ↦ subst (IsIn all) (sym e) it | inr never ↦ absurd never ]
    ]

    go : (js seen : List Job) (before ts : List Turn) (greatest : ℕ) → InOrder plan.jobs seen js → ((j : Job) → IsIn js j → IsIn plan.jobs j) → HaveTurns seen before → top ≤ greatest
        → ((u : Turn) → IsIn before u → IsIn all u) → ((u : Turn) → IsIn ts u → IsIn all u) → AreTurnsOf image greatest (zip js (map st js)) ts → AreReadyFrom o image made all top greatest before ts
    go [] seen before [] greatest order sub have le b a h = tt
    go [] seen before (t ∷ ts) greatest order sub have le b a h = absurd h
    go (j ∷ js) seen before [] greatest order sub have le b a h = tt
    go (j ∷ js) seen before (t ∷ ts) greatest order sub have le b a h =
        step (st j) refl h
        (λ rests k. go js (j ∷ seen) before (t ∷ ts) greatest order.1 (λ k i. sub k (inr i)) (rest_turns seen before j have (sub j (inl refl)) rests) le b a k)
        (λ next same keeps le2 k.
        go js (j ∷ seen) (before ++ t ∷ []) ts next order.1 (λ k i. sub k (inr i)) (more_turns seen before j t have (sub j (inl refl)) same keeps) le2 (more_all before t b (a t (inl refl))) (λ u i. a u (inr i)) k)
      where
        here : t.job ≡ j → is_to_run (st j) ≡ true → IsOfPlan t
        here same run = (subst (IsIn plan.jobs) (sym same) (sub j (inl refl)), ap (λ z. is_to_run (st z)) same ∙ run)

        served : t.job ≡ j → Served plan.jobs seen t.job
        served same = subst (Served plan.jobs seen) (sym same) order.0

        ready_at : (same : t.job ≡ j) → is_to_run (st j) ≡ true → IsReady o image made before all t
        ready_at same run = ready_turn seen before have b t (a t (inl refl)) (here same run) (served same)

        step : (s : State) → st j ≡ s → AreTurnsOf image greatest ((j, s) ∷ zip js (map st js)) (t ∷ ts)
            → (is_to_run (st j) ≡ false → AreTurnsOf image greatest (zip js (map st js)) (t ∷ ts) → AreReadyFrom o image made all top greatest before (t ∷ ts))
            → ((next : ℕ) → t.job ≡ j → (is_dirty (st j) ≡ false → KeepsSerial image t) → top ≤ next → AreTurnsOf image next (zip js (map st js)) ts → AreReadyFrom o image made all top next (before ++ t ∷ []) ts)
            → AreReadyFrom o image made all top greatest before (t ∷ ts)
        step Open e h skip take = skip (ap is_to_run e) h
        step Clean e h skip take = skip (ap is_to_run e) h
        step (Dirty rs) e (same, next, later) skip take =
            let serial = drawn_serial t greatest le next in (
              ready_at same (ap is_to_run e),
              serial.0,
              subst (λ g. AreReadyFrom o image made all top g (before ++ t ∷ []) ts) (sym serial.1)
                  (take (suc greatest) same (λ calm. absurd (true≢false (sym (ap is_dirty e) ∙ calm))) (omega (arith, le)) later),
            )
        step Restore e (same, keeps, later) skip take =
            let calm : is_dirty (st t.job) ≡ false = ap (λ z. is_dirty (st z)) same ∙ ap is_dirty e in
            let serial = kept_serial seen before have b t greatest (each_in IsFit all t fit (a t (inl refl))) (here same (ap is_to_run e)) calm (served same) keeps in (
              ready_at same (ap is_to_run e),
              serial.0,
              subst (λ g. AreReadyFrom o image made all top g (before ++ t ∷ []) ts) (sym serial.1) (take greatest same (λ c. keeps) le later),
            )

  -- the turns are of jobs of the plan that are to run
  pub all_planned : (js : List Job) (ts : List Turn) (greatest : ℕ) → ((j : Job) → IsIn js j → IsIn plan.jobs j) → AreTurnsOf image greatest (zip js (map st js)) ts → Each IsOfPlan ts
  all_planned js [] greatest sub h = tt
  all_planned [] (t ∷ ts) greatest sub h = absurd h
  all_planned (j ∷ js) (t ∷ ts) greatest sub h =
      step (st j) refl h (λ k. all_planned js (t ∷ ts) greatest (λ z i. sub z (inr i)) k) (λ next k. all_planned js ts next (λ z i. sub z (inr i)) k)
    where
      step : (s : State) → st j ≡ s → AreTurnsOf image greatest ((j, s) ∷ zip js (map st js)) (t ∷ ts)
          → (AreTurnsOf image greatest (zip js (map st js)) (t ∷ ts) → Each IsOfPlan (t ∷ ts)) → ((next : ℕ) → AreTurnsOf image next (zip js (map st js)) ts → Each IsOfPlan ts) → Each IsOfPlan (t ∷ ts)
      step Open e k skip take = skip k
      step Clean e k skip take = skip k
      step (Dirty rs) e (same, next, later) skip take = ((subst (IsIn plan.jobs) (sym same) (sub j (inl refl)), ap (λ z. is_to_run (st z)) same ∙ ap is_to_run e), take (suc greatest) later)
      step Restore e (same, keeps, later) skip take = ((subst (IsIn plan.jobs) (sym same) (sub j (inl refl)), ap (λ z. is_to_run (st z)) same ∙ ap is_to_run e), take greatest later)

  -- ## Nothing overlaps

  pub user_path : (k : Job) (x : Path) → IsIn plan.jobs k → IsIn (owned_paths k.recipe k.logs) x → is_path x ≡ true
  user_path k x i ix =
      let c = candidate_of k i in
      and_left (is_path x) (not (holds_source image x))
      (all_in (λ q. is_path q && not (holds_source image q)) (outputs flow c.0 ++ logs flow c.0) x (chosen_candidate flow (sources_of image) c.2.0 c.0 c.2.1).1
      (owned_text flow image plan.lists c.0 x (subst (λ (z : Job). IsIn (owned_paths z.recipe z.logs) x) c.1 ix)))

  -- what these jobs own overlaps nothing of those
  abbrev Cross : List Job → List Job → Type 0
  Cross seen js = (k j : Job) (s u : Path × Bool) → IsIn seen k → IsIn js j → IsIn (spots k) s → IsIn (spots j) u → overlaps u.0 s.0 ≡ false

  cross_more : (seen js : List Job) (j : Job) → Cross seen (j ∷ js) → SpotsApart (flat_map spots (j ∷ js)) → Cross (j ∷ seen) js
  cross_more seen js j cross apart k m s u (inl e) im x y = (spots_append (spots j) (flat_map spots js) apart).2 s u (subst (λ z. IsIn (spots z) s) e x) (in_flat spots js m u im y)
  cross_more seen js j cross apart k m s u (inr i) im x y = cross k m s u i (inr im) x y

  -- the jobs of the turns are among these
  all_among : (js : List Job) (ts : List Turn) (greatest : ℕ) → AreTurnsOf image greatest (zip js (map st js)) ts → Each (λ (u : Turn). IsIn js u.job) ts
  all_among js [] greatest h = tt
  all_among [] (t ∷ ts) greatest h = absurd h
  all_among (j ∷ js) (t ∷ ts) greatest h =
      step (st j) h
      (λ k. each_on (λ (u : Turn). IsIn js u.job) (λ (u : Turn). IsIn (j ∷ js) u.job) (λ u i. inr i) (t ∷ ts) (all_among js (t ∷ ts) greatest k))
      (λ next k. each_on (λ (u : Turn). IsIn js u.job) (λ (u : Turn). IsIn (j ∷ js) u.job) (λ u i. inr i) ts (all_among js ts next k))
    where
      step : (s : State) → AreTurnsOf image greatest ((j, s) ∷ zip js (map st js)) (t ∷ ts)
          → (AreTurnsOf image greatest (zip js (map st js)) (t ∷ ts) → Each (λ (u : Turn). IsIn (j ∷ js) u.job) (t ∷ ts))
          → ((next : ℕ) → AreTurnsOf image next (zip js (map st js)) ts → Each (λ (u : Turn). IsIn (j ∷ js) u.job) ts) → Each (λ (u : Turn). IsIn (j ∷ js) u.job) (t ∷ ts)
      step Open k skip take = skip k
      step Clean k skip take = skip k
      step (Dirty rs) (same, next, later) skip take = (inl same, take (suc greatest) later)
      step Restore (same, keeps, later) skip take = (inl same, take greatest later)

  module _ (seen : List Job) (known : (k : Job) → IsIn seen k → IsIn plan.jobs k) where
    -- an input of a job overlaps nothing that a job owns which comes after the one that makes it
    input_apart : (j m : Job) (q : Path) → IsIn plan.jobs j → IsIn plan.jobs m → Served plan.jobs seen j
        → ((k : Job) (s u : Path × Bool) → IsIn seen k → IsIn (spots k) s → IsIn (spots m) u → overlaps u.0 s.0 ≡ false)
        → IsIn (in_paths j.recipe) q → (is_at_or_under q own_folder ≡ false) × (list_any (overlaps q) (owned_paths m.recipe m.logs) ≡ false)
    input_apart j m q ij im served cross iq = elim (served q (inl iq)) [
      | inl none ↦
          let is = source_read j q ij iq none in
          (path_outside q (and_left (is_path q) _ (and_left (is_path_text q) _ is)), no_source m q im is)
      | inr h ↦
          let k = h.0 in
          let ik = known k h.1 in
          let out = plain_makes k q (each_in IsPlain plan.jobs k plain ik) h.2 in (
            path_outside q (user_path k q ik (in_left q (out_paths k.recipe) k.logs out)),
            none_by (overlaps q) (owned_paths m.recipe m.logs) (λ x ix. let s = spot_of m x ix in flipped x q (cross k (q, true) (x, s.0) h.1 (output_in_spots k q out) s.1)),
          )
    ]

  paths_of : (ps : List Path) → Each (λ p. IsTrue (is_path_text p)) ps → Each (λ p. IsTrue (is_path p)) ps
  paths_of ps h = each_on (λ p. IsTrue (is_path_text p)) (λ p. IsTrue (is_path p)) (λ p k. and_left (is_path p) _ k) ps h

  arrange : (js seen : List Job) (ts : List Turn) (greatest : ℕ) → InOrder plan.jobs seen js → ((j : Job) → IsIn js j → IsIn plan.jobs j) → ((k : Job) → IsIn seen k → IsIn plan.jobs k)
      → Cross seen js → SpotsApart (flat_map spots js) → ((u : Turn) → IsIn ts u → IsIn all u) → AreTurnsOf image greatest (zip js (map st js)) ts → AreArranged ts
  arrange js seen [] greatest order sub known cross apart a h = tt
  arrange [] seen (t ∷ ts) greatest order sub known cross apart a h = absurd h
  arrange (j ∷ js) seen (t ∷ ts) greatest order sub known cross apart a h =
      step (st j) h
      (λ k. arrange js (j ∷ seen) (t ∷ ts) greatest order.1 (λ z i. sub z (inr i)) (more_known j known (sub j (inl refl))) (cross_more seen js j cross apart) (parts.1) a k)
      (λ next k. arrange js (j ∷ seen) ts next order.1 (λ z i. sub z (inr i)) (more_known j known (sub j (inl refl))) (cross_more seen js j cross apart) (parts.1) (λ u i. a u (inr i)) k)
    where
      parts : SpotsApart (spots j) × SpotsApart (flat_map spots js) × ((s u : Path × Bool) → IsIn (spots j) s → IsIn (flat_map spots js) u → overlaps u.0 s.0 ≡ false)
      parts = spots_append (spots j) (flat_map spots js) apart

      more_known : (j : Job) → ((k : Job) → IsIn seen k → IsIn plan.jobs k) → IsIn plan.jobs j → (k : Job) → IsIn (j ∷ seen) k → IsIn plan.jobs k
      more_known j known ij k (inl e) = subst (IsIn plan.jobs) (sym e) ij
      more_known j known ij k (inr i) = known k i

      fit_t : IsFit t
      fit_t = each_in IsFit all t fit (a t (inl refl))

      orderly : t.job ≡ j → IsOrderly t
      orderly same = record {
        users = paths_of (owned t) fit_t.paths;
        apart = subst (λ z. are_apart (owned_paths z.recipe z.logs) ≡ true) (sym same) (subst (λ ps. are_apart ps ≡ true) (spots_places j) (apart_spots (spots j) parts.0));
      }

      inputs : t.job ≡ j → AreInputsApart t
      inputs same = subst (λ z. Each (λ p. (is_at_or_under p own_folder ≡ false) × (list_any (overlaps p) (owned_paths z.recipe z.logs) ≡ false)) (in_paths z.recipe)) (sym same)
          (each_of (λ p. (is_at_or_under p own_folder ≡ false) × (list_any (overlaps p) (owned_paths j.recipe j.logs) ≡ false)) (in_paths j.recipe)
          (λ q iq. input_apart seen known j j q (sub j (inl refl)) (sub j (inl refl)) order.0 (λ k s u ik x y. cross k j s u ik (inl refl) x y) iq))

      alone : t.job ≡ j → Each (λ (u : Turn). IsIn js u.job) ts → Each (LeavesAlone t) ts
      alone same later = each_on (λ (u : Turn). IsIn js u.job) (LeavesAlone t) (λ u iu. record {
        inputs = subst (λ z. Each (λ p. list_any (overlaps p) (owned u) ≡ false) (in_paths z.recipe)) (sym same)
            (each_of (λ p. list_any (overlaps p) (owned u) ≡ false) (in_paths j.recipe)
            (λ q iq. (input_apart seen known j u.job q (sub j (inl refl)) (sub u.job (inr iu)) order.0 (λ k s v ik x y. cross k u.job s v ik (inr iu) x y) iq).1));
        own = subst (λ z. Each (λ p. list_any (overlaps p) (owned u) ≡ false) (owned_paths z.recipe z.logs)) (sym same)
            (each_of (λ p. list_any (overlaps p) (owned u) ≡ false) (owned_paths j.recipe j.logs)
            (λ x ix. none_by (overlaps x) (owned u) (λ y iy. let s = spot_of j x ix in let v = spot_of u.job y iy in flipped y x (parts.2 (x, s.0) (y, v.0) s.1 (in_flat spots js u.job (y, v.0) iu v.1)))));
      }) ts later

      step : (s : State) → AreTurnsOf image greatest ((j, s) ∷ zip js (map st js)) (t ∷ ts)
          → (AreTurnsOf image greatest (zip js (map st js)) (t ∷ ts) → AreArranged (t ∷ ts)) → ((next : ℕ) → AreTurnsOf image next (zip js (map st js)) ts → AreArranged ts) → AreArranged (t ∷ ts)
      step Open k skip take = skip k
      step Clean k skip take = skip k
      step (Dirty rs) (same, next, later) skip take = (orderly same, inputs same, alone same (all_among js ts (suc greatest) later), take (suc greatest) later)
      step Restore (same, keeps, later) skip take = (orderly same, inputs same, alone same (all_among js ts greatest later), take greatest later)

pub planned_turns_are_ready : PlannedTurnsAreReady
planned_turns_are_ready o w flow settings plan made top ts formed is_top is_plan plain fit turns tells =
    let order = derived_order flow (now o w) plan.lists settings.targets plan.jobs (seen_is_complete o.read w formed) is_plan.derived in
    let apart = spots_apart (now o w) [] (flat_map spots plan.jobs) (derived_clear flow (now o w) plan.lists settings.targets plan.jobs (seen_is_complete o.read w formed) is_plan.derived) in
    let image = now o w in
    let st : Job → State = λ j. state_of image settings nothing_done plan j in
    let h : AreTurnsOf image top (zip plan.jobs (map st plan.jobs)) ts = subst (λ ss. AreTurnsOf image top (zip plan.jobs ss) ts) is_plan.states turns in
    record {
      arranged = arrange o w flow settings plan made top ts formed is_top is_plan plain fit tells plan.jobs [] ts top order (λ j i. i) (λ k i. absurd i) (λ k j s u i. absurd i) apart (λ u i. i) h;
      ready = go o w flow settings plan made top ts formed is_top is_plan plain fit tells (all_planned o w flow settings plan made top ts formed is_top is_plan plain fit tells plan.jobs ts top (λ j i. i) h)
          plan.jobs [] [] ts top
          order (λ j i. i) (λ k i. absurd i) (omega arith) (λ u i. absurd i) (λ u i. i) h;
    }
