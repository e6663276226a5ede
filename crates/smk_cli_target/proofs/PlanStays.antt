-- A plan stays as it is where records, marks and notes do, files, and what is whole of what its jobs make: folders beside these change nothing.
use Rattle.std.proofs.Common.{◌≡◌, ◌⊎◌, Bool, true, false, ◌&&◌, ◌||◌, not, List, [], ◌∷◌, ◌++◌, map, filter, flat_map, length, refl, sym, ap, subst, ◌∙◌, inl, inr, bytes_eq, Option, Some, None, is_some, true≢false}
use Rattle.std.specs.Prelude.{is_none, nat_lt, if◌then◌else◌}
use Rattle.std.specs.List.{list_any}
use Rattle.std.specs.Option.{option_and_then}
use Rattle.smk_base.specs.Path.{is_under, overlaps}
use Rattle.smk_world.specs.World.{in_paths, out_paths}
use Rattle.smk_world.specs.Trees.{Path, IsIn, among, is_path_text, folder_over, folders_of, kind_in}
use Rattle.smk_world.specs.declared.recipe.Kind.{Kind}
use Rattle.smk_world.specs.declared.recipe.Kind.TheVariants.{Folder as FolderKind}
use Rattle.smk_flow.specs.declared.job.Job.{Job}
use Rattle.smk_flow.specs.Flows.{Flow}
use Rattle.smk_choose.specs.Choose.{Sources}
use Rattle.smk_store.specs.Images.{Image, file_at, source_at, is_file, is_source, is_known, is_covered, is_whole, sources, stands, holds_source}
use Rattle.smk_store.specs.Trust.{holder, is_marked_but, stamp_now_but, source_stamp, unmarked_stamp_but}
use Rattle.smk_chain.specs.Derive.{Listings, Clash, Deep, Derived, TooManyPaths, clashes, derivation, distinct, hinders, is_deep, jobs, listing, outcome, reach, refused, refused_if, sources_of, spots}
use Rattle.smk_trigger.specs.declared.reason.Reason.TheVariants.{Upstream, Forced}
use Rattle.smk_trigger.specs.declared.reason.State.{State}
use Rattle.smk_trigger.specs.declared.reason.State.TheVariants.{Open}
use Rattle.smk_trigger.specs.JobStates.{is_clean, is_dirty, is_open}
use Rattle.smk_trigger.specs.Reasons.{own_reasons, when}
use Rattle.smk_pick.specs.declared.settings.Force.{Force}
use Rattle.smk_pick.specs.declared.settings.Force.TheVariants.{No}
use Rattle.smk_pick.specs.declared.settings.Settings.{Settings}
use Rattle.smk_plan.specs.States.{HasStates, IsPlan, Last, LastPlan, Plan, Progress, Then, awaited, awaits, by_force, by_reasons, files_listed, gathers_from, is_forced, is_open_now, is_read_now, is_ready, is_restored, is_to_restore, is_wanted_back, is_whole_by, job_path, kept_state, made_by, maker_of, makes, new_listings, nothing_done, reasons, staged, stands_whole, state_of, test_some, while_running}
use Rattle.smk_laws_plan.specs.Current.{IsComplete}
use Rattle.smk_laws_plan.proofs.CurrentLists.{and_right, any_from, any_in, append_nil_left, append_nil_right, filter_in, find_in, in_filter, map_nil, or_cases, zip_first}
use Rattle.smk_laws_plan.proofs.CurrentPaths.{among_in}
use Rattle.smk_laws_plan.proofs.CurrentChosen.{folders_paths}
use Rattle.smk_laws_plan.proofs.CurrentMeaning.{source_file}
use Rattle.smk_laws_plan.proofs.CurrentRecipes.{map_same}
use Rattle.smk_laws_plan.proofs.CurrentApart.{spot_free}
use Rattle.smk_laws_plan.proofs.PlanOne.{derived, derived_clear}
use Rattle.smk_laws_plan.proofs.PlanOrder.{some_node}
use Rattle.smk_laws_plan.proofs.PlanStates.{any_same}

-- ## Truth and lists

pub both_ways : (a b : Bool) → (a ≡ true → b ≡ true) → (b ≡ true → a ≡ true) → a ≡ b
both_ways true b h k = sym (h refl)
both_ways false true h k = k refl
both_ways false false h k = refl

pub and_never : (b : Bool) → (b && false) ≡ false
and_never true = refl
and_never false = refl

pub none_kept : {A : Type 0} (f : A → Bool) (xs : List A) → ((x : A) → IsIn xs x → f x ≡ false) → filter f xs ≡ []
none_kept f [] h = refl
none_kept f (x ∷ xs) h = rw (h x (inl refl)) (none_kept f xs (λ y k. h y (inr k)))

-- a record or mark, or a note of another path, is known; and so the other way
known_first : (noted stands marked other : Bool) → (noted || ((stands || marked) && other)) ≡ true → (stands || (marked || noted)) ≡ true
known_first noted true marked other h = refl
known_first noted false true other h = refl
known_first true false false other h = refl
known_first false false false other h = absurd (true≢false (sym h))

known_second : (noted stands marked other : Bool) → ((stands || marked) || (noted && other)) ≡ true → (stands || (marked || noted)) ≡ true
known_second noted true marked other h = refl
known_second noted false true other h = refl
known_second true false false other h = refl
known_second false false false other h = absurd (true≢false (sym h))

-- what is in the way is known
known_hinders : (image : Image) (s : Path × Bool) (q : Path) → hinders image s q ≡ true → is_known image q ≡ true
known_hinders image (p, true) q h = known_first (image.noted q) (stands (image.kept q)) (image.marked q) (not (bytes_eq p q)) (and_right (overlaps p q) _ h)
known_hinders image (p, false) q h = known_second (image.noted q) (stands (image.kept q)) (image.marked q) (not (bytes_eq p q)) (and_right (overlaps p q) _ h)

-- a source is named
named_source : (image : Image) → IsComplete image → (q : Path) → is_source image q ≡ true → IsIn (sources image) q
named_source image complete q is =
    let f = source_file image q is in
    in_filter (is_source image) image.names q (among_in image.names q (complete.names q ∙ some_node (image.node q) f.0 f.1)) is

pub holds_on : (a b : Image) → IsComplete b → ((q : Path) → is_source a q ≡ true → is_source b q ≡ true) → (p : Path) → holds_source a p ≡ true → holds_source b p ≡ true
holds_on a b complete same p h =
    let q = any_in (overlaps p) (sources a) h in
    any_from (overlaps p) (sources b) q.0 (named_source b complete q.0 (same q.0 (filter_in (is_source a) a.names q.0 q.1).1)) q.2

-- nothing clashes where nothing clashed and nothing is in the way
still_clear :
    (a b : Image) (earlier : List Path) (ss : List (Path × Bool)) →
    ((s : Path × Bool) (q : Path) → IsIn ss s → hinders b s q ≡ false) → clashes a earlier ss ≡ [] → clashes b earlier ss ≡ []
still_clear a b earlier [] free clear = refl
still_clear a b earlier (s ∷ ss) free clear =
    let here = map_nil (Clash s.0) (filter (overlaps s.0) earlier ++ filter (hinders a s) a.known) (append_nil_left _ (clashes a (earlier ++ s.0 ∷ []) ss) clear) in
    let later = append_nil_right (map (Clash s.0) (filter (overlaps s.0) earlier ++ filter (hinders a s) a.known)) (clashes a (earlier ++ s.0 ∷ []) ss) clear in
    let none = append_nil_left (filter (overlaps s.0) earlier) (filter (hinders a s) a.known) here in
    let free_here = none_kept (hinders b s) b.known (λ q i. free s q (inl refl)) in
    let rest = still_clear a b (earlier ++ s.0 ∷ []) ss (λ t q i. free t q (inr i)) later in
    λ n. map (Clash s.0) (none n ++ free_here n) ++ rest n

-- ## A derivation

-- Jobs are derived with the same sources, records, marks and notes as they were.
module _ (flow : Flow) (L : Listings) (targets : List Path) (js : List Job) (i x : Image) (complete : IsComplete i) where
  abbrev z : Image
  z = record x { kept = i.kept; marked = i.marked; noted = i.noted }

  module _ (sources_are : sources_of z ≡ sources_of i) (is : derivation flow i L targets ≡ Derived js) where
    clear : clashes i [] (flat_map spots js) ≡ []
    clear = derived_clear flow i L targets js complete is

    none_hinders : (s : Path × Bool) (q : Path) → IsIn (flat_map spots js) s → hinders i s q ≡ false
    none_hinders s q k = go (hinders i s q) refl
      where
        go : (b : Bool) → hinders i s q ≡ b → b ≡ false
        go false e = refl
        go true e = sym e ∙ spot_free i [] (flat_map spots js) clear s q k (among_in i.known q (complete.known q (known_hinders i s q e)))

    same_hinders : (s : Path × Bool) (q : Path) → hinders z s q ≡ hinders i s q
    same_hinders (p, true) q = refl
    same_hinders (p, false) q = refl

    jobs_are : jobs flow (sources_of i) L targets ≡ js
    jobs_are = (derived flow i L targets js complete is).1

    clear_there : clashes z [] (flat_map spots js) ≡ []
    clear_there = still_clear i z [] (flat_map spots js) (λ s q k. same_hinders s q ∙ none_hinders s q k) clear

    clashes_same : (ks : List Job) → ks ≡ js → clashes z [] (flat_map spots ks) ≡ clashes i [] (flat_map spots ks)
    clashes_same ks e = subst (λ ls. clashes z [] (flat_map spots ls) ≡ clashes i [] (flat_map spots ls)) (sym e) (clear_there ∙ sym clear)

    pub derived_again : derivation flow z L targets ≡ Derived js
    derived_again =
        ap (λ (S : Sources).
        outcome
        (refused_if (nat_lt 100000 (length (reach flow S L 400 targets))) TooManyPaths
        ++ (map Deep (filter (is_deep flow S z L targets) targets)
        ++ (flat_map (refused flow S L 201) targets ++ clashes z [] (flat_map spots (jobs flow S L targets)))))
        (jobs flow S L targets)) sources_are
        ∙ ap (λ c.
        outcome
        (refused_if (nat_lt 100000 (length (reach flow (sources_of i) L 400 targets))) TooManyPaths
        ++ (map Deep (filter (is_deep flow (sources_of i) i L targets) targets)
        ++ (flat_map (refused flow (sources_of i) L 201) targets ++ c)))
        (jobs flow (sources_of i) L targets)) (clashes_same (jobs flow (sources_of i) L targets) jobs_are)
        ∙ is

-- ## The plan

-- whole as this output, or as a member of this directory
abbrev stands_by : Image → Path → Job → Option Path → Bool
stands_by image q k o = is_whole_by image q (kind_in k.recipe q) o

-- whole as what this Clean job makes
abbrev ready_by : Image → Path → Option (Job × State) → Bool
ready_by image q m = test_some (λ (e : Job × State). is_clean e.1 && stands_whole image q e.0) m

-- the jobs with these first outputs have begun, and these run
abbrev pub doing : List (Path × State) → List Path → Progress
doing running begun = record { begun = begun; running = running }

-- the jobs with these first outputs have begun, and no child runs
abbrev pub idle : List Path → Progress
idle begun = doing [] begun

module _ (flow : Flow) (settings : Settings) (plan : Plan) (i : Image) where
  -- What another image has as this one: files, the stamps of sources, and what is whole of what these jobs make.
  pub record IsLike (x : Image) : Type 0 where
    pub complete : IsComplete x
    pub file : (p : Path) → is_file x p ≡ is_file i p
    pub source : (p : Path) → is_source x p ≡ is_source i p
    pub stamp : (p : Path) → source_stamp (source_at x p) ≡ source_stamp (source_at i p)
    pub whole : (k : Job) (p : Path) (kind : Kind) → IsIn plan.jobs k → IsIn (out_paths k.recipe) p → is_whole x p kind ≡ is_whole i p kind

  -- Which jobs run is the same, and force tells the same of which have begun.
  module _
      (complete : IsComplete i) (running : List (Path × State)) (begun since : List Path)
      (forced_same : (k : Job) → is_forced i settings (doing running since) plan k ≡ is_forced i settings (doing running begun) plan k)
      (is : IsPlan flow i settings (doing running begun) plan) (x : Image) where
    abbrev was : Progress
    was = doing running begun

    abbrev now : Progress
    now = doing running since

    abbrev y : Image
    y = record x { kept = i.kept; marked = i.marked; noted = i.noted }

    module _ (like : IsLike y) where
      -- ## Sources

      holds_same : (p : Path) → holds_source y p ≡ holds_source i p
      holds_same p =
          both_ways (holds_source y p) (holds_source i p) (holds_on y i complete (λ q h. sym (like.source q) ∙ h) p)
          (holds_on i y like.complete (λ q h. like.source q ∙ h) p)

      sources_same : sources_of y ≡ sources_of i
      sources_same = λ n. record { is = λ p. like.source p n; holds = λ p. holds_same p n }

      derived_same : derivation flow y plan.lists settings.targets ≡ Derived plan.jobs
      derived_same = derived_again flow plan.lists settings.targets plan.jobs i x complete sources_same is.derived

      -- ## What is ready

      stands_same : (k : Job) (q : Path) → IsIn plan.jobs k → makes k q ≡ true → stands_whole y q k ≡ stands_whole i q k
      stands_same k q ik m = go (folder_over k.recipe q) refl
        where
          out : (o : Option Path) → folder_over k.recipe q ≡ o → is_some o ≡ false → IsIn (out_paths k.recipe) q
          out o e none = by (or_cases (among (out_paths k.recipe) q) (is_some (folder_over k.recipe q)) m)
            where
              by : (among (out_paths k.recipe) q ≡ true) ⊎ (is_some (folder_over k.recipe q) ≡ true) → IsIn (out_paths k.recipe) q
              by (inl a) = among_in (out_paths k.recipe) q a
              by (inr s) = absurd (true≢false (sym s ∙ (ap is_some e ∙ none)))

          go : (o : Option Path) → folder_over k.recipe q ≡ o → stands_whole y q k ≡ stands_whole i q k
          go None e =
              ap (stands_by y q k) e ∙ (like.whole k q (kind_in k.recipe q) ik (out None e refl) ∙ sym (ap (stands_by i q k) e))
          go (Some d) e =
              let found = find_in (is_under q) (folders_of k.recipe) d e in
              let whole = like.whole k d FolderKind ik (folders_paths k.recipe d found.0) in
              ap (stands_by y q k) e ∙ ((λ n. whole n && like.file q n) ∙ sym (ap (stands_by i q k) e))

      ready_same : (q : Path) → is_ready y settings now plan q ≡ is_ready i settings was plan q
      ready_same q = go (maker_of plan q) refl
        where
          go : (m : Option (Job × State)) → maker_of plan q ≡ m → ready_by y q m ≡ ready_by i q m
          go None e = refl
          go (Some (k, s)) e =
              let found = find_in (λ (x : Job × State). makes x.0 q) (staged plan) (k, s) e in
              ap (λ b. is_clean s && b) (stands_same k q (zip_first plan.jobs plan.states k s found.0) found.1)

      -- ## The table of states

      open_same : (k : Job) → is_open_now y settings now plan k ≡ is_open_now i settings was plan k
      open_same k =
          λ n.
          list_any (λ d. not (is_none (maker_of plan d) || ready_same d n)) (awaits plan k)
          || (list_any (λ d. ready_same d n && is_none (listing plan.lists d)) (gathers_from k) || list_any (made_by plan is_open) (in_paths k.recipe))

      stamp_same : (left : Path → Bool) (q : Path) → stamp_now_but y left q ≡ stamp_now_but i left q
      stamp_same left q = λ n. if like.source q n then like.stamp q n else option_and_then (unmarked_stamp_but i left) (holder i q)

      abbrev left_out : Path → Bool
      left_out p = is_restored i settings was plan p

      reasons_same : (k : Job) → reasons y settings now plan k ≡ reasons i settings was plan k
      reasons_same k =
          λ n.
          own_reasons k.recipe (map i.kept (out_paths k.recipe)) (map (is_marked_but i left_out) (out_paths k.recipe))
          (map (λ q. (q, stamp_same left_out q n)) (in_paths k.recipe))
          ++ (map Upstream (filter (made_by plan is_dirty) (distinct bytes_eq (in_paths k.recipe))) ++ when (forced_same k n) Forced)

      restore_same : (k : Job) → IsIn plan.jobs k → is_to_restore y settings now plan k ≡ is_to_restore i settings was plan k
      restore_same k ik =
          any_same (λ p. not (is_whole y p (kind_in k.recipe p)) && is_wanted_back y settings now plan k p)
          (λ p. not (is_whole i p (kind_in k.recipe p)) && is_wanted_back i settings was plan k p) (out_paths k.recipe)
          (λ p o. ap (λ b. not b && is_wanted_back i settings was plan k p) (like.whole k p (kind_in k.recipe p) ik o))

      state_same : (k : Job) → IsIn plan.jobs k → state_of y settings now plan k ≡ state_of i settings was plan k
      state_same k ik =
          λ n.
          while_running (kept_state i settings was plan k)
          (if open_same k n then Open else by_reasons (reasons_same k n) (restore_same k ik n && not (is_read_now i settings was plan k)))

      states_same : HasStates y settings now plan
      states_same =
          is.states
          ∙ map_same (state_of i settings was plan) (state_of y settings now plan) plan.jobs (λ k ik. sym (state_same k ik))

      listings_same : new_listings y settings now plan ≡ new_listings i settings was plan
      listings_same =
          λ n.
          map (λ d. record { folder = d; files = files_listed i d })
          (filter (λ d. ready_same d n && is_none (listing plan.lists d)) (awaited i settings was plan))

      stays : IsPlan flow y settings now plan
      stays = record { derived = derived_same; states = states_same }

    -- it is the plan of that image too, and the same becomes known there
    pub plan_like : i.kept ≡ x.kept → i.marked ≡ x.marked → i.noted ≡ x.noted → IsLike x → IsPlan flow x settings now plan
    plan_like kept marked noted =
        subst (λ (z : Image). IsLike z → IsPlan flow z settings now plan) (λ n. record x { kept = kept n; marked = marked n; noted = noted n }) stays

    pub listings_like : i.kept ≡ x.kept → i.marked ≡ x.marked → i.noted ≡ x.noted → IsLike x → new_listings x settings now plan ≡ new_listings i settings was plan
    listings_like kept marked noted =
        subst (λ (z : Image). IsLike z → new_listings z settings now plan ≡ new_listings i settings was plan)
        (λ n. record x { kept = kept n; marked = marked n; noted = noted n }) listings_same

  -- ## At rest, and unforced

  -- What another image has as this one, where all files are the same.
  pub record IsAlike (x : Image) : Type 0 where
    pub complete : IsComplete x
    pub files : (p : Path) → file_at x p ≡ file_at i p
    pub whole : (k : Job) (p : Path) (kind : Kind) → IsIn plan.jobs k → IsIn (out_paths k.recipe) p → is_whole x p kind ≡ is_whole i p kind

  module _ (x : Image) where
    abbrev so : Image
    so = record x { kept = i.kept; marked = i.marked; noted = i.noted }

    same_files : IsAlike so → IsLike so
    same_files alike =
        let source : (p : Path) → is_source so p ≡ is_source i p = λ p. ap (λ f. is_path_text p && (is_some f && not (is_covered i p))) (alike.files p) in
        record {
          complete = alike.complete;
          file = λ p. ap is_some (alike.files p);
          source = source;
          stamp = λ p n. source_stamp (if source p n then alike.files p n else None);
          whole = alike.whole;
        }

    pub is_like : i.kept ≡ x.kept → i.marked ≡ x.marked → i.noted ≡ x.noted → IsAlike x → IsLike x
    is_like kept marked noted = subst (λ (v : Image). IsAlike v → IsLike v) (λ n. record x { kept = kept n; marked = marked n; noted = noted n }) same_files

  module _ (complete : IsComplete i) (unforced : settings.force ≡ No) (begun : List Path) (is : IsPlan flow i settings (idle begun) plan) (x : Image) where
    never_forced : (a b : Bool) → (a && by_force settings.force b) ≡ false
    never_forced a b = ap (λ (f : Force). a && by_force f b) unforced ∙ and_never a

    none_forced : (k : Job) → is_forced i settings nothing_done plan k ≡ is_forced i settings (idle begun) plan k
    none_forced k =
        never_forced (not (among [] (job_path k))) (list_any (makes k) settings.targets)
        ∙ sym (never_forced (not (among begun (job_path k))) (list_any (makes k) settings.targets))

    -- it is the plan of that image too, whichever jobs have begun;
    pub plan_stays : i.kept ≡ x.kept → i.marked ≡ x.marked → i.noted ≡ x.noted → IsAlike x → IsPlan flow x settings nothing_done plan
    plan_stays kept marked noted alike = plan_like complete [] begun [] none_forced is x kept marked noted (is_like x kept marked noted alike)

    -- and where it was the last one it is
    pub last_stays :
        i.kept ≡ x.kept → i.marked ≡ x.marked → i.noted ≡ x.noted → new_listings i settings (idle begun) plan ≡ [] → IsAlike x →
        new_listings x settings nothing_done plan ≡ []
    last_stays kept marked noted last alike =
        listings_like complete [] begun [] none_forced is x kept marked noted (is_like x kept marked noted alike) ∙ last

-- Images that are like one another have the same chains of plans, while the same jobs run and have begun.
pub chain_like :
    (flow : Flow) (settings : Settings) (progress : Progress) (i x : Image) → IsComplete i → i.kept ≡ x.kept → i.marked ≡ x.marked → i.noted ≡ x.noted →
    ((plan : Plan) → IsLike flow settings plan i x) →
    (L : Listings) (plan : Plan) → LastPlan flow i settings progress L plan → LastPlan flow x settings progress L plan
chain_like flow settings progress i x complete kept marked noted like _ _ (Last p is done) =
    Last p (plan_like flow settings p i complete progress.running progress.begun progress.begun (λ k. refl) is x kept marked noted (like p))
    (listings_like flow settings p i complete progress.running progress.begun progress.begun (λ k. refl) is x kept marked noted (like p) ∙ done)
chain_like flow settings progress i x complete kept marked noted like _ _ (Then p last is more rest) =
    let same : new_listings x settings progress p ≡ new_listings i settings progress p =
    listings_like flow settings p i complete progress.running progress.begun progress.begun (λ k. refl) is x kept marked noted (like p) in
    Then p last (plan_like flow settings p i complete progress.running progress.begun progress.begun (λ k. refl) is x kept marked noted (like p))
    (λ none. more (sym same ∙ none))
    (subst (λ (new : Listings). LastPlan flow x settings progress (p.lists ++ new) last) (sym same)
    (chain_like flow settings progress i x complete kept marked noted like (p.lists ++ new_listings i settings progress p) last rest))

-- Which jobs have begun tells on no plan of a chain.
pub chain_again :
    (flow : Flow) (settings : Settings) (i : Image) (begun : List Path) → IsComplete i → settings.force ≡ No →
    (L : Listings) (plan : Plan) → LastPlan flow i settings (idle begun) L plan → LastPlan flow i settings nothing_done L plan
chain_again flow settings i begun complete unforced _ _ (Last p is done) =
    Last p
    (plan_stays flow settings p i complete unforced begun is i refl refl refl (record { complete = complete; files = λ q. refl; whole = λ k q kind ik o. refl })) done
chain_again flow settings i begun complete unforced _ _ (Then p last is more rest) =
    Then p last
    (plan_stays flow settings p i complete unforced begun is i refl refl refl (record { complete = complete; files = λ q. refl; whole = λ k q kind ik o. refl }))
    more (chain_again flow settings i begun complete unforced (p.lists ++ new_listings i settings (idle begun) p) last rest)
