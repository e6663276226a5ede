-- The table of states, as equations on a function from jobs to states: what it gives from two such functions agrees on ever more jobs.
use Rattle.std.proofs.Common.{◌≡◌, ◌⊎◌, Bool, true, false, not, cond, ◌&&◌, ◌||◌, List, [], ◌∷◌, ◌++◌, map, filter, flat_map, find, zip, refl, sym, ap, subst, inl, inr, ◌∙◌, Option, Some, None, option_map, is_some, is_none, true≢false}
use Rattle.std.specs.List.{list_any}
use Rattle.std.specs.Prelude.{bytes_eq}
use Rattle.smk_base.specs.Path.{is_under}
use Rattle.smk_world.specs.World.{in_paths, out_paths}
use Rattle.smk_world.specs.Trees.{Path, among, folder_over, folders_of, kind_in}
use Rattle.smk_flow.specs.declared.job.Job.{Job}
use Rattle.smk_store.specs.Images.{Image, is_whole}
use Rattle.smk_chain.specs.Derive.{Listings, listing, distinct}
use Rattle.smk_trigger.specs.declared.reason.Reason.{Reason}
use Rattle.smk_trigger.specs.declared.reason.Reason.TheVariants.{Upstream}
use Rattle.smk_trigger.specs.declared.reason.State.{State}
use Rattle.smk_trigger.specs.declared.reason.State.TheVariants.{Open, Dirty, Restore, Clean}
use Rattle.smk_trigger.specs.JobStates.{is_open, is_dirty, is_clean, is_to_run}
use Rattle.smk_trigger.specs.Reasons.{own_reasons, when}
use Rattle.smk_store.specs.Trust.{is_marked_but, stamp_now_but}
use Rattle.smk_pick.specs.declared.settings.Settings.{Settings}
use Rattle.smk_plan.specs.States.{Plan, Progress, makes, gathers_from, stands_whole, by_reasons, while_running, test_some, none_or_one, maker_of, made_by, directory_over, awaits, is_input, is_ready, is_at_hand, awaited, is_open_now, is_forced, reasons, is_wanted_back, is_to_restore, kept_state, is_restored, is_read_now, state_of}
use Rattle.smk_laws_plan.proofs.CurrentStates.{unless_open, unless_dirty}
use Rattle.smk_laws_plan.proofs.CurrentLists.{In, in_left, in_right, in_either, in_flat, flat_in, distinct_in, any_in, any_from, or_cases, or_first, and_left, and_both, find_in}
use Rattle.smk_laws_plan.proofs.CurrentPaths.{among_in, in_among}
use Rattle.smk_laws_plan.proofs.CurrentApart.{JobsApart, maker_found}
use Rattle.smk_laws_plan.proofs.CurrentChosen.{folders_paths}
use Rattle.smk_laws_plan.proofs.CurrentProducts.{some_of, once_paths}
use Rattle.smk_laws_plan.proofs.PlanOrder.{Within, Reads, Served}

-- ## Lists and tests

pub any_same : {A : Type 0} (f g : A → Bool) (xs : List A) → ((x : A) → In x xs → f x ≡ g x) → list_any f xs ≡ list_any g xs
any_same f g [] h = refl
any_same f g (x ∷ xs) h = let e = h x (inl refl) in let r = any_same f g xs (λ y k. h y (inr k)) in λ i. e i || r i

pub filter_same : {A : Type 0} (f g : A → Bool) (xs : List A) → ((x : A) → In x xs → f x ≡ g x) → filter f xs ≡ filter g xs
filter_same f g [] h = refl
filter_same f g (x ∷ xs) h =
    let e = h x (inl refl) in let r = filter_same f g xs (λ y k. h y (inr k)) in λ i. cond (e i) (x ∷ r i) (r i)

pub any_zip : {A B : Type 0} (F : A → B) (t : A × B → Bool) (xs : List A) → list_any t (zip xs (map F xs)) ≡ list_any (λ x. t (x, F x)) xs
any_zip F t [] = refl
any_zip F t (x ∷ xs) = ap (λ b. t (x, F x) || b) (any_zip F t xs)

any_weaker : {A : Type 0} (f g : A → Bool) (xs : List A) → ((x : A) → f x ≡ true → g x ≡ true) → list_any f xs ≡ true → list_any g xs ≡ true
any_weaker f g xs h k = let r = any_in f xs k in any_from g xs r.0 r.1 (h r.0 r.2)

none_found :
    (F : Job → State) (js : List Job) (q : Path) → ((j : Job) → In j js → makes j q ≡ false) →
    find (λ (e : Job × State). makes e.0 q) (zip js (map F js)) ≡ None
none_found F [] q h = refl
none_found F (j ∷ js) q h =
    ap (λ b. cond b (Some (j, F j)) (find (λ (e : Job × State). makes e.0 q) (zip js (map F js)))) (h j (inl refl))
    ∙ none_found F js q (λ k i. h k (inr i))

-- the job that is found doesn't depend on the states
abbrev first_part : Option (Job × State) → Option Job
first_part o = option_map (λ (e : Job × State). e.0) o

same_found :
    (F G : Job → State) (js : List Job) (q : Path) →
    first_part (find (λ (e : Job × State). makes e.0 q) (zip js (map F js))) ≡ first_part (find (λ (e : Job × State). makes e.0 q) (zip js (map G js)))
same_found F G [] q = refl
same_found F G (j ∷ js) q = go (makes j q) (same_found F G js q)
  where
    go : (b : Bool) → first_part (find (λ (e : Job × State). makes e.0 q) (zip js (map F js))) ≡ first_part (find (λ (e : Job × State). makes e.0 q) (zip js (map G js))) → first_part (cond b (Some (j, F j)) (find (λ (e : Job × State). makes e.0 q) (zip js (map F js)))) ≡ first_part (cond b (Some (j, G j)) (find (λ (e : Job × State). makes e.0 q) (zip js (map G js))))
    go true ih = refl
    go false ih = ih

-- ## One state

pub table_open : (b : Bool) (rs : List Reason) (x y : Bool) → is_open (cond b Open (by_reasons rs x)) ≡ is_open (cond b Open (by_reasons rs y))
table_open true rs x y = refl
table_open false (r ∷ rs) x y = refl
table_open false [] true true = refl
table_open false [] true false = refl
table_open false [] false true = refl
table_open false [] false false = refl

pub table_dirty : (b : Bool) (rs : List Reason) (x y : Bool) → is_dirty (cond b Open (by_reasons rs x)) ≡ is_dirty (cond b Open (by_reasons rs y))
table_dirty true rs x y = refl
table_dirty false (r ∷ rs) x y = refl
table_dirty false [] true true = refl
table_dirty false [] true false = refl
table_dirty false [] false true = refl
table_dirty false [] false false = refl

running_open : (o : Option State) (s t : State) → is_open s ≡ is_open t → is_open (while_running o s) ≡ is_open (while_running o t)
running_open None s t h = h
running_open (Some (Dirty rs)) s t h = refl
running_open (Some Open) s t h = unless_open s ∙ (h ∙ sym (unless_open t))
running_open (Some Restore) s t h = unless_open s ∙ (h ∙ sym (unless_open t))
running_open (Some Clean) s t h = unless_open s ∙ (h ∙ sym (unless_open t))

running_dirty : (o : Option State) (s t : State) → is_dirty s ≡ is_dirty t → is_dirty (while_running o s) ≡ is_dirty (while_running o t)
running_dirty None s t h = h
running_dirty (Some (Dirty rs)) s t h = refl
running_dirty (Some Open) s t h = unless_dirty s ∙ (h ∙ sym (unless_dirty t))
running_dirty (Some Restore) s t h = unless_dirty s ∙ (h ∙ sym (unless_dirty t))
running_dirty (Some Clean) s t h = unless_dirty s ∙ (h ∙ sym (unless_dirty t))

same_open :
    (o : Option State) (b : Bool) (rs : List Reason) (x y : Bool) →
    is_open (while_running o (cond b Open (by_reasons rs x))) ≡ is_open (while_running o (cond b Open (by_reasons rs y)))
same_open o b rs x y = running_open o (cond b Open (by_reasons rs x)) (cond b Open (by_reasons rs y)) (table_open b rs x y)

same_dirty :
    (o : Option State) (b : Bool) (rs : List Reason) (x y : Bool) →
    is_dirty (while_running o (cond b Open (by_reasons rs x))) ≡ is_dirty (while_running o (cond b Open (by_reasons rs y)))
same_dirty o b rs x y = running_dirty o (cond b Open (by_reasons rs x)) (cond b Open (by_reasons rs y)) (table_dirty b rs x y)

-- where an output isn't temporary, what any job reads is wanted back anyway
absorbed :
    (t m u v w : Bool) → m ≡ true → (v ≡ true → u ≡ true) → (w ≡ true → u ≡ true) →
    ((not (t && not m) && u) || v) ≡ ((not (t && not m) && u) || w)
absorbed t false u v w h k l = absurd (true≢false (sym h))
absorbed true true true v w h k l = refl
absorbed false true true v w h k l = refl
absorbed true true false true w h k l = absurd (true≢false (sym (k refl)))
absorbed true true false false true h k l = absurd (true≢false (sym (l refl)))
absorbed true true false false false h k l = refl
absorbed false true false true w h k l = absurd (true≢false (sym (k refl)))
absorbed false true false false true h k l = absurd (true≢false (sym (l refl)))
absorbed false true false false false h k l = refl

module _ (image : Image) (settings : Settings) (progress : Progress) (L : Listings) (js : List Job) where
  abbrev pub plan_of : (Job → State) → Plan
  plan_of F = record { lists = L; jobs = js; states = map F js }

  -- what the table gives from the states F
  abbrev pub next : (Job → State) → Job → State
  next F j = state_of image settings progress (plan_of F) j

  -- ## What doesn't depend on states

  abbrev directory_by : Option Job → Path → List Path
  directory_by o q = flat_map (λ (j : Job). none_or_one (folder_over j.recipe q)) (none_or_one o)

  directory_is : (F : Job → State) (q : Path) → directory_over (plan_of F) q ≡ directory_by (first_part (maker_of (plan_of F) q)) q
  directory_is F q = go (maker_of (plan_of F) q)
    where
      go : (o : Option (Job × State)) → flat_map (λ (e : Job × State). none_or_one (folder_over e.0.recipe q)) (none_or_one o) ≡ directory_by (first_part o) q
      go None = refl
      go (Some e) = refl

  directories_same : (F G : Job → State) → directory_over (plan_of F) ≡ directory_over (plan_of G)
  directories_same F G =
      let each : (q : Path) → directory_over (plan_of F) q ≡ directory_over (plan_of G) q =
      λ q. directory_is F q ∙ (ap (λ o. directory_by o q) (same_found F G js q) ∙ sym (directory_is G q)) in
      λ i. λ q. each q i

  abbrev awaits_by : (Path → List Path) → Job → List Path
  awaits_by d k = gathers_from k ++ flat_map d (in_paths k.recipe ++ gathers_from k)

  pub awaits_same : (F G : Job → State) (k : Job) → awaits (plan_of F) k ≡ awaits (plan_of G) k
  awaits_same F G k = ap (λ (d : Path → List Path). awaits_by d k) (directories_same F G)

  pub awaited_same : (F G : Job → State) → awaited image settings progress (plan_of F) ≡ awaited image settings progress (plan_of G)
  awaited_same F G =
      ap (λ (d : Path → List Path). distinct bytes_eq (flat_map (awaits_by d) js ++ flat_map d settings.targets)) (directories_same F G)

  abbrev pub all_clean : Job → State
  all_clean j = Clean

  -- the awaited directories
  abbrev pub waited : List Path
  waited = awaited image settings progress (plan_of all_clean)

  -- it makes an awaited directory
  abbrev pub feeds : Job → Bool
  feeds k = list_any (among waited) (out_paths k.recipe)

  -- the two agree on a job as far as jobs that come later ask
  pub record Alike (F G : Job → State) (j : Job) : Type 0 where
    pub opens : is_open (F j) ≡ is_open (G j)
    pub dirties : is_dirty (F j) ≡ is_dirty (G j)
    pub states : feeds j ≡ true → F j ≡ G j

  over_in : (F : Job → State) (j : Job) (s : State) (q f : Path) → maker_of (plan_of F) q ≡ Some (j, s) → folder_over j.recipe q ≡ Some f → In f (directory_over (plan_of F) q)
  over_in F j s q f a e =
      let over : Option (Job × State) → List Path = λ o. flat_map (λ (e : Job × State). none_or_one (folder_over e.0.recipe q)) (none_or_one o) in
      subst (λ o. In f (over o)) (sym a) (subst (λ o. In f (none_or_one o ++ [])) (sym e) (inl refl))

  in_over : (F : Job → State) (j : Job) (s : State) (q f : Path) → maker_of (plan_of F) q ≡ Some (j, s) → In f (directory_over (plan_of F) q) → folder_over j.recipe q ≡ Some f
  in_over F j s q f a h =
      let over : Option (Job × State) → List Path = λ o. flat_map (λ (e : Job × State). none_or_one (folder_over e.0.recipe q)) (none_or_one o) in
      go (folder_over j.recipe q) (subst (λ o. In f (over o)) a h)
    where
      go : (o : Option Path) → In f (none_or_one o ++ []) → o ≡ Some f
      go None k = absurd k
      go (Some g) (inl e) = ap Some (sym e)
      go (Some g) (inr k) = absurd k

  in_none : (F : Job → State) (q f : Path) → maker_of (plan_of F) q ≡ None → In f (directory_over (plan_of F) q) → ⊥
  in_none F q f a h =
      let over : Option (Job × State) → List Path = λ o. flat_map (λ (e : Job × State). none_or_one (folder_over e.0.recipe q)) (none_or_one o) in
      let k : In f (over None) = subst (λ o. In f (over o)) a h in k

  in_waited : (F : Job → State) (k : Job) (d : Path) → In k js → In d (awaits (plan_of F) k) → In d waited
  in_waited F k d i h =
      subst (In d) (awaited_same F all_clean)
      (once_paths (flat_map (awaits (plan_of F)) js ++ flat_map (directory_over (plan_of F)) settings.targets) d
      (in_left d (flat_map (awaits (plan_of F)) js) (flat_map (directory_over (plan_of F)) settings.targets) (in_flat (awaits (plan_of F)) js k d i h)))

  module _ (apart : JobsApart js) (F G : Job → State) (seen : List Job) (within : Within seen js) (alike : (j : Job) → In j seen → Alike F G j) where
    -- none makes the path, or one of the earlier
    abbrev Paired : Path → Type 0
    Paired q =
        ((maker_of (plan_of F) q ≡ None) × (maker_of (plan_of G) q ≡ None))
        ⊎ ((j : Job) × In j seen × (makes j q ≡ true) × (maker_of (plan_of F) q ≡ Some (j, F j)) × (maker_of (plan_of G) q ≡ Some (j, G j)))

    module _ (k : Job) (here : In k js) (served : Served js seen k) where
      paired : (q : Path) → Reads k q → Paired q
      paired q r = go (served q r)
        where
          go : ((j : Job) → In j js → makes j q ≡ false) ⊎ ((j : Job) × In j seen × (makes j q ≡ true)) → Paired q
          go (inl none) = inl (none_found F js q none, none_found G js q none)
          go (inr (j, i, m)) = inr (j, i, m, maker_found F js j q apart (within j i) m, maker_found G js j q apart (within j i) m)

      made_same : (test : State → Bool) → ((j : Job) → In j seen → test (F j) ≡ test (G j)) → (q : Path) → Reads k q → made_by (plan_of F) test q ≡ made_by (plan_of G) test q
      made_same test h q r = go (paired q r)
        where
          by : Option (Job × State) → Bool
          by o = test_some (λ (e : Job × State). test e.1) o

          go : Paired q → made_by (plan_of F) test q ≡ made_by (plan_of G) test q
          go (inl (a, b)) = ap (test_some (λ (e : Job × State). test e.1)) a ∙ sym (ap (test_some (λ (e : Job × State). test e.1)) b)
          go (inr (j, i, m, a, b)) =
              ap (test_some (λ (e : Job × State). test e.1)) a ∙ (h j i ∙ sym (ap (test_some (λ (e : Job × State). test e.1)) b))

      same_maker : (j : Job) (d : Path) → In j seen → maker_of (plan_of F) d ≡ Some (j, F j) → maker_of (plan_of G) d ≡ Some (j, G j) → feeds j ≡ true → maker_of (plan_of F) d ≡ maker_of (plan_of G) d
      same_maker j d i a b f = a ∙ (ap (λ s. Some (j, s)) ((alike j i).states f) ∙ sym b)

      feeds_by : (j : Job) (d : Path) → In d (out_paths j.recipe) → In d waited → feeds j ≡ true
      feeds_by j d i w = any_from (among waited) (out_paths j.recipe) d i (in_among waited d w)

      gathered_feeds : (j : Job) (d : Path) → In d (gathers_from k) → maker_of (plan_of F) d ≡ Some (j, F j) → makes j d ≡ true → feeds j ≡ true
      gathered_feeds j d i a m = go (or_cases (among (out_paths j.recipe) d) (is_some (folder_over j.recipe d)) m)
        where
          go : (among (out_paths j.recipe) d ≡ true) ⊎ (is_some (folder_over j.recipe d) ≡ true) → feeds j ≡ true
          go (inl h) =
              feeds_by j d (among_in (out_paths j.recipe) d h)
              (in_waited F k d here (in_left d (gathers_from k) (flat_map (directory_over (plan_of F)) (in_paths k.recipe ++ gathers_from k)) i))
          go (inr h) =
              let f = some_of (folder_over j.recipe d) h in
              let r = find_in (is_under d) (folders_of j.recipe) f.0 f.1 in
              feeds_by j f.0 (folders_paths j.recipe f.0 r.0)
              (in_waited F k f.0 here (in_right f.0 (gathers_from k) (flat_map (directory_over (plan_of F)) (in_paths k.recipe ++ gathers_from k))
              (in_flat (directory_over (plan_of F)) (in_paths k.recipe ++ gathers_from k) d f.0 (in_right d (in_paths k.recipe) (gathers_from k) i) (over_in F j (F j) d f.0 a f.1))))

      awaited_maker : (d : Path) → In d (awaits (plan_of F) k) → maker_of (plan_of F) d ≡ maker_of (plan_of G) d
      awaited_maker d h = go (in_either d (gathers_from k) (flat_map (directory_over (plan_of F)) (in_paths k.recipe ++ gathers_from k)) h)
        where
          gathered : In d (gathers_from k) → Paired d → maker_of (plan_of F) d ≡ maker_of (plan_of G) d
          gathered i (inl (a, b)) = a ∙ sym b
          gathered i (inr (j, l, m, a, b)) = same_maker j d l a b (gathered_feeds j d i a m)

          reads : (q : Path) → In q (in_paths k.recipe ++ gathers_from k) → Reads k q
          reads q i = in_either q (in_paths k.recipe) (gathers_from k) i

          over : (q : Path) → In d (directory_over (plan_of F) q) → Paired q → maker_of (plan_of F) d ≡ maker_of (plan_of G) d
          over q i (inl (a, b)) = absurd (in_none F q d a i)
          over q i (inr (j, l, m, a, b)) =
              let e = in_over F j (F j) q d a i in
              let r = find_in (is_under q) (folders_of j.recipe) d e in
              let o = folders_paths j.recipe d r.0 in
              let makes_d = or_first (among (out_paths j.recipe) d) (is_some (folder_over j.recipe d)) (in_among (out_paths j.recipe) d o) in
              same_maker j d l (maker_found F js j d apart (within j l) makes_d) (maker_found G js j d apart (within j l) makes_d) (feeds_by j d o (in_waited F k d here h))

          go : In d (gathers_from k) ⊎ In d (flat_map (directory_over (plan_of F)) (in_paths k.recipe ++ gathers_from k)) → maker_of (plan_of F) d ≡ maker_of (plan_of G) d
          go (inl i) = gathered i (paired d (inr i))
          go (inr i) = let r = flat_in (directory_over (plan_of F)) (in_paths k.recipe ++ gathers_from k) d i in over r.0 r.2 (paired r.0 (reads r.0 r.1))

      ready_same : (d : Path) → In d (awaits (plan_of F) k) → is_ready image settings progress (plan_of F) d ≡ is_ready image settings progress (plan_of G) d
      ready_same d h = ap (test_some (λ (e : Job × State). is_clean e.1 && stands_whole image d e.0)) (awaited_maker d h)

      hand_same : (d : Path) → In d (awaits (plan_of F) k) → is_at_hand image settings progress (plan_of F) d ≡ is_at_hand image settings progress (plan_of G) d
      hand_same d h = let m = awaited_maker d h in let r = ready_same d h in λ i. is_none (m i) || r i

      open_same : is_open_now image settings progress (plan_of F) k ≡ is_open_now image settings progress (plan_of G) k
      open_same =
          let one =
          any_same (λ d. not (is_at_hand image settings progress (plan_of F) d)) (λ d. not (is_at_hand image settings progress (plan_of G) d)) (awaits (plan_of F) k)
          (λ d h. ap not (hand_same d h))
          ∙ ap (list_any (λ d. not (is_at_hand image settings progress (plan_of G) d))) (awaits_same F G k) in
          let two =
          any_same (λ d. is_ready image settings progress (plan_of F) d && is_none (listing L d)) (λ d. is_ready image settings progress (plan_of G) d && is_none (listing L d)) (gathers_from k)
          (λ d h. ap (λ b. b && is_none (listing L d)) (ready_same d (in_left d (gathers_from k) (flat_map (directory_over (plan_of F)) (in_paths k.recipe ++ gathers_from k)) h))) in
          let three =
          any_same (made_by (plan_of F) is_open) (made_by (plan_of G) is_open) (in_paths k.recipe)
          (λ q h. made_same is_open (λ j i. (alike j i).opens) q (inl h)) in
          λ i. one i || (two i || three i)

      reasons_same : reasons image settings progress (plan_of F) k ≡ reasons image settings progress (plan_of G) k
      reasons_same =
          let up =
          filter_same (made_by (plan_of F) is_dirty) (made_by (plan_of G) is_dirty) (distinct bytes_eq (in_paths k.recipe))
          (λ q h. made_same is_dirty (λ j i. (alike j i).dirties) q (inl (distinct_in bytes_eq (in_paths k.recipe) q h))) in
          ap (λ qs. own_reasons k.recipe (map image.kept (out_paths k.recipe)) (map (is_marked_but image (is_restored image settings progress (plan_of F))) (out_paths k.recipe)) (map (λ q. (q, stamp_now_but image (is_restored image settings progress (plan_of F)) q)) (in_paths k.recipe))
          ++ (map Upstream qs ++ when (is_forced image settings progress (plan_of F) k) Rattle.smk_trigger.specs.declared.reason.Reason.TheVariants.Forced)) up

      -- the states are the same where what is to be restored is
      pub next_same : is_to_restore image settings progress (plan_of F) k ≡ is_to_restore image settings progress (plan_of G) k → next F k ≡ next G k
      next_same e =
          let o = open_same in let r = reasons_same in
          λ i. while_running (kept_state image settings progress (plan_of F) k) (cond (o i) Open (by_reasons (r i) (e i && not (is_read_now image settings progress (plan_of F) k))))

      pub restore_same :
          ((p : Path) → In p (out_paths k.recipe) → is_wanted_back image settings progress (plan_of F) k p ≡ is_wanted_back image settings progress (plan_of G) k p) →
          is_to_restore image settings progress (plan_of F) k ≡ is_to_restore image settings progress (plan_of G) k
      restore_same h =
          any_same _ _ (out_paths k.recipe) (λ p i. ap (λ b. not (is_whole image p (kind_in k.recipe p)) && b) (h p i))

      -- by the awaited directories, whether some job reads the output, and whether one that is to run does
      abbrev wanted_by : Path → List Path → Bool → Bool → Bool
      wanted_by p w u v =
          among settings.targets p || (among w p || ((not (among k.temps p && not (list_any (among w) (out_paths k.recipe))) && u) || v))

      read_same : (p : Path) → is_input (plan_of F) (λ e. true) p ≡ is_input (plan_of G) (λ e. true) p
      read_same p = any_zip F (λ (e : Job × State). among (in_paths e.0.recipe) p && true) js ∙ sym (any_zip G (λ (e : Job × State). among (in_paths e.0.recipe) p && true) js)

      pub wanted_same : (p : Path) → is_input (plan_of F) (λ e. is_to_run e.1) p ≡ is_input (plan_of G) (λ e. is_to_run e.1) p → is_wanted_back image settings progress (plan_of F) k p ≡ is_wanted_back image settings progress (plan_of G) k p
      wanted_same p v = let w = awaited_same F G in let u = read_same p in λ i. wanted_by p (w i) (u i) (v i)

      reads_of : (H : Job → State) (p : Path) → is_input (plan_of H) (λ e. is_to_run e.1) p ≡ true → is_input (plan_of H) (λ e. true) p ≡ true
      reads_of H p h =
          any_weaker _ _ (zip js (map H js)) (λ e x. and_both (among (in_paths e.0.recipe) p) true (and_left (among (in_paths e.0.recipe) p) (is_to_run e.1) x) refl) h

      fed_same : feeds k ≡ true → (p : Path) → is_wanted_back image settings progress (plan_of F) k p ≡ is_wanted_back image settings progress (plan_of G) k p
      fed_same f p =
          let u = read_same p in
          let w = awaited_same F all_clean in
          let x = awaited_same all_clean G in
          let a = is_input (plan_of F) (λ e. is_to_run e.1) p in
          let b = is_input (plan_of G) (λ e. is_to_run e.1) p in
          let v = is_input (plan_of F) (λ e. true) p in
          let mid = absorbed (among k.temps p) (feeds k) v a b f (reads_of F p) (λ h. u ∙ reads_of G p h) in
          ap (λ w. wanted_by p w v a) w
          ∙ (ap (λ b. among settings.targets p || (among waited p || b)) mid
          ∙ (ap (λ w. wanted_by p w v b) x ∙ ap (λ v. wanted_by p (awaited image settings progress (plan_of G)) v b) u))

      pub alike_next : Alike (next F) (next G) k
      alike_next =
          let o = open_same in let r = reasons_same in
          let kept = kept_state image settings progress (plan_of F) k in
          let x = is_to_restore image settings progress (plan_of F) k && not (is_read_now image settings progress (plan_of F) k) in
          let y = is_to_restore image settings progress (plan_of G) k && not (is_read_now image settings progress (plan_of G) k) in
          record {
            opens = ap (λ b. is_open (while_running kept (cond b Open (by_reasons (reasons image settings progress (plan_of F) k) x)))) o
                ∙ (ap (λ rs. is_open (while_running kept (cond (is_open_now image settings progress (plan_of G) k) Open (by_reasons rs x)))) r
                ∙ same_open kept (is_open_now image settings progress (plan_of G) k) (reasons image settings progress (plan_of G) k) x y);
            dirties = ap (λ b. is_dirty (while_running kept (cond b Open (by_reasons (reasons image settings progress (plan_of F) k) x)))) o
                ∙ (ap (λ rs. is_dirty (while_running kept (cond (is_open_now image settings progress (plan_of G) k) Open (by_reasons rs x)))) r
                ∙ same_dirty kept (is_open_now image settings progress (plan_of G) k) (reasons image settings progress (plan_of G) k) x y);
            states = λ f. next_same (restore_same (λ p i. fed_same f p));
          }
