-- A chain of plans comes to its end: each plan but the last one lists a name that stands and wasn't listed before.
use Rattle.std.proofs.Common.{◌≡◌, ◌≢◌, ℕ, suc, ◌≤◌, arith, Bool, true, false, cond, ◌&&◌, List, [], ◌∷◌, ◌++◌, map, filter, length, refl, sym, ap, subst, inl, inr, ◌∙◌, Option, Some, None, option_map, is_some, is_none, true≢false}
use Rattle.std.specs.Prelude.{bytes_eq}
use Rattle.smk_base.proofs.Places.{place_itself}
use Rattle.smk_world.specs.declared.event.Node.{Node}
use Rattle.smk_world.specs.declared.recipe.Kind.{Kind}
use Rattle.smk_world.specs.declared.recipe.Kind.TheVariants.{Plain, Folder as FolderKind}
use Rattle.smk_world.specs.Trees.{Path, folder_over, kind_in}
use Rattle.smk_flow.specs.declared.job.Job.{Job}
use Rattle.smk_store.specs.Images.{Image, content_of, is_directory, is_file, is_folder, is_whole}
use Rattle.smk_chain.specs.declared.jobs.Known.{Known}
use Rattle.smk_chain.specs.Derive.{Listings, listing}
use Rattle.smk_trigger.specs.declared.reason.State.{State}
use Rattle.smk_trigger.specs.JobStates.{is_clean}
use Rattle.smk_pick.specs.declared.settings.Settings.{Settings}
use Rattle.smk_plan.specs.States.{Plan, Progress, awaited, files_listed, is_ready, is_whole_by, maker_of, new_listings, stands_whole, test_some}
use Rattle.smk_laws_plan.specs.Current.{IsComplete}
use Rattle.smk_laws_plan.proofs.CurrentLists.{In, and_left, and_right, filter_in, find_some, in_map, in_right}
use Rattle.smk_laws_plan.proofs.CurrentPaths.{among_in}
use Rattle.smk_laws_history.proofs.MoreListings.{listing_still}

-- ## Counting

not_more : {A : Type 0} (f g : A → Bool) → ((x : A) → g x ≡ true → f x ≡ true) → (xs : List A) → length (filter g xs) ≤ length (filter f xs)
not_more f g less [] = omega arith
not_more {A} f g less (x ∷ xs) = go (f x) (g x) (less x) (not_more f g less xs)
  where
    go : (b c : Bool) → (c ≡ true → b ≡ true) → length (filter g xs) ≤ length (filter f xs) → length (cond c (x ∷ filter g xs) (filter g xs)) ≤ length (cond b (x ∷ filter f xs) (filter f xs))
    go true true h e = omega arith
    go true false h e = omega arith
    go false true h e = absurd (true≢false (sym (h refl)))
    go false false h e = e

-- what passes one test fewer
fewer :
    {A : Type 0} (f g : A → Bool) → ((x : A) → g x ≡ true → f x ≡ true) → (xs : List A) (d : A) → In d xs → f d ≡ true → g d ≡ false →
    suc (length (filter g xs)) ≤ length (filter f xs)
fewer f g less [] d h p q = absurd h
fewer {A} f g less (x ∷ xs) d (inl e) p q = go (f x) (g x) (subst (λ z. f z ≡ true) e p) (subst (λ z. g z ≡ false) e q)
  where
    low : length (filter g xs) ≤ length (filter f xs)
    low = not_more f g less xs

    go : (b c : Bool) → b ≡ true → c ≡ false → suc (length (cond c (x ∷ filter g xs) (filter g xs))) ≤ length (cond b (x ∷ filter f xs) (filter f xs))
    go true false s t = let l = low in omega arith
    go true true s t = absurd (true≢false t)
    go false c s t = absurd (true≢false (sym s))
fewer {A} f g less (x ∷ xs) d (inr i) p q = go (f x) (g x) (less x) (fewer f g less xs d i p q)
  where
    go :
        (b c : Bool) → (c ≡ true → b ≡ true) → suc (length (filter g xs)) ≤ length (filter f xs) →
        suc (length (cond c (x ∷ filter g xs) (filter g xs))) ≤ length (cond b (x ∷ filter f xs) (filter f xs))
    go true true h e = omega arith
    go true false h e = omega arith
    go false true h e = absurd (true≢false (sym (h refl)))
    go false false h e = e

-- ## What becomes known stands

file_stands : (o : Option Node) → is_some (content_of o) ≡ true → is_some o ≡ true
file_stands None h = h
file_stands (Some n) h = refl

folder_stands : (o : Option Node) → is_directory o ≡ true → is_some o ≡ true
folder_stands None h = h
folder_stands (Some n) h = refl

module _ (image : Image) (d : Path) where
  whole_stands : (k : Kind) → is_whole image d k ≡ true → is_some (image.node d) ≡ true
  whole_stands Plain h = file_stands (image.node d) h
  whole_stands FolderKind h = folder_stands (image.node d) (and_left (is_folder image d) _ h)

  by_stands : (k : Kind) (over : Option Path) → is_whole_by image d k over ≡ true → is_some (image.node d) ≡ true
  by_stands k None h = whole_stands k h
  by_stands k (Some folder) h = file_stands (image.node d) (and_right (is_whole image folder FolderKind) (is_file image d) h)

ready_stands : (image : Image) (d : Path) (o : Option (Job × State)) → test_some (λ (e : Job × State). is_clean e.1 && stands_whole image d e.0) o ≡ true → is_some (image.node d) ≡ true
ready_stands image d None h = absurd (true≢false (sym h))
ready_stands image d (Some e) h =
    by_stands image d (kind_in e.0.recipe d) (folder_over e.0.recipe d) (and_right (is_clean e.1) (stands_whole image d e.0) h)

-- ## The names that aren't listed

abbrev pub left : Image → Listings → ℕ
left image L = length (filter (λ q. is_none (listing L q)) image.names)

still_unlisted : (L M : Listings) (q : Path) → is_none (listing (L ++ M) q) ≡ true → is_none (listing L q) ≡ true
still_unlisted L M q h = go (listing L q) refl
  where
    go : (o : Option (List Path)) → listing L q ≡ o → is_none o ≡ true
    go None e = refl
    go (Some files) e = absurd (true≢false (sym h ∙ ap is_none (listing_still L M q files e)))

-- a directory that is among the listings is listed
among_listed : (L : Listings) (k : Known) → In k L → is_none (listing L k.folder) ≡ false
among_listed L k i =
    let r = find_some (λ (x : Known). bytes_eq x.folder k.folder) L k i (place_itself k.folder) in
    ap (λ o. is_none (option_map (λ (x : Known). x.files) o)) r.1

module _ (image : Image) (settings : Settings) (progress : Progress) (complete : IsComplete image) where
  abbrev known_by : Path → Known
  known_by d = record { folder = d; files = files_listed image d }

  -- where listings become known fewer names are left
  pub left_less :
      (plan : Plan) → new_listings image settings progress plan ≢ [] →
      suc (left image (plan.lists ++ new_listings image settings progress plan)) ≤ left image plan.lists
  left_less plan more =
      go (filter (λ d. is_ready image settings progress plan d && is_none (listing plan.lists d)) (awaited image settings progress plan)) refl
    where
      at : (d : Path) → In d (filter (λ d. is_ready image settings progress plan d && is_none (listing plan.lists d)) (awaited image settings progress plan)) → suc (left image (plan.lists ++ new_listings image settings progress plan)) ≤ left image plan.lists
      at d i =
          let t = (filter_in (λ d. is_ready image settings progress plan d && is_none (listing plan.lists d)) (awaited image settings progress plan) d i).1 in
          let stands = ready_stands image d (maker_of plan d) (and_left (is_ready image settings progress plan d) (is_none (listing plan.lists d)) t) in
          let named = among_in image.names d (complete.names d ∙ stands) in
          let there = in_right (known_by d) plan.lists (new_listings image settings progress plan)
          (in_map known_by (filter (λ d. is_ready image settings progress plan d && is_none (listing plan.lists d)) (awaited image settings progress plan)) d i) in
          fewer (λ q. is_none (listing plan.lists q)) (λ q. is_none (listing (plan.lists ++ new_listings image settings progress plan) q))
          (still_unlisted plan.lists (new_listings image settings progress plan)) image.names d named
          (and_right (is_ready image settings progress plan d) (is_none (listing plan.lists d)) t)
          (among_listed (plan.lists ++ new_listings image settings progress plan) (known_by d) there)

      go :
          (ds : List Path) → filter (λ d. is_ready image settings progress plan d && is_none (listing plan.lists d)) (awaited image settings progress plan) ≡ ds →
          suc (left image (plan.lists ++ new_listings image settings progress plan)) ≤ left image plan.lists
      go [] e = absurd (more (ap (map known_by) e))
      go (d ∷ ds) e = at d (subst (In d) (sym e) (inl refl))
