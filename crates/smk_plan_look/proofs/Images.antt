-- What is seen, as the image of the folder has it.
use Rattle.std.proofs.Common.{◌≡◌, ◌≢◌, inl, inr, ℕ, Bool, true, false, ◌&&◌, ◌||◌, not, cond, List, [], ◌∷◌, ◌++◌, map, filter, refl, sym, ap, subst, ◌∙◌, Option, Some, None, bytes_eq}
use Rattle.std.specs.Prelude.{is_some, is_none, if◌then◌else◌, option_map}
use Rattle.std.specs.List.{AllZip, list_any, find, flat_map}
use Rattle.std.specs.Option.{option_and_then}
use Rattle.smk_base.specs.Path.{is_path, is_under, is_at_or_under, own_folder}
use Rattle.smk_base.proofs.Apart.{path_outside, outside-own}
use Rattle.smk_base.proofs.Places.{and_first, and_second, same_place, same_flipped}
use Rattle.smk_base.proofs.Under.{never_both, false_unless, or_cases, or_first, or_second, both_true, under_folder, rest_under, under_further, at_itself, at_when_under}
use Rattle.smk_base.specs.declared.sum.Sum.{Sum as Digest}
use Rattle.smk_world.specs.declared.event.Node.{Node}
use Rattle.smk_world.specs.declared.event.Node.TheVariants.{Regular, Directory}
use Rattle.smk_world.specs.declared.event.NodeState.TheVariants.{Owned}
use Rattle.smk_world.specs.declared.recipe.Out.{Out}
use Rattle.smk_world.specs.declared.recipe.OutItem.{OutItem}
use Rattle.smk_world.specs.World.{World, IsFormed, in_paths, is_named, reading, reads_folder}
use Rattle.smk_world.specs.Calls.{in_folder, stat_of}
use Rattle.smk_world.specs.Devices.{Device}
use Rattle.smk_world.specs.Folders.{IsTree}
use Rattle.smk_world.specs.Trees.{Path, Each, IsIn, among, is_path_text, is_text, below, outs_of}
use Rattle.smk_record.specs.declared.record.Member.{Member}
use Rattle.smk_record.specs.declared.record.Record.{Record}
use Rattle.smk_record.specs.Records.{are_valid_members}
use Rattle.smk_flow.specs.declared.job.Job.{Job}
use Rattle.smk_store.specs.declared.store.Kept.{Kept}
use Rattle.smk_store.specs.Images.{Image, Content, content_of, file_at, is_covered, is_directory, is_folder, is_outside, is_source, names_under, members_under, seen}
use Rattle.smk_store.specs.Loading.{IsStoreOf}
use Rattle.smk_store.specs.Stores.{Known, is_covered_in}
use Rattle.smk_store.specs.Trust.{is_summed, sum_of}
use Rattle.smk_store.specs.Walking.{texts_of}
use Rattle.smk_store.proofs.Loads.{named_filter, contains_named}
use Rattle.smk_digest.specs.Digests.{AreSums, IsSum, sum_in}
use Rattle.smk_chain.specs.declared.jobs.Jobs.{Jobs}
use Rattle.smk_chain.specs.declared.jobs.Maker.{Maker}
use Rattle.smk_store_members.specs.Members.{Nodes, IsFound, member_places, IsThere, AreMembers}
use Rattle.smk_store_members.specs.Members.IsFound.{Inside, Deeper}
use Rattle.smk_store.specs.Unowned.{IsUnownedUnder}
use Rattle.smk_store_members.proofs.Lists.{each_both, each_more, each_unmap, each_zip}
use Rattle.smk_store_members.proofs.Trees.{some_stands, stands_some, tree_found}
use Rattle.smk_store_members.proofs.Under.{same_members, folder_read, below_in, found_stands}
use Rattle.smk_plan.specs.declared.seen.Sight.{Sight}
use Rattle.smk_plan.specs.States.{test_some}
use Rattle.smk_plan.specs.Sights.{is_tellable, is_guarded, members_seen, sight_at, sight_of, HasSum, IsSeenAs, IsSourceSeen, IsSeenOf}
use Rattle.smk_plan.specs.Summed.{needs_sum, kept_in, records_by, is_seen_summed, IsSummed, AreSummed}
use Rattle.smk_plan_look.specs.Gathering.{Texts, IsHeld, item_paths, job_paths, source_path, unless_made, wanted}
use Rattle.smk_plan_look.specs.Needs.{AreSpared, asks_for, is_needed, needs_digest, time_by, time_seen}
use Rattle.smk_plan_look.specs.Putting.{HavePut, paths_where, put_sums}
use Rattle.smk_plan_look.specs.Seeing.{TellsGuard, IsListedAs, IsPlain, ArePlain, IsSightOf, IsSeenUnowned, AreSeenUnowned, IsSummedUnowned, AreSummedUnowned, are_paths}
use Rattle.smk_plan_look.proofs.Waiting.{guard_some}
use Rattle.smk_plan_look.proofs.Found.{TellsUnowned}
use Rattle.smk_plan_look.proofs.Placed.{IsPut, put_at, put_spared, put_time}
use Rattle.smk_plan_look.proofs.Stored.{any_in, each_in, file_time, kept_same, named_in, some_sum, source_file, source_is}

-- ## Lists

any_named : (f : Path → Bool) (q : Path) (ps : List Path) → is_named q ps ≡ true → f q ≡ true → list_any f ps ≡ true
any_named f q [] h k = absurd (never_both false h refl)
any_named f q (p ∷ ps) h k =
    elim (or_cases (bytes_eq q p) (is_named q ps) h) [
      | inl here ↦ or_first (f p) (list_any f ps) (subst (λ t. f t ≡ true) (same_place q p here) k)
      | inr there ↦ or_second (f p) (list_any f ps) (any_named f q ps there k)
    ]

none_any : (f : Path → Bool) (ps : List Path) → ((q : Path) → f q ≡ true → ⊥) → list_any f ps ≡ false
none_any f [] never = refl
none_any f (p ∷ ps) never = ap (λ b. b || list_any f ps) (false_unless (f p) (never p)) ∙ none_any f ps never

units : (ps : List Path) → Each (λ (q : Path). Unit {0}) ps
units [] = tt
units (p ∷ ps) = (tt, units ps)

each_kept : (t : Path → Bool) (Q : Path → Type 0) (ps : List Path) → Each Q ps → Each (λ (q : Path). (t q ≡ true) × Q q) (filter t ps)
each_kept t Q [] h = tt
each_kept t Q (p ∷ ps) h = go (t p) refl (each_kept t Q ps h.1)
  where
    go : (b : Bool) → t p ≡ b → Each (λ (q : Path). (t q ≡ true) × Q q) (filter t ps) → Each (λ (q : Path). (t q ≡ true) × Q q) (cond b (p ∷ filter t ps) (filter t ps))
    go true e rest = ((e, h.0), rest)
    go false e rest = rest

each_front : {A : Type 0} (P : A → Type 0) (xs ys : List A) → Each P (xs ++ ys) → Each P xs
each_front P [] ys h = tt
each_front P (x ∷ xs) ys h = (h.0, each_front P xs ys h.1)

each_back : {A : Type 0} (P : A → Type 0) (xs ys : List A) → Each P (xs ++ ys) → Each P ys
each_back P [] ys h = h
each_back P (x ∷ xs) ys h = each_back P xs ys h.1

-- ## One place

below_under : (p q : Path) → is_under q p ≡ true → in_folder p (below p q) ≡ q
below_under p q under =
    let r = rest_under q p under in
    ap (λ (t : Path). in_folder p (below p t)) r.1 ∙ ap (in_folder p) (below_in p r.0) ∙ sym r.1

found_inside : (nodes : Nodes) (p q : Path) → IsFound nodes p q → is_under q p ≡ true
found_inside nodes p q (Inside name is st) = under_folder p name
found_inside nodes p q (Deeper folder name before reads is st) = under_further (in_folder folder name) folder p (under_folder folder name) (found_inside nodes p folder before)

module _ (read : List ℕ → Option Record) (w : World) (formed : IsFormed w) (tree : IsTree w) where
  abbrev image : Image
  image = seen read w

  outside : (p q : Path) → is_path p ≡ true → is_at_or_under q p ≡ true → is_outside q ≡ true
  outside p q path at = ap not (false_unless (is_at_or_under q own_folder) (λ own. never_both (is_at_or_under q p) at (outside-own p q (path_outside p path) own).at_or_over))

  node_is : (p q : Path) → is_path p ≡ true → is_at_or_under q p ≡ true → image.node q ≡ reading (w.nodes q)
  node_is p q path at = ap (λ (b : Bool). if b then reading (w.nodes q) else None) (outside p q path at)

  in_names : (q : Path) (b : Bool) → is_named q w.names ≡ b → is_some (reading (w.nodes q)) ≡ true → b ≡ true
  in_names q true e some = refl
  in_names q false e some = absurd (never_both (is_some (reading (w.nodes q))) some (ap is_some (formed.complete q e)))

  named : (p q : Path) → is_path p ≡ true → is_at_or_under q p ≡ true → is_some (reading (w.nodes q)) ≡ true → is_named q image.names ≡ true
  named p q path at some =
      named_filter (λ t. is_outside t && is_some (reading (w.nodes t))) q w.names
      ∙ both_true (is_outside q && is_some (reading (w.nodes q))) (is_named q w.names)
      (both_true (is_outside q) (is_some (reading (w.nodes q))) (outside p q path at) some) (in_names q (is_named q w.names) refl some)

  -- ## Read-only files

  abbrev flagged : Option Node → Bool
  flagged n = test_some (λ (f : Content). f.read_only) (content_of n)

  abbrev guards : Path → Path → Bool
  guards p q = is_at_or_under q p && (is_tellable q && flagged (image.node q))

  guarded_is : (p : Path) (found : Bool) → is_path p ≡ true → TellsGuard w.nodes p found → found ≡ is_guarded image p
  guarded_is p true path t =
      let h = t.some refl in
      sym
      (any_named (guards p) h.place image.names
      (named p h.place path h.inside (guard_some (w.nodes h.place) h.guards.read_only))
      (both_true (is_at_or_under h.place p) (is_tellable h.place && flagged (image.node h.place)) h.inside
      (both_true (is_tellable h.place) (flagged (image.node h.place)) h.guards.tellable (ap flagged (node_is p h.place path h.inside) ∙ h.guards.read_only))))
  guarded_is p false path t =
      sym
      (none_any (guards p) image.names
      (λ q yes.
      let inside = and_first (is_at_or_under q p) (is_tellable q && flagged (image.node q)) yes in
      let both = and_second (is_at_or_under q p) (is_tellable q && flagged (image.node q)) yes in
      t.none refl
      (record {
        place = q;
        inside = inside;
        guards = record {
          tellable = and_first (is_tellable q) (flagged (image.node q)) both;
          read_only = sym (ap flagged (node_is p q path inside)) ∙ and_second (is_tellable q) (flagged (image.node q)) both;
        };
      })))

  -- ## Members

  abbrev member_at : Path → Path → Member
  member_at p q = record { folder = is_folder image q; name = below p q }

  abbrev IsIn_it : Path → Path → Type 0
  IsIn_it p q = (is_under q p ≡ true) × (((is_outside q && is_some (reading (w.nodes q))) ≡ true) × Unit {0})

  all_inside : (p : Path) → Each (IsIn_it p) (names_under image p)
  all_inside p =
      each_kept (λ q. is_under q p) (λ q. ((is_outside q && is_some (reading (w.nodes q))) ≡ true) × Unit {0}) image.names
      (each_kept (λ q. is_outside q && is_some (reading (w.nodes q))) (λ q. Unit {0}) w.names (units w.names))

  there_one : (p q : Path) → is_path p ≡ true → IsIn_it p q → IsThere w.nodes p (member_at p q)
  there_one p q path h =
      let st = some_stands (w.nodes q) (and_second (is_outside q) (is_some (reading (w.nodes q))) h.1.0) in
      subst (λ (x : Path). IsFound w.nodes p x × (reads_folder (w.nodes x) ≡ is_folder image q)) (sym (below_under p q h.0))
      (tree_found w tree p q h.0 st, folder_read (w.nodes q) ∙ sym (ap is_directory (node_is p q path (at_when_under q p h.0))))

  there_all : (p : Path) (qs : List Path) → is_path p ≡ true → Each (IsIn_it p) qs → Each (IsThere w.nodes p) (map (member_at p) qs)
  there_all p [] path h = tt
  there_all p (q ∷ qs) path h = (there_one p q path h.0, there_all p qs path h.1)

  place_in : (p q : Path) (qs : List Path) → is_under q p ≡ true → is_named q qs ≡ true → IsIn (member_places p (map (member_at p) qs)) q
  place_in p q [] under h = absurd (never_both false h refl)
  place_in p q (x ∷ qs) under h =
      elim (or_cases (bytes_eq q x) (is_named q qs) h) [
        | inl here ↦ inl (sym (below_under p q under) ∙ ap (λ (t : Path). in_folder p (below p t)) (same_place q x here))
        | inr there ↦ inr (place_in p q qs under there)
      ]

  -- what is under a folder are its members, where a record may have them
  valid_members : (p : Path) → is_path p ≡ true → are_valid_members p (members_under image p) ≡ true → AreMembers w.nodes p (members_under image p)
  valid_members p path valid =
      record {
        valid = valid;
        there = there_all p (names_under image p) path (all_inside p);
        all = λ q found.
            let under = found_inside w.nodes p q found in
            place_in p q (names_under image p) under
            (named_filter (λ x. is_under x p) q image.names
            ∙ both_true (is_under q p) (is_named q image.names) under (named p q path (at_when_under q p under) (stands_some (w.nodes q) (found_stands w.nodes p q found))));
      }

  abbrev unless_bad : Path → Bool → Option (List Member)
  unless_bad p good = if good then Some (members_under image p) else None

  listed_is : (p : Path) (members : Option (List Member)) → is_path p ≡ true → is_folder image p ≡ true → IsListedAs w.nodes p members → members ≡ members_seen image p
  listed_is p (Some members) path folder are =
      let same : members ≡ members_under image p = same_members read w p formed path members (tree_found w tree p) are in
      ap Some same
      ∙ sym (ap (unless_bad p) (both_true (is_folder image p) (are_valid_members p (members_under image p)) folder (sym (ap (are_valid_members p) same) ∙ are.valid)))
  listed_is p None path folder none =
      sym
      (ap (λ (b : Bool). unless_bad p (is_folder image p && b)) (false_unless (are_valid_members p (members_under image p)) (λ valid. none (members_under image p) (valid_members p path valid)))
      ∙ ap (λ (b : Bool). unless_bad p (b && false)) folder)

  members_are : (p : Path) (s : Sight) → is_path p ≡ true → IsSightOf w.nodes p s → (b : Bool) → reads_folder (w.nodes p) ≡ b → s.members ≡ members_seen image p
  members_are p s path h true e = listed_is p s.members path (ap is_directory (node_is p p path (at_itself p)) ∙ sym (folder_read (w.nodes p)) ∙ e) (h.folder e)
  members_are p s path h false e =
      h.plain e
      ∙ sym (ap (λ (b : Bool). unless_bad p (b && are_valid_members p (members_under image p))) (ap is_directory (node_is p p path (at_itself p)) ∙ sym (folder_read (w.nodes p)) ∙ e))

  -- ## Sights

  pub sight_is : (p : Path) (s : Sight) → is_path p ≡ true → IsSightOf w.nodes p s → s ≡ sight_of image p
  sight_is p s path h =
      let stat : s.stat ≡ stat_of (image.node p) = h.stat ∙ sym (ap stat_of (node_is p p path (at_itself p))) in
      let members : s.members ≡ members_seen image p = members_are p s path h (reads_folder (w.nodes p)) refl in
      let guarded : s.guarded ≡ is_guarded image p = guarded_is p s.guarded path h.guarded in
      λ i. record { path = h.path i; stat = stat i; members = members i; guarded = guarded i; sum = h.unsummed i }

  -- what was seen, where no child owns the path or anything under it
  abbrev IsAsSeen : Sight → Type 0
  IsAsSeen s = IsUnownedUnder w.nodes s.path → s ≡ sight_of image s.path

  sights_are : (sights : List Sight) → Each (λ (p : Path). is_path_text p ≡ true) (are_paths sights) → Each (TellsUnowned w.nodes) sights → Each IsAsSeen sights
  sights_are [] paths h = tt
  sights_are (s ∷ sights) paths h = (λ free. sight_is s.path s (and_first (is_path s.path) (is_text s.path) paths.0) (h.0 free), sights_are sights paths.1 h.1)

  -- it was, there
  abbrev IsSeenThere : List Sight → Path → Type 0
  IsSeenThere sights q = IsUnownedUnder w.nodes q → sight_at sights q ≡ Some (sight_of image q)

  seen_at : (sights : List Sight) (q : Path) → is_named q (are_paths sights) ≡ true → Each IsAsSeen sights → IsSeenThere sights q
  seen_at [] q h are free = absurd (never_both false h refl)
  seen_at (s ∷ sights) q h are free = go (bytes_eq s.path q) refl (λ k. seen_at sights q k are.1 free)
    where
      go : (b : Bool) → bytes_eq s.path q ≡ b → (is_named q (are_paths sights) ≡ true → sight_at sights q ≡ Some (sight_of image q)) → find (λ (x : Sight). bytes_eq x.path q) (s ∷ sights) ≡ Some (sight_of image q)
      go true e again =
          ap (λ (b : Bool). cond b (Some s) (find (λ (x : Sight). bytes_eq x.path q) sights)) e
          ∙ ap Some (are.0 (subst (IsUnownedUnder w.nodes) (sym (same_place s.path q e)) free) ∙ ap (sight_of image) (same_place s.path q e))
      go false e again =
          ap (λ (b : Bool). cond b (Some s) (find (λ (x : Sight). bytes_eq x.path q) sights)) e
          ∙ again (sym (ap (λ (b : Bool). b || is_named q (are_paths sights)) (same_flipped q s.path ∙ e)) ∙ h)

  -- ## Jobs

  outs_seen : (P : Path → Type 0) (items : List OutItem) → Each P (flat_map item_paths items) → Each (λ (o : Out). P o.path) (flat_map (λ (item : OutItem). item.outs) items)
  outs_seen P [] h = tt
  outs_seen P (item ∷ items) h =
      each_both (λ (o : Out). P o.path) item.outs (flat_map (λ (i : OutItem). i.outs) items)
      (each_unmap P (λ (o : Out). o.path) item.outs (each_front P (item_paths item) (flat_map item_paths items) h))
      (outs_seen P items (each_back P (item_paths item) (flat_map item_paths items) h))

  jobs_seen : (P : Path → Type 0) (js : List Job) → Each P (flat_map job_paths js) → Each (λ (j : Job). Each (λ (o : Out). P o.path) (outs_of j.recipe)) js
  jobs_seen P [] h = tt
  jobs_seen P (j ∷ js) h = (
    outs_seen P j.recipe.outputs (each_front P (job_paths j) (flat_map job_paths js) h),
    jobs_seen P js (each_back P (job_paths j) (flat_map job_paths js) h),
  )

  sources_seen : (P : Path → Type 0) (ms : List Maker) → Each P (flat_map source_path ms) → Each (λ (m : Maker). m.job ≡ None → P m.path) ms
  sources_seen P [] h = tt
  sources_seen P (m ∷ ms) h = (
    λ none. (subst (λ (o : Option ℕ). Each P (unless_made m.path o)) none (each_front P (source_path m) (flat_map source_path ms) h)).0,
    sources_seen P ms (each_back P (source_path m) (flat_map source_path ms) h),
  )

  held_seen : (paths : Texts) (sights : List Sight) → are_paths sights ≡ filter is_path_text (texts_of paths.keys) → Each IsAsSeen sights → (q : Path) → IsHeld paths q → IsPlain w image sights q
  held_seen paths sights all are q held =
      record {
        path = held.0;
        seen = seen_at sights q
            (ap (is_named q) all ∙ named_filter is_path_text q (texts_of paths.keys)
            ∙ both_true (is_path_text q) (is_named q (texts_of paths.keys)) held.0 (sym (contains_named q paths.keys) ∙ held.1)) are;
      }

  path_texts : (ts : List Path) → Each (λ (p : Path). is_path_text p ≡ true) (filter is_path_text ts)
  path_texts ts = each_more (λ (p : Path). (is_path_text p ≡ true) × Unit {0}) (λ (p : Path). is_path_text p ≡ true) (λ p h. h.0) (filter is_path_text ts) (each_kept is_path_text (λ p. Unit {0}) ts (units ts))

  pub all_plain : (jobs : Jobs) (paths : Texts) (sights : List Sight) → Each (IsHeld paths) (wanted jobs) → are_paths sights ≡ filter is_path_text (texts_of paths.keys) → Each (TellsUnowned w.nodes) sights
      → ArePlain w image jobs sights
  all_plain jobs paths sights held all told =
      let are = sights_are sights (subst (Each (λ (p : Path). is_path_text p ≡ true)) (sym all) (path_texts (texts_of paths.keys))) told in
      each_more (IsHeld paths) (IsPlain w image sights) (held_seen paths sights all are) (wanted jobs) held

  -- ## Digests

  -- the digest, if any, is that of the file
  abbrev HasDigest : Option Node → Option Digest → Type 0
  HasDigest n None = Unit {0}
  HasDigest n (Some d) = (f : Content) × (content_of n ≡ Some f) × (is_summed f.bytes ≡ true) × (sum_of f.bytes ≡ d)

  node_digest : (n : Option Node) → HasDigest n (sum_in n)
  node_digest None = tt
  node_digest (Some Directory) = tt
  node_digest (Some (Regular bytes time read_only)) = go (is_summed bytes) refl
    where
      go : (b : Bool) → is_summed bytes ≡ b → HasDigest (Some (Regular bytes time read_only)) (option_map sum_of (if b then Some bytes else None))
      go true e = (record { bytes = bytes; time = time; read_only = read_only }, refl, e, refl)
      go false e = tt

  has_sum : (q : Path) (d : Option Digest) → HasDigest (image.node q) d → HasSum image q d
  has_sum q None h = tt
  has_sum q (Some d) h = h

  module _ (needed : Path → Bool) (before : List Sight) (ds : List (Option Digest)) (sums : AreSums w (paths_where needed before) ds) where
    abbrev with_them : List Sight
    with_them = put_sums needed before ds

    put_in : (q : Path) → IsPlain w image before q → IsUnownedUnder w.nodes q → IsPut needed (IsSum w) (sight_of image q) q (sight_at with_them q)
    put_in q plain free = put_at needed (IsSum w) before ds q (sight_of image q) sums (plain.seen free)

    -- the digest of the file, as it stands in the image
    sum_is : (q : Path) (d : Option Digest) → IsPlain w image before q → IsUnownedUnder w.nodes q → IsSum w q d → d ≡ sum_in (image.node q)
    sum_is q d plain free is = is (free q (at_itself q)) ∙ sym (ap sum_in (node_is q q (and_first (is_path q) (is_text q) plain.path) (at_itself q)))

    summed_seen : (q : Path) → IsPlain w image before q → IsSeenUnowned w image with_them q
    summed_seen q plain free =
        let p = put_in q plain free in
        (p.sum, p.seen, go (needed q) refl p)
      where
        go : (b : Bool) → needed q ≡ b → (p : IsPut needed (IsSum w) (sight_of image q) q (sight_at with_them q)) → HasSum image q p.sum
        go true e p = has_sum q p.sum (subst (HasDigest (image.node q)) (sym (sum_is q p.sum plain free (p.right e))) (node_digest (image.node q)))
        go false e p = subst (HasSum image q) (sym (p.none e)) tt

    pub all_seen : (jobs : Jobs) → ArePlain w image jobs before → AreSeenUnowned w image jobs with_them
    all_seen jobs plain =
        let each : Each (IsSeenUnowned w image with_them) (wanted jobs) = each_more (IsPlain w image before) (IsSeenUnowned w image with_them) summed_seen (wanted jobs) plain in
        record {
          outputs = jobs_seen (IsSeenUnowned w image with_them) jobs.jobs (each_front (IsSeenUnowned w image with_them) (flat_map job_paths jobs.jobs) (flat_map source_path jobs.makers) each);
          sources = sources_seen (IsSeenUnowned w image with_them) jobs.makers (each_back (IsSeenUnowned w image with_them) (flat_map job_paths jobs.jobs) (flat_map source_path jobs.makers) each);
        }

    -- a file with a digest, where one is needed
    summed_at : (q : Path) (f : Content) → IsPlain w image before q → IsUnownedUnder w.nodes q → file_at image q ≡ Some f → is_summed f.bytes ≡ true → needed q ≡ true → is_seen_summed with_them q ≡ true
    summed_at q f plain free file small need =
        let p = put_in q plain free in
        ap (test_some (λ (s : Sight). is_some s.sum)) p.seen ∙ ap is_some (sum_is q p.sum plain free (p.right need)) ∙ some_sum (image.node q) f file small

  -- ## Sources

  -- the paths of these that no job makes
  abbrev told_of : List Maker → List Path
  told_of ms = map (λ (m : Maker). m.path) (filter (λ (m : Maker). is_none m.job) ms)

  told_plain : (sights : List Sight) (ms : List Maker) (q : Path) → Each (IsPlain w image sights) (flat_map source_path ms) → is_named q (told_of ms) ≡ true → IsPlain w image sights q
  told_plain sights [] q each h = absurd (never_both false h refl)
  told_plain sights (m ∷ ms) q each h = go m.job each h (λ more k. told_plain sights ms q more k)
    where
      go : (o : Option ℕ) → Each (IsPlain w image sights) (unless_made m.path o ++ flat_map source_path ms)
          → is_named q (map (λ (x : Maker). x.path) (cond (is_none o) (m ∷ filter (λ (x : Maker). is_none x.job) ms) (filter (λ (x : Maker). is_none x.job) ms))) ≡ true
          → (Each (IsPlain w image sights) (flat_map source_path ms) → is_named q (told_of ms) ≡ true → IsPlain w image sights q) → IsPlain w image sights q
      go None all k more =
          elim (or_cases (bytes_eq q m.path) (is_named q (told_of ms)) k) [
            | inl here ↦ subst (IsPlain w image sights) (sym (same_place q m.path here)) all.0
            | inr there ↦ more all.1 there
          ]
      go (Some n) all k more = more all k

  pub all_summed : (known : List Known) (jobs : Jobs) (before : List Sight) (ds : List (Option Digest)) → AreSums w (paths_where (needs_digest known jobs before) before) ds → IsStoreOf image known → ArePlain w image jobs before
      → AreSummedUnowned w image jobs (put_sums (needs_digest known jobs before) before ds)
  all_summed known jobs before ds sums stored plain =
      each_in (λ (j : Job). Each (IsSummedUnowned w image jobs (put_sums (needs_digest known jobs before) before ds) j) (in_paths j.recipe)) jobs.jobs
      (λ j here. each_in (IsSummedUnowned w image jobs (put_sums (needs_digest known jobs before) before ds) j) (in_paths j.recipe) (λ q at. input_summed j here q at))
    where
      needed_at : (j : Job) → IsIn jobs.jobs j → (q : Path) → IsIn (in_paths j.recipe) q → (f : Content) → IsPlain w image before q → IsUnownedUnder w.nodes q → file_at image q ≡ Some f → is_covered image q ≡ false
          → needs_sum (records_by image.kept j) q f.time ≡ true → needs_digest known jobs before q ≡ true
      needed_at j here q at f plain free file apart need =
          let time : time_seen before q ≡ Some f.time = ap (option_and_then (λ (s : Sight). time_by s.stat)) (plain.seen free) ∙ file_time (image.node q) f file in
          ap (test_some (is_needed known jobs q)) time
          ∙ both_true (not (is_covered_in known q)) (list_any (asks_for known q f.time) jobs.jobs) (ap not (stored.covered q ∙ apart))
          (any_in (asks_for known q f.time) jobs.jobs j here
          (both_true (among (in_paths j.recipe) q) (needs_sum (records_by (kept_in known) j) q f.time) (named_in q (in_paths j.recipe) at)
          (ap (λ (kept : Path → Kept). needs_sum (records_by kept j) q f.time) (λ i. λ p. kept_same image known stored p i) ∙ need)))

      input_summed : (j : Job) → IsIn jobs.jobs j → (q : Path) → IsIn (in_paths j.recipe) q → IsSummedUnowned w image jobs (put_sums (needs_digest known jobs before) before ds) j q
      input_summed j here q at free told f source small need =
          let p = told_plain before jobs.makers q (each_back (IsPlain w image before) (flat_map job_paths jobs.jobs) (flat_map source_path jobs.makers) plain) told in
          let s = source_file image q f source in
          summed_at (needs_digest known jobs before) before ds sums q f p free s.0 small (needed_at j here q at f p free s.0 s.1 need)

-- ## After the digests were put

same_sums : (w v : World) (ps : List Path) (ds : List (Option Digest)) → v.nodes ≡ w.nodes → AreSums v ps ds → AreSums w ps ds
same_sums w v ps ds same sums = subst (λ (n : Nodes). AllZip (λ p s. n p ≢ Owned → s ≡ sum_in (reading (n p))) ps ds) same sums

pub seen_after : (read : List ℕ → Option Record) (w v : World) → IsFormed w → IsTree w → v.nodes ≡ w.nodes → (d : Device) → d.world ≡ Some v → (needed : Path → Bool) (jobs : Jobs) (before after : List Sight)
    → HavePut d needed before after → ArePlain w (seen read w) jobs before → AreSeenUnowned w (seen read w) jobs after
seen_after read w v formed tree same d at needed jobs before after put plain =
    subst (AreSeenUnowned w (seen read w) jobs) (sym put.put)
    (all_seen read w formed tree needed before put.sums (same_sums w v (paths_where needed before) put.sums same (put.told v at)) jobs plain)

pub summed_after : (read : List ℕ → Option Record) (w v : World) → IsFormed w → IsTree w → v.nodes ≡ w.nodes → (d : Device) → d.world ≡ Some v → (known : List Known) (jobs : Jobs) (before after : List Sight)
    → HavePut d (needs_digest known jobs before) before after → ArePlain w (seen read w) jobs before → IsStoreOf (seen read w) known → AreSummedUnowned w (seen read w) jobs after
summed_after read w v formed tree same d at known jobs before after put plain stored =
    subst (AreSummedUnowned w (seen read w) jobs) (sym put.put)
    (all_summed read w formed tree known jobs before put.sums (same_sums w v (paths_where (needs_digest known jobs before) before) put.sums same (put.told v at)) stored plain)

pub spared_after : (d : Device) (known : List Known) (jobs : Jobs) (before after : List Sight) → HavePut d (needs_digest known jobs before) before after → AreSpared known jobs after
spared_after d known jobs before after put = λ q summed.
    ap (test_some (is_needed known jobs q)) (ap (λ (sights : List Sight). time_seen sights q) put.put ∙ put_time (needs_digest known jobs before) before put.sums q)
    ∙ put_spared (needs_digest known jobs before) before put.sums q (sym (ap (λ (sights : List Sight). is_seen_summed sights q) put.put) ∙ summed)

-- where no child owns a place, all is seen
pub seen_of : (w : World) (image : Image) (jobs : Jobs) (sights : List Sight) → ((q : Path) → w.nodes q ≢ Owned) → AreSeenUnowned w image jobs sights → IsSeenOf image jobs sights
seen_of w image jobs sights none seen =
    record {
      outputs = each_more (λ (j : Job). Each (λ (o : Out). IsSeenUnowned w image sights o.path) (outs_of j.recipe)) (λ (j : Job). Each (λ (o : Out). IsSeenAs image sights o.path) (outs_of j.recipe))
          (λ j h. each_more (λ (o : Out). IsSeenUnowned w image sights o.path) (λ (o : Out). IsSeenAs image sights o.path) (λ o t. t (λ q at. none q)) (outs_of j.recipe) h) jobs.jobs seen.outputs;
      sources = each_more (λ (m : Maker). m.job ≡ None → IsSeenUnowned w image sights m.path) (IsSourceSeen image sights) (λ m h none_made. h none_made (λ q at. none q)) jobs.makers seen.sources;
    }

-- where no child owns a place, and each input that is a source is told as one, all digests that are needed are seen
pub summed_of : (w : World) (image : Image) (jobs : Jobs) (sights : List Sight) → ((q : Path) → w.nodes q ≢ Owned)
    → Each (λ (j : Job). Each (λ (q : Path). is_source image q ≡ true → among (map (λ (m : Maker). m.path) (filter (λ (m : Maker). is_none m.job) jobs.makers)) q ≡ true) (in_paths j.recipe)) jobs.jobs
    → AreSummedUnowned w image jobs sights → AreSummed image jobs sights
summed_of w image jobs sights none tells summed =
    each_zip (λ (j : Job). Each (λ (q : Path). is_source image q ≡ true → among (map (λ (m : Maker). m.path) (filter (λ (m : Maker). is_none m.job) jobs.makers)) q ≡ true) (in_paths j.recipe))
    (λ (j : Job). Each (IsSummedUnowned w image jobs sights j) (in_paths j.recipe)) (λ (j : Job). Each (IsSummed image sights j) (in_paths j.recipe))
    (λ j tell sum. each_zip (λ (q : Path). is_source image q ≡ true → among (map (λ (m : Maker). m.path) (filter (λ (m : Maker). is_none m.job) jobs.makers)) q ≡ true)
    (IsSummedUnowned w image jobs sights j) (IsSummed image sights j) (λ q told unowned f source small need. unowned (λ r at. none r) (told (source_is image q f source)) f source small need) (in_paths j.recipe) tell sum)
    jobs.jobs tells summed
