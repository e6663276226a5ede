-- What is picked of a kept plan is what may start, and what is spent.
use Rattle.std.proofs.Common.{◌≡◌, Bool, true, false, cond, ◌&&◌, List, [], ◌∷◌, ◌++◌, filter, flat_map, refl, sym, ap, subst, inl, inr, ◌∙◌}
use Rattle.std.proofs.Common.{Option, Some, None, option_map, is_some}
use Rattle.std.specs.Prelude.{bytes_eq, IsSome}
use Rattle.std.specs.List.{list_any}
use Rattle.smk_base.specs.Path.{is_under}
use Rattle.smk_base.proofs.Places.{same_place}
use Rattle.smk_world.specs.declared.event.Node.{Node}
use Rattle.smk_world.specs.declared.event.Node.TheVariants.{Regular, Directory}
use Rattle.smk_world.specs.Calls.{stat_of}
use Rattle.smk_world.specs.Folders.{IsTree}
use Rattle.smk_world.specs.World.{reading}
use Rattle.smk_world.specs.Trees.{Path, IsIn, below}
use Rattle.smk_record.specs.declared.record.Member.{Member}
use Rattle.smk_record.specs.Records.{are_valid_members, members_of, same_flag, same_member}
use Rattle.smk_flow.specs.declared.job.Job.{Job}
use Rattle.smk_store.specs.declared.store.Entry.{Entry}
use Rattle.smk_store.specs.declared.store.Kept.{Kept}
use Rattle.smk_store.specs.Images.{Image, is_directory, is_folder, is_outside, members_under, names_under, readable, record_at}
use Rattle.smk_store.specs.Stores.{entry_of}
use Rattle.smk_trigger.specs.declared.reason.State.{State}
use Rattle.smk_plan.specs.Sights.{IsSeenAs, members_seen}
use Rattle.smk_plan.specs.States.{Plan, is_spent, none_or_one, staged, test_some}
use Rattle.smk_plan_facts.specs.Telling.{kept_of}
use Rattle.smk_plan_live.specs.Live.{LivePlan}
use Rattle.smk_plan_live.specs.Now.{known_now, seen_now}
use Rattle.smk_drive.specs.Moments.{Rules, Moment, progress_of, seen}
use Rattle.smk_drive.specs.Lawful.{fit_together, running_jobs}
use Rattle.smk_drive_course.specs.Lawful.{is_free_to_start}
use Rattle.smk_drive_course.specs.Steps.{IsAsListed}
use Rattle.smk_drive_pick.specs.Picking.{plan_of}
use Rattle.smk_drive_pick.specs.Spending.{are_listed, is_loose, listed_by, may_go, spent_now, was_loose, were_listed}
use Rattle.smk_laws_plan.proofs.CurrentLists.{In, all_in, and_left, and_right, any_from, any_in, clash_of, filter_in, flat_in, map_in, none_some}
use Rattle.smk_laws_begins.specs.Picked.{MayStartAsKept, SpentAsKept, judging_at}

append_end : {A : Type 0} (xs : List A) → xs ++ [] ≡ xs
append_end [] = refl
append_end (x ∷ xs) = ap (λ ys. x ∷ ys) (append_end xs)

in_is : {A : Type 0} (xs : List A) (x : A) → IsIn xs x → In x xs
in_is [] x i = i
in_is (y ∷ ys) x (inl e) = inl e
in_is (y ∷ ys) x (inr i) = inr (in_is ys x i)

is_in : {A : Type 0} (xs : List A) (x : A) → In x xs → IsIn xs x
is_in [] x i = i
is_in (y ∷ ys) x (inl e) = inl e
is_in (y ∷ ys) x (inr i) = inr (is_in ys x i)

-- ## What may start

pub may_start_as_kept : MayStartAsKept
may_start_as_kept rules m live is =
    ap (λ o. flat_map free (none_or_one o)) is ∙ append_end (free (plan_of live))
  where
    free : Plan → List (Job × State)
    free plan = filter (λ (e : Job × State). is_free_to_start rules m plan e && fit_together rules (e.0 ∷ running_jobs m)) (staged plan)

-- ## What is spent

same_one : (a b : Member) → same_member a b ≡ true → a ≡ b
same_one a b h =
    let kinds = flag a.folder b.folder (and_left (same_flag a.folder b.folder) (bytes_eq a.name b.name) h) in
    let names = same_place a.name b.name (and_right (same_flag a.folder b.folder) (bytes_eq a.name b.name) h) in
    λ i. record { folder = kinds i; name = names i }
  where
    flag : (x y : Bool) → same_flag x y ≡ true → x ≡ y
    flag true true e = refl
    flag true false e = absurd (clash_of false e refl)
    flag false true e = absurd (clash_of false e refl)
    flag false false e = refl

-- nothing is under a file
module _ (rules : Rules) (m : Moment) (tree : IsTree m.world) where
  abbrev image : Image
  image = seen rules m.world

  under_file : (p : Path) (n : Node) → image.node p ≡ Some n → is_directory (Some n) ≡ false → (k : Member) → IsIn (members_under image p) k → ⊥
  under_file p n e file k i =
      let q = map_in (λ (q : Path). record { folder = is_folder image q; name = below p q }) (names_under image p) k (in_is (members_under image p) k i) in
      let named = filter_in (λ (q : Path). is_under q p) image.names q.0 q.1 in
      let standing = filter_in (λ (q : Path). is_outside q && is_some (reading (m.world.nodes q))) m.world.names q.0 named.0 in
      let stood = and_right (is_outside q.0) (is_some (reading (m.world.nodes q.0))) standing.1 in
      go (is_outside p) (reading (m.world.nodes p)) ((tree q.0 (some_is (reading (m.world.nodes q.0)) stood)).folders p named.1) e
    where
      some_is : (o : Option Node) → is_some o ≡ true → IsSome o
      some_is None h = absurd (clash_of false h refl)
      some_is (Some x) h = refl

      go : (b : Bool) (o : Option Node) → o ≡ Some Directory → cond b o None ≡ Some n → ⊥
      go true o f g = clash_of (is_directory (Some n)) (sym (ap is_directory (sym f ∙ g))) file
      go false o f g = none_some None n refl g

  loose_is :
      (live : LivePlan) (p : Path) → may_go live p ≡ true → IsSeenAs image (seen_now live.base) p →
      kept_of (entry_of (known_now live.base) p) ≡ image.kept p → IsAsListed image p
  loose_is live p goes (d, sees, sum) kept k i =
      at_node (image.node p) refl
      (sym (ap (was_loose (option_map (λ (e : Entry). e.kept) (entry_of (known_now live.base) p))) sees) ∙ goes)
    where
      listed : listed_by (option_map (λ (e : Entry). e.kept) (entry_of (known_now live.base) p)) ≡ members_of (record_at image p)
      listed = go (entry_of (known_now live.base) p) refl ∙ ap (λ (x : Kept). members_of (readable x)) kept
        where
          go : (o : Option Entry) → entry_of (known_now live.base) p ≡ o → listed_by (option_map (λ (e : Entry). e.kept) o) ≡ members_of (readable (kept_of o))
          go None e = refl
          go (Some e) f = refl

      at_node :
          (o : Option Node) → image.node p ≡ o →
          is_loose (listed_by (option_map (λ (e : Entry). e.kept) (entry_of (known_now live.base) p))) (members_seen image p) (stat_of (image.node p)) ≡ true →
          IsIn (members_of (record_at image p)) k
      at_node None e h =
          absurd
          (clash_of false
          (sym (ap (λ n. is_loose (listed_by (option_map (λ (e : Entry). e.kept) (entry_of (known_now live.base) p))) (members_seen image p) (stat_of n)) e)
          ∙ h)
          refl)
      at_node (Some Directory) e h = folder (is_folder image p && are_valid_members p (members_under image p)) refl
        where
          seen_so : were_listed (listed_by (option_map (λ (e : Entry). e.kept) (entry_of (known_now live.base) p))) (members_seen image p) ≡ true
          seen_so =
              sym (ap (λ n. is_loose (listed_by (option_map (λ (e : Entry). e.kept) (entry_of (known_now live.base) p))) (members_seen image p) (stat_of n)) e)
              ∙ h

          each : (all : List Member) → are_listed (members_of (record_at image p)) all ≡ true → IsIn all k → IsIn (members_of (record_at image p)) k
          each all a j =
              let found = all_in (λ (x : Member). list_any (same_member x) (members_of (record_at image p))) all k a (in_is all k j) in
              let r = any_in (same_member k) (members_of (record_at image p)) found in
              is_in (members_of (record_at image p)) k (subst (λ (x : Member). In x (members_of (record_at image p))) (sym (same_one k r.0 r.2)) r.1)

          folder : (b : Bool) → (is_folder image p && are_valid_members p (members_under image p)) ≡ b → IsIn (members_of (record_at image p)) k
          folder true v =
              each (members_under image p)
              (sym (λ i. were_listed (listed i) (cond (v i) (Some (members_under image p)) None)) ∙ seen_so)
              i
          folder false v = absurd (clash_of false (sym (λ i. were_listed (listed i) (cond (v i) (Some (members_under image p)) None)) ∙ seen_so) refl)
      at_node (Some (Regular bytes time read_only)) e h = absurd (under_file p (Regular bytes time read_only) e refl k i)

pub spent_as_kept : SpentAsKept
spent_as_kept rules m live p tree is i =
    let e = flat_in spent_of (staged (plan_of live)) p (in_is (spent_now (judging_at rules m) live) p i) in
    let s = filter_in (goes_now e.0) e.0.0.temps p e.2 in
    let gone = and_left (is_spent (seen rules m.world) rules.settings (progress_of m.world m.begun) (plan_of live) e.0 p) (may_go live p) s.1 in
    let goes = and_right (is_spent (seen rules m.world) rules.settings (progress_of m.world m.begun) (plan_of live) e.0 p) (may_go live p) s.1 in (
      ap (test_some any_spent) is
          ∙ any_from (λ (e : Job × State). is_spent (seen rules m.world) rules.settings (progress_of m.world m.begun) (plan_of live) e p)
          (staged (plan_of live)) e.0 e.1 gone,
      λ sees kept. loose_is rules m tree live p goes sees kept,
    )
  where
    goes_now : Job × State → Path → Bool
    goes_now e q = is_spent (seen rules m.world) rules.settings (progress_of m.world m.begun) (plan_of live) e q && may_go live q

    spent_of : Job × State → List Path
    spent_of e = filter (goes_now e) e.0.temps

    any_spent : Plan → Bool
    any_spent plan = list_any (λ (e : Job × State). is_spent (seen rules m.world) rules.settings (progress_of m.world m.begun) plan e p) (staged plan)
