-- What is told of jobs stays, but for what is told anew, where what is known and seen changes at the outputs of one job alone.
use Rattle.std.proofs.Common.{◌≡◌, ℕ, zero, suc, Bool, true, false, not, ◌&&◌, ◌||◌, ◌==◌, List, [], ◌∷◌, ◌++◌, map, Option, Some, None, refl, sym, ap, ap₂, subst, ◌∙◌, inl, inr, bytes_eq}
use Rattle.std.specs.Prelude.{if◌then◌else◌, is_some, ◌⊎◌}
use Rattle.std.specs.List.{list_any, flat_map}
use Rattle.std.specs.Option.{option_or}
use Rattle.std.proofs.lemmas.List.{map-append}
use Rattle.std.proofs.lemmas.Bool.{eq-eqb, or_parts}
use Rattle.std.proofs.lemmas.List.Folds.{list_any-append}
use Rattle.std.proofs.lemmas.Option.{same_Some}
use Rattle.smk_base.specs.Path.{is_under, is_at_or_under, overlaps}
use Rattle.smk_base.proofs.Places.{same_place, place_itself}
use Rattle.smk_base.proofs.Under.{never_both, false_unless, or_first, or_second, or_cases, at_itself, at_when_under, both_true}
use Rattle.smk_base.specs.declared.tree.Amount.{Amount}
use Rattle.smk_world.specs.declared.recipe.Item.{Item}
use Rattle.smk_world.specs.declared.recipe.Out.{Out}
use Rattle.smk_world.specs.declared.recipe.OutItem.{OutItem}
use Rattle.smk_world.specs.declared.recipe.Recipe.{Recipe}
use Rattle.smk_world.specs.World.{in_paths, out_paths, folders_above}
use Rattle.smk_world.specs.Trees.{Path, Each, among, outs_of}
use Rattle.smk_record.specs.declared.record.Stamp.{Stamp}
use Rattle.smk_flow.specs.declared.job.Job.{Job}
use Rattle.smk_store.specs.declared.store.Entry.{Entry}
use Rattle.smk_store.specs.Images.{readable}
use Rattle.smk_store.specs.Stores.{Known, entry_of}
use Rattle.smk_plan.specs.declared.seen.Sight.{Sight}
use Rattle.smk_plan.specs.Sights.{job_at}
use Rattle.smk_plan.specs.States.{makes, test_some}
use Rattle.smk_plan_facts.specs.Telling.{kept_of, mark_of, copied, copied_at, marked_at, stamp_by, nearer, nearest, stamp_seen, stamp_in, facts_in, whole_at, directories_of, outputs_in, is_made_in}
use Rattle.smk_plan_facts.proofs.Stays.{whole_same, made_same as made_stays}
use Rattle.smk_plan_facts.proofs.Tests.{map_each, each_of}
use Rattle.smk_plan_states.specs.Served.{AreApart, outputs_of}
use Rattle.smk_plan_table.specs.declared.suspects.Suspect.{Suspect}
use Rattle.smk_plan_table.specs.Parts.{IsSuspectOf, is_guarded_in, is_marked_in}
use Rattle.smk_plan_live.specs.Same.{paths_in, is_over, is_user, AreSameBut}

-- ## Lists

each_not : {A : Type 0} (test : A → Bool) (xs : List A) → list_any test xs ≡ false → Each (λ x. test x ≡ false) xs
each_not test [] h = tt
each_not test (x ∷ xs) h = let r = or_parts (test x) (list_any test xs) h in (r.0, each_not test xs r.1)

each_mapped : {A B : Type 0} (P : B → Type 0) (f : A → B) (xs : List A) → Each P (map f xs) → Each (λ x. P (f x)) xs
each_mapped P f [] h = tt
each_mapped P f (x ∷ xs) h = (h.0, each_mapped P f xs h.1)

-- what is made of each element of each part is what is made of all elements
pub map_parts : {A B C : Type 0} (f : B → C) (part : A → List B) (xs : List A) → flat_map (λ x. map f (part x)) xs ≡ map f (flat_map part xs)
map_parts f part [] = refl
map_parts f part (x ∷ xs) = ap (λ ys. map f (part x) ++ ys) (map_parts f part xs) ∙ sym (map-append f (part x) (flat_map part xs))

-- an element of one of the parts passes where one of all elements does
pub any_parts : {A B : Type 0} (test : B → Bool) (part : A → List B) (xs : List A) → list_any (λ x. list_any test (part x)) xs ≡ list_any test (flat_map part xs)
any_parts test part [] = refl
any_parts test part (x ∷ xs) = ap (λ b. list_any test (part x) || b) (any_parts test part xs) ∙ sym (list_any-append test (part x) (flat_map part xs))

pub stamps_by : (f : Path → Option Stamp) (r : Recipe) → flat_map (λ (item : Item). map f item.paths) r.inputs ≡ map f (in_paths r)
stamps_by f r = map_parts f (λ (item : Item). item.paths) r.inputs

by_outs : {A : Type 0} (f : Out → A) (r : Recipe) → flat_map (λ (item : OutItem). map f item.outs) r.outputs ≡ map f (outs_of r)
by_outs f r = map_parts f (λ (item : OutItem). item.outs) r.outputs

-- ## Folders above a path

each_longer : (b : ℕ) (text : Path) (folders : List Path) → Each (λ f. is_under text f ≡ true) folders → Each (λ f. is_under (b ∷ text) f ≡ true) (map (λ q. b ∷ q) folders)
each_longer b text [] h = tt
each_longer b text (f ∷ folders) h = (both_true (b == b) (is_under text f) (eq-eqb b b refl) h.0, each_longer b text folders h.1)

-- the path lies under each folder above it
each_above : (q : Path) → Each (λ f. is_under q f ≡ true) (folders_above q)
each_above [] = tt
each_above (b ∷ text) = go (b == 47) refl (each_longer b text (folders_above text) (each_above text))
  where
    go : (slash : Bool) → (b == 47) ≡ slash → Each (λ f. is_under (b ∷ text) f ≡ true) (map (λ q. b ∷ q) (folders_above text)) →
        Each (λ f. is_under (b ∷ text) f ≡ true) (if slash then [] ∷ map (λ q. b ∷ q) (folders_above text) else map (λ q. b ∷ q) (folders_above text))
    go true e h = (e, h)
    go false e h = h

pub over_at : (outs : List Out) (q p : Path) → is_at_or_under q p ≡ true → among (paths_in outs) p ≡ true → is_over outs q ≡ true
over_at [] q p at h = h
over_at (o ∷ outs) q p at h = go (or_cases (bytes_eq p o.path) (among (paths_in outs) p) h) (over_at outs q p at)
  where
    go : (bytes_eq p o.path ≡ true) ⊎ (among (paths_in outs) p ≡ true) → (among (paths_in outs) p ≡ true → is_over outs q ≡ true) → is_over (o ∷ outs) q ≡ true
    go (inl e) more = or_first (is_at_or_under q o.path) (is_over outs q) (subst (λ x. is_at_or_under q x ≡ true) (same_place p o.path e) at)
    go (inr e) more = or_second (is_at_or_under q o.path) (is_over outs q) (more e)

-- what a path lies at or under is none of the outputs, where it lies at or under none
free_at : (outs : List Out) (q p : Path) → is_over outs q ≡ false → is_at_or_under q p ≡ true → among (paths_in outs) p ≡ false
free_at outs q p free at = false_unless (among (paths_in outs) p) (λ e. never_both (is_over outs q) (over_at outs q p at e) free)

-- ## What stays

module _ (outs : List Out) (old new : List Known) (saw sees : List Sight) (same : AreSameBut outs old new saw sees) (told : Path → Bool) where
  each_entry : (q : Path) → is_over outs q ≡ false → (folders : List Path) → Each (λ f. is_under q f ≡ true) folders → Each (λ f. entry_of new f ≡ entry_of old f) folders
  each_entry q free [] h = tt
  each_entry q free (f ∷ folders) h = (same.known f (free_at outs q f free (at_when_under q f h.0)), each_entry q free folders h.1)

  any_same : (ps : List Path) → Each (λ p. entry_of new p ≡ entry_of old p) ps → list_any (λ p. is_some (entry_of new p)) ps ≡ list_any (λ p. is_some (entry_of old p)) ps
  any_same [] h = refl
  any_same (p ∷ ps) h = ap₂ (λ a b. a || b) (ap is_some h.0) (any_same ps h.1)

  nearest_same : (folders : List Path) (found : Option Stamp) → Each (λ f. entry_of new f ≡ entry_of old f) folders → nearest new found folders ≡ nearest old found folders
  nearest_same [] found h = refl
  nearest_same (f ∷ folders) found h = ap (λ e. nearest new (nearer e f found) folders) h.0 ∙ nearest_same folders (nearer (entry_of old f) f found) h.1

  -- the stamp of a path at or under none of the outputs
  pub stamp_same : (q : Path) → is_over outs q ≡ false → stamp_in new sees told q ≡ stamp_in old saw told q
  stamp_same q free =
      let own = free_at outs q q free (at_itself q) in
      let entry = same.known q own in
      let sight = same.seen q own in
      let above = each_entry q free (folders_above q) (each_above q) in
      let covered = any_same (q ∷ folders_above q) (entry, above) in
      let near = nearest_same (folders_above q) None above in
      λ i.
      option_or (if told q && not (covered i) then stamp_seen (sight i) else None)
      (if is_some (readable (kept_of (entry i))) then stamp_by (entry i) else near i)

  each_stamp : (ps : List Path) → Each (λ q. is_over outs q ≡ false) ps → Each (λ q. stamp_in new sees told q ≡ stamp_in old saw told q) ps
  each_stamp [] h = tt
  each_stamp (q ∷ ps) h = (stamp_same q h.0, each_stamp ps h.1)

  each_kept : (os : List Out) → Each (λ (o : Out). among (paths_in outs) o.path ≡ false) os → Each (λ (o : Out). copied_at new o ≡ copied_at old o) os
  each_kept [] h = tt
  each_kept (o ∷ os) h = (ap (λ e. copied (kept_of e)) (same.known o.path h.0), each_kept os h.1)

  each_mark : (os : List Out) → Each (λ (o : Out). among (paths_in outs) o.path ≡ false) os → Each (λ (o : Out). marked_at new o ≡ marked_at old o) os
  each_mark [] h = tt
  each_mark (o ∷ os) h = (ap mark_of (same.known o.path h.0), each_mark os h.1)

  -- none of a job's outputs is among these
  abbrev pub IsOther : Job → Type 0
  IsOther k = Each (λ q. among (paths_in outs) q ≡ false) (out_paths k.recipe)

  others : (k : Job) → IsOther k → Each (λ (o : Out). among (paths_in outs) o.path ≡ false) (outs_of k.recipe)
  others k other =
      each_mapped (λ q. among (paths_in outs) q ≡ false) (λ (o : Out). o.path) (outs_of k.recipe)
      (subst (Each (λ q. among (paths_in outs) q ≡ false)) (by_outs (λ (o : Out). o.path) k.recipe) other)

  kept_same : (k : Job) → IsOther k → map (copied_at new) (outs_of k.recipe) ≡ map (copied_at old) (outs_of k.recipe)
  kept_same k other = map_each (copied_at new) (copied_at old) (outs_of k.recipe) (each_kept (outs_of k.recipe) (others k other))

  kept_stays :
      (k : Job) → IsOther k →
      flat_map (λ (item : OutItem). map (copied_at new) item.outs) k.recipe.outputs ≡ flat_map (λ (item : OutItem). map (copied_at old) item.outs) k.recipe.outputs
  kept_stays k other = by_outs (copied_at new) k.recipe ∙ kept_same k other ∙ sym (by_outs (copied_at old) k.recipe)

  marks_stay :
      (k : Job) → IsOther k →
      flat_map (λ (item : OutItem). map (marked_at new) item.outs) k.recipe.outputs ≡ flat_map (λ (item : OutItem). map (marked_at old) item.outs) k.recipe.outputs
  marks_stay k other =
      by_outs (marked_at new) k.recipe ∙ map_each (marked_at new) (marked_at old) (outs_of k.recipe) (each_mark (outs_of k.recipe) (others k other))
      ∙ sym (by_outs (marked_at old) k.recipe)

  stamps_stay :
      (k : Job) → is_user outs k ≡ false →
      flat_map (λ (item : Item). map (stamp_in new sees told) item.paths) k.recipe.inputs ≡ flat_map (λ (item : Item). map (stamp_in old saw told) item.paths) k.recipe.inputs
  stamps_stay k free =
      stamps_by (stamp_in new sees told) k.recipe
      ∙ map_each (stamp_in new sees told) (stamp_in old saw told) (in_paths k.recipe) (each_stamp (in_paths k.recipe) (each_not (is_over outs) (in_paths k.recipe) free))
      ∙ sym (stamps_by (stamp_in old saw told) k.recipe)

  -- the facts of a job that reads at or under none of the outputs and makes none of them
  pub facts_same :
      (forced : Job → Bool) (k : Job) → is_user outs k ≡ false → IsOther k → facts_in new sees told forced k ≡ facts_in old saw told forced k
  facts_same forced k free other =
      let kept = kept_stays k other in
      let marks = marks_stay k other in
      let stamps = stamps_stay k free in
      λ i. record { recipe = k.recipe; kept = kept i; marked = marks i; stamps = stamps i; forced = forced k }

  -- ## What is whole

  -- nothing has changed at the path
  abbrev IsFree : Path → Type 0
  IsFree p = among (paths_in outs) p ≡ false

  each_whole : (os : List Out) → Each (λ (o : Out). IsFree o.path) os → Each (λ (o : Out). whole_at new sees o ≡ whole_at old saw o) os
  each_whole [] h = tt
  each_whole (o ∷ os) h = (whole_same old new saw sees IsFree same.known same.seen o.path o.kind h.0, each_whole os h.1)

  pub outputs_same : (k : Job) → IsOther k → outputs_in new sees k ≡ outputs_in old saw k
  outputs_same k other =
      by_outs (whole_at new sees) k.recipe
      ∙ map_each (whole_at new sees) (whole_at old saw) (outs_of k.recipe) (each_whole (outs_of k.recipe) (others k other))
      ∙ sym (by_outs (whole_at old saw) k.recipe)

  -- what another job makes at a path is as whole as it was
  pub made_same : (k : Job) → IsOther k → (q : Path) → makes k q ≡ true → is_made_in sees q (directories_of new sees k) ≡ is_made_in saw q (directories_of old saw k)
  made_same k other q made = made_stays old new saw sees IsFree same.known same.seen k (others k other) q made

  -- ## What may be refused

  each_any : {A : Type 0} (f g : A → Bool) (xs : List A) → Each (λ x. f x ≡ g x) xs → list_any f xs ≡ list_any g xs
  each_any f g [] h = refl
  each_any f g (x ∷ xs) h = ap₂ (λ a b. a || b) h.0 (each_any f g xs h.1)

  -- nothing more is refused of another job
  pub doubted_same : (bounds : List Amount) (k : Job) (s : Suspect) → IsOther k → IsSuspectOf old saw bounds k s → IsSuspectOf new sees bounds k s
  doubted_same bounds k s other are =
      record {
        unmarked = λ e.
            each_any (is_marked_in new) (is_marked_in old) (out_paths k.recipe)
            (each_of IsFree (λ p. is_marked_in new p ≡ is_marked_in old p) (λ p free. ap (test_some (λ (x : Entry). x.marked)) (same.known p free))
            (out_paths k.recipe) other)
            ∙ are.unmarked e;
        unguarded = λ e.
            each_any (is_guarded_in sees) (is_guarded_in saw) (out_paths k.recipe)
            (each_of IsFree (λ p. is_guarded_in sees p ≡ is_guarded_in saw p) (λ p free. ap (test_some (λ (x : Sight). x.guarded)) (same.seen p free))
            (out_paths k.recipe) other)
            ∙ are.unguarded e;
        within = are.within;
      }

-- ## Outputs that lie apart

each_among : (P : Path → Type 0) (ps : List Path) → Each P ps → (q : Path) → among ps q ≡ true → P q
each_among P [] h q e = absurd (never_both false e refl)
each_among P (p ∷ ps) h q e = go (or_cases (bytes_eq q p) (among ps q) e) (each_among P ps h.1 q)
  where
    go : (bytes_eq q p ≡ true) ⊎ (among ps q ≡ true) → (among ps q ≡ true → P q) → P q
    go (inl same) more = subst P (sym (same_place q p same)) h.0
    go (inr later) more = more later

among_append : (ps qs : List Path) (q : Path) → among qs q ≡ true → among (ps ++ qs) q ≡ true
among_append [] qs q e = e
among_append (p ∷ ps) qs q e = or_second (bytes_eq q p) (among (ps ++ qs) q) (among_append ps qs q e)

among_front : (ps qs : List Path) (q : Path) → among ps q ≡ true → among (ps ++ qs) q ≡ true
among_front [] qs q e = absurd (never_both false e refl)
among_front (p ∷ ps) qs q e = go (or_cases (bytes_eq q p) (among ps q) e) (among_front ps qs q)
  where
    go : (bytes_eq q p ≡ true) ⊎ (among ps q ≡ true) → (among ps q ≡ true → among (ps ++ qs) q ≡ true) → (bytes_eq q p || among (ps ++ qs) q) ≡ true
    go (inl same) more = or_first (bytes_eq q p) (among (ps ++ qs) q) same
    go (inr later) more = or_second (bytes_eq q p) (among (ps ++ qs) q) (more later)

apart_parts : (ps qs : List Path) → AreApart (ps ++ qs) → (q : Path) → among ps q ≡ true → among qs q ≡ true → ⊥
apart_parts [] qs h q a b = never_both false a refl
apart_parts (p ∷ ps) qs h q a b = go (or_cases (bytes_eq q p) (among ps q) a) (apart_parts ps qs h.1 q)
  where
    go : (bytes_eq q p ≡ true) ⊎ (among ps q ≡ true) → (among ps q ≡ true → among qs q ≡ true → ⊥) → ⊥
    go (inl same) more =
        never_both (overlaps q p) (or_first (bytes_eq q p) (is_under q p || is_under p q) same)
        (each_among (λ x. overlaps x p ≡ false) (ps ++ qs) h.0 q (among_append ps qs q b))
    go (inr later) more = more later b

apart_rest : (ps qs : List Path) → AreApart (ps ++ qs) → AreApart qs
apart_rest [] qs h = h
apart_rest (p ∷ ps) qs h = apart_rest ps qs h.1

-- an output of one of the jobs is among those of all
output_at : (jobs : List Job) (m : ℕ) (k : Job) → job_at jobs m ≡ Some k → (q : Path) → among (out_paths k.recipe) q ≡ true → among (outputs_of jobs) q ≡ true
output_at [] m k e q h = absurd (never_both false (ap is_some e) refl)
output_at (x ∷ jobs) zero k e q h =
    among_front (out_paths x.recipe) (outputs_of jobs) q (subst (λ (y : Job). among (out_paths y.recipe) q ≡ true) (sym (same_Some x k e)) h)
output_at (x ∷ jobs) (suc m) k e q h = among_append (out_paths x.recipe) (outputs_of jobs) q (output_at jobs m k e q h)

-- jobs of different numbers share no output
pub outputs_apart :
    (jobs : List Job) (m n : ℕ) (k j : Job) → AreApart (outputs_of jobs) → (m ≡ n → ⊥) → job_at jobs m ≡ Some k → job_at jobs n ≡ Some j →
    (q : Path) → among (out_paths k.recipe) q ≡ true → among (out_paths j.recipe) q ≡ true → ⊥
outputs_apart [] m n k j apart other at it q a b = never_both false (ap is_some at) refl
outputs_apart (x ∷ jobs) zero zero k j apart other at it q a b = other refl
outputs_apart (x ∷ jobs) zero (suc n) k j apart other at it q a b =
    apart_parts (out_paths x.recipe) (outputs_of jobs) apart q (subst (λ (y : Job). among (out_paths y.recipe) q ≡ true) (sym (same_Some x k at)) a) (output_at jobs n j it q b)
outputs_apart (x ∷ jobs) (suc m) zero k j apart other at it q a b =
    apart_parts (out_paths x.recipe) (outputs_of jobs) apart q (subst (λ (y : Job). among (out_paths y.recipe) q ≡ true) (sym (same_Some x j it)) b) (output_at jobs m k at q a)
outputs_apart (x ∷ jobs) (suc m) (suc n) k j apart other at it q a b =
    outputs_apart jobs m n k j (apart_rest (out_paths x.recipe) (outputs_of jobs) apart) (λ e. other (ap suc e)) at it q a b

none_shared : (ps qs : List Path) → ((q : Path) → among qs q ≡ true → among ps q ≡ true → ⊥) → Each (λ q. among ps q ≡ false) qs
none_shared ps [] h = tt
none_shared ps (q ∷ qs) h =
    (false_unless (among ps q) (h q (or_first (bytes_eq q q) (among qs q) (place_itself q))), none_shared ps qs (λ p a. h p (or_second (bytes_eq p q) (among qs p) a)))

-- no output of another job is one of a job's
pub is_other :
    (jobs : List Job) (m n : ℕ) (k j : Job) → AreApart (outputs_of jobs) → (m ≡ n → ⊥) → job_at jobs m ≡ Some k → job_at jobs n ≡ Some j →
    Each (λ q. among (paths_in (outs_of j.recipe)) q ≡ false) (out_paths k.recipe)
is_other jobs m n k j apart other at it =
    subst (λ ps. Each (λ q. among ps q ≡ false) (out_paths k.recipe)) (by_outs (λ (o : Out). o.path) j.recipe)
    (none_shared (out_paths j.recipe) (out_paths k.recipe) (outputs_apart jobs m n k j apart other at it))
