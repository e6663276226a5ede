-- What agrees with an image agrees with a later one, where that differs at some outputs, of which it is told anew.
use Rattle.std.proofs.Common.{◌≡◌, ◌⊎◌, Bool, true, false, not, ◌&&◌, ◌||◌, List, [], ◌∷◌, map, Option, Some, None, inl, inr, is_some, bytes_eq, refl, sym, ap, ap₂, subst, ◌∙◌}
use Rattle.std.specs.Prelude.{if◌then◌else◌, filter, is_none}
use Rattle.std.specs.List.{list_any}
use Rattle.std.proofs.lemmas.Bool.{or_parts}
use Rattle.smk_base.specs.declared.sum.Sum.{Sum as Digest}
use Rattle.smk_base.proofs.Places.{place_itself, and_first, and_second}
use Rattle.smk_base.proofs.Under.{never_both, false_unless, false_of_not, or_first, or_second, or_cases, both_true}
use Rattle.smk_world.specs.declared.recipe.Out.{Out}
use Rattle.smk_world.specs.World.{in_paths, folders_above}
use Rattle.smk_world.specs.Trees.{Path, Each, IsIn, among, is_path_text, outs_of}
use Rattle.smk_flow.specs.declared.job.Job.{Job}
use Rattle.smk_store.specs.declared.store.Entry.{Entry}
use Rattle.smk_store.specs.Images.{Image, file_at, is_covered, is_file, is_known, is_source, stands}
use Rattle.smk_store.specs.Stores.{Known, entry_of, is_covered_in}
use Rattle.smk_store.specs.Trust.{is_marked_but}
use Rattle.smk_chain.specs.declared.jobs.Jobs.{Jobs}
use Rattle.smk_chain.specs.declared.jobs.Maker.{Maker}
use Rattle.smk_pick.specs.declared.settings.Settings.{Settings}
use Rattle.smk_plan.specs.declared.seen.Sight.{Sight}
use Rattle.smk_plan.specs.Sights.{HasSum, IsSeenAs, IsSourceSeen, sight_at, sight_of}
use Rattle.smk_plan.specs.States.{Progress, is_restored, test_some}
use Rattle.smk_plan.specs.Summed.{IsSummed, is_seen_summed}
use Rattle.smk_plan_facts.specs.Facts.{told_sources}
use Rattle.smk_plan_facts.specs.Telling.{kept_of, mark_of}
use Rattle.smk_plan_facts.proofs.Tests.{each_among, each_two, none_some}
use Rattle.smk_plan_states.specs.Judged.{with_states}
use Rattle.smk_plan_live.specs.Agreeing.{AgreesNow, AreTold, is_source_by, note_of}
use Rattle.smk_laws_turns.specs.Changing.{DiffersAt, IsAside, IsOldOrMade, LooksSame, NeedsNoMore, OnlyMakes}
use Rattle.smk_laws_turns.specs.Changing.IsOldOrMade.{IsNew, IsOld}

-- ## Lists

each_inside : {A : Type 0} (P Q : A → Type 0) (xs : List A) → ((x : A) → IsIn xs x → P x → Q x) → Each P xs → Each Q xs
each_inside P Q [] more h = tt
each_inside P Q (x ∷ xs) more h = (more x (inl refl) h.0, each_inside P Q xs (λ y at. more y (inr at)) h.1)

each_named : (P : Path → Type 0) (ps : List Path) → ((p : Path) → among ps p ≡ true → P p) → Each P ps
each_named P [] h = tt
each_named P (p ∷ ps) h =
    (h p (or_first _ (among ps p) (place_itself p)), each_named P ps (λ q at. h q (or_second _ (among ps q) at)))

any_inside : (f : Path → Bool) (ps : List Path) (p : Path) → IsIn ps p → f p ≡ true → list_any f ps ≡ true
any_inside f [] p at h = absurd at
any_inside f (q ∷ ps) p (inl e) h = or_first (f q) (list_any f ps) (subst (λ x. f x ≡ true) e h)
any_inside f (q ∷ ps) p (inr at) h = or_second (f q) (list_any f ps) (any_inside f ps p at h)

any_aside :
    (paths : List Path) (f g : Path → Bool) → ((p : Path) → among paths p ≡ false → f p ≡ g p) →
    (qs : List Path) → list_any (among paths) qs ≡ false → list_any f qs ≡ list_any g qs
any_aside paths f g same [] h = refl
any_aside paths f g same (q ∷ qs) h =
    let parts = or_parts (among paths q) (list_any (among paths) qs) h in
    ap₂ (λ a b. a || b) (same q parts.0) (any_aside paths f g same qs parts.1)

any_stays :
    (paths : List Path) (f g : Path → Bool) → ((p : Path) → among paths p ≡ false → f p ≡ true → g p ≡ true) →
    (qs : List Path) → list_any (among paths) qs ≡ false → list_any f qs ≡ true → list_any g qs ≡ true
any_stays paths f g stays [] h is = is
any_stays paths f g stays (q ∷ qs) h is = go (or_cases (f q) (list_any f qs) is) (any_stays paths f g stays qs parts.1)
  where
    parts : (among paths q ≡ false) × (list_any (among paths) qs ≡ false)
    parts = or_parts (among paths q) (list_any (among paths) qs) h

    go : (f q ≡ true) ⊎ (list_any f qs ≡ true) → (list_any f qs ≡ true → list_any g qs ≡ true) → list_any g (q ∷ qs) ≡ true
    go (inl here) more = or_first (g q) (list_any g qs) (stays q parts.0 here)
    go (inr later) more = or_second (g q) (list_any g qs) (more later)

pub same_tests : (a b : Bool) → (a ≡ true → b ≡ true) → (b ≡ true → a ≡ true) → a ≡ b
same_tests true true f g = refl
same_tests true false f g = sym (f refl)
same_tests false true f g = g refl
same_tests false false f g = refl

pub by_test : {P : Type 0} (b : Bool) → (b ≡ true → P) → (b ≡ false → P) → P
by_test true f g = f refl
by_test false f g = g refl

-- a path of which it is told that no job makes it is a told source
abbrev told_first : Bool → Maker → List Maker → List Path
told_first b m makers =
    map (λ (y : Maker). y.path) (if b then m ∷ filter (λ (y : Maker). is_none y.job) makers else filter (λ (y : Maker). is_none y.job) makers)

told_source : (makers : List Maker) (m : Maker) → IsIn makers m → m.job ≡ None → among (told_sources makers) m.path ≡ true
told_source [] m at none = absurd at
told_source (x ∷ makers) m (inl e) none = go (is_none x.job) (ap (λ (y : Maker). is_none y.job) (sym e) ∙ ap is_none none)
  where
    go : (b : Bool) → b ≡ true → among (told_first b x makers) m.path ≡ true
    go true h =
        or_first (bytes_eq m.path x.path) (among (told_sources makers) m.path)
        (ap (λ (y : Maker). bytes_eq m.path y.path) (sym e) ∙ place_itself m.path)
    go false h = absurd (never_both false h refl)
told_source (x ∷ makers) m (inr at) none = go (is_none x.job) (told_source makers m at none)
  where
    go : (b : Bool) → among (told_sources makers) m.path ≡ true → among (told_first b x makers) m.path ≡ true
    go true h = or_second (bytes_eq m.path x.path) (among (told_sources makers) m.path) h
    go false h = h

-- ## One path

sum_moves : (image later : Image) (p : Path) (d : Option Digest) → file_at later p ≡ file_at image p → HasSum image p d → HasSum later p d
sum_moves image later p None same h = tt
sum_moves image later p (Some d) same h = (h.0, same ∙ h.1, h.2, h.3)

seen_moves :
    (image later : Image) (seen ss : List Sight) (p : Path) → LooksSame image later p → sight_at ss p ≡ sight_at seen p → IsSeenAs image seen p →
    IsSeenAs later ss p
seen_moves image later seen ss p same sights h =
    (h.0, sights ∙ h.1 ∙ ap (λ (s : Sight). Some (record s { sum = h.0 })) (sym same.sight), sum_moves image later p (h.0) same.file h.2)

known_some : (o : Option Entry) → stands (kept_of o) ≡ true → is_some o ≡ true
known_some None h = absurd (never_both false h refl)
known_some (Some e) h = refl

under_if : {A : Type 0} (b : Bool) (o : Option A) (x : A) → (if b then o else None) ≡ Some x → (b ≡ true) × (o ≡ Some x)
under_if true o x h = (refl, h)
under_if false o x h = absurd (none_some x h)

-- ## All paths

-- what is told of an output is so in the image
pub record IsToldAt (image : Image) (restored : Path → Bool) (known : List Known) (seen : List Sight) (q : Path) : Type 0 where
  pub kept : kept_of (entry_of known q) ≡ image.kept q
  pub marks : mark_of (entry_of known q) ≡ is_marked_but image restored q
  pub notes : note_of (entry_of known q) ≡ true → image.noted q ≡ true
  pub sight : sight_at seen q ≡ Some (sight_of image q)

module _
    (image later : Image) (settings : Settings) (was is : Progress) (jobs : Jobs) (paths : List Path) (known ks : List Known) (seen ss : List Sight)
    (agrees : AgreesNow image settings was jobs known seen) (differs : DiffersAt image later jobs settings.targets paths)
    (known_same : (q : Path) → among paths q ≡ false → entry_of ks q ≡ entry_of known q)
    (seen_same : (q : Path) → among paths q ≡ false → sight_at ss q ≡ sight_at seen q)
    (restored_same :
    (q : Path) → among paths q ≡ false → is_restored later settings is (with_states jobs []) q ≡ is_restored image settings was (with_states jobs []) q)
    (told : (q : Path) → among paths q ≡ true → IsToldAt later (is_restored later settings is (with_states jobs [])) ks ss q) where
  abbrev restored : Path → Bool
  restored = is_restored later settings is (with_states jobs [])

  kept_after : (p : Path) → kept_of (entry_of ks p) ≡ later.kept p
  kept_after p =
      by_test (among paths p) (λ own. (told p own).kept) (λ out. ap kept_of (known_same p out) ∙ agrees.kept p ∙ sym (differs.kept p out))

  marks_after : (p : Path) → mark_of (entry_of ks p) ≡ is_marked_but later restored p
  marks_after p =
      by_test (among paths p) (λ own. (told p own).marks)
      (λ out. ap mark_of (known_same p out) ∙ agrees.marks p
      ∙ ap₂ (λ m r. m && not r) (sym (differs.marks p out)) (sym (restored_same p out)))

  notes_after : (p : Path) → note_of (entry_of ks p) ≡ true → later.noted p ≡ true
  notes_after p h =
      by_test (among paths p) (λ own. (told p own).notes h) (λ out. differs.notes p (agrees.notes p (sym (ap note_of (known_same p out)) ∙ h)))

  -- ## What is covered

  covered_same : (q : Path) → IsAside paths q → is_covered_in ks q ≡ is_covered_in known q
  covered_same q aside =
      any_aside paths (λ p. is_some (entry_of ks p)) (λ p. is_some (entry_of known p)) (λ p out. ap is_some (known_same p out)) (q ∷ folders_above q) aside

  known_stays : (p : Path) → among paths p ≡ false → is_known image p ≡ true → is_known later p ≡ true
  known_stays p out h = go (or_cases (stands (image.kept p)) (image.marked p || image.noted p) h)
    where
      signs : (image.marked p ≡ true) ⊎ (image.noted p ≡ true) → (later.marked p || later.noted p) ≡ true
      signs (inl m) = or_first (later.marked p) (later.noted p) (differs.marks p out ∙ m)
      signs (inr n) = or_second (later.marked p) (later.noted p) (differs.notes p n)

      go : (stands (image.kept p) ≡ true) ⊎ ((image.marked p || image.noted p) ≡ true) → is_known later p ≡ true
      go (inl k) = or_first (stands (later.kept p)) (later.marked p || later.noted p) (ap stands (differs.kept p out) ∙ k)
      go (inr s) = or_second (stands (later.kept p)) (later.marked p || later.noted p) (signs (or_cases (image.marked p) (image.noted p) s))

  covered_stays : (q : Path) → IsAside paths q → is_covered image q ≡ true → is_covered later q ≡ true
  covered_stays q aside = any_stays paths (is_known image) (is_known later) known_stays (q ∷ folders_above q) aside

  covered_after : (p : Path) → among (told_sources jobs.makers) p ≡ true → is_covered_in ks p ≡ is_covered later p
  covered_after p at =
      let free = differs.sources p at in
      covered_same p free.aside ∙ each_among (λ q. is_covered_in known q ≡ is_covered image q) (told_sources jobs.makers) p agrees.covered at
      ∙ same_tests (is_covered image p) (is_covered later p) (covered_stays p free.aside) free.uncovered

  -- a path with a record in the later image covers what is at or under it
  covered_by : (p q : Path) → IsIn (q ∷ folders_above q) p → stands (later.kept p) ≡ true → is_covered later q ≡ true
  covered_by p q at k = any_inside (is_known later) (q ∷ folders_above q) p at (or_first (stands (later.kept p)) (later.marked p || later.noted p) k)

  known_by : (p q : Path) → IsIn (q ∷ folders_above q) p → stands (later.kept p) ≡ true → is_covered_in ks q ≡ true
  known_by p q at k =
      any_inside (λ x. is_some (entry_of ks x)) (q ∷ folders_above q) p at (known_some (entry_of ks p) (ap stands (kept_after p) ∙ k))

  -- ## What is told of sources

  told_after :
      (q : Path) → OnlyMakes image later paths q → (is_source_by image known q ≡ true → among (told_sources jobs.makers) q ≡ true) →
      is_source_by later ks q ≡ true → among (told_sources jobs.makers) q ≡ true
  told_after q only tells h = go (only file)
    where
      text : is_path_text q ≡ true
      text = and_first (is_path_text q) (is_file later q && not (is_covered_in ks q)) h

      file : is_file later q ≡ true
      file = and_first (is_file later q) (not (is_covered_in ks q)) (and_second (is_path_text q) (is_file later q && not (is_covered_in ks q)) h)

      free : not (is_covered_in ks q) ≡ true
      free = and_second (is_file later q) (not (is_covered_in ks q)) (and_second (is_path_text q) (is_file later q && not (is_covered_in ks q)) h)

      go : IsOldOrMade image later paths q → among (told_sources jobs.makers) q ≡ true
      go (IsOld aside same) =
          tells
          (both_true (is_path_text q) (is_file image q && not (is_covered_in known q)) text
          (both_true (is_file image q) (not (is_covered_in known q)) (ap is_some (sym same) ∙ file) (ap not (sym (covered_same q aside)) ∙ free)))
      go (IsNew p at own k) = absurd (never_both (is_covered_in ks q) (known_by p q at k) (false_of_not (is_covered_in ks q) free))

  all_told_after : (qs : List Path) → Each (OnlyMakes image later paths) qs → AreTold image jobs known qs → AreTold later jobs ks qs
  all_told_after =
      each_two (OnlyMakes image later paths) (λ q. is_source_by image known q ≡ true → among (told_sources jobs.makers) q ≡ true)
      (λ q. is_source_by later ks q ≡ true → among (told_sources jobs.makers) q ≡ true) told_after

  -- ## What was seen

  output_after : (j : Job) → IsIn jobs.jobs j → (o : Out) → IsIn (outs_of j.recipe) o → IsSeenAs image seen o.path → IsSeenAs later ss o.path
  output_after j in_jobs o in_outs h =
      by_test (among paths o.path) (λ own. (None, (told o.path own).sight, tt))
      (λ out. seen_moves image later seen ss o.path (differs.outputs j in_jobs o in_outs out) (seen_same o.path out) h)

  source_after : (m : Maker) → IsIn jobs.makers m → IsSourceSeen image seen m → IsSourceSeen later ss m
  source_after m at h none =
      let free = differs.sources m.path (told_source jobs.makers m at none) in
      let out = (or_parts (among paths m.path) (list_any (among paths) (folders_above m.path)) free.aside).0 in
      seen_moves image later seen ss m.path free.same (seen_same m.path out) (h none)

  -- ## Which were seen with a SHA-256

  summed_after :
      (j : Job) (q : Path) → OnlyMakes image later paths q × NeedsNoMore image later j q → IsSummed image seen j q → IsSummed later ss j q
  summed_after j q only was_summed f source small needs = go (only.0 (ap is_some file))
    where
      parts : (is_source later q ≡ true) × (file_at later q ≡ Some f)
      parts = under_if (is_source later q) (file_at later q) f source

      file : file_at later q ≡ Some f
      file = parts.1

      text : is_path_text q ≡ true
      text = and_first (is_path_text q) (is_file later q && not (is_covered later q)) parts.0

      free : is_covered later q ≡ false
      free =
          false_of_not (is_covered later q)
          (and_second (is_file later q) (not (is_covered later q)) (and_second (is_path_text q) (is_file later q && not (is_covered later q)) parts.0))

      go : IsOldOrMade image later paths q → is_seen_summed ss q ≡ true
      go (IsNew p at own k) = absurd (never_both (is_covered later q) (covered_by p q at k) free)
      go (IsOld aside same) =
          let was_free : is_covered image q ≡ false =
          false_unless (is_covered image q) (λ c. never_both (is_covered later q) (covered_stays q aside c) free)
          in
          let was_file : file_at image q ≡ Some f = sym same ∙ file in
          let was_source : is_source image q ≡ true =
          both_true (is_path_text q) (is_file image q && not (is_covered image q)) text
          (both_true (is_file image q) (not (is_covered image q)) (ap is_some was_file) (ap not was_free))
          in
          let out = (or_parts (among paths q) (list_any (among paths) (folders_above q)) aside).0 in
          ap (test_some (λ (s : Sight). is_some s.sum)) (seen_same q out)
          ∙ was_summed f (ap (λ (b : Bool). if b then file_at image q else None) was_source ∙ was_file) small (only.1 f source needs)

  all_summed_after :
      (j : Job) → Each (OnlyMakes image later paths) (in_paths j.recipe) × Each (NeedsNoMore image later j) (in_paths j.recipe) →
      Each (IsSummed image seen j) (in_paths j.recipe) → Each (IsSummed later ss j) (in_paths j.recipe)
  all_summed_after j only =
      each_two (λ q. OnlyMakes image later paths q × NeedsNoMore image later j q) (IsSummed image seen j) (IsSummed later ss j) (summed_after j)
      (in_paths j.recipe)
      (each_two (OnlyMakes image later paths) (NeedsNoMore image later j) (λ q. OnlyMakes image later paths q × NeedsNoMore image later j q) (λ q a b. (a, b))
      (in_paths j.recipe) only.0 only.1)

  pub agrees_after : AgreesNow later settings is jobs ks ss
  agrees_after =
      record {
        named = differs.named;
        recorded = differs.recorded;
        kept = kept_after;
        marks = marks_after;
        notes = notes_after;
        covered = each_named (λ p. is_covered_in ks p ≡ is_covered later p) (told_sources jobs.makers) covered_after;
        sighted =
            record {
              outputs =
                  each_inside (λ (j : Job). Each (λ (o : Out). IsSeenAs image seen o.path) (outs_of j.recipe))
                  (λ (j : Job). Each (λ (o : Out). IsSeenAs later ss o.path) (outs_of j.recipe)) jobs.jobs
                  (λ j in_jobs. each_inside (λ (o : Out). IsSeenAs image seen o.path) (λ (o : Out). IsSeenAs later ss o.path) (outs_of j.recipe)
                  (output_after j in_jobs))
                  agrees.sighted.outputs;
              sources = each_inside (IsSourceSeen image seen) (IsSourceSeen later ss) jobs.makers source_after agrees.sighted.sources;
            };
        summed =
            each_two
            (λ (j : Job). Each (OnlyMakes image later paths) (in_paths j.recipe) × Each (NeedsNoMore image later j) (in_paths j.recipe))
            (λ (j : Job). Each (IsSummed image seen j) (in_paths j.recipe)) (λ (j : Job). Each (IsSummed later ss j) (in_paths j.recipe)) all_summed_after
            jobs.jobs
            (each_two (λ (j : Job). Each (OnlyMakes image later paths) (in_paths j.recipe)) (λ (j : Job). Each (NeedsNoMore image later j) (in_paths j.recipe))
            (λ (j : Job). Each (OnlyMakes image later paths) (in_paths j.recipe) × Each (NeedsNoMore image later j) (in_paths j.recipe)) (λ j a b. (a, b))
            jobs.jobs differs.files differs.summed)
            agrees.summed;
        served = agrees.served;
        made = agrees.made;
        read =
            each_two (λ (j : Job). Each (OnlyMakes image later paths) (in_paths j.recipe)) (λ (j : Job). AreTold image jobs known (in_paths j.recipe))
            (λ (j : Job). AreTold later jobs ks (in_paths j.recipe)) (λ j. all_told_after (in_paths j.recipe)) jobs.jobs differs.files agrees.read;
        asked = all_told_after settings.targets differs.wanted agrees.asked;
      }
