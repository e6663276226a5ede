-- What is known and seen once a job has begun or is closed, or an output was removed.
use Rattle.std.proofs.Common.{◌≡◌, ◌⊎◌, inl, inr, ℕ, zero, suc, ◌+◌, ◌<◌, Bool, true, false, not, ◌&&◌, ◌||◌, ◌==◌, List, [], ◌∷◌, map, length, Option, Some, None, refl, sym, ap, ap₂, subst, ◌∙◌, bytes_eq, arith}
use Rattle.std.specs.Prelude.{if◌then◌else◌, option_map, slice_set}
use Rattle.std.specs.List.{list_any, slice_get}
use Rattle.std.specs.BTreeMap.{get_by_text}
use Rattle.std.proofs.lemmas.Bool.{eqb-true, eqb-false, or_parts}
use Rattle.std.proofs.lemmas.Option.{same_Some, none-some, slice_get_within}
use Rattle.std.proofs.Math.Bool.{and-true}
use Rattle.std.proofs.Math.Nat.{zero-add}
use Rattle.smk_base.proofs.Places.{same_place, place_itself}
use Rattle.smk_base.proofs.Under.{never_both, or_first, or_second, both_true}
use Rattle.smk_world.specs.declared.recipe.Out.{Out}
use Rattle.smk_world.specs.World.{out_paths}
use Rattle.smk_world.specs.Trees.{Path, among, outs_of}
use Rattle.smk_flow.specs.declared.job.Job.{Job}
use Rattle.smk_store.specs.declared.store.Entry.{Entry}
use Rattle.smk_store.specs.declared.store.Kept.{Kept}
use Rattle.smk_store.specs.declared.store.Kept.TheVariants.{Absent, Unreadable, Held}
use Rattle.smk_store.specs.Images.{stands}
use Rattle.smk_store.specs.Stores.{entry_of}
use Rattle.smk_trigger.specs.declared.reason.State.{State}
use Rattle.smk_trigger.specs.JobStates.{is_restore}
use Rattle.smk_plan.specs.declared.seen.Sight.{Sight}
use Rattle.smk_plan.specs.States.{is_restored, kept_state, test_some}
use Rattle.smk_plan_facts.specs.Telling.{copied, kept_of, mark_of}
use Rattle.smk_plan_facts.proofs.Entries.{mark_told}
use Rattle.smk_plan_states.specs.Judged.{with_states}
use Rattle.smk_plan_states.specs.Served.{AreApart, outputs_of}
use Rattle.smk_plan_live.specs.declared.base.Base.{Base}
use Rattle.smk_plan_live.specs.declared.sites.Site.{Site}
use Rattle.smk_plan_live.specs.declared.phase.Phase.TheVariants.{Running, Closed}
use Rattle.smk_plan_live.specs.Agreeing.{note_of}
use Rattle.smk_plan_live.specs.Carried.{advanced, begun, begun_entries, begun_entry, gone_sight, gone_sights, marked_entry, nothing_at, sight_but, sights_but, spent, spent_at}
use Rattle.smk_plan_live.specs.Effects.{BegunTells, ClosedTells, IsBegunAt, IsClosedAt, RestoredTells, SpentTells}
use Rattle.smk_plan_live.specs.Lives.{IsSound, progress_of}
use Rattle.smk_plan_live.specs.Now.{joined, row_by, row_at, entry_now, own_sight, seen_before, sight_now, restores_at, restored_now, is_left, settled, known_now}
use Rattle.smk_plan_live.specs.Same.{paths_in}
use Rattle.smk_plan_live.specs.Sites.{site_outs, site_in}
use Rattle.smk_plan_live.specs.Steps.{AreOfOutputs}
use Rattle.smk_plan_live.proofs.Tables.{known_is, mark_left, same_bytes, seen_is}
use Rattle.smk_plan_live.proofs.Restoring.{kept_at, one_job, one_name, outs_are, restored_so, site_found}
use Rattle.smk_plan_live.proofs.Changed.{filled_but, get_other}
use Rattle.smk_plan_live.proofs.Installed.{got, mapped_at}
use Rattle.smk_plan_live.proofs.Putting.{set_at}

-- ## What is left of an entry

absent_kept : (k : Kept) → stands k ≡ false → Absent ≡ k
absent_kept Absent h = refl
absent_kept Unreadable h = absurd (never_both true refl h)
absent_kept (Held r) h = absurd (never_both true refl h)

kept_settled : (restored : Bool) (o : Option Entry) → kept_of (settled restored o) ≡ kept_of o
kept_settled restored None = refl
kept_settled restored (Some e) = go (is_left restored e) refl
  where
    go :
        (b : Bool) → is_left restored e ≡ b → kept_of
        (if b then Some (record { kept = e.kept; marked = e.marked && not restored; noted = e.noted }) else None) ≡ e.kept
    go true k = refl
    go false k = absent_kept e.kept (or_parts (stands e.kept) ((e.marked && not restored) || e.noted) k).0

note_settled : (restored : Bool) (o : Option Entry) → note_of (settled restored o) ≡ note_of o
note_settled restored None = refl
note_settled restored (Some e) = go (is_left restored e) refl
  where
    go :
        (b : Bool) → is_left restored e ≡ b → note_of
        (if b then Some (record { kept = e.kept; marked = e.marked && not restored; noted = e.noted }) else None) ≡ e.noted
    go true k = refl
    go false k = sym (or_parts (e.marked && not restored) e.noted (or_parts (stands e.kept) ((e.marked && not restored) || e.noted) k).1).1

mark_settled : (restored : Bool) (e : Entry) → mark_of (settled restored (Some e)) ≡ (e.marked && not restored)
mark_settled restored e = sym (mark_told (settled restored (Some e))) ∙ sym (mark_left restored e)

kept_marked : (o : Option Entry) → (marked_entry o).kept ≡ copied (kept_of o)
kept_marked None = refl
kept_marked (Some e) = refl

note_marked : (o : Option Entry) → (marked_entry o).noted ≡ note_of o
note_marked None = refl
note_marked (Some e) = refl

mark_marked : (o : Option Entry) → (marked_entry o).marked ≡ true
mark_marked None = refl
mark_marked (Some e) = refl

-- ## Where outputs stand

outs_place :
    (n k : ℕ) (outs : List Out) (later : Option Site) (q : Path) (s : Site) → site_outs n k outs later q ≡ Some s →
    ((m : ℕ) × (s.job ≡ n) × (s.place ≡ k + m) × (slice_get (paths_in outs) m ≡ Some q)) ⊎ (later ≡ Some s)
outs_place n k [] later q s e = inr e
outs_place n k (o ∷ outs) later q s e = go (bytes_eq o.path q) refl e (outs_place n (suc k) outs later q s)
  where
    next : ((m : ℕ) × (s.job ≡ n) × (s.place ≡ suc k + m) × (slice_get (paths_in outs) m ≡ Some q)) ⊎ (later ≡ Some s) →
        ((m : ℕ) × (s.job ≡ n) × (s.place ≡ k + m) × (slice_get (paths_in (o ∷ outs)) m ≡ Some q)) ⊎ (later ≡ Some s)
    next (inl h) = let step : suc k + h.0 ≡ k + suc (h.0) = omega arith in inl (suc (h.0), h.1, h.2 ∙ step, h.3)
    next (inr h) = inr h

    go :
        (b : Bool) → bytes_eq o.path q ≡ b → (if b then Some (record { job = n; place = k }) else site_outs n (suc k) outs later q) ≡ Some s →
        (site_outs n (suc k) outs later q ≡ Some s → ((m : ℕ) × (s.job ≡ n) × (s.place ≡ suc k + m) × (slice_get (paths_in outs) m ≡ Some q))
        ⊎ (later ≡ Some s)) →
        ((m : ℕ) × (s.job ≡ n) × (s.place ≡ k + m) × (slice_get (paths_in (o ∷ outs)) m ≡ Some q)) ⊎ (later ≡ Some s)
    go true same is more =
        let here : record { job = n; place = k } ≡ s = same_Some (record { job = n; place = k }) s is in
        let none : k ≡ k + 0 = omega arith in
        inl (zero, ap (λ (x : Site). x.job) (sym here), ap (λ (x : Site). x.place) (sym here) ∙ none, ap Some (same_place o.path q same))
    go false same is more = next (more is)

site_place :
    (k : ℕ) (jobs : List Job) (q : Path) (s : Site) → site_in k jobs q ≡ Some s →
    (m : ℕ) × (j : Job) × (s.job ≡ k + m) × (slice_get jobs m ≡ Some j) × (slice_get (out_paths j.recipe) s.place ≡ Some q)
site_place k [] q s e = absurd (none-some s e)
site_place k (j ∷ jobs) q s e = go (outs_place k 0 (outs_of j.recipe) (site_in (suc k) jobs q) q s e) (site_place (suc k) jobs q s)
  where
    go :
        ((m : ℕ) × (s.job ≡ k) × (s.place ≡ 0 + m) × (slice_get (paths_in (outs_of j.recipe)) m ≡ Some q)) ⊎ (site_in (suc k) jobs q ≡ Some s) →
        (site_in (suc k) jobs q ≡ Some s → (m : ℕ) × (x : Job) × (s.job ≡ suc k + m) × (slice_get jobs m ≡ Some x)
        × (slice_get (out_paths x.recipe) s.place ≡ Some q)) →
        (m : ℕ) × (x : Job) × (s.job ≡ k + m) × (slice_get (j ∷ jobs) m ≡ Some x) × (slice_get (out_paths x.recipe) s.place ≡ Some q)
    go (inl h) more =
        let none : k ≡ k + 0 = omega arith in
        (zero, j, h.1 ∙ none, refl, ap₂ (λ ps n. slice_get ps n) (outs_are j.recipe) (h.2 ∙ zero-add (h.0)) ∙ h.3)
    go (inr h) more =
        let r = more h in
        let step : suc k + r.0 ≡ k + suc (r.0) = omega arith in
        (suc (r.0), r.1, r.2 ∙ step, r.3, r.4)

placed_among : (ps : List Path) (k : ℕ) (q : Path) → slice_get ps k ≡ Some q → among ps q ≡ true
placed_among [] k q e = absurd (none-some q e)
placed_among (p ∷ ps) zero q e = or_first (bytes_eq q p) (among ps q) (ap (bytes_eq q) (same_Some p q e) ∙ place_itself q)
placed_among (p ∷ ps) (suc k) q e = or_second (bytes_eq q p) (among ps q) (placed_among ps k q e)

-- ## Rows

joined_some : {A : Type 0} (xs : List A) (k : ℕ) → joined (slice_get (map Some xs) k) ≡ slice_get xs k
joined_some [] k = refl
joined_some (x ∷ xs) zero = refl
joined_some (x ∷ xs) (suc k) = joined_some xs k

-- the row that was put in, at the site of an output of the job
row_here : {A : Type 0} (rows : List (Option (List (Option A)))) (n : ℕ) (row : List (Option A)) (s : Site) (before : Option A) → n < length rows → s.job ≡ n →
    row_at (slice_set rows n (Some row)) (Some s) before ≡ joined (slice_get row s.place)
row_here rows n row s before h is = ap (λ r. row_by (joined r) s.place before) (ap (slice_get (slice_set rows n (Some row))) is ∙ set_at rows n (Some row) h)

own_here : (q : Path) (s : Sight) → s.path ≡ q → own_sight q (Some s) ≡ Some s
own_here q s is = ap (λ (b : Bool). if b then Some s else None) (ap (λ p. bytes_eq p q) is ∙ same_bytes q)

own_twice : (q : Path) (o : Option Sight) → own_sight q (own_sight q o) ≡ own_sight q o
own_twice q None = refl
own_twice q (Some s) = go (bytes_eq s.path q) refl
  where
    go : (b : Bool) → bytes_eq s.path q ≡ b → own_sight q (if b then Some s else None) ≡ (if b then Some s else None)
    go true e = ap (λ (b : Bool). if b then Some s else None) e
    go false e = refl

-- ## An output of a job

module _ (b : Base) (sound : IsSound b) (apart : AreApart (outputs_of b.jobs.jobs)) (n : ℕ) (j : Job) (at : slice_get b.jobs.jobs n ≡ Some j) where
  -- where the output stands
  site_here :
      (q : Path) → among (out_paths j.recipe) q ≡ true → (s : Site) × (get_by_text b.sites q ≡ Some s) × (s.job ≡ n)
      × (slice_get (out_paths j.recipe) s.place ≡ Some q)
  site_here q own =
      let t = site_found 0 b.jobs.jobs n j q at own in
      let r = site_place 0 b.jobs.jobs q t.0 t.1 in
      let m≡n : r.0 ≡ n = one_job b sound apart (r.0) n (r.1) j q r.3 at (placed_among (out_paths (r.1).recipe) (t.0).place q r.4) own in
      let same : r.1 ≡ j = same_Some (r.1) j (sym r.3 ∙ ap (slice_get b.jobs.jobs) m≡n ∙ at) in
      (t.0, sound.sited q ∙ t.1, r.2 ∙ zero-add (r.0) ∙ m≡n, ap (λ (x : Job). slice_get (out_paths x.recipe) (t.0).place) (sym same) ∙ r.4)

  below : n < length b.jobs.jobs
  below = slice_get_within b.jobs.jobs n j at

  module _ (state : State) (q : Path) (own : among (out_paths j.recipe) q ≡ true) where
    abbrev new : Base
    new = begun n state j b

    here : (s : Site) × (get_by_text b.sites q ≡ Some s) × (s.job ≡ n) × (slice_get (out_paths j.recipe) s.place ≡ Some q)
    here = site_here q own

    entry_begun : entry_now new q ≡ Some (marked_entry (entry_now b q))
    entry_begun =
        ap (λ o. row_at (slice_set b.entries n (Some (begun_entries b j))) o (entry_of b.store q)) here.1
        ∙ row_here b.entries n (begun_entries b j) here.0 (entry_of b.store q) (subst (λ m. n < m) (sym sound.entries) below) here.2
        ∙ ap joined (mapped_at (begun_entry b) (out_paths j.recipe) (here.0).place q here.3)

    restored_begun : restored_now new q ≡ is_restore state
    restored_begun =
        ap (restores_at (slice_set b.began n (Some state))) here.1
        ∙ ap (λ r. test_some is_restore (joined r))
        (ap (slice_get (slice_set b.began n (Some state))) here.2 ∙ set_at b.began n (Some state) (subst (λ m. n < m) (sym sound.began) below))

    sight_begun : sight_now new q ≡ Some (nothing_at q)
    sight_begun =
        ap (own_sight q)
        (ap (λ o. row_at (slice_set b.sights n (Some (gone_sights j))) o (seen_before b q)) here.1
        ∙ row_here b.sights n (gone_sights j) here.0 (seen_before b q) (subst (λ m. n < m) (sym sound.sights) below) here.2
        ∙ ap joined (mapped_at gone_sight (out_paths j.recipe) (here.0).place q here.3))
        ∙ own_here q (nothing_at q) refl

    known_begun : entry_of (known_now new) q ≡ settled (is_restore state) (Some (marked_entry (entry_now b q)))
    known_begun = known_is new q ∙ ap₂ settled restored_begun entry_begun

    begun_at : IsBegunAt b new state q
    begun_at =
        record {
          kept = ap kept_of known_begun ∙ kept_settled (is_restore state) (Some (marked_entry (entry_now b q))) ∙ kept_marked (entry_now b q)
              ∙ ap copied (sym (kept_settled (restored_now b q) (entry_now b q)) ∙ ap kept_of (sym (known_is b q)));
          marked =
              ap mark_of known_begun ∙ mark_settled (is_restore state) (marked_entry (entry_now b q))
              ∙ ap (λ m. m && not (is_restore state)) (mark_marked (entry_now b q));
          noted = ap note_of known_begun ∙ note_settled (is_restore state) (Some (marked_entry (entry_now b q))) ∙ note_marked (entry_now b q)
              ∙ sym (note_settled (restored_now b q) (entry_now b q)) ∙ ap note_of (sym (known_is b q));
          sight = seen_is new q ∙ sight_begun;
        }

  module _ (entries : List Entry) (sights : List Sight) (are : AreOfOutputs entries sights j) (q : Path) (own : among (out_paths j.recipe) q ≡ true) where
    abbrev closed_base : Base
    closed_base = advanced n Closed None (map Some entries) (map Some sights) b

    found : (s : Site) × (get_by_text b.sites q ≡ Some s) × (s.job ≡ n) × (slice_get (out_paths j.recipe) s.place ≡ Some q)
    found = site_here q own

    within : (found.0).place < length (out_paths j.recipe)
    within = slice_get_within (out_paths j.recipe) (found.0).place q found.3

    entry_there : (e : Entry) × (slice_get entries (found.0).place ≡ Some e)
    entry_there = got entries (found.0).place (subst (λ m. (found.0).place < m) (sym are.each) within)

    entry_closed : entry_now closed_base q ≡ Some (entry_there.0)
    entry_closed =
        ap (λ o. row_at (slice_set b.entries n (Some (map Some entries))) o (entry_of b.store q)) found.1
        ∙ row_here b.entries n (map Some entries) found.0 (entry_of b.store q) (subst (λ m. n < m) (sym sound.entries) below) found.2
        ∙ joined_some entries (found.0).place ∙ entry_there.1

    restored_closed : restored_now closed_base q ≡ false
    restored_closed =
        ap (restores_at (slice_set b.began n None)) found.1
        ∙ ap (λ r. test_some is_restore (joined r))
        (ap (slice_get (slice_set b.began n None)) found.2 ∙ set_at b.began n None (subst (λ m. n < m) (sym sound.began) below))

    known_closed : entry_of (known_now closed_base) q ≡ settled false (Some (entry_there.0))
    known_closed = known_is closed_base q ∙ ap₂ settled restored_closed entry_closed

    own_at : (k : ℕ) → slice_get (out_paths j.recipe) k ≡ Some q → own_sight q (slice_get sights k) ≡ slice_get sights k
    own_at k stands = go (slice_get sights k) refl
      where
        go : (o : Option Sight) → slice_get sights k ≡ o → own_sight q o ≡ o
        go None e = refl
        go (Some s) e =
            own_here q s
            (same_Some s.path q (sym (mapped_at (λ (x : Sight). x.path) sights k s e) ∙ ap (λ ps. slice_get ps k) are.seen ∙ stands))

    closed_at : IsClosedAt closed_base j entries sights q
    closed_at =
        record {
          place = (found.0).place;
          stands = found.3;
          entry = entry_there.0;
          told = entry_there.1;
          kept = ap kept_of known_closed ∙ kept_settled false (Some (entry_there.0));
          marked = ap mark_of known_closed ∙ mark_settled false (entry_there.0) ∙ and-true (entry_there.0).marked;
          noted = ap note_of known_closed ∙ note_settled false (Some (entry_there.0));
          sight = seen_is closed_base q
              ∙ ap (own_sight q)
              (ap (λ o. row_at (slice_set b.sights n (Some (map Some sights))) o (seen_before b q)) found.1
              ∙ row_here b.sights n (map Some sights) found.0 (seen_before b q) (subst (λ m. n < m) (sym sound.sights) below) found.2
              ∙ joined_some sights (found.0).place)
              ∙ own_at (found.0).place found.3;
        }

pub begun_tells : BegunTells
begun_tells b n state j sound apart at =
    record {
      outputs = begun_at b sound apart n j at state;
      others = filled_but b sound n j at Running (Some state) (Some (begun_entries b j)) (Some (gone_sights j));
    }

pub closed_tells : ClosedTells
closed_tells b n j entries sights sound apart at are =
    record {
      outputs = closed_at b sound apart n j at entries sights are;
      others = filled_but b sound n j at Closed None (Some (map Some entries)) (Some (map Some sights));
    }

-- ## An output that was removed

module _ (b : Base) (sound : IsSound b) (gone : Path) where
  known_spent : (o : Option Site) → known_now (spent_at o gone b) ≡ known_now b
  known_spent None = refl
  known_spent (Some s) = refl

  -- the row of the job of the site
  row_spent : (s t : Site) (q : Path) → get_by_text b.sites q ≡ Some t → t.job ≡ s.job → (before : Option Sight) →
      row_at (slice_set b.sights s.job (sights_but b gone s.job)) (Some t) before ≡ sight_but b gone q
  row_spent s t q has same before =
      let r = site_place 0 b.jobs.jobs q t (sym (sound.sited q) ∙ has) in
      let number : t.job ≡ r.0 = r.2 ∙ zero-add (r.0) in
      let at : slice_get b.jobs.jobs s.job ≡ Some r.1 = ap (slice_get b.jobs.jobs) (sym same ∙ number) ∙ r.3 in
      let inside : s.job < length b.sights = subst (λ m. s.job < m) (sym sound.sights) (slice_get_within b.jobs.jobs s.job (r.1) at) in
      ap (λ row. row_at (slice_set b.sights s.job row) (Some t) before) (ap (option_map (λ (x : Job). map (sight_but b gone) (out_paths x.recipe))) at)
      ∙ row_here b.sights s.job (map (sight_but b gone) (out_paths (r.1).recipe)) t before inside same
      ∙ ap joined (mapped_at (sight_but b gone) (out_paths (r.1).recipe) t.place q r.4)

  gone_spent : (s : Site) → get_by_text b.sites gone ≡ Some s → sight_now (spent_at (Some s) gone b) gone ≡ Some (nothing_at gone)
  gone_spent s has =
      ap (own_sight gone)
      (ap (λ o. row_at (slice_set b.sights s.job (sights_but b gone s.job)) o (seen_before b gone)) has
      ∙ row_spent s s gone has refl (seen_before b gone) ∙ ap (λ (c : Bool). if c then gone_sight gone else sight_now b gone) (same_bytes gone))
      ∙ own_here gone (nothing_at gone) refl

  others_spent : (o : Option Site) (q : Path) → bytes_eq q gone ≡ false → sight_now (spent_at o gone b) q ≡ sight_now b q
  others_spent None q other = refl
  others_spent (Some s) q other = go (get_by_text b.sites q) refl
    where
      by_number : (t : Site) → get_by_text b.sites q ≡ Some t → (c : Bool) → (t.job == s.job) ≡ c →
          own_sight q (row_at (slice_set b.sights s.job (sights_but b gone s.job)) (Some t) (seen_before b q))
          ≡ own_sight q (row_at b.sights (Some t) (seen_before b q))
      by_number t has true e =
          ap (own_sight q) (row_spent s t q has (eqb-true t.job s.job e) (seen_before b q) ∙ ap (λ (c : Bool). if c then gone_sight q else sight_now b q) other)
          ∙ own_twice q (row_at b.sights (get_by_text b.sites q) (seen_before b q)) ∙ ap (λ o. own_sight q (row_at b.sights o (seen_before b q))) has
      by_number t has false e =
          ap (λ r. own_sight q (row_by (joined r) t.place (seen_before b q)))
          (get_other b.sights s.job t.job (sights_but b gone s.job) (eqb-false t.job s.job e))

      go : (o : Option Site) → get_by_text b.sites q ≡ o →
          own_sight q (row_at (slice_set b.sights s.job (sights_but b gone s.job)) (get_by_text b.sites q) (seen_before b q))
          ≡ own_sight q (row_at b.sights (get_by_text b.sites q) (seen_before b q))
      go None has =
          ap (λ o. own_sight q (row_at (slice_set b.sights s.job (sights_but b gone s.job)) o (seen_before b q))) has
          ∙ sym (ap (λ o. own_sight q (row_at b.sights o (seen_before b q))) has)
      go (Some t) has =
          ap (λ o. own_sight q (row_at (slice_set b.sights s.job (sights_but b gone s.job)) o (seen_before b q))) has
          ∙ by_number t has (t.job == s.job) refl ∙ sym (ap (λ o. own_sight q (row_at b.sights o (seen_before b q))) has)

pub spent_tells : SpentTells
spent_tells b gone sound =
    record {
      known = known_spent b sound gone (get_by_text b.sites gone);
      sight = λ s has. seen_is (spent gone b) gone ∙ ap (λ o. sight_now (spent_at o gone b) gone) has ∙ gone_spent b sound gone s has;
      others = λ q other. seen_is (spent gone b) q ∙ others_spent b sound gone (get_by_text b.sites gone) q other ∙ sym (seen_is b q);
    }

-- ## What is being restored

same_tests : (a b : Bool) → (a ≡ true → b ≡ true) → (b ≡ true → a ≡ true) → a ≡ b
same_tests true true f g = refl
same_tests true false f g = sym (f refl)
same_tests false true f g = g refl
same_tests false false f g = refl

any_from : {A : Type 0} (test : A → Bool) (xs : List A) (m : ℕ) (x : A) → slice_get xs m ≡ Some x → test x ≡ true → list_any test xs ≡ true
any_from test [] m x e h = absurd (none-some x e)
any_from test (y ∷ xs) zero x e h = or_first (test y) (list_any test xs) (ap test (same_Some y x e) ∙ h)
any_from test (y ∷ xs) (suc m) x e h = or_second (test y) (list_any test xs) (any_from test xs m x e h)

pub restored_tells : RestoredTells
restored_tells b image settings q sound apart =
    same_tests (restored_now b q) (is_restored image settings (progress_of b) (with_states b.jobs []) q) (λ h. by_site (get_by_text b.sites q) refl h)
    (restored_so b sound apart image settings q)
  where
    by_site :
        (o : Option Site) → get_by_text b.sites q ≡ o → restores_at b.began (get_by_text b.sites q) ≡ true →
        is_restored image settings (progress_of b) (with_states b.jobs []) q ≡ true
    by_site None has h = absurd (never_both false (sym (ap (restores_at b.began) has) ∙ h) refl)
    by_site (Some s) has h =
        let r = site_place 0 b.jobs.jobs q s (sym (sound.sited q) ∙ has) in
        let own = placed_among (out_paths (r.1).recipe) s.place q r.4 in
        let number : s.job ≡ r.0 = r.2 ∙ zero-add (r.0) in
        let restores : test_some is_restore (joined (slice_get b.began (r.0))) ≡ true =
        ap (λ m. test_some is_restore (joined (slice_get b.began m))) (sym number) ∙ sym (ap (restores_at b.began) has) ∙ h
        in
        any_from (λ j. test_some is_restore (kept_state image settings (progress_of b) (with_states b.jobs []) j) && among (out_paths j.recipe) q) b.jobs.jobs
        (r.0) (r.1) r.3
        (both_true (test_some is_restore (kept_state image settings (progress_of b) (with_states b.jobs []) (r.1))) (among (out_paths (r.1).recipe) q)
        (ap (test_some is_restore) (kept_at b.jobs.jobs b.began (r.0) (r.1) r.3 (one_name b sound apart (r.0) (r.1) q r.3 own)) ∙ restores) own)
