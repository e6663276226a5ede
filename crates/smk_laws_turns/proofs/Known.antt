-- What is known of each path once new jobs have come is so in the folder.
use Rattle.std.proofs.Common.{◌≡◌, ◌⊎◌, inl, inr, Bool, true, false, not, ◌&&◌, ◌||◌, List, [], ◌∷◌, Option, Some, None, option_map, is_some, refl, sym, ap, ap₂, ◌∙◌}
use Rattle.std.specs.Prelude.{if◌then◌else◌}
use Rattle.std.specs.List.{list_any}
use Rattle.std.proofs.lemmas.Bool.{or_parts}
use Rattle.std.proofs.Math.Bool.{and-true}
use Rattle.smk_base.proofs.Places.{and_first}
use Rattle.smk_base.proofs.Under.{both_true, never_both, or_cases, or_first, or_second}
use Rattle.smk_world.specs.World.{folders_above, out_paths}
use Rattle.smk_world.specs.Trees.{IsIn, Path, among}
use Rattle.smk_flow.specs.declared.job.Job.{Job}
use Rattle.smk_record.specs.declared.record.Record.{Record}
use Rattle.smk_record.specs.Records.{is_valid}
use Rattle.smk_store.specs.declared.store.Entry.{Entry}
use Rattle.smk_store.specs.declared.store.Kept.{Kept}
use Rattle.smk_store.specs.declared.store.Kept.TheVariants.{Absent, Unreadable, Held}
use Rattle.smk_store.specs.Images.{Image, is_covered, is_known, readable, stands}
use Rattle.smk_store.specs.Loading.{IsStoreOf, entry_at, entry_in}
use Rattle.smk_store.specs.Stores.{entry_of, is_covered_in}
use Rattle.smk_store.specs.Trust.{is_marked_but}
use Rattle.smk_pick.specs.declared.settings.Settings.{Settings}
use Rattle.smk_plan.specs.declared.seen.Sight.{Sight}
use Rattle.smk_plan.specs.States.{is_restored}
use Rattle.smk_plan_facts.specs.Telling.{copied, kept_of, mark_of}
use Rattle.smk_plan_facts.proofs.Stamped.{kept_is, mark_is}
use Rattle.smk_plan_states.specs.Judged.{with_states}
use Rattle.smk_plan_states.specs.Served.{AreApart, outputs_of}
use Rattle.smk_plan_live.specs.declared.base.Base.{Base}
use Rattle.smk_plan_live.specs.Agreeing.{note_of}
use Rattle.smk_plan_live.specs.Carried.{copied_entry}
use Rattle.smk_plan_live.specs.Lives.{IsAgreed, IsSound, progress_of}
use Rattle.smk_plan_live.specs.Now.{entry_now, is_left, known_now, restored_now, settled}
use Rattle.smk_plan_live.proofs.Effects.{restored_tells}
use Rattle.smk_plan_live.proofs.Tables.{known_is, left_now, some_left}
use Rattle.smk_laws_turns.proofs.Carrying.{by_test, same_tests}
use Rattle.smk_laws_turns.proofs.Rows.{IsTold}
use Rattle.smk_laws_turns.proofs.Rows.IsTold.{Fresh, Still}

-- ## What is left of an entry

absent_kept : (k : Kept) → stands k ≡ false → Absent ≡ k
absent_kept Absent h = refl
absent_kept Unreadable h = absurd (never_both true refl h)
absent_kept (Held r) h = absurd (never_both true refl h)

abbrev rest_of : Bool → Entry → Entry
rest_of restored e = record { kept = e.kept; marked = e.marked && not restored; noted = e.noted }

kept_settled : (restored : Bool) (o : Option Entry) → kept_of (settled restored o) ≡ kept_of o
kept_settled restored None = refl
kept_settled restored (Some e) = go (is_left restored e) refl
  where
    go : (b : Bool) → is_left restored e ≡ b → kept_of (if b then Some (rest_of restored e) else None) ≡ e.kept
    go true k = refl
    go false k = absent_kept e.kept (or_parts (stands e.kept) ((e.marked && not restored) || e.noted) k).0

note_settled : (restored : Bool) (o : Option Entry) → note_of (settled restored o) ≡ note_of o
note_settled restored None = refl
note_settled restored (Some e) = go (is_left restored e) refl
  where
    go : (b : Bool) → is_left restored e ≡ b → note_of (if b then Some (rest_of restored e) else None) ≡ e.noted
    go true k = refl
    go false k = sym (or_parts (e.marked && not restored) e.noted (or_parts (stands e.kept) ((e.marked && not restored) || e.noted) k).1).1

mark_settled : (restored : Bool) (o : Option Entry) → mark_of (settled restored o) ≡ (mark_of o && not restored)
mark_settled restored None = refl
mark_settled restored (Some e) = go (is_left restored e) refl
  where
    go : (b : Bool) → is_left restored e ≡ b → mark_of (if b then Some (rest_of restored e) else None) ≡ (e.marked && not restored)
    go true k = refl
    go false k = sym (or_parts (e.marked && not restored) e.noted (or_parts (stands e.kept) ((e.marked && not restored) || e.noted) k).1).0

-- what an image has of a path is settled
settled_image : (image : Image) (q : Path) → settled false (entry_in image q) ≡ entry_in image q
settled_image image q = go (is_known image q) refl
  where
    same : entry_at image q ≡ record { kept = image.kept q; marked = image.marked q && true; noted = image.noted q }
    same = λ i. record { kept = image.kept q; marked = sym (and-true (image.marked q)) i; noted = image.noted q }

    go : (b : Bool) → is_known image q ≡ b → settled false (if b then Some (entry_at image q) else None) ≡ (if b then Some (entry_at image q) else None)
    go true e =
        ap (λ (b : Bool). if b then Some (record { kept = image.kept q; marked = image.marked q && true; noted = image.noted q }) else None)
        (ap (λ m. stands (image.kept q) || (m || image.noted q)) (and-true (image.marked q)) ∙ e)
        ∙ ap Some (sym same)
    go false e = refl

-- ## Copies

kept_copied : (o : Option Entry) → kept_of (option_map copied_entry o) ≡ copied (kept_of o)
kept_copied None = refl
kept_copied (Some e) = refl

mark_copied : (o : Option Entry) → mark_of (option_map copied_entry o) ≡ mark_of o
mark_copied None = refl
mark_copied (Some e) = refl

note_copied : (o : Option Entry) → note_of (option_map copied_entry o) ≡ note_of o
note_copied None = refl
note_copied (Some e) = refl

copied_own : (k : Kept) → ((r : Record) → readable k ≡ Some r → is_valid r ≡ true) → copied k ≡ k
copied_own Absent valid = refl
copied_own Unreadable valid = refl
copied_own (Held r) valid = ap (λ (b : Bool). if b then Held r else Unreadable) (valid r refl)

stands_copied : (k : Kept) → stands (copied k) ≡ stands k
stands_copied Absent = refl
stands_copied Unreadable = refl
stands_copied (Held r) = go (is_valid r)
  where
    go : (b : Bool) → stands (if b then Held r else Unreadable) ≡ true
    go true = refl
    go false = refl

-- as much is left of a copy
left_copied : (restored : Bool) (o : Option Entry) → is_some (settled restored (option_map copied_entry o)) ≡ is_some (settled restored o)
left_copied restored None = refl
left_copied restored (Some e) =
    sym (some_left restored (copied_entry e)) ∙ ap (λ s. s || ((e.marked && not restored) || e.noted)) (stands_copied e.kept) ∙ some_left restored e

-- ## What is something

kept_some : (o : Option Entry) → stands (kept_of o) ≡ true → is_some o ≡ true
kept_some None h = absurd (never_both false h refl)
kept_some (Some e) h = refl

mark_some : (o : Option Entry) → mark_of o ≡ true → is_some o ≡ true
mark_some None h = absurd (never_both false h refl)
mark_some (Some e) h = refl

note_told : (b : Bool) (e : Entry) → note_of (if b then Some e else None) ≡ true → e.noted ≡ true
note_told true e h = h
note_told false e h = absurd (never_both false h refl)

-- ## Paths

module _
    (image : Image) (settings : Settings) (old new : Base) (fresh : List Sight) (sound : IsSound old) (sound' : IsSound new)
    (apart' : AreApart (outputs_of new.jobs.jobs)) (told : (q : Path) → IsTold old new fresh q) (agreed : IsAgreed image settings old)
    (stored : IsStoreOf image new.store) (unnoted : (k : Job) (q : Path) → IsIn new.jobs.jobs k → among (out_paths k.recipe) q ≡ true → image.noted q ≡ false)
    (held : (q : Path) → restored_now old q ≡ true → is_some (entry_of (known_now old) q) ≡ true) where
  kept_before : (q : Path) → kept_of (entry_now old q) ≡ image.kept q
  kept_before q = sym (kept_settled (restored_now old q) (entry_now old q)) ∙ ap kept_of (sym (known_is old q)) ∙ agreed.kept q

  pub kept_after : (q : Path) → kept_of (entry_of (known_now new) q) ≡ image.kept q
  kept_after q = ap kept_of (known_is new q) ∙ kept_settled (restored_now new q) (entry_now new q) ∙ by (told q)
    where
      by : IsTold old new fresh q → kept_of (entry_now new q) ≡ image.kept q
      by (Fresh entry restored sight idle) = ap kept_of entry ∙ kept_is image new.store stored q
      by (Still j k ij ik own own' entry restored sight) =
          ap kept_of entry ∙ kept_copied (entry_now old q) ∙ ap copied (kept_before q)
          ∙ copied_own (image.kept q) (λ r reads. (agreed.recorded q r reads).1)

  marks_before : (q : Path) → (mark_of (entry_now old q) && not (restored_now old q)) ≡ (image.marked q && not (restored_now old q))
  marks_before q =
      sym (mark_settled (restored_now old q) (entry_now old q)) ∙ ap mark_of (sym (known_is old q)) ∙ agreed.marks q
      ∙ ap (λ r. image.marked q && not r) (sym (restored_tells old image settings q sound agreed.served.apart))

  marks_now : (q : Path) → mark_of (entry_of (known_now new) q) ≡ (image.marked q && not (restored_now new q))
  marks_now q = ap mark_of (known_is new q) ∙ mark_settled (restored_now new q) (entry_now new q) ∙ by (told q)
    where
      by : IsTold old new fresh q → (mark_of (entry_now new q) && not (restored_now new q)) ≡ (image.marked q && not (restored_now new q))
      by (Fresh entry restored sight idle) = ap (λ m. m && not (restored_now new q)) (ap mark_of entry ∙ mark_is image new.store stored q)
      by (Still j k ij ik own own' entry restored sight) =
          ap₂ (λ m r. m && not r) (ap mark_of entry ∙ mark_copied (entry_now old q)) restored ∙ marks_before q
          ∙ ap (λ r. image.marked q && not r) (sym restored)

  pub marks_after : (q : Path) →
      mark_of (entry_of (known_now new) q) ≡ is_marked_but image (is_restored image settings (progress_of new) (with_states new.jobs [])) q
  marks_after q = marks_now q ∙ ap (λ r. image.marked q && not r) (restored_tells new image settings q sound' apart')

  pub notes_after : (q : Path) → note_of (entry_of (known_now new) q) ≡ true → image.noted q ≡ true
  notes_after q h = by (told q) (sym (note_settled (restored_now new q) (entry_now new q)) ∙ ap note_of (sym (known_is new q)) ∙ h)
    where
      by : IsTold old new fresh q → note_of (entry_now new q) ≡ true → image.noted q ≡ true
      by (Fresh entry restored sight idle) noted =
          note_told (is_known image q) (entry_at image q) (sym (ap note_of (entry ∙ stored.entries q)) ∙ noted)
      by (Still j k ij ik own own' entry restored sight) noted =
          agreed.notes q
          (ap note_of (known_is old q) ∙ note_settled (restored_now old q) (entry_now old q)
          ∙ sym (ap note_of entry ∙ note_copied (entry_now old q)) ∙ noted)

  -- ## What is covered

  known_here : (q : Path) → is_known image q ≡ true → is_some (entry_of (known_now new) q) ≡ true
  known_here q h = by (told q)
    where
      by : IsTold old new fresh q → is_some (entry_of (known_now new) q) ≡ true
      by (Fresh entry restored sight idle) =
          ap is_some (known_is new q ∙ ap₂ settled restored entry ∙ ap (settled false) (stored.entries q) ∙ settled_image image q)
          ∙ ap (λ (b : Bool). is_some (if b then Some (entry_at image q) else None)) h
      by (Still j k ij ik own own' entry restored sight) =
          parts (or_cases (stands (image.kept q)) (image.marked q || image.noted q) h)
        where
          marked : image.marked q ≡ true → is_some (entry_of (known_now new) q) ≡ true
          marked m =
              by_test (restored_now new q)
              (λ t. ap is_some (known_is new q ∙ ap₂ settled restored entry) ∙ left_copied (restored_now old q) (entry_now old q)
              ∙ ap is_some (sym (known_is old q)) ∙ held q (sym restored ∙ t))
              (λ f. mark_some (entry_of (known_now new) q)
              (marks_now q ∙ both_true (image.marked q) (not (restored_now new q)) m (ap not f)))

          signs : (image.marked q ≡ true) ⊎ (image.noted q ≡ true) → is_some (entry_of (known_now new) q) ≡ true
          signs (inl m) = marked m
          signs (inr n) = absurd (never_both (image.noted q) n (unnoted k q ik own'))

          parts : (stands (image.kept q) ≡ true) ⊎ ((image.marked q || image.noted q) ≡ true) → is_some (entry_of (known_now new) q) ≡ true
          parts (inl stand) = kept_some (entry_of (known_now new) q) (ap stands (kept_after q) ∙ stand)
          parts (inr sign) = signs (or_cases (image.marked q) (image.noted q) sign)

  known_there : (q : Path) → is_some (entry_of (known_now new) q) ≡ true → is_known image q ≡ true
  known_there q h = go (entry_of (known_now new) q) refl h
    where
      of : (e : Entry) → entry_of (known_now new) q ≡ Some e → (stands e.kept ≡ true) ⊎ ((e.marked || e.noted) ≡ true) → is_known image q ≡ true
      of e has (inl stand) =
          or_first (stands (image.kept q)) (image.marked q || image.noted q)
          (sym (ap stands (ap kept_of (sym has) ∙ kept_after q)) ∙ stand)
      of e has (inr sign) = or_second (stands (image.kept q)) (image.marked q || image.noted q) (signs (or_cases e.marked e.noted sign))
        where
          signs : (e.marked ≡ true) ⊎ (e.noted ≡ true) → (image.marked q || image.noted q) ≡ true
          signs (inl m) =
              or_first (image.marked q) (image.noted q)
              (and_first (image.marked q) (not (restored_now new q)) (sym (ap mark_of (sym has) ∙ marks_now q) ∙ m))
          signs (inr n) = or_second (image.marked q) (image.noted q) (notes_after q (ap note_of has ∙ n))

      go : (o : Option Entry) → entry_of (known_now new) q ≡ o → is_some o ≡ true → is_known image q ≡ true
      go None has is = absurd (never_both false is refl)
      go (Some e) has is = of e has (or_cases (stands e.kept) (e.marked || e.noted) (left_now new q e has))

  known_same : (q : Path) → is_some (entry_of (known_now new) q) ≡ is_known image q
  known_same q = same_tests (is_some (entry_of (known_now new) q)) (is_known image q) (known_there q) (known_here q)

  pub covered_after : (q : Path) → is_covered_in (known_now new) q ≡ is_covered image q
  covered_after q = λ i. list_any (λ p. known_same p i) (q ∷ folders_above q)
