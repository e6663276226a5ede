-- The folder once a spent output was removed.
use Rattle.std.proofs.Common.{◌≡◌, inl, inr, Bool, true, false, ◌&&◌, ◌||◌, List, [], ◌∷◌, Option, None, is_some, refl, sym, ap, subst, ◌∙◌, true≢false}
use Rattle.std.specs.Prelude.{if◌then◌else◌}
use Rattle.std.specs.List.{flat_map}
use Rattle.smk_base.specs.Path.{is_at_or_under, is_path, overlaps}
use Rattle.smk_base.specs.Place.{mark_place, note_place, record_place}
use Rattle.smk_base.proofs.Apart.{path-mark, path-note, path-record}
use Rattle.smk_base.proofs.Under.{false_unless, never_both, or_first, overlaps_at}
use Rattle.smk_world.specs.declared.event.Child.{Child}
use Rattle.smk_world.specs.declared.event.Node.{Node}
use Rattle.smk_world.specs.declared.event.NodeState.{NodeState}
use Rattle.smk_world.specs.declared.event.NodeState.TheVariants.{Owned, Known}
use Rattle.smk_world.specs.Trees.{Each, IsIn, Path, among, is_path_text}
use Rattle.smk_world.specs.World.{World, IsFormed, after, folders_above, going, in_paths, is_within, out_paths, reading}
use Rattle.smk_world.proofs.Names.{formed_after}
use Rattle.smk_flow.specs.declared.job.Job.{Job}
use Rattle.smk_store.specs.declared.store.Kept.{Kept}
use Rattle.smk_store.specs.declared.store.Kept.TheVariants.{Absent}
use Rattle.smk_store.specs.Images.{Image, content_of, file_at, is_covered, is_known, is_outside, kept_by, stands}
use Rattle.smk_store.specs.Soundness.{SameSources}
use Rattle.smk_chain.specs.declared.jobs.Jobs.{Jobs}
use Rattle.smk_chain.specs.Derive.{spots}
use Rattle.smk_plan.specs.Summed.{needs_sum, records_by}
use Rattle.smk_plan_facts.specs.Facts.{told_sources}
use Rattle.smk_laws_history.proofs.CurrentComplete.{seen_is_complete}
use Rattle.smk_laws_plan.specs.Current.{IsComplete}
use Rattle.smk_laws_plan.proofs.CurrentChosen.{path_in}
use Rattle.smk_laws_plan.proofs.CurrentLists.{in_left}
use Rattle.smk_laws_plan.proofs.CurrentPaths.{among_in, in_among}
use Rattle.smk_laws_plan.proofs.PlanStates.{any_same}
use Rattle.smk_laws_protocol.proofs.Basics.{each_of, none_by}
use Rattle.smk_laws_moments.proofs.Spots.{flipped}
use Rattle.smk_drive.specs.Moments.{Rules, seen}
use Rattle.smk_laws_turns.specs.Changing.{DiffersAt, IsAside, IsOld, IsOldOrMade, NeedsNoMore, OnlyMakes}
use Rattle.smk_laws_plan.specs.Signs.{HasOwnSigns}
use Rattle.smk_laws_turns.specs.Places.{LeavesElse}
use Rattle.smk_laws_turns.proofs.Carrying.{by_test}
use Rattle.smk_laws_turns.proofs.Places.{differs_by_places}
use Rattle.smk_laws_turns.specs.Hubs.{IsOurs, IsSigned}
use Rattle.smk_laws_turns.specs.Begun.{IsSpentFor}
use Rattle.smk_laws_turns.specs.Differing.{AreOfEntry, ChangesAt}
use Rattle.smk_laws_turns.proofs.BegunCalls.{within_free, within_of}
use Rattle.smk_laws_turns.proofs.JobPaths.{output_spot, owned_no_source, owned_path, spots_differ}
use Rattle.smk_laws_turns.proofs.Ours.{at_above, ours_go_on, within_some}
use Rattle.smk_laws_turns.proofs.Settling.{removal}
use Rattle.smk_laws_turns.proofs.SpentOutput.{IsOutputOf}
use Rattle.smk_laws_turns.proofs.Unseen.{nothing_seen}

going_reads : (s : NodeState) → reading (going None s) ≡ None
going_reads Owned = refl
going_reads (Known now besides) = refl

aside_of : (paths : List Path) (q : Path) → is_within q paths ≡ false → IsAside paths q
aside_of paths q within =
    none_by (among paths) (q ∷ folders_above q)
    (λ p i. false_unless (among paths p) (λ t. never_both (is_at_or_under q p) (at_above q p i) (within_of paths p q (among_in paths p t) within)))

module _
    (rules : Rules) (entry : World) (jobs : Jobs) (w : World) (p : Path) (from : AreOfEntry rules entry jobs) (formed : IsFormed w)
    (ours : IsOurs rules entry jobs.jobs w) (its : IsOutputOf (seen rules w) jobs.jobs p) where
  abbrev v : World
  v = after w (removal p)

  abbrev image : Image
  image = seen rules w

  abbrev later : Image
  later = seen rules v

  abbrev first : Image
  first = seen rules entry

  complete : IsComplete first
  complete = seen_is_complete rules.read entry from.formed

  path : is_path p ≡ true
  path =
      owned_path rules.flow first jobs.lists rules.settings.targets jobs.jobs complete from.derived its.job p its.member
      (in_left p (out_paths its.job.recipe) its.job.logs its.is_output)

  -- ## What stands where

  reads_same : (q : Path) → is_at_or_under q p ≡ false → reading (v.nodes q) ≡ reading (w.nodes q)
  reads_same q out = ap (λ b. reading (if b then going None (w.nodes q) else w.nodes q)) out

  reads_none : (q : Path) → is_at_or_under q p ≡ true → reading (v.nodes q) ≡ None
  reads_none q at = ap (λ b. reading (if b then going None (w.nodes q) else w.nodes q)) at ∙ going_reads (w.nodes q)

  record_reads : (q : Path) → reading (v.nodes (record_place q)) ≡ reading (w.nodes (record_place q))
  record_reads q = reads_same (record_place q) (path-record p q path).at_or_over

  mark_reads : (q : Path) → reading (v.nodes (mark_place q)) ≡ reading (w.nodes (mark_place q))
  mark_reads q = reads_same (mark_place q) (path-mark p q path).at_or_over

  note_reads : (q : Path) → reading (v.nodes (note_place q)) ≡ reading (w.nodes (note_place q))
  note_reads q = reads_same (note_place q) (path-note p q path).at_or_over

  kept_same : (q : Path) → later.kept q ≡ image.kept q
  kept_same q = ap (λ (n : Option Node). if is_path_text q then kept_by rules.read q n else Absent) (record_reads q)

  marked_same : (q : Path) → later.marked q ≡ image.marked q
  marked_same q = ap (λ (n : Option Node). is_path_text q && is_some n) (mark_reads q)

  noted_same : (q : Path) → later.noted q ≡ image.noted q
  noted_same q = ap (λ (n : Option Node). is_path_text q && is_some n) (note_reads q)

  gone_node : (q : Path) → is_at_or_under q p ≡ true → later.node q ≡ None
  gone_node q at = go (is_outside q) (reads_none q at)
    where
      go : (b : Bool) → reading (v.nodes q) ≡ None → (if b then reading (v.nodes q) else None) ≡ None
      go true none = none
      go false none = refl

  file_same : (q : Path) → is_at_or_under q p ≡ false → file_at later q ≡ file_at image q
  file_same q out = ap (λ (n : Option Node). content_of (if is_outside q then n else None)) (reads_same q out)

  within_one : (q : Path) → is_within q (p ∷ []) ≡ false → is_at_or_under q p ≡ false
  within_one q out = within_of (p ∷ []) p q (inl refl) out

  -- ## What is apart from it

  not_within : (q : Path) → overlaps p q ≡ false → (x : Path) → is_at_or_under x q ≡ true → is_at_or_under x p ≡ false
  not_within q apart x at = within_one x (within_free (p ∷ []) q x (apart, tt) at)

  source_apart : (q : Path) → among (told_sources jobs.makers) q ≡ true → overlaps p q ≡ false
  source_apart q told =
      owned_no_source rules.flow first jobs.lists rules.settings.targets jobs.jobs complete from.derived its.job p q its.member
      (in_left p (out_paths its.job.recipe) its.job.logs its.is_output) (from.sourced q told)

  other_apart : (k : Job) (q : Path) → IsIn jobs.jobs k → IsIn (out_paths k.recipe) q → among (p ∷ []) q ≡ false → overlaps p q ≡ false
  other_apart k q ik i out =
      spots_differ rules.flow first jobs.lists rules.settings.targets jobs.jobs complete from.derived (p, true) (q, true)
      (output_spot jobs.jobs its.job p its.member its.is_output) (output_spot jobs.jobs k q ik i)
      (λ e. never_both (among (p ∷ []) q) (in_among (p ∷ []) q (inl (sym (ap (λ (x : Path × Bool). x.0) e)))) out)

  leaves_else : LeavesElse w v jobs (p ∷ [])
  leaves_else =
      record {
        records = λ q out. record_reads q;
        marks = λ q out. mark_reads q;
        notes = λ q h. ap is_some (note_reads q) ∙ h;
        outputs = λ k ik o io out x at. reads_same x (not_within o.path (other_apart k o.path ik (path_in k.recipe o io) out) x at);
        sources = λ q told x at. reads_same x (not_within q (source_apart q told) x at);
      }

  -- ## The differences

  source_aside : (q : Path) → among (told_sources jobs.makers) q ≡ true → IsAside (p ∷ []) q
  source_aside q told =
      aside_of (p ∷ []) q (false_unless (is_within q (p ∷ []))
      (λ t. let o = within_some (p ∷ []) q t in go o.0 o.1 o.2))
    where
      go : (o : Path) → IsIn (p ∷ []) o → is_at_or_under q o ≡ true → ⊥
      go o (inl e) at =
          never_both (overlaps q p) (subst (λ x. overlaps q x ≡ true) e (overlaps_at q o at)) (flipped p q (source_apart q told))
      go o (inr never) at = never

  known_same : (q : Path) → is_known later q ≡ is_known image q
  known_same q =
      let kept = ap stands (kept_same q) in
      let marked = marked_same q in
      let noted = noted_same q in
      λ i. kept i || (marked i || noted i)

  uncovered : (q : Path) → among (told_sources jobs.makers) q ≡ true → is_covered later q ≡ true → is_covered image q ≡ true
  uncovered q told h = sym (any_same (is_known later) (is_known image) (q ∷ folders_above q) (λ f i. known_same f)) ∙ h

  only_makes : (q : Path) → OnlyMakes image later (p ∷ []) q
  only_makes q file =
      by_test (is_within q (p ∷ [])) inside (λ out. IsOld (aside_of (p ∷ []) q out) (file_same q (within_one q out)))
    where
      inside : is_within q (p ∷ []) ≡ true → IsOldOrMade image later (p ∷ []) q
      inside t = let o = within_some (p ∷ []) q t in go o.0 o.1 o.2
        where
          go : (o : Path) → IsIn (p ∷ []) o → is_at_or_under q o ≡ true → IsOldOrMade image later (p ∷ []) q
          go o (inl e) at =
              absurd (true≢false (sym file ∙ ap is_some (ap content_of (gone_node q (subst (λ x. is_at_or_under q x ≡ true) e at)))))
          go o (inr never) at = absurd never

  needs : (k : Job) (q : Path) → NeedsNoMore image later k q
  needs k q =
      let same : later.kept ≡ image.kept = λ i x. kept_same x i in
      λ f source h. sym (ap (λ (kept : Path → Kept). needs_sum (records_by kept k) q f.time) same) ∙ h

  differs : DiffersAt image later jobs rules.settings.targets (p ∷ [])
  differs =
      differs_by_places rules.read w v jobs rules.settings.targets (p ∷ []) formed (formed_after w (removal p) formed) leaves_else source_aside uncovered
      (each_of (λ (k : Job). Each (OnlyMakes image later (p ∷ [])) (in_paths k.recipe)) jobs.jobs
      (λ k ik. each_of (OnlyMakes image later (p ∷ [])) (in_paths k.recipe) (λ q iq. only_makes q)))
      (each_of (OnlyMakes image later (p ∷ [])) rules.settings.targets (λ q iq. only_makes q))
      (each_of (λ (k : Job). Each (NeedsNoMore image later k) (in_paths k.recipe)) jobs.jobs
      (λ k ik. each_of (NeedsNoMore image later k) (in_paths k.recipe) (λ q iq. needs k q)))

  -- ## The run's own

  its_kept : is_known later p ≡ true
  its_kept = or_first (stands (later.kept p)) (later.marked p || later.noted p) (ap stands (kept_same p) ∙ its.kept)

  changes : ChangesAt image later (p ∷ []) []
  changes =
      record {
        files = λ q out. file_same q (within_one q out);
        kept = λ q out. kept_same q;
        marks = λ q out. marked_same q;
        notes = λ q out. noted_same q;
        outputs = λ q i. inl (at q i);
        logged = λ q i. absurd i;
      }
    where
      at : (q : Path) → IsIn (p ∷ []) q → is_known later q ≡ true
      at q (inl e) = subst (λ x. is_known later x ≡ true) (sym e) its_kept
      at q (inr never) = absurd never

  its_spot : (q : Path) → IsIn (p ∷ []) q → IsIn (flat_map spots jobs.jobs) (q, true)
  its_spot q (inl e) =
      subst (λ x. IsIn (flat_map spots jobs.jobs) (x, true)) (sym e)
      (output_spot jobs.jobs its.job p its.member its.is_output)
  its_spot q (inr never) = absurd never

  still : SameSources first later × HasOwnSigns first later jobs.jobs × HasOwnSigns later first jobs.jobs
  still =
      ours_go_on rules.flow first image later jobs.lists rules.settings.targets jobs.jobs (p ∷ []) [] complete from.derived its_spot (λ q i. absurd i)
      changes ours.sources ours.signs ours.gone

  signed_now : (c : Child) → IsIn v.children c → IsSigned later c.recipe c.logs
  signed_now c i =
      let was = ours.signed c i in
      record { marked = λ q k. marked_same q ∙ was.marked q k; noted = λ q k. noted_same q ∙ was.noted q k }

  pub spent_for : IsSpentFor rules entry jobs w v p
  spent_for =
      record {
        job = its.job;
        member = its.member;
        is_output = in_among (out_paths its.job.recipe) p its.is_output;
        differs = differs;
        output = record { hidden = record { kept = kept_same p; nothing = nothing_seen later p gone_node }; marked = marked_same p };
        ours = record { sources = still.0; signs = still.1; gone = still.2; signed = signed_now };
      }
