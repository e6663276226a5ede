-- Where something else stands at the places of one job alone, the images differ at its outputs.
use Rattle.std.proofs.Common.{◌≡◌, ◌⊎◌, inl, inr, Bool, true, false, ◌&&◌, not, List, [], ◌∷◌, map, flat_map, Option, is_some, refl, sym, ap, subst, ◌∙◌, true≢false}
use Rattle.std.specs.Prelude.{if◌then◌else◌}
use Rattle.smk_base.specs.Path.{is_at_or_under, is_path, overlaps}
use Rattle.smk_base.specs.Place.{mark_place, note_place, record_place}
use Rattle.smk_base.proofs.Places.{and_second}
use Rattle.smk_base.proofs.Under.{at_itself, at_when_under, false_of_not, false_unless, never_both, overlaps_above_both, overlaps_at}
use Rattle.smk_world.specs.declared.event.Node.{Node}
use Rattle.smk_world.specs.Trees.{Each, IsIn, Path, among, is_path_text}
use Rattle.smk_world.specs.World.{World, IsFormed, folders_above, in_paths, is_within, out_paths, reading}
use Rattle.smk_flow.specs.declared.job.Job.{Job}
use Rattle.smk_record.specs.declared.record.Record.{Record}
use Rattle.smk_store.specs.declared.store.Kept.{Kept}
use Rattle.smk_store.specs.declared.store.Kept.TheVariants.{Absent}
use Rattle.smk_store.specs.Images.{Image, is_covered, is_file, is_source, kept_by}
use Rattle.smk_store.specs.Soundness.{SameSources}
use Rattle.smk_chain.specs.declared.jobs.Jobs.{Jobs}
use Rattle.smk_trigger.specs.Reasons.{held}
use Rattle.smk_plan.specs.Summed.{needs_sum, records_by}
use Rattle.smk_plan_facts.specs.Facts.{told_sources}
use Rattle.smk_safe.proofs.Same.{source_same}
use Rattle.smk_laws_history.proofs.CurrentComplete.{seen_is_complete}
use Rattle.smk_laws_history.proofs.Valid.{records_valid}
use Rattle.smk_laws_plan.specs.Current.{HasValidRecords, IsComplete}
use Rattle.smk_laws_plan.proofs.CurrentApart.{JobsApart, makes_above}
use Rattle.smk_laws_plan.proofs.CurrentChosen.{path_in}
use Rattle.smk_laws_plan.proofs.CurrentLists.{in_left, in_right}
use Rattle.smk_laws_plan.proofs.CurrentPaths.{Above, among_in, in_among}
use Rattle.smk_laws_plan.proofs.PlanOne.{derived_apart}
use Rattle.smk_laws_protocol.proofs.Basics.{each_of, none_by}
use Rattle.smk_laws_moments.proofs.Spots.{flipped}
use Rattle.smk_drive.specs.Moments.{Rules, seen}
use Rattle.smk_laws_turns.specs.Changing.{DiffersAt, IsAside, IsNew, IsOld, NeedsNoMore, OnlyMakes}
use Rattle.smk_laws_turns.specs.Places.{LeavesElse}
use Rattle.smk_laws_turns.proofs.Carrying.{by_test}
use Rattle.smk_laws_turns.proofs.Off.{signs_are_off}
use Rattle.smk_laws_turns.proofs.Places.{differs_by_places}
use Rattle.smk_laws_turns.specs.Differing.{AreOfEntry, DiffersOf, LeavesOthers}
use Rattle.smk_laws_turns.proofs.BegunCalls.{within_both, within_of}
use Rattle.smk_laws_turns.proofs.JobPaths.{log_spot, note_off, output_off, output_spot, owned, owned_no_source, owned_paths_are, source_off, spots_differ}
use Rattle.smk_laws_turns.proofs.Ours.{above_at, at_above, within_some}
use Rattle.smk_laws_turns.proofs.SourceOrMade.{IsSourceOrMade, input_kind, target_kind}

-- ## Lists

map_on : (f g : Path → Kept) (ps : List Path) → ((p : Path) → IsIn ps p → f p ≡ g p) → map f ps ≡ map g ps
map_on f g [] same = refl
map_on f g (p ∷ ps) same = λ i. same p (inl refl) i ∷ map_on f g ps (λ q k. same q (inr k)) i

overlaps_itself : (p : Path) → overlaps p p ≡ true
overlaps_itself p = overlaps_at p p (at_itself p)

-- none of these is an output of the job
abbrev MakesNone : Job → Job → Type 0
MakesNone j k = (o : Path) → IsIn (out_paths k.recipe) o → among (out_paths j.recipe) o ≡ false

-- two jobs are one, or have no output in common
pub one_or_apart : (js : List Job) (j k : Job) → JobsApart js → IsIn js j → IsIn js k → (k ≡ j) ⊎ MakesNone j k
one_or_apart [] j k h ij ik = absurd ij
one_or_apart (x ∷ js) j k h (inl a) (inl b) = inl (b ∙ sym a)
one_or_apart (x ∷ js) j k h (inl a) (inr ik) =
    inr (λ o io. false_unless (among (out_paths j.recipe) o)
    (λ t. never_both (overlaps o o) (overlaps_itself o)
    (h.0 k o o ik (subst (λ (z : Job). IsIn (out_paths z.recipe) o) a (among_in (out_paths j.recipe) o t)) io)))
one_or_apart (x ∷ js) j k h (inr ij) (inl b) =
    inr (λ o io. false_unless (among (out_paths j.recipe) o)
    (λ t. never_both (overlaps o o) (overlaps_itself o)
    (h.0 j o o ij (subst (λ (z : Job). IsIn (out_paths z.recipe) o) b io) (among_in (out_paths j.recipe) o t))))
one_or_apart (x ∷ js) j k h (inr ij) (inr ik) = one_or_apart js j k h.2 ij ik

above_is : (q o : Path) → Above q o → is_at_or_under q o ≡ true
above_is q o (inl e) = subst (λ z. is_at_or_under q z ≡ true) e (at_itself q)
above_is q o (inr u) = at_when_under q o u

module _
    (rules : Rules) (entry w v : World) (jobs : Jobs) (j : Job) (from : AreOfEntry rules entry jobs) (ij : IsIn jobs.jobs j) (leaves : LeavesOthers rules w v j)
  where
    abbrev first : Image
    first = seen rules entry

    abbrev outs : List Path
    outs = out_paths j.recipe

    complete : IsComplete first
    complete = seen_is_complete rules.read entry from.formed

    valid : HasValidRecords first
    valid = records_valid rules.read entry.names (λ q. reading (entry.nodes q))

    paths : Each (λ q. is_path q ≡ true) (owned j)
    paths = owned_paths_are rules.flow first jobs.lists rules.settings.targets jobs.jobs complete from.derived j ij

    note_there : (p : Path) → is_some (reading (w.nodes (note_place p))) ≡ true → is_some (reading (v.nodes (note_place p))) ≡ true
    note_there p h =
        by_test (among j.logs p) (λ t. leaves.notes p t h)
        (λ f. ap is_some
        (leaves.elsewhere (note_place p) (note_off rules.flow first jobs.lists rules.settings.targets jobs.jobs complete from.derived j p ij f) (note_place p)
        (at_itself (note_place p)))
        ∙ h)

    leaves_else : LeavesElse w v jobs outs
    leaves_else =
        record {
          records = λ p out. leaves.elsewhere (record_place p) (signs_are_off j p paths out).1 (record_place p) (at_itself (record_place p));
          marks = λ p out. leaves.elsewhere (mark_place p) (signs_are_off j p paths out).0 (mark_place p) (at_itself (mark_place p));
          notes = note_there;
          outputs = λ k ik o io out.
              leaves.elsewhere o.path
              (output_off rules.flow first jobs.lists rules.settings.targets jobs.jobs complete from.derived j o.path ij
              (output_spot jobs.jobs k o.path ik (path_in k.recipe o io)) out);
          sources = λ p told.
              leaves.elsewhere p
              (source_off rules.flow first jobs.lists rules.settings.targets jobs.jobs complete from.derived j p ij (from.sourced p told));
        }

    -- ## Files

    not_under_source : (q p : Path) → IsIn (owned j) p → is_at_or_under q p ≡ true → is_source first q ≡ true → ⊥
    not_under_source q p i at source =
        never_both (overlaps q p) (overlaps_at q p at)
        (flipped p q (owned_no_source rules.flow first jobs.lists rules.settings.targets jobs.jobs complete from.derived j p q ij i source))

    outside_logs : (q : Path) → IsSourceOrMade first jobs.jobs q → is_within q j.logs ≡ false
    outside_logs q kind =
        false_unless (is_within q j.logs) (λ t. let l = within_some j.logs q t in go l.0 l.1 l.2 kind)
      where
        go : (l : Path) → IsIn j.logs l → is_at_or_under q l ≡ true → IsSourceOrMade first jobs.jobs q → ⊥
        go l il at (inl source) = not_under_source q l (in_right l outs j.logs il) at source
        go l il at (inr (m, im, made)) =
            let o = makes_above m q made in
            never_both (overlaps l o.0) (overlaps_above_both q l o.0 at (above_is q o.0 o.2))
            (spots_differ rules.flow first jobs.lists rules.settings.targets jobs.jobs complete from.derived (l, false) (o.0, true)
            (log_spot jobs.jobs j l ij il) (output_spot jobs.jobs m o.0 im o.1) (λ e. true≢false (sym (ap (λ (x : Path × Bool). x.1) e))))

    aside : (q : Path) → is_within q outs ≡ false → IsAside outs q
    aside q within =
        none_by (among outs) (q ∷ folders_above q)
        (λ p i. false_unless (among outs p) (λ t. never_both (is_at_or_under q p) (at_above q p i) (within_of outs p q (among_in outs p t) within)))

    only_makes : (q : Path) → IsSourceOrMade first jobs.jobs q → OnlyMakes (seen rules w) (seen rules v) outs q
    only_makes q kind file =
        by_test (is_within q outs)
        (λ t. let o = within_some outs q t in
        IsNew o.0 (above_at q o.0 o.2) (in_among outs o.0 o.1) (leaves.made o.0 q (in_among outs o.0 o.1) o.2 file))
        (λ f. IsOld (aside q f) (leaves.files q (within_both outs j.logs q f (outside_logs q kind))))

    -- ## Sources

    source_aside : (p : Path) → among (told_sources jobs.makers) p ≡ true → IsAside outs p
    source_aside p told =
        aside p (false_unless (is_within p outs)
        (λ t. let o = within_some outs p t in not_under_source p o.0 (in_left o.0 outs j.logs o.1) o.2 (from.sourced p told)))

    uncovered :
        SameSources first (seen rules v) → (p : Path) → among (told_sources jobs.makers) p ≡ true →
        is_covered (seen rules v) p ≡ true → is_covered (seen rules w) p ≡ true
    uncovered same p told covered =
        let source : is_source (seen rules v) p ≡ true = source_same first (seen rules v) same p ∙ from.sourced p told in
        let rest = and_second (is_path_text p) (is_file (seen rules v) p && not (is_covered (seen rules v) p)) source in
        absurd (never_both (is_covered (seen rules v) p) covered
        (false_of_not (is_covered (seen rules v) p) (and_second (is_file (seen rules v) p) (not (is_covered (seen rules v) p)) rest)))

    -- ## Records

    kept_same : (p : Path) → among outs p ≡ false → (seen rules v).kept p ≡ (seen rules w).kept p
    kept_same p out = ap (λ (n : Option Node). if is_path_text p then kept_by rules.read p n else Absent) (leaves_else.records p out)

    needs : (k : Job) (q : Path) → IsIn jobs.jobs k → NeedsNoMore (seen rules w) (seen rules v) k q
    needs k q ik = go (one_or_apart jobs.jobs j k (derived_apart rules.flow first jobs.lists rules.settings.targets jobs.jobs complete from.derived) ij ik)
      where
        go : (k ≡ j) ⊎ MakesNone j k → NeedsNoMore (seen rules w) (seen rules v) k q
        go (inl e) = subst (λ (x : Job). NeedsNoMore (seen rules w) (seen rules v) x q) (sym e) (leaves.summed q)
        go (inr none) =
            let same : records_by (seen rules v).kept k ≡ records_by (seen rules w).kept k =
            ap (flat_map held) (map_on (seen rules v).kept (seen rules w).kept (out_paths k.recipe) (λ o io. kept_same o (none o io)))
            in
            λ f source h. sym (ap (λ (rs : List Record). needs_sum rs q f.time) same) ∙ h

    differs : IsFormed w → IsFormed v → SameSources first (seen rules v) → DiffersAt (seen rules w) (seen rules v) jobs rules.settings.targets outs
    differs formed formed' same =
        differs_by_places rules.read w v jobs rules.settings.targets outs formed formed' leaves_else source_aside (uncovered same)
        (each_of (λ (k : Job). Each (OnlyMakes (seen rules w) (seen rules v) outs) (in_paths k.recipe)) jobs.jobs
        (λ k ik. each_of (OnlyMakes (seen rules w) (seen rules v) outs) (in_paths k.recipe)
        (λ q iq. only_makes q (input_kind rules.flow first jobs.lists rules.settings jobs.jobs complete valid from.derived k q ik iq))))
        (each_of (OnlyMakes (seen rules w) (seen rules v) outs) rules.settings.targets
        (λ q iq. only_makes q (target_kind rules.flow first jobs.lists rules.settings jobs.jobs complete valid from.derived q iq)))
        (each_of (λ (k : Job). Each (NeedsNoMore (seen rules w) (seen rules v) k) (in_paths k.recipe)) jobs.jobs
        (λ k ik. each_of (NeedsNoMore (seen rules w) (seen rules v) k) (in_paths k.recipe) (λ q iq. needs k q ik)))

pub differs_of : DiffersOf
differs_of rules entry w v jobs j from ij formed formed' same leaves = differs rules entry w v jobs j from ij leaves formed formed' same
