-- The folder once a job has begun.
use Rattle.std.proofs.Common.{◌≡◌, ◌⊎◌, inl, inr, ℕ, Bool, true, false, ◌&&◌, ◌||◌, List, [], ◌∷◌, Option, None, is_some, refl, sym, ap, subst, ◌∙◌, true≢false}
use Rattle.std.specs.Prelude.{if◌then◌else◌}
use Rattle.smk_base.specs.Path.{is_at_or_under, is_path}
use Rattle.smk_base.specs.Place.{mark_place, note_place, record_place}
use Rattle.smk_base.proofs.Under.{at_itself, both_true, or_first, or_second}
use Rattle.smk_world.specs.declared.event.Child.{Child}
use Rattle.smk_world.specs.declared.event.Event.{Event}
use Rattle.smk_world.specs.declared.event.Node.{Node}
use Rattle.smk_world.specs.declared.event.NodeState.{NodeState}
use Rattle.smk_world.specs.Requests.{HasDone}
use Rattle.smk_world.specs.Runs.{Follows}
use Rattle.smk_world.specs.Trees.{Act, Each, IsIn, Path, among, is_path_text}
use Rattle.smk_world.specs.World.{World, IsFormed, out_paths, reading, run}
use Rattle.smk_world.proofs.Names.{formed_run}
use Rattle.smk_flow.specs.declared.job.Job.{Job}
use Rattle.smk_store.specs.declared.store.Kept.{Kept}
use Rattle.smk_store.specs.declared.store.Kept.TheVariants.{Absent}
use Rattle.smk_store.specs.Images.{Image, content_of, file_at, is_outside, kept_by, stands}
use Rattle.smk_store.specs.Soundness.{SameSources}
use Rattle.smk_chain.specs.declared.jobs.Jobs.{Jobs}
use Rattle.smk_job.specs.Jobs.{begin_requests}
use Rattle.smk_laws_job.specs.Laws.{HasOwnFolder}
use Rattle.smk_plan.specs.Summed.{needs_sum, records_by}
use Rattle.smk_laws_history.proofs.CurrentComplete.{seen_is_complete}
use Rattle.smk_laws_plan.specs.Current.{IsComplete}
use Rattle.smk_laws_plan.proofs.CurrentLists.{in_either, in_left, in_right}
use Rattle.smk_laws_plan.proofs.CurrentPaths.{among_in}
use Rattle.smk_laws_protocol.proofs.Basics.{each_in}
use Rattle.smk_drive.specs.Moments.{Rules, is_gone, seen}
use Rattle.smk_laws_turns.specs.Agreeing.{IsBegunOutput}
use Rattle.smk_laws_turns.specs.Changing.{NeedsNoMore}
use Rattle.smk_laws_plan.specs.Signs.{HasOwnSigns}
use Rattle.smk_laws_turns.proofs.Carrying.{by_test}
use Rattle.smk_laws_turns.specs.Hubs.{IsOurs, IsSigned}
use Rattle.smk_laws_turns.specs.Begun.{IsBegunFor}
use Rattle.smk_laws_turns.specs.Differing.{AreOfEntry, ChangesAt, LeavesOthers}
use Rattle.smk_laws_turns.proofs.BeginCalls.{free_off, free_record}
use Rattle.smk_laws_turns.proofs.BeginWorld.{children_now, files_same, free_same, mark_stands, marks_same, note_stands, owned_gone}
use Rattle.smk_laws_turns.proofs.Differing.{differs_of}
use Rattle.smk_laws_turns.proofs.JobPaths.{log_spot, note_off, output_spot, owned, owned_paths_are}
use Rattle.smk_laws_turns.proofs.Ours.{ours_go_on}
use Rattle.smk_laws_turns.proofs.Unseen.{nothing_seen}

no_content : (b : Bool) → content_of (if b then None else None) ≡ None
no_content true = refl
no_content false = refl

module _
    (act : Act) (rules : Rules) (entry : World) (jobs : Jobs) (j : Job) (command : List ℕ) (w : World) (es : List Event) (from : AreOfEntry rules entry jobs)
    (ij : IsIn jobs.jobs j) (formed : IsFormed w) (ours : IsOurs rules entry jobs.jobs w) (free : HasOwnFolder w)
    (texts : Each (λ p. is_path_text p ≡ true) (owned j)) (follows : Follows act w es) (done : HasDone (begin_requests j.recipe j.logs command) es) where
  abbrev v : World
  v = run w es

  abbrev image : Image
  image = seen rules w

  abbrev later : Image
  later = seen rules v

  abbrev first : Image
  first = seen rules entry

  abbrev outs : List Path
  outs = out_paths j.recipe

  complete : IsComplete first
  complete = seen_is_complete rules.read entry from.formed

  paths : Each (λ q. is_path q ≡ true) (owned j)
  paths = owned_paths_are rules.flow first jobs.lists rules.settings.targets jobs.jobs complete from.derived j ij

  text_of : (p : Path) → IsIn (owned j) p → is_path_text p ≡ true
  text_of p i = each_in (λ p. is_path_text p ≡ true) (owned j) p texts i

  -- ## What stands where

  kept_same : (q : Path) → later.kept q ≡ image.kept q
  kept_same q =
      ap (λ (n : Option Node). if is_path_text q then kept_by rules.read q n else Absent)
      (free_same act j command w es follows done (record_place q) (free_record j paths q) (record_place q) (at_itself (record_place q)))

  marks_else : (q : Path) → among outs q ≡ false → later.marked q ≡ image.marked q
  marks_else q out = ap (λ (s : NodeState). is_path_text q && is_some (reading s)) (marks_same act j command w es follows done paths q out)

  notes_else : (q : Path) → among j.logs q ≡ false → later.noted q ≡ image.noted q
  notes_else q out =
      ap (λ (n : Option Node). is_path_text q && is_some n)
      (free_same act j command w es follows done (note_place q)
      (free_off j (note_place q) (note_off rules.flow first jobs.lists rules.settings.targets jobs.jobs complete from.derived j q ij out)) (note_place q)
      (at_itself (note_place q)))

  marked_own : (q : Path) → IsIn outs q → later.marked q ≡ true
  marked_own q i =
      both_true (is_path_text q) (is_some (reading (v.nodes (mark_place q)))) (text_of q (in_left q outs j.logs i))
      (mark_stands act j command w es follows done paths free q i)

  noted_own : (q : Path) → IsIn j.logs q → later.noted q ≡ true
  noted_own q i =
      both_true (is_path_text q) (is_some (reading (v.nodes (note_place q)))) (text_of q (in_right q outs j.logs i))
      (note_stands act j command w es follows done paths free q i)

  gone_node : (p q : Path) → IsIn (owned j) p → is_at_or_under q p ≡ true → later.node q ≡ None
  gone_node p q i at = go (is_outside q) (owned_gone act j command w es follows done p q i at)
    where
      go : (b : Bool) → reading (v.nodes q) ≡ None → (if b then reading (v.nodes q) else None) ≡ None
      go true none = none
      go false none = refl

  gone_file : (p q : Path) → IsIn (owned j) p → is_at_or_under q p ≡ true → file_at later q ≡ None
  gone_file p q i at = ap content_of (gone_node p q i at)

  -- ## The differences

  needs_no_more : (q : Path) → NeedsNoMore image later j q
  needs_no_more q =
      let same : later.kept ≡ image.kept = λ i p. kept_same p i in
      λ f source h. sym (ap (λ (kept : Path → Kept). needs_sum (records_by kept j) q f.time) same) ∙ h

  leaves : LeavesOthers rules w v j
  leaves =
      record {
        elsewhere = λ p off. free_same act j command w es follows done p (free_off j p off);
        files = λ q out. files_same act j command w es follows done rules q out;
        notes = λ q i h. note_stands act j command w es follows done paths free q (among_in j.logs q i);
        made = λ o q i at file.
            absurd (true≢false (sym file ∙ ap is_some (gone_file o q (in_left o outs j.logs (among_in outs o i)) at)));
        summed = needs_no_more;
      }

  changes : ChangesAt image later outs j.logs
  changes =
      record {
        files = λ q out. files_same act j command w es follows done rules q out;
        kept = λ q out. kept_same q;
        marks = marks_else;
        notes = notes_else;
        outputs = λ p i. inl (or_second (stands (later.kept p)) (later.marked p || later.noted p) (or_first (later.marked p) (later.noted p) (marked_own p i)));
        logged = λ p i. inl (or_second (stands (later.kept p)) (later.marked p || later.noted p) (or_second (later.marked p) (later.noted p) (noted_own p i)));
      }

  still : SameSources first later × HasOwnSigns first later jobs.jobs × HasOwnSigns later first jobs.jobs
  still =
      ours_go_on rules.flow first image later jobs.lists rules.settings.targets jobs.jobs outs j.logs complete from.derived
      (λ p i. output_spot jobs.jobs j p ij i) (λ p i. log_spot jobs.jobs j p ij i) changes ours.sources ours.signs ours.gone

  -- ## The children

  mark_stays : (p : Path) → image.marked p ≡ true → later.marked p ≡ true
  mark_stays p h = by_test (among outs p) (λ t. marked_own p (among_in outs p t)) (λ f. marks_else p f ∙ h)

  note_stays : (p : Path) → image.noted p ≡ true → later.noted p ≡ true
  note_stays p h = by_test (among j.logs p) (λ t. noted_own p (among_in j.logs p t)) (λ f. notes_else p f ∙ h)

  its_signs : IsSigned later j.recipe j.logs
  its_signs = record { marked = λ p i. marked_own p (among_in outs p i); noted = λ p i. noted_own p (among_in j.logs p i) }

  signed_now : (c : Child) → IsIn v.children c → IsSigned later c.recipe c.logs
  signed_now c i =
      let now = children_now act j command w es follows done in
      go (in_either c w.children (record { number = now.0; recipe = j.recipe; logs = j.logs } ∷ []) (subst (λ (cs : List Child). IsIn cs c) now.1 i))
    where
      go : {n : ℕ} → IsIn w.children c ⊎ IsIn (record { number = n; recipe = j.recipe; logs = j.logs } ∷ []) c → IsSigned later c.recipe c.logs
      go (inl old) =
          let was = ours.signed c old in record { marked = λ p k. mark_stays p (was.marked p k); noted = λ p k. note_stays p (was.noted p k) }
      go (inr (inl e)) = subst (λ (x : Child). IsSigned later x.recipe x.logs) (sym e) its_signs
      go (inr (inr never)) = absurd never

  -- ## All of it

  hidden : (q : Path) → among outs q ≡ true → IsBegunOutput image later q
  hidden q i =
      let at = among_in outs q i in
      record {
        hidden = record { kept = kept_same q; nothing = nothing_seen later q (λ x under. gone_node q x (in_left q outs j.logs at) under) };
        marked = marked_own q at;
      }

  pub begun_for : IsBegunFor rules entry jobs w v j
  begun_for =
      record {
        member = ij;
        differs = differs_of rules entry w v jobs j from ij formed (formed_run w es formed) still.0 leaves;
        outputs = hidden;
        logged = λ q i. noted_own q (among_in j.logs q i);
        ours = record { sources = still.0; signs = still.1; gone = still.2; signed = signed_now };
        still_gone = λ q out h. ap is_gone (marks_same act j command w es follows done paths q out) ∙ h;
      }
