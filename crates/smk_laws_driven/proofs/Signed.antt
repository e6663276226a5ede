-- The calls of one job leave no signs but its own; and removals leave none but those that stood.
use Rattle.std.proofs.Common.{◌≡◌, inl, inr, Bool, true, false, List, ◌++◌, flat_map, sym, ap, subst, ◌∙◌, ◌&&◌, ◌||◌, Option, is_some}
use Rattle.std.specs.Prelude.{if◌then◌else◌}
use Rattle.smk_base.specs.Place.{mark_place, note_place, record_place}
use Rattle.smk_base.proofs.Under.{at_itself}
use Rattle.smk_world.specs.declared.event.Event.{Event}
use Rattle.smk_world.specs.declared.event.Node.{Node}
use Rattle.smk_world.specs.World.{World, out_paths, reading, run}
use Rattle.smk_world.specs.Trees.{IsIn, Path, among, is_path_text}
use Rattle.smk_flow.specs.declared.job.Job.{Job}
use Rattle.smk_store.specs.Images.{Image, kept_by, stands}
use Rattle.smk_store.specs.declared.store.Kept.TheVariants.{Absent}
use Rattle.smk_chain.specs.Derive.{Derived, Listings, derivation, has_record_or_mark, jobs, job, chosen, spots, walk}
use Rattle.smk_laws_plan.specs.Current.{IsComplete}
use Rattle.smk_laws_plan.specs.Signs.{HasOwnSigns}
use Rattle.smk_laws_protocol.proofs.Basics.{by_test}
use Rattle.smk_drive.specs.Moments.{Rules, seen}
use Rattle.smk_laws_turns.specs.Leaving.{AreOwnCalls}
use Rattle.smk_laws_turns.proofs.Leaving.{own_calls_leave}
use Rattle.smk_laws_turns.proofs.Off.{signs_are_off}
use Rattle.smk_laws_turns.proofs.JobPaths.{log_spot, note_off, output_spot, owned_paths_are}
use Rattle.smk_laws_plan.proofs.CurrentPaths.{among_in}
use Rattle.smk_laws_plan.proofs.CurrentLists.{flat_in, in_flat, in_map, map_in}
use Rattle.smk_laws_history.proofs.MoreListings.{walk_more}
use Rattle.smk_laws_complete.proofs.Walked.{derived_walked, walked_derived}
use Rattle.smk_choose.specs.Choose.{Sources}
use Rattle.smk_flow.specs.Flows.{Flow}

module _ (rules : Rules) (first base : Image) (L : Listings) (js : List Job) (complete : IsComplete base)
    (derives : derivation rules.flow base L rules.settings.targets ≡ Derived js) (j : Job) (ij : IsIn js j) (w : World) (es : List Event)
    (own : AreOwnCalls j w es) (signs : HasOwnSigns first (seen rules w) js) where
  abbrev now : Image
  now = seen rules w

  abbrev later : Image
  later = seen rules (run w es)

  note_same : (q : Path) → among j.logs q ≡ false → later.noted q ≡ now.noted q
  note_same q out =
      ap (λ (n : Option Node). is_path_text q && is_some n)
      (own_calls_leave j w es (note_place q) own (note_off rules.flow base L rules.settings.targets js complete derives j q ij out) (note_place q)
      (at_itself (note_place q)))

  sign_same : (q : Path) → among (out_paths j.recipe) q ≡ false → has_record_or_mark later q ≡ has_record_or_mark now q
  sign_same q out =
      let off = signs_are_off j q (owned_paths_are rules.flow base L rules.settings.targets js complete derives j ij) out in
      let mark = own_calls_leave j w es (mark_place q) own off.0 (mark_place q) (at_itself (mark_place q)) in
      let kept = own_calls_leave j w es (record_place q) own off.1 (record_place q) (at_itself (record_place q)) in
      λ i. stands (if is_path_text q then kept_by rules.read q (kept i) else Absent) || (is_path_text q && is_some (mark i))

  pub signs_kept : HasOwnSigns first (seen rules (run w es)) js
  signs_kept =
      record {
        notes = λ q h. by_test (among j.logs q) (λ t. inr (log_spot js j q ij (among_in j.logs q t))) (λ f. signs.notes q (sym (note_same q f) ∙ h));
        signs = λ q h. by_test (among (out_paths j.recipe) q) (λ t. inr (output_spot js j q ij (among_in (out_paths j.recipe) q t)))
            (λ f. signs.signs q (sym (sign_same q f) ∙ h));
      }

-- Where notes, marks and records read as before there are no other signs.
pub signs_stay :
    (rules : Rules) (first : Image) (js : List Job) (w v : World) →
    ((q : Path) → reading (v.nodes (mark_place q)) ≡ reading (w.nodes (mark_place q))) →
    ((q : Path) → reading (v.nodes (note_place q)) ≡ reading (w.nodes (note_place q))) →
    ((q : Path) → reading (v.nodes (record_place q)) ≡ reading (w.nodes (record_place q))) →
    HasOwnSigns first (seen rules w) js → HasOwnSigns first (seen rules v) js
signs_stay rules first js w v marks notes records signs =
    record {
      notes = λ q h. signs.notes q (sym (ap (λ (n : Option Node). is_path_text q && is_some n) (notes q)) ∙ h);
      signs = λ q h.
          let mark = marks q in
          let kept = records q in
          let same : has_record_or_mark (seen rules v) q ≡ has_record_or_mark (seen rules w) q =
          λ i. stands (if is_path_text q then kept_by rules.read q (kept i) else Absent) || (is_path_text q && is_some (mark i)) in
          signs.signs q (sym same ∙ h);
    }

-- ## More listings

-- what is of some jobs is of more
pub more_signs :
    (a b : Image) (js ks : List Job) → ((s : Path × Bool) → IsIn (flat_map spots js) s → IsIn (flat_map spots ks) s) → HasOwnSigns a b js → HasOwnSigns a b ks
more_signs a b js ks stay own =
    record {
      notes = λ q h. elim (own.notes q h) [ inl was ↦ inl was | inr i ↦ inr (stay (q, false) i) ];
      signs = λ q h. elim (own.signs q h) [ inl was ↦ inl was | inr i ↦ inr (stay (q, true) i) ];
    }

-- with more listings the jobs make and log what they did
pub spots_on :
    (flow : Flow) (sources : Sources) (L M : Listings) (targets : List Path) (s : Path × Bool) → IsIn (flat_map spots (jobs flow sources L targets)) s →
    IsIn (flat_map spots (jobs flow sources (L ++ M) targets)) s
spots_on flow sources L M targets s i =
    let j = flat_in spots (jobs flow sources L targets) s i in
    let c = map_in (job flow L) (chosen flow sources L targets) j.0 j.1 in
    let t = derived_walked flow sources L targets c.0 c.1 in
    let on =
    walked_derived flow sources (L ++ M) targets c.0
    (in_flat (walk flow sources (L ++ M) 200) targets t.0 c.0 t.1 (walk_more flow sources L M 200 t.0 c.0 t.2)) in
    in_flat spots (jobs flow sources (L ++ M) targets) (job flow (L ++ M) c.0) s (in_map (job flow (L ++ M)) (chosen flow sources (L ++ M) targets) c.0 on)
    (subst (λ (x : Job). IsIn (spots x) s) c.2 j.2)

pub signs_on :
    (flow : Flow) (sources : Sources) (L M K : Listings) (targets : List Path) (a b : Image) → K ≡ L ++ M → HasOwnSigns a b (jobs flow sources L targets) →
    HasOwnSigns a b (jobs flow sources K targets)
signs_on flow sources L M K targets a b same own =
    subst (λ (N : Listings). HasOwnSigns a b (jobs flow sources N targets)) (sym same)
    (more_signs a b (jobs flow sources L targets) (jobs flow sources (L ++ M) targets) (λ s i. spots_on flow sources L M targets s i) own)
