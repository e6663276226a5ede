-- A plan stays the last one when an output is removed that is spent by it.
use Rattle.std.proofs.Common.{◌≡◌, inl, inr, Bool, true, false, ◌&&◌, ◌||◌, not, List, [], ◌∷◌, map, zip, refl, sym, ap, subst, ◌∙◌, Option, None, is_some, true≢false}
use Rattle.std.specs.Prelude.{if◌then◌else◌, option_map}
use Rattle.std.proofs.lemmas.Bool.{cases_Bool}
use Rattle.smk_base.specs.Path.{is_at_or_under, is_path}
use Rattle.smk_base.specs.Place.{mark_place, note_place, record_place}
use Rattle.smk_base.proofs.Apart.{path-mark, path-note, path-record}
use Rattle.smk_base.proofs.Under.{at_when_under, or_first}
use Rattle.smk_world.specs.declared.event.Event.{Event}
use Rattle.smk_world.specs.declared.event.Node.{Node}
use Rattle.smk_world.specs.Trees.{IsIn, Path, among, folder_over, is_path_text}
use Rattle.smk_world.specs.World.{World, IsFormed, after, folders_above, going, in_paths, out_paths, reading}
use Rattle.smk_world.proofs.Names.{formed_after}
use Rattle.smk_flow.specs.declared.job.Job.{Job}
use Rattle.smk_flow.specs.Flows.{Flow}
use Rattle.smk_store.specs.declared.store.Kept.TheVariants.{Absent}
use Rattle.smk_store.specs.Images.{Image, content_of, file_at, is_covered, is_file, is_known, is_outside, is_source, kept_by, source_at, stands}
use Rattle.smk_store.specs.Soundness.{SameSources}
use Rattle.smk_store.specs.Soundness as soundness
use Rattle.smk_store.specs.Trust.{is_marked_but, source_stamp, stamp_now_but}
use Rattle.smk_chain.specs.Derive.{Listings}
use Rattle.smk_trigger.specs.declared.reason.Reason.{Reason}
use Rattle.smk_trigger.specs.declared.reason.State.{State}
use Rattle.smk_trigger.specs.declared.reason.State.TheVariants.{Clean, Open}
use Rattle.smk_trigger.specs.JobStates.{is_clean, is_to_run}
use Rattle.smk_trigger.specs.Reasons.{own_reasons}
use Rattle.smk_pick.specs.declared.settings.Settings.{Settings}
use Rattle.smk_plan.specs.States.{IsPlan, Last, LastPlan, Plan, Progress, Then, awaited, by_reasons, is_input, is_open_now, is_read_now, is_restored, is_spent, is_temporary, is_to_restore, is_wanted_back, makes_awaited, new_listings, nothing_done, reasons, staged, state_of}
use Rattle.smk_laws_plan.specs.Current.{IsComplete}
use Rattle.smk_laws_plan.specs.Signs.{HasOwnSigns}
use Rattle.smk_laws_plan.proofs.CurrentApart.{record_stands}
use Rattle.smk_laws_plan.proofs.CurrentLists.{and_left, and_right, any_from, any_none, append_nil_left, in_left, not_true, zip_in}
use Rattle.smk_laws_plan.proofs.CurrentPaths.{among_in, in_among}
use Rattle.smk_laws_plan.proofs.CurrentSame.{kept_record, own_calm}
use Rattle.smk_laws_plan.proofs.PlanStates.{any_same}
use Rattle.smk_laws_history.proofs.CurrentComplete.{seen_is_complete}
use Rattle.smk_laws_history.proofs.HistoryPlaces.{whole_same}
use Rattle.smk_laws_protocol.proofs.Basics.{none_by}
use Rattle.smk_drive.specs.Moments.{Rules, seen}
use Rattle.smk_laws_edit.proofs.AnyPlan.{of_state, one_maker}
use Rattle.smk_laws_turns.proofs.Deriving.{derivation_goes_on}
use Rattle.smk_laws_turns.proofs.Flagged.{temp_output}
use Rattle.smk_laws_turns.proofs.BegunCalls.{within_free, within_of}
use Rattle.smk_laws_turns.proofs.JobPaths.{output_spot, owned_path, spots_differ}
use Rattle.smk_laws_turns.proofs.Ours.{above_at}
use Rattle.smk_laws_turns.proofs.Settling.{is_removal, removal}
use Rattle.smk_clean.specs.NothingStarts.{AllAreClean, SpentKeepsPlan}
use Rattle.smk_clean.proofs.Unwanted.{IsUnwanted, IsWithout, planned_so}

-- the last plan of a chain is a plan by which nothing more becomes known
pub last_ends :
    (flow : Flow) (image : Image) (settings : Settings) (progress : Progress) (L : Listings) (plan : Plan) →
    LastPlan flow image settings progress L plan → IsPlan flow image settings progress plan × (new_listings image settings progress plan ≡ [])
last_ends flow image settings progress _ _ (Last p is done) = (is, done)
last_ends flow image settings progress _ _ (Then p last is more rest) = last_ends flow image settings progress _ last rest

table_clean : (b : Bool) (rs : List Reason) (x : Bool) → is_clean (if b then Open else by_reasons rs x) ≡ true → rs ≡ []
table_clean true rs x h = absurd (true≢false (sym h))
table_clean false [] x h = refl
table_clean false (r ∷ rs) x h = absurd (true≢false (sym h))

no_source : (a b c : Bool) → c ≡ true → (a && (b && not c)) ≡ false
no_source a b false h = absurd (true≢false (sym h))
no_source true true true h = refl
no_source true false true h = refl
no_source false b true h = refl

-- a temporary output is wanted back by an input of a job that is to run alone
wanted_by : (targets waited temporary input read : Bool) → targets ≡ false → waited ≡ false → temporary ≡ true → read ≡ false →
    (targets || (waited || ((not temporary && input) || read))) ≡ false
wanted_by true waited temporary input read a b c d = a
wanted_by false true temporary input read a b c d = b
wanted_by false false false input read a b c d = absurd (true≢false (sym c))
wanted_by false false true input read a b c d = d

unread : (ins : List Path) (p : Path) (s : State) → s ≡ Clean → (among ins p && is_to_run s) ≡ false
unread ins p s h = ap (λ t. among ins p && is_to_run t) h ∙ never (among ins p)
  where
    never : (b : Bool) → (b && false) ≡ false
    never true = refl
    never false = refl

module _
    (rules : Rules) (w : World) (L : Listings) (plan : Plan) (k : Job × State) (p : Path) (formed : IsFormed w)
    (last : LastPlan rules.flow (seen rules w) rules.settings nothing_done L plan) (all_clean : AllAreClean plan) (there : IsIn (staged plan) k)
    (spent : is_spent (seen rules w) rules.settings nothing_done plan k p ≡ true) where
  abbrev image : Image
  image = seen rules w

  abbrev settings : Settings
  settings = rules.settings

  abbrev j : Job
  j = k.0

  complete : IsComplete image
  complete = seen_is_complete rules.read w formed

  is_plan : IsPlan rules.flow image settings nothing_done plan
  is_plan = (last_ends rules.flow image settings nothing_done L plan last).0

  its : IsIn plan.jobs j × (k.1 ≡ state_of image settings nothing_done plan j)
  its = of_state rules.flow image settings plan complete is_plan k there

  -- ## What is spent

  temporary : is_temporary image settings nothing_done plan j p ≡ true
  temporary = and_left (is_temporary image settings nothing_done plan j p) _ spent

  no_target : among settings.targets p ≡ false
  no_target =
      not_true (among settings.targets p)
      (and_left (not (among settings.targets p)) _ (and_right (is_temporary image settings nothing_done plan j p) _ spent))

  clean : is_clean k.1 ≡ true
  clean =
      and_left (is_clean k.1) _ (and_right (not (among settings.targets p)) _ (and_right (is_temporary image settings nothing_done plan j p) _ spent))

  output : IsIn (out_paths j.recipe) p
  output =
      temp_output rules.flow image plan.lists settings.targets plan.jobs complete is_plan.derived j p its.0
      (among_in j.temps p (and_left (among j.temps p) (not (makes_awaited image settings nothing_done plan j)) temporary))

  unawaited : among (awaited image settings nothing_done plan) p ≡ false
  unawaited =
      any_none (among (awaited image settings nothing_done plan)) (out_paths j.recipe) p
      (not_true (makes_awaited image settings nothing_done plan j)
      (and_right (among j.temps p) (not (makes_awaited image settings nothing_done plan j)) temporary)) output

  not_read : is_input plan (λ (e : Job × State). is_to_run e.1) p ≡ false
  not_read =
      none_by (λ (e : Job × State). among (in_paths e.0.recipe) p && is_to_run e.1) (staged plan)
      (λ e i. unread (in_paths e.0.recipe) p e.1 (zip_in (λ (i : Job). Clean) plan.jobs e (subst (λ (ss : List State). IsIn (zip plan.jobs ss) e) all_clean i)).1)

  unwanted : IsUnwanted rules.flow settings plan image p
  unwanted i ii o =
      subst (λ (x : Job). is_wanted_back image settings nothing_done plan x p ≡ false)
      (one_maker rules.flow image settings plan complete is_plan j i p its.0 ii
      (or_first (among (out_paths j.recipe) p) (is_some (folder_over j.recipe p)) (in_among (out_paths j.recipe) p output))
      (or_first (among (out_paths i.recipe) p) (is_some (folder_over i.recipe p)) (in_among (out_paths i.recipe) p o)))
      (wanted_by (among settings.targets p) (among (awaited image settings nothing_done plan) p) (is_temporary image settings nothing_done plan j p)
      (is_input plan (λ (e : Job × State). true) p) (is_input plan (λ (e : Job × State). is_to_run e.1) p) no_target unawaited temporary not_read)

  -- ## Its record

  calm : reasons image settings nothing_done plan j ≡ []
  calm =
      table_clean (is_open_now image settings nothing_done plan j) (reasons image settings nothing_done plan j)
      (is_to_restore image settings nothing_done plan j && not (is_read_now image settings nothing_done plan j)) (ap is_clean (sym its.1) ∙ clean)

  its_record : stands (image.kept p) ≡ true
  its_record =
      let left = is_restored image settings nothing_done plan in
      let kept = map image.kept (out_paths j.recipe) in
      let marked = map (is_marked_but image left) (out_paths j.recipe) in
      let stamps = map (λ q. (q, stamp_now_but image left q)) (in_paths j.recipe) in
      let own = own_calm j.recipe kept marked stamps (append_nil_left (own_reasons j.recipe kept marked stamps) _ calm) in
      let r = kept_record image (out_paths j.recipe) p own.present own.readable output in
      (record_stands image complete p r.0 r.1).0

  -- ## What stands where

  abbrev v : World
  v = after w (removal p)

  abbrev later : Image
  later = seen rules v

  formed_v : IsFormed v
  formed_v = formed_after w (removal p) formed

  path : is_path p ≡ true
  path =
      owned_path rules.flow image plan.lists settings.targets plan.jobs complete is_plan.derived j p its.0 (in_left p (out_paths j.recipe) j.logs output)

  reads_same : (q : Path) → is_at_or_under q p ≡ false → reading (v.nodes q) ≡ reading (w.nodes q)
  reads_same q out = ap (λ b. reading (if b then going None (w.nodes q) else w.nodes q)) out

  kept_same : image.kept ≡ later.kept
  kept_same n q =
      if is_path_text q then kept_by rules.read q (sym (reads_same (record_place q) (path-record p q path).at_or_over) n) else Absent

  marked_same : image.marked ≡ later.marked
  marked_same n q = is_path_text q && is_some (sym (reads_same (mark_place q) (path-mark p q path).at_or_over) n)

  noted_same : image.noted ≡ later.noted
  noted_same n q = is_path_text q && is_some (sym (reads_same (note_place q) (path-note p q path).at_or_over) n)

  file_same : (q : Path) → is_at_or_under q p ≡ false → file_at later q ≡ file_at image q
  file_same q out = ap (λ (n : Option Node). content_of (if is_outside q then n else None)) (reads_same q out)

  -- ## Sources

  known_same : (q : Path) → is_known later q ≡ is_known image q
  known_same q = λ n. stands (sym kept_same n q) || (sym marked_same n q || sym noted_same n q)

  covered_same : (q : Path) → is_covered later q ≡ is_covered image q
  covered_same q = any_same (is_known later) (is_known image) (q ∷ folders_above q) (λ f i. known_same f)

  covered : (q : Path) → is_at_or_under q p ≡ true → is_covered image q ≡ true
  covered q at =
      any_from (is_known image) (q ∷ folders_above q) p (above_at q p at) (or_first (stands (image.kept p)) (image.marked p || image.noted p) its_record)

  source_same : (q : Path) → is_source later q ≡ is_source image q
  source_same q = elim (cases_Bool (is_at_or_under q p)) [
    | inl at ↦
        no_source (is_path_text q) (is_file later q) (is_covered later q) (covered_same q ∙ covered q at)
        ∙ sym (no_source (is_path_text q) (is_file image q) (is_covered image q) (covered q at))
    | inr out ↦
        let file = file_same q out in
        let cover = covered_same q in
        λ n. is_path_text q && (is_some (file n) && not (cover n))
  ]

  content_same : (q : Path) → source_at later q ≡ source_at image q
  content_same q = elim (cases_Bool (is_at_or_under q p)) [
    | inl at ↦
        let none = no_source (is_path_text q) (is_file image q) (is_covered image q) (covered q at) in
        ap (λ b. if b then file_at later q else None) (source_same q ∙ none) ∙ sym (ap (λ b. if b then file_at image q else None) none)
    | inr out ↦
        let file = file_same q out in
        let source = source_same q in
        λ n. if source n then file n else None
  ]

  -- ## The plan

  apart : (i : Job) (q x : Path) → IsIn plan.jobs i → IsIn (out_paths i.recipe) q → (q ≡ p → ⊥) → is_at_or_under x q ≡ true → is_at_or_under x p ≡ false
  apart i q x ii o other at =
      within_of (p ∷ []) p x (inl refl)
      (within_free (p ∷ []) q x (
        spots_differ rules.flow image plan.lists settings.targets plan.jobs complete is_plan.derived (p, true) (q, true)
            (output_spot plan.jobs j p its.0 output) (output_spot plan.jobs i q ii o) (λ e. other (sym (ap (λ (y : Path × Bool). y.0) e))),
        tt,
      ) at)

  without : IsWithout rules.flow settings plan image p later
  without =
      record {
        source = source_same;
        stamp = λ q. ap source_stamp (content_same q);
        whole = λ i q kind ii o other.
            whole_same rules.read w v formed formed_v q (λ x at. reads_same x (apart i q x ii o other at)) kind kept_same;
        file = λ i d q ii o other under. ap is_some (file_same q (apart i d q ii o other (at_when_under q d under)));
      }

  same_sources : SameSources image later
  same_sources q = ap (option_map soundness.told) (content_same q)

  own_signs : HasOwnSigns image later plan.jobs
  own_signs =
      record {
        notes = λ q h. inl (ap (λ (f : Path → Bool). f q) noted_same ∙ h);
        signs = λ q h. inl ((λ n. stands (kept_same n q) || marked_same n q) ∙ h);
      }

  stays : LastPlan rules.flow later settings nothing_done plan.lists plan
  stays =
      let so = planned_so rules.flow settings plan image p complete is_plan unwanted unawaited later kept_same marked_same without in
      Last plan
      (record {
        derived = derivation_goes_on rules.flow image later plan.lists settings.targets plan.jobs complete (seen_is_complete rules.read v formed_v)
            same_sources own_signs is_plan.derived;
        states = so.states;
      })
      (so.listings ∙ (last_ends rules.flow image settings nothing_done L plan last).1)

pub spent_keeps_plan : SpentKeepsPlan
spent_keeps_plan act rules w L plan k p e formed last all_clean there spent done follows =
    subst (λ (d : Event). LastPlan rules.flow (seen rules (after w d)) rules.settings nothing_done plan.lists plan)
    (sym (is_removal act w p e.call e.left done.0 done.1 follows.0.lets)) (stays rules w L plan k p formed last all_clean there spent)
