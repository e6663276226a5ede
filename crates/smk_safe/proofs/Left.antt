-- What a run of the jobs that are due leaves as it was at its entry, and what it derives from then.
use Rattle.std.proofs.Common.{◌≡◌, ◌⊎◌, inl, inr, suc, Bool, true, false, ◌&&◌, ◌||◌, not, List, [], ◌∷◌, flat_map, refl, ap, sym, subst, ◌∙◌, bytes_eq, Some, true≢false}
use Rattle.std.specs.Prelude.{is_some}
use Rattle.std.proofs.lemmas.List.{append-nil}
use Rattle.smk_safe.proofs.Running.{orderly_each}
use Rattle.smk_base.specs.Path.{own_folder, is_at_or_under, overlaps}
use Rattle.smk_base.specs.Place.{record_place, mark_place, note_place}
use Rattle.smk_base.proofs.Places.{place_itself}
use Rattle.smk_base.proofs.Under.{never_both}
use Rattle.smk_world.specs.declared.event.Event.{Event}
use Rattle.smk_world.specs.World.{World, run, reading, out_paths}
use Rattle.smk_world.specs.Trees.{Path, Each, IsIn, folders_of, is_path_text}
use Rattle.smk_flow.specs.Flows.{Flow}
use Rattle.smk_store.specs.Images.{Image, stands, is_known}
use Rattle.smk_store.specs.Soundness.{Outside, SoundWorld, SameSources}
use Rattle.smk_store.specs.Trust.{Versions}
use Rattle.smk_chain.specs.Derive.{Derived, derivation, hinders, has_record_or_mark, spots}
use Rattle.smk_laws_protocol.specs.Protocol.{now}
use Rattle.smk_laws_protocol.proofs.Basics.{each_in, each_of}
use Rattle.smk_pick.specs.declared.settings.Settings.{Settings}
use Rattle.smk_plan.specs.States.{Plan}
use Rattle.smk_laws_plan.specs.Current.{IsComplete}
use Rattle.smk_laws_plan.proofs.CurrentApart.{SpotsApart, spot_free, spots_apart}
use Rattle.smk_laws_history.proofs.CurrentComplete.{seen_is_complete}
use Rattle.smk_laws_plan.proofs.CurrentLists.{get_in, in_flat, or_left, or_right}
use Rattle.smk_laws_plan.proofs.CurrentPaths.{among_in}
use Rattle.smk_laws_plan.proofs.PlanOne.{derived_clear}
use Rattle.smk_run.specs.Duties.{serials, due}
use Rattle.smk_run.specs.Stamps.{Serials}
use Rattle.smk_run.specs.Turns.{Turn, is_closed}
use Rattle.smk_store_members.specs.Members.{AllIsFound}
use Rattle.smk_safe.proofs.Disjoint.{flipped}
use Rattle.smk_safe.proofs.Sparing.{IsOffTurn, turns_kept}
use Rattle.smk_safe.specs.Planned.{IsPlain}
use Rattle.smk_safe.specs.Ready.{AreReady}
use Rattle.smk_safe.specs.Safe.{IsSafeRun}
use Rattle.smk_safe.specs.Turning.{AllAreFound}
use Rattle.smk_safe.proofs.Images.{kept_at, marked_at, node_at, sources_now}
use Rattle.smk_safe.proofs.Off.{NoneMakes, NoneLogs, AreClearOf, records_off, marks_off, notes_off, users_off, made_or_none, logged_or_none}
use Rattle.smk_safe.proofs.Planned.{no_folders, output_in_spots, log_in_spots}
use Rattle.smk_safe.proofs.Safe.{HasStarted, has_started}
use Rattle.smk_safe.proofs.Dues.{turn_at, due_turns_are_ready, due_run_is_safe, done_but_last, throughout_all}
use Rattle.smk_safe.specs.Exit.{IsDueRun, SameDerivation}
use Rattle.smk_safe.proofs.Same.{IsFree, same_derivation}

-- ## Spots

-- spots that overlap are one
one_spot : (ss : List (Path × Bool)) (s u : Path × Bool) → SpotsApart ss → IsIn ss s → IsIn ss u → overlaps s.0 u.0 ≡ true → s ≡ u
one_spot [] s u apart i k over = absurd i
one_spot (x ∷ ss) s u apart (inl e) (inl d) over = e ∙ sym d
one_spot (x ∷ ss) s u apart (inl e) (inr k) over =
    absurd (never_both (overlaps s.0 u.0) over (ap (λ (y : Path × Bool). overlaps y.0 u.0) e ∙ flipped u.0 x.0 (apart.0 u k)))
one_spot (x ∷ ss) s u apart (inr i) (inl d) over =
    absurd (never_both (overlaps s.0 u.0) over (ap (λ (y : Path × Bool). overlaps s.0 y.0) d ∙ apart.0 s i))
one_spot (x ∷ ss) s u apart (inr i) (inr k) over = one_spot ss s u apart.1 i k over

-- what is in the way then was so before: of another path or of either kind
still_free : (over a b same a2 b2 : Bool) → (over ≡ true → (a2 ≡ a) × ((same ≡ true) ⊎ (b2 ≡ b))) → (over && (a || (b && not same))) ≡ false → (over && (a2 || (b2 && not same))) ≡ false
still_free false a b same a2 b2 h k = refl
still_free true a b same a2 b2 h k = go a b same a2 b2 (h refl).0 (h refl).1 k
  where
    go : (a b same a2 b2 : Bool) → a2 ≡ a → (same ≡ true) ⊎ (b2 ≡ b) → (a || (b && not same)) ≡ false → (a2 || (b2 && not same)) ≡ false
    go a b same a2 b2 e (inr d) k = (λ i. e i || (d i && not same)) ∙ k
    go true b same a2 b2 e (inl d) k = absurd (true≢false k)
    go false b same a2 true e (inl d) k = (λ i. e i || not (d i))
    go false b same a2 false e (inl d) k = (λ i. e i || false)

unknown_free : (over a b same : Bool) → a ≡ false → b ≡ false → (over && (a || (b && not same))) ≡ false
unknown_free over a b same e d = (λ i. over && (e i || (d i && not same))) ∙ never over
  where
    never : (x : Bool) → (x && false) ≡ false
    never true = refl
    never false = refl

module _ (o : Outside) (entry : World) (H : Versions) (flow : Flow) (settings : Settings) (plan : Plan) (ts : List Turn) (es : List Event) (ran : IsDueRun o entry H flow settings plan ts es) where
  abbrev pub before : Image
  before = now o entry

  abbrev pub exit : World
  exit = run entry es

  abbrev pub after_run : Image
  after_run = now o exit

  abbrev pub made : Serials
  made = serials ran.makers (Some (suc ran.top)) ran.duties

  pub ready : AreReady o before made ran.top ts
  ready = due_turns_are_ready o entry flow settings plan ran.makers ran.duties ran.cores ran.top ts ran.sound.formed ran.is_top ran.planned ran.plain ran.meant ran.told ran.in_order ran.fit

  pub safe : IsSafeRun o entry H ran.top ts es
  safe =
      due_run_is_safe o entry H flow settings plan ran.makers ran.duties ran.cores ran.top ts es ran.reads ran.differ ran.sound ran.is_top ran.planned ran.plain ran.meant ran.told ran.in_order ran.fit ran.follows
      ran.is_run

  -- each turn is of a job of the plan
  pub job_in : (t : Turn) → IsIn ts t → IsIn plan.jobs t.job
  job_in t i =
      let at = turn_at before ran.cores ran.top ran.duties ran.duties [] plan.jobs [] ts t refl ran.in_order i in
      get_in plan.jobs at.0 t.job at.1

  pub plain_turn : (t : Turn) → IsIn ts t → folders_of t.job.recipe ≡ []
  plain_turn t i = no_folders t.job (each_in IsPlain plan.jobs t.job ran.plain (job_in t i))

  pub all_found : (v : World) → AllAreFound ts v
  all_found v = each_of (λ (t : Turn). Each (AllIsFound v.nodes) (folders_of t.job.recipe)) ts (λ t i. subst (Each (AllIsFound v.nodes)) (sym (plain_turn t i)) tt)

  abbrev pub Started : Type 0
  Started =
      HasStarted o entry H ran.top made ts es ran.reads ran.differ ran.sound ran.is_top ready (done_but_last ran.cores (due (Some (suc ran.top)) ran.duties plan.jobs) ts ran.in_order)
      (throughout_all (AllAreFound ts) all_found entry es) ran.follows ran.is_run

  pub started : Started
  started =
      has_started o entry H ran.top made ts es ran.reads ran.differ ran.sound ran.is_top ready (done_but_last ran.cores (due (Some (suc ran.top)) ran.duties plan.jobs) ts ran.in_order)
      (throughout_all (AllAreFound ts) all_found entry es) ran.follows ran.is_run

  -- ## What stays

  pub stays : (q : Path) → Each (IsOffTurn true q) ts → exit.nodes q ≡ started.start.nodes q
  stays q off = ap (λ (x : World). x.nodes q) started.at_end ∙ turns_kept true made ts started.start ran.is_run.turns q started.alone started.turns_on off

  pub kept_stays : (q : Path) → NoneMakes q ts → after_run.kept q ≡ before.kept q
  kept_stays q none =
      kept_at o.read started.start exit q (stays (record_place q) (records_off q ts (orderly_each ts ready.arranged) none)) ∙ ap (λ (x : Image). x.kept q) started.seen

  pub marked_stays : (q : Path) → NoneMakes q ts → after_run.marked q ≡ before.marked q
  marked_stays q none =
      marked_at o.read started.start exit q (stays (mark_place q) (marks_off q ts (orderly_each ts ready.arranged) none)) ∙ ap (λ (x : Image). x.marked q) started.seen

  pub noted_stays : (q : Path) → NoneLogs q ts → after_run.noted q ≡ before.noted q
  noted_stays q none =
      let at = stays (note_place q) (notes_off q ts (orderly_each ts ready.arranged) none) in
      (λ i. is_path_text q && is_some (reading (at i))) ∙ ap (λ (x : Image). x.noted q) started.seen

  pub node_stays : (q : Path) → is_at_or_under q own_folder ≡ false → is_at_or_under q q ≡ true → AreClearOf q ts → after_run.node q ≡ before.node q
  node_stays q out at clear = node_at o.read started.start exit q (stays q (users_off q q ts out at clear)) ∙ ap (λ (x : Image). x.node q) started.seen

  pub complete_before : IsComplete before
  complete_before = seen_is_complete o.read entry ran.sound.formed

  module _ (closed : Each (λ (t : Turn). is_closed t.course ≡ true) ts) where
    pub sound_exit : SoundWorld o exit H
    sound_exit = safe.at_end closed

    pub sources_stay : SameSources before after_run
    sources_stay = sources_now o entry exit H sound_exit (safe.throughout es [] (sym (append-nil es)))

    pub complete_after : IsComplete after_run
    complete_after = seen_is_complete o.read exit sound_exit.formed

    -- ## Nothing is in the way

    apart : SpotsApart (flat_map spots plan.jobs)
    apart = spots_apart before [] (flat_map spots plan.jobs) (derived_clear flow before plan.lists settings.targets plan.jobs complete_before ran.planned.derived)

    made_spot : (t : Turn) (q : Path) → IsIn ts t → IsIn (out_paths t.job.recipe) q → IsIn (flat_map spots plan.jobs) (q, true)
    made_spot t q i k = in_flat spots plan.jobs t.job (q, true) (job_in t i) (output_in_spots t.job q k)

    logged_spot : (t : Turn) (q : Path) → IsIn ts t → IsIn t.job.logs q → IsIn (flat_map spots plan.jobs) (q, false)
    logged_spot t q i k = in_flat spots plan.jobs t.job (q, false) (job_in t i) (log_in_spots t.job q k)

    none_before : (s : Path × Bool) (q : Path) → IsIn (flat_map spots plan.jobs) s → is_known before q ≡ true → hinders before s q ≡ false
    none_before s q k known =
        spot_free before [] (flat_map spots plan.jobs) (derived_clear flow before plan.lists settings.targets plan.jobs complete_before ran.planned.derived) s q k
        (among_in before.known q (complete_before.known q known))

    free_before : (s : Path × Bool) (q : Path) → IsIn (flat_map spots plan.jobs) s → hinders before s q ≡ false
    free_before s q k = go (is_known before q) refl
      where
        unknown : (s : Path × Bool) (stood marked noted : Bool) → stands (before.kept q) ≡ stood → before.marked q ≡ marked → before.noted q ≡ noted → (stood || (marked || noted)) ≡ false → hinders before s q ≡ false
        unknown (p, true) stood marked noted a b c h =
            unknown_free (overlaps p q) (before.noted q) (has_record_or_mark before q) (bytes_eq p q)
            (c ∙ or_right marked noted (or_right stood (marked || noted) h))
            ((λ i. a i || b i) ∙ (λ i. or_left stood (marked || noted) h i || or_left marked noted (or_right stood (marked || noted) h) i))
        unknown (p, false) stood marked noted a b c h =
            unknown_free (overlaps p q) (has_record_or_mark before q) (before.noted q) (bytes_eq p q)
            ((λ i. a i || b i) ∙ (λ i. or_left stood (marked || noted) h i || or_left marked noted (or_right stood (marked || noted) h) i))
            (c ∙ or_right marked noted (or_right stood (marked || noted) h))

        go : (b : Bool) → is_known before q ≡ b → hinders before s q ≡ false
        go true e = none_before s q k e
        go false e = unknown s (stands (before.kept q)) (before.marked q) (before.noted q) refl refl refl e

    has_stays : (q : Path) → NoneMakes q ts → has_record_or_mark after_run q ≡ has_record_or_mark before q
    has_stays q none = λ i. stands (kept_stays q none i) || marked_stays q none i

    other_kind : (s u : Path × Bool) → s.1 ≡ true → u.1 ≡ false → s ≡ u → ⊥
    other_kind s u is no_output e = true≢false (sym is ∙ ap (λ (x : Path × Bool). x.1) e ∙ no_output)

    same_spot_path : (s u : Path × Bool) → s ≡ u → bytes_eq s.0 u.0 ≡ true
    same_spot_path s u e = subst (λ (x : Path × Bool). bytes_eq s.0 x.0 ≡ true) e (place_itself s.0)

    free_after : IsFree after_run plan.jobs
    free_after (p, true) q k =
        still_free (overlaps p q) (before.noted q) (has_record_or_mark before q) (bytes_eq p q) (after_run.noted q) (has_record_or_mark after_run q)
        (λ over. (
          elim (logged_or_none q ts) [
            | inl logged ↦ absurd (other_kind (p, true) (q, false) refl refl (one_spot (flat_map spots plan.jobs) (p, true) (q, false) apart k (logged_spot logged.0 q logged.1 logged.2) over))
            | inr none ↦ noted_stays q none
          ],
          elim (made_or_none q ts) [
            | inl made_it ↦ inl (same_spot_path (p, true) (q, true) (one_spot (flat_map spots plan.jobs) (p, true) (q, true) apart k (made_spot made_it.0 q made_it.1 made_it.2) over))
            | inr none ↦ inr (has_stays q none)
          ],
        )) (free_before (p, true) q k)
    free_after (p, false) q k =
        still_free (overlaps p q) (has_record_or_mark before q) (before.noted q) (bytes_eq p q) (has_record_or_mark after_run q) (after_run.noted q)
        (λ over. (
          elim (made_or_none q ts) [
            | inl made_it ↦ absurd (other_kind (q, true) (p, false) refl refl (sym (one_spot (flat_map spots plan.jobs) (p, false) (q, true) apart k (made_spot made_it.0 q made_it.1 made_it.2) over)))
            | inr none ↦ has_stays q none
          ],
          elim (logged_or_none q ts) [
            | inl logged ↦ inl (same_spot_path (p, false) (q, false) (one_spot (flat_map spots plan.jobs) (p, false) (q, false) apart k (logged_spot logged.0 q logged.1 logged.2) over))
            | inr none ↦ inr (noted_stays q none)
          ],
        )) (free_before (p, false) q k)

    pub derived_after : derivation flow after_run plan.lists settings.targets ≡ Derived plan.jobs
    derived_after = same_derivation flow before after_run plan.lists settings.targets plan.jobs complete_before complete_after sources_stay ran.planned.derived free_after

pub same_derivation_at_exit : SameDerivation
same_derivation_at_exit o entry H flow settings plan ts es ran closed = derived_after o entry H flow settings plan ts es ran closed
