-- Events that start no child, and with which no mark goes, make no lines; so steps of which nothing is told.
use Rattle.std.proofs.Common.{◌≡◌, ℕ, Bool, true, false, ◌&&◌, not, List, [], ◌∷◌, ◌++◌, refl, sym, ap, subst, ◌∙◌, is_some, Ok, Err}
use Rattle.std.proofs.Common.{append_assoc, append-nil, true≢false}
use Rattle.std.specs.List.{flat_map, list_all}
use Rattle.smk_base.specs.Place.{mark_place}
use Rattle.smk_world.specs.declared.event.Call.{Call}
use Rattle.smk_world.specs.declared.event.Call.TheVariants.{Looked, ReadFile, ReadFolder, Written, Created, Removed}
use Rattle.smk_world.specs.declared.event.Call.TheVariants.{MadeParents, Settled, Protected, Started, Waited}
use Rattle.smk_world.specs.declared.event.Event.{Event}
use Rattle.smk_world.specs.World.{World, IsFormed, out_paths, run}
use Rattle.smk_world.specs.Calls.{started_number}
use Rattle.smk_world.specs.Devices.{AreLooks, is_look}
use Rattle.smk_world.specs.Requests.{Request, request}
use Rattle.smk_world.specs.Trees.{Path, outs_of}
use Rattle.smk_pattern.specs.Shapes.{Text}
use Rattle.smk_run.proofs.Calls.{EachCall, looked_each}
use Rattle.smk_drive.specs.Moments.{Begun, Moment, Rules, is_closed, is_gone}
use Rattle.smk_drive.specs.Reports.{HasLines, close_line, close_lines, start_lines}
use Rattle.smk_drive_course.proofs.HasMoment.{has_moment}
use Rattle.smk_drive_course.specs.Steps.{Deed}
use Rattle.smk_drive_course.specs.Reports.{lines_of}
use Rattle.smk_laws_moments.proofs.ChildrenOf.{run_more}
use Rattle.smk_laws_moments.proofs.StandsOf.{world_is}
use Rattle.smk_laws_turns.proofs.Signs.{Spares, sign_stays}
use Rattle.smk_laws_turns.specs.Reporting.{FailedWaitIsTold, HaltingIsTold, KeepsEachMark, KeptMarksTellNothing, LeavingIsTold}
use Rattle.smk_laws_turns.specs.Reporting.{ReadingIsTold, WaitingIsTold}
use Rattle.smk_laws_turns.proofs.Lines.{both_none, none_pass, quiet}

-- ## Closes

and_false : (a : Bool) → (a && false) ≡ false
and_false true = refl
and_false false = refl

-- of two that both fail once more, the second fails
both_fail : (x y r s : Bool) → (x ≡ false → y ≡ false) → (r ≡ false → s ≡ false) → (x && r) ≡ false → (y && s) ≡ false
both_fail false y r s one rest h = ap (λ z. z && s) (one refl)
both_fail true y r s one rest h = ap (λ z. y && z) (rest h) ∙ and_false y

marks_stay :
    (w v : World) → KeepsEachMark w v → (ps : List Path) → list_all (λ p. is_gone (w.nodes (mark_place p))) ps ≡ false →
    list_all (λ p. is_gone (v.nodes (mark_place p))) ps ≡ false
marks_stay w v keeps [] h = absurd (true≢false h)
marks_stay w v keeps (p ∷ ps) h =
    both_fail (is_gone (w.nodes (mark_place p))) (is_gone (v.nodes (mark_place p))) _ _ (keeps p) (marks_stay w v keeps ps) h

none_new : (a x y : Bool) → (x ≡ false → y ≡ false) → ((a && y) && not (a && x)) ≡ false
none_new false x y stays = refl
none_new true true y stays = and_false y
none_new true false y stays = ap (λ z. z && true) (stays refl)

module _ (rules : Rules) (entry : World) where
  kept_closed : (m n : Moment) → KeepsEachMark m.world n.world → close_lines rules m n ≡ []
  kept_closed m n keeps =
      ap (flat_map (close_line rules n.world))
      (none_pass rules entry (λ (b : Begun). is_closed n.world b && not (is_closed m.world b))
      (λ b. none_new (is_some b.ended) _ _ (marks_stay m.world n.world keeps (out_paths b.job.recipe))) n.begun)

  -- ## Starts

  none_numbered : (k : ℕ) → k ∷ [] ≡ [] → ⊥
  none_numbered k h = cc

  unstarted : (n : Moment) (call : Call) → started_number call ≡ [] → start_lines rules n call ≡ []
  unstarted n (Started recipe logs command (Ok number)) h = absurd (none_numbered number h)
  unstarted n (Started recipe logs command (Err e)) h = refl
  unstarted n (Looked p r) h = refl
  unstarted n (ReadFile p limit r) h = refl
  unstarted n (ReadFolder p r) h = refl
  unstarted n (Written p bytes r) h = refl
  unstarted n (Created p r) h = refl
  unstarted n (Removed p r) h = refl
  unstarted n (MadeParents p r) h = refl
  unstarted n (Settled ps r) h = refl
  unstarted n (Protected p r) h = refl
  unstarted n (Waited r) h = refl

pub kept_marks_tell_nothing : KeptMarksTellNothing
kept_marks_tell_nothing rules entry before e text formed none keeps lines =
    let m = has_moment rules entry before formed in
    let n = has_moment rules entry (before ++ e ∷ []) formed in
    let at_m = sym (world_is rules entry before m.0 m.1) in
    let at_n = sym (world_is rules entry (before ++ e ∷ []) n.0 n.1) in
    let kept = subst (λ v. KeepsEachMark m.0.world v) at_n (subst (λ w. KeepsEachMark w (run entry (before ++ e ∷ []))) at_m keeps) in
    quiet rules entry before text e m.0 n.0 m.1 n.1 (both_none rules entry _ _ (unstarted rules entry n.0 e.call none)
    (kept_closed rules entry m.0 n.0 kept)) lines

-- ## Requests

-- a call for this starts no child, and no mark goes with it
abbrev pub IsSparing : Request → Type 0
IsSparing r = (p : Path) → Spares (mark_place p) r

spares_starts : (call : Call) → Spares (mark_place []) (request call) → started_number call ≡ []
spares_starts (Started recipe logs command r) h = absurd h
spares_starts (Looked p r) h = refl
spares_starts (ReadFile p limit r) h = refl
spares_starts (ReadFolder p r) h = refl
spares_starts (Written p bytes r) h = refl
spares_starts (Created p r) h = refl
spares_starts (Removed p r) h = refl
spares_starts (MadeParents p r) h = refl
spares_starts (Settled ps r) h = refl
spares_starts (Protected p r) h = refl
spares_starts (Waited r) h = refl

look_spares : (call : Call) → is_look call ≡ true → IsSparing (request call)
look_spares (Looked p r) h = λ q. tt
look_spares (ReadFile p limit r) h = λ q. tt
look_spares (ReadFolder p r) h = λ q. tt
look_spares (Written p bytes r) h = λ q. tt
look_spares (Created p r) h = λ q. tt
look_spares (Removed p r) h = λ q. tt
look_spares (MadeParents p r) h = λ q. tt
look_spares (Settled ps r) h = absurd (true≢false (sym h))
look_spares (Protected p r) h = absurd (true≢false (sym h))
look_spares (Started recipe logs command r) h = absurd (true≢false (sym h))
look_spares (Waited r) h = λ q. tt

looks_spare : (failure : Bool) (es : List Event) → AreLooks failure es → EachCall IsSparing es
looks_spare failure [] h = tt
looks_spare failure (e ∷ []) h = (look_spares e.call h.0, tt)
looks_spare failure (e ∷ (f ∷ es)) h = (look_spares e.call h.0, looks_spare failure (f ∷ es) h.2)

module _ (rules : Rules) (entry : World) (formed : IsFormed entry) where
  one_spared :
      (before : List Event) (e : Event) (text : Text) → IsSparing (request e.call) → HasLines rules entry before text →
      HasLines rules entry (before ++ e ∷ []) text
  one_spared before e text spares lines =
      kept_marks_tell_nothing rules entry before e text formed (spares_starts e.call (spares []))
      (λ p h. subst (λ (v : World). is_gone (v.nodes (mark_place p)) ≡ false) (sym (run_more entry before (e ∷ [])))
      (sign_stays (mark_place p) e.call e.left (run entry before).children ((run entry before).nodes (mark_place p)) (spares p) h)) lines

  pub all_spared : (before es : List Event) (text : Text) → EachCall IsSparing es → HasLines rules entry before text → HasLines rules entry (before ++ es) text
  all_spared before [] text spares lines = subst (λ xs. HasLines rules entry xs text) (sym (append-nil before)) lines
  all_spared before (e ∷ es) text spares lines =
      subst (λ xs. HasLines rules entry xs text) (append_assoc before (e ∷ []) es)
      (all_spared (before ++ e ∷ []) es text spares.1 (one_spared before e text spares.0 lines))

  -- a step of which nothing is told
  untold :
      (before es : List Event) (deeds : List Deed) (text : Text) → deeds ≡ [] → EachCall IsSparing es → HasLines rules entry before text →
      HasLines rules entry (before ++ es) (text ++ lines_of rules.flow deeds)
  untold before es deeds text none spares lines =
      subst (HasLines rules entry (before ++ es)) (sym (ap (λ ds. text ++ lines_of rules.flow ds) none
      ∙ append-nil text)) (all_spared before es text spares lines)

-- ## Steps

pub halting_is_told : HaltingIsTold
halting_is_told rules entry s t before es deeds text formed h lines =
    untold rules entry formed before es deeds text h.deeds_are (looks_spare false es h.only_read) lines

pub reading_is_told : ReadingIsTold
reading_is_told rules entry s t before es deeds text formed h lines =
    untold rules entry formed before es deeds text h.deeds_are (looks_spare true es h.reads) lines

pub leaving_is_told : LeavingIsTold
leaving_is_told rules entry s t before es deeds text formed h lines =
    let looked = looked_each IsSparing (record { look = λ p q. tt; read = λ p limit q. tt; listed = λ p q. tt }) (outs_of h.going.recipe) h.looks h.unclosed in
    untold rules entry formed before es deeds text h.deeds_are (subst (EachCall IsSparing) (sym h.events) (λ q. tt, looked)) lines

pub waiting_is_told : WaitingIsTold
waiting_is_told rules entry s t before es deeds text formed h lines =
    untold rules entry formed before es deeds text h.deeds_are (subst (EachCall IsSparing) (sym h.events) (λ q. tt, tt)) lines

pub failed_wait_is_told : FailedWaitIsTold
failed_wait_is_told rules entry s t before es deeds text formed h lines =
    untold rules entry formed before es deeds text h.deeds_are (subst (EachCall IsSparing) (sym h.events) (λ q. tt, tt)) lines
