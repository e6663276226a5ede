-- Nothing by which jobs are planned hangs on the lock.
use Rattle.std.proofs.Common.{◌≡◌, ℕ, Bool, true, false, List, [], ◌∷◌, ◌++◌, map, flat_map, filter, refl, ap, sym, subst, ◌∙◌, Option, None}
use Rattle.std.specs.Prelude.{◌&&◌, ◌||◌, nat_lt, length, is_some, if◌then◌else◌}
use Rattle.std.specs.List.Sorted.{IsStrictlySortedBy}
use Rattle.smk_base.specs.Path.{own_folder, is_at_or_under, overlaps}
use Rattle.smk_base.specs.Place.{lock_place, record_place, mark_place, note_place}
use Rattle.smk_base.proofs.Apart.{IsApart, outside-own, record-lock, mark-lock, note-lock}
use Rattle.smk_base.proofs.Under.{false_of_not}
use Rattle.smk_world.specs.Trees.{Path, is_path_text}
use Rattle.smk_world.specs.World.{World, IsFormed, IsRising, reading}
use Rattle.smk_world.proofs.Names.{adds_rising}
use Rattle.smk_world.specs.declared.event.Node.{Node}
use Rattle.smk_flow.specs.Flows.{Flow}
use Rattle.smk_record.specs.declared.record.Record.{Record}
use Rattle.smk_store.specs.declared.store.Kept.TheVariants.{Absent}
use Rattle.smk_store.specs.Images.{Image, is_outside, kept_by, known_by, seen, stands}
use Rattle.smk_chain.specs.Derive.{Listings, Refusal, Clash, Deep, TooManyPaths, derivation, outcome, refused_if, reach, refused, is_deep, jobs, spots, clashes, hinders, sources_of}
use Rattle.smk_chain_derive.proofs.Seen.{seen_lists_known}
use Rattle.smk_pick.specs.declared.settings.Settings.{Settings}
use Rattle.smk_plan.specs.States.{Plan, Progress, IsPlan, LastPlan, Last, Then, new_listings}
use Rattle.smk_laws_history.proofs.CurrentComplete.{seen_is_complete}
use Rattle.smk_laws_protocol.proofs.Sorted.{rising_same, filter_rises}
use Rattle.smk_report.specs.declared.fault.Fault.{Fault}
use Rattle.smk_drive.specs.Moments.{Rules}
use Rattle.smk_drive.specs.Refusals.{ChainRefuses, DerivationRefuses, PlanRefuses, NextRefuses}
use Rattle.smk_plan_preview.specs.declared.previewing.Previewed.{Previewed}
use Rattle.smk_plan_preview.specs.Previewing.{IsPreviewed}
use Rattle.smk_keep_lock.specs.Changing.{ChangesOnly}
use Rattle.smk_laws_refusing.specs.Heeding.{IsSameButLock, LastPlansHeedNoLock, LockChangesItselfAlone, PreviewsHeedNoLock, RefusalsHeedNoLock, with_lock}

-- ## The folder but for the lock

none_rises : IsRising []
unfolding IsStrictlySortedBy
none_rises = tt

known_rises : (read : List ℕ → Option Record) (w : World) → IsRising (seen read w).known
known_rises read w = adds_rising (flat_map known_by (filter (λ q. is_some (reading (w.nodes q))) w.names)) [] none_rises

module _ (read : List ℕ → Option Record) (w v : World) (formed_w : IsFormed w) (formed_v : IsFormed v)
    (only : ChangesOnly (lock_place ∷ []) (lock_place ∷ []) w v) where
  -- what is apart from the lock reads as before
  at_lock : (q : Path) → IsApart q lock_place → reading (v.nodes q) ≡ reading (w.nodes q)
  at_lock q apart = sym (only q (ap (λ b. b || false) apart.at_or_under) (ap (λ b. b || false) apart.over)).0

  node_same : (q : Path) → (seen read v).node q ≡ (seen read w).node q
  node_same q = go (is_outside q) refl
    where
      go : (b : Bool) → is_outside q ≡ b → (if b then reading (v.nodes q) else None) ≡ (if b then reading (w.nodes q) else None)
      go true out = at_lock q (outside-own q lock_place (false_of_not (is_at_or_under q own_folder) out) refl)
      go false out = refl

  kept_same : (q : Path) → (seen read v).kept q ≡ (seen read w).kept q
  kept_same q = ap (λ (n : Option Node). if is_path_text q then kept_by read q n else Absent) (at_lock (record_place q) (record-lock q))

  marked_same : (q : Path) → (seen read v).marked q ≡ (seen read w).marked q
  marked_same q = ap (λ (n : Option Node). is_path_text q && is_some n) (at_lock (mark_place q) (mark-lock q))

  noted_same : (q : Path) → (seen read v).noted q ≡ (seen read w).noted q
  noted_same q = ap (λ (n : Option Node). is_path_text q && is_some n) (at_lock (note_place q) (note-lock q))

  names_same : (seen read v).names ≡ (seen read w).names
  names_same =
      rising_same (seen read v).names (seen read w).names (filter_rises (λ q. is_outside q && is_some (reading (v.nodes q))) v.names formed_v.rising)
      (filter_rises (λ q. is_outside q && is_some (reading (w.nodes q))) w.names formed_w.rising)
      (λ q. (seen_is_complete read v formed_v).names q ∙ ap (λ (n : Option Node). is_some n) (node_same q) ∙ sym ((seen_is_complete read w formed_w).names q))

  known_same : (seen read v).known ≡ (seen read w).known
  known_same =
      let a = seen_lists_known v formed_v read in
      let b = seen_lists_known w formed_w read in
      rising_same (seen read v).known (seen read w).known (known_rises read v) (known_rises read w)
      (λ q. a.each q ∙ (λ i. stands (kept_same q i) || (marked_same q i || noted_same q i)) ∙ sym (b.each q))

  same_but_lock : IsSameButLock (seen read w) (seen read v)
  same_but_lock = λ i.
      record {
        names = names_same i;
        node = λ q. node_same q i;
        kept = λ q. kept_same q i;
        marked = λ q. marked_same q i;
        noted = λ q. noted_same q i;
        known = known_same i;
        locked = (seen read v).locked;
      }

pub lock_changes_itself_alone : LockChangesItselfAlone
lock_changes_itself_alone read w v formed_w formed_v only = same_but_lock read w v formed_w formed_v only

-- what hangs on no lock is so of both
pub on_both : (P : Image → Type 0) → ((i : Image) (locked : Bool) → P i → P (with_lock i locked)) → (a b : Image) → IsSameButLock a b → P a → P b
on_both P more a b same h = subst P (sym same) (more a b.locked h)

pub same_back : (a b : Image) → IsSameButLock a b → IsSameButLock b a
same_back a b same = sym (ap (λ (i : Image). with_lock i a.locked) same)

-- ## Derivations

module _ (i : Image) (locked : Bool) where
  clashes_same : (earlier : List Path) (ss : List (Path × Bool)) → clashes (with_lock i locked) earlier ss ≡ clashes i earlier ss
  clashes_same earlier [] = refl
  clashes_same earlier (s ∷ ss) = ap (λ (l : List Refusal). map (Clash s.0) (filter (overlaps s.0) earlier ++ filter (hinders i s) i.known) ++ l)
      (clashes_same (earlier ++ s.0 ∷ []) ss)

  derivation_same : (flow : Flow) (L : Listings) (targets : List Path) → derivation flow (with_lock i locked) L targets ≡ derivation flow i L targets
  derivation_same flow L targets =
      ap (λ (c : List Refusal).
      outcome
      (refused_if (nat_lt 100000 (length (reach flow (sources_of i) L 400 targets))) TooManyPaths
      ++ (map Deep (filter (is_deep flow (sources_of i) i L targets) targets) ++ (flat_map (refused flow (sources_of i) L 201) targets ++ c)))
      (jobs flow (sources_of i) L targets)) (clashes_same [] (flat_map spots (jobs flow (sources_of i) L targets)))

  -- ## Plans

  plan_same : (flow : Flow) (settings : Settings) (progress : Progress) (plan : Plan) → IsPlan flow i settings progress plan →
      IsPlan flow (with_lock i locked) settings progress plan
  plan_same flow settings progress plan is = record { derived = derivation_same flow plan.lists settings.targets ∙ is.derived; states = is.states }

  last_same : (flow : Flow) (settings : Settings) (progress : Progress) (L : Listings) (plan : Plan) → LastPlan flow i settings progress L plan →
      LastPlan flow (with_lock i locked) settings progress L plan
  last_same flow settings progress _ _ (Last plan is none) = Last plan (plan_same flow settings progress plan is) none
  last_same flow settings progress _ _ (Then plan last is more rest) =
      Then plan last (plan_same flow settings progress plan is) more
      (last_same flow settings progress (plan.lists ++ new_listings i settings progress plan) last rest)

  refuses_same : (rules : Rules) (progress : Progress) (L : Listings) (f : Fault) → ChainRefuses rules i progress L f →
      ChainRefuses rules (with_lock i locked) progress L f
  refuses_same rules progress _ f (DerivationRefuses lists r _ refused is) = DerivationRefuses lists r f
      (derivation_same rules.flow lists rules.settings.targets ∙ refused) is
  refuses_same rules progress _ f (PlanRefuses plan _ rest is refused) = PlanRefuses plan f rest (plan_same rules.flow rules.settings progress plan is) refused
  refuses_same rules progress _ f (NextRefuses plan _ is none more rest) =
      NextRefuses plan f (plan_same rules.flow rules.settings progress plan is) none more
      (refuses_same rules progress (plan.lists ++ new_listings i rules.settings progress plan) f rest)

  previewed_same : (read : List ℕ → Option Record) (flow : Flow) (settings : Settings) (told : Previewed) → IsPreviewed read flow settings i told →
      IsPreviewed read flow settings (with_lock i locked) told
  previewed_same read flow settings told h =
      record {
        stored = record { entries = h.stored.entries; covered = h.stored.covered };
        last = last_same flow settings _ [] _ h.last;
        current = h.current;
        unrefused = h.unrefused;
        served = h.served;
      }

pub refusals_heed_no_lock : RefusalsHeedNoLock
refusals_heed_no_lock rules progress L f a b same h = on_both (λ (i : Image). ChainRefuses rules i progress L f)
    (λ i locked k. refuses_same i locked rules progress L f k) a b same h

pub last_plans_heed_no_lock : LastPlansHeedNoLock
last_plans_heed_no_lock flow settings progress L plan a b same h =
    on_both (λ (i : Image). LastPlan flow i settings progress L plan) (λ i locked k. last_same i locked flow settings progress L plan k) a b same h

pub previews_heed_no_lock : PreviewsHeedNoLock
previews_heed_no_lock read flow settings told a b same h =
    on_both (λ (i : Image). IsPreviewed read flow settings i told) (λ i locked k. previewed_same i locked read flow settings told k) a b same h
