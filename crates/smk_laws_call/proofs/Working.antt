-- What is worked by a plan ends well where each target has a clean value.
use Rattle.std.proofs.Common.{◌≡◌, ◌⊎◌, inl, inr, ℕ, Bool, true, false, List, [], ◌∷◌, ◌++◌, refl, ap, sym, subst, ◌∙◌, Option, Some, None, Ok, Err, Result, arith, is_none, true≢false}
use Rattle.std.proofs.lemmas.Option.{same_Some}
use Rattle.std.specs.Prelude.{nat_eq, Contains, if◌then◌else◌, ◌&&◌, ◌||◌}
use Rattle.std.specs.List.{IsDistinct}
use Rattle.std.proofs.lemmas.List.{append-nil, append_assoc}
use Rattle.smk_world.specs.declared.event.Call.{Call}
use Rattle.smk_world.specs.declared.event.Call.TheVariants.{Looked, ReadFile, ReadFolder, Written, Created, Removed, MadeParents, Settled, Protected, Started, Waited}
use Rattle.smk_world.specs.declared.event.Change.{Change}
use Rattle.smk_world.specs.declared.event.Child.{Child}
use Rattle.smk_world.specs.declared.event.Event.{Event}
use Rattle.smk_world.specs.declared.event.Node.TheVariants.{Regular, Directory}
use Rattle.smk_world.specs.declared.event.NodeState.{NodeState}
use Rattle.smk_world.specs.declared.event.NodeState.TheVariants.{Owned, Known}
use Rattle.smk_world.specs.World.{World, after, firm, is_above, is_within, node_after, numbers, reads_folder, run, reading}
use Rattle.smk_world.specs.Calls.{HasOwners, HoldsBytes, Rose}
use Rattle.smk_world.specs.Devices.{Device, Sunk, AreLooks, HasActed, HasLooked, is_look}
use Rattle.smk_world.specs.Requests.{Request, HasDone, request}
use Rattle.smk_world.specs.Requests.Request.{Settle}
use Rattle.smk_world.specs.Runs.{Follows}
use Rattle.smk_world.specs.Trees.{Path, Act}
use Rattle.smk_world.proofs.Devices.{looks_nodes}
use Rattle.smk_world.proofs.Owners.{AreNumbered, owned_run}
use Rattle.smk_record.specs.declared.record.Record.{Record}
use Rattle.smk_format.specs.Commands.{missing}
use Rattle.smk_store.specs.Images.{seen}
use Rattle.smk_store.specs.Serials.{next_serial}
use Rattle.smk_store.specs.Trust.{Versions}
use Rattle.smk_plan.specs.States.{Plan, LastPlan, nothing_done}
use Rattle.smk_laws_history.proofs.CurrentComplete.{seen_is_complete}
use Rattle.smk_laws_history.proofs.Valid.{records_valid}
use Rattle.smk_job.proofs.Children.{is_crew}
use Rattle.smk_words_reading.specs.declared.asked.RunWords.{RunWords}
use Rattle.smk_report.specs.declared.fault.Fault.{Fault}
use Rattle.smk_report.specs.declared.fault.Fault.TheVariants as fault
use Rattle.smk_run.specs.declared.tally.Tally.{Tally}
use Rattle.smk_plan.specs.declared.duty.Duty.{Duty}
use Rattle.smk_plan.specs.Duties.{AreFor}
use Rattle.smk_run.specs.Duties.{serials}
use Rattle.smk_run.specs.Statuses.{AreGiven, IsGiven}
use Rattle.smk_run.proofs.Calls.{EachCall}
use Rattle.smk_run.proofs.Rising.{rose_earlier}
use Rattle.smk_run.proofs.Telling.{files_children}
use Rattle.smk_laws_complete.proofs.Stops.{clean_targets_are_planned}
use Rattle.smk_plan_preview.specs.declared.previewing.Previewed.{Previewed}
use Rattle.smk_plan_preview.specs.Previewing.{plan_of, rules_for}
use Rattle.smk_cli_entry.specs.declared.asking.Asked.{Asked}
use Rattle.smk_make.specs.Making.{Concludes, GoesOn, HasMade, Made, NoMemory, NotFirm}
use Rattle.smk_make.specs.Closing.{verdict_of}
use Rattle.smk_report.specs.Faults.{of_store}
use Rattle.smk_store.specs.declared.fault.StoreFault.{StoreFault}
use Rattle.smk_store.specs.declared.fault.StoreFault.TheVariants as store
use Rattle.smk_store.specs.Faults.{store_failed}
use Rattle.smk_store.specs.Steadying.{HasTried, all_signs, steady_requests}
use Rattle.smk_cli_calls.specs.OneByOne.{is_one_by_one}
use Rattle.smk_cli_calls.specs.Serving.{HasListed, HasWorked, IsPlanFor, IsWant, WasDriven, settings_of}
use Rattle.smk_cli_calls.specs.Serving.Went.{Drove, Refused, Stopped, Worked}
use Rattle.smk_cli_calls.specs.Serving.HasListed.{Listed, NotListed}
use Rattle.smk_laws_driven.specs.Completing.{EndsWell, KeepsFiles, MayBreakOff, NoMemory as OfMemory, DeviceFailed, SinkFailed}
use Rattle.smk_laws_driven.specs.Planning.{IsPlainPlan}
use Rattle.smk_laws_driven.proofs.Completing.{runs_are_complete}
use Rattle.smk_cli_calls.proofs.OneByOne.{none_grow}
use Rattle.smk_laws_call.specs.Complete.{EndsComplete, IsCleanAsked, IsCompleteAnswer, IsRunAnswer, RefusedPlansMayStop, ServedListingsAreComplete, ServedRunsAreComplete, WorkIsComplete}
use Rattle.smk_laws_call.proofs.Drove.{drove_is_complete}
use Rattle.smk_laws_call.proofs.Plain.{plain_flows_plan_plainly}

pub refused_plans_may_stop : RefusedPlansMayStop
refused_plans_may_stop act read asked words w H f clean refused =
    clean_targets_are_planned (rules_for read asked.flow (settings_of asked words)) act (seen read w) H nothing_done f clean.alone
    (seen_is_complete read w clean.sound.formed) (records_valid read w.names (λ q. reading (w.nodes q))) clean.differ clean.sound.now refl clean.values refused

-- ## The events of two sayings on one call

run_log : (w : World) (es : List Event) → (run w es).log ≡ w.log ++ es
run_log w [] = sym (append-nil w.log)
run_log w (e ∷ es) = run_log (after w e) es ∙ append_assoc w.log (e ∷ []) es

cancel : (xs ys zs : List Event) → xs ++ ys ≡ xs ++ zs → ys ≡ zs
cancel [] ys zs h = h
cancel (x ∷ xs) ys zs h = cancel xs ys zs (tail_of x (xs ++ ys) (xs ++ zs) h)
  where
    tail_of : (x : Event) (a b : List Event) → x ∷ a ≡ x ∷ b → a ≡ b
    tail_of x a b e = cc

pub same_events : (w : World) (es fs : List Event) → run w es ≡ run w fs → es ≡ fs
same_events w es fs h = cancel w.log es fs (sym (run_log w es) ∙ (ap (λ (v : World). v.log) h ∙ run_log w fs))

given_none : (act : Act) (rose : Type 0) (w : World) (es : List Event) → (rose → ⊥) → AreGiven act rose w es → AreGiven act ⊥ w es
given_none act rose w [] never h = tt
given_none act rose w (e ∷ es) never h = (go e.call h.0, given_none act rose (after w e) es never h.1)
  where
    go : (call : Call) → IsGiven act rose w call → IsGiven act ⊥ w call
    go (Looked p r) k = k
    go (ReadFile p limit r) k = k
    go (ReadFolder p r) k = k
    go (Written p bytes r) k = k
    go (Created p r) k = k
    go (Removed p r) k = k
    go (MadeParents p r) k = k
    go (Settled ps r) k = k
    go (Protected p r) k = k
    go (Started recipe logs command r) k = k
    go (Waited (Err e)) k = k
    go (Waited (Ok ended)) k = λ c numbered trees contents other. never (k c numbered trees contents other)

-- ## Looks and settlings

no_numbers : (w : World) → w.children ≡ [] → IsDistinct nat_eq (numbers w.children)
unfolding IsDistinct
no_numbers w none = subst (λ cs. IsDistinct nat_eq (numbers cs)) (sym none) tt

idle_numbered : (w : World) → w.children ≡ [] → AreNumbered w
idle_numbered w none = record {
  distinct = no_numbers w none;
  started = λ n h. absurd (never (subst (λ cs. Contains (numbers cs) n) none h));
}
  where
    never : {n : ℕ} → Contains [] n → ⊥
    never h = omega (arith, h.1)

holds_firm : (s : NodeState) (bytes : List ℕ) → HoldsBytes bytes s → HoldsBytes bytes (firm s)
holds_firm Owned bytes h = absurd h
holds_firm (Known None besides) bytes h = absurd h
holds_firm (Known (Some Directory) besides) bytes h = absurd h
holds_firm (Known (Some (Regular held time read_only)) besides) bytes h = h

-- a settling leaves files as they are
holds_settled :
    (call : Call) (ps : List Path) (left : List Change) (cs : List Child) (q : Path) (s : NodeState) (bytes : List ℕ) → request call ≡ Settle ps → HoldsBytes bytes s →
    HoldsBytes bytes (node_after call left cs q s)
holds_settled (Settled qs (Ok u)) ps left cs q s bytes e h = go (is_within q qs || (is_above q qs && reads_folder s))
  where
    go : (b : Bool) → HoldsBytes bytes (if b then firm s else s)
    go true = holds_firm s bytes h
    go false = h
holds_settled (Settled qs (Err x)) ps left cs q s bytes e h = h
holds_settled (Looked p r) ps left cs q s bytes e h = h
holds_settled (ReadFile p limit r) ps left cs q s bytes e h = h
holds_settled (ReadFolder p r) ps left cs q s bytes e h = h
holds_settled (Written p content r) ps left cs q s bytes e h = cc
holds_settled (Created p r) ps left cs q s bytes e h = cc
holds_settled (Removed p r) ps left cs q s bytes e h = cc
holds_settled (MadeParents p r) ps left cs q s bytes e h = cc
holds_settled (Protected p r) ps left cs q s bytes e h = cc
holds_settled (Started recipe logs command r) ps left cs q s bytes e h = cc
holds_settled (Waited r) ps left cs q s bytes e h = cc

-- a world in which files still stand, no child runs and nothing is owned
record StandsStill (w v : World) : Type 0 where
  files : KeepsFiles w v
  none_runs : v.children ≡ []
  owners : HasOwners v

look_quiet : (call : Call) → is_look call ≡ true → is_crew (request call) ≡ false
look_quiet (Looked p r) h = refl
look_quiet (ReadFile p limit r) h = refl
look_quiet (ReadFolder p r) h = refl
look_quiet (Written p bytes r) h = refl
look_quiet (Created p r) h = refl
look_quiet (Removed p r) h = refl
look_quiet (MadeParents p r) h = refl
look_quiet (Settled ps r) h = refl
look_quiet (Protected p r) h = refl
look_quiet (Started recipe logs command r) h = absurd (true≢false (sym h))
look_quiet (Waited r) h = absurd (true≢false (sym h))

looks_quiet : (es : List Event) → AreLooks false es → EachCall (λ (r : Request). is_crew r ≡ false) es
looks_quiet [] h = tt
looks_quiet (e ∷ []) h = (look_quiet e.call h.0, tt)
looks_quiet (e ∷ (f ∷ es)) h = (look_quiet e.call h.0, looks_quiet (f ∷ es) h.2)

after_looks : (act : Act) (w x : World) (es : List Event) → w.children ≡ [] → HasOwners w → Follows act w es → AreLooks false es → x ≡ run w es → StandsStill w x
after_looks act w x es none owners follows looks is =
    record {
      files = λ p bytes h. subst (λ (n : Path → NodeState). HoldsBytes bytes (n p)) (sym (ap (λ (v : World). v.nodes) is ∙ looks_nodes false w es looks)) h;
      none_runs = ap (λ (v : World). v.children) is ∙ (files_children w es (looks_quiet es looks) ∙ none);
      owners = subst HasOwners (sym is) (owned_run act w es follows (idle_numbered w none) owners);
    }

after_settling : (act : Act) (x y : World) (ps : List Path) (es : List Event) → x.children ≡ [] → HasOwners x → Follows act x es → HasDone (Settle ps ∷ []) es → y ≡ run x es → StandsStill x y
after_settling act x y ps [] none owners follows done is = absurd done
after_settling act x y ps (e ∷ (f ∷ es)) none owners follows done is = absurd done.2
after_settling act x y ps (e ∷ []) none owners follows done is =
    record {
      files = λ p bytes h. subst (λ (v : World). HoldsBytes bytes (v.nodes p)) (sym is)
          (holds_settled e.call ps e.left x.children p (x.nodes p) bytes done.0 h);
      none_runs = ap (λ (v : World). v.children) is ∙ (files_children x (e ∷ []) (subst (λ (r : Request). is_crew r ≡ false) (sym done.0) refl, tt) ∙ none);
      owners = subst HasOwners (sym is) (owned_run act x (e ∷ []) follows (idle_numbered x none) owners);
    }

still_then : (w x y : World) → StandsStill w x → StandsStill x y → StandsStill w y
still_then w x y a b = record { files = λ p bytes h. b.files p bytes (a.files p bytes h); none_runs = b.none_runs; owners = b.owners }

-- ## The work

broke_off : (f : Fault) → MayBreakOff f → (result : Result (Unit {0}) Fault) → result ≡ Err f → EndsComplete result
broke_off f may result e = subst EndsComplete (sym e) may

store_stops : (f : StoreFault) (requests : List Request) (x : World) (es : List Event) → HasTried requests (Err f) x es → MayBreakOff (of_store f)
store_stops (store.StampSeen p) requests x es h = absurd h
store_stops store.Device requests x es h = DeviceFailed
store_stops store.OutOfMemory requests x es h = OfMemory

concluded : (ended : Result Tally Fault) (result : Result (Unit {0}) Fault) → EndsWell ended → Concludes ended result → EndsComplete result
concluded (Err f) result may e = broke_off f may result e
concluded (Ok tally) result none (inl e) = subst EndsComplete (sym (e ∙ ap verdict_of none)) tt
concluded (Ok tally) result none (inr (f, e, inl out)) = broke_off f (subst MayBreakOff (sym out) SinkFailed) result e
concluded (Ok tally) result none (inr (f, e, inr memory)) = broke_off f (subst MayBreakOff (sym memory) OfMemory) result e

module _
    (act : Act) (read : List ℕ → Option Record) (asked : Asked) (told : Previewed) (words : RunWords) (w v : World) (H : Versions) (result : Result (Unit {0}) Fault)
    (old looked steady new : Device) (out_old out_new : Sunk) (at : old.world ≡ Some w) (end : new.world ≡ Some v)
    (clean : IsCleanAsked act read asked w H) (planned : IsPlanFor read asked words w told)
    (plain : (plan : Plan) → LastPlan asked.flow (seen read w) (settings_of asked words) nothing_done [] plan → IsPlainPlan plan)
    (never : Rose old.faults new.faults → ⊥) (looking : HasLooked act old looked false) where
  abbrev Settling : Result (Unit {0}) StoreFault → Type 0
  Settling settled = HasActed act (HasTried (steady_requests told.store) settled) looked steady (store_failed settled)

  -- the world at the start of the turns
  started : (y : World) → steady.world ≡ Some y → (u : Unit {0}) → Settling (Ok u) → StandsStill w y
  started y e u settling =
      let s = settling.did y e in
      let l = looking.acted.did s.0 s.1 in
      let same : l.0 ≡ w = same_Some l.0 w (sym l.1 ∙ at) in
      let one : StandsStill w s.0 =
      after_looks act w s.0 l.2.0 clean.sound.no_child clean.sound.owners (subst (λ x. Follows act x l.2.0) same l.2.1) l.2.2 (subst (λ x. s.0 ≡ run x l.2.0) same l.2.3) in
      still_then w s.0 y one (after_settling act s.0 y (all_signs told.store) s.2.0 one.none_runs one.owners s.2.1 s.2.2 s.2.3)

  ran :
      (duties : List Duty) → AreFor told.plan.states duties → (u : Unit {0}) → Settling (Ok u) →
      HasMade act asked.flow words.cores asked.targets told.jobs (next_serial told.store) duties result steady new out_old out_new → EndsComplete result
  ran duties fit u settling made =
      let d = made.ran.did v end in
      let g = made.given v end in
      let y = d.0 in
      let same : g.0 ≡ y = same_Some g.0 y (sym g.1 ∙ d.1) in
      let events : g.2.0 ≡ d.2.0 = same_events y g.2.0 d.2.0 (subst (λ x. run x g.2.0 ≡ run y d.2.0) same (sym g.2.3 ∙ d.2.3)) in
      let given : AreGiven act ⊥ y d.2.0 =
      given_none act (Rose steady.faults new.faults) y d.2.0
      (λ rose. never (rose_earlier old.faults steady.faults new.faults (omega (arith, looking.acted.cause.later, settling.cause.later)) rose))
      (subst (AreGiven act (Rose steady.faults new.faults) y) events (subst (λ x. AreGiven act (Rose steady.faults new.faults) x g.2.0) same g.2.2)) in
      let still = started y d.1 u settling in
      let ends =
      runs_are_complete asked.flow (record { read = read; act = act }) (λ j. is_none (missing j)) w y H (settings_of asked words) (plan_of told) words.cores (next_serial told.store) duties made.turns
      made.failed made.ended (serials told.jobs.makers (next_serial told.store) duties) d.2.0 clean.differ clean.sound planned.last clean.alone clean.values (plain (plan_of told) planned.last)
      still.files still.none_runs still.owners fit made.in_order made.answer d.2.1 given d.2.2 in
      concluded made.ended result ends made.concluded

  went_on :
      (settled : Result (Unit {0}) StoreFault) → Settling settled →
      GoesOn act asked.flow words.cores asked.targets told.jobs told.plan.states told.store result steady new out_old out_new settled → EndsComplete result
  went_on settled settling (NotFirm f e same unput) =
      let s = settling.did v (ap (λ (d : Device). d.world) (sym same) ∙ end) in broke_off (of_store f) (store_stops f (steady_requests told.store) s.0 s.2.0 s.2.2) result e
  went_on settled settling (NoMemory u e same unput) = broke_off fault.OutOfMemory OfMemory result e
  went_on settled settling (Made u duties fit meant made) = ran duties fit u settling made

pub work_is_complete : WorkIsComplete
work_is_complete act read asked told words w v H result old new out_old out_new at end clean planned plain never worked =
    went_on act read asked told words w v H result old worked.looked worked.carried.firm new out_old out_new at end clean planned plain never worked.looking
    worked.carried.settled worked.carried.settling worked.carried.goes_on

-- ## What is served

pub want_stops : (f : Fault) → IsWant f → MayBreakOff f
want_stops f (inl device) = subst MayBreakOff (sym device) DeviceFailed
want_stops f (inr memory) = subst MayBreakOff (sym memory) OfMemory

pub listed_ends : (r : Result (Unit {0}) Fault) → ((f : Fault) → r ≡ Err f → (f ≡ fault.Output) ⊎ (f ≡ fault.OutOfMemory)) → EndsComplete r
listed_ends (Ok u) h = tt
listed_ends (Err f) h = pick (h f refl)
  where
    pick : (f ≡ fault.Output) ⊎ (f ≡ fault.OutOfMemory) → MayBreakOff f
    pick (inl out) = subst MayBreakOff (sym out) SinkFailed
    pick (inr memory) = subst MayBreakOff (sym memory) OfMemory

completes :
    (read : List ℕ → Option Record) (asked : Asked) (words : RunWords) (w : World) (result : Result (Unit {0}) Fault) → EndsComplete result →
    IsCompleteAnswer read asked words w result
completes read asked words w (Ok u) h = tt
completes read asked words w (Err f) h = inr h

run_completes :
    (act : Act) (read : List ℕ → Option Record) (asked : Asked) (words : RunWords) (w : World) (result : Result (Unit {0}) Fault) →
    IsCompleteAnswer read asked words w result → IsRunAnswer act read asked words w result
run_completes act read asked words w (Ok u) h = tt
run_completes act read asked words w (Err f) h = inl h

pub served_runs_are_complete : ServedRunsAreComplete
served_runs_are_complete act read asked words w v H result old new out_old out_new at end reads clean never (Refused f e refused kept) =
    subst (IsRunAnswer act read asked words w) (sym e) (inl (inl (refused_plans_may_stop act read asked words w H f clean refused)))
served_runs_are_complete act read asked words w v H result old new out_old out_new at end reads clean never (Stopped f e want kept) =
    subst (IsRunAnswer act read asked words w) (sym e) (inl (inr (want_stops f want)))
served_runs_are_complete act read asked words w v H result old new out_old out_new at end reads clean never (Drove served apart same drove) =
    drove_is_complete act read asked words w v H result old new out_old out_new at end reads clean never
    (subst (λ (a : Asked). WasDriven act words result a old new out_old out_new) same drove)
served_runs_are_complete act read asked words w v H result old new out_old out_new at end reads clean never
    (Worked served told also (same, planned) worked) =
    run_completes act read asked words w result
    (completes read asked words w result
    (work_is_complete act read asked told words w v H result old new out_old out_new at end clean planned
    (λ plan last. plain_flows_plan_plainly asked.flow _ _ _ _ plan
    (none_grow asked.flow words (subst (λ (a : Asked). is_one_by_one a.flow words ≡ true) same also)) last)
    never
    (subst (λ (a : Asked). HasWorked act words.cores result a told old new out_old out_new) same worked)))

pub served_listings_are_complete : ServedListingsAreComplete
served_listings_are_complete act read asked words w H result out_old out_new clean (NotListed f refused unput) =
    inl (refused_plans_may_stop act read asked words w H f clean refused)
served_listings_are_complete act read asked words w H result out_old out_new clean (HasListed.Stopped f want unput) = inr (want_stops f want)
served_listings_are_complete act read asked words w H result out_old out_new clean (Listed served told r planned faults put) =
    completes read asked words w r (listed_ends r faults)
