-- A run is safe, once it is known what is asked.
use Rattle.std.proofs.Common.{◌≡◌, inl, inr, ℕ, suc, Bool, true, false, List, [], ◌∷◌, ◌++◌, flat_map, fold, max, refl, ap, sym, subst, ◌∙◌, append_assoc, Option, Some, None, filter, Result, Ok, Err}
use Rattle.std.specs.Option.{option_and_then}
use Rattle.std.proofs.lemmas.List.{append-nil}
use Rattle.std.proofs.lemmas.Option.{same_Some}
use Rattle.smk_laws_job.proofs.Abandoning.{settled_call}
use Rattle.smk_laws_job.proofs.Called.{as_settled}
use Rattle.smk_laws_job.proofs.Forgetting.{look_of}
use Rattle.smk_base.proofs.Under.{or_first}
use Rattle.smk_world.specs.declared.event.Call.TheVariants.{Settled}
use Rattle.smk_world.specs.declared.event.Event.{Event}
use Rattle.smk_world.specs.World.{World, IsFormed, after, run}
use Rattle.smk_world.specs.Calls.{failed}
use Rattle.smk_world.specs.Devices.{Device, Sunk, AreLooks as OnlyLooks, HasActed, HasLooked}
use Rattle.smk_world.specs.Requests.{request, HasDone}
use Rattle.smk_world.specs.Requests.Request.{Settle}
use Rattle.smk_world.specs.Runs.{Follows}
use Rattle.smk_world.specs.Trees.{Path, Each, IsIn}
use Rattle.smk_world.proofs.Runs.{follows_append, run_append}
use Rattle.smk_record.specs.Spelling.{ReadsRecords}
use Rattle.smk_flow.specs.Flows.{Flow}
use Rattle.smk_store.specs.declared.fault.StoreFault.{StoreFault}
use Rattle.smk_store.specs.declared.fault.StoreFault.TheVariants.{StampSeen, Device as DeviceFault, OutOfMemory}
use Rattle.smk_store.specs.Images.{Image, core_at, stands}
use Rattle.smk_store.specs.Serials.{all_serials, greatest_serial, next_serial}
use Rattle.smk_store.specs.Soundness.{Outside, SoundWorld}
use Rattle.smk_store.specs.Steadying.{HasTried, all_signs, steady_requests}
use Rattle.smk_store.specs.Stores.{Known}
use Rattle.smk_store.specs.Trust.{Versions, SumsDiffer}
use Rattle.smk_laws_protocol.specs.Protocol.{RunState, Runs, Done, Next, Aside, Besides, Settle as SettleMove, Fail, as_ok, now, runs}
use Rattle.smk_laws_protocol.specs.Midway.{IsTop, at_entry}
use Rattle.smk_laws_protocol.proofs.ProtocolHolds.{protocol_law}
use Rattle.smk_laws_history.proofs.CurrentComplete.{seen_is_complete}
use Rattle.smk_laws_plan.proofs.CurrentLists.{in_flat}
use Rattle.smk_laws_plan.proofs.CurrentPaths.{among_in}
use Rattle.smk_report.specs.declared.fault.Fault.{Fault}
use Rattle.smk_report.specs.declared.fault.Fault.TheVariants as fault
use Rattle.smk_plan.specs.declared.duty.Duty.{Duty}
use Rattle.smk_run.specs.declared.tally.Tally.{Tally}
use Rattle.smk_run.specs.Duties.{Due, due, due_from, serials}
use Rattle.smk_plan.specs.Duties.{maker_in}
use Rattle.smk_run.specs.Runs.{AreInOrder, IsOutcome as IsRunOutcome}
use Rattle.smk_run.specs.Stamps.{Serials}
use Rattle.smk_run.specs.Turns.{Turn, AreTurns, is_closed}
use Rattle.smk_safe.proofs.Done.{follows_split}
use Rattle.smk_words_reading.specs.declared.asked.RunWords.{RunWords}
use Rattle.smk_cli_entry.specs.declared.asking.Asked.{Asked}
use Rattle.smk_report.specs.Faults.{of_store}
use Rattle.smk_make.specs.Making.{AreWhatIsMeant, Concludes, GoesOn, NotFirm, NoMemory, Made}
use Rattle.smk_plan_preview.specs.declared.previewing.Previewed.{Previewed}
use Rattle.smk_plan_preview.specs.Previewing.{plan_of}
use Rattle.smk_cli_calls.specs.OneByOne.{IsPlainFlow}
use Rattle.smk_cli_calls.specs.Ends.{fault_of}
use Rattle.smk_cli_calls.specs.Serving.{settings_of}
use Rattle.smk_cli_calls.specs.Lines.{IsOutcome}
use Rattle.smk_cli_calls.specs.Whole.{IsToServe}
use Rattle.smk_laws_refusing.specs.Parts.{One}
use Rattle.smk_safe.specs.Planned.{IsFit}
use Rattle.smk_safe.specs.Safe.{IsRunOf, IsSafeRun}
use Rattle.smk_safe.proofs.Going.{safe_here}
use Rattle.smk_safe.proofs.Joining.{AreLooks, look_all, looks_same}
use Rattle.smk_safe.proofs.Safe.{front}
use Rattle.smk_safe.proofs.Stored.{fold_holds, is_top, signs_are_all, kept_stands}
use Rattle.smk_safe.proofs.Dues.{due_run_is_safe}
use Rattle.smk_clean.specs.Safe.{IsSafeCall}
use Rattle.smk_clean.proofs.Firsts.{firsts_same}
use Rattle.smk_clean.proofs.Fit.{all_fit}
use Rattle.smk_clean.proofs.Meant.{all_plain, duties_meant, is_plan, makers_told}

abbrev pub Answer : Type 0
Answer = Result (Unit {0}) Fault

pub ok_err : (u : Unit {0}) (f : Fault) → ◌≡◌ {A = Answer} (Ok u) (Err f) → ⊥
ok_err u f e = cc

-- ## A greatest serial

-- what unmarked records name is bounded
pub bounded : (o : Outside) (w : World) → IsFormed w → (top : ℕ) × IsTop o w top
bounded o w formed = (fold max 0 (flat_map named image.known), above)
  where
    image : Image
    image = now o w

    named : Path → List ℕ
    named p = all_serials (core_at image p)

    above : IsTop o w (fold max 0 (flat_map named image.known))
    above p r n (reads, clear) i =
        let known = (seen_is_complete o.read w formed).known p (or_first (stands (image.kept p)) _ (kept_stands (image.kept p) r reads)) in
        fold_holds 0 (flat_map named image.known) n
        (in_flat named image.known p n (among_in image.known p known) (subst (λ c. IsIn (all_serials c) n) (sym reads) i))

-- ## Calls

pub looks_are : (o : Outside) (bad : Bool) (es : List Event) → OnlyLooks bad es → AreLooks o es
looks_are o bad [] h = tt
looks_are o bad (e ∷ []) h = (look_of o e.call h.0, tt)
looks_are o bad (e ∷ (f ∷ es)) h = (look_of o e.call h.0, looks_are o bad (f ∷ es) h.2)

-- ## A run of the protocol is safe

module _ (o : Outside) (H : Versions) (w : World) (differ : SumsDiffer H) (sound : SoundWorld o w H) where
  -- the events led to this world, and are safe; and where the answer is no fault the world is sound
  abbrev pub Safely : Answer → World → Type 0
  Safely answer v = (es : List Event) × Follows o.act w es × (v ≡ run w es) × IsSafeCall o w H es × ((u : Unit {0}) → answer ≡ Ok u → SoundWorld o v H)

  safe_by : (top : ℕ) (es : List Event) (s : RunState) → IsTop o w top → Follows o.act w es → Runs o (at_entry o top) w es s → IsSafeCall o w H es
  safe_by top es s bound follows ran = record {
    follows_protocol = One w es (top, bound, (s, ran));
    throughout = λ events rest split.
        let part = front o (at_entry o top) s w events rest (subst (λ l. Runs o (at_entry o top) w l s) split ran) in
        safe_here o w H top differ sound bound events part.0 (follows_split o.act w events rest (subst (Follows o.act w) split follows)).0 part.1;
    at_end = (protocol_law o w H differ sound).at_exit top es s bound follows ran;
  }

  -- ## Looks, and the settling of what was found

  look_runs : (top : ℕ) (es : List Event) → AreLooks o es → Runs o (at_entry o top) w es (at_entry o top)
  look_runs top es only =
      subst (λ l. Runs o (at_entry o top) w l (at_entry o top)) (append-nil es)
      (look_all o (at_entry o top) (at_entry o top) [] refl w es only (Done (at_entry o top) (run w es)))

  -- only looks
  pub looked_safe : (answer : Answer) (v : World) (old new : Device) (bad : Bool) → old.world ≡ Some w → new.world ≡ Some v → HasLooked o.act old new bad →
      Safely answer v
  looked_safe answer v old new bad at end looked =
      let d = looked.acted.did v end in
      let here = same_Some w d.0 (sym at ∙ d.1) in
      let follows : Follows o.act w d.2.0 = subst (λ x. Follows o.act x d.2.0) (sym here) d.2.1 in
      let is : v ≡ run w d.2.0 = d.2.3 ∙ ap (λ x. run x d.2.0) (sym here) in
      let only = looks_are o bad d.2.0 d.2.2 in
      let bound = bounded o w sound.formed in
      let safe = safe_by bound.0 d.2.0 (at_entry o bound.0) bound.1 follows (look_runs bound.0 d.2.0 only) in
      (d.2.0, follows, is, safe, λ u e. subst (λ x. SoundWorld o x H) (sym is) (safe.at_end ((looks_same o w d.2.0 only follows).children ∙ sound.no_child)))

  -- looks, and then these events
  pub record HasStarted (x : World) (P : World → List Event → Type 0) : Type 0 where
    pub looks : List Event
    pub more : List Event
    pub only : AreLooks o looks
    pub follows : Follows o.act w (looks ++ more)
    pub is : x ≡ run w (looks ++ more)
    pub tried : P (run w looks) more

  pub started : (x : World) (old looked firm : Device) (P : World → List Event → Type 0) (bad : Bool) → old.world ≡ Some w → HasLooked o.act old looked false
      → HasActed o.act P looked firm bad → firm.world ≡ Some x → HasStarted x P
  started x old looked firm P bad at looking acted is =
      let b = acted.did x is in
      let a = looking.acted.did b.0 b.1 in
      let here = same_Some w a.0 (sym at ∙ a.1) in
      let first : Follows o.act w a.2.0 = subst (λ y. Follows o.act y a.2.0) (sym here) a.2.1 in
      let mid : b.0 ≡ run w a.2.0 = a.2.3 ∙ ap (λ y. run y a.2.0) (sym here) in
      record {
        looks = a.2.0;
        more = b.2.0;
        only = looks_are o false a.2.0 a.2.2;
        follows = follows_append o.act w a.2.0 b.2.0 first (subst (λ y. Follows o.act y b.2.0) mid b.2.1);
        is = b.2.3 ∙ ap (λ y. run y b.2.0) mid ∙ sym (run_append w a.2.0 b.2.0);
        tried = subst (λ y. P y b.2.0) mid b.2.2;
      }

  -- a settling, or one that failed
  settle_runs : (ps : List Path) (s : RunState) (u : World) (e : Event) → s.faulted ≡ false → request e.call ≡ Settle ps → (b : Bool) → failed e.call ≡ b → (end : RunState) × Runs o s u (e ∷ []) end
  settle_runs ps s u e calm is true bad =
      let end : RunState = record s { jobs = filter (runs o) s.jobs; faulted = true } in (
        end,
        Next s end end u e []
            (Fail e s bad (Aside (record e { call = as_ok e.call }) calm (subst (Besides o s u) (sym (as_settled e.call ps is)) (SettleMove ps))))
            (Done end (after u e)),
      )
  settle_runs ps s u e calm is false quiet =
      (s, Next s s s u e [] (Aside e calm (subst (Besides o s u) (sym (settled_call e.call ps is quiet)) (SettleMove ps))) (Done s (after u e)))

  one_of : (ps : List Path) (es : List Event) → HasDone (Settle ps ∷ []) es → (e : Event) × (es ≡ e ∷ []) × (e.call ≡ Settled ps (Ok tt))
  one_of ps [] h = absurd h
  one_of ps (e ∷ []) h = (e, refl, settled_call e.call ps h.0 h.1)
  one_of ps (e ∷ (f ∷ es)) h = absurd h.2

  tried_runs : (ps : List Path) (s : RunState) (u : World) (es : List Event) (r : Result (Unit {0}) StoreFault) → s.faulted ≡ false → HasTried (Settle ps ∷ []) r u es → (end : RunState) × Runs o s u es end
  tried_runs ps s u [] (Ok t) calm h = absurd h
  tried_runs ps s u (e ∷ []) (Ok t) calm h = settle_runs ps s u e calm h.0 false h.1
  tried_runs ps s u (e ∷ (f ∷ es)) (Ok t) calm h = absurd h.2
  tried_runs ps s u es (Err (StampSeen p)) calm h = absurd h
  tried_runs ps s u [] (Err DeviceFault) calm h = absurd h
  tried_runs ps s u (e ∷ []) (Err DeviceFault) calm h = settle_runs ps s u e calm h.0 true h.1
  tried_runs ps s u (e ∷ (f ∷ es)) (Err DeviceFault) calm h = absurd h.2
  tried_runs ps s u es (Err OutOfMemory) calm h = (s, subst (λ l. Runs o s u l s) (sym h) (Done s u))

  -- nothing comes after the settling
  begun_safe : (answer : Answer) (x : World) (store : List Known) (r : Result (Unit {0}) StoreFault) → ((u : Unit {0}) → answer ≡ Ok u → ⊥) → HasStarted x (HasTried (steady_requests store) r) → Safely answer x
  begun_safe answer x store r bad h =
      let bound = bounded o w sound.formed in
      let t = tried_runs (all_signs store) (at_entry o bound.0) (run w h.looks) h.more r refl h.tried in
      let ran = look_all o (at_entry o bound.0) t.0 h.more refl w h.looks h.only t.1 in
      (h.looks ++ h.more, h.follows, h.is, safe_by bound.0 (h.looks ++ h.more) t.0 bound.1 h.follows ran, λ u e. absurd (bad u e))

  -- ## The turns

  module _ (reads : ReadsRecords o.read) (words : RunWords) (entry : World) (asked : Asked) (told : Previewed)
      (to_serve : IsToServe o.read words entry w asked told) (plain : IsPlainFlow asked.flow) where
    abbrev top : ℕ
    top = greatest_serial told.store

    -- the events of the turns, with all that came before them
    pub record IsTurnRun (v : World) (duties : List Duty) (ts : List Turn) : Type 0 where
      pub es : List Event
      pub follows : Follows o.act w es
      pub is : v ≡ run w es
      pub in_order : AreInOrder words.cores (due (Some (suc top)) duties told.jobs.jobs) ts
      pub is_run : IsRunOf o (serials told.jobs.makers (Some (suc top)) duties) ts w es

    pub turns_run :
        (u : Unit {0}) (x v : World) (duties : List Duty) (ts : List Turn) (gs : List Event) → HasStarted x (HasTried (steady_requests told.store) (Ok u)) →
        AreInOrder words.cores (due (next_serial told.store) duties told.jobs.jobs) ts → Follows o.act x gs → AreTurns (serials told.jobs.makers (next_serial told.store) duties) ts x gs → v ≡ run x gs → IsTurnRun v duties ts
    turns_run u x v duties ts gs h in_order goes_on have_turns end =
        let one = one_of (all_signs told.store) h.more h.tried in
        let es = (h.looks ++ h.more) ++ gs in
        let follows : Follows o.act w es = follows_append o.act w (h.looks ++ h.more) gs h.follows (subst (λ y. Follows o.act y gs) h.is goes_on) in
        let is : v ≡ run w es = end ∙ ap (λ y. run y gs) h.is ∙ sym (run_append w (h.looks ++ h.more) gs) in
        let firsts = firsts_same top duties in
        let by_serials : (ℕ → Option ℕ) → Serials = λ f p. option_and_then f (maker_in told.jobs.makers p) in
        let made_same : serials told.jobs.makers (next_serial told.store) duties ≡ serials told.jobs.makers (Some (suc top)) duties = ap by_serials firsts in
        let turns : AreTurns (serials told.jobs.makers (Some (suc top)) duties) ts (run w (h.looks ++ one.0 ∷ [])) gs =
        subst (λ l. AreTurns (serials told.jobs.makers (Some (suc top)) duties) ts (run w (h.looks ++ l)) gs) one.1
        (subst (λ y. AreTurns (serials told.jobs.makers (Some (suc top)) duties) ts y gs) h.is
        (subst (λ m. AreTurns m ts x gs) made_same have_turns)) in
        record {
          es = es;
          follows = follows;
          is = is;
          in_order = subst (λ (f : ℕ → Option ℕ). AreInOrder words.cores (due_from f 0 duties told.jobs.jobs) ts) firsts in_order;
          is_run = record {
            looks = h.looks;
            settling = one.0;
            turns = gs;
            events = ap (λ l. (h.looks ++ l) ++ gs) one.1 ∙ append_assoc h.looks (one.0 ∷ []) gs;
            only_look = h.only;
            places = all_signs told.store;
            settles = one.2;
            all_marks = signs_are_all o w told.store to_serve.plan.stored;
            have_turns = turns;
          };
        }

    pub turns_safe : (v : World) (duties : List Duty) (ts : List Turn) → AreWhatIsMeant told.jobs told.plan.states told.store duties → Each IsFit ts → (r : IsTurnRun v duties ts) → IsSafeRun o w H top ts r.es
    turns_safe v duties ts meant fit r =
        due_run_is_safe o w H asked.flow (settings_of asked words) (plan_of told) told.jobs.makers duties words.cores top ts r.es reads differ sound
        (is_top o w told.store to_serve.plan.stored)
        (is_plan o.read w sound.formed asked plain words told to_serve.plan)
        (all_plain o.read w sound.formed asked plain words told to_serve.plan)
        (duties_meant o.read w sound.formed asked plain words told to_serve.plan duties meant)
        (makers_told o.read w sound.formed asked plain words told to_serve.plan)
        r.in_order fit r.follows r.is_run

    all_closed :
        (u : Unit {0}) (flow : Flow) (dues : List Due) (ts : List Turn) (bad : Bool) (ended : Result Tally Fault) → IsRunOutcome flow dues ts bad ended → Concludes ended (Ok u) →
        Each (λ (t : Turn). is_closed t.course ≡ true) ts
    all_closed u flow dues ts bad (Ok tally) outcome concluded = outcome.1.closed
    all_closed u flow dues ts bad (Err f) outcome concluded = absurd (ok_err u f concluded)

    pub goes_safe :
        (answer : Answer) (v : World) (old looked firm new : Device) (p q : Sunk) (r : Result (Unit {0}) StoreFault) (bad : Bool) → old.world ≡ Some w → new.world ≡ Some v →
        HasLooked o.act old looked false → HasActed o.act (HasTried (steady_requests told.store) r) looked firm bad →
        (g : GoesOn o.act asked.flow words.cores asked.targets told.jobs told.plan.states told.store answer firm new p q r) → Safely answer v
    goes_safe answer v old looked firm new p q r bad at end looking settling (NotFirm f is same unput) =
        begun_safe answer v told.store (Err f) (λ u e. ok_err u (of_store f) (sym e ∙ is))
        (started v old looked firm (HasTried (steady_requests told.store) (Err f)) bad at looking settling (ap (λ (d : Device). d.world) (sym same) ∙ end))
    goes_safe answer v old looked firm new p q r bad at end looking settling (NoMemory u is same unput) =
        begun_safe answer v told.store (Ok u) (λ t e. ok_err t fault.OutOfMemory (sym e ∙ is))
        (started v old looked firm (HasTried (steady_requests told.store) (Ok u)) bad at looking settling (ap (λ (d : Device). d.world) (sym same) ∙ end))
    goes_safe answer v old looked firm new p q r bad at end looking settling (Made u duties for meant made) =
        let d = made.ran.did v end in
        let start = started d.0 old looked firm (HasTried (steady_requests told.store) (Ok u)) bad at looking settling d.1 in
        let r = turns_run u d.0 v duties made.turns d.2.0 start made.in_order d.2.1 d.2.2 d.2.3 in
        let safe = turns_safe v duties made.turns meant (all_fit made.turns made.fits) r in (
          r.es,
          r.follows,
          r.is,
          safe_by top r.es safe.follows_protocol.0 (is_top o w told.store to_serve.plan.stored) r.follows safe.follows_protocol.1,
          λ k e. subst (λ y. SoundWorld o y H) (sym r.is)
              (safe.at_end (all_closed k asked.flow (due (next_serial told.store) duties told.jobs.jobs) made.turns made.failed made.ended made.answer (subst (Concludes made.ended) e made.concluded))),
        )

-- the call has no fault only where the answer is none
pub no_fault : (answer : Answer) (told : Option Fault) → IsOutcome (fault_of answer) told → told ≡ None → (u : Unit {0}) × (answer ≡ Ok u)
no_fault (Ok u) told is none = (u, refl)
no_fault (Err f) told (inl e) none = absurd (wrong (sym e ∙ none))
  where
    wrong : Some f ≡ None → ⊥
    wrong x = cc
no_fault (Err f) told (inr e) none = absurd (wrong (sym e.1 ∙ none))
  where
    wrong : Some fault.OutOfMemory ≡ None → ⊥
    wrong x = cc
