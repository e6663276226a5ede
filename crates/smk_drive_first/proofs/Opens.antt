-- What a run has done as it opened.
use Rattle.std.proofs.Common.{◌≡◌, ◌≢◌, ◌⊎◌, inl, inr, ℕ, Bool, true, false, List, [], ◌∷◌, ◌++◌, bytes_eq, refl, sym, ap, subst, ◌∙◌, Option, Some, None, Result, Ok, Err, true≢false, append-nil}
use Rattle.std.specs.Prelude.{IfOk, IfErr, if◌then◌else◌, ◌&&◌, ◌||◌}
use Rattle.smk_base.specs.Place.{mark_place, note_place}
use Rattle.smk_base.proofs.Places.{same_place}
use Rattle.smk_base.proofs.Under.{or_first, or_second}
use Rattle.smk_world.specs.declared.event.Call.{Call}
use Rattle.smk_world.specs.declared.event.Call.TheVariants.{Settled, Protected}
use Rattle.smk_world.specs.declared.event.Event.{Event}
use Rattle.smk_world.specs.declared.event.Node.{Node}
use Rattle.smk_world.specs.declared.event.NodeState.{NodeState}
use Rattle.smk_world.specs.declared.event.NodeState.TheVariants.{Owned, Known as Reads}
use Rattle.smk_world.specs.World.{World, run, after, reading, firm, is_within, is_above, reads_folder}
use Rattle.smk_world.specs.Calls.{Lets}
use Rattle.smk_world.specs.Devices.{Device, HasActed, HasLooked, WhereTold, AreLooks}
use Rattle.smk_world.specs.Requests.{HasDone}
use Rattle.smk_world.specs.Requests.Request.{Settle}
use Rattle.smk_world.specs.Runs.{Follows}
use Rattle.smk_world.specs.Trees.{Path, Act, IsIn}
use Rattle.smk_world.proofs.Devices.{acted_as, acted_then}
use Rattle.smk_laws_job.proofs.Abandoning.{in_first, in_second, settled_call}
use Rattle.smk_laws_plan.proofs.CurrentLists.{in_flat}
use Rattle.smk_laws_plan.proofs.CurrentPaths.{in_among}
use Rattle.smk_flow.specs.Flows.{Flow}
use Rattle.smk_format.specs.Commands.{missing, command}
use Rattle.smk_record.specs.declared.record.Record.{Record}
use Rattle.smk_record.specs.Spelling.{ReadsRecords}
use Rattle.smk_store.specs.declared.fault.StoreFault.{StoreFault}
use Rattle.smk_store.specs.declared.fault.StoreFault.TheVariants as store_fault
use Rattle.smk_store.specs.declared.store.Entry.{Entry}
use Rattle.smk_store.specs.Faults.{store_failed}
use Rattle.smk_store.specs.Images.{Image, image_by, is_known, seen, stands}
use Rattle.smk_store.specs.Loading.{IsStoreOf, entry_at}
use Rattle.smk_store.specs.Steadying.{HasTried, all_signs, signs_of, steady_requests}
use Rattle.smk_store.specs.Stores.{Known, entry_of}
use Rattle.smk_store.specs.Unowned.{NoneOwned}
use Rattle.smk_chain.specs.Derive.{Listings}
use Rattle.smk_pick.specs.declared.settings.Settings.{Settings}
use Rattle.smk_plan.specs.States.{nothing_done}
use Rattle.smk_keep.specs.declared.fault.KeepFault.TheVariants.{Device as DeviceFault, OutOfMemory as MemoryFault}
use Rattle.smk_report.specs.declared.fault.Fault.{Fault}
use Rattle.smk_report.specs.declared.fault.Fault.TheVariants as fault
use Rattle.smk_report.specs.Faults.{of_store}
use Rattle.smk_drive.specs.Moments.{Rules}
use Rattle.smk_drive.specs.Refusals.{ChainRefuses}
use Rattle.smk_drive.specs.Refusals.ChainRefuses.{DerivationRefuses, PlanRefuses, NextRefuses}
use Rattle.smk_drive_course.specs.Refusals.MomentRefuses.{PlansAreRefused}
use Rattle.smk_drive_course.specs.Driven.{HasSigns, IsOpening, LacksMemory, LoadingFails, LooksFail, Opens, SettlingFails}
use Rattle.smk_plan_preview.specs.Faults.{device_failed, is_device, is_sink, is_told}
use Rattle.smk_plan_preview.proofs.LookedAt.{looks_leave, none_still, seen_moved}
use Rattle.smk_drive_first.specs.declared.opening.Opened.{Opened}
use Rattle.smk_drive_first.specs.Keeping.{HasKeptLast, IsFresh}
use Rattle.smk_drive_first.specs.Opening.{AreRules, GoesOn, HasOpened, HasStopped, IsOutcome, live_of, IsNextBy}
use Rattle.smk_drive_first.specs.Opening.GoesOn.{Plans, IsCut, IsShort}
use Rattle.smk_drive_first.specs.Opening.HasStopped.{IsRefused, CallFails, NoMemory}

-- ## Places are made firm

-- nothing reads otherwise, and nothing comes to be owned
record IsStill (read : List ℕ → Option Record) (w v : World) : Type 0 where
  image : seen read v ≡ seen read w
  free : NoneOwned w → NoneOwned v

firm_reads : (s : NodeState) → reading (firm s) ≡ reading s
firm_reads Owned = refl
firm_reads (Reads n b) = refl

firm_owned : (s : NodeState) → firm s ≡ Owned → s ≡ Owned
firm_owned Owned h = refl
firm_owned (Reads n b) h = cc

if_reads : (b : Bool) (s : NodeState) → reading (if b then firm s else s) ≡ reading s
if_reads true s = firm_reads s
if_reads false s = refl

if_owned : (b : Bool) (s : NodeState) → (if b then firm s else s) ≡ Owned → s ≡ Owned
if_owned true s h = firm_owned s h
if_owned false s h = h

after_settled : (read : List ℕ → Option Record) (w : World) (ps : List Path) → IsStill read w (after w (record { call = Settled ps (Ok tt); left = [] }))
after_settled read w ps =
    record {
      image = ap (λ (f : Path → Option Node). image_by read w.names f) (λ i q. if_reads (is_within q ps || (is_above q ps && reads_folder (w.nodes q))) (w.nodes q) i);
      free = λ none q owned. none q (if_owned (is_within q ps || (is_above q ps && reads_folder (w.nodes q))) (w.nodes q) owned);
    }

firm_run :
    (read : List ℕ → Option Record) (act : Act) (ps : List Path) (w : World) (es : List Event) → Follows act w es → HasDone (Settle ps ∷ []) es → IsStill read w (run w es)
firm_run read act ps w [] follows done = absurd done
firm_run read act ps w (e ∷ (f ∷ es)) follows done = absurd done.2
firm_run read act ps w (e ∷ []) follows done =
    let call : e.call ≡ Settled ps (Ok tt) = settled_call e.call ps done.0 done.1 in
    let left : e.left ≡ [] = subst (λ (c : Call). Lets act w c e.left) call follows.0.lets in
    let same : e ≡ record { call = Settled ps (Ok tt); left = [] } = λ i. record { call = call i; left = left i } in
    subst (λ (x : Event). IsStill read w (after w x)) (sym same) (after_settled read w ps)

looks_run : (read : List ℕ → Option Record) (act : Act) (f : Bool) (w : World) (es : List Event) → Follows act w es → AreLooks f es → IsStill read w (run w es)
looks_run read act f w es follows looks =
    let same = looks_leave act f w es follows looks in
    record { image = seen_moved read w (run w es) same; free = λ none. none_still w (run w es) same.nodes none }

-- ## What holds where the world is told

acted_told :
    (act : Act) (P : World → List Event → Type 0) (T : World → Type 0) (a b : Device) (f : Bool) → HasActed act P a b f → WhereTold a T → HasActed act (λ w es. P w es × T w) a b f
acted_told act P T a b f h t =
    record {
      did = λ w1 e. let d = h.did w1 e in (d.0, d.1, (d.2.0, d.2.1, (d.2.2, t d.0 d.1), d.2.3));
      stays = h.stays;
      cause = h.cause;
      running = h.running;
      children = h.children;
    }

-- ## Behind the loading

module _ (act : Act) (flow : Flow) (settings : Settings) (store : List Known) where
  abbrev Goes : Result Opened Fault → World → List Event → Type 0
  Goes result w es = NoneOwned w → (read : List ℕ → Option Record) → ReadsRecords read → GoesOn read flow settings (seen read w) store result es

  abbrev Keeps : Result Opened Fault → World → Type 0
  Keeps result w = NoneOwned w → (read : List ℕ → Option Record) → ReadsRecords read → HasKeptLast read flow settings (seen read w) (live_of result)

  pub goes_firm :
      (a b c : Device) (r : Result (Unit {0}) StoreFault) (u : Unit {0}) (s : Result Opened Fault) → r ≡ Ok u →
      HasActed act (HasTried (steady_requests store) r) a b (store_failed r) → HasLooked act b c (device_failed s) → WhereTold b (Keeps s) → HasActed act (Goes s) a c (device_failed s)
  goes_firm a b c r u s is settled looked keeps =
      acted_then act (HasTried (steady_requests store) (Ok u)) (λ w es. AreLooks (device_failed s) es × Keeps s w) (Goes s) a b c (device_failed s)
      (λ w es fs follows done follows2 then_. λ none read reads.
      let still = firm_run read act (all_signs store) w es follows done in
      Plans s es fs done then_.0 (subst (λ (i : Image). HasKeptLast read flow settings i (live_of s)) still.image (then_.1 (still.free none) read reads)))
      (subst (λ (x : Result (Unit {0}) StoreFault). HasActed act (HasTried (steady_requests store) x) a b (store_failed x)) is settled)
      (acted_told act (λ w es. AreLooks (device_failed s) es) (Keeps s) b c (device_failed s) looked.acted keeps)

  not_firm : (a b : Device) (f : StoreFault) → HasActed act (HasTried (steady_requests store) (Err f)) a b (store_failed {T = Unit {0}} (Err f))
      → HasActed act (Goes (Err (of_store f))) a b (device_failed {T = Opened} (Err (of_store f)))
  not_firm a b store_fault.Device h =
      acted_as act (HasTried (steady_requests store) (Err store_fault.Device)) (Goes (Err fault.Device)) a b true true refl (λ w es cut. λ none read reads. IsCut es cut) h
  not_firm a b store_fault.OutOfMemory h =
      acted_as act (HasTried (steady_requests store) (Err store_fault.OutOfMemory)) (Goes (Err fault.OutOfMemory)) a b false false refl
      (λ w es is. λ none read reads. subst (λ (xs : List Event). GoesOn read flow settings (seen read w) store (Err fault.OutOfMemory) xs) (sym is) IsShort) h
  not_firm a b (store_fault.StampSeen p) h =
      acted_as act (HasTried (steady_requests store) (Err (store_fault.StampSeen p))) (Goes (Err (fault.StampSeen p))) a b false false refl (λ w es never. absurd never) h

  pub goes_not :
      (a b : Device) (r : Result (Unit {0}) StoreFault) (f : StoreFault) (g : Fault) → r ≡ Err f → g ≡ of_store f →
      HasActed act (HasTried (steady_requests store) r) a b (store_failed r) → HasActed act (Goes (Err g)) a b (device_failed {T = Opened} (Err g))
  goes_not a b r f g is same h =
      subst (λ (x : Fault). HasActed act (Goes (Err x)) a b (device_failed {T = Opened} (Err x))) (sym same)
      (not_firm a b f (subst (λ (x : Result (Unit {0}) StoreFault). HasActed act (HasTried (steady_requests store) x) a b (store_failed x)) is h))

-- ## Marks and notes

-- the store has the path with this entry
found_in : (ks : List Known) (p : Path) (e : Entry) → entry_of ks p ≡ Some e → (k : Known) × IsIn ks k × (k.path ≡ p) × (k.entry ≡ e)
found_in [] p e h = cc
found_in (k ∷ ks) p e h = go (bytes_eq k.path p) refl h (found_in ks p e)
  where
    same : {a b : Entry} → Some a ≡ Some b → a ≡ b
    same x = cc

    go :
        (b : Bool) → bytes_eq k.path p ≡ b → (if b then Some k.entry else entry_of ks p) ≡ Some e →
        (entry_of ks p ≡ Some e → (l : Known) × IsIn ks l × (l.path ≡ p) × (l.entry ≡ e)) → (l : Known) × IsIn (k ∷ ks) l × (l.path ≡ p) × (l.entry ≡ e)
    go true is x again = (k, inl refl, same_place k.path p is, same x)
    go false is x again = let l = again x in (l.0, inr l.1, l.2, l.3)

mark_sign : (k : Known) → k.entry.marked ≡ true → IsIn (signs_of k) (mark_place k.path)
mark_sign k h =
    in_first (if k.entry.marked then mark_place k.path ∷ [] else []) (if k.entry.noted then note_place k.path ∷ [] else []) (mark_place k.path)
    (subst (λ b. IsIn (if b then mark_place k.path ∷ [] else []) (mark_place k.path)) (sym h) (inl refl))

note_sign : (k : Known) → k.entry.noted ≡ true → IsIn (signs_of k) (note_place k.path)
note_sign k h =
    in_second (if k.entry.marked then mark_place k.path ∷ [] else []) (if k.entry.noted then note_place k.path ∷ [] else []) (note_place k.path)
    (subst (λ b. IsIn (if b then note_place k.path ∷ [] else []) (note_place k.path)) (sym h) (inl refl))

module _ (image : Image) (store : List Known) (is : IsStoreOf image store) where
  known_entry : (p : Path) → is_known image p ≡ true → (k : Known) × IsIn store k × (k.path ≡ p) × (k.entry ≡ entry_at image p)
  known_entry p known = found_in store p (entry_at image p) (is.entries p ∙ ap (λ b. if b then Some (entry_at image p) else None) known)

  signs_stand : HasSigns image (all_signs store)
  signs_stand =
      record {
        marks = λ p marked.
            let at = known_entry p (or_second (stands (image.kept p)) _ (or_first (image.marked p) _ marked)) in
            in_among (all_signs store) (mark_place p)
            (in_flat signs_of store at.0 (mark_place p) at.1 (subst (λ q. IsIn (signs_of at.0) (mark_place q)) at.2 (mark_sign at.0 (ap (λ (e : Entry). e.marked) at.3 ∙ marked))));
        notes = λ p noted.
            let at = known_entry p (or_second (stands (image.kept p)) _ (or_second (image.marked p) _ noted)) in
            in_among (all_signs store) (note_place p)
            (in_flat signs_of store at.0 (note_place p) at.1 (subst (λ q. IsIn (signs_of at.0) (note_place q)) at.2 (note_sign at.0 (ap (λ (e : Entry). e.noted) at.3 ∙ noted))));
      }

-- ## Faults

-- a fault that is none of a sink is a refusal, one of the device, or want of memory
data IsKind : Fault → Type 0 where
  ATold : (f : Fault) → is_told f ≡ true → is_device f ≡ false → IsKind f
  ADevice : IsKind fault.Device
  AMemory : IsKind fault.OutOfMemory

kind_of : (f : Fault) → is_sink f ≡ false → IsKind f
kind_of (fault.Workflow x) h = ATold _ refl refl
kind_of (fault.NoRule path) h = ATold _ refl refl
kind_of (fault.NoInput path rule wanted) h = ATold _ refl refl
kind_of (fault.Ambiguous path a b) h = ATold _ refl refl
kind_of (fault.Deep path) h = ATold _ refl refl
kind_of (fault.TooManyPaths count) h = ATold _ refl refl
kind_of (fault.Clash path other) h = ATold _ refl refl
kind_of (fault.MissingMember path) h = ATold _ refl refl
kind_of (fault.NoCommand rule) h = ATold _ refl refl
kind_of fault.Locked h = ATold _ refl refl
kind_of (fault.StampSeen path) h = ATold _ refl refl
kind_of fault.Serials h = ATold _ refl refl
kind_of (fault.Incomplete paths) h = ATold _ refl refl
kind_of (fault.Protected path) h = ATold _ refl refl
kind_of (fault.AboveLimit rule path name asked bound) h = ATold _ refl refl
kind_of (fault.UnknownField rule word) h = ATold _ refl refl
kind_of (fault.TooLong rule bytes) h = ATold _ refl refl
kind_of (fault.JobFailed rule path code) h = ATold _ refl refl
kind_of (fault.NoOutput rule path absent) h = ATold _ refl refl
kind_of (fault.WrongKind rule path wrong) h = ATold _ refl refl
kind_of fault.BadWords h = ATold _ refl refl
kind_of fault.NoCores h = ATold _ refl refl
kind_of (fault.BadTarget word) h = ATold _ refl refl
kind_of (fault.BadMember rule path bad) h = ATold _ refl refl
kind_of fault.Device h = ADevice
kind_of fault.Output h = absurd (true≢false h)
kind_of fault.OutOfMemory h = AMemory

-- ## Rules

module _ (read : List ℕ → Option Record) (flow : Flow) (settings : Settings) where
  -- by what is read of records, whether a lock is taken or not
  abbrev rules_by : Bool → Rules
  rules_by nolock = record { flow = flow; settings = settings; nolock = nolock; read = read; missing = missing; command = command }

  -- a lock changes nothing of what is refused
  relocked :
      (m n : Bool) (image : Image) (L : Listings) (f : Fault) → ChainRefuses (rules_by m) image nothing_done L f → ChainRefuses (rules_by n) image nothing_done L f
  relocked m n image L f (DerivationRefuses K r g e is) = DerivationRefuses K r g e is
  relocked m n image L f (PlanRefuses p g rest is e) = PlanRefuses p g rest is e
  relocked m n image L f (NextRefuses p g is calm more later) = NextRefuses p g is calm more (relocked m n image _ g later)

  module _ (n : Bool) (w : World) (store : List Known) (stored : IsStoreOf (seen read w) store) (loading : List Event) (loaded : AreLooks false loading) where
    signs : HasSigns (seen read w) (all_signs store)
    signs = signs_stand (seen read w) store stored

    refused_so : (f : Fault) (es settling looks : List Event) → es ≡ loading ++ (settling ++ looks) → is_sink f ≡ false → HasDone (steady_requests store) settling → AreLooks (is_device f) looks →
        HasKeptLast read flow settings (seen read w) (Err f) → HasStopped (rules_by n) w es f
    refused_so f es settling looks split quiet done looked kept = go f (kind_of f quiet) looked kept
      where
        opens : (b : Bool) → b ≡ false → AreLooks b looks → IsOpening (rules_by n) w (Ok tt) es
        opens b is are =
            subst (λ (xs : List Event). IsOpening (rules_by n) w (Ok tt) xs) (sym split)
            (Opens loading settling looks (all_signs store) loaded signs done (subst (λ (x : Bool). AreLooks x looks) is are))

        go : (g : Fault) → IsKind g → AreLooks (is_device g) looks → HasKeptLast read flow settings (seen read w) (Err g) → HasStopped (rules_by n) w es g
        go g (ATold _ told calm) are k =
            IsRefused g (λ plan. PlansAreRefused g refl (relocked true n (seen read w) [] g (k.chain told))) (opens (is_device g) calm are)
        go _ ADevice are k =
            CallFails
            (subst (λ (xs : List Event). IsOpening (rules_by n) w (Err DeviceFault) xs) (sym split) (LooksFail loading settling looks (all_signs store) loaded signs done are))
        go _ AMemory are k = NoMemory (Ok tt) (inl refl) (opens false refl are)

    outcome_by :
        (s : Result Opened Fault) (fs : List Event) → IfErr s (λ f. is_sink f ≡ false) → IfOk s (λ (o : Opened). IsFresh settings o.live) → IfOk s (λ (o : Opened). IsNextBy store o.next) →
        GoesOn read flow settings (seen read w) store s fs → IsOutcome (rules_by n) w (loading ++ fs) s
    outcome_by (Ok o) _ quiet fresh next (Plans _ settling looks done looked kept) = (
      Opens loading settling looks (all_signs store) loaded signs done looked,
      record {
        fresh = fresh;
        agrees = kept.agrees;
        clear = record { unhalted = refl; at_rest = refl; planned = kept.chain.last; unrefused = λ f refused. kept.unrefused f (relocked n true (seen read w) [] f refused) };
        next = record { store = store; stored = stored; by = next };
      },
    )
    outcome_by (Err f) _ quiet fresh next (Plans _ settling looks done looked kept) = refused_so f (loading ++ (settling ++ looks)) settling looks refl quiet done looked kept
    outcome_by _ _ quiet fresh next (IsCut settling cut) = CallFails (SettlingFails loading settling (all_signs store) loaded signs cut)
    outcome_by _ _ quiet fresh next IsShort =
        NoMemory (Err MemoryFault) (inr refl)
        (subst (λ (xs : List Event). IsOpening (rules_by n) w (Err MemoryFault) xs) (sym (append-nil loading)) (LacksMemory loading loaded))

-- what holds by all of these rules holds by the rules of the run
by_rules : (flow : Flow) (settings : Settings) (P : Rules → Type 0) (rules : Rules) → AreRules flow settings rules → P (rules_by rules.read flow settings rules.nolock) → P rules
by_rules flow settings P rules are p =
    coe 1 0 (i. P (record { flow = are.flow_is i; settings = are.settings_are i; nolock = rules.nolock; read = rules.read; missing = are.fields i; command = are.texts i })) p

-- ## The opening

module _ (act : Act) (flow : Flow) (settings : Settings) where
  abbrev Stores : List Known → World → Type 0
  Stores store w = NoneOwned w → (read : List ℕ → Option Record) → ReadsRecords read → IsStoreOf (seen read w) store

  pub opened_so :
      (a b c : Device) (store : List Known) (s : Result Opened Fault) → HasLooked act a b false → WhereTold a (Stores store) →
      HasActed act (λ w es. NoneOwned w → (read : List ℕ → Option Record) → ReadsRecords read → GoesOn read flow settings (seen read w) store s es) b c (device_failed s) →
      IfErr s (λ f. is_sink f ≡ false) → IfOk s (λ (o : Opened). IsFresh settings o.live) → IfOk s (λ (o : Opened). IsNextBy store o.next) → HasOpened act flow settings s a c
  opened_so a b c store s looked stored goes quiet fresh next =
      record {
        acted = acted_then act (λ w es. AreLooks false es × Stores store w) (Goes act flow settings store s)
            (λ w es. NoneOwned w → (rules : Rules) → AreRules flow settings rules → IsOutcome rules w es s) a b c (device_failed s)
            (λ w es fs follows first follows2 then_. λ none rules are.
            let still = looks_run rules.read act false w es follows first.0 in
            by_rules flow settings (λ (x : Rules). IsOutcome x w (es ++ fs) s) rules are
            (outcome_by rules.read flow settings rules.nolock w store (first.1 none rules.read are.reads) es first.0 s fs quiet fresh next
            (subst (λ (i : Image). GoesOn rules.read flow settings i store s fs) still.image (then_ (still.free none) rules.read are.reads))))
            (acted_told act (λ w es. AreLooks false es) (Stores store) a b false looked.acted stored) goes;
      }

  pub not_loaded :
      (a b : Device) (f : Fault) → is_told f ≡ false → is_sink f ≡ false → HasLooked act a b (is_device f) → HasOpened act flow settings (Err f) a b
  not_loaded a b f untold quiet looked = go f (kind_of f quiet) untold looked
    where
      go : (g : Fault) → IsKind g → is_told g ≡ false → HasLooked act a b (is_device g) → HasOpened act flow settings (Err g) a b
      go g (ATold _ told calm) untold h = absurd (true≢false (sym told ∙ untold))
      go _ ADevice untold h =
          record {
            acted = acted_as act (λ w es. AreLooks true es) (λ w es. NoneOwned w → (rules : Rules) → AreRules flow settings rules → IsOutcome rules w es (Err fault.Device)) a b true true refl
                (λ w es looks. λ none rules are. CallFails (LoadingFails es looks)) h.acted;
          }
      go _ AMemory untold h =
          record {
            acted = acted_as act (λ w es. AreLooks false es) (λ w es. NoneOwned w → (rules : Rules) → AreRules flow settings rules → IsOutcome rules w es (Err fault.OutOfMemory)) a b false false refl
                (λ w es looks. λ none rules are. NoMemory (Err MemoryFault) (inr refl) (LacksMemory es looks)) h.acted;
          }
