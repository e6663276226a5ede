-- What is kept once a job has begun, put together; and the turn that it makes.
use Rattle.std.proofs.Common.{◌≡◌, ◌≢◌, ◌<◌, ℕ, Bool, ◌&&◌, true, false, List, [], ◌∷◌, ◌++◌, length, get_or, refl, sym, ap, subst, ◌∙◌, arith, inl, inr, Option, Some, None, Result, Ok, Err}
use Rattle.std.specs.Prelude.{Contains, IfErr, OnErr, OnOk, is_ok, nat_lt}
use Rattle.std.specs.List.{slice_get}
use Rattle.std.proofs.lemmas.Option.{same_Some, slice_get-get_or}
use Rattle.smk_world.specs.Devices.{Device, IsSoundDevice, Sunk}
use Rattle.smk_world.specs.Trees.{Act, Each, is_path_text}
use Rattle.smk_record.specs.declared.record.Stamp.{Stamp}
use Rattle.smk_flow.specs.declared.job.Job.{Job}
use Rattle.smk_flow.specs.Flows.{Flow, rule_name}
use Rattle.smk_pick.specs.declared.settings.Settings.{Settings}
use Rattle.smk_pick.specs.Shares.{Holds}
use Rattle.smk_plan.specs.declared.fault.PlanFault.{PlanFault}
use Rattle.smk_plan.specs.declared.fault.PlanFault.TheVariants as refusal
use Rattle.smk_report.specs.Lines.{Text}
use Rattle.smk_report.specs.declared.fault.Fault.{Fault}
use Rattle.smk_report.specs.declared.fault.Fault.TheVariants as fault
use Rattle.smk_job.specs.Jobs.{Underway, begin_failed}
use Rattle.smk_job.specs.declared.fault.BeginFault.{BeginFault}
use Rattle.smk_job.specs.Starts.{HasStarted, begun_child}
use Rattle.smk_run.specs.Reports.{HasReported}
use Rattle.smk_run.specs.Runs.{is_output}
use Rattle.smk_plan_live.specs.declared.base.Base.{Base}
use Rattle.smk_plan_live.specs.Live.{LivePlan}
use Rattle.smk_plan_live.specs.Carried.{begun}
use Rattle.smk_plan_live.specs.Changes.{HasBegun, IsRefusedBegun}
use Rattle.smk_plan_live.specs.Lives.{IsLive, IsRefusedNow}
use Rattle.smk_drive_step.specs.declared.children.Child.{Child}
use Rattle.smk_drive_step.specs.declared.halt.Halt.{Halt}
use Rattle.smk_drive_step.specs.Beginning.{HasTakenUp}
use Rattle.smk_drive_step.specs.Crews.{IsPutFor, is_device}
use Rattle.smk_drive_step.specs.Telling.{IsPutIf}
use Rattle.smk_laws_turns.specs.Hubs.{Parts}
use Rattle.smk_laws_turns.specs.Turning.{faulted}
use Rattle.smk_laws_turns.specs.Resting.{IsAnswerOf, IsTold}
use Rattle.smk_drive_hub.specs.Keeping.{heeded}
use Rattle.smk_drive_hub.specs.Turned.{HasTurned}
use Rattle.smk_laws_begins.specs.Begins.{MayTake}
use Rattle.smk_laws_begins.specs.Fitting.{IsFit, IsUnfit, next_after}
use Rattle.smk_laws_begins.specs.Noting.{HasNoted, IsBeginFault, IsToldBegun, child_of, told_and_put}
use Rattle.smk_laws_begins.proofs.Turn.{begun_turns, unbegun_turns, unfit_turns}
use Rattle.smk_drive_begin.specs.declared.kit.Kit.{Kit}
use Rattle.smk_drive_begin.specs.Kits.{ArePlaced, IsBegunWith, IsKitOf, IsNoted, IsSeated, lost_fault, put_answer}

-- what is heeded changes the halt alone
pub heeded_but : (answer : Result (Unit {0}) Fault) (q : Parts) → heeded answer q ≡ record q { halt = (heeded answer q).halt }
heeded_but (Ok u) q = refl
heeded_but (Err f) q = refl

halt_by : (answer : Result (Unit {0}) Fault) (q h : Parts) → q.halt ≡ h.halt → (heeded answer q).halt ≡ (heeded answer h).halt
halt_by (Ok u) q h e = e
halt_by (Err f) q h e = ap (λ (x : Halt). (heeded (Err f) (record h { halt = x })).halt) e

pub places_heeded : (answer : Result (Unit {0}) Fault) (q k : Parts) → k ≡ heeded answer q → k.places ≡ q.places
places_heeded answer q k e = ap (λ (x : Parts). x.places) (e ∙ heeded_but answer q)

pub placed_on : {were mid are : List (Option Child)} → are ≡ mid → ArePlaced were mid → ArePlaced were are
placed_on same (inl e) = inl (same ∙ e)
placed_on {were = were} same (inr (c, put)) = inr (c, subst (λ ps. IsPutFor None (Some c) were ps) (sym same) put)

-- The steps of noting: the child was seated, the serial drawn, the plan told and the line put, and the answer heeded.
pub noted_all :
    (flow : Flow) (settings : Settings) (h k1 k : Parts) (number : ℕ) (draws : Bool) (child : Child) (told put : Result (Unit {0}) Fault) (live : LivePlan)
    (next : Option ℕ) (telling : Bool) →
    IsSeated h k1 child → next ≡ next_after draws k1.next → IsToldBegun flow settings number k1.live live told → telling ≡ (k1.telling && is_ok put) →
    IfErr put (λ f. f ≡ fault.Output) → k ≡ heeded (told_and_put told put) (record k1 { live = live; next = next; telling = telling }) →
    HasNoted flow settings h k number draws child told put
noted_all flow settings h k1 k number draws child told put live next telling seated drawn begun tells lost is =
    let q : Parts = record k1 { live = live; next = next; telling = telling } in
    let all : k ≡ record q { halt = (heeded (told_and_put told put) q).halt } = is ∙ heeded_but (told_and_put told put) q in
    record {
      placed = subst (λ ps. IsPutFor None (Some child) h.places ps) (sym (ap (λ (x : Parts). x.places) all)) seated.placed;
      room = λ cores bounds asks holds.
          subst (λ r. Holds cores bounds r (asks ++ child.ask ∷ [])) (sym (ap (λ (x : Parts). x.room) all)) (seated.room cores bounds asks holds);
      counted = ap (λ (x : Parts). x.tally) all ∙ seated.counted;
      drawn = ap (λ (x : Parts). x.next) all ∙ (drawn ∙ ap (next_after draws) seated.next);
      plan =
          subst (λ l. IsToldBegun flow settings number h.live l told) (sym (ap (λ (x : Parts). x.live) all))
          (subst (λ l. IsToldBegun flow settings number l live told) seated.live begun);
      lost = lost;
      halted = ap (λ (x : Parts). x.halt) all ∙ halt_by (told_and_put told put) q h seated.halt;
      telling = ap (λ (x : Parts). x.telling) all ∙ (tells ∙ ap (λ b. b && is_ok put) seated.telling);
    }

-- it has begun, and that is noted
pub begun_all :
    (act : Act) (flow : Flow) (settings : Settings) (h k : Parts) (number : ℕ) (j : Job) (kit : Kit) (going : Underway) (old new : Device) (o p : Sunk) →
    IsKitOf flow settings h number j kit → IsBegunWith act settings h number j kit going old new → IsNoted flow settings h k number kit going o p →
    HasTurned act flow settings h k false old new o p
begun_all act flow settings h k number j kit going old new o p ready begun noted =
    begun_turns act flow settings h number j kit.known kit.made kit.draws kit.command kit.ask old new going k noted.told noted.put o p begun.taken begun.sound begun.fresh
    (subst (λ line. HasNoted flow settings h k number kit.draws (child_of going number kit.ask line) noted.told noted.put) ready.done noted.noted)
    (subst (λ line. HasReported (IsPutIf h.telling (is_ok noted.put) line) o p (is_output noted.put)) ready.start noted.text)

-- ## The plan

-- The plan was told that the job of the number has begun, and what it answered was heard.
pub told_begun :
    (flow : Flow) (settings : Settings) (number : ℕ) (old new : LivePlan) (told : Result (Unit {0}) PlanFault) (answer : Result (Unit {0}) Fault) →
    IsLive new → OnOk told (HasBegun number old new) → OnErr told (new ≡ old) → IfErr told (λ f. f ≢ refusal.OutOfMemory → IsRefusedBegun number old f) →
    IfErr answer (λ f. (is_device f ≡ false) × (f ≢ fault.Output)) →
    ((base : Base) → OnOk told (IsTold settings base new) → IfErr told (λ f. f ≢ refusal.OutOfMemory → IsRefusedNow settings base f) →
    IsAnswerOf flow settings base new answer) → IsToldBegun flow settings number old new answer
told_begun flow settings number old new (Ok u) answer alive h same refused quiet says =
    record {
      alive = alive;
      settings_stay = h.settings;
      jobs_stay = ap (λ (b : Base). b.jobs) h.base;
      answers = λ state j set has is.
          let state_is : h.state ≡ state = same_Some h.state state (sym h.had ∙ has) in
          let job_is : h.job ≡ j = same_Some h.job j (sym h.is ∙ is) in
          says (begun number state j old.base)
          (record { alive = alive; settings_are = h.settings ∙ set; base_is = h.base ∙ (λ i. begun number (state_is i) (job_is i) old.base) }) tt;
      quiet = quiet;
    }
told_begun flow settings number old new (Err f) answer alive h same refused quiet says =
    record {
      alive = alive;
      settings_stay = ap (λ (l : LivePlan). l.settings) same;
      jobs_stay = ap (λ (l : LivePlan). l.base.jobs) same;
      answers = λ state j set has is.
          says (begun number state j old.base) tt
          (λ other. subst (λ s. IsRefusedNow s (begun number state j old.base) f) set (refused other state has j is));
      quiet = quiet;
    }

-- ## The device

-- the device took the job up: it has begun
pub begun_with :
    (act : Act) (settings : Settings) (h : Parts) (number : ℕ) (j : Job) (kit : Kit) (going : Underway) (old new : Device) (known : List Stamp) (command : Text) →
    known ≡ kit.known → command ≡ kit.command → MayTake settings h number → IsLive h.live →
    IsFit settings h number j kit.known kit.made kit.draws kit.command kit.ask → Each (λ p. is_path_text p ≡ true) j.logs →
    HasStarted act (HasTakenUp j known kit.made command (Ok going)) (begun_child (Ok going)) old new (begin_failed {T = Underway} (Ok going)) → IsSoundDevice old →
    ¬ (Contains old.running going.number) → IsBegunWith act settings h number j kit going old new
begun_with act settings h number j kit going old new known command known_is command_is may live fit logged did sound fresh =
    record {
      taken =
          record {
            may = may;
            live = live;
            fit = fit;
            logged = logged;
            did =
                subst (λ ks. HasStarted act (HasTakenUp j ks kit.made kit.command (Ok going)) (Some going.number) old new false) known_is
                (subst (λ t. HasStarted act (HasTakenUp j known kit.made t (Ok going)) (Some going.number) old new false) command_is did);
          };
      sound = sound;
      fresh = fresh;
    }

-- it hasn't
pub unbegun_with :
    (act : Act) (flow : Flow) (settings : Settings) (h : Parts) (number : ℕ) (j : Job) (kit : Kit) (why : BeginFault) (old new : Device) (known : List Stamp)
    (command rule : Text) (f : Fault) (o : Sunk) →
    known ≡ kit.known → command ≡ kit.command → rule ≡ rule_name flow j.rule → MayTake settings h number → IsLive h.live →
    IsFit settings h number j kit.known kit.made kit.draws kit.command kit.ask → Each (λ p. is_path_text p ≡ true) j.logs →
    HasStarted act (HasTakenUp j known kit.made command (Err why)) None old new (begin_failed {T = Underway} (Err why)) → IsBeginFault rule why f →
    HasTurned act flow settings h (faulted f h) false old new o o
unbegun_with act flow settings h number j kit why old new known command rule f o known_is command_is rule_is may live fit logged did is =
    unbegun_turns act flow settings h number j kit.known kit.made kit.draws kit.command kit.ask old new why f o
    (record {
      may = may;
      live = live;
      fit = fit;
      logged = logged;
      did =
          subst (λ ks. HasStarted act (HasTakenUp j ks kit.made kit.command (Err why)) None old new (begin_failed {T = Underway} (Err why))) known_is
          (subst (λ t. HasStarted act (HasTakenUp j known kit.made t (Err why)) None old new (begin_failed {T = Underway} (Err why))) command_is did);
    }) (subst (λ r. IsBeginFault r why f) rule_is is)

-- ## Looking up

below : (n m : ℕ) → true ≡ nat_lt n m → n < m
below n m h = grind (arith, h)

-- the job that is there
pub at_number : {A : Type 0} (xs ys : List A) (n : ℕ) (x : A) → true ≡ nat_lt n (length xs) → x ≡ get_or xs n x → xs ≡ ys → slice_get ys n ≡ Some x
at_number xs ys n x low is same = subst (λ zs. slice_get zs n ≡ Some x) same (slice_get-get_or xs n x (below n (length xs) low) ∙ ap Some (sym is))

-- it doesn't begin, before anything is done
pub unfit_by :
    (act : Act) (flow : Flow) (settings : Settings) (h : Parts) (number : ℕ) (r : Result (Unit {0}) Fault) (y f : Fault) (d : Device) (o : Sunk) →
    r ≡ Err y → y ≡ f → MayTake settings h number → IsLive h.live → IsUnfit h number f → HasTurned act flow settings h (heeded r h) false d d o o
unfit_by act flow settings h number r y f d o is same may live unfit =
    subst (λ x. HasTurned act flow settings h (heeded x h) false d d o o) (sym (is ∙ ap Err same)) (unfit_turns act flow settings h number f d o may live unfit)

-- ## Lines

-- where a line wasn't put the sink failed
pub put_is : (r : Result (Unit {0}) Fault) → IfErr r (λ f. f ≡ fault.Output) → r ≡ put_answer (is_ok r)
put_is (Ok u) h = refl
put_is (Err f) h = ap Err h

pub told_alone : (told : Result (Unit {0}) Fault) → told ≡ told_and_put told (put_answer true)
told_alone (Ok u) = refl
told_alone (Err f) = refl

pub line_missing : (told : Result (Unit {0}) Fault) → Err (lost_fault told) ≡ told_and_put told (put_answer false)
line_missing (Ok u) = refl
line_missing (Err f) = refl
