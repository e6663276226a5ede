-- What turns did together.
use Rattle.std.proofs.Common.{◌≡◌, ◌⊎◌, inl, inr, ℕ, Bool, true, false, ◌||◌, List, [], ◌∷◌, ◌++◌, refl, sym, ap, subst, ◌∙◌, arith, append_assoc, Option, Some, None, true≢false}
use Rattle.std.proofs.Math.Bool.{or-false}
use Rattle.std.proofs.lemmas.List.{append-nil}
use Rattle.std.proofs.lemmas.Option.{none-some}
use Rattle.smk_world.specs.declared.event.Event.{Event}
use Rattle.smk_world.specs.World.{World, run}
use Rattle.smk_world.specs.Calls.{HasCause, Rose}
use Rattle.smk_world.specs.Devices.{Sunk}
use Rattle.smk_world.specs.Trees.{IsIn}
use Rattle.smk_world.proofs.Runs.{did_both, did_nothing}
use Rattle.smk_flow.specs.Flows.{Flow}
use Rattle.smk_pick.specs.declared.settings.Settings.{Settings}
use Rattle.smk_report.specs.Lines.{Text}
use Rattle.smk_report.specs.declared.fault.Fault.{Fault}
use Rattle.smk_report.specs.declared.fault.Fault.TheVariants as fault
use Rattle.smk_run.specs.Reports.{HasReported}
use Rattle.smk_run.proofs.Honest.{given_none, given_then}
use Rattle.smk_run.proofs.Rising.{rose_earlier, rose_later}
use Rattle.smk_run.proofs.Texts.{reported_nothing}
use Rattle.smk_drive.specs.Moments.{Rules}
use Rattle.smk_drive_step.specs.declared.halt.Halt.{Halt}
use Rattle.smk_drive_step.specs.Crews.{halted_by, or_later}
use Rattle.smk_drive_course.specs.Stands.{Stand}
use Rattle.smk_drive_course.specs.Steps.{Deed}
use Rattle.smk_drive_course.specs.Breaks.{Done, Steps, Then}
use Rattle.smk_laws_moments.proofs.ChildrenOf.{run_more}
use Rattle.smk_laws_turns.specs.Going.{HasGoneTo}
use Rattle.smk_laws_turns.specs.Hubs.{IsAt, Parts}
use Rattle.smk_laws_turns.specs.Turning.{faulted}
use Rattle.smk_laws_turns.proofs.Going.{goes_on_from, rests_there}
use Rattle.smk_laws_turns.proofs.Turning.{halt_leads}
use Rattle.smk_drive_hub.specs.Turned.{HasFailedWait, IsSoundHalt, IsSteady, IsToldSoFar, LeadOn, TellsOn}
use Rattle.smk_laws_begins.specs.Gone.{GoesFurther, GoesHeld, GoesNowhere, GoesOnce}

-- ## Steps

pub steps_then :
    (rules : Rules) (entry : World) (fs : List Event) (more : List Deed) (u s t : Stand) (w : World) (before es : List Event) (deeds : List Deed) →
    Steps rules entry s w before es deeds t →
    Steps rules entry t (run w es) (before ++ es) fs more u → Steps rules entry s w before (es ++ fs) (deeds ++ more) u
steps_then rules entry fs more u s t w before es deeds (Done s1 w1 before1) later =
    subst (λ past. Steps rules entry s1 w1 past fs more u) (append-nil before1) later
steps_then rules entry fs more u s t w before es deeds (Then s1 v t1 w1 before1 es1 es2 deeds1 deeds2 step rest) later =
    subst (λ xs. Steps rules entry s1 w1 before1 xs ((deeds1 ++ deeds2) ++ more) u) (sym (append_assoc es1 es2 fs))
    (subst (λ ds. Steps rules entry s1 w1 before1 (es1 ++ (es2 ++ fs)) ds u) (sym (append_assoc deeds1 deeds2 more))
    (Then s1 v u w1 before1 es1 (es2 ++ fs) deeds1 (deeds2 ++ more) step
    (steps_then rules entry fs more u v t1 (run w1 es1) (before1 ++ es1) es2 deeds2 rest
    (subst (λ past. Steps rules entry t1 (run (run w1 es1) es2) past fs more u) (sym (append_assoc before1 es1 es2))
    (subst (λ x. Steps rules entry t1 x (before1 ++ (es1 ++ es2)) fs more u) (run_more w1 es1 es2) later)))))

pub gone_then :
    (rules : Rules) (entry : World) (k m : Parts) (s : Stand) (w : World) (before es fs : List Event) (deeds more later : List Deed) →
    (first : HasGoneTo rules entry k s w before es deeds more) →
    HasGoneTo rules entry m first.stand (run w es) (before ++ es) fs (deeds ++ more) later →
    HasGoneTo rules entry m s w before (es ++ fs) deeds (more ++ later)
gone_then rules entry k m s w before es fs deeds more later first second =
    record {
      stand = second.stand;
      steps = steps_then rules entry fs later second.stand s first.stand w before es more first.steps second.steps;
      at =
          subst (λ v. IsAt rules entry m second.stand v (before ++ (es ++ fs)) (deeds ++ (more ++ later))) (sym (run_more w es fs))
          (subst (λ past. IsAt rules entry m second.stand (run (run w es) fs) past (deeds ++ (more ++ later))) (append_assoc before es fs)
          (subst (λ ds. IsAt rules entry m second.stand (run (run w es) fs) ((before ++ es) ++ fs) ds) (append_assoc deeds more later) second.at));
    }

leads_then :
    (flow : Flow) (settings : Settings) (h k m : Parts) (more later : List Deed) (w : World) (es fs : List Event) →
    LeadOn flow settings h k more w es → LeadOn flow settings k m later (run w es) fs → LeadOn flow settings h m (more ++ later) w (es ++ fs)
leads_then flow settings h k m more later w es fs first second =
    λ rules entry s before deeds by at.
    let one = first rules entry s before deeds by at in
    gone_then rules entry k m s w before es fs deeds more later one (second rules entry one.stand (before ++ es) (deeds ++ more) by one.at)

-- ## Waits that failed

in_front : (es fs : List Event) (e : Event) → IsIn es e → IsIn (es ++ fs) e
in_front [] fs e i = absurd i
in_front (x ∷ es) fs e (inl same) = inl same
in_front (x ∷ es) fs e (inr i) = inr (in_front es fs e i)

pub in_back : (es fs : List Event) (e : Event) → IsIn fs e → IsIn (es ++ fs) e
in_back [] fs e i = i
in_back (x ∷ es) fs e i = inr (in_back es fs e i)

failed_either :
    (early late : Bool) (es fs : List Event) →
    (early ≡ true → HasFailedWait es) → (late ≡ true → HasFailedWait fs) → (early || late) ≡ true → HasFailedWait (es ++ fs)
failed_either true late es fs first second is = let f = first refl in (f.0, in_front es fs f.0 f.1, f.2)
failed_either false late es fs first second is = let f = second is in (f.0, in_back es fs f.0 f.1, f.2)

-- ## Flags

either_true : (x y : Bool) (T : Type 0) → (x ≡ true → T) → (y ≡ true → T) → (x || y) ≡ true → T
either_true true y T first second is = first refl
either_true false y T first second is = second is

first_false : (x y : Bool) → (x || y) ≡ false → x ≡ false
first_false true y is = absurd (true≢false is)
first_false false y is = refl

second_false : (x y : Bool) → (x || y) ≡ false → y ≡ false
second_false true y is = absurd (true≢false is)
second_false false y is = is

left_true : (x y : Bool) → x ≡ true → (x || y) ≡ true
left_true true y is = refl
left_true false y is = absurd (true≢false (sym is))

right_true : (x y : Bool) → y ≡ true → (x || y) ≡ true
right_true true y is = refl
right_true false y is = is

or_twice : (x y z : Bool) → ((x || y) || z) ≡ (x || (y || z))
or_twice true y z = refl
or_twice false y z = refl

-- ## Causes

pub cause_then : (a b c : ℕ) (f g : Bool) → HasCause a b f → HasCause b c g → HasCause a c (f || g)
cause_then a b c f g first second =
    record {
      later = (let le = first.later in let more = second.later in omega (arith, le, more));
      rose =
          either_true f g (Rose a c) (λ is. rose_later a b c first.later second.later (first.rose is)) (λ is. rose_earlier a b c first.later (second.rose is));
    }

-- ## Texts

pub reported_both :
    (P Q R : Text → Type 0) (a b c : Sunk) (f g : Bool) →
    ((s t : Text) → P s → Q t → R (s ++ t)) → HasReported P a b f → HasReported Q b c g → HasReported R a c (f || g)
reported_both P Q R a b c f g both h k =
    record {
      told = λ now e.
          let m = k.told now e in
          let n = h.told m.0 m.1 in
          (n.0, n.1, (n.2.0 ++ m.2.0, both n.2.0 m.2.0 n.2.1 m.2.1, m.2.2 ∙ ap (λ l. l ++ m.2.0) n.2.2 ∙ append_assoc n.0 n.2.0 m.2.0));
      stays = λ quiet some. k.stays (second_false f g quiet) (h.stays (first_false f g quiet) some);
      cause = cause_then a.faults b.faults c.faults f g h.cause k.cause;
      quiet = λ quiet. k.quiet (second_false f g quiet) ∙ h.quiet (first_false f g quiet);
    }

tells_then :
    (flow : Flow) (h k m : Parts) (more later : List Deed) (s t : Text) →
    TellsOn flow h k more s → TellsOn flow k m later t → TellsOn flow h m (more ++ later) (s ++ t)
tells_then flow h k m more later s t first second =
    λ deeds before told.
    subst (λ ds. IsToldSoFar flow m ds (before ++ (s ++ t))) (append_assoc deeds more later)
    (subst (λ x. IsToldSoFar flow m ((deeds ++ more) ++ later) x) (append_assoc before s t)
    (second (deeds ++ more) (before ++ s) (first deeds before told)))

tells_nothing : (flow : Flow) (h : Parts) → TellsOn flow h h [] []
tells_nothing flow h =
    λ deeds before told.
    subst (λ ds. IsToldSoFar flow h ds (before ++ [])) (sym (append-nil deeds)) (subst (λ x. IsToldSoFar flow h deeds x) (sym (append-nil before)) told)

-- ## Turns

or_never : (T : Type 0) → T ⊎ (false ≡ true) → T
or_never T (inl t) = t
or_never T (inr e) = absurd (true≢false (sym e))

pub goes_nowhere : GoesNowhere
goes_nowhere act flow settings h d q alive =
    record {
      deeds = [];
      failure = false;
      lost = false;
      led =
          did_nothing act (λ w es. LeadOn flow settings h h [] w es × (false ≡ true → HasFailedWait es)) d.world
          (λ w. (λ rules entry s before deeds by at. rests_there rules entry h s w before deeds at, λ e. absurd (true≢false (sym e))));
      given = given_none act d;
      stays = λ quiet some. some;
      cause = record { later = omega arith; rose = λ failure. absurd (true≢false (sym failure)) };
      fails = λ e. absurd (true≢false (sym e));
      waits = sym (or-false h.halt.only_waits);
      steady = λ steady. steady;
      alive = alive;
      seats = λ seats. seats;
      silent = λ is. or_never (h.telling ≡ false) is;
      outputs = λ is. inl is;
      text = reported_nothing (TellsOn flow h h []) q (tells_nothing flow h);
    }

pub goes_once : GoesOnce
goes_once act flow settings h k unwaited a b p q t =
    record {
      deeds = t.deeds;
      failure = t.failure;
      lost = t.lost;
      led = t.led;
      given = t.given;
      stays = t.stays;
      cause = t.cause;
      fails = t.fails;
      waits = t.waits;
      steady = t.steady;
      alive = t.alive;
      seats = t.seats;
      silent = t.silent;
      outputs = t.outputs;
      text = t.text;
    }

still_silent : (T U V : Type 0) (f g : Bool) → (T ⊎ (f ≡ true) → U) → (U ⊎ (g ≡ true) → V) → T ⊎ ((f || g) ≡ true) → V
still_silent T U V f g first second (inl t) = second (inl (first (inl t)))
still_silent T U V f g first second (inr is) = either_true f g V (λ e. second (inl (first (inr e)))) (λ e. second (inr e)) is

with_first : (T : Type 0) (f g : Bool) → T ⊎ (f ≡ true) → T ⊎ ((f || g) ≡ true)
with_first T f g (inl t) = inl t
with_first T f g (inr e) = inr (left_true f g e)

of_either : (T U : Type 0) (f g : Bool) → U ⊎ (g ≡ true) → (U → T ⊎ (f ≡ true)) → T ⊎ ((f || g) ≡ true)
of_either T U f g (inl u) first = with_first T f g (first u)
of_either T U f g (inr e) first = inr (right_true f g e)

pub goes_further : GoesFurther
goes_further act flow settings h k m early late a b c p q r x y =
    record {
      deeds = x.deeds ++ y.deeds;
      failure = x.failure || y.failure;
      lost = x.lost || y.lost;
      led =
          did_both act (λ w es. LeadOn flow settings h k x.deeds w es × (early ≡ true → HasFailedWait es))
          (λ w es. LeadOn flow settings k m y.deeds w es × (late ≡ true → HasFailedWait es))
          (λ w es. LeadOn flow settings h m (x.deeds ++ y.deeds) w es × ((early || late) ≡ true → HasFailedWait es)) a.world b.world c.world x.led y.led
          (λ w es fs follows one follows2 two.
          (leads_then flow settings h k m x.deeds y.deeds w es fs one.0 two.0, failed_either early late es fs one.1 two.1));
      given = given_then act a b c x.cause.later y.cause.later x.given y.given;
      stays = λ quiet some. y.stays (second_false x.failure y.failure quiet) (x.stays (first_false x.failure y.failure quiet) some);
      cause = cause_then a.faults b.faults c.faults x.failure y.failure x.cause y.cause;
      fails =
          either_true early late ((x.failure || y.failure) ≡ true) (λ is. left_true x.failure y.failure (x.fails is))
          (λ is. right_true x.failure y.failure (y.fails is));
      waits = y.waits ∙ ap (λ f. f || y.failure) x.waits ∙ or_twice h.halt.only_waits x.failure y.failure;
      steady = λ steady. y.steady (x.steady steady);
      alive = y.alive;
      seats = λ seats. y.seats (x.seats seats);
      silent =
          still_silent (h.telling ≡ false) (k.telling ≡ false) (m.telling ≡ false) x.lost y.lost x.silent y.silent;
      outputs = λ is. of_either (h.halt.fault ≡ Some fault.Output) (k.halt.fault ≡ Some fault.Output) x.lost y.lost (y.outputs is) x.outputs;
      text =
          reported_both (TellsOn flow h k x.deeds) (TellsOn flow k m y.deeds) (TellsOn flow h m (x.deeds ++ y.deeds)) p q r x.lost y.lost
          (λ s t one two. tells_then flow h k m x.deeds y.deeds s t one two) x.text y.text;
    }

-- ## Want of memory

abbrev held : Parts → Parts
held h = faulted fault.OutOfMemory h

held_leads : (flow : Flow) (settings : Settings) (h : Parts) (w : World) → LeadOn flow settings h (held h) [] w []
held_leads flow settings h w =
    λ rules entry s before deeds by at.
    let led = halt_leads rules entry h s w before deeds [] fault.OutOfMemory at (inr (inr refl)) refl refl (λ e. refl) at.home at.ours in
    goes_on_from rules entry (held h) (held h) s w before [] [] deeds [] [] led
    (rests_there rules entry (held h) led.stand (run w []) (before ++ []) (deeds ++ []) led.at)

memory_no_output : ◌≡◌ {A = Option Fault} (Some fault.OutOfMemory) (Some fault.Output) → ⊥
memory_no_output e = cc

memory_no_device : ◌≡◌ {A = Option Fault} (Some fault.OutOfMemory) (Some fault.Device) → ⊥
memory_no_device e = cc

held_fault : (first : Option Fault) (f g : Fault) → first ≡ Some f → Some (or_later first g) ≡ Some f
held_fault None f g is = absurd (none-some f is)
held_fault (Some e) f g is = is

was_output : (first : Option Fault) → Some (or_later first fault.OutOfMemory) ≡ Some fault.Output → first ≡ Some fault.Output
was_output None is = absurd (memory_no_output is)
was_output (Some e) is = is

was_device : (first : Option Fault) → Some (or_later first fault.OutOfMemory) ≡ Some fault.Device → first ≡ Some fault.Device
was_device None is = absurd (memory_no_device is)
was_device (Some e) is = is

held_sound : (h : Halt) → IsSoundHalt h → IsSoundHalt (halted_by fault.OutOfMemory h)
held_sound h sound =
    record {
      some = λ is e. none-some (or_later h.fault fault.OutOfMemory) (sym e);
      device = λ is. or-false h.only_waits ∙ sound.device (was_device h.fault is);
    }

held_steady : (flow : Flow) (settings : Settings) (h : Parts) → IsSteady flow settings h → IsSteady flow settings (held h)
held_steady flow settings h steady = record { room = steady.room; halt = held_sound h.halt steady.halt; lines = steady.lines; silent = λ is e. none-some (or_later h.halt.fault fault.OutOfMemory) (sym e) }

held_tells : (flow : Flow) (h : Parts) → TellsOn flow h (held h) [] []
held_tells flow h =
    λ deeds before told.
    let still = tells_nothing flow h deeds before told in
    record { all = still.all; front = λ silent. let f = still.front silent in (f.0, held_fault h.halt.fault f.0 fault.OutOfMemory f.1, f.2) }

pub goes_held : GoesHeld
goes_held act flow settings h d q alive =
    record {
      deeds = [];
      failure = false;
      lost = false;
      led =
          did_nothing act (λ w es. LeadOn flow settings h (held h) [] w es × (false ≡ true → HasFailedWait es)) d.world
          (λ w. (held_leads flow settings h w, λ e. absurd (true≢false (sym e))));
      given = given_none act d;
      stays = λ quiet some. some;
      cause = record { later = omega arith; rose = λ failure. absurd (true≢false (sym failure)) };
      fails = λ e. absurd (true≢false (sym e));
      waits = refl;
      steady = held_steady flow settings h;
      alive = alive;
      seats = λ seats. seats;
      silent = λ is. or_never (h.telling ≡ false) is;
      outputs = λ is. inl (was_output h.halt.fault is);
      text = reported_nothing (TellsOn flow h (held h) []) q (held_tells flow h);
    }
