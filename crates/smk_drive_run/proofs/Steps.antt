-- Steps of the loop, by what the code answers.
use Rattle.std.proofs.Common.{◌≡◌, ◌⊎◌, inl, inr, ◌≤◌, ◌+◌, Bool, true, false, not, refl, sym, subst, Option, Some, None}
use Rattle.std.specs.Prelude.{is_none}
use Rattle.std.specs.List.{list_all}
use Rattle.std.proofs.lemmas.Option.{none-some}
use Rattle.smk_world.specs.Devices.{Device, Sunk}
use Rattle.smk_world.specs.Trees.{Act}
use Rattle.smk_flow.specs.Flows.{Flow}
use Rattle.smk_pick.specs.declared.settings.Settings.{Settings}
use Rattle.smk_report.specs.declared.fault.Fault.TheVariants as fault
use Rattle.smk_plan_live.specs.Lives.{IsLive}
use Rattle.smk_laws_turns.specs.Hubs.{Parts}
use Rattle.smk_laws_turns.specs.Turning.{faulted}
use Rattle.smk_drive_hub.specs.Turned.{HasTurned, IsBarelyMore}
use Rattle.smk_laws_begins.specs.Gone.{HasGone}
use Rattle.smk_laws_begins.specs.Standing.{IsOver, IsReady, taken}
use Rattle.smk_laws_begins.specs.Stepping.{HasStepped, is_unwaited}
use Rattle.smk_laws_begins.proofs.Going.{goes_further, goes_held, goes_nowhere, goes_once}
use Rattle.smk_laws_begins.proofs.Standing.{ready_on}
use Rattle.smk_laws_begins.proofs.Stepping.{held_is_over, over_step, step_after}
use Rattle.smk_drive_run.specs.LoopKeeping.{HasStayed, KeepsCounts}
use Rattle.smk_drive_run.proofs.Counts.{counts_stay, counts_then, kept_free}

-- ## Between jobs

-- some sink
a_sink : Sunk
a_sink = record { put = None; faults = 0 }

module _ {act : Act} {flow : Flow} {settings : Settings} where
  pub stays_nowhere : {h : Parts} {d : Device} → IsLive h.live → HasStayed act flow settings h h d d
  stays_nowhere {h} {d} live = record { gone = λ q. goes_nowhere act flow settings h d q live; counts = counts_stay h }

  -- outputs were removed
  pub stays_swept :
      {h k : Parts} {a b : Device} →
      ((q : Sunk) → HasTurned act flow settings h k false a b q q) → k.places ≡ h.places → k.tally ≡ h.tally → HasStayed act flow settings h k a b
  stays_swept {h} {k} {a} {b} turned places tally =
      record { gone = λ q. goes_once act flow settings h k false a b q q (turned q); counts = record { places = places; tally = tally } }

  pub stays_then :
      {h k m : Parts} {a b c : Device} → HasStayed act flow settings h k a b → HasStayed act flow settings k m b c → HasStayed act flow settings h m a c
  stays_then {h} {k} {m} {a} {b} {c} first second =
      record {
        gone = λ q. goes_further act flow settings h k m false false a b c q q q (first.gone q) (second.gone q);
        counts = counts_then first.counts second.counts;
      }

-- a turn may come after that as before
pub stays_ready :
    {act : Act} {flow : Flow} {settings : Settings} {h k : Parts} {a b : Device} →
    HasStayed act flow settings h k a b → IsReady flow settings h a → IsReady flow settings k b
stays_ready {act} {flow} {settings} {h} {k} {a} {b} stayed ready = ready_on act flow settings h k false a b a_sink a_sink ready (stayed.gone a_sink)

-- ## Want of memory

-- memory was wanting, or not
abbrev pub IsHeldOr : Parts → Parts → Type 0
IsHeldOr h k = (k ≡ h) ⊎ (k ≡ faulted fault.OutOfMemory h)

pub held_counts : {k : Parts} (h : Parts) → IsHeldOr h k → KeepsCounts h k
held_counts h (inl same) = subst (KeepsCounts h) (sym same) (counts_stay h)
held_counts h (inr held) = subst (KeepsCounts h) (sym held) (record { places = refl; tally = refl })

pub stays_held :
    {act : Act} {flow : Flow} {settings : Settings} {h k : Parts} {d : Device} → IsHeldOr h k → IsLive h.live → HasStayed act flow settings h k d d
stays_held {act} {flow} {settings} {h} {k} {d} (inl same) live = subst (λ x. HasStayed act flow settings h x d d) (sym same) (stays_nowhere live)
stays_held {act} {flow} {settings} {h} {k} {d} (inr held) live =
    subst (λ x. HasStayed act flow settings h x d d) (sym held)
    (record { gone = λ q. goes_held act flow settings h d q live; counts = record { places = refl; tally = refl } })

pub held_ready :
    {flow : Flow} {settings : Settings} {h k : Parts} {d : Device} (act : Act) →
    IsHeldOr h k → IsReady flow settings h d → IsReady flow settings k d
held_ready {flow} {settings} {h} {k} {d} act held ready = stays_ready {act = act} (stays_held held ready.live) ready

pub held_over : {settings : Settings} {k : Parts} (h : Parts) → k ≡ faulted fault.OutOfMemory h → IsOver settings k
held_over {settings} h held = subst (IsOver settings) (sym held) (held_is_over settings h)

-- ## A step after that

module _ {act : Act} {flow : Flow} {settings : Settings} {h k : Parts} {a b : Device} (stayed : HasStayed act flow settings h k a b) where
  -- memory may be wanting
  pub stays_looked : {m : Parts} → IsHeldOr k m → HasStayed act flow settings h m a b
  stays_looked held = stays_then stayed (stays_held held (stayed.gone a_sink).alive)

  -- the loop takes a step
  pub stays_and_steps :
      {m : Parts} {over : Option Bool} {c : Device} {p q : Sunk} → HasStepped act flow settings k m over b c p q → HasStepped act flow settings h m over a c p q
  stays_and_steps {m} {over} {c} {p} {q} stepped =
      step_after act flow settings h k a b p p m c q over (stayed.gone p) stayed.counts.tally stayed.counts.places stepped

  -- or a child is waited for
  pub stays_and_turns :
      {m : Parts} {unwaited : Bool} {c : Device} {p q : Sunk} →
      HasTurned act flow settings k m unwaited b c p q → HasGone act flow settings h m unwaited a c p q
  stays_and_turns {m} {unwaited} {c} {p} {q} turned =
      goes_further act flow settings h k m false unwaited a b c p p q (stayed.gone p) (goes_once act flow settings k m unwaited b c p q turned)

  -- or all is done
  pub stays_and_ends : {p : Sunk} → list_all is_none h.places ≡ true → IsOver settings k → HasStepped act flow settings h k (Some true) a b p p
  stays_and_ends {p} free over = stays_and_steps (over_step act flow settings k b p (stayed.gone p).alive (kept_free stayed.counts free) over)

-- ## What was done before, and a step

-- a step after which the loop goes on, and then removals
pub steps_and_stays :
    {act : Act} {flow : Flow} {settings : Settings} {h k m : Parts} {a b c : Device} {p q : Sunk} →
    HasStepped act flow settings h k None a b p q → HasStayed act flow settings k m b c → HasStepped act flow settings h m None a c p q
steps_and_stays {act} {flow} {settings} {h} {k} {m} {a} {b} {c} {p} {q} stepped stayed =
    record {
      gone = goes_further act flow settings h k m false false a b c p q q stepped.gone (stayed.gone q);
      counts = subst (IsBarelyMore h.tally) (sym stayed.counts.tally) stepped.counts;
      places = λ e. subst (λ ps. taken ps ≤ taken h.places + 1) (sym stayed.counts.places) (stepped.places e);
      through = λ waited e. absurd (none-some waited e);
    }

module _ {act : Act} {flow : Flow} {settings : Settings} {h k m : Parts} {a b c : Device} {p q r : Sunk} where
  -- some turns, and then a step
  pub goes_and_on :
      {over : Option Bool} →
      HasGone act flow settings h k false a b p q → HasStepped act flow settings k m over b c q r → over ≡ None → HasGone act flow settings h m false a c p r
  goes_and_on gone stepped is =
      goes_further act flow settings h k m false false a b c p q r gone
      (subst (λ o. HasGone act flow settings k m (is_unwaited o) b c q r) is stepped.gone)

  pub goes_and_ends :
      {over : Option Bool} {waited : Bool} →
      HasGone act flow settings h k false a b p q → HasStepped act flow settings k m over b c q r → over ≡ Some waited →
      HasGone act flow settings h m (not waited) a c p r
  goes_and_ends {over} {waited} gone stepped is =
      goes_further act flow settings h k m false (not waited) a b c p q r gone
      (subst (λ o. HasGone act flow settings k m (is_unwaited o) b c q r) is stepped.gone)

  -- and then children were waited for, or not
  pub goes_and_waits :
      {waited said : Bool} →
      HasGone act flow settings h k false a b p q → HasGone act flow settings k m (not waited) b c q r → waited ≡ said →
      HasGone act flow settings h m (not said) a c p r
  goes_and_waits {waited} {said} gone more is =
      goes_further act flow settings h k m false (not said) a b c p q r gone (subst (λ w. HasGone act flow settings k m (not w) b c q r) is more)
