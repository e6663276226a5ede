-- The plan has grown in rounds.
use Rattle.std.proofs.Common.{◌≡◌, ◌≢◌, inl, inr, false, List, [], ◌++◌, refl, sym, ap, subst, ◌∙◌, None, Result, Ok, Err}
use Rattle.std.proofs.lemmas.List.{append-nil, append_assoc}
use Rattle.smk_world.specs.declared.event.Event.{Event}
use Rattle.smk_world.specs.Devices.{Device, HasActed}
use Rattle.smk_world.specs.Trees.{Act}
use Rattle.smk_world.specs.World.{World, run}
use Rattle.smk_world.proofs.Devices.{acted_as, acted_nothing, acted_then}
use Rattle.smk_world.proofs.Runs.{run_append}
use Rattle.smk_flow.specs.Flows.{Flow}
use Rattle.smk_pick.specs.declared.settings.Settings.{Settings}
use Rattle.smk_plan_live.specs.Lives.{IsLive}
use Rattle.smk_report.specs.declared.fault.Fault.{Fault}
use Rattle.smk_report.specs.declared.fault.Fault.TheVariants as fault
use Rattle.smk_plan_preview.specs.Faults.{device_failed}
use Rattle.smk_drive_step.specs.Crews.{halted_by}
use Rattle.smk_laws_turns.specs.Resting.{refused_command}
use Rattle.smk_laws_turns.specs.Hubs.{Parts}
use Rattle.smk_laws_turns.specs.Turning.{faulted}
use Rattle.smk_laws_turns.specs.GrowingRounds.{Grows, HasGrownOn, IsWhole, LacksMemory}
use Rattle.smk_laws_turns.specs.GrownIn.{HasGrownIn}
use Rattle.smk_drive_close.specs.Rounds.{GoesOnFrom, HasCome, HasMoved, IsRoundOn}
use Rattle.smk_drive_close.proofs.Faults.{same_device}
use Rattle.smk_drive_close.proofs.Taken.{moved_not, moved_then}

module _ (act : Act) (flow : Flow) (settings : Settings) (h : Parts) where
  pub come_nowhere : (a : Device) → IsLive h.live → refused_command flow settings h.live ≡ None → HasCome act flow settings h h a a
  come_nowhere a alive commands =
      record {
        acted = acted_nothing act (GoesOnFrom flow settings h h) a (λ w m more next. next);
        alive = alive;
        commands = commands;
        moved = moved_not flow h h refl;
      }

  module _ (k : Parts) (a b : Device) (come : HasCome act flow settings h k a b) where
    -- ## On

    goes_on :
        (m : Parts) (r : Result (Unit {0}) Fault) (u : Unit {0}) → r ≡ Ok u → k.live.plan.known ≢ [] →
        (w : World) (es fs : List Event) → GoesOnFrom flow settings h k w es → IsRoundOn flow settings (run w es) k m r fs → GoesOnFrom flow settings h m w (es ++ fs)
    goes_on m r u is known w es fs before round n more next =
        let now = subst (λ (x : Result (Unit {0}) Fault). IsRoundOn flow settings (run w es) k m x fs) is round in
        subst (HasGrownOn flow settings w h n) (sym (append_assoc es fs more))
        (before n (fs ++ more)
        (Grows (run w es) k m n fs more come.commands known now.0 now.1 (subst (λ v. HasGrownOn flow settings v m n more) (run_append w es fs) next)))

    pub come_further :
        (m : Parts) (r : Result (Unit {0}) Fault) (u : Unit {0}) (c : Device) → r ≡ Ok u → k.live.plan.known ≢ [] →
        HasActed act (λ w es. IsRoundOn flow settings w k m r es) b c (device_failed r) →
        IsLive m.live → refused_command flow settings m.live ≡ None → HasMoved flow k m → HasCome act flow settings h m a c
    come_further m r u c is known round alive commands moved =
        record {
          acted =
              acted_then act (GoesOnFrom flow settings h k) (λ w es. IsRoundOn flow settings w k m r es) (GoesOnFrom flow settings h m) a b c false
              (λ w es fs follows before follows2 now. goes_on m r u is known w es fs before now) come.acted
              (subst (HasActed act (λ w es. IsRoundOn flow settings w k m r es) b c) (ap device_failed is) round);
          alive = alive;
          commands = commands;
          moved = moved_then flow h k m come.moved moved;
        }

    -- ## The end

    pub ends_whole : k.live.plan.known ≡ [] → HasGrownIn act flow settings h k a b
    ends_whole none =
        record {
          failure = false;
          acted =
              acted_as act (GoesOnFrom flow settings h k) (λ w es. HasGrownOn flow settings w h k es) a b false false refl
              (λ w es before. subst (HasGrownOn flow settings w h k) (append-nil es) (before k [] (IsWhole (run w es) k come.commands none))) come.acted;
          alive = come.alive;
          others = come.moved.others ∙ ap (λ x. record h { live = k.live; places = k.places; halt = x }) (sym (ap (λ (x : Parts). x.halt) come.moved.others));
          goings = come.moved.goings;
          asks = come.moved.asks;
          halts = inl (refl, ap (λ (x : Parts). x.halt) come.moved.others);
          lines = come.moved.lines;
        }

    same_halt : (m : Parts) (f : Fault) → HasMoved flow h m → halted_by f m.halt ≡ halted_by f h.halt
    same_halt m f moved = ap (λ (x : Parts). halted_by f x.halt) moved.others

    pub ends_faulted :
        (m : Parts) (r : Result (Unit {0}) Fault) (f : Fault) (c : Device) → r ≡ Err f → f ≢ fault.Output →
        HasActed act (λ w es. IsRoundOn flow settings w k m r es) b c (device_failed r) → IsLive m.live → HasMoved flow k m → HasGrownIn act flow settings h (faulted f m) a c
    ends_faulted m r f c is other round alive later =
        let moved = moved_then flow h k m come.moved later in
        record {
          failure = device_failed r;
          acted =
              acted_then act (GoesOnFrom flow settings h k) (λ w es. IsRoundOn flow settings w k m r es) (λ w es. HasGrownOn flow settings w h (faulted f m) es) a b c (device_failed r)
              (λ w es fs follows before follows2 now.
              before (faulted f m) fs (subst (λ (x : Result (Unit {0}) Fault). IsRoundOn flow settings (run w es) k m x fs) is now)) come.acted round;
          alive = alive;
          others = ap (λ (x : Parts). record x { halt = halted_by f m.halt }) moved.others;
          goings = moved.goings;
          asks = moved.asks;
          halts = inr (f, same_device f ∙ sym (ap device_failed is), other, same_halt m f moved);
          lines = moved.lines;
        }

    pub ends_short : HasGrownIn act flow settings h (faulted fault.OutOfMemory k) a b
    ends_short =
        record {
          failure = false;
          acted =
              acted_as act (GoesOnFrom flow settings h k) (λ w es. HasGrownOn flow settings w h (faulted fault.OutOfMemory k) es) a b false false refl
              (λ w es before.
              subst (HasGrownOn flow settings w h (faulted fault.OutOfMemory k)) (append-nil es)
              (before (faulted fault.OutOfMemory k) [] (LacksMemory (run w es) k [] refl))) come.acted;
          alive = come.alive;
          others = ap (λ (x : Parts). record x { halt = halted_by fault.OutOfMemory k.halt }) come.moved.others;
          goings = come.moved.goings;
          asks = come.moved.asks;
          halts = inr (fault.OutOfMemory, refl, (λ e. other e), same_halt k fault.OutOfMemory come.moved);
          lines = come.moved.lines;
        }
      where
        other : fault.OutOfMemory ≡ fault.Output → ⊥
        other e = cc
