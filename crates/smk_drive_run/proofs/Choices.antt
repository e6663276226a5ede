-- The job that is next, by what the code answers.
use Rattle.std.proofs.Common.{◌≡◌, ◌⊎◌, inl, inr, ℕ, Bool, true, false, ◌&&◌, refl, sym, ◌∙◌, Option, Some, None, true≢false}
use Rattle.std.specs.Prelude.{is_none}
use Rattle.std.proofs.lemmas.Option.{none-some}
use Rattle.smk_pick.specs.declared.settings.Settings.{Settings}
use Rattle.smk_plan.specs.declared.wholes.Wholes.{Wholes}
use Rattle.smk_report.specs.declared.fault.Fault.{Fault}
use Rattle.smk_plan_live.specs.Lives.{AreWhole}
use Rattle.smk_drive_pick.specs.Picking.{IsNextIn}
use Rattle.smk_laws_turns.specs.Hubs.{Parts}
use Rattle.smk_laws_begins.specs.Standing.{IsHalted, IsIdle, IsOver, IsStopped, may_go_on}
use Rattle.smk_drive_run.specs.LoopKeeping.{IsNextOf, MayNext}

pub next_by : (h : Parts) (wholes : Wholes) (o : Option ℕ) → AreWhole h.live.base wholes → IsNextIn h.live wholes h.room o → IsNextOf h o
next_by h wholes None whole next = record { wholes = wholes; whole = whole; next = next }
next_by h wholes (Some n) whole next = record { wholes = wholes; whole = whole; next = next }

not_both : (f : Option Fault) (on : Bool) → (is_none f && on) ≡ false → (f ≡ None → ⊥) ⊎ (on ≡ false)
not_both None on test = inr test
not_both (Some f) on test = inl (λ e. none-some f (sym e))

-- where no job begins
pub over_by : (settings : Settings) (h : Parts) (b : Bool) → b ≡ (is_none h.halt.fault && may_go_on settings h) → b ≡ false → IsOver settings h
over_by settings h b is test = at (not_both h.halt.fault (may_go_on settings h) (sym is ∙ test))
  where
    at : (h.halt.fault ≡ None → ⊥) ⊎ (may_go_on settings h ≡ false) → IsOver settings h
    at (inl came) = IsHalted came
    at (inr stopped) = IsStopped stopped

both_so : (f : Option Fault) (on : Bool) → (is_none f && on) ≡ true → (f ≡ None) × (on ≡ true)
both_so None on test = (refl, test)
both_so (Some f) on test = absurd (true≢false (sym test))

-- where jobs begin it may, if there is one
pub may_by :
    (settings : Settings) (h : Parts) (b : Bool) (o : Option ℕ) →
    b ≡ (is_none h.halt.fault && may_go_on settings h) → b ≡ true → IsNextOf h o → MayNext settings h o
may_by settings h b None is test next = IsIdle next
may_by settings h b (Some n) is test next =
    let both = both_so h.halt.fault (may_go_on settings h) (sym is ∙ test) in
    record { unhalted = both.0; goes_on = both.1; picked = next }
