-- No call fails of what was carried out in full.
use Rattle.std.proofs.Common.{◌≡◌, inl, inr, ℕ, false, ◌||◌, List, [], ◌∷◌, ◌++◌, refl, ap, sym, subst, ◌∙◌, Option, Some, None}
use Rattle.std.proofs.lemmas.List.Folds.{list_any-append, list_any_none}
use Rattle.smk_world.specs.declared.event.Event.{Event}
use Rattle.smk_world.specs.declared.event.Call.{Call}
use Rattle.smk_world.specs.declared.recipe.Out.{Out}
use Rattle.smk_world.specs.Calls.{failed}
use Rattle.smk_world.specs.Devices.{AreLooks}
use Rattle.smk_world.specs.World.{World}
use Rattle.smk_world.specs.Requests.{Request, HasDone, AreQuiet}
use Rattle.smk_world.specs.Trees.{Path}
use Rattle.smk_record.specs.declared.record.Stamp.{Stamp}
use Rattle.smk_record.specs.declared.record.Member.{Member}
use Rattle.smk_job.specs.declared.fault.CloseFault.{CloseFault}
use Rattle.smk_job.specs.Sights.{Nodes, AreSeen, IsSeenWrong, AreLookedAt}
use Rattle.smk_run.specs.Digesting.{HasDigested}
use Rattle.smk_run.specs.Stamps.{Serials, IsStamped, AreStamped}
use Rattle.smk_safe.specs.Turning.{has_failure}

abbrev pub IsQuiet : List Event → Type 0
IsQuiet es = has_failure es ≡ false

pub quiet_both : (es fs : List Event) → IsQuiet es → IsQuiet fs → IsQuiet (es ++ fs)
quiet_both es fs h k = list_any-append (λ (e : Event). failed e.call) es fs ∙ ap (λ b. b || has_failure fs) h ∙ k

pub quiet_then : (es first more : List Event) → es ≡ first ++ more → IsQuiet first → IsQuiet more → IsQuiet es
quiet_then es first more e h k = subst IsQuiet (sym e) (quiet_both first more h k)

pub done_quiet : (rs : List Request) (es : List Event) → HasDone rs es → IsQuiet es
done_quiet [] [] h = refl
done_quiet [] (e ∷ es) h = absurd h
done_quiet (r ∷ rs) [] h = absurd h
done_quiet (r ∷ rs) (e ∷ es) h = ap (λ b. b || has_failure es) h.1 ∙ done_quiet rs es h.2

quiet_all : (es : List Event) → AreQuiet es → IsQuiet es
quiet_all es h = list_any_none (λ (e : Event). failed e.call) es h

stamp_quiet : (m : Option ℕ) (p : Path) (s : Stamp) (es : List Event) → IsStamped m p s es → IsQuiet es
stamp_quiet (Some serial) p s es h = subst IsQuiet (sym h.1) refl
stamp_quiet None p s es (e, is, timed) = subst IsQuiet (sym is) (subst (λ (c : Call). (failed c || false) ≡ false) (sym timed.2) refl)

pub stamped_quiet : (made : Serials) (ps : List Path) (ss : List Stamp) (es : List Event) → AreStamped made ps ss es → IsQuiet es
stamped_quiet made [] [] es h = subst IsQuiet (sym h) refl
stamped_quiet made [] (s ∷ ss) es h = absurd h
stamped_quiet made (p ∷ ps) [] es h = absurd h
stamped_quiet made (p ∷ ps) (s ∷ ss) es (first, more, e, one, next) = quiet_then es first more e (stamp_quiet (made p) p s first one) (stamped_quiet made ps ss more next)

-- where none of them failed
pub reads_quiet : (es : List Event) → AreLooks false es → IsQuiet es
reads_quiet [] h = refl
reads_quiet (e ∷ []) h = ap (λ b. b || false) h.1
reads_quiet (e ∷ (f ∷ es)) h = ap (λ b. b || has_failure (f ∷ es)) h.1 ∙ reads_quiet (f ∷ es) h.2

pub digested_quiet : (made : Serials) (ps : List Path) (ss : List Stamp) (w : World) (es : List Event) → HasDigested made ps ss w es → IsQuiet es
digested_quiet made ps ss w es h = quiet_then es h.looks h.reads h.events (stamped_quiet made ps h.seen h.looks h.stamped) (reads_quiet h.reads h.only_read)

pub seen_quiet : (nodes : Nodes) (outs : List Out) (ms : List (List Member)) (es : List Event) → AreSeen nodes outs ms es → IsQuiet es
seen_quiet nodes [] [] es h = subst IsQuiet (sym h) refl
seen_quiet nodes [] (m ∷ ms) es h = absurd h
seen_quiet nodes (out ∷ outs) [] es h = absurd h
seen_quiet nodes (out ∷ outs) (m ∷ ms) es (first, more, e, looked, quiet, kind, next) = quiet_then es first more e (quiet_all first quiet) (seen_quiet nodes outs ms more next)

pub wrong_quiet : (nodes : Nodes) (outs : List Out) (f : CloseFault) (es : List Event) → IsSeenWrong nodes outs f es → IsQuiet es
wrong_quiet nodes [] f es h = absurd h
wrong_quiet nodes (out ∷ outs) f es (first, more, e, looked, quiet, inl last) = quiet_then es first more e (quiet_all first quiet) (subst IsQuiet (sym last.0) refl)
wrong_quiet nodes (out ∷ outs) f es (first, more, e, looked, quiet, inr next) = quiet_then es first more e (quiet_all first quiet) (wrong_quiet nodes outs f more next.2)

pub looked_quiet : (outs : List Out) (es : List Event) → AreLookedAt outs es → IsQuiet es
looked_quiet [] es h = subst IsQuiet (sym h) refl
looked_quiet (out ∷ outs) es (inl none) = subst IsQuiet (sym none) refl
looked_quiet (out ∷ outs) es (inr (first, more, e, looked, quiet, next)) = quiet_then es first more e (quiet_all first quiet) (looked_quiet outs more next)
