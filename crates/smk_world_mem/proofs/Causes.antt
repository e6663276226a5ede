-- Each fault has a cause in the setup.
use Rattle.std.proofs.Common.{◌≡◌, ◌<◌, ◌≤◌, ◌+◌, ℕ, suc, Bool, true, false, List, [], ◌∷◌, ◌++◌, refl, ap, sym, subst, ◌∙◌, Option, arith, min}
use Rattle.std.specs.Prelude.{if◌then◌else◌}
use Rattle.smk_world.specs.declared.event.Call.{Call}
use Rattle.smk_world.specs.declared.event.Event.{Event}
use Rattle.smk_world.specs.World.{World}
use Rattle.smk_world_nodes.specs.Steps.{replay, empty_world}
use Rattle.smk_world_nodes.specs.declared.nodes.Nodes.{Nodes}
use Rattle.smk_world_nodes.specs.declared.step.Step.{Step}
use Rattle.smk_world_nodes.specs.declared.step.Step.TheVariants as step
use Rattle.smk_world.specs.declared.event.Node.{Node}
use Rattle.smk_world_nodes.proofs.Replay.{replay_push}
use Rattle.smk_world_mem.specs.Adds.{Adds, AddsIf}
use Rattle.smk_world_mem.specs.Setup.{fails_at, failing_calls, killed_end, killed_ends, Caused, HasCauses}
use Rattle.smk_world_mem.proofs.Mem.{world_is, world_is_if}

killed_more : (killed : List ℕ) (es : List Event) (e : Event) → killed_ends killed (es ++ e ∷ []) ≡ killed_ends killed es + killed_end killed e.call
killed_more killed [] e = omega arith
killed_more killed (d ∷ es) e = omega (arith, killed_more killed es e)

pub ends_after : (call : Call) (old new : Nodes) (steps more : List Step) (adds : Adds call old new steps more) (killed : List ℕ)
    → killed_ends killed (replay empty_world more).log ≡ killed_ends killed (replay empty_world steps).log + killed_end killed call
ends_after call old new steps more adds killed =
    ap (λ w. killed_ends killed w.log) (world_is call old new steps more adds) ∙ killed_more killed (replay empty_world steps).log (record { call = call; left = adds.left })

pub ends_after_if : (P : World → Type 0) (call : Call) (old new : Nodes) (steps more : List Step) (adds : AddsIf P call old new steps more) (killed : List ℕ)
    → killed_ends killed (replay empty_world more).log ≡ killed_ends killed (replay empty_world steps).log + killed_end killed call
ends_after_if P call old new steps more adds killed =
    ap (λ w. killed_ends killed w.log) (world_is_if P call old new steps more adds) ∙ killed_more killed (replay empty_world steps).log (record { call = call; left = adds.left })

-- one call more
counted_more : (failing : List ℕ) (stop_after : Option ℕ) (calls calls1 faults faults1 ends ends1 : ℕ)
    → calls1 ≡ suc calls → faults ≤ failing_calls failing stop_after calls + ends
    → faults1 + ends ≤ faults + (if fails_at failing stop_after calls1 then 1 else 0) + ends1
    → faults1 ≤ failing_calls failing stop_after calls1 + ends1
counted_more failing stop_after calls calls1 faults faults1 ends ends1 is before gained =
    subst (λ n. faults1 ≤ failing_calls failing stop_after n + ends1) (sym is)
    (let gained_there : faults1 + ends ≤ faults + (if fails_at failing stop_after (suc calls) then 1 else 0) + ends1 = subst (λ n. faults1 + ends ≤ faults + (if fails_at failing stop_after n then 1 else 0) + ends1) is gained in
    plain faults faults1 (failing_calls failing stop_after calls) (if fails_at failing stop_after (suc calls) then 1 else 0) ends ends1 before gained_there)
  where
    plain : (f f1 d x e e1 : ℕ) → f ≤ d + e → f1 + e ≤ f + x + e1 → f1 ≤ d + x + e1
    plain f f1 d x e e1 b g = omega arith

-- a call of its number, which fails where it is to fail
pub caused_call : (told : Bool) (failing : List ℕ) (stop_after : Option ℕ) (killed : List ℕ) (calls calls1 faults faults1 next next1 : ℕ) (steps more : List Step)
    → Caused told failing stop_after killed calls faults next steps
    → calls1 ≡ min (calls + 1) 18446744073709551615 → next1 ≤ next + 1
    → (told ≡ true → calls1 < 18446744073709551615 → next ≤ calls + 1 → faults1 + killed_ends killed (replay empty_world steps).log ≤ faults + (if fails_at failing stop_after calls1 then 1 else 0) + killed_ends killed (replay empty_world more).log)
    → Caused told failing stop_after killed calls1 faults1 next1 more
caused_call told failing stop_after killed calls calls1 faults faults1 next next1 steps more caused called numbered gained = λ told_is counts.
    let before = caused told_is (omega arith) in
    let is : calls1 ≡ suc calls = omega arith in record {
      counted = counted_more failing stop_after calls calls1 faults faults1 (killed_ends killed (replay empty_world steps).log) (killed_ends killed (replay empty_world more).log) is before.counted (gained told_is counts before.numbered);
      numbered = let before_numbered : next ≤ calls + 1 = before.numbered in omega arith;
    }

gained_by : (fails fails_there : Bool) (faults faults1 ends ends1 : ℕ) → fails ≡ fails_there → faults1 ≤ faults + (if fails then 1 else 0) → ends1 ≡ ends + 0 → faults1 + ends ≤ faults + (if fails_there then 1 else 0) + ends1
gained_by fails fails_there faults faults1 ends ends1 same bound kept =
    let there : faults1 ≤ faults + (if fails_there then 1 else 0) = subst (λ b. faults1 ≤ faults + (if b then 1 else 0)) same bound in
    plain faults faults1 (if fails_there then 1 else 0) ends ends1 there kept
  where
    plain : (f f1 x e e1 : ℕ) → f1 ≤ f + x → e1 ≡ e + 0 → f1 + e ≤ f + x + e1
    plain f f1 x e e1 b k = omega arith

-- a call on files
pub caused_files : (told fails : Bool) (failing : List ℕ) (stop_after : Option ℕ) (killed : List ℕ) (calls calls1 faults faults1 next : ℕ) (call : Call) (old new : Nodes) (steps more : List Step) (adds : Adds call old new steps more)
    → Caused told failing stop_after killed calls faults next steps
    → calls1 ≡ min (calls + 1) 18446744073709551615 → fails ≡ fails_at failing stop_after calls1 → faults1 ≤ faults + (if fails then 1 else 0) → ((ks : List ℕ) → killed_end ks call ≡ 0)
    → Caused told failing stop_after killed calls1 faults1 next more
caused_files told fails failing stop_after killed calls calls1 faults faults1 next call old new steps more adds caused called fails_is bound kills =
    caused_call told failing stop_after killed calls calls1 faults faults1 next next steps more caused called (omega arith)
    (λ told_is counts numbered. gained_by fails (fails_at failing stop_after calls1) faults faults1 (killed_ends killed (replay empty_world steps).log) (killed_ends killed (replay empty_world more).log) fails_is bound
    (ends_after call old new steps more adds killed ∙ ap (λ n. killed_ends killed (replay empty_world steps).log + n) (kills killed)))

-- the start of a child, and a start or a wait that fails
pub caused_crew : (P : World → Type 0) (told failed : Bool) (failing : List ℕ) (stop_after : Option ℕ) (killed : List ℕ) (calls calls1 faults faults1 next next1 : ℕ) (call : Call) (old new : Nodes) (steps more : List Step) (adds : AddsIf P call old new steps more)
    → Caused told failing stop_after killed calls faults next steps
    → calls1 ≡ min (calls + 1) 18446744073709551615 → next1 ≤ next + 1 → faults1 ≤ faults + (if failed then 1 else 0) → ((ks : List ℕ) → killed_end ks call ≡ 0)
    → (told ≡ true → failed ≡ true → calls1 < 18446744073709551615 → next ≤ calls + 1 → fails_at failing stop_after calls1 ≡ true)
    → Caused told failing stop_after killed calls1 faults1 next1 more
caused_crew P told failed failing stop_after killed calls calls1 faults faults1 next next1 call old new steps more adds caused called numbered bound kills because =
    caused_call told failing stop_after killed calls calls1 faults faults1 next next1 steps more caused called numbered
    (λ told_is counts below. go failed bound (λ e. because told_is e counts below)
    (ends_after_if P call old new steps more adds killed ∙ ap (λ n. killed_ends killed (replay empty_world steps).log + n) (kills killed)))
  where
    plain : (f f1 x e e1 : ℕ) → f1 ≤ f + 0 → e1 ≡ e + 0 → f1 + e ≤ f + x + e1
    plain f f1 x e e1 b k = omega arith

    risen : (f f1 e e1 : ℕ) → f1 ≤ f + 1 → e1 ≡ e + 0 → f1 + e ≤ f + 1 + e1
    risen f f1 e e1 b k = omega arith

    go : (b : Bool) → faults1 ≤ faults + (if b then 1 else 0) → (b ≡ true → fails_at failing stop_after calls1 ≡ true) → killed_ends killed (replay empty_world more).log ≡ killed_ends killed (replay empty_world steps).log + 0
        → faults1 + killed_ends killed (replay empty_world steps).log ≤ faults + (if fails_at failing stop_after calls1 then 1 else 0) + killed_ends killed (replay empty_world more).log
    go true bnd why kept = subst (λ v. faults1 + killed_ends killed (replay empty_world steps).log ≤ faults + (if v then 1 else 0) + killed_ends killed (replay empty_world more).log) (sym (why refl)) (risen faults faults1 (killed_ends killed (replay empty_world steps).log) (killed_ends killed (replay empty_world more).log) bnd kept)
    go false bnd why kept = plain faults faults1 (if fails_at failing stop_after calls1 then 1 else 0) (killed_ends killed (replay empty_world steps).log) (killed_ends killed (replay empty_world more).log) bnd kept

-- the end of a child, killed or not
pub caused_end : (P : World → Type 0) (told kills : Bool) (failing : List ℕ) (stop_after : Option ℕ) (killed : List ℕ) (calls calls1 faults faults1 next : ℕ) (call : Call) (old new : Nodes) (steps more : List Step) (adds : AddsIf P call old new steps more)
    → Caused told failing stop_after killed calls faults next steps
    → calls1 ≡ min (calls + 1) 18446744073709551615 → faults1 ≤ faults + (if kills then 1 else 0) → killed_end killed call ≡ (if kills then 1 else 0)
    → Caused told failing stop_after killed calls1 faults1 next more
caused_end P told kills failing stop_after killed calls calls1 faults faults1 next call old new steps more adds caused called bound is =
    caused_call told failing stop_after killed calls calls1 faults faults1 next next steps more caused called (omega arith)
    (λ told_is counts below. plain faults faults1 (if kills then 1 else 0) (if fails_at failing stop_after calls1 then 1 else 0) (killed_ends killed (replay empty_world steps).log) (killed_ends killed (replay empty_world more).log) bound
    (ends_after_if P call old new steps more adds killed ∙ ap (λ n. killed_ends killed (replay empty_world steps).log + n) is))
  where
    plain : (f f1 x y e e1 : ℕ) → f1 ≤ f + x → e1 ≡ e + x → f1 + e ≤ f + y + e1
    plain f f1 x y e e1 b k = omega arith

-- a step that is no call
pub caused_step : (told : Bool) (failing : List ℕ) (stop_after : Option ℕ) (killed : List ℕ) (calls faults next : ℕ) (steps more : List Step) → Caused told failing stop_after killed calls faults next steps
    → (replay empty_world more).log ≡ (replay empty_world steps).log → Caused told failing stop_after killed calls faults next more
caused_step told failing stop_after killed calls faults next steps more caused same = λ told_is counts. subst (HasCauses failing stop_after killed calls faults next) (sym same) (caused told_is counts)

pub log_put : (steps more : List Step) (p : List ℕ) (n : Node) → more ≡ steps ++ step.Put p n ∷ [] → (replay empty_world more).log ≡ (replay empty_world steps).log
log_put steps more p n is = ap (λ w. w.log) (ap (replay empty_world) is ∙ replay_push empty_world steps (step.Put p n))

pub log_gone : (steps more : List Step) (p : List ℕ) → more ≡ steps ++ step.Gone p ∷ [] → (replay empty_world more).log ≡ (replay empty_world steps).log
log_gone steps more p is = ap (λ w. w.log) (ap (replay empty_world) is ∙ replay_push empty_world steps (step.Gone p))
