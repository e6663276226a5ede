-- What is served.
use Rattle.std.proofs.Common.{◌≡◌, ◌⊎◌, inl, inr, Bool, true, false, List, [], ℕ, refl, sym, subst, Option, Some, Result, Ok, Err, true≢false}
use Rattle.smk_world.specs.World.{World}
use Rattle.smk_world.specs.Devices.{Device, Sunk, WhereTold, HasLooked}
use Rattle.smk_world.specs.Trees.{Act}
use Rattle.smk_world.proofs.Devices.{looked_nothing, looked_as}
use Rattle.smk_record.specs.declared.record.Record.{Record}
use Rattle.smk_report.specs.declared.fault.Fault.{Fault}
use Rattle.smk_words_reading.specs.declared.asked.Asked.{Asked as Request}
use Rattle.smk_words_reading.specs.declared.asked.Asked.TheVariants.{Run, Preview, Unlock, Forget, Generate}
use Rattle.smk_words_reading.specs.declared.asked.RunWords.{RunWords}
use Rattle.smk_store.specs.Images.{seen}
use Rattle.smk_plan.specs.States.{nothing_done}
use Rattle.smk_drive.specs.Refusals.{ChainRefuses}
use Rattle.smk_cli_entry.specs.declared.asking.Asked.{Asked}
use Rattle.smk_cli_entry.specs.Entry.{IsAskedIn, FailsToAsk}
use Rattle.smk_cli_entry.specs.Faults.{is_device, is_sink, is_told}
use Rattle.smk_plan_preview.specs.declared.previewing.Previewed.{Previewed}
use Rattle.smk_plan_preview.specs.Previewing.{rules_for, IsPreviewed}
use Rattle.smk_cli_calls.specs.Serving.{HasOnlyLooked, IsWant, IsRefusedPlan, IsServed, IsThat, settings_of, Went, Refused, Stopped, Worked, Drove}
use Rattle.smk_cli_calls.specs.Serving as serving
use Rattle.smk_cli_calls.proofs.Went.{only_looked, refused_or_stopped, went_later}
use Rattle.smk_cli_calls.specs.Words.{is_to_make}
use Rattle.smk_cli_calls.specs.Locking.{HasHeeded}
use Rattle.smk_cli_calls.specs.Whole.{AsksFor, Serves, HasRun, Unheeded, Unasked, Heeded, IsRefusal, OfPlan, OfWorkflow, IsToServe}
use Rattle.smk_cli.proofs.Locking.{after_looks, heeded_wider}
use Rattle.smk_plan_preview.proofs.LookedAt.{IsSameFolder, kept, seen_moved}

-- before anything was looked at memory was wanting
pub stopped : (act : Act) (read : List ℕ → Option Record) (w : World) (f : Fault) (request : Request) (a : Device) (p : Sunk) → is_to_make request ≡ true → IsWant f → is_device f ≡ false → Serves act read w (Err f) a a p p request
stopped act read w f (Run words) a p makes want quiet = go words.nolock refl
  where
    looked : HasOnlyLooked act a a (is_device f) p p
    looked = only_looked p (looked_as (sym quiet) (looked_nothing act a))

    go : (b : Bool) → words.nolock ≡ b → HasRun act read words w (Err f) a a p p
    go true e = Unheeded e (Stopped f refl want looked)
    go false e = Unasked f e refl (inl want) looked
stopped act read w f (Preview words) a p makes want quiet = (looked_as (sym quiet) (looked_nothing act a), serving.Stopped f want refl)
stopped act read w f Unlock a p makes want quiet = absurd (true≢false (sym makes))
stopped act read w f (Forget paths nolock) a p makes want quiet = absurd (true≢false (sym makes))
stopped act read w f (Generate seed size) a p makes want quiet = absurd (true≢false (sym makes))

-- after looks a plan is that of the folder as it was
pub plan_refused : (read : List ℕ → Option Record) (words : RunWords) (w v : World) (asked : Asked) (f : Fault) → IsSameFolder w v → IsAskedIn words w.nodes (Ok asked) → IsRefusedPlan read asked words v f
    → IsRefusal read words w w f
plan_refused read words w v asked f same is_asked refused =
    OfPlan asked is_asked (subst (λ i. ChainRefuses (rules_for read asked.flow (settings_of asked words)) i nothing_done [] f) (seen_moved read w v same) refused)

pub plan_served : (read : List ℕ → Option Record) (words : RunWords) (w v : World) (asked served : Asked) (told : Previewed) → IsSameFolder w v → IsAskedIn words w.nodes (Ok asked) → IsServed read asked words v served told
    → IsToServe read words w w served told
plan_served read words w v asked served told same is_asked h = record {
  is_asked = subst (λ x. IsAskedIn words w.nodes (Ok x)) (sym h.0) is_asked;
  plan = subst (λ x. IsPreviewed read x.flow (settings_of x words) (seen read w) told) (sym h.0)
      (subst (λ i. IsPreviewed read asked.flow (settings_of asked words) i told) (seen_moved read w v same) h.1);
}

-- ## Runs

-- a run that ended before it was known what is asked
pub unasked_run : (act : Act) (read : List ℕ → Option Record) (words : RunWords) (w : World) (f : Fault) (old new : Device) (p q : Sunk) → is_sink f ≡ false →
    (is_told f ≡ true → FailsToAsk words w.nodes f)
    → HasOnlyLooked act old new (is_device f) p q → HasRun act read words w (Err f) old new p q
unasked_run act read words w f old new p q unsunk why looked = go words.nolock refl
  where
    same_fault : (g : Fault) → ◌≡◌ {A = Result (Unit {0}) Fault} (Err f) (Err g) → g ≡ f
    same_fault g e = cc

    kind :
        Went act words (Err f) (FailsToAsk words w.nodes) (λ asked. ⊥) (λ asked told. ⊥) old new p q → IsWant f ⊎ FailsToAsk words w.nodes f
    kind (Refused g is fails k) = inr (subst (FailsToAsk words w.nodes) (same_fault g is) fails)
    kind (Stopped g is want k) = inl (subst IsWant (same_fault g is) want)
    kind (Worked asked told one none k) = absurd none
    kind (Drove asked apart none k) = absurd none

    go : (b : Bool) → words.nolock ≡ b → HasRun act read words w (Err f) old new p q
    go true e =
        Unheeded e
        (refused_or_stopped act words (IsRefusal read words w w) (AsksFor words w) (IsToServe read words w w) f old new p q unsunk
        (λ told. OfWorkflow (why told)) looked)
    go false e = Unasked f e refl (kind
        (refused_or_stopped act words (FailsToAsk words w.nodes) (λ asked. ⊥) (λ asked told. ⊥) f old new p q unsunk why looked)) looked

-- a run of what is asked, under the lock or not
pub run_of :
    (act : Act) (read : List ℕ → Option Record) (words : RunWords) (w : World) (asked : Asked) (answer : Result (Unit {0}) Fault) (old mid new : Device)
    (p q : Sunk) → HasLooked act old mid false → old.world ≡ Some w →
    IsAskedIn words w.nodes (Ok asked) →
    (words.nolock ≡ true → WhereTold mid (λ v. Went act words answer (IsRefusedPlan read asked words v) (IsThat asked) (IsServed read asked words v) mid new p q)) →
    (words.nolock ≡ false → WhereTold mid (λ v. HasHeeded act words answer (IsRefusedPlan read asked words) (IsThat asked) (IsServed read asked words) v mid new p q)) →
    HasRun act read words w answer old new p q
run_of act read words w asked answer old mid new p q looked at is_asked unheeded heeded = go words.nolock refl
  where
    locked_served : (u : World) (served : Asked) (told : Previewed) → IsServed read asked words u served told → IsToServe read words w u served told
    locked_served u served told h = record {
      is_asked = subst (λ x. IsAskedIn words w.nodes (Ok x)) (sym h.0) is_asked;
      plan = subst (λ x. IsPreviewed read x.flow (settings_of x words) (seen read u) told) (sym h.0) h.1;
    }

    asks_for : (served : Asked) → IsThat asked served → AsksFor words w served
    asks_for served same = subst (AsksFor words w) (sym same) is_asked

    go : (b : Bool) → words.nolock ≡ b → HasRun act read words w answer old new p q
    go true e =
        let v = kept w looked at in
        Unheeded e
        (went_later act words answer (IsRefusal read words w w) (IsRefusedPlan read asked words v.0) (AsksFor words w) (IsThat asked)
        (IsToServe read words w w) (IsServed read asked words v.0) old mid new p q looked
        (λ f refused. plan_refused read words w v.0 asked f v.2 is_asked refused) asks_for
        (λ served told h. plan_served read words w v.0 asked served told v.2 is_asked h)
        (unheeded e v.0 v.1))
    go false e =
        let v = after_looks w looked at in
        Heeded v.0 mid e v.2 v.1 looked
        (heeded_wider act words answer (IsRefusal read words w) (IsRefusedPlan read asked words) (AsksFor words w) (IsThat asked)
        (IsToServe read words w) (IsServed read asked words) v.0 mid new p q
        (λ u f refused. OfPlan asked is_asked refused) asks_for (λ u served told h. locked_served u served told h) (heeded e v.0 v.1))
