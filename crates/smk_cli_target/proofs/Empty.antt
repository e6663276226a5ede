-- A call whose log is empty meets the clauses, with want of memory.
use Rattle.std.proofs.Common.{◌≡◌, ◌≤◌, ℕ, Bool, true, false, List, [], ◌∷◌, ◌++◌, Option, Some, None, refl, sym, subst, inl, inr, IsTrue, arith, true≢false}
use Rattle.std.specs.Prelude.{nat_le, nat_eq, cond, codes}
use Rattle.std.specs.List.{list_all}
use mathlib.Core.Path.{fun_ext}
use Rattle.smk_base.specs.declared.tree.Amount.{Amount}
use Rattle.smk_world.specs.declared.event.Event.{Event}
use Rattle.smk_world.specs.World.{World, run}
use Rattle.smk_world.specs.Calls.{HasCause}
use Rattle.smk_world.specs.Devices.{Device, Sunk}
use Rattle.smk_world.specs.Trees.{Path, Act, Each}
use Rattle.smk_base.specs.Place.{mark_place}
use Rattle.smk_store.specs.Images.{Image, Content, image_of, seen, source_at}
use Rattle.smk_store.specs.Trust.{Versions, none_eased}
use Rattle.smk_store.specs.Soundness.{Outside, Sound, SoundWorld, EachImage}
use Rattle.smk_laws_history.specs.Histories.{ListsAll, IsListed, KeepsListed}
use Rattle.smk_store.specs.Safety.{SafeThroughout, SourcesOf, KeepsSound, with_sources, or_put, forgotten_so_far}
use Rattle.smk_report.specs.declared.fault.Fault.{Fault}
use Rattle.smk_report.specs.declared.fault.Fault.TheVariants as fault
use Rattle.smk_report.specs.Lines.{joined, target_line, unlocked_line}
use Rattle.smk_drive.specs.Moments.{Rules, Moment, Begun, IsMoment, AtEntry, AtRest, Between, is_closed_badly}
use Rattle.smk_drive.specs.Lawful.{fit_together, running_jobs, is_good_end}
use Rattle.smk_drive.specs.Reports.{NoLines}
use Rattle.smk_drive_course.specs.Moments.{AtEachEvent}
use Rattle.smk_drive_course.specs.Lawful.{Lawful, ClosedWithCause}
use Rattle.smk_drive_course.specs.Keeping.{KeepsOutputs}
use Rattle.smk_drive_course.specs.RunReports.{HasLine}
use Rattle.smk_cli_target.specs.declared.ending.Outcome.{Outcome}
use Rattle.smk_cli_target.specs.Ends.{Stays, IsClean}
use Rattle.smk_cli_target.specs.Clauses.{IsRefusal, RunsWell, EndsEarly, HasUnlocked, HasForgotten, LeavesLittle, IsComplete, HasLog, HasText, Leaves, forgotten_lines}
use Rattle.smk_cli_target.specs.Files as files
use Rattle.smk_cli_target.specs.Generating.{generated_lines}
use Rattle.smk_cli_target.specs.Refusing.{is_met_at_once}

pub no_split : (events : List Event) (e : Event) (rest : List Event) → [] ≡ events ++ e ∷ rest → ⊥
no_split [] e rest h = grind arith
no_split (x ∷ events) e rest h = grind arith

pub no_event : (r : Rules) (w : World) (P : Moment → Event → Type 0) → AtEachEvent r w [] P
no_event r w P events e rest m h is = absurd (no_split events e rest h)

pub no_end : (events : List Event) (e : Event) → events ++ e ∷ [] ≡ [] → ⊥
no_end events e h = no_split events e [] (sym h)

-- at a moment without events nothing has begun
pub none_begun : (r : Rules) (w : World) (events : List Event) (m : Moment) → IsMoment r w events m → events ≡ [] → m.begun ≡ []
none_begun r w events m (AtEntry plan force) h = refl
none_begun r w events m (AtRest before earlier e plan is rest force) h = absurd (no_end before e h)
none_begun r w events m (Between before earlier e is rest) h = absurd (no_end before e h)

pub no_front : (events rest : List Event) → [] ≡ events ++ rest → events ≡ []
no_front [] rest h = refl
no_front (x ∷ events) rest h = absurd (no_split [] x (events ++ rest) h)

zero_le : (n : ℕ) → nat_le 0 n ≡ true
zero_le n = grind arith

all_bounds : (bounds : List Amount) → list_all (λ (b : Amount). nat_le 0 b.count) bounds ≡ true
all_bounds [] = refl
all_bounds (b ∷ bounds) = rw (zero_le b.count, all_bounds bounds) refl

pub room_at_rest : (r : Rules) (m : Moment) → m.begun ≡ [] → IsTrue (fit_together r (running_jobs m))
room_at_rest r m h = rw (h, zero_le r.settings.cores, all_bounds r.settings.bounds) refl

pub closed_none : (r : Rules) (m : Moment) → m.begun ≡ [] → ClosedWithCause r m
closed_none r m h = subst (λ (bs : List Begun). Each (λ (b : Begun). IsTrue (is_closed_badly r m.world b) → is_good_end b.ended ≡ false) bs) (sym h) tt

pub five : {A : Type 0} → 5 ≤ 1 → A
five h = absurd (omega arith)

pub lawful_at_start : (r : Rules) (w : World) → w.children ≡ [] → Lawful r w [] 5
lawful_at_start r w alone =
    record {
      each = no_event r w _;
      within_room = λ events rest m h is. room_at_rest r m (none_begun r w events m is (no_front events rest h));
      nothing_left = λ h. five h;
      nothing_left_at_the_end = λ h. five h;
      all_waited = inl alone;
      closed_with_cause = λ events rest m h is. closed_none r m (none_begun r w events m is (no_front events rest h));
    }

keeps_at_start : (r : Rules) (w : World) → KeepsOutputs r w [] 5
keeps_at_start r w = record { late = no_event r w _; settled = λ h. five h; protected = λ h. five h }

runs_at_start : (r : Rules) (w : World) → w.children ≡ [] → RunsWell r w [] 5
runs_at_start r w alone = record { lawful = lawful_at_start r w alone; unrefused = no_event r w _; keeps = keeps_at_start r w }

pub not_empty : (xs after : List ℕ) → [] ≡ (xs ++ 10 ∷ []) ++ after → ⊥
not_empty [] after h = grind arith
not_empty (x ∷ xs) after h = grind arith

pub no_line : (before xs after : List ℕ) → [] ≡ before ++ ((xs ++ 10 ∷ []) ++ after) → ⊥
no_line [] xs after h = not_empty xs after h
no_line (b ∷ before) xs after h = grind arith

pub no_current : (p : Path) → HasLine [] (target_line true p) → ⊥
no_current p has = no_line has.0 (joined (codes " ") (codes "current" ∷ p ∷ [])) has.1 has.2

source_given : (b : Bool) (f : Option Content) (g : Content) → cond b f None ≡ Some g → (b ≡ true) × (f ≡ Some g)
source_given true f g h = (refl, h)
source_given false f g h = grind arith

put_same :
    (H : Versions) (p : Path) (t : ℕ) (g : Content) (b : Bool) →
    nat_eq g.time t ≡ b → H p g.time ≡ Some g.bytes → cond b (Some g.bytes) (H p t) ≡ H p t
put_same H p t g true e h = let same : g.time ≡ t = grind arith in rw (← same) (sym h)
put_same H p t g false e h = refl

pub over_same :
    (H : Versions) (p : Path) (t : ℕ) (f : Option Content) →
    ((g : Content) → f ≡ Some g → H p g.time ≡ Some g.bytes) → or_put (H p t) t f ≡ H p t
over_same H p t None h = refl
over_same H p t (Some g) h = put_same H p t g (nat_eq g.time t) refl (h g refl)

-- versions for which an image is sound hold its sources already
pub same_versions : (o : Outside) (H : Versions) (i : Image) → Sound o.act H i none_eased → with_sources H i ≡ H
same_versions o H i sound =
    fun_ext (λ p. fun_ext (λ t. over_same H p t (source_at i p) (λ g is. sound.has_sources p g is)))

pub safe_at_start : (o : Outside) (w : World) (paths : List Path) (H : Versions) → SoundWorld o w H → SafeThroughout o w [] paths H
safe_at_start o w paths H sound events rest h = at_events events (no_front events rest h)
  where
    at_start : EachImage o.read w (λ i. Sound o.act (with_sources H i) i none_eased × SourcesOf (seen o.read w) (forgotten_so_far paths []) i)
    at_start nodes leaves = (
      subst (λ K. Sound o.act K (image_of o.read nodes) none_eased) (sym (same_versions o H (image_of o.read nodes) (sound.after_crash nodes leaves))) (sound.after_crash nodes leaves),
      λ p. inl (sound.same_sources nodes leaves p),
    )

    at_events :
        (es : List Event) → es ≡ [] →
        EachImage o.read (run w es) (λ i. Sound o.act (with_sources H i) i none_eased × SourcesOf (seen o.read w) (forgotten_so_far paths es) i)
    at_events [] e = at_start
    at_events (x ∷ es) e = absurd (no_split [] x es (sym e))

pub kept_at_start : (o : Outside) (w : World) (paths : List Path) (to_the_end : Bool) → KeepsSound o w [] paths to_the_end
kept_at_start o w paths to_the_end =
    record {
      safe = λ H differ sound. safe_at_start o w paths H sound;
      sound_at_exit = λ H differ sound is alone. subst (λ K. SoundWorld o w K) (sym (same_versions o H (seen o.read w) sound.now)) sound;
    }

pub listed_at_start : (o : Outside) (w : World) (to_the_end : Bool) → KeepsListed o w [] to_the_end
listed_at_start o w to_the_end =
    record {
      throughout = λ H differ sound listed events rest h. at_events listed events (no_front events rest h);
      at_exit = λ H differ sound listed is alone. listed.now;
    }
  where
    at_events : IsListed o w → (es : List Event) → es ≡ [] → EachImage o.read (run w es) ListsAll
    at_events listed [] e = listed.after_crash
    at_events listed (x ∷ es) e = absurd (no_split [] x es (sym e))

pub stays_same : (w : World) (q : Path) → Stays (w.nodes q) (w.nodes q)
stays_same w q = (refl, λ n h. h)

not_zero : {A : Type 0} → ◌≡◌ {A = ℕ} 5 0 → A
not_zero h = absurd (omega arith)

not_one : {A : Type 0} → ◌≡◌ {A = ℕ} 5 1 → A
not_one h = absurd (omega arith)

not_two : {A : Type 0} → ◌≡◌ {A = ℕ} 5 2 → A
not_two h = absurd (omega arith)

not_three : {A : Type 0} → ◌≡◌ {A = ℕ} 5 3 → A
not_three h = absurd (omega arith)

not_four : {A : Type 0} → ◌≡◌ {A = ℕ} 5 4 → A
not_four h = absurd (omega arith)

-- want of memory
abbrev pub gone : Outcome
gone = record { status = 5; fault = Some fault.OutOfMemory }

not_device : ◌≡◌ {A = Option Fault} (Some fault.OutOfMemory) (Some fault.Device) → ⊥
not_device h = cc

some_same : (f g : Fault) → Some f ≡ Some g → f ≡ g
some_same f g h = cc

not_early : (f : Fault) → fault.OutOfMemory ≡ f → IsTrue (is_met_at_once f) → ⊥
not_early f same early = absurd (true≢false (sym (subst (λ g. is_met_at_once g ≡ true) (sym same) early)))

no_refusal : {A : Type 0} → IsRefusal 5 → A
no_refusal (inl h) = not_two h
no_refusal (inr h) = not_three h

no_cause : (n : ℕ) → HasCause n n false
no_cause n = record { later = omega arith; rose = λ h. absurd (false_true h) }
  where
    false_true : false ≡ true → ⊥
    false_true h = cc

pub leaves_at_start : (a : Device) (p : Sunk) → a.running ≡ [] → Leaves gone a a p p
leaves_at_start a p alone =
    record {
      children = inl alone;
      device = no_cause a.faults;
      output = no_cause p.faults;
      quiet = λ h. refl;
      world_stays = inl (λ h. h);
      out_stays = inl (λ h. h);
    }

module _ (act : Act) (words : List (List ℕ)) (w : World) where
  complete_at_start : IsComplete act words gone w []
  complete_at_start =
      record {
        of_run = λ good asked rules is by clean. inr (inl refl);
        of_listing = λ good asked rules is by clean. inr (inl refl);
        of_unlock = λ is. inr (inl refl);
        of_forgetting = λ paths nolock is. inr (inl refl);
      }

  little_left : LeavesLittle act words 5 w []
  little_left =
      record {
        lock = λ good quiet which takes. refl;
        marks = λ good quiet which asked rules is by p m marked at. inl (stays_same w (mark_place p));
      }

  unlocked_at_start : HasUnlocked 5 w w
  unlocked_at_start = record { only = λ q out above. stays_same w q; unlocked = λ h. not_zero h }

  forgotten_at_start : (paths : List Path) (nolock : Bool) → HasForgotten paths nolock 5 w w
  forgotten_at_start paths nolock =
      record { only = λ q out above. stays_same w q; all = λ h. not_zero h; lock = λ h. not_zero h; front = λ h. not_three h }

  pub log_at_start : (a : Device) (p : Sunk) → HasLog act words gone a a p p w []
  log_at_start a p =
      record {
        quiet = λ h. five h;
        device = λ h. absurd (not_device h);
        unchanged = λ h. (λ q. refl, refl);
        outside = λ h start q out. stays_same w q;
        of_run = λ good asked rules is by. runs_at_start rules w good.sound.no_child;
        crashes = λ good paths to_the_end forgets h. (kept_at_start _ w paths to_the_end, listed_at_start _ w to_the_end);
        refusal =
            record {
              only_at_once = λ f is early. absurd (not_early f (some_same fault.OutOfMemory f is) early);
              only = λ good f is h. no_refusal h;
              always_at_once = λ steady f refuses. inr refl;
              always = λ good steady f refuses. inr refl;
            };
        job_fault = λ f is h. not_one h;
        unlock = λ is. unlocked_at_start;
        forgetting = λ paths nolock is. forgotten_at_start paths nolock;
        generating = λ seed size is. record { untouched = refl; done = λ steady. inr (inl refl) };
        leftovers = little_left;
        complete = λ steady. complete_at_start;
      }

  none_current : (rules : Rules) (ps : List Path) → Each (λ p. HasLine [] (target_line true p) → IsClean act rules w p) ps
  none_current rules [] = tt
  none_current rules (p ∷ ps) = (λ has. absurd (no_current p has), none_current rules ps)

  early_at_start : (rules : Rules) → EndsEarly act rules w [] 5 []
  early_at_start rules =
      record {
        front = inl ([], NoLines, ([], refl));
        clean = none_current rules rules.settings.targets;
        starts = λ h. not_three h;
        lines = λ h. not_four h;
      }

  pub text_at_start : HasText act words gone w [] []
  text_at_start =
      record {
        nothing = λ f refuses. refl;
        of_run = λ good h. five h;
        early = λ good late asked rules is by. early_at_start rules;
        listing = λ asked rules is by. (λ h. not_zero h, λ h. inl refl, λ h. refl);
        unlock = λ is. ((unlocked_line, refl), λ h. not_zero h);
        forgetting = λ paths nolock is. ((forgotten_lines (files.seen w) [] paths, refl), λ h. not_zero h);
        generating = λ seed size is. ((generated_lines seed size, refl), λ h. not_zero h);
      }
