-- A call that is refused at once, and does nothing: it meets every clause on its log and its text, if just this is what it meets.
use Rattle.std.proofs.Common.{◌≡◌, ◌⊎◌, ◌≤◌, ℕ, Bool, true, List, [], ◌∷◌, filter, Some, refl, sym, subst, inl, inr, IsTrue, arith}
use Rattle.smk_base.specs.Place.{mark_place}
use Rattle.smk_world.specs.World.{World}
use Rattle.smk_world.specs.Devices.{Device, Sunk}
use Rattle.smk_world.specs.Trees.{Path, Act, Each}
use Rattle.smk_pattern.specs.Shapes.{Text}
use Rattle.smk_report.specs.declared.fault.Fault.{Fault}
use Rattle.smk_report.specs.declared.fault.Fault.TheVariants as fault
use Rattle.smk_report.specs.Lines.{target_line}
use Rattle.smk_drive.specs.Moments.{Rules, Begun}
use Rattle.smk_drive.specs.Reports.{NoLines, start_line_of}
use Rattle.smk_drive_course.specs.Lawful.{Lawful}
use Rattle.smk_drive_course.specs.Moments.{was_started}
use Rattle.smk_drive_course.specs.RunReports.{HasLine, HasStarts}
use Rattle.smk_words_reading.specs.declared.asked.Asked.TheVariants.{Preview, Unlock, Forget, Generate}
use Rattle.smk_cli_target.specs.declared.ending.Outcome.{Outcome}
use Rattle.smk_words_reading.specs.declared.asked.RunWords.{RunWords}
use Rattle.smk_words_reading.specs.Asks.{IsAsked}
use Rattle.smk_cli_target.specs.Ends.{IsClean}
use Rattle.smk_cli_target.specs.Refusing.{RefusesAtOnce, Refuses, AtOnce, is_met_at_once}
use Rattle.smk_cli_target.specs.Clauses.{HasLog, HasText, RunsWell, EndsEarly, TellsRefusal, IsComplete}
use Rattle.smk_cli_target.proofs.Empty.{no_event, none_begun, no_front, room_at_rest, closed_none, no_current, kept_at_start, listed_at_start, stays_same}

some_same : (f g : Fault) → Some f ≡ Some g → f ≡ g
some_same f g h = cc

-- the statuses of refusals
pub data IsLow : ℕ → Type 0 where
  Two : IsLow 2
  Three : IsLow 3

above : {A : Type 0} (n : ℕ) → IsLow n → n ≤ 1 → A
above n Two h = absurd (omega arith)
above n Three h = absurd (omega arith)

no_zero : {A : Type 0} (n : ℕ) → IsLow n → n ≡ 0 → A
no_zero n Two h = absurd (omega arith)
no_zero n Three h = absurd (omega arith)

no_one : {A : Type 0} (n : ℕ) → IsLow n → n ≡ 1 → A
no_one n Two h = absurd (omega arith)
no_one n Three h = absurd (omega arith)

no_four : {A : Type 0} (n : ℕ) → IsLow n → n ≡ 4 → A
no_four n Two h = absurd (omega arith)
no_four n Three h = absurd (omega arith)

no_five : {A : Type 0} (n : ℕ) → IsLow n → (n ≡ 5) ⊎ (n ≡ 6) → A
no_five n Two (inl h) = absurd (omega arith)
no_five n Two (inr h) = absurd (omega arith)
no_five n Three (inl h) = absurd (omega arith)
no_five n Three (inr h) = absurd (omega arith)

-- ## Runs that do nothing

lawful_so : (r : Rules) (w : World) (n : ℕ) → IsLow n → w.children ≡ [] → Lawful r w [] n
lawful_so r w n low alone =
    record {
      each = no_event r w _;
      within_room = λ events rest m h is. room_at_rest r m (none_begun r w events m is (no_front events rest h));
      nothing_left = λ h. above n low h;
      nothing_left_at_the_end = λ h. above n low h;
      all_waited = inl alone;
      closed_with_cause = λ events rest m h is. closed_none r m (none_begun r w events m is (no_front events rest h));
    }

runs_so : (r : Rules) (w : World) (n : ℕ) → IsLow n → w.children ≡ [] → RunsWell r w [] n
runs_so r w n low alone =
    record {
      lawful = lawful_so r w n low alone;
      unrefused = no_event r w _;
      keeps = record { late = no_event r w _; settled = λ h. above n low h; protected = λ h. above n low h };
    }

none_current : (act : Act) (r : Rules) (w : World) (ps : List Path) → Each (λ p. HasLine [] (target_line true p) → IsClean act r w p) ps
none_current act r w [] = tt
none_current act r w (p ∷ ps) = (λ has. absurd (no_current p has), none_current act r w ps)

no_starts : (r : Rules) (w : World) → HasStarts r w [] []
no_starts r w m is = subst (λ (bs : List Begun). Each (λ b. HasLine [] (start_line_of r b)) (filter (was_started m.events) bs)) (sym (none_begun r w [] m is refl)) tt

early_so : (act : Act) (r : Rules) (w : World) (n : ℕ) → IsLow n → EndsEarly act r w [] n []
early_so act r w n low =
    record {
      front = inl ([], NoLines, ([], refl));
      clean = none_current act r w r.settings.targets;
      starts = λ h. no_starts r w;
      lines = λ h. no_four n low h;
    }

-- ## The call

module _ (act : Act) (words : List Text) (w : World) (f : Fault) (status : ℕ) where
  abbrev pub refused : Outcome
  refused = record { status = status; fault = Some f }

  -- What is said of the call: it is refused so at once and in no other way; and the fault is named where a clean run might be asked for.
  pub record IsRefusedSo : Type 0 where
    pub low : IsLow status
    pub no_device : Some f ≡ Some fault.Device → ⊥
    pub met : RefusesAtOnce words w f
    pub early : IsTrue (is_met_at_once f)
    pub one_at_once : (g : Fault) → RefusesAtOnce words w g → g ≡ f
    pub one : (g : Fault) → Refuses words w [] g → g ≡ f
    pub no_unlock : ¬ IsAsked words Unlock
    pub no_forgetting : (paths : List Path) (nolock : Bool) → ¬ IsAsked words (Forget paths nolock)
    pub no_generate : (seed size : ℕ) → ¬ IsAsked words (Generate seed size)
    pub no_listing : (v : RunWords) → ¬ IsAsked words (Preview v)
    pub complete : IsComplete act words refused w []

  module _ (so : IsRefusedSo) where
    tells : (g : Fault) → g ≡ f → TellsRefusal refused g
    tells g e = inl (f, refl, inl e)

    pub log_so : (a : Device) (p : Sunk) → HasLog act words refused a a p p w []
    log_so a p =
        record {
          quiet = λ h. above status so.low h;
          device = λ h. absurd (so.no_device h);
          unchanged = λ h. (λ q. refl, refl);
          outside = λ h start q out. stays_same w q;
          of_run = λ good v r is by. runs_so r w status so.low good.sound.no_child;
          crashes = λ good paths to_the_end forgets h. (kept_at_start _ w paths to_the_end, listed_at_start _ w to_the_end);
          refusal =
              record {
                only_at_once = λ g is early. subst (RefusesAtOnce words w) (some_same f g is) so.met;
                only = λ good g is h. AtOnce g (subst (RefusesAtOnce words w) (some_same f g is) so.met);
                always_at_once = λ steady g r. tells g (so.one_at_once g r);
                always = λ good steady g r. tells g (so.one g r);
              };
          job_fault = λ g is h. no_one status so.low h;
          unlock = λ is. absurd (so.no_unlock is);
          forgetting = λ paths nolock is. absurd (so.no_forgetting paths nolock is);
          generating = λ seed size is. absurd (so.no_generate seed size is);
          leftovers =
              record {
                lock = λ good quiet which takes. refl;
                marks = λ good quiet which v r is by p m marked at. inl (stays_same w (mark_place p));
              };
          complete = λ steady. so.complete;
        }

    pub text_so : HasText act words refused w [] []
    text_so =
        record {
          nothing = λ g r. refl;
          of_run = λ good h. above status so.low h;
          early = λ good late v r is by. early_so act r w status so.low;
          listing = λ v r is by. absurd (so.no_listing v is);
          unlock = λ is. absurd (so.no_unlock is);
          forgetting = λ paths nolock is. absurd (so.no_forgetting paths nolock is);
          generating = λ seed size is. absurd (so.no_generate seed size is);
        }

    -- and whatever is put is refused
    pub puts_nothing : (text : Text) → HasText act words refused w [] text → text ≡ []
    puts_nothing text t = t.nothing f so.met
