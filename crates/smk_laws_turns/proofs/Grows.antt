-- A plan grows in rounds: what is kept stands so still, and the run goes by what has come.
use Rattle.std.proofs.Common.{◌≡◌, ◌≢◌, inl, inr, ℕ, Bool, true, false, ◌||◌, List, [], ◌∷◌, ◌++◌, refl, sym, ap, subst, ◌∙◌, Option, None, true≢false}
use Rattle.std.proofs.Math.Bool.{or-false}
use Rattle.smk_world.specs.declared.event.Event.{Event}
use Rattle.smk_world.specs.Devices.{AreLooks}
use Rattle.smk_world.specs.Runs.{Follows}
use Rattle.smk_world.specs.Trees.{Act}
use Rattle.smk_world.specs.World.{World, after, run}
use Rattle.smk_world.proofs.Devices.{looks_append}
use Rattle.smk_flow.specs.Flows.{Flow}
use Rattle.smk_record.specs.declared.record.Record.{Record}
use Rattle.smk_record.specs.Spelling.{ReadsRecords}
use Rattle.smk_pick.specs.declared.settings.Settings.{Settings}
use Rattle.smk_report.specs.declared.fault.Fault.{Fault}
use Rattle.smk_report.specs.declared.fault.Fault.TheVariants as fault
use Rattle.smk_drive.specs.Moments.{Rules}
use Rattle.smk_drive_step.specs.declared.halt.Halt.{Halt}
use Rattle.smk_drive_step.specs.Crews.{goings, halted_by, is_device}
use Rattle.smk_drive_course.specs.Stands.{Stand}
use Rattle.smk_drive_course.specs.Stands as stands
use Rattle.smk_drive_first.specs.Opening.{AreRules}
use Rattle.smk_laws_moments.proofs.ChildrenOf.{run_more}
use Rattle.smk_laws_turns.proofs.Commands.{rules_by}
use Rattle.smk_laws_turns.specs.Hubs.{Parts, asks_in}
use Rattle.smk_laws_turns.specs.Turning.{faulted}
use Rattle.smk_laws_turns.specs.GrowingRounds.{Grows, HasGrownOn, IsBarred, IsGrownBy, IsRefused, IsWhole, LacksMemory, LookFails}
use Rattle.smk_laws_turns.specs.Onward.{GrowthGoesOn, HasGrownBy, HasGrownTo, IsOnward, RoundGoesOn}
use Rattle.smk_laws_turns.proofs.Ends.{barred_by, ends_by, refused_so, whole_by}
use Rattle.smk_laws_turns.proofs.TakenLaws.{Laws}
use Rattle.smk_laws_turns.proofs.Looks.{looks_leave, refuses_still}
use Rattle.smk_laws_turns.proofs.Rounds.{goes_on}
use Rattle.smk_laws_turns.proofs.Seats.{same_asks, same_goings}

followed : (act : Act) (w : World) (es fs : List Event) → Follows act w (es ++ fs) → Follows act w es × Follows act (run w es) fs
followed act w [] fs h = (tt, h)
followed act w (e ∷ es) fs h = let more = followed act (after w e) es fs h.1 in ((h.0, more.0), more.1)

still_waits : (f : Fault) (old : Halt) → is_device f ≡ false → (halted_by f old).only_waits ≡ old.only_waits
still_waits f old quiet = ap (λ b. old.only_waits || b) quiet ∙ or-false old.only_waits

module _ (l : Laws) (nolock : Bool) (read : List ℕ → Option Record) (reads : ReadsRecords read) (flow : Flow) (settings : Settings) (entry : World) (u : Stand) (events : List Event)
    (act : Act) where
  abbrev R : Rules
  R = rules_by nolock read flow settings

  -- one round more, in which the folder was looked at
  one_more :
      (w : World) (h m k : Parts) (looks more : List Event) → AreLooks false looks → IsGrownBy flow settings w h m →
      HasGrownTo R entry (run w looks) u events m k more → HasGrownTo R entry w u events h k (looks ++ more)
  one_more w h m k looks more are g to =
      let same = sym (run_more w looks more) in
      record {
        failed = to.failed;
        looked = looks_append to.failed looks more are to.looked;
        onward = subst (λ v. IsOnward R entry v u k) same to.onward;
        others = to.others ∙ ap (λ (x : Parts). record x { live = k.live; places = k.places; halt = k.halt }) g.is;
        goings = to.goings ∙ ap (λ (x : Parts). goings x.places) g.is ∙ same_goings h.live.base.jobs.jobs g.jobs.jobs h.places;
        asks = to.asks ∙ ap (λ (x : Parts). asks_in x.places) g.is ∙ same_asks h.live.base.jobs.jobs g.jobs.jobs h.places;
        waits = λ e. to.waits e ∙ ap (λ (x : Parts). x.halt.only_waits) g.is;
        broken = λ e. to.broken e ∙ ap (λ (x : Parts). halted_by fault.Device x.halt) g.is;
        gone = λ e. subst (λ v. HasGrownBy R entry v u events k) same (to.gone e);
      }

  -- whatever the fault
  with_fault : (w : World) (h : Parts) (f : Fault) → IsOnward R entry w u h → IsOnward R entry w u (faulted f h)
  with_fault w h f a =
      record {
        live = a.live;
        settings = a.settings;
        derived = a.derived;
        home = a.home;
        owners = a.owners;
        ours = a.ours;
        sourced = a.sourced;
        planned = a.planned;
        listed = a.listed;
        crew = a.crew;
        children = a.children;
        theirs = a.theirs;
        running = a.running;
        unhalted = a.unhalted;
        at_rest = a.at_rest;
        agrees = a.agrees;
        progressed = a.progressed;
        comes = a.comes;
      }

  -- it ends here, with a fault
  faults_here :
      (w : World) (h : Parts) (f : Fault) (looks : List Event) → IsOnward R entry (run w looks) u h → AreLooks false looks → is_device f ≡ false →
      HasGrownBy R entry (run w looks) u events (faulted f h) → HasGrownTo R entry w u events h (faulted f h) looks
  faults_here w h f looks at are quiet gone =
      record {
        failed = false;
        looked = are;
        onward = with_fault (run w looks) h f at;
        others = refl;
        goings = refl;
        asks = refl;
        waits = λ e. still_waits f h.halt quiet;
        broken = λ e. absurd (true≢false (sym e));
        gone = λ e. gone;
      }

  grows_on :
      (w : World) (h k : Parts) (looks : List Event) → IsOnward R entry w u h → h.halt.fault ≡ None → HasGrownOn flow settings w h k looks → Follows act w looks →
      HasGrownTo R entry w u events h k looks
  grows_on w h _ _ at fresh (IsWhole _ _ none known) follows =
      record {
        failed = false;
        looked = refl;
        onward = at;
        others = refl;
        goings = refl;
        asks = refl;
        waits = λ e. refl;
        broken = λ e. absurd (true≢false (sym e));
        gone = λ e. whole_by nolock read reads flow settings entry w u events h at fresh none known;
      }
  grows_on w h k _ at fresh (Grows _ _ m _ looks more none some are g rest) follows =
      let f = followed act w looks more follows in
      let next = goes_on nolock read reads flow settings entry w u h at l none some m g in
      one_more w h m k looks more are g
      (grows_on (run w looks) m k more (looks_leave act R entry w u m false looks are f.0 next) (ap (λ (x : Parts). x.halt.fault) g.is ∙ fresh) rest f.1)
  grows_on w h _ looks at fresh (IsRefused _ _ f _ quiet none some are refused) follows =
      let later = looks_leave act R entry w u h false looks are follows at in
      faults_here w h f looks later are quiet
      (ends_by nolock read reads flow settings entry (run w looks) u events h later fresh f
      (inr
      (refuses_still act R entry w u h false looks are follows at (stands.lists u) f
      (refused_so nolock read reads flow settings entry w u events h at fresh l f none some refused))))
  grows_on w h _ _ at fresh (IsBarred _ _ f quiet some) follows =
      faults_here w h f [] at refl quiet (barred_by nolock read reads flow settings entry w u events h at fresh f some)
  grows_on w h _ looks at fresh (LookFails _ _ _ are) follows =
      record {
        failed = true;
        looked = are;
        onward = with_fault (run w looks) h fault.Device (looks_leave act R entry w u h true looks are follows at);
        others = refl;
        goings = refl;
        asks = refl;
        waits = λ e. absurd (true≢false e);
        broken = λ e. refl;
        gone = λ e. absurd (true≢false e);
      }
  grows_on w h _ looks at fresh (LacksMemory _ _ _ are) follows =
      let later = looks_leave act R entry w u h false looks are follows at in
      faults_here w h fault.OutOfMemory looks later are refl
      (ends_by nolock read reads flow settings entry (run w looks) u events h later fresh fault.OutOfMemory (inl refl))

-- ## By whichever rules

-- such rules are these
same_rules : (flow : Flow) (settings : Settings) (rules : Rules) → AreRules flow settings rules → rules_by rules.nolock rules.read flow settings ≡ rules
same_rules flow settings rules are =
    λ i.
    record {
      flow = sym are.flow_is i;
      settings = sym are.settings_are i;
      nolock = rules.nolock;
      read = rules.read;
      missing = sym are.fields i;
      command = sym are.texts i;
    }

pub round_goes_on : Laws → RoundGoesOn
round_goes_on l flow settings rules entry w u h k are at none some g =
    subst (λ r. IsOnward r entry w u h → IsOnward r entry w u k) (same_rules flow settings rules are)
    (λ here. goes_on rules.nolock rules.read are.reads flow settings entry w u h here l none some k g) at

pub growth_goes_on : Laws → GrowthGoesOn
growth_goes_on l act flow settings rules entry w u events h k looks are at fresh grown follows =
    subst (λ r. IsOnward r entry w u h → HasGrownTo r entry w u events h k looks) (same_rules flow settings rules are)
    (λ here. grows_on l rules.nolock rules.read are.reads flow settings entry u events act w h k looks here fresh grown follows) at
