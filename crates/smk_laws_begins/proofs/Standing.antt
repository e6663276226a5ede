-- Where a run stands between its turns.
use Rattle.std.proofs.Common.{◌≡◌, ◌+◌, ℕ, suc, false, List, [], ◌∷◌, ◌++◌, arith, refl, sym, ap, subst, ◌∙◌, Option, Some, None, true≢false}
use Rattle.smk_world.specs.declared.event.Event.{Event}
use Rattle.smk_world.specs.World.{World, run}
use Rattle.smk_world.specs.Devices.{Device, IsSoundDevice}
use Rattle.smk_world.specs.Runs.{Follows}
use Rattle.smk_world.specs.Trees.{Act}
use Rattle.smk_flow.specs.Flows.{Flow}
use Rattle.smk_record.specs.Reading.{record_in}
use Rattle.smk_record.proofs.Exact.{reads_records}
use Rattle.smk_format.specs.Commands.{command, missing}
use Rattle.smk_pick.specs.declared.settings.Settings.{Settings}
use Rattle.smk_drive.specs.Moments.{Rules}
use Rattle.smk_drive_step.specs.declared.children.Child.{Child}
use Rattle.smk_drive_course.specs.Stands.{first_stand}
use Rattle.smk_drive_course.specs.Steps.{Deed}
use Rattle.smk_drive_first.specs.Opening.{AreRules}
use Rattle.smk_laws_turns.specs.Hubs.{IsAt, Parts, plan_of}
use Rattle.smk_drive_hub.specs.Turned.{LeadOn, Somewhere}
use Rattle.smk_laws_begins.specs.Opened.{OpenedIsAt}
use Rattle.smk_laws_begins.specs.Whole.{HasEntered}
use Rattle.smk_laws_begins.specs.Standing.{OneLessTaken, OneMoreTaken, ReadyAtStart, ReadyOn, SomeTaken, taken}
use Rattle.smk_laws_begins.proofs.Unopened.{childless, none_owned}
use Rattle.smk_laws_begins.proofs.Whole.{start_is_seated, start_is_steady}

-- ## Rules

-- there are rules by which a run of the workflow and the settings goes
abbrev some_rules : Flow → Settings → Rules
some_rules flow settings = record { flow = flow; settings = settings; nolock = false; read = record_in; missing = missing; command = command }

are_rules : (flow : Flow) (settings : Settings) → AreRules flow settings (some_rules flow settings)
are_rules flow settings = record { flow_is = refl; settings_are = refl; reads = reads_records; fields = refl; texts = refl }

-- ## At the start

starts_there :
    (flow : Flow) (settings : Settings) (h : Parts) (act : Act) (a : Device) (entry : World) (es : List Event) (w : World) →
    OpenedIsAt →
    IsSoundDevice a →
    a.running ≡ [] →
    a.world ≡ Some entry →
    Follows act entry es → HasEntered (some_rules flow settings) settings entry es h → w ≡ run entry es → Somewhere flow settings h w
starts_there flow settings h act a entry es w opened_at sound idle was follows entered is =
    let rules = some_rules flow settings in
    let o = entered.found in
    record {
      rules = rules;
      entry = entry;
      stand = first_stand (Some (plan_of o.live));
      before = es;
      deeds = [];
      by = are_rules flow settings;
      at =
          subst (λ v. IsAt rules entry h (first_stand (Some (plan_of o.live))) v es []) (sym is)
          (opened_at act flow settings rules entry es o h (sound.formed entry was) (sound.tree entry was) (childless a entry sound idle was)
          (are_rules flow settings) entered.opens follows entered.is entered.sources entered.start);
    }

pub ready_at_start : ReadyAtStart
ready_at_start act flow settings h a b opened_at sound idle begun =
    record {
      somewhere = λ w is.
          let s = begun.acted.did w is in
          starts_there flow settings h act a s.0 s.2.0 w opened_at sound idle s.1 s.2.1
          (s.2.2 (none_owned a s.0 sound idle s.1) (some_rules flow settings) (are_rules flow settings)) s.2.3;
      live = begun.is_new.alive;
      steady = start_is_steady flow settings h begun.is_new;
      seated = start_is_seated settings h b.running begun.is_new (begun.acted.running ∙ idle);
    }

-- ## After turns

stands_on :
    (flow : Flow) (settings : Settings) (h k : Parts) (more : List Deed) (w v : World) (es : List Event) →
    Somewhere flow settings h w → LeadOn flow settings h k more w es → v ≡ run w es → Somewhere flow settings k v
stands_on flow settings h k more w v es there leads is =
    let to = leads there.rules there.entry there.stand there.before there.deeds there.by there.at in
    record {
      rules = there.rules;
      entry = there.entry;
      stand = to.stand;
      before = there.before ++ es;
      deeds = there.deeds ++ more;
      by = there.by;
      at = subst (λ x. IsAt there.rules there.entry k to.stand x (there.before ++ es) (there.deeds ++ more)) (sym is) to.at;
    }

pub ready_on : ReadyOn
ready_on act flow settings h k unwaited a b p q ready gone =
    record {
      somewhere = λ w is. let g = gone.led w is in stands_on flow settings h k gone.deeds g.0 w g.2.0 (ready.somewhere g.0 g.1) g.2.2.0 g.2.3;
      live = gone.alive;
      steady = gone.steady ready.steady;
      seated = gone.seats ready.seated;
    }

-- ## Places

around_free : (before after : List (Option Child)) → taken (before ++ None ∷ after) ≡ taken (before ++ after)
around_free [] after = refl
around_free (None ∷ ps) after = around_free ps after
around_free (Some c ∷ ps) after = ap suc (around_free ps after)

around_taken : (before after : List (Option Child)) (c : Child) → taken (before ++ Some c ∷ after) ≡ suc (taken (before ++ after))
around_taken [] after c = refl
around_taken (None ∷ ps) after c = around_taken ps after c
around_taken (Some d ∷ ps) after c = ap suc (around_taken ps after c)

plus_one : (n : ℕ) → suc n ≡ n + 1
plus_one n = omega arith

pub one_more_taken : OneMoreTaken
one_more_taken c were are put =
    ap taken put.are_so ∙ around_taken put.before put.after c ∙ plus_one (taken (put.before ++ put.after))
    ∙ ap (λ n. n + 1) (sym (ap taken put.were_so ∙ around_free put.before put.after))

pub one_less_taken : OneLessTaken
one_less_taken c were are put =
    ap taken put.were_so ∙ around_taken put.before put.after c ∙ plus_one (taken (put.before ++ put.after))
    ∙ ap (λ n. n + 1) (sym (ap taken put.are_so ∙ around_free put.before put.after))

pub some_taken : SomeTaken
some_taken [] some = absurd (true≢false some)
some_taken (None ∷ ps) some = some_taken ps some
some_taken (Some c ∷ ps) some = omega arith
