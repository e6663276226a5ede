-- What a job begins with, put together; or why it doesn't begin.
use Rattle.std.proofs.Common.{◌≡◌, ◌≤◌, ◌<◌, ◌^◌, ℕ, Bool, true, false, not, [], map, refl, sym, ap, subst, ◌∙◌, inl, inr, Option, Some, None, Result, Ok, Err, true≢false}
use Rattle.std.specs.Prelude.{codes, is_none}
use Rattle.std.specs.List.{list_any, slice_get}
use Rattle.smk_base.specs.declared.tree.Pair.{Pair}
use Rattle.smk_world.specs.Trees.{Path, first}
use Rattle.smk_world.specs.World.{out_paths}
use Rattle.smk_record.specs.Records.{are_rising}
use Rattle.smk_pattern.specs.Reading.{or_empty}
use Rattle.smk_flow.specs.declared.job.Job.{Job}
use Rattle.smk_flow.specs.Flows.{Flow, rule_name}
use Rattle.smk_pick.specs.declared.settings.Settings.{Settings}
use Rattle.smk_plan.specs.States.{job_path}
use Rattle.smk_report.specs.Lines.{job_text}
use Rattle.smk_report.specs.declared.fault.Fault.{Fault}
use Rattle.smk_report.specs.declared.fault.Fault.TheVariants as fault
use Rattle.smk_plan_live.specs.declared.phase.Phase.TheVariants.{Waiting}
use Rattle.smk_drive_step.specs.Stamping.{AreStampsFor}
use Rattle.smk_laws_turns.specs.Hubs.{Parts}
use Rattle.smk_laws_begins.specs.Fitting.{IsUnfit, is_restored, serial_of, serial_or}
use Rattle.smk_drive_begin.specs.declared.kit.Kit.{Kit}
use Rattle.smk_drive_begin.specs.Kits.{IsKitOf, IsPackedFor}

pub kit_is :
    (flow : Flow) (settings : Settings) (h : Parts) (number : ℕ) (j : Job) (p : Path) (draws : Bool) (made : ℕ) (kit : Kit) →
    slice_get h.live.base.jobs.jobs number ≡ Some j → slice_get h.live.base.phases number ≡ Some Waiting → first (out_paths j.recipe) ≡ Some p →
    draws ≡ not (is_restored h.live number) → serial_of h.live draws h.next p ≡ Ok made → made < 2 ^ 64 → list_any is_none h.places ≡ true →
    are_rising (map (λ (w : Pair). w.name) j.recipe.wildcards) ≡ true → IsPackedFor flow settings h number j p draws made kit → IsKitOf flow settings h number j kit
kit_is flow settings h number j p draws made kit is waiting named drawn serial fits free rising packed =
    record {
      fit =
          record {
            is = is;
            waiting = waiting;
            name = p;
            named = named;
            draws_are = packed.draws_is ∙ drawn;
            serial = (λ i. serial_of h.live (packed.draws_is i) h.next p) ∙ (serial ∙ ap Ok (sym packed.made_is));
            fits = subst (λ n. n < 2 ^ 64) (sym packed.made_is) fits;
            facts = packed.known.facts;
            has_facts = packed.known.has_facts;
            stamps = subst (λ n. AreStampsFor n packed.known.facts.stamps kit.known) (sym packed.made_is) packed.known.stamps;
            text = packed.text;
            asks = packed.asks;
          };
      each = packed.known.each;
      positive = subst (λ n. 1 ≤ n) (sym packed.made_is) packed.positive;
      rising = rising;
      fits = packed.fits;
      free = free;
      start = packed.start ∙ ap (λ q. job_text (codes "start") (rule_name flow j.rule) q []) (sym path_is);
      done = packed.done ∙ ap (λ q. job_text (codes "done") (rule_name flow j.rule) q []) (sym path_is);
    }
  where
    path_is : job_path j ≡ p
    path_is = ap or_empty named

pub serial_unfit :
    (h : Parts) (number : ℕ) (draws : Bool) (p : Path) (f : Fault) → draws ≡ not (is_restored h.live number) → serial_of h.live draws h.next p ≡ Err f → IsUnfit h number f
serial_unfit h number true p f drawn none = go h.next refl none
  where
    restores : (b : Bool) → is_restored h.live number ≡ b → b ≡ false
    restores false e = refl
    restores true e = absurd (true≢false (drawn ∙ ap not e))

    is_fault : ◌≡◌ {A = Result ℕ Fault} (Err fault.Serials) (Err f) → f ≡ fault.Serials
    is_fault e = cc

    go : (o : Option ℕ) → h.next ≡ o → serial_or fault.Serials o ≡ Err f → IsUnfit h number f
    go None e k = inr (is_fault k, restores (is_restored h.live number) refl, e)
    go (Some n) e k = cc
serial_unfit h number false p f drawn none = go _ none
  where
    is_fault : ◌≡◌ {A = Result ℕ Fault} (Err fault.OutOfMemory) (Err f) → f ≡ fault.OutOfMemory
    is_fault e = cc

    go : (o : Option ℕ) → serial_or fault.OutOfMemory o ≡ Err f → IsUnfit h number f
    go None k = inl (is_fault k)
    go (Some n) k = cc
