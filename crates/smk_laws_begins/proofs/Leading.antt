-- The job that is next begins, or doesn't: wherever the run stood.
use Rattle.std.proofs.Common.{ℕ, Bool, List, sym, subst}
use Rattle.smk_world.specs.Trees.{Act}
use Rattle.smk_record.specs.declared.record.Stamp.{Stamp}
use Rattle.smk_flow.specs.declared.job.Job.{Job}
use Rattle.smk_flow.specs.Flows.{Flow}
use Rattle.smk_pick.specs.declared.room.Ask.{Ask}
use Rattle.smk_report.specs.Lines.{Text}
use Rattle.smk_laws_turns.specs.Hubs.{Parts}
use Rattle.smk_pick.specs.declared.settings.Settings.{Settings}
use Rattle.smk_laws_turns.specs.Begun.{BeginDiffers}
use Rattle.smk_laws_begins.specs.Fitting.{IsFit}
use Rattle.smk_laws_begins.specs.Begins.{BegunLeads, MayTake, UnbegunLeads, UnfitLeads}
use Rattle.smk_laws_begins.proofs.Answered.{begun_leads}
use Rattle.smk_laws_begins.proofs.ToBegin.{taken}
use Rattle.smk_laws_begins.proofs.Unbegun.{unbegun_leads, unfit_leads}

pub unfit_leads_on : (flow : Flow) (settings : Settings) (h : Parts) (number : ℕ) → UnfitLeads flow settings h number
unfit_leads_on flow settings h number act f w may unfit rules entry s before deeds by at =
    unfit_leads rules entry h s w before deeds number at (subst (λ x. MayTake x h number) (sym by.settings_are) may) act f unfit

pub unbegun_leads_on : (flow : Flow) (settings : Settings) (h : Parts) (number : ℕ) (act : Act) (j : Job) (known : List Stamp) (made : ℕ) (draws : Bool) (command : Text) (ask : Ask) →
    UnbegunLeads flow settings h number act j known made draws command ask
unbegun_leads_on flow settings h number act j known made draws command ask why f w es may fit logged up is follows rules entry s before deeds by at =
    unbegun_leads rules entry h s w before deeds number at (subst (λ x. MayTake x h number) (sym by.settings_are) may) act flow settings by j known made draws command ask
    (subst (λ x. IsFit x h number j known made draws command ask) (sym by.settings_are) fit) logged why f es up is follows

pub begun_leads_on : BeginDiffers → (flow : Flow) (settings : Settings) (h : Parts) (number : ℕ) (act : Act) (j : Job) (known : List Stamp) (made : ℕ) (draws : Bool) (command : Text) (ask : Ask) →
    BegunLeads flow settings h number act j known made draws command ask
begun_leads_on differs flow settings h number act j known made draws command ask going child k told put w es may fit logged up going_is number_is ask_is noted owners
    follows rules entry s before deeds by at =
    let may1 = subst (λ x. MayTake x h number) (sym by.settings_are) may in
    let fit1 = subst (λ x. IsFit x h number j known made draws command ask) (sym by.settings_are) fit in
    begun_leads differs act rules entry h s w before deeds number at may1 j known made draws command ask fit1 logged flow settings by
    (taken rules entry h s w before deeds number at may1 j fit1.is) going es up follows owners k child going_is number_is ask_is told put noted
