use Rattle.std.proofs.Common.{refl, sym, is_ok}
use Rattle.smk_world.proofs.Devices.{looked_as}
use Rattle.smk_plan.specs.Duties.{maker_in}
use Rattle.smk_run.specs.Reports.{IsReport}
use Rattle.smk_drive.specs.Reports.{listing_text}
use Rattle.smk_plan_preview.specs.Previewing.{plan_of}
use Rattle.smk_cli_calls.specs.Serving.{IsRefusedPlan, IsServed, Listed}
use Rattle.smk_cli.proofs.Making.{all_make}
use Rattle.smk_cli.proofs.ListingKinds.{listing_faults}
use Rattle.smk_cli_calls.proofs.Ended.{early, put_end, listing_calm}
use Rattle.smk_cli_calls.proofs.Went.{refused_or_stopped_listing}
use Rattle.smk_cli.proofs.serving.list_plan.Goals as goal

pub returns-in-Err-clause-ended : goal.returns-in-Err-clause-ended
returns-in-Err-clause-ended g c = early c.in-Err.fault _ c.in-Err.ensures.looked c.requires.none_runs c.in-Err.ensures.no_sink

pub returns-in-Err-clause-looked : goal.returns-in-Err-clause-looked
returns-in-Err-clause-looked g c = c.in-Err.ensures.looked

pub returns-in-Err-clause-listed : goal.returns-in-Err-clause-listed
returns-in-Err-clause-listed g c = λ w at read reads.
    refused_or_stopped_listing (IsRefusedPlan read c.args.asked.now c.args.words.now w) (IsServed read c.args.asked.now c.args.words.now w) c.in-Err.fault _ c.in-Err.ensures.no_sink (c.in-Err.ensures.told w at read reads)

pub put_listing-requires-clause-each : goal.put_listing-requires-clause-each
put_listing-requires-clause-each g c = c.in-Ok.ensures.fit.states

pub put_listing-requires-clause-make : goal.put_listing-requires-clause-make
put_listing-requires-clause-make g c = all_make (maker_in c.in-Ok.plan.jobs.makers) 0 c.in-Ok.plan.jobs.jobs c.in-Ok.ensures.fit.runnable

pub returns-in-Ok-clause-ended : goal.returns-in-Ok-clause-ended
returns-in-Ok-clause-ended g c =
    put_end (IsReport (is_ok c.put_listing.result) (listing_text c.args.asked.now.flow (plan_of c.in-Ok.plan))) c.put_listing.result c.put_listing.ensures.faults c.in-Ok.ensures.looked c.requires.none_runs c.put_listing.ensures.told

pub returns-in-Ok-clause-looked : goal.returns-in-Ok-clause-looked
returns-in-Ok-clause-looked g c = looked_as (sym (listing_calm c.put_listing.result c.put_listing.ensures.faults)) c.in-Ok.ensures.looked

pub returns-in-Ok-clause-listed : goal.returns-in-Ok-clause-listed
returns-in-Ok-clause-listed g c = λ w at read reads.
    Listed c.args.asked.now c.in-Ok.plan c.put_listing.result (refl, c.in-Ok.ensures.told w at read reads) (listing_faults c.put_listing.result c.put_listing.ensures.faults) c.put_listing.ensures.told
