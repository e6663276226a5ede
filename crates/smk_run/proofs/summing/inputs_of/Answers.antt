use Rattle.std.proofs.Common.{◌∙◌, [], ap, sym, length}
use Rattle.std.specs.List.{list_all}
use Rattle.smk_record.specs.Records.{is_earlier}
use Rattle.smk_run.specs.Digesting.{is_whole_sum}
use Rattle.smk_run.specs.Stamps.{is_small, number_at}
use Rattle.smk_run.proofs.Inputs.{unlooked, unlisted, unsummed, unmade, inputs_ready, of_sums}
use Rattle.smk_run.proofs.Digested.{summed_as, summed_each, summed_earlier, summed_small}
use Rattle.smk_run.proofs.summing.inputs_of.Goals as goal

pub returns-in-Err-clause-acted : goal.returns-in-Err-clause-acted
returns-in-Err-clause-acted g c = unlooked g.W.Files.act (number_at c.args.serials.now) c.args.paths.now [] _ _ c.in-Err.stop c.in-Err.ensures.acted

pub returns-in_default-clause-acted : goal.returns-in_default-clause-acted
returns-in_default-clause-acted g c = unlisted g.W.Files.act (number_at c.args.serials.now) c.args.paths.now c.in-Ok.seen _ _ c.in-Ok.ensures.acted

pub returns-in-Err-sums-clause-acted : goal.returns-in-Err-sums-clause-acted
returns-in-Err-sums-clause-acted g c =
    unsummed g.W.Files.act (number_at c.args.serials.now) c.args.paths.now c.in-Ok.seen _ _ _ c.in-Err-sums.fault c.stop_of.result c.stop_of.ensures c.in-Ok.ensures.acted c.in-Err-sums.ensures.looked

pub returns-in-Err-sums-clause-kind : goal.returns-in-Err-sums-clause-kind
returns-in-Err-sums-clause-kind g c = of_sums c.in-Err-sums.fault c.stop_of.result c.stop_of.ensures

pub summed-requires : goal.summed-requires
summed-requires g c = record { each = ap length c.as_slice-2.ensures ∙ c.in-Ok.ensures.each }

pub returns-in-Ok-summed-clause-acted : goal.returns-in-Ok-summed-clause-acted
returns-in-Ok-summed-clause-acted g c =
    let made = number_at c.args.serials.now in
    inputs_ready g.W.Files.act made c.args.paths.now c.in-Ok.seen _ _ _ c.in-Ok-sources_among.sources c.in-Ok-sums.found c.in-Ok-summed.stamps c.in-Ok-sources_among.ensures c.in-Ok.ensures.each
    (summed_as made c.args.paths.now _ _ _ _ c.in-Ok-summed.stamps c.as_slice-2.ensures c.as_slice-3.ensures c.in-Ok-summed.ensures) c.in-Ok.ensures.acted c.in-Ok-sums.ensures.looked c.in-Ok-sums.ensures.told

pub returns-in-Ok-summed-clause-each : goal.returns-in-Ok-summed-clause-each
returns-in-Ok-summed-clause-each g c =
    let made = number_at c.args.serials.now in
    ap length (summed_as made c.args.paths.now _ _ _ _ c.in-Ok-summed.stamps c.as_slice-2.ensures c.as_slice-3.ensures c.in-Ok-summed.ensures)
    ∙ summed_each made c.args.paths.now c.in-Ok.seen c.in-Ok-sums.found c.in-Ok.ensures.each

pub returns-in-Ok-summed-clause-earlier : goal.returns-in-Ok-summed-clause-earlier
returns-in-Ok-summed-clause-earlier g c =
    let made = number_at c.args.serials.now in
    ap (list_all (is_earlier c.args.made)) (summed_as made c.args.paths.now _ _ _ _ c.in-Ok-summed.stamps c.as_slice-2.ensures c.as_slice-3.ensures c.in-Ok-summed.ensures)
    ∙ summed_earlier c.args.made made c.args.paths.now c.in-Ok.seen c.in-Ok-sums.found c.in-Ok.ensures.earlier

pub returns-in-Ok-summed-clause-small : goal.returns-in-Ok-summed-clause-small
returns-in-Ok-summed-clause-small g c =
    let made = number_at c.args.serials.now in
    ap (list_all is_small) (summed_as made c.args.paths.now _ _ _ _ c.in-Ok-summed.stamps c.as_slice-2.ensures c.as_slice-3.ensures c.in-Ok-summed.ensures)
    ∙ summed_small made c.args.paths.now c.in-Ok.seen c.in-Ok-sums.found c.in-Ok.ensures.small (ap (list_all is_whole_sum) (sym c.as_slice.ensures) ∙ c.see_sums.ensures)

pub returns-clause-acted : goal.returns-clause-acted
returns-clause-acted g c = unmade g.W.Files.act (number_at c.args.serials.now) c.args.paths.now c.in-Ok.seen _ _ _ c.in-Ok.ensures.acted c.in-Ok-sums.ensures.looked
