use Rattle.std.proofs.Common.{[], Ok, refl, sym, ap, subst, take, drop, length, false, ◌+◌, ◌∙◌}
use Rattle.std.specs.List.{list_all}
use Rattle.smk_world.specs.Devices.{HasActed}
use Rattle.smk_world.proofs.Devices.{acted_nothing, around, next}
use Rattle.smk_record.specs.Records.{is_earlier}
use Rattle.smk_run.specs.Stamps.{HasStamped, is_small, number_at}
use Rattle.smk_run.proofs.Stamping.{stamps_next, stamps_stop}
use Rattle.smk_run.proofs.stamps.stamps_of.Goals as goal

pub loop-number-init : goal.loop-number-init
loop-number-init g c =
    let act = g.W.Files.act in
    let made = number_at c.args.serials.now in
    let work = g.W.Files.device c.args.work.now in
    record {
      acted = subst (λ stamps. HasActed act (HasStamped made [] (Ok stamps)) work work false) (sym c.new-stamps.ensures) (acted_nothing act (HasStamped made [] (Ok [])) work (λ w. refl));
      each = ap length c.new-stamps.ensures;
      earlier = ap (list_all (is_earlier c.args.made)) c.new-stamps.ensures;
      small = ap (list_all is_small) c.new-stamps.ensures;
    }

pub returns-in-Err-clause-acted : goal.returns-in-Err-clause-acted
returns-in-Err-clause-acted g c =
    let i = c.loop-number.number in
    let paths = c.args.paths.now in
    let p = c.index-paths-number.result in
    stamps_stop g.W.Files.act (number_at c.args.serials.now) (take i paths) (drop (i + 1) paths) paths p c.loop-number.stamps c.push_stamp.new.stamps c.in-Err.stop _ _ _
    (around paths i p c.loop-number-test.true c.index-paths-number.is) c.loop-number.invariant.acted c.in-Err.ensures.acted

pub loop-number-preserved : goal.loop-number-preserved
loop-number-preserved g c =
    let i = c.loop-number.number in
    let paths = c.args.paths.now in
    let p = c.index-paths-number.result in
    let v = c.loop-number.invariant in
    record {
      acted = stamps_next g.W.Files.act (number_at c.args.serials.now) (take i paths) (take (i + 1) paths) p c.loop-number.stamps c.push_stamp.new.stamps _ _ _
          (next paths i p c.loop-number-test.true c.index-paths-number.is) v.acted c.in-Ok.ensures.acted;
      each = c.in-Ok.ensures.longer ∙ ap (λ k. k + 1) v.each;
      earlier = c.in-Ok.ensures.earlier v.earlier;
      small = c.in-Ok.ensures.small v.small;
    }
