use Rattle.std.proofs.Common.{refl, sym, ◌∙◌}
use Rattle.std.specs.List.{list_all}
use Rattle.smk_world.proofs.Devices.{looked_nothing, looked_on, looked_then, still}
use Rattle.smk_chain_sight.proofs.Eyes.{viewed_still}
use Rattle.smk_drive_more.specs.Sourced.{is_made_or_source}
use Rattle.smk_drive_more.proofs.Sure.{all_were, not_one, one_more}
use Rattle.smk_drive_more.proofs.sources.are_made_or_sources.Goals as goal

pub loop-maker-init : goal.loop-maker-init
loop-maker-init g c = record { looked = looked_nothing g.W.Files.act _; told = λ w at image v. refl }

pub returns-in_err-sound-clause-looked : goal.returns-in_err-sound-clause-looked
returns-in_err-sound-clause-looked g c =
    looked_then c.loop-maker.invariant.looked (looked_on _ c.in_err-sound.was c.from_residual.ensures.1 c.is_made_or_source.ensures.looked)

pub returns-then-not-sound-clause-looked : goal.returns-then-not-sound-clause-looked
returns-then-not-sound-clause-looked g c = looked_then c.loop-maker.invariant.looked c.in_ok-sound.ensures.looked

pub returns-then-not-sound-clause-told : goal.returns-then-not-sound-clause-told
returns-then-not-sound-clause-told g c = λ w at image v.
    let was = c.loop-maker.invariant.told w at image v in
    let u = still w c.loop-maker.invariant.looked at in
    let now = c.in_ok-sound.ensures.told u.0 u.1 image (viewed_still w.nodes u.0.nodes c.args.store.now image u.2 v) in
    not_one (is_made_or_source image) c.args.makers.now c.loop-maker.maker-index c.maker-item.result (list_all (is_made_or_source image) c.args.makers.now)
    c.loop-maker-test.true c.maker-item.is (sym now ∙ c.if-not-sound.true) was

pub loop-maker-preserved : goal.loop-maker-preserved
loop-maker-preserved g c =
    record {
      looked = looked_then c.loop-maker.invariant.looked c.in_ok-sound.ensures.looked;
      told = λ w at image v.
          let was = c.loop-maker.invariant.told w at image v in
          let u = still w c.loop-maker.invariant.looked at in
          let now = c.in_ok-sound.ensures.told u.0 u.1 image (viewed_still w.nodes u.0.nodes c.args.store.now image u.2 v) in
          one_more (is_made_or_source image) c.args.makers.now c.loop-maker.maker-index c.maker-item.result (list_all (is_made_or_source image) c.args.makers.now)
          c.loop-maker-test.true c.maker-item.is (sym now ∙ c.if-not-sound.false) was;
    }

pub returns-clause-told : goal.returns-clause-told
returns-clause-told g c = λ w at image v.
    all_were (is_made_or_source image) c.args.makers.now c.loop-maker.maker-index (list_all (is_made_or_source image) c.args.makers.now) c.loop-maker-test.false
    (c.loop-maker.invariant.told w at image v)
