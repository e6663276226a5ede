use Rattle.std.proofs.Common.{ap, sym, subst, ◌∙◌, true≢false}
use Rattle.smk_world.proofs.Devices.{looked_as, looked_then}
use Rattle.smk_chain_sight.proofs.Views.{viewed_of}
use Rattle.smk_store.specs.Images.{Image, is_source, seen}
use Rattle.smk_store.specs.Loading.{IsStoreOf}
use Rattle.smk_world.specs.Trees.{Path, among}
use Rattle.std.proofs.Common.{◌≡◌, true}
use Rattle.smk_plan_facts.specs.Facts.{told_sources}
use Rattle.smk_plan_preview.specs.Faults.{device_failed}
use Rattle.smk_plan_preview.specs.Rounds.{AreReady}
use Rattle.smk_plan_preview.proofs.LookedAt.{kept, seen_moved}
use Rattle.smk_drive_more.proofs.Told.{found_before}
use Rattle.smk_drive_more.proofs.looking.look_around.Goals as goal

pub returns-in-Err-clause-looked : goal.returns-in-Err-clause-looked
returns-in-Err-clause-looked g c = looked_as (ap device_failed c.in-Err.is) c.check_sources.ensures.looked

pub returns-in-Err-clause-told : goal.returns-in-Err-clause-told
returns-in-Err-clause-told g c = λ w at covered read st ready told. absurd (true≢false (sym told ∙ c.in-Err.ensures.untold))

pub returns-in-Ok-clause-looked : goal.returns-in-Ok-clause-looked
returns-in-Ok-clause-looked g c = looked_then c.in-Ok.ensures.looked c.look_at.ensures.looked

pub returns-in-Ok-clause-told : goal.returns-in-Ok-clause-told
returns-in-Ok-clause-told g c = λ w at covered read st ready.
    let u = kept w c.in-Ok.ensures.looked at in
    let image = seen_moved read w u.0 u.2 in
    let sound = g.met.W.Files.sound c.args.work.now in
    let sourced = c.in-Ok.ensures.told w at (seen read w) (viewed_of read w c.args.store covered (sound.formed w at) (sound.tree w at) st) in
    found_before read c.args.flow.now c.args.settings.now w u.0 u.2 c.args.jobs.lists c.look_at.result
    (c.look_at.ensures.told u.0 u.1 read (subst (λ i. IsStoreOf i c.args.store) (sym image) st)
    (subst (λ i. AreReady c.args.flow.now c.args.settings.now.targets c.args.jobs.lists i c.args.jobs) (sym image) ready)
    (subst (λ (i : Image). (p : Path) → among (told_sources c.args.jobs.makers) p ≡ true → is_source i p ≡ true) (sym image) sourced))
