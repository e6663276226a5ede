use Rattle.std.proofs.Common.{ap, ◌∙◌, ◌∷◌, []}
use Rattle.smk_world.proofs.Devices.{looked_on, looked_then, looked_nothing, still}
use Rattle.smk_plan_look.proofs.Waiting.{walk_begun, walk_found, either_false, either_is, look_told}
use Rattle.smk_plan_look.proofs.guards.has_guard.Goals as goal

pub loop-init : goal.loop-init
loop-init g c =
    record {
      looked = looked_nothing g.W.Files.act _;
      told = λ w at free reads told. walk_begun w.nodes c.args.folder.now _ reads told (c.in_ok-waiting.ensures ∙ ap (λ q. q ∷ []) c.in_ok-copy.ensures);
    }

pub returns-in_err-found-clause-looked : goal.returns-in_err-found-clause-looked
returns-in_err-found-clause-looked g c =
    looked_then c.loop.invariant.looked (looked_on _ c.in_err-found.was c.from_residual-in_err-found.ensures.1 c.look_in.ensures.looked)

pub returns-then-found-clause-looked : goal.returns-then-found-clause-looked
returns-then-found-clause-looked g c = looked_then c.loop.invariant.looked c.in_ok-found.ensures.looked

pub returns-then-found-clause-told : goal.returns-then-found-clause-told
returns-then-found-clause-told g c = λ w at free reads told.
    let u = still w c.loop.invariant.looked at in
    let p = c.args.folder.now in
    walk_found w.nodes p
    (either_is _ _ _ c.if-found.true
    (look_told w u.0 u.2 p c.loop.waiting _ _ _ _ free c.in-Some.ensures (c.loop.invariant.told w at free reads told) (c.in_ok-found.ensures.told u.0 u.1)))

pub loop-preserved : goal.loop-preserved
loop-preserved g c =
    record {
      looked = looked_then c.loop.invariant.looked c.in_ok-found.ensures.looked;
      told = λ w at free reads told.
          let u = still w c.loop.invariant.looked at in
          let p = c.args.folder.now in
          either_false _ _ _ c.if-found.false
          (look_told w u.0 u.2 p c.loop.waiting _ _ _ _ free c.in-Some.ensures (c.loop.invariant.told w at free reads told) (c.in_ok-found.ensures.told u.0 u.1));
    }
