use Rattle.std.proofs.Common.{◌≡◌, ap, ◌∙◌, Some, bytes_eq, subst}
use Rattle.std.specs.Prelude.{if◌then◌else◌}
use Rattle.smk_base.proofs.Places.{place_itself}
use Rattle.smk_world.specs.Trees.{Path}
use Rattle.smk_world.proofs.Devices.{looked_on, looked_memory}
use Rattle.smk_choose.specs.declared.sources.Standing.{Standing}
use Rattle.smk_choose.specs.Told.{standing_of}
use Rattle.smk_chain_sight.proofs.Noted.{there, not_there, told_more, keeps_more}
use Rattle.smk_chain_sight.proofs.telling.tell.Goals as goal

pub returns-then-is_told-clause-listed : goal.returns-then-is_told-clause-listed
returns-then-is_told-clause-listed g c = there (standing_of c.args.eye.now.sources c.args.path.now) c.is_told.result c.if-is_told.true c.is_told.ensures

pub returns-in_err-found-clause-looked : goal.returns-in_err-found-clause-looked
returns-in_err-found-clause-looked g c =
    looked_on _ c.in_err-found.was c.from_residual.ensures.1 c.standing_at.ensures.looked

pub returns-in_err-copy-clause-looked : goal.returns-in_err-copy-clause-looked
returns-in_err-copy-clause-looked g c =
    looked_memory _ c.from_residual-in_err-copy.ensures.1 c.in_ok-found.ensures.looked

pub returns-in_err-add-clause-looked : goal.returns-in_err-add-clause-looked
returns-in_err-add-clause-looked g c =
    looked_memory _ c.from_residual-in_err-add.ensures.1 c.in_ok-found.ensures.looked

pub returns-clause-looked : goal.returns-clause-looked
returns-clause-looked g c =
    c.in_ok-found.ensures.looked

pub returns-clause-listed : goal.returns-clause-listed
returns-clause-listed g c =
    let s : Standing = record { source = c.in_ok-found.found.source; holds = c.in_ok-found.found.holds } in
    (s, c.in_ok-add.ensures.ok c.args.path.now ∙ ap (λ (b : _). if b then Some s else standing_of c.args.eye.now.sources c.args.path.now) (ap (λ (p : Path). bytes_eq p c.args.path.now) c.in_ok-copy.ensures ∙ place_itself c.args.path.now))

pub returns-clause-told : goal.returns-clause-told
returns-clause-told g c =
    let s : Standing = record { source = c.in_ok-found.found.source; holds = c.in_ok-found.found.holds } in
    let old = standing_of c.args.eye.now.sources in
    let new = standing_of c.add.new.self in
    let changed = subst (λ (p : Path). (q : Path) → new q ≡ (if bytes_eq p q then Some s else old q)) c.in_ok-copy.ensures c.in_ok-add.ensures.ok in
    record {
      keeps = keeps_more old new c.args.path.now s (not_there (old c.args.path.now) c.is_told.result c.if-is_told.false c.is_told.ensures) changed;
      stays = λ w at image v t.
          let u = c.in_ok-found.ensures.told w at image v t.seen in
          record { seen = u.1; told = told_more image old new c.args.path.now s changed u.0 t.told };
    }
