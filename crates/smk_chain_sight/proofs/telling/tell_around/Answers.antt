use Rattle.std.proofs.Common.{◌∙◌, sym, ap, map}
use Rattle.smk_base.proofs.Under.{never_both}
use Rattle.smk_world.proofs.Devices.{looked_then, looked_on}
use Rattle.smk_choose.specs.Told.{told_by, making}
use Rattle.smk_chain_sight.proofs.Eyes.{told_then, listed_on, is_by, no_candidates, its_candidates}
use Rattle.smk_chain_sight.proofs.telling.tell_around.Goals as goal

pub returns-in_err-tell-clause-looked : goal.returns-in_err-tell-clause-looked
returns-in_err-tell-clause-looked g c =
    looked_on _ c.in_err-tell.was c.from_residual.ensures.1 c.tell.ensures.looked

pub returns-then-is-clause-looked : goal.returns-then-is-clause-looked
returns-then-is-clause-looked g c =
    c.in_ok-tell.ensures.looked

pub returns-then-is-clause-listed : goal.returns-then-is-clause-listed
returns-then-is-clause-listed g c = (c.in_ok-tell.ensures.listed, λ e. absurd (never_both ((told_by c.tell.new.eye.sources).is c.args.path.now) (sym c.is.ensures ∙ c.if-is.true) e))

pub returns-then-is-clause-told : goal.returns-then-is-clause-told
returns-then-is-clause-told g c = c.in_ok-tell.ensures.told

pub returns-then-is-clause-jobs : goal.returns-then-is-clause-jobs
returns-then-is-clause-jobs g c = c.new.ensures.items ∙ no_candidates c.args.flow.now (told_by c.tell.new.eye.sources) c.args.path.now (sym c.is.ensures ∙ c.if-is.true)

pub returns-in_err-jobs-clause-looked : goal.returns-in_err-jobs-clause-looked
returns-in_err-jobs-clause-looked g c =
    looked_then c.in_ok-tell.ensures.looked (looked_on _ c.in_err-jobs.was c.from_residual-in_err-jobs.ensures.1 c.candidates_of.ensures.looked)

pub returns-clause-looked : goal.returns-clause-looked
returns-clause-looked g c =
    looked_then c.in_ok-tell.ensures.looked c.in_ok-jobs.ensures.looked

pub returns-clause-listed : goal.returns-clause-listed
returns-clause-listed g c =
    (listed_on c.tell.new.eye c.candidates_of.new.eye c.args.path.now c.in_ok-jobs.ensures.told.keeps c.in_ok-tell.ensures.listed, λ e. c.in_ok-jobs.ensures.listed)

pub returns-clause-told : goal.returns-clause-told
returns-clause-told g c = told_then c.in_ok-tell.ensures.looked c.in_ok-tell.ensures.told c.in_ok-jobs.ensures.told

pub returns-clause-jobs : goal.returns-clause-jobs
returns-clause-jobs g c =
    let p = c.args.path.now in
    let l = c.in_ok-tell.ensures.listed in
    let none =
    is_by c.candidates_of.new.eye.sources p l.0 (c.in_ok-jobs.ensures.told.keeps p l.0 l.1)
    ∙ sym (is_by c.tell.new.eye.sources p l.0 l.1)
    ∙ sym c.is.ensures ∙ c.if-is.false in
    c.in_ok-jobs.ensures.jobs ∙ ap (map making) (its_candidates c.args.flow.now (told_by c.candidates_of.new.eye.sources) p none)
