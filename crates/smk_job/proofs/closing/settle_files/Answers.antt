use Rattle.smk_job.proofs.Acts.{free_still}
use Rattle.smk_job.proofs.Finishing.{settled_blindly, settled_well, settled_uncut, settled_wrongly, settled_lost}
use Rattle.smk_job.proofs.closing.settle_files.Goals as goal

pub returns-in_err-look_over-clause-acted : goal.returns-in_err-look_over-clause-acted
returns-in_err-look_over-clause-acted g c =
    settled_blindly g.W.Files.act c.args.outs.now c.args.places.now c.args.records.now _ _ _ c.from_residual.result c.from_residual.ensures.0 c.in_err-look_over.ensures.acted

pub keep-requires : goal.keep-requires
keep-requires g c = record { each = c.requires.each; unused = free_still c.args.places.now c.in_ok-look_over.ensures.acted c.requires.unused }

pub returns-in_err-keep-in-None-clause-acted : goal.returns-in_err-keep-in-None-clause-acted
returns-in_err-keep-in-None-clause-acted g c =
    settled_uncut g.W.Files.act c.args.outs.now c.args.places.now c.args.records.now _ _ _ _ c.from_residual-in_err-keep-in-None.result c.in-None.is c.from_residual-in_err-keep-in-None.ensures.0
    c.in_ok-look_over.ensures.acted c.in_err-keep-in-None.ensures

pub returns-in_ok-keep-in-None-clause-acted : goal.returns-in_ok-keep-in-None-clause-acted
returns-in_ok-keep-in-None-clause-acted g c =
    settled_well g.W.Files.act c.args.outs.now c.args.places.now c.args.records.now _ _ _ _ c.in-None.is c.in_ok-look_over.ensures.acted c.in_ok-keep-in-None.ensures

pub lose-requires : goal.lose-requires
lose-requires g c = record { unused = free_still c.args.places.now c.in_ok-look_over.ensures.acted c.requires.unused }

pub returns-in_err-lose-in-Some-clause-acted : goal.returns-in_err-lose-in-Some-clause-acted
returns-in_err-lose-in-Some-clause-acted g c =
    settled_lost g.W.Files.act c.args.outs.now c.args.places.now c.args.records.now _ _ _ _ c.in-Some.found c.from_residual-in_err-lose-in-Some.result c.in-Some.is c.from_residual-in_err-lose-in-Some.ensures.0
    c.in_ok-look_over.ensures.acted c.in_err-lose-in-Some.ensures

pub returns-in_ok-lose-in-Some-clause-acted : goal.returns-in_ok-lose-in-Some-clause-acted
returns-in_ok-lose-in-Some-clause-acted g c =
    settled_wrongly g.W.Files.act c.args.outs.now c.args.places.now c.args.records.now _ _ _ _ c.in-Some.found c.in-Some.is c.in_ok-look_over.ensures.acted c.in_ok-lose-in-Some.ensures
