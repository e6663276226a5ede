use Rattle.smk_store.proofs.Seeing.{one_left, none_left}
use Rattle.smk_store.proofs.sources.push_path.Goals as goal

pub returns-in-None : goal.returns-in-None
returns-in-None c = λ later. none_left c.args.p.now c.args.found.now c.args.path.now later c.args.stamps.now c.in-None.ensures.cases

pub returns-in_ok-push_source-in-Some : goal.returns-in_ok-push_source-in-Some
returns-in_ok-push_source-in-Some c = λ later.
    one_left c.args.p.now c.args.found.now c.push_source.new.found c.args.path.now c.in-Some.stamp.now c.args.stamps.now c.in-Some.more.now later c.in-Some.ensures.cases.0 c.in_ok-push_source-in-Some.ensures
