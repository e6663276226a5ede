use Rattle.smk_world_mem.specs.Work.{world_in}
use Rattle.smk_trial.proofs.trying.run_all.Goals as goal

pub returns : goal.returns
returns g c =
    let third = c.in_ok-third.ensures in record {
      once = world_in c.run_once.new.work;
      first_run = c.in_ok-first.ensures;
      twice = world_in c.run_once-2.new.work;
      second_run = c.in_ok-second.ensures;
      edited = world_in c.edit.new.work;
      edit = c.in_ok-edit.ensures;
      third_run = third;
      joined = c.in_ok-total.ensures third.exit third.ends third.rests;
    }
