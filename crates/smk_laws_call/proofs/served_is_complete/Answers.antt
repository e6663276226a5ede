use Rattle.smk_laws_call.proofs.Drove.{drove_is_complete}
use Rattle.smk_laws_call.proofs.Working.{refused_plans_may_stop, served_listings_are_complete, served_runs_are_complete, work_is_complete}
use Rattle.smk_laws_call.proofs.served_is_complete.Goals as goal

pub returns : goal.returns
returns c =
    record {
      refused = refused_plans_may_stop;
      worked = work_is_complete;
      drove = drove_is_complete;
      run = served_runs_are_complete;
      listing = served_listings_are_complete;
    }
