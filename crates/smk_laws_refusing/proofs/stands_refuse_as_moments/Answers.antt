use Rattle.smk_laws_refusing.proofs.AtRests.{anew_refuses_as_moment}
use Rattle.smk_laws_refusing.proofs.AsMoments.{begins_once_looked, begins_where_none_refuses, clear_refuses_as_moment}
use Rattle.smk_laws_refusing.proofs.AsMoments.{looks_keep_refusals, none_left_none_refuses}
use Rattle.smk_laws_refusing.proofs.stands_refuse_as_moments.Goals as goal

pub returns : goal.returns
returns c =
    record {
      same = clear_refuses_as_moment;
      anew = anew_refuses_as_moment;
      begins = begins_where_none_refuses;
      looks = looks_keep_refusals;
      looked = begins_once_looked;
      none_left = none_left_none_refuses;
    }
