use Rattle.smk_drive_course.proofs.OneMoment.{one_moment}
use Rattle.smk_drive_course.proofs.HasMoment.{has_moment}
use Rattle.smk_drive_course.proofs.Looks.{looks_keep_moments}
use Rattle.smk_drive_course.proofs.moments_are_one.Goals as goal

pub returns : goal.returns
returns c = record { one = one_moment; has = has_moment; looks = looks_keep_moments }
