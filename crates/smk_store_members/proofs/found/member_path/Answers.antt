use Rattle.std.proofs.Common.{refl}
use Rattle.smk_store_members.proofs.Sets.{member_is}
use Rattle.smk_store_members.proofs.found.member_path.Goals as goal

pub returns-in-Ok-join : goal.returns-in-Ok-join
returns-in-Ok-join c = member_is c.args.path.now c.args.text.now c.in-Ok.name c.in-Ok.ensures.path (c.in-Ok.ensures.is_path refl) c.utf8.text (c.in-Ok-join.ensures.is_path refl)
