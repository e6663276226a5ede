use Rattle.std.proofs.Common.{rules}
use Rattle.std.specs.Cmp.Lexicographic.{slice_cmp}
use Rattle.std.specs.Ordering.{nat_cmp}
use Rattle.std.proofs.lemmas.Fn.{always_returns_same}
use Rattle.smk_record.proofs.Rising.{searched_ok, searched_err}
use Rattle.smk_record.proofs.valid.is_member_folder.Goals as goal

pub returns-in-Ok : goal.returns-in-Ok
returns-in-Ok c =
    searched_ok c.args.folder.now c.args.members.now c.in-Ok.i c.index-members-i.result c.requires c.in-Ok.ensures.bound
    (c.in-Ok.ensures.position (λ m. slice_cmp nat_cmp m.name c.args.folder.now) (always_returns_same _ _ _ (λ a r q k. search rules)))

pub returns-in-Err : goal.returns-in-Err
returns-in-Err c =
    searched_err c.args.folder.now c.args.members.now c.in-Err.field-0 c.requires
    (c.in-Err.ensures.position (λ m. slice_cmp nat_cmp m.name c.args.folder.now) (always_returns_same _ _ _ (λ a r q k. search rules)))
