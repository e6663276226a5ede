use Rattle.std.proofs.Common.{◌∙◌, not, List, ap}
use Rattle.smk_base.specs.declared.tree.Amount.{Amount}
use Rattle.smk_pick.specs.Shares.{fits_in}
use Rattle.smk_drive_pick.proofs.next.is_full.Goals as goal

pub returns : goal.returns
returns c =
    ap not
    (c.fits.ensures.value
    ∙ ap (λ (xs : List Amount). fits_in c.args.room.now (record { threads = c.args.threads; amounts = xs; priority = 0 })) c.new.ensures)
