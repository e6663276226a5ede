use Rattle.std.proofs.Common.{◌≡◌, map, take}
use Rattle.smk_plan_table.specs.Parts.{listing_in}
use Rattle.smk_plan_table.proofs.listings.listings_of.Given as goal

abbrev pub invariant-loop-folder : goal.invariant-loop-folder
invariant-loop-folder g l = l.found ≡ map (listing_in (g.T.Told.known l.told)) (take l.folder-index l.folders)
