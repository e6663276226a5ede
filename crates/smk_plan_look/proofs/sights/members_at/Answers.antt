use Rattle.smk_world.proofs.Devices.{looked_on}
use Rattle.smk_store_members.proofs.Listings.{listings_looked}
use Rattle.smk_plan_look.proofs.Sighting.{listed_as, open_folder}
use Rattle.smk_plan_look.proofs.sights.members_at.Goals as goal

pub returns-in_err-listed-clause-looked : goal.returns-in_err-listed-clause-looked
returns-in_err-listed-clause-looked g c = looked_on _ c.in_err-listed.was c.from_residual.ensures.1 (listings_looked c.members_of.ensures.listings)

pub returns-clause-looked : goal.returns-clause-looked
returns-clause-looked g c = listings_looked c.in_ok-listed.ensures.listings

pub returns-clause-told : goal.returns-clause-told
returns-clause-told g c = λ w at free reads.
    listed_as w.nodes c.args.path.now _ _ c.members_in.ensures (c.in_ok-listed.ensures.told w at (open_folder w.nodes c.args.path.now free reads))
