use Rattle.smk_world.proofs.Devices.{listing_told}
use Rattle.smk_store_members.proofs.Going.{strange_listed, listed_good}
use Rattle.smk_store_members.proofs.Listings.{listed_one, listed_on, listed_memory}
use Rattle.smk_store_members.proofs.members.look_in.Goals as goal

pub returns-in_err-listing-clause-listings : goal.returns-in_err-listing-clause-listings
returns-in_err-listing-clause-listings g c = listed_on _ c.in_err-listing.was c.from_residual.ensures.1 (listed_one c.requires.inside c.list.ensures)

pub returns-then-listing-clause-listings : goal.returns-then-listing-clause-listings
returns-then-listing-clause-listings g c = listed_one c.requires.inside c.in_ok-listing.ensures

pub returns-then-listing-clause-told : goal.returns-then-listing-clause-told
returns-then-listing-clause-told g c = λ w at is_open.
    strange_listed w c.args.path.now c.args.folder.now c.args.front.now c.args.walk.now.found c.args.walk.now.found c.in_ok-listing.listing is_open
    (listing_told w c.list.ensures c.in_ok-listing.was at) c.if-listing.true

pub returns-in_err-good-clause-listings : goal.returns-in_err-good-clause-listings
returns-in_err-good-clause-listings g c = listed_memory _ c.from_residual-in_err-good.ensures.1 (listed_one c.requires.inside c.in_ok-listing.ensures)

pub returns-clause-listings : goal.returns-clause-listings
returns-clause-listings g c = listed_one c.requires.inside c.in_ok-listing.ensures

pub returns-clause-told : goal.returns-clause-told
returns-clause-told g c = λ w at is_open.
    listed_good w c.args.path.now c.args.folder.now c.args.front.now c.args.walk.now.found c.add_all.new.walk.found c.in_ok-listing.listing c.as_slice.result.now c.in_ok-good.good is_open
    (listing_told w c.list.ensures c.in_ok-listing.was at) c.if-listing.false c.as_slice.ensures c.in_ok-good.ensures.added
