use Rattle.smk_store_members.proofs.Going.{all_members, either_as}
use Rattle.smk_store_members.proofs.Listings.{listed_on, listed_memory}
use Rattle.smk_store_members.proofs.members.members_of.Goals as goal

pub returns-in_err-walk_all-clause-listings : goal.returns-in_err-walk_all-clause-listings
returns-in_err-walk_all-clause-listings g c = listed_on _ c.in_err-walk_all.was c.from_residual.ensures.1 c.walk_all.ensures.listings

pub returns-in_err-in_order-clause-listings : goal.returns-in_err-in_order-clause-listings
returns-in_err-in_order-clause-listings g c = listed_memory _ c.from_residual-in_err-in_order.ensures.1 c.in_ok-walk_all.ensures.listings

pub returns-clause-told : goal.returns-clause-told
returns-clause-told g c = λ w at is_open.
    all_members w.nodes c.args.folder.now c.walk_all.new.walk.found c.in_ok-in_order.field-0
    (either_as c.in_ok-walk_all.field-0 _ _ _ c.if-not-branch.false (c.in_ok-walk_all.ensures.told w at is_open)) c.in_ok-in_order.ensures c.in_ok-walk_all.ensures.kept.few
