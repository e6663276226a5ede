use Rattle.std.proofs.Common.{drop, refl, ◌+◌, false}
use Rattle.smk_world.proofs.Devices.{still}
use Rattle.smk_store_members.specs.Members.{member_places}
use Rattle.smk_store_members.proofs.Going.{begun_listed, either_as, told_still}
use Rattle.smk_store_members.proofs.Listings.{listed_then, listed_on, listings_looked}
use Rattle.smk_store_members.proofs.members.walk_all.Goals as goal

pub returns-in_err-look_in-clause-listings : goal.returns-in_err-look_in-clause-listings
returns-in_err-look_in-clause-listings g c = listed_on _ c.in_err-look_in.was c.from_residual-in_err-look_in.ensures.1 c.look_in.ensures.listings

pub returns-then-not-branch-clause-told : goal.returns-then-not-branch-clause-told
returns-then-not-branch-clause-told g c = λ w at is_open.
    either_as c.in_ok-look_in.field-0 false _ _ c.if-not-branch.true
    (begun_listed w.nodes c.args.folder.now c.in_ok-top.top _ c.args.walk.now.found c.look_in.new.walk.found c.in_ok-look_in.field-0 c.in_ok-top.ensures refl c.requires.none (c.in_ok-look_in.ensures.told w at is_open))

pub members-init : goal.members-init
members-init g c = record {
  kept = c.in_ok-look_in.ensures.kept;
  listings = c.in_ok-look_in.ensures.listings;
  told = λ w at is_open.
      either_as c.in_ok-look_in.field-0 _ _ _ c.if-not-branch.false
      (begun_listed w.nodes c.args.folder.now c.in_ok-top.top _ c.args.walk.now.found c.look_in.new.walk.found c.in_ok-look_in.field-0 c.in_ok-top.ensures refl c.requires.none (c.in_ok-look_in.ensures.told w at is_open));
}

pub returns-in_err-look_at-clause-listings : goal.returns-in_err-look_at-clause-listings
returns-in_err-look_at-clause-listings g c =
    listed_then c.members.invariant.listings (listed_on _ c.in_err-look_at.was c.from_residual-in_err-look_at.ensures.1 c.look_at.ensures.listings)

pub returns-then-not-branch-2-clause-listings : goal.returns-then-not-branch-2-clause-listings
returns-then-not-branch-2-clause-listings g c = listed_then c.members.invariant.listings c.in_ok-look_at.ensures.listings

pub returns-then-not-branch-2-clause-told : goal.returns-then-not-branch-2-clause-told
returns-then-not-branch-2-clause-told g c = λ w at is_open.
    let u = still w (listings_looked c.members.invariant.listings) at in
    let p = c.args.folder.now in
    either_as c.in_ok-look_at.field-0 false _ _ c.if-not-branch-2.true
    (told_still w u.0 p c.members.walk.found c.look_at.new.walk.found (member_places p (drop c.members.next c.members.walk.found)) (member_places p (drop (c.members.next + 1) c.look_at.new.walk.found)) c.in_ok-look_at.field-0 u.2
    (c.in_ok-look_at.ensures.told u.0 u.1) is_open (c.members.invariant.told w at is_open))

pub members-preserved : goal.members-preserved
members-preserved g c = record {
  kept = c.in_ok-look_at.ensures.kept;
  listings = listed_then c.members.invariant.listings c.in_ok-look_at.ensures.listings;
  told = λ w at is_open.
      let u = still w (listings_looked c.members.invariant.listings) at in
      let p = c.args.folder.now in
      either_as c.in_ok-look_at.field-0 _ _ _ c.if-not-branch-2.false
      (told_still w u.0 p c.members.walk.found c.look_at.new.walk.found (member_places p (drop c.members.next c.members.walk.found)) (member_places p (drop (c.members.next + 1) c.look_at.new.walk.found)) c.in_ok-look_at.field-0 u.2
      (c.in_ok-look_at.ensures.told u.0 u.1) is_open (c.members.invariant.told w at is_open));
}
