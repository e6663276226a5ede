use Rattle.std.proofs.Common.{◌++◌, ◌∙◌}
use Rattle.smk_drive_more.proofs.listings.listings_now.Goals as goal

pub returns-clause-ok : goal.returns-clause-ok
returns-clause-ok c =
    let before = c.in_ok-add_listings.ensures.ok ∙ (λ i. c.new-lists.ensures i ++ (c.jobs.ensures i).lists) in
    c.in_ok-add_listings-2.ensures.ok ∙ (λ i. before i ++ c.known.ensures i)
