use Rattle.std.proofs.Common.{ap, ◌∙◌, ◌++◌, ◌∷◌, [], string_bytes, rules}
use Rattle.std.specs.Ordering.{is_gt, nat_cmp}
use Rattle.std.specs.Cmp.Lexicographic.{slice_cmp}
use Rattle.smk_store.proofs.Loads.{contains_named}
use Rattle.smk_base.proofs.Ranges.{low_below_high}
use Rattle.smk_chain_derive.proofs.Lookups.{none_under}
use Rattle.smk_chain_derive.proofs.lookup.has_under.Goals as goal

pub range-requires : goal.range-requires
range-requires c =
    ap (λ l. is_gt (slice_cmp nat_cmp l (string_bytes c.in_ok-high.high))) c.in_ok-low.ensures
    ∙ ap (λ h. is_gt (slice_cmp nat_cmp (c.args.path.now ++ 47 ∷ []) h)) c.in_ok-high.ensures
    ∙ ap is_gt (low_below_high c.args.path.now)

pub returns-in-None : goal.returns-in-None
returns-in-None c = λ _ q under.
    contains_named q c.args.set.now.keys
    ∙ none_under c.args.path.now (string_bytes c.in_ok-low.low) (string_bytes c.in_ok-high.high) c.args.set.now.keys c.range.result
    c.in-None.ensures.steps.0 (c.range.ensures.between (search rules)) c.in_ok-low.ensures c.in_ok-high.ensures q under
