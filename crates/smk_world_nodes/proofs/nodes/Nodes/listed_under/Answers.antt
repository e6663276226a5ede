use Rattle.std.proofs.Common.{ap, ◌∙◌, ◌++◌, string_bytes, ◌≡◌, ◌∷◌, [], rules}
use Rattle.std.specs.Ordering.{is_gt, nat_cmp}
use Rattle.std.specs.Cmp.Lexicographic.{slice_cmp}
use Rattle.smk_base.proofs.Ranges.{low_below_high, is_between}
use Rattle.smk_world_nodes.proofs.Changes.{texts, entry_texts, passing, all_listed, listed_are_under, others_are_not, keys_rising}
use Rattle.smk_world_nodes.proofs.nodes.Nodes.listed_under.Goals as goal
use Rattle.smk_world_nodes.proofs.nodes.Nodes.listed_under.Goals.{In-None}

pub range-key-items-requires : goal.range-key-items-requires
range-key-items-requires c =
    ap (λ l. is_gt (slice_cmp nat_cmp l (string_bytes c.in_ok-high.high))) c.in_ok-low.ensures
    ∙ ap (λ h. is_gt (slice_cmp nat_cmp (c.args.p.now ++ 47 ∷ []) h)) c.in_ok-high.ensures
    ∙ ap is_gt (low_below_high c.args.p.now)

finished : (c : In-None) → texts c.loop-key.keys.items ≡ entry_texts (passing (is_between c.args.p.now) c.args.self.now.nodes.entries)
finished c = all_listed c.args.p.now (string_bytes c.in_ok-low.low) (string_bytes c.in_ok-high.high) c.loop-key.keys.items c.loop-key.key-iterator c.into_iter-key-iterator.result c.args.self.now.nodes.entries
    c.in-None.ensures.steps.0 c.loop-key.invariant (c.into_iter-key-iterator.ensures.into_iter_gives ∙ c.range-key-items.ensures.between (search rules)) c.in_ok-low.ensures c.in_ok-high.ensures

pub returns-clause-under : goal.returns-clause-under
returns-clause-under c = λ q h. listed_are_under c.args.p.now q c.loop-key.keys.items c.args.self.now.nodes.entries (finished c) h

pub returns-clause-all : goal.returns-clause-all
returns-clause-all c = λ q under h. others_are_not c.args.p.now q c.loop-key.keys.items c.args.self.now.nodes.entries (finished c) under h

pub returns-clause-exact : goal.returns-clause-exact
returns-clause-exact c = finished c

pub returns-clause-rising : goal.returns-clause-rising
returns-clause-rising c = keys_rising c.args.p.now c.args.self.now.nodes.entries c.range-key-items.ensures.ordered
