-- What the calls of one job leave as it was.
use Rattle.std.proofs.Common.{◌≡◌, inl, inr, Bool, true, false, ◌&&◌, ◌||◌, List, [], ◌∷◌, ◌++◌, map, Ok, Err, is_some, refl, ap, ◌∙◌, bytes_eq}
use Rattle.std.specs.Prelude.{if◌then◌else◌}
use Rattle.std.proofs.lemmas.Bool.{or_parts}
use Rattle.smk_base.specs.Path.{is_at_or_under, is_under, overlaps}
use Rattle.smk_base.specs.Place.{mark_place, note_place, record_place}
use Rattle.smk_base.proofs.Under.{at_or_under_further, at_when_under, false_unless, never_both, overlaps_above_both, overlaps_at}
use Rattle.smk_world.specs.declared.event.Call.{Call}
use Rattle.smk_world.specs.declared.event.Call.TheVariants.{Looked, ReadFile, ReadFolder, Written, Created, Removed, MadeParents, Settled, Protected, Started, Waited}
use Rattle.smk_world.specs.declared.event.Change.{Change}
use Rattle.smk_world.specs.declared.event.Event.{Event}
use Rattle.smk_world.specs.declared.event.NodeState.{NodeState}
use Rattle.smk_world.specs.declared.event.NodeState.TheVariants.{Owned, Known}
use Rattle.smk_world.specs.declared.event.Besides.TheVariants.{Anything}
use Rattle.smk_world.specs.Trees.{Each, IsIn, Path}
use Rattle.smk_world.specs.World.{World, after, firm, going, is_above, is_within, loose, node_after, out_paths, owned_by, owned_paths, reading, reads_folder, reads_nothing, run, standing, with_flag, with_folder}
use Rattle.smk_flow.specs.declared.job.Job.{Job}
use Rattle.smk_laws_moments.specs.Owning.{IsOwnCall, sites}
use Rattle.smk_laws_turns.specs.Leaving.{AreOwnCalls, OwnCallsLeave}

-- ## Lists of places

both_false : (a b : Bool) → a ≡ false → b ≡ false → (a || b) ≡ false
both_false a b h k = ap (λ x. x || b) h ∙ k

and_false : (a b : Bool) → b ≡ false → (a && b) ≡ false
and_false true b h = h
and_false false b h = refl

within_free : (ps : List Path) (p q : Path) → Each (λ s. overlaps s p ≡ false) ps → is_at_or_under q p ≡ true → is_within q ps ≡ false
within_free [] p q free at = refl
within_free (s ∷ ps) p q free at =
    both_false (is_at_or_under q s) (is_within q ps)
    (false_unless (is_at_or_under q s) (λ t. never_both (overlaps s p) (overlaps_above_both q s p t at) free.0))
    (within_free ps p q free.1 at)

above_free : (ps : List Path) (p q : Path) → Each (λ s. overlaps s p ≡ false) ps → is_at_or_under q p ≡ true → is_above q ps ≡ false
above_free [] p q free at = refl
above_free (s ∷ ps) p q free at =
    both_false (is_under s q) (is_above q ps)
    (false_unless (is_under s q)
    (λ t. never_both (overlaps s p) (overlaps_at s p (at_or_under_further s q p (at_when_under s q t) at)) free.0))
    (above_free ps p q free.1 at)

within_of : (ps : List Path) (p q : Path) → IsIn ps p → is_within q ps ≡ false → is_at_or_under q p ≡ false
within_of [] p q at none = absurd at
within_of (s ∷ ps) p q (inl e) none = ap (is_at_or_under q) e ∙ (or_parts (is_at_or_under q s) (is_within q ps) none).0
within_of (s ∷ ps) p q (inr at) none = within_of ps p q at (or_parts (is_at_or_under q s) (is_within q ps) none).1

above_of : (ps : List Path) (p q : Path) → IsIn ps p → is_above q ps ≡ false → is_under p q ≡ false
above_of [] p q at none = absurd at
above_of (s ∷ ps) p q (inl e) none = ap (λ x. is_under x q) e ∙ (or_parts (is_under s q) (is_above q ps) none).0
above_of (s ∷ ps) p q (inr at) none = above_of ps p q at (or_parts (is_under s q) (is_above q ps) none).1

within_left : (ps qs : List Path) (q : Path) → is_within q (ps ++ qs) ≡ false → is_within q ps ≡ false
within_left [] qs q none = refl
within_left (p ∷ ps) qs q none =
    let parts = or_parts (is_at_or_under q p) (is_within q (ps ++ qs)) none in
    both_false (is_at_or_under q p) (is_within q ps) parts.0 (within_left ps qs q parts.1)

within_right : (ps qs : List Path) (q : Path) → is_within q (ps ++ qs) ≡ false → is_within q qs ≡ false
within_right [] qs q none = none
within_right (p ∷ ps) qs q none = within_right ps qs q (or_parts (is_at_or_under q p) (is_within q (ps ++ qs)) none).1

within_both : (ps qs : List Path) (q : Path) → is_within q ps ≡ false → is_within q qs ≡ false → is_within q (ps ++ qs) ≡ false
within_both [] qs q first second = second
within_both (p ∷ ps) qs q first second =
    let parts = or_parts (is_at_or_under q p) (is_within q ps) first in
    both_false (is_at_or_under q p) (is_within q (ps ++ qs)) parts.0 (within_both ps qs q parts.1 second)

-- ## One call

firm_reads : (s : NodeState) → reading (firm s) ≡ reading s
firm_reads Owned = refl
firm_reads (Known now besides) = refl

settled_reads : (b : Bool) (s : NodeState) → reading (if b then firm s else s) ≡ reading s
settled_reads true s = firm_reads s
settled_reads false s = refl

-- nothing changes where the test fails
untouched : (b : Bool) (t s : NodeState) → b ≡ false → reading (if b then t else s) ≡ reading s
untouched b t s none = ap (λ c. reading (if c then t else s)) none

module _ (j : Job) (w : World) (q : Path) (within : is_within q (sites j) ≡ false) (above : is_above q (sites j) ≡ false) where
  off : (p : Path) → IsIn (sites j) p → is_at_or_under q p ≡ false
  off p at = within_of (sites j) p q at within

  not_at : (p : Path) → IsIn (sites j) p → bytes_eq q p ≡ false
  not_at p at = (or_parts (bytes_eq q p) (is_under q p) (off p at)).0

  not_above : (p : Path) → IsIn (sites j) p → is_under p q ≡ false
  not_above p at = above_of (sites j) p q at above

  abbrev rest : List Path
  rest = map mark_place (out_paths j.recipe) ++ (map record_place (out_paths j.recipe) ++ map note_place j.logs)

  not_owned : is_within q (owned_paths j.recipe j.logs) ≡ false
  not_owned =
      within_both (out_paths j.recipe) j.logs q (within_left (out_paths j.recipe) rest q (within_left (out_paths j.recipe ++ rest) j.logs q within))
      (within_right (out_paths j.recipe ++ rest) j.logs q within)

  one_call : (call : Call) (left : List Change) → IsOwnCall j w call → reading (node_after call left w.children q (w.nodes q)) ≡ reading (w.nodes q)
  one_call (Looked p r) left own = refl
  one_call (ReadFile p limit r) left own = refl
  one_call (ReadFolder p r) left own = refl
  one_call (Written p bytes r) left own = untouched (bytes_eq q p) (loose (standing left q) (w.nodes q)) (w.nodes q) (not_at p own)
  one_call (Created p (Ok made)) left own =
      untouched (made && bytes_eq q p) (loose (standing left q) (w.nodes q)) (w.nodes q) (and_false made (bytes_eq q p) (not_at p own))
  one_call (Created p (Err e)) left own =
      untouched (reads_nothing (w.nodes q) && bytes_eq q p) (loose (standing left q) (w.nodes q)) (w.nodes q)
      (and_false (reads_nothing (w.nodes q)) (bytes_eq q p) (not_at p own))
  one_call (Removed p r) left own = untouched (is_at_or_under q p) (going (standing left q) (w.nodes q)) (w.nodes q) (off p own)
  one_call (MadeParents p (Ok u)) left own = untouched (is_under p q) (with_folder (w.nodes q)) (w.nodes q) (not_above p own)
  one_call (MadeParents p (Err e)) left own =
      untouched (is_some (standing left q) && is_under p q) (with_folder (w.nodes q)) (w.nodes q)
      (and_false (is_some (standing left q)) (is_under p q) (not_above p own))
  one_call (Settled ps (Ok u)) left own = settled_reads (is_within q ps || (is_above q ps && reads_folder (w.nodes q))) (w.nodes q)
  one_call (Settled ps (Err e)) left own = refl
  one_call (Protected p (Ok u)) left own = untouched (bytes_eq q p) (with_flag (w.nodes q)) (w.nodes q) (not_at p own)
  one_call (Protected p (Err e)) left own =
      untouched (bytes_eq q p) (going (standing left q) (with_flag (w.nodes q))) (w.nodes q) (not_at p own)
  one_call (Started recipe logs command (Ok number)) left own =
      untouched (is_within q (owned_paths recipe logs)) Owned (w.nodes q) ((λ i. is_within q (owned_paths (own.0 i) (own.1 i))) ∙ not_owned)
  one_call (Started recipe logs command (Err e)) left own = refl
  one_call (Waited (Ok ended)) left own =
      untouched (is_within q (owned_by ended.number w.children)) (Known (standing left q) Anything) (w.nodes q) (ap (is_within q) own ∙ not_owned)
  one_call (Waited (Err e)) left own = refl

-- ## All calls

module _ (j : Job) (q : Path) (within : is_within q (sites j) ≡ false) (above : is_above q (sites j) ≡ false) where
  all_calls : (w : World) (es : List Event) → AreOwnCalls j w es → reading ((run w es).nodes q) ≡ reading (w.nodes q)
  all_calls w [] own = refl
  all_calls w (e ∷ es) own = all_calls (after w e) es own.1 ∙ one_call j w q within above e.call e.left own.0

pub own_calls_leave : OwnCallsLeave
own_calls_leave j w es p own free q at = all_calls j q (within_free (sites j) p q free at) (above_free (sites j) p q free at) w es own
