-- Calls at some places leave what is free of them.
use Rattle.std.proofs.Common.{◌≡◌, inl, inr, Bool, true, false, ◌&&◌, ◌||◌, List, [], ◌∷◌, ◌++◌, Some, None, Ok, Err, is_some, refl, ap, ◌∙◌, bytes_eq}
use Rattle.std.specs.Prelude.{if◌then◌else◌}
use Rattle.std.proofs.lemmas.Bool.{or_parts}
use Rattle.smk_base.specs.Path.{is_at_or_under, is_under, overlaps}
use Rattle.smk_base.proofs.Under.{at_or_under_further, at_when_under, false_unless, never_both, overlaps_above_both, overlaps_at}
use Rattle.smk_world.specs.declared.event.Call.{Call}
use Rattle.smk_world.specs.declared.event.Call.TheVariants.{Looked, ReadFile, ReadFolder, Written, Created, Removed, MadeParents, Settled, Protected, Started, Waited}
use Rattle.smk_world.specs.declared.event.Change.{Change}
use Rattle.smk_world.specs.declared.event.Child.{Child}
use Rattle.smk_world.specs.declared.event.Event.{Event}
use Rattle.smk_world.specs.declared.event.NodeState.{NodeState}
use Rattle.smk_world.specs.declared.event.NodeState.TheVariants.{Owned, Known}
use Rattle.smk_world.specs.Requests.{Request, request}
use Rattle.smk_world.specs.Requests.Request.{Look, ReadUpTo, ListFolder, Write, Create, Remove, MakeParents, Settle, Protect, Start, Wait}
use Rattle.smk_world.specs.Trees.{Each, IsIn, Path}
use Rattle.smk_world.specs.World.{World, after, firm, going, is_above, is_within, loose, node_after, owned_paths, reading, reads_folder, reads_nothing, run, standing, with_flag, with_folder}
use Rattle.smk_store.specs.Images.{content_of}
use Rattle.smk_run.proofs.Calls.{EachCall}
use Rattle.smk_laws_turns.specs.Places.{IsSameUnder}

-- the call changes nothing, or is at one of these places; or it starts a child that owns none but these
abbrev pub IsCallAt : List Path → Request → Type 0
IsCallAt ps (Look p) = Unit {0}
IsCallAt ps (ReadUpTo p limit) = Unit {0}
IsCallAt ps (ListFolder p) = Unit {0}
IsCallAt ps (Write p bytes) = IsIn ps p
IsCallAt ps (Create p) = IsIn ps p
IsCallAt ps (Remove p) = IsIn ps p
IsCallAt ps (MakeParents p) = IsIn ps p
IsCallAt ps (Settle qs) = Unit {0}
IsCallAt ps (Protect p) = IsIn ps p
IsCallAt ps (Start recipe logs command) = (q : Path) → is_within q (owned_paths recipe logs) ≡ true → is_within q ps ≡ true
IsCallAt ps Wait = ⊥

-- none of them is the path, or lies under or above it
abbrev pub AreFree : Path → List Path → Type 0
AreFree p ps = Each (λ s. overlaps s p ≡ false) ps

-- ## Lists of places

pub both_false : (a b : Bool) → a ≡ false → b ≡ false → (a || b) ≡ false
both_false a b h k = ap (λ x. x || b) h ∙ k

and_false : (a b : Bool) → b ≡ false → (a && b) ≡ false
and_false true b h = h
and_false false b h = refl

pub within_free : (ps : List Path) (p q : Path) → AreFree p ps → is_at_or_under q p ≡ true → is_within q ps ≡ false
within_free [] p q free at = refl
within_free (s ∷ ps) p q free at =
    both_false (is_at_or_under q s) (is_within q ps)
    (false_unless (is_at_or_under q s) (λ t. never_both (overlaps s p) (overlaps_above_both q s p t at) free.0))
    (within_free ps p q free.1 at)

above_free : (ps : List Path) (p q : Path) → AreFree p ps → is_at_or_under q p ≡ true → is_above q ps ≡ false
above_free [] p q free at = refl
above_free (s ∷ ps) p q free at =
    both_false (is_under s q) (is_above q ps)
    (false_unless (is_under s q)
    (λ t. never_both (overlaps s p) (overlaps_at s p (at_or_under_further s q p (at_when_under s q t) at)) free.0))
    (above_free ps p q free.1 at)

pub within_of : (ps : List Path) (p q : Path) → IsIn ps p → is_within q ps ≡ false → is_at_or_under q p ≡ false
within_of [] p q at none = absurd at
within_of (s ∷ ps) p q (inl e) none = ap (is_at_or_under q) e ∙ (or_parts (is_at_or_under q s) (is_within q ps) none).0
within_of (s ∷ ps) p q (inr at) none = within_of ps p q at (or_parts (is_at_or_under q s) (is_within q ps) none).1

above_of : (ps : List Path) (p q : Path) → IsIn ps p → is_above q ps ≡ false → is_under p q ≡ false
above_of [] p q at none = absurd at
above_of (s ∷ ps) p q (inl e) none = ap (λ x. is_under x q) e ∙ (or_parts (is_under s q) (is_above q ps) none).0
above_of (s ∷ ps) p q (inr at) none = above_of ps p q at (or_parts (is_under s q) (is_above q ps) none).1

pub within_both : (ps qs : List Path) (q : Path) → is_within q ps ≡ false → is_within q qs ≡ false → is_within q (ps ++ qs) ≡ false
within_both [] qs q first second = second
within_both (p ∷ ps) qs q first second =
    let parts = or_parts (is_at_or_under q p) (is_within q ps) first in
    both_false (is_at_or_under q p) (is_within q (ps ++ qs)) parts.0 (within_both ps qs q parts.1 second)

-- ## One call

firm_reads : (s : NodeState) → reading (firm s) ≡ reading s
firm_reads Owned = refl
firm_reads (Known now besides) = refl

pub settled_reads : (b : Bool) (s : NodeState) → reading (if b then firm s else s) ≡ reading s
settled_reads true s = firm_reads s
settled_reads false s = refl

-- nothing changes where the test fails
untouched : (b : Bool) (t s : NodeState) → b ≡ false → reading (if b then t else s) ≡ reading s
untouched b t s none = ap (λ c. reading (if c then t else s)) none

folder_content : (s : NodeState) → content_of (reading (with_folder s)) ≡ content_of (reading s)
folder_content Owned = refl
folder_content (Known None besides) = refl
folder_content (Known (Some n) besides) = refl

made_content : (b : Bool) (s : NodeState) → content_of (reading (if b then with_folder s else s)) ≡ content_of (reading s)
made_content true s = folder_content s
made_content false s = refl

module _ (ps : List Path) (q : Path) (within : is_within q ps ≡ false) (cs : List Child) (s : NodeState) where
  not_under : (p : Path) → IsIn ps p → is_at_or_under q p ≡ false
  not_under p at = within_of ps p q at within

  not_at : (p : Path) → IsIn ps p → bytes_eq q p ≡ false
  not_at p at = (or_parts (bytes_eq q p) (is_under q p) (not_under p at)).0

  -- what reads there, but for folders that are made
  one_call : (call : Call) (left : List Change) (above : is_above q ps ≡ false) → IsCallAt ps (request call) → reading (node_after call left cs q s) ≡ reading s
  one_call (Looked p r) left above at = refl
  one_call (ReadFile p limit r) left above at = refl
  one_call (ReadFolder p r) left above at = refl
  one_call (Written p bytes r) left above at = untouched (bytes_eq q p) (loose (standing left q) s) s (not_at p at)
  one_call (Created p (Ok made)) left above at = untouched (made && bytes_eq q p) (loose (standing left q) s) s (and_false made (bytes_eq q p) (not_at p at))
  one_call (Created p (Err e)) left above at =
      untouched (reads_nothing s && bytes_eq q p) (loose (standing left q) s) s (and_false (reads_nothing s) (bytes_eq q p) (not_at p at))
  one_call (Removed p r) left above at = untouched (is_at_or_under q p) (going (standing left q) s) s (not_under p at)
  one_call (MadeParents p (Ok u)) left above at = untouched (is_under p q) (with_folder s) s (above_of ps p q at above)
  one_call (MadeParents p (Err e)) left above at =
      untouched (is_some (standing left q) && is_under p q) (with_folder s) s (and_false (is_some (standing left q)) (is_under p q) (above_of ps p q at above))
  one_call (Settled qs (Ok u)) left above at = settled_reads (is_within q qs || (is_above q qs && reads_folder s)) s
  one_call (Settled qs (Err e)) left above at = refl
  one_call (Protected p (Ok u)) left above at = untouched (bytes_eq q p) (with_flag s) s (not_at p at)
  one_call (Protected p (Err e)) left above at = untouched (bytes_eq q p) (going (standing left q) (with_flag s)) s (not_at p at)
  one_call (Started recipe logs command (Ok number)) left above at =
      untouched (is_within q (owned_paths recipe logs)) Owned s
      (false_unless (is_within q (owned_paths recipe logs)) (λ t. never_both (is_within q ps) (at q t) within))
  one_call (Started recipe logs command (Err e)) left above at = refl
  one_call (Waited r) left above at = absurd at

  -- which file stands there
  one_file : (call : Call) (left : List Change) → IsCallAt ps (request call) → content_of (reading (node_after call left cs q s)) ≡ content_of (reading s)
  one_file (Looked p r) left at = refl
  one_file (ReadFile p limit r) left at = refl
  one_file (ReadFolder p r) left at = refl
  one_file (Written p bytes r) left at = ap content_of (untouched (bytes_eq q p) (loose (standing left q) s) s (not_at p at))
  one_file (Created p (Ok made)) left at =
      ap content_of (untouched (made && bytes_eq q p) (loose (standing left q) s) s (and_false made (bytes_eq q p) (not_at p at)))
  one_file (Created p (Err e)) left at =
      ap content_of (untouched (reads_nothing s && bytes_eq q p) (loose (standing left q) s) s (and_false (reads_nothing s) (bytes_eq q p) (not_at p at)))
  one_file (Removed p r) left at = ap content_of (untouched (is_at_or_under q p) (going (standing left q) s) s (not_under p at))
  one_file (MadeParents p (Ok u)) left at = made_content (is_under p q) s
  one_file (MadeParents p (Err e)) left at = made_content (is_some (standing left q) && is_under p q) s
  one_file (Settled qs (Ok u)) left at = ap content_of (settled_reads (is_within q qs || (is_above q qs && reads_folder s)) s)
  one_file (Settled qs (Err e)) left at = refl
  one_file (Protected p (Ok u)) left at = ap content_of (untouched (bytes_eq q p) (with_flag s) s (not_at p at))
  one_file (Protected p (Err e)) left at = ap content_of (untouched (bytes_eq q p) (going (standing left q) (with_flag s)) s (not_at p at))
  one_file (Started recipe logs command (Ok number)) left at =
      ap content_of (untouched (is_within q (owned_paths recipe logs)) Owned s
      (false_unless (is_within q (owned_paths recipe logs)) (λ t. never_both (is_within q ps) (at q t) within)))
  one_file (Started recipe logs command (Err e)) left at = refl
  one_file (Waited r) left at = absurd at

-- ## All calls

all_calls :
    (ps : List Path) (q : Path) → is_within q ps ≡ false → is_above q ps ≡ false → (w : World) (es : List Event) → EachCall (IsCallAt ps) es →
    reading ((run w es).nodes q) ≡ reading (w.nodes q)
all_calls ps q within above w [] each = refl
all_calls ps q within above w (e ∷ es) each =
    all_calls ps q within above (after w e) es each.1 ∙ one_call ps q within w.children (w.nodes q) e.call e.left above each.0

-- what stands at a path and under it, where the places are free of it
pub calls_leave : (ps : List Path) (w : World) (es : List Event) (p : Path) → EachCall (IsCallAt ps) es → AreFree p ps → IsSameUnder w (run w es) p
calls_leave ps w es p each free q at = all_calls ps q (within_free ps p q free at) (above_free ps p q free at) w es each

-- which file stands at a path that is at or under none of them
pub calls_keep_files :
    (ps : List Path) (q : Path) → is_within q ps ≡ false → (w : World) (es : List Event) → EachCall (IsCallAt ps) es →
    content_of (reading ((run w es).nodes q)) ≡ content_of (reading (w.nodes q))
calls_keep_files ps q within w [] each = refl
calls_keep_files ps q within w (e ∷ es) each =
    calls_keep_files ps q within (after w e) es each.1 ∙ one_file ps q within w.children (w.nodes q) e.call e.left each.0
