-- Calls at some places leave what is apart from these, and files that are neither at nor under one.
use Rattle.std.proofs.Common.{◌≡◌, inl, inr, Bool, true, false, ◌&&◌, ◌||◌, List, [], ◌∷◌}
use Rattle.std.proofs.Common.{Option, Some, None, Ok, Err, is_some, refl, ap, ◌∙◌, bytes_eq, true≢false}
use Rattle.std.specs.Prelude.{if◌then◌else◌}
use Rattle.std.proofs.lemmas.Bool.{or_parts, or_from}
use Rattle.smk_base.specs.Path.{is_at_or_under, is_under}
use Rattle.smk_base.proofs.Apart.{IsApart}
use Rattle.smk_world.specs.declared.event.Call.{Call}
use Rattle.smk_world.specs.declared.event.Call.TheVariants.{Looked, ReadFile, ReadFolder, Written, Created}
use Rattle.smk_world.specs.declared.event.Call.TheVariants.{Removed, MadeParents, Settled, Protected, Started, Waited}
use Rattle.smk_world.specs.declared.event.Change.{Change}
use Rattle.smk_world.specs.declared.event.Child.{Child}
use Rattle.smk_world.specs.declared.event.Event.{Event}
use Rattle.smk_world.specs.declared.event.NodeState.{NodeState}
use Rattle.smk_world.specs.declared.event.NodeState.TheVariants.{Owned, Known}
use Rattle.smk_world.specs.Requests.{Request, request}
use Rattle.smk_world.specs.Requests.Request.{Look, ReadUpTo, ListFolder, Write, Create, Remove, MakeParents, Settle, Protect, Start, Wait}
use Rattle.smk_world.specs.Trees.{IsIn, Path}
use Rattle.smk_world.specs.World.{World, after, children_after, firm, going, is_above, is_within, loose}
use Rattle.smk_world.specs.World.{node_after, reading, reads_folder, reads_nothing, run, standing, with_flag, with_folder}
use Rattle.smk_store.specs.Images.{Content, content_of}
use Rattle.smk_run.proofs.Calls.{EachCall}

-- the call is a look, or at these places
abbrev pub IsOf : List Path → Request → Type 0
IsOf ps (Look p) = Unit {0}
IsOf ps (ReadUpTo p limit) = Unit {0}
IsOf ps (ListFolder p) = Unit {0}
IsOf ps (Write p bytes) = IsIn ps p
IsOf ps (Create p) = IsIn ps p
IsOf ps (Remove p) = IsIn ps p
IsOf ps (MakeParents p) = IsIn ps p
IsOf ps (Settle qs) = (q : Path) → IsIn qs q → IsIn ps q
IsOf ps (Protect p) = IsIn ps p
IsOf ps (Start recipe logs command) = ⊥
IsOf ps Wait = ⊥

-- the place is apart from these
abbrev pub IsFree : List Path → Path → Type 0
IsFree ps q = (p : Path) → IsIn ps p → IsApart p q

-- ## Lists of places

pub none_within : (qs : List Path) (q : Path) → ((p : Path) → IsIn qs p → IsApart p q) → is_within q qs ≡ false
none_within [] q free = refl
none_within (p ∷ qs) q free = or_from (is_at_or_under q p) (is_within q qs) (free p (inl refl)).at_or_over (none_within qs q (λ x i. free x (inr i)))

pub none_above : (qs : List Path) (q : Path) → ((p : Path) → IsIn qs p → IsApart p q) → is_above q qs ≡ false
none_above [] q free = refl
none_above (p ∷ qs) q free = or_from (is_under p q) (is_above q qs) (free p (inl refl)).under (none_above qs q (λ x i. free x (inr i)))

pub within_of : (ps : List Path) (p q : Path) → IsIn ps p → is_within q ps ≡ false → is_at_or_under q p ≡ false
within_of [] p q at none = absurd at
within_of (s ∷ ps) p q (inl e) none = ap (is_at_or_under q) e ∙ (or_parts (is_at_or_under q s) (is_within q ps) none).0
within_of (s ∷ ps) p q (inr at) none = within_of ps p q at (or_parts (is_at_or_under q s) (is_within q ps) none).1

-- ## One place

other : (b : Bool) (s t : NodeState) → b ≡ false → (if b then t else s) ≡ s
other true s t h = absurd (true≢false h)
other false s t h = refl

second_false : (a b : Bool) → b ≡ false → (a && b) ≡ false
second_false true b h = h
second_false false b h = refl

neither : (a b c : Bool) → a ≡ false → b ≡ false → (a || (b && c)) ≡ false
neither a b c h k = or_from a (b && c) h (ap (λ x. x && c) k)

module _ (ps : List Path) (q : Path) (free : IsFree ps q) where
  call_keeps : (call : Call) (left : List Change) (cs : List Child) (s : NodeState) → IsOf ps (request call) → node_after call left cs q s ≡ s
  call_keeps (Looked p r) left cs s of = refl
  call_keeps (ReadFile p limit r) left cs s of = refl
  call_keeps (ReadFolder p r) left cs s of = refl
  call_keeps (Written p bytes r) left cs s of = other (bytes_eq q p) s (loose (standing left q) s) (free p of).differed
  call_keeps (Created p (Ok made)) left cs s of =
      other (made && bytes_eq q p) s (loose (standing left q) s) (second_false made (bytes_eq q p) (free p of).differed)
  call_keeps (Created p (Err e)) left cs s of =
      other (reads_nothing s && bytes_eq q p) s (loose (standing left q) s) (second_false (reads_nothing s) (bytes_eq q p) (free p of).differed)
  call_keeps (Removed p r) left cs s of = other (is_at_or_under q p) s (going (standing left q) s) (free p of).at_or_over
  call_keeps (MadeParents p (Ok u)) left cs s of = other (is_under p q) s (with_folder s) (free p of).under
  call_keeps (MadeParents p (Err e)) left cs s of =
      other (is_some (standing left q) && is_under p q) s (with_folder s) (second_false (is_some (standing left q)) (is_under p q) (free p of).under)
  call_keeps (Settled qs (Ok u)) left cs s of =
      other (is_within q qs || (is_above q qs && reads_folder s)) s (firm s)
      (neither (is_within q qs) (is_above q qs) (reads_folder s) (none_within qs q (λ p i. free p (of p i))) (none_above qs q (λ p i. free p (of p i))))
  call_keeps (Settled qs (Err e)) left cs s of = refl
  call_keeps (Protected p (Ok u)) left cs s of = other (bytes_eq q p) s (with_flag s) (free p of).differed
  call_keeps (Protected p (Err e)) left cs s of = other (bytes_eq q p) s (going (standing left q) (with_flag s)) (free p of).differed
  call_keeps (Started recipe logs command r) left cs s of = absurd of
  call_keeps (Waited r) left cs s of = absurd of

  -- such calls leave what stands there
  pub all_keep : (w : World) (es : List Event) → EachCall (IsOf ps) es → (run w es).nodes q ≡ w.nodes q
  all_keep w [] of = refl
  all_keep w (e ∷ es) of = all_keep (after w e) es of.1 ∙ call_keeps e.call e.left w.children (w.nodes q) of.0

module _ (ps : List Path) where
  call_children : (call : Call) (cs : List Child) → IsOf ps (request call) → children_after call cs ≡ cs
  call_children (Looked p r) cs of = refl
  call_children (ReadFile p limit r) cs of = refl
  call_children (ReadFolder p r) cs of = refl
  call_children (Written p bytes r) cs of = refl
  call_children (Created p r) cs of = refl
  call_children (Removed p r) cs of = refl
  call_children (MadeParents p r) cs of = refl
  call_children (Settled qs r) cs of = refl
  call_children (Protected p r) cs of = refl
  call_children (Started recipe logs command r) cs of = absurd of
  call_children (Waited r) cs of = absurd of

  pub all_children : (w : World) (es : List Event) → EachCall (IsOf ps) es → (run w es).children ≡ w.children
  all_children w [] of = refl
  all_children w (e ∷ es) of = all_children (after w e) es of.1 ∙ call_children e.call w.children of.0

-- ## Files

abbrev pub content : NodeState → Option Content
content s = content_of (reading s)

content_if : (b : Bool) (s t : NodeState) → content t ≡ content s → content (if b then t else s) ≡ content s
content_if true s t h = h
content_if false s t h = refl

folder_content : (s : NodeState) → content (with_folder s) ≡ content s
folder_content Owned = refl
folder_content (Known None besides) = refl
folder_content (Known (Some n) besides) = refl

firm_content : (s : NodeState) → content (firm s) ≡ content s
firm_content Owned = refl
firm_content (Known now besides) = refl

module _ (ps : List Path) (q : Path) (off : is_within q ps ≡ false) where
  not_at : (p : Path) → IsIn ps p → is_at_or_under q p ≡ false
  not_at p i = within_of ps p q i off

  differs : (p : Path) → IsIn ps p → bytes_eq q p ≡ false
  differs p i = (or_parts (bytes_eq q p) (is_under q p) (not_at p i)).0

  call_content :
      (call : Call) (left : List Change) (cs : List Child) (s : NodeState) → IsOf ps (request call) →
      content (node_after call left cs q s) ≡ content s
  call_content (Looked p r) left cs s of = refl
  call_content (ReadFile p limit r) left cs s of = refl
  call_content (ReadFolder p r) left cs s of = refl
  call_content (Written p bytes r) left cs s of = ap content (other (bytes_eq q p) s (loose (standing left q) s) (differs p of))
  call_content (Created p (Ok made)) left cs s of =
      ap content (other (made && bytes_eq q p) s (loose (standing left q) s) (second_false made (bytes_eq q p) (differs p of)))
  call_content (Created p (Err e)) left cs s of =
      ap content (other (reads_nothing s && bytes_eq q p) s (loose (standing left q) s) (second_false (reads_nothing s) (bytes_eq q p) (differs p of)))
  call_content (Removed p r) left cs s of = ap content (other (is_at_or_under q p) s (going (standing left q) s) (not_at p of))
  call_content (MadeParents p (Ok u)) left cs s of = content_if (is_under p q) s (with_folder s) (folder_content s)
  call_content (MadeParents p (Err e)) left cs s of = content_if (is_some (standing left q) && is_under p q) s (with_folder s) (folder_content s)
  call_content (Settled qs (Ok u)) left cs s of = content_if (is_within q qs || (is_above q qs && reads_folder s)) s (firm s) (firm_content s)
  call_content (Settled qs (Err e)) left cs s of = refl
  call_content (Protected p (Ok u)) left cs s of = ap content (other (bytes_eq q p) s (with_flag s) (differs p of))
  call_content (Protected p (Err e)) left cs s of = ap content (other (bytes_eq q p) s (going (standing left q) (with_flag s)) (differs p of))
  call_content (Started recipe logs command r) left cs s of = absurd of
  call_content (Waited r) left cs s of = absurd of

  -- such calls leave the file there
  pub all_content : (w : World) (es : List Event) → EachCall (IsOf ps) es → content ((run w es).nodes q) ≡ content (w.nodes q)
  all_content w [] of = refl
  all_content w (e ∷ es) of = all_content (after w e) es of.1 ∙ call_content e.call e.left w.children (w.nodes q) of.0
