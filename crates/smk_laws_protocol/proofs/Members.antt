-- The members of a folder in a view: one for each path under it where something stands.
use Rattle.std.proofs.Common.{◌≡◌, ℕ, Bool, true, false, List, [], ◌∷◌, length, drop, ◌+◌, refl, sym, ap, subst, inl, inr, arith, ◌∙◌, Option, None}
use Rattle.std.specs.Prelude.{IsSome, is_some, bytes_eq, if◌then◌else◌, ◌&&◌}
use lib.Pointwise.{pointwise}
use Rattle.smk_world.specs.declared.event.Node.{Node}
use Rattle.smk_record.specs.declared.record.Member.{Member}
use Rattle.smk_record.specs.declared.record.Record.{Record}
use Rattle.smk_world.specs.Trees.{Path, IsIn}
use Rattle.smk_store.specs.Images.{is_outside, is_directory}
use Rattle.smk_base.specs.Path.{is_under}
use Rattle.smk_record.specs.Records.{same_member, same_flag}
use Rattle.smk_laws_protocol.proofs.Views.{Nodes, HasNames, view_of, path_node, names_in}
use Rattle.smk_laws_protocol.proofs.Basics.{in_among, in_filter, filter_in, clash}
use Rattle.smk_laws_protocol.proofs.Calls.{in_map}
use Rattle.smk_base.proofs.Places.{same_place}
use Rattle.smk_laws_protocol.proofs.Settled.{map_in}

both : (a b : Bool) → a ≡ true → b ≡ true → (a && b) ≡ true
both a b h k = grind arith

left : (a b : Bool) → (a && b) ≡ true → a ≡ true
left a b h = grind arith

right : (a b : Bool) → (a && b) ≡ true → b ≡ true
right a b h = grind arith

abbrev pub member : Nodes → Path → Path → Member
member f p q = record { folder = is_directory (path_node f q); name = drop (length p + 1) q }

pub member_in :
    (read : List ℕ → Option Record) (names : List Path) (f : Nodes) (p q : Path) → HasNames names f → is_under q p ≡ true → is_outside q ≡ true → IsSome (f q) → IsIn ((view_of read names f).members p) (member f p q)
member_in read names f p q complete under path some =
    map_in (member f p) (names_in names (path_node f) p) q
    (filter_in (λ q. is_under q p && is_some (path_node f q)) names q (in_among names q (complete q some))
    (both (is_under q p) (is_some (path_node f q)) under (subst (λ (b : Bool). is_some (if b then f q else None) ≡ true) (sym path) some)))

pub in_member :
    (read : List ℕ → Option Record) (names : List Path) (f : Nodes) (p : Path) (m : Member) → IsIn ((view_of read names f).members p) m →
    (q : Path) × (is_under q p ≡ true) × IsSome (f q) × (m.name ≡ drop (length p + 1) q)
in_member read names f p m i =
    let x = in_map (member f p) (names_in names (path_node f) p) m i in
    let k = in_filter (λ q. is_under q p && is_some (path_node f q)) names x.0 x.1 in
    (x.0, left (is_under x.0 p) (is_some (path_node f x.0)) k.1, some (is_outside x.0) (f x.0) (right (is_under x.0 p) (is_some (path_node f x.0)) k.1), ap (λ (y : Member). y.name) x.2)
  where
    some : (b : Bool) (n : Option Node) → is_some (if b then n else None) ≡ true → IsSome n
    some true n h = h
    some false n h = clash false h refl

same_name : (a b : Member) → same_member a b ≡ true → a.name ≡ b.name
same_name a b h = same_place a.name b.name (right (same_flag a.folder b.folder) (bytes_eq a.name b.name) h)

-- each of the one list has one of the same name in the other
pub name_in : (xs ys : List Member) (m : Member) → pointwise same_member xs ys ≡ true → IsIn ys m → (x : Member) × IsIn xs x × (x.name ≡ m.name)
name_in [] [] m h i = absurd i
name_in [] (y ∷ ys) m h i = clash false h refl
name_in (x ∷ xs) [] m h i = absurd i
name_in (x ∷ xs) (y ∷ ys) m h (inl e) = (x, inl refl, same_name x y (left (same_member x y) (pointwise same_member xs ys) h) ∙ ap (λ (z : Member). z.name) (sym e))
name_in (x ∷ xs) (y ∷ ys) m h (inr i) = let r = name_in xs ys m (right (same_member x y) (pointwise same_member xs ys) h) i in (r.0, inr r.1, r.2)
