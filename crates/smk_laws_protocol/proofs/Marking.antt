-- A mark is made, or is removed: each image after it is one before it, with or without the mark.
use Rattle.std.proofs.Common.{◌≡◌, ℕ, Bool, true, false, List, refl, sym, ap, subst, inl, arith, ◌∙◌, Option, Some, None}
use Rattle.std.specs.Prelude.{bytes_eq, IsTrue, IsSome, is_some, if◌then◌else◌, ◌&&◌, ◌||◌, not}
use Rattle.smk_world.specs.declared.event.Node.{Node}
use Rattle.smk_world.specs.declared.event.NodeState.{NodeState}
use Rattle.smk_world.specs.declared.event.NodeState.TheVariants.{Owned, Known}
use Rattle.smk_record.specs.declared.record.Record.{Record}
use Rattle.smk_world.specs.Trees.{Path, among, is_path_text}
use Rattle.smk_base.specs.Path.{is_under, is_at_or_under}
use Rattle.smk_laws_protocol.proofs.View.{View}
use Rattle.smk_laws_protocol.proofs.Views.{Nodes, EachImage, HasNames, reads, Leaves, view_of, place_node}
use Rattle.smk_world.specs.World.{World, MayLeave, reading, reads_nothing, IsRising}
use Rattle.smk_base.specs.Place.{mark_place}
use Rattle.smk_base.proofs.Places.{same_place, place_itself}
use Rattle.smk_laws_protocol.proofs.Moves.{with_mark, without_mark}
use Rattle.smk_laws_protocol.proofs.Places.{PlaceLaws, over, with_marked, back_view}

pub by_bool : {A : Type 0} (b : Bool) → (b ≡ true → A) → (b ≡ false → A) → A
by_bool true f g = f refl
by_bool false f g = g refl

-- a mark may have been made at a place where nothing read
pub record MayMark (w w' : World) (p : Path) : Type 0 where
  pub nothing : reads_nothing (w.nodes (mark_place p)) ≡ true
  pub others : (q : Path) → bytes_eq q (mark_place p) ≡ false → w'.nodes q ≡ w.nodes q

-- a mark that stood was removed, and may be there still
pub record MayUnmark (w w' : World) (p : Path) (n : Node) : Type 0 where
  pub stands : reading (w.nodes (mark_place p)) ≡ Some n
  pub others : (q : Path) → is_at_or_under q (mark_place p) ≡ false → w'.nodes q ≡ w.nodes q

none_stays : (s : NodeState) → reads_nothing s ≡ true → MayLeave s None
none_stays Owned h = tt
none_stays (Known None besides) h = inl refl
none_stays (Known (Some n) besides) h = absurd (no h)
  where
    no : false ≡ true → ⊥
    no h = grind arith

pub reads_stay : (s : NodeState) → MayLeave s (reading s)
reads_stay Owned = tt
reads_stay (Known n besides) = inl refl

pub no_truth : {A : Type 0} → false ≡ true → A
no_truth h = absurd (no h)
  where
    no : false ≡ true → ⊥
    no h = grind arith

module _ (laws : PlaceLaws) (read : List ℕ → Option Record) (w w' : World) (p : Path) where
  -- the image without the mark
  abbrev gone : Nodes → Nodes
  gone g q = if bytes_eq q (mark_place p) then None else g q

  abbrev before : Nodes → Nodes
  before g = over g (mark_place p) (gone g)

  before_leaves : MayMark w w' p → (g : Nodes) → Leaves w' g → Leaves w (before g)
  before_leaves made g leaves q = go (bytes_eq q (mark_place p)) (is_under q (mark_place p)) refl
    where
      other : bytes_eq q (mark_place p) ≡ false → MayLeave (w.nodes q) (g q)
      other e = subst (λ s. MayLeave s (g q)) (made.others q e) (leaves q)

      here : bytes_eq q (mark_place p) ≡ true → MayLeave (w.nodes q) None
      here e = subst (λ x. MayLeave (w.nodes x) None) (sym (same_place q (mark_place p) e)) (none_stays (w.nodes (mark_place p)) made.nothing)

      go : (b u : Bool) → bytes_eq q (mark_place p) ≡ b → MayLeave (w.nodes q) (if b || u then (if b then None else g q) else g q)
      go true u e = here e
      go false true e = other e
      go false false e = other e

  before_names : (names : List Path) (g : Nodes) → HasNames names g → HasNames names (before g)
  before_names names g complete q = go (is_at_or_under q (mark_place p)) (bytes_eq q (mark_place p))
    where
      go : (a b : Bool) → IsSome (if a then (if b then None else g q) else g q) → IsTrue (among names q)
      go true true h = no_truth h
      go true false h = complete q h
      go false b h = complete q h

  before_unmarked : (g : Nodes) (names : List Path) → (view_of read names (before g)).marked p ≡ false
  before_unmarked g names = go (is_path_text p)
    where
      go : (t : Bool) → is_some (if t then before g (mark_place p) else None) ≡ false
      go true = rw (laws.mark_mark p p, place_itself p) (λ i. is_some (if place_itself (mark_place p) i then None else g (mark_place p)))
      go false = refl

  covered_before : MayMark w w' p → (names : List Path) → HasNames names (reads w') → HasNames names (reads w)
  covered_before made names covered q h =
      by_bool (bytes_eq q (mark_place p))
      (λ e. no_truth (sym (nothing (w.nodes (mark_place p)) made.nothing) ∙ subst (λ x. IsSome (reading (w.nodes x))) (same_place q (mark_place p) e) h))
      (λ e. covered q (subst (λ s. IsSome (reading s)) (sym (made.others q e)) h))
    where
      nothing : (s : NodeState) → reads_nothing s ≡ true → is_some (reading s) ≡ false
      nothing Owned h = refl
      nothing (Known None besides) h = refl
      nothing (Known (Some n) besides) h = no_truth h

  -- what holds of each image without the mark, and so of it with and without, holds of each image after
  pub each_made :
      (P P' : View → Type 0) → ((v : View) (b : Bool) → v.marked p ≡ false → P v → P' (with_marked v p b)) →
      MayMark w w' p → EachImage read w P → EachImage read w' P'
  each_made P P' on made each names g rising complete covered leaves =
      subst P' (back_view laws read names g (gone g) p)
      (on (view_of read names (before g)) (is_some (place_node g mark_place p)) (before_unmarked g names)
      (each names (before g) rising (before_names names g complete) (covered_before made names covered) (before_leaves made g leaves)))

  -- the image with the mark as it was
  abbrev marked_before : Nodes → Nodes
  marked_before g = over g (mark_place p) (reads w)

  unmark_leaves : (n : Node) → MayUnmark w w' p n → (g : Nodes) → Leaves w' g → Leaves w (marked_before g)
  unmark_leaves n un g leaves q = go (is_at_or_under q (mark_place p)) refl
    where
      go : (a : Bool) → is_at_or_under q (mark_place p) ≡ a → MayLeave (w.nodes q) (if a then reads w q else g q)
      go true e = reads_stay (w.nodes q)
      go false e = subst (λ s. MayLeave s (g q)) (un.others q e) (leaves q)

  unmark_marked : is_path_text p ≡ true → (n : Node) → MayUnmark w w' p n → (g : Nodes) (names : List Path) → (view_of read names (marked_before g)).marked p ≡ true
  unmark_marked text n un g names = ap (λ t. is_some (if t then marked_before g (mark_place p) else None)) text ∙ there
    where
      there : is_some (marked_before g (mark_place p)) ≡ true
      there = rw (laws.mark_mark p p, place_itself p) (λ i. is_some (un.stands i))

  -- The same for a mark that stood. Names are asked to cover the world before it, too.
  pub each_unmarked :
      (P P' : View → Type 0) → ((v : View) (b : Bool) → v.marked p ≡ true → P v → P' (with_marked v p b)) →
      is_path_text p ≡ true → (n : Node) → MayUnmark w w' p n → EachImage read w P →
      (names : List Path) (g : Nodes) → IsRising names → HasNames names g → HasNames names (reads w) → Leaves w' g → P' (view_of read names g)
  each_unmarked P P' on text n un each names g rising complete covered leaves =
      subst P' (back_view laws read names g (reads w) p)
      (on (view_of read names (marked_before g)) (is_some (place_node g mark_place p)) (unmark_marked text n un g names)
      (each names (marked_before g) rising both covered (unmark_leaves n un g leaves)))
    where
      both : HasNames names (marked_before g)
      both q = go (is_at_or_under q (mark_place p))
        where
          go : (a : Bool) → IsSome (if a then reads w q else g q) → IsTrue (among names q)
          go true h = covered q h
          go false h = complete q h

-- ---- what holds with and without

if_or : (b c : Bool) → (if b then true else c) ≡ (c || b)
if_or true true = refl
if_or true false = refl
if_or false true = refl
if_or false false = refl

-- a mark more, or the same image
pub mark_or_same :
    (P : View → Type 0) (v : View) (p : Path) → v.marked p ≡ false → P v → P (with_mark v p) → (b : Bool) → P (with_marked v p b)
mark_or_same P v p unmarked same more true = subst P (λ i. record v { marked = λ q. sym (if_or (bytes_eq q p) (v.marked q)) i }) more
mark_or_same P v p unmarked same more false = subst P (λ i. record v { marked = λ q. at q i }) same
  where
    at : (q : Path) → v.marked q ≡ (if bytes_eq q p then false else v.marked q)
    at q = go (bytes_eq q p) refl
      where
        go : (b : Bool) → bytes_eq q p ≡ b → v.marked q ≡ (if b then false else v.marked q)
        go true e = subst (λ x. v.marked x ≡ false) (sym (same_place q p e)) unmarked
        go false e = refl

if_and : (b c : Bool) → (if b then false else c) ≡ (c && not b)
if_and true true = refl
if_and true false = refl
if_and false true = refl
if_and false false = refl

-- a mark less, or the same image
pub unmark_or_same :
    (P : View → Type 0) (v : View) (p : Path) → v.marked p ≡ true → P v → P (without_mark v p) → (b : Bool) → P (with_marked v p b)
unmark_or_same P v p marked same less false = subst P (λ i. record v { marked = λ q. sym (if_and (bytes_eq q p) (v.marked q)) i }) less
unmark_or_same P v p marked same less true = subst P (λ i. record v { marked = λ q. at q i }) same
  where
    at : (q : Path) → v.marked q ≡ (if bytes_eq q p then true else v.marked q)
    at q = go (bytes_eq q p) refl
      where
        go : (b : Bool) → bytes_eq q p ≡ b → v.marked q ≡ (if b then true else v.marked q)
        go true e = subst (λ x. v.marked x ≡ true) (sym (same_place q p e)) marked
        go false e = refl
