-- An image with the marks of some outputs as they are now.
use Rattle.std.proofs.Common.{◌≡◌, ◌⊎◌, ◌≤◌, ℕ, suc, Bool, true, false, List, refl, sym, ap, subst, inl, inr, arith, ◌∙◌, Option, Some, None}
use Rattle.std.specs.Prelude.{IsTrue, IsSome, is_some, option_map, if◌then◌else◌, ◌||◌}
use Rattle.std.specs.List.{list_any}
use Rattle.smk_world.specs.declared.event.Node.{Node}
use Rattle.smk_record.specs.declared.record.Record.{Record}
use Rattle.smk_world.specs.Trees.{Path, among, IsIn, is_path_text}
use Rattle.smk_store.specs.Images.{is_outside}
use Rattle.smk_store.specs.Trust.{Eased}
use Rattle.smk_record.specs.Records.{core}
use Rattle.smk_laws_protocol.proofs.Views.{Nodes, reads, view_of, view_by, path_node, read_at, place_node}
use Rattle.smk_world.specs.World.{World, MayLeave}
use Rattle.smk_base.specs.Path.{is_at_or_under}
use Rattle.smk_base.specs.Place.{mark_place, record_place, note_place}
use Rattle.smk_store.specs.Soundness.{Outside}
use Rattle.smk_laws_protocol.specs.Protocol.{OpenJob}
use Rattle.smk_laws_protocol.proofs.Rows.{now}
use Rattle.smk_laws_protocol.proofs.Basics.{some_of, any_by, none_by, by_test, clash}
use Rattle.smk_laws_protocol.proofs.Marking.{reads_stay}
use Rattle.smk_laws_protocol.proofs.Naming.{IsImage}
use Rattle.smk_base.proofs.Places.{same_place, place_itself}
use Rattle.smk_laws_protocol.proofs.Texts.{Texts}

-- an image with other marks, as a job that begins may look at it
pub record Looked (o : Outside) (w : World) (j : OpenJob) (e e' : Eased) (names : List Path) (f : Nodes) : Type 0 where
  pub nodes : Nodes
  pub image : IsImage w names nodes
  pub marks : Path → Bool
  pub is : record (view_of o.read names f) { marked = marks } ≡ view_of o.read names nodes
  pub fewer : (q : Path) → (view_of o.read names f).marked q ≡ false → marks q ≡ false
  pub eased : (q : Path) (r : Record) → e' q r → e q r ⊎ (marks q ≡ false)

pub has_by_record : (read : List ℕ → Option Record) (q : Path) (n : Option Node) → IsSome (option_map core (read_at read q n)) → is_some n ≡ true
has_by_record read q None k = clash false k refl
has_by_record read q (Some n) k = refl

pub some_by : {A : Type 0} (x : Option A) (a : A) → x ≡ Some a → IsSome x
some_by x a h = rw h refl

pub above_top : {A : Type 0} (n top : ℕ) → n ≤ top → n ≡ suc top → A
above_top n top h k = absurd (no n top h k)
  where
    no : (n top : ℕ) → n ≤ top → n ≡ suc top → ⊥
    no n top h k = omega arith

pub up : (n top top' : ℕ) → n ≤ top → (top' ≡ top) ⊎ (top' ≡ suc top) → n ≤ top'
up n top top' h (inl k) = omega arith
up n top top' h (inr k) = omega arith

pub at_most : (n m : ℕ) → n ≡ m → n ≤ m
at_most n m h = omega arith

-- the image with the marks of some outputs as they are now
module _ (o : Outside) (texts : Texts o.read) (w : World) (outs : List Path) (names : List Path) (f : Nodes) (i : IsImage w names f) where
  abbrev pub at_marks : Path → Bool
  at_marks q = list_any (λ p. is_at_or_under q (mark_place p)) outs

  abbrev pub marked_now : Nodes
  marked_now q = if at_marks q then reads w q else f q

  now_other : (q : Path) → at_marks q ≡ false → marked_now q ≡ f q
  now_other q h = ap (λ (b : Bool). if b then reads w q else f q) h

  now_path : (q : Path) → path_node f q ≡ path_node marked_now q
  now_path q = go (is_outside q) refl
    where
      go : (b : Bool) → is_outside q ≡ b → (if b then f q else None) ≡ (if b then marked_now q else None)
      go true h = sym (now_other q (none_by (λ p. is_at_or_under q (mark_place p)) outs (λ p x. texts.marks.mark_path p q h)))
      go false h = refl

  pub now_image_marks : IsImage w names marked_now
  now_image_marks = record { rising = i.rising; complete = λ q. complete q (at_marks q); covered = i.covered; leaves = λ q. leaves q (at_marks q) }
    where
      complete : (q : Path) (b : Bool) → IsSome (if b then reads w q else f q) → IsTrue (among names q)
      complete q true h = i.covered q h
      complete q false h = i.complete q h

      leaves : (q : Path) (b : Bool) → MayLeave (w.nodes q) (if b then reads w q else f q)
      leaves q true = reads_stay (w.nodes q)
      leaves q false = i.leaves q

  pub now_view : record (view_of o.read names f) { marked = λ q. is_some (place_node marked_now mark_place q) } ≡ view_of o.read names marked_now
  now_view n =
      view_by o.read names (λ q. now_path q n)
      (λ q. if is_path_text q then sym (now_other (record_place q) (none_by (λ p. is_at_or_under (record_place q) (mark_place p)) outs (λ p x. texts.marks.mark_record p q))) n else None)
      (place_node marked_now mark_place)
      (λ q. if is_path_text q then sym (now_other (note_place q) (none_by (λ p. is_at_or_under (note_place q) (mark_place p)) outs (λ p x. texts.marks.mark_note p q))) n else None)

  -- the marks of these outputs are those that stand now
  pub now_marked : (q : Path) → IsIn outs q → is_some (place_node marked_now mark_place q) ≡ (now o w).marked q
  now_marked q k = ap (λ (b : Bool). is_some (if is_path_text q then (if b then reads w (mark_place q) else f (mark_place q)) else None)) (any_by (λ p. is_at_or_under (mark_place q) (mark_place p)) outs q k (texts.marks.mark_mark q q ∙ place_itself q))

  -- and the others as in the image
  pub now_kept : (q : Path) → ((q : Path) → IsIn outs q → (now o w).marked q ≡ false) → (view_of o.read names f).marked q ≡ false → is_some (place_node marked_now mark_place q) ≡ false
  now_kept q none h =
      by_test (at_marks (mark_place q))
      (λ t.
      let p = some_of (λ p. is_at_or_under (mark_place q) (mark_place p)) outs t in
      let is = same_place q p.0 (sym (texts.marks.mark_mark p.0 q) ∙ p.2) in
      let k = subst (λ x. IsIn outs x) (sym is) p.1 in
      now_marked q k ∙ none q k)
      (λ t. ap (λ (n : Option Node). is_some (if is_path_text q then n else None)) (now_other (mark_place q) t) ∙ h)
