-- What the view of an image has of a change at one place of the engine's own.
use Rattle.std.proofs.Common.{◌≡◌, ℕ, Bool, true, false, List, refl, sym, ap, subst, ◌∙◌, Option, None}
use Rattle.std.specs.Prelude.{bytes_eq, is_some, if◌then◌else◌}
use Rattle.smk_record.specs.declared.record.Record.{Record}
use Rattle.smk_world.specs.declared.event.Node.{Node}
use Rattle.smk_world.specs.Trees.{Path, is_path_text}
use Rattle.smk_store.specs.Images.{is_outside}
use Rattle.smk_laws_protocol.proofs.View.{View}
use Rattle.smk_laws_protocol.proofs.Views.{Nodes, view_of, view_by, path_node, place_node}
use Rattle.smk_base.specs.Place.{mark_place, record_place, note_place}
use Rattle.smk_base.specs.Path.{is_at_or_under}
use Rattle.smk_base.proofs.Places.{same_place}

-- The engine's places are apart, each is one path's, and nothing of its own lies under a mark.
pub record PlaceLaws : Type 0 where
  pub mark_mark : (p q : Path) → is_at_or_under (mark_place q) (mark_place p) ≡ bytes_eq q p
  pub mark_record : (p q : Path) → is_at_or_under (record_place q) (mark_place p) ≡ false
  pub mark_note : (p q : Path) → is_at_or_under (note_place q) (mark_place p) ≡ false
  pub mark_path : (p q : Path) → is_outside q ≡ true → is_at_or_under q (mark_place p) ≡ false

-- the image with what another one has at and under a place
abbrev pub over : Nodes → Path → Nodes → Nodes
over f m h q = if is_at_or_under q m then h q else f q

pub over_other : (f h : Nodes) (m q : Path) → is_at_or_under q m ≡ false → over f m h q ≡ f q
over_other f h m q k = rw k refl

abbrev pub with_marked : View → Path → Bool → View
with_marked v p b = record v { marked = λ q. if bytes_eq q p then b else v.marked q }

module _ (laws : PlaceLaws) (read : List ℕ → Option Record) (names : List Path) (f h : Nodes) (p : Path) where
  over_path : (q : Path) → path_node (over f (mark_place p) h) q ≡ path_node f q
  over_path q = go (is_outside q) refl
    where
      go : (b : Bool) → is_outside q ≡ b → (if b then over f (mark_place p) h q else None) ≡ (if b then f q else None)
      go true e = over_other f h (mark_place p) q (laws.mark_path p q e)
      go false e = refl

  over_node : (q : Path) → place_node (over f (mark_place p) h) mark_place q ≡ (if bytes_eq q p then place_node h mark_place p else place_node f mark_place q)
  over_node q = go (is_path_text q) refl (bytes_eq q p) refl
    where
      go :
          (t : Bool) → is_path_text q ≡ t → (b : Bool) → bytes_eq q p ≡ b →
          (if t then over f (mark_place p) h (mark_place q) else None) ≡ (if b then place_node h mark_place p else (if t then f (mark_place q) else None))
      go true k true e =
          ap (λ c. if c then h (mark_place q) else f (mark_place q)) (laws.mark_mark p q ∙ e)
          ∙ sym (ap (λ c. if c then h (mark_place q) else None) k)
          ∙ ap (place_node h mark_place) (same_place q p e)
      go true k false e = ap (λ c. if c then h (mark_place q) else f (mark_place q)) (laws.mark_mark p q ∙ e)
      go false k true e = sym (ap (λ c. if c then h (mark_place p) else None) (subst (λ x. is_path_text x ≡ false) (same_place q p e) k))
      go false k false e = refl

  pushed : (b : Bool) (m n : Option Node) → is_some (if b then m else n) ≡ (if b then is_some m else is_some n)
  pushed true m n = refl
  pushed false m n = refl

  over_mark : (q : Path) → is_some (place_node (over f (mark_place p) h) mark_place q) ≡ (if bytes_eq q p then is_some (place_node h mark_place p) else is_some (place_node f mark_place q))
  over_mark q = ap (λ (n : Option Node). is_some n) (over_node q) ∙ pushed (bytes_eq q p) (place_node h mark_place p) (place_node f mark_place q)

  -- what lies at and under a mark's place changes whether the mark stands
  pub over_view : view_of read names (over f (mark_place p) h) ≡ with_marked (view_of read names f) p (is_some (place_node h mark_place p))
  over_view i =
      record (view_by read names (λ q. over_path q i)
      (λ q. if is_path_text q then over_other f h (mark_place p) (record_place q) (laws.mark_record p q) i else None)
      (place_node f mark_place)
      (λ q. if is_path_text q then over_other f h (mark_place p) (note_place q) (laws.mark_note p q) i else None)) { marked = λ q. over_mark q i }

  back_marked : (q : Path) → (if bytes_eq q p then is_some (place_node f mark_place p) else (if bytes_eq q p then is_some (place_node h mark_place p) else is_some (place_node f mark_place q))) ≡ is_some (place_node f mark_place q)
  back_marked q = go (bytes_eq q p) refl
    where
      go :
          (b : Bool) → bytes_eq q p ≡ b →
          (if b then is_some (place_node f mark_place p) else (if b then is_some (place_node h mark_place p) else is_some (place_node f mark_place q))) ≡ is_some (place_node f mark_place q)
      go true e = ap (λ x. is_some (place_node f mark_place x)) (sym (same_place q p e))
      go false e = refl

  -- and back
  pub back_view : with_marked (view_of read names (over f (mark_place p) h)) p (is_some (place_node f mark_place p)) ≡ view_of read names f
  back_view =
      ap (λ (v : View). with_marked v p (is_some (place_node f mark_place p))) over_view
      ∙ (λ i. record (view_of read names f) { marked = λ q. back_marked q i })
