-- An edit that puts the bytes that a source has touches it.
use Rattle.std.specs.Prelude.{if◌then◌else◌}
use Rattle.std.proofs.Common.{◌≡◌, ◌⊎◌, ℕ, Bool, true, false, ◌&&◌, List, refl, sym, ap, ◌∙◌, inl, inr, bytes_eq, Option, Some, None, is_some, subst}
use Rattle.std.proofs.lemmas.Option.{none-some}
use Rattle.smk_base.proofs.Places.{place_itself, same_place}
use Rattle.smk_world.specs.declared.event.Node.TheVariants.{Directory, Regular}
use Rattle.smk_world.specs.declared.event.Node.{Node}
use Rattle.smk_world.specs.Folders.{IsTree}
use Rattle.smk_world.specs.Trees.{Path}
use Rattle.smk_world.specs.World.{World, IsFormed, IsRising, firmly, reading}
use Rattle.smk_base.specs.Path.{is_under}
use Rattle.smk_record.specs.declared.record.Record.{Record}
use Rattle.smk_store.specs.Images.{Content, content_of, file_at, is_outside, is_source, seen, source_at}
use Rattle.smk_store.specs.Trust.{is_summed}
use Rattle.smk_laws_protocol.proofs.Sorted.{filter_rises, rising_same}
use Rattle.smk_laws_history.specs.Histories.{edited}
use Rattle.smk_laws_history.proofs.CurrentComplete.{seen_is_complete}
use Rattle.smk_laws_history.proofs.HistoryPlaces.{node_same}
use Rattle.smk_cli_target.specs.Thrift.{IsTouched, IsTouchedAt}
use Rattle.smk_laws_edit.proofs.EditedWorlds.{formed_after, kept, marked, noted, outside, same_at}
use Rattle.smk_clean.specs.Again.{CallLeavesNone}
use Rattle.smk_clean.specs.Safe.{CallIsSafe}
use Rattle.smk_laws_call.specs.Thrift.{SameBytesTouch}
use Rattle.smk_laws_call.proofs.Done.{sound, tree}

is_one : (b : Bool) (c : Option Content) (f : Content) → (if b then c else None) ≡ Some f → (b ≡ true) × (c ≡ Some f)
is_one true c f h = (refl, h)
is_one false c f h = absurd (none-some f h)

stands_some : (n : Option Node) (f : Content) → content_of n ≡ Some f → is_some n ≡ true
stands_some None f h = absurd (none-some f h)
stands_some (Some n) f h = refl

-- the names that an image has rise
names_rise : (read : List ℕ → Option Record) (w : World) → IsFormed w → IsRising (seen read w).names
names_rise read w formed = filter_rises (λ q. is_outside q && is_some (reading (w.nodes q))) w.names formed.rising

module _ (read : List ℕ → Option Record) (v : World) (p : Path) (source : Content) (time : ℕ) (formed : IsFormed v) (tree : IsTree v)
    (stood : source_at (seen read v) p ≡ Some source) (small : is_summed source.bytes ≡ true) where
  abbrev x : World
  x = edited v p (Regular source.bytes time source.read_only)

  was : (is_source (seen read v) p ≡ true) × (file_at (seen read v) p ≡ Some source)
  was = is_one (is_source (seen read v) p) (file_at (seen read v) p) source stood

  pub formed_there : IsFormed x
  formed_there = formed_after read v p source.bytes time source.read_only formed tree was.0

  stands : (seen read x).node p ≡ Some (Regular source.bytes time source.read_only)
  stands =
      ap (λ b. if b then reading (x.nodes p) else None) (outside read v p source.bytes time source.read_only formed tree was.0)
      ∙ ap (λ b. reading (if b then firmly (Some (Regular source.bytes time source.read_only)) else (if is_under p p then firmly (Some Directory) else v.nodes p))) (place_itself p)

  touched_at : IsTouchedAt (seen read v) (seen read x) p
  touched_at = record { source = source; time = time; stood = stood; small = small; stands = stands }

  other : (q : Path) → bytes_eq q p ≡ false → (seen read x).node q ≡ (seen read v).node q
  other q e = node_same read v x q (same_at read v p source.bytes time source.read_only formed tree was.0 q e)

  pub nodes : (q : Path) → ((seen read x).node q ≡ (seen read v).node q) ⊎ IsTouchedAt (seen read v) (seen read x) q
  nodes q = go (bytes_eq q p) refl
    where
      go : (b : Bool) → bytes_eq q p ≡ b → ((seen read x).node q ≡ (seen read v).node q) ⊎ IsTouchedAt (seen read v) (seen read x) q
      go true e = inr (subst (IsTouchedAt (seen read v) (seen read x)) (sym (same_place q p e)) touched_at)
      go false e = inl (other q e)

  as_much : (q : Path) → is_some ((seen read x).node q) ≡ is_some ((seen read v).node q)
  as_much q = go (nodes q)
    where
      go : ((seen read x).node q ≡ (seen read v).node q) ⊎ IsTouchedAt (seen read v) (seen read x) q → is_some ((seen read x).node q) ≡ is_some ((seen read v).node q)
      go (inl e) = ap is_some e
      go (inr t) =
          ap is_some t.stands
          ∙ sym (stands_some ((seen read v).node q) t.source (is_one (is_source (seen read v) q) (file_at (seen read v) q) t.source t.stood).1)

  pub names : (seen read x).names ≡ (seen read v).names
  names =
      rising_same (seen read x).names (seen read v).names (names_rise read x formed_there) (names_rise read v formed)
      (λ q. (seen_is_complete read x formed_there).names q ∙ (as_much q ∙ sym ((seen_is_complete read v formed).names q)))

pub same_bytes_touch : CallLeavesNone → CallIsSafe → SameBytesTouch
same_bytes_touch none_left safe o H words w v plan p source time ran is_plan tells stood small =
    record { plan = plan; is_plan = is_plan; tells = tells; touched = touched; formed = formed_there o.read v p source time formed was_tree stood small }
  where
    formed : IsFormed v
    formed = (sound none_left safe o H words w v ran).formed

    was_tree : IsTree v
    was_tree = tree none_left safe o H words w v ran

    was_source : is_source (seen o.read v) p ≡ true
    was_source = (is_one (is_source (seen o.read v) p) (file_at (seen o.read v) p) source stood).0

    touched : IsTouched (seen o.read v) (seen o.read (edited v p (Regular source.bytes time source.read_only)))
    touched =
        record {
          nodes = nodes o.read v p source time formed was_tree stood small;
          names = names o.read v p source time formed was_tree stood small;
          kept = sym (kept o.read v p source.bytes time source.read_only formed was_tree was_source);
          marked = sym (marked o.read v p source.bytes time source.read_only formed was_tree was_source);
          noted = sym (noted o.read v p source.bytes time source.read_only formed was_tree was_source);
        }
