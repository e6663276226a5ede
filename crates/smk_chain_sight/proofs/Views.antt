-- The image of a world, as looks at its folder see it.
use Rattle.std.proofs.Common.{◌≡◌, ℕ, Bool, true, false, ◌&&◌, not, List, refl, sym, ap, ◌∙◌, Option, None}
use Rattle.std.specs.Prelude.{is_some, if◌then◌else◌}
use Rattle.smk_base.specs.Path.{is_path}
use Rattle.smk_base.proofs.Places.{and_first}
use Rattle.smk_base.proofs.Under.{never_both, both_true}
use Rattle.smk_world.specs.declared.event.Node.{Node}
use Rattle.smk_world.specs.World.{World, IsFormed, reading, is_named}
use Rattle.smk_world.specs.Folders.{IsTree}
use Rattle.smk_world.specs.Trees.{Path, is_path_text, is_text}
use Rattle.smk_record.specs.declared.record.Record.{Record}
use Rattle.smk_store.specs.Images.{is_source, content_of, is_outside, seen}
use Rattle.smk_store.specs.Stores.{Known}
use Rattle.smk_store.specs.Loading.{IsStoreOf}
use Rattle.smk_store.proofs.Loads.{named_filter}
use Rattle.smk_store.proofs.Standing.{tree_folder}
use Rattle.smk_chain_sight.specs.Disk.{IsOwnedCovered}
use Rattle.smk_chain_sight.specs.Viewing.{Viewed}
use Rattle.smk_chain_sight.proofs.Stand.{source_parts, path_outside, file_some}

outside : (p : Path) → is_path_text p ≡ true → is_outside p ≡ true
outside p path = ap not (path_outside p (and_first (is_path p) (is_text p) path))

node_is : (read : List ℕ → Option Record) (w : World) (p : Path) → is_path_text p ≡ true → (seen read w).node p ≡ reading (w.nodes p)
node_is read w p path = ap (λ (b : Bool). if b then reading (w.nodes p) else None) (outside p path)

named_by : (w : World) (q : Path) (b : Bool) → IsFormed w → is_named q w.names ≡ b → is_some (reading (w.nodes q)) ≡ true → b ≡ true
named_by w q true formed e some = refl
named_by w q false formed e some = absurd (never_both (is_some (reading (w.nodes q))) some (ap is_some (formed.complete q e)))

source_named : (read : List ℕ → Option Record) (w : World) (q : Path) → IsFormed w → is_source (seen read w) q ≡ true → is_named q (seen read w).names ≡ true
source_named read w q formed s =
    let p = source_parts (seen read w) q s in
    let some : is_some (reading (w.nodes q)) ≡ true = file_some (reading (w.nodes q)) (sym (ap (λ (n : Option Node). is_some (content_of n)) (node_is read w q p.path)) ∙ p.file) in
    named_filter (λ t. is_outside t && is_some (reading (w.nodes t))) q w.names
    ∙ both_true (is_outside q && is_some (reading (w.nodes q))) (is_named q w.names)
    (both_true (is_outside q) (is_some (reading (w.nodes q))) (outside q p.path) some)
    (named_by w q (is_named q w.names) formed refl some)

pub viewed_of : (read : List ℕ → Option Record) (w : World) (store : List Known) → IsOwnedCovered w store → IsFormed w → IsTree w → IsStoreOf (seen read w) store → Viewed w.nodes store (seen read w)
viewed_of read w store owned formed tree stored =
    record {
      in_folders = λ folder name path some. tree_folder w tree folder name some;
      owned = owned;
      node = node_is read w;
      covered = stored.covered;
      named = λ q s. source_named read w q formed s;
    }
