-- The folder of a trial: one to begin with, whose files are sources.
use Rattle.std.proofs.Common.{◌≡◌, ℕ, Bool, true, false, ◌&&◌, ◌||◌, not, List, [], ◌∷◌, bytes_eq, refl, ap, sym, subst, ◌∙◌, Option, Some, None}
use Rattle.std.specs.Prelude.{if◌then◌else◌, is_some}
use Rattle.std.specs.List.{list_any}
use Rattle.std.proofs.lemmas.Option.{none-some, same_Some}
use Rattle.smk_base.specs.Path.{own_folder, is_path, is_at_or_under}
use Rattle.smk_base.specs.Place.{record_place, mark_place, note_place}
use Rattle.smk_base.proofs.Apart.{path_outside}
use Rattle.smk_base.proofs.Places.{and_first, same_place}
use Rattle.smk_base.proofs.Under.{both_true, never_both}
use Rattle.smk_world.specs.declared.event.Node.{Node}
use Rattle.smk_world.specs.declared.event.Node.TheVariants.{Regular, Directory}
use Rattle.smk_world.specs.Trees.{Path, Each, is_path_text, is_text}
use Rattle.smk_world.specs.World.{World, Nodes, node_in, reading, folders_above}
use Rattle.smk_world_mem.specs.Work.{file_bytes}
use Rattle.smk_record.specs.declared.record.Record.{Record}
use Rattle.smk_store.specs.declared.store.Kept.TheVariants.{Absent}
use Rattle.smk_store.specs.Images.{Content, content_of, file_at, is_covered, is_file, is_known, is_outside, is_source, kept_by, seen, source_at, stands}
use Rattle.smk_laws_history.specs.Histories.{IsHeld, IsNew}
use Rattle.smk_gen.specs.Made.{HasJust, IsAtText}
use Rattle.smk_laws_trial.specs.Second.{IsOfFile}

-- ## Files

-- what stands among the files stands at a path that is a text
at_text : (files : Nodes) → Each IsAtText files → (q : Path) (n : Node) → node_in files q ≡ Some n → is_path_text q ≡ true
at_text [] all q n h = absurd (none-some n h)
at_text (e ∷ es) (one, all) q n h = go (bytes_eq q e.0) refl (at_text es all q n) h
  where
    go :
        (b : Bool) → bytes_eq q e.0 ≡ b → (node_in es q ≡ Some n → is_path_text q ≡ true) → (if b then Some e.1 else node_in es q) ≡ Some n →
        is_path_text q ≡ true
    go true same later is = subst (λ p. is_path_text p ≡ true) (sym (same_place q e.0 same)) one
    go false apart later is = later is

-- a file has a node
node_of : (n : Option Node) (c : Content) → content_of n ≡ Some c → (m : Node) × (n ≡ Some m)
node_of None c h = absurd (none-some c h)
node_of (Some m) c h = (m, refl)

bytes_are : (n : Option Node) (c : Content) → content_of n ≡ Some c → file_bytes n ≡ Some c.bytes
bytes_are None c h = absurd (none-some c h)
bytes_are (Some Directory) c h = absurd (none-some c h)
bytes_are (Some (Regular bytes time read_only)) c h = ap (λ (f : Content). Some f.bytes) (same_Some _ c h)

outside : (p : Path) → is_path_text p ≡ true → is_at_or_under p own_folder ≡ false
outside p h = path_outside p (and_first (is_path p) (is_text p) h)

-- ## What is known

none_of_three : (a b c : Bool) → a ≡ false → b ≡ false → c ≡ false → (a || (b || c)) ≡ false
none_of_three a b c h k l = ap (λ v. v || (b || c)) h ∙ ap (λ v. v || c) k ∙ l

module _ (files : Nodes) (w : World) (just : HasJust files w) where
  reads : (q : Path) → reading (w.nodes q) ≡ node_in files q
  reads q = ap reading (just.nodes q)

  none_own : (q : Path) → is_at_or_under q own_folder ≡ true → reading (w.nodes q) ≡ None
  none_own q own = reads q ∙ go (node_in files q) refl
    where
      go : (n : Option Node) → node_in files q ≡ n → n ≡ None
      go None is = refl
      go (Some n) is = absurd (never_both (is_at_or_under q own_folder) own (outside q (at_text files just.texts q n is)))

  pub is_new : IsNew w
  is_new =
      record {
        formed = just.formed;
        tree = just.tree;
        none_own = none_own;
        no_child = just.children;
        all_firm = λ q. (node_in files q, just.nodes q);
      }

  module _ (read : List ℕ → Option Record) where
    unkept : (b : Bool) (p : Path) (n : Option Node) → n ≡ None → stands (if b then kept_by read p n else Absent) ≡ false
    unkept true p n h = ap (λ m. stands (kept_by read p m)) h
    unkept false p n h = refl

    unmarked : (b : Bool) (n : Option Node) → n ≡ None → (b && is_some n) ≡ false
    unmarked true n h = ap is_some h
    unmarked false n h = refl

    unknown : (p : Path) → is_known (seen read w) p ≡ false
    unknown p =
        none_of_three (stands (if is_path_text p then kept_by read p (reading (w.nodes (record_place p))) else Absent))
        (is_path_text p && is_some (reading (w.nodes (mark_place p))))
        (is_path_text p && is_some (reading (w.nodes (note_place p))))
        (unkept (is_path_text p) p (reading (w.nodes (record_place p))) (none_own (record_place p) refl))
        (unmarked (is_path_text p) (reading (w.nodes (mark_place p))) (none_own (mark_place p) refl))
        (unmarked (is_path_text p) (reading (w.nodes (note_place p))) (none_own (note_place p) refl))

    all_unknown : (ps : List Path) → list_any (is_known (seen read w)) ps ≡ false
    all_unknown [] = refl
    all_unknown (p ∷ ps) = ap (λ v. v || list_any (is_known (seen read w)) ps) (unknown p) ∙ all_unknown ps

    uncovered : (p : Path) → is_covered (seen read w) p ≡ false
    uncovered p = ap (λ v. v || list_any (is_known (seen read w)) (folders_above p)) (unknown p) ∙ all_unknown (folders_above p)

    -- ## Sources

    -- each file is a source,
    pub file_is_source : (p : Path) (c : Content) → content_of (reading (w.nodes p)) ≡ Some c → is_source (seen read w) p ≡ true
    file_is_source p c h =
        let node = node_of (node_in files p) c (ap content_of (sym (reads p)) ∙ h) in
        let text = at_text files just.texts p node.0 node.1 in
        let file : is_file (seen read w) p ≡ true =
        ap (λ v. is_some (content_of (if not v then reading (w.nodes p) else None))) (outside p text) ∙ ap is_some h in
        both_true (is_path_text p) _ text (both_true (is_file (seen read w) p) _ file (ap not (uncovered p)))

    source_is_file : (p : Path) (c : Content) → source_at (seen read w) p ≡ Some c → content_of (reading (w.nodes p)) ≡ Some c
    source_is_file p c h = inside (is_outside p) (found (is_source (seen read w) p) h)
      where
        found : (b : Bool) → (if b then file_at (seen read w) p else None) ≡ Some c → file_at (seen read w) p ≡ Some c
        found true e = e
        found false e = absurd (none-some c e)

        inside : (b : Bool) → content_of (if b then reading (w.nodes p) else None) ≡ Some c → content_of (reading (w.nodes p)) ≡ Some c
        inside true e = e
        inside false e = absurd (none-some c e)

    -- and no source has bytes that no file has
    pub held_is_of_file : (bytes : List ℕ) → IsHeld (seen read w) bytes → IsOfFile files bytes
    held_is_of_file bytes (p, c, source, are) =
        (p, bytes_are (node_in files p) c (ap content_of (sym (reads p)) ∙ source_is_file p c source) ∙ ap Some are)
