-- What two worlds' images have in common.
use Rattle.std.proofs.Common.{◌≡◌, ℕ, Bool, true, false, ◌&&◌, List, [], ◌∷◌, refl, ap, sym, subst, ◌∙◌, Option, Some, None}
use Rattle.std.specs.Prelude.{is_some, option_map, reverse, if◌then◌else◌}
use Rattle.std.specs.List.{find}
use Rattle.smk_laws_protocol.proofs.Holders.{found_same}
use lib.Pointwise.{pointwise}
use Rattle.smk_base.specs.Path.{is_at_or_under}
use Rattle.smk_base.specs.Place.{record_place, mark_place}
use Rattle.smk_base.proofs.Places.{place_itself}
use Rattle.smk_base.proofs.Under.{at_itself, at_when_under, both_true}
use Rattle.smk_world.specs.declared.recipe.Kind.{Kind}
use Rattle.smk_world.specs.declared.recipe.Kind.TheVariants.{Plain, Folder as FolderKind}
use Rattle.smk_world.specs.World.{World, IsFormed, reading, reads, folders_above}
use Rattle.smk_world.specs.Trees.{Path, is_path_text}
use Rattle.smk_world.proofs.Names.{reads_may_stay}
use Rattle.smk_record.specs.declared.record.Member.{Member}
use Rattle.smk_record.specs.declared.record.Record.{Record}
use Rattle.smk_record.specs.Records.{core, members_of, same_flag, same_member}
use Rattle.smk_store.specs.declared.store.Kept.TheVariants.{Absent}
use Rattle.smk_store.specs.Images.{Content, Image, content_of, is_directory, is_outside, readable, file_at, kept_by, core_at, is_source, source_at, is_whole, seen, image_of}
use Rattle.smk_store.specs.Soundness.{Outside, SoundWorld, SameSources, told}
use Rattle.smk_store.specs.Trust.{Versions, holder, is_folder_record}
use Rattle.smk_laws_protocol.specs.Protocol.{now}
use Rattle.smk_laws_protocol.specs.Midway.{HasSafeImages}
use Rattle.smk_laws_protocol.proofs.TextFolders.{folder_above}
use Rattle.smk_laws_plan.proofs.CurrentLists.{find_in}
use Rattle.smk_laws_plan.proofs.CurrentMeaning.{source_file, source_reads}
use Rattle.smk_laws_history.proofs.HistoryPlaces.{members_same}

-- ## One path

-- of a world w and a later one v
module _ (read : List ℕ → Option Record) (w v : World) where
  pub kept_at : (q : Path) → v.nodes (record_place q) ≡ w.nodes (record_place q) → (seen read v).kept q ≡ (seen read w).kept q
  kept_at q e = λ i. if is_path_text q then kept_by read q (reading (e i)) else Absent

  pub marked_at : (q : Path) → v.nodes (mark_place q) ≡ w.nodes (mark_place q) → (seen read v).marked q ≡ (seen read w).marked q
  marked_at q e = λ i. is_path_text q && is_some (reading (e i))

  pub node_at : (q : Path) → v.nodes q ≡ w.nodes q → (seen read v).node q ≡ (seen read w).node q
  node_at q e = λ i. if is_outside q then reading (e i) else None

  pub core_same : (q : Path) → v.nodes (record_place q) ≡ w.nodes (record_place q) → core_at (seen read v) q ≡ core_at (seen read w) q
  core_same q e = λ i. option_map core (readable (kept_at q e i))

  -- an output is whole where it was
  pub whole_at : (h : Path) (kind : Kind) → IsFormed w → IsFormed v → v.nodes (record_place h) ≡ w.nodes (record_place h) → ((q : Path) → is_at_or_under q h ≡ true → v.nodes q ≡ w.nodes q)
      → is_whole (seen read v) h kind ≡ is_whole (seen read w) h kind
  whole_at h Plain formed formed' kept same = λ i. is_some (content_of (node_at h (same h (at_itself h)) i))
  whole_at h FolderKind formed formed' kept same =
      let node = node_at h (same h (at_itself h)) in
      let entry = kept_at h kept in
      let members = members_same read w v formed formed' h (λ q at. ap reading (same q at)) in
      λ i. is_directory (node i) && (is_some (readable (entry i)) && pointwise same_member (members i) (members_of (readable (entry i))))

-- ## Whose record speaks for a path

pub holder_same : (i j : Image) (p : Path) → ((f : Path) → is_at_or_under p f ≡ true → core_at j f ≡ core_at i f) → holder j p ≡ holder i p
holder_same i j p same =
    ap (λ (c : Option Record). if is_some c then Some p else find (λ f. is_folder_record f (core_at j f)) (reverse (folders_above p))) (same p (at_itself p))
    ∙ ap (λ (r : Option Path). if is_some (core_at i p) then Some p else r)
    (found_same (λ f. is_folder_record f (core_at j f)) (λ f. is_folder_record f (core_at i f)) (reverse (folders_above p))
    (λ f k. ap (is_folder_record f) (same f (at_when_under p f (folder_above p f k)))))

pub holder_over : (i : Image) (p h : Path) → holder i p ≡ Some h → is_at_or_under p h ≡ true
holder_over i p h is = go (is_some (core_at i p)) refl is
  where
    over : Path → Bool
    over f = is_folder_record f (core_at i f)

    same : (x y : Path) → Some x ≡ Some y → x ≡ y
    same x y e = cc

    go : (b : Bool) → is_some (core_at i p) ≡ b → (if b then Some p else find (λ f. is_folder_record f (core_at i f)) (reverse (folders_above p))) ≡ Some h → is_at_or_under p h ≡ true
    go true e k = subst (λ x. is_at_or_under p x ≡ true) (same p h k) (at_itself p)
    go false e k = at_when_under p h (folder_above p h (find_in (λ f. is_folder_record f (core_at i f)) (reverse (folders_above p)) h k).0)

pub holder_own : (i : Image) (p : Path) (r : Record) → core_at i p ≡ Some r → holder i p ≡ Some p
holder_own i p r e = ap (λ (c : Option Record). if is_some c then Some p else find (λ f. is_folder_record f (core_at i f)) (reverse (folders_above p))) e

-- ## Members

pub flag_itself : (b : Bool) → same_flag b b ≡ true
flag_itself true = refl
flag_itself false = refl

pub members_agree : (ms : List Member) → pointwise same_member ms ms ≡ true
members_agree [] = refl
members_agree (m ∷ ms) = both_true (same_member m m) (pointwise same_member ms ms) (both_true (same_flag m.folder m.folder) _ (flag_itself m.folder) (place_itself m.name)) (members_agree ms)

-- ## Sources

told_some : (x : Option Content) (f : Content) → option_map told x ≡ Some (told f) → (g : Content) × (x ≡ Some g) × (g.bytes ≡ f.bytes) × (g.time ≡ f.time)
told_some None f h = cc
told_some (Some g) f h = (g, refl, ap (λ (x : List ℕ × ℕ). x.0) (some_pair (told g) (told f) h), ap (λ (x : List ℕ × ℕ). x.1) (some_pair (told g) (told f) h))
  where
    some_pair : (a b : List ℕ × ℕ) → Some a ≡ Some b → a ≡ b
    some_pair a b e = cc

source_is : (i : Image) (p : Path) (g : Content) → source_at i p ≡ Some g → is_source i p ≡ true
source_is i p g h = go (is_source i p) refl h
  where
    go : (b : Bool) → is_source i p ≡ b → (if b then file_at i p else None) ≡ Some g → b ≡ true
    go true e k = refl
    go false e k = cc

-- a source of both images, with the same bytes and time
pub record IsSourceOfBoth (a b : Image) (p : Path) : Type 0 where
  pub first : Content
  pub second : Content
  pub at_first : source_at a p ≡ Some first
  pub at_second : source_at b p ≡ Some second
  pub is_second : is_source b p ≡ true
  pub bytes : second.bytes ≡ first.bytes
  pub time : second.time ≡ first.time

pub source_of_both : (a b : Image) (p : Path) → SameSources a b → is_source a p ≡ true → IsSourceOfBoth a b p
source_of_both a b p same is =
    let f = source_file a p is in
    let here = source_reads a p f.0 is f.1 in
    let g = told_some (source_at b p) f.0 (same p ∙ ap (option_map told) here) in
    record { first = f.0; second = g.0; at_first = here; at_second = g.1; is_second = source_is b p g.0 g.1; bytes = g.2; time = g.3 }

pub same_back : (a b : Image) → SameSources a b → SameSources b a
same_back a b h = λ p. sym (h p)

pub same_then : (a b c : Image) → SameSources a b → SameSources b c → SameSources a c
same_then a b c h k = λ p. k p ∙ h p

-- the sources of a world in which no child runs are those of the entry
pub sources_now : (o : Outside) (entry w : World) (H : Versions) → SoundWorld o w H → HasSafeImages o entry w H → SameSources (now o entry) (now o w)
sources_now o entry w H sound safe =
    let nodes = reads w in
    let leaves = reads_may_stay w sound.formed in
    same_then (now o entry) (image_of o.read nodes) (now o w) (safe nodes leaves).1 (same_back (now o w) (image_of o.read nodes) (sound.same_sources nodes leaves))
