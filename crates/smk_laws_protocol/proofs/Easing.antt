-- A Restore begins: from then on its marks needn't count. And a job that was given up loses its marks.
use Rattle.std.proofs.Common.{◌≡◌, ◌⊎◌, Bool, true, false, List, sym, ap, inl, inr, ◌∙◌, Option, None}
use Rattle.std.specs.Prelude.{IsTrue, if◌then◌else◌}
use Rattle.smk_world.specs.declared.event.Node.{Node}
use Rattle.smk_record.specs.declared.record.Record.{Record}
use Rattle.smk_world.specs.declared.recipe.Kind.{Kind}
use Rattle.smk_world.specs.declared.recipe.Kind.TheVariants.{Plain, Folder as FolderKind}
use Rattle.smk_world.specs.Trees.{Path, Act, is_path_text}
use Rattle.smk_store.specs.Trust.{Versions, Eased}
use Rattle.smk_laws_protocol.proofs.View.{kind_in, View, Sound, is_source, is_whole}
use Rattle.smk_laws_protocol.proofs.Views.{EachImage, HasNames, reads, Leaves, view_of}
use Rattle.smk_world.specs.World.{World, IsRising}
use Rattle.smk_store.specs.Soundness.{Outside}
use Rattle.smk_laws_protocol.proofs.Rows.{now}
use Rattle.smk_laws_protocol.proofs.Between.{HasSources, IsGone}
use Rattle.smk_laws_protocol.proofs.Moves.{sound_on, dropped_sound, dropped_source}
use Rattle.smk_laws_protocol.proofs.Places.{PlaceLaws, with_marked}
use Rattle.smk_laws_protocol.proofs.Marking.{MayUnmark, each_unmarked, unmark_or_same}

-- From an image in which some paths have no mark: with marks there or not, the records at them may be left out.
pub ease_sound :
    (act : Act) (H : Versions) (v : View) (marks : Path → Bool) (e e' : Eased) →
    ((q : Path) → is_source v q ≡ is_source (record v { marked = marks }) q) →
    ((q : Path) → v.marked q ≡ false → marks q ≡ false) →
    ((q : Path) (r : Record) → e' q r → (e q r) ⊎ (marks q ≡ false)) →
    Sound act H (record v { marked = marks }) e → Sound act H v e'
ease_sound act H v marks e e' same fewer eased sound =
    sound_on act H (record v { marked = marks }) v e e' sound
    (λ q. ap (λ b. if b then v.file q else None) (same q))
    (λ q h r s. record { no_source = sym (same q) ∙ s.no_source; holder = s.holder; clear = (s.clear.0, clear h r s.clear.1) })
    (λ q r x s is c i. sound.has_recorded q r x s is (fewer q c) i)
    (λ q r is c chain whole. (is, sound.holds q r is (fewer q c) chain (whole_on r q (kind_in r q) whole)))
  where
    whole_on : (r : Record) (q : Path) (k : Kind) → IsTrue (is_whole v q k) → IsTrue (is_whole (record v { marked = marks }) q k)
    whole_on r q Plain h = h
    whole_on r q FolderKind h = h

    clear : (h : Path) (r : Record) → (v.marked h ≡ false) ⊎ (e' h r) → (marks h ≡ false) ⊎ (e h r)
    clear h r (inl c) = inl (fewer h c)
    clear h r (inr c) = turn (eased h r c)
      where
        turn : (e h r) ⊎ (marks h ≡ false) → (marks h ≡ false) ⊎ (e h r)
        turn (inl k) = inr k
        turn (inr k) = inl k

module _ (o : Outside) (laws : PlaceLaws) (entry : World) (H : Versions) (e : Eased) (w w' : World) (p : Path) where
  abbrev SoundBy : View → Type 0
  SoundBy v = Sound o.act H v e × HasSources o (now o entry) v

  gone_on : (v : View) (b : Bool) → v.marked p ≡ true → SoundBy v × IsGone o v p → SoundBy (with_marked v p b)
  gone_on v b marked h =
      unmark_or_same SoundBy v p marked h.0 (
        dropped_sound v p e h.1.no_record h.1.nothing o.act H h.0.0,
        λ q. ap (λ b. if b then v.file q else None) (dropped_source v p e h.1.no_record h.1.nothing q) ∙ h.0.1 q,
      )
      b

  -- 5. the mark of a job that was given up is removed
  pub unmark_gone :
      is_path_text p ≡ true → (n : Node) → MayUnmark w w' p n → EachImage o.read w (λ v. SoundBy v × IsGone o v p) →
      (names : List Path) (g : Path → Option Node) → IsRising names → HasNames names g → HasNames names (reads w) → Leaves w' g → SoundBy (view_of o.read names g)
  unmark_gone text n un each = each_unmarked laws o.read w w' p (λ v. SoundBy v × IsGone o v p) SoundBy gone_on text n un each
