-- A world is sound where it is over views, and the other way round.
use Rattle.std.proofs.Common.{◌≡◌, ℕ, false, List, refl, sym, ap, subst, ◌∙◌, Option, Some, None}
use Rattle.std.specs.Prelude.{option_map}
use Rattle.smk_world.specs.World.{World, is_within}
use Rattle.smk_world.specs.Calls.{owned_now}
use Rattle.smk_world.specs.Trees.{Path}
use Rattle.smk_record.specs.declared.record.Record.{Record}
use Rattle.smk_record.specs.Records.{core, members_of}
use Rattle.smk_store.specs.Images.{Image, Content, image_of, seen, record_at, source_at as image_source_at}
use Rattle.smk_store.specs.Trust.{Versions, none_eased}
use Rattle.smk_store.specs.Soundness.{Outside, told, SoundWorld as ImageSoundWorld, SameSources, NoNewRecord}
use Rattle.smk_laws_protocol.proofs.View.{View, view, Sound, source_at}
use Rattle.smk_laws_protocol.proofs.Views.{reads}
use Rattle.smk_laws_protocol.proofs.Rows.{now}
use Rattle.smk_laws_protocol.proofs.Between.{SoundWorld, HasSources, HasNoNew, HasKnown, HasNoNested}
use Rattle.smk_laws_protocol.proofs.Basics.{clash, none_some, some_same}
use Rattle.smk_laws_protocol.proofs.Bridge.{view_is}
use Rattle.smk_laws_protocol.proofs.EveryImage.{to_lists, from_lists}
use Rattle.smk_laws_protocol.proofs.Naming.{each_image, now_image}
use Rattle.smk_laws_protocol.proofs.SoundViews.{sound_to, sound_from, has_none, source_at_is, flagless}

-- ---- the same sources

abbrev of_told : List ℕ × ℕ → Content
of_told t = record { bytes = t.0; time = t.1; read_only = false }

told_again : (x : Option Content) → option_map of_told (option_map told x) ≡ option_map flagless x
told_again None = refl
told_again (Some f) = refl

told_flagless : (x : Option Content) → option_map told x ≡ option_map told (option_map flagless x)
told_flagless None = refl
told_flagless (Some f) = refl

pub sources_to : (o : Outside) (a b : Image) → SameSources a b → HasSources o (view a) (view b)
sources_to o a b same p =
    sym (source_at_is b p) ∙ sym (told_again (image_source_at b p)) ∙ ap (option_map of_told) (same p) ∙ told_again (image_source_at a p) ∙ source_at_is a p

pub source_from : (a b : Image) (p : Path) → source_at (view b) p ≡ source_at (view a) p → option_map told (image_source_at b p) ≡ option_map told (image_source_at a p)
source_from a b p same =
    told_flagless (image_source_at b p) ∙ ap (option_map told) (source_at_is b p ∙ same ∙ sym (source_at_is a p)) ∙ sym (told_flagless (image_source_at a p))

pub sources_from : (o : Outside) (a b : Image) → HasSources o (view a) (view b) → SameSources a b
sources_from o a b same p = source_from a b p (same p)

-- ---- no further unmarked record

of_core : (x : Option Record) (r : Record) → option_map core x ≡ Some r → (y : Record) × (x ≡ Some y) × (core y ≡ r)
of_core None r h = none_some None refl h
of_core (Some y) r h = (y, refl, some_same h)

no_new_to : (o : Outside) (a b : Image) → NoNewRecord a b → HasNoNew o (view a) (view b)
no_new_to o a b none p r at unmarked =
    let x = of_core (record_at b p) r at in
    let same = none p x.0 x.1 unmarked ∙ sym x.1 in
    (ap (option_map core) same ∙ at, ap members_of same)

-- its members and what it is but for them make a record
whole_record : (x : Option Record) (r : Record) → option_map core x ≡ Some (core r) → members_of x ≡ r.members → x ≡ Some r
whole_record None r h m = none_some None refl h
whole_record (Some y) r h m = let same : core y ≡ core r = some_same h in λ k. Some (record (same k) { members = m k })

pub no_new_from : (o : Outside) (a b : Image) → HasNoNew o (view a) (view b) → NoNewRecord a b
no_new_from o a b none p r at unmarked =
    let h = none p (core r) (ap (option_map core) at) unmarked in
    whole_record (record_at a p) r h.0 (h.1 ∙ ap members_of at)

module _ (o : Outside) (w : World) (H : Versions) where
  pub now_is : view (seen o.read w) ≡ now o w
  now_is = view_is o.read w.names (reads w)

  -- of two views, where the first is of the world as it reads
  seen_now : (P : View → View → Type 0) (i : Image) → P (view (seen o.read w)) (view i) → P (now o w) (view i)
  seen_now P i h = subst (λ v. P v (view i)) now_is h

  pub now_seen : (P : View → View → Type 0) (i : Image) → P (now o w) (view i) → P (view (seen o.read w)) (view i)
  now_seen P i h = subst (λ v. P v (view i)) (sym now_is) h

  pub world_to : ImageSoundWorld o w H → SoundWorld o w H
  world_to s =
      record {
        formed = s.formed;
        now_sound = subst (λ v. Sound o.act H v none_eased) now_is (sound_to (seen o.read w) o.act H none_eased s.now);
        after_crash = from_lists o.read w (λ v. Sound o.act H v none_eased) (λ nodes leaves. sound_to (image_of o.read nodes) o.act H none_eased (s.after_crash nodes leaves));
        same_sources = from_lists o.read w (HasSources o (now o w)) (λ nodes leaves.
            seen_now (HasSources o) (image_of o.read nodes) (sources_to o (seen o.read w) (image_of o.read nodes) (s.same_sources nodes leaves)));
        no_new_record = from_lists o.read w (HasNoNew o (now o w)) (λ nodes leaves.
            seen_now (HasNoNew o) (image_of o.read nodes) (no_new_to o (seen o.read w) (image_of o.read nodes) (s.no_new_record nodes leaves)));
        no_nested = from_lists o.read w (HasNoNested o) (λ nodes leaves. (s.after_crash nodes leaves).none_nested);
        known = from_lists o.read w (HasKnown o (now o w)) (λ nodes leaves. seen_now (HasKnown o) (image_of o.read nodes) (s.known nodes leaves));
        no_child = s.no_child;
        no_owned = λ q h. clash (is_within q (owned_now w.children)) (s.owners q h) (ap (λ cs. is_within q (owned_now cs)) s.no_child);
      }

  pub world_from : SoundWorld o w H → ImageSoundWorld o w H
  world_from s =
      record {
        formed = s.formed;
        now = sound_from (seen o.read w) o.act H none_eased (subst (λ v. Sound o.act H v none_eased) (sym now_is) s.now_sound) (has_none H)
            (subst (HasNoNested o) (sym now_is) (each_image o.read w (HasNoNested o) s.no_nested w.names (reads w) (now_image w s.formed)));
        after_crash = λ nodes leaves.
            sound_from (image_of o.read nodes) o.act H none_eased (to_lists o.read w s.formed (λ v. Sound o.act H v none_eased) s.after_crash nodes leaves) (has_none H)
            (to_lists o.read w s.formed (HasNoNested o) s.no_nested nodes leaves);
        same_sources = λ nodes leaves.
            sources_from o (seen o.read w) (image_of o.read nodes)
            (now_seen (HasSources o) (image_of o.read nodes) (to_lists o.read w s.formed (HasSources o (now o w)) s.same_sources nodes leaves));
        no_new_record = λ nodes leaves.
            no_new_from o (seen o.read w) (image_of o.read nodes)
            (now_seen (HasNoNew o) (image_of o.read nodes) (to_lists o.read w s.formed (HasNoNew o (now o w)) s.no_new_record nodes leaves));
        known = λ nodes leaves. now_seen (HasKnown o) (image_of o.read nodes) (to_lists o.read w s.formed (HasKnown o (now o w)) s.known nodes leaves);
        no_child = s.no_child;
        owners = λ q h. absurd (s.no_owned q h);
      }
