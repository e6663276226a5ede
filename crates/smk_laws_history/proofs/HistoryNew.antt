-- A world to begin with is sound, and has no directory of a record.
use Rattle.std.proofs.Common.{◌≡◌, Bool, true, false, List, refl, sym, ap, subst, inl, inr, ◌∙◌, Option, Some, None, true≢false}
use Rattle.std.specs.Prelude.{if◌then◌else◌, is_some, option_map}
use Rattle.std.proofs.lemmas.Bool.{eq-eqb}
use Rattle.smk_base.specs.Place.{record_place}
use Rattle.smk_world.specs.declared.event.Node.{Node}
use Rattle.smk_world.specs.declared.event.NodeState.TheVariants.{Owned}
use Rattle.smk_world.specs.World.{World, Nodes, node_in, places_in, Leaves, MayLeave, reading, firmly}
use Rattle.smk_world.specs.Trees.{Path, is_path_text}
use Rattle.smk_record.specs.declared.record.Record.{Record}
use Rattle.smk_record.specs.Records.{core}
use Rattle.smk_store.specs.declared.store.Kept.TheVariants.{Absent}
use Rattle.smk_store.specs.Images.{Image, Content, image_by, image_of, seen, stands, readable, kept_by, source_at, record_at, core_at}
use Rattle.smk_store.specs.Trust.{none_eased}
use Rattle.smk_store.specs.Soundness.{Outside, Sound, SoundWorld, told}
use Rattle.smk_store.specs.Safety.{with_sources, or_put}
use Rattle.smk_laws_history.specs.Histories.{ListsAll, IsListed, IsNew, no_versions}

none_some : {A : Type 0} (x : A) → None ≡ Some x → ⊥
none_some x h = cc

module _ (o : Outside) (w : World) (new : IsNew w) where
  abbrev nodes_now : Path → Option Node
  nodes_now q = reading (w.nodes q)

  -- an image by these nodes knows nothing, whatever names it has
  abbrev image : List Path → Image
  image names = image_by o.read names nodes_now

  no_kept : (names : List Path) (p : Path) → (image names).kept p ≡ Absent
  no_kept names p = go (is_path_text p) (reading (w.nodes (record_place p))) (new.none_own (record_place p) refl)
    where
      go : (b : Bool) (n : Option Node) → n ≡ None → (if b then kept_by o.read p n else Absent) ≡ Absent
      go true n e = ap (kept_by o.read p) e
      go false n e = refl

  no_record : (names : List Path) (p : Path) (r : Record) → record_at (image names) p ≡ Some r → ⊥
  no_record names p r h = none_some r (sym (ap readable (no_kept names p)) ∙ h)

  pub no_core : (names : List Path) (p : Path) → core_at (image names) p ≡ None
  no_core names p = ap (λ k. option_map core (readable k)) (no_kept names p)

  versions : (names : List Path) (p : Path) (f : Content) → source_at (image names) p ≡ Some f → with_sources no_versions (seen o.read w) p f.time ≡ Some f.bytes
  versions names p f h = ap (or_put None f.time) h ∙ ap (λ b. if b then Some f.bytes else None) (eq-eqb f.time f.time refl)

  sound_by : (names : List Path) → Sound o.act (with_sources no_versions (seen o.read w)) (image names) none_eased
  sound_by names =
      record {
        has_sources = versions names;
        has_recorded = λ p r q s clear i. absurd (none_some r (sym (no_core names p) ∙ clear.0));
        holds = λ p r at unmarked chain whole. absurd (none_some r (sym (no_core names p) ∙ at));
        none_nested = λ p q is also over. absurd (true≢false (sym (sym (ap is_some (no_core names p)) ∙ is)));
      }

  lists_by : (names : List Path) → ListsAll (image names)
  lists_by names p r at unmarked folder stands m i = absurd (no_record names p r at)

  module _ (nodes : Nodes) (leaves : Leaves w nodes) where
    left : (q : Path) → node_in nodes q ≡ reading (w.nodes q)
    left q =
        let firm = new.all_firm q in
        firm_one firm.0 (node_in nodes q) (subst (λ s. MayLeave s (node_in nodes q)) firm.1 (leaves.each q)) ∙ sym (ap reading firm.1)
      where
        firm_one : (m n : Option Node) → MayLeave (firmly m) n → n ≡ m
        firm_one m n (inl e) = e
        firm_one m n (inr e) = absurd e

    -- the image that a crash leaves
    image_is : image (places_in nodes) ≡ image_of o.read nodes
    image_is j = image_by o.read (places_in nodes) (λ q. sym (left q) j)

  never_owned : (n : Option Node) → firmly n ≡ Owned → ⊥
  never_owned n h = cc

  pub new_sound : SoundWorld o w (with_sources no_versions (seen o.read w))
  new_sound =
      record {
        formed = new.formed;
        now = sound_by w.names;
        after_crash = λ nodes leaves. subst (λ i. Sound o.act (with_sources no_versions (seen o.read w)) i none_eased) (image_is nodes leaves) (sound_by (places_in nodes));
        same_sources = λ nodes leaves p. ap (λ i. option_map told (source_at i p)) (sym (image_is nodes leaves));
        no_new_record = λ nodes leaves p r at unmarked. absurd (no_record (places_in nodes) p r (ap (λ i. record_at i p) (image_is nodes leaves) ∙ at));
        known = λ nodes leaves p at. absurd (true≢false (sym at ∙ (ap (λ i. stands (i.kept p)) (sym (image_is nodes leaves)) ∙ ap stands (no_kept (places_in nodes) p))));
        no_child = new.no_child;
        owners = λ q is. absurd (never_owned (new.all_firm q).0 (sym (new.all_firm q).1 ∙ is));
      }

  pub new_lists : IsListed o w
  new_lists =
      record {
        now = lists_by w.names;
        after_crash = λ nodes leaves. subst ListsAll (image_is nodes leaves) (lists_by (places_in nodes));
      }
