-- Soundness goes from an image to one with the same records, marks and notes, where whole outputs are as they were.
use Rattle.std.proofs.Common.{◌≡◌, ◌⊎◌, ℕ, zero, suc, Bool, true, false, not, ◌&&◌, refl, sym, ap, subst, inl, inr, ◌∙◌, Option, Some, None, find, true≢false, IsTrue}
use Rattle.std.specs.Prelude.{reverse, option_map, if◌then◌else◌, is_some}
use Rattle.std.specs.Option.{option_and_then}
use Rattle.smk_base.specs.declared.tree.Tree.{Tree}
use Rattle.smk_base.specs.declared.tree.Tree.TheVariants.{File}
use Rattle.smk_world.specs.World.{folders_above}
use Rattle.smk_world.specs.Trees.{Path, Act, IsIn, kind_in, all_of, value_at, part_at}
use Rattle.smk_record.specs.declared.record.Stamp.{Stamp}
use Rattle.smk_record.specs.declared.record.Stamp.TheVariants.{Time, Sum, Made}
use Rattle.smk_record.specs.declared.record.Record.{Record}
use Rattle.smk_record.specs.Records.{agrees, source_time, stamped, core}
use Rattle.smk_store.specs.declared.store.Kept.{Kept}
use Rattle.smk_store.specs.declared.store.Kept.TheVariants.{Absent, Unreadable, Held}
use Rattle.smk_store.specs.Images.{Image, Content, stands, readable, is_known, is_covered, is_source, is_file, source_at, core_at, is_whole, tree_now}
use Rattle.smk_store.specs.Trust.{Versions, none_eased, is_folder_record, holder, made_stamp, Speaks, Chain, Link, any_source, vouched, input_value, vir, made_at}
use Rattle.smk_store.specs.Soundness.{Sound}
use Rattle.smk_store.proofs.Versions.{version_on}
use Rattle.smk_laws_plan.proofs.CurrentLists.{or_left, or_right, and_right, not_true, any_none, find_in, clash_of}
use Rattle.smk_laws_plan.proofs.CurrentPaths.{among_in}
use Rattle.smk_laws_protocol.proofs.Chains.{map_same}
use Rattle.smk_laws_protocol.proofs.TextFolders.{folders_are, folder_above}

-- ## What is not covered has no record that speaks for it

no_stand : (k : Kept) → stands k ≡ false → readable k ≡ None
no_stand Absent h = refl
no_stand Unreadable h = refl
no_stand (Held r) h = absurd (true≢false h)

module _ (i : Image) where
  pub unknown_core : (p : Path) → is_known i p ≡ false → core_at i p ≡ None
  unknown_core p h = ap (option_map core) (no_stand (i.kept p) (or_left (stands (i.kept p)) _ h))

  no_holder : (q h : Path) → is_covered i q ≡ false → holder i q ≡ Some h → ⊥
  no_holder q h free is =
      let none = unknown_core q (or_left (is_known i q) _ free) in
      let over = λ (f : Path). is_folder_record f (core_at i f) in
      let found = find_in over (reverse (folders_above q)) h (sym (ap (λ (c : Option Record). if is_some c then Some q else find over (reverse (folders_above q))) none) ∙ is) in
      let above = among_in (folders_above q) h (folders_are q h ∙ folder_above q h found.0) in
      let nothing = unknown_core h (any_none (is_known i) (folders_above q) h (or_right (is_known i q) _ free) above) in
      clash_of (is_folder_record h (core_at i h)) found.1 (ap (is_folder_record h) nothing)

  -- what a record speaks for is no source
  pub held_no_source : (q h : Path) → holder i q ≡ Some h → is_source i q ≡ false
  held_no_source q h is = go (is_source i q) refl
    where
      go : (b : Bool) → is_source i q ≡ b → b ≡ false
      go true e = absurd (no_holder q h (not_true (is_covered i q) (and_right (is_file i q) _ (and_right _ (is_file i q && not (is_covered i q)) e))) is)
      go false e = refl

-- ## From the one image to the other

module _ (act : Act) (H H' : Versions) (i : Image) where
  -- what unmarked records tell of sources is the same in both versions
  abbrev pub SameTimes : Type 0
  SameTimes =
      (p : Path) (r : Record) (q : Path) (s : Stamp) (t : ℕ) →
      core_at i p ≡ Some r → i.marked p ≡ false → IsIn (stamped r) (q, s) → source_time s ≡ Some t → H' q t ≡ H q t

  -- The second image has its sources in the second versions; and of what is whole in it the first has the same.
  pub record IsFrom (y : Image) : Type 0 where
    pub has_sources : (p : Path) (f : Content) → source_at y p ≡ Some f → H' p f.time ≡ Some f.bytes
    pub whole :
        (p : Path) (r : Record) → core_at i p ≡ Some r → i.marked p ≡ false → IsTrue (is_whole y p (kind_in r.recipe p)) →
        IsTrue (is_whole i p (kind_in r.recipe p)) × (tree_now y p ≡ tree_now i p)

  module _ (x : Image) where
    abbrev then_image : Image
    then_image = record x { kept = i.kept; marked = i.marked; noted = i.noted }

    speaks_back : (q h : Path) (r : Record) → Speaks then_image none_eased q h r → Speaks i none_eased q h r
    speaks_back q h r s = record { no_source = held_no_source i q h s.holder; holder = s.holder; clear = s.clear }

    chain_back : (r : Record) → Chain then_image none_eased any_source r → Chain i none_eased any_source r
    chain_back _ (Link r place by times speaks chains) =
        Link r place by times (λ q m k. (speaks_back q (place q m) (by q m) (speaks q m k).0, (speaks q m k).1)) (λ q m k. chain_back (by q m) (chains q m k))

    unmarked_of : (h : Path) (r : Record) → (i.marked h ≡ false) ⊎ none_eased h r → i.marked h ≡ false
    unmarked_of h r (inl e) = e
    unmarked_of h r (inr e) = absurd e

    made_of : (m : ℕ) (q : Path) (V V' : Path → Option Tree) (h : Path) → V' h ≡ V h → holder i q ≡ Some h →
        input_value then_image H' V' (q, Made m) ≡ input_value i H V (q, Made m)
    made_of m q V V' h same is =
        ap (option_and_then (λ k. if agrees (Made m) (made_stamp (core_at i k)) then option_and_then (part_at k q) (V' k) else None)) is
        ∙ ap (λ (v : Option Tree). if agrees (Made m) (made_stamp (core_at i h)) then option_and_then (part_at h q) v else None) same
        ∙ sym (ap (option_and_then (λ k. if agrees (Made m) (made_stamp (core_at i k)) then option_and_then (part_at k q) (V k) else None)) is)

    -- the values of a record's inputs, where those of the records that speak for them are the same
    inputs_same : SameTimes → (n : ℕ) →
        ((p : Path) (r : Record) → core_at i p ≡ Some r → i.marked p ≡ false → Chain i none_eased any_source r → vir then_image act H' n p ≡ vir i act H n p) →
        (p : Path) (r : Record) → core_at i p ≡ Some r → i.marked p ≡ false → Chain i none_eased any_source r → (z : Path × Stamp) → IsIn (stamped r) z →
        input_value then_image H' (vir then_image act H' n) z ≡ input_value i H (vir i act H n) z
    inputs_same times n ih p r at unmarked chain (q, Time t) k = ap (option_map File) (times p r q (Time t) t at unmarked k refl)
    inputs_same times n ih p r at unmarked chain (q, Sum t d) k = ap (option_map File) (times p r q (Sum t d) t at unmarked k refl)
    inputs_same times n ih p _ at unmarked (Link r place by all speaks chains) (q, Made m) k =
        let say = (speaks q m k).0 in
        made_of m q (vir i act H n) (vir then_image act H' n) (place q m)
        (ih (place q m) (by q m) say.clear.0 (unmarked_of (place q m) (by q m) say.clear.1) (chains q m k)) say.holder

    vir_same : SameTimes → (n : ℕ) (p : Path) (r : Record) → core_at i p ≡ Some r → i.marked p ≡ false → Chain i none_eased any_source r → vir then_image act H' n p ≡ vir i act H n p
    vir_same times zero p r at unmarked chain = refl
    vir_same times (suc n) p r at unmarked chain =
        ap (vouched act p (input_value then_image H' (vir then_image act H' n))) at
        ∙ ap (λ xs. value_at act r.recipe p (all_of xs))
        (map_same (input_value then_image H' (vir then_image act H' n)) (input_value i H (vir i act H n)) (stamped r) (inputs_same times n (vir_same times n) p r at unmarked chain))
        ∙ sym (ap (vouched act p (input_value i H (vir i act H n))) at)

    keeps : SameTimes → Sound act H i none_eased → IsFrom then_image → Sound act H' then_image none_eased
    keeps times sound from =
        record {
          has_sources = from.has_sources;
          has_recorded = λ p r q s clear k.
              version_on H H' q s (λ t time. sym (times p r q s t clear.0 (unmarked_of p r clear.1) k time)) (sound.has_recorded p r q s clear k);
          holds = λ p r at unmarked chain whole.
              let back = from.whole p r at unmarked whole in
              let before = chain_back r chain in
              let h = sound.holds p r at unmarked before back.0 in
              (h.0, back.1 ∙ h.1, vir_same times (suc (made_at (core_at i p))) p r at unmarked before ∙ h.2);
          none_nested = sound.none_nested;
        }

  pub sound_from :
      (y : Image) → i.kept ≡ y.kept → i.marked ≡ y.marked → i.noted ≡ y.noted → SameTimes →
      Sound act H i none_eased → IsFrom y → Sound act H' y none_eased
  sound_from y kept marked noted times sound =
      subst (λ (z : Image). IsFrom z → Sound act H' z none_eased) (λ j. record y { kept = kept j; marked = marked j; noted = noted j }) (keeps y times sound)
