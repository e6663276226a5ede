-- Inputs of a job that are safe, by computation: sources, and products that are whole and trusted.
use Rattle.std.proofs.Common.{◌≡◌, ℕ, zero, suc, Bool, true, false, ◌&&◌, ◌||◌, not, [], Option, Some, None, refl, sym, ap, subst, ◌∙◌, IsTrue, true≢false, inl, inr, bytes_eq}
use Rattle.std.specs.List.{list_all}
use Rattle.smk_world.specs.World.{is_within}
use Rattle.smk_world.specs.Calls.{owned_now}
use Rattle.smk_world.specs.Trees.{Path, IsIn, kind_in}
use Rattle.smk_record.specs.declared.record.Record.{Record}
use Rattle.smk_record.specs.declared.record.Stamp.{Stamp}
use Rattle.smk_record.specs.declared.record.Stamp.TheVariants.{Time, Sum, Made}
use Rattle.smk_record.specs.Records.{agrees, is_of_source, stamped}
use Rattle.smk_store.specs.Images.{Image, is_source, is_file, is_whole, core_at}
use Rattle.smk_store.specs.Trust.{Eased, Speaks, Chain, Link, holder, same_source, stamp_now}
use Rattle.smk_drive.specs.Moments.{Rules, Moment, seen}
use Rattle.smk_drive.specs.Lawful.{IsSafeInput, IsSafeProduct, eased}
use Rattle.smk_drive_rows.proofs.Truth.{and_left, and_right, so_false, each_true, at_each}

-- ## Chains of records

abbrev or_path : Option Path → Path
or_path None = []
or_path (Some h) = h

abbrev or_record : Record → Option Record → Record
or_record r None = r
or_record r (Some s) = s

module _ (image : Image) where
  abbrev record_ok : (Record → Bool) → ℕ → Option Record → Bool
  record_ok deeper m None = false
  record_ok deeper m (Some r) = agrees (Made m) (Some (Made r.made)) && deeper r

  abbrev product_ok : (Record → Bool) → ℕ → Option Path → Bool
  product_ok deeper m None = false
  product_ok deeper m (Some h) = not (image.marked h) && record_ok deeper m (core_at image h)

  abbrev link_ok : (Record → Bool) → Path × Stamp → Bool
  link_ok deeper (q, Time t) = agrees (Time t) (stamp_now image q)
  link_ok deeper (q, Sum t d) = agrees (Sum t d) (stamp_now image q)
  link_ok deeper (q, Made m) = not (is_source image q) && product_ok deeper m (holder image q)

  -- each input of the record is as it was, through at most n records
  abbrev pub is_chained : ℕ → Record → Bool
  is_chained zero r = false
  is_chained (suc n) r = list_all (link_ok (is_chained n)) (stamped r)

  module _ (eased : Eased) where
    abbrev speaker : Path → Path
    speaker q = or_path (holder image q)

    abbrev spoken : Record → Path → Record
    spoken r q = or_record r (core_at image (speaker q))

    abbrev GoodBy : (Record → Bool) → Path → ℕ → Path → Record → Type 0
    GoodBy deeper q m h r = Speaks image eased q h r × IsTrue (agrees (Made m) (Some (Made r.made))) × (deeper r ≡ true)

    good_record :
        (r : Record) (deeper : Record → Bool) (m : ℕ) (q h : Path) →
        is_source image q ≡ false → holder image q ≡ Some h → image.marked h ≡ false →
        (s : Option Record) → core_at image h ≡ s → record_ok deeper m s ≡ true → GoodBy deeper q m (speaker q) (spoken r q)
    good_record r deeper m q h source e clear None f t = absurd (true≢false (sym t))
    good_record r deeper m q h source e clear (Some s) f t =
        let there : h ≡ speaker q = sym (ap or_path e) in
        let speaks : s ≡ spoken r q = sym (ap (λ p. or_record r (core_at image (or_path p))) e ∙ ap (or_record r) f) in
        let agree = agrees (Made m) (Some (Made s.made)) in
        subst (λ p. GoodBy deeper q m p (spoken r q)) there
        (subst (λ x. GoodBy deeper q m h x) speaks
        (record { no_source = source; holder = e; clear = (f, inl clear) }, and_left agree (deeper s) t, and_right agree (deeper s) t))

    good_product :
        (r : Record) (deeper : Record → Bool) (m : ℕ) (q : Path) →
        is_source image q ≡ false → (h : Option Path) → holder image q ≡ h → product_ok deeper m h ≡ true → GoodBy deeper q m (speaker q) (spoken r q)
    good_product r deeper m q source None e t = absurd (true≢false (sym t))
    good_product r deeper m q source (Some h) e t =
        good_record r deeper m q h source e (so_false (image.marked h) (and_left (not (image.marked h)) (record_ok deeper m (core_at image h)) t)) (core_at image h) refl
        (and_right (not (image.marked h)) (record_ok deeper m (core_at image h)) t)

    good_link : (r : Record) (deeper : Record → Bool) (q : Path) (m : ℕ) → link_ok deeper (q, Made m) ≡ true → GoodBy deeper q m (speaker q) (spoken r q)
    good_link r deeper q m t =
        good_product r deeper m q (so_false (is_source image q) (and_left (not (is_source image q)) (product_ok deeper m (holder image q)) t)) (holder image q) refl
        (and_right (not (is_source image q)) (product_ok deeper m (holder image q)) t)

    link_at : (deeper : Record → Bool) (r : Record) (e : Path × Stamp) → list_all (link_ok deeper) (stamped r) ≡ true → IsIn (stamped r) e → link_ok deeper e ≡ true
    link_at deeper r e t is = at_each (λ x. link_ok deeper x ≡ true) (stamped r) e (each_true (link_ok deeper) (λ x. link_ok deeper x ≡ true) (λ x h. h) (stamped r) t) is

    link_source : (deeper : Record → Bool) (q : Path) (s : Stamp) → link_ok deeper (q, s) ≡ true → is_of_source s ≡ true → same_source image q s
    link_source deeper q (Time t) ok source = ok
    link_source deeper q (Sum t d) ok source = ok
    link_source deeper q (Made m) ok source = absurd (true≢false (sym source))

    pub chained : (n : ℕ) (r : Record) → is_chained n r ≡ true → Chain image eased (same_source image) r
    chained zero r t = absurd (true≢false (sym t))
    chained (suc n) r t =
        Link r (λ q m. speaker q) (λ q m. spoken r q) (λ q s is source. link_source (is_chained n) q s (link_at (is_chained n) r (q, s) t is) source)
        (λ q m is. let good = good_link r (is_chained n) q m (link_at (is_chained n) r (q, Made m) t is) in (good.0, good.1))
        (λ q m is. let good = good_link r (is_chained n) q m (link_at (is_chained n) r (q, Made m) t is) in chained n (spoken r q) good.2)

-- ## Inputs

module _ (rules : Rules) (m : Moment) where
  abbrev image : Image
  image = seen rules m.world

  abbrev core_ok : Path → Option Record → Bool
  core_ok h None = false
  core_ok h (Some r) = is_whole image h (kind_in r.recipe h) && is_chained image 6 r

  abbrev speaks_ok : Path → Option Path → Bool
  speaks_ok q None = false
  speaks_ok q (Some h) = (bytes_eq h q || is_file image q) && (not (image.marked h) && core_ok h (core_at image h))

  abbrev is_safe_product : Path → Bool
  is_safe_product q = not (is_within q (owned_now m.world.children)) && speaks_ok q (holder image q)

  abbrev safe_by : Bool → Path → Bool
  safe_by true q = true
  safe_by false q = is_safe_product q

  -- a source, or a product that is safe
  abbrev pub is_safe : Path → Bool
  is_safe q = safe_by (is_source image q) q

  some_same : (a b : Record) → Some a ≡ Some b → a ≡ b
  some_same a b h = cc

  by_core :
      (q h : Path) → is_within q (owned_now m.world.children) ≡ false → holder image q ≡ Some h → IsTrue (bytes_eq h q || is_file image q) → image.marked h ≡ false →
      (r : Option Record) → core_at image h ≡ r → core_ok h r ≡ true → IsSafeProduct rules m q
  by_core q h free speaks file clear None e t = absurd (true≢false (sym t))
  by_core q h free speaks file clear (Some r) e t =
      let whole = is_whole image h (kind_in r.recipe h) in
      record {
        not_owned = free;
        speaker = h;
        speaks = speaks;
        as_file = file;
        unmarked = clear;
        whole = λ s f. subst (λ (x : Record). IsTrue (is_whole image h (kind_in x.recipe h))) (some_same r s (sym e ∙ f)) (and_left whole (is_chained image 6 r) t);
        trusted = (r, (e, inl clear), chained image (eased rules m) 6 r (and_right whole (is_chained image 6 r) t));
      }

  by_speaker : (q : Path) → is_within q (owned_now m.world.children) ≡ false → (h : Option Path) → holder image q ≡ h → speaks_ok q h ≡ true → IsSafeProduct rules m q
  by_speaker q free None e t = absurd (true≢false (sym t))
  by_speaker q free (Some h) e t =
      let file = bytes_eq h q || is_file image q in
      let rest = not (image.marked h) && core_ok h (core_at image h) in
      by_core q h free e (and_left file rest t) (so_false (image.marked h) (and_left (not (image.marked h)) (core_ok h (core_at image h)) (and_right file rest t)))
      (core_at image h) refl (and_right (not (image.marked h)) (core_ok h (core_at image h)) (and_right file rest t))

  pub safe_input : (q : Path) → is_safe q ≡ true → IsSafeInput rules m q
  safe_input q t = go (is_source image q) refl t
    where
      free : Bool
      free = not (is_within q (owned_now m.world.children))

      go : (b : Bool) → is_source image q ≡ b → safe_by b q ≡ true → IsSafeInput rules m q
      go true e t = inl e
      go false e t =
          inr (by_speaker q (so_false (is_within q (owned_now m.world.children)) (and_left free (speaks_ok q (holder image q)) t)) (holder image q) refl (and_right free (speaks_ok q (holder image q)) t))
