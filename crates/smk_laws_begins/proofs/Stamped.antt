-- The stamps that are told of the inputs of a job, with the digests that were taken, are those of now.
use Rattle.std.proofs.Common.{◌≡◌, ◌≢◌, ℕ, Bool, true, false, cond, List, [], ◌∷◌, map, refl, sym, ap, ◌∙◌, inl, inr, Option, Some, None}
use Rattle.std.specs.Prelude.{if◌then◌else◌, option_map}
use Rattle.std.specs.List.{AllZip}
use Rattle.std.specs.Option.{option_and_then}
use Rattle.std.proofs.lemmas.Option.{same_Some}
use Rattle.smk_base.specs.declared.sum.Sum.{Sum as Digest}
use Rattle.smk_world.specs.declared.event.Node.{Node}
use Rattle.smk_world.specs.declared.event.Node.TheVariants.{Directory, Regular}
use Rattle.smk_world.specs.declared.event.NodeState.{NodeState}
use Rattle.smk_world.specs.declared.event.NodeState.TheVariants.{Known, Owned}
use Rattle.smk_world.specs.declared.event.Besides.{Besides}
use Rattle.smk_world.specs.World.{World, reading}
use Rattle.smk_world.specs.Trees.{Each, Path}
use Rattle.smk_record.specs.declared.record.Record.{Record}
use Rattle.smk_record.specs.declared.record.Stamp.{Stamp}
use Rattle.smk_record.specs.declared.record.Stamp.TheVariants.{Made, Sum, Time}
use Rattle.smk_store.specs.Images.{Content, Image, content_of, core_at, file_at, is_outside, is_source, seen, source_at}
use Rattle.smk_store.specs.Trust.{content_stamp, holder, is_summed, made_stamp, source_stamp, stamp_now, sum_of, unmarked_stamp}
use Rattle.smk_digest.specs.Digests.{sum_in}
use Rattle.smk_run.specs.Digesting.{with_sum}
use Rattle.smk_plan_facts.specs.Facts.{IsToldAs}
use Rattle.smk_laws_plan.proofs.CurrentMeaning.{source_file, source_reads, source_stamp as source_stamp_of}
use Rattle.smk_drive_step.specs.Stamping.{AreDigested, IsDigested}

-- The input is a source, or what speaks for it has no mark.
pub data IsClearInput (image : Image) (q : Path) : Type 0 where
  IsSource : is_source image q ≡ true → IsClearInput image q
  IsProduct : (h : Path) → is_source image q ≡ false → holder image q ≡ Some h → image.marked h ≡ false → IsClearInput image q

-- The folder as it counts has the same files, records and sources, and no mark that the folder hasn't.
pub record CountsAs (image counted : Image) (q : Path) : Type 0 where
  pub source : is_source counted q ≡ is_source image q
  pub file : file_at counted q ≡ file_at image q
  pub held : holder counted q ≡ holder image q
  pub core : (h : Path) → core_at counted h ≡ core_at image h
  pub marks : (h : Path) → image.marked h ≡ false → counted.marked h ≡ false

none_some : {A : Type 0} {x : A} → None ≡ Some x → ⊥
none_some h = cc

some_none : {A : Type 0} {x : A} → Some x ≡ None → ⊥
some_none h = cc

-- ## Sources

-- the file that stands there
stands_so : (outside : Bool) (n : Option Node) (f : Content) → content_of (if outside then n else None) ≡ Some f → content_of n ≡ Some f
stands_so true n f h = h
stands_so false n f h = absurd (none_some h)

-- with the digest of the file that stands there its time is its stamp
with_digest : (bytes : List ℕ) (time : ℕ) (read_only : Bool) → with_sum (sum_in (Some (Regular bytes time read_only))) (Time time) ≡ content_stamp (record { bytes = bytes; time = time; read_only = read_only })
with_digest bytes time read_only = go (is_summed bytes)
  where
    go : (b : Bool) → with_sum (option_map sum_of (if b then Some bytes else None)) (Time time) ≡ (if b then Sum time (sum_of bytes) else Time time)
    go true = refl
    go false = refl

not_owned : (n : Option Node) (b : Besides) → Known n b ≡ Owned → ⊥
not_owned n b e = cc

digest_told :
    (n : NodeState) (sum : Option Digest) (f : Content) → (n ≢ Owned → sum ≡ sum_in (reading n)) → content_of (reading n) ≡ Some f → with_sum sum (Time f.time) ≡ content_stamp f
digest_told Owned sum f told is = absurd (none_some is)
digest_told (Known None b) sum f told is = absurd (none_some is)
digest_told (Known (Some Directory) b) sum f told is = absurd (none_some is)
digest_told (Known (Some (Regular bytes t flag)) b) sum f told is =
    let same = same_Some (record { bytes = bytes; time = t; read_only = flag }) f is in
    ap (λ x. with_sum x (Time f.time)) (told (not_owned (Some (Regular bytes t flag)) b))
    ∙ (ap (λ (x : Content). with_sum (sum_in (Some (Regular bytes t flag))) (Time x.time)) (sym same)
    ∙ (with_digest bytes t flag ∙ ap content_stamp same))

-- a stamp without a digest has the file's time
bare_time : (f : Content) (t : ℕ) → content_stamp f ≡ Time t → f.time ≡ t
bare_time f t h = go (is_summed f.bytes) h
  where
    time_of : Stamp → ℕ
    time_of (Time x) = x
    time_of (Sum x d) = x
    time_of (Made n) = n

    go : (b : Bool) → (if b then Sum f.time (sum_of f.bytes) else Time f.time) ≡ Time t → f.time ≡ t
    go true k = cc
    go false k = ap time_of k

-- ## One input

some_of : {a b : Stamp} → Some a ≡ Some b → a ≡ b
some_of e = cc

not_made : (o : Option Record) (k : Stamp) → Some k ≡ made_stamp o → (n : ℕ) × (k ≡ Made n)
not_made None k h = absurd (some_none h)
not_made (Some r) k h = (r.made, some_of h)

module _ (read : List ℕ → Option Record) (w : World) (counted : Image) (records : List Record) (q : Path) (counts : CountsAs (seen read w) counted q) where
  abbrev image : Image
  image = seen read w

  -- where the input is a source
  module _ (is : is_source image q ≡ true) (f : Content) (at : file_at image q ≡ Some f) where
    of_time : (s : Stamp) (t : ℕ) → f.time ≡ t → IsDigested w q (Time t) s → s ≡ content_stamp f
    of_time s t same (sum, told, is_sum) =
        is_sum ∙ (ap (λ x. with_sum sum (Time x)) (sym same) ∙ digest_told (w.nodes q) sum f told (stands_so (is_outside q) (reading (w.nodes q)) f at))

    of_stamp : (k s : Stamp) → k ≡ content_stamp f → IsDigested w q k s → s ≡ content_stamp f
    of_stamp (Time t) s h d = of_time s t (bare_time f t (sym h)) d
    of_stamp (Sum t x) s h d = d ∙ h
    of_stamp (Made n) s h d = d ∙ h

    of_bare : (k s : Stamp) → k ≡ Time f.time → IsDigested w q k s → s ≡ content_stamp f
    of_bare (Time t) s h d = of_time s t (same (sym h)) d
      where
        same : Time f.time ≡ Time t → f.time ≡ t
        same e = cc
    of_bare (Sum t x) s h d = cc
    of_bare (Made n) s h d = cc

    of_source : (told : Option Stamp) (k s : Stamp) → IsToldAs counted records q told → Some k ≡ told → IsDigested w q k s → s ≡ content_stamp f
    of_source told k s (inl as_now) known d =
        of_stamp k s (some_of (known ∙ (as_now ∙ source_stamp_of counted q f (counts.source ∙ is) (counts.file ∙ at)))) d
    of_source told k s (inr bare) known d =
        let same : f.time ≡ bare.0.time =
        ap (λ (c : Content). c.time) (same_Some f bare.0 (sym (source_reads counted q f (counts.source ∙ is) (counts.file ∙ at)) ∙ bare.1)) in
        of_bare k s (some_of (known ∙ (bare.2 ∙ ap (λ t. Some (Time t)) (sym same)))) d

  -- where what speaks for it has no mark
  module _ (h : Path) (not : is_source image q ≡ false) (holds : holder image q ≡ Some h) (unmarked : image.marked h ≡ false) where
    now : stamp_now image q ≡ made_stamp (core_at image h)
    now =
        ap (λ b. if b then source_stamp (source_at image q) else option_and_then (unmarked_stamp image) (holder image q)) not
        ∙ (ap (option_and_then (unmarked_stamp image)) holds ∙ ap (λ b. if b then None else made_stamp (core_at image h)) unmarked)

    counted_now : stamp_now counted q ≡ made_stamp (core_at image h)
    counted_now =
        ap (λ b. if b then source_stamp (source_at counted q) else option_and_then (unmarked_stamp counted) (holder counted q)) (counts.source ∙ not)
        ∙ (ap (option_and_then (unmarked_stamp counted)) (counts.held ∙ holds)
        ∙ (ap (λ b. if b then None else made_stamp (core_at counted h)) (counts.marks h unmarked) ∙ ap made_stamp (counts.core h)))

    of_made : (k s : Stamp) → Some k ≡ made_stamp (core_at image h) → IsDigested w q k s → s ≡ k
    of_made (Made n) s known d = d
    of_made (Sum t x) s known d = d
    of_made (Time t) s known d = absurd (clash (not_made (core_at image h) (Time t) known).1)
      where
        clash : {n : ℕ} → Time t ≡ Made n → ⊥
        clash e = cc

    of_product : (told : Option Stamp) (k s : Stamp) → IsToldAs counted records q told → Some k ≡ told → IsDigested w q k s → Some s ≡ stamp_now image q
    of_product told k s (inl as_now) known d =
        let is : Some k ≡ made_stamp (core_at image h) = known ∙ (as_now ∙ counted_now) in ap Some (of_made k s is d) ∙ (is ∙ sym now)
    of_product told k s (inr bare) known d =
        absurd (none_some (sym (ap (λ b. cond b (file_at counted q) None) (counts.source ∙ not)) ∙ bare.1))

  pub one_stamp :
      IsClearInput image q → (told : Option Stamp) (k s : Stamp) → IsToldAs counted records q told → Some k ≡ told → IsDigested w q k s →
      Some s ≡ stamp_now image q
  one_stamp (IsSource is) told k s told_as known d =
      let f = source_file image q is in
      ap Some (of_source is f.0 f.1 told k s told_as known d) ∙ sym (source_stamp_of image q f.0 is f.1)
  one_stamp (IsProduct h not holds unmarked) told k s told_as known d = of_product h not holds unmarked told k s told_as known d

-- ## All of them

some_head : {A : Type 0} {x y : A} {xs ys : List A} → x ∷ xs ≡ y ∷ ys → x ≡ y
some_head e = cc

some_tail : {A : Type 0} {x y : A} {xs ys : List A} → x ∷ xs ≡ y ∷ ys → xs ≡ ys
some_tail e = cc

pub all_stamps :
    (read : List ℕ → Option Record) (w : World) (counted : Image) (records : List Record) (ps : List Path) (told : List (Option Stamp)) (ks ss : List Stamp) →
    Each (CountsAs (seen read w) counted) ps → Each (IsClearInput (seen read w)) ps → AllZip (IsToldAs counted records) ps told → map Some ks ≡ told →
    AreDigested w ps ks ss → map Some ss ≡ map (stamp_now (seen read w)) ps
all_stamps read w counted records [] told [] [] counts clear told_as known d = refl
all_stamps read w counted records [] told [] (s ∷ ss) counts clear told_as known d = absurd d
all_stamps read w counted records [] told (k ∷ ks) ss counts clear told_as known d = absurd d
all_stamps read w counted records (p ∷ ps) told [] ss counts clear told_as known d = absurd d
all_stamps read w counted records (p ∷ ps) told (k ∷ ks) [] counts clear told_as known d = absurd d
all_stamps read w counted records (p ∷ ps) [] (k ∷ ks) (s ∷ ss) counts clear told_as known d = absurd told_as
all_stamps read w counted records (p ∷ ps) (t ∷ told) (k ∷ ks) (s ∷ ss) counts clear told_as known d =
    let here = one_stamp read w counted records p counts.0 clear.0 t k s told_as.0 (some_head known) d.0 in
    let rest = all_stamps read w counted records ps told ks ss counts.1 clear.1 told_as.1 (some_tail known) d.1 in
    λ i. here i ∷ rest i
