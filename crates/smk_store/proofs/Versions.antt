-- Versions of sources, the stamps that sources have, and what stamps tell that agree.
use Rattle.std.proofs.Common.{◌≡◌, ◌⊎◌, ℕ, Bool, true, false, List, [], ◌∷◌, refl, sym, ap, subst, inl, inr, true≢false, eqb-true, ◌∙◌, Option, Some, None, option_map}
use Rattle.std.specs.Prelude.{◌==◌, ◌||◌, IsSome, bytes_eq, if◌then◌else◌}
use Rattle.std.proofs.lemmas.Option.{none-some, same_Some}
use Rattle.smk_base.specs.Digests.{digest}
use Rattle.smk_base.specs.declared.sum.Sum.{Sum as Digest}
use Rattle.smk_base.specs.declared.tree.Tree.{Tree}
use Rattle.smk_base.specs.declared.tree.Tree.TheVariants.{File}
use Rattle.smk_base.proofs.Places.{same_place}
use Rattle.smk_base.proofs.Under.{or_cases}
use Rattle.smk_world.specs.Trees.{Path}
use Rattle.smk_record.specs.declared.record.Stamp.{Stamp}
use Rattle.smk_record.specs.declared.record.Stamp.TheVariants.{Time, Sum, Made}
use Rattle.smk_record.specs.Records.{agree, is_of_source, serial_in, source_time}
use Rattle.smk_store.specs.Images.{Content, Image}
use Rattle.smk_store.specs.Trust.{Versions, HasVersion, SumsDiffer, is_summed, sum_of, content_stamp, input_value}

-- ## The stamp of a source

abbrev stamp_if : Bool → Content → Stamp
stamp_if b f = if b then Sum f.time (sum_of f.bytes) else Time f.time

-- it has the source's time
pub content_time : (f : Content) → source_time (content_stamp f) ≡ Some f.time
content_time f = go (is_summed f.bytes)
  where
    go : (b : Bool) → source_time (stamp_if b f) ≡ Some f.time
    go true = refl
    go false = refl

pub content_of_source : (f : Content) → is_of_source (content_stamp f) ≡ true
content_of_source f = go (is_summed f.bytes)
  where
    go : (b : Bool) → is_of_source (stamp_if b f) ≡ true
    go true = refl
    go false = refl

-- the source has this stamp, so this time
pub time_is : (f : Content) (s : Stamp) (t : ℕ) → content_stamp f ≡ s → source_time s ≡ Some t → f.time ≡ t
time_is f s t same time = same_Some f.time t (sym (content_time f) ∙ ap source_time same ∙ time)

no_truth : {A : Type 0} → false ≡ true → A
no_truth h = absurd (true≢false (sym h))

-- a serial agrees with no source
pub made_source : (m : ℕ) (f : Content) → agree (Made m) (content_stamp f) ≡ true → ⊥
made_source m f same = go (is_summed f.bytes) same
  where
    go : (b : Bool) → agree (Made m) (stamp_if b f) ≡ true → ⊥
    go true h = no_truth h
    go false h = no_truth h

-- what was a source agrees with no serial
pub source_made : (s : Stamp) (m : ℕ) → is_of_source s ≡ true → agree s (Made m) ≡ true → ⊥
source_made (Time t) m source same = no_truth same
source_made (Sum t d) m source same = no_truth same
source_made (Made n) m source same = no_truth source

-- what agrees with a serial is that serial
pub is_serial : (s : Stamp) (m : ℕ) → agree s (Made m) ≡ true → s ≡ Made m
is_serial (Time t) m same = no_truth same
is_serial (Sum t d) m same = no_truth same
is_serial (Made n) m same = ap Made (eqb-true n m same)

pub serial_same : (a b : ℕ) → agree (Made a) (Made b) ≡ true → a ≡ b
serial_same a b same = eqb-true a b same

-- ## Versions

some_is : {A : Type 0} (x : Option A) (a : A) → x ≡ Some a → IsSome x
some_is x a h = rw h refl

-- a source whose bytes are among the versions is so by its stamp
pub has_content : (H : Versions) (q : Path) (f : Content) → H q f.time ≡ Some f.bytes → HasVersion H q (content_stamp f)
has_content H q f h = go (is_summed f.bytes)
  where
    go : (b : Bool) → HasVersion H q (stamp_if b f)
    go true = (f.bytes, h, refl)
    go false = some_is (H q f.time) f.bytes h

-- versions that are the same at the stamp's time
pub version_on : (H V : Versions) (q : Path) (s : Stamp) → ((t : ℕ) → source_time s ≡ Some t → H q t ≡ V q t) → HasVersion H q s → HasVersion V q s
version_on H V q (Time t) same h = subst (λ (y : Option (List ℕ)). IsSome y) (same t refl) h
version_on H V q (Sum t d) same h = (h.0, sym (same t refl) ∙ h.1, h.2)
version_on H V q (Made m) same h = tt

-- what an input was that was a source, by its recorded time
pub source_value :
    (image : Image) (H : Versions) (V : Path → Option Tree) (q : Path) (s : Stamp) (t : ℕ) (bytes : List ℕ) →
    source_time s ≡ Some t → H q t ≡ Some bytes → input_value image H V (q, s) ≡ Some (File bytes)
source_value image H V q (Time u) t bytes time has = ap (λ n. option_map File (H q n)) (same_Some u t time) ∙ ap (option_map File) has
source_value image H V q (Sum u d) t bytes time has = ap (λ n. option_map File (H q n)) (same_Some u t time) ∙ ap (option_map File) has
source_value image H V q (Made m) t bytes time has = absurd (none-some t time)

-- ## Stamps that agree

-- of a source its content, of a product its serial
abbrev pub what_input : (ℕ → Option (List ℕ)) → Stamp → Option (List ℕ) ⊎ ℕ
what_input h (Time t) = inl (h t)
what_input h (Sum t d) = inl (h t)
what_input h (Made m) = inr m

same_digest : (d c : Digest) → bytes_eq d.0 c.0 ≡ true → d ≡ c
same_digest d c h = ap digest (same_place d.0 c.0 h)

-- stamps that agree are of the same content or serial
pub agreed :
    (H : Versions) → SumsDiffer H → (q : Path) (a b : Stamp) → agree a b ≡ true → HasVersion H q a → HasVersion H q b → what_input (H q) a ≡ what_input (H q) b
agreed H differ q (Time t) (Time u) same ha hb = ap (λ n. inl (H q n)) (eqb-true t u same)
agreed H differ q (Time t) (Sum u c) same ha hb = ap (λ n. inl (H q n)) (eqb-true t u same)
agreed H differ q (Time t) (Made n) same ha hb = no_truth same
agreed H differ q (Sum t d) (Time u) same ha hb = ap (λ n. inl (H q n)) (eqb-true t u same)
agreed H differ q (Sum t d) (Sum u c) same ha hb =
    elim (or_cases (t == u) (bytes_eq d.0 c.0) same) [
      | inl time ↦ ap (λ n. inl (H q n)) (eqb-true t u time)
      | inr sums ↦
          let bytes : ha.0 ≡ hb.0 = differ q q t u ha.0 hb.0 ha.1 hb.1 (ha.2 ∙ same_digest d c sums ∙ sym hb.2) in
          ap inl (ha.1 ∙ ap (λ x. Some x) bytes ∙ sym hb.1)
    ]
agreed H differ q (Sum t d) (Made n) same ha hb = no_truth same
agreed H differ q (Made m) (Time u) same ha hb = no_truth same
agreed H differ q (Made m) (Sum u c) same ha hb = no_truth same
agreed H differ q (Made m) (Made n) same ha hb = ap inr (eqb-true m n same)

-- they name the same serials
pub serial_agreed : (a b : Stamp) → agree a b ≡ true → serial_in a ≡ serial_in b
serial_agreed (Time t) (Time u) same = refl
serial_agreed (Time t) (Sum u c) same = refl
serial_agreed (Time t) (Made n) same = no_truth same
serial_agreed (Sum t d) (Time u) same = refl
serial_agreed (Sum t d) (Sum u c) same = refl
serial_agreed (Sum t d) (Made n) same = no_truth same
serial_agreed (Made m) (Time u) same = no_truth same
serial_agreed (Made m) (Sum u c) same = no_truth same
serial_agreed (Made m) (Made n) same = ap (λ x. x ∷ []) (eqb-true m n same)

abbrev content_or : {A B : Type 0} → A → A ⊎ B → A
content_or a (inl x) = x
content_or a (inr y) = a

-- A recorded stamp that agrees with the stamp of a source was a source's, and tells a time at which the versions have the bytes of now.
pub agreeing :
    (H : Versions) → SumsDiffer H → (q : Path) (s : Stamp) (f : Content) →
    H q f.time ≡ Some f.bytes → HasVersion H q s → agree s (content_stamp f) ≡ true → (t : ℕ) × (source_time s ≡ Some t) × (H q t ≡ Some f.bytes)
agreeing H differ q s f now has same = go s (is_summed f.bytes) has same (agreed H differ q s (content_stamp f) same has (has_content H q f now))
  where
    here : (t : ℕ) (b : Bool) → inl (H q t) ≡ what_input (H q) (stamp_if b f) → H q t ≡ Some f.bytes
    here t true e = ap (content_or None) e ∙ now
    here t false e = ap (content_or None) e ∙ now

    go : (s : Stamp) (b : Bool) → HasVersion H q s → agree s (stamp_if b f) ≡ true → what_input (H q) s ≡ what_input (H q) (stamp_if b f) → (t : ℕ) × (source_time s ≡ Some t) × (H q t ≡ Some f.bytes)
    go (Time t) b has same e = (t, refl, here t b e)
    go (Sum t d) b has same e = (t, refl, here t b e)
    go (Made m) true has same e = no_truth same
    go (Made m) false has same e = no_truth same
