-- An image is sound where its view is, and the other way round.
use Rattle.std.proofs.Common.{◌≡◌, ◌⊎◌, ℕ, zero, suc, Bool, true, false, refl, sym, ap, subst, inl, inr, ◌∙◌, arith, Option, Some, None}
use Rattle.std.specs.Prelude.{◌==◌, ◌&&◌, ◌||◌, not, IsTrue, IsSome, is_some, option_map, if◌then◌else◌}
use Rattle.std.specs.List.{list_any}
use Rattle.std.specs.Option.{option_and_then}
use Rattle.smk_base.specs.declared.tree.Tree.{Tree}
use Rattle.smk_world.specs.Trees.{Path, Act, IsIn, part_at, is_path_text}
use Rattle.smk_world.specs.World.{folders_above}
use Rattle.smk_record.specs.declared.record.Stamp.{Stamp}
use Rattle.smk_record.specs.declared.record.Stamp.TheVariants.{Time, Sum, Made}
use Rattle.smk_record.specs.declared.record.Record.{Record}
use Rattle.smk_record.specs.Records.{core, agrees, stamped}
use Rattle.smk_store.specs.Images.{Image, Content, content_of, core_at, record_at, is_folder, file_at, stands, is_source as image_source, source_at as image_source_at, is_whole as image_whole}
use Rattle.smk_store.specs.Trust.{Versions, HasVersion, Eased, none_eased, any_source, made_stamp, made_at, vouched, Chain as ImageChain, Link as ImageLink, Vir, vir as image_vir, input_value as image_input, holder as image_holder}
use Rattle.smk_store.specs.Soundness.{Sound as ImageSound}
use Rattle.smk_base.specs.Path.{overlaps}
use Rattle.smk_world.specs.declared.event.Node.{Node}
use Rattle.smk_world.specs.declared.event.Node.TheVariants.{Regular, Directory}
use Rattle.smk_world.specs.declared.recipe.Kind.{Kind}
use Rattle.smk_world.specs.declared.recipe.Kind.TheVariants.{Plain, Folder as FolderKind}
use Rattle.smk_laws_protocol.proofs.Basics.{none_some, some_same}
use Rattle.smk_laws_protocol.proofs.View.{view, file_of, is_source, source_at, is_covered, is_whole, kind_in, Sound, Chain, Link, vir, input_value, has_made}

pub equal : (a b : ℕ) → (b == a) ≡ true → a ≡ b
equal a b h = grind arith

pub itself : (a b : ℕ) → a ≡ b → (b == a) ≡ true
itself a b h = grind arith

flip : (a b : ℕ) → (a == b) ≡ (b == a)
flip a b = grind arith

and_group : (a b c : Bool) → (a && (b && c)) ≡ ((a && b) && c)
and_group a b c = grind arith

or_group : (a b c : Bool) → (a || (b || c)) ≡ ((a || b) || c)
or_group a b c = grind arith

-- ---- files

-- a file with its flag off
abbrev pub flagless : Content → Content
flagless f = record f { read_only = false }

pub file_is : (n : Option Node) → option_map flagless (content_of n) ≡ file_of n
file_is None = refl
file_is (Some Directory) = refl
file_is (Some (Regular bytes time read_only)) = refl

pub some_file : (n : Option Node) → is_some (content_of n) ≡ is_some (file_of n)
some_file None = refl
some_file (Some Directory) = refl
some_file (Some (Regular bytes time read_only)) = refl

-- the same paths are sources
pub source_is : (i : Image) (q : Path) → image_source i q ≡ is_source (view i) q
source_is i q =
    (λ k. is_path_text q && (some_file (i.node q) k && not (or_group (stands (i.kept q)) (i.marked q) (i.noted q) k || list_any (λ f. or_group (stands (i.kept f)) (i.marked f) (i.noted f) k) (folders_above q))))
    ∙ and_group (is_path_text q) (is_some ((view i).file q)) (not (is_covered (view i) q))

module _ (i : Image) (e : Eased) where
  pub chain_to : (r : Record) → ImageChain i e any_source r → Chain (view i) e r
  chain_to _ (ImageLink r place by sources speaks chains) =
      Link r place by
      (λ q m k. (record { no_source = sym (source_is i q) ∙ (speaks q m k).0.no_source; holder = (speaks q m k).0.holder; clear = (speaks q m k).0.clear }, equal (by q m).made m (speaks q m k).1))
      (λ q m k. chain_to (by q m) (chains q m k))

  pub chain_from : (r : Record) → Chain (view i) e r → ImageChain i e any_source r
  chain_from _ (Link r place by speaks chains) =
      ImageLink r place by (λ q s k is. tt)
      (λ q m k. (record { no_source = source_is i q ∙ (speaks q m k).0.no_source; holder = (speaks q m k).0.holder; clear = (speaks q m k).0.clear }, itself (by q m).made m (speaks q m k).1))
      (λ q m k. chain_from (by q m) (chains q m k))

module _ (i : Image) (act : Act) (H : Versions) where
  agrees_is : (m : ℕ) (r : Option Record) → agrees (Made m) (made_stamp r) ≡ has_made m r
  agrees_is m None = refl
  agrees_is m (Some r) = flip m r.made

  input_is : (V V' : Path → Option Tree) → ((p : Path) → V p ≡ V' p) → (x : Path × Stamp) → image_input i H V x ≡ input_value (view i) H V' x
  input_is V V' same (q, Time t) = refl
  input_is V V' same (q, Sum t d) = refl
  input_is V V' same (q, Made m) = λ k. option_and_then (λ h. if agrees_is m (core_at i h) k then option_and_then (part_at h q) (same h k) else None) (image_holder i q)

  -- what a record vouches for is the same
  pub vir_is : (n : ℕ) (p : Path) → image_vir i act H n p ≡ vir (view i) act H n p
  vir_is zero p = refl
  vir_is (suc n) p = λ k. vouched act p (λ x. input_is (image_vir i act H n) (vir (view i) act H n) (vir_is n) x k) (core_at i p)

-- ## Soundness

flagless_if : (b : Bool) (x : Option Content) → option_map flagless (if b then x else None) ≡ (if b then option_map flagless x else None)
flagless_if true x = refl
flagless_if false x = refl

pub source_at_is : (i : Image) (p : Path) → option_map flagless (image_source_at i p) ≡ source_at (view i) p
source_at_is i p = flagless_if (image_source i p) (file_at i p) ∙ (λ k. if source_is i p k then file_is (i.node p) k else None)

pub flagless_some : (x : Option Content) (f : Content) → option_map flagless x ≡ Some f → (c : Content) × (x ≡ Some c) × (flagless c ≡ f)
flagless_some None f h = none_some None refl h
flagless_some (Some c) f h = (c, refl, some_same h)

some_core : (x : Option Record) (r : Record) → option_map core x ≡ Some r → is_some x ≡ true
some_core None r h = grind arith
some_core (Some x) r h = refl

pub whole_to : (i : Image) (p : Path) (r : Record) (k : Kind) → core_at i p ≡ Some r → IsTrue (is_whole (view i) p k) → IsTrue (image_whole i p k)
whole_to i p r Plain at h = some_file (i.node p) ∙ h
whole_to i p r FolderKind at h = more (is_folder i p) (is_some (record_at i p)) _ (some_core (record_at i p) r at) h
  where
    more : (a b c : Bool) → b ≡ true → (a && c) ≡ true → (a && (b && c)) ≡ true
    more a b c h k = grind arith

pub whole_from : (i : Image) (p : Path) (k : Kind) → IsTrue (image_whole i p k) → IsTrue (is_whole (view i) p k)
whole_from i p Plain h = sym (some_file (i.node p)) ∙ h
whole_from i p FolderKind h = less (is_folder i p) (is_some (record_at i p)) _ h
  where
    less : (a b c : Bool) → (a && (b && c)) ≡ true → (a && c) ≡ true
    less a b c h = grind arith

depth : (i : Image) (act : Act) (H : Versions) (p : Path) (r : Record) → core_at i p ≡ Some r → Vir i act H p ≡ vir (view i) act H (suc r.made) p
depth i act H p r at = ap (λ x. image_vir i act H (suc (made_at x)) p) at ∙ vir_is i act H (suc r.made) p

pub sound_to : (i : Image) (act : Act) (H : Versions) (e : Eased) → ImageSound act H i e → Sound act H (view i) e
sound_to i act H e sound =
    record {
      has_sources = λ p f is.
          let c = flagless_some (image_source_at i p) f (source_at_is i p ∙ is) in
          subst (λ (g : Content). H p g.time ≡ Some g.bytes) c.2 (sound.has_sources p c.0 c.1);
      has_recorded = λ p r q s at unmarked i. sound.has_recorded p r q s (at, inl unmarked) i;
      holds = λ p r at unmarked chain whole.
          let h = sound.holds p r at unmarked (chain_from i e r chain) (whole_to i p r (kind_in r p) at whole) in
          (h.0, h.1, sym (depth i act H p r at) ∙ h.2);
    }

-- the versions have each source as records tell of it that count though a mark is there
abbrev pub HasEased : Versions → Eased → Type 0
HasEased H e = (p : Path) (r : Record) (q : Path) (s : Stamp) → e p r → IsIn (stamped r) (q, s) → HasVersion H q s

pub has_none : (H : Versions) → HasEased H none_eased
has_none H p r q s never i = absurd never

-- where the versions have what is told of sources under marks that don't count, and no two records overlap
pub sound_from : (i : Image) (act : Act) (H : Versions) (e : Eased) → Sound act H (view i) e → HasEased H e → ((p q : Path) → IsSome (core_at i p) → IsSome (core_at i q) → IsTrue (overlaps p q) → p ≡ q) → ImageSound act H i e
sound_from i act H e sound told nested =
    record {
      has_sources = λ p f is. sound.has_sources p (flagless f) (sym (source_at_is i p) ∙ ap (option_map flagless) is);
      has_recorded = λ p r q s clear i. recorded p r q s clear.0 i clear.1;
      holds = λ p r at unmarked chain whole.
          let h = sound.holds p r at unmarked (chain_to i e r chain) (whole_from i p (kind_in r p) whole) in
          (h.0, h.1, depth i act H p r at ∙ h.2);
      none_nested = nested;
    }
  where
    recorded : (p : Path) (r : Record) (q : Path) (s : Stamp) → core_at i p ≡ Some r → IsIn (stamped r) (q, s) → (i.marked p ≡ false) ⊎ e p r → HasVersion H q s
    recorded p r q s at k (inl unmarked) = sound.has_recorded p r q s at unmarked k
    recorded p r q s at k (inr eased) = told p r q s eased k
