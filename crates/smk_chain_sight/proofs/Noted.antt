-- What was seen of paths, once more was noted.
use Rattle.std.proofs.Common.{◌≡◌, ℕ, ◌+◌, ◌<◌, ◌≤◌, Bool, true, false, ◌||◌, List, [], ◌∷◌, ◌++◌, length, drop, take, get_or, refl, sym, ap, subst, ◌∙◌, Option, Some, None, bytes_eq}
use Rattle.std.specs.Prelude.{if◌then◌else◌, String, All, is_some}
use Rattle.std.specs.List.{list_any}
use Rattle.std.specs.Global.{Global}
use Rattle.std.specs.BTreeMap.{BTreeMap, get_by_text}
use Rattle.std.proofs.lemmas.List.{take_more, drop_all}
use Rattle.std.proofs.lemmas.List.Elements.{All-push}
use Rattle.std.proofs.lemmas.Option.{same_Some}
use Rattle.smk_base.proofs.Places.{same_place}
use Rattle.smk_base.proofs.Under.{or_first}
use Rattle.smk_world.specs.declared.event.Name.{Name}
use Rattle.smk_world.specs.Trees.{Path}
use Rattle.smk_choose.specs.declared.sources.Standing.{Standing}
use Rattle.smk_store.specs.Images.{Image}
use Rattle.smk_store.proofs.Seeing.{dropped}
use Rattle.smk_chain_sight.specs.declared.seeing.Sighted.{Sighted}
use Rattle.smk_chain_sight.specs.Viewing.{IsSighted, AreSighted, IsStanding}

pub noted : (image : Image) (m n : BTreeMap (String Global) Sighted) (p t : Path) (s : Sighted) → ((q : Path) → get_by_text n q ≡ (if bytes_eq t q then Some s else get_by_text m q)) → t ≡ p → IsSighted image p s
    → AreSighted image m → AreSighted image n
noted image m n p t s changed same sight known = λ q u h. go q u (bytes_eq t q) refl (sym (changed q) ∙ h)
  where
    go : (q : Path) (u : Sighted) (b : Bool) → bytes_eq t q ≡ b → (if b then Some s else get_by_text m q) ≡ Some u → IsSighted image q u
    go q u true e h = subst (λ x. IsSighted image q x) (same_Some s u h) (subst (λ x. IsSighted image x s) (sym same ∙ same_place t q e) sight)
    go q u false e h = known q u h

-- so it is of what is told
pub told_more : (image : Image) (m n : Path → Option Standing) (p : Path) (s : Standing) → ((q : Path) → n q ≡ (if bytes_eq p q then Some s else m q)) → IsStanding image p s
    → ((q : Path) (u : Standing) → m q ≡ Some u → IsStanding image q u) → (q : Path) (u : Standing) → n q ≡ Some u → IsStanding image q u
told_more image m n p s changed stands known = λ q u h. go q u (bytes_eq p q) refl (sym (changed q) ∙ h)
  where
    go : (q : Path) (u : Standing) (b : Bool) → bytes_eq p q ≡ b → (if b then Some s else m q) ≡ Some u → IsStanding image q u
    go q u true e h = subst (λ x. IsStanding image q x) (same_Some s u h) (subst (λ x. IsStanding image x s) (same_place p q e) stands)
    go q u false e h = known q u h

-- one of which nothing was told is told of besides
pub keeps_more : (m n : Path → Option Standing) (p : Path) (s : Standing) → m p ≡ None → ((q : Path) → n q ≡ (if bytes_eq p q then Some s else m q)) → (q : Path) (u : Standing) → m q ≡ Some u → n q ≡ Some u
keeps_more m n p s none changed = λ q u h. changed q ∙ go q u (bytes_eq p q) refl h
  where
    never : (u : Standing) → None ≡ Some u → ⊥
    never u e = cc

    go : (q : Path) (u : Standing) (b : Bool) → bytes_eq p q ≡ b → m q ≡ Some u → (if b then Some s else m q) ≡ Some u
    go q u true e h = absurd (never u (sym none ∙ ap m (same_place p q e) ∙ h))
    go q u false e h = h

pub there : {A : Type 0} (o : Option A) (b : Bool) → b ≡ true → b ≡ is_some o → (x : A) × (o ≡ Some x)
there None b t e = absurd (wrong (sym t ∙ e))
  where
    wrong : true ≡ false → ⊥
    wrong h = cc
there (Some x) b t e = (x, refl)

pub not_there : {A : Type 0} (o : Option A) (b : Bool) → b ≡ false → b ≡ is_some o → o ≡ None
not_there None b t e = refl
not_there (Some x) b t e = absurd (wrong (sym t ∙ e))
  where
    wrong : false ≡ true → ⊥
    wrong h = cc

-- ## Paths one after another

pub found_one : (f : Path → Bool) (xs : List Path) (i : ℕ) (x : Path) (whole : Bool) → i < length xs → x ≡ get_or xs i x → f x ≡ true → whole ≡ list_any f (drop i xs) → true ≡ whole
found_one f xs i x whole lt at e h = sym (h ∙ ap (list_any f) (dropped xs i x lt at) ∙ or_first (f x) (list_any f (drop (i + 1) xs)) e)

pub not_this : (f : Path → Bool) (xs : List Path) (i : ℕ) (x : Path) (whole : Bool) → i < length xs → x ≡ get_or xs i x → f x ≡ false → whole ≡ list_any f (drop i xs) → whole ≡ list_any f (drop (i + 1) xs)
not_this f xs i x whole lt at e h = h ∙ ap (list_any f) (dropped xs i x lt at) ∙ ap (λ b. b || list_any f (drop (i + 1) xs)) e

pub none_of_all : (f : Path → Bool) (xs : List Path) (i : ℕ) (whole : Bool) → length xs ≤ i → whole ≡ list_any f (drop i xs) → false ≡ whole
none_of_all f xs i whole le h = sym (h ∙ ap (list_any f) (drop_all i xs le))

pub one_further : (P : Name → Type 0) (xs : List Name) (i : ℕ) (x : Name) → i < length xs → x ≡ get_or xs i x → All P (take i xs) → P x → All P (take (i + 1) xs)
one_further P xs i x lt at all p = subst (All P) (sym (take_more xs i x lt ∙ ap (λ m. take i xs ++ m ∷ []) (sym at))) (All-push P (take i xs) x all p)

pub sighted_again : (image : Image) (p : Path) (s : Sighted) → IsSighted image p s → IsSighted image p (record { source = s.source; folder = s.folder })
sighted_again image p s h = record { source = h.source; none = h.none }
