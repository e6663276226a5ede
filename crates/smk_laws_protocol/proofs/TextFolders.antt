-- The folders above a path are those that it lies under.
use Rattle.std.proofs.Common.{◌≡◌, ◌⊎◌, ℕ, Bool, true, false, List, [], ◌∷◌, ◌++◌, map, refl, sym, ap, subst, inl, inr, arith, ◌∙◌}
use Rattle.std.specs.Prelude.{bytes_eq, ◌==◌, if◌then◌else◌, ◌&&◌, ◌||◌, reverse}
use Rattle.std.specs.List.{list_any}
use Rattle.std.proofs.lemmas.List.{reverse-append}
use Rattle.smk_base.specs.Path.{is_under}
use Rattle.smk_base.proofs.Places.{place_itself}
use Rattle.smk_world.specs.World.{folders_above}
use Rattle.smk_world.specs.Trees.{Path, among, IsIn}
use Rattle.smk_laws_protocol.proofs.Basics.{by_test, any_by}
use Rattle.smk_laws_protocol.proofs.Sorted.{swap_eq}

among_none : (b : ℕ) (xs : List Path) → among (map (λ f. b ∷ f) xs) [] ≡ false
among_none b [] = refl
among_none b (x ∷ xs) = among_none b xs

among_cons : (b c : ℕ) (xs : List Path) (f : Path) → among (map (λ f. b ∷ f) xs) (c ∷ f) ≡ (c == b && among xs f)
among_cons b c [] f = and_false (c == b)
  where
    and_false : (v : Bool) → false ≡ (v && false)
    and_false true = refl
    and_false false = refl
among_cons b c (x ∷ xs) f = ap (λ y. (c == b && bytes_eq f x) || y) (among_cons b c xs f) ∙ share (c == b) (bytes_eq f x) (among xs f)
  where
    share : (a b c : Bool) → ((a && b) || (a && c)) ≡ (a && (b || c))
    share a b c = grind arith

eq_flip : (a b : ℕ) → (a == b) ≡ (b == a)
eq_flip a b = grind arith

-- by the first byte
folders_slash : (b : ℕ) (text : Path) → (b == 47) ≡ true → folders_above (b ∷ text) ≡ [] ∷ map (λ f. b ∷ f) (folders_above text)
folders_slash b text h = ap (λ (v : Bool). if v then [] ∷ map (λ f. b ∷ f) (folders_above text) else map (λ f. b ∷ f) (folders_above text)) h

folders_other : (b : ℕ) (text : Path) → (b == 47) ≡ false → folders_above (b ∷ text) ≡ map (λ f. b ∷ f) (folders_above text)
folders_other b text h = ap (λ (v : Bool). if v then [] ∷ map (λ f. b ∷ f) (folders_above text) else map (λ f. b ∷ f) (folders_above text)) h

pub folders_are : (q f : Path) → among (folders_above q) f ≡ is_under q f
folders_are [] f = refl
folders_are (b ∷ text) [] =
    by_test (b == 47)
    (λ h. ap (λ fs. among fs []) (folders_slash b text h) ∙ sym h)
    (λ h. ap (λ fs. among fs []) (folders_other b text h) ∙ among_none b (folders_above text) ∙ sym h)
folders_are (b ∷ text) (c ∷ f) =
    let ih = folders_are text f in
    by_test (b == 47)
    (λ h. ap (λ fs. among fs (c ∷ f)) (folders_slash b text h) ∙ among_cons b c (folders_above text) f ∙ ap (λ y. c == b && y) ih ∙ ap (λ v. v && is_under text f) (eq_flip c b))
    (λ h. ap (λ fs. among fs (c ∷ f)) (folders_other b text h) ∙ among_cons b c (folders_above text) f ∙ ap (λ y. c == b && y) ih ∙ ap (λ v. v && is_under text f) (eq_flip c b))

in_either : {A : Type 0} (xs ys : List A) (x : A) → IsIn (xs ++ ys) x → IsIn xs x ⊎ IsIn ys x
in_either [] ys x i = inr i
in_either (y ∷ xs) ys x (inl e) = inl (inl e)
in_either (y ∷ xs) ys x (inr i) = turn (in_either xs ys x i)
  where
    turn : IsIn xs x ⊎ IsIn ys x → IsIn (y ∷ xs) x ⊎ IsIn ys x
    turn (inl k) = inl (inr k)
    turn (inr k) = inr k

in_reverse : {A : Type 0} (xs : List A) (x : A) → IsIn (reverse xs) x → IsIn xs x
in_reverse [] x i = i
in_reverse (y ∷ xs) x i = turn (in_either (reverse xs) (y ∷ []) x (subst (λ l. IsIn l x) (reverse-append (y ∷ []) xs) i)) (in_reverse xs x)
  where
    turn : IsIn (reverse xs) x ⊎ IsIn (y ∷ []) x → (IsIn (reverse xs) x → IsIn xs x) → IsIn (y ∷ xs) x
    turn (inl k) ih = inr (ih k)
    turn (inr (inl e)) ih = inl e
    turn (inr (inr k)) ih = absurd k

pub any_among : (fs : List Path) (p : Path) → list_any (λ f. bytes_eq f p) fs ≡ among fs p
any_among [] p = refl
any_among (f ∷ fs) p = λ i. swap_eq f p i || any_among fs p i

pub among_by : (fs : List Path) (p : Path) → IsIn fs p → among fs p ≡ true
among_by fs p i = sym (any_among fs p) ∙ any_by (λ f. bytes_eq f p) fs p i (place_itself p)

pub folder_above : (q f : Path) → IsIn (reverse (folders_above q)) f → is_under q f ≡ true
folder_above q f i = sym (folders_are q f) ∙ among_by (folders_above q) f (in_reverse (folders_above q) f i)
