-- What is left of names that rise.
use Rattle.std.proofs.Common.{◌≡◌, inl, inr, Bool, true, false, ◌||◌, List, [], ◌∷◌, refl, sym, ap, subst, ◌∙◌, bytes_eq, true≢false}
use Rattle.std.specs.Prelude.{filter, if◌then◌else◌}
use Rattle.std.specs.List.{AllByRecursion, list_any}
use Rattle.std.specs.List.Sorted.{IsStrictlySortedBy}
use Rattle.std.specs.Cmp.Lexicographic.{slice_cmp}
use Rattle.std.specs.Ordering.{nat_cmp}
use Rattle.std.specs.declared.cmp.Ordering.TheVariants.{Less}
use Rattle.smk_base.proofs.Places.{same_place, place_itself}
use Rattle.smk_base.proofs.Under.{or_first, or_second}
use Rattle.smk_world.specs.Trees.{Path, IsIn, among}
use Rattle.smk_world.specs.World.{IsRising}

-- ## Lists

pub in_among : (ns : List Path) (q : Path) → among ns q ≡ true → IsIn ns q
in_among [] q h = absurd (true≢false (sym h))
in_among (n ∷ ns) q h = by (bytes_eq q n) refl (in_among ns q) h
  where
    by : (b : Bool) → bytes_eq q n ≡ b → (among ns q ≡ true → IsIn ns q) → (b || among ns q) ≡ true → IsIn (n ∷ ns) q
    by true e again k = inl (same_place q n e)
    by false e again k = inr (again k)

pub among_in : (ns : List Path) (q : Path) → IsIn ns q → among ns q ≡ true
among_in [] q h = absurd h
among_in (n ∷ ns) q (inl e) = or_first (bytes_eq q n) (among ns q) (subst (λ x. bytes_eq q x ≡ true) e (place_itself q))
among_in (n ∷ ns) q (inr h) = or_second (bytes_eq q n) (among ns q) (among_in ns q h)

pub any_in : {A : Type 0} (f : A → Bool) (xs : List A) (x : A) → IsIn xs x → f x ≡ true → list_any f xs ≡ true
any_in f [] x h k = absurd h
any_in f (y ∷ xs) x (inl e) k = or_first (f y) (list_any f xs) (ap f (sym e) ∙ k)
any_in f (y ∷ xs) x (inr h) k = or_second (f y) (list_any f xs) (any_in f xs x h k)

pub in_any : {A : Type 0} (f : A → Bool) (xs : List A) → list_any f xs ≡ true → (x : A) × IsIn xs x × (f x ≡ true)
in_any f [] h = absurd (true≢false (sym h))
in_any {A = A} f (y ∷ xs) h = by (f y) refl (in_any f xs) h
  where
    by : (b : Bool) → f y ≡ b → (list_any f xs ≡ true → (x : A) × IsIn xs x × (f x ≡ true)) → (b || list_any f xs) ≡ true → (x : A) × IsIn (y ∷ xs) x × (f x ≡ true)
    by true e again k = (y, inl refl, e)
    by false e again k = let r = again k in (r.0, inr r.1, r.2)

-- ## Names

-- each is before all that follow
abbrev pub Rises : List Path → Type 0
Rises [] = Unit {0}
Rises (n ∷ ns) = ((x : Path) → IsIn ns x → slice_cmp nat_cmp n x ≡ Less) × Rises ns

above : (n : Path) (ms : List Path) → AllByRecursion (λ y. slice_cmp nat_cmp n y ≡ Less) ms → (x : Path) → IsIn ms x → slice_cmp nat_cmp n x ≡ Less
above n [] h x i = absurd i
above n (m ∷ ms) h x (inl e) = subst (λ y. slice_cmp nat_cmp n y ≡ Less) (sym e) h.0
above n (m ∷ ms) h x (inr i) = above n ms h.1 x i

pub rises : (ns : List Path) → IsRising ns → Rises ns
unfolding IsStrictlySortedBy
rises [] s = tt
rises (n ∷ ns) s = (above n ns s.0, rises ns s.1)

-- ## What is left

pub none_left : (f : Path → Bool) (ns : List Path) → ((x : Path) → f x ≡ false) → filter f ns ≡ []
none_left f [] h = refl
none_left f (n ∷ ns) h = ap (λ b. if b then n ∷ filter f ns else filter f ns) (h n) ∙ none_left f ns h

pub in_filter : (f : Path → Bool) (ns : List Path) (q : Path) → IsIn ns q → f q ≡ true → IsIn (filter f ns) q
in_filter f [] q i h = absurd i
in_filter f (n ∷ ns) q (inl e) h = subst (λ b. IsIn (if b then n ∷ filter f ns else filter f ns) q) (sym (ap f (sym e) ∙ h)) (inl e)
in_filter f (n ∷ ns) q (inr i) h = by (f n) (in_filter f ns q i h)
  where
    by : (b : Bool) → IsIn (filter f ns) q → IsIn (if b then n ∷ filter f ns else filter f ns) q
    by true k = inr k
    by false k = k

-- The least that both leave is the first.
pub first_left : (f g : Path → Bool) (q : Path) (ns : List Path) → Rises ns → IsIn ns q → g q ≡ true → f q ≡ true
    → ((x : Path) → g x ≡ true → f x ≡ true → slice_cmp nat_cmp x q ≡ Less → ⊥) → (rest : List Path) × (filter f (filter g ns) ≡ q ∷ rest)
first_left f g q [] r i hg hf least = absurd i
first_left f g q (n ∷ ns) r (inl e) hg hf least = (
  filter f (filter g ns),
  ap (λ b. filter f (if b then n ∷ filter g ns else filter g ns)) (ap g (sym e) ∙ hg)
      ∙ ap (λ b. if b then n ∷ filter f (filter g ns) else filter f (filter g ns)) (ap f (sym e) ∙ hf)
      ∙ ap (λ x. x ∷ filter f (filter g ns)) (sym e),
)
first_left f g q (n ∷ ns) r (inr i) hg hf least = by (g n) refl (f n) refl (first_left f g q ns r.1 i hg hf least)
  where
    by : (b : Bool) → g n ≡ b → (c : Bool) → f n ≡ c → (rest : List Path) × (filter f (filter g ns) ≡ q ∷ rest) → (rest : List Path) × (filter f (filter g (n ∷ ns)) ≡ q ∷ rest)
    by true eg true ef k = absurd (least n eg ef (r.0 q i))
    by true eg false ef k =
        (k.0, ap (λ b. filter f (if b then n ∷ filter g ns else filter g ns)) eg ∙ ap (λ b. if b then n ∷ filter f (filter g ns) else filter f (filter g ns)) ef ∙ k.1)
    by false eg c ef k = (k.0, ap (λ b. filter f (if b then n ∷ filter g ns else filter g ns)) eg ∙ k.1)
