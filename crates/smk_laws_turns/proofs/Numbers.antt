-- Of the children that run each has a number of its own, and each job one child.
use Rattle.std.proofs.Common.{◌≡◌, ℕ, Bool, true, false, ◌&&◌, ◌||◌, not, List, [], ◌∷◌, map, filter, refl, sym, ap, subst, ◌∙◌, inl, inr, Some, eqb-true, eq-eqb, nat_eq, true≢false}
use Rattle.std.specs.Prelude.{bytes_eq, if◌then◌else◌}
use Rattle.std.specs.List.{AllByRecursion, IsDistinct, list_any}
use Rattle.smk_base.proofs.Places.{same_place}
use Rattle.smk_world.specs.declared.event.Child.{Child}
use Rattle.smk_world.specs.World.{child_numbered, out_paths}
use Rattle.smk_world.specs.Trees.{Each, IsIn, first}
use Rattle.smk_pattern.specs.Reading.{or_empty}
use Rattle.smk_flow.specs.declared.job.Job.{Job}
use Rattle.smk_laws_plan.proofs.CurrentSame.{pointwise_same}
use Rattle.smk_laws_protocol.proofs.Basics.{each_in, each_of, in_filter}
use Rattle.smk_job.specs.Jobs.{Underway}
use Rattle.smk_drive.specs.Moments.{is_child_of}
use Rattle.smk_laws_moments.specs.Courses.{child_of}
use Rattle.smk_laws_turns.specs.Standing.{path_of}

-- they are two children, of two jobs
pub record AreOther (g h : Underway) : Type 0 where
  pub numbers : g.number ≡ h.number → ⊥
  pub jobs : path_of g ≡ path_of h → ⊥

-- any two of them
abbrev pub AllOther : List Underway → Type 0
AllOther [] = Unit {0}
AllOther (g ∷ gs) = Each (AreOther g) gs × AllOther gs

-- where numbers are distinct, and each job has one child
pub all_other : (gs : List Underway) → IsDistinct nat_eq (map (λ (c : Child). c.number) (map child_of gs)) → ((a b : Underway) → IsIn gs a → IsIn gs b → path_of a ≡ path_of b → a ≡ b) → AllOther gs
unfolding IsDistinct
all_other [] distinct alone = tt
all_other (g ∷ gs) distinct alone = (each_of (AreOther g) gs one, all_other gs distinct.1 (λ a b i k same. alone a b (inr i) (inr k) same))
  where
    differs : (xs : List Underway) (x : Underway) → AllByRecursion (λ y. nat_eq g.number y ≡ false) (map (λ (c : Child). c.number) (map child_of xs)) → IsIn xs x → nat_eq g.number x.number ≡ false
    differs [] x all i = absurd i
    differs (y ∷ xs) x all (inl e) = ap (λ (z : Underway). nat_eq g.number z.number) e ∙ all.0
    differs (y ∷ xs) x all (inr i) = differs xs x all.1 i

    one : (x : Underway) → IsIn gs x → AreOther g x
    one x i =
        let never : g.number ≡ x.number → ⊥ = λ same. true≢false (sym (eq-eqb g.number x.number same) ∙ differs gs x distinct.0 i) in
        record { numbers = never; jobs = λ same. never (ap (λ (y : Underway). y.number) (alone g x (inl refl) (inr i) same)) }

other_number : (a b : ℕ) → (a ≡ b → ⊥) → nat_eq a b ≡ false
other_number a b differ = go (nat_eq a b) refl
  where
    go : (c : Bool) → nat_eq a b ≡ c → c ≡ false
    go true e = absurd (differ (eqb-true a b e))
    go false e = refl

-- the child with this number
pub numbered : (gs : List Underway) (g : Underway) (n : ℕ) → AllOther gs → IsIn gs g → n ≡ g.number → child_numbered n (map child_of gs) ≡ Some (child_of g)
numbered [] g n others i same = absurd i
numbered (x ∷ gs) g n others (inl e) same =
    ap (λ b. if b then Some (child_of x) else child_numbered n (map child_of gs)) (eq-eqb x.number n (sym (same ∙ ap (λ (y : Underway). y.number) e)))
    ∙ ap (λ (y : Underway). Some (child_of y)) (sym e)
numbered (x ∷ gs) g n others (inr i) same =
    let differ = (each_in (AreOther x) gs g others.0 i).numbers in
    ap (λ b. if b then Some (child_of x) else child_numbered n (map child_of gs)) (other_number x.number n (λ h. differ (h ∙ same)))
    ∙ numbered gs g n others.1 i same

-- a test of the child with this number is one of it
none_numbered : (gs : List Underway) (n : ℕ) (f : Child → Bool) → ((x : Underway) → IsIn gs x → x.number ≡ n → ⊥) → list_any (λ (c : Child). nat_eq c.number n && f c) (map child_of gs) ≡ false
none_numbered [] n f none = refl
none_numbered (x ∷ gs) n f none =
    λ i. (other_number x.number n (none x (inl refl)) i && f (child_of x)) || none_numbered gs n f (λ y k. none y (inr k)) i

or_false : (b : Bool) → (b || false) ≡ b
or_false true = refl
or_false false = refl

pub any_numbered :
    (gs : List Underway) (g : Underway) (n : ℕ) (f : Child → Bool) → AllOther gs → IsIn gs g → n ≡ g.number →
    list_any (λ (c : Child). nat_eq c.number n && f c) (map child_of gs) ≡ f (child_of g)
any_numbered [] g n f others i same = absurd i
any_numbered (x ∷ gs) g n f others (inl e) same =
    let rest = none_numbered gs n f (λ y k h. (each_in (AreOther x) gs y others.0 k).numbers (ap (λ (z : Underway). z.number) (sym e) ∙ (sym same ∙ sym h))) in
    (λ i. (eq-eqb x.number n (sym (same ∙ ap (λ (y : Underway). y.number) e)) i && f (child_of x)) || rest i)
    ∙ (or_false (f (child_of x)) ∙ ap (λ (y : Underway). f (child_of y)) (sym e))
any_numbered (x ∷ gs) g n f others (inr i) same =
    let differ = (each_in (AreOther x) gs g others.0 i).numbers in
    ap (λ b. (b && f (child_of x)) || list_any (λ (c : Child). nat_eq c.number n && f c) (map child_of gs)) (other_number x.number n (λ h. differ (h ∙ same)))
    ∙ any_numbered gs g n f others.1 i same

-- two of one job are one
pub one_of_job : (gs : List Underway) (a b : Underway) → AllOther gs → IsIn gs a → IsIn gs b → path_of a ≡ path_of b → a ≡ b
one_of_job [] a b others i k same = absurd i
one_of_job (x ∷ gs) a b others (inl e) (inl h) same = e ∙ sym h
one_of_job (x ∷ gs) a b others (inl e) (inr k) same = absurd ((each_in (AreOther x) gs b others.0 k).jobs (ap path_of (sym e) ∙ same))
one_of_job (x ∷ gs) a b others (inr i) (inl h) same = absurd ((each_in (AreOther x) gs a others.0 i).jobs (ap path_of (sym h) ∙ sym same))
one_of_job (x ∷ gs) a b others (inr i) (inr k) same = one_of_job gs a b others.1 i k same

mapped_in : {A B : Type 0} (f : A → B) (xs : List A) (y : B) → IsIn (map f xs) y → (x : A) × IsIn xs x × (y ≡ f x)
mapped_in f [] y h = absurd h
mapped_in f (x ∷ xs) y (inl e) = (x, inl refl, e)
mapped_in f (x ∷ xs) y (inr i) = let r = mapped_in f xs y i in (r.0, inr r.1, r.2)

filtered : {A : Type 0} (f : A → Bool) (xs : List A) (x : A) → IsIn (filter f xs) x → IsIn xs x × (f x ≡ true)
filtered f xs x i = in_filter f xs x i

none_of : {A : Type 0} (f : A → Bool) (xs : List A) → ((x : A) → IsIn xs x → f x ≡ true → ⊥) → list_any f xs ≡ false
none_of f [] h = refl
none_of f (x ∷ xs) h = go (f x) refl (none_of f xs (λ y i. h y (inr i)))
  where
    go : (b : Bool) → f x ≡ b → list_any f xs ≡ false → (b || list_any f xs) ≡ false
    go true e rest = absurd (h x (inl refl) e)
    go false e rest = rest

-- once a child has ended none of its job runs
pub none_of_job :
    (cs : List Child) (gs : List Underway) (g : Underway) (n : ℕ) (j : Job) → cs ≡ map child_of gs → AllOther gs → IsIn gs g → n ≡ g.number → j.recipe ≡ g.recipe →
    list_any (is_child_of j) (filter (λ (c : Child). not (nat_eq c.number n)) cs) ≡ false
none_of_job cs gs g n j children others i same recipe = none_of (is_child_of j) (filter (λ (c : Child). not (nat_eq c.number n)) cs) one
  where
    one : (c : Child) → IsIn (filter (λ (x : Child). not (nat_eq x.number n)) cs) c → is_child_of j c ≡ true → ⊥
    one c k is =
        let f = filtered (λ (x : Child). not (nat_eq x.number n)) cs c k in
        let m = mapped_in child_of gs c (subst (λ xs. IsIn xs c) children f.0) in
        let outs : out_paths c.recipe ≡ out_paths j.recipe = pointwise_same bytes_eq same_place (out_paths c.recipe) (out_paths j.recipe) is in
        let paths : path_of m.0 ≡ path_of g =
        ap (λ ps. or_empty (first ps)) (sym (ap (λ (x : Child). out_paths x.recipe) m.2) ∙ (outs ∙ ap out_paths recipe)) in
        let it = one_of_job gs m.0 g others m.1 i paths in
        let numbers : c.number ≡ n = ap (λ (x : Child). x.number) m.2 ∙ (ap (λ (x : Underway). x.number) it ∙ sym same) in
        true≢false (sym f.1 ∙ ap not (eq-eqb c.number n numbers))
