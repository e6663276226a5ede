-- The children in their places are those that run.
use Rattle.std.proofs.Common.{◌≡◌, ◌⊎◌, ℕ, Bool, true, false, not, List, [], ◌∷◌, ◌++◌, refl, sym, ap, subst, ◌∙◌, inl, inr, eqb-true, eq-eqb, nat_eq, Option, Some, None, true≢false}
use Rattle.std.specs.Prelude.{is_none}
use Rattle.std.specs.List.{list_all}
use Rattle.smk_world.specs.Trees.{IsIn}
use Rattle.smk_job.specs.Jobs.{Underway}
use Rattle.smk_laws_protocol.proofs.Basics.{filter_in, in_filter, in_here, in_rest, in_split}
use Rattle.smk_laws_protocol.proofs.Guarded.{in_either}
use Rattle.smk_laws_protocol.proofs.Stays.{in_left, in_right}
use Rattle.smk_drive_step.specs.declared.children.Child.{Child}
use Rattle.smk_drive_step.specs.Crews.{goings}
use Rattle.smk_laws_turns.specs.Hubs.{AreApart}
use Rattle.smk_laws_turns.specs.Turning.{CrewGrows, CrewIsBusy, CrewIsIdle, CrewShrinks}

-- those before a free place, and those after it
around_free : (before after : List (Option Child)) → goings (before ++ None ∷ after) ≡ goings before ++ goings after
around_free [] after = refl
around_free (None ∷ ps) after = around_free ps after
around_free (Some c ∷ ps) after = ap (λ gs. c.going ∷ gs) (around_free ps after)

around_taken : (before after : List (Option Child)) (c : Child) → goings (before ++ Some c ∷ after) ≡ goings before ++ c.going ∷ goings after
around_taken [] after c = refl
around_taken (None ∷ ps) after c = around_taken ps after c
around_taken (Some d ∷ ps) after c = ap (λ gs. d.going ∷ gs) (around_taken ps after c)

-- one more, with a number that none has
apart_more :
    (xs ys : List Underway) (g : Underway) →
    AreApart (xs ++ ys) → ((k : Underway) → IsIn (xs ++ ys) k → k.number ≡ g.number → ⊥) → AreApart (xs ++ g ∷ ys)
apart_more [] ys g apart fresh = (fresh, apart)
apart_more (x ∷ xs) ys g apart fresh = (λ k i. other k (in_split xs ys g k i), apart_more xs ys g apart.1 (λ k i. fresh k (inr i)))
  where
    other : (k : Underway) → (k ≡ g) ⊎ IsIn (xs ++ ys) k → k.number ≡ x.number → ⊥
    other k (inl e) = λ same. fresh x (inl refl) (sym same ∙ ap (λ (u : Underway). u.number) e)
    other k (inr i) = apart.0 k i

-- one less; none of the others has its number
apart_less :
    (xs ys : List Underway) (g : Underway) →
    AreApart (xs ++ g ∷ ys) → AreApart (xs ++ ys) × ((k : Underway) → IsIn (xs ++ ys) k → k.number ≡ g.number → ⊥)
apart_less [] ys g apart = (apart.1, apart.0)
apart_less (x ∷ xs) ys g apart = with_one (apart_less xs ys g apart.1)
  where
    with_one :
        AreApart (xs ++ ys) × ((k : Underway) → IsIn (xs ++ ys) k → k.number ≡ g.number → ⊥) →
        AreApart (x ∷ xs ++ ys) × ((k : Underway) → IsIn (x ∷ xs ++ ys) k → k.number ≡ g.number → ⊥)
    with_one rest = ((λ k i. apart.0 k (in_rest xs ys g k i), rest.0), λ k i. other k i)
      where
        other : (k : Underway) → IsIn (x ∷ xs ++ ys) k → k.number ≡ g.number → ⊥
        other k (inl e) = λ same. apart.0 g (in_here xs ys g) (sym same ∙ ap (λ (u : Underway). u.number) e)
        other k (inr i) = rest.1 k i

pub crew_grows : CrewGrows
crew_grows were are runs c crew put fresh =
    let before = goings put.before in
    let after = goings put.after in
    let was : goings were ≡ before ++ after = ap goings put.were_so ∙ around_free put.before put.after in
    let is : goings are ≡ before ++ c.going ∷ after = ap goings put.are_so ∙ around_taken put.before put.after c in
    record {
      run = λ g i. here was g (in_split before after c.going g (subst (λ gs. IsIn gs g) is i));
      placed = λ g i. subst (λ gs. IsIn gs g) (sym is) (there was g (in_either runs (c.going ∷ []) g i));
      apart =
          subst AreApart (sym is)
          (apart_more before after c.going (subst AreApart was crew.apart) (λ k i. fresh k (crew.run k (subst (λ gs. IsIn gs k) (sym was) i))));
    }
  where
    here :
        goings were ≡ goings put.before ++ goings put.after → (g : Underway) →
        (g ≡ c.going) ⊎ IsIn (goings put.before ++ goings put.after) g → IsIn (runs ++ c.going ∷ []) g
    here was g (inl e) = in_right runs (c.going ∷ []) g (inl e)
    here was g (inr i) = in_left runs (c.going ∷ []) g (crew.run g (subst (λ gs. IsIn gs g) (sym was) i))

    there :
        goings were ≡ goings put.before ++ goings put.after → (g : Underway) →
        IsIn runs g ⊎ IsIn (c.going ∷ []) g → IsIn (goings put.before ++ c.going ∷ goings put.after) g
    there was g (inl i) = in_rest (goings put.before) (goings put.after) c.going g (subst (λ gs. IsIn gs g) was (crew.placed g i))
    there was g (inr (inl e)) =
        subst (λ x. IsIn (goings put.before ++ c.going ∷ goings put.after) x) (sym e) (in_here (goings put.before) (goings put.after) c.going)
    there was g (inr (inr i)) = absurd i

unlike : (m n : ℕ) → (m ≡ n → ⊥) → not (nat_eq m n) ≡ true
unlike m n differ = go (nat_eq m n) refl
  where
    go : (b : Bool) → nat_eq m n ≡ b → not b ≡ true
    go true e = absurd (differ (eqb-true m n e))
    go false e = refl

alike : {A : Type 0} (m n : ℕ) → m ≡ n → not (nat_eq m n) ≡ true → A
alike m n same h = absurd (true≢false (sym h ∙ ap not (eq-eqb m n same)))

pub crew_shrinks : CrewShrinks
crew_shrinks were are runs c crew taken =
    let before = goings taken.before in
    let after = goings taken.after in
    let was : goings were ≡ before ++ c.going ∷ after = ap goings taken.were_so ∙ around_taken taken.before taken.after c in
    let is : goings are ≡ before ++ after = ap goings taken.are_so ∙ around_free taken.before taken.after in
    let less = apart_less before after c.going (subst AreApart was crew.apart) in
    record {
      run = λ g i.
          let j = subst (λ gs. IsIn gs g) is i in
          filter_in (λ (r : Underway). not (nat_eq r.number c.going.number)) runs g
          (crew.run g (subst (λ gs. IsIn gs g) (sym was) (in_rest before after c.going g j))) (unlike g.number c.going.number (less.1 g j));
      placed = λ g i.
          let found = in_filter (λ (r : Underway). not (nat_eq r.number c.going.number)) runs g i in
          subst (λ gs. IsIn gs g) (sym is)
          (other g found.1 (in_split before after c.going g (subst (λ gs. IsIn gs g) was (crew.placed g found.0))));
      apart = subst AreApart (sym is) less.0;
    }
  where
    other :
        (g : Underway) → not (nat_eq g.number c.going.number) ≡ true →
        (g ≡ c.going) ⊎ IsIn (goings taken.before ++ goings taken.after) g → IsIn (goings taken.before ++ goings taken.after) g
    other g differ (inl e) = alike g.number c.going.number (ap (λ (u : Underway). u.number) e) differ
    other g differ (inr i) = i

all_free : (places : List (Option Child)) → list_all is_none places ≡ true → goings places ≡ []
all_free [] h = refl
all_free (None ∷ ps) h = all_free ps h
all_free (Some c ∷ ps) h = absurd (true≢false (sym h))

one_runs : (places : List (Option Child)) → list_all is_none places ≡ false → (g : Underway) × IsIn (goings places) g
one_runs [] h = absurd (true≢false h)
one_runs (None ∷ ps) h = one_runs ps h
one_runs (Some c ∷ ps) h = (c.going, inl refl)

pub crew_idle : CrewIsIdle
crew_idle places runs crew free = go runs (λ g i. subst (λ gs. IsIn gs g) (all_free places free) (crew.placed g i))
  where
    go : (rs : List Underway) → ((g : Underway) → IsIn rs g → ⊥) → rs ≡ []
    go [] none = refl
    go (r ∷ rs) none = absurd (none r (inl refl))

pub crew_busy : CrewIsBusy
crew_busy places runs crew taken = λ none. let one = one_runs places taken in subst (λ rs. IsIn rs one.0) none (crew.run one.0 one.1)
