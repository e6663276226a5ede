-- One more child in its place, and what is asked for then; and a number of a list that is set.
use Rattle.std.proofs.Common.{◌≡◌, ◌⊎◌, ◌≤◌, ◌<◌, ◌+◌, ◌^◌, ℕ, zero, suc, Bool, true, false, List, [], ◌∷◌, ◌++◌, filter, length, refl, sym, ap, subst, ◌∙◌, inl, inr, arith, Option, Some, None}
use Rattle.std.specs.Prelude.{if◌then◌else◌, slice_set}
use Rattle.std.specs.List.{slice_get}
use Rattle.std.specs.List.Sorted.{IsPermutation}
use Rattle.std.proofs.lemmas.List.{append_assoc, length-append}
use Rattle.std.proofs.lemmas.List.Elements.{filter-append}
use Rattle.std.proofs.lemmas.List.Sorted.{IsPermutation-append_comm, IsPermutation-middle, IsPermutation-sym, IsPermutation-trans}
use Rattle.std.proofs.lemmas.Option.{same_Some}
use Rattle.smk_world.specs.Trees.{IsIn}
use Rattle.smk_laws_protocol.proofs.Basics.{in_rest, in_split}
use Rattle.smk_plan_live.specs.Live.{LivePlan}
use Rattle.smk_plan_live.specs.declared.phase.Phase.TheVariants.{Running, Waiting}
use Rattle.smk_plan_live.proofs.Changed.{get_other}
use Rattle.smk_drive_step.specs.declared.children.Child.{Child}
use Rattle.smk_drive_step.specs.Crews.{IsPutFor}
use Rattle.smk_laws_turns.specs.Hubs.{AreRunning, ask_in, asks_in, if_fits}
use Rattle.smk_laws_begins.specs.Fitting.{next_after, serial_after}

-- ## Lists

pub set_here : {A : Type 0} (xs : List A) (n : ℕ) (x y : A) → slice_get xs n ≡ Some y → slice_get (slice_set xs n x) n ≡ Some x
set_here [] n x y h = cc
set_here (z ∷ xs) zero x y h = refl
set_here (z ∷ xs) (suc n) x y h = set_here xs n x y h

-- ## What is asked for

asks_free : (before after : List (Option Child)) → asks_in (before ++ None ∷ after) ≡ asks_in before ++ asks_in after
asks_free [] after = refl
asks_free (p ∷ before) after = ap (λ xs. ask_in p ++ xs) (asks_free before after) ∙ sym (append_assoc (ask_in p) (asks_in before) (asks_in after))

asks_taken : (before after : List (Option Child)) (c : Child) → asks_in (before ++ Some c ∷ after) ≡ asks_in before ++ c.ask ∷ asks_in after
asks_taken [] after c = refl
asks_taken (p ∷ before) after c = ap (λ xs. ask_in p ++ xs) (asks_taken before after c) ∙ sym (append_assoc (ask_in p) (asks_in before) (c.ask ∷ asks_in after))

-- what is asked for once the child is in its place
pub asks_more : (were are : List (Option Child)) (c : Child) → IsPutFor None (Some c) were are → IsPermutation (asks_in were ++ c.ask ∷ []) (asks_in are)
asks_more were are c put =
    let front = asks_in put.before in
    let back = asks_in put.after in
    let was : asks_in were ≡ front ++ back = ap asks_in put.were_so ∙ asks_free put.before put.after in
    let is : asks_in are ≡ front ++ c.ask ∷ back = ap asks_in put.are_so ∙ asks_taken put.before put.after c in
    subst (λ xs. IsPermutation (xs ++ c.ask ∷ []) (asks_in are)) (sym was)
    (subst (IsPermutation ((front ++ back) ++ c.ask ∷ [])) (sym is)
    (IsPermutation-trans ((front ++ back) ++ c.ask ∷ []) (c.ask ∷ (front ++ back)) (front ++ c.ask ∷ back) (IsPermutation-append_comm (front ++ back) (c.ask ∷ []))
    (IsPermutation-sym (front ++ c.ask ∷ back) (c.ask ∷ (front ++ back)) (IsPermutation-middle front c.ask back))))

-- ## What runs

running_waits : Some Running ≡ Some Waiting → ⊥
running_waits e = cc

-- a child that is in a place is the new one, or was in its place
pub in_place : (were are : List (Option Child)) (c d : Child) → IsPutFor None (Some c) were are → IsIn are (Some d) → (d ≡ c) ⊎ IsIn were (Some d)
in_place were are c d put i = go (in_split put.before put.after (Some c) (Some d) (subst (λ ps. IsIn ps (Some d)) put.are_so i))
  where
    go : (Some d ≡ Some c) ⊎ IsIn (put.before ++ put.after) (Some d) → (d ≡ c) ⊎ IsIn were (Some d)
    go (inl e) = inl (same_Some d c e)
    go (inr k) = inr (subst (λ ps. IsIn ps (Some d)) (sym put.were_so) (in_rest put.before put.after None (Some d) k))

pub running_more :
    (old new : LivePlan) (were are : List (Option Child)) (c : Child) (n : ℕ) → IsPutFor None (Some c) were are → c.job ≡ n →
    slice_get old.base.phases n ≡ Some Waiting → new.base.phases ≡ slice_set old.base.phases n Running → AreRunning old were → AreRunning new are
running_more old new were are c n put number waits phases runs d i = ap (λ ps. slice_get ps d.job) phases ∙ go (in_place were are c d put i)
  where
    go : (d ≡ c) ⊎ IsIn were (Some d) → slice_get (slice_set old.base.phases n Running) d.job ≡ Some Running
    go (inl e) =
        ap (slice_get (slice_set old.base.phases n Running)) (ap (λ (x : Child). x.job) e ∙ number) ∙ set_here old.base.phases n Running Waiting waits
    go (inr k) =
        let ran = runs d k in
        get_other old.base.phases n d.job Running (λ same. running_waits (sym ran ∙ (ap (slice_get old.base.phases) same ∙ waits))) ∙ ran

-- ## Serials

pub count_end : {A : Type 0} (f : A → Bool) (xs : List A) (x : A) → length (filter f (xs ++ x ∷ [])) ≡ length (filter f xs) + length (filter f (x ∷ []))
count_end f xs x = ap length (filter-append f xs (x ∷ [])) ∙ length-append (filter f xs) (filter f (x ∷ []))

-- the serials that were drawn, with one more or without
pub count_by : {A : Type 0} (f : A → Bool) (xs : List A) (x : A) (b : Bool) → f x ≡ b → length (filter f (xs ++ x ∷ [])) ≡ length (filter f xs) + (if b then 1 else 0)
count_by f xs x b e = count_end f xs x ∙ (ap (λ c. length (filter f xs) + length (if c then x ∷ [] else [])) e ∙ go b)
  where
    go : (c : Bool) → length (filter f xs) + length (if c then x ∷ [] else []) ≡ length (filter f xs) + (if c then 1 else 0)
    go true = refl
    go false = refl

one_more : (g d n made : ℕ) → n ≡ d + 1 → g + (1 + d) ≡ made → made + 1 ≡ g + (1 + n)
one_more g d n made h k = omega (arith, h, k)

same_more : (g d n : ℕ) → n ≡ d + 0 → g + (1 + d) ≡ g + (1 + n)
same_more g d n h = omega (arith, h)

reach_more : (g d n made top : ℕ) → n ≡ d + 1 → g + (1 + d) ≡ made → made < top → g + (1 + n) ≤ top
reach_more g d n made top h k low = omega (arith, h, k, low)

reach_same : (g d n top : ℕ) → n ≡ d + 0 → g + (1 + d) ≤ top → g + (1 + n) ≤ top
reach_same g d n top h low = omega (arith, h, low)

-- the next serial, where this one was drawn
pub next_drawn : (g d n made : ℕ) (next : Option ℕ) → n ≡ d + 1 → g + (1 + d) ≡ made → next ≡ Some made → next_after true next ≡ if_fits (g + (1 + n))
next_drawn g d n made next h k is = ap serial_after is ∙ ap if_fits (one_more g d n made h k)

pub next_same : (g d n : ℕ) (next : Option ℕ) → n ≡ d + 0 → next ≡ if_fits (g + (1 + d)) → next_after false next ≡ if_fits (g + (1 + n))
next_same g d n next h is = is ∙ ap if_fits (same_more g d n h)

pub reach_drawn : (g d n made : ℕ) → n ≡ d + 1 → g + (1 + d) ≡ made → made < 2 ^ 64 → g + (1 + n) ≤ 2 ^ 64
reach_drawn g d n made h k low = reach_more g d n made (2 ^ 64) h k low

pub reach_still : (g d n : ℕ) → n ≡ d + 0 → g + (1 + d) ≤ 2 ^ 64 → g + (1 + n) ≤ 2 ^ 64
reach_still g d n h low = reach_same g d n (2 ^ 64) h low
