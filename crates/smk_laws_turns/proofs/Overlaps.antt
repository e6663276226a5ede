-- Paths that don't overlap, and what children own and use.
use Rattle.std.proofs.Common.{◌≡◌, ◌⊎◌, inl, inr, Bool, true, false, ◌||◌, not, List, [], ◌∷◌, ◌++◌, refl, sym, subst, ◌∙◌, true≢false, All}
use Rattle.std.specs.List.{list_any}
use Rattle.std.proofs.lemmas.List.Elements.{All-nil, All-cons}
use Rattle.smk_base.specs.Path.{is_at_or_under, overlaps}
use Rattle.smk_base.proofs.Under.{false_unless, never_both, or_cases, overlaps_above_both, overlaps_at}
use Rattle.smk_world.specs.declared.event.Child.{Child}
use Rattle.smk_world.specs.Calls.{HasOwners, any_overlap, are_apart, owned_now, used_now}
use Rattle.smk_world.specs.Trees.{IsIn, Path}
use Rattle.smk_world.specs.World.{World, in_paths, is_within, owned_paths}
use Rattle.smk_job.specs.Jobs.{Underway}
use Rattle.smk_store.specs.Unowned.{IsUnownedUnder}
use Rattle.smk_laws_protocol.proofs.Basics.{none_of}
use Rattle.smk_laws_plan.proofs.CurrentLists.{and_left, and_right, in_either, in_left, not_true}
use Rattle.smk_laws_moments.proofs.Spots.{each_apart, flipped}

-- ## Overlaps

-- each of these is apart from each of those
pub apart_at : (ps qs : List Path) (p q : Path) → any_overlap ps qs ≡ false → IsIn ps p → IsIn qs q → overlaps p q ≡ false
apart_at ps qs p q h ip iq = none_of (overlaps p) qs q (none_of (λ x. list_any (overlaps x) qs) ps p h ip) iq

pub apart_back : (ps qs : List Path) → any_overlap ps qs ≡ false → any_overlap qs ps ≡ false
apart_back ps qs h = each_apart qs ps (λ q p iq ip. flipped p q (apart_at ps qs p q h ip iq))

-- from both of these
pub apart_both : (ps qs rs : List Path) → any_overlap ps qs ≡ false → any_overlap ps rs ≡ false → any_overlap ps (qs ++ rs) ≡ false
apart_both ps qs rs h k = each_apart ps (qs ++ rs) (λ p q ip iq. elim (in_either q qs rs iq) [ inl i ↦ apart_at ps qs p q h ip i | inr i ↦ apart_at ps rs p q k ip i ])

-- what one path is apart from
pub one_apart : (p : Path) (qs : List Path) → ((q : Path) → IsIn qs q → overlaps p q ≡ false) → any_overlap (p ∷ []) qs ≡ false
one_apart p qs h = each_apart (p ∷ []) qs (λ x q ix iq. at x q ix (h q iq))
  where
    at : (x q : Path) → IsIn (p ∷ []) x → overlaps p q ≡ false → overlaps x q ≡ false
    at x q (inl e) k = subst (λ y. overlaps y q ≡ false) (sym e) k
    at x q (inr never) k = absurd never

pub apart_first : (ps qs rs : List Path) → any_overlap (ps ++ qs) rs ≡ false → any_overlap ps rs ≡ false
apart_first ps qs rs h = each_apart ps rs (λ p q ip iq. apart_at (ps ++ qs) rs p q h (in_left p ps qs ip) iq)

-- two of those that are apart are one, or don't overlap
pub same_or_apart : (ps : List Path) (p q : Path) → are_apart ps ≡ true → IsIn ps p → IsIn ps q → (p ≡ q) ⊎ (overlaps p q ≡ false)
same_or_apart [] p q h i k = absurd i
same_or_apart (x ∷ xs) p q h (inl e) (inl d) = inl (e ∙ sym d)
same_or_apart (x ∷ xs) p q h (inl e) (inr k) =
    inr (subst (λ y. overlaps y q ≡ false) (sym e) (none_of (overlaps x) xs q (not_true (list_any (overlaps x) xs) (and_left (not (list_any (overlaps x) xs)) (are_apart xs) h)) k))
same_or_apart (x ∷ xs) p q h (inr i) (inl d) =
    inr (flipped q p (subst (λ y. overlaps y p ≡ false) (sym d) (none_of (overlaps x) xs p (not_true (list_any (overlaps x) xs) (and_left (not (list_any (overlaps x) xs)) (are_apart xs) h)) i)))
same_or_apart (x ∷ xs) p q h (inr i) (inr k) = same_or_apart xs p q (and_right (not (list_any (overlaps x) xs)) (are_apart xs) h) i k

-- ## At or under

-- what doesn't overlap any isn't within them
pub none_within : (q : Path) (ps : List Path) → ((p : Path) → IsIn ps p → overlaps q p ≡ false) → is_within q ps ≡ false
none_within q [] h = refl
none_within q (p ∷ ps) h = neither (is_at_or_under q p) (is_within q ps) (false_unless (is_at_or_under q p) (λ at. never_both (overlaps q p) (overlaps_at q p at) (h p (inl refl))))
    (none_within q ps (λ x i. h x (inr i)))
  where
    neither : (a b : Bool) → a ≡ false → b ≡ false → (a || b) ≡ false
    neither true b e d = absurd (true≢false e)
    neither false b e d = d

pub within_in : (q : Path) (ps : List Path) → is_within q ps ≡ true → (p : Path) × IsIn ps p × (is_at_or_under q p ≡ true)
within_in q [] h = absurd (true≢false (sym h))
within_in q (p ∷ ps) h = go (or_cases (is_at_or_under q p) (is_within q ps) h) (within_in q ps)
  where
    go : (is_at_or_under q p ≡ true) ⊎ (is_within q ps ≡ true) → (is_within q ps ≡ true → (r : Path) × IsIn ps r × (is_at_or_under q r ≡ true)) →
        (r : Path) × IsIn (p ∷ ps) r × (is_at_or_under q r ≡ true)
    go (inl at) deeper = (p, inl refl, at)
    go (inr later) deeper = let r = deeper later in (r.0, inr r.1, r.2)

-- ## What children own and use

-- what the child of a job owns
abbrev pub owned_of : Underway → List Path
owned_of g = owned_paths g.recipe g.logs

-- what it owns or reads
abbrev pub used_of : Underway → List Path
used_of g = in_paths g.recipe ++ owned_paths g.recipe g.logs

-- as the folder has it
abbrev pub used_by : Child → List Path
used_by c = in_paths c.recipe ++ owned_paths c.recipe c.logs

pub used_in : (cs : List Child) (q : Path) → IsIn (used_now cs) q → (c : Child) × IsIn cs c × IsIn (used_by c) q
used_in [] q i = absurd i
used_in (c ∷ cs) q i = go (in_either q (used_by c) (used_now cs) i) (used_in cs q)
  where
    go : IsIn (used_by c) q ⊎ IsIn (used_now cs) q → (IsIn (used_now cs) q → (d : Child) × IsIn cs d × IsIn (used_by d) q) →
        (d : Child) × IsIn (c ∷ cs) d × IsIn (used_by d) q
    go (inl k) later = (c, inl refl, k)
    go (inr k) later = let r = later k in (r.0, inr r.1, r.2)

pub owned_in : (cs : List Child) (q : Path) → IsIn (owned_now cs) q → (c : Child) × IsIn cs c × IsIn (owned_paths c.recipe c.logs) q
owned_in [] q i = absurd i
owned_in (c ∷ cs) q i = go (in_either q (owned_paths c.recipe c.logs) (owned_now cs) i) (owned_in cs q)
  where
    go : IsIn (owned_paths c.recipe c.logs) q ⊎ IsIn (owned_now cs) q → (IsIn (owned_now cs) q → (d : Child) × IsIn cs d × IsIn (owned_paths d.recipe d.logs) q) →
        (d : Child) × IsIn (c ∷ cs) d × IsIn (owned_paths d.recipe d.logs) q
    go (inl k) later = (c, inl refl, k)
    go (inr k) later = let r = later k in (r.0, inr r.1, r.2)

-- these are apart from what each child uses
abbrev pub AreUnusedBy : List Path → List Child → Type 0
AreUnusedBy ps cs = (c : Child) → IsIn cs c → any_overlap ps (used_by c) ≡ false

pub unused_now : (ps : List Path) (cs : List Child) → AreUnusedBy ps cs → any_overlap ps (used_now cs) ≡ false
unused_now ps cs h = each_apart ps (used_now cs) (λ p q ip iq. let c = used_in cs q iq in apart_at ps (used_by c.0) p q (h c.0 c.1) ip c.2)

-- it is apart from what each child owns
abbrev pub IsUnownedBy : Path → List Child → Type 0
IsUnownedBy p cs = (c : Child) → IsIn cs c → (q : Path) → IsIn (owned_paths c.recipe c.logs) q → overlaps p q ≡ false

pub unowned_now : (p : Path) (cs : List Child) → IsUnownedBy p cs → is_within p (owned_now cs) ≡ false
unowned_now p cs h = none_within p (owned_now cs) (λ q i. let c = owned_in cs q i in h c.0 c.1 q c.2)

-- so nothing at or under it is owned
pub unowned_under : (w : World) (p : Path) → HasOwners w → IsUnownedBy p w.children → IsUnownedUnder w.nodes p
unowned_under w p owners h q at owned =
    let o = within_in q (owned_now w.children) (owners q owned) in
    let c = owned_in w.children o.0 o.1 in never_both (overlaps p o.0) (overlaps_above_both q p o.0 at o.2) (h c.0 c.1 o.0 c.2)

-- ## All of them

pub all_by : (P : Path → Type 0) (ps : List Path) → ((p : Path) → IsIn ps p → P p) → All P ps
all_by P [] h = All-nil P
all_by P (p ∷ ps) h = All-cons P p ps (h p (inl refl)) (all_by P ps (λ x i. h x (inr i)))
