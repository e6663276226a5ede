-- Images with the same sources derive the same jobs, where nothing comes in the way of what is made.
use Rattle.std.proofs.Common.{◌≡◌, inl, inr, Bool, true, false, cond, List, [], ◌∷◌, ◌++◌, map, filter, flat_map, refl, ap, sym, subst, ◌∙◌, true≢false}
use Rattle.smk_base.specs.Path.{overlaps}
use Rattle.smk_world.specs.Trees.{Path, IsIn}
use Rattle.smk_flow.specs.declared.job.Job.{Job}
use Rattle.smk_flow.specs.Flows.{Flow}
use Rattle.smk_choose.specs.Choose.{Sources}
use Rattle.smk_store.specs.Images.{Image, is_source, sources, holds_source}
use Rattle.smk_store.specs.Soundness.{SameSources}
use Rattle.smk_chain.specs.Derive.{Listings, Clash, Deep, TooManyPaths, Derived, derivation, outcome, refused_if, reach, refused, is_deep, jobs, spots, clashes, hinders, sources_of}
use Rattle.std.specs.Prelude.{nat_lt, length}
use Rattle.smk_laws_plan.proofs.PlanOrder.{some_node}
use Rattle.smk_laws_protocol.proofs.Basics.{some_of, any_by}
use Rattle.smk_laws_plan.specs.Current.{IsComplete}
use Rattle.smk_laws_plan.proofs.CurrentLists.{filter_in, in_filter}
use Rattle.smk_laws_plan.proofs.CurrentMeaning.{source_file}
use Rattle.smk_laws_plan.proofs.CurrentPaths.{among_in}
use Rattle.smk_laws_plan.proofs.CurrentApart.{spot_free}
use Rattle.smk_laws_plan.proofs.PlanOne.{derived, derived_clear}
use Rattle.smk_safe.proofs.Images.{source_of_both, same_back}

-- two answers are the same, where each follows from the other
same_answer : (a b : Bool) → (a ≡ true → b ≡ true) → (b ≡ true → a ≡ true) → b ≡ a
same_answer true b h k = h refl
same_answer false true h k = absurd (true≢false (sym (k refl)))
same_answer false false h k = refl

-- ## Sources

pub source_same : (i j : Image) → SameSources i j → (p : Path) → is_source j p ≡ is_source i p
source_same i j same p =
    same_answer (is_source i p) (is_source j p) (λ is. (source_of_both i j p same is).is_second) (λ is. (source_of_both j i p (same_back i j same) is).is_second)

listed : (i : Image) → IsComplete i → (q : Path) → is_source i q ≡ true → IsIn (sources i) q
listed i complete q is =
    let f = source_file i q is in
    in_filter (is_source i) i.names q (among_in i.names q (complete.names q ∙ some_node (i.node q) f.0 f.1)) is

holds_on : (i j : Image) → IsComplete j → SameSources i j → (p : Path) → holds_source i p ≡ true → holds_source j p ≡ true
holds_on i j complete same p h =
    let q = some_of (overlaps p) (sources i) h in
    any_by (overlaps p) (sources j) q.0 (listed j complete q.0 (source_of_both i j q.0 same (filter_in (is_source i) i.names q.0 q.1).1).is_second) q.2

holds_same : (i j : Image) → IsComplete i → IsComplete j → SameSources i j → (p : Path) → holds_source j p ≡ holds_source i p
holds_same i j ci cj same p =
    same_answer (holds_source i p) (holds_source j p) (holds_on i j cj same p) (holds_on j i ci (same_back i j same) p)

pub sources_same : (i j : Image) → IsComplete i → IsComplete j → SameSources i j → sources_of j ≡ sources_of i
sources_same i j ci cj same = λ n. record { is = λ p. source_same i j same p n; holds = λ p. holds_same i j ci cj same p n }

-- ## What is in the way

filter_none : (f : Path → Bool) (xs : List Path) → ((x : Path) → IsIn xs x → f x ≡ false) → filter f xs ≡ []
filter_none f [] h = refl
filter_none f (x ∷ xs) h = ap (λ b. cond b (x ∷ filter f xs) (filter f xs)) (h x (inl refl)) ∙ filter_none f xs (λ y k. h y (inr k))

same_clashes : (i j : Image) (ss : List (Path × Bool)) → ((s : Path × Bool) → IsIn ss s → filter (hinders j s) j.known ≡ filter (hinders i s) i.known) → (earlier : List Path)
    → clashes j earlier ss ≡ clashes i earlier ss
same_clashes i j [] h earlier = refl
same_clashes i j (s ∷ ss) h earlier =
    let rest = same_clashes i j ss (λ u k. h u (inr k)) (earlier ++ s.0 ∷ []) in
    λ n. map (Clash s.0) (filter (overlaps s.0) earlier ++ h s (inl refl) n) ++ rest n

-- ## The derivation

-- nothing that is known by the image is in the way of these jobs
abbrev pub IsFree : Image → List Job → Type 0
IsFree j js = (s : Path × Bool) (q : Path) → IsIn (flat_map spots js) s → hinders j s q ≡ false

pub same_derivation : (flow : Flow) (i j : Image) (L : Listings) (targets : List Path) (js : List Job) → IsComplete i → IsComplete j → SameSources i j
    → derivation flow i L targets ≡ Derived js → IsFree j js → derivation flow j L targets ≡ Derived js
same_derivation flow i j L targets js ci cj same is free =
    let jobs_are : jobs flow (sources_of i) L targets ≡ js = (derived flow i L targets js ci is).1 in
    let clear = derived_clear flow i L targets js ci is in
    let none_i : (s : Path × Bool) → IsIn (flat_map spots js) s → filter (hinders i s) i.known ≡ [] =
    λ s k. filter_none (hinders i s) i.known (λ q l. spot_free i [] (flat_map spots js) clear s q k l) in
    let none_j : (s : Path × Bool) → IsIn (flat_map spots js) s → filter (hinders j s) j.known ≡ [] =
    λ s k. filter_none (hinders j s) j.known (λ q l. free s q k) in
    let alike : clashes j [] (flat_map spots js) ≡ clashes i [] (flat_map spots js) = same_clashes i j (flat_map spots js) (λ s k. none_j s k ∙ sym (none_i s k)) [] in
    let there : clashes j [] (flat_map spots (jobs flow (sources_of i) L targets)) ≡ clashes i [] (flat_map spots (jobs flow (sources_of i) L targets)) =
    subst (λ (ks : List Job). clashes j [] (flat_map spots ks) ≡ clashes i [] (flat_map spots ks)) (sym jobs_are) alike in
    ap (λ (S : Sources).
    outcome
    (refused_if (nat_lt 100000 (length (reach flow S L 400 targets))) TooManyPaths
    ++ (map Deep (filter (is_deep flow S j L targets) targets) ++ (flat_map (refused flow S L 201) targets ++ clashes j [] (flat_map spots (jobs flow S L targets)))))
    (jobs flow S L targets)) (sources_same i j ci cj same)
    ∙ ap (λ c.
    outcome
    (refused_if (nat_lt 100000 (length (reach flow (sources_of i) L 400 targets))) TooManyPaths
    ++ (map Deep (filter (is_deep flow (sources_of i) i L targets) targets) ++ (flat_map (refused flow (sources_of i) L 201) targets ++ c)))
    (jobs flow (sources_of i) L targets)) there
    ∙ is
