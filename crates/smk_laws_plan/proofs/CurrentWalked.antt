-- Each job that the walk comes to is in the plan.
use Rattle.std.proofs.Common.{◌≡◌, ◌⊎◌, ℕ, zero, suc, ◌+◌, ◌≤◌, true, List, [], ◌∷◌, map, flat_map, refl, sym, ap, subst, inl, inr, ◌∙◌, arith, eqb, eqb-true, eq-eqb}
use Rattle.std.specs.List.{enumerate_from}
use lib.Pointwise.{pointwise}
use Rattle.smk_laws_plan.proofs.CurrentLists.{In, in_either, flat_in, in_distinct, distinct_in, in_map, and_left, and_right, and_both}
use Rattle.smk_laws_plan.proofs.CurrentChosen.{origin}
use Rattle.smk_laws_plan.proofs.CurrentSame.{pointwise_same, pair_same}
use Rattle.smk_base.proofs.Places.{place_itself}
use Rattle.smk_base.specs.declared.tree.Pair.{Pair}
use Rattle.smk_chain.specs.Derive.{Listings, distinct, job, same_candidate, walk, wants}
use Rattle.smk_choose.specs.Choose.{Ambiguous, Choice, Make, Nothing, Source, Sources, choose}
use Rattle.smk_flow.specs.Flows.{Candidate, Flow, numbered}
use Rattle.smk_record.specs.Records.{same_pair}
use Rattle.smk_world.specs.Trees.{Path}

numbered_above : {A : Type 0} (xs : List A) (n k : ℕ) (a : A) → In (k, a) (enumerate_from n xs) → n ≤ k
numbered_above [] n k a h = absurd h
numbered_above (x ∷ xs) n k a (inl e) = let s : k ≡ n = ap (λ w. w.0) e in omega arith
numbered_above (x ∷ xs) n k a (inr h) = let s = numbered_above xs (n + 1) k a h in omega arith

pub numbered_once : {A : Type 0} (xs : List A) (n k : ℕ) (a b : A) → In (k, a) (enumerate_from n xs) → In (k, b) (enumerate_from n xs) → a ≡ b
numbered_once [] n k a b h i = absurd h
numbered_once (x ∷ xs) n k a b (inl e) (inl f) = ap (λ w. w.1) e ∙ sym (ap (λ w. w.1) f)
numbered_once (x ∷ xs) n k a b (inl e) (inr i) = absurd (let s : k ≡ n = ap (λ w. w.0) e in let t = numbered_above xs (n + 1) k b i in omega arith)
numbered_once (x ∷ xs) n k a b (inr h) (inl f) = absurd (let s : k ≡ n = ap (λ w. w.0) f in let t = numbered_above xs (n + 1) k a h in omega arith)
numbered_once (x ∷ xs) n k a b (inr h) (inr i) = numbered_once xs (n + 1) k a b h i

pair_self : (p : Pair) → same_pair p p ≡ true
pair_self p = and_both _ _ (place_itself p.name) (place_itself p.value)

list_self : (ps : List Pair) → pointwise same_pair ps ps ≡ true
list_self [] = refl
list_self (p ∷ ps) = and_both _ _ (pair_self p) (list_self ps)

same_parts : (a b : Candidate) → same_candidate a b ≡ true → (a.rule ≡ b.rule) × (a.binding ≡ b.binding)
same_parts a b h = (eqb-true a.rule b.rule (and_left (eqb a.rule b.rule) _ h), pointwise_same same_pair pair_same a.binding b.binding (and_right (eqb a.rule b.rule) _ h))

candidate_self : (a : Candidate) → same_candidate a a ≡ true
candidate_self a = and_both _ _ (eq-eqb a.rule a.rule refl) (list_self a.binding)

pub candidate_trans : (a b c : Candidate) → same_candidate a b ≡ true → same_candidate b c ≡ true → same_candidate a c ≡ true
candidate_trans a b c h k =
    let p = same_parts b c k in
    and_both (eqb a.rule c.rule) _ (subst (λ n. eqb a.rule n ≡ true) p.0 (and_left (eqb a.rule b.rule) _ h))
    (subst (λ n. pointwise same_pair a.binding n ≡ true) p.1 (and_right (eqb a.rule b.rule) _ h))

module _ (flow : Flow) (sources : Sources) (L : Listings) where
  -- each job of the walk is chosen for some path
  pub walked_chosen : (n : ℕ) (p : Path) (c : Candidate) → In c (walk flow sources L n p) → (q : Path) × (choose flow sources q ≡ Make c)
  walked_chosen zero p c h = absurd h
  walked_chosen (suc n) p c h = go (choose flow sources p) refl h (λ q k. walked_chosen n q c k)
    where
      last : (d : Candidate) → choose flow sources p ≡ Make d → In c (d ∷ []) → (q : Path) × (choose flow sources q ≡ Make c)
      last d e (inl s) = (p, e ∙ ap Make (sym s))
      last d e (inr k) = absurd k

      parts : (d : Candidate) → choose flow sources p ≡ Make d → In c (flat_map (walk flow sources L n) (wants flow L d)) ⊎ In c (d ∷ []) → ((q : Path) → In c (walk flow sources L n q) → (q : Path) × (choose flow sources q ≡ Make c)) → (q : Path) × (choose flow sources q ≡ Make c)
      parts d e (inl k) ih = let r = flat_in (walk flow sources L n) (wants flow L d) c k in ih r.0 r.2
      parts d e (inr k) ih = last d e k

      go : (ch : Choice) → choose flow sources p ≡ ch → In c (Rattle.smk_laws_plan.proofs.CurrentReach.walk_by flow sources L n ch) → ((q : Path) → In c (walk flow sources L n q) → (q : Path) × (choose flow sources q ≡ Make c)) → (q : Path) × (choose flow sources q ≡ Make c)
      go Source e k ih = absurd k
      go (Nothing lack) e k ih = absurd k
      go (Ambiguous a b) e k ih = absurd k
      go (Make d) e k ih = parts d e (in_either c (flat_map (walk flow sources L n) (wants flow L d)) (d ∷ []) k) ih

  pub chosen_same : (p q : Path) (c d : Candidate) → choose flow sources p ≡ Make c → choose flow sources q ≡ Make d → same_candidate c d ≡ true → c ≡ d
  chosen_same p q c d e f h =
      let s = same_parts c d h in
      let o = origin flow p c sources e in
      let u = origin flow q d sources f in
      let part : c.part ≡ d.part = numbered_once flow.rules 0 c.rule c.part d.part o.listed (subst (λ n. In (n, d.part) (numbered flow)) (sym s.0) u.listed) in
      λ i. record { rule = s.0 i; part = part i; binding = s.1 i }

  pub walked_job : (targets : List Path) (n : ℕ) (c : Candidate) → In c (flat_map (walk flow sources L n) targets) → In (job flow L c) (map (job flow L) (distinct same_candidate (flat_map (walk flow sources L n) targets)))
  walked_job targets n c h =
      let all = flat_map (walk flow sources L n) targets in
      let d = in_distinct same_candidate candidate_self candidate_trans all c h in
      let t = flat_in (walk flow sources L n) targets c h in
      let u = flat_in (walk flow sources L n) targets d.0 (distinct_in same_candidate all d.0 d.1) in
      let p = walked_chosen n t.0 c t.2 in
      let q = walked_chosen n u.0 d.0 u.2 in
      subst (λ x. In (job flow L x) (map (job flow L) (distinct same_candidate all))) (chosen_same q.0 p.0 d.0 c q.1 p.1 d.2)
      (in_map (job flow L) (distinct same_candidate all) d.0 d.1)
