-- The child of an open job starts, and ends.
use Rattle.smk_laws_protocol.proofs.Acted.{outs_are}
use Rattle.smk_laws_protocol.proofs.Owners.{numbered_in}
use Rattle.std.proofs.Common.{◌≡◌, ◌⊎◌, ℕ, Bool, true, false, List, [], ◌∷◌, ◌++◌, map, refl, sym, ap, subst, inl, inr, arith, ◌∙◌, Option, Some}
use Rattle.std.specs.Prelude.{nat_eq, not, filter, if◌then◌else◌, Ok}
use Rattle.smk_world.specs.declared.event.Besides.TheVariants.{Anything}
use Rattle.smk_world.specs.declared.event.Call.{Call}
use Rattle.smk_world.specs.declared.event.Call.TheVariants.{Started, Waited}
use Rattle.smk_world.specs.declared.event.Change.{Change as LeftNode}
use Rattle.smk_world.specs.declared.event.Child.{Child}
use Rattle.smk_world.specs.declared.event.Node.{Node}
use Rattle.smk_world.specs.declared.event.NodeState.TheVariants.{Owned, Known}
use Rattle.smk_world.specs.declared.recipe.Out.{Out}
use Rattle.smk_world.specs.World.{in_paths, World, after, standing, is_within, owned_paths, owned_by, owned_of}
use Rattle.smk_world.specs.Trees.{outs_of, IsIn, Each}
use Rattle.smk_store.specs.Trust.{Versions}
use Rattle.smk_base.specs.Path.{is_at_or_under}
use Rattle.smk_store.specs.Soundness.{Outside}
use Rattle.smk_laws_protocol.specs.Protocol.{OpenJob, Phase, Marked, Running, Ended, RunState, own, keeps, is_running, eased_by}
use Rattle.smk_laws_protocol.proofs.Rows.{now}
use Rattle.smk_laws_protocol.proofs.Between.{Midway, InPhase, Lets, IsOfJob, HasOwners, IsActed, trees_at, has_firm_marks, is_marking}
use Rattle.smk_laws_protocol.proofs.Along.{moved}
use Rattle.smk_laws_protocol.proofs.Apart.{free_to}
use Rattle.smk_laws_protocol.proofs.Basics.{each_in, each_of, in_here, in_rest, in_split, in_filter, filter_in, some_of, any_by, by_test, clash}
use Rattle.smk_laws_protocol.proofs.Calls.{event, Allows}
use Rattle.smk_laws_protocol.proofs.Chains.{map_same}
use Rattle.smk_laws_protocol.proofs.Change.{Change}
use Rattle.smk_laws_protocol.proofs.Go.{change, fits, phase, marks_on, notes_on, kept_on, left_of}
use Rattle.smk_laws_protocol.proofs.Guarded.{in_either}
use Rattle.smk_laws_protocol.proofs.Jobs.{at_phase, pairs_rest, pairs_with, pair_apart, apart_phase}
use Rattle.smk_laws_protocol.proofs.OwnPhase.{in_running, in_ended}
use Rattle.smk_laws_protocol.proofs.Stays.{in_left, in_right}
use Rattle.smk_laws_protocol.proofs.Texts.{Texts}

same_number : {m n : ℕ} → Running m ≡ Running n → m ≡ n
same_number h = cc

nat_same : (a b : ℕ) → nat_eq a b ≡ true → a ≡ b
nat_same a b h = grind arith

nat_self : (a b : ℕ) → a ≡ b → nat_eq a b ≡ true
nat_self a b h = grind arith

not_false : (b : Bool) → b ≡ false → not b ≡ true
not_false b h = grind arith

not_true : (b : Bool) → not b ≡ true → b ≡ false
not_true b h = grind arith

module _
    (o : Outside) (texts : Texts o.read) (entry : World) (H : Versions) (s : RunState) (js ks : List OpenJob) (j : OpenJob) (w : World)
    (m : Midway o entry H (record s { jobs = js ++ j ∷ ks }) w) (left : List LeftNode) where
  abbrev Goal : Call → Phase → Type 0
  Goal c to = Midway o entry H (record s { jobs = js ++ at_phase j to ∷ ks }) (after w (event c left))

  other_phase : (k : OpenJob) → IsIn (js ++ ks) k → InPhase o w k
  other_phase k i = each_in (InPhase o w) (js ++ j ∷ ks) k m.phases (in_rest js ks j k i)

  -- ---- it starts

  module _ (command : List ℕ) (n : ℕ) (h : j.phase ≡ Marked) (lets : Lets o w (event (Started j.recipe j.logs command (Ok n)) left) (Started j.recipe j.logs command (Ok n))) where
    abbrev starting : Call
    starting = Started j.recipe j.logs command (Ok n)

    abbrev child : Child
    child = record { number = n; recipe = j.recipe; logs = j.logs }

    started_allowed : Allows o j starting
    started_allowed = (ap (has_firm_marks o) h, ap (is_marking o) h, refl, refl)

    not_running : is_running j.phase ≡ false
    not_running = ap is_running h

    of_jobs : Each (IsOfJob o (js ++ at_phase j (Running n) ∷ ks)) (w.children ++ child ∷ [])
    of_jobs = each_of (IsOfJob o (js ++ at_phase j (Running n) ∷ ks)) (w.children ++ child ∷ []) (λ c i. turn c (in_either w.children (child ∷ []) c i))
      where
        old : (c : Child) (k : IsOfJob o (js ++ j ∷ ks) c) → (k.0 ≡ j) ⊎ IsIn (js ++ ks) k.0 → IsOfJob o (js ++ at_phase j (Running n) ∷ ks) c
        old c k (inl e) = clash (is_running j.phase) (ap is_running (subst (λ (x : OpenJob). x.phase ≡ Running c.number) e k.2)) not_running
        old c k (inr i) = (k.0, in_rest js ks (at_phase j (Running n)) k.0 i, k.2, k.3, k.4)

        turn : (c : Child) → IsIn w.children c ⊎ IsIn (child ∷ []) c → IsOfJob o (js ++ at_phase j (Running n) ∷ ks) c
        turn c (inl i) = let k = each_in (IsOfJob o (js ++ j ∷ ks)) w.children c m.children i in old c k (in_split js ks j k.0 k.1)
        turn c (inr (inl e)) = subst (λ x. IsOfJob o (js ++ at_phase j (Running n) ∷ ks) x) (sym e) (at_phase j (Running n), in_here js ks (at_phase j (Running n)), refl, refl, refl)
        turn c (inr (inr i)) = absurd i

    owners : HasOwners o (js ++ at_phase j (Running n) ∷ ks) (after w (event starting left))
    owners q own_q = by_test (is_within q (owned_paths j.recipe j.logs)) here there
      where
        here : is_within q (owned_paths j.recipe j.logs) ≡ true → (k : OpenJob) × IsIn (js ++ at_phase j (Running n) ∷ ks) k × (is_running k.phase ≡ true) × (is_within q (own k) ≡ true)
        here t = (at_phase j (Running n), in_here js ks (at_phase j (Running n)), refl, t)

        old : (k : OpenJob) → is_running k.phase ≡ true → is_within q (own k) ≡ true → (k ≡ j) ⊎ IsIn (js ++ ks) k → (k : OpenJob) × IsIn (js ++ at_phase j (Running n) ∷ ks) k × (is_running k.phase ≡ true) × (is_within q (own k) ≡ true)
        old k r t (inl e) = clash (is_running j.phase) (subst (λ (x : OpenJob). is_running x.phase ≡ true) e r) not_running
        old k r t (inr i) = (k, in_rest js ks (at_phase j (Running n)) k i, r, t)

        there : is_within q (owned_paths j.recipe j.logs) ≡ false → (k : OpenJob) × IsIn (js ++ at_phase j (Running n) ∷ ks) k × (is_running k.phase ≡ true) × (is_within q (own k) ≡ true)
        there t =
            let k = m.owned q (sym (ap (λ (b : Bool). if b then Owned else w.nodes q) t) ∙ own_q) in
            old k.0 k.2 k.3 (in_split js ks j k.0 k.1)

    pub start : Goal starting (Running n)
    start =
        moved o texts.overlap texts.naming entry H s js ks (js ++ at_phase j (Running n) ∷ ks) j (Running n) w (after w (event starting left)) m
        (change o texts entry H s js ks j w m left starting (Running n) lets started_allowed (λ k. ap keeps h)) s.faulted (left_of js ks j (Running n))
        (pairs_with o texts.overlap js ks (at_phase j (Running n)) (pairs_rest o texts.overlap js ks j m.apart)
        (λ k i. apart_phase o texts.overlap j k (Running n) (λ x a b. serials k i x a b) (pair_apart o texts.overlap js ks j k m.apart i)))
        (λ i. in_running o (after w (event starting left)) j n (marks_on o texts entry H s js ks j w m left starting started_allowed (ap (has_firm_marks o) h))
        (notes_on o texts entry H s js ks j w m left starting started_allowed (ap (is_marking o) h)) (kept_on o texts entry H s js ks j w m left starting started_allowed tt (ap keeps h))
        (child, in_right w.children (child ∷ []) child (inl refl), refl))
        (λ k i x is. let c = (other_phase k i).child x is in (c.0, in_left w.children (child ∷ []) c.0 c.1, c.2))
        of_jobs owners
      where
        serials : (k : OpenJob) → IsIn (js ++ ks) k → (x : ℕ) → Running n ≡ Running x → k.phase ≡ Running x → ⊥
        serials k i x a b = let c = (other_phase k i).child x b in each_in (λ (c : Child). c.number ≡ n → ⊥) w.children c.0 lets c.1 (c.2 ∙ sym (same_number a))

  -- ---- it ends

  module _ (n status : ℕ) (h : j.phase ≡ Running n) (lets : Lets o w (event (Waited (Ok (record { number = n; status = status }))) left) (Waited (Ok (record { number = n; status = status })))) where
    abbrev ending : Call
    ending = Waited (Ok (record { number = n; status = status }))

    abbrev ends : World
    ends = after w (event ending left)

    -- a child of this number is the job's
    child_of : (c : Child) → IsIn w.children c → c.number ≡ n → (c.recipe ≡ j.recipe) × (c.logs ≡ j.logs)
    child_of c i same = let k = each_in (IsOfJob o (js ++ j ∷ ks)) w.children c m.children i in go k (in_split js ks j k.0 k.1)
      where
        go : (k : IsOfJob o (js ++ j ∷ ks) c) → (k.0 ≡ j) ⊎ IsIn (js ++ ks) k.0 → (c.recipe ≡ j.recipe) × (c.logs ≡ j.logs)
        go k (inl e) = (k.3 ∙ ap (λ (x : OpenJob). x.recipe) e, k.4 ∙ ap (λ (x : OpenJob). x.logs) e)
        go k (inr r) = absurd ((pair_apart o texts.overlap js ks j k.0 m.apart r).3 n h (subst (λ x. k.0.phase ≡ Running x) same k.2))

    waited_change : Change o entry H j (eased_by (js ++ j ∷ ks)) (eased_by (js ++ at_phase j (Ended status) ∷ ks)) w ends
    waited_change = change o texts entry H s js ks j w m left ending (Ended status) lets h (λ k. ap keeps h)

    acted : status ≡ 0 → IsActed o (now o ends) j
    acted zero trees is =
        let r = child_of lets.0 lets.1 lets.2 in
        let back : trees_at (now o w) (in_paths lets.0.recipe) ≡ map Some trees =
        ap (λ x. trees_at (now o w) (in_paths x)) r.0
        ∙ sym (map_same (now o ends).tree (now o w).tree (in_paths j.recipe)
        (λ q i. (waited_change.differs_now.nodes q (free_to texts.overlap (own j) (in_paths j.recipe) q (fits o texts entry H s js ks j w m left).from_inputs i)).tree))
        ∙ is in
        let g = lets.3 zero trees back in (
          ap (λ x. (o.act x trees).status) (sym r.0) ∙ g.0,
          ap (λ x. (o.act x trees).outputs) (sym r.0) ∙ g.1 ∙ ap (λ x. trees_at (now o ends) (map (λ (y : Out). y.path) (outs_of x))) r.0 ∙ ap (trees_at (now o ends)) (sym (outs_are j.recipe)),
        )

    of_jobs_left : Each (IsOfJob o (js ++ at_phase j (Ended status) ∷ ks)) (filter (λ (c : Child). not (nat_eq c.number n)) w.children)
    of_jobs_left =
        each_of (IsOfJob o (js ++ at_phase j (Ended status) ∷ ks)) (filter (λ (c : Child). not (nat_eq c.number n)) w.children)
        (λ c i.
        let f = in_filter (λ (c : Child). not (nat_eq c.number n)) w.children c i in
        let k = each_in (IsOfJob o (js ++ j ∷ ks)) w.children c m.children f.0 in
        go c f.1 k (in_split js ks j k.0 k.1))
      where
        go : (c : Child) → not (nat_eq c.number n) ≡ true → (k : IsOfJob o (js ++ j ∷ ks) c) → (k.0 ≡ j) ⊎ IsIn (js ++ ks) k.0 → IsOfJob o (js ++ at_phase j (Ended status) ∷ ks) c
        go c f k (inl e) =
            clash (nat_eq c.number n) (nat_self c.number n (same_number (sym (subst (λ (x : OpenJob). x.phase ≡ Running c.number) e k.2) ∙ h))) (not_true (nat_eq c.number n) f)
        go c f k (inr i) = (k.0, in_rest js ks (at_phase j (Ended status)) k.0 i, k.2, k.3, k.4)

    owners_left : HasOwners o (js ++ at_phase j (Ended status) ∷ ks) ends
    owners_left q own_q = by_test (is_within q (owned_by n w.children)) (λ t. absurd (no (sym (ap (λ (b : Bool). if b then Known (standing left q) Anything else w.nodes q) t) ∙ own_q))) there
      where
        no : {x : Option Node} → Known x Anything ≡ Owned → ⊥
        no h = grind arith

        mine : (k : OpenJob) → is_within q (own j) ≡ true → is_within q (owned_by n w.children) ≡ true
        mine k t =
            let p = some_of (is_at_or_under q) (own j) t in
            let c = (phase o texts entry H s js ks j w m left).child n h in
            let d = numbered_in n w.children c.0 c.1 (nat_self c.0.number n c.2) in
            let r = child_of d.0 d.1 (nat_same d.0.number n d.2) in
            any_by (is_at_or_under q) (owned_by n w.children) p.0
            (subst (λ x. IsIn (owned_of x) p.0) (sym d.3)
            (subst (λ l. IsIn (owned_paths d.0.recipe l) p.0) (sym r.1) (subst (λ x. IsIn (owned_paths x j.logs) p.0) (sym r.0) p.1)))
            p.2

        old : is_within q (owned_by n w.children) ≡ false → (k : OpenJob) → is_running k.phase ≡ true → is_within q (own k) ≡ true → (k ≡ j) ⊎ IsIn (js ++ ks) k → (k : OpenJob) × IsIn (js ++ at_phase j (Ended status) ∷ ks) k × (is_running k.phase ≡ true) × (is_within q (own k) ≡ true)
        old f k r t (inl e) = clash (is_within q (owned_by n w.children)) (mine k (subst (λ (x : OpenJob). is_within q (own x) ≡ true) e t)) f
        old f k r t (inr i) = (k, in_rest js ks (at_phase j (Ended status)) k i, r, t)

        there : is_within q (owned_by n w.children) ≡ false → (k : OpenJob) × IsIn (js ++ at_phase j (Ended status) ∷ ks) k × (is_running k.phase ≡ true) × (is_within q (own k) ≡ true)
        there t =
            let k = m.owned q (sym (ap (λ (b : Bool). if b then Known (standing left q) Anything else w.nodes q) t) ∙ own_q) in
            old t k.0 k.2 k.3 (in_split js ks j k.0 k.1)

    pub end : Goal ending (Ended status)
    end =
        moved o texts.overlap texts.naming entry H s js ks (js ++ at_phase j (Ended status) ∷ ks) j (Ended status) w ends m waited_change s.faulted (left_of js ks j (Ended status))
        (pairs_with o texts.overlap js ks (at_phase j (Ended status)) (pairs_rest o texts.overlap js ks j m.apart)
        (λ k i. apart_phase o texts.overlap j k (Ended status) (λ x a b. clash false (ap is_running a) refl) (pair_apart o texts.overlap js ks j k m.apart i)))
        (λ i. in_ended o ends j status (marks_on o texts entry H s js ks j w m left ending h (ap (has_firm_marks o) h))
        (notes_on o texts entry H s js ks j w m left ending h (ap (is_marking o) h)) (kept_on o texts entry H s js ks j w m left ending h tt (ap keeps h)) acted)
        (λ k i x is.
        let c = (other_phase k i).child x is in
        (c.0, filter_in (λ (c : Child). not (nat_eq c.number n)) w.children c.0 c.1 (not_false (nat_eq c.0.number n) (other_number k i x is c.0.number c.2)), c.2))
        of_jobs_left owners_left
      where
        other_number : (k : OpenJob) → IsIn (js ++ ks) k → (x : ℕ) → k.phase ≡ Running x → (y : ℕ) → y ≡ x → nat_eq y n ≡ false
        other_number k i x is y same =
            by_test (nat_eq y n) (λ t. absurd ((pair_apart o texts.overlap js ks j k m.apart i).3 n h (is ∙ ap Running (sym same ∙ nat_same y n t)))) (λ t. t)
