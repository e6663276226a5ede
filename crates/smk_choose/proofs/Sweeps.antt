-- One sweep over all paths, and what any number of them give.
use Rattle.std.proofs.Common.{◌≡◌, ◌++◌, ℕ, zero, suc, ◌+◌, ◌<◌, ◌≤◌, ◌==◌, ◌||◌, ◌&&◌, Bool, true, false, List, [], ◌∷◌, get_or, take, take_all, append-nil, drop, length, ◌≢◌, eqb-true, Option, None, refl, sym, ap, ◌∙◌, arith, true≢false, ◌⊎◌, inl, inr, ⊎_elim}
use Rattle.std.proofs.lemmas.List.{get_or_past, at_drop_more, drop_all}
use Rattle.std.specs.List.{list_any, list_all}
use Rattle.std.proofs.lemmas.Bool.{and_from, and_parts, or_cases, or_left, or_right, eq-eqb}
use Rattle.std.proofs.Math.Bool.{or_assoc}
use Rattle.std.specs.Cmp.{both_ways}
use Rattle.smk_choose.specs.declared.nodes.Want.{Want}
use Rattle.smk_choose.specs.declared.nodes.Want.TheVariants.{Path, NoPath}
use Rattle.smk_choose.specs.declared.nodes.Way.{Way}
use Rattle.smk_choose.specs.declared.nodes.Node.{Node}
use Rattle.smk_choose.specs.Heights.{is_within, height_at, want_in, next, no_node, node_at, reached, IsSound, IsComplete}

-- ---- more paths give more

abbrev pub IsMore : (ℕ → Bool) → (ℕ → Bool) → Type 0
IsMore these those = (q : ℕ) → these q ≡ true → those q ≡ true

or_more : (a b c d : Bool) → (a ≡ true → c ≡ true) → (b ≡ true → d ≡ true) → (a || b) ≡ true → (c || d) ≡ true
or_more true b c d f g e = ap (λ x. x || d) (f refl)
or_more false b true d f g e = refl
or_more false b false d f g e = g e

want_more : (these those : ℕ → Bool) → IsMore these those → (w : Want) → want_in these w ≡ true → want_in those w ≡ true
want_more these those more (Path q) e = more q e
want_more these those more (NoPath t) e = absurd (true≢false (sym e))

wants_more : (these those : ℕ → Bool) → IsMore these those → (ws : List Want) → list_all (want_in these) ws ≡ true → list_all (want_in those) ws ≡ true
wants_more these those more [] e = refl
wants_more these those more (w ∷ ws) e =
    and_from _ _ (want_more these those more w (and_parts _ _ e).0) (wants_more these those more ws (and_parts (want_in these w) _ e).1)

ways_more : (these those : ℕ → Bool) → IsMore these those → (ways : List Way) →
    list_any (λ (w : Way). list_all (want_in these) w.wants) ways ≡ true → list_any (λ (w : Way). list_all (want_in those) w.wants) ways ≡ true
ways_more these those more [] e = e
ways_more these those more (w ∷ ways) e =
    or_more (list_all (want_in these) w.wants) _ (list_all (want_in those) w.wants) _ (wants_more these those more w.wants) (ways_more these those more ways) e

pub next_more : (these those : ℕ → Bool) → IsMore these those → (node : Node) → next these node ≡ true → next those node ≡ true
next_more these those more node e =
    or_more node.source _ node.source _ (λ s. s) (ways_more these those more node.ways) e

-- ---- a sweep

-- what the sweep has done for the paths from this number on
pub record Swept (nodes : List Node) (old now : List (Option ℕ)) (from : ℕ) : Type 0 where
  pub sound : IsSound nodes old → IsSound nodes now
  pub lower : (n q : ℕ) → is_within n (height_at old q) ≡ true → is_within n (height_at now q) ≡ true
  pub first : (q : ℕ) → from ≤ q → (node_at nodes q).source ≡ true → is_within 0 (height_at now q) ≡ true
  pub more : (n q : ℕ) → from ≤ q → n < 200 → next (λ r. is_within n (height_at old r)) (node_at nodes q) ≡ true → is_within (suc n) (height_at now q) ≡ true

past : (nodes : List Node) (q : ℕ) → length nodes ≤ q → node_at nodes q ≡ no_node
past nodes q le = get_or_past nodes q no_node le

pub swept_none : (nodes : List Node) (old : List (Option ℕ)) → Swept nodes old old (length nodes)
swept_none nodes old = record {
  sound = λ s. s;
  lower = λ n q e. e;
  first = λ q le e. absurd (true≢false (sym e ∙ ap (λ (node : Node). node.source) (past nodes q le)));
  more = λ n q le lt e. absurd (true≢false (sym e ∙ ap (λ (node : Node). next (λ r. is_within n (height_at old r)) node) (past nodes q le)));
}

other_number : (a b : ℕ) → (a == b) ≡ false → a ≢ b
other_number a b e same = true≢false (sym (ap (λ x. x == b) same ∙ eq-eqb b b refl) ∙ e)

module _ (nodes : List Node) (old now new : List (Option ℕ)) (path : ℕ) (node : Node) (height : Option ℕ) (from : ℕ) (count : from ≡ suc path) (done : Swept nodes old now from)
    (here : node_at nodes path ≡ node)
    (zeroth : is_within 0 height ≡ node.source)
    (later : (n : ℕ) → n < 200 → is_within (suc n) height ≡ next (λ q. is_within n (height_at now q)) node)
    (lowered : (n q : ℕ) → is_within n (height_at new q) ≡ (is_within n (height_at now q) || (q == path && is_within n height))) where
  kept : (n q : ℕ) → is_within n (height_at now q) ≡ true → is_within n (height_at new q) ≡ true
  kept n q e = lowered n q ∙ or_left _ _ e

  put : (n q : ℕ) → q ≡ path → is_within n height ≡ true → is_within n (height_at new q) ≡ true
  put n q e h = lowered n q ∙ or_right (is_within n (height_at now q)) _ (and_from _ _ (ap (λ x. q == x) (sym e) ∙ eq-eqb q q refl) h)

  height_sound : IsSound nodes old → (n : ℕ) → n < 201 → is_within n height ≡ true → reached nodes n path ≡ true
  height_sound s zero lt e = ap (λ (x : Node). x.source) here ∙ sym zeroth ∙ e
  height_sound s (suc n) lt e =
      next_more (λ q. is_within n (height_at now q)) (reached nodes n) (λ q h. done.sound s n q (omega arith) h) (node_at nodes path)
      (ap (next (λ q. is_within n (height_at now q))) here ∙ sym (later n (omega arith)) ∙ e)

  now_sound : IsSound nodes old → IsSound nodes new
  now_sound s n q lt e = ⊎_elim
      (λ h. done.sound s n q lt h)
      (λ h.
      let same : q ≡ path = eqb-true q path (and_parts (q == path) _ h).0 in
      ap (reached nodes n) same ∙ height_sound s n lt (and_parts (q == path) _ h).1)
      (or_cases (is_within n (height_at now q)) (q == path && is_within n height) (sym (lowered n q) ∙ e))

  at_or_after : (q : ℕ) → path ≤ q → (q ≡ path) ⊎ (suc path ≤ q)
  at_or_after q le = elim (q == path) as (λ b. (q == path) ≡ b → (q ≡ path) ⊎ (suc path ≤ q)) [
    | true ↦ λ e. inl (eqb-true q path e)
    | false ↦ λ e. inr (omega (arith, other_number q path e))
  ] refl

  pub swept_more : Swept nodes old new path
  swept_more = record {
    sound = now_sound;
    lower = λ n q e. kept n q (done.lower n q e);
    first = λ q le e. ⊎_elim
        (λ same. put 0 q same (zeroth ∙ ap (λ (x : Node). x.source) (sym here ∙ ap (node_at nodes) (sym same)) ∙ e))
        (λ after. kept 0 q (done.first q (omega (arith, count)) e))
        (at_or_after q le);
    more = λ n q le lt e. ⊎_elim
        (λ same. put (suc n) q same (later n lt ∙ next_more (λ r. is_within n (height_at old r)) (λ r. is_within n (height_at now r)) (λ r h. done.lower n r h) node
        (ap (next (λ r. is_within n (height_at old r))) (sym here ∙ ap (node_at nodes) (sym same)) ∙ e)))
        (λ after. kept (suc n) q (done.more n q (omega (arith, count)) lt e))
        (at_or_after q le);
  }

-- ---- sweeps

pub complete_more : (nodes : List Node) (old now : List (Option ℕ)) (from : ℕ) → from ≡ 0 → Swept nodes old now from → (m : ℕ) → IsComplete nodes m old → IsComplete nodes (suc m) now
complete_more nodes old now from none done m c zero q lt le e = done.first q (omega (arith, none)) e
complete_more nodes old now from none done m c (suc n) q lt le e =
    done.more n q (omega (arith, none)) (omega arith)
    (next_more (reached nodes n) (λ r. is_within n (height_at old r)) (λ r h. c n r (omega arith) (omega arith) h) (node_at nodes q) e)

pub complete_none : (nodes : List Node) (heights : List (Option ℕ)) → IsComplete nodes 0 heights
complete_none nodes heights = λ n q lt. absurd (omega (arith, lt))

pub complete_still : (nodes : List Node) (heights : List (Option ℕ)) → ((m : ℕ) → IsComplete nodes m heights → IsComplete nodes (suc m) heights) →
    (m : ℕ) → IsComplete nodes m heights
complete_still nodes heights more zero = complete_none nodes heights
complete_still nodes heights more (suc m) = more m (complete_still nodes heights more m)

pub sound_none : (nodes : List Node) (heights : List (Option ℕ)) → ((q : ℕ) → height_at heights q ≡ None) → IsSound nodes heights
sound_none nodes heights none n q lt e = absurd (true≢false (sym e ∙ ap (is_within n) (none q)))

pub exact : (nodes : List Node) (heights : List (Option ℕ)) → IsSound nodes heights → IsComplete nodes 201 heights → (n q : ℕ) → n < 201 →
    is_within n (height_at heights q) ≡ reached nodes n q
exact nodes heights s c n q lt = both_ways _ _ (s n q lt) (c n q lt lt)

pub none_push : (heights : List (Option ℕ)) → ((q : ℕ) → height_at heights q ≡ None) → (q : ℕ) → height_at (heights ++ None ∷ []) q ≡ None
none_push [] none zero = refl
none_push [] none (suc q) = refl
none_push (h ∷ hs) none zero = none 0
none_push (h ∷ hs) none (suc q) = none_push hs (λ r. none (suc r)) q

-- ---- loops

pub none_here : (P : Want → Bool) (all items : List Want) (i : ℕ) (w : Want) (b : Bool) → items ≡ all → list_all P items ≡ (b && list_all P (drop i items)) →
    i < length items → w ≡ get_or items i w → P w ≡ false → false ≡ list_all P all
none_here P all items i w b same whole lt at e =
    sym (and_false b) ∙ ap (λ x. b && x) (sym (at_drop_more (list_all P) items i w lt ∙ ap (λ x. P x && list_all P (drop (i + 1) items)) (sym at) ∙ ap (λ x. x && list_all P (drop (i + 1) items)) e))
    ∙ sym whole ∙ ap (list_all P) same
  where
    and_false : (b : Bool) → (b && false) ≡ false
    and_false true = refl
    and_false false = refl

pub any_step : (P : Way → Bool) (items : List Way) (i : ℕ) (way : Way) (whole old new : Bool) → whole ≡ (old || list_any P (drop i items)) →
    i < length items → way ≡ get_or items i way → new ≡ (old || P way) → whole ≡ (new || list_any P (drop (i + 1) items))
any_step P items i way whole old new w lt at e =
    w ∙ ap (λ x. old || x) (at_drop_more (list_any P) items i way lt ∙ ap (λ x. P x || list_any P (drop (i + 1) items)) (sym at))
    ∙ sym (or_assoc old (P way) (list_any P (drop (i + 1) items))) ∙ ap (λ x. x || list_any P (drop (i + 1) items)) (sym e)

pub written_back : {X : Type 0} (old new : List X) (n : ℕ) → length old ≡ n → length new ≡ n → take n (new ++ drop (length new) old) ≡ new
written_back old new n e f =
    ap (λ xs. take n (new ++ xs)) (drop_all (length new) old (omega (arith, e, f))) ∙ ap (take n) (append-nil new) ∙ take_all n new (omega (arith, f))
