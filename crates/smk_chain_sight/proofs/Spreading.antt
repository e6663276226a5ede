-- How a reach grows, path by path and level by level.
use Rattle.std.proofs.Common.{◌≡◌, ℕ, zero, suc, ◌+◌, ◌<◌, ◌≤◌, Bool, true, false, cond, List, [], ◌∷◌, ◌++◌, map, filter, length, take, drop, get_or, slice_get, refl, sym, ap, ap₂, subst, ◌∙◌, Some, arith, append_assoc, append-nil, add-one}
use Rattle.std.specs.Prelude.{if◌then◌else◌, nat_lt}
use Rattle.std.proofs.lemmas.Bool.{ltb-true, ltb-false}
use Rattle.std.specs.List.{AllByRecursion, flat_map}
use Rattle.std.proofs.lemmas.List.{take_more, take_all, take-append-drop}
use Rattle.smk_base.specs.Path.{is_path}
use Rattle.smk_world.specs.Trees.{Path}
use Rattle.smk_pattern.specs.Shapes.{Text}
use Rattle.smk_flow.specs.declared.rule.RulePart.{RulePart}
use Rattle.smk_flow.specs.Flows.{Flow, Candidate}
use Rattle.smk_choose.specs.declared.choice.Making.{Making}
use Rattle.smk_choose.specs.Choose.{Sources, candidates}
use Rattle.smk_choose.specs.Told.{told_by, making}
use Rattle.smk_choose.proofs.Listed.{Placed, candidates_placed, all_append}
use Rattle.smk_chain.specs.Derive.{Listings, wants, next, reach}
use Rattle.smk_choose_wants.specs.declared.wanted.Want.{Want}
use Rattle.smk_choose_wants.specs.declared.wanted.Want.TheVariants as want
use Rattle.smk_choose_wants.specs.Wants.{want_of}
use Rattle.smk_chain_sight.specs.declared.telling.Eye.{Eye}
use Rattle.smk_chain_sight.specs.Telling.{IsListedAround, Keeps, candidates_by, Says}
use Rattle.smk_chain_sight.specs.Reaching.{path_of, paths_in, paths_by, IsPlaced, with_next, grown, Closed, Advanced}
use Rattle.smk_chain_sight.proofs.Distinct.{once, added, added-append, once_again, once_on, then_added, nothing_added, Longer, longer_then, longer_same, added_longer, longer_length, longer_take, longer_by_none, added_twice}
use Rattle.smk_chain_sight.specs.Sight.{SameAround, TellsReach}
use Rattle.smk_chain_sight.proofs.Agree.{all_weaker}
use Rattle.smk_chain_sight.proofs.Eyes.{candidates_said, same_around, arounds_on, is_by, holds_by}

-- ## Loops

flat_append : {A : Type 0} (f : A → List Path) (xs ys : List A) → flat_map f (xs ++ ys) ≡ flat_map f xs ++ flat_map f ys
flat_append f [] ys = refl
flat_append f (x ∷ xs) ys = ap (λ zs. f x ++ zs) (flat_append f xs ys) ∙ sym (append_assoc (f x) (flat_map f xs) (flat_map f ys))

flat_taken : {A : Type 0} (f : A → List Path) (xs : List A) (i : ℕ) (x : A) → i < length xs → x ≡ get_or xs i x → flat_map f (take i xs) ++ f x ≡ flat_map f (take (i + 1) xs)
flat_taken f xs i x lt at =
    sym (ap (flat_map f) (take_more xs i x lt ∙ ap (λ y. take i xs ++ y ∷ []) (sym at)) ∙ flat_append f (take i xs) (x ∷ []) ∙ ap (λ zs. flat_map f (take i xs) ++ zs) (append-nil (f x)))

pub loop_step : {A : Type 0} (f : A → List Path) (xs : List A) (i : ℕ) (x : A) (init now new : List Path) → i < length xs → x ≡ get_or xs i x
    → now ≡ once (init ++ flat_map f (take i xs)) → new ≡ once (now ++ f x) → new ≡ once (init ++ flat_map f (take (i + 1) xs))
loop_step f xs i x init now new lt at e h =
    then_added init now new (flat_map f (take i xs)) (f x) e h ∙ ap (λ ys. once (init ++ ys)) (flat_taken f xs i x lt at)

pub loop_done : {A : Type 0} (f : A → List Path) (xs : List A) (i : ℕ) (init now : List Path) → length xs ≤ i → now ≡ once (init ++ flat_map f (take i xs)) → now ≡ once (init ++ flat_map f xs)
loop_done f xs i init now le e = e ∙ ap (λ ys. once (init ++ flat_map f ys)) (take_all i xs le)

pub loop_begun : {A : Type 0} (f : A → List Path) (xs : List A) (init : List Path) → once init ≡ init → init ≡ once (init ++ flat_map f (take 0 xs))
loop_begun f xs init e = nothing_added init init e refl

single : (xs : List Path) → flat_map (λ (p : Path). p ∷ []) xs ≡ xs
single [] = refl
single (x ∷ xs) = ap (λ ys. x ∷ ys) (single xs)

pub paths_step : (xs : List Path) (i : ℕ) (x : Path) (init now new : List Path) → i < length xs → x ≡ get_or xs i x
    → now ≡ once (init ++ take i xs) → new ≡ once (now ++ x ∷ []) → new ≡ once (init ++ take (i + 1) xs)
paths_step xs i x init now new lt at e h =
    then_added init now new (take i xs) (x ∷ []) e h ∙ ap (λ ys. once (init ++ ys)) (sym (take_more xs i x lt ∙ ap (λ y. take i xs ++ y ∷ []) (sym at)))

-- ## Wants

abbrev want_by : Bool → Text → Want
want_by path t = elim path as (λ _. Want) [ true ↦ want.Path t | false ↦ want.NoPath t ]

pub paths_wanted : (ts : List Text) → flat_map path_of (map want_of ts) ≡ filter is_path ts
paths_wanted [] = refl
paths_wanted (t ∷ ts) = go (is_path t) (paths_wanted ts)
  where
    go : (b : Bool) → flat_map path_of (map want_of ts) ≡ filter is_path ts → path_of (want_by b t) ++ flat_map path_of (map want_of ts) ≡ cond b (t ∷ filter is_path ts) (filter is_path ts)
    go true more = ap (λ ps. t ∷ ps) more
    go false more = more

-- of a job whose rule is there
pub job_wants : (flow : Flow) (L : Listings) (m : Making) (part : RulePart) → slice_get flow.rules m.rule ≡ Some part
    → filter is_path (wants flow L (record { rule = m.rule; part = part; binding = m.binding })) ≡ paths_by flow L m
job_wants flow L m part at = sym (ap (paths_in flow L m) at)

pub job_paths : (flow : Flow) (L : Listings) (m : Making) (part : RulePart) (ws : List Want) → slice_get flow.rules m.rule ≡ Some part
    → ws ≡ map want_of (wants flow L (record { rule = m.rule; part = part; binding = m.binding })) → flat_map path_of ws ≡ paths_by flow L m
job_paths flow L m part ws at e =
    ap (flat_map path_of) e ∙ paths_wanted (wants flow L (record { rule = m.rule; part = part; binding = m.binding })) ∙ job_wants flow L m part at

filter-append : (p : Text → Bool) (xs ys : List Text) → filter p (xs ++ ys) ≡ filter p xs ++ filter p ys
filter-append p [] ys = refl
filter-append p (x ∷ xs) ys = go (p x) (filter-append p xs ys)
  where
    go : (b : Bool) → filter p (xs ++ ys) ≡ filter p xs ++ filter p ys → cond b (x ∷ filter p (xs ++ ys)) (filter p (xs ++ ys)) ≡ cond b (x ∷ filter p xs) (filter p xs) ++ filter p ys
    go true more = ap (λ zs. x ∷ zs) more
    go false more = more

jobs_wants : (flow : Flow) (L : Listings) (cs : List Candidate) → AllByRecursion (Placed flow.rules) cs → flat_map (paths_by flow L) (map making cs) ≡ filter is_path (flat_map (wants flow L) cs)
jobs_wants flow L [] placed = refl
jobs_wants flow L (c ∷ cs) placed =
    ap₂ ◌++◌ (sym (job_wants flow L (making c) c.part placed.0)) (jobs_wants flow L cs placed.1)
    ∙ sym (filter-append is_path (wants flow L c) (flat_map (wants flow L) cs))

makings_placed : (flow : Flow) (cs : List Candidate) → AllByRecursion (Placed flow.rules) cs → AllByRecursion (IsPlaced flow) (map making cs)
makings_placed flow [] placed = tt
makings_placed flow (c ∷ cs) placed = ((c.part, placed.0), makings_placed flow cs placed.1)

by_placed : (flow : Flow) (S : Sources) (p : Path) → AllByRecursion (Placed flow.rules) (candidates_by flow S p)
by_placed flow S p = go (S.is p) (candidates_placed flow S p)
  where
    go : (b : Bool) → AllByRecursion (Placed flow.rules) (candidates flow S p) → AllByRecursion (Placed flow.rules) (if b then [] else candidates flow S p)
    go true all = tt
    go false all = all

pub jobs_placed : (flow : Flow) (S : Sources) (p : Path) (ms : List Making) → ms ≡ map making (candidates_by flow S p) → AllByRecursion (IsPlaced flow) ms
jobs_placed flow S p ms e = subst (AllByRecursion (IsPlaced flow)) (sym e) (makings_placed flow (candidates_by flow S p) (by_placed flow S p))

next_by : (flow : Flow) (S : Sources) (L : Listings) (p : Path) → filter is_path (flat_map (wants flow L) (candidates_by flow S p)) ≡ next flow S L p
next_by flow S L p = go (S.is p)
  where
    go : (b : Bool) → filter is_path (flat_map (wants flow L) (if b then [] else candidates flow S p)) ≡ (if b then [] else filter is_path (flat_map (wants flow L) (candidates flow S p)))
    go true = refl
    go false = refl

-- what the candidates of a path want was added
pub step_added : (flow : Flow) (L : Listings) (x : Eye) (S : Sources) (p : Path) (ms : List Making) (old new : List Path) → Says x S → IsListedAround flow x p
    → ms ≡ map making (candidates_by flow (told_by x.sources) p) → new ≡ once (old ++ flat_map (paths_by flow L) ms) → new ≡ once (old ++ next flow S L p)
step_added flow L x S p ms old new says a e h =
    h ∙ ap (λ ps. once (old ++ ps))
    (ap (flat_map (paths_by flow L)) (e ∙ ap (map making) (candidates_said flow x S p says a))
    ∙ jobs_wants flow L (candidates_by flow S p) (by_placed flow S p)
    ∙ next_by flow S L p)

-- ## Levels

module _ (flow : Flow) (S : Sources) (L : Listings) where
  grown_again : (n : ℕ) (xs : List Path) → grown flow S L (suc n) xs ≡ grown flow S L n (with_next flow S L xs xs)
  grown_again zero xs = refl
  grown_again (suc n) xs = ap (λ ys. with_next flow S L ys ys) (grown_again n xs)

  next_longer : (xs ys : List Path) → once xs ≡ xs → Longer xs (with_next flow S L xs ys)
  next_longer xs ys e = subst (Longer xs) (sym (once_on xs (flat_map (next flow S L) ys) e)) (added_longer xs (flat_map (next flow S L) ys))

  grown_longer : (n : ℕ) (xs : List Path) → once xs ≡ xs → Longer xs (grown flow S L n xs)
  grown_longer zero xs e = longer_same xs
  grown_longer (suc n) xs e =
      subst (Longer xs) (sym (grown_again n xs))
      (longer_then xs (with_next flow S L xs xs) (grown flow S L n (with_next flow S L xs xs)) (next_longer xs xs e)
      (grown_longer n (with_next flow S L xs xs) (once_again (xs ++ flat_map (next flow S L) xs))))

  grown_still : (n : ℕ) (xs : List Path) → with_next flow S L xs xs ≡ xs → grown flow S L n xs ≡ xs
  grown_still zero xs e = refl
  grown_still (suc n) xs e = ap (λ ys. with_next flow S L ys ys) (grown_still n xs e) ∙ e

  pub reach_grown : (n : ℕ) (targets : List Path) → reach flow S L n targets ≡ grown flow S L n (once targets)
  reach_grown zero targets = refl
  reach_grown (suc n) targets = ap (λ ys. with_next flow S L ys ys) (reach_grown n targets)

  -- only what is fresh adds anything
  fresh_all : (from : ℕ) (xs : List Path) → once xs ≡ xs → Closed flow S L from xs → with_next flow S L xs (drop from xs) ≡ with_next flow S L xs xs
  fresh_all from xs e closed =
      once_on xs (flat_map (next flow S L) (drop from xs)) e
      ∙ ap (λ ys. added ys (flat_map (next flow S L) (drop from xs))) (sym (sym (once_on xs (flat_map (next flow S L) (take from xs)) e) ∙ closed))
      ∙ sym (added-append xs (flat_map (next flow S L) (take from xs)) (flat_map (next flow S L) (drop from xs)))
      ∙ ap (added xs) (sym (flat_append (next flow S L) (take from xs) (drop from xs)) ∙ ap (flat_map (next flow S L)) (take-append-drop from xs))
      ∙ sym (once_on xs (flat_map (next flow S L) xs) e)

  some_fresh : (n : ℕ) (xs fresh : List Path) → once xs ≡ xs → Longer (with_next flow S L xs (take n fresh)) (with_next flow S L xs fresh)
  some_fresh n xs fresh e =
      let F = next flow S L in
      subst (Longer (with_next flow S L xs (take n fresh)))
      (ap (λ ys. added ys (flat_map F (drop n fresh))) (once_on xs (flat_map F (take n fresh)) e)
      ∙ sym (added-append xs (flat_map F (take n fresh)) (flat_map F (drop n fresh)))
      ∙ ap (added xs) (sym (flat_append F (take n fresh) (drop n fresh)) ∙ ap (flat_map F) (take-append-drop n fresh))
      ∙ sym (once_on xs (flat_map F fresh) e))
      (added_longer (with_next flow S L xs (take n fresh)) (flat_map F (drop n fresh)))

  module _ (eye : Eye) (from : ℕ) (xs fresh new : List Path) (e : once xs ≡ xs) (closed : Closed flow S L from xs) (is : fresh ≡ drop from xs) (says : Says eye S) (a : Advanced flow L eye fresh xs new) where
    -- all that is fresh was gone over
    pub level_done : length new ≤ 100000 → new ≡ with_next flow S L xs xs
    level_done few =
        let s = a.some S says in
        s.1 ∙ ap (with_next flow S L xs) (take_all s.0 fresh (s.2 few) ∙ is) ∙ fresh_all from xs e closed

    pub level_within : Longer new (with_next flow S L xs xs)
    level_within =
        let s = a.some S says in
        subst (λ ys. Longer ys (with_next flow S L xs xs)) (sym s.1)
        (subst (Longer (with_next flow S L xs (take s.0 fresh))) (ap (with_next flow S L xs) is ∙ fresh_all from xs e closed) (some_fresh s.0 xs fresh e))

    pub level_longer : Longer xs new
    level_longer = let s = a.some S says in subst (Longer xs) (sym s.1) (next_longer xs (take s.0 fresh) e)

    -- too many already
    pub level_many : (n : ℕ) → 100000 < length new → 100000 < length (grown flow S L (suc n) xs)
    level_many n many =
        let whole = longer_length new (with_next flow S L xs xs) level_within in
        let later = longer_length (with_next flow S L xs xs) (grown flow S L n (with_next flow S L xs xs)) (grown_longer n (with_next flow S L xs xs) (once_again (xs ++ flat_map (next flow S L) xs))) in
        subst (λ ys. 100000 < length ys) (sym (grown_again n xs)) (omega (arith, many, whole, later))

    -- nothing was added
    pub level_still : (n : ℕ) → length new ≤ 100000 → length new ≡ length xs → new ≡ grown flow S L n xs
    level_still n few same =
        let old = longer_by_none xs new level_longer (omega (arith, same)) in
        old ∙ sym (grown_still n xs (sym (level_done few) ∙ old))

    pub level_same : length new ≡ length xs → new ≡ xs
    level_same same = longer_by_none xs new level_longer (omega (arith, same))

    -- the next level
    pub next_closed : length new ≤ 100000 → Closed flow S L (length xs) new
    next_closed few =
        let F = flat_map (next flow S L) xs in
        let now : new ≡ added xs F = level_done few ∙ once_on xs F e in
        ap (with_next flow S L new) (longer_take xs new level_longer)
        ∙ ap (λ ys. once (ys ++ F)) (level_done few)
        ∙ once_on (with_next flow S L xs xs) F (once_again (xs ++ F))
        ∙ ap (λ ys. added ys F) (once_on xs F e)
        ∙ added_twice xs F
        ∙ sym now

    pub next_grown : (n : ℕ) (last : List Path) → length new ≤ 100000 → last ≡ grown flow S L n new → last ≡ grown flow S L (suc n) xs
    next_grown n last few h = h ∙ ap (grown flow S L n) (level_done few) ∙ sym (grown_again n xs)

    pub next_many : (n : ℕ) → length new ≤ 100000 → 100000 < length (grown flow S L n new) → 100000 < length (grown flow S L (suc n) xs)
    next_many n few h = subst (λ ys. 100000 < length ys) (ap (grown flow S L n) (level_done few) ∙ sym (grown_again n xs)) h

-- ## The limit

pub too_many : (xs : List Path) (b : Bool) → b ≡ true → b ≡ nat_lt 100000 (length xs) → 100000 < length xs
too_many xs b e h = ltb-true 100000 (length xs) (sym h ∙ e)

pub few_enough : (xs : List Path) (b : Bool) → b ≡ false → b ≡ nat_lt 100000 (length xs) → length xs ≤ 100000
few_enough xs b e h = ltb-false 100000 (length xs) (sym h ∙ e)

pub never_few : (xs : List Path) → 100000 < length xs → length xs ≤ 100000 → ⊥
never_few xs many few = omega (arith, many, few)

-- ## One call of the recursion

pub says_itself : (x : Eye) → Says x (told_by x.sources)
says_itself x = record { is = λ q s h. sym (is_by x.sources q s h); holds = λ q s h. sym (holds_by x.sources q s h) }

-- so many levels are one more than those that are left
grown_one : (flow : Flow) (S : Sources) (L : Listings) (levels k : ℕ) (xs : List Path) → levels ≡ k + 1 → grown flow S L levels xs ≡ grown flow S L (suc k) xs
grown_one flow S L levels k xs e = ap (λ n. grown flow S L n xs) (e ∙ add-one k)

pub record Level (flow : Flow) (L : Listings) (eye : Eye) (from : ℕ) (xs fresh new : List Path) : Type 0 where
  pub each : once xs ≡ xs
  pub closed : (S : Sources) → Says eye S → Closed flow S L from xs
  pub is : fresh ≡ drop from xs
  pub advanced : Advanced flow L eye fresh xs new

module _ (flow : Flow) (L : Listings) (eye : Eye) (from : ℕ) (xs fresh new : List Path) (l : Level flow L eye from xs fresh new) where
  pub many_at : (levels k : ℕ) (S : Sources) → Says eye S → levels ≡ k + 1 → 100000 < length new → 100000 < length (grown flow S L levels xs)
  many_at levels k S says e many =
      subst (λ ys. 100000 < length ys) (sym (grown_one flow S L levels k xs e)) (level_many flow S L eye from xs fresh new l.each (l.closed S says) l.is says l.advanced k many)

  pub same_at : length new ≡ length xs → new ≡ xs
  same_at same = let S = told_by eye.sources in level_same flow S L eye from xs fresh new l.each (l.closed S (says_itself eye)) l.is (says_itself eye) l.advanced same

  pub still_at : (levels : ℕ) (S : Sources) → Says eye S → length new ≤ 100000 → length new ≡ length xs → new ≡ grown flow S L levels xs
  still_at levels S says few same = level_still flow S L eye from xs fresh new l.each (l.closed S says) l.is says l.advanced levels few same

  longer_at : Longer xs new
  longer_at = let S = told_by eye.sources in level_longer flow S L eye from xs fresh new l.each (l.closed S (says_itself eye)) l.is (says_itself eye) l.advanced

  pub within_at : (end : ℕ) → end ≡ length xs → end ≤ length new
  within_at end e = omega (arith, e, longer_length xs new longer_at)

  pub first_at : (end : ℕ) → end ≡ length xs → take end new ≡ xs
  first_at end e = ap (λ n. take n new) e ∙ longer_take xs new longer_at

  pub closed_at : (end : ℕ) (S : Sources) → Says eye S → end ≡ length xs → length new ≤ 100000 → Closed flow S L end new
  closed_at end S says e few = subst (λ n. Closed flow S L n new) (sym e) (next_closed flow S L eye from xs fresh new l.each (l.closed S says) l.is says l.advanced few)

  pub grown_at : (levels k : ℕ) (S : Sources) (last : List Path) → Says eye S → levels ≡ k + 1 → length new ≤ 100000 → last ≡ grown flow S L k new → last ≡ grown flow S L levels xs
  grown_at levels k S last says e few h =
      next_grown flow S L eye from xs fresh new l.each (l.closed S says) l.is says l.advanced k last few h ∙ sym (grown_one flow S L levels k xs e)

  pub more_at : (levels k : ℕ) (S : Sources) → Says eye S → levels ≡ k + 1 → length new ≤ 100000 → 100000 < length (grown flow S L k new) → 100000 < length (grown flow S L levels xs)
  more_at levels k S says e few h =
      subst (λ ys. 100000 < length ys) (sym (grown_one flow S L levels k xs e)) (next_many flow S L eye from xs fresh new l.each (l.closed S says) l.is says l.advanced k few h)

  -- all of the level is told of
  pub told_at : (x : Eye) → Keeps x eye → AllByRecursion (IsListedAround flow x) (take from xs) → length new ≤ 100000 → AllByRecursion (IsListedAround flow eye) xs
  told_at x keeps before few =
      subst (AllByRecursion (IsListedAround flow eye)) (ap (λ ys. take from xs ++ ys) l.is ∙ take-append-drop from xs)
      (all_append (IsListedAround flow eye) (take from xs) fresh (arounds_on flow x eye (take from xs) keeps before) (l.advanced.listed few))

-- the last level
pub told_last : (flow : Flow) (x y : Eye) (from : ℕ) (xs fresh : List Path) → Keeps x y → fresh ≡ drop from xs → AllByRecursion (IsListedAround flow x) (take from xs) → AllByRecursion (IsListedAround flow y) fresh → AllByRecursion (IsListedAround flow y) xs
told_last flow x y from xs fresh keeps is before now =
    subst (AllByRecursion (IsListedAround flow y)) (ap (λ ys. take from xs ++ ys) is ∙ take-append-drop from xs)
    (all_append (IsListedAround flow y) (take from xs) fresh (arounds_on flow x y (take from xs) keeps before) now)

pub grown_none : (flow : Flow) (S : Sources) (L : Listings) (levels : ℕ) (xs : List Path) → levels ≡ 0 → xs ≡ grown flow S L levels xs
grown_none flow S L levels xs e = sym (ap (λ n. grown flow S L n xs) e)

-- ## What is told of the reach

pub reach_told : (flow : Flow) (L : Listings) (x : Eye) (S : Sources) (targets start paths : List Path) (count : ℕ) → Says x S → start ≡ once targets → count ≡ length paths
    → (length paths ≤ 100000 → AllByRecursion (IsListedAround flow x) paths)
    → (length paths ≤ 100000 → paths ≡ grown flow S L 400 start)
    → (100000 < length paths → 100000 < length (grown flow S L 400 start))
    → TellsReach flow S L targets (told_by x.sources) count
reach_told flow L x S targets start paths count says begun e listed whole big =
    record {
      small = λ few.
          let f : length paths ≤ 100000 = omega (arith, few, e) in
          let is : reach flow S L 400 targets ≡ paths = reach_grown flow S L 400 targets ∙ ap (grown flow S L 400) (sym begun) ∙ sym (whole f) in (
            subst (AllByRecursion (SameAround flow S (told_by x.sources))) (sym is)
                (all_weaker (IsListedAround flow x) (SameAround flow S (told_by x.sources)) (λ p a. same_around flow x S p says a) paths (listed f)),
            record { less = subst (λ ys. length ys ≤ 100000) (sym is) f },
          );
      large = λ many.
          let m : 100000 < length paths = omega (arith, many, e) in
          record { more = subst (λ ys. 100000 < length ys) (ap (grown flow S L 400) begun ∙ sym (reach_grown flow S L 400 targets)) (big m) };
    }

pub nothing_next : (flow : Flow) (S : Sources) (L : Listings) (xs : List Path) → once xs ≡ xs → Closed flow S L 0 xs
nothing_next flow S L xs e = sym (nothing_added xs xs e refl)
