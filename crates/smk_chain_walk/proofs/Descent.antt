-- A walk from a path, by the step at it.
use Rattle.std.proofs.Common.{◌≡◌, ◌≢◌, ◌∙◌, ℕ, zero, suc, ◌+◌, ◌-◌, ◌<◌, ◌≤◌, Bool, true, false, cond, List, [], ◌∷◌, ◌++◌, map, filter, length, take, get_or, Option, Some, None, Result, Ok, Err, IfErr, OnOk, refl, sym, ap, subst, append-nil, arith, true≢false}
use Rattle.std.specs.List.{AllByRecursion, list_all}
use Rattle.std.specs.Result.{IsErrAnd}
use denote.Ref.{Bor}
use Rattle.smk_base.specs.Path.{is_path}
use Rattle.smk_world.specs.Trees.{Path}
use Rattle.smk_pattern.specs.Shapes.{Text}
use Rattle.smk_flow.specs.Flows.{Flow, Candidate, rule_name, first_wants, declared_inputs, gathered_folders}
use Rattle.smk_choose.specs.declared.choice.Making.{Making}
use Rattle.smk_choose.specs.declared.table.Choices.{Choices}
use Rattle.smk_choose.specs.Choose.{Sources, Source, Make, choose, candidates}
use Rattle.smk_choose.specs.Told.{Covers, CoversAll}
use Rattle.smk_choose.proofs.Picked.{chosen_candidate, chosen_no_source}
use Rattle.smk_chain.specs.declared.fault.ChainFault.{ChainFault}
use Rattle.smk_chain.specs.declared.fault.ChainFault.TheVariants as told
use Rattle.smk_chain.specs.Derive.{Listings, wants}
use Rattle.smk_choose_wants.specs.declared.wanted.Want.{Want}
use Rattle.smk_choose_wants.specs.declared.wanted.Want.TheVariants as want
use Rattle.smk_choose_wants.specs.Wants.{want_of}
use Rattle.smk_chain_walk.specs.declared.reached.Reached.{Reached}
use Rattle.smk_chain_walk.specs.Numbers.{has, added}
use Rattle.smk_chain_walk.specs.Stepping.{IsInner, IsStep, IsWanted, text_in, inner_table}
use Rattle.smk_chain_walk.specs.Steps.{Fits, refused_for, called_for, is_done, Holds, Keeps, Walked}
use Rattle.smk_chain_walk.proofs.Depths.{all_map}
use Rattle.smk_chain_walk.proofs.Visiting.{SoFar, walked_memory, walked_source, so_far_more, stopped_under, stopped_here, settled}
use Rattle.smk_chain_walk.proofs.Taken.{text_back}

-- a fault that is handed on
pub at_err : {A E : Type 0} (P : Result A E → Type 0) (r : Result A E) (x : E) → IsErrAnd r (λ y. y ≡ x) → P (Err x) → P r
at_err P (Ok a) x e h = absurd e
at_err P (Err y) x e h = subst (λ z. P (Err z)) (sym e) h

-- ---- wants and their texts

texts_back : (ts : List Text) → map text_in (map want_of ts) ≡ ts
texts_back [] = refl
texts_back (t ∷ ts) = ap (λ x. x ∷ map text_in (map want_of ts)) (text_back t) ∙ ap (λ xs. t ∷ xs) (texts_back ts)

want_back : (ts : List Text) (i : ℕ) (w : Want) → i < length (map want_of ts) → w ≡ get_or (map want_of ts) i w → w ≡ want_of (text_in w)
want_back [] i w lt e = absurd (omega arith)
want_back (t ∷ ts) zero w lt e = e ∙ ap want_of (sym (text_back t)) ∙ ap (λ x. want_of (text_in x)) (sym e)
want_back (t ∷ ts) (suc i) w lt e = want_back ts i w (omega arith) e

split_at : (ws : List Want) (i : ℕ) (w : Want) → i < length ws → w ≡ get_or ws i w → (rest : List Text) × (map text_in ws ≡ map text_in (take i ws) ++ text_in w ∷ rest)
split_at [] i w lt e = absurd (omega arith)
split_at (x ∷ ws) zero w lt e = (map text_in ws, ap (λ y. text_in y ∷ map text_in ws) (sym e))
split_at (x ∷ ws) (suc i) w lt e = let r = split_at ws i w (omega arith) e in (r.0, ap (λ ts. text_in x ∷ ts) r.1)

take_step : (ws : List Want) (i : ℕ) (w : Want) → i < length ws → w ≡ get_or ws i w → map text_in (take i ws) ++ text_in w ∷ [] ≡ map text_in (take (suc i) ws)
take_step [] i w lt e = absurd (omega arith)
take_step (x ∷ ws) zero w lt e = ap (λ y. text_in y ∷ []) e
take_step (x ∷ ws) (suc i) w lt e = ap (λ ts. text_in x ∷ ts) (take_step ws i w (omega arith) e)

all_mid : {A : Type 0} (P : A → Type 0) (xs ys : List A) (x : A) → AllByRecursion P (xs ++ x ∷ ys) → P x
all_mid P [] ys x h = h.0
all_mid P (z ∷ xs) ys x h = all_mid P xs ys x h.1

path_want : (q : Path) → want.Path q ≡ want_of q → is_path q ≡ true
path_want q e = go (is_path q) e
  where
    go : (b : Bool) → want.Path q ≡ elim b as (λ _. Want) [ true ↦ want.Path q | false ↦ want.NoPath q ] → b ≡ true
    go true e = refl
    go false e = absurd cc

text_want : (t : Text) → want.NoPath t ≡ want_of t → is_path t ≡ false
text_want t e = go (is_path t) e
  where
    go : (b : Bool) → want.NoPath t ≡ elim b as (λ _. Want) [ true ↦ want.Path t | false ↦ want.NoPath t ] → b ≡ false
    go true e = absurd cc
    go false e = refl

module _ (flow : Flow) (sources : Sources) (L : Listings) where
  -- ---- tables

  covers_less : (table : Choices) (m n : ℕ) (p : Path) → m ≤ n → Covers flow sources table n p → Covers flow sources table m p
  covers_less table zero n p le h = tt
  covers_less table (suc m) zero p le h = absurd (omega arith)
  covers_less table (suc m) (suc n) p le h = (
    h.0,
    λ e. all_map (λ (c : Candidate). AllByRecursion (λ (w : Text). is_path w ≡ true → Covers flow sources table n w) (first_wants flow c))
        (λ (c : Candidate). AllByRecursion (λ (w : Text). is_path w ≡ true → Covers flow sources table m w) (first_wants flow c))
        (λ c all. all_map (λ (w : Text). is_path w ≡ true → Covers flow sources table n w) (λ (w : Text). is_path w ≡ true → Covers flow sources table m w)
        (λ w f t. covers_less table m n w (omega arith) (f t)) (first_wants flow c) all) (candidates flow sources p) (h.1 e),
  )

  covers_kept : (own : Choices) (n : ℕ) (ts : List Text) → n ≤ 201 → CoversAll flow sources own 201 (filter is_path ts) →
      AllByRecursion (λ (w : Text). is_path w ≡ true → Covers flow sources own n w) ts
  covers_kept own n [] le h = tt
  covers_kept own n (t ∷ ts) le h = go (is_path t) refl (λ k. covers_kept own n ts le k) h
    where
      go : (b : Bool) → is_path t ≡ b → (CoversAll flow sources own 201 (filter is_path ts) → AllByRecursion (λ (w : Text). is_path w ≡ true → Covers flow sources own n w) ts) →
          CoversAll flow sources own 201 (cond b (t ∷ filter is_path ts) (filter is_path ts)) → AllByRecursion (λ (w : Text). is_path w ≡ true → Covers flow sources own n w) (t ∷ ts)
      go true e rest h = (λ k. covers_less own n 201 t le h.0, rest h.1)
      go false e rest h = (λ k. absurd (true≢false (sym k ∙ e)), rest h)

  covers_inner : (own : Option Choices) (table : Choices) (n : ℕ) (p : Path) (c : Candidate) → suc n ≤ 201 → choose flow sources p ≡ Make c → IsInner flow sources L c own →
      Covers flow sources table (suc (suc n)) p → AllByRecursion (λ (w : Text). is_path w ≡ true → Covers flow sources (inner_table own table) (suc n) w) (wants flow L c)
  covers_inner None table n p c le e inner cov =
      let firsts : AllByRecursion (λ (w : Text). is_path w ≡ true → Covers flow sources table (suc n) w) (first_wants flow c) =
      chosen_candidate flow sources p c (λ (d : Candidate). AllByRecursion (λ (w : Text). is_path w ≡ true → Covers flow sources table (suc n) w) (first_wants flow d))
      (cov.1 (chosen_no_source flow sources p c e)) e in
      let same : first_wants flow c ≡ wants flow L c =
      ap (λ ts. declared_inputs flow c ++ ts) (sym (append-nil (gathered_folders flow c)) ∙ ap (λ ts. gathered_folders flow c ++ ts) (sym inner)) in
      subst (AllByRecursion (λ (w : Text). is_path w ≡ true → Covers flow sources table (suc n) w)) same firsts
  covers_inner (Some own) table n p c le e inner cov = covers_kept own (suc n) (wants flow L c) le inner

  -- ---- one step

  pub deeper : (depth : ℕ) (p : Path) (c : Candidate) → Fits flow sources L depth p → choose flow sources p ≡ Make c → (n : ℕ) × (depth ≡ suc n)
  deeper zero p c f e = absurd (f c e)
  deeper (suc n) p c f e = (n, refl)

  module _ (depth : ℕ) (p : Path) (m : Making) (ws : List Want) (own : Option Choices) (le : depth ≤ 200) (fits : Fits flow sources L depth p) (s : IsStep flow sources L p m ws own) where
    n : ℕ
    n = (deeper depth p s.candidate fits s.chosen).0

    deep : depth ≡ suc (deeper depth p s.candidate fits s.chosen).0
    deep = (deeper depth p s.candidate fits s.chosen).1

    fits_here : Fits flow sources L (suc (deeper depth p s.candidate fits s.chosen).0) p
    fits_here = subst (λ d. Fits flow sources L d p) deep fits

    low : suc (deeper depth p s.candidate fits s.chosen).0 ≤ 200
    low = subst (λ d. d ≤ 200) deep le

    rule_is : m.rule ≡ s.candidate.rule
    rule_is = ap (λ (x : Making). x.rule) s.is

    texts : wants flow L s.candidate ≡ map text_in ws
    texts = sym (texts_back (wants flow L s.candidate)) ∙ ap (map text_in) (sym s.wants)

    module _ (i : ℕ) (w : Want) (lt : i < length ws) (at : w ≡ get_or ws i w) where
      split : (rest : List Text) × (wants flow L s.candidate ≡ map text_in (take i ws) ++ text_in w ∷ rest)
      split = let r = split_at ws i w lt at in (r.0, texts ∙ r.1)

      is_want : w ≡ want_of (text_in w)
      is_want =
          want_back (wants flow L s.candidate) i w (subst (λ xs. i < length xs) s.wants lt) (at ∙ ap (λ xs. get_or xs i w) s.wants)

      -- a want that is found is a path, and it is this one
      wanted : (found : Bor Path) → IsWanted flow p m.rule w (Ok found) → (text_in w ≡ found.now) × (is_path found.now ≡ true)
      wanted found h = go w is_want h
        where
          go : (x : Want) → x ≡ want_of (text_in x) → IsWanted flow p m.rule x (Ok found) → (text_in x ≡ found.now) × (is_path found.now ≡ true)
          go (want.Path q) e h = (sym h, subst (λ t. is_path t ≡ true) (sym h) (path_want q e))
          go (want.NoPath t) e h = absurd h

      unwanted : (f : ChainFault) → IsWanted flow p m.rule w (Err f) → (is_path (text_in w) ≡ false) × (f ≢ told.OutOfMemory → f ≡ told.NoInput p (rule_name flow m.rule) (text_in w))
      unwanted f h = go w is_want h
        where
          go : (x : Want) → x ≡ want_of (text_in x) → IsWanted flow p m.rule x (Err f) → (is_path (text_in x) ≡ false) × (f ≢ told.OutOfMemory → f ≡ told.NoInput p (rule_name flow m.rule) (text_in x))
          go (want.Path q) e h = absurd h
          go (want.NoPath t) e h = (text_want t e, h)

      pub below_fits : (found : Bor Path) → IsWanted flow p m.rule w (Ok found) → Fits flow sources L (depth - 1) found.now
      below_fits found h =
          let v = wanted found h in
          let all = fits_here s.candidate s.chosen in
          let here = all_mid (λ (t : Text). is_path t ≡ true → Fits flow sources L (deeper depth p s.candidate fits s.chosen).0 t) (map text_in (take i ws)) split.0 (text_in w)
          (subst (AllByRecursion (λ (t : Text). is_path t ≡ true → Fits flow sources L (deeper depth p s.candidate fits s.chosen).0 t)) split.1 all) in
          let less : (deeper depth p s.candidate fits s.chosen).0 ≡ depth - 1 = let d = deep in omega arith in
          subst (λ d. Fits flow sources L d found.now) less (subst (λ t. is_path t ≡ true → Fits flow sources L (deeper depth p s.candidate fits s.chosen).0 t) v.0 here v.1)

      pub below_covers : (table : Choices) (found : Bor Path) → IsWanted flow p m.rule w (Ok found) → Covers flow sources table (depth + 1) p →
          Covers flow sources (inner_table own table) (depth - 1 + 1) found.now
      below_covers table found h cov =
          let v = wanted found h in
          let k = (deeper depth p s.candidate fits s.chosen).0 in
          let d = deep in
          let up : depth + 1 ≡ suc (suc k) = omega arith in
          let down : suc k ≡ depth - 1 + 1 = omega arith in
          let all = covers_inner own table k p s.candidate (let l = low in omega arith) s.chosen s.inner (subst (λ x. Covers flow sources table x p) up cov) in
          let here = all_mid (λ (t : Text). is_path t ≡ true → Covers flow sources (inner_table own table) (suc k) t) (map text_in (take i ws)) split.0 (text_in w)
          (subst (AllByRecursion (λ (t : Text). is_path t ≡ true → Covers flow sources (inner_table own table) (suc k) t)) split.1 all) in
          subst (λ x. Covers flow sources (inner_table own table) x found.now) down
          (subst (λ t. is_path t ≡ true → Covers flow sources (inner_table own table) (suc k) t) v.0 here v.1)

      pub stop_here : (old now new : Reached) (f : ChainFault) → IsWanted flow p m.rule w (Err f) → SoFar flow sources L old now p m.rule (map text_in (take i ws)) →
          Walked flow sources L old new p (Err f)
      stop_here old now new f h so =
          let v = unwanted f h in
          stopped_here flow sources L old now new p (deeper depth p s.candidate fits s.chosen).0 s.candidate (map text_in (take i ws)) split.0 (text_in w) f low fits_here s.chosen s.calm split.1
          (subst (λ r. SoFar flow sources L old now p r (map text_in (take i ws))) rule_is so) v.0 (subst (λ r. f ≢ told.OutOfMemory → f ≡ told.NoInput p (rule_name flow r) (text_in w)) rule_is v.1)

      pub stop_under : (old now new : Reached) (found : Bor Path) (f : ChainFault) → IsWanted flow p m.rule w (Ok found) → Walked flow sources L now new found.now (Err f) →
          SoFar flow sources L old now p m.rule (map text_in (take i ws)) → Walked flow sources L old new p (Err f)
      stop_under old now new found f h walked so =
          let v = wanted found h in
          stopped_under flow sources L old now new p (deeper depth p s.candidate fits s.chosen).0 s.candidate (map text_in (take i ws)) split.0 (text_in w) f low fits_here s.chosen s.calm split.1
          (subst (λ r. SoFar flow sources L old now p r (map text_in (take i ws))) rule_is so) (subst (λ t. is_path t ≡ true) (sym v.0) v.1)
          (subst (λ t. Walked flow sources L now new t (Err f)) (sym v.0) walked)

      pub go_on : (old now new : Reached) (found : Bor Path) → IsWanted flow p m.rule w (Ok found) → Walked flow sources L now new found.now (Ok tt) →
          SoFar flow sources L old now p m.rule (map text_in (take i ws)) → SoFar flow sources L old new p m.rule (map text_in (take (suc i) ws))
      go_on old now new found h walked so =
          let v = wanted found h in
          subst (SoFar flow sources L old new p m.rule) (take_step ws i w lt at)
          (so_far_more flow sources L old now new p m.rule (map text_in (take i ws)) (text_in w) so (subst (λ t. is_path t ≡ true) (sym v.0) v.1)
          (subst (λ t. Walked flow sources L now new t (Ok tt)) (sym v.0) walked))

    pub done_here : (old now new : Reached) (r : Result (Unit {0}) ChainFault) → IfErr r (λ f. f ≡ told.OutOfMemory) →
        OnOk r (is_done new p ≡ true) → OnOk r (Keeps now new) →
        ((cs : List Candidate) → list_all is_path (wants flow L s.candidate) ≡ true → AllByRecursion (λ (w : Text). is_done now w ≡ true) (wants flow L s.candidate) → refused_for flow sources L p ≡ [] →
        AllByRecursion (λ d. has (added cs s.candidate) d ≡ true) (called_for flow sources L p) → Holds flow sources L now cs → OnOk r (Holds flow sources L new (added cs s.candidate))) →
        SoFar flow sources L old now p m.rule (map text_in ws) → Walked flow sources L old new p r
    done_here old now new (Err f) memory done keeps put so = walked_memory flow sources L old new p f memory
    done_here old now new (Ok u) memory done keeps put so =
        settled flow sources L old now new p (deeper depth p s.candidate fits s.chosen).0 s.candidate low fits_here s.chosen s.calm
        (subst (SoFar flow sources L old now p s.candidate.rule) (sym texts) (subst (λ r. SoFar flow sources L old now p r (map text_in ws)) rule_is so)) put done keeps

  pub noted_source : (old new : Reached) (p : Path) (r : Result (Unit {0}) ChainFault) → IfErr r (λ f. f ≡ told.OutOfMemory) → OnOk r (is_done new p ≡ true) → OnOk r (Keeps old new) →
      ((cs : List Candidate) → Holds flow sources L old cs → OnOk r (Holds flow sources L new cs)) → choose flow sources p ≡ Source → Walked flow sources L old new p r
  noted_source old new p (Err f) memory done keeps noted e = walked_memory flow sources L old new p f memory
  noted_source old new p (Ok u) memory done keeps noted e = walked_source flow sources L old new p e noted done keeps
