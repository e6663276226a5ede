-- How many levels of what is wanted are known.
use Rattle.std.proofs.Common.{◌≡◌, ℕ, zero, suc, ◌+◌, ◌<◌, ◌≤◌, ⊎_elim, Result, Ok, Err, OnOk, IfOk, Some, None, List, [], ◌∷◌, ◌++◌, take, get_or, length, sym, ap, subst, ◌∙◌, arith}
use Rattle.std.specs.BTreeMap.{get_by_text}
use Rattle.std.specs.List.{AllByRecursion}
use Rattle.std.proofs.lemmas.List.{get_or_append_left, get_or_push, length-append, length_push, take_more}
use Rattle.std.proofs.lemmas.Bool.{cases_lt}
use Rattle.smk_world.specs.Trees.{Path}
use Rattle.smk_pattern.specs.Shapes.{Text}
use Rattle.smk_flow.specs.Flows.{Flow, Candidate, first_wants}
use Rattle.smk_choose.specs.declared.nodes.Want.{Want}
use Rattle.smk_choose.specs.declared.nodes.Want.TheVariants as want
use Rattle.smk_choose.specs.declared.nodes.Way.{Way}
use Rattle.smk_choose.specs.declared.nodes.Node.{Node}
use Rattle.smk_choose.specs.declared.reach.Reach.{Reach}
use Rattle.smk_choose.specs.Choose.{Sources, candidates}
use Rattle.smk_choose.specs.Heights.{node_at, no_node}
use Rattle.smk_choose.specs.Reach.{path_at, HasNumber, Within, IsWant, AreWants, AreWays, IsNode, AreNodes, AreFlagged, AreNumbered, Grows, AllPaths, Spans}
use Rattle.smk_choose.proofs.Growing.{node_later, path_stays, node_stays}

-- ---- wants

wants_below : (paths : List Path) (ws : List Want) (ts : List Text) → AreWants paths ws ts → AllPaths (λ j. j < length paths) ws
wants_below paths [] [] are = tt
wants_below paths [] (t ∷ ts) are = absurd are
wants_below paths (w ∷ ws) [] are = absurd are
wants_below paths (want.Path n ∷ ws) (t ∷ ts) are = (are.0.0, wants_below paths ws ts are.1)
wants_below paths (want.NoPath s ∷ ws) (t ∷ ts) are = wants_below paths ws ts are.1

ways_below : (flow : Flow) (paths : List Path) (ws : List Way) (cs : List Candidate) → AreWays flow paths ws cs →
    AllByRecursion (λ (w : Way). AllPaths (λ j. j < length paths) w.wants) ws
ways_below flow paths [] [] are = tt
ways_below flow paths [] (c ∷ cs) are = absurd are
ways_below flow paths (w ∷ ws) [] are = absurd are
ways_below flow paths (w ∷ ws) (c ∷ cs) are = (wants_below paths w.wants (first_wants flow c) are.0.1, ways_below flow paths ws cs are.1)

wants_all : (P Q : ℕ → Type 0) → ((j : ℕ) → P j → Q j) → (ws : List Want) → AllPaths P ws → AllPaths Q ws
wants_all P Q f [] all = tt
wants_all P Q f (want.Path n ∷ ws) all = (f n all.0, wants_all P Q f ws all.1)
wants_all P Q f (want.NoPath s ∷ ws) all = wants_all P Q f ws all

ways_all : (P Q : ℕ → Type 0) → ((j : ℕ) → P j → Q j) → (ws : List Way) → AllByRecursion (λ (w : Way). AllPaths P w.wants) ws → AllByRecursion (λ (w : Way). AllPaths Q w.wants) ws
ways_all P Q f [] all = tt
ways_all P Q f (w ∷ ws) all = (wants_all P Q f w.wants all.0, ways_all P Q f ws all.1)

-- ---- one more node

module _ (flow : Flow) (sources : Sources) (old mid new : Reach) (node : Node) (p : Path) (known : AreNodes flow sources old) (g : Grows old mid)
    (same : mid.nodes ≡ old.nodes) (paths : new.paths ≡ mid.paths) (numbers : new.numbers ≡ mid.numbers) (pushed : new.nodes.items ≡ mid.nodes.items ++ node ∷ [])
    (is : IsNode flow sources mid.paths.items node p) (at : path_at old.paths.items (length old.nodes.items) ≡ p) (left : length old.nodes.items < length old.paths.items) where
  nodes_pushed : new.nodes.items ≡ old.nodes.items ++ node ∷ []
  nodes_pushed = pushed ∙ ap (λ v. v.items ++ node ∷ []) same

  pub grows_pushed : Grows old new
  grows_pushed = record {
    added = g.added;
    paths = ap (λ v. v.items) paths ∙ g.paths;
    more = node ∷ [];
    nodes = nodes_pushed;
    numbers = λ q n e. ap (λ m. get_by_text m q) numbers ∙ g.numbers q n e;
  }

  pub count_pushed : length new.nodes.items ≡ length old.nodes.items + 1
  count_pushed = ap length nodes_pushed ∙ length_push old.nodes.items node

  last : (n : ℕ) → length old.nodes.items ≡ n → IsNode flow sources new.paths.items (node_at new.nodes.items n) (path_at new.paths.items n)
  last n e =
      let lt : n < length old.paths.items = omega (arith, left, e) in
      let here : node_at new.nodes.items n ≡ node = ap (λ ns. node_at ns n) nodes_pushed ∙ get_or_push old.nodes.items node no_node n e in
      let there : path_at new.paths.items n ≡ p = path_stays flow sources old new grows_pushed n lt ∙ ap (path_at old.paths.items) (sym e) ∙ at in
      subst (λ (x : Node). IsNode flow sources new.paths.items x (path_at new.paths.items n)) (sym here)
      (subst (λ (q : Path). IsNode flow sources new.paths.items node q) (sym there)
      (subst (λ (ps : List Path). IsNode flow sources ps node p) (sym (ap (λ v. v.items) paths)) is))

  pub known_pushed : AreNodes flow sources new
  known_pushed = λ n lt. ⊎_elim
      (λ early. node_later flow sources old new grows_pushed n (omega (arith, left, early)) early (known n early))
      (λ late. last n (omega (arith, lt, late, count_pushed)))
      (cases_lt n (length old.nodes.items))

-- ---- one more level

pub spans_more : (flow : Flow) (sources : Sources) (a b : Reach) (k n : ℕ) → Grows a b → AreNodes flow sources a → n < length a.paths.items → n < length a.nodes.items →
    ((j : ℕ) → j < length a.paths.items → Spans flow sources b k j) → Spans flow sources b (suc k) n
spans_more flow sources a b k n g known lt has later =
    let longer : length b.paths.items ≡ length a.paths.items + length g.added = ap length g.paths ∙ length-append a.paths.items g.added in (
      omega (arith, lt, longer),
      (
        node_later flow sources a b g n lt has (known n has),
        λ e. subst (λ (x : Node). AllByRecursion (λ (w : Way). AllPaths (Spans flow sources b k) w.wants) x.ways) (sym (node_stays flow sources a b g n has))
            (ways_all (λ j. j < length a.paths.items) (Spans flow sources b k) later (node_at a.nodes.items n).ways
            (ways_below flow a.paths.items (node_at a.nodes.items n).ways (candidates flow sources (path_at a.paths.items n))
            ((known n has).1 (ap sources.is (sym (path_stays flow sources a b g n lt)) ∙ e)))),
      ),
    )

pub flags_of_nodes : (flow : Flow) (sources : Sources) (r : Reach) → AreNodes flow sources r → AreFlagged sources r
flags_of_nodes flow sources r known n lt = (known n lt).0

pub spans_last : (flow : Flow) (sources : Sources) (old new : Reach) → Grows old new → AreFlagged sources new → length old.paths.items ≤ length new.nodes.items →
    (n : ℕ) → n < length old.paths.items → Spans flow sources new 0 n
spans_last flow sources old new g known count n lt =
    let longer : length new.paths.items ≡ length old.paths.items + length g.added = ap length g.paths ∙ length-append old.paths.items g.added in
    (omega (arith, lt, longer), known n (omega (arith, lt, count)))

pub flags_more : (sources : Sources) (old new : Reach) (node : Node) → AreFlagged sources old → new.nodes.items ≡ old.nodes.items ++ node ∷ [] → new.paths ≡ old.paths →
    node.source ≡ sources.is (path_at old.paths.items (length old.nodes.items)) → AreFlagged sources new
flags_more sources old new node known pushed same flag n lt = ⊎_elim
    (λ early. ap (λ (ns : List Node). (node_at ns n).source) pushed ∙ ap (λ (x : Node). x.source) (get_or_append_left old.nodes.items (node ∷ []) no_node n early) ∙ known n early ∙ paths n)
    (λ late.
    let e : length old.nodes.items ≡ n = omega (arith, lt, late, ap length pushed ∙ length_push old.nodes.items node) in
    ap (λ (ns : List Node). (node_at ns n).source) pushed ∙ ap (λ (x : Node). x.source) (get_or_push old.nodes.items node no_node n e)
    ∙ flag ∙ ap (λ k. sources.is (path_at old.paths.items k)) e ∙ paths n)
    (cases_lt n (length old.nodes.items))
  where
    paths : (n : ℕ) → sources.is (path_at old.paths.items n) ≡ sources.is (path_at new.paths.items n)
    paths n = ap (λ v. sources.is (path_at v.items n)) (sym same)

-- what holds of a success for two reasons
pub on_one : {A E : Type 0} (r : Result A E) (P Q : Type 0) → (P → Q) → OnOk r P → OnOk r Q
on_one (Ok x) P Q f p = f p
on_one (Err e) P Q f p = tt

pub on_both : {A E : Type 0} (r : Result A E) (P Q R : Type 0) → (P → Q → R) → OnOk r P → OnOk r Q → OnOk r R
on_both (Ok x) P Q R f p q = f p q
on_both (Err e) P Q R f p q = tt

pub if_both : {A E : Type 0} (r : Result A E) (P : Type 0) (Q R : A → Type 0) → ((x : A) → P → Q x → R x) → OnOk r P → IfOk r Q → IfOk r R
if_both (Ok x) P Q R f p q = f x p q
if_both (Err e) P Q R f p q = tt

-- ---- what is covered

pub within_first : (sources : Sources) (r : Reach) (end k n : ℕ) → Within sources r end k n → n < end
within_first sources r end zero n w = w
within_first sources r end (suc k) n w = w.0

pub within_more : (flow : Flow) (sources : Sources) (a b : Reach) (end k n : ℕ) → Grows a b → AreNodes flow sources a → n < length a.paths.items → n < length a.nodes.items →
    ((j : ℕ) → j < length a.paths.items → Within sources b end k j) → Within sources b end (suc k) n
within_more flow sources a b end k n g known lt has later = (
  within_first sources b end k n (later n lt),
  λ e. subst (λ (x : Node). AllByRecursion (λ (w : Way). AllPaths (Within sources b end k) w.wants) x.ways) (sym (node_stays flow sources a b g n has))
      (ways_all (λ j. j < length a.paths.items) (Within sources b end k) later (node_at a.nodes.items n).ways
      (ways_below flow a.paths.items (node_at a.nodes.items n).ways (candidates flow sources (path_at a.paths.items n))
      ((known n has).1 (ap sources.is (sym (path_stays flow sources a b g n lt)) ∙ e)))),
)

-- ---- numbers given

number_later : (old new : Reach) (p : Path) → Grows old new → HasNumber old.paths.items p → HasNumber new.paths.items p
number_later old new p g (n, lt, e) =
    (n, omega (arith, lt, ap length g.paths ∙ length-append old.paths.items g.added), ap (λ (ps : List Path). path_at ps n) g.paths ∙ get_or_append_left old.paths.items g.added [] n lt ∙ e)

numbers_later : (old new : Reach) (xs : List Path) → Grows old new → AllByRecursion (HasNumber old.paths.items) xs → AllByRecursion (HasNumber new.paths.items) xs
numbers_later old new [] g all = tt
numbers_later old new (x ∷ xs) g all = (number_later old new x g all.0, numbers_later old new xs g all.1)

pub all_push : {A : Type 0} (P : A → Type 0) (xs : List A) (x : A) → AllByRecursion P xs → P x → AllByRecursion P (xs ++ x ∷ [])
all_push P [] x all p = (p, tt)
all_push P (y ∷ xs) x all p = (all.0, all_push P xs x all.1 p)

pub numbers_step : (old new : Reach) (xs : List Path) (i : ℕ) (p copy : Path) (n : ℕ) → i < length xs → p ≡ get_or xs i p → copy ≡ p → Grows old new →
    IsWant new.paths.items (want.Path n) copy → AllByRecursion (HasNumber old.paths.items) (take i xs) → AllByRecursion (HasNumber new.paths.items) (take (i + 1) xs)
numbers_step old new xs i p copy n lt at same g is all =
    subst (λ (ys : List Path). AllByRecursion (HasNumber new.paths.items) ys) (sym (take_more xs i p lt))
    (all_push (HasNumber new.paths.items) (take i xs) (get_or xs i p) (numbers_later old new (take i xs) g all) (n, is.0, is.1 ∙ same ∙ at))

pub numbered_none : (r : Reach) → r.paths.items ≡ [] → ((q : Path) → get_by_text r.numbers q ≡ None) → AreNumbered r
numbered_none r none fresh = record {
  are = λ n lt. absurd (omega (arith, lt, ap length none));
  at = λ p n e. absurd (not_some n (sym (fresh p) ∙ e));
}
  where
    not_some : (a : ℕ) → None ≡ Some a → ⊥
    not_some a e = cc
