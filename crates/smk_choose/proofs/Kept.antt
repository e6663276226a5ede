-- What holds while rules are put into an index, and while numbers are merged.
use Rattle.std.proofs.Common.{◌≡◌, ◌⊎◌, inl, inr, ℕ, zero, suc, ◌+◌, ◌<◌, ◌≤◌, ◌==◌, ◌||◌, Bool, true, false, List, [], ◌∷◌, get_or, length, Some, slice_get, refl, sym, ap, ap₂, subst, ◌∙◌, arith}
use Rattle.std.proofs.lemmas.Bool.{eq-eqb, or_left, or_parts, cases_lt, cases_order}
use Rattle.std.proofs.lemmas.Option.{slice_get_past}
use Rattle.smk_world.specs.Trees.{Path}
use Rattle.smk_pattern.specs.Shapes.{Text, Shape}
use Rattle.smk_flow.specs.declared.workflow.Rule.{Rule}
use Rattle.smk_choose.specs.declared.readings.Reading.{Reading}
use Rattle.smk_choose.specs.declared.index.Index.{Index}
use Rattle.smk_choose.specs.Index.{Rises, AreBelow, has_number, HasAdded, HasAddedWhere, IsLeast, may_fit, numbers_at, tries, AreOrdered, AllBelow, HasTaken, outputs_in, outputs_at, directories_in, directories_at, has_any, AreIndexed, AreFolders}
use Rattle.smk_choose.proofs.Indexed.{below_more}

at_or : {A : Type 0} (xs : List A) (i : ℕ) (x : A) → i < length xs → x ≡ get_or xs i x → slice_get xs i ≡ Some x
at_or [] i x lt e = absurd (omega (arith, lt))
at_or (y ∷ xs) zero x lt e = ap (λ z. Some z) (sym e)
at_or (y ∷ xs) (suc i) x lt e = at_or xs i x (omega (arith, lt)) e

last_or_before : (m n : ℕ) → m < n + 1 → (m ≡ n) ⊎ (m < n)
last_or_before m n lt = go (cases_order m n)
  where
    go : (m ≡ n) ⊎ ((m < n) ⊎ (n < m)) → (m ≡ n) ⊎ (m < n)
    go (inl same) = inl same
    go (inr (inl less)) = inr less
    go (inr (inr more)) = absurd (omega (arith, lt, more))

-- ---- rules by their outputs

-- the rules before this number are in the index
pub record AreIndexedBelow (rules : List Rule) (end : ℕ) (index : Index) : Type 0 where
  pub ordered : AreOrdered index
  pub below : AllBelow end index
  pub finds : (p : Path) (n : ℕ) → n < end → may_fit (outputs_at rules n) p ≡ true → tries index p n ≡ true

pub none_indexed : (rules : List Rule) (index : Index) → ((t : Text) → numbers_at index t ≡ []) → index.wild ≡ [] → AreIndexedBelow rules 0 index
none_indexed rules index none wild = record {
  ordered = record { texts = λ t. subst (Rises 0) (sym (none t)) tt; wild = subst (Rises 0) (sym wild) tt };
  below = record { texts = λ t. subst (AreBelow 0) (sym (none t)) tt; wild = subst (AreBelow 0) (sym wild) tt };
  finds = λ p n lt e. absurd (omega (arith, lt));
}

pub one_indexed : (rules : List Rule) (n : ℕ) (rule : Rule) (shapes : List Shape) (old new : Index) → n < length rules → rule ≡ get_or rules n rule → shapes ≡ rule.outputs →
    AreIndexedBelow rules n old → HasTaken n (may_fit shapes) old new → AreIndexedBelow rules (n + 1) new
one_indexed rules n rule shapes old new lt at same h g = record {
  ordered = g.ordered wider h.ordered;
  below = g.below wider;
  finds = λ p m less e. by p m e (last_or_before m n less);
}
  where
    wider : AllBelow (n + 1) old
    wider = record { texts = λ t. below_more n (n + 1) (numbers_at old t) (omega arith) (h.below.texts t); wild = below_more n (n + 1) old.wild (omega arith) h.below.wild }

    here : shapes ≡ outputs_at rules n
    here = same ∙ ap outputs_in (sym (at_or rules n rule lt at))

    by : (p : Path) (m : ℕ) → may_fit (outputs_at rules m) p ≡ true → (m ≡ n) ⊎ (m < n) → tries new p m ≡ true
    by p m e (inl is) = ap (tries new p) is ∙ g.adds p (ap (λ ss. may_fit ss p) here ∙ ap (λ k. may_fit (outputs_at rules k) p) (sym is) ∙ e)
    by p m e (inr less) = g.keeps p m (h.finds p m less e)

pub all_indexed : (rules : List Rule) (end : ℕ) (index : Index) → length rules ≤ end → AreIndexedBelow rules end index → AreIndexed rules index
all_indexed rules end index le h = record {
  ordered = h.ordered;
  finds = λ p n e. by p n e (cases_lt n end);
}
  where
    never : false ≡ true → ⊥
    never e = cc

    by : (p : Path) (n : ℕ) → may_fit (outputs_at rules n) p ≡ true → (n < end) ⊎ (end ≤ n) → tries index p n ≡ true
    by p n e (inl lt) = h.finds p n lt e
    by p n e (inr ge) = absurd (never (ap (λ o. may_fit (outputs_in o) p) (sym (slice_get_past rules n (omega (arith, le, ge)))) ∙ e))

-- ---- rules that make directories

-- those before this number are in the list
pub record AreFoldersBelow (readings : List Reading) (end : ℕ) (numbers : List ℕ) : Type 0 where
  pub rises : Rises 0 numbers
  pub below : AreBelow end numbers
  pub misses : (n : ℕ) → n < end → has_number n numbers ≡ false → directories_at readings n ≡ []

pub no_folder : (readings : List Reading) (numbers : List ℕ) → numbers ≡ [] → AreFoldersBelow readings 0 numbers
no_folder readings numbers none = subst (AreFoldersBelow readings 0) (sym none) (record { rises = tt; below = tt; misses = λ n lt e. absurd (omega (arith, lt)) })

pub one_folder : (readings : List Reading) (n : ℕ) (reading : Reading) (old new : List ℕ) → n < length readings → reading ≡ get_or readings n reading →
    AreFoldersBelow readings n old → HasAddedWhere (has_any reading.folders) n old new → AreFoldersBelow readings (n + 1) new
one_folder readings n reading old new lt at h g = go reading.folders refl g
  where
    wider : AreBelow (n + 1) old
    wider = below_more n (n + 1) old (omega arith) h.below

    here : directories_at readings n ≡ reading.folders
    here = ap directories_in (at_or readings n reading lt at)

    never : (b : Bool) → b ≡ true → b ≡ false → ⊥
    never b e f = cc

    go : (shapes : List Shape) → reading.folders ≡ shapes → HasAddedWhere (has_any shapes) n old new → AreFoldersBelow readings (n + 1) new
    go [] none same = subst (AreFoldersBelow readings (n + 1)) (sym same) (record {
      rises = h.rises;
      below = wider;
      misses = λ m less e. by m e (last_or_before m n less);
    })
      where
        by : (m : ℕ) → has_number m old ≡ false → (m ≡ n) ⊎ (m < n) → directories_at readings m ≡ []
        by m e (inl is) = ap (directories_at readings) is ∙ here ∙ none
        by m e (inr less) = h.misses m less e
    go (s ∷ shapes) some added = record {
      rises = added.rises wider h.rises;
      below = added.below wider;
      misses = λ m less e. by m e (last_or_before m n less);
    }
      where
        by : (m : ℕ) → has_number m new ≡ false → (m ≡ n) ⊎ (m < n) → directories_at readings m ≡ []
        by m e (inl is) = absurd (never (has_number m new) (added.has m ∙ or_left (m == n) (has_number m old) (eq-eqb m n is)) e)
        by m e (inr less) = h.misses m less (or_parts (m == n) (has_number m old) (sym (added.has m) ∙ e)).1

pub all_folders : (readings : List Reading) (end : ℕ) (numbers : List ℕ) → length readings ≤ end → AreFoldersBelow readings end numbers → AreFolders readings numbers
all_folders readings end numbers le h = record {
  rises = h.rises;
  misses = λ n e. by n e (cases_lt n end);
}
  where
    by : (n : ℕ) → has_number n numbers ≡ false → (n < end) ⊎ (end ≤ n) → directories_at readings n ≡ []
    by n e (inl lt) = h.misses n lt e
    by n e (inr ge) = ap directories_in (slice_get_past readings n (omega (arith, le, ge)))

-- ---- two lists of numbers merged

-- What was made of two lists, and what is left of them: it rises, and no number that is left is below the last one.
pub record Merges (one other made left right : List ℕ) : Type 0 where
  pub from : ℕ
  pub rises : Rises 0 made
  pub below : AreBelow (from + 1) made
  pub first : Rises from left
  pub second : Rises from right
  pub has : (n : ℕ) → (has_number n made || (has_number n left || has_number n right)) ≡ (has_number n one || has_number n other)

pub merge_none : (one other made : List ℕ) → made ≡ [] → Rises 0 one → Rises 0 other → Merges one other made one other
merge_none one other made none a b =
    subst (λ ns. Merges one other ns one other) (sym none) (record { from = 0; rises = tt; below = tt; first = a; second = b; has = λ n. refl })

or_moved : (a b c : Bool) → ((a || b) || c) ≡ (b || (a || c))
or_moved true true c = refl
or_moved true false c = refl
or_moved false b c = refl

pub merge_more : (one other made left right : List ℕ) (n : ℕ) (ones others new : List ℕ) → Merges one other made left right → IsLeast n left right ones others → HasAdded n made new →
    Merges one other new ones others
merge_more one other made left right n ones others new h least added =
    let up = least.rises h.from h.first h.second in
    let wider = below_more (h.from + 1) (n + 1) made (omega (arith, up.0)) h.below in
    record {
      from = n;
      rises = added.rises wider h.rises;
      below = added.below wider;
      first = up.1;
      second = up.2;
      has = λ m.
          ap (λ b. b || (has_number m ones || has_number m others)) (added.has m)
          ∙ or_moved (m == n) (has_number m made) (has_number m ones || has_number m others)
          ∙ ap (λ b. has_number m made || b) (sym (least.has m))
          ∙ h.has m;
    }

or_nothing : (b : Bool) → b ≡ (b || false)
or_nothing true = refl
or_nothing false = refl

pub merge_all : (one other made left right : List ℕ) → Merges one other made left right → left ≡ [] → right ≡ [] →
    (n : ℕ) → has_number n made ≡ (has_number n one || has_number n other)
merge_all one other made left right h none nothing n =
    or_nothing (has_number n made)
    ∙ ap₂ (λ a b. has_number n made || (has_number n a || has_number n b)) (sym none) (sym nothing)
    ∙ h.has n
