-- What a table covers.
use Rattle.std.proofs.Common.{◌≡◌, ℕ, zero, suc, ◌≤◌, Bool, true, false, cond, List, [], ◌∷◌, filter, Option, Some, None, option_map, refl, sym, ap, subst, ◌∙◌, arith}
use Rattle.std.specs.List.{AllByRecursion}
use Rattle.smk_base.specs.Path.{is_path}
use Rattle.smk_world.specs.Trees.{Path}
use Rattle.smk_pattern.specs.Shapes.{Text}
use Rattle.smk_flow.specs.Flows.{Flow, Candidate, first_wants}
use Rattle.smk_choose.specs.declared.choice.Making.{Making}
use Rattle.smk_choose.specs.declared.table.Choices.{Choices}
use Rattle.smk_choose.specs.Choose.{Sources, Choice, Source, Make, Nothing, Ambiguous, choose, maker, candidates}
use Rattle.smk_choose.specs.Told.{Covers, making, choice_of, told_choice}
use Rattle.smk_choose.proofs.Picked.{chosen_candidate, chosen_placed, chosen_no_source}
use Rattle.smk_chain_walk.specs.Heights.{AreCovered, IsCovered, making_in}
use Rattle.smk_chain_walk.proofs.Depths.{all_map}

-- a table that covers more levels covers fewer
covers_less : (flow : Flow) (sources : Sources) (table : Choices) (n m : ℕ) (p : Path) → n ≤ m → Covers flow sources table m p → Covers flow sources table n p
covers_less flow sources table zero m p le covers = tt
covers_less flow sources table (suc n) zero p le covers = absurd (omega (arith, le))
covers_less flow sources table (suc n) (suc m) p le covers = (
  covers.0,
  λ none. all_map (λ (c : Candidate). AllByRecursion (λ (w : Text). is_path w ≡ true → Covers flow sources table m w) (first_wants flow c))
      (λ (c : Candidate). AllByRecursion (λ (w : Text). is_path w ≡ true → Covers flow sources table n w) (first_wants flow c))
      (λ c all. all_map (λ (w : Text). is_path w ≡ true → Covers flow sources table m w) (λ (w : Text). is_path w ≡ true → Covers flow sources table n w)
      (λ w f is. covers_less flow sources table n m w (omega (arith, le)) (f is)) (first_wants flow c) all)
      (candidates flow sources p) (covers.1 none),
)

pub all_less : (flow : Flow) (sources : Sources) (table : Choices) (n m : ℕ) (ps : List Path) → n ≤ m → AreCovered flow sources table m ps → AreCovered flow sources table n ps
all_less flow sources table n m ps le all = all_map (Covers flow sources table m) (Covers flow sources table n) (λ p c. covers_less flow sources table n m p le c) ps all

kept_all : (P : Path → Type 0) (ws : List Text) → AllByRecursion (λ (w : Text). is_path w ≡ true → P w) ws → AllByRecursion P (filter is_path ws)
kept_all P [] all = tt
kept_all P (w ∷ ws) all = go (is_path w) refl (kept_all P ws all.1)
  where
    go : (b : Bool) → is_path w ≡ b → AllByRecursion P (filter is_path ws) → AllByRecursion P (cond b (w ∷ filter is_path ws) (filter is_path ws))
    go true is rest = (all.0 is, rest)
    go false is rest = rest

-- the job that is chosen for a path, as it is told
pub record IsMaking (flow : Flow) (sources : Sources) (p : Path) (m : Making) : Type 0 where
  pub candidate : Candidate
  pub chosen : choose flow sources p ≡ Make candidate
  pub is : m ≡ making candidate

told_making : (ch : Choice) → making_in (Some (told_choice ch)) ≡ option_map making (maker ch)
told_making Source = refl
told_making (Make c) = refl
told_making (Nothing l) = refl
told_making (Ambiguous a b) = refl

-- what the table has of a covered path
pub making_told : (flow : Flow) (sources : Sources) (table : Choices) (n : ℕ) (p : Path) (o : Option Making) → Covers flow sources table (suc n) p →
    o ≡ making_in (choice_of table p) → o ≡ option_map making (maker (choose flow sources p))
making_told flow sources table n p o covers e = e ∙ ap making_in covers.0 ∙ told_making (choose flow sources p)

pub making_none : (ch : Choice) → None ≡ option_map making (maker ch) → maker ch ≡ None
making_none Source e = refl
making_none (Make c) e = absurd (cc)
making_none (Nothing l) e = refl
making_none (Ambiguous a b) e = refl

pub making_some : (flow : Flow) (sources : Sources) (p : Path) (m : Making) → Some m ≡ option_map making (maker (choose flow sources p)) → IsMaking flow sources p m
making_some flow sources p m e = go (choose flow sources p) refl e
  where
    go : (ch : Choice) → choose flow sources p ≡ ch → Some m ≡ option_map making (maker ch) → IsMaking flow sources p m
    go Source is e = absurd (cc)
    go (Make c) is e = record { candidate = c; chosen = is; is = cc }
    go (Nothing l) is e = absurd (cc)
    go (Ambiguous a b) is e = absurd (cc)

-- a covered path's job wants covered paths
pub covered_under : (flow : Flow) (sources : Sources) (table : Choices) (n : ℕ) (p : Path) (m : Making) → Covers flow sources table (suc n) p → IsMaking flow sources p m →
    IsCovered flow sources table n m
covered_under flow sources table n p m covers made = record {
  candidate = made.candidate;
  placed = chosen_placed flow sources p made.candidate made.chosen;
  is = made.is;
  covered = kept_all (Covers flow sources table n) (first_wants flow made.candidate)
      (chosen_candidate flow sources p made.candidate (λ (c : Candidate). AllByRecursion (λ (w : Text). is_path w ≡ true → Covers flow sources table n w) (first_wants flow c))
      (covers.1 (chosen_no_source flow sources p made.candidate made.chosen)) made.chosen);
}

-- ## A path that is gone to with so many levels left

module _ (flow : Flow) (sources : Sources) (table : Choices) (n left : ℕ) (p : Path) where
  pub made_here : (m : Making) → suc n ≡ left → Covers flow sources table left p → Some m ≡ making_in (choice_of table p) → IsMaking flow sources p m
  made_here m whole covers e =
      making_some flow sources p m (making_told flow sources table n p (Some m) (subst (λ (k : ℕ). Covers flow sources table k p) (sym whole) covers) e)

  pub none_here : suc n ≡ left → Covers flow sources table left p → None ≡ making_in (choice_of table p) → maker (choose flow sources p) ≡ None
  none_here whole covers e =
      making_none (choose flow sources p) (making_told flow sources table n p None (subst (λ (k : ℕ). Covers flow sources table k p) (sym whole) covers) e)

  pub covered_here : (m : Making) → suc n ≡ left → Covers flow sources table left p → Some m ≡ making_in (choice_of table p) → IsCovered flow sources table n m
  covered_here m whole covers e =
      covered_under flow sources table n p m (subst (λ (k : ℕ). Covers flow sources table k p) (sym whole) covers) (made_here m whole covers e)
