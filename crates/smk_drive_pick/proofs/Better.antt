-- A job that is no better than the best so far.
use Rattle.std.proofs.Common.{◌≡◌, ◌∙◌, ℕ, zero, suc, ◌<◌, ◌≤◌, arith, Bool, true, false, not, ◌&&◌, true≢false, List, [], ◌∷◌, drop, zip, Option, Some, None, refl, sym, ap, subst}
use Rattle.std.specs.Prelude.{nat_lt, IfSome, if◌then◌else◌}
use Rattle.std.specs.List.{list_all}
use Rattle.std.proofs.lemmas.Bool.{ltb-true, ltb-false}
use Rattle.smk_plan_live.specs.Limits.{is_within}
use Rattle.smk_flow.specs.declared.job.Job.{Job}
use Rattle.smk_plan_states.specs.declared.ranks.Rank.{Rank}
use Rattle.smk_drive_pick.specs.declared.next.Best.{Best}
use Rattle.smk_drive_pick.specs.Told.{IsTop, best_from, better, if_passes}

turned : (b : Bool) → not b ≡ true → b ≡ false
turned false h = refl
turned true h = absurd (true≢false (sym h))

no_better_one :
    (best : Best) (job : Job) → not (nat_lt best.priority job.priority) ≡ true → (test : Job × Rank → Bool) (n : ℕ) (rank : Rank) →
    better (Some best) (if_passes test n (job, rank)) ≡ Some best
no_better_one best job h test n rank = go (test (job, rank))
  where
    later : Best
    later = record { number = n; priority = job.priority }

    go : (b : Bool) → better (Some best) (if b then Some later else None) ≡ Some best
    go true = ap (λ x. if x then Some later else Some best) (turned (nat_lt best.priority job.priority) h)
    go false = refl

pub no_better :
    (best : Option Best) (one : Best) (job : Job) → best ≡ Some one → not (nat_lt one.priority job.priority) ≡ true →
    (test : Job × Rank → Bool) (n : ℕ) (rank : Rank) → better best (if_passes test n (job, rank)) ≡ best
no_better best one job is h test n rank =
    subst (λ b. better b (if_passes test n (job, rank)) ≡ b) (sym is) (no_better_one one job h test n rank)

first_of : (a b : Bool) → (a && b) ≡ true → a ≡ true
first_of true b h = refl
first_of false b h = cc

rest_of : (a b : Bool) → (a && b) ≡ true → b ≡ true
rest_of true b h = h
rest_of false b h = cc

no_greater : (b t e : ℕ) → nat_lt b t ≡ false → not (nat_lt t e) ≡ true → not (nat_lt b e) ≡ true
no_greater b t e no_less within = go (nat_lt b e) refl
  where
    go : (c : Bool) → nat_lt b e ≡ c → not c ≡ true
    go false is = refl
    go true is = absurd (omega (arith, ltb-true b e is, ltb-false b t no_less, ltb-false t e (turned (nat_lt t e) within)))

-- once the best is no worse than any job it stays
pub top_stays :
    (test : ℕ → Job × Rank → Bool) (n : ℕ) (best : Option Best) (top : Option ℕ) → IsTop best top → (jobs : List Job) (ranks : List Rank) →
    IfSome top (λ t. list_all (is_within t) jobs ≡ true) → best_from test n best (zip jobs ranks) ≡ best
top_stays test n best top x jobs ranks within =
    subst (λ (o : Option Best). best_from test n o (zip jobs ranks) ≡ o) (sym x.is)
    (go n jobs ranks (subst (λ (o : Option ℕ). IfSome o (λ t. list_all (is_within t) jobs ≡ true)) x.known within))
  where
    go : (m : ℕ) (js : List Job) (rs : List Rank) → list_all (is_within x.most) js ≡ true → best_from test m (Some x.one) (zip js rs) ≡ Some x.one
    go m [] rs h = refl
    go m (j ∷ js) [] h = refl
    go m (j ∷ js) (r ∷ rs) h =
        ap (λ (o : Option Best). best_from test (suc m) o (zip js rs))
        (no_better_one x.one j (no_greater x.one.priority x.most j.priority x.no_less (first_of (is_within x.most j) (list_all (is_within x.most) js) h)) (test m) m r)
        ∙ go (suc m) js rs (rest_of (is_within x.most j) (list_all (is_within x.most) js) h)

pub within_left : (top : Option ℕ) (jobs : List Job) (n : ℕ) → IfSome top (λ t. list_all (is_within t) jobs ≡ true) → IfSome top (λ t. list_all (is_within t) (drop n jobs) ≡ true)
within_left None jobs n h = tt
within_left (Some t) jobs n h = go jobs n h
  where
    go : (js : List Job) (m : ℕ) → list_all (is_within t) js ≡ true → list_all (is_within t) (drop m js) ≡ true
    go [] zero h = refl
    go [] (suc m) h = refl
    go (j ∷ js) zero h = h
    go (j ∷ js) (suc m) h = go js m (rest_of (is_within t j) (list_all (is_within t) js) h)
