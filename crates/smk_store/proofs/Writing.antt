-- One record after the other is written.
use Rattle.std.proofs.Common.{◌≡◌, ℕ, zero, suc, ◌+◌, ◌<◌, List, [], ◌∷◌, ◌++◌, length, take, drop, get_or, refl, sym, ap, ◌∙◌, arith, add-one}
use Rattle.smk_world.specs.Requests.{Request}
use Rattle.smk_world.specs.Requests.Request.{Write, MakeParents}
use Rattle.smk_world.specs.Trees.{Path}
use Rattle.smk_store.specs.Steps.{write_each}

abbrev one : Path → List ℕ → List Request → List Request
one p b more = MakeParents p ∷ Write p b ∷ more

around_by : (ps : List Path) (bs : List (List ℕ)) (i : ℕ) (p : Path) (b : List ℕ) → i < length ps → i < length bs → p ≡ get_or ps i p → b ≡ get_or bs i b
    → write_each ps bs ≡ write_each (take i ps) (take i bs) ++ one p b (write_each (drop (suc i) ps) (drop (suc i) bs))
around_by [] bs i p b lp lb e f = absurd (omega arith)
around_by (q ∷ ps) [] i p b lp lb e f = absurd (omega arith)
around_by (q ∷ ps) (c ∷ bs) zero p b lp lb e f = ap (λ x. one x c (write_each ps bs)) (sym e) ∙ ap (λ y. one p y (write_each ps bs)) (sym f)
around_by (q ∷ ps) (c ∷ bs) (suc i) p b lp lb e f = ap (one q c) (around_by ps bs i p b (omega arith) (omega arith) e f)

next_by : (ps : List Path) (bs : List (List ℕ)) (i : ℕ) (p : Path) (b : List ℕ) → i < length ps → i < length bs → p ≡ get_or ps i p → b ≡ get_or bs i b
    → write_each (take (suc i) ps) (take (suc i) bs) ≡ write_each (take i ps) (take i bs) ++ one p b []
next_by [] bs i p b lp lb e f = absurd (omega arith)
next_by (q ∷ ps) [] i p b lp lb e f = absurd (omega arith)
next_by (q ∷ ps) (c ∷ bs) zero p b lp lb e f = ap (λ x. one x c []) (sym e) ∙ ap (λ y. one p y []) (sym f)
next_by (q ∷ ps) (c ∷ bs) (suc i) p b lp lb e f = ap (one q c) (next_by ps bs i p b (omega arith) (omega arith) e f)

pub write_around : (ps : List Path) (bs : List (List ℕ)) (i : ℕ) (p : Path) (b : List ℕ) → i < length ps → i < length bs → p ≡ get_or ps i p → b ≡ get_or bs i b
    → write_each ps bs ≡ write_each (take i ps) (take i bs) ++ one p b (write_each (drop (i + 1) ps) (drop (i + 1) bs))
write_around ps bs i p b lp lb e f = around_by ps bs i p b lp lb e f ∙ ap (λ k. write_each (take i ps) (take i bs) ++ one p b (write_each (drop k ps) (drop k bs))) (sym (add-one i))

pub write_next : (ps : List Path) (bs : List (List ℕ)) (i : ℕ) (p : Path) (b : List ℕ) → i < length ps → i < length bs → p ≡ get_or ps i p → b ≡ get_or bs i b
    → write_each (take (i + 1) ps) (take (i + 1) bs) ≡ write_each (take i ps) (take i bs) ++ one p b []
write_next ps bs i p b lp lb e f = ap (λ k. write_each (take k ps) (take k bs)) (add-one i) ∙ next_by ps bs i p b lp lb e f

pub same_there : (bs : List (List ℕ)) (i : ℕ) (d e : List ℕ) → i < length bs → get_or bs i d ≡ get_or bs i e
same_there [] i d e lt = absurd (omega arith)
same_there (b ∷ bs) zero d e lt = refl
same_there (b ∷ bs) (suc i) d e lt = same_there bs i d e (omega arith)
