-- Texts with another between them, from the first on.
use Rattle.std.proofs.Common.{◌≡◌, ℕ, codes, List, [], ◌∷◌, ◌++◌, map, refl, ap, sym, ◌∙◌, append_assoc, append-nil}
use Rattle.std.proofs.Common.{decimal, Result, IfOk, subst}
use Rattle.std.specs.List.{count_by}
use Rattle.smk_trigger.specs.declared.reason.State.{State}
use Rattle.smk_trigger.specs.JobStates.{is_dirty, is_restore, is_open, is_clean}
use Rattle.smk_report.specs.Lines.{Text, joined, later, line, summary_line, plan_line}
use Rattle.smk_report.specs.Faults.{at_line}

-- joined texts are the first, and each other with the text before it
pub joined_first : {A : Type 0} (text : A → Text) (between : Text) (x : A) (xs : List A) →
    joined between (map text (x ∷ xs)) ≡ text x ++ later text between xs
joined_first text between x [] = sym (append-nil (text x))
joined_first text between x (y ∷ ys) =
    ap (λ (t : Text). text x ++ (between ++ t)) (joined_first text between y ys)
    ∙ ap (λ (t : Text). text x ++ t) (sym (append_assoc between (text y) (later text between ys)))

-- words with a space between and a line end, from the first on
abbrev pub in_line : List Text → Text
in_line [] = 10 ∷ []
in_line (t ∷ []) = t ++ 10 ∷ []
in_line (t ∷ (u ∷ words)) = t ++ (32 ∷ in_line (u ∷ words))

pub line_from_first : (words : List Text) → line words ≡ in_line words
line_from_first [] = refl
line_from_first (t ∷ []) = refl
line_from_first (t ∷ (u ∷ words)) =
    append_assoc t (32 ∷ joined (codes " ") (u ∷ words)) (10 ∷ [])
    ∙ ap (λ (rest : Text). t ++ (32 ∷ rest)) (line_from_first (u ∷ words))

pub summary_from_first : (started done failed : ℕ) →
    summary_line started done failed
    ≡ codes "summary: " ++ (decimal started ++ (codes " started, " ++ (decimal done ++ (codes " done, " ++ (decimal failed ++ (codes " failed" ++ 10 ∷ []))))))
summary_from_first started done failed =
    line_from_first (codes "summary:" ∷ decimal started ∷ codes "started," ∷ decimal done ∷ codes "done," ∷ decimal failed ∷ codes "failed" ∷ [])

-- the counts of a plan, in a line from the first on
abbrev pub plan_told : ℕ → ℕ → ℕ → ℕ → Text
plan_told dirty restored opened clean =
    codes "plan: " ++ (decimal dirty ++ (codes " to run, " ++ (decimal restored ++ (codes " to restore, " ++ (decimal opened ++ (codes " open, " ++ (decimal clean ++ (codes " clean" ++ 10 ∷ []))))))))

pub plan_from_first : (dirty restored opened clean : ℕ) (states : List State) →
    dirty ≡ count_by is_dirty states → restored ≡ count_by is_restore states → opened ≡ count_by is_open states → clean ≡ count_by is_clean states →
    plan_told dirty restored opened clean ≡ plan_line states
plan_from_first dirty restored opened clean states d r o c =
    ap (λ (n : ℕ). plan_told n restored opened clean) d
    ∙ ap (λ (n : ℕ). plan_told (count_by is_dirty states) n opened clean) r
    ∙ ap (λ (n : ℕ). plan_told (count_by is_dirty states) (count_by is_restore states) n clean) o
    ∙ ap (λ (n : ℕ). plan_told (count_by is_dirty states) (count_by is_restore states) (count_by is_open states) n) c
    ∙ sym (line_from_first
    (codes "plan:" ∷ decimal (count_by is_dirty states) ∷ codes "to run," ∷ decimal (count_by is_restore states) ∷ codes "to restore," ∷ decimal (count_by is_open states)
    ∷ codes "open," ∷ decimal (count_by is_clean states) ∷ codes "clean" ∷ []))

-- a place and what follows it, from the file on
pub at_from_first : (file : Text) (row : ℕ) (rest : Text) → at_line file row ++ rest ≡ file ++ (codes ":" ++ (decimal row ++ rest))
at_from_first file row rest = append_assoc file (codes ":" ++ decimal row) rest

pub map_same : (ts : List Text) → map (λ t. t) ts ≡ ts
map_same [] = refl
map_same (t ∷ ts) = ap (λ (us : List Text). t ∷ us) (map_same ts)

-- what a call has made is the line that is told otherwise
pub same_line : {E : Type 0} (r : Result Text E) (made told : Text) → made ≡ told → IfOk r (λ t. t ≡ made) → IfOk r (λ t. t ≡ told)
same_line r made told e h = subst (λ (x : Text). IfOk r (λ t. t ≡ x)) e h

-- a text, the first and those behind it
pub pushed : {A : Type 0} (text : A → Text) (between : Text) (new mid was : Text) (x : A) (xs all : List A) →
    new ≡ mid ++ later text between xs → mid ≡ was ++ text x → all ≡ x ∷ xs → new ≡ was ++ joined between (map text all)
pushed text between new mid was x xs all n m e =
    n ∙ ap (λ (t : Text). t ++ later text between xs) m
    ∙ append_assoc was (text x) (later text between xs)
    ∙ ap (λ (t : Text). was ++ t) (sym (joined_first text between x xs) ∙ ap (λ ys. joined between (map text ys)) (sym e))
