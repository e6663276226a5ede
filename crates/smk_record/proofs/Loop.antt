-- Reading values one after the other, as a loop does.
use Rattle.std.proofs.Common.{◌≡◌, ℕ, suc, ◌-◌, ◌+◌, ◌≤◌, ◌<◌, List, [], ◌∷◌, ◌++◌, Some, None, refl, sym, ap, ◌∙◌, append_assoc, arith}
use Rattle.std.proofs.lemmas.List.{append-nil}
use Rattle.smk_record.specs.declared.record.Stamp.{Stamp}
use Rattle.smk_record.specs.declared.stop.Stop.{Stop}
use Rattle.smk_record.specs.declared.stop.Stop.TheVariants as stops
use Rattle.smk_record.specs.Reading.{◌>>=◌, Reader, Taken, Stops, some_in, each_in}

-- what was read before, and what is still read
abbrev pub with_front : {A : Type 0} → List A → Taken (List A) → Taken (List A)
with_front front read = read >>= λ x. Some (front ++ x.0, x.1)

abbrev taken : {A : Type 0} → List A → List ℕ → Taken (List A)
taken xs rest = Some (xs, rest)

regroup : {A : Type 0} (front : List A) (x : A) (read : Taken (List A)) → with_front front (read >>= λ y. Some (x ∷ y.0, y.1)) ≡ with_front (front ++ x ∷ []) read
regroup {A = A} front x (Some y) = ap (λ (xs : List A). taken xs y.1) (simp append_assoc)
regroup front x None = refl

pub goes_on : {A : Type 0} (one : Reader A) (front : List A) (count i : ℕ) (bytes : List ℕ) (x : A) (after : List ℕ) (total : Taken (List A)) → i < count → one bytes ≡ Some (x, after)
    → with_front front (some_in one (count - i) bytes) ≡ total → with_front (front ++ x ∷ []) (some_in one (count - (i + 1)) after) ≡ total
unfolding some_in
goes_on one front count i bytes x after total lt h so_far =
    let k : count - i ≡ suc (count - (i + 1)) = omega arith in
    let step : with_front front (some_in one (count - i) bytes) ≡ with_front (front ++ x ∷ []) (some_in one (count - (i + 1)) after) = rw (k, h) (regroup front x (some_in one (count - (i + 1)) after)) in
    sym step ∙ so_far

pub ends : {A : Type 0} (one : Reader A) (e : Stop) (front : List A) (count i : ℕ) (bytes : List ℕ) (total : Taken (List A)) → i < count → Stops e (one bytes)
    → with_front front (some_in one (count - i) bytes) ≡ total → Stops e total
unfolding some_in
ends one stops.OutOfMemory front count i bytes total lt h so_far = tt
ends one stops.Unread front count i bytes total lt h so_far =
    let k : count - i ≡ suc (count - (i + 1)) = omega arith in
    let step : with_front front (some_in one (count - i) bytes) ≡ None = rw (k, h) refl in
    sym so_far ∙ step

pub is_done : {A : Type 0} (one : Reader A) (front : List A) (count i : ℕ) (bytes : List ℕ) (total : Taken (List A)) → count ≤ i → with_front front (some_in one (count - i) bytes) ≡ total → total ≡ Some (front, bytes)
unfolding some_in
is_done {A = A} one front count i bytes total le so_far =
    let k : count - i ≡ 0 = omega arith in
    let step : with_front front (some_in one (count - i) bytes) ≡ Some (front, bytes) = rw k (ap (λ (xs : List A). taken xs bytes) (append-nil front)) in
    sym so_far ∙ step

-- ---- values with stamps

-- what was read before, and what is still read
abbrev pub with_both : {A : Type 0} → List A → List Stamp → Taken (List A × List Stamp) → Taken (List A × List Stamp)
with_both front before read = read >>= λ x. Some ((front ++ x.0.0, before ++ x.0.1), x.1)

abbrev both_taken : {A : Type 0} → List A → List Stamp → List ℕ → Taken (List A × List Stamp)
both_taken xs stamps rest = Some ((xs, stamps), rest)

regroup_both : {A : Type 0} (front : List A) (before : List Stamp) (x : A) (more : List Stamp) (read : Taken (List A × List Stamp))
    → with_both front before (read >>= λ y. Some ((x ∷ y.0.0, more ++ y.0.1), y.1)) ≡ with_both (front ++ x ∷ []) (before ++ more) read
regroup_both front before x more (Some y) =
    ap (λ xs. both_taken xs (before ++ (more ++ y.0.1)) y.1) (sym (append_assoc front (x ∷ []) y.0.0))
    ∙ ap (λ stamps. both_taken ((front ++ x ∷ []) ++ y.0.0) stamps y.1) (sym (append_assoc before more y.0.1))
regroup_both front before x more None = refl

pub each_goes_on : {A B : Type 0} (stamps : B → List Stamp) (one : Reader (A × B)) (front : List A) (before : List Stamp) (count i : ℕ) (bytes : List ℕ) (x : A) (s : B) (after : List ℕ) (total : Taken (List A × List Stamp))
    → i < count → one bytes ≡ Some ((x, s), after)
    → with_both front before (each_in stamps one (count - i) bytes) ≡ total → with_both (front ++ x ∷ []) (before ++ stamps s) (each_in stamps one (count - (i + 1)) after) ≡ total
unfolding each_in
each_goes_on stamps one front before count i bytes x s after total lt h so_far =
    let k : count - i ≡ suc (count - (i + 1)) = omega arith in
    let step : with_both front before (each_in stamps one (count - i) bytes) ≡ with_both (front ++ x ∷ []) (before ++ stamps s) (each_in stamps one (count - (i + 1)) after) = rw (k, h) (regroup_both front before x (stamps s) (each_in stamps one (count - (i + 1)) after)) in
    sym step ∙ so_far

pub each_ends : {A B : Type 0} (stamps : B → List Stamp) (one : Reader (A × B)) (e : Stop) (front : List A) (before : List Stamp) (count i : ℕ) (bytes : List ℕ) (total : Taken (List A × List Stamp))
    → i < count → Stops e (one bytes) → with_both front before (each_in stamps one (count - i) bytes) ≡ total → Stops e total
unfolding each_in
each_ends stamps one stops.OutOfMemory front before count i bytes total lt h so_far = tt
each_ends stamps one stops.Unread front before count i bytes total lt h so_far =
    let k : count - i ≡ suc (count - (i + 1)) = omega arith in
    let step : with_both front before (each_in stamps one (count - i) bytes) ≡ None = rw (k, h) refl in
    sym so_far ∙ step

pub each_is_done : {A B : Type 0} (stamps : B → List Stamp) (one : Reader (A × B)) (front : List A) (before : List Stamp) (count i : ℕ) (bytes : List ℕ) (total : Taken (List A × List Stamp))
    → count ≤ i → with_both front before (each_in stamps one (count - i) bytes) ≡ total → total ≡ Some ((front, before), bytes)
unfolding each_in
each_is_done stamps one front before count i bytes total le so_far =
    let k : count - i ≡ 0 = omega arith in
    let step : with_both front before (each_in stamps one (count - i) bytes) ≡ Some ((front, before), bytes) =
    rw k (ap (λ xs. both_taken xs (before ++ []) bytes) (append-nil front) ∙ ap (λ stamps. both_taken front stamps bytes) (append-nil before)) in
    sym so_far ∙ step
