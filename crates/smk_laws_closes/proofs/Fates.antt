-- Of the jobs that have begun, once one of them has ended: who has failed, which are open, and that all is at rest.
use Rattle.std.proofs.Common.{◌≡◌, ◌⊎◌, Bool, true, false, ◌||◌, not, List, [], ◌∷◌, ◌++◌, map, filter, refl, sym, ap, subst, ◌∙◌, inl, inr, Option, Some, None, IsTrue, true≢false}
use Rattle.std.specs.Prelude.{if◌then◌else◌}
use Rattle.std.specs.List.{list_all, list_any}
use Rattle.std.specs.List.Sorted.{IsPermutation}
use Rattle.smk_base.specs.Place.{mark_place}
use Rattle.smk_base.proofs.Places.{and_first, and_second}
use Rattle.smk_base.proofs.Under.{both_true, or_cases, or_first, or_second}
use Rattle.smk_world.specs.Trees.{IsIn}
use Rattle.smk_world.specs.World.{World, out_paths}
use Rattle.smk_flow.specs.declared.job.Job.{Job}
use Rattle.smk_plan.specs.States.{job_path}
use Rattle.smk_pick.specs.declared.room.Ask.{Ask}
use Rattle.smk_report.specs.Lines.{Ending}
use Rattle.smk_drive.specs.Lawful.{ask_of, is_good_end}
use Rattle.smk_drive.specs.Moments.{Begun, is_closed, is_gone, is_rest, runs}
use Rattle.smk_laws_protocol.proofs.Basics.{in_rest, in_split}
use Rattle.smk_laws_turns.specs.Hubs.{AreOnce, AreOpen}
use Rattle.smk_laws_closes.proofs.Around.{IsSplit, with_end}
use Rattle.smk_laws_closes.proofs.Shuffled.{one_less}

-- ## Lists

filter_both : {A : Type 0} (f : A → Bool) (xs ys : List A) → filter f (xs ++ ys) ≡ filter f xs ++ filter f ys
filter_both f [] ys = refl
filter_both f (x ∷ xs) ys = go (f x) (filter_both f xs ys)
  where
    go :
        (b : Bool) → filter f (xs ++ ys) ≡ filter f xs ++ filter f ys →
        (if b then x ∷ filter f (xs ++ ys) else filter f (xs ++ ys)) ≡ (if b then x ∷ filter f xs else filter f xs) ++ filter f ys
    go true h = ap (λ zs. x ∷ zs) h
    go false h = h

filter_same : {A : Type 0} (f g : A → Bool) (xs : List A) → ((x : A) → IsIn xs x → f x ≡ g x) → filter f xs ≡ filter g xs
filter_same f g [] same = refl
filter_same f g (x ∷ xs) same = λ i. if same x (inl refl) i then x ∷ filter_same f g xs (λ y k. same y (inr k)) i else filter_same f g xs (λ y k. same y (inr k)) i

map_both : {A B : Type 0} (f : A → B) (xs ys : List A) → map f (xs ++ ys) ≡ map f xs ++ map f ys
map_both f [] ys = refl
map_both f (x ∷ xs) ys = ap (λ zs. f x ∷ zs) (map_both f xs ys)

in_front : {A : Type 0} (xs ys : List A) (x : A) → IsIn xs x → IsIn (xs ++ ys) x
in_front [] ys x i = absurd i
in_front (y ∷ xs) ys x (inl e) = inl e
in_front (y ∷ xs) ys x (inr i) = inr (in_front xs ys x i)

in_back : {A : Type 0} (xs ys : List A) (x : A) → IsIn ys x → IsIn (xs ++ ys) x
in_back [] ys x i = i
in_back (y ∷ xs) ys x i = inr (in_back xs ys x i)

-- ## What runs

abbrev asks_of : World → List Begun → List Ask
asks_of w bs = map ask_of (map (λ (k : Begun). k.job) (filter (λ (k : Begun). runs w k.job) bs))

asks_both : (w : World) (xs ys : List Begun) → asks_of w (xs ++ ys) ≡ asks_of w xs ++ asks_of w ys
asks_both w xs ys =
    ap (λ zs. map ask_of (map (λ (k : Begun). k.job) zs)) (filter_both (λ (k : Begun). runs w k.job) xs ys)
    ∙ (ap (map ask_of) (map_both (λ (k : Begun). k.job) (filter (λ (k : Begun). runs w k.job) xs) (filter (λ (k : Begun). runs w k.job) ys))
    ∙ map_both ask_of (map (λ (k : Begun). k.job) (filter (λ (k : Begun). runs w k.job) xs)) (map (λ (k : Begun). k.job) (filter (λ (k : Begun). runs w k.job) ys)))

asks_same : (w v : World) (bs : List Begun) → ((k : Begun) → IsIn bs k → runs v k.job ≡ runs w k.job) → asks_of v bs ≡ asks_of w bs
asks_same w v bs stay =
    ap (λ zs. map ask_of (map (λ (k : Begun). k.job) zs)) (filter_same (λ (k : Begun). runs v k.job) (λ (k : Begun). runs w k.job) bs stay)

asks_first : (w : World) (b : Begun) (bs : List Begun) → runs w b.job ≡ true → asks_of w (b ∷ bs) ≡ ask_of b.job ∷ asks_of w bs
asks_first w b bs ran =
    ap (λ (t : Bool). map ask_of (map (λ (k : Begun). k.job) (if t then b ∷ filter (λ (k : Begun). runs w k.job) bs else filter (λ (k : Begun). runs w k.job) bs))) ran

asks_none : (w : World) (b : Begun) (bs : List Begun) → runs w b.job ≡ false → asks_of w (b ∷ bs) ≡ asks_of w bs
asks_none w b bs ended =
    ap (λ (t : Bool). map ask_of (map (λ (k : Begun). k.job) (if t then b ∷ filter (λ (k : Begun). runs w k.job) bs else filter (λ (k : Begun). runs w k.job) bs))) ended

module _ (w v : World) (begun now : List Begun) (b : Begun) (e : Ending) (s : IsSplit w v begun now b e) where
  were_asks : asks_of w begun ≡ asks_of w s.front ++ ask_of b.job ∷ asks_of w s.back
  were_asks = ap (asks_of w) s.were ∙ (asks_both w s.front (b ∷ s.back) ∙ ap (λ zs. asks_of w s.front ++ zs) (asks_first w b s.back s.ran))

  are_asks : asks_of v now ≡ asks_of w s.front ++ asks_of w s.back
  are_asks =
      ap (asks_of v) s.are
      ∙ (asks_both v s.front (with_end b e ∷ s.back)
      ∙ (ap (λ zs. asks_of v s.front ++ zs) (asks_none v (with_end b e) s.back s.ended)
      ∙ (λ i.
      asks_same w v s.front (λ k j. s.stay k (in_front s.front s.back k j)) i
      ++ asks_same w v s.back (λ k j. s.stay k (in_back s.front s.back k j)) i)))

  -- the room's asks are those of the jobs that run, where the ask of the one is taken from them
  pub asks_left : (ps qs : List Ask) → IsPermutation (ps ++ ask_of b.job ∷ qs) (asks_of w begun) → IsPermutation (ps ++ qs) (asks_of v now)
  asks_left ps qs h =
      subst (IsPermutation (ps ++ qs)) (sym are_asks)
      (one_less (ask_of b.job) ps qs (asks_of w s.front) (asks_of w s.back) (subst (IsPermutation (ps ++ ask_of b.job ∷ qs)) were_asks h))

  -- ## Who has failed

  abbrev is_bad : Begun → Bool
  is_bad k = not (is_good_end k.ended)

  any_both : (xs ys : List Begun) → list_any is_bad (xs ++ ys) ≡ (list_any is_bad xs || list_any is_bad ys)
  any_both [] ys = refl
  any_both (x ∷ xs) ys = ap (λ c. is_bad x || c) (any_both xs ys) ∙ either (is_bad x) (list_any is_bad xs) (list_any is_bad ys)
    where
      either : (p q r : Bool) → (p || (q || r)) ≡ ((p || q) || r)
      either true q r = refl
      either false q r = refl

  pub fails_with : b.ended ≡ None → list_any is_bad now ≡ (list_any is_bad begun || not (is_good_end (Some e)))
  fails_with open_still =
      ap (list_any is_bad) s.are
      ∙ (any_both s.front (with_end b e ∷ s.back)
      ∙ (turned (list_any is_bad s.front) (not (is_good_end (Some e))) (list_any is_bad s.back)
      ∙ ap (λ c. c || not (is_good_end (Some e)))
      (sym
      (ap (list_any is_bad) s.were
      ∙ (any_both s.front (b ∷ s.back)
      ∙ ap (λ (o : Option Ending). list_any is_bad s.front || (not (is_good_end o) || list_any is_bad s.back)) open_still)))))
    where
      turned : (p q r : Bool) → (p || (q || r)) ≡ ((p || r) || q)
      turned true q r = refl
      turned false true true = refl
      turned false true false = refl
      turned false false true = refl
      turned false false false = refl

  -- ## Names, and who is open

  pub still_once : AreOnce begun → AreOnce now
  still_once once = subst AreOnce (sym s.are) (go s.front (subst AreOnce s.were once))
    where
      in_with : (front : List Begun) (k : Begun) → IsIn (front ++ with_end b e ∷ s.back) k → (m : Begun) × IsIn (front ++ b ∷ s.back) m × (m.job ≡ k.job)
      in_with [] k (inl i) = (b, inl refl, sym (ap (λ (x : Begun). x.job) i))
      in_with [] k (inr i) = (k, inr i, refl)
      in_with (x ∷ front) k (inl i) = (k, inl i, refl)
      in_with (x ∷ front) k (inr i) = let m = in_with front k i in (m.0, inr m.1, m.2)

      go : (front : List Begun) → AreOnce (front ++ b ∷ s.back) → AreOnce (front ++ with_end b e ∷ s.back)
      go [] h = h
      go (x ∷ front) h =
          (λ k i. let m = in_with front k i in subst (λ (j : Job). ¬ (job_path j ≡ job_path x.job)) m.2 (h.0 m.0 m.1), go front h.1)

  pub still_open : AreOpen w begun → AreOpen v now
  still_open open_before k i running =
      go (in_split s.front s.back (with_end b e) k (subst (λ ks. IsIn ks k) s.are i))
    where
      go : (k ≡ with_end b e) ⊎ IsIn (s.front ++ s.back) k → k.ended ≡ None
      go (inl same) = absurd (true≢false (sym running ∙ (ap (λ (x : Begun). runs v x.job) same ∙ s.ended)))
      go (inr j) =
          open_before k (subst (λ ks. IsIn ks k) (sym s.were) (in_rest s.front s.back b k j)) (sym (s.stay k j) ∙ running)

  -- ## Rests

  all_both : (f : Begun → Bool) (xs ys : List Begun) → list_all f xs ≡ true → list_all f ys ≡ true → list_all f (xs ++ ys) ≡ true
  all_both f [] ys h k = k
  all_both f (x ∷ xs) ys h k = both_true (f x) (list_all f (xs ++ ys)) (and_first (f x) (list_all f xs) h) (all_both f xs ys (and_second (f x) (list_all f xs) h) k)

  all_front : (f : Begun → Bool) (xs ys : List Begun) → list_all f (xs ++ ys) ≡ true → list_all f xs ≡ true
  all_front f [] ys h = refl
  all_front f (x ∷ xs) ys h = both_true (f x) (list_all f xs) (and_first (f x) (list_all f (xs ++ ys)) h) (all_front f xs ys (and_second (f x) (list_all f (xs ++ ys)) h))

  all_back : (f : Begun → Bool) (xs ys : List Begun) → list_all f (xs ++ ys) ≡ true → list_all f ys ≡ true
  all_back f [] ys h = h
  all_back f (x ∷ xs) ys h = all_back f xs ys (and_second (f x) (list_all f (xs ++ ys)) h)

  abbrev rests : World → Begun → Bool
  rests x k = runs x k.job || is_closed x k

  all_still : (bs : List Begun) → ((k : Begun) → IsIn bs k → rests w k ≡ true → rests v k ≡ true) → list_all (rests w) bs ≡ true → list_all (rests v) bs ≡ true
  all_still [] still h = refl
  all_still (k ∷ bs) still h =
      both_true (rests v k) (list_all (rests v) bs) (still k (inl refl) (and_first (rests w k) (list_all (rests w) bs) h))
      (all_still bs (λ x i. still x (inr i)) (and_second (rests w k) (list_all (rests w) bs) h))

  pub rests_again :
      list_all (λ p. is_gone (v.nodes (mark_place p))) (out_paths b.job.recipe) ≡ true →
      ((k : Begun) → IsIn (s.front ++ s.back) k → is_closed w k ≡ true → is_closed v k ≡ true) →
      IsTrue (is_rest w begun) → IsTrue (is_rest v now)
  rests_again gone closed rest =
      let before : list_all (rests w) (s.front ++ b ∷ s.back) ≡ true = subst (λ bs. list_all (rests w) bs ≡ true) s.were rest in
      subst (λ bs. list_all (rests v) bs ≡ true) (sym s.are)
      (all_both (rests v) s.front (with_end b e ∷ s.back)
      (all_still s.front (λ k i. still k (in_front s.front s.back k i)) (all_front (rests w) s.front (b ∷ s.back) before))
      (both_true (rests v (with_end b e)) (list_all (rests v) s.back) (or_second (runs v b.job) (is_closed v (with_end b e)) gone)
      (all_still s.back (λ k i. still k (in_back s.front s.back k i))
      (and_second (rests w b) (list_all (rests w) s.back) (all_back (rests w) s.front (b ∷ s.back) before)))))
    where
      still : (k : Begun) → IsIn (s.front ++ s.back) k → rests w k ≡ true → rests v k ≡ true
      still k i h = go (or_cases (runs w k.job) (is_closed w k) h)
        where
          go : (runs w k.job ≡ true) ⊎ (is_closed w k ≡ true) → rests v k ≡ true
          go (inl r) = or_first (runs v k.job) (is_closed v k) (s.stay k i ∙ r)
          go (inr c) = or_second (runs v k.job) (is_closed v k) (closed k i c)
