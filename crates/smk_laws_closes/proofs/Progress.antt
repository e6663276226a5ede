-- What has begun and runs once a child has ended, as far as names and counts tell.
use Rattle.std.proofs.Common.{◌≡◌, Bool, true, false, List, [], ◌∷◌, ◌++◌, map, filter, length, refl, sym, ap, ◌∙◌, inl, inr, bytes_eq, suc, Option, Some, None, option_map, true≢false}
use Rattle.std.specs.Prelude.{if◌then◌else◌, cond}
use Rattle.std.specs.List.{find}
use Rattle.smk_base.proofs.Places.{same_place}
use Rattle.smk_base.proofs.Under.{false_unless}
use Rattle.smk_world.specs.Trees.{IsIn, Path, among}
use Rattle.smk_world.specs.World.{World}
use Rattle.smk_trigger.specs.declared.reason.State.{State}
use Rattle.smk_plan.specs.States.{job_path}
use Rattle.smk_report.specs.Lines.{Ending}
use Rattle.smk_drive.specs.Moments.{Begun, Rules, draws, progress_of, runs}
use Rattle.smk_laws_turns.specs.Progressing.{IsEnded, state_in}
use Rattle.smk_laws_closes.proofs.Around.{IsSplit, with_end}

-- ## Names

same_names : (front back : List Begun) (b : Begun) (e : Ending) →
    map (λ (k : Begun). job_path k.job) (front ++ with_end b e ∷ back) ≡ map (λ (k : Begun). job_path k.job) (front ++ b ∷ back)
same_names [] back b e = refl
same_names (k ∷ front) back b e = ap (λ ns. job_path k.job ∷ ns) (same_names front back b e)

-- the state of the one of this name that runs, among these
abbrev state_of : World → List Begun → Path → Option State
state_of w bs n = state_in (map (λ (b : Begun). (job_path b.job, b.state)) (filter (λ (b : Begun). runs w b.job) bs)) n

abbrev named : Path → Path × State → Bool
named n e = bytes_eq e.0 n

abbrev entry : Begun → Path × State
entry b = (job_path b.job, b.state)

abbrev running : World → List Begun → List Begun
running w bs = filter (λ (b : Begun). runs w b.job) bs

skipped : (w : World) (k : Begun) (bs : List Begun) (n : Path) → runs w k.job ≡ false → state_of w (k ∷ bs) n ≡ state_of w bs n
skipped w k bs n e = ap (λ (r : Bool). state_in (map entry (if r then k ∷ running w bs else running w bs)) n) e

passed : (w : World) (k : Begun) (bs : List Begun) (n : Path) → runs w k.job ≡ true → bytes_eq (job_path k.job) n ≡ false → state_of w (k ∷ bs) n ≡ state_of w bs n
passed w k bs n e other =
    ap (λ (r : Bool). state_in (map entry (if r then k ∷ running w bs else running w bs)) n) e
    ∙ ap (λ (r : Bool). option_map (λ (x : Path × State). x.1) (cond r (Some (entry k)) (find (named n) (map entry (running w bs))))) other

met : (w : World) (k : Begun) (bs : List Begun) (n : Path) → runs w k.job ≡ true → bytes_eq (job_path k.job) n ≡ true → state_of w (k ∷ bs) n ≡ Some k.state
met w k bs n e its =
    ap (λ (r : Bool). state_in (map entry (if r then k ∷ running w bs else running w bs)) n) e
    ∙ ap (λ (r : Bool). option_map (λ (x : Path × State). x.1) (cond r (Some (entry k)) (find (named n) (map entry (running w bs))))) its

-- one of another name than this
other_name : (n : Path) (k b : Begun) → ¬ (job_path k.job ≡ job_path b.job) → bytes_eq (job_path b.job) n ≡ true → bytes_eq (job_path k.job) n ≡ false
other_name n k b other its =
    false_unless (bytes_eq (job_path k.job) n) (λ same. other (same_place (job_path k.job) n same ∙ sym (same_place (job_path b.job) n its)))

none_named : (w : World) (b : Begun) (n : Path) (bs : List Begun) → ((k : Begun) → IsIn bs k → ¬ (job_path k.job ≡ job_path b.job)) →
    bytes_eq (job_path b.job) n ≡ true → state_of w bs n ≡ None
none_named w b n [] others its = refl
none_named w b n (k ∷ bs) others its = go (runs w k.job) refl (none_named w b n bs (λ x i. others x (inr i)) its)
  where
    go : (r : Bool) → runs w k.job ≡ r → state_of w bs n ≡ None → state_of w (k ∷ bs) n ≡ None
    go true e rest = passed w k bs n e (other_name n k b (others k (inl refl)) its) ∙ rest
    go false e rest = skipped w k bs n e ∙ rest

-- the others run as before
same_states : (w v : World) (n : Path) (bs : List Begun) → ((k : Begun) → IsIn bs k → runs v k.job ≡ runs w k.job) → state_of v bs n ≡ state_of w bs n
same_states w v n [] stay = refl
same_states w v n (k ∷ bs) stay = go (runs w k.job) refl (bytes_eq (job_path k.job) n) refl (same_states w v n bs (λ x i. stay x (inr i)))
  where
    go :
        (r : Bool) → runs w k.job ≡ r → (m : Bool) → bytes_eq (job_path k.job) n ≡ m → state_of v bs n ≡ state_of w bs n →
        state_of v (k ∷ bs) n ≡ state_of w (k ∷ bs) n
    go true e true g rest = met v k bs n (stay k (inl refl) ∙ e) g ∙ sym (met w k bs n e g)
    go true e false g rest = passed v k bs n (stay k (inl refl) ∙ e) g ∙ (rest ∙ sym (passed w k bs n e g))
    go false e m g rest = skipped v k bs n (stay k (inl refl) ∙ e) ∙ (rest ∙ sym (skipped w k bs n e))

module _ (w v : World) (b : Begun) (e : Ending) (n : Path) (ran : runs w b.job ≡ true) (ended : runs v b.job ≡ false) where
  abbrev unless_its : Bool → Option State → Option State
  unless_its t o = if t then None else o

  one_less :
      (front back : List Begun) → ((k : Begun) → IsIn (front ++ back) k → ¬ (job_path k.job ≡ job_path b.job)) →
      ((k : Begun) → IsIn (front ++ back) k → runs v k.job ≡ runs w k.job) → (t : Bool) → bytes_eq (job_path b.job) n ≡ t →
      state_of v (front ++ with_end b e ∷ back) n ≡ unless_its t (state_of w (front ++ b ∷ back) n)
  one_less [] back others stay true its =
      skipped v (with_end b e) back n ended ∙ none_named v b n back others its
  one_less [] back others stay false its =
      skipped v (with_end b e) back n ended ∙ (same_states w v n back stay ∙ sym (passed w b back n ran its))
  one_less (k ∷ front) back others stay t its =
      go (runs w k.job) refl (bytes_eq (job_path k.job) n) refl t its
      (one_less front back (λ x i. others x (inr i)) (λ x i. stay x (inr i)) t its)
    where
      here : runs v k.job ≡ runs w k.job
      here = stay k (inl refl)

      go :
          (r : Bool) → runs w k.job ≡ r → (m : Bool) → bytes_eq (job_path k.job) n ≡ m → (t : Bool) → bytes_eq (job_path b.job) n ≡ t →
          state_of v (front ++ with_end b e ∷ back) n ≡ unless_its t (state_of w (front ++ b ∷ back) n) →
          state_of v (k ∷ (front ++ with_end b e ∷ back)) n ≡ unless_its t (state_of w (k ∷ (front ++ b ∷ back)) n)
      go false r m g t its rest =
          skipped v k (front ++ with_end b e ∷ back) n (here ∙ r) ∙ (rest ∙ ap (unless_its t) (sym (skipped w k (front ++ b ∷ back) n r)))
      go true r false g t its rest =
          passed v k (front ++ with_end b e ∷ back) n (here ∙ r) g ∙ (rest ∙ ap (unless_its t) (sym (passed w k (front ++ b ∷ back) n r g)))
      go true r true g true its rest = absurd (true≢false (sym g ∙ other_name n k b (others k (inl refl)) its))
      go true r true g false its rest = met v k (front ++ with_end b e ∷ back) n (here ∙ r) g ∙ sym (met w k (front ++ b ∷ back) n r g)

pub ends_progress : (w v : World) (begun now : List Begun) (b : Begun) (e : Ending) → IsSplit w v begun now b e → IsEnded b.job (progress_of w begun) (progress_of v now)
ends_progress w v begun now b e s =
    record {
      begun = λ n.
          ap (λ ns. among ns n)
          (ap (map (λ (k : Begun). job_path k.job)) s.are
          ∙ (same_names s.front s.back b e ∙ ap (map (λ (k : Begun). job_path k.job)) (sym s.were)));
      running = λ n.
          ap (λ bs. state_of v bs n) s.are
          ∙ (one_less w v b e n s.ran s.ended s.front s.back s.others s.stay (bytes_eq (job_path b.job) n) refl
          ∙ ap (λ bs. if bytes_eq (job_path b.job) n then None else state_of w bs n) (sym s.were));
    }

-- ## Counts

filter_with : (rules : Rules) (b : Begun) (e : Ending) (back : List Begun) → length (filter (draws rules) (with_end b e ∷ back)) ≡ length (filter (draws rules) (b ∷ back))
filter_with rules b e back = go (draws rules b)
  where
    go : (t : Bool) → length (if t then with_end b e ∷ filter (draws rules) back else filter (draws rules) back)
        ≡ length (if t then b ∷ filter (draws rules) back else filter (draws rules) back)
    go true = refl
    go false = refl

pub same_draws : (rules : Rules) (front back : List Begun) (b : Begun) (e : Ending) →
    length (filter (draws rules) (front ++ with_end b e ∷ back)) ≡ length (filter (draws rules) (front ++ b ∷ back))
same_draws rules [] back b e = filter_with rules b e back
same_draws rules (k ∷ front) back b e = go (draws rules k) (same_draws rules front back b e)
  where
    go :
        (t : Bool) → length (filter (draws rules) (front ++ with_end b e ∷ back)) ≡ length (filter (draws rules) (front ++ b ∷ back)) →
        length (if t then k ∷ filter (draws rules) (front ++ with_end b e ∷ back) else filter (draws rules) (front ++ with_end b e ∷ back))
        ≡ length (if t then k ∷ filter (draws rules) (front ++ b ∷ back) else filter (draws rules) (front ++ b ∷ back))
    go true h = ap suc h
    go false h = h
