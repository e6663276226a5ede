-- What a run keeps and takes away, by computation.
use Rattle.std.proofs.Common.{◌≡◌, ◌⊎◌, ℕ, Bool, true, false, ◌||◌, not, List, [], Option, Some, None, refl, sym, subst, true≢false, inl, inr}
use Rattle.std.specs.List.{list_all}
use Rattle.smk_world.specs.declared.event.Event.{Event}
use Rattle.smk_world.specs.declared.event.Call.{Call}
use Rattle.smk_world.specs.declared.event.Call.TheVariants.{Removed}
use Rattle.smk_world.specs.World.{World, IsFormed, run}
use Rattle.smk_world.specs.Trees.{Path}
use Rattle.smk_store.specs.Images.{Content, file_at}
use Rattle.smk_drive.specs.Moments.{Rules, Moment, Begun, seen, is_spent_now, is_closed_well}
use Rattle.smk_drive_course.specs.Keeping.{KeepsOutputs, Spends, IsSettled as IsSettledAt, AreProtected, has_start}
use Rattle.smk_drive_rows.proofs.Truth.{not_both, each_true, at_each as at_each_of}
use Rattle.smk_drive_rows.proofs.Logs.{IsSettled, first_moment, last, at_the_end, Holds, all_events, at_each, by_tests}

module _ (rules : Rules) (entry : World) where
  -- the call takes away what is spent
  abbrev pub spends : Moment → Call → Bool
  spends m (Removed p r) = is_spent_now rules m p
  spends m call = false

  unspent : (P : Path → Type 0) (m : Moment) (c : Call) → not (spends m c) ≡ true → Spends rules m c P
  unspent P m (Removed p r) h = λ k. absurd (not_both (is_spent_now rules m p) h k)
  unspent P m c h = tt

  spent_so : (P : Path → Type 0) (m : Moment) (c : Call) → ((p : Path) → P p) → Spends rules m c P
  spent_so P m (Removed p r) h = λ k. h p
  spent_so P m c h = tt

  -- in a log with a start what is spent goes after the first
  abbrev late_ok : Bool → Moment → Event → Bool
  late_ok starts m e = not (spends m e.call) || (has_start m.events || not starts)

  abbrev Late : List Event → Moment → Path → Type 0
  Late log m p = (has_start m.events ≡ true) ⊎ (has_start log ≡ false)

  late_so : (log : List Event) (m : Moment) (e : Event) → late_ok (has_start log) m e ≡ true → Spends rules m e.call (Late log m)
  late_so log m e t = go (spends m e.call) refl (has_start m.events) refl (has_start log) refl t
    where
      go :
          (s : Bool) → spends m e.call ≡ s → (b : Bool) → has_start m.events ≡ b → (l : Bool) → has_start log ≡ l →
          (not s || (b || not l)) ≡ true → Spends rules m e.call (Late log m)
      go false none b f l g t = unspent (Late log m) m e.call (subst (λ c. not c ≡ true) (sym none) refl)
      go true some true f l g t = spent_so (Late log m) m e.call (λ p. inl f)
      go true some false f false g t = spent_so (Late log m) m e.call (λ p. inr g)
      go true some false f true g t = absurd (true≢false (sym t))

  -- ## Protected outputs

  abbrev is_kept : Option Content → Bool
  is_kept None = true
  is_kept (Some f) = f.read_only

  abbrev guards_kept : Moment → Begun → Bool
  guards_kept m b = not (is_closed_well rules m.world b) || list_all (λ (p : Path). is_kept (file_at (seen rules m.world) p)) b.job.guards

  kept_so : (x : Option Content) (f : Content) → is_kept x ≡ true → x ≡ Some f → f.read_only ≡ true
  kept_so x f t e = subst (λ y. is_kept y ≡ true) e t

  guarded : (m : Moment) → list_all (guards_kept m) m.begun ≡ true → AreProtected rules m
  guarded m t b p f is closed guard there =
      let ok = at_each_of (λ (c : Begun). guards_kept m c ≡ true) m.begun b (each_true (guards_kept m) (λ (c : Begun). guards_kept m c ≡ true) (λ c h. h) m.begun t) is in
      let all = subst (λ c. (not c || list_all (λ (q : Path). is_kept (file_at (seen rules m.world) q)) b.job.guards) ≡ true) closed ok in
      kept_so (file_at (seen rules m.world) p) f
      (at_each_of (λ (q : Path). is_kept (file_at (seen rules m.world) q) ≡ true) b.job.guards p
      (each_true (λ (q : Path). is_kept (file_at (seen rules m.world) q)) (λ (q : Path). is_kept (file_at (seen rules m.world) q) ≡ true) (λ q h. h) b.job.guards all) guard) there

  -- ## All of it

  -- What is computed of a log; that what is spent is settled at the end is shown beside.
  pub record Keeps (log : List Event) : Type 0 where
    pub late : all_events rules entry (late_ok (has_start log)) [] (first_moment rules entry) log ≡ true
    pub settled :
        Holds rules entry (λ m e. not (spends m e.call)) (λ m e. Spends rules m e.call (IsSettledAt (run entry log))) [] (first_moment rules entry) log
    pub protected : list_all (guards_kept (last rules entry log)) (last rules entry log).begun ≡ true

  pub keeps : IsFormed entry → (log : List Event) (status : ℕ) → IsSettled rules entry log → Keeps log → KeepsOutputs rules entry log status
  keeps formed log status s k =
      record {
        late = by_tests rules entry (late_ok (has_start log)) (λ m e. Spends rules m e.call (Late log m)) (late_so log) formed log s k.late;
        settled = λ low.
            at_each rules entry (λ m e. not (spends m e.call)) (λ m e. Spends rules m e.call (IsSettledAt (run entry log)))
            (λ m e h. unspent (IsSettledAt (run entry log)) m e.call h) formed log s k.settled;
        protected = λ low. at_the_end rules entry formed log s (AreProtected rules) (guarded (last rules entry log) k.protected);
      }
