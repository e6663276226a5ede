-- What holds of a job by its phase, given for each phase alone.
use Rattle.std.proofs.Common.{◌≡◌, ℕ, true, false, refl, subst, arith}
use Rattle.std.specs.Prelude.{nat_eq}
use Rattle.smk_world.specs.declared.event.Child.{Child}
use Rattle.smk_world.specs.Trees.{IsIn, Each}
use Rattle.smk_laws_protocol.proofs.Views.{EachImage, view_of}
use Rattle.smk_world.specs.World.{World}
use Rattle.smk_base.specs.Place.{mark_place, note_place}
use Rattle.smk_store.specs.Soundness.{Outside}
use Rattle.smk_laws_protocol.specs.Protocol.{Phase, Marking, Marked, Running, Ended, Firm, Recorded, Dropping, Dropped, OpenJob, outputs}
use Rattle.smk_laws_protocol.proofs.Rows.{now}
use Rattle.smk_laws_protocol.proofs.Between.{InPhase, IsFirmly, IsKept, IsActed, HoldsGiven, IsKnown, AreGone}
use Rattle.smk_laws_protocol.proofs.Basics.{each_on, clash}
use Rattle.smk_laws_protocol.proofs.Jobs.{at_phase}

abbrev pub tag : Phase → ℕ
tag Marking = 0
tag Marked = 1
tag (Running n) = 2
tag (Ended n) = 3
tag Firm = 4
tag Recorded = 5
tag Dropping = 6
tag Dropped = 7

-- two different phases
pub unlike : {A : Type 0} (a b : Phase) → (tag_apart : tag a ≡ tag b → ⊥) → a ≡ b → A
unlike a b apart h = absurd (apart (λ i. tag (h i)))

-- two numerals that differ
differ : (a b : ℕ) → nat_eq a b ≡ false → a ≡ b → ⊥
differ a b d h = clash (nat_eq a b) (subst (λ x. nat_eq a x ≡ true) h (self a)) d
  where
    self : (n : ℕ) → nat_eq n n ≡ true
    self n = grind arith

same_number : {m n : ℕ} → Running m ≡ Running n → m ≡ n
same_number h = cc

same_status : {m n : ℕ} → Ended m ≡ Ended n → m ≡ n
same_status h = cc

module _ (o : Outside) (w : World) (j : OpenJob) where
  abbrev pub MarksFirm : Type 0
  MarksFirm = Each (λ p. IsFirmly o w (mark_place p)) (outputs j)

  abbrev pub NotesFirm : Type 0
  NotesFirm = Each (λ p. IsFirmly o w (note_place p)) j.logs

  no : {A : Type 0} → true ≡ false → A
  no h = clash true refl h

  no' : {A : Type 0} → false ≡ true → A
  no' h = clash false h refl

  pub in_marking : IsKept o (now o w) j → InPhase o w (at_phase j Marking)
  in_marking kept =
      record {
        marks = λ h. no' h;
        notes = λ h. no h;
        kept = λ h. kept;
        child = λ n h. unlike Marking (Running n) (λ k. differ 0 2 refl k) h;
        ended = λ h. unlike Marking (Ended 0) (λ k. differ 0 3 refl k) h;
        made = λ h. no' h;
        known = λ h. unlike Marking Recorded (λ k. differ 0 5 refl k) h;
        gone = λ h. unlike Marking Dropped (λ k. differ 0 7 refl k) h;
      }

  pub in_marked : MarksFirm → NotesFirm → IsKept o (now o w) j → InPhase o w (at_phase j Marked)
  in_marked marks notes kept =
      record {
        marks = λ h. marks;
        notes = λ h. notes;
        kept = λ h. kept;
        child = λ n h. unlike Marked (Running n) (λ k. differ 1 2 refl k) h;
        ended = λ h. unlike Marked (Ended 0) (λ k. differ 1 3 refl k) h;
        made = λ h. no' h;
        known = λ h. unlike Marked Recorded (λ k. differ 1 5 refl k) h;
        gone = λ h. unlike Marked Dropped (λ k. differ 1 7 refl k) h;
      }

  pub in_running : (m : ℕ) → MarksFirm → NotesFirm → IsKept o (now o w) j → ((c : Child) × IsIn w.children c × (c.number ≡ m)) → InPhase o w (at_phase j (Running m))
  in_running m marks notes kept child =
      record {
        marks = λ h. marks;
        notes = λ h. notes;
        kept = λ h. kept;
        child = λ n h. subst (λ x. (c : Child) × IsIn w.children c × (c.number ≡ x)) (same_number h) child;
        ended = λ h. unlike (Running m) (Ended 0) (λ k. differ 2 3 refl k) h;
        made = λ h. no' h;
        known = λ h. unlike (Running m) Recorded (λ k. differ 2 5 refl k) h;
        gone = λ h. unlike (Running m) Dropped (λ k. differ 2 7 refl k) h;
      }

  pub in_ended : (m : ℕ) → MarksFirm → NotesFirm → IsKept o (now o w) j → (m ≡ 0 → IsActed o (now o w) j) → InPhase o w (at_phase j (Ended m))
  in_ended m marks notes kept ended =
      record {
        marks = λ h. marks;
        notes = λ h. notes;
        kept = λ h. kept;
        child = λ n h. unlike (Ended m) (Running n) (λ k. differ 3 2 refl k) h;
        ended = λ h. ended (same_status h);
        made = λ h. no' h;
        known = λ h. unlike (Ended m) Recorded (λ k. differ 3 5 refl k) h;
        gone = λ h. unlike (Ended m) Dropped (λ k. differ 3 7 refl k) h;
      }

  pub in_firm : MarksFirm → NotesFirm → IsKept o (now o w) j → EachImage o.read w (λ v. Each (HoldsGiven o (now o w) j v) (outputs j)) → InPhase o w (at_phase j Firm)
  in_firm marks notes kept made =
      record {
        marks = λ h. marks;
        notes = λ h. notes;
        kept = λ h. kept;
        child = λ n h. unlike Firm (Running n) (λ k. differ 4 2 refl k) h;
        ended = λ h. unlike Firm (Ended 0) (λ k. differ 4 3 refl k) h;
        made = λ h. made;
        known = λ h. unlike Firm Recorded (λ k. differ 4 5 refl k) h;
        gone = λ h. unlike Firm Dropped (λ k. differ 4 7 refl k) h;
      }

  pub in_recorded : NotesFirm → IsKept o (now o w) j → EachImage o.read w (λ v. Each (HoldsGiven o (now o w) j v) (outputs j)) → EachImage o.read w (λ v. Each (IsKnown o (now o w) j v) (outputs j)) → InPhase o w (at_phase j Recorded)
  in_recorded notes kept made known =
      record {
        marks = λ h. no' h;
        notes = λ h. notes;
        kept = λ h. kept;
        child = λ n h. unlike Recorded (Running n) (λ k. differ 5 2 refl k) h;
        ended = λ h. unlike Recorded (Ended 0) (λ k. differ 5 3 refl k) h;
        made = λ h. made;
        known = λ h names f rising complete covered leaves. each_on (IsKnown o (now o w) j (view_of o.read names f)) (IsKnown o (now o w) (at_phase j Recorded) (view_of o.read names f))
            (λ p k. record { stands = k.stands; reads = k.reads; lists = k.lists }) (outputs j) (known names f rising complete covered leaves);
        gone = λ h. unlike Recorded Dropped (λ k. differ 5 7 refl k) h;
      }

  pub in_dropping : MarksFirm → NotesFirm → InPhase o w (at_phase j Dropping)
  in_dropping marks notes =
      record {
        marks = λ h. marks;
        notes = λ h. notes;
        kept = λ h. no' h;
        child = λ n h. unlike Dropping (Running n) (λ k. differ 6 2 refl k) h;
        ended = λ h. unlike Dropping (Ended 0) (λ k. differ 6 3 refl k) h;
        made = λ h. no' h;
        known = λ h. unlike Dropping Recorded (λ k. differ 6 5 refl k) h;
        gone = λ h. unlike Dropping Dropped (λ k. differ 6 7 refl k) h;
      }

  pub in_dropped : NotesFirm → EachImage o.read w (AreGone o j) → InPhase o w (at_phase j Dropped)
  in_dropped notes gone =
      record {
        marks = λ h. no' h;
        notes = λ h. notes;
        kept = λ h. no' h;
        child = λ n h. unlike Dropped (Running n) (λ k. differ 7 2 refl k) h;
        ended = λ h. unlike Dropped (Ended 0) (λ k. differ 7 3 refl k) h;
        made = λ h. no' h;
        known = λ h. unlike Dropped Recorded (λ k. differ 7 5 refl k) h;
        gone = λ h. gone;
      }
