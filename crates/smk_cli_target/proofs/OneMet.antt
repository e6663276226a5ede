-- A call meets one first refusal.
use Rattle.std.proofs.Common.{◌≡◌, ◌⊎◌, Bool, true, false, not, ◌||◌, List, [], ◌∷◌, Some, refl, sym, ap, subst, inl, inr, ◌∙◌, IsTrue, true≢false}
use Rattle.std.proofs.lemmas.Option.{same_Some, none-some}
use Rattle.smk_world.specs.declared.event.Event.{Event}
use Rattle.smk_world.specs.World.{World, IsFormed}
use Rattle.smk_world.specs.Trees.{Path}
use Rattle.smk_pattern.specs.Shapes.{Text}
use Rattle.smk_flow.specs.Flows.{Flow}
use Rattle.smk_record.specs.Reading.{record_in}
use Rattle.smk_plan.specs.States.{nothing_done}
use Rattle.smk_report.specs.declared.fault.Fault.{Fault}
use Rattle.smk_report.specs.declared.fault.Fault.TheVariants as fault
use Rattle.smk_laws_history.proofs.CurrentComplete.{seen_is_complete}
use Rattle.smk_drive.specs.Moments.{Rules}
use Rattle.smk_drive.specs.Refusals.{ChainRefuses}
use Rattle.smk_drive_course.specs.Refusals.{IsSameFault, RunRefuses}
use Rattle.smk_drive_course.proofs.OneRefusal.{one_chain_refusal, one_refusal}
use Rattle.smk_words_reading.specs.declared.asked.Asked.{Asked}
use Rattle.smk_words_reading.specs.declared.asked.Asked.TheVariants.{Run, Preview, Unlock, Forget, Generate}
use Rattle.smk_words_reading.specs.declared.asked.RunWords.{RunWords}
use Rattle.smk_words_reading.specs.Asks.{AreUnread, IsAsked, LacksCores}
use Rattle.smk_words_reading.proofs.Whole.{none_asked_without_cores, one_asked}
use Rattle.smk_cli_target.specs.Files.{FailsToRead, GoesBy, ReadsAs, bad_target, rules_of, seen}
use Rattle.smk_cli_target.specs.Refusing.{AsksToMake, AtOnce, CoresRefuse, FilesRefuse, LockRefusesForgetting, LockRefusesRun, MeetsOne, OfListing, OfRun, Refuses, RefusesAtOnce, StampRefuses, TargetRefuses, WordsRefuse, is_let_in, seen_in_turn}
use Rattle.smk_cli_target.proofs.FirstFault.{one_first_fault}
use Rattle.smk_cli_target.proofs.OneWorkflow.{no_faulty_workflow, one_workflow}

locked_out : (nolock locked : Bool) → nolock ≡ false → locked ≡ true → (nolock || not locked) ≡ true → ⊥
locked_out true locked n l h = true≢false n
locked_out false true n l h = true≢false (sym h)
locked_out false false n l h = true≢false (sym l)

-- the first of a list
first_is : (p q : Path) (ps qs : List Path) → p ∷ ps ≡ q ∷ qs → p ≡ q
first_is p q ps qs h = cc

module _ (words : List Text) (entry : World) (log : List Event) (formed : IsFormed entry) where
  -- ## What the files and the targets refuse

  abbrev Reading : RunWords → Fault → Type 0
  Reading w f =
      FailsToRead w entry f
      ⊎ ((flow : Flow) × (word : Text) × ReadsAs w entry flow × (bad_target flow w ≡ Some word) × (f ≡ fault.BadTarget word))

  reading_one : (w : RunWords) (f g : Fault) → Reading w f → Reading w g → f ≡ g
  reading_one w f g (inl x) (inl y) = one_first_fault w entry f g x y
  reading_one w f g (inl x) (inr (flow, word, reads, bad, is)) = absurd (no_faulty_workflow w entry flow f reads x)
  reading_one w f g (inr (flow, word, reads, bad, is)) (inl y) = absurd (no_faulty_workflow w entry flow g reads y)
  reading_one w f g (inr (flow, word, reads, bad, is)) (inr (flow2, word2, reads2, bad2, is2)) =
      let flows = one_workflow w entry flow flow2 reads reads2 in
      let same = same_Some word word2 (sym bad ∙ (ap (λ x. bad_target x w) flows ∙ bad2)) in is ∙ (ap fault.BadTarget same ∙ sym is2)

  reading_or_goes : (w : RunWords) (f : Fault) (rules : Rules) → Reading w f → GoesBy w entry rules → ⊥
  reading_or_goes w f rules (inl x) by = no_faulty_workflow w entry by.flow f by.reads x
  reading_or_goes w f rules (inr (flow, word, reads, bad, is)) by =
      none-some word (sym by.targets ∙ (ap (λ x. bad_target x w) (one_workflow w entry by.flow flow by.reads reads) ∙ bad))

  rules_one : (w : RunWords) (r s : Rules) → GoesBy w entry r → GoesBy w entry s → r ≡ s
  rules_one w r s a b = a.rules_are ∙ (ap (λ x. rules_of x w) (one_workflow w entry a.flow b.flow a.reads b.reads) ∙ sym b.rules_are)

  -- ## What is met of each command

  abbrev Locked : Bool → Fault → Type 0
  Locked nolock f = (nolock ≡ false) × ((seen entry).locked ≡ true) × (f ≡ fault.Locked)

  abbrev OfRunning : RunWords → Fault → Type 0
  OfRunning w f =
      Reading w f
      ⊎ ((rules : Rules) × GoesBy w entry rules × Locked w.nolock f)
      ⊎ ((rules : Rules) × GoesBy w entry rules × IsTrue (is_let_in w.nolock entry) × RunRefuses rules entry log f)

  abbrev OfPreview : RunWords → Fault → Type 0
  OfPreview w f = Reading w f ⊎ ((rules : Rules) × GoesBy w entry rules × ChainRefuses rules (seen entry) nothing_done [] f)

  abbrev OfPaths : List Path → Bool → Fault → Type 0
  OfPaths paths nolock f =
      Locked nolock f
      ⊎ ((q : Path) × (rest : List Path) × IsTrue (is_let_in nolock entry) × (seen_in_turn (seen entry) paths ≡ q ∷ rest) × (f ≡ fault.StampSeen q))

  abbrev OfAsked : Asked → Fault → Type 0
  OfAsked (Run w) f = OfRunning w f
  OfAsked (Preview w) f = OfPreview w f
  OfAsked Unlock f = ⊥
  OfAsked (Forget paths nolock) f = OfPaths paths nolock f
  OfAsked (Generate seed size) f = ⊥

  abbrev Met : Fault → Type 0
  Met f = (AreUnread words × (f ≡ fault.BadWords)) ⊎ (LacksCores words × (f ≡ fault.NoCores)) ⊎ ((a : Asked) × IsAsked words a × OfAsked a f)

  made : (w : RunWords) (f : Fault) → AsksToMake words w → Reading w f → Met f
  made w f (inl run) x = inr (inr (Run w, run, inl x))
  made w f (inr list) x = inr (inr (Preview w, list, inl x))

  met_at_once : (f : Fault) → RefusesAtOnce words entry f → Met f
  met_at_once f (WordsRefuse unread) = inl (unread, refl)
  met_at_once f (CoresRefuse lacks) = inr (inl (lacks, refl))
  met_at_once f (FilesRefuse w f1 asks fails) = made w f asks (inl fails)
  met_at_once f (TargetRefuses w flow word asks reads bad) = made w f asks (inr (flow, word, reads, bad, refl))
  met_at_once f (LockRefusesRun w rules asked by heeds locked) = inr (inr (Run w, asked, inr (inl (rules, by, (heeds, locked, refl)))))
  met_at_once f (LockRefusesForgetting paths asked locked) = inr (inr (Forget paths false, asked, inl (refl, locked, refl)))

  met : (f : Fault) → Refuses words entry log f → Met f
  met f (AtOnce f1 x) = met_at_once f x
  met f (StampRefuses paths nolock q rest asked enters is) = inr (inr (Forget paths nolock, asked, inr (q, rest, enters, is, refl)))
  met f (OfRun w rules f1 asked by enters refuses) = inr (inr (Run w, asked, inr (inr (rules, by, enters, refuses))))
  met f (OfListing w rules f1 asked by refuses) = inr (inr (Preview w, asked, inr (rules, by, refuses)))

  -- ## One of them

  run_one : (w : RunWords) (f g : Fault) → OfRunning w f → OfRunning w g → IsSameFault f g
  run_one w f g (inl x) (inl y) = inl (reading_one w f g x y)
  run_one w f g (inl x) (inr (inl (r, by, locked))) = absurd (reading_or_goes w f r x by)
  run_one w f g (inl x) (inr (inr (r, by, enters, refuses))) = absurd (reading_or_goes w f r x by)
  run_one w f g (inr (inl (r, by, locked))) (inl y) = absurd (reading_or_goes w g r y by)
  run_one w f g (inr (inr (r, by, enters, refuses))) (inl y) = absurd (reading_or_goes w g r y by)
  run_one w f g (inr (inl (r, by, (n, l, is)))) (inr (inl (s, by2, (n2, l2, is2)))) = inl (is ∙ sym is2)
  run_one w f g (inr (inl (r, by, (n, l, is)))) (inr (inr (s, by2, enters, refuses))) = absurd (locked_out w.nolock (seen entry).locked n l enters)
  run_one w f g (inr (inr (r, by, enters, refuses))) (inr (inl (s, by2, (n, l, is)))) = absurd (locked_out w.nolock (seen entry).locked n l enters)
  run_one w f g (inr (inr (r, by, enters, refuses))) (inr (inr (s, by2, enters2, refuses2))) =
      one_refusal s entry log f g formed (subst (λ x. RunRefuses x entry log f) (rules_one w r s by by2) refuses) refuses2

  list_one : (w : RunWords) (f g : Fault) → OfPreview w f → OfPreview w g → IsSameFault f g
  list_one w f g (inl x) (inl y) = inl (reading_one w f g x y)
  list_one w f g (inl x) (inr (r, by, refuses)) = absurd (reading_or_goes w f r x by)
  list_one w f g (inr (r, by, refuses)) (inl y) = absurd (reading_or_goes w g r y by)
  list_one w f g (inr (r, by, refuses)) (inr (s, by2, refuses2)) =
      one_chain_refusal s (seen entry) nothing_done [] f g (seen_is_complete record_in entry formed)
      (subst (λ x. ChainRefuses x (seen entry) nothing_done [] f) (rules_one w r s by by2) refuses) refuses2

  forget_one : (paths : List Path) (nolock : Bool) (f g : Fault) → OfPaths paths nolock f → OfPaths paths nolock g → IsSameFault f g
  forget_one paths nolock f g (inl (n, l, is)) (inl (n2, l2, is2)) = inl (is ∙ sym is2)
  forget_one paths nolock f g (inl (n, l, is)) (inr (q, rest, enters, seen_is, is2)) = absurd (locked_out nolock (seen entry).locked n l enters)
  forget_one paths nolock f g (inr (q, rest, enters, seen_is, is)) (inl (n, l, is2)) = absurd (locked_out nolock (seen entry).locked n l enters)
  forget_one paths nolock f g (inr (q, rest, enters, seen_is, is)) (inr (q2, rest2, enters2, seen_is2, is2)) =
      inl (is ∙ (ap fault.StampSeen (first_is q q2 rest rest2 (sym seen_is ∙ seen_is2)) ∙ sym is2))

  asked_one : (a : Asked) (f g : Fault) → OfAsked a f → OfAsked a g → IsSameFault f g
  asked_one (Run w) f g x y = run_one w f g x y
  asked_one (Preview w) f g x y = list_one w f g x y
  asked_one Unlock f g x y = absurd x
  asked_one (Forget paths nolock) f g x y = forget_one paths nolock f g x y
  asked_one (Generate seed size) f g x y = absurd x

  met_one : (f g : Fault) → Met f → Met g → IsSameFault f g
  met_one f g (inl (unread, is)) (inl (unread2, is2)) = inl (is ∙ sym is2)
  met_one f g (inl (unread, is)) (inr (inl (lacks, is2))) = absurd (unread.1 lacks)
  met_one f g (inl (unread, is)) (inr (inr (a, asked, of))) = absurd (unread.0 a asked)
  met_one f g (inr (inl (lacks, is))) (inl (unread, is2)) = absurd (unread.1 lacks)
  met_one f g (inr (inl (lacks, is))) (inr (inl (lacks2, is2))) = inl (is ∙ sym is2)
  met_one f g (inr (inl (lacks, is))) (inr (inr (a, asked, of))) = absurd (none_asked_without_cores words a asked lacks)
  met_one f g (inr (inr (a, asked, of))) (inl (unread, is2)) = absurd (unread.0 a asked)
  met_one f g (inr (inr (a, asked, of))) (inr (inl (lacks, is2))) = absurd (none_asked_without_cores words a asked lacks)
  met_one f g (inr (inr (a, asked, of))) (inr (inr (b, asked2, of2))) =
      asked_one b f g (subst (λ x. OfAsked x f) (one_asked words a b asked asked2) of) of2

pub meets_one : MeetsOne
meets_one words entry log f g formed x y = met_one words entry log formed f g (met words entry log formed f x) (met words entry log formed g y)
