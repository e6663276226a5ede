-- What is asked of a folder is one thing, and it isn't refused too.
use Rattle.std.proofs.Common.{◌≡◌, ◌⊎◌, inl, inr, ap, sym, subst, ◌∙◌, Result, Ok, Err}
use Rattle.std.proofs.lemmas.Option.{none-some}
use Rattle.smk_world.specs.Trees.{Path}
use Rattle.smk_flow.specs.Flows.{Flow}
use Rattle.smk_flow.specs.Targets.{all_paths}
use Rattle.smk_flow.proofs.NoFault.{no_fault}
use Rattle.smk_words_reading.specs.declared.asked.RunWords.{RunWords}
use Rattle.smk_eval_files.specs.Looks.{Nodes}
use Rattle.smk_flaws.specs.declared.fault.LoadFault.{LoadFault}
use Rattle.smk_eval.specs.Loading.{loaded, Gives, FailsAs}
use Rattle.smk_report.specs.declared.fault.Fault.{Fault}
use Rattle.smk_cli_entry.specs.declared.reading.Reading.{Reading}
use Rattle.smk_cli_entry.specs.declared.asking.Asked.{Asked}
use Rattle.smk_cli_entry.specs.Entry.{IsAskedIn, IsRead, FailsToAsk, asked_words, reading_of, refused_word}

file_same : (a b : Path) → ◌≡◌ {A = Result Path Fault} (Ok a) (Ok b) → a ≡ b
file_same a b e = cc

flow_same : (a b : Flow) → ◌≡◌ {A = Result Flow LoadFault} (Ok a) (Ok b) → a ≡ b
flow_same a b e = cc

file_none : (a : Path) (f : Fault) → ◌≡◌ {A = Result Path Fault} (Ok a) (Err f) → ⊥
file_none a f e = cc

flow_none : (a : Flow) (f : LoadFault) → ◌≡◌ {A = Result Flow LoadFault} (Ok a) (Err f) → ⊥
flow_none a f e = cc

-- words ask by one workflow
read_same : (words : RunWords) (nodes : Nodes) (r s : Reading) → IsRead words nodes (Ok r) → IsRead words nodes (Ok s) → r ≡ s
read_same words nodes r s a b =
    let file : r.file ≡ s.file = file_same r.file s.file (sym a.0 ∙ b.0) in
    let flow : r.flow ≡ s.flow = flow_same r.flow s.flow (sym a.1.0 ∙ (ap (λ p. loaded nodes p words.sets) file ∙ b.1.0)) in
    λ i. record { file = file i; flow = flow i }

-- words ask for one thing
pub asked_same : (words : RunWords) (nodes : Nodes) (a b : Asked) → IsAskedIn words nodes (Ok a) → IsAskedIn words nodes (Ok b) → a ≡ b
asked_same words nodes a b h k =
    let same : reading_of a ≡ reading_of b = read_same words nodes (reading_of a) (reading_of b) h.0 k.0 in
    let targets : a.targets ≡ b.targets = h.2 ∙ (ap (λ (r : Reading). all_paths r.flow (asked_words words.targets r)) same ∙ sym k.2) in
    λ i. record { file = (same i).file; flow = (same i).flow; targets = targets i }

-- a workflow that is read isn't refused
flow_unrefused : (said : Result Flow LoadFault) (flow : Flow) (e : LoadFault) → Gives said (Ok flow) → (said ≡ Err e) ⊎ FailsAs said e → ⊥
flow_unrefused said flow e gives (inl k) = flow_none flow e (sym gives.0 ∙ k)
flow_unrefused said flow e gives (inr k) =
    let fails : FailsAs (Ok flow) e = subst (λ s. FailsAs s e) gives.0 k in
    no_fault flow.rules flow.orders fails.1.0 gives.1 fails.1.1

-- what is asked isn't refused
pub asked_unrefused : (words : RunWords) (nodes : Nodes) (f : Fault) (a : Asked) → FailsToAsk words nodes f → IsAskedIn words nodes (Ok a) → ⊥
asked_unrefused words nodes f a (inl (inl none)) h = file_none a.file f (sym h.0.0 ∙ none)
asked_unrefused words nodes f a (inl (inr (file, is, (e, told, gives, same)))) h =
    let here : a.file ≡ file = file_same a.file file (sym h.0.0 ∙ is) in
    flow_unrefused (loaded nodes file words.sets) a.flow e (subst (λ p. Gives (loaded nodes p words.sets) (Ok a.flow)) here h.0.1) (gives told)
asked_unrefused words nodes f a (inr (reading, is, refused)) h =
    let same : reading ≡ reading_of a = read_same words nodes reading (reading_of a) is h.0 in
    none-some f (sym (ap (refused_word words.targets) same ∙ h.1) ∙ refused)
