-- Looks one after another, and what they tell.
use Rattle.std.proofs.Common.{◌≡◌, ◌≢◌, ℕ, List, [], ◌∷◌, ap, refl, sym, subst, ◌∙◌, false, Result, Ok, true≢false}
use Rattle.smk_world.specs.declared.event.Call.TheVariants.{ReadFile}
use Rattle.smk_world.specs.declared.event.Child.{Child}
use Rattle.smk_world.specs.declared.event.Found.{Found}
use Rattle.smk_world.specs.declared.event.NodeState.{NodeState}
use Rattle.smk_world.specs.declared.event.NodeState.TheVariants.{Owned, Known}
use Rattle.smk_world.specs.World.{numbers, is_within, reading}
use Rattle.smk_world.specs.Calls.{found_of, owned_now, FoundIs}
use Rattle.smk_world.specs.Devices.{Device, WhereTold, IsSoundDevice, HasCalled, HasLooked}
use Rattle.smk_world.specs.Trees.{Act}
use Rattle.smk_world.proofs.Devices.{still, lets_of}
use Rattle.smk_eval_files.specs.Looks.{Nodes, at}
use Rattle.smk_flaws.specs.declared.fault.FileFault.{FileFault}
use Rattle.smk_eval_files.specs.Reading.{Answers, bytes_in, bytes_at}

-- what is told after looks was so before them
pub told_then : {act : Act} {a b : Device} (F : Nodes → Type 0) → HasLooked act a b false → WhereTold b (λ w. F w.nodes) → WhereTold a (λ w. F w.nodes)
told_then F looked told = λ w here.
    let u = still w looked here in
    subst F u.2 (told u.0 u.1)

no_children : (cs : List Child) → numbers cs ≡ [] → cs ≡ []
no_children [] h = refl
no_children (c ∷ cs) h = cc

-- where no child runs none owns a place
pub none_owned : (d : Device) → IsSoundDevice d → d.running ≡ [] → WhereTold d (λ w. (q : List ℕ) → w.nodes q ≢ Owned)
none_owned d sound none = λ w here q owned.
    true≢false (sym (sound.owned w here q owned) ∙ ap (λ cs. is_within q (owned_now cs)) (no_children w.children (sound.same_numbers w here ∙ none)))

found_at : (s : NodeState) (limit : ℕ) (found : Found) → s ≢ Owned → FoundIs limit found s → found ≡ found_of limit (reading s)
found_at Owned limit found free h = absurd (free refl)
found_at (Known now besides) limit found free h = h

-- a file was read
pub bytes_read : {act : Act} {a b : Device} (p file : List ℕ) (found : Found) (result : Result (List ℕ) FileFault)
    → p ≡ file → Answers (bytes_in file found) result → IsSoundDevice a → a.running ≡ [] → HasCalled act a b (ReadFile p 1048576 (Ok found))
    → WhereTold a (λ w. Answers (bytes_at w.nodes file) result)
bytes_read {a = a} p file found result is read sound none called = λ w here.
    let lets = lets_of w called refl here in
    let held : found ≡ found_of 1048576 (at w.nodes p) = found_at (w.nodes p) 1048576 found (none_owned a sound none w here p) lets.1.1 in
    subst (λ f. Answers (bytes_in file f) result) (held ∙ ap (λ q. found_of 1048576 (at w.nodes q)) is) read
