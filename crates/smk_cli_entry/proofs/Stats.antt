-- One look, and answers to others.
use Rattle.std.proofs.Common.{◌≡◌, ◌≢◌, [], refl, ap, sym, subst, Result, Ok, Err}
use Rattle.smk_world.specs.declared.event.Call.TheVariants.{Looked}
use Rattle.smk_world.specs.declared.event.NodeState.{NodeState}
use Rattle.smk_world.specs.declared.event.NodeState.TheVariants.{Owned, Known}
use Rattle.smk_world.specs.declared.event.Stat.{Stat}
use Rattle.smk_world.specs.World.{reading}
use Rattle.smk_world.specs.Calls.{StatIs, stat_of}
use Rattle.smk_world.specs.Devices.{Device, WhereTold, IsSoundDevice, HasCalled}
use Rattle.smk_world.specs.Trees.{Path, Act}
use Rattle.smk_world.proofs.Devices.{lets_of}
use Rattle.smk_eval_files.specs.Looks.{at}
use Rattle.smk_eval_files.proofs.Looking.{none_owned}
use Rattle.smk_report.specs.declared.fault.Fault.{Fault}
use Rattle.smk_cli_entry.specs.Faults.{and_then, Answers}

stat_at : (s : NodeState) (stat : Stat) → s ≢ Owned → StatIs stat s → stat_of (reading s) ≡ stat
stat_at Owned stat free h = absurd (free refl)
stat_at (Known now besides) stat free h = sym h

-- what a look tells where no child runs
pub stat_seen : {act : Act} {a b : Device} (p : Path) (stat : Stat) → IsSoundDevice a → a.running ≡ [] → HasCalled act a b (Looked p (Ok stat)) → WhereTold a (λ w. stat_of (at w.nodes p) ≡ stat)
stat_seen {a = a} p stat sound none called = λ w here.
    stat_at (w.nodes p) stat (none_owned a sound none w here p) (lets_of w called refl here).1.1

-- a step that has an answer, and the next one
pub answers_then : {A B : Type 0} (m : Result A Fault) (x : A) (next : A → Result B Fault) (s : Result B Fault) → m ≡ Ok x → Answers (next x) s → Answers (and_then m next) s
answers_then m x next s is h = subst (λ v. Answers v s) (ap (λ r. and_then r next) (sym is)) h

-- where a value is meant, a fault is none of the folder
pub unread : {A B : Type 0} (x : A) (y : B) (f : Fault) → Answers (Ok x) (Err f) → Answers (Ok y) (Err f)
unread x y f h = λ told. let bad = h told in cc
