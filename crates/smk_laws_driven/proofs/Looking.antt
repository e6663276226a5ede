-- Sources that stand are found by the looks at a turn's inputs.
use Rattle.std.proofs.Common.{◌≡◌, inl, inr, ℕ, true, List, [], ◌∷◌, ◌++◌, refl, ap, sym, subst, ◌∙◌, Option, Some, None, Result, true≢false}
use Rattle.smk_world.specs.declared.event.Call.{Call}
use Rattle.smk_world.specs.declared.event.Event.{Event}
use Rattle.smk_world.specs.declared.event.Node.TheVariants.{Regular, Directory}
use Rattle.smk_world.specs.declared.event.NodeState.{NodeState}
use Rattle.smk_world.specs.declared.event.NodeState.TheVariants.{Owned, Known}
use Rattle.smk_world.specs.declared.event.Stat.{Stat}
use Rattle.smk_world.specs.World.{World, run, in_paths}
use Rattle.smk_world.specs.Calls.{Lets, StatIs}
use Rattle.smk_world.specs.Runs.{Follows}
use Rattle.smk_world.specs.Requests.{Request, request}
use Rattle.smk_world.specs.Requests.Request.{Look}
use Rattle.smk_world.specs.Trees.{Path, Act, Each, IsIn}
use Rattle.smk_record.specs.declared.record.Stamp.{Stamp}
use Rattle.smk_job.specs.Jobs.{IsPart}
use Rattle.smk_job.specs.Sights.{reads_file}
use Rattle.smk_run.specs.declared.stop.Stop.{Stop}
use Rattle.smk_run.specs.Digesting.{HasInputs}
use Rattle.smk_run.specs.Stamps.{EndsGone, Serials, is_file, look_at, looks}
use Rattle.smk_run.specs.Turns.{Course, IsTurnBy}
use Rattle.smk_run.proofs.Calls.{EachCall}
use Rattle.smk_safe.proofs.Keeping.{Spares, AreAside, run_kept}
use Rattle.smk_run.proofs.Calls.{part_each}
use Rattle.smk_safe.proofs.Done.{follows_split}
use Rattle.smk_laws_plan.proofs.CurrentLists.{flat_in}
use Rattle.smk_laws_driven.specs.Feeding.{InputsAreFound}

-- the last of some of these calls is one of them
last_in : (rs : List Request) (before : List Event) (e : Event) → IsPart rs (before ++ e ∷ []) → IsIn rs (request e.call)
last_in [] [] e h = absurd h
last_in [] (b ∷ before) e h = absurd h
last_in (r ∷ rs) [] e h = inl h.0
last_in (r ∷ rs) (b ∷ before) e (is, inl last) = absurd (more before last.1)
  where
    more : (es : List Event) → es ++ e ∷ [] ≡ [] → ⊥
    more [] k = cc
    more (x ∷ es) k = cc
last_in (r ∷ rs) (b ∷ before) e (is, inr on) = inr (last_in rs before e on.1)

-- a look at an input is one at a source among them
look_of : (m : Option ℕ) (q p : Path) → IsIn (look_at m q) (Look p) → (m ≡ None) × (p ≡ q)
look_of (Some serial) q p h = absurd h
look_of None q p (inl e) = (refl, cc)
look_of None q p (inr h) = absurd h

looks_sources : (made : Serials) (ps : List Path) (p : Path) → IsIn (looks made ps) (Look p) → IsIn ps p × (made p ≡ None)
looks_sources made ps p h =
    let r = flat_in (λ q. look_at (made q) q) ps (Look p) h in
    let s = look_of (made r.0) r.0 p r.2 in
    (subst (IsIn ps) (sym s.1) r.1, ap made s.1 ∙ s.0)

each_at : (P : Path → Type 0) (ps : List Path) (p : Path) → Each P ps → IsIn ps p → P p
each_at P [] p h i = absurd i
each_at P (q ∷ ps) p h (inl e) = subst P (sym e) h.0
each_at P (q ∷ ps) p h (inr i) = each_at P ps p h.1 i

-- looks change nothing
spares_look : (q : Path) (m : Option ℕ) (p : Path) → Each (Spares true q) (look_at m p)
spares_look q (Some serial) p = tt
spares_look q None p = (refl, tt)

each_join : (P : Request → Type 0) (xs ys : List Request) → Each P xs → Each P ys → Each P (xs ++ ys)
each_join P [] ys h k = k
each_join P (x ∷ xs) ys h k = (h.0, each_join P xs ys h.1 k)

spares_looks : (q : Path) (made : Serials) (ps : List Path) → Each (Spares true q) (looks made ps)
spares_looks q made [] = tt
spares_looks q made (p ∷ ps) = each_join (Spares true q) (look_at (made p) p) (looks made ps) (spares_look q (made p) p) (spares_looks q made ps)

-- a file is seen as one
file_seen : (s : NodeState) (stat : Stat) → reads_file s ≡ true → StatIs stat s → is_file stat ≡ true
file_seen Owned stat h k = absurd (true≢false (sym h))
file_seen (Known None besides) stat h k = absurd (true≢false (sym h))
file_seen (Known (Some Directory) besides) stat h k = absurd (true≢false (sym h))
file_seen (Known (Some (Regular bytes time read_only)) besides) stat h k = ap is_file k

never_gone :
    (act : Act) (made : Serials) (ps : List Path) (w : World) (es : List Event) (p : Path) → w.children ≡ [] →
    Each (λ q. made q ≡ None → reads_file (w.nodes q) ≡ true) ps → Follows act w es → IsPart (looks made ps) es → EndsGone p es → ⊥
never_gone act made ps w es p none files follows part (before, e, is, (stat, call, no_file)) =
    let parts = subst (IsPart (looks made ps)) is part in
    let source = looks_sources made ps p (subst (λ (c : Call). IsIn (looks made ps) (request c)) call (last_in (looks made ps) before e parts)) in
    let file = each_at (λ q. made q ≡ None → reads_file (w.nodes q) ≡ true) ps p files source.0 source.1 in
    let calls = part_each (Spares true p) (looks made ps) (before ++ e ∷ []) (spares_looks p made ps) parts in
    let same : (run w before).nodes p ≡ w.nodes p =
    run_kept true p w before (first_calls before calls) (subst (AreAside p) (sym none) tt) in
    let lets = (follows_split act w before (e ∷ []) (subst (Follows act w) is follows)).1.0.lets in
    let seen = (subst (λ (c : Call). Lets act (run w before) c e.left) call lets).1 in
    true≢false (sym (file_seen ((run w before).nodes p) stat (ap reads_file same ∙ file) seen) ∙ no_file)
  where
    first_calls : (before : List Event) → EachCall (Spares true p) (before ++ e ∷ []) → EachCall (Spares true p) before
    first_calls [] h = tt
    first_calls (b ∷ before) h = (h.0, first_calls before h.1)

pub inputs_are_found : InputsAreFound
inputs_are_found act made t w es p none files follows is course looked =
    let stamped : HasInputs made (in_paths t.job.recipe) t.looked w es = subst (λ (c : Course). IsTurnBy made t c w es) course is in
    let gone = subst (λ (r : Result (List Stamp) Stop). HasInputs made (in_paths t.job.recipe) r w es) looked stamped in
    never_gone act made (in_paths t.job.recipe) w es p none files follows gone.0 gone.1
