-- Looks, and calls that make firm or read-only what stands, leave a rest and the plan in force.
use Rattle.std.proofs.Common.{◌≡◌, Bool, true, false, ◌&&◌, ◌||◌, List, [], ◌∷◌, ◌++◌, map, refl, sym, ap, subst, ◌∙◌, Option, Some, None, Ok, Err, option_map, true≢false}
use Rattle.std.specs.Prelude.{if◌then◌else◌, bytes_eq, is_none}
use Rattle.std.specs.List.{list_all}
use Rattle.smk_world.specs.declared.event.Besides.TheVariants.{Anything, OneOf}
use Rattle.smk_world.specs.declared.event.Call.{Call}
use Rattle.smk_world.specs.declared.event.Call.TheVariants.{Looked, ReadFile, ReadFolder, Written, Created, Removed, MadeParents, Settled, Protected, Started, Waited}
use Rattle.smk_world.specs.declared.event.Change.{Change}
use Rattle.smk_world.specs.declared.event.Child.{Child}
use Rattle.smk_world.specs.declared.event.Event.{Event}
use Rattle.smk_world.specs.declared.event.Node.{Node}
use Rattle.smk_world.specs.declared.event.Node.TheVariants.{Directory, Regular}
use Rattle.smk_world.specs.declared.event.NodeState.{NodeState}
use Rattle.smk_world.specs.declared.event.NodeState.TheVariants.{Owned, Known}
use Rattle.smk_world.specs.World.{World, IsFormed, after, children_after, firm, is_above, is_within, names_after, node_after, protected, reading, reads_folder, run, with_flag}
use Rattle.smk_world.specs.Calls.{Lets, failed}
use Rattle.smk_world.specs.Devices.{AreLooks, is_look}
use Rattle.smk_world.specs.Requests.{HasDone, Request, request}
use Rattle.smk_world.specs.Requests.Request.{Look, ReadUpTo, ListFolder, Write, Create, Remove, MakeParents, Settle, Protect, Start, Wait}
use Rattle.smk_world.specs.Runs.{Follows}
use Rattle.smk_world.specs.Trees.{Act, Each, Path}
use Rattle.smk_world.proofs.Names.{formed_after}
use Rattle.smk_chain.specs.Derive.{Listings}
use Rattle.smk_keep.specs.Keeping.{protect_each, protect_requests}
use Rattle.smk_plan.specs.States.{Plan}
use Rattle.smk_run.proofs.Calls.{each_append}
use Rattle.smk_drive.specs.Moments.{Begun, IsInForce, Rules, is_gone, is_rest}
use Rattle.smk_drive_course.specs.Steps.{HasGuarded}
use Rattle.smk_laws_turns.proofs.Flags.{IsAsBare, bare, force_there}
use Rattle.smk_laws_moments.proofs.Rests.{rest_mono}

-- a look; or a call that made firm or read-only what stands
abbrev pub IsMild : Call → Type 0
IsMild (Looked p r) = Unit {0}
IsMild (ReadFile p limit r) = Unit {0}
IsMild (ReadFolder p r) = Unit {0}
IsMild (Settled ps r) = Unit {0}
IsMild (Protected p (Ok u)) = Unit {0}
IsMild (Protected p (Err e)) = ⊥
IsMild (Written p bytes r) = ⊥
IsMild (Created p r) = ⊥
IsMild (Removed p r) = ⊥
IsMild (MadeParents p r) = ⊥
IsMild (Started recipe logs command r) = ⊥
IsMild (Waited r) = ⊥

abbrev pub AreMild : List Event → Type 0
AreMild es = Each (λ (e : Event). IsMild e.call) es

-- ## Which calls are mild

look_mild : (call : Call) → is_look call ≡ true → IsMild call
look_mild (Looked p r) h = tt
look_mild (ReadFile p limit r) h = tt
look_mild (ReadFolder p r) h = tt
look_mild (Settled ps r) h = tt
look_mild (Protected p r) h = absurd (true≢false (sym h))
look_mild (Written p bytes r) h = absurd (true≢false (sym h))
look_mild (Created p r) h = absurd (true≢false (sym h))
look_mild (Removed p r) h = absurd (true≢false (sym h))
look_mild (MadeParents p r) h = absurd (true≢false (sym h))
look_mild (Started recipe logs command r) h = absurd (true≢false (sym h))
look_mild (Waited r) h = absurd (true≢false (sym h))

pub looks_mild : (failure : Bool) (es : List Event) → AreLooks failure es → AreMild es
looks_mild failure [] h = tt
looks_mild failure (e ∷ []) h = (look_mild e.call h.0, tt)
looks_mild failure (e ∷ (f ∷ es)) h = (look_mild e.call h.0, looks_mild failure (f ∷ es) h.2)

-- it asks that something be made firm or read-only
abbrev Keeps : Request → Type 0
Keeps (Settle ps) = Unit {0}
Keeps (Protect p) = Unit {0}
Keeps (Look p) = ⊥
Keeps (ReadUpTo p limit) = ⊥
Keeps (ListFolder p) = ⊥
Keeps (Write p bytes) = ⊥
Keeps (Create p) = ⊥
Keeps (Remove p) = ⊥
Keeps (MakeParents p) = ⊥
Keeps (Start recipe logs command) = ⊥
Keeps Wait = ⊥

keeps_mild : (call : Call) → Keeps (request call) → failed call ≡ false → IsMild call
keeps_mild (Settled ps r) h ok = tt
keeps_mild (Protected p (Ok u)) h ok = tt
keeps_mild (Protected p (Err e)) h ok = absurd (true≢false ok)
keeps_mild (Looked p r) h ok = absurd h
keeps_mild (ReadFile p limit r) h ok = absurd h
keeps_mild (ReadFolder p r) h ok = absurd h
keeps_mild (Written p bytes r) h ok = absurd h
keeps_mild (Created p r) h ok = absurd h
keeps_mild (Removed p r) h ok = absurd h
keeps_mild (MadeParents p r) h ok = absurd h
keeps_mild (Started recipe logs command r) h ok = absurd h
keeps_mild (Waited r) h ok = absurd h

done_mild : (rs : List Request) (es : List Event) → Each Keeps rs → HasDone rs es → AreMild es
done_mild [] [] h k = tt
done_mild [] (e ∷ es) h k = absurd k
done_mild (r ∷ rs) [] h k = absurd k
done_mild (r ∷ rs) (e ∷ es) h k = (keeps_mild e.call (subst Keeps (sym k.0) h.0) k.1, done_mild rs es h.1 k.2)

pub settled_mild : (ps : List Path) (es : List Event) → HasDone (Settle ps ∷ []) es → AreMild es
settled_mild ps es h = done_mild (Settle ps ∷ []) es (tt, tt) h

protects_keep : (ps : List Path) → Each Keeps (protect_each ps)
protects_keep [] = tt
protects_keep (p ∷ ps) = (tt, protects_keep ps)

pub guards_mild : (guards : List Path) (es : List Event) → HasGuarded guards es → AreMild es
guards_mild [] es h = subst AreMild (sym h) tt
guards_mild (p ∷ guards) es h =
    done_mild (protect_requests (p ∷ guards)) es
    (each_append Keeps (protect_each (p ∷ guards)) (Settle (p ∷ guards) ∷ []) (protects_keep (p ∷ guards)) (tt, tt)) h

pub mild_more : (es fs : List Event) → AreMild es → AreMild fs → AreMild (es ++ fs)
mild_more es fs a b = each_append (λ (e : Event). IsMild e.call) es fs a b

-- ## What is gone stays so

none_protected : (n : Option Node) → is_none n ≡ true → is_none (option_map protected n) ≡ true
none_protected None h = refl
none_protected (Some n) h = h

both : (a b c d : Bool) → (a ≡ true → c ≡ true) → (b ≡ true → d ≡ true) → (a && b) ≡ true → (c && d) ≡ true
both false b c d f g h = absurd (true≢false (sym h))
both true b c d f g h = ap (λ x. x && d) (f refl) ∙ g h

none_map : (ns : List (Option Node)) → list_all is_none ns ≡ true → list_all is_none (map (option_map protected) ns) ≡ true
none_map [] h = refl
none_map (n ∷ ns) h =
    both (is_none n) (list_all is_none ns) (is_none (option_map protected n)) (list_all is_none (map (option_map protected) ns)) (none_protected n) (none_map ns) h

none_more : (ns ms : List (Option Node)) → list_all is_none ns ≡ true → list_all is_none ms ≡ true → list_all is_none (ns ++ ms) ≡ true
none_more [] ms h k = k
none_more (n ∷ ns) ms h k =
    both (is_none n) (list_all is_none ns) (is_none n) (list_all is_none (ns ++ ms)) (λ e. e) (λ e. none_more ns ms e k) h

gone_firm : (s : NodeState) → is_gone s ≡ true → is_gone (firm s) ≡ true
gone_firm Owned h = h
gone_firm (Known now Anything) h = absurd (true≢false (sym h))
gone_firm (Known None (OneOf ns)) h = refl
gone_firm (Known (Some n) (OneOf ns)) h = absurd (true≢false (sym h))

gone_flag : (s : NodeState) → is_gone s ≡ true → is_gone (with_flag s) ≡ true
gone_flag Owned h = h
gone_flag (Known now Anything) h = absurd (true≢false (sym h))
gone_flag (Known None (OneOf ns)) h = none_more ns (map (option_map protected) ns) h (none_map ns h)
gone_flag (Known (Some n) (OneOf ns)) h = absurd (true≢false (sym h))

gone_if : (b : Bool) (s t : NodeState) → is_gone s ≡ true → is_gone t ≡ true → is_gone (if b then t else s) ≡ true
gone_if true s t h k = k
gone_if false s t h k = h

mild_gone : (c : Call) (left : List Change) (cs : List Child) (q : Path) (s : NodeState) → IsMild c → is_gone s ≡ true → is_gone (node_after c left cs q s) ≡ true
mild_gone (Looked p r) left cs q s h k = k
mild_gone (ReadFile p limit r) left cs q s h k = k
mild_gone (ReadFolder p r) left cs q s h k = k
mild_gone (Settled ps (Ok u)) left cs q s h k = gone_if (is_within q ps || (is_above q ps && reads_folder s)) s (firm s) k (gone_firm s k)
mild_gone (Settled ps (Err e)) left cs q s h k = k
mild_gone (Protected p (Ok u)) left cs q s h k = gone_if (bytes_eq q p) s (with_flag s) k (gone_flag s k)
mild_gone (Protected p (Err e)) left cs q s h k = absurd h
mild_gone (Written p bytes r) left cs q s h k = absurd h
mild_gone (Created p r) left cs q s h k = absurd h
mild_gone (Removed p r) left cs q s h k = absurd h
mild_gone (MadeParents p r) left cs q s h k = absurd h
mild_gone (Started recipe logs command r) left cs q s h k = absurd h
mild_gone (Waited r) left cs q s h k = absurd h

mild_children : (c : Call) (cs : List Child) → IsMild c → children_after c cs ≡ cs
mild_children (Looked p r) cs h = refl
mild_children (ReadFile p limit r) cs h = refl
mild_children (ReadFolder p r) cs h = refl
mild_children (Settled ps r) cs h = refl
mild_children (Protected p r) cs h = refl
mild_children (Written p bytes r) cs h = absurd h
mild_children (Created p r) cs h = absurd h
mild_children (Removed p r) cs h = absurd h
mild_children (MadeParents p r) cs h = absurd h
mild_children (Started recipe logs command r) cs h = absurd h
mild_children (Waited r) cs h = absurd h

pub mild_rest : (w : World) (es : List Event) (begun : List Begun) → AreMild es → is_rest w begun ≡ true → is_rest (run w es) begun ≡ true
mild_rest w [] begun h rest = rest
mild_rest w (e ∷ es) begun h rest =
    mild_rest (after w e) es begun h.1
    (rest_mono w (after w e) begun (sym (mild_children e.call w.children h.0)) (λ q gone. mild_gone e.call e.left w.children q (w.nodes q) h.0 gone) rest)

-- ## What stands, but for the flags

flag_bare : (s : NodeState) → bare (reading (with_flag s)) ≡ bare (reading s)
flag_bare Owned = refl
flag_bare (Known None besides) = refl
flag_bare (Known (Some Directory) besides) = refl
flag_bare (Known (Some (Regular bytes time read_only)) besides) = refl

firm_bare : (s : NodeState) → bare (reading (firm s)) ≡ bare (reading s)
firm_bare Owned = refl
firm_bare (Known now besides) = refl

bare_if : (b : Bool) (s t : NodeState) → bare (reading t) ≡ bare (reading s) → bare (reading (if b then t else s)) ≡ bare (reading s)
bare_if true s t h = h
bare_if false s t h = refl

mild_bare : (c : Call) (left : List Change) (cs : List Child) (q : Path) (s : NodeState) → IsMild c → bare (reading (node_after c left cs q s)) ≡ bare (reading s)
mild_bare (Looked p r) left cs q s h = refl
mild_bare (ReadFile p limit r) left cs q s h = refl
mild_bare (ReadFolder p r) left cs q s h = refl
mild_bare (Settled ps (Ok u)) left cs q s h = bare_if (is_within q ps || (is_above q ps && reads_folder s)) s (firm s) (firm_bare s)
mild_bare (Settled ps (Err e)) left cs q s h = refl
mild_bare (Protected p (Ok u)) left cs q s h = bare_if (bytes_eq q p) s (with_flag s) (flag_bare s)
mild_bare (Protected p (Err e)) left cs q s h = absurd h
mild_bare (Written p bytes r) left cs q s h = absurd h
mild_bare (Created p r) left cs q s h = absurd h
mild_bare (Removed p r) left cs q s h = absurd h
mild_bare (MadeParents p r) left cs q s h = absurd h
mild_bare (Started recipe logs command r) left cs q s h = absurd h
mild_bare (Waited r) left cs q s h = absurd h

-- nothing is left by such a call
none_left : (act : Act) (w : World) (c : Call) (left : List Change) → IsMild c → Lets act w c left → left ≡ []
none_left act w (Looked p (Ok s)) left h lets = lets.0
none_left act w (Looked p (Err e)) left h lets = lets
none_left act w (ReadFile p limit (Ok f)) left h lets = lets.0
none_left act w (ReadFile p limit (Err e)) left h lets = lets
none_left act w (ReadFolder p (Ok listing)) left h lets = lets.0
none_left act w (ReadFolder p (Err e)) left h lets = lets
none_left act w (Settled ps r) left h lets = lets
none_left act w (Protected p (Ok u)) left h lets = lets
none_left act w (Protected p (Err e)) left h lets = absurd h
none_left act w (Written p bytes r) left h lets = absurd h
none_left act w (Created p r) left h lets = absurd h
none_left act w (Removed p r) left h lets = absurd h
none_left act w (MadeParents p r) left h lets = absurd h
none_left act w (Started recipe logs command r) left h lets = absurd h
none_left act w (Waited r) left h lets = absurd h

mild_names : (c : Call) (names : List Path) → IsMild c → names_after c [] names ≡ names
mild_names (Looked p r) names h = refl
mild_names (ReadFile p limit r) names h = refl
mild_names (ReadFolder p r) names h = refl
mild_names (Settled ps r) names h = refl
mild_names (Protected p r) names h = refl
mild_names (Written p bytes r) names h = absurd h
mild_names (Created p r) names h = absurd h
mild_names (Removed p r) names h = absurd h
mild_names (MadeParents p r) names h = absurd h
mild_names (Started recipe logs command r) names h = absurd h
mild_names (Waited r) names h = absurd h

as_bare : (act : Act) (w : World) (e : Event) → IsMild e.call → Lets act w e.call e.left → IsAsBare w (after w e)
as_bare act w e h lets =
    record {
      names = ap (λ l. names_after e.call l w.names) (none_left act w e.call e.left h lets) ∙ mild_names e.call w.names h;
      nodes = λ q. mild_bare e.call e.left w.children q (w.nodes q) h;
      children = mild_children e.call w.children h;
    }

-- the plan in force stays so
pub mild_force :
    (act : Act) (rules : Rules) (begun : List Begun) (L : Listings) (plan : Option Plan) (w : World) (es : List Event) → IsFormed w → AreMild es → Follows act w es →
    IsInForce rules w begun L plan → IsInForce rules (run w es) begun L plan
mild_force act rules begun L plan w [] formed h follows force = force
mild_force act rules begun L plan w (e ∷ es) formed h follows force =
    let later = formed_after w e formed in
    mild_force act rules begun L plan (after w e) es later h.1 follows.1
    (force_there rules begun w (after w e) formed later (as_bare act w e h.0 follows.0.lets) L plan force)
