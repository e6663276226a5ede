-- Looks at outputs that are to be files, one after the other.
use Rattle.std.proofs.Common.{◌≡◌, ℕ, zero, suc, ◌+◌, ◌<◌, ◌≤◌, true, false, List, [], ◌∷◌, ◌++◌, map, length, take, drop, get_or, inl, inr, refl, sym, ap, subst, ◌∙◌, arith, append_assoc, Option, Some, None, Result, Ok, Err, drop-cons, true≢false}
use Rattle.std.specs.Prelude.{is_err}
use Rattle.std.specs.List.{list_any}
use Rattle.std.proofs.lemmas.List.{append-nil, take_more, take_all, take-append-drop}
use Rattle.std.proofs.lemmas.List.Elements.{All-nil, All-cons}
use Rattle.std.proofs.lemmas.Bool.{or_parts}
use Rattle.std.proofs.lemmas.Option.{same_Some}
use Rattle.smk_base.proofs.Under.{at_itself}
use Rattle.smk_world.specs.declared.event.Call.TheVariants.{Looked}
use Rattle.smk_world.specs.declared.event.Change.{Change}
use Rattle.smk_world.specs.declared.event.Event.{Event}
use Rattle.smk_world.specs.declared.event.Failed.{Failed}
use Rattle.smk_world.specs.declared.event.Node.TheVariants.{Regular, Directory}
use Rattle.smk_world.specs.declared.event.NodeState.{NodeState}
use Rattle.smk_world.specs.declared.event.NodeState.TheVariants.{Owned, Known}
use Rattle.smk_world.specs.declared.event.Stat.{Stat}
use Rattle.smk_world.specs.declared.event.Stat.TheVariants.{Nothing, File, Folder as FolderStat}
use Rattle.smk_world.specs.declared.recipe.Kind.{Kind}
use Rattle.smk_world.specs.declared.recipe.Kind.TheVariants.{Plain, Folder}
use Rattle.smk_world.specs.declared.recipe.Out.{Out}
use Rattle.smk_world.specs.World.{World, run, reads_nothing, reads_folder}
use Rattle.smk_world.specs.Calls.{StatIs, failed}
use Rattle.smk_world.specs.Devices.{Device, HasCalled, HasActed}
use Rattle.smk_world.specs.Requests.{AreQuiet}
use Rattle.smk_world.specs.Requests.Request.{Look}
use Rattle.smk_world.specs.Trees.{Path, Act, is_folder_kind}
use Rattle.smk_world.proofs.Devices.{acted_nothing, acted_as}
use Rattle.smk_world.proofs.Runs.{run_append}
use Rattle.smk_record.specs.declared.record.Member.{Member}
use Rattle.smk_job.specs.declared.fault.CloseFault.{CloseFault}
use Rattle.smk_job.specs.declared.sight.Wrong.{Wrong}
use Rattle.smk_job.specs.declared.sight.Wrong.TheVariants.{Absent, OtherKind}
use Rattle.smk_job.specs.Sights.{Nodes, reads_file, IsOfKind, IsWrong, AreKnown, AreLooks, EndsFailed, AreSeen, IsSeenWrong, IsBlind, is_folder_out, nones, wrong_of, wrong_fault, path_at, AreFilesSoFar, HasSeenFiles}
use Rattle.smk_job.proofs.Acts.{acted_more}

-- ## One more output

pub seen_next : (nodes : Nodes) (outs : List Out) (ms : List (List Member)) (es : List Event) (out : Out) (m : List Member) (first : List Event)
    → AreSeen nodes outs ms es → AreLooks out first → AreQuiet first → IsOfKind nodes out.path out.kind m → AreSeen nodes (outs ++ out ∷ []) (ms ++ m ∷ []) (es ++ first)
seen_next nodes [] [] es out m first h looks quiet kind = (first, [], ap (λ t. t ++ first) h ∙ sym (append-nil first), looks, quiet, kind, refl)
seen_next nodes [] (x ∷ ms) es out m first h looks quiet kind = absurd h
seen_next nodes (o ∷ outs) [] es out m first h looks quiet kind = absurd h
seen_next nodes (o ∷ outs) (x ∷ ms) es out m first (f, more, e, l, q, k, rest) looks quiet kind =
    (f, more ++ first, ap (λ t. t ++ first) e ∙ append_assoc f more first, l, q, k, seen_next nodes outs ms more out m first rest looks quiet kind)

pub wrong_next : (nodes : Nodes) (outs : List Out) (ms : List (List Member)) (es : List Event) (out : Out) (later : List Out) (fault : CloseFault) (first : List Event)
    → AreSeen nodes outs ms es → AreLooks out first → AreQuiet first → IsWrong nodes out.path out.kind fault → IsSeenWrong nodes (outs ++ out ∷ later) fault (es ++ first)
wrong_next nodes [] [] es out later fault first h looks quiet wrong = (first, [], ap (λ t. t ++ first) h ∙ sym (append-nil first), looks, quiet, inl (refl, wrong))
wrong_next nodes [] (x ∷ ms) es out later fault first h looks quiet wrong = absurd h
wrong_next nodes (o ∷ outs) [] es out later fault first h looks quiet wrong = absurd h
wrong_next nodes (o ∷ outs) (x ∷ ms) es out later fault first (f, more, e, l, q, k, rest) looks quiet wrong =
    (f, more ++ first, ap (λ t. t ++ first) e ∙ append_assoc f more first, l, q, inr (x, k, wrong_next nodes outs ms more out later fault first rest looks quiet wrong))

pub blind_next : (nodes : Nodes) (outs : List Out) (ms : List (List Member)) (es : List Event) (out : Out) (later : List Out) (first : List Event)
    → AreSeen nodes outs ms es → AreLooks out first → EndsFailed first → IsBlind (outs ++ out ∷ later) (es ++ first)
blind_next nodes [] [] es out later first h looks bad = (first, [], ap (λ t. t ++ first) h ∙ sym (append-nil first), looks, inl (refl, bad))
blind_next nodes [] (x ∷ ms) es out later first h looks bad = absurd h
blind_next nodes (o ∷ outs) [] es out later first h looks bad = absurd h
blind_next nodes (o ∷ outs) (x ∷ ms) es out later first (f, more, e, l, q, k, rest) looks bad =
    (f, more ++ first, ap (λ t. t ++ first) e ∙ append_assoc f more first, l, inr (q, blind_next nodes outs ms more out later first rest looks bad))

nones_next : (outs : List Out) (out : Out) → nones (outs ++ out ∷ []) ≡ nones outs ++ [] ∷ []
nones_next [] out = refl
nones_next (o ∷ outs) out = ap (λ t. [] ∷ t) (nones_next outs out)

-- ## The output of a number

pub around : (outs : List Out) (i : ℕ) (out : Out) → i < length outs → out ≡ get_or outs i out → outs ≡ take i outs ++ out ∷ drop (suc i) outs
around outs i out lt e = sym (take-append-drop i outs) ∙ ap (λ t. take i outs ++ t) (drop-cons outs i out lt ∙ ap (λ o. o ∷ drop (suc i) outs) (sym e))

pub next : (outs : List Out) (i : ℕ) (out : Out) → i < length outs → out ≡ get_or outs i out → take (i + 1) outs ≡ take i outs ++ out ∷ []
next outs i out lt e = take_more outs i out lt ∙ ap (λ o. take i outs ++ o ∷ []) (sym e)

plain_kind : (k : Kind) → is_folder_kind k ≡ false → k ≡ Plain
plain_kind Plain h = refl
plain_kind Folder h = cc

pub plain_at : (outs : List Out) (i : ℕ) (d : Out) → list_any is_folder_out outs ≡ false → i < length outs → (get_or outs i d).kind ≡ Plain
plain_at [] i d h lt = absurd (omega arith)
plain_at (o ∷ outs) zero d h lt = plain_kind o.kind (or_parts (is_folder_out o) (list_any is_folder_out outs) h).0
plain_at (o ∷ outs) (suc i) d h lt = plain_at outs i d (or_parts (is_folder_out o) (list_any is_folder_out outs) h).1 (omega arith)

pub known_at : (nodes : Nodes) (outs : List Out) (i : ℕ) (d : Out) → AreKnown nodes outs → i < length outs → nodes (get_or outs i d).path ≡ Owned → ⊥
known_at nodes [] i d h lt = absurd (omega arith)
known_at nodes (o ∷ outs) zero d h lt = h.0 o.path (at_itself o.path)
known_at nodes (o ∷ outs) (suc i) d h lt = known_at nodes outs i d h.1 (omega arith)

path_there : (outs : List Out) (i : ℕ) (d : Out) (p : Path) → i < length outs → get_or (map (λ (out : Out). out.path) outs) i p ≡ (get_or outs i d).path
path_there [] i d p lt = absurd (omega arith)
path_there (o ∷ outs) zero d p lt = refl
path_there (o ∷ outs) (suc i) d p lt = path_there outs i d p (omega arith)

-- the place of this number is that of the output
pub place_at : (outs : List Out) (places : List Path) (i : ℕ) (out : Out) (p : Path) → places ≡ map (λ (out : Out). out.path) outs → i < length outs → out ≡ get_or outs i out → p ≡ get_or places i p → p ≡ out.path
place_at outs places i out p at lt e f = f ∙ ap (λ ps. get_or ps i p) at ∙ path_there outs i out p lt ∙ ap (λ (o : Out). o.path) (sym e)

pub path_of_at : (outs : List Out) (i : ℕ) (out : Out) → i < length outs → out ≡ get_or outs i out → path_at outs i ≡ out.path
path_of_at outs i out lt e = path_there outs i out [] lt ∙ ap (λ (o : Out). o.path) (sym e)

-- ## What a look tells

pub plain_fit : (s : Stat) (st : NodeState) → (st ≡ Owned → ⊥) → StatIs s st → wrong_of Plain s ≡ None → reads_file st ≡ true
plain_fit s Owned known is fits = absurd (known refl)
plain_fit Nothing (Known n besides) known is fits = cc
plain_fit FolderStat (Known n besides) known is fits = cc
plain_fit (File time read_only) (Known None besides) known is fits = cc
plain_fit (File time read_only) (Known (Some Directory) besides) known is fits = cc
plain_fit (File time read_only) (Known (Some (Regular bytes t r)) besides) known is fits = refl

absent_wrong : (nodes : Nodes) (p : Path) (st : NodeState) → nodes p ≡ st → (st ≡ Owned → ⊥) → StatIs Nothing st → IsWrong nodes p Plain (wrong_fault Absent p)
absent_wrong nodes p Owned e known is = absurd (known refl)
absent_wrong nodes p (Known None besides) e known is = (refl, ap reads_nothing e)
absent_wrong nodes p (Known (Some Directory) besides) e known is = cc
absent_wrong nodes p (Known (Some (Regular bytes t r)) besides) e known is = cc

folder_wrong : (nodes : Nodes) (p : Path) (st : NodeState) → nodes p ≡ st → (st ≡ Owned → ⊥) → StatIs FolderStat st → IsWrong nodes p Plain (wrong_fault OtherKind p)
folder_wrong nodes p Owned e known is = absurd (known refl)
folder_wrong nodes p (Known None besides) e known is = cc
folder_wrong nodes p (Known (Some Directory) besides) e known is = (refl, ap reads_folder e)
folder_wrong nodes p (Known (Some (Regular bytes t r)) besides) e known is = cc

pub plain_wrong : (nodes : Nodes) (p : Path) (s : Stat) (x : Wrong) → (nodes p ≡ Owned → ⊥) → StatIs s (nodes p) → wrong_of Plain s ≡ Some x → IsWrong nodes p Plain (wrong_fault x p)
plain_wrong nodes p Nothing x known is wrong = subst (λ y. IsWrong nodes p Plain (wrong_fault y p)) (same_Some Absent x wrong) (absent_wrong nodes p (nodes p) refl known is)
plain_wrong nodes p FolderStat x known is wrong = subst (λ y. IsWrong nodes p Plain (wrong_fault y p)) (same_Some OtherKind x wrong) (folder_wrong nodes p (nodes p) refl known is)
plain_wrong nodes p (File time read_only) x known is wrong = cc

quiet_one : (e : Event) → failed e.call ≡ false → AreQuiet (e ∷ [])
quiet_one e h = All-cons (λ (d : Event). failed d.call ≡ false) e [] h (All-nil (λ (d : Event). failed d.call ≡ false))

-- ## The loop

-- one more event keeps the nodes
nodes_on : (w : World) (es : List Event) (p : Path) (r : Result Stat Failed) (left : List Change)
    → (run w es).nodes ≡ w.nodes → (run w (es ++ record { call = Looked p r; left = left } ∷ [])).nodes ≡ w.nodes
nodes_on w es p r left h = ap (λ (v : World). v.nodes) (run_append w es (record { call = Looked p r; left = left } ∷ [])) ∙ h

module _ (act : Act) (outs : List Out) (i : ℕ) (out : Out) (p : Path) where
  pub looked_well : (a b c : Device) (s : Stat) → list_any is_folder_out outs ≡ false → i < length outs → out ≡ get_or outs i out → p ≡ out.path → wrong_of out.kind s ≡ None
      → HasActed act (AreFilesSoFar outs (take i outs)) a b false → HasCalled act b c (Looked p (Ok s)) → HasActed act (AreFilesSoFar outs (take (i + 1) outs)) a c false
  looked_well a b c s plain lt e at fits before now =
      acted_more act (AreFilesSoFar outs (take i outs)) (AreFilesSoFar outs (take (i + 1) outs)) a b c (Looked p (Ok s)) refl
      (λ w es left follows done lets.
      let event : Event = record { call = Looked p (Ok s); left = left } in
      let kind : out.kind ≡ Plain = ap (λ (o : Out). o.kind) e ∙ plain_at outs i out plain lt in (
        nodes_on w es p (Ok s) left done.0,
        λ known.
            let free : w.nodes out.path ≡ Owned → ⊥ = subst (λ (o : Out). w.nodes o.path ≡ Owned → ⊥) (sym e) (known_at w.nodes outs i out known lt) in
            let is : StatIs s (w.nodes out.path) = subst (λ q. StatIs s (w.nodes q)) at (subst (λ ns. StatIs s (ns p)) done.0 lets.1) in
            let file : reads_file (w.nodes out.path) ≡ true = plain_fit s (w.nodes out.path) free is (subst (λ k. wrong_of k s ≡ None) kind fits) in
            let fit : IsOfKind w.nodes out.path out.kind [] = subst (λ k. IsOfKind w.nodes out.path k []) (sym kind) (file, refl) in
            subst (λ (os : List Out). AreSeen w.nodes os (nones os) (es ++ event ∷ [])) (sym (next outs i out lt e))
            (subst (λ ms. AreSeen w.nodes (take i outs ++ out ∷ []) ms (es ++ event ∷ [])) (sym (nones_next (take i outs) out))
            (seen_next w.nodes (take i outs) (nones (take i outs)) es out [] (event ∷ []) (done.1 known) (ap Look at, tt) (quiet_one event refl) fit)),
      ))
      before now

  pub looked_wrong : (a b c : Device) (s : Stat) (x : Wrong) → list_any is_folder_out outs ≡ false → i < length outs → out ≡ get_or outs i out → p ≡ out.path → wrong_of out.kind s ≡ Some x
      → HasActed act (AreFilesSoFar outs (take i outs)) a b false → HasCalled act b c (Looked p (Ok s)) → HasActed act (HasSeenFiles outs (Ok (Some (i, x)))) a c false
  looked_wrong a b c s x plain lt e at wrong before now =
      acted_more act (AreFilesSoFar outs (take i outs)) (HasSeenFiles outs (Ok (Some (i, x)))) a b c (Looked p (Ok s)) refl
      (λ w es left follows done lets known.
      let event : Event = record { call = Looked p (Ok s); left = left } in
      let kind : out.kind ≡ Plain = ap (λ (o : Out). o.kind) e ∙ plain_at outs i out plain lt in
      let free : w.nodes out.path ≡ Owned → ⊥ = subst (λ (o : Out). w.nodes o.path ≡ Owned → ⊥) (sym e) (known_at w.nodes outs i out known lt) in
      let is : StatIs s (w.nodes out.path) = subst (λ q. StatIs s (w.nodes q)) at (subst (λ ns. StatIs s (ns p)) done.0 lets.1) in
      let bad : IsWrong w.nodes out.path Plain (wrong_fault x out.path) = plain_wrong w.nodes out.path s x free is (subst (λ k. wrong_of k s ≡ Some x) kind wrong) in
      let told : IsWrong w.nodes out.path out.kind (wrong_fault x (path_at outs i)) =
      subst (λ q. IsWrong w.nodes out.path out.kind (wrong_fault x q)) (sym (path_of_at outs i out lt e)) (subst (λ k. IsWrong w.nodes out.path k (wrong_fault x out.path)) (sym kind) bad) in
      subst (λ (os : List Out). IsSeenWrong w.nodes os (wrong_fault x (path_at outs i)) (es ++ event ∷ [])) (sym (around outs i out lt e))
      (wrong_next w.nodes (take i outs) (nones (take i outs)) es out (drop (suc i) outs) (wrong_fault x (path_at outs i)) (event ∷ []) (done.1 known) (ap Look at, tt) (quiet_one event refl) told))
      before now

  pub looked_blindly : (a b c : Device) (f : Failed) (r : Result (Option (ℕ × Wrong)) Failed) → is_err r ≡ true → i < length outs → out ≡ get_or outs i out → p ≡ out.path
      → HasActed act (AreFilesSoFar outs (take i outs)) a b false → HasCalled act b c (Looked p (Err f)) → HasActed act (HasSeenFiles outs r) a c (is_err r)
  looked_blindly a b c f (Ok x) bad lt e at before now = absurd (true≢false (sym bad))
  looked_blindly a b c f (Err x) bad lt e at before now =
      acted_more act (AreFilesSoFar outs (take i outs)) (HasSeenFiles outs (Err x)) a b c (Looked p (Err f)) refl
      (λ w es left follows done lets known.
      let event : Event = record { call = Looked p (Err f); left = left } in
      subst (λ (os : List Out). IsBlind os (es ++ event ∷ [])) (sym (around outs i out lt e))
      (blind_next w.nodes (take i outs) (nones (take i outs)) es out (drop (suc i) outs) (event ∷ []) (done.1 known) (ap Look at, tt)
      ([], event, refl, All-nil (λ (d : Event). failed d.call ≡ false), refl)))
      before now

-- nothing was looked at
pub looked_none : (act : Act) (outs : List Out) (a : Device) → HasActed act (AreFilesSoFar outs []) a a false
looked_none act outs a = acted_nothing act (AreFilesSoFar outs []) a (λ w. (refl, λ known. refl))

-- all of them are files
pub looked_all : (act : Act) (outs : List Out) (i : ℕ) (a b : Device) → length outs ≤ i → HasActed act (AreFilesSoFar outs (take i outs)) a b false → HasActed act (HasSeenFiles outs (Ok None)) a b false
looked_all act outs i a b le h =
    acted_as act (AreFilesSoFar outs (take i outs)) (HasSeenFiles outs (Ok None)) a b false false refl
    (λ w es so known. subst (λ (os : List Out). AreSeen w.nodes os (nones os) es) (take_all i outs le) (so.1 known)) h
