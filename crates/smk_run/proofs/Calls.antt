-- What holds of all calls of a part of a turn, where it holds of those of its parts.
use Rattle.std.proofs.Common.{◌≡◌, ◌⊎◌, inl, inr, ℕ, Bool, true, false, true≢false, List, [], ◌∷◌, ◌++◌, ap, sym, subst, Option, Some, None, Result, Ok, Err}
use Rattle.smk_world.specs.declared.event.Call.{Call}
use Rattle.smk_world.specs.declared.event.Call.TheVariants.{Looked, ReadFile, ReadFolder, Written, Created, Removed, MadeParents, Settled, Protected, Started, Waited}
use Rattle.smk_world.specs.declared.event.Event.{Event}
use Rattle.smk_world.specs.declared.event.WorkFault.{WorkFault}
use Rattle.smk_world.specs.declared.event.WorkFault.TheVariants.{Failed as FailedFault, OutOfMemory as MemoryFault}
use Rattle.smk_world.specs.declared.recipe.Out.{Out}
use Rattle.smk_world.specs.World.{World}
use Rattle.smk_world.specs.Devices.{AreLooks as AreReads, is_look}
use Rattle.smk_world.specs.Requests.{Request, request, HasDone, IsCutShort}
use Rattle.smk_world.specs.Requests.Request.{Look, ReadUpTo, ListFolder, Write, Create, Remove, MakeParents, Settle, Protect, Start, Wait}
use Rattle.smk_world.specs.Trees.{Path, Each, outs_of}
use Rattle.smk_record.specs.declared.record.Stamp.{Stamp}
use Rattle.smk_record.specs.declared.record.Member.{Member}
use Rattle.smk_job.specs.Jobs.{IsPart}
use Rattle.smk_job.specs.declared.fault.CloseFault.{CloseFault}
use Rattle.smk_job.specs.declared.fault.CloseFault.TheVariants as fault
use Rattle.smk_job.specs.Jobs.{Underway, abandon_requests, finish_requests}
use Rattle.smk_job.specs.Sights.{Nodes, IsListing, AreLooks, AreSeen, IsSeenWrong, IsBlind, AreLookedAt, HasSeen, HasFinished}
use Rattle.smk_run.specs.declared.stop.Stop.{Stop}
use Rattle.smk_run.specs.declared.stop.Stop.TheVariants as stop
use Rattle.smk_run.specs.declared.ending.Ending.{Ending}
use Rattle.smk_run.specs.declared.ending.Ending.TheVariants.{Good, Status, NoOutput, WrongKind, BadMember}
use Rattle.smk_run.specs.Digesting.{HasDigested, HasReadPart, HasInputs}
use Rattle.smk_run.specs.Stamps.{Serials, look_at, looks, IsStamped, AreStamped}
use Rattle.smk_run.specs.Closings.{HasSettled}

-- so of each call
abbrev pub EachCall : (Request → Type 0) → List Event → Type 0
EachCall P es = Each (λ (e : Event). P (request e.call)) es

-- ## Lists

pub each_append : {A : Type 0} (P : A → Type 0) (xs ys : List A) → Each P xs → Each P ys → Each P (xs ++ ys)
each_append P [] ys h k = k
each_append P (x ∷ xs) ys h k = (h.0, each_append P xs ys h.1 k)

pub each_first : {A : Type 0} (P : A → Type 0) (xs ys : List A) → Each P (xs ++ ys) → Each P xs
each_first P [] ys h = tt
each_first P (x ∷ xs) ys h = (h.0, each_first P xs ys h.1)

pub each_then : (P : Request → Type 0) (es first more : List Event) → es ≡ first ++ more → EachCall P first → EachCall P more → EachCall P es
each_then P es first more e h k = subst (EachCall P) (sym e) (each_append (λ (x : Event). P (request x.call)) first more h k)

-- ## Requests

pub done_each : (P : Request → Type 0) (rs : List Request) (es : List Event) → Each P rs → HasDone rs es → EachCall P es
done_each P [] [] h k = tt
done_each P [] (e ∷ es) h k = absurd k
done_each P (r ∷ rs) [] h k = absurd k
done_each P (r ∷ rs) (e ∷ es) h k = (subst P (sym k.0) h.0, done_each P rs es h.1 k.2)

pub cut_each : (P : Request → Type 0) (rs : List Request) (es : List Event) → Each P rs → IsCutShort rs es → EachCall P es
cut_each P [] es h k = absurd k
cut_each P (r ∷ rs) [] h k = absurd k
cut_each P (r ∷ rs) (e ∷ []) h k = (subst P (sym k.0) h.0, tt)
cut_each P (r ∷ rs) (e ∷ (f ∷ es)) h k = (subst P (sym k.0) h.0, cut_each P rs (f ∷ es) h.1 k.2)

pub part_each : (P : Request → Type 0) (rs : List Request) (es : List Event) → Each P rs → IsPart rs es → EachCall P es
part_each P rs [] h k = tt
part_each P [] (e ∷ es) h k = absurd k
part_each P (r ∷ rs) (e ∷ es) h k = elim k.1 [
  | inl last ↦ subst (EachCall P) (ap (λ l. e ∷ l) (sym last.1)) (subst P (sym k.0) h.0, tt)
  | inr more ↦ (subst P (sym k.0) h.0, part_each P rs es h.1 more.1)
]

-- ## Looks

-- looks, reads and listings are so
pub record OfLooks (P : Request → Type 0) : Type 0 where
  pub look : (p : Path) → P (Look p)
  pub read : (p : Path) (limit : ℕ) → P (ReadUpTo p limit)
  pub listed : (p : Path) → P (ListFolder p)

listing_is : (P : Request → Type 0) (all : OfLooks P) (out : Out) (r : Request) → IsListing out r → P r
listing_is P all out (ListFolder q) h = all.listed q
listing_is P all out (Look q) h = absurd h
listing_is P all out (ReadUpTo q limit) h = absurd h
listing_is P all out (Write q bytes) h = absurd h
listing_is P all out (Create q) h = absurd h
listing_is P all out (Remove q) h = absurd h
listing_is P all out (MakeParents q) h = absurd h
listing_is P all out (Settle qs) h = absurd h
listing_is P all out (Protect q) h = absurd h
listing_is P all out (Start recipe logs command) h = absurd h
listing_is P all out Wait h = absurd h

listings_are : (P : Request → Type 0) (all : OfLooks P) (out : Out) (es : List Event) → Each (λ (d : Event). IsListing out (request d.call)) es → EachCall P es
listings_are P all out [] h = tt
listings_are P all out (e ∷ es) h = (listing_is P all out (request e.call) h.0, listings_are P all out es h.1)

pub looks_each : (P : Request → Type 0) (all : OfLooks P) (out : Out) (es : List Event) → AreLooks out es → EachCall P es
looks_each P all out [] h = absurd h
looks_each P all out (e ∷ es) h = (subst P (sym h.0) (all.look out.path), listings_are P all out es h.1)

pub seen_each : (P : Request → Type 0) (all : OfLooks P) (nodes : Nodes) (outs : List Out) (members : List (List Member)) (es : List Event) → AreSeen nodes outs members es → EachCall P es
seen_each P all nodes [] [] es h = subst (EachCall P) (sym h) tt
seen_each P all nodes [] (m ∷ members) es h = absurd h
seen_each P all nodes (out ∷ outs) [] es h = absurd h
seen_each P all nodes (out ∷ outs) (m ∷ members) es (first, more, e, looked, quiet, kind, next) =
    each_then P es first more e (looks_each P all out first looked) (seen_each P all nodes outs members more next)

pub wrong_each : (P : Request → Type 0) (all : OfLooks P) (nodes : Nodes) (outs : List Out) (f : CloseFault) (es : List Event) → IsSeenWrong nodes outs f es → EachCall P es
wrong_each P all nodes [] f es h = absurd h
wrong_each P all nodes (out ∷ outs) f es (first, more, e, looked, quiet, inl last) =
    each_then P es first more e (looks_each P all out first looked) (subst (EachCall P) (sym last.0) tt)
wrong_each P all nodes (out ∷ outs) f es (first, more, e, looked, quiet, inr next) =
    each_then P es first more e (looks_each P all out first looked) (wrong_each P all nodes outs f more next.2)

pub blind_each : (P : Request → Type 0) (all : OfLooks P) (outs : List Out) (es : List Event) → IsBlind outs es → EachCall P es
blind_each P all [] es h = absurd h
blind_each P all (out ∷ outs) es (first, more, e, looked, inl last) =
    each_then P es first more e (looks_each P all out first looked) (subst (EachCall P) (sym last.0) tt)
blind_each P all (out ∷ outs) es (first, more, e, looked, inr next) =
    each_then P es first more e (looks_each P all out first looked) (blind_each P all outs more next.1)

pub looked_each : (P : Request → Type 0) (all : OfLooks P) (outs : List Out) (es : List Event) → AreLookedAt outs es → EachCall P es
looked_each P all [] es h = subst (EachCall P) (sym h) tt
looked_each P all (out ∷ outs) es (inl none) = subst (EachCall P) (sym none) tt
looked_each P all (out ∷ outs) es (inr (first, more, e, looked, quiet, next)) =
    each_then P es first more e (looks_each P all out first looked) (looked_each P all outs more next)

-- ## Looks at inputs

look_each : (P : Request → Type 0) (all : OfLooks P) (m : Option ℕ) (p : Path) → Each P (look_at m p)
look_each P all (Some serial) p = tt
look_each P all None p = (all.look p, tt)

inputs_each : (P : Request → Type 0) (all : OfLooks P) (made : Serials) (ps : List Path) → Each P (looks made ps)
inputs_each P all made [] = tt
inputs_each P all made (p ∷ ps) = each_append P (look_at (made p) p) (looks made ps) (look_each P all (made p) p) (inputs_each P all made ps)

stamp_each : (P : Request → Type 0) (all : OfLooks P) (m : Option ℕ) (p : Path) (s : Stamp) (es : List Event) → IsStamped m p s es → EachCall P es
stamp_each P all (Some serial) p s es h = subst (EachCall P) (sym h.1) tt
stamp_each P all None p s es (e, is, timed) = subst (EachCall P) (sym is) (subst (λ (c : Call). P (request c)) (sym timed.2) (all.look p), tt)

pub stamped_each : (P : Request → Type 0) (all : OfLooks P) (made : Serials) (ps : List Path) (stamps : List Stamp) (es : List Event) → AreStamped made ps stamps es → EachCall P es
stamped_each P all made [] [] es h = subst (EachCall P) (sym h) tt
stamped_each P all made [] (s ∷ stamps) es h = absurd h
stamped_each P all made (p ∷ ps) [] es h = absurd h
stamped_each P all made (p ∷ ps) (s ∷ stamps) es (first, more, e, one, next) =
    each_then P es first more e (stamp_each P all (made p) p s first one) (stamped_each P all made ps stamps more next)

-- ## Reads of sources

read_is : (P : Request → Type 0) (all : OfLooks P) (c : Call) → is_look c ≡ true → P (request c)
read_is P all (Looked p r) h = all.look p
read_is P all (ReadFile p limit r) h = all.read p limit
read_is P all (ReadFolder p r) h = all.listed p
read_is P all (Written p bytes r) h = absurd (true≢false (sym h))
read_is P all (Created p r) h = absurd (true≢false (sym h))
read_is P all (Removed p r) h = absurd (true≢false (sym h))
read_is P all (MadeParents p r) h = absurd (true≢false (sym h))
read_is P all (Settled ps r) h = absurd (true≢false (sym h))
read_is P all (Protected p r) h = absurd (true≢false (sym h))
read_is P all (Started recipe logs command r) h = absurd (true≢false (sym h))
read_is P all (Waited r) h = absurd (true≢false (sym h))

reads_each : (P : Request → Type 0) (all : OfLooks P) (failure : Bool) (es : List Event) → AreReads failure es → EachCall P es
reads_each P all failure [] h = tt
reads_each P all failure (e ∷ []) h = (read_is P all e.call h.0, tt)
reads_each P all failure (e ∷ (f ∷ es)) h = (read_is P all e.call h.0, reads_each P all failure (f ∷ es) h.2)

pub digested_each : (P : Request → Type 0) (all : OfLooks P) (made : Serials) (ps : List Path) (ss : List Stamp) (w : World) (es : List Event) → HasDigested made ps ss w es → EachCall P es
digested_each P all made ps ss w es h = each_then P es h.looks h.reads h.events (stamped_each P all made ps h.seen h.looks h.stamped) (reads_each P all false h.reads h.only_read)

part_read_each : (P : Request → Type 0) (all : OfLooks P) (made : Serials) (ps : List Path) (es : List Event) → IsPart (looks made ps) es ⊎ HasReadPart made ps es → EachCall P es
part_read_each P all made ps es (inl h) = part_each P (looks made ps) es (inputs_each P all made ps) h
part_read_each P all made ps es (inr h) = each_then P es h.looks h.reads h.events (stamped_each P all made ps h.seen h.looks h.stamped) (reads_each P all h.failure h.reads h.only_read)

pub has_inputs_each : (P : Request → Type 0) (all : OfLooks P) (made : Serials) (ps : List Path) (r : Result (List Stamp) Stop) (w : World) (es : List Event) → HasInputs made ps r w es → EachCall P es
has_inputs_each P all made ps (Ok stamps) w es h = digested_each P all made ps stamps w es h
has_inputs_each P all made ps (Err (stop.Gone p)) w es h = part_each P (looks made ps) es (inputs_each P all made ps) h.0
has_inputs_each P all made ps (Err (stop.TooLong n)) w es h = part_read_each P all made ps es h
has_inputs_each P all made ps (Err stop.Device) w es h = part_read_each P all made ps es h
has_inputs_each P all made ps (Err stop.Output) w es h = part_read_each P all made ps es h
has_inputs_each P all made ps (Err stop.OutOfMemory) w es h = part_read_each P all made ps es h

-- ## The closing

-- All calls that close a job are so.
pub record OfClosing (P : Request → Type 0) (j : Underway) : Type 0 where
  pub looks : OfLooks P
  pub finish : (members : List (List Member)) → Each P (finish_requests j members)
  pub abandon : Each P (abandon_requests j)

seen_then : (P : Request → Type 0) (A B : List Event → Type 0) (es : List Event) → ((fs : List Event) → A fs → EachCall P fs) → ((fs : List Event) → B fs → EachCall P fs) → HasSeen A B es → EachCall P es
seen_then P A B es first next h = each_then P es h.looks h.rest h.events (first h.looks h.seen) (next h.rest h.done)

abandoned_each : (P : Request → Type 0) (j : Underway) (all : OfClosing P j) (f : CloseFault) (w : World) (es : List Event)
    → HasSeen (IsSeenWrong w.nodes (outs_of j.recipe) f) (HasDone (abandon_requests j)) es → EachCall P es
abandoned_each P j all f w es h =
    seen_then P (IsSeenWrong w.nodes (outs_of j.recipe) f) (HasDone (abandon_requests j)) es
    (λ fs. wrong_each P all.looks w.nodes (outs_of j.recipe) f fs) (λ fs. done_each P (abandon_requests j) fs all.abandon) h

finished_each : (P : Request → Type 0) (j : Underway) (all : OfClosing P j) (r : Result (Unit {0}) CloseFault) (w : World) (es : List Event) → HasFinished j r w es → EachCall P es
finished_each P j all (Ok u) w es (members, h) =
    seen_then P (AreSeen w.nodes (outs_of j.recipe) members) (HasDone (finish_requests j members)) es
    (λ fs. seen_each P all.looks w.nodes (outs_of j.recipe) members fs) (λ fs. done_each P (finish_requests j members) fs (all.finish members)) h
finished_each P j all (Err (fault.NoOutput p)) w es h = abandoned_each P j all (fault.NoOutput p) w es h
finished_each P j all (Err (fault.WrongKind p)) w es h = abandoned_each P j all (fault.WrongKind p) w es h
finished_each P j all (Err (fault.BadMember p)) w es h = abandoned_each P j all (fault.BadMember p) w es h
finished_each P j all (Err fault.Device) w es (inl blind) = blind_each P all.looks (outs_of j.recipe) es blind
finished_each P j all (Err fault.Device) w es (inr (inl (members, h))) =
    seen_then P (AreSeen w.nodes (outs_of j.recipe) members) (IsCutShort (finish_requests j members)) es
    (λ fs. seen_each P all.looks w.nodes (outs_of j.recipe) members fs) (λ fs. cut_each P (finish_requests j members) fs (all.finish members)) h
finished_each P j all (Err fault.Device) w es (inr (inr (f, h))) =
    seen_then P (IsSeenWrong w.nodes (outs_of j.recipe) f) (IsCutShort (abandon_requests j)) es
    (λ fs. wrong_each P all.looks w.nodes (outs_of j.recipe) f fs) (λ fs. cut_each P (abandon_requests j) fs all.abandon) h
finished_each P j all (Err fault.OutOfMemory) w es h = looked_each P all.looks (outs_of j.recipe) es h

pub settled_each : (P : Request → Type 0) (j : Underway) (all : OfClosing P j) (r : Result Ending WorkFault) (status : ℕ) (w : World) (es : List Event) → HasSettled j r status w es → EachCall P es
settled_each P j all (Ok Good) status w es h = finished_each P j all (Ok tt) w es h.1
settled_each P j all (Ok (Status n)) status w es h = done_each P (abandon_requests j) es all.abandon h.2
settled_each P j all (Ok (NoOutput p)) status w es h = finished_each P j all (Err (fault.NoOutput p)) w es h.1
settled_each P j all (Ok (WrongKind p)) status w es h = finished_each P j all (Err (fault.WrongKind p)) w es h.1
settled_each P j all (Ok (BadMember p)) status w es h = finished_each P j all (Err (fault.BadMember p)) w es h.1
settled_each P j all (Err FailedFault) status w es (inl h) = finished_each P j all (Err fault.Device) w es h.1
settled_each P j all (Err FailedFault) status w es (inr h) = cut_each P (abandon_requests j) es all.abandon h.1
settled_each P j all (Err MemoryFault) status w es h = finished_each P j all (Err fault.OutOfMemory) w es h.1
