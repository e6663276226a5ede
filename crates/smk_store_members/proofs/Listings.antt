-- Listings of folders, one after another.
use Rattle.std.proofs.Common.{◌≡◌, Bool, true, false, List, [], ◌∷◌, ◌++◌, refl, sym, ap, subst, ◌∙◌, append_assoc, Result, Ok, Err}
use Rattle.std.specs.Prelude.{IsErrAnd}
use Rattle.std.proofs.lemmas.List.Elements.{All-append, All-cons, All-nil, All-head, All-tail}
use Rattle.smk_base.specs.Path.{is_at_or_under}
use Rattle.smk_base.proofs.Under.{at_when_under, under_folder}
use Rattle.smk_world.specs.declared.event.Call.{Call}
use Rattle.smk_world.specs.declared.event.Call.TheVariants.{Looked, ReadFile, ReadFolder, Written, Created, Removed, MadeParents, Settled, Protected, Started, Waited}
use Rattle.smk_world.specs.declared.event.Event.{Event}
use Rattle.smk_world.specs.declared.event.Listing.{Listing}
use Rattle.smk_world.specs.declared.event.WorkFault.{WorkFault}
use Rattle.smk_world.specs.declared.event.WorkFault.TheVariants.{Failed as FailedFault, OutOfMemory as MemoryFault}
use Rattle.smk_world.specs.Calls.{failed, device_failed, in_folder}
use Rattle.smk_world.specs.Devices.{Device, HasCalled, HasLooked, AreLooks, is_look}
use Rattle.smk_world.specs.Requests.{request, AreQuiet}
use Rattle.smk_world.specs.Trees.{Path, Act, Each}
use Rattle.smk_world.proofs.Devices.{acted_nothing, acted_call, acted_then, acted_as, handed_on}
use Rattle.smk_store_members.specs.Walks.{IsListingIn, AreListings, HasListings}

each_both : {A : Type 0} (P : A → Type 0) (xs ys : List A) → Each P xs → Each P ys → Each P (xs ++ ys)
each_both P [] ys h k = k
each_both P (x ∷ xs) ys h k = (h.0, each_both P xs ys h.1 k)

abbrev IsOne : Path → Event → Type 0
IsOne p e = IsListingIn p (request e.call)

abbrev IsQuiet : Event → Type 0
IsQuiet e = failed e.call ≡ false

both : (p : Path) (bad : Bool) (es fs : List Event) → AreListings p false es → AreListings p bad fs → AreListings p bad (es ++ fs)
both p false es fs h k = (each_both (IsOne p) es fs h.0 k.0, All-append IsQuiet es fs h.1 k.1)
both p true es fs h (k, (before, last, e, quiet, bad)) = (
  each_both (IsOne p) es fs h.0 k,
  (es ++ before, last, ap (λ t. es ++ t) e ∙ sym (append_assoc es before (last ∷ [])), All-append IsQuiet es before h.1 quiet, bad),
)

one : (p q : Path) (r : Result Listing WorkFault) (e : Event) → is_at_or_under q p ≡ true → e.call ≡ ReadFolder q r → AreListings p (device_failed r) (e ∷ [])
one p q (Ok l) e at is = ((subst (λ c. IsListingIn p (request c)) (sym is) at, tt), All-cons IsQuiet e [] (ap failed is) (All-nil IsQuiet))
one p q (Err FailedFault) e at is = ((subst (λ c. IsListingIn p (request c)) (sym is) at, tt), ([], e, refl, All-nil IsQuiet, ap failed is))
one p q (Err MemoryFault) e at is = ((subst (λ c. IsListingIn p (request c)) (sym is) at, tt), All-cons IsQuiet e [] (ap failed is) (All-nil IsQuiet))

-- nothing was listed
pub listed_nothing : (act : Act) (p : Path) (a : Device) → HasListings act p a a false
listed_nothing act p a = record { acted = acted_nothing act (λ w es. AreListings p false es) a (λ w. (tt, All-nil IsQuiet)) }

-- a folder was listed
pub listed_one : {act : Act} {a b : Device} {p q : Path} {r : Result Listing WorkFault} → is_at_or_under q p ≡ true → HasCalled act a b (ReadFolder q r) → HasListings act p a b (device_failed r)
listed_one {act} {a} {b} {p} {q} {r} at h =
    record {
      acted = acted_call act (λ w es. AreListings p (device_failed r) es) a b (ReadFolder q r) refl
          (λ w left lets. one p q r (record { call = ReadFolder q r; left = left }) at refl) h;
    }

-- more was listed
pub listed_then : {act : Act} {a b c : Device} {p : Path} {f : Bool} → HasListings act p a b false → HasListings act p b c f → HasListings act p a c f
listed_then {act} {a} {b} {c} {p} {f} first second =
    record {
      acted = acted_then act (λ w es. AreListings p false es) (λ w es. AreListings p f es) (λ w es. AreListings p f es) a b c f
          (λ w es fs follows h follows2 k. both p f es fs h k) first.acted second.acted;
    }

pub listed_as : {act : Act} {a b : Device} {p : Path} {f g : Bool} → f ≡ g → HasListings act p a b f → HasListings act p a b g
listed_as {act} {a} {b} {p} same h = subst (HasListings act p a b) same h

-- the fault of a call is handed on
pub listed_on : {act : Act} {a b : Device} {p : Path} {T U : Type 0} {r : Result T WorkFault} {x : WorkFault} (s : Result U WorkFault) → r ≡ Err x → IsErrAnd s (λ y. y ≡ x)
    → HasListings act p a b (device_failed r) → HasListings act p a b (device_failed s)
listed_on {r = r} {x = x} s is h listed = listed_as (handed_on r s x is h) listed

memory_is_none : {U : Type 0} (s : Result U WorkFault) → IsErrAnd s (λ y. y ≡ MemoryFault) → false ≡ device_failed s
memory_is_none (Ok u) h = absurd h
memory_is_none {U} (Err y) h = ap (λ (z : WorkFault). device_failed {T = U} (Err z)) (sym h)

-- memory was short
pub listed_memory : {act : Act} {a b : Device} {p : Path} {U : Type 0} (s : Result U WorkFault) → IsErrAnd s (λ y. y ≡ MemoryFault) → HasListings act p a b false → HasListings act p a b (device_failed s)
listed_memory s h listed = listed_as (memory_is_none s h) listed

pub in_it : (p name : Path) → is_at_or_under (in_folder p name) p ≡ true
in_it p name = at_when_under (in_folder p name) p (under_folder p name)

-- ## Listings are looks

look_of : (p : Path) (c : Call) → IsListingIn p (request c) → is_look c ≡ true
look_of p (Looked q r) h = refl
look_of p (ReadFile q limit r) h = refl
look_of p (ReadFolder q r) h = refl
look_of p (Written q bytes r) h = absurd h
look_of p (Created q r) h = absurd h
look_of p (Removed q r) h = absurd h
look_of p (MadeParents q r) h = absurd h
look_of p (Settled qs r) h = absurd h
look_of p (Protected q r) h = absurd h
look_of p (Started recipe logs command r) h = absurd h
look_of p (Waited r) h = absurd h

quiet_looks : (p : Path) (es : List Event) → Each (IsOne p) es → AreQuiet es → AreLooks false es
quiet_looks p [] h q = refl
quiet_looks p (e ∷ []) h q = (look_of p e.call h.0, All-head IsQuiet e [] q)
quiet_looks p (e ∷ (f ∷ es)) h q = (look_of p e.call h.0, All-head IsQuiet e (f ∷ es) q, quiet_looks p (f ∷ es) h.1 (All-tail IsQuiet e (f ∷ es) q))

failed_looks : (p : Path) (before : List Event) (last : Event) → Each (IsOne p) (before ++ last ∷ []) → AreQuiet before → failed last.call ≡ true → AreLooks true (before ++ last ∷ [])
failed_looks p [] last h q bad = (look_of p last.call h.0, bad)
failed_looks p (e ∷ []) last h q bad = (look_of p e.call h.0, All-head IsQuiet e [] q, (look_of p last.call h.1.0, bad))
failed_looks p (e ∷ (f ∷ es)) last h q bad = (look_of p e.call h.0, All-head IsQuiet e (f ∷ es) q, failed_looks p (f ∷ es) last h.1 (All-tail IsQuiet e (f ∷ es) q) bad)

pub listings_look : (p : Path) (bad : Bool) (es : List Event) → AreListings p bad es → AreLooks bad es
listings_look p false es h = quiet_looks p es h.0 h.1
listings_look p true es (all, (before, last, is, q, bad)) = subst (AreLooks true) (sym is) (failed_looks p before last (subst (Each (IsOne p)) is all) q bad)

pub listings_looked : {act : Act} {a b : Device} {p : Path} {f : Bool} → HasListings act p a b f → HasLooked act a b f
listings_looked {act} {a} {b} {p} {f} h =
    record { acted = acted_as act (λ w es. AreListings p f es) (λ w es. AreLooks f es) a b f f refl (λ w es k. listings_look p f es k) h.acted }
