-- Looks at outputs with directories among them, one after the other.
use Rattle.std.proofs.Common.{◌≡◌, inl, inr, ℕ, zero, suc, ◌+◌, ◌<◌, ◌≤◌, ◌==◌, Bool, true, false, List, [], ◌∷◌, ◌++◌, map, length, take, drop, get_or, refl, sym, ap, subst, ◌∙◌, arith, append_assoc, length-append, filter, bytes_eq, Some, None, Result, Ok, Err}
use Rattle.std.specs.Prelude.{IsErrAnd, ◌&&◌, if◌then◌else◌, nat_le}
use Rattle.std.specs.List.{list_all}
use Rattle.std.proofs.lemmas.List.{append-nil, take_all}
use Rattle.std.proofs.lemmas.List.Elements.{All-nil, All-cons}
use Rattle.std.proofs.lemmas.Option.{same_Some}
use Rattle.smk_base.proofs.Places.{and_first, and_second, place_itself}
use Rattle.smk_base.proofs.Under.{both_true, at_itself, or_first, or_second}
use Rattle.smk_base.specs.declared.tree.Pair.{Pair}
use Rattle.smk_world.specs.declared.event.Call.TheVariants.{Looked}
use Rattle.smk_world.specs.declared.event.Change.{Change}
use Rattle.smk_world.specs.declared.event.Event.{Event}
use Rattle.smk_world.specs.declared.event.Failed.{Failed}
use Rattle.smk_world.specs.declared.event.Node.TheVariants.{Regular, Directory}
use Rattle.smk_world.specs.declared.event.NodeState.{NodeState}
use Rattle.smk_world.specs.declared.event.NodeState.TheVariants.{Owned, Known}
use Rattle.smk_world.specs.declared.event.Stat.{Stat}
use Rattle.smk_world.specs.declared.event.Stat.TheVariants.{Nothing, File, Folder as FolderStat}
use Rattle.smk_world.specs.declared.event.WorkFault.{WorkFault}
use Rattle.smk_world.specs.declared.event.WorkFault.TheVariants.{Failed as FailedFault, OutOfMemory as MemoryFault}
use Rattle.smk_world.specs.declared.recipe.Kind.{Kind}
use Rattle.smk_world.specs.declared.recipe.Kind.TheVariants.{Plain, Folder}
use Rattle.smk_world.specs.declared.recipe.Out.{Out}
use Rattle.smk_world.specs.declared.recipe.Recipe.{Recipe}
use Rattle.smk_world.specs.World.{World, run, in_paths, out_paths, reads_nothing, reads_folder}
use Rattle.smk_world.specs.Calls.{StatIs, failed, device_failed}
use Rattle.smk_world.specs.Devices.{Device, WhereTold, HasCalled, HasActed, AreLooks as OnlyLooks}
use Rattle.smk_world.specs.Requests.{Request, request, AreQuiet}
use Rattle.smk_world.specs.Requests.Request.{Look, ReadUpTo, ListFolder, Write, Create, Remove, MakeParents, Settle, Protect, Start, Wait}
use Rattle.smk_world.specs.Trees.{Path, Act, Each, among, folders_of, outs_of, is_folder_kind, is_path_text}
use Rattle.smk_world.proofs.Devices.{acted_nothing, acted_call, acted_then, acted_as, looks_append, looks_nodes}
use Rattle.smk_record.specs.declared.record.Member.{Member}
use Rattle.smk_record.specs.Records.{record_of, is_valid, are_valid_members, are_none, is_earlier, is_format, is_in_format, are_rising}
use Rattle.smk_store_members.specs.declared.listed.Listed.{Listed}
use Rattle.smk_store_members.specs.declared.listed.Listed.TheVariants.{Members, BadMember}
use Rattle.smk_store_members.specs.Members.{IsOpenFolder, IsListed}
use Rattle.smk_store_members.specs.Walks.{IsListingIn, AreListings}
use Rattle.smk_job.specs.declared.folders.Sight.{Sight}
use Rattle.smk_job.specs.declared.folders.Sight.TheVariants.{Good, Bad}
use Rattle.smk_job.specs.declared.sight.Wrong.{Wrong}
use Rattle.smk_job.specs.declared.sight.Wrong.TheVariants.{Absent, OtherKind, Unlisted}
use Rattle.smk_job.specs.Sights.{Nodes, reads_file, AreMembers, IsOfKind, IsWrong, IsListing, AreLooks, AreSeen, IsSeenWrong, IsBlind, AreLookedAt, AreKnown, path_at, wrong_of, wrong_fault}
use Rattle.smk_job.specs.declared.folders.View.{View}
use Rattle.smk_job.specs.declared.folders.View.TheVariants.{Records, Wrongly}
use Rattle.smk_job.specs.Views.{Core, HasViewed, bytes_of, sight_of, folder_out, IsFree, AreListed, IsGood, IsSo, HasListed, HasView, HasLookedInto, HasLookedAt, HasLookedThrough, bytes_all, AreGood, AreGoodSoFar}
use Rattle.smk_job.proofs.Acts.{acted_in}
use Rattle.smk_job.proofs.Looking.{plain_fit, plain_wrong, seen_next, wrong_next, blind_next, around, next, path_of_at}
use Rattle.smk_store_members.proofs.Lists.{each_at, each_unmap}
use Rattle.smk_store_members.proofs.Listings.{listings_look}
use Rattle.smk_job.proofs.Outs.{paths_same}

-- ## Records with members

-- another test in place of the last but one
other_true : (bs : List Bool) (b c d : Bool) → list_all (λ (x : Bool). x) (bs ++ b ∷ d ∷ []) ≡ true → c ≡ true → list_all (λ (x : Bool). x) (bs ++ c ∷ d ∷ []) ≡ true
other_true [] b c d h k = both_true c (d && true) k (and_second b (d && true) h)
other_true (x ∷ bs) b c d h k = both_true x (list_all (λ (x : Bool). x) (bs ++ c ∷ d ∷ [])) (and_first x (list_all (λ (x : Bool). x) (bs ++ b ∷ d ∷ [])) h)
    (other_true bs b c d (and_second x (list_all (λ (x : Bool). x) (bs ++ b ∷ d ∷ [])) h) k)

-- a record without members is valid, and these are members: then so is the record with them
pub valid_with : (k : Core) (p : Path) (members : List Member) → among (folders_of k.recipe) p ≡ true → is_valid (record_of p k.made k.recipe k.stamps []) ≡ true → are_valid_members p members ≡ true
    → is_valid (record_of p k.made k.recipe k.stamps members) ≡ true
valid_with k p members folder valid good =
    other_true
    ((length k.stamps == length (in_paths k.recipe))
    ∷ among (out_paths k.recipe) p
    ∷ nat_le 1 k.made
    ∷ list_all (is_earlier k.made) k.stamps
    ∷ are_rising (map (λ (w : Pair). w.name) k.recipe.wildcards)
    ∷ list_all is_path_text (in_paths k.recipe)
    ∷ list_all is_path_text (out_paths k.recipe)
    ∷ [])
    (if among (folders_of k.recipe) p then are_valid_members p [] else are_none [])
    (if among (folders_of k.recipe) p then are_valid_members p members else are_none members)
    (is_format 2 && list_all (is_in_format 2) k.stamps)
    valid
    (ap (λ (b : Bool). if b then are_valid_members p members else are_none members) folder ∙ good)

pub good_sight : (k : Core) (p : Path) (members : List Member) (s : Sight) → s ≡ sight_of k p members → is_valid (record_of p k.made k.recipe k.stamps members) ≡ true → s ≡ Good (bytes_of k p members)
good_sight k p members s is valid = is ∙ ap (λ (b : Bool). if b then Good (bytes_of k p members) else Bad Unlisted) valid

-- ## Listings of a directory output

listing_as : (p : Path) (r : Request) → IsListingIn p r → IsListing (folder_out p) r
listing_as p (Look q) h = absurd h
listing_as p (ReadUpTo q n) h = absurd h
listing_as p (ListFolder q) h = (refl, h)
listing_as p (Write q bytes) h = absurd h
listing_as p (Create q) h = absurd h
listing_as p (Remove q) h = absurd h
listing_as p (MakeParents q) h = absurd h
listing_as p (Settle qs) h = absurd h
listing_as p (Protect q) h = absurd h
listing_as p (Start recipe logs command) h = absurd h
listing_as p Wait h = absurd h

listed_as : (p : Path) (es : List Event) → Each (λ (e : Event). IsListingIn p (request e.call)) es → AreListed (folder_out p) es
listed_as p [] h = tt
listed_as p (e ∷ es) h = (listing_as p (request e.call) h.0, listed_as p es h.1)

pub err_is : {T : Type 0} (s : Result T WorkFault) (x : WorkFault) → IsErrAnd s (λ y. y ≡ x) → s ≡ Err x
err_is (Ok t) x h = absurd h
err_is (Err y) x h = ap (λ (z : WorkFault). Err z) h

-- the listing failed
pub listed_badly : (act : Act) (a b : Device) (k : Core) (p : Path) (x : WorkFault) (s : Result Sight WorkFault) → IsErrAnd s (λ y. y ≡ x)
    → HasActed act (λ w es. AreListings p (device_failed {T = Listed} (Err x)) es) a b (device_failed {T = Listed} (Err x)) → HasActed act (HasLookedInto k p s) a b (device_failed s)
listed_badly act a b k p x s same h = subst (λ t. HasActed act (HasLookedInto k p t) a b (device_failed t)) (sym (err_is s x same)) (by x h)
  where
    by : (x : WorkFault) → HasActed act (λ w es. AreListings p (device_failed {T = Listed} (Err x)) es) a b (device_failed {T = Listed} (Err x)) → HasActed act (HasLookedInto k p (Err x)) a b (device_failed {T = Sight} (Err x))
    by FailedFault g =
        acted_as act (λ w es. AreListings p true es) (HasLookedInto k p (Err FailedFault)) a b true true refl
        (λ w es are. record { looks = listings_look p true es are; listed = λ free folder. (listed_as p es are.0, are.1) }) g
    by MemoryFault g =
        acted_as act (λ w es. AreListings p false es) (HasLookedInto k p (Err MemoryFault)) a b false false refl
        (λ w es are. record { looks = listings_look p false es are; listed = λ free folder. (listed_as p es are.0, are.1) }) g

abbrev Told : Path → Listed → World → Type 0
Told p l w = IsOpenFolder w.nodes p → IsListed w.nodes p l

-- a record can't tell what is there
pub listed_none : (act : Act) (a b : Device) (k : Core) (p : Path) (l : Listed) → l ≡ BadMember → HasActed act (λ w es. AreListings p false es) a b false → WhereTold a (Told p l)
    → HasActed act (HasLookedInto k p (Ok (Bad Unlisted))) a b false
listed_none act a b k p l none h told =
    acted_in act (λ w es. AreListings p false es) (HasLookedInto k p (Ok (Bad Unlisted))) a b false false refl
    (λ w es at are. record {
      looks = listings_look p false es are;
      listed = λ free folder. (listed_as p es are.0, are.1, (refl, folder, subst (λ (x : Listed). IsListed w.nodes p x) none (told w at (record { folder = folder; unowned = free }))));
    })
    h

-- all that is there
pub listed_well : (act : Act) (a b : Device) (k : Core) (p : Path) (l : Listed) (members : List Member) (s : Sight) → l ≡ Members members → s ≡ sight_of k p members
    → among (folders_of k.recipe) p ≡ true → is_valid (record_of p k.made k.recipe k.stamps []) ≡ true → HasActed act (λ w es. AreListings p false es) a b false → WhereTold a (Told p l)
    → HasActed act (HasLookedInto k p (Ok s)) a b false
listed_well act a b k p l members s some sight folder_in valid h told =
    acted_in act (λ w es. AreListings p false es) (HasLookedInto k p (Ok s)) a b false false refl
    (λ w es at are. record {
      looks = listings_look p false es are;
      listed = λ free folder.
          let them : AreMembers w.nodes p members = subst (λ (x : Listed). IsListed w.nodes p x) some (told w at (record { folder = folder; unowned = free })) in
          (listed_as p es are.0, are.1, subst (IsSo k w.nodes (folder_out p)) (sym (good_sight k p members s sight (valid_with k p members folder_in valid them.valid))) (members, (folder, them), refl));
    })
    h

-- memory was short
pub listed_short : (act : Act) (a b : Device) (k : Core) (p : Path) (s : Result Sight WorkFault) → IsErrAnd s (λ y. y ≡ MemoryFault) → HasActed act (λ w es. AreListings p false es) a b false
    → HasActed act (HasLookedInto k p s) a b (device_failed s)
listed_short act a b k p s short h =
    subst (λ t. HasActed act (HasLookedInto k p t) a b (device_failed t)) (sym (err_is s MemoryFault short))
    (acted_as act (λ w es. AreListings p false es) (HasLookedInto k p (Err MemoryFault)) a b false false refl
    (λ w es are. record { looks = listings_look p false es are; listed = λ free folder. (listed_as p es are.0, are.1) }) h)

-- ## A look at one output

folder_fit : (s : Stat) (st : NodeState) → (st ≡ Owned → ⊥) → StatIs s st → wrong_of Folder s ≡ None → reads_folder st ≡ true
folder_fit s Owned known is fits = absurd (known refl)
folder_fit Nothing (Known n besides) known is fits = cc
folder_fit (File time read_only) (Known n besides) known is fits = cc
folder_fit FolderStat (Known None besides) known is fits = cc
folder_fit FolderStat (Known (Some (Regular bytes t r)) besides) known is fits = cc
folder_fit FolderStat (Known (Some Directory) besides) known is fits = refl

nothing_there : (nodes : Nodes) (p : Path) (st : NodeState) → nodes p ≡ st → (st ≡ Owned → ⊥) → StatIs Nothing st → IsWrong nodes p Folder (wrong_fault Absent p)
nothing_there nodes p Owned e known is = absurd (known refl)
nothing_there nodes p (Known None besides) e known is = (refl, ap reads_nothing e)
nothing_there nodes p (Known (Some Directory) besides) e known is = cc
nothing_there nodes p (Known (Some (Regular bytes t r)) besides) e known is = cc

file_there : (nodes : Nodes) (p : Path) (time : ℕ) (read_only : Bool) (st : NodeState) → nodes p ≡ st → (st ≡ Owned → ⊥) → StatIs (File time read_only) st → IsWrong nodes p Folder (wrong_fault OtherKind p)
file_there nodes p time read_only Owned e known is = absurd (known refl)
file_there nodes p time read_only (Known None besides) e known is = cc
file_there nodes p time read_only (Known (Some Directory) besides) e known is = cc
file_there nodes p time read_only (Known (Some (Regular bytes t r)) besides) e known is = (refl, ap reads_file e)

folder_wrong : (nodes : Nodes) (p : Path) (s : Stat) (x : Wrong) → (nodes p ≡ Owned → ⊥) → StatIs s (nodes p) → wrong_of Folder s ≡ Some x → IsWrong nodes p Folder (wrong_fault x p)
folder_wrong nodes p Nothing x known is wrong = subst (λ y. IsWrong nodes p Folder (wrong_fault y p)) (same_Some Absent x wrong) (nothing_there nodes p (nodes p) refl known is)
folder_wrong nodes p FolderStat x known is wrong = cc
folder_wrong nodes p (File time read_only) x known is wrong = subst (λ y. IsWrong nodes p Folder (wrong_fault y p)) (same_Some OtherKind x wrong) (file_there nodes p time read_only (nodes p) refl known is)

any_wrong : (kind : Kind) (nodes : Nodes) (p : Path) (s : Stat) (x : Wrong) → (nodes p ≡ Owned → ⊥) → StatIs s (nodes p) → wrong_of kind s ≡ Some x → IsWrong nodes p kind (wrong_fault x p)
any_wrong Plain nodes p s x known is wrong = plain_wrong nodes p s x known is wrong
any_wrong Folder nodes p s x known is wrong = folder_wrong nodes p s x known is wrong

abbrev look_event : Path → Result Stat Failed → List Change → Event
look_event p r left = record { call = Looked p r; left = left }

quiet_one : (e : Event) → failed e.call ≡ false → AreQuiet (e ∷ [])
quiet_one e h = All-cons (λ (d : Event). failed d.call ≡ false) e [] h (All-nil (λ (d : Event). failed d.call ≡ false))

-- the look failed
pub view_blind : (act : Act) (a b : Device) (k : Core) (out : Out) (p : Path) (f : Failed) (s : Result Sight WorkFault) → p ≡ out.path → IsErrAnd s (λ y. y ≡ FailedFault) → HasCalled act a b (Looked p (Err f))
    → HasActed act (HasLookedAt k out s) a b (device_failed s)
view_blind act a b k out p f s at fault h =
    subst (λ t. HasActed act (HasLookedAt k out t) a b (device_failed t)) (sym (err_is s FailedFault fault))
    (acted_call act (HasLookedAt k out (Err FailedFault)) a b (Looked p (Err f)) refl
    (λ w left lets. record {
      looks = (refl, refl);
      view = λ free. ((ap Look at, tt), ([], look_event p (Err f) left, refl, All-nil (λ (d : Event). failed d.call ≡ false), refl));
    })
    h)

-- something is wrong
pub view_wrong : (act : Act) (a b : Device) (k : Core) (out : Out) (p : Path) (s : Stat) (x : Wrong) → p ≡ out.path → wrong_of out.kind s ≡ Some x → HasCalled act a b (Looked p (Ok s))
    → HasActed act (HasLookedAt k out (Ok (Bad x))) a b false
view_wrong act a b k out p s x at wrong h =
    acted_call act (HasLookedAt k out (Ok (Bad x))) a b (Looked p (Ok s)) refl
    (λ w left lets. record {
      looks = (refl, refl);
      view = λ free. (
        (ap Look at, tt),
        quiet_one (look_event p (Ok s) left) refl,
        any_wrong out.kind w.nodes out.path s x (free out.path (at_itself out.path)) (subst (λ (q : Path). StatIs s (w.nodes q)) at lets.1) wrong,
      );
    })
    h

kind_plain : (k : Core) (nodes : Nodes) (out : Out) (b : List ℕ) → out.kind ≡ Plain → reads_file (nodes out.path) ≡ true → b ≡ bytes_of k out.path [] → IsGood k nodes out b
kind_plain k nodes out b plain reads is = ([], subst (λ (x : Kind). IsOfKind nodes out.path x []) (sym plain) (reads, refl), is)

-- it is a file, as it is to be
pub view_plain : (act : Act) (a b : Device) (k : Core) (out : Out) (p : Path) (s : Stat) (sight : Sight) → p ≡ out.path → wrong_of out.kind s ≡ None → out.kind ≡ Plain → sight ≡ sight_of k out.path []
    → is_valid (record_of out.path k.made k.recipe k.stamps []) ≡ true → HasCalled act a b (Looked p (Ok s)) → HasActed act (HasLookedAt k out (Ok sight)) a b false
view_plain act a b k out p s sight at fits plain sight_is valid h =
    acted_call act (HasLookedAt k out (Ok sight)) a b (Looked p (Ok s)) refl
    (λ w left lets. record {
      looks = (refl, refl);
      view = λ free.
          let reads : reads_file (w.nodes out.path) ≡ true = plain_fit s (w.nodes out.path) (free out.path (at_itself out.path)) (subst (λ (q : Path). StatIs s (w.nodes q)) at lets.1) (ap (λ (x : Kind). wrong_of x s) (sym plain) ∙ fits) in (
            (ap Look at, tt),
            quiet_one (look_event p (Ok s) left) refl,
            subst (IsSo k w.nodes out) (sym (good_sight k out.path [] sight sight_is valid)) (kind_plain k w.nodes out (bytes_of k out.path []) plain reads refl),
          );
    })
    h

-- memory was short
pub view_short : (act : Act) (a b : Device) (k : Core) (out : Out) (p : Path) (s : Stat) (result : Result Sight WorkFault) → p ≡ out.path → IsErrAnd result (λ y. y ≡ MemoryFault) → HasCalled act a b (Looked p (Ok s))
    → HasActed act (HasLookedAt k out result) a b (device_failed result)
view_short act a b k out p s result at short h =
    subst (λ t. HasActed act (HasLookedAt k out t) a b (device_failed t)) (sym (err_is result MemoryFault short))
    (acted_call act (HasLookedAt k out (Err MemoryFault)) a b (Looked p (Ok s)) refl
    (λ w left lets. record { looks = (refl, refl); view = λ free. ((ap Look at, tt), quiet_one (look_event p (Ok s) left) refl) }) h)

with_listing : (k : Core) (nodes : Nodes) (out : Out) (e : Event) (r : Result Sight WorkFault) (es : List Event) → request e.call ≡ Look out.path → failed e.call ≡ false → HasListed k nodes out r es → HasView k nodes out r (e ∷ es)
with_listing k nodes out e (Ok sight) es at quiet (all, q, so) = ((at, all), All-cons (λ (d : Event). failed d.call ≡ false) e es quiet q, so)
with_listing k nodes out e (Err FailedFault) es at quiet (all, (before, last, is, q, bad)) =
    ((at, all), (e ∷ before, last, ap (λ (t : List Event). e ∷ t) is, All-cons (λ (d : Event). failed d.call ≡ false) e before quiet q, bad))
with_listing k nodes out e (Err MemoryFault) es at quiet (all, q) = ((at, all), All-cons (λ (d : Event). failed d.call ≡ false) e es quiet q)

out_is : (out : Out) → out.kind ≡ Folder → folder_out out.path ≡ out
out_is out h = λ i. record { path = out.path; kind = sym h i }

-- one look at the place, which answered this
abbrev HasStat : Path → Stat → World → List Event → Type 0
HasStat p s w es = (left : List Change) × (es ≡ look_event p (Ok s) left ∷ []) × StatIs s (w.nodes p)

-- it is a directory, as it is to be, and was listed
pub view_folder : (act : Act) (a b c : Device) (k : Core) (out : Out) (p : Path) (s : Stat) (result : Result Sight WorkFault) → p ≡ out.path → wrong_of out.kind s ≡ None → out.kind ≡ Folder
    → HasCalled act a b (Looked p (Ok s)) → HasActed act (HasLookedInto k out.path result) b c (device_failed result) → HasActed act (HasLookedAt k out result) a c (device_failed result)
view_folder act a b c k out p s result at fits folder h into =
    acted_then act (HasStat p s) (HasLookedInto k out.path result) (HasLookedAt k out result) a b c (device_failed result)
    (λ w es fs follows stat follows2 so. record {
      looks = looks_append (device_failed result) es fs (subst (OnlyLooks false) (sym stat.1) (refl, refl)) so.looks;
      view = λ free.
          let same : (run w es).nodes ≡ w.nodes = ap (λ (t : List Event). (run w t).nodes) stat.1 in
          let reads : reads_folder (w.nodes out.path) ≡ true = folder_fit s (w.nodes out.path) (free out.path (at_itself out.path)) (subst (λ (q : Path). StatIs s (w.nodes q)) at stat.2) (ap (λ (x : Kind). wrong_of x s) (sym folder) ∙ fits) in
          let listed : HasListed k w.nodes (folder_out out.path) result fs = (subst (λ (ns : Nodes). IsFree ns out.path → reads_folder (ns out.path) ≡ true → HasListed k ns (folder_out out.path) result fs) same so.listed) free reads in
          subst (λ (t : List Event). HasView k w.nodes out result (t ++ fs)) (sym stat.1)
          (with_listing k w.nodes out (look_event p (Ok s) stat.0) result fs (ap Look at) refl (subst (λ (o : Out). HasListed k w.nodes o result fs) (out_is out folder) listed));
    })
    (acted_call act (HasStat p s) a b (Looked p (Ok s)) refl (λ w left lets. (left, refl, lets.1)) h) into

-- ## One output after another

bytes_next : (k : Core) (nodes : Nodes) (outs : List Out) (ms : List (List Member)) (es : List Event) (out : Out) (m : List Member) → AreSeen nodes outs ms es → bytes_all k (outs ++ out ∷ []) (ms ++ m ∷ []) ≡ bytes_all k outs ms ++ bytes_of k out.path m ∷ []
bytes_next k nodes [] [] es out m h = refl
bytes_next k nodes [] (x ∷ ms) es out m h = absurd h
bytes_next k nodes (o ∷ outs) [] es out m h = absurd h
bytes_next k nodes (o ∷ outs) (x ∷ ms) es out m (f, more, e, l, q, kind, rest) = ap (λ (t : List (List ℕ)). bytes_of k o.path x ∷ t) (bytes_next k nodes outs ms more out m rest)

good_next : (k : Core) (nodes : Nodes) (outs : List Out) (records new : List (List ℕ)) (es fs : List Event) (out : Out) (bytes : List ℕ) → AreGood k nodes outs records es → HasView k nodes out (Ok (Good bytes)) fs → new ≡ records ++ bytes ∷ []
    → AreGood k nodes (outs ++ out ∷ []) new (es ++ fs)
good_next k nodes outs records new es fs out bytes (ms, seen, is) (looks, quiet, (m, kind, made)) pushed = (
  ms ++ m ∷ [],
  seen_next nodes outs ms es out m fs seen looks quiet kind,
  pushed ∙ ap (λ (t : List (List ℕ)). t ++ bytes ∷ []) is ∙ ap (λ (b : List ℕ). bytes_all k outs ms ++ b ∷ []) made ∙ sym (bytes_next k nodes outs ms es out m seen),
)

looked_next : (nodes : Nodes) (outs : List Out) (ms : List (List Member)) (es : List Event) (out : Out) (later : List Out) (first : List Event) → AreSeen nodes outs ms es → AreLooks out first → AreQuiet first → AreLookedAt (outs ++ out ∷ later) (es ++ first)
looked_next nodes [] [] es out later first h looks quiet = subst (AreLookedAt (out ∷ later)) (sym (ap (λ (t : List Event). t ++ first) h)) (inr (first, [], sym (append-nil first), looks, quiet, none_left later))
  where
    none_left : (outs : List Out) → AreLookedAt outs []
    none_left [] = refl
    none_left (o ∷ outs) = inl refl
looked_next nodes [] (x ∷ ms) es out later first h looks quiet = absurd h
looked_next nodes (o ∷ outs) [] es out later first h looks quiet = absurd h
looked_next nodes (o ∷ outs) (x ∷ ms) es out later first (f, more, e, l, q, kind, rest) looks quiet =
    inr (f, more ++ first, ap (λ (t : List Event). t ++ first) e ∙ append_assoc f more first, l, q, looked_next nodes outs ms more out later first rest looks quiet)

module _ (act : Act) (k : Core) (outs : List Out) (i : ℕ) (out : Out) (lt : i < length outs) (is : out ≡ get_or outs i out) where
  known_here : (nodes : Nodes) → AreKnown nodes outs → IsFree nodes out.path
  known_here nodes known = subst (λ (o : Out). IsFree nodes o.path) (sym is) (each_at (λ (o : Out). IsFree nodes o.path) outs i out lt known)

  view_next : (a b c : Device) (R : World → List Event → Type 0) (records : List (List ℕ)) (r : Result Sight WorkFault)
      → HasActed act (AreGoodSoFar k outs (take i outs) records) a b false → HasActed act (HasLookedAt k out r) b c (device_failed r)
      → ((w : World) (es fs : List Event) → AreKnown w.nodes outs → AreGood k w.nodes (take i outs) records es → HasView k w.nodes out r fs → R w (es ++ fs))
      → HasActed act (λ w es. OnlyLooks (device_failed r) es × (AreKnown w.nodes outs → R w es)) a c (device_failed r)
  view_next a b c R records r before now more =
      acted_then act (AreGoodSoFar k outs (take i outs) records) (HasLookedAt k out r) (λ w es. OnlyLooks (device_failed r) es × (AreKnown w.nodes outs → R w es)) a b c (device_failed r)
      (λ w es fs follows so follows2 at. (
        looks_append (device_failed r) es fs so.looks at.looks,
        λ known. more w es fs known (so.good known) ((subst (λ (ns : Nodes). IsFree ns out.path → HasView k ns out r fs) (looks_nodes false w es so.looks) at.view) (known_here w.nodes known)),
      ))
      before now

  -- it is as it should be
  pub good_more : (a b c : Device) (records new : List (List ℕ)) (s : Sight) (bytes : List ℕ) → s ≡ Good bytes → new ≡ records ++ bytes ∷ []
      → HasActed act (AreGoodSoFar k outs (take i outs) records) a b false → HasActed act (HasLookedAt k out (Ok s)) b c false → HasActed act (AreGoodSoFar k outs (take (i + 1) outs) new) a c false
  good_more a b c records new s bytes good pushed before now =
      acted_as act (λ w es. OnlyLooks false es × (AreKnown w.nodes outs → AreGood k w.nodes (take (i + 1) outs) new es)) (AreGoodSoFar k outs (take (i + 1) outs) new) a c false false refl
      (λ w es h. record { looks = h.0; good = h.1 })
      (view_next a b c (λ w es. AreGood k w.nodes (take (i + 1) outs) new es) records (Ok s) before now
      (λ w es fs known so view.
      subst (λ (os : List Out). AreGood k w.nodes os new (es ++ fs)) (sym (next outs i out lt is))
      (good_next k w.nodes (take i outs) records new es fs out bytes so (subst (λ (x : Sight). HasView k w.nodes out (Ok x) fs) good view) pushed)))

  through : (a b : Device) (r : Result View WorkFault) (f : Bool) → f ≡ device_failed r → HasActed act (λ w es. OnlyLooks f es × (AreKnown w.nodes outs → HasViewed k w.nodes outs r es)) a b f
      → HasActed act (HasLookedThrough k outs r) a b (device_failed r)
  through a b r f same h =
      acted_as act (λ w es. OnlyLooks f es × (AreKnown w.nodes outs → HasViewed k w.nodes outs r es)) (HasLookedThrough k outs r) a b f (device_failed r) same
      (λ w es so. record { looks = subst (λ x. OnlyLooks x es) same so.0; viewed = so.1 }) h

  -- something is wrong with it
  pub viewed_wrong : (a b c : Device) (records : List (List ℕ)) (s : Sight) (x : Wrong) → s ≡ Bad x → HasActed act (AreGoodSoFar k outs (take i outs) records) a b false → HasActed act (HasLookedAt k out (Ok s)) b c false
      → HasActed act (HasLookedThrough k outs (Ok (Wrongly i x))) a c false
  viewed_wrong a b c records s x bad before now =
      through a c (Ok (Wrongly i x)) false refl
      (view_next a b c (λ w es. HasViewed k w.nodes outs (Ok (Wrongly i x)) es) records (Ok s) before now
      (λ w es fs known so view.
      let v : HasView k w.nodes out (Ok (Bad x)) fs = subst (λ (y : Sight). HasView k w.nodes out (Ok y) fs) bad view in
      subst (λ (os : List Out). IsSeenWrong w.nodes os (wrong_fault x (path_at outs i)) (es ++ fs)) (sym (around outs i out lt is))
      (wrong_next w.nodes (take i outs) so.0 es out (drop (suc i) outs) (wrong_fault x (path_at outs i)) fs so.1 v.0 v.1
      (subst (λ (q : Path). IsWrong w.nodes out.path out.kind (wrong_fault x q)) (sym (path_of_at outs i out lt is)) v.2))))

  -- the look failed, or memory was short for it
  pub viewed_failed : (a b c : Device) (records : List (List ℕ)) (x : WorkFault) (s : Result View WorkFault) → IsErrAnd s (λ y. y ≡ x)
      → HasActed act (AreGoodSoFar k outs (take i outs) records) a b false → HasActed act (HasLookedAt k out (Err x)) b c (device_failed {T = Sight} (Err x)) → HasActed act (HasLookedThrough k outs s) a c (device_failed s)
  viewed_failed a b c records x s err before now = subst (λ t. HasActed act (HasLookedThrough k outs t) a c (device_failed t)) (sym (err_is s x err)) (by x now)
    where
      by : (x : WorkFault) → HasActed act (HasLookedAt k out (Err x)) b c (device_failed {T = Sight} (Err x)) → HasActed act (HasLookedThrough k outs (Err x)) a c (device_failed {T = View} (Err x))
      by FailedFault h =
          through a c (Err FailedFault) true refl
          (view_next a b c (λ w es. IsBlind outs es) records (Err FailedFault) before h
          (λ w es fs known so view. subst (λ (os : List Out). IsBlind os (es ++ fs)) (sym (around outs i out lt is)) (blind_next w.nodes (take i outs) so.0 es out (drop (suc i) outs) fs so.1 view.0 view.1)))
      by MemoryFault h =
          through a c (Err MemoryFault) false refl
          (view_next a b c (λ w es. AreLookedAt outs es) records (Err MemoryFault) before h
          (λ w es fs known so view. subst (λ (os : List Out). AreLookedAt os (es ++ fs)) (sym (around outs i out lt is)) (looked_next w.nodes (take i outs) so.0 es out (drop (suc i) outs) fs so.1 view.0 view.1)))

  -- memory was short for the records
  pub viewed_short : (a b c : Device) (records : List (List ℕ)) (x : Sight) (s : Result View WorkFault) (bytes : List ℕ) → x ≡ Good bytes → IsErrAnd s (λ y. y ≡ MemoryFault)
      → HasActed act (AreGoodSoFar k outs (take i outs) records) a b false → HasActed act (HasLookedAt k out (Ok x)) b c false → HasActed act (HasLookedThrough k outs s) a c (device_failed s)
  viewed_short a b c records x s bytes good err before now =
      subst (λ t. HasActed act (HasLookedThrough k outs t) a c (device_failed t)) (sym (err_is s MemoryFault err))
      (through a c (Err MemoryFault) false refl
      (view_next a b c (λ w es. AreLookedAt outs es) records (Ok x) before now
      (λ w es fs known so view.
      let v : HasView k w.nodes out (Ok (Good bytes)) fs = subst (λ (y : Sight). HasView k w.nodes out (Ok y) fs) good view in
      subst (λ (os : List Out). AreLookedAt os (es ++ fs)) (sym (around outs i out lt is)) (looked_next w.nodes (take i outs) so.0 es out (drop (suc i) outs) fs so.1 v.0 v.1))))

-- none was looked at
pub viewed_none : (act : Act) (k : Core) (outs : List Out) (a : Device) → HasActed act (AreGoodSoFar k outs [] []) a a false
viewed_none act k outs a = acted_nothing act (AreGoodSoFar k outs [] []) a (λ w. record { looks = refl; good = λ known. ([], refl, refl) })

-- all were as they should be
pub viewed_all : (act : Act) (k : Core) (outs : List Out) (i : ℕ) (records : List (List ℕ)) (a b : Device) → length outs ≤ i → HasActed act (AreGoodSoFar k outs (take i outs) records) a b false
    → HasActed act (HasLookedThrough k outs (Ok (Records records))) a b false
viewed_all act k outs i records a b le h =
    acted_as act (AreGoodSoFar k outs (take i outs) records) (HasLookedThrough k outs (Ok (Records records))) a b false false refl
    (λ w es so. record { looks = so.looks; viewed = λ known. subst (λ (os : List Out). AreGood k w.nodes os records es) (take_all i outs le) (so.good known) }) h

-- ## The outputs of a job

pub within_places : (outs : List Out) (places : List Path) (i : ℕ) → places ≡ map (λ (out : Out). out.path) outs → i < length outs → i < length places
within_places outs places i at lt = subst (λ (ps : List Path). i < length ps) (sym at) (by outs i lt)
  where
    by : (os : List Out) (n : ℕ) → n < length os → n < length (map (λ (out : Out). out.path) os)
    by [] n lt2 = absurd (omega (arith, lt2))
    by (o ∷ os) zero lt2 = omega arith
    by (o ∷ os) (suc n) lt2 = let more = by os n (omega (arith, lt2)) in omega (arith, more)

among_first : (o : Out) (rest : List Out) (b : Bool) → b ≡ true → among (map (λ (out : Out). out.path) (if b then o ∷ rest else rest)) o.path ≡ true
among_first o rest true h = or_first (bytes_eq o.path o.path) (among (map (λ (out : Out). out.path) rest) o.path) (place_itself o.path)
among_first o rest false h = absurd cc

among_later : (o : Out) (rest : List Out) (q : Path) (b : Bool) → among (map (λ (out : Out). out.path) rest) q ≡ true → among (map (λ (out : Out). out.path) (if b then o ∷ rest else rest)) q ≡ true
among_later o rest q true h = or_second (bytes_eq q o.path) (among (map (λ (out : Out). out.path) rest) q) h
among_later o rest q false h = h

among_at : (outs : List Out) (i : ℕ) (d : Out) → i < length outs → is_folder_kind (get_or outs i d).kind ≡ true
    → among (map (λ (out : Out). out.path) (filter (λ (out : Out). is_folder_kind out.kind) outs)) (get_or outs i d).path ≡ true
among_at [] i d lt h = absurd (omega arith)
among_at (o ∷ outs) zero d lt h = among_first o (filter (λ (out : Out). is_folder_kind out.kind) outs) (is_folder_kind o.kind) h
among_at (o ∷ outs) (suc i) d lt h =
    among_later o (filter (λ (out : Out). is_folder_kind out.kind) outs) (get_or outs i d).path (is_folder_kind o.kind) (among_at outs i d (omega arith) h)

pub folder_among : (recipe : Recipe) (outs : List Out) (i : ℕ) (out : Out) → outs ≡ outs_of recipe → i < length outs → out ≡ get_or outs i out → is_folder_kind out.kind ≡ true → among (folders_of recipe) out.path ≡ true
folder_among recipe outs i out are lt is kind =
    subst (λ (os : List Out). among (map (λ (out : Out). out.path) (filter (λ (out : Out). is_folder_kind out.kind) os)) out.path ≡ true) are
    (subst (λ (o : Out). among (map (λ (out : Out). out.path) (filter (λ (out : Out). is_folder_kind out.kind) outs)) o.path ≡ true) (sym is)
    (among_at outs i out lt (ap (λ (o : Out). is_folder_kind o.kind) (sym is) ∙ kind)))

pub valid_at : (P : Path → Type 0) (recipe : Recipe) (outs : List Out) (i : ℕ) (out : Out) → outs ≡ outs_of recipe → i < length outs → out ≡ get_or outs i out → Each P (out_paths recipe) → P out.path
valid_at P recipe outs i out are lt is valid =
    subst (λ (o : Out). P o.path) (sym is)
    (each_at (λ (o : Out). P o.path) outs i out lt
    (each_unmap P (λ (out : Out). out.path) outs (subst (Each P) (sym (ap (map (λ (out : Out). out.path)) are ∙ paths_same recipe.outputs)) valid)))

pub outs_as : (act : Act) (a b : Device) (k : Core) (outs others : List Out) (r : Result View WorkFault) (f : Bool) → outs ≡ others → HasActed act (HasLookedThrough k outs r) a b f → HasActed act (HasLookedThrough k others r) a b f
outs_as act a b k outs others r f e h = subst (λ (os : List Out). HasActed act (HasLookedThrough k os r) a b f) e h

pub one_longer : (records new : List (List ℕ)) (b : List ℕ) (i : ℕ) → length records ≡ i → new ≡ records ++ b ∷ [] → length new ≡ i + 1
one_longer records new b i size pushed = ap length pushed ∙ length-append records (b ∷ []) ∙ ap (λ (n : ℕ). n + 1) size
