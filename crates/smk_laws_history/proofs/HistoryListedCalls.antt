-- Each call of the protocol keeps directories listed.
use Rattle.std.proofs.Common.{◌≡◌, ◌⊎◌, ℕ, Bool, true, false, not, ◌&&◌, ◌||◌, List, [], ◌∷◌, ◌+◌, map, drop, length, refl, sym, ap, subst, inl, inr, ◌∙◌, Option, Some, None, Ok, Err, IsSome, IsTrue, true≢false}
use Rattle.std.specs.Prelude.{bytes_eq, nat_eq, is_some, option_map, if◌then◌else◌, Result}
use Rattle.std.specs.List.{list_any}
use Rattle.smk_base.specs.Path.{is_under, is_at_or_under, overlaps}
use Rattle.smk_base.specs.Place.{record_place, mark_place, note_place, lock_place}
use Rattle.smk_base.proofs.Places.{same_place, place_itself}
use Rattle.smk_base.proofs.Under.{never_both, false_unless, at_itself, at_when_under, at_or_under_further, overlaps_above_both}
use Rattle.smk_base.specs.declared.tree.Tree.{Tree}
use Rattle.smk_base.specs.declared.tree.Tree.TheVariants.{File, Folder as Entries}
use Rattle.smk_base.specs.declared.tree.TreeEntry.{TreeEntry}
use Rattle.smk_world.specs.declared.recipe.Kind.TheVariants.{Plain, Folder}
use Rattle.smk_world.specs.declared.event.Node.{Node}
use Rattle.smk_world.specs.declared.event.Node.TheVariants.{Regular, Directory}
use Rattle.smk_world.specs.declared.event.NodeState.{NodeState}
use Rattle.smk_world.specs.declared.event.NodeState.TheVariants.{Owned, Known}
use Rattle.smk_world.specs.declared.event.Besides.{Besides}
use Rattle.smk_world.specs.declared.event.Besides.TheVariants.{Anything, OneOf}
use Rattle.smk_world.specs.declared.event.Call.{Call}
use Rattle.smk_world.specs.declared.event.Call.TheVariants.{Looked, ReadFile, ReadFolder, Written, Created, Removed, MadeParents, Settled, Protected, Started, Waited}
use Rattle.smk_world.specs.declared.event.Change.{Change as LeftNode}
use Rattle.smk_world.specs.declared.event.Child.{Child}
use Rattle.smk_world.specs.declared.event.Failed.{Failed}
use Rattle.smk_world.specs.World.{World, IsFormed, MayLeave, IsBeside, after, reading, reads_nothing, firm, firmly, loose, going, or_also, standing, with_flag, with_folder, is_within, is_above, reads_folder, owned_paths, owned_of, child_numbered}
use Rattle.smk_world.specs.Trees.{Path, IsIn, Each, is_path_text, is_folder_kind, among, folders_of}
use Rattle.smk_record.specs.declared.record.Member.{Member}
use Rattle.smk_record.specs.declared.record.Record.{Record}
use Rattle.smk_record.specs.Records.{core}
use Rattle.smk_store.specs.Images.{Content, is_outside, is_directory, bytes_of, kept_by, readable}
use Rattle.smk_store.specs.Trust.{Versions}
use Rattle.smk_store.specs.Soundness.{Outside}
use Rattle.smk_laws_protocol.specs.Protocol.{OpenJob, RunState, Recorded, Dropped, own, outputs, mark_places, record_of, eased}
use Rattle.smk_laws_protocol.proofs.Basics.{each_in, in_filter, any_by}
use Rattle.smk_laws_protocol.proofs.Between.{Midway, Fits, InPhase, Lets, IsFirmly, HasNoRecordClash, IsGone, IsKnown, HoldsGiven, has_firm_marks, is_made, IsOfJob}
use Rattle.smk_laws_protocol.proofs.Calls.{event, Allows, in_map}
use Rattle.smk_laws_protocol.proofs.Flags.{IsFlagged, flag_leaves, going_flag}
use Rattle.smk_laws_protocol.proofs.Guarded.{in_either}
use Rattle.smk_laws_protocol.proofs.Keeping.{AsideAllows}
use Rattle.smk_laws_protocol.proofs.Marking.{reads_stay}
use Rattle.smk_laws_protocol.proofs.Naming.{IsImage, IsWide, each_image, of_wide, now_image}
use Rattle.smk_laws_protocol.proofs.Members.{member}
use Rattle.smk_laws_protocol.proofs.Rows.{now}
use Rattle.smk_laws_protocol.proofs.Settling.{firm_leaves}
use Rattle.smk_laws_protocol.proofs.Shrunk.{going_some}
use Rattle.smk_laws_protocol.proofs.Stays.{in_left}
use Rattle.smk_laws_protocol.proofs.Texts.{Texts}
use Rattle.smk_laws_protocol.proofs.View.{View, kind_in, file_of}
use Rattle.smk_laws_protocol.proofs.Views.{Nodes, EachImage, reads, read_at, view_of, path_node, names_in}
use Rattle.smk_laws_plan.proofs.CurrentLists.{and_left, and_right}
use Rattle.smk_laws_history.proofs.HistoryEdit.{path_outside}
use Rattle.smk_laws_history.proofs.HistoryListed.{HasListed, MayStand, before, before_image, same_record, same_listed, mark_before, folder_before, members_before}

none_some : {A : Type 0} (x : A) → None ≡ Some x → ⊥
none_some x h = cc

some_is : {A : Type 0} (x y : A) → Some x ≡ Some y → x ≡ y
some_is x y h = cc

or_left : (a b : Bool) → (a || b) ≡ false → a ≡ false
or_left true b h = absurd (true≢false h)
or_left false b h = refl

-- ## States of one place

-- what stood may stand still
stays : (w : World) (q : Path) (x : Node) → MayLeave (w.nodes q) (Some x) → MayStand w q x
stays w q x may = record { node = x; may = may; same = refl }

settled_may : (b : Bool) (s : NodeState) (n : Option Node) → MayLeave (if b then firm s else s) n → MayLeave s n
settled_may true s n h = firm_leaves s n h
settled_may false s n h = h

removed_may : (b : Bool) (s : NodeState) (n0 : Option Node) (x : Node) → (b ≡ true → (n0 ≡ None) ⊎ (n0 ≡ reading s)) → MayLeave (if b then going n0 s else s) (Some x) → MayLeave s (Some x)
removed_may true s n0 x a h = going_some s n0 (Some x) (a refl) refl h
removed_may false s n0 x a h = h

beside_also : (b : Besides) (n : Option Node) → IsBeside (or_also (None ∷ []) b) n → (n ≡ None) ⊎ IsBeside b n
beside_also Anything n h = inr tt
beside_also (OneOf ns) n h = h

-- a folder is all that may stand besides
folder_may : (b : Bool) (s : NodeState) (n : Option Node) → MayLeave (if b then with_folder s else s) n → MayLeave s n ⊎ (n ≡ Some Directory)
folder_may false s n h = inl h
folder_may true Owned n h = inl tt
folder_may true (Known None besides) n (inl h) = inr h
folder_may true (Known None besides) n (inr h) = inl (beside_also besides n h)
folder_may true (Known (Some m) besides) n h = inl h

nothing_may : (s : NodeState) → reads_nothing s ≡ true → MayLeave s None
nothing_may Owned h = tt
nothing_may (Known None besides) h = inl refl
nothing_may (Known (Some n) besides) h = absurd (true≢false (sym h))

same_kind : (m n : Option Node) (x : Node) → m ≡ Some x → IsFlagged m n → (y : Node) × (n ≡ Some y) × (is_directory (Some y) ≡ is_directory (Some x))
same_kind m None x is (inl h) = absurd (none_some x (sym h ∙ is))
same_kind m None x is (inr h) = absurd (none_some x (sym h ∙ is))
same_kind m (Some y) x is (inl h) = (y, refl, ap is_directory (sym h ∙ is))
same_kind m (Some (Regular bytes time read_only)) x is (inr h) = (Regular bytes time read_only, refl, ap is_directory (sym h ∙ is))
same_kind m (Some Directory) x is (inr h) = (Directory, refl, ap is_directory (sym h ∙ is))

flagged_stands : (w : World) (q : Path) (x : Node) → (n : Option Node) × MayLeave (w.nodes q) n × IsFlagged (Some x) n → MayStand w q x
flagged_stands w q x k =
    let y = same_kind (Some x) k.0 x refl k.2 in
    record { node = y.0; may = subst (MayLeave (w.nodes q)) y.1 k.1; same = y.2 }

none_within : (q : Path) (xs : List Path) → ((x : Path) → IsIn xs x → is_at_or_under q x ≡ false) → is_within q xs ≡ false
none_within q [] none = refl
none_within q (x ∷ xs) none = ap (λ b. b || is_within q xs) (none x (inl refl)) ∙ none_within q xs (λ y i. none y (inr i))

some_within : (q : Path) (xs : List Path) → is_within q xs ≡ true → (x : Path) × IsIn xs x × (is_at_or_under q x ≡ true)
some_within q [] h = absurd (true≢false (sym h))
some_within q (x ∷ xs) h = go (is_at_or_under q x) refl h (λ k. some_within q xs k)
  where
    go : (b : Bool) → is_at_or_under q x ≡ b → (b || is_within q xs) ≡ true → (is_within q xs ≡ true → (y : Path) × IsIn xs y × (is_at_or_under q y ≡ true)) → (y : Path) × IsIn (x ∷ xs) y × (is_at_or_under q y ≡ true)
    go true e k ih = (x, inl refl, e)
    go false e k ih = let r = ih k in (r.0, inr r.1, r.2)

and_false : (b : Bool) → (b && false) ≡ false
and_false true = refl
and_false false = refl

-- what lies above a place outside of a path isn't at or under the path
not_above : (x p q : Path) → is_at_or_under q p ≡ true → is_at_or_under x p ≡ false → is_under x q ≡ false
not_above x p q h out = false_unless (is_under x q) (λ u. never_both (is_at_or_under x p) (at_or_under_further x q p (at_when_under x q u) h) out)

numbered_in : (n : ℕ) (cs : List Child) (d : Child) → child_numbered n cs ≡ Some d → IsIn cs d
numbered_in n [] d h = absurd (none_some d h)
numbered_in n (c ∷ cs) d h = go (nat_eq c.number n) h (λ k. numbered_in n cs d k)
  where
    go : (b : Bool) → (if b then Some c else child_numbered n cs) ≡ Some d → (child_numbered n cs ≡ Some d → IsIn cs d) → IsIn (c ∷ cs) d
    go true k ih = inl (sym (some_is c d k))
    go false k ih = inr (ih k)

-- ## Trees

folder_is : (a b : List TreeEntry) → Some (Entries a) ≡ Some (Entries b) → a ≡ b
folder_is a b h = cc

kind_of_entry : (n : Option Node) → is_some n ≡ true → not (is_some (bytes_of n)) ≡ is_directory n
kind_of_entry None h = absurd (true≢false (sym h))
kind_of_entry (Some Directory) h = refl
kind_of_entry (Some (Regular bytes time read_only)) h = refl

-- the members of a folder by the entries of its tree
member_of_entry : TreeEntry → Member
member_of_entry e = record { folder = not (is_some e.bytes); name = e.name }

abbrev entry : Nodes → Path → Path → TreeEntry
entry f p q = record { name = drop (length p + 1) q; bytes = bytes_of (path_node f q) }

of_entries : (f : Nodes) (p : Path) (qs : List Path) → ((q : Path) → IsIn qs q → is_some (path_node f q) ≡ true) → map member_of_entry (map (entry f p) qs) ≡ map (member f p) qs
unfolding member_of_entry
of_entries f p [] some = refl
of_entries f p (q ∷ qs) some = λ j. record { folder = kind_of_entry (path_node f q) (some q (inl refl)) j; name = drop (length p + 1) q } ∷ of_entries f p qs (λ x i. some x (inr i)) j

module _ (read : List ℕ → Option Record) (names names' : List Path) (f f' : Nodes) (p : Path) where
  abbrev entries : List Path → Nodes → List TreeEntry
  entries ns h = map (entry h p) (names_in ns (path_node h) p)

  members_are : (ns : List Path) (h : Nodes) → map member_of_entry (entries ns h) ≡ (view_of read ns h).members p
  members_are ns h = of_entries h p (names_in ns (path_node h) p) (λ q i. and_right (is_under q p) _ (in_filter (λ q. is_under q p && is_some (path_node h q)) ns q i).1)

  -- where two trees of folders are the same, the members are
  members_by_tree : (view_of read names f).tree p ≡ (view_of read names' f').tree p → (view_of read names f).is_folder p ≡ true → (view_of read names f).members p ≡ (view_of read names' f').members p
  members_by_tree same folder =
      sym (members_are names f) ∙ ap (map member_of_entry) (by_folder (is_directory (path_node f' p)) refl) ∙ members_are names' f'
    where
      here : (view_of read names f).tree p ≡ Some (Entries (entries names f))
      here = ap (λ b. if b then Some (Entries (entries names f)) else option_map (λ (x : Content). File x.bytes) (file_of (path_node f p))) folder

      no_file : (es : List TreeEntry) (c : Option Content) → Some (Entries es) ≡ option_map (λ (x : Content). File x.bytes) c → ⊥
      no_file es None h = none_some (Entries es) (sym h)
      no_file es (Some c) h = true≢false (ap (λ (t : Option Tree). is_entries t) h)
        where
          is_entries : Option Tree → Bool
          is_entries None = false
          is_entries (Some (File bytes)) = false
          is_entries (Some (Entries e)) = true

      by_folder : (b : Bool) → is_directory (path_node f' p) ≡ b → entries names f ≡ entries names' f'
      by_folder true e =
          folder_is (entries names f) (entries names' f')
          (sym here ∙ same ∙ ap (λ b. if b then Some (Entries (entries names' f')) else option_map (λ (x : Content). File x.bytes) (file_of (path_node f' p))) e)
      by_folder false e =
          absurd (no_file (entries names f) (file_of (path_node f' p))
          (sym here ∙ same ∙ ap (λ b. if b then Some (Entries (entries names' f')) else option_map (λ (x : Content). File x.bytes) (file_of (path_node f' p))) e))

-- ## A call

-- whose call it is: that of no job, or of an open job
abbrev pub Who : Outside → RunState → World → Call → Type 0
Who o s w c = AsideAllows o s w c ⊎ ((k : OpenJob) × IsIn s.jobs k × Allows o k c)

-- what is used of the open jobs between two events
pub record HasOpen (o : Outside) (s : RunState) (w : World) : Type 0 where
  pub formed : IsFormed w
  pub paths : (k : OpenJob) → IsIn s.jobs k → Each (λ p. IsTrue (is_outside p)) (own k)
  pub clash : (k : OpenJob) → IsIn s.jobs k → EachImage o.read w (HasNoRecordClash o k)
  pub marks : (k : OpenJob) → IsIn s.jobs k → has_firm_marks o k.phase ≡ true → Each (λ p. IsFirmly o w (mark_place p)) (outputs k)
  pub known : (k : OpenJob) → IsIn s.jobs k → k.phase ≡ Recorded → EachImage o.read w (λ v. Each (IsKnown o (now o w) k v) (outputs k))
  pub made : (k : OpenJob) → IsIn s.jobs k → is_made o k.phase ≡ true → EachImage o.read w (λ v. Each (HoldsGiven o (now o w) k v) (outputs k))
  pub gone : (k : OpenJob) → IsIn s.jobs k → k.phase ≡ Dropped → EachImage o.read w (λ v. Each (IsGone o v) (outputs k))
  pub children : Each (IsOfJob o s.jobs) w.children

pub open_of : (o : Outside) (entry : World) (H : Versions) (s : RunState) (w : World) → Midway o entry H s w → HasOpen o s w
open_of o entry H s w m =
    record {
      formed = m.images.formed;
      paths = λ k i. (each_in (Fits o entry (eased s) s.top w) s.jobs k m.fits i).paths;
      clash = λ k i. (each_in (Fits o entry (eased s) s.top w) s.jobs k m.fits i).no_record_clash;
      marks = λ k i. (each_in (InPhase o w) s.jobs k m.phases i).marks;
      known = λ k i. (each_in (InPhase o w) s.jobs k m.phases i).known;
      made = λ k i. (each_in (InPhase o w) s.jobs k m.phases i).made;
      gone = λ k i. (each_in (InPhase o w) s.jobs k m.phases i).gone;
      children = m.children;
    }

module _ (o : Outside) (texts : Texts o.read) (s : RunState) (w : World) (m : HasOpen o s w) (all : EachImage o.read w HasListed) where
  -- an image after a call, and an unmarked record in it
  record Here (next : World) : Type 0 where
    names : List Path
    g : Nodes
    wide : IsWide w next names g
    p : Path
    r : Record
    at : (view_of o.read names g).record_at p ≡ Some r
    unmarked : (view_of o.read names g).marked p ≡ false

  module _ (next : World) (h : Here next) where
    abbrev place : Path
    place = record_place h.p

    abbrev mark : Path
    mark = mark_place h.p

    is_text : is_path_text h.p ≡ true
    is_text = go (is_path_text h.p) refl
      where
        go : (b : Bool) → is_path_text h.p ≡ b → b ≡ true
        go true e = refl
        go false e = absurd (none_some h.r (sym (ap (λ (b : Bool). option_map core (read_at o.read h.p (if b then h.g place else None))) e) ∙ h.at))

    path : is_outside h.p ≡ true
    path = ap not (path_outside h.p is_text)

    no_mark : h.g mark ≡ None
    no_mark = go (h.g mark) refl (sym (ap (λ b. is_some (if b then h.g mark else None)) is_text) ∙ h.unmarked)
      where
        go : (n : Option Node) → h.g mark ≡ n → is_some (h.g mark) ≡ false → n ≡ None
        go None e k = refl
        go (Some n) e k = absurd (true≢false (sym (ap is_some e) ∙ k))

    reads_as : option_map core (readable (kept_by o.read h.p (h.g place))) ≡ Some h.r
    reads_as = sym (ap (λ (b : Bool). option_map core (read_at o.read h.p (if b then h.g place else None))) is_text) ∙ h.at

    -- the record is a file
    no_folder : h.g place ≡ Some Directory → ⊥
    no_folder k = none_some h.r (sym (ap (λ (n : Option Node). option_map core (readable (kept_by o.read h.p n))) k) ∙ reads_as)

    some_record : (x : Node) × (h.g place ≡ Some x)
    some_record = go (h.g place) refl
      where
        go : (n : Option Node) → h.g place ≡ n → (x : Node) × (h.g place ≡ Some x)
        go None e = absurd (none_some h.r (sym (ap (λ (n : Option Node). option_map core (readable (kept_by o.read h.p n))) e) ∙ reads_as))
        go (Some x) e = (x, e)

    leave : (q : Path) → MayLeave (next.nodes q) (h.g q)
    leave = h.wide.image.leaves

    -- no more stands than is listed
    abbrev Lists : Type 0
    Lists = is_folder_kind (kind_in h.r h.p) ≡ true → (view_of o.read h.names h.g).is_folder h.p ≡ true → (x : Member) → IsIn ((view_of o.read h.names h.g).members h.p) x → IsIn ((view_of o.read h.names h.g).listed h.p) x

    -- The record, the mark and what is under the path may have been so before.
    record WasSo : Type 0 where
      at_record : MayLeave (w.nodes place) (h.g place)
      at_mark : MayLeave (w.nodes mark) None
      stood : (q : Path) → is_at_or_under q h.p ≡ true → (x : Node) → h.g q ≡ Some x → MayStand w q x

    no_name : IsSome {T = Node} None → IsSome (h.g mark) ⊎ IsSome (reads w mark)
    no_name k = absurd (true≢false (sym k))

    listed_by : WasSo → Lists
    listed_by was folder stands x i =
        let old = before o.read texts.outside w next h.names h.g h.wide h.p path was.at_record None was.at_mark no_name was.stood in
        let image = before_image o.read texts.outside w next h.names h.g h.wide h.p path was.at_record None was.at_mark no_name was.stood in
        subst (λ ms. IsIn ms x) (same_listed o.read texts.outside w next h.names h.g h.wide h.p path was.at_record None was.at_mark no_name was.stood)
        (each_image o.read w HasListed all h.names old image h.p h.r
        (same_record o.read texts.outside w next h.names h.g h.wide h.p path was.at_record None was.at_mark no_name was.stood ∙ h.at)
        (mark_before o.read texts.outside w next h.names h.g h.wide h.p path was.at_record None was.at_mark no_name was.stood refl) folder
        (folder_before o.read texts.outside w next h.names h.g h.wide h.p path was.at_record None was.at_mark no_name was.stood stands) x
        (members_before o.read texts.outside w next h.names h.g h.wide h.p path was.at_record None was.at_mark no_name was.stood x i))

    same_at_record : next.nodes place ≡ w.nodes place → MayLeave (w.nodes place) (h.g place)
    same_at_record same = subst (λ t. MayLeave t (h.g place)) same (leave place)

    same_at_mark : next.nodes mark ≡ w.nodes mark → MayLeave (w.nodes mark) None
    same_at_mark same = subst (MayLeave (w.nodes mark)) no_mark (subst (λ t. MayLeave t (h.g mark)) same (leave mark))

    same_under : ((q : Path) → is_at_or_under q h.p ≡ true → next.nodes q ≡ w.nodes q) → (q : Path) → is_at_or_under q h.p ≡ true → (x : Node) → h.g q ≡ Some x → MayStand w q x
    same_under same q u x is = stays w q x (subst (MayLeave (w.nodes q)) is (subst (λ t. MayLeave t (h.g q)) (same q u) (leave q)))

    -- where nothing is changed
    untouched : ((q : Path) → next.nodes q ≡ w.nodes q) → WasSo
    untouched same = record { at_record = same_at_record (same place); at_mark = same_at_mark (same mark); stood = same_under (λ q u. same q) }

    -- a firm mark that is left alone stands after
    firm_mark : (k : OpenJob) → IsIn s.jobs k → has_firm_marks o k.phase ≡ true → IsIn (outputs k) h.p → next.nodes mark ≡ w.nodes mark → ⊥
    firm_mark k i marks output same =
        let firmly_there = each_in (λ x. IsFirmly o w (mark_place x)) (outputs k) h.p (m.marks k i marks) output in
        none_some firmly_there.0 (sym no_mark ∙ one firmly_there.0 (h.g mark) (subst (λ t. MayLeave t (h.g mark)) (same ∙ firmly_there.1) (leave mark)))
      where
        one : (n : Node) (x : Option Node) → MayLeave (firmly (Some n)) x → x ≡ Some n
        one n x (inl e) = e
        one n x (inr e) = absurd e

    -- an open job whose paths the record overlaps has it as an output's
    output_of : (k : OpenJob) → IsIn s.jobs k → MayLeave (w.nodes place) (h.g place) → list_any (overlaps h.p) (own k) ≡ true → IsIn (outputs k) h.p
    output_of k i may over =
        each_image o.read w (HasNoRecordClash o k) (m.clash k i) h.names old image h.p
        (subst (λ (n : Option Record). IsSome n) (sym stands) refl) over
      where
        old : Nodes
        old q = if bytes_eq q place then h.g q else reads w q

        may_here : (q : Path) (b : Bool) → bytes_eq q place ≡ b → MayLeave (w.nodes q) (if b then h.g q else reads w q)
        may_here q true e = subst (λ z. MayLeave (w.nodes z) (h.g z)) (sym (same_place q place e)) may
        may_here q false e = reads_stay (w.nodes q)

        named : (q : Path) (b : Bool) → IsSome (if b then h.g q else reads w q) → IsTrue (among h.names q)
        named q true k = h.wide.image.complete q k
        named q false k = h.wide.before q k

        image : IsImage w h.names old
        image = record { rising = h.wide.image.rising; complete = λ q k. named q (bytes_eq q place) k; covered = h.wide.before; leaves = λ q. may_here q (bytes_eq q place) refl }

        stands : (view_of o.read h.names old).record_at h.p ≡ Some h.r
        stands =
            ap (λ (b : Bool). option_map core (read_at o.read h.p (if b then old place else None))) is_text
            ∙ ap (λ (b : Bool). option_map core (readable (kept_by o.read h.p (if b then h.g place else reads w place)))) (place_itself place) ∙ reads_as

    -- ## Calls by what they change

    -- a part of what stood, at and under a place, without the mark
    removed_by : (x : Path) (n0 : Path → Option Node) → ((q : Path) → next.nodes q ≡ (if is_at_or_under q x then going (n0 q) (w.nodes q) else w.nodes q)) →
        ((q : Path) → is_at_or_under q x ≡ true → (n0 q ≡ None) ⊎ (n0 q ≡ reading (w.nodes q))) → is_at_or_under mark x ≡ false → WasSo
    removed_by x n0 is part far =
        record {
          at_record = subst (MayLeave (w.nodes place)) (sym some_record.1) (back place some_record.0 some_record.1);
          at_mark = same_at_mark (is mark ∙ ap (λ b. if b then going (n0 mark) (w.nodes mark) else w.nodes mark) far);
          stood = λ q u y e. stays w q y (back q y e);
        }
      where
        back : (q : Path) (y : Node) → h.g q ≡ Some y → MayLeave (w.nodes q) (Some y)
        back q y e = removed_may (is_at_or_under q x) (w.nodes q) (n0 q) y (part q) (subst (λ t. MayLeave t (Some y)) (is q) (subst (MayLeave (next.nodes q)) e (leave q)))

    -- folders are made, none of them under the path
    folders_by : (test : Path → Bool) → ((q : Path) → next.nodes q ≡ (if test q then with_folder (w.nodes q) else w.nodes q)) → ((q : Path) → is_at_or_under q h.p ≡ true → test q ≡ false) → WasSo
    folders_by test is none =
        record {
          at_record = elim (folder_may (test place) (w.nodes place) (h.g place) (subst (λ t. MayLeave t (h.g place)) (is place) (leave place))) [ inl k ↦ k | inr e ↦ absurd (no_folder e) ];
          at_mark = elim (folder_may (test mark) (w.nodes mark) (h.g mark) (subst (λ t. MayLeave t (h.g mark)) (is mark) (leave mark))) [
            | inl k ↦ subst (MayLeave (w.nodes mark)) no_mark k
            | inr e ↦ absurd (none_some Directory (sym no_mark ∙ e))
          ];
          stood = same_under (λ q u. is q ∙ ap (λ b. if b then with_folder (w.nodes q) else w.nodes q) (none q u));
        }

    -- what an open job owns under firm marks may be anything
    owned_by_job : (k : OpenJob) → IsIn s.jobs k → has_firm_marks o k.phase ≡ true → (other : Path → NodeState) → ((q : Path) → next.nodes q ≡ (if is_within q (own k) then other q else w.nodes q)) → WasSo
    owned_by_job k i marks other is =
        record {
          at_record = same_at_record same_record_place;
          at_mark = same_at_mark same_mark;
          stood = λ q u x e. at q u x e (is_within q (own k)) refl;
        }
      where
        out_of : (x : Path) → IsIn (own k) x → is_outside x ≡ true
        out_of x at_x = each_in (λ y. IsTrue (is_outside y)) (own k) x (m.paths k i) at_x

        same_record_place : next.nodes place ≡ w.nodes place
        same_record_place = is place ∙ ap (λ b. if b then other place else w.nodes place) (none_within place (own k) (λ x at_x. texts.outside.record_out x h.p (out_of x at_x)))

        same_mark : next.nodes mark ≡ w.nodes mark
        same_mark = is mark ∙ ap (λ b. if b then other mark else w.nodes mark) (none_within mark (own k) (λ x at_x. texts.outside.mark_out x h.p (out_of x at_x)))

        at : (q : Path) → is_at_or_under q h.p ≡ true → (x : Node) → h.g q ≡ Some x → (b : Bool) → is_within q (own k) ≡ b → MayStand w q x
        at q u x e false t = stays w q x (subst (MayLeave (w.nodes q)) e (subst (λ y. MayLeave y (h.g q)) (is q ∙ ap (λ b. if b then other q else w.nodes q) t) (leave q)))
        at q u x e true t =
            let over = some_within q (own k) t in
            let output = output_of k i (same_at_record same_record_place) (any_by (overlaps h.p) (own k) over.0 over.1 (overlaps_above_both q h.p over.0 u over.2)) in
            absurd (firm_mark k i marks output same_mark)

    -- one place of the engine's own is created where nothing stood
    created_by : (x : Path) (test : Path → Bool) (n0 : Path → Option Node) → ((q : Path) → next.nodes q ≡ (if test q then loose (n0 q) (w.nodes q) else w.nodes q)) →
        ((q : Path) → bytes_eq q x ≡ false → test q ≡ false) → (test mark ≡ true → reads_nothing (w.nodes mark) ≡ true) → bytes_eq place x ≡ false → is_at_or_under x h.p ≡ false → WasSo
    created_by x test n0 is only nothing other out =
        record {
          at_record = same_at_record (is place ∙ ap (λ b. if b then loose (n0 place) (w.nodes place) else w.nodes place) (only place other));
          at_mark = mark_by (test mark) refl;
          stood = same_under (λ q u. is q ∙ ap (λ b. if b then loose (n0 q) (w.nodes q) else w.nodes q) (only q (not_here q u (bytes_eq q x) refl)));
        }
      where
        mark_by : (b : Bool) → test mark ≡ b → MayLeave (w.nodes mark) None
        mark_by true e = nothing_may (w.nodes mark) (nothing e)
        mark_by false e = same_at_mark (is mark ∙ ap (λ b. if b then loose (n0 mark) (w.nodes mark) else w.nodes mark) e)

        not_here : (q : Path) → is_at_or_under q h.p ≡ true → (b : Bool) → bytes_eq q x ≡ b → b ≡ false
        not_here q u true e = absurd (never_both (is_at_or_under x h.p) (subst (λ z. is_at_or_under z h.p ≡ true) (same_place q x e) u) out)
        not_here q u false e = refl

    -- another record is written, or that of an output under firm marks
    written_by : (k : OpenJob) → IsIn s.jobs k → has_firm_marks o k.phase ≡ true → (y : Path) → IsIn (outputs k) y → (n0 : Path → Option Node) →
        ((q : Path) → next.nodes q ≡ (if bytes_eq q (record_place y) then loose (n0 q) (w.nodes q) else w.nodes q)) → WasSo
    written_by k i marks y output n0 is =
        record {
          at_record = same_at_record (is place ∙ ap (λ b. if b then loose (n0 place) (w.nodes place) else w.nodes place) (other (bytes_eq h.p y) refl));
          at_mark = same_at_mark (is mark);
          stood = same_under (λ q u. is q ∙ ap (λ b. if b then loose (n0 q) (w.nodes q) else w.nodes q) (not_here q u (bytes_eq q (record_place y)) refl));
        }
      where
        other : (b : Bool) → bytes_eq h.p y ≡ b → bytes_eq place (record_place y) ≡ false
        other true e = absurd (firm_mark k i marks (subst (IsIn (outputs k)) (sym (same_place h.p y e)) output) (is mark))
        other false e = or_left (bytes_eq place (record_place y)) (is_under place (record_place y)) (texts.records.record_record y h.p e)

        not_here : (q : Path) → is_at_or_under q h.p ≡ true → (b : Bool) → bytes_eq q (record_place y) ≡ b → b ≡ false
        not_here q u true e =
            absurd (never_both (is_at_or_under (record_place y) h.p) (subst (λ z. is_at_or_under z h.p ≡ true) (same_place q (record_place y) e) u) (texts.outside.record_out h.p y path))
        not_here q u false e = refl

    -- one path has the flag, or may have, or be gone
    flagged_by : (x : Path) → is_outside x ≡ true → (after_flag : Path → NodeState) → ((q : Path) → next.nodes q ≡ (if bytes_eq q x then after_flag q else w.nodes q)) →
        ((y : Node) → MayLeave (after_flag x) (Some y) → (n : Option Node) × MayLeave (w.nodes x) n × IsFlagged (Some y) n) → WasSo
    flagged_by x out after_flag is back =
        record {
          at_record = same_at_record (is place ∙ ap (λ b. if b then after_flag place else w.nodes place) (or_left (bytes_eq place x) (is_under place x) (texts.outside.record_out x h.p out)));
          at_mark = same_at_mark (is mark ∙ ap (λ b. if b then after_flag mark else w.nodes mark) (or_left (bytes_eq mark x) (is_under mark x) (texts.outside.mark_out x h.p out)));
          stood = λ q u y e. at q y e (bytes_eq q x) refl;
        }
      where
        at : (q : Path) (y : Node) → h.g q ≡ Some y → (b : Bool) → bytes_eq q x ≡ b → MayStand w q y
        at q y e false t = stays w q y (subst (MayLeave (w.nodes q)) e (subst (λ z. MayLeave z (h.g q)) (is q ∙ ap (λ b. if b then after_flag q else w.nodes q) t) (leave q)))
        at q y e true t =
            subst (λ z. MayStand w z y) (sym (same_place q x t))
            (flagged_stands w x y (back y (subst (λ z. MayLeave (after_flag z) (Some y)) (same_place q x t)
            (subst (MayLeave (after_flag q)) e (subst (λ z. MayLeave z (h.g q)) (is q ∙ ap (λ b. if b then after_flag q else w.nodes q) t) (leave q))))))

    -- ## A mark that is taken away

    module _ (n0 : Path → Option Node) (is : (q : Path) → next.nodes q ≡ (if is_at_or_under q mark then going (n0 q) (w.nodes q) else w.nodes q)) where
      far_same : (q : Path) → is_at_or_under q mark ≡ false → next.nodes q ≡ w.nodes q
      far_same q far = is q ∙ ap (λ b. if b then going (n0 q) (w.nodes q) else w.nodes q) far

      may_record : MayLeave (w.nodes place) (h.g place)
      may_record = same_at_record (far_same place (texts.marks.mark_record h.p h.p))

      may_under : (q : Path) → is_at_or_under q h.p ≡ true → (x : Node) → h.g q ≡ Some x → MayStand w q x
      may_under = same_under (λ q u. far_same q (texts.far.mark_far h.p q h.p path u))

      named : IsSome (reads w mark) → IsSome (h.g mark) ⊎ IsSome (reads w mark)
      named k = inr k

      -- the image with the mark as it reads
      marked_image : Nodes
      marked_image = before o.read texts.outside w next h.names h.g h.wide h.p path may_record (reads w mark) (reads_stay (w.nodes mark)) named may_under

      is_image : IsImage w h.names marked_image
      unfolding marked_image
      is_image = before_image o.read texts.outside w next h.names h.g h.wide h.p path may_record (reads w mark) (reads_stay (w.nodes mark)) named may_under

      abbrev then_view : View
      then_view = view_of o.read h.names marked_image

      record_then : then_view.record_at h.p ≡ Some h.r
      unfolding marked_image
      record_then = same_record o.read texts.outside w next h.names h.g h.wide h.p path may_record (reads w mark) (reads_stay (w.nodes mark)) named may_under ∙ h.at

      listed_then : then_view.listed h.p ≡ (view_of o.read h.names h.g).listed h.p
      unfolding marked_image
      listed_then = same_listed o.read texts.outside w next h.names h.g h.wide h.p path may_record (reads w mark) (reads_stay (w.nodes mark)) named may_under

      folder_then : (view_of o.read h.names h.g).is_folder h.p ≡ true → then_view.is_folder h.p ≡ true
      unfolding marked_image
      folder_then = folder_before o.read texts.outside w next h.names h.g h.wide h.p path may_record (reads w mark) (reads_stay (w.nodes mark)) named may_under

      members_then : (x : Member) → IsIn ((view_of o.read h.names h.g).members h.p) x → IsIn (then_view.members h.p) x
      unfolding marked_image
      members_then = members_before o.read texts.outside w next h.names h.g h.wide h.p path may_record (reads w mark) (reads_stay (w.nodes mark)) named may_under

      -- of an output that is dropped no record is left
      dropped_gone : (k : OpenJob) → IsIn s.jobs k → k.phase ≡ Dropped → IsIn (outputs k) h.p → ⊥
      dropped_gone k i phase output =
          let gone = each_in (IsGone o then_view) (outputs k) h.p (each_image o.read w (λ v. Each (IsGone o v) (outputs k)) (m.gone k i phase) h.names marked_image is_image) output in
          none_some h.r (sym gone.no_record ∙ record_then)

      -- a recorded output is the same in every image, and its record lists what stands there now
      recorded_lists : (k : OpenJob) → IsIn s.jobs k → k.phase ≡ Recorded → IsIn (outputs k) h.p → Lists
      recorded_lists k i phase output folder stands x at_x =
          let known = each_in (IsKnown o (now o w) k then_view) (outputs k) h.p (each_image o.read w (λ v. Each (IsKnown o (now o w) k v) (outputs k)) (m.known k i phase) h.names marked_image is_image) output in
          let made = λ (names : List Path) (f : Nodes) (image : IsImage w names f). each_in (HoldsGiven o (now o w) k (view_of o.read names f)) (outputs k) h.p
          (each_image o.read w (λ v. Each (HoldsGiven o (now o w) k v) (outputs k)) (m.made k i (ap (is_made o) phase)) names f image) output in
          let here = made h.names marked_image is_image in
          let there = made w.names (reads w) (now_image w m.formed) in
          let tree : then_view.tree h.p ≡ (now o w).tree h.p = here.2 ∙ sym here.1 ∙ there.1 ∙ sym there.2 in
          let members = members_by_tree o.read h.names w.names marked_image (reads w) h.p tree (folder_then stands) in
          let same : h.r ≡ record_of k h.p = some_is h.r (record_of k h.p) (sym record_then ∙ known.reads) in
          let is_out : among (folders_of k.recipe) h.p ≡ true = by_kind (among (folders_of k.recipe) h.p) (sym (ap (λ (y : Record). is_folder_kind (kind_in y h.p)) same) ∙ folder) in
          subst (λ ms. IsIn ms x) (members ∙ sym (ap (λ b. if b then (now o w).members h.p else []) is_out) ∙ sym known.lists ∙ listed_then) (members_then x at_x)
        where
          by_kind : (b : Bool) → is_folder_kind (if b then Folder else Plain) ≡ true → b ≡ true
          by_kind true k = refl
          by_kind false k = k

  -- ## Each call

  abbrev then_world : Call → List LeftNode → World
  then_world c left = after w (event c left)

  still : (c : Call) (left : List LeftNode) (h : Here (then_world c left)) → ((q : Path) → (then_world c left).nodes q ≡ w.nodes q) → Lists (then_world c left) h
  still c left h same = listed_by (then_world c left) h (untouched (then_world c left) h same)

  settled_keeps : (ps : List Path) (left : List LeftNode) (h : Here (then_world (Settled ps (Ok tt)) left)) → Lists (then_world (Settled ps (Ok tt)) left) h
  settled_keeps ps left h =
      let next = then_world (Settled ps (Ok tt)) left in
      listed_by next h
      (record {
        at_record = back (record_place h.p) (h.g (record_place h.p)) (leave next h (record_place h.p));
        at_mark = subst (MayLeave (w.nodes (mark_place h.p))) (no_mark next h) (back (mark_place h.p) (h.g (mark_place h.p)) (leave next h (mark_place h.p)));
        stood = λ q u x e. stays w q x (back q (Some x) (subst (MayLeave (next.nodes q)) e (leave next h q)));
      })
    where
      back : (q : Path) (n : Option Node) → MayLeave ((then_world (Settled ps (Ok tt)) left).nodes q) n → MayLeave (w.nodes q) n
      back q n k = settled_may (is_within q ps || (is_above q ps && reads_folder (w.nodes q))) (w.nodes q) n k

  -- what a removal may leave
  standing_part : (x : Path) (r : Result (Unit {0}) Failed) (left : List LeftNode) → Lets o w (event (Removed x r) left) (Removed x r) →
      (q : Path) → is_at_or_under q x ≡ true → (standing left q ≡ None) ⊎ (standing left q ≡ reading (w.nodes q))
  standing_part x (Ok u) left lets q h = inl (ap (λ l. standing l q) lets)
  standing_part x (Err f) left lets q h = lets q h

  removed_keeps : (x : Path) (r : Result (Unit {0}) Failed) (left : List LeftNode) → Lets o w (event (Removed x r) left) (Removed x r) →
      (h : Here (then_world (Removed x r) left)) → is_at_or_under (mark_place h.p) x ≡ false → Lists (then_world (Removed x r) left) h
  removed_keeps x r left lets h far =
      let next = then_world (Removed x r) left in
      listed_by next h (removed_by next h x (standing left) (λ q. refl) (standing_part x r left lets) far)

  unmark_keeps : (y : Path) (r : Result (Unit {0}) Failed) (left : List LeftNode) → Lets o w (event (Removed (mark_place y) r) left) (Removed (mark_place y) r) →
      (k : OpenJob) → IsIn s.jobs k → (k.phase ≡ Recorded) ⊎ (k.phase ≡ Dropped) → IsIn (outputs k) y →
      (h : Here (then_world (Removed (mark_place y) r) left)) → Lists (then_world (Removed (mark_place y) r) left) h
  unmark_keeps y r left lets k i phase output h = go (bytes_eq h.p y) refl
    where
      next : World
      next = then_world (Removed (mark_place y) r) left

      own_mark : h.p ≡ y → (q : Path) → (then_world (Removed (mark_place y) r) left).nodes q ≡ (if is_at_or_under q (mark_place h.p) then going (standing left q) (w.nodes q) else w.nodes q)
      own_mark e q j = if is_at_or_under q (mark_place (sym e j)) then going (standing left q) (w.nodes q) else w.nodes q

      by_phase : (k.phase ≡ Recorded) ⊎ (k.phase ≡ Dropped) → h.p ≡ y → Lists (then_world (Removed (mark_place y) r) left) h
      by_phase (inl recorded) e = recorded_lists (then_world (Removed (mark_place y) r) left) h (standing left) (own_mark e) k i recorded (subst (IsIn (outputs k)) (sym e) output)
      by_phase (inr dropped) e = absurd (dropped_gone (then_world (Removed (mark_place y) r) left) h (standing left) (own_mark e) k i dropped (subst (IsIn (outputs k)) (sym e) output))

      go : (b : Bool) → bytes_eq h.p y ≡ b → Lists (then_world (Removed (mark_place y) r) left) h
      go true e = by_phase phase (same_place h.p y e)
      go false e = removed_keeps (mark_place y) r left lets h (texts.marks.mark_mark y h.p ∙ e)

  -- folders are made above a place that isn't at or under the path
  above_keeps : (x : Path) (r : Result (Unit {0}) Failed) (left : List LeftNode) (h : Here (then_world (MadeParents x r) left)) → is_at_or_under x h.p ≡ false → Lists (then_world (MadeParents x r) left) h
  above_keeps x (Ok u) left h out =
      let next = then_world (MadeParents x (Ok u)) left in
      listed_by next h (folders_by next h (λ q. is_under x q) (λ q. refl) (λ q k. not_above x h.p q k out))
  above_keeps x (Err f) left h out =
      let next = then_world (MadeParents x (Err f)) left in
      listed_by next h (folders_by next h (λ q. is_some (standing left q) && is_under x q) (λ q. refl) (λ q k. ap (λ b. is_some (standing left q) && b) (not_above x h.p q k out) ∙ and_false (is_some (standing left q))))

  -- or above a path of an open job under firm marks
  own_above_keeps : (x : Path) (r : Result (Unit {0}) Failed) (left : List LeftNode) (k : OpenJob) → IsIn s.jobs k → has_firm_marks o k.phase ≡ true → IsIn (own k) x →
      (h : Here (then_world (MadeParents x r) left)) → Lists (then_world (MadeParents x r) left) h
  own_above_keeps x r left k i marks at_x h = go (is_at_or_under x h.p) refl
    where
      out : is_outside x ≡ true
      out = each_in (λ y. IsTrue (is_outside y)) (own k) x (m.paths k i) at_x

      may : (r : Result (Unit {0}) Failed) (h : Here (then_world (MadeParents x r) left)) → MayLeave (w.nodes (record_place h.p)) (h.g (record_place h.p))
      may (Ok u) h =
          let next = then_world (MadeParents x (Ok u)) left in
          elim (folder_may (is_under x (record_place h.p)) (w.nodes (record_place h.p)) (h.g (record_place h.p)) (leave next h (record_place h.p))) [ inl y ↦ y | inr e ↦ absurd (no_folder next h e) ]
      may (Err f) h =
          let next = then_world (MadeParents x (Err f)) left in
          elim (folder_may (is_some (standing left (record_place h.p)) && is_under x (record_place h.p)) (w.nodes (record_place h.p)) (h.g (record_place h.p)) (leave next h (record_place h.p))) [ inl y ↦ y | inr e ↦ absurd (no_folder next h e) ]

      same_mark : (r : Result (Unit {0}) Failed) (p : Path) → (then_world (MadeParents x r) left).nodes (mark_place p) ≡ w.nodes (mark_place p)
      same_mark (Ok u) p = ap (λ b. if b then with_folder (w.nodes (mark_place p)) else w.nodes (mark_place p)) ((texts.above.path_free x out).above_mark p)
      same_mark (Err f) p =
          ap (λ b. if is_some (standing left (mark_place p)) && b then with_folder (w.nodes (mark_place p)) else w.nodes (mark_place p)) ((texts.above.path_free x out).above_mark p)
          ∙ ap (λ b. if b then with_folder (w.nodes (mark_place p)) else w.nodes (mark_place p)) (and_false (is_some (standing left (mark_place p))))

      go : (b : Bool) → is_at_or_under x h.p ≡ b → Lists (then_world (MadeParents x r) left) h
      go false e = above_keeps x r left h e
      go true e =
          let next = then_world (MadeParents x r) left in
          let output = output_of next h k i (may r h) (any_by (overlaps h.p) (own k) x at_x (overlaps_above_both x h.p x e (at_itself x))) in
          absurd (firm_mark next h k i marks output (same_mark r h.p))

  -- a place of the engine's own is created
  created_keeps : (x : Path) (r : Result Bool Failed) (left : List LeftNode) → Lets o w (event (Created x r) left) (Created x r) →
      (h : Here (then_world (Created x r) left)) → bytes_eq (record_place h.p) x ≡ false → is_at_or_under x h.p ≡ false → Lists (then_world (Created x r) left) h
  created_keeps x (Ok false) left lets h other out = still (Created x (Ok false)) left h (λ q. refl)
  created_keeps x (Ok true) left lets h other out =
      let next = then_world (Created x (Ok true)) left in
      listed_by next h
      (created_by next h x (λ q. bytes_eq q x) (standing left) (λ q. refl) (λ q e. e)
      (λ e. subst (λ z. reads_nothing (w.nodes z) ≡ true) (sym (same_place (mark_place h.p) x e)) lets.0) other out)
  created_keeps x (Err f) left lets h other out =
      let next = then_world (Created x (Err f)) left in
      listed_by next h
      (created_by next h x (λ q. reads_nothing (w.nodes q) && bytes_eq q x) (standing left) (λ q. refl) (λ q e. ap (λ b. reads_nothing (w.nodes q) && b) e ∙ and_false (reads_nothing (w.nodes q)))
      (λ e. and_left (reads_nothing (w.nodes (mark_place h.p))) _ e) other out)

  flagged_keeps : (x : Path) (r : Result (Unit {0}) Failed) (left : List LeftNode) → Lets o w (event (Protected x r) left) (Protected x r) → is_outside x ≡ true →
      (h : Here (then_world (Protected x r) left)) → Lists (then_world (Protected x r) left) h
  flagged_keeps x (Ok u) left lets out h =
      let next = then_world (Protected x (Ok u)) left in
      listed_by next h (flagged_by next h x out (λ q. with_flag (w.nodes q)) (λ q. refl) (λ y k. flag_leaves (w.nodes x) (Some y) k))
  flagged_keeps x (Err f) left lets out h =
      let next = then_world (Protected x (Err f)) left in
      listed_by next h (flagged_by next h x out (λ q. going (standing left q) (with_flag (w.nodes q))) (λ q. refl) (λ y k. going_flag (w.nodes x) (standing left x) (Some y) lets refl k))

  -- the children's places
  ended_keeps : (number : ℕ) (c : Option Child) (next : World) (h : Here next) (other : Path → NodeState) → ((d : Child) → c ≡ Some d → IsIn w.children d) →
      ((q : Path) → next.nodes q ≡ (if is_within q (owned_of c) then other q else w.nodes q)) → Lists next h
  ended_keeps number None next h other at is = listed_by next h (untouched next h is)
  ended_keeps number (Some d) next h other at is =
      let k = each_in (IsOfJob o s.jobs) w.children d m.children (at d refl) in
      listed_by next h
      (owned_by_job next h k.0 k.1 (ap (has_firm_marks o) k.2) other
      (λ q. is q ∙ (λ j. if is_within q (owned_paths (k.3 j) (k.4 j)) then other q else w.nodes q)))

  mark_places_keep : (k : OpenJob) (x p : Path) → is_outside p ≡ true → IsIn (mark_places k) x → (bytes_eq (record_place p) x ≡ false) × (is_at_or_under x p ≡ false)
  mark_places_keep k x p out i = go (in_either (map mark_place (outputs k)) (map note_place k.logs) x i)
    where
      go : IsIn (map mark_place (outputs k)) x ⊎ IsIn (map note_place k.logs) x → (bytes_eq (record_place p) x ≡ false) × (is_at_or_under x p ≡ false)
      go (inl a) =
          let y = in_map mark_place (outputs k) x a in
          (ap (bytes_eq (record_place p)) y.2, ap (λ z. is_at_or_under z p) y.2 ∙ texts.outside.mark_out p y.0 out)
      go (inr a) =
          let y = in_map note_place k.logs x a in
          (ap (bytes_eq (record_place p)) y.2, ap (λ z. is_at_or_under z p) y.2 ∙ texts.outside.note_out p y.0 out)

  lock_out : (p : Path) → is_outside p ≡ true → is_at_or_under lock_place p ≡ false
  lock_out p out = go (bytes_eq lock_place p) refl
    where
      go : (b : Bool) → bytes_eq lock_place p ≡ b → (b || is_under lock_place p) ≡ false
      go true e = absurd (true≢false (sym out ∙ ap is_outside (sym (same_place lock_place p e))))
      go false e = texts.above.lock_above p out

  call_keeps : (c : Call) (left : List LeftNode) → Lets o w (event c left) c → Who o s w c → (h : Here (then_world c left)) → Lists (then_world c left) h
  call_keeps (Looked x r) left lets who h = still (Looked x r) left h (λ q. refl)
  call_keeps (ReadFile x limit r) left lets who h = still (ReadFile x limit r) left h (λ q. refl)
  call_keeps (ReadFolder x r) left lets who h = still (ReadFolder x r) left h (λ q. refl)
  call_keeps (Settled ps (Ok u)) left lets who h = settled_keeps ps left h
  call_keeps (Settled ps (Err f)) left lets who h = still (Settled ps (Err f)) left h (λ q. refl)
  call_keeps (Started recipe logs command (Err f)) left lets who h = still (Started recipe logs command (Err f)) left h (λ q. refl)
  call_keeps (Waited (Err f)) left lets who h = still (Waited (Err f)) left h (λ q. refl)
  call_keeps (Written x bytes r) left lets (inl a) h = absurd a
  call_keeps (Written x bytes r) left lets (inr (k, i, a)) h =
      let next = then_world (Written x bytes r) left in
      let y = in_map record_place (outputs k) x a.2 in
      listed_by next h (written_by next h k i a.0 y.0 y.1 (standing left) (λ q j. if bytes_eq q (y.2 j) then loose (standing left q) (w.nodes q) else w.nodes q))
  call_keeps (Created x r) left lets (inl a) h = created_keeps x r left lets h (ap (bytes_eq (record_place h.p)) a) (ap (λ z. is_at_or_under z h.p) a ∙ lock_out h.p (path (then_world (Created x r) left) h))
  call_keeps (Created x r) left lets (inr (k, i, a)) h =
      let places = mark_places_keep k x h.p (path (then_world (Created x r) left) h) a.1 in
      created_keeps x r left lets h places.0 places.1
  call_keeps (Removed x r) left lets (inl (inl a)) h = removed_keeps x r left lets h (ap (is_at_or_under (mark_place h.p)) a ∙ texts.lock.lock_mark h.p)
  call_keeps (Removed x r) left lets (inl (inr a)) h = removed_keeps x r left lets h (texts.outside.mark_out x h.p a.1.path)
  call_keeps (Removed x r) left lets (inr (k, i, inl (a, b, inl y))) h =
      removed_keeps x r left lets h
      (texts.outside.mark_out x h.p (each_in (λ y. IsTrue (is_outside y)) (own k) x (m.paths k i) (in_left (outputs k) k.logs x y)))
  call_keeps (Removed x r) left lets (inr (k, i, inl (a, b, inr z))) h =
      let y = in_map record_place (outputs k) x z in
      removed_keeps x r left lets h (ap (is_at_or_under (mark_place h.p)) y.2 ∙ texts.records.record_mark y.0 h.p)
  call_keeps (Removed x r) left lets (inr (k, i, inr (phase, z))) h =
      let y = in_map mark_place (outputs k) x z in
      (subst (λ x. Lets o w (event (Removed x r) left) (Removed x r) → (h : Here (then_world (Removed x r) left)) → Lists (then_world (Removed x r) left) h) (sym y.2)
      (λ lets h. unmark_keeps y.0 r left lets k i phase y.1 h)) lets h
  call_keeps (MadeParents x r) left lets (inl a) h = above_keeps x r left h (ap (λ z. is_at_or_under z h.p) a ∙ lock_out h.p (path (then_world (MadeParents x r) left) h))
  call_keeps (MadeParents x r) left lets (inr (k, i, inl (inl a))) h = above_keeps x r left h (mark_places_keep k x h.p (path (then_world (MadeParents x r) left) h) a).1
  call_keeps (MadeParents x r) left lets (inr (k, i, inl (inr a))) h =
      let y = in_map record_place (outputs k) x a in
      above_keeps x r left h (ap (λ z. is_at_or_under z h.p) y.2 ∙ texts.outside.record_out h.p y.0 (path (then_world (MadeParents x r) left) h))
  call_keeps (MadeParents x r) left lets (inr (k, i, inr (a, b, at_x))) h = own_above_keeps x r left k i a at_x h
  call_keeps (Protected x r) left lets (inl a) h = flagged_keeps x r left lets a.1.path h
  call_keeps (Protected x r) left lets (inr (k, i, a)) h = absurd a
  call_keeps (Started recipe logs command (Ok number)) left lets (inl a) h = absurd a
  call_keeps (Started recipe logs command (Ok number)) left lets (inr (k, i, a)) h =
      let next = then_world (Started recipe logs command (Ok number)) left in
      listed_by next h
      (owned_by_job next h k i a.0 (λ q. Owned) (λ q j. if is_within q (owned_paths (a.2 j) (a.3 j)) then Owned else w.nodes q))
  call_keeps (Waited (Ok end)) left lets who h =
      ended_keeps end.number (child_numbered end.number w.children) (then_world (Waited (Ok end)) left) h (λ q. Known (standing left q) Anything) (numbered_in end.number w.children) (λ q. refl)

  pub listed_after : (c : Call) (left : List LeftNode) → Lets o w (event c left) c → Who o s w c → EachImage o.read (after w (event c left)) HasListed
  listed_after c left lets who =
      of_wide o.read texts.naming w m.formed (after w (event c left)) HasListed (λ names g wide p r at unmarked.
      call_keeps c left lets who (record { names = names; g = g; wide = wide; p = p; r = r; at = at; unmarked = unmarked }))

  -- ## Removals while paths are forgotten

  pub removed_after : (x : Path) (r : Result (Unit {0}) Failed) (left : List LeftNode) → Lets o w (event (Removed x r) left) (Removed x r) →
      ((p : Path) → is_at_or_under (mark_place p) x ≡ false) → EachImage o.read (then_world (Removed x r) left) HasListed
  removed_after x r left lets far =
      of_wide o.read texts.naming w m.formed (then_world (Removed x r) left) HasListed (λ names g wide p y at unmarked.
      removed_keeps x r left lets (record { names = names; g = g; wide = wide; p = p; r = y; at = at; unmarked = unmarked }) (far p))

  -- the mark of a path whose record is gone for good
  pub unmarked_after : (y : Path) (r : Result (Unit {0}) Failed) (left : List LeftNode) → Lets o w (event (Removed (mark_place y) r) left) (Removed (mark_place y) r) →
      w.nodes (record_place y) ≡ firmly None → EachImage o.read (then_world (Removed (mark_place y) r) left) HasListed
  unmarked_after y r left lets gone =
      of_wide o.read texts.naming w m.formed (then_world (Removed (mark_place y) r) left) HasListed (λ names g wide p x at unmarked.
      by_path (record { names = names; g = g; wide = wide; p = p; r = x; at = at; unmarked = unmarked }))
    where
      one : (n : Option Node) → MayLeave (firmly None) n → n ≡ None
      one n (inl e) = e
      one n (inr e) = absurd e

      no_record : (h : Here (then_world (Removed (mark_place y) r) left)) → h.p ≡ y → ⊥
      no_record h e =
          let next = then_world (Removed (mark_place y) r) left in
          let same : next.nodes (record_place h.p) ≡ w.nodes (record_place h.p) = ap (λ b. if b then going (standing left (record_place h.p)) (w.nodes (record_place h.p)) else w.nodes (record_place h.p)) (texts.marks.mark_record y h.p) in
          let there = some_record next h in
          none_some there.0
          (sym (one (h.g (record_place h.p)) (subst (λ t. MayLeave t (h.g (record_place h.p))) (same ∙ ap (λ z. w.nodes (record_place z)) e ∙ gone) (leave next h (record_place h.p)))) ∙ there.1)

      by_path : (h : Here (then_world (Removed (mark_place y) r) left)) → Lists (then_world (Removed (mark_place y) r) left) h
      by_path h = go (bytes_eq h.p y) refl
        where
          go : (b : Bool) → bytes_eq h.p y ≡ b → Lists (then_world (Removed (mark_place y) r) left) h
          go true e = absurd (no_record h (same_place h.p y e))
          go false e = removed_keeps (mark_place y) r left lets h (texts.marks.mark_mark y h.p ∙ e)
