-- A folder with the mark of an unfinished job, over an old record and a torn output: a good entry. A call that writes the mark anew, or takes it away and
-- puts it anew, is refused: a crash may lose it, and then the record vouches for other bytes than stand there.
use Rattle.std.proofs.Common.{◌≡◌, ◌⊎◌, ℕ, Bool, true, false, ◌&&◌, ◌||◌, ◌==◌, not, List, [], ◌∷◌, ◌++◌, codes, length, filter, take, drop, bytes_eq, Option, Some, None, Ok, option_map, refl, sym, ap, subst, ◌∙◌, inl, inr, true≢false, arith}
use Rattle.std.specs.Prelude.{if◌then◌else◌, is_some, IsSome, nat_le}
use Rattle.std.specs.Fmt.{digits}
use Rattle.smk_base.specs.Path.{is_at_or_under, is_under}
use Rattle.smk_base.specs.Place.{mark_place, marks_folder, note_place, record_place, records_folder}
use Rattle.smk_base.specs.declared.tree.Tree.{Tree}
use Rattle.smk_base.specs.declared.tree.Tree.TheVariants.{File}
use Rattle.smk_base.proofs.Apart.{mark-mark, same_record}
use Rattle.smk_base.proofs.Places.{and_first, and_second, place_itself, same_place}
use Rattle.smk_base.proofs.Under.{or_second}
use Rattle.smk_world.specs.declared.event.Event.{Event}
use Rattle.smk_world.specs.declared.event.Node.{Node}
use Rattle.smk_world.specs.declared.event.Node.TheVariants.{Directory, Regular}
use Rattle.smk_world.specs.declared.event.Call.TheVariants.{Created, Removed, Written}
use Rattle.smk_world.specs.World.{World, Nodes, IsFormed, Leaves, MayLeave, firmly, going, loose, node_in, places_in, reading, run, standing, world_of}
use Rattle.smk_world.specs.Folders.{CanHold, IsTree}
use Rattle.smk_world.specs.Trees.{Path, IsIn, is_path_text}
use Rattle.smk_world.proofs.Folders.{no_node}
use Rattle.smk_pattern.specs.Shapes.{Text}
use Rattle.smk_record.specs.declared.record.Record.{Record}
use Rattle.smk_record.specs.declared.record.Stamp.{Stamp}
use Rattle.smk_record.specs.declared.record.Stamp.TheVariants.{Made, Sum, Time}
use Rattle.smk_record.specs.Reading.{record_in}
use Rattle.smk_record.specs.Records.{core, stamped}
use Rattle.smk_record.specs.Spelling.{spelling}
use Rattle.smk_store.specs.declared.store.Kept.TheVariants.{Absent, Held, Unreadable}
use Rattle.smk_store.specs.Images.{Content, Image, content_of, core_at, file_at, for_path, image_of, is_covered, is_known, is_outside, is_source, kept_by, readable, seen, source_at, stands}
use Rattle.smk_store.specs.Safety.{with_sources}
use Rattle.smk_store.specs.Soundness.{Sound, SoundWorld}
use Rattle.smk_store.specs.Trust.{Chain, Link, SumsDiffer, Versions, Vir, any_source, input_value, made_at, none_eased, vir, vouched}
use Rattle.smk_flow.proofs.Examples.{commands}
use Rattle.smk_drive.proofs.Turns.{event}
use Rattle.smk_laws_protocol.proofs.Above.{held_by}
use Rattle.smk_laws_plan.proofs.CurrentLists.{in_filter, in_map, or_left}
use Rattle.smk_laws_history.specs.Histories.{ListsAll}
use Rattle.smk_laws_history.proofs.Finite.{node_from}
use Rattle.smk_laws_history.proofs.Same.{leaves_same}
use Rattle.smk_laws_history.proofs.Steps.{sound_image}
use Rattle.smk_words_reading.specs.declared.asked.Asked.TheVariants.{Forget, Run}
use Rattle.smk_words_reading.specs.declared.asked.RunWords.{RunWords}
use Rattle.smk_words_reading.specs.Asks.{IsAsked}
use Rattle.smk_words_reading.proofs.Whole.{one_asked}
use Rattle.smk_world.specs.Devices.{Device, Sunk}
use Rattle.smk_drive_rows.proofs.Events.{formed_of}
use Rattle.smk_drive_rows.proofs.CopyRow.{in_txt, out}
use Rattle.smk_cli_target.specs.declared.ending.Outcome.{Outcome}
use Rattle.smk_cli_target.specs.Clauses.{AreToForget, HasLog, NoPath, TheirPaths}
use Rattle.smk_cli_target.specs.Ends.{IsGoodEntry}
use Rattle.smk_cli_target.specs.Files.{outside}
use Rattle.smk_drive_rows.proofs.BytesRow.{copied, is_read}

none_some : {A : Type 0} (x : A) → None ≡ Some x → ⊥
none_some x h = cc

some_is : {A : Type 0} (x y : A) → Some x ≡ Some y → x ≡ y
some_is x y h = cc

-- ## What soundness says of the record

-- a record none of whose inputs was a product hangs together
no_products : (image : Image) (r : Record) → ((q : Path) (m : ℕ) → IsIn (stamped r) (q, Made m) → ⊥) → Chain image none_eased any_source r
no_products image r none =
    Link r (λ q m. q) (λ q m. r) (λ q s i of_source. tt) (λ q m i. absurd (none q m i)) (λ q m i. absurd (none q m i))

abbrev is_time : Path × Stamp → Bool
is_time (q, Time t) = true
is_time (q, Sum t d) = false
is_time (q, Made m) = false

one_time : (p : Path) (t : ℕ) (q : Path) (m : ℕ) → IsIn {A = Path × Stamp} ((p, Time t) ∷ []) (q, Made m) → ⊥
one_time p t q m (inl e) = true≢false (sym (ap is_time e))
one_time p t q m (inr i) = i

-- the source had these bytes at its time
abbrev hello_at : Versions
hello_at p t = if bytes_eq p (codes "in.txt") && (t == 1000) then Some (codes "hello\n") else None

-- one content has no other with its SHA-256
pub hello_differs : SumsDiffer hello_at
hello_differs p q t u a b had has same =
    sym (one_content (bytes_eq p (codes "in.txt") && (t == 1000)) a had) ∙ one_content (bytes_eq q (codes "in.txt") && (u == 1000)) b has
  where
    one_content : (c : Bool) (x : List ℕ) → (if c then Some (codes "hello\n") else None) ≡ Some x → codes "hello\n" ≡ x
    one_content true x h = some_is (codes "hello\n") x h
    one_content false x h = absurd (none_some x h)

differ : (t : Tree) → Some (File (codes "help\n")) ≡ Some t → Some (File (codes "hello\n")) ≡ Some t → ⊥
differ t a b = grind arith

-- ## The folder

abbrev mark : Node
mark = Regular [] 1000 false

abbrev input : Node
input = Regular (codes "hello\n") 1000 false

abbrev own_front : Nodes
own_front = (codes ".snakemake", Directory) ∷ (codes ".snakemake/smk", Directory) ∷ (marks_folder, Directory) ∷ []

abbrev behind : Nodes
behind =
    (records_folder, Directory)
    ∷ (record_place out, Regular (spelling copied) 1002 false)
    ∷ (in_txt, input)
    ∷ (out, Regular (codes "help\n") 1001 false)
    ∷ []

-- an unfinished job has left its output torn, under a mark; its record is the one of a run before
abbrev pub nodes : Nodes
nodes = own_front ++ (mark_place out, mark) ∷ behind

-- the same without the mark
abbrev pub torn : Nodes
torn = own_front ++ behind

abbrev pub entry : World
entry = world_of nodes

formed : IsFormed entry
formed = formed_of nodes refl

torn_formed : IsFormed (world_of torn)
torn_formed = formed_of torn refl

abbrev pub here : Image
here = seen record_in entry

-- what stands at a place that passes a test stands at one of the places that pass it
placed : (ns : Nodes) (t : Path → Bool) (q : Path) (n : Option Node) → node_in ns q ≡ n → is_some n ≡ true → t q ≡ true → IsIn (filter t (places_in ns)) q
placed ns t q None e some h = absurd (true≢false (sym some))
placed ns t q (Some n) e some h =
    in_filter t (places_in ns) q (in_map (λ (x : Path × Node). x.0) ns (q, n) (node_from ns q n e)) h

-- ## What is known there

-- these bytes stand in front of the text
abbrev begins : List ℕ → Path → Bool
begins front q = bytes_eq (take (length front) q) front

pub record_here : (q : Path) → is_some (node_in nodes (record_place q)) ≡ true → q ≡ out
record_here q some = go (placed nodes (begins (codes ".snakemake/smk/records/")) (record_place q) (node_in nodes (record_place q)) refl some refl)
  where
    go : IsIn (filter (begins (codes ".snakemake/smk/records/")) (places_in nodes)) (record_place q) → q ≡ out
    go (inl e) = same_record q out e
    go (inr i) = absurd i

pub mark_here : (q : Path) → is_some (node_in nodes (mark_place q)) ≡ true → q ≡ out
mark_here q some = go (placed nodes (begins (codes ".snakemake/smk/marks/")) (mark_place q) (node_in nodes (mark_place q)) refl some refl)
  where
    by : (b : Bool) → bytes_eq q out ≡ b → mark_place q ≡ mark_place out → q ≡ out
    by true e h = same_place q out e
    by false e h =
        absurd (true≢false (sym (place_itself (mark_place out))
        ∙ (ap (λ x. bytes_eq x (mark_place out)) (sym h) ∙ (mark-mark q out (λ same. true≢false (sym (place_itself out) ∙ (ap (λ x. bytes_eq x out) (sym same) ∙ e)))).differs)))

    go : IsIn (filter (begins (codes ".snakemake/smk/marks/")) (places_in nodes)) (mark_place q) → q ≡ out
    go (inl e) = by (bytes_eq q out) refl e
    go (inr i) = absurd i

pub no_note : (q : Path) → is_some (node_in nodes (note_place q)) ≡ true → ⊥
no_note q some = placed nodes (begins (codes ".snakemake/smk/logs/")) (note_place q) (node_in nodes (note_place q)) refl some refl

-- only of out.txt
record_of : (q : Path) (r : Record) → core_at here q ≡ Some r → q ≡ out
record_of q r h = by (is_path_text q) (node_in nodes (record_place q)) refl h
  where
    by : (b : Bool) (n : Option Node) → node_in nodes (record_place q) ≡ n → option_map core (readable (if b then kept_by record_in q n else Absent)) ≡ Some r → q ≡ out
    by true None e k = absurd (none_some r k)
    by true (Some n) e k = record_here q (ap is_some e)
    by false n e k = absurd (none_some r k)

-- and that is marked
pub all_marked : (q : Path) (r : Record) → core_at here q ≡ Some r → here.marked q ≡ false → ⊥
all_marked q r at unmarked = true≢false (subst (λ z. here.marked z ≡ false) (record_of q r at) unmarked)

-- ## It is a good entry

known_out : is_known here out ≡ true
known_out = or_second (stands (here.kept out)) (here.marked out || here.noted out) refl

no_source_out : is_source here out ≡ false
no_source_out = ap (λ b. not (b || false)) known_out

-- its one source
pub source_here : (q : Path) → is_source here q ≡ true → q ≡ in_txt
source_here q h =
    by (is_outside q) refl (node_in nodes q) refl
    (and_first (is_some (content_of (here.node q))) (not (is_covered here q)) (and_second (is_path_text q) (is_some (content_of (here.node q)) && not (is_covered here q)) h))
  where
    at : IsIn (filter is_outside (places_in nodes)) q → q ≡ in_txt
    at (inl e) = e
    at (inr (inl e)) = absurd (true≢false (sym (subst (λ x. is_source here x ≡ true) e h) ∙ no_source_out))
    at (inr (inr i)) = absurd i

    by : (b : Bool) → is_outside q ≡ b → (n : Option Node) → node_in nodes q ≡ n → is_some (content_of (if b then n else None)) ≡ true → q ≡ in_txt
    by true o None e k = absurd (true≢false (sym k))
    by true o (Some n) e k = at (placed nodes is_outside q (Some n) e refl o)
    by false o n e k = absurd (true≢false (sym k))

hello_is : (f : Content) → Some (record { bytes = codes "hello\n"; time = 1000; read_only = false }) ≡ Some f → hello_at in_txt f.time ≡ Some f.bytes
hello_is f h = ap (λ (c : Content). hello_at in_txt c.time) (sym (some_is _ f h)) ∙ ap (λ (c : Content). Some c.bytes) (some_is _ f h)

sources_hold : (p : Path) (f : Content) → source_at here p ≡ Some f → hello_at p f.time ≡ Some f.bytes
sources_hold p f h = go (is_source here p) refl h
  where
    go : (b : Bool) → is_source here p ≡ b → (if b then file_at here p else None) ≡ Some f → hello_at p f.time ≡ Some f.bytes
    go true e k =
        let is = source_here p e in
        subst (λ z. hello_at z f.time ≡ Some f.bytes) (sym is) (hello_is f (subst (λ z. file_at here z ≡ Some f) is k))
    go false e k = absurd (none_some f k)

one_record : (p q : Path) (a : Option Record) → core_at here p ≡ a → is_some a ≡ true → (b : Option Record) → core_at here q ≡ b → is_some b ≡ true → p ≡ q
one_record p q None e h b f k = absurd (true≢false (sym h))
one_record p q (Some r) e h None f k = absurd (true≢false (sym k))
one_record p q (Some r) e h (Some s) f k = record_of p r e ∙ sym (record_of q s f)

unmarked : {b : Bool} → (b ≡ false) ⊎ ⊥ → b ≡ false
unmarked (inl e) = e
unmarked (inr e) = absurd e

sound_here : Sound commands hello_at here none_eased
sound_here =
    record {
      has_sources = sources_hold;
      has_recorded = λ p r q s clear i. absurd (all_marked p r clear.0 (unmarked clear.1));
      holds = λ p r at unmarked chain whole. absurd (all_marked p r at unmarked);
      none_nested = λ p q a b over. one_record p q (core_at here p) refl a (core_at here q) refl b;
    }

abbrev stands_at : Path → Option Node
stands_at q = reading (entry.nodes q)

held : (q : Path) (n : Node) → IsIn nodes (q, n) → CanHold stands_at q
held q n i = by i
  where
    at : (z : Path) (m : Node) → CanHold stands_at z → ◌≡◌ {A = Path × Node} (q, n) (z, m) → CanHold stands_at q
    at z m can e = subst (CanHold stands_at) (sym (ap (λ (x : Path × Node). x.0) e)) can

    by : IsIn nodes (q, n) → CanHold stands_at q
    by (inl e) = at (codes ".snakemake") Directory (held_by stands_at (codes ".snakemake") tt refl) e
    by (inr (inl e)) = at (codes ".snakemake/smk") Directory (held_by stands_at (codes ".snakemake/smk") (refl, tt) refl) e
    by (inr (inr (inl e))) = at marks_folder Directory (held_by stands_at marks_folder (refl, (refl, tt)) refl) e
    by (inr (inr (inr (inl e)))) = at (mark_place out) mark (held_by stands_at (mark_place out) (refl, (refl, (refl, tt))) refl) e
    by (inr (inr (inr (inr (inl e))))) = at records_folder Directory (held_by stands_at records_folder (refl, (refl, tt)) refl) e
    by (inr (inr (inr (inr (inr (inl e)))))) =
        at (record_place out) (Regular (spelling copied) 1002 false) (held_by stands_at (record_place out) (refl, (refl, (refl, tt))) refl) e
    by (inr (inr (inr (inr (inr (inr (inl e))))))) = at in_txt input (held_by stands_at in_txt tt refl) e
    by (inr (inr (inr (inr (inr (inr (inr (inl e)))))))) = at out (Regular (codes "help\n") 1001 false) (held_by stands_at out tt refl) e
    by (inr (inr (inr (inr (inr (inr (inr (inr e)))))))) = absurd e

pub entry_tree : IsTree entry
entry_tree q some = by (node_in nodes q) refl some
  where
    by : (n : Option Node) → node_in nodes q ≡ n → IsSome n → CanHold stands_at q
    by None e s = no_node s
    by (Some n) e s = held q n (node_from nodes q n e)

all_listed : ListsAll here
all_listed p r at unmarked kind folder m i = absurd (all_marked p (core r) (ap (option_map core) at) unmarked)

sound_world : SoundWorld (outside commands) entry hello_at
sound_world = sound_image (outside commands) nodes hello_at formed.rising sound_here

pub good_entry : IsGoodEntry commands entry
good_entry =
    record {
      versions = hello_at;
      differ = hello_differs;
      sound = sound_world;
      tree = entry_tree;
      listed = record { now = all_listed; after_crash = λ left leaves. subst (λ ns. ListsAll (image_of record_in ns)) (sym (leaves_same nodes left formed.rising leaves)) all_listed };
    }

-- ## What a crash may not leave

short : nat_le (length (spelling copied)) 33554432 ≡ true
unfolding digits
short = refl

pub held_there : (time : ℕ) (read_only : Bool) → kept_by record_in out (Some (Regular (spelling copied) time read_only)) ≡ Held copied
held_there time read_only = λ n. if short n then for_path out (is_read n) else Unreadable

abbrev torn_image : Image
torn_image = image_of record_in torn

torn_record : core_at torn_image out ≡ Some (core copied)
torn_record = ap (λ k. option_map core (readable k)) (held_there 1002 false)

abbrev torn_versions : Versions
torn_versions = with_sources hello_at torn_image

vouches : Vir torn_image commands torn_versions out ≡ Some (File (codes "hello\n"))
vouches = ap (λ (c : Option Record). vouched commands out (input_value torn_image torn_versions (vir torn_image commands torn_versions (made_at c))) c) torn_record

-- the record vouches for the copy, and the output is torn
torn_refused : Sound commands torn_versions torn_image none_eased → ⊥
torn_refused sound =
    let h = sound.holds out (core copied) torn_record refl (no_products torn_image (core copied) (one_time in_txt 1000)) refl in
    differ h.0 h.1 (sym vouches ∙ h.2)

-- ## Wrong calls

pub forgets_none : (words : List Text) (w : RunWords) (paths : List Path) → IsAsked words (Run w) → AreToForget words paths → paths ≡ []
forgets_none words w _ asked (TheirPaths paths nolock is) = absurd (other (one_asked words (Forget paths nolock) (Run w) is asked))
  where
    other : Forget paths nolock ≡ Run w → ⊥
    other h = cc
forgets_none words w _ asked (NoPath none) = refl

module _ (words : List Text) (w : RunWords) (asked : IsAsked words (Run w)) (outcome : Outcome) (old new : Device) (out_old out_new : Sunk) where
  -- after some of the events a crash leaves the torn output without its mark
  loses_mark : (log events rest : List Event) → log ≡ events ++ rest → Leaves (run entry events) torn → HasLog commands words outcome old new out_old out_new entry log → ⊥
  loses_mark log events rest split leaves has =
      let kept = has.crashes good_entry [] false (NoPath (λ paths nolock is. other (one_asked words (Forget paths nolock) (Run w) is asked))) (λ h. absurd (true≢false (sym h))) in
      torn_refused ((kept.0.safe hello_at hello_differs sound_world events rest split torn leaves).0)
    where
      other : {paths : List Path} {nolock : Bool} → Forget paths nolock ≡ Run w → ⊥
      other h = cc

  -- elsewhere the two folders are the same
  elsewhere : (before rest : Nodes) (q p : Path) (n : Node) → bytes_eq q p ≡ false → node_in (before ++ (p, n) ∷ rest) q ≡ node_in (before ++ rest) q
  elsewhere [] rest q p n e = ap (λ (b : Bool). if b then Some n else node_in rest q) e
  elsewhere (x ∷ before) rest q p n e = ap (λ m. if bytes_eq q x.0 then Some x.1 else m) (elsewhere before rest q p n e)

  gone_there : (q : Path) → bytes_eq q (mark_place out) ≡ true → node_in torn q ≡ None
  gone_there q e = ap (node_in torn) (same_place q (mark_place out) e)

  -- what was removed, or is there still
  going_may : (n x : Option Node) → (x ≡ None) ⊎ (n ≡ x) → MayLeave (going None (firmly n)) x
  going_may n x (inl none) = inl none
  going_may None x (inr same) = inl (sym same)
  going_may (Some n) x (inr same) = inr (inl (sym same))

  -- the mark is taken away in the midst of the job, and put anew
  abbrev put_anew : List Event
  put_anew =
      event (Removed (mark_place out) (Ok tt)) []
      ∷ event (Created (mark_place out) (Ok true)) (record { place = mark_place out; node = mark } ∷ [])
      ∷ []

  pub puts_anew : HasLog commands words outcome old new out_old out_new entry put_anew → ⊥
  puts_anew has = loses_mark put_anew (take 1 put_anew) (drop 1 put_anew) refl (record { each = at; rising = torn_formed.rising }) has
    where
      was : (q : Path) (b : Bool) → bytes_eq q (mark_place out) ≡ b → (node_in torn q ≡ None) ⊎ (node_in nodes q ≡ node_in torn q)
      was q true e = inl (gone_there q e)
      was q false e = inr (elsewhere own_front behind q (mark_place out) mark e)

      may : (c : Bool) (n x : Option Node) → (x ≡ None) ⊎ (n ≡ x) → (c ≡ false → n ≡ x) → MayLeave (if c then going None (firmly n) else firmly n) x
      may true n x is other = going_may n x is
      may false n x is other = inl (sym (other refl))

      at : (q : Path) → MayLeave ((run entry (take 1 put_anew)).nodes q) (node_in torn q)
      at q =
          may (is_at_or_under q (mark_place out)) (node_in nodes q) (node_in torn q) (was q (bytes_eq q (mark_place out)) refl)
          (λ e. elsewhere own_front behind q (mark_place out) mark (or_left (bytes_eq q (mark_place out)) (is_under q (mark_place out)) e))

  -- the mark that stands is written anew
  abbrev written_anew : List Event
  written_anew = event (Written (mark_place out) [] (Ok tt)) (record { place = mark_place out; node = mark } ∷ []) ∷ []

  pub writes_anew : HasLog commands words outcome old new out_old out_new entry written_anew → ⊥
  writes_anew has = loses_mark written_anew written_anew [] refl (record { each = at; rising = torn_formed.rising }) has
    where
      may : (c : Bool) (m n x : Option Node) → (c ≡ false → n ≡ x) → MayLeave (if c then loose m (firmly n) else firmly n) x
      may true m n x other = inr tt
      may false m n x other = inl (sym (other refl))

      at : (q : Path) → MayLeave ((run entry written_anew).nodes q) (node_in torn q)
      at q =
          may (bytes_eq q (mark_place out)) (standing (record { place = mark_place out; node = mark } ∷ []) q) (node_in nodes q) (node_in torn q)
          (λ e. elsewhere own_front behind q (mark_place out) mark e)
