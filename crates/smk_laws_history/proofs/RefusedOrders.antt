-- Wrong orders of a run's calls, computed: what a crash may leave after them isn't sound.
use Rattle.std.proofs.Common.{◌≡◌, inl, inr, ap, true≢false, sym, subst, arith}
use Rattle.std.specs.Prelude.{ℕ, Bool, true, false, List, [], ◌∷◌, codes, Option, Some, None, Ok, Err, IsTrue, refl, bytes_eq, cond, ◌&&◌, ◌||◌, ◌==◌, if◌then◌else◌}
use Rattle.std.specs.List.Sorted.{IsStrictlySortedBy}
use Rattle.smk_base.specs.Path.{is_under}
use Rattle.smk_base.specs.Place.{record_place, mark_place}
use Rattle.smk_base.specs.declared.tree.Tree.{Tree}
use Rattle.smk_base.specs.declared.tree.Tree.TheVariants.{File}
use Rattle.smk_base.proofs.Places.{same_place}
use Rattle.smk_world.specs.declared.event.Node.{Node}
use Rattle.smk_world.specs.declared.event.Node.TheVariants.{Regular}
use Rattle.smk_world.specs.declared.event.NodeState.{NodeState}
use Rattle.smk_world.specs.declared.event.NodeState.TheVariants.{Known}
use Rattle.smk_world.specs.declared.event.Besides.TheVariants.{Anything}
use Rattle.smk_world.specs.declared.event.Call.TheVariants.{Written, Removed, Settled}
use Rattle.smk_world.specs.declared.event.Event.{Event}
use Rattle.smk_world.specs.declared.event.Failed.{Failed}
use Rattle.smk_world.specs.World.{World, Nodes, Leaves, MayLeave, firmly, node_in, loose, going, firm, standing, reads_folder, world_of, run}
use Rattle.smk_world.specs.Trees.{Path, IsIn}
use Rattle.smk_record.specs.declared.record.Stamp.{Stamp}
use Rattle.smk_record.specs.declared.record.Stamp.TheVariants.{Time, Made}
use Rattle.smk_record.specs.declared.record.Record.{Record}
use Rattle.smk_record.specs.Records.{agrees, stamped}
use Rattle.smk_store.specs.Images.{Image, image_of}
use Rattle.smk_store.specs.Trust.{none_eased, made_stamp, Speaks, Chain, Link, any_source, Versions}
use Rattle.smk_store.specs.Soundness.{Sound, SoundWorld}
use Rattle.smk_flow.proofs.Examples.{commands}
use Rattle.smk_chain.proofs.Folders.{file, image_with, recorded}
use Rattle.smk_plan.proofs.Plans.{temporary_jobs}
use Rattle.smk_laws_history.proofs.Refused.{no_products, one_time, differ, hello_at, outside, torn, spelled}

-- the places of out.txt
abbrev pub out_record : Path
out_record = record_place (codes "out.txt")

abbrev pub out_mark : Path
out_mark = mark_place (codes "out.txt")

abbrev pub mark : Node
mark = Regular [] 1000 false

abbrev pub kept : Node
kept = Regular spelled 1002 false

-- ## A mark that is removed before the record is settled

-- the output is firm under its mark, and has no record yet
abbrev pub recording : Nodes
recording =
    (out_mark, mark)
    ∷ (codes "in.txt", Regular (codes "hello\n") 1000 false)
    ∷ (codes "out.txt", Regular (codes "hello\n") 1001 false)
    ∷ []

-- the record is written, and the mark removed
abbrev pub unmarked_early : List Event
unmarked_early =
    record { call = Written out_record spelled (Ok tt); left = record { place = out_record; node = kept } ∷ [] }
    ∷ record { call = Removed out_mark (Ok tt); left = [] }
    ∷ []

-- what a crash may leave then: neither is there
abbrev pub no_record : Nodes
no_record =
    (codes "in.txt", Regular (codes "hello\n") 1000 false)
    ∷ (codes "out.txt", Regular (codes "hello\n") 1001 false)
    ∷ []

loose_may : (n m : Option Node) (s : NodeState) → (s ≡ firmly m) → (x : Option Node) → MayLeave (loose n s) x
loose_may n m s e x = subst (λ t. MayLeave (loose n t) x) (sym e) (inr tt)

-- what is removed may be back
gone_may : (x : Option Node) → MayLeave (going None (firmly x)) x
gone_may None = inl refl
gone_may (Some n) = inr (inl refl)

unmarked_may : (at under written : Bool) (n x : Option Node) → (at ≡ true → x ≡ None) → (at ≡ true → written ≡ false) →
    MayLeave
    (if at || under then going None (if written then loose n (firmly (if at then Some mark else x)) else firmly (if at then Some mark else x))
    else (if written then loose n (firmly (if at then Some mark else x)) else firmly (if at then Some mark else x))) x
unmarked_may true under true n x none other = absurd (true≢false (other refl))
unmarked_may true under false n x none other = inl (none refl)
unmarked_may false true true None x none other = inr tt
unmarked_may false true true (Some m) x none other = inr tt
unmarked_may false true false n x none other = gone_may x
unmarked_may false false true n x none other = inr tt
unmarked_may false false false n x none other = inl refl

pub leaves_no_record : Leaves (run (world_of recording) unmarked_early) no_record
unfolding IsStrictlySortedBy
leaves_no_record = record {
  each = λ q.
      unmarked_may (bytes_eq q out_mark) (is_under q out_mark) (bytes_eq q out_record) (standing (record { place = out_record; node = kept } ∷ []) q) (node_in no_record q)
      (λ e. ap (node_in no_record) (same_place q out_mark e)) (λ e. ap (λ z. bytes_eq z out_record) (same_place q out_mark e));
  rising = ((refl, tt), (tt, tt));
}

pub some_is_none : {A : Type 0} (x : A) → Some x ≡ None → ⊥
some_is_none x h = cc

-- Where the mark goes before the record is settled, a crash may turn the output into a source: the world is sound for no versions.
pub record_unsettled_refused : (H : Versions) → SoundWorld outside (run (world_of recording) unmarked_early) H → ⊥
record_unsettled_refused H sound = some_is_none _ (sound.same_sources no_record leaves_no_record (codes "out.txt"))

-- ## A standing mark that is written anew

-- an unfinished job has left its output torn, under a firm mark
abbrev pub unfinished : Nodes
unfinished = (out_mark, mark) ∷ torn

abbrev pub marked_anew : List Event
marked_anew = record { call = Written out_mark [] (Ok tt); left = record { place = out_mark; node = mark } ∷ [] } ∷ []

anew_may : (at : Bool) (n x : Option Node) → MayLeave (if at then loose n (firmly (if at then Some mark else x)) else firmly (if at then Some mark else x)) x
anew_may true n x = inr tt
anew_may false n x = inl refl

pub leaves_torn_anew : Leaves (run (world_of unfinished) marked_anew) torn
unfolding IsStrictlySortedBy
leaves_torn_anew = record {
  each = λ q. anew_may (bytes_eq q out_mark) (standing (record { place = out_mark; node = mark } ∷ []) q) (node_in torn q);
  rising = ((refl, (refl, tt)), ((refl, tt), (tt, tt)));
}

-- the record vouches for the copy, and the output is torn
torn_refused : Sound commands hello_at (image_of outside.read torn) none_eased → ⊥
torn_refused sound =
    let h = sound.holds (codes "out.txt") _ refl refl (no_products (image_of outside.read torn) _ (one_time (codes "in.txt") 1000)) refl in
    differ h.0 h.1 h.2

-- Where a standing mark is written anew, a crash may lose it: the old record then vouches for a torn output.
pub anew_refused : SoundWorld outside (run (world_of unfinished) marked_anew) hello_at → ⊥
anew_refused sound = torn_refused (sound.after_crash torn leaves_torn_anew)

-- ## An output whose settling failed

abbrev pub input : Node
input = Regular (codes "hello\n") 1000 false

-- the command has ended, and its output isn't firm yet
abbrev ended : World
ended =
    record {
      names = out_mark ∷ codes "in.txt" ∷ codes "out.txt" ∷ [];
      nodes = λ q. cond (bytes_eq q (codes "out.txt")) (Known (Some (Regular (codes "hello\n") 1001 false)) Anything) (firmly (node_in ((out_mark, mark) ∷ (codes "in.txt", input) ∷ []) q));
      children = [];
      log = [];
    }

-- the settling of the output fails, and the job goes on as if it hadn't
abbrev pub gone_on : Failed → List Event
gone_on fault =
    record { call = Settled (codes "out.txt" ∷ []) (Err fault); left = [] }
    ∷ record { call = Written out_record spelled (Ok tt); left = record { place = out_record; node = kept } ∷ [] }
    ∷ record { call = Settled (out_record ∷ []) (Ok tt); left = [] }
    ∷ record { call = Removed out_mark (Ok tt); left = [] }
    ∷ []

-- the state of a place after these events, by what the place is
abbrev after_failure : Bool → Bool → Bool → Bool → Bool → Bool → Option Node → Option Node → NodeState
after_failure output at_record at_mark under_mark under_record above_record n x =
    let start = cond output (Known (Some (Regular (codes "hello\n") 1001 false)) Anything) (firmly (if at_mark then Some mark else x)) in
    let written = if at_record then loose n start else start in
    let settled = if ((at_record || under_record) || false) || ((above_record || false) && reads_folder written) then firm written else written in
    if at_mark || under_mark then going None settled else settled

either_way : (P : NodeState → Type 0) (s : NodeState) (c : Bool) → P s → P (if c then s else s)
either_way P s true h = h
either_way P s false h = h

elsewhere_may : (output at_record at_mark under_mark under_record above_record : Bool) (n x : Option Node) → output ≡ false → at_record ≡ false → at_mark ≡ false →
    MayLeave (after_failure output at_record at_mark under_mark under_record above_record n x) x
elsewhere_may true r e u ur a n x o' r' e' = absurd (true≢false o')
elsewhere_may false true e u ur a n x o' r' e' = absurd (true≢false r')
elsewhere_may false false true u ur a n x o' r' e' = absurd (true≢false e')
elsewhere_may false false false true ur a n x o' r' e' =
    either_way (λ s. MayLeave (going None s) x) (firmly x) ((ur || false) || ((a || false) && reads_folder (firmly x))) (gone_may x)
elsewhere_may false false false false ur a n x o' r' e' =
    either_way (λ s. MayLeave s x) (firmly x) ((ur || false) || ((a || false) && reads_folder (firmly x))) (inl refl)

torn_elsewhere : (at_record output i : Bool) → output ≡ false → at_record ≡ false →
    (if at_record then Some kept else (if i then Some input else (if output then Some (Regular (codes "help\n") 1001 false) else None))) ≡ (if i then Some input else None)
torn_elsewhere true o i o' r' = absurd (true≢false r')
torn_elsewhere false true i o' r' = absurd (true≢false o')
torn_elsewhere false false i o' r' = refl

module _ (fault : Failed) where
  abbrev left : World
  left = run ended (gone_on fault)

  leaves_torn_after : Leaves left torn
  unfolding IsStrictlySortedBy
  leaves_torn_after = record {
    each = λ q. at q (bytes_eq q (codes "out.txt")) refl (bytes_eq q out_record) refl (bytes_eq q out_mark) refl;
    rising = ((refl, (refl, tt)), ((refl, tt), (tt, tt)));
  }
    where
      at : (q : Path) (o : Bool) → bytes_eq q (codes "out.txt") ≡ o → (r : Bool) → bytes_eq q out_record ≡ r → (e : Bool) → bytes_eq q out_mark ≡ e → MayLeave (left.nodes q) (node_in torn q)
      at q true is r r' e e' = subst (λ z. MayLeave (left.nodes z) (node_in torn z)) (sym (same_place q (codes "out.txt") is)) (inr tt)
      at q false o' true is e e' = subst (λ z. MayLeave (left.nodes z) (node_in torn z)) (sym (same_place q out_record is)) (inl refl)
      at q false o' false r' true is = subst (λ z. MayLeave (left.nodes z) (node_in torn z)) (sym (same_place q out_mark is)) (inl refl)
      at q false o' false r' false e' =
          subst (λ n. MayLeave (left.nodes q) n) (sym (torn_elsewhere (bytes_eq q out_record) (bytes_eq q (codes "out.txt")) (bytes_eq q (codes "in.txt")) o' r'))
          (elsewhere_may (bytes_eq q (codes "out.txt")) (bytes_eq q out_record) (bytes_eq q out_mark) (is_under q out_mark) (is_under q out_record) (is_under out_record q)
          (standing (record { place = out_record; node = kept } ∷ []) q) (if bytes_eq q (codes "in.txt") then Some input else None) o' r' e')

  -- Where the job goes on after the settling of its output has failed, its record vouches for an output that a crash may tear.
  pub failed_settle_refused : SoundWorld outside left hello_at → ⊥
  failed_settle_refused sound = torn_refused (sound.after_crash torn leaves_torn_after)

-- ## A serial that is used again

-- From s comes t, with the serial 1, and from t come u and v, which name it. Then s is edited, and t is made anew with the same serial.
abbrev same_serial : Image
same_serial =
    image_with
    (file (codes "s") 5 (codes "z") ∷ file (codes "t") 6 (codes "z") ∷ file (codes "u") 3 (codes "q") ∷ file (codes "v") 4 (codes "q") ∷ [])
    (recorded temporary_jobs ((1, Time 5 ∷ [], []) ∷ (2, Made 1 ∷ [], []) ∷ (3, Made 1 ∷ [], []) ∷ [])) []

-- both contents of the source at their times
abbrev edited_source : Versions
edited_source p t = if bytes_eq p (codes "s") then (if t == 1 then Some (codes "q") else (if t == 5 then Some (codes "z") else None)) else None

-- a record with one product input hangs together where that product's record speaks, agrees and hangs together
one_product :
    (image : Image) (r s : Record) (p : Path) (n : ℕ) → stamped r ≡ (p, Made n) ∷ [] → Speaks image none_eased p p s → IsTrue (agrees (Made n) (made_stamp (Some s))) →
    Chain image none_eased any_source s → Chain image none_eased any_source r
one_product image r s p n only speaks same chain =
    Link r (λ q m. p) (λ q m. s) (λ q s i k. tt) (λ q m i. by q m (subst (λ l. IsIn l (q, Made m)) only i)) (λ q m i. chain)
  where
    by : (q : Path) (m : ℕ) → IsIn {A = Path × Stamp} ((p, Made n) ∷ []) (q, Made m) → Speaks image none_eased q p s × IsTrue (agrees (Made m) (made_stamp (Some s)))
    by q m (inl e) = (subst (λ z. Speaks image none_eased z p s) (sym (ap (λ (x : Path × Stamp). x.0) e)) speaks, subst (λ z. IsTrue (agrees z (made_stamp (Some s)))) (sym (ap (λ (x : Path × Stamp). x.1) e)) same)
    by q m (inr i) = absurd i

two_trees : (t : Tree) → Some (File (codes "q")) ≡ Some t → Some (File (codes "z")) ≡ Some t → ⊥
two_trees t a b = grind arith

-- Where a serial is used again, an old record that names it believes the new one: it vouches for other bytes than it has.
pub serial_again_refused : Sound commands edited_source same_serial none_eased → ⊥
serial_again_refused sound =
    let t_chain = no_products same_serial _ (one_time (codes "s") 5) in
    let h = sound.holds (codes "u") _ refl refl (one_product same_serial _ _ (codes "t") 1 refl (record { no_source = refl; holder = refl; clear = (refl, inl refl) }) refl t_chain) refl in
    two_trees h.0 h.1 h.2
