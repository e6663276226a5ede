-- A spent output is removed: an output with an unmarked record that no open job owns or reads, and of which no more stands than is recorded.
use Rattle.smk_laws_protocol.proofs.Formed.{all_named}
use Rattle.std.proofs.Common.{◌≡◌, ◌⊎◌, ◌≤◌, ℕ, Bool, true, false, List, [], ◌∷◌, refl, sym, ap, subst, inl, inr, arith, ◌∙◌, Option, Some, None}
use Rattle.std.specs.Prelude.{bytes_eq, IsTrue, IsSome, if◌then◌else◌, ◌||◌, option_map, Ok, Err, Result}
use Rattle.std.specs.List.{list_any}
use Rattle.smk_world.specs.declared.event.Call.TheVariants.{Removed}
use Rattle.smk_world.specs.declared.event.Change.{Change as LeftNode}
use Rattle.smk_world.specs.declared.event.Failed.{Failed}
use Rattle.smk_world.specs.declared.recipe.Kind.TheVariants.{Plain}
use Rattle.smk_record.specs.declared.record.Record.{Record}
use Rattle.smk_world.specs.Trees.{Path, among, IsIn, is_path_text}
use Rattle.smk_base.specs.Path.{overlaps, is_at_or_under}
use Rattle.smk_store.specs.Images.{is_outside}
use Rattle.smk_world.specs.World.{in_paths, World, IsFormed, MayLeave, after, reading, standing, going}
use Rattle.smk_store.specs.Trust.{Versions}
use Rattle.smk_record.specs.Records.{core}
use Rattle.smk_laws_protocol.proofs.View.{Clear, Sound}
use Rattle.smk_laws_protocol.proofs.Views.{Nodes, HasNames, reads, view_of, read_at}
use Rattle.smk_base.specs.Place.{record_place}
use Rattle.smk_store.specs.Soundness.{Outside}
use Rattle.smk_laws_protocol.specs.Protocol.{OpenJob, Marking, RunState, own, outputs, eased}
use Rattle.smk_laws_protocol.proofs.Rows.{now, IsFree}
use Rattle.smk_world.specs.Calls.{any_overlap}
use Rattle.smk_laws_protocol.proofs.Between.{Midway, Fits, Lets, HasSources, HasNoNested, HasNoRecordClash, IsUnused, IsBounded}
use Rattle.smk_laws_protocol.proofs.Apart.{free_of, free_to}
use Rattle.smk_laws_protocol.proofs.Along.{IsQuiet}
use Rattle.smk_laws_protocol.proofs.Aside.{aside}
use Rattle.smk_laws_protocol.proofs.Basics.{each_in, by_test, clash}
use Rattle.smk_laws_protocol.proofs.Calls.{event}
use Rattle.smk_laws_protocol.proofs.Change.{IsOwner}
use Rattle.smk_laws_protocol.proofs.Marking.{reads_stay}
use Rattle.smk_laws_protocol.proofs.Naming.{IsImage, each_image, of_images, of_wide, now_image}
use Rattle.smk_laws_protocol.proofs.NodeChange.{places_outside, node_change_by}
use Rattle.smk_laws_protocol.proofs.Phases.{IsOther}
use Rattle.smk_laws_protocol.proofs.Quiet.{quiet_call}
use Rattle.smk_base.proofs.Places.{place_itself, same_place}
use Rattle.smk_laws_protocol.proofs.Stays.{Meets}
use Rattle.smk_laws_protocol.proofs.Texts.{Texts}
use Rattle.smk_laws_protocol.proofs.Shrunk.{Shrunk, shrunk_safe, going_some}

module _ (o : Outside) (texts : Texts o.read) (entry : World) (H : Versions) (s : RunState) (w : World) (m : Midway o entry H s w) (p : Path) (x : Record) (free : IsFree o s w p x) where
  -- as if a job owned the output alone
  abbrev pub spent : OpenJob
  spent =
      record {
        recipe = record { template = []; wildcards = []; params = []; inputs = []; outputs = record { name = []; outs = record { path = p; kind = Plain } ∷ [] } ∷ [] };
        logs = [];
        stamps = [];
        serial = x.made;
        kept = [];
        phase = Marking;
      }

  first_false : (a : Bool) → (a || false) ≡ true → a ≡ true
  first_false a h = grind arith

  unmarked_clear : Clear (now o w) (eased s) p x
  unmarked_clear = (free.recorded, inl free.unmarked)

  made_low : x.made ≤ s.top
  made_low = by_steady s.steady refl
    where
      by_steady : (b : Bool) → s.steady ≡ b → x.made ≤ s.top
      by_steady true h = each_image o.read w (IsBounded o (eased s) s.top) (m.images.bounded h) w.names (reads w) (now_image w m.images.formed) p x x.made unmarked_clear (inl refl)
      by_steady false h = m.images.unsteady h p x x.made free.recorded free.unmarked (inl refl)

  -- the image with what reads now in the place of the record of p
  abbrev with_now : Nodes → Nodes
  with_now f q = if is_at_or_under q (record_place p) then reads w q else f q

  with_now_image : (names : List Path) (f : Nodes) → IsImage w names f → IsImage w names (with_now f)
  with_now_image names f i =
      record { rising = i.rising; complete = λ q. complete q (is_at_or_under q (record_place p)); covered = i.covered; leaves = λ q. leaves q (is_at_or_under q (record_place p)) }
    where
      complete : (q : Path) (b : Bool) → IsSome (if b then reads w q else f q) → IsTrue (among names q)
      complete q true h = i.covered q h
      complete q false h = i.complete q h

      leaves : (q : Path) (b : Bool) → MayLeave (w.nodes q) (if b then reads w q else f q)
      leaves q true = reads_stay (w.nodes q)
      leaves q false = i.leaves q

  -- a record that overlaps p is its own
  alone : (names : List Path) (f : Nodes) → IsImage w names f → (q : Path) → IsSome ((view_of o.read names f).record_at q) → overlaps q p ≡ true → q ≡ p
  alone names g i q is over =
      by_test (bytes_eq q p) (λ h. same_place q p h)
      (λ h. each_image o.read w (HasNoNested o) m.images.no_nested names (with_now g) (with_now_image names g i) q p
      (subst (λ n. IsSome (option_map core (read_at o.read q (if is_path_text q then n else None)))) (sym (ap (λ (b : Bool). if b then reads w (record_place q) else g (record_place q)) (texts.records.record_record p q h))) is)
      (some ((view_of o.read names (with_now g)).record_at p)
      (ap (λ (b : Bool). option_map core (read_at o.read p (if is_path_text p then (if b then reads w (record_place p) else g (record_place p)) else None))) (at_self (record_place p)) ∙ free.recorded))
      over)
    where
      some : (y : Option Record) → y ≡ Some x → IsSome y
      some y h = rw h refl

      at_self : (q : Path) → is_at_or_under q q ≡ true
      at_self q = rw (place_itself q) refl

  pub spent_owner : IsOwner o s.top w spent
  spent_owner =
      record {
        no_record_clash = of_images o.read w (HasNoRecordClash o spent) (λ names f i q is over. inl (alone names f i q is (first_false (overlaps q p) over)));
        apart = refl;
        numbers_low = λ q n i. low n i;
      }
    where
      some : (y : Option Record) → y ≡ Some x → IsSome y
      some y h = rw h refl

      low : (n : ℕ) → (n ≡ x.made) ⊎ ⊥ → n ≤ s.top
      low n (inl h) = subst (λ y. y ≤ s.top) (sym h) made_low
      low n (inr h) = absurd h

  pub spent_meets : (k : OpenJob) → IsIn s.jobs k → Meets spent k × IsOther spent k
  spent_meets k i =
      let own_free = each_in (λ k. any_overlap (own k) (p ∷ []) ≡ false) s.jobs k free.from_own i in
      let inputs_free = each_in (λ k. any_overlap (p ∷ []) (in_paths k.recipe) ≡ false) s.jobs k free.from_inputs i in (
        record {
          clash = λ q h over. clash (list_any (overlaps q) (own k)) over (subst (λ y. list_any (overlaps y) (own k) ≡ false) (sym (only q h)) (free_to texts.overlap (own k) (p ∷ []) p own_free (inl refl)));
          unnamed = λ none y named. named;
          unused = λ none same q h.
              subst (λ y. IsIn (outputs k) y) (sym (only q h))
              (each_image o.read w (IsUnused o (eased s) k) ((each_in (Fits o entry (eased s) s.top w) s.jobs k m.fits i).unused none) w.names (reads w) (now_image w m.images.formed) p x unmarked_clear same);
          inputs = λ q h. free_to texts.overlap (p ∷ []) (in_paths k.recipe) q inputs_free h;
        },
        record {
          own_free = λ q h. free_of (own k) (p ∷ []) q own_free h;
          inputs_free = λ q h. free_to texts.overlap (p ∷ []) (in_paths k.recipe) q inputs_free h;
        },
      )
    where
      only : (q : Path) → (q ≡ p) ⊎ ⊥ → q ≡ p
      only q (inl h) = h
      only q (inr h) = absurd h

  -- what shrinks at the output keeps what holds between events
  pub shrinking : (w' : World) → IsFormed w' → HasNames w'.names (reads w) → Shrunk o w w' p → (quiet : IsQuiet w w') → Midway o entry H s w'
  shrinking w' formed covered shrunk quiet =
      aside o texts entry H s w m spent spent_owner spent_meets w'
      (node_change_by o texts entry H spent (eased s) (eased s) s.top s.steady w w' m.images (λ p r h. h) formed covered (p ∷ []) (λ q i. i)
      (record { others = λ q h. shrunk.others q (no_or (is_at_or_under q p) h) }) (places_outside o texts (p ∷ []) (λ q i. is_a_path q i))
      (of_wide o.read texts.naming w m.images.formed w' (λ v. Sound o.act H v (eased s) × HasSources o (now o entry) v)
      (λ names g i. shrunk_safe o texts entry H (eased s) s.top s.steady w w' m.images p x free.recorded free.path free.no_more shrunk names g i)))
      quiet
    where
      no_or : (a : Bool) → (a || false) ≡ false → a ≡ false
      no_or a h = grind arith

      is_a_path : (q : Path) → (q ≡ p) ⊎ ⊥ → is_outside q ≡ true
      is_a_path q (inl h) = subst (λ y. is_outside y ≡ true) (sym h) free.path
      is_a_path q (inr h) = absurd h

pub spend_keeps :
    (o : Outside) (texts : Texts o.read) (entry : World) (H : Versions) (s : RunState) (w : World) → Midway o entry H s w →
    (p : Path) (r : Result (Unit {0}) Failed) (left : List LeftNode) (x : Record) → Lets o w (event (Removed p r) left) (Removed p r) → IsFree o s w p x →
    Midway o entry H s (after w (event (Removed p r) left))
spend_keeps o texts entry H s w m p r left x lets free =
    shrinking o texts entry H s w m p x free (after w (event (Removed p r) left)) (texts.formed w (event (Removed p r) left) m.images.formed)
    (λ q h. texts.grown w (event (Removed p r) left) q ((all_named _ m.images.formed) q h))
    (record {
      others = λ q h. rw h refl;
      fewer = λ q n under some h. going_some (w.nodes q) (standing left q) n (left_is r lets q under) some (subst (λ t. MayLeave t n) (there q under) h);
    })
    (quiet_call w (Removed p r) left tt)
  where
    left_is : (r : Result (Unit {0}) Failed) → Lets o w (event (Removed p r) left) (Removed p r) → (q : Path) → is_at_or_under q p ≡ true → (standing left q ≡ None) ⊎ (standing left q ≡ reading (w.nodes q))
    left_is (Ok u) lets q under = inl (ap (λ l. standing l q) lets)
    left_is (Err e) lets q under = lets q under

    there : (q : Path) → is_at_or_under q p ≡ true → (after w (event (Removed p r) left)).nodes q ≡ going (standing left q) (w.nodes q)
    there q h = ap (λ (b : Bool). if b then going (standing left q) (w.nodes q) else w.nodes q) h
