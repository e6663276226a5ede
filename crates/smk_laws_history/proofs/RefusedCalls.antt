-- Logs in a wrong order don't keep what a call has to keep: from a sound world they lead to one that isn't.
use Rattle.std.proofs.Common.{◌≡◌, ◌⊎◌, inl, inr, ap, true≢false, sym, subst, ◌∙◌}
use Rattle.std.specs.Prelude.{ℕ, Bool, true, false, List, [], codes, Option, Some, None, IsSome, refl, bytes_eq, length, nat_le, option_map, ◌&&◌, ◌==◌, if◌then◌else◌}
use Rattle.std.specs.List.Sorted.{IsStrictlySortedBy}
use Rattle.smk_base.specs.Place.{record_place}
use Rattle.smk_base.proofs.Places.{same_place}
use Rattle.smk_world.specs.declared.event.Node.{Node}
use Rattle.smk_world.specs.declared.event.Node.TheVariants.{Regular, Directory}
use Rattle.smk_world.specs.World.{Nodes, IsRising, node_in, places_in, world_of}
use Rattle.smk_world.specs.Trees.{Path, IsIn, is_path_text}
use Rattle.smk_record.specs.declared.record.Record.{Record}
use Rattle.smk_record.specs.Records.{core, is_valid}
use Rattle.smk_store.specs.declared.store.Kept.TheVariants.{Absent, Unreadable, Held}
use Rattle.smk_store.specs.Images.{Image, Content, content_of, image_of, is_outside, is_source, source_at, core_at, readable, for_path, kept_by}
use Rattle.smk_store.specs.Trust.{none_eased, SumsDiffer, Versions}
use Rattle.smk_store.specs.Soundness.{Sound}
use Rattle.smk_store.specs.Safety.{KeepsSound}
use Rattle.smk_flow.proofs.Examples.{commands}
use Rattle.smk_plan.proofs.Plans.{copy_records}
use Rattle.smk_laws_history.proofs.Finite.{node_from}
use Rattle.smk_laws_history.proofs.Refused.{no_products, one_time, differ, hello_at, outside, torn, spelled, first_record}
use Rattle.smk_laws_history.proofs.RefusedOrders.{out_record, out_mark, mark, kept, input, recording, unmarked_early, no_record, leaves_no_record, some_is_none, unfinished, marked_anew, leaves_torn_anew}
use Rattle.smk_laws_history.proofs.Steps.{sound_image}

-- ## Folders that are sound

abbrev path_or : Option Record → Path
path_or None = []
path_or (Some r) = r.path

none_some : {A : Type 0} (x : A) → None ≡ Some x → ⊥
none_some x h = cc

some_is : {A : Type 0} (x y : A) → Some x ≡ Some y → x ≡ y
some_is x y h = cc

-- all that reads as a record is the record of out.txt
read_path : (b : Bool) (r : Record) → (if b then first_record copy_records else None) ≡ Some r → r.path ≡ codes "out.txt"
read_path true r h = sym (ap path_or h)
read_path false r h = absurd (none_some r h)

held_path : (p : Path) (o : Option Record) (r : Record) → ((s : Record) → o ≡ Some s → s.path ≡ codes "out.txt") → readable (for_path p o) ≡ Some r → p ≡ codes "out.txt"
held_path p None r own h = absurd (none_some r h)
held_path p (Some s) r own h = go (bytes_eq s.path p) refl (is_valid s) h
  where
    go : (a : Bool) → bytes_eq s.path p ≡ a → (b : Bool) → readable (if a && b then Held s else Unreadable) ≡ Some r → p ≡ codes "out.txt"
    go true e true k = sym (same_place s.path p e) ∙ own s refl
    go true e false k = absurd (none_some r k)
    go false e b k = absurd (none_some r k)

kept_path : (p : Path) (n : Option Node) (r : Record) → readable (kept_by outside.read p n) ≡ Some r → p ≡ codes "out.txt"
kept_path p None r h = absurd (none_some r h)
kept_path p (Some Directory) r h = absurd (none_some r h)
kept_path p (Some (Regular bytes time read_only)) r h = go (nat_le (length bytes) 33554432) h
  where
    go : (b : Bool) → readable (if b then for_path p (outside.read bytes) else Unreadable) ≡ Some r → p ≡ codes "out.txt"
    go true k = held_path p (outside.read bytes) r (λ s e. read_path (bytes_eq bytes spelled) s e) k
    go false k = absurd (none_some r k)

record_path : (nodes : Nodes) (p : Path) (r : Record) → core_at (image_of outside.read nodes) p ≡ Some r → p ≡ codes "out.txt"
record_path nodes p r h = go (is_path_text p) h
  where
    from : (k : Option Record) → option_map core k ≡ Some r → (x : Record) × (k ≡ Some x)
    from None e = absurd (none_some r e)
    from (Some x) e = (x, refl)

    go : (b : Bool) → option_map core (readable (if b then kept_by outside.read p (node_in nodes (record_place p)) else Absent)) ≡ Some r → p ≡ codes "out.txt"
    go true k = let x = from (readable (kept_by outside.read p (node_in nodes (record_place p)))) k in kept_path p (node_in nodes (record_place p)) x.0 x.1
    go false k = absurd (none_some r k)

-- A folder is sound for these versions where its only sources have them, and the record of out.txt, if it is there, is marked.
module _ (nodes : Nodes) (H : Versions) where
  abbrev here : Image
  here = image_of outside.read nodes

  marked_sound : ((p : Path) (f : Content) → source_at here p ≡ Some f → H p f.time ≡ Some f.bytes) → here.marked (codes "out.txt") ≡ true → Sound commands H here none_eased
  marked_sound sources is =
      record {
        has_sources = sources;
        has_recorded = λ p r q s clear i. absurd (counts p r clear.0 clear.1);
        holds = λ p r at unmarked chain whole. absurd (marked p r at unmarked);
        none_nested = λ p q a b over. nested p q (core_at here p) refl a (core_at here q) refl b;
      }
    where
      marked : (p : Path) (r : Record) → core_at here p ≡ Some r → here.marked p ≡ false → ⊥
      marked p r at unmarked = true≢false (sym is ∙ subst (λ z. here.marked z ≡ false) (record_path nodes p r at) unmarked)

      counts : (p : Path) (r : Record) → core_at here p ≡ Some r → (here.marked p ≡ false) ⊎ none_eased p r → ⊥
      counts p r at (inl unmarked) = marked p r at unmarked
      counts p r at (inr never) = never

      nested : (p q : Path) (a : Option Record) → core_at here p ≡ a → IsSome a → (b : Option Record) → core_at here q ≡ b → IsSome b → p ≡ q
      nested p q None e h b f k = absurd (true≢false (sym h))
      nested p q (Some r) e h None f k = absurd (true≢false (sym k))
      nested p q (Some r) e h (Some s) f k = record_path nodes p r e ∙ sym (record_path nodes q s f)

-- where a source comes from
source_node : (nodes : Nodes) (p : Path) (f : Content) → source_at (image_of outside.read nodes) p ≡ Some f → (n : Node) × IsIn nodes (p, n)
source_node nodes p f h = go (is_source (image_of outside.read nodes) p) (is_outside p) (node_in nodes p) refl h
  where
    go : (a b : Bool) (n : Option Node) → node_in nodes p ≡ n → (if a then content_of (if b then n else None) else None) ≡ Some f → (m : Node) × IsIn nodes (p, m)
    go true true None e k = absurd (none_some f k)
    go true true (Some n) e k = (n, node_from nodes p n e)
    go true false n e k = absurd (none_some f k)
    go false b n e k = absurd (none_some f k)

-- of the one source
hello_is : (f : Content) → Some (record { bytes = codes "hello\n"; time = 1000; read_only = false }) ≡ Some f → hello_at (codes "in.txt") f.time ≡ Some f.bytes
hello_is f h = ap (λ (c : Content). hello_at (codes "in.txt") c.time) (sym (some_is _ f h)) ∙ ap (λ (c : Content). Some c.bytes) (some_is _ f h)

unfinished_sources : (p : Path) (f : Content) → source_at (image_of outside.read unfinished) p ≡ Some f → hello_at p f.time ≡ Some f.bytes
unfinished_sources p f h = let n = source_node unfinished p f h in at n.0 n.1
  where
    is : (z : Path) (n m : Node) → ◌≡◌ {A = Path × Node} (p, n) (z, m) → (source_at (image_of outside.read unfinished) z ≡ Some f → hello_at z f.time ≡ Some f.bytes) → hello_at p f.time ≡ Some f.bytes
    is z n m e wanted = subst (λ y. source_at (image_of outside.read unfinished) y ≡ Some f → hello_at y f.time ≡ Some f.bytes) (sym (ap (λ (x : Path × Node). x.0) e)) wanted h

    at : (n : Node) → IsIn unfinished (p, n) → hello_at p f.time ≡ Some f.bytes
    at n (inl e) = is out_mark n mark e (λ k. absurd (none_some f k))
    at n (inr (inl e)) = is out_record n kept e (λ k. absurd (none_some f k))
    at n (inr (inr (inl e))) = is (codes "in.txt") n input e (λ k. hello_is f k)
    at n (inr (inr (inr (inl e)))) = is (codes "out.txt") n (Regular (codes "help\n") 1001 false) e (λ k. absurd (none_some f k))
    at n (inr (inr (inr (inr e)))) = absurd e

recording_sources : (p : Path) (f : Content) → source_at (image_of outside.read recording) p ≡ Some f → hello_at p f.time ≡ Some f.bytes
recording_sources p f h = let n = source_node recording p f h in at n.0 n.1
  where
    is : (z : Path) (n m : Node) → ◌≡◌ {A = Path × Node} (p, n) (z, m) → (source_at (image_of outside.read recording) z ≡ Some f → hello_at z f.time ≡ Some f.bytes) → hello_at p f.time ≡ Some f.bytes
    is z n m e wanted = subst (λ y. source_at (image_of outside.read recording) y ≡ Some f → hello_at y f.time ≡ Some f.bytes) (sym (ap (λ (x : Path × Node). x.0) e)) wanted h

    at : (n : Node) → IsIn recording (p, n) → hello_at p f.time ≡ Some f.bytes
    at n (inl e) = is out_mark n mark e (λ k. absurd (none_some f k))
    at n (inr (inl e)) = is (codes "in.txt") n input e (λ k. hello_is f k)
    at n (inr (inr (inl e))) = is (codes "out.txt") n (Regular (codes "hello\n") 1001 false) e (λ k. absurd (none_some f k))
    at n (inr (inr (inr e))) = absurd e

unfinished_rises : IsRising (places_in unfinished)
unfolding IsStrictlySortedBy
unfinished_rises = ((refl, (refl, (refl, tt))), ((refl, (refl, tt)), ((refl, tt), (tt, tt))))

recording_rises : IsRising (places_in recording)
unfolding IsStrictlySortedBy
recording_rises = ((refl, (refl, tt)), ((refl, tt), (tt, tt)))

-- the versions have one content alone
one_content : (a b : Bool) (x y : List ℕ) → (if a then Some (codes "hello\n") else None) ≡ Some x → (if b then Some (codes "hello\n") else None) ≡ Some y → x ≡ y
one_content true true x y h k = some_is x y (sym h ∙ k)
one_content false b x y h k = absurd (none_some x h)
one_content true false x y h k = absurd (none_some y k)

hello_differs : SumsDiffer hello_at
hello_differs p q t u x y h k same =
    one_content (bytes_eq p (codes "in.txt") && (t == 1000)) (bytes_eq q (codes "in.txt") && (u == 1000)) x y h k

-- ## Logs that aren't calls

-- the record was to be settled first
pub record_unsettled_no_call : (to_the_end : Bool) → KeepsSound outside (world_of recording) unmarked_early [] to_the_end → ⊥
record_unsettled_no_call to_the_end keeps =
    let sound = sound_image outside recording hello_at recording_rises (marked_sound recording hello_at recording_sources refl) in
    elim ((keeps.safe hello_at hello_differs sound unmarked_early [] refl no_record leaves_no_record).1 (codes "out.txt")) [
      | inl e ↦ some_is_none _ e
      | inr e ↦ true≢false (sym e.0)
    ]

-- the standing mark was to be left alone
pub anew_no_call : (to_the_end : Bool) → KeepsSound outside (world_of unfinished) marked_anew [] to_the_end → ⊥
anew_no_call to_the_end keeps =
    let sound = sound_image outside unfinished hello_at unfinished_rises (marked_sound unfinished hello_at unfinished_sources refl) in
    let image = image_of outside.read torn in
    let after = (keeps.safe hello_at hello_differs sound marked_anew [] refl torn leaves_torn_anew).0 in
    let h = after.holds (codes "out.txt") _ refl refl (no_products image _ (one_time (codes "in.txt") 1000)) refl in
    differ h.0 h.1 h.2
