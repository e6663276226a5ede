-- A step of the protocol is one over views.
use Rattle.std.proofs.Common.{◌≡◌, ◌⊎◌, ℕ, true, false, List, refl, sym, ap, subst, inl, inr, ◌∙◌, Some}
use Rattle.std.specs.Prelude.{IsTrue, ◌||◌, not, option_map, is_some}
use Rattle.smk_base.specs.Path.{is_path}
use Rattle.smk_base.proofs.Places.{and_first}
use Rattle.smk_base.proofs.Apart.{path_outside}
use Rattle.smk_world.specs.declared.recipe.Out.{Out}
use Rattle.smk_world.specs.declared.event.Call.{Call}
use Rattle.smk_world.specs.declared.event.Event.{Event}
use Rattle.smk_world.specs.World.{World}
use Rattle.smk_world.specs.Trees.{Path, IsIn, is_path_text, is_text, is_good, outs_of, kind_in}
use Rattle.smk_record.specs.declared.record.Member.{Member}
use Rattle.smk_record.specs.declared.record.Stamp.{Stamp}
use Rattle.smk_record.specs.declared.record.Stamp.TheVariants.{Time, Sum, Made}
use Rattle.smk_record.specs.declared.record.Record.{Record}
use Rattle.smk_record.specs.Records.{is_of_source}
use Rattle.smk_store.specs.Images.{Image, is_outside, is_file, seen}
use Rattle.smk_store.specs.Soundness.{Outside}
use Rattle.smk_store.specs.Trust.{content_stamp}
use Rattle.smk_laws_protocol.specs.Protocol.{OpenJob, Phase, RunState, outputs, own, record_of, listed_of, as_ok, begun_with, IsApart as ImageApart, IsAtHand as ImageAtHand, MayBegin as ImageMayBegin, IsKept as ImageKept, HasSerial as ImageSerial, IsGood as ImageGood, IsWritten as ImageWritten, IsRecordOf, Moves as ImageMoves, MakeFolders, Mark, AllMarked, MakeRoom, Start, Wait, AllMade, Write, AllWritten, Drop, AllDropped, Unmark, Closes as ImageCloses, AllUnmarked, IsFree as ImageFree, HasAllMarks as ImageAllMarks, Besides as ImageBesides, Look, Lock, Settle, Spend, Protect, Step as ImageStep, Aside, Steady, Begin, Go, Close, Fail, FailWait}
use Rattle.smk_laws_protocol.proofs.View.{View, view, is_source}
use Rattle.smk_laws_protocol.proofs.Rows as rows
use Rattle.smk_laws_protocol.proofs.Rows.{now, IsApart, IsAtHand, MayBegin, HasSerial, IsKept, IsGood, IsWritten, Moves, Closes, IsFree, HasAllMarks, Besides, Step}
use Rattle.smk_laws_protocol.proofs.Basics.{each_on, clash}
use Rattle.smk_laws_protocol.proofs.Bridge.{view_is}
use Rattle.smk_laws_protocol.proofs.SoundViews.{source_is, source_at_is, flagless, some_file, whole_from, equal}
use Rattle.smk_store.proofs.Versions.{content_of_source}
use Rattle.smk_laws_protocol.proofs.Views.{reads}

outside_path : (p : Path) → IsTrue (is_path_text p) → IsTrue (is_outside p)
outside_path p h = ap not (path_outside p (and_first (is_path p) (is_text p) h))

-- ---- inputs that are at hand

at_hand : (o : Outside) (i : Image) (x : Path × Stamp) → ImageAtHand o i x → IsAtHand o (view i) x
at_hand o i (q, Time t) (inl h) = (flagless h.source, sym (source_at_is i q) ∙ ap (option_map flagless) h.stands, sym h.same)
at_hand o i (q, Time t) (inr h) = clash false h.same refl
at_hand o i (q, Sum t d) (inl h) = (flagless h.source, sym (source_at_is i q) ∙ ap (option_map flagless) h.stands, sym h.same)
at_hand o i (q, Sum t d) (inr h) = clash false h.same refl
at_hand o i (q, Made m) (inl h) = clash (is_of_source (content_stamp h.source)) (content_of_source h.source) (sym (ap is_of_source h.same))
at_hand o i (q, Made m) (inr h) = (
  h.speaker,
  h.by,
  (
    record { no_source = sym (source_is i q) ∙ h.speaks.no_source; holder = h.speaks.holder; clear = h.speaks.clear },
    equal h.by.made m h.same,
    whole_from i h.speaker (kind_in h.by.recipe h.speaker) h.whole,
    part h.part,
  ),
)
  where
    part : (q ≡ h.speaker) ⊎ IsTrue (is_file i q) → (q ≡ h.speaker) ⊎ IsTrue (is_some ((view i).file q))
    part (inl e) = inl e
    part (inr f) = inr (sym (some_file (i.node q)) ∙ f)

apart_to : (j k : OpenJob) → ImageApart j k → IsApart j k
apart_to j k h = (h.own_apart, h.not_read, h.reads_not)

module _ (o : Outside) (w : World) where
  -- of the view of the world as it reads
  now_is : view (seen o.read w) ≡ now o w
  now_is = view_is o.read w.names (reads w)

  kept_to : (j : OpenJob) (p : Path) → ImageKept o w j p → IsKept o w j p
  kept_to j p h =
      record {
        found = h.found;
        stands = subst (λ (v : View). v.record_at p ≡ Some h.found) now_is h.stands;
        unmarked = subst (λ (v : View). v.marked p ≡ false) now_is h.unmarked;
        kept = h.kept;
        again = h.again;
      }

  begin_to : (s : RunState) (j : OpenJob) → ImageMayBegin o s w j → MayBegin o s w j
  begin_to s j h =
      record {
        paths = each_on (λ p. IsTrue (is_path_text p)) (λ p. IsTrue (is_outside p)) outside_path (own j) h.paths;
        texts = h.paths;
        apart = h.apart;
        from_open = each_on (ImageApart j) (IsApart j) (apart_to j) s.jobs h.from_open;
        from_inputs = h.from_inputs;
        no_source = λ q is. h.no_source q (source_is (seen o.read w) q ∙ ap (λ v. is_source v q) now_is ∙ is);
        no_clash = λ q is over. h.no_clash q (subst (λ (v : View). (v.has_record q || v.marked q) ≡ true) (sym now_is) is) over;
        at_hand = each_on (ImageAtHand o (seen o.read w)) (IsAtHand o (now o w)) (λ x k. subst (λ v. IsAtHand o v x) now_is (at_hand o (seen o.read w) x k)) (begun_with j) h.at_hand;
        each_stamped = h.each_stamped;
        kept_own = h.kept_own;
      }

  serial_to : (s : RunState) (j : OpenJob) (top : ℕ) → ImageSerial o s w j top → HasSerial o s w j top
  serial_to s j top (inl h) = inl h
  serial_to s j top (inr h) = inr (h.0, each_on (ImageKept o w j) (IsKept o w j) (kept_to j) (outputs j) h.1, h.2)

  good_to : (out : Out) → ImageGood o w out → IsGood o w out
  good_to out h = subst (λ (v : View). IsTrue (is_good out.path out.kind (v.tree out.path))) now_is h

  written_to : (j : OpenJob) (p : Path) → ImageWritten o w j p → IsWritten o w j p
  written_to j p h =
      (subst (λ (v : View). v.record_at p ≡ Some (record_of j p)) now_is h.0, subst (λ (v : View). v.listed p ≡ listed_of j p (v.members p)) now_is h.1)

  moves_to : (j : OpenJob) (c : Call) (to : Phase) → ImageMoves o w j c to → Moves o w j c to
  moves_to j c to (MakeFolders p i) = rows.MakeFolders p i
  moves_to j c to (Mark p made h i) = rows.Mark p made h i
  moves_to j c to (AllMarked ps h there all) = rows.AllMarked ps h there all
  moves_to j c to (MakeRoom p h i) = rows.MakeRoom p h i
  moves_to j c to (Start command n h) = rows.Start command n h
  moves_to j c to (Wait n status h) = rows.Wait n status h
  moves_to j c to (AllMade ps h good all) = rows.AllMade ps h (each_on (ImageGood o w) (IsGood o w) good_to (outs_of j.recipe) good) all
  moves_to j c to (Write p bytes h i reads) =
      rows.Write p bytes h i (subst (λ (v : View). IsRecordOf o p bytes (record (record_of j p) { members = listed_of j p (v.members p) })) now_is reads)
  moves_to j c to (AllWritten ps h written all) = rows.AllWritten ps h (each_on (ImageWritten o w j) (IsWritten o w j) (written_to j) (outputs j) written) all
  moves_to j c to (Drop p h i) = rows.Drop p h i
  moves_to j c to (AllDropped ps h absent all) = rows.AllDropped ps h absent all
  moves_to j c to (Unmark p h i) = rows.Unmark p h i

  closes_to : (j : OpenJob) (c : Call) → ImageCloses o w j c → Closes o w j c
  closes_to j c (AllUnmarked ps h absent all) = rows.AllUnmarked ps h absent all

  free_to : (s : RunState) (p : Path) (r : Record) → ImageFree o s w p r → IsFree o s w p r
  free_to s p r h =
      record {
        recorded = subst (λ (v : View). v.record_at p ≡ Some r) now_is h.recorded;
        unmarked = subst (λ (v : View). v.marked p ≡ false) now_is h.unmarked;
        path = outside_path p h.path;
        text = h.path;
        from_own = h.from_own;
        from_inputs = h.from_inputs;
        no_more = subst (λ (v : View). (m : Member) → IsIn (v.members p) m → IsIn (v.listed p) m) now_is h.no_more;
      }

  marks_to : (ps : List Path) → ImageAllMarks o (seen o.read w) ps → HasAllMarks o (now o w) ps
  marks_to ps h = subst (λ v. HasAllMarks o v ps) now_is (record { marks = h.marks; notes = h.notes })

  besides_to : (s : RunState) (c : Call) → ImageBesides o s w c → Besides o s w c
  besides_to s c (Look _ is) = rows.Look c is
  besides_to s c (Lock _ is) = rows.Lock c is
  besides_to s c (Settle ps) = rows.Settle ps
  besides_to s c (Spend p r free) = rows.Spend p r (free_to s p r free)
  besides_to s c (Protect p r free) = rows.Protect p r (free_to s p r free)

  pub step_to : (s : RunState) (e : Event) (s' : RunState) → ImageStep o s w e s' → Step o s w e s'
  step_to s e s' (Aside _ nf b) = rows.Aside e nf (besides_to s e.call b)
  step_to s e s' (Steady _ ps nf none settles all) = rows.Steady e ps nf none settles (marks_to ps all)
  step_to s e s' (Begin _ j top nf steady may serial h first) = rows.Begin e j top nf steady (begin_to s j may) (serial_to s j top serial) h first
  step_to s e s' (Go _ js ks j phase jobs may moves) = rows.Go e js ks j phase jobs may (moves_to j e.call phase moves)
  step_to s e s' (Close _ js ks j jobs nf h) = rows.Close e js ks j jobs nf (closes_to j e.call h)
  step_to s e s' (Fail _ s2 f step) = rows.Fail e s2 f (step_to s (record e { call = as_ok e.call }) s2 step)
  step_to s e s' (FailWait _ x h) = rows.FailWait e x h
