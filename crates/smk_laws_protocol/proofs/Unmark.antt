-- A mark is removed once records and outputs are firm: every image with or without it is sound, with the same sources.
use Rattle.std.proofs.Common.{◌≡◌, ◌⊎◌, ◌<◌, ℕ, Bool, true, false, List, sym, ap, subst, inl, inr, arith, ◌∙◌, Option, Some, None}
use Rattle.std.specs.Prelude.{bytes_eq, if◌then◌else◌, ◌&&◌, not}
use Rattle.smk_world.specs.declared.event.Node.{Node}
use Rattle.smk_record.specs.declared.record.Record.{Record}
use Rattle.smk_record.specs.declared.record.Stamp.{Stamp}
use Rattle.smk_record.specs.declared.record.Stamp.TheVariants.{Made}
use Rattle.smk_world.specs.Trees.{is_path_text, Path, IsIn}
use Rattle.smk_store.specs.Trust.{Versions, HasVersion, Eased}
use Rattle.smk_record.specs.Records.{stamped}
use Rattle.smk_laws_protocol.proofs.View.{View, Clear, Sound, Chain, Holds}
use Rattle.smk_laws_protocol.proofs.Views.{EachImage, HasNames, reads, Leaves, view_of}
use Rattle.smk_world.specs.World.{World, IsRising}
use Rattle.smk_store.specs.Soundness.{Outside}
use Rattle.smk_laws_protocol.specs.Protocol.{OpenJob, record_of}
use Rattle.smk_laws_protocol.proofs.Rows.{now}
use Rattle.smk_laws_protocol.proofs.Between.{HasSources, IsUnnamed}
use Rattle.smk_base.proofs.Places.{same_place}
use Rattle.smk_laws_protocol.proofs.Moves.{without_mark, fresh_sound, eased_sound, less_source}
use Rattle.smk_laws_protocol.proofs.Places.{PlaceLaws, with_marked}
use Rattle.smk_laws_protocol.proofs.Marking.{MayUnmark, each_unmarked, unmark_or_same, by_bool}
use Rattle.smk_laws_protocol.proofs.Own.{Falls}

some_same : {A : Type 0} {a b : A} → Some a ≡ Some b → a ≡ b
some_same k = cc

still : (b c : Bool) → c ≡ false → (b && not c) ≡ false → b ≡ false
still b c h k = grind arith

not_below : (n : ℕ) → n < n → ⊥
not_below n h = omega arith

module _
    (o : Outside) (laws : PlaceLaws) (entry : World) (H : Versions) (e : Eased) (w w' : World) (j : OpenJob) (p : Path)
    (falls : Falls (record_of j p))
    -- the sources that it was made of are in H
    (recorded : (x : Path) (s : Stamp) → IsIn (stamped (record_of j p)) (x, s) → HasVersion H x s) where
  abbrev SoundBy : View → Type 0
  SoundBy v = Sound o.act H v e × HasSources o (now o entry) v

  -- the record stands, and the output holds what it vouches for where it is chained
  pub record IsReady (v : View) : Type 0 where
    pub sound : Sound o.act H v e
    pub sources : HasSources o (now o entry) v
    pub stands : v.has_record p ≡ true
    pub reads : v.record_at p ≡ Some (record_of j p)
    pub own : Chain v e (record_of j p) → Holds v o.act H p (record_of j p)

  sources_on : (v : View) → IsReady v → HasSources o (now o entry) (without_mark v p)
  sources_on v ready q =
      ap (λ b. if b then v.file q else None) (less_source v p e (record_of j p) ready.stands ready.reads q) ∙ ready.sources q

  eased_on : e p (record_of j p) → (v : View) (b : Bool) → v.marked p ≡ true → IsReady v → SoundBy (with_marked v p b)
  eased_on kept v b marked ready =
      unmark_or_same SoundBy v p marked (ready.sound, ready.sources)
      (eased_sound v p e (record_of j p) ready.stands ready.reads o.act H kept ready.sound recorded (λ chain whole. ready.own chain), sources_on v ready)
      b

  nobody :
      (v : View) → IsReady v → IsUnnamed o e j v →
      (h : Path) (r : Record) (q : Path) → Clear (without_mark v p) e h r → IsIn (stamped r) (q, Made j.serial) → ⊥
  nobody v ready unnamed h r q c i =
      by_bool (bytes_eq h p)
      (λ k. not_below j.serial (falls q j.serial (subst (λ x. IsIn (stamped x) (q, Made j.serial)) (same k) i)))
      (λ k. unnamed h q r (c.0, clear k c.1) i)
    where
      same : bytes_eq h p ≡ true → r ≡ record_of j p
      same k = some_same (sym (subst (λ x. v.record_at x ≡ Some r) (same_place h p k) c.0) ∙ ready.reads)

      clear : bytes_eq h p ≡ false → ((v.marked h && not (bytes_eq h p)) ≡ false) ⊎ (e h r) → (v.marked h ≡ false) ⊎ (e h r)
      clear k (inl m) = inl (still (v.marked h) (bytes_eq h p) k m)
      clear k (inr m) = inr m

  fresh_on : (v : View) (b : Bool) → v.marked p ≡ true → IsReady v × IsUnnamed o e j v → SoundBy (with_marked v p b)
  fresh_on v b marked ready =
      unmark_or_same SoundBy v p marked (ready.0.sound, ready.0.sources) (
        fresh_sound v p e (record_of j p) ready.0.stands ready.0.reads (nobody v ready.0 ready.1) o.act H ready.0.sound recorded (λ chain whole. ready.0.own chain),
        sources_on v ready.0,
      )
      b

  -- 5. the mark of a Restore, whose users are chained again; and that of any other job
  pub unmark_eased :
      e p (record_of j p) → is_path_text p ≡ true → (n : Node) → MayUnmark w w' p n → EachImage o.read w IsReady →
      (names : List Path) (g : Path → Option Node) → IsRising names → HasNames names g → HasNames names (reads w) → Leaves w' g → SoundBy (view_of o.read names g)
  unmark_eased kept text n un each = each_unmarked laws o.read w w' p IsReady SoundBy (eased_on kept) text n un each

  pub unmark_fresh :
      is_path_text p ≡ true → (n : Node) → MayUnmark w w' p n → EachImage o.read w (λ v. IsReady v × IsUnnamed o e j v) →
      (names : List Path) (g : Path → Option Node) → IsRising names → HasNames names g → HasNames names (reads w) → Leaves w' g → SoundBy (view_of o.read names g)
  unmark_fresh text n un each = each_unmarked laws o.read w w' p (λ v. IsReady v × IsUnnamed o e j v) SoundBy fresh_on text n un each
